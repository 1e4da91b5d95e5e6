use Rattle.std.proofs.Common.{◌≡◌, ◌++◌, ◌∷◌, [], pos, OnOk, ap, subst, ◌∙◌}
use Rattle.ps_tree.specs.View.{structure_of}
use Rattle.tac_code.specs.declared.code.Instruction.TheVariants as i
use Rattle.tac_rt.specs.declared.run_time.RunTime.TheVariants.{CompareBytes}
use Rattle.ps_lower_code.specs.Scopes.{helper}
use Rattle.ps_lower_code.specs.Values.{text_length}
use Rattle.ps_lower.specs.Levels.{scope_of}
use Rattle.ps_lower.proofs.Arms.{behind}
use Rattle.ps_lower.proofs.helpers.compare_strings.Goals as goal

pub returns : goal.returns
returns c =
    subst (λ y. OnOk c.help.result (c.help.new.out ≡ c.args.out.now ++ i.Literal y
    (pos (text_length (structure_of c.args.e.now))) ∷ helper (scope_of c.args.level.now) CompareBytes
    (c.args.left ∷ c.args.right ∷ y ∷ []) c.args.to ∷ [])) c.beside-t.ensures.value
    (behind c.help.result c.help.new.out c.amount.new.out c.args.out.now
    (i.Literal c.beside-t.result (pos (text_length (structure_of c.args.e.now))) ∷ [])
    (helper (scope_of c.args.level.now) CompareBytes (c.args.left ∷ c.args.right ∷ c.beside-t.result ∷ []) c.args.to
    ∷ [])
    (c.in_ok-amount.ensures ∙ ap (λ n. c.args.out.now ++ i.Literal c.beside-t.result (pos n) ∷ [])
    c.text_length.ensures) c.help.ensures)
