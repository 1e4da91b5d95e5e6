use Rattle.std.proofs.Common.{◌≡◌, [], ◌∷◌, ◌++◌, OnOk, subst}
use Rattle.tac_rt.specs.declared.run_time.RunTime.TheVariants.{IsIncluded}
use Rattle.ps_lower_code.specs.Scopes.{helper}
use Rattle.ps_lower.specs.Levels.{scope_of}
use Rattle.ps_lower.specs.Sets.{offsets_code}
use Rattle.ps_lower.proofs.Arms.{behind}
use Rattle.ps_lower.proofs.sets.includes.Goals as goal

pub returns : goal.returns
returns c =
    subst (λ s. OnOk c.help.result (c.help.new.out ≡ c.args.out.now
    ++ (offsets_code c.args.t s c.args.x ++ helper (scope_of c.args.level.now) IsIncluded (s ∷ c.args.t ∷ []) c.args.t
    ∷ []))) c.beside-second.ensures.value
    (behind c.help.result c.help.new.out c.offsets.new.out c.args.out.now _ _ c.in_ok-offsets.ensures
    c.help.ensures)
