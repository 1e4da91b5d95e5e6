use Rattle.std.proofs.Common.{length, ◌==◌, ◌++◌, option_map, sym, ap, ◌∙◌}
use Rattle.ps_tree.specs.TypeView.{type_of}
use Rattle.ps_check_names.proofs.CodeLemmas.{some_code, routine_added}
use Rattle.ps_check_names.proofs.sections.add_routine.Goals as goal

pub returns-clause-words : goal.returns-clause-words
returns-clause-words c =
    λ _. routine_added c.args.sections.now (option_map type_of c.args.result_type.now) c.args.code.now.items
    c.add_result.new.code.items c.extend_from_slice.new.self.items
    (some_code c.args.sections.now (ap (λ l. length l == 0) (sym c.code.ensures) ∙ sym c.is_empty.ensures
    ∙ c.if-is_empty.false))
    (c.in_ok-add_result.ensures.words c.if-not-branch.false)
    (c.in_ok-extend_from_slice.ensures.items ∙ ap (λ l. c.add_result.new.code.items ++ l) c.code-2.ensures)
