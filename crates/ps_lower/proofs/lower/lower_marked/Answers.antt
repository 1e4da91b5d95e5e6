use Rattle.std.proofs.Common.{◌≡◌, true, map, sym, subst}
use Rattle.ps_tree.specs.Checked.{Parts, program_in}
use Rattle.ps_tree.specs.Counts.{are_small}
use Rattle.ps_tree.specs.View.{type_of}
use Rattle.ps_lower.proofs.Limits.{domains_keep}
use Rattle.ps_lower_code.specs.Programs.{tac_of}
use Rattle.ps_lower.specs.Refused.{instructions_of, IsRefused}
use Rattle.ps_lower.proofs.Counting.{passed_on}
use Rattle.ps_lower.proofs.lower.lower_marked.Goals as goal

pub object_sizes-requires : goal.object_sizes-requires
object_sizes-requires c = subst (λ l. are_small (map type_of l) ≡ true) (sym c.domains.ensures.domains)
    (domains_keep (program_in c.args.checked.now) c.domains.ensures.limits)

pub returns-in_err-program-clause-refused : goal.returns-in_err-program-clause-refused
returns-in_err-program-clause-refused c =
    passed_on c.from_residual-in_err-program.result _
    (instructions_of (map (tac_of (program_in c.args.checked.now)) (program_in c.args.checked.now).routines))
    c.from_residual-in_err-program.ensures.1
    (subst (λ (x : Parts). IsRefused c.in_err-program.field-0.0
    (instructions_of (map (tac_of (program_in x)) (program_in x).routines))) c.in_ok-frames.ensures
    c.in_err-program.ensures.refused)
