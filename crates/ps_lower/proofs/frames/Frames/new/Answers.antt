use Rattle.std.proofs.Common.{◌≡◌, true, map, sym, subst}
use Rattle.ps_tree.specs.Checked.{program_in}
use Rattle.ps_tree.specs.Counts.{are_routines_within_limits}
use Rattle.ps_tree.specs.View.{routine_of}
use Rattle.ps_lower.specs.Tables.{AreTables}
use Rattle.ps_lower.proofs.Limits.{routines_keep}
use Rattle.ps_lower.proofs.frames.Frames.new.Goals as goal

pub tables-requires : goal.tables-requires
tables-requires c = subst (λ l. are_routines_within_limits (map routine_of l) ≡ true) (sym c.routines.ensures.routines)
    (routines_keep (program_in c.args.checked.now) c.routines.ensures.limits)

pub invariant_of-result : goal.invariant_of-result
invariant_of-result c = record {
  are = subst (λ l. AreTables c.in_ok-tables.tables.items (map routine_of l)) c.routines.ensures.routines
      c.in_ok-tables.ensures;
  limits = c.routines.ensures.limits;
}
