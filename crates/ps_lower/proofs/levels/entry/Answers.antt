use Rattle.std.proofs.Common.{◌≡◌, slice_get, subst}
use Rattle.ps_tree.specs.Checked.{program_in}
use Rattle.ps_tree.specs.Tree.{routine_at}
use Rattle.ps_lower_layout.specs.Frames.{entries, entry_offset}
use Rattle.ps_lower.specs.Levels.{is_reference_at}
use Rattle.ps_lower.proofs.levels.entry.Goals as goal

pub returns-clause-offset : goal.returns-clause-offset
returns-clause-offset c = subst (λ n. c.entry.result.offset ≡ entry_offset
    (routine_at (program_in c.args.level.now.checked.now) n) c.args.index) c.number_up.ensures c.entry.ensures.offset

pub returns-clause-reference : goal.returns-clause-reference
returns-clause-reference c = subst (λ n. c.entry.result.reference ≡ is_reference_at
    (slice_get (entries (routine_at (program_in c.args.level.now.checked.now) n)) c.args.index)) c.number_up.ensures
    c.entry.ensures.reference
