use Rattle.std.proofs.Common.{ℕ, map}
use Rattle.ps_check_names.specs.Sets.{Holds}
use Rattle.ps_check_names.specs.Marks.{mark_of}
use Rattle.ps_check_names.proofs.MarkLemmas.{MarkedTo}
use Rattle.ps_check_names.proofs.marks.mark_all.Given as goal

-- the names so far are marked
abbrev pub invariant-loop-name : goal.invariant-loop-name
invariant-loop-name l = ((n : ℕ) → Holds l.fn.words.items n → Holds l.words.items n) × MarkedTo
    (map (λ v. v.items) l.names) (mark_of l.start) l.words.items l.name-index
