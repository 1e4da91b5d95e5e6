use Rattle.std.proofs.Common.{ℕ, ◌<◌, length}
use Rattle.ps_check_names.specs.Sets.{Holds}
use Rattle.ps_check_names.proofs.WideLemmas.{JoinedTo}
use Rattle.ps_check_names.proofs.sets.join.Given as goal

-- the words so far are joined
abbrev pub invariant-loop-index : goal.invariant-loop-index
invariant-loop-index l = (length l.others < length l.words.items)
    × ((n : ℕ) → Holds l.fn.words.items n → Holds l.words.items n) × JoinedTo l.others l.words.items l.index
