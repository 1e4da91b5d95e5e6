use Rattle.std.proofs.Common.{ℕ, map}
use Rattle.ps_check_names.specs.Sets.{Holds}
use Rattle.ps_check_names.specs.Marks.{number_of}
use Rattle.ps_check_names.proofs.MarkLemmas.{MarkedTo}
use Rattle.ps_check_names.proofs.numbers.number_all.Given as goal

-- the names so far are marked
abbrev pub invariant-loop-name : goal.invariant-loop-name
invariant-loop-name l = ((n : ℕ) → Holds l.fn.words.items n → Holds l.words.items n) × MarkedTo
    (map (λ v. v.items) l.names) (number_of l.fields) l.words.items l.name-index
