use Rattle.std.proofs.Common.{◌≡◌, ℕ, ◌+◌, ◌++◌, length}
use Rattle.risc_machine.specs.Step.{reg, word_at}
use Rattle.risc_emit_relation.specs.Walk.{walk}
use Rattle.risc_emit_laws.specs.Outcome.{line_of}
use Rattle.risc_emit_trail.proofs.walk.walked.Given as goal

-- the lines so far, with those that are still to come, are all
abbrev pub invariant-loop : goal.invariant-loop
invariant-loop l = (length l.trail ≡ l.counter)
    × ((n : ℕ) → l.counter + n ≡ l.most → walk (line_of l.image) (length l.machine.memory) l.most
    (word_at l.machine.memory) (reg l.machine 14) ≡ l.trail ++ walk (line_of l.image) (length l.machine.memory) n
    (word_at l.machine.memory) l.frame)
