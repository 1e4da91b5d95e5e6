use Rattle.std.proofs.Common.{◌≡◌, ◌≤◌, ◌∷◌, ◌++◌, pos}
use Rattle.tac_code.specs.declared.code.Instruction.TheVariants as i
use Rattle.ps_lower.specs.Sets.{filled_code}
use Rattle.ps_lower.proofs.sets.clear.Given as goal

abbrev pub invariant-loop-word : goal.invariant-loop-word
invariant-loop-word l = (l.word ≤ 8) × (l.out ≡ l.fn.out ++ i.Literal l.t (pos 0) ∷ filled_code l.t l.x l.word)
