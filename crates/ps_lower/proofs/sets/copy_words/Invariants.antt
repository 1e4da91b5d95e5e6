use Rattle.std.proofs.Common.{◌≡◌, ◌≤◌, ◌++◌}
use Rattle.ps_lower_code.specs.Scopes.{words_code}
use Rattle.ps_lower.proofs.sets.copy_words.Given as goal

abbrev pub invariant-loop-word : goal.invariant-loop-word
invariant-loop-word l = (l.word ≤ 8) × (l.out ≡ l.fn.out ++ words_code l.to l.offset l.from l.start l.spare l.word)
