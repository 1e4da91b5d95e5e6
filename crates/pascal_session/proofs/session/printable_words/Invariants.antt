use Rattle.std.proofs.Common.{◌≡◌, ◌++◌, length, map, string_bytes}
use Rattle.ps_diagnostic.specs.Printable.{printable}
use Rattle.pascal_session.proofs.session.printable_words.Given as goal

-- the words so far, with those that are left, are all words as they are shown
abbrev pub invariant-loop-rest : goal.invariant-loop-rest
invariant-loop-rest l = map string_bytes l.shown.items ++ map (λ word. printable word.now) l.rest
    ≡ map (λ word. printable word.now) l.initial.words

abbrev pub decreases-loop-rest : goal.decreases-loop-rest
decreases-loop-rest l = length l.rest
