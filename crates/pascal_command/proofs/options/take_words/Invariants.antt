use Rattle.std.proofs.Common.{◌≡◌, length, map, None, option_map}
use Rattle.pascal_command.specs.Wanted.{wanted_behind, wanted_in}
use Rattle.pascal_command.proofs.options.take_words.Given as goal

-- what is asked for so far, with what the words ask for that are left
abbrev pub invariant-loop-rest : goal.invariant-loop-rest
invariant-loop-rest l =
    wanted_behind l.command (wanted_in l.options) (option_map (λ option. option.now) l.before)
    (map (λ word. word.now) l.rest)
    ≡ wanted_behind l.command (wanted_in l.initial.options) None (map (λ word. word.now) l.initial.words)

abbrev pub decreases-loop-rest : goal.decreases-loop-rest
decreases-loop-rest l = length l.rest
