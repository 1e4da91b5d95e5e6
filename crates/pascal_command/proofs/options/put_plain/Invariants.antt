use Rattle.std.proofs.Common.{◌≡◌, ◌++◌, length, map}
use Rattle.pascal_command.specs.Options.{without_options}
use Rattle.pascal_command.specs.declared.options.Part.TheVariants.{Open}
use Rattle.pascal_command.proofs.options.put_plain.Given as goal

-- the words so far, with those that come of the words that are left
abbrev pub invariant-loop-rest : goal.invariant-loop-rest
invariant-loop-rest l =
    map (λ word. word.now) l.plain.items ++ without_options l.command l.part (map (λ word. word.now) l.rest)
    ≡ map (λ word. word.now) l.initial.plain.items
    ++ without_options l.command Open (map (λ word. word.now) l.initial.words)

abbrev pub decreases-loop-rest : goal.decreases-loop-rest
decreases-loop-rest l = length l.rest
