use Rattle.std.proofs.Common.{◌≡◌, length, map}
use Rattle.ps_scan.specs.Scanner.{find_word}
use Rattle.ps_scan.proofs.words.find.Given as goal

abbrev pub invariant-loop-table : goal.invariant-loop-table
invariant-loop-table l = find_word (map (λ e. (e.0.now, e.1)) l.table) l.word ≡ find_word
    (map (λ e. (e.0.now, e.1)) l.initial.table) l.word

abbrev pub decreases-loop-table : goal.decreases-loop-table
decreases-loop-table l = length l.table
