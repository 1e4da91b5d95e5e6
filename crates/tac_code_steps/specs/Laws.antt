-- The laws of runs with their turns counted, and of stretches of words.
use Rattle.std.specs.Prelude.{◌≡◌, ℕ, ◌+◌, ◌≤◌, length}
use Rattle.behavior.specs.Transcripts.{Shown}
use Rattle.behavior.specs.Same.{Same}
use Rattle.tac_code.specs.Meaning.{Code}
use Rattle.tac_code.specs.Memory.{Words}
use Rattle.tac_code_steps.specs.Splices.{spliced}
use Rattle.tac_code_steps.specs.InTurns.{Setting, shows, ShowsInTurns}

-- a turn is an instruction
abbrev pub InTurnsIsSame : Type 0
InTurnsIsSame = (a : ℕ → Shown) (code : Code) (p : Setting) → ShowsInTurns a code p → Same a (shows code p)

-- two disjoint stretches may be replaced in either order
abbrev pub SplicesApart : Type 0
SplicesApart = (k j : ℕ) (xs ys ws : Words) → k + length xs ≤ j → spliced k xs (spliced j ys ws) ≡ spliced j ys
    (spliced k xs ws)

-- a stretch within another
abbrev pub SplicesWithin : Type 0
SplicesWithin = (k j : ℕ) (xs ys ws : Words) → j + length xs ≤ length ys → spliced (k + j) xs (spliced k ys ws)
    ≡ spliced k (spliced j xs ys) ws
