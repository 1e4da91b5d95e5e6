-- Lines as 16 numbers and a count of those that are reported; the others are 0.
use Rattle.std.specs.Prelude.{◌≡◌, ℕ, ◌-◌, ◌≤◌, List, ◌++◌, length, take, replicate}
use Rattle.risc_emit_trail.specs.declared.lines.Trail.TheInside.{Inside}

abbrev pub lines_of : Inside → List ℕ
lines_of a = take a.count a.lines

abbrev pub with_lines : List ℕ → Inside
with_lines lines = record { lines = lines ++ replicate (16 - length lines) 0; count = length lines }

pub record IsFilled (a : Inside) : Type 0 where
  pub few : a.count ≤ 16
  pub back : with_lines (lines_of a) ≡ a

abbrev pub given_back : (a : Inside) → IsFilled a → with_lines (lines_of a) ≡ a
given_back a filled = filled.back
