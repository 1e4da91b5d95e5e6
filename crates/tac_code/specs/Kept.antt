-- Where the operands of a call are kept. No public clause cites this module.
use Rattle.std.specs.Prelude.{ℕ, ◌≤◌, List, take}
use Rattle.tac_code.specs.declared.code.Kept.{Kept}
use Rattle.tac_code.specs.declared.code.Kept.TheVariants.{Few, Many}

-- the first of four, or those behind a pointer
abbrev pub kept_list : Kept → List ℕ
kept_list (Few few) = take few.count few.items
kept_list (Many list) = list.value.items

abbrev pub IsKept : Kept → Type 0
IsKept (Few few) = few.count ≤ 4
IsKept (Many list) = Unit {0}
