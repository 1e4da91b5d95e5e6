-- The parts of read and readln.
use Rattle.std.specs.Prelude.{ℕ, ℤ, pos, true, List, [], ◌∷◌, None}
use Rattle.ps_tree.specs.declared.tree.operators.Range.TheVariants.{Within}
use Rattle.tac_code.specs.declared.code.Base.TheVariants as base
use Rattle.tac_code.specs.declared.code.Instruction.{Instruction}
use Rattle.tac_code.specs.declared.code.Instruction.TheVariants as i
use Rattle.tac_rt.specs.declared.run_time.RunTime.TheVariants.{ReadCharacter, ReadNumber, ReadLine}
use Rattle.ps_lower_code.specs.Scopes.{Scope, beside, greatest, range_code, fitting_code}
use Rattle.ps_lower_code.specs.Scopes.{helper}

-- a character, a number, or the rest of a line from the input whose address is in t
abbrev pub character_taken : Scope → (low high : ℤ) → (line t : ℕ) → List Instruction
character_taken k low high line t = helper k ReadCharacter (t ∷ []) t ∷ i.CheckRange t (pos 0) greatest 9 line
    ∷ fitting_code true None t (Within low high) line

abbrev pub number_taken : Scope → (low high : ℤ) → (line t : ℕ) → List Instruction
number_taken k low high line t =
    i.Offset (beside t) base.Scratch 0 4 ∷ helper k ReadNumber (t ∷ beside t ∷ []) t
    ∷ i.CheckRange t (pos 0) (pos 2) 9 line ∷ i.CheckRange t (pos 0) (pos 1) 10 line ∷ i.CheckRange t (pos 0)
    (pos 0) 4 line
    ∷ i.Load t base.Scratch 0 ∷ range_code t low high 4 line

abbrev pub line_taken : Scope → (line t : ℕ) → List Instruction
line_taken k line t = helper k ReadLine (t ∷ []) t ∷ i.CheckRange t (pos 0) (pos 0) 9 line ∷ []
