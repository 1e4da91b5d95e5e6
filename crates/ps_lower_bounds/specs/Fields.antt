-- How large the offsets and byte counts in a program's code are.
use Rattle.std.specs.Prelude.{◌≡◌, ℕ, ◌<◌, true, List, [], ◌∷◌, length}
use Rattle.ps_tree.specs.Counts.{is_within_limits}
use Rattle.ps_tree.specs.Tree.{Program, routine_at}
use Rattle.tac_code.specs.declared.code.Instruction.{Instruction}
use Rattle.tac_code.specs.declared.code.Instruction.TheVariants.{Offset, Index, Load, Store, LoadByte, StoreByte}
use Rattle.ps_lower_code.specs.Routines.{scope_of, routine_code}
use Rattle.ps_lower_code.specs.Fits.{StatementsFit}
use Rattle.ps_lower_bounds.specs.Forms.{IsSmall}

-- the offset of an address, the bytes that are meant, the width of a component
abbrev pub HasSmallOffsets : Instruction → Type 0
HasSmallOffsets (Offset t b n extent) = IsSmall n × IsSmall extent
HasSmallOffsets (Index t b i low high width error line) = IsSmall width
HasSmallOffsets (Load t b n) = IsSmall n
HasSmallOffsets (Store b n t) = IsSmall n
HasSmallOffsets (LoadByte t b n) = IsSmall n
HasSmallOffsets (StoreByte b n t) = IsSmall n
HasSmallOffsets _ = Unit {0}

abbrev pub HaveSmallOffsets : List Instruction → Type 0
HaveSmallOffsets [] = Unit {0}
HaveSmallOffsets (i ∷ rest) = HasSmallOffsets i × HaveSmallOffsets rest

-- in a program within the limits, for a routine whose statements fit
abbrev pub OffsetsAreSmall : Type 0
OffsetsAreSmall =
    (program : Program) → is_within_limits program ≡ true → (number : ℕ) → number < length program.routines
    → StatementsFit (scope_of program (routine_at program number)) [] (routine_at program number).body
    → HaveSmallOffsets (routine_code program (routine_at program number))
