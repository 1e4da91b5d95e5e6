-- Pieces: the words of instructions before their places are known. Their count never depends on places, so places are
-- sums of counts.
use Rattle.std.specs.Prelude.{◌≡◌, ℕ, ◌+◌, ◌*◌, ◌/◌, ◌%◌, true, false, List, [], ◌∷◌, length, Some, pos}
use Rattle.risc_word.specs.declared.instr.Operation.TheVariants.{Add}
use Rattle.risc_word.specs.declared.instr.Operand.TheVariants.{Constant}
use Rattle.risc_word.specs.declared.instr.Condition.{Condition}
use Rattle.risc_word.specs.declared.instr.Condition.TheVariants.{Always}
use Rattle.risc_word.specs.declared.instr.Target.TheVariants.{Relative, Absolute}
use Rattle.risc_word.specs.declared.instr.Instr.{Instr}
use Rattle.risc_word.specs.declared.instr.Instr.TheVariants.{MoveTop, Operate, Branch}
use Rattle.risc_machine_laws.specs.View.{IsAt}
use Rattle.risc_machine_laws.specs.Numbers.{distance}
use Rattle.risc_emit_relation.specs.Context.{Context}

-- the first word of an instruction, of a routine, of a constant
pub data Label : Type 0 where
  AtPlace : (routine place : ℕ) → Label
  AtEntry : (routine : ℕ) → Label
  AtText : (routine place : ℕ) → Label

-- one word
pub data Piece : Type 0 where
  -- an instruction of the machine
  Plain : Instr → Piece
  -- a branch to a label if a condition holds
  Goes : Condition → Label → Piece
  -- if a condition holds, a branch to the stub, whose link has a row of the trap table: an error's number and line
  Fails : Condition → (number line : ℕ) → Piece
  -- a call of a routine of the program, whose link has a row of the call table: the line
  Enters : (routine line : ℕ) → Piece
  -- a call of a run-time routine
  Joins : (routine : ℕ) → Piece
  -- a call of the routine whose address a register holds, with its row
  EntersAt : (register line : ℕ) → Piece
  -- the two halves of a label's address into a register
  High : (register : ℕ) → Label → Piece
  Low : (register : ℕ) → Label → Piece

-- the place of a label, in words
abbrev pub label_place : Context → Label → ℕ
label_place c (AtPlace r k) = c.site r k
label_place c (AtEntry r) = c.entry r
label_place c (AtText r k) = c.constant r k

-- the instruction that a piece is at a place; the stub is at place 1
abbrev pub instr_at : Context → ℕ → Piece → Instr
instr_at c at (Plain i) = i
instr_at c at (Goes condition label) = Branch condition false (Relative (distance at (label_place c label)))
instr_at c at (Fails condition number line) = Branch condition true (Relative (distance at 1))
instr_at c at (Enters r line) = Branch Always true (Relative (distance at (c.entry r)))
instr_at c at (Joins r) = Branch Always true (Relative (distance at (c.entry r)))
instr_at c at (EntersAt q line) = Branch Always true (Absolute q)
instr_at c at (High q label) = MoveTop q (4 * label_place c label / 65536)
instr_at c at (Low q label) = Operate Add q q (Constant (pos (4 * label_place c label % 65536)))

-- its row in the tables, by the link
abbrev pub HasRow : Context → ℕ → Piece → Type 0
HasRow c at (Fails condition number line) = c.trap (4 * (at + 1)) ≡ Some (number, line)
HasRow c at (Enters r line) = c.line (4 * (at + 1)) ≡ Some line
HasRow c at (EntersAt q line) = c.line (4 * (at + 1)) ≡ Some line
HasRow c at _ = Unit {0}

-- the pieces are in the words one after the other, from a place on
abbrev pub Stands : Context → List ℕ → ℕ → List Piece → Type 0
Stands c words at [] = Unit {0}
Stands c words at (p ∷ ps) = IsAt words at (instr_at c at p) × HasRow c at p × Stands c words (at + 1) ps

-- What is left of an instruction's pieces at a place, up to the place of the next instruction.
pub record Left (c : Context) (words : List ℕ) (at : ℕ) (ps : List Piece) (next : ℕ) : Type 0 where
  pub stands : Stands c words at ps
  pub ends : next ≡ at + length ps
