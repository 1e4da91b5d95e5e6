-- What code is made from: temporaries by their classes, frames by their levels, and the pieces that all constructs
-- share.
use Rattle.std.specs.Prelude.{ℕ, zero, suc, ◌+◌, ◌%◌, ℤ, pos, negsuc, Bool, true, false, ◌&&◌, nat_eq, nat_lt}
use Rattle.std.specs.Prelude.{if◌then◌else◌}
use Rattle.std.specs.Prelude.{List, [], ◌∷◌, ◌++◌, length, Option, Some, None, get_or, slice_get, int_le}
use Rattle.ps_tree.specs.declared.tree.operators.Range.{Range}
use Rattle.ps_tree.specs.declared.tree.operators.Range.TheVariants.{Any, Within}
use Rattle.ps_tree.specs.Tree.{Program, Routine, routine_at}
use Rattle.ps_meaning.specs.Operators.{is_between, is_equal}
pub use Rattle.ps_meaning.specs.Operators.{least, greatest}
use Rattle.tac_code.specs.declared.code.Operand.{Operand}
use Rattle.tac_code.specs.declared.code.Operand.TheVariants as operand
use Rattle.tac_code.specs.declared.code.Base.{Base}
use Rattle.tac_code.specs.declared.code.Base.TheVariants as base
use Rattle.tac_code.specs.declared.code.Instruction.{Instruction}
use Rattle.tac_code.specs.declared.code.Instruction.TheVariants.{Literal, Copy, CheckRange, Offset, Load, Store, Call}
use Rattle.tac_code.specs.declared.code.Instruction.TheVariants.{Trap, Bits, BranchBack}
use Rattle.tac_code.specs.declared.code.BitOperator.TheVariants.{Plus}
use Rattle.tac_code.specs.declared.code.Relation.TheVariants.{NotEqual}
use Rattle.tac_rt.specs.declared.run_time.RunTime.{RunTime}
use Rattle.tac_rt.specs.declared.run_time.RunTime.TheVariants.{CopyWords}
use Rattle.tac_rt.specs.Numbers.{run_time_number}
use Rattle.ps_lower_layout.specs.Frames.{Kind, entries, entry_offset, link_offset, input_offset}

-- ---- temporaries
-- Code at depth d writes no temporary below d. What is live across a call is in an odd one, everything else in an even
-- one.
abbrev pub even_from : ℕ → ℕ
even_from d = d + d % 2

abbrev pub odd_from : ℕ → ℕ
odd_from d = d + (d + 1) % 2

-- for a value that is held while code runs, which calls or not
abbrev pub held : Bool → ℕ → ℕ
held true d = odd_from d
held false d = even_from d

-- the same, if either class will do when nothing calls
abbrev pub kept : Bool → ℕ → ℕ
kept true d = odd_from d
kept false d = d

-- the next of the same class
abbrev pub beside : ℕ → ℕ
beside t = suc (suc t)

-- a value, moved to where it is wanted
abbrev pub moved : (from to : ℕ) → List Instruction
moved from to = if nat_eq from to then [] else Copy to from ∷ []

-- ---- numbers

-- every integer is in the range
abbrev pub is_any : ℤ → ℤ → Bool
is_any low high = is_equal low least && is_equal high greatest

abbrev pub range_code : (temporary : ℕ) (low high : ℤ) (number line : ℕ) → List Instruction
range_code t low high number line = if is_any low high then [] else CheckRange t low high number line ∷ []

-- a known number needs no test if it is in the range
abbrev pub check_code : Option ℤ → (temporary : ℕ) (low high : ℤ) (number line : ℕ) → List Instruction
check_code None t low high number line = range_code t low high number line
check_code (Some z) t low high number line = if is_between low z high then [] else CheckRange t low high number line
    ∷ []

-- every byte is in the range
abbrev pub has_bytes : ℤ → ℤ → Bool
has_bytes low high = int_le low (pos 0) && int_le (pos 255) high

-- the same for the range that the tree requires: error 4. A value that is known to be a byte needs no test if the range
-- has all bytes.
abbrev pub fitting_code : (byte : Bool) → Option ℤ → (temporary : ℕ) → Range → (line : ℕ) → List Instruction
fitting_code byte literal t Any line = []
fitting_code byte literal t (Within low high) line = if byte && has_bytes low high then []
    else check_code literal t low high 4 line

-- and for an operand that need not be in a temporary
abbrev pub operand_check : Option ℤ → (temporary : ℕ) (low high : ℤ) (number line : ℕ) → List Instruction
operand_check None t low high number line = range_code t low high number line
operand_check (Some z) t low high number line = if is_between low z high then [] else Trap number line ∷ []

-- a right operand: a known number, or what a temporary holds
abbrev pub operand_of : Option ℤ → (temporary : ℕ) → Operand
operand_of None t = operand.Temporary t
operand_of (Some z) t = operand.Number z

-- the code of a right operand: none for a known number
abbrev pub unless_known : Option ℤ → List Instruction → List Instruction
unless_known None code = code
unless_known (Some z) code = []

-- ---- variables

-- an offset in bytes from a base
pub record Site : Type 0 where
  pub base : Base
  pub offset : ℕ

-- The context of an expression or a statement: a routine, whose number begins the chain of those enclosing it, and
-- records that `with` opened, innermost first.
pub record Scope : Type 0 where
  pub program : Program
  pub chain : List ℕ
  pub opened : List Site

abbrev pub routine_up : Scope → ℕ → Routine
routine_up k up = routine_at k.program (get_or k.chain up 0)

abbrev pub kind_at : Scope → (up index : ℕ) → Option Kind
kind_at k up i = slice_get (entries (routine_up k up)) i

-- the frame `up` levels out is the program block's
abbrev pub is_outermost : Scope → ℕ → Bool
is_outermost k up = nat_eq (suc up) (length k.chain)

-- From the frame at an address in t to the one `up` levels further out. Each level's link is where that level's routine
-- has it.
abbrev pub hops : Scope → (t level up : ℕ) → List Instruction
hops k t level zero = []
hops k t level (suc up) = Load t (base.Temporary t) (link_offset (routine_up k level)) ∷ hops k t (suc level) up

-- The same with a loop, which counts the levels left in the next temporary of the class: all links have one offset.
abbrev pub hops_in_turns : Scope → (t up : ℕ) → List Instruction
hops_in_turns k t up =
    Literal (beside t) (pos up)
    ∷ Load t (base.Temporary t) (link_offset (routine_up k 1))
    ∷ Bits Plus (beside t) (beside t) (operand.Number (negsuc 0))
    ∷ BranchBack NotEqual (beside t) (operand.Number (pos 0)) 2 ∷ []

-- The loop is shorter from five levels on. No routine is within 16 others.
abbrev pub is_far : ℕ → Bool
is_far up = nat_lt 4 up && nat_lt up 16

-- from the frame at an address in t to the one `up` levels further out, by whichever is shorter
abbrev pub way_out : Scope → (t up : ℕ) → List Instruction
way_out k t up = if is_far up then hops_in_turns k t up else hops k t 1 up

-- code that reaches the frame `up` levels out, and the base from which its parts are then addressed
abbrev pub frame_code : Scope → (t up : ℕ) → List Instruction
frame_code k t zero = []
frame_code k t (suc up) = if is_outermost k (suc up) then [] else Load t base.Frame (link_offset (routine_up k 0))
    ∷ way_out k t up

abbrev pub frame_base : Scope → (t up : ℕ) → Base
frame_base k t zero = base.Frame
frame_base k t (suc up) = if is_outermost k (suc up) then base.Program else base.Temporary t

-- the same, as an address in t
abbrev pub link_code : Scope → (t up : ℕ) → List Instruction
link_code k t zero = Offset t base.Frame 0 0 ∷ []
link_code k t (suc up) = if is_outermost k (suc up) then Offset t base.Program 0 0 ∷ []
    else Load t base.Frame (link_offset (routine_up k 0)) ∷ way_out k t up

-- a procedural or functional parameter: its routine in t, and its frame's address in the next temporary of the class
abbrev pub formal_code : Scope → (t up index : ℕ) → List Instruction
formal_code k t up i =
    frame_code k t up
    ++ Load (beside t) (frame_base k t up) (entry_offset (routine_up k up) i + 4)
    ∷ Load t (frame_base k t up) (entry_offset (routine_up k up) i) ∷ []

abbrev pub site_code : (t : ℕ) → Site → (extent : ℕ) → List Instruction
site_code t s extent = Offset t s.base s.offset extent ∷ []

abbrev pub scratch_site : ℕ → Site
scratch_site x = record { base = base.Scratch; offset = x }

-- the words that record what was taken ahead of the input
abbrev pub input_site : Scope → Site
input_site k = record { base = base.Program; offset = input_offset (routine_at k.program 0) }

-- ---- run-time routines, numbered after the program's own

-- such calls aren't reported among the open ones, so any line will do
abbrev pub helper : Scope → RunTime → (operands : List ℕ) → (to : ℕ) → Instruction
helper k routine operands t = Call t (length k.program.routines + run_time_number routine) operands 1

-- this many words from one place to another, one by one; v is used
unfoldable pub words_code : (to : Base) (o : ℕ) (from : Base) (p v words : ℕ) → List Instruction
words_code to o from p v zero = []
words_code to o from p v (suc n) = Load v from p ∷ Store to o v ∷ words_code to (o + 4) from (p + 4) v n

-- the words at the address in `from` are copied to the address in `to`; t is used
abbrev pub copy_code : Scope → (to from t : ℕ) (bytes : ℕ) → List Instruction
copy_code k to from t n = Literal t (pos n) ∷ helper k CopyWords (to ∷ from ∷ t ∷ []) t ∷ []
