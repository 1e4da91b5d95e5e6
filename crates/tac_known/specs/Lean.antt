-- Code in which tests that can't fail have the number 0 instead of an error's: what is known at each place, and what
-- each instruction becomes.
use Rattle.std.specs.Prelude.{◌≡◌, ℕ, suc, ◌+◌, ◌-◌, ◌≤◌, ◌&&◌, Bool, true, false, List, length, map}
use Rattle.std.specs.Prelude.{slice_get, slice_set, Some, pos}
use Rattle.tac_code.specs.declared.code.Instruction.{Instruction}
use Rattle.tac_code.specs.declared.code.Instruction.TheVariants.{Literal, Copy, Arithmetic, Bits, Compare, CheckRange}
use Rattle.tac_code.specs.declared.code.Instruction.TheVariants.{CheckPointer, Text, Offset, Index, RoutineValue, Load}
use Rattle.tac_code.specs.declared.code.Instruction.TheVariants.{Store, LoadByte, StoreByte, Jump, JumpBack, Branch}
use Rattle.tac_code.specs.declared.code.Instruction.TheVariants.{BranchBack, Return, Trap, Take, Put}
use Rattle.tac_code.specs.declared.code.Instruction.TheVariants.{New, End}
use Rattle.std.specs.Ordering.{int_eq}
use Rattle.tac_code.specs.declared.code.Operand.{Operand}
use Rattle.tac_code.specs.declared.code.Operand.TheVariants as operand
use Rattle.tac_code.specs.declared.code.Relation.{Relation}
use Rattle.tac_code.specs.declared.code.Relation.TheVariants.{NotEqual}
use Rattle.tac_code.specs.declared.code.TacRoutine.{TacRoutine}
use Rattle.tac_code.specs.Meaning.{Code, routines}
use Rattle.tac_pass.specs.Follows.{SameHeading}
use Rattle.tac_pass_laws.specs.Passed.{most_temporaries}
use Rattle.tac_known.specs.declared.kind.Kind.{Kind}
use Rattle.tac_known.specs.declared.kind.Kind.TheVariants.{Unknown, NotNil, Between}
use Rattle.tac_known.specs.Kinds.{kind_in, operand_kind, met, computed_kind, bits_kind, fits, lies_within, is_pointer}
use Rattle.tac_known.specs.declared.order.Orders.{Orders}
use Rattle.tac_known.specs.Orders.{no_orders, sharp, say_all, OrdersLead}
use Rattle.tac_known.specs.Kinds.{opposite, related_kind, say_no_more, forget}

-- ---- what an instruction becomes

abbrev pub number_unless : Bool → ℕ → ℕ
number_unless true error = 0
number_unless false error = error

-- Whether the result of a comparison equals its left operand: that a number is not 0, if the number is 0 or 1.
abbrev pub is_nought : Operand → Bool
is_nought (operand.Number z) = int_eq z (pos 0)
is_nought (operand.Temporary u) = false

abbrev pub is_unequal : Relation → Bool
is_unequal NotEqual = true
is_unequal _ = false

abbrev pub is_truth : List Kind → Relation → ℕ → Operand → Bool
is_truth kinds relation a b = is_unequal relation && (is_nought b && lies_within (kind_in kinds a) (pos 0) (pos 1))

abbrev pub copied_if : Bool → Relation → (t a : ℕ) → Operand → Instruction
copied_if true relation t a b = Copy t a
copied_if false relation t a b = Compare relation t a b

abbrev pub lean : List Kind → Instruction → Instruction
lean kinds (Arithmetic operator t a b error line) =
    Arithmetic operator t a b (number_unless (fits operator (kind_in kinds a) (operand_kind kinds b)) error) line
lean kinds (Compare relation t a b) = copied_if (is_truth kinds relation a b) relation t a b
lean kinds (CheckRange a low high error line) =
    CheckRange a low high (number_unless (lies_within (kind_in kinds a) low high) error) line
lean kinds (CheckPointer a error line) = CheckPointer a (number_unless (is_pointer (kind_in kinds a)) error) line
lean kinds (Index t b x low high width error line) =
    Index t b x low high width (number_unless (lies_within (kind_in kinds x) low high) error) line
lean kinds i = i

-- the same by a test and a change
abbrev pub is_vain : List Kind → Instruction → Bool
is_vain kinds (Arithmetic operator t a b error line) = fits operator (kind_in kinds a) (operand_kind kinds b)
is_vain kinds (Compare relation t a b) = is_truth kinds relation a b
is_vain kinds (CheckRange a low high error line) = lies_within (kind_in kinds a) low high
is_vain kinds (CheckPointer a error line) = is_pointer (kind_in kinds a)
is_vain kinds (Index t b x low high width error line) = lies_within (kind_in kinds x) low high
is_vain kinds _ = false

abbrev pub cleared : Instruction → Instruction
cleared (Arithmetic operator t a b error line) = Arithmetic operator t a b 0 line
cleared (Compare relation t a b) = Copy t a
cleared (CheckRange a low high error line) = CheckRange a low high 0 line
cleared (CheckPointer a error line) = CheckPointer a 0 line
cleared (Index t b x low high width error line) = Index t b x low high width 0 line
cleared i = i

abbrev pub cleared_if : Bool → Instruction → Instruction
cleared_if true i = cleared i
cleared_if false i = i

-- ---- what is known behind it, where the next place follows

abbrev pub known : List Kind → ℕ → Kind → List Kind
known kinds t k = slice_set kinds t k

abbrev pub behind : List Kind → Instruction → List Kind
behind kinds (Literal t z) = known kinds t (Between z z)
behind kinds (Copy t a) = known kinds t (kind_in kinds a)
behind kinds (Arithmetic operator t a b error line) =
    known kinds t (computed_kind operator (kind_in kinds a) (operand_kind kinds b))
behind kinds (Bits operator t a b) = known kinds t (bits_kind operator (kind_in kinds a) (operand_kind kinds b))
behind kinds (Compare relation t a b) = known kinds t (Between (pos 0) (pos 1))
behind kinds (CheckRange a low high error line) = known kinds a (met (kind_in kinds a) low high)
behind kinds (CheckPointer a error line) = known kinds a NotNil
behind kinds (Text t bytes) = known kinds t Unknown
behind kinds (Offset t b n extent) = known kinds t Unknown
behind kinds (Index t b x low high width error line) =
    known (known kinds x (met (kind_in kinds x) low high)) t Unknown
behind kinds (RoutineValue t r) = known kinds t Unknown
behind kinds (Load t b n) = known kinds t Unknown
behind kinds (LoadByte t b n) = known kinds t Unknown
behind kinds (Take t) = known kinds t Unknown
behind kinds (New t object_type line) = known kinds t NotNil
behind kinds (Store b n a) = kinds
behind kinds (StoreByte b n a) = kinds
behind kinds (Put a) = kinds
behind kinds _ = map forget kinds

-- if a branch finds that a relation holds, or that it doesn't
abbrev pub where_related : Relation → ℕ → Operand → List Kind → List Kind
where_related relation a b kinds = known kinds a (related_kind relation (kind_in kinds a) (operand_kind kinds b))

-- ---- bodies

-- by places of a body: what is known there
abbrev pub Leads : (ℕ → List Kind) → Orders → ℕ → Instruction → Type 0
Leads at orders place (Jump n) = say_no_more (at place) (at (suc place + n)) ≡ true
Leads at orders place (JumpBack n) = say_no_more (at place) (at (place - n)) ≡ true
Leads at orders place (Branch relation a b n) =
    (say_no_more (where_related (sharp orders relation a b) a b (at place)) (at (suc place + n)) ≡ true)
    × (say_no_more (where_related (sharp orders (opposite relation) a b) a b (at place)) (at (suc place)) ≡ true)
Leads at orders place (BranchBack relation a b n) =
    (say_no_more (where_related (sharp orders relation a b) a b (at place)) (at (place - n)) ≡ true)
    × (say_no_more (where_related (sharp orders (opposite relation) a b) a b (at place)) (at (suc place)) ≡ true)
Leads at orders place (Return a) = Unit {0}
Leads at orders place (Trap error line) = Unit {0}
Leads at orders place End = Unit {0}
Leads at orders place i = say_no_more (behind (at place) i) (at (suc place)) ≡ true

pub record LeanBody (body body' : List Instruction) : Type 0 where
  pub at : ℕ → List Kind
  pub ord : ℕ → Orders
  -- nothing is known at the begin
  pub begins : (u : ℕ) → kind_in (at 0) u ≡ Unknown
  pub unordered : say_all no_orders (ord 0) ≡ true
  pub as_many : length body' ≡ length body
  pub there : (place : ℕ) (i : Instruction) → slice_get body place ≡ Some i
      → slice_get body' place ≡ Some (lean (at place) i)
  pub leads : (place : ℕ) (i : Instruction) → slice_get body place ≡ Some i → Leads at (ord place) place i
  pub orders_lead : (place : ℕ) (i : Instruction) → slice_get body place ≡ Some i → OrdersLead at ord place i

-- ---- code

-- for whose temporaries there is room
pub record LeanRoutine (routine routine' : TacRoutine) : Type 0 where
  pub heading : SameHeading routine routine'
  pub temporaries : routine'.temporaries ≤ most_temporaries routine
  pub body : LeanBody routine.body routine'.body

-- each routine of the old code has one of the new code in its place
pub record IsLean (old new : Code) : Type 0 where
  pub program : length new.program ≡ length old.program
  pub run_time : length new.run_time ≡ length old.run_time
  pub objects : new.objects ≡ old.objects
  pub routines : (r : ℕ) (routine : TacRoutine) → slice_get (routines old) r ≡ Some routine → (routine' : TacRoutine)
      × (slice_get (routines new) r ≡ Some routine') × LeanRoutine routine routine'
