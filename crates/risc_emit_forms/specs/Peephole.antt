-- Words that the instructions before and after a place make unnecessary. A test, if the flags are those of a temporary:
-- after an instruction whose last word sets them by its result, if no jump leads there. And the sum of an address, if a
-- displacement is deferred: an index leaves it out, and the load by it adds it.
use Rattle.std.specs.Prelude.{ℕ, zero, suc, ◌+◌, ◌-◌, ◌*◌, Bool, true, false, ◌&&◌, not, nat_eq, nat_le, nat_lt, List}
use Rattle.std.specs.Prelude.{[], if◌then◌else◌, ◌∷◌, length, slice_get, slice_set, get_or, replicate, Option, Some}
use Rattle.std.specs.Prelude.{None, ℤ, pos, negsuc, ◌+ℤ◌, neg_ℤ, int_lt}
use Rattle.risc_machine.specs.declared.limits.TheConstants.{ADDRESSES}
use Rattle.tac_code.specs.declared.code.TheConstants.{NUMBER_LIMIT}
use Rattle.tac_code.specs.declared.code.Operator.{Operator}
use Rattle.tac_code.specs.declared.code.Operator.TheVariants.{Add, Subtract, Multiply, Divide, Modulo}
use Rattle.tac_code.specs.declared.code.Instruction.{Instruction}
use Rattle.tac_code.specs.declared.code.Instruction.TheVariants.{Arithmetic, Bits, Index, Load, LoadByte, Jump}
use Rattle.tac_code.specs.declared.code.Instruction.TheVariants.{JumpBack, Branch, BranchBack}
use Rattle.tac_code.specs.declared.code.TacRoutine.{TacRoutine}
use Rattle.tac_code.specs.Meaning.{routines}
use Rattle.tac_code.specs.declared.code.Base.{Base}
use Rattle.tac_code.specs.declared.code.Base.TheVariants as base
use Rattle.risc_alloc.specs.declared.homes.Home.{Home}
use Rattle.risc_alloc.specs.declared.homes.Home.TheVariants.{Slot, Reg}
use Rattle.risc_emit_relation.specs.Context.{Context, home}

-- the word that writes a product is followed by its test, if it has one, and a quotient is rounded by a branch
abbrev pub sets_flags : Operator → Bool
sets_flags Add = true
sets_flags Subtract = true
sets_flags Multiply = false
sets_flags Divide = false
sets_flags Modulo = true

-- the temporary whose register determines N and Z after an instruction
abbrev pub flagged_by : Instruction → Option ℕ
flagged_by (Arithmetic operator t a b error line) = if sets_flags operator then Some t else None
flagged_by (Bits operator t a b) = Some t
flagged_by (Load t a n) = Some t
flagged_by (LoadByte t a n) = Some t
flagged_by _ = None

abbrev pub flagged_in : Option Instruction → Option ℕ
flagged_in None = None
flagged_in (Some i) = flagged_by i

-- ---- where jumps lead

abbrev pub jump_of : Instruction → ℕ → Option ℕ
jump_of (Jump n) place = Some (suc place + n)
jump_of (JumpBack n) place = Some (place - n)
jump_of (Branch relation a b n) place = Some (suc place + n)
jump_of (BranchBack relation a b n) place = Some (place - n)
jump_of _ place = None

-- the mark of a place is set
abbrev pub set_in : Option ℕ → List Bool → List Bool
set_in None bs = bs
set_in (Some k) bs = slice_set bs k true

-- and those of all places that instructions jump to, the first of which is at a place
abbrev pub marked : List Instruction → ℕ → List Bool → List Bool
marked [] place bs = bs
marked (i ∷ is) place bs = marked is (suc place) (set_in (jump_of i place) bs)

-- for each place of a body, whether a jump leads to it
abbrev pub jumped : List Instruction → List Bool
jumped body = marked body 0 (replicate (length body) false)

-- ---- what is known of the flags

-- the temporary whose register determines the flags at a place
abbrev pub flagged : List Instruction → ℕ → Option ℕ
flagged body zero = None
flagged body (suc k) = if get_or (jumped body) (suc k) true then None else flagged_in (slice_get body k)

abbrev pub flagged_within : Option TacRoutine → ℕ → Option ℕ
flagged_within None k = None
flagged_within (Some routine) k = flagged routine.body k

abbrev pub flagged_at : Context → ℕ → ℕ → Option ℕ
flagged_at c r k = flagged_within (slice_get (routines c.code) r) k

-- ---- displacements that are deferred

-- the offset of a base's block from the register of its frame
abbrev pub block_at : Context → ℕ → Base → Option ℕ
block_at c r base.Frame = Some (c.frame_at r)
block_at c r base.Scratch = Some (c.scratch_at r)
block_at c r base.Program = Some (c.frame_at 0)
block_at c r (base.Temporary t) = None

-- What is left of the offset n of a block without k steps of a width, k the lowest index: a component is as many steps
-- from there as its index says. The highest one, h, times the width must not overflow.
abbrev pub fold_near : ℕ → ℕ → ℕ → ℕ → Option ℕ
fold_near k h width n =
    if nat_le (k * width) n && nat_lt (h * width) NUMBER_LIMIT then Some (n - k * width) else None

abbrev pub fold_by : ℤ → ℤ → ℕ → ℕ → Option ℕ
fold_by (pos k) (pos h) width n = fold_near k h width n
fold_by (pos k) (negsuc h) width n = None
fold_by (negsuc k) high width n = None

abbrev pub fold_in : ℕ → ℤ → ℤ → ℕ → Option ℕ → Option ℕ
fold_in error low high width None = None
fold_in error low high width (Some n) = if nat_eq error 0 then fold_by low high width n else None

-- the offset of an index that isn't tested, otherwise that of the block
abbrev pub short_of : Option ℕ → Option ℕ → Option ℕ
short_of (Some n) whole = Some n
short_of None whole = whole

-- An address in a temporary, without a test: a component is as many steps from there as its index says, and the lowest
-- one, k, times the width is too much.
abbrev pub back_near : ℕ → ℕ → ℕ → Option ℤ
back_near k h width =
    if nat_lt (k * width) ADDRESSES && nat_lt (h * width) NUMBER_LIMIT then Some (neg_ℤ (pos (k * width))) else None

abbrev pub back_by : ℤ → ℤ → ℕ → Option ℤ
back_by (pos k) (pos h) width = back_near k h width
back_by (pos k) (negsuc h) width = None
back_by (negsuc k) high width = None

abbrev pub back : Base → ℤ → ℤ → ℕ → ℕ → Option ℤ
back (base.Temporary u) low high width error = if nat_eq error 0 then back_by low high width else None
back base.Frame low high width error = None
back base.Scratch low high width error = None
back base.Program low high width error = None

-- that, otherwise an offset in a frame
abbrev pub short_by : Option ℤ → Option ℕ → Option ℤ
short_by (Some m) o = Some m
short_by None (Some n) = Some (pos n)
short_by None None = None

-- register q is short of m, if a load n bytes after its address can include both
abbrev pub defer_near : ℕ → ℕ → ℤ → Option (ℕ × ℤ)
defer_near q n m =
    if int_lt (m +ℤ pos n) (negsuc 524287) then None
    else if int_lt (m +ℤ pos n) (pos 524288) then Some (q, m) else None

abbrev pub defer_by : ℕ → ℕ → Option ℤ → Option (ℕ × ℤ)
defer_by q n None = None
defer_by q n (Some m) = defer_near q n m

abbrev pub defer_in : Home → ℕ → Option ℤ → Option (ℕ × ℤ)
defer_in (Reg q) n o = defer_by q n o
defer_in (Slot k) n o = None

-- an offset with that of an index that goes on from the same register
abbrev pub both_short : ℤ → Option ℤ → Option ℤ
both_short m None = None
both_short m (Some n) = Some (m +ℤ n)

-- the register has no other temporary
abbrev pub is_apart : Home → ℕ → Bool
is_apart (Reg p) q = not (nat_eq p q)
is_apart (Slot k) q = true

-- a register is short of m, if an index with another home goes on from it, to what a load takes
abbrev pub row_near : ℤ → Home → Option (ℕ × ℤ) → Option (ℕ × ℤ)
row_near m h None = None
row_near m h (Some y) =
    if int_lt m (neg_ℤ (pos ADDRESSES)) then None
    else if is_apart h y.0 then Some (y.0, m) else None

-- the first of two, if there is one
abbrev pub first_of : Option (ℕ × ℤ) → Option (ℕ × ℤ) → Option (ℕ × ℤ)
first_of (Some x) o = Some x
first_of None o = o

-- an index into a base in a temporary is its own distance only if a load takes the lowest one
abbrev pub near_of : Option (ℕ × ℤ) → Base → Option ℕ
near_of (Some deferred) (base.Temporary u) = Some 0
near_of (Some deferred) base.Frame = None
near_of (Some deferred) base.Scratch = None
near_of (Some deferred) base.Program = None
near_of None a = None

module _ (c : Context) (r : ℕ) where
  -- the offset that includes the lowest index, if an index isn't tested
  abbrev pub folded : Base → ℤ → ℤ → ℕ → ℕ → Option ℕ
  folded a low high width error = fold_in error low high width (block_at c r a)

  -- the offset that the register of a base and the distance of a component are short of
  abbrev pub offset_of : Base → ℤ → ℤ → ℕ → ℕ → Option ℤ
  offset_of a low high width error =
      short_by (back a low high width error) (short_of (folded a low high width error) (block_at c r a))

  -- the address of an index into t, short of an offset, which the next instruction loads from into t
  abbrev pub defer_load : ℕ → Option ℤ → Option Instruction → Option (ℕ × ℤ)
  defer_load t o (Some (Load u (base.Temporary w) n)) = if nat_eq u t && nat_eq w t then defer_in (home c r t) n o
      else None
  defer_load t o _ = None

  -- an index into a row, whose address another index made in the same temporary
  abbrev pub row_from : ℕ → Option ℤ → Home → Option ℤ → Option Instruction → Option (ℕ × ℤ)
  row_from t None h d third = None
  row_from t (Some m) h d third = row_near m h (defer_load t (both_short m d) third)

  abbrev pub defer_row : ℕ → Option ℤ → Option Instruction → Option Instruction → Option (ℕ × ℤ)
  defer_row t o (Some (Index u (base.Temporary w) j low high width error line)) third =
      if nat_eq u t && nat_eq w t then row_from t o (home c r j) (back (base.Temporary w) low high width error) third
      else None
  defer_row t o _ third = None

  abbrev pub row : Option Instruction → Option Instruction → Option Instruction → Option (ℕ × ℤ)
  row (Some (Index t a i low high width error line)) next third =
      defer_row t (offset_of a low high width error) next third
  row _ next third = None

  -- the address of a row, short of an offset, which the next two instructions take
  abbrev pub row_deferred : List Instruction → ℕ → Option (ℕ × ℤ)
  row_deferred body zero = None
  row_deferred body (suc k) =
      if get_or (jumped body) (suc k) true then None
      else if get_or (jumped body) (suc (suc k)) true then None
      else row (slice_get body k) (slice_get body (suc k)) (slice_get body (suc (suc k)))

  -- what an index leaves a register short of, which may be so already
  abbrev pub start : Option (ℕ × ℤ) → Base → ℤ → ℤ → ℕ → ℕ → Option ℤ
  start None a low high width error = offset_of a low high width error
  start (Some x) a low high width error = both_short x.1 (back a low high width error)

  abbrev pub defer : Option (ℕ × ℤ) → Option Instruction → Option Instruction → Option (ℕ × ℤ)
  defer before (Some (Index t a i low high width error line)) next =
      defer_load t (start before a low high width error) next
  defer before _ next = None

  -- the address of a component, which the next instruction loads
  abbrev pub load_deferred : List Instruction → ℕ → Option (ℕ × ℤ)
  load_deferred body zero = None
  load_deferred body (suc k) = if get_or (jumped body) (suc k) true then None else defer (row_deferred body k)
      (slice_get body k) (slice_get body (suc k))

  abbrev pub deferred : List Instruction → ℕ → Option (ℕ × ℤ)
  deferred body k = first_of (row_deferred body k) (load_deferred body k)

  abbrev pub deferred_in : Option TacRoutine → ℕ → Option (ℕ × ℤ)
  deferred_in None k = None
  deferred_in (Some routine) k = deferred routine.body k

  -- the register that is short of an offset at a place, if one is
  abbrev pub deferred_at : ℕ → Option (ℕ × ℤ)
  deferred_at k = deferred_in (slice_get (routines c.code) r) k
