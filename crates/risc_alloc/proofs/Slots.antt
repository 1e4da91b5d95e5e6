-- Slots of their own are never shared, and sound code reads only temporaries that exist.
use Rattle.std.proofs.Common.{◌≡◌, ◌≢◌, ℕ, zero, suc, ◌<◌, ◌≤◌, ◌⊎◌, inl, inr, ⊎_elim, true, List, [], ◌∷◌, ◌++◌}
use Rattle.std.proofs.Common.{length, get_or, slice_get, slice_index, Option, Some, None, IfSome, refl, sym, ap, ◌∙◌}
use Rattle.std.proofs.Common.{subst, arith}
use Rattle.std.proofs.lemmas.Bool.{cases_lt}
use Rattle.std.proofs.lemmas.List.{length-append}
use Rattle.std.proofs.lemmas.Option.{slice_get_within, slice_get_cases, same_Some}
use Rattle.tac_code.specs.declared.code.Operand.{Operand}
use Rattle.tac_code.specs.declared.code.Operand.TheVariants as operand
use Rattle.tac_code.specs.declared.code.Base.{Base}
use Rattle.tac_code.specs.declared.code.Base.TheVariants as base
use Rattle.tac_code.specs.declared.code.Instruction.{Instruction}
use Rattle.tac_code.specs.declared.code.Instruction.TheVariants.{Copy, Arithmetic, Bits, Compare, CheckRange}
use Rattle.tac_code.specs.declared.code.Instruction.TheVariants.{CheckPointer, Offset, Index, Load, Store, LoadByte}
use Rattle.tac_code.specs.declared.code.Instruction.TheVariants.{StoreByte, Branch, BranchBack, Call, CallValue}
use Rattle.tac_code.specs.declared.code.Instruction.TheVariants.{Return, Put}
use Rattle.tac_code.specs.declared.code.TacRoutine.{TacRoutine}
use Rattle.tac_code.specs.declared.check.Limits.{Limits}
use Rattle.tac_code.specs.Meaning.{Code}
use Rattle.tac_code.specs.Sound.{AreOperands, IsOperand, IsBase, IsSoundAt, IsSoundRoutine, limits_of}
use Rattle.risc_alloc.specs.declared.homes.Home.{Home}
use Rattle.risc_alloc.specs.declared.homes.Home.TheVariants.{Slot, Reg}
use Rattle.risc_alloc.specs.Flow.{reads}
use Rattle.risc_alloc.specs.Parts.{in_operand_or_none, in_base_or_none, read_first, read_second, read_passed}
use Rattle.risc_alloc.specs.Alive.{Alive, Used, Passed}
use Rattle.risc_alloc.specs.Homes.{found, home_in}
use Rattle.risc_alloc.specs.Windows.{IsIn}
use Rattle.risc_alloc.specs.Fits.{Fits, RoutineFits}
use Rattle.risc_alloc.specs.Slots.{own_slots, IsOwn, ReadsBelow}
use Rattle.risc_alloc.proofs.Reading.{ReadAs, First, Second, Passed as PassedTo, read_as}
use Rattle.risc_alloc.proofs.Fitting.{placed, some_read}

-- ---- what sound code reads

operand_below : (n : ℕ) (b : Operand) → IsOperand n b → IfSome (in_operand_or_none b) (λ u. u < n)
operand_below n (operand.Temporary t) h = h
operand_below n (operand.Number z) h = tt

base_below : (l : Limits) (b : Base) (offset bytes : ℕ) → IsBase l b offset bytes → IfSome (in_base_or_none b)
    (λ u. u < l.temporaries)
base_below l base.Frame offset bytes h = tt
base_below l base.Scratch offset bytes h = tt
base_below l base.Program offset bytes h = tt
base_below l (base.Temporary t) offset bytes h = h

first_below : (l : Limits) (place : ℕ) (i : Instruction) → IsSoundAt l place i → IfSome (read_first i)
    (λ u. u < l.temporaries)
first_below l place (Copy t a) s = s.1
first_below l place (Arithmetic operator t a b error line) s = s.1
first_below l place (Bits operator t a b) s = s.1
first_below l place (Compare relation t a b) s = s.1
first_below l place (CheckRange a low high error line) s = s.0
first_below l place (CheckPointer a error line) s = s.0
first_below l place (Index t a i low high width error line) s = s.2
first_below l place (Store a n b) s = s.1
first_below l place (StoreByte a n b) s = s.1
first_below l place (Branch relation a b n) s = s.0
first_below l place (BranchBack relation a b n) s = s.0
first_below l place (CallValue t a operands line) s = s.1
first_below l place (Return a) s = s
first_below l place (Put a) s = s
first_below l place _ s = tt

second_below : (l : Limits) (place : ℕ) (i : Instruction) → IsSoundAt l place i → IfSome (read_second i)
    (λ u. u < l.temporaries)
second_below l place (Arithmetic operator t a b error line) s = operand_below l.temporaries b s.2
second_below l place (Bits operator t a b) s = operand_below l.temporaries b s.2
second_below l place (Compare relation t a b) s = operand_below l.temporaries b s.2
second_below l place (Branch relation a b n) s = operand_below l.temporaries b s.1
second_below l place (BranchBack relation a b n) s = operand_below l.temporaries b s.1
second_below l place (Offset t a n extent) s = base_below l a n extent s.1
second_below l place (Index t a i low high width error line) s = base_below l a 0 0 s.1
second_below l place (Load t a n) s = base_below l a n 4 s.1
second_below l place (Store a n b) s = base_below l a n 4 s.0
second_below l place (LoadByte t a n) s = base_below l a n 1 s.1
second_below l place (StoreByte a n b) s = base_below l a n 1 s.0
second_below l place _ s = tt

operands_below : (n : ℕ) (list : List ℕ) (u : ℕ) → AreOperands n list → IsIn list u → u < n
operands_below n list u h at =
    let below : slice_index list at.0 < n = h.1 at.0 0 at.1 in subst (λ (x : ℕ). x < n) at.2 below

passed_below : (l : Limits) (place : ℕ) (i : Instruction) (u : ℕ) → IsSoundAt l place i → IsIn (read_passed i) u
    → u < l.temporaries
passed_below l place (Call t r operands line) u s at = operands_below l.temporaries operands u s.2 at
passed_below l place (CallValue t a operands line) u s at = operands_below l.temporaries operands u s.2 at
passed_below l place _ u s at = let lt : at.0 < 0 = at.1 in absurd (omega arith)

below_of : (n : ℕ) (o : Option ℕ) (u : ℕ) → o ≡ Some u → IfSome o (λ t. t < n) → u < n
below_of n None u e h = absurd (cc)
below_of n (Some t) u e h = let same : t ≡ u = cc in subst (λ (x : ℕ). x < n) same h

reads_at : (l : Limits) (place : ℕ) (i : Instruction) (u : ℕ) → IsSoundAt l place i → ReadAs i u → u < l.temporaries
reads_at l place i u s (First e) = below_of l.temporaries (read_first i) u e (first_below l place i s)
reads_at l place i u s (Second e) = below_of l.temporaries (read_second i) u e (second_below l place i s)
reads_at l place i u s (PassedTo at) = passed_below l place i u s at

pub reads_below : (code : Code) (routine : TacRoutine) → IsSoundRoutine (limits_of code routine) routine
    → ReadsBelow routine.temporaries routine.body
reads_below code routine sound =
    λ place i u e r. reads_at (limits_of code routine) place i u (sound.body place i e) (read_as i u r)

-- ---- slots of their own

module _ (body : List Instruction) (homes : List Home) (below : ReadsBelow (length homes) body)
    (own : IsOwn homes) where
  used_below : (place u : ℕ) → reads (slice_get body place) u ≡ true → u < length homes
  used_below place u e =
      let some = some_read (slice_get body place) u e in below place some.0 u some.1
      (subst (λ (o : Option Instruction). reads o u ≡ true) some.1 e)

  alive_below : (place u : ℕ) → Alive (placed body) place u → u < length homes
  alive_below place u (Used p v e) = used_below p v e
  alive_below place u (Passed p next v l n rest) = alive_below next v rest

  -- a slot of its own, or the home that counts for what is not a temporary
  own_is : (t : ℕ) → (home_in homes t ≡ Slot t) ⊎ (home_in homes t ≡ Reg 0)
  own_is t = go (slice_get homes t) refl
    where
      go : (o : Option Home) → slice_get homes t ≡ o → (found o ≡ Slot t) ⊎ (found o ≡ Reg 0)
      go None e = inr refl
      go (Some h) e = inl (own t h e)

  alive_own : (place u : ℕ) → Alive (placed body) place u → home_in homes u ≡ Slot u
  alive_own place u a = go (slice_get_cases homes u).1
    where
      go : ((x : Home) × (u < length homes) × (slice_get homes u ≡ Some x) × (get_or homes u x ≡ x))
          ⊎ ((length homes ≤ u) × (slice_get homes u ≡ None)) → home_in homes u ≡ Slot u
      go (inl h) = ap found h.2 ∙ own u h.0 h.2
      go (inr h) = let lt : u < length homes = alive_below place u a in absurd (omega (arith, h.0))

  -- nobody alive shares a home
  unshared : (place u t : ℕ) → Alive (placed body) place u → u ≢ t → home_in homes u ≢ home_in homes t
  unshared place u t a ne e =
      let is : home_in homes u ≡ Slot u = alive_own place u a in
      ⊎_elim (λ (slot : home_in homes t ≡ Slot t). let same : Slot u ≡ Slot t = sym is ∙ e ∙ slot in ne (cc))
      (λ (reg : home_in homes t ≡ Reg 0). let same : Slot u ≡ Reg 0 = sym is ∙ e ∙ reg in cc) (own_is t)

  slot_below : (t j : ℕ) → home_in homes t ≡ Slot j → j < length homes
  slot_below t j e = go (slice_get homes t) refl e
    where
      go : (o : Option Home) → slice_get homes t ≡ o → found o ≡ Slot j → j < length homes
      go None none same = absurd (cc)
      go (Some h) some same =
          let lt : t < length homes = slice_get_within homes t h some in let slot : Slot t ≡ Slot j = sym (own t h some)
          ∙ same in let eq : t ≡ j = cc in omega arith

  register_below : (t q : ℕ) → home_in homes t ≡ Reg q → q < 12
  register_below t q e =
      ⊎_elim (λ (slot : home_in homes t ≡ Slot t). let no : Reg q ≡ Slot t = sym e ∙ slot in absurd (cc))
      (λ (reg : home_in homes t ≡ Reg 0). let zeroth : Reg q ≡ Reg 0 = sym e ∙ reg in let eq : q ≡ 0 = cc
      in omega arith) (own_is t)

  pub own_fits : (parameters : ℕ) → Fits (placed body) parameters homes
  own_fits parameters = record {
    slot = slot_below;
    register = register_below;
    apart = λ place t u at au ne. unshared place t u at ne;
    written = λ place next t u l w a ne. unshared next u t a ne;
    called = λ place t u c a ne. (u, alive_own place u a);
    entered = λ t u lt a ne. unshared 0 u t a ne;
  }

pub own_routine_fits : (routine : TacRoutine) (homes : List Home) → length homes ≡ routine.temporaries
    → ReadsBelow routine.temporaries routine.body → IsOwn homes → RoutineFits routine homes
own_routine_fits routine homes count below own =
    own_fits routine.body homes (subst (λ (n : ℕ). ReadsBelow n routine.body) (sym count) below) own routine.parameters

-- ---- the list of all

get_append_here : (xs ys : List Home) (t : ℕ) → t < length xs → slice_get (xs ++ ys) t ≡ slice_get xs t
get_append_here [] ys t lt = absurd (omega arith)
get_append_here (x ∷ xs) ys zero lt = refl
get_append_here (x ∷ xs) ys (suc t) lt =
    let less : t < length xs = omega arith in get_append_here xs ys t less

get_append_last : (xs : List Home) (x y : Home) (t : ℕ) → length xs ≤ t → slice_get (xs ++ x ∷ []) t ≡ Some y
    → (t ≡ length xs) × (y ≡ x)
get_append_last [] x y zero le e = (refl, sym (same_Some x y e))
get_append_last [] x y (suc t) le e = absurd (cc)
get_append_last (z ∷ xs) x y zero le e = absurd (omega arith)
get_append_last (z ∷ xs) x y (suc t) le e =
    let less : length xs ≤ t = omega arith in let rest = get_append_last xs x y t less e in (ap suc rest.0, rest.1)

pub own_length : (n : ℕ) → length (own_slots n) ≡ n
own_length zero = refl
own_length (suc n) = let rest : length (own_slots n) ≡ n = own_length n in omega
    (arith, length-append (own_slots n) (Slot n ∷ []))

pub own_slots_are : (n : ℕ) → IsOwn (own_slots n)
own_slots_are zero t home e = absurd (cc)
own_slots_are (suc n) t home e =
    ⊎_elim
    (λ (lt : t < length (own_slots n)). own_slots_are n t home
    (sym (get_append_here (own_slots n) (Slot n ∷ []) t lt) ∙ e))
    (λ (le : length (own_slots n) ≤ t).
    let last = get_append_last (own_slots n) (Slot n) home t le e in
    let at : n ≡ t = sym (last.0 ∙ own_length n) in
    last.1 ∙ ap Slot at)
    (cases_lt t (length (own_slots n)))
