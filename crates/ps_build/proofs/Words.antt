-- An instruction takes at least one word: code of too many instructions has too many words, whatever homes its
-- temporaries have.
use Rattle.std.proofs.Common.{◌≡◌, ℕ, suc, ◌<◌, ◌≤◌, Bool, true, false, if◌then◌else◌, List, [], ◌∷◌, ◌++◌, length}
use Rattle.std.proofs.Common.{nat_eq, Option, Some, None, ℤ, ◌+◌, map, refl, sym, ap, subst, arith, length-append}
use Rattle.std.specs.Prelude.{Result, Ok, Err, IfErr, IsErrAnd}
use Rattle.tac_code.specs.declared.code.Relation.{Relation}
use Rattle.tac_code.specs.declared.code.Relation.TheVariants.{Equal, NotEqual, Less, LessEqual, Greater, GreaterEqual}
use Rattle.tac_code.specs.declared.code.Operator.{Operator}
use Rattle.tac_code.specs.declared.code.Operator.TheVariants.{Add, Subtract, Multiply, Divide, Modulo}
use Rattle.tac_code.specs.declared.code.Operand.{Operand}
use Rattle.tac_code.specs.declared.code.Base.{Base}
use Rattle.tac_code.specs.declared.code.Instruction.{Instruction}
use Rattle.tac_code.specs.declared.code.Instruction.TheVariants.{Literal, Copy, Arithmetic, Bits, Compare, CheckRange}
use Rattle.tac_code.specs.declared.code.Instruction.TheVariants.{CheckPointer, Text, Offset, Index, RoutineValue, Load}
use Rattle.tac_code.specs.declared.code.Instruction.TheVariants.{Store, LoadByte, StoreByte, Jump, JumpBack, Branch}
use Rattle.tac_code.specs.declared.code.Instruction.TheVariants.{BranchBack, Call, CallValue, Return, Trap, Take, Put}
use Rattle.tac_code.specs.declared.code.Instruction.TheVariants.{New, End}
use Rattle.tac_code.specs.declared.code.TacRoutine.{TacRoutine}
use Rattle.tac_code.specs.Meaning.{Code, routines}
use Rattle.tac_code.specs.Sound.{IsSound}
use Rattle.tac_plan.specs.Roomy.{with_room, roomy, HasRoom}
use Rattle.tac_plan.proofs.Roomy.{roomy_is_sound}
use Rattle.risc_alloc.specs.declared.homes.Home.{Home}
use Rattle.risc_alloc.specs.declared.homes.Home.TheVariants.{Slot, Reg}
use Rattle.risc_alloc.specs.Slots.{every_slot}
use Rattle.risc_alloc.proofs.Whole.{every_slot_valid}
use Rattle.risc_emit_relation.specs.Context.{Context, home, is_program}
use Rattle.risc_emit_forms.specs.Pieces.{Label, Piece}
use Rattle.risc_emit_forms.specs.Peephole.{short_of, near_of, folded}
use Rattle.risc_emit_forms.specs.Forms as form
use Rattle.risc_emit_laws.specs.Drawn.{body_pieces, routine_pieces, routines_pieces, start_pieces}
use Rattle.risc_emit.specs.Layout.{laid_out}
use Rattle.risc_emit.specs.Emitted.{code_words}
use Rattle.ps_lower.specs.Refused.{instructions_of, instruction_count, IsRefused}
use Rattle.ps_lower.specs.declared.refusal.LowerRefusal.{LowerRefusal}
use Rattle.ps_lower.specs.declared.refusal.LowerRefusal.TheVariants as w
use Rattle.ps_build.specs.declared.refusal.Refusal.{Refusal}
use Rattle.ps_build.specs.Accepts.{HasNoRoom}
use Rattle.ps_build.specs.Refusals.{of_lower, OnlyTooLarge}

-- ---- what has a word

data HasWord : List Piece → Type 0 where
  one : (p : Piece) (ps : List Piece) → HasWord (p ∷ ps)

counted : (ps : List Piece) → HasWord ps → 0 < length ps
counted _ (one p ps) = omega arith

before : (ps qs : List Piece) → HasWord ps → HasWord (ps ++ qs)
before _ qs (one p ps) = one p (ps ++ qs)

behind : (ps qs : List Piece) → HasWord qs → HasWord (ps ++ qs)
behind [] qs h = h
behind (p ∷ ps) qs h = one p (ps ++ qs)

either : (b : Bool) (ps qs : List Piece) → HasWord ps → HasWord qs → HasWord (if b then ps else qs)
either true ps qs h g = h
either false ps qs h g = g

-- one word, and a longer way
number_word : (d : ℕ) (z : ℤ) → HasWord (form.number d z)
number_word d z = either (form.is_small z) _ _ (one _ _) (one _ _)

load_word : (d b n : ℕ) → HasWord (form.load d b n)
load_word d b n = either (form.is_near n) _ _ (one _ _) (one _ _)

store_word : (a b n : ℕ) → HasWord (form.store a b n)
store_word a b n = either (form.is_near n) _ _ (one _ _) (one _ _)

module _ (c : Context) (r : ℕ) where
  at_most_word : (q n error line : ℕ) → HasWord (form.at_most c r q n error line)
  at_most_word q n error line = either _ _ _ (one _ _) (one _ _)

  bring_word : (d : ℕ) (h : Home) → HasWord (form.bring c r d h)
  bring_word d (Reg q) = one _ _
  bring_word d (Slot k) = load_word d 14 _

  copy_word : (to from : Home) → HasWord (form.copy c r to from)
  copy_word (Reg q) from = bring_word q from
  copy_word (Slot k) from = behind (form.fetch c r 12 from) _ (store_word _ 14 _)

  both_word : (a : ℕ) (b : Operand) (rest : List Piece) → HasWord rest → HasWord (form.both c r a b rest)
  both_word a b rest h = behind (form.fetch c r 12 _) _ (behind (form.right c r b) rest h)

  truth_word : (relation : Relation) (t a : ℕ) (b : Operand) → HasWord (form.truth_form c r relation t a b)
  truth_word relation t a b = both_word a b _ (one _ _)

  unlike_word : (flagged : Option ℕ) (t a : ℕ) (b : Operand) → HasWord (form.unlike_form c r flagged t a b)
  unlike_word flagged t a b = either (form.is_own c r flagged t a b) _ _ (one _ _) (both_word a b _ (one _ _))

  compare_word : (flagged : Option ℕ) (relation : Relation) (t a : ℕ) (b : Operand) → HasWord
      (form.compare_form c r flagged relation t a b)
  compare_word flagged Equal t a b = truth_word Equal t a b
  compare_word flagged NotEqual t a b = unlike_word flagged t a b
  compare_word flagged Less t a b = truth_word Less t a b
  compare_word flagged LessEqual t a b = truth_word LessEqual t a b
  compare_word flagged Greater t a b = truth_word Greater t a b
  compare_word flagged GreaterEqual t a b = truth_word GreaterEqual t a b

  arithmetic_word : (operator : Operator) (t a : ℕ) (b : Operand) (error line : ℕ) → HasWord
      (form.arithmetic_form c r operator t a b error line)
  arithmetic_word Add t a b error line = both_word a b _ (one _ _)
  arithmetic_word Subtract t a b error line = both_word a b _ (one _ _)
  arithmetic_word Multiply t a b error line = both_word a b _ (one _ _)
  arithmetic_word Divide t a b error line =
      either (form.is_divisor b) _ _ (behind (form.fetch c r 12 _) _ (one _ _))
      (behind (form.divisor c r b) _ (one _ _))
  arithmetic_word Modulo t a b error line =
      either (form.is_divisor b) _ _ (behind (form.fetch c r 12 _) _ (one _ _))
      (behind (form.modulus c r b) _ (one _ _))

  range_word : (a : ℕ) (low high : ℤ) (error line : ℕ) → HasWord (form.range_code c r a low high error line)
  range_word a low high error line = either _ _ _ (one _ _)
      (behind (form.above c r a low) _ (at_most_word _ _ error line))

  check_word : (a : ℕ) (low high : ℤ) (error line : ℕ) → HasWord (form.check_form c r a low high error line)
  check_word a low high error line = either (nat_eq error 0) _ _ (one _ _)
      (behind (form.fetch c r 12 _) _ (range_word _ low high error line))

  pointer_word : (flagged : Option ℕ) (a error line : ℕ) → HasWord (form.pointer_form c r flagged a error line)
  pointer_word flagged a error line = either (nat_eq error 0) _ _ (one _ _)
      (either (form.is_flagged c r flagged a) _ _ (one _ _) (before (form.bring c r 12 _) _ (bring_word 12 _)))

  component_word : (deferred : Option (ℕ × ℤ)) (t : ℕ) (a : Base) (q : ℕ) → HasWord (form.component c r deferred t a q)
  component_word None t a q = behind (form.base_address c r a) _ (one _ _)
  component_word (Some deferred) t a q = one _ _

  steps_word : (deferred : Option (ℕ × ℤ)) (t : ℕ) (a : Base) (q width : ℕ)
      → HasWord (form.steps_form c r deferred t a q width)
  steps_word deferred t a q width = behind (form.scaled c r q width) _ (component_word deferred t a _)

  near_component_word : (n : ℕ) (deferred : Option (ℕ × ℤ)) (t : ℕ) (a : Base) (q : ℕ) → HasWord
      (form.near_component c r n deferred t a q)
  near_component_word n None t a q = behind (form.sum c r (form.base_register c r a) n) _ (one _ _)
  near_component_word n (Some deferred) t a q = behind (form.near_code c r a) _ (one _ _)

  index_by_word : (o : Option ℕ) (deferred : Option (ℕ × ℤ)) (t : ℕ) (a : Base) (i : ℕ) (low high : ℤ)
      (width error line : ℕ) → HasWord (form.index_by c r o deferred t a i low high width error line)
  index_by_word None deferred t a i low high width error line =
      let at = form.fetched c r 12 (home c r i) in
      behind (form.fetch c r 12 (home c r i)) _
      (behind (form.index_code c r at low high error line) _ (steps_word deferred t a _ width))
  index_by_word (Some n) deferred t a i low high width error line =
      let at = form.fetched c r 12 (home c r i) in
      behind (form.fetch c r 12 (home c r i)) _
      (behind (form.scaled c r at width) _ (near_component_word n deferred t a _))

  index_word : (deferred : Option (ℕ × ℤ)) (t : ℕ) (a : Base) (i : ℕ) (low high : ℤ) (width error line : ℕ) → HasWord
      (form.index_form c r deferred t a i low high width error line)
  index_word deferred t a i low high width error line =
      index_by_word (short_of (folded c r a low high width error) (near_of deferred a)) deferred t a i low high width
      error line

  address_word : (d : ℕ) (a : Base) (n : ℕ) → HasWord (form.address c r d a n)
  address_word d a n = behind (form.base_code c r a) _ (either _ _ _ (one _ _) (one _ _))

  load_form_word : (width : _) (t : ℕ) (a : Base) (n : ℕ) → HasWord (form.load_form c r width t a n)
  load_form_word width t a n = behind (form.reach c r a n) _ (one _ _)

  word_form_word : (deferred : Option (ℕ × ℤ)) (t : ℕ) (a : Base) (n : ℕ) → HasWord (form.word_form c r deferred t a n)
  word_form_word None t a n = load_form_word _ t a n
  word_form_word (Some deferred) t a n = one _ _

  store_form_word : (width : _) (a : Base) (n b : ℕ) → HasWord (form.store_form c r width a n b)
  store_form_word width a n b = behind (form.reach c r a n) _ (behind (form.fetch c r 15 _) _ (one _ _))

  branch_by_word : (choice : Option _) (relation : Relation) (a : ℕ) (b : Operand) (label : Label) → HasWord
      (form.branch_by c r choice relation a b label)
  branch_by_word None relation a b label = both_word a b _ (one _ _)
  branch_by_word (Some condition) relation a b label = one _ _

  return_word : (a : ℕ) → HasWord (form.return_form c r a)
  return_word a = behind (form.into c r 0 (home c r a)) _ (either (is_program c r) _ _ (one _ _) (one _ _))

  form_word : (k : ℕ) (i : Instruction) → HasWord (form.form c r k i)
  form_word k (Literal t z) = before (form.number _ z) _ (number_word _ z)
  form_word k (Copy t a) = copy_word _ _
  form_word k (Arithmetic operator t a b error line) = arithmetic_word operator t a b error line
  form_word k (Bits operator t a b) = both_word a b _ (one _ _)
  form_word k (Compare relation t a b) = compare_word _ relation t a b
  form_word k (CheckRange a low high error line) = check_word a low high error line
  form_word k (CheckPointer a error line) = pointer_word _ a error line
  form_word k (Text t bytes) = one _ _
  form_word k (Offset t a n extent) = before (form.address c r _ a n) _ (address_word _ a n)
  form_word k (Index t a i low high width error line) = index_word _ t a i low high width error line
  form_word k (RoutineValue t q) = one _ _
  form_word k (Load t a n) = word_form_word _ t a n
  form_word k (Store a n b) = store_form_word _ a n b
  form_word k (LoadByte t a n) = load_form_word _ t a n
  form_word k (StoreByte a n b) = store_form_word _ a n b
  form_word k (Jump n) = one _ _
  form_word k (JumpBack n) = one _ _
  form_word k (Branch relation a b n) = branch_by_word _ relation a b _
  form_word k (BranchBack relation a b n) = branch_by_word _ relation a b _
  form_word k (Call t q us line) = behind (form.offer c r us) _ (one _ _)
  form_word k (CallValue t a us line) = behind (form.offer_by c r a us) _ (one _ _)
  form_word k (Return a) = return_word a
  form_word k (Trap error line) = one _ _
  form_word k (Take t) = one _ _
  form_word k (Put a) = behind (form.fetch c r 12 _) _ (one _ _)
  form_word k (New t type line) = one _ _
  form_word k End = one _ _

  -- ---- all instructions

  body_words : (k : ℕ) (is : List Instruction) → length is ≤ length (body_pieces c r k is)
  body_words k [] = omega arith
  body_words k (i ∷ is) = omega (
    arith,
    counted _ (form_word k i),
    body_words (suc k) is,
    length-append
        (form.form c r k i) (body_pieces c r (suc k) is),
  )

routines_words : (c : Context) (r : ℕ) (rs : List TacRoutine) → instructions_of rs ≤ length (routines_pieces c r rs)
routines_words c r [] = omega arith
routines_words c r (x ∷ xs) =
    omega (
      arith,
      body_words c r 0 x.body,
      routines_words c (suc r) xs,
      length-append (form.entry_form c r x)
          (body_pieces c r 0 x.body),
      length-append (routine_pieces c r x) (routines_pieces c (suc r) xs),
    )

-- with the run-time routines there are no fewer
both_counted : (xs ys : List TacRoutine) → instructions_of xs ≤ instructions_of (xs ++ ys)
both_counted [] ys = omega arith
both_counted (x ∷ xs) ys = omega (arith, both_counted xs ys)

pub words_of_instructions : (code : Code) (homes : List Home) → instruction_count code ≤ code_words code homes
words_of_instructions code homes =
    let c = laid_out code homes in
    omega (
      arith,
      both_counted code.program code.run_time,
      routines_words c 0 (routines code),
      length-append
          (start_pieces c (routines code)) (routines_pieces c 0 (routines code)),
    )

-- ---- what is refused

-- with more temporaries there are as many instructions
instructions_with_room : (xs : List TacRoutine) → instructions_of (map with_room xs) ≡ instructions_of xs
instructions_with_room [] = refl
instructions_with_room (x ∷ xs) = ap (λ (n : ℕ). length x.body + n) (instructions_with_room xs)

-- homes there are for every sound code: a slot of its own for each temporary
pub no_room : (code : Code) → IsSound code → HasRoom code → (refusal : LowerRefusal) → IsRefused refusal
    (instruction_count code) → OnlyTooLarge (of_lower refusal) (HasNoRoom (roomy code))
no_room code sound room w.OutOfMemory h = tt
no_room code sound room w.CodeTooLarge h =
    let homes = every_slot (routines (roomy code)) in
    record {
      homes = homes;
      placed = every_slot_valid (roomy code) homes (roomy_is_sound code room sound) refl;
      words = omega (
        arith,
        h,
        instructions_with_room code.program,
        words_of_instructions (roomy code) homes,
      );
    }

pub refused : {X : Type 0} (result : Result X Refusal) (code : Code) (refusal : LowerRefusal) → IsSound code
    → HasRoom code → IsErrAnd result (λ e. e ≡ of_lower refusal) → IsRefused refusal (instruction_count code) → IfErr
    result (λ e. OnlyTooLarge e (HasNoRoom (roomy code)))
refused (Ok x) code refusal sound room is h = absurd is
refused (Err e) code refusal sound room is h = subst (λ y. OnlyTooLarge y (HasNoRoom (roomy code))) (sym is)
    (no_room code sound room refusal h)
