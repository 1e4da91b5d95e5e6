-- The pieces of an instruction depend only on the code, the homes and the layout: not on where words are, on tables or
-- on memory.
use Rattle.std.proofs.Common.{◌≡◌, ℕ, ℤ, zero, suc, List, [], ◌∷◌, length, slice_index, Option, Some, None, refl, sym}
use Rattle.std.proofs.Common.{ap, ◌∙◌}
use Rattle.risc_word.specs.declared.instr.Width.{Width}
use Rattle.risc_word.specs.declared.instr.Condition.{Condition}
use Rattle.tac_code.specs.declared.code.Operator.{Operator}
use Rattle.tac_code.specs.declared.code.Operator.TheVariants.{Add, Subtract, Multiply, Divide, Modulo}
use Rattle.tac_code.specs.declared.code.Relation.{Relation}
use Rattle.tac_code.specs.declared.code.Relation.TheVariants.{Equal, NotEqual, Less, LessEqual, Greater, GreaterEqual}
use Rattle.tac_code.specs.declared.code.Operand.{Operand}
use Rattle.tac_code.specs.declared.code.Operand.TheVariants as operand
use Rattle.tac_code.specs.declared.code.Base.{Base}
use Rattle.tac_code.specs.declared.code.Base.TheVariants as base
use Rattle.tac_code.specs.declared.code.Instruction.{Instruction}
use Rattle.tac_code.specs.declared.code.Instruction.TheVariants.{Literal, Copy, Arithmetic, Bits, Compare, CheckRange}
use Rattle.tac_code.specs.declared.code.Instruction.TheVariants.{CheckPointer, Text, Offset, Index, RoutineValue, Load}
use Rattle.tac_code.specs.declared.code.Instruction.TheVariants.{Store, LoadByte, StoreByte, Jump, JumpBack, Branch}
use Rattle.tac_code.specs.declared.code.Instruction.TheVariants.{BranchBack, Call, CallValue, Return, Trap, Take, Put}
use Rattle.tac_code.specs.declared.code.Instruction.TheVariants.{New, End}
use Rattle.tac_code.specs.declared.code.TacRoutine.{TacRoutine}
use Rattle.risc_alloc.specs.declared.homes.Home.{Home}
use Rattle.risc_alloc.specs.declared.homes.Home.TheVariants.{Slot, Reg}
use Rattle.risc_emit_relation.specs.Context.{Context, home}
use Rattle.risc_emit_forms.specs.Peephole.{block_at, fold_in, short_of, near_of, folded, flagged_at, deferred_at}
use Rattle.risc_emit_forms.specs.Forms as form
use Rattle.risc_emit_forms.specs.Forms.{carried}
use Rattle.risc_emit_laws.specs.Emits.{start_form}
use Rattle.risc_emit_laws.specs.Drawn.{Alike}

-- a context without the rest
abbrev pub bare : Context → Context
bare c =
    record {
      code = c.code;
      costs = c.costs;
      sizes = c.sizes;
      homes = c.homes;
      site = λ r k. 0;
      entry = λ r. 0;
      constant = λ r k. 0;
      resume = λ r k t. 0;
      line = λ l. None;
      trap = λ l. None;
      link_at = c.link_at;
      slots_at = c.slots_at;
      frame_at = c.frame_at;
      scratch_at = c.scratch_at;
      used = λ r. 0;
      heap_at = 0;
      base = 0;
      size = 0;
      bottom = 0;
    }

-- alike contexts are one, but for the rest
bare_same : (c c' : Context) → Alike c c' → bare c' ≡ bare c
bare_same c c' a =
    λ i. record {
      code = a.code i;
      costs = λ r. a.costs r i;
      sizes = λ t. a.sizes t i;
      homes = a.homes i;
      site = λ r k. 0;
      entry = λ r. 0;
      constant = λ r k. 0;
      resume = λ r k t. 0;
      line = λ l. None;
      trap = λ l. None;
      link_at = λ r. a.link_at r i;
      slots_at = λ r. a.slots_at r i;
      frame_at = λ r. a.frame_at r i;
      scratch_at = λ r. a.scratch_at r i;
      used = λ r. 0;
      heap_at = 0;
      base = 0;
      size = 0;
      bottom = 0;
    }

module _ (c : Context) (r : ℕ) where
  abbrev b : Context
  b = bare c

  fetch_bare : (d : ℕ) (h : Home) → form.fetch b r d h ≡ form.fetch c r d h
  fetch_bare d (Reg q) = refl
  fetch_bare d (Slot k) = refl

  fetched_bare : (d : ℕ) (h : Home) → form.fetched b r d h ≡ form.fetched c r d h
  fetched_bare d (Reg q) = refl
  fetched_bare d (Slot k) = refl

  bring_bare : (d : ℕ) (h : Home) → form.bring b r d h ≡ form.bring c r d h
  bring_bare d (Reg q) = refl
  bring_bare d (Slot k) = refl

  target_bare : (h : Home) → form.target b r h ≡ form.target c r h
  target_bare (Reg q) = refl
  target_bare (Slot k) = refl

  save_bare : (h : Home) → form.save b r h ≡ form.save c r h
  save_bare (Reg q) = refl
  save_bare (Slot k) = refl

  receive_bare : (h : Home) → form.receive b r h ≡ form.receive c r h
  receive_bare (Reg q) = refl
  receive_bare (Slot k) = refl

  into_bare : (d : ℕ) (h : Home) → form.into b r d h ≡ form.into c r d h
  into_bare d (Reg q) = refl
  into_bare d (Slot k) = refl

  accept_bare : (h : Home) → form.accept b r h ≡ form.accept c r h
  accept_bare (Reg q) = refl
  accept_bare (Slot k) = refl

  copy_bare : (h g : Home) → form.copy b r h g ≡ form.copy c r h g
  copy_bare (Reg q) g = bring_bare q g
  copy_bare (Slot k) g = rw (fetch_bare 12 g) (rw (fetched_bare 12 g) refl)

  right_bare : (o : Operand) → form.right b r o ≡ form.right c r o
  right_bare (operand.Temporary t) = fetch_bare 15 (home c r t)
  right_bare (operand.Number z) = refl

  right_operand_bare : (o : Operand) → form.right_operand b r o ≡ form.right_operand c r o
  right_operand_bare (operand.Temporary t) = rw (fetched_bare 15 (home c r t)) refl
  right_operand_bare (operand.Number z) = refl

  base_code_bare : (a : Base) → form.base_code b r a ≡ form.base_code c r a
  base_code_bare base.Frame = refl
  base_code_bare base.Scratch = refl
  base_code_bare base.Program = refl
  base_code_bare (base.Temporary t) = fetch_bare 12 (home c r t)

  base_register_bare : (a : Base) → form.base_register b r a ≡ form.base_register c r a
  base_register_bare base.Frame = refl
  base_register_bare base.Scratch = refl
  base_register_bare base.Program = refl
  base_register_bare (base.Temporary t) = fetched_bare 12 (home c r t)

  base_offset_bare : (a : Base) (n : ℕ) → form.base_offset b r a n ≡ form.base_offset c r a n
  base_offset_bare base.Frame n = refl
  base_offset_bare base.Scratch n = refl
  base_offset_bare base.Program n = refl
  base_offset_bare (base.Temporary t) n = refl

  base_address_bare : (a : Base) → form.base_address b r a ≡ form.base_address c r a
  base_address_bare base.Frame = refl
  base_address_bare base.Scratch = refl
  base_address_bare base.Program = refl
  base_address_bare (base.Temporary t) = fetch_bare 15 (home c r t)

  address_register_bare : (a : Base) → form.address_register b r a ≡ form.address_register c r a
  address_register_bare base.Frame = refl
  address_register_bare base.Scratch = refl
  address_register_bare base.Program = refl
  address_register_bare (base.Temporary t) = fetched_bare 15 (home c r t)

  divisor_bare : (o : Operand) → form.divisor b r o ≡ form.divisor c r o
  divisor_bare (operand.Temporary t) = bring_bare 15 (home c r t)
  divisor_bare (operand.Number z) = refl

  modulus_bare : (o : Operand) → form.modulus b r o ≡ form.modulus c r o
  modulus_bare (operand.Temporary t) = fetch_bare 15 (home c r t)
  modulus_bare (operand.Number z) = refl

  modulus_register_bare : (o : Operand) → form.modulus_register b r o ≡ form.modulus_register c r o
  modulus_register_bare (operand.Temporary t) = fetched_bare 15 (home c r t)
  modulus_register_bare (operand.Number z) = refl

  load_bare : (width : Width) (t : ℕ) (a : Base) (n : ℕ) → form.load_form b r width t a n
      ≡ form.load_form c r width t a n
  load_bare width t a n =
      rw (base_code_bare a) (rw (base_register_bare a)
      (rw (base_offset_bare a n) (rw (target_bare (home c r t)) (rw (save_bare (home c r t)) refl))))

  word_bare : (o : Option (ℕ × ℤ)) (t : ℕ) (a : Base) (n : ℕ) → form.word_form b r o t a n ≡ form.word_form c r o t a n
  word_bare None t a n = load_bare _ t a n
  word_bare (Some deferred) t a n = refl

  block_bare : (a : Base) → block_at b r a ≡ block_at c r a
  block_bare base.Frame = refl
  block_bare base.Scratch = refl
  block_bare base.Program = refl
  block_bare (base.Temporary t) = refl

  near_code_bare : (a : Base) → form.near_code b r a ≡ form.near_code c r a
  near_code_bare base.Frame = refl
  near_code_bare base.Scratch = refl
  near_code_bare base.Program = refl
  near_code_bare (base.Temporary t) = fetch_bare 15 (home c r t)

  near_register_bare : (a : Base) → form.near_register b r a ≡ form.near_register c r a
  near_register_bare base.Frame = refl
  near_register_bare base.Scratch = refl
  near_register_bare base.Program = refl
  near_register_bare (base.Temporary t) = fetched_bare 15 (home c r t)

  index_by_bare : (n : Option ℕ) (o : Option (ℕ × ℤ)) (t : ℕ) (a : Base) (i : ℕ) (low high : ℤ) (width error line : ℕ)
      → form.index_by b r n o t a i low high width error line ≡ form.index_by c r n o t a i low high width error line
  index_by_bare None None t a i low high width error line =
      rw (fetch_bare 12 (home c r i)) (rw (fetched_bare 12 (home c r i))
      (rw (base_address_bare a) (rw (address_register_bare a)
      (rw (target_bare (home c r t)) (rw (save_bare (home c r t)) refl)))))
  index_by_bare None (Some deferred) t a i low high width error line =
      rw (fetch_bare 12 (home c r i)) (rw (fetched_bare 12 (home c r i)) (rw (base_register_bare a) refl))
  index_by_bare (Some n) None t a i low high width error line =
      rw (fetch_bare 12 (home c r i)) (rw (fetched_bare 12 (home c r i))
      (rw (base_register_bare a) (rw (target_bare (home c r t)) (rw (save_bare (home c r t)) refl))))
  index_by_bare (Some n) (Some deferred) t a i low high width error line =
      rw (fetch_bare 12 (home c r i)) (rw (fetched_bare 12 (home c r i))
      (rw (near_code_bare a) (rw (near_register_bare a) refl)))

  index_bare : (o : Option (ℕ × ℤ)) (t : ℕ) (a : Base) (i : ℕ) (low high : ℤ) (width error line : ℕ)
      → form.index_form b r o t a i low high width error line ≡ form.index_form c r o t a i low high width error line
  index_bare o t a i low high width error line =
      ap (λ x. form.index_by b r (short_of (fold_in error low high width x) (near_of o a)) o t a i low high width error
      line) (block_bare a) ∙ index_by_bare (short_of (folded c r a low high width error) (near_of o a)) o t a i low high
      width error line

  store_bare : (width : Width) (a : Base) (n u : ℕ) → form.store_form b r width a n u ≡ form.store_form c r width a n u
  store_bare width a n u =
      rw (base_code_bare a) (rw (base_register_bare a)
      (rw (base_offset_bare a n) (rw (fetch_bare 15 (home c r u)) (rw (fetched_bare 15 (home c r u)) refl))))

  address_bare : (d : ℕ) (a : Base) (n : ℕ) → form.address b r d a n ≡ form.address c r d a n
  address_bare d a n =
      rw (base_code_bare a) (rw (base_register_bare a) (rw (base_offset_bare a n) refl))

  pass_bare : (n j : ℕ) (us : List ℕ) → form.pass b r n j us ≡ form.pass c r n j us
  pass_bare n j [] = refl
  pass_bare n j (u ∷ us) =
      rw (fetch_bare 12 (home c r u)) (rw (fetched_bare 12 (home c r u)) (rw (pass_bare n (suc j) us) refl))

  carry_bare : (n j : ℕ) (us : List ℕ) → form.carry b r n j us ≡ form.carry c r n j us
  carry_bare n zero us = refl
  carry_bare n (suc j) us = rw (into_bare j (home c r (slice_index us j))) (rw (carry_bare n j us) refl)

  offer_bare : (us : List ℕ) → form.offer b r us ≡ form.offer c r us
  offer_bare us =
      rw (pass_bare (carried (length us)) 0 us) (rw (carry_bare (carried (length us)) (carried (length us)) us) refl)

  offer_by_bare : (a : ℕ) (us : List ℕ) → form.offer_by b r a us ≡ form.offer_by c r a us
  offer_by_bare a us =
      rw (pass_bare (carried (length us)) 0 us)
      (rw (bring_bare 12 (home c r a)) (rw (carry_bare (carried (length us)) (carried (length us)) us) refl))

  arithmetic_bare : (operator : Operator) (t a : ℕ) (o : Operand) (error line : ℕ)
      → form.arithmetic_form b r operator t a o error line ≡ form.arithmetic_form c r operator t a o error line
  arithmetic_bare Add t a o error line =
      rw (fetch_bare 12 (home c r a)) (rw (fetched_bare 12 (home c r a))
      (rw (right_bare o) (rw (right_operand_bare o)
      (rw (target_bare (home c r t)) (rw (save_bare (home c r t)) refl)))))
  arithmetic_bare Subtract t a o error line =
      rw (fetch_bare 12 (home c r a)) (rw (fetched_bare 12 (home c r a))
      (rw (right_bare o) (rw (right_operand_bare o)
      (rw (target_bare (home c r t)) (rw (save_bare (home c r t)) refl)))))
  arithmetic_bare Multiply t a o error line =
      rw (fetch_bare 12 (home c r a)) (rw (fetched_bare 12 (home c r a))
      (rw (right_bare o) (rw (right_operand_bare o)
      (rw (target_bare (home c r t)) (rw (save_bare (home c r t)) refl)))))
  arithmetic_bare Divide t a o error line =
      rw (fetch_bare 12 (home c r a)) (rw (fetched_bare 12 (home c r a))
      (rw (divisor_bare o) (rw (right_operand_bare o)
      (rw (target_bare (home c r t)) (rw (save_bare (home c r t)) (rw (receive_bare (home c r t)) refl))))))
  arithmetic_bare Modulo t a o error line =
      rw (fetch_bare 12 (home c r a)) (rw (fetched_bare 12 (home c r a))
      (rw (modulus_bare o) (rw (modulus_register_bare o)
      (rw (right_operand_bare o) (rw (target_bare (home c r t)) (rw (save_bare (home c r t)) refl))))))

  branch_bare : (q : Option Condition) (relation : Relation) (a : ℕ) (o : Operand) (label : _)
      → form.branch_by b r q relation a o label ≡ form.branch_by c r q relation a o label
  branch_bare (Some flagged) relation a o label = refl
  branch_bare None relation a o label =
      rw (fetch_bare 12 (home c r a)) (rw (fetched_bare 12 (home c r a))
      (rw (right_bare o) (rw (right_operand_bare o) refl)))

  truth_bare : (relation : Relation) (t a : ℕ) (o : Operand) → form.truth_form b r relation t a o
      ≡ form.truth_form c r relation t a o
  truth_bare relation t a o =
      rw (fetch_bare 12 (home c r a)) (rw (fetched_bare 12 (home c r a))
      (rw (right_bare o) (rw (right_operand_bare o)
      (rw (target_bare (home c r t)) (rw (save_bare (home c r t)) refl)))))

  unlike_bare : (flagged : Option ℕ) (t a : ℕ) (o : Operand) → form.unlike_form b r flagged t a o
      ≡ form.unlike_form c r flagged t a o
  unlike_bare flagged t a o =
      rw (fetch_bare 12 (home c r a)) (rw (fetched_bare 12 (home c r a))
      (rw (right_bare o) (rw (right_operand_bare o)
      (rw (target_bare (home c r t)) (rw (save_bare (home c r t)) refl)))))

  compare_bare : (flagged : Option ℕ) (relation : Relation) (t a : ℕ) (o : Operand)
      → form.compare_form b r flagged relation t a o ≡ form.compare_form c r flagged relation t a o
  compare_bare flagged NotEqual t a o = unlike_bare flagged t a o
  compare_bare flagged Equal t a o = truth_bare Equal t a o
  compare_bare flagged Less t a o = truth_bare Less t a o
  compare_bare flagged LessEqual t a o = truth_bare LessEqual t a o
  compare_bare flagged Greater t a o = truth_bare Greater t a o
  compare_bare flagged GreaterEqual t a o = truth_bare GreaterEqual t a o

  label_bare : (t : ℕ) (label : _) → form.label_form b r t label ≡ form.label_form c r t label
  label_bare t label = rw (target_bare (home c r t)) (rw (save_bare (home c r t)) refl)

  form_bare : (k : ℕ) (i : Instruction) → form.form b r k i ≡ form.form c r k i
  form_bare k (Literal t z) = rw (target_bare (home c r t)) (rw (save_bare (home c r t)) refl)
  form_bare k (Copy t a) = copy_bare (home c r t) (home c r a)
  form_bare k (Arithmetic operator t a o error line) = arithmetic_bare operator t a o error line
  form_bare k (Bits operator t a o) =
      rw (fetch_bare 12 (home c r a)) (rw (fetched_bare 12 (home c r a))
      (rw (right_bare o) (rw (right_operand_bare o)
      (rw (target_bare (home c r t)) (rw (save_bare (home c r t)) refl)))))
  form_bare k (Compare relation t a o) = compare_bare (flagged_at c r k) relation t a o
  form_bare k (CheckRange a low high error line) =
      rw (fetch_bare 12 (home c r a)) (rw (fetched_bare 12 (home c r a)) refl)
  form_bare k (CheckPointer a error line) = rw (bring_bare 12 (home c r a)) refl
  form_bare k (Text t bytes) = label_bare t _
  form_bare k (Offset t a n extent) =
      rw (target_bare (home c r t)) (rw (save_bare (home c r t))
      (rw (address_bare (form.target c r (home c r t)) a n) refl))
  form_bare k (Index t a i low high width error line) = index_bare (deferred_at c r (suc k)) t a i low high width error
      line
  form_bare k (RoutineValue t q) = label_bare t _
  form_bare k (Load t a n) = word_bare (deferred_at c r k) t a n
  form_bare k (Store a n u) = store_bare _ a n u
  form_bare k (LoadByte t a n) = load_bare _ t a n
  form_bare k (StoreByte a n u) = store_bare _ a n u
  form_bare k (Jump n) = refl
  form_bare k (JumpBack n) = refl
  form_bare k (Branch relation a o n) = branch_bare (form.branch_choice c r (flagged_at c r k) relation a o) relation a
      o _
  form_bare k (BranchBack relation a o n) = branch_bare
      (form.branch_choice c r (flagged_at c r k) relation a o) relation a o _
  form_bare k (Call t q us line) = rw (offer_bare us) (rw (accept_bare (home c r t)) refl)
  form_bare k (CallValue t a us line) = rw (offer_by_bare a us) (rw (accept_bare (home c r t)) refl)
  form_bare k (Return a) = rw (into_bare 0 (home c r a)) refl
  form_bare k (Trap error line) = refl
  form_bare k (Take t) = label_free t
    where
      label_free : (t : ℕ) → form.take_form b r t ≡ form.take_form c r t
      label_free t = rw (target_bare (home c r t)) (rw (save_bare (home c r t)) refl)
  form_bare k (Put a) = rw (fetch_bare 12 (home c r a)) (rw (fetched_bare 12 (home c r a)) refl)
  form_bare k (New t type line) = rw (receive_bare (home c r t)) refl
  form_bare k End = refl

  take_bare : (j : ℕ) (h : Home) → form.take b r j h ≡ form.take c r j h
  take_bare j (Reg q) = refl
  take_bare j (Slot k) = refl

  spill_bare : (m n j count : ℕ) → form.spill b r m n j count ≡ form.spill c r m n j count
  spill_bare m n j zero = refl
  spill_bare m n j (suc count) = rw (take_bare j (home c r j)) (rw (spill_bare m n (suc j) count) refl)

  parameters_bare : (m n j count : ℕ) → form.parameters b r m n j count ≡ form.parameters c r m n j count
  parameters_bare m n j zero = refl
  parameters_bare m n j (suc count) =
      rw (target_bare (home c r j)) (rw (save_bare (home c r j)) (rw (parameters_bare m n (suc j) count) refl))

  arrive_bare : (n count : ℕ) → form.arrive b r n count ≡ form.arrive c r n count
  arrive_bare n count =
      rw (spill_bare (form.carried count) n 0 count) (rw (parameters_bare (form.carried count) n 0 count) refl)

  entry_bare : (routine : TacRoutine) → form.entry_form b r routine ≡ form.entry_form c r routine
  entry_bare routine =
      rw (arrive_bare (c.costs r) routine.parameters) (rw (arrive_bare 0 routine.parameters) refl)

start_bare : (c : Context) (block : TacRoutine) → start_form (bare c) block ≡ start_form c block
start_bare c block = refl

module _ (c c' : Context) (alike : Alike c c') where
  pub accepts_alike : (r t : ℕ) → form.accept c' r (home c' r t) ≡ form.accept c r (home c r t)
  accepts_alike r t =
      sym (accept_bare c' r (home c' r t)) ∙ ap (λ x. form.accept x r (home x r t)) (bare_same c c' alike)
      ∙ accept_bare c r (home c r t)

  pub forms_alike : (r k : ℕ) (i : Instruction) → form.form c' r k i ≡ form.form c r k i
  forms_alike r k i =
      sym (form_bare c' r k i) ∙ ap (λ x. form.form x r k i) (bare_same c c' alike) ∙ form_bare c r k i

  pub entries_alike : (r : ℕ) (routine : TacRoutine) → form.entry_form c' r routine ≡ form.entry_form c r routine
  entries_alike r routine =
      sym (entry_bare c' r routine) ∙ ap (λ x. form.entry_form x r routine) (bare_same c c' alike)
      ∙ entry_bare c r routine

  pub starts_alike : (block : TacRoutine) → start_form c' block ≡ start_form c block
  starts_alike block =
      sym (start_bare c' block) ∙ ap (λ x. start_form x block) (bare_same c c' alike) ∙ start_bare c block
