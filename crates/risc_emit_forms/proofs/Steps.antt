-- One step of three-address code, followed by the words of its instruction.
use Rattle.std.proofs.Common.{◌≡◌, ℕ, suc, ◌+◌, ◌-◌, ◌*◌, ◌<◌, ◌⊎◌, inl, inr, Bool, true, false, cond, not, nat_lt}
use Rattle.std.proofs.Common.{List, [], ◌∷◌, length, Option, Some, None, slice_get, ℤ, pos, negsuc, refl, sym, subst}
use Rattle.std.proofs.Common.{ap, ◌∙◌}
use Rattle.std.proofs.lemmas.Bool.{ltb-true}
use Rattle.behavior.specs.Endings.{Stuck, Heap}
use Rattle.risc_machine.specs.Step as machine
use Rattle.risc_machine_laws.specs.View.{View, Shows}
use Rattle.tac_code.specs.declared.code.Block.{Block}
use Rattle.tac_code.specs.declared.code.Operator.{Operator}
use Rattle.tac_code.specs.declared.code.Operator.TheVariants.{Add, Subtract, Multiply, Divide, Modulo}
use Rattle.tac_code.specs.declared.code.Operand.{Operand}
use Rattle.tac_code.specs.declared.code.Value.{Value}
use Rattle.tac_code.specs.declared.code.Value.TheVariants.{Number, Address, Routine}
use Rattle.tac_code.specs.declared.code.Instruction.{Instruction}
use Rattle.tac_code.specs.declared.code.Instruction.TheVariants.{Literal, Copy, Arithmetic, Bits, Compare, CheckRange}
use Rattle.tac_code.specs.declared.code.Instruction.TheVariants.{CheckPointer, Text, Offset, Index, RoutineValue, Load}
use Rattle.tac_code.specs.declared.code.Instruction.TheVariants.{Store, LoadByte, StoreByte, Jump, JumpBack, Branch}
use Rattle.tac_code.specs.declared.code.Instruction.TheVariants.{BranchBack, Call, CallValue, Return, Trap, Take, Put}
use Rattle.tac_code.specs.declared.code.Instruction.TheVariants.{New, End}
use Rattle.tac_code.specs.Numbers.{computed, steps_above, is_in_range}
use Rattle.tac_code.specs.Memory.{load, load_byte, store, store_byte}
use Rattle.tac_code.specs.Meaning as meaning
use Rattle.tac_code.specs.Meaning.{fetch, text_at, Activation, State, Step, Goes, Over, with_some, with_number}
use Rattle.tac_code.specs.Meaning.{with_address, with_routine, with_byte_value, operand_value, base_value, pointer_of}
use Rattle.tac_code.specs.Meaning.{is_nil, related, values_of, onward, giving, puts, gives, gives_address}
use Rattle.tac_code.specs.Meaning.{gives_computed, gives_component, checks, goes_on, goes_to, stores, enter, leave}
use Rattle.tac_code.specs.Meaning.{makes, act, step}
use Rattle.risc_emit_relation.specs.Context.{Context, Places}
use Rattle.risc_emit_relation.specs.Related.{Related}
use Rattle.tac_code.specs.declared.code.Base.TheVariants as base
use Rattle.tac_code.specs.declared.code.TheConstants.{BLOCK_LIMIT}
use Rattle.risc_emit_forms.specs.Peephole.{deferred_at}
use Rattle.risc_emit_forms.specs.Follows.{machine_of, with_deferred, Built, Meets, Belongs, Comes, Follows}
use Rattle.risc_emit_forms.proofs.Shortfalls.{DeferredLoad, DeferredRow, deferred_is}
use Rattle.risc_emit_forms.proofs.Moves.{literal_follows, copy_follows, text_follows, routine_follows, forward_follows}
use Rattle.risc_emit_forms.proofs.Moves.{back_follows}
use Rattle.risc_emit_forms.proofs.Devices.{trap_follows, end_follows, put_follows, take_follows}
use Rattle.risc_emit_forms.proofs.Memory.{deferred_load_follows, load_follows, store_follows, load_byte_follows}
use Rattle.risc_emit_forms.proofs.Memory.{store_byte_follows}
use Rattle.risc_emit_forms.proofs.Offsets.{offset_follows}
use Rattle.risc_emit_forms.proofs.Branches.{forward_branch_follows, back_branch_follows}
use Rattle.risc_emit_forms.proofs.Truths.{compare_follows}
use Rattle.risc_emit_forms.proofs.Returns.{return_follows}
use Rattle.risc_emit_forms.proofs.Calls.{call_follows, call_value_follows}
use Rattle.risc_emit_forms.proofs.Numbers.{add_follows, subtract_follows, bits_follows}
use Rattle.risc_emit_forms.proofs.Products.{multiply_follows}
use Rattle.risc_emit_forms.proofs.Divisions.{modulo_follows}
use Rattle.risc_emit_forms.proofs.Divides.{divide_follows}
use Rattle.risc_emit_forms.proofs.Checks.{check_range_follows, check_pointer_follows}
use Rattle.risc_emit_forms.proofs.Indexes.{index_follows}
use Rattle.risc_emit_forms.proofs.Rows.{row_follows}
use Rattle.risc_emit_forms.proofs.News.{new_follows}

module _ (c : Context) (words : List ℕ) (b : Built c words) (p : Places) (S H : ℕ) (stack : S + c.base ≡ c.size)
    (heap : H + c.heap_at ≡ c.base) (s : State) (f : ℕ) (m : machine.State) (v : View) (sh : Shows words c.size m v)
    (be : Belongs c words p s v f) where
  -- ---- what an instruction finds

  option_follows : {A : Type 0} (o : Option A) (go : A → Step) → ((x : A) → o ≡ Some x → Follows c words (go x) s m)
      → Follows c words (with_some o go) s m
  option_follows None go h = inl refl
  option_follows (Some x) go h = h x refl

  number_follows : (o : Option Value) (go : ℤ → Step) → ((z : ℤ) → o ≡ Some (Number z) → Follows c words (go z) s m)
      → Follows c words (with_number o go) s m
  number_follows None go h = inl refl
  number_follows (Some (Number z)) go h = h z refl
  number_follows (Some (Address block offset)) go h = inl refl
  number_follows (Some (Routine r)) go h = inl refl

  address_follows : (o : Option Value) (go : Block → ℕ → Step)
      → ((block : Block) (offset : ℕ) → o ≡ Some (Address block offset) → Follows c words (go block offset) s m)
      → Follows c words (with_address o go) s m
  address_follows None go h = inl refl
  address_follows (Some (Number z)) go h = inl refl
  address_follows (Some (Address block offset)) go h = h block offset refl
  address_follows (Some (Routine r)) go h = inl refl

  routine_value_follows : (o : Option Value) (go : ℕ → Step)
      → ((r : ℕ) → o ≡ Some (Routine r) → Follows c words (go r) s m) → Follows c words (with_routine o go) s m
  routine_value_follows None go h = inl refl
  routine_value_follows (Some (Number z)) go h = inl refl
  routine_value_follows (Some (Address block offset)) go h = inl refl
  routine_value_follows (Some (Routine r)) go h = h r refl

  byte_follows : (z : ℤ) (go : ℕ → Step) → ((n : ℕ) → z ≡ pos n → n < 256 → Follows c words (go n) s m)
      → Follows c words (with_byte_value z go) s m
  byte_follows (pos n) go h = small (nat_lt n 256) refl
    where
      small : (t : Bool) → nat_lt n 256 ≡ t → Follows c words (cond t (go n) (Over Stuck)) s m
      small true e = h n refl (ltb-true n 256 e)
      small false e = inl refl
  byte_follows (negsuc n) go h = inl refl

  -- ---- parts with a choice

  bounded_follows : (t : ℕ) (block : Block) (offset : ℕ)
      → (offset < BLOCK_LIMIT → Comes c words s (record s { current = giving t (Address block offset) s.current }) m)
      → Follows c words (gives_address t block offset s) s m
  bounded_follows t block offset h = small (nat_lt offset BLOCK_LIMIT) refl
    where
      small : (x : Bool) → nat_lt offset BLOCK_LIMIT ≡ x → Follows c words
          (cond x (gives t (Address block offset) s) (Over Stuck)) s m
      small true e = h (ltb-true offset BLOCK_LIMIT e)
      small false e = inl refl

  leave_follows : (a : ℕ) (y : Value) (xs : List Activation) → fetch c.code s.current.routine s.current.place ≡ Some
      (Return a) → s.current.temporaries a ≡ Some y → s.callers ≡ xs → Follows c words (leave y xs s) s m
  leave_follows a y [] here e is = inl refl
  leave_follows a y (x ∷ xs) here e is = return_follows c words b p s f m v sh be x xs is a y here e

  branch_choice : (holds : Bool) (there : ℕ) → Comes c words s
      (record s { current = record s.current { place = cond holds there (suc s.current.place) } }) m → Follows c words
      (cond holds (goes_to there s) (goes_on s)) s m
  branch_choice true there h = h
  branch_choice false there h = h

  makes_follows : (t type line bytes : ℕ) → fetch c.code s.current.routine s.current.place ≡ Some (New t type line)
      → slice_get c.code.objects type ≡ Some bytes → (full : Bool) → nat_lt H (s.heap + c.sizes type) ≡ full
      → Follows c words (cond full (Over (Heap line)) (Goes (meaning.made c.code c.costs c.sizes S H t type bytes s))) s
      m
  makes_follows t type line bytes here e full ef =
      new_follows c words b p S H heap s f m v sh be t type line bytes here e full ef

  value_call_follows : (t a : ℕ) (us : List ℕ) (line q : ℕ) → fetch c.code s.current.routine s.current.place ≡ Some
      (CallValue t a us line) → s.current.temporaries a ≡ Some (Routine q) → (x : Bool) → nat_lt q
      (length c.code.program) ≡ x → Follows c words
      (cond x (meaning.calls c.code c.costs c.sizes S H t q us line s) (Over Stuck)) s m
  value_call_follows t a us line q here e true ex =
      option_follows (values_of s.current.temporaries us)
      (λ vs. enter c.code c.costs c.sizes S H q vs t line (onward s.current ∷ s.callers) s)
      (λ vs ev. call_value_follows c words b p S H stack s f m v sh be t a q us line vs here e
      (ltb-true q (length c.code.program) ex) ev)
  value_call_follows t a us line q here e false ex = inl refl

  -- ---- each instruction

  arithmetic_follows : (operator : Operator) (t a : ℕ) (o : Operand) (error line : ℕ) (x y : ℤ)
      → fetch c.code s.current.routine s.current.place ≡ Some (Arithmetic operator t a o error line)
      → s.current.temporaries a ≡ Some (Number x) → operand_value s.current.temporaries o ≡ Some (Number y)
      → Follows c words (gives_computed c.code t (computed operator error x y) line s) s m
  arithmetic_follows Add t a o error line x y here ea eo = add_follows c words b p s f m v sh be t a o error line x y
      here ea eo
  arithmetic_follows Subtract t a o error line x y here ea eo = subtract_follows c words b p s f m v sh be t a o error
      line x y here ea eo
  arithmetic_follows Multiply t a o error line x y here ea eo = multiply_follows c words b p s f m v sh be t a o error
      line x y here ea eo
  arithmetic_follows Divide t a o error line x y here ea eo = divide_follows c words b p s f m v sh be t a o error line
      x y here ea eo
  arithmetic_follows Modulo t a o error line x y here ea eo = modulo_follows c words b p s f m v sh be t a o error line
      x y here ea eo

  act_follows : (i : Option Instruction) → fetch c.code s.current.routine s.current.place ≡ i → Follows c words
      (act c.code c.costs c.sizes S H i s) s m
  act_follows None here = inl refl
  act_follows (Some (Literal t z)) here = literal_follows c words b p s f m v sh be t z here
  act_follows (Some (Copy t a)) here =
      option_follows (s.current.temporaries a) _ (λ x e. copy_follows c words b p s f m v sh be t a x here e)
  act_follows (Some (Arithmetic operator t a o error line)) here =
      number_follows (s.current.temporaries a) _
      (λ x ex. number_follows (operand_value s.current.temporaries o) _
      (λ y ey. arithmetic_follows operator t a o error line x y here ex ey))
  act_follows (Some (Bits operator t a o)) here =
      number_follows (s.current.temporaries a) _
      (λ x ex. number_follows (operand_value s.current.temporaries o) _
      (λ y ey. bits_follows c words b p s f m v sh be operator t a o x y here ex ey))
  act_follows (Some (Compare relation t a o)) here =
      option_follows (related relation (s.current.temporaries a) (operand_value s.current.temporaries o)) _
      (λ holds e. compare_follows c words b p s f m v sh be relation t a o holds here e)
  act_follows (Some (CheckRange a low high error line)) here =
      number_follows (s.current.temporaries a) _
      (λ x e. check_range_follows c words b p s f m v sh be a low high error line x here e)
  act_follows (Some (CheckPointer a error line)) here = pointer (s.current.temporaries a) refl
    where
      pointer : (o : Option Value) → s.current.temporaries a ≡ o → Follows c words
          (with_some (pointer_of o) (λ q. checks c.code (not (is_nil q)) error line s)) s m
      pointer None e = inl refl
      pointer (Some x) e =
          option_follows (pointer_of (Some x)) _ (λ q eq. check_pointer_follows c words b p s f m v sh be a error line x
          q here e eq)
  act_follows (Some (Text t bytes)) here = text_follows c words b p s f m v sh be t bytes here
  act_follows (Some (Offset t a n extent)) here =
      address_follows (base_value s.current a) _
      (λ block offset e. bounded_follows t block (offset + n)
      (λ lt. offset_follows c words b p s f m v sh be t a n extent block offset here e lt))
  act_follows (Some (Index t a i low high width error line)) here =
      address_follows (base_value s.current a) _
      (λ block offset e. number_follows (s.current.temporaries i) _
      (λ x ex. index_follows c words b p s f m v sh be t a i low high width error line block offset x here e ex))
  act_follows (Some (RoutineValue t r)) here = routine_follows c words b p s f m v sh be t r here
  act_follows (Some (Load t a n)) here =
      address_follows (base_value s.current a) _
      (λ block offset e. option_follows (load (text_at c.code) s.memory block (offset + n)) _
      (λ x ex. load_follows c words b p s f m v sh be t a n block offset x here e ex))
  act_follows (Some (Store a n u)) here =
      address_follows (base_value s.current a) _
      (λ block offset e. option_follows (s.current.temporaries u) _
      (λ x ex. option_follows (store s.memory block (offset + n) x) _
      (λ memory em. store_follows c words b p s f m v sh be a n u block offset x memory here e ex em)))
  act_follows (Some (LoadByte t a n)) here =
      address_follows (base_value s.current a) _
      (λ block offset e. option_follows (load_byte (text_at c.code) s.memory block (offset + n)) _
      (λ byte eb. load_byte_follows c words b p s f m v sh be t a n block offset byte here e eb))
  act_follows (Some (StoreByte a n u)) here =
      address_follows (base_value s.current a) _
      (λ block offset e. number_follows (s.current.temporaries u) _
      (λ x ex. byte_follows x _ (λ byte eb lt. option_follows (store_byte s.memory block (offset + n) byte) _
      (λ memory em. store_byte_follows c words b p s f m v sh be a n u block offset byte memory here e
      (ex ∙ ap (λ z. Some (Number z)) eb) lt em))))
  act_follows (Some (Jump n)) here = forward_follows c words b p s f m v sh be n here
  act_follows (Some (JumpBack n)) here = back_follows c words b p s f m v sh be n here
  act_follows (Some (Branch relation a o n)) here =
      option_follows (related relation (s.current.temporaries a) (operand_value s.current.temporaries o)) _
      (λ holds e. branch_choice holds (suc s.current.place + n)
      (forward_branch_follows c words b p s f m v sh be relation a o n holds here e))
  act_follows (Some (BranchBack relation a o n)) here =
      option_follows (related relation (s.current.temporaries a) (operand_value s.current.temporaries o)) _
      (λ holds e. branch_choice holds (s.current.place - n)
      (back_branch_follows c words b p s f m v sh be relation a o n holds here e))
  act_follows (Some (Call t q us line)) here =
      option_follows (values_of s.current.temporaries us) _
      (λ vs ev. call_follows c words b p S H stack s f m v sh be t q us line vs here ev)
  act_follows (Some (CallValue t a us line)) here =
      routine_value_follows (s.current.temporaries a) _
      (λ q e. value_call_follows t a us line q here e (nat_lt q (length c.code.program)) refl)
  act_follows (Some (Return a)) here =
      option_follows (s.current.temporaries a) _ (λ y e. leave_follows a y s.callers here e refl)
  act_follows (Some (Trap error line)) here = trap_follows c words b p s f m v sh be error line here
  act_follows (Some (Take t)) here = take_follows c words b p s f m v sh be t s.tape.input here refl
  act_follows (Some (Put a)) here =
      number_follows (s.current.temporaries a) _
      (λ x e. byte_follows x _ (λ n en lt. put_follows c words b p s f m v sh be a n lt here
      (e ∙ ap (λ z. Some (Number z)) en)))
  act_follows (Some (New t type line)) here =
      option_follows (slice_get c.code.objects type) _
      (λ bytes e. makes_follows t type line bytes here e (nat_lt H (s.heap + c.sizes type)) refl)
  act_follows (Some End) here = inr (end_follows c words b p s f m v sh be here)

-- ---- from any state that meets

module _ (c : Context) (words : List ℕ) (b : Built c words) (p : Places) (S H : ℕ) (stack : S + c.base ≡ c.size)
    (heap : H + c.heap_at ≡ c.base) (s : State) (f : ℕ) (m : machine.State) (v : View) (sh : Shows words c.size m v)
    (me : Meets c words p s v f) where
  loads : (deferred : ℕ × ℤ) → deferred_at c s.current.routine s.current.place ≡ Some deferred
      → (l : DeferredLoad c s.current.routine s.current.place deferred) → Follows c words
      (act c.code c.costs c.sizes S H (Some (Load l.to (base.Temporary l.to) l.behind)) s) s m
  loads deferred is l = by_address (s.current.temporaries l.to) refl
    where
      by_value : (block : Block) (offset : ℕ) → s.current.temporaries l.to ≡ Some (Address block offset)
          → (o : Option Value) → load (text_at c.code) s.memory block (offset + l.behind) ≡ o → Follows c words
          (with_some o (λ x. gives l.to x s)) s m
      by_value block offset e None el = inl refl
      by_value block offset e (Some x) el = deferred_load_follows c words b p s f m v sh me deferred l.to l.behind block
          offset x is l.home l.near l.here e el

      by_address : (o : Option Value) → s.current.temporaries l.to ≡ o → Follows c words
          (with_address o (λ block offset. with_some (load (text_at c.code) s.memory block (offset + l.behind))
          (λ x. gives l.to x s))) s m
      by_address None e = inl refl
      by_address (Some (Number z)) e = inl refl
      by_address (Some (Routine r)) e = inl refl
      by_address (Some (Address block offset)) e = by_value block offset e
          (load (text_at c.code) s.memory block (offset + l.behind)) refl

  rows : (deferred : ℕ × ℤ) → deferred_at c s.current.routine s.current.place ≡ Some deferred
      → (w : DeferredRow c s.current.routine s.current.place deferred) → Follows c words
      (act c.code c.costs c.sizes S H
      (Some (Index w.to (base.Temporary w.to) w.index w.low w.high w.width w.error w.line)) s) s m
  rows deferred is w = by_address (s.current.temporaries w.to) refl
    where
      by_number : (block : Block) (offset : ℕ) → s.current.temporaries w.to ≡ Some (Address block offset)
          → (o : Option Value) → s.current.temporaries w.index ≡ o → Follows c words
          (with_number o (λ x. gives_component c.code (is_in_range w.low w.high x) w.to block
          (offset + steps_above w.low x * w.width) w.error w.line s)) s m
      by_number block offset e None ei = inl refl
      by_number block offset e (Some (Address block' offset')) ei = inl refl
      by_number block offset e (Some (Routine r)) ei = inl refl
      by_number block offset e (Some (Number x)) ei = row_follows c words b p s f m v sh me deferred is w block offset x
          e ei

      by_address : (o : Option Value) → s.current.temporaries w.to ≡ o → Follows c words
          (with_address o (λ block offset. with_number (s.current.temporaries w.index)
          (λ x. gives_component c.code (is_in_range w.low w.high x) w.to block
          (offset + steps_above w.low x * w.width) w.error w.line s))) s m
      by_address None e = inl refl
      by_address (Some (Number z)) e = inl refl
      by_address (Some (Routine r)) e = inl refl
      by_address (Some (Address block offset)) e = by_number block offset e (s.current.temporaries w.index) refl

  pub step_follows : Follows c words (step c.code c.costs c.sizes S H s) s m
  step_follows = go (deferred_at c s.current.routine s.current.place) refl
    where
      go : (o : Option (ℕ × ℤ)) → deferred_at c s.current.routine s.current.place ≡ o → Follows c words
          (step c.code c.costs c.sizes S H s) s m
      go None is =
          let be : Belongs c words p s v f = record {
            related = subst (λ o. Related c p s (with_deferred o (machine_of v)) f) is me.related;
            place = me.place;
            input = me.input;
            flags = (me.flags, is);
          } in
          act_follows c words b p S H stack heap s f m v sh be (fetch c.code s.current.routine s.current.place) refl
      go (Some deferred) is =
          by (deferred_is c s.current.routine s.current.place deferred is)
        where
          by : DeferredLoad c s.current.routine s.current.place deferred ⊎ DeferredRow c s.current.routine
              s.current.place deferred → Follows c words (step c.code c.costs c.sizes S H s) s m
          by (inl l) =
              subst (λ i. Follows c words (act c.code c.costs c.sizes S H i s) s m) (sym l.here) (loads deferred is l)
          by (inr w) =
              subst (λ i. Follows c words (act c.code c.costs c.sizes S H i s) s m) (sym w.here) (rows deferred is w)
