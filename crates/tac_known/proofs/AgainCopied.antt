-- A copy of a temporary that holds an address, a sum or a word gives what is computed or loaded again.
use Rattle.std.proofs.lemmas.Bool.{true≢false, and_parts}
use Rattle.std.proofs.Common.{◌≡◌, ◌≢◌, ℕ, ◌+◌, ◌*◌, Bool, true, false, nat_eq, if◌then◌else◌, Option, Some, None, refl}
use Rattle.std.proofs.Common.{sym, ap, ◌∙◌, subst, eqb-true}
use Rattle.std.specs.Ordering.{int_eq}
use Rattle.std.proofs.lemmas.Option.{none-some, same_Some}
use Rattle.tac_code.specs.declared.code.Base.{Base}
use Rattle.tac_code.specs.declared.code.Base.TheVariants as base
use Rattle.tac_code.specs.declared.code.Operand.{Operand}
use Rattle.tac_code.specs.declared.code.Operand.TheVariants as operand
use Rattle.tac_code.specs.declared.code.Operator.{Operator}
use Rattle.tac_code.specs.declared.code.Operator.TheVariants.{Add, Subtract, Multiply, Divide, Modulo}
use Rattle.tac_code.specs.declared.code.Value.TheVariants.{Number, Address}
use Rattle.tac_code.specs.declared.code.Instruction.{Instruction}
use Rattle.tac_code.specs.declared.code.Instruction.TheVariants.{Literal, Copy, Arithmetic, Bits, Compare, CheckRange}
use Rattle.tac_code.specs.declared.code.Instruction.TheVariants.{CheckPointer, Text, Offset, Index, RoutineValue, Load}
use Rattle.tac_code.specs.declared.code.Instruction.TheVariants.{Store, LoadByte, StoreByte, Jump, JumpBack, Branch}
use Rattle.tac_code.specs.declared.code.Instruction.TheVariants.{BranchBack, Call, CallValue, Return, Trap, Take, Put}
use Rattle.tac_code.specs.declared.code.Instruction.TheVariants.{New, End}
use Rattle.tac_code.specs.Numbers.{computed, is_in_range, steps_above}
use Rattle.tac_code.specs.Memory.{Constants, Memory, load}
use Rattle.tac_code.specs.Meaning.{text_at, Code, Activation, State, Over, operand_value, act, with_some, with_number}
use Rattle.tac_code.specs.Meaning.{with_address, gives, gives_computed, gives_component}
use Rattle.behavior.specs.Endings.{Stuck}
use Rattle.tac_known.specs.declared.again.Component.{Component}
use Rattle.tac_known.specs.declared.again.Sum.{Sum}
use Rattle.tac_known.specs.declared.again.Word.{Word}
use Rattle.tac_known.specs.declared.again.Fact.{Fact}
use Rattle.tac_known.specs.declared.again.Fact.TheVariants.{Empty, Pointed, Summed, Loaded}
use Rattle.tac_known.specs.declared.again.Facts.{Facts}
use Rattle.tac_known.specs.Again.{IsWord, is_same_word, word}
use Rattle.tac_known.specs.Again.{IsComponent, IsSum, IsHeld, AreHeld, is_same_base, is_same_operand, is_same_operator}
use Rattle.tac_known.specs.Again.{is_same_component, is_same_sum, component, total, holder_by, or_other, holder_in}
use Rattle.tac_known.specs.Again.{copy_of, or_itself, again}
use Rattle.tac_known.proofs.Integers.{eq_int}

-- the copy does what the index does
module _ (code : Code) (F G : ℕ → ℕ) (S H : ℕ) (s : State) (c : Component) (t error line : ℕ)
    (is : IsComponent c s.current) where
  abbrev far : ℕ
  far = is.offset + steps_above c.low is.index * c.width

  copy_goes : act code F G S H (Some (Copy t c.holder)) s ≡ gives t (Address is.block far) s
  copy_goes = ap (λ o. with_some o (λ v. gives t v s)) is.held

  index_goes : act code F G S H (Some (Index t c.base c.index c.low c.high c.width error line)) s
      ≡ gives t (Address is.block far) s
  index_goes =
      ap (λ o. with_address o (λ block offset. with_number (s.current.temporaries c.index)
      (λ x. gives_component code (is_in_range c.low c.high x) t block
      (offset + steps_above c.low x * c.width) error line
      s))) is.based
      ∙ ap (λ o. with_number o (λ x. gives_component code (is_in_range c.low c.high x) t is.block
      (is.offset + steps_above c.low x * c.width) error line s)) is.indexed
      ∙ ap (λ b. gives_component code b t is.block far error line s) is.inside
      ∙ ap (λ b. if b then gives t (Address is.block far) s else Over Stuck) is.near

  copied : act code F G S H (Some (Copy t c.holder)) s
      ≡ act code F G S H (Some (Index t c.base c.index c.low c.high c.width error line)) s
  copied = copy_goes ∙ sym index_goes

module _ (code : Code) (F G : ℕ → ℕ) (S H : ℕ) (s : State) (c : Sum) (t line : ℕ) (is : IsSum c s.current) where
  sum_goes : act code F G S H (Some (Arithmetic c.operator t c.left c.right c.error line)) s
      ≡ gives t (Number is.value) s
  sum_goes =
      ap (λ o. with_number o (λ x. with_number (operand_value s.current.temporaries c.right)
      (λ y. gives_computed code t (computed c.operator c.error x y) line s))) is.first
      ∙ ap (λ o. with_number o (λ y. gives_computed code t (computed c.operator c.error is.left y) line s)) is.second
      ∙ ap (λ r. gives_computed code t r line s) is.fits

  sum_copied : act code F G S H (Some (Copy t c.holder)) s
      ≡ act code F G S H (Some (Arithmetic c.operator t c.left c.right c.error line)) s
  sum_copied = ap (λ o. with_some o (λ v. gives t v s)) is.held ∙ sym sum_goes

module _ (code : Code) (F G : ℕ → ℕ) (S H : ℕ) (s : State) (c : Word) (t : ℕ)
    (is : IsWord (text_at code) s.memory c s.current) where
  word_copied : act code F G S H (Some (Copy t c.holder)) s ≡ act code F G S H (Some (Load t c.base c.offset)) s
  word_copied =
      ap (λ o. with_some o (λ v. gives t v s)) is.held
      ∙ sym (ap (λ o. with_address o (λ block offset. with_some (load (text_at code) s.memory block (offset + c.offset))
      (λ v. gives t v s))) is.based
      ∙ ap (λ o. with_some o (λ v. gives t v s)) is.loaded)

-- ---- two that are the same

base_is : (b d : Base) → is_same_base b d ≡ true → b ≡ d
base_is base.Frame base.Frame e = refl
base_is base.Scratch base.Scratch e = refl
base_is base.Program base.Program e = refl
base_is (base.Temporary t) (base.Temporary u) e = ap base.Temporary (eqb-true t u e)
base_is base.Frame base.Scratch e = absurd (true≢false (sym e))
base_is base.Frame base.Program e = absurd (true≢false (sym e))
base_is base.Frame (base.Temporary u) e = absurd (true≢false (sym e))
base_is base.Scratch base.Frame e = absurd (true≢false (sym e))
base_is base.Scratch base.Program e = absurd (true≢false (sym e))
base_is base.Scratch (base.Temporary u) e = absurd (true≢false (sym e))
base_is base.Program base.Frame e = absurd (true≢false (sym e))
base_is base.Program base.Scratch e = absurd (true≢false (sym e))
base_is base.Program (base.Temporary u) e = absurd (true≢false (sym e))
base_is (base.Temporary t) base.Frame e = absurd (true≢false (sym e))
base_is (base.Temporary t) base.Scratch e = absurd (true≢false (sym e))
base_is (base.Temporary t) base.Program e = absurd (true≢false (sym e))

operator_is : (o p : Operator) → is_same_operator o p ≡ true → o ≡ p
operator_is Add Add e = refl
operator_is Add Subtract e = absurd (true≢false (sym e))
operator_is Add Multiply e = absurd (true≢false (sym e))
operator_is Add Divide e = absurd (true≢false (sym e))
operator_is Add Modulo e = absurd (true≢false (sym e))
operator_is Subtract Add e = absurd (true≢false (sym e))
operator_is Subtract Subtract e = refl
operator_is Subtract Multiply e = absurd (true≢false (sym e))
operator_is Subtract Divide e = absurd (true≢false (sym e))
operator_is Subtract Modulo e = absurd (true≢false (sym e))
operator_is Multiply Add e = absurd (true≢false (sym e))
operator_is Multiply Subtract e = absurd (true≢false (sym e))
operator_is Multiply Multiply e = absurd (true≢false (sym e))
operator_is Multiply Divide e = absurd (true≢false (sym e))
operator_is Multiply Modulo e = absurd (true≢false (sym e))
operator_is Divide Add e = absurd (true≢false (sym e))
operator_is Divide Subtract e = absurd (true≢false (sym e))
operator_is Divide Multiply e = absurd (true≢false (sym e))
operator_is Divide Divide e = absurd (true≢false (sym e))
operator_is Divide Modulo e = absurd (true≢false (sym e))
operator_is Modulo Add e = absurd (true≢false (sym e))
operator_is Modulo Subtract e = absurd (true≢false (sym e))
operator_is Modulo Multiply e = absurd (true≢false (sym e))
operator_is Modulo Divide e = absurd (true≢false (sym e))
operator_is Modulo Modulo e = absurd (true≢false (sym e))

operand_is : (b d : Operand) → is_same_operand b d ≡ true → b ≡ d
operand_is (operand.Temporary t) (operand.Temporary u) e = ap operand.Temporary (eqb-true t u e)
operand_is (operand.Number y) (operand.Number z) e = ap operand.Number (eq_int y z e)
operand_is (operand.Temporary t) (operand.Number z) e = absurd (true≢false (sym e))
operand_is (operand.Number y) (operand.Temporary u) e = absurd (true≢false (sym e))

-- the other one is a component too, in the first one's holder
as_same : (c d : Component) (current : Activation) → is_same_component c d ≡ true → IsComponent c current → IsComponent
    (component c.holder d.base d.index d.low d.high d.width) current
as_same c d current e is =
    let p = and_parts (is_same_base c.base d.base) _ e in
    let q = and_parts (nat_eq c.index d.index) _ p.1 in
    let r = and_parts (int_eq c.low d.low) _ q.1 in
    let x = and_parts (int_eq c.high d.high) (nat_eq c.width d.width) r.1 in
    subst (λ b. IsComponent (component c.holder b d.index d.low d.high d.width) current) (base_is c.base d.base p.0)
    (subst (λ x. IsComponent (component c.holder c.base x d.low d.high d.width) current)
    (eqb-true c.index d.index q.0)
    (subst (λ l. IsComponent (component c.holder c.base c.index l d.high d.width) current) (eq_int c.low d.low r.0)
    (subst (λ h. IsComponent (component c.holder c.base c.index c.low h d.width) current) (eq_int c.high d.high x.0)
    (subst (λ w. IsComponent (component c.holder c.base c.index c.low c.high w) current)
    (eqb-true c.width d.width x.1) is))))

as_same_sum : (c d : Sum) (current : Activation) → is_same_sum c d ≡ true → IsSum c current → IsSum
    (total d.operator c.holder d.left d.right d.error) current
as_same_sum c d current e is =
    let p = and_parts (is_same_operator c.operator d.operator) _ e in
    let q = and_parts (nat_eq c.left d.left) _ p.1 in
    let r = and_parts (is_same_operand c.right d.right) (nat_eq c.error d.error) q.1 in
    subst (λ o. IsSum (total o c.holder d.left d.right d.error) current) (operator_is c.operator d.operator p.0)
    (subst (λ x. IsSum (total c.operator c.holder x d.right d.error) current) (eqb-true c.left d.left q.0)
    (subst (λ b. IsSum (total c.operator c.holder c.left b d.error) current) (operand_is c.right d.right r.0)
    (subst (λ n. IsSum (total c.operator c.holder c.left c.right n) current) (eqb-true c.error d.error r.1) is)))

either : (P : ℕ → Type 0) (o p : Option ℕ) → ((h : ℕ) → o ≡ Some h → P h) → ((h : ℕ) → p ≡ Some h → P h)
    → (h : ℕ) → or_other o p ≡ Some h → P h
either P None p f g h e = g h e
either P (Some x) p f g h e = f h e

module _ (constants : Constants) (m : Memory) where
  -- ---- a temporary that holds what an instruction gives

  abbrev pub Holds : Fact → Activation → ℕ → Type 0
  Holds Empty current h = Unit {0}
  Holds (Pointed d) current h = IsComponent (component h d.base d.index d.low d.high d.width) current
  Holds (Summed d) current h = IsSum (total d.operator h d.left d.right d.error) current
  Holds (Loaded d) current h = IsWord constants m (word h d.base d.offset) current

  as_same_word : (c d : Word) (current : Activation) → is_same_word c d ≡ true → IsWord constants m c current
      → IsWord constants m (word c.holder d.base d.offset) current
  as_same_word c d current e is =
      let p = and_parts (is_same_base c.base d.base) _ e in
      subst (λ b. IsWord constants m (word c.holder b d.offset) current) (base_is c.base d.base p.0)
      (subst (λ n. IsWord constants m (word c.holder c.base n) current) (eqb-true c.offset d.offset p.1) is)

  by_holds : (given fact : Fact) (current : Activation) → IsHeld constants m fact current → (h : ℕ) →
      holder_by given fact ≡ Some h
      → Holds given current h
  by_holds Empty fact current is h e = tt
  by_holds (Pointed d) Empty current is h e = absurd (none-some h e)
  by_holds (Pointed d) (Summed c) current is h e = absurd (none-some h e)
  by_holds (Pointed d) (Loaded c) current is h e = absurd (none-some h e)
  by_holds (Pointed d) (Pointed c) current is h e = which (is_same_component c d) refl e
    where
      which : (b : Bool) → is_same_component c d ≡ b → (if b then Some c.holder else None) ≡ Some h
          → IsComponent (component h d.base d.index d.low d.high d.width) current
      which true f e =
          subst (λ h. IsComponent (component h d.base d.index d.low d.high d.width) current) (same_Some c.holder h e)
          (as_same c d current f is)
      which false f e = absurd (none-some h e)
  by_holds (Summed d) Empty current is h e = absurd (none-some h e)
  by_holds (Summed d) (Pointed c) current is h e = absurd (none-some h e)
  by_holds (Summed d) (Loaded c) current is h e = absurd (none-some h e)
  by_holds (Summed d) (Summed c) current is h e = which (is_same_sum c d) refl e
    where
      which : (b : Bool) → is_same_sum c d ≡ b → (if b then Some c.holder else None) ≡ Some h
          → IsSum (total d.operator h d.left d.right d.error) current
      which true f e =
          subst (λ h. IsSum (total d.operator h d.left d.right d.error) current) (same_Some c.holder h e)
          (as_same_sum c d current f is)
      which false f e = absurd (none-some h e)
  by_holds (Loaded d) Empty current is h e = absurd (none-some h e)
  by_holds (Loaded d) (Pointed c) current is h e = absurd (none-some h e)
  by_holds (Loaded d) (Summed c) current is h e = absurd (none-some h e)
  by_holds (Loaded d) (Loaded c) current is h e = which (is_same_word c d) refl e
    where
      which : (b : Bool) → is_same_word c d ≡ b → (if b then Some c.holder else None) ≡ Some h
          → IsWord constants m (word h d.base d.offset) current
      which true f e =
          subst (λ h. IsWord constants m (word h d.base d.offset) current) (same_Some c.holder h e)
          (as_same_word c d current f is)
      which false f e = absurd (none-some h e)

  pub in_holds : (given : Fact) (facts : Facts) (current : Activation) → AreHeld constants m facts current → (h : ℕ)
      → holder_in given facts ≡ Some h → Holds given current h
  in_holds given facts current is =
      either (Holds given current) (holder_by given facts.first) _ (by_holds given facts.first current is.first)
      (either (Holds given current) (holder_by given facts.second) _ (by_holds given facts.second current is.second)
      (either (Holds given current) (holder_by given facts.third) _ (by_holds given facts.third current is.third)
      (either (Holds given current) (holder_by given facts.fourth) _ (by_holds given facts.fourth current is.fourth)
      (either (Holds given current) (holder_by given facts.fifth) _ (by_holds given facts.fifth current is.fifth)
      (either (Holds given current) (holder_by given facts.sixth) _ (by_holds given facts.sixth current is.sixth)
      (either (Holds given current) (holder_by given facts.seventh) _ (by_holds given facts.seventh current is.seventh)
      (either (Holds given current) (holder_by given facts.eighth) _ (by_holds given facts.eighth current is.eighth)
      (either (Holds given current) (holder_by given facts.ninth) _ (by_holds given facts.ninth current is.ninth)
      (either (Holds given current) (holder_by given facts.tenth) _ (by_holds given facts.tenth current is.tenth)
      (either (Holds given current) (holder_by given facts.eleventh) (holder_by given facts.twelfth)
      (by_holds given facts.eleventh current is.eleventh) (by_holds given facts.twelfth current is.twelfth)))))))))))

-- an instruction does what it did
pub again_alike : (code : Code) (F G : ℕ → ℕ) (S H : ℕ) (s : State) (facts : Facts) →
    AreHeld (text_at code) s.memory facts s.current
    → (i : Instruction) → act code F G S H (Some (again facts i)) s ≡ act code F G S H (Some i) s
again_alike code F G S H s facts is (Index t b x low high width error line) =
    which (holder_in (Pointed (component t b x low high width)) facts) refl
  where
    which : (o : Option ℕ) → holder_in (Pointed (component t b x low high width)) facts ≡ o
        → act code F G S H (Some (or_itself (copy_of (Pointed (component t b x low high width)) o)
        (Index t b x low high width error line))) s
        ≡ act code F G S H (Some (Index t b x low high width error line)) s
    which None e = refl
    which (Some h) e =
        copied code F G S H s (component h b x low high width) t error line
        (in_holds (text_at code) s.memory (Pointed (component t b x low high width)) facts s.current is h e)
again_alike code F G S H s facts is (Arithmetic operator t a b error line) =
    which (holder_in (Summed (total operator t a b error)) facts) refl
  where
    which : (o : Option ℕ) → holder_in (Summed (total operator t a b error)) facts ≡ o
        → act code F G S H (Some (or_itself (copy_of (Summed (total operator t a b error)) o)
        (Arithmetic operator t a b error line))) s
        ≡ act code F G S H (Some (Arithmetic operator t a b error line)) s
    which None e = refl
    which (Some h) e =
        sum_copied code F G S H s (total operator h a b error) t line
        (in_holds (text_at code) s.memory (Summed (total operator t a b error)) facts s.current is h e)
again_alike code F G S H s facts is (Literal t z) = refl
again_alike code F G S H s facts is (Copy t a) = refl
again_alike code F G S H s facts is (Bits operator t a b) = refl
again_alike code F G S H s facts is (Compare relation t a b) = refl
again_alike code F G S H s facts is (CheckRange a low high error line) = refl
again_alike code F G S H s facts is (CheckPointer a error line) = refl
again_alike code F G S H s facts is (Text t bytes) = refl
again_alike code F G S H s facts is (Offset t b n extent) = refl
again_alike code F G S H s facts is (RoutineValue t r) = refl
again_alike code F G S H s facts is (Load t b n) = which (holder_in (Loaded (word t b n)) facts) refl
  where
    which : (o : Option ℕ) → holder_in (Loaded (word t b n)) facts ≡ o
        → act code F G S H (Some (or_itself (copy_of (Loaded (word t b n)) o) (Load t b n))) s
        ≡ act code F G S H (Some (Load t b n)) s
    which None e = refl
    which (Some h) e =
        word_copied code F G S H s (word h b n) t
        (in_holds (text_at code) s.memory (Loaded (word t b n)) facts s.current is h e)
again_alike code F G S H s facts is (Store b n a) = refl
again_alike code F G S H s facts is (LoadByte t b n) = refl
again_alike code F G S H s facts is (StoreByte b n a) = refl
again_alike code F G S H s facts is (Jump n) = refl
again_alike code F G S H s facts is (JumpBack n) = refl
again_alike code F G S H s facts is (Branch relation a b n) = refl
again_alike code F G S H s facts is (BranchBack relation a b n) = refl
again_alike code F G S H s facts is (Call t r operands line) = refl
again_alike code F G S H s facts is (CallValue t a operands line) = refl
again_alike code F G S H s facts is (Return a) = refl
again_alike code F G S H s facts is (Trap number line) = refl
again_alike code F G S H s facts is (Take t) = refl
again_alike code F G S H s facts is (Put a) = refl
again_alike code F G S H s facts is (New t object_type line) = refl
again_alike code F G S H s facts is End = refl
