-- What is known stays true from step to step.
use Rattle.std.proofs.Common.{◌≡◌, ℕ, suc, ◌+◌, ◌-◌, ◌*◌, Bool, true, false, not, nat_eq, nat_lt, if◌then◌else◌, List}
use Rattle.std.proofs.Common.{[], ◌∷◌, length, map, slice_get, slice_set, Option, Some, None, ℤ, pos, negsuc, refl, sym}
use Rattle.std.proofs.Common.{ap, ◌∙◌, subst, arith}
use Rattle.std.proofs.lemmas.Bool.{true≢false}
use Rattle.std.proofs.lemmas.Int.{ints}
use Rattle.std.proofs.lemmas.Option.{none-some, same_Some}
use Rattle.behavior.specs.Endings.{Stack, Heap, Stuck}
use Rattle.tac_code.specs.declared.code.Block.{Block}
use Rattle.tac_code.specs.declared.code.Block.TheVariants.{Object, Constant}
use Rattle.tac_code.specs.declared.code.Operand.{Operand}
use Rattle.tac_code.specs.declared.code.Relation.{Relation}
use Rattle.tac_code.specs.declared.code.Value.{Value}
use Rattle.tac_code.specs.declared.code.Value.TheVariants.{Number, Address, Routine}
use Rattle.tac_code.specs.declared.code.Instruction.{Instruction}
use Rattle.tac_code.specs.declared.code.Instruction.TheVariants.{Literal, Copy, Arithmetic, Bits, Compare, CheckRange}
use Rattle.tac_code.specs.declared.code.Instruction.TheVariants.{CheckPointer, Text, Offset, Index, RoutineValue, Load}
use Rattle.tac_code.specs.declared.code.Instruction.TheVariants.{Store, LoadByte, StoreByte, Jump, JumpBack, Branch}
use Rattle.tac_code.specs.declared.code.Instruction.TheVariants.{BranchBack, Call, CallValue, Return, Trap, Take, Put}
use Rattle.tac_code.specs.declared.code.Instruction.TheVariants.{New, End}
use Rattle.tac_code.specs.Numbers.{Computed, Gives, Fails, computed, bits, truth, compared, is_in_range}
use Rattle.tac_code.specs.Numbers.{steps_above}
use Rattle.tac_code.specs.Memory.{Memory, load, load_byte, store, store_byte}
use Rattle.tac_code.specs.Meaning.{Code, Activation, State, Step, Goes, Over, routines, put, with_some, with_number}
use Rattle.tac_code.specs.Meaning.{with_address, with_routine, with_byte_value, operand_value, base_value, pointer_of}
use Rattle.tac_code.specs.Meaning.{is_nil, related, gives, gives_address, gives_computed, gives_component}
use Rattle.tac_code.specs.Meaning.{checks, goes_on, goes_to, stores, takes, values_of, is_full}
use Rattle.tac_code.specs.Meaning.{calls, leave, made, makes, act, onward, text_at}
use Rattle.tac_code.specs.declared.code.TheConstants.{BLOCK_LIMIT}
use Rattle.tac_pass.proofs.Below.{OnGoes}
use Rattle.tac_known.specs.declared.kind.Kind.{Kind}
use Rattle.tac_known.specs.declared.kind.Kind.TheVariants.{Unknown, NotNil, Between}
use Rattle.tac_known.specs.Kinds.{IsOf, kind_in, Hold, operand_kind, met, computed_kind, bits_kind, opposite}
use Rattle.tac_known.specs.Kinds.{related_kind, say_no_more, forget}
use Rattle.tac_known.specs.declared.order.Orders.{Orders}
use Rattle.tac_known.specs.Orders.{AreOrdered, sharp}
use Rattle.tac_known.specs.Lean.{where_related, Leads}
use Rattle.tac_known.proofs.Integers.{bounds_of}
use Rattle.tac_known.proofs.Results.{is_between, met_is, computed_is, bits_is, related_is, not_nil_is}
use Rattle.tac_known.proofs.OrdersBranched.{opposite_holds, sharp_is}
use Rattle.tac_known.proofs.Holding.{operand_is, holds_put, holds_more, nothing_holds, forgotten, less_holds}
use Rattle.tac_known.proofs.Holding.{nothing_more}

-- ---- steps that go on

module _ (P : State → Type 0) where
  pub on_some : {A : Type 0} (o : Option A) (go : A → Step) → ((x : A) → o ≡ Some x → OnGoes P (go x)) → OnGoes P
      (with_some o go)
  on_some None go h = tt
  on_some (Some x) go h = h x refl

  pub on_number : (o : Option Value) (go : ℤ → Step) → ((x : ℤ) → o ≡ Some (Number x) → OnGoes P (go x)) → OnGoes P
      (with_number o go)
  on_number None go h = tt
  on_number (Some (Number x)) go h = h x refl
  on_number (Some (Address block offset)) go h = tt
  on_number (Some (Routine r)) go h = tt

  pub on_address : (o : Option Value) (go : Block → ℕ → Step) →
      ((block : Block) (offset : ℕ) → OnGoes P (go block offset))
      → OnGoes P (with_address o go)
  on_address None go h = tt
  on_address (Some (Number x)) go h = tt
  on_address (Some (Address block offset)) go h = h block offset
  on_address (Some (Routine r)) go h = tt

  pub on_routine : (o : Option Value) (go : ℕ → Step) → ((r : ℕ) → OnGoes P (go r)) → OnGoes P (with_routine o go)
  on_routine None go h = tt
  on_routine (Some (Number x)) go h = tt
  on_routine (Some (Address block offset)) go h = tt
  on_routine (Some (Routine r)) go h = h r

  pub on_if : (b : Bool) (x y : Step) → OnGoes P x → OnGoes P y → OnGoes P (if b then x else y)
  on_if true x y f g = f
  on_if false x y f g = g

  pub on_byte : (z : ℤ) (go : ℕ → Step) → ((n : ℕ) → OnGoes P (go n)) → OnGoes P (with_byte_value z go)
  on_byte (pos n) go h = on_if (nat_lt n 256) (go n) (Over Stuck) (h n) tt
  on_byte (negsuc n) go h = tt

-- ---- values

pointer_is : (o : Option Value) (n : ℕ) → pointer_of o ≡ Some (Some n) → IsOf NotNil o
pointer_is o n e = λ same. none-some n (same_Some None (Some n) (sym (ap pointer_of same) ∙ e))

address_is : (block : Block) (offset : ℕ) → IsOf NotNil (Some (Address block offset))
address_is block offset = λ same. true≢false (ap is_address same)
  where
    is_address : Option Value → Bool
    is_address (Some (Address b o)) = true
    is_address _ = false

truth_is : (holds : Bool) → IsOf (Between (pos 0) (pos 1)) (Some (Number (truth holds)))
truth_is true = is_between (pos 0) (pos 1) (pos 1) (omega (arith, ints)) (omega (arith, ints))
truth_is false = is_between (pos 0) (pos 1) (pos 0) (omega (arith, ints)) (omega (arith, ints))

-- what a branch finds of its left operand
branch_is : (relation : Relation) (k k' : Kind) (o o' : Option Value) → IsOf k o → IsOf k' o' → related relation o o'
    ≡ Some true → IsOf (related_kind relation k k') o
branch_is relation Unknown k' o o' is is' e = not_nil_is relation k' o o' e is'
branch_is relation NotNil k' o o' is is' e = is
branch_is relation (Between l h) Unknown o o' is is' e = is
branch_is relation (Between l h) NotNil o o' is is' e = is
branch_is relation (Between l h) (Between l' h') o o' (x, f, p, q) (y, g, p', q') e =
    subst (IsOf (related_kind relation (Between l h) (Between l' h'))) (sym f)
    (related_is relation l h l' h' x y compares (is_between l h x p q) (is_between l' h' y p' q'))
  where
    compares : compared relation x y ≡ true
    compares =
        same_Some (compared relation x y) true
        (sym (ap (λ v. related relation v o') f ∙ ap (related relation (Some (Number x))) g) ∙ e)

-- ---- states

module _ (claims : ℕ → ℕ → List Kind) where
  -- of callers nothing is known where they go on
  abbrev pub CallersWait : List Activation → Type 0
  CallersWait [] = Unit {0}
  CallersWait (c ∷ cs) = ((u : ℕ) → kind_in (claims c.routine c.place) u ≡ Unknown) × CallersWait cs

  pub record IsKnown (s : State) : Type 0 where
    pub here : Hold (claims s.current.routine s.current.place) s.current.temporaries
    pub callers : CallersWait s.callers

  module _ (begins : (r u : ℕ) → kind_in (claims r 0) u ≡ Unknown) (code : Code) (F G : ℕ → ℕ) (S H : ℕ) (s : State)
      (known : IsKnown s) (orders : Orders) (ordered : AreOrdered s.current.temporaries orders) where
    abbrev ks : List Kind
    ks = claims s.current.routine s.current.place

    abbrev next : List Kind
    next = claims s.current.routine (suc s.current.place)

    abbrev Goes_on : Step → Type 0
    Goes_on x = OnGoes IsKnown x

    gives_known : (t : ℕ) (k : Kind) (v : Value) → say_no_more (slice_set ks t k) next ≡ true → IsOf k (Some v) →
        Goes_on
        (gives t v s)
    gives_known t k v l is = record {
      here = less_holds (slice_set ks t k) next (put s.current.temporaries t v) l
          (holds_put ks s.current.temporaries known.here t k v is);
      callers = known.callers;
    }

    goes_known : (q : ℕ) (kinds : List Kind) → say_no_more kinds (claims s.current.routine q) ≡ true → Hold kinds
        s.current.temporaries → Goes_on (goes_to q s)
    goes_known q kinds l h = record {
      here = less_holds kinds (claims s.current.routine q) s.current.temporaries l h;
      callers = known.callers;
    }

    stores_known : (m : Memory) → say_no_more ks next ≡ true → Goes_on (stores m s)
    stores_known m l = record {
      here = less_holds ks next s.current.temporaries l known.here;
      callers = known.callers;
    }

    address_known : (t : ℕ) (block : Block) (o : ℕ) → say_no_more (slice_set ks t Unknown) next ≡ true → Goes_on
        (gives_address t block o s)
    address_known t block o l =
        on_if IsKnown (nat_lt o BLOCK_LIMIT) (gives t (Address block o) s) (Over Stuck)
        (gives_known t Unknown (Address block o) l tt) tt

    computed_known : (t : ℕ) (k : Kind) (x : Computed) (line : ℕ) → say_no_more (slice_set ks t k) next ≡ true
        → ((z : ℤ) → x ≡ Gives z → IsOf k (Some (Number z))) → Goes_on (gives_computed code t x line s)
    computed_known t k (Gives z) line l is = gives_known t k (Number z) l (is z refl)
    computed_known t k (Fails number) line l is = tt

    checks_known : (b : Bool) (a : ℕ) (k : Kind) (number line : ℕ) → say_no_more (slice_set ks a k) next ≡ true
        → (b ≡ true → IsOf k (s.current.temporaries a)) → Goes_on (checks code b number line s)
    checks_known true a k number line l is =
        goes_known (suc s.current.place) (slice_set ks a k) l
        (holds_more ks s.current.temporaries known.here a k (is refl))
    checks_known false a k number line l is = tt

    within_is : (a : ℕ) (low high x : ℤ) → s.current.temporaries a ≡ Some (Number x) → is_in_range low high x ≡ true
        → IsOf (met (kind_in ks a) low high) (s.current.temporaries a)
    within_is a low high x e r =
        let b = bounds_of low high x r in
        subst (IsOf (met (kind_in ks a) low high)) (sym e)
        (met_is (kind_in ks a) low high x (subst (IsOf (kind_in ks a)) e (known.here a)) b.0 b.1)

    abbrev more_of : ℕ → ℤ → ℤ → List Kind
    more_of i low high = slice_set ks i (met (kind_in ks i) low high)

    component_known : (b : Bool) (t i : ℕ) (low high : ℤ) (block : Block) (o number line : ℕ)
        → say_no_more (slice_set (slice_set ks i (met (kind_in ks i) low high)) t Unknown) next ≡ true
        → (b ≡ true → IsOf (met (kind_in ks i) low high) (s.current.temporaries i))
        → Goes_on (gives_component code b t block o number line s)
    component_known true t i low high block o number line l is =
        on_if IsKnown (nat_lt o BLOCK_LIMIT) (gives t (Address block o) s) (Over Stuck) (record {
          here = less_holds (slice_set (more_of i low high) t Unknown) next
              (put s.current.temporaries t (Address block o)) l (holds_put (more_of i low high) s.current.temporaries
              (holds_more ks s.current.temporaries known.here i (met (kind_in ks i) low high) (is refl)) t Unknown
              (Address block o) tt);
          callers = known.callers;
        }) tt
    component_known false t i low high block o number line l is = tt

    takes_known : (t : ℕ) (input : List ℕ) → say_no_more (slice_set ks t Unknown) next ≡ true →
        Goes_on (takes t input s)
    takes_known t [] l = record {
      here = less_holds (slice_set ks t Unknown) next (put s.current.temporaries t (Number (negsuc 0))) l
          (holds_put ks s.current.temporaries known.here t Unknown (Number (negsuc 0)) tt);
      callers = known.callers;
    }
    takes_known t (x ∷ rest) l = record {
      here = less_holds (slice_set ks t Unknown) next (put s.current.temporaries t (Number (pos x))) l
          (holds_put ks s.current.temporaries known.here t Unknown (Number (pos x)) tt);
      callers = known.callers;
    }

    makes_known : (t object_type bytes line : ℕ) → say_no_more (slice_set ks t NotNil) next ≡ true → Goes_on
        (makes code F G S H t object_type bytes line s)
    makes_known t object_type bytes line l =
        on_if IsKnown (nat_lt H (s.heap + G object_type)) (Over (Heap line))
        (Goes (made code F G S H t object_type bytes s)) tt (record {
          here = less_holds (slice_set ks t NotNil) next
              (put s.current.temporaries t (Address (Object (length s.memory.objects)) 0)) l
              (holds_put ks s.current.temporaries known.here t NotNil
              (Address (Object (length s.memory.objects)) 0) (address_is (Object (length s.memory.objects)) 0));
          callers = known.callers;
        })

    calls_known : (t r : ℕ) (operands : List ℕ) (line : ℕ) → say_no_more (map forget ks) next ≡ true → Goes_on
        (calls code F G S H t r operands line s)
    calls_known t r operands line l =
        on_some IsKnown (values_of s.current.temporaries operands) _ (λ values _.
        on_some IsKnown (slice_get (routines code) r) _ (λ routine _.
        on_if IsKnown (not (nat_eq (length values) routine.parameters)) (Over Stuck) _ tt
        (on_if IsKnown (is_full code F G S H r (onward s.current ∷ s.callers)) (Over (Stack routine.line)) _ tt
        (record {
          here = nothing_holds (claims r 0) (λ t. slice_get values t) (begins r);
          callers = (nothing_more (map forget ks) next (forgotten ks) l, known.callers);
        }))))

    leaves_known : (v : Value) (cs : List Activation) → CallersWait cs → Goes_on (leave v cs s)
    leaves_known v [] w = tt
    leaves_known v (c ∷ cs) w = record {
      here = nothing_holds (claims c.routine c.place) (put c.temporaries s.current.result v) w.0;
      callers = w.1;
    }

    related_holds : (relation : Relation) (a : ℕ) (b : Operand)
        → related relation (s.current.temporaries a) (operand_value s.current.temporaries b) ≡ Some true
        → Hold (where_related (sharp orders relation a b) a b ks) s.current.temporaries
    related_holds relation a b e =
        holds_more ks s.current.temporaries known.here a
        (related_kind (sharp orders relation a b) (kind_in ks a) (operand_kind ks b))
        (branch_is (sharp orders relation a b) (kind_in ks a) (operand_kind ks b) (s.current.temporaries a)
        (operand_value s.current.temporaries b) (known.here a)
        (operand_is ks s.current.temporaries known.here b) (sharp_is s.current.temporaries orders ordered relation a b
        e))

    branch_known : (relation : Relation) (a : ℕ) (b : Operand) (q : ℕ)
        → say_no_more (where_related (sharp orders relation a b) a b ks) (claims s.current.routine q) ≡ true
        → say_no_more (where_related (sharp orders (opposite relation) a b) a b ks) next ≡ true → (holds : Bool)
        → related relation (s.current.temporaries a) (operand_value s.current.temporaries b) ≡ Some holds
        → Goes_on (if holds then goes_to q s else goes_on s)
    branch_known relation a b q l m true e =
        goes_known q (where_related (sharp orders relation a b) a b ks) l (related_holds relation a b e)
    branch_known relation a b q l m false e =
        goes_known (suc s.current.place) (where_related (sharp orders (opposite relation) a b) a b ks) m
        (related_holds (opposite relation) a b
        (opposite_holds relation (s.current.temporaries a) (operand_value s.current.temporaries b) e))

    pub known_follows : (i : Instruction) → Leads (claims s.current.routine) orders s.current.place i → Goes_on
        (act code F G S H (Some i) s)
    known_follows (Literal t z) l = gives_known t (Between z z) (Number z) l
        (is_between z z z (omega (arith, ints)) (omega (arith, ints)))
    known_follows (Copy t a) l =
        on_some IsKnown (s.current.temporaries a) _
        (λ v e. gives_known t (kind_in ks a) v l (subst (IsOf (kind_in ks a)) e (known.here a)))
    known_follows (Arithmetic operator t a b error line) l =
        on_number IsKnown (s.current.temporaries a) _ (λ x e.
        on_number IsKnown (operand_value s.current.temporaries b) _
        (λ y f. computed_known t (computed_kind operator (kind_in ks a) (operand_kind ks b))
        (computed operator error x y) line l (λ z g. computed_is operator error (kind_in ks a) (operand_kind ks b) x y z
        (subst (IsOf (kind_in ks a)) e (known.here a))
        (subst (IsOf (operand_kind ks b)) f (operand_is ks s.current.temporaries known.here b)) g)))
    known_follows (Bits operator t a b) l =
        on_number IsKnown (s.current.temporaries a) _ (λ x e.
        on_number IsKnown (operand_value s.current.temporaries b) _
        (λ y f. gives_known t (bits_kind operator (kind_in ks a) (operand_kind ks b)) (Number (bits operator x y)) l
        (bits_is operator (kind_in ks a) (operand_kind ks b) x y (subst (IsOf (kind_in ks a)) e (known.here a))
        (subst (IsOf (operand_kind ks b)) f (operand_is ks s.current.temporaries known.here b)))))
    known_follows (Compare relation t a b) l =
        on_some IsKnown (related relation (s.current.temporaries a) (operand_value s.current.temporaries b)) _
        (λ holds _. gives_known t (Between (pos 0) (pos 1)) (Number (truth holds)) l (truth_is holds))
    known_follows (CheckRange a low high error line) l =
        on_number IsKnown (s.current.temporaries a) _
        (λ x e. checks_known (is_in_range low high x) a (met (kind_in ks a) low high) error line l
        (within_is a low high x e))
    known_follows (CheckPointer a error line) l =
        on_some IsKnown (pointer_of (s.current.temporaries a)) _ (λ p e. which p e)
      where
        which : (p : Option ℕ) → pointer_of (s.current.temporaries a) ≡ Some p → Goes_on
            (checks code (not (is_nil p)) error line s)
        which None e = tt
        which (Some n) e =
            checks_known true a NotNil error line l (λ _. pointer_is (s.current.temporaries a) n e)
    known_follows (Text t bytes) l =
        gives_known t Unknown (Address (Constant s.current.routine s.current.place) 0) l tt
    known_follows (Offset t b n extent) l =
        on_address IsKnown (base_value s.current b) _ (λ block o. address_known t block (o + n) l)
    known_follows (Index t b i low high width error line) l =
        on_address IsKnown (base_value s.current b) _ (λ block o. on_number IsKnown (s.current.temporaries i) _
        (λ x e. component_known (is_in_range low high x) t i low high block (o + steps_above low x * width) error line l
        (within_is i low high x e)))
    known_follows (RoutineValue t r) l = gives_known t Unknown (Routine r) l tt
    known_follows (Load t b n) l =
        on_address IsKnown (base_value s.current b) _
        (λ block o. on_some IsKnown (load (text_at code) s.memory block (o + n)) _
        (λ v _. gives_known t Unknown v l tt))
    known_follows (Store b n a) l =
        on_address IsKnown (base_value s.current b) _ (λ block o. on_some IsKnown (s.current.temporaries a) _
        (λ v _. on_some IsKnown (store s.memory block (o + n) v) _ (λ m _. stores_known m l)))
    known_follows (LoadByte t b n) l =
        on_address IsKnown (base_value s.current b) _
        (λ block o. on_some IsKnown (load_byte (text_at code) s.memory block (o + n)) _
        (λ byte _. gives_known t Unknown (Number (pos byte)) l tt))
    known_follows (StoreByte b n a) l =
        on_address IsKnown (base_value s.current b) _ (λ block o. on_number IsKnown (s.current.temporaries a) _
        (λ x _. on_byte IsKnown x _
        (λ byte. on_some IsKnown (store_byte s.memory block (o + n) byte) _ (λ m _. stores_known m l))))
    known_follows (Jump n) l = goes_known (suc s.current.place + n) ks l known.here
    known_follows (JumpBack n) l = goes_known (s.current.place - n) ks l known.here
    known_follows (Branch relation a b n) l =
        on_some IsKnown (related relation (s.current.temporaries a) (operand_value s.current.temporaries b)) _
        (λ holds e. branch_known relation a b (suc s.current.place + n) l.0 l.1 holds e)
    known_follows (BranchBack relation a b n) l =
        on_some IsKnown (related relation (s.current.temporaries a) (operand_value s.current.temporaries b)) _
        (λ holds e. branch_known relation a b (s.current.place - n) l.0 l.1 holds e)
    known_follows (Call t r operands line) l = calls_known t r operands line l
    known_follows (CallValue t a operands line) l =
        on_routine IsKnown (s.current.temporaries a) _
        (λ r. on_if IsKnown (nat_lt r (length code.program)) (calls code F G S H t r operands line s) (Over Stuck)
        (calls_known t r operands line l) tt)
    known_follows (Return a) l =
        on_some IsKnown (s.current.temporaries a) _ (λ v _. leaves_known v s.callers known.callers)
    known_follows (Trap number line) l = tt
    known_follows (Take t) l = takes_known t s.tape.input l
    known_follows (Put a) l =
        on_number IsKnown (s.current.temporaries a) _ (λ x _. on_byte IsKnown x _ (λ byte. record {
          here = less_holds ks next s.current.temporaries l known.here;
          callers = known.callers;
        }))
    known_follows (New t object_type line) l =
        on_some IsKnown (slice_get code.objects object_type) _ (λ bytes _. makes_known t object_type bytes line l)
    known_follows End l = tt
