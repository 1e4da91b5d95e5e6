-- What a walk over a body has tested.
use Rattle.std.proofs.Common.{◌≡◌, ◌≢◌, ◌⊎◌, inl, inr, ℕ, zero, suc, ◌+◌, ◌-◌, ◌<◌, ◌≤◌, ◌&&◌, true}
use Rattle.std.proofs.Common.{List, [], ◌∷◌, ◌++◌, length, slice_get, slice_set, take, drop, map, Option, Some, None}
use Rattle.std.proofs.Common.{refl, sym, ap, ◌∙◌, subst, arith}
use Rattle.std.specs.Prelude.{int_lt}
use Rattle.std.proofs.Common.{not}
use Rattle.std.proofs.lemmas.Int.{ints}
use Rattle.std.proofs.lemmas.Bool.{true≢false, cases_eq, and_parts}
use Rattle.std.proofs.lemmas.Option.{none-some, same_Some}
use Rattle.tac_code.specs.declared.code.Instruction.{Instruction}
use Rattle.tac_code.specs.declared.code.Instruction.TheVariants.{Literal, Copy, Arithmetic, Bits, Compare, CheckRange}
use Rattle.tac_code.specs.declared.code.Instruction.TheVariants.{CheckPointer, Text, Offset, Index, RoutineValue, Load}
use Rattle.tac_code.specs.declared.code.Instruction.TheVariants.{Store, LoadByte, StoreByte, Jump, JumpBack, Branch}
use Rattle.tac_code.specs.declared.code.Instruction.TheVariants.{BranchBack, Call, CallValue, Return, Trap, Take, Put}
use Rattle.tac_code.specs.declared.code.Instruction.TheVariants.{New, End}
use Rattle.tac_code.proofs.Items.{set_length}
use Rattle.tac_pass.proofs.Words.{get_set_same, get_set_other}
use Rattle.tac_known.specs.declared.kind.Kind.{Kind}
use Rattle.tac_known.specs.declared.kind.Kind.TheVariants.{Unknown, NotNil, Between}
use Rattle.tac_known.specs.Kinds.{kind_in, or_unknown, says_no_more, say_no_more, forget}
use Rattle.tac_known.specs.declared.order.Orders.{Orders}
use Rattle.tac_known.specs.Orders.{no_orders, sharp, orders_where, say_all, OrdersLead}
use Rattle.tac_known.specs.Lean.{lean, where_related, Leads, LeanBody}
use Rattle.tac_known.specs.Walk.{Claims, claim_at, claimed_or, OrderClaims, order_claim_at, order_claimed_or, falls}
use Rattle.tac_known.specs.Walk.{orders_fall, Known, falls_from, nothing, known_at, allows, aims, aims_well, falls_well}
use Rattle.tac_known.specs.Walk.{is_well, orders_allowed, orders_aimed, orders_aim_well, orders_fall_well}
use Rattle.tac_known.specs.Walk.{orders_are_well}
use Rattle.tac_known.proofs.OrdersImplied.{say_all_itself}
use Rattle.tac_known.proofs.Integers.{no_less}
use Rattle.tac_known.proofs.Holding.{nothing_more}

-- what was known of a temporary is put back
pub set_back : (ks : List Kind) (t : ℕ) (k : Kind) → slice_set (slice_set ks t k) t (kind_in ks t) ≡ ks
set_back [] t k = refl
set_back (x ∷ xs) zero k = refl
set_back (x ∷ xs) (suc t) k = ap (λ ks. x ∷ ks) (set_back xs t k)

-- ---- what is known says itself

itself : (k : Kind) → says_no_more k k ≡ true
itself Unknown = refl
itself NotNil = refl
itself (Between l h) = ap (λ b. not b && not (int_lt h h)) (no_less l l (omega (arith, ints)))
    ∙ ap (λ b. not b) (no_less h h (omega (arith, ints)))

say_itself : (ks : List Kind) → say_no_more ks ks ≡ true
say_itself [] = refl
say_itself (k ∷ ks) = ap (λ b. b && say_no_more ks ks) (itself k) ∙ say_itself ks

-- ---- lists of which the second says no more, a place further

more_rows : (xs ys : List Kind) (i : ℕ) → length xs ≡ length ys → i < length ys → says_no_more
    (or_unknown (slice_get xs i)) (or_unknown (slice_get ys i)) ≡ true → say_no_more (drop i xs) (drop i ys)
    ≡ say_no_more (drop (suc i) xs) (drop (suc i) ys)
more_rows xs [] i l below f = absurd (omega (arith, below))
more_rows [] (y ∷ ys) i l below f = absurd (omega (arith, l))
more_rows (x ∷ xs) (y ∷ ys) zero l below f = ap (λ b. b && say_no_more xs ys) f
more_rows (x ∷ xs) (y ∷ ys) (suc i) l below f =
    more_rows xs ys i (let e : length xs ≡ length ys = omega (arith, l) in e) (omega (arith, below)) f

pub no_more_next : (xs ys : List Kind) (i : ℕ) → length xs ≡ length ys → i < length ys → says_no_more
    (or_unknown (slice_get xs i)) (or_unknown (slice_get ys i)) ≡ true
    → (say_no_more (drop i xs) (drop i ys) ≡ true → say_no_more xs ys ≡ true)
    → say_no_more (drop (i + 1) xs) (drop (i + 1) ys) ≡ true → say_no_more xs ys ≡ true
no_more_next xs ys i l below f whole e =
    whole (more_rows xs ys i l below f
    ∙ ap (λ k. say_no_more (drop k xs) (drop k ys)) (let e : suc i ≡ i + 1 = omega arith in e) ∙ e)

-- ---- all is forgotten, a place further

forgets_one : (xs : List Kind) (i : ℕ) (k : Kind) → k ≡ Unknown → i < length xs → take (suc i) (slice_set xs i k)
    ++ map forget (drop (suc i) (slice_set xs i k)) ≡ take i xs ++ map forget (drop i xs)
forgets_one [] i k e l = absurd (omega (arith, l))
forgets_one (x ∷ xs) zero k e l = ap (λ k. k ∷ map forget xs) e
forgets_one (x ∷ xs) (suc i) k e l = ap (λ ks. x ∷ ks) (forgets_one xs i k e (omega (arith, l)))

pub forget_next : (xs ys : List Kind) (i : ℕ) (k : Kind) → k ≡ Unknown → i < length ys → (length xs ≡ length ys)
    × (take i xs ++ map forget (drop i xs) ≡ map forget ys) → (length (slice_set xs i k) ≡ length ys)
    × (take (i + 1) (slice_set xs i k) ++ map forget (drop (i + 1) (slice_set xs i k)) ≡ map forget ys)
forget_next xs ys i k e l (size, same) = (
  set_length xs i k ∙ size,
  ap (λ n. take n (slice_set xs i k) ++ map forget (drop n (slice_set xs i k)))
      (let next : i + 1 ≡ suc i = omega arith in next)
      ∙ forgets_one xs i k e (omega (arith, l, size)) ∙ same,
)

nothing_known : (n u : ℕ) → kind_in (nothing n) u ≡ Unknown
nothing_known zero u = refl
nothing_known (suc n) zero = refl
nothing_known (suc n) (suc u) = nothing_known n u

-- ---- where places lead

module _ (count : ℕ) (claims : Claims) (order_claims : OrderClaims) (body : List Instruction) where
  abbrev known : ℕ → Known
  known place = known_at count claims order_claims body place

  abbrev at : ℕ → List Kind
  at place = (known place).kinds

  abbrev ord : ℕ → Orders
  ord place = (known place).orders

  claimed_at : (place : ℕ) (claimed : List Kind) → claim_at claims place ≡ Some claimed → at place ≡ claimed
  claimed_at zero claimed e = ap (λ o. claimed_or o (nothing count)) e
  claimed_at (suc n) claimed e = ap (λ o. claimed_or o (falls_from (known n) (slice_get body n)).kinds) e

  order_claimed_at : (place : ℕ) (claimed : Orders) → order_claim_at order_claims place ≡ Some claimed → ord place
      ≡ claimed
  order_claimed_at zero claimed e = ap (λ o. order_claimed_or o no_orders) e
  order_claimed_at (suc n) claimed e = ap (λ o. order_claimed_or o (falls_from (known n) (slice_get body n)).orders) e

  aims_at : (kinds : List Kind) (place : ℕ) → aims (claim_at claims place) kinds ≡ true → say_no_more kinds (at place)
      ≡ true
  aims_at kinds place e = which (claim_at claims place) refl e
    where
      which : (o : Option (List Kind)) → claim_at claims place ≡ o → aims o kinds ≡ true → say_no_more kinds (at place)
          ≡ true
      which None f e = absurd (true≢false (sym e))
      which (Some claimed) f e = ap (say_no_more kinds) (claimed_at place claimed f) ∙ e

  orders_aimed_at : (orders : Orders) (place : ℕ) → orders_aimed (order_claim_at order_claims place) orders ≡ true
      → say_all orders (ord place) ≡ true
  orders_aimed_at orders place e = which (order_claim_at order_claims place) refl e
    where
      which : (o : Option Orders) → order_claim_at order_claims place ≡ o → orders_aimed o orders ≡ true →
          say_all orders
          (ord place) ≡ true
      which None f e = absurd (true≢false (sym e))
      which (Some claimed) f e = ap (say_all orders) (order_claimed_at place claimed f) ∙ e

  falls_at : (place : ℕ) (i : Instruction) → slice_get body place ≡ Some i
      → allows (claim_at claims (suc place)) (falls (at place) (ord place) i) ≡ true
      → say_no_more (falls (at place) (ord place) i) (at (suc place)) ≡ true
  falls_at place i there e = which (claim_at claims (suc place)) refl e
    where
      which : (o : Option (List Kind)) → claim_at claims (suc place) ≡ o
          → allows o (falls (at place) (ord place) i) ≡ true
          → say_no_more (falls (at place) (ord place) i) (at (suc place)) ≡ true
      which None f e =
          ap (say_no_more (falls (at place) (ord place) i))
          (ap (λ o. claimed_or o (falls_from (known place) (slice_get body place)).kinds) f
          ∙ ap (λ o. (falls_from (known place) o).kinds) there) ∙ say_itself (falls (at place) (ord place) i)
      which (Some claimed) f e =
          ap (say_no_more (falls (at place) (ord place) i)) (claimed_at (suc place) claimed f) ∙ e

  orders_fall_at : (place : ℕ) (i : Instruction) → slice_get body place ≡ Some i
      → orders_allowed (order_claim_at order_claims (suc place)) (orders_fall (at place) (ord place) i) ≡ true
      → say_all (orders_fall (at place) (ord place) i) (ord (suc place)) ≡ true
  orders_fall_at place i there e = which (order_claim_at order_claims (suc place)) refl e
    where
      which : (o : Option Orders) → order_claim_at order_claims (suc place) ≡ o
          → orders_allowed o (orders_fall (at place) (ord place) i) ≡ true
          → say_all (orders_fall (at place) (ord place) i) (ord (suc place)) ≡ true
      which None f e =
          ap (say_all (orders_fall (at place) (ord place) i))
          (ap (λ o. order_claimed_or o (falls_from (known place) (slice_get body place)).orders) f
          ∙ ap (λ o. (falls_from (known place) o).orders) there) ∙ say_all_itself (orders_fall (at place) (ord place) i)
      which (Some claimed) f e =
          ap (say_all (orders_fall (at place) (ord place) i)) (order_claimed_at (suc place) claimed f) ∙ e

  leads_well : (place : ℕ) (i : Instruction) → slice_get body place ≡ Some i
      → is_well claims (at place) (ord place) place i ≡ true → Leads at (ord place) place i
  leads_well place (Literal x0 x1) there w = falls_at place (Literal x0 x1) there w
  leads_well place (Copy x0 x1) there w = falls_at place (Copy x0 x1) there w
  leads_well place (Arithmetic x0 x1 x2 x3 x4 x5) there w = falls_at place (Arithmetic x0 x1 x2 x3 x4 x5) there w
  leads_well place (Bits x0 x1 x2 x3) there w = falls_at place (Bits x0 x1 x2 x3) there w
  leads_well place (Compare x0 x1 x2 x3) there w = falls_at place (Compare x0 x1 x2 x3) there w
  leads_well place (CheckRange x0 x1 x2 x3 x4) there w = falls_at place (CheckRange x0 x1 x2 x3 x4) there w
  leads_well place (CheckPointer x0 x1 x2) there w = falls_at place (CheckPointer x0 x1 x2) there w
  leads_well place (Text x0 x1) there w = falls_at place (Text x0 x1) there w
  leads_well place (Offset x0 x1 x2 x3) there w = falls_at place (Offset x0 x1 x2 x3) there w
  leads_well place (Index x0 x1 x2 x3 x4 x5 x6 x7) there w = falls_at place (Index x0 x1 x2 x3 x4 x5 x6 x7) there w
  leads_well place (RoutineValue x0 x1) there w = falls_at place (RoutineValue x0 x1) there w
  leads_well place (Load x0 x1 x2) there w = falls_at place (Load x0 x1 x2) there w
  leads_well place (Store x0 x1 x2) there w = falls_at place (Store x0 x1 x2) there w
  leads_well place (LoadByte x0 x1 x2) there w = falls_at place (LoadByte x0 x1 x2) there w
  leads_well place (StoreByte x0 x1 x2) there w = falls_at place (StoreByte x0 x1 x2) there w
  leads_well place (Call x0 x1 x2 x3) there w = falls_at place (Call x0 x1 x2 x3) there w
  leads_well place (CallValue x0 x1 x2 x3) there w = falls_at place (CallValue x0 x1 x2 x3) there w
  leads_well place (Take x0) there w = falls_at place (Take x0) there w
  leads_well place (Put x0) there w = falls_at place (Put x0) there w
  leads_well place (New x0 x1 x2) there w = falls_at place (New x0 x1 x2) there w
  leads_well place (Jump x0) there w =
      aims_at (at place) (suc place + x0)
      (and_parts (aims_well claims (at place) (ord place) place (Jump x0)) true w).0
  leads_well place (JumpBack x0) there w =
      aims_at (at place) (place - x0)
      (and_parts (aims_well claims (at place) (ord place) place (JumpBack x0)) true w).0
  leads_well place (Branch x0 x1 x2 x3) there w =
      let b = and_parts (aims_well claims (at place) (ord place) place (Branch x0 x1 x2 x3))
      (falls_well claims (at place) (ord place) place (Branch x0 x1 x2 x3)) w in (
        aims_at (where_related (sharp (ord place) x0 x1 x2) x1 x2 (at place)) (suc place + x3) b.0,
        falls_at place (Branch x0 x1 x2 x3) there b.1,
      )
  leads_well place (BranchBack x0 x1 x2 x3) there w =
      let b = and_parts (aims_well claims (at place) (ord place) place (BranchBack x0 x1 x2 x3))
      (falls_well claims (at place) (ord place) place (BranchBack x0 x1 x2 x3)) w in (
        aims_at (where_related (sharp (ord place) x0 x1 x2) x1 x2 (at place)) (place - x3) b.0,
        falls_at place (BranchBack x0 x1 x2 x3) there b.1,
      )
  leads_well place (Return x0) there w = tt
  leads_well place (Trap x0 x1) there w = tt
  leads_well place End there w = tt

  orders_lead_well : (place : ℕ) (i : Instruction) → slice_get body place ≡ Some i
      → orders_are_well order_claims (at place) (ord place) place i ≡ true → OrdersLead at ord place i
  orders_lead_well place (Literal x0 x1) there w = orders_fall_at place (Literal x0 x1) there w
  orders_lead_well place (Copy x0 x1) there w = orders_fall_at place (Copy x0 x1) there w
  orders_lead_well place (Arithmetic x0 x1 x2 x3 x4 x5) there w =
      orders_fall_at place (Arithmetic x0 x1 x2 x3 x4 x5) there w
  orders_lead_well place (Bits x0 x1 x2 x3) there w = orders_fall_at place (Bits x0 x1 x2 x3) there w
  orders_lead_well place (Compare x0 x1 x2 x3) there w = orders_fall_at place (Compare x0 x1 x2 x3) there w
  orders_lead_well place (CheckRange x0 x1 x2 x3 x4) there w = orders_fall_at place (CheckRange x0 x1 x2 x3 x4) there w
  orders_lead_well place (CheckPointer x0 x1 x2) there w = orders_fall_at place (CheckPointer x0 x1 x2) there w
  orders_lead_well place (Text x0 x1) there w = orders_fall_at place (Text x0 x1) there w
  orders_lead_well place (Offset x0 x1 x2 x3) there w = orders_fall_at place (Offset x0 x1 x2 x3) there w
  orders_lead_well place (Index x0 x1 x2 x3 x4 x5 x6 x7) there w =
      orders_fall_at place (Index x0 x1 x2 x3 x4 x5 x6 x7) there w
  orders_lead_well place (RoutineValue x0 x1) there w = orders_fall_at place (RoutineValue x0 x1) there w
  orders_lead_well place (Load x0 x1 x2) there w = orders_fall_at place (Load x0 x1 x2) there w
  orders_lead_well place (Store x0 x1 x2) there w = orders_fall_at place (Store x0 x1 x2) there w
  orders_lead_well place (LoadByte x0 x1 x2) there w = orders_fall_at place (LoadByte x0 x1 x2) there w
  orders_lead_well place (StoreByte x0 x1 x2) there w = orders_fall_at place (StoreByte x0 x1 x2) there w
  orders_lead_well place (Call x0 x1 x2 x3) there w = orders_fall_at place (Call x0 x1 x2 x3) there w
  orders_lead_well place (CallValue x0 x1 x2 x3) there w = orders_fall_at place (CallValue x0 x1 x2 x3) there w
  orders_lead_well place (Take x0) there w = orders_fall_at place (Take x0) there w
  orders_lead_well place (Put x0) there w = orders_fall_at place (Put x0) there w
  orders_lead_well place (New x0 x1 x2) there w = orders_fall_at place (New x0 x1 x2) there w
  orders_lead_well place (Jump x0) there w =
      orders_aimed_at (ord place) (suc place + x0)
      (and_parts (orders_aim_well order_claims (ord place) place (Jump x0)) true w).0
  orders_lead_well place (JumpBack x0) there w =
      orders_aimed_at (ord place) (place - x0)
      (and_parts (orders_aim_well order_claims (ord place) place (JumpBack x0)) true w).0
  orders_lead_well place (Branch x0 x1 x2 x3) there w =
      let b = and_parts (orders_aim_well order_claims (ord place) place (Branch x0 x1 x2 x3))
      (orders_fall_well order_claims (at place) (ord place) place (Branch x0 x1 x2 x3)) w in (
        orders_aimed_at (orders_where (ord place) x0 x1 x2) (suc place + x3) b.0,
        orders_fall_at place (Branch x0 x1 x2 x3) there b.1,
      )
  orders_lead_well place (BranchBack x0 x1 x2 x3) there w =
      let b = and_parts (orders_aim_well order_claims (ord place) place (BranchBack x0 x1 x2 x3))
      (orders_fall_well order_claims (at place) (ord place) place (BranchBack x0 x1 x2 x3)) w in (
        orders_aimed_at (orders_where (ord place) x0 x1 x2) (place - x3) b.0,
        orders_fall_at place (BranchBack x0 x1 x2 x3) there b.1,
      )
  orders_lead_well place (Return x0) there w = tt
  orders_lead_well place (Trap x0 x1) there w = tt
  orders_lead_well place End there w = tt

  -- what is known of one place, and what it becomes
  abbrev Told : List Instruction → ℕ → Instruction → Type 0
  Told body' place i =
      (slice_get body' place ≡ Some (lean (at place) i)) × (is_well claims (at place) (ord place) place i ≡ true)
      × (orders_are_well order_claims (at place) (ord place) place i ≡ true)

  pub walked_is_lean : (body' : List Instruction) → allows (claim_at claims 0) (nothing count) ≡ true
      → orders_allowed (order_claim_at order_claims 0) no_orders ≡ true → length body' ≡ length body
      → ((place : ℕ) (i : Instruction) → slice_get body place ≡ Some i → Told body' place i) → LeanBody body body'
  walked_is_lean body' first first_orders as_many places = record {
    at = at;
    ord = ord;
    begins = begun (claim_at claims 0) refl first;
    unordered = unordered (order_claim_at order_claims 0) refl first_orders;
    as_many = as_many;
    there = λ place i e. (places place i e).0;
    leads = λ place i e. leads_well place i e (places place i e).1;
    orders_lead = λ place i e. orders_lead_well place i e (places place i e).2;
  }
    where
      begun : (o : Option (List Kind)) → claim_at claims 0 ≡ o → allows o (nothing count) ≡ true → (u : ℕ) → kind_in
          (at 0) u ≡ Unknown
      begun None f e u =
          ap (λ o. kind_in (claimed_or o (nothing count)) u) f ∙ nothing_known count u
      begun (Some claimed) f e u =
          ap (λ ks. kind_in ks u) (claimed_at 0 claimed f)
          ∙ nothing_more (nothing count) claimed (nothing_known count) e u

      unordered : (o : Option Orders) → order_claim_at order_claims 0 ≡ o → orders_allowed o no_orders ≡ true → say_all
          no_orders (ord 0) ≡ true
      unordered None f e = ap (λ o. say_all no_orders (order_claimed_or o no_orders)) f
      unordered (Some claimed) f e = ap (say_all no_orders) (order_claimed_at 0 claimed f) ∙ e

  -- ---- the loop over the body

  pub record WalkedTo (n : ℕ) (body' : List Instruction) (kinds : List Kind) (orders : Orders) : Type 0 where
    pub as_many : length body' ≡ length body
    pub first : allows (claim_at claims 0) (nothing count) ≡ true
    pub first_orders : orders_allowed (order_claim_at order_claims 0) no_orders ≡ true
    pub now : kinds ≡ at n
    pub now_ordered : orders ≡ ord n
    pub places : (place : ℕ) (i : Instruction) → place < n → slice_get body place ≡ Some i → Told body' place i
    pub rest : (place : ℕ) → n ≤ place → slice_get body' place ≡ slice_get body place

  pub walks_on : (n : ℕ) (body' : List Instruction) (kinds kinds' : List Kind) (orders orders' : Orders)
      (i i' : Instruction) → WalkedTo n body' kinds orders → slice_get body' n ≡ Some i
      → is_well claims kinds orders n i ≡ true → orders_are_well order_claims kinds orders n i ≡ true →
      i' ≡ lean kinds i
      → kinds' ≡ claimed_or (claim_at claims (suc n)) (falls kinds orders i)
      → orders' ≡ order_claimed_or (order_claim_at order_claims (suc n)) (orders_fall kinds orders i)
      → n < length body' → WalkedTo (n + 1) (slice_set body' n i') kinds' orders'
  walks_on n body' kinds kinds' orders orders' i i' w e well well_ordered made taken taken_orders below = record {
    as_many = set_length body' n i' ∙ w.as_many;
    first = w.first;
    first_orders = w.first_orders;
    now =
        taken ∙ ap (λ ks. claimed_or (claim_at claims (suc n)) (falls ks orders i)) w.now
        ∙ ap (λ os. claimed_or (claim_at claims (suc n)) (falls (at n) os i)) w.now_ordered
        ∙ sym (ap (λ o. claimed_or (claim_at claims (suc n)) (falls_from (known n) o).kinds) there)
        ∙ (let next : suc n ≡ n + 1 = omega arith in ap at next);
    now_ordered =
        taken_orders
        ∙ ap (λ ks. order_claimed_or (order_claim_at order_claims (suc n)) (orders_fall ks orders i)) w.now
        ∙ ap (λ os. order_claimed_or (order_claim_at order_claims (suc n)) (orders_fall (at n) os i)) w.now_ordered
        ∙ sym (ap (λ o. order_claimed_or (order_claim_at order_claims (suc n)) (falls_from (known n) o).orders) there)
        ∙ (let next : suc n ≡ n + 1 = omega arith in ap ord next);
    places = λ place j l f. by_case place j l f (cases_eq place n);
    rest = λ place l.
        let ne : place ≢ n = λ same. omega (arith, l, same) in
        get_set_other body' n place i' ne ∙ w.rest place (omega (arith, l));
  }
    where
      there : slice_get body n ≡ Some i
      there = sym (w.rest n (omega arith)) ∙ e

      here : (j : Instruction) → slice_get body n ≡ Some j → Told (slice_set body' n i') n j
      here j f =
          let same : i ≡ j = same_Some i j (sym there ∙ f) in (
            get_set_same body' n i' below ∙ ap Some (made ∙ ap (λ ks. lean ks i) w.now ∙ ap (lean (at n)) same),
            subst (λ j. is_well claims (at n) (ord n) n j ≡ true) same
                (subst (λ os. is_well claims (at n) os n i ≡ true) w.now_ordered
                (subst (λ ks. is_well claims ks orders n i ≡ true) w.now well)),
            subst (λ j. orders_are_well order_claims (at n) (ord n) n j ≡ true) same
                (subst (λ os. orders_are_well order_claims (at n) os n i ≡ true) w.now_ordered
                (subst (λ ks. orders_are_well order_claims ks orders n i ≡ true) w.now well_ordered)),
          )

      by_case : (place : ℕ) (j : Instruction) → place < n + 1 → slice_get body place ≡ Some j
          → (place ≡ n) ⊎ (place ≢ n) → Told (slice_set body' n i') place j
      by_case place j l f (inl same) =
          subst (λ q. Told (slice_set body' n i') q j) (sym same) (here j (ap (slice_get body) (sym same) ∙ f))
      by_case place j l f (inr ne) =
          let p = w.places place j (omega (arith, l, ne)) f in
          (get_set_other body' n place i' ne ∙ p.0, p.1, p.2)

  within : {X : Type 0} (xs : List X) (k : ℕ) (x : X) → slice_get xs k ≡ Some x → k < length xs
  within [] k x e = absurd (none-some x e)
  within (y ∷ xs) zero x e = omega arith
  within (y ∷ xs) (suc k) x e = let l = within xs k x e in omega (arith, l)

  pub walked_whole : (body' : List Instruction) (kinds : List Kind) (orders : Orders)
      → WalkedTo (length body) body' kinds orders → LeanBody body body'
  walked_whole body' kinds orders w =
      walked_is_lean body' w.first w.first_orders w.as_many
      (λ place i e. w.places place i (within body place i e) e)
