-- A walk over a body: what is known at each place, from what arrives there from the place before or what is claimed at
-- the target of a jump.
use Rattle.std.specs.Prelude.{ℕ, zero, suc, ◌+◌, ◌-◌, ◌&&◌, Bool, true, false, if◌then◌else◌, List, []}
use Rattle.std.specs.Prelude.{replicate, slice_get, Option, Some, None}
use Rattle.tac_code.specs.declared.code.Instruction.{Instruction}
use Rattle.tac_code.specs.declared.code.Instruction.TheVariants.{Jump, JumpBack, Branch, BranchBack, Return, Trap, End}
use Rattle.tac_known.specs.declared.kind.Kind.{Kind}
use Rattle.tac_known.specs.declared.kind.Kind.TheVariants.{Unknown}
use Rattle.tac_known.specs.Kinds.{opposite, say_no_more}
use Rattle.tac_known.specs.Lean.{behind, where_related}
use Rattle.tac_known.specs.declared.order.Orders.{Orders}
use Rattle.tac_known.specs.Orders.{no_orders, sharp, orders_where, orders_behind, say_all}

-- what is claimed at the targets of jumps
abbrev pub Claims : Type 0
Claims = List (Option (List Kind))

abbrev pub or_none : Option (Option (List Kind)) → Option (List Kind)
or_none None = None
or_none (Some o) = o

abbrev pub claim_at : Claims → ℕ → Option (List Kind)
claim_at claims place = or_none (slice_get claims place)

abbrev pub claimed_or : Option (List Kind) → List Kind → List Kind
claimed_or None kinds = kinds
claimed_or (Some claimed) kinds = claimed

-- what is known of the order of temporaries at the targets of jumps
abbrev pub OrderClaims : Type 0
OrderClaims = List (Option Orders)

abbrev pub or_no_claim : Option (Option Orders) → Option Orders
or_no_claim None = None
or_no_claim (Some o) = o

abbrev pub order_claim_at : OrderClaims → ℕ → Option Orders
order_claim_at claims place = or_no_claim (slice_get claims place)

abbrev pub order_claimed_or : Option Orders → Orders → Orders
order_claimed_or None orders = orders
order_claimed_or (Some claimed) orders = claimed

-- what falls to the next place
abbrev pub falls : List Kind → Orders → Instruction → List Kind
falls kinds orders (Branch relation a b n) = where_related (sharp orders (opposite relation) a b) a b kinds
falls kinds orders (BranchBack relation a b n) = where_related (sharp orders (opposite relation) a b) a b kinds
falls kinds orders i = behind kinds i

abbrev pub orders_fall : List Kind → Orders → Instruction → Orders
orders_fall kinds orders (Branch relation a b n) = orders_where orders (opposite relation) a b
orders_fall kinds orders (BranchBack relation a b n) = orders_where orders (opposite relation) a b
orders_fall kinds orders i = orders_behind kinds orders i

-- what is known at a place
pub record Known : Type 0 where
  pub kinds : List Kind
  pub orders : Orders

-- nothing is known of a number of temporaries
abbrev pub nothing : ℕ → List Kind
nothing count = replicate count Unknown

abbrev pub falls_from : Known → Option Instruction → Known
falls_from known None = record { kinds = []; orders = no_orders }
falls_from known (Some i) = record {
  kinds = falls known.kinds known.orders i;
  orders = orders_fall known.kinds known.orders i;
}

abbrev pub claimed_there : Claims → OrderClaims → ℕ → Known → Known
claimed_there claims order_claims place known = record {
  kinds = claimed_or (claim_at claims place) known.kinds;
  orders = order_claimed_or (order_claim_at order_claims place) known.orders;
}

abbrev pub known_at : ℕ → Claims → OrderClaims → List Instruction → ℕ → Known
known_at count claims order_claims body zero =
    claimed_there claims order_claims 0 (record { kinds = nothing count; orders = no_orders })
known_at count claims order_claims body (suc n) =
    claimed_there claims order_claims (suc n)
    (falls_from (known_at count claims order_claims body n) (slice_get body n))

-- ---- tests

-- no more is claimed at the next place than is known when control goes on to it
abbrev pub allows : Option (List Kind) → List Kind → Bool
allows None kinds = true
allows (Some claimed) kinds = say_no_more kinds claimed

-- the same for the target of a jump
abbrev pub aims : Option (List Kind) → List Kind → Bool
aims None kinds = false
aims (Some claimed) kinds = say_no_more kinds claimed

abbrev pub aims_well : Claims → List Kind → Orders → ℕ → Instruction → Bool
aims_well claims kinds orders place (Jump n) = aims (claim_at claims (suc place + n)) kinds
aims_well claims kinds orders place (JumpBack n) = aims (claim_at claims (place - n)) kinds
aims_well claims kinds orders place (Branch relation a b n) =
    aims (claim_at claims (suc place + n)) (where_related (sharp orders relation a b) a b kinds)
aims_well claims kinds orders place (BranchBack relation a b n) =
    aims (claim_at claims (place - n)) (where_related (sharp orders relation a b) a b kinds)
aims_well claims kinds orders place i = true

abbrev pub goes_on_to_next : Instruction → Bool
goes_on_to_next (Jump n) = false
goes_on_to_next (JumpBack n) = false
goes_on_to_next (Return a) = false
goes_on_to_next (Trap error line) = false
goes_on_to_next End = false
goes_on_to_next i = true

abbrev pub falls_well : Claims → List Kind → Orders → ℕ → Instruction → Bool
falls_well claims kinds orders place i =
    if goes_on_to_next i then allows (claim_at claims (suc place)) (falls kinds orders i) else true

abbrev pub is_well : Claims → List Kind → Orders → ℕ → Instruction → Bool
is_well claims kinds orders place i = aims_well claims kinds orders place i && falls_well claims kinds orders place i

-- ---- the same of orders

abbrev pub orders_allowed : Option Orders → Orders → Bool
orders_allowed None orders = true
orders_allowed (Some claimed) orders = say_all orders claimed

abbrev pub orders_aimed : Option Orders → Orders → Bool
orders_aimed None orders = false
orders_aimed (Some claimed) orders = say_all orders claimed

abbrev pub orders_aim_well : OrderClaims → Orders → ℕ → Instruction → Bool
orders_aim_well claims orders place (Jump n) = orders_aimed (order_claim_at claims (suc place + n)) orders
orders_aim_well claims orders place (JumpBack n) = orders_aimed (order_claim_at claims (place - n)) orders
orders_aim_well claims orders place (Branch relation a b n) =
    orders_aimed (order_claim_at claims (suc place + n)) (orders_where orders relation a b)
orders_aim_well claims orders place (BranchBack relation a b n) =
    orders_aimed (order_claim_at claims (place - n)) (orders_where orders relation a b)
orders_aim_well claims orders place i = true

abbrev pub allowed_if_falls : Instruction → Option Orders → Orders → Bool
allowed_if_falls i claimed orders = if goes_on_to_next i then orders_allowed claimed orders else true

abbrev pub orders_fall_well : OrderClaims → List Kind → Orders → ℕ → Instruction → Bool
orders_fall_well claims kinds orders place i =
    allowed_if_falls i (order_claim_at claims (suc place)) (orders_fall kinds orders i)

abbrev pub orders_are_well : OrderClaims → List Kind → Orders → ℕ → Instruction → Bool
orders_are_well claims kinds orders place i =
    orders_aim_well claims orders place i && orders_fall_well claims kinds orders place i
