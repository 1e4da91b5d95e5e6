-- What is known of the order of temporaries: how the value of one is related to that of another.
use Rattle.std.specs.Prelude.{◌≡◌, ℕ, suc, ◌+◌, ◌-◌, Bool, true, false, not, ◌&&◌, ◌||◌, nat_eq, if◌then◌else◌, List}
use Rattle.std.specs.Prelude.{Option, Some, None, ℤ, pos, negsuc}
use Rattle.std.specs.Ordering.{int_eq}
use Rattle.tac_code.specs.declared.code.BitOperator.{BitOperator}
use Rattle.tac_code.specs.declared.code.BitOperator.TheVariants.{Plus}
use Rattle.tac_code.specs.declared.code.Relation.{Relation}
use Rattle.tac_code.specs.declared.code.Relation.TheVariants.{Equal, NotEqual, Less, LessEqual, Greater, GreaterEqual}
use Rattle.tac_code.specs.declared.code.Operand.{Operand}
use Rattle.tac_code.specs.declared.code.Operand.TheVariants as operand
use Rattle.tac_code.specs.declared.code.Instruction.{Instruction}
use Rattle.tac_code.specs.declared.code.Instruction.TheVariants.{Literal, Copy, Arithmetic, Bits, Compare, CheckRange}
use Rattle.tac_code.specs.declared.code.Instruction.TheVariants.{CheckPointer, Text, Offset, Index, RoutineValue, Load}
use Rattle.tac_code.specs.declared.code.Instruction.TheVariants.{Store, LoadByte, StoreByte, Jump, JumpBack, Branch}
use Rattle.tac_code.specs.declared.code.Instruction.TheVariants.{BranchBack, Return, Trap, Take, Put, New, End}
use Rattle.tac_code.specs.Meaning.{Temporaries, related}
use Rattle.tac_known.specs.declared.kind.Kind.{Kind}
use Rattle.tac_known.specs.declared.kind.Kind.TheVariants.{Between}
use Rattle.tac_known.specs.declared.order.Order.{Order}
use Rattle.tac_known.specs.declared.order.Orders.{Orders}
use Rattle.tac_known.specs.Kinds.{kind_in, are_plain, opposite}

-- ---- what they mean

abbrev pub IsOrdered : Temporaries → Option Order → Type 0
IsOrdered temporaries None = Unit {0}
IsOrdered temporaries (Some order) =
    related order.relation (temporaries order.left) (temporaries order.right) ≡ Some true

-- four are known, at most
abbrev pub AreOrdered : Temporaries → Orders → Type 0
AreOrdered temporaries orders =
    IsOrdered temporaries orders.first × IsOrdered temporaries orders.second × IsOrdered temporaries orders.third
    × IsOrdered temporaries orders.fourth

abbrev pub no_orders : Orders
no_orders = record { first = None; second = None; third = None; fourth = None }

abbrev pub each : (Option Order → Option Order) → Orders → Orders
each f orders = record {
  first = f orders.first;
  second = f orders.second;
  third = f orders.third;
  fourth = f orders.fourth;
}

-- ---- where a temporary is written

abbrev pub names : ℕ → Order → Bool
names t order = nat_eq order.left t || nat_eq order.right t

abbrev pub unless_of : ℕ → Option Order → Option Order
unless_of t None = None
unless_of t (Some order) = if names t order then None else Some order

abbrev pub without : ℕ → Orders → Orders
without t orders = each (unless_of t) orders

-- when nothing is known yet
abbrev pub is_free : Option Order → Bool
is_free None = true
is_free (Some order) = false

abbrev pub with_order : Option Order → Orders → Orders
with_order o orders =
    if is_free orders.first then
    record { first = o; second = orders.second; third = orders.third; fourth = orders.fourth }
    else if is_free orders.second then
    record { first = orders.first; second = o; third = orders.third; fourth = orders.fourth }
    else if is_free orders.third then
    record { first = orders.first; second = orders.second; third = o; fourth = orders.fourth }
    else if is_free orders.fourth then
    record { first = orders.first; second = orders.second; third = orders.third; fourth = o }
    else orders

-- ---- copies

abbrev pub is_left_of : ℕ → ℕ → Order → Bool
is_left_of a t order = nat_eq order.left a && not (nat_eq order.right t)

-- the same of the copy of a temporary, unless it is known of itself
abbrev pub of_copy : ℕ → ℕ → Option Order → Option Order
of_copy t a None = None
of_copy t a (Some order) =
    if is_left_of a t order then
    Some (record { left = t; relation = order.relation; right = order.right })
    else None

abbrev pub or_else : Option Order → Option Order → Option Order
or_else None o = o
or_else (Some order) o = Some order

abbrev pub first_of_copy : ℕ → ℕ → Orders → Option Order
first_of_copy t a orders =
    or_else (of_copy t a orders.first) (or_else (of_copy t a orders.second)
    (or_else (of_copy t a orders.third) (of_copy t a orders.fourth)))

abbrev pub copied : ℕ → ℕ → Orders → Orders
copied t a orders = with_order (first_of_copy t a orders) (without t orders)

-- ---- sums

-- if a number is less, one more than it is not greater; if it is greater, one less than it is not less
abbrev pub next_relation : Relation → ℤ → Option Relation
next_relation Less z = if int_eq z (pos 1) then Some LessEqual else None
next_relation Greater z = if int_eq z (negsuc 0) then Some GreaterEqual else None
next_relation _ z = None

abbrev pub with_relation : ℕ → Option Relation → ℕ → Option Order
with_relation t None u = None
with_relation t (Some relation) u = Some (record { left = t; relation = relation; right = u })

abbrev pub of_sum : ℕ → ℕ → ℤ → Option Order → Option Order
of_sum t a z None = None
of_sum t a z (Some order) =
    if is_left_of a t order then
    with_relation t (next_relation order.relation z) order.right
    else unless_of t (Some order)

abbrev pub of_sums : ℕ → ℕ → ℤ → Orders → Orders
of_sums t a z orders = each (of_sum t a z) orders

-- whether a number's sum modulo 2 ^ 32 with another one goes around nowhere
abbrev pub is_plain : Kind → ℤ → Bool
is_plain (Between l h) z = are_plain l h z z
is_plain _ z = false

abbrev pub plus : Kind → ℕ → ℕ → ℤ → Orders → Orders
plus k t a z orders = if is_plain k z then of_sums t a z orders else without t orders

abbrev pub combined : Kind → BitOperator → ℕ → ℕ → Operand → Orders → Orders
combined k Plus t a (operand.Number z) orders = plus k t a z orders
combined k operator t a b orders = without t orders

-- ---- behind instructions

abbrev pub orders_behind : List Kind → Orders → Instruction → Orders
orders_behind kinds orders (Literal t z) = without t orders
orders_behind kinds orders (Copy t a) = copied t a orders
orders_behind kinds orders (Arithmetic operator t a b error line) = without t orders
orders_behind kinds orders (Bits operator t a b) = combined (kind_in kinds a) operator t a b orders
orders_behind kinds orders (Compare relation t a b) = without t orders
orders_behind kinds orders (CheckRange a low high error line) = orders
orders_behind kinds orders (CheckPointer a error line) = orders
orders_behind kinds orders (Text t bytes) = without t orders
orders_behind kinds orders (Offset t b n extent) = without t orders
orders_behind kinds orders (Index t b x low high width error line) = without t orders
orders_behind kinds orders (RoutineValue t r) = without t orders
orders_behind kinds orders (Load t b n) = without t orders
orders_behind kinds orders (LoadByte t b n) = without t orders
orders_behind kinds orders (Take t) = without t orders
orders_behind kinds orders (New t object_type line) = without t orders
orders_behind kinds orders (Store b n a) = orders
orders_behind kinds orders (StoreByte b n a) = orders
orders_behind kinds orders (Put a) = orders
orders_behind kinds orders _ = no_orders

-- ---- branches

-- what is known if both hold
abbrev pub sharper : Relation → Relation → Relation
sharper LessEqual NotEqual = Less
sharper GreaterEqual NotEqual = Greater
sharper known relation = relation

abbrev pub is_of : ℕ → ℕ → Order → Bool
is_of a u order = nat_eq order.left a && nat_eq order.right u

abbrev pub sharpened : ℕ → ℕ → Relation → Option Order → Relation
sharpened a u relation None = relation
sharpened a u relation (Some order) = if is_of a u order then sharper order.relation relation else relation

-- what is known of two temporaries if a branch shows that a relation holds
abbrev pub sharp_of : Orders → Relation → ℕ → ℕ → Relation
sharp_of orders relation a u =
    sharpened a u (sharpened a u (sharpened a u (sharpened a u relation orders.first) orders.second) orders.third)
    orders.fourth

abbrev pub sharp : Orders → Relation → ℕ → Operand → Relation
sharp orders relation a (operand.Temporary u) = sharp_of orders relation a u
sharp orders relation a (operand.Number z) = relation

abbrev pub is_order : Relation → Bool
is_order Equal = false
is_order NotEqual = false
is_order _ = true

abbrev pub unless_both : ℕ → ℕ → Option Order → Option Order
unless_both a u None = None
unless_both a u (Some order) = if is_of a u order then None else Some order

abbrev pub without_both : ℕ → ℕ → Orders → Orders
without_both a u orders = each (unless_both a u) orders

abbrev pub found : Relation → ℕ → ℕ → Orders → Orders
found relation a u orders =
    if is_order relation then
    with_order (Some (record { left = a; relation = relation; right = u })) (without_both a u orders)
    else orders

abbrev pub orders_where : Orders → Relation → ℕ → Operand → Orders
orders_where orders relation a (operand.Temporary u) = found (sharp_of orders relation a u) a u orders
orders_where orders relation a (operand.Number z) = orders

-- ---- where places meet

abbrev pub implies : Relation → Relation → Bool
implies Equal Equal = true
implies NotEqual NotEqual = true
implies Less Less = true
implies Less LessEqual = true
implies LessEqual LessEqual = true
implies Greater Greater = true
implies Greater GreaterEqual = true
implies GreaterEqual GreaterEqual = true
implies _ _ = false

-- whether the second follows from the first
abbrev pub says : Option Order → Order → Bool
says None order = false
says (Some known) order = is_of order.left order.right known && implies known.relation order.relation

abbrev pub say : Orders → Option Order → Bool
say orders None = true
say orders (Some order) =
    says orders.first order || (says orders.second order || (says orders.third order || says orders.fourth order))

-- the second ones say no more than the first ones
abbrev pub say_all : Orders → Orders → Bool
say_all orders claimed =
    say orders claimed.first
    && (say orders claimed.second && (say orders claimed.third && say orders claimed.fourth))

-- ---- bodies

-- by places of a body: what is known there
abbrev pub OrdersLead : (ℕ → List Kind) → (ℕ → Orders) → ℕ → Instruction → Type 0
OrdersLead at ord place (Jump n) = say_all (ord place) (ord (suc place + n)) ≡ true
OrdersLead at ord place (JumpBack n) = say_all (ord place) (ord (place - n)) ≡ true
OrdersLead at ord place (Branch relation a b n) =
    (say_all (orders_where (ord place) relation a b) (ord (suc place + n)) ≡ true)
    × (say_all (orders_where (ord place) (opposite relation) a b) (ord (suc place)) ≡ true)
OrdersLead at ord place (BranchBack relation a b n) =
    (say_all (orders_where (ord place) relation a b) (ord (place - n)) ≡ true)
    × (say_all (orders_where (ord place) (opposite relation) a b) (ord (suc place)) ≡ true)
OrdersLead at ord place (Return a) = Unit {0}
OrdersLead at ord place (Trap error line) = Unit {0}
OrdersLead at ord place End = Unit {0}
OrdersLead at ord place i = say_all (orders_behind (at place) (ord place) i) (ord (suc place)) ≡ true
