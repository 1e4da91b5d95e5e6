-- Relations between temporaries stay true where they are kept.
use Rattle.std.proofs.Common.{◌≡◌, ◌≢◌, ℕ, Bool, true, false, not, nat_eq, if◌then◌else◌, Option, Some, None, ℤ, pos}
use Rattle.std.proofs.Common.{negsuc, ◌+ℤ◌, refl, sym, ap, ◌∙◌, subst, arith, eq-eqb, eqb-true}
use Rattle.std.proofs.lemmas.Bool.{true≢false, and_parts, not-true, or_parts}
use Rattle.std.proofs.lemmas.Int.{ints}
use Rattle.std.proofs.lemmas.Option.{none-some, same_Some}
use Rattle.std.specs.Prelude.{int_lt, ◌<ℤ◌}
use Rattle.std.specs.Ordering.{int_eq}
use Rattle.tac_code.specs.declared.code.BitOperator.{BitOperator}
use Rattle.tac_code.specs.declared.code.BitOperator.TheVariants.{And, Or, AndNot, ShiftLeft, Plus}
use Rattle.tac_code.specs.declared.code.Operand.{Operand}
use Rattle.tac_code.specs.declared.code.Operand.TheVariants as operand
use Rattle.tac_code.specs.declared.code.Relation.{Relation}
use Rattle.tac_code.specs.declared.code.Relation.TheVariants.{Equal, NotEqual, Less, LessEqual, Greater, GreaterEqual}
use Rattle.tac_code.specs.declared.code.Value.{Value}
use Rattle.tac_code.specs.declared.code.Value.TheVariants.{Number, Address, Routine}
use Rattle.tac_code.specs.Numbers.{bits}
use Rattle.tac_code.specs.Meaning.{Temporaries, put, related, operand_value}
use Rattle.tac_code_steps.proofs.Temporaries.{put_same, put_other}
use Rattle.tac_known.specs.declared.kind.Kind.{Kind}
use Rattle.tac_known.specs.declared.kind.Kind.TheVariants.{Unknown, NotNil, Between}
use Rattle.tac_known.specs.declared.order.Order.{Order}
use Rattle.tac_known.specs.declared.order.Orders.{Orders}
use Rattle.tac_known.specs.Kinds.{IsOf}
use Rattle.tac_known.specs.Orders.{IsOrdered, AreOrdered, each, names, unless_of, without, is_free, with_order}
use Rattle.tac_known.specs.Orders.{is_left_of, of_copy, or_else, first_of_copy, copied, next_relation, with_relation}
use Rattle.tac_known.specs.Orders.{of_sum, of_sums, is_plain, plus, combined}
use Rattle.tac_known.proofs.Integers.{is_below, no_less}
use Rattle.tac_known.proofs.Results.{plain_sum_is}

others : (a b : ℕ) → nat_eq a b ≡ false → a ≢ b
others a b e same = true≢false (sym (eq-eqb a b same) ∙ e)

-- ---- each of them

pub each_is : (ts ts' : Temporaries) (f : Option Order → Option Order) (orders : Orders)
    → ((o : Option Order) → IsOrdered ts o → IsOrdered ts' (f o)) → AreOrdered ts orders →
    AreOrdered ts' (each f orders)
each_is ts ts' f orders g h =
    (g orders.first h.0, g orders.second h.1, g orders.third h.2, g orders.fourth h.3)

pub chosen : (ts : Temporaries) (b : Bool) (x y : Orders) → AreOrdered ts x → AreOrdered ts y → AreOrdered ts
    (if b then x else y)
chosen ts true x y h k = h
chosen ts false x y h k = k

pub with_order_is : (ts : Temporaries) (o : Option Order) (orders : Orders) → IsOrdered ts o → AreOrdered ts orders
    → AreOrdered ts (with_order o orders)
with_order_is ts o orders h k =
    chosen ts (is_free orders.first) _ _ (h, k.1, k.2, k.3)
    (chosen ts (is_free orders.second) _ _ (k.0, h, k.2, k.3)
    (chosen ts (is_free orders.third) _ _ (k.0, k.1, h, k.3)
    (chosen ts (is_free orders.fourth) _ orders (k.0, k.1, k.2, h) k)))

-- ---- where a temporary is written

module _ (ts : Temporaries) (t : ℕ) (v : Value) where
  -- a relation of the values of two other ones
  stays : (order : Order) → order.left ≢ t → order.right ≢ t → IsOrdered ts (Some order)
      → IsOrdered (put ts t v) (Some order)
  stays order l r h =
      ap (λ o. related order.relation o (put ts t v order.right)) (put_other ts t v order.left l)
      ∙ ap (related order.relation (ts order.left)) (put_other ts t v order.right r) ∙ h

  unless_is : (o : Option Order) → IsOrdered ts o → IsOrdered (put ts t v) (unless_of t o)
  unless_is None h = tt
  unless_is (Some order) h = which (names t order) refl
    where
      which : (b : Bool) → names t order ≡ b → IsOrdered (put ts t v) (if b then None else Some order)
      which true e = tt
      which false e =
          let n = or_parts (nat_eq order.left t) (nat_eq order.right t) e in
          stays order (others order.left t n.0) (others order.right t n.1) h

  pub without_is : (orders : Orders) → AreOrdered ts orders → AreOrdered (put ts t v) (without t orders)
  without_is orders h = each_is ts (put ts t v) (unless_of t) orders unless_is h

  -- what is known of another temporary, and of its value's copy
  moved : (a : ℕ) (relation : Relation) (order : Order) (o : Option Value) → is_left_of a t order ≡ true
      → related relation o (ts order.right) ≡ Some true → o ≡ Some v
      → IsOrdered (put ts t v) (Some (record { left = t; relation = relation; right = order.right }))
  moved a relation order o e h same =
      let c = and_parts (nat_eq order.left a) (not (nat_eq order.right t)) e in
      ap (λ o. related relation o (put ts t v order.right)) (put_same ts t v ∙ sym same)
      ∙ ap (related relation o)
      (put_other ts t v order.right (others order.right t (not-true (nat_eq order.right t) c.1))) ∙ h

  of_copy_is : (a : ℕ) → ts a ≡ Some v → (o : Option Order) → IsOrdered ts o → IsOrdered (put ts t v) (of_copy t a o)
  of_copy_is a same None h = tt
  of_copy_is a same (Some order) h = which (is_left_of a t order) refl
    where
      which : (b : Bool) → is_left_of a t order ≡ b → IsOrdered (put ts t v)
          (if b then Some (record { left = t; relation = order.relation; right = order.right }) else None)
      which true e =
          let c = and_parts (nat_eq order.left a) (not (nat_eq order.right t)) e in
          moved a order.relation order (ts a) e
          (subst (λ u. related order.relation (ts u) (ts order.right) ≡ Some true) (eqb-true order.left a c.0) h) same
      which false e = tt

or_else_is : (ts : Temporaries) (o o' : Option Order) → IsOrdered ts o → IsOrdered ts o' → IsOrdered ts (or_else o o')
or_else_is ts None o' h k = k
or_else_is ts (Some order) o' h k = h

pub copied_is : (ts : Temporaries) (t a : ℕ) (v : Value) (orders : Orders) → ts a ≡ Some v → AreOrdered ts orders
    → AreOrdered (put ts t v) (copied t a orders)
copied_is ts t a v orders same h =
    with_order_is (put ts t v) (first_of_copy t a orders) (without t orders)
    (or_else_is (put ts t v) (of_copy t a orders.first) _ (of_copy_is ts t v a same orders.first h.0)
    (or_else_is (put ts t v) (of_copy t a orders.second) _ (of_copy_is ts t v a same orders.second h.1)
    (or_else_is (put ts t v) (of_copy t a orders.third) (of_copy t a orders.fourth)
    (of_copy_is ts t v a same orders.third h.2) (of_copy_is ts t v a same orders.fourth h.3))))
    (without_is ts t v orders h)

-- ---- sums

-- what a number is less, or greater, than is a number
numbers_less : (x : ℤ) (o : Option Value) → related Less (Some (Number x)) o ≡ Some true → (y : ℤ)
    × (o ≡ Some (Number y)) × (x <ℤ y)
numbers_less x None e = absurd (none-some true e)
numbers_less x (Some (Number y)) e = (y, refl, is_below y x (same_Some (int_lt x y) true e))
numbers_less x (Some (Address block offset)) e = absurd (none-some true e)
numbers_less x (Some (Routine r)) e = absurd (none-some true e)

numbers_greater : (x : ℤ) (o : Option Value) → related Greater (Some (Number x)) o ≡ Some true → (y : ℤ)
    × (o ≡ Some (Number y)) × (y <ℤ x)
numbers_greater x None e = absurd (none-some true e)
numbers_greater x (Some (Number y)) e = (y, refl, is_below x y (same_Some (int_lt y x) true e))
numbers_greater x (Some (Address block offset)) e = absurd (none-some true e)
numbers_greater x (Some (Routine r)) e = absurd (none-some true e)

eq_number : (x y : ℤ) → int_eq x y ≡ true → x ≡ y
eq_number x y e = grind (arith, ints)

-- a step of a number
next_less : (x z : ℤ) (o : Option Value) → int_eq z (pos 1) ≡ true → related Less (Some (Number x)) o ≡ Some true
    → related LessEqual (Some (Number (x +ℤ z))) o ≡ Some true
next_less x z o e h =
    let n = numbers_less x o h in
    let y = n.0 in
    let s = eq_number z (pos 1) e in
    let l = n.2 in
    ap (related LessEqual (Some (Number (x +ℤ z)))) n.1
    ∙ ap (λ b. Some (not b)) (no_less (x +ℤ z) y (omega (arith, ints, s, l)))

next_greater : (x z : ℤ) (o : Option Value) → int_eq z (negsuc 0) ≡ true → related Greater (Some (Number x)) o
    ≡ Some true → related GreaterEqual (Some (Number (x +ℤ z))) o ≡ Some true
next_greater x z o e h =
    let n = numbers_greater x o h in
    let y = n.0 in
    let s = eq_number z (negsuc 0) e in
    let l = n.2 in
    ap (related GreaterEqual (Some (Number (x +ℤ z)))) n.1
    ∙ ap (λ b. Some (not b)) (no_less y (x +ℤ z) (omega (arith, ints, s, l)))

module _ (ts : Temporaries) (t a : ℕ) (x z : ℤ) (at : ts a ≡ Some (Number x)) where
  abbrev sum : Value
  sum = Number (x +ℤ z)

  next_is : (relation : Relation) (order : Order) → is_left_of a t order ≡ true
      → related relation (Some (Number x)) (ts order.right) ≡ Some true
      → IsOrdered (put ts t sum) (with_relation t (next_relation relation z) order.right)
  next_is Equal order e h = tt
  next_is NotEqual order e h = tt
  next_is LessEqual order e h = tt
  next_is GreaterEqual order e h = tt
  next_is Less order e h = which (int_eq z (pos 1)) refl
    where
      which : (b : Bool) → int_eq z (pos 1) ≡ b → IsOrdered (put ts t sum)
          (with_relation t (if b then Some LessEqual else None) order.right)
      which true f =
          moved ts t sum a LessEqual order (Some sum) e (next_less x z (ts order.right) f h) refl
      which false f = tt
  next_is Greater order e h = which (int_eq z (negsuc 0)) refl
    where
      which : (b : Bool) → int_eq z (negsuc 0) ≡ b → IsOrdered (put ts t sum)
          (with_relation t (if b then Some GreaterEqual else None) order.right)
      which true f =
          moved ts t sum a GreaterEqual order (Some sum) e (next_greater x z (ts order.right) f h) refl
      which false f = tt

  of_sum_is : (o : Option Order) → IsOrdered ts o → IsOrdered (put ts t sum) (of_sum t a z o)
  of_sum_is None h = tt
  of_sum_is (Some order) h = which (is_left_of a t order) refl
    where
      which : (b : Bool) → is_left_of a t order ≡ b → IsOrdered (put ts t sum)
          (if b then with_relation t (next_relation order.relation z) order.right else unless_of t (Some order))
      which true e =
          let c = and_parts (nat_eq order.left a) (not (nat_eq order.right t)) e in
          next_is order.relation order e
          (sym (ap (λ u. related order.relation (ts u) (ts order.right)) (eqb-true order.left a c.0)
          ∙ ap (λ o. related order.relation o (ts order.right)) at) ∙ h)
      which false e = unless_is ts t sum (Some order) h

plus_is : (ts : Temporaries) (t a : ℕ) (x z : ℤ) (k : Kind) (orders : Orders) → ts a ≡ Some (Number x) → IsOf k
    (Some (Number x)) → AreOrdered ts orders → AreOrdered (put ts t (Number (bits Plus x z))) (plus k t a z orders)
plus_is ts t a x z k orders at is h = which (is_plain k z) refl
  where
    sums : (k : Kind) → IsOf k (Some (Number x)) → is_plain k z ≡ true → bits Plus x z ≡ x +ℤ z
    sums Unknown is e = absurd (true≢false (sym e))
    sums NotNil is e = absurd (true≢false (sym e))
    sums (Between l h) is e = plain_sum_is l h x z e is

    which : (b : Bool) → is_plain k z ≡ b → AreOrdered (put ts t (Number (bits Plus x z)))
        (if b then of_sums t a z orders else without t orders)
    which true e =
        subst (λ s. AreOrdered (put ts t (Number s)) (of_sums t a z orders)) (sym (sums k is e))
        (each_is ts (put ts t (Number (x +ℤ z))) (of_sum t a z) orders (of_sum_is ts t a x z at) h)
    which false e = without_is ts t (Number (bits Plus x z)) orders h

pub combined_is : (ts : Temporaries) (operator : BitOperator) (t a : ℕ) (b : Operand) (x y : ℤ) (k : Kind)
    (orders : Orders) → ts a ≡ Some (Number x) → operand_value ts b ≡ Some (Number y) → IsOf k (Some (Number x))
    → AreOrdered ts orders → AreOrdered (put ts t (Number (bits operator x y))) (combined k operator t a b orders)
combined_is ts And t a b x y k orders at f is h = without_is ts t (Number (bits And x y)) orders h
combined_is ts Or t a b x y k orders at f is h = without_is ts t (Number (bits Or x y)) orders h
combined_is ts AndNot t a b x y k orders at f is h = without_is ts t (Number (bits AndNot x y)) orders h
combined_is ts ShiftLeft t a b x y k orders at f is h = without_is ts t (Number (bits ShiftLeft x y)) orders h
combined_is ts Plus t a (operand.Temporary u) x y k orders at f is h = without_is ts t (Number (bits Plus x y)) orders h
combined_is ts Plus t a (operand.Number z) x y k orders at f is h =
    subst (λ y. AreOrdered (put ts t (Number (bits Plus x y))) (plus k t a z orders)) (same_numbers z y f)
    (plus_is ts t a x z k orders at is h)
  where
    number_in : Value → ℤ
    number_in (Number z) = z
    number_in (Address block offset) = pos 0
    number_in (Routine r) = pos 0

    same_numbers : (z y : ℤ) → Some (Number z) ≡ Some (Number y) → z ≡ y
    same_numbers z y e = ap number_in (same_Some (Number z) (Number y) e)
