-- Relations between temporaries that hold where a branch says so.
use Rattle.std.proofs.Common.{◌≡◌, ◌≢◌, ◌⊎◌, inl, inr, ℕ, Bool, true, false, not, nat_eq, if◌then◌else◌, Option, Some}
use Rattle.std.proofs.Common.{None, ℤ, refl, sym, ap, ◌∙◌, arith, eqb-true}
use Rattle.std.proofs.lemmas.Bool.{true≢false, and_parts, not-true}
use Rattle.std.proofs.lemmas.Int.{ints}
use Rattle.std.proofs.lemmas.Option.{none-some, same_Some}
use Rattle.std.specs.Prelude.{int_lt}
use Rattle.tac_code.specs.declared.code.Operand.{Operand}
use Rattle.tac_code.specs.declared.code.Operand.TheVariants as operand
use Rattle.tac_code.specs.declared.code.Relation.{Relation}
use Rattle.tac_code.specs.declared.code.Relation.TheVariants.{Equal, NotEqual, Less, LessEqual, Greater, GreaterEqual}
use Rattle.tac_code.specs.declared.code.Value.{Value}
use Rattle.tac_code.specs.declared.code.Value.TheVariants.{Number, Address, Routine}
use Rattle.tac_code.specs.Numbers.{compared, same_number}
use Rattle.tac_code.specs.Meaning.{Temporaries, related, pointers_related, pointer_of, same_pointer, operand_value}
use Rattle.tac_code.proofs.Numbers.{at_least}
use Rattle.tac_known.specs.declared.order.Order.{Order}
use Rattle.tac_known.specs.declared.order.Orders.{Orders}
use Rattle.tac_known.specs.Kinds.{opposite}
use Rattle.tac_known.specs.Orders.{IsOrdered, AreOrdered, sharper, is_of, sharpened, sharp_of, sharp, is_order}
use Rattle.tac_known.specs.Orders.{unless_both, without_both, found, orders_where}
use Rattle.tac_known.proofs.Integers.{same_itself}
use Rattle.tac_known.proofs.Results.{other_relation}
use Rattle.tac_known.proofs.Ordered.{chosen, each_is, with_order_is}

-- ---- branches

-- two numbers, or what only pointers can be
pairs : (o o' : Option Value) → ((x : ℤ) × (y : ℤ) × (o ≡ Some (Number x)) × (o' ≡ Some (Number y)))
    ⊎ ((relation : Relation) → related relation o o' ≡ pointers_related relation (pointer_of o) (pointer_of o'))
pairs None o' = inr (λ relation. refl)
pairs (Some (Address block offset)) o' = inr (λ relation. refl)
pairs (Some (Routine r)) o' = inr (λ relation. refl)
pairs (Some (Number x)) None = inr (λ relation. refl)
pairs (Some (Number x)) (Some (Number y)) = inl (x, y, refl, refl)
pairs (Some (Number x)) (Some (Address block offset)) = inr (λ relation. refl)
pairs (Some (Number x)) (Some (Routine r)) = inr (λ relation. refl)

opposite_pointers : (relation : Relation) (p q : Option (Option ℕ)) → pointers_related relation p q ≡ Some false
    → pointers_related (opposite relation) p q ≡ Some true
opposite_pointers Equal None q e = absurd (none-some false e)
opposite_pointers Equal (Some p) None e = absurd (none-some false e)
opposite_pointers Equal (Some p) (Some q) e = ap (λ b. Some (not b)) (same_Some (same_pointer p q) false e)
opposite_pointers NotEqual None q e = absurd (none-some false e)
opposite_pointers NotEqual (Some p) None e = absurd (none-some false e)
opposite_pointers NotEqual (Some p) (Some q) e =
    ap Some (negated (same_pointer p q) (same_Some (not (same_pointer p q)) false e))
  where
    negated : (b : Bool) → not b ≡ false → b ≡ true
    negated true e = refl
    negated false e = absurd (true≢false e)
opposite_pointers Less p q e = absurd (none-some false e)
opposite_pointers LessEqual p q e = absurd (none-some false e)
opposite_pointers Greater p q e = absurd (none-some false e)
opposite_pointers GreaterEqual p q e = absurd (none-some false e)

pub opposite_holds : (relation : Relation) (o o' : Option Value) → related relation o o' ≡ Some false
    → related (opposite relation) o o' ≡ Some true
opposite_holds relation o o' e = which (pairs o o')
  where
    which : ((x : ℤ) × (y : ℤ) × (o ≡ Some (Number x)) × (o' ≡ Some (Number y)))
        ⊎ ((relation : Relation) → related relation o o' ≡ pointers_related relation (pointer_of o) (pointer_of o'))
        → related (opposite relation) o o' ≡ Some true
    which (inl (x, y, f, g)) =
        let at : (r : Relation) → related r o o' ≡ Some (compared r x y)
        = λ r. ap (λ o. related r o o') f ∙ ap (related r (Some (Number x))) g in
        at (opposite relation)
        ∙ ap Some (other_relation relation x y (same_Some (compared relation x y) false (sym (at relation) ∙ e)))
    which (inr same) =
        same (opposite relation)
        ∙ opposite_pointers relation (pointer_of o) (pointer_of o') (sym (same relation) ∙ e)

less_of : (x y : ℤ) → not (int_lt y x) ≡ true → not (same_number x y) ≡ true → int_lt x y ≡ true
less_of x y e f = which (int_lt x y) refl
  where
    which : (b : Bool) → int_lt x y ≡ b → b ≡ true
    which true g = refl
    which false g =
        let p = at_least x y (not-true (int_lt y x) e) in
        let q = at_least y x g in
        let s : x ≡ y = omega (arith, ints, p, q) in
        absurd (true≢false (sym (same_itself x) ∙ ap (same_number x) s ∙ not-true (same_number x y) f))

-- where both hold
pub meets : (known relation sharp : Relation) (o o' : Option Value)
    → ((p q : Option (Option ℕ)) → pointers_related known p q ≡ None)
    → ((x y : ℤ) → compared known x y ≡ true → compared relation x y ≡ true → compared sharp x y ≡ true)
    → related known o o' ≡ Some true → related relation o o' ≡ Some true → related sharp o o' ≡ Some true
meets known relation sharp o o' none numbers h k = which (pairs o o')
  where
    which : ((x : ℤ) × (y : ℤ) × (o ≡ Some (Number x)) × (o' ≡ Some (Number y)))
        ⊎ ((relation : Relation) → related relation o o' ≡ pointers_related relation (pointer_of o) (pointer_of o'))
        → related sharp o o' ≡ Some true
    which (inl (x, y, f, g)) =
        let at : (r : Relation) → related r o o' ≡ Some (compared r x y)
        = λ r. ap (λ o. related r o o') f ∙ ap (related r (Some (Number x))) g in
        at sharp
        ∙ ap Some (numbers x y (same_Some (compared known x y) true (sym (at known) ∙ h))
        (same_Some (compared relation x y) true (sym (at relation) ∙ k)))
    which (inr same) =
        absurd (none-some true (sym (none (pointer_of o) (pointer_of o')) ∙ sym (same known) ∙ h))

greater_of : (x y : ℤ) → not (int_lt x y) ≡ true → not (same_number x y) ≡ true → int_lt y x ≡ true
greater_of x y e f = which (int_lt y x) refl
  where
    which : (b : Bool) → int_lt y x ≡ b → b ≡ true
    which true g = refl
    which false g =
        let p = at_least y x (not-true (int_lt x y) e) in
        let q = at_least x y g in
        let s : x ≡ y = omega (arith, ints, p, q) in
        absurd (true≢false (sym (same_itself x) ∙ ap (same_number x) s ∙ not-true (same_number x y) f))

sharper_is : (known relation : Relation) (o o' : Option Value) → related known o o' ≡ Some true
    → related relation o o' ≡ Some true → related (sharper known relation) o o' ≡ Some true
sharper_is Equal relation o o' h k = k
sharper_is NotEqual relation o o' h k = k
sharper_is Less relation o o' h k = k
sharper_is Greater relation o o' h k = k
sharper_is LessEqual Equal o o' h k = k
sharper_is LessEqual NotEqual o o' h k = meets LessEqual NotEqual Less o o' (λ p q. refl) less_of h k
sharper_is LessEqual Less o o' h k = k
sharper_is LessEqual LessEqual o o' h k = k
sharper_is LessEqual Greater o o' h k = k
sharper_is LessEqual GreaterEqual o o' h k = k
sharper_is GreaterEqual Equal o o' h k = k
sharper_is GreaterEqual NotEqual o o' h k = meets GreaterEqual NotEqual Greater o o' (λ p q. refl) greater_of h k
sharper_is GreaterEqual Less o o' h k = k
sharper_is GreaterEqual LessEqual o o' h k = k
sharper_is GreaterEqual Greater o o' h k = k
sharper_is GreaterEqual GreaterEqual o o' h k = k

module _ (ts : Temporaries) (orders : Orders) (h : AreOrdered ts orders) where
  of_both : (a u : ℕ) (order : Order) → is_of a u order ≡ true → IsOrdered ts (Some order)
      → related order.relation (ts a) (ts u) ≡ Some true
  of_both a u order e k =
      let c = and_parts (nat_eq order.left a) (nat_eq order.right u) e in
      sym (ap (λ n. related order.relation (ts n) (ts order.right)) (eqb-true order.left a c.0)
      ∙ ap (λ n. related order.relation (ts a) (ts n)) (eqb-true order.right u c.1)) ∙ k

  sharpened_is : (a u : ℕ) (relation : Relation) (o : Option Order) → IsOrdered ts o
      → related relation (ts a) (ts u) ≡ Some true → related (sharpened a u relation o) (ts a) (ts u) ≡ Some true
  sharpened_is a u relation None k e = e
  sharpened_is a u relation (Some order) k e = which (is_of a u order) refl
    where
      which : (b : Bool) → is_of a u order ≡ b
          → related (if b then sharper order.relation relation else relation) (ts a) (ts u) ≡ Some true
      which true f = sharper_is order.relation relation (ts a) (ts u) (of_both a u order f k) e
      which false f = e

  sharp_of_is : (relation : Relation) (a u : ℕ) → related relation (ts a) (ts u) ≡ Some true
      → related (sharp_of orders relation a u) (ts a) (ts u) ≡ Some true
  sharp_of_is relation a u e =
      sharpened_is a u _ orders.fourth h.3 (sharpened_is a u _ orders.third h.2
      (sharpened_is a u _ orders.second h.1 (sharpened_is a u relation orders.first h.0 e)))

  pub sharp_is : (relation : Relation) (a : ℕ) (b : Operand) → related relation (ts a) (operand_value ts b) ≡ Some true
      → related (sharp orders relation a b) (ts a) (operand_value ts b) ≡ Some true
  sharp_is relation a (operand.Temporary u) e = sharp_of_is relation a u e
  sharp_is relation a (operand.Number z) e = e

  unless_both_is : (a u : ℕ) (o : Option Order) → IsOrdered ts o → IsOrdered ts (unless_both a u o)
  unless_both_is a u None k = tt
  unless_both_is a u (Some order) k = which (is_of a u order)
    where
      which : (b : Bool) → IsOrdered ts (if b then None else Some order)
      which true = tt
      which false = k

  found_is : (relation : Relation) (a u : ℕ) → related relation (ts a) (ts u) ≡ Some true → AreOrdered ts
      (found relation a u orders)
  found_is relation a u e =
      chosen ts (is_order relation) _ orders
      (with_order_is ts (Some (record { left = a; relation = relation; right = u })) (without_both a u orders) e
      (each_is ts ts (unless_both a u) orders (unless_both_is a u) h)) h

  pub where_is : (relation : Relation) (a : ℕ) (b : Operand) → related relation (ts a) (operand_value ts b) ≡ Some true
      → AreOrdered ts (orders_where orders relation a b)
  where_is relation a (operand.Temporary u) e =
      found_is (sharp_of orders relation a u) a u (sharp_of_is relation a u e)
  where_is relation a (operand.Number z) e = h
