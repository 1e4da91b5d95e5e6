-- Relations between temporaries that follow from others.
use Rattle.std.proofs.Common.{◌≡◌, ◌≢◌, ◌⊎◌, inl, inr, ◌&&◌, ◌||◌, Bool, true, false, not, nat_eq, Option, Some, None}
use Rattle.std.proofs.Common.{ℤ, refl, sym, ap, ◌∙◌, arith, eq-eqb, eqb-true}
use Rattle.std.proofs.lemmas.Bool.{true≢false, and_parts, or_cases, or_right, or_left}
use Rattle.std.proofs.lemmas.Int.{ints}
use Rattle.std.specs.Prelude.{int_lt}
use Rattle.tac_code.specs.declared.code.Relation.{Relation}
use Rattle.tac_code.specs.declared.code.Relation.TheVariants.{Equal, NotEqual, Less, LessEqual, Greater, GreaterEqual}
use Rattle.tac_code.specs.declared.code.Value.{Value}
use Rattle.tac_code.specs.Meaning.{Temporaries, related}
use Rattle.tac_known.specs.declared.order.Order.{Order}
use Rattle.tac_known.specs.declared.order.Orders.{Orders}
use Rattle.tac_known.specs.Orders.{IsOrdered, AreOrdered, no_orders, is_of, implies, says, say, say_all}
use Rattle.tac_known.proofs.Integers.{is_below, no_less}
use Rattle.tac_known.proofs.OrdersBranched.{meets}

-- ---- where places meet

weaker : (x y : ℤ) → int_lt x y ≡ true → not (int_lt y x) ≡ true
weaker x y e = let l = is_below y x e in ap not (no_less x y (omega (arith, ints, l)))

weaker_greater : (x y : ℤ) → int_lt y x ≡ true → not (int_lt x y) ≡ true
weaker_greater x y e = weaker y x e

implies_is : (known relation : Relation) (o o' : Option Value) → implies known relation ≡ true
    → related known o o' ≡ Some true → related relation o o' ≡ Some true
implies_is Equal Equal o o' e h = h
implies_is Equal NotEqual o o' e h = absurd (true≢false (sym e))
implies_is Equal Less o o' e h = absurd (true≢false (sym e))
implies_is Equal LessEqual o o' e h = absurd (true≢false (sym e))
implies_is Equal Greater o o' e h = absurd (true≢false (sym e))
implies_is Equal GreaterEqual o o' e h = absurd (true≢false (sym e))
implies_is NotEqual Equal o o' e h = absurd (true≢false (sym e))
implies_is NotEqual NotEqual o o' e h = h
implies_is NotEqual Less o o' e h = absurd (true≢false (sym e))
implies_is NotEqual LessEqual o o' e h = absurd (true≢false (sym e))
implies_is NotEqual Greater o o' e h = absurd (true≢false (sym e))
implies_is NotEqual GreaterEqual o o' e h = absurd (true≢false (sym e))
implies_is Less Equal o o' e h = absurd (true≢false (sym e))
implies_is Less NotEqual o o' e h = absurd (true≢false (sym e))
implies_is Less Less o o' e h = h
implies_is Less LessEqual o o' e h = meets Less Less LessEqual o o' (λ p q. refl) (λ x y f g. weaker x y f) h h
implies_is Less Greater o o' e h = absurd (true≢false (sym e))
implies_is Less GreaterEqual o o' e h = absurd (true≢false (sym e))
implies_is LessEqual Equal o o' e h = absurd (true≢false (sym e))
implies_is LessEqual NotEqual o o' e h = absurd (true≢false (sym e))
implies_is LessEqual Less o o' e h = absurd (true≢false (sym e))
implies_is LessEqual LessEqual o o' e h = h
implies_is LessEqual Greater o o' e h = absurd (true≢false (sym e))
implies_is LessEqual GreaterEqual o o' e h = absurd (true≢false (sym e))
implies_is Greater Equal o o' e h = absurd (true≢false (sym e))
implies_is Greater NotEqual o o' e h = absurd (true≢false (sym e))
implies_is Greater Less o o' e h = absurd (true≢false (sym e))
implies_is Greater LessEqual o o' e h = absurd (true≢false (sym e))
implies_is Greater Greater o o' e h = h
implies_is Greater GreaterEqual o o' e h =
    meets Greater Greater GreaterEqual o o' (λ p q. refl) (λ x y f g. weaker_greater x y f) h h
implies_is GreaterEqual Equal o o' e h = absurd (true≢false (sym e))
implies_is GreaterEqual NotEqual o o' e h = absurd (true≢false (sym e))
implies_is GreaterEqual Less o o' e h = absurd (true≢false (sym e))
implies_is GreaterEqual LessEqual o o' e h = absurd (true≢false (sym e))
implies_is GreaterEqual Greater o o' e h = absurd (true≢false (sym e))
implies_is GreaterEqual GreaterEqual o o' e h = h

says_is : (ts : Temporaries) (known : Option Order) (order : Order) → says known order ≡ true → IsOrdered ts known
    → IsOrdered ts (Some order)
says_is ts None order e h = absurd (true≢false (sym e))
says_is ts (Some known) order e h =
    let c = and_parts (is_of order.left order.right known) (implies known.relation order.relation) e in
    let d = and_parts (nat_eq known.left order.left) (nat_eq known.right order.right) c.0 in
    implies_is known.relation order.relation (ts order.left) (ts order.right) c.1
    (sym (ap (λ n. related known.relation (ts n) (ts known.right)) (eqb-true known.left order.left d.0)
    ∙ ap (λ n. related known.relation (ts order.left) (ts n)) (eqb-true known.right order.right d.1)) ∙ h)

say_is : (ts : Temporaries) (orders : Orders) (claimed : Option Order) → say orders claimed ≡ true →
    AreOrdered ts orders
    → IsOrdered ts claimed
say_is ts orders None e h = tt
say_is ts orders (Some order) e h = first (or_cases (says orders.first order) _ e)
  where
    third : (says orders.third order ≡ true) ⊎ (says orders.fourth order ≡ true) → IsOrdered ts (Some order)
    third (inl f) = says_is ts orders.third order f h.2
    third (inr f) = says_is ts orders.fourth order f h.3

    second : (says orders.second order ≡ true) ⊎ ((says orders.third order || says orders.fourth order) ≡ true)
        → IsOrdered ts (Some order)
    second (inl f) = says_is ts orders.second order f h.1
    second (inr f) = third (or_cases (says orders.third order) (says orders.fourth order) f)

    first : (says orders.first order ≡ true)
        ⊎ ((says orders.second order || (says orders.third order || says orders.fourth order)) ≡ true)
        → IsOrdered ts (Some order)
    first (inl f) = says_is ts orders.first order f h.0
    first (inr f) = second (or_cases (says orders.second order) _ f)

pub less_ordered : (ts : Temporaries) (orders claimed : Orders) → say_all orders claimed ≡ true → AreOrdered ts orders
    → AreOrdered ts claimed
less_ordered ts orders claimed e h =
    let c = and_parts (say orders claimed.first)
    (say orders claimed.second && (say orders claimed.third && say orders claimed.fourth)) e in
    let d = and_parts (say orders claimed.second) (say orders claimed.third && say orders claimed.fourth) c.1 in
    let f = and_parts (say orders claimed.third) (say orders claimed.fourth) d.1 in (
      say_is ts orders claimed.first c.0 h,
      say_is ts orders claimed.second d.0 h,
      say_is ts orders claimed.third f.0 h,
      say_is ts orders claimed.fourth f.1 h,
    )

pub nothing_ordered : (ts : Temporaries) (claimed : Orders) → say_all no_orders claimed ≡ true → AreOrdered ts claimed
nothing_ordered ts claimed e = less_ordered ts no_orders claimed e (tt, tt, tt, tt)

-- ---- what is known says itself

implies_itself : (relation : Relation) → implies relation relation ≡ true
implies_itself Equal = refl
implies_itself NotEqual = refl
implies_itself Less = refl
implies_itself LessEqual = refl
implies_itself Greater = refl
implies_itself GreaterEqual = refl

says_itself : (order : Order) → says (Some order) order ≡ true
says_itself order =
    ap (λ b. (b && nat_eq order.right order.right) && implies order.relation order.relation)
    (eq-eqb order.left order.left refl)
    ∙ ap (λ b. b && implies order.relation order.relation) (eq-eqb order.right order.right refl)
    ∙ implies_itself order.relation

says_same : (o : Option Order) (order : Order) → o ≡ Some order → says o order ≡ true
says_same o order e = ap (λ o. says o order) e ∙ says_itself order

module _ (orders : Orders) where
  say_first : (o : Option Order) → orders.first ≡ o → say orders o ≡ true
  say_first None e = refl
  say_first (Some order) e = or_left (says orders.first order) _ (says_same orders.first order e)

  say_second : (o : Option Order) → orders.second ≡ o → say orders o ≡ true
  say_second None e = refl
  say_second (Some order) e =
      or_right (says orders.first order) _
      (or_left (says orders.second order) _ (says_same orders.second order e))

  say_third : (o : Option Order) → orders.third ≡ o → say orders o ≡ true
  say_third None e = refl
  say_third (Some order) e =
      or_right (says orders.first order) _ (or_right (says orders.second order) _
      (or_left (says orders.third order) _ (says_same orders.third order e)))

  say_fourth : (o : Option Order) → orders.fourth ≡ o → say orders o ≡ true
  say_fourth None e = refl
  say_fourth (Some order) e =
      or_right (says orders.first order) _ (or_right (says orders.second order) _
      (or_right (says orders.third order) _ (says_same orders.fourth order e)))

  all_true : (a b c d : Bool) → a ≡ true → b ≡ true → c ≡ true → d ≡ true → (a && (b && (c && d))) ≡ true
  all_true true true true true e f g h = refl
  all_true false b c d e f g h = absurd (true≢false (sym e))
  all_true true false c d e f g h = absurd (true≢false (sym f))
  all_true true true false d e f g h = absurd (true≢false (sym g))
  all_true true true true false e f g h = absurd (true≢false (sym h))

  pub say_all_itself : say_all orders orders ≡ true
  say_all_itself =
      all_true (say orders orders.first) (say orders orders.second) (say orders orders.third) (say orders orders.fourth)
      (say_first orders.first refl) (say_second orders.second refl) (say_third orders.third refl)
      (say_fourth orders.fourth refl)
