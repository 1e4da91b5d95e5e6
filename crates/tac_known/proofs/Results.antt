-- The kinds of results are what is said of them.
use Rattle.std.proofs.Common.{◌≡◌, ◌≢◌, ℕ, zero, suc, Bool, true, false, not, ◌&&◌, if◌then◌else◌}
use Rattle.std.proofs.Common.{Option, Some, ℤ, pos, negsuc, ◌+ℤ◌, ◌-ℤ◌, ◌*ℤ◌, refl, sym, ap, ◌∙◌, subst, arith}
use Rattle.std.specs.Prelude.{int_lt, int_div, ◌≤ℤ◌, ◌<ℤ◌}
use Rattle.std.specs.Ordering.{int_eq}
use Rattle.std.specs.Int.{int_max, int_min, int_rem_euclid}
use Rattle.std.proofs.lemmas.Int.{ints, clamps}
use Rattle.std.proofs.lemmas.Bool.{true≢false, and_parts, not-true}
use Rattle.std.proofs.lemmas.Option.{same_Some}
use Rattle.tac_code.specs.declared.code.Value.{Value}
use Rattle.tac_code.specs.declared.code.Value.TheVariants.{Number, Address, Routine}
use Rattle.tac_code.specs.declared.code.Operator.{Operator}
use Rattle.tac_code.specs.declared.code.Operator.TheVariants.{Add, Subtract, Multiply, Divide, Modulo}
use Rattle.tac_code.specs.declared.code.BitOperator.{BitOperator}
use Rattle.tac_code.specs.declared.code.BitOperator.TheVariants.{And, Or, AndNot, ShiftLeft, Plus}
use Rattle.tac_code.specs.declared.code.Relation.{Relation}
use Rattle.tac_code.specs.declared.code.Relation.TheVariants.{Equal, NotEqual, Less, LessEqual, Greater, GreaterEqual}
use Rattle.tac_code.specs.Numbers.{is_integer, is_zero, is_in_range, Computed, Gives, Fails, within, computed, bits}
use Rattle.tac_code.specs.Numbers.{truth, compared, same_number}
use Rattle.tac_code.specs.Meaning.{related}
use Rattle.tac_code.proofs.Numbers.{at_least}
use Rattle.tac_known.specs.declared.kind.Kind.{Kind}
use Rattle.tac_known.specs.declared.kind.Kind.TheVariants.{Unknown, NotNil, Between}
use Rattle.tac_known.specs.Kinds.{IsOf, least, greatest, met, low_of, high_of, sum, difference, remainder}
use Rattle.tac_known.specs.Kinds.{computed_kind, are_natural, are_all_natural, product, divide, quotient_of, quotient}
use Rattle.tac_known.specs.Kinds.{are_plain, are_integers, plain_sum, bits_kind, fits, lies_within, opposite, one_less}
use Rattle.tac_known.specs.Kinds.{one_more, without, narrowed, says_nil, not_nil, says_no_more}
use Rattle.tac_known.proofs.Integers.{is_below, in_range}
use Rattle.tac_known.proofs.Integers.{integer_bounds, is_integer_between, plain, remainder_bounds, same_int, other_int}
use Rattle.tac_known.proofs.Integers.{eq_int, products_grow, quotients_grow}

abbrev number_of_value : Value → ℤ
number_of_value (Number x) = x
number_of_value (Address block o) = pos 0
number_of_value (Routine r) = pos 0

same_in : (x y : ℤ) → Some (Number x) ≡ Some (Number y) → x ≡ y
same_in x y e = ap number_of_value (same_Some (Number x) (Number y) e)

-- a number of a kind is within its bounds
pub number_within : (l h x : ℤ) → IsOf (Between l h) (Some (Number x)) → (l ≤ℤ x) × (x ≤ℤ h)
number_within l h x (y, e, p, q) = let s = same_in x y e in
    (subst (λ z. l ≤ℤ z) (sym s) p, subst (λ z. z ≤ℤ h) (sym s) q)

pub is_between : (l h x : ℤ) → l ≤ℤ x → x ≤ℤ h → IsOf (Between l h) (Some (Number x))
is_between l h x p q = (x, refl, p, q)

pub met_is : (k : Kind) (low high x : ℤ) → IsOf k (Some (Number x)) → low ≤ℤ x → x ≤ℤ high → IsOf (met k low high)
    (Some (Number x))
met_is Unknown low high x is l h = is_between low high x l h
met_is NotNil low high x is l h = is_between low high x l h
met_is (Between a b) low high x is l h =
    let n = number_within a b x is in
    let p = n.0 in let q = n.1 in
    is_between (int_max a low) (int_min b high) x (omega (arith, ints, clamps, p, l))
    (omega (arith, ints, clamps, q, h))

-- ---- what is computed

above_low : (l z : ℤ) → l ≤ℤ z → is_integer z ≡ true → low_of l ≤ℤ z
above_low l z p i = which (is_integer l)
  where
    which : (t : Bool) → (if t then l else least) ≤ℤ z
    which true = p
    which false = (integer_bounds z i).0

below_high : (h z : ℤ) → z ≤ℤ h → is_integer z ≡ true → z ≤ℤ high_of h
below_high h z q i = which (is_integer h)
  where
    which : (t : Bool) → z ≤ℤ (if t then h else greatest)
    which true = q
    which false = (integer_bounds z i).1

clipped : (l h z : ℤ) → l ≤ℤ z → z ≤ℤ h → is_integer z ≡ true → IsOf (Between (low_of l) (high_of h))
    (Some (Number z))
clipped l h z p q i = is_between (low_of l) (high_of h) z (above_low l z p i) (below_high h z q i)

an_integer : (z : ℤ) → is_integer z ≡ true → IsOf (Between least greatest) (Some (Number z))
an_integer z i = let b = integer_bounds z i in is_between least greatest z b.0 b.1

sum_is : (k k' : Kind) (x y : ℤ) → IsOf k (Some (Number x)) → IsOf k' (Some (Number y)) → is_integer (x +ℤ y) ≡ true
    → IsOf (sum k k') (Some (Number (x +ℤ y)))
sum_is Unknown k' x y a b i = an_integer (x +ℤ y) i
sum_is NotNil k' x y a b i = an_integer (x +ℤ y) i
sum_is (Between l h) Unknown x y a b i = an_integer (x +ℤ y) i
sum_is (Between l h) NotNil x y a b i = an_integer (x +ℤ y) i
sum_is (Between l h) (Between l' h') x y a b i =
    let m = number_within l h x a in let n = number_within l' h' y b in
    let m0 = m.0 in let m1 = m.1 in let n0 = n.0 in let n1 = n.1 in
    clipped (l +ℤ l') (h +ℤ h') (x +ℤ y) (omega (arith, ints, m0, n0)) (omega (arith, ints, m1, n1)) i

difference_is : (k k' : Kind) (x y : ℤ) → IsOf k (Some (Number x)) → IsOf k' (Some (Number y)) → is_integer (x -ℤ y)
    ≡ true → IsOf (difference k k') (Some (Number (x -ℤ y)))
difference_is Unknown k' x y a b i = an_integer (x -ℤ y) i
difference_is NotNil k' x y a b i = an_integer (x -ℤ y) i
difference_is (Between l h) Unknown x y a b i = an_integer (x -ℤ y) i
difference_is (Between l h) NotNil x y a b i = an_integer (x -ℤ y) i
difference_is (Between l h) (Between l' h') x y a b i =
    let m = number_within l h x a in let n = number_within l' h' y b in
    let m0 = m.0 in let m1 = m.1 in let n0 = n.0 in let n1 = n.1 in
    clipped (l -ℤ h') (h -ℤ l') (x -ℤ y) (omega (arith, ints, m0, n1)) (omega (arith, ints, m1, n0)) i

natural_bounds : (l h : ℤ) → are_natural l h ≡ true → (pos 0 ≤ℤ l) × (pos 0 ≤ℤ h)
natural_bounds l h e =
    let b = and_parts (not (int_lt l (pos 0))) (not (int_lt h (pos 0))) e in (
      at_least (pos 0) l (not-true (int_lt l (pos 0)) b.0),
      at_least (pos 0) h (not-true (int_lt h (pos 0)) b.1),
    )

-- a product of numbers that aren't negative lies between those of their bounds
product_within : (l h l' h' x y : ℤ) → are_all_natural l h l' h' ≡ true → l ≤ℤ x → x ≤ℤ h → l' ≤ℤ y
    → y ≤ℤ h' → (pos 0 ≤ℤ (x *ℤ y)) × ((l *ℤ l') ≤ℤ (x *ℤ y)) × ((x *ℤ y) ≤ℤ (h *ℤ h'))
product_within l h l' h' x y e m0 m1 n0 n1 =
    let c = and_parts (are_natural l h) (are_natural l' h') e in
    let p = (natural_bounds l h c.0).0 in
    let q = (natural_bounds l' h' c.1).0 in
    let p' : pos 0 ≤ℤ x = omega (arith, ints, p, m0) in
    let q' : pos 0 ≤ℤ y = omega (arith, ints, q, n0) in (
      products_grow (pos 0) (pos 0) x y (omega (arith, ints)) p' (omega (arith, ints)) q',
      products_grow l l' x y p m0 q n0,
      products_grow x y h h' p' m1 q' n1,
    )

product_is : (k k' : Kind) (x y : ℤ) → IsOf k (Some (Number x)) → IsOf k' (Some (Number y)) → is_integer (x *ℤ y)
    ≡ true → IsOf (product k k') (Some (Number (x *ℤ y)))
product_is Unknown k' x y a b i = an_integer (x *ℤ y) i
product_is NotNil k' x y a b i = an_integer (x *ℤ y) i
product_is (Between l h) Unknown x y a b i = an_integer (x *ℤ y) i
product_is (Between l h) NotNil x y a b i = an_integer (x *ℤ y) i
product_is (Between l h) (Between l' h') x y a b i = which (are_all_natural l h l' h') refl
  where
    which : (t : Bool) → are_all_natural l h l' h' ≡ t → IsOf
        (if t then Between (low_of (l *ℤ l')) (high_of (h *ℤ h')) else Between least greatest) (Some (Number (x *ℤ y)))
    which true e =
        let m = number_within l h x a in let n = number_within l' h' y b in
        let w = product_within l h l' h' x y e m.0 m.1 n.0 n.1 in
        clipped (l *ℤ l') (h *ℤ h') (x *ℤ y) w.1 w.2 i
    which false e = an_integer (x *ℤ y) i

quotient_is : (k k' : Kind) (x y : ℤ) → IsOf k (Some (Number x)) → IsOf k' (Some (Number y)) → is_integer (int_div x y)
    ≡ true → IsOf (quotient k k') (Some (Number (int_div x y)))
quotient_is Unknown k' x y a b i = an_integer (int_div x y) i
quotient_is NotNil k' x y a b i = an_integer (int_div x y) i
quotient_is (Between l h) Unknown x y a b i = an_integer (int_div x y) i
quotient_is (Between l h) NotNil x y a b i = an_integer (int_div x y) i
quotient_is (Between l h) (Between l' h') x y a b i = which (divide l h l' h') refl
  where
    which : (t : Bool) → divide l h l' h' ≡ t → IsOf
        (if t then Between (quotient_of l l') (quotient_of h l') else Between least greatest)
        (Some (Number (int_div x y)))
    which true e =
        let c = and_parts (are_natural l h) (int_lt (pos 0) l' && int_eq l' h') e in
        let d = and_parts (int_lt (pos 0) l') (int_eq l' h') c.1 in
        let p = (natural_bounds l h c.0).0 in
        let r = is_below l' (pos 0) d.0 in
        let s = eq_int l' h' d.1 in
        let m = number_within l h x a in let n = number_within l' h' y b in
        let m0 = m.0 in let n0 = n.0 in let n1 = n.1 in
        let only : l' ≡ y = omega (arith, ints, n0, n1, s) in
        let low : int_div l l' ≡ quotient_of l l' = sym (ap (λ (t : Bool). if t then int_div l l' else least) d.0) in
        let high : int_div h l' ≡ quotient_of h l' = sym (ap (λ (t : Bool). if t then int_div h l' else least) d.0) in
        subst (λ z. IsOf (Between (quotient_of l l') (quotient_of h l')) (Some (Number (int_div x z)))) only
        (is_between (quotient_of l l') (quotient_of h l') (int_div x l')
        (subst (λ z. z ≤ℤ int_div x l') low (quotients_grow l x l' p m0 r))
        (subst (λ z. int_div x l' ≤ℤ z) high (quotients_grow x h l' (omega (arith, ints, p, m0)) m.1 r)))
    which false e = an_integer (int_div x y) i

remainder_is : (k' : Kind) (x y : ℤ) → IsOf k' (Some (Number y)) → int_lt (pos 0) y ≡ true → IsOf (remainder k')
    (Some (Number (int_rem_euclid x y)))
remainder_is Unknown x y b p = tt
remainder_is NotNil x y b p = tt
remainder_is (Between l h) x y b p = which (int_lt (pos 0) l && int_lt (pos 0) h)
  where
    which : (t : Bool) → IsOf (if t then Between (pos 0) (h -ℤ pos 1) else Unknown) (Some (Number (int_rem_euclid x y)))
    which false = tt
    which true =
        let n = (number_within l h y b).1 in
        let r = remainder_bounds x y (is_below y (pos 0) p) in
        let r0 = r.0 in let r1 = r.1 in
        is_between (pos 0) (h -ℤ pos 1) (int_rem_euclid x y) r0 (omega (arith, ints, n, r1))

abbrev given_in : Computed → ℤ
given_in (Gives z) = z
given_in (Fails n) = pos 0

gives_no : (n : ℕ) (z : ℤ) → Fails n ≡ Gives z → ⊥
gives_no n z e = absurd (cc e)

within_gives : (P : ℤ → Type 0) (error : ℕ) (w z : ℤ) → within error w ≡ Gives z → (is_integer w ≡ true → P w) → P z
within_gives P error w z e go = which (is_integer w) refl e
  where
    which : (t : Bool) → is_integer w ≡ t → (if t then Gives w else Fails error) ≡ Gives z → P z
    which true i f = subst P (ap given_in f) (go i)
    which false i f = absurd (gives_no error z f)

pub computed_is : (operator : Operator) (error : ℕ) (k k' : Kind) (x y z : ℤ) → IsOf k (Some (Number x)) → IsOf k'
    (Some (Number y)) → computed operator error x y ≡ Gives z → IsOf (computed_kind operator k k') (Some (Number z))
computed_is Add error k k' x y z a b e =
    within_gives (λ z. IsOf (sum k k') (Some (Number z))) error (x +ℤ y) z e (sum_is k k' x y a b)
computed_is Subtract error k k' x y z a b e =
    within_gives (λ z. IsOf (difference k k') (Some (Number z))) error (x -ℤ y) z e (difference_is k k' x y a b)
computed_is Multiply error k k' x y z a b e =
    within_gives (λ z. IsOf (product k k') (Some (Number z))) error (x *ℤ y) z e (product_is k k' x y a b)
computed_is Divide error k k' x y z a b e = which (is_zero y) e
  where
    which : (t : Bool) → (if t then Fails 2 else within error (int_div x y)) ≡ Gives z → IsOf (quotient k k')
        (Some (Number z))
    which true e = absurd (gives_no 2 z e)
    which false e =
        within_gives (λ z. IsOf (quotient k k') (Some (Number z))) error (int_div x y) z e (quotient_is k k' x y a b)
computed_is Modulo error k k' x y z a b e = which (int_lt (pos 0) y) refl e
  where
    which : (t : Bool) → int_lt (pos 0) y ≡ t → (if t then Gives (int_rem_euclid x y) else Fails 3) ≡ Gives z → IsOf
        (remainder k') (Some (Number z))
    which true p e = subst (λ z. IsOf (remainder k') (Some (Number z))) (ap given_in e) (remainder_is k' x y b p)
    which false p e = absurd (gives_no 3 z e)

integer_in : (l h x : ℤ) → are_integers l h ≡ true → l ≤ℤ x → x ≤ℤ h → is_integer x ≡ true
integer_in l h x e p q =
    let b = and_parts (is_integer l) (is_integer h) e in
    let m = (integer_bounds l b.0).0 in let n = (integer_bounds h b.1).1 in
    is_integer_between x (omega (arith, ints, m, p)) (omega (arith, ints, n, q))

plain_is : (k k' : Kind) (x y : ℤ) → IsOf k (Some (Number x)) → IsOf k' (Some (Number y)) → IsOf (plain_sum k k')
    (Some (Number (bits Plus x y)))
plain_is Unknown k' x y a b = tt
plain_is NotNil k' x y a b = tt
plain_is (Between l h) Unknown x y a b = tt
plain_is (Between l h) NotNil x y a b = tt
plain_is (Between l h) (Between l' h') x y a b =
    which (are_integers l h && (are_integers l' h' && are_integers (l +ℤ l') (h +ℤ h'))) refl
  where
    which : (t : Bool) → (are_integers l h && (are_integers l' h' && are_integers (l +ℤ l') (h +ℤ h'))) ≡ t → IsOf
        (if t then Between (low_of (l +ℤ l')) (high_of (h +ℤ h')) else Unknown) (Some (Number (bits Plus x y)))
    which false e = tt
    which true e =
        let c = and_parts (are_integers l h) (are_integers l' h' && are_integers (l +ℤ l') (h +ℤ h')) e in
        let d = and_parts (are_integers l' h') (are_integers (l +ℤ l') (h +ℤ h')) c.1 in
        let m = number_within l h x a in let n = number_within l' h' y b in
        let m0 = m.0 in let m1 = m.1 in let n0 = n.0 in let n1 = n.1 in
        let p : (l +ℤ l') ≤ℤ (x +ℤ y) = omega (arith, ints, m0, n0) in
        let q : (x +ℤ y) ≤ℤ (h +ℤ h') = omega (arith, ints, m1, n1) in
        let i = integer_in (l +ℤ l') (h +ℤ h') (x +ℤ y) d.1 p q in
        subst (λ z. IsOf (Between (low_of (l +ℤ l')) (high_of (h +ℤ h'))) (Some (Number z)))
        (sym (plain x y (integer_in l h x c.0 m0 m1) (integer_in l' h' y d.0 n0 n1) i))
        (clipped (l +ℤ l') (h +ℤ h') (x +ℤ y) p q i)

-- a sum that goes around nowhere
pub plain_sum_is : (l h x z : ℤ) → are_plain l h z z ≡ true → IsOf (Between l h) (Some (Number x)) → bits Plus x z
    ≡ x +ℤ z
plain_sum_is l h x z e a =
    let c = and_parts (are_integers l h) (are_integers z z && are_integers (l +ℤ z) (h +ℤ z)) e in
    let d = and_parts (are_integers z z) (are_integers (l +ℤ z) (h +ℤ z)) c.1 in
    let m = number_within l h x a in
    let m0 = m.0 in let m1 = m.1 in
    let p : (l +ℤ z) ≤ℤ (x +ℤ z) = omega (arith, ints, m0) in
    let q : (x +ℤ z) ≤ℤ (h +ℤ z) = omega (arith, ints, m1) in
    plain x z (integer_in l h x c.0 m0 m1) (and_parts (is_integer z) (is_integer z) d.0).0
    (integer_in (l +ℤ z) (h +ℤ z) (x +ℤ z) d.1 p q)

pub bits_is : (operator : BitOperator) (k k' : Kind) (x y : ℤ) → IsOf k (Some (Number x)) → IsOf k' (Some (Number y))
    → IsOf (bits_kind operator k k') (Some (Number (bits operator x y)))
bits_is And k k' x y a b = tt
bits_is Or k k' x y a b = tt
bits_is AndNot k k' x y a b = tt
bits_is ShiftLeft k k' x y a b = tt
bits_is Plus k k' x y a b = plain_is k k' x y a b

-- ---- tests that can't fail

pub fits_gives : (operator : Operator) (k k' : Kind) (x y : ℤ) → fits operator k k' ≡ true → IsOf k (Some (Number x))
    → IsOf k' (Some (Number y)) → (z : ℤ) × ((error : ℕ) → computed operator error x y ≡ Gives z)
fits_gives Add (Between l h) (Between l' h') x y e a b =
    let m = number_within l h x a in let n = number_within l' h' y b in
    let m0 = m.0 in let m1 = m.1 in let n0 = n.0 in let n1 = n.1 in
    let i = integer_in (l +ℤ l') (h +ℤ h') (x +ℤ y) e (omega (arith, ints, m0, n0)) (omega (arith, ints, m1, n1)) in
    (x +ℤ y, λ error. ap (λ t. if t then Gives (x +ℤ y) else Fails error) i)
fits_gives Subtract (Between l h) (Between l' h') x y e a b =
    let m = number_within l h x a in let n = number_within l' h' y b in
    let m0 = m.0 in let m1 = m.1 in let n0 = n.0 in let n1 = n.1 in
    let i = integer_in (l -ℤ h') (h -ℤ l') (x -ℤ y) e (omega (arith, ints, m0, n1)) (omega (arith, ints, m1, n0)) in
    (x -ℤ y, λ error. ap (λ t. if t then Gives (x -ℤ y) else Fails error) i)
fits_gives Multiply (Between l h) (Between l' h') x y e a b =
    let c = and_parts (are_all_natural l h l' h') (is_integer (h *ℤ h')) e in
    let m = number_within l h x a in let n = number_within l' h' y b in
    let w = product_within l h l' h' x y c.0 m.0 m.1 n.0 n.1 in
    let w0 = w.0 in let w1 = w.2 in
    let top = (integer_bounds (h *ℤ h') c.1).1 in
    let i = is_integer_between (x *ℤ y) (omega (arith, ints, w0)) (omega (arith, ints, w1, top)) in
    (x *ℤ y, λ error. ap (λ t. if t then Gives (x *ℤ y) else Fails error) i)
fits_gives Add Unknown k' x y e a b = absurd (true≢false (sym e))
fits_gives Add NotNil k' x y e a b = absurd (true≢false (sym e))
fits_gives Add (Between l h) Unknown x y e a b = absurd (true≢false (sym e))
fits_gives Add (Between l h) NotNil x y e a b = absurd (true≢false (sym e))
fits_gives Subtract Unknown k' x y e a b = absurd (true≢false (sym e))
fits_gives Subtract NotNil k' x y e a b = absurd (true≢false (sym e))
fits_gives Subtract (Between l h) Unknown x y e a b = absurd (true≢false (sym e))
fits_gives Subtract (Between l h) NotNil x y e a b = absurd (true≢false (sym e))
fits_gives Multiply Unknown k' x y e a b = absurd (true≢false (sym e))
fits_gives Multiply NotNil k' x y e a b = absurd (true≢false (sym e))
fits_gives Multiply (Between l h) Unknown x y e a b = absurd (true≢false (sym e))
fits_gives Multiply (Between l h) NotNil x y e a b = absurd (true≢false (sym e))
fits_gives Divide k k' x y e a b = absurd (true≢false (sym e))
fits_gives Modulo k k' x y e a b = absurd (true≢false (sym e))

pub lies_in : (k : Kind) (low high x : ℤ) → lies_within k low high ≡ true → IsOf k (Some (Number x)) → is_in_range low
    high x ≡ true
lies_in Unknown low high x e is = absurd (true≢false (sym e))
lies_in NotNil low high x e is = absurd (true≢false (sym e))
lies_in (Between l h) low high x e is =
    let n = number_within l h x is in let n0 = n.0 in let n1 = n.1 in
    let b = and_parts (not (int_lt l low)) (not (int_lt high h)) e in
    let p = at_least low l (not-true (int_lt l low) b.0) in
    let q = at_least h high (not-true (int_lt high h) b.1) in
    in_range low high x (omega (arith, ints, n0, p)) (omega (arith, ints, n1, q))

-- a number that is 0 or 1
pub is_bit : (k : Kind) (o : Option Value) → lies_within k (pos 0) (pos 1) ≡ true → IsOf k o → (x : ℤ)
    × (o ≡ Some (Number x)) × (pos 0 ≤ℤ x) × (x ≤ℤ pos 1)
is_bit Unknown o e is = absurd (true≢false (sym e))
is_bit NotNil o e is = absurd (true≢false (sym e))
is_bit (Between l h) o e (x, f, n0, n1) =
    let b = and_parts (not (int_lt l (pos 0))) (not (int_lt (pos 1) h)) e in
    let p = at_least (pos 0) l (not-true (int_lt l (pos 0)) b.0) in
    let q = at_least h (pos 1) (not-true (int_lt (pos 1) h) b.1) in
    (x, f, omega (arith, ints, n0, p), omega (arith, ints, n1, q))

pub truth_of_bit : (x : ℤ) → pos 0 ≤ℤ x → x ≤ℤ pos 1 → truth (not (same_number x (pos 0))) ≡ x
truth_of_bit (pos zero) p q = refl
truth_of_bit (pos (suc zero)) p q = refl
truth_of_bit (pos (suc (suc n))) p q = absurd (omega (arith, ints, q))
truth_of_bit (negsuc n) p q = absurd (omega (arith, ints, p))

-- ---- relations

pub other_relation : (relation : Relation) (x y : ℤ) → compared relation x y ≡ false → compared (opposite relation) x y
    ≡ true
other_relation Equal x y e = ap not e
other_relation NotEqual x y e = negated (same_number x y) e
  where
    negated : (b : Bool) → not b ≡ false → b ≡ true
    negated true e = refl
    negated false e = absurd (true≢false e)
other_relation Less x y e = ap not e
other_relation LessEqual x y e = negated (int_lt y x) e
  where
    negated : (b : Bool) → not b ≡ false → b ≡ true
    negated true e = refl
    negated false e = absurd (true≢false e)
other_relation Greater x y e = ap not e
other_relation GreaterEqual x y e = negated (int_lt x y) e
  where
    negated : (b : Bool) → not b ≡ false → b ≡ true
    negated true e = refl
    negated false e = absurd (true≢false e)

under : (h x : ℤ) → x <ℤ h → x ≤ℤ one_less h
under h x l = which (int_lt least h)
  where
    which : (t : Bool) → x ≤ℤ (if t then h -ℤ pos 1 else h)
    which true = omega (arith, ints, l)
    which false = omega (arith, ints, l)

over : (l x : ℤ) → l <ℤ x → one_more l ≤ℤ x
over l x h = which (int_lt l greatest)
  where
    which : (t : Bool) → (if t then l +ℤ pos 1 else l) ≤ℤ x
    which true = omega (arith, ints, h)
    which false = omega (arith, ints, h)

without_is : (l h z x : ℤ) → x ≢ z → l ≤ℤ x → x ≤ℤ h → IsOf (without l h z) (Some (Number x))
without_is l h z x ne p q = first (int_eq l z) refl
  where
    second : (t : Bool) → int_eq h z ≡ t → IsOf (if t then Between l (one_less h) else Between l h) (Some (Number x))
    second true e =
        let s = eq_int h z e in
        let r : x ≢ h = λ same. ne (same ∙ s) in
        is_between l (one_less h) x p (under h x (omega (arith, ints, q, r)))
    second false e = is_between l h x p q

    first : (t : Bool) → int_eq l z ≡ t → IsOf (if t then Between (one_more l) h else if int_eq h z then Between l
        (one_less h) else Between l h) (Some (Number x))
    first true e =
        let s = eq_int l z e in
        let r : x ≢ l = λ same. ne (same ∙ s) in
        is_between (one_more l) h x (over l x (omega (arith, ints, p, r))) q
    first false e = second (int_eq h z) refl

narrowed_is : (relation : Relation) (l h l' h' x y : ℤ) → compared relation x y ≡ true → l ≤ℤ x → x ≤ℤ h → l' ≤ℤ y
    → y ≤ℤ h' → IsOf (narrowed relation l h l' h') (Some (Number x))
narrowed_is Equal l h l' h' x y e p q p' q' =
    let s = same_int x y e in
    met_is (Between l h) l' h' x (is_between l h x p q) (subst (λ z. l' ≤ℤ z) (sym s) p')
    (subst (λ z. z ≤ℤ h') (sym s) q')
narrowed_is NotEqual l h l' h' x y e p q p' q' = which (int_eq l' h') refl
  where
    which : (t : Bool) → int_eq l' h' ≡ t → IsOf (if t then without l h l' else Between l h) (Some (Number x))
    which true f =
        let s = eq_int l' h' f in
        let only : y ≡ l' = omega (arith, ints, p', q', s) in
        without_is l h l' x (λ same. other_int x y (not-true (same_number x y) e) (same ∙ sym only)) p q
    which false f = is_between l h x p q
narrowed_is Less l h l' h' x y e p q p' q' =
    let s = is_below y x e in
    let t = under h' x (omega (arith, ints, q', s)) in
    is_between l (int_min h (one_less h')) x p (omega (arith, ints, clamps, q, t))
narrowed_is LessEqual l h l' h' x y e p q p' q' =
    let s = at_least x y (not-true (int_lt y x) e) in
    is_between l (int_min h h') x p (omega (arith, ints, clamps, q, q', s))
narrowed_is Greater l h l' h' x y e p q p' q' =
    let s = is_below x y e in
    let t = over l' x (omega (arith, ints, p', s)) in
    is_between (int_max l (one_more l')) h x (omega (arith, ints, clamps, p, t)) q
narrowed_is GreaterEqual l h l' h' x y e p q p' q' =
    let s = at_least y x (not-true (int_lt x y) e) in
    is_between (int_max l l') h x (omega (arith, ints, clamps, p, p', s)) q

pub related_is : (relation : Relation) (l h l' h' x y : ℤ) → compared relation x y ≡ true → IsOf (Between l h)
    (Some (Number x)) → IsOf (Between l' h') (Some (Number y)) → IsOf (narrowed relation l h l' h') (Some (Number x))
related_is relation l h l' h' x y e a b =
    let m = number_within l h x a in let n = number_within l' h' y b in
    narrowed_is relation l h l' h' x y e m.0 m.1 n.0 n.1

-- ---- what isn't nil

-- what is nil is the number 0
zero_is : (k : Kind) (o : Option Value) → says_nil k ≡ true → IsOf k o → o ≡ Some (Number (pos 0))
zero_is Unknown o e is = absurd (true≢false (sym e))
zero_is NotNil o e is = absurd (true≢false (sym e))
zero_is (Between l h) o e (x, f, p, q) =
    let b = and_parts (int_eq l (pos 0)) (int_eq h (pos 0)) e in
    let s = eq_int l (pos 0) b.0 in
    let t = eq_int h (pos 0) b.1 in
    let only : x ≡ pos 0 = omega (arith, ints, p, q, s, t) in
    f ∙ ap (λ x. Some (Number x)) only

other_than : (k : Kind) (o o' : Option Value) → IsOf k o' → (o ≡ Some (Number (pos 0)) → o' ≢ Some (Number (pos 0)))
    → IsOf (if says_nil k then NotNil else Unknown) o
other_than k o o' is differ = which (says_nil k) refl
  where
    which : (b : Bool) → says_nil k ≡ b → IsOf (if b then NotNil else Unknown) o
    which true e = λ same. differ same (zero_is k o' e is)
    which false e = tt

-- two values that are the number 0 are equal
related_zeros : (relation : Relation) (o o' : Option Value) → o ≡ Some (Number (pos 0)) → o' ≡ Some (Number (pos 0))
    → related relation o o' ≡ Some (compared relation (pos 0) (pos 0))
related_zeros relation o o' e f =
    ap (λ o. related relation o o') e ∙ ap (related relation (Some (Number (pos 0)))) f

pub not_nil_is : (relation : Relation) (k : Kind) (o o' : Option Value) → related relation o o' ≡ Some true → IsOf k o'
    → IsOf (not_nil relation k) o
not_nil_is NotEqual k o o' e is =
    other_than k o o' is
    (λ f g. true≢false (sym (same_Some false true (sym (related_zeros NotEqual o o' f g) ∙ e))))
not_nil_is Equal k o o' e is = tt
not_nil_is Less k o o' e is = tt
not_nil_is LessEqual k o o' e is = tt
not_nil_is Greater k o o' e is = tt
not_nil_is GreaterEqual k o o' e is = tt

-- ---- where places meet

pub less_is : (k k' : Kind) (o : Option Value) → says_no_more k k' ≡ true → IsOf k o → IsOf k' o
less_is k Unknown o e is = tt
less_is NotNil NotNil o e is = is
less_is Unknown NotNil o e is = absurd (true≢false (sym e))
less_is (Between l h) NotNil o e is = absurd (true≢false (sym e))
less_is Unknown (Between l' h') o e is = absurd (true≢false (sym e))
less_is NotNil (Between l' h') o e is = absurd (true≢false (sym e))
less_is (Between l h) (Between l' h') o e (x, f, p, q) =
    let b = and_parts (not (int_lt l l')) (not (int_lt h' h)) e in
    let m = at_least l' l (not-true (int_lt l l') b.0) in
    let n = at_least h h' (not-true (int_lt h' h) b.1) in
    (x, f, omega (arith, ints, p, m), omega (arith, ints, q, n))
