-- Strings are compared by their first bytes that differ.
use Rattle.std.proofs.Common.{◌≡◌, ◌==◌, ℕ, zero, suc, ◌+◌, ◌-◌, ◌<◌, ℤ, pos, negsuc, ◌-ℤ◌, int_lt, Bool, true, false}
use Rattle.std.proofs.Common.{not, nat_eq, nat_lt, if◌then◌else◌, refl, sym, ap, ◌∙◌, arith, eq-eqb, eqb-true, lt-ltb}
use Rattle.std.proofs.Common.{ltb-true, ltb-false}
use Rattle.ps_tree.specs.declared.tree.operators.OrderRelation.{OrderRelation}
use Rattle.tac_code.specs.declared.code.Relation.{Relation}
use Rattle.tac_code.specs.declared.code.Relation.TheVariants.{Equal, NotEqual, Less, LessEqual, Greater, GreaterEqual}
use Rattle.tac_code.specs.Numbers.{same_number, compared}
use Rattle.ps_meaning.specs.Values.{Values, no_value, value_before, number_of}
use Rattle.ps_meaning.specs.Operators.{is_equal, holds, strings_hold, first_difference as difference_of}
use Rattle.ps_lower_layout.specs.Words.{byte_of, bytes_of}
use Rattle.ps_lower_layout.specs.Paths.{AreByteValues}
use Rattle.tac_code.proofs.Impossible.{true_false}
use Rattle.ps_lower_code.specs.Values.{relation_of}
use Rattle.ps_lower_code.proofs.Gaps.{same_test}
use Rattle.ps_lower_relation.specs.RunTime.{first_difference}
use Rattle.ps_lower_relation.proofs.Numbers.{related_same}
use Rattle.ps_lower_relation.proofs.ByteParts.{byte_number}

-- ---- a difference against 0

-- what is to be shown of a number z that is a less b
record TellsOrder (a b : ℕ) (z : ℤ) : Type 0 where
  same : same_number z (pos 0) ≡ nat_eq a b
  less : int_lt z (pos 0) ≡ nat_lt a b
  more : int_lt (pos 0) z ≡ nat_lt b a

above : (a b : ℕ) → b < suc a → TellsOrder a b (pos (a - b))
above a b l =
    record {
      same = same_test (nat_eq (a - b) 0) (nat_eq a b)
          (λ e. let q = eqb-true (a - b) 0 e in let h : a ≡ b = omega (arith, q, l) in eq-eqb a b h)
          (λ e. let q = eqb-true a b e in let h : a - b ≡ 0 = omega (arith, q) in eq-eqb (a - b) 0 h);
      less = same_test (nat_lt (a - b) 0) (nat_lt a b) (λ e. let q = ltb-true (a - b) 0 e in absurd (omega (arith, q)))
          (λ e. let q = ltb-true a b e in absurd (omega (arith, q, l)));
      more = same_test (nat_lt 0 (a - b)) (nat_lt b a)
          (λ e. let q = ltb-true 0 (a - b) e in lt-ltb b a (omega (arith, q)))
          (λ e. let q = ltb-true b a e in lt-ltb 0 (a - b) (omega (arith, q)));
    }

below : (a b n : ℕ) → a < b → TellsOrder a b (negsuc n)
below a b n l =
    record {
      same = same_test false (nat_eq a b) (λ e. true_false (sym e))
          (λ e. let q = eqb-true a b e in absurd (omega (arith, q, l)));
      less = sym (lt-ltb a b l);
      more = same_test false (nat_lt b a) (λ e. true_false (sym e))
          (λ e. let q = ltb-true b a e in absurd (omega (arith, q, l)));
    }

tells_order : (a b : ℕ) → TellsOrder a b (pos a -ℤ pos b)
tells_order a zero = let e : a - 0 ≡ a + 0 = omega arith in subst_order e (above a 0 (omega arith))
  where
    subst_order : a - 0 ≡ a + 0 → TellsOrder a 0 (pos (a - 0)) → TellsOrder a 0 (pos (a + 0))
    subst_order e h = record {
      same = ap (λ n. same_number (pos n) (pos 0)) (sym e) ∙ h.same;
      less = ap (λ n. int_lt (pos n) (pos 0)) (sym e) ∙ h.less;
      more = ap (λ n. int_lt (pos 0) (pos n)) (sym e) ∙ h.more;
    }
tells_order a (suc b) = go (nat_lt a (suc b)) refl
  where
    go : (t : Bool) → nat_lt a (suc b) ≡ t → TellsOrder a (suc b)
        (if t then negsuc (suc b - suc a) else pos (a - suc b))
    go true e = below a (suc b) (suc b - suc a) (ltb-true a (suc b) e)
    go false e = let l = ltb-false a (suc b) e in above a (suc b) (omega (arith, l))

pub difference_compared : (r : Relation) (a b : ℕ) → compared r (pos a -ℤ pos b) (pos 0) ≡ compared r (pos a) (pos b)
difference_compared Equal a b = (tells_order a b).same
difference_compared NotEqual a b = ap not (tells_order a b).same
difference_compared Less a b = (tells_order a b).less
difference_compared LessEqual a b = ap not (tells_order a b).more
difference_compared Greater a b = (tells_order a b).more
difference_compared GreaterEqual a b = ap not (tells_order a b).less

-- ---- strings

abbrev difference_holds : OrderRelation → ℤ × ℤ → Bool
difference_holds r (x, y) = holds r x y

-- the bytes of two strings of one length are in the order of their values
pub strings_compared : (r : OrderRelation) (n : ℕ) (vs ws : Values) → AreByteValues n vs → AreByteValues n ws → compared
    (relation_of r) (first_difference (bytes_of n vs) (bytes_of n ws)) (pos 0) ≡ strings_hold r vs ws
strings_compared r zero no_value no_value h g = related_same r (pos 0) (pos 0)
strings_compared r zero no_value (value_before w ws) h g = absurd g
strings_compared r zero (value_before v vs) ws h g = absurd h
strings_compared r (suc n) no_value ws h g = absurd h
strings_compared r (suc n) (value_before v vs) no_value h g = absurd g
strings_compared r (suc n) (value_before v vs) (value_before w ws) h g =
    let a = byte_number (number_of v) h.0 in
    let b = byte_number (number_of w) g.0 in
    go (byte_of v == byte_of w) (strings_compared r n vs ws h.1 g.1)
    ∙ ap (λ t. difference_holds r (if t then difference_of vs ws else (pos (byte_of v), pos (byte_of w))))
    (ap (λ x. is_equal x (pos (byte_of w))) (sym a) ∙ ap (is_equal (number_of v)) (sym b))
    ∙ ap (λ x. difference_holds r (if is_equal (number_of v) (number_of w) then difference_of vs ws
    else (x, pos (byte_of w)))) (sym a)
    ∙ ap (λ y. difference_holds r (if is_equal (number_of v) (number_of w) then difference_of vs ws
    else (number_of v, y))) (sym b)
  where
    go : (t : Bool) → compared (relation_of r) (first_difference (bytes_of n vs) (bytes_of n ws)) (pos 0)
        ≡ strings_hold r vs ws → compared (relation_of r)
        (if t then first_difference (bytes_of n vs) (bytes_of n ws) else pos (byte_of v) -ℤ pos (byte_of w)) (pos 0)
        ≡ difference_holds r (if t then difference_of vs ws else (pos (byte_of v), pos (byte_of w)))
    go true deep = deep
    go false deep = difference_compared (relation_of r) (byte_of v) (byte_of w) ∙ related_same r (pos (byte_of v))
        (pos (byte_of w))
