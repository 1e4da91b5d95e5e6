-- The test for compatible types says what the rule says.
use Rattle.std.proofs.Common.{◌≡◌, ◌↔◌, ℕ, Bool, true, false, ◌&&◌, ◌||◌, Option, Some, None, IsTrue, refl, sym, ap}
use Rattle.std.proofs.Common.{◌∙◌}
use Rattle.std.proofs.lemmas.Bool.{eqb-true, eq-eqb}
use Rattle.ps_tree.specs.Types.{DataType, OrdinalType, PointerType, NilType, SetType, EmptySetType, RecordType}
use Rattle.ps_tree.specs.Types.{are_same, is_same_host, is_same_type, string_length, goes_with, Compatible, same}
use Rattle.ps_tree.specs.Types.{ordinals, sets, empty_first, empty_second, strings, nil_first, nil_second}
use Rattle.ps_tree.specs.Types.{has_variables, Assignable, is_compatible, is_assignable}

or_left : (a b : Bool) → IsTrue a → IsTrue (a || b)
or_left true b h = refl
or_left false b h = cc

or_right : (a b : Bool) → IsTrue b → IsTrue (a || b)
or_right true b h = refl
or_right false b h = h

and_left : (a b : Bool) → IsTrue (a && b) → IsTrue a
and_left true b h = refl
and_left false b h = h

and_right : (a b : Bool) → IsTrue (a && b) → IsTrue b
and_right true b h = h
and_right false b h = cc

and_both : (a b : Bool) → IsTrue a → IsTrue b → IsTrue (a && b)
and_both true b h k = k
and_both false b h k = cc

or_cases : {A : Type 0} (a b : Bool) → IsTrue (a || b) → (IsTrue a → A) → (IsTrue b → A) → A
or_cases true b h f g = f refl
or_cases false b h f g = g h

strings_of : (s t : DataType) (o p : Option ℕ) → string_length s ≡ o → string_length t ≡ p → IsTrue (are_same o p)
    → Compatible s t
strings_of s t None None e f h = absurd (let k : false ≡ true = h in cc)
strings_of s t None (Some n) e f h = absurd (let k : false ≡ true = h in cc)
strings_of s t (Some m) None e f h = absurd (let k : false ≡ true = h in cc)
strings_of s t (Some m) (Some n) e f h = strings s t n (e ∙ ap (λ x. Some x) (eqb-true m n h)) f

same_or_strings : (s t : DataType) → IsTrue (is_same_type s t || are_same (string_length s) (string_length t))
    → Compatible s t
same_or_strings s t h = or_cases (is_same_type s t) (are_same (string_length s) (string_length t)) h (λ k. same s t k)
    (λ k. strings_of s t (string_length s) (string_length t) refl refl k)

-- the test finds only compatible types
sound : (s t : DataType) → IsTrue (is_compatible s t) → Compatible s t
unfolding is_compatible
sound (OrdinalType o) (OrdinalType p) h = ordinals o p h
sound (SetType a k o) (SetType b l p) h = or_cases (are_same a b) (is_same_host o.host p.host && goes_with k l) h
    (λ e. same (SetType a k o) (SetType b l p) (unfold is_same_type in e))
    (λ e. sets a b k l o p (and_left (is_same_host o.host p.host) (goes_with k l) e)
    (and_right (is_same_host o.host p.host) (goes_with k l) e))
sound EmptySetType (SetType b l p) h = empty_first b l p
sound (SetType a k o) EmptySetType h = empty_second a k o
sound NilType (PointerType n) h = nil_first n
sound (PointerType n) NilType h = nil_second n
sound s t h = same_or_strings s t h

-- one type is compatible with itself
pub same_found : (s t : DataType) → IsTrue (is_same_type s t) → IsTrue (is_compatible s t)
unfolding is_compatible is_same_type
same_found (OrdinalType o) (OrdinalType p) h = and_left (is_same_host o.host p.host) _ h
same_found (SetType a k o) (SetType b l p) h = or_left (are_same a b) (is_same_host o.host p.host && goes_with k l) h
same_found EmptySetType (SetType b l p) h = refl
same_found (SetType a k o) EmptySetType h = refl
same_found NilType (PointerType n) h = refl
same_found (PointerType n) NilType h = refl
same_found s t h = or_left (is_same_type s t) (are_same (string_length s) (string_length t)) h

are_same_both : (n : ℕ) (o p : Option ℕ) → o ≡ Some n → p ≡ Some n → IsTrue (are_same o p)
are_same_both n None p e f = absurd (cc)
are_same_both n (Some m) None e f = absurd (cc)
are_same_both n (Some m) (Some k) e f = eq-eqb m k (let a : m ≡ n = cc in let b : k ≡ n = cc in a ∙ sym b)

strings_found : (s t : DataType) (n : ℕ) → string_length s ≡ Some n → string_length t ≡ Some n → IsTrue
    (is_compatible s t)
unfolding is_compatible string_length
strings_found (OrdinalType o) t n e f = absurd (cc)
strings_found (SetType a k o) t n e f = absurd (cc)
strings_found EmptySetType t n e f = absurd (cc)
strings_found NilType t n e f = absurd (cc)
strings_found (PointerType m) t n e f = absurd (cc)
strings_found (RecordType at packed fields) t n e f = absurd (cc)
strings_found s t n e f = or_right (is_same_type s t) (are_same (string_length s) (string_length t))
    (are_same_both n (string_length s) (string_length t) e f)

-- the test finds all compatible types
complete : (s t : DataType) → Compatible s t → IsTrue (is_compatible s t)
complete s t (same a b h) = same_found a b h
complete s t (ordinals o p h) = unfold is_compatible in h
complete s t (sets a b k l o p h g) = unfold is_compatible in or_right (are_same a b) _
    (and_both (is_same_host o.host p.host) (goes_with k l) h g)
complete s t (empty_first b l p) = unfold is_compatible in refl
complete s t (empty_second a k o) = unfold is_compatible in refl
complete s t (strings a b n e f) = strings_found a b n e f
complete s t (nil_first n) = unfold is_compatible in refl
complete s t (nil_second n) = unfold is_compatible in refl

pub compatible_means : (s t : DataType) → IsTrue (is_compatible s t) ↔ Compatible s t
compatible_means s t = (sound s t, complete s t)

pub assignable_means : (s t : DataType) → IsTrue (is_assignable s t) ↔ Assignable s t
assignable_means s t = (
  λ h. (
    and_left (has_variables t) (is_compatible s t) h,
    sound s t
        (and_right (has_variables t) (is_compatible s t) h),
  ),
  λ h. and_both (has_variables t) (is_compatible s t) h.0
      (complete s t h.1),
)
