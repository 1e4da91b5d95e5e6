-- The required procedures.
use Rattle.std.proofs.Common.{◌≡◌, ℕ, ℤ, zero, suc, pos, negsuc, false, ◌+◌, ◌-◌, ◌<◌, ◌≤◌, List, [], ◌∷◌, length}
use Rattle.std.proofs.Common.{take, drop, map, get_or, set, add-one, w32, refl, sym, ap, ◌∙◌, arith}
use Rattle.std.specs.Int.RustNames.{FitsSigned}
use Rattle.std.proofs.lemmas.Int.{ints}
use Rattle.std.proofs.Math.Seq.{drop-cons}
use Rattle.std.proofs.lemmas.List.{take_all, drop_all, length-drop}
use Rattle.ps_tree.specs.Types.{PointerType}
use Rattle.ps_tree.specs.declared.types.Ty.{Ty}
use Rattle.ps_tree.specs.View.{type_of}
use Rattle.ps_meaning.specs.Operators.{is_between}
use Rattle.ps_meaning.specs.Values as m
use Rattle.ps_meaning_runner.specs.declared.value.Value.{Value}
use Rattle.ps_meaning_runner.specs.View.{value_of, values_of}
use Rattle.ps_meaning_runner.proofs.Values.{with_nth_past}

-- a number that is not an integer is in no range of integers
pub no_integer_fits : (low x high : ℤ) → FitsSigned w32 low → FitsSigned w32 high → is_between (negsuc 2147483647) x
    (pos 2147483647) ≡ false → is_between low x high ≡ false
no_integer_fits low x high l h none = grind (arith, ints)

pub domain_past : (domains : List Ty) (t : ℕ) → length domains ≤ t → m.NilValue ≡ m.first
    (get_or (map type_of domains) t (PointerType 0))
domain_past [] t le = refl
domain_past (d ∷ rest) zero le = absurd (omega arith)
domain_past (d ∷ rest) (suc t) le = domain_past rest t (omega arith)

pub values_from_drop : (values : List Value) (k : ℕ) → m.values_from (values_of values) k ≡ values_of (drop k values)
unfolding values_of
values_from_drop values zero = refl
values_from_drop [] (suc k) = refl
values_from_drop (v ∷ rest) (suc k) = values_from_drop rest k

pub first_values_take : (values : List Value) (n : ℕ) → m.first_values n (values_of values) ≡ values_of (take n values)
unfolding values_of
first_values_take values zero = refl
first_values_take [] (suc n) = refl
first_values_take (v ∷ rest) (suc n) = ap (m.value_before (value_of v)) (first_values_take rest n)

pub values_between : (values part : List Value) (from count : ℕ) → part ≡ take count (drop from values)
    → m.first_values count (m.values_from (values_of values) from) ≡ values_of part
values_between values part from count is = ap (m.first_values count) (values_from_drop values from) ∙ first_values_take
    (drop from values) count ∙ ap values_of (sym is)

pub rest_whole : (values : List Value) (n : ℕ) → take (length values - n) (drop n values) ≡ drop n values
rest_whole values n = take_all (length values - n) (drop n values) (omega (arith, length-drop n values))

-- the values, with those from a place on replaced
values_set : (values : List Value) (k : ℕ) (x : Value) → values_of (set values k x) ≡ m.with_nth (values_of values) k
    (value_of x)
unfolding values_of
values_set [] k x = refl
values_set (v ∷ rest) zero x = refl
values_set (v ∷ rest) (suc k) x = ap (m.value_before (value_of v)) (values_set rest k x)

values_at : (xs : List Value) (i : ℕ) (x : Value) → i < length xs → x ≡ get_or xs i x → values_of (drop i xs)
    ≡ m.value_before (value_of x) (values_of (drop (i + 1) xs))
unfolding values_of
values_at xs i x lt at = ap values_of (drop-cons xs i x lt)
    ∙ ap (λ y. m.value_before (value_of y) (values_of (drop (suc i) xs))) (sym at)
    ∙ ap (λ j. m.value_before (value_of x) (values_of (drop j xs))) (sym (add-one i))

pub replaced_next : (values news : List Value) (place i : ℕ) (x item : Value) → i < length news → item
    ≡ get_or news i item → value_of x ≡ value_of item → m.with_values (values_of (set values place x)) (place + 1)
    (values_of (drop (i + 1) news)) ≡ m.with_values (values_of values) place (values_of (drop i news))
replaced_next values news place i x item lt at same =
    ap (λ n. m.with_values (values_of (set values place x)) n (values_of (drop (i + 1) news))) (add-one place)
    ∙ ap (λ vs. m.with_values vs (suc place) (values_of (drop (i + 1) news)))
    (values_set values place x ∙ ap (m.with_nth (values_of values) place) same) ∙ sym
    (ap (m.with_values (values_of values) place) (values_at news i item lt at))

pub replaced_past : (values : List Value) (place : ℕ) (news : m.Values) → length values ≤ place → m.with_values
    (values_of values) place news ≡ values_of values
replaced_past values place m.no_value le = refl
replaced_past values place (m.value_before v rest) le = ap (λ vs. m.with_values vs (suc place) rest)
    (with_nth_past values place v le) ∙ replaced_past values (suc place) rest (omega arith)

pub replaced_end : (values news : List Value) (place i : ℕ) → length news ≤ i → m.with_values (values_of values) place
    (values_of (drop i news)) ≡ values_of values
unfolding values_of
replaced_end values news place i le = ap (λ l. m.with_values (values_of values) place (values_of l))
    (drop_all i news le)
