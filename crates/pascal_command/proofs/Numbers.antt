-- The number that `parse` reads of digits alone.
use Rattle.std.proofs.Common.{◌≡◌, ◌<◌, ◌^◌, ℕ, Bool, true, false, ◌&&◌, nat_lt, if◌then◌else◌, List, [], ◌∷◌, Some}
use Rattle.std.proofs.Common.{None, Result, Ok, Err, refl, sym, ap, ◌∙◌, subst, arith, ne_eqb, leb-true, cond, ◌==◌}
use Rattle.std.proofs.Common.{drop}
use Rattle.std.specs.Prelude.{IfOk, IfErr}
use Rattle.std.proofs.Math.Dec.{leb}
use Rattle.std.proofs.lemmas.Bool.{ltb-true, lt-ltb, and_parts, and_from}
use Rattle.std.proofs.lemmas.Str.{digit_value_digit}
use Rattle.std.specs.Int.{IsInRange}
use Rattle.std.specs.Char.{is_ascii_digit}
use Rattle.std.specs.List.{list_all}
use Rattle.std.specs.Str.Parse.{AllDigits, IsNumeral, ParsesUnsigned, digits_value, without_leading_plus}
use Rattle.pascal_command.specs.Wanted.{number_in}

in_range : (c : ℕ) → is_ascii_digit c ≡ true → IsInRange 48 57 c
in_range c h = let both = and_parts (leb 48 c) (leb c 57) h in (leb-true 48 c both.0, leb-true c 57 both.1)

digits : (text : List ℕ) → list_all is_ascii_digit text ≡ true → AllDigits 10 text
digits [] h = tt
digits (c ∷ cs) h =
    let both = and_parts (is_ascii_digit c) (list_all is_ascii_digit cs) h in
    let range = in_range c both.0 in
    let value = digit_value_digit c range in
    (omega (arith, value, range.1), digits cs both.1)

-- digits have no sign before them
signless : (text : List ℕ) → list_all is_ascii_digit text ≡ true → without_leading_plus text ≡ text
signless [] h = refl
signless (c ∷ cs) h =
    let range = in_range c (and_parts (is_ascii_digit c) (list_all is_ascii_digit cs) h).0 in
    let plus : (c == 43) ≡ false = ne_eqb _ _ (λ e. omega (arith, e, range.0)) in
    ap (λ (b : Bool). drop (cond b 1 0) (c ∷ cs)) plus

-- what is read, and what isn't
pub read : {E : Type 0} (text : List ℕ) (r : Result ℕ E) → list_all is_ascii_digit text ≡ true
    → ParsesUnsigned 64 10 text r → IfOk r (λ n. number_in text ≡ Some n) × IfErr r (λ e. number_in text ≡ None)
read [] (Ok n) all h = let none : 0 < 0 = h.0.0.0 in absurd (omega (arith, none))
read [] (Err e) all h = (tt, refl)
read (c ∷ cs) (Ok n) all h =
    let same = signless (c ∷ cs) all in
    let value = digits_value 10 (c ∷ cs) in
    let small : value < 2 ^ 64 = subst (λ t. digits_value 10 t < 2 ^ 64) same h.0.1 in
    let is : n ≡ value = h.1 ∙ ap (digits_value 10) same in
    let both = and_from (list_all is_ascii_digit (c ∷ cs)) (nat_lt value (2 ^ 64)) all (lt-ltb _ _ small) in
    (ap (λ (b : Bool). if b then Some value else None) both ∙ ap Some (sym is), tt)
read (c ∷ cs) (Err e) all h = (tt, go (nat_lt (digits_value 10 (c ∷ cs)) (2 ^ 64)) refl)
  where
    value : ℕ
    value = digits_value 10 (c ∷ cs)

    go : (b : Bool) → nat_lt value (2 ^ 64) ≡ b → number_in (c ∷ cs) ≡ None
    go true lt =
        let same = signless (c ∷ cs) all in
        absurd (h (subst (λ t. IsNumeral 10 t × (digits_value 10 t < 2 ^ 64)) (sym same)
        ((omega arith, digits (c ∷ cs) all), ltb-true _ _ lt)))
    go false lt =
        ap (λ (b : Bool). if b then Some value else None)
        (ap (λ (b : Bool). list_all is_ascii_digit (c ∷ cs) && b) lt ∙ never (list_all is_ascii_digit (c ∷ cs)))
      where
        never : (b : Bool) → (b && false) ≡ false
        never true = refl
        never false = refl

pub unread : (text : List ℕ) → list_all is_ascii_digit text ≡ false → number_in text ≡ None
unread [] h = refl
unread (c ∷ cs) h =
    ap (λ (b : Bool). if b && nat_lt (digits_value 10 (c ∷ cs)) (2 ^ 64) then Some
    (digits_value 10 (c ∷ cs)) else None) h
