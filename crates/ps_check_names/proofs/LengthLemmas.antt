-- How many characters names take together, each with a comma.
use Rattle.std.proofs.Common.{◌≡◌, ◌+◌, ◌-◌, ◌<◌, ◌≤◌, ℕ, suc, true, false, nat_lt, List, ◌∷◌, length, map, drop}
use Rattle.std.proofs.Common.{get_or, sym, ap, ◌∙◌, arith}
use Rattle.std.proofs.Math.Seq.{drop-cons}
use Rattle.std.proofs.lemmas.List.{drop_all}
use Rattle.std.proofs.lemmas.Bool.{lt-ltb, le-ltb}
use Rattle.ps_check_names.specs.Opened.{written_length}

module _ {X : Type 0} (f : X → List ℕ) (most : ℕ) where
  -- so many are left behind the first i names
  abbrev pub Left : (names : List X) (i left : ℕ) → Type 0
  Left names i left = written_length (map f names) + left ≡ most + written_length (map f (drop i names))

  next_written : (names : List X) (i : ℕ) (x : X) → i < length names → x ≡ get_or names i x → written_length
      (map f (drop i names)) ≡ length (f x) + 1 + written_length (map f (drop (i + 1) names))
  next_written names i x lt at =
      ap (λ l. written_length (map f l)) (drop-cons names i x lt ∙ ap (λ a. a ∷ drop (suc i) names) (sym at))
      ∙ (let z : suc i ≡ i + 1 = omega arith in ap (λ k. length (f x) + 1 + written_length (map f (drop k names))) z)

  pub left_start : (names : List X) → Left names 0 most
  left_start names = omega arith

  pub left_next : (names : List X) (i left left' : ℕ) (x : X) → i < length names → x ≡ get_or names i x → length (f x)
      < left → left' ≡ left - (length (f x) + 1) → Left names i left → Left names (i + 1) left'
  left_next names i left left' x lt at fits is so_far = let z = next_written names i x lt at in
      omega (arith, z, fits, is, so_far)

  pub are_long_here : (names : List X) (i left : ℕ) (x : X) → i < length names → x ≡ get_or names i x → left
      ≤ length (f x) → Left names i left → nat_lt most (written_length (map f names)) ≡ true
  are_long_here names i left x lt at over so_far =
      let z = next_written names i x lt at in
      let more : most < written_length (map f names) = omega (arith, z, over, so_far) in
      lt-ltb most (written_length (map f names)) more

  pub are_short : (names : List X) (i left : ℕ) → length names ≤ i → Left names i left → nat_lt most
      (written_length (map f names)) ≡ false
  are_short names i left end so_far =
      let z = ap (λ l. written_length (map f l)) (drop_all i names end) in
      let within : written_length (map f names) ≤ most = omega (arith, z, so_far) in
      le-ltb most (written_length (map f names)) within
