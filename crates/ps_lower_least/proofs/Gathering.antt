-- Numbers that grow.
use Rattle.std.proofs.Common.{◌≡◌, ℕ, suc, ◌+◌, ◌<◌, ◌≤◌, List, [], ◌∷◌, length, drop, get_or, refl, ap, ◌∙◌, arith}
use Rattle.std.proofs.Math.Seq.{drop-cons}
use Rattle.std.proofs.lemmas.List.{drop_all}
use Rattle.ps_lower_least.specs.Counted.{Adds}

pub adds_none : (a : ℕ) → Adds a a 0
adds_none a = record { most = omega arith }

pub adds_as : (a b m n : ℕ) → m ≡ n → Adds a b m → Adds a b n
adds_as a b m n e f = let g = f.most in record { most = omega (arith, e, g) }

pub adds_both : (a b c m n : ℕ) → Adds a b m → Adds b c n → Adds a c (m + n)
adds_both a b c m n f g = let h = f.most in let j = g.most in record { most = omega (arith, h, j) }

-- two parts and three, as the number of the whole
pub adds_two : (a b c m n o : ℕ) → m + n ≡ o → Adds a b m → Adds b c n → Adds a c o
adds_two a b c m n o e f g = adds_as a c (m + n) o e (adds_both a b c m n f g)

pub adds_three : (a b c d m n o p : ℕ) → m + n + o ≡ p → Adds a b m → Adds b c n → Adds c d o → Adds a d p
adds_three a b c d m n o p e f g h = adds_as a d (m + n + o) p e
    (adds_both a c d (m + n) o (adds_both a b c m n f g) h)

-- the numbers of the items before i were added to what was there at the start
pub record Gathered {A : Type 0} (fewest : List A → ℕ) (start : ℕ) (items : List A) (i : ℕ) (now : ℕ) : Type 0 where
  pub so_far : ℕ
  pub adds : Adds start now so_far
  pub left : so_far + fewest (drop i items) ≡ fewest items

pub gathered_start : {A : Type 0} (fewest : List A → ℕ) (start : ℕ) (items : List A)
    → Gathered fewest start items 0 start
gathered_start fewest start items =
    let z : fewest (drop 0 items) ≡ fewest items = refl in
    record { so_far = 0; adds = adds_none start; left = omega (arith, z) }

pub gathered_next : {A : Type 0} (fewest : List A → ℕ) (one : A → ℕ)
    → ((x : A) (xs : List A) → fewest (x ∷ xs) ≡ one x + fewest xs) → (start : ℕ) (items : List A) (i : ℕ)
    (now next : ℕ) (d item : A) → item ≡ get_or items i d → i < length items → Gathered fewest start items i now
    → Adds now next (one item) → Gathered fewest start items (i + 1) next
gathered_next fewest one law start items i now next d item is h g adds =
    let k : i + 1 ≡ suc i = omega arith in
    let a : fewest (drop (i + 1) items) ≡ fewest (drop (suc i) items) = ap (λ j. fewest (drop j items)) k in
    let b : fewest (drop i items) ≡ one (get_or items i d) + fewest (drop (suc i) items) =
    ap fewest (drop-cons items i d h) ∙ law (get_or items i d) (drop (suc i) items) in
    let c : one item ≡ one (get_or items i d) = ap one is in
    let l = g.left in
    record {
      so_far = g.so_far + one item;
      adds = adds_both start now next g.so_far (one item) g.adds adds;
      left = omega (arith, a, b, c, l);
    }

pub gathered_all : {A : Type 0} (fewest : List A → ℕ) → fewest [] ≡ 0 → (start : ℕ) (items : List A) (i : ℕ)
    (now : ℕ) → length items ≤ i → Gathered fewest start items i now → Adds start now (fewest items)
gathered_all fewest none start items i now h g =
    let a : fewest (drop i items) ≡ fewest [] = ap fewest (drop_all i items h) in
    let l = g.left in
    adds_as start now g.so_far (fewest items) (omega (arith, a, l, none)) g.adds
