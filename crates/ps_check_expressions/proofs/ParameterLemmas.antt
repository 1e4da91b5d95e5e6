-- Lists of sections, and the formal parameters in them.
use Rattle.std.proofs.Common.{◌≡◌, ℕ, zero, suc, ◌+◌, ◌<◌, ◌≤◌, Bool, true, false, ◌&&◌, List, [], ◌∷◌, ◌++◌, length}
use Rattle.std.proofs.Common.{drop, get_or, map, refl, sym, ap, ◌∙◌, arith, append_assoc}
use Rattle.std.proofs.Math.Seq.{drop-cons}
use Rattle.std.proofs.lemmas.List.{drop_all, append-nil, map_push}
use Rattle.ps_check_names.specs.declared.sections.Section as Rust
use Rattle.ps_check_names.specs.Regions.{Section}
use Rattle.ps_check_names.specs.SectionViews.{section_of, sections_of}
use Rattle.ps_check_expressions.specs.Calls.{congruous, are_alike, times, with_parameters, parameters}

-- ---- congruous lists

pub congruous_uneven : (xs ys : List Rust.Section) → (length xs ≡ length ys → ⊥) → congruous (sections_of xs)
    (sections_of ys) ≡ false
unfolding congruous sections_of
congruous_uneven [] [] h = absurd (h refl)
congruous_uneven [] (y ∷ ys) h = refl
congruous_uneven (x ∷ xs) [] h = refl
congruous_uneven (x ∷ xs) (y ∷ ys) h = both (are_alike (section_of x) (section_of y)) _
    (congruous_uneven xs ys (λ e. h (ap suc e)))
  where
    both : (a b : Bool) → b ≡ false → (a && b) ≡ false
    both true b e = e
    both false b e = refl

-- the first i sections of both are alike
pub record Alike (xs ys : List Rust.Section) (i : ℕ) : Type 0 where
  pub rest : congruous (sections_of xs) (sections_of ys) ≡ congruous (sections_of (drop i xs)) (sections_of (drop i ys))

pub alike_start : (xs ys : List Rust.Section) → Alike xs ys 0
alike_start xs ys = record { rest = refl }

module _ (xs ys : List Rust.Section) (i : ℕ) where
  alike_here : (x y : Rust.Section) → i < length xs → i < length ys → x ≡ get_or xs i x → y ≡ get_or ys i y
      → Alike xs ys i → congruous (sections_of xs) (sections_of ys)
      ≡ (are_alike (section_of x) (section_of y) && congruous (sections_of (drop (suc i) xs))
      (sections_of (drop (suc i) ys)))
  unfolding congruous sections_of
  alike_here x y ltx lty atx aty r =
      r.rest
      ∙ ap (λ l. congruous (sections_of l) (sections_of (drop i ys)))
      (drop-cons xs i x ltx ∙ ap (λ a. a ∷ drop (suc i) xs) (sym atx))
      ∙ ap (λ l. congruous (sections_of (x ∷ drop (suc i) xs)) (sections_of l))
      (drop-cons ys i y lty ∙ ap (λ a. a ∷ drop (suc i) ys) (sym aty))

  pub alike_next : (x y : Rust.Section) → i < length xs → i < length ys → x ≡ get_or xs i x → y ≡ get_or ys i y
      → are_alike (section_of x) (section_of y) ≡ true → Alike xs ys i → Alike xs ys (i + 1)
  alike_next x y ltx lty atx aty e r = record {
    rest =
        alike_here x y ltx lty atx aty r
        ∙ ap (λ b. b && congruous (sections_of (drop (suc i) xs)) (sections_of (drop (suc i) ys))) e
        ∙ (let n : suc i ≡ i + 1 = omega arith in ap (λ k. congruous (sections_of (drop k xs))
        (sections_of (drop k ys))) n);
  }

  pub alike_fault : (x y : Rust.Section) → i < length xs → i < length ys → x ≡ get_or xs i x → y ≡ get_or ys i y
      → are_alike (section_of x) (section_of y) ≡ false → Alike xs ys i → congruous (sections_of xs) (sections_of ys)
      ≡ false
  alike_fault x y ltx lty atx aty e r =
      alike_here x y ltx lty atx aty r ∙ ap (λ b. b && congruous (sections_of (drop (suc i) xs))
      (sections_of (drop (suc i) ys))) e

  pub alike_end : length xs ≤ i → length ys ≤ i → Alike xs ys i → congruous (sections_of xs) (sections_of ys) ≡ true
  unfolding congruous sections_of
  alike_end lex ley r =
      r.rest ∙ ap (λ l. congruous (sections_of l) (sections_of (drop i ys))) (drop_all i xs lex)
      ∙ ap (λ l. congruous (sections_of []) (sections_of l)) (drop_all i ys ley)

-- ---- formal parameters

pub times_more : (n : ℕ) (s : Section) → times (n + 1) s [] ≡ times n s [] ++ s ∷ []
times_more n s = (let e : n + 1 ≡ suc n = omega arith in ap (λ k. times k s []) e) ∙ at n
  where
    at : (n : ℕ) → times (suc n) s [] ≡ times n s [] ++ s ∷ []
    at zero = refl
    at (suc n) = ap (λ l. s ∷ l) (at n)

pub times_append : (n : ℕ) (s : Section) (rest : List Section) → times n s rest ≡ times n s [] ++ rest
times_append zero s rest = refl
times_append (suc n) s rest = ap (λ l. s ∷ l) (times_append n s rest)

-- the parameters so far, before those of the other sections
pub record Listed (xs : List Rust.Section) (i : ℕ) (done : List Section) : Type 0 where
  pub rest : parameters (sections_of xs) ≡ done ++ parameters (sections_of (drop i xs))

pub listed_start : (xs : List Rust.Section) → Listed xs 0 []
listed_start xs = record { rest = refl }

module _ (xs : List Rust.Section) (i : ℕ) where
  pub listed_next : (done new : List Section) (x : Rust.Section) (n : ℕ) → i < length xs → x ≡ get_or xs i x
      → ((rest : List Section) → with_parameters (section_of x) rest ≡ times n (section_of x) rest) → new ≡ done
      ++ times n (section_of x) [] → Listed xs i done → Listed xs (i + 1) new
  unfolding parameters sections_of
  listed_next done new x n lt at count e r = record {
    rest =
        r.rest
        ∙ ap (λ l. done ++ parameters (sections_of l)) (drop-cons xs i x lt ∙ ap (λ a. a ∷ drop (suc i) xs) (sym at))
        ∙ ap (λ l. done ++ l) (count (parameters (sections_of (drop (suc i) xs))) ∙ times_append n (section_of x)
        (parameters (sections_of (drop (suc i) xs))))
        ∙ sym (append_assoc done (times n (section_of x) []) (parameters (sections_of (drop (suc i) xs))))
        ∙ ap (λ l. l ++ parameters (sections_of (drop (suc i) xs))) (sym e)
        ∙ (let m : suc i ≡ i + 1 = omega arith in ap (λ k. new ++ parameters (sections_of (drop k xs))) m);
  }

  pub listed_end : (done : List Section) → length xs ≤ i → Listed xs i done → done ≡ parameters (sections_of xs)
  unfolding parameters sections_of
  listed_end done le r = sym (r.rest ∙ ap (λ l. done ++ parameters (sections_of l)) (drop_all i xs le)
      ∙ append-nil done)

-- a section that is listed once more
pub pushed_time : {A : Type 0} (h : A → Section) (old new : List A) (x : A) (done : List Section) (n : ℕ) → new ≡ old
    ++ x ∷ [] → map h old ≡ done ++ times n (h x) [] → map h new ≡ done ++ times (n + 1) (h x) []
pushed_time h old new x done n e r =
    ap (map h) e ∙ map_push h old x ∙ ap (λ l. l ++ h x ∷ []) r ∙ append_assoc done (times n (h x) []) (h x ∷ [])
    ∙ ap (λ l. done ++ l) (sym (times_more n (h x)))
