-- Walks over the points of a list of parts.
use Rattle.std.proofs.Common.{◌≡◌, ℕ, suc, ◌+◌, ◌<◌, ◌≤◌, List, [], ◌∷◌, ◌++◌, length, drop, get_or, map, Result, Ok}
use Rattle.std.proofs.Common.{Err, refl, sym, ap, ◌∙◌, arith}
use Rattle.std.specs.Prelude.{OnOk}
use Rattle.std.proofs.Math.Seq.{drop-cons}
use Rattle.std.proofs.lemmas.List.{drop_all}
use Rattle.ps_text.specs.declared.Span.{Span}
use Rattle.ps_check_declarations.specs.Points.{Points, all, add_point, add_points}

module _ (text : List ℕ) where
  pub add_points-append : (s : List (List ℕ)) (xs ys : Points) → add_points text s (xs ++ ys) ≡ add_points text
      (add_points text s xs) ys
  unfolding add_points
  add_points-append s [] ys = refl
  add_points-append s (x ∷ xs) ys = add_points-append (add_point text s x) xs ys

  pub added_none : (s : List (List ℕ)) (zs : Points) → zs ≡ [] → s ≡ add_points text s zs
  unfolding add_points
  added_none s zs e = sym (ap (add_points text s) e)

  pub added_one : (s : List (List ℕ)) (z : Span) → add_points text s (z ∷ []) ≡ add_point text s z
  unfolding add_points
  added_one s z = refl

  -- two parts in a row
  pub added_both : (s t u : List (List ℕ)) (xs ys zs : Points) → t ≡ add_points text s xs → u ≡ add_points text t ys
      → zs ≡ xs ++ ys → u ≡ add_points text s zs
  added_both s t u xs ys zs h e is = e ∙ ap (λ t. add_points text t ys) h ∙ sym (add_points-append s xs ys)
      ∙ ap (add_points text s) (sym is)

  pub both_added : {X E : Type 0} (r : Result X E) (s t u : List (List ℕ)) (xs ys zs : Points) → t
      ≡ add_points text s xs → OnOk r (u ≡ add_points text t ys) → zs ≡ xs ++ ys → OnOk r (u ≡ add_points text s zs)
  both_added (Ok x) s t u xs ys zs h e is = added_both s t u xs ys zs h e is
  both_added (Err x) s t u xs ys zs h e is = e

-- the item at an index, whatever the default
abbrev head_or : {A : Type 0} → List A → A → A
head_or [] d = d
head_or (x ∷ xs) d = x

pub at_own : {A : Type 0} (xs : List A) (i : ℕ) (d : A) → i < length xs → get_or xs i d ≡ get_or xs i (get_or xs i d)
at_own xs i d lt =
    let e = get_or xs i d in
    let p : get_or xs i d ∷ drop (suc i) xs ≡ get_or xs i e ∷ drop (suc i) xs = sym (drop-cons xs i d lt)
    ∙ drop-cons xs i e lt in
    ap (λ l. head_or l d) p

-- a list of points that has reached index i, and left the names t
pub record Added (text : List ℕ) (s : List (List ℕ)) (points : Points) (i : ℕ) (t : List (List ℕ)) : Type 0 where
  pub rest : add_points text s points ≡ add_points text t (drop i points)

pub added_start : (text : List ℕ) (s : List (List ℕ)) (points : Points) → Added text s points 0 s
added_start text s points = record { rest = refl }

module _ (text : List ℕ) (s : List (List ℕ)) (points : Points) (i : ℕ) (t : List (List ℕ)) where
  pub added_next : (x : Span) (u : List (List ℕ)) → i < length points → x ≡ get_or points i x → Added text s points i t
      → u ≡ add_point text t x → Added text s points (i + 1) u
  unfolding add_points
  added_next x u lt at w e = record {
    rest =
        w.rest
        ∙ ap (add_points text t) (drop-cons points i x lt)
        ∙ ap (λ y. add_points text (add_point text t y) (drop (suc i) points)) (sym at)
        ∙ ap (λ u. add_points text u (drop (suc i) points)) (sym e)
        ∙ (let n : suc i ≡ i + 1 = omega arith in ap (λ k. add_points text u (drop k points)) n);
  }

  pub added_end : length points ≤ i → Added text s points i t → t ≡ add_points text s points
  unfolding add_points
  added_end le w = sym (w.rest ∙ ap (add_points text t) (drop_all i points le))

-- a walk that has reached the part at index i, and left the names t
pub record Walked {A : Type 0} (text : List ℕ) (points : A → Points) (s : List (List ℕ)) (xs : List A) (i : ℕ)
    (t : List (List ℕ)) : Type 0 where
  pub rest : add_points text s (all (map points xs)) ≡ add_points text t (all (map points (drop i xs)))

pub walked_start : {A : Type 0} (text : List ℕ) (points : A → Points) (s : List (List ℕ)) (xs : List A)
    → Walked text points s xs 0 s
walked_start text points s xs = record { rest = refl }

module _ {A : Type 0} (text : List ℕ) (points : A → Points) (s : List (List ℕ)) (xs : List A) (i : ℕ)
    (t : List (List ℕ)) where
  pub walked_next : (x : A) (u : List (List ℕ)) → i < length xs → x ≡ get_or xs i x → Walked text points s xs i t → u
      ≡ add_points text t (points x) → Walked text points s xs (i + 1) u
  walked_next x u lt at w e = record {
    rest =
        w.rest
        ∙ ap (λ l. add_points text t (all (map points l))) (drop-cons xs i x lt)
        ∙ ap (λ y. add_points text t (points y ++ all (map points (drop (suc i) xs)))) (sym at)
        ∙ add_points-append text t (points x) (all (map points (drop (suc i) xs)))
        ∙ ap (λ u. add_points text u (all (map points (drop (suc i) xs)))) (sym e)
        ∙ (let n : suc i ≡ i + 1 = omega arith in ap (λ k. add_points text u (all (map points (drop k xs)))) n);
  }

  pub walked_end : length xs ≤ i → Walked text points s xs i t → t ≡ add_points text s (all (map points xs))
  walked_end le w = added_none text t (all (map points (drop i xs))) (ap (λ l. all (map points l)) (drop_all i xs le))
      ∙ sym w.rest
