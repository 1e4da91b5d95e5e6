-- Loops that gather what the items of a list have.
use Rattle.std.proofs.Common.{◌≡◌, ℕ, suc, ◌+◌, ◌-◌, ◌==◌, Bool, true, false, ◌<◌, ◌≤◌, List, [], ◌∷◌, ◌++◌}
use Rattle.std.proofs.Common.{append_assoc, length, drop, get_or, map, refl, sym, ap, ◌∙◌, arith}
use Rattle.std.specs.Prelude.{if◌then◌else◌}
use Rattle.std.proofs.Math.Seq.{drop-cons}
use Rattle.std.proofs.lemmas.Bool.{ne_eqb}
use Rattle.std.proofs.lemmas.List.{drop_all, append-nil, map-append}
use Rattle.ps_text.specs.declared.Span.{Span}
use Rattle.ps_check_judgement.specs.declared.change.Change.{Change}
use Rattle.ps_check_declarations.specs.Points.{Points, all, add_name}
use Rattle.ps_check.specs.Readings.{RoutineReading}
use Rattle.ps_check.specs.Forwards.{add_routine, add_routines}
use Rattle.ps_check.specs.Entries.{add_names}
use Rattle.ps_check.specs.Changes.{outward}

-- the images of the parts of the items from index i on are still to come
module _ {A C : Type 0} (f : Span → C) (parts : A → Points) (xs : List A) where
  pub record Gained (i : ℕ) (done : List C) : Type 0 where
    pub rest : done ++ map f (all (map parts (drop i xs))) ≡ map f (all (map parts xs))

  pub gained_start : Gained 0 []
  gained_start = record { rest = refl }

  pub gained_next : (i : ℕ) (done new : List C) (x : A) → i < length xs → x ≡ get_or xs i x → Gained i done → new ≡ done
      ++ map f (parts x) → Gained (i + 1) new
  gained_next i done new x lt at g n = record {
    rest =
        ap (λ d. d ++ map f (all (map parts (drop (i + 1) xs)))) n
        ∙ append_assoc done (map f (parts x)) (map f (all (map parts (drop (i + 1) xs))))
        ∙ ap (λ d. done ++ d) (sym (map-append f (parts x) (all (map parts (drop (i + 1) xs)))))
        ∙ (let e : i + 1 ≡ suc i = omega arith in ap (λ k. done ++ map f (all (map parts (x ∷ drop k xs)))) e)
        ∙ ap (λ y. done ++ map f (all (map parts (y ∷ drop (suc i) xs)))) at
        ∙ ap (λ d. done ++ map f (all (map parts d))) (sym (drop-cons xs i x lt))
        ∙ g.rest;
  }

  pub gained_end : (i : ℕ) (done : List C) → length xs ≤ i → Gained i done → done ≡ map f (all (map parts xs))
  gained_end i done le g = sym (append-nil done) ∙ ap (λ d. done ++ map f (all (map parts d))) (sym (drop_all i xs le))
      ∙ g.rest

-- the headings of a list of routines from index i on have their names still to come
pub record Headed {A : Type 0} (text : List ℕ) (f : A → RoutineReading) (s : List (List ℕ)) (xs : List A) (i : ℕ)
    (t : List (List ℕ)) : Type 0 where
  pub rest : add_routines text s (map f xs) ≡ add_routines text t (map f (drop i xs))

pub headed_start : {A : Type 0} (text : List ℕ) (f : A → RoutineReading) (s : List (List ℕ)) (xs : List A)
    → Headed text f s xs 0 s
headed_start text f s xs = record { rest = refl }

module _ {A : Type 0} (text : List ℕ) (f : A → RoutineReading) (s : List (List ℕ)) (xs : List A) (i : ℕ)
    (t : List (List ℕ)) where
  pub headed_next : (x : A) (u : List (List ℕ)) → i < length xs → x ≡ get_or xs i x → Headed text f s xs i t → u
      ≡ add_routine text t (f x) → Headed text f s xs (i + 1) u
  headed_next x u lt at w e = record {
    rest =
        w.rest
        ∙ ap (λ l. add_routines text t (map f l)) (drop-cons xs i x lt)
        ∙ ap (λ y. add_routines text (add_routine text t (f y)) (map f (drop (suc i) xs))) (sym at)
        ∙ ap (λ u. add_routines text u (map f (drop (suc i) xs))) (sym e)
        ∙ (let n : suc i ≡ i + 1 = omega arith in ap (λ k. add_routines text u (map f (drop k xs))) n);
  }

  pub headed_end : length xs ≤ i → Headed text f s xs i t → t ≡ add_routines text s (map f xs)
  headed_end le w = sym (w.rest ∙ ap (λ l. add_routines text t (map f l)) (drop_all i xs le))

-- the names of a list from index i on are still to come
pub record Named {A : Type 0} (f : A → List ℕ) (s : List (List ℕ)) (xs : List A) (i : ℕ) (t : List (List ℕ))
    : Type 0 where
  pub rest : add_names s (map f xs) ≡ add_names t (map f (drop i xs))

pub named_start : {A : Type 0} (f : A → List ℕ) (s : List (List ℕ)) (xs : List A) → Named f s xs 0 s
named_start f s xs = record { rest = refl }

module _ {A : Type 0} (f : A → List ℕ) (s : List (List ℕ)) (xs : List A) (i : ℕ) (t : List (List ℕ)) where
  pub named_next : (x : A) (u : List (List ℕ)) → i < length xs → x ≡ get_or xs i x → Named f s xs i t → u ≡ add_name t
      (f x) → Named f s xs (i + 1) u
  named_next x u lt at w e = record {
    rest =
        w.rest
        ∙ ap (λ l. add_names t (map f l)) (drop-cons xs i x lt)
        ∙ ap (λ y. add_names (add_name t (f y)) (map f (drop (suc i) xs))) (sym at)
        ∙ ap (λ u. add_names u (map f (drop (suc i) xs))) (sym e)
        ∙ (let n : suc i ≡ i + 1 = omega arith in ap (λ k. add_names u (map f (drop k xs))) n);
  }

  pub named_end : length xs ≤ i → Named f s xs i t → t ≡ add_names s (map f xs)
  named_end le w = sym (w.rest ∙ ap (λ l. add_names t (map f l)) (drop_all i xs le))

-- ---- changes that reach further out

-- the change as the block outside sees it
abbrev one_out : Change → Change
one_out x = record { up = x.up - 1; entry = x.entry; at = x.at }

pub outward_own : (x : Change) → x.up ≡ 0 → (l : List Change) → l ≡ l ++ outward (x ∷ [])
unfolding outward
outward_own x e l = sym (append-nil l) ∙ ap (λ n. l ++ (if n == 0 then [] else record {
  up = x.up - 1;
  entry = x.entry;
  at = x.at;
} ∷ [])) (sym e)

pub outward_far : (x : Change) → (x.up ≡ 0 → ⊥) → outward (x ∷ []) ≡ one_out x ∷ []
unfolding outward
outward_far x far = ap (λ b. if b then [] else (one_out x ∷ [])) (ne_eqb x.up 0 far)

outward_more : (x : Change) (xs : List Change) → outward (x ∷ xs) ≡ outward (x ∷ []) ++ outward xs
unfolding outward
outward_more x xs = at (x.up == 0)
  where
    at : (b : Bool) → (if b then outward xs else one_out x ∷ outward xs) ≡ (if b then [] else one_out x ∷ [])
        ++ outward xs
    at true = refl
    at false = refl

-- the changes from index i on are still to come
pub record Reached (s : List Change) (xs : List Change) (i : ℕ) (t : List Change) : Type 0 where
  pub rest : s ++ outward xs ≡ t ++ outward (drop i xs)

pub reached_start : (s xs : List Change) → Reached s xs 0 s
reached_start s xs = record { rest = refl }

module _ (s xs : List Change) (i : ℕ) (t : List Change) where
  pub reached_next : (x : Change) (u : List Change) → i < length xs → x ≡ get_or xs i x → Reached s xs i t → u ≡ t
      ++ outward (x ∷ []) → Reached s xs (i + 1) u
  reached_next x u lt at w e = record {
    rest =
        w.rest
        ∙ ap (λ l. t ++ outward l) (drop-cons xs i x lt)
        ∙ ap (λ y. t ++ outward (y ∷ drop (suc i) xs)) (sym at)
        ∙ ap (λ l. t ++ l) (outward_more x (drop (suc i) xs))
        ∙ sym (append_assoc t (outward (x ∷ [])) (outward (drop (suc i) xs)))
        ∙ ap (λ u. u ++ outward (drop (suc i) xs)) (sym e)
        ∙ (let n : suc i ≡ i + 1 = omega arith in ap (λ k. u ++ outward (drop k xs)) n);
  }

  pub reached_end : length xs ≤ i → Reached s xs i t → t ≡ s ++ outward xs
  unfolding outward
  reached_end le w = sym (w.rest ∙ ap (λ l. t ++ outward l) (drop_all i xs le) ∙ append-nil t)
