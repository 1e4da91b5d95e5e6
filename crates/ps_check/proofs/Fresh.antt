-- Names that don't occur before, and lists to which they are added.
use Rattle.std.proofs.Common.{◌≡◌, ℕ, ◌+◌, Bool, true, false, ◌&&◌, ◌||◌, not, List, [], ◌∷◌, ◌++◌, length, map, take}
use Rattle.std.proofs.Common.{◌⊎◌, inl, inr, refl, sym, ap, ◌∙◌, subst, append_assoc, append-nil, length-append}
use Rattle.std.proofs.Common.{eq-eqb, arith, nat_eq}
use Rattle.std.specs.Prelude.{if◌then◌else◌}
use Rattle.std.proofs.lemmas.Bool.{ne_eqb, not-true, and_parts, or_from, or_parts}
use Rattle.std.proofs.lemmas.Bool.Decides.{eqb_tells}
use Rattle.std.proofs.lemmas.List.Folds.{list_any-append}
use Rattle.std.proofs.Math.Bool.{or-true}
use Rattle.std.proofs.Math.Seq.{take-append_seam}
use Rattle.ps_check_names.specs.Spelling.{spelled, same, has}
use Rattle.ps_check_names.proofs.SpellingLemmas.{same_itself}
use Rattle.ps_check_declarations.specs.Points.{Points, add_name, add_point, add_points, is_later, is_new}
use Rattle.ps_check.specs.Entries.{add_names}
use Rattle.ps_check.specs.RegionNames.{Each}

-- ---- spellings

eq_swap : (x y : ℕ) → nat_eq x y ≡ nat_eq y x
eq_swap x y = at (eqb_tells x y)
  where
    at : ((nat_eq x y ≡ true) × (x ≡ y)) ⊎ ((nat_eq x y ≡ false) × (x ≡ y → ⊥)) → nat_eq x y ≡ nat_eq y x
    at (inl h) = h.0 ∙ sym (eq-eqb y x (sym h.1))
    at (inr h) = h.0 ∙ sym (ne_eqb y x (λ e. h.1 (sym e)))

same_swap : (s t : List ℕ) → same s t ≡ same t s
same_swap [] [] = refl
same_swap [] (y ∷ t) = refl
same_swap (x ∷ s) [] = refl
same_swap (x ∷ s) (y ∷ t) = ap (λ b. b && same s t) (eq_swap x y) ∙ ap (λ b. nat_eq y x && b) (same_swap s t)

pub has_more : (xs ys : List (List ℕ)) (s : List ℕ) → has xs s ≡ true → has (xs ++ ys) s ≡ true
has_more xs ys s h = list_any-append (same s) xs ys ∙ ap (λ b. b || has ys s) h

pub has_last : (xs : List (List ℕ)) (s : List ℕ) → has (xs ++ s ∷ []) s ≡ true
has_last xs s = list_any-append (same s) xs (s ∷ []) ∙ ap (λ b. has xs s || (b || false)) (same_itself s) ∙ or-true
    (has xs s)

pub has_neither : (xs ys : List (List ℕ)) (s : List ℕ) → has xs s ≡ false → has ys s ≡ false → has (xs ++ ys) s ≡ false
has_neither xs ys s h k = list_any-append (same s) xs ys ∙ or_from (has xs s) (has ys s) h k

-- no name of one list is in the other
abbrev pub NoneOf : List (List ℕ) → List (List ℕ) → Type 0
NoneOf xs ys = Each (λ x. has ys x ≡ false) xs

first_none : (xs : List (List ℕ)) (y : List ℕ) (ys : List (List ℕ)) → NoneOf xs (y ∷ ys) → has xs y ≡ false
first_none [] y ys h = refl
first_none (x ∷ xs) y ys h = or_from (same y x) (has xs y) (same_swap y x ∙ (or_parts (same x y) (has ys x) h.0).0)
    (first_none xs y ys h.1)

rest_none : (xs : List (List ℕ)) (y : List ℕ) (ys : List (List ℕ)) → NoneOf xs (y ∷ ys) → NoneOf xs ys
rest_none [] y ys h = tt
rest_none (x ∷ xs) y ys h = ((or_parts (same x y) (has ys x) h.0).1, rest_none xs y ys h.1)

pub none_swap : (xs ys : List (List ℕ)) → NoneOf xs ys → NoneOf ys xs
none_swap xs [] h = tt
none_swap xs (y ∷ ys) h = (first_none xs y ys h, none_swap xs ys (rest_none xs y ys h))

-- ---- names that are new where they are added

abbrev pub Fresh : List (List ℕ) → List (List ℕ) → Type 0
Fresh from [] = Unit {0}
Fresh from (s ∷ ss) = (has from s ≡ false) × Fresh (from ++ s ∷ []) ss

new_name : (from : List (List ℕ)) (s : List ℕ) → has from s ≡ false → add_name from s ≡ from ++ s ∷ []
new_name from s h = ap (λ b. if b then from else (from ++ s ∷ [])) h

pub fresh_added : (from ss : List (List ℕ)) → Fresh from ss → add_names from ss ≡ from ++ ss
fresh_added from [] h = sym (append-nil from)
fresh_added from (s ∷ ss) h = ap (λ n. add_names n ss) (new_name from s h.0) ∙ fresh_added (from ++ s ∷ []) ss h.1
    ∙ append_assoc from (s ∷ []) ss

pub fresh_both : (from xs ys : List (List ℕ)) → Fresh from xs → Fresh (from ++ xs) ys → Fresh from (xs ++ ys)
fresh_both from [] ys a b = subst (λ l. Fresh l ys) (append-nil from) b
fresh_both from (x ∷ xs) ys a b = (
  a.0,
  fresh_both (from ++ x ∷ []) xs ys a.1
      (subst (λ l. Fresh l ys) (sym (append_assoc from (x ∷ []) xs)) b),
)

names_append : (from xs ys : List (List ℕ)) → add_names from (xs ++ ys) ≡ add_names (add_names from xs) ys
names_append from [] ys = refl
names_append from (x ∷ xs) ys = names_append (add_name from x) xs ys

-- names are added at the end
pub record Longer (from to : List (List ℕ)) : Type 0 where
  pub more : List (List ℕ)
  pub are : to ≡ from ++ more

pub name_longer : (from : List (List ℕ)) (s : List ℕ) → Longer from (add_name from s)
name_longer from s = at (has from s)
  where
    at : (b : Bool) → Longer from (if b then from else (from ++ s ∷ []))
    at true = record { more = []; are = sym (append-nil from) }
    at false = record { more = s ∷ []; are = refl }

pub longer_both : (a b c : List (List ℕ)) → Longer a b → Longer b c → Longer a c
longer_both a b c x y = record {
  more = x.more ++ y.more;
  are = y.are ∙ ap (λ l. l ++ y.more) x.are ∙ append_assoc a x.more y.more;
}

names_longer : (from ss : List (List ℕ)) → Longer from (add_names from ss)
names_longer from [] = record { more = []; are = sym (append-nil from) }
names_longer from (s ∷ ss) = longer_both from (add_name from s) (add_names (add_name from s) ss) (name_longer from s)
    (names_longer (add_name from s) ss)

pub points_names : (text : List ℕ) (from : List (List ℕ)) (points : Points) → add_points text from points
    ≡ add_names from (map (spelled text) points)
unfolding add_points
points_names text from [] = refl
points_names text from (p ∷ ps) = points_names text (add_point text from p) ps

-- names of a region, where these come next, and then some more
pub record Ahead (all from rest : List (List ℕ)) : Type 0 where
  pub behind : List (List ℕ)
  pub are : all ≡ add_names from rest ++ behind

pub ahead_more : (all from xs ys : List (List ℕ)) → Ahead all from (xs ++ ys) → Fresh from xs → Ahead all
    (from ++ xs) ys
ahead_more all from xs ys a fresh = record {
  behind = a.behind;
  are = a.are ∙ ap (λ n. n ++ a.behind) (names_append from xs ys ∙ ap (λ n. add_names n ys)
      (fresh_added from xs fresh));
}

pub ahead_take : (all from rest : List (List ℕ)) → Ahead all from rest → take (length from) all ≡ from
ahead_take all from rest a =
    let l = names_longer from rest in
    ap (take (length from)) (a.are ∙ ap (λ n. n ++ a.behind) l.are ∙ append_assoc from l.more a.behind)
    ∙ take-append_seam from (l.more ++ a.behind)

-- what is later than these is not among them
pub later_fresh : (all from : List (List ℕ)) (count : ℕ) (s : List ℕ) → take (length from) all ≡ from → count
    ≡ length from → is_later all count s ≡ true → has from s ≡ false
later_fresh all from count s t e later =
    let b = and_parts (has all s) (not (has (take count all) s)) later in
    sym (ap (λ l. has l s) (ap (λ k. take k all) e ∙ t)) ∙ not-true (has (take count all) s) b.1

-- ---- names that are new in their definitions

abbrev pub AreNew : (all begun : List (List ℕ)) → ℕ → List (List ℕ) → Type 0
AreNew all begun count [] = Unit {0}
AreNew all begun count (s ∷ ss) = (is_new all begun count s ≡ true) × AreNew all begun (count + 1) ss

module _ (all begun : List (List ℕ)) where
  pub new_both : (count n : ℕ) (xs ys : List (List ℕ)) → AreNew all begun count xs → AreNew all begun n ys → n ≡ count
      + length xs → AreNew all begun count (xs ++ ys)
  new_both count n [] ys a b e = let z : n ≡ count = omega (arith, e) in subst (λ k. AreNew all begun k ys) z b
  new_both count n (x ∷ xs) ys a b e = (a.0, new_both (count + 1) n xs ys a.1 b (omega (arith, e)))

  pub new_apart : (count : ℕ) (ss : List (List ℕ)) → AreNew all begun count ss → NoneOf ss begun
  new_apart count [] a = tt
  new_apart count (s ∷ ss) a = (
    let b = and_parts (is_later all count s) (not (has begun s)) a.0 in not-true
        (has begun s) b.1,
    new_apart (count + 1) ss a.1,
  )

  pub new_fresh : (ss more from : List (List ℕ)) (count : ℕ) → count ≡ length from → AreNew all begun count ss
      → Ahead all from (ss ++ more) → Fresh from ss
  new_fresh [] more from count e a h = tt
  new_fresh (s ∷ ss) more from count e a h =
      let b = and_parts (is_later all count s) (not (has begun s)) a.0 in
      let here : has from s ≡ false = later_fresh all from count s (ahead_take all from (s ∷ (ss ++ more)) h) e b.0 in
      let next : count + 1 ≡ length (from ++ s ∷ []) = omega (arith, e, length-append from (s ∷ [])) in (
        here,
        new_fresh ss more (from ++ s ∷ []) (count + 1) next a.1
            (ahead_more all from (s ∷ []) (ss ++ more) h (here, tt)),
      )
