-- Rows and words of a table are set, and what a table claims of the others stays.
use Rattle.std.proofs.Common.{◌≡◌, ◌≢◌, ◌⊎◌, inl, inr, ℕ, zero, suc, ◌<◌, Bool, true, false, nat_eq, nat_lt, ◌≤◌}
use Rattle.std.proofs.Common.{if◌then◌else◌, List, [], ◌∷◌, length, map, slice_get, slice_set, Option, Some, None, refl}
use Rattle.std.proofs.Common.{sym, ap, ◌∙◌, subst, arith, eq-eqb, eqb-true, true≢false}
use Rattle.std.proofs.lemmas.Bool.{cases_eq, false_from_ne_true}
use Rattle.std.proofs.lemmas.Option.{none-some, same_Some, slice_get_past}
use Rattle.tac_pass.specs.declared.table.Reach.TheVariants.{Within}
use Rattle.tac_pass.specs.declared.table.Known.{Known}
use Rattle.tac_pass.specs.declared.table.Word.{Word}
use Rattle.tac_pass.specs.Tables.{Table, points_to, unknown, unminded, or_unknown, or_unminded, one_further, place_of}
use Rattle.tac_pass.specs.Tables.{word_at_place, known_in, word_in, is_held_by, freed, with_known, words_with}
use Rattle.tac_pass.specs.Tables.{with_word, is_there, is_minded}
use Rattle.tac_pass.proofs.Words.{get_set_same, get_set_other}

-- ---- rows

get_set_past : {X : Type 0} (xs : List X) (i : ℕ) (x : X) → length xs ≤ i → slice_get (slice_set xs i x) i ≡ None
get_set_past [] i x l = refl
get_set_past (y ∷ ys) zero x l = absurd (omega (arith, l))
get_set_past (y ∷ ys) (suc i) x l = get_set_past ys i x (omega (arith, l))

-- Row v behind a change of row u to x: that, none, or what it was.
pub data SetRow {X : Type 0} (none x was now : X) (u v : ℕ) : Type 0 where
  Here : v ≡ u → now ≡ x → SetRow none x was now u v
  Past : v ≡ u → now ≡ none → was ≡ none → SetRow none x was now u v
  Other : v ≢ u → now ≡ was → SetRow none x was now u v

set_row : {X : Type 0} (or : Option X → X) (back : (y : X) → or (Some y) ≡ y) (xs : List X) (u : ℕ) (x : X) (v : ℕ)
    → SetRow (or None) x (or (slice_get xs v)) (or (slice_get (slice_set xs u x) v)) u v
set_row or back xs u x v = which (cases_eq v u)
  where
    within : v ≡ u → (b : Bool) → nat_lt u (length xs) ≡ b → SetRow (or None) x (or (slice_get xs v))
        (or (slice_get (slice_set xs u x) v)) u v
    within e true l =
        let below : u < length xs = grind arith in
        Here e (ap or (ap (slice_get (slice_set xs u x)) e ∙ get_set_same xs u x below) ∙ back x)
    within e false l =
        let above : length xs ≤ u = grind arith in Past e
        (ap or (ap (slice_get (slice_set xs u x)) e ∙ get_set_past xs u x above))
        (ap or (ap (slice_get xs) e ∙ slice_get_past xs u above))

    which : (v ≡ u) ⊎ (v ≢ u) → SetRow (or None) x (or (slice_get xs v)) (or (slice_get (slice_set xs u x) v)) u v
    which (inl e) = within e (nat_lt u (length xs)) refl
    which (inr ne) = Other ne (ap or (get_set_other xs u v x ne))

pub set_known : (table : Table) (u : ℕ) (x : Known) (v : ℕ) → SetRow unknown x (known_in table v)
    (known_in (with_known u x table) v) u v
set_known table u x v = set_row or_unknown (λ y. refl) table.temporaries u x v

-- ---- words

further_place : (xs : List ℕ) (o : Option ℕ) (i : ℕ) → one_further o ≡ Some i → (j : ℕ) × (i ≡ suc j) × (o ≡ Some j)
further_place xs None i f = absurd (none-some i f)
further_place xs (Some j) i f = (j, sym (same_Some (suc j) i f), refl)

no_place : (o : Option ℕ) → one_further o ≡ Some 0 → ⊥
no_place None f = none-some 0 f
no_place (Some j) f = let e = same_Some (suc j) 0 f in omega (arith, e)

first_place : (xs : List ℕ) (x k : ℕ) → place_of (x ∷ xs) k ≡ Some 0 → x ≡ k
first_place xs x k f = which (nat_eq x k) refl f
  where
    which : (b : Bool) → nat_eq x k ≡ b → (if b then Some 0 else one_further (place_of xs k)) ≡ Some 0 → x ≡ k
    which true e f = eqb-true x k e
    which false e f = absurd (no_place (place_of xs k) f)

later_place : (xs : List ℕ) (x k i : ℕ) → place_of (x ∷ xs) k ≡ Some (suc i) → place_of xs k ≡ Some i
later_place xs x k i f = which (nat_eq x k) f
  where
    which : (b : Bool) → (if b then Some 0 else one_further (place_of xs k)) ≡ Some (suc i) → place_of xs k ≡ Some i
    which true f = let e = same_Some 0 (suc i) f in absurd (omega (arith, e))
    which false f =
        let x = further_place xs (place_of xs k) (suc i) f in
        let y = x.1 in
        x.2 ∙ ap Some (let e : x.0 ≡ i = omega (arith, y) in e)

-- a place is that of one word
one_word : (xs : List ℕ) (k j i : ℕ) → place_of xs k ≡ Some i → place_of xs j ≡ Some i → j ≡ k
one_word [] k j i f g = absurd (none-some i f)
one_word (x ∷ xs) k j zero f g = sym (first_place xs x j g) ∙ first_place xs x k f
one_word (x ∷ xs) k j (suc i) f g = one_word xs k j i (later_place xs x k i f) (later_place xs x j i g)

module _ (minded : List ℕ) where
  pub set_word : (table : Table) (k : ℕ) (w : Word) (j : ℕ) → SetRow unminded w (word_in minded table j)
      (word_in minded (with_word minded k w table) j) k j
  set_word table k w j = which (cases_eq j k) (place_of minded k) refl (place_of minded j) refl
    where
      from_row : (i : ℕ) → j ≡ k → SetRow unminded w (or_unminded (slice_get table.words i))
          (or_unminded (slice_get (slice_set table.words i w) i)) i i → SetRow unminded w
          (word_at_place table.words (Some i)) (word_at_place (slice_set table.words i w) (Some i)) k j
      from_row i e (Here _ f) = Here e f
      from_row i e (Past _ f g) = Past e f g
      from_row i e (Other ne f) = absurd (ne refl)

      which : (j ≡ k) ⊎ (j ≢ k) → (ok : Option ℕ) → place_of minded k ≡ ok → (oj : Option ℕ) → place_of minded j ≡ oj
          → SetRow unminded w (word_at_place table.words oj) (word_at_place (words_with table.words ok w) oj) k j
      which (inl e) None f None g = Past e refl refl
      which (inl e) None f (Some i) g = absurd (none-some i (sym f ∙ ap (place_of minded) (sym e) ∙ g))
      which (inl e) (Some i) f None g = absurd (none-some i (sym g ∙ ap (place_of minded) e ∙ f))
      which (inl e) (Some i) f (Some h) g =
          subst (λ h. SetRow unminded w (word_at_place table.words (Some h))
          (word_at_place (slice_set table.words i w) (Some h)) k j)
          (same_Some i h (sym f ∙ ap (place_of minded) (sym e) ∙ g))
          (from_row i e (set_row or_unminded (λ y. refl) table.words i w i))
      which (inr ne) None f oj g = Other ne refl
      which (inr ne) (Some i) f None g = Other ne refl
      which (inr ne) (Some i) f (Some h) g =
          Other ne (ap or_unminded (get_set_other table.words i h w
          (λ e. ne (one_word minded k j i f (g ∙ ap Some e)))))

  -- a word kept in mind has its row
  pub set_minded : (table : Table) (k : ℕ) (w : Word) (j : ℕ) → is_minded minded k table ≡ true → j ≡ k → word_in minded
      (with_word minded k w table) j ≡ w
  set_minded table k w j f e = ap (λ j. word_at_place (words_with table.words (place_of minded k) w)
      (place_of minded j)) e ∙ which (place_of minded k) f
    where
      which : (o : Option ℕ) → is_there table.words o ≡ true → word_at_place (words_with table.words o w) o ≡ w
      which None f = absurd (true≢false (sym f))
      which (Some i) f = let below : i < length table.words = grind arith in ap or_unminded
          (get_set_same table.words i w below)

-- ---- what is mapped

pub known_mapped : (t : ℕ) (xs : List Known) (u : ℕ) → or_unknown (slice_get (map (freed t) xs) u) ≡ freed t
    (or_unknown (slice_get xs u))
known_mapped t [] u = refl
known_mapped t (x ∷ xs) zero = refl
known_mapped t (x ∷ xs) (suc u) = known_mapped t xs u

row_mapped : (f : Word → Word) → f unminded ≡ unminded → (ws : List Word) (i : ℕ) → or_unminded (slice_get (map f ws) i)
    ≡ f (or_unminded (slice_get ws i))
row_mapped f e [] i = sym e
row_mapped f e (w ∷ ws) zero = refl
row_mapped f e (w ∷ ws) (suc i) = row_mapped f e ws i

pub word_mapped : (f : Word → Word) → f unminded ≡ unminded → (ws : List Word) (o : Option ℕ) → word_at_place
    (map f ws) o
    ≡ f (word_at_place ws o)
word_mapped f e ws None = sym e
word_mapped f e ws (Some i) = row_mapped f e ws i

pub freed_holder : (t : ℕ) (o : Option ℕ) (v : ℕ) → (if is_held_by t o then None else o) ≡ Some v → (v ≢ t) ×
    (o ≡ Some v)
freed_holder t None v f = absurd (none-some v f)
freed_holder t (Some w) v f = which (nat_eq w t) refl f
  where
    which : (b : Bool) → nat_eq w t ≡ b → (if b then None else Some w) ≡ Some v → (v ≢ t) × (Some w ≡ Some v)
    which true e f = absurd (none-some v f)
    which false e f =
        (λ x. true≢false (sym (eq-eqb w t (same_Some w v f ∙ x)) ∙ e), f)

-- the first offset of a frame is its own
pub at_first : (o : ℕ) → points_to (Within 0 1) o ≡ false → nat_eq o 0 ≡ false
at_first o f = false_from_ne_true (nat_eq o 0)
    (λ e. true≢false (sym (ap (points_to (Within 0 1)) (eqb-true o 0 e)) ∙ f))
