-- The list of the names that hide others.
use Rattle.std.proofs.Common.{◌≡◌, ℕ, suc, ◌+◌, ◌<◌, ◌≤◌, Bool, true, false, ◌||◌, List, [], ◌∷◌, ◌++◌, length, drop}
use Rattle.std.proofs.Common.{take, get_or, map, Option, Some, None, is_some, refl, sym, ap, ◌∙◌, arith, append_assoc}
use Rattle.std.proofs.Common.{true≢false}
use Rattle.std.specs.Prelude.{if◌then◌else◌}
use Rattle.std.specs.Cmp.Lexicographic.{same_text}
use Rattle.std.proofs.Math.Seq.{drop-cons, take-append_seam}
use Rattle.std.proofs.lemmas.List.{drop_all, append-nil}
use Rattle.std.proofs.lemmas.List.Folds.{list_any-append}
use Rattle.std.proofs.Math.Bool.{or-true}
use Rattle.ps_tree.proofs.NameLemmas.{has_place}
use Rattle.ps_check_judgement.specs.Judged.{Yes}
use Rattle.ps_check_names.specs.Spelling.{same, has, place}
use Rattle.ps_check_names.specs.Regions.{in_own}
use Rattle.ps_check_declarations.specs.Points.{add_name}
use Rattle.ps_check_declarations.specs.Denoters.{Hidden, passes}
use Rattle.ps_check_declarations.specs.Hiding.{hides, HasAll, Covers, hiding_within}

-- ---- what is in the list

or_false : (b : Bool) → b ≡ (b || false)
or_false true = refl
or_false false = refl

or_assoc : (a b c : Bool) → ((a || b) || c) ≡ (a || (b || c))
or_assoc true b c = refl
or_assoc false b c = refl

has_added : (hiding : List (List ℕ)) (x s : List ℕ) → has (add_name hiding x) s ≡ (has hiding s || same s x)
has_added hiding x s = by (has hiding x) refl
  where
    alike : (b : Bool) → same s x ≡ b → has hiding x ≡ true → has hiding s ≡ (has hiding s || b)
    alike true e there = ap (has hiding) (same_text s x (sym e)) ∙ there ∙ sym (or-true (has hiding s))
    alike false e there = or_false (has hiding s)

    by : (b : Bool) → has hiding x ≡ b → has (if b then hiding else hiding ++ x ∷ []) s ≡ (has hiding s || same s x)
    by true there = alike (same s x) refl there
    by false e = list_any-append (same s) hiding (x ∷ []) ∙ ap (λ b. has hiding s || b) (sym (or_false (same s x)))

has_within : (hiding names : List (List ℕ)) (s : List ℕ) → has (hiding_within hiding names) s
    ≡ (has hiding s || has names s)
unfolding hiding_within
has_within hiding [] s = or_false (has hiding s)
has_within hiding (x ∷ names) s = has_within (add_name hiding x) names s ∙ ap (λ b. b || has names s)
    (has_added hiding x s) ∙ or_assoc (has hiding s) (same s x) (has names s)

-- a list without regions
pub nothing_covered : (hiding : List (List ℕ)) → Covers hiding []
nothing_covered hiding = record { each = λ s h. absurd (true≢false (sym h)) }

-- in one more region
pub covers_one_more : (hiding names : List (List ℕ)) (hidden : Hidden) (defined : ℕ) → HasAll hiding names
    → Covers hiding
    hidden → Covers hiding ((names, defined) ∷ hidden)
covers_one_more hiding names hidden defined all covers = record {
  each = λ s h. by (has names s) (hides hidden s) (has hiding s) (all.each s) (covers.each s) h;
}
  where
    by : (a b c : Bool) → (a ≡ true → c ≡ true) → (b ≡ true → c ≡ true) → (a || b) ≡ true → c ≡ true
    by true b c f g h = f refl
    by false b c f g h = g h

-- a list to which names are added
pub has_entered : (hiding new names : List (List ℕ)) → new ≡ hiding_within hiding names → HasAll new names
has_entered hiding new names e = record {
  each = λ s h. ap (λ l. has l s) e ∙ has_within hiding names s ∙ ap (λ b. has hiding s || b) h ∙ or-true
      (has hiding s);
}

pub covers_entered : (hiding new names : List (List ℕ)) (hidden : Hidden) → new ≡ hiding_within hiding names → Covers
    hiding hidden → Covers new hidden
covers_entered hiding new names hidden e covers = record {
  each = λ s h. ap (λ l. has l s) e ∙ has_within hiding names s ∙ ap (λ b. b || has names s) (covers.each s h);
}

-- a list that is the same
pub covers_still : (hiding walked : List (List ℕ)) (hidden : Hidden) → walked ≡ hiding → Covers hiding hidden
    → Covers walked
    hidden
covers_still hiding walked hidden e covers = record { each = λ s h. ap (λ l. has l s) e ∙ covers.each s h }

pub has_still : (hiding walked names : List (List ℕ)) → walked ≡ hiding → HasAll hiding names → HasAll walked names
has_still hiding walked names e all = record { each = λ s h. ap (λ l. has l s) e ∙ all.each s h }

-- a single region
pub covers_first : (old new names : List (List ℕ)) (defined : ℕ) → new ≡ hiding_within old names → Covers new
    ((names, defined) ∷ [])
covers_first old new names defined e = covers_one_more new names [] defined (has_entered old new names e)
    (nothing_covered new)

-- ---- what is in none of the regions

not_hidden : (hidden : Hidden) (s : List ℕ) (at : ℕ) → hides hidden s ≡ false → passes hidden s at ≡ Yes tt
unfolding passes
not_hidden [] s at e = refl
not_hidden (own ∷ hidden) s at e = by (place own.0 s) (has own.0 s) (hides hidden s) (has_place own.0 s) e
    (not_hidden hidden s at)
  where
    by : (o : Option ℕ) (a c : Bool) → is_some o ≡ a → (a || c) ≡ false → (c ≡ false → passes hidden s at ≡ Yes tt)
        → in_own at own.1 o (passes hidden s at) ≡ Yes tt
    by o true c f e g = absurd (true≢false e)
    by None false c f e g = g e
    by (Some i) false c f e g = absurd (true≢false f)

-- a name that isn't in the list passes
pub uncovered_passes : (hiding : List (List ℕ)) (hidden : Hidden) (s : List ℕ) (at : ℕ) (b : Bool)
    → Covers hiding hidden
    → b ≡ has hiding s → b ≡ false → passes hidden s at ≡ Yes tt
uncovered_passes hiding hidden s at b covers is e = not_hidden hidden s at
    (by (hides hidden s) (has hiding s) (covers.each s) (sym is ∙ e))
  where
    by : (a b : Bool) → (a ≡ true → b ≡ true) → b ≡ false → a ≡ false
    by true b f e = absurd (true≢false (sym (f refl) ∙ e))
    by false b f e = refl

-- ---- behind a region

added_behind : (b : Bool) (hiding : List (List ℕ)) (x : List ℕ) → (more : List (List ℕ))
    × ((if b then hiding else hiding
    ++ x ∷ []) ≡ hiding ++ more)
added_behind true hiding x = ([], sym (append-nil hiding))
added_behind false hiding x = (x ∷ [], refl)

within_behind : (hiding names : List (List ℕ)) → (more : List (List ℕ)) × (hiding_within hiding names ≡ hiding ++ more)
unfolding hiding_within
within_behind hiding [] = ([], sym (append-nil hiding))
within_behind hiding (x ∷ names) =
    let a = added_behind (has hiding x) hiding x in
    let b = within_behind (add_name hiding x) names in
    (a.0 ++ b.0, b.1 ∙ ap (λ l. l ++ b.0) a.1 ∙ append_assoc hiding a.0 b.0)

-- the list is then as it was before
pub left_again : (hiding entered walked left names : List (List ℕ)) (count : ℕ) → count ≡ length hiding → entered
    ≡ hiding_within hiding names → walked ≡ entered → left ≡ take count walked → left ≡ hiding
left_again hiding entered walked left names count n e w l =
    let b = within_behind hiding names in
    l ∙ ap (λ k. take k walked) n ∙ ap (take (length hiding)) (w ∙ e ∙ b.1) ∙ take-append_seam hiding b.0

-- ---- the names of a region, one after the other

-- those from index i on are still to come
pub record Entering {A : Type 0} (name : A → List ℕ) (hiding : List (List ℕ)) (xs : List A) (i : ℕ)
    (now : List (List ℕ)) : Type 0 where
  pub rest : hiding_within hiding (map name xs) ≡ hiding_within now (map name (drop i xs))

pub entering_start : {A : Type 0} (name : A → List ℕ) (hiding : List (List ℕ)) (xs : List A) → Entering name hiding xs 0
    hiding
entering_start name hiding xs = record { rest = refl }

module _ {A : Type 0} (name : A → List ℕ) (hiding : List (List ℕ)) (xs : List A) (i : ℕ) (now : List (List ℕ)) where
  pub entering_next : (x : A) (new : List (List ℕ)) → i < length xs → x ≡ get_or xs i x → Entering name hiding xs i now
      → new ≡ add_name now (name x) → Entering name hiding xs (i + 1) new
  unfolding hiding_within
  entering_next x new lt at w e = record {
    rest =
        w.rest
        ∙ ap (λ l. hiding_within now (map name l)) (drop-cons xs i x lt)
        ∙ ap (λ y. hiding_within (add_name now (name y)) (map name (drop (suc i) xs))) (sym at)
        ∙ ap (λ l. hiding_within l (map name (drop (suc i) xs))) (sym e)
        ∙ (let n : suc i ≡ i + 1 = omega arith in ap (λ k. hiding_within new (map name (drop k xs))) n);
  }

  pub entering_end : length xs ≤ i → Entering name hiding xs i now → now ≡ hiding_within hiding (map name xs)
  unfolding hiding_within
  entering_end le w = sym (w.rest ∙ ap (λ l. hiding_within now (map name l)) (drop_all i xs le))
