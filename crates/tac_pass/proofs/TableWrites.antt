-- A table is changed where something is written behind a base, and where a routine is called.
use Rattle.std.proofs.Common.{◌≡◌, ◌≢◌, ◌⊎◌, inl, inr, ℕ, zero, suc, ◌+◌, ◌*◌, ◌<◌, Bool, true, false, not, ◌&&◌}
use Rattle.std.proofs.Common.{nat_eq, nat_lt, if◌then◌else◌, List, [], ◌∷◌, slice_get, Option, Some, None, refl, sym}
use Rattle.std.proofs.Common.{ap, ◌∙◌, arith, eqb-true, true≢false}
use Rattle.std.proofs.lemmas.Bool.{and_cases, and_right, false_from_ne_true, ltb-true, ltb-false, lt-ltb, and_parts}
use Rattle.std.proofs.lemmas.Option.{none-some}
use Rattle.tac_code.specs.declared.code.Base.{Base}
use Rattle.tac_code.specs.declared.code.Base.TheVariants as base
use Rattle.tac_code.proofs.Impossible.{true_false}
use Rattle.tac_pass.specs.declared.table.Reach.{Reach}
use Rattle.tac_pass.specs.declared.table.Reach.TheVariants.{Anywhere, Within}
use Rattle.tac_pass.specs.declared.table.Known.{Known}
use Rattle.tac_pass.specs.declared.table.Word.{Word}
use Rattle.tac_pass.specs.Rules.{base_points, Misses, Sees, Wrote, Called}
use Rattle.tac_pass.specs.Tables.{Table, points_to, nowhere, unknown, unminded, or_unminded, one_further, place_of}
use Rattle.tac_pass.specs.Tables.{word_at_place, known_in, word_in, claim_in, free, give, base_reach, may_hit, sees_all}
use Rattle.tac_pass.specs.Tables.{is_seen, hit, hit_all, write, are_fresh, called_word, call}
use Rattle.tac_pass.proofs.TableRows.{Here, Other, Past, SetRow, at_first, word_mapped}
use Rattle.tac_pass.proofs.TableValues.{c, free_blank, free_points, given_holds, new_one, set_here}

module _ (minded : List ℕ) (table : Table) where
  -- ---- what lies behind a base

  pub base_is : (r : ℕ) (b : Base) (o : ℕ) → points_to (base_reach r b table) o ≡ false → base_points r
      (c minded table) b o ≡ false
  base_is r base.Frame o f = at_first o f
  base_is r base.Scratch o f = refl
  base_is r base.Program o f = which (nat_eq r 0) f
    where
      which : (b : Bool) → points_to (if b then Within 0 1 else nowhere) o ≡ false → (b && nat_eq o 0) ≡ false
      which true f = at_first o f
      which false f = refl
  base_is r (base.Temporary u) o f = f

  -- none of it is part of a word that it can't hit
  pub missed : (r : ℕ) (b : Base) (n k : ℕ) → may_hit (base_reach r b table) n k ≡ false → Misses r
      (c minded table) b n k
  missed r b n k f o e = base_is r b o (not_there (base_reach r b table) f)
    where
      not_there : (reach : Reach) → may_hit reach n k ≡ false → points_to reach o ≡ false
      not_there Anywhere f = true_false f
      not_there (Within low high) f = which (and_cases (nat_lt (low + n) (4 * k + 4)) (nat_lt (4 * k) (high + n)) f)
        where
          which : (nat_lt (low + n) (4 * k + 4) ≡ false) ⊎ (nat_lt (4 * k) (high + n) ≡ false)
              → (not (nat_lt o low) && nat_lt o high) ≡ false
          which (inl g) =
              let l = ltb-false (low + n) (4 * k + 4) g in
              let below : o < low = omega (arith, l, e) in ap (λ b. not b && nat_lt o high) (lt-ltb o low below)
          which (inr g) =
              let l = ltb-false (4 * k) (high + n) g in
              let above : o < high → ⊥ = λ x. omega (arith, l, e, x) in and_right (not (nat_lt o low)) (nat_lt o high)
              (false_from_ne_true (nat_lt o high) (λ x. above (ltb-true o high x)))

  seen_rows : (reach : Reach) (n : ℕ) (ks : List ℕ) (ws : List Word) (k : ℕ) → sees_all reach n ks ws ≡ true
      → may_hit reach n k ≡ true → (word_at_place ws (place_of ks k)).stale ≡ false
  seen_rows reach n [] ws k f hits = refl
  seen_rows reach n (x ∷ ks) [] k f hits = nothing_there (if nat_eq x k then Some 0 else one_further (place_of ks k))
    where
      nothing_there : (o : Option ℕ) → (word_at_place [] o).stale ≡ false
      nothing_there None = refl
      nothing_there (Some i) = refl
  seen_rows reach n (x ∷ ks) (w ∷ ws) k f hits = which
      (seen_rows reach n ks ws k (and_parts (not (may_hit reach n x && w.stale)) (sees_all reach n ks ws) f).1 hits)
      (nat_eq x k) refl
    where
      later : (o : Option ℕ) → (word_at_place ws o).stale ≡ false → (word_at_place (w ∷ ws) (one_further o)).stale
          ≡ false
      later None g = refl
      later (Some i) g = g

      first : (b : Bool) → not (true && b) ≡ true → b ≡ false
      first true g = absurd (true≢false (sym g))
      first false g = refl

      which : (word_at_place ws (place_of ks k)).stale ≡ false → (b : Bool) → nat_eq x k ≡ b
          → (word_at_place (w ∷ ws) (if b then Some 0 else one_further (place_of ks k))).stale ≡ false
      which again true e =
          first w.stale (ap (λ b. not (b && w.stale)) (sym (ap (may_hit reach n) (eqb-true x k e) ∙ hits))
          ∙ (and_parts (not (may_hit reach n x && w.stale)) (sees_all reach n ks ws) f).0)
      which again false e = later (place_of ks k) again

  pub seen : (r : ℕ) (b : Base) (n : ℕ) → is_seen minded (base_reach r b table) n table ≡ true → Sees r
      (c minded table) b n
  seen r b n f k = which (may_hit (base_reach r b table) n k) refl
    where
      which : (x : Bool) → may_hit (base_reach r b table) n k ≡ x → Misses r (c minded table) b n k ⊎
          ((c minded table).stale k ≡ false)
      which true e = inr (seen_rows (base_reach r b table) n minded table.words k f e)
      which false e = inl (missed r b n k e)

  hit_rows : (reach : Reach) (n : ℕ) (ks : List ℕ) (ws : List Word) (k : ℕ) → word_at_place (hit_all reach n ks ws)
      (place_of ks k) ≡ hit (may_hit reach n k) (word_at_place ws (place_of ks k))
  hit_rows reach n [] ws k = none_hit (may_hit reach n k)
    where
      none_hit : (b : Bool) → unminded ≡ hit b unminded
      none_hit true = refl
      none_hit false = refl
  hit_rows reach n (x ∷ ks) [] k = none_there (if nat_eq x k then Some 0 else one_further (place_of ks k))
      (may_hit reach n k)
    where
      none_there : (o : Option ℕ) (b : Bool) → word_at_place [] o ≡ hit b (word_at_place [] o)
      none_there None true = refl
      none_there None false = refl
      none_there (Some i) true = refl
      none_there (Some i) false = refl
  hit_rows reach n (x ∷ ks) (w ∷ ws) k = which (hit_rows reach n ks ws k) (nat_eq x k) refl
    where
      later : (o : Option ℕ) (b : Bool) → word_at_place (hit_all reach n ks ws) o ≡ hit b (word_at_place ws o)
          → word_at_place (hit (may_hit reach n x) w ∷ hit_all reach n ks ws) (one_further o) ≡ hit b
          (word_at_place (w ∷ ws) (one_further o))
      later None true g = refl
      later None false g = refl
      later (Some i) b g = g

      which : word_at_place (hit_all reach n ks ws) (place_of ks k) ≡ hit (may_hit reach n k)
          (word_at_place ws (place_of ks k)) → (b : Bool) → nat_eq x k ≡ b
          → word_at_place (hit (may_hit reach n x) w ∷ hit_all reach n ks ws)
          (if b then Some 0 else one_further (place_of ks k)) ≡ hit (may_hit reach n k)
          (word_at_place (w ∷ ws) (if b then Some 0 else one_further (place_of ks k)))
      which again true e = ap (λ k. hit (may_hit reach n k) w) (eqb-true x k e)
      which again false e = later (place_of ks k) (may_hit reach n k) again

  pub write_is : (r : ℕ) (b : Base) (n : ℕ) (Away : ℕ → Type 0) → Wrote r b n Away (c minded table)
      (claim_in minded (write minded (base_reach r b table) n table))
  write_is r b n Away = record {
    temporaries = λ u v h. h;
    words = λ k v h. holds k v (may_hit reach n k) refl (sym (ap (λ (w : Word). w.value.holder) (at k)) ∙ h);
    stale = λ k h. fresh k (may_hit reach n k) (sym (ap (λ (w : Word). w.stale) (at k)) ∙ h);
    blank = λ k h. written k (may_hit reach n k) (sym (ap (λ (w : Word). w.blank) (at k)) ∙ h);
    points = λ u o h. h;
    word_points = λ k o h. away k o (may_hit reach n k) refl
        (sym (ap (λ (w : Word). points_to w.value.reach o) (at k)) ∙ h);
  }
    where
      reach : Reach
      reach = base_reach r b table

      at : (k : ℕ) → word_in minded (write minded reach n table) k ≡ hit (may_hit reach n k) (word_in minded table k)
      at k = hit_rows reach n minded table.words k

      holds : (k v : ℕ) (x : Bool) → may_hit reach n k ≡ x → (hit x (word_in minded table k)).value.holder ≡ Some v
          → Misses r (c minded table) b n k × ((c minded table).words k ≡ Some v)
      holds k v true e h = absurd (none-some v h)
      holds k v false e h = (missed r b n k e, h)

      fresh : (k : ℕ) (x : Bool) → (hit x (word_in minded table k)).stale ≡ false → (c minded table).stale k ≡ false
      fresh k true h = h
      fresh k false h = h

      written : (k : ℕ) (x : Bool) → (hit x (word_in minded table k)).blank ≡ false → (c minded table).blank k ≡ false
      written k true h = h
      written k false h = h

      away : (k o : ℕ) (x : Bool) → may_hit reach n k ≡ x → points_to (hit x (word_in minded table k)).value.reach o
          ≡ false → (Misses r (c minded table) b n k ⊎ Away o) × ((c minded table).word_points k o ≡ false)
      away k o true e h = true_false h
      away k o false e h = (inl (missed r b n k e), h)

  -- ---- calls

  fresh_rows : (ws : List Word) (i : ℕ) → are_fresh ws ≡ true → (or_unminded (slice_get ws i)).stale ≡ false
  fresh_rows [] i f = refl
  fresh_rows (w ∷ ws) zero f = which w.stale (and_parts (not w.stale) (are_fresh ws) f).0
    where
      which : (b : Bool) → not b ≡ true → b ≡ false
      which true g = absurd (true≢false (sym g))
      which false g = refl
  fresh_rows (w ∷ ws) (suc i) f = fresh_rows ws i (and_parts (not w.stale) (are_fresh ws) f).1

  all_fresh : (o : Option ℕ) → are_fresh table.words ≡ true → (word_at_place table.words o).stale ≡ false
  all_fresh None f = refl
  all_fresh (Some i) f = fresh_rows table.words i f

  pub call_is : (t t' : ℕ) → are_fresh table.words ≡ true → Called t t' (c minded table)
      (claim_in minded (call t t' table))
  call_is t t' f = record {
    fresh = λ k. all_fresh (place_of minded k) f;
    temporaries = λ u v h. given_holds minded table t t' Anywhere u v (set_here minded table t t' Anywhere u) h;
    words = λ k v h. none-some v (sym (ap (λ (w : Word). w.value.holder) (at k)) ∙ h);
    blank = λ k h. free_blank minded table t' k (sym (ap (λ (w : Word). w.blank) (at k)) ∙ h);
    points = λ u o h. away u o (set_here minded table t t' Anywhere u) h;
    word_points = λ k o h. true≢false (sym (ap (λ (w : Word). points_to w.value.reach o) (at k)) ∙ h);
  }
    where
      at : (k : ℕ) → word_in minded (call t t' table) k ≡ called_word (word_in minded (give t t' Anywhere table) k)
      at k = word_mapped (called_word) refl (give t t' Anywhere table).words (place_of minded k)

      away : (u o : ℕ) → SetRow unknown (new_one minded table t t' Anywhere) (known_in (free t' table) u)
          (known_in (give t t' Anywhere table) u) t u → points_to (known_in (give t t' Anywhere table) u).reach o
          ≡ false → (u ≢ t) × ((c minded table).points u o ≡ false)
      away u o (Here e f) h = true_false (sym (ap (λ (x : Known). points_to x.reach o) f) ∙ h)
      away u o (Past e f _) h = true_false (sym (ap (λ (x : Known). points_to x.reach o) f) ∙ h)
      away u o (Other ne f) h = (
        ne,
        free_points minded table t' u o
            (sym (ap (λ (x : Known). points_to x.reach o) f) ∙ h),
      )
