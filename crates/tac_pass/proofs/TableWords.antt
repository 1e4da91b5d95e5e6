-- A table is changed where a word is stored, kept, cleaned or fetched.
use Rattle.std.proofs.Common.{◌≡◌, ◌≢◌, ◌⊎◌, inl, inr, ℕ, Bool, true, false, List, Some, sym, ap, ◌∙◌, true≢false}
use Rattle.std.proofs.lemmas.Option.{none-some, same_Some}
use Rattle.tac_code.proofs.Impossible.{true_false}
use Rattle.tac_pass.specs.declared.table.Word.{Word}
use Rattle.tac_pass.specs.Rules.{Stored, Postponed, Kept, Cleans, Fetches}
use Rattle.tac_pass.specs.Tables.{Table, points_to, unminded, known_in, word_in, claim_in, free, with_word, is_minded}
use Rattle.tac_pass.specs.Tables.{store_both, store_old, keep_word, clean, fetch_word}
use Rattle.tac_pass.proofs.TableRows.{Here, Other, Past, SetRow, set_minded, set_word}
use Rattle.tac_pass.proofs.TableValues.{c, free_blank, free_holds, free_points, free_stale, free_word_holds}
use Rattle.tac_pass.proofs.TableValues.{free_word_points}

module _ (minded : List ℕ) (table : Table) where
  -- ---- words

  -- word k got what b holds, in a table whose other words claim no more than before
  module _ (b k : ℕ) (is_stale : Bool) where
    abbrev stored_word : Word
    stored_word = record { value = known_in table b; stale = is_stale; blank = false }

    abbrev stored_table : Table
    stored_table = with_word minded k stored_word table

    abbrev STORED : ℕ → Type 0
    STORED j = SetRow unminded stored_word (word_in minded table j) (word_in minded stored_table j) k j

    stored_at : (j : ℕ) → STORED j
    stored_at j = set_word minded table k stored_word j

    stored_holds : (j v : ℕ) → STORED j → (word_in minded stored_table j).value.holder ≡ Some v
        → ((j ≡ k) × ((c minded table).temporaries b ≡ Some v)) ⊎ ((j ≢ k) × ((c minded table).words j ≡ Some v))
    stored_holds j v (Here e f) h = inl (e, sym (ap (λ (w : Word). w.value.holder) f) ∙ h)
    stored_holds j v (Past e f _) h = absurd (none-some v (sym (ap (λ (w : Word). w.value.holder) f) ∙ h))
    stored_holds j v (Other ne f) h = inr (ne, sym (ap (λ (w : Word). w.value.holder) f) ∙ h)

    stored_blank : (j : ℕ) → STORED j → (word_in minded stored_table j).blank ≡ false → (j ≡ k) ⊎
        ((c minded table).blank j ≡ false)
    stored_blank j (Here e f) h = inl e
    stored_blank j (Past e f _) h = inl e
    stored_blank j (Other ne f) h = inr (sym (ap (λ (w : Word). w.blank) f) ∙ h)

    stored_points : (j o : ℕ) → STORED j → points_to (word_in minded stored_table j).value.reach o ≡ false
        → ((j ≡ k) × ((c minded table).points b o ≡ false)) ⊎ ((j ≢ k) × ((c minded table).word_points j o ≡ false))
    stored_points j o (Here e f) h = inl (e, sym (ap (λ (w : Word). points_to w.value.reach o) f) ∙ h)
    stored_points j o (Past e f _) h = true_false (sym (ap (λ (w : Word). points_to w.value.reach o) f) ∙ h)
    stored_points j o (Other ne f) h = inr (ne, sym (ap (λ (w : Word). points_to w.value.reach o) f) ∙ h)

  pub store_both_is : (b k : ℕ) → Stored b k (c minded table) (claim_in minded (store_both minded b k table))
  store_both_is b k = record {
    temporaries = λ u v h. h;
    words = λ j v h. stored_holds b k false j v (stored_at b k false j) h;
    stale = λ j h. fresh j (stored_at b k false j) h;
    blank = λ j h. stored_blank b k false j (stored_at b k false j) h;
    points = λ u o h. h;
    word_points = λ j o h. stored_points b k false j o (stored_at b k false j) h;
  }
    where
      fresh : (j : ℕ) → STORED b k false j → (word_in minded (stored_table b k false) j).stale ≡ false → (j ≡ k)
          ⊎ ((c minded table).stale j ≡ false)
      fresh j (Here e f) h = inl e
      fresh j (Past e f _) h = inl e
      fresh j (Other ne f) h = inr (sym (ap (λ (w : Word). w.stale) f) ∙ h)

  pub store_old_is : (b k : ℕ) → is_minded minded k table ≡ true → Postponed b k (c minded table)
      (claim_in minded (store_old minded b k table))
  store_old_is b k there = record {
    temporaries = λ u v h. h;
    words = λ j v h. stored_holds b k true j v (stored_at b k true j) h;
    stale = λ j h. fresh j (stored_at b k true j) h;
    blank = λ j h. stored_blank b k true j (stored_at b k true j) h;
    points = λ u o h. h;
    word_points = λ j o h. stored_points b k true j o (stored_at b k true j) h;
  }
    where
      not_here : (j : ℕ) → j ≡ k → (word_in minded (stored_table b k true) j).stale ≡ false → ⊥
      not_here j e h = true≢false (sym (ap (λ (w : Word). w.stale)
          (set_minded minded table k (stored_word b k true) j there e)) ∙ h)

      fresh : (j : ℕ) → STORED b k true j → (word_in minded (stored_table b k true) j).stale ≡ false → (j ≢ k)
          × ((c minded table).stale j ≡ false)
      fresh j (Here e f) h = absurd (not_here j e h)
      fresh j (Past e f _) h = absurd (not_here j e h)
      fresh j (Other ne f) h = (ne, sym (ap (λ (w : Word). w.stale) f) ∙ h)

  pub keep_word_is : (b k t' : ℕ) → is_minded minded k (free t' table) ≡ true → Kept b k t' (c minded table)
      (claim_in minded (keep_word minded b k t' table))
  keep_word_is b k t' there = record {
    temporaries = λ u v h. inr (free_holds minded table t' u v h);
    words = λ j v h. holds j v (at j) h;
    stale = λ j h. fresh j (at j) h;
    blank = λ j h. written j (at j) h;
    points = λ u o h. free_points minded table t' u o h;
    word_points = λ j o h. away j o (at j) h;
  }
    where
      w : Word
      w = record { value = record { holder = Some t'; reach = (known_in table b).reach }; stale = true; blank = false }

      now : Table
      now = keep_word minded b k t' table

      AT : ℕ → Type 0
      AT j = SetRow unminded w (word_in minded (free t' table) j) (word_in minded now j) k j

      at : (j : ℕ) → AT j
      at j = set_word minded (free t' table) k w j

      not_here : (j : ℕ) → j ≡ k → (word_in minded now j).stale ≡ false → ⊥
      not_here j e h = true≢false (sym (ap (λ (w : Word). w.stale) (set_minded minded (free t' table) k w j there e))
          ∙ h)

      holds : (j v : ℕ) → AT j → (word_in minded now j).value.holder ≡ Some v → ((j ≡ k) × (v ≡ t'))
          ⊎ ((j ≢ k) × (v ≢ t') × ((c minded table).words j ≡ Some v))
      holds j v (Here e f) h = inl (e, sym (same_Some t' v (sym (ap (λ (w : Word). w.value.holder) f) ∙ h)))
      holds j v (Past e f _) h = absurd (none-some v (sym (ap (λ (w : Word). w.value.holder) f) ∙ h))
      holds j v (Other ne f) h = let x = free_word_holds minded table t' j v
          (sym (ap (λ (w : Word). w.value.holder) f) ∙ h) in inr
          (ne, x.0, x.1)

      fresh : (j : ℕ) → AT j → (word_in minded now j).stale ≡ false → (j ≢ k) × ((c minded table).stale j ≡ false)
      fresh j (Here e f) h = absurd (not_here j e h)
      fresh j (Past e f _) h = absurd (not_here j e h)
      fresh j (Other ne f) h = (ne, free_stale minded table t' j (sym (ap (λ (w : Word). w.stale) f) ∙ h))

      written : (j : ℕ) → AT j → (word_in minded now j).blank ≡ false → (j ≡ k) ⊎ ((c minded table).blank j ≡ false)
      written j (Here e f) h = inl e
      written j (Past e f _) h = inl e
      written j (Other ne f) h = inr (free_blank minded table t' j (sym (ap (λ (w : Word). w.blank) f) ∙ h))

      away : (j o : ℕ) → AT j → points_to (word_in minded now j).value.reach o ≡ false
          → ((j ≡ k) × ((c minded table).points b o ≡ false)) ⊎ ((j ≢ k) × ((c minded table).word_points j o ≡ false))
      away j o (Here e f) h = inl (e, sym (ap (λ (w : Word). points_to w.value.reach o) f) ∙ h)
      away j o (Past e f _) h = true_false (sym (ap (λ (w : Word). points_to w.value.reach o) f) ∙ h)
      away j o (Other ne f) h = inr (
        ne,
        free_word_points minded table t' j o
            (sym (ap (λ (w : Word). points_to w.value.reach o) f) ∙ h),
      )

  -- ---- what is put in

  pub clean_is : (k t : ℕ) → (c minded table).words k ≡ Some t → (c minded table).blank k ≡ false → Cleans k t
      (c minded table)
      (claim_in minded (clean minded k table))
  clean_is k t held there = record {
    held = held;
    there = there;
    temporaries = λ u v h. h;
    words = λ j v h. holds j v (at j) h;
    stale = λ j h. fresh j (at j) h;
    blank = λ j h. written j (at j) h;
    points = λ u o h. h;
    word_points = λ j o h. away j o (at j) h;
  }
    where
      w : Word
      w = record (word_in minded table k) { stale = false }

      now : Table
      now = clean minded k table

      AT : ℕ → Type 0
      AT j = SetRow unminded w (word_in minded table j) (word_in minded now j) k j

      at : (j : ℕ) → AT j
      at j = set_word minded table k w j

      holds : (j v : ℕ) → AT j → (word_in minded now j).value.holder ≡ Some v → (c minded table).words j ≡ Some v
      holds j v (Here e f) h = ap (c minded table).words e ∙ sym (ap (λ (w : Word). w.value.holder) f) ∙ h
      holds j v (Past e f _) h = absurd (none-some v (sym (ap (λ (w : Word). w.value.holder) f) ∙ h))
      holds j v (Other ne f) h = sym (ap (λ (w : Word). w.value.holder) f) ∙ h

      fresh : (j : ℕ) → AT j → (word_in minded now j).stale ≡ false → (j ≡ k) ⊎ ((c minded table).stale j ≡ false)
      fresh j (Here e f) h = inl e
      fresh j (Past e f _) h = inl e
      fresh j (Other ne f) h = inr (sym (ap (λ (w : Word). w.stale) f) ∙ h)

      written : (j : ℕ) → AT j → (word_in minded now j).blank ≡ false → (c minded table).blank j ≡ false
      written j (Here e f) h = ap (c minded table).blank e ∙ sym (ap (λ (w : Word). w.blank) f) ∙ h
      written j (Past e f _) h = true_false (sym (ap (λ (w : Word). w.blank) f) ∙ h)
      written j (Other ne f) h = sym (ap (λ (w : Word). w.blank) f) ∙ h

      away : (j o : ℕ) → AT j → points_to (word_in minded now j).value.reach o ≡ false →
          (c minded table).word_points j o ≡ false
      away j o (Here e f) h = ap (λ j. (c minded table).word_points j o) e ∙ sym
          (ap (λ (w : Word). points_to w.value.reach o) f) ∙ h
      away j o (Past e f _) h = true_false (sym (ap (λ (w : Word). points_to w.value.reach o) f) ∙ h)
      away j o (Other ne f) h = sym (ap (λ (w : Word). points_to w.value.reach o) f) ∙ h

  pub fetch_word_is : (k t : ℕ) → (c minded table).stale k ≡ false → (c minded table).blank k ≡ false → Fetches k t
      (c minded table)
      (claim_in minded (fetch_word minded k t table))
  fetch_word_is k t was_fresh was_written = record {
    fresh = was_fresh;
    there = was_written;
    temporaries = λ u v h. free_holds minded table t u v h;
    words = λ j v h. holds j v (at j) h;
    stale = λ j h. fresh j (at j) h;
    blank = λ j h. written j (at j) h;
    points = λ u o h. free_points minded table t u o h;
    word_points = λ j o h. away j o (at j) h;
  }
    where
      w : Word
      w = record (word_in minded table k) {
        value = record {
          holder = Some t;
          reach = (word_in minded table k).value.reach;
        };
      }

      now : Table
      now = fetch_word minded k t table

      AT : ℕ → Type 0
      AT j = SetRow unminded w (word_in minded (free t table) j) (word_in minded now j) k j

      at : (j : ℕ) → AT j
      at j = set_word minded (free t table) k w j

      holds : (j v : ℕ) → AT j → (word_in minded now j).value.holder ≡ Some v → ((j ≡ k) × (v ≡ t))
          ⊎ ((v ≢ t) × ((c minded table).words j ≡ Some v))
      holds j v (Here e f) h = inl (e, sym (same_Some t v (sym (ap (λ (w : Word). w.value.holder) f) ∙ h)))
      holds j v (Past e f _) h = absurd (none-some v (sym (ap (λ (w : Word). w.value.holder) f) ∙ h))
      holds j v (Other ne f) h = inr (free_word_holds minded table t j v
          (sym (ap (λ (w : Word). w.value.holder) f) ∙ h))

      fresh : (j : ℕ) → AT j → (word_in minded now j).stale ≡ false → (c minded table).stale j ≡ false
      fresh j (Here e f) h = ap (c minded table).stale e ∙ was_fresh
      fresh j (Past e f _) h = ap (c minded table).stale e ∙ was_fresh
      fresh j (Other ne f) h = free_stale minded table t j (sym (ap (λ (w : Word). w.stale) f) ∙ h)

      written : (j : ℕ) → AT j → (word_in minded now j).blank ≡ false → (c minded table).blank j ≡ false
      written j (Here e f) h = ap (c minded table).blank e ∙ was_written
      written j (Past e f _) h = ap (c minded table).blank e ∙ was_written
      written j (Other ne f) h = free_blank minded table t j (sym (ap (λ (w : Word). w.blank) f) ∙ h)

      away : (j o : ℕ) → AT j → points_to (word_in minded now j).value.reach o ≡ false →
          (c minded table).word_points j o ≡ false
      away j o (Here e f) h = ap (λ j. (c minded table).word_points j o) e ∙ sym
          (ap (λ (w : Word). points_to w.value.reach o) f) ∙ h
      away j o (Past e f _) h = true_false (sym (ap (λ (w : Word). points_to w.value.reach o) f) ∙ h)
      away j o (Other ne f) h = free_word_points minded table t j o
          (sym (ap (λ (w : Word). points_to w.value.reach o) f) ∙ h)
