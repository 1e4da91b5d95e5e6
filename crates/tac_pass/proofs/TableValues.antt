-- A table is changed where a value is given, spared or found.
use Rattle.std.proofs.Common.{◌≡◌, ◌≢◌, ◌⊎◌, inl, inr, ℕ, false, List, Option, Some, None, refl, sym, ap, ◌∙◌}
use Rattle.std.proofs.lemmas.Option.{none-some, same_Some}
use Rattle.tac_code.proofs.Impossible.{true_false}
use Rattle.tac_pass.specs.declared.table.Reach.{Reach}
use Rattle.tac_pass.specs.declared.table.Known.{Known}
use Rattle.tac_pass.specs.declared.table.Word.{Word}
use Rattle.tac_pass.specs.Claims.{Claim}
use Rattle.tac_pass.specs.Rules.{Found, Gave, Spared, None_of_them, As_word}
use Rattle.tac_pass.specs.Tables.{Table, points_to, nowhere, unknown, unminded, place_of, known_in, word_in, claim_in}
use Rattle.tac_pass.specs.Tables.{freed, freed_word, free, give, held_or, held_word, give_word, spare, find}
use Rattle.tac_pass.proofs.TableRows.{Here, Other, Past, SetRow, freed_holder, known_mapped, set_known}
use Rattle.tac_pass.proofs.TableRows.{set_word, word_mapped}

-- ---- the rules

module _ (minded : List ℕ) (table : Table) where
  abbrev pub c : Claim
  c = claim_in minded table

  known_free : (t u : ℕ) → known_in (free t table) u ≡ freed t (known_in table u)
  known_free t u = known_mapped t table.temporaries u

  word_free : (t k : ℕ) → word_in minded (free t table) k ≡ freed_word t (word_in minded table k)
  word_free t k = word_mapped (freed_word t) refl table.words (place_of minded k)

  pub free_holds : (t u v : ℕ) → (known_in (free t table) u).holder ≡ Some v → (v ≢ t) × (c.temporaries u ≡ Some v)
  free_holds t u v f = freed_holder t (known_in table u).holder v
      (sym (ap (λ (x : Known). x.holder) (known_free t u)) ∙ f)

  pub free_word_holds : (t k v : ℕ) → (word_in minded (free t table) k).value.holder ≡ Some v → (v ≢ t)
      × (c.words k ≡ Some v)
  free_word_holds t k v f = freed_holder t (word_in minded table k).value.holder v
      (sym (ap (λ (w : Word). w.value.holder) (word_free t k)) ∙ f)

  pub free_points : (t u o : ℕ) → points_to (known_in (free t table) u).reach o ≡ false → c.points u o ≡ false
  free_points t u o f = sym (ap (λ (x : Known). points_to x.reach o) (known_free t u)) ∙ f

  pub free_stale : (t k : ℕ) → (word_in minded (free t table) k).stale ≡ false → c.stale k ≡ false
  free_stale t k f = sym (ap (λ (w : Word). w.stale) (word_free t k)) ∙ f

  pub free_blank : (t k : ℕ) → (word_in minded (free t table) k).blank ≡ false → c.blank k ≡ false
  free_blank t k f = sym (ap (λ (w : Word). w.blank) (word_free t k)) ∙ f

  pub free_word_points : (t k o : ℕ) → points_to (word_in minded (free t table) k).value.reach o ≡ false
      → c.word_points k o
      ≡ false
  free_word_points t k o f = sym (ap (λ (w : Word). points_to w.value.reach o) (word_free t k)) ∙ f

  -- ---- values

  module _ (t t' : ℕ) (reach : Reach) where
    abbrev pub new_one : Known
    new_one = record { holder = Some t'; reach = reach }

    pub given_holds : (u v : ℕ) → SetRow unknown new_one (known_in (free t' table) u)
        (known_in (give t t' reach table) u) t u → (known_in (give t t' reach table) u).holder ≡ Some v
        → ((u ≡ t) × (v ≡ t')) ⊎ ((u ≢ t) × (v ≢ t') × (c.temporaries u ≡ Some v))
    given_holds u v (Here e f) h = inl (e, sym (same_Some t' v (sym (ap (λ (x : Known). x.holder) f) ∙ h)))
    given_holds u v (Past e f _) h = absurd (none-some v (sym (ap (λ (x : Known). x.holder) f) ∙ h))
    given_holds u v (Other ne f) h =
        let x = free_holds t' u v (sym (ap (λ (x : Known). x.holder) f) ∙ h) in inr (ne, x.0, x.1)

    given_points : (Away : ℕ → Type 0) → ((o : ℕ) → points_to reach o ≡ false → Away o) → (u o : ℕ)
        → SetRow unknown new_one (known_in (free t' table) u) (known_in (give t t' reach table) u) t u → points_to
        (known_in (give t t' reach table) u).reach o ≡ false
        → ((u ≡ t) × Away o) ⊎ ((u ≢ t) × (c.points u o ≡ false))
    given_points Away away u o (Here e f) h = inl (e, away o (sym (ap (λ (x : Known). points_to x.reach o) f) ∙ h))
    given_points Away away u o (Past e f _) h = true_false (sym (ap (λ (x : Known). points_to x.reach o) f) ∙ h)
    given_points Away away u o (Other ne f) h = inr
        (ne, free_points t' u o (sym (ap (λ (x : Known). points_to x.reach o) f) ∙ h))

    pub set_here : (u : ℕ) → SetRow unknown new_one (known_in (free t' table) u)
        (known_in (give t t' reach table) u) t u
    set_here u = set_known (free t' table) t new_one u

    pub give_is : (Away : ℕ → Type 0) → ((o : ℕ) → points_to reach o ≡ false → Away o) → Gave t t' None_of_them Away c
        (claim_in minded (give t t' reach table))
    give_is Away away = record {
      temporaries = λ u v h. given_holds u v (set_here u) h;
      words = λ k v h. inr (free_word_holds t' k v h);
      stale = λ k h. free_stale t' k h;
      blank = λ k h. free_blank t' k h;
      points = λ u o h. given_points Away away u o (set_here u) h;
      word_points = λ k o h. free_word_points t' k o h;
    }

  pub give_word_is : (t t' k : ℕ) → Gave t t' (λ j. j ≡ k) (As_word c k) c
      (claim_in minded (give_word minded t t' k table))
  give_word_is t t' k = record {
    temporaries = λ u v h. given_holds t t' w.value.reach u v (set_here t t' w.value.reach u) h;
    words = λ j v h. holds j v (at j) h;
    stale = λ j h. fresh j (at j) h;
    blank = λ j h. there j (at j) h;
    points = λ u o h. given_points t t' w.value.reach (As_word c k) (λ o f. f) u o (set_here t t' w.value.reach u) h;
    word_points = λ j o h. away j o (at j) h;
  }
    where
      w : Word
      w = word_in minded table k

      given : Table
      given = give t t' w.value.reach table

      g : Word
      g = word_in minded given k

      new_word : Word
      new_word = held_word t' g

      AT : ℕ → Type 0
      AT j = SetRow unminded new_word (word_in minded given j) (word_in minded (give_word minded t t' k table) j) k j

      at : (j : ℕ) → AT j
      at j = set_word minded given k new_word j

      held : (o : Option ℕ) → g.value.holder ≡ o → (j v : ℕ) → j ≡ k → held_or o t' ≡ Some v → ((j ≡ k) × (v ≡ t'))
          ⊎ ((v ≢ t') × (c.words j ≡ Some v))
      held None f j v e h = inl (e, sym (same_Some t' v h))
      held (Some x) f j v e h = inr (free_word_holds t' j v
          (ap (λ j. (word_in minded given j).value.holder) e ∙ (f ∙ h)))

      holds : (j v : ℕ) → AT j → (word_in minded (give_word minded t t' k table) j).value.holder ≡ Some v
          → ((j ≡ k) × (v ≡ t')) ⊎ ((v ≢ t') × (c.words j ≡ Some v))
      holds j v (Here e f) h = held g.value.holder refl j v e (sym (ap (λ (w : Word). w.value.holder) f) ∙ h)
      holds j v (Past e f _) h = absurd (none-some v (sym (ap (λ (w : Word). w.value.holder) f) ∙ h))
      holds j v (Other ne f) h = inr (free_word_holds t' j v (sym (ap (λ (w : Word). w.value.holder) f) ∙ h))

      fresh : (j : ℕ) → AT j → (word_in minded (give_word minded t t' k table) j).stale ≡ false → c.stale j ≡ false
      fresh j (Here e f) h = free_stale t' j (ap (λ j. (word_in minded given j).stale) e
          ∙ (sym (ap (λ (w : Word). w.stale) f) ∙ h))
      fresh j (Past e f g) h = free_stale t' j (ap (λ (w : Word). w.stale) g)
      fresh j (Other ne f) h = free_stale t' j (sym (ap (λ (w : Word). w.stale) f) ∙ h)

      there : (j : ℕ) → AT j → (word_in minded (give_word minded t t' k table) j).blank ≡ false → c.blank j ≡ false
      there j (Here e f) h = free_blank t' j (ap (λ j. (word_in minded given j).blank) e
          ∙ (sym (ap (λ (w : Word). w.blank) f) ∙ h))
      there j (Past e f _) h = true_false (sym (ap (λ (w : Word). w.blank) f) ∙ h)
      there j (Other ne f) h = free_blank t' j (sym (ap (λ (w : Word). w.blank) f) ∙ h)

      away : (j o : ℕ) → AT j → points_to (word_in minded (give_word minded t t' k table) j).value.reach o ≡ false
          → c.word_points j o ≡ false
      away j o (Here e f) h = free_word_points t' j o
          (ap (λ j. points_to (word_in minded given j).value.reach o) e
          ∙ (sym (ap (λ (w : Word). points_to w.value.reach o) f) ∙ h))
      away j o (Past e f _) h = true_false (sym (ap (λ (w : Word). points_to w.value.reach o) f) ∙ h)
      away j o (Other ne f) h = free_word_points t' j o (sym (ap (λ (w : Word). points_to w.value.reach o) f) ∙ h)

  -- only the old temporary was given a value
  module _ (t : ℕ) (x : Known) where
    abbrev SPARED : ℕ → Type 0
    SPARED u = SetRow unknown x (known_in table u) (known_in (spare t x table) u) t u

    spared_holds : (By : ℕ → Type 0) → ((v : ℕ) → x.holder ≡ Some v → By v) → (u v : ℕ) → SPARED u
        → (known_in (spare t x table) u).holder ≡ Some v → ((u ≡ t) × By v) ⊎ ((u ≢ t) × (c.temporaries u ≡ Some v))
    spared_holds By by u v (Here e f) h = inl (e, by v (sym (ap (λ (x : Known). x.holder) f) ∙ h))
    spared_holds By by u v (Past e f _) h = absurd (none-some v (sym (ap (λ (x : Known). x.holder) f) ∙ h))
    spared_holds By by u v (Other ne f) h = inr (ne, sym (ap (λ (x : Known). x.holder) f) ∙ h)

    spared_points : (Away : ℕ → Type 0) → ((o : ℕ) → points_to x.reach o ≡ false → Away o) → (u o : ℕ) → SPARED u
        → points_to (known_in (spare t x table) u).reach o ≡ false → ((u ≡ t) × Away o)
        ⊎ ((u ≢ t) × (c.points u o ≡ false))
    spared_points Away away u o (Here e f) h = inl (e, away o (sym (ap (λ (x : Known). points_to x.reach o) f) ∙ h))
    spared_points Away away u o (Past e f _) h = true_false (sym (ap (λ (x : Known). points_to x.reach o) f) ∙ h)
    spared_points Away away u o (Other ne f) h = inr (ne, sym (ap (λ (x : Known). points_to x.reach o) f) ∙ h)

    pub spare_is : (By Away : ℕ → Type 0) → ((v : ℕ) → x.holder ≡ Some v → By v)
        → ((o : ℕ) → points_to x.reach o ≡ false → Away o) → Spared t By Away c (claim_in minded (spare t x table))
    spare_is By Away by away = record {
      temporaries = λ u v h. spared_holds By by u v (set_known table t x u) h;
      words = λ k v h. h;
      stale = λ k h. h;
      blank = λ k h. h;
      points = λ u o h. spared_points Away away u o (set_known table t x u) h;
      word_points = λ k o h. h;
    }

  -- a pointer to an object
  pub find_is : (a : ℕ) → Found a c (claim_in minded (find a table))
  find_is a = record {
    temporaries = λ u v h. holds u v (set_known table a x u) h;
    words = λ k v h. h;
    stale = λ k h. h;
    blank = λ k h. h;
    points = λ u o h. away u o (set_known table a x u) h;
    word_points = λ k o h. h;
  }
    where
      x : Known
      x = record { holder = (known_in table a).holder; reach = nowhere }

      AT : ℕ → Type 0
      AT u = SetRow unknown x (known_in table u) (known_in (find a table) u) a u

      holds : (u v : ℕ) → AT u → (known_in (find a table) u).holder ≡ Some v → c.temporaries u ≡ Some v
      holds u v (Here e f) h = ap c.temporaries e ∙ sym (ap (λ (x : Known). x.holder) f) ∙ h
      holds u v (Past e f _) h = absurd (none-some v (sym (ap (λ (x : Known). x.holder) f) ∙ h))
      holds u v (Other ne f) h = sym (ap (λ (x : Known). x.holder) f) ∙ h

      away : (u o : ℕ) → AT u → points_to (known_in (find a table) u).reach o ≡ false → (u ≡ a) ⊎ (c.points u o ≡ false)
      away u o (Here e f) h = inl e
      away u o (Past e f _) h = inl e
      away u o (Other ne f) h = inr (sym (ap (λ (x : Known). points_to x.reach o) f) ∙ h)
