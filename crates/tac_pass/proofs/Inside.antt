-- What is claimed of the innermost activations stays true by each rule.
use Rattle.std.proofs.Common.{◌≡◌, ◌≢◌, ◌⊎◌, inl, inr, ℕ, ◌<◌, Bool, false, length, slice_get, slice_set, Some, None}
use Rattle.std.proofs.Common.{sym, ap, ◌∙◌, subst}
use Rattle.std.proofs.lemmas.Bool.{cases_eq}
use Rattle.std.proofs.lemmas.Option.{none-some, same_Some}
use Rattle.tac_code.specs.declared.code.Block.TheVariants.{Frame}
use Rattle.tac_code.specs.declared.code.Base.{Base}
use Rattle.tac_code.specs.declared.code.Value.{Value}
use Rattle.tac_code.specs.declared.code.Value.TheVariants.{Address}
use Rattle.tac_code.specs.Memory.{Words, known}
use Rattle.tac_code.specs.Meaning.{Temporaries, put}
use Rattle.tac_code.proofs.Items.{set_length}
use Rattle.tac_code_steps.proofs.Temporaries.{put_same, put_other}
use Rattle.tac_pass.specs.Moved.{Places, moved, moved_word}
use Rattle.tac_pass.specs.Claims.{Claim}
use Rattle.tac_pass.specs.Alike.{Inside}
use Rattle.tac_pass.specs.Rules.{Holds, Misses, Forgets, Found, Gave, Spared, Stored, Postponed, Kept, Wrote, Cleans}
use Rattle.tac_pass.specs.Rules.{Fetches}
use Rattle.tac_pass.proofs.Words.{get_set_same, get_set_other}

abbrev pub with_set : Words → ℕ → Value → Words
with_set words k v = slice_set words k (Some v)

pub set_here : (words : Words) (k : ℕ) (v : Value) → k < length words → (j : ℕ) → j ≡ k → known
    (slice_get (with_set words k v) j) ≡ Some v
set_here words k v below j x = ap known (ap (slice_get (with_set words k v)) x ∙ get_set_same words k (Some v) below)

pub set_there : (words : Words) (k : ℕ) (v : Value) (j : ℕ) → j ≢ k → known (slice_get (with_set words k v) j) ≡ known
    (slice_get words j)
set_there words k v j ne = ap known (get_set_other words k j (Some v) ne)

-- what is known of a value that is given or stored: it is no address of these offsets of a frame
abbrev pub NotThere : ℕ → (ℕ → Type 0) → Value → Type 0
NotThere number Away v = (o : ℕ) → Away o → v ≢ Address (Frame number) o

module _ (at : Places) (number : ℕ) where
  -- ---- a temporary is written

  pub holds_here : (old new : Temporaries) (t t' u w : ℕ) (v v' : Value) → v' ≡ moved at v → u ≡ t → w ≡ t'
      → put new t' v' w ≡ moved_word at (put old t v u)
  holds_here old new t t' u w v v' is x y =
      ap (put new t' v') y ∙ put_same new t' v' ∙ ap Some is
      ∙ sym (ap (moved_word at) (ap (put old t v) x ∙ put_same old t v))

  put_away : (old : Temporaries) (t u o : ℕ) (v : Value) (Away : ℕ → Type 0) (points : ℕ → ℕ → Bool)
      → NotThere number Away v → ((u o : ℕ) → points u o ≡ false → old u ≢ Some (Address (Frame number) o))
      → ((u ≡ t) × Away o) ⊎ ((u ≢ t) × (points u o ≡ false)) → put old t v u ≢ Some (Address (Frame number) o)
  put_away old t u o v Away points not away (inl x) is =
      not o x.1 (same_Some v (Address (Frame number) o) (sym (ap (put old t v) x.0 ∙ put_same old t v) ∙ is))
  put_away old t u o v Away points not away (inr x) is = away u o x.1 (sym (put_other old t v u x.0) ∙ is)

  module _ {c : Claim} {old new : Temporaries} {words words' : Words}
      (a : Inside at c number old new words words') where
    pub inside_forgot : {c' : Claim} → Forgets c c' → Inside at c' number old new words words'
    inside_forgot {c'} f = record {
      hold = λ u t h. a.hold u t (f.temporaries u t h);
      held = λ k t h. a.held k t (f.words k t h);
      size = a.size;
      agree = λ k h. a.agree k (f.stale k h);
      written = λ k h. a.written k (f.blank k h);
      away = λ u o h. a.away u o (f.points u o h);
      word_away = λ k o h. a.word_away k o (f.word_points k o h);
    }

    pub inside_found : {c' : Claim} (t : ℕ) → ((o : ℕ) → old t ≢ Some (Address (Frame number) o)) → Found t c c'
        → Inside at c' number old new words words'
    inside_found {c'} t not f = record {
      hold = λ u t h. a.hold u t (f.temporaries u t h);
      held = λ k t h. a.held k t (f.words k t h);
      size = a.size;
      agree = λ k h. a.agree k (f.stale k h);
      written = λ k h. a.written k (f.blank k h);
      away = λ u o h. which u o (f.points u o h);
      word_away = λ k o h. a.word_away k o (f.word_points k o h);
    }
      where
        which : (u o : ℕ) → (u ≡ t) ⊎ (c.points u o ≡ false) → old u ≢ Some (Address (Frame number) o)
        which u o (inl x) is = not o (sym (ap old x) ∙ is)
        which u o (inr x) is = a.away u o x is

    pub inside_gave : {c' : Claim} (t t' : ℕ) (Word Away : ℕ → Type 0) (v v' : Value) → v' ≡ moved at v
        → ((k : ℕ) → Word k → known (slice_get words k) ≡ Some v) → NotThere number Away v → Gave t t' Word Away c c'
        → Inside at c' number (put old t v) (put new t' v') words words'
    inside_gave {c'} t t' Word Away v v' is word not f = record {
      hold = λ u w h. which u w (f.temporaries u w h);
      held = λ k w h. which_word k w (f.words k w h);
      size = a.size;
      agree = λ k h. a.agree k (f.stale k h);
      written = λ k h. a.written k (f.blank k h);
      away = λ u o h. put_away old t u o v Away c.points not a.away (f.points u o h);
      word_away = λ k o h. a.word_away k o (f.word_points k o h);
    }
      where
        which : (u w : ℕ) → ((u ≡ t) × (w ≡ t')) ⊎ ((u ≢ t) × (w ≢ t') × (c.temporaries u ≡ Some w)) → put new t' v' w
            ≡ moved_word at (put old t v u)
        which u w (inl x) = holds_here old new t t' u w v v' is x.0 x.1
        which u w (inr x) =
            put_other new t' v' w x.1 ∙ a.hold u w x.2 ∙ sym (ap (moved_word at) (put_other old t v u x.0))

        which_word : (k w : ℕ) → (Word k × (w ≡ t')) ⊎ ((w ≢ t') × (c.words k ≡ Some w)) → put new t' v' w
            ≡ moved_word at (known (slice_get words k))
        which_word k w (inl x) =
            ap (put new t' v') x.1 ∙ put_same new t' v' ∙ ap Some is ∙ sym (ap (moved_word at) (word k x.0))
        which_word k w (inr x) = put_other new t' v' w x.0 ∙ a.held k w x.1

    pub inside_spared : {c' : Claim} (t : ℕ) (By Away : ℕ → Type 0) (v : Value)
        → ((w : ℕ) → By w → new w ≡ Some (moved at v)) → NotThere number Away v → Spared t By Away c c'
        → Inside at c' number (put old t v) new words words'
    inside_spared {c'} t By Away v by not f = record {
      hold = λ u w h. which u w (f.temporaries u w h);
      held = λ k w h. a.held k w (f.words k w h);
      size = a.size;
      agree = λ k h. a.agree k (f.stale k h);
      written = λ k h. a.written k (f.blank k h);
      away = λ u o h. put_away old t u o v Away c.points not a.away (f.points u o h);
      word_away = λ k o h. a.word_away k o (f.word_points k o h);
    }
      where
        which : (u w : ℕ) → ((u ≡ t) × By w) ⊎ ((u ≢ t) × (c.temporaries u ≡ Some w)) → new w ≡ moved_word at
            (put old t v u)
        which u w (inl x) = by w x.1 ∙ sym (ap (moved_word at) (ap (put old t v) x.0 ∙ put_same old t v))
        which u w (inr x) = a.hold u w x.1 ∙ sym (ap (moved_word at) (put_other old t v u x.0))

    pub inside_fetched : {c' : Claim} (t k : ℕ) (v : Value) → known (slice_get words k) ≡ Some v → Fetches k t c c'
        → Inside at c' number old (put new t (moved at v)) words words'
    inside_fetched {c'} t k v is f = record {
      hold = λ u w h. put_other new t (moved at v) w (f.temporaries u w h).0 ∙ a.hold u w (f.temporaries u w h).1;
      held = λ j w h. which j w (f.words j w h);
      size = a.size;
      agree = λ k h. a.agree k (f.stale k h);
      written = λ k h. a.written k (f.blank k h);
      away = λ u o h. a.away u o (f.points u o h);
      word_away = λ k o h. a.word_away k o (f.word_points k o h);
    }
      where
        which : (j w : ℕ) → ((j ≡ k) × (w ≡ t)) ⊎ ((w ≢ t) × (c.words j ≡ Some w)) → put new t (moved at v) w
            ≡ moved_word at (known (slice_get words j))
        which j w (inl x) =
            ap (put new t (moved at v)) x.1 ∙ put_same new t (moved at v) ∙ sym
            (ap (moved_word at) (ap (λ i. known (slice_get words i)) x.0 ∙ is))
        which j w (inr x) = put_other new t (moved at v) w x.0 ∙ a.held j w x.1

    -- ---- a word of the own frame is written

    module _ (k : ℕ) (v : Value) (below : k < length words) where
      set_written : (j : ℕ) → (j ≡ k) ⊎ (c.blank j ≡ false) → known (slice_get (with_set words k v) j) ≢ None
      set_written j (inl x) is = none-some v (sym is ∙ set_here words k v below j x)
      set_written j (inr x) is = by_case (cases_eq j k)
        where
          by_case : (j ≡ k) ⊎ (j ≢ k) → ⊥
          by_case (inl y) = none-some v (sym is ∙ set_here words k v below j y)
          by_case (inr y) = a.written j x (sym (set_there words k v j y) ∙ is)

      agrees : (j : ℕ) → (j ≡ k) ⊎ (c.stale j ≡ false) → known (slice_get (with_set words' k (moved at v)) j)
          ≡ moved_word at (known (slice_get (with_set words k v) j))
      agrees j f = by_case (cases_eq j k) f
        where
          by_case : (j ≡ k) ⊎ (j ≢ k) → (j ≡ k) ⊎ (c.stale j ≡ false) → known
              (slice_get (with_set words' k (moved at v)) j) ≡ moved_word at (known (slice_get (with_set words k v) j))
          by_case (inl x) _ =
              ap known (ap (slice_get (with_set words' k (moved at v))) x ∙ get_set_same words' k (Some (moved at v))
              (subst (λ n. k < n) (sym a.size) below)) ∙ sym (ap (moved_word at) (set_here words k v below j x))
          by_case (inr ne) (inl x) = absurd (ne x)
          by_case (inr ne) (inr x) =
              ap known (get_set_other words' k j (Some (moved at v)) ne) ∙ a.agree j x ∙ sym
              (ap (moved_word at) (set_there words k v j ne))

      sizes : length (with_set words' k (moved at v)) ≡ length (with_set words k v)
      sizes = set_length words' k (Some (moved at v)) ∙ a.size ∙ sym (set_length words k (Some v))

      old_size : length words' ≡ length (with_set words k v)
      old_size = a.size ∙ sym (set_length words k (Some v))

      module _ (b : ℕ) (is : old b ≡ Some v) where
        set_word_away : (j o : ℕ) → ((j ≡ k) × (c.points b o ≡ false)) ⊎ ((j ≢ k) × (c.word_points j o ≡ false)) → known
            (slice_get (with_set words k v) j) ≢ Some (Address (Frame number) o)
        set_word_away j o (inl x) e = a.away b o x.1 (is ∙ sym (set_here words k v below j x.0) ∙ e)
        set_word_away j o (inr x) e = a.word_away j o x.1 (sym (set_there words k v j x.0) ∙ e)

        set_held : (j w : ℕ) → ((j ≡ k) × Holds c b w) ⊎ ((j ≢ k) × (c.words j ≡ Some w)) → new w ≡ moved_word at
            (known (slice_get (with_set words k v) j))
        set_held j w (inl x) = a.hold b w x.1 ∙ ap (moved_word at) (is ∙ sym (set_here words k v below j x.0))
        set_held j w (inr x) = a.held j w x.1 ∙ sym (ap (moved_word at) (set_there words k v j x.0))

        pub inside_stored : {c' : Claim} → Stored b k c c' → Inside at c' number old new (with_set words k v)
            (with_set words' k (moved at v))
        inside_stored {c'} f = record {
          hold = λ u t h. a.hold u t (f.temporaries u t h);
          held = λ j w h. set_held j w (f.words j w h);
          size = sizes;
          agree = λ j h. agrees j (f.stale j h);
          written = λ j h. set_written j (f.blank j h);
          away = λ u o h. a.away u o (f.points u o h);
          word_away = λ j o h. set_word_away j o (f.word_points j o h);
        }

        pub inside_postponed : {c' : Claim} → Postponed b k c c' → Inside at c' number old new
            (with_set words k v) words'
        inside_postponed {c'} f = record {
          hold = λ u t h. a.hold u t (f.temporaries u t h);
          held = λ j w h. set_held j w (f.words j w h);
          size = old_size;
          agree = λ j h. a.agree j (f.stale j h).1 ∙ sym (ap (moved_word at) (set_there words k v j (f.stale j h).0));
          written = λ j h. set_written j (f.blank j h);
          away = λ u o h. a.away u o (f.points u o h);
          word_away = λ j o h. set_word_away j o (f.word_points j o h);
        }

        pub inside_kept : {c' : Claim} (t' : ℕ) → Kept b k t' c c' → Inside at c' number old (put new t' (moved at v))
            (with_set words k v) words'
        inside_kept {c'} t' f = record {
          hold = λ u w h. which u w (f.temporaries u w h);
          held = λ j w h. which_word j w (f.words j w h);
          size = old_size;
          agree = λ j h. a.agree j (f.stale j h).1 ∙ sym (ap (moved_word at) (set_there words k v j (f.stale j h).0));
          written = λ j h. set_written j (f.blank j h);
          away = λ u o h. a.away u o (f.points u o h);
          word_away = λ j o h. set_word_away j o (f.word_points j o h);
        }
          where
            which : (u w : ℕ) → ((u ≡ b) × (w ≡ t')) ⊎ ((w ≢ t') × (c.temporaries u ≡ Some w)) → put new t'
                (moved at v) w ≡ moved_word at (old u)
            which u w (inl x) =
                ap (put new t' (moved at v)) x.1 ∙ put_same new t' (moved at v) ∙ sym
                (ap (moved_word at) (ap old x.0 ∙ is))
            which u w (inr x) = put_other new t' (moved at v) w x.0 ∙ a.hold u w x.1

            which_word : (j w : ℕ) → ((j ≡ k) × (w ≡ t')) ⊎ ((j ≢ k) × (w ≢ t') × (c.words j ≡ Some w)) → put new t'
                (moved at v) w ≡ moved_word at (known (slice_get (with_set words k v) j))
            which_word j w (inl x) =
                ap (put new t' (moved at v)) x.1 ∙ put_same new t' (moved at v) ∙ sym
                (ap (moved_word at) (set_here words k v below j x.0))
            which_word j w (inr x) =
                put_other new t' (moved at v) w x.1 ∙ a.held j w x.2 ∙ sym
                (ap (moved_word at) (set_there words k v j x.0))

      -- a store behind a base
      pub inside_hit : {c' : Claim} (r : ℕ) (b : Base) (n : ℕ) (Away : ℕ → Type 0) → (Misses r c b n k → ⊥)
          → NotThere number Away v → Wrote r b n Away c c' → Inside at c' number old new (with_set words k v)
          (with_set words' k (moved at v))
      inside_hit {c'} r b n Away hits not f = record {
        hold = λ u t h. a.hold u t (f.temporaries u t h);
        held = λ j w h. which j w (f.words j w h) (cases_eq j k);
        size = sizes;
        agree = λ j h. agrees j (inr (f.stale j h));
        written = λ j h. set_written j (inr (f.blank j h));
        away = λ u o h. a.away u o (f.points u o h);
        word_away = λ j o h. which_away j o (f.word_points j o h).0 (f.word_points j o h).1 (cases_eq j k);
      }
        where
          which : (j w : ℕ) → Misses r c b n j × (c.words j ≡ Some w) → (j ≡ k) ⊎ (j ≢ k) → new w ≡ moved_word at
              (known (slice_get (with_set words k v) j))
          which j w f (inl x) = absurd (hits (subst (Misses r c b n) x f.0))
          which j w f (inr x) = a.held j w f.1 ∙ sym (ap (moved_word at) (set_there words k v j x))

          which_away : (j o : ℕ) → Misses r c b n j ⊎ Away o → c.word_points j o ≡ false → (j ≡ k) ⊎ (j ≢ k) → known
              (slice_get (with_set words k v) j) ≢ Some (Address (Frame number) o)
          which_away j o (inl x) f (inl y) e = absurd (hits (subst (Misses r c b n) y x))
          which_away j o (inr x) f (inl y) e = not o x
              (same_Some v (Address (Frame number) o) (sym (set_here words k v below j y) ∙ e))
          which_away j o _ f (inr y) e = a.word_away j o f (sym (set_there words k v j y) ∙ e)

    pub inside_missed : {c' : Claim} (r : ℕ) (b : Base) (n : ℕ) (Away : ℕ → Type 0) → Wrote r b n Away c c'
        → Inside at c' number old new words words'
    inside_missed {c'} r b n Away f = record {
      hold = λ u t h. a.hold u t (f.temporaries u t h);
      held = λ j w h. a.held j w (f.words j w h).1;
      size = a.size;
      agree = λ j h. a.agree j (f.stale j h);
      written = λ j h. a.written j (f.blank j h);
      away = λ u o h. a.away u o (f.points u o h);
      word_away = λ j o h. a.word_away j o (f.word_points j o h).1;
    }

    -- word k of the new frame is made to agree
    pub inside_cleaned : {c' : Claim} (k t : ℕ) (v : Value) → known (slice_get words k) ≡ Some v → k < length words
        → Cleans k t c c' → Inside at c' number old new words (slice_set words' k (Some (moved at v)))
    inside_cleaned {c'} k t v is below f = record {
      hold = λ u t h. a.hold u t (f.temporaries u t h);
      held = λ j w h. a.held j w (f.words j w h);
      size = set_length words' k (Some (moved at v)) ∙ a.size;
      agree = λ j h. which j (cases_eq j k) (f.stale j h);
      written = λ j h. a.written j (f.blank j h);
      away = λ u o h. a.away u o (f.points u o h);
      word_away = λ j o h. a.word_away j o (f.word_points j o h);
    }
      where
        which : (j : ℕ) → (j ≡ k) ⊎ (j ≢ k) → (j ≡ k) ⊎ (c.stale j ≡ false) → known
            (slice_get (slice_set words' k (Some (moved at v))) j) ≡ moved_word at (known (slice_get words j))
        which j (inl x) _ =
            ap known (ap (slice_get (slice_set words' k (Some (moved at v)))) x ∙ get_set_same words' k
            (Some (moved at v)) (subst (λ n. k < n) (sym a.size) below))
            ∙ sym (ap (moved_word at) (ap (λ i. known (slice_get words i)) x ∙ is))
        which j (inr ne) (inl x) = absurd (ne x)
        which j (inr ne) (inr x) = ap known (get_set_other words' k j (Some (moved at v)) ne) ∙ a.agree j x
