-- The walk goes from frame to frame, and ends.
use Rattle.std.proofs.Common.{◌≡◌, ℕ, suc, ◌+◌, Bool, false, true, cond, List, [], ◌∷◌, ◌++◌, Option, Some, None, refl}
use Rattle.std.proofs.Common.{sym, ap, ◌∙◌, append_assoc, append-nil}
use Rattle.std.specs.Prelude.{if◌then◌else◌}
use Rattle.risc_emit_relation.specs.Walk.{and_on, is_frame, walk}

module _ (line : ℕ → Option ℕ) (size : ℕ) (words : ℕ → ℕ) where
  -- the line of the call to which a frame belongs
  abbrev line_at : ℕ → Option ℕ
  line_at f = if is_frame size f then line (words f) else None

  here : (b : Bool) (o : Option ℕ) (rest : List ℕ) → cond b (and_on o rest) [] ≡ and_on (cond b o None) rest
  here true o rest = refl
  here false o rest = refl

  stepped : (n f : ℕ) (o : Option ℕ) → o ≡ line_at f → walk line size (suc n) words f ≡ and_on o
      (walk line size n words (words (f + 4)))
  stepped n f o e =
      let rest = walk line size n words (words (f + 4)) in
      here (is_frame size f) (line (words f)) rest ∙ ap (λ l. and_on l rest) (sym e)

  pub walk_begins : (n most f g : ℕ) (before : List ℕ) → before ≡ [] → g ≡ f → n ≡ most → walk line size most words f
      ≡ before ++ walk line size n words g
  walk_begins n most f g before none at same =
      ap (λ m. walk line size m words f) (sym same) ∙ ap (walk line size n words) (sym at)
      ∙ ap (λ (l : List ℕ). l ++ walk line size n words g) (sym none)

  -- a frame whose link is a call's: its line, and then those of the caller's frame
  pub walk_goes_on : (n f x g : ℕ) (o : Option ℕ) (before after whole : List ℕ) → o ≡ line_at f → o ≡ Some x → after
      ≡ before ++ x ∷ [] → g ≡ words (f + 4) → whole ≡ before ++ walk line size (suc n) words f → whole ≡ after
      ++ walk line size n words g
  walk_goes_on n f x g o before after whole e row more next so_far =
      let rest = walk line size n words (words (f + 4)) in
      let step : walk line size (suc n) words f ≡ x ∷ rest = stepped n f o e ∙ ap (λ l. and_on l rest) row in
      so_far ∙ (ap (λ (l : List ℕ). before ++ l) step
      ∙ (sym (append_assoc before (x ∷ []) rest)
      ∙ (ap (λ (l : List ℕ). l ++ rest) (sym more) ∙ ap (λ (h : ℕ). after ++ walk line size n words h) (sym next))))

  -- a link of no call ends the walk, and so does what memory doesn't hold
  pub walk_ends : (n f : ℕ) (o : Option ℕ) (before whole : List ℕ) → o ≡ line_at f → o ≡ None → whole ≡ before
      ++ walk line size (suc n) words f → before ≡ whole
  walk_ends n f o before whole e none so_far =
      let rest = walk line size n words (words (f + 4)) in
      let step : walk line size (suc n) words f ≡ [] = stepped n f o e ∙ ap (λ l. and_on l rest) none in
      sym (so_far ∙ (ap (λ (l : List ℕ). before ++ l) step ∙ append-nil before))

  pub walk_is_full : (n f : ℕ) (before whole : List ℕ) → n ≡ 0 → whole ≡ before ++ walk line size n words f → before
      ≡ whole
  walk_is_full n f before whole nothing so_far =
      sym (so_far ∙ (ap (λ (m : ℕ). before ++ walk line size m words f) nothing ∙ append-nil before))
