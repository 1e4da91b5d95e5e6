-- The walk reports no more lines than it is asked for.
use Rattle.std.proofs.Common.{◌≡◌, ℕ, zero, suc, ◌+◌, Bool, true, false, cond, List, [], ◌∷◌, length, take, Option}
use Rattle.std.proofs.Common.{Some, None, refl, sym, ap, ◌∙◌}
use Rattle.std.specs.Prelude.{option_map}
use Rattle.risc_machine.specs.Step.{State, word_at, reg}
use Rattle.risc_image.specs.declared.rows.CallRow.{CallRow}
use Rattle.risc_image.specs.Image.{Image}
use Rattle.risc_emit_relation.specs.Walk.{and_on, is_frame, walk}
use Rattle.risc_emit_laws.specs.Outcome.{line_of, calls_at}
use Rattle.risc_emit_trail.specs.Told.{trail_of}

module _ (line : ℕ → Option ℕ) (size : ℕ) (words : ℕ → ℕ) where
  walk_few : (n f : ℕ) → take n (walk line size n words f) ≡ walk line size n words f
  walk_few zero f = refl
  walk_few (suc n) f =
      by_frame (is_frame size f) (line (words f)) (walk line size n words (words (f + 4))) (walk_few n (words (f + 4)))
    where
      by_frame : (b : Bool) (o : Option ℕ) (rest : List ℕ) → take n rest ≡ rest → take (suc n)
          (cond b (and_on o rest) []) ≡ cond b (and_on o rest) []
      by_frame false o rest e = refl
      by_frame true None rest e = refl
      by_frame true (Some x) rest e = ap (λ (l : List ℕ). x ∷ l) e

-- so the first 16 of them are all
pub trail_is : (image : Image) (m : State) → trail_of image m ≡ option_map
    (λ rows. take 16 (calls_at image m)) image.calls
unfolding trail_of
trail_is image m =
    ap (λ (calls : List ℕ). option_map (λ rows. calls) image.calls)
    (sym (walk_few (line_of image) (length m.memory) (word_at m.memory) 16 (reg m 14)))

-- ---- with and without a table of calls

none_of : (calls : Option (List CallRow)) (o : Option ℕ) (lines : List ℕ) → o ≡ option_map (λ rows. length rows) calls
    → o ≡ None → None ≡ option_map (λ rows. lines) calls
none_of None o lines e none = refl
none_of (Some rows) o lines e none = absurd (let clash : Some (length rows) ≡ None = sym e ∙ none in cc clash)

some_of : (calls : Option (List CallRow)) (o : Option ℕ) (k : ℕ) (told lines : List ℕ) → o ≡ option_map
    (λ rows. length rows) calls → o ≡ Some k → told ≡ lines → Some told ≡ option_map (λ rows. lines) calls
some_of None o k told lines e some same = absurd (let clash : None ≡ Some k = sym e ∙ some in cc clash)
some_of (Some rows) o k told lines e some same = ap Some same

pub without_table : (image : Image) (m : State) (o : Option ℕ) → o ≡ option_map (λ rows. length rows) image.calls → o
    ≡ None → None ≡ trail_of image m
unfolding trail_of
without_table image m o e none = none_of image.calls o (calls_at image m) e none

pub with_table : (image : Image) (m : State) (o : Option ℕ) (k : ℕ) (told : List ℕ) → o ≡ option_map
    (λ rows. length rows) image.calls → o ≡ Some k → told ≡ calls_at image m → Some told ≡ trail_of image m
unfolding trail_of
with_table image m o k told e some same = some_of image.calls o k told (calls_at image m) e some same
