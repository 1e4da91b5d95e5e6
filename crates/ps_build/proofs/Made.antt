-- An image that was made through three-address code does what its program means.
use Rattle.std.proofs.Common.{◌≡◌, ℕ, zero, suc, ◌<◌, ◌^◌, List, [], ◌∷◌, ◌++◌, All, Some, slice_get, subst, arith}
use Rattle.std.specs.Prelude.{get_or}
use Rattle.behavior.specs.Transcripts.{AreBytes}
use Rattle.behavior.specs.Same.{Same}
use Rattle.behavior.proofs.Sameness.{same_composes}
use Rattle.ps_tree.specs.Tree as Tree
use Rattle.ps_meaning.specs.Run.{run_within}
use Rattle.tac_code.specs.Meaning.{Code}
use Rattle.tac_code.specs.Run.{tac_run}
use Rattle.tac_pass_laws.specs.Passed.{IsPassed}
use Rattle.risc_machine_laws.specs.Start as view
use Rattle.risc_image.specs.Image.{Image}
use Rattle.risc_image.specs.Format.{IsImage, header}
use Rattle.risc_load.specs.Shows.{frame_bytes, object_bytes, IsBudget}
use Rattle.risc_emit_laws.specs.Outcome.{image_outcome}
use Rattle.risc_emit_laws.proofs.Same.{emission_keeps}
use Rattle.ps_build.specs.Accepts.{IsProgramOf}
use Rattle.ps_build.specs.Headline.{DoesAsMeant, Compiles}
use Rattle.ps_build.specs.Made.{IsCodeOf, IsMadeOf, IsEmittedFor, AreMadeOf}
use Rattle.ps_build.proofs.Charged.{IsCharged}

-- ---- the words of an image's code

all_tail : (n : ℕ) (x : ℕ) (xs : List ℕ) → All (λ w. w < n) (x ∷ xs) → All (λ w. w < n) xs
all_tail n x xs h = λ k d lt. h (suc k) d (omega (arith, lt))

all_back : (n : ℕ) (xs ys : List ℕ) → All (λ w. w < n) (xs ++ ys) → All (λ w. w < n) ys
all_back n [] ys h = h
all_back n (x ∷ xs) ys h = all_back n xs ys (all_tail n x (xs ++ ys) h)

all_get : (n : ℕ) (xs ys : List ℕ) → All (λ w. w < n) (xs ++ ys) → (k w : ℕ) → slice_get xs k ≡ Some w → w < n
all_get n [] ys h k w e = absurd (cc e)
all_get n (x ∷ xs) ys h zero w e =
    let same : x ≡ w = cc e in subst (λ z. z < n) same (h 0 x (omega arith))
all_get n (x ∷ xs) ys h (suc k) w e = all_get n xs ys (all_tail n x (xs ++ ys) h) k w e

code_words : (bytes : List ℕ) (image : Image) → IsImage bytes image → view.AreWords image.code
code_words bytes image is k w e =
    all_get (2 ^ 32) image.code _ (all_back (2 ^ 32) (header image) _ is.numbers) k w e

-- ---- the image does as meant

module _ (checked : Tree.Program) (bytes : List ℕ) (image : Image) (is : IsImage bytes image)
    (made : IsMadeOf checked image) where
  same_made : (heap stack : ℕ) → IsBudget image heap stack → (input : List ℕ) → AreBytes input → Same
      (run_within checked (frame_bytes image) (object_bytes image) stack heap input)
      (image_outcome image heap stack input)
  same_made heap stack budget input are =
      let F = frame_bytes image in
      let G = object_bytes image in
      let lowered = made.lowered.same F G stack heap input are in
      let goes_on = made.lowered.goes_on F G stack heap input are in
      let emitted = emission_keeps made.code made.homes image made.sound made.placed is.well_formed
      (code_words bytes image is) made.emitted heap stack budget input are goes_on in
      same_composes (run_within checked F G stack heap input)
      (tac_run made.code (λ r. get_or F r 0) (λ t. get_or G t 0) stack heap input)
      (image_outcome image heap stack input) lowered emitted

  pub made_as_meant : DoesAsMeant checked image
  made_as_meant = record { routines = made.routines; types = made.types; bounded = made.bounded; same = same_made }

  pub made_compiles : (text : List ℕ) → IsProgramOf text checked → Compiles text bytes
  made_compiles text of_text = record {
    checked = checked;
    program = of_text;
    image = image;
    is_image = is;
    does = made_as_meant;
  }

-- ---- what an image is made of

pub made_of : (checked : Tree.Program) (code : Code) (image : Image) (bytes : List ℕ) → ((passed : Code)
    → IsPassed code passed → IsCodeOf checked passed) → IsEmittedFor code image → IsCharged checked image
    → IsImage bytes
    image → AreMadeOf checked bytes
made_of checked code image bytes lowered emitted charged is =
    record {
      image = image;
      is_image = is;
      made = record {
        code = emitted.passed;
        lowered = lowered emitted.passed emitted.may;
        sound = emitted.sound;
        homes = emitted.emitted.homes;
        placed = emitted.emitted.placed;
        emitted = emitted.emitted.emitted;
        routines = charged.routines;
        types = charged.types;
        bounded = charged.bounded;
      };
    }
