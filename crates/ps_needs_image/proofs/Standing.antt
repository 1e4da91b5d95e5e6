-- What is told of an image, by the program that it was made of.
use Rattle.std.proofs.Common.{◌≡◌, ◌≢◌, ℕ, ◌+◌, ◌<◌, ◌≤◌, false, List, [], ◌∷◌, ◌++◌, length, map, take, get_or, sym}
use Rattle.std.proofs.Common.{ap, ◌∙◌, subst, arith, nat_eq, true, Option, Some, IfSome, slice_get, eqb-true}
use Rattle.std.proofs.lemmas.List.{length-map, map_more, take_all}
use Rattle.std.proofs.lemmas.Grind.{get_or_default_zero}
use Rattle.behavior.specs.Transcripts.{AreBytes}
use Rattle.risc_image.specs.Image.{Image}
use Rattle.risc_image.specs.declared.rows.FrameRow.{FrameRow}
use Rattle.risc_image.specs.declared.rows.TrapRow.{TrapRow}
use Rattle.risc_load.specs.Shows.{frame_bytes}
use Rattle.ps_tree.specs.Tree.{Program}
use Rattle.ps_tree.specs.Checked.{Parts, program_in}
use Rattle.ps_tree.specs.View.{routine_of}
use Rattle.ps_needs_least.specs.Answers.{IsAnswer}
use Rattle.ps_needs_least.specs.declared.least.Need.{Need}
use Rattle.ps_needs_least.specs.declared.least.Need.TheVariants.{Least, Endless}
use Rattle.ps_build.specs.Accepts.{IsProgramOf}
use Rattle.ps_build.specs.Headline.{DoesAsMeant, Compiles}
use Rattle.ps_build.specs.Made.{IsBuilt}
use Rattle.ps_needs_image.specs.Laws.{NeverOutOfStack, NeverOutOfHeap, MakesNoObject}
use Rattle.ps_needs_image.specs.Needed.{IsEnough, IsNeeded}
use Rattle.ps_needs_image.specs.declared.needed.Needed.{Needed}

pub all_bytes : (bytes : List ℕ) → ((k : ℕ) → get_or bytes k 0 < 256) → AreBytes bytes
all_bytes bytes h k d lt = subst (λ b. b < 256) (sym (get_or_default_zero bytes k d lt)) (h k)

-- ---- the frames of an image are those of the program's routines, and none is empty

pub frames_are : (parts : Parts) (image : Image) (frames : List ℕ) → DoesAsMeant (program_in parts) image → frames
    ≡ frame_bytes image → length frames ≡ length parts.routines
frames_are parts image frames does are =
    ap length are ∙ length-map image.frames (λ (row : FrameRow). row.bytes) ∙ does.routines
    ∙ length-map parts.routines routine_of

pub frames_positive : (parts : Parts) (image : Image) (frames : List ℕ) → DoesAsMeant (program_in parts) image → frames
    ≡ frame_bytes image → (r : ℕ) → r < length frames → 1 ≤ get_or frames r 0
frames_positive parts image frames does are r l =
    let within : r < length (program_in parts).routines = let e = frames_are parts image frames does are
    in let f = length-map parts.routines routine_of in omega (arith, l, e, f) in
    let some = (does.bounded.frames r within).0 in
    subst (λ fs. 1 ≤ get_or fs r 0) (sym are) (omega (arith, some))

-- ---- the image of a text

pub does_too : (text bytes : List ℕ) (compiles : Compiles text bytes) (other : Program) (image : Image)
    → IsProgramOf text other → image ≡ compiles.image → DoesAsMeant other image
does_too text bytes compiles other image is same =
    subst (λ i. DoesAsMeant other i) (sym same)
    (subst (λ p. DoesAsMeant p compiles.image) (sym (compiles.program.only other is.accepts)) compiles.does)

enough : (text bytes : List ℕ) (compiles : Compiles text bytes) (need : Need) → AreBytes text → NeverOutOfStack
    → IsAnswer compiles.checked (frame_bytes compiles.image) need → IsEnough compiles.image need
enough text bytes compiles (Least least path) narrow never answer = never text bytes narrow compiles least answer.0.0
enough text bytes compiles (Endless path) narrow never answer = tt

pub is_needed : (text bytes : List ℕ) (compiles : Compiles text bytes) → IsBuilt text bytes → (other : Program)
    (image : Image) (needed : Needed) → IsProgramOf text other → image ≡ compiles.image → needed.frames.items
    ≡ frame_bytes image → IsAnswer other (frame_bytes image) needed.need
    → (needed.makes_objects ≡ false → MakesNoObject image) → (needed.makes_objects ≡ true → MakesNoObject image → ⊥)
    → AreBytes text → NeverOutOfStack → NeverOutOfHeap → IsNeeded text needed
is_needed text bytes compiles built other image needed is same frames answer none some narrow never never_heap =
    let program = compiles.program.only other is.accepts in
    let told : IsAnswer compiles.checked (frame_bytes compiles.image) needed.need = subst
    (λ i. IsAnswer compiles.checked (frame_bytes i) needed.need) same
    (subst (λ p. IsAnswer p (frame_bytes image) needed.need) program answer) in
    record {
      bytes = bytes;
      built = built;
      compiles = compiles;
      frames = frames ∙ ap frame_bytes same;
      answer = told;
      enough = enough text bytes compiles needed.need narrow never told;
      heap = λ e. never_heap compiles.image (subst MakesNoObject same (none e));
      objects = λ e no_row. some e (subst MakesNoObject (sym same) no_row);
    }

-- ---- a row that tells a stop for heap

pub has_row : (image : Image) (k : ℕ) (found : Option TrapRow) (row : TrapRow) → found ≡ slice_get image.traps k
    → found ≡ Some row → nat_eq row.error 13 ≡ true → MakesNoObject image → ⊥
has_row image k found row e is heap none =
    subst (λ o. IfSome o (λ row. row.error ≢ 13)) (sym e ∙ is) (none k) (eqb-true row.error 13 heap)

-- ---- the frames of an image as a list

abbrev bytes_in : FrameRow → ℕ
bytes_in row = row.bytes

pub frames_next : (rows : List FrameRow) (k : ℕ) (now next : List ℕ) (b : ℕ) → k < length rows → now ≡ map bytes_in
    (take k rows) → next ≡ now ++ b ∷ [] → ((d : FrameRow) → b ≡ (get_or rows k d).bytes) → next ≡ map bytes_in
    (take (k + 1) rows)
frames_next rows k now next b within so_far e is =
    let d : FrameRow = record { entry = 0; bytes = 0 } in
    e
    ∙ ap (λ l. l ++ b ∷ []) so_far
    ∙ ap (λ y. map bytes_in (take k rows) ++ y ∷ []) (is d)
    ∙ sym (map_more bytes_in rows k d within)

pub frames_all : (rows : List FrameRow) (k : ℕ) (now : List ℕ) → length rows ≤ k → now ≡ map bytes_in (take k rows)
    → now ≡ map bytes_in rows
frames_all rows k now all so_far = so_far ∙ ap (map bytes_in) (take_all k rows all)
