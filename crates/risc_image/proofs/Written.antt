-- One more row: what was written of the rows before it, and what holds for them.
use Rattle.std.proofs.Common.{◌≡◌, ℕ, zero, suc, ◌+◌, ◌^◌, ◌<◌, ◌≤◌, Option, None, Some, List, [], ◌∷◌, ◌++◌, length}
use Rattle.std.proofs.Common.{get_or, take, refl, sym, ap, ◌∙◌, append_assoc, arith}
use Rattle.std.specs.Prelude.{All, unwrap_or}
use Rattle.std.specs.List.{flat_map}
use Rattle.risc_image.specs.declared.header.TheConstants.{MAX_COUNT}
use Rattle.risc_image.specs.Image.{Image, IsWellFormed, IsWithinLimits, call_rows}
use Rattle.risc_image.specs.declared.rows.CallRow.{CallRow}
use Rattle.risc_image.specs.Format.{word_bytes, magic_of, count_of, header, frame_words, object_words, trap_words}
use Rattle.risc_image.specs.Format.{call_words, image_words, spelling, AreWords}
use Rattle.risc_image.proofs.Spelled.{word_bytes-append}
use Rattle.std.proofs.lemmas.Grind.{flat_map-append}
use Rattle.std.proofs.lemmas.List.Elements.{All-append}
use Rattle.std.proofs.lemmas.List.{take_more}

append-nil' : (xs : List ℕ) → xs ++ [] ≡ xs
append-nil' [] = refl
append-nil' (x ∷ xs) = ap (λ (t : List ℕ). x ∷ t) (append-nil' xs)

pub written_more : {R : Type 0} (f : R → List ℕ) (rows : List R) (i : ℕ) (d : R) (front out out' : List ℕ)
    → i < length rows
    → out ≡ front ++ flat_map f (take i rows) → out' ≡ out ++ f (get_or rows i d) → out' ≡ front ++ flat_map f
    (take (i + 1) rows)
written_more f rows i d front out out' lt before now =
    now ∙ ap (λ (t : List ℕ). t ++ f (get_or rows i d)) before ∙ append_assoc front (flat_map f (take i rows))
    (f (get_or rows i d))
    ∙ ap (λ (t : List ℕ). front ++ t) (ap (λ (t : List ℕ). flat_map f (take i rows) ++ t)
    (sym (append-nil' (f (get_or rows i d)))) ∙ sym (flat_map-append f (take i rows) (get_or rows i d ∷ []))
    ∙ ap (λ t. flat_map f t) (sym (take_more rows i d lt)))

word_bytes-flat_map : {R : Type 0} (f : R → List ℕ) (rows : List R) → flat_map (λ row. word_bytes (f row)) rows
    ≡ word_bytes (flat_map f rows)
word_bytes-flat_map f [] = refl
word_bytes-flat_map f (row ∷ rows) = ap (λ (t : List ℕ). word_bytes (f row) ++ t) (word_bytes-flat_map f rows) ∙ sym
    (word_bytes-append (f row) (flat_map f rows))

-- the words of six parts, part by part
spelled_parts : (m h a b c d e : List ℕ) → m ++ word_bytes (h ++ (a ++ (b ++ (c ++ (d ++ e)))))
    ≡ (m ++ word_bytes h) ++ word_bytes a ++ word_bytes b ++ word_bytes c ++ word_bytes d ++ word_bytes e
spelled_parts m h a b c d e = simp (word_bytes-append, append_assoc)

-- the bytes that were written, part after part
pub image_written : (image : Image) (header_out code_out frames_out objects_out traps_out calls_out : List ℕ)
    → header_out ≡ magic_of image.calls ++ word_bytes (header image)
    → code_out ≡ header_out ++ word_bytes image.code
    → frames_out ≡ code_out ++ flat_map (λ row. word_bytes (frame_words row)) image.frames
    → objects_out ≡ frames_out ++ flat_map (λ row. word_bytes (object_words row)) image.objects
    → traps_out ≡ objects_out ++ flat_map (λ row. word_bytes (trap_words row)) image.traps
    → calls_out ≡ traps_out ++ flat_map (λ row. word_bytes (call_words row)) (call_rows image)
    → calls_out ≡ spelling image
image_written image o1 o2 o3 o4 o5 o6 e1 e2 e3 e4 e5 e6 =
    rw (
      e6,
      e5,
      e4,
      e3,
      e2,
      e1,
      word_bytes-flat_map frame_words image.frames,
      word_bytes-flat_map object_words
          image.objects,
      word_bytes-flat_map trap_words image.traps,
      word_bytes-flat_map call_words (call_rows image),
    )
    (sym (spelled_parts (magic_of image.calls) (header image) image.code (flat_map frame_words image.frames)
    (flat_map object_words image.objects) (flat_map trap_words image.traps)
    (flat_map call_words (call_rows image))))

-- each word of an image has 32 bits where each word of its parts has
pub words_fit : (image : Image) → IsWellFormed image → AreWords image.code → All
    (λ row. AreWords (frame_words row)) image.frames
    → All (λ row. AreWords (object_words row)) image.objects → All (λ row. AreWords (trap_words row)) image.traps → All
    (λ row. AreWords (call_words row)) (call_rows image)
    → AreWords (image_words image)
words_fit image good code frames objects traps calls =
    All-append (λ w. w < 2 ^ 32) (header image) _ (header_fits image good.limits)
    (All-append (λ w. w < 2 ^ 32) image.code _ code
    (All-append (λ w. w < 2 ^ 32) (flat_map frame_words image.frames) _ (all_flat frame_words image.frames frames)
    (All-append (λ w. w < 2 ^ 32) (flat_map object_words image.objects) _ (all_flat object_words image.objects objects)
    (All-append (λ w. w < 2 ^ 32) (flat_map trap_words image.traps) _ (all_flat trap_words image.traps traps)
    (all_flat call_words (call_rows image) calls)))))
  where
    all_flat : {R : Type 0} (f : R → List ℕ) (rows : List R) → All (λ row. AreWords (f row)) rows → AreWords
        (flat_map f rows)
    all_flat f [] h = λ k d lt. absurd (omega arith)
    all_flat f (row ∷ rows) h = All-append (λ w. w < 2 ^ 32) (f row) (flat_map f rows) (h zero row (omega arith))
        (all_flat f rows (λ k d lt. h (suc k) d (omega arith)))

    count_fits : (calls : Option (List CallRow)) → length (unwrap_or calls []) ≤ MAX_COUNT → AreWords (count_of calls)
    count_fits None few k d lt = absurd (omega arith)
    count_fits (Some rows) few zero d lt = omega arith
    count_fits (Some rows) few (suc k) d lt = absurd (omega arith)

    header_fits : (image : Image) → IsWithinLimits image → AreWords (header image)
    header_fits image limits zero d lt = omega (arith, limits.global)
    header_fits image limits (suc zero) d lt = omega (arith, limits.code)
    header_fits image limits (suc (suc zero)) d lt = omega (arith, limits.frames)
    header_fits image limits (suc (suc (suc zero))) d lt = omega (arith, limits.objects)
    header_fits image limits (suc (suc (suc (suc zero)))) d lt = omega (arith, limits.traps)
    header_fits image limits (suc (suc (suc (suc (suc k))))) d lt = count_fits image.calls limits.calls k d
        (omega arith)
