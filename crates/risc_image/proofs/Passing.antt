-- An image passes the checks before the tables.
use Rattle.std.proofs.Common.{◌≡◌, ℕ, ◌+◌, ◌*◌, ◌≤◌, true, false, List, [], ◌++◌, length, get_or, drop, Option, Some}
use Rattle.std.proofs.Common.{None, refl, ap, ◌∙◌, arith}
use Rattle.std.specs.Prelude.{nat_lt, unwrap_or, is_some}
use Rattle.std.specs.List.{flat_map}
use Rattle.std.proofs.lemmas.Bool.{le-ltb}
use Rattle.std.proofs.lemmas.List.{length-append}
use Rattle.risc_image.specs.declared.rows.CallRow.{CallRow}
use Rattle.risc_image.specs.declared.header.TheConstants.{MAX_COUNT}
use Rattle.risc_image.specs.Image.{Image, call_rows}
use Rattle.risc_image.specs.Format.{magic_of, count_of, header, word_bytes, frame_words, object_words, trap_words}
use Rattle.risc_image.specs.Format.{call_words, image_words, IsImage}
use Rattle.risc_image.specs.Refusal.{begins_as_image, is_second, header_length, header_word, call_count, longest}
use Rattle.risc_image.specs.Refusal.{asked_length, first_fault}
use Rattle.risc_image.specs.Header.{Passes}
use Rattle.risc_image.specs.Table.{words}
use Rattle.risc_image.proofs.Spelled.{word_bytes_length, words-word_bytes}
use Rattle.risc_image.proofs.Unique.{length-frame_words, length-object_words, length-trap_words, length-call_words}

pub passes_none : (bytes : List ℕ) → Passes bytes → first_fault bytes ≡ None
passes_none bytes passes =
    let long : nat_lt (length bytes) (header_length bytes) ≡ false = le-ltb _ _ passes.long in
    let enough : nat_lt (length bytes) (asked_length bytes) ≡ false = le-ltb _ _ (omega (arith, passes.exact)) in
    let rest : nat_lt (asked_length bytes) (length bytes) ≡ false = le-ltb _ _ (omega (arith, passes.exact)) in
    rw (passes.begins, long, passes.limits, enough, rest) refl

-- ---- what the spelling begins with

begins : (calls : Option (List CallRow)) (rest : List ℕ) → begins_as_image (magic_of calls ++ rest) ≡ true
begins None rest = refl
begins (Some rows) rest = refl

version : (calls : Option (List CallRow)) (rest : List ℕ) → is_second (magic_of calls ++ rest) ≡ is_some calls
version None rest = refl
version (Some rows) rest = refl

behind : (calls : Option (List CallRow)) (rest : List ℕ) → drop 4 (magic_of calls ++ rest) ≡ rest
behind None rest = refl
behind (Some rows) rest = refl

magic_length : (calls : Option (List CallRow)) → length (magic_of calls) ≡ 4
magic_length None = refl
magic_length (Some rows) = refl

-- the words of the header, and the length
record Measures (bytes : List ℕ) (image : Image) : Type 0 where
  begins : begins_as_image bytes ≡ true
  version : is_second bytes ≡ is_some image.calls
  word : (k : ℕ) → header_word bytes k ≡ get_or (image_words image) k 0
  length : length bytes ≡ 4 + 4 * length (image_words image)

measures : (bytes : List ℕ) (image : Image) → IsImage bytes image → Measures bytes image
measures bytes image is = record {
  begins = rw is.spelled (begins image.calls (word_bytes (image_words image)));
  version = rw is.spelled (version image.calls (word_bytes (image_words image)));
  word = λ k. ap (λ (x : List ℕ). get_or (words (drop 4 x)) k 0) is.spelled
      ∙ ap (λ (x : List ℕ). get_or (words x) k 0) (behind image.calls (word_bytes (image_words image)))
      ∙ ap (λ (x : List ℕ). get_or x k 0) (words-word_bytes (image_words image) is.numbers);
  length = ap (λ (x : List ℕ). length x) is.spelled ∙ length-append (magic_of image.calls)
      (word_bytes (image_words image)) ∙ omega (arith, magic_length image.calls, word_bytes_length (image_words image));
}

-- how many words an image has
words_of_image : (image : Image) → length (image_words image) ≡ 5 + length (count_of image.calls) + length image.code
    + 2 * length image.frames + 2 * length image.objects + 3 * length image.traps + 2 * length (call_rows image)
words_of_image image =
    omega (
      arith,
      length-append (header image) (image.code
          ++ (flat_map frame_words image.frames ++ (flat_map object_words image.objects
          ++ (flat_map trap_words image.traps ++ flat_map call_words (call_rows image))))),
      length-append image.code (flat_map frame_words image.frames
          ++ (flat_map object_words image.objects
          ++ (flat_map trap_words image.traps ++ flat_map call_words (call_rows image)))),
      length-append (flat_map frame_words image.frames)
          (flat_map object_words image.objects ++ (flat_map trap_words image.traps ++ flat_map call_words
          (call_rows image))),
      length-append (flat_map object_words image.objects)
          (flat_map trap_words image.traps ++ flat_map call_words (call_rows image)),
      length-append (flat_map trap_words image.traps) (flat_map call_words (call_rows image)),
      length-frame_words image.frames,
      length-object_words image.objects,
      length-trap_words image.traps,
      length-call_words (call_rows image),
    )

-- what the version says of the header
record Versioned (bytes : List ℕ) (image : Image) : Type 0 where
  header : header_length bytes ≡ 24 + 4 * length (count_of image.calls)
  calls : call_count bytes ≡ length (call_rows image)
  longest : longest bytes ≡ 33554456 + 8388612 * length (count_of image.calls)

versioned : (bytes : List ℕ) (image : Image) (calls : Option (List CallRow)) → image.calls ≡ calls
    → Measures bytes image → Versioned bytes image
versioned bytes image None e m =
    let second : is_second bytes ≡ false = m.version ∙ ap (λ (x : Option (List CallRow)). is_some x) e in
    record { header = rw (second, e) refl; calls = rw (second, e) refl; longest = rw (second, e) refl }
versioned bytes image (Some rows) e m =
    let second : is_second bytes ≡ true = m.version ∙ ap (λ (x : Option (List CallRow)). is_some x) e in
    let fifth : header_word bytes 5 ≡ length rows = m.word 5 ∙ rw e refl in
    record { header = rw (second, e) refl; calls = rw (second, e) fifth; longest = rw (second, e) refl }

-- only the second version has calls
few_calls : (calls : Option (List CallRow)) → length (unwrap_or calls []) ≤ MAX_COUNT → length
    (unwrap_or calls []) ≤ MAX_COUNT * length (count_of calls)
few_calls None few = omega arith
few_calls (Some rows) few = omega arith

small : (n m : ℕ) → n ≡ m → m ≤ MAX_COUNT → nat_lt MAX_COUNT n ≡ false
small n m e le = le-ltb MAX_COUNT n (omega arith)

pub image_passes : (bytes : List ℕ) (image : Image) → IsImage bytes image → Passes bytes
image_passes bytes image is =
    let m = measures bytes image is in
    let v = versioned bytes image image.calls refl m in
    let w = words_of_image image in
    let code : header_word bytes 1 ≡ length image.code = m.word 1 in
    let frames : header_word bytes 2 ≡ length image.frames = m.word 2 in
    let objects : header_word bytes 3 ≡ length image.objects = m.word 3 in
    let traps : header_word bytes 4 ≡ length image.traps = m.word 4 in
    let limits = is.well_formed.limits in
    let few = few_calls image.calls limits.calls in
    let size : length bytes ≡ 4 + 4 * length (image_words image) = m.length in
    let file : nat_lt (longest bytes) (length bytes) ≡ false = le-ltb _ _
    (omega (arith, v.longest, w, size, few, limits.code, limits.frames, limits.objects, limits.traps)) in
    record {
      begins = m.begins;
      long = omega (arith, v.header, w, size);
      limits = rw (
        file,
        small (header_word bytes 0) image.global (m.word 0) limits.global,
        small (header_word bytes 1) (length image.code) code limits.code,
        small (header_word bytes 2) (length image.frames) frames limits.frames,
        small (header_word bytes 3) (length image.objects) objects limits.objects,
        small (header_word bytes 4) (length image.traps) traps limits.traps,
        small (call_count bytes) (length (call_rows image)) v.calls limits.calls,
      ) refl;
      exact = omega (arith, v.header, v.calls, w, size, code, frames, objects, traps);
    }
