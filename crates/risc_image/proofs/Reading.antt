-- Reading: the pieces of bytes that pass every check hold the one image that the bytes are, and else there is none.
use Rattle.std.proofs.Common.{◌≡◌, ℕ, ◌+◌, ◌*◌, ◌%◌, ◌<◌, inl, inr, List, [], ◌++◌, length, get_or, Option, Some, None}
use Rattle.std.proofs.Common.{Bool, true, false, refl, sym, subst, ◌∙◌, arith}
use Rattle.std.specs.Prelude.{MatchOption, option_map, unwrap_or, if◌then◌else◌}
use Rattle.std.proofs.Math.ListN.{get_or-append}
use Rattle.std.proofs.lemmas.Bool.{cases_lt}
use Rattle.std.proofs.lemmas.List.{get_or-append-add, get_or_past}
use Rattle.risc_image.specs.declared.refusal.ImageRefusal.{ImageRefusal}
use Rattle.risc_image.specs.declared.refusal.ImageRefusal.TheVariants.{BadTable}
use Rattle.risc_image.specs.Image.{Image}
use Rattle.risc_image.specs.Format.{IsImage, word_bytes}
use Rattle.risc_image.specs.Refusal.{IsRefused, first_fault, header_word, is_second}
use Rattle.risc_image.specs.Header.{Passes}
use Rattle.risc_image.specs.Cut.{IsCut, AreTables, candidate, call_table}
use Rattle.risc_image.specs.Table.{words, frame_rows, object_rows, trap_rows, call_rows_of}
use Rattle.risc_image.proofs.Spelled.{IsBytes, word_bytes-words}
use Rattle.risc_image.proofs.Unique.{spelling_once}
use Rattle.risc_image.proofs.Candidate.{candidate_spelled, candidate_words, candidate_limits, tables_good, tables_back}
use Rattle.risc_image.proofs.Passing.{passes_none, image_passes}

-- a first fault leaves no image
pub faulty_is_none : (bytes : List ℕ) (refusal : ImageRefusal) (image : Image) → first_fault bytes ≡ Some refusal
    → IsImage bytes image → ⊥
faulty_is_none bytes refusal image fault is =
    let none : first_fault bytes ≡ None = passes_none bytes (image_passes bytes image is) in
    cc

pub candidate_is_image : (bytes front code frames objects traps calls : List ℕ) → IsBytes bytes → Passes bytes
    → IsCut bytes front code frames objects traps calls
    → AreTables (header_word bytes 0) code frames objects traps calls → IsImage bytes
    (candidate bytes code frames objects traps calls)
candidate_is_image bytes front code frames objects traps calls fits passes cut tables = record {
  spelled = candidate_spelled bytes front code frames objects traps calls fits passes cut;
  numbers = candidate_words bytes front code frames objects traps calls fits cut;
  well_formed = record {
    limits = candidate_limits bytes front code frames objects traps calls passes cut;
    tables = tables_good bytes front code frames objects traps calls cut tables;
  };
}

-- bad tables leave no image
pub bad_is_none : (bytes front code frames objects traps calls : List ℕ) (image : Image) → IsBytes bytes → Passes bytes
    → IsCut bytes front code frames objects traps calls
    → (AreTables (header_word bytes 0) code frames objects traps calls → ⊥) → IsImage bytes image → ⊥
bad_is_none bytes front code frames objects traps calls image fits passes cut bad is =
    let same : image ≡ candidate bytes code frames objects traps calls =
    spelling_once image (candidate bytes code frames objects traps calls) is.numbers
    (candidate_words bytes front code frames objects traps calls fits cut)
    (sym is.spelled ∙ candidate_spelled bytes front code frames objects traps calls fits passes cut) in
    let formed = subst (λ (i : Image). IsImage bytes i) same is in
    bad (tables_back bytes front code frames objects traps calls cut formed.well_formed.tables)

pub bad_is_refused : (bytes front code frames objects traps calls : List ℕ) → IsBytes bytes → Passes bytes
    → IsCut bytes front code frames objects traps calls
    → (AreTables (header_word bytes 0) code frames objects traps calls → ⊥) → IsRefused bytes BadTable
bad_is_refused bytes front code frames objects traps calls fits passes cut bad =
    rw (passes_none bytes passes) (
      refl,
      λ image is. bad_is_none bytes front code frames objects traps calls image fits
          passes cut bad is,
    )

-- the call table of the pieces
pub call_table_of : (second : Bool) (table : Option (List ℕ)) (calls : List ℕ) → table
    ≡ (if second then Some calls else None)
    → option_map (λ bytes. call_rows_of (words bytes)) table ≡ call_table second calls
call_table_of true table calls e = rw e refl
call_table_of false table calls e = rw e refl

-- the image of a view's fields
pub view_is_candidate : (bytes code frames objects traps calls : List ℕ) (global : ℕ) (table : Option (List ℕ)) → global
    ≡ header_word bytes 0
    → table ≡ (if is_second bytes then Some calls else None)
    → record {
      global = global;
      code = words code;
      frames = frame_rows (words frames);
      objects = object_rows (words objects);
      traps = trap_rows (words traps);
      calls = option_map (λ part. call_rows_of (words part)) table;
    } ≡ candidate bytes code frames objects traps calls
view_is_candidate bytes code frames objects traps calls global table first version =
    rw (first, call_table_of (is_second bytes) table calls version) refl

pub calls_whole : (second : Bool) (table : Option (List ℕ)) (calls : List ℕ) (n : ℕ) → table
    ≡ (if second then Some calls else None) → length calls ≡ 8 * n
    → length (unwrap_or table []) % 8 ≡ 0
calls_whole true table calls n e len = rw e (omega arith)
calls_whole false table calls n e len = rw e refl

IsBytes-front : (a b : List ℕ) → IsBytes (a ++ b) → IsBytes a
IsBytes-front a b fits i = elim (cases_lt i (length a)) [
  | inl within ↦ (let h : get_or (a ++ b) i 0 < 256 = fits i in omega (arith, get_or-append a b 0 i within, h))
  | inr past ↦ rw (get_or_past a i 0 past) (omega arith)
]

IsBytes-back : (a b : List ℕ) → IsBytes (a ++ b) → IsBytes b
IsBytes-back a b fits i = rw (← get_or-append-add a b i 0) (fits (length a + i))

-- the code's bytes are those of its words
pub code_spelled : (bytes front code frames objects traps calls : List ℕ) → IsBytes bytes
    → IsCut bytes front code frames objects traps calls → word_bytes (words code) ≡ code
code_spelled bytes front code frames objects traps calls fits cut =
    let joined : IsBytes (front ++ (code ++ (frames ++ (objects ++ (traps ++ calls))))) = subst
    (λ (x : List ℕ). IsBytes x) cut.joined fits in
    word_bytes-words code (omega (arith, cut.code)) (IsBytes-front code _ (IsBytes-back front _ joined))

-- tables of the same globals
pub tables_along : (g h : ℕ) (code frames objects traps calls : List ℕ) → g ≡ h
    → AreTables g code frames objects traps calls → AreTables h code frames objects traps calls
tables_along g h code frames objects traps calls e tables = subst
    (λ (n : ℕ). AreTables n code frames objects traps calls) e tables

-- an image is not refused, and bytes are refused in one way
pub image_not_refused : (bytes : List ℕ) (image : Image) (refusal : ImageRefusal) → IsImage bytes image
    → IsRefused bytes refusal → ⊥
image_not_refused bytes image refusal is refused =
    let none : first_fault bytes ≡ None = passes_none bytes (image_passes bytes image is) in
    let P : Option ImageRefusal → Type 0 = λ fault. MatchOption fault
    ((refusal ≡ BadTable) × ((other : Image) → IsImage bytes other → ⊥)) (λ first. refusal ≡ first) in
    let bad = subst P none refused in
    bad.1 image is

pub refused_once : (bytes : List ℕ) (a b : ImageRefusal) → IsRefused bytes a → IsRefused bytes b → a ≡ b
refused_once bytes a b p q = by_fault (first_fault bytes) p q
  where
    by_fault : (fault : Option ImageRefusal)
        → MatchOption fault ((a ≡ BadTable) × ((other : Image) → IsImage bytes other → ⊥)) (λ first. a ≡ first)
        → MatchOption fault ((b ≡ BadTable) × ((other : Image) → IsImage bytes other → ⊥)) (λ first. b ≡ first) → a ≡ b
    by_fault None p q = p.0 ∙ sym q.0
    by_fault (Some fault) p q = p ∙ sym q
