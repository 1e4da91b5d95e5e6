-- Bytes that pass the checks before the tables spell one candidate, which their pieces hold.
use Rattle.std.proofs.Common.{◌≡◌, ℕ, ◌+◌, ◌*◌, ◌%◌, ◌<◌, ◌≤◌, Bool, true, false, inl, inr, List, [], ◌∷◌, ◌++◌}
use Rattle.std.proofs.Common.{length, get_or, take, drop, refl, sym, ap, subst, ◌∙◌, arith}
use Rattle.std.specs.Prelude.{nat_eq, ◌&&◌, nat_lt, unwrap_or, if◌then◌else◌}
use Rattle.std.specs.List.{flat_map}
use Rattle.std.proofs.Math.ListN.{get_or-append}
use Rattle.std.proofs.lemmas.List.{get_or-drop}
use Rattle.std.proofs.lemmas.Bool.{eqb-true, ltb-false, and_parts, or_cases, or_parts}
use Rattle.std.proofs.lemmas.List.{drop-append-le, take-append-drop, length-drop}
use Rattle.risc_image.specs.declared.rows.CallRow.{CallRow}
use Rattle.risc_image.specs.declared.header.TheConstants.{MAX_COUNT}
use Rattle.risc_image.specs.Image.{IsWithinLimits, HasGoodTables, AreFrames, AreTraps, AreCalls}
use Rattle.risc_image.specs.Format.{magic_of, count_of, header, word_bytes, frame_words, object_words, trap_words}
use Rattle.risc_image.specs.Format.{call_words, image_words, spelling, AreWords}
use Rattle.risc_image.specs.Refusal.{begins_as_image, is_second, header_word, call_count}
use Rattle.risc_image.specs.Header.{Passes}
use Rattle.risc_image.specs.Table.{words, frame_rows, object_rows, trap_rows, call_rows_of}
use Rattle.risc_image.specs.Cut.{IsCut, AreTables, call_table, candidate}
use Rattle.risc_image.proofs.Spelled.{IsBytes, words_length, word_bytes-words, words-below}
use Rattle.risc_image.proofs.RowLemmas.{frame_rows-read, object_rows-read, trap_rows-read, call_rows-read}
use Rattle.risc_image.proofs.RowLemmas.{length_frame_rows, length_object_rows, length_trap_rows, length_call_rows}

-- ---- the magic

four_equal : (a b c d x y z w : ℕ) → (nat_eq a x && (nat_eq b y && (nat_eq c z && (nat_eq d w && true)))) ≡ true
    → (a ≡ x) × (b ≡ y) × (c ≡ z) × (d ≡ w)
four_equal a b c d x y z w e =
    let t1 = and_parts (nat_eq a x) _ e in
    let t2 = and_parts (nat_eq b y) _ t1.1 in
    let t3 = and_parts (nat_eq c z) _ t2.1 in
    let t4 = and_parts (nat_eq d w) _ t3.1 in
    (eqb-true a x t1.0, eqb-true b y t2.0, eqb-true c z t3.0, eqb-true d w t4.0)

-- the magic is that of the version
pub magic_read : (bytes calls : List ℕ) → begins_as_image bytes ≡ true → 4 ≤ length bytes → take 4 bytes ≡ magic_of
    (call_table (is_second bytes) calls)
magic_read (a ∷ b ∷ c ∷ d ∷ rest) calls begins long =
    elim (or_cases _ _ begins) [
      | inl first ↦ (let v = four_equal a b c d 0x50 0x52 0x49 0x31 first in rw (v.0, v.1, v.2, v.3) refl)
      | inr second ↦ (let v = four_equal a b c d 0x50 0x52 0x49 0x32 second in rw (v.0, v.1, v.2, v.3) refl)
    ]
magic_read (a ∷ b ∷ c ∷ []) calls begins long = absurd (omega arith)
magic_read (a ∷ b ∷ []) calls begins long = absurd (omega arith)
magic_read (a ∷ []) calls begins long = absurd (omega arith)
magic_read [] calls begins long = absurd (omega arith)

-- ---- the words

pub words-append : (a b : List ℕ) → length a % 4 ≡ 0 → words (a ++ b) ≡ words a ++ words b
words-append (a ∷ b ∷ c ∷ d ∷ rest) more whole = rw (words-append rest more (omega arith)) refl
words-append (a ∷ b ∷ c ∷ []) more whole = absurd (omega arith)
words-append (a ∷ b ∷ []) more whole = absurd (omega arith)
words-append (a ∷ []) more whole = absurd (omega arith)
words-append [] more whole = refl

-- a list of five, and of six
five : (ws : List ℕ) → length ws ≡ 5 → ws ≡ get_or ws 0 0 ∷ get_or ws 1 0 ∷ get_or ws 2 0 ∷ get_or ws 3 0
    ∷ get_or ws 4 0 ∷ []
five (a ∷ b ∷ c ∷ d ∷ e ∷ []) len = refl
five (a ∷ b ∷ c ∷ d ∷ e ∷ f ∷ rest) len = absurd (omega arith)
five (a ∷ b ∷ c ∷ d ∷ []) len = absurd (omega arith)
five (a ∷ b ∷ c ∷ []) len = absurd (omega arith)
five (a ∷ b ∷ []) len = absurd (omega arith)
five (a ∷ []) len = absurd (omega arith)
five [] len = absurd (omega arith)

six : (ws : List ℕ) → length ws ≡ 6 → ws ≡ get_or ws 0 0 ∷ get_or ws 1 0 ∷ get_or ws 2 0 ∷ get_or ws 3 0 ∷ get_or ws 4 0
    ∷ get_or ws 5 0 ∷ []
six (a ∷ b ∷ c ∷ d ∷ e ∷ f ∷ []) len = refl
six (a ∷ b ∷ c ∷ d ∷ e ∷ f ∷ g ∷ rest) len = absurd (omega arith)
six (a ∷ b ∷ c ∷ d ∷ e ∷ []) len = absurd (omega arith)
six (a ∷ b ∷ c ∷ d ∷ []) len = absurd (omega arith)
six (a ∷ b ∷ c ∷ []) len = absurd (omega arith)
six (a ∷ b ∷ []) len = absurd (omega arith)
six (a ∷ []) len = absurd (omega arith)
six [] len = absurd (omega arith)

-- ---- the header

abbrev last_word : Bool → List ℕ → List ℕ
last_word true bytes = header_word bytes 5 ∷ []
last_word false bytes = []

abbrev header_words : Bool → List ℕ → List ℕ
header_words second bytes =
    header_word bytes 0 ∷ header_word bytes 1 ∷ header_word bytes 2 ∷ header_word bytes 3 ∷ header_word bytes 4
    ∷ last_word second bytes

front_word : (bytes front rest : List ℕ) (k : ℕ) → bytes ≡ front ++ rest → 4 ≤ length front → length front % 4 ≡ 0
    → k < length (words (drop 4 front))
    → header_word bytes k ≡ get_or (words (drop 4 front)) k 0
front_word bytes front rest k joined long whole within =
    ap (λ (x : List ℕ). get_or (words (drop 4 x)) k 0) joined
    ∙ ap (λ (x : List ℕ). get_or (words x) k 0) (drop-append-le 4 front rest long)
    ∙ ap (λ (x : List ℕ). get_or x k 0) (words-append (drop 4 front) rest (omega (arith, length-drop 4 front)))
    ∙ get_or-append (words (drop 4 front)) (words rest) 0 k within

front_read : (second : Bool) (bytes front rest : List ℕ) → bytes ≡ front ++ rest → length front
    ≡ (if second then 28 else 24)
    → words (drop 4 front) ≡ header_words second bytes
front_read false bytes front rest joined len =
    let count : length (words (drop 4 front)) ≡ 5 = omega (arith, words_length (drop 4 front), length-drop 4 front) in
    rw (
      front_word bytes front rest 0 joined (omega arith) (omega arith) (omega arith),
      front_word bytes front rest 1 joined (omega arith) (omega arith) (omega arith),
      front_word bytes front rest 2 joined (omega arith) (omega arith) (omega arith),
      front_word bytes front rest 3 joined (omega arith) (omega arith) (omega arith),
      front_word bytes front rest 4 joined (omega arith) (omega arith) (omega arith),
    ) (five (words (drop 4 front)) count)
front_read true bytes front rest joined len =
    let count : length (words (drop 4 front)) ≡ 6 = omega (arith, words_length (drop 4 front), length-drop 4 front) in
    rw (
      front_word bytes front rest 0 joined (omega arith) (omega arith) (omega arith),
      front_word bytes front rest 1 joined (omega arith) (omega arith) (omega arith),
      front_word bytes front rest 2 joined (omega arith) (omega arith) (omega arith),
      front_word bytes front rest 3 joined (omega arith) (omega arith) (omega arith),
      front_word bytes front rest 4 joined (omega arith) (omega arith) (omega arith),
      front_word bytes front rest 5 joined (omega arith) (omega arith) (omega arith),
    ) (six (words (drop 4 front)) count)

-- the counts of a table that was cut so
code_count : (code : List ℕ) (n : ℕ) → length code ≡ 4 * n → length (words code) ≡ n
code_count code n len = omega (arith, words_length code)

frame_count : (table : List ℕ) (n : ℕ) → length table ≡ 8 * n → length (frame_rows (words table)) ≡ n
frame_count table n len = omega (arith, words_length table, length_frame_rows (words table))

object_count : (table : List ℕ) (n : ℕ) → length table ≡ 8 * n → length (object_rows (words table)) ≡ n
object_count table n len = omega (arith, words_length table, length_object_rows (words table))

trap_count : (table : List ℕ) (n : ℕ) → length table ≡ 12 * n → length (trap_rows (words table)) ≡ n
trap_count table n len = omega (arith, words_length table, length_trap_rows (words table))

call_count' : (table : List ℕ) (n : ℕ) → length table ≡ 8 * n → length (call_rows_of (words table)) ≡ n
call_count' table n len = omega (arith, words_length table, length_call_rows (words table))

last_count : (second : Bool) (bytes calls : List ℕ) → is_second bytes ≡ second → length calls ≡ 8 * call_count bytes
    → count_of (call_table second calls) ≡ last_word second bytes
last_count true bytes calls version len =
    let count : call_count bytes ≡ header_word bytes 5 = rw version refl in
    rw (call_count' calls (header_word bytes 5) (omega arith)) refl
last_count false bytes calls version len = refl

header_spelled : (bytes front code frames objects traps calls : List ℕ)
    → IsCut bytes front code frames objects traps calls
    → header (candidate bytes code frames objects traps calls) ≡ header_words (is_second bytes) bytes
header_spelled bytes front code frames objects traps calls cut =
    rw (
      code_count code _ cut.code,
      frame_count frames _ cut.frames,
      object_count objects _ cut.objects,
      trap_count
          traps _ cut.traps,
      last_count (is_second bytes) bytes calls refl cut.calls,
    ) refl

-- ---- the whole

call_words_read : (second : Bool) (bytes calls : List ℕ) → is_second bytes ≡ second → length calls
    ≡ 8 * call_count bytes
    → flat_map call_words (unwrap_or (call_table second calls) []) ≡ words calls
call_words_read true bytes calls version len = call_rows-read (words calls) (omega (arith, words_length calls))
call_words_read false bytes calls version len =
    let count : call_count bytes ≡ 0 = rw version refl in
    sym (no_words calls (omega arith))
  where
    no_words : (calls : List ℕ) → length calls ≡ 0 → words calls ≡ []
    no_words [] len = refl
    no_words (a ∷ rest) len = absurd (omega arith)

tail_read : (code frames objects traps calls : List ℕ) → length code % 4 ≡ 0 → length frames % 4 ≡ 0
    → length objects % 4 ≡ 0 → length traps % 4 ≡ 0
    → words (code ++ (frames ++ (objects ++ (traps ++ calls)))) ≡ words code
    ++ (words frames ++ (words objects ++ (words traps ++ words calls)))
tail_read code frames objects traps calls c f o t =
    rw (
      words-append code (frames ++ (objects ++ (traps ++ calls))) c,
      words-append frames
          (objects ++ (traps ++ calls)) f,
      words-append objects (traps ++ calls) o,
      words-append traps calls t,
    ) refl

header_four : (second : Bool) → ((if second then 28 else 24) % 4 ≡ 0) × (4 ≤ (if second then 28 else 24))
header_four true = (refl, omega arith)
header_four false = (refl, omega arith)

-- all words after the magic are the candidate's
pub words_read : (bytes front code frames objects traps calls : List ℕ)
    → IsCut bytes front code frames objects traps calls
    → words (drop 4 bytes) ≡ image_words (candidate bytes code frames objects traps calls)
words_read bytes front code frames objects traps calls cut =
    let four = header_four (is_second bytes) in
    let long : 4 ≤ length front = omega (arith, cut.front, four.1) in
    let whole : length front % 4 ≡ 0 = ap (λ (n : ℕ). n % 4) cut.front ∙ four.0 in
    let tail : List ℕ = code ++ (frames ++ (objects ++ (traps ++ calls))) in
    ap (λ (x : List ℕ). words (drop 4 x)) cut.joined
    ∙ ap (λ (x : List ℕ). words x) (drop-append-le 4 front (code ++ (frames ++ (objects ++ (traps ++ calls)))) long)
    ∙ words-append (drop 4 front) (code ++ (frames ++ (objects ++ (traps ++ calls))))
    (omega (arith, length-drop 4 front))
    ∙ ap (λ (x : List ℕ). x ++ words (code ++ (frames ++ (objects ++ (traps ++ calls)))))
    (front_read (is_second bytes) bytes front
    (code ++ (frames ++ (objects ++ (traps ++ calls)))) cut.joined cut.front ∙ sym
    (header_spelled bytes front code frames objects traps calls cut))
    ∙ ap (λ (x : List ℕ). header (candidate bytes code frames objects traps calls) ++ x)
    (tail_read code frames objects traps calls (omega (arith, cut.code)) (omega (arith, cut.frames))
    (omega (arith, cut.objects)) (omega (arith, cut.traps))
    ∙ tables_spelled)
  where
    tables_spelled : words code ++ (words frames ++ (words objects ++ (words traps ++ words calls)))
        ≡ words code ++ (flat_map frame_words (frame_rows (words frames))
        ++ (flat_map object_words (object_rows (words objects))
        ++ (flat_map trap_words (trap_rows (words traps)) ++ flat_map call_words
        (unwrap_or (call_table (is_second bytes) calls) []))))
    tables_spelled =
        rw (
          frame_rows-read (words frames) (omega (arith, words_length frames, cut.frames)),
          object_rows-read (words objects) (omega (arith, words_length objects, cut.objects)),
          trap_rows-read (words traps) (omega (arith, words_length traps, cut.traps)),
          call_words_read (is_second bytes) bytes calls refl cut.calls,
        ) refl

IsBytes-drop : (n : ℕ) (bytes : List ℕ) → IsBytes bytes → IsBytes (drop n bytes)
IsBytes-drop n bytes fits i = rw get_or-drop (fits (n + i))

-- the candidate is spelled by the bytes, in words, and is within the limits
pub candidate_spelled : (bytes front code frames objects traps calls : List ℕ) → IsBytes bytes → Passes bytes
    → IsCut bytes front code frames objects traps calls
    → bytes ≡ spelling (candidate bytes code frames objects traps calls)
candidate_spelled bytes front code frames objects traps calls fits passes cut =
    let four = header_four (is_second bytes) in
    let long : 4 ≤ length bytes = omega (arith, passes.long, four.1) in
    let whole : length (drop 4 bytes) % 4 ≡ 0 = omega (arith, passes.exact, four.0, four.1, length-drop 4 bytes) in
    sym (take-append-drop 4 bytes)
    ∙ ap (λ (x : List ℕ). x ++ drop 4 bytes) (magic_read bytes calls passes.begins long)
    ∙ ap (λ (x : List ℕ). magic_of (call_table (is_second bytes) calls) ++ x)
    (sym (word_bytes-words (drop 4 bytes) whole (IsBytes-drop 4 bytes fits))
    ∙ ap (λ (x : List ℕ). word_bytes x) (words_read bytes front code frames objects traps calls cut))

pub candidate_words : (bytes front code frames objects traps calls : List ℕ) → IsBytes bytes
    → IsCut bytes front code frames objects traps calls
    → AreWords (image_words (candidate bytes code frames objects traps calls))
candidate_words bytes front code frames objects traps calls fits cut =
    subst (λ (x : List ℕ). AreWords x) (words_read bytes front code frames objects traps calls cut)
    (words-below (drop 4 bytes) (IsBytes-drop 4 bytes fits))

call_limit : (second : Bool) (bytes calls : List ℕ) → is_second bytes ≡ second → length calls ≡ 8 * call_count bytes
    → call_count bytes ≤ MAX_COUNT
    → length (unwrap_or (call_table second calls) []) ≤ MAX_COUNT
call_limit true bytes calls version len few = omega (arith, call_count' calls (call_count bytes) len)
call_limit false bytes calls version len few = omega arith

pub candidate_limits : (bytes front code frames objects traps calls : List ℕ) → Passes bytes
    → IsCut bytes front code frames objects traps calls
    → IsWithinLimits (candidate bytes code frames objects traps calls)
candidate_limits bytes front code frames objects traps calls passes cut =
    let t6 = or_parts _ (nat_lt MAX_COUNT (call_count bytes)) passes.limits in
    let t5 = or_parts _ (nat_lt MAX_COUNT (header_word bytes 4)) t6.0 in
    let t4 = or_parts _ (nat_lt MAX_COUNT (header_word bytes 3)) t5.0 in
    let t3 = or_parts _ (nat_lt MAX_COUNT (header_word bytes 2)) t4.0 in
    let t2 = or_parts _ (nat_lt MAX_COUNT (header_word bytes 1)) t3.0 in
    let t1 = or_parts _ (nat_lt MAX_COUNT (header_word bytes 0)) t2.0 in
    record {
      global = ltb-false _ _ t1.1;
      code = omega (arith, ltb-false _ _ t2.1, code_count code _ cut.code);
      frames = omega (arith, ltb-false _ _ t3.1, frame_count frames _ cut.frames);
      objects = omega (arith, ltb-false _ _ t4.1, object_count objects _ cut.objects);
      traps = omega (arith, ltb-false _ _ t5.1, trap_count traps _ cut.traps);
      calls = call_limit (is_second bytes) bytes calls refl cut.calls (ltb-false _ _ t6.1);
    }

-- ---- the tables of the candidate

end_same : (code : List ℕ) (n : ℕ) → length code ≡ 4 * n → 4 * length (words code) ≡ length code
end_same code n len = omega (arith, words_length code)

rows_same : (second : Bool) (bytes calls : List ℕ) → is_second bytes ≡ second → length calls ≡ 8 * call_count bytes
    → unwrap_or (call_table second calls) [] ≡ call_rows_of (words calls)
rows_same true bytes calls version len = refl
rows_same false bytes calls version len =
    let count : call_count bytes ≡ 0 = rw version refl in
    sym (no_rows calls (omega arith))
  where
    no_rows : (calls : List ℕ) → length calls ≡ 0 → call_rows_of (words calls) ≡ []
    no_rows [] len = refl
    no_rows (a ∷ rest) len = absurd (omega arith)

pub tables_good : (bytes front code frames objects traps calls : List ℕ)
    → IsCut bytes front code frames objects traps calls
    → AreTables (header_word bytes 0) code frames objects traps calls → HasGoodTables
    (candidate bytes code frames objects traps calls)
tables_good bytes front code frames objects traps calls cut tables =
    let end : length code ≡ 4 * length (words code) = sym (end_same code _ cut.code) in
    let rows : call_rows_of (words calls) ≡ unwrap_or (call_table (is_second bytes) calls) [] = sym
    (rows_same (is_second bytes) bytes calls refl cut.calls) in
    record {
      some_code = omega (arith, tables.some_code, end);
      global_aligned = tables.global_aligned;
      frames = subst (λ (n : ℕ). AreFrames n (frame_rows (words frames))) end tables.frames;
      objects = tables.objects;
      traps = subst (λ (n : ℕ). AreTraps n (trap_rows (words traps))) end tables.traps;
      calls = subst (λ (n : ℕ). AreCalls n (unwrap_or (call_table (is_second bytes) calls) [])) end
          (subst (λ (x : List CallRow). AreCalls (length code) x) rows tables.calls);
    }

pub tables_back : (bytes front code frames objects traps calls : List ℕ)
    → IsCut bytes front code frames objects traps calls
    → HasGoodTables (candidate bytes code frames objects traps calls) → AreTables
    (header_word bytes 0) code frames objects traps calls
tables_back bytes front code frames objects traps calls cut good =
    let end : 4 * length (words code) ≡ length code = end_same code _ cut.code in
    let rows : unwrap_or (call_table (is_second bytes) calls) [] ≡ call_rows_of (words calls) = rows_same
    (is_second bytes) bytes calls refl cut.calls in
    record {
      some_code = omega (arith, good.some_code, end);
      global_aligned = good.global_aligned;
      frames = subst (λ (n : ℕ). AreFrames n (frame_rows (words frames))) end good.frames;
      objects = good.objects;
      traps = subst (λ (n : ℕ). AreTraps n (trap_rows (words traps))) end good.traps;
      calls = subst (λ (x : List CallRow). AreCalls (length code) x) rows
          (subst (λ (n : ℕ). AreCalls n (unwrap_or (call_table (is_second bytes) calls) [])) end good.calls);
    }
