-- Parts of variables are stretches of their words.
use Rattle.std.proofs.Common.{◌≡◌, ℕ, zero, suc, ◌+◌, ◌*◌, ◌<◌, ◌≤◌, List, [], ◌∷◌, ◌++◌, length, slice_get, Some}
use Rattle.std.proofs.Common.{refl, sym, ap, ◌∙◌, subst, mul-le-mul_right, arith}
use Rattle.tac_code.specs.Memory.{Words}
use Rattle.ps_meaning.specs.Values.{Value, OrdinalValue, NilValue, ObjectValue, SetValue, StructureValue, Values}
use Rattle.ps_meaning.specs.Values.{no_value, value_before, nth, with_nth, values_from, component, part, with_part}
use Rattle.tac_code_steps.specs.Splices.{overlaid, spliced}
use Rattle.tac_code_steps.proofs.Splices.{spliced_within}
use Rattle.tac_code_steps.proofs.Pieces.{same_some, some_none}
use Rattle.ps_lower_layout.specs.Shapes.{Shape, NumberShape, PointerShape, SetShape, ByteShape, ArrayShape}
use Rattle.ps_lower_layout.specs.Shapes.{RecordShape, Shapes, no_shape, shape_before, word_count, word_counts}
use Rattle.ps_lower_layout.specs.Shapes.{field_shape, words_before, Whole, Byte}
use Rattle.ps_lower_layout.specs.Words.{each, value_words, field_words}
use Rattle.ps_lower_layout.specs.Paths.{PathIn, KeepsByte, HasShape, HaveShape, HaveShapes, KeepsAt, GoesTo}
use Rattle.ps_lower_layout.proofs.Counted.{counted}
use Rattle.ps_lower_relation.specs.Spans.{SpanIn}

-- ---- lists one after another

pub get_front : (xs ys : Words) (i : ℕ) → i < length xs → slice_get (xs ++ ys) i ≡ slice_get xs i
get_front [] ys i h = absurd (omega arith)
get_front (x ∷ xs) ys zero h = refl
get_front (x ∷ xs) ys (suc i) h = get_front xs ys i (omega arith)

pub get_back : (xs ys : Words) (n i : ℕ) → n ≡ length xs → slice_get (xs ++ ys) (n + i) ≡ slice_get ys i
get_back [] ys n i e = let a : n + i ≡ i = omega arith in ap (slice_get ys) a
get_back (x ∷ xs) ys n i e = let a : n + i ≡ suc (length xs + i) = omega arith in ap (slice_get (x ∷ (xs ++ ys))) a
    ∙ get_back xs ys (length xs) i refl

overlaid_front : (ns xs ys : Words) → length ns ≤ length xs → overlaid ns (xs ++ ys) ≡ overlaid ns xs ++ ys
overlaid_front [] xs ys h = refl
overlaid_front (n ∷ ns) [] ys h = absurd (omega arith)
overlaid_front (n ∷ ns) (x ∷ xs) ys h = ap (λ l. n ∷ l) (overlaid_front ns xs ys (omega arith))

splice_front : (k : ℕ) (ns xs ys : Words) → k + length ns ≤ length xs → spliced k ns (xs ++ ys) ≡ spliced k ns xs ++ ys
splice_front zero ns xs ys h = overlaid_front ns xs ys (omega arith)
splice_front (suc k) ns [] ys h = absurd (omega arith)
splice_front (suc k) ns (x ∷ xs) ys h = ap (λ l. x ∷ l) (splice_front k ns xs ys (omega arith))

splice_back : (n k : ℕ) (ns xs ys : Words) → n ≡ length xs → spliced (n + k) ns (xs ++ ys) ≡ xs ++ spliced k ns ys
splice_back n k ns [] ys e = let a : n + k ≡ k = omega arith in ap (λ i. spliced i ns ys) a
splice_back n k ns (x ∷ xs) ys e = let a : n + k ≡ suc (length xs + k) = omega arith
    in ap (λ i. spliced i ns (x ∷ (xs ++ ys))) a ∙ ap (λ l. x ∷ l) (splice_back (length xs) k ns xs ys refl)

pub nth_from : (vs : Values) (k : ℕ) → nth (values_from vs 1) k ≡ nth vs (suc k)
nth_from no_value k = refl
nth_from (value_before v vs) k = refl

-- ---- a component of an array

component_fits : (made : List ℕ) (vs : Values) (n k : ℕ) (shape : Shape) → HaveShape made vs n shape → k < n
    → HasShape made (nth vs k) shape
component_fits made no_value zero k shape h l = absurd (omega arith)
component_fits made no_value (suc n) k shape h l = absurd h
component_fits made (value_before v vs) zero k shape h l = absurd (omega arith)
component_fits made (value_before v vs) (suc n) zero shape h l = h.0
component_fits made (value_before v vs) (suc n) (suc k) shape h l = component_fits made vs n k shape h.2 (omega arith)

pub component_set : (made : List ℕ) (vs : Values) (n k : ℕ) (shape : Shape) (u : Value) → HaveShape made vs n shape
    → HasShape made u shape → KeepsByte u shape → HaveShape made (with_nth vs k u) n shape
component_set made no_value zero k shape u h f kept = tt
component_set made no_value (suc n) k shape u h f kept = absurd h
component_set made (value_before v vs) zero k shape u h f kept = absurd h
component_set made (value_before v vs) (suc n) zero shape u h f kept = (f, kept, h.2)
component_set made (value_before v vs) (suc n) (suc k) shape u h f kept =
    (h.0, h.1, component_set made vs n k shape u h.2 f kept)

each_reads : (n k i : ℕ) (shape : Shape) (vs : Values) → k < n → i < word_count shape → slice_get
    (each n (λ u. value_words shape u) vs) (k * word_count shape + i) ≡ slice_get (value_words shape (nth vs k)) i
each_reads zero k i shape vs l h = absurd (omega arith)
each_reads (suc n) zero i shape vs l h =
    let c = counted shape (nth vs 0) in
    let e : 0 * word_count shape + i ≡ i = omega arith in
    ap (slice_get (each (suc n) (λ u. value_words shape u) vs)) e ∙ get_front (value_words shape (nth vs 0))
    (each n (λ u. value_words shape u) (values_from vs 1)) i (omega arith)
each_reads (suc n) (suc k) i shape vs l h =
    let e : suc k * word_count shape + i ≡ word_count shape + (k * word_count shape + i) = omega arith in
    ap (slice_get (each (suc n) (λ u. value_words shape u) vs)) e
    ∙ get_back (value_words shape (nth vs 0)) (each n (λ u. value_words shape u) (values_from vs 1)) (word_count shape)
    (k * word_count shape + i) (sym (counted shape (nth vs 0)))
    ∙ each_reads n k i shape (values_from vs 1) (omega arith) h
    ∙ ap (λ v. slice_get (value_words shape v) i) (nth_from vs k)

pub each_writes : (made : List ℕ) (n k : ℕ) (shape : Shape) (vs : Values) (u : Value) → HaveShape made vs n shape
    → k < n → each n (λ u. value_words shape u) (with_nth vs k u) ≡ spliced (k * word_count shape) (value_words shape u)
    (each n (λ u. value_words shape u) vs)
each_writes made zero k shape vs u h l = absurd (omega arith)
each_writes made (suc n) k shape no_value u h l = absurd h
each_writes made (suc n) zero shape (value_before v vs) u h l =
    let a = counted shape u in
    let b = counted shape v in
    let e : 0 * word_count shape ≡ 0 = omega arith in
    sym (ap (λ i. spliced i (value_words shape u) (value_words shape v ++ each n (λ u. value_words shape u) vs)) e
    ∙ overlaid_front (value_words shape u) (value_words shape v) (each n (λ u. value_words shape u) vs) (omega arith)
    ∙ ap (λ l. l ++ each n (λ u. value_words shape u) vs)
    (overlaid_all (value_words shape u) (value_words shape v) (omega arith)))
  where
    overlaid_all : (ns ws : Words) → length ns ≡ length ws → overlaid ns ws ≡ ns
    overlaid_all [] [] e = refl
    overlaid_all [] (w ∷ ws) e = absurd (omega arith)
    overlaid_all (n ∷ ns) [] e = absurd (omega arith)
    overlaid_all (n ∷ ns) (w ∷ ws) e = ap (λ l. n ∷ l) (overlaid_all ns ws (omega arith))
each_writes made (suc n) (suc k) shape (value_before v vs) u h l =
    let e : suc k * word_count shape ≡ word_count shape + k * word_count shape = omega arith in
    ap (λ l. value_words shape v ++ l) (each_writes made n k shape vs u h.2 (omega arith))
    ∙ sym (splice_back (word_count shape) (k * word_count shape) (value_words shape u) (value_words shape v)
    (each n (λ u. value_words shape u) vs) (sym (counted shape v)))
    ∙ ap (λ i. spliced i (value_words shape u) (value_words shape v ++ each n (λ u. value_words shape u) vs)) (sym e)

-- ---- a field of a record

field_fits : (made : List ℕ) (vs : Values) (shapes : Shapes) (k : ℕ) (shape : Shape) → HaveShapes made vs shapes
    → field_shape shapes k ≡ Some shape → HasShape made (nth vs k) shape
field_fits made no_value no_shape k shape h e = some_none e
field_fits made no_value (shape_before s rest) k shape h e = absurd h
field_fits made (value_before v vs) no_shape k shape h e = absurd h
field_fits made (value_before v vs) (shape_before s rest) zero shape h e = subst (HasShape made v) (same_some e) h.0
field_fits made (value_before v vs) (shape_before s rest) (suc k) shape h e = field_fits made vs rest k shape h.1 e

field_set : (made : List ℕ) (vs : Values) (shapes : Shapes) (k : ℕ) (shape : Shape) (u : Value)
    → HaveShapes made vs shapes → field_shape shapes k ≡ Some shape → HasShape made u shape → HaveShapes made
    (with_nth vs k u) shapes
field_set made no_value no_shape k shape u h e f = some_none e
field_set made no_value (shape_before s rest) k shape u h e f = absurd h
field_set made (value_before v vs) no_shape k shape u h e f = absurd h
field_set made (value_before v vs) (shape_before s rest) zero shape u h e f =
    (subst (HasShape made u) (sym (same_some e)) f, h.1)
field_set made (value_before v vs) (shape_before s rest) (suc k) shape u h e f =
    (h.0, field_set made vs rest k shape u h.1 e f)

pub field_within : (shapes : Shapes) (k : ℕ) (shape : Shape) → field_shape shapes k ≡ Some shape → words_before shapes k
    + word_count shape ≤ word_counts shapes
field_within no_shape k shape e = some_none e
field_within (shape_before s rest) zero shape e = let q = ap word_count (same_some e) in omega (arith, q)
field_within (shape_before s rest) (suc k) shape e = let r = field_within rest k shape e in omega (arith, r)

fields_read : (shapes : Shapes) (k i : ℕ) (shape : Shape) (vs : Values) → field_shape shapes k ≡ Some shape
    → i < word_count shape → slice_get (field_words shapes vs) (words_before shapes k + i) ≡ slice_get
    (value_words shape (nth vs k)) i
fields_read no_shape k i shape vs e h = some_none e
fields_read (shape_before s rest) zero i shape vs e h =
    let q = same_some e in
    let c = counted s (nth vs 0) in
    let b : i < word_count s = subst (λ z. i < word_count z) (sym q) h in
    let z : 0 + i ≡ i = omega arith in
    ap (slice_get (value_words s (nth vs 0) ++ field_words rest (values_from vs 1))) z
    ∙ get_front (value_words s (nth vs 0)) (field_words rest (values_from vs 1)) i (omega arith)
    ∙ ap (λ y. slice_get (value_words y (nth vs 0)) i) q
fields_read (shape_before s rest) (suc k) i shape vs e h =
    let a : word_count s + words_before rest k + i ≡ word_count s + (words_before rest k + i) = omega arith in
    ap (slice_get (value_words s (nth vs 0) ++ field_words rest (values_from vs 1))) a
    ∙ get_back (value_words s (nth vs 0)) (field_words rest (values_from vs 1)) (word_count s) (words_before rest k + i)
    (sym (counted s (nth vs 0)))
    ∙ fields_read rest k i shape (values_from vs 1) e h
    ∙ ap (λ v. slice_get (value_words shape v) i) (nth_from vs k)

overlaid_whole : (ns ws : Words) → length ns ≡ length ws → overlaid ns ws ≡ ns
overlaid_whole [] [] e = refl
overlaid_whole [] (w ∷ ws) e = absurd (omega arith)
overlaid_whole (n ∷ ns) [] e = absurd (omega arith)
overlaid_whole (n ∷ ns) (w ∷ ws) e = ap (λ l. n ∷ l) (overlaid_whole ns ws (omega arith))

fields_write : (made : List ℕ) (shapes : Shapes) (k : ℕ) (shape : Shape) (vs : Values) (u : Value)
    → HaveShapes made vs shapes → field_shape shapes k ≡ Some shape → field_words shapes (with_nth vs k u) ≡ spliced
    (words_before shapes k) (value_words shape u) (field_words shapes vs)
fields_write made no_shape k shape vs u h e = some_none e
fields_write made (shape_before s rest) k shape no_value u h e = absurd h
fields_write made (shape_before s rest) zero shape (value_before v vs) u h e =
    let q = same_some e in
    let a = counted s u in
    let b = counted s v in
    sym (ap (λ y. spliced 0 (value_words y u) (value_words s v ++ field_words rest vs)) (sym q)
    ∙ overlaid_front (value_words s u) (value_words s v) (field_words rest vs) (omega arith)
    ∙ ap (λ l. l ++ field_words rest vs) (overlaid_whole (value_words s u) (value_words s v) (omega arith)))
fields_write made (shape_before s rest) (suc k) shape (value_before v vs) u h e =
    ap (λ l. value_words s v ++ l) (fields_write made rest k shape vs u h.1 e)
    ∙ sym (splice_back (word_count s) (words_before rest k) (value_words shape u) (value_words s v)
    (field_words rest vs) (sym (counted s v)))

-- ---- paths

pub whole_same : {s t : Shape} → Whole s ≡ Whole t → s ≡ t
whole_same {s} {t} e = ap (λ q. elim q as (λ y. Shape) [ Whole z ↦ z | Byte ↦ s ]) e

pub byte_whole : {s : Shape} {A : Type 0} → Whole s ≡ Byte → A
byte_whole e = absurd (cc)

span_here : (made : List ℕ) (v : Value) (outer inner : Shape) (j : ℕ) → HasShape made v outer
    → (Whole inner ≡ Whole outer) → j ≡ 0 → SpanIn made v [] outer inner j
span_here made v outer inner j h e z =
    let q = whole_same e in
    let n = ap word_count q in
    record {
      place = 0;
      is = omega (arith, z);
      within = omega (arith, n);
      fits = subst (HasShape made v) (sym q) h;
      reads = λ i l. let a : 0 + i ≡ i = omega arith in ap (slice_get (value_words outer v)) a
          ∙ ap (λ y. slice_get (value_words y v) i) (sym q);
      writes = λ u f. let c = counted inner u in let b = counted outer v
          in (
            ap (λ y. value_words y u) (sym q) ∙ sym
                (overlaid_whole (value_words inner u) (value_words outer v) (omega (arith, n, b, c))),
            subst
                (HasShape made u) q f.0,
          );
    }

overlaid_self : (ms ws : Words) → ((i : ℕ) → i < length ms → slice_get ws i ≡ slice_get ms i) → length ms ≤ length ws
    → overlaid ms ws ≡ ws
overlaid_self [] ws h l = refl
overlaid_self (m ∷ ms) [] h l = absurd (omega arith)
overlaid_self (m ∷ ms) (w ∷ ws) h l =
    let e = same_some (h 0 (omega arith)) in
    ap (λ x. x ∷ overlaid ms ws) (sym e) ∙ ap (λ l. w ∷ l)
    (overlaid_self ms ws (λ i b. h (suc i) (omega (arith, b))) (omega arith))

-- a stretch put where it already is
pub spliced_self : (a : ℕ) (ms ws : Words) → ((i : ℕ) → i < length ms → slice_get ws (a + i) ≡ slice_get ms i) → a
    + length ms ≤ length ws → spliced a ms ws ≡ ws
spliced_self zero ms ws h l = overlaid_self ms ws
    (λ i b. let e : i ≡ 0 + i = omega arith in ap (slice_get ws) e ∙ h i b) (omega arith)
spliced_self (suc a) ms [] h l = refl
spliced_self (suc a) ms (w ∷ ws) h l = ap (λ l. w ∷ l)
    (spliced_self a ms ws (λ i b. let e : suc (a + i) ≡ suc a + i = omega arith in ap (slice_get (w ∷ ws)) e ∙ h i b)
    (omega arith))

pub nested : (a b : ℕ) (ns ms ws : Words) → ((i : ℕ) → i < length ms → slice_get ws (a + i) ≡ slice_get ms i) → a
    + length ms ≤ length ws → b + length ns ≤ length ms → spliced a (spliced b ns ms) ws ≡ spliced (a + b) ns ws
nested a b ns ms ws h l k = sym (spliced_within a b ns ms ws k) ∙ ap (spliced (a + b) ns) (spliced_self a ms ws h l)

-- ---- what goes to a component

pub keeps_at : (path : List ℕ) (v : Value) (shape : Shape) → KeepsByte v shape → KeepsAt path v shape
keeps_at [] v shape h = tt
keeps_at (k ∷ path) v shape h = h

pub goes_to : (made : List ℕ) (path : List ℕ) (v : Value) (shape : Shape) → HasShape made v shape → KeepsByte v shape
    → GoesTo made path v shape
goes_to made path v shape h kept = (h, keeps_at path v shape kept)

-- a component within which something is put is not a number
keeps_part : (w : Value) (path : List ℕ) (middle inner : Shape) (j : ℕ) → PathIn path middle (Whole inner) j
    → (u : Value) → KeepsByte u inner → KeepsByte (with_part w path u) middle
keeps_part w [] middle inner j p u h = subst (KeepsByte u) (whole_same p.0) h
keeps_part w (k ∷ path) (NumberShape first narrow) inner j p u h = absurd p
keeps_part w (k ∷ path) (PointerShape pointer) inner j p u h = tt
keeps_part w (k ∷ path) SetShape inner j p u h = tt
keeps_part w (k ∷ path) (ByteShape count first) inner j p u h = tt
keeps_part w (k ∷ path) (ArrayShape count shape) inner j p u h = tt
keeps_part w (k ∷ path) (RecordShape shapes) inner j p u h = tt

-- a span within a component
span_deeper : (made : List ℕ) (v w : Value) (k : ℕ) (path : List ℕ) (outer middle inner : Shape) (a j j' : ℕ)
    → (component v k ≡ w) → SpanIn made w path middle inner j → j' ≡ 4 * a + j → a
    + word_count middle ≤ word_count outer
    → ((i : ℕ) → i < word_count middle → slice_get (value_words outer v) (a + i) ≡ slice_get (value_words middle w) i)
    → ((u : Value) → KeepsByte u inner → KeepsByte (with_part w path u) middle)
    → ((u : Value) → HasShape made u middle → KeepsByte u middle
    → (value_words outer (with_part v (k ∷ []) u) ≡ spliced a (value_words middle u) (value_words outer v))
    × HasShape made (with_part v (k ∷ []) u) outer)
    → SpanIn made v (k ∷ path) outer inner j'
span_deeper made v w k path outer middle inner a j j' c s e within reads keeps writes =
    let b = s.place in
    let is = s.is in
    let inside = s.within in
    record {
      place = a + b;
      is = omega (arith, e, is);
      within = omega (arith, within, inside);
      fits = subst (λ z. HasShape made (part z path) inner) (sym c) s.fits;
      reads = λ i l. let q : a + b + i ≡ a + (b + i) = omega arith in ap (slice_get (value_words outer v)) q ∙ reads
          (b + i) (omega (arith, inside, l)) ∙ s.reads i l ∙ ap (λ z. slice_get (value_words inner (part z path)) i)
          (sym c);
      writes = λ u f.
          let in_part = s.writes u (goes_to made path u inner f.0 f.1) in
          let whole = writes (with_part w path u) in_part.1 (keeps u f.1) in
          let n = counted inner u in
          let moved = ap (λ z. with_part v (k ∷ []) (with_part z path u)) c in (
            ap (value_words outer) moved ∙ whole.0 ∙ ap (λ l. spliced a l (value_words outer v)) in_part.0 ∙ nested a b
                (value_words inner u) (value_words middle w) (value_words outer v)
                (λ i l. reads i (omega (arith, counted middle w, l)))
                (omega (arith, counted middle w, counted outer v, within))
                (omega (arith, n, counted middle w, inside)),
            subst (λ z. HasShape made z outer) (sym moved) whole.1,
          );
    }

-- where a path leads there is a stretch
pub span_in : (made : List ℕ) (v : Value) (path : List ℕ) (outer inner : Shape) (j : ℕ) → HasShape made v outer
    → PathIn path outer (Whole inner) j → SpanIn made v path outer inner j
span_in made v [] outer inner j h p = span_here made v outer inner j h p.0 p.1
span_in made v (k ∷ path) (NumberShape first narrow) inner j h p = absurd p
span_in made v (k ∷ path) (PointerShape pointer) inner j h p = absurd p
span_in made v (k ∷ path) SetShape inner j h p = absurd p
span_in made v (k ∷ []) (ByteShape count first) inner j h p = byte_whole p.1
span_in made v (k ∷ l ∷ path) (ByteShape count first) inner j h p = absurd p
span_in made (OrdinalValue z) (k ∷ path) (ArrayShape count shape) inner j h p = absurd h
span_in made NilValue (k ∷ path) (ArrayShape count shape) inner j h p = absurd h
span_in made (ObjectValue o) (k ∷ path) (ArrayShape count shape) inner j h p = absurd h
span_in made (SetValue s) (k ∷ path) (ArrayShape count shape) inner j h p = absurd h
span_in made (StructureValue vs) (k ∷ path) (ArrayShape count shape) inner j h p =
    let below = p.0 in
    let i = p.1.0 in
    let is = p.1.2 in
    let deep = span_in made (nth vs k) path shape inner i (component_fits made vs count k shape h below) p.1.1 in
    let product : suc k * word_count shape ≤ count * word_count shape = mul-le-mul_right (word_count shape) below in
    span_deeper made (StructureValue vs) (nth vs k) k path (ArrayShape count shape) shape inner
    (k * word_count shape) i j refl deep (omega (arith, is)) (omega (arith, product))
    (λ m l. each_reads count k m shape vs below l)
    (keeps_part (nth vs k) path shape inner i p.1.1)
    (λ u f kept. (each_writes made count k shape vs u h below, component_set made vs count k shape u h f kept))
span_in made (OrdinalValue z) (k ∷ path) (RecordShape shapes) inner j h p = absurd h
span_in made NilValue (k ∷ path) (RecordShape shapes) inner j h p = absurd h
span_in made (ObjectValue o) (k ∷ path) (RecordShape shapes) inner j h p = absurd h
span_in made (SetValue s) (k ∷ path) (RecordShape shapes) inner j h p = absurd h
span_in made (StructureValue vs) (k ∷ path) (RecordShape shapes) inner j h p =
    let shape = p.0 in
    let e = p.1 in
    let i = p.2.0 in
    let is = p.2.2 in
    let deep = span_in made (nth vs k) path shape inner i (field_fits made vs shapes k shape h e) p.2.1 in
    span_deeper made (StructureValue vs) (nth vs k) k path (RecordShape shapes) shape inner
    (words_before shapes k) i j refl deep is (field_within shapes k shape e)
    (λ m l. fields_read shapes k m shape vs e l)
    (keeps_part (nth vs k) path shape inner i p.2.1)
    (λ u f kept. (fields_write made shapes k shape vs u h e, field_set made vs shapes k shape u h e f))
