-- Parts of variables as stretches of their blocks: what is there, and what the memory is where a part has another
-- value.
use Rattle.std.proofs.Common.{◌≡◌, ℕ, zero, suc, ◌+◌, ◌*◌, ◌<◌, ◌≤◌, List, [], ◌∷◌, length, slice_get, get_or, Some}
use Rattle.std.proofs.Common.{refl, sym, ap, ◌∙◌, subst, arith}
use Rattle.ps_tree.specs.Tree.{Program, routine_at, domain_at}
use Rattle.tac_code.specs.declared.code.Block.{Block}
use Rattle.tac_code.specs.Memory.{Words, Living, Constants, constant_words, living, words_in}
use Rattle.ps_meaning.specs.Values.{Value, Values, values_from, nth, components_of, with_part, Root, Declared, Made}
use Rattle.ps_meaning.specs.Values.{Spot}
use Rattle.ps_meaning.specs.Worlds.{World, contents_in, with_contents, unset}
use Rattle.tac_code_steps.specs.Splices.{spliced}
use Rattle.tac_code_steps.proofs.Pieces.{same_some}
use Rattle.ps_lower_layout.specs.Shapes.{Shape, NumberShape, PointerShape, SetShape, ByteShape, ArrayShape}
use Rattle.ps_lower_layout.specs.Shapes.{RecordShape, Shapes, no_shape, shape_before, shape_of, word_count, Whole}
use Rattle.ps_lower_layout.specs.Words.{filled, bytes_of, each, value_words, field_words}
use Rattle.ps_lower_layout.specs.Paths.{HasShape, GoesTo}
use Rattle.ps_lower_layout.specs.Frames.{entries}
use Rattle.ps_lower_layout.proofs.Counted.{counted}
use Rattle.ps_lower_relation.specs.Ghosts.{OwnSlot, Ghost, slot_kinds, slot_words, layout_at, pieces, block_words}
use Rattle.ps_lower_relation.specs.Ghosts.{frames_of, objects_of, SlotsFit, DeclaredAt, ObjectAt, RootAt, PlaceAt}
use Rattle.ps_lower_relation.specs.Ghosts.{Holds}
use Rattle.ps_lower_relation.specs.Spans.{SpanIn}
use Rattle.ps_lower_relation.proofs.Spans.{span_in}
use Rattle.ps_lower_relation.proofs.Pieces.{piece_at, pieces_placed, block_length}
use Rattle.ps_lower_relation.proofs.Writes.{placed_piece}
use Rattle.ps_lower_relation.proofs.Memory.{living_found}
use Rattle.ps_lower_relation.proofs.Memory.{ghost_fits, slot_fits, slot_read}
use Rattle.ps_lower_relation.proofs.Writes.{named_in, changed_found, block_written}
use Rattle.ps_lower_relation.proofs.Writes.{renewed}
use Rattle.ps_lower_relation.proofs.Objects.{object_words, object_fits, object_changed}
use Rattle.ps_lower_relation.proofs.Spots.{memory_of}
use Rattle.ps_lower_relation.proofs.Copies.{AreWritten, written_both}
use Rattle.ps_lower_relation.proofs.Blocks.{with_living, living_written, item_written, with_block, IsOpen}

-- ---- all words of a value are written

filled_written : (bytes : List ℕ) → AreWritten (constant_words (filled bytes))
filled_written [] = tt
filled_written (a ∷ []) = tt
filled_written (a ∷ b ∷ []) = tt
filled_written (a ∷ b ∷ c ∷ []) = tt
filled_written (a ∷ b ∷ c ∷ d ∷ rest) = filled_written rest

each_written : (n : ℕ) (words : Value → Words) (vs : Values) → ((v : Value) → AreWritten (words v)) → AreWritten
    (each n words vs)
each_written zero words vs h = tt
each_written (suc n) words vs h = written_both (words (nth vs 0)) (each n words (values_from vs 1)) (h (nth vs 0))
    (each_written n words (values_from vs 1) h)

mutual
  pub value_written : (shape : Shape) (v : Value) → AreWritten (value_words shape v)
  value_written (NumberShape first narrow) v = tt
  value_written (PointerShape pointer) v = tt
  value_written SetShape v = tt
  value_written (ByteShape count first) v = filled_written (bytes_of count (components_of v))
  value_written (ArrayShape count shape) v = each_written count (λ u. value_words shape u) (components_of v)
      (λ u. value_written shape u)
  value_written (RecordShape shapes) v = fields_written shapes (components_of v)

  fields_written : (shapes : Shapes) (vs : Values) → AreWritten (field_words shapes vs)
  fields_written no_shape vs = tt
  fields_written (shape_before shape rest) vs = written_both (value_words shape (nth vs 0))
      (field_words rest (values_from vs 1)) (value_written shape (nth vs 0)) (fields_written rest (values_from vs 1))

-- ---- the stretch of a part

module _ (program : Program) (w : World) (gs : List Ghost) (count : ℕ) (holds : Holds program gs w count) where
  -- the words of the block in which a part is, and which of them are the part's
  pub record StretchAt (constants : Constants) (scratch : List Living) (s : Spot) (b : Block) (o : ℕ) (inner : Shape)
      : Type 0 where
    pub words : Words
    pub start : ℕ
    pub can : IsOpen b
    pub there : words_in constants (memory_of program w gs scratch) b ≡ Some words
    pub is : o ≡ 4 * start
    pub within : start + word_count inner ≤ length words
    pub reads : (i : ℕ) → i < word_count inner → slice_get words (start + i) ≡ slice_get
        (value_words inner (contents_in w s)) i
    pub writes : (v : Value) → GoesTo w.made s.path v inner → with_block (memory_of program w gs scratch) b
        (spliced start (value_words inner v) words) ≡ memory_of program (with_contents w s v) gs scratch

  declared_stretch : (constants : Constants) (scratch : List Living) (name : ℕ) (path : List ℕ) (b : Block) (o : ℕ)
      (inner : Shape) → DeclaredAt program gs w.made name path b o (Whole inner) → StretchAt constants scratch (record {
        root = Declared name;
        path = path;
      }) b o inner
  declared_stretch constants scratch name path b o inner at =
      record {
        words = words;
        start = at.place + s.place;
        can = subst IsOpen (sym at.block) tt;
        there = ap (words_in constants (memory_of program w gs scratch)) at.block ∙ lives;
        is = let e = at.offset in let f = s.is in omega (arith, e, f);
        within = let limit = entry_within in let wide = counted at.shape old in let inside = s.within in omega
            (arith, size, limit, wide, inside);
        reads = λ i l.
            let wide = counted at.shape old in
            let inside = s.within in
            let e : at.place + s.place + i ≡ at.place + (s.place + i) = omega arith in
            ap (slice_get words) e ∙ slot_read program w g at.index at.place (s.place + i)
            (OwnSlot at.shape name) fits.0 at.stands at.slot (omega (arith, wide, inside, l)) ∙ s.reads i l;
        writes = λ v h. ap (λ c. with_block (memory_of program w gs scratch) c
            (spliced (at.place + s.place) (value_words inner v) words)) at.block ∙ ap (λ bs. record {
              frames = bs;
              scratch = scratch;
              objects = objects_of program w.made w.objects;
            }) (written v h);
      }
    where
      g : Ghost
      g = at.ghost

      old : Value
      old = w.store name

      words : Words
      words = block_words program w g

      fits : (slot_kinds g.slots ≡ entries (routine_at program g.routine)) × SlotsFit w.made w.store g.slots
      fits = ghost_fits program w.made w.store gs g.number g holds.fits at.there

      shaped : HasShape w.made old at.shape
      shaped = slot_fits program w.made w.store g.slots at.index (OwnSlot at.shape name) fits.1 at.slot

      s : SpanIn w.made old path at.shape inner at.inner
      s = span_in w.made old path at.shape inner at.inner shaped at.inside

      size : length words ≡ (layout_at program g.routine).size
      size = block_length program w g

      lives : living (frames_of program w gs) g.number ≡ Some words
      lives = living_found program w gs g.number g at.there

      entry_within : at.place + length (slot_words w.store (OwnSlot at.shape name)) ≤ (layout_at program g.routine).size
      entry_within = placed_piece program (layout_at program g.routine).size (pieces program w g) (suc at.index)
          (record {
            place = at.place;
            words = slot_words w.store (OwnSlot at.shape name);
          }) (pieces_placed program w g fits.0) (piece_at w.store
          (layout_at program g.routine).places g.slots at.index at.place (OwnSlot at.shape name) at.stands at.slot)

      written : (v : Value) → GoesTo w.made path v inner → with_living (frames_of program w gs) g.number
          (spliced (at.place + s.place) (value_words inner v) words) ≡ frames_of program
          (renewed program w name (with_part old path v)) gs
      written v h =
          let new = with_part old path v in
          let from = named_in program gs w.next g.number g holds.names at.there in
          let narrow = counted inner v in
          let inside = s.within in
          let block = block_written program w g from.0 from.1.0 at.index at.place s.place at.shape name new
          (value_words inner v) fits.0 from.1.1 at.stands at.slot (omega (arith, narrow, inside)) (s.writes v h).0
          in
          let all = block_words program (renewed program w name new) g in
          let after = changed_found program w gs w.next g.number at.index at.place g at.shape name new
          (λ ws. Some all) holds.names at.there at.stands at.slot refl in
          same_some (sym (living_written (frames_of program w gs) g.number words
          (spliced (at.place + s.place) (value_words inner v) words) (λ ws. Some all) lives (ap Some (sym block)))
          ∙ after)

  object_stretch : (constants : Constants) (scratch : List Living) (k : ℕ) (path : List ℕ) (b : Block) (o : ℕ)
      (inner : Shape) → ObjectAt program gs w.made k path b o (Whole inner) → StretchAt constants scratch (record {
        root = Made k;
        path = path;
      }) b o inner
  object_stretch constants scratch k path b o inner at =
      record {
        words = words;
        start = s.place;
        can = subst IsOpen (sym at.block) tt;
        there = ap (words_in constants (memory_of program w gs scratch)) at.block ∙ lives;
        is = s.is;
        within = let wide = counted shape old in let inside = s.within in omega (arith, wide, inside);
        reads = λ i l. s.reads i l;
        writes = λ v h.
            let written = item_written (objects_of program w.made w.objects) k words
            (spliced s.place (value_words inner v) words)
            (λ ws. Some (value_words shape (with_part old path v))) lives (ap Some (s.writes v h).0) in
            let after = object_changed program w.made w.made w.objects k at.pointer (with_part old path v)
            (λ ws. Some (value_words shape (with_part old path v))) holds.objects at.of_type refl in
            ap (λ c. with_block (memory_of program w gs scratch) c (spliced s.place (value_words inner v) words))
            at.block ∙ ap (λ os. record {
              frames = frames_of program w gs;
              scratch = scratch;
              objects = os;
            }) (same_some (sym written ∙ after));
      }
    where
      shape : Shape
      shape = shape_of (domain_at program at.pointer)

      old : Value
      old = get_or w.objects k unset

      words : Words
      words = value_words shape old

      s : SpanIn w.made old path shape inner o
      s = span_in w.made old path shape inner o
          (object_fits program w.made w.made w.objects k at.pointer holds.objects at.of_type) at.inside

      lives : slice_get (objects_of program w.made w.objects) k ≡ Some words
      lives = object_words program w.made w.made w.objects k at.pointer holds.objects at.of_type

  root_stretch : (constants : Constants) (scratch : List Living) (root : Root) (path : List ℕ) (b : Block) (o : ℕ)
      (inner : Shape) → RootAt program gs w.made root path b o (Whole inner) → StretchAt constants scratch (record {
        root = root;
        path = path;
      }) b o inner
  root_stretch constants scratch (Declared name) path b o inner at = declared_stretch constants scratch name path b o
      inner at
  root_stretch constants scratch (Made k) path b o inner at = object_stretch constants scratch k path b o inner at

  pub spot_stretch : (constants : Constants) (scratch : List Living) (s : Spot) (b : Block) (o : ℕ) (inner : Shape)
      → PlaceAt program gs w.made s b o (Whole inner) → StretchAt constants scratch (record {
        root = s.root;
        path = s.path;
      }) b o inner
  spot_stretch constants scratch s b o inner at = root_stretch constants scratch s.root s.path b o inner at
