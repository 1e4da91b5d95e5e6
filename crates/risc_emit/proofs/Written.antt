-- What the parts of an image are made from is all that the law of emission requires.
use Rattle.std.proofs.Common.{◌≡◌, ℕ, zero, suc, ◌+◌, ◌%◌, ◌<◌, ◌≤◌, Bool, true, false, cond, nat_lt, List, [], ◌∷◌}
use Rattle.std.proofs.Common.{◌++◌, length, length-append, map, Option, Some, None, is_some, slice_get, refl, sym, ap}
use Rattle.std.proofs.Common.{◌∙◌, subst, arith}
use Rattle.std.proofs.lemmas.List.{length-map}
use Rattle.std.proofs.lemmas.Bool.{lt-ltb}
use Rattle.std.proofs.lemmas.Option.{slice_get_within}
use Rattle.tac_code.specs.declared.code.TacRoutine.{TacRoutine}
use Rattle.tac_code.specs.Meaning.{Code, routines}
use Rattle.tac_code.specs.Sound.{IsSound}
use Rattle.tac_code.proofs.Items.{get_stays}
use Rattle.risc_alloc.specs.declared.homes.Home.{Home}
use Rattle.risc_alloc.specs.Valid.{Valid}
use Rattle.risc_machine_laws.specs.View.{IsAt}
use Rattle.risc_image.specs.Image.{Image, IsWellFormed}
use Rattle.risc_image.specs.declared.header.TheConstants.{MAX_COUNT}
use Rattle.risc_emit_relation.specs.Context.{Context}
use Rattle.risc_emit_forms.specs.Pieces as piece
use Rattle.risc_emit_forms.specs.Pieces.{AtPlace, AtEntry, AtText, Plain, Goes, Fails, Enters, Joins, EntersAt, High}
use Rattle.risc_emit_forms.specs.Pieces.{Low, instr_at}
use Rattle.risc_emit_laws.specs.Plan.{context}
use Rattle.risc_emit_laws.specs.Emits.{Emits}
use Rattle.risc_emit_laws.specs.Drawn.{program_pieces, trap_rows_of, call_rows_of, frame_rows_of, object_rows_of}
use Rattle.risc_emit_laws.specs.Drawn.{routines_texts, text_place, IsTabled}
use Rattle.risc_emit.specs.declared.pieces.Piece.{Piece}
use Rattle.risc_emit.specs.declared.marks.Marks.{Marks}
use Rattle.risc_emit.specs.Layout.{object_cost_in, laid_out}
use Rattle.risc_emit.specs.Meant.{meant, all_meant}
use Rattle.risc_emit.specs.Marked.{AreMarked}
use Rattle.risc_emit.specs.Placed.{site_at, entry_at, constant_at, placed, AreWordsOf}
use Rattle.risc_emit.specs.Emitted.{HasBounds}
use Rattle.risc_emit.proofs.Laid.{plan_of, cost_whole}
use Rattle.risc_emit.proofs.Emitted.{IsWritten, written_emits, written_formed, routines_counted, types_counted}
use Rattle.risc_emit.proofs.Emitted.{frame_charged, object_charged}
use Rattle.risc_emit.proofs.Places.{sites, texts, entries, text_within}

-- ---- lists

get_meant : (ps : List Piece) (i : ℕ) (p : piece.Piece) → slice_get (map meant ps) i ≡ Some p → (q : Piece)
    × (slice_get ps i ≡ Some q) × (meant q ≡ p)
get_meant [] i p e = absurd (cc e)
get_meant (x ∷ ps) zero p e = (x, refl, some_same (meant x) p e)
  where
    some_same : {X : Type 0} (x y : X) → Some x ≡ Some y → x ≡ y
    some_same x y e = cc e
get_meant (x ∷ ps) (suc i) p e = get_meant ps i p e

-- ---- pieces are the same instructions by the marks and in the image

module _ (c d : Context) (site : (r k : ℕ) → c.site r k ≡ d.site r k) (entry : (r : ℕ) → c.entry r ≡ d.entry r)
    (constant : (r k : ℕ) → c.constant r k ≡ d.constant r k) where
  labels_same : (l : piece.Label) → piece.label_place c l ≡ piece.label_place d l
  labels_same (AtPlace r k) = site r k
  labels_same (AtEntry r) = entry r
  labels_same (AtText r k) = constant r k

  pub instrs_same : (at : ℕ) (p : piece.Piece) → instr_at c at p ≡ instr_at d at p
  instrs_same at (Plain i) = refl
  instrs_same at (Goes condition label) =
      ap (λ n. instr_at (record d { entry = λ r. n }) at (Goes condition (AtEntry 0))) (labels_same label)
  instrs_same at (Fails condition number line) = refl
  instrs_same at (Enters r line) = ap (λ n. instr_at (record d { entry = λ q. n }) at (Enters r line)) (entry r)
  instrs_same at (Joins r) = ap (λ n. instr_at (record d { entry = λ q. n }) at (Joins r)) (entry r)
  instrs_same at (EntersAt q line) = refl
  instrs_same at (High q label) =
      ap (λ n. instr_at (record d { entry = λ r. n }) at (High q (AtEntry 0))) (labels_same label)
  instrs_same at (Low q label) =
      ap (λ n. instr_at (record d { entry = λ r. n }) at (Low q (AtEntry 0))) (labels_same label)

-- ---- objects

sizes_whole : (code : Code) → IsSound code → (t : ℕ) → object_cost_in (slice_get code.objects t) % 4 ≡ 0
sizes_whole code sound t = go (slice_get code.objects t) refl
  where
    whole : (bytes : ℕ) → bytes % 4 ≡ 0 → (b : Bool) → cond b 4 bytes % 4 ≡ 0
    whole bytes e true = refl
    whole bytes e false = e

    go : (o : Option ℕ) → slice_get code.objects t ≡ o → object_cost_in o % 4 ≡ 0
    go None is = refl
    go (Some bytes) is = whole bytes (sound.objects t bytes is).aligned (nat_lt bytes 4)

-- ---- an image of these parts

pub record IsMade (code : Code) (homes : List Home) (marks : List Marks) (pieces : List Piece) (words : List ℕ)
    (image : Image) : Type 0 where
  pub meant : all_meant pieces ≡ program_pieces (laid_out code homes)
  pub texts : words ≡ routines_texts (routines code)
  pub marked : AreMarked (laid_out code homes) marks
  pub few : length (program_pieces (laid_out code homes)) + length (routines_texts (routines code)) ≤ MAX_COUNT
  pub global : image.global ≡ 0
  pub code_words : AreWordsOf (placed marks (length pieces)) pieces words image.code
  pub frames : image.frames ≡ frame_rows_of (laid_out code homes) 0 code.program
  pub objects : image.objects ≡ object_rows_of (laid_out code homes) 0 code.objects
  pub traps : image.traps ≡ trap_rows_of 0 (all_meant pieces)
  pub calls : image.calls ≡ Some (call_rows_of 0 (all_meant pieces))

module _ (code : Code) (homes : List Home) (sound : IsSound code) (valid : Valid code homes) (marks : List Marks)
    (pieces : List Piece) (words : List ℕ) (image : Image) (m : IsMade code homes marks pieces words image) where
  pieces_count : length pieces ≡ length (program_pieces (laid_out code homes))
  pieces_count = sym (length-map pieces meant) ∙ ap length m.meant

  first_count : length m.code_words.first ≡ length (program_pieces (laid_out code homes))
  first_count = m.code_words.words.count ∙ pieces_count

  code_is : image.code ≡ m.code_words.first ++ routines_texts (routines code)
  code_is = m.code_words.is ∙ ap (λ ws. m.code_words.first ++ ws) m.texts

  code_count : length image.code ≡ length (program_pieces (laid_out code homes)) + length
      (routines_texts (routines code))
  code_count =
      let whole = ap length code_is in
      let n = length-append m.code_words.first (routines_texts (routines code)) in
      let f = first_count in
      omega (arith, whole, n, f)

  tabled : IsTabled (laid_out code homes) image
  tabled =
      let count = code_count in
      let few = m.few in
      record {
        global = m.global;
        most = omega (arith, count, few);
        pieces = omega (arith, count);
        frames = m.frames;
        objects = m.objects;
        traps = m.traps ∙ ap (trap_rows_of 0) m.meant;
        calls = m.calls ∙ ap (λ ps. Some (call_rows_of 0 ps)) m.meant;
        costs = cost_whole code homes sound valid;
        sizes = sizes_whole code sound;
      }

  constants_placed : (r k : ℕ) (routine : TacRoutine) → slice_get (routines code) r ≡ Some routine
      → k < length routine.body → constant_at marks (length pieces) r k ≡ length m.code_words.first
      + text_place code r routine k
  constants_placed r k routine is lt =
      let t = texts code homes marks m.marked r k routine is (omega (arith, lt)) in
      let f = m.code_words.words.count in
      omega (arith, t, f)

  constants_within : (r k : ℕ) → constant_at marks (length pieces) r k ≤ length image.code
  constants_within r k =
      let t = text_within code homes marks m.marked r k in
      let n = pieces_count in
      let count = code_count in
      omega (arith, t, n, count)

  word_at : (heap stack at : ℕ) (p : piece.Piece) → slice_get (program_pieces (laid_out code homes)) at ≡ Some p
      → IsAt image.code at (instr_at (context code homes
      (plan_of code (site_at marks) (entry_at marks) (constant_at marks (length pieces))) image heap stack) at p)
  word_at heap stack at p e =
      let q = get_meant pieces at p (ap (λ ps. slice_get ps at) m.meant ∙ e) in
      let lt = slice_get_within pieces at q.0 q.1 in
      let here = m.code_words.words.each at q.0 lt q.1 in
      let d = context code homes (plan_of code (site_at marks) (entry_at marks) (constant_at marks (length pieces)))
      image heap stack in
      let same : instr_at (placed marks (length pieces)) at (meant q.0) ≡ instr_at d at p = instrs_same
      (placed marks (length pieces)) d (λ r k. refl) (λ r. refl) (λ r k. refl) at (meant q.0)
      ∙ ap (instr_at d at) q.2 in
      let in_first : IsAt m.code_words.first at (instr_at d at p) = subst (IsAt m.code_words.first at) same here in
      record {
        word = ap (λ ws. slice_get ws at) m.code_words.is ∙ get_stays m.code_words.first words at _ in_first.word;
        ranges = in_first.ranges;
      }

  pub is_written : IsWritten code homes image (site_at marks) (entry_at marks)
      (constant_at marks (length pieces)) m.code_words.first
  is_written =
      record {
        tabled = tabled;
        texted = record { words = code_is; places = constants_placed };
        counted = first_count;
        constants = constants_within;
        entries = entries code homes marks m.marked;
        sites = sites code homes marks m.marked;
        words = word_at;
      }

  pub made_formed : IsWellFormed image
  made_formed = written_formed code homes sound valid image _ _ _ _ is_written

  pub made_emits : Emits code homes image
  made_emits = written_emits code homes sound valid image _ _ _ _ is_written

  pub made_bounded : HasBounds code image
  made_bounded =
      record {
        calls = ap is_some m.calls;
        routines = routines_counted code homes sound valid image _ _ _ _ is_written;
        types = types_counted code homes sound valid image _ _ _ _ is_written;
        frames = λ r routine is. frame_charged code homes sound valid image _ _ _ _ is_written r routine
            (lt-ltb r (length code.program) (slice_get_within code.program r routine is))
            (get_stays code.program code.run_time r routine is);
        objects = object_charged code homes sound valid image _ _ _ _ is_written;
      }

-- the parts that are put together
pub is_made : (code : Code) (homes : List Home) (own marks : List Marks) (drawn : List piece.Piece)
    (pieces : List Piece) (own_texts words : List ℕ) (image : Image) → AreMarked (laid_out code homes) own → marks ≡ own
    → all_meant pieces ≡ drawn → drawn ≡ program_pieces (laid_out code homes) → own_texts ≡ routines_texts
    (routines code) → words ≡ own_texts → length (program_pieces (laid_out code homes)) + length
    (routines_texts (routines code)) ≤ MAX_COUNT → image.global ≡ 0 → AreWordsOf
    (placed marks (length pieces)) pieces words image.code → image.frames ≡ frame_rows_of
    (laid_out code homes) 0 code.program → image.objects ≡ object_rows_of (laid_out code homes) 0 code.objects
    → image.traps ≡ trap_rows_of 0 (all_meant pieces) → image.calls ≡ Some (call_rows_of 0 (all_meant pieces))
    → IsMade code homes marks pieces words image
is_made code homes own marks drawn pieces own_texts words image marked e_marks e_pieces e_drawn e_texts e_words few
    global code_words frames objects traps calls =
    record {
      meant = e_pieces ∙ e_drawn;
      texts = e_words ∙ e_texts;
      marked = subst (AreMarked (laid_out code homes)) (sym e_marks) marked;
      few = few;
      global = global;
      code_words = code_words;
      frames = frames;
      objects = objects;
      traps = traps;
      calls = calls;
    }
