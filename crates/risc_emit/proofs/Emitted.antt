-- What is left for the program to show of the image that it writes, and that it is the code's then.
use Rattle.std.proofs.Common.{◌≡◌, ℕ, zero, suc, ◌+◌, ◌*◌, ◌%◌, ◌<◌, ◌≤◌, Bool, true, false, cond, nat_lt, List, []}
use Rattle.std.proofs.Common.{◌∷◌, length, Some, slice_get, refl, ap, ◌∙◌, arith}
use Rattle.std.proofs.lemmas.Bool.{le-ltb}
use Rattle.tac_code.specs.declared.code.TacRoutine.{TacRoutine}
use Rattle.tac_code.specs.Meaning.{Code, routines, size}
use Rattle.tac_code.specs.Sound.{IsSound}
use Rattle.risc_alloc.specs.declared.homes.Home.{Home}
use Rattle.risc_alloc.specs.Homes.{temporaries_in}
use Rattle.risc_alloc.specs.Valid.{Valid}
use Rattle.risc_machine_laws.specs.View.{IsAt}
use Rattle.risc_image.specs.Image.{Image, IsWellFormed}
use Rattle.risc_image.specs.declared.header.TheConstants.{MAX_COUNT}
use Rattle.risc_emit_forms.specs.Pieces.{Piece, instr_at}
use Rattle.risc_emit_laws.specs.Plan as plan
use Rattle.risc_emit_laws.specs.Plan.{context}
use Rattle.risc_emit_laws.specs.Emits.{Emits}
use Rattle.risc_emit_laws.specs.Drawn.{program_pieces, entry_place, site_place, frame_rows_of, object_rows_of}
use Rattle.risc_emit_laws.specs.Drawn.{IsTabled, IsTexted, IsDrawn}
use Rattle.risc_emit_laws.proofs.Drawn.{drawn_emits}
use Rattle.risc_emit_laws.proofs.Formed.{formed}
use Rattle.risc_emit_laws.proofs.Charged.{frames_charged, objects_charged}
use Rattle.risc_emit_laws.proofs.Texts.{texts_placed}
use Rattle.risc_emit.specs.Layout.{frame_in, scratch_in, frame_cost, object_cost, object_cost_in, used, laid_out}
use Rattle.risc_emit.specs.declared.pieces.TheConstants.{WORD_LIMIT}
use Rattle.risc_emit.proofs.Laid.{plan_of, alike_laid, is_laid, parameters_first, cost_program, offsets_program}

-- an object is charged for its bytes, but for at least 4
charged : (bytes : ℕ) → (bytes ≤ object_cost bytes) × (4 ≤ object_cost bytes) × (object_cost bytes ≤ bytes + 4)
charged bytes = go (nat_lt bytes 4) refl
  where
    less : (a b : ℕ) → nat_lt a b ≡ true → a < b
    less a b e = grind (arith, e)

    least : (a b : ℕ) → nat_lt a b ≡ false → b ≤ a
    least a b e = grind (arith, e)

    go : (b : Bool) → nat_lt bytes 4 ≡ b → (bytes ≤ cond b 4 bytes) × (4 ≤ cond b 4 bytes)
        × (cond b 4 bytes ≤ bytes + 4)
    go true e = let lt = less bytes 4 e in (omega (arith, lt), omega arith, omega arith)
    go false e = let le = least bytes 4 e in (omega arith, omega (arith, le), omega arith)

charged_whole : (bytes : ℕ) → bytes % 4 ≡ 0 → object_cost bytes % 4 ≡ 0
charged_whole bytes e = go (nat_lt bytes 4)
  where
    go : (b : Bool) → cond b 4 bytes % 4 ≡ 0
    go true = refl
    go false = e

-- The image of a draft: its tables are read off the pieces, its words are theirs at the marked places, and then come
-- the constants.
pub record IsWritten (code : Code) (homes : List Home) (image : Image) (site : ℕ → ℕ → ℕ) (entry : ℕ → ℕ)
    (constant : ℕ → ℕ → ℕ) (first : List ℕ) : Type 0 where
  pub tabled : IsTabled (laid_out code homes) image
  pub texted : IsTexted code image constant first
  pub counted : length first ≡ length (program_pieces (laid_out code homes))
  pub constants : (r k : ℕ) → constant r k ≤ length image.code
  pub entries : (r : ℕ) (routine : TacRoutine) → slice_get (routines code) r ≡ Some routine → entry r ≡ entry_place
      (laid_out code homes) r
  pub sites : (r k : ℕ) (routine : TacRoutine) → slice_get (routines code) r ≡ Some routine → k ≤ length routine.body
      → site r k ≡ site_place (laid_out code homes) r routine k
  pub words : (heap stack at : ℕ) (p : Piece) → slice_get (program_pieces (laid_out code homes)) at ≡ Some p
      → IsAt image.code at (instr_at (context code homes (plan_of code site entry constant) image heap stack) at p)

module _ (code : Code) (homes : List Home) (sound : IsSound code) (valid : Valid code homes) (image : Image)
    (site : ℕ → ℕ → ℕ) (entry : ℕ → ℕ) (constant : ℕ → ℕ → ℕ) (first : List ℕ)
    (w : IsWritten code homes image site entry constant first) where
  costs : (r : ℕ) → plan.frame_cost image r ≡ frame_cost code r
  costs =
      frames_charged (laid_out code homes) image w.tabled
      (λ r le. ap (λ b. cond b (used code r) 0) (le-ltb r (length code.program) le))

  none_past : (xs : List ℕ) (t : ℕ) → length xs ≤ t → object_cost_in (slice_get xs t) ≡ 0
  none_past [] t le = refl
  none_past (x ∷ xs) zero le = absurd (omega (arith, le))
  none_past (x ∷ xs) (suc t) le = none_past xs t (omega (arith, le))

  sizes : (t : ℕ) → plan.object_cost image t ≡ object_cost_in (slice_get code.objects t)
  sizes = objects_charged (laid_out code homes) image w.tabled (λ t le. none_past code.objects t le)

  size_of : (t bytes : ℕ) → slice_get code.objects t ≡ Some bytes → plan.object_cost image t ≡ object_cost bytes
  size_of t bytes e = sizes t ∙ ap object_cost_in e

  sizes_good : (t bytes : ℕ) → slice_get code.objects t ≡ Some bytes → (plan.object_cost image t % 4 ≡ 0)
      × (bytes ≤ plan.object_cost image t) × (4 ≤ plan.object_cost image t) × (plan.object_cost image t < WORD_LIMIT)
  sizes_good t bytes e =
      let n = size_of t bytes e in
      let h = charged bytes in
      let h0 = h.0 in
      let h1 = h.1 in
      let h2 = h.2 in
      let below = (sound.objects t bytes e).below in (
        ap (λ z. z % 4) n ∙ charged_whole bytes (sound.objects t bytes e).aligned,
        omega (arith, n, h0),
        omega
            (arith, n, h1),
        omega (arith, n, h2, below),
      )

  few : length (program_pieces (laid_out code homes)) ≤ MAX_COUNT
  few = let a = w.tabled.pieces in let b = w.tabled.most in omega (arith, a, b)

  drawn : IsDrawn code homes image (plan_of code site entry constant) (laid_out code homes)
  drawn =
      record {
        of_code = refl;
        alike = alike_laid code homes sound valid image site entry constant costs sizes;
        laid = λ heap stack. is_laid code homes sound valid image site entry constant costs sizes heap stack
            (λ r k. let c = w.constants r k in omega (arith, c));
        entries = w.entries;
        sites = w.sites;
        parameters = parameters_first code homes sound valid image site entry constant costs sizes;
        texts = texts_placed code image constant first w.texted;
        sizes = sizes_good;
        few = few;
        words = w.words;
        traps = w.tabled.traps;
        calls = w.tabled.calls;
      }

  pub written_emits : Emits code homes image
  written_emits = drawn_emits code homes image (plan_of code site entry constant) (laid_out code homes) drawn

  pub written_formed : IsWellFormed image
  written_formed = formed (laid_out code homes) sound image w.tabled

  -- ---- the bounds

  frames_count : (r : ℕ) (xs : List TacRoutine) → length (frame_rows_of (laid_out code homes) r xs) ≡ length xs
  frames_count r [] = refl
  frames_count r (x ∷ xs) = ap suc (frames_count (suc r) xs)

  objects_count : (t : ℕ) (xs : List ℕ) → length (object_rows_of (laid_out code homes) t xs) ≡ length xs
  objects_count t [] = refl
  objects_count t (x ∷ xs) = ap suc (objects_count (suc t) xs)

  pub routines_counted : length image.frames ≡ length code.program
  routines_counted = ap length w.tabled.frames ∙ frames_count 0 code.program

  pub types_counted : length image.objects ≡ length code.objects
  types_counted = ap length w.tabled.objects ∙ objects_count 0 code.objects

  -- a routine of the program is charged for its blocks, its temporaries and 276 bytes more
  pub frame_charged : (r : ℕ) (routine : TacRoutine) → nat_lt r (length code.program) ≡ true → slice_get
      (routines code) r ≡ Some routine → plan.frame_cost image r ≡ 276 + size routine
  frame_charged r routine e is =
      let n = costs r in
      let m = cost_program code homes sound valid r e in
      let o = (offsets_program code homes sound valid r e).1 in
      let blocks = ap (λ x. frame_in x + scratch_in x + 4 * temporaries_in x) is in
      omega (arith, n, m, o, blocks)

  pub object_charged : (t bytes : ℕ) → slice_get code.objects t ≡ Some bytes → (4 ≤ plan.object_cost image t)
      × (plan.object_cost image t ≤ bytes + 4)
  object_charged t bytes e =
      let n = size_of t bytes e in
      let h = charged bytes in
      let h1 = h.1 in
      let h2 = h.2 in
      (omega (arith, n, h1), omega (arith, n, h2))
