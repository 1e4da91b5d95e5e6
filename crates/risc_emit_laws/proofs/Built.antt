-- What an image that was made from a code makes of it in a memory: all that steps require.
use Rattle.std.proofs.Common.{◌≡◌, ℕ, zero, suc, ◌+◌, ◌<◌, ◌≤◌, ◌⊎◌, inl, inr, true, false, nat_eq, nat_lt, List, []}
use Rattle.std.proofs.Common.{◌∷◌, ◌++◌, length, Option, Some, None, slice_get, refl, sym, subst, arith}
use Rattle.std.specs.Prelude.{option_map, All}
use Rattle.std.proofs.lemmas.Bool.{eqb-true}
use Rattle.tac_code.specs.declared.code.Instruction.{Instruction}
use Rattle.tac_code.specs.declared.code.Instruction.TheVariants.{Call, CallValue}
use Rattle.tac_code.specs.declared.code.TacRoutine.{TacRoutine}
use Rattle.tac_code.specs.Meaning.{Code, routines, fetch}
use Rattle.tac_code.specs.Sound.{IsSound, IsSoundRoutine, limits_of}
use Rattle.risc_alloc.specs.declared.homes.Home.{Home}
use Rattle.risc_alloc.specs.declared.homes.Home.TheVariants.{Slot, Reg}
use Rattle.risc_alloc.specs.Valid.{Valid}
use Rattle.risc_alloc.specs.Flow.{gives_to}
use Rattle.risc_machine_laws.specs.View.{Fits, HasAt}
use Rattle.risc_image.specs.declared.rows.CallRow.{CallRow}
use Rattle.risc_image.specs.Image.{Image, IsWellFormed, IsCall, code_end, call_rows}
use Rattle.risc_image.specs.Table.{call_at}
use Rattle.risc_load.specs.Shows.{IsBudget}
use Rattle.risc_emit_relation.specs.Context.{Context, home, called, IsLaid}
use Rattle.risc_emit_forms.specs.Pieces.{Piece, Left}
use Rattle.risc_emit_forms.specs.Forms.{accept, offer, offer_by}
use Rattle.risc_emit_forms.specs.Follows.{stub, Stood, Built}
use Rattle.risc_emit_forms.proofs.Basics.{left_after, left_next, left_at}
use Rattle.risc_emit_forms.proofs.Joins.{get_append}
use Rattle.risc_emit_laws.specs.Plan.{frame_cost, Plan, before_resumes, context}
use Rattle.risc_emit_laws.specs.Emits.{IsLaidOut, Stand}

-- ---- tables

not_at : (n m : ℕ) → n < m → nat_eq m n ≡ false
not_at n m lt = grind (arith, lt)

is_program_first : (n : ℕ) → 0 < n → nat_lt 0 n ≡ true
is_program_first n lt = grind (arith, lt)

-- no call comes back to 0
no_call : (end : ℕ) (rows : List CallRow) → All (IsCall end) rows → option_map (λ row. row.line) (call_at 0 rows) ≡ None
no_call end [] h = refl
no_call end (row ∷ rows) h =
    let low = (h 0 row (omega arith)).link.low in
    rw (not_at 0 row.link (omega (arith, low))) (no_call end rows (λ k d lt. h (suc k) d (omega (arith, lt))))

-- ---- the first routine

pub first_routine : (code : Code) → IsSound code → (block : TacRoutine) × (slice_get (routines code) 0 ≡ Some block)
first_routine code sound = go code.program sound.begins
  where
    go : (xs : List TacRoutine) → 0 < length xs → (block : TacRoutine)
        × (slice_get (xs ++ code.run_time) 0 ≡ Some block)
    go [] lt = absurd (omega (arith, lt))
    go (x ∷ xs) lt = (x, refl)

pub sound_routine : (code : Code) → IsSound code → (r : ℕ) (routine : TacRoutine) → slice_get (routines code) r
    ≡ Some routine → IsSoundRoutine (limits_of code routine) routine
sound_routine code sound r routine e = go (get_append code.program code.run_time r routine e)
  where
    go : (slice_get code.program r ≡ Some routine) ⊎ ((m : ℕ) × (slice_get code.run_time m ≡ Some routine))
        → IsSoundRoutine (limits_of code routine) routine
    go (inl e) = sound.program r routine e
    go (inr e) = sound.run_time e.0 routine e.1

-- ---- a placed program in a memory

module _ (code : Code) (homes : List Home) (image : Image) (sound : IsSound code) (valid : Valid code homes)
    (formed : IsWellFormed image) (plan : Plan) (heap stack : ℕ) (budget : IsBudget image heap stack)
    (laid : IsLaidOut (context code homes plan image heap stack))
    (stand : Stand (context code homes plan image heap stack) image.code) where
  abbrev c : Context
  c = context code homes plan image heap stack

  abbrev words : List ℕ
  words = image.code

  pub fits : Fits words c.size
  fits =
      let top = budget.fits in
      record { room = omega arith; top = omega (arith, top) }

  pub stub_stands : HasAt words 1 stub
  stub_stands =
      let first = first_routine code sound in
      let st = stand.start first.0 first.1 in
      (st.2.0, (st.2.2.0, tt))

  accepted : (r : ℕ) (h : Home) → length (accept (before_resumes code homes plan image heap stack) r h) ≡ length
      (accept c r h)
  accepted r (Reg q) = refl
  accepted r (Slot k) = refl

  -- after the words of a call, which end in the words that accept its result
  resumed : (r j t : ℕ) (ps : List Piece) (p : Piece) → Left c words (c.site r j) (ps ++ (p ∷ accept c r (home c r t)))
      (c.site r (suc j)) → Left c words (c.resume r (suc j) t) (accept c r (home c r t)) (c.site r (suc j))
  resumed r j t ps p l =
      let l1 = left_after c words (c.site r j) (c.site r j + length ps) _ ps (p ∷ accept c r (home c r t)) l refl in
      let l2 = left_next c words (c.site r j + length ps) _ p (accept c r (home c r t)) l1 in
      let n = accepted r (home c r t) in
      left_at c words (c.site r j + length ps + 1) (c.resume r (suc j) t) _ (accept c r (home c r t)) l2
      (omega (arith, n, l2.ends))

  resumes : (r k t : ℕ) → called c r k t ≡ true → Left c words (c.resume r k t) (accept c r (home c r t)) (c.site r k)
  resumes r zero t e = absurd (cc e)
  resumes r (suc j) t e = go (fetch code r j) refl e
    where
      moved : (t u : ℕ) → u ≡ t → Left c words (c.resume r (suc j) u) (accept c r (home c r u)) (c.site r (suc j))
          → Left c words (c.resume r (suc j) t) (accept c r (home c r t)) (c.site r (suc j))
      moved t u e l = subst (λ x. Left c words (c.resume r (suc j) x) (accept c r (home c r x)) (c.site r (suc j))) e l

      go : (o : Option Instruction) → fetch code r j ≡ o → gives_to o t ≡ true → Left c words (c.resume r (suc j) t)
          (accept c r (home c r t)) (c.site r (suc j))
      go None here e = absurd (cc e)
      go (Some (Call u q us line)) here e =
          moved t u (sym (eqb-true t u e)) (resumed r j u (offer c r us) _ (stand.body r j (Call u q us line) here))
      go (Some (CallValue u a us line)) here e =
          moved t u (sym (eqb-true t u e)) (resumed r j u (offer_by c r a us) _
          (stand.body r j (CallValue u a us line) here))
      go (Some _) here e = absurd (cc e)

  laid_is : frame_cost image 0 ≤ c.size → IsLaid c
  laid_is room =
      record {
        link = laid.link;
        slots = laid.slots;
        slots_before = laid.slots_before;
        frame = λ r routine is. ((sound_routine code sound r routine is).frame, laid.frame r routine is);
        scratch = λ r routine is. ((sound_routine code sound r routine is).scratch, laid.scratch r routine is);
        frame_before = laid.frame_before;
        scratch_before = laid.scratch_before;
        aligned = laid.aligned;
        whole = laid.whole;
        program = laid.program;
        leaf = laid.leaf;
        first = is_program_first _ sound.begins;
        bottom = omega (arith, room);
        order = let top = budget.fits in let some = formed.tables.some_code
            in (omega (arith, some), omega arith, omega arith, omega (arith, top));
        even = let g = formed.tables.global_aligned in let h = budget.heap_even in let s = budget.stack_even
            in (omega (arith, g), omega (arith, g, h), omega (arith, g, h, s));
        constants = laid.constants;
      }

  pub stood_is : Stood c words
  stood_is =
      record {
        fits = fits;
        code = omega arith;
        short = formed.limits.code;
        stub = stub_stands;
        body = stand.body;
        entry = stand.entry;
        within = stand.within;
        within_entry = stand.within_entry;
        resumes = resumes;
        parameters = stand.parameters;
        texts = stand.texts;
        unlinked = no_call (code_end image) (call_rows image) formed.tables.calls.each;
        sizes = λ t bytes e. let z = stand.sizes t bytes e in ((sound.objects t bytes e).aligned, z.0, z.1, z.2, z.3);
      }

  pub built_is : frame_cost image 0 ≤ c.size → Built c words
  built_is room = record { sound = sound; laid = laid_is room; placed = valid; stood = stood_is }
