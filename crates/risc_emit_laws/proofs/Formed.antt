-- An image whose tables are read off a sound program's pieces is well formed.
use Rattle.std.proofs.Common.{◌≡◌, ℕ, zero, suc, ◌+◌, ◌*◌, ◌%◌, ◌<◌, ◌≤◌, Bool, true, false, cond, List, [], ◌∷◌, ◌++◌}
use Rattle.std.proofs.Common.{length, length-append, map, take, All, Some, slice_get, pos, refl, sym, ap, subst, arith}
use Rattle.std.specs.Prelude.{unwrap_or, slice_index}
use Rattle.std.specs.List.Sorted.{IsStrictlyIncreasing}
use Rattle.std.proofs.lemmas.List.Elements.{All-nil, All-cons}
use Rattle.risc_word.specs.declared.instr.Operation.TheVariants as op
use Rattle.risc_word.specs.declared.instr.Operand.TheVariants.{Content}
use Rattle.risc_word.specs.declared.instr.Width.TheVariants.{Word}
use Rattle.risc_word.specs.declared.instr.Condition.TheVariants as on
use Rattle.risc_word.specs.declared.instr.Instr.TheVariants as word
use Rattle.tac_code.specs.declared.code.Instruction.{Instruction}
use Rattle.tac_code.specs.declared.code.TacRoutine.{TacRoutine}
use Rattle.tac_code.specs.Meaning.{routines}
use Rattle.tac_code.specs.Sound.{IsSound, IsSoundRoutine, limits_of, IsSoundAt}
use Rattle.risc_image.specs.Image.{Image, IsFrame, IsObject, IsTrap, IsCall, AreFrames, AreObjects, AreTraps, AreCalls}
use Rattle.risc_image.specs.Image.{IsWellFormed, call_rows}
use Rattle.risc_emit_relation.specs.Context.{Context, is_program}
use Rattle.risc_emit_forms.specs.Pieces.{Piece, Plain, Goes, Fails, Enters, Joins, EntersAt, High, Low}
use Rattle.risc_emit_forms.specs.Forms as form
use Rattle.risc_emit_forms.specs.Forms.{entry_form}
use Rattle.risc_emit_laws.specs.Drawn.{body_pieces, routine_pieces, routines_pieces, start_pieces, program_pieces}
use Rattle.risc_emit_laws.specs.Drawn.{entry_place, trap_rows_of, call_rows_of, frame_rows_of, object_rows_of}
use Rattle.risc_emit_laws.specs.Drawn.{IsTabled}
use Rattle.risc_emit_laws.proofs.Built.{first_routine, sound_routine}
use Rattle.risc_emit_laws.proofs.Good.{AreGood, good_append, form_good}
use Rattle.risc_emit_laws.proofs.GoodEntries.{entry_good, start_good}
use Rattle.risc_emit_laws.proofs.Growing.{routines_grow}
use Rattle.risc_emit_laws.proofs.Drawn.{routine_step}

-- ---- ascending numbers

abbrev Rises : ℕ → List ℕ → Type 0
Rises low [] = Unit {0}
Rises low (x ∷ xs) = (low < x) × Rises x xs

rises_lower : (low high : ℕ) (xs : List ℕ) → low ≤ high → Rises high xs → Rises low xs
rises_lower low high [] le h = tt
rises_lower low high (x ∷ xs) le h = let lt = h.0 in (omega (arith, lt, le), h.1)

increasing_from : (x : ℕ) (xs : List ℕ) → Rises x xs → IsStrictlyIncreasing (x ∷ xs)
increasing_from x [] h k lt = absurd (omega (arith, lt))
increasing_from x (y ∷ xs) h zero lt = h.0
increasing_from x (y ∷ xs) h (suc k) lt =
    let n : suc (k + 1) ≡ suc k + 1 = omega arith in
    subst (λ m. slice_index (y ∷ xs) k < slice_index (x ∷ y ∷ xs) m) n (increasing_from y xs h.1 k (omega (arith, lt)))

increasing : (low : ℕ) (xs : List ℕ) → Rises low xs → IsStrictlyIncreasing xs
increasing low [] h k lt = absurd (omega (arith, lt))
increasing low (x ∷ xs) h k lt = increasing_from x xs h.1 k lt

-- ---- traps and calls

module _ (last : ℕ) where
  traps_good : (ps : List Piece) (at : ℕ) → at + length ps ≤ last → AreGood ps → All (IsTrap (4 * last))
      (trap_rows_of at ps)
  traps_good [] at le h = All-nil (IsTrap (4 * last))
  traps_good (Fails condition number line ∷ ps) at le h =
      let e = h.0.0 in
      let l = h.0.1 in
      All-cons (IsTrap (4 * last)) _ (trap_rows_of (at + 1) ps) (record {
        link = record {
          aligned = omega arith;
          low = omega arith;
          high = omega (arith, le);
        };
        error_low = e.0;
        error_high = e.1;
        line = record {
          low = l.0;
          high = l.1;
        };
      }) (traps_good ps (at + 1) (omega (arith, le)) h.1)
  traps_good (Plain i ∷ ps) at le h = traps_good ps (at + 1) (omega (arith, le)) h.1
  traps_good (Goes condition label ∷ ps) at le h = traps_good ps (at + 1) (omega (arith, le)) h.1
  traps_good (Enters r line ∷ ps) at le h = traps_good ps (at + 1) (omega (arith, le)) h.1
  traps_good (Joins r ∷ ps) at le h = traps_good ps (at + 1) (omega (arith, le)) h.1
  traps_good (EntersAt q line ∷ ps) at le h = traps_good ps (at + 1) (omega (arith, le)) h.1
  traps_good (High q label ∷ ps) at le h = traps_good ps (at + 1) (omega (arith, le)) h.1
  traps_good (Low q label ∷ ps) at le h = traps_good ps (at + 1) (omega (arith, le)) h.1

  good_call : (at line : ℕ) → at + 1 ≤ last → (1 ≤ line) × (line ≤ 65535) → IsCall (4 * last) (record {
    link = 4 * (at + 1);
    line = line;
  })
  good_call at line le l =
      record {
        link = record {
          aligned = omega arith;
          low = omega arith;
          high = omega (arith, le);
        };
        line = record {
          low = l.0;
          high = l.1;
        };
      }

  calls_good : (ps : List Piece) (at : ℕ) → at + length ps ≤ last → AreGood ps → All (IsCall (4 * last))
      (call_rows_of at ps)
  calls_good [] at le h = All-nil (IsCall (4 * last))
  calls_good (Enters r line ∷ ps) at le h =
      All-cons (IsCall (4 * last)) _ (call_rows_of (at + 1) ps) (good_call at line (omega (arith, le)) h.0)
      (calls_good ps (at + 1) (omega (arith, le)) h.1)
  calls_good (EntersAt q line ∷ ps) at le h =
      All-cons (IsCall (4 * last)) _ (call_rows_of (at + 1) ps) (good_call at line (omega (arith, le)) h.0)
      (calls_good ps (at + 1) (omega (arith, le)) h.1)
  calls_good (Plain i ∷ ps) at le h = calls_good ps (at + 1) (omega (arith, le)) h.1
  calls_good (Goes condition label ∷ ps) at le h = calls_good ps (at + 1) (omega (arith, le)) h.1
  calls_good (Fails condition number line ∷ ps) at le h = calls_good ps (at + 1) (omega (arith, le)) h.1
  calls_good (Joins r ∷ ps) at le h = calls_good ps (at + 1) (omega (arith, le)) h.1
  calls_good (High q label ∷ ps) at le h = calls_good ps (at + 1) (omega (arith, le)) h.1
  calls_good (Low q label ∷ ps) at le h = calls_good ps (at + 1) (omega (arith, le)) h.1

traps_rise : (ps : List Piece) (at : ℕ) → Rises (4 * at) (map (λ row. row.link) (trap_rows_of at ps))
traps_rise [] at = tt
traps_rise (Fails condition number line ∷ ps) at = (omega arith, traps_rise ps (at + 1))
traps_rise (Plain i ∷ ps) at = rises_lower _ (4 * (at + 1)) _ (omega arith) (traps_rise ps (at + 1))
traps_rise (Goes condition label ∷ ps) at = rises_lower _ (4 * (at + 1)) _ (omega arith) (traps_rise ps (at + 1))
traps_rise (Enters r line ∷ ps) at = rises_lower _ (4 * (at + 1)) _ (omega arith) (traps_rise ps (at + 1))
traps_rise (Joins r ∷ ps) at = rises_lower _ (4 * (at + 1)) _ (omega arith) (traps_rise ps (at + 1))
traps_rise (EntersAt q line ∷ ps) at = rises_lower _ (4 * (at + 1)) _ (omega arith) (traps_rise ps (at + 1))
traps_rise (High q label ∷ ps) at = rises_lower _ (4 * (at + 1)) _ (omega arith) (traps_rise ps (at + 1))
traps_rise (Low q label ∷ ps) at = rises_lower _ (4 * (at + 1)) _ (omega arith) (traps_rise ps (at + 1))

calls_rise : (ps : List Piece) (at : ℕ) → Rises (4 * at) (map (λ row. row.link) (call_rows_of at ps))
calls_rise [] at = tt
calls_rise (Enters r line ∷ ps) at = (omega arith, calls_rise ps (at + 1))
calls_rise (EntersAt q line ∷ ps) at = (omega arith, calls_rise ps (at + 1))
calls_rise (Plain i ∷ ps) at = rises_lower _ (4 * (at + 1)) _ (omega arith) (calls_rise ps (at + 1))
calls_rise (Goes condition label ∷ ps) at = rises_lower _ (4 * (at + 1)) _ (omega arith) (calls_rise ps (at + 1))
calls_rise (Fails condition number line ∷ ps) at = rises_lower _ (4 * (at + 1)) _ (omega arith) (calls_rise ps (at + 1))
calls_rise (Joins r ∷ ps) at = rises_lower _ (4 * (at + 1)) _ (omega arith) (calls_rise ps (at + 1))
calls_rise (High q label ∷ ps) at = rises_lower _ (4 * (at + 1)) _ (omega arith) (calls_rise ps (at + 1))
calls_rise (Low q label ∷ ps) at = rises_lower _ (4 * (at + 1)) _ (omega arith) (calls_rise ps (at + 1))

-- no more rows than pieces
traps_few : (ps : List Piece) (at : ℕ) → length (trap_rows_of at ps) ≤ length ps
traps_few [] at = omega arith
traps_few (Fails condition number line ∷ ps) at = let n = traps_few ps (at + 1) in omega (arith, n)
traps_few (Plain i ∷ ps) at = let n = traps_few ps (at + 1) in omega (arith, n)
traps_few (Goes condition label ∷ ps) at = let n = traps_few ps (at + 1) in omega (arith, n)
traps_few (Enters r line ∷ ps) at = let n = traps_few ps (at + 1) in omega (arith, n)
traps_few (Joins r ∷ ps) at = let n = traps_few ps (at + 1) in omega (arith, n)
traps_few (EntersAt q line ∷ ps) at = let n = traps_few ps (at + 1) in omega (arith, n)
traps_few (High q label ∷ ps) at = let n = traps_few ps (at + 1) in omega (arith, n)
traps_few (Low q label ∷ ps) at = let n = traps_few ps (at + 1) in omega (arith, n)

calls_few : (ps : List Piece) (at : ℕ) → length (call_rows_of at ps) ≤ length ps
calls_few [] at = omega arith
calls_few (Enters r line ∷ ps) at = let n = calls_few ps (at + 1) in omega (arith, n)
calls_few (EntersAt q line ∷ ps) at = let n = calls_few ps (at + 1) in omega (arith, n)
calls_few (Plain i ∷ ps) at = let n = calls_few ps (at + 1) in omega (arith, n)
calls_few (Goes condition label ∷ ps) at = let n = calls_few ps (at + 1) in omega (arith, n)
calls_few (Fails condition number line ∷ ps) at = let n = calls_few ps (at + 1) in omega (arith, n)
calls_few (Joins r ∷ ps) at = let n = calls_few ps (at + 1) in omega (arith, n)
calls_few (High q label ∷ ps) at = let n = calls_few ps (at + 1) in omega (arith, n)
calls_few (Low q label ∷ ps) at = let n = calls_few ps (at + 1) in omega (arith, n)

module _ (c : Context) (sound : IsSound c.code) where
  -- ---- the pieces are good

  body_good : (r k : ℕ) (routine : TacRoutine) (is : List Instruction)
      → ((j : ℕ) (i : Instruction) → slice_get is j ≡ Some i → IsSoundAt (limits_of c.code routine) (k + j) i) → AreGood
      (body_pieces c r k is)
  body_good r k routine [] h = tt
  body_good r k routine (x ∷ is) h =
      let n : k + 0 ≡ k = omega arith in
      let first = subst (λ q. IsSoundAt (limits_of c.code routine) q x) n (h 0 x refl) in
      good_append (form.form c r k x) (body_pieces c r (suc k) is) (form_good c r (limits_of c.code routine) k x first)
      (body_good r (suc k) routine is (λ j i e. let m : k + suc j ≡ suc k + j = omega arith in subst
      (λ q. IsSoundAt (limits_of c.code routine) q i) m (h (suc j) i e)))

  routine_good : (r : ℕ) (x : TacRoutine) → IsSoundRoutine (limits_of c.code x) x → AreGood (routine_pieces c r x)
  routine_good r x s =
      good_append (entry_form c r x) (body_pieces c r 0 x.body) (entry_good c r x s.begins)
      (body_good r 0 x x.body (λ j i e. let m : j ≡ 0 + j = omega arith in subst
      (λ q. IsSoundAt (limits_of c.code x) q i) m (s.body j i e)))

  routines_good : (r : ℕ) (xs : List TacRoutine)
      → ((j : ℕ) (x : TacRoutine) → slice_get xs j ≡ Some x → IsSoundRoutine (limits_of c.code x) x) → AreGood
      (routines_pieces c r xs)
  routines_good r [] h = tt
  routines_good r (x ∷ xs) h =
      good_append (routine_pieces c r x) (routines_pieces c (suc r) xs) (routine_good r x (h 0 x refl))
      (routines_good (suc r) xs (λ j y e. h (suc j) y e))

  starts_good : (xs : List TacRoutine) → ((j : ℕ) (x : TacRoutine) → slice_get xs j ≡ Some x → IsSoundRoutine
      (limits_of c.code x) x) → AreGood (start_pieces c xs)
  starts_good [] h = tt
  starts_good (x ∷ xs) h = start_good c x (h 0 x refl).begins

  pub program_good : AreGood (program_pieces c)
  program_good =
      let all = λ (j : ℕ) (x : TacRoutine) (e : slice_get (routines c.code) j ≡ Some x). sound_routine c.code sound j x
      e in
      good_append (start_pieces c (routines c.code)) (routines_pieces c 0 (routines c.code))
      (starts_good (routines c.code) all) (routines_good 0 (routines c.code) all)

  -- ---- frames

  some_entry : (r : ℕ) (x : TacRoutine) → 1 ≤ length (entry_form c r x)
  some_entry r x = go (is_program c r) (form.is_entered c r x)
    where
      go : (b e : Bool) → 1 ≤ length (cond b (cond e (form.enter_form c r x) (Fails on.Always 12 x.line ∷ []))
          (form.join_form c r x))
      go true true =
          let n = length-append (form.frame_below c r (c.costs r))
          (Plain (word.Load Word 11 13 (pos 268)) ∷ Plain (word.Operate op.Sub 11 12 (Content 11))
          ∷ Fails on.Less 12 x.line ∷ Plain (word.Store Word 15 12 (pos 0)) ∷ Plain (word.Store Word 14 12 (pos 4))
          ∷ Plain (word.Move 14 (Content 12)) ∷ form.arrive c r (c.costs r) x.parameters) in
          omega (arith, n)
      go true false = omega arith
      go false e = omega arith

  some_routine : (r : ℕ) (x : TacRoutine) → 1 ≤ length (routine_pieces c r x)
  some_routine r x =
      let e = some_entry r x in
      let n = length-append (entry_form c r x) (body_pieces c r 0 x.body) in
      omega (arith, e, n)

  entry_next : (r : ℕ) (x : TacRoutine) → slice_get (routines c.code) r ≡ Some x → entry_place c r < entry_place c
      (suc r)
  entry_next r x is =
      let n = ap length (routines_grow c (routines c.code) r x is) in
      let m = length-append (routines_pieces c 0 (take r (routines c.code))) (routine_pieces c r x) in
      let e = some_routine r x in
      omega (arith, n, m, e)

  entry_within : (r : ℕ) (x : TacRoutine) → slice_get (routines c.code) r ≡ Some x → entry_place c r < length
      (program_pieces c)
  entry_within r x is =
      let step = routine_step c 0 (routines c.code) r x is in
      let z : 0 + r ≡ r = omega arith in
      let there = ap (λ q. length (routine_pieces c q x)) z in
      let n = length-append (start_pieces c (routines c.code)) (routines_pieces c 0 (routines c.code)) in
      let e = some_routine r x in
      omega (arith, step, there, n, e)

  entry_low : 0 < length c.code.program → (r : ℕ) → 0 < entry_place c r
  entry_low some r = let n = first (c.code.program) some in omega (arith, n)
    where
      first : (xs : List TacRoutine) → 0 < length xs → 0 < length (start_pieces c (xs ++ c.code.run_time))
      first [] lt = absurd (omega (arith, lt))
      first (x ∷ xs) lt = omega arith

  -- the routines from a number on are those of a list
  abbrev Follow : ℕ → List TacRoutine → Type 0
  Follow r xs = (j : ℕ) (x : TacRoutine) → slice_get xs j ≡ Some x → slice_get (routines c.code) (r + j) ≡ Some x

  follow_first : (r : ℕ) (x : TacRoutine) (xs : List TacRoutine) → Follow r (x ∷ xs) → slice_get (routines c.code) r
      ≡ Some x
  follow_first r x xs h =
      let n : r + 0 ≡ r = omega arith in subst (λ q. slice_get (routines c.code) q ≡ Some x) n (h 0 x refl)

  follow_rest : (r : ℕ) (x : TacRoutine) (xs : List TacRoutine) → Follow r (x ∷ xs) → Follow (suc r) xs
  follow_rest r x xs h j y e =
      let n : r + suc j ≡ suc r + j = omega arith in
      subst (λ q. slice_get (routines c.code) q ≡ Some y) n (h (suc j) y e)

  frames_rise : (r low : ℕ) (xs : List TacRoutine) → Follow r xs → low < 4 * entry_place c r → Rises low
      (map (λ row. row.entry) (frame_rows_of c r xs))
  frames_rise r low [] h lt = tt
  frames_rise r low (x ∷ xs) h lt =
      let next = entry_next r x (follow_first r x xs h) in
      (lt, frames_rise (suc r) (4 * entry_place c r) xs (follow_rest r x xs h) (omega (arith, next)))

  frames_good : (last r : ℕ) (xs : List TacRoutine) → length (program_pieces c) ≤ last → ((q : ℕ) → c.costs q % 4 ≡ 0)
      → Follow r xs → All (IsFrame (4 * last)) (frame_rows_of c r xs)
  frames_good last r [] le whole h = All-nil (IsFrame (4 * last))
  frames_good last r (x ∷ xs) le whole h =
      let within = entry_within r x (follow_first r x xs h) in
      All-cons (IsFrame (4 * last)) _ (frame_rows_of c (suc r) xs) (record {
        entry_aligned = omega arith;
        entry_within = omega (arith, within, le);
        bytes_aligned = whole r;
      }) (frames_good last (suc r) xs le whole (follow_rest r x xs h))

  -- as many rows as routines, each of which has a piece
  frames_few : (r : ℕ) (xs : List TacRoutine) → Follow r xs → entry_place c r ≤ length (program_pieces c) → length
      (frame_rows_of c r xs) + entry_place c r ≤ length (program_pieces c)
  frames_few r [] h le = omega (arith, le)
  frames_few r (x ∷ xs) h le =
      let is = follow_first r x xs h in
      let next = entry_next r x is in
      let rest = frames_few (suc r) xs (follow_rest r x xs h) (next_within r x is) in
      omega (arith, next, rest)
    where
      next_within : (r : ℕ) (x : TacRoutine) → slice_get (routines c.code) r ≡ Some x → entry_place c (suc r) ≤ length
          (program_pieces c)
      next_within r x is =
          let step = routine_step c 0 (routines c.code) r x is in
          let z : 0 + r ≡ r = omega arith in
          let there = ap (λ q. length (routine_pieces c q x)) z in
          let n = length-append (start_pieces c (routines c.code)) (routines_pieces c 0 (routines c.code)) in
          let g = ap length (routines_grow c (routines c.code) r x is) in
          let m = length-append (routines_pieces c 0 (take r (routines c.code))) (routine_pieces c r x) in
          omega (arith, step, there, n, g, m)

  -- ---- objects

  objects_rise : (t : ℕ) (xs : List ℕ) → Rises t (map (λ row. row.pointer_type) (object_rows_of c (suc t) xs))
  objects_rise t [] = tt
  objects_rise t (x ∷ xs) = (omega arith, objects_rise (suc t) xs)

  objects_increase : (xs : List ℕ) → IsStrictlyIncreasing (map (λ row. row.pointer_type) (object_rows_of c 0 xs))
  objects_increase [] k lt = absurd (omega (arith, lt))
  objects_increase (x ∷ xs) k lt = increasing_from 0 _ (objects_rise 0 xs) k lt

  objects_good : (t : ℕ) (xs : List ℕ) → ((q : ℕ) → c.sizes q % 4 ≡ 0) → All IsObject (object_rows_of c t xs)
  objects_good t [] whole = All-nil IsObject
  objects_good t (x ∷ xs) whole =
      All-cons IsObject _ (object_rows_of c (suc t) xs) (record {
        bytes_aligned = whole t;
      }) (objects_good (suc t) xs whole)

  objects_count : (t : ℕ) (xs : List ℕ) → length (object_rows_of c t xs) ≡ length xs
  objects_count t [] = refl
  objects_count t (x ∷ xs) = ap suc (objects_count (suc t) xs)

  -- ---- the whole

  program_follows : Follow 0 c.code.program
  program_follows j x e =
      let n : j ≡ 0 + j = omega arith in
      subst (λ q. slice_get (routines c.code) q ≡ Some x) n (get_front c.code.program c.code.run_time j x e)
    where
      get_front : (xs ys : List TacRoutine) (j : ℕ) (x : TacRoutine) → slice_get xs j ≡ Some x → slice_get (xs ++ ys) j
          ≡ Some x
      get_front [] ys j x e = absurd (cc e)
      get_front (y ∷ xs) ys zero x e = e
      get_front (y ∷ xs) ys (suc j) x e = get_front xs ys j x e

  pub formed : (image : Image) → IsTabled c image → IsWellFormed image
  formed image t =
      let n = length image.code in
      let ps = program_pieces c in
      let le = t.pieces in
      let most = t.most in
      let some = entry_low sound.begins 0 in
      let good = program_good in
      let first = first_routine c.code sound in
      let within = entry_within 0 first.0 first.1 in
      let frames = frames_few 0 c.code.program program_follows (omega (arith, within)) in
      let frames_are = ap length t.frames in
      let objects = objects_count 0 c.code.objects in
      let objects_are = ap length t.objects in
      let types = sound.types in
      let traps = traps_few ps 0 in
      let traps_are = ap length t.traps in
      let calls = calls_few ps 0 in
      let calls_are : call_rows image ≡ call_rows_of 0 ps = ap (λ rows. unwrap_or rows []) t.calls in
      let calls_length = ap length calls_are in
      let global = t.global in
      record {
        limits = record {
          global = omega (arith, global);
          code = most;
          frames = omega (arith, frames, frames_are, le, most);
          objects = omega (arith, objects, objects_are, types);
          traps = omega (arith, traps, traps_are, le, most);
          calls = omega (arith, calls, calls_length, le, most);
        };
        tables = record {
          some_code = omega (arith, within, le);
          global_aligned = omega (arith, global);
          frames = subst (AreFrames (4 * n)) (sym t.frames) (record {
            each = frames_good n 0 c.code.program le t.costs program_follows;
            rising = increasing 0 _ (frames_rise 0 0 c.code.program program_follows (omega (arith, some)));
          });
          objects = subst AreObjects (sym t.objects) (record {
            each = objects_good 0 c.code.objects t.sizes;
            rising = objects_increase c.code.objects;
          });
          traps = subst (AreTraps (4 * n)) (sym t.traps) (record {
            each = traps_good n ps 0 (omega (arith, le)) good;
            rising = increasing 0 _ (traps_rise ps 0);
          });
          calls = subst (AreCalls (4 * n)) (sym calls_are) (record {
            each = calls_good n ps 0 (omega (arith, le)) good;
            rising = increasing 0 _ (calls_rise ps 0);
          });
        };
      }
