-- An image that is built from pieces is the code's.
use Rattle.std.proofs.Common.{◌≡◌, ℕ, zero, suc, ◌+◌, ◌*◌, ◌<◌, ◌≤◌, nat_lt, List, [], ◌∷◌, length, length-append}
use Rattle.std.proofs.Common.{take, Option, Some, None, slice_get, refl, sym, ap, ◌∙◌, subst, arith, zero-add}
use Rattle.std.specs.Prelude.{option_map, unwrap_or}
use Rattle.std.proofs.lemmas.Option.{slice_get_within}
use Rattle.tac_code.specs.declared.code.Instruction.{Instruction}
use Rattle.tac_code.specs.declared.code.TacRoutine.{TacRoutine}
use Rattle.tac_code.specs.Meaning.{Code, routines, body_at, fetch}
use Rattle.risc_alloc.specs.declared.homes.Home.{Home}
use Rattle.risc_word.specs.declared.instr.Condition.{Condition}
use Rattle.risc_machine_laws.specs.View.{IsAt}
use Rattle.risc_image.specs.declared.rows.TrapRow.{TrapRow}
use Rattle.risc_image.specs.declared.rows.CallRow.{CallRow}
use Rattle.risc_image.specs.Image.{Image}
use Rattle.risc_image.specs.Table.{trap_at, call_at}
use Rattle.risc_image.specs.declared.header.TheConstants.{MAX_COUNT}
use Rattle.risc_emit_relation.specs.Context.{Context}
use Rattle.risc_emit_forms.specs.Pieces.{Piece, Plain, Goes, Fails, Enters, Joins, EntersAt, High, Low, instr_at}
use Rattle.risc_emit_forms.specs.Pieces.{HasRow, Stands, Left}
use Rattle.risc_emit_forms.specs.Forms.{form, entry_form}
use Rattle.risc_emit_forms.proofs.Basics.{stands_front, stands_back}
use Rattle.risc_emit_laws.specs.Plan.{Plan, context}
use Rattle.risc_emit_laws.specs.Emits.{start_form, Stand, Emits}
use Rattle.risc_emit_laws.specs.Drawn.{body_pieces, routine_pieces, routines_pieces, start_pieces, program_pieces}
use Rattle.risc_emit_laws.specs.Drawn.{entry_place, site_place, trap_rows_of, call_row_of, call_rows_of, IsDrawn}
use Rattle.risc_emit_laws.proofs.Alike.{forms_alike, entries_alike, starts_alike}
use Rattle.risc_emit_laws.proofs.Rows.{trap_found, call_found}

-- the rows of a whole program's pieces
trap_first : (ps : List Piece) (at : ℕ) (condition : Condition) (number line : ℕ) → slice_get ps at ≡ Some
    (Fails condition number line) → trap_at (4 * (at + 1)) (trap_rows_of 0 ps) ≡ Some (record {
      link = 4 * (at + 1);
      error = number;
      line = line;
    })
trap_first ps at condition number line e =
    subst (λ n. trap_at (4 * (n + 1)) (trap_rows_of 0 ps) ≡ Some (record {
      link = 4 * (n + 1);
      error = number;
      line = line;
    })) (zero-add at) (trap_found ps 0 at condition number line e)

call_first : (ps : List Piece) (at line : ℕ) (p : Piece) → ((n : ℕ) → call_row_of n p ≡ record {
  link = 4 * (n + 1);
  line = line;
} ∷ []) → slice_get ps at ≡ Some p → call_at (4 * (at + 1)) (call_rows_of 0 ps) ≡ Some (record {
  link = 4 * (at + 1);
  line = line;
})
call_first ps at line p own e =
    subst (λ n. call_at (4 * (n + 1)) (call_rows_of 0 ps) ≡ Some (record {
      link = 4 * (n + 1);
      line = line;
    })) (zero-add at) (call_found ps 0 at line p own e)

abbrev number_line : TrapRow → ℕ × ℕ
number_line row = (row.error, row.line)

abbrev line_in : CallRow → ℕ
line_in row = row.line

-- what holds for each piece holds for the list
stands_of : (c : Context) (words : List ℕ) (ps : List Piece) (at : ℕ)
    → ((k : ℕ) (p : Piece) → slice_get ps k ≡ Some p → IsAt words (at + k) (instr_at c (at + k) p) × HasRow c
    (at + k) p) → Stands c words at ps
stands_of c words [] at h = tt
stands_of c words (p ∷ ps) at h =
    let here = h 0 p refl in
    let e : at + 0 ≡ at = omega arith in
    let first = subst (λ n. IsAt words n (instr_at c n p) × HasRow c n p) e here in (
      first.0,
      first.1,
      stands_of c words ps (at + 1)
          (λ k q eq. let n : at + suc k ≡ at + 1 + k = omega arith in subst
          (λ m. IsAt words m (instr_at c m q) × HasRow c m q) n (h (suc k) q eq)),
    )

module _ (c : Context) where
  -- ---- lengths

  pub routine_step : (r : ℕ) (xs : List TacRoutine) (j : ℕ) (x : TacRoutine) → slice_get xs j ≡ Some x → length
      (routines_pieces c r (take j xs)) + length (routine_pieces c (r + j) x) ≤ length (routines_pieces c r xs)
  routine_step r [] j x e = absurd (cc e)
  routine_step r (y ∷ xs) zero x e =
      let is : y ≡ x = cc e in
      let here = ap (λ z. length (routine_pieces c r z)) is in
      let at = ap (λ n. length (routine_pieces c n x)) (plus_zero r) in
      let n = length-append (routine_pieces c r y) (routines_pieces c (suc r) xs) in
      omega (arith, here, at, n)
    where
      plus_zero : (r : ℕ) → r + 0 ≡ r
      plus_zero r = omega arith
  routine_step r (y ∷ xs) (suc j) x e =
      let rest = routine_step (suc r) xs j x e in
      let at = ap (λ n. length (routine_pieces c n x)) (plus_suc r j) in
      let n = length-append (routine_pieces c r y) (routines_pieces c (suc r) xs) in
      let m = length-append (routine_pieces c r y) (routines_pieces c (suc r) (take j xs)) in
      omega (arith, rest, at, n, m)
    where
      plus_suc : (r j : ℕ) → r + suc j ≡ suc r + j
      plus_suc r j = omega arith

  pub body_step : (r k : ℕ) (is : List Instruction) (j : ℕ) (i : Instruction) → slice_get is j ≡ Some i → length
      (body_pieces c r k (take (suc j) is)) ≡ length (body_pieces c r k (take j is)) + length (form c r (k + j) i)
  body_step r k [] j i e = absurd (cc e)
  body_step r k (x ∷ is) zero i e =
      let same : x ≡ i = cc e in
      let here = ap (λ z. length (form c r k z)) same in
      let at = ap (λ n. length (form c r n i)) (plus_zero k) in
      let n = length-append (form c r k x) [] in
      omega (arith, here, at, n)
    where
      plus_zero : (k : ℕ) → k + 0 ≡ k
      plus_zero k = omega arith
  body_step r k (x ∷ is) (suc j) i e =
      let rest = body_step r (suc k) is j i e in
      let at = ap (λ n. length (form c r n i)) (plus_suc k j) in
      let n = length-append (form c r k x) (body_pieces c r (suc k) (take (suc j) is)) in
      let m = length-append (form c r k x) (body_pieces c r (suc k) (take j is)) in
      omega (arith, rest, at, n, m)
    where
      plus_suc : (k j : ℕ) → k + suc j ≡ suc k + j
      plus_suc k j = omega arith

  body_part : (r k : ℕ) (is : List Instruction) (j : ℕ) → length (body_pieces c r k (take j is)) ≤ length
      (body_pieces c r k is)
  body_part r k is zero = omega arith
  body_part r k [] (suc j) = omega arith
  body_part r k (x ∷ is) (suc j) =
      let rest = body_part r (suc k) is j in
      let n = length-append (form c r k x) (body_pieces c r (suc k) is) in
      let m = length-append (form c r k x) (body_pieces c r (suc k) (take j is)) in
      omega (arith, rest, n, m)

  -- ---- parts of what is placed, for any context that says where

  module _ (d : Context) (words : List ℕ) where
    routine_stands : (r at : ℕ) (xs : List TacRoutine) (j : ℕ) (x : TacRoutine) → slice_get xs j ≡ Some x
        → Stands d words at (routines_pieces c r xs) → Stands d words (at + length (routines_pieces c r (take j xs)))
        (routine_pieces c (r + j) x)
    routine_stands r at [] j x e h = absurd (cc e)
    routine_stands r at (y ∷ xs) zero x e h =
        let is : y ≡ x = cc e in
        let a : at ≡ at + 0 = omega arith in
        let n : r ≡ r + 0 = omega arith in
        let first = stands_front d words at (routine_pieces c r y) (routines_pieces c (suc r) xs) h in
        subst (λ a. Stands d words a (routine_pieces c (r + 0) x)) a
        (subst (λ n. Stands d words at (routine_pieces c n x)) n
        (subst (λ z. Stands d words at (routine_pieces c r z)) is first))
    routine_stands r at (y ∷ xs) (suc j) x e h =
        let back = stands_back d words at (routine_pieces c r y) (routines_pieces c (suc r) xs) h in
        let rest = routine_stands (suc r) (at + length (routine_pieces c r y)) xs j x e back in
        let m = length-append (routine_pieces c r y) (routines_pieces c (suc r) (take j xs)) in
        let a : at + length (routine_pieces c r y) + length (routines_pieces c (suc r) (take j xs)) ≡ at + length
        (routines_pieces c r (take (suc j) (y ∷ xs))) = omega (arith, m) in
        let n : suc r + j ≡ r + suc j = omega arith in
        subst (λ a. Stands d words a (routine_pieces c (r + suc j) x)) a
        (subst (λ n. Stands d words (at + length (routine_pieces c r y) + length
        (routines_pieces c (suc r) (take j xs))) (routine_pieces c n x)) n rest)

    body_stands : (r k at : ℕ) (is : List Instruction) (j : ℕ) (i : Instruction) → slice_get is j ≡ Some i
        → Stands d words at (body_pieces c r k is) → Stands d words (at + length (body_pieces c r k (take j is)))
        (form c r (k + j) i)
    body_stands r k at [] j i e h = absurd (cc e)
    body_stands r k at (x ∷ is) zero i e h =
        let same : x ≡ i = cc e in
        let a : at ≡ at + 0 = omega arith in
        let n : k ≡ k + 0 = omega arith in
        let first = stands_front d words at (form c r k x) (body_pieces c r (suc k) is) h in
        subst (λ a. Stands d words a (form c r (k + 0) i)) a
        (subst (λ n. Stands d words at (form c r n i)) n (subst (λ z. Stands d words at (form c r k z)) same first))
    body_stands r k at (x ∷ is) (suc j) i e h =
        let back = stands_back d words at (form c r k x) (body_pieces c r (suc k) is) h in
        let rest = body_stands r (suc k) (at + length (form c r k x)) is j i e back in
        let m = length-append (form c r k x) (body_pieces c r (suc k) (take j is)) in
        let a : at + length (form c r k x) + length (body_pieces c r (suc k) (take j is)) ≡ at + length
        (body_pieces c r k (take (suc j) (x ∷ is))) = omega (arith, m) in
        let n : suc k + j ≡ k + suc j = omega arith in
        subst (λ a. Stands d words a (form c r (k + suc j) i)) a
        (subst (λ n. Stands d words (at + length (form c r k x) + length (body_pieces c r (suc k) (take j is)))
        (form c r n i)) n rest)

module _ (code : Code) (homes : List Home) (image : Image) (plan : Plan) (c : Context)
    (drawn : IsDrawn code homes image plan c) (heap stack : ℕ) where
  abbrev d : Context
  d = context code homes plan image heap stack

  abbrev rs : List TacRoutine
  rs = routines c.code

  has_row : (at : ℕ) (p : Piece) → slice_get (program_pieces c) at ≡ Some p → HasRow d at p
  has_row at (Fails condition number line) e =
      ap (λ rows. option_map number_line (trap_at (4 * (at + 1)) rows)) drawn.traps ∙ ap (option_map number_line)
      (trap_first (program_pieces c) at condition number line e)
  has_row at (Enters r line) e =
      ap (λ rows. option_map line_in (call_at (4 * (at + 1)) (unwrap_or rows []))) drawn.calls ∙ ap (option_map line_in)
      (call_first (program_pieces c) at line (Enters r line) (λ n. refl) e)
  has_row at (EntersAt q line) e =
      ap (λ rows. option_map line_in (call_at (4 * (at + 1)) (unwrap_or rows []))) drawn.calls ∙ ap (option_map line_in)
      (call_first (program_pieces c) at line (EntersAt q line) (λ n. refl) e)
  has_row at (Plain i) e = tt
  has_row at (Goes condition label) e = tt
  has_row at (Joins r) e = tt
  has_row at (High q label) e = tt
  has_row at (Low q label) e = tt

  all_stand : Stands d image.code 0 (program_pieces c)
  all_stand =
      stands_of d image.code (program_pieces c) 0
      (λ k p e. subst (λ n. IsAt image.code n (instr_at d n p) × HasRow d n p) (sym (zero-add k))
      (drawn.words heap stack k p e, has_row k p e))

  get_code : (r : ℕ) (routine : TacRoutine) → slice_get (routines code) r ≡ Some routine → slice_get rs r ≡ Some routine
  get_code r routine is = ap (λ x. slice_get (routines x) r) drawn.of_code ∙ is

  -- a routine's pieces, at its entry
  routine_at : (r : ℕ) (routine : TacRoutine) → slice_get rs r ≡ Some routine → Stands d image.code (entry_place c r)
      (routine_pieces c r routine)
  routine_at r routine is =
      let back = stands_back d image.code 0 (start_pieces c rs) (routines_pieces c 0 rs) all_stand in
      let a : 0 + length (start_pieces c rs) + length (routines_pieces c 0 (take r rs)) ≡ entry_place c r = omega arith
      in
      subst (λ n. Stands d image.code n (routine_pieces c r routine)) a
      (subst (λ q. Stands d image.code (0 + length (start_pieces c rs) + length (routines_pieces c 0 (take r rs)))
      (routine_pieces c q routine)) (zero-add r)
      (routine_stands c d image.code 0 (0 + length (start_pieces c rs)) rs r routine is back))

  start_at : (block : TacRoutine) → slice_get (routines code) 0 ≡ Some block → Stands d image.code 0
      (start_form d block)
  start_at block is =
      let front = stands_front d image.code 0 (start_pieces c rs) (routines_pieces c 0 rs) all_stand in
      subst (Stands d image.code 0) (sym (starts_alike c d (drawn.alike heap stack) block))
      (first rs (get_code 0 block is) front)
    where
      first : (xs : List TacRoutine) → slice_get xs 0 ≡ Some block → Stands d image.code 0 (start_pieces c xs)
          → Stands d image.code 0 (start_form c block)
      first [] e h = absurd (cc e)
      first (x ∷ xs) e h =
          let same : x ≡ block = cc e in subst (λ z. Stands d image.code 0 (start_form c z)) same h

  entry_at : (r : ℕ) (routine : TacRoutine) → slice_get (routines code) r ≡ Some routine → Left d image.code
      (plan.entry r) (entry_form d r routine) (plan.site r 0)
  entry_at r routine is =
      let front = stands_front d image.code (entry_place c r) (entry_form c r routine) (body_pieces c r 0 routine.body)
      (routine_at r routine (get_code r routine is)) in
      let same = entries_alike c d (drawn.alike heap stack) r routine in
      let n = ap length same in
      let e = drawn.entries r routine is in
      let s = drawn.sites r 0 routine is (omega arith) in
      record {
        stands = subst (λ a. Stands d image.code a (entry_form d r routine)) (sym e)
            (subst (Stands d image.code (entry_place c r)) (sym same) front);
        ends = omega (arith, n, e, s);
      }

  body_at_place : (r k : ℕ) (i : Instruction) (routine : TacRoutine) → slice_get (routines code) r ≡ Some routine
      → slice_get routine.body k ≡ Some i → Left d image.code (plan.site r k) (form d r k i) (plan.site r (suc k))
  body_at_place r k i routine is e =
      let back = stands_back d image.code (entry_place c r) (entry_form c r routine) (body_pieces c r 0 routine.body)
      (routine_at r routine (get_code r routine is)) in
      let here = subst (λ q. Stands d image.code (site_place c r routine k) (form c r q i)) (zero-add k)
      (body_stands c d image.code r 0 (entry_place c r + length (entry_form c r routine)) routine.body k i e back)
      in
      let lt = slice_get_within routine.body k i e in
      let same = forms_alike c d (drawn.alike heap stack) r k i in
      let n = ap length same in
      let step = body_step c r 0 routine.body k i e in
      let there = ap (λ q. length (form c r q i)) (zero-add k) in
      let s0 = drawn.sites r k routine is (omega (arith, lt)) in
      let s1 = drawn.sites r (suc k) routine is (omega (arith, lt)) in
      record {
        stands = subst (λ a. Stands d image.code a (form d r k i)) (sym s0)
            (subst (Stands d image.code (site_place c r routine k)) (sym same) here);
        ends = omega (arith, n, step, there, s0, s1);
      }

  body_left : (r k : ℕ) (i : Instruction) → fetch code r k ≡ Some i → Left d image.code (plan.site r k) (form d r k i)
      (plan.site r (suc k))
  body_left r k i e = go (slice_get (routines code) r) refl e
    where
      go : (o : Option TacRoutine) → slice_get (routines code) r ≡ o → body_at o k ≡ Some i → Left d image.code
          (plan.site r k) (form d r k i) (plan.site r (suc k))
      go None is e = absurd (cc e)
      go (Some routine) is e = body_at_place r k i routine is e

  -- what comes before a place is within all pieces
  site_low : (r k : ℕ) (routine : TacRoutine) → slice_get (routines code) r ≡ Some routine
      → site_place c r routine k ≤ MAX_COUNT
  site_low r k routine is =
      let step = routine_step c 0 rs r routine (get_code r routine is) in
      let there = ap (λ q. length (routine_pieces c q routine)) (zero-add r) in
      let part = body_part c r 0 routine.body k in
      let whole = length-append (start_pieces c rs) (routines_pieces c 0 rs) in
      let own = length-append (entry_form c r routine) (body_pieces c r 0 routine.body) in
      let few = drawn.few in
      omega (arith, step, there, part, whole, own, few)

  within_is : (r k : ℕ) (routine : TacRoutine) → slice_get (routines code) r ≡ Some routine → k < length routine.body
      → plan.site r k ≤ MAX_COUNT
  within_is r k routine is lt =
      let s = drawn.sites r k routine is (omega (arith, lt)) in
      let low = site_low r k routine is in
      omega (arith, s, low)

  entry_low : (r : ℕ) → r < length (routines code) → plan.entry r ≤ MAX_COUNT
  entry_low r lt =
      let x = get_below (routines code) r lt in
      let e = drawn.entries r x.0 x.1 in
      let low = site_low r 0 x.0 x.1 in
      omega (arith, e, low)
    where
      get_below : (xs : List TacRoutine) (k : ℕ) → k < length xs → (x : TacRoutine) × (slice_get xs k ≡ Some x)
      get_below [] k lt = absurd (omega (arith, lt))
      get_below (x ∷ xs) zero lt = (x, refl)
      get_below (x ∷ xs) (suc k) lt = get_below xs k (omega (arith, lt))

  pub drawn_stands : Stand d image.code
  drawn_stands =
      record {
        start = start_at;
        body = body_left;
        entry = entry_at;
        within = within_is;
        within_entry = entry_low;
        parameters = λ r routine e is. drawn.parameters r routine
            (ap (λ x. nat_lt r (length x.program)) drawn.of_code ∙ e) is;
        texts = drawn.texts;
        sizes = drawn.sizes;
      }

pub drawn_emits : (code : Code) (homes : List Home) (image : Image) (plan : Plan) (c : Context)
    → IsDrawn code homes image plan c → Emits code homes image
drawn_emits code homes image plan c drawn =
    record {
      plan = plan;
      laid = drawn.laid;
      stand = λ heap stack. drawn_stands code homes image plan c drawn heap stack;
    }
