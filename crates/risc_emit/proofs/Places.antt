-- The places of the marks are those of the pieces, and are within them.
use Rattle.std.proofs.Common.{◌≡◌, ℕ, zero, suc, ◌+◌, ◌<◌, ◌≤◌, ◌⊎◌, inl, inr, List, [], ◌∷◌, length, length-append}
use Rattle.std.proofs.Common.{take, Option, Some, None, slice_get, refl, sym, ap, ◌∙◌, arith}
use Rattle.std.proofs.lemmas.Option.{slice_get_within}
use Rattle.tac_code.specs.declared.code.Instruction.{Instruction}
use Rattle.tac_code.specs.declared.code.TacRoutine.{TacRoutine}
use Rattle.tac_code.specs.Meaning.{Code, routines}
use Rattle.tac_code.proofs.Items.{there_is}
use Rattle.risc_alloc.specs.declared.homes.Home.{Home}
use Rattle.risc_image.specs.declared.header.TheConstants.{MAX_COUNT}
use Rattle.risc_emit_relation.specs.Context.{Context}
use Rattle.risc_emit_forms.specs.Pieces.{AtPlace, AtEntry, AtText}
use Rattle.risc_emit_forms.specs.Forms.{form, entry_form}
use Rattle.risc_emit_laws.specs.Drawn.{body_pieces, routine_pieces, routines_pieces, start_pieces, program_pieces}
use Rattle.risc_emit_laws.specs.Drawn.{entry_place, site_place, instruction_texts, body_texts, routines_texts}
use Rattle.risc_emit_laws.specs.Drawn.{text_place}
use Rattle.risc_emit_laws.proofs.Drawn.{routine_step}
use Rattle.risc_emit.specs.declared.marks.Mark.{Mark}
use Rattle.risc_emit.specs.declared.marks.Marks.{Marks}
use Rattle.risc_emit.specs.Layout.{laid_out}
use Rattle.risc_emit.specs.Marked.{AreMarked}
use Rattle.risc_emit.specs.Placed.{site_of, text_of, mark_in, entry_of, site_at, text_at, entry_at, AreNear}

is_some : {X : Type 0} (o : Option X) → (o ≡ None) ⊎ ((x : X) × (o ≡ Some x))
is_some None = inl refl
is_some (Some x) = inr (x, refl)

-- ---- what comes before a place is within the whole

module _ (c : Context) where
  body_part : (r k : ℕ) (is : List Instruction) (j : ℕ) → length (body_pieces c r k (take j is)) ≤ length
      (body_pieces c r k is)
  body_part r k is zero = omega arith
  body_part r k [] (suc j) = omega arith
  body_part r k (x ∷ is) (suc j) =
      let rest = body_part r (suc k) is j in
      let n = length-append (form c r k x) (body_pieces c r (suc k) is) in
      let m = length-append (form c r k x) (body_pieces c r (suc k) (take j is)) in
      omega (arith, rest, n, m)

  pub site_low : (r k : ℕ) (routine : TacRoutine) → slice_get (routines c.code) r ≡ Some routine
      → site_place c r routine k ≤ length (program_pieces c)
  site_low r k routine is =
      let z : 0 + r ≡ r = omega arith in
      let step = routine_step c 0 (routines c.code) r routine is in
      let there = ap (λ q. length (routine_pieces c q routine)) z in
      let part = body_part r 0 routine.body k in
      let whole = length-append (start_pieces c (routines c.code)) (routines_pieces c 0 (routines c.code)) in
      let own = length-append (entry_form c r routine) (body_pieces c r 0 routine.body) in
      omega (arith, step, there, part, whole, own)

  entry_low : (r : ℕ) (routine : TacRoutine) → slice_get (routines c.code) r ≡ Some routine → entry_place c r ≤ length
      (program_pieces c)
  entry_low r routine is = let n = site_low r 0 routine is in omega (arith, n)

body_texts_part : (is : List Instruction) (k : ℕ) → length (body_texts (take k is)) ≤ length (body_texts is)
body_texts_part is zero = omega arith
body_texts_part [] (suc k) = omega arith
body_texts_part (x ∷ is) (suc k) =
    let rest = body_texts_part is k in
    let n = length-append (instruction_texts x) (body_texts is) in
    let m = length-append (instruction_texts x) (body_texts (take k is)) in
    omega (arith, rest, n, m)

routines_texts_part : (xs : List TacRoutine) (r : ℕ) (routine : TacRoutine) → slice_get xs r ≡ Some routine → length
    (routines_texts (take r xs)) + length (body_texts routine.body) ≤ length (routines_texts xs)
routines_texts_part [] r routine e = absurd (cc e)
routines_texts_part (x ∷ xs) zero routine e =
    let same : x ≡ routine = cc e in
    let here = ap (λ y. length (body_texts y.body)) same in
    let n = length-append (body_texts x.body) (routines_texts xs) in
    omega (arith, here, n)
routines_texts_part (x ∷ xs) (suc r) routine e =
    let rest = routines_texts_part xs r routine e in
    let n = length-append (body_texts x.body) (routines_texts xs) in
    let m = length-append (body_texts x.body) (routines_texts (take r xs)) in
    omega (arith, rest, n, m)

pub text_low : (code : Code) (r k : ℕ) (routine : TacRoutine) → slice_get (routines code) r ≡ Some routine
    → text_place code r routine k ≤ length (routines_texts (routines code))
text_low code r k routine is =
    let a = routines_texts_part (routines code) r routine is in
    let b = body_texts_part routine.body k in
    omega (arith, a, b)

-- ---- marks

module _ (code : Code) (homes : List Home) (marks : List Marks) (marked : AreMarked (laid_out code homes) marks) where
  pub sites : (r k : ℕ) (routine : TacRoutine) → slice_get (routines code) r ≡ Some routine → k ≤ length routine.body
      → site_at marks r k ≡ site_place (laid_out code homes) r routine k
  sites r k routine is le =
      let m = marked.each r routine is in
      let p = m.2.each k le in
      ap (λ o. site_of (mark_in o k)) m.1 ∙ ap site_of p.1 ∙ p.2

  pub texts : (r k : ℕ) (routine : TacRoutine) → slice_get (routines code) r ≡ Some routine → k ≤ length routine.body
      → text_at marks r k ≡ text_place code r routine k
  texts r k routine is le =
      let m = marked.each r routine is in
      let p = m.2.each k le in
      ap (λ o. text_of (mark_in o k)) m.1 ∙ ap text_of p.1 ∙ p.3

  pub entries : (r : ℕ) (routine : TacRoutine) → slice_get (routines code) r ≡ Some routine → entry_at marks r
      ≡ entry_place (laid_out code homes) r
  entries r routine is = let m = marked.each r routine is in ap entry_of m.1 ∙ m.2.entry

  routine_of : (r : ℕ) (m : Marks) → slice_get marks r ≡ Some m → (routine : TacRoutine)
      × (slice_get (routines code) r ≡ Some routine)
  routine_of r m is =
      let lt = slice_get_within marks r m is in
      let n = marked.count in
      there_is (routines code) r (omega (arith, lt, n))

  -- a place that has a mark is one of its routine
  place_of : (r k : ℕ) (m : Marks) (mark : Mark) → slice_get marks r ≡ Some m → slice_get m.places.items k ≡ Some mark
      → (routine : TacRoutine) × (slice_get (routines code) r ≡ Some routine) × (k ≤ length routine.body)
  place_of r k m mark is here =
      let found = routine_of r m is in
      let own = marked.each r found.0 found.1 in
      let same : own.0 ≡ m = some_same own.0 m (sym own.1 ∙ is) in
      let count = own.2.count in
      let long = ap (λ x. length x.places.items) same in
      let lt = slice_get_within m.places.items k mark here in
      (found.0, found.1, omega (arith, count, long, lt))
    where
      some_same : {X : Type 0} (x y : X) → Some x ≡ Some y → x ≡ y
      some_same x y e = cc e

  pub site_within : (r k : ℕ) → site_at marks r k ≤ length (program_pieces (laid_out code homes))
  site_within r k = go (is_some (slice_get marks r))
    where
      by_mark : (m : Marks) → slice_get marks r ≡ Some m → (slice_get m.places.items k ≡ None)
          ⊎ ((x : Mark) × (slice_get m.places.items k ≡ Some x)) → site_at marks r k ≤ length
          (program_pieces (laid_out code homes))
      by_mark m is (inl none) =
          let n = ap (λ o. site_of (mark_in o k)) is ∙ ap site_of none in omega (arith, n)
      by_mark m is (inr x) =
          let p = place_of r k m x.0 is x.1 in
          let n = sites r k p.0 p.1 p.2 in
          let low = site_low (laid_out code homes) r k p.0 p.1 in
          omega (arith, n, low)

      go : (slice_get marks r ≡ None) ⊎ ((m : Marks) × (slice_get marks r ≡ Some m)) → site_at marks r k ≤ length
          (program_pieces (laid_out code homes))
      go (inl none) = let n = ap (λ o. site_of (mark_in o k)) none in omega (arith, n)
      go (inr m) = by_mark m.0 m.1 (is_some (slice_get m.0.places.items k))

  pub text_within : (r k : ℕ) → text_at marks r k ≤ length (routines_texts (routines code))
  text_within r k = go (is_some (slice_get marks r))
    where
      by_mark : (m : Marks) → slice_get marks r ≡ Some m → (slice_get m.places.items k ≡ None)
          ⊎ ((x : Mark) × (slice_get m.places.items k ≡ Some x)) → text_at marks r k ≤ length
          (routines_texts (routines code))
      by_mark m is (inl none) =
          let n = ap (λ o. text_of (mark_in o k)) is ∙ ap text_of none in omega (arith, n)
      by_mark m is (inr x) =
          let p = place_of r k m x.0 is x.1 in
          let n = texts r k p.0 p.1 p.2 in
          let low = text_low code r k p.0 p.1 in
          omega (arith, n, low)

      go : (slice_get marks r ≡ None) ⊎ ((m : Marks) × (slice_get marks r ≡ Some m)) → text_at marks r k ≤ length
          (routines_texts (routines code))
      go (inl none) = let n = ap (λ o. text_of (mark_in o k)) none in omega (arith, n)
      go (inr m) = by_mark m.0 m.1 (is_some (slice_get m.0.places.items k))

  pub entry_within : (r : ℕ) → entry_at marks r ≤ length (program_pieces (laid_out code homes))
  entry_within r = go (is_some (slice_get marks r))
    where
      go : (slice_get marks r ≡ None) ⊎ ((m : Marks) × (slice_get marks r ≡ Some m)) → entry_at marks r ≤ length
          (program_pieces (laid_out code homes))
      go (inl none) = let n = ap entry_of none in omega (arith, n)
      go (inr m) =
          let found = routine_of r m.0 m.1 in
          let n = entries r found.0 found.1 in
          let low = entry_low (laid_out code homes) r found.0 found.1 in
          omega (arith, n, low)

  pub are_near : (n : ℕ) → n ≡ length (program_pieces (laid_out code homes)) → length
      (program_pieces (laid_out code homes)) + length (routines_texts (routines code)) ≤ MAX_COUNT → AreNear marks n
  are_near n is few (AtPlace r k) = let s = site_within r k in omega (arith, few, s)
  are_near n is few (AtEntry r) = let s = entry_within r in omega (arith, few, s)
  are_near n is few (AtText r k) = let s = text_within r k in omega (arith, few, is, s)

  pub entries_of_program : (r : ℕ) → r < length code.program → entry_at marks r ≡ entry_place (laid_out code homes) r
  entries_of_program r lt =
      let n = length-append code.program code.run_time in
      let x = there_is (routines code) r (omega (arith, lt, n)) in
      entries r x.0 x.1

pub no_greater : (a b n : ℕ) → a ≡ b → b ≤ n → a ≤ n
no_greater a b n e le = omega (arith, e, le)

pub within_few : (a p t : ℕ) → a ≤ p → p + t ≤ MAX_COUNT → a ≤ MAX_COUNT
within_few a p t le few = omega (arith, le, few)
