-- The words of the constants are where the plan says.
use Rattle.std.proofs.Common.{◌≡◌, ℕ, zero, suc, ◌+◌, ◌≤◌, List, [], ◌∷◌, ◌++◌, length, length-append, map, take}
use Rattle.std.proofs.Common.{Option, Some, None, slice_get, ℤ, refl, ap, ◌∙◌, subst, arith}
use Rattle.std.proofs.lemmas.List.{length-map}
use Rattle.std.proofs.lemmas.Option.{slice_get_within}
use Rattle.tac_code.specs.declared.code.Instruction.{Instruction}
use Rattle.tac_code.specs.declared.code.Instruction.TheVariants.{Text}
use Rattle.tac_code.specs.declared.code.TacRoutine.{TacRoutine}
use Rattle.tac_code.specs.declared.code.Value.{Value}
use Rattle.tac_code.specs.declared.code.Value.TheVariants.{Number}
use Rattle.tac_code.specs.Numbers.{word_of}
use Rattle.tac_code.specs.Memory.{Words, constant_words, constant_at}
use Rattle.tac_code.specs.Meaning.{Code, routines, body_at, text_of, text_at}
use Rattle.tac_code.proofs.Items.{get_stays}
use Rattle.risc_image.specs.Image.{Image}
use Rattle.risc_emit_laws.specs.Drawn.{value_word, instruction_texts, body_texts, routines_texts, IsTexted}

get_back : (xs ys : List ℕ) (i : ℕ) → slice_get (xs ++ ys) (length xs + i) ≡ slice_get ys i
get_back [] ys i = let n : 0 + i ≡ i = omega arith in ap (slice_get ys) n
get_back (x ∷ xs) ys i =
    let n : suc (length xs) + i ≡ suc (length xs + i) = omega arith in
    ap (slice_get (x ∷ (xs ++ ys))) n ∙ get_back xs ys i

get_word : (xs : Words) (i : ℕ) (v : Option Value) → slice_get xs i ≡ Some v → slice_get (map value_word xs) i ≡ Some
    (value_word v)
get_word [] i v e = absurd (cc e)
get_word (x ∷ xs) zero v e = let same : x ≡ v = cc e in ap (λ y. Some (value_word y)) same
get_word (x ∷ xs) (suc i) v e = get_word xs i v e

-- what is after a part of a list
behind : (xs ys : List ℕ) (n i w : ℕ) → n ≡ length xs + i → slice_get ys i ≡ Some w → slice_get (xs ++ ys) n ≡ Some w
behind xs ys n i w e at = ap (slice_get (xs ++ ys)) e ∙ get_back xs ys i ∙ at

body_get : (is : List Instruction) (k : ℕ) (i : Instruction) → slice_get is k ≡ Some i → (j w : ℕ) → slice_get
    (instruction_texts i) j ≡ Some w → slice_get (body_texts is) (length (body_texts (take k is)) + j) ≡ Some w
body_get [] k i e j w at = absurd (cc e)
body_get (x ∷ is) zero i e j w at =
    let same : x ≡ i = cc e in
    let n : 0 + j ≡ j = omega arith in
    ap (slice_get (body_texts (x ∷ is))) n ∙ get_stays (instruction_texts x) (body_texts is) j w
    (ap (λ y. slice_get (instruction_texts y) j) same ∙ at)
body_get (x ∷ is) (suc k) i e j w at =
    let n = length-append (instruction_texts x) (body_texts (take k is)) in
    behind (instruction_texts x) (body_texts is) _ (length (body_texts (take k is)) + j) w (omega (arith, n))
    (body_get is k i e j w at)

body_room : (is : List Instruction) (k : ℕ) (i : Instruction) → slice_get is k ≡ Some i → length
    (body_texts (take k is)) + length (instruction_texts i) ≤ length (body_texts is)
body_room [] k i e = absurd (cc e)
body_room (x ∷ is) zero i e =
    let same : x ≡ i = cc e in
    let here = ap (λ y. length (instruction_texts y)) same in
    let n = length-append (instruction_texts x) (body_texts is) in
    omega (arith, here, n)
body_room (x ∷ is) (suc k) i e =
    let rest = body_room is k i e in
    let n = length-append (instruction_texts x) (body_texts is) in
    let m = length-append (instruction_texts x) (body_texts (take k is)) in
    omega (arith, rest, n, m)

routines_get : (xs : List TacRoutine) (r : ℕ) (routine : TacRoutine) → slice_get xs r ≡ Some routine → (j w : ℕ)
    → slice_get (body_texts routine.body) j ≡ Some w → slice_get (routines_texts xs)
    (length (routines_texts (take r xs)) + j) ≡ Some w
routines_get [] r routine e j w at = absurd (cc e)
routines_get (x ∷ xs) zero routine e j w at =
    let same : x ≡ routine = cc e in
    let n : 0 + j ≡ j = omega arith in
    ap (slice_get (routines_texts (x ∷ xs))) n ∙ get_stays (body_texts x.body) (routines_texts xs) j w
    (ap (λ y. slice_get (body_texts y.body) j) same ∙ at)
routines_get (x ∷ xs) (suc r) routine e j w at =
    let n = length-append (body_texts x.body) (routines_texts (take r xs)) in
    behind (body_texts x.body) (routines_texts xs) _ (length (routines_texts (take r xs)) + j) w (omega (arith, n))
    (routines_get xs r routine e j w at)

routines_room : (xs : List TacRoutine) (r : ℕ) (routine : TacRoutine) → slice_get xs r ≡ Some routine → length
    (routines_texts (take r xs)) + length (body_texts routine.body) ≤ length (routines_texts xs)
routines_room [] r routine e = absurd (cc e)
routines_room (x ∷ xs) zero routine e =
    let same : x ≡ routine = cc e in
    let here = ap (λ y. length (body_texts y.body)) same in
    let n = length-append (body_texts x.body) (routines_texts xs) in
    omega (arith, here, n)
routines_room (x ∷ xs) (suc r) routine e =
    let rest = routines_room xs r routine e in
    let n = length-append (body_texts x.body) (routines_texts xs) in
    let m = length-append (body_texts x.body) (routines_texts (take r xs)) in
    omega (arith, rest, n, m)

module _ (code : Code) (image : Image) (constant : ℕ → ℕ → ℕ) (first : List ℕ)
    (texted : IsTexted code image constant first) where
  abbrev Placed : ℕ → ℕ → Words → Type 0
  Placed r k ws =
      (constant r k + length ws ≤ length image.code)
      × ((i : ℕ) → (x : ℤ) → slice_get ws i ≡ Some (Some (Number x)) → slice_get image.code (constant r k + i)
      ≡ Some (word_of x))

  text_placed : (r k : ℕ) (routine : TacRoutine) (t : ℕ) (bytes : List ℕ) → slice_get (routines code) r ≡ Some routine
      → slice_get routine.body k ≡ Some (Text t bytes) → Placed r k (constant_words bytes)
  text_placed r k routine t bytes is here =
      let lt = slice_get_within routine.body k (Text t bytes) here in
      let at = texted.places r k routine is lt in
      let whole = ap length texted.words in
      let n = length-append first (routines_texts (routines code)) in
      let a = routines_room (routines code) r routine is in
      let b = body_room routine.body k (Text t bytes) here in
      let m = length-map (constant_words bytes) value_word in (
        omega (arith, at, whole, n, a, b, m),
        λ i x e. let w = get_word (constant_words bytes) i (Some (Number x)) e in
            let inside = body_get routine.body k (Text t bytes) here i (word_of x) w in
            let outside = routines_get (routines code) r routine is (length (body_texts (take k routine.body)) + i)
            (word_of x) inside in
            ap (λ ws. slice_get ws (constant r k + i)) texted.words ∙ behind first (routines_texts (routines code))
            (constant r k + i) (length (routines_texts (take r (routines code)))
            + (length (body_texts (take k routine.body)) + i)) (word_of x) (omega (arith, at)) outside,
      )

  pub texts_placed : (r k : ℕ) (ws : Words) → constant_at (text_at code r k) ≡ Some ws → Placed r k ws
  texts_placed r k ws e = by_routine (slice_get (routines code) r) refl e
    where
      by_instruction : (routine : TacRoutine) → slice_get (routines code) r ≡ Some routine → (o : Option Instruction)
          → slice_get routine.body k ≡ o → constant_at (text_of o) ≡ Some ws → Placed r k ws
      by_instruction routine is None here e = absurd (cc e)
      by_instruction routine is (Some (Text t bytes)) here e =
          let same : constant_words bytes ≡ ws = cc e in
          subst (Placed r k) same (text_placed r k routine t bytes is here)
      by_instruction routine is (Some _) here e = absurd (cc e)

      by_routine : (o : Option TacRoutine) → slice_get (routines code) r ≡ o → constant_at (text_of (body_at o k))
          ≡ Some ws → Placed r k ws
      by_routine None is e = absurd (cc e)
      by_routine (Some routine) is e = by_instruction routine is (slice_get routine.body k) refl e
