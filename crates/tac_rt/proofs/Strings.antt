-- Strings are written as the meaning says.
use Rattle.std.proofs.Common.{◌≡◌, ℕ, zero, suc, ◌+◌, ◌-◌, ◌<◌, ◌≤◌, ℤ, pos, negsuc, Bool, true, false, not, nat_lt}
use Rattle.std.proofs.Common.{if◌then◌else◌, List, [], ◌∷◌, ◌++◌, length, replicate, take, slice_get, Some, refl, sym}
use Rattle.std.proofs.Common.{ap, ◌∙◌, subst, arith, lt-ltb, ltb-true, ltb-false}
use Rattle.std.proofs.lemmas.Bool.{ne_eqb}
use Rattle.tac_code.specs.declared.code.Block.{Block}
use Rattle.tac_code.specs.declared.code.Value.{Value}
use Rattle.tac_code.specs.declared.code.Value.TheVariants.{Number, Address}
use Rattle.tac_code.specs.declared.code.Operand.TheVariants as operand
use Rattle.tac_code.specs.declared.code.Operator.TheVariants.{Subtract}
use Rattle.tac_code.specs.declared.code.Relation.TheVariants.{Equal, NotEqual, LessEqual}
use Rattle.tac_code.specs.declared.code.TacRoutine.{TacRoutine}
use Rattle.tac_code.specs.Memory.{Memory, load_byte}
use Rattle.tac_code.specs.Meaning.{Temporaries, put, Tape, State, text_at, related, told}
use Rattle.tac_code.specs.declared.code.TheConstants.{BLOCK_LIMIT, NUMBER_LIMIT}
use Rattle.tac_code_steps.specs.Runs.{Machine, Comes}
use Rattle.tac_code_steps.specs.Routines.{wrote}
use Rattle.tac_code_steps.proofs.Runs.{a_step, ◌>>◌}
use Rattle.ps_meaning.specs.Text.{right_aligned, fitted}
use Rattle.tac_rt.specs.declared.writing.TheConstants.{WRITE_STRING}
use Rattle.tac_rt.specs.Bodies.{routine_of}
use Rattle.tac_rt.specs.Calls.{HasRoutines, BytesAt}
use Rattle.tac_rt.specs.Laws.{WritesStrings}
use Rattle.tac_rt.proofs.Blocks.{IsFresh}
use Rattle.tac_rt.proofs.Inside.{back, Called, does_so, here_at, enters, returns, literal, copies, computes, counts}
use Rattle.tac_rt.proofs.Inside.{offsets, loads_byte, branches, passes, branches_back, passes_back, writes}
use Rattle.tac_rt.proofs.Arithmetic.{difference, shortfall}

-- ---- bytes, one after another

abbrev pub told_all : List ℕ → Tape → Tape
told_all [] tape = tape
told_all (b ∷ bs) tape = told_all bs (told b tape)

pub append_after : (xs ys zs : List ℕ) → (xs ++ ys) ++ zs ≡ xs ++ (ys ++ zs)
append_after [] ys zs = refl
append_after (x ∷ xs) ys zs = ap (λ l. x ∷ l) (append_after xs ys zs)

pub append_nothing : (xs : List ℕ) → xs ≡ xs ++ []
append_nothing [] = refl
append_nothing (x ∷ xs) = ap (λ l. x ∷ l) (append_nothing xs)

pub told_written : (bs : List ℕ) (tape : Tape) → told_all bs tape ≡ wrote tape bs
told_written [] tape = ap (λ t. record tape { transcript = t }) (append_nothing tape.transcript)
told_written (b ∷ bs) tape = told_written bs (told b tape) ∙ ap (λ t. record tape { transcript = t })
    (append_after tape.transcript (b ∷ []) bs)

pub told_both : (xs ys : List ℕ) (tape : Tape) → told_all ys (told_all xs tape) ≡ told_all (xs ++ ys) tape
told_both [] ys tape = refl
told_both (x ∷ xs) ys tape = told_both xs ys (told x tape)

taken_length : (w : ℕ) (text : List ℕ) → w ≤ length text → length (take w text) ≡ w
taken_length zero text l = refl
taken_length (suc w) [] l = absurd (omega arith)
taken_length (suc w) (b ∷ text) l = ap suc (taken_length w text (omega arith))

bytes_taken : (m : Machine) (memory : Memory) (block : Block) (w o : ℕ) (text : List ℕ) → BytesAt
    (text_at m.code) memory block o text → BytesAt (text_at m.code) memory block o (take w text)
bytes_taken m memory block zero o text h = tt
bytes_taken m memory block (suc w) o [] h = tt
bytes_taken m memory block (suc w) o (b ∷ text) h = (h.0, h.1, bytes_taken m memory block w (o + 1) text h.2)

abbrev routine : TacRoutine
routine = routine_of 3 5 WRITE_STRING

module _ (m : Machine) (s : State) (has : HasRoutines m) (fresh : IsFresh s.count s.memory) (to line : ℕ) where
  abbrev at_place : ℕ → Temporaries → Tape → State
  at_place pc temporaries tape = here_at m s 12 routine has refl to line pc temporaries s.memory tape

  -- the temporaries after a character
  abbrev behind : (b n : ℕ) (block : Block) (o : ℕ) → Temporaries → Temporaries
  behind b n block o t = put (put (put t 3 (Number (pos b))) 0 (Address block (o + 1))) 1 (Number (pos n))

  character : (b n : ℕ) (block : Block) (o : ℕ) (t : Temporaries) (tape : Tape) → load_byte
      (text_at m.code) s.memory block o ≡ Some b → b < 256 → t 0 ≡ Some (Address block o) → t 1 ≡ Some
      (Number (pos (suc n))) → o + suc n < BLOCK_LIMIT → Comes m (at_place 9 t tape)
      (at_place 13 (behind b n block o t) (told b tape))
  character b n block o t tape h low a c l =
      let t1 : Temporaries = put t 3 (Number (pos b)) in
      let t2 : Temporaries = put t1 0 (Address block (o + 1)) in
      let here : o + 0 ≡ o = omega arith in
      loads_byte m s 12 routine has refl to line 9 t s.memory tape 3 0 0 block o b refl a fresh
      (ap (load_byte (text_at m.code) s.memory block) here ∙ h)
      >> writes m s 12 routine has refl to line 10 t1 s.memory tape 3 b refl refl low
      >> offsets m s 12 routine has refl to line 11 t1 s.memory (told b tape) 0 0 1 block o refl a (omega arith)
      >> counts m s 12 routine has refl to line 12 t2 s.memory (told b tape) 1 (suc n) n 0 refl c (omega arith)
      (omega arith)

  abbrev Written : (pc : ℕ) → Temporaries → Tape → List ℕ → Type 0
  Written pc t tape text = (t' : Temporaries) × (t' 1 ≡ Some (Number (pos 0))) × Comes m (at_place pc t tape)
      (at_place 14 t' (told_all text tape))

  -- the characters, from the top of the loop on
  characters : (b : ℕ) (text : List ℕ) (block : Block) (o : ℕ) (t : Temporaries) (tape : Tape) → BytesAt
      (text_at m.code) s.memory block o (b ∷ text) → t 0 ≡ Some (Address block o) → t 1 ≡ Some
      (Number (pos (suc (length text)))) → o + suc (length text) < BLOCK_LIMIT → Written 9 t tape (b ∷ text)
  characters b [] block o t tape h a n l =
      let t' : Temporaries = behind b 0 block o t in (
        t',
        refl,
        character b 0 block o t tape h.0 h.1 a n l >> passes_back m s 12 routine has refl to line 13 t'
            s.memory (told b tape) NotEqual 1 (operand.Number (pos 0)) 4 refl refl,
      )
  characters b (c ∷ text) block o t tape h a n l =
      let t' : Temporaries = behind b (suc (length text)) block o t in
      let more : suc (length text) ≡ 0 → ⊥ = λ e. omega arith in
      let rest = characters c text block (o + 1) t' (told b tape) h.2 refl refl (omega arith) in (
        rest.0,
        rest.1,
        character b (suc (length text)) block o t tape h.0 h.1 a n l
            >> branches_back m s 12 routine has refl to line 13 t' s.memory (told b tape) NotEqual 1
            (operand.Number (pos 0)) 4 refl (ap (λ x. Some (not x)) (ne_eqb (suc (length text)) 0 more))
            >> rest.2,
      )

  -- all of them
  string : (text : List ℕ) (block : Block) (o : ℕ) (t : Temporaries) (tape : Tape) → BytesAt
      (text_at m.code) s.memory block o text → t 0 ≡ Some (Address block o) → t 1 ≡ Some (Number (pos (length text)))
      → o + length text < BLOCK_LIMIT → Written 8 t tape text
  string [] block o t tape h a n l = (
    t,
    n,
    branches m s 12 routine has refl to line 8 t s.memory tape Equal 1
        (operand.Number (pos 0)) 5 refl (ap (λ v. related Equal v (Some (Number (pos 0)))) n),
  )
  string (b ∷ text) block o t tape h a n l =
      let more : suc (length text) ≡ 0 → ⊥ = λ e. omega arith in
      let rest = characters b text block o t tape h a n l in (
        rest.0,
        rest.1,
        passes m s 12 routine has refl to line 8 t s.memory tape Equal 1 (operand.Number (pos 0)) 5 refl
            (ap (λ v. related Equal v (Some (Number (pos 0)))) n ∙ ap Some (ne_eqb (suc (length text)) 0 more))
            >> rest.2,
      )

  abbrev Spaced : (pc k : ℕ) → Temporaries → Tape → Type 0
  Spaced pc k t tape = (t' : Temporaries) × (t' 0 ≡ t 0) × (t' 1 ≡ t 1) × (t' 2 ≡ t 2) × Comes m (at_place pc t tape)
      (at_place 6 t' (told_all (replicate k 32) tape))

  space : (k : ℕ) (t : Temporaries) (tape : Tape) → t 3 ≡ Some (Number (pos (suc k))) → t 4 ≡ Some (Number (pos 32))
      → suc k < NUMBER_LIMIT → Comes m (at_place 3 t tape) (at_place 5 (put t 3 (Number (pos k))) (told 32 tape))
  space k t tape n e l =
      writes m s 12 routine has refl to line 3 t s.memory tape 4 32 refl e (omega arith)
      >> counts m s 12 routine has refl to line 4 t s.memory (told 32 tape) 3 (suc k) k 0 refl n (omega arith) l

  -- spaces, from the top of the loop on
  spaces : (k : ℕ) (t : Temporaries) (tape : Tape) → t 3 ≡ Some (Number (pos (suc k))) → t 4 ≡ Some (Number (pos 32))
      → suc k < NUMBER_LIMIT → Spaced 3 (suc k) t tape
  spaces zero t tape n e l =
      let t1 : Temporaries = put t 3 (Number (pos 0)) in (
        t1,
        refl,
        refl,
        refl,
        space 0 t tape n e l >> passes_back m s 12 routine has refl to line 5 t1 s.memory
            (told 32 tape) NotEqual 3 (operand.Number (pos 0)) 2 refl refl,
      )
  spaces (suc k) t tape n e l =
      let t1 : Temporaries = put t 3 (Number (pos (suc k))) in
      let more : suc k ≡ 0 → ⊥ = λ q. omega arith in
      let rest = spaces k t1 (told 32 tape) refl e (omega arith) in (
        rest.0,
        rest.1,
        rest.2,
        rest.3,
        space (suc k) t tape n e l
            >> branches_back m s 12 routine has refl to line 5 t1 s.memory (told 32 tape) NotEqual 3
            (operand.Number (pos 0)) 2 refl (ap (λ x. Some (not x)) (ne_eqb (suc k) 0 more))
            >> rest.4,
      )

  padding : (k : ℕ) (t : Temporaries) (tape : Tape) → t 3 ≡ Some (Number (pos k)) → k < NUMBER_LIMIT → Spaced 1 k t tape
  padding zero t tape n l = (
    t,
    refl,
    refl,
    refl,
    branches m s 12 routine has refl to line 1 t s.memory tape LessEqual 3
        (operand.Number (pos 0)) 4 refl (ap (λ v. related LessEqual v (Some (Number (pos 0)))) n),
  )
  padding (suc k) t tape n l =
      let rest = spaces k (put t 4 (Number (pos 32))) tape n refl l in (
        rest.0,
        rest.1,
        rest.2,
        rest.3,
        passes m s 12 routine has refl to line 1 t s.memory tape LessEqual 3 (operand.Number (pos 0)) 4 refl
            (ap (λ v. related LessEqual v (Some (Number (pos 0)))) n ∙ ap (λ x. Some (not x))
            (lt-ltb 0 (suc k) (omega arith)))
            >> literal m s 12 routine has refl to line 2 t s.memory tape 4 (pos 32) refl
            >> rest.4,
      )

  module _ (block : Block) (o : ℕ) (text : List ℕ) (w : ℕ) (h : BytesAt (text_at m.code) s.memory block o text)
      (l : o + length text < BLOCK_LIMIT) (narrow : w < NUMBER_LIMIT) where
    abbrev values : List Value
    values = Address block o ∷ Number (pos (length text)) ∷ Number (pos w) ∷ []

    abbrev start : Temporaries
    start u = slice_get values u

    -- what is left of the field
    abbrev ready : ℤ → Temporaries
    ready z = put start 3 (Number z)

    abbrev Ended : Type 0
    Ended = (t' : Temporaries) × (t' 1 ≡ Some (Number (pos 0))) × Comes m (at_place 0 start s.tape)
        (at_place 14 t' (told_all (fitted w text) s.tape))

    cut : nat_lt w (length text) ≡ true → Ended
    cut e =
        let below = ltb-true w (length text) e in
        let z : ℤ = negsuc (length text - suc w) in
        let t1 : Temporaries = put (ready z) 1 (Number (pos w)) in
        let count : length (take w text) ≡ w = taken_length w text (omega arith) in
        let rest = string (take w text) block o t1 s.tape (bytes_taken m s.memory block w o text h) refl
        (ap (λ n. Some (Number (pos n))) (sym count)) (subst (λ n. o + n < BLOCK_LIMIT) (sym count) (omega arith))
        in (
          rest.0,
          rest.1,
          subst (λ bs. Comes m (at_place 0 start s.tape) (at_place 14 rest.0 (told_all bs s.tape)))
              (ap (λ b. if b then take w text else right_aligned w text) (sym e))
              (computes m s 12 routine has refl to line 0 start s.memory s.tape Subtract 3 2 (operand.Temporary 1)
              (pos w) (pos (length text)) z refl refl refl (shortfall w (length text) below (omega arith))
              >> branches m s 12 routine has refl to line 1 (ready z) s.memory s.tape LessEqual 3
              (operand.Number (pos 0)) 4 refl refl
              >> passes m s 12 routine has refl to line 6 (ready z) s.memory s.tape LessEqual 1
              (operand.Temporary 2) 1 refl (ap (λ b. Some (not b)) e)
              >> copies m s 12 routine has refl to line 7 (ready z) s.memory s.tape 1 2 (Number (pos w)) refl refl
              >> rest.2),
        )

    padded : nat_lt w (length text) ≡ false → Ended
    padded e =
        let room : length text ≤ w = let n = ltb-false w (length text) e in omega arith in
        let z : ℤ = pos (w - length text) in
        let front = padding (w - length text) (ready z) s.tape refl (omega arith) in
        let tape : Tape = told_all (replicate (w - length text) 32) s.tape in
        let rest = string text block o front.0 tape h front.1 front.2 l in (
          rest.0,
          rest.1,
          subst (λ x. Comes m (at_place 0 start s.tape) (at_place 14 rest.0 x))
              (told_both (replicate (w - length text) 32) text s.tape
              ∙ ap (λ b. told_all (if b then take w text else right_aligned w text) s.tape) (sym e))
              (computes m s 12 routine has refl to line 0 start s.memory s.tape Subtract 3 2 (operand.Temporary 1)
              (pos w) (pos (length text)) z refl refl refl (difference w (length text) room narrow)
              >> front.4
              >> branches m s 12 routine has refl to line 6 front.0 s.memory tape LessEqual 1
              (operand.Temporary 2) 1 refl (ap (λ v. related LessEqual v (front.0 2)) front.2
              ∙ ap (related LessEqual (Some (Number (pos (length text))))) front.3 ∙ ap (λ b. Some (not b)) e)
              >> rest.2),
        )

    ended : Ended
    ended = go (nat_lt w (length text)) refl
      where
        go : (b : Bool) → nat_lt w (length text) ≡ b → Ended
        go true e = cut e
        go false e = padded e

writes_here : (m : Machine) (s : State) (block : Block) (o : ℕ) (text : List ℕ) (w : ℕ) → HasRoutines m
    → IsFresh s.count s.memory → BytesAt (text_at m.code) s.memory block o text → o + length text < BLOCK_LIMIT
    → w < NUMBER_LIMIT → Called m s 12 (Address block o ∷ Number (pos (length text)) ∷ Number (pos w) ∷ [])
    (Number (pos 0)) s.memory (wrote s.tape (fitted w text))
writes_here m s block o text w has fresh h l narrow = record {
  by = λ to line operands i e.
      let r = ended m s has fresh to line block o text w h l narrow in
      a_step s _ (enters m s 12 routine has refl to line operands
      (Address block o ∷ Number (pos (length text)) ∷ Number (pos w) ∷ []) i e refl refl refl) >>
      (r.2 >> subst (λ x. Comes m (at_place m s has fresh to line 14 r.0 (told_all (fitted w text) s.tape))
      (back s to (Number (pos 0)) s.memory x)) (told_written (fitted w text) s.tape)
      (a_step _ _ (returns m s 12 routine has refl to line 14 r.0 s.memory (told_all (fitted w text) s.tape) 1
      (Number (pos 0)) refl r.1)));
}

pub writes_strings : WritesStrings
writes_strings m block o text w memory tape has h l narrow = does_so m 12
    (Address block o ∷ Number (pos (length text)) ∷ Number (pos w) ∷ []) memory tape (Number (pos 0)) memory
    (wrote tape (fitted w text)) (λ s fresh. writes_here m
    (record s { memory = memory; tape = tape }) block o text w has fresh h l narrow)
