-- Bytes are unpacked to words.
use Rattle.std.proofs.Common.{◌≡◌, ℕ, suc, ◌+◌, ◌*◌, ◌<◌, pos, not, List, [], ◌∷◌, length, slice_get, Some, refl, ap}
use Rattle.std.proofs.Common.{◌∙◌, subst, arith}
use Rattle.std.proofs.lemmas.Bool.{ne_eqb}
use Rattle.tac_code.specs.declared.code.Block.{Block}
use Rattle.tac_code.specs.declared.code.Value.{Value}
use Rattle.tac_code.specs.declared.code.Value.TheVariants.{Number, Address}
use Rattle.tac_code.specs.declared.code.Operand.TheVariants as operand
use Rattle.tac_code.specs.declared.code.Relation.TheVariants.{Equal, NotEqual}
use Rattle.tac_code.specs.declared.code.TacRoutine.{TacRoutine}
use Rattle.tac_code.specs.Memory.{Memory, load_byte, store, with_word}
use Rattle.tac_code.specs.Meaning.{Temporaries, put, State, text_at}
use Rattle.tac_code.specs.declared.code.TheConstants.{BLOCK_LIMIT}
use Rattle.tac_code_steps.specs.Runs.{Machine, Comes}
use Rattle.tac_code_steps.proofs.Runs.{a_step, ◌>>◌}
use Rattle.tac_rt.specs.declared.words.TheConstants.{UNPACK}
use Rattle.tac_rt.specs.Bodies.{routine_of}
use Rattle.tac_rt.specs.Calls.{HasRoutines}
use Rattle.tac_rt.specs.Laws.{UnpackedUp, UnpacksBytes}
use Rattle.tac_rt.proofs.Blocks.{IsFresh, stored}
use Rattle.tac_rt.proofs.Inside.{back, does_so, here_at, enters, returns, counts, offsets, loads_byte, stores_word}
use Rattle.tac_rt.proofs.Inside.{branches, passes, branches_back, passes_back}

abbrev routine : TacRoutine
routine = routine_of 3 4 UNPACK

module _ (m : Machine) (s : State) (has : HasRoutines m) (to line : ℕ) (upper lower : Block) where
  abbrev at_place : ℕ → Temporaries → Memory → State
  at_place pc t memory = here_at m s 9 routine has refl to line pc t memory s.tape

  here : (o : ℕ) → o + 0 ≡ o
  here o = omega arith

  -- nothing is left
  ends : (t : Temporaries) (before memory : Memory) → t 2 ≡ Some (Number (pos 0)) → before ≡ memory → Comes m
      (at_place 7 t before) (back s to (Number (pos 0)) memory s.tape)
  ends t before memory n e = subst (λ x. Comes m (at_place 7 t before) (back s to (Number (pos 0)) x s.tape)) e
      (a_step _ _ (returns m s 9 routine has refl to line 7 t before s.tape 2 (Number (pos 0)) refl n))

  -- the temporaries after one turn
  abbrev turned : (byte n place start : ℕ) → Temporaries → Temporaries
  turned byte n place start t = put (put (put (put t 3 (Number (pos byte))) 0 (Address upper (place + 4))) 1
      (Address lower (start + 1))) 2 (Number (pos n))

  -- one byte
  turns : (byte n place start : ℕ) (t : Temporaries) (before middle : Memory) → t 0 ≡ Some (Address upper place) → t 1
      ≡ Some (Address lower start) → t 2 ≡ Some (Number (pos (suc n))) → IsFresh s.count before → load_byte
      (text_at m.code) before lower start ≡ Some byte → store before upper place (Number (pos byte)) ≡ Some middle
      → place + 4 * suc n < BLOCK_LIMIT → start + suc n < BLOCK_LIMIT → Comes m (at_place 1 t before)
      (at_place 6 (turned byte n place start t) middle)
  turns byte n place start t before middle a b c f l h near far =
      let t1 : Temporaries = put t 3 (Number (pos byte)) in
      let t2 : Temporaries = put t1 0 (Address upper (place + 4)) in
      let t3 : Temporaries = put t2 1 (Address lower (start + 1)) in
      loads_byte m s 9 routine has refl to line 1 t before s.tape 3 1 0 lower start byte refl b f
      (ap (load_byte (text_at m.code) before lower) (here start) ∙ l)
      >> stores_word m s 9 routine has refl to line 2 t1 before s.tape 0 0 3 upper place
      (Number (pos byte)) middle refl a refl f (ap (λ o. store before upper o (Number (pos byte))) (here place) ∙ h)
      >> offsets m s 9 routine has refl to line 3 t1 middle s.tape 0 0 4 upper place refl a (omega arith)
      >> offsets m s 9 routine has refl to line 4 t2 middle s.tape 1 1 1 lower start refl b (omega arith)
      >> counts m s 9 routine has refl to line 5 t3 middle s.tape 2 (suc n) n 0 refl c (omega arith) (omega arith)

  -- from the top of the loop on
  moves : (byte : ℕ) (bytes : List ℕ) (place start : ℕ) (t : Temporaries) (before memory : Memory) → t 0 ≡ Some
      (Address upper place) → t 1 ≡ Some (Address lower start) → t 2 ≡ Some (Number (pos (suc (length bytes))))
      → IsFresh s.count before → UnpackedUp (text_at m.code) before upper place lower start (byte ∷ bytes) memory
      → place + 4 * suc (length bytes) < BLOCK_LIMIT → start + suc (length bytes) < BLOCK_LIMIT → Comes m
      (at_place 1 t before) (back s to (Number (pos 0)) memory s.tape)
  moves byte [] place start t before memory a b n f c l h =
      let t4 : Temporaries = turned byte 0 place start t in
      turns byte 0 place start t before c.0 a b n f c.1 c.2 l h
      >> passes_back m s 9 routine has refl to line 6 t4 c.0 s.tape NotEqual 2 (operand.Number (pos 0)) 5 refl refl
      >> ends t4 c.0 memory refl c.3
  moves byte (next ∷ bytes) place start t before memory a b n f c l h =
      let t4 : Temporaries = turned byte (suc (length bytes)) place start t in
      let more : suc (length bytes) ≡ 0 → ⊥ = λ e. omega arith in
      turns byte (suc (length bytes)) place start t before c.0 a b n f c.1 c.2 l h
      >> branches_back m s 9 routine has refl to line 6 t4 c.0 s.tape NotEqual 2 (operand.Number (pos 0)) 5 refl
      (ap (λ x. Some (not x)) (ne_eqb (suc (length bytes)) 0 more))
      >> moves next bytes (place + 4) (start + 1) t4 c.0 memory refl refl refl
      (stored s.count before (λ words. with_word words place (Number (pos byte))) c.0 f upper c.2).fresh c.3
      (omega arith) (omega arith)

  abbrev first : (bytes : List ℕ) (place start : ℕ) → Temporaries
  first bytes place start u = slice_get (Address upper place ∷ Address lower start ∷ Number (pos (length bytes)) ∷ []) u

  whole : (bytes : List ℕ) (place start : ℕ) (before memory : Memory) → IsFresh s.count before → UnpackedUp
      (text_at m.code) before upper place lower start bytes memory → place + 4 * length bytes < BLOCK_LIMIT → start
      + length bytes < BLOCK_LIMIT → Comes m (at_place 0 (first bytes place start) before)
      (back s to (Number (pos 0)) memory s.tape)
  whole [] place start before memory f c l h =
      branches m s 9 routine has refl to line 0 (first [] place start) before s.tape Equal 2
      (operand.Number (pos 0)) 6 refl refl
      >> ends (first [] place start) before memory refl c
  whole (byte ∷ bytes) place start before memory f c l h =
      let more : suc (length bytes) ≡ 0 → ⊥ = λ e. omega arith in
      passes m s 9 routine has refl to line 0 (first (byte ∷ bytes) place start) before s.tape Equal 2
      (operand.Number (pos 0)) 6 refl (ap Some (ne_eqb (suc (length bytes)) 0 more))
      >> moves byte bytes place start (first (byte ∷ bytes) place start) before memory refl refl refl f c l h

pub unpacks_bytes : UnpacksBytes
unpacks_bytes m upper place lower start bytes before after tape has c l h =
    let values : List Value = Address upper place ∷ Address lower start ∷ Number (pos (length bytes)) ∷ [] in
    does_so m 9 values before tape (Number (pos 0)) after tape (λ s fresh.
    let s1 : State = record s { memory = before; tape = tape } in
    record {
      by = λ to line operands at e.
          a_step s1 _ (enters m s1 9 routine has refl to line operands values at e refl refl refl) >>
          (whole m s1 has to line upper lower bytes place start before after fresh c l h);
    })
