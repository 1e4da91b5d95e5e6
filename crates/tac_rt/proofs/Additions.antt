-- Members are added to a set one after another.
use Rattle.std.proofs.Common.{◌≡◌, ℕ, zero, suc, ◌+◌, ◌*◌, ◌/◌, ◌<◌, ℤ, pos, int_lt, true, not, List, [], ◌∷◌}
use Rattle.std.proofs.Common.{slice_get, Some, refl, ap, ◌∙◌, subst, arith, lt-ltb}
use Rattle.std.proofs.lemmas.Bool.{le-ltb}
use Rattle.tac_code.specs.declared.code.Block.{Block}
use Rattle.tac_code.specs.declared.code.Value.{Value}
use Rattle.tac_code.specs.declared.code.Value.TheVariants.{Number, Address}
use Rattle.tac_code.specs.declared.code.Operand.TheVariants as operand
use Rattle.tac_code.specs.declared.code.Operator.TheVariants.{Divide}
use Rattle.tac_code.specs.declared.code.Relation.TheVariants.{LessEqual, Greater}
use Rattle.tac_code.specs.declared.code.TacRoutine.{TacRoutine}
use Rattle.tac_code.specs.declared.code.BitOperator.TheVariants.{Or, ShiftLeft, Plus}
use Rattle.tac_code.specs.Numbers.{bits}
use Rattle.tac_code.specs.Memory.{Memory, load, store, with_word}
use Rattle.tac_code.specs.Meaning.{Temporaries, put, State, text_at, related}
use Rattle.tac_code.specs.declared.code.TheConstants.{BLOCK_LIMIT}
use Rattle.tac_code_steps.specs.Runs.{Machine, Comes}
use Rattle.tac_code_steps.proofs.Runs.{a_step, ◌>>◌}
use Rattle.tac_rt.specs.declared.sets.TheConstants.{ADD_RANGE}
use Rattle.tac_rt.specs.Bodies.{routine_of}
use Rattle.tac_rt.specs.Calls.{HasRoutines}
use Rattle.tac_rt.specs.Laws.{AddedUp, AddsMembers}
use Rattle.tac_rt.proofs.Blocks.{IsFresh, stored}
use Rattle.tac_rt.proofs.Inside.{back, does_so, here_at, enters, returns, literal, computes, joins, indexes, loads}
use Rattle.tac_rt.proofs.Inside.{stores_word, branches, passes, branches_back, passes_back}
use Rattle.tac_rt.proofs.Arithmetic.{gives_natural, counted_up}

abbrev routine : TacRoutine
routine = routine_of 3 6 ADD_RANGE

module _ (m : Machine) (s : State) (has : HasRoutines m) (to line : ℕ) (block : Block) (offset : ℕ) where
  abbrev at_place : ℕ → Temporaries → Memory → State
  at_place pc t memory = here_at m s 1 routine has refl to line pc t memory s.tape

  -- the end, after the loop
  ends : (t : Temporaries) (memory : Memory) → Comes m (at_place 10 t memory) (back s to (Number (pos 0)) memory s.tape)
  ends t memory =
      literal m s 1 routine has refl to line 10 t memory s.tape 0 (pos 0) refl
      >> a_step _ _ (returns m s 1 routine has refl to line 11 (put t 0 (Number (pos 0))) memory s.tape 0
      (Number (pos 0)) refl refl)

  -- the temporaries after one turn
  abbrev turned : (n : ℕ) (w : ℤ) → Temporaries → Temporaries
  turned n w t = put (put (put (put (put (put (put t 3 (Number (pos (n / 32)))) 3 (Address block (offset + n / 32 * 4)))
      4 (Number (pos 1))) 4 (Number (bits ShiftLeft (pos 1) (pos n)))) 5 (Number w)) 5
      (Number (bits Or w (bits ShiftLeft (pos 1) (pos n))))) 1 (Number (pos (suc n)))

  -- one member
  turns : (n : ℕ) (w : ℤ) (t : Temporaries) (before middle : Memory) → t 0 ≡ Some (Address block offset) → t 1 ≡ Some
      (Number (pos n)) → n < 256 → IsFresh s.count before → load (text_at m.code) before block (offset + 4 * (n / 32))
      ≡ Some (Number w) → store before block (offset + 4 * (n / 32))
      (Number (bits Or w (bits ShiftLeft (pos 1) (pos n)))) ≡ Some middle → offset + 32 < BLOCK_LIMIT → Comes m
      (at_place 1 t before) (at_place 9 (turned n w t) middle)
  turns n w t before middle a b low f l h narrow =
      let q : ℕ = n / 32 in
      let bit : ℤ = bits ShiftLeft (pos 1) (pos n) in
      let z : ℤ = bits Or w bit in
      let t1 : Temporaries = put t 3 (Number (pos q)) in
      let t2 : Temporaries = put t1 3 (Address block (offset + q * 4)) in
      let t3 : Temporaries = put t2 4 (Number (pos 1)) in
      let t4 : Temporaries = put t3 4 (Number bit) in
      let t5 : Temporaries = put t4 5 (Number w) in
      let t6 : Temporaries = put t5 5 (Number z) in
      let place : offset + q * 4 + 0 ≡ offset + 4 * q = omega arith in
      computes m s 1 routine has refl to line 1 t before s.tape Divide 3 1 (operand.Number (pos 32)) (pos n) (pos 32)
      (pos q) refl b refl (gives_natural q (omega arith))
      >> indexes m s 1 routine has refl to line 2 t1 before s.tape 3 0 3 block offset q refl a refl (omega arith) narrow
      >> literal m s 1 routine has refl to line 3 t2 before s.tape 4 (pos 1) refl
      >> joins m s 1 routine has refl to line 4 t3 before s.tape ShiftLeft 4 4 (operand.Temporary 1) (pos 1)
      (pos n) refl refl b
      >> loads m s 1 routine has refl to line 5 t4 before s.tape 5 3 0 block (offset + q * 4) (Number w) refl refl f
      (ap (load (text_at m.code) before block) place ∙ l)
      >> joins m s 1 routine has refl to line 6 t5 before s.tape Or 5 5 (operand.Temporary 4) w bit refl refl refl
      >> stores_word m s 1 routine has refl to line 7 t6 before s.tape 3 0 5 block (offset + q * 4)
      (Number z) middle refl refl refl f (ap (λ o. store before block o (Number z)) place ∙ h)
      >> subst (λ z. Comes m (at_place 8 t6 middle) (at_place 9 (put t6 1 (Number z)) middle))
      (counted_up n (omega arith)) (joins m s 1 routine has refl to line 8 t6 middle s.tape Plus 1 1
      (operand.Number (pos 1)) (pos n) (pos 1) refl b refl)

  -- from the top of the loop on, with this many members left after the first
  goes : (n count last : ℕ) (t : Temporaries) (before after : Memory) → n + count ≡ last → last < 256 → t 0 ≡ Some
      (Address block offset) → t 1 ≡ Some (Number (pos n)) → t 2 ≡ Some (Number (pos last)) → IsFresh s.count before
      → AddedUp (text_at m.code) before block offset n (suc count) after → offset + 32 < BLOCK_LIMIT → Comes m
      (at_place 1 t before) (back s to (Number (pos 0)) after s.tape)
  goes n zero last t before after e low a b c f j narrow =
      let t' : Temporaries = turned n j.0 t in
      turns n j.0 t before j.1 a b (omega (arith, e, low)) f j.2 j.3 narrow
      >> passes_back m s 1 routine has refl to line 9 t' j.1 s.tape LessEqual 1 (operand.Temporary 2) 8 refl
      (ap (related LessEqual (Some (Number (pos (suc n))))) c ∙ ap (λ q. Some (not q))
      (lt-ltb last (suc n) (omega (arith, e))))
      >> subst (λ x. Comes m (at_place 10 t' j.1) (back s to (Number (pos 0)) x s.tape)) j.4 (ends t' j.1)
  goes n (suc count) last t before after e low a b c f j narrow =
      let z : ℤ = bits Or j.0 (bits ShiftLeft (pos 1) (pos n)) in
      let t' : Temporaries = turned n j.0 t in
      turns n j.0 t before j.1 a b (omega (arith, e, low)) f j.2 j.3 narrow
      >> branches_back m s 1 routine has refl to line 9 t' j.1 s.tape LessEqual 1 (operand.Temporary 2) 8 refl
      (ap (related LessEqual (Some (Number (pos (suc n))))) c ∙ ap (λ q. Some (not q))
      (le-ltb last (suc n) (omega (arith, e))))
      >> goes (suc n) count last t' j.1 after (omega (arith, e)) low a refl c
      (stored s.count before (λ words. with_word words (offset + 4 * (n / 32)) (Number z)) j.1 f block j.3).fresh
      j.4 narrow

  -- from the beginning on
  abbrev start : (x y : ℤ) → Temporaries
  start x y u = slice_get (Address block offset ∷ Number x ∷ Number y ∷ []) u

  -- the first is above the last
  leaves : (x y : ℤ) (memory : Memory) → int_lt y x ≡ true → Comes m (at_place 0 (start x y) memory)
      (back s to (Number (pos 0)) memory s.tape)
  leaves x y memory above =
      branches m s 1 routine has refl to line 0 (start x y) memory s.tape Greater 1 (operand.Temporary 2) 9 refl
      (ap Some above)
      >> ends (start x y) memory

  begins : (n count : ℕ) (before after : Memory) → n + count < 256 → IsFresh s.count before → AddedUp
      (text_at m.code) before block offset n (suc count) after → offset + 32 < BLOCK_LIMIT → Comes m
      (at_place 0 (start (pos n) (pos (n + count))) before) (back s to (Number (pos 0)) after s.tape)
  begins n count before after low f j narrow =
      passes m s 1 routine has refl to line 0 (start (pos n) (pos (n + count))) before s.tape Greater 1
      (operand.Temporary 2) 9 refl (ap Some (le-ltb (n + count) n (omega arith)))
      >> goes n count (n + count) (start (pos n) (pos (n + count))) before after refl low refl refl refl f j narrow

pub adds_members : AddsMembers
adds_members = record {
  none = λ m x y block offset memory tape has above. does_so m 1
      (Address block offset ∷ Number x ∷ Number y ∷ []) memory tape (Number (pos 0)) memory tape (λ s fresh.
      let s1 : State = record s { memory = memory; tape = tape } in
      let values : List Value = Address block offset ∷ Number x ∷ Number y ∷ [] in
      record {
        by = λ to line operands at o. a_step s1 _ (enters m s1 1 routine has refl to line operands values at o refl
            refl refl) >>
            (leaves m s1 has to line block offset x y memory above);
      });
  some = λ m n count block offset before after tape has low added narrow. does_so m 1
      (Address block offset ∷ Number (pos n) ∷ Number (pos (n + count)) ∷ []) before tape (Number (pos 0)) after tape
      (λ s fresh.
      let s1 : State = record s { memory = before; tape = tape } in
      let values : List Value = Address block offset ∷ Number (pos n) ∷ Number (pos (n + count)) ∷ [] in
      record {
        by = λ to line operands at o. a_step s1 _ (enters m s1 1 routine has refl to line operands values at o refl
            refl refl) >>
            (begins m s1 has to line block offset n count before after low fresh added narrow);
      });
}
