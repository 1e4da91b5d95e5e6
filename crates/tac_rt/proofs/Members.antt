-- Whether an integer is a member of a set.
use Rattle.std.proofs.Common.{◌≡◌, ℕ, ◌+◌, ◌*◌, ◌/◌, ◌%◌, ◌<◌, ℤ, pos, negsuc, Bool, true, false, not, ◌&&◌, nat_eq}
use Rattle.std.proofs.Common.{nat_lt, [], ◌∷◌, slice_get, Some, refl, sym, ap, ◌∙◌, arith, ltb-true}
use Rattle.std.proofs.lemmas.Bool.{ne_eqb, le-ltb}
use Rattle.tac_code.specs.declared.code.Block.{Block}
use Rattle.tac_code.specs.declared.code.Value.TheVariants.{Number, Address}
use Rattle.tac_code.specs.declared.code.Operand.TheVariants as operand
use Rattle.tac_code.specs.declared.code.Operator.TheVariants.{Divide}
use Rattle.tac_code.specs.declared.code.Relation.TheVariants.{NotEqual}
use Rattle.tac_code.specs.declared.code.TacRoutine.{TacRoutine}
use Rattle.tac_code.specs.declared.code.BitOperator.TheVariants.{And, ShiftLeft}
use Rattle.tac_code.specs.Numbers.{bits, truth, word_of, same_number, is_in_range}
use Rattle.tac_code.specs.Memory.{load}
use Rattle.tac_code.specs.Meaning.{Temporaries, put, State, text_at}
use Rattle.tac_code.specs.declared.code.TheConstants.{BLOCK_LIMIT}
use Rattle.tac_code.proofs.Numbers.{eq_same}
use Rattle.tac_code_steps.specs.Runs.{Machine, Comes}
use Rattle.tac_code_steps.proofs.Runs.{a_step, ◌>>◌}
use Rattle.tac_rt.specs.declared.sets.TheConstants.{IS_MEMBER}
use Rattle.tac_rt.specs.Bodies.{routine_of}
use Rattle.tac_rt.specs.Calls.{HasRoutines}
use Rattle.tac_rt.specs.Laws.{FindsMembers}
use Rattle.tac_rt.proofs.Blocks.{IsFresh}
use Rattle.tac_rt.proofs.Inside.{back, does_so, here_at, enters, returns, literal, computes, joins, compares, indexes}
use Rattle.tac_rt.proofs.Inside.{loads, branches, passes}
use Rattle.tac_rt.proofs.Arithmetic.{gives_natural, low_byte}

abbrev routine : TacRoutine
routine = routine_of 2 4 IS_MEMBER

other_outside : (x : ℤ) → is_in_range (pos 0) (pos 255) x ≡ false → same_number (pos (word_of x % 256)) x ≡ false
other_outside (negsuc n) e = refl
other_outside (pos n) e = go (nat_lt 255 n) refl
  where
    go : (above : Bool) → nat_lt 255 n ≡ above → nat_eq (n % 256) n ≡ false
    go true q = let l = ltb-true 255 n q in ne_eqb (n % 256) n (λ z. omega (arith, l, z))
    go false q = let no : true ≡ false = ap (λ a. not a && true) (sym (le-ltb n 0 (omega arith)))
        ∙ ap (λ b. not (nat_lt n 0) && not b) (sym q) ∙ e in absurd (cc)

same_inside : (n : ℕ) → n < 256 → nat_eq (n % 256) n ≡ true
same_inside n l = let e : n % 256 ≡ n = omega (arith, l) in ap (λ k. nat_eq k n) e ∙ eq_same n

module _ (m : Machine) (s : State) (has : HasRoutines m) (fresh : IsFresh s.count s.memory) (to line : ℕ)
    (block : Block) (offset : ℕ) where
  abbrev at_place : ℕ → Temporaries → State
  at_place pc t = here_at m s 6 routine has refl to line pc t s.memory s.tape

  abbrev start : ℤ → Temporaries
  start x u = slice_get (Number x ∷ Address block offset ∷ []) u

  none : (t : Temporaries) → Comes m (at_place 10 t) (back s to (Number (pos 0)) s.memory s.tape)
  none t =
      literal m s 6 routine has refl to line 10 t s.memory s.tape 0 (pos 0) refl
      >> a_step _ _ (returns m s 6 routine has refl to line 11 (put t 0 (Number (pos 0))) s.memory s.tape 0
      (Number (pos 0)) refl refl)

  -- the lowest byte is the number itself, or not
  abbrev with_byte : ℤ → Temporaries
  with_byte x = put (start x) 2 (Number (bits And x (pos 255)))

  outside : (x : ℤ) → is_in_range (pos 0) (pos 255) x ≡ false → Comes m (at_place 0 (start x))
      (back s to (Number (pos 0)) s.memory s.tape)
  outside x e =
      joins m s 6 routine has refl to line 0 (start x) s.memory s.tape And 2 0 (operand.Number (pos 255)) x
      (pos 255) refl refl refl
      >> branches m s 6 routine has refl to line 1 (with_byte x) s.memory s.tape NotEqual 2 (operand.Temporary 0) 8 refl
      (ap (λ z. Some (not (same_number z x))) (low_byte x) ∙ ap (λ q. Some (not q)) (other_outside x e))
      >> none (with_byte x)

  inside : (n : ℕ) (w : ℤ) → n < 256 → load (text_at m.code) s.memory block (offset + 4 * (n / 32)) ≡ Some (Number w)
      → offset + 32 < BLOCK_LIMIT → Comes m (at_place 0 (start (pos n)))
      (back s to (Number (truth (not (same_number (bits And w (bits ShiftLeft (pos 1) (pos n))) (pos 0))))) s.memory
      s.tape)
  inside n w low l h =
      let q : ℕ = n / 32 in
      let bit : ℤ = bits ShiftLeft (pos 1) (pos n) in
      let both : ℤ = bits And w bit in
      let holds : Bool = not (same_number both (pos 0)) in
      let t0 : Temporaries = with_byte (pos n) in
      let t1 : Temporaries = put t0 2 (Number (pos q)) in
      let t2 : Temporaries = put t1 2 (Address block (offset + q * 4)) in
      let t3 : Temporaries = put t2 2 (Number w) in
      let t4 : Temporaries = put t3 3 (Number (pos 1)) in
      let t5 : Temporaries = put t4 3 (Number bit) in
      let t6 : Temporaries = put t5 0 (Number both) in
      let t7 : Temporaries = put t6 0 (Number (truth holds)) in
      let place : offset + q * 4 + 0 ≡ offset + 4 * q = omega arith in
      joins m s 6 routine has refl to line 0 (start (pos n)) s.memory s.tape And 2 0 (operand.Number (pos 255)) (pos n)
      (pos 255) refl refl refl
      >> passes m s 6 routine has refl to line 1 t0 s.memory s.tape NotEqual 2 (operand.Temporary 0) 8 refl
      (ap (λ z. Some (not (same_number z (pos n)))) (low_byte (pos n)) ∙ ap (λ c. Some (not c)) (same_inside n low))
      >> computes m s 6 routine has refl to line 2 t0 s.memory s.tape Divide 2 0 (operand.Number (pos 32)) (pos n)
      (pos 32) (pos q) refl refl refl (gives_natural q (omega arith))
      >> indexes m s 6 routine has refl to line 3 t1 s.memory s.tape 2 1 2 block offset q refl refl refl (omega arith) h
      >> loads m s 6 routine has refl to line 4 t2 s.memory s.tape 2 2 0 block (offset + q * 4)
      (Number w) refl refl fresh (ap (load (text_at m.code) s.memory block) place ∙ l)
      >> literal m s 6 routine has refl to line 5 t3 s.memory s.tape 3 (pos 1) refl
      >> joins m s 6 routine has refl to line 6 t4 s.memory s.tape ShiftLeft 3 3 (operand.Temporary 0) (pos 1)
      (pos n) refl refl refl
      >> joins m s 6 routine has refl to line 7 t5 s.memory s.tape And 0 2 (operand.Temporary 3) w bit refl refl refl
      >> compares m s 6 routine has refl to line 8 t6 s.memory s.tape NotEqual 0 0
      (operand.Number (pos 0)) holds refl refl
      >> a_step _ _ (returns m s 6 routine has refl to line 9 t7 s.memory s.tape 0 (Number (truth holds)) refl refl)

pub finds_members : FindsMembers
finds_members = record {
  outside = λ m x block offset memory tape has e. does_so m 6 (Number x ∷ Address block offset ∷ []) memory tape
      (Number (pos 0)) memory tape (λ s fresh.
      let s1 : State = record s { memory = memory; tape = tape } in
      record {
        by = λ to line operands at o. a_step s1 _ (enters m s1 6 routine has refl to line operands
            (Number x ∷ Address block offset ∷ []) at o refl refl refl) >>
            (outside m s1 has fresh to line block offset x e);
      });
  inside = λ m n block offset w memory tape has low l h. does_so m 6
      (Number (pos n) ∷ Address block offset ∷ []) memory tape
      (Number (truth (not (same_number (bits And w (bits ShiftLeft (pos 1) (pos n))) (pos 0))))) memory tape (λ s fresh.
      let s1 : State = record s { memory = memory; tape = tape } in
      record {
        by = λ to line operands at o. a_step s1 _ (enters m s1 6 routine has refl to line operands
            (Number (pos n) ∷ Address block offset ∷ []) at o refl refl refl) >>
            (inside m s1 has fresh to line block offset n w low l h);
      });
}
