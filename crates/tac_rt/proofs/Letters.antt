-- Characters are written as the meaning says.
use Rattle.std.proofs.Common.{◌≡◌, ℕ, zero, suc, ◌-◌, ◌%◌, ◌^◌, ◌<◌, ℤ, pos, negsuc, unsigned_abs, true, not, [], ◌∷◌}
use Rattle.std.proofs.Common.{replicate, slice_get, Some, refl, ap, ◌∙◌, subst, arith, lt-ltb, ltb-true}
use Rattle.std.proofs.lemmas.Bool.{ne_eqb, le-ltb}
use Rattle.tac_code.specs.declared.code.Value.TheVariants.{Number}
use Rattle.tac_code.specs.declared.code.Operand.TheVariants as operand
use Rattle.tac_code.specs.declared.code.Operator.TheVariants.{Subtract}
use Rattle.tac_code.specs.declared.code.BitOperator.TheVariants.{And}
use Rattle.tac_code.specs.declared.code.Relation.TheVariants.{NotEqual, LessEqual, GreaterEqual}
use Rattle.tac_code.specs.declared.code.TacRoutine.{TacRoutine}
use Rattle.tac_code.specs.Numbers.{is_integer, bits, word_of}
use Rattle.tac_code.specs.Meaning.{Temporaries, put, Tape, State, related, told}
use Rattle.tac_code.specs.declared.code.TheConstants.{NUMBER_LIMIT}
use Rattle.tac_code_steps.specs.Runs.{Machine, Comes}
use Rattle.tac_code_steps.specs.Routines.{wrote}
use Rattle.tac_code_steps.proofs.Runs.{a_step, ◌>>◌}
use Rattle.ps_meaning.specs.Text.{right_aligned}
use Rattle.tac_rt.specs.declared.writing.TheConstants.{WRITE_CHARACTER}
use Rattle.tac_rt.specs.Bodies.{routine_of}
use Rattle.tac_rt.specs.Calls.{HasRoutines}
use Rattle.tac_rt.specs.Laws.{WritesCharacters}
use Rattle.tac_rt.proofs.Inside.{back, does_so, here_at, enters, returns, literal, computes, counts, joins, branches}
use Rattle.tac_rt.proofs.Inside.{passes, branches_back, passes_back, writes}
use Rattle.tac_rt.proofs.Arithmetic.{minus, negated, not_negative, low_byte}
use Rattle.tac_rt.proofs.Strings.{told_all, told_both, told_written}

abbrev routine : TacRoutine
routine = routine_of 2 4 WRITE_CHARACTER

-- ---- the lowest byte of a number's word

-- of minus the lowest byte of a negative number: the lowest byte of its absolute value
low_again : (k n : ℕ) → k < NUMBER_LIMIT → n ≡ (2 ^ 32 - suc k) % 256 → word_of (minus n) % 256 ≡ suc k % 256
low_again k zero l e = omega arith
low_again k (suc n) l e = let w : (2 ^ 32 - suc n) % 256 ≡ suc k % 256 = omega arith in w

module _ (m : Machine) (s : State) (has : HasRoutines m) (to line : ℕ) where
  abbrev at_place : ℕ → Temporaries → Tape → State
  at_place pc t tape = here_at m s 11 routine has refl to line pc t s.memory tape

  abbrev Spaced : (pc k : ℕ) → Temporaries → Tape → Type 0
  Spaced pc k t tape = (t' : Temporaries) × (t' 2 ≡ t 2) × Comes m (at_place pc t tape)
      (at_place 10 t' (told_all (replicate k 32) tape))

  -- a space
  space : (k : ℕ) (t : Temporaries) (tape : Tape) → t 1 ≡ Some (Number (pos (suc k))) → t 3 ≡ Some (Number (pos 32))
      → suc k < NUMBER_LIMIT → Comes m (at_place 7 t tape) (at_place 9 (put t 1 (Number (pos k))) (told 32 tape))
  space k t tape n e l =
      writes m s 11 routine has refl to line 7 t s.memory tape 3 32 refl e (omega arith)
      >> counts m s 11 routine has refl to line 8 t s.memory (told 32 tape) 1 (suc k) k 0 refl n (omega arith) l

  -- spaces, from the top of the loop on
  spaces : (k : ℕ) (t : Temporaries) (tape : Tape) → t 1 ≡ Some (Number (pos (suc (suc k)))) → t 3 ≡ Some
      (Number (pos 32)) → suc (suc k) < NUMBER_LIMIT → Spaced 7 (suc k) t tape
  spaces zero t tape n e l =
      let t1 : Temporaries = put t 1 (Number (pos 1)) in (
        t1,
        refl,
        space 1 t tape n e l >> passes_back m s 11 routine has refl to line 9 t1 s.memory
            (told 32 tape) NotEqual 1 (operand.Number (pos 1)) 2 refl refl,
      )
  spaces (suc k) t tape n e l =
      let t1 : Temporaries = put t 1 (Number (pos (suc (suc k)))) in
      let more : suc (suc k) ≡ 1 → ⊥ = λ q. omega arith in
      let rest = spaces k t1 (told 32 tape) refl e (omega arith) in (
        rest.0,
        rest.1,
        space (suc (suc k)) t tape n e l
            >> branches_back m s 11 routine has refl to line 9 t1 s.memory (told 32 tape) NotEqual 1
            (operand.Number (pos 1)) 2 refl (ap (λ x. Some (not x)) (ne_eqb (suc (suc k)) 1 more))
            >> rest.2,
      )

  padding : (w k : ℕ) (t : Temporaries) (tape : Tape) → k ≡ w - 1 → t 1 ≡ Some (Number (pos w)) → w < NUMBER_LIMIT
      → Spaced 5 k t tape
  padding w zero t tape e n l = (
    t,
    refl,
    branches m s 11 routine has refl to line 5 t s.memory tape LessEqual 1 (operand.Number (pos 1)) 4 refl
        (ap (λ v. related LessEqual v (Some (Number (pos 1)))) n ∙ ap (λ x. Some (not x))
        (le-ltb 1 w (omega (arith, e)))),
  )
  padding w (suc k) t tape e n l =
      let wide : w ≡ suc (suc k) = omega (arith, e) in
      let rest = spaces k (put t 3 (Number (pos 32))) tape (n ∙ ap (λ x. Some (Number (pos x))) wide) refl
      (omega (arith, e, l)) in (
        rest.0,
        rest.1,
        passes m s 11 routine has refl to line 5 t s.memory tape LessEqual 1 (operand.Number (pos 1)) 4 refl
            (ap (λ v. related LessEqual v (Some (Number (pos 1)))) n ∙ ap (λ x. Some (not x))
            (lt-ltb 1 w (omega (arith, e))))
            >> literal m s 11 routine has refl to line 6 t s.memory tape 3 (pos 32) refl
            >> rest.2,
      )

  abbrev start : (x : ℤ) (w : ℕ) → Temporaries
  start x w u = slice_get (Number x ∷ Number (pos w) ∷ []) u

  -- from place 5 on, with the byte in temporary 2
  ends : (w b : ℕ) (t : Temporaries) → t 1 ≡ Some (Number (pos w)) → t 2 ≡ Some (Number (pos b)) → b < 256
      → w < NUMBER_LIMIT → Comes m (at_place 5 t s.tape)
      (back s to (Number (pos 0)) s.memory (wrote s.tape (right_aligned w (b ∷ []))))
  ends w b t width byte low l =
      let front = padding w (w - 1) t s.tape refl width l in
      let tape : Tape = told_all (replicate (w - 1) 32) s.tape in
      front.2
      >> writes m s 11 routine has refl to line 10 front.0 s.memory tape 2 b refl (front.1 ∙ byte) low
      >> literal m s 11 routine has refl to line 11 front.0 s.memory (told b tape) 3 (pos 0) refl
      >> subst (λ u. Comes m (at_place 12 (put front.0 3 (Number (pos 0))) (told b tape))
      (back s to (Number (pos 0)) s.memory u))
      (told_both (replicate (w - 1) 32) (b ∷ []) s.tape ∙ told_written (right_aligned w (b ∷ [])) s.tape)
      (a_step _ _ (returns m s 11 routine has refl to line 12 (put front.0 3 (Number (pos 0))) s.memory (told b tape) 3
      (Number (pos 0)) refl refl))

  whole : (x : ℤ) (w : ℕ) → is_integer x ≡ true → w < NUMBER_LIMIT → Comes m (at_place 0 (start x w) s.tape)
      (back s to (Number (pos 0)) s.memory (wrote s.tape (right_aligned w (unsigned_abs x % 256 ∷ []))))
  whole (pos n) w h l =
      let x : ℤ = pos n in
      let t1 : Temporaries = put (start x w) 2 (Number (bits And x (pos 255))) in
      joins m s 11 routine has refl to line 0 (start x w) s.memory s.tape And 2 0 (operand.Number (pos 255)) x
      (pos 255) refl refl refl
      >> branches m s 11 routine has refl to line 1 t1 s.memory s.tape GreaterEqual 0 (operand.Number (pos 0)) 3 refl
      (ap Some (not_negative n))
      >> ends w (n % 256) t1 refl (ap (λ z. Some (Number z)) (low_byte x)) (omega arith) l
  whole (negsuc k) w h l =
      let x : ℤ = negsuc k in
      let small = ltb-true k NUMBER_LIMIT h in
      let n : ℕ = word_of x % 256 in
      let t1 : Temporaries = put (start x w) 2 (Number (bits And x (pos 255))) in
      let t2 : Temporaries = put t1 3 (Number (pos 0)) in
      let t3 : Temporaries = put t2 2 (Number (minus n)) in
      let t4 : Temporaries = put t3 2 (Number (bits And (minus n) (pos 255))) in
      let again : word_of (minus n) % 256 ≡ suc k % 256 = low_again k n small refl in
      joins m s 11 routine has refl to line 0 (start x w) s.memory s.tape And 2 0 (operand.Number (pos 255)) x
      (pos 255) refl refl refl
      >> passes m s 11 routine has refl to line 1 t1 s.memory s.tape GreaterEqual 0 (operand.Number (pos 0)) 3 refl refl
      >> literal m s 11 routine has refl to line 2 t1 s.memory s.tape 3 (pos 0) refl
      >> computes m s 11 routine has refl to line 3 t2 s.memory s.tape Subtract 2 3 (operand.Temporary 2) (pos 0)
      (pos n) (minus n) refl refl (ap (λ z. Some (Number z)) (low_byte x)) (negated n (omega arith))
      >> joins m s 11 routine has refl to line 4 t3 s.memory s.tape And 2 2 (operand.Number (pos 255)) (minus n)
      (pos 255) refl refl refl
      >> ends w (suc k % 256) t4 refl (ap (λ z. Some (Number z)) (low_byte (minus n))
      ∙ ap (λ z. Some (Number (pos z))) again) (omega arith) l

pub writes_characters : WritesCharacters
writes_characters m x w memory tape has h l = does_so m 11 (Number x ∷ Number (pos w) ∷ []) memory tape
    (Number (pos 0)) memory (wrote tape (right_aligned w (unsigned_abs x % 256 ∷ []))) (λ s fresh.
    let s1 : State = record s { memory = memory; tape = tape } in
    record {
      by = λ to line operands at e.
          a_step s1 _ (enters m s1 11 routine has refl to line operands
          (Number x ∷ Number (pos w) ∷ []) at e refl refl refl) >>
          (whole m s1 has to line x w h l);
    })
