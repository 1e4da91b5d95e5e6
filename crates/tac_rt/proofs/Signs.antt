-- Blanks before an integer, and its sign.
use Rattle.std.proofs.Common.{◌≡◌, ℕ, suc, ◌-◌, ◌≤◌, ℤ, pos, negsuc, Bool, true, false, not, ◌||◌, nat_eq}
use Rattle.std.proofs.Common.{if◌then◌else◌, List, [], ◌∷◌, ◌++◌, length, replicate, slice_get, Some, refl, sym, ap}
use Rattle.std.proofs.Common.{◌∙◌, subst, arith, eqb-true}
use Rattle.behavior.specs.Transcripts.{mark}
use Rattle.tac_code.specs.declared.code.Value.TheVariants.{Number}
use Rattle.tac_code.specs.declared.code.Operand.TheVariants as operand
use Rattle.tac_code.specs.declared.code.Relation.TheVariants.{Equal, NotEqual}
use Rattle.tac_code.specs.declared.code.Instruction.TheVariants.{Take}
use Rattle.tac_code.specs.Numbers.{same_number}
use Rattle.tac_code.specs.Meaning.{Temporaries, put, Tape, State, related}
use Rattle.tac_code_steps.specs.Runs.{Machine, Comes}
use Rattle.tac_code_steps.proofs.Runs.{◌>>◌}
use Rattle.ps_meaning.specs.Text.{after_blanks, after_sign}
use Rattle.tac_rt.specs.Calls.{HasRoutines}
use Rattle.tac_rt.specs.Inputs.{first_or_end}
use Rattle.tac_rt.proofs.Inside.{here_at, literal, jumps_back, branches, passes, takes_byte, takes_end}
use Rattle.tac_rt.proofs.Digits.{held, routine, sign_of, told, told_one, told_same}

module _ (m : Machine) (s : State) (has : HasRoutines m) (to line : ℕ) where
  abbrev at_place : ℕ → Temporaries → Tape → State
  at_place pc t tape = here_at m s 15 routine has refl to line pc t s.memory tape

  pub takes_next : (pc : ℕ) (t : Temporaries) (b : ℕ) (rest transcript : List ℕ)
      → slice_get routine.body pc ≡ Some (Take 2)
      → Comes m (at_place pc t (held (b ∷ rest) transcript))
      (at_place (suc pc) (put t 2 (Number (first_or_end rest))) (held rest (transcript ++ mark ∷ [])))
  takes_next pc t b [] transcript i = takes_end m s 15 routine has refl to line pc t s.memory
      (held (b ∷ []) transcript) 2 i refl
  takes_next pc t b (c ∷ rest) transcript i = takes_byte m s 15 routine has refl to line pc t s.memory
      (held (b ∷ c ∷ rest) transcript) 2 c rest i refl

  -- from one place to another, some bytes further on
  pub record Goes (pc pc' : ℕ) (t : Temporaries) (sign : ℤ) (left later transcript : List ℕ) : Type 0 where
    pub temporaries : Temporaries
    pub zero_kept : temporaries 0 ≡ t 0
    pub one_kept : temporaries 1 ≡ t 1
    pub signed : temporaries 3 ≡ Some (Number sign)
    pub next : temporaries 2 ≡ Some (Number (first_or_end later))
    pub shorter : length later ≤ length left
    pub comes : Comes m (at_place pc t (held left transcript))
        (at_place pc' temporaries (held later (told left later transcript)))

  pub record Blanks (t : Temporaries) (left later transcript : List ℕ) : Type 0 where
    pub temporaries : Temporaries
    pub zero_kept : temporaries 0 ≡ t 0
    pub one_kept : temporaries 1 ≡ t 1
    pub next : temporaries 2 ≡ Some (Number (first_or_end later))
    pub shorter : length later ≤ length left
    pub comes : Comes m (at_place 3 t (held left transcript))
        (at_place 7 temporaries (held later (told left later transcript)))

  -- ---- spaces and line ends

  no_blank : (left : List ℕ) (t : Temporaries) (transcript : List ℕ) → t 2 ≡ Some (Number (first_or_end left))
      → same_number (first_or_end left) (pos 32) ≡ false → same_number (first_or_end left) (pos 10) ≡ false
      → Blanks t left left transcript
  no_blank left t transcript n e f = record {
    temporaries = t;
    zero_kept = refl;
    one_kept = refl;
    next = n;
    shorter = omega arith;
    comes = subst (λ x. Comes m (at_place 3 t (held left transcript)) (at_place 7 t (held left x)))
        (told_same left transcript)
        (passes m s 15 routine has refl to line 3 t s.memory (held left transcript) Equal 2
        (operand.Number (pos 32)) 1 refl (ap (λ v. related Equal v (Some (Number (pos 32)))) n ∙ ap Some e)
        >> branches m s 15 routine has refl to line 4 t s.memory (held left transcript) NotEqual 2
        (operand.Number (pos 10)) 2 refl (ap (λ v. related NotEqual v (Some (Number (pos 10)))) n
        ∙ ap (λ b. Some (not b)) f));
  }

  pub blanks : (left : List ℕ) (t : Temporaries) (transcript : List ℕ) → t 2 ≡ Some (Number (first_or_end left))
      → Blanks t left (after_blanks left) transcript
  blanks [] t transcript n = no_blank [] t transcript n refl refl
  blanks (b ∷ rest) t transcript n = go (nat_eq b 32) refl (nat_eq b 10) refl
      (blanks rest (put t 2 (Number (first_or_end rest))) (transcript ++ mark ∷ []) refl)
    where
      skipped : Comes m (at_place 3 t (held (b ∷ rest) transcript)) (at_place 5 t (held (b ∷ rest) transcript)) → Blanks
          (put t 2 (Number (first_or_end rest))) rest (after_blanks rest) (transcript ++ mark ∷ []) → Blanks t
          (b ∷ rest) (after_blanks rest) transcript
      skipped here on =
          let l = on.shorter in
          record {
            temporaries = on.temporaries;
            zero_kept = on.zero_kept;
            one_kept = on.one_kept;
            next = on.next;
            shorter = omega (arith, l);
            comes = subst (λ x. Comes m (at_place 3 t (held (b ∷ rest) transcript))
                (at_place 7 on.temporaries (held (after_blanks rest) x)))
                (told_one b rest (after_blanks rest) transcript l)
                (here >> takes_next 5 t b rest transcript refl >> jumps_back m s 15 routine has refl to line 6
                (put t 2 (Number (first_or_end rest))) s.memory
                (held rest (transcript ++ mark ∷ [])) 3 refl >> on.comes);
          }

      go : (p : Bool) → nat_eq b 32 ≡ p → (q : Bool) → nat_eq b 10 ≡ q → Blanks
          (put t 2 (Number (first_or_end rest))) rest (after_blanks rest) (transcript ++ mark ∷ []) → Blanks t
          (b ∷ rest) (if nat_eq b 32 || nat_eq b 10 then after_blanks rest else b ∷ rest) transcript
      go true e q f on =
          subst (λ x. Blanks t (b ∷ rest) (if x || nat_eq b 10 then after_blanks rest else b ∷ rest) transcript) (sym e)
          (skipped (branches m s 15 routine has refl to line 3 t s.memory (held (b ∷ rest) transcript) Equal 2
          (operand.Number (pos 32)) 1 refl (ap (λ v. related Equal v (Some (Number (pos 32)))) n ∙ ap Some e)) on)
      go false e true f on =
          subst (λ x. Blanks t (b ∷ rest) (if x || nat_eq b 10 then after_blanks rest else b ∷ rest) transcript) (sym e)
          (subst (λ x. Blanks t (b ∷ rest) (if false || x then after_blanks rest else b ∷ rest) transcript) (sym f)
          (skipped (passes m s 15 routine has refl to line 3 t s.memory (held (b ∷ rest) transcript) Equal 2
          (operand.Number (pos 32)) 1 refl (ap (λ v. related Equal v (Some (Number (pos 32)))) n ∙ ap Some e)
          >> passes m s 15 routine has refl to line 4 t s.memory (held (b ∷ rest) transcript) NotEqual 2
          (operand.Number (pos 10)) 2 refl (ap (λ v. related NotEqual v (Some (Number (pos 10)))) n
          ∙ ap (λ x. Some (not x)) f)) on))
      go false e false f on =
          subst (λ x. Blanks t (b ∷ rest) (if x || nat_eq b 10 then after_blanks rest else b ∷ rest) transcript) (sym e)
          (subst (λ x. Blanks t (b ∷ rest) (if false || x then after_blanks rest else b ∷ rest) transcript) (sym f)
          (no_blank (b ∷ rest) t transcript n e f))

  -- ---- the sign

  pub signs : (b : ℕ) (rest : List ℕ) (t : Temporaries) (transcript : List ℕ) → t 2 ≡ Some (Number (pos b))
      → Goes 7 15 t
      (sign_of (nat_eq b 45)) (b ∷ rest) (after_sign (b ∷ rest)) transcript
  signs b rest t transcript n = go (nat_eq b 43) refl (nat_eq b 45) refl
    where
      now : Tape
      now = held (b ∷ rest) transcript

      t1 : Temporaries
      t1 = put t 3 (Number (pos 0))

      begins : Comes m (at_place 7 t now) (at_place 11 t1 now)
      begins =
          branches m s 15 routine has refl to line 7 t s.memory now NotEqual 2 (operand.Number (negsuc 0)) 2 refl
          (ap (λ v. related NotEqual v (Some (Number (negsuc 0)))) n)
          >> literal m s 15 routine has refl to line 10 t s.memory now 3 (pos 0) refl

      -- a sign is taken
      signed_by : (t2 : Temporaries) (z : ℤ) → t2 0 ≡ t 0 → t2 1 ≡ t 1 → t2 3 ≡ Some (Number z) → Comes m
          (at_place 7 t now) (at_place 14 t2 now) → Goes 7 15 t z (b ∷ rest) rest transcript
      signed_by t2 z a c e come = record {
        temporaries = put t2 2 (Number (first_or_end rest));
        zero_kept = a;
        one_kept = c;
        signed = e;
        next = refl;
        shorter = omega arith;
        comes = subst (λ x. Comes m (at_place 7 t now)
            (at_place 15 (put t2 2 (Number (first_or_end rest))) (held rest x)))
            (let one : 1 ≡ suc (length rest) - length rest = omega arith
            in ap (λ k. transcript ++ replicate k mark) one) (come >> takes_next 14 t2 b rest transcript refl);
      }

      no_minus : nat_eq b 43 ≡ true → nat_eq b 45 ≡ false
      no_minus e = ap (λ a. nat_eq a 45) (eqb-true b 43 e)

      go : (p : Bool) → nat_eq b 43 ≡ p → (q : Bool) → nat_eq b 45 ≡ q → Goes 7 15 t (sign_of (nat_eq b 45)) (b ∷ rest)
          (if nat_eq b 43 || nat_eq b 45 then rest else b ∷ rest) transcript
      go true e q f =
          subst (λ x. Goes 7 15 t (sign_of (nat_eq b 45)) (b ∷ rest)
          (if x || nat_eq b 45 then rest else b ∷ rest) transcript) (sym e)
          (subst (λ x. Goes 7 15 t (sign_of x) (b ∷ rest) rest transcript) (sym (no_minus e))
          (signed_by t1 (pos 0) refl refl refl (begins >> branches m s 15 routine has refl to line 11 t1 s.memory now
          Equal 2 (operand.Number (pos 43)) 2 refl
          (ap (λ v. related Equal v (Some (Number (pos 43)))) n ∙ ap Some e))))
      go false e true f =
          let two = passes m s 15 routine has refl to line 11 t1 s.memory now Equal 2 (operand.Number (pos 43)) 2 refl
          (ap (λ v. related Equal v (Some (Number (pos 43)))) n ∙ ap Some e) in
          subst (λ x. Goes 7 15 t (sign_of (nat_eq b 45)) (b ∷ rest)
          (if x || nat_eq b 45 then rest else b ∷ rest) transcript) (sym e)
          (subst (λ x. Goes 7 15 t (sign_of x) (b ∷ rest) (if false || x then rest else b ∷ rest) transcript) (sym f)
          (signed_by (put t1 3 (Number (pos 1))) (pos 1) refl refl refl
          (begins >> two >> passes m s 15 routine has refl to line 12 t1 s.memory now NotEqual 2
          (operand.Number (pos 45)) 2 refl (ap (λ v. related NotEqual v (Some (Number (pos 45)))) n
          ∙ ap (λ x. Some (not x)) f) >> literal m s 15 routine has refl to line 13 t1 s.memory now 3
          (pos 1) refl)))
      go false e false f =
          let two = passes m s 15 routine has refl to line 11 t1 s.memory now Equal 2 (operand.Number (pos 43)) 2 refl
          (ap (λ v. related Equal v (Some (Number (pos 43)))) n ∙ ap Some e) in
          subst (λ x. Goes 7 15 t (sign_of (nat_eq b 45)) (b ∷ rest)
          (if x || nat_eq b 45 then rest else b ∷ rest) transcript) (sym e)
          (subst (λ x. Goes 7 15 t (sign_of x) (b ∷ rest) (if false || x then rest else b ∷ rest) transcript) (sym f)
          (record {
            temporaries = t1;
            zero_kept = refl;
            one_kept = refl;
            signed = refl;
            next = n;
            shorter = omega arith;
            comes = subst (λ x. Comes m (at_place 7 t now) (at_place 15 t1 (held (b ∷ rest) x)))
                (told_same (b ∷ rest) transcript)
                (begins >> two >> branches m s 15 routine has refl to line 12 t1 s.memory now NotEqual 2
                (operand.Number (pos 45)) 2 refl (ap (λ v. related NotEqual v (Some (Number (pos 45)))) n
                ∙ ap (λ x. Some (not x)) f));
          }))
