-- The digits of an integer, one after another.
use Rattle.std.proofs.Common.{◌≡◌, ◌⊎◌, inl, inr, ℕ, ◌+◌, ◌-◌, ◌*◌, ◌<◌, ◌≤◌, ℤ, pos, negsuc, Bool, true, false, nat_lt}
use Rattle.std.proofs.Common.{cond, List, [], ◌∷◌, ◌++◌, length, drop, Some, refl, sym, ap, ◌∙◌, subst, arith, ltb-true}
use Rattle.std.proofs.Common.{ltb-false}
use Rattle.std.proofs.lemmas.List.Sums.{take_while-cons}
use Rattle.std.specs.List.{All}
use Rattle.behavior.specs.Transcripts.{mark}
use Rattle.tac_code.specs.declared.code.Value.TheVariants.{Number}
use Rattle.tac_code.specs.declared.code.Operand.TheVariants as operand
use Rattle.tac_code.specs.declared.code.Operator.TheVariants.{Subtract, Multiply}
use Rattle.tac_code.specs.declared.code.Relation.TheVariants.{Less, LessEqual, Greater}
use Rattle.tac_code.specs.Numbers.{compared, Gives}
use Rattle.tac_code.specs.Meaning.{Temporaries, put, Tape, State, related}
use Rattle.tac_code.specs.declared.code.TheConstants.{NUMBER_LIMIT}
use Rattle.tac_code_steps.specs.Runs.{Machine, Comes}
use Rattle.tac_code_steps.proofs.Runs.{a_step, ◌>>◌}
use Rattle.ps_meaning.specs.Text.{is_digit, number_written}
use Rattle.tac_rt.specs.Calls.{HasRoutines}
use Rattle.tac_rt.specs.Inputs.{first_or_end}
use Rattle.tac_rt.proofs.Inside.{back, here_at, returns, literal, computes, jumps, branches, passes, branches_back}
use Rattle.tac_rt.proofs.Inside.{passes_back}
use Rattle.tac_rt.proofs.Arithmetic.{minus, multiplied}
use Rattle.tac_rt.proofs.Digits.{Counts, IsDigit, NoDigit, above_limit, below_limit, byte_no, digit_is, digit_known}
use Rattle.tac_rt.proofs.Digits.{digit_less, digit_test, digit_value, digits_of, end_no, held, not_above_limit}
use Rattle.tac_rt.proofs.Digits.{not_below_limit, rest_small, routine, sign_of, subtracted, told, told_one, told_same}
use Rattle.tac_rt.proofs.Signs.{takes_next}

module _ (m : Machine) (s : State) (has : HasRoutines m) (to line : ℕ) where
  abbrev at_place : ℕ → Temporaries → Tape → State
  at_place pc t tape = here_at m s 15 routine has refl to line pc t s.memory tape

  -- one digit is added: from place 22 to 29
  record Added (t : Temporaries) (sign : ℤ) (written b : ℕ) (rest transcript : List ℕ) : Type 0 where
    now : Temporaries
    counts : Counts t sign (10 * written + (b - 48)) (b ∷ rest) now
    comes : Comes m (at_place 22 t (held (b ∷ rest) transcript)) (at_place 29 now (held (b ∷ rest) transcript))

  module _ (b : ℕ) (rest : List ℕ) (is : IsDigit b) (transcript : List ℕ) where
    abbrev tape : Tape
    tape = held (b ∷ rest) transcript

    abbrev digit : ℕ
    digit = b - 48

    -- too large: the flag is set, and the number stays
    sets_flag : (t : Temporaries) (sign : ℤ) (written n : ℕ) → t 3 ≡ Some (Number sign) → t 2 ≡ Some (Number (pos b))
        → t 5 ≡ Some (Number (minus n)) → n ≤ NUMBER_LIMIT → NUMBER_LIMIT < 10 * written + digit → Comes m
        (at_place 22 t tape) (at_place 28 t tape) → Added t sign written b rest transcript
    sets_flag t sign written n e f g l h come = record {
      now = put t 6 (Number (pos 1));
      counts = record {
        zero_kept = refl;
        one_kept = refl;
        signed = e;
        next = f;
        number = n;
        passed = true;
        stands = g;
        flag = refl;
        small = l;
        same = λ q. absurd (cc);
        large = λ q. h;
      };
      comes = come >> literal m s 15 routine has refl to line 28 t s.memory tape 6 (pos 1) refl;
    }

    -- ten times the number and the digit
    adds : (t : Temporaries) (sign : ℤ) (written n : ℕ) (passed : Bool) → t 3 ≡ Some (Number sign) → t 2 ≡ Some
        (Number (pos b)) → t 4 ≡ Some (Number (pos digit)) → t 5 ≡ Some (Number (minus n)) → t 6 ≡ Some
        (Number (sign_of passed)) → n * 10 + digit ≤ NUMBER_LIMIT → (passed ≡ false → n ≡ written)
        → (passed ≡ true → NUMBER_LIMIT < written) → Comes m (at_place 22 t tape) (at_place 25 t tape)
        → Added t sign written b rest transcript
    adds t sign written n passed e f d g o l same large come =
        let t1 : Temporaries = put t 5 (Number (minus (n * 10))) in
        let t2 : Temporaries = put t1 5 (Number (minus (n * 10 + digit))) in
        record {
          now = t2;
          counts = record {
            zero_kept = refl;
            one_kept = refl;
            signed = e;
            next = f;
            number = n * 10 + digit;
            passed = passed;
            stands = refl;
            flag = o;
            small = l;
            same = λ q. let z = same q in omega (arith, z);
            large = λ q. let z = large q in omega (arith, z);
          };
          comes = come
              >> computes m s 15 routine has refl to line 25 t s.memory tape Multiply 5 5 (operand.Number (pos 10))
              (minus n) (pos 10) (minus (n * 10)) refl g refl (multiplied n 10 (omega (arith, l)))
              >> computes m s 15 routine has refl to line 26 t1 s.memory tape Subtract 5 5 (operand.Temporary 4)
              (minus (n * 10)) (pos digit) (minus (n * 10 + digit)) refl refl d (digit_less (n * 10) digit l)
              >> jumps m s 15 routine has refl to line 27 t2 s.memory tape 1 refl;
        }

    one_digit : (t : Temporaries) (sign : ℤ) (written : ℕ) (before : Temporaries) → Counts before sign written
        (b ∷ rest) t → t 4 ≡ Some (Number (pos digit)) → Added t sign written b rest transcript
    one_digit t sign written before c d = limits (nat_lt 214748364 c.number) refl (nat_lt c.number 214748364) refl
      where
        less : Comes m (at_place 22 t tape) (at_place 28 t tape) → (214748364 < c.number)
            ⊎ ((c.number ≡ 214748364) × (8 < digit)) → Added t sign written b rest transcript
        less come far = sets_flag t sign written c.number c.signed c.next c.stands c.small
            (large c.passed refl far) come
          where
            large : (q : Bool) → c.passed ≡ q → (214748364 < c.number) ⊎ ((c.number ≡ 214748364) × (8 < digit))
                → NUMBER_LIMIT < 10 * written + digit
            large true q far = let w = c.large q in omega (arith, w)
            large false q (inl far) = let w = c.same q in omega (arith, w, far)
            large false q (inr far) = let w = c.same q in let x = far.0 in let y = far.1 in omega (arith, w, x, y)

        add : c.number * 10 + digit ≤ NUMBER_LIMIT → Comes m (at_place 22 t tape) (at_place 25 t tape)
            → Added t sign written b rest transcript
        add l come = adds t sign written c.number c.passed c.signed c.next d c.stands c.flag l c.same c.large come

        limits : (p : Bool) → nat_lt 214748364 c.number ≡ p → (q : Bool) → nat_lt c.number 214748364 ≡ q
            → Added t sign written b rest transcript
        limits true e q f =
            less (branches m s 15 routine has refl to line 22 t s.memory tape Less 5
            (operand.Number (negsuc 214748363)) 5 refl
            (ap (λ v. related Less v (Some (Number (negsuc 214748363)))) c.stands ∙ ap Some
            (below_limit c.number (ltb-true 214748364 c.number e)))) (inl (ltb-true 214748364 c.number e))
        limits false e true f =
            let h = ltb-false 214748364 c.number e in
            let l = ltb-true c.number 214748364 f in
            let top = is.high in
            add (omega (arith, l, top))
            (passes m s 15 routine has refl to line 22 t s.memory tape Less 5 (operand.Number (negsuc 214748363)) 5 refl
            (ap (λ v. related Less v (Some (Number (negsuc 214748363)))) c.stands ∙ ap Some
            (not_below_limit c.number (omega (arith, h))))
            >> branches m s 15 routine has refl to line 23 t s.memory tape Greater 5
            (operand.Number (negsuc 214748363)) 1 refl
            (ap (λ v. related Greater v (Some (Number (negsuc 214748363)))) c.stands ∙ ap Some
            (above_limit c.number l)))
        limits false e false f =
            let h = ltb-false 214748364 c.number e in
            let l = ltb-false c.number 214748364 f in
            let come = passes m s 15 routine has refl to line 22 t s.memory tape Less 5
            (operand.Number (negsuc 214748363)) 5 refl
            (ap (λ v. related Less v (Some (Number (negsuc 214748363)))) c.stands ∙ ap Some
            (not_below_limit c.number (omega (arith, h))))
            >> passes m s 15 routine has refl to line 23 t s.memory tape Greater 5
            (operand.Number (negsuc 214748363)) 1 refl
            (ap (λ v. related Greater v (Some (Number (negsuc 214748363)))) c.stands ∙ ap Some
            (not_above_limit c.number (omega (arith, l)))) in
            last (nat_lt 8 digit) refl (omega (arith, h, l)) come
          where
            last : (r : Bool) → nat_lt 8 digit ≡ r → c.number ≡ 214748364 → Comes m (at_place 22 t tape)
                (at_place 24 t tape) → Added t sign written b rest transcript
            last true r w come = less (come >> branches m s 15 routine has refl to line 24 t s.memory tape Greater 4
                (operand.Number (pos 8)) 3 refl (ap (λ v. related Greater v (Some (Number (pos 8)))) d ∙ ap Some r))
                (inr (w, ltb-true 8 digit r))
            last false r w come = let x = ltb-false 8 digit r in add (omega (arith, w, x))
                (come >> passes m s 15 routine has refl to line 24 t s.memory tape Greater 4
                (operand.Number (pos 8)) 3 refl (ap (λ v. related Greater v (Some (Number (pos 8)))) d ∙ ap Some r))

  -- all other digits: from place 30, where it isn't known yet whether another one comes next
  record Further (t : Temporaries) (sign : ℤ) (written : ℕ) (left later transcript : List ℕ) : Type 0 where
    now : Temporaries
    counts : Counts t sign written later now
    shorter : length later ≤ length left
    comes : Comes m (at_place 30 t (held left transcript)) (at_place 33 now (held later (told left later transcript)))

  -- no digit
  no_further : (left : List ℕ) (t before : Temporaries) (sign : ℤ) (written : ℕ) (transcript : List ℕ) → All
      (λ b. b < 256) left → Counts before sign written left t → NoDigit (digit_value left)
      → Further t sign written left left transcript
  no_further left t before sign written transcript small c none = record {
    now = put t 4 (Number (digit_value left));
    counts = record {
      zero_kept = refl;
      one_kept = refl;
      signed = c.signed;
      next = c.next;
      number = c.number;
      passed = c.passed;
      stands = c.stands;
      flag = c.flag;
      small = c.small;
      same = c.same;
      large = c.large;
    };
    shorter = omega arith;
    comes = subst (λ x. Comes m (at_place 30 t (held left transcript))
        (at_place 33 (put t 4 (Number (digit_value left))) (held left x))) (told_same left transcript)
        (computes m s 15 routine has refl to line 30 t s.memory (held left transcript) Subtract 4 2
        (operand.Number (pos 48)) (first_or_end left) (pos 48) (digit_value left) refl c.next refl
        (subtracted left small) >> out none);
  }
    where
      t1 : Temporaries
      t1 = put t 4 (Number (digit_value left))

      out : (compared Less (digit_value left) (pos 0) ≡ true)
          ⊎ ((compared Less (digit_value left) (pos 0) ≡ false)
          × (compared LessEqual (digit_value left) (pos 9) ≡ false)) → Comes m (at_place 31 t1 (held left transcript))
          (at_place 33 t1 (held left transcript))
      out (inl e) = branches m s 15 routine has refl to line 31 t1 s.memory (held left transcript) Less 4
          (operand.Number (pos 0)) 1 refl (ap Some e)
      out (inr e) =
          passes m s 15 routine has refl to line 31 t1 s.memory (held left transcript) Less 4
          (operand.Number (pos 0)) 1 refl (ap Some e.0)
          >> passes_back m s 15 routine has refl to line 32 t1 s.memory (held left transcript) LessEqual 4
          (operand.Number (pos 9)) 10 refl (ap Some e.1)

  further : (left : List ℕ) (t before : Temporaries) (sign : ℤ) (written : ℕ) (transcript : List ℕ) → All
      (λ b. b < 256) left → Counts before sign written left t → Further t sign
      (number_written written (digits_of left)) left (drop (length (digits_of left)) left) transcript
  further [] t before sign written transcript small c = no_further [] t before sign written transcript small c end_no
  further (b ∷ rest) t before sign written transcript small c = go (is_digit b) refl
      (λ t2 c2. further rest t2 t2 sign (10 * written + (b - 48)) (transcript ++ mark ∷ [])
      (rest_small b rest small) c2)
    where
      go : (q : Bool) → is_digit b ≡ q → ((t2 : Temporaries) → Counts t2 sign (10 * written + (b - 48)) rest t2
          → Further t2 sign (number_written (10 * written + (b - 48)) (digits_of rest)) rest
          (drop (length (digits_of rest)) rest) (transcript ++ mark ∷ [])) → Further t sign
          (number_written written (digits_of (b ∷ rest))) (b ∷ rest)
          (drop (length (digits_of (b ∷ rest))) (b ∷ rest)) transcript
      go false e on =
          subst (λ ds. Further t sign (number_written written ds) (b ∷ rest) (drop (length ds) (b ∷ rest)) transcript)
          (sym (take_while-cons is_digit b rest ∙ ap (λ q. cond q (b ∷ digits_of rest) []) e))
          (no_further (b ∷ rest) t before sign written transcript small c (byte_no b rest e))
      go true e on =
          let is = digit_is b e in
          let high = is.high in
          let d = b - 48 in
          let t1 : Temporaries = put t 4 (Number (pos d)) in
          let now : Tape = held (b ∷ rest) transcript in
          let test = digit_test d (omega (arith, high)) in
          let c1 : Counts t sign written (b ∷ rest) t1 = record {
            zero_kept = refl;
            one_kept = refl;
            signed = c.signed;
            next = c.next;
            number = c.number;
            passed = c.passed;
            stands = c.stands;
            flag = c.flag;
            small = c.small;
            same = c.same;
            large = c.large;
          } in
          let one = one_digit b rest is transcript t1 sign written t c1 refl in
          let k = one.counts in
          let t2 : Temporaries = put one.now 2 (Number (first_or_end rest)) in
          let c2 : Counts t2 sign (10 * written + d) rest t2 = record {
            zero_kept = refl;
            one_kept = refl;
            signed = k.signed;
            next = refl;
            number = k.number;
            passed = k.passed;
            stands = k.stands;
            flag = k.flag;
            small = k.small;
            same = k.same;
            large = k.large;
          } in
          let r = on t2 c2 in
          let z = r.counts in
          let l = r.shorter in
          let later = drop (length (digits_of rest)) rest in
          subst (λ ds. Further t sign (number_written written ds) (b ∷ rest) (drop (length ds) (b ∷ rest)) transcript)
          (sym (take_while-cons is_digit b rest ∙ ap (λ q. cond q (b ∷ digits_of rest) []) e))
          (record {
            now = r.now;
            counts = record {
              zero_kept = z.zero_kept ∙ k.zero_kept;
              one_kept = z.one_kept ∙ k.one_kept;
              signed = z.signed;
              next = z.next;
              number = z.number;
              passed = z.passed;
              stands = z.stands;
              flag = z.flag;
              small = z.small;
              same = z.same;
              large = z.large;
            };
            shorter = omega (arith, l);
            comes = subst (λ x. Comes m (at_place 30 t now) (at_place 33 r.now (held later x)))
                (told_one b rest later transcript l)
                (computes m s 15 routine has refl to line 30 t s.memory now Subtract 4 2 (operand.Number (pos 48))
                (pos b) (pos 48) (pos d) refl c.next refl
                (subtracted (b ∷ rest) small ∙ ap Gives (digit_known b rest is))
                >> passes m s 15 routine has refl to line 31 t1 s.memory now Less 4 (operand.Number (pos 0)) 1 refl
                (ap Some test.0)
                >> branches_back m s 15 routine has refl to line 32 t1 s.memory now LessEqual 4
                (operand.Number (pos 9)) 10 refl (ap Some test.1)
                >> one.comes >> takes_next m s has to line 29 one.now b rest transcript refl >> r.comes);
          })

  -- ---- the first digit, or none

  pub no_digit : (left : List ℕ) (t : Temporaries) (transcript : List ℕ) → All (λ b. b < 256) left → t 2 ≡ Some
      (Number (first_or_end left)) → NoDigit (digit_value left) → Comes m (at_place 15 t (held left transcript))
      (back s to (Number (pos 2)) s.memory (held left transcript))
  no_digit left t transcript small n none =
      computes m s 15 routine has refl to line 15 t s.memory now Subtract 4 2 (operand.Number (pos 48))
      (first_or_end left) (pos 48) (digit_value left) refl n refl (subtracted left small)
      >> out none
      >> literal m s 15 routine has refl to line 18 t1 s.memory now 3 (pos 2) refl
      >> a_step _ _ (returns m s 15 routine has refl to line 19 (put t1 3 (Number (pos 2))) s.memory now 3
      (Number (pos 2)) refl refl)
    where
      now : Tape
      now = held left transcript

      t1 : Temporaries
      t1 = put t 4 (Number (digit_value left))

      out : (compared Less (digit_value left) (pos 0) ≡ true)
          ⊎ ((compared Less (digit_value left) (pos 0) ≡ false)
          × (compared LessEqual (digit_value left) (pos 9) ≡ false)) → Comes m (at_place 16 t1 (held left transcript))
          (at_place 18 t1 (held left transcript))
      out (inl e) = branches m s 15 routine has refl to line 16 t1 s.memory (held left transcript) Less 4
          (operand.Number (pos 0)) 1 refl (ap Some e)
      out (inr e) =
          passes m s 15 routine has refl to line 16 t1 s.memory (held left transcript) Less 4
          (operand.Number (pos 0)) 1 refl (ap Some e.0)
          >> passes m s 15 routine has refl to line 17 t1 s.memory (held left transcript) LessEqual 4
          (operand.Number (pos 9)) 2 refl (ap Some e.1)

  pub record Started (t : Temporaries) (sign : ℤ) (written : ℕ) (left later transcript : List ℕ) : Type 0 where
    pub now : Temporaries
    pub counts : Counts t sign written later now
    pub shorter : length later ≤ length left
    pub comes : Comes m (at_place 15 t (held left transcript))
        (at_place 33 now (held later (told left later transcript)))

  pub starts : (b : ℕ) (rest : List ℕ) (t : Temporaries) (sign : ℤ) (transcript : List ℕ)
      → All (λ b. b < 256) (b ∷ rest)
      → is_digit b ≡ true → t 2 ≡ Some (Number (pos b)) → t 3 ≡ Some (Number sign) → Started t sign
      (number_written 0 (b ∷ digits_of rest)) (b ∷ rest) (drop (length (digits_of rest)) rest) transcript
  starts b rest t sign transcript small e n g =
      let is = digit_is b e in
      let high = is.high in
      let d = b - 48 in
      let now : Tape = held (b ∷ rest) transcript in
      let test = digit_test d (omega (arith, high)) in
      let t1 : Temporaries = put t 4 (Number (pos d)) in
      let t2 : Temporaries = put t1 5 (Number (pos 0)) in
      let t3 : Temporaries = put t2 6 (Number (pos 0)) in
      let c : Counts t sign 0 (b ∷ rest) t3 = record {
        zero_kept = refl;
        one_kept = refl;
        signed = g;
        next = n;
        number = 0;
        passed = false;
        stands = refl;
        flag = refl;
        small = omega arith;
        same = λ q. refl;
        large = λ q. absurd (cc);
      } in
      let one = one_digit b rest is transcript t3 sign 0 t c refl in
      let k = one.counts in
      let t4 : Temporaries = put one.now 2 (Number (first_or_end rest)) in
      let c4 : Counts t4 sign (10 * 0 + d) rest t4 = record {
        zero_kept = refl;
        one_kept = refl;
        signed = k.signed;
        next = refl;
        number = k.number;
        passed = k.passed;
        stands = k.stands;
        flag = k.flag;
        small = k.small;
        same = k.same;
        large = k.large;
      } in
      let r = further rest t4 t4 sign (10 * 0 + d) (transcript ++ mark ∷ []) (rest_small b rest small) c4 in
      let z = r.counts in
      let l = r.shorter in
      let later = drop (length (digits_of rest)) rest in
      record {
        now = r.now;
        counts = record {
          zero_kept = z.zero_kept ∙ k.zero_kept;
          one_kept = z.one_kept ∙ k.one_kept;
          signed = z.signed;
          next = z.next;
          number = z.number;
          passed = z.passed;
          stands = z.stands;
          flag = z.flag;
          small = z.small;
          same = z.same;
          large = z.large;
        };
        shorter = omega (arith, l);
        comes = subst (λ x. Comes m (at_place 15 t now) (at_place 33 r.now (held later x)))
            (told_one b rest later transcript l)
            (computes m s 15 routine has refl to line 15 t s.memory now Subtract 4 2 (operand.Number (pos 48)) (pos b)
            (pos 48) (pos d) refl n refl (subtracted (b ∷ rest) small ∙ ap Gives (digit_known b rest is))
            >> passes m s 15 routine has refl to line 16 t1 s.memory now Less 4 (operand.Number (pos 0)) 1 refl
            (ap Some test.0)
            >> branches m s 15 routine has refl to line 17 t1 s.memory now LessEqual 4 (operand.Number (pos 9)) 2 refl
            (ap Some test.1)
            >> literal m s 15 routine has refl to line 20 t1 s.memory now 5 (pos 0) refl
            >> literal m s 15 routine has refl to line 21 t2 s.memory now 6 (pos 0) refl
            >> one.comes >> takes_next m s has to line 29 one.now b rest transcript refl >> r.comes);
      }
