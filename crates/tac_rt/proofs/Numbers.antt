-- Integers are written as the meaning says.
use Rattle.std.proofs.Common.{◌≡◌, ℕ, zero, suc, ◌+◌, ◌-◌, ◌*◌, ◌/◌, ◌^◌, ◌<◌, ◌≤◌, ℤ, pos, negsuc, ◌-ℤ◌, Bool, true}
use Rattle.std.proofs.Common.{false, not, nat_lt, List, [], ◌∷◌, ◌++◌, length, replicate, slice_get, Some, refl, sym}
use Rattle.std.proofs.Common.{ap, ◌∙◌, subst, arith, lt-ltb, ltb-true, ltb-false}
use Rattle.std.proofs.Math.Nat.{pow-suc, div-lt_iff_lt-mul}
use Rattle.std.proofs.lemmas.Nat.{div-mul-add, le-div}
use Rattle.std.proofs.lemmas.Int.{ints}
use Rattle.std.proofs.lemmas.Bool.{ne_eqb}
use Rattle.tac_code.specs.declared.code.Value.TheVariants.{Number}
use Rattle.tac_code.specs.declared.code.Operand.TheVariants as operand
use Rattle.tac_code.specs.declared.code.Operator.TheVariants.{Subtract, Multiply, Divide}
use Rattle.tac_code.specs.declared.code.Relation.TheVariants.{NotEqual, LessEqual, Greater, GreaterEqual}
use Rattle.tac_code.specs.declared.code.TacRoutine.{TacRoutine}
use Rattle.tac_code.specs.Numbers.{is_integer, Gives}
use Rattle.tac_code.specs.Meaning.{Temporaries, put, Tape, State, related}
use Rattle.tac_code.specs.declared.code.TheConstants.{NUMBER_LIMIT}
use Rattle.tac_code_steps.specs.Runs.{Machine, Comes}
use Rattle.tac_code_steps.specs.Routines.{wrote}
use Rattle.tac_code_steps.proofs.Runs.{a_step, ◌>>◌}
use Rattle.ps_meaning.specs.Text.{right_aligned, digits, integer_text}
use Rattle.tac_rt.specs.declared.writing.TheConstants.{WRITE_NUMBER}
use Rattle.tac_rt.specs.Bodies.{routine_of}
use Rattle.tac_rt.specs.Calls.{HasRoutines}
use Rattle.tac_rt.specs.Laws.{WritesNumbers}
use Rattle.tac_rt.proofs.Inside.{back, does_so, here_at, enters, returns, literal, copies, computes, jumps, branches}
use Rattle.tac_rt.proofs.Inside.{passes, branches_back, passes_back, writes}
use Rattle.tac_rt.proofs.Arithmetic.{minus, negated, divided, a_tenth, ten_times, digit_of, multiplied, what_is_left}
use Rattle.tac_rt.proofs.Arithmetic.{remains, one_narrower, one_less, at_most_minus_ten, above_minus_ten, not_negative}
use Rattle.tac_rt.proofs.Decimals.{worth, AreDigits, power_positive, worth_below, Decimal, decimal}
use Rattle.tac_rt.proofs.Strings.{told_all, told_both, told_written}

low_power : (k : ℕ) → k < 10 → 10 ^ k < NUMBER_LIMIT
low_power zero l = omega arith
low_power (suc zero) l = omega arith
low_power (suc (suc zero)) l = omega arith
low_power (suc (suc (suc zero))) l = omega arith
low_power (suc (suc (suc (suc zero)))) l = omega arith
low_power (suc (suc (suc (suc (suc zero))))) l = omega arith
low_power (suc (suc (suc (suc (suc (suc zero)))))) l = omega arith
low_power (suc (suc (suc (suc (suc (suc (suc zero))))))) l = omega arith
low_power (suc (suc (suc (suc (suc (suc (suc (suc zero)))))))) l = omega arith
low_power (suc (suc (suc (suc (suc (suc (suc (suc (suc zero))))))))) l = omega arith
low_power (suc (suc (suc (suc (suc (suc (suc (suc (suc (suc k)))))))))) l = absurd (omega arith)

abbrev routine : TacRoutine
routine = routine_of 2 6 WRITE_NUMBER

module _ (m : Machine) (s : State) (has : HasRoutines m) (to line : ℕ) where
  abbrev at_place : ℕ → Temporaries → Tape → State
  at_place pc t tape = here_at m s 10 routine has refl to line pc t s.memory tape

  -- ---- the digits, highest first

  module _ (b : ℕ) (bs : List ℕ) (t : Temporaries) (tape : Tape) (h : AreDigits (b ∷ bs))
      (left : t 2 ≡ Some (Number (minus (worth (b ∷ bs))))) (power : t 3 ≡ Some (Number (pos (10 ^ length bs))))
      (small : worth (b ∷ bs) ≤ NUMBER_LIMIT) (low : 10 ^ length bs < NUMBER_LIMIT) where
    abbrev p : ℕ
    p = 10 ^ length bs

    abbrev d : ℕ
    d = b - 48

    abbrev after_digit : Temporaries
    after_digit = put (put (put (put (put t 4 (Number (minus d))) 5 (Number (pos b))) 4 (Number (minus (d * p)))) 2
        (Number (minus (worth bs)))) 3 (Number (pos (p / 10)))

    quotient : worth (b ∷ bs) / p ≡ d
    quotient = div-mul-add d p (worth bs) (worth_below bs h.2)

    -- the highest digit, up to the test at the loop's bottom
    one_digit : Comes m (at_place 21 t tape) (at_place 28
        (put (put (put (put (put (put t 4 (Number (minus d))) 5 (Number (pos 48))) 5 (Number (pos b))) 4
        (Number (minus (d * p)))) 2 (Number (minus (worth bs)))) 3 (Number (pos (p / 10))))
        (record tape { transcript = tape.transcript ++ b ∷ [] }))
    one_digit =
        let l48 = h.0 in
        let l58 = h.1 in
        let n : ℕ = worth (b ∷ bs) in
        let t1 : Temporaries = put t 4 (Number (minus d)) in
        let t2 : Temporaries = put t1 5 (Number (pos 48)) in
        let t3 : Temporaries = put t2 5 (Number (pos b)) in
        let t4 : Temporaries = put t3 4 (Number (minus (d * p))) in
        let t5 : Temporaries = put t4 2 (Number (minus (worth bs))) in
        let digit : 48 + d ≡ b = omega (arith, l48) in
        let few : d < 10 = omega (arith, l58) in
        let told : Tape = record tape { transcript = tape.transcript ++ b ∷ [] } in
        let rest : n - d * p ≡ worth bs = omega arith in
        computes m s 10 routine has refl to line 21 t s.memory tape Divide 4 2 (operand.Temporary 3) (minus n) (pos p)
        (minus d) refl left power (divided n p (power_positive (length bs)) small
        ∙ ap (λ q. Gives (minus q)) quotient)
        >> literal m s 10 routine has refl to line 22 t1 s.memory tape 5 (pos 48) refl
        >> computes m s 10 routine has refl to line 23 t2 s.memory tape Subtract 5 5 (operand.Temporary 4) (pos 48)
        (minus d) (pos b) refl refl refl (digit_of d few ∙ ap (λ x. Gives (pos x)) digit)
        >> writes m s 10 routine has refl to line 24 t3 s.memory tape 5 b refl refl (omega (arith, l58))
        >> computes m s 10 routine has refl to line 25 t3 s.memory told Multiply 4 4 (operand.Temporary 3) (minus d)
        (pos p) (minus (d * p)) refl refl power (multiplied d p (omega arith))
        >> computes m s 10 routine has refl to line 26 t4 s.memory told Subtract 2 2 (operand.Temporary 4) (minus n)
        (minus (d * p)) (minus (worth bs)) refl left refl
        (what_is_left n (d * p) (omega arith) small ∙ ap (λ q. Gives (minus q)) rest)
        >> computes m s 10 routine has refl to line 27 t5 s.memory told Divide 3 3 (operand.Number (pos 10)) (pos p)
        (pos 10) (pos (p / 10)) refl power refl (a_tenth p low)

  abbrev Written : (bytes : List ℕ) → Temporaries → Tape → Type 0
  Written bytes t tape = (t' : Temporaries) × (t' 3 ≡ Some (Number (pos 0))) × Comes m (at_place 21 t tape)
      (at_place 29 t' (told_all bytes tape))

  all_digits : (b : ℕ) (bs : List ℕ) (t : Temporaries) (tape : Tape) → AreDigits (b ∷ bs) → t 2 ≡ Some
      (Number (minus (worth (b ∷ bs)))) → t 3 ≡ Some (Number (pos (10 ^ length bs))) → worth (b ∷ bs) ≤ NUMBER_LIMIT
      → 10 ^ length bs < NUMBER_LIMIT → Written (b ∷ bs) t tape
  all_digits b [] t tape h left power small low =
      let t' : Temporaries = put (put (put (put (put (put t 4 (Number (minus (b - 48)))) 5 (Number (pos 48))) 5
      (Number (pos b))) 4 (Number (minus ((b - 48) * 1)))) 2 (Number (minus 0))) 3 (Number (pos 0)) in (
        t',
        refl,
        one_digit b [] t tape h left power small low >> passes_back m s 10 routine has refl to line 28 t'
            s.memory (record tape { transcript = tape.transcript ++ b ∷ [] }) NotEqual 3
            (operand.Number (pos 0)) 7 refl refl,
      )
  all_digits b (c ∷ cs) t tape h left power small low =
      let bs : List ℕ = c ∷ cs in
      let d : ℕ = b - 48 in
      let p : ℕ = 10 ^ suc (length cs) in
      let e : p ≡ 10 ^ length cs * 10 = pow-suc 10 (length cs) in
      let tenth : p / 10 ≡ 10 ^ length cs = omega arith in
      let some = power_positive (length cs) in
      let more : p / 10 ≡ 0 → ⊥ = λ z. omega (arith, some, tenth, z) in
      let told : Tape = record tape { transcript = tape.transcript ++ b ∷ [] } in
      let t' : Temporaries = put (put (put (put (put (put t 4 (Number (minus d))) 5 (Number (pos 48))) 5
      (Number (pos b))) 4 (Number (minus (d * p)))) 2 (Number (minus (worth bs)))) 3 (Number (pos (p / 10))) in
      let rest = all_digits c cs t' told h.2 refl (ap (λ x. Some (Number (pos x))) tenth) (omega arith) (omega arith)
      in (
        rest.0,
        rest.1,
        one_digit b bs t tape h left power small low
            >> branches_back m s 10 routine has refl to line 28 t' s.memory told NotEqual 3
            (operand.Number (pos 0)) 7 refl (ap (λ x. Some (not x)) (ne_eqb (p / 10) 0 more))
            >> rest.2,
      )

  -- ---- the spaces

  abbrev Spaced : ℕ → Temporaries → Tape → Type 0
  Spaced k t tape = (t' : Temporaries) × (t' 0 ≡ t 0) × (t' 2 ≡ t 2) × (t' 3 ≡ t 3) × Comes m (at_place 17 t tape)
      (at_place 18 t' (told_all (replicate k 32) tape))

  spaces : (k : ℕ) (t : Temporaries) (tape : Tape) → t 1 ≡ Some (Number (pos k)) → t 5 ≡ Some (Number (pos 32))
      → k < NUMBER_LIMIT → Spaced k t tape
  spaces zero t tape n space l = (
    t,
    refl,
    refl,
    refl,
    passes_back m s 10 routine has refl to line 17 t s.memory tape
        Greater 1 (operand.Number (pos 0)) 2 refl (ap (λ v. related Greater v (Some (Number (pos 0)))) n),
  )
  spaces (suc k) t tape n space l =
      let t1 : Temporaries = put t 1 (Number (pos k)) in
      let told : Tape = record tape { transcript = tape.transcript ++ 32 ∷ [] } in
      let rest = spaces k t1 told refl space (omega arith) in (
        rest.0,
        rest.1,
        rest.2,
        rest.3,
        branches_back m s 10 routine has refl to line 17 t s.memory tape Greater 1 (operand.Number (pos 0)) 2 refl
            (ap (λ v. related Greater v (Some (Number (pos 0)))) n ∙ ap Some (lt-ltb 0 (suc k) (omega arith)))
            >> writes m s 10 routine has refl to line 15 t s.memory tape 5 32 refl space (omega arith)
            >> computes m s 10 routine has refl to line 16 t s.memory told Subtract 1 1 (operand.Number (pos 1))
            (pos (suc k)) (pos 1) (pos k) refl n refl (one_less k l)
            >> rest.4,
      )

  -- the same, where the text has n characters and the field w
  padding : (w n : ℕ) (t : Temporaries) (tape : Tape) → t 1 ≡ Some (Number (pos w -ℤ pos n)) → t 5 ≡ Some
      (Number (pos 32)) → w < NUMBER_LIMIT → Spaced (w - n) t tape
  padding w n t tape narrow space l = go (nat_lt w n) refl
    where
      go : (b : Bool) → nat_lt w n ≡ b → Spaced (w - n) t tape
      go true e =
          let short = ltb-true w n e in
          let z : pos w -ℤ pos n ≡ negsuc (n - suc w) = omega (arith, ints) in
          let none : 0 ≡ w - n = omega (arith, short) in
          subst (λ k. Spaced k t tape) none (
            t,
            refl,
            refl,
            refl,
            passes_back m s 10 routine has refl to line 17 t
                s.memory tape Greater 1 (operand.Number (pos 0)) 2 refl
                (ap (λ v. related Greater v (Some (Number (pos 0)))) (narrow ∙ ap (λ x. Some (Number x)) z)),
          )
      go false e =
          let room = ltb-false w n e in
          let z : pos w -ℤ pos n ≡ pos (w - n) = omega (arith, ints) in
          spaces (w - n) t tape (narrow ∙ ap (λ x. Some (Number x)) z) space (omega arith)

  -- ---- the power of ten of the highest digit

  module _ (x : ℤ) (w n : ℕ) (text : List ℕ) (decimals : Decimal n text) (small : n ≤ NUMBER_LIMIT)
      (short : length text ≤ 10) (narrow : w < NUMBER_LIMIT) where
    -- at the division of the first loop, whose divisor is a power of ten
    pub record Divides (j : ℕ) (t : Temporaries) : Type 0 where
      pub whole : t 0 ≡ Some (Number x)
      pub width : t 1 ≡ Some (Number (pos w -ℤ pos (suc j)))
      pub left : t 2 ≡ Some (Number (minus n))
      pub power : t 3 ≡ Some (Number (pos (10 ^ j)))

    powers : (f j : ℕ) (t : Temporaries) → suc j + f ≡ length text → Divides j t → (j' : ℕ) × (t' : Temporaries)
        × (suc j' ≡ length text) × Divides j' t' × Comes m (at_place 9 t s.tape) (at_place 11 t' s.tape)
    powers zero j t e h =
        let q : ℕ = n / 10 ^ j in
        let t1 : Temporaries = put t 4 (Number (minus q)) in
        let positive = power_positive j in
        let below : worth text < 10 ^ length text = worth_below text decimals.digits in
        let is : suc j ≡ length text = omega arith in
        let below' : n < 10 * 10 ^ j = let p = pow-suc 10 j in let c = ap (λ k. 10 ^ k) is in let u = decimals.worth
        in omega (arith, below, p, c, u) in
        let one : q < 10 = (div-lt_iff_lt-mul {k = 10 ^ j} {x = n} {y = 10} positive).1 below' in (
          j,
          t1,
          is,
          record { whole = h.whole; width = h.width; left = h.left; power = h.power },
          computes m s 10 routine has refl to line 9 t s.memory s.tape Divide 4 2 (operand.Temporary 3) (minus n)
              (pos (10 ^ j)) (minus q) refl h.left h.power (divided n (10 ^ j) positive small)
              >> passes_back m s 10 routine has refl to line 10 t1 s.memory s.tape LessEqual 4
              (operand.Number (negsuc 9)) 3 refl (ap Some (above_minus_ten q one)),
        )
    powers (suc f) j t e h =
        let q : ℕ = n / 10 ^ j in
        let t1 : Temporaries = put t 4 (Number (minus q)) in
        let positive = power_positive j in
        let next = pow-suc 10 j in
        let least : 10 ^ suc j ≤ n = decimals.least j (omega arith) in
        let ten : 10 ≤ q = le-div 10 n (10 ^ j) positive (omega (arith, least, next)) in
        let t2 : Temporaries = put t1 3 (Number (pos (10 ^ suc j))) in
        let t3 : Temporaries = put t2 1 (Number (pos w -ℤ pos (suc (suc j)))) in
        let rest = powers f (suc j) t3 (omega arith) (record {
          whole = h.whole;
          width = refl;
          left = h.left;
          power = refl;
        }) in (
          rest.0,
          rest.1,
          rest.2,
          rest.3,
          computes m s 10 routine has refl to line 9 t s.memory s.tape Divide 4 2 (operand.Temporary 3) (minus n)
              (pos (10 ^ j)) (minus q) refl h.left h.power (divided n (10 ^ j) positive small)
              >> branches_back m s 10 routine has refl to line 10 t1 s.memory s.tape LessEqual 4
              (operand.Number (negsuc 9)) 3 refl (ap Some (at_most_minus_ten q ten))
              >> computes m s 10 routine has refl to line 7 t1 s.memory s.tape Multiply 3 3 (operand.Number (pos 10))
              (pos (10 ^ j)) (pos 10) (pos (10 ^ suc j)) refl h.power refl
              (ten_times (10 ^ j) (omega (arith, least, next)) ∙ ap (λ y. Gives (pos y)) (sym next))
              >> computes m s 10 routine has refl to line 8 t2 s.memory s.tape Subtract 1 1 (operand.Number (pos 1))
              (pos w -ℤ pos (suc j)) (pos 1) (pos w -ℤ pos (suc (suc j))) refl h.width refl
              (one_narrower w (suc j) narrow (omega arith))
              >> rest.4,
        )

    abbrev Ended : List ℕ → ℕ → Temporaries → Type 0
    Ended bytes pc t = (t' : Temporaries) × (t' 3 ≡ Some (Number (pos 0))) × Comes m (at_place pc t s.tape)
        (at_place 29 t' (told_all bytes s.tape))

    -- the digits after what was written
    figures : (j : ℕ) (t : Temporaries) (tape : Tape) → suc j ≡ length text → t 2 ≡ Some (Number (minus n)) → t 3 ≡ Some
        (Number (pos (10 ^ j))) → Written text t tape
    figures j t tape e left power = go text decimals short e
      where
        go : (bs : List ℕ) → Decimal n bs → length bs ≤ 10 → suc j ≡ length bs → Written bs t tape
        go [] dec l e = absurd (omega arith)
        go (b ∷ bs) dec l e =
            let is : j ≡ length bs = omega arith in
            let fits : worth (b ∷ bs) ≤ NUMBER_LIMIT = let u = dec.worth in omega (arith, u) in
            all_digits b bs t tape dec.digits (left ∙ ap (λ y. Some (Number (minus y))) (sym dec.worth))
            (power ∙ ap (λ y. Some (Number (pos (10 ^ y)))) is) fits (low_power (length bs) (omega arith))

    unsigned : (j : ℕ) (t : Temporaries) → suc j ≡ length text → Divides j t → related GreaterEqual (Some (Number x))
        (Some (Number (pos 0))) ≡ Some true → Ended (right_aligned w text) 11 t
    unsigned j t e h sign =
        let t1 : Temporaries = put t 5 (Number (pos 32)) in
        let front = padding w (length text) t1 s.tape (h.width ∙ ap (λ k. Some (Number (pos w -ℤ pos k))) e) refl narrow
        in
        let tape : Tape = told_all (replicate (w - length text) 32) s.tape in
        let rest = figures j front.0 tape e (front.2 ∙ h.left) (front.3 ∙ h.power) in (
          rest.0,
          rest.1,
          subst (λ u. Comes m (at_place 11 t s.tape) (at_place 29 rest.0 u))
              (told_both (replicate (w - length text) 32) text s.tape)
              (branches m s 10 routine has refl to line 11 t s.memory s.tape GreaterEqual 0
              (operand.Number (pos 0)) 1 refl (ap (λ v. related GreaterEqual v (Some (Number (pos 0)))) h.whole
              ∙ sign)
              >> literal m s 10 routine has refl to line 13 t s.memory s.tape 5 (pos 32) refl
              >> jumps m s 10 routine has refl to line 14 t1 s.memory s.tape 2 refl
              >> front.4
              >> branches m s 10 routine has refl to line 18 front.0 s.memory tape GreaterEqual 0
              (operand.Number (pos 0)) 2 refl (ap (λ v. related GreaterEqual v (Some (Number (pos 0))))
              (front.1 ∙ h.whole) ∙ sign)
              >> rest.2),
        )

    signed : (j : ℕ) (t : Temporaries) → suc j ≡ length text → Divides j t → related GreaterEqual (Some (Number x))
        (Some (Number (pos 0))) ≡ Some false → Ended (right_aligned w (45 ∷ text)) 11 t
    signed j t e h sign =
        let longer : suc (suc j) ≡ length (45 ∷ text) = omega arith in
        let t0 : Temporaries = put t 1 (Number (pos w -ℤ pos (suc (suc j)))) in
        let t1 : Temporaries = put t0 5 (Number (pos 32)) in
        let front = padding w (length (45 ∷ text)) t1 s.tape
        (ap (λ k. Some (Number (pos w -ℤ pos k))) longer) refl narrow in
        let tape : Tape = told_all (replicate (w - length (45 ∷ text)) 32) s.tape in
        let t2 : Temporaries = put front.0 5 (Number (pos 45)) in
        let tape1 : Tape = record tape { transcript = tape.transcript ++ 45 ∷ [] } in
        let rest = figures j t2 tape1 e (front.2 ∙ h.left) (front.3 ∙ h.power) in (
          rest.0,
          rest.1,
          subst (λ u. Comes m (at_place 11 t s.tape) (at_place 29 rest.0 u))
              (told_both (replicate (w - length (45 ∷ text)) 32) (45 ∷ text) s.tape)
              (passes m s 10 routine has refl to line 11 t s.memory s.tape GreaterEqual 0
              (operand.Number (pos 0)) 1 refl (ap (λ v. related GreaterEqual v (Some (Number (pos 0)))) h.whole
              ∙ sign)
              >> computes m s 10 routine has refl to line 12 t s.memory s.tape Subtract 1 1 (operand.Number (pos 1))
              (pos w -ℤ pos (suc j)) (pos 1) (pos w -ℤ pos (suc (suc j))) refl h.width refl
              (one_narrower w (suc j) narrow (omega arith))
              >> literal m s 10 routine has refl to line 13 t0 s.memory s.tape 5 (pos 32) refl
              >> jumps m s 10 routine has refl to line 14 t1 s.memory s.tape 2 refl
              >> front.4
              >> passes m s 10 routine has refl to line 18 front.0 s.memory tape GreaterEqual 0
              (operand.Number (pos 0)) 2 refl (ap (λ v. related GreaterEqual v (Some (Number (pos 0))))
              (front.1 ∙ h.whole) ∙ sign)
              >> literal m s 10 routine has refl to line 19 front.0 s.memory tape 5 (pos 45) refl
              >> writes m s 10 routine has refl to line 20 t2 s.memory tape 5 45 refl refl (omega arith)
              >> rest.2),
        )

  -- ---- minus the absolute value

  abbrev start : (x : ℤ) (w : ℕ) → Temporaries
  start x w u = slice_get (Number x ∷ Number (pos w) ∷ []) u

  -- from place 4 on: the width, and the first power
  module _ (x : ℤ) (w n : ℕ) (t : Temporaries) (whole : t 0 ≡ Some (Number x)) (width : t 1 ≡ Some (Number (pos w)))
      (left : t 2 ≡ Some (Number (minus n))) (narrow : w < NUMBER_LIMIT) where
    abbrev ready : Temporaries
    ready = put (put t 3 (Number (pos 1))) 1 (Number (pos w -ℤ pos 1))

    set_out : Comes m (at_place 4 t s.tape) (at_place 9 ready s.tape)
    set_out =
        literal m s 10 routine has refl to line 4 t s.memory s.tape 3 (pos 1) refl
        >> computes m s 10 routine has refl to line 5 (put t 3 (Number (pos 1))) s.memory s.tape Subtract 1 1
        (operand.Number (pos 1)) (pos w) (pos 1) (pos w -ℤ pos 1) refl width refl (remains w 1 narrow (omega arith))
        >> jumps m s 10 routine has refl to line 6 ready s.memory s.tape 2 refl

  abbrev Begun : ℤ → ℕ → ℕ → Type 0
  Begun x w n = (t : Temporaries) × (t 0 ≡ Some (Number x)) × (t 1 ≡ Some (Number (pos w -ℤ pos 1)))
      × (t 2 ≡ Some (Number (minus n))) × (t 3 ≡ Some (Number (pos 1))) × Comes m (at_place 0 (start x w) s.tape)
      (at_place 9 t s.tape)

  begins : (x : ℤ) (w n : ℕ) → x ≡ minus n → related LessEqual (Some (Number x)) (Some (Number (pos 0))) ≡ Some true
      → w < NUMBER_LIMIT → Begun x w n
  begins x w n e sign narrow =
      let t1 : Temporaries = put (start x w) 2 (Number x) in (
        ready x w n t1 refl refl (ap (λ z. Some (Number z)) e) narrow,
        refl,
        refl,
        ap (λ z. Some (Number z)) e,
        refl,
        copies m s 10 routine has refl to line 0 (start x w) s.memory s.tape 2 0 (Number x) refl refl
            >> branches m s 10 routine has refl to line 1 t1 s.memory s.tape LessEqual 2
            (operand.Number (pos 0)) 2 refl sign
            >> set_out x w n t1 refl refl (ap (λ z. Some (Number z)) e) narrow,
      )

  begins_positive : (k w : ℕ) → suc k ≤ NUMBER_LIMIT → w < NUMBER_LIMIT → Begun (pos (suc k)) w (suc k)
  begins_positive k w l narrow =
      let x : ℤ = pos (suc k) in
      let t1 : Temporaries = put (start x w) 2 (Number x) in
      let t2 : Temporaries = put t1 3 (Number (pos 0)) in
      let t3 : Temporaries = put t2 2 (Number (minus (suc k))) in (
        ready x w (suc k) t3 refl refl refl narrow,
        refl,
        refl,
        refl,
        refl,
        copies m s 10 routine has refl to line 0 (start x w) s.memory s.tape 2 0 (Number x) refl refl
            >> passes m s 10 routine has refl to line 1 t1 s.memory s.tape LessEqual 2 (operand.Number (pos 0)) 2 refl
            (ap (λ b. Some (not b)) (lt-ltb 0 (suc k) (omega arith)))
            >> literal m s 10 routine has refl to line 2 t1 s.memory s.tape 3 (pos 0) refl
            >> computes m s 10 routine has refl to line 3 t2 s.memory s.tape Subtract 2 3 (operand.Temporary 2) (pos 0)
            (pos (suc k)) (minus (suc k)) refl refl refl (negated (suc k) l)
            >> set_out x w (suc k) t3 refl refl refl narrow,
      )

  abbrev Whole : ℤ → ℕ → Type 0
  Whole x w = (t' : Temporaries) × (t' 3 ≡ Some (Number (pos 0))) × Comes m (at_place 0 (start x w) s.tape)
      (at_place 29 t' (told_all (right_aligned w (integer_text x)) s.tape))

  module _ (x : ℤ) (w n : ℕ) (begun : Begun x w n) (small : n ≤ NUMBER_LIMIT) (narrow : w < NUMBER_LIMIT) where
    text_of : Decimal n (digits 10 n)
    text_of = decimal 9 n (omega arith)

    short : length (digits 10 n) ≤ 10
    short = few (digits 10 n) text_of
      where
        ten : (k : ℕ) → 10 < k → 10 ^ 10 ≤ n → ⊥
        ten k l h = omega arith

        few : (text : List ℕ) → Decimal n text → length text ≤ 10
        few text d = go (nat_lt 10 (length text)) refl
          where
            go : (b : Bool) → nat_lt 10 (length text) ≡ b → length text ≤ 10
            go true e = let l = ltb-true 10 (length text) e in absurd (ten (length text) l (d.least 9 l))
            go false e = let l = ltb-false 10 (length text) e in omega (arith, l)

    first : Divides x w n (digits 10 n) text_of small short narrow 0 begun.0
    first = record { whole = begun.1; width = begun.2; left = begun.3; power = begun.4 }

    at_power : (j' : ℕ) × (t' : Temporaries) × (suc j' ≡ length (digits 10 n)) × Divides x w n
        (digits 10 n) text_of small short narrow j' t' × Comes m (at_place 9 begun.0 s.tape) (at_place 11 t' s.tape)
    at_power = let some = text_of.some in powers x w n (digits 10 n) text_of small short narrow
        (length (digits 10 n) - 1) 0 begun.0 (omega (arith, some)) first

    plain : related GreaterEqual (Some (Number x)) (Some (Number (pos 0))) ≡ Some true → right_aligned w (digits 10 n)
        ≡ right_aligned w (integer_text x) → Whole x w
    plain sign e =
        let r = unsigned x w n (digits 10 n) text_of small short narrow at_power.0 at_power.1 at_power.2 at_power.3 sign
        in (
          r.0,
          r.1,
          subst (λ bytes. Comes m (at_place 0 (start x w) s.tape) (at_place 29 r.0 (told_all bytes s.tape))) e
              (begun.5 >> at_power.4 >> r.2),
        )

    with_sign : related GreaterEqual (Some (Number x)) (Some (Number (pos 0))) ≡ Some false → right_aligned w
        (45 ∷ digits 10 n) ≡ right_aligned w (integer_text x) → Whole x w
    with_sign sign e =
        let r = signed x w n (digits 10 n) text_of small short narrow at_power.0 at_power.1 at_power.2 at_power.3 sign
        in (
          r.0,
          r.1,
          subst (λ bytes. Comes m (at_place 0 (start x w) s.tape) (at_place 29 r.0 (told_all bytes s.tape))) e
              (begun.5 >> at_power.4 >> r.2),
        )

  whole : (x : ℤ) (w : ℕ) → is_integer x ≡ true → w < NUMBER_LIMIT → Whole x w
  whole (pos zero) w h l = plain (pos 0) w 0 (begins (pos 0) w 0 refl refl l) (omega arith) l refl refl
  whole (pos (suc k)) w h l =
      let small = ltb-true (suc k) NUMBER_LIMIT h in
      plain (pos (suc k)) w (suc k) (begins_positive k w (omega (arith, small)) l) (omega (arith, small)) l
      (ap Some (not_negative (suc k))) refl
  whole (negsuc k) w h l =
      let small = ltb-true k NUMBER_LIMIT h in
      with_sign (negsuc k) w (suc k) (begins (negsuc k) w (suc k) refl refl l) (omega (arith, small)) l refl refl

pub writes_numbers : WritesNumbers
writes_numbers m x w memory tape has h l = does_so m 10 (Number x ∷ Number (pos w) ∷ []) memory tape
    (Number (pos 0)) memory (wrote tape (right_aligned w (integer_text x))) (λ s fresh.
    let s1 : State = record s { memory = memory; tape = tape } in
    record {
      by = λ to line operands at e.
          let r = whole m s1 has to line x w h l in
          a_step s1 _ (enters m s1 10 routine has refl to line operands
          (Number x ∷ Number (pos w) ∷ []) at e refl refl refl) >>
          (r.2 >> subst (λ u. Comes m (at_place m s1 has to line 29 r.0
          (told_all (right_aligned w (integer_text x)) tape)) (back s1 to (Number (pos 0)) memory u))
          (told_written (right_aligned w (integer_text x)) tape)
          (a_step _ _ (returns m s1 10 routine has refl to line 29 r.0 memory
          (told_all (right_aligned w (integer_text x)) tape) 3 (Number (pos 0)) refl r.1)));
    })
