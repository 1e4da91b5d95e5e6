-- Integers are read as the meaning says.
use Rattle.std.proofs.Common.{◌≡◌, ℕ, suc, ◌+◌, ◌-◌, ◌<◌, ◌≤◌, ℤ, pos, negsuc, neg_ℤ, Bool, true, false, ◌||◌, nat_eq}
use Rattle.std.proofs.Common.{cond, if◌then◌else◌, List, [], ◌∷◌, ◌++◌, length, drop, replicate, slice_get, Some, refl}
use Rattle.std.proofs.Common.{sym, ap, ◌∙◌, subst, arith, lt-ltb}
use Rattle.std.proofs.lemmas.List.Sums.{take_while-cons}
use Rattle.std.specs.List.{All}
use Rattle.std.proofs.lemmas.Bool.{le-ltb}
use Rattle.behavior.specs.Transcripts.{mark}
use Rattle.tac_code.specs.declared.code.Block.{Block}
use Rattle.tac_code.specs.declared.code.Value.TheVariants.{Number, Address}
use Rattle.tac_code.specs.declared.code.Operand.TheVariants as operand
use Rattle.tac_code.specs.declared.code.Operator.TheVariants.{Subtract}
use Rattle.tac_code.specs.declared.code.Relation.TheVariants.{Equal, NotEqual}
use Rattle.tac_code.specs.Numbers.{is_integer, same_number}
use Rattle.tac_code.specs.Memory.{Memory, load, store, with_word}
use Rattle.tac_code.specs.Meaning.{Temporaries, put, Tape, State, text_at, related}
use Rattle.tac_code.specs.declared.code.TheConstants.{NUMBER_LIMIT}
use Rattle.tac_code_steps.specs.Runs.{Machine, Comes}
use Rattle.tac_code_steps.proofs.Runs.{a_step, ◌>>◌}
use Rattle.ps_meaning.specs.Text.{Input, Scanned, EndFound, NoInteger, Integer, is_blank, after_blanks, is_digit}
use Rattle.ps_meaning.specs.Text.{has_sign, after_sign, number_written, is_empty, scan_integer, marks_to, after_integer}
use Rattle.ps_meaning.specs.Operators.{least}
use Rattle.tac_rt.specs.Calls.{HasRoutines}
use Rattle.tac_rt.specs.Inputs.{first_or_end, ahead, tape_of}
use Rattle.tac_rt.specs.Laws.{Renewed, IntegerRead, NumberRead, ReadsNumbers}
use Rattle.tac_rt.proofs.Blocks.{IsFresh, stored}
use Rattle.tac_rt.proofs.Inside.{back, here_at, enters, returns, literal, computes, loads, stores_word, branches}
use Rattle.tac_rt.proofs.Inside.{passes, takes_byte, takes_end}
use Rattle.tac_rt.proofs.Arithmetic.{minus}
use Rattle.tac_rt.proofs.Strings.{append_after}
use Rattle.tac_rt.proofs.Counting.{no_digit, starts}
use Rattle.tac_rt.proofs.Digits.{Counts, byte_no, digits_of, end_no, held, least_is, least_no, minus_fits, minus_no}
use Rattle.tac_rt.proofs.Digits.{rest_small, routine, sign_of, told, told_both, told_same, zero_less_minus}
use Rattle.tac_rt.proofs.Signs.{Blanks, blanks, signs}

module _ (m : Machine) (s : State) (has : HasRoutines m) (to line : ℕ) where
  abbrev at_place : ℕ → Temporaries → Tape → State
  at_place pc t tape = here_at m s 15 routine has refl to line pc t s.memory tape

  module _ (block : Block) (offset : ℕ) (target : Block) (place : ℕ) (middle : Memory)
      (fresh : IsFresh s.count s.memory)
      (storable : (z : ℤ) → (memory : Memory) × (store middle target place (Number z) ≡ Some memory)) where
    record Out (x : ℤ) (pc : ℕ) (t : Temporaries) (tape : Tape) : Type 0 where
      code : ℤ
      after : Memory
      read : IntegerRead (is_integer x) middle target place x code after
      comes : Comes m (at_place pc t tape) (back s to (Number code) after tape)

    here : offset + 0 ≡ offset
    here = omega arith

    there : place + 0 ≡ place
    there = omega arith

    -- the words of the input are updated, and the sign is looked at
    renews : (t : Temporaries) (later : List ℕ) (tape : Tape) → t 0 ≡ Some (Address block offset) → t 2 ≡ Some
        (Number (first_or_end later)) → Renewed s.memory block offset (after_integer later) middle
        → IsFresh s.count middle × Comes m (at_place 33 t tape)
        (here_at m s 15 routine has refl to line 36 (put t 4 (Number (pos 1))) middle tape)
    renews t later tape a n w =
        let t1 : Temporaries = put t 4 (Number (pos 1)) in
        let f : IsFresh s.count w.middle = (stored s.count s.memory
        (λ words. with_word words offset (Number (first_or_end later))) w.middle fresh block w.first).fresh in
        let g : IsFresh s.count middle = (stored s.count w.middle
        (λ words. with_word words (offset + 4) (Number (pos 1))) middle f block w.second).fresh in (
          g,
          stores_word m s 15 routine has refl to line 33 t s.memory tape 0 0 2 block offset
              (Number (first_or_end later)) w.middle refl a n fresh
              (ap (λ o. store s.memory block o (Number (first_or_end later))) here ∙ w.first)
              >> literal m s 15 routine has refl to line 34 t w.middle tape 4 (pos 1) refl
              >> stores_word m s 15 routine has refl to line 35 t1 w.middle tape 0 4 4 block offset
              (Number (pos 1)) middle refl a refl f w.second,
        )

    -- a number is stored, and the flag given
    gives_back : (t : Temporaries) (z : ℤ) (flag : Bool) (tape : Tape) → IsFresh s.count middle → t 1 ≡ Some
        (Address target place) → t 5 ≡ Some (Number z) → t 6 ≡ Some (Number (sign_of flag)) → Comes m
        (here_at m s 15 routine has refl to line 40 t middle tape)
        (back s to (Number (sign_of flag)) (storable z).0 tape)
    gives_back t z flag tape f a n o =
        stores_word m s 15 routine has refl to line 40 t middle tape 1 0 5 target place (Number z)
        (storable z).0 refl a n f (ap (λ p. store middle target p (Number z)) there ∙ (storable z).1)
        >> a_step _ _ (returns m s 15 routine has refl to line 41 t (storable z).0 tape 6
        (Number (sign_of flag)) refl o)

    -- what was stored is the integer, or the flag is set
    is_read : (x z : ℤ) (flag : Bool) → (flag ≡ false → (x ≡ z) × (is_integer x ≡ true))
        → (flag ≡ true → is_integer x ≡ false) → IntegerRead (is_integer x) middle target place x (sign_of flag)
        (storable z).0
    is_read x z true same large = subst (λ b. IntegerRead b middle target place x (pos 1) (storable z).0)
        (sym (large refl)) refl
    is_read x z false same large =
        let h = same refl in
        subst (λ b. IntegerRead b middle target place x (pos 0) (storable z).0) (sym h.1)
        (refl, ap (λ y. store middle target place (Number y)) h.0 ∙ (storable z).1)

    ends : (negative : Bool) (written : ℕ) (later : List ℕ) (before t : Temporaries) (tape : Tape) → Counts before
        (sign_of negative) written later t → t 0 ≡ Some (Address block offset) → t 1 ≡ Some (Address target place)
        → Renewed s.memory block offset (after_integer later) middle → Out
        (if negative then minus written else pos written) 33 t tape
    ends true written later before t tape c a e w =
        let begin = renews t later tape a c.next w in
        let t1 : Temporaries = put t 4 (Number (pos 1)) in
        let n = c.number in
        let small = c.small in
        record {
          code = sign_of c.passed;
          after = (storable (minus n)).0;
          read = is_read (minus written) (minus n) c.passed
              (λ q. (ap minus (sym (c.same q)), ap (λ k. is_integer (minus k)) (sym (c.same q)) ∙ minus_fits n small))
              (λ q. minus_no written (c.large q));
          comes = begin.1
              >> branches m s 15 routine has refl to line 36 t1 middle tape Equal 3 (operand.Number (pos 1)) 3 refl
              (ap (λ v. related Equal v (Some (Number (pos 1)))) c.signed)
              >> gives_back t1 (minus n) c.passed tape begin.0 e c.stands c.flag;
        }
    ends false written later before t tape c a e w = go (same_number (minus c.number) least) refl
      where
        t1 : Temporaries
        t1 = put t 4 (Number (pos 1))

        begin : IsFresh s.count middle × Comes m (at_place 33 t tape)
            (here_at m s 15 routine has refl to line 37 t1 middle tape)
        begin =
            let b = renews t later tape a c.next w in (
              b.0,
              b.1 >> passes m s 15 routine has refl to line 36 t1 middle tape Equal 3
                  (operand.Number (pos 1)) 3 refl (ap (λ v. related Equal v (Some (Number (pos 1)))) c.signed),
            )

        too_large : (q : Bool) → c.passed ≡ q → c.number ≡ NUMBER_LIMIT → is_integer (pos written) ≡ false
        too_large true q l = let x = c.large q in le-ltb written NUMBER_LIMIT (omega (arith, x))
        too_large false q l = let x = c.same q in le-ltb written NUMBER_LIMIT (omega (arith, x, l))

        go : (q : Bool) → same_number (minus c.number) least ≡ q → Out (pos written) 33 t tape
        go true q = record {
          code = pos 1;
          after = middle;
          read = subst (λ b. IntegerRead b middle target place (pos written) (pos 1) middle)
              (sym (too_large c.passed refl (least_is c.number q))) refl;
          comes = begin.1
              >> branches m s 15 routine has refl to line 37 t1 middle tape Equal 5
              (operand.Number least) 4 refl
              (ap (λ v. related Equal v (Some (Number least))) c.stands ∙ ap Some q)
              >> a_step _ _ (returns m s 15 routine has refl to line 42 t1 middle tape 4 (Number (pos 1)) refl refl);
        }
        go false q =
            let n = c.number in
            let small = least_no c.number c.small q in
            let t2 : Temporaries = put t1 4 (Number (pos 0)) in
            let t3 : Temporaries = put t2 5 (Number (pos n)) in
            record {
              code = sign_of c.passed;
              after = (storable (pos n)).0;
              read = is_read (pos written) (pos n) c.passed
                  (λ r. (
                    ap pos (sym (c.same r)),
                    ap (λ k. is_integer (pos k)) (sym (c.same r))
                        ∙ lt-ltb n NUMBER_LIMIT small,
                  )) (λ r. let x = c.large r in le-ltb written NUMBER_LIMIT
                  (omega (arith, x)));
              comes = begin.1
                  >> passes m s 15 routine has refl to line 37 t1 middle tape Equal 5
                  (operand.Number least) 4 refl
                  (ap (λ v. related Equal v (Some (Number least))) c.stands ∙ ap Some q)
                  >> literal m s 15 routine has refl to line 38 t1 middle tape 4 (pos 0) refl
                  >> computes m s 15 routine has refl to line 39 t2 middle tape Subtract 5 4 (operand.Temporary 5)
                  (pos 0) (minus n) (pos n) refl refl c.stands (zero_less_minus n small)
                  >> gives_back t3 (pos n) c.passed tape begin.0 e refl c.flag;
            }

    -- ---- all of it, by what the meaning finds

    abbrev scan_digits : List ℕ → List ℕ → Bool → Scanned
    scan_digits written unsigned negative = if is_empty written then record {
      found = NoInteger;
      rest = unsigned;
    } else record {
      found = Integer (if negative then neg_ℤ (pos (number_written 0 written)) else pos (number_written 0 written));
      rest = drop (length written) unsigned;
    }

    abbrev scan_from : List ℕ → Scanned
    scan_from start = if is_empty start then record {
      found = EndFound;
      rest = [];
    } else scan_digits (digits_of (after_sign start)) (after_sign start) (has_sign start 45)

    record Found (pc : ℕ) (t : Temporaries) (left transcript : List ℕ) (x : Scanned) : Type 0 where
      code : ℤ
      after : Memory
      read : NumberRead middle target place x.found code after
      shorter : length x.rest ≤ length left
      comes : Comes m (at_place pc t (held left transcript))
          (back s to (Number code) after (held x.rest (told left x.rest transcript)))

    abbrev Finds : (pc : ℕ) (t : Temporaries) (left transcript : List ℕ) → Scanned → Type 0
    Finds pc t left transcript x = Renewed s.memory block offset (after_integer x.rest) middle
        → Found pc t left transcript x

    unsigned_found : (u : List ℕ) (t : Temporaries) (negative : Bool) (transcript : List ℕ) → All (λ b. b < 256) u → t 0
        ≡ Some (Address block offset) → t 1 ≡ Some (Address target place) → t 2 ≡ Some (Number (first_or_end u)) → t 3
        ≡ Some (Number (sign_of negative)) → Finds 15 t u transcript (scan_digits (digits_of u) u negative)
    unsigned_found [] t negative transcript small a e n g = λ w. record {
      code = pos 2;
      after = s.memory;
      read = refl;
      shorter = omega arith;
      comes = subst (λ x. Comes m (at_place 15 t (held [] transcript))
          (back s to (Number (pos 2)) s.memory (held [] x))) (told_same [] transcript)
          (no_digit m s has to line [] t transcript small n end_no);
    }
    unsigned_found (b ∷ rest) t negative transcript small a e n g = go (is_digit b) refl
      where
        as_scanned : List ℕ → Scanned
        as_scanned ds = if is_empty ds then record {
          found = NoInteger;
          rest = b ∷ rest;
        } else record {
          found = Integer (if negative then neg_ℤ (pos (number_written 0 ds)) else pos (number_written 0 ds));
          rest = drop (length ds) (b ∷ rest);
        }

        go : (q : Bool) → is_digit b ≡ q → Finds 15 t (b ∷ rest) transcript (as_scanned (digits_of (b ∷ rest)))
        go false q =
            subst (λ ds. Finds 15 t (b ∷ rest) transcript (as_scanned ds))
            (sym (take_while-cons is_digit b rest ∙ ap (λ y. cond y (b ∷ digits_of rest) []) q))
            (λ w. record {
              code = pos 2;
              after = s.memory;
              read = refl;
              shorter = omega arith;
              comes = subst (λ x. Comes m (at_place 15 t (held (b ∷ rest) transcript))
                  (back s to (Number (pos 2)) s.memory (held (b ∷ rest) x))) (told_same (b ∷ rest) transcript)
                  (no_digit m s has to line (b ∷ rest) t transcript small n (byte_no b rest q));
            })
        go true q =
            subst (λ ds. Finds 15 t (b ∷ rest) transcript (as_scanned ds))
            (sym (take_while-cons is_digit b rest ∙ ap (λ y. cond y (b ∷ digits_of rest) []) q))
            (λ w.
            let r = starts m s has to line b rest t (sign_of negative) transcript small q n g in
            let later = drop (length (digits_of rest)) rest in
            let c = r.counts in
            let o = ends negative (number_written 0 (b ∷ digits_of rest)) later t r.now
            (held later (told (b ∷ rest) later transcript)) c (c.zero_kept ∙ a) (c.one_kept ∙ e) w in
            record { code = o.code; after = o.after; read = o.read; shorter = r.shorter; comes = r.comes >> o.comes })

    sign_small : (b : ℕ) (rest : List ℕ) → All (λ b. b < 256) (b ∷ rest) → All (λ b. b < 256) (after_sign (b ∷ rest))
    sign_small b rest h = go (nat_eq b 43 || nat_eq b 45)
      where
        go : (q : Bool) → All (λ b. b < 256) (if q then rest else b ∷ rest)
        go true = rest_small b rest h
        go false = h

    blanks_small : (left : List ℕ) → All (λ b. b < 256) left → All (λ b. b < 256) (after_blanks left)
    blanks_small [] h = h
    blanks_small (b ∷ rest) h = go (is_blank b) (blanks_small rest (rest_small b rest h))
      where
        go : (q : Bool) → All (λ b. b < 256) (after_blanks rest) → All (λ b. b < 256)
            (if q then after_blanks rest else b ∷ rest)
        go true r = r
        go false r = h

    start_found : (start left : List ℕ) (t : Temporaries) (transcript : List ℕ) → All (λ b. b < 256) start → t 0 ≡ Some
        (Address block offset) → t 1 ≡ Some (Address target place) → Blanks m s has to line t left start transcript
        → Finds 3 t left transcript (scan_from start)
    start_found [] left t transcript small a e b w =
        let t1 = b.temporaries in
        let now : Tape = held [] (told left [] transcript) in
        record {
          code = pos 3;
          after = s.memory;
          read = refl;
          shorter = omega arith;
          comes = b.comes
              >> passes m s 15 routine has refl to line 7 t1 s.memory now NotEqual 2 (operand.Number (negsuc 0)) 2 refl
              (ap (λ v. related NotEqual v (Some (Number (negsuc 0)))) b.next)
              >> literal m s 15 routine has refl to line 8 t1 s.memory now 3 (pos 3) refl
              >> a_step _ _ (returns m s 15 routine has refl to line 9 (put t1 3 (Number (pos 3))) s.memory now 3
              (Number (pos 3)) refl refl);
        }
    start_found (x ∷ xs) left t transcript small a e b w =
        let start = x ∷ xs in
        let g = signs m s has to line x xs b.temporaries (told left start transcript) b.next in
        let u = after_sign start in
        let f = unsigned_found u g.temporaries (nat_eq x 45) (told start u (told left start transcript))
        (sign_small x xs small) (g.zero_kept ∙ b.zero_kept ∙ a) (g.one_kept ∙ b.one_kept ∙ e) g.next g.signed w in
        let later = (scan_digits (digits_of u) u (nat_eq x 45)).rest in
        let l1 = b.shorter in
        let l2 = g.shorter in
        let l3 = f.shorter in
        record {
          code = f.code;
          after = f.after;
          read = f.read;
          shorter = omega (arith, l1, l2, l3);
          comes = subst (λ y. Comes m (at_place 3 t (held left transcript))
              (back s to (Number f.code) f.after (held later y)))
              (told_both start u later (told left start transcript) l2 l3 ∙ told_both left start later transcript l1
              (omega (arith, l2, l3)))
              (b.comes >> g.comes >> f.comes);
        }

    found_at : (left : List ℕ) (t : Temporaries) (transcript : List ℕ) → All (λ b. b < 256) left → t 0 ≡ Some
        (Address block offset) → t 1 ≡ Some (Address target place) → t 2 ≡ Some (Number (first_or_end left))
        → Finds 3 t left transcript (scan_integer left)
    found_at left t transcript small a e n w = start_found (after_blanks left) left t transcript
        (blanks_small left small) a e (blanks m s has to line left t transcript n) w

    -- what was taken ahead, or is taken now
    abbrev start : Temporaries
    start u = slice_get (Address block offset ∷ Address target place ∷ []) u

    is_taken : (left : List ℕ) → related NotEqual (Some (Number (first_or_end left))) (Some (Number (negsuc 1)))
        ≡ Some true
    is_taken [] = refl
    is_taken (b ∷ rest) = refl

    record Reads (i : Input) (transcript : List ℕ) : Type 0 where
      code : ℤ
      after : Memory
      read : NumberRead middle target place (scan_integer i.left).found code after
      comes : Comes m (at_place 0 start (tape_of i transcript))
          (back s to (Number code) after (tape_of (after_integer (scan_integer i.left).rest)
          (transcript ++ marks_to i (scan_integer i.left).rest)))

    reads_it : (left : List ℕ) (looked in_line : Bool) (transcript : List ℕ) → let i : Input = record {
      left = left;
      looked = looked;
      in_line = in_line;
    } in All (λ b. b < 256) left → load (text_at m.code) s.memory block offset ≡ Some (Number (ahead i))
        → Renewed s.memory block offset (after_integer (scan_integer left).rest) middle → Reads i transcript
    reads_it left true in_line transcript small l w =
        let t : Temporaries = put start 2 (Number (first_or_end left)) in
        let f = found_at left t transcript small refl refl refl w in
        let rest = (scan_integer left).rest in
        let z : length left - length rest ≡ (length left - length rest) + 0 = omega arith in
        record {
          code = f.code;
          after = f.after;
          read = f.read;
          comes = subst (λ k. Comes m (at_place 0 start (held left transcript))
              (back s to (Number f.code) f.after (held rest (transcript ++ replicate k mark)))) z
              (loads m s 15 routine has refl to line 0 start s.memory (held left transcript) 2 0 0 block offset
              (Number (first_or_end left)) refl refl fresh (ap (load (text_at m.code) s.memory block) here ∙ l)
              >> branches m s 15 routine has refl to line 1 t s.memory (held left transcript) NotEqual 2
              (operand.Number (negsuc 1)) 1 refl (is_taken left)
              >> f.comes);
        }
    reads_it left false in_line transcript small l w =
        let t : Temporaries = put start 2 (Number (negsuc 1)) in
        let t1 : Temporaries = put t 2 (Number (first_or_end left)) in
        let tape : Tape = record { input = left; ended = false; transcript = transcript } in
        let f = found_at left t1 (transcript ++ mark ∷ []) small refl refl refl w in
        let rest = (scan_integer left).rest in
        let z : suc (length left - length rest) ≡ (length left - length rest) + 1 = omega arith in
        record {
          code = f.code;
          after = f.after;
          read = f.read;
          comes = subst (λ x. Comes m (at_place 0 start tape) (back s to (Number f.code) f.after (held rest x)))
              (append_after transcript (mark ∷ []) (replicate (length left - length rest) mark)
              ∙ ap (λ k. transcript ++ replicate k mark) z)
              (loads m s 15 routine has refl to line 0 start s.memory tape 2 0 0 block offset
              (Number (negsuc 1)) refl refl fresh (ap (load (text_at m.code) s.memory block) here ∙ l)
              >> passes m s 15 routine has refl to line 1 t s.memory tape NotEqual 2
              (operand.Number (negsuc 1)) 1 refl refl
              >> first left t tape refl
              >> f.comes);
        }
      where
        first : (left : List ℕ) (t : Temporaries) (tape : Tape) → tape ≡ record {
          input = left;
          ended = false;
          transcript = transcript;
        } → Comes m (at_place 2 t tape) (at_place 3 (put t 2 (Number (first_or_end left)))
            (held left (transcript ++ mark ∷ [])))
        first [] t tape e = subst (λ x. Comes m (at_place 2 t x)
            (at_place 3 (put t 2 (Number (negsuc 0))) (held [] (transcript ++ mark ∷ [])))) (sym e)
            (takes_end m s 15 routine has refl to line 2 t s.memory (record {
              input = [];
              ended = false;
              transcript = transcript;
            }) 2 refl refl)
        first (b ∷ rest) t tape e = subst (λ x. Comes m (at_place 2 t x)
            (at_place 3 (put t 2 (Number (pos b))) (held (b ∷ rest) (transcript ++ mark ∷ [])))) (sym e)
            (takes_byte m s 15 routine has refl to line 2 t s.memory (record {
              input = b ∷ rest;
              ended = false;
              transcript = transcript;
            }) 2 b rest refl refl)

pub reads_numbers : ReadsNumbers
reads_numbers m block offset to place i middle transcript s t line operands has same h small w storable fresh values at
    =
    let s1 : State = record s { tape = tape_of i transcript } in
    let f : IsFresh s.count s.memory = record { frames = fresh.0; scratch = fresh.1 } in
    let r = reads_it m s1 has t line block offset to place middle f storable i.left i.looked i.in_line transcript small
    h.ahead w in
    let later = (scan_integer i.left).rest in
    let comes : Comes m s1 (back s1 t (Number r.code) r.after
    (tape_of (after_integer later) (transcript ++ marks_to i later))) = a_step s1 _
    (enters m s1 15 routine has refl t line operands
    (Address block offset ∷ Address to place ∷ []) at values refl refl refl) >> r.comes in
    record {
      code = r.code;
      after = r.after;
      read = r.read;
      comes = subst (λ x. Comes m (record s { tape = x })
          (back s t (Number r.code) r.after (tape_of (after_integer later) (transcript ++ marks_to i later))))
          (sym same) comes;
    }
