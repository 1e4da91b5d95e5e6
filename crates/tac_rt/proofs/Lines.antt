-- The rest of a line is skipped as the meaning says.
use Rattle.std.proofs.Common.{◌≡◌, ℕ, suc, ◌+◌, ◌-◌, ◌≤◌, ℤ, pos, negsuc, Bool, true, false, ◌||◌, nat_eq}
use Rattle.std.proofs.Common.{if◌then◌else◌, List, [], ◌∷◌, ◌++◌, length, replicate, slice_get, Some, refl, sym, ap}
use Rattle.std.proofs.Common.{◌∙◌, subst, arith}
use Rattle.behavior.specs.Transcripts.{mark}
use Rattle.tac_code.specs.declared.code.Block.{Block}
use Rattle.tac_code.specs.declared.code.Value.TheVariants.{Number, Address}
use Rattle.tac_code.specs.declared.code.Operand.TheVariants as operand
use Rattle.tac_code.specs.declared.code.Relation.TheVariants.{Equal, NotEqual}
use Rattle.tac_code.specs.declared.code.TacRoutine.{TacRoutine}
use Rattle.tac_code.specs.Numbers.{truth, same_number}
use Rattle.tac_code.specs.Memory.{Memory, load, store, with_word}
use Rattle.tac_code.specs.Meaning.{Temporaries, put, Tape, State, text_at, related}
use Rattle.tac_code_steps.specs.Runs.{Machine, Comes}
use Rattle.tac_code_steps.proofs.Runs.{a_step, ◌>>◌}
use Rattle.ps_meaning.specs.Text.{Input, next_of, has_line_end, after_line_end, after_line, line_marks}
use Rattle.tac_rt.specs.declared.reading.TheConstants.{READ_LINE}
use Rattle.tac_rt.specs.Bodies.{routine_of}
use Rattle.tac_rt.specs.Calls.{HasRoutines}
use Rattle.tac_rt.specs.Inputs.{first_or_end, ahead, begun, tape_of}
use Rattle.tac_rt.specs.Laws.{Renewed, nothing_left, ReadsLines}
use Rattle.tac_rt.proofs.Blocks.{IsFresh, stored}
use Rattle.tac_rt.proofs.Inside.{back, does_so, here_at, enters, returns, literal, compares, loads, stores_word}
use Rattle.tac_rt.proofs.Inside.{jumps_back, branches, passes, takes_byte, takes_end}
use Rattle.tac_rt.proofs.Strings.{append_nothing, append_after}

abbrev routine : TacRoutine
routine = routine_of 1 4 READ_LINE

either_no : (a b : Bool) → (a || b) ≡ false → a ≡ false
either_no true b e = absurd (cc)
either_no false b e = refl

-- what is left after a line end is less than what there was
shorter : (b : ℕ) (rest : List ℕ) → length (after_line_end (b ∷ rest)) ≤ length rest
shorter b [] = go (nat_eq b 10)
  where
    none : List ℕ
    none = []

    go : (q : Bool) → length (if q then none else none) ≤ 0
    go true = omega arith
    go false = omega arith
shorter b (c ∷ rest) = go (shorter c rest) (nat_eq b 10)
  where
    go : length (after_line_end (c ∷ rest)) ≤ length rest → (q : Bool) → length
        (if q then c ∷ rest else after_line_end (c ∷ rest)) ≤ suc (length rest)
    go l true = omega arith
    go l false = omega (arith, l)

module _ (m : Machine) (s : State) (has : HasRoutines m) (to line : ℕ) (block : Block) (offset : ℕ)
    (fresh : IsFresh s.count s.memory) where
  abbrev at_place : ℕ → Temporaries → Memory → Tape → State
  at_place = here_at m s 16 routine has refl to line

  abbrev start : Temporaries
  start u = slice_get (Address block offset ∷ []) u

  abbrev holding : (z g : ℤ) → Temporaries
  holding z g = put (put start 1 (Number z)) 2 (Number g)

  abbrev tape : List ℕ → List ℕ → Tape
  tape left transcript = record { input = left; ended = false; transcript = transcript }

  abbrev last : List ℕ → Tape
  last transcript = record { input = []; ended = true; transcript = transcript }

  here : offset + 0 ≡ offset
  here = omega arith

  reads : (z g : ℤ) (tape : Tape) → load (text_at m.code) s.memory block offset ≡ Some (Number z) → load
      (text_at m.code) s.memory block (offset + 4) ≡ Some (Number g) → Comes m (at_place 0 start s.memory tape)
      (at_place 2 (holding z g) s.memory tape)
  reads z g tape l k =
      loads m s 16 routine has refl to line 0 start s.memory tape 1 0 0 block offset (Number z) refl refl fresh
      (ap (load (text_at m.code) s.memory block) here ∙ l)
      >> loads m s 16 routine has refl to line 1 (put start 1 (Number z)) s.memory tape 2 0 4 block offset
      (Number g) refl refl fresh k

  -- ---- a line end is found

  module _ (middle after : Memory) (first : store s.memory block offset (Number (negsuc 1)) ≡ Some middle)
      (second : store middle block (offset + 4) (Number (pos 0)) ≡ Some after) where
    ended_line : (t : Temporaries) (tape : Tape) → t 0 ≡ Some (Address block offset) → Comes m
        (at_place 8 t s.memory tape) (back s to (Number (pos 0)) after tape)
    ended_line t tape a =
        let t1 : Temporaries = put t 1 (Number (negsuc 1)) in
        let t2 : Temporaries = put t1 1 (Number (pos 0)) in
        let f : IsFresh s.count middle = (stored s.count s.memory
        (λ words. with_word words offset (Number (negsuc 1))) middle fresh block first).fresh in
        literal m s 16 routine has refl to line 8 t s.memory tape 1 (negsuc 1) refl
        >> stores_word m s 16 routine has refl to line 9 t1 s.memory tape 0 0 1 block offset
        (Number (negsuc 1)) middle refl a refl fresh
        (ap (λ o. store s.memory block o (Number (negsuc 1))) here ∙ first)
        >> literal m s 16 routine has refl to line 10 t1 middle tape 1 (pos 0) refl
        >> stores_word m s 16 routine has refl to line 11 t2 middle tape 0 4 1 block offset
        (Number (pos 0)) after refl a refl f second
        >> a_step _ _ (returns m s 16 routine has refl to line 12 t2 after tape 1 (Number (pos 0)) refl refl)

    abbrev To : (b : ℕ) (rest : List ℕ) → Temporaries → List ℕ → Type 0
    To b rest t transcript = Comes m (at_place 4 t s.memory (tape rest transcript))
        (back s to (Number (pos 0)) after (tape (after_line_end (b ∷ rest))
        (transcript ++ replicate (length rest - length (after_line_end (b ∷ rest))) mark)))

    stops : (b : ℕ) (rest : List ℕ) (t : Temporaries) (transcript : List ℕ) → nat_eq b 10 ≡ true → t 0 ≡ Some
        (Address block offset) → t 1 ≡ Some (Number (pos b)) → To b rest t transcript
    stops b rest t transcript z a n =
        let none : 0 ≡ length rest - length rest = omega arith in
        subst (λ q. Comes m (at_place 4 t s.memory (tape rest transcript))
        (back s to (Number (pos 0)) after (tape (if q then rest else after_line_end rest)
        (transcript ++ replicate (length rest - length (if q then rest else after_line_end rest)) mark)))) (sym z)
        (subst (λ x. Comes m (at_place 4 t s.memory (tape rest transcript))
        (back s to (Number (pos 0)) after (tape rest x)))
        (append_nothing transcript ∙ ap (λ k. transcript ++ replicate k mark) none)
        (passes m s 16 routine has refl to line 4 t s.memory (tape rest transcript) Equal 1
        (operand.Number (negsuc 0)) 8 refl (ap (λ v. related Equal v (Some (Number (negsuc 0)))) n)
        >> branches m s 16 routine has refl to line 5 t s.memory (tape rest transcript) Equal 1
        (operand.Number (pos 10)) 2 refl (ap (λ v. related Equal v (Some (Number (pos 10)))) n ∙ ap Some z)
        >> ended_line t (tape rest transcript) a))

    line_end : (b : ℕ) (rest : List ℕ) (t : Temporaries) (transcript : List ℕ) → has_line_end (b ∷ rest) ≡ true → t 0
        ≡ Some (Address block offset) → t 1 ≡ Some (Number (pos b)) → To b rest t transcript
    line_end b [] t transcript h a n = go (nat_eq b 10) refl
      where
        go : (q : Bool) → nat_eq b 10 ≡ q → To b [] t transcript
        go true z = stops b [] t transcript z a n
        go false z = let no : false ≡ true = ap (λ q. q || false) (sym z) ∙ h in absurd (cc)
    line_end b (c ∷ rest) t transcript h a n = go
        (λ h'. line_end c rest (put (put t 2 (Number (pos 1))) 1 (Number (pos c))) (transcript ++ mark ∷ []) h' a refl)
        (nat_eq b 10) refl
      where
        go : (has_line_end (c ∷ rest) ≡ true → To c rest (put (put t 2 (Number (pos 1))) 1 (Number (pos c)))
            (transcript ++ mark ∷ [])) → (q : Bool) → nat_eq b 10 ≡ q → To b (c ∷ rest) t transcript
        go on true z = stops b (c ∷ rest) t transcript z a n
        go on false z =
            let l = shorter c rest in
            let more : suc (length rest - length (after_line_end (c ∷ rest))) ≡ suc (length rest) - length
            (after_line_end (c ∷ rest)) = omega (arith, l) in
            let t1 : Temporaries = put t 2 (Number (pos 1)) in
            let now : Tape = tape (c ∷ rest) transcript in
            subst (λ q. Comes m (at_place 4 t s.memory now)
            (back s to (Number (pos 0)) after (tape (if q then c ∷ rest else after_line_end (c ∷ rest))
            (transcript ++ replicate (suc (length rest) - length
            (if q then c ∷ rest else after_line_end (c ∷ rest))) mark)))) (sym z)
            (subst (λ x. Comes m (at_place 4 t s.memory now)
            (back s to (Number (pos 0)) after (tape (after_line_end (c ∷ rest)) x)))
            (append_after transcript (mark ∷ []) (replicate (length rest - length (after_line_end (c ∷ rest))) mark)
            ∙ ap (λ k. transcript ++ replicate k mark) more)
            (passes m s 16 routine has refl to line 4 t s.memory now Equal 1 (operand.Number (negsuc 0)) 8 refl
            (ap (λ v. related Equal v (Some (Number (negsuc 0)))) n)
            >> passes m s 16 routine has refl to line 5 t s.memory now Equal 1 (operand.Number (pos 10)) 2 refl
            (ap (λ v. related Equal v (Some (Number (pos 10)))) n ∙ ap Some z)
            >> literal m s 16 routine has refl to line 6 t s.memory now 2 (pos 1) refl
            >> jumps_back m s 16 routine has refl to line 7 t1 s.memory now 4 refl
            >> takes_byte m s 16 routine has refl to line 3 t1 s.memory now 1 c rest refl refl
            >> on (ap (λ q. q || has_line_end (c ∷ rest)) (sym z) ∙ h)))

  -- ---- the input ends before a line end

  module _ (middle after : Memory) (first : store s.memory block offset (Number (negsuc 0)) ≡ Some middle)
      (second : store middle block (offset + 4) (Number (pos 0)) ≡ Some after) where
    ended_input : (t : Temporaries) (g : ℤ) (tape : Tape) → t 0 ≡ Some (Address block offset) → t 1 ≡ Some
        (Number (negsuc 0)) → t 2 ≡ Some (Number g) → Comes m (at_place 4 t s.memory tape)
        (back s to (Number (truth (same_number g (pos 0)))) after tape)
    ended_input t g tape a n c =
        let t1 : Temporaries = put t 3 (Number (pos 0)) in
        let f : IsFresh s.count middle = (stored s.count s.memory
        (λ words. with_word words offset (Number (negsuc 0))) middle fresh block first).fresh in
        branches m s 16 routine has refl to line 4 t s.memory tape Equal 1 (operand.Number (negsuc 0)) 8 refl
        (ap (λ v. related Equal v (Some (Number (negsuc 0)))) n)
        >> stores_word m s 16 routine has refl to line 13 t s.memory tape 0 0 1 block offset
        (Number (negsuc 0)) middle refl a n fresh
        (ap (λ o. store s.memory block o (Number (negsuc 0))) here ∙ first)
        >> literal m s 16 routine has refl to line 14 t middle tape 3 (pos 0) refl
        >> stores_word m s 16 routine has refl to line 15 t1 middle tape 0 4 3 block offset
        (Number (pos 0)) after refl a refl f second
        >> compares m s 16 routine has refl to line 16 t1 after tape Equal 2 2 (operand.Number (pos 0))
        (same_number g (pos 0)) refl (ap (λ v. related Equal v (Some (Number (pos 0)))) c)
        >> a_step _ _ (returns m s 16 routine has refl to line 17
        (put t1 2 (Number (truth (same_number g (pos 0))))) after tape 2
        (Number (truth (same_number g (pos 0)))) refl refl)

    abbrev Out : (rest : List ℕ) → Temporaries → List ℕ → Type 0
    Out rest t transcript = Comes m (at_place 4 t s.memory (tape rest transcript))
        (back s to (Number (pos 0)) after (last (transcript ++ replicate (suc (length rest)) mark)))

    no_line_end : (b : ℕ) (rest : List ℕ) (t : Temporaries) (transcript : List ℕ) → has_line_end (b ∷ rest) ≡ false
        → t 0 ≡ Some (Address block offset) → t 1 ≡ Some (Number (pos b)) → Out rest t transcript
    no_line_end b [] t transcript h a n =
        let z = either_no (nat_eq b 10) false h in
        let t1 : Temporaries = put t 2 (Number (pos 1)) in
        let now : Tape = tape [] transcript in
        passes m s 16 routine has refl to line 4 t s.memory now Equal 1 (operand.Number (negsuc 0)) 8 refl
        (ap (λ v. related Equal v (Some (Number (negsuc 0)))) n)
        >> passes m s 16 routine has refl to line 5 t s.memory now Equal 1 (operand.Number (pos 10)) 2 refl
        (ap (λ v. related Equal v (Some (Number (pos 10)))) n ∙ ap Some z)
        >> literal m s 16 routine has refl to line 6 t s.memory now 2 (pos 1) refl
        >> jumps_back m s 16 routine has refl to line 7 t1 s.memory now 4 refl
        >> takes_end m s 16 routine has refl to line 3 t1 s.memory now 1 refl refl
        >> ended_input (put t1 1 (Number (negsuc 0))) (pos 1) (last (transcript ++ mark ∷ [])) a refl refl
    no_line_end b (c ∷ rest) t transcript h a n =
        let z = either_no (nat_eq b 10) (has_line_end (c ∷ rest)) h in
        let t1 : Temporaries = put t 2 (Number (pos 1)) in
        let now : Tape = tape (c ∷ rest) transcript in
        passes m s 16 routine has refl to line 4 t s.memory now Equal 1 (operand.Number (negsuc 0)) 8 refl
        (ap (λ v. related Equal v (Some (Number (negsuc 0)))) n)
        >> passes m s 16 routine has refl to line 5 t s.memory now Equal 1 (operand.Number (pos 10)) 2 refl
        (ap (λ v. related Equal v (Some (Number (pos 10)))) n ∙ ap Some z)
        >> literal m s 16 routine has refl to line 6 t s.memory now 2 (pos 1) refl
        >> jumps_back m s 16 routine has refl to line 7 t1 s.memory now 4 refl
        >> takes_byte m s 16 routine has refl to line 3 t1 s.memory now 1 c rest refl refl
        >> subst (λ x. Comes m (at_place 4 (put t1 1 (Number (pos c))) s.memory (tape rest (transcript ++ mark ∷ [])))
        (back s to (Number (pos 0)) after (last x)))
        (append_after transcript (mark ∷ []) (replicate (suc (length rest)) mark))
        (no_line_end c rest (put t1 1 (Number (pos c))) (transcript ++ mark ∷ [])
        (ap (λ q. q || has_line_end (c ∷ rest)) (sym z) ∙ h) a refl)

  -- ---- all of it

  is_taken : (left : List ℕ) → related NotEqual (Some (Number (first_or_end left))) (Some (Number (negsuc 1)))
      ≡ Some true
  is_taken [] = refl
  is_taken (b ∷ rest) = refl

  answer : (in_line : Bool) → truth (same_number (if in_line then pos 1 else pos 0) (pos 0)) ≡ nothing_left
      (next_of [] in_line)
  answer true = refl
  answer false = refl

  passes_it : (left : List ℕ) (looked in_line : Bool) (after : Memory) (transcript : List ℕ) → let i : Input = record {
    left = left;
    looked = looked;
    in_line = in_line;
  } in load (text_at m.code) s.memory block offset ≡ Some (Number (ahead i)) → load (text_at m.code) s.memory block
      (offset + 4) ≡ Some (Number (begun i)) → Renewed s.memory block offset (after_line i) after → Comes m
      (at_place 0 start s.memory (tape_of i transcript))
      (back s to (Number (nothing_left (next_of left in_line))) after
      (tape_of (after_line i) (transcript ++ line_marks i)))
  passes_it [] true in_line after transcript l k w =
      let g : ℤ = if in_line then pos 1 else pos 0 in
      reads (negsuc 0) g (last transcript) l k
      >> branches m s 16 routine has refl to line 2 (holding (negsuc 0) g) s.memory (last transcript) NotEqual 1
      (operand.Number (negsuc 1)) 1 refl refl
      >> subst (λ x. Comes m (at_place 4 (holding (negsuc 0) g) s.memory (last transcript))
      (back s to (Number (nothing_left (next_of [] in_line))) after (last x))) (append_nothing transcript)
      (subst (λ x. Comes m (at_place 4 (holding (negsuc 0) g) s.memory (last transcript))
      (back s to (Number x) after (last transcript))) (answer in_line)
      (ended_input w.middle after w.first w.second (holding (negsuc 0) g) g (last transcript) refl refl refl))
  passes_it [] false in_line after transcript l k w =
      let g : ℤ = if in_line then pos 1 else pos 0 in
      reads (negsuc 1) g (tape [] transcript) l k
      >> passes m s 16 routine has refl to line 2 (holding (negsuc 1) g) s.memory (tape [] transcript) NotEqual 1
      (operand.Number (negsuc 1)) 1 refl refl
      >> takes_end m s 16 routine has refl to line 3 (holding (negsuc 1) g) s.memory (tape [] transcript) 1 refl refl
      >> subst (λ x. Comes m (at_place 4 (put (holding (negsuc 1) g) 1 (Number (negsuc 0))) s.memory
      (last (transcript ++ mark ∷ []))) (back s to (Number x) after (last (transcript ++ mark ∷ []))))
      (answer in_line)
      (ended_input w.middle after w.first w.second (put (holding (negsuc 1) g) 1 (Number (negsuc 0))) g
      (last (transcript ++ mark ∷ [])) refl refl refl)
  passes_it (b ∷ rest) true in_line after transcript l k w =
      let g : ℤ = if in_line then pos 1 else pos 0 in
      reads (pos b) g (tape rest transcript) l k
      >> branches m s 16 routine has refl to line 2 (holding (pos b) g) s.memory (tape rest transcript) NotEqual 1
      (operand.Number (negsuc 1)) 1 refl refl
      >> go g (has_line_end (b ∷ rest)) refl w
    where
      behind : Bool → Input
      behind q = if q then record {
        left = after_line_end (b ∷ rest);
        looked = false;
        in_line = false;
      } else record {
        left = [];
        looked = true;
        in_line = false;
      }

      marks : Bool → List ℕ
      marks q = if q then replicate ((suc (length rest) - length (after_line_end (b ∷ rest))) - 1) mark else replicate
          ((suc (length rest) - 0) + 0) mark

      go : (g : ℤ) → (q : Bool) → has_line_end (b ∷ rest) ≡ q → Renewed s.memory block offset (behind q) after → Comes m
          (at_place 4 (holding (pos b) g) s.memory (tape rest transcript))
          (back s to (Number (pos 0)) after (tape_of (behind q) (transcript ++ marks q)))
      go g true h w =
          let e : length rest - length (after_line_end (b ∷ rest))
          ≡ (suc (length rest) - length (after_line_end (b ∷ rest))) - 1 = let c = shorter b rest in omega
          (arith, c) in
          subst (λ n. Comes m (at_place 4 (holding (pos b) g) s.memory (tape rest transcript))
          (back s to (Number (pos 0)) after (tape (after_line_end (b ∷ rest)) (transcript ++ replicate n mark)))) e
          (line_end w.middle after w.first w.second b rest (holding (pos b) g) transcript h refl refl)
      go g false h w =
          let e : suc (length rest) ≡ (suc (length rest) - 0) + 0 = omega arith in
          subst (λ n. Comes m (at_place 4 (holding (pos b) g) s.memory (tape rest transcript))
          (back s to (Number (pos 0)) after (last (transcript ++ replicate n mark)))) e
          (no_line_end w.middle after w.first w.second b rest (holding (pos b) g) transcript h refl refl)
  passes_it (b ∷ rest) false in_line after transcript l k w =
      let g : ℤ = if in_line then pos 1 else pos 0 in
      reads (negsuc 1) g (tape (b ∷ rest) transcript) l k
      >> passes m s 16 routine has refl to line 2 (holding (negsuc 1) g) s.memory
      (tape (b ∷ rest) transcript) NotEqual 1 (operand.Number (negsuc 1)) 1 refl refl
      >> takes_byte m s 16 routine has refl to line 3 (holding (negsuc 1) g) s.memory
      (tape (b ∷ rest) transcript) 1 b rest refl refl
      >> go (put (holding (negsuc 1) g) 1 (Number (pos b))) refl refl (has_line_end (b ∷ rest)) refl w
    where
      behind : Bool → Input
      behind q = if q then record {
        left = after_line_end (b ∷ rest);
        looked = false;
        in_line = false;
      } else record {
        left = [];
        looked = true;
        in_line = false;
      }

      marks : Bool → List ℕ
      marks q = if q then replicate ((suc (length rest) - length (after_line_end (b ∷ rest))) - 0) mark else replicate
          ((suc (length rest) - 0) + 1) mark

      go : (t : Temporaries) → t 0 ≡ Some (Address block offset) → t 1 ≡ Some (Number (pos b)) → (q : Bool)
          → has_line_end (b ∷ rest) ≡ q → Renewed s.memory block offset (behind q) after → Comes m
          (at_place 4 t s.memory (tape rest (transcript ++ mark ∷ [])))
          (back s to (Number (pos 0)) after (tape_of (behind q) (transcript ++ marks q)))
      go t a n true h w =
          let e : suc (length rest - length (after_line_end (b ∷ rest)))
          ≡ (suc (length rest) - length (after_line_end (b ∷ rest))) - 0 = let c = shorter b rest in omega
          (arith, c) in
          subst (λ x. Comes m (at_place 4 t s.memory (tape rest (transcript ++ mark ∷ [])))
          (back s to (Number (pos 0)) after (tape (after_line_end (b ∷ rest)) x)))
          (append_after transcript (mark ∷ []) (replicate (length rest - length (after_line_end (b ∷ rest))) mark)
          ∙ ap (λ n. transcript ++ replicate n mark) e)
          (line_end w.middle after w.first w.second b rest t (transcript ++ mark ∷ []) h a n)
      go t a n false h w =
          let e : suc (suc (length rest)) ≡ (suc (length rest) - 0) + 1 = omega arith in
          subst (λ x. Comes m (at_place 4 t s.memory (tape rest (transcript ++ mark ∷ [])))
          (back s to (Number (pos 0)) after (last x)))
          (append_after transcript (mark ∷ []) (replicate (suc (length rest)) mark)
          ∙ ap (λ n. transcript ++ replicate n mark) e)
          (no_line_end w.middle after w.first w.second b rest t (transcript ++ mark ∷ []) h a n)

pub reads_lines : ReadsLines
reads_lines m block offset i before after transcript has h w = does_so m 16 (Address block offset ∷ []) before
    (tape_of i transcript) (Number (nothing_left (next_of i.left i.in_line))) after
    (tape_of (after_line i) (transcript ++ line_marks i)) (λ s fresh.
    let s1 : State = record s { memory = before; tape = tape_of i transcript } in
    record {
      by = λ to line operands at e.
          a_step s1 _ (enters m s1 16 routine has refl to line operands
          (Address block offset ∷ []) at e refl refl refl) >>
          (passes_it m s1 has to line block offset fresh i.left i.looked i.in_line after transcript h.ahead h.begun w);
    })
