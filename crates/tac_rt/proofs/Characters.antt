-- Characters are read as the meaning says.
use Rattle.std.proofs.Common.{◌≡◌, ℕ, ◌+◌, ℤ, pos, negsuc, Bool, true, false, not, nat_eq, if◌then◌else◌, List, []}
use Rattle.std.proofs.Common.{◌∷◌, ◌++◌, slice_get, Some, refl, sym, ap, ◌∙◌, subst, arith}
use Rattle.tac_code.specs.declared.code.Block.{Block}
use Rattle.tac_code.specs.declared.code.Value.TheVariants.{Number, Address}
use Rattle.tac_code.specs.declared.code.Operand.TheVariants as operand
use Rattle.tac_code.specs.declared.code.Relation.TheVariants.{Equal, GreaterEqual}
use Rattle.tac_code.specs.declared.code.TacRoutine.{TacRoutine}
use Rattle.tac_code.specs.Memory.{Memory, load, store, with_word}
use Rattle.tac_code.specs.Meaning.{Temporaries, put, Tape, State, text_at, related}
use Rattle.tac_code_steps.specs.Runs.{Machine, Comes}
use Rattle.tac_code_steps.proofs.Runs.{a_step, ◌>>◌}
use Rattle.ps_meaning.specs.Text.{Input, next_of, taken_from, look_marks}
use Rattle.tac_rt.specs.declared.reading.TheConstants.{READ_CHARACTER}
use Rattle.tac_rt.specs.Bodies.{routine_of}
use Rattle.tac_rt.specs.Calls.{HasRoutines}
use Rattle.tac_rt.specs.Inputs.{ahead, begun, tape_of}
use Rattle.tac_rt.specs.Laws.{Renewed, character_or_end, ReadsCharacters}
use Rattle.tac_rt.proofs.Blocks.{IsFresh, stored}
use Rattle.tac_rt.proofs.Inside.{back, does_so, here_at, enters, returns, literal, loads, stores_word, branches}
use Rattle.tac_rt.proofs.Inside.{passes, takes_byte, takes_end}
use Rattle.tac_rt.proofs.Arithmetic.{not_negative}
use Rattle.tac_rt.proofs.Strings.{append_nothing}

abbrev routine : TacRoutine
routine = routine_of 1 4 READ_CHARACTER

module _ (m : Machine) (s : State) (has : HasRoutines m) (to line : ℕ) (block : Block) (offset : ℕ)
    (fresh : IsFresh s.count s.memory) where
  abbrev at_place : ℕ → Temporaries → Memory → Tape → State
  at_place = here_at m s 14 routine has refl to line

  abbrev start : Temporaries
  start u = slice_get (Address block offset ∷ []) u

  abbrev holding : ℤ → Temporaries
  holding z = put start 1 (Number z)

  here : offset + 0 ≡ offset
  here = omega arith

  reads : (z : ℤ) (tape : Tape) → load (text_at m.code) s.memory block offset ≡ Some (Number z) → Comes m
      (at_place 0 start s.memory tape) (at_place 1 (holding z) s.memory tape)
  reads z tape l = loads m s 14 routine has refl to line 0 start s.memory tape 1 0 0 block offset
      (Number z) refl refl fresh (ap (load (text_at m.code) s.memory block) here ∙ l)

  -- nothing was taken ahead
  asks : (tape : Tape) → load (text_at m.code) s.memory block offset ≡ Some (Number (negsuc 1)) → Comes m
      (at_place 0 start s.memory tape) (at_place 3 (holding (negsuc 1)) s.memory tape)
  asks tape l =
      reads (negsuc 1) tape l
      >> passes m s 14 routine has refl to line 1 (holding (negsuc 1)) s.memory tape GreaterEqual 1
      (operand.Number (pos 0)) 3 refl refl
      >> passes m s 14 routine has refl to line 2 (holding (negsuc 1)) s.memory tape Equal 1
      (operand.Number (negsuc 0)) 8 refl refl

  -- at place 11: the input is at its end
  gives_end : (in_line : Bool) (t : Temporaries) (memory : Memory) (tape : Tape) → t 0 ≡ Some (Address block offset)
      → t 1 ≡ Some (Number (negsuc 0)) → load (text_at m.code) s.memory block (offset + 4) ≡ Some
      (Number (if in_line then pos 1 else pos 0)) → Renewed s.memory block offset (taken_from []) memory → Comes m
      (at_place 11 t s.memory tape) (back s to (Number (character_or_end (next_of [] in_line))) memory tape)
  gives_end in_line t memory tape a n l w =
      let f : IsFresh s.count w.middle = (stored s.count s.memory
      (λ words. with_word words offset (Number (negsuc 0))) w.middle fresh block w.first).fresh in
      let t1 : Temporaries = put t 2 (Number (if in_line then pos 1 else pos 0)) in
      let t2 : Temporaries = put t1 3 (Number (pos 0)) in
      loads m s 14 routine has refl to line 11 t s.memory tape 2 0 4 block offset
      (Number (if in_line then pos 1 else pos 0)) refl a fresh l
      >> stores_word m s 14 routine has refl to line 12 t1 s.memory tape 0 0 1 block offset
      (Number (negsuc 0)) w.middle refl a n fresh
      (ap (λ o. store s.memory block o (Number (negsuc 0))) here ∙ w.first)
      >> literal m s 14 routine has refl to line 13 t1 w.middle tape 3 (pos 0) refl
      >> stores_word m s 14 routine has refl to line 14 t2 w.middle tape 0 4 3 block offset
      (Number (pos 0)) memory refl a refl f w.second
      >> last in_line n
    where
      last : (q : Bool) → t 1 ≡ Some (Number (negsuc 0)) → Comes m
          (at_place 15 (put (put t 2 (Number (if q then pos 1 else pos 0))) 3 (Number (pos 0))) memory tape)
          (back s to (Number (character_or_end (next_of [] q))) memory tape)
      last true e =
          passes m s 14 routine has refl to line 15
          (put (put t 2 (Number (pos 1))) 3 (Number (pos 0))) memory tape Equal 2
          (operand.Number (pos 0)) 1 refl refl
          >> literal m s 14 routine has refl to line 16
          (put (put t 2 (Number (pos 1))) 3 (Number (pos 0))) memory tape 1 (pos 32) refl
          >> a_step _ _ (returns m s 14 routine has refl to line 17
          (put (put (put t 2 (Number (pos 1))) 3 (Number (pos 0))) 1 (Number (pos 32))) memory tape 1
          (Number (pos 32)) refl refl)
      last false e =
          branches m s 14 routine has refl to line 15
          (put (put t 2 (Number (pos 0))) 3 (Number (pos 0))) memory tape Equal 2
          (operand.Number (pos 0)) 1 refl refl
          >> a_step _ _ (returns m s 14 routine has refl to line 17
          (put (put t 2 (Number (pos 0))) 3 (Number (pos 0))) memory tape 1 (Number (negsuc 0)) refl e)

  -- at place 5: a byte is taken
  gives_byte : (b : ℕ) (rest : List ℕ) (in_line : Bool) (t : Temporaries) (memory : Memory) (tape : Tape) → t 0 ≡ Some
      (Address block offset) → t 1 ≡ Some (Number (pos b)) → Renewed s.memory block offset
      (taken_from (b ∷ rest)) memory → Comes m (at_place 5 t s.memory tape)
      (back s to (Number (character_or_end (next_of (b ∷ rest) in_line))) memory tape)
  gives_byte b rest in_line t memory tape a n w =
      let f : IsFresh s.count w.middle = (stored s.count s.memory
      (λ words. with_word words offset (Number (negsuc 1))) w.middle fresh block w.first).fresh in
      let t1 : Temporaries = put t 2 (Number (negsuc 1)) in
      literal m s 14 routine has refl to line 5 t s.memory tape 2 (negsuc 1) refl
      >> stores_word m s 14 routine has refl to line 6 t1 s.memory tape 0 0 2 block offset
      (Number (negsuc 1)) w.middle refl a refl fresh
      (ap (λ o. store s.memory block o (Number (negsuc 1))) here ∙ w.first)
      >> go w.middle f (nat_eq b 10) refl w.second
    where
      go : (middle : Memory) → IsFresh s.count middle → (q : Bool) → nat_eq b 10 ≡ q → store middle block (offset + 4)
          (Number (if not (nat_eq b 10) then pos 1 else pos 0)) ≡ Some memory → Comes m
          (at_place 7 (put t 2 (Number (negsuc 1))) middle tape)
          (back s to (Number (pos (if nat_eq b 10 then 32 else b))) memory tape)
      go middle f true e g =
          let t1 : Temporaries = put t 2 (Number (negsuc 1)) in
          let t2 : Temporaries = put t1 3 (Number (pos 0)) in
          subst (λ q. Comes m (at_place 7 t1 middle tape) (back s to (Number (pos (if q then 32 else b))) memory tape))
          (sym e)
          (branches m s 14 routine has refl to line 7 t1 middle tape Equal 1 (operand.Number (pos 10)) 5 refl
          (ap (λ v. related Equal v (Some (Number (pos 10)))) n ∙ ap Some e)
          >> literal m s 14 routine has refl to line 13 t1 middle tape 3 (pos 0) refl
          >> stores_word m s 14 routine has refl to line 14 t2 middle tape 0 4 3 block offset
          (Number (pos 0)) memory refl a refl f (ap
          (λ q. store middle block (offset + 4) (Number (if not q then pos 1 else pos 0))) (sym e) ∙ g)
          >> passes m s 14 routine has refl to line 15 t2 memory tape Equal 2 (operand.Number (pos 0)) 1 refl refl
          >> literal m s 14 routine has refl to line 16 t2 memory tape 1 (pos 32) refl
          >> a_step _ _ (returns m s 14 routine has refl to line 17 (put t2 1 (Number (pos 32))) memory tape 1
          (Number (pos 32)) refl refl))
      go middle f false e g =
          let t1 : Temporaries = put t 2 (Number (negsuc 1)) in
          let t2 : Temporaries = put t1 2 (Number (pos 1)) in
          subst (λ q. Comes m (at_place 7 t1 middle tape) (back s to (Number (pos (if q then 32 else b))) memory tape))
          (sym e)
          (passes m s 14 routine has refl to line 7 t1 middle tape Equal 1 (operand.Number (pos 10)) 5 refl
          (ap (λ v. related Equal v (Some (Number (pos 10)))) n ∙ ap Some e)
          >> literal m s 14 routine has refl to line 8 t1 middle tape 2 (pos 1) refl
          >> stores_word m s 14 routine has refl to line 9 t2 middle tape 0 4 2 block offset
          (Number (pos 1)) memory refl a refl f (ap
          (λ q. store middle block (offset + 4) (Number (if not q then pos 1 else pos 0))) (sym e) ∙ g)
          >> a_step _ _ (returns m s 14 routine has refl to line 10 t2 memory tape 1 (Number (pos b)) refl n))

  not_below_0 : (b : ℕ) → related GreaterEqual (Some (Number (pos b))) (Some (Number (pos 0))) ≡ Some true
  not_below_0 b = ap Some (not_negative b)

  takes_it : (left : List ℕ) (looked in_line : Bool) (memory : Memory) (transcript : List ℕ) → let i : Input = record {
    left = left;
    looked = looked;
    in_line = in_line;
  } in load (text_at m.code) s.memory block offset ≡ Some (Number (ahead i)) → load (text_at m.code) s.memory block
      (offset + 4) ≡ Some (Number (begun i)) → Renewed s.memory block offset (taken_from left) memory → Comes m
      (at_place 0 start s.memory (tape_of i transcript))
      (back s to (Number (character_or_end (next_of left in_line))) memory
      (tape_of (taken_from left) (transcript ++ look_marks i)))
  takes_it [] true in_line memory transcript l g w =
      let tape : Tape = tape_of (record { left = []; looked = true; in_line = in_line }) transcript in
      reads (negsuc 0) tape l
      >> passes m s 14 routine has refl to line 1 (holding (negsuc 0)) s.memory tape GreaterEqual 1
      (operand.Number (pos 0)) 3 refl refl
      >> branches m s 14 routine has refl to line 2 (holding (negsuc 0)) s.memory tape Equal 1
      (operand.Number (negsuc 0)) 8 refl refl
      >> subst (λ x. Comes m (at_place 11 (holding (negsuc 0)) s.memory tape)
      (back s to (Number (character_or_end (next_of [] in_line))) memory (record tape { transcript = x })))
      (append_nothing transcript)
      (gives_end in_line (holding (negsuc 0)) memory tape refl refl g w)
  takes_it (b ∷ rest) true in_line memory transcript l g w =
      let tape : Tape = tape_of (record { left = b ∷ rest; looked = true; in_line = in_line }) transcript in
      reads (pos b) tape l
      >> branches m s 14 routine has refl to line 1 (holding (pos b)) s.memory tape GreaterEqual 1
      (operand.Number (pos 0)) 3 refl (not_below_0 b)
      >> subst (λ x. Comes m (at_place 5 (holding (pos b)) s.memory tape)
      (back s to (Number (character_or_end (next_of (b ∷ rest) in_line))) memory (record tape { transcript = x })))
      (append_nothing transcript)
      (gives_byte b rest in_line (holding (pos b)) memory tape refl refl w)
  takes_it [] false in_line memory transcript l g w =
      let tape : Tape = tape_of (record { left = []; looked = false; in_line = in_line }) transcript in
      let t : Temporaries = put (holding (negsuc 1)) 1 (Number (negsuc 0)) in
      asks tape l
      >> takes_end m s 14 routine has refl to line 3 (holding (negsuc 1)) s.memory tape 1 refl refl
      >> branches m s 14 routine has refl to line 4 t s.memory _ Equal 1 (operand.Number (negsuc 0)) 6 refl refl
      >> gives_end in_line t memory _ refl refl g w
  takes_it (b ∷ rest) false in_line memory transcript l g w =
      let tape : Tape = tape_of (record { left = b ∷ rest; looked = false; in_line = in_line }) transcript in
      let t : Temporaries = put (holding (negsuc 1)) 1 (Number (pos b)) in
      asks tape l
      >> takes_byte m s 14 routine has refl to line 3 (holding (negsuc 1)) s.memory tape 1 b rest refl refl
      >> passes m s 14 routine has refl to line 4 t s.memory _ Equal 1 (operand.Number (negsuc 0)) 6 refl refl
      >> gives_byte b rest in_line t memory _ refl refl w

pub reads_characters : ReadsCharacters
reads_characters m block offset i before after transcript has h w = does_so m 14 (Address block offset ∷ []) before
    (tape_of i transcript) (Number (character_or_end (next_of i.left i.in_line))) after
    (tape_of (taken_from i.left) (transcript ++ look_marks i)) (λ s fresh.
    let s1 : State = record s { memory = before; tape = tape_of i transcript } in
    record {
      by = λ to line operands at e.
          a_step s1 _ (enters m s1 14 routine has refl to line operands
          (Address block offset ∷ []) at e refl refl refl) >>
          (takes_it m s1 has to line block offset fresh i.left i.looked i.in_line after transcript h.ahead h.begun w);
    })
