-- A look at the input does what the meaning says.
use Rattle.std.proofs.Common.{◌≡◌, ℕ, ◌+◌, ℤ, pos, negsuc, Bool, true, false, nat_eq, if◌then◌else◌, List, [], ◌∷◌}
use Rattle.std.proofs.Common.{◌++◌, slice_get, Some, refl, sym, ap, ◌∙◌, subst, arith}
use Rattle.tac_code.specs.declared.code.Block.{Block}
use Rattle.tac_code.specs.declared.code.Value.TheVariants.{Number, Address}
use Rattle.tac_code.specs.declared.code.Operand.TheVariants as operand
use Rattle.tac_code.specs.declared.code.Relation.TheVariants.{Equal, NotEqual}
use Rattle.tac_code.specs.declared.code.TacRoutine.{TacRoutine}
use Rattle.tac_code.specs.Memory.{Memory, load, store, with_word}
use Rattle.tac_code.specs.Meaning.{Temporaries, put, Tape, State, text_at, related}
use Rattle.tac_code_steps.specs.Runs.{Machine, Comes}
use Rattle.tac_code_steps.proofs.Runs.{a_step, ◌>>◌}
use Rattle.ps_meaning.specs.Text.{Input, next_of, looked_at, look_marks}
use Rattle.tac_rt.specs.declared.reading.TheConstants.{LOOK}
use Rattle.tac_rt.specs.Bodies.{routine_of}
use Rattle.tac_rt.specs.Calls.{HasRoutines}
use Rattle.tac_rt.specs.Inputs.{first_or_end, ahead, begun, tape_of, kind_of}
use Rattle.tac_rt.specs.Laws.{LookedIn, LooksAhead}
use Rattle.tac_rt.proofs.Blocks.{IsFresh, stored}
use Rattle.tac_rt.proofs.Inside.{back, does_so, here_at, enters, returns, literal, loads, stores_word, branches}
use Rattle.tac_rt.proofs.Inside.{passes, takes_byte, takes_end}
use Rattle.tac_rt.proofs.Strings.{append_nothing}

abbrev routine : TacRoutine
routine = routine_of 1 2 LOOK

module _ (m : Machine) (s : State) (has : HasRoutines m) (to line : ℕ) (block : Block) (offset : ℕ) where
  abbrev at_place : ℕ → Temporaries → Memory → Tape → State
  at_place = here_at m s 13 routine has refl to line

  abbrev start : Temporaries
  start u = slice_get (Address block offset ∷ []) u

  -- what was taken ahead
  abbrev holding : ℤ → Temporaries
  holding z = put start 1 (Number z)

  here : offset + 0 ≡ offset
  here = omega arith

  -- at place 4, where it is known what comes next
  tells : (left : List ℕ) (in_line : Bool) (t : Temporaries) (memory : Memory) (tape : Tape) → t 0 ≡ Some
      (Address block offset) → t 1 ≡ Some (Number (first_or_end left)) → IsFresh s.count memory → load
      (text_at m.code) memory block (offset + 4) ≡ Some (Number (if in_line then pos 1 else pos 0)) → Comes m
      (at_place 4 t memory tape) (back s to (Number (kind_of (next_of left in_line))) memory tape)
  tells [] in_line t memory tape a n fresh l =
      branches m s 13 routine has refl to line 4 t memory tape Equal 1 (operand.Number (negsuc 0)) 5 refl
      (ap (λ v. related Equal v (Some (Number (negsuc 0)))) n)
      >> loads m s 13 routine has refl to line 10 t memory tape 0 0 4 block offset
      (Number (if in_line then pos 1 else pos 0)) refl a fresh l
      >> a_step _ _ (returns m s 13 routine has refl to line 11
      (put t 0 (Number (if in_line then pos 1 else pos 0))) memory tape 0
      (Number (kind_of (next_of [] in_line))) refl (kind in_line))
    where
      kind : (b : Bool) → Some (Number (if b then pos 1 else pos 0)) ≡ Some (Number (kind_of (next_of [] b)))
      kind true = refl
      kind false = refl
  tells (b ∷ rest) in_line t memory tape a n fresh l =
      passes m s 13 routine has refl to line 4 t memory tape Equal 1 (operand.Number (negsuc 0)) 5 refl
      (ap (λ v. related Equal v (Some (Number (negsuc 0)))) n)
      >> go (nat_eq b 10) refl
    where
      go : (q : Bool) → nat_eq b 10 ≡ q → Comes m (at_place 5 t memory tape)
          (back s to (Number (if nat_eq b 10 then pos 1 else pos 2)) memory tape)
      go true e =
          subst (λ q. Comes m (at_place 5 t memory tape) (back s to (Number (if q then pos 1 else pos 2)) memory tape))
          (sym e)
          (branches m s 13 routine has refl to line 5 t memory tape Equal 1 (operand.Number (pos 10)) 2 refl
          (ap (λ v. related Equal v (Some (Number (pos 10)))) n ∙ ap Some e)
          >> literal m s 13 routine has refl to line 8 t memory tape 0 (pos 1) refl
          >> a_step _ _ (returns m s 13 routine has refl to line 9 (put t 0 (Number (pos 1))) memory tape 0
          (Number (pos 1)) refl refl))
      go false e =
          subst (λ q. Comes m (at_place 5 t memory tape) (back s to (Number (if q then pos 1 else pos 2)) memory tape))
          (sym e)
          (passes m s 13 routine has refl to line 5 t memory tape Equal 1 (operand.Number (pos 10)) 2 refl
          (ap (λ v. related Equal v (Some (Number (pos 10)))) n ∙ ap Some e)
          >> literal m s 13 routine has refl to line 6 t memory tape 0 (pos 2) refl
          >> a_step _ _ (returns m s 13 routine has refl to line 7 (put t 0 (Number (pos 2))) memory tape 0
          (Number (pos 2)) refl refl))

  -- the first word is read: -2 or not
  reads : (z : ℤ) (tape : Tape) → IsFresh s.count s.memory → load (text_at m.code) s.memory block offset ≡ Some
      (Number z) → Comes m (at_place 0 start s.memory tape) (at_place 1 (holding z) s.memory tape)
  reads z tape fresh l = loads m s 13 routine has refl to line 0 start s.memory tape 1 0 0 block offset
      (Number z) refl refl fresh (ap (load (text_at m.code) s.memory block) here ∙ l)

  is_taken : (left : List ℕ) → related NotEqual (Some (Number (first_or_end left))) (Some (Number (negsuc 1)))
      ≡ Some true
  is_taken [] = refl
  is_taken (b ∷ rest) = refl

  -- what was just taken is kept
  keeps : (left : List ℕ) (in_line : Bool) (memory : Memory) (tape : Tape) → IsFresh s.count s.memory
      → store s.memory block offset (Number (first_or_end left)) ≡ Some memory → load (text_at m.code) memory block
      (offset + 4) ≡ Some (Number (if in_line then pos 1 else pos 0)) → Comes m
      (at_place 3 (put (holding (negsuc 1)) 1 (Number (first_or_end left))) s.memory tape)
      (back s to (Number (kind_of (next_of left in_line))) memory tape)
  keeps left in_line memory tape fresh w l =
      let t : Temporaries = put (holding (negsuc 1)) 1 (Number (first_or_end left)) in
      stores_word m s 13 routine has refl to line 3 t s.memory tape 0 0 1 block offset
      (Number (first_or_end left)) memory refl refl refl fresh
      (ap (λ o. store s.memory block o (Number (first_or_end left))) here ∙ w)
      >> tells left in_line t memory tape refl refl
      (stored s.count s.memory (λ words. with_word words offset (Number (first_or_end left))) memory fresh block
      w).fresh l

  looks : (left : List ℕ) (looked in_line : Bool) (memory : Memory) (transcript : List ℕ) → let i : Input = record {
    left = left;
    looked = looked;
    in_line = in_line;
  } in IsFresh s.count s.memory → load (text_at m.code) s.memory block offset ≡ Some (Number (ahead i))
      → LookedIn looked s.memory block offset (first_or_end left) memory → load (text_at m.code) memory block
      (offset + 4) ≡ Some (Number (begun i)) → Comes m (at_place 0 start s.memory (tape_of i transcript))
      (back s to (Number (kind_of (next_of left in_line))) memory (tape_of (looked_at i) (transcript ++ look_marks i)))
  looks left true in_line memory transcript fresh l w g =
      let tape : Tape = tape_of (record { left = left; looked = true; in_line = in_line }) transcript in
      let e : IsFresh s.count memory = subst (IsFresh s.count) (sym w) fresh in
      reads (first_or_end left) tape fresh l
      >> branches m s 13 routine has refl to line 1 (holding (first_or_end left)) s.memory tape NotEqual 1
      (operand.Number (negsuc 1)) 2 refl (is_taken left)
      >> subst (λ x. Comes m (at_place 4 (holding (first_or_end left)) x tape)
      (back s to (Number (kind_of (next_of left in_line))) memory (record tape { transcript = transcript ++ [] })))
      w
      (subst (λ x. Comes m (at_place 4 (holding (first_or_end left)) memory tape)
      (back s to (Number (kind_of (next_of left in_line))) memory (record tape { transcript = x })))
      (append_nothing transcript)
      (tells left in_line (holding (first_or_end left)) memory tape refl refl e g))
  looks [] false in_line memory transcript fresh l w g =
      let tape : Tape = tape_of (record { left = []; looked = false; in_line = in_line }) transcript in
      reads (negsuc 1) tape fresh l
      >> passes m s 13 routine has refl to line 1 (holding (negsuc 1)) s.memory tape NotEqual 1
      (operand.Number (negsuc 1)) 2 refl refl
      >> takes_end m s 13 routine has refl to line 2 (holding (negsuc 1)) s.memory tape 1 refl refl
      >> keeps [] in_line memory _ fresh w g
  looks (b ∷ rest) false in_line memory transcript fresh l w g =
      let tape : Tape = tape_of (record { left = b ∷ rest; looked = false; in_line = in_line }) transcript in
      reads (negsuc 1) tape fresh l
      >> passes m s 13 routine has refl to line 1 (holding (negsuc 1)) s.memory tape NotEqual 1
      (operand.Number (negsuc 1)) 2 refl refl
      >> takes_byte m s 13 routine has refl to line 2 (holding (negsuc 1)) s.memory tape 1 b rest refl refl
      >> keeps (b ∷ rest) in_line memory _ fresh w g

pub looks_ahead : LooksAhead
looks_ahead m block offset i before after transcript has h w g = does_so m 13 (Address block offset ∷ []) before
    (tape_of i transcript) (Number (kind_of (next_of i.left i.in_line))) after
    (tape_of (looked_at i) (transcript ++ look_marks i)) (λ s fresh.
    let s1 : State = record s { memory = before; tape = tape_of i transcript } in
    record {
      by = λ to line operands at e.
          a_step s1 _ (enters m s1 13 routine has refl to line operands
          (Address block offset ∷ []) at e refl refl refl) >>
          (looks m s1 has to line block offset i.left i.looked i.in_line after transcript fresh h.ahead w g.begun);
    })
