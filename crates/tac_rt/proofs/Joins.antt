-- Sets are joined word by word.
use Rattle.std.proofs.Common.{◌≡◌, ℕ, zero, suc, ◌+◌, ◌*◌, ◌<◌, pos, negsuc, not, List, [], ◌∷◌, slice_get, ℤ, Some}
use Rattle.std.proofs.Common.{refl, ap, ◌∙◌, subst, arith}
use Rattle.std.proofs.lemmas.Bool.{ne_eqb}
use Rattle.tac_code.specs.declared.code.Block.{Block}
use Rattle.tac_code.specs.declared.code.Value.{Value}
use Rattle.tac_code.specs.declared.code.Value.TheVariants.{Number, Address}
use Rattle.tac_code.specs.declared.code.Base.TheVariants as base
use Rattle.tac_code.specs.declared.code.Operand.TheVariants as operand
use Rattle.tac_code.specs.declared.code.Instruction.TheVariants.{Bits, Load, Store}
use Rattle.tac_code.specs.declared.code.Relation.TheVariants.{NotEqual}
use Rattle.tac_code.specs.declared.code.BitOperator.{BitOperator}
use Rattle.tac_code.specs.declared.code.BitOperator.TheVariants.{And, Or, AndNot, Plus}
use Rattle.tac_code.specs.declared.code.TacRoutine.{TacRoutine}
use Rattle.tac_code.specs.Numbers.{bits}
use Rattle.tac_code.specs.Memory.{Memory, load, store, with_word}
use Rattle.tac_code.specs.Meaning.{Temporaries, put, State, text_at}
use Rattle.tac_code.specs.declared.code.TheConstants.{BLOCK_LIMIT}
use Rattle.tac_code_steps.specs.Runs.{Machine, Comes}
use Rattle.tac_code_steps.proofs.Runs.{a_step, ◌>>◌}
use Rattle.tac_rt.specs.declared.step.Step.{Step}
use Rattle.tac_rt.specs.declared.step.Step.TheVariants as step
use Rattle.tac_rt.specs.Bodies.{routine_of, run_time_routines}
use Rattle.tac_rt.specs.Calls.{HasRoutines}
use Rattle.tac_rt.specs.Laws.{JoinedUp, JoinsSets, JoinedSets}
use Rattle.tac_rt.proofs.Blocks.{IsFresh, stored}
use Rattle.tac_rt.proofs.Inside.{back, does_so, here_at, enters, returns, counts, offsets, loads, stores_word, joins}
use Rattle.tac_rt.proofs.Inside.{literal, branches_back, passes_back}
use Rattle.tac_rt.proofs.Arithmetic.{twice}

-- the table of the three routines
abbrev table : BitOperator → List Step
table operator =
    step.Literal 2 (pos 4) ∷ step.Load 3 0 0 ∷ step.Load 4 1 0 ∷ step.Bits operator 3 3 (operand.Temporary 4)
    ∷ step.Store 0 0 3 ∷ step.Load 3 0 4 ∷ step.Load 4 1 4 ∷ step.Bits operator 4 3 (operand.Temporary 4)
    ∷ step.Store 0 4 4 ∷ step.Offset 0 0 8
    ∷ step.Offset 1 1 8 ∷ step.Bits Plus 2 2 (operand.Number (negsuc 0)) ∷ step.BranchBack NotEqual 2
    (operand.Number (pos 0)) 11 ∷ step.Return 2 ∷ []

abbrev routine : BitOperator → TacRoutine
routine operator = routine_of 2 5 (table operator)

module _ (operator : BitOperator) (k : ℕ) (is : slice_get run_time_routines k ≡ Some (routine operator)) where
  module _ (m : Machine) (s : State) (has : HasRoutines m) (to line : ℕ) (upper lower : Block) where
    abbrev at_place : ℕ → Temporaries → Memory → State
    at_place pc t memory = here_at m s k (routine operator) has is to line pc t memory s.tape

    here : (o : ℕ) → o + 0 ≡ o
    here o = omega arith

    -- the temporaries after a word of each, and after one turn
    abbrev joined : (to' : ℕ) (x y : ℤ) → Temporaries → Temporaries
    joined to' x y t = put (put (put t 3 (Number x)) 4 (Number y)) to' (Number (bits operator x y))

    abbrev turned : (n place start : ℕ) (x y x' y' : ℤ) → Temporaries → Temporaries
    turned n place start x y x' y' t = put (put (put (joined 4 x' y' (joined 3 x y t)) 0 (Address upper (place + 8))) 1
        (Address lower (start + 8))) 2 (Number (pos n))

    -- a word of each, to the store of what they give
    words : (pc o to' place start : ℕ) (x y : ℤ) (t : Temporaries) (before middle : Memory) → slice_get
        (routine operator).body pc ≡ Some (Load 3 (base.Temporary 0) o) → slice_get (routine operator).body (suc pc)
        ≡ Some (Load 4 (base.Temporary 1) o) → slice_get (routine operator).body (suc (suc pc)) ≡ Some
        (Bits operator to' 3 (operand.Temporary 4)) → slice_get (routine operator).body (suc (suc (suc pc))) ≡ Some
        (Store (base.Temporary 0) o to') → t 0 ≡ Some (Address upper place) → t 1 ≡ Some (Address lower start)
        → joined to' x y t 0 ≡ t 0 → joined to' x y t to' ≡ Some (Number (bits operator x y)) → IsFresh s.count before
        → load (text_at m.code) before upper (place + o) ≡ Some (Number x) → load (text_at m.code) before lower
        (start + o) ≡ Some (Number y) → store before upper (place + o) (Number (bits operator x y)) ≡ Some middle
        → Comes m (at_place pc t before) (at_place (suc (suc (suc (suc pc)))) (joined to' x y t) middle)
    words pc o to' place start x y t before middle i j k' l a b c d f first second w =
        let t1 : Temporaries = put t 3 (Number x) in
        let t2 : Temporaries = put t1 4 (Number y) in
        loads m s k (routine operator) has is to line pc t before s.tape 3 0 o upper place (Number x) i a f first
        >> loads m s k (routine operator) has is to line (suc pc) t1 before s.tape 4 1 o lower start
        (Number y) j b f second
        >> joins m s k (routine operator) has is to line (suc (suc pc)) t2 before s.tape operator to' 3
        (operand.Temporary 4) x y k' refl refl
        >> stores_word m s k (routine operator) has is to line (suc (suc (suc pc)))
        (joined to' x y t) before s.tape 0 o to' upper place (Number (bits operator x y)) middle l (c ∙ a) d f w

    kept : (before middle : Memory) (place : ℕ) (z : ℤ) → IsFresh s.count before → store before upper place (Number z)
        ≡ Some middle → IsFresh s.count middle
    kept before middle place z f h = (stored s.count before
        (λ words. with_word words place (Number z)) middle f upper h).fresh

    -- one turn, from the top of the loop to the test at its bottom, with this many pairs of words and one more
    turns : (n place start : ℕ) (x y x' y' : ℤ) (t : Temporaries) (before middle after : Memory) → t 0 ≡ Some
        (Address upper place) → t 1 ≡ Some (Address lower start) → t 2 ≡ Some (Number (pos (suc n))) → n < 4
        → IsFresh s.count before → load (text_at m.code) before upper place ≡ Some (Number x) → load
        (text_at m.code) before lower start ≡ Some (Number y) → store before upper place (Number (bits operator x y))
        ≡ Some middle → load (text_at m.code) middle upper (place + 4) ≡ Some (Number x') → load
        (text_at m.code) middle lower (start + 4) ≡ Some (Number y') → store middle upper (place + 4)
        (Number (bits operator x' y')) ≡ Some after → place + 8 < BLOCK_LIMIT → start + 8 < BLOCK_LIMIT → Comes m
        (at_place 1 t before) (at_place 12 (turned n place start x y x' y' t) after)
    turns n place start x y x' y' t before middle after a b c few f first second w first' second' w' l h =
        let t1 : Temporaries = joined 3 x y t in
        let t2 : Temporaries = joined 4 x' y' t1 in
        let t3 : Temporaries = put t2 0 (Address upper (place + 8)) in
        let t4 : Temporaries = put t3 1 (Address lower (start + 8)) in
        words 1 0 3 place start x y t before middle refl refl refl refl a b refl refl f
        (ap (load (text_at m.code) before upper) (here place) ∙ first)
        (ap (load (text_at m.code) before lower) (here start) ∙ second)
        (ap (λ o. store before upper o (Number (bits operator x y))) (here place) ∙ w)
        >> words 5 4 4 place start x' y' t1 middle after refl refl refl refl a b refl refl
        (kept before middle place (bits operator x y) f w) first' second' w'
        >> offsets m s k (routine operator) has is to line 9 t2 after s.tape 0 0 8 upper place refl a l
        >> offsets m s k (routine operator) has is to line 10 t3 after s.tape 1 1 8 lower start refl b h
        >> counts m s k (routine operator) has is to line 11 t4 after s.tape 2 (suc n) n 0 refl c (omega arith)
        (omega arith)

    -- the addresses after two words
    behind : (n place start : ℕ) (before memory : Memory) → JoinedUp operator (text_at m.code) before upper
        (place + 4 + 4) lower (start + 4 + 4) n memory → JoinedUp operator (text_at m.code) before upper
        (place + 8) lower (start + 8) n memory
    behind n place start before memory c =
        let p : place + 4 + 4 ≡ place + 8 = omega arith in
        let q : start + 4 + 4 ≡ start + 8 = omega arith in
        subst (λ x. JoinedUp operator (text_at m.code) before upper (place + 8) lower x n memory) q
        (subst (λ x. JoinedUp operator (text_at m.code) before upper x lower (start + 4 + 4) n memory) p c)

    -- from the top of the loop on
    goes : (n place start : ℕ) (t : Temporaries) (before memory : Memory) → t 0 ≡ Some (Address upper place) → t 1
        ≡ Some (Address lower start) → t 2 ≡ Some (Number (pos (suc n))) → n < 4 → IsFresh s.count before
        → JoinedUp operator (text_at m.code) before upper place lower start (twice (suc n)) memory → place
        + 8 * suc n < BLOCK_LIMIT → start + 8 * suc n < BLOCK_LIMIT → Comes m (at_place 1 t before)
        (back s to (Number (pos 0)) memory s.tape)
    goes zero place start t before memory a b c few f j l h =
        let i = j.6 in
        let t' : Temporaries = turned 0 place start j.0 j.1 i.0 i.1 t in
        turns 0 place start j.0 j.1 i.0 i.1 t before j.2 i.2 a b c few f j.3 j.4 j.5 i.3 i.4 i.5 (omega arith)
        (omega arith)
        >> passes_back m s k (routine operator) has is to line 12 t' i.2 s.tape NotEqual 2
        (operand.Number (pos 0)) 11 refl refl
        >> subst (λ x. Comes m (at_place 13 t' i.2) (back s to (Number (pos 0)) x s.tape)) i.6
        (a_step _ _ (returns m s k (routine operator) has is to line 13 t' i.2 s.tape 2 (Number (pos 0)) refl refl))
    goes (suc n) place start t before memory a b c few f j l h =
        let i = j.6 in
        let t' : Temporaries = turned (suc n) place start j.0 j.1 i.0 i.1 t in
        let more : suc n ≡ 0 → ⊥ = λ e. omega arith in
        let f' = kept j.2 i.2 (place + 4) (bits operator i.0 i.1)
        (kept before j.2 place (bits operator j.0 j.1) f j.5) i.5 in
        turns (suc n) place start j.0 j.1 i.0 i.1 t before j.2 i.2 a b c few f j.3 j.4 j.5 i.3 i.4 i.5 (omega arith)
        (omega arith)
        >> branches_back m s k (routine operator) has is to line 12 t' i.2 s.tape NotEqual 2
        (operand.Number (pos 0)) 11 refl (ap (λ x. Some (not x)) (ne_eqb (suc n) 0 more))
        >> goes n (place + 8) (start + 8) t' i.2 memory refl refl refl (omega arith) f'
        (behind (twice (suc n)) place start i.2 memory i.6) (omega arith) (omega arith)

  joins_sets : JoinsSets k operator
  joins_sets m upper place lower start before after tape has j l h =
      let values : List Value = Address upper place ∷ Address lower start ∷ [] in
      does_so m k values before tape (Number (pos 0)) after tape (λ s fresh.
      let s1 : State = record s { memory = before; tape = tape } in
      record {
        by = λ to line operands at e.
            a_step s1 _ (enters m s1 k
            (routine operator) has is to line operands values at e refl refl refl) >>
            (literal m s1 k (routine operator) has is to line 0 (λ u. slice_get values u) before tape 2 (pos 4) refl
            >> goes m s1 has to line upper lower 3 place start
            (put (λ u. slice_get values u) 2 (Number (pos 4))) before after refl refl refl
            (omega arith) fresh j l h);
      })

pub joined_sets : JoinedSets
joined_sets = record {
  union = joins_sets Or 2 refl;
  difference = joins_sets AndNot 3 refl;
  intersection = joins_sets And 4 refl;
}
