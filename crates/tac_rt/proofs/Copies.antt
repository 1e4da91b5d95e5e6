-- Words are copied one after another.
use Rattle.std.proofs.Common.{◌≡◌, ℕ, zero, suc, ◌+◌, ◌*◌, ◌%◌, ◌<◌, pos, Bool, true, false, not, if◌then◌else◌, List}
use Rattle.std.proofs.Common.{[], ◌∷◌, slice_get, Some, refl, ap, ◌∙◌, subst, arith}
use Rattle.std.proofs.lemmas.Bool.{ne_eqb}
use Rattle.tac_code.specs.declared.code.Block.{Block}
use Rattle.tac_code.specs.declared.code.Value.{Value}
use Rattle.tac_code.specs.declared.code.Value.TheVariants.{Number, Address}
use Rattle.tac_code.specs.declared.code.Base.TheVariants as base
use Rattle.tac_code.specs.declared.code.Operand.TheVariants as operand
use Rattle.tac_code.specs.declared.code.BitOperator.TheVariants.{And}
use Rattle.tac_code.specs.declared.code.Instruction.TheVariants.{Load, Store}
use Rattle.tac_code.specs.declared.code.Relation.TheVariants.{Equal, NotEqual}
use Rattle.tac_code.specs.declared.code.TacRoutine.{TacRoutine}
use Rattle.tac_code.specs.Numbers.{bits, same_number}
use Rattle.tac_code.specs.Memory.{Memory, load, store, with_word}
use Rattle.tac_code.specs.Meaning.{Temporaries, put, State, text_at, related}
use Rattle.tac_code.specs.declared.code.TheConstants.{BLOCK_LIMIT}
use Rattle.tac_code_steps.specs.Runs.{Machine, Comes}
use Rattle.tac_code_steps.proofs.Runs.{a_step, ◌>>◌}
use Rattle.tac_rt.specs.declared.words.TheConstants.{COPY}
use Rattle.tac_rt.specs.Bodies.{routine_of}
use Rattle.tac_rt.specs.Calls.{HasRoutines}
use Rattle.tac_rt.specs.Laws.{CopiedUp, CopiesWords}
use Rattle.tac_rt.proofs.Blocks.{IsFresh, stored}
use Rattle.tac_rt.proofs.Inside.{back, does_so, here_at, enters, returns, counts, joins, offsets, loads, stores_word}
use Rattle.tac_rt.proofs.Inside.{branches, passes, branches_back, passes_back}
use Rattle.tac_rt.proofs.Arithmetic.{low_bits, twice, twice_is, halves}

abbrev routine : TacRoutine
routine = routine_of 3 4 COPY

module _ (m : Machine) (s : State) (has : HasRoutines m) (to line : ℕ) (upper lower : Block) where
  abbrev at_place : ℕ → Temporaries → Memory → State
  at_place pc t memory = here_at m s 0 routine has refl to line pc t memory s.tape

  here : (o : ℕ) → o + 0 ≡ o
  here o = omega arith

  -- nothing is left
  ends : (t : Temporaries) (before memory : Memory) → t 2 ≡ Some (Number (pos 0)) → before ≡ memory → Comes m
      (at_place 16 t before) (back s to (Number (pos 0)) memory s.tape)
  ends t before memory n e = subst (λ x. Comes m (at_place 16 t before) (back s to (Number (pos 0)) x s.tape)) e
      (a_step _ _ (returns m s 0 routine has refl to line 16 t before s.tape 2 (Number (pos 0)) refl n))

  -- one word, o bytes after both addresses
  word : (pc o : ℕ) → slice_get routine.body pc ≡ Some (Load 3 (base.Temporary 1) o) → slice_get routine.body (suc pc)
      ≡ Some (Store (base.Temporary 0) o 3) → (place start : ℕ) (v : Value) (t : Temporaries) (before middle : Memory)
      → t 0 ≡ Some (Address upper place) → t 1 ≡ Some (Address lower start) → IsFresh s.count before → load
      (text_at m.code) before lower (start + o) ≡ Some v → store before upper (place + o) v ≡ Some middle → Comes m
      (at_place pc t before) (at_place (suc (suc pc)) (put t 3 v) middle)
  word pc o first second place start v t before middle a b f l h =
      loads m s 0 routine has refl to line pc t before s.tape 3 1 o lower start v first b f l
      >> stores_word m s 0 routine has refl to line (suc pc)
      (put t 3 v) before s.tape 0 o 3 upper place v middle second a refl f h

  -- a store keeps what a call treats as new as it is
  kept : (before middle : Memory) (place : ℕ) (v : Value) → IsFresh s.count before → store before upper place v
      ≡ Some middle → IsFresh s.count middle
  kept before middle place v f h = (stored s.count before (λ words. with_word words place v) middle f upper h).fresh

  -- the temporaries after a turn that copies this many bytes
  abbrev turned : (bytes left place start : ℕ) → Temporaries → Temporaries
  turned bytes left place start t = put (put (put t 0 (Address upper (place + bytes))) 1
      (Address lower (start + bytes))) 2 (Number (pos left))

  -- two words
  turns : (k place start : ℕ) (v w : Value) (t : Temporaries) (before middle after : Memory) → t 0 ≡ Some
      (Address upper place) → t 1 ≡ Some (Address lower start) → t 2 ≡ Some (Number (pos (8 * suc k)))
      → IsFresh s.count before → load (text_at m.code) before lower start ≡ Some v → store before upper place v
      ≡ Some middle → load (text_at m.code) middle lower (start + 4) ≡ Some w → store middle upper (place + 4) w
      ≡ Some after → place + 8 * suc k < BLOCK_LIMIT → start + 8 * suc k < BLOCK_LIMIT → Comes m (at_place 8 t before)
      (at_place 15 (turned 8 (8 * k) place start (put (put t 3 v) 3 w)) after)
  turns k place start v w t before middle after a b c f l h l' h' near far =
      let t1 : Temporaries = put t 3 v in
      let t2 : Temporaries = put t1 3 w in
      let t3 : Temporaries = put t2 0 (Address upper (place + 8)) in
      let t4 : Temporaries = put t3 1 (Address lower (start + 8)) in
      word 8 0 refl refl place start v t before middle a b f (ap (load (text_at m.code) before lower) (here start) ∙ l)
      (ap (λ o. store before upper o v) (here place) ∙ h)
      >> word 10 4 refl refl place start w t1 middle after a b (kept before middle place v f h) l' h'
      >> offsets m s 0 routine has refl to line 12 t2 after s.tape 0 0 8 upper place refl a (omega arith)
      >> offsets m s 0 routine has refl to line 13 t3 after s.tape 1 1 8 lower start refl b (omega arith)
      >> counts m s 0 routine has refl to line 14 t4 after s.tape 2 (8 * suc k) (8 * k) 7 refl c (omega arith)
      (omega arith)

  -- the addresses after two words
  behind : (n place start : ℕ) (before memory : Memory) → CopiedUp (text_at m.code) before upper (place + 4 + 4) lower
      (start + 4 + 4) n memory → CopiedUp (text_at m.code) before upper (place + 8) lower (start + 8) n memory
  behind n place start before memory c =
      let p : place + 4 + 4 ≡ place + 8 = omega arith in
      let q : start + 4 + 4 ≡ start + 8 = omega arith in
      subst (λ x. CopiedUp (text_at m.code) before upper (place + 8) lower x n memory) q
      (subst (λ x. CopiedUp (text_at m.code) before upper x lower (start + 4 + 4) n memory) p c)

  -- from the top of the loop on
  copies : (k place start : ℕ) (t : Temporaries) (before memory : Memory) → t 0 ≡ Some (Address upper place) → t 1
      ≡ Some (Address lower start) → t 2 ≡ Some (Number (pos (8 * suc k))) → IsFresh s.count before → CopiedUp
      (text_at m.code) before upper place lower start (twice (suc k)) memory → place + 8 * suc k < BLOCK_LIMIT → start
      + 8 * suc k < BLOCK_LIMIT → Comes m (at_place 8 t before) (back s to (Number (pos 0)) memory s.tape)
  copies zero place start t before memory a b n f c l h =
      let d = c.4 in
      let t' : Temporaries = turned 8 0 place start (put (put t 3 c.0) 3 d.0) in
      turns 0 place start c.0 d.0 t before c.1 d.1 a b n f c.2 c.3 d.2 d.3 l h
      >> passes_back m s 0 routine has refl to line 15 t' d.1 s.tape NotEqual 2 (operand.Number (pos 0)) 7 refl refl
      >> ends t' d.1 memory refl d.4
  copies (suc k) place start t before memory a b n f c l h =
      let d = c.4 in
      let t' : Temporaries = turned 8 (8 * suc k) place start (put (put t 3 c.0) 3 d.0) in
      let more : 8 * suc k ≡ 0 → ⊥ = λ e. omega arith in
      let f' = kept c.1 d.1 (place + 4) d.0 (kept before c.1 place c.0 f c.3) d.3 in
      turns (suc k) place start c.0 d.0 t before c.1 d.1 a b n f c.2 c.3 d.2 d.3 l h
      >> branches_back m s 0 routine has refl to line 15 t' d.1 s.tape NotEqual 2 (operand.Number (pos 0)) 7 refl
      (ap (λ x. Some (not x)) (ne_eqb (8 * suc k) 0 more))
      >> copies k (place + 8) (start + 8) t' d.1 memory refl refl refl f'
      (behind (twice (suc k)) place start d.1 memory d.4) (omega arith) (omega arith)

  -- this many pairs
  pairs : (k place start : ℕ) (t : Temporaries) (before memory : Memory) → t 0 ≡ Some (Address upper place) → t 1 ≡ Some
      (Address lower start) → t 2 ≡ Some (Number (pos (8 * k))) → IsFresh s.count before → CopiedUp
      (text_at m.code) before upper place lower start (twice k) memory → place + 8 * k < BLOCK_LIMIT → start
      + 8 * k < BLOCK_LIMIT → Comes m (at_place 7 t before) (back s to (Number (pos 0)) memory s.tape)
  pairs zero place start t before memory a b n f c l h =
      let e : t 2 ≡ Some (Number (pos 0)) = n in
      branches m s 0 routine has refl to line 7 t before s.tape Equal 2 (operand.Number (pos 0)) 8 refl
      (ap (λ v. related Equal v (Some (Number (pos 0)))) e)
      >> ends t before memory e c
  pairs (suc k) place start t before memory a b n f c l h =
      let more : 8 * suc k ≡ 0 → ⊥ = λ e. omega arith in
      passes m s 0 routine has refl to line 7 t before s.tape Equal 2 (operand.Number (pos 0)) 8 refl
      (ap (λ v. related Equal v (Some (Number (pos 0)))) n ∙ ap Some (ne_eqb (8 * suc k) 0 more))
      >> copies k place start t before memory a b n f c l h

  abbrev first : (n place start : ℕ) → Temporaries
  first n place start u = slice_get (Address upper place ∷ Address lower start ∷ Number (pos (4 * n)) ∷ []) u

  -- what is left of the number of bytes by 8
  abbrev split : (n place start : ℕ) → Temporaries
  split n place start = put (first n place start) 3 (Number (bits And (pos (4 * n)) (pos 7)))

  whole : (odd : Bool) (n k place start : ℕ) (before memory : Memory) → n ≡ (if odd then suc (twice k) else twice k)
      → IsFresh s.count before → CopiedUp (text_at m.code) before upper place lower start n memory → place
      + 4 * n < BLOCK_LIMIT → start + 4 * n < BLOCK_LIMIT → Comes m (at_place 0 (first n place start) before)
      (back s to (Number (pos 0)) memory s.tape)
  whole false n k place start before memory e f c l h =
      let i = twice_is k in
      let many : 4 * n ≡ 8 * k = omega (arith, e, i) in
      let none : 4 * n % 8 ≡ 0 = omega (arith, many) in
      joins m s 0 routine has refl to line 0 (first n place start) before s.tape And 3 2 (operand.Number (pos 7))
      (pos (4 * n)) (pos 7) refl refl refl
      >> branches m s 0 routine has refl to line 1 (split n place start) before s.tape Equal 3
      (operand.Number (pos 0)) 5 refl (ap (λ z. Some (same_number z (pos 0)))
      (low_bits (4 * n) 0 none (omega arith)))
      >> pairs k place start (split n place start) before memory refl refl (ap (λ z. Some (Number (pos z))) many) f
      (subst (λ x. CopiedUp (text_at m.code) before upper place lower start x memory) e c) (omega (arith, l, many))
      (omega (arith, h, many))
  whole true n k place start before memory e f c l h =
      let i = twice_is k in
      let many : 4 * n ≡ 8 * k + 4 = omega (arith, e, i) in
      let some : 4 * n % 8 ≡ 4 = omega (arith, many) in
      let d = subst (λ x. CopiedUp (text_at m.code) before upper place lower start x memory) e c in
      let t1 : Temporaries = put (split n place start) 3 d.0 in
      let t2 : Temporaries = put t1 0 (Address upper (place + 4)) in
      let t3 : Temporaries = put t2 1 (Address lower (start + 4)) in
      joins m s 0 routine has refl to line 0 (first n place start) before s.tape And 3 2 (operand.Number (pos 7))
      (pos (4 * n)) (pos 7) refl refl refl
      >> passes m s 0 routine has refl to line 1 (split n place start) before s.tape Equal 3
      (operand.Number (pos 0)) 5 refl (ap (λ z. Some (same_number z (pos 0)))
      (low_bits (4 * n) 4 some (omega arith)))
      >> word 2 0 refl refl place start d.0 (split n place start) before d.1 refl refl f
      (ap (load (text_at m.code) before lower) (here start) ∙ d.2)
      (ap (λ o. store before upper o d.0) (here place) ∙ d.3)
      >> offsets m s 0 routine has refl to line 4 t1 d.1 s.tape 0 0 4 upper place refl refl (omega (arith, l, many))
      >> offsets m s 0 routine has refl to line 5 t2 d.1 s.tape 1 1 4 lower start refl refl (omega (arith, h, many))
      >> counts m s 0 routine has refl to line 6 t3 d.1 s.tape 2 (4 * n) (8 * k) 3 refl refl (omega (arith, many))
      (omega (arith, l))
      >> pairs k (place + 4) (start + 4) (put t3 2 (Number (pos (8 * k)))) d.1 memory refl refl refl
      (kept before d.1 place d.0 f d.3) d.4 (omega (arith, l, many)) (omega (arith, h, many))

pub copies_words : CopiesWords
copies_words m upper place lower start n before after tape has c l h =
    let values : List Value = Address upper place ∷ Address lower start ∷ Number (pos (4 * n)) ∷ [] in
    does_so m 0 values before tape (Number (pos 0)) after tape (λ s fresh.
    let s1 : State = record s { memory = before; tape = tape } in
    record {
      by = λ to line operands at e.
          a_step s1 _ (enters m s1 0 routine has refl to line operands values at e refl refl refl) >>
          (let half = halves n in whole m s1 has to line upper lower half.0 n half.1 place start before after half.2
          fresh c l h);
    })
