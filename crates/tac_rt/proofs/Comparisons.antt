-- Strings are compared byte by byte.
use Rattle.std.proofs.Common.{◌≡◌, ℕ, suc, ◌+◌, ◌<◌, pos, ◌-ℤ◌, ℤ, Bool, true, false, not, nat_eq, if◌then◌else◌, List}
use Rattle.std.proofs.Common.{[], ◌∷◌, length, slice_get, Some, refl, sym, ap, ◌∙◌, subst, arith}
use Rattle.std.proofs.lemmas.Bool.{ne_eqb}
use Rattle.tac_code.specs.declared.code.Block.{Block}
use Rattle.tac_code.specs.declared.code.Value.{Value}
use Rattle.tac_code.specs.declared.code.Value.TheVariants.{Number, Address}
use Rattle.tac_code.specs.declared.code.Operand.TheVariants as operand
use Rattle.tac_code.specs.declared.code.Operator.TheVariants.{Subtract}
use Rattle.tac_code.specs.declared.code.Relation.TheVariants.{Equal, NotEqual}
use Rattle.tac_code.specs.declared.code.TacRoutine.{TacRoutine}
use Rattle.tac_code.specs.Memory.{load_byte}
use Rattle.tac_code.specs.Meaning.{Temporaries, put, State, text_at, related}
use Rattle.tac_code.specs.declared.code.TheConstants.{BLOCK_LIMIT}
use Rattle.tac_code_steps.specs.Runs.{Machine, Comes}
use Rattle.tac_code_steps.proofs.Runs.{a_step, ◌>>◌}
use Rattle.tac_rt.specs.declared.words.TheConstants.{COMPARE}
use Rattle.tac_rt.specs.Bodies.{routine_of}
use Rattle.tac_rt.specs.Calls.{HasRoutines, BytesAt}
use Rattle.tac_rt.specs.Laws.{first_difference, ComparesBytes}
use Rattle.tac_rt.proofs.Blocks.{IsFresh}
use Rattle.tac_rt.proofs.Inside.{back, does_so, here_at, enters, returns, computes, counts, offsets, loads_byte}
use Rattle.tac_rt.proofs.Inside.{branches, passes, branches_back, passes_back}
use Rattle.tac_rt.proofs.Arithmetic.{remains}

abbrev routine : TacRoutine
routine = routine_of 3 5 COMPARE

module _ (m : Machine) (s : State) (has : HasRoutines m) (fresh : IsFresh s.count s.memory) (to line : ℕ)
    (x y : Block) where
  abbrev at_place : ℕ → Temporaries → State
  at_place pc t = here_at m s 7 routine has refl to line pc t s.memory s.tape

  here : (o : ℕ) → o + 0 ≡ o
  here o = omega arith

  abbrev Gives : ℤ → ℕ → Temporaries → Type 0
  Gives z pc t = Comes m (at_place pc t) (back s to (Number z) s.memory s.tape)

  -- all bytes are the same
  ends : (t : Temporaries) → t 2 ≡ Some (Number (pos 0)) → Gives (pos 0) 8 t
  ends t n = a_step _ _ (returns m s 7 routine has refl to line 8 t s.memory s.tape 2 (Number (pos 0)) refl n)

  -- the temporaries with a byte of each
  abbrev read : (p q : ℕ) → Temporaries → Temporaries
  read p q t = put (put t 3 (Number (pos p))) 4 (Number (pos q))

  -- a byte of each, from the top of the loop on
  turns : (p q : ℕ) (left right : List ℕ) (place start : ℕ) (t : Temporaries) → load_byte
      (text_at m.code) s.memory x place ≡ Some p → p < 256 → load_byte (text_at m.code) s.memory y start ≡ Some q
      → q < 256 → t 0 ≡ Some (Address x place) → t 1 ≡ Some (Address y start) → t 2 ≡ Some
      (Number (pos (suc (length left)))) → length left ≡ length right → place + suc (length left) < BLOCK_LIMIT → start
      + suc (length right) < BLOCK_LIMIT
      → ((t' : Temporaries) → t' 0 ≡ Some (Address x (place + 1)) → t' 1 ≡ Some (Address y (start + 1)) → t' 2 ≡ Some
      (Number (pos (length left))) → Gives (first_difference left right) 7 t') → Gives
      (first_difference (p ∷ left) (q ∷ right)) 1 t
  turns p q left right place start t first low_left second low_right a b n same l k rest =
      let t1 : Temporaries = put t 3 (Number (pos p)) in
      loads_byte m s 7 routine has refl to line 1 t s.memory s.tape 3 0 0 x place p refl a fresh
      (ap (load_byte (text_at m.code) s.memory x) (here place) ∙ first)
      >> loads_byte m s 7 routine has refl to line 2 t1 s.memory s.tape 4 1 0 y start q refl b fresh
      (ap (load_byte (text_at m.code) s.memory y) (here start) ∙ second)
      >> go (nat_eq p q) refl
    where
      go : (z : Bool) → nat_eq p q ≡ z → Gives (if nat_eq p q then first_difference left right else pos p -ℤ pos q) 3
          (read p q t)
      go true z =
          let t2 : Temporaries = read p q t in
          let t3 : Temporaries = put t2 0 (Address x (place + 1)) in
          let t4 : Temporaries = put t3 1 (Address y (start + 1)) in
          let t5 : Temporaries = put t4 2 (Number (pos (length left))) in
          subst (λ c. Gives (if c then first_difference left right else pos p -ℤ pos q) 3 t2) (sym z)
          (passes m s 7 routine has refl to line 3 t2 s.memory s.tape NotEqual 3 (operand.Temporary 4) 5 refl
          (ap (λ c. Some (not c)) z)
          >> offsets m s 7 routine has refl to line 4 t2 s.memory s.tape 0 0 1 x place refl a (omega arith)
          >> offsets m s 7 routine has refl to line 5 t3 s.memory s.tape 1 1 1 y start refl b (omega arith)
          >> counts m s 7 routine has refl to line 6 t4 s.memory s.tape 2 (suc (length left)) (length left) 0 refl n
          (omega arith) (omega arith)
          >> rest t5 refl refl refl)
      go false z =
          let t2 : Temporaries = read p q t in
          subst (λ c. Gives (if c then first_difference left right else pos p -ℤ pos q) 3 t2) (sym z)
          (branches m s 7 routine has refl to line 3 t2 s.memory s.tape NotEqual 3 (operand.Temporary 4) 5 refl
          (ap (λ c. Some (not c)) z)
          >> computes m s 7 routine has refl to line 9 t2 s.memory s.tape Subtract 0 3 (operand.Temporary 4) (pos p)
          (pos q) (pos p -ℤ pos q) refl refl refl (remains p q (omega (arith, low_left)) (omega (arith, low_right)))
          >> a_step _ _ (returns m s 7 routine has refl to line 10
          (put t2 0 (Number (pos p -ℤ pos q))) s.memory s.tape 0 (Number (pos p -ℤ pos q)) refl refl))

  -- from the test at the loop's bottom on
  goes : (left right : List ℕ) (place start : ℕ) (t : Temporaries) → BytesAt (text_at m.code) s.memory x place left
      → BytesAt (text_at m.code) s.memory y start right → length left ≡ length right → t 0 ≡ Some (Address x place)
      → t 1 ≡ Some (Address y start) → t 2 ≡ Some (Number (pos (length left))) → place + length left < BLOCK_LIMIT
      → start + length right < BLOCK_LIMIT → Gives (first_difference left right) 7 t
  goes [] right place start t h g e a b n l k =
      passes_back m s 7 routine has refl to line 7 t s.memory s.tape NotEqual 2 (operand.Number (pos 0)) 6 refl
      (ap (λ v. related NotEqual v (Some (Number (pos 0)))) n)
      >> ends t n
  goes (p ∷ left) [] place start t h g e a b n l k = absurd (omega arith)
  goes (p ∷ left) (q ∷ right) place start t h g e a b n l k =
      let more : suc (length left) ≡ 0 → ⊥ = λ z. omega arith in
      let same : length left ≡ length right = omega arith in
      branches_back m s 7 routine has refl to line 7 t s.memory s.tape NotEqual 2 (operand.Number (pos 0)) 6 refl
      (ap (λ v. related NotEqual v (Some (Number (pos 0)))) n ∙ ap (λ z. Some (not z))
      (ne_eqb (suc (length left)) 0 more))
      >> turns p q left right place start t h.0 h.1 g.0 g.1 a b n same l k
      (λ t' a' b' n'. goes left right (place + 1) (start + 1) t' h.2 g.2 same a' b' n' (omega arith) (omega arith))

  abbrev begun : (left : List ℕ) (place start : ℕ) → Temporaries
  begun left place start u = slice_get (Address x place ∷ Address y start ∷ Number (pos (length left)) ∷ []) u

  whole : (left right : List ℕ) (place start : ℕ) → BytesAt (text_at m.code) s.memory x place left → BytesAt
      (text_at m.code) s.memory y start right → length left ≡ length right → place + length left < BLOCK_LIMIT → start
      + length right < BLOCK_LIMIT → Gives (first_difference left right) 0 (begun left place start)
  whole [] right place start h g e l k =
      branches m s 7 routine has refl to line 0 (begun [] place start) s.memory s.tape Equal 2
      (operand.Number (pos 0)) 7 refl refl
      >> ends (begun [] place start) refl
  whole (p ∷ left) [] place start h g e l k = absurd (omega arith)
  whole (p ∷ left) (q ∷ right) place start h g e l k =
      let more : suc (length left) ≡ 0 → ⊥ = λ z. omega arith in
      let same : length left ≡ length right = omega arith in
      passes m s 7 routine has refl to line 0 (begun (p ∷ left) place start) s.memory s.tape Equal 2
      (operand.Number (pos 0)) 7 refl (ap Some (ne_eqb (suc (length left)) 0 more))
      >> turns p q left right place start (begun (p ∷ left) place start) h.0 h.1 g.0 g.1 refl refl refl same l k
      (λ t' a' b' n'. goes left right (place + 1) (start + 1) t' h.2 g.2 same a' b' n' (omega arith) (omega arith))

pub compares_bytes : ComparesBytes
compares_bytes m x place y start left right memory tape has h g e l k =
    let values : List Value = Address x place ∷ Address y start ∷ Number (pos (length left)) ∷ [] in
    does_so m 7 values memory tape (Number (first_difference left right)) memory tape (λ s fresh.
    let s1 : State = record s { memory = memory; tape = tape } in
    record {
      by = λ to line operands at o.
          a_step s1 _ (enters m s1 7 routine has refl to line operands values at o refl refl refl) >>
          (whole m s1 has fresh to line x y left right place start h g e l k);
    })
