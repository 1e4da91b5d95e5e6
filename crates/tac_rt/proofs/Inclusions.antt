-- Whether a set is included in another, word by word.
use Rattle.std.proofs.Common.{◌≡◌, ℕ, suc, ◌+◌, ◌*◌, ◌<◌, ℤ, pos, Bool, true, false, not, if◌then◌else◌, List, [], ◌∷◌}
use Rattle.std.proofs.Common.{length, slice_get, Some, refl, sym, ap, ◌∙◌, subst, arith}
use Rattle.std.proofs.lemmas.Bool.{ne_eqb}
use Rattle.tac_code.specs.declared.code.Block.{Block}
use Rattle.tac_code.specs.declared.code.Value.{Value}
use Rattle.tac_code.specs.declared.code.Value.TheVariants.{Number, Address}
use Rattle.tac_code.specs.declared.code.Operand.TheVariants as operand
use Rattle.tac_code.specs.declared.code.Relation.TheVariants.{NotEqual}
use Rattle.tac_code.specs.declared.code.TacRoutine.{TacRoutine}
use Rattle.tac_code.specs.declared.code.BitOperator.TheVariants.{AndNot}
use Rattle.tac_code.specs.Numbers.{bits, truth, same_number}
use Rattle.tac_code.specs.Memory.{load}
use Rattle.tac_code.specs.Meaning.{Temporaries, put, State, text_at, related}
use Rattle.tac_code.specs.declared.code.TheConstants.{BLOCK_LIMIT}
use Rattle.tac_code_steps.specs.Runs.{Machine, Comes}
use Rattle.tac_code_steps.proofs.Runs.{a_step, ◌>>◌}
use Rattle.tac_rt.specs.declared.sets.TheConstants.{IS_INCLUDED}
use Rattle.tac_rt.specs.Bodies.{routine_of}
use Rattle.tac_rt.specs.Calls.{HasRoutines}
use Rattle.tac_rt.specs.Laws.{WordsAt, is_included, IncludesSets}
use Rattle.tac_rt.proofs.Blocks.{IsFresh}
use Rattle.tac_rt.proofs.Inside.{back, does_so, here_at, enters, returns, literal, counts, joins, offsets, loads}
use Rattle.tac_rt.proofs.Inside.{branches, passes, branches_back, passes_back}

abbrev routine : TacRoutine
routine = routine_of 2 5 IS_INCLUDED

module _ (m : Machine) (s : State) (has : HasRoutines m) (fresh : IsFresh s.count s.memory) (to line : ℕ)
    (x y : Block) where
  abbrev at_place : ℕ → Temporaries → State
  at_place pc t = here_at m s 5 routine has refl to line pc t s.memory s.tape

  abbrev Gives : Bool → ℕ → Temporaries → Type 0
  Gives holds pc t = Comes m (at_place pc t) (back s to (Number (truth holds)) s.memory s.tape)

  here : (o : ℕ) → o + 0 ≡ o
  here o = omega arith

  -- one word, from the top of the loop on
  turns : (p q : ℤ) (left right : List ℤ) (place start : ℕ) (t : Temporaries) → load (text_at m.code) s.memory x place
      ≡ Some (Number p) → load (text_at m.code) s.memory y start ≡ Some (Number q) → t 0 ≡ Some (Address x place) → t 1
      ≡ Some (Address y start) → t 2 ≡ Some (Number (pos (suc (length left)))) → length left < 8 → place
      + 4 < BLOCK_LIMIT → start + 4 < BLOCK_LIMIT
      → ((t' : Temporaries) → t' 0 ≡ Some (Address x (place + 4)) → t' 1 ≡ Some (Address y (start + 4)) → t' 2 ≡ Some
      (Number (pos (length left))) → Gives (is_included left right) 8 t') → Gives
      (is_included (p ∷ left) (q ∷ right)) 1 t
  turns p q left right place start t first second a b n few l k rest =
      let t1 : Temporaries = put t 3 (Number p) in
      let t2 : Temporaries = put t1 4 (Number q) in
      loads m s 5 routine has refl to line 1 t s.memory s.tape 3 0 0 x place (Number p) refl a fresh
      (ap (load (text_at m.code) s.memory x) (here place) ∙ first)
      >> loads m s 5 routine has refl to line 2 t1 s.memory s.tape 4 1 0 y start (Number q) refl b fresh
      (ap (load (text_at m.code) s.memory y) (here start) ∙ second)
      >> joins m s 5 routine has refl to line 3 t2 s.memory s.tape AndNot 3 3 (operand.Temporary 4) p q refl refl refl
      >> go (same_number (bits AndNot p q) (pos 0)) refl
    where
      go : (z : Bool) → same_number (bits AndNot p q) (pos 0) ≡ z → Gives
          (if same_number (bits AndNot p q) (pos 0) then is_included left right else false) 4
          (put (put (put t 3 (Number p)) 4 (Number q)) 3 (Number (bits AndNot p q)))
      go true z =
          let t3 : Temporaries = put (put (put t 3 (Number p)) 4 (Number q)) 3 (Number (bits AndNot p q)) in
          let t4 : Temporaries = put t3 0 (Address x (place + 4)) in
          let t5 : Temporaries = put t4 1 (Address y (start + 4)) in
          let t6 : Temporaries = put t5 2 (Number (pos (length left))) in
          subst (λ c. Gives (if c then is_included left right else false) 4 t3) (sym z)
          (passes m s 5 routine has refl to line 4 t3 s.memory s.tape NotEqual 3 (operand.Number (pos 0)) 6 refl
          (ap (λ c. Some (not c)) z)
          >> offsets m s 5 routine has refl to line 5 t3 s.memory s.tape 0 0 4 x place refl a l
          >> offsets m s 5 routine has refl to line 6 t4 s.memory s.tape 1 1 4 y start refl b k
          >> counts m s 5 routine has refl to line 7 t5 s.memory s.tape 2 (suc (length left)) (length left) 0 refl n
          (omega arith) (omega arith)
          >> rest t6 refl refl refl)
      go false z =
          let t3 : Temporaries = put (put (put t 3 (Number p)) 4 (Number q)) 3 (Number (bits AndNot p q)) in
          subst (λ c. Gives (if c then is_included left right else false) 4 t3) (sym z)
          (branches m s 5 routine has refl to line 4 t3 s.memory s.tape NotEqual 3 (operand.Number (pos 0)) 6 refl
          (ap (λ c. Some (not c)) z)
          >> literal m s 5 routine has refl to line 11 t3 s.memory s.tape 2 (pos 0) refl
          >> a_step _ _ (returns m s 5 routine has refl to line 12 (put t3 2 (Number (pos 0))) s.memory s.tape 2
          (Number (pos 0)) refl refl))

  -- from the test at the loop's bottom on
  ends : (left right : List ℤ) (place start : ℕ) (t : Temporaries) → WordsAt (text_at m.code) s.memory x place left
      → WordsAt (text_at m.code) s.memory y start right → length left ≡ length right → t 0 ≡ Some (Address x place)
      → t 1 ≡ Some (Address y start) → t 2 ≡ Some (Number (pos (length left))) → length left < 9 → place
      + 4 * length left < BLOCK_LIMIT → start + 4 * length left < BLOCK_LIMIT → Gives (is_included left right) 8 t
  ends [] right place start t h g e a b n few l k =
      passes_back m s 5 routine has refl to line 8 t s.memory s.tape NotEqual 2 (operand.Number (pos 0)) 7 refl
      (ap (λ v. related NotEqual v (Some (Number (pos 0)))) n)
      >> literal m s 5 routine has refl to line 9 t s.memory s.tape 2 (pos 1) refl
      >> a_step _ _ (returns m s 5 routine has refl to line 10 (put t 2 (Number (pos 1))) s.memory s.tape 2
      (Number (pos 1)) refl refl)
  ends (p ∷ left) [] place start t h g e a b n few l k = absurd (omega arith)
  ends (p ∷ left) (q ∷ right) place start t h g e a b n few l k =
      let more : suc (length left) ≡ 0 → ⊥ = λ z. omega arith in
      let same : length left ≡ length right = omega arith in
      branches_back m s 5 routine has refl to line 8 t s.memory s.tape NotEqual 2 (operand.Number (pos 0)) 7 refl
      (ap (λ v. related NotEqual v (Some (Number (pos 0)))) n ∙ ap (λ z. Some (not z))
      (ne_eqb (suc (length left)) 0 more))
      >> turns p q left right place start t h.0 g.0 a b n (omega arith) (omega arith) (omega arith)
      (λ t' a' b' n'. ends left right (place + 4) (start + 4) t' h.1 g.1 same a' b' n' (omega arith) (omega arith)
      (omega arith))

  all_words : (left right : List ℤ) (place start : ℕ) → WordsAt (text_at m.code) s.memory x place left → WordsAt
      (text_at m.code) s.memory y start right → length left ≡ 8 → length right ≡ 8 → place + 32 < BLOCK_LIMIT → start
      + 32 < BLOCK_LIMIT → Gives (is_included left right) 0 (λ u. slice_get (Address x place ∷ Address y start ∷ []) u)
  all_words [] right place start h g e f l k = absurd (omega arith)
  all_words (p ∷ left) [] place start h g e f l k = absurd (omega arith)
  all_words (p ∷ left) (q ∷ right) place start h g e f l k =
      let values : List Value = Address x place ∷ Address y start ∷ [] in
      let same : length left ≡ length right = omega arith in
      let eight : 8 ≡ suc (length left) = omega arith in
      literal m s 5 routine has refl to line 0 (λ u. slice_get values u) s.memory s.tape 2 (pos 8) refl
      >> turns p q left right place start (put (λ u. slice_get values u) 2 (Number (pos 8))) h.0 g.0 refl refl
      (ap (λ z. Some (Number (pos z))) eight) (omega arith) (omega arith) (omega arith)
      (λ t' a' b' n'. ends left right (place + 4) (start + 4) t' h.1 g.1 same a' b' n' (omega arith) (omega arith)
      (omega arith))

pub includes_sets : IncludesSets
includes_sets m x place y start left right memory tape has h g e f l k =
    let values : List Value = Address x place ∷ Address y start ∷ [] in
    does_so m 5 values memory tape (Number (truth (is_included left right))) memory tape (λ s fresh.
    let s1 : State = record s { memory = memory; tape = tape } in
    record {
      by = λ to line operands at o.
          a_step s1 _ (enters m s1 5 routine has refl to line operands values at o refl refl refl) >>
          (all_words m s1 has fresh to line x y left right place start h g e f l k);
    })
