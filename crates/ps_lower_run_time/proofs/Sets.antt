-- Sets: the laws of their routines, in the lowering's words.
use Rattle.std.proofs.Common.{◌≡◌, ℕ, zero, suc, ◌+◌, ◌*◌, ◌/◌, ◌%◌, ◌<◌, ◌≤◌, ℤ, pos, negsuc, Bool, true, false, not}
use Rattle.std.proofs.Common.{◌&&◌, ◌||◌, nat_eq, nat_lt, if◌then◌else◌, List, [], ◌∷◌, refl, sym, ap, ◌∙◌, subst}
use Rattle.std.proofs.Common.{arith, eqb-true, eq-eqb, ltb-false, ltb-true, lt-ltb}
use Rattle.ps_tree.specs.declared.tree.operators.SetOperator.{SetOperator}
use Rattle.ps_tree.specs.declared.tree.operators.SetOperator.TheVariants.{Union, Difference, Intersection}
use Rattle.tac_code.specs.declared.code.Block.{Block}
use Rattle.tac_code.specs.declared.code.BitOperator.TheVariants.{AndNot}
use Rattle.tac_code.specs.declared.code.Value.TheVariants.{Number, Address}
use Rattle.tac_code.specs.Memory.{Memory, load}
use Rattle.tac_code.specs.Meaning.{Tape, text_at}
use Rattle.tac_code.specs.Numbers.{bits, truth, same_number}
use Rattle.tac_code.specs.declared.code.TheConstants.{BLOCK_LIMIT}
use Rattle.ps_meaning.specs.Operators.{combine_sets, all_below, is_included, is_member}
use Rattle.tac_code_steps.specs.Routines.{Does}
use Rattle.tac_rt.specs.declared.run_time.RunTime.TheVariants as routine
use Rattle.tac_rt.specs.Numbers.{run_time_number}
use Rattle.ps_lower_code.specs.Values.{set_routine}
use Rattle.tac_rt.specs.Bodies.{run_time_routines}
use Rattle.tac_rt.specs.Laws.{JoinedUp, AddedUp, WordsAt, is_included as are_included}
use Rattle.tac_rt.proofs.Additions.{adds_members}
use Rattle.tac_rt.proofs.Joins.{joined_sets}
use Rattle.tac_rt.proofs.Inclusions.{includes_sets}
use Rattle.tac_rt.proofs.Members.{finds_members}
use Rattle.ps_lower_code.proofs.Gaps.{same_test}
use Rattle.ps_lower_relation.specs.Here.{Setting, machine_of, code_in}
use Rattle.ps_lower_relation.specs.RunTime.{JoinedUp as AreJoined, AddedUp as AreAdded, SetAt, SetsDo}
use Rattle.ps_lower_relation.specs.Sets.{set_number, bit_operator_of}
use Rattle.ps_lower_relation.proofs.SetWords.{numbers_joined, none_in_zero, zero_with_none, member_found}

-- ---- a test of each number

below_all : (n : ℕ) (test : ℕ → Bool) → all_below n test ≡ true → (k : ℕ) → k < n → test k ≡ true
unfolding all_below
below_all zero test e k l = absurd (omega (arith, l))
below_all (suc n) test e k l = go (test n) refl e (nat_eq k n) refl (λ h. below_all n test h k)
  where
    go : (b : Bool) → test n ≡ b → (b && all_below n test) ≡ true → (z : Bool) → nat_eq k n ≡ z
        → (all_below n test ≡ true → k < n → test k ≡ true) → test k ≡ true
    go false t h z q r = absurd (cc h)
    go true t h true q r = ap test (eqb-true k n q) ∙ t
    go true t h false q r = r h (smaller (λ u. no (sym (eq-eqb k n u) ∙ q)))
      where
        no : true ≡ false → ⊥
        no u = absurd (cc u)

        smaller : (k ≡ n → ⊥) → k < n
        smaller u = which (nat_lt k n) refl
          where
            which : (b : Bool) → nat_lt k n ≡ b → k < n
            which true h = ltb-true k n h
            which false h = let s = ltb-false k n h in absurd (u (omega (arith, s, l)))

all_from : (n : ℕ) (test : ℕ → Bool) → ((k : ℕ) → k < n → test k ≡ true) → all_below n test ≡ true
unfolding all_below
all_from zero test h = refl
all_from (suc n) test h = ap (λ b. b && all_below n test) (h n (omega arith)) ∙ all_from n test
    (λ k l. h k (omega (arith, l)))

-- ---- words that are compared

abbrev numbers_from : (n q : ℕ) → (ℕ → Bool) → List ℤ
numbers_from zero q s = []
numbers_from (suc n) q s = set_number s q ∷ numbers_from n (suc q) s

module _ (p : Setting) (m : Memory) (b : Block) (o : ℕ) (s : ℕ → Bool) (at : SetAt p m b o s) where
  words_at : (n q place : ℕ) → q + n ≤ 8 → place ≡ o + 4 * q → WordsAt (text_at (code_in p)) m b place
      (numbers_from n q s)
  words_at zero q place l e = tt
  words_at (suc n) q place l e = (
    ap (load (text_at (code_in p)) m b) e ∙ at q (omega (arith, l)),
    words_at n (suc q)
        (place + 4) (omega (arith, l)) (omega (arith, e)),
  )

module _ (s t : ℕ → Bool) where
  -- no member of word q of the one is missing in the other's
  abbrev nothing_missing : ℕ → Bool
  nothing_missing q = same_number (bits AndNot (set_number s q) (set_number t q)) (pos 0)

  none_missing : (n q : ℕ) → are_included (numbers_from n q s) (numbers_from n q t) ≡ true → (j : ℕ) → q ≤ j → j < q + n
      → nothing_missing j ≡ true
  none_missing zero q e j a l = absurd (omega (arith, a, l))
  none_missing (suc n) q e j a l = go (nothing_missing q) refl e (nat_eq j q) refl (λ h. none_missing n (suc q) h j)
    where
      go : (b : Bool) → nothing_missing q ≡ b → (if b then are_included (numbers_from n (suc q) s)
          (numbers_from n (suc q) t) else false) ≡ true → (z : Bool) → nat_eq j q ≡ z
          → (are_included (numbers_from n (suc q) s) (numbers_from n (suc q) t) ≡ true → suc q ≤ j → j < suc q + n
          → nothing_missing j ≡ true) → nothing_missing j ≡ true
      go false h e z x r = absurd (cc e)
      go true h e true x r = ap nothing_missing (eqb-true j q x) ∙ h
      go true h e false x r = r e (above (λ u. no (sym (eq-eqb j q u) ∙ x))) (omega (arith, l))
        where
          no : true ≡ false → ⊥
          no u = absurd (cc u)

          above : (j ≡ q → ⊥) → suc q ≤ j
          above u = which (nat_lt q j) refl
            where
              which : (b : Bool) → nat_lt q j ≡ b → suc q ≤ j
              which true h = let y = ltb-true q j h in omega (arith, y)
              which false h = let y = ltb-false q j h in absurd (u (omega (arith, y, a)))

  all_there : (n q : ℕ) → ((j : ℕ) → q ≤ j → j < q + n → nothing_missing j ≡ true) → are_included (numbers_from n q s)
      (numbers_from n q t) ≡ true
  all_there zero q h = refl
  all_there (suc n) q h = ap (λ b. if b then are_included (numbers_from n (suc q) s) (numbers_from n (suc q) t)
      else false) (h q (omega arith) (omega arith)) ∙ all_there n (suc q)
      (λ j a l. h j (omega (arith, a)) (omega (arith, l)))

  implied : (x y : Bool) → (x && not y) ≡ false → (not x || y) ≡ true
  implied true true e = refl
  implied true false e = absurd (cc e)
  implied false y e = refl

  not_without : (x y : Bool) → (not x || y) ≡ true → (x && not y) ≡ false
  not_without true true e = refl
  not_without true false e = absurd (cc e)
  not_without false y e = refl

  missing_same : (q : ℕ) → nothing_missing q ≡ same_number (set_number (combine_sets Difference s t) q) (pos 0)
  missing_same q = ap (λ z. same_number z (pos 0)) (numbers_joined Difference s t q)

  inclusion : are_included (numbers_from 8 0 s) (numbers_from 8 0 t) ≡ is_included s t
  inclusion =
      same_test (are_included (numbers_from 8 0 s) (numbers_from 8 0 t)) (is_included s t)
      (λ e. all_from 256 (λ k. not (s k) || t k) (λ k l. member_of e k l))
      (λ e. all_there 8 0 (λ j a l. missing_same j ∙ zero_with_none (combine_sets Difference s t) j
      (λ i b. not_without (s (32 * j + i)) (t (32 * j + i))
      (below_all 256 (λ k. not (s k) || t k) e (32 * j + i) (omega (arith, l, b))))))
    where
      member_of : are_included (numbers_from 8 0 s) (numbers_from 8 0 t) ≡ true → (k : ℕ) → k < 256 → (not (s k) || t k)
          ≡ true
      member_of e k l =
          let q = k / 32 in
          let i = k % 32 in
          let is : 32 * q + i ≡ k = omega arith in
          let zero_word = sym (missing_same q) ∙ none_missing 8 0 e q (omega arith) (omega (arith, l)) in
          subst (λ j. (not (s j) || t j) ≡ true) is
          (implied (s (32 * q + i)) (t (32 * q + i))
          (none_in_zero (combine_sets Difference s t) q zero_word i (omega arith)))

-- ---- what is done

module _ (p : Setting) (has : p.run_time ≡ run_time_routines) where
  added_same : (b : Block) (o count n : ℕ) (before after : Memory) → AreAdded p before b o n count after → AddedUp
      (text_at (code_in p)) before b o n count after
  added_same b o zero n before after h = h
  added_same b o (suc count) n before after h = (h.0, h.1, h.2, h.3, added_same b o count (suc n) h.1 after h.4)

  joined_same : (operator : SetOperator) (to from : Block) (count place start : ℕ) (before after : Memory) → AreJoined p
      (bit_operator_of operator) before to place from start count after → JoinedUp (bit_operator_of operator)
      (text_at (code_in p)) before to place from start count after
  joined_same operator to from zero place start before after h = h
  joined_same operator to from (suc count) place start before after h =
      (h.0, h.1, h.2, h.3, h.4, h.5, joined_same operator to from count (place + 4) (start + 4) h.2 after h.6)

  joins : (operator : SetOperator) (to : Block) (place : ℕ) (from : Block) (start : ℕ) (before after : Memory)
      (tape : Tape) → AreJoined p (bit_operator_of operator) before to place from start 8 after → place
      + 32 < BLOCK_LIMIT → start + 32 < BLOCK_LIMIT → Does (machine_of p) (run_time_number (set_routine operator))
      (Address to place ∷ Address from start ∷ []) before tape (Number (pos 0)) after tape
  joins Union to place from start before after tape h l r = joined_sets.union
      (machine_of p) to place from start before after tape has
      (joined_same Union to from 8 place start before after h) l r
  joins Difference to place from start before after tape h l r = joined_sets.difference
      (machine_of p) to place from start before after tape has
      (joined_same Difference to from 8 place start before after h) l r
  joins Intersection to place from start before after tape h l r = joined_sets.intersection
      (machine_of p) to place from start before after tape has
      (joined_same Intersection to from 8 place start before after h) l r

  and_false : (b : Bool) → (b && false) ≡ false
  and_false true = refl
  and_false false = refl

  member : (x : ℤ) (b : Block) (o : ℕ) (s : ℕ → Bool) (memory : Memory) (tape : Tape) → SetAt p memory b o s → o
      + 32 < BLOCK_LIMIT → Does (machine_of p) (run_time_number routine.IsMember) (Number x ∷ Address b o ∷ []) memory
      tape (Number (truth (is_member x s))) memory tape
  member (negsuc n) b o s memory tape at l = finds_members.outside (machine_of p) (negsuc n) b o memory tape has refl
  member (pos n) b o s memory tape at l = go (nat_lt n 256) refl
    where
      go : (z : Bool) → nat_lt n 256 ≡ z → Does (machine_of p) (run_time_number routine.IsMember)
          (Number (pos n) ∷ Address b o ∷ []) memory tape (Number (truth (z && s n))) memory tape
      go true e =
          let low = ltb-true n 256 e in
          subst (λ v. Does (machine_of p) (run_time_number routine.IsMember) (Number (pos n) ∷ Address b o ∷ []) memory
          tape (Number (truth v)) memory tape) (member_found s n low)
          (finds_members.inside (machine_of p) n b o (set_number s (n / 32)) memory tape has low
          (at (n / 32) (omega (arith, low))) l)
      go false e =
          let high = ltb-false n 256 e in
          finds_members.outside (machine_of p) (pos n) b o memory tape has
          (ap (λ z. not (nat_lt n 0) && not z) (lt-ltb 255 n (omega (arith, high))) ∙ and_false (not (nat_lt n 0)))

  pub sets_do : SetsDo p
  sets_do = record {
    nothing = λ x y b o memory tape above. adds_members.none (machine_of p) x y b o memory tape has above;
    added = λ n count b o before after tape low h l. adds_members.some
        (machine_of p) n count b o before after tape has low (added_same b o (suc count) n before after h) l;
    joined = joins;
    included = λ b o b' o' s t memory tape at at' l l'.
        subst (λ v. Does (machine_of p) (run_time_number routine.IsIncluded) (Address b o ∷ Address b' o' ∷ []) memory
        tape (Number (truth v)) memory tape)
        (inclusion s t)
        (includes_sets (machine_of p) b o b' o' (numbers_from 8 0 s) (numbers_from 8 0 t) memory tape has
        (words_at p memory b o s at 8 0 o (omega arith) (omega arith))
        (words_at p memory b' o' t at' 8 0 o' (omega arith) (omega arith)) refl refl l l');
    member = member;
  }
