-- Sets in a block of which the words are known: members are added, and two sets are joined.
use Rattle.std.proofs.Common.{◌≡◌, ◌⊎◌, inl, inr, ℕ, zero, suc, ◌+◌, ◌*◌, ◌/◌, ◌%◌, ◌^◌, ◌<◌, ◌≤◌, pos, Bool, true}
use Rattle.std.proofs.Common.{false, ◌&&◌, ◌||◌, nat_eq, nat_le, [], ◌∷◌, length, slice_get, Some, refl, sym, ap, ◌∙◌}
use Rattle.std.proofs.Common.{subst, arith, eqb-true, leb-true, le-leb, eq-eqb}
use Rattle.std.proofs.lemmas.Bool.{or_cases, or_left, or_right, and_from, and_parts}
use Rattle.ps_tree.specs.declared.tree.operators.SetOperator.{SetOperator}
use Rattle.tac_code.specs.declared.code.Block.{Block}
use Rattle.tac_code.specs.declared.code.Value.{Value as Word}
use Rattle.tac_code.specs.declared.code.Value.TheVariants.{Number}
use Rattle.tac_code.specs.declared.code.BitOperator.TheVariants.{Or, ShiftLeft}
use Rattle.tac_code.specs.Numbers.{bits, number_of}
use Rattle.tac_code.specs.Memory.{Words, Memory, load, store}
use Rattle.tac_code.specs.Meaning.{text_at}
use Rattle.ps_meaning.specs.Operators.{combine_sets, interval}
use Rattle.tac_code_steps.specs.Splices.{spliced}
use Rattle.tac_code_steps.proofs.Splices.{spliced_length, spliced_inside, spliced_before, spliced_behind}
use Rattle.ps_lower_code.proofs.Gaps.{same_test}
use Rattle.ps_lower_relation.specs.Here.{Setting, code_in}
use Rattle.ps_lower_relation.specs.RunTime.{JoinedUp, AddedUp, SetAt}
use Rattle.ps_lower_relation.specs.Sets.{set_number, bit_operator_of}
use Rattle.ps_lower_relation.proofs.Copies.{Holding}
use Rattle.ps_lower_relation.proofs.SetWords.{number_same, numbers_joined, bit_plain, member_added, member_elsewhere}

-- the words of a set are in a block from a place on
abbrev pub HasSet : (place : ℕ) → (ℕ → Bool) → Words → Type 0
HasSet place s ws = (q : ℕ) → q < 8 → slice_get ws (place + q) ≡ Some (Some (Number (set_number s q)))

-- only the words of a set are others
pub record Otherwise (place : ℕ) (before after : Words) : Type 0 where
  pub wide : length after ≡ length before
  pub below : (i : ℕ) → i < place → slice_get after i ≡ slice_get before i
  pub behind : (i : ℕ) → place + 8 ≤ i → slice_get after i ≡ slice_get before i

otherwise_refl : (place : ℕ) (ws : Words) → Otherwise place ws ws
otherwise_refl place ws = record { wide = refl; below = λ i l. refl; behind = λ i l. refl }

otherwise_trans : (place : ℕ) (a b c : Words) → Otherwise place a b → Otherwise place b c → Otherwise place a c
otherwise_trans place a b c x y = record {
  wide = y.wide ∙ x.wide;
  below = λ i l. y.below i l ∙ x.below i l;
  behind = λ i l. y.behind i l ∙ x.behind i l;
}

otherwise_one : (place q : ℕ) (ws : Words) (v : Word) → q < 8 → Otherwise place ws
    (spliced (place + q) (Some v ∷ []) ws)
otherwise_one place q ws v l =
    record {
      wide = spliced_length (place + q) (Some v ∷ []) ws;
      below = λ i b. spliced_before (place + q) (Some v ∷ []) ws i (omega (arith, b));
      behind = λ i b. spliced_behind (place + q) (Some v ∷ []) ws i (omega (arith, b, l));
    }

-- one word that is replaced, and the others
pub here_spliced : (k : ℕ) (ws : Words) (v : Word) → k < length ws → slice_get (spliced k (Some v ∷ []) ws) k ≡ Some
    (Some v)
here_spliced k ws v l = let z : k ≡ k + 0 = omega arith in ap (slice_get (spliced k (Some v ∷ []) ws)) z
    ∙ spliced_inside k (Some v ∷ []) ws 0 (omega arith) (omega (arith, l))

order : (i k : ℕ) → (i ≡ k → ⊥) → (i < k) ⊎ (k + 1 ≤ i)
order zero zero ne = absurd (ne refl)
order zero (suc k) ne = inl (omega arith)
order (suc i) zero ne = inr (omega arith)
order (suc i) (suc k) ne = further (order i k (λ e. ne (ap suc e)))
  where
    further : (i < k) ⊎ (k + 1 ≤ i) → (suc i < suc k) ⊎ (suc k + 1 ≤ suc i)
    further (inl a) = inl (omega (arith, a))
    further (inr a) = inr (omega (arith, a))

pub there_spliced : (k i : ℕ) (ws : Words) (v : Word) → (i ≡ k → ⊥) → slice_get (spliced k (Some v ∷ []) ws) i
    ≡ slice_get ws i
there_spliced k i ws v ne = go (order i k ne)
  where
    go : (i < k) ⊎ (k + 1 ≤ i) → slice_get (spliced k (Some v ∷ []) ws) i ≡ slice_get ws i
    go (inl a) = spliced_before k (Some v ∷ []) ws i a
    go (inr a) = spliced_behind k (Some v ∷ []) ws i a

-- ---- members that are added one after another

abbrev pub adding : (ℕ → Bool) → (n count : ℕ) → ℕ → Bool
adding s n zero k = s k
adding s n (suc count) k = adding (λ j. s j || nat_eq j n) (suc n) count k

module _ (p : Setting) (b : Block) (memory : Words → Memory) (holding : Holding p b memory) where
  pub set_at : (place o : ℕ) (s : ℕ → Bool) (ws : Words) → o ≡ 4 * place → HasSet place s ws → SetAt p (memory ws) b o s
  set_at place o s ws e h q l = let z : o + 4 * q ≡ 4 * (place + q) = omega (arith, e)
      in ap (load (text_at (code_in p)) (memory ws) b) z ∙ holding.reads ws (place + q) (Number (set_number s q))
      (h q l)

  -- members were added
  pub record Added (place o : ℕ) (s : ℕ → Bool) (n count : ℕ) (before : Words) : Type 0 where
    pub after : Words
    pub up : AddedUp p (memory before) b o n count (memory after)
    pub has : HasSet place (adding s n count) after
    pub other : Otherwise place before after

  pub adds : (count n place o : ℕ) (s : ℕ → Bool) (before : Words) → o ≡ 4 * place → place + 8 ≤ length before → n
      + count ≤ 256 → HasSet place s before → Added place o s n count before
  adds zero n place o s before e wide low h = record {
    after = before;
    up = refl;
    has = h;
    other = otherwise_refl place before;
  }
  adds (suc count) n place o s before e wide low h =
      let q = n / 32 in
      let l : q < 8 = omega (arith, low) in
      let x = set_number s q in
      let z = bits Or x (bits ShiftLeft (pos 1) (pos n)) in
      let k = place + q in
      let s' : ℕ → Bool = λ j. s j || nat_eq j n in
      let next = spliced k (Some (Number z) ∷ []) before in
      let at : o + 4 * q ≡ 4 * k = omega (arith, e) in
      let r = adds count (suc n) place o s' next e (omega (arith, wide, spliced_length k (Some (Number z) ∷ []) before))
      (omega (arith, low)) (λ i b. has_next i b (nat_eq i q) refl) in
      record {
        after = r.after;
        up = (
          x,
          memory next,
          ap (load (text_at (code_in p)) (memory before) b) at ∙ holding.reads before k (Number x)
              (h q l),
          ap (λ i. store (memory before) b i (Number z)) at ∙ holding.writes before k (Number z)
              (omega (arith, wide, l)),
          r.up,
        );
        has = r.has;
        other = otherwise_trans place before next r.after (otherwise_one place q before (Number z) l) r.other;
      }
    where
      has_next : (i : ℕ) → i < 8 → (t : Bool) → nat_eq i (n / 32) ≡ t → slice_get
          (spliced (place + n / 32) (Some (Number (bits Or (set_number s (n / 32)) (bits ShiftLeft (pos 1) (pos n))))
          ∷ []) before) (place + i) ≡ Some (Some (Number (set_number (λ j. s j || nat_eq j n) i)))
      has_next i b true t =
          let same = eqb-true i (n / 32) t in
          let v = Number (bits Or (set_number s (n / 32)) (bits ShiftLeft (pos 1) (pos n))) in
          ap (λ j. slice_get (spliced (place + n / 32) (Some v ∷ []) before) (place + j)) same
          ∙ here_spliced (place + n / 32) before v (omega (arith, wide, low))
          ∙ ap (λ y. Some (Some (Number y))) (member_added s n (omega (arith, low)))
          ∙ ap (λ j. Some (Some (Number (set_number (λ m. s m || nat_eq m n) j)))) (sym same)
      has_next i b false t =
          let v = Number (bits Or (set_number s (n / 32)) (bits ShiftLeft (pos 1) (pos n))) in
          let other : i ≡ n / 32 → ⊥ = λ q. no (sym (eq-eqb i (n / 32) q) ∙ t) in
          let apart : place + i ≡ place + n / 32 → ⊥ = λ q. other (omega (arith, q)) in
          there_spliced (place + n / 32) (place + i) before v apart ∙ h i b ∙ ap (λ y. Some (Some (Number y)))
          (sym (member_elsewhere s n i other))
        where
          no : true ≡ false → ⊥
          no q = absurd (cc q)

  -- one member in its word
  pub one_added : (n place : ℕ) (s : ℕ → Bool) (before : Words) → n < 256 → place + 8 ≤ length before
      → HasSet place s before → HasSet place (λ j. s j || nat_eq j n)
      (spliced (place + n / 32) (Some (Number (bits Or (set_number s (n / 32)) (number_of (2 ^ (n % 32))))) ∷ [])
      before)
  unfolding adds
  one_added n place s before low wide h =
      subst (λ z. HasSet place (λ j. s j || nat_eq j n)
      (spliced (place + n / 32) (Some (Number (bits Or (set_number s (n / 32)) z)) ∷ []) before)) (bit_plain n)
      (adds 1 n place (4 * place) s before refl wide (omega (arith, low)) h).has

  -- ---- two sets that are joined

  -- a set is at an address, whatever becomes of the words of this block before a place
  abbrev pub Elsewhere : (start : ℕ) → Words → Block → ℕ → (ℕ → Bool) → Type 0
  Elsewhere start ws c o t = (now : Words) → ((j : ℕ) → start ≤ j → slice_get now j ≡ slice_get ws j) → SetAt p
      (memory now) c o t

  pub record Joined (operator : SetOperator) (place o : ℕ) (c : Block) (o' : ℕ) (s t : ℕ → Bool) (q n : ℕ)
      (before : Words) : Type 0 where
    pub after : Words
    pub up : JoinedUp p (bit_operator_of operator) (memory before) b o c o' n (memory after)
    pub new : (i : ℕ) → q ≤ i → i < 8 → slice_get after (place + i) ≡ Some
        (Some (Number (set_number (combine_sets operator s t) i)))
    pub old : (i : ℕ) → i < q → slice_get after (place + i) ≡ slice_get before (place + i)
    pub other : Otherwise place before after

  joins : (operator : SetOperator) (place : ℕ) (s t : ℕ → Bool) (c : Block) (from : ℕ) (ws : Words) → Elsewhere
      (place + 8) ws c from t → (n q o o' : ℕ) (before : Words) → q + n ≡ 8 → o ≡ 4 * (place + q) → o' ≡ from + 4 * q
      → place + 8 ≤ length before → ((i : ℕ) → q ≤ i → i < 8 → slice_get before (place + i) ≡ Some
      (Some (Number (set_number s i)))) → ((j : ℕ) → place + 8 ≤ j → slice_get before j ≡ slice_get ws j)
      → Joined operator place o c o' s t q n before
  joins operator place s t c from ws there zero q o o' before total e e' wide first same =
      record {
        after = before;
        up = refl;
        new = λ i a b. absurd (omega (arith, total, a, b));
        old = λ i a. refl;
        other = otherwise_refl place before;
      }
  joins operator place s t c from ws there (suc n) q o o' before total e e' wide first same =
      let l : q < 8 = omega (arith, total) in
      let x = set_number s q in
      let y = set_number t q in
      let z = bits (bit_operator_of operator) x y in
      let k = place + q in
      let next = spliced k (Some (Number z) ∷ []) before in
      let long = spliced_length k (Some (Number z) ∷ []) before in
      let r = joins operator place s t c from ws there n (suc q) (o + 4) (o' + 4) next (omega (arith, total))
      (omega (arith, e)) (omega (arith, e')) (omega (arith, wide, long))
      (λ i a b. let ne : place + i ≡ k → ⊥ = λ m. omega (arith, a, m) in there_spliced k (place + i) before
      (Number z) ne ∙ first i (omega (arith, a)) b)
      (λ j b. let ne : j ≡ k → ⊥ = λ m. omega (arith, b, l, m) in there_spliced k j before (Number z) ne ∙ same j b) in
      record {
        after = r.after;
        up = (
          x,
          y,
          memory next,
          ap (load (text_at (code_in p)) (memory before) b) e ∙ holding.reads before k (Number x)
              (first q (omega arith) l),
          ap (load (text_at (code_in p)) (memory before) c) e'
              ∙ there before same q l,
          ap (λ i. store (memory before) b i (Number z)) e ∙ holding.writes before k
              (Number z) (omega (arith, wide, l)),
          r.up,
        );
        new = λ i a c. which r i c (order_at i a);
        old = λ i a. let ne : place + i ≡ k → ⊥ = λ m. omega (arith, a, m) in r.old i (omega (arith, a))
            ∙ there_spliced k (place + i) before (Number z) ne;
        other = otherwise_trans place before next r.after (otherwise_one place q before (Number z) l) r.other;
      }
    where
      order_at : (i : ℕ) → q ≤ i → (i ≡ q) ⊎ (suc q ≤ i)
      order_at i a = go (nat_eq i q) refl
        where
          go : (t : Bool) → nat_eq i q ≡ t → (i ≡ q) ⊎ (suc q ≤ i)
          go true m = inl (eqb-true i q m)
          go false m = inr (above (order i q (λ u. no (sym (eq-eqb i q u) ∙ m))))
            where
              no : true ≡ false → ⊥
              no u = absurd (cc u)

              above : (i < q) ⊎ (q + 1 ≤ i) → suc q ≤ i
              above (inl u) = absurd (omega (arith, u, a))
              above (inr u) = omega (arith, u)

      which : (r : Joined operator place (o + 4) c (o' + 4) s t (suc q) n
          (spliced (place + q) (Some (Number (bits (bit_operator_of operator) (set_number s q) (set_number t q))) ∷ [])
          before)) (i : ℕ) → i < 8 → (i ≡ q) ⊎ (suc q ≤ i) → slice_get r.after (place + i) ≡ Some
          (Some (Number (set_number (combine_sets operator s t) i)))
      which r i c (inr a) = r.new i a c
      which r i c (inl a) =
          let v = Number (bits (bit_operator_of operator) (set_number s q) (set_number t q)) in
          r.old i (omega (arith, a))
          ∙ ap (λ j. slice_get (spliced (place + q) (Some v ∷ []) before) (place + j)) a
          ∙ here_spliced (place + q) before v (omega (arith, wide, c, a))
          ∙ ap (λ y. Some (Some (Number y))) (numbers_joined operator s t q)
          ∙ ap (λ j. Some (Some (Number (set_number (combine_sets operator s t) j)))) (sym a)

  pub record JoinedSet (operator : SetOperator) (place o : ℕ) (c : Block) (o' : ℕ) (s t : ℕ → Bool) (before : Words)
      : Type 0 where
    pub after : Words
    pub up : JoinedUp p (bit_operator_of operator) (memory before) b o c o' 8 (memory after)
    pub has : HasSet place (combine_sets operator s t) after
    pub other : Otherwise place before after

  pub joins_sets : (operator : SetOperator) (place o : ℕ) (c : Block) (o' : ℕ) (s t : ℕ → Bool) (before : Words) → place
      + 8 ≤ length before → o ≡ 4 * place → HasSet place s before → Elsewhere (place + 8) before c o' t
      → JoinedSet operator place o c o' s t before
  joins_sets operator place o c o' s t before wide e first there =
      let r = joins operator place s t c o' before there 8 0 o o' before (omega arith) (omega (arith, e))
      (omega arith) wide (λ i a b. first i b) (λ j b. refl) in
      record { after = r.after; up = r.up; has = λ i b. r.new i (omega arith) b; other = r.other }

-- ---- what was added is an interval

-- from n to n + m
between_naturals : (n m k : ℕ) → n ≤ k → k ≤ n + m → (nat_le n k && nat_le k (n + m)) ≡ true
between_naturals n m k a b = and_from (nat_le n k) (nat_le k (n + m)) (le-leb n k a) (le-leb k (n + m) b)

pub adding_interval : (m n k : ℕ) (s : ℕ → Bool) → adding s n (suc m) k ≡ (s k || interval (pos n) (pos (n + m)) k)
adding_interval zero n k s = ap (λ b. s k || b)
    (same_test (nat_eq k n) (nat_le n k && nat_le k (n + 0))
    (λ e. let q = eqb-true k n e in between_naturals n 0 k (omega (arith, q)) (omega (arith, q)))
    (λ e. let c = and_parts (nat_le n k) (nat_le k (n + 0)) e in let a = leb-true n k c.0 in let b = leb-true k
    (n + 0) c.1 in eq-eqb k n (omega (arith, a, b))))
adding_interval (suc m) n k s =
    adding_interval m (suc n) k (λ j. s j || nat_eq j n)
    ∙ same_test ((s k || nat_eq k n) || (nat_le (suc n) k && nat_le k (suc n + m)))
    (s k || (nat_le n k && nat_le k (n + suc m)))
    (λ e. to (or_cases (s k || nat_eq k n) (nat_le (suc n) k && nat_le k (suc n + m)) e))
    (λ e. from (or_cases (s k) (nat_le n k && nat_le k (n + suc m)) e))
  where
    inside : Bool
    inside = nat_le n k && nat_le k (n + suc m)

    later : (s k ≡ true) ⊎ (nat_eq k n ≡ true) → (s k || (nat_le n k && nat_le k (n + suc m))) ≡ true
    later (inl e) = or_left (s k) inside e
    later (inr e) = let q = eqb-true k n e in or_right (s k) inside
        (between_naturals n (suc m) k (omega (arith, q)) (omega (arith, q)))

    to : ((s k || nat_eq k n) ≡ true) ⊎ ((nat_le (suc n) k && nat_le k (suc n + m)) ≡ true)
        → (s k || (nat_le n k && nat_le k (n + suc m))) ≡ true
    to (inl e) = later (or_cases (s k) (nat_eq k n) e)
    to (inr e) =
        let c = and_parts (nat_le (suc n) k) (nat_le k (suc n + m)) e in
        let a = leb-true (suc n) k c.0 in
        let b = leb-true k (suc n + m) c.1 in
        or_right (s k) inside (between_naturals n (suc m) k (omega (arith, a)) (omega (arith, b)))

    all : Bool
    all = nat_le (suc n) k && nat_le k (suc n + m)

    from : (s k ≡ true) ⊎ ((nat_le n k && nat_le k (n + suc m)) ≡ true)
        → ((s k || nat_eq k n) || (nat_le (suc n) k && nat_le k (suc n + m))) ≡ true
    from (inl e) = or_left (s k || nat_eq k n) all (or_left (s k) (nat_eq k n) e)
    from (inr e) = go (nat_eq k n) refl
      where
        go : (t : Bool) → nat_eq k n ≡ t → ((s k || nat_eq k n) || (nat_le (suc n) k && nat_le k (suc n + m))) ≡ true
        go true q = or_left (s k || nat_eq k n) all (or_right (s k) (nat_eq k n) q)
        go false q =
            let c = and_parts (nat_le n k) (nat_le k (n + suc m)) e in
            let a = leb-true n k c.0 in
            let b = leb-true k (n + suc m) c.1 in
            let ne : k ≡ n → ⊥ = λ u. no (sym (eq-eqb k n u) ∙ q) in
            or_right (s k || nat_eq k n) all (and_from (nat_le (suc n) k) (nat_le k (suc n + m))
            (le-leb (suc n) k (above (order k n ne) a)) (le-leb k (suc n + m) (omega (arith, b))))
          where
            no : true ≡ false → ⊥
            no u = absurd (cc u)

            above : (k < n) ⊎ (n + 1 ≤ k) → n ≤ k → suc n ≤ k
            above (inl u) a = absurd (omega (arith, u, a))
            above (inr u) a = omega (arith, u)

-- a set's words by what its members are
pub has_same : (place : ℕ) (s t : ℕ → Bool) (ws : Words) → ((k : ℕ) → s k ≡ t k) → HasSet place s ws → HasSet place t ws
has_same place s t ws same h q l = h q l ∙ ap (λ y. Some (Some (Number y)))
    (number_same s t q (λ i b. same (32 * q + i)))
