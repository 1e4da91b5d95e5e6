-- What a table of depths tells of paths: the depth of a routine is what it and the routines that it calls, one within
-- another, take at most. A routine that comes to itself has none.
use Rattle.std.proofs.Common.{◌≡◌, ◌⊎◌, inl, inr, ℕ, zero, suc, ◌+◌, ◌≤◌, ◌<◌, List, [], ◌∷◌, get_or, sum_by, Option}
use Rattle.std.proofs.Common.{Some, refl, arith}
use Rattle.std.proofs.lemmas.List.Sums.{sum_by-cons}
use Rattle.ps_tree.specs.Tree.{Program}
use Rattle.ps_needs_least.specs.Paths.{MayCall, Path, program_block, call_within, HoldsAll}
use Rattle.ps_needs_least.specs.Least.{IsLeast, HasNoBound}

abbrev pub price : List ℕ → ℕ → ℕ
price F r = get_or F r 0

abbrev pub spent : List ℕ → List ℕ → ℕ
spent F rs = sum_by (λ r. get_or F r 0) rs

grown : (F : List ℕ) (r : ℕ) (rest : List ℕ) → spent F (r ∷ rest) ≡ price F r + spent F rest
grown F r rest = sum_by-cons (λ q. get_or F q 0) r rest

pub record Depths (program : Program) (F : List ℕ) (depth : ℕ → Option ℕ) : Type 0 where
  pub own : (r d : ℕ) → depth r ≡ Some d → price F r ≤ d
  -- every routine that it calls has a depth, and there is room for it
  pub calls : (r s d : ℕ) → depth r ≡ Some d → MayCall program r s → (e : ℕ) × (depth s ≡ Some e) × (price F r + e ≤ d)
  -- it is the frame alone, or one of the calls takes all of it
  pub taken : (r d : ℕ) → depth r ≡ Some d → (d ≡ price F r)
      ⊎ ((s e : ℕ) × MayCall program r s × (depth s ≡ Some e) × (price F r + e ≡ d))

module _ (program : Program) (F : List ℕ) where
  module _ (depth : ℕ → Option ℕ) (depths : Depths program F depth) (S : ℕ) (begins : depth 0 ≡ Some S) where
    path_bounded : (rs : List ℕ) → Path program rs → (d : ℕ) × (depth (get_or rs 0 0) ≡ Some d)
        × (spent F rs + d ≤ S + price F (get_or rs 0 0))
    path_bounded _ program_block = let one = grown F 0 [] in let total : spent F (0 ∷ []) + S ≤ S + price F 0 = omega
        (arith, one) in (S, begins, total)
    path_bounded _ (call_within r s rest path may) =
        let before = path_bounded (r ∷ rest) path in
        let next = depths.calls r s before.0 before.1 may in
        let l : spent F (r ∷ rest) + before.0 ≤ S + price F r = before.2 in
        let m = next.2 in
        let longer = grown F s (r ∷ rest) in
        let total : spent F (s ∷ r ∷ rest) + next.0 ≤ S + price F s = omega (arith, l, m, longer) in
        (next.0, next.1, total)

    -- the depth of the program block holds all paths
    pub depth_holds : HoldsAll program F S
    depth_holds rs path =
        let b = path_bounded rs path in
        let l = b.2 in
        let m = depths.own (get_or rs 0 0) b.0 b.1 in
        omega (arith, l, m)

    module _ (frames : (r s : ℕ) → MayCall program r s → 1 ≤ price F r) where
      taken_below : (n r : ℕ) (rest : List ℕ) (d : ℕ) → Path program (r ∷ rest) → depth r ≡ Some d → d ≤ n
          → (rs : List ℕ) × Path program rs × (spent F rs ≡ spent F rest + d)
      taken_below zero r rest d path e l = none (depths.taken r d e)
        where
          none : (d ≡ price F r) ⊎ ((s f : ℕ) × MayCall program r s × (depth s ≡ Some f) × (price F r + f ≡ d))
              → (rs : List ℕ) × Path program rs × (spent F rs ≡ spent F rest + d)
          none (inl is) = let one = grown F r rest in let sum : spent F (r ∷ rest) ≡ spent F rest + d = omega
              (arith, is, one) in (r ∷ rest, path, sum)
          none (inr c) = let some = frames r c.0 c.2 in let is = c.4 in absurd (omega (arith, l, some, is))
      taken_below (suc n) r rest d path e l = go (depths.taken r d e)
          (λ s f may is m. taken_below n s (r ∷ rest) f (call_within r s rest path may) is m)
        where
          go : (d ≡ price F r) ⊎ ((s f : ℕ) × MayCall program r s × (depth s ≡ Some f) × (price F r + f ≡ d))
              → ((s f : ℕ) → MayCall program r s → depth s ≡ Some f → f ≤ n → (rs : List ℕ) × Path program rs
              × (spent F rs ≡ spent F (r ∷ rest) + f)) → (rs : List ℕ) × Path program rs
              × (spent F rs ≡ spent F rest + d)
          go (inl is) k = let one = grown F r rest in let sum : spent F (r ∷ rest) ≡ spent F rest + d = omega
              (arith, is, one) in (r ∷ rest, path, sum)
          go (inr c) k =
              let some = frames r c.0 c.2 in
              let is = c.4 in
              let below = k c.0 c.1 c.2 c.3 (omega (arith, l, some, is)) in
              let one = grown F r rest in
              let sum = below.2 in
              (below.0, below.1, omega (arith, sum, is, one))

      -- and one path takes all of it
      pub depth_is_least : IsLeast program F S
      depth_is_least = let taken = taken_below S 0 [] S program_block begins (omega arith) in let none : spent F []
          ≡ 0 = refl in let sum = taken.2 in (depth_holds, (taken.0, taken.1, omega (arith, sum, none)))

  -- where the program block is one of the routines that call one of themselves, there is no end
  module _ (Endless : ℕ → Type 0) (frames : (r : ℕ) → Endless r → 1 ≤ price F r) (begins : Endless 0)
      (next : (r : ℕ) → Endless r → (s : ℕ) × MayCall program r s × Endless s) where
    longer : (k : ℕ) → (r : ℕ) × (rest : List ℕ) × Path program (r ∷ rest) × Endless r × (k < spent F (r ∷ rest))
    longer zero = let some = frames 0 begins in let one = grown F 0 [] in let l : 0 < spent F (0 ∷ []) = omega
        (arith, some, one) in (0, [], program_block, begins, l)
    longer (suc k) =
        let before = longer k in
        let called = next before.0 before.3 in
        let some = frames called.0 called.2 in
        let l : k < spent F (before.0 ∷ before.1) = before.4 in
        let one = grown F called.0 (before.0 ∷ before.1) in
        let m : suc k < spent F (called.0 ∷ before.0 ∷ before.1) = omega (arith, some, l, one) in
        (called.0, before.0 ∷ before.1, call_within before.0 called.0 before.1 before.2 called.1, called.2, m)

    pub endless_has_no_bound : HasNoBound program F
    endless_has_no_bound S = let path = longer S in (path.0 ∷ path.1, path.2, path.4)
