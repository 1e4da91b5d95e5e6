-- One more parameter or operand is one fewer left.
use Rattle.std.proofs.Common.{◌≡◌, ℕ, suc, ◌+◌, ◌-◌, ◌<◌, List, ◌++◌, slice_index, ap, ◌∙◌, subst, arith}
use Rattle.std.proofs.lemmas.List.{append_assoc}
use Rattle.risc_emit_relation.specs.Context.{Context, home}
use Rattle.risc_emit_forms.specs.Pieces.{Piece}
use Rattle.risc_emit_forms.specs.Forms.{carry_one, carry, spill_one, spill, parameter, parameters}

module _ (c : Context) (r : ℕ) where
  next : (j : ℕ) → suc j ≡ j + 1
  next j = omega arith

  pub parameter_more : (m n j count : ℕ) (p0 p1 all : List Piece) → j < count → p1 ≡ p0 ++ parameter c r m n j
      (home c r j) → p0 ++ parameters c r m n j (count - j) ≡ all → p1 ++ parameters c r m n (j + 1) (count - (j + 1))
      ≡ all
  parameter_more m n j count p0 p1 all lt e inv =
      let first = parameter c r m n j (home c r j) in
      let rest = parameters c r m n (suc j) (count - suc j) in
      let left : suc (count - suc j) ≡ count - j = omega (arith, lt) in
      subst (λ i. p1 ++ parameters c r m n i (count - i) ≡ all) (next j)
      (ap (λ p. p ++ rest) e ∙ append_assoc p0 first rest ∙ ap (λ x. p0 ++ parameters c r m n j x) left ∙ inv)

  pub spill_more : (m n j count : ℕ) (p0 p1 all : List Piece) → j < count → p1 ≡ p0 ++ spill_one c r m n j (home c r j)
      → p0 ++ spill c r m n j (count - j) ≡ all → p1 ++ spill c r m n (j + 1) (count - (j + 1)) ≡ all
  spill_more m n j count p0 p1 all lt e inv =
      let first = spill_one c r m n j (home c r j) in
      let rest = spill c r m n (suc j) (count - suc j) in
      let left : suc (count - suc j) ≡ count - j = omega (arith, lt) in
      subst (λ i. p1 ++ spill c r m n i (count - i) ≡ all) (next j)
      (ap (λ p. p ++ rest) e ∙ append_assoc p0 first rest ∙ ap (λ x. p0 ++ spill c r m n j x) left ∙ inv)

  -- one operand fewer is left
  pub carry_fewer : (n j : ℕ) (us : List ℕ) (p0 p1 all : List Piece) → 0 < j → p1 ≡ p0 ++ carry_one c r n (j - 1)
      (home c r (slice_index us (j - 1))) → p0 ++ carry c r n j us ≡ all → p1 ++ carry c r n (j - 1) us ≡ all
  carry_fewer n j us p0 p1 all lt e inv =
      let first = carry_one c r n (j - 1) (home c r (slice_index us (j - 1))) in
      let rest = carry c r n (j - 1) us in
      let left : suc (j - 1) ≡ j = omega (arith, lt) in
      ap (λ p. p ++ rest) e ∙ append_assoc p0 first rest ∙ ap (λ i. p0 ++ carry c r n i us) left ∙ inv
