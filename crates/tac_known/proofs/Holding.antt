-- What is known of temporaries stays true.
use Rattle.std.proofs.Common.{◌≡◌, ◌≢◌, ◌⊎◌, inl, inr, ℕ, zero, suc, ◌≤◌, Bool, true, false, nat_lt, List}
use Rattle.std.proofs.Common.{[], ◌∷◌, length, map, slice_set, Option, Some, refl, sym, ap, ◌∙◌, subst, arith}
use Rattle.std.proofs.lemmas.Bool.{cases_eq, ltb-true, ltb-false, true≢false, and_parts}
use Rattle.std.proofs.lemmas.Int.{ints}
use Rattle.tac_code.specs.declared.code.Value.{Value}
use Rattle.tac_code.specs.declared.code.Operand.{Operand}
use Rattle.tac_code.specs.declared.code.Operand.TheVariants as operand
use Rattle.tac_code.specs.Meaning.{Temporaries, put, operand_value}
use Rattle.tac_code_steps.proofs.Temporaries.{put_same, put_other}
use Rattle.tac_pass.proofs.Words.{get_set_same, get_set_other}
use Rattle.tac_known.specs.declared.kind.Kind.{Kind}
use Rattle.tac_known.specs.declared.kind.Kind.TheVariants.{Unknown, NotNil, Between}
use Rattle.tac_known.specs.Kinds.{IsOf, or_unknown, kind_in, Hold, operand_kind, says_no_more, say_no_more, forget}
use Rattle.tac_known.proofs.Results.{less_is}

past_end : (ks : List Kind) (t : ℕ) (k : Kind) → length ks ≤ t → kind_in (slice_set ks t k) t ≡ Unknown
past_end [] t k l = refl
past_end (x ∷ xs) zero k l = absurd (omega (arith, l))
past_end (x ∷ xs) (suc t) k l = past_end xs t k (omega (arith, l))

of_unknown : (o : Option Value) (k : Kind) → k ≡ Unknown → IsOf k o
of_unknown o k e = subst (λ k. IsOf k o) (sym e) tt

set_at : (ks : List Kind) (t : ℕ) (k : Kind) (o : Option Value) → IsOf k o → IsOf (kind_in (slice_set ks t k) t) o
set_at ks t k o h = which (nat_lt t (length ks)) refl
  where
    which : (b : Bool) → nat_lt t (length ks) ≡ b → IsOf (kind_in (slice_set ks t k) t) o
    which true e =
        subst (λ (x : Option Kind). IsOf (or_unknown x) o)
        (sym (get_set_same ks t k (ltb-true t (length ks) e))) h
    which false e = of_unknown o (kind_in (slice_set ks t k) t) (past_end ks t k (ltb-false t (length ks) e))

module _ (ks : List Kind) (ts : Temporaries) (h : Hold ks ts) where
  -- a temporary was given a value
  pub holds_put : (t : ℕ) (k : Kind) (v : Value) → IsOf k (Some v) → Hold (slice_set ks t k) (put ts t v)
  holds_put t k v is u = which (cases_eq u t)
    where
      which : (u ≡ t) ⊎ (u ≢ t) → IsOf (kind_in (slice_set ks t k) u) (put ts t v u)
      which (inl e) =
          subst (λ u. IsOf (kind_in (slice_set ks t k) u) (put ts t v u)) (sym e)
          (subst (IsOf (kind_in (slice_set ks t k) t)) (sym (put_same ts t v)) (set_at ks t k (Some v) is))
      which (inr ne) =
          subst (λ (x : Option Kind). IsOf (or_unknown x) (put ts t v u)) (sym (get_set_other ks t u k ne))
          (subst (IsOf (kind_in ks u)) (sym (put_other ts t v u ne)) (h u))

  -- more was found of one
  pub holds_more : (t : ℕ) (k : Kind) → IsOf k (ts t) → Hold (slice_set ks t k) ts
  holds_more t k is u = which (cases_eq u t)
    where
      which : (u ≡ t) ⊎ (u ≢ t) → IsOf (kind_in (slice_set ks t k) u) (ts u)
      which (inl e) = subst (λ u. IsOf (kind_in (slice_set ks t k) u) (ts u)) (sym e) (set_at ks t k (ts t) is)
      which (inr ne) =
          subst (λ (x : Option Kind). IsOf (or_unknown x) (ts u)) (sym (get_set_other ks t u k ne)) (h u)

pub nothing_holds : (ks : List Kind) (ts : Temporaries) → ((u : ℕ) → kind_in ks u ≡ Unknown) → Hold ks ts
nothing_holds ks ts none u = of_unknown (ts u) (kind_in ks u) (none u)

pub forgotten : (ks : List Kind) (u : ℕ) → kind_in (map forget ks) u ≡ Unknown
forgotten [] u = refl
forgotten (k ∷ ks) zero = refl
forgotten (k ∷ ks) (suc u) = forgotten ks u

pub less_holds : (xs ks : List Kind) (ts : Temporaries) → say_no_more xs ks ≡ true → Hold xs ts → Hold ks ts
less_holds xs [] ts e h u = tt
less_holds [] (k ∷ ks) ts e h zero =
    less_is Unknown k (ts zero) (and_parts (says_no_more Unknown k) (say_no_more [] ks) e).0 tt
less_holds [] (k ∷ ks) ts e h (suc u) =
    less_holds [] ks (λ u. ts (suc u)) (and_parts (says_no_more Unknown k) (say_no_more [] ks) e).1 (λ u. tt) u
less_holds (x ∷ xs) (k ∷ ks) ts e h zero =
    less_is x k (ts zero) (and_parts (says_no_more x k) (say_no_more xs ks) e).0 (h zero)
less_holds (x ∷ xs) (k ∷ ks) ts e h (suc u) =
    less_holds xs ks (λ u. ts (suc u)) (and_parts (says_no_more x k) (say_no_more xs ks) e).1 (λ u. h (suc u)) u

-- what says no more than nothing says nothing
unknown_only : (k : Kind) → says_no_more Unknown k ≡ true → k ≡ Unknown
unknown_only Unknown e = refl
unknown_only NotNil e = absurd (true≢false (sym e))
unknown_only (Between l h) e = absurd (true≢false (sym e))

pub nothing_more : (xs ks : List Kind) → ((u : ℕ) → kind_in xs u ≡ Unknown) → say_no_more xs ks ≡ true → (u : ℕ) →
    kind_in
    ks u ≡ Unknown
nothing_more xs [] none e u = refl
nothing_more [] (k ∷ ks) none e zero =
    unknown_only k (and_parts (says_no_more Unknown k) (say_no_more [] ks) e).0
nothing_more [] (k ∷ ks) none e (suc u) =
    nothing_more [] ks (λ u. refl) (and_parts (says_no_more Unknown k) (say_no_more [] ks) e).1 u
nothing_more (x ∷ xs) (k ∷ ks) none e zero =
    unknown_only k (ap (λ x. says_no_more x k) (sym (none zero))
    ∙ (and_parts (says_no_more x k) (say_no_more xs ks) e).0)
nothing_more (x ∷ xs) (k ∷ ks) none e (suc u) =
    nothing_more xs ks (λ u. none (suc u)) (and_parts (says_no_more x k) (say_no_more xs ks) e).1 u

pub operand_is : (ks : List Kind) (ts : Temporaries) → Hold ks ts → (b : Operand) → IsOf (operand_kind ks b)
    (operand_value ts b)
operand_is ks ts h (operand.Temporary u) = h u
operand_is ks ts h (operand.Number z) = (z, refl, omega (arith, ints), omega (arith, ints))
