-- Walks through the uses of a node, and through nodes.
use Rattle.std.proofs.Common.{◌≡◌, ◌≢◌, ◌⊎◌, inl, inr, ℕ, suc, ◌+◌, ◌<◌, ◌≤◌, max, Bool, true, false, List, length}
use Rattle.std.proofs.Common.{drop, get_or, Option, Some, None, refl, sym, ap, ◌∙◌, arith}
use Rattle.std.specs.List.{Contains}
use Rattle.std.proofs.Math.Seq.{drop-cons}
use Rattle.std.proofs.lemmas.List.{drop_all, get_or_default}
use Rattle.std.proofs.lemmas.Bool.{cases_lt}
use Rattle.ps_needs_least.specs.declared.uses.Use.{Use}
use Rattle.ps_needs_least.specs.declared.uses.Use.TheVariants.{ParameterCalled}
use Rattle.ps_needs_least.specs.Settled.{depth_of, larger, dearest, undone, Sound, IsBlocked}

-- the depths of the uses before i are seen, and those of the others are to come
pub record Seen (xs : List (Option ℕ)) (us : List Use) (i most : ℕ) : Type 0 where
  pub left : larger (Some most) (dearest xs (drop i us)) ≡ dearest xs us

none_so_far : (o : Option ℕ) → larger (Some 0) o ≡ o
none_so_far None = refl
none_so_far (Some b) = let e : max 0 b ≡ b = omega arith in ap Some e

one_after_another : (m d : ℕ) (o : Option ℕ) → larger (Some (max m d)) o ≡ larger (Some m) (larger (Some d) o)
one_after_another m d None = refl
one_after_another m d (Some b) = let e : max (max m d) b ≡ max m (max d b) = omega arith in ap Some e

pub seen_start : (xs : List (Option ℕ)) (us : List Use) → Seen xs us 0 0
seen_start xs us = record { left = none_so_far (dearest xs us) }

module _ (xs : List (Option ℕ)) (us : List Use) (i most : ℕ) (seen : Seen xs us i most) where
  module _ (u d : Use) (within : i < length us) (is : u ≡ get_or us i d) where
    rest_is : dearest xs (drop i us) ≡ larger (depth_of xs u) (dearest xs (drop (suc i) us))
    rest_is = ap (dearest xs) (drop-cons us i d within)
        ∙ ap (λ v. larger (depth_of xs v) (dearest xs (drop (suc i) us))) (sym is)

    pub seen_next : (depth next : ℕ) → depth_of xs u ≡ Some depth → next ≡ max most depth → Seen xs us (i + 1) next
    seen_next depth next known e =
        let k : i + 1 ≡ suc i = omega arith in
        let rest = dearest xs (drop (suc i) us) in
        record {
          left =
              ap (λ j. larger (Some next) (dearest xs (drop j us))) k
              ∙ ap (λ n. larger (Some n) rest) e
              ∙ one_after_another most depth rest
              ∙ ap (λ o. larger (Some most) (larger o rest)) (sym known)
              ∙ ap (larger (Some most)) (sym rest_is)
              ∙ seen.left;
        }

    pub seen_missing : depth_of xs u ≡ None → None ≡ dearest xs us
    seen_missing unknown =
        let rest = dearest xs (drop (suc i) us) in
        ap (λ o. larger (Some most) (larger o rest)) (sym unknown) ∙ ap (larger (Some most)) (sym rest_is) ∙ seen.left

  pub seen_all : length us ≤ i → Some most ≡ dearest xs us
  seen_all all =
      (let e : most ≡ max most 0 = omega arith in ap Some e)
      ∙ ap (λ l. larger (Some most) (dearest xs l)) (sym (drop_all i us all))
      ∙ seen.left

-- ---- a round through the nodes

-- nodes before i were tried: one was given a depth, or all of them are blocked and nothing changed
pub record Tried (nodes : List (List Use)) (F : List ℕ) (start : List (Option ℕ)) (i : ℕ) (now : List (Option ℕ))
    (changed : Bool) : Type 0 where
  pub sound : Sound nodes F now
  pub count : length now ≡ length start
  pub most : undone now ≤ undone start
  pub fewer : changed ≡ true → undone now < undone start
  pub same : changed ≡ false → now ≡ start
  pub blocked : changed ≡ false → (r : ℕ) → r < i → IsBlocked nodes now r

-- ---- the first use of a depth

-- none of the uses before i has the depth
abbrev pub Past : List (Option ℕ) → List Use → Option ℕ → ℕ → Type 0
Past xs us o i = (k : ℕ) → k < i → depth_of xs (get_or us k ParameterCalled) ≢ o

pub past_start : (xs : List (Option ℕ)) (us : List Use) (o : Option ℕ) → Past xs us o 0
past_start xs us o k l = absurd (omega (arith, l))

pub past_next : (xs : List (Option ℕ)) (us : List Use) (o : Option ℕ) (i : ℕ) → Past xs us o i → (u d : Use) → i
    < length us → u ≡ get_or us i d → depth_of xs u ≢ o → Past xs us o (i + 1)
past_next xs us o i past u d within is other k l e = go (cases_lt k i)
  where
    go : (k < i) ⊎ (i ≤ k) → ⊥
    go (inl below) = past k below e
    go (inr above) =
        let same : k ≡ i = omega (arith, l, above) in
        other (ap (depth_of xs) (is ∙ get_or_default us i d ParameterCalled within
        ∙ ap (λ j. get_or us j ParameterCalled) (sym same)) ∙ e)

pub past_all : (xs : List (Option ℕ)) (us : List Use) (o : Option ℕ) (i : ℕ) → Past xs us o i → length us ≤ i
    → (u : Use) × Contains us u × (depth_of xs u ≡ o) → ⊥
past_all xs us o i past all there =
    let at = there.1.0 in
    let within : at < length us = there.1.1 in
    past at (omega (arith, within, all))
    (ap (depth_of xs) (get_or_default us at ParameterCalled there.0 within ∙ there.1.2) ∙ there.2)
