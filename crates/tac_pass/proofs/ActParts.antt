-- What was tested of operands, and where addresses point to.
use Rattle.std.proofs.Common.{◌≡◌, ℕ, ◌+◌, ◌*◌, ◌/◌, ◌%◌, ◌^◌, ◌≤◌, Bool, true, false, nat_eq, nat_lt, if◌then◌else◌}
use Rattle.std.proofs.Common.{List, [], ◌∷◌, Option, Some, None, refl, sym, subst, arith, eqb-true, true≢false}
use Rattle.std.proofs.lemmas.Nat.{mul-le}
use Rattle.std.proofs.lemmas.Option.{none-some, same_Some}
use Rattle.tac_code.specs.declared.code.Operand.{Operand}
use Rattle.tac_code.specs.declared.code.Operand.TheVariants as operand
use Rattle.tac_code.specs.declared.code.Base.{Base}
use Rattle.tac_code.specs.declared.code.Base.TheVariants as base
use Rattle.tac_pass.specs.declared.table.Reach.{Reach}
use Rattle.tac_pass.specs.declared.table.Reach.TheVariants.{Anywhere, Within}
use Rattle.tac_pass.specs.Claims.{Claim}
use Rattle.tac_pass.specs.Rules.{Right, SameBase, AllHold, Forgets, Gave, None_of_them, Elsewhere, Behind, Component}
use Rattle.tac_pass.specs.Tables.{Table, points_to, nowhere, claim_in, give, base_reach}
use Rattle.tac_pass.specs.Acts.{and_then, only_if, holder, renamed_right, renamed_base, renamed_list, own_word, bounded}
use Rattle.tac_pass.specs.Acts.{shifted, stretched}
use Rattle.tac_pass.proofs.TableValues.{give_is}
use Rattle.tac_pass.proofs.TableWrites.{base_is}

-- ---- what was tested

pub then_some : {A B : Type 0} (o : Option A) (go : A → Option B) (y : B) → and_then o go ≡ Some y → (x : A) ×
    (o ≡ Some x)
    × (go x ≡ Some y)
then_some None go y f = absurd (none-some y f)
then_some (Some x) go y f = (x, refl, f)

pub only_some : {A : Type 0} (b : Bool) (o : Option A) (y : A) → only_if b o ≡ Some y → (b ≡ true) × (o ≡ Some y)
only_some true o y f = (refl, f)
only_some false o y f = absurd (none-some y f)

pub was_false : (b : Bool) → (if b then false else true) ≡ true → b ≡ false
was_false true f = absurd (true≢false (sym f))
was_false false f = refl

pub all_forgets : (c : Claim) → Forgets c c
all_forgets c = record {
  temporaries = λ u v h. h;
  words = λ k v h. h;
  stale = λ k h. h;
  blank = λ k h. h;
  points = λ u o h. h;
  word_points = λ k o h. h;
}

pub own_is : (b : Base) (n k : ℕ) → own_word b n ≡ Some k → (b ≡ base.Frame) × (n ≡ 4 * k)
own_is base.Frame n k f = which (nat_eq (n % 4) 0) refl f
  where
    which : (t : Bool) → nat_eq (n % 4) 0 ≡ t → (if t then Some (n / 4) else None) ≡ Some k → (base.Frame ≡ base.Frame)
        × (n ≡ 4 * k)
    which true e f = let g = eqb-true (n % 4) 0 e in let h = same_Some (n / 4) k f in (refl, omega (arith, g, h))
    which false e f = absurd (none-some k f)
own_is base.Scratch n k f = absurd (none-some k f)
own_is base.Program n k f = absurd (none-some k f)
own_is (base.Temporary _) n k f = absurd (none-some k f)

bounded_not : (low high o : ℕ) → points_to (bounded low high) o ≡ false → points_to (Within low high) o ≡ false
bounded_not low high o f = which (nat_lt high (2 ^ 32)) f
  where
    which : (b : Bool) → points_to (if b then Within low high else Anywhere) o ≡ false → points_to (Within low high) o
        ≡ false
    which true f = f
    which false f = absurd (true≢false f)

module _ (r : ℕ) (minded : List ℕ) (table : Table) where
  abbrev pub c : Claim
  c = claim_in minded table

  -- ---- operands

  pub right_is : (b b' : Operand) → renamed_right table b ≡ Some b' → Right c b b'
  right_is (operand.Temporary u) b' f =
      let x = then_some (holder table u) (λ v. Some (operand.Temporary v)) b' f
      in (x.0, sym (same_Some (operand.Temporary x.0) b' x.2), x.1)
  right_is (operand.Number z) b' f = sym (same_Some (operand.Number z) b' f)

  pub base_same : (b b' : Base) → renamed_base table b ≡ Some b' → SameBase c b b'
  base_same (base.Temporary u) b' f =
      let x = then_some (holder table u) (λ v. Some (base.Temporary v)) b' f
      in (x.0, sym (same_Some (base.Temporary x.0) b' x.2), x.1)
  base_same base.Frame b' f = sym (same_Some base.Frame b' f)
  base_same base.Scratch b' f = sym (same_Some base.Scratch b' f)
  base_same base.Program b' f = sym (same_Some base.Program b' f)

  pub list_is : (us vs : List ℕ) → renamed_list table us ≡ Some vs → AllHold c us vs
  list_is [] vs f = subst (AllHold c []) (same_Some [] vs f) tt
  list_is (u ∷ us) vs f =
      let x = then_some (holder table u) (λ v. and_then (renamed_list table us) (λ vs. Some (v ∷ vs))) vs f in
      let y = then_some (renamed_list table us) (λ vs. Some (x.0 ∷ vs)) vs x.2 in
      subst (AllHold c (u ∷ us)) (same_Some (x.0 ∷ y.0) vs y.2) (x.1, list_is us y.0 y.1)

  -- ---- where addresses point to

  pub shifted_away : (b : Base) (n o : ℕ) → points_to (shifted n (base_reach r b table)) o ≡ false → Behind r c b n o
  shifted_away b n o f from e = base_is minded table r b from (not_there (base_reach r b table) f)
    where
      not_there : (reach : Reach) → points_to (shifted n reach) o ≡ false → points_to reach from ≡ false
      not_there Anywhere f = absurd (true≢false f)
      not_there (Within low high) f = which (nat_lt low high) refl f
        where
          which : (t : Bool) → nat_lt low high ≡ t → points_to (if t then bounded (low + n) (high + n) else nowhere) o
              ≡ false → points_to (Within low high) from ≡ false
          which true g f = let h = bounded_not (low + n) (high + n) o f in grind arith
          which false g f = grind arith

  pub stretched_away : (b : Base) (width most o : ℕ) → points_to
      (stretched (most * width) (base_reach r b table)) o ≡ false
      → Component r c b width most o
  stretched_away b width most o f from steps within e = base_is minded table r b from
      (not_there (base_reach r b table) f)
    where
      product : steps * width ≤ most * width
      product = mul-le steps width most width within (omega arith)

      not_there : (reach : Reach) → points_to (stretched (most * width) reach) o ≡ false → points_to reach from ≡ false
      not_there Anywhere f = absurd (true≢false f)
      not_there (Within low high) f = which (nat_lt low high) refl f
        where
          which : (t : Bool) → nat_lt low high ≡ t → points_to
              (if t then bounded low (high + most * width) else nowhere) o ≡ false → points_to (Within low high) from
              ≡ false
          which true g f = let h = bounded_not low (high + most * width) o f in let l = product in grind arith
          which false g f = grind arith

  pub given : (t t' : ℕ) → Gave t t' None_of_them Elsewhere c (claim_in minded (give t t' nowhere table))
  given t t' = give_is minded table t t' nowhere Elsewhere (λ o f. tt)
