-- What a judgement of several parts says of its parts.
use Rattle.std.proofs.Common.{◌≡◌, Bool, true, false, ℕ, List, [], ◌∷◌, Option, Some, None, refl, sym, ap, ◌∙◌}
use Rattle.std.specs.Prelude.{if◌then◌else◌}
use Rattle.std.proofs.lemmas.Option.{same_Some}
use Rattle.ps_check_judgement.specs.declared.refusal.Rule.{Rule}
use Rattle.ps_check_judgement.specs.Judged.{Judged, Yes, No, ◌>>=◌, provided, holds, some_or, accepted}
use Rattle.ps_check_judgement.proofs.Impossible.{none_some}

-- what is accepted, or else a default
abbrev pub yes_or : {A : Type 0} → A → Judged A → A
yes_or d (Yes a) = a
yes_or d (No rule at) = d

-- a refusal gives nothing
pub no_yes : {A : Type 0} {rule : Rule} {at : ℕ} {a : A} → No rule at ≡ Yes a → ⊥
no_yes q = cc

pub inside_yes : {A : Type 0} (a b : A) → Yes a ≡ Yes b → a ≡ b
inside_yes a b e = ap (yes_or a) e

-- what two parts give that are accepted, one after the other
pub then_yes : {A B : Type 0} (j : Judged A) (f : A → Judged B) (b : B) → (j >>= f) ≡ Yes b → (a : A) × (j ≡ Yes a)
    × (f a ≡ Yes b)
then_yes (Yes a) f b e = (a, refl, e)
then_yes (No rule at) f b e = absurd (no_yes e)

pub provided_yes : {A : Type 0} (b : Bool) (rule : Rule) (at : ℕ) (x y : A) → provided b rule at x ≡ Yes y → (b ≡ true)
    × (x ≡ y)
provided_yes true rule at x y e = (refl, inside_yes x y e)
provided_yes false rule at x y e = absurd (no_yes e)

pub holds_yes : (b : Bool) (rule : Rule) (at : ℕ) (u : Unit {0}) → holds b rule at ≡ Yes u → b ≡ true
holds_yes true rule at u e = refl
holds_yes false rule at u e = absurd (no_yes e)

pub if_yes : {A : Type 0} (b : Bool) (j : Judged A) (rule : Rule) (at : ℕ) (y : A) → (if b then j else No rule at)
    ≡ Yes y → (b ≡ true) × (j ≡ Yes y)
if_yes true j rule at y e = (refl, e)
if_yes false j rule at y e = absurd (no_yes e)

pub some_or_yes : {A : Type 0} (rule : Rule) (at : ℕ) (o : Option A) (a : A) → some_or rule at o ≡ Yes a → o ≡ Some a
some_or_yes rule at None a e = absurd (no_yes e)
some_or_yes rule at (Some x) a e = ap Some (inside_yes x a e)

-- what is accepted, seen as an option
pub accepted_yes : {A : Type 0} (j : Judged A) (a : A) → accepted j ≡ Some a → j ≡ Yes a
accepted_yes (Yes x) a e = ap Yes (same_Some x a e)
accepted_yes (No rule at) a e = absurd (none_some e)
