-- What a rule of the language says of a part of a program: what it denotes, or the rule that is broken and the token at
-- which that is reported.
use Rattle.std.specs.Prelude.{◌≡◌, ℕ, List, [], ◌∷◌, ◌++◌, Option, Some, None, Bool, if◌then◌else◌, Result, Ok, Err}
use Rattle.std.specs.Result.{MatchResult}
use Rattle.ps_check_judgement.specs.declared.refusal.Rule.{Rule}
use Rattle.ps_check_judgement.specs.declared.refusal.CheckFault.{CheckFault}
use Rattle.ps_check_judgement.specs.declared.refusal.CheckFault.TheVariants.{OutOfMemory, Broken}

pub data Judged (A : Type 0) : Type 0 where
  Yes : A → Judged A
  -- the rule, and the offset of the token
  No : Rule → (at : ℕ) → Judged A

-- one after the other: the first refusal is reported
infixl 10 ◌>>=◌
abbrev pub ◌>>=◌ : {A B : Type 0} → Judged A → (A → Judged B) → Judged B
Yes a >>= f = f a
No rule at >>= f = No rule at

-- the value, if the test holds
abbrev pub provided : {A : Type 0} → Bool → Rule → (at : ℕ) → A → Judged A
provided b rule at x = if b then Yes x else No rule at

-- that a test holds
abbrev pub holds : Bool → Rule → (at : ℕ) → Judged (Unit {0})
holds b rule at = if b then Yes tt else No rule at

-- what is there, if anything is
abbrev pub some_or : {A : Type 0} → Rule → (at : ℕ) → Option A → Judged A
some_or rule at None = No rule at
some_or rule at (Some x) = Yes x

-- what is accepted, if anything is
abbrev pub accepted : {A : Type 0} → Judged A → Option A
accepted (Yes a) = Some a
accepted (No rule at) = None

-- the image of each, in order
abbrev pub traverse : {A B : Type 0} → (A → Judged B) → List A → Judged (List B)
traverse f [] = Yes []
traverse f (x ∷ xs) = do
  y ← f x
  ys ← traverse f xs
  Yes (y ∷ ys)

-- the image of each pair, for lists of the same length
abbrev pub traverse_both : {A B C : Type 0} → (A → B → Judged C) → List A → List B → Judged (List C)
traverse_both f [] ys = Yes []
traverse_both f (x ∷ xs) [] = Yes []
traverse_both f (x ∷ xs) (y ∷ ys) = do
  z ← f x y
  zs ← traverse_both f xs ys
  Yes (z ∷ zs)

-- a step for each, in order
abbrev pub steps : {S A : Type 0} → (S → A → Judged S) → S → List A → Judged S
steps f s [] = Yes s
steps f s (x ∷ xs) = f s x >>= (λ t. steps f t xs)

-- the refusal that is reported; running out of memory reports nothing
abbrev pub Told : {A : Type 0} → CheckFault → Judged A → Type 0
Told OutOfMemory j = Unit {0}
Told (Broken rule at) j = j ≡ No rule at

-- a result that agrees with what is judged: the value, or that very refusal, or out of memory
abbrev pub Answers : {X A : Type 0} → Result X CheckFault → (X → A) → Judged A → Type 0
Answers answer view j = MatchResult answer (λ v. j ≡ Yes (view v)) (λ fault. Told fault j)

-- two answers as one, with the first refusal reported
abbrev pub both : {A B E : Type 0} → Result A E → Result B E → Result (A × B) E
both (Ok a) (Ok b) = Ok (a, b)
both (Ok a) (Err e) = Err e
both (Err e) y = Err e
