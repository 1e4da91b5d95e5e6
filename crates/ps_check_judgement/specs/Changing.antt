-- Judgements of parts that change variables: the changes so far are passed along, in the order of the text.
use Rattle.std.specs.Prelude.{ℕ, List, [], ◌∷◌, ◌++◌}
use Rattle.ps_check_judgement.specs.declared.change.Change.{Change}
use Rattle.ps_check_judgement.specs.Judged as j
use Rattle.ps_check_judgement.specs.Judged.{Judged, Yes, steps}

abbrev pub Changing : Type 0 → Type 0
Changing A = List Change → Judged (A × List Change)

infixl 10 ◌>>=◌
abbrev pub ◌>>=◌ : {A B : Type 0} → Changing A → (A → Changing B) → Changing B
(m >>= f) changes = j.◌>>=◌ (m changes) (λ p. f p.0 p.1)

-- what changes nothing
abbrev pub same : {A : Type 0} → A → Changing A
same a changes = Yes (a, changes)

abbrev pub still : {A : Type 0} → Judged A → Changing A
still m changes = j.◌>>=◌ m (λ a. Yes (a, changes))

-- one more step, after the images so far
abbrev pub one_more : {A B : Type 0} → (A → Changing B) → List B × List Change → A → Judged (List B × List Change)
one_more f s x = j.◌>>=◌ (f x s.1) (λ p. Yes (s.0 ++ p.0 ∷ [], p.1))

-- the image of each, in order
abbrev pub each : {A B : Type 0} → (A → Changing B) → List A → Changing (List B)
each f xs changes = steps (one_more f) ([], changes) xs

-- the items of two lists in pairs, as far as both go
abbrev pub pairs : {A B : Type 0} → List A → List B → List (A × B)
pairs [] ys = []
pairs (x ∷ xs) [] = []
pairs (x ∷ xs) (y ∷ ys) = (x, y) ∷ pairs xs ys

-- the image of each pair, in order
abbrev pub each_both : {A B C : Type 0} → (A → B → Changing C) → List A → List B → Changing (List C)
each_both f xs ys = each (λ p. f p.0 p.1) (pairs xs ys)

-- a step for each, in order
abbrev pub through : {S A : Type 0} → (S → A → Changing S) → S → List A → Changing S
through f s xs changes = steps (λ t x. f t.0 x t.1) (s, changes) xs
