-- Lists whose items all have a property, and steps that were made.
use Rattle.std.proofs.Common.{◌≡◌, Bool, true, false, ◌&&◌, ◌==◌, if◌then◌else◌, List, [], ◌∷◌, ◌++◌}
use Rattle.std.proofs.Common.{length, Option, Some, None, option_map, option_and_then, refl, sym, ap, ◌∙◌}
use Rattle.std.proofs.Common.{subst, append_assoc, arith, eqb-true}
use Rattle.std.proofs.lemmas.List.{append-nil}
use Rattle.std.proofs.lemmas.Option.{same_Some}
use Rattle.ps_check_judgement.specs.declared.change.Change.{Change}
use Rattle.ps_check_judgement.specs.Judged.{Judged, Yes, steps}
use Rattle.ps_check_judgement.specs.Changing.{Changing, ◌>>=◌, same, still, one_more, each, each_both, pairs, through}
use Rattle.ps_check_judgement.proofs.Binds.{then_yes, inside_yes}
use Rattle.ps_check_judgement.proofs.Impossible.{none_some}
pub use Rattle.ps_check_judgement.proofs.Impossible.{never}
pub use Rattle.ps_check.specs.RegionNames.{Each}

-- ---- options that are there

pub then_some : {A B : Type 0} (o : Option A) (f : A → Option B) (y : B) → option_and_then f o ≡ Some y → (x : A)
    × (o ≡ Some x) × (f x ≡ Some y)
then_some None f y h = absurd (none_some h)
then_some (Some x) f y h = (x, refl, h)

pub if_some : {A : Type 0} (b : Bool) (x : Option A) (y : A) → (if b then x else None) ≡ Some y → (b ≡ true)
    × (x ≡ Some y)
if_some true x y h = (refl, h)
if_some false x y h = absurd (none_some h)

pub map_some : {A B : Type 0} (f : A → B) (o : Option A) (y : B) → option_map f o ≡ Some y → (x : A) × (o ≡ Some x)
    × (f x ≡ y)
map_some f None y h = absurd (none_some h)
map_some f (Some x) y h = (x, refl, same_Some (f x) y h)

-- ---- judgements of parts that change variables, and are accepted: whatever was changed before and is changed then

pub record Gives {A : Type 0} (m : Changing A) (a : A) : Type 0 where
  pub before : List Change
  pub behind : List Change
  pub given : m before ≡ Yes (a, behind)

pub gives : {A : Type 0} (m : Changing A) (a : A) (before behind : List Change) → m before ≡ Yes (a, behind) → Gives m a
gives m a before behind e = record { before = before; behind = behind; given = e }

pub then_gives : {A B : Type 0} (m : Changing A) (f : A → Changing B) (b : B) → Gives (m >>= f) b → (a : A) × Gives m a
    × Gives (f a) b
then_gives m f b g =
    let t = then_yes (m g.before) (λ p. f p.0 p.1) (b, g.behind) g.given in
    (t.0.0, gives m t.0.0 g.before t.0.1 t.1, gives (f t.0.0) b t.0.1 g.behind t.2)

pub same_gives : {A : Type 0} (a b : A) → Gives (same a) b → a ≡ b
same_gives a b g = ap (λ p. p.0) (inside_yes (a, g.before) (b, g.behind) g.given)

pub still_gives : {A : Type 0} (j : Judged A) (a : A) → Gives (still j) a → j ≡ Yes a
still_gives j a g =
    let t = then_yes j (λ x. Yes (x, g.before)) (a, g.behind) g.given in
    t.1 ∙ ap (λ p. Yes p.0) (inside_yes (t.0, g.before) (a, g.behind) t.2)

-- what is one and the same
pub as_given : {A : Type 0} {m n : Changing A} {a : A} → m ≡ n → Gives m a → Gives n a
as_given {a = a} e g = subst (λ m. Gives m a) e g

-- a plain judgement first, or after
pub still_then : {A B : Type 0} (j : Judged A) (f : A → Changing B) (b : B) → Gives (still j >>= f) b → (a : A)
    × (j ≡ Yes a) × Gives (f a) b
still_then j f b g = let t = then_gives (still j) f b g in (t.0, still_gives j t.0 t.1, t.2)

pub then_still : {A B : Type 0} (m : Changing A) (f : A → Judged B) (b : B) → Gives (m >>= (λ a. still (f a))) b
    → (a : A) × Gives m a × (f a ≡ Yes b)
then_still m f b g = let t = then_gives m (λ a. still (f a)) b g in (t.0, t.1, still_gives (f t.0) b t.2)

pub then_same : {A B : Type 0} (m : Changing A) (f : A → B) (b : B) → Gives (m >>= (λ a. same (f a))) b → (a : A)
    × Gives m a × (f a ≡ b)
then_same m f b g = let t = then_gives m (λ a. same (f a)) b g in (t.0, t.1, same_gives (f t.0) b t.2)

pub through_end : {S A : Type 0} (f : S → A → Changing S) (s t : S) → Gives (through f s []) t → s ≡ t
through_end f s t g = ap (λ p. p.0) (inside_yes (s, g.before) (t, g.behind) g.given)

pub through_next : {S A : Type 0} (f : S → A → Changing S) (s : S) (x : A) (xs : List A) (t : S) → Gives
    (through f s (x ∷ xs)) t → (u : S) × Gives (f s x) u × Gives (through f u xs) t
through_next f s x xs t g =
    let u = then_yes (f s x g.before) (λ p. steps (λ t x. f t.0 x t.1) p xs) (t, g.behind) g.given in
    (u.0.0, gives (f s x) u.0.0 g.before u.0.1 u.1, gives (through f u.0.0 xs) t u.0.1 g.behind u.2)

-- the image of each
abbrev pub Images : {A B : Type 0} → (A → Changing B) → List A → List B → Type 0
Images f [] [] = Unit {0}
Images f (x ∷ xs) (y ∷ ys) = Gives (f x) y × Images f xs ys
Images f xs ys = ⊥

images_behind : {A B : Type 0} (f : A → Changing B) (done : List B) (xs : List A) (ys : List B)
    (before behind : List Change) → steps (one_more f) (done, before) xs ≡ Yes (ys, behind) → (zs : List B)
    × (ys ≡ done ++ zs) × Images f xs zs
images_behind f done [] ys before behind e =
    ([], sym (append-nil done ∙ ap (λ p. p.0) (inside_yes (done, before) (ys, behind) e)), tt)
images_behind f done (x ∷ xs) ys before behind e =
    let a = then_yes (one_more f (done, before) x) (λ p. steps (one_more f) p xs) (ys, behind) e in
    let y = then_yes (f x before) (λ p. Yes (done ++ p.0 ∷ [], p.1)) a.0 a.1 in
    let s = inside_yes (done ++ y.0.0 ∷ [], y.0.1) a.0 y.2 in
    let rest = images_behind f (done ++ y.0.0 ∷ []) xs ys y.0.1 behind
    (subst (λ p. steps (one_more f) p xs ≡ Yes (ys, behind)) (sym s) a.2) in
    (y.0.0 ∷ rest.0, rest.1 ∙ append_assoc done (y.0.0 ∷ []) rest.0, (gives (f x) y.0.0 before y.0.1 y.1, rest.2))

pub each_gives : {A B : Type 0} (f : A → Changing B) (xs : List A) (ys : List B) → Gives (each f xs) ys → Images f xs ys
each_gives f xs ys g = let t = images_behind f [] xs ys g.before g.behind g.given in subst (Images f xs) (sym t.1) t.2

-- the image of each pair of lists that are equally long
abbrev pub ImagesBoth : {A B C : Type 0} → (A → B → Changing C) → List A → List B → List C → Type 0
ImagesBoth f [] [] [] = Unit {0}
ImagesBoth f (x ∷ xs) (y ∷ ys) (z ∷ zs) = Gives (f x y) z × ImagesBoth f xs ys zs
ImagesBoth f xs ys zs = ⊥

pub both_give : {A B C : Type 0} (f : A → B → Changing C) (xs : List A) (ys : List B) (zs : List C)
    → (length xs == length ys) ≡ true → Gives (each_both f xs ys) zs → ImagesBoth f xs ys zs
both_give f xs ys zs l g = go xs ys zs (eqb-true (length xs) (length ys) l)
    (each_gives (λ p. f p.0 p.1) (pairs xs ys) zs g)
  where
    go : (xs : List _) (ys : List _) (zs : List _) → length xs ≡ length ys → Images (λ p. f p.0 p.1) (pairs xs ys) zs
        → ImagesBoth f xs ys zs
    go [] [] [] l h = tt
    go [] [] (z ∷ zs) l h = h
    go [] (y ∷ ys) zs l h = absurd (omega (arith, l))
    go (x ∷ xs) [] zs l h = absurd (omega (arith, l))
    go (x ∷ xs) (y ∷ ys) [] l h = absurd h
    go (x ∷ xs) (y ∷ ys) (z ∷ zs) l h = (h.0, go xs ys zs (omega (arith, l)) h.1)

-- ---- each item of a list

pub each_left : {A : Type 0} (P : A → Type 0) (xs ys : List A) → Each P (xs ++ ys) → Each P xs
each_left P [] ys h = tt
each_left P (x ∷ xs) ys h = (h.0, each_left P xs ys h.1)

pub each_right : {A : Type 0} (P : A → Type 0) (xs ys : List A) → Each P (xs ++ ys) → Each P ys
each_right P [] ys h = h
each_right P (x ∷ xs) ys h = each_right P xs ys h.1

pub each_map : {A : Type 0} (P Q : A → Type 0) → ((x : A) → P x → Q x) → (xs : List A) → Each P xs → Each Q xs
each_map P Q f [] h = tt
each_map P Q f (x ∷ xs) h = (f x h.0, each_map P Q f xs h.1)
