-- Lists of uses that grow.
use Rattle.std.proofs.Common.{◌≡◌, ℕ, suc, ◌+◌, ◌<◌, ◌≤◌, List, [], ◌∷◌, ◌++◌, length, drop, get_or, append_assoc}
use Rattle.std.proofs.Common.{append-nil, refl, sym, ap, ◌∙◌, arith}
use Rattle.std.proofs.Math.Seq.{drop-cons}
use Rattle.std.proofs.lemmas.List.{drop_all}
use Rattle.ps_needs_least.specs.declared.uses.Use.{Use}
use Rattle.ps_needs_least.specs.declared.uses.Found.{Found}
use Rattle.ps_needs_least.specs.Gathered.{Adds}

pub adds_none : (a : Found) → Adds a a []
adds_none a = record { kept = λ e. e; list = λ e. sym (append-nil a.list.items) }

pub adds_as : (a b : Found) (us vs : List Use) → us ≡ vs → Adds a b us → Adds a b vs
adds_as a b us vs e f = record { kept = f.kept; list = λ l. f.list l ∙ ap (λ ws. a.list.items ++ ws) e }

pub adds_both : (a b c : Found) (us vs : List Use) → Adds a b us → Adds b c vs → Adds a c (us ++ vs)
adds_both a b c us vs f g = record {
  kept = λ l. f.kept (g.kept l);
  list = λ l. g.list l ∙ ap (λ ws. ws ++ vs) (f.list (g.kept l)) ∙ append_assoc a.list.items us vs;
}

-- two parts and three, as the uses of the whole
pub adds_two : (a b c : Found) (us vs ws : List Use) → us ++ vs ≡ ws → Adds a b us → Adds b c vs → Adds a c ws
adds_two a b c us vs ws e f g = adds_as a c (us ++ vs) ws e (adds_both a b c us vs f g)

pub adds_three : (a b c d : Found) (us vs ws xs : List Use) → us ++ vs ++ ws ≡ xs → Adds a b us → Adds b c vs
    → Adds c d ws → Adds a d xs
adds_three a b c d us vs ws xs e f g h = adds_as a d ((us ++ vs) ++ ws) xs e
    (adds_both a c d (us ++ vs) ws (adds_both a b c us vs f g) h)

-- the uses of the items before i were added to what was there at the start
pub record Gathered {A : Type 0} (uses : List A → List Use) (start : Found) (items : List A) (i : ℕ) (now : Found)
    : Type 0 where
  pub so_far : List Use
  pub adds : Adds start now so_far
  pub left : so_far ++ uses (drop i items) ≡ uses items

pub gathered_start : {A : Type 0} (uses : List A → List Use) (start : Found) (items : List A)
    → Gathered uses start items 0 start
gathered_start uses start items = record { so_far = []; adds = adds_none start; left = refl }

pub gathered_next : {A : Type 0} (uses : List A → List Use) (one : A → List Use)
    → ((x : A) (xs : List A) → uses (x ∷ xs) ≡ one x ++ uses xs) → (start : Found) (items : List A) (i : ℕ)
    (now next : Found) (d item : A) → item ≡ get_or items i d → i < length items → Gathered uses start items i now
    → Adds now next (one item) → Gathered uses start items (i + 1) next
gathered_next uses one law start items i now next d item is h g adds = record {
  so_far = g.so_far ++ one item;
  adds = adds_both start now next g.so_far (one item) g.adds adds;
  left =
      (let k : i + 1 ≡ suc i = omega arith in ap (λ j. (g.so_far ++ one item) ++ uses (drop j items)) k)
      ∙ append_assoc g.so_far (one item) (uses (drop (suc i) items))
      ∙ ap (λ x. g.so_far ++ (one x ++ uses (drop (suc i) items))) is
      ∙ ap (λ x. g.so_far ++ x) (sym (law (get_or items i d) (drop (suc i) items)))
      ∙ ap (λ l. g.so_far ++ uses l) (sym (drop-cons items i d h))
      ∙ g.left;
}

pub gathered_all : {A : Type 0} (uses : List A → List Use) → uses [] ≡ [] → (start : Found) (items : List A) (i : ℕ)
    (now : Found) → length items ≤ i → Gathered uses start items i now → Adds start now (uses items)
gathered_all uses none start items i now h g =
    adds_as start now g.so_far (uses items) (sym (append-nil g.so_far) ∙ ap (λ x. g.so_far ++ x) (sym none)
    ∙ ap (λ l. g.so_far ++ uses l) (sym (drop_all i items h)) ∙ g.left) g.adds
