-- What is changed of a variable, as the code finds it.
use Rattle.std.proofs.Common.{◌≡◌, ℕ, ◌==◌, true, List, [], ◌∷◌, length, refl, ap, ◌∙◌, arith}
use Rattle.std.proofs.lemmas.Bool.{eqb-true}
use Rattle.ps_tree.specs.declared.tree.Place.{Place}
use Rattle.ps_tree.specs.declared.tree.PlaceBase.{PlaceBase}
use Rattle.ps_tree.specs.declared.tree.PlaceBase.TheVariants.{Entry, Opened}
use Rattle.ps_tree.specs.declared.tree.Selector.{Selector}
use Rattle.ps_tree.specs.Tree as Tree
use Rattle.ps_tree.specs.View.{base_of, selectors_of, place_of}
use Rattle.ps_check_judgement.specs.declared.change.Change.{Change}
use Rattle.ps_check_judgement.specs.Judged.{Yes}
use Rattle.ps_check_names.specs.Regions.{Context}
use Rattle.ps_check_expressions.specs.Changed.{changed_entry, changed}

pub none_there : {A : Type 0} (xs : List A) (n : ℕ) → n ≡ length xs → (n == 0) ≡ true → xs ≡ []
none_there [] n l e = refl
none_there (x ∷ xs) n l e = let z : n ≡ 0 = eqb-true n 0 e in let f : ⊥ = omega (arith, z, l) in absurd f

module _ (c : Context) (at : ℕ) (cs : List Change) where
  part_of : (base : PlaceBase) (ss : List Selector) → (ss ≡ [] → ⊥) → changed c
      (Tree.Variable (base_of base) (selectors_of ss)) at cs ≡ Yes (tt, cs)
  unfolding changed selectors_of
  part_of base [] h = absurd (h refl)
  part_of (Entry up entry) (s ∷ ss) h = refl
  part_of (Opened field) (s ∷ ss) h = refl

  -- a component is not a whole variable
  pub changed_part : (p : Place) → (p.selectors.items ≡ [] → ⊥) → changed c (place_of p) at cs ≡ Yes (tt, cs)
  changed_part p h = part_of p.base p.selectors.items h

  whole : (up entry : ℕ) (ss : List Selector) → ss ≡ [] → changed c
      (Tree.Variable (Tree.Entry up entry) (selectors_of ss)) at cs ≡ changed_entry c up entry at cs
  unfolding changed selectors_of
  whole up entry [] e = refl
  whole up entry (s ∷ ss) e = cc

  pub changed_whole : (p : Place) (up entry : ℕ) → p.base ≡ Entry up entry → p.selectors.items ≡ [] → changed c
      (place_of p) at cs ≡ changed_entry c up entry at cs
  changed_whole p up entry b e = ap (λ l. changed c (Tree.Variable (base_of l) (selectors_of p.selectors.items)) at cs)
      b ∙ whole up entry p.selectors.items e
