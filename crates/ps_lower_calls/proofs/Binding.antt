-- What a frame of variables is, once it is bound.
use Rattle.std.proofs.Common.{◌≡◌, ℕ, suc, ◌<◌, List, [], ◌∷◌, if◌then◌else◌, refl, ap, ◌∙◌, arith}
use Rattle.std.proofs.lemmas.Bool.{ne_eqb}
use Rattle.tac_code.proofs.Numbers.{eq_same}
use Rattle.ps_tree.specs.Types.{DataType}
use Rattle.ps_tree.specs.Tree.{Program}
use Rattle.ps_meaning.specs.Values.{Value, first}
use Rattle.ps_meaning.specs.Worlds.{World, at_name, with_new}
use Rattle.ps_meaning.specs.Calls.{bind_variables}
use Rattle.ps_lower_layout.specs.Shapes.{shape_of}
use Rattle.ps_lower_layout.specs.Frames.{Own, variable_kinds}
use Rattle.ps_lower_relation.specs.Ghosts.{Ghost, slot_kinds, SlotsFrom, FrameAt}
use Rattle.ps_lower_calls.specs.Binding.{Extends, variable_slots, HaveFirsts}

pub extends_refl : (w : World) → Extends w w
extends_refl w = record {
  objects = refl;
  made = refl;
  input = refl;
  transcript = refl;
  next = omega arith;
  store = λ n l. refl;
}

pub extends_trans : {w w1 w2 : World} → Extends w w1 → Extends w1 w2 → Extends w w2
extends_trans a b =
    let up = a.next in
    let more = b.next in
    record {
      objects = b.objects ∙ a.objects;
      made = b.made ∙ a.made;
      input = b.input ∙ a.input;
      transcript = b.transcript ∙ a.transcript;
      next = omega (arith, up, more);
      store = λ n l. b.store n (omega (arith, up, l)) ∙ a.store n l;
    }

name_new : (st : ℕ → Value) (n : ℕ) (v : Value) → at_name st n v n ≡ v
name_new st n v = ap (λ t. if t then v else st n) (eq_same n)

name_old : (st : ℕ → Value) (n : ℕ) (v : Value) (m : ℕ) → m < n → at_name st n v m ≡ st m
name_old st n v m l = let ne : m ≡ n → ⊥ = λ e. omega arith in ap (λ t. if t then v else st m) (ne_eqb m n ne)

pub extends_new : (w : World) (v : Value) → Extends w (with_new w v)
extends_new w v = record {
  objects = refl;
  made = refl;
  input = refl;
  transcript = refl;
  next = omega arith;
  store = λ n l. name_old w.store w.next v n l;
}

-- the new name has its value
pub new_value : (w w' : World) (v : Value) → Extends (with_new w v) w' → w'.store w.next ≡ v
new_value w w' v a = a.store w.next (omega arith) ∙ name_new w.store w.next v

pub variables_extend : (types : List DataType) (w : World) → Extends w (bind_variables types w).world
variables_extend [] w = extends_refl w
variables_extend (type ∷ rest) w = extends_trans (extends_new w (first type))
    (variables_extend rest (with_new w (first type)))

pub variables_first : (types : List DataType) (w : World) → HaveFirsts (bind_variables types w).world.store types w.next
variables_first [] w = tt
variables_first (type ∷ rest) w =
    let after = with_new w (first type) in (
      new_value w (bind_variables rest after).world (first type)
          (variables_extend rest after),
      variables_first rest after,
    )

pub variables_from : (types : List DataType) (w : World) → SlotsFrom (variable_slots types w.next) w.next
    (bind_variables types w).world.next
variables_from [] w = refl
variables_from (type ∷ rest) w = (refl, variables_from rest (with_new w (first type)))

pub variables_kinds : (types : List DataType) (n : ℕ) → slot_kinds (variable_slots types n) ≡ variable_kinds types
variables_kinds [] n = refl
variables_kinds (type ∷ rest) n = ap (λ ks. Own (shape_of type) ∷ ks) (variables_kinds rest (suc n))

module _ (program : Program) (gs : List Ghost) (made : List ℕ) where
  pub variables_at : (types : List DataType) (w : World) → FrameAt program gs made (bind_variables types w).frame
      (variable_slots types w.next)
  variables_at [] w = tt
  variables_at (type ∷ rest) w = (refl, variables_at rest (with_new w (first type)))
