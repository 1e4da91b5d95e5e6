-- The frame that is bound to what a call passes.
use Rattle.std.proofs.Common.{◌≡◌, ℕ, suc, List, [], ◌∷◌, ◌++◌, refl, sym, ap, subst}
use Rattle.ps_tree.specs.Types.{DataType}
use Rattle.ps_tree.specs.Tree.{Program}
use Rattle.ps_meaning.specs.Values.{Value}
use Rattle.ps_meaning.specs.Worlds.{World, with_new}
use Rattle.ps_meaning.specs.Calls.{bind_actuals}
use Rattle.ps_lower_layout.specs.Paths.{HasShape}
use Rattle.ps_lower_layout.specs.Frames.{Own, Reference, Closure, listed_kinds, variable_kinds}
use Rattle.ps_lower_relation.specs.Ghosts.{Ghost, slot_kinds, SlotsFrom, SlotsFit, FrameAt}
use Rattle.ps_lower_calls.specs.Binding.{Extends, HaveFirsts, FirstsFit}
use Rattle.ps_lower_calls.specs.Passing.{Passing, PassValue, PassVariable, PassRoutine, passed_actuals, passed_kinds}
use Rattle.ps_lower_calls.specs.Passing.{bound_slots, PassingsAt}
use Rattle.ps_lower_calls.proofs.Binding.{extends_trans, extends_new, new_value, variables_extend, variables_first}
use Rattle.ps_lower_calls.proofs.Binding.{variables_from, variables_kinds, variables_at}
use Rattle.ps_lower_calls.proofs.First.{firsts_fit}

pub bound_extends : (ps : List Passing) (types : List DataType) (w : World) → Extends w
    (bind_actuals (passed_actuals ps) types w).world
bound_extends [] types w = variables_extend types w
bound_extends (PassValue shape v x ∷ ps) types w = extends_trans (extends_new w v)
    (bound_extends ps types (with_new w v))
bound_extends (PassVariable shape s b o ∷ ps) types w = bound_extends ps types w
bound_extends (PassRoutine kinds result r env x ∷ ps) types w = bound_extends ps types w

-- names follow one another
pub bound_from : (ps : List Passing) (types : List DataType) (w : World) → SlotsFrom
    (bound_slots ps types w.next) w.next (bind_actuals (passed_actuals ps) types w).world.next
bound_from [] types w = variables_from types w
bound_from (PassValue shape v x ∷ ps) types w = (refl, bound_from ps types (with_new w v))
bound_from (PassVariable shape s b o ∷ ps) types w = bound_from ps types w
bound_from (PassRoutine kinds result r env x ∷ ps) types w = bound_from ps types w

pub bound_kinds : (ps : List Passing) (types : List DataType) (n : ℕ) → slot_kinds (bound_slots ps types n)
    ≡ listed_kinds (passed_kinds ps) ++ variable_kinds types
bound_kinds [] types n = variables_kinds types n
bound_kinds (PassValue shape v x ∷ ps) types n = ap (λ ks. Own shape ∷ ks) (bound_kinds ps types (suc n))
bound_kinds (PassVariable shape s b o ∷ ps) types n = ap (λ ks. Reference shape ∷ ks) (bound_kinds ps types n)
bound_kinds (PassRoutine kinds result r env x ∷ ps) types n = ap (λ ks. Closure kinds result ∷ ks)
    (bound_kinds ps types n)

-- the values of the new names
abbrev pub HaveBound : (ℕ → Value) → List Passing → List DataType → (n : ℕ) → Type 0
HaveBound store [] types n = HaveFirsts store types n
HaveBound store (PassValue shape v x ∷ ps) types n = (store n ≡ v) × HaveBound store ps types (suc n)
HaveBound store (PassVariable shape s b o ∷ ps) types n = HaveBound store ps types n
HaveBound store (PassRoutine kinds result r env x ∷ ps) types n = HaveBound store ps types n

pub bound_values : (ps : List Passing) (types : List DataType) (w : World) → HaveBound
    (bind_actuals (passed_actuals ps) types w).world.store ps types w.next
bound_values [] types w = variables_first types w
bound_values (PassValue shape v x ∷ ps) types w =
    let after = with_new w v in (
      new_value w (bind_actuals (passed_actuals ps) types after).world v
          (bound_extends ps types after),
      bound_values ps types after,
    )
bound_values (PassVariable shape s b o ∷ ps) types w = bound_values ps types w
bound_values (PassRoutine kinds result r env x ∷ ps) types w = bound_values ps types w

module _ (program : Program) (gs : List Ghost) (made : List ℕ) where
  pub bound_at : (ps : List Passing) (types : List DataType) (w : World) → PassingsAt program gs made ps
      → FrameAt program gs made (bind_actuals (passed_actuals ps) types w).frame (bound_slots ps types w.next)
  bound_at [] types w h = variables_at program gs made types w
  bound_at (PassValue shape v x ∷ ps) types w h = (refl, bound_at ps types (with_new w v) h.1)
  bound_at (PassVariable shape s b o ∷ ps) types w h = (h.0, bound_at ps types w h.1)
  bound_at (PassRoutine kinds result r env x ∷ ps) types w h = (refl, h.0.0, h.0.1, bound_at ps types w h.1)

  pub bound_fit : (store : ℕ → Value) (ps : List Passing) (types : List DataType) (n : ℕ) → HaveBound store ps types n
      → PassingsAt program gs made ps → FirstsFit types → SlotsFit made store (bound_slots ps types n)
  bound_fit store [] types n v h f = firsts_fit made store types n v f
  bound_fit store (PassValue shape u x ∷ ps) types n v h f =
      (subst (λ y. HasShape made y shape) (sym v.0) h.0, bound_fit store ps types (suc n) v.1 h.1 f)
  bound_fit store (PassVariable shape s b o ∷ ps) types n v h f = (tt, bound_fit store ps types n v h.1 f)
  bound_fit store (PassRoutine kinds result r env x ∷ ps) types n v h f = (tt, bound_fit store ps types n v h.1 f)
