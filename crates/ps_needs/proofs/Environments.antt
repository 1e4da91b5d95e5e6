-- What environments keep: an entry for a procedural or functional parameter has a routine that is passed somewhere,
-- with an environment in which it may be called.
use Rattle.std.proofs.Common.{◌≡◌, ℕ, zero, suc, ◌<◌, List, [], ◌∷◌, ◌++◌, length, drop, get_or, slice_get, Option}
use Rattle.std.proofs.Common.{Some, None, sym, ap, ◌∙◌, subst, arith}
use Rattle.ps_tree.specs.Types.{DataType}
use Rattle.ps_tree.specs.Tree.{Program, routine_at}
use Rattle.ps_meaning.specs.Values.{first}
use Rattle.ps_meaning.specs.Worlds.{Env, Outside, Within, Frame, no_entry, variable_before, routine_before, above}
use Rattle.ps_meaning.specs.Worlds.{frame_of, routine_in, env_in, World, with_new}
use Rattle.ps_meaning.specs.Expressions.{Actual, ValueActual, VariableActual, RoutineActual}
use Rattle.ps_meaning.specs.Calls.{bind_variables, bind_actuals, bind}
use Rattle.ps_lower_layout.specs.Shapes.{Shape}
use Rattle.ps_lower_layout.specs.Frames.{Kind, Own, Reference, Closure, Kinds, no_kind, kind_before, kinds_of}
use Rattle.ps_lower_layout.specs.Frames.{listed_kinds, result_kinds, variable_kinds, entries}
use Rattle.ps_lower_code.specs.Fits.{tail}
use Rattle.ps_needs_least.specs.Paths.{IsPassed}

none_some : {A B : Type 0} (x : A) → None ≡ Some x → B
none_some x e = absurd (cc)

-- the kinds of a parameter's own parameters
abbrev kinds_in : Option Kind → Kinds
kinds_in (Some (Closure kinds result)) = kinds
kinds_in _ = no_kind

abbrev is_closure : Option Kind → Type 0
is_closure (Some (Closure kinds result)) = Unit {0}
is_closure _ = ⊥

module _ (program : Program) where
  -- a routine of the program, whose number begins its chain
  pub record IsHere (r : ℕ) : Type 0 where
    pub within : r < length program.routines
    pub chain : (routine_at program r).chain ≡ r ∷ tail (routine_at program r).chain

  abbrev mutual
    -- frames of these routines, the innermost first
    pub EnvIs : Env → List ℕ → Type 0
    EnvIs Outside [] = Unit {0}
    EnvIs Outside (r ∷ chain) = ⊥
    EnvIs (Within f env) [] = ⊥
    EnvIs (Within f env) (r ∷ chain) = FrameIs f (entries (routine_at program r)) × EnvIs env chain

    pub FrameIs : Frame → List Kind → Type 0
    FrameIs no_entry [] = Unit {0}
    FrameIs no_entry (k ∷ ks) = ⊥
    FrameIs (variable_before s f) [] = ⊥
    FrameIs (variable_before s f) (Own shape ∷ ks) = FrameIs f ks
    FrameIs (variable_before s f) (Reference shape ∷ ks) = FrameIs f ks
    FrameIs (variable_before s f) (Closure kinds result ∷ ks) = ⊥
    FrameIs (routine_before r env f) [] = ⊥
    FrameIs (routine_before r env f) (Own shape ∷ ks) = ⊥
    FrameIs (routine_before r env f) (Reference shape ∷ ks) = ⊥
    FrameIs (routine_before r env f) (Closure kinds result ∷ ks) = IsHere r
        × (kinds_of (routine_at program r).formals ≡ kinds) × IsPassed program r × EnvIs env
        (tail (routine_at program r).chain) × FrameIs f ks

  -- a routine that is passed, with its environment, for parameters of these kinds
  abbrev pub Closed : Kinds → ℕ → Env → Type 0
  Closed kinds r env = IsHere r × (kinds_of (routine_at program r).formals ≡ kinds) × IsPassed program r × EnvIs env
      (tail (routine_at program r).chain)

  abbrev pub ActualIs : Actual → Kind → Type 0
  ActualIs (ValueActual v) (Own shape) = Unit {0}
  ActualIs (VariableActual s) (Reference shape) = Unit {0}
  ActualIs (RoutineActual r env) (Closure kinds result) = Closed kinds r env
  ActualIs _ _ = ⊥

  abbrev pub ActualsAre : List Actual → Kinds → Type 0
  ActualsAre [] no_kind = Unit {0}
  ActualsAre [] (kind_before k ks) = ⊥
  ActualsAre (x ∷ xs) no_kind = ⊥
  ActualsAre (x ∷ xs) (kind_before k ks) = ActualIs x k × ActualsAre xs ks

  -- ---- what stands in an environment

  pub env_above : (env : Env) (chain : List ℕ) (up : ℕ) → EnvIs env chain → up < length chain → EnvIs (above env up)
      (drop up chain)
  env_above env chain zero h l = h
  env_above Outside [] (suc up) h l = absurd (omega arith)
  env_above Outside (r ∷ chain) (suc up) h l = absurd h
  env_above (Within f env) [] (suc up) h l = absurd h
  env_above (Within f env) (r ∷ chain) (suc up) h l = env_above env chain up h.1 (omega arith)

  entry_is : (f : Frame) (ks : List Kind) (i : ℕ) (kinds : Kinds) (result : Option Shape) → FrameIs f ks
      → slice_get ks i ≡ Some (Closure kinds result) → Closed kinds (routine_in f i) (env_in f i)
  entry_is f [] i kinds result h e = none_some (Closure kinds result) e
  entry_is no_entry (k ∷ ks) i kinds result h e = absurd h
  entry_is (variable_before s f) (Own shape ∷ ks) zero kinds result h e = absurd (subst is_closure (sym e) tt)
  entry_is (variable_before s f) (Own shape ∷ ks) (suc i) kinds result h e = entry_is f ks i kinds result h e
  entry_is (variable_before s f) (Reference shape ∷ ks) zero kinds result h e = absurd (subst is_closure (sym e) tt)
  entry_is (variable_before s f) (Reference shape ∷ ks) (suc i) kinds result h e = entry_is f ks i kinds result h e
  entry_is (variable_before s f) (Closure ks' result' ∷ ks) i kinds result h e = absurd h
  entry_is (routine_before r env f) (Own shape ∷ ks) i kinds result h e = absurd h
  entry_is (routine_before r env f) (Reference shape ∷ ks) i kinds result h e = absurd h
  entry_is (routine_before r env f) (Closure ks' result' ∷ ks) zero kinds result h e =
      (h.0, h.1 ∙ ap kinds_in e, h.2, h.3)
  entry_is (routine_before r env f) (Closure ks' result' ∷ ks)
      (suc i) kinds result h e = entry_is f ks i kinds result h.4 e

  -- what a procedural or functional parameter stands for
  pub formal_is : (env : Env) (chain : List ℕ) (up i : ℕ) (kinds : Kinds) (result : Option Shape) → EnvIs env chain
      → up < length chain → slice_get (entries (routine_at program (get_or chain up 0))) i ≡ Some (Closure kinds result)
      → Closed kinds (routine_in (frame_of (above env up)) i) (env_in (frame_of (above env up)) i)
  formal_is Outside [] up i kinds result h l e = absurd (omega arith)
  formal_is Outside (r ∷ chain) up i kinds result h l e = absurd h
  formal_is (Within f env) [] up i kinds result h l e = absurd h
  formal_is (Within f env) (r ∷ chain) zero i kinds result h l e = entry_is f
      (entries (routine_at program r)) i kinds result h.0 e
  formal_is (Within f env) (r ∷ chain) (suc up) i kinds result h l e = formal_is env chain up i kinds result h.1
      (omega arith) e

  -- ---- a frame for a called routine

  variables_bound : (types : List DataType) (w : World) → FrameIs (bind_variables types w).frame (variable_kinds types)
  variables_bound [] w = tt
  variables_bound (type ∷ rest) w = variables_bound rest (with_new w (first type))

  actuals_bound : (actuals : List Actual) (kinds : Kinds) (variables : List DataType) (w : World)
      → ActualsAre actuals kinds → FrameIs (bind_actuals actuals variables w).frame
      (listed_kinds kinds ++ variable_kinds variables)
  actuals_bound [] no_kind variables w h = variables_bound variables w
  actuals_bound [] (kind_before k ks) variables w h = absurd h
  actuals_bound (x ∷ xs) no_kind variables w h = absurd h
  actuals_bound (ValueActual v ∷ xs) (kind_before (Own shape) ks) variables w h = actuals_bound xs ks variables
      (with_new w v) h.1
  actuals_bound (ValueActual v ∷ xs) (kind_before (Reference shape) ks) variables w h = absurd h.0
  actuals_bound (ValueActual v ∷ xs) (kind_before (Closure kinds result) ks) variables w h = absurd h.0
  actuals_bound (VariableActual s ∷ xs) (kind_before (Own shape) ks) variables w h = absurd h.0
  actuals_bound (VariableActual s ∷ xs) (kind_before (Reference shape) ks) variables w h = actuals_bound xs ks variables
      w h.1
  actuals_bound (VariableActual s ∷ xs) (kind_before (Closure kinds result) ks) variables w h = absurd h.0
  actuals_bound (RoutineActual r env ∷ xs) (kind_before (Own shape) ks) variables w h = absurd h.0
  actuals_bound (RoutineActual r env ∷ xs) (kind_before (Reference shape) ks) variables w h = absurd h.0
  actuals_bound (RoutineActual r env ∷ xs) (kind_before (Closure kinds result) ks) variables w h =
      (h.0.0, h.0.1, h.0.2, h.0.3, actuals_bound xs ks variables w h.1)

  bound_is : (result : Option DataType) (actuals : List Actual) (kinds : Kinds) (variables : List DataType) (w : World)
      → ActualsAre actuals kinds → FrameIs (bind result actuals variables w).frame
      (result_kinds result ++ listed_kinds kinds ++ variable_kinds variables)
  bound_is None actuals kinds variables w h = actuals_bound actuals kinds variables w h
  bound_is (Some type) actuals kinds variables w h = actuals_bound actuals kinds variables (with_new w (first type)) h

  -- the environment of a called routine's block
  pub entered_is : (r : ℕ) (parent : Env) (actuals : List Actual) (w : World) → IsHere r → EnvIs parent
      (tail (routine_at program r).chain) → ActualsAre actuals (kinds_of (routine_at program r).formals) → EnvIs
      (Within (bind (routine_at program r).result actuals (routine_at program r).variables w).frame parent)
      (routine_at program r).chain
  entered_is r parent actuals w here outer are =
      subst (λ chain. EnvIs (Within (bind (routine_at program r).result actuals
      (routine_at program r).variables w).frame parent) chain) (sym here.chain) (
        bound_is (routine_at program r).result actuals (kinds_of (routine_at program r).formals)
            (routine_at program r).variables w are,
        outer,
      )
