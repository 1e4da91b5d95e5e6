-- A run whose stack holds each path of calls is not stopped for stack: what is open is always a path.
use Rattle.std.proofs.Common.{◌≡◌, ℕ, zero, suc, List, [], ◌∷◌, Bool, true, false, cond, refl, sym, ap, ◌∙◌, subst}
use Rattle.std.proofs.Common.{arith, le-ltb}
use Rattle.std.specs.List.{Contains}
use Rattle.ps_tree.specs.Tree.{Program, routine_at}
use Rattle.behavior.specs.Endings.{Stack}
use Rattle.ps_meaning.specs.Worlds.{Env, Outside, Within, Context, World, Answer, Gives, Ends, Act, Done, stop}
use Rattle.ps_meaning.specs.Expressions.{Actual}
use Rattle.ps_meaning.specs.Statements.{Block, Next, Costs, passes_stack}
use Rattle.ps_meaning.specs.Calls.{bind, call_routine, execute}
use Rattle.ps_meaning.specs.Run.{first_world, first_context, costs_of, answer, shown}
use Rattle.ps_meaning.proofs.Avoids.{Avoids}
use Rattle.ps_lower_layout.specs.Frames.{kinds_of}
use Rattle.ps_lower_code.specs.Fits.{tail}
use Rattle.ps_lower_calls.specs.Routines.{RoutinesFit}
use Rattle.ps_lower_laws.specs.Fits.{ProgramFits}
use Rattle.ps_lower_accepted.proofs.Whole.{accepted}
use Rattle.ps_needs_least.specs.declared.uses.Use.{Use}
use Rattle.ps_needs_least.specs.Paths.{uses, Path, program_block, call_within, HoldsAll}
use Rattle.ps_needs.specs.Laws.{PathsAreEnough, NeedsEnough}
use Rattle.ps_needs.proofs.Environments.{IsHere, EnvIs, ActualsAre, entered_is}
use Rattle.ps_needs.proofs.Expressions.{IsStack, no_stop, Known, CallsGoOn}
use Rattle.ps_needs.proofs.Statements.{NextGoesOn, perform_fine}

-- each use of a block is a use of it
known_from : (program : Program) (r : ℕ) (us : List Use) → ((u : Use) → Contains us u → Contains (uses program r) u)
    → Known program r us
known_from program r [] h = tt
known_from program r (u ∷ us) h = (
  h u (0, omega arith, refl),
  known_from program r us
      (λ v c. h v (suc c.0, let l = c.1 in omega (arith, l), c.2)),
)

never_taken : {A : Type 0} (t : Bool) (f g : Act A) (w : World) → t ≡ false → Avoids IsStack (g w) → Avoids IsStack
    (cond t f g w)
never_taken true f g w e h = absurd (cc)
never_taken false f g w e h = h

module _ (program : Program) (fits : RoutinesFit program) (F G : List ℕ) (S H : ℕ) (enough : HoldsAll program F S) where
  abbrev costs : Costs
  costs = costs_of F G S H

  -- a routine is called, and what is open then is a path
  entered_fine : (next : Next) (s : ℕ) (active : List ℕ) (parent : Env) (actuals : List Actual) (c : Context)
      (w : World) → NextGoesOn program s (s ∷ active) next → Path program (s ∷ active) → IsHere program s
      → EnvIs program parent (tail (routine_at program s).chain) → ActualsAre program actuals
      (kinds_of (routine_at program s).formals) → c.active ≡ active → Avoids IsStack
      (call_routine program costs next s parent actuals c w)
  entered_fine next s active parent actuals c w nexts path here outer are e =
      let routine = routine_at program s in
      let bound = bind routine.result actuals routine.variables w in
      let inner : Context = record {
        env = Within bound.frame parent;
        opened = [];
        active = s ∷ c.active;
        calls = c.calls;
      } in
      let open_ : s ∷ c.active ≡ s ∷ active = ap (λ rs. s ∷ rs) e in
      never_taken (passes_stack costs (s ∷ c.active)) (stop (Stack routine.line))
      (λ u. next (Block routine.body) (record {
        env = Within (bind routine.result actuals routine.variables u).frame parent;
        opened = [];
        active = s ∷ c.active;
        calls = c.calls;
      }) (bind routine.result actuals routine.variables u).world) w
      (le-ltb S _ (enough (s ∷ c.active) (subst (λ rs. Path program rs) (sym open_) path)))
      (nexts (Block routine.body) inner bound.world
      ((fits s here.within).body, known_from program s (uses program s) (λ u k. k))
      (open_, entered_is program s parent actuals w here outer are))

  execute_fine : (n : ℕ) (r : ℕ) (active : List ℕ) → Path program (r ∷ active) → NextGoesOn program r (r ∷ active)
      (execute program costs n)
  execute_fine zero r active path t c w k h = no_stop
  execute_fine (suc n) r active path t c w k h =
      let next = execute program costs n in
      let calls : CallsGoOn program r (r ∷ active)
      (call_routine program costs next) = λ s parent actuals c' w' may here outer are e.
      let longer = call_within r s active path may in
      entered_fine next s (r ∷ active) parent actuals c' w'
      (execute_fine n s (r ∷ active) longer) longer here outer are e in
      perform_fine program costs r (r ∷ active) (call_routine program costs next) calls next
      (execute_fine n r active path) t c w k h

  shown_fine : (a : Answer Done) (line : ℕ) → Avoids IsStack a → (shown a).1 ≡ Stack line → ⊥
  shown_fine (Gives v w) line h e = absurd (cc)
  shown_fine (Ends out ending) line h e = h (subst IsStack (sym e) tt)

pub paths_are_enough : (program : Program) → ProgramFits program → PathsAreEnough program
paths_are_enough program fits F G S H enough input n line e =
    let routines = fits.routines in
    let begun : Path program (0 ∷ []) = program_block in
    let chain = fits.chain in
    let here : IsHere program 0 = record {
      within = fits.begins;
      chain = chain ∙ ap (λ q. 0 ∷ q) (sym (ap tail chain));
    } in
    let outer : EnvIs program Outside (tail (routine_at program 0).chain) = subst (λ q. EnvIs program Outside q)
    (sym (ap tail chain)) tt in
    let are : ActualsAre program [] (kinds_of (routine_at program 0).formals) = subst
    (λ q. ActualsAre program [] (kinds_of q)) (sym fits.outermost.formals) tt in
    let a = answer program (costs_of F G S H) input n in
    shown_fine program routines F G S H enough a line
    (entered_fine program routines F G S H enough
    (execute program (costs_of F G S H) n) 0 [] Outside [] first_context (first_world input)
    (execute_fine program routines F G S H enough n 0 [] begun) begun here outer are refl) e

pub needs_enough : NeedsEnough
needs_enough text tokens tree checked bytes source tokens_are tree_is is = paths_are_enough checked
    (accepted text tokens tree checked bytes source tokens_are tree_is is)
