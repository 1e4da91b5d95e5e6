-- The laws of the runs.
use Rattle.std.proofs.Common.{◌≡◌, inl, inr, ℕ, zero, suc, ◌+◌, ◌≤◌, List, [], ◌∷◌, ◌++◌, false, nat_lt, get_or}
use Rattle.std.proofs.Common.{sum_by, refl, sym, ap, subst, ◌∙◌, arith}
use Rattle.ps_tree.specs.Tree.{Program, routine_at}
use Rattle.behavior.specs.Endings.{Ending, Error, Stack, More, IsStop, IsMore}
use Rattle.behavior.specs.Transcripts.{Shown, GoesOn}
use Rattle.ps_meaning.specs.Worlds.{Env, Outside, Within, Context, World, Answer, Gives, Ends, Act, Done}
use Rattle.ps_meaning.specs.Expressions.{Actual}
use Rattle.ps_meaning.specs.Statements.{Task, Block, Next, Costs, passes_stack}
use Rattle.ps_meaning.specs.Calls.{bind, call_routine, execute}
use Rattle.ps_meaning.specs.Run.{first_world, first_context, costs_of, answer, shown, run_within, run}
use Rattle.ps_meaning.specs.Laws.{ErrorsStay}
use Rattle.ps_meaning.proofs.Growth.{transcript_of, Cut, Beside, still, cut_here}
use Rattle.ps_meaning.proofs.Limits.{Tighter, bind_quiet, from_quiet, stop_beside, perform_beside}

module _ (Cuts : Ending → Type 0) (program : Program) (costs costs' : Costs) (tighter : Tighter Cuts costs costs') where
  -- the entry of a block
  abbrev entered : Next → ℕ → Env → List Actual → Context → Act Done
  entered next r parent actuals c = λ w.
      let bound = bind (routine_at program r).result actuals (routine_at program r).variables w in
      next (Block (routine_at program r).body) (record {
        env = Within bound.frame parent;
        opened = [];
        active = r ∷ c.active;
        calls = c.calls;
      }) bound.world

  call_beside : (next next' : Next) (nexts : (t : Task) (c : Context) (w : World) → Beside Cuts w (next t c w)
      (next' t c w)) (r : ℕ) (parent : Env) (actuals : List Actual) (c : Context) (w : World) → Beside Cuts w
      (call_routine program costs next r parent actuals c w) (call_routine program costs' next' r parent actuals c w)
  call_beside next next' nexts r parent actuals c w =
      let bound = bind (routine_at program r).result actuals (routine_at program r).variables w in
      stop_beside Cuts (passes_stack costs (r ∷ c.active)) (passes_stack costs' (r ∷ c.active))
      (Stack (routine_at program r).line) w (entered next r parent actuals c) (entered next' r parent actuals c)
      (tighter.stack (r ∷ c.active) (routine_at program r).line)
      (from_quiet Cuts w bound.world _ _ (bind_quiet (routine_at program r).result actuals
      (routine_at program r).variables w) (nexts (Block (routine_at program r).body) (record {
        env = Within bound.frame parent;
        opened = [];
        active = r ∷ c.active;
        calls = c.calls;
      }) bound.world))

  execute_beside : (n : ℕ) (t : Task) (c : Context) (w : World) → Beside Cuts w (execute program costs n t c w)
      (execute program costs' n t c w)
  execute_beside zero t c w = still Cuts w (Ends w.transcript More) refl
  execute_beside (suc n) t c w = perform_beside Cuts program costs costs' tighter
      (call_routine program costs (execute program costs n)) (call_routine program costs' (execute program costs' n))
      (call_beside (execute program costs n) (execute program costs' n) (execute_beside n)) (execute program costs n)
      (execute program costs' n) (execute_beside n) t c w

-- what holds for answers holds for runs
module _ (Cuts : Ending → Type 0) where
  transcript_shown : (b : Answer Done) → (shown b).0 ≡ transcript_of b
  transcript_shown (Gives v w) = refl
  transcript_shown (Ends out e) = refl

  goes_on : (a b : Answer Done) → Cut Cuts a b → GoesOn Cuts (shown a) (shown b)
  goes_on a b (inl e) = inl (ap shown e)
  goes_on a b (inr s) = inr (
    subst (λ x. Cuts (shown x).1) (sym s.3) s.4,
    (s.2, transcript_shown b ∙ s.5 ∙ ap (λ l. l ++ s.2) (sym (ap (λ x. (shown x).0) s.3))),
  )

abbrev pub price : List ℕ → ℕ → ℕ
price costs r = get_or costs r 0

nothing_there : (r : ℕ) → price [] r ≡ 0
nothing_there zero = refl
nothing_there (suc r) = refl

pub no_cost : (rs : List ℕ) → sum_by (price []) rs ≡ 0
no_cost [] = refl
no_cost (r ∷ rs) = let e : price [] r ≡ 0 = nothing_there r in let f : sum_by (price []) rs ≡ 0 = no_cost rs in omega
    (arith, e, f)

pub never : (n : ℕ) → n ≡ 0 → nat_lt 0 n ≡ false
never n e = ap (nat_lt 0) e

tighter_than_none : (F G : List ℕ) (S H : ℕ) → Tighter IsStop (costs_of F G S H) (costs_of [] [] 0 0)
tighter_than_none F G S H = record {
  stack = λ active line. inr (never _ (no_cost active), tt);
  heap = λ made line. inr (never _ (no_cost made), tt);
}

pub limits_only_stop : (program : Program) (F G : List ℕ) (S H : ℕ) (input : List ℕ) (n : ℕ) → GoesOn IsStop
    (run_within program F G S H input n) (run program input n)
limits_only_stop program F G S H input n =
    let t = tighter_than_none F G S H in
    goes_on IsStop (answer program (costs_of F G S H) input n) (answer program (costs_of [] [] 0 0) input n)
    (call_beside IsStop program (costs_of F G S H) (costs_of [] [] 0 0) t (execute program (costs_of F G S H) n)
    (execute program (costs_of [] [] 0 0) n)
    (execute_beside IsStop program (costs_of F G S H) (costs_of [] [] 0 0) t n) 0 Outside [] first_context
    (first_world input)).cut

same_costs : (costs : Costs) → Tighter IsMore costs costs
same_costs costs = record { stack = λ active line. inl refl; heap = λ made line. inl refl }

extended : (program : Program) (costs : Costs) (n m : ℕ) → n ≤ m → (t : Task) (c : Context) (w : World)
    → Beside IsMore w (execute program costs n t c w) (execute program costs m t c w)
extended program costs zero m h t c w = cut_here IsMore w More (execute program costs m t c w) tt
    (execute_beside IsMore program costs costs (same_costs costs) m t c w).grows
extended program costs (suc n) zero h t c w = absurd (omega arith)
extended program costs (suc n) (suc m) h t c w =
    let nexts : (t : Task) (c : Context) (w : World) → Beside IsMore w (execute program costs n t c w)
    (execute program costs m t c w) = extended program costs n m (omega arith) in
    perform_beside IsMore program costs costs (same_costs costs) (call_routine program costs (execute program costs n))
    (call_routine program costs (execute program costs m))
    (call_beside IsMore program costs costs (same_costs costs) (execute program costs n)
    (execute program costs m) nexts) (execute program costs n) (execute program costs m) nexts t c w

pub fuel_only_extends : (program : Program) (F G : List ℕ) (S H : ℕ) (input : List ℕ) (m n : ℕ) → m ≤ n → GoesOn IsMore
    (run_within program F G S H input m) (run_within program F G S H input n)
fuel_only_extends program F G S H input m n h =
    let costs = costs_of F G S H in
    goes_on IsMore (answer program costs input m) (answer program costs input n)
    (call_beside IsMore program costs costs (same_costs costs) (execute program costs m) (execute program costs n)
    (extended program costs m n h) 0 Outside [] first_context (first_world input)).cut

-- a run that goes on to another, and does not break off, is the other
kept : (Breaks : Ending → Type 0) (x y z : Shown) → x ≡ z → (Breaks z.1 → ⊥) → GoesOn Breaks x y → y ≡ z
kept Breaks x y z e h (inl g) = sym g ∙ e
kept Breaks x y z e h (inr b) = absurd (h (subst (λ s. Breaks s.1) e b.0))

pub errors_stay : ErrorsStay
errors_stay program F G S H input n k transcript number line calls e =
    let later : run_within program F G S H input (n + k) ≡ (transcript, Error number line calls) = kept IsMore _ _ _ e
    (λ h. h) (fuel_only_extends program F G S H input n (n + k) (omega arith)) in
    (later, kept IsStop _ _ _ later (λ h. h) (limits_only_stop program F G S H input (n + k)))
