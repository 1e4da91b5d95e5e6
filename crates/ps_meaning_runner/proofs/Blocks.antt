-- Frames and contexts of called routines.
use Rattle.std.proofs.Common.{◌≡◌, ℕ, zero, suc, ◌+◌, ◌-◌, ◌<◌, ◌≤◌, ◌≢◌, Bool, true, false, if◌then◌else◌, Option}
use Rattle.std.proofs.Common.{List, [], ◌∷◌, ◌++◌, length, get_or, drop, map, refl, sym, ap, ◌∙◌, add-one, arith}
use Rattle.std.proofs.Math.Seq.{drop-cons}
use Rattle.std.proofs.lemmas.List.{drop_all}
use Rattle.ps_tree.specs.Types.{DataType}
use Rattle.ps_tree.specs.declared.types.Ty.{Ty}
use Rattle.ps_tree.specs.declared.tree.statements.Routine.{Routine}
use Rattle.behavior.specs.Endings.{Stack}
use Rattle.ps_tree.specs.Tree as Tree
use Rattle.ps_tree.specs.View.{type_of, routine_of, program_of}
use Rattle.ps_meaning.specs.Values as v
use Rattle.ps_meaning.specs.Worlds as m
use Rattle.ps_meaning.specs.Expressions as x
use Rattle.ps_meaning.specs.Statements as s
use Rattle.ps_meaning.specs.Calls.{Bound, declared, bind, bind_variables, bind_actuals, execute}
use Rattle.ps_meaning_runner.specs.declared.world.Setup.{Setup}
use Rattle.ps_meaning_runner.specs.declared.operands.Actual.{Actual}
use Rattle.ps_meaning_runner.specs.declared.value.Spot.{Spot}
use Rattle.ps_meaning_runner.specs.declared.world.Entry.{Entry, Variable}
use Rattle.ps_meaning_runner.specs.View.{spot_of}
use Rattle.ps_meaning_runner.specs.Worlds.{actual_of, caller, costs_in, entry_before, entries_of, next}
use Rattle.ps_meaning_runner.specs.Worlds as r
use Rattle.ps_meaning_runner.specs.Blocks.{with_entry, with_entries, bound_in}

pub declared_is : (x : v.Value) (w u : m.World) (s : Spot) (others : m.World → Bound) → u ≡ m.with_new w x → spot_of s
    ≡ v.entire (v.Declared w.next) → declared x others w ≡ with_entry (Variable s) (others u)
unfolding entry_before
declared_is x w u s others is at =
    ap (λ p. record {
      frame = m.variable_before p (others (m.with_new w x)).frame;
      world = (others (m.with_new w x)).world;
    }) (sym at) ∙ ap (λ z. with_entry (Variable s) (others z)) (sym is)

with_more : (entries : List Entry) (e : Entry) (b : Bound) → with_entries (entries ++ e ∷ []) b ≡ with_entries entries
    (with_entry e b)
with_more [] e b = refl
with_more (x ∷ rest) e b = ap (with_entry x) (with_more rest e b)

pub with_all : (entries : List Entry) (w : m.World) → with_entries entries (record {
  frame = m.no_entry;
  world = w;
}) ≡ bound_in entries w
unfolding entries_of
with_all [] w = refl
with_all (x ∷ rest) w = ap (with_entry x) (with_all rest w)

-- actual parameters from a place on
actuals_at : (actuals : List Actual) (i : ℕ) (a : Actual) → i < length actuals → a ≡ get_or actuals i a → map actual_of
    (drop i actuals) ≡ actual_of a ∷ map actual_of (drop (i + 1) actuals)
actuals_at actuals i a lt at = ap (map actual_of) (drop-cons actuals i a lt)
    ∙ ap (λ y. actual_of y ∷ map actual_of (drop (suc i) actuals)) (sym at)
    ∙ ap (λ j. actual_of a ∷ map actual_of (drop j actuals)) (sym (add-one i))

pub actuals_next : (actuals : List Actual) (i : ℕ) (a : Actual) (frame : List Entry) (e : Entry) (w u : m.World)
    → i < length actuals → a ≡ get_or actuals i a
    → ((rest : List x.Actual) (variables : List DataType) → bind_actuals (actual_of a ∷ rest) variables w ≡ with_entry e
    (bind_actuals rest variables u)) → (variables : List DataType) → with_entries frame
    (bind_actuals (map actual_of (drop i actuals)) variables w) ≡ with_entries (frame ++ e ∷ [])
    (bind_actuals (map actual_of (drop (i + 1) actuals)) variables u)
actuals_next actuals i a frame e w u lt at one variables =
    ap (λ l. with_entries frame (bind_actuals l variables w)) (actuals_at actuals i a lt at) ∙ ap (with_entries frame)
    (one (map actual_of (drop (i + 1) actuals)) variables) ∙ sym
    (with_more frame e (bind_actuals (map actual_of (drop (i + 1) actuals)) variables u))

pub actuals_end : (actuals : List Actual) (i : ℕ) (frame : List Entry) (w : m.World) → length actuals ≤ i
    → (variables : List DataType) → with_entries frame (bind_actuals (map actual_of (drop i actuals)) variables w)
    ≡ with_entries frame (bind_variables variables w)
actuals_end actuals i frame w le variables = ap (λ l. with_entries frame (bind_actuals (map actual_of l) variables w))
    (drop_all i actuals le)

-- variables from a place on
types_at : (types : List Ty) (i : ℕ) (ty : Ty) → i < length types → ty ≡ get_or types i ty → map type_of (drop i types)
    ≡ type_of ty ∷ map type_of (drop (i + 1) types)
types_at types i ty lt at = ap (map type_of) (drop-cons types i ty lt)
    ∙ ap (λ y. type_of y ∷ map type_of (drop (suc i) types)) (sym at)
    ∙ ap (λ j. type_of ty ∷ map type_of (drop j types)) (sym (add-one i))

pub variables_next : (types : List Ty) (i : ℕ) (ty : Ty) (y : v.Value) (frame : List Entry) (e : Entry) (w u : m.World)
    → i < length types → ty ≡ get_or types i ty → y ≡ v.first (type_of ty)
    → ((others : m.World → Bound) → declared y others w ≡ with_entry e (others u)) → with_entries frame
    (bind_variables (map type_of (drop i types)) w) ≡ with_entries (frame ++ e ∷ [])
    (bind_variables (map type_of (drop (i + 1) types)) u)
variables_next types i ty y frame e w u lt at is one =
    ap (λ l. with_entries frame (bind_variables l w)) (types_at types i ty lt at)
    ∙ ap (λ z. with_entries frame (declared z (bind_variables (map type_of (drop (i + 1) types))) w)) (sym is)
    ∙ ap (with_entries frame) (one (bind_variables (map type_of (drop (i + 1) types)))) ∙ sym
    (with_more frame e (bind_variables (map type_of (drop (i + 1) types)) u))

pub variables_end : (types : List Ty) (i : ℕ) (frame : List Entry) (w : m.World) → length types ≤ i → with_entries frame
    (bind_variables (map type_of (drop i types)) w) ≡ bound_in frame w
variables_end types i frame w le = ap (λ l. with_entries frame (bind_variables (map type_of l) w)) (drop_all i types le)
    ∙ with_all frame w

pub routine_found : (routines : List Routine) (domains : List Ty) (r : ℕ) (called : Routine) → r < length routines
    → called ≡ get_or routines r called → Tree.routine_at (program_of routines domains) r ≡ routine_of called
routine_found [] domains r called lt at = absurd (omega arith)
routine_found (x ∷ rest) domains zero called lt at = ap routine_of (sym at)
routine_found (x ∷ rest) domains (suc r) called lt at = routine_found rest domains r called (omega arith) at

pub routine_past : (routines : List Routine) (domains : List Ty) (r : ℕ) → length routines ≤ r → Tree.routine_at
    (program_of routines domains) r ≡ Tree.no_routine
routine_past [] domains r le = refl
routine_past (x ∷ rest) domains zero le = absurd (omega arith)
routine_past (x ∷ rest) domains (suc r) le = routine_past rest domains r (omega arith)

-- the routine with a number, and a number past those of all routines
pub numbered : (setup : Setup) (routines : List Routine) (number : ℕ) (called : Routine) → routines
    ≡ setup.program.now.routines → number < length routines → called ≡ get_or routines number called → Tree.routine_at
    (r.program_of setup) number ≡ routine_of called
numbered setup routines number called is lt at = ap
    (λ l. Tree.routine_at (program_of l setup.program.now.domains) number)
    (sym is) ∙ routine_found routines setup.program.now.domains number called lt at

pub not_numbered : (setup : Setup) (routines : List Routine) (number : ℕ) → routines ≡ setup.program.now.routines
    → length routines ≤ number → Tree.routine_at (r.program_of setup) number ≡ Tree.no_routine
not_numbered setup routines number is le = ap (λ l. Tree.routine_at (program_of l setup.program.now.domains) number)
    (sym is) ∙ routine_past routines setup.program.now.domains number le

if_true_at : {A B : Type 0} (b : Bool) (f g : A → B) (w : A) → b ≡ true → (if b then f else g) w ≡ f w
if_true_at b f g w is = ap (λ k. (if k then f else g) w) is

if_false_at : {A B : Type 0} (b : Bool) (f g : A → B) (w : A) → b ≡ false → (if b then f else g) w ≡ g w
if_false_at b f g w is = ap (λ k. (if k then f else g) w) is

-- a call that is stopped, and one that enters its block
pub stack_passed : (setup : Setup) (n number : ℕ) (parent : m.Env) (actuals : List x.Actual) (c : m.Context)
    (w : m.World)
    (line : ℕ) → (Tree.routine_at (r.program_of setup) number).line ≡ line → s.passes_stack (costs_in setup)
    (number ∷ c.active) ≡ true → caller setup n number parent actuals c w ≡ m.Ends w.transcript (Stack line)
unfolding caller
stack_passed setup n number parent actuals c w line is passes =
    if_true_at _ _ _ w passes ∙ ap (λ k. m.Ends w.transcript (Stack k)) is

-- a block whose names are bound
entered : Setup → (n number : ℕ) → m.Env → m.Context → Tree.Statements → Bound → m.Answer m.Done
entered setup n number parent c body b = execute (r.program_of setup) (costs_in setup) n (s.Block body) (record {
  env = m.Within b.frame parent;
  opened = [];
  active = number ∷ c.active;
  calls = c.calls;
}) b.world

pub block_entered : (setup : Setup) (n number : ℕ) (parent : m.Env) (actuals : List x.Actual) (c : m.Context)
    (w : m.World) (result : Option DataType) (variables : List DataType) (body : Tree.Statements) (bound : Bound)
    → (Tree.routine_at (r.program_of setup) number).result ≡ result
    → (Tree.routine_at (r.program_of setup) number).variables ≡ variables
    → (Tree.routine_at (r.program_of setup) number).body ≡ body → s.passes_stack (costs_in setup) (number ∷ c.active)
    ≡ false → bind result actuals variables w ≡ bound → caller setup n number parent actuals c w ≡ next setup n
    (s.Block body) (record {
      env = m.Within bound.frame parent;
      opened = [];
      active = number ∷ c.active;
      calls = c.calls;
    }) bound.world
unfolding caller next entered
block_entered setup n number parent actuals c w result variables body bound ends declares does passes did =
    if_false_at _ _ _ w passes ∙ ap (λ k. entered setup n number parent c k
    (bind (Tree.routine_at (r.program_of setup) number).result actuals
    (Tree.routine_at (r.program_of setup) number).variables w)) does ∙ ap (entered setup n number parent c body)
    (ap (λ k. bind k actuals (Tree.routine_at (r.program_of setup) number).variables w) ends
    ∙ ap (λ k. bind result actuals k w) declares ∙ did)

-- the block of a call, with no fuel left and with some
pub block_none : (setup : Setup) (n : ℕ) (body : Tree.Statements) (c : m.Context) (w : m.World) → n ≡ 0 → next setup n
    (s.Block body) c w ≡ r.used_up w
unfolding next
block_none setup n body c w none = ap (λ k. execute (r.program_of setup) (costs_in setup) k (s.Block body) c w) none

pub block_next : (setup : Setup) (n : ℕ) (body : Tree.Statements) (c : m.Context) (w : m.World) → n ≢ 0 → next setup n
    (s.Block body) c w ≡ r.acting_all setup (n - 1) body c w
unfolding next caller
block_next setup zero body c w more = absurd (more refl)
block_next setup (suc n) body c w more = ap (λ k. r.acting_all setup k body c w) (one_less n)
  where
    one_less : (k : ℕ) → k ≡ suc k - 1
    one_less k = omega arith
