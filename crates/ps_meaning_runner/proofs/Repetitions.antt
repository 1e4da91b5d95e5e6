-- What `while` and `repeat` statements come to, one turn after another.
use Rattle.std.proofs.Common.{◌≡◌, ℕ, ℤ, zero, suc, ◌≤◌, Bool, true, false, if◌then◌else◌, ◌-◌, ◌≢◌, max, arith, List}
use Rattle.std.proofs.Common.{Result, Vec, Global, refl, sym, ap, subst, ◌∙◌}
use mathlib.Core.Path.{fun_ext}
use Rattle.ps_tree.specs.Tree as t
use Rattle.ps_tree.specs.declared.tree.operators.Direction.{Direction}
use Rattle.ps_tree.specs.declared.tree.Expr.{Expr}
use Rattle.ps_tree.specs.declared.tree.statements.Statement.{Statement, Repeat}
use Rattle.ps_tree.specs.View.{expr_of, statement_of, statements_of}
use Rattle.ps_meaning.specs.Values as v
use Rattle.ps_meaning.specs.Operators.{is_true}
use Rattle.ps_meaning.specs.Worlds as m
use Rattle.ps_meaning.specs.Worlds.{◌>>◌}
use Rattle.ps_meaning.specs.Expressions as e
use Rattle.ps_meaning.specs.Statements as s
use Rattle.ps_meaning_runner.specs.declared.value.Value.{Value}
use Rattle.ps_meaning_runner.specs.declared.world.Setup.{Setup}
use Rattle.ps_meaning_runner.specs.declared.world.World.{World}
use Rattle.ps_meaning_runner.specs.Worlds as r
use Rattle.ps_meaning_runner.specs.Worlds.{Stopped, caller, next, acting, acting_all}
use Rattle.ps_meaning_runner.specs.declared.stop.Halt.{Halt}
use Rattle.ps_meaning_runner.specs.Heights.{expr_height, statement_height, statements_height}
use Rattle.ps_meaning_runner.specs.Runs.{Halted, Runs, call_levels, levels, truth_in}
use Rattle.ps_meaning_runner.proofs.Heights.{fewer_calls}
use Rattle.ps_meaning_runner.proofs.Answers.{stopped_then, halted_by, runs_deeper}
use Rattle.ps_meaning_runner.proofs.Trees as tree
use Rattle.ps_meaning_runner.proofs.Acts.{stopped_same, then_gives}

-- with no fuel left, and with one more
pub next_none : (setup : Setup) (n : ℕ) (task : s.Task) (c : m.Context) (w : m.World) → n ≡ 0 → next setup n task c w
    ≡ r.used_up w
unfolding next
next_none setup n task c w none = ap (λ k. next setup k task c w) none

pub one_less : (k : ℕ) → suc k - 1 ≡ k
one_less k = omega arith

block_next : (setup : Setup) (n : ℕ) (body : t.Statements) (c : m.Context) (w : m.World) → next setup (suc n)
    (s.Block body) c w ≡ acting_all setup n body c w
unfolding next caller
block_next setup n body c w = refl

again_next : (setup : Setup) (n : ℕ) (statement : t.Statement) (c : m.Context) (w : m.World) → next setup (suc n)
    (s.Again statement) c w ≡ acting setup n statement c w
unfolding next caller
again_next setup n statement c w = refl

pub further_next : (setup : Setup) (n variable : ℕ) (direction : Direction) (last : ℤ) (statement : t.Statement)
    (c : m.Context)
    (w : m.World) → next setup (suc n) (s.Further variable direction last statement) c w ≡ s.turn (r.program_of setup)
    (r.costs_in setup) (caller setup n) (next setup n) variable direction last statement c w
unfolding next caller
further_next setup n variable direction last statement c w = refl

-- blocks
pub block_over : (setup : Setup) (n : ℕ) (body : t.Statements) (c : m.Context) (w : m.World) → n ≡ 0 → r.used_up w
    ≡ next setup n (s.Block body) c w
block_over setup n body c w none = sym (next_none setup n (s.Block body) c w none)

pub block_done : (setup : Setup) (n : ℕ) (body : t.Statements) (c : m.Context) (w : m.World) → n ≢ 0 → acting_all setup
    (n - 1) body c w ≡ next setup n (s.Block body) c w
block_done setup zero body c w more = absurd (more refl)
block_done setup (suc n) body c w more = ap (λ k. acting_all setup k body c w) (one_less n) ∙ sym
    (block_next setup n body c w)

-- conditions
truth_split : (a : m.Answer v.Value) (f g : m.Act m.Done) → m.and_then a (λ x. if is_true (v.number_of x) then f else g)
    ≡ m.and_then (m.and_then a (λ x. m.give (is_true (v.number_of x)))) (λ k. if k then f else g)
truth_split (m.Gives x w) f g = refl
truth_split (m.Ends out ending) f g = refl

-- while statements
while_again : Setup → ℕ → t.Expr → t.Statement → m.Context → Bool → m.Act m.Done
while_again setup n a b c k = if k then (acting setup n b c >> next setup n (s.Again (t.While a b)) c) else m.give
    m.done

while_is : (setup : Setup) (n : ℕ) (a : t.Expr) (b : t.Statement) (c : m.Context) (w : m.World) → acting setup n
    (t.While a b) c w ≡ m.and_then (truth_in setup n a c w) (while_again setup n a b c)
unfolding while_again
while_is setup n a b c w = truth_split (e.value (caller setup n) a c w)
    (acting setup n b c >> next setup n (s.Again (t.While a b)) c) (m.give m.done)

while_stop : (setup : Setup) (n : ℕ) (a : t.Expr) (b : t.Statement) (c : m.Context) (stop : Halt) (w : m.World)
    (u : World)
    (all : m.Answer m.Done) → acting setup n (t.While a b) c w ≡ all → Stopped (truth_in setup n a c w) stop u
    → Stopped all stop u
while_stop setup n a b c stop w u all is h =
    stopped_same _ all stop u (sym (while_is setup n a b c w) ∙ is)
    (stopped_then (truth_in setup n a c w) (while_again setup n a b c) stop u h)

pub while_halt : (setup : Setup) (j n : ℕ) (a : t.Expr) (b : t.Statement) (c : m.Context) (halt : Halt) (w : m.World)
    (u : World) (all : m.Answer m.Done) (d : ℕ) → j ≤ n → acting setup j (t.While a b) c w ≡ all → Halted
    (truth_in setup j a c w) d (levels setup j (expr_height a)) halt u → Halted all d
    (levels setup n (max (expr_height a) (statement_height b))) halt u
while_halt setup j n a b c halt w u all d le is h =
    let fewer : call_levels setup j ≤ call_levels setup n = fewer_calls setup j n le in
    halted_by (truth_in setup j a c w) all halt u d (levels setup j (expr_height a)) d
    (levels setup n (max (expr_height a) (statement_height b))) (λ stop s. while_stop setup j a b c stop w u all is s) h
    (omega arith)

while_begun : (setup : Setup) (n : ℕ) (a : t.Expr) (b : t.Statement) (c : m.Context) (k : Bool) (w u : m.World)
    (all : m.Answer m.Done) → acting setup n (t.While a b) c w ≡ all → truth_in setup n a c w ≡ m.Gives k u
    → while_again setup n a b c k u ≡ all
while_begun setup n a b c k w u all is gives = sym (while_is setup n a b c w ∙ then_gives _ _ _ _ gives) ∙ is

pub while_done : (setup : Setup) (n : ℕ) (a : t.Expr) (b : t.Statement) (c : m.Context) (k : Bool) (w u : m.World)
    (all : m.Answer m.Done) → acting setup n (t.While a b) c w ≡ all → truth_in setup n a c w ≡ m.Gives k u → k ≡ false
    → all ≡ m.Gives m.done u
unfolding while_again
while_done setup n a b c k w u all is gives fails = sym (while_begun setup n a b c k w u all is gives)
    ∙ ap (λ x. while_again setup n a b c x u) fails

while_turn : (setup : Setup) (n : ℕ) (a : t.Expr) (b : t.Statement) (c : m.Context) (k : Bool) (w u : m.World)
    (all : m.Answer m.Done) → acting setup n (t.While a b) c w ≡ all → truth_in setup n a c w ≡ m.Gives k u → k ≡ true
    → m.and_then (acting setup n b c u) (λ _. next setup n (s.Again (t.While a b)) c) ≡ all
unfolding while_again
while_turn setup n a b c k w u all is gives holds = sym (ap (λ x. while_again setup n a b c x u) holds)
    ∙ while_begun setup n a b c k w u all is gives

while_body : (setup : Setup) (n : ℕ) (a : t.Expr) (b : t.Statement) (c : m.Context) (k : Bool) (stop : Halt)
    (w u : m.World)
    (z : World) (all : m.Answer m.Done) → acting setup n (t.While a b) c w ≡ all → truth_in setup n a c w ≡ m.Gives k u
    → k ≡ true → Stopped (acting setup n b c u) stop z → Stopped all stop z
while_body setup n a b c k stop w u z all is gives holds h =
    stopped_same _ all stop z (while_turn setup n a b c k w u all is gives holds)
    (stopped_then (acting setup n b c u) (λ _. next setup n (s.Again (t.While a b)) c) stop z h)

pub while_body_halt : (setup : Setup) (j n : ℕ) (a : t.Expr) (b : t.Statement) (c : m.Context) (k : Bool) (halt : Halt)
    (w u : m.World) (z : World) (all : m.Answer m.Done) (d : ℕ) → j ≤ n → acting setup j (t.While a b) c w ≡ all
    → truth_in setup j a c w ≡ m.Gives k u → k ≡ true → Halted (acting setup j b c u) d
    (levels setup j (statement_height b)) halt z → Halted all d
    (levels setup n (max (expr_height a) (statement_height b))) halt z
while_body_halt setup j n a b c k halt w u z all d le is gives holds h =
    let fewer : call_levels setup j ≤ call_levels setup n = fewer_calls setup j n le in
    halted_by (acting setup j b c u) all halt z d (levels setup j (statement_height b)) d
    (levels setup n (max (expr_height a) (statement_height b)))
    (λ stop s. while_body setup j a b c k stop w u z all is gives holds s) h (omega arith)

while_further : (setup : Setup) (n : ℕ) (a : t.Expr) (b : t.Statement) (c : m.Context) (k : Bool) (w u z : m.World)
    (all : m.Answer m.Done) → acting setup n (t.While a b) c w ≡ all → truth_in setup n a c w ≡ m.Gives k u → k ≡ true
    → acting setup n b c u ≡ m.Gives m.done z → next setup n (s.Again (t.While a b)) c z ≡ all
while_further setup n a b c k w u z all is gives holds did = sym
    (then_gives (acting setup n b c u) (λ _. next setup n (s.Again (t.While a b)) c) m.done z did)
    ∙ while_turn setup n a b c k w u all is gives holds

pub while_over : (setup : Setup) (n : ℕ) (a : t.Expr) (b : t.Statement) (c : m.Context) (k : Bool) (w u z : m.World)
    (all : m.Answer m.Done) → acting setup n (t.While a b) c w ≡ all → truth_in setup n a c w ≡ m.Gives k u → k ≡ true
    → acting setup n b c u ≡ m.Gives m.done z → n ≡ 0 → r.used_up z ≡ all
while_over setup n a b c k w u z all is gives holds did none = sym (next_none setup n (s.Again (t.While a b)) c z none)
    ∙ while_further setup n a b c k w u z all is gives holds did

pub while_next : (setup : Setup) (n : ℕ) (a : t.Expr) (b : t.Statement) (c : m.Context) (k : Bool) (w u z : m.World)
    (all : m.Answer m.Done) → acting setup n (t.While a b) c w ≡ all → truth_in setup n a c w ≡ m.Gives k u → k ≡ true
    → acting setup n b c u ≡ m.Gives m.done z → n ≢ 0 → acting setup (n - 1) (t.While a b) c z ≡ all
while_next setup zero a b c k w u z all is gives holds did more = absurd (more refl)
while_next setup (suc n) a b c k w u z all is gives holds did more = ap (λ j. acting setup j (t.While a b) c z)
    (one_less n)
    ∙ sym (again_next setup n (t.While a b) c z) ∙ while_further setup (suc n) a b c k w u z all is gives holds did

-- repeat statements
repeat_again : Setup → ℕ → t.Statements → t.Expr → m.Context → Bool → m.Act m.Done
repeat_again setup n b a c k = if k then m.give m.done else next setup n (s.Again (t.Repeat b a)) c

repeat_is : (setup : Setup) (n : ℕ) (b : t.Statements) (a : t.Expr) (c : m.Context) (w : m.World) → acting setup n
    (t.Repeat b a) c w ≡ m.and_then (acting_all setup n b c w)
    (λ _ u. m.and_then (truth_in setup n a c u) (repeat_again setup n b a c))
unfolding repeat_again
repeat_is setup n b a c w =
    let F : m.Done → m.Act m.Done = λ _ u. m.and_then (e.value (caller setup n) a c u)
    (λ x. if is_true (v.number_of x) then m.give m.done else next setup n (s.Again (t.Repeat b a)) c) in
    let G : m.Done → m.Act m.Done = λ _ u. m.and_then (truth_in setup n a c u)
    (λ k. if k then m.give m.done else next setup n (s.Again (t.Repeat b a)) c) in
    ap (m.and_then (acting_all setup n b c w)) (fun_ext {f = F} {g = G}
    (λ _. fun_ext (λ u. truth_split (e.value (caller setup n) a c u) (m.give m.done)
    (next setup n (s.Again (t.Repeat b a)) c))))

repeat_stop : (setup : Setup) (n : ℕ) (b : t.Statements) (a : t.Expr) (c : m.Context) (stop : Halt) (w : m.World)
    (u : World) (all : m.Answer m.Done) → acting setup n (t.Repeat b a) c w ≡ all → Stopped
    (acting_all setup n b c w) stop u → Stopped all stop u
repeat_stop setup n b a c stop w u all is h =
    stopped_same _ all stop u (sym (repeat_is setup n b a c w) ∙ is)
    (stopped_then (acting_all setup n b c w) (λ _ z. m.and_then (truth_in setup n a c z) (repeat_again setup n b a c))
    stop u h)

pub repeat_halt : (setup : Setup) (j n : ℕ) (b : t.Statements) (a : t.Expr) (c : m.Context) (halt : Halt) (w : m.World)
    (u : World) (all : m.Answer m.Done) (d : ℕ) → j ≤ n → acting setup j (t.Repeat b a) c w ≡ all → Halted
    (acting_all setup j b c w) d (levels setup j (statements_height b)) halt u → Halted all d
    (levels setup n (max (statements_height b) (expr_height a))) halt u
repeat_halt setup j n b a c halt w u all d le is h =
    let fewer : call_levels setup j ≤ call_levels setup n = fewer_calls setup j n le in
    halted_by (acting_all setup j b c w) all halt u d (levels setup j (statements_height b)) d
    (levels setup n (max (statements_height b) (expr_height a)))
    (λ stop s. repeat_stop setup j b a c stop w u all is s) h (omega arith)

repeat_begun : (setup : Setup) (n : ℕ) (b : t.Statements) (a : t.Expr) (c : m.Context) (w u : m.World)
    (all : m.Answer m.Done) → acting setup n (t.Repeat b a) c w ≡ all → acting_all setup n b c w ≡ m.Gives m.done u
    → m.and_then (truth_in setup n a c u) (repeat_again setup n b a c) ≡ all
repeat_begun setup n b a c w u all is did = sym
    (repeat_is setup n b a c w ∙ then_gives (acting_all setup n b c w)
    (λ _ z. m.and_then (truth_in setup n a c z) (repeat_again setup n b a c)) m.done u did) ∙ is

repeat_until_stop : (setup : Setup) (n : ℕ) (b : t.Statements) (a : t.Expr) (c : m.Context) (stop : Halt)
    (w u : m.World)
    (z : World) (all : m.Answer m.Done) → acting setup n (t.Repeat b a) c w ≡ all → acting_all setup n b c w
    ≡ m.Gives m.done u → Stopped (truth_in setup n a c u) stop z → Stopped all stop z
repeat_until_stop setup n b a c stop w u z all is did h =
    stopped_same _ all stop z (repeat_begun setup n b a c w u all is did)
    (stopped_then (truth_in setup n a c u) (repeat_again setup n b a c) stop z h)

pub repeat_until_halt : (setup : Setup) (j n : ℕ) (b : t.Statements) (a : t.Expr) (c : m.Context) (halt : Halt)
    (w u : m.World) (z : World) (all : m.Answer m.Done) (d : ℕ) → j ≤ n → acting setup j (t.Repeat b a) c w ≡ all
    → acting_all setup j b c w ≡ m.Gives m.done u
    → Halted (truth_in setup j a c u) d (levels setup j (expr_height a)) halt z
    → Halted all d (levels setup n (max (statements_height b) (expr_height a))) halt z
repeat_until_halt setup j n b a c halt w u z all d le is did h =
    let fewer : call_levels setup j ≤ call_levels setup n = fewer_calls setup j n le in
    halted_by (truth_in setup j a c u) all halt z d (levels setup j (expr_height a)) d
    (levels setup n (max (statements_height b) (expr_height a)))
    (λ stop s. repeat_until_stop setup j b a c stop w u z all is did s) h (omega arith)

repeat_known : (setup : Setup) (n : ℕ) (b : t.Statements) (a : t.Expr) (c : m.Context) (k : Bool) (w u z : m.World)
    (all : m.Answer m.Done) → acting setup n (t.Repeat b a) c w ≡ all → acting_all setup n b c w ≡ m.Gives m.done u
    → truth_in setup n a c u ≡ m.Gives k z → repeat_again setup n b a c k z ≡ all
repeat_known setup n b a c k w u z all is did gives = sym
    (then_gives (truth_in setup n a c u) (repeat_again setup n b a c) k z gives)
    ∙ repeat_begun setup n b a c w u all is did

pub repeat_done : (setup : Setup) (n : ℕ) (b : t.Statements) (a : t.Expr) (c : m.Context) (k : Bool) (w u z : m.World)
    (all : m.Answer m.Done) → acting setup n (t.Repeat b a) c w ≡ all → acting_all setup n b c w ≡ m.Gives m.done u
    → truth_in setup n a c u ≡ m.Gives k z → k ≡ true → all ≡ m.Gives m.done z
unfolding repeat_again
repeat_done setup n b a c k w u z all is did gives holds = sym (repeat_known setup n b a c k w u z all is did gives)
    ∙ ap (λ x. repeat_again setup n b a c x z) holds

repeat_further : (setup : Setup) (n : ℕ) (b : t.Statements) (a : t.Expr) (c : m.Context) (k : Bool) (w u z : m.World)
    (all : m.Answer m.Done) → acting setup n (t.Repeat b a) c w ≡ all → acting_all setup n b c w ≡ m.Gives m.done u
    → truth_in setup n a c u ≡ m.Gives k z → k ≡ false → next setup n (s.Again (t.Repeat b a)) c z ≡ all
unfolding repeat_again
repeat_further setup n b a c k w u z all is did gives fails = sym (ap (λ x. repeat_again setup n b a c x z) fails)
    ∙ repeat_known setup n b a c k w u z all is did gives

pub repeat_over : (setup : Setup) (n : ℕ) (b : t.Statements) (a : t.Expr) (c : m.Context) (k : Bool) (w u z : m.World)
    (all : m.Answer m.Done) → acting setup n (t.Repeat b a) c w ≡ all → acting_all setup n b c w ≡ m.Gives m.done u
    → truth_in setup n a c u ≡ m.Gives k z → k ≡ false → n ≡ 0 → r.used_up z ≡ all
repeat_over setup n b a c k w u z all is did gives fails none = sym
    (next_none setup n (s.Again (t.Repeat b a)) c z none) ∙ repeat_further setup n b a c k w u z all is did gives fails

pub repeat_next : (setup : Setup) (n : ℕ) (b : t.Statements) (a : t.Expr) (c : m.Context) (k : Bool) (w u z : m.World)
    (all : m.Answer m.Done) → acting setup n (t.Repeat b a) c w ≡ all → acting_all setup n b c w ≡ m.Gives m.done u
    → truth_in setup n a c u ≡ m.Gives k z → k ≡ false → n ≢ 0 → acting setup (n - 1) (t.Repeat b a) c z ≡ all
repeat_next setup zero b a c k w u z all is did gives fails more = absurd (more refl)
repeat_next setup (suc n) b a c k w u z all is did gives fails more = ap (λ j. acting setup j (t.Repeat b a) c z)
    (one_less n) ∙ sym (again_next setup n (t.Repeat b a) c z) ∙ repeat_further setup
    (suc n) b a c k w u z all is did gives fails

pub repeat_runs : (setup : Setup) (n : ℕ) (c : m.Context) (w : m.World) (x : Statement) (condition : Expr)
    (v : Vec Statement Global) (items : List Statement) (result : Result (Unit {0}) Halt) (u : World) (d : ℕ) → x
    ≡ Repeat v condition → items ≡ v.items → Runs r.done_of
    (acting setup n (t.Repeat (statements_of items) (expr_of condition)) c w) (d - 1)
    (levels setup n (max (statements_height (statements_of items)) (expr_height (expr_of condition)))) result u
    → Runs r.done_of (acting setup n (statement_of x) c w) d (levels setup n (statement_height (statement_of x))) result
    u
repeat_runs setup n c w x condition v items result u d is at h =
    subst (λ (y : t.Statement). Runs r.done_of (acting setup n y c w) d (levels setup n (statement_height y)) result u)
    (tree.repeat_is x condition v items is at)
    (runs_deeper r.done_of (acting setup n (t.Repeat (statements_of items) (expr_of condition)) c w) result u (d - 1)
    (levels setup n (max (statements_height (statements_of items)) (expr_height (expr_of condition)))) d
    (levels setup n (suc (max (statements_height (statements_of items)) (expr_height (expr_of condition))))) h
    (omega arith))
