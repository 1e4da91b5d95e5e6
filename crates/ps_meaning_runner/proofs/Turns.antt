-- What `for` statements come to, one turn after another.
use Rattle.std.proofs.Common.{◌≡◌, ℕ, ℤ, zero, suc, ◌≤◌, Bool, true, false, if◌then◌else◌, ◌-◌, ◌≢◌, max, arith, Result}
use Rattle.std.proofs.Common.{refl, sym, ap, subst, ◌∙◌}
use Rattle.ps_tree.specs.Tree as t
use Rattle.ps_tree.specs.declared.tree.operators.Direction.{Direction}
use Rattle.ps_tree.specs.declared.tree.operators.Range.{Range}
use Rattle.ps_tree.specs.declared.tree.operators.Range.TheVariants.{Within as WithinBounds}
use Rattle.ps_tree.specs.declared.tree.Expr.{Expr}
use Rattle.ps_tree.specs.declared.tree.statements.Statement.{Statement}
use Rattle.ps_meaning.specs.Values as v
use Rattle.ps_meaning.specs.Operators.{is_equal}
use Rattle.ps_meaning.specs.Worlds as m
use Rattle.ps_meaning.specs.Expressions as e
use Rattle.ps_meaning.specs.Statements as s
use Rattle.ps_meaning_runner.specs.declared.value.Value.{Value}
use Rattle.ps_meaning_runner.specs.declared.world.Setup.{Setup}
use Rattle.ps_meaning_runner.specs.declared.world.World.{World}
use Rattle.ps_meaning_runner.specs.Worlds as r
use Rattle.ps_meaning_runner.specs.Worlds.{Stopped, caller, next, acting, turning}
use Rattle.ps_meaning_runner.specs.declared.stop.Halt.{Halt}
use Rattle.ps_meaning_runner.specs.Heights.{expr_height, statement_height}
use Rattle.ps_meaning_runner.specs.Runs.{Halted, Runs, call_levels, levels, advancing}
use Rattle.ps_meaning_runner.proofs.Heights.{fewer_calls}
use Rattle.ps_meaning_runner.proofs.Answers.{stopped_then, halted_by}
use Rattle.ps_meaning_runner.proofs.Acts.{halts_same, runs_same, stopped_same, then_gives}
use Rattle.ps_meaning_runner.proofs.Repetitions.{further_next, next_none, one_less}

-- for statements: a body, and the other turns
turn_again : Setup → ℕ → (variable : ℕ) → Direction → (last : ℤ) → t.Statement → m.Context → Bool → m.Act m.Done
turn_again setup n variable direction last b c k = if k then turning setup n variable direction last b c else m.give
    m.done

turn_is : (setup : Setup) (n variable : ℕ) (direction : Direction) (last : ℤ) (b : t.Statement) (c : m.Context)
    (w : m.World) → s.turn (r.program_of setup) (r.costs_in setup) (caller setup n) (next setup n) variable direction
    last b c w
    ≡ m.and_then (advancing (s.own_spot variable c) direction last w) (turn_again setup n variable direction last b c)
unfolding turn_again turning
turn_is setup n variable direction last b c w =
    elim (is_equal (v.number_of (m.contents_in w (s.own_spot variable c))) last) as
    (λ k. (if k then m.give m.done else (λ u. m.and_then
    (m.put (s.own_spot variable c) (v.OrdinalValue
    (s.succeeding direction (v.number_of (m.contents_in w (s.own_spot variable c))))) u)
    (λ _ z. m.and_then (acting setup n b c z) (λ _. next setup n (s.Further variable direction last b) c)))) w
    ≡ m.and_then (if k then m.Gives false w else m.Gives true
    (m.with_contents w (s.own_spot variable c)
    (v.OrdinalValue (s.succeeding direction (v.number_of (m.contents_in w (s.own_spot variable c)))))))
    (λ x. if x then (λ u. m.and_then (acting setup n b c u) (λ _. next setup n (s.Further variable direction last b) c))
    else m.give m.done)) [ true ↦ refl | false ↦ refl ]

turns_stop : (setup : Setup) (n variable : ℕ) (direction : Direction) (last : ℤ) (b : t.Statement) (c : m.Context)
    (stop : Halt) (w : m.World) (u : World) (all : m.Answer m.Done)
    → turning setup n variable direction last b c w ≡ all → Stopped (acting setup n b c w) stop u → Stopped all stop u
unfolding turning
turns_stop setup n variable direction last b c stop w u all is h =
    stopped_same _ all stop u is (stopped_then (acting setup n b c w)
    (λ _. next setup n (s.Further variable direction last b) c) stop u h)

pub turns_halt : (setup : Setup) (j n variable : ℕ) (direction : Direction) (last : ℤ) (b : t.Statement) (c : m.Context)
    (halt : Halt) (w : m.World) (u : World) (all : m.Answer m.Done) (d : ℕ) → j ≤ n
    → turning setup j variable direction last b c w ≡ all → Halted (acting setup j b c w) d
    (levels setup j (statement_height b)) halt u → Halted all d (levels setup n (statement_height b)) halt u
turns_halt setup j n variable direction last b c halt w u all d le is h =
    let fewer : call_levels setup j ≤ call_levels setup n = fewer_calls setup j n le in
    halted_by (acting setup j b c w) all halt u d (levels setup j (statement_height b)) d
    (levels setup n (statement_height b)) (λ stop s. turns_stop setup j variable direction last b c stop w u all is s) h
    (omega arith)

turns_further : (setup : Setup) (n variable : ℕ) (direction : Direction) (last : ℤ) (b : t.Statement) (c : m.Context)
    (w u : m.World) (all : m.Answer m.Done) → turning setup n variable direction last b c w ≡ all → acting setup n b c w
    ≡ m.Gives m.done u → next setup n (s.Further variable direction last b) c u ≡ all
unfolding turning
turns_further setup n variable direction last b c w u all is did = sym
    (then_gives (acting setup n b c w) (λ _. next setup n (s.Further variable direction last b) c) m.done u did) ∙ is

pub turns_over : (setup : Setup) (n variable : ℕ) (direction : Direction) (last : ℤ) (b : t.Statement) (c : m.Context)
    (w u : m.World) (all : m.Answer m.Done) → turning setup n variable direction last b c w ≡ all → acting setup n b c w
    ≡ m.Gives m.done u → n ≡ 0 → r.used_up u ≡ all
turns_over setup n variable direction last b c w u all is did none = sym
    (next_none setup n (s.Further variable direction last b) c u none)
    ∙ turns_further setup n variable direction last b c w u all is did

turns_begun : (setup : Setup) (n variable : ℕ) (direction : Direction) (last : ℤ) (b : t.Statement) (c : m.Context)
    (spot : v.Spot) (w u : m.World) (all : m.Answer m.Done) → turning setup n variable direction last b c w ≡ all
    → acting setup n b c w ≡ m.Gives m.done u → n ≢ 0 → spot ≡ s.own_spot variable c → m.and_then
    (advancing spot direction last u) (turn_again setup (n - 1) variable direction last b c) ≡ all
turns_begun setup zero variable direction last b c spot w u all is did more at = absurd (more refl)
turns_begun setup (suc n) variable direction last b c spot w u all is did more at =
    ap (λ j. m.and_then (advancing spot direction last u) (turn_again setup j variable direction last b c)) (one_less n)
    ∙ ap (λ y. m.and_then (advancing y direction last u) (turn_again setup n variable direction last b c)) at ∙ sym
    (further_next setup n variable direction last b c u ∙ turn_is setup n variable direction last b c u)
    ∙ turns_further setup (suc n) variable direction last b c w u all is did

turns_known : (setup : Setup) (n variable : ℕ) (direction : Direction) (last : ℤ) (b : t.Statement) (c : m.Context)
    (spot : v.Spot) (k : Bool) (w u z : m.World) (all : m.Answer m.Done) → turning setup n variable direction last b c w
    ≡ all → acting setup n b c w ≡ m.Gives m.done u → n ≢ 0 → spot ≡ s.own_spot variable c
    → advancing spot direction last u ≡ m.Gives k z → turn_again setup (n - 1) variable direction last b c k z ≡ all
turns_known setup n variable direction last b c spot k w u z all is did more at gives = sym
    (then_gives (advancing spot direction last u) (turn_again setup (n - 1) variable direction last b c) k z gives)
    ∙ turns_begun setup n variable direction last b c spot w u all is did more at

pub turns_done : (setup : Setup) (n variable : ℕ) (direction : Direction) (last : ℤ) (b : t.Statement) (c : m.Context)
    (spot : v.Spot) (k : Bool) (w u z : m.World) (all : m.Answer m.Done) → turning setup n variable direction last b c w
    ≡ all → acting setup n b c w ≡ m.Gives m.done u → n ≢ 0 → spot ≡ s.own_spot variable c
    → advancing spot direction last u ≡ m.Gives k z → k ≡ false → all ≡ m.Gives m.done z
unfolding turn_again
turns_done setup n variable direction last b c spot k w u z all is did more at gives fails = sym
    (turns_known setup n variable direction last b c spot k w u z all is did more at gives)
    ∙ ap (λ x. turn_again setup (n - 1) variable direction last b c x z) fails

pub turns_next : (setup : Setup) (n variable : ℕ) (direction : Direction) (last : ℤ) (b : t.Statement) (c : m.Context)
    (spot : v.Spot) (k : Bool) (w u z : m.World) (all : m.Answer m.Done) → turning setup n variable direction last b c w
    ≡ all → acting setup n b c w ≡ m.Gives m.done u → n ≢ 0 → spot ≡ s.own_spot variable c
    → advancing spot direction last u ≡ m.Gives k z → k ≡ true
    → turning setup (n - 1) variable direction last b c z ≡ all
unfolding turn_again
turns_next setup n variable direction last b c spot k w u z all is did more at gives holds = sym
    (ap (λ x. turn_again setup (n - 1) variable direction last b c x z) holds)
    ∙ turns_known setup n variable direction last b c spot k w u z all is did more at gives

-- a for statement whose bounds were evaluated
for_is : (setup : Setup) (n variable : ℕ) (low high : ℤ) (a : t.Expr) (from_line : ℕ) (direction : Direction)
    (b : t.Expr) (to_line : ℕ) (body : t.Statement) (c : m.Context) (w : m.World) → acting setup n
    (t.For variable low high a from_line direction b to_line body) c w ≡ m.and_then (e.value (caller setup n) a c w)
    (λ x u. m.and_then (e.value (caller setup n) b c u)
    (λ y. r.counting setup n variable low high x from_line direction y to_line body c))
unfolding turning
for_is setup n variable low high a from_line direction b to_line body c w = refl

pub for_counts : (setup : Setup) (n variable : ℕ) (low high : ℤ) (a : t.Expr) (from_line : ℕ) (direction : Direction)
    (b : t.Expr) (to_line : ℕ) (body : t.Statement) (c : m.Context) (x y : v.Value) (w u z : m.World) → e.value
    (caller setup n) a c w ≡ m.Gives x u → e.value (caller setup n) b c u ≡ m.Gives y z
    → r.counting setup n variable low high x from_line direction y to_line body c z ≡ acting setup n
    (t.For variable low high a from_line direction b to_line body) c w
for_counts setup n variable low high a from_line direction b to_line body c x y w u z first second =
    sym (for_is setup n variable low high a from_line direction b to_line body c w ∙ then_gives
    (e.value (caller setup n) a c w) (λ i j. m.and_then (e.value (caller setup n) b c j)
    (λ k. r.counting setup n variable low high i from_line direction k to_line body c)) x u first ∙ then_gives
    (e.value (caller setup n) b c u) (λ k. r.counting setup n variable low high x from_line direction k to_line body c)
    y z second)

-- one act after another, and a third
then_third : (b : m.Answer v.Value) (g h : m.Act m.Done) → m.and_then b (λ _ z. m.and_then (g z) (λ _. h)) ≡ m.and_then
    (m.and_then b (λ _. g)) (λ _. h)
then_third (m.Gives y z) g h = refl
then_third (m.Ends out ending) g h = refl

then_fourth : (a : m.Answer v.Value) (f : m.Act v.Value) (g h : m.Act m.Done) → m.and_then a
    (λ _ u. m.and_then (f u) (λ _ z. m.and_then (g z) (λ _. h))) ≡ m.and_then
    (m.and_then a (λ _ u. m.and_then (f u) (λ _. g))) (λ _. h)
then_fourth (m.Gives x u) f g h = then_third (f u) g h
then_fourth (m.Ends out ending) f g h = refl

-- the range of a control variable
pub within_is : (low high from to : ℤ) → from ≡ low → to ≡ high → WithinBounds from to ≡ WithinBounds low high
within_is low high from to is so = ap (λ k. WithinBounds k to) is ∙ ap (WithinBounds low) so

module _ (setup : Setup) (n variable : ℕ) (low high : ℤ) (a : t.Expr) (from_line : ℕ) (direction : Direction)
    (b : t.Expr) (to_line : ℕ) (body : t.Statement) (c : m.Context) (x y : v.Value) (w u z : m.World) where
  pub for_past : e.value (caller setup n) a c w ≡ m.Gives x u → e.value (caller setup n) b c u ≡ m.Gives y z
      → s.is_past direction (v.number_of x) (v.number_of y) ≡ true → acting setup n
      (t.For variable low high a from_line direction b to_line body) c w ≡ m.Gives m.done z
  for_past first second past = sym
      (for_counts setup n variable low high a from_line direction b to_line body c x y w u z
      first second) ∙ ap (λ k. (if k then m.give m.done else for_turns) z) past
    where
      for_turns : m.Act m.Done
      for_turns = λ i. m.and_then (e.fitting (WithinBounds low high) x from_line c i)
          (λ _ j. m.and_then (e.fitting (WithinBounds low high) y to_line c j)
          (λ _ k. m.and_then (m.put (s.own_spot variable c) x k)
          (λ _. turning setup n variable direction (v.number_of y) body c)))

  for_begins : e.value (caller setup n) a c w ≡ m.Gives x u → e.value (caller setup n) b c u ≡ m.Gives y z
      → s.is_past direction (v.number_of x) (v.number_of y) ≡ false → acting setup n
      (t.For variable low high a from_line direction b to_line body) c w ≡ m.and_then
      (r.beginning variable (WithinBounds low high) x from_line y to_line c z)
      (λ _. turning setup n variable direction (v.number_of y) body c)
  for_begins first second more = sym
      (for_counts setup n variable low high a from_line direction b to_line body c x y w u
      z first second) ∙ ap (λ k. (if k then m.give m.done else for_turns) z) more ∙ then_fourth
      (e.fitting (WithinBounds low high) x from_line c z) (e.fitting (WithinBounds low high) y to_line c)
      (m.put (s.own_spot variable c) x) (turning setup n variable direction (v.number_of y) body c)
    where
      for_turns : m.Act m.Done
      for_turns = λ i. m.and_then (e.fitting (WithinBounds low high) x from_line c i)
          (λ _ j. m.and_then (e.fitting (WithinBounds low high) y to_line c j)
          (λ _ k. m.and_then (m.put (s.own_spot variable c) x k)
          (λ _. turning setup n variable direction (v.number_of y) body c)))

  pub for_stops : (halt : Halt) (k : World) (d needed : ℕ) → e.value (caller setup n) a c w ≡ m.Gives x u → e.value
      (caller setup n) b c u ≡ m.Gives y z → s.is_past direction (v.number_of x) (v.number_of y) ≡ false
      → (range : Range)
      → range ≡ WithinBounds low high → Stopped (r.beginning variable range x from_line y to_line c z) halt k → Halted
      (acting setup n (t.For variable low high a from_line direction b to_line body) c w) d needed halt k
  for_stops halt k d needed first second more range is h = halts_same _ _ halt k d needed
      (sym (for_begins first second more)) (stopped_then
      (r.beginning variable (WithinBounds low high) x from_line y to_line c z)
      (λ _. turning setup n variable direction (v.number_of y) body c) halt k
      (subst (λ l. Stopped (r.beginning variable l x from_line y to_line c z) halt k) is h))

  pub for_runs : (begun : m.World) (result : Result (Unit {0}) Halt) (k : World) (d : ℕ)
      → e.value (caller setup n) a c w
      ≡ m.Gives x u → e.value (caller setup n) b c u ≡ m.Gives y z → s.is_past direction (v.number_of x) (v.number_of y)
      ≡ false → (range : Range) → range ≡ WithinBounds low high → r.beginning variable range x from_line y to_line c z
      ≡ m.Gives m.done begun → Runs r.done_of (turning setup n variable direction (v.number_of y) body c begun) d
      (levels setup n (statement_height body)) result k → Runs r.done_of
      (acting setup n (t.For variable low high a from_line direction b to_line body) c w) d
      (levels setup n (max (expr_height a) (max (expr_height b) (statement_height body)))) result k
  for_runs begun result k d first second more range is did h = runs_same r.done_of _ _ result k d
      (levels setup n (statement_height body)) (levels setup n
      (max (expr_height a) (max (expr_height b) (statement_height body))))
      (sym (for_begins first second more ∙ then_gives
      (r.beginning variable (WithinBounds low high) x from_line y to_line c z)
      (λ _. turning setup n variable direction (v.number_of y) body c) m.done begun
      (ap (λ l. r.beginning variable l x from_line y to_line c z) (sym is) ∙ did))) (omega arith) h

for_stop : (setup : Setup) (n variable : ℕ) (low high : ℤ) (a : t.Expr) (from_line : ℕ) (direction : Direction)
    (b : t.Expr) (to_line : ℕ) (body : t.Statement) (c : m.Context) (stop : Halt) (w : m.World) (u : World) → Stopped
    (e.value (caller setup n) a c w) stop u → Stopped
    (acting setup n (t.For variable low high a from_line direction b to_line body) c w) stop u
for_stop setup n variable low high a from_line direction b to_line body c stop w u h =
    stopped_same _ _ stop u (sym (for_is setup n variable low high a from_line direction b to_line body c w))
    (stopped_then (e.value (caller setup n) a c w)
    (λ i j. m.and_then (e.value (caller setup n) b c j)
    (λ k. r.counting setup n variable low high i from_line direction k to_line body c)) stop u h)

pub for_halt : (setup : Setup) (n variable : ℕ) (low high : ℤ) (a : t.Expr) (from_line : ℕ) (direction : Direction)
    (b : t.Expr) (to_line : ℕ) (body : t.Statement) (c : m.Context) (halt : Halt) (w : m.World) (u : World) (d : ℕ)
    → Halted (e.value (caller setup n) a c w) d (levels setup n (expr_height a)) halt u → Halted
    (acting setup n (t.For variable low high a from_line direction b to_line body) c w) d
    (levels setup n (max (expr_height a) (max (expr_height b) (statement_height body)))) halt u
for_halt setup n variable low high a from_line direction b to_line body c halt w u d h =
    halted_by (e.value (caller setup n) a c w) (acting setup n
    (t.For variable low high a from_line direction b to_line body) c w) halt u d (levels setup n (expr_height a)) d
    (levels setup n (max (expr_height a) (max (expr_height b) (statement_height body))))
    (λ stop s. for_stop setup n variable low high a from_line direction b to_line body c stop w u s) h (omega arith)

for_stop_second : (setup : Setup) (n variable : ℕ) (low high : ℤ) (a : t.Expr) (from_line : ℕ) (direction : Direction)
    (b : t.Expr) (to_line : ℕ) (body : t.Statement) (c : m.Context) (x : v.Value) (stop : Halt) (w u : m.World)
    (z : World) → e.value (caller setup n) a c w ≡ m.Gives x u → Stopped (e.value (caller setup n) b c u) stop z
    → Stopped (acting setup n (t.For variable low high a from_line direction b to_line body) c w) stop z
for_stop_second setup n variable low high a from_line direction b to_line body c x stop w u z first h =
    stopped_same _ _ stop z (sym (for_is setup n variable low high a from_line direction b to_line body c w ∙ then_gives
    (e.value (caller setup n) a c w) (λ i j. m.and_then (e.value (caller setup n) b c j)
    (λ k. r.counting setup n variable low high i from_line direction k to_line body c)) x u first))
    (stopped_then (e.value (caller setup n) b c u)
    (λ k. r.counting setup n variable low high x from_line direction k to_line body c) stop z h)

pub for_halt_second : (setup : Setup) (n variable : ℕ) (low high : ℤ) (a : t.Expr) (from_line : ℕ)
    (direction : Direction)
    (b : t.Expr) (to_line : ℕ) (body : t.Statement) (c : m.Context) (x : v.Value) (halt : Halt) (w u : m.World)
    (z : World) (d : ℕ) → e.value (caller setup n) a c w ≡ m.Gives x u → Halted (e.value (caller setup n) b c u) d
    (levels setup n (expr_height b)) halt z → Halted
    (acting setup n (t.For variable low high a from_line direction b to_line body) c w) d
    (levels setup n (max (expr_height a) (max (expr_height b) (statement_height body)))) halt z
for_halt_second setup n variable low high a from_line direction b to_line body c x halt w u z d first h =
    halted_by (e.value (caller setup n) b c u) (acting setup n
    (t.For variable low high a from_line direction b to_line body) c w) halt z d (levels setup n (expr_height b)) d
    (levels setup n (max (expr_height a) (max (expr_height b) (statement_height body))))
    (λ stop s. for_stop_second setup n variable low high a from_line direction b to_line body c x stop w u z first s)
    h (omega arith)
