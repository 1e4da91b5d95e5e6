-- What calls of procedures and of functions come to.
use Rattle.std.proofs.Common.{◌≡◌, ℕ, arith, List, Result, sym, ap, subst, ◌∙◌}
use Rattle.ps_tree.specs.Tree as t
use Rattle.ps_meaning.specs.Values as v
use Rattle.ps_meaning.specs.Worlds as m
use Rattle.ps_meaning.specs.Expressions as e
use Rattle.ps_meaning_runner.specs.declared.operands.Callee.{Callee}
use Rattle.ps_meaning_runner.specs.declared.value.Value.{Value}
use Rattle.ps_meaning_runner.specs.View.{value_of}
use Rattle.ps_meaning_runner.specs.declared.world.Setup.{Setup}
use Rattle.ps_meaning_runner.specs.declared.world.World.{World}
use Rattle.ps_meaning_runner.specs.Worlds as r
use Rattle.ps_meaning_runner.specs.Worlds.{Stopped, caller, next}
use Rattle.ps_meaning_runner.specs.declared.stop.Halt.{Halt}
use Rattle.ps_meaning_runner.specs.Heights.{arguments_height}
use Rattle.ps_meaning_runner.specs.Runs.{Halted, Runs, levels}
use Rattle.ps_meaning_runner.proofs.Answers.{stopped_then, halted_then, answers_run}
use Rattle.ps_meaning_runner.proofs.Acts.{halts_same, runs_same, then_gives}

-- calls, once their actual parameters were taken
called_is : (setup : Setup) (n : ℕ) (callee : Callee) (arguments : t.Arguments) (line : ℕ) (c : m.Context)
    (actuals : List e.Actual) (w u : m.World) → e.actuals_of (caller setup n) arguments c w ≡ m.Gives actuals u
    → r.called setup n callee arguments line c w ≡ caller setup n (r.callee_routine callee c)
    (r.callee_env callee c) actuals (e.calling line c) u
called_is setup n callee arguments line c actuals w u gives = then_gives (e.actuals_of (caller setup n) arguments c w)
    (λ xs. caller setup n (r.callee_routine callee c) (r.callee_env callee c) xs (e.calling line c)) actuals u gives

pub called_stops : (setup : Setup) (n : ℕ) (callee : Callee) (arguments : t.Arguments) (line : ℕ) (c : m.Context)
    (actuals : List e.Actual) (w u : m.World) (halt : Halt) (z : World) (d needed : ℕ) → e.actuals_of
    (caller setup n) arguments c w ≡ m.Gives actuals u → Stopped
    (caller setup n (r.callee_routine callee c) (r.callee_env callee c) actuals (e.calling line c) u) halt z → Halted
    (r.called setup n callee arguments line c w) d needed halt z
called_stops setup n callee arguments line c actuals w u halt z d needed gives h = halts_same _ _ halt z d needed
    (sym (called_is setup n callee arguments line c actuals w u gives)) h

pub called_runs : (setup : Setup) (n : ℕ) (callee : Callee) (arguments : t.Arguments) (line : ℕ) (c : m.Context)
    (actuals : List e.Actual) (w u : m.World) (block : m.Answer m.Done) (result : Result (Unit {0}) Halt) (z : World)
    (d : ℕ) → e.actuals_of (caller setup n) arguments c w ≡ m.Gives actuals u
    → caller setup n (r.callee_routine callee c)
    (r.callee_env callee c) actuals (e.calling line c) u ≡ block → Runs r.done_of block d (levels setup n 0) result z
    → Runs r.done_of (r.called setup n callee arguments line c w) d (levels setup n (arguments_height arguments)) result
    z
called_runs setup n callee arguments line c actuals w u block result z d gives same h =
    runs_same r.done_of block _ result z d (levels setup n 0) (levels setup n (arguments_height arguments))
    (sym (called_is setup n callee arguments line c actuals w u gives ∙ same)) (omega arith) h

-- functions, whose result is the first variable that the call declares
valued_is : (setup : Setup) (n : ℕ) (callee : Callee) (arguments : t.Arguments) (line : ℕ) (c : m.Context)
    (actuals : List e.Actual) (w u : m.World) → e.actuals_of (caller setup n) arguments c w ≡ m.Gives actuals u
    → r.called_value setup n callee arguments line c w ≡ m.and_then
    (caller setup n (r.callee_routine callee c) (r.callee_env callee c) actuals (e.calling line c) u)
    (λ _. m.contents (v.entire (v.Declared u.next)))
valued_is setup n callee arguments line c actuals w u gives = then_gives (e.actuals_of (caller setup n) arguments c w)
    (λ xs. e.function_value (caller setup n) (r.callee_routine callee c) (r.callee_env callee c) xs (e.calling line c))
    actuals u gives

pub valued_stops : (setup : Setup) (n : ℕ) (callee : Callee) (arguments : t.Arguments) (line : ℕ) (c : m.Context)
    (actuals : List e.Actual) (w u : m.World) (halt : Halt) (z : World) (d needed : ℕ) → e.actuals_of
    (caller setup n) arguments c w ≡ m.Gives actuals u → Stopped
    (caller setup n (r.callee_routine callee c) (r.callee_env callee c) actuals (e.calling line c) u) halt z → Halted
    (r.called_value setup n callee arguments line c w) d needed halt z
valued_stops setup n callee arguments line c actuals w u halt z d needed gives h = halts_same _ _ halt z d needed
    (sym (valued_is setup n callee arguments line c actuals w u gives))
    (stopped_then (caller setup n (r.callee_routine callee c) (r.callee_env callee c) actuals (e.calling line c) u)
    (λ _. m.contents (v.entire (v.Declared u.next))) halt z h)

pub valued_halts : (setup : Setup) (n : ℕ) (callee : Callee) (arguments : t.Arguments) (line : ℕ) (c : m.Context)
    (actuals : List e.Actual) (w u : m.World) (block : m.Answer m.Done) (halt : Halt) (z : World) (d : ℕ) → e.actuals_of
    (caller setup n) arguments c w ≡ m.Gives actuals u → caller setup n (r.callee_routine callee c)
    (r.callee_env callee c) actuals (e.calling line c) u ≡ block → Halted block d (levels setup n 0) halt z → Halted
    (r.called_value setup n callee arguments line c w) d (levels setup n (arguments_height arguments)) halt z
valued_halts setup n callee arguments line c actuals w u block halt z d gives same h =
    subst (λ a. Halted a d (levels setup n (arguments_height arguments)) halt z)
    (sym (valued_is setup n callee arguments line c actuals w u gives
    ∙ ap (λ a. m.and_then a (λ _. m.contents (v.entire (v.Declared u.next)))) same))
    (halted_then block (λ _. m.contents (v.entire (v.Declared u.next))) halt z d (levels setup n 0) d
    (levels setup n (arguments_height arguments)) h (omega arith))

pub valued_runs : (setup : Setup) (n : ℕ) (callee : Callee) (arguments : t.Arguments) (line : ℕ) (c : m.Context)
    (actuals : List e.Actual) (w u after : m.World) (result : Result Value Halt) (z : World) (d needed : ℕ)
    → e.actuals_of (caller setup n) arguments c w ≡ m.Gives actuals u → caller setup n (r.callee_routine callee c)
    (r.callee_env callee c) actuals (e.calling line c) u ≡ m.Gives m.done after → r.Answers value_of
    (m.contents (v.entire (v.Declared u.next)) after) result z → Runs value_of
    (r.called_value setup n callee arguments line c w) d needed result z
valued_runs setup n callee arguments line c actuals w u after result z d needed gives same h =
    subst (λ a. Runs value_of a d needed result z)
    (sym (valued_is setup n callee arguments line c actuals w u gives ∙ then_gives
    (caller setup n (r.callee_routine callee c) (r.callee_env callee c) actuals (e.calling line c) u)
    (λ _. m.contents (v.entire (v.Declared u.next))) m.done after same))
    (answers_run value_of (m.contents (v.entire (v.Declared u.next)) after) result z d needed h)
