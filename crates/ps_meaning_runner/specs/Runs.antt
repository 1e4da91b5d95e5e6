-- Parts of statements, and what a run shows.
use Rattle.std.specs.Prelude.{◌≡◌, ℕ, ◌+◌, ◌*◌, ◌<◌, ℤ, Bool, true, false, if◌then◌else◌, Result, Ok, Err}
use Rattle.behavior.specs.Transcripts.{Shown}
use Rattle.ps_tree.specs.Tree as t
use Rattle.ps_tree.specs.declared.tree.operators.Direction.{Direction}
use Rattle.ps_meaning.specs.Values as v
use Rattle.ps_meaning.specs.Operators.{is_equal, is_true, truth}
use Rattle.ps_meaning.specs.Worlds as m
use Rattle.ps_meaning.specs.Expressions as e
use Rattle.ps_meaning.specs.Statements as s
use Rattle.ps_meaning_runner.specs.declared.world.Setup.{Setup}
use Rattle.ps_meaning_runner.specs.declared.world.World.{World}
use Rattle.ps_meaning_runner.specs.Worlds.{caller, ending_of, program_of, world_of}
use Rattle.ps_meaning_runner.specs.declared.stop.Halt.{Halt}
use Rattle.ps_meaning_runner.specs.declared.stop.Halt.TheVariants.{Ended, OutOfMemory, TooDeep}
use Rattle.ps_meaning_runner.specs.declared.run.Ran.{Ran}
use Rattle.ps_meaning_runner.specs.declared.operators.Comparison.{Comparison}
use Rattle.ps_meaning_runner.specs.View.{compared}
use Rattle.ps_meaning_runner.specs.Heights.{highest}

-- The levels that calls with this fuel may take: each is no higher than the highest body. A part of a body also needs
-- those of its own height.
unfoldable pub call_levels : Setup → (fuel : ℕ) → ℕ
call_levels setup n = n * highest (program_of setup)

abbrev pub levels : Setup → (fuel height : ℕ) → ℕ
levels setup n height = height + call_levels setup n

-- the definition's answer is known to end the run, or fewer levels were allowed than are needed; nothing is said when
-- out of memory
abbrev pub Halted : {A : Type 0} → m.Answer A → (depth needed : ℕ) → Halt → World → Type 0
Halted answer depth needed (Ended ending calls) w = answer ≡ m.Ends w.transcript.items (ending_of ending calls.items)
Halted answer depth needed OutOfMemory w = Unit {0}
Halted answer depth needed TooDeep w = depth < needed

-- a part of the runner answers what the definition's answer is
abbrev pub Runs : {A R : Type 0} → (R → A) → m.Answer A → (depth needed : ℕ) → Result R Halt → World → Type 0
Runs view answer depth needed (Ok r) w = answer ≡ m.Gives (view r) (world_of w)
Runs view answer depth needed (Err halt) w = Halted answer depth needed halt w

-- the truth of a condition
abbrev pub truth_in : Setup → ℕ → t.Expr → m.Context → m.Act Bool
truth_in setup n condition c = λ w. m.and_then (e.value (caller setup n) condition c w)
    (λ x. m.give (is_true (v.number_of x)))

abbrev pub truth_of : Bool → Bool
truth_of b = b

-- two values are compared
abbrev pub comparing : Setup → ℕ → Comparison → t.Expr → t.Expr → m.Context → m.Act v.Value
comparing setup n comparison a b c = λ w. m.and_then (e.value (caller setup n) a c w)
    (λ x u. m.and_then (e.value (caller setup n) b c u)
    (λ y. m.give (v.OrdinalValue (truth (compared comparison x y)))))

-- the control variable of a for statement advances, and there is another iteration; or it had the last value
abbrev pub advancing : v.Spot → Direction → (last : ℤ) → m.Act Bool
advancing spot direction last = λ w. if is_equal (v.number_of (m.contents_in w spot)) last then m.Gives false w
    else m.Gives true (m.with_contents w spot
    (v.OrdinalValue (s.succeeding direction (v.number_of (m.contents_in w spot)))))

-- the transcript and the ending
abbrev pub shown : Ran → Shown
shown k = (k.transcript.items, ending_of k.ending k.calls.items)
