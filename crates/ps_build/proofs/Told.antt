-- An outcome reports how the machine's run ended, and on known input how that over plain lists did.
use Rattle.std.proofs.Common.{◌≡◌, ℕ, zero, suc, ◌+◌, ◌*◌, ◌%◌, ◌≤◌, Bool, true, false, cond, List, [], ◌++◌, length}
use Rattle.std.proofs.Common.{take, arith, Option, Some, None, refl, sym, ap, ◌∙◌, subst}
use Rattle.std.specs.Prelude.{nat_lt, nat_eq, ◌==◌, ◌||◌, not}
use Rattle.std.specs.Io.KnownBytes.{Appends}
use Rattle.behavior.specs.Transcripts.{output}
use Rattle.risc_load.specs.Refusal.{budget_fault}
use Rattle.risc_load.specs.declared.budget.LoadRefusal.TheVariants.{BudgetUneven, BudgetTooLarge}
use Rattle.behavior.specs.Endings as ending
use Rattle.risc_machine.specs.declared.stop.Stop.{Stop}
use Rattle.risc_machine.specs.declared.stop.Stop.TheVariants as m
use Rattle.risc_machine.specs.Console.{World}
use Rattle.risc_machine.specs.Step.{State}
use Rattle.risc_machine.specs.Exec.{Runs, Halt, Running, Stopped, Faulted, fresh, exec, row_at, trap_ending}
use Rattle.risc_machine.specs.Exec.{fault_kind}
use Rattle.risc_machine.specs.Laws.{stop_at, IsLeftAt, Ended, Follows, Counts}
use Rattle.risc_machine.proofs.Counting.{run_counts}
use Rattle.risc_machine.proofs.Following.{run_follows_exec}
use Rattle.risc_machine.specs.declared.limits.TheConstants.{MAX_MEMORY}
use Rattle.risc_image.specs.Image.{Image}
use Rattle.risc_load.specs.declared.budget.Budget.{Budget}
use Rattle.risc_load.specs.Loaded.{loaded_state}
use Rattle.ps_build.specs.declared.outcome.Outcome.{Outcome}
use Rattle.ps_build.specs.declared.outcome.Outcome.TheVariants.{Normal, Error, Stack, Heap, Steps, InputFault}
use Rattle.ps_build.specs.declared.outcome.Outcome.TheVariants.{OutputFault, Fault}
use Rattle.risc_load.specs.Shows.{trap_rows, IsBudget}
use Rattle.risc_emit_laws.specs.Outcome.{image_outcome, calls_at, ending_of}
use Rattle.risc_emit_trail.specs.Told.{trail_of}
use Rattle.risc_emit_trail.proofs.Limit.{trail_is}
use Rattle.ps_build.specs.Devices.{AsksInput, AsksOutput}
use Rattle.ps_build.specs.Runs as of
use Rattle.ps_build.specs.Runs.{trail_told, outcome_told, trap_told, IsToldBy, Moved, Ends, Breaks, Tells}
use Rattle.ps_build.specs.Runs.{CountsFaults, if_known, as_seen}
use Rattle.ps_build.proofs.DeviceFailed.{DeviceFailed, Left, Shows, run_shows}
use Rattle.ps_build.proofs.Seen.{hears, run_heard}

-- the outcome of a stop by a row reports the ending by that row
row_told : (image : Image) (row : Option (ℕ × ℕ × ℕ)) (calls : List ℕ) (trail : Option (List ℕ)) → trail
    ≡ trail_told image (take 16 calls) → outcome_told image (trap_ending row calls) ≡ Some (trap_told row trail)
row_told image None calls trail e = refl
row_told image (Some row) calls trail e = by_number (nat_eq row.1 12) (nat_eq row.1 13)
  where
    by_number : (stack heap : Bool) → outcome_told image
        (cond stack (ending.Stack row.2) (cond heap (ending.Heap row.2) (ending.failed row.1 row.2 calls))) ≡ Some
        (cond stack (Stack 12 row.2) (cond heap (Heap 13 row.2) (Error row.1 row.2 trail)))
    by_number true heap = refl
    by_number false true = refl
    by_number false false = ap (λ t. Some (Error row.1 row.2 t)) (sym e)

-- the outcome of the stop that a halt is reports the halt's ending
told_by : (image : Image) (h : Halt) (left : State) (outcome : Outcome) → IsLeftAt h left → IsToldBy image left
    (stop_at h) outcome → outcome_told image (ending_of image h) ≡ Some outcome
told_by image Running left outcome at e = ap Some (sym e)
told_by image (Stopped zero s) left outcome at e = ap Some (sym e)
told_by image (Stopped (suc k) s) left outcome at e =
    row_told image (row_at (suc k) (trap_rows image)) (calls_at image s) (trail_of image left)
    (ap (trail_of image) at ∙ trail_is image s) ∙ ap Some (sym e)
told_by image (Faulted kind) left outcome at e = ap Some (sym e)

-- a fault of a device is no ending
no_input : (image : Image) (e : ending.Ending) → outcome_told image e ≡ Some InputFault → ⊥
no_input image ending.More h = cc h
no_input image ending.Normal h = cc h
no_input image (ending.Error number line calls) h = cc h
no_input image (ending.Stack line) h = cc h
no_input image (ending.Heap line) h = cc h
no_input image (ending.Fault kind) h = cc h
no_input image ending.Stuck h = cc h

no_output : (image : Image) (e : ending.Ending) → outcome_told image e ≡ Some OutputFault → ⊥
no_output image ending.More h = cc h
no_output image ending.Normal h = cc h
no_output image (ending.Error number line calls) h = cc h
no_output image (ending.Stack line) h = cc h
no_output image (ending.Heap line) h = cc h
no_output image (ending.Fault kind) h = cc h
no_output image ending.Stuck h = cc h

-- an outcome that reports an ending is of a run that no device disturbed
tells_end : (outcome : Outcome) (e : ending.Ending) (image : Image) (budget : Budget) (n : ℕ) (input : List ℕ)
    (before : Option (List ℕ)) (after : World) → outcome_told image e ≡ Some outcome → Ends image budget n input before after outcome
    → Tells outcome image budget n input before after
tells_end Normal e image budget n input before after h ends = ends
tells_end (Error number line trail) e image budget n input before after h ends = ends
tells_end (Stack number line) e image budget n input before after h ends = ends
tells_end (Heap number line) e image budget n input before after h ends = ends
tells_end Steps e image budget n input before after h ends = ends
tells_end (Fault kind) e image budget n input before after h ends = ends
tells_end InputFault e image budget n input before after h ends = absurd (no_input image e h)
tells_end OutputFault e image budget n input before after h ends = absurd (no_output image e h)

counts_end : (image : Image) (outcome : Outcome) (e : ending.Ending) (old new : World) → outcome_told image e
    ≡ Some outcome → new.faults ≡ old.faults → CountsFaults outcome old new
counts_end image Normal e old new h same = same
counts_end image (Error number line trail) e old new h same = same
counts_end image (Stack number line) e old new h same = same
counts_end image (Heap number line) e old new h same = same
counts_end image Steps e old new h same = same
counts_end image (Fault kind) e old new h same = same
counts_end image InputFault e old new h same = absurd (no_input image e h)
counts_end image OutputFault e old new h same = absurd (no_output image e h)

trap_counts : (row : Option (ℕ × ℕ × ℕ)) (trail : Option (List ℕ)) (old new : World) → new.faults ≡ old.faults
    → CountsFaults (trap_told row trail) old new
trap_counts None trail old new same = same
trap_counts (Some row) trail old new same = by_number (nat_eq row.1 12) (nat_eq row.1 13)
  where
    by_number : (stack heap : Bool) → CountsFaults
        (cond stack (Stack 12 row.2) (cond heap (Heap 13 row.2) (Error row.1 row.2 trail))) old new
    by_number true heap = same
    by_number false true = same
    by_number false false = same

-- the loaded machine
abbrev loaded : Image → Budget → State
loaded image budget = loaded_state image budget

-- ---- runs that are told

-- what was moved is told of two consoles alike, so how the runs over them ended is
module _ (image : Image) (budget : Budget) (n : ℕ) (input : List ℕ) (known told : Option (List ℕ)) (old new : World)
    (moved : (steps : ℕ) → Moved image budget input known steps old → Moved image budget input told steps new) where
  ends_alike : (outcome : Outcome) → Ends image budget n input known old outcome
      → Ends image budget n input told new outcome
  ends_alike outcome e = record { moved = moved n e.moved; ending = e.ending }

  breaks_alike : (Asks : State → Type 0) → Breaks Asks image budget n input known old
      → Breaks Asks image budget n input told new
  breaks_alike Asks b = record {
    steps = b.steps;
    fewer = b.fewer;
    running = b.running;
    asking = b.asking;
    moved = moved b.steps b.moved;
  }

  pub tells_alike : (outcome : Outcome) → Tells outcome image budget n input known old
      → Tells outcome image budget n input told new
  tells_alike InputFault h = breaks_alike AsksInput h
  tells_alike OutputFault h = breaks_alike AsksOutput h
  tells_alike Normal h = ends_alike Normal h
  tells_alike (Error number line trail) h = ends_alike (Error number line trail) h
  tells_alike (Stack number line) h = ends_alike (Stack number line) h
  tells_alike (Heap number line) h = ends_alike (Heap number line) h
  tells_alike Steps h = ends_alike Steps h
  tells_alike (Fault kind) h = ends_alike (Fault kind) h

appends : (before : List ℕ) (after : Option (List ℕ)) (bs : List ℕ) → after ≡ Some (before ++ bs) → Appends
    (Some before) after bs
appends before after bs e = subst (λ known. Appends (Some before) known bs) (sym e) refl

module _ (image : Image) (budget : Budget) (n : ℕ) (left : State) (outcome : Outcome) where
  -- over a console that reports its bytes
  module _ (old new : World) (input before : List ℕ) where
    ended : (stop : Stop) → IsToldBy image left stop outcome → Ended n (loaded image budget) left
        (fresh input) before new stop → Left n (loaded image budget) (fresh input) new
        → Tells outcome image budget n input (Some before) new
    ended stop told e rest =
        let h = (exec n (loaded image budget) (fresh input)).1 in
        let told_end = told_by image h left outcome e.state (subst (λ s. IsToldBy image left s outcome) e.ending told)
        in
        tells_end outcome (ending_of image h) image budget n input (Some before) new told_end (record {
          moved = record { written = appends before new.output _ e.output; left = rest };
          ending = told_end;
        })

    broken : (Asks : State → Type 0) → DeviceFailed Asks n (loaded image budget) (fresh input) before new
        → Breaks Asks image budget n input (Some before) new
    broken Asks b =
        record {
          steps = b.steps;
          fewer = b.fewer;
          running = ap (ending_of image) b.running;
          asking = b.asking;
          moved = record { written = appends before new.output _ b.output; left = b.left };
        }

    shown : (stop : Stop) → Follows stop n (loaded image budget) left (fresh input) before new → Shows stop n
        (loaded image budget) (fresh input) before new → IsToldBy image left stop outcome
        → Tells outcome image budget n input (Some before) new
    shown m.Normal f s told = ended m.Normal told f s
    shown (m.Trap link) f s told = ended (m.Trap link) told f s
    shown m.Steps f s told = ended m.Steps told f s
    shown (m.Fault kind) f s told = ended (m.Fault kind) told f s
    shown m.InputFault f s told =
        subst (λ x. Tells x image budget n input (Some before) new) (sym told) (broken AsksInput s)
    shown m.OutputFault f s told =
        subst (λ x. Tells x image budget n input (Some before) new) (sym told) (broken AsksOutput s)

    run_told : (stop : Stop) → Runs n (loaded image budget) old left new stop → IsToldBy image left stop outcome
        → old.input ≡ Some input → old.output ≡ Some before → Tells outcome image budget n input (Some before) new
    run_told stop r told i o =
        shown stop (run_follows_exec n (loaded image budget) left old new stop r input before i o)
        (run_shows n (loaded image budget) left old new stop r input before i o) told

  module _ (old new : World) (stop : Stop) (r : Runs n (loaded image budget) old left (as_seen old new) stop)
      (told : IsToldBy image left stop outcome) (input : List ℕ) (i : old.input ≡ Some input) where
    -- what is left is seen
    left_seen : (as_seen old new).input ≡ new.input
    left_seen = ap (λ known. if_known known new.input) i

    -- a console whose output isn't reported is told of as one that reports it
    unwritten : Tells outcome image budget n input None new
    unwritten =
        let h = run_heard n (loaded image budget) left old (as_seen old new) stop r [] in
        tells_alike image budget n input (Some []) None (hears h.0 (as_seen old new)) new
        (λ steps m. record { written = tt; left = sym left_seen ∙ m.left }) outcome
        (run_told (hears [] old) (hears h.0 (as_seen old new)) input [] stop h.1 told i refl)

    written : (before : List ℕ) → old.output ≡ Some before → Tells outcome image budget n input (Some before) new
    written before o = tells_alike image budget n input (Some before) (Some before) (as_seen old new) new
        (λ steps m. record {
          written = subst (λ known. Appends (Some before) known
              (output (image_outcome image budget.heap budget.stack input steps).0))
              (ap (λ known. if_known known new.output) o) m.written;
          left = sym left_seen ∙ m.left;
        }) outcome (run_told old (as_seen old new) input before stop r told i o)

    all_told : (known : Option (List ℕ)) → old.output ≡ known → Tells outcome image budget n input known new
    all_told None o = unwritten
    all_told (Some before) o = written before o

counts_of : (image : Image) (left : State) (old new : World) (outcome : Outcome) (stop : Stop) → Counts stop old
    (as_seen old new) → IsToldBy image left stop outcome → CountsFaults outcome old new
counts_of image left old new outcome m.Normal counts told =
    counts_end image outcome ending.Normal old new (ap Some (sym told)) counts
counts_of image left old new outcome (m.Trap link) counts told =
    subst (λ x. CountsFaults x old new) (sym told)
    (trap_counts (row_at link (trap_rows image)) (trail_of image left) old new counts)
counts_of image left old new outcome m.Steps counts told =
    counts_end image outcome ending.More old new (ap Some (sym told)) counts
counts_of image left old new outcome (m.Fault kind) counts told =
    counts_end image outcome (ending.Fault (fault_kind kind)) old new (ap Some (sym told)) counts
counts_of image left old new outcome m.InputFault counts told =
    subst (λ x. CountsFaults x old new) (sym told) counts
counts_of image left old new outcome m.OutputFault counts told =
    subst (λ x. CountsFaults x old new) (sym told) counts

-- a run of the loaded machine is the image's
pub runs_of : (image : Image) (budget : Budget) (n : ℕ) (left : State) (old new : World) (outcome : Outcome)
    (stop : Stop) → IsBudget image budget.heap budget.stack → Runs n (loaded image budget) old left
    (as_seen old new) stop → IsToldBy image left stop outcome → of.Runs image budget n old new outcome
runs_of image budget n left old new outcome stop fits r told =
    record {
      loaded = fits;
      made = record { left = left; stop = stop; steps = r; reports = told };
      told = λ input bytes i. all_told image budget n left outcome old new stop r told input i old.output refl;
      faults = counts_of image left old new outcome stop
          (run_counts n (loaded image budget) left old (as_seen old new) stop r) told;
    }

-- ---- the budget

-- the tests of a budget that find nothing wrong
passed : {A : Type 0} (x y : A) (a b c : Bool) → cond (not a || not b) (Some x) (cond c (Some y) None) ≡ None
    → (a ≡ true) × (b ≡ true) × (c ≡ false)
passed x y true true true e = absurd (cc e)
passed x y true true false e = (refl, refl, refl)
passed x y true false c e = absurd (cc e)
passed x y false true c e = absurd (cc e)
passed x y false false c e = absurd (cc e)

pub budget_of : (image : Image) (budget : Budget) → budget_fault image budget ≡ None
    → IsBudget image budget.heap budget.stack
budget_of image budget e =
    let p = passed BudgetUneven BudgetTooLarge (budget.stack % 4 == 0) (budget.heap % 4 == 0)
    (nat_lt MAX_MEMORY (4 * length image.code + image.global + budget.heap + budget.stack)) e in
    record {
      heap_even = is_same (budget.heap % 4) 0 p.1;
      stack_even = is_same (budget.stack % 4) 0 p.0;
      fits = is_most MAX_MEMORY (4 * length image.code + image.global + budget.heap + budget.stack) p.2;
    }
  where
    is_same : (a b : ℕ) → nat_eq a b ≡ true → a ≡ b
    is_same a b e = grind arith

    is_most : (a b : ℕ) → nat_lt a b ≡ false → b ≤ a
    is_most a b e = grind arith
