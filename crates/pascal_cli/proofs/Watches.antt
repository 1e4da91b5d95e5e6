-- What becomes of texts whose runs are watched.
use Rattle.std.proofs.Common.{◌≡◌, ◌⊎◌, ◌∙◌, ◌+◌, inl, inr, refl, sym, subst, ap, ℕ, Bool, true, false, not, List}
use Rattle.std.proofs.Common.{Option, Some, None, arith}
use Rattle.std.specs.Prelude.{is_some, nat_eq, if◌then◌else◌}
use Rattle.risc_machine.specs.Console.{World}
use Rattle.ps_build.specs.Headline.{Compiles}
use Rattle.ps_map.specs.declared.map.Map.{Map}
use Rattle.pascal_command.specs.Command.{Limits, Text}
use Rattle.pascal_cli.specs.Failures.{Keeps, NotesFault, status_told}
use Rattle.pascal_cli.specs.Jobs.{RanBuilt, RanImage}
use Rattle.pascal_cli.specs.Watched.{Covers, IsReported, IsRun, IsTraced, IsWatched, IsWatchedFile, first, more}
use Rattle.pascal_cli.specs.Watched.{first_failed, has_routine, lacks_routine}
use Rattle.pascal_cli.proofs.Ran.{ran_of}

-- the status after the report on a run
pub reported : (Ran : ℕ → Type 0) (is_told old new : Bool) (ended status : ℕ) → Ran ended
    → status ≡ status_told is_told ended → NotesFault is_told old new → IsReported Ran new status
reported Ran true old new ended status ran e noted = inl (subst Ran (sym e) ran)
reported Ran false old new ended status ran e noted = inr (e, noted, (ended, ran))

module _ (text : List ℕ) (limits : Limits) where
  -- a run is one that is watched
  pub watched_run : (names failed : Bool) (status : ℕ) → IsRun text limits failed status
      → IsWatched text limits names failed status
  watched_run names failed status (inl ran) = inl ran
  watched_run names failed status (inr none) = inr (none.0, inl none.1)

  -- what failed stays told
  pub run_kept : (old new : Bool) (status : ℕ) → Keeps old new → IsRun text limits old status
      → IsRun text limits new status
  run_kept old new status kept (inl ran) = inl ran
  run_kept old new status (inl failed) (inr none) = inr (none.0, failed)
  run_kept old new status (inr same) (inr none) = inr (none.0, same ∙ none.1)

  covers_kept : (old new : Bool) (runs status : ℕ) → Keeps old new → Covers (IsRun text limits old) runs status
      → Covers (IsRun text limits new) runs status
  covers_kept old new runs status kept (first _ one) = first status (run_kept old new status kept one)
  covers_kept old new runs status kept (more before last next all one) = more before last next
      (covers_kept old new before last kept all) (run_kept old new next kept one)

  -- the status after the report on a run
  pub run_told : (is_told old new : Bool) (ended status : ℕ) → IsRun text limits old ended
      → status ≡ status_told is_told ended → NotesFault is_told old new → IsRun text limits new status
  run_told true old new ended status run e noted =
      run_kept old new status noted (subst (IsRun text limits old) (sym e) run)
  run_told false old new ended status run e noted = inr (e, noted)

  -- the same for the run of an image
  pub image_told : (bytes : List ℕ) (begun done : World) (held : List ℕ) (lost is_told old new : Bool)
      (ended status : ℕ) → Compiles text bytes → RanImage bytes limits begun done held lost ended
      → status ≡ status_told is_told ended → NotesFault is_told old new → IsRun text limits new status
  image_told bytes begun done held lost is_told old new ended status compiles ran = run_told is_told old new ended
      status (inl (ran_of text bytes limits begun done held lost ended compiles ran))

  -- one run more
  pub covers_more : (old new : Bool) (runs status next result : ℕ) → Keeps old new → result ≡ first_failed status next
      → Covers (IsRun text limits old) (runs + 1) status → IsRun text limits new next
      → Covers (IsRun text limits new) (runs + 1 + 1) result
  covers_more old new runs status next result kept e all one = subst
      (λ s. Covers (IsRun text limits new) (runs + 1 + 1) s) (sym e)
      (subst (λ n. Covers (IsRun text limits new) n (first_failed status next)) (omega arith)
      (more (runs + 1) status next (covers_kept old new (runs + 1) status kept all) one))

  -- the status of several runs is that of one of them
  covers_one : (failed : Bool) (runs status : ℕ) → Covers (IsRun text limits failed) runs status
      → IsRun text limits failed status
  covers_one failed runs status (first _ one) = one
  covers_one failed runs status (more before last next all one) = go (nat_eq last 0) (covers_one failed before last all)
    where
      go : (b : Bool) → IsRun text limits failed last
          → IsRun text limits failed (if b then next else last)
      go true earlier = one
      go false earlier = earlier

  pub covers_run : (failed : Bool) (runs status : ℕ) → Covers (IsRun text limits failed) runs status
      → IsRun text limits failed status
  covers_run = covers_one

  -- a run that is reported
  pub reported_run : (names : Bool) (bytes : List ℕ) (old new : World) (held : List ℕ) (lost failed : Bool)
      (status : ℕ) → Compiles text bytes → IsReported (RanImage bytes limits old new held lost) failed status
      → IsWatched text limits names failed status
  reported_run names bytes old new held lost failed status compiles (inl ran) =
      inl (ran_of text bytes limits old new held lost status compiles ran)
  reported_run names bytes old new held lost failed status compiles (inr (one, told, ran)) = inr (one, inl told)

  -- a run that is traced, or a failure
  watched_runs : (names : Bool) (bytes : List ℕ) (old new : World) (held : List ℕ) (lost failed : Bool) (status : ℕ)
      → Compiles text bytes → IsTraced false old new failed status (RanImage bytes limits old new held lost)
      → IsWatched text limits names failed status
  watched_runs names bytes old new held lost failed status compiles (inl ran) =
      reported_run names bytes old new held lost failed status compiles ran
  watched_runs names bytes old new held lost failed status compiles (inr (one, same, told)) = inr (one, inl told)

  -- the trace of a routine, if one is named
  pub watched_trace : (bytes : List ℕ) (map : Map) (routine : Option Text) (old new : World) (held : List ℕ)
      (lost failed : Bool) (status : ℕ) → Compiles text bytes → IsTraced (lacks_routine map routine) old new failed
      status (RanImage bytes limits old new held lost) → IsWatched text limits (is_some routine) failed status
  watched_trace bytes map None old new held lost failed status compiles ran = watched_runs false bytes old new held
      lost failed status compiles ran
  watched_trace bytes map (Some name) old new held lost failed status compiles ran = go (has_routine map name) ran
    where
      go : (b : Bool) → IsTraced (not b) old new failed status (RanImage bytes limits old new held lost)
          → IsWatched text limits true failed status
      go true ran = watched_runs true bytes old new held lost failed status compiles ran
      go false none = inr (none.0, inr refl)

-- where no routine is lacking, the run is traced
pub traced_run : {T : Type 0} → (lacking : Option T) (lacks : Bool) (old new : World) (failed : Bool) (status : ℕ)
    (Ran : ℕ → Type 0) → lacking ≡ None → is_some lacking ≡ lacks → IsTraced false old new failed status Ran
    → IsTraced lacks old new failed status Ran
traced_run lacking lacks old new failed status Ran none e is = subst (λ b. IsTraced b old new failed status Ran)
    (sym (ap is_some none) ∙ e) is

-- the status of what was watched
pub watched_done : (limits : Limits) (names failed : Bool) (status : ℕ) → IsWatchedFile limits names failed status
    → (status ≡ 1) ⊎ RanBuilt limits status
watched_done limits names failed status (inl (text, inl (inl ran))) = inr (text, ran)
watched_done limits names failed status (inl (text, inl (inr none))) = inl none.0
watched_done limits names failed status (inl (text, inr none)) = inl none.0
watched_done limits names failed status (inr none) = inl none.0
