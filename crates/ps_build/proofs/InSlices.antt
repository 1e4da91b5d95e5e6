-- Runs in slices put together: as far as a console is seen, the slices are one run.
use Rattle.std.proofs.Common.{◌≡◌, ◌≤◌, ℕ, zero, suc, ◌+◌, ◌-◌, inl, inr, Some, refl, sym, subst, arith}
use Rattle.std.specs.Io.KnownBytes.{Keeps}
use Rattle.risc_machine.specs.declared.stop.Stop.{Stop}
use Rattle.risc_machine.specs.declared.stop.Stop.TheVariants.{Steps}
use Rattle.risc_machine.specs.Console.{World}
use Rattle.risc_machine.specs.Step.{State, Act, Goes, Takes, Puts, Stops, Faults, act}
use Rattle.risc_machine.specs.Exec.{Performs, Runs, stop_of}
use Rattle.risc_image.specs.Image.{Image}
use Rattle.risc_load.specs.declared.budget.Budget.{Budget}
use Rattle.risc_load.specs.Loaded.{loaded_state}
use Rattle.risc_load.specs.Shows.{IsBudget}
use Rattle.ps_build.specs.declared.outcome.Outcome.{Outcome}
use Rattle.ps_build.specs.declared.outcome.Outcome.TheVariants as o
use Rattle.ps_build.specs.Runs as image
use Rattle.ps_build.specs.Runs.{as_seen}
use Rattle.ps_build.specs.Slices.{ComesTo, IsLeft, IsRunLeft}
use Rattle.ps_build.proofs.Seen.{runs_seen, self_seen, kept_seen}
use Rattle.ps_build.proofs.Told.{runs_of}

-- ---- runs

no_limit : (word : ℕ) → Some Steps ≡ Some (stop_of word) → ⊥
no_limit zero e = cc
no_limit (suc word) e = cc

-- no step stops because steps ran out
no_step : (a : Act) (s t : State) (w v : World) → Performs a s w t v (Some Steps) → ⊥
no_step (Goes u) s t w v m = let no = m.2 in cc
no_step (Takes r u) s t w v (inl m) = let no = m.3 in cc
no_step (Takes r u) s t w v (inr m) = let no = m.2 in cc
no_step (Puts byte u) s t w v (inl m) = let no = m.2 in cc
no_step (Puts byte u) s t w v (inr m) = let no = m.2 in cc
no_step (Stops word u) s t w v m = no_limit word m.2
no_step (Faults kind) s t w v m = let no = m.2 in cc

-- a run that has not stopped, and one that goes on from there
joined : (a b : ℕ) (s t s' : State) (w v w' : World) (stop : Stop) → Runs a s w t v Steps → Runs b t v s' w' stop → Runs
    (a + b) s w s' w' stop
joined zero b s t s' w v w' stop r q =
    let none : b ≡ 0 + b = omega arith in
    subst (λ k. Runs k s w s' w' stop) none (subst (λ u. Runs b u w s' w' stop) r.0
    (subst (λ u. Runs b t u s' w' stop) r.1 q))
joined (suc a) b s t s' w v w' stop (inl r) q =
    let one : suc (a + b) ≡ suc a + b = omega arith in
    let goes : Runs (suc (a + b)) s w s' w' stop = inl (r.0, r.1, r.2, joined a b r.0 t s' r.1 v w' stop r.3 q) in
    subst (λ k. Runs k s w s' w' stop) one goes
joined (suc a) b s t s' w v w' stop (inr m) q = absurd (no_step (act s) s t w v m)

-- a run that stopped stops so within more steps too
longer : (n more : ℕ) (s s' : State) (w w' : World) (stop : Stop) → (stop ≡ Steps → ⊥) → Runs n s w s' w' stop → Runs
    (n + more) s w s' w' stop
longer zero more s s' w w' stop stopped r = absurd (stopped r.2)
longer (suc n) more s s' w w' stop stopped (inl r) =
    let one : suc (n + more) ≡ suc n + more = omega arith in
    let goes : Runs (suc (n + more)) s w s' w' stop = inl (r.0, r.1, r.2, longer n more r.0 s' r.1 w' stop stopped r.3)
    in
    subst (λ k. Runs k s w s' w' stop) one goes
longer (suc n) more s s' w w' stop stopped (inr m) =
    let one : suc (n + more) ≡ suc n + more = omega arith in
    let stops : Runs (suc (n + more)) s w s' w' stop = inr m in
    subst (λ k. Runs k s w s' w' stop) one stops

-- ---- slices

pub none_made : (s : State) (w : World) → ComesTo 0 s w s w Steps
none_made s w = record { runs = (refl, self_seen w, refl) }

-- a pause changes nothing that is seen
pub paused : (n : ℕ) (s t : State) (w v v' : World) → Keeps v.input v'.input → Keeps v.output v'.output → v'.faults
    ≡ v.faults → ComesTo n s w t v Steps → ComesTo n s w t v' Steps
paused n s t w v v' keeps_input keeps_output faults h = record {
  runs = subst (λ x. Runs n s w t x Steps)
      (sym (kept_seen n s t w v v' Steps h.runs keeps_input keeps_output faults)) h.runs;
}

-- one more slice
pub slice_more : (n m : ℕ) (s t s' : State) (w v w' : World) (stop : Stop) → ComesTo n s w t v Steps
    → Runs m t v s' w' stop → ComesTo (n + m) s w s' w' stop
slice_more n m s t s' w v w' stop h r = record {
  runs = joined n m s t s' w (as_seen w v) (as_seen w w') stop h.runs (runs_seen m w t s' v w' stop r);
}

-- one more slice, and the pause after it
pub slice_and_pause : (n m : ℕ) (s t s' : State) (w v w' w'' : World) → ComesTo n s w t v Steps → Runs m t v s' w' Steps
    → Keeps w'.input w''.input → Keeps w'.output w''.output → w''.faults ≡ w'.faults → ComesTo (n + m) s w s' w'' Steps
slice_and_pause n m s t s' w v w' w'' h r keeps_input keeps_output faults =
    paused (n + m) s s' w w' w'' keeps_input keeps_output faults (slice_more n m s t s' w v w' Steps h r)

-- a slice that stopped
pub stopped_in : (n m all : ℕ) (s t s' : State) (w v w' : World) (stop : Stop) → n + m ≤ all → (stop ≡ Steps → ⊥)
    → ComesTo n s w t v Steps → Runs m t v s' w' stop → ComesTo all s w s' w' stop
stopped_in n m all s t s' w v w' stop within stopped h r =
    let more = slice_more n m s t s' w v w' stop h r in
    let whole : n + m + (all - (n + m)) ≡ all = omega (arith, within) in
    record {
      runs = subst (λ k. Runs k s w s' (as_seen w w') stop) whole
          (longer (n + m) (all - (n + m)) s s' w (as_seen w w') stop stopped more.runs);
    }

-- ---- runs of images

pub comes_runs : (of : Image) (budget : Budget) (n : ℕ) (left : State) (old new : World) (outcome : Outcome)
    (stop : Stop) → IsBudget of budget.heap budget.stack → ComesTo n (loaded_state of budget) old left new stop
    → image.IsToldBy of left stop outcome → image.Runs of budget n old new outcome
comes_runs of budget n left old new outcome stop fits h told =
    runs_of of budget n left old new outcome stop fits h.runs told

pub left_runs : (of : Image) (budget : Budget) (n : ℕ) (left : State) (old new : World)
    → IsBudget of budget.heap budget.stack → IsLeft n (loaded_state of budget) old left new
    → IsRunLeft of budget n old new
left_runs of budget n left old new fits h =
    record {
      steps = h.steps;
      fewer = h.fewer;
      runs = comes_runs of budget h.steps left old new o.Steps Steps fits h.comes refl;
    }
