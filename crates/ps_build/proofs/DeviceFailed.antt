-- A run over a console that reports its bytes, up to a device that fails: the console is as the run over plain lists
-- leaves it there, and that device is the one that is asked next.
use Rattle.std.proofs.Common.{◌≡◌, ◌<◌, ℕ, zero, suc, List, ◌++◌, inl, inr, Some, refl, sym, ap, subst}
use Rattle.std.proofs.Common.{◌∙◌, append-nil, arith}
use Rattle.behavior.specs.Transcripts.{output}
use Rattle.risc_machine.specs.declared.stop.Stop.{Stop}
use Rattle.risc_machine.specs.declared.stop.Stop.TheVariants.{Normal, Trap, Steps, InputFault, OutputFault, Fault}
use Rattle.risc_machine.specs.Console.{World, Failed}
use Rattle.risc_machine.specs.Step.{State, Act, Goes, Takes, Puts, Stops, Faults, act}
use Rattle.risc_machine.specs.Exec.{Performs, Runs, Running, Tape, fresh, told, take_tape, exec, stop_of}
use Rattle.risc_machine.proofs.Bytes.{act_puts}
use Rattle.risc_machine.proofs.Following.{Told, kept, GoesTo, goes_on, moved, same_stop}
use Rattle.ps_build.specs.Devices.{onward, reached, IsTaking, IsPutting, AsksInput, AsksOutput}

-- a device failed where just that device was asked
pub record DeviceFailed (Asks : State → Type 0) (n : ℕ) (s : State) (p : Tape) (before : List ℕ) (after : World)
    : Type 0 where
  pub steps : ℕ
  pub fewer : steps < n
  pub running : (exec steps s p).1 ≡ Running
  pub asking : Asks (reached steps s p).0
  pub output : after.output ≡ Some (before ++ output (exec steps s p).0)
  pub left : after.input ≡ Some (reached steps s p).1.input

-- what is left where no device failed
abbrev pub Left : ℕ → State → Tape → World → Type 0
Left n s p after = after.input ≡ Some (reached n s p).1.input

abbrev pub Shows : Stop → ℕ → State → Tape → List ℕ → World → Type 0
Shows Normal n s p before after = Left n s p after
Shows (Trap link) n s p before after = Left n s p after
Shows Steps n s p before after = Left n s p after
Shows (Fault kind) n s p before after = Left n s p after
Shows InputFault n s p before after = DeviceFailed AsksInput n s p before after
Shows OutputFault n s p before after = DeviceFailed AsksOutput n s p before after

-- ---- one step that goes on

onward_goes : (a : Act) (k : ℕ) (s : State) (p : Tape) (t : State) (q : Tape) → GoesTo a p t q
    → onward a (reached k) s p ≡ reached k t q
onward_goes (Goes u) k s p t q g = ap (λ r. reached k r p) g.0 ∙ ap (λ r. reached k t r) g.1
onward_goes (Takes r u) k s p t q g =
    ap (λ x. reached k x (take_tape p.input p).1) g.0 ∙ ap (λ x. reached k t x) g.1
onward_goes (Puts byte u) k s p t q g = ap (λ r. reached k r (told byte p)) g.0 ∙ ap (λ r. reached k t r) g.1
onward_goes (Stops word u) k s p t q g = absurd g
onward_goes (Faults kind) k s p t q g = absurd g

reaches : (s t : State) (p q : Tape) → GoesTo (act s) p t q → (k : ℕ) → reached (suc k) s p ≡ reached k t q
reaches s t p q g k = onward_goes (act s) k s p t q g

-- ---- the step that stops

failed_now : (Asks : State → Type 0) (n : ℕ) (s : State) (w v : World) (p : Tape) (before : List ℕ) → Asks s
    → Failed w v
    → Told w p before → DeviceFailed Asks (suc n) s p before v
failed_now Asks n s w v p before a f h =
    record {
      steps = 0;
      fewer = omega arith;
      running = refl;
      asking = a;
      output = kept w.output v.output _ f.output h.output;
      left = kept w.input v.input _ f.input h.input;
    }

left_word : (word n : ℕ) (s : State) (p : Tape) (before : List ℕ) (after : World) → Left n s p after → Shows
    (stop_of word) n s p before after
left_word zero n s p before after h = h
left_word (suc word) n s p before after h = h

stops : (a : Act) (s t : State) (w v : World) (stop : Stop) (n : ℕ) (p : Tape) (before : List ℕ) → act s ≡ a
    → Performs a s w t v (Some stop) → Told w p before → Shows stop (suc n) s p before v
stops (Goes u) s t w v stop n p before e m h = absurd (let no = m.2 in cc)
stops (Takes r u) s t w v stop n p before e (inl m) h = absurd (let no = m.3 in cc)
stops (Takes r u) s t w v stop n p before e (inr m) h =
    subst (λ i. Shows i (suc n) s p before v) (sym (same_stop stop InputFault m.2))
    (failed_now AsksInput n s w v p before (subst IsTaking (sym e) tt) m.0 h)
stops (Puts byte u) s t w v stop n p before e (inl m) h = absurd (let no = m.2 in cc)
stops (Puts byte u) s t w v stop n p before e (inr m) h =
    subst (λ i. Shows i (suc n) s p before v) (sym (same_stop stop OutputFault m.2))
    (failed_now AsksOutput n s w v p before (subst IsPutting (sym e) tt) m.0 h)
stops (Stops word u) s t w v stop n p before e m h =
    let here : reached (suc n) s p ≡ (s, p) = ap (λ a. onward a (reached n) s p) e in
    subst (λ i. Shows i (suc n) s p before v) (sym (same_stop stop (stop_of word) m.2))
    (left_word word (suc n) s p before v (ap (λ u. u.input) m.1 ∙ h.input ∙ ap (λ r. Some r.1.input) (sym here)))
stops (Faults kind) s t w v stop n p before e m h =
    let here : reached (suc n) s p ≡ (s, p) = ap (λ a. onward a (reached n) s p) e in
    subst (λ i. Shows i (suc n) s p before v) (sym (same_stop stop (Fault kind) m.2))
    (ap (λ u. u.input) m.1 ∙ h.input ∙ ap (λ r. Some r.1.input) (sym here))

-- ---- runs

-- what follows from the state after a step follows from the state before it
failed_before : (Asks : State → Type 0) (n : ℕ) (s t : State) (p q : Tape) (before : List ℕ) (v : World)
    → ((k : ℕ) → exec (suc k) s p ≡ exec k t q) → ((k : ℕ) → reached (suc k) s p ≡ reached k t q)
    → DeviceFailed Asks n t q before v → DeviceFailed Asks (suc n) s p before v
failed_before Asks n s t p q before v e f h = record {
  steps = suc h.steps;
  fewer = omega (arith, h.fewer);
  running = ap (λ r. r.1) (e h.steps) ∙ h.running;
  asking = subst (λ r. Asks r.0) (sym (f h.steps)) h.asking;
  output = h.output ∙ ap (λ r. Some (before ++ output r.0)) (sym (e h.steps));
  left = h.left ∙ ap (λ r. Some r.1.input) (sym (f h.steps));
}

left_before : (n : ℕ) (s t : State) (p q : Tape) (v : World) → ((k : ℕ) → reached (suc k) s p ≡ reached k t q)
    → Left n t q v → Left (suc n) s p v
left_before n s t p q v f h = h ∙ ap (λ r. Some r.1.input) (sym (f n))

shows_before : (stop : Stop) (n : ℕ) (s t : State) (p q : Tape) (before : List ℕ) (v : World)
    → ((k : ℕ) → exec (suc k) s p ≡ exec k t q) → ((k : ℕ) → reached (suc k) s p ≡ reached k t q)
    → Shows stop n t q before v → Shows stop (suc n) s p before v
shows_before Normal n s t p q before v e f h = left_before n s t p q v f h
shows_before (Trap link) n s t p q before v e f h = left_before n s t p q v f h
shows_before Steps n s t p q before v e f h = left_before n s t p q v f h
shows_before (Fault kind) n s t p q before v e f h = left_before n s t p q v f h
shows_before InputFault n s t p q before v e f h = failed_before AsksInput n s t p q before v e f h
shows_before OutputFault n s t p q before v e f h = failed_before AsksOutput n s t p q before v e f h

follows : (n : ℕ) (s s' : State) (w w' : World) (stop : Stop) → Runs n s w s' w' stop → (p : Tape) (before : List ℕ)
    → Told w p before → Shows stop n s p before w'
follows zero s s' w w' stop r p before h =
    subst (λ i. Shows i zero s p before w') (sym r.2) (ap (λ u. u.input) r.1 ∙ h.input)
follows (suc n) s s' w w' stop (inl r) p before h =
    let g = goes_on (act s) s r.0 w r.1 p before refl (act_puts s) r.2 h in
    shows_before stop n s r.0 p g.tape before w' (moved s r.0 p g.tape g.goes) (reaches s r.0 p g.tape g.goes)
    (follows n r.0 s' r.1 w' stop r.3 g.tape before g.tells)
follows (suc n) s s' w w' stop (inr m) p before h = stops (act s) s s' w w' stop n p before refl m h

pub run_shows : (n : ℕ) (s s' : State) (w w' : World) (stop : Stop) → Runs n s w s' w' stop → (input before : List ℕ)
    → w.input ≡ Some input → w.output ≡ Some before → Shows stop n s (fresh input) before w'
run_shows n s s' w w' stop r input before i o =
    follows n s s' w w' stop r (fresh input) before (record {
      input = i;
      output = o ∙ ap Some (sym (append-nil before));
    })
