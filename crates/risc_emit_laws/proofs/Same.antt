-- The theorem of emission: the runs are the same, step by step from the start.
use Rattle.std.proofs.Common.{◌≡◌, ℕ, zero, suc, ◌+◌, ◌<◌, ◌≤◌, inl, inr, Bool, true, false, cond, ◌&&◌, not, nat_eq}
use Rattle.std.proofs.Common.{nat_lt, List, [], length, Option, Some, None, slice_get, refl, sym, ap, ◌∙◌, arith}
use Rattle.std.specs.Prelude.{option_map, unwrap_or, slice_index}
use Rattle.behavior.specs.Endings.{Ending, Stack, Stuck}
use Rattle.behavior.specs.Transcripts.{Shown, AreBytes}
use Rattle.risc_machine.specs.Step as machine
use Rattle.risc_machine.specs.Exec as exec
use Rattle.risc_machine.specs.Exec.{Running, Stopped, Faulted}
use Rattle.risc_machine_laws.specs.View.{View, Shows}
use Rattle.risc_machine_laws.specs.Start.{AreWords}
use Rattle.tac_code.specs.declared.code.TacRoutine.{TacRoutine}
use Rattle.tac_code.specs.Meaning.{Code, State, Step, Goes, Over, with_some, routines, is_full, entered, enter, step}
use Rattle.tac_code.specs.Sound.{IsSound}
use Rattle.tac_code.specs.Run as tac
use Rattle.tac_code.specs.Run.{before, tac_run}
use Rattle.risc_alloc.specs.declared.homes.Home.{Home}
use Rattle.risc_alloc.specs.Valid.{Valid}
use Rattle.risc_image.specs.Image.{Image, IsWellFormed}
use Rattle.risc_image.specs.Format.{word_bytes}
use Rattle.risc_image.specs.Table.{call_at}
use Rattle.risc_load.specs.Shows.{trap_rows, IsBudget}
use Rattle.risc_emit_relation.specs.Context.{Context, Places}
use Rattle.risc_emit_relation.specs.Walk.{and_on, is_frame, walk}
use Rattle.risc_emit_forms.specs.Follows.{Built, Meets, Stops, Follows, tape_of}
use Rattle.risc_emit_forms.proofs.Steps.{step_follows}
use Rattle.risc_emit_laws.specs.Outcome.{line_of, outcome_of, image_outcome}
use Rattle.risc_emit_laws.specs.Plan.{frame_cost, context}
use Rattle.risc_emit_laws.specs.Emits.{Emits}
use Rattle.risc_emit_laws.specs.Laws.{EmissionKeeps, WithoutCalls}
use Rattle.risc_emit_laws.proofs.Outcome.{told_is}
use Rattle.risc_emit_laws.proofs.Built.{first_routine}
use Rattle.risc_emit_laws.proofs.Start.{Starts, loaded, starts}

-- some steps of the machine, at least this many, show what the code shows
abbrev Reaches : Image → machine.State → State → ℕ → Shown → Type 0
Reaches image m s k x =
    (j : ℕ) × (k ≤ j) × (outcome_of image (exec.exec j m (tape_of s.tape)) ≡ x)

module _ (code : Code) (homes : List Home) (image : Image) (sound : IsSound code) (valid : Valid code homes)
    (formed : IsWellFormed image) (narrow : AreWords image.code) (emits : Emits code homes image) (heap stack : ℕ)
    (budget : IsBudget image heap stack) (input : List ℕ) (bytes : AreBytes input) where
  abbrev c : Context
  c = context code homes emits.plan image heap stack

  abbrev words : List ℕ
  words = image.code

  -- a stop shows the ending of the code, with any count of steps from there
  stopped : (s : State) (m : machine.State) (e : Ending) (k : ℕ) → Stops c words s m e → Reaches image m s (suc k)
      (s.tape.transcript, e)
  stopped s m e k r =
      let x = r.by k in
      let told = told_is c words image (λ link. refl) refl r.word r.at r.view r.shows in
      (x.0, omega (arith, x.1), ap (outcome_of image) x.2 ∙ ap (λ e. (s.tape.transcript, e)) (sym told ∙ sym r.is))

  same_from : (b : Built c words) (k : ℕ) (s : State) (m : machine.State) (p : Places) (v : View) (f : ℕ)
      → Shows words c.size m v → Meets c words p s v f
      → ((j : ℕ) → (tac.run code c.costs c.sizes stack heap j s).1 ≡ Stuck → ⊥) → Reaches image m s k
      (tac.run code c.costs c.sizes stack heap k s)
  same_from b zero s m p v f sh be never = (0, omega arith, refl)
  same_from b (suc k) s m p v f sh be never =
      go (step code c.costs c.sizes stack heap s) refl
      (step_follows c words b p stack heap (omega arith) (omega arith) s f m v sh be)
      (λ t m' p' v' f' sh' be' never'. same_from b k t m' p' v' f' sh' be' never')
    where
      go : (x : Step) → step code c.costs c.sizes stack heap s ≡ x → Follows c words x s m
          → ((t : State) (m' : machine.State) (p' : Places) (v' : View) (f' : ℕ) → Shows words c.size m' v'
          → Meets c words p' t v' f' → ((j : ℕ) → (tac.run code c.costs c.sizes stack heap j t).1 ≡ Stuck → ⊥)
          → Reaches image m' t k (tac.run code c.costs c.sizes stack heap k t)) → Reaches image m s (suc k)
          (tac.after x s (tac.run code c.costs c.sizes stack heap k))
      go (Goes t) e h on =
          let next = on t h.to h.places h.view h.frame h.shows h.meets
          (λ j stuck. never (suc j) (ap (λ y. (tac.after y s (tac.run code c.costs c.sizes stack heap j)).1) e
          ∙ stuck)) in
          let x = h.runs next.0 in
          (x.0, omega (arith, next.1, x.1), ap (outcome_of image) x.2 ∙ next.2)
      go (Over o) e (inl stuck) on =
          absurd (never 1 (ap (λ y. (tac.after y s (tac.run code c.costs c.sizes stack heap 0)).1) e ∙ stuck))
      go (Over o) e (inr r) on = stopped s m o k r

  -- the run from an entry that was made or refused
  module _ (block : TacRoutine) (is : slice_get (routines code) 0 ≡ Some block)
      (never : (k : ℕ) → (tac_run code c.costs c.sizes stack heap input k).1 ≡ Stuck → ⊥) where
    -- what the entry of the program block does
    entry_step : enter code c.costs c.sizes stack heap 0 [] 0 0 [] (before input) ≡ cond
        (not (nat_eq 0 block.parameters)) (Over Stuck)
        (cond (is_full code c.costs c.sizes stack heap 0 []) (Over (Stack block.line))
        (Goes (entered code c.costs c.sizes stack heap block 0 [] 0 0 [] (before input))))
    entry_step =
        ap (λ o. with_some o (λ routine. cond (not (nat_eq 0 routine.parameters)) (Over Stuck)
        (cond (is_full code c.costs c.sizes stack heap 0 []) (Over (Stack routine.line))
        (Goes (entered code c.costs c.sizes stack heap routine 0 [] 0 0 [] (before input)))))) is

    full_is : is_full code c.costs c.sizes stack heap 0 [] ≡ nat_lt stack (frame_cost image 0)
    full_is = both _ _ (first_of _ sound.begins) (plus_none (frame_cost image 0))
      where
        first_of : (n : ℕ) → 0 < n → nat_lt 0 n ≡ true
        first_of n lt = grind (arith, lt)

        plus_none : (n : ℕ) → n + 0 ≡ n
        plus_none n = omega arith

        both : (first : Bool) (n : ℕ) → first ≡ true → n ≡ frame_cost image 0 → first && nat_lt stack n ≡ nat_lt stack
            (frame_cost image 0)
        both first n e en = ap (λ b. b && nat_lt stack n) e ∙ ap (nat_lt stack) en

    no_parameters : block.parameters ≡ 0
    no_parameters = go (nat_eq 0 block.parameters) refl
      where
        zero_is : (n : ℕ) → nat_eq 0 n ≡ true → n ≡ 0
        zero_is n e = grind (arith, e)

        go : (b : Bool) → nat_eq 0 block.parameters ≡ b → block.parameters ≡ 0
        go true e = zero_is _ e
        go false e =
            let at : enter code c.costs c.sizes stack heap 0 [] 0 0 [] (before input) ≡ Over Stuck = entry_step
            ∙ ap (λ b. cond (not b) (Over Stuck) (cond (is_full code c.costs c.sizes stack heap 0 [])
            (Over (Stack block.line)) (Goes (entered code c.costs c.sizes stack heap block 0 [] 0 0 []
            (before input))))) e in
            absurd (never 1 (ap (λ x. (tac.after x (before input) (tac.run code c.costs c.sizes stack heap 0)).1) at))

    -- the first step, by whether the stack is too small
    abbrev first_step : Bool → Step
    first_step full =
        cond full (Over (Stack block.line)) (Goes
        (entered code c.costs c.sizes stack heap block 0 [] 0 0 [] (before input)))

    entry_is : enter code c.costs c.sizes stack heap 0 [] 0 0 [] (before input) ≡ first_step
        (nat_lt stack (frame_cost image 0))
    entry_is =
        entry_step ∙ ap (λ n. cond (not (nat_eq 0 n)) (Over Stuck)
        (first_step (is_full code c.costs c.sizes stack heap 0 []))) no_parameters ∙ ap first_step full_is

    begins : (k : ℕ) (full : Bool) → nat_lt stack (frame_cost image 0) ≡ full
        → Starts code homes image sound valid formed narrow emits.plan heap stack budget (emits.laid heap stack)
        (emits.stand heap stack) input bytes block is no_parameters full
        (loaded code homes image sound valid formed narrow emits.plan heap stack budget (emits.laid heap stack)
        (emits.stand heap stack) input bytes block is no_parameters) → Reaches image
        (loaded code homes image sound valid formed narrow emits.plan heap stack budget (emits.laid heap stack)
        (emits.stand heap stack) input bytes block is no_parameters) (before input) (suc k)
        (tac.after (first_step full) (before input) (tac.run code c.costs c.sizes stack heap k))
    begins k true e r = stopped (before input) _ (Stack block.line) k r
    begins k false e r =
        let b = r.0 in
        let h = r.1 in
        let at = entry_is ∙ ap first_step e in
        let next = same_from b k _ h.to h.places h.view h.frame h.shows h.meets
        (λ j stuck. never (suc j) (ap (λ x. (tac.after x (before input)
        (tac.run code c.costs c.sizes stack heap j)).1) at ∙ stuck)) in
        let x = h.runs next.0 in
        (x.0, omega (arith, next.1, x.1), ap (outcome_of image) x.2 ∙ next.2)

    same_run : (n : ℕ) → (m : ℕ) × (n ≤ m) × (image_outcome image heap stack input m
        ≡ tac_run code c.costs c.sizes stack heap input n)
    same_run zero = (0, omega arith, refl)
    same_run (suc k) =
        let full = nat_lt stack (frame_cost image 0) in
        let x = begins k full refl (starts code homes image sound valid formed narrow emits.plan heap stack budget
        (emits.laid heap stack) (emits.stand heap stack) input bytes block is no_parameters) in (
          x.0,
          x.1,
          x.2 ∙ ap (λ y. tac.after y (before input) (tac.run code c.costs c.sizes stack heap k))
              (sym entry_is),
        )

pub emission_keeps : EmissionKeeps
emission_keeps code homes image sound valid formed narrow emits heap stack budget input bytes never =
    let first = first_routine code sound in
    same_run code homes image sound valid formed narrow emits heap stack budget input bytes first.0 first.1 never

-- ---- an image without a table of calls

no_lines : (line : ℕ → Option ℕ) (size n : ℕ) (w : ℕ → ℕ) (f : ℕ) → ((link : ℕ) → line link ≡ None)
    → walk line size n w f ≡ []
no_lines line size zero w f none = refl
no_lines line size (suc n) w f none = go (is_frame size f)
  where
    go : (b : Bool) → cond b (and_on (line (w f)) (walk line size n w (w (f + 4)))) [] ≡ []
    go true = ap (λ o. and_on o (walk line size n w (w (f + 4)))) (none (w f))
    go false = refl

pub without_calls : WithoutCalls
without_calls image none heap stack input steps = by_end
    (exec.exec steps (machine.start_state (word_bytes image.code) image.global heap stack) (exec.fresh input)).0
    (exec.exec steps (machine.start_state (word_bytes image.code) image.global heap stack) (exec.fresh input)).1
  where
    line_none : (link : ℕ) → line_of image link ≡ None
    line_none link = ap (λ calls. option_map (λ row. row.line) (call_at link (unwrap_or calls []))) none

    by_end : (transcript : List ℕ) (h : exec.Halt) → outcome_of image (transcript, h) ≡ exec.outcome_of
        (trap_rows image) (transcript, h)
    by_end transcript Running = refl
    by_end transcript (Stopped zero m) = refl
    by_end transcript (Stopped (suc k) m) =
        ap (λ calls. (transcript, exec.trap_ending (exec.row_at (suc k) (trap_rows image)) calls))
        (no_lines (line_of image) (length m.memory) 16 (machine.word_at m.memory)
        (slice_index m.registers 14) line_none)
    by_end transcript (Faulted kind) = refl
