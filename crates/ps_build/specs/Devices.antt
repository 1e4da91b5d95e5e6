-- Where a run over plain lists is after a number of steps, and which device its next step uses.
use Rattle.std.specs.Prelude.{ℕ, zero, suc}
use Rattle.risc_machine.specs.Step.{State, Act, Goes, Takes, Puts, Stops, Faults, act, taken}
use Rattle.risc_machine.specs.Exec.{Tape, told, take_tape}

abbrev pub onward : Act → (State → Tape → State × Tape) → State → Tape → State × Tape
onward (Goes t) go s p = go t p
onward (Takes a t) go s p = go (taken a (take_tape p.input p).0 t) (take_tape p.input p).1
onward (Puts byte t) go s p = go t (told byte p)
onward (Stops word t) go s p = (s, p)
onward (Faults kind) go s p = (s, p)

-- the machine and its tape after at most n steps, before the step that stops or faults
abbrev pub reached : ℕ → State → Tape → State × Tape
reached zero s p = (s, p)
reached (suc n) s p = onward (act s) (reached n) s p

abbrev pub IsTaking : Act → Type 0
IsTaking (Takes a t) = Unit {0}
IsTaking _ = ⊥

abbrev pub IsPutting : Act → Type 0
IsPutting (Puts byte t) = Unit {0}
IsPutting _ = ⊥

-- the next step takes a byte
abbrev pub AsksInput : State → Type 0
AsksInput s = IsTaking (act s)

-- the next step puts a byte
abbrev pub AsksOutput : State → Type 0
AsksOutput s = IsPutting (act s)
