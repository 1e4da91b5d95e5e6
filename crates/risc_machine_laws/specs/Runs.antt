-- Runs of the machine over a tape, as views show them. The device page begins at FFFFC0H, which a register holds as the
-- word of -64.
use Rattle.std.specs.Prelude.{◌≡◌, ℕ, ◌<◌, ◌≤◌, List, Option, Some, None}
use Rattle.risc_machine.specs.Step.{State}
use Rattle.risc_machine.specs.Exec.{Tape, Stopped, take_tape, exec}
use Rattle.risc_machine_laws.specs.View.{View, Shows, result_view}

-- in one step or more the machine reaches a state that shows a view, and the tape becomes what f makes of it
pub record To (code : List ℕ) (size : ℕ) (m : State) (f : Tape → Tape) (v : View) : Type 0 where
  pub to : State
  pub shows : Shows code size to v
  pub runs : (k : ℕ) (p : Tape) → (j : ℕ) × (k < j) × (exec j m p ≡ exec k to (f p))

-- the same in any number of steps, possibly none: a straight line may have no instruction
pub record Way (code : List ℕ) (size : ℕ) (m : State) (f : Tape → Tape) (v : View) : Type 0 where
  pub to : State
  pub shows : Shows code size to v
  pub runs : (k : ℕ) (p : Tape) → (j : ℕ) × (k ≤ j) × (exec j m p ≡ exec k to (f p))

-- it stops with a word, in a state that shows a view
pub record StopsWith (code : List ℕ) (size : ℕ) (m : State) (w : ℕ) (v : View) : Type 0 where
  pub at : State
  pub shows : Shows code size at v
  pub by : (k : ℕ) (p : Tape) → (j : ℕ) × (k < j) × (exec j m p ≡ (p.transcript, Stopped w at))

-- it stops so after the tape became what f makes of it
pub record Ends (code : List ℕ) (size : ℕ) (m : State) (f : Tape → Tape) (w : ℕ) (v : View) : Type 0 where
  pub at : State
  pub shows : Shows code size at v
  pub by : (k : ℕ) (p : Tape) → (j : ℕ) × (k < j) × (exec j m p ≡ ((f p).transcript, Stopped w at))

-- it takes a byte, or the end of the input, into a register: the next byte of the tape decides which state it reaches
pub record TakesTo (code : List ℕ) (size : ℕ) (m : State) (a : ℕ) (v : View) : Type 0 where
  pub to : Option ℕ → State
  pub byte : (b : ℕ) → b < 256 → Shows code size (to (Some b)) (result_view a b v)
  pub end : Shows code size (to None) (result_view a 4294967295 v)
  pub runs : (k : ℕ) (p : Tape) → (j : ℕ) × (k < j)
      × (exec j m p ≡ exec k (to (take_tape p.input p).0) (take_tape p.input p).1)

abbrev pub same_tape : Tape → Tape
same_tape p = p
