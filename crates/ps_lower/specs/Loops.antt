-- The parts of `for` statements.
use Rattle.std.specs.Prelude.{ℕ, suc, Bool, List, [], ◌∷◌, ◌++◌}
use Rattle.ps_tree.specs.declared.tree.operators.Direction.{Direction}
use Rattle.ps_tree.specs.Tree.{Expr, Statement}
use Rattle.tac_code.specs.declared.code.Operand.TheVariants as operand
use Rattle.tac_code.specs.declared.code.Base.TheVariants as base
use Rattle.tac_code.specs.declared.code.BitOperator.TheVariants as bits
use Rattle.tac_code.specs.declared.code.Instruction.{Instruction}
use Rattle.tac_code.specs.declared.code.Instruction.TheVariants as i
use Rattle.ps_lower_layout.specs.Frames.{entry_offset}
use Rattle.ps_lower_code.specs.Scopes.{Scope, even_from, held, operand_of, check_code, operand_check, unless_known}
use Rattle.ps_lower_code.specs.Scopes.{routine_up}
use Rattle.ps_lower_code.specs.Calling.{expr_calls}
use Rattle.ps_lower_code.specs.Values.{literal_of}
use Rattle.ps_lower_code.specs.Statements.{expr_code, step_number, body_depth, for_code, statement_code}
use Rattle.ps_lower.specs.declared.turns.Control.{Control}
use Rattle.ps_lower.specs.declared.turns.Turns.{Turns}

-- where such a loop keeps what it needs
abbrev pub turns_from : Scope → (variable : ℕ) → (to : Expr) → (calls : Bool) → (d first : ℕ) → Turns
turns_from k variable b calls d n = record {
  first = n;
  last = held calls (suc n);
  limit = operand_of (literal_of b) (held calls (suc n));
  offset = entry_offset (routine_up k 0) variable;
  step = even_from (body_depth (literal_of b) d (held calls (suc n)));
  depth = body_depth (literal_of b) d (held calls (suc n));
}

abbrev pub turns_of : Scope → (variable : ℕ) → (to : Expr) → (calls : Bool) → (d : ℕ) → Turns
turns_of k variable b calls d = turns_from k variable b calls d (held (expr_calls b) d)

-- the values of both bounds
abbrev pub bounds_code : Scope → (from to : Expr) → Turns → List Instruction
bounds_code k a b turns = expr_code k a turns.first 0 ++ unless_known (literal_of b) (expr_code k b turns.last 0)

-- their tests
abbrev pub checks_code : Control → (from to : Expr) → Turns → List Instruction
checks_code c a b turns = check_code (literal_of a) turns.first c.low c.high 4 c.from_line.number ++ operand_check
    (literal_of b) turns.last c.low c.high 4 c.to_line.number

-- the first value, the jump past the step, and the step
abbrev pub first_turn_code : Direction → Turns → List Instruction
first_turn_code direction turns =
    i.Store base.Frame turns.offset turns.first ∷ i.Jump 2
    ∷ i.Bits bits.Plus turns.step turns.step (operand.Number (step_number direction))
    ∷ i.Store base.Frame turns.offset turns.step ∷ []

-- what comes between the branch past all turns and the body
abbrev pub opening_code : Control → (from to : Expr) → Turns → List Instruction
opening_code c a b turns = checks_code c a b turns ++ first_turn_code c.direction turns

-- the whole
abbrev pub loop_code : Scope → Control → (from to : Expr) → Turns → Statement → List Instruction
loop_code k c a b turns s =
    bounds_code k a b turns
    ++ for_code c.direction turns.first turns.limit turns.offset turns.step (checks_code c a b turns)
    (statement_code k s turns.depth)
