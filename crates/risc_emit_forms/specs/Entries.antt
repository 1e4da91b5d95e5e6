-- The words of the entry of a routine and of the program block. R14 is the frame of the innermost activation and R13
-- that of the program block; R11, R12 and R15 are scratch registers, and R15 holds the address to which the call goes
-- back.
use Rattle.std.specs.Prelude.{ℕ, zero, suc, ◌+◌, ◌*◌, Bool, ◌&&◌, not, nat_lt, if◌then◌else◌, List, [], ◌∷◌, ◌++◌, pos}
use Rattle.risc_word.specs.declared.instr.Operation.TheVariants as op
use Rattle.risc_word.specs.declared.instr.Operand.TheVariants.{Content, Constant}
use Rattle.risc_word.specs.declared.instr.Width.TheVariants.{Word}
use Rattle.risc_word.specs.declared.instr.Condition.TheVariants as on
use Rattle.risc_word.specs.declared.instr.Instr.TheVariants as word
use Rattle.tac_code.specs.declared.code.TacRoutine.{TacRoutine}
use Rattle.risc_alloc.specs.declared.homes.Home.{Home}
use Rattle.risc_alloc.specs.declared.homes.Home.TheVariants.{Slot, Reg}
use Rattle.risc_emit_relation.specs.Context.{Context, home, is_program, slot_at}
use Rattle.risc_emit_forms.specs.Pieces.{Piece, Plain, Fails}
use Rattle.risc_emit_forms.specs.Words.{constant, load, store, carried, stands, is_clear, is_direct}
use Rattle.risc_emit_forms.specs.Instructions.{target, save}

module _ (c : Context) (r : ℕ) where
  -- a home takes what register j holds
  abbrev pub take : ℕ → Home → List Piece
  take j (Reg q) = Plain (word.Move q (Content j)) ∷ []
  take j (Slot k) = store j 14 (slot_at c r k)

  -- parameter j, of which m are carried, goes from its register to its home, or to the operands of the caller, whose
  -- frame is n bytes on
  abbrev pub spill_one : ℕ → ℕ → ℕ → Home → List Piece
  spill_one m n j h =
      if is_clear m j h then take j h
      else if nat_lt j 8 && not (stands j h) then store j 14 (n + 8 + 4 * j) else []

  abbrev pub spill : ℕ → ℕ → ℕ → ℕ → List Piece
  spill m n j zero = []
  spill m n j (suc count) = spill_one m n j (home c r j) ++ spill m n (suc j) count

  -- and from there to its home
  abbrev pub parameter : ℕ → ℕ → ℕ → Home → List Piece
  parameter m n j h = if is_direct m j h then [] else load (target c r h) 14 (n + 8 + 4 * j) ++ save c r h

  -- those from number j on
  abbrev pub parameters : ℕ → ℕ → ℕ → ℕ → List Piece
  parameters m n j zero = []
  parameters m n j (suc count) = parameter m n j (home c r j) ++ parameters m n (suc j) count

  -- all, with n bytes between the frame and that of the caller
  abbrev pub arrive : ℕ → ℕ → List Piece
  arrive n count = spill (carried count) n 0 count ++ parameters (carried count) n 0 count

  -- R12 takes the new frame's address
  abbrev pub frame_below : ℕ → List Piece
  frame_below n =
      if nat_lt n 65536 then Plain (word.Operate op.Sub 12 14 (Constant (pos n))) ∷ []
      else constant 12 n ++ Plain (word.Operate op.Sub 12 14 (Content 12)) ∷ []

  abbrev pub enter_form : TacRoutine → List Piece
  enter_form routine =
      frame_below (c.costs r) ++ (Plain (word.Load Word 11 13 (pos 268)) ∷ Plain
      (word.Operate op.Sub 11 12 (Content 11)) ∷ Fails on.Less 12 routine.line ∷ Plain
      (word.Store Word 15 12 (pos 0)) ∷ Plain (word.Store Word 14 12 (pos 4)) ∷ Plain (word.Move 14 (Content 12))
      ∷ arrive (c.costs r) routine.parameters)

  abbrev pub join_form : TacRoutine → List Piece
  join_form routine =
      Plain (word.Store Word 15 14 (pos (c.link_at r))) ∷ arrive 0 routine.parameters

  -- whether some stack can hold its frame, and a call pass its parameters
  abbrev pub is_entered : TacRoutine → Bool
  is_entered routine = nat_lt (c.costs r) 16777153 && nat_lt routine.parameters 66

  abbrev pub entry_form : TacRoutine → List Piece
  entry_form routine =
      if is_program c r then (if is_entered routine then enter_form routine else Fails on.Always 12 routine.line ∷ [])
      else join_form routine
