-- A body in its own place: nothing that was computed is copied, with nothing known anywhere.
use Rattle.std.proofs.Common.{◌≡◌, inl, ℕ, List, Some, refl, sym, ap, ◌∙◌}
use Rattle.tac_code.specs.declared.code.Instruction.{Instruction}
use Rattle.tac_code.specs.declared.code.Instruction.TheVariants.{Literal, Copy, Arithmetic, Bits, Compare, CheckRange}
use Rattle.tac_code.specs.declared.code.Instruction.TheVariants.{CheckPointer, Text, Offset, Index, RoutineValue, Load}
use Rattle.tac_code.specs.declared.code.Instruction.TheVariants.{Store, LoadByte, StoreByte, Jump, JumpBack, Branch}
use Rattle.tac_code.specs.declared.code.Instruction.TheVariants.{BranchBack, Call, CallValue, Return, Trap, Take, Put}
use Rattle.tac_code.specs.declared.code.Instruction.TheVariants.{New, End}
use Rattle.tac_known.specs.declared.again.Facts.{Facts}
use Rattle.tac_known.specs.Again.{again, no_facts, GoesOn, AgainBody}

-- what is known at each place
abbrev nowhere : ℕ → Facts
nowhere place = no_facts

not_again : (i : Instruction) → again no_facts i ≡ i
not_again (Literal t z) = refl
not_again (Copy t a) = refl
not_again (Arithmetic o t a b e l) = refl
not_again (Bits o t a b) = refl
not_again (Compare r t a b) = refl
not_again (CheckRange a m n0 e l) = refl
not_again (CheckPointer a e l) = refl
not_again (Text t bs) = refl
not_again (Offset t b n x) = refl
not_again (Index t b x m n0 w e l) = refl
not_again (RoutineValue t r) = refl
not_again (Load t b n) = refl
not_again (Store b n a) = refl
not_again (LoadByte t b n) = refl
not_again (StoreByte b n a) = refl
not_again (Jump n) = refl
not_again (JumpBack n) = refl
not_again (Branch r a b n) = refl
not_again (BranchBack r a b n) = refl
not_again (Call t r os l) = refl
not_again (CallValue t a os l) = refl
not_again (Return a) = refl
not_again (Trap e l) = refl
not_again (Take t) = refl
not_again (Put a) = refl
not_again (New t o l) = refl
not_again End = refl

goes_on_nowhere : (place : ℕ) (i : Instruction) → GoesOn nowhere place i
goes_on_nowhere place (Literal t z) = inl refl
goes_on_nowhere place (Copy t a) = inl refl
goes_on_nowhere place (Arithmetic o t a b e l) = inl refl
goes_on_nowhere place (Bits o t a b) = inl refl
goes_on_nowhere place (Compare r t a b) = inl refl
goes_on_nowhere place (CheckRange a m n0 e l) = inl refl
goes_on_nowhere place (CheckPointer a e l) = inl refl
goes_on_nowhere place (Text t bs) = inl refl
goes_on_nowhere place (Offset t b n x) = inl refl
goes_on_nowhere place (Index t b x m n0 w e l) = inl refl
goes_on_nowhere place (RoutineValue t r) = inl refl
goes_on_nowhere place (Load t b n) = inl refl
goes_on_nowhere place (Store b n a) = inl refl
goes_on_nowhere place (LoadByte t b n) = inl refl
goes_on_nowhere place (StoreByte b n a) = inl refl
goes_on_nowhere place (Jump n) = inl refl
goes_on_nowhere place (JumpBack n) = refl
goes_on_nowhere place (Branch r a b n) = (inl refl, inl refl)
goes_on_nowhere place (BranchBack r a b n) = (refl, inl refl)
goes_on_nowhere place (Call t r os l) = inl refl
goes_on_nowhere place (CallValue t a os l) = inl refl
goes_on_nowhere place (Return a) = tt
goes_on_nowhere place (Trap e l) = tt
goes_on_nowhere place (Take t) = inl refl
goes_on_nowhere place (Put a) = inl refl
goes_on_nowhere place (New t o l) = inl refl
goes_on_nowhere place End = tt

pub itself_again : (body : List Instruction) → AgainBody body body
itself_again body = record {
  at = nowhere;
  begins = refl;
  as_many = refl;
  there = λ place i e. e ∙ ap Some (sym (not_again i));
  goes_on = λ place i e. goes_on_nowhere place i;
}
