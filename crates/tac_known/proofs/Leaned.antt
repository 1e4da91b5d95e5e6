-- A test that can't fail is left out, and no other one.
use Rattle.std.proofs.Common.{◌≡◌, Bool, true, false, List, refl, sym, ap}
use Rattle.std.proofs.lemmas.Bool.{true≢false}
use Rattle.tac_code.specs.declared.code.Instruction.{Instruction}
use Rattle.tac_code.specs.declared.code.Instruction.TheVariants.{Literal, Copy, Arithmetic, Bits, Compare, CheckRange}
use Rattle.tac_code.specs.declared.code.Instruction.TheVariants.{CheckPointer, Text, Offset, Index, RoutineValue, Load}
use Rattle.tac_code.specs.declared.code.Instruction.TheVariants.{Store, LoadByte, StoreByte, Jump, JumpBack, Branch}
use Rattle.tac_code.specs.declared.code.Instruction.TheVariants.{BranchBack, Call, CallValue, Return, Trap, Take, Put}
use Rattle.tac_code.specs.declared.code.Instruction.TheVariants.{New, End}
use Rattle.tac_known.specs.declared.kind.Kind.{Kind}
use Rattle.tac_known.specs.Lean.{number_unless, copied_if, lean, is_vain, cleared, cleared_if}

pub lean_vain : (ks : List Kind) (i : Instruction) → is_vain ks i ≡ true → lean ks i ≡ cleared i
lean_vain ks (Literal t z) h = absurd (true≢false (sym h))
lean_vain ks (Copy t a) h = absurd (true≢false (sym h))
lean_vain ks (Arithmetic o t a b e l) h = ap (λ n. Arithmetic o t a b (number_unless n e) l) h
lean_vain ks (Bits o t a b) h = absurd (true≢false (sym h))
lean_vain ks (Compare r t a b) h = ap (λ v. copied_if v r t a b) h
lean_vain ks (CheckRange a m n0 e l) h = ap (λ n. CheckRange a m n0 (number_unless n e) l) h
lean_vain ks (CheckPointer a e l) h = ap (λ n. CheckPointer a (number_unless n e) l) h
lean_vain ks (Text t bs) h = absurd (true≢false (sym h))
lean_vain ks (Offset t b n x) h = absurd (true≢false (sym h))
lean_vain ks (Index t b x m n0 w e l) h = ap (λ n. Index t b x m n0 w (number_unless n e) l) h
lean_vain ks (RoutineValue t r) h = absurd (true≢false (sym h))
lean_vain ks (Load t b n) h = absurd (true≢false (sym h))
lean_vain ks (Store b n a) h = absurd (true≢false (sym h))
lean_vain ks (LoadByte t b n) h = absurd (true≢false (sym h))
lean_vain ks (StoreByte b n a) h = absurd (true≢false (sym h))
lean_vain ks (Jump n) h = absurd (true≢false (sym h))
lean_vain ks (JumpBack n) h = absurd (true≢false (sym h))
lean_vain ks (Branch r a b n) h = absurd (true≢false (sym h))
lean_vain ks (BranchBack r a b n) h = absurd (true≢false (sym h))
lean_vain ks (Call t r os l) h = absurd (true≢false (sym h))
lean_vain ks (CallValue t a os l) h = absurd (true≢false (sym h))
lean_vain ks (Return a) h = absurd (true≢false (sym h))
lean_vain ks (Trap e l) h = absurd (true≢false (sym h))
lean_vain ks (Take t) h = absurd (true≢false (sym h))
lean_vain ks (Put a) h = absurd (true≢false (sym h))
lean_vain ks (New t o l) h = absurd (true≢false (sym h))
lean_vain ks End h = absurd (true≢false (sym h))

pub lean_not : (ks : List Kind) (i : Instruction) → is_vain ks i ≡ false → lean ks i ≡ i
lean_not ks (Literal t z) h = refl
lean_not ks (Copy t a) h = refl
lean_not ks (Arithmetic o t a b e l) h = ap (λ n. Arithmetic o t a b (number_unless n e) l) h
lean_not ks (Bits o t a b) h = refl
lean_not ks (Compare r t a b) h = ap (λ v. copied_if v r t a b) h
lean_not ks (CheckRange a m n0 e l) h = ap (λ n. CheckRange a m n0 (number_unless n e) l) h
lean_not ks (CheckPointer a e l) h = ap (λ n. CheckPointer a (number_unless n e) l) h
lean_not ks (Text t bs) h = refl
lean_not ks (Offset t b n x) h = refl
lean_not ks (Index t b x m n0 w e l) h = ap (λ n. Index t b x m n0 w (number_unless n e) l) h
lean_not ks (RoutineValue t r) h = refl
lean_not ks (Load t b n) h = refl
lean_not ks (Store b n a) h = refl
lean_not ks (LoadByte t b n) h = refl
lean_not ks (StoreByte b n a) h = refl
lean_not ks (Jump n) h = refl
lean_not ks (JumpBack n) h = refl
lean_not ks (Branch r a b n) h = refl
lean_not ks (BranchBack r a b n) h = refl
lean_not ks (Call t r os l) h = refl
lean_not ks (CallValue t a os l) h = refl
lean_not ks (Return a) h = refl
lean_not ks (Trap e l) h = refl
lean_not ks (Take t) h = refl
lean_not ks (Put a) h = refl
lean_not ks (New t o l) h = refl
lean_not ks End h = refl

pub lean_is : (ks : List Kind) (i : Instruction) → cleared_if (is_vain ks i) i ≡ lean ks i
lean_is ks i = which (is_vain ks i) refl
  where
    which : (v : Bool) → is_vain ks i ≡ v → cleared_if v i ≡ lean ks i
    which true e = sym (lean_vain ks i e)
    which false e = sym (lean_not ks i e)
