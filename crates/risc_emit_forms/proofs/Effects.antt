-- After which instructions flags belong to a temporary, or a register is short of an address.
use Rattle.std.proofs.Common.{◌≡◌, ◌≢◌, ℕ, suc, ◌+◌, ◌⊎◌, inl, inr, Bool, true, false, not, ◌||◌, ℤ, nat_eq, [], ◌∷◌}
use Rattle.std.proofs.Common.{Option, Some, None, refl, sym, ap}
use Rattle.std.proofs.lemmas.Bool.{eqb-true}
use Rattle.tac_code.specs.declared.code.Operator.TheVariants.{Add, Subtract, Multiply, Divide, Modulo}
use Rattle.tac_code.specs.declared.code.Instruction.{Instruction}
use Rattle.tac_code.specs.declared.code.Instruction.TheVariants.{Literal, Copy, Arithmetic, Bits, Compare, CheckRange}
use Rattle.tac_code.specs.declared.code.Instruction.TheVariants.{CheckPointer, Text, Offset, Index, RoutineValue, Load}
use Rattle.tac_code.specs.declared.code.Instruction.TheVariants.{Store, LoadByte, StoreByte, Jump, JumpBack, Branch}
use Rattle.tac_code.specs.declared.code.Instruction.TheVariants.{BranchBack, Call, CallValue, Return, Trap, Take, Put}
use Rattle.tac_code.specs.declared.code.Instruction.TheVariants.{New, End}
use Rattle.risc_alloc.specs.Flow.{is_among, next_of, written_by, result_of}
use Rattle.risc_emit_relation.specs.Context.{Context}
use Rattle.risc_emit_forms.specs.Peephole.{sets_flags, flagged_by, jump_of, row, defer}

-- ---- instructions

or_none : (b : Bool) → b || false ≡ true → b ≡ true
or_none true e = refl
or_none false e = absurd (cc e)

either : (a b : Bool) → a || b ≡ true → (a ≡ true) ⊎ (b ≡ true)
either true b e = inl refl
either false b e = inr e

only : (u t : ℕ) → is_among u (t ∷ []) ≡ true → u ≡ t
only u t e = eqb-true u t (or_none (nat_eq u t) e)

second : (u t w : ℕ) → is_among u (t ∷ w ∷ []) ≡ true → u ≢ t → u ≡ w
second u t w e ne = go (either (nat_eq u t) (nat_eq u w || false) e)
  where
    go : (nat_eq u t ≡ true) ⊎ (nat_eq u w || false ≡ true) → u ≡ w
    go (inl h) = absurd (ne (eqb-true u t h))
    go (inr h) = only u w h

-- where an instruction leads, but to the next place, it jumps
pub jumps_there : (i : Instruction) (k k' : ℕ) → is_among k' (next_of i k) ≡ true → k' ≢ suc k → jump_of i k ≡ Some k'
jumps_there (Jump n) k k' e ne = ap Some (sym (only k' (suc k + n) e))
jumps_there (JumpBack n) k k' e ne = ap Some (sym (only k' _ e))
jumps_there (Branch relation a b n) k k' e ne = ap Some (sym (second k' (suc k) (suc k + n) e ne))
jumps_there (BranchBack relation a b n) k k' e ne = ap Some (sym (second k' (suc k) _ e ne))
jumps_there (Return a) k k' e ne = absurd (cc e)
jumps_there (Trap error line) k k' e ne = absurd (cc e)
jumps_there End k k' e ne = absurd (cc e)
jumps_there (Literal t z) k k' e ne = absurd (ne (only k' (suc k) e))
jumps_there (Copy t a) k k' e ne = absurd (ne (only k' (suc k) e))
jumps_there (Arithmetic operator t a b error line) k k' e ne = absurd (ne (only k' (suc k) e))
jumps_there (Bits operator t a b) k k' e ne = absurd (ne (only k' (suc k) e))
jumps_there (Compare relation t a b) k k' e ne = absurd (ne (only k' (suc k) e))
jumps_there (CheckRange a low high error line) k k' e ne = absurd (ne (only k' (suc k) e))
jumps_there (CheckPointer a error line) k k' e ne = absurd (ne (only k' (suc k) e))
jumps_there (Text t bytes) k k' e ne = absurd (ne (only k' (suc k) e))
jumps_there (Offset t a n extent) k k' e ne = absurd (ne (only k' (suc k) e))
jumps_there (Index t a i low high width error line) k k' e ne = absurd (ne (only k' (suc k) e))
jumps_there (RoutineValue t q) k k' e ne = absurd (ne (only k' (suc k) e))
jumps_there (Load t a n) k k' e ne = absurd (ne (only k' (suc k) e))
jumps_there (Store a n u) k k' e ne = absurd (ne (only k' (suc k) e))
jumps_there (LoadByte t a n) k k' e ne = absurd (ne (only k' (suc k) e))
jumps_there (StoreByte a n u) k k' e ne = absurd (ne (only k' (suc k) e))
jumps_there (Call t q us line) k k' e ne = absurd (ne (only k' (suc k) e))
jumps_there (CallValue t a us line) k k' e ne = absurd (ne (only k' (suc k) e))
jumps_there (Take t) k k' e ne = absurd (ne (only k' (suc k) e))
jumps_there (Put a) k k' e ne = absurd (ne (only k' (suc k) e))
jumps_there (New t type line) k k' e ne = absurd (ne (only k' (suc k) e))

-- an instruction after which the flags belong to a temporary writes it, and is no call
pub record Plainly (i : Instruction) (t : ℕ) : Type 0 where
  pub written : written_by i ≡ Some t
  pub result : result_of i ≡ None

pub plainly : (i : Instruction) (t : ℕ) → flagged_by i ≡ Some t → Plainly i t
plainly (Arithmetic Add u a b error line) t e = record { written = e; result = refl }
plainly (Arithmetic Subtract u a b error line) t e = record { written = e; result = refl }
plainly (Arithmetic Modulo u a b error line) t e = record { written = e; result = refl }
plainly (Bits operator u a b) t e = record { written = e; result = refl }
plainly (Load u a n) t e = record { written = e; result = refl }
plainly (LoadByte u a n) t e = record { written = e; result = refl }
plainly (Arithmetic Multiply u a b error line) t e = absurd (cc e)
plainly (Arithmetic Divide u a b error line) t e = absurd (cc e)
plainly (Literal u z) t e = absurd (cc e)
plainly (Copy u a) t e = absurd (cc e)
plainly (Compare relation u a b) t e = absurd (cc e)
plainly (CheckRange a low high error line) t e = absurd (cc e)
plainly (CheckPointer a error line) t e = absurd (cc e)
plainly (Text u bytes) t e = absurd (cc e)
plainly (Offset u a n extent) t e = absurd (cc e)
plainly (Index u a i low high width error line) t e = absurd (cc e)
plainly (RoutineValue u q) t e = absurd (cc e)
plainly (Store a n u) t e = absurd (cc e)
plainly (StoreByte a n u) t e = absurd (cc e)
plainly (Jump n) t e = absurd (cc e)
plainly (JumpBack n) t e = absurd (cc e)
plainly (Branch relation a b n) t e = absurd (cc e)
plainly (BranchBack relation a b n) t e = absurd (cc e)
plainly (Call u q us line) t e = absurd (cc e)
plainly (CallValue u a us line) t e = absurd (cc e)
plainly (Return a) t e = absurd (cc e)
plainly (Trap error line) t e = absurd (cc e)
plainly (Take u) t e = absurd (cc e)
plainly (Put a) t e = absurd (cc e)
plainly (New u type line) t e = absurd (cc e)
plainly End t e = absurd (cc e)

-- after most instructions flags belong to no temporary, and no register is short of an offset
abbrev pub is_silent : Instruction → Bool
is_silent (Arithmetic operator t a b error line) = not (sets_flags operator)
is_silent (Bits operator t a b) = false
is_silent (Index t a i low high width error line) = false
is_silent (Load t a n) = false
is_silent (LoadByte t a n) = false
is_silent _ = true

pub silent_none : (i : Instruction) → is_silent i ≡ true → flagged_by i ≡ None
silent_none (Literal t z) e = refl
silent_none (Copy t a) e = refl
silent_none (Arithmetic Add t a b error line) e = absurd (cc e)
silent_none (Arithmetic Subtract t a b error line) e = absurd (cc e)
silent_none (Arithmetic Modulo t a b error line) e = absurd (cc e)
silent_none (Arithmetic Multiply t a b error line) e = refl
silent_none (Arithmetic Divide t a b error line) e = refl
silent_none (Bits operator t a b) e = absurd (cc e)
silent_none (Compare relation t a b) e = refl
silent_none (CheckRange a low high error line) e = refl
silent_none (CheckPointer a error line) e = refl
silent_none (Text t bytes) e = refl
silent_none (Offset t a n extent) e = refl
silent_none (RoutineValue t q) e = refl
silent_none (Load t a n) e = absurd (cc e)
silent_none (Store a n u) e = refl
silent_none (LoadByte t a n) e = absurd (cc e)
silent_none (StoreByte a n u) e = refl
silent_none (Jump n) e = refl
silent_none (JumpBack n) e = refl
silent_none (Branch relation a b n) e = refl
silent_none (BranchBack relation a b n) e = refl
silent_none (Call t q us line) e = refl
silent_none (CallValue t a us line) e = refl
silent_none (Return a) e = refl
silent_none (Trap error line) e = refl
silent_none (Take t) e = refl
silent_none (Put a) e = refl
silent_none (New t type line) e = refl
silent_none End e = refl
silent_none (Index t a i low high width error line) e = absurd (cc e)

-- an instruction after which one may be
pub record Defers (i : Instruction) : Type 0 where
  pub to : ℕ
  pub written : written_by i ≡ Some to
  pub result : result_of i ≡ None
  pub none : flagged_by i ≡ None
  pub loud : is_silent i ≡ false

pub defers : (c : Context) (r : ℕ) (before : Option (ℕ × ℤ)) (i : Instruction) (next : Option Instruction) (x : ℕ × ℤ)
    → defer c r
    before (Some i) next ≡ Some x → Defers i
defers c r before (Index t a i low high width error line) next x e = record {
  to = t;
  written = refl;
  result = refl;
  none = refl;
  loud = refl;
}
defers c r before (Literal t z) next x e = absurd (cc e)
defers c r before (Copy t a) next x e = absurd (cc e)
defers c r before (Arithmetic operator t a b error line) next x e = absurd (cc e)
defers c r before (Bits operator t a b) next x e = absurd (cc e)
defers c r before (Compare relation t a b) next x e = absurd (cc e)
defers c r before (CheckRange a low high error line) next x e = absurd (cc e)
defers c r before (CheckPointer a error line) next x e = absurd (cc e)
defers c r before (Text t bytes) next x e = absurd (cc e)
defers c r before (Offset t a n extent) next x e = absurd (cc e)
defers c r before (RoutineValue t q) next x e = absurd (cc e)
defers c r before (Load t a n) next x e = absurd (cc e)
defers c r before (Store a n u) next x e = absurd (cc e)
defers c r before (LoadByte t a n) next x e = absurd (cc e)
defers c r before (StoreByte a n u) next x e = absurd (cc e)
defers c r before (Jump n) next x e = absurd (cc e)
defers c r before (JumpBack n) next x e = absurd (cc e)
defers c r before (Branch relation a b n) next x e = absurd (cc e)
defers c r before (BranchBack relation a b n) next x e = absurd (cc e)
defers c r before (Call t q us line) next x e = absurd (cc e)
defers c r before (CallValue t a us line) next x e = absurd (cc e)
defers c r before (Return a) next x e = absurd (cc e)
defers c r before (Trap error line) next x e = absurd (cc e)
defers c r before (Take t) next x e = absurd (cc e)
defers c r before (Put a) next x e = absurd (cc e)
defers c r before (New t type line) next x e = absurd (cc e)
defers c r before End next x e = absurd (cc e)

pub rows : (c : Context) (r : ℕ) (i : Instruction) (next third : Option Instruction) (x : ℕ × ℤ) → row c r
    (Some i) next third
    ≡ Some x → Defers i
rows c r (Index t a i low high width error line) next third x e = record {
  to = t;
  written = refl;
  result = refl;
  none = refl;
  loud = refl;
}
rows c r (Literal t z) next third x e = absurd (cc e)
rows c r (Copy t a) next third x e = absurd (cc e)
rows c r (Arithmetic operator t a b error line) next third x e = absurd (cc e)
rows c r (Bits operator t a b) next third x e = absurd (cc e)
rows c r (Compare relation t a b) next third x e = absurd (cc e)
rows c r (CheckRange a low high error line) next third x e = absurd (cc e)
rows c r (CheckPointer a error line) next third x e = absurd (cc e)
rows c r (Text t bytes) next third x e = absurd (cc e)
rows c r (Offset t a n extent) next third x e = absurd (cc e)
rows c r (RoutineValue t q) next third x e = absurd (cc e)
rows c r (Load t a n) next third x e = absurd (cc e)
rows c r (Store a n u) next third x e = absurd (cc e)
rows c r (LoadByte t a n) next third x e = absurd (cc e)
rows c r (StoreByte a n u) next third x e = absurd (cc e)
rows c r (Jump n) next third x e = absurd (cc e)
rows c r (JumpBack n) next third x e = absurd (cc e)
rows c r (Branch relation a b n) next third x e = absurd (cc e)
rows c r (BranchBack relation a b n) next third x e = absurd (cc e)
rows c r (Call t q us line) next third x e = absurd (cc e)
rows c r (CallValue t a us line) next third x e = absurd (cc e)
rows c r (Return a) next third x e = absurd (cc e)
rows c r (Trap error line) next third x e = absurd (cc e)
rows c r (Take t) next third x e = absurd (cc e)
rows c r (Put a) next third x e = absurd (cc e)
rows c r (New t type line) next third x e = absurd (cc e)
rows c r End next third x e = absurd (cc e)
