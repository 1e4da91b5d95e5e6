-- Code whose temporaries are below a number, and whose stretches of the scratch block end at or before another, with a
-- whole word.
use Rattle.std.proofs.Common.{◌≡◌, ℕ, ◌+◌, ◌%◌, ◌<◌, ◌≤◌, Bool, true, false, if◌then◌else◌, List, [], ◌∷◌, ◌++◌, ℤ}
use Rattle.std.proofs.Common.{Option, Some, None, arith}
use Rattle.tac_code.specs.declared.code.Operand.{Operand}
use Rattle.tac_code.specs.declared.code.Operand.TheVariants as operand
use Rattle.tac_code.specs.declared.code.Base.{Base}
use Rattle.tac_code.specs.declared.code.Base.TheVariants as base
use Rattle.tac_code.specs.declared.code.Instruction.{Instruction}
use Rattle.tac_code.specs.declared.code.Instruction.TheVariants.{Literal, Copy, Arithmetic, Bits, Compare, CheckRange}
use Rattle.tac_code.specs.declared.code.Instruction.TheVariants.{CheckPointer, Text, Offset, Index, RoutineValue, Load}
use Rattle.tac_code.specs.declared.code.Instruction.TheVariants.{Store, LoadByte, StoreByte, Jump, JumpBack, Branch}
use Rattle.tac_code.specs.declared.code.Instruction.TheVariants.{BranchBack, Call, CallValue, Return, Trap, Take, Put}
use Rattle.tac_code.specs.declared.code.Instruction.TheVariants.{New, End}
use Rattle.ps_lower_code.specs.Scopes.{unless_known}
use Rattle.ps_lower_code.specs.Programs.{in_operand, in_base, in_list, named_in, temporaries_in, scratch_at, meant_by}
use Rattle.ps_lower_code.specs.Programs.{scratch_in}

abbrev pub OperandUnder : ℕ → Operand → Type 0
OperandUnder D (operand.Temporary t) = t < D
OperandUnder D (operand.Number z) = Unit {0}

abbrev pub AllUnder : ℕ → List ℕ → Type 0
AllUnder D [] = Unit {0}
AllUnder D (t ∷ ts) = (t < D) × AllUnder D ts

-- where a variable is: never in the scratch block
abbrev pub BaseUnder : ℕ → Base → Type 0
BaseUnder D base.Frame = Unit {0}
BaseUnder D base.Scratch = ⊥
BaseUnder D base.Program = Unit {0}
BaseUnder D (base.Temporary t) = t < D

-- a base, whose bytes before `end` may be meant
abbrev pub AtBase : (D X : ℕ) → Base → (end : ℕ) → Type 0
AtBase D X base.Frame end = Unit {0}
AtBase D X base.Scratch end = (end ≤ X) × (end % 4 ≡ 0)
AtBase D X base.Program end = Unit {0}
AtBase D X (base.Temporary t) end = t < D

abbrev pub Uses : (D X : ℕ) → Instruction → Type 0
Uses D X (Literal t z) = t < D
Uses D X (Copy t a) = (t < D) × (a < D)
Uses D X (Arithmetic operator t a b error line) = (t < D) × (a < D) × OperandUnder D b
Uses D X (Bits operator t a b) = (t < D) × (a < D) × OperandUnder D b
Uses D X (Compare relation t a b) = (t < D) × (a < D) × OperandUnder D b
Uses D X (CheckRange a low high error line) = a < D
Uses D X (CheckPointer a error line) = a < D
Uses D X (Text t bytes) = t < D
Uses D X (Offset t a n extent) = (t < D) × AtBase D X a (n + extent)
Uses D X (Index t a i low high width error line) = (t < D) × AtBase D X a 0 × (i < D)
Uses D X (RoutineValue t r) = t < D
Uses D X (Load t a n) = (t < D) × AtBase D X a (n + 4)
Uses D X (Store a n b) = AtBase D X a (n + 4) × (b < D)
Uses D X (LoadByte t a n) = (t < D) × AtBase D X a (n + 1)
Uses D X (StoreByte a n b) = AtBase D X a (n + 1) × (b < D)
Uses D X (Jump n) = Unit {0}
Uses D X (JumpBack n) = Unit {0}
Uses D X (Branch relation a b n) = (a < D) × OperandUnder D b
Uses D X (BranchBack relation a b n) = (a < D) × OperandUnder D b
Uses D X (Call t r list line) = (t < D) × AllUnder D list
Uses D X (CallValue t a list line) = (t < D) × (a < D) × AllUnder D list
Uses D X (Return a) = a < D
Uses D X (Trap error line) = Unit {0}
Uses D X (Take t) = t < D
Uses D X (Put a) = a < D
Uses D X (New t type line) = t < D
Uses D X End = Unit {0}

abbrev pub Under : (D X : ℕ) → List Instruction → Type 0
Under D X [] = Unit {0}
Under D X (i ∷ rest) = Uses D X i × Under D X rest

-- ---- code is made of parts

module _ (D X : ℕ) where
  pub both : (a b : List Instruction) → Under D X a → Under D X b → Under D X (a ++ b)
  both [] b l r = r
  both (i ∷ a) b l r = (l.0, both a b l.1 r)

  pub three : (a b c : List Instruction) → Under D X a → Under D X b → Under D X c → Under D X (a ++ b ++ c)
  three a b c u v w = both (a ++ b) c (both a b u v) w

  pub four : (a b c d : List Instruction) → Under D X a → Under D X b → Under D X c → Under D X d → Under D X
      (a ++ b ++ c ++ d)
  four a b c d u v w y = both (a ++ b ++ c) d (three a b c u v w) y

  pub five : (a b c d e : List Instruction) → Under D X a → Under D X b → Under D X c → Under D X d → Under D X e
      → Under D X (a ++ b ++ c ++ d ++ e)
  five a b c d e u v w y z = both (a ++ b ++ c ++ d) e (four a b c d u v w y) z

  pub six : (a b c d e f : List Instruction) → Under D X a → Under D X b → Under D X c → Under D X d → Under D X e
      → Under D X f → Under D X (a ++ b ++ c ++ d ++ e ++ f)
  six a b c d e f u v w y z q = both (a ++ b ++ c ++ d ++ e) f (five a b c d e u v w y z) q

  pub either : (c : Bool) (a b : List Instruction) → Under D X a → Under D X b → Under D X (if c then a else b)
  either true a b l r = l
  either false a b l r = r

  pub unknown : (z : Option ℤ) (code : List Instruction) → Under D X code → Under D X (unless_known z code)
  unknown None code u = u
  unknown (Some z) code u = tt

  pub at_base : (b : Base) (end : ℕ) → BaseUnder D b → AtBase D X b end
  at_base base.Frame end u = tt
  at_base base.Scratch end u = absurd u
  at_base base.Program end u = tt
  at_base (base.Temporary t) end u = u

  pub all_both : (a b : List ℕ) → AllUnder D a → AllUnder D b → AllUnder D (a ++ b)
  all_both [] b l r = r
  all_both (t ∷ a) b l r = (l.0, all_both a b l.1 r)

-- ---- what that says of the counts

module _ (D : ℕ) where
  operand_counted : (b : Operand) → OperandUnder D b → in_operand b ≤ D
  operand_counted (operand.Temporary t) u = u
  operand_counted (operand.Number z) u = omega arith

  list_counted : (list : List ℕ) → AllUnder D list → in_list list ≤ D
  list_counted [] u = omega arith
  list_counted (t ∷ ts) u = let a = u.0 in let b = list_counted ts u.1 in omega (arith, a, b)

module _ (D X : ℕ) where
  base_counted : (b : Base) (end : ℕ) → AtBase D X b end → in_base b ≤ D
  base_counted base.Frame end u = omega arith
  base_counted base.Scratch end u = omega arith
  base_counted base.Program end u = omega arith
  base_counted (base.Temporary t) end u = u

  stretch_counted : (b : Base) (n extent : ℕ) → AtBase D X b (n + extent) → scratch_at b n extent ≤ X
  stretch_counted base.Frame n extent u = omega arith
  stretch_counted base.Scratch n extent u = u.0
  stretch_counted base.Program n extent u = omega arith
  stretch_counted (base.Temporary t) n extent u = omega arith

  named : (i : Instruction) → Uses D X i → named_in i ≤ D
  named (Literal t z) u = u
  named (Copy t a) u = omega (arith, u)
  named (Arithmetic operator t a b error line) u = let o = operand_counted D b u.2 in let l = u.0 in let m = u.1
      in omega (arith, l, m, o)
  named (Bits operator t a b) u = let o = operand_counted D b u.2 in let l = u.0 in let m = u.1 in omega
      (arith, l, m, o)
  named (Compare relation t a b) u = let o = operand_counted D b u.2 in let l = u.0 in let m = u.1 in omega
      (arith, l, m, o)
  named (CheckRange a low high error line) u = u
  named (CheckPointer a error line) u = u
  named (Text t bytes) u = u
  named (Offset t a n extent) u = let l = u.0 in let b = base_counted a (n + extent) u.1 in omega (arith, l, b)
  named (Index t a i low high width error line) u = let l = u.0 in let b = base_counted a 0 u.1 in let m = u.2 in omega
      (arith, l, b, m)
  named (RoutineValue t r) u = u
  named (Load t a n) u = let l = u.0 in let b = base_counted a (n + 4) u.1 in omega (arith, l, b)
  named (Store a n t) u = let l = u.1 in let b = base_counted a (n + 4) u.0 in omega (arith, l, b)
  named (LoadByte t a n) u = let l = u.0 in let b = base_counted a (n + 1) u.1 in omega (arith, l, b)
  named (StoreByte a n t) u = let l = u.1 in let b = base_counted a (n + 1) u.0 in omega (arith, l, b)
  named (Jump n) u = omega arith
  named (JumpBack n) u = omega arith
  named (Branch relation a b n) u = let o = operand_counted D b u.1 in let l = u.0 in omega (arith, l, o)
  named (BranchBack relation a b n) u = let o = operand_counted D b u.1 in let l = u.0 in omega (arith, l, o)
  named (Call t r list line) u = let o = list_counted D list u.1 in let l = u.0 in omega (arith, l, o)
  named (CallValue t a list line) u = let o = list_counted D list u.2 in let l = u.0 in let m = u.1 in omega
      (arith, l, m, o)
  named (Return a) u = u
  named (Trap error line) u = omega arith
  named (Take t) u = u
  named (Put a) u = u
  named (New t type line) u = u
  named End u = omega arith

  meant : (i : Instruction) → Uses D X i → meant_by i ≤ X
  meant (Offset t a n extent) u = stretch_counted a n extent u.1
  meant (Load t a n) u = stretch_counted a n 4 u.1
  meant (Store a n t) u = stretch_counted a n 4 u.0
  meant (LoadByte t a n) u = stretch_counted a n 1 u.1
  meant (StoreByte a n t) u = stretch_counted a n 1 u.0
  meant _ u = omega arith

  pub temporaries_counted : (code : List Instruction) → Under D X code → temporaries_in code ≤ D
  temporaries_counted [] u = omega arith
  temporaries_counted (i ∷ rest) u = let a = named i u.0 in let b = temporaries_counted rest u.1 in omega (arith, a, b)

  pub scratch_counted : (code : List Instruction) → Under D X code → scratch_in code ≤ X
  scratch_counted [] u = omega arith
  scratch_counted (i ∷ rest) u = let a = meant i u.0 in let b = scratch_counted rest u.1 in omega (arith, a, b)

  stretch_whole : (b : Base) (n extent : ℕ) → AtBase D X b (n + extent) → scratch_at b n extent % 4 ≡ 0
  stretch_whole base.Frame n extent u = omega arith
  stretch_whole base.Scratch n extent u = u.1
  stretch_whole base.Program n extent u = omega arith
  stretch_whole (base.Temporary t) n extent u = omega arith

  whole : (i : Instruction) → Uses D X i → meant_by i % 4 ≡ 0
  whole (Offset t a n extent) u = stretch_whole a n extent u.1
  whole (Load t a n) u = stretch_whole a n 4 u.1
  whole (Store a n t) u = stretch_whole a n 4 u.0
  whole (LoadByte t a n) u = stretch_whole a n 1 u.1
  whole (StoreByte a n t) u = stretch_whole a n 1 u.0
  whole _ u = omega arith

  pub scratch_whole : (code : List Instruction) → Under D X code → scratch_in code % 4 ≡ 0
  scratch_whole [] u = omega arith
  scratch_whole (i ∷ rest) u = let a = whole i u.0 in let b = scratch_whole rest u.1 in omega (arith, a, b)
