-- Code whose jumps stay within it, and whose numbers, errors, lines, routines and pointer types are as the invariant
-- requires.
use Rattle.std.proofs.Common.{◌≡◌, ℕ, suc, ◌+◌, ◌%◌, ◌<◌, ◌≤◌, Bool, true, false, if◌then◌else◌, List, [], ◌∷◌, ◌++◌}
use Rattle.std.proofs.Common.{length, ℤ, pos, negsuc, Option, Some, None, arith, length-append, ltb-true, lt-ltb}
use Rattle.tac_code.specs.declared.code.Operand.{Operand}
use Rattle.tac_code.specs.declared.code.Operand.TheVariants as operand
use Rattle.tac_code.specs.declared.code.Instruction.{Instruction}
use Rattle.tac_code.specs.declared.code.Instruction.TheVariants.{Literal, Arithmetic, Bits, Compare, CheckRange}
use Rattle.tac_code.specs.declared.code.Instruction.TheVariants.{CheckPointer, Text, Index, RoutineValue, Jump}
use Rattle.tac_code.specs.declared.code.Instruction.TheVariants.{JumpBack, Branch, BranchBack, Call, CallValue, Trap}
use Rattle.tac_code.specs.declared.code.Instruction.TheVariants.{New}
use Rattle.tac_code.specs.Sound.{IsErrorNumber, IsTestNumber, IsLine, IsInteger}
use Rattle.tac_code.specs.declared.code.TheConstants.{NUMBER_LIMIT}
use Rattle.ps_lower_code.specs.Scopes.{unless_known}

-- an integer, as an order
abbrev pub IsInt : ℤ → Type 0
IsInt (pos n) = n < NUMBER_LIMIT
IsInt (negsuc n) = n < NUMBER_LIMIT

pub to_int : (z : ℤ) → IsInteger z → IsInt z
to_int (pos n) e = ltb-true n NUMBER_LIMIT e
to_int (negsuc n) e = ltb-true n NUMBER_LIMIT e

pub of_int : (z : ℤ) → IsInt z → IsInteger z
of_int (pos n) l = lt-ltb n NUMBER_LIMIT l
of_int (negsuc n) l = lt-ltb n NUMBER_LIMIT l

abbrev pub IsNumber : Operand → Type 0
IsNumber (operand.Temporary t) = Unit {0}
IsNumber (operand.Number z) = IsInt z

-- in a code of this many routines of the program and pointer types; 17 others come after the program's routines
module _ (routines types : ℕ) where
  abbrev pub Asks : Instruction → Type 0
  Asks (Literal t z) = IsInt z
  Asks (Arithmetic operator t a b error line) = IsNumber b × IsTestNumber error × IsLine line
  Asks (Bits operator t a b) = IsNumber b
  Asks (Compare relation t a b) = IsNumber b
  Asks (CheckRange a low high error line) = IsInt low × IsInt high × IsTestNumber error × IsLine line
  Asks (CheckPointer a error line) = IsTestNumber error × IsLine line
  Asks (Text t bytes) = length bytes % 4 ≡ 0
  Asks (Index t a i low high width error line) = IsInt low × IsInt high × IsTestNumber error × IsLine line
  Asks (RoutineValue t r) = r < routines
  Asks (Branch relation a b n) = IsNumber b
  Asks (BranchBack relation a b n) = IsNumber b
  Asks (Call t r list line) = (r < routines + 17) × (length list ≤ 65) × IsLine line
  Asks (CallValue t a list line) = (length list ≤ 65) × IsLine line
  Asks (Trap error line) = IsErrorNumber error × IsLine line
  Asks (New t type line) = (type < types) × IsLine line
  Asks _ = Unit {0}

  -- with this many instructions before, and this many after
  abbrev pub Lands : (before behind : ℕ) → Instruction → Type 0
  Lands b a (Jump n) = n ≤ a
  Lands b a (JumpBack n) = n ≤ b
  Lands b a (Branch relation t o n) = n ≤ a
  Lands b a (BranchBack relation t o n) = n ≤ b
  Lands b a _ = Unit {0}

  abbrev pub Closed : (before behind : ℕ) → List Instruction → Type 0
  Closed b a [] = Unit {0}
  Closed b a (i ∷ rest) = Asks i × Lands b (length rest + a) i × Closed (suc b) a rest

  -- ---- with more around it

  lands_wider : (i : Instruction) (b a b' a' : ℕ) → b ≤ b' → a ≤ a' → Lands b a i → Lands b' a' i
  lands_wider (Jump n) b a b' a' p q l = omega (arith, q, l)
  lands_wider (JumpBack n) b a b' a' p q l = omega (arith, p, l)
  lands_wider (Branch relation t o n) b a b' a' p q l = omega (arith, q, l)
  lands_wider (BranchBack relation t o n) b a b' a' p q l = omega (arith, p, l)
  lands_wider _ b a b' a' p q l = tt

  pub wider : (code : List Instruction) (b a b' a' : ℕ) → b ≤ b' → a ≤ a' → Closed b a code → Closed b' a' code
  wider [] b a b' a' p q c = tt
  wider (i ∷ rest) b a b' a' p q c = (
    c.0,
    lands_wider i b (length rest + a) b' (length rest + a') p (omega (arith, q)) c.1,
    wider rest (suc b) a
        (suc b') a' (omega (arith, p)) q c.2,
  )

  pub anywhere : (code : List Instruction) (b a : ℕ) → Closed 0 0 code → Closed b a code
  anywhere code b a c = wider code 0 0 b a (omega arith) (omega arith) c

  -- ---- code is made of parts

  pub joined : (x y : List Instruction) (b a : ℕ) → Closed b (length y + a) x → Closed (b + length x) a y → Closed b a
      (x ++ y)
  joined [] y b a c d = wider y (b + 0) a b a (omega arith) (omega arith) d
  joined (i ∷ x) y b a c d =
      let l = length-append x y in (
        c.0,
        lands_wider i b (length x + (length y + a)) b (length (x ++ y) + a) (omega arith) (omega (arith, l)) c.1,
        joined x y (suc b) a c.2 (wider y (b + suc (length x)) a (suc b + length x) a (omega arith) (omega arith) d),
      )

  pub both : (x y : List Instruction) → Closed 0 0 x → Closed 0 0 y → Closed 0 0 (x ++ y)
  both x y c d = joined x y 0 0 (anywhere x 0 (length y + 0) c) (anywhere y (0 + length x) 0 d)

  pub three : (x y z : List Instruction) → Closed 0 0 x → Closed 0 0 y → Closed 0 0 z → Closed 0 0 (x ++ y ++ z)
  three x y z c d e = both (x ++ y) z (both x y c d) e

  pub four : (x y z u : List Instruction) → Closed 0 0 x → Closed 0 0 y → Closed 0 0 z → Closed 0 0 u → Closed 0 0
      (x ++ y ++ z ++ u)
  four x y z u c d e f = both (x ++ y ++ z) u (three x y z c d e) f

  pub five : (x y z u v : List Instruction) → Closed 0 0 x → Closed 0 0 y → Closed 0 0 z → Closed 0 0 u → Closed 0 0 v
      → Closed 0 0 (x ++ y ++ z ++ u ++ v)
  five x y z u v c d e f g = both (x ++ y ++ z ++ u) v (four x y z u c d e f) g

  pub six : (x y z u v w : List Instruction) → Closed 0 0 x → Closed 0 0 y → Closed 0 0 z → Closed 0 0 u → Closed 0 0 v
      → Closed 0 0 w → Closed 0 0 (x ++ y ++ z ++ u ++ v ++ w)
  six x y z u v w c d e f g h = both (x ++ y ++ z ++ u ++ v) w (five x y z u v c d e f g) h

  pub either : (c : Bool) (x y : List Instruction) → Closed 0 0 x → Closed 0 0 y → Closed 0 0 (if c then x else y)
  either true x y l r = l
  either false x y l r = r

  pub unknown : (z : Option ℤ) (code : List Instruction) → Closed 0 0 code → Closed 0 0 (unless_known z code)
  unknown None code u = u
  unknown (Some z) code u = tt
