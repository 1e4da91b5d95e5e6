-- What is required of instructions whose words depend on more: that a call passes no more operands than a frame has
-- room for; and how far after a register a load goes that is short of an offset; and how far a jump goes.
use Rattle.std.specs.Prelude.{ℕ, suc, ◌+◌, ◌<◌, ◌≤◌, length, Option, Some, None, ℤ, pos, negsuc, ◌+ℤ◌, ◌≤ℤ◌}
use Rattle.tac_code.specs.declared.code.Instruction.{Instruction}
use Rattle.tac_code.specs.declared.code.Instruction.TheVariants.{Load, Jump, JumpBack, Branch, BranchBack, Call}
use Rattle.tac_code.specs.declared.code.Instruction.TheVariants.{CallValue}
use Rattle.risc_emit.specs.declared.pieces.TheConstants.{WORD_LIMIT}

abbrev pub PassesFew : Instruction → Type 0
PassesFew (Call t r list line) = length list ≤ 65
PassesFew (CallValue t a list line) = length list ≤ 65
PassesFew _ = Unit {0}

abbrev pub IsNear : Option (ℕ × ℤ) → ℕ → Type 0
IsNear None n = Unit {0}
IsNear (Some deferred) n = (negsuc 524287 ≤ℤ (deferred.1 +ℤ pos n)) × ((deferred.1 +ℤ pos n) ≤ℤ pos 524287)

abbrev pub LoadsNear : Instruction → Option (ℕ × ℤ) → Type 0
LoadsNear (Load t a n) deferred = IsNear deferred n
LoadsNear _ deferred = Unit {0}

-- a jump to a place that a label can name
abbrev pub AimsNear : ℕ → Instruction → Type 0
AimsNear k (Jump n) = suc k + n < WORD_LIMIT
AimsNear k (JumpBack n) = n ≤ k
AimsNear k (Branch relation a b n) = suc k + n < WORD_LIMIT
AimsNear k (BranchBack relation a b n) = n ≤ k
AimsNear k _ = Unit {0}
