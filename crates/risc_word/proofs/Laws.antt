-- `assembled` and `instr_at` are inverse.
use Rattle.std.proofs.Common.{ℕ, ◌/◌, ◌%◌, ◌^◌, ◌<◌, Bool, true, false, Option, Some, None, pos, negsuc, sym, ap, ◌∙◌}
use Rattle.std.proofs.Common.{subst, arith, ◌≡◌}
use Rattle.std.specs.Prelude.{IfSome, IfNone}
use Rattle.risc_word.specs.declared.instr.Operation.{Operation}
use Rattle.risc_word.specs.declared.instr.Operation.TheVariants.{Lsl}
use Rattle.risc_word.specs.declared.instr.Operand.{Operand}
use Rattle.risc_word.specs.declared.instr.Operand.TheVariants.{Content, Constant}
use Rattle.risc_word.specs.declared.instr.Width.{Width}
use Rattle.risc_word.specs.declared.instr.Width.TheVariants.{Word, Byte}
use Rattle.risc_word.specs.declared.instr.Target.TheVariants.{Relative, Absolute}
use Rattle.risc_word.specs.declared.instr.Instr.{Instr}
use Rattle.risc_word.specs.declared.instr.Instr.TheVariants.{Move, MoveTop, MoveHigh, Operate, Load, Store, Branch}
use Rattle.risc_word.specs.Words.{carry_of, byte_of, link_of, word_of, IsInstr, Denotes, instr_at}
use Rattle.risc_word.proofs.Assembled.{assembled, assembled_back, bits_below, code_below, condition_below}
use Rattle.risc_word.proofs.Assembled.{operand_below, operand_top, word_assembled}
use Rattle.risc_word.proofs.Fields.{fields_denote, none_some}

-- ---- the laws of the table

-- the way back from a word of the table
pub instr_back : (i : Instr) → IsInstr i → instr_at (word_of i) ≡ Some i
instr_back i h = ap instr_at (word_assembled i) ∙ assembled_back i h

-- a word's instruction is the one that the table has
pub word_denotes : (w : ℕ) (i : Instr) → w < 2 ^ 32 → instr_at w ≡ Some i → Denotes w i
word_denotes w i lt h =
    let s = fields_denote w (w / 268435456) (w / 16777216 % 16) (w / 1048576 % 16) (w / 65536 % 16) (w % 65536)
    (w % 1048576) (w % 16777216) i (omega arith) (omega arith) (omega arith) (omega arith) (omega arith)
    (omega arith) (omega arith) (omega arith) h in
    record { ranges = s.ranges; table = word_assembled i ∙ s.table }

-- the instruction that a word denotes is the one that is read from it
pub denoted_back : (w : ℕ) (i : Instr) → Denotes w i → instr_at w ≡ Some i
denoted_back w i d = ap instr_at (sym d.table) ∙ instr_back i d.ranges

-- a word with no instruction has none in the table
pub nothing_denotes : (w : ℕ) (i : Instr) → instr_at w ≡ None → Denotes w i → ⊥
nothing_denotes w i h d = none_some i (sym h ∙ denoted_back w i d)

pub some_denotes : (w : ℕ) (o : Option Instr) → w < 2 ^ 32 → o ≡ instr_at w → IfSome o (Denotes w)
some_denotes w None lt e = tt
some_denotes w (Some i) lt e = word_denotes w i lt (sym e)

pub none_denotes : (w : ℕ) (o : Option Instr) → o ≡ instr_at w → IfNone o ((i : Instr) → Denotes w i → ⊥)
none_denotes w None e = λ i d. nothing_denotes w i (sym e) d
none_denotes w (Some i) e = tt

top_below : (n : Operand) → operand_top n < 6
top_below (Content c) = omega arith
top_below (Constant (pos n)) = omega arith
top_below (Constant (negsuc n)) = omega arith

carry_below : (op : Operation) → carry_of op < 2
carry_below Lsl = omega arith
carry_below _ = omega arith

byte_below : (w : Width) → byte_of w < 2
byte_below Word = omega arith
byte_below Byte = omega arith

link_below : (b : Bool) → link_of b < 2
link_below true = omega arith
link_below false = omega arith

assembled_below : (i : Instr) → IsInstr i → assembled i < 2 ^ 32
assembled_below (Move a n) h = let l = operand_below n h.1 in let t = top_below n in omega (arith, h.0)
assembled_below (MoveTop a n) h = omega (arith, h.0, h.1)
assembled_below (MoveHigh a) h = omega arith
assembled_below (Operate op a b n) h = let l = operand_below n h.2 in let t = top_below n in let c = code_below op
    in let u = carry_below op in omega (arith, h.0, h.1)
assembled_below (Load w a b off) h = let l = bits_below 524288 off (omega arith) h.2.1 in let t = byte_below w in omega
    (arith, h.0, h.1)
assembled_below (Store w a b off) h = let l = bits_below 524288 off (omega arith) h.2.1 in let t = byte_below w in omega
    (arith, h.0, h.1)
assembled_below (Branch con link (Relative d)) h = let l = bits_below 8388608 d (omega arith) h.1
    in let c = condition_below con in let t = link_below link in omega arith
assembled_below (Branch con link (Absolute c)) h = let k = condition_below con in let t = link_below link in omega arith

-- the word of an instruction has 32 bits
pub word_below : (i : Instr) → IsInstr i → word_of i < 2 ^ 32
word_below i h = subst (λ w. w < 2 ^ 32) (sym (word_assembled i)) (assembled_below i h)
