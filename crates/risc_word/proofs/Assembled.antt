-- The table with the top four bits of a word as one field: an instruction is read back from what it is assembled to.
use Rattle.std.proofs.Common.{ℕ, ◌+◌, ◌-◌, ◌*◌, ◌/◌, ◌%◌, ◌<◌, ◌≤◌, Bool, true, false, eqb, Some, ℤ, pos, negsuc}
use Rattle.std.proofs.Common.{refl, ap, ◌∙◌, arith, ◌≡◌}
use Rattle.std.specs.Prelude.{◌≤ℤ◌}
use Rattle.std.proofs.lemmas.Int.{ints}
use Rattle.std.proofs.lemmas.Bool.{lt-ltb, le-ltb}
use Rattle.risc_word.specs.declared.instr.Operation.{Operation}
use Rattle.risc_word.specs.declared.instr.Operation.TheVariants.{Lsl, Asr, Ror, And, Ann, Ior, Xor, Add, Sub, Mul, Div}
use Rattle.risc_word.specs.declared.instr.Operation.TheVariants.{Adc, Sbc}
use Rattle.risc_word.specs.declared.instr.Operand.{Operand}
use Rattle.risc_word.specs.declared.instr.Operand.TheVariants.{Content, Constant}
use Rattle.risc_word.specs.declared.instr.Width.TheVariants.{Word, Byte}
use Rattle.risc_word.specs.declared.instr.Condition.{Condition}
use Rattle.risc_word.specs.declared.instr.Condition.TheVariants.{Minus}
use Rattle.risc_word.specs.declared.instr.Target.TheVariants.{Relative, Absolute}
use Rattle.risc_word.specs.declared.instr.Instr.{Instr}
use Rattle.risc_word.specs.declared.instr.Instr.TheVariants.{Move, MoveTop, MoveHigh, Operate, Load, Store, Branch}
use Rattle.risc_word.specs.Words.{code_of, carry_of, condition_code, byte_of, link_of, sign_of, bits_of, with_operand}
use Rattle.risc_word.specs.Words.{word_of, IsOperand, IsInstr, operation_at, condition_at, immediate_at, signed_at}
use Rattle.risc_word.specs.Words.{register_form, immediate_form, branch, absolute_form, of_fields, instr_at}

-- ---- the table with the top four bits as one field
abbrev pub assemble : ℕ → ℕ → ℕ → ℕ → ℕ → ℕ
assemble top a b op low = (((top * 16 + a) * 16 + b) * 16 + op) * 65536 + low

abbrev low_of : ℤ → ℕ
low_of (pos n) = n
low_of (negsuc n) = 65535 - n

abbrev pub operand_top : Operand → ℕ
operand_top (Content c) = 0
operand_top (Constant n) = 4 + sign_of n

abbrev pub operand_low : Operand → ℕ
operand_low (Content c) = c
operand_low (Constant n) = low_of n

abbrev pub with_offset : ℕ → ℕ → ℕ → ℕ → ℕ
with_offset top a b offset = ((top * 16 + a) * 16 + b) * 1048576 + offset

abbrev pub with_distance : ℕ → ℕ → ℕ → ℕ
with_distance top a distance = (top * 16 + a) * 16777216 + distance

abbrev pub assembled : Instr → ℕ
assembled (Move a n) = assemble (operand_top n) a 0 0 (operand_low n)
assembled (MoveTop a n) = assemble 6 a 0 0 n
assembled (MoveHigh a) = assemble 2 a 0 0 0
assembled (Operate op a b n) = assemble (2 * carry_of op + operand_top n) a b (code_of op) (operand_low n)
assembled (Load w a b off) = with_offset (8 + byte_of w) a b (bits_of 1048576 off)
assembled (Store w a b off) = with_offset (10 + byte_of w) a b (bits_of 1048576 off)
assembled (Branch con link (Relative off)) = with_distance (14 + link_of link) (condition_code con)
    (bits_of 16777216 off)
assembled (Branch con link (Absolute c)) = assemble (12 + link_of link) (condition_code con) 0 0 c

operand_assembled : (u a b op : ℕ) (n : Operand) → with_operand u a b op n ≡ assemble (2 * u + operand_top n) a b op
    (operand_low n)
operand_assembled u a b op (Content c) = omega arith
operand_assembled u a b op (Constant (pos n)) = omega arith
operand_assembled u a b op (Constant (negsuc n)) = omega arith

pub word_assembled : (i : Instr) → word_of i ≡ assembled i
word_assembled (Move a (Content c)) = omega arith
word_assembled (Move a (Constant (pos n))) = omega arith
word_assembled (Move a (Constant (negsuc n))) = omega arith
word_assembled (MoveTop a n) = omega arith
word_assembled (MoveHigh a) = omega arith
word_assembled (Operate op a b n) = operand_assembled (carry_of op) a b (code_of op) n
word_assembled (Load w a b off) = omega arith
word_assembled (Store w a b off) = omega arith
word_assembled (Branch con link (Relative off)) = omega arith
word_assembled (Branch con link (Absolute c)) = omega arith

pub record Spells (w : ℕ) (i : Instr) : Type 0 where
  pub ranges : IsInstr i
  pub table : assembled i ≡ w

-- the fields of a word that was put together
fields_back : (top a b op low : ℕ) → a < 16 → b < 16 → op < 16 → low < 65536 → instr_at (assemble top a b op low)
    ≡ of_fields top a b op low (op * 65536 + low) ((b * 16 + op) * 65536 + low)
fields_back top a b op low ha hb hop hlow =
    let w : ℕ = assemble top a b op low in
    let e1 : w / 268435456 ≡ top = omega arith in
    let e2 : w / 16777216 % 16 ≡ a = omega arith in
    let e3 : w / 1048576 % 16 ≡ b = omega arith in
    let e4 : w / 65536 % 16 ≡ op = omega arith in
    let e5 : w % 65536 ≡ low = omega arith in
    let e6 : w % 1048576 ≡ op * 65536 + low = omega arith in
    let e7 : w % 16777216 ≡ (b * 16 + op) * 65536 + low = omega arith in
    rw (e1, e2, e3, e4, e5, e6, e7)

abbrev is_carry : Operation → Bool
is_carry op = eqb (carry_of op) 1

operation_back : (op : Operation) → operation_at (is_carry op) (code_of op) ≡ Some op
operation_back Lsl = refl
operation_back _ = refl

code_above : (op : Operation) → eqb (code_of op) 0 ≡ false
code_above Lsl = refl
code_above _ = refl

pub code_below : (op : Operation) → code_of op < 16
code_below Lsl = omega arith
code_below _ = omega arith

pub condition_below : (con : Condition) → condition_code con < 16
condition_below Minus = omega arith
condition_below _ = omega arith

condition_back : (con : Condition) → condition_at (condition_code con) ≡ Some con
condition_back Minus = refl
condition_back _ = refl

register_back : (op : Operation) (a b c : ℕ) → c < 16 → register_form (is_carry op) a b (code_of op) c ≡ Some
    (Operate op a b (Content c))
register_back op a b c h = rw (code_above op, lt-ltb c 16 h, operation_back op)

immediate_back : (op : Operation) (a b low : ℕ) (sign : Bool) → immediate_form (is_carry op) sign a b (code_of op) low
    ≡ Some (Operate op a b (Constant (immediate_at sign low)))
immediate_back op a b low sign = rw (code_above op, operation_back op)

operate_back : (op : Operation) (a b : ℕ) (n : Operand) (x y : ℕ) → IsOperand n → of_fields
    (2 * carry_of op + operand_top n) a b (code_of op) (operand_low n) x y ≡ Some (Operate op a b n)
operate_back op a b (Content c) x y h = content op
  where
    content : (op : Operation) → of_fields (2 * carry_of op + 0) a b (code_of op) c x y ≡ Some
        (Operate op a b (Content c))
    content Lsl = register_back Lsl a b c h
    content Adc = register_back Adc a b c h
    content Sbc = register_back Sbc a b c h
    content Asr = register_back Asr a b c h
    content Ror = register_back Ror a b c h
    content And = register_back And a b c h
    content Ann = register_back Ann a b c h
    content Ior = register_back Ior a b c h
    content Xor = register_back Xor a b c h
    content Add = register_back Add a b c h
    content Sub = register_back Sub a b c h
    content Mul = register_back Mul a b c h
    content Div = register_back Div a b c h
operate_back op a b (Constant (pos n)) x y h = constant op
  where
    constant : (op : Operation) → of_fields (2 * carry_of op + (4 + 0)) a b (code_of op) n x y ≡ Some
        (Operate op a b (Constant (pos n)))
    constant Lsl = immediate_back Lsl a b n false
    constant Adc = immediate_back Adc a b n false
    constant Sbc = immediate_back Sbc a b n false
    constant Asr = immediate_back Asr a b n false
    constant Ror = immediate_back Ror a b n false
    constant And = immediate_back And a b n false
    constant Ann = immediate_back Ann a b n false
    constant Ior = immediate_back Ior a b n false
    constant Xor = immediate_back Xor a b n false
    constant Add = immediate_back Add a b n false
    constant Sub = immediate_back Sub a b n false
    constant Mul = immediate_back Mul a b n false
    constant Div = immediate_back Div a b n false
operate_back op a b (Constant (negsuc n)) x y h = go op
  where
    same : 65535 - (65535 - n) ≡ n
    same = omega (arith, ints, h.0)

    constant : (op : Operation) → of_fields (2 * carry_of op + (4 + 1)) a b (code_of op) (65535 - n) x y ≡ Some
        (Operate op a b (Constant (negsuc (65535 - (65535 - n)))))
    constant Lsl = immediate_back Lsl a b (65535 - n) true
    constant Adc = immediate_back Adc a b (65535 - n) true
    constant Sbc = immediate_back Sbc a b (65535 - n) true
    constant Asr = immediate_back Asr a b (65535 - n) true
    constant Ror = immediate_back Ror a b (65535 - n) true
    constant And = immediate_back And a b (65535 - n) true
    constant Ann = immediate_back Ann a b (65535 - n) true
    constant Ior = immediate_back Ior a b (65535 - n) true
    constant Xor = immediate_back Xor a b (65535 - n) true
    constant Add = immediate_back Add a b (65535 - n) true
    constant Sub = immediate_back Sub a b (65535 - n) true
    constant Mul = immediate_back Mul a b (65535 - n) true
    constant Div = immediate_back Div a b (65535 - n) true

    go : (op : Operation) → of_fields (2 * carry_of op + (4 + 1)) a b (code_of op) (65535 - n) x y ≡ Some
        (Operate op a b (Constant (negsuc n)))
    go op = constant op ∙ ap (λ k. Some (Operate op a b (Constant (negsuc k)))) same

pub operand_below : (n : Operand) → IsOperand n → operand_low n < 65536
operand_below (Content c) h = omega arith
operand_below (Constant (pos n)) h = omega (arith, ints, h.1)
operand_below (Constant (negsuc n)) h = omega arith

move_back : (a : ℕ) (n : Operand) (x y : ℕ) → IsOperand n → of_fields (operand_top n) a 0 0 (operand_low n) x y ≡ Some
    (Move a n)
move_back a (Content c) x y h = rw (lt-ltb c 16 h)
move_back a (Constant (pos n)) x y h = refl
move_back a (Constant (negsuc n)) x y h =
    let same : 65535 - (65535 - n) ≡ n = omega (arith, ints, h.0) in
    ap (λ k. Some (Move a (Constant (negsuc k)))) same

signed_back : (half : ℕ) (z : ℤ) → 0 < half → negsuc (half - 1) ≤ℤ z → z ≤ℤ pos (half - 1) → signed_at half
    (bits_of (2 * half) z) ≡ z
signed_back half (pos n) h low high =
    let b : n < half = omega (arith, ints) in rw (lt-ltb n half b)
signed_back half (negsuc n) h low high =
    let b : n < half = omega (arith, ints) in
    let m : half ≤ 2 * half - 1 - n = omega arith in
    let e : 2 * half - 1 - (2 * half - 1 - n) ≡ n = omega arith in
    rw (le-ltb (2 * half - 1 - n) half m) (ap negsuc e)

pub bits_below : (half : ℕ) (z : ℤ) → 0 < half → z ≤ℤ pos (half - 1) → bits_of (2 * half) z < 2 * half
bits_below half (pos n) h high = omega (arith, ints)
bits_below half (negsuc n) h high = omega arith

-- a word with a 20-bit offset, or a 24-bit distance
offset_fields : (top a b bits : ℕ) → a < 16 → b < 16 → bits < 1048576 → instr_at (with_offset top a b bits)
    ≡ of_fields top a b (bits / 65536) (bits % 65536) bits (b * 1048576 + bits)
offset_fields top a b bits ha hb h =
    let w : ℕ = with_offset top a b bits in
    let e1 : w / 268435456 ≡ top = omega arith in
    let e2 : w / 16777216 % 16 ≡ a = omega arith in
    let e3 : w / 1048576 % 16 ≡ b = omega arith in
    let e4 : w / 65536 % 16 ≡ bits / 65536 = omega arith in
    let e5 : w % 65536 ≡ bits % 65536 = omega arith in
    let e6 : w % 1048576 ≡ bits = omega arith in
    let e7 : w % 16777216 ≡ b * 1048576 + bits = omega arith in
    rw (e1, e2, e3, e4, e5, e6, e7)

distance_fields : (top a bits : ℕ) → a < 16 → bits < 16777216 → instr_at (with_distance top a bits) ≡ of_fields top a
    (bits / 1048576) (bits / 65536 % 16) (bits % 65536) (bits % 1048576) bits
distance_fields top a bits ha h =
    let w : ℕ = with_distance top a bits in
    let e1 : w / 268435456 ≡ top = omega arith in
    let e2 : w / 16777216 % 16 ≡ a = omega arith in
    let e3 : w / 1048576 % 16 ≡ bits / 1048576 = omega arith in
    let e4 : w / 65536 % 16 ≡ bits / 65536 % 16 = omega arith in
    let e5 : w % 65536 ≡ bits % 65536 = omega arith in
    let e6 : w % 1048576 ≡ bits % 1048576 = omega arith in
    let e7 : w % 16777216 ≡ bits = omega arith in
    rw (e1, e2, e3, e4, e5, e6, e7)

absolute_back : (link : Bool) (con : Condition) (c far : ℕ) → far ≡ c → c < 16 → absolute_form link
    (condition_code con) far ≡ Some (Branch con link (Absolute c))
absolute_back link con c far e h = rw (e, lt-ltb c 16 h, condition_back con)

-- the word of an instruction is read back as that instruction
pub assembled_back : (i : Instr) → IsInstr i → instr_at (assembled i) ≡ Some i
assembled_back (Move a n) h = fields_back (operand_top n) a 0 0 (operand_low n) h.0 (omega arith) (omega arith)
    (operand_below n h.1) ∙ move_back a n _ _ h.1
assembled_back (MoveTop a n) h = fields_back 6 a 0 0 n h.0 (omega arith) (omega arith) h.1
assembled_back (MoveHigh a) h = fields_back 2 a 0 0 0 h (omega arith) (omega arith) (omega arith)
assembled_back (Operate op a b n) h =
    fields_back (2 * carry_of op + operand_top n) a b (code_of op) (operand_low n) h.0 h.1 (code_below op)
    (operand_below n h.2) ∙ operate_back op a b n _ _ h.2
assembled_back (Load Word a b off) h = offset_fields 8 a b (bits_of 1048576 off) h.0 h.1
    (bits_below 524288 off (omega arith) h.2.1) ∙ ap (λ k. Some (Load Word a b k))
    (signed_back 524288 off (omega arith) h.2.0 h.2.1)
assembled_back (Load Byte a b off) h = offset_fields 9 a b (bits_of 1048576 off) h.0 h.1
    (bits_below 524288 off (omega arith) h.2.1) ∙ ap (λ k. Some (Load Byte a b k))
    (signed_back 524288 off (omega arith) h.2.0 h.2.1)
assembled_back (Store Word a b off) h = offset_fields 10 a b (bits_of 1048576 off) h.0 h.1
    (bits_below 524288 off (omega arith) h.2.1) ∙ ap (λ k. Some (Store Word a b k))
    (signed_back 524288 off (omega arith) h.2.0 h.2.1)
assembled_back (Store Byte a b off) h = offset_fields 11 a b (bits_of 1048576 off) h.0 h.1
    (bits_below 524288 off (omega arith) h.2.1) ∙ ap (λ k. Some (Store Byte a b k))
    (signed_back 524288 off (omega arith) h.2.0 h.2.1)
assembled_back (Branch con false (Relative d)) h =
    distance_fields 14 (condition_code con) (bits_of 16777216 d) (condition_below con)
    (bits_below 8388608 d (omega arith) h.1)
    ∙ ap (λ c. branch c false (Relative (signed_at 8388608 (bits_of 16777216 d)))) (condition_back con)
    ∙ ap (λ k. Some (Branch con false (Relative k))) (signed_back 8388608 d (omega arith) h.0 h.1)
assembled_back (Branch con true (Relative d)) h =
    distance_fields 15 (condition_code con) (bits_of 16777216 d) (condition_below con)
    (bits_below 8388608 d (omega arith) h.1)
    ∙ ap (λ c. branch c true (Relative (signed_at 8388608 (bits_of 16777216 d)))) (condition_back con)
    ∙ ap (λ k. Some (Branch con true (Relative k))) (signed_back 8388608 d (omega arith) h.0 h.1)
assembled_back (Branch con false (Absolute c)) h = fields_back 12 (condition_code con) 0 0 c (condition_below con)
    (omega arith) (omega arith) (omega arith) ∙ absolute_back false con c _ (omega arith) h
assembled_back (Branch con true (Absolute c)) h = fields_back 13 (condition_code con) 0 0 c (condition_below con)
    (omega arith) (omega arith) (omega arith) ∙ absolute_back true con c _ (omega arith) h
