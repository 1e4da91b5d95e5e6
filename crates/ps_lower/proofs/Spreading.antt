-- First values that are longer than a word.
use Rattle.std.proofs.Common.{◌≡◌, ℕ, zero, suc, ◌*◌, Bool, true, false, nat_eq, if◌then◌else◌, List, [], ◌++◌, refl}
use Rattle.std.proofs.Common.{ap, sym, ◌∙◌, arith}
use Rattle.std.proofs.Math.Nat.{mul_left_comm}
use Rattle.tac_code.specs.declared.code.Base.{Base}
use Rattle.tac_code.specs.declared.code.Instruction.{Instruction}
use Rattle.tac_code.proofs.Numbers.{not_zero}
use Rattle.ps_lower_layout.specs.Shapes.{Shape, ArrayShape, word_count, byte_count}
use Rattle.ps_lower_code.specs.Scopes.{Scope}
use Rattle.ps_lower_code.specs.Statements.{bytes_below, spread_code, first_code}

-- ---- bytes of one value

pub one_byte : (n b : ℕ) → n ≡ 1 → b ≡ bytes_below n b
one_byte n b e = (let h : b ≡ bytes_below 1 b = omega arith in h) ∙ ap (λ m. bytes_below m b) (sym e)

pub two_bytes : (n b : ℕ) → n ≡ 2 → 257 * b ≡ bytes_below n b
two_bytes n b e = (let h : 257 * b ≡ bytes_below 2 b = omega arith in h) ∙ ap (λ m. bytes_below m b) (sym e)

pub three_bytes : (n b : ℕ) → n ≡ 3 → 65793 * b ≡ bytes_below n b
three_bytes n b e = (let h : 65793 * b ≡ bytes_below 3 b = omega arith in h) ∙ ap (λ m. bytes_below m b) (sym e)

pub four_bytes : (n b : ℕ) → n ≡ 4 → 16843009 * b ≡ bytes_below n b
four_bytes n b e = (let h : 16843009 * b ≡ bytes_below 4 b = omega arith in h) ∙ ap (λ m. bytes_below m b) (sym e)

-- ---- arrays

is_nothing : (m : ℕ) → 4 * m ≡ 0 → nat_eq m 0 ≡ true
is_nothing zero e = refl
is_nothing (suc m) e = absurd (omega (arith, e))

is_something : (m : ℕ) → ¬ (4 * m ≡ 0) → nat_eq m 0 ≡ false
is_something zero h = absurd (h refl)
is_something (suc m) h = not_zero m

abbrev array_code : Scope → Base → (t offset n : ℕ) → Shape → Bool → List Instruction
array_code k b t offset n shape empty = if empty then []
    else (first_code k b t offset shape ++ spread_code k b t offset (byte_count shape) (n * byte_count shape))

pub nothing_repeated : (k : Scope) (b : Base) (t offset n each whole : ℕ) (shape : Shape) → each ≡ byte_count shape
    → whole ≡ n * each → whole ≡ 0 → first_code k b t offset (ArrayShape n shape) ≡ []
nothing_repeated k b t offset n each whole shape e f h =
    ap (λ c. array_code k b t offset n shape c)
    (is_nothing (n * word_count shape) (sym (mul_left_comm n 4 (word_count shape)) ∙ sym (ap (λ m. n * m) e) ∙ sym f
    ∙ h))

pub first_repeated : (k : Scope) (b : Base) (t offset n each whole : ℕ) (shape : Shape) → each ≡ byte_count shape
    → whole ≡ n * each → ¬ (whole ≡ 0) → first_code k b t offset (ArrayShape n shape) ≡ first_code k b t offset shape
    ++ spread_code k b t offset each whole
first_repeated k b t offset n each whole shape e f h =
    let product : whole ≡ n * byte_count shape = f ∙ ap (λ m. n * m) e in
    ap (λ c. array_code k b t offset n shape c)
    (is_something (n * word_count shape) (λ z. h (product ∙ mul_left_comm n 4 (word_count shape) ∙ z)))
    ∙ ap (λ m. first_code k b t offset shape ++ spread_code k b t offset (byte_count shape) m) (sym product)
    ∙ ap (λ m. first_code k b t offset shape ++ spread_code k b t offset m whole) (sym e)
