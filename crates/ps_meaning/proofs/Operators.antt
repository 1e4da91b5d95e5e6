-- The operators at their edges, against values computed by hand.
use Rattle.std.proofs.Common.{◌≡◌, pos, negsuc, [], ◌∷◌, refl}
use Rattle.std.specs.Prelude.{codes}
use Rattle.ps_tree.specs.declared.tree.operators.ArithmeticOperator.TheVariants.{Add, Subtract, Multiply, Div, Mod}
use Rattle.ps_tree.specs.declared.tree.operators.RequiredFunction.TheVariants.{Abs, Sqr, Odd, Chr, Succ, Pred}
use Rattle.ps_meaning.specs.Operators.{Result, Fault, compute, apply}
use Rattle.ps_meaning.specs.Text.{EndFound, NoInteger, Integer, scan_integer, fitted, right_aligned, integer_text}
use Rattle.ps_meaning.specs.Text.{digits}

div_1 : compute Div (negsuc 6) (pos 2) ≡ Result (negsuc 2)
div_1 = refl

div_2 : compute Div (pos 7) (negsuc 1) ≡ Result (negsuc 2)
div_2 = refl

div_3 : compute Div (negsuc 6) (negsuc 1) ≡ Result (pos 3)
div_3 = refl

div_4 : compute Div (negsuc 2147483647) (negsuc 0) ≡ Fault 1
div_4 = refl

div_5 : compute Div (pos 1) (pos 0) ≡ Fault 2
div_5 = refl

mod_1 : compute Mod (negsuc 6) (pos 2) ≡ Result (pos 1)
mod_1 = refl

mod_2 : compute Mod (negsuc 5) (pos 3) ≡ Result (pos 0)
mod_2 = refl

mod_3 : compute Mod (negsuc 2147483647) (pos 2147483647) ≡ Result (pos 2147483646)
mod_3 = refl

mod_4 : compute Mod (pos 7) (pos 0) ≡ Fault 3
mod_4 = refl

mod_5 : compute Mod (pos 7) (negsuc 1) ≡ Fault 3
mod_5 = refl

mod_6 : compute Mod (pos 7) (pos 7) ≡ Result (pos 0)
mod_6 = refl

add_1 : compute Add (pos 2147483647) (pos 1) ≡ Fault 1
add_1 = refl

add_2 : compute Add (pos 2147483647) (negsuc 0) ≡ Result (pos 2147483646)
add_2 = refl

subtract_1 : compute Subtract (negsuc 2147483646) (pos 1) ≡ Result (negsuc 2147483647)
subtract_1 = refl

subtract_2 : compute Subtract (negsuc 2147483647) (pos 1) ≡ Fault 1
subtract_2 = refl

multiply_1 : compute Multiply (pos 65536) (pos 32768) ≡ Fault 1
multiply_1 = refl

multiply_2 : compute Multiply (negsuc 65535) (pos 32768) ≡ Result (negsuc 2147483647)
multiply_2 = refl

abs_1 : apply Abs (negsuc 2147483647) ≡ Fault 1
abs_1 = refl

abs_2 : apply Abs (negsuc 2147483646) ≡ Result (pos 2147483647)
abs_2 = refl

sqr_1 : apply Sqr (pos 46341) ≡ Fault 1
sqr_1 = refl

sqr_2 : apply Sqr (negsuc 46339) ≡ Result (pos 2147395600)
sqr_2 = refl

odd_1 : apply Odd (negsuc 2) ≡ Result (pos 1)
odd_1 = refl

odd_2 : apply Odd (negsuc 1) ≡ Result (pos 0)
odd_2 = refl

chr_1 : apply Chr (pos 256) ≡ Fault 4
chr_1 = refl

chr_2 : apply Chr (pos 255) ≡ Result (pos 255)
chr_2 = refl

succ_1 : apply (Succ (pos 1)) (pos 1) ≡ Fault 4
succ_1 = refl

succ_2 : apply (Succ (pos 1)) (pos 0) ≡ Result (pos 1)
succ_2 = refl

pred_1 : apply (Pred (negsuc 2147483647)) (negsuc 2147483647) ≡ Fault 4
pred_1 = refl

scan_1 : scan_integer (codes " -12x") ≡ record { found = Integer (negsuc 11); rest = codes "x" }
scan_1 = refl

scan_2 : scan_integer (codes "+ 5") ≡ record { found = NoInteger; rest = codes " 5" }
scan_2 = refl

scan_3 : scan_integer (32 ∷ 10 ∷ []) ≡ record { found = EndFound; rest = [] }
scan_3 = refl

scan_4 : scan_integer (codes "99999999999") ≡ record { found = Integer (pos 99999999999); rest = [] }
scan_4 = refl

scan_5 : scan_integer (10 ∷ codes "12-7+5") ≡ record { found = Integer (pos 12); rest = codes "-7+5" }
scan_5 = refl

scan_6 : scan_integer (9 ∷ codes "1") ≡ record { found = NoInteger; rest = 9 ∷ codes "1" }
scan_6 = refl

fit_1 : fitted 2 (codes "abc") ≡ codes "ab"
fit_1 = refl

fit_2 : fitted 5 (codes "abc") ≡ codes "  abc"
fit_2 = refl

fit_3 : right_aligned 2 (integer_text (negsuc 122)) ≡ codes "-123"
unfolding digits
fit_3 = refl

fit_4 : integer_text (negsuc 2147483647) ≡ codes "-2147483648"
unfolding digits
fit_4 = refl
