use Rattle.std.proofs.Common.{◌≡◌, ℕ, ap, arith}
use Rattle.std.specs.Fmt.{digits}
use Rattle.risc_word.specs.Printed.{printed_register}
use Rattle.risc_word.proofs.text.name_of_register.Goals as goal

pub returns-in-0 : goal.returns-in-0
unfolding digits
returns-in-0 c =
    let is : 0 ≡ c.args.number = omega (arith, c.in-0.is) in
    ap (λ (n : ℕ). printed_register n) is

pub returns-in-1 : goal.returns-in-1
unfolding digits
returns-in-1 c =
    let is : 1 ≡ c.args.number = omega (arith, c.in-1.is) in
    ap (λ (n : ℕ). printed_register n) is

pub returns-in-2 : goal.returns-in-2
unfolding digits
returns-in-2 c =
    let is : 2 ≡ c.args.number = omega (arith, c.in-2.is) in
    ap (λ (n : ℕ). printed_register n) is

pub returns-in-3 : goal.returns-in-3
unfolding digits
returns-in-3 c =
    let is : 3 ≡ c.args.number = omega (arith, c.in-3.is) in
    ap (λ (n : ℕ). printed_register n) is

pub returns-in-4 : goal.returns-in-4
unfolding digits
returns-in-4 c =
    let is : 4 ≡ c.args.number = omega (arith, c.in-4.is) in
    ap (λ (n : ℕ). printed_register n) is

pub returns-in-5 : goal.returns-in-5
unfolding digits
returns-in-5 c =
    let is : 5 ≡ c.args.number = omega (arith, c.in-5.is) in
    ap (λ (n : ℕ). printed_register n) is

pub returns-in-6 : goal.returns-in-6
unfolding digits
returns-in-6 c =
    let is : 6 ≡ c.args.number = omega (arith, c.in-6.is) in
    ap (λ (n : ℕ). printed_register n) is

pub returns-in-7 : goal.returns-in-7
unfolding digits
returns-in-7 c =
    let is : 7 ≡ c.args.number = omega (arith, c.in-7.is) in
    ap (λ (n : ℕ). printed_register n) is

pub returns-in-8 : goal.returns-in-8
unfolding digits
returns-in-8 c =
    let is : 8 ≡ c.args.number = omega (arith, c.in-8.is) in
    ap (λ (n : ℕ). printed_register n) is

pub returns-in-9 : goal.returns-in-9
unfolding digits
returns-in-9 c =
    let is : 9 ≡ c.args.number = omega (arith, c.in-9.is) in
    ap (λ (n : ℕ). printed_register n) is

pub returns-in-10 : goal.returns-in-10
unfolding digits
returns-in-10 c =
    let is : 10 ≡ c.args.number = omega (arith, c.in-10.is) in
    ap (λ (n : ℕ). printed_register n) is

pub returns-in-11 : goal.returns-in-11
unfolding digits
returns-in-11 c =
    let is : 11 ≡ c.args.number = omega (arith, c.in-11.is) in
    ap (λ (n : ℕ). printed_register n) is

pub returns-in-12 : goal.returns-in-12
unfolding digits
returns-in-12 c =
    let is : 12 ≡ c.args.number = omega (arith, c.in-12.is) in
    ap (λ (n : ℕ). printed_register n) is

pub returns-in-13 : goal.returns-in-13
unfolding digits
returns-in-13 c =
    let is : 13 ≡ c.args.number = omega (arith, c.in-13.is) in
    ap (λ (n : ℕ). printed_register n) is

pub returns-in-14 : goal.returns-in-14
unfolding digits
returns-in-14 c =
    let is : 14 ≡ c.args.number = omega (arith, c.in-14.is) in
    ap (λ (n : ℕ). printed_register n) is

pub returns-in-15 : goal.returns-in-15
unfolding digits
returns-in-15 c =
    let is : 15 ≡ c.args.number = omega (arith, c.in-15.is) in
    ap (λ (n : ℕ). printed_register n) is
