-- Bounds on heights.
use Rattle.std.proofs.Common.{◌≡◌, ℕ, zero, suc, ◌+◌, ◌*◌, ◌-◌, ◌<◌, ◌≤◌, ◌≢◌, max, List, [], ◌∷◌, length, get_or, map}
use Rattle.std.proofs.Common.{refl, sym, ap, subst, ◌∙◌, arith}
use Rattle.ps_tree.specs.Tree as t
use Rattle.ps_tree.specs.declared.tree.Member.{Member}
use Rattle.ps_tree.specs.declared.tree.Argument.{Argument}
use Rattle.ps_tree.specs.declared.tree.statements.Statement.{Statement}
use Rattle.ps_tree.specs.declared.tree.statements.CaseElement.{CaseElement, out-CaseElement}
use Rattle.ps_tree.specs.declared.tree.Place.{Place}
use Rattle.ps_tree.specs.declared.tree.statements.ReadVariable.{ReadVariable}
use Rattle.ps_tree.specs.declared.tree.statements.WriteParameter.{WriteParameter}
use Rattle.ps_tree.specs.declared.tree.Selector.{Selector}
use Rattle.ps_tree.specs.declared.tree.Expr.{Expr}
use Rattle.ps_tree.specs.declared.tree.ArithmeticStep.{ArithmeticStep, out-ArithmeticStep}
use Rattle.ps_tree.specs.declared.tree.SetStep.{SetStep, out-SetStep}
use Rattle.ps_tree.specs.View.{selector_of, selectors_of, expr_of, arithmetic_of, operands_of, set_of, set_steps_of}
use Rattle.ps_tree.specs.View.{member_of, members_of, argument_of, arguments_of, place_of, statement_of, statements_of}
use Rattle.ps_tree.specs.View.{elements_of, read_of, write_of}
use Rattle.ps_meaning_runner.specs.declared.world.Setup.{Setup}
use Rattle.ps_meaning_runner.specs.Worlds.{program_of}
use Rattle.ps_meaning_runner.specs.Heights.{place_height, selector_height, selectors_height, expr_height, steps_height}
use Rattle.ps_meaning_runner.specs.Heights.{operands_height, set_height, set_steps_height, member_height}
use Rattle.ps_meaning_runner.specs.Heights.{members_height, argument_height, arguments_height, places_height}
use Rattle.ps_meaning_runner.specs.Heights.{read_height, reads_height, write_height, writes_height, statement_height}
use Rattle.ps_meaning_runner.specs.Heights.{statements_height, elements_height, highest, highest_of}
use Rattle.ps_meaning_runner.specs.Runs.{call_levels, levels}

-- a variable, an expression and a statement take at least one level
pub place_is_high : (p : t.Place) (d n : ℕ) → d ≡ 0 → d < place_height p + n
place_is_high (t.Variable base selectors) d n is = omega arith

pub expr_is_high : (e : t.Expr) (d n : ℕ) → d ≡ 0 → d < expr_height e + n
expr_is_high (t.Number k) d n is = omega arith
expr_is_high t.Nil d n is = omega arith
expr_is_high (t.Load p) d n is = omega arith
expr_is_high (t.Plus e) d n is = omega arith
expr_is_high (t.Minus e line) d n is = omega arith
expr_is_high (t.Not e) d n is = omega arith
expr_is_high (t.Arithmetic a steps) d n is = omega arith
expr_is_high (t.Logic operator a rest) d n is = omega arith
expr_is_high (t.Compare relation a b) d n is = omega arith
expr_is_high (t.ComparePointers relation a b) d n is = omega arith
expr_is_high (t.CompareSets relation a b) d n is = omega arith
expr_is_high (t.CompareStrings relation a b) d n is = omega arith
expr_is_high (t.In a b) d n is = omega arith
expr_is_high (t.Apply function e line) d n is = omega arith
expr_is_high t.Eof d n is = omega arith
expr_is_high (t.Eoln line) d n is = omega arith
expr_is_high (t.Call routine up arguments line) d n is = omega arith
expr_is_high (t.CallFormal up index arguments line) d n is = omega arith

pub set_is_high : (s : t.SetExpr) (d n : ℕ) → d ≡ 0 → d < set_height s + n
set_is_high (t.LoadSet p) d n is = omega arith
set_is_high (t.Constructor members) d n is = omega arith
set_is_high (t.Combine a steps) d n is = omega arith

pub statement_is_high : (s : t.Statement) (d n : ℕ) → d ≡ 0 → d < statement_height s + n
statement_is_high t.Empty d n is = omega arith
statement_is_high (t.Assign p range e line) d n is = omega arith
statement_is_high (t.AssignSet p low high e line) d n is = omega arith
statement_is_high (t.AssignStructure p e) d n is = omega arith
statement_is_high (t.CallProcedure routine up arguments line) d n is = omega arith
statement_is_high (t.CallFormalProcedure up index arguments line) d n is = omega arith
statement_is_high (t.Compound body) d n is = omega arith
statement_is_high (t.If e s) d n is = omega arith
statement_is_high (t.IfElse e s u) d n is = omega arith
statement_is_high (t.Case e elements line) d n is = omega arith
statement_is_high (t.While e s) d n is = omega arith
statement_is_high (t.Repeat body e) d n is = omega arith
statement_is_high (t.For variable low high a from_line direction b to_line s) d n is = omega arith
statement_is_high (t.With places s) d n is = omega arith
statement_is_high (t.New p pointer line) d n is = omega arith
statement_is_high (t.Pack p from_type e line q to_type) d n is = omega arith
statement_is_high (t.Unpack p from_type q to_type e line) d n is = omega arith
statement_is_high (t.Read variables) d n is = omega arith
statement_is_high (t.Readln variables line) d n is = omega arith
statement_is_high (t.Write parameters) d n is = omega arith
statement_is_high (t.Writeln parameters) d n is = omega arith

-- a part of a list is no higher than the list
pub selector_within : (xs : List Selector) (i : ℕ) (x : Selector) → x ≡ get_or xs i x → i < length xs → selector_height
    (selector_of x) ≤ selectors_height (selectors_of xs)
unfolding selectors_of
selector_within [] i x at lt = absurd (omega arith)
selector_within (y ∷ ys) zero x at lt = subst
    (λ z. selector_height (selector_of z) ≤ max (selector_height (selector_of y)) (selectors_height (selectors_of ys)))
    (sym at) (omega arith)
selector_within (y ∷ ys) (suc i) x at lt = let le : selector_height (selector_of x) ≤ selectors_height
    (selectors_of ys) = selector_within ys i x at (omega arith) in omega arith

pub step_within : (xs : List ArithmeticStep) (i : ℕ) (x : ArithmeticStep) → x ≡ get_or xs i x → i < length xs
    → expr_height (expr_of (out-ArithmeticStep x).operand) ≤ steps_height (arithmetic_of xs)
unfolding arithmetic_of
step_within [] i x at lt = absurd (omega arith)
step_within (y ∷ ys) zero x at lt = subst (λ z. expr_height (expr_of (out-ArithmeticStep z).operand) ≤ max
    (expr_height (expr_of (out-ArithmeticStep y).operand)) (steps_height (arithmetic_of ys))) (sym at) (omega arith)
step_within (y ∷ ys) (suc i) x at lt = let le : expr_height (expr_of (out-ArithmeticStep x).operand) ≤ steps_height
    (arithmetic_of ys) = step_within ys i x at (omega arith) in omega arith

pub operand_within : (xs : List Expr) (i : ℕ) (x : Expr) → x ≡ get_or xs i x → i < length xs → expr_height
    (expr_of x) ≤ operands_height (operands_of xs)
unfolding operands_of
operand_within [] i x at lt = absurd (omega arith)
operand_within (y ∷ ys) zero x at lt = subst
    (λ z. expr_height (expr_of z) ≤ max (expr_height (expr_of y)) (operands_height (operands_of ys))) (sym at)
    (omega arith)
operand_within (y ∷ ys) (suc i) x at lt = let le : expr_height (expr_of x) ≤ operands_height
    (operands_of ys) = operand_within ys i x at (omega arith) in omega arith

pub set_step_within : (xs : List SetStep) (i : ℕ) (x : SetStep) → x ≡ get_or xs i x → i < length xs → set_height
    (set_of (out-SetStep x).operand) ≤ set_steps_height (set_steps_of xs)
unfolding set_steps_of
set_step_within [] i x at lt = absurd (omega arith)
set_step_within (y ∷ ys) zero x at lt = subst
    (λ z. set_height (set_of (out-SetStep z).operand) ≤ max (set_height (set_of (out-SetStep y).operand))
    (set_steps_height (set_steps_of ys))) (sym at) (omega arith)
set_step_within (y ∷ ys) (suc i) x at lt = let le : set_height (set_of (out-SetStep x).operand) ≤ set_steps_height
    (set_steps_of ys) = set_step_within ys i x at (omega arith) in omega arith

pub member_within : (xs : List Member) (i : ℕ) (x : Member) → x ≡ get_or xs i x → i < length xs → member_height
    (member_of x) ≤ members_height (members_of xs)
unfolding members_of
member_within [] i x at lt = absurd (omega arith)
member_within (y ∷ ys) zero x at lt = subst
    (λ z. member_height (member_of z) ≤ max (member_height (member_of y)) (members_height (members_of ys))) (sym at)
    (omega arith)
member_within (y ∷ ys) (suc i) x at lt = let le : member_height (member_of x) ≤ members_height
    (members_of ys) = member_within ys i x at (omega arith) in omega arith

pub argument_within : (xs : List Argument) (i : ℕ) (x : Argument) → x ≡ get_or xs i x → i < length xs → argument_height
    (argument_of x) ≤ arguments_height (arguments_of xs)
unfolding arguments_of
argument_within [] i x at lt = absurd (omega arith)
argument_within (y ∷ ys) zero x at lt = subst
    (λ z. argument_height (argument_of z) ≤ max (argument_height (argument_of y)) (arguments_height (arguments_of ys)))
    (sym at) (omega arith)
argument_within (y ∷ ys) (suc i) x at lt = let le : argument_height (argument_of x) ≤ arguments_height
    (arguments_of ys) = argument_within ys i x at (omega arith) in omega arith

pub statement_within : (xs : List Statement) (i : ℕ) (x : Statement) → x ≡ get_or xs i x → i < length xs
    → statement_height (statement_of x) ≤ statements_height (statements_of xs)
unfolding statements_of
statement_within [] i x at lt = absurd (omega arith)
statement_within (y ∷ ys) zero x at lt = subst
    (λ z. statement_height (statement_of z) ≤ max (statement_height (statement_of y))
    (statements_height (statements_of ys))) (sym at) (omega arith)
statement_within (y ∷ ys) (suc i) x at lt = let le : statement_height (statement_of x) ≤ statements_height
    (statements_of ys) = statement_within ys i x at (omega arith) in omega arith

pub element_within : (xs : List CaseElement) (i : ℕ) (x : CaseElement) → x ≡ get_or xs i x → i < length xs
    → statement_height (statement_of (out-CaseElement x).body) ≤ elements_height (elements_of xs)
unfolding elements_of
element_within [] i x at lt = absurd (omega arith)
element_within (y ∷ ys) zero x at lt = subst
    (λ z. statement_height (statement_of (out-CaseElement z).body) ≤ max
    (statement_height (statement_of (out-CaseElement y).body)) (elements_height (elements_of ys))) (sym at)
    (omega arith)
element_within (y ∷ ys) (suc i) x at lt = let le : statement_height
    (statement_of (out-CaseElement x).body) ≤ elements_height (elements_of ys) = element_within ys i x at (omega arith)
    in omega arith

pub place_within : (xs : List Place) (i : ℕ) (x : Place) → x ≡ get_or xs i x → i < length xs → place_height
    (place_of x) ≤ places_height (map place_of xs)
place_within [] i x at lt = absurd (omega arith)
place_within (y ∷ ys) zero x at lt = subst
    (λ z. place_height (place_of z) ≤ max (place_height (place_of y)) (places_height (map place_of ys))) (sym at)
    (omega arith)
place_within (y ∷ ys) (suc i) x at lt = let le : place_height (place_of x) ≤ places_height
    (map place_of ys) = place_within ys i x at (omega arith) in omega arith

pub read_within : (xs : List ReadVariable) (i : ℕ) (x : ReadVariable) → x ≡ get_or xs i x → i < length xs → read_height
    (read_of x) ≤ reads_height (map read_of xs)
read_within [] i x at lt = absurd (omega arith)
read_within (y ∷ ys) zero x at lt = subst (λ z. read_height (read_of z) ≤ max (read_height (read_of y))
    (reads_height (map read_of ys))) (sym at) (omega arith)
read_within (y ∷ ys) (suc i) x at lt = let le : read_height (read_of x) ≤ reads_height
    (map read_of ys) = read_within ys i x at (omega arith) in omega arith

pub write_within : (xs : List WriteParameter) (i : ℕ) (x : WriteParameter) → x ≡ get_or xs i x → i < length xs
    → write_height (write_of x) ≤ writes_height (map write_of xs)
write_within [] i x at lt = absurd (omega arith)
write_within (y ∷ ys) zero x at lt = subst
    (λ z. write_height (write_of z) ≤ max (write_height (write_of y)) (writes_height (map write_of ys))) (sym at)
    (omega arith)
write_within (y ∷ ys) (suc i) x at lt = let le : write_height (write_of x) ≤ writes_height
    (map write_of ys) = write_within ys i x at (omega arith) in omega arith

-- a body is no higher than the highest
body_of : (rs : List t.Routine) (r : ℕ) → statements_height (get_or rs r t.no_routine).body ≤ highest_of rs
body_of [] r = omega arith
body_of (x ∷ rest) zero = omega arith
body_of (x ∷ rest) (suc r) = let le : statements_height
    (get_or rest r t.no_routine).body ≤ highest_of rest = body_of rest r in omega arith

pub body_within : (setup : Setup) (r : ℕ) (body : t.Statements) → body ≡ (t.routine_at (program_of setup) r).body
    → statements_height body ≤ highest (program_of setup)
body_within setup r body is = subst (λ b. statements_height b ≤ highest (program_of setup)) (sym is)
    (body_of (program_of setup).routines r)

-- the levels of calls: with more fuel, and of a block with what is left for its calls
levels_more : (n h : ℕ) → n ≢ 0 → (n - 1) * h + h ≡ n * h
levels_more zero h more = absurd (more refl)
levels_more (suc n) h more = let less : suc n - 1 ≡ n = omega arith in let is : n * h + h ≡ suc n * h = omega arith
    in ap (λ k. k * h + h) less ∙ is

times_more : (j n h : ℕ) → j ≤ n → j * h ≤ n * h
times_more zero n h le = omega arith
times_more (suc j) zero h le = absurd (omega arith)
times_more (suc j) (suc n) h le = let more : j * h ≤ n * h = times_more j n h (omega arith) in omega arith

pub fewer_calls : (setup : Setup) (j n : ℕ) → j ≤ n → call_levels setup j ≤ call_levels setup n
unfolding call_levels
fewer_calls setup j n le = times_more j n (highest (program_of setup)) le

pub block_levels : (setup : Setup) (n height : ℕ) → n ≢ 0 → height ≤ highest (program_of setup) → levels setup
    (n - 1) height ≤ levels setup n 0
unfolding call_levels
block_levels setup n height more le = let is : (n - 1) * highest (program_of setup) + highest (program_of setup)
    ≡ n * highest (program_of setup) = levels_more n (highest (program_of setup)) more in omega arith
