-- The heights of constructions, each given those of its parts, and how both are capped at a limit.
use Rattle.std.proofs.Common.{◌≡◌, ℕ, suc, ◌+◌, ◌<◌, List, length, get_or, map, min, max, sym, ap, ◌∙◌, subst}
use Rattle.std.proofs.Common.{arith}
use Rattle.std.specs.Ordering.{nat_cmp, ord_max}
use Rattle.std.proofs.lemmas.Bool.Decides.{nat_tests}
use Rattle.ps_text.specs.declared.Span.{Span}
use Rattle.ps_syntax.specs.declared.expression.Relational.{Relational}
use Rattle.ps_syntax.specs.declared.expression.Expr.{Expr}
use Rattle.ps_syntax.specs.declared.expression.Expr.TheVariants as e
use Rattle.ps_syntax.specs.declared.expression.Factor.{Factor}
use Rattle.ps_syntax.specs.declared.expression.Factor.TheVariants as f
use Rattle.ps_syntax.specs.declared.expression.Member.{Member}
use Rattle.ps_syntax.specs.declared.expression.Member.TheVariants as m
use Rattle.ps_syntax.specs.declared.expression.Selector.{Selector}
use Rattle.ps_syntax.specs.declared.expression.Selector.TheVariants as s
use Rattle.ps_syntax.specs.declared.expression.Simple.{Simple, out-Simple}
use Rattle.ps_syntax.specs.declared.expression.AddedTerm.{AddedTerm, out-AddedTerm}
use Rattle.ps_syntax.specs.declared.expression.Term.{Term, out-Term}
use Rattle.ps_syntax.specs.declared.expression.MultipliedFactor.{MultipliedFactor, out-MultipliedFactor}
use Rattle.ps_syntax.specs.declared.expression.Variable.{Variable, out-Variable}
use Rattle.ps_syntax.specs.declared.expression.Expr.TheOpen.{Expr-F, Factor-F, Member-F, Selector-F}
use Rattle.ps_syntax.specs.declared.statement.Direction.{Direction}
use Rattle.ps_syntax.specs.declared.statement.Parameter.{Parameter}
use Rattle.ps_syntax.specs.declared.statement.Element.{Element, out-Element}
use Rattle.ps_syntax.specs.declared.statement.Statement.{Statement}
use Rattle.ps_syntax.specs.declared.statement.Statement.TheVariants as t
use Rattle.ps_syntax.specs.declared.statement.Statement.TheOpen.{Statement-F}
use Rattle.ps_syntax.specs.declared.statement.Statement.TheFolds.{fold-roll-Statement, fold_out-Element}
use Rattle.ps_syntax.specs.declared.program.Fields.{Fields, out-Fields}
use Rattle.ps_syntax.specs.declared.program.Structure.TheFolds.{fold_out-Fields}
use Rattle.ps_syntax.specs.declared.program.TypeDefinition.{TypeDefinition}
use Rattle.ps_syntax.specs.declared.program.Variables.{Variables}
use Rattle.ps_syntax.specs.declared.program.Heading.{Heading}
use Rattle.ps_syntax.specs.declared.program.Block.{Block, out-Block}
use Rattle.ps_syntax.specs.declared.program.Routine.{Routine}
use Rattle.ps_syntax.specs.declared.program.Routine.TheVariants as r
use Rattle.ps_syntax.specs.declared.program.Routine.TheOpen.{Routine-F}
use Rattle.ps_syntax.specs.declared.program.Routine.TheFolds.{fold-roll-Routine, fold_out-Block}
use Rattle.ps_syntax.proofs.Greatest.{Reached, reached_next}
use Rattle.ps_syntax.proofs.Nodes.{added_opened, expr_made, factor_made, member_made, multiplied_opened, of_walk}
use Rattle.ps_syntax.proofs.Nodes.{selector_made, simple_opened, term_opened, variable_opened}
use Rattle.ps_syntax.specs.Height.{greatest, element_step, statement_step, routine_step, block_step, height_of_expr}
use Rattle.ps_syntax.specs.Height.{height_of_factor, height_of_member, height_of_selector, height_of_added}
use Rattle.ps_syntax.specs.Height.{height_of_multiplied, height_of_simple, height_of_term, height_of_variable}
use Rattle.ps_syntax.specs.Height.{height_of_parameter, height_of_statement, height_of_element, structure_step}
use Rattle.ps_syntax.specs.Height.{type_step, fields_step, height_of_type, height_of_fields, height_of_heading}
use Rattle.ps_syntax.specs.Height.{height_of_types, height_of_variables, height_of_block, height_of_routine, heights}

-- ---- numbers below a limit

-- what u32::MAX is
abbrev pub limit : ℕ
limit = 4294967295

-- a height capped at the limit
abbrev pub told : ℕ → ℕ
told x = min x limit

greater : (a b : ℕ) → ord_max nat_cmp a b ≡ max a b
greater a b = first_of (omega arith, grind arith, grind (arith, nat_tests))

greater_below : (k x y : ℕ) → max (min x k) (min y k) ≡ min (max x y) k
greater_below k x y = omega arith

next_below : (k x : ℕ) → min (min x k + 1) k ≡ min (suc x) k
next_below k x = omega arith

sum_below : (k n x : ℕ) → min (min x k + n) k ≡ min (n + x) k
sum_below k n x = omega arith

-- the greater of two capped heights
higher : (x y a b m : ℕ) → a ≡ told x → b ≡ told y → m ≡ max a b → m ≡ told (max x y)
higher x y a b m f g h = h ∙ ap (λ z. max z b) f ∙ ap (λ z. max (told x) z) g ∙ greater_below limit x y

-- one above a capped height
above : (x a m : ℕ) → a ≡ told x → m ≡ min (a + 1) limit → m ≡ told (suc x)
above x a m f h = h ∙ ap (λ z. min (z + 1) limit) f ∙ next_below limit x

-- a given number above a capped height
raised : (n x a m : ℕ) → a ≡ told x → m ≡ min (a + n) limit → m ≡ told (n + x)
raised n x a m f h = h ∙ ap (λ z. min (z + n) limit) f ∙ sum_below limit n x

-- a capped height of the same
told_of : {A : Type 0} (h : A → ℕ) (x y : A) (a : ℕ) → a ≡ told (h x) → x ≡ y → a ≡ told (h y)
told_of h x y a f g = f ∙ ap (λ z. told (h z)) g

told_all : {A : Type 0} (h : A → ℕ) (xs ys : List A) (a : ℕ) → a ≡ told (greatest (map h xs)) → xs ≡ ys → a ≡ told
    (greatest (map h ys))
told_all h xs ys a f g = f ∙ ap (λ l. told (greatest (map h l))) g

pub told_as : (a x y : ℕ) → a ≡ told x → x ≡ y → a ≡ told y
told_as a x y f g = f ∙ ap told g

-- the greater of a height capped here and of one capped before
beside : (x y a m : ℕ) → a ≡ told y → m ≡ max (told x) a → m ≡ told (max x y)
beside x y a m f h = h ∙ ap (λ z. max (told x) z) f ∙ greater_below limit x y

none_told : 0 ≡ told 0
none_told = omega arith

-- a loop over a list has advanced by one
pub reached_on : {A : Type 0} (h : A → ℕ) (xs : List A) (i most : ℕ) (x : A) (n m : ℕ) → i < length xs → x
    ≡ get_or xs i x → Reached limit h xs i most → n ≡ told (h x) → m ≡ ord_max nat_cmp most n → Reached limit h xs
    (i + 1) m
reached_on h xs i most x n m below at r f g = subst (λ z. Reached limit h xs (i + 1) z) (sym (g ∙ greater most n))
    (reached_next limit h xs i most x n below at r f)

-- ---- expressions

pub expr_Simple : (it : Expr) (x : Simple) → it ≡ e.Simple x → suc (height_of_simple x) ≡ height_of_expr it
expr_Simple it x is = sym (ap height_of_expr (is ∙ sym (e.rolls-Simple x))
    ∙ expr_made (of_walk heights) (Expr-F.Simple x))

pub expr_Compare : (it : Expr) (x : Simple) (relation : Relational) (at : Span) (y : Simple) → it
    ≡ e.Compare x relation at y → suc (max (height_of_simple x) (height_of_simple y)) ≡ height_of_expr it
expr_Compare it x relation at y is = sym (ap height_of_expr (is ∙ sym (e.rolls-Compare x relation at y))
    ∙ expr_made (of_walk heights) (Expr-F.Compare x relation at y))

pub factor_Variable : (it : Factor) (x : Variable) → it ≡ f.Variable x → height_of_variable x ≡ height_of_factor it
factor_Variable it x is = sym (ap height_of_factor (is ∙ sym (f.rolls-Variable x))
    ∙ factor_made (of_walk heights) (Factor-F.Variable x))

pub factor_Call : (it : Factor) (at : Span) (xs : List Expr) → it ≡ f.Call at xs → greatest (map height_of_expr xs)
    ≡ height_of_factor it
factor_Call it at xs is = sym (ap height_of_factor (is ∙ sym (f.rolls-Call at xs))
    ∙ factor_made (of_walk heights) (Factor-F.Call at xs))

pub factor_Set : (it : Factor) (at : Span) (xs : List Member) → it ≡ f.Set at xs → greatest (map height_of_member xs)
    ≡ height_of_factor it
factor_Set it at xs is = sym (ap height_of_factor (is ∙ sym (f.rolls-Set at xs))
    ∙ factor_made (of_walk heights) (Factor-F.Set at xs))

pub factor_Group : (it : Factor) (at : Span) (n : ℕ) (x : Expr) → it ≡ f.Group at n x → n + height_of_expr x
    ≡ height_of_factor it
factor_Group it at n x is = sym (ap height_of_factor (is ∙ sym (f.rolls-Group at n x))
    ∙ factor_made (of_walk heights) (Factor-F.Group at n x))

pub factor_Not : (it : Factor) (at : Span) (x : Factor) → it ≡ f.Not at x → suc (height_of_factor x)
    ≡ height_of_factor it
factor_Not it at x is = sym (ap height_of_factor (is ∙ sym (f.rolls-Not at x))
    ∙ factor_made (of_walk heights) (Factor-F.Not at x))

pub member_One : (it : Member) (x : Expr) → it ≡ m.One x → height_of_expr x ≡ height_of_member it
member_One it x is = sym (ap height_of_member (is ∙ sym (m.rolls-One x))
    ∙ member_made (of_walk heights) (Member-F.One x))

pub member_Range : (it : Member) (x : Expr) (y : Expr) → it ≡ m.Range x y → max (height_of_expr x) (height_of_expr y)
    ≡ height_of_member it
member_Range it x y is = sym (ap height_of_member (is ∙ sym (m.rolls-Range x y))
    ∙ member_made (of_walk heights) (Member-F.Range x y))

pub selector_Index : (it : Selector) (xs : List Expr) → it ≡ s.Index xs → greatest (map height_of_expr xs)
    ≡ height_of_selector it
selector_Index it xs is = sym (ap height_of_selector (is ∙ sym (s.rolls-Index xs))
    ∙ selector_made (of_walk heights) (Selector-F.Index xs))

pub added_is : (x : AddedTerm) → height_of_term (out-AddedTerm x).term ≡ height_of_added x
added_is x = sym (added_opened (of_walk heights) x)

pub multiplied_is : (x : MultipliedFactor) → height_of_factor (out-MultipliedFactor x).factor ≡ height_of_multiplied x
multiplied_is x = sym (multiplied_opened (of_walk heights) x)

pub simple_is : (x : Simple) → max (height_of_term (out-Simple x).first)
    (greatest (map height_of_added (out-Simple x).more)) ≡ height_of_simple x
simple_is x = sym (simple_opened (of_walk heights) x)

pub term_is : (x : Term) → max (height_of_factor (out-Term x).first)
    (greatest (map height_of_multiplied (out-Term x).more)) ≡ height_of_term x
term_is x = sym (term_opened (of_walk heights) x)

pub variable_is : (x : Variable) → greatest (map height_of_selector (out-Variable x).selectors) ≡ height_of_variable x
variable_is x = sym (variable_opened (of_walk heights) x)

-- ---- statements

pub statement_Assign : (it : Statement) (x : Variable) (at : Span) (y : Expr) → it ≡ t.Assign x at y → suc
    (max (height_of_variable x) (height_of_expr y)) ≡ height_of_statement it
statement_Assign it x at y is = sym (ap height_of_statement (is ∙ sym (t.rolls-Assign x at y))
    ∙ fold-roll-Statement ℕ ℕ statement_step element_step (Statement-F.Assign x at y))

pub statement_Call : (it : Statement) (at : Span) (xs : List Parameter) → it ≡ t.Call at xs → suc
    (greatest (map height_of_parameter xs)) ≡ height_of_statement it
statement_Call it at xs is = sym (ap height_of_statement (is ∙ sym (t.rolls-Call at xs))
    ∙ fold-roll-Statement ℕ ℕ statement_step element_step (Statement-F.Call at xs))

pub statement_Compound : (it : Statement) (xs : List Statement) → it ≡ t.Compound xs → suc
    (greatest (map height_of_statement xs)) ≡ height_of_statement it
statement_Compound it xs is = sym (ap height_of_statement (is ∙ sym (t.rolls-Compound xs))
    ∙ fold-roll-Statement ℕ ℕ statement_step element_step (Statement-F.Compound xs))

pub statement_If : (it : Statement) (x : Expr) (y : Statement) → it ≡ t.If x y → suc
    (max (height_of_expr x) (height_of_statement y)) ≡ height_of_statement it
statement_If it x y is = sym (ap height_of_statement (is ∙ sym (t.rolls-If x y))
    ∙ fold-roll-Statement ℕ ℕ statement_step element_step (Statement-F.If x y))

pub statement_IfElse : (it : Statement) (x : Expr) (y : Statement) (z : Statement) → it ≡ t.IfElse x y z → suc
    (max (height_of_expr x) (max (height_of_statement y) (height_of_statement z))) ≡ height_of_statement it
statement_IfElse it x y z is = sym (ap height_of_statement (is ∙ sym (t.rolls-IfElse x y z))
    ∙ fold-roll-Statement ℕ ℕ statement_step element_step (Statement-F.IfElse x y z))

pub statement_Case : (it : Statement) (at : Span) (x : Expr) (xs : List Element) → it ≡ t.Case at x xs → suc
    (max (height_of_expr x) (greatest (map height_of_element xs))) ≡ height_of_statement it
statement_Case it at x xs is = sym (ap height_of_statement (is ∙ sym (t.rolls-Case at x xs))
    ∙ fold-roll-Statement ℕ ℕ statement_step element_step (Statement-F.Case at x xs))

pub statement_While : (it : Statement) (x : Expr) (y : Statement) → it ≡ t.While x y → suc
    (max (height_of_expr x) (height_of_statement y)) ≡ height_of_statement it
statement_While it x y is = sym (ap height_of_statement (is ∙ sym (t.rolls-While x y))
    ∙ fold-roll-Statement ℕ ℕ statement_step element_step (Statement-F.While x y))

pub statement_Repeat : (it : Statement) (xs : List Statement) (x : Expr) → it ≡ t.Repeat xs x → suc
    (max (greatest (map height_of_statement xs)) (height_of_expr x)) ≡ height_of_statement it
statement_Repeat it xs x is = sym (ap height_of_statement (is ∙ sym (t.rolls-Repeat xs x))
    ∙ fold-roll-Statement ℕ ℕ statement_step element_step (Statement-F.Repeat xs x))

pub statement_For : (it : Statement) (at : Span) (x : Expr) (direction : Direction) (y : Expr) (z : Statement) → it
    ≡ t.For at x direction y z → suc (max (max (height_of_expr x) (height_of_expr y)) (height_of_statement z))
    ≡ height_of_statement it
statement_For it at x direction y z is = sym
    (ap height_of_statement (is ∙ sym (t.rolls-For at x direction y z))
    ∙ fold-roll-Statement ℕ ℕ statement_step element_step (Statement-F.For at x direction y z))

pub statement_With : (it : Statement) (xs : List Variable) (x : Statement) → it ≡ t.With xs x → suc
    (max (greatest (map height_of_variable xs)) (height_of_statement x)) ≡ height_of_statement it
statement_With it xs x is = sym (ap height_of_statement (is ∙ sym (t.rolls-With xs x))
    ∙ fold-roll-Statement ℕ ℕ statement_step element_step (Statement-F.With xs x))

pub statement_Empty : (it : Statement) → it ≡ t.Empty → 1 ≡ height_of_statement it
statement_Empty it is = sym (ap height_of_statement (is ∙ sym t.rolls-Empty)
    ∙ fold-roll-Statement ℕ ℕ statement_step element_step Statement-F.Empty)

pub element_is : (x : Element) → height_of_statement (out-Element x).statement ≡ height_of_element x
element_is x = sym (fold_out-Element ℕ ℕ statement_step element_step x)

-- ---- routines and blocks

pub routine_Whole : (it : Routine) (x : Heading) (b : Block) → it ≡ r.Whole x b → max (height_of_heading x)
    (height_of_block b) ≡ height_of_routine it
routine_Whole it x b is = sym (ap height_of_routine (is ∙ sym (r.rolls-Whole x b))
    ∙ fold-roll-Routine ℕ ℕ routine_step block_step (Routine-F.Whole x b))

pub block_is : (b : Block) → suc (max (max (height_of_types (out-Block b).types)
    (height_of_variables (out-Block b).variables))
    (max (greatest (map height_of_routine (out-Block b).routines))
    (greatest (map height_of_statement (out-Block b).statements)))) ≡ height_of_block b
block_is b = sym (fold_out-Block ℕ ℕ routine_step block_step b)

-- ---- types

pub fields_are : (x : Fields) → height_of_type (out-Fields x).ty ≡ height_of_fields x
fields_are x = sym (fold_out-Fields ℕ ℕ ℕ structure_step type_step fields_step x)

-- ---- capped

pub expr_Simple_told : (it : Expr) (x : Simple) (n1 : ℕ) (n3 : ℕ) → it ≡ e.Simple x → n1 ≡ told (height_of_simple x)
    → n3 ≡ min (n1 + 1) limit → n3 ≡ told (height_of_expr it)
expr_Simple_told it x n1 n3 is p2 p4 = told_as n3 (suc (height_of_simple x)) (height_of_expr it)
    (above (height_of_simple x) n1 n3 p2 p4) (expr_Simple it x is)

pub expr_Compare_told : (it : Expr) (x : Simple) (relation : Relational) (at : Span) (y : Simple) (n1 : ℕ) (z3 : Simple)
    (n4 : ℕ) (n7 : ℕ) (n9 : ℕ) → it ≡ e.Compare x relation at y → n1 ≡ told (height_of_simple x) → z3 ≡ y → n4 ≡ told
    (height_of_simple z3) → n7 ≡ max n1 n4 → n9 ≡ min (n7 + 1) limit → n9 ≡ told (height_of_expr it)
expr_Compare_told it x relation at y n1 z3 n4 n7 n9 is p2 p5 p6 p8 p10 = told_as n9
    (suc (max (height_of_simple x) (height_of_simple y))) (height_of_expr it)
    (above (max (height_of_simple x) (height_of_simple y)) n7 n9
    (higher (height_of_simple x) (height_of_simple y) n1 n4 n7 p2 (told_of height_of_simple z3 y n4 p6 p5) p8) p10)
    (expr_Compare it x relation at y is)

pub factor_Variable_told : (it : Factor) (x : Variable) (n1 : ℕ) → it ≡ f.Variable x → n1 ≡ told (height_of_variable x)
    → n1 ≡ told (height_of_factor it)
factor_Variable_told it x n1 is p2 = told_as n1 (height_of_variable x) (height_of_factor it) p2
    (factor_Variable it x is)

pub factor_Call_told : (it : Factor) (at : Span) (xs : List Expr) (z1 : List Expr) (n2 : ℕ) → it ≡ f.Call at xs → z1
    ≡ xs → n2 ≡ told (greatest (map height_of_expr z1)) → n2 ≡ told (height_of_factor it)
factor_Call_told it at xs z1 n2 is p3 p4 = told_as n2 (greatest (map height_of_expr xs)) (height_of_factor it)
    (told_all height_of_expr z1 xs n2 p4 p3) (factor_Call it at xs is)

pub factor_Set_told : (it : Factor) (at : Span) (xs : List Member) (z1 : List Member) (n2 : ℕ) → it ≡ f.Set at xs → z1
    ≡ xs → n2 ≡ told (greatest (map height_of_member z1)) → n2 ≡ told (height_of_factor it)
factor_Set_told it at xs z1 n2 is p3 p4 = told_as n2 (greatest (map height_of_member xs)) (height_of_factor it)
    (told_all height_of_member z1 xs n2 p4 p3) (factor_Set it at xs is)

pub factor_Group_told : (it : Factor) (at : Span) (n : ℕ) (x : Expr) (z1 : Expr) (n2 : ℕ) (n5 : ℕ) → it ≡ f.Group at n x
    → z1 ≡ x → n2 ≡ told (height_of_expr z1) → n5 ≡ min (n2 + n) limit → n5 ≡ told (height_of_factor it)
factor_Group_told it at n x z1 n2 n5 is p3 p4 p6 = told_as n5 (n + height_of_expr x) (height_of_factor it)
    (raised n (height_of_expr x) n2 n5 (told_of height_of_expr z1 x n2 p4 p3) p6) (factor_Group it at n x is)

pub factor_Not_told : (it : Factor) (at : Span) (x : Factor) (z1 : Factor) (n2 : ℕ) (n5 : ℕ) → it ≡ f.Not at x → z1 ≡ x
    → n2 ≡ told (height_of_factor z1) → n5 ≡ min (n2 + 1) limit → n5 ≡ told (height_of_factor it)
factor_Not_told it at x z1 n2 n5 is p3 p4 p6 = told_as n5 (suc (height_of_factor x)) (height_of_factor it)
    (above (height_of_factor x) n2 n5 (told_of height_of_factor z1 x n2 p4 p3) p6) (factor_Not it at x is)

pub member_One_told : (it : Member) (x : Expr) (z1 : Expr) (n2 : ℕ) → it ≡ m.One x → z1 ≡ x → n2 ≡ told
    (height_of_expr z1) → n2 ≡ told (height_of_member it)
member_One_told it x z1 n2 is p3 p4 = told_as n2 (height_of_expr x) (height_of_member it)
    (told_of height_of_expr z1 x n2 p4 p3) (member_One it x is)

pub member_Range_told : (it : Member) (x : Expr) (y : Expr) (z1 : Expr) (n2 : ℕ) (z5 : Expr) (n6 : ℕ) (n9 : ℕ) → it
    ≡ m.Range x y → z1 ≡ x → n2 ≡ told (height_of_expr z1) → z5 ≡ y → n6 ≡ told (height_of_expr z5) → n9 ≡ max n2 n6
    → n9 ≡ told (height_of_member it)
member_Range_told it x y z1 n2 z5 n6 n9 is p3 p4 p7 p8 p10 = told_as n9 (max (height_of_expr x) (height_of_expr y))
    (height_of_member it) (higher (height_of_expr x) (height_of_expr y) n2 n6 n9 (told_of height_of_expr z1 x n2 p4 p3)
    (told_of height_of_expr z5 y n6 p8 p7) p10) (member_Range it x y is)

pub selector_Index_told : (it : Selector) (xs : List Expr) (z1 : List Expr) (n2 : ℕ) → it ≡ s.Index xs → z1 ≡ xs → n2
    ≡ told (greatest (map height_of_expr z1)) → n2 ≡ told (height_of_selector it)
selector_Index_told it xs z1 n2 is p3 p4 = told_as n2 (greatest (map height_of_expr xs)) (height_of_selector it)
    (told_all height_of_expr z1 xs n2 p4 p3) (selector_Index it xs is)

pub simple_told : (it : Simple) (n1 : ℕ) (z3 : List AddedTerm) (n4 : ℕ) (n7 : ℕ) → n1 ≡ told
    (height_of_term (out-Simple it).first) → z3 ≡ (out-Simple it).more → n4 ≡ told (greatest (map height_of_added z3))
    → n7 ≡ max n1 n4 → n7 ≡ told (height_of_simple it)
simple_told it n1 z3 n4 n7 p2 p5 p6 p8 = told_as n7
    (max (height_of_term (out-Simple it).first) (greatest (map height_of_added (out-Simple it).more)))
    (height_of_simple it) (higher (height_of_term (out-Simple it).first)
    (greatest (map height_of_added (out-Simple it).more)) n1 n4 n7 p2
    (told_all height_of_added z3 (out-Simple it).more n4 p6 p5) p8) (simple_is it)

pub term_told : (it : Term) (n1 : ℕ) (z3 : List MultipliedFactor) (n4 : ℕ) (n7 : ℕ) → n1 ≡ told
    (height_of_factor (out-Term it).first) → z3 ≡ (out-Term it).more → n4 ≡ told
    (greatest (map height_of_multiplied z3)) → n7 ≡ max n1 n4 → n7 ≡ told (height_of_term it)
term_told it n1 z3 n4 n7 p2 p5 p6 p8 = told_as n7
    (max (height_of_factor (out-Term it).first) (greatest (map height_of_multiplied (out-Term it).more)))
    (height_of_term it) (higher (height_of_factor (out-Term it).first)
    (greatest (map height_of_multiplied (out-Term it).more)) n1 n4 n7 p2
    (told_all height_of_multiplied z3 (out-Term it).more n4 p6 p5) p8) (term_is it)

pub variable_told : (it : Variable) (z1 : List Selector) (n2 : ℕ) → z1 ≡ (out-Variable it).selectors → n2 ≡ told
    (greatest (map height_of_selector z1)) → n2 ≡ told (height_of_variable it)
variable_told it z1 n2 p3 p4 = told_as n2 (greatest (map height_of_selector (out-Variable it).selectors))
    (height_of_variable it) (told_all height_of_selector z1 (out-Variable it).selectors n2 p4 p3) (variable_is it)

pub statement_Empty_told : (it : Statement) (n1 : ℕ) (n3 : ℕ) → it ≡ t.Empty → n1 ≡ 0 → n3 ≡ min (n1 + 1) limit → n3
    ≡ told (height_of_statement it)
statement_Empty_told it n1 n3 is p2 p4 = told_as n3 (suc (0)) (height_of_statement it)
    (above (0) n1 n3 (p2 ∙ none_told) p4) (statement_Empty it is)

pub statement_Assign_told : (it : Statement) (x : Variable) (at : Span) (y : Expr) (n1 : ℕ) (z3 : Expr) (n4 : ℕ)
    (n7 : ℕ) (n9 : ℕ) (n11 : ℕ) → it ≡ t.Assign x at y → n1 ≡ told (height_of_variable x) → z3 ≡ y → n4 ≡ told
    (height_of_expr z3) → n7 ≡ max n1 n4 → n9 ≡ n7 → n11 ≡ min (n9 + 1) limit → n11 ≡ told (height_of_statement it)
statement_Assign_told it x at y n1 z3 n4 n7 n9 n11 is p2 p5 p6 p8 p10 p12 = told_as n11
    (suc (max (height_of_variable x) (height_of_expr y))) (height_of_statement it)
    (above (max (height_of_variable x) (height_of_expr y)) n9 n11
    (p10 ∙ (higher (height_of_variable x) (height_of_expr y) n1 n4 n7 p2 (told_of height_of_expr z3 y n4 p6 p5) p8))
    p12) (statement_Assign it x at y is)

pub statement_Call_told : (it : Statement) (at : Span) (xs : List Parameter) (z1 : List Parameter) (n2 : ℕ) (n5 : ℕ)
    (n7 : ℕ) → it ≡ t.Call at xs → z1 ≡ xs → n2 ≡ told (greatest (map height_of_parameter z1)) → n5 ≡ n2 → n7 ≡ min
    (n5 + 1) limit → n7 ≡ told (height_of_statement it)
statement_Call_told it at xs z1 n2 n5 n7 is p3 p4 p6 p8 = told_as n7 (suc (greatest (map height_of_parameter xs)))
    (height_of_statement it) (above (greatest (map height_of_parameter xs)) n5 n7
    (p6 ∙ (told_all height_of_parameter z1 xs n2 p4 p3)) p8) (statement_Call it at xs is)

pub statement_Compound_told : (it : Statement) (xs : List Statement) (z1 : List Statement) (n2 : ℕ) (n5 : ℕ) (n7 : ℕ)
    → it ≡ t.Compound xs → z1 ≡ xs → n2 ≡ told (greatest (map height_of_statement z1)) → n5 ≡ n2 → n7 ≡ min
    (n5 + 1) limit → n7 ≡ told (height_of_statement it)
statement_Compound_told it xs z1 n2 n5 n7 is p3 p4 p6 p8 = told_as n7 (suc (greatest (map height_of_statement xs)))
    (height_of_statement it) (above (greatest (map height_of_statement xs)) n5 n7
    (p6 ∙ (told_all height_of_statement z1 xs n2 p4 p3)) p8) (statement_Compound it xs is)

pub statement_If_told : (it : Statement) (x : Expr) (y : Statement) (z1 : Statement) (n2 : ℕ) (n5 : ℕ) (n7 : ℕ) (n9 : ℕ)
    → it ≡ t.If x y → z1 ≡ y → n2 ≡ told (height_of_statement z1) → n5 ≡ max (told (height_of_expr x)) n2 → n7 ≡ n5 → n9
    ≡ min (n7 + 1) limit → n9 ≡ told (height_of_statement it)
statement_If_told it x y z1 n2 n5 n7 n9 is p3 p4 p6 p8 p10 = told_as n9
    (suc (max (height_of_expr x) (height_of_statement y))) (height_of_statement it)
    (above (max (height_of_expr x) (height_of_statement y)) n7 n9
    (p8 ∙ (beside (height_of_expr x) (height_of_statement y) n2 n5 (told_of height_of_statement z1 y n2 p4 p3) p6)) p10)
    (statement_If it x y is)

pub statement_IfElse_told : (it : Statement) (x : Expr) (y : Statement) (z : Statement) (z1 : Expr) (n2 : ℕ)
    (z5 : Statement) (n6 : ℕ) (z9 : Statement) (n10 : ℕ) (n13 : ℕ) (n15 : ℕ) (n17 : ℕ) (n19 : ℕ) → it ≡ t.IfElse x y z
    → z1 ≡ x → n2 ≡ told (height_of_expr z1) → z5 ≡ y → n6 ≡ told (height_of_statement z5) → z9 ≡ z → n10 ≡ told
    (height_of_statement z9) → n13 ≡ max n6 n10 → n15 ≡ max n2 n13 → n17 ≡ n15 → n19 ≡ min (n17 + 1) limit → n19 ≡ told
    (height_of_statement it)
statement_IfElse_told it x y z z1 n2 z5 n6 z9 n10 n13 n15 n17 n19 is p3 p4 p7 p8 p11 p12 p14 p16 p18 p20 = told_as n19
    (suc (max (height_of_expr x) (max (height_of_statement y) (height_of_statement z)))) (height_of_statement it)
    (above (max (height_of_expr x) (max (height_of_statement y) (height_of_statement z))) n17 n19
    (p18 ∙ (higher (height_of_expr x) (max (height_of_statement y) (height_of_statement z)) n2 n13 n15
    (told_of height_of_expr z1 x n2 p4 p3) (higher (height_of_statement y) (height_of_statement z) n6 n10 n13
    (told_of height_of_statement z5 y n6 p8 p7) (told_of height_of_statement z9 z n10 p12 p11) p14) p16)) p20)
    (statement_IfElse it x y z is)

pub statement_Case_told : (it : Statement) (at : Span) (x : Expr) (xs : List Element) (z1 : List Element) (n2 : ℕ)
    (n5 : ℕ) (n7 : ℕ) (n9 : ℕ) → it ≡ t.Case at x xs → z1 ≡ xs → n2 ≡ told (greatest (map height_of_element z1)) → n5
    ≡ max (told (height_of_expr x)) n2 → n7 ≡ n5 → n9 ≡ min (n7 + 1) limit → n9 ≡ told (height_of_statement it)
statement_Case_told it at x xs z1 n2 n5 n7 n9 is p3 p4 p6 p8 p10 = told_as n9
    (suc (max (height_of_expr x) (greatest (map height_of_element xs)))) (height_of_statement it)
    (above (max (height_of_expr x) (greatest (map height_of_element xs))) n7 n9
    (p8 ∙ (beside (height_of_expr x) (greatest (map height_of_element xs)) n2 n5
    (told_all height_of_element z1 xs n2 p4 p3) p6)) p10) (statement_Case it at x xs is)

pub statement_While_told : (it : Statement) (x : Expr) (y : Statement) (z1 : Statement) (n2 : ℕ) (n5 : ℕ) (n7 : ℕ)
    (n9 : ℕ) → it ≡ t.While x y → z1 ≡ y → n2 ≡ told (height_of_statement z1) → n5 ≡ max (told (height_of_expr x)) n2
    → n7 ≡ n5 → n9 ≡ min (n7 + 1) limit → n9 ≡ told (height_of_statement it)
statement_While_told it x y z1 n2 n5 n7 n9 is p3 p4 p6 p8 p10 = told_as n9
    (suc (max (height_of_expr x) (height_of_statement y))) (height_of_statement it)
    (above (max (height_of_expr x) (height_of_statement y)) n7 n9
    (p8 ∙ (beside (height_of_expr x) (height_of_statement y) n2 n5 (told_of height_of_statement z1 y n2 p4 p3) p6)) p10)
    (statement_While it x y is)

pub statement_Repeat_told : (it : Statement) (xs : List Statement) (x : Expr) (z1 : List Statement) (n2 : ℕ) (z5 : Expr)
    (n6 : ℕ) (n9 : ℕ) (n11 : ℕ) (n13 : ℕ) → it ≡ t.Repeat xs x → z1 ≡ xs → n2 ≡ told
    (greatest (map height_of_statement z1)) → z5 ≡ x → n6 ≡ told (height_of_expr z5) → n9 ≡ max n2 n6 → n11 ≡ n9 → n13
    ≡ min (n11 + 1) limit → n13 ≡ told (height_of_statement it)
statement_Repeat_told it xs x z1 n2 z5 n6 n9 n11 n13 is p3 p4 p7 p8 p10 p12 p14 = told_as n13
    (suc (max (greatest (map height_of_statement xs)) (height_of_expr x))) (height_of_statement it)
    (above (max (greatest (map height_of_statement xs)) (height_of_expr x)) n11 n13
    (p12 ∙ (higher (greatest (map height_of_statement xs)) (height_of_expr x) n2 n6 n9
    (told_all height_of_statement z1 xs n2 p4 p3) (told_of height_of_expr z5 x n6 p8 p7) p10)) p14)
    (statement_Repeat it xs x is)

pub statement_For_told : (it : Statement) (at : Span) (x : Expr) (direction : Direction) (y : Expr) (z : Statement)
    (z1 : Expr) (n2 : ℕ) (z5 : Expr) (n6 : ℕ) (n9 : ℕ) (z11 : Statement) (n12 : ℕ) (n15 : ℕ) (n17 : ℕ) (n19 : ℕ) → it
    ≡ t.For at x direction y z → z1 ≡ x → n2 ≡ told (height_of_expr z1) → z5 ≡ y → n6 ≡ told (height_of_expr z5) → n9
    ≡ max n2 n6 → z11 ≡ z → n12 ≡ told (height_of_statement z11) → n15 ≡ max n9 n12 → n17 ≡ n15 → n19 ≡ min
    (n17 + 1) limit → n19 ≡ told (height_of_statement it)
statement_For_told it at x direction y z z1 n2 z5 n6 n9 z11 n12 n15 n17 n19 is p3 p4 p7 p8 p10 p13 p14 p16 p18 p20 =
    told_as n19 (suc (max (max (height_of_expr x) (height_of_expr y)) (height_of_statement z))) (height_of_statement it)
    (above (max (max (height_of_expr x) (height_of_expr y)) (height_of_statement z)) n17 n19
    (p18 ∙ (higher (max (height_of_expr x) (height_of_expr y)) (height_of_statement z) n9 n12 n15
    (higher (height_of_expr x) (height_of_expr y) n2 n6 n9 (told_of height_of_expr z1 x n2 p4 p3)
    (told_of height_of_expr z5 y n6 p8 p7) p10) (told_of height_of_statement z11 z n12 p14 p13) p16)) p20)
    (statement_For it at x direction y z is)

pub statement_With_told : (it : Statement) (xs : List Variable) (x : Statement) (z1 : List Variable) (n2 : ℕ)
    (z5 : Statement) (n6 : ℕ) (n9 : ℕ) (n11 : ℕ) (n13 : ℕ) → it ≡ t.With xs x → z1 ≡ xs → n2 ≡ told
    (greatest (map height_of_variable z1)) → z5 ≡ x → n6 ≡ told (height_of_statement z5) → n9 ≡ max n2 n6 → n11 ≡ n9
    → n13 ≡ min (n11 + 1) limit → n13 ≡ told (height_of_statement it)
statement_With_told it xs x z1 n2 z5 n6 n9 n11 n13 is p3 p4 p7 p8 p10 p12 p14 = told_as n13
    (suc (max (greatest (map height_of_variable xs)) (height_of_statement x))) (height_of_statement it)
    (above (max (greatest (map height_of_variable xs)) (height_of_statement x)) n11 n13
    (p12 ∙ (higher (greatest (map height_of_variable xs)) (height_of_statement x) n2 n6 n9
    (told_all height_of_variable z1 xs n2 p4 p3) (told_of height_of_statement z5 x n6 p8 p7) p10)) p14)
    (statement_With it xs x is)

pub routine_Whole_told : (it : Routine) (x : Heading) (b : Block) (n1 : ℕ) (n3 : ℕ) (n5 : ℕ) → it ≡ r.Whole x b → n1
    ≡ told (height_of_heading x) → n3 ≡ told (height_of_block b) → n5 ≡ max n1 n3 → n5 ≡ told (height_of_routine it)
routine_Whole_told it x b n1 n3 n5 is p2 p4 p6 = told_as n5 (max (height_of_heading x) (height_of_block b))
    (height_of_routine it) (higher (height_of_heading x) (height_of_block b) n1 n3 n5 p2 p4 p6)
    (routine_Whole it x b is)

pub block_told : (it : Block) (z1 : List TypeDefinition) (n2 : ℕ) (z5 : List Variables) (n6 : ℕ) (n9 : ℕ)
    (z11 : List Routine) (n12 : ℕ) (z15 : List Statement) (n16 : ℕ) (n19 : ℕ) (n21 : ℕ) (n23 : ℕ) → z1
    ≡ (out-Block it).types → n2 ≡ told (height_of_types z1) → z5 ≡ (out-Block it).variables → n6 ≡ told
    (height_of_variables z5) → n9 ≡ max n2 n6 → z11 ≡ (out-Block it).routines → n12 ≡ told
    (greatest (map height_of_routine z11)) → z15 ≡ (out-Block it).statements → n16 ≡ told
    (greatest (map height_of_statement z15)) → n19 ≡ max n12 n16 → n21 ≡ max n9 n19 → n23 ≡ min (n21 + 1) limit → n23
    ≡ told (height_of_block it)
block_told it z1 n2 z5 n6 n9 z11 n12 z15 n16 n19 n21 n23 p3 p4 p7 p8 p10 p13 p14 p17 p18 p20 p22 p24 = told_as n23
    (suc (max (max (height_of_types (out-Block it).types) (height_of_variables (out-Block it).variables))
    (max (greatest (map height_of_routine (out-Block it).routines))
    (greatest (map height_of_statement (out-Block it).statements))))) (height_of_block it)
    (above (max (max (height_of_types (out-Block it).types) (height_of_variables (out-Block it).variables))
    (max (greatest (map height_of_routine (out-Block it).routines))
    (greatest (map height_of_statement (out-Block it).statements)))) n21 n23
    (higher (max (height_of_types (out-Block it).types) (height_of_variables (out-Block it).variables))
    (max (greatest (map height_of_routine (out-Block it).routines))
    (greatest (map height_of_statement (out-Block it).statements))) n9 n19 n21
    (higher (height_of_types (out-Block it).types) (height_of_variables (out-Block it).variables) n2 n6 n9
    (told_of height_of_types z1 (out-Block it).types n2 p4 p3)
    (told_of height_of_variables z5 (out-Block it).variables n6 p8 p7) p10)
    (higher (greatest (map height_of_routine (out-Block it).routines))
    (greatest (map height_of_statement (out-Block it).statements)) n12 n16 n19
    (told_all height_of_routine z11 (out-Block it).routines n12 p14 p13)
    (told_all height_of_statement z15 (out-Block it).statements n16 p18 p17) p20) p22) p24) (block_is it)
