-- What the nodes with lists of children denote.
use Rattle.std.proofs.Common.{◌≡◌, ℕ, List, Vec, Box, Global, refl, sym, ap, ◌∙◌, ◌⊎◌, inl, inr}
use Rattle.ps_tree.specs.Tree as Tree
use Rattle.ps_tree.specs.declared.count.Extent.{Extent}
use Rattle.ps_tree.specs.declared.line.Line.{Line}
use Rattle.ps_tree.specs.declared.types.Ty.{Ty}
use Rattle.ps_tree.specs.declared.tree.operators.BooleanOperator.{BooleanOperator}
use Rattle.ps_tree.specs.declared.tree.Place.{Place}
use Rattle.ps_tree.specs.declared.tree.Selector.{Selector}
use Rattle.ps_tree.specs.declared.tree.ArithmeticStep.{ArithmeticStep}
use Rattle.ps_tree.specs.declared.tree.SetStep.{SetStep}
use Rattle.ps_tree.specs.declared.tree.Structure.{Structure, Contents}
use Rattle.ps_tree.specs.declared.tree.operators.OrderRelation.{OrderRelation}
use Rattle.ps_tree.specs.declared.tree.operators.PointerRelation.{PointerRelation}
use Rattle.ps_tree.specs.declared.tree.Expr.{Expr, Load, Arithmetic, Logic, Call, CallFormal, Row_of-Argument}
use Rattle.ps_tree.specs.declared.tree.Expr.{end_of-Argument, more_of-Argument, items-the_row-Argument}
use Rattle.ps_tree.specs.declared.tree.Expr.{items_hidden-the_row-Argument-3, Row_of-Selector, end_of-Selector}
use Rattle.ps_tree.specs.declared.tree.Expr.{more_of-Selector, items-the_row-Selector, items_hidden-the_row-Selector-0}
use Rattle.ps_tree.specs.declared.tree.Expr.{Row_of-ArithmeticStep, end_of-ArithmeticStep, more_of-ArithmeticStep}
use Rattle.ps_tree.specs.declared.tree.Expr.{items-the_row-ArithmeticStep, items_hidden-the_row-ArithmeticStep-1}
use Rattle.ps_tree.specs.declared.tree.Expr.{Row_of-Expr, end_of-Expr, more_of-Expr, items-the_row-Expr}
use Rattle.ps_tree.specs.declared.tree.Expr.{items_hidden-the_row-Expr-2, Plus, Minus, Not, Compare, ComparePointers}
use Rattle.ps_tree.specs.declared.tree.SetExpr.{SetExpr, Load as LoadSet, Constructor, Combine, Row_of-Member}
use Rattle.ps_tree.specs.declared.tree.SetExpr.{end_of-Member, more_of-Member, items-the_row-Member}
use Rattle.ps_tree.specs.declared.tree.SetExpr.{items_hidden-the_row-Member-4, Row_of-SetStep, end_of-SetStep}
use Rattle.ps_tree.specs.declared.tree.SetExpr.{more_of-SetStep, items-the_row-SetStep, items_hidden-the_row-SetStep-5}
use Rattle.ps_tree.specs.declared.tree.Argument.{Argument, Variable}
use Rattle.ps_tree.specs.declared.tree.Argument.TheBlock.{hidden-the_row-Selector-0, hidden-the_row-ArithmeticStep-1}
use Rattle.ps_tree.specs.declared.tree.Argument.TheBlock.{hidden-the_row-Expr-2, hidden-the_row-Argument-3}
use Rattle.ps_tree.specs.declared.tree.Argument.TheBlock.{hidden-the_row-Member-4, hidden-the_row-SetStep-5}
use Rattle.ps_tree.specs.declared.tree.Member.{Member}
use Rattle.ps_tree.specs.Counts.{capped, ◌⊕◌, node, member_extent, members_extent, place_extent, selectors_extent}
use Rattle.ps_tree.specs.Counts.{expr_extent, arithmetic_extent, operands_extent, set_extent, set_steps_extent}
use Rattle.ps_tree.specs.Counts.{structure_extent, argument_extent, arguments_extent}
use Rattle.ps_tree.specs.View.{type_of, base_of, place_of, selector_of, selectors_of, selectors_of_row, expr_of}
use Rattle.ps_tree.specs.View.{arithmetic_of, arithmetic_of_row, operands_of, operands_of_row, set_of, set_steps_of}
use Rattle.ps_tree.specs.View.{set_steps_of_row, structure_of, arguments_of, arguments_of_row, members_of}
use Rattle.ps_tree.specs.View.{members_of_row, argument_of, member_of}

arguments_row_is : {n : _} (k : Row_of-Argument n) → arguments_of_row k ≡ arguments_of (items-the_row-Argument n k)
unfolding arguments_of_row arguments_of
arguments_row_is end_of-Argument = refl
arguments_row_is (more_of-Argument a rest) = ap (Tree.argument_before (argument_of a)) (arguments_row_is rest)

pub expr_of_Call : (routine up : ℕ) (v : Vec Argument Global) (line : Line) → expr_of (Call routine up v line)
    ≡ Tree.Call routine up (arguments_of v.items) line.number
unfolding expr_of
expr_of_Call routine up v line = ap (λ a. Tree.Call routine up a line.number)
    (arguments_row_is (hidden-the_row-Argument-3 v) ∙ ap arguments_of (items_hidden-the_row-Argument-3 v))

pub expr_of_CallFormal : (up index : ℕ) (v : Vec Argument Global) (line : Line) → expr_of (CallFormal up index v line)
    ≡ Tree.CallFormal up index (arguments_of v.items) line.number
unfolding expr_of
expr_of_CallFormal up index v line = ap (λ a. Tree.CallFormal up index a line.number)
    (arguments_row_is (hidden-the_row-Argument-3 v) ∙ ap arguments_of (items_hidden-the_row-Argument-3 v))

members_row_is : {n : _} (k : Row_of-Member n) → members_of_row k ≡ members_of (items-the_row-Member n k)
unfolding members_of_row members_of
members_row_is end_of-Member = refl
members_row_is (more_of-Member a rest) = ap (Tree.member_before (member_of a)) (members_row_is rest)

pub set_of_Constructor : (v : Vec Member Global) → set_of (Constructor v) ≡ Tree.Constructor (members_of v.items)
unfolding set_of
set_of_Constructor v = ap Tree.Constructor
    (members_row_is (hidden-the_row-Member-4 v) ∙ ap members_of (items_hidden-the_row-Member-4 v))

-- variables

selectors_row_is : {n : _} (k : Row_of-Selector n) → selectors_of_row k ≡ selectors_of (items-the_row-Selector n k)
unfolding selectors_of_row selectors_of
selectors_row_is end_of-Selector = refl
selectors_row_is (more_of-Selector s rest) = ap (Tree.selector_before (selector_of s)) (selectors_row_is rest)

selectors_are : (v : Vec Selector Global) → selectors_of_row (hidden-the_row-Selector-0 v) ≡ selectors_of v.items
selectors_are v = selectors_row_is (hidden-the_row-Selector-0 v) ∙ ap selectors_of (items_hidden-the_row-Selector-0 v)

pub expr_of_Load : (b : Box Place Global) → expr_of (Load b) ≡ Tree.Load (place_of b.value)
unfolding expr_of
expr_of_Load b = ap (λ l. Tree.Load (Tree.Variable (base_of b.value.base) l)) (selectors_are b.value.selectors)

pub set_of_Load : (b : Box Place Global) → set_of (LoadSet b) ≡ Tree.LoadSet (place_of b.value)
unfolding set_of
set_of_Load b = ap (λ l. Tree.LoadSet (Tree.Variable (base_of b.value.base) l)) (selectors_are b.value.selectors)

pub structure_of_Contents : (b : Box Place Global) (ty : Ty) → structure_of (Contents b ty) ≡ Tree.Contents
    (place_of b.value) (type_of ty)
unfolding structure_of
structure_of_Contents b ty = ap (λ l. Tree.Contents (Tree.Variable (base_of b.value.base) l) (type_of ty))
    (selectors_are b.value.selectors)

pub argument_of_Variable : (p : Place) → argument_of (Variable p) ≡ Tree.ByVariable (place_of p)
unfolding argument_of
argument_of_Variable p = ap (λ l. Tree.ByVariable (Tree.Variable (base_of p.base) l)) (selectors_are p.selectors)

-- operators with their operands

arithmetic_row_is : {n : _} (k : Row_of-ArithmeticStep n) → arithmetic_of_row k ≡ arithmetic_of
    (items-the_row-ArithmeticStep n k)
unfolding arithmetic_of_row arithmetic_of
arithmetic_row_is end_of-ArithmeticStep = refl
arithmetic_row_is (more_of-ArithmeticStep operator e line rest) =
    ap (Tree.arithmetic_step_before operator (expr_of e) line.number) (arithmetic_row_is rest)

pub expr_of_Arithmetic : (b : Box Expr Global) (v : Vec ArithmeticStep Global) → expr_of (Arithmetic b v)
    ≡ Tree.Arithmetic (expr_of b.value) (arithmetic_of v.items)
unfolding expr_of
expr_of_Arithmetic b v = ap (Tree.Arithmetic (expr_of b.value))
    (arithmetic_row_is (hidden-the_row-ArithmeticStep-1 v) ∙ ap arithmetic_of (items_hidden-the_row-ArithmeticStep-1 v))

operands_row_is : {n : _} (k : Row_of-Expr n) → operands_of_row k ≡ operands_of (items-the_row-Expr n k)
unfolding operands_of_row operands_of
operands_row_is end_of-Expr = refl
operands_row_is (more_of-Expr e rest) = ap (Tree.operand_before (expr_of e)) (operands_row_is rest)

pub expr_of_Logic : (operator : BooleanOperator) (b : Box Expr Global) (v : Vec Expr Global) → expr_of
    (Logic operator b v) ≡ Tree.Logic operator (expr_of b.value) (operands_of v.items)
unfolding expr_of
expr_of_Logic operator b v = ap (Tree.Logic operator (expr_of b.value))
    (operands_row_is (hidden-the_row-Expr-2 v) ∙ ap operands_of (items_hidden-the_row-Expr-2 v))

set_steps_row_is : {n : _} (k : Row_of-SetStep n) → set_steps_of_row k ≡ set_steps_of (items-the_row-SetStep n k)
unfolding set_steps_of_row set_steps_of
set_steps_row_is end_of-SetStep = refl
set_steps_row_is (more_of-SetStep operator e rest) = ap (Tree.set_step_before operator (set_of e))
    (set_steps_row_is rest)

pub set_of_Combine : (b : Box SetExpr Global) (v : Vec SetStep Global) → set_of (Combine b v) ≡ Tree.Combine
    (set_of b.value) (set_steps_of v.items)
unfolding set_of
set_of_Combine b v = ap (Tree.Combine (set_of b.value))
    (set_steps_row_is (hidden-the_row-SetStep-5 v) ∙ ap set_steps_of (items_hidden-the_row-SetStep-5 v))

-- extents, capped at the largest number of eight bytes
abbrev pub expr_told : Expr → Extent
expr_told e = capped (expr_extent (expr_of e))

abbrev pub set_told : SetExpr → Extent
set_told e = capped (set_extent (set_of e))

abbrev pub structure_told : Structure → Extent
structure_told e = capped (structure_extent (structure_of e))

pub expr_told_as : (e d : Expr) → e ≡ d → expr_told d ≡ expr_told e
expr_told_as e d f = sym (ap expr_told f)

pub member_told_as : (m d : Member) → m ≡ d → capped (member_extent (member_of d)) ≡ capped
    (member_extent (member_of m))
member_told_as m d f = sym (ap (λ x. capped (member_extent (member_of x))) f)

pub argument_told_as : (a d : Argument) → a ≡ d → capped (argument_extent (argument_of d)) ≡ capped
    (argument_extent (argument_of a))
argument_told_as a d f = sym (ap (λ x. capped (argument_extent (argument_of x))) f)

-- the extents of nodes with lists
pub place_counted : (p : Place) (items : List Selector) → items ≡ p.selectors.items → node ⊕ selectors_extent
    (selectors_of items) ≡ place_extent (place_of p)
unfolding place_extent
place_counted p items g = ap (λ l. node ⊕ selectors_extent (selectors_of l)) g

pub one_operand : (e : Expr) (b : Box Expr Global) → (e ≡ Plus b) ⊎ (((line : Line) × (e ≡ Minus b line)) ⊎ (e ≡ Not b))
    → node ⊕ expr_extent (expr_of b.value) ≡ expr_extent (expr_of e)
unfolding expr_extent expr_of
one_operand e b (inl f) = sym (ap (λ x. expr_extent (expr_of x)) f)
one_operand e b (inr (inl f)) = sym (ap (λ x. expr_extent (expr_of x)) f.1)
one_operand e b (inr (inr f)) = sym (ap (λ x. expr_extent (expr_of x)) f)

pub two_operands : (e : Expr) (a b : Box Expr Global) → ((relation : OrderRelation) × (e ≡ Compare relation a b))
    ⊎ ((relation : PointerRelation) × (e ≡ ComparePointers relation a b)) → expr_extent (expr_of a.value) ⊕ node
    ⊕ expr_extent (expr_of b.value) ≡ expr_extent (expr_of e)
unfolding expr_extent expr_of
two_operands e a b (inl f) = sym (ap (λ x. expr_extent (expr_of x)) f.1)
two_operands e a b (inr f) = sym (ap (λ x. expr_extent (expr_of x)) f.1)

pub load_counted : (e : Expr) (b : Box Place Global) (place : Place) → e ≡ Load b → place ≡ b.value → place_extent
    (place_of place) ≡ expr_extent (expr_of e)
unfolding expr_extent
load_counted e b place f g = ap (λ p. place_extent (place_of p)) g ∙ sym
    (ap expr_extent (ap expr_of f ∙ expr_of_Load b))

pub load_set_counted : (e : SetExpr) (b : Box Place Global) (place : Place) → e ≡ LoadSet b → place ≡ b.value
    → place_extent (place_of place) ≡ set_extent (set_of e)
unfolding set_extent
load_set_counted e b place f g = ap (λ p. place_extent (place_of p)) g ∙ sym
    (ap set_extent (ap set_of f ∙ set_of_Load b))

pub constructor_counted : (e : SetExpr) (v : Vec Member Global) (items : List Member) → e ≡ Constructor v → items
    ≡ v.items → node ⊕ members_extent (members_of items) ≡ set_extent (set_of e)
unfolding set_extent
constructor_counted e v items f g = ap (λ l. node ⊕ members_extent (members_of l)) g ∙ sym
    (ap set_extent (ap set_of f ∙ set_of_Constructor v))

pub contents_counted : (e : Structure) (b : Box Place Global) (ty : Ty) (place : Place) → e ≡ Contents b ty → place
    ≡ b.value → place_extent (place_of place) ≡ structure_extent (structure_of e)
unfolding structure_extent
contents_counted e b ty place f g = ap (λ p. place_extent (place_of p)) g ∙ sym
    (ap structure_extent (ap structure_of f ∙ structure_of_Contents b ty))

pub variable_counted : (a : Argument) (place : Place) → a ≡ Variable place → node ⊕ place_extent (place_of place)
    ≡ argument_extent (argument_of a)
unfolding argument_extent
variable_counted a place f = sym (ap argument_extent (ap argument_of f ∙ argument_of_Variable place))

pub arithmetic_counted : (e : Expr) (b : Box Expr Global) (v : Vec ArithmeticStep Global) (first : Expr)
    (items : List ArithmeticStep) → e ≡ Arithmetic b v → first ≡ b.value → items ≡ v.items → expr_extent (expr_of first)
    ⊕ arithmetic_extent (arithmetic_of items) ≡ expr_extent (expr_of e)
unfolding expr_extent
arithmetic_counted e b v first items f g h = ap (λ x. expr_extent (expr_of x) ⊕ arithmetic_extent (arithmetic_of items))
    g ∙ ap (λ l. expr_extent (expr_of b.value) ⊕ arithmetic_extent (arithmetic_of l)) h ∙ sym
    (ap expr_extent (ap expr_of f ∙ expr_of_Arithmetic b v))

pub logic_counted : (e : Expr) (operator : BooleanOperator) (b : Box Expr Global) (v : Vec Expr Global) (first : Expr)
    (items : List Expr) → e ≡ Logic operator b v → first ≡ b.value → items ≡ v.items → expr_extent (expr_of first)
    ⊕ operands_extent (operands_of items) ≡ expr_extent (expr_of e)
unfolding expr_extent
logic_counted e operator b v first items f g h = ap (λ x. expr_extent (expr_of x) ⊕ operands_extent (operands_of items))
    g ∙ ap (λ l. expr_extent (expr_of b.value) ⊕ operands_extent (operands_of l)) h ∙ sym
    (ap expr_extent (ap expr_of f ∙ expr_of_Logic operator b v))

pub combine_counted : (e : SetExpr) (b : Box SetExpr Global) (v : Vec SetStep Global) (first : SetExpr)
    (items : List SetStep) → e ≡ Combine b v → first ≡ b.value → items ≡ v.items → set_extent (set_of first)
    ⊕ set_steps_extent (set_steps_of items) ≡ set_extent (set_of e)
unfolding set_extent
combine_counted e b v first items f g h = ap (λ x. set_extent (set_of x) ⊕ set_steps_extent (set_steps_of items)) g
    ∙ ap (λ l. set_extent (set_of b.value) ⊕ set_steps_extent (set_steps_of l)) h ∙ sym
    (ap set_extent (ap set_of f ∙ set_of_Combine b v))

pub call_counted : (e : Expr) (routine up : ℕ) (v : Vec Argument Global) (line : Line) (items : List Argument) → e
    ≡ Call routine up v line → items ≡ v.items → node ⊕ arguments_extent (arguments_of items) ≡ expr_extent (expr_of e)
unfolding expr_extent
call_counted e routine up v line items f g = ap (λ l. node ⊕ arguments_extent (arguments_of l)) g ∙ sym
    (ap expr_extent (ap expr_of f ∙ expr_of_Call routine up v line))

pub call_formal_counted : (e : Expr) (up index : ℕ) (v : Vec Argument Global) (line : Line) (items : List Argument) → e
    ≡ CallFormal up index v line → items ≡ v.items → node ⊕ arguments_extent (arguments_of items) ≡ expr_extent
    (expr_of e)
unfolding expr_extent
call_formal_counted e up index v line items f g = ap (λ l. node ⊕ arguments_extent (arguments_of l)) g ∙ sym
    (ap expr_extent (ap expr_of f ∙ expr_of_CallFormal up index v line))
