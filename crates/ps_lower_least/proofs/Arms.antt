-- The numbers of nodes, by those of their parts.
use Rattle.std.proofs.Common.{◌≡◌, ◌⊎◌, inl, inr, ℕ, ℤ, List, [], ◌∷◌, ◌+◌, map, Vec, Box, Global, refl, sym, ap, ◌∙◌}
use Rattle.ps_tree.specs.declared.line.Line.{Line}
use Rattle.ps_tree.specs.declared.types.Ty.{Ty}
use Rattle.ps_tree.specs.declared.tree.operators.BooleanOperator.{BooleanOperator}
use Rattle.ps_tree.specs.declared.tree.operators.RequiredFunction.{RequiredFunction}
use Rattle.ps_tree.specs.declared.tree.operators.OrderRelation.{OrderRelation}
use Rattle.ps_tree.specs.declared.tree.operators.PointerRelation.{PointerRelation}
use Rattle.ps_tree.specs.declared.tree.Place.{Place}
use Rattle.ps_tree.specs.declared.tree.Selector.{Selector}
use Rattle.ps_tree.specs.declared.tree.ArithmeticStep.{ArithmeticStep, out-ArithmeticStep}
use Rattle.ps_tree.specs.declared.tree.SetStep.{SetStep, out-SetStep}
use Rattle.ps_tree.specs.declared.tree.Member.{Member}
use Rattle.ps_tree.specs.declared.tree.Structure.{Structure, Contents}
use Rattle.ps_tree.specs.declared.tree.Expr.{Expr, Number, Nil, Eof, Eoln, Load, Plus, Minus, Not, Apply, Arithmetic}
use Rattle.ps_tree.specs.declared.tree.Expr.{Logic, Compare, ComparePointers, Call, CallFormal}
use Rattle.ps_tree.specs.declared.tree.SetExpr.{SetExpr, Load as LoadSet, Constructor, Combine}
use Rattle.ps_tree.specs.declared.tree.Argument.{Argument, Variable}
use Rattle.ps_tree.specs.declared.tree.statements.ReadVariable.{ReadVariable}
use Rattle.ps_tree.specs.declared.tree.statements.ReadVariable.TheVariants.{Char as ReadChar, Integer as ReadInteger}
use Rattle.ps_tree.specs.declared.tree.statements.Width.{Width}
use Rattle.ps_tree.specs.declared.tree.statements.WriteParameter.{WriteParameter}
use Rattle.ps_tree.specs.declared.tree.statements.WriteParameter.TheVariants.{Integer as WriteInteger}
use Rattle.ps_tree.specs.declared.tree.statements.WriteParameter.TheVariants.{Char as WriteChar}
use Rattle.ps_tree.specs.declared.tree.statements.WriteParameter.TheVariants.{Boolean as WriteBoolean}
use Rattle.ps_tree.specs.declared.tree.statements.CaseElement.{CaseElement, out-CaseElement}
use Rattle.ps_tree.specs.declared.tree.statements.Statement.{Statement, Case, Compound, If, Read, Readln, Repeat, While}
use Rattle.ps_tree.specs.declared.tree.statements.Statement.{Write}
use Rattle.ps_tree.specs.declared.tree.statements.Statement.{Writeln}
use Rattle.ps_tree.specs.View.{place_of, selector_of, selectors_of, expr_of, arithmetic_of, operands_of, set_of}
use Rattle.ps_tree.specs.View.{set_steps_of, member_of, members_of, structure_of, argument_of, arguments_of, read_of}
use Rattle.ps_tree.specs.View.{width_of, write_of, statement_of, statements_of, elements_of}
use Rattle.ps_tree.proofs.TreeLemmas.{expr_of_Load, expr_of_Arithmetic, expr_of_Logic, expr_of_Call}
use Rattle.ps_tree.proofs.TreeLemmas.{expr_of_CallFormal, set_of_Load, set_of_Constructor, set_of_Combine}
use Rattle.ps_tree.proofs.TreeLemmas.{structure_of_Contents, argument_of_Variable}
use Rattle.ps_tree.proofs.StatementLemmas.{statement_of_Compound, statement_of_Repeat, statement_of_Case}
use Rattle.ps_lower_least.specs.Fewest.{place_fewest, selector_fewest, selectors_fewest, expr_fewest, steps_fewest}
use Rattle.ps_lower_least.specs.Fewest.{operands_fewest, set_fewest, set_steps_fewest, member_fewest, members_fewest}
use Rattle.ps_lower_least.specs.Fewest.{structure_fewest, argument_fewest, arguments_fewest, places_fewest, read_fewest}
use Rattle.ps_lower_least.specs.Fewest.{reads_fewest, width_fewest, write_fewest, writes_fewest, statement_fewest}
use Rattle.ps_lower_least.specs.Fewest.{statements_fewest, elements_fewest}

-- ---- what stands in a list

abbrev pub selectors_in : List Selector → ℕ
selectors_in l = selectors_fewest (selectors_of l)

pub selectors_none : selectors_in [] ≡ 0
unfolding selectors_of
selectors_none = refl

pub selectors_more : (x : Selector) (xs : List Selector) → selectors_in (x ∷ xs) ≡ selector_fewest (selector_of x)
    + selectors_in xs
unfolding selectors_of
selectors_more x xs = refl

abbrev pub steps_in : List ArithmeticStep → ℕ
steps_in l = steps_fewest (arithmetic_of l)

pub steps_none : steps_in [] ≡ 0
unfolding arithmetic_of
steps_none = refl

pub steps_more : (x : ArithmeticStep) (xs : List ArithmeticStep) → steps_in (x ∷ xs) ≡ expr_fewest
    (expr_of (out-ArithmeticStep x).operand) + steps_in xs
unfolding arithmetic_of
steps_more x xs = refl

abbrev pub operands_in : List Expr → ℕ
operands_in l = operands_fewest (operands_of l)

pub operands_none : operands_in [] ≡ 0
unfolding operands_of
operands_none = refl

pub operands_more : (x : Expr) (xs : List Expr) → operands_in (x ∷ xs) ≡ expr_fewest (expr_of x) + operands_in xs
unfolding operands_of
operands_more x xs = refl

abbrev pub set_steps_in : List SetStep → ℕ
set_steps_in l = set_steps_fewest (set_steps_of l)

pub set_steps_none : set_steps_in [] ≡ 0
unfolding set_steps_of
set_steps_none = refl

pub set_steps_more : (x : SetStep) (xs : List SetStep) → set_steps_in (x ∷ xs) ≡ set_fewest
    (set_of (out-SetStep x).operand) + set_steps_in xs
unfolding set_steps_of
set_steps_more x xs = refl

abbrev pub members_in : List Member → ℕ
members_in l = members_fewest (members_of l)

pub members_none : members_in [] ≡ 0
unfolding members_of
members_none = refl

pub members_more : (x : Member) (xs : List Member) → members_in (x ∷ xs) ≡ member_fewest (member_of x) + members_in xs
unfolding members_of
members_more x xs = refl

abbrev pub arguments_in : List Argument → ℕ
arguments_in l = arguments_fewest (arguments_of l)

pub arguments_none : arguments_in [] ≡ 0
unfolding arguments_of
arguments_none = refl

pub arguments_more : (x : Argument) (xs : List Argument) → arguments_in (x ∷ xs) ≡ argument_fewest (argument_of x)
    + arguments_in xs
unfolding arguments_of
arguments_more x xs = refl

abbrev pub places_in : List Place → ℕ
places_in l = places_fewest (map place_of l)

pub places_more : (x : Place) (xs : List Place) → places_in (x ∷ xs) ≡ place_fewest (place_of x) + places_in xs
places_more x xs = refl

abbrev pub reads_in : List ReadVariable → ℕ
reads_in l = reads_fewest (map read_of l)

pub reads_more : (x : ReadVariable) (xs : List ReadVariable) → reads_in (x ∷ xs) ≡ read_fewest (read_of x) + reads_in xs
reads_more x xs = refl

abbrev pub writes_in : List WriteParameter → ℕ
writes_in l = writes_fewest (map write_of l)

pub writes_more : (x : WriteParameter) (xs : List WriteParameter) → writes_in (x ∷ xs) ≡ write_fewest (write_of x)
    + writes_in xs
writes_more x xs = refl

abbrev pub statements_in : List Statement → ℕ
statements_in l = statements_fewest (statements_of l)

pub statements_none : statements_in [] ≡ 0
unfolding statements_of
statements_none = refl

pub statements_more : (x : Statement) (xs : List Statement) → statements_in (x ∷ xs) ≡ statement_fewest (statement_of x)
    + statements_in xs
unfolding statements_of
statements_more x xs = refl

abbrev pub elements_in : List CaseElement → ℕ
elements_in l = elements_fewest (elements_of l)

pub elements_none : elements_in [] ≡ 0
unfolding elements_of
elements_none = refl

pub elements_more : (x : CaseElement) (xs : List CaseElement) → elements_in (x ∷ xs) ≡ statement_fewest
    (statement_of (out-CaseElement x).body) + elements_in xs
unfolding elements_of
elements_more x xs = refl

-- ---- nodes with lists or boxes

pub load_fewest : (e : Expr) (b : Box Place Global) (place : Place) → e ≡ Load b → place ≡ b.value → place_fewest
    (place_of place) ≡ expr_fewest (expr_of e)
load_fewest e b place f g = ap (λ p. place_fewest (place_of p)) g ∙ sym (ap expr_fewest (ap expr_of f ∙ expr_of_Load b))

pub load_set_fewest : (e : SetExpr) (b : Box Place Global) (place : Place) → e ≡ LoadSet b → place ≡ b.value →
    place_fewest
    (place_of place) ≡ set_fewest (set_of e)
load_set_fewest e b place f g = ap (λ p. place_fewest (place_of p)) g
    ∙ sym (ap set_fewest (ap set_of f ∙ set_of_Load b))

pub constructor_fewest : (e : SetExpr) (v : Vec Member Global) (items : List Member) → e ≡ Constructor v →
    items ≡ v.items
    → members_in items ≡ set_fewest (set_of e)
constructor_fewest e v items f g = ap members_in g ∙ sym (ap set_fewest (ap set_of f ∙ set_of_Constructor v))

pub contents_fewest : (e : Structure) (b : Box Place Global) (ty : Ty) (place : Place) → e ≡ Contents b ty → place
    ≡ b.value → place_fewest (place_of place) ≡ structure_fewest (structure_of e)
contents_fewest e b ty place f g = ap (λ p. place_fewest (place_of p)) g ∙ sym
    (ap structure_fewest (ap structure_of f ∙ structure_of_Contents b ty))

pub variable_fewest : (a : Argument) (place : Place) → a ≡ Variable place →
    place_fewest (place_of place) ≡ argument_fewest
    (argument_of a)
variable_fewest a place f = sym (ap argument_fewest (ap argument_of f ∙ argument_of_Variable place))

pub arithmetic_fewest : (e : Expr) (b : Box Expr Global) (v : Vec ArithmeticStep Global) (first : Expr)
    (items : List ArithmeticStep) → e ≡ Arithmetic b v → first ≡ b.value → items ≡ v.items → expr_fewest (expr_of first)
    + steps_in items ≡ expr_fewest (expr_of e)
arithmetic_fewest e b v first items f g h = ap (λ x. expr_fewest (expr_of x) + steps_in items) g
    ∙ ap (λ l. expr_fewest (expr_of b.value) + steps_in l) h ∙ sym
    (ap expr_fewest (ap expr_of f ∙ expr_of_Arithmetic b v))

pub logic_fewest : (e : Expr) (operator : BooleanOperator) (b : Box Expr Global) (v : Vec Expr Global) (first : Expr)
    (items : List Expr) → e ≡ Logic operator b v → first ≡ b.value → items ≡ v.items → expr_fewest (expr_of first)
    + operands_in items ≡ expr_fewest (expr_of e)
logic_fewest e operator b v first items f g h = ap (λ x. expr_fewest (expr_of x) + operands_in items) g
    ∙ ap (λ l. expr_fewest (expr_of b.value) + operands_in l) h ∙ sym
    (ap expr_fewest (ap expr_of f ∙ expr_of_Logic operator b v))

pub combine_fewest : (e : SetExpr) (b : Box SetExpr Global) (v : Vec SetStep Global) (first : SetExpr)
    (items : List SetStep) → e ≡ Combine b v → first ≡ b.value → items ≡ v.items → set_fewest (set_of first)
    + set_steps_in items ≡ set_fewest (set_of e)
combine_fewest e b v first items f g h = ap (λ x. set_fewest (set_of x) + set_steps_in items) g
    ∙ ap (λ l. set_fewest (set_of b.value) + set_steps_in l) h ∙ sym (ap set_fewest (ap set_of f ∙ set_of_Combine b v))

pub call_fewest : (e : Expr) (routine up : ℕ) (v : Vec Argument Global) (line : Line) (items : List Argument) → e
    ≡ Call routine up v line → items ≡ v.items → 1 + arguments_in items ≡ expr_fewest (expr_of e)
call_fewest e routine up v line items f g = ap (λ l. 1 + arguments_in l) g ∙ sym
    (ap expr_fewest (ap expr_of f ∙ expr_of_Call routine up v line))

pub call_formal_fewest : (e : Expr) (up index : ℕ) (v : Vec Argument Global) (line : Line) (items : List Argument) → e
    ≡ CallFormal up index v line → items ≡ v.items → 1 + arguments_in items ≡ expr_fewest
    (expr_of e)
call_formal_fewest e up index v line items f g = ap (λ l. 1 + arguments_in l) g ∙ sym
    (ap expr_fewest (ap expr_of f ∙ expr_of_CallFormal up index v line))

pub compound_fewest : (s : Statement) (v : Vec Statement Global) (items : List Statement) → s ≡ Compound v → items
    ≡ v.items → statements_in items ≡ statement_fewest (statement_of s)
compound_fewest s v items f g = ap statements_in g ∙ sym (ap statement_fewest
    (ap statement_of f ∙ statement_of_Compound v))

pub repeat_fewest : (s : Statement) (v : Vec Statement Global) (e : Expr) (items : List Statement) → s ≡ Repeat v e
    → items ≡ v.items → statements_in items + expr_fewest (expr_of e) ≡ statement_fewest (statement_of s)
repeat_fewest s v e items f g = ap (λ l. statements_in l + expr_fewest (expr_of e)) g ∙ sym
    (ap statement_fewest (ap statement_of f ∙ statement_of_Repeat v e))

pub case_fewest : (s : Statement) (e : Expr) (v : Vec CaseElement Global) (line : Line) (items : List CaseElement) → s
    ≡ Case e v line → items ≡ v.items → expr_fewest (expr_of e) + elements_in items ≡ statement_fewest (statement_of s)
case_fewest s e v line items f g = ap (λ l. expr_fewest (expr_of e) + elements_in l) g ∙ sym
    (ap statement_fewest (ap statement_of f ∙ statement_of_Case e v line))

-- ---- nodes of several forms

pub one_operand : (e : Expr) (b : Box Expr Global) → (e ≡ Plus b)
    ⊎ (((line : Line) × (e ≡ Minus b line)) ⊎ ((e ≡ Not b)
    ⊎ ((function : RequiredFunction) × (line : Line) × (e ≡ Apply function b line)))) → expr_fewest (expr_of b.value)
    ≡ expr_fewest (expr_of e)
unfolding expr_of
one_operand e b (inl f) = sym (ap (λ x. expr_fewest (expr_of x)) f)
one_operand e b (inr (inl f)) = sym (ap (λ x. expr_fewest (expr_of x)) f.1)
one_operand e b (inr (inr (inl f))) = sym (ap (λ x. expr_fewest (expr_of x)) f)
one_operand e b (inr (inr (inr f))) = sym (ap (λ x. expr_fewest (expr_of x)) f.2)

pub two_operands : (e : Expr) (a b : Box Expr Global) → ((relation : OrderRelation) × (e ≡ Compare relation a b))
    ⊎ ((relation : PointerRelation) × (e ≡ ComparePointers relation a b)) → expr_fewest (expr_of a.value) + expr_fewest
    (expr_of b.value) ≡ expr_fewest (expr_of e)
unfolding expr_of
two_operands e a b (inl f) = sym (ap (λ x. expr_fewest (expr_of x)) f.1)
two_operands e a b (inr f) = sym (ap (λ x. expr_fewest (expr_of x)) f.1)

pub condition_fewest : (s : Statement) (e : Expr) (b : Box Statement Global) → (s ≡ If e b) ⊎ (s ≡ While e b) →
    expr_fewest
    (expr_of e) + statement_fewest (statement_of b.value) ≡ statement_fewest (statement_of s)
unfolding statement_of
condition_fewest s e b (inl f) = sym (ap (λ x. statement_fewest (statement_of x)) f)
condition_fewest s e b (inr f) = sym (ap (λ x. statement_fewest (statement_of x)) f)

pub reads_are : (s : Statement) (v : Vec ReadVariable Global) → (s ≡ Read v) ⊎ ((line : Line) × (s ≡ Readln v line))
    → reads_in v.items ≡ statement_fewest (statement_of s)
unfolding statement_of
reads_are s v (inl f) = sym (ap (λ x. statement_fewest (statement_of x)) f)
reads_are s v (inr f) = sym (ap (λ x. statement_fewest (statement_of x)) f.1)

pub writes_are : (s : Statement) (v : Vec WriteParameter Global) → (s ≡ Write v) ⊎ (s ≡ Writeln v) → writes_in v.items
    ≡ statement_fewest (statement_of s)
unfolding statement_of
writes_are s v (inl f) = sym (ap (λ x. statement_fewest (statement_of x)) f)
writes_are s v (inr f) = sym (ap (λ x. statement_fewest (statement_of x)) f)

pub no_operand : (e : Expr) → ((n : ℤ) × (e ≡ Number n)) ⊎ ((e ≡ Nil) ⊎ ((e ≡ Eof) ⊎ ((line : Line) × (e ≡ Eoln line))))
    → 0 ≡ expr_fewest (expr_of e)
unfolding expr_of
no_operand e (inl f) = sym (ap (λ x. expr_fewest (expr_of x)) f.1)
no_operand e (inr (inl f)) = sym (ap (λ x. expr_fewest (expr_of x)) f)
no_operand e (inr (inr (inl f))) = sym (ap (λ x. expr_fewest (expr_of x)) f)
no_operand e (inr (inr (inr f))) = sym (ap (λ x. expr_fewest (expr_of x)) f.1)

pub read_is : (v : ReadVariable) (place : Place)
    → ((low : ℤ) × (high : ℤ) × (line : Line) × (v ≡ ReadChar place low high line))
    ⊎ ((low : ℤ) × (high : ℤ) × (line : Line) × (v ≡ ReadInteger place low high line)) → place_fewest (place_of place)
    ≡ read_fewest (read_of v)
unfolding read_of
read_is v place (inl f) = sym (ap (λ x. read_fewest (read_of x)) f.3)
read_is v place (inr f) = sym (ap (λ x. read_fewest (read_of x)) f.3)

pub write_is : (p : WriteParameter) (e : Expr) (width : Width) → (p ≡ WriteInteger e width)
    ⊎ ((p ≡ WriteChar e width) ⊎ (p ≡ WriteBoolean e width)) → expr_fewest (expr_of e) + width_fewest (width_of width)
    ≡ write_fewest (write_of p)
unfolding write_of
write_is p e width (inl f) = sym (ap (λ x. write_fewest (write_of x)) f)
write_is p e width (inr (inl f)) = sym (ap (λ x. write_fewest (write_of x)) f)
write_is p e width (inr (inr f)) = sym (ap (λ x. write_fewest (write_of x)) f)
