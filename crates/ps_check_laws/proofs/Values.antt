-- What values, variables and statements threaten that are made of others which have been judged already.
use Rattle.std.proofs.Common.{◌≡◌, ℕ, Bool, true, false, List, [], ◌++◌, Option, Some, None, slice_get, refl, sym, ap}
use Rattle.std.proofs.Common.{◌∙◌, append-nil, append_assoc}
use Rattle.std.specs.Prelude.{if◌then◌else◌}
use Rattle.ps_text.specs.declared.Span.{Span}
use Rattle.ps_syntax.specs.declared.expression.Sign.{Sign}
use Rattle.ps_syntax.specs.declared.expression.Sign.TheVariants as sign
use Rattle.ps_syntax.specs.declared.expression.Adding.{Adding}
use Rattle.ps_syntax.specs.declared.expression.Adding.TheVariants as adding
use Rattle.ps_syntax.specs.declared.expression.Multiplying.{Multiplying}
use Rattle.ps_syntax.specs.declared.expression.Multiplying.TheVariants as multiplying
use Rattle.ps_syntax.specs.declared.expression.Relational.{Relational}
use Rattle.ps_tree.specs.declared.tree.operators.ArithmeticOperator.{ArithmeticOperator}
use Rattle.ps_tree.specs.declared.tree.operators.ArithmeticOperator.TheVariants.{Add, Subtract, Multiply, Div, Mod}
use Rattle.ps_tree.specs.declared.tree.operators.BooleanOperator.{BooleanOperator}
use Rattle.ps_tree.specs.declared.tree.operators.BooleanOperator.TheVariants.{And, Or}
use Rattle.ps_tree.specs.declared.tree.operators.SetOperator.{SetOperator}
use Rattle.ps_tree.specs.declared.tree.operators.SetOperator.TheVariants.{Union, Difference, Intersection}
use Rattle.ps_tree.specs.declared.types.Ordinal.{Ordinal}
use Rattle.ps_tree.specs.declared.types.Host.{Host}
use Rattle.ps_tree.specs.declared.types.Host.TheVariants.{Integer, Boolean}
use Rattle.ps_tree.specs.Types.{DataType, OrdinalType, PointerType, SetType, ArrayType, RecordType, are_same}
use Rattle.ps_tree.specs.Types.{string_length, is_compatible, field_in}
use Rattle.ps_tree.specs.Tree as Tree
use Rattle.ps_tree.specs.Chains.{selector_after, selected, arithmetic_step_after, calculated, operand_after, begun}
use Rattle.ps_tree.specs.Chains.{connected, set_step_after, combined}
use Rattle.ps_check_judgement.specs.declared.refusal.Rule.TheVariants.{WrongType}
use Rattle.ps_check_judgement.specs.Judged.{Yes, provided, some_or}
use Rattle.ps_check_judgement.proofs.Binds.{no_yes, inside_yes, then_yes, provided_yes}
use Rattle.ps_check_names.specs.Spelling.{line_in}
use Rattle.ps_check_names.specs.Constants.{boolean, ConstantValue, OrdinalConstant, TextConstant}
use Rattle.ps_check_names.specs.Regions.{Context, Region, Point, BlockPoint, FieldPoint, VariableMeaning}
use Rattle.ps_check_names.specs.Regions.{ParameterMeaning}
use Rattle.ps_check_expressions.specs.declared.operators.Operands.{Operands}
use Rattle.ps_check_expressions.specs.Values.{Value, SimpleValue, SetValue, StructureValue, Variable, ordinal_of}
use Rattle.ps_check_expressions.specs.Values.{contents, has_host}
use Rattle.ps_check_expressions.specs.Operators.{operand_of, with_sign, negated, arithmetic, arithmetic_or_set, logic}
use Rattle.ps_check_expressions.specs.Operators.{added, multiplied, unlike, related, simple_comparison, together}
use Rattle.ps_check_expressions.specs.Operators.{is_in, may_be_member, ordered, of_pointers, of_sets, compared}
use Rattle.ps_check_expressions.specs.Places.{variable_at, index_operand, element, field_of, component, target}
use Rattle.ps_check_expressions.specs.Expressions.{constant_value, first_term}
use Rattle.ps_check_laws.specs.Threats.{Threatened, place_threatens, selector_threatens, selectors_threaten}
use Rattle.ps_check_laws.specs.Threats.{expr_threatens, arithmetic_threatens, operands_threaten, set_threatens}
use Rattle.ps_check_laws.specs.Threats.{set_steps_threaten, structure_threatens}

abbrev pub value_threatens : Value → Threatened
value_threatens (SimpleValue e type) = expr_threatens e
value_threatens (SetValue e type) = set_threatens e
value_threatens (StructureValue e type) = structure_threatens e

-- ---- chains

-- what is at the end of a chain
at_end : (a b c : Threatened) → (a ++ b) ++ c ≡ a ++ (b ++ c)
at_end a b c = append_assoc a b c

selectors_end : (xs : Tree.Selectors) (s : Tree.Selector) → selectors_threaten (selector_after xs s)
    ≡ selectors_threaten xs ++ selector_threatens s
unfolding selector_after selectors_threaten
selectors_end Tree.no_selector s = append-nil (selector_threatens s)
selectors_end (Tree.selector_before x xs) s = ap (λ l. selector_threatens x ++ l) (selectors_end xs s) ∙ sym
    (at_end (selector_threatens x) (selectors_threaten xs) (selector_threatens s))

pub selected_threatens : (p : Tree.Place) (s : Tree.Selector) → place_threatens (selected p s) ≡ place_threatens p
    ++ selector_threatens s
unfolding place_threatens
selected_threatens (Tree.Variable base selectors) s = selectors_end selectors s

arithmetic_end : (xs : Tree.ArithmeticSteps) (operator : ArithmeticOperator) (e : Tree.Expr) (line : ℕ)
    → arithmetic_threatens (arithmetic_step_after xs operator e line) ≡ arithmetic_threatens xs ++ expr_threatens e
unfolding arithmetic_step_after arithmetic_threatens
arithmetic_end Tree.no_arithmetic_step operator e line = append-nil (expr_threatens e)
arithmetic_end (Tree.arithmetic_step_before p x n xs) operator e line = ap (λ l. expr_threatens x ++ l)
    (arithmetic_end xs operator e line) ∙ sym (at_end (expr_threatens x) (arithmetic_threatens xs) (expr_threatens e))

operands_end : (xs : Tree.Operands) (e : Tree.Expr) → operands_threaten (operand_after xs e) ≡ operands_threaten xs
    ++ expr_threatens e
unfolding operand_after operands_threaten
operands_end Tree.no_operand e = append-nil (expr_threatens e)
operands_end (Tree.operand_before x xs) e = ap (λ l. expr_threatens x ++ l) (operands_end xs e) ∙ sym
    (at_end (expr_threatens x) (operands_threaten xs) (expr_threatens e))

set_steps_end : (xs : Tree.SetSteps) (operator : SetOperator) (e : Tree.SetExpr) → set_steps_threaten
    (set_step_after xs operator e) ≡ set_steps_threaten xs ++ set_threatens e
unfolding set_step_after set_steps_threaten
set_steps_end Tree.no_set_step operator e = append-nil (set_threatens e)
set_steps_end (Tree.set_step_before p x xs) operator e = ap (λ l. set_threatens x ++ l) (set_steps_end xs operator e)
    ∙ sym (at_end (set_threatens x) (set_steps_threaten xs) (set_threatens e))

begins_arithmetic : (a : Tree.Expr) (operator : ArithmeticOperator) (e : Tree.Expr) (line : ℕ) → expr_threatens
    (Tree.Arithmetic a (Tree.arithmetic_step_before operator e line Tree.no_arithmetic_step)) ≡ expr_threatens a
    ++ expr_threatens e
unfolding expr_threatens arithmetic_threatens
begins_arithmetic a operator e line = ap (λ l. expr_threatens a ++ l) (append-nil (expr_threatens e))

calculated_threatens : (operator : ArithmeticOperator) (line : ℕ) (a b : Tree.Expr) → expr_threatens
    (calculated operator line a b) ≡ expr_threatens a ++ expr_threatens b
unfolding calculated expr_threatens
calculated_threatens operator line (Tree.Arithmetic first steps) b = ap (λ l. expr_threatens first ++ l)
    (arithmetic_end steps operator b line) ∙ sym
    (at_end (expr_threatens first) (arithmetic_threatens steps) (expr_threatens b))
calculated_threatens operator line a b = begins_arithmetic a operator b line

begins_logic : (operator : BooleanOperator) (a e : Tree.Expr) → expr_threatens (begun operator a e) ≡ expr_threatens a
    ++ expr_threatens e
unfolding expr_threatens operands_threaten
begins_logic operator a e = ap (λ l. expr_threatens a ++ l) (append-nil (expr_threatens e))

connected_threatens : (operator : BooleanOperator) (a b : Tree.Expr) → expr_threatens (connected operator a b)
    ≡ expr_threatens a ++ expr_threatens b
unfolding connected expr_threatens
connected_threatens And (Tree.Logic And first rest) b = ap (λ l. expr_threatens first ++ l) (operands_end rest b) ∙ sym
    (at_end (expr_threatens first) (operands_threaten rest) (expr_threatens b))
connected_threatens Or (Tree.Logic Or first rest) b = ap (λ l. expr_threatens first ++ l) (operands_end rest b) ∙ sym
    (at_end (expr_threatens first) (operands_threaten rest) (expr_threatens b))
connected_threatens operator a b = begins_logic operator a b

begins_set : (a : Tree.SetExpr) (operator : SetOperator) (e : Tree.SetExpr) → set_threatens
    (Tree.Combine a (Tree.set_step_before operator e Tree.no_set_step)) ≡ set_threatens a ++ set_threatens e
unfolding set_threatens set_steps_threaten
begins_set a operator e = ap (λ l. set_threatens a ++ l) (append-nil (set_threatens e))

combined_threatens : (operator : SetOperator) (a b : Tree.SetExpr) → set_threatens (combined operator a b)
    ≡ set_threatens a ++ set_threatens b
unfolding combined set_threatens
combined_threatens operator (Tree.Combine first steps) b = ap (λ l. set_threatens first ++ l)
    (set_steps_end steps operator b) ∙ sym (at_end (set_threatens first) (set_steps_threaten steps) (set_threatens b))
combined_threatens operator a b = begins_set a operator b

-- ---- operands

operand_is : (host : Host) (at : ℕ) (v : Value) (e : Tree.Expr) → operand_of host at v ≡ Yes e → value_threatens v
    ≡ expr_threatens e
unfolding operand_of
operand_is host at (SimpleValue x type) e h = ap expr_threatens (provided_yes (has_host host type) WrongType at x e h).1
operand_is host at v e h = absurd (no_yes h)

pub ordinal_is : (at : ℕ) (v : Value) (x : Tree.Expr × Ordinal) → ordinal_of at v ≡ Yes x → value_threatens v
    ≡ expr_threatens x.0
unfolding ordinal_of
ordinal_is at (SimpleValue e (OrdinalType o)) x h = ap (λ (q : Tree.Expr × Ordinal). expr_threatens q.0)
    (inside_yes (e, o) x h)
ordinal_is at v x h = absurd (no_yes h)

pub contents_threaten : (at : ℕ) (p : Tree.Place) (type : DataType) (v : Value) → contents at p type ≡ Yes v
    → value_threatens v ≡ place_threatens p
unfolding contents expr_threatens set_threatens structure_threatens
contents_threaten at p (OrdinalType o) v h = ap value_threatens (sym (inside_yes _ v h))
contents_threaten at p (PointerType n) v h = ap value_threatens (sym (inside_yes _ v h))
contents_threaten at p (SetType a k o) v h = ap value_threatens (sym (inside_yes _ v h))
contents_threaten at p (ArrayType a packed index c) v h = ap value_threatens (sym (inside_yes _ v h))
contents_threaten at p (RecordType a packed fields) v h = ap value_threatens (sym (inside_yes _ v h))
contents_threaten at p type v h = absurd (no_yes h)

pub constant_threatens : (at : ℕ) (k : ConstantValue) (v : Value) → constant_value at k ≡ Yes v → value_threatens v ≡ []
unfolding constant_value expr_threatens structure_threatens
constant_threatens at (OrdinalConstant o n) v h = ap value_threatens (sym (inside_yes _ v h))
constant_threatens at (TextConstant w) v h = ap value_threatens (sym (provided_yes _ WrongType at _ v h).1)

-- ---- signs and operators

sign_threatens : (at : ℕ) (s : Sign) (line : ℕ) (v w : Value) → with_sign at s line v ≡ Yes w → value_threatens w
    ≡ value_threatens v
unfolding with_sign expr_threatens
sign_threatens at sign.Plus line v w h = (let e = then_yes (operand_of Integer at v) _ w h in ap value_threatens
    (sym (inside_yes _ w e.2)) ∙ sym (operand_is Integer at v e.0 e.1))
sign_threatens at sign.Minus line v w h = (let e = then_yes (operand_of Integer at v) _ w h in ap value_threatens
    (sym (inside_yes _ w e.2)) ∙ sym (operand_is Integer at v e.0 e.1))

pub negated_threatens : (at : ℕ) (v w : Value) → negated at v ≡ Yes w → value_threatens w ≡ value_threatens v
unfolding negated expr_threatens
negated_threatens at v w h = (let e = then_yes (operand_of Boolean at v) _ w h in ap value_threatens
    (sym (inside_yes _ w e.2)) ∙ sym (operand_is Boolean at v e.0 e.1))

pub first_term_threatens : (c : Context) (Γ : List Region) (at : ℕ) (s : Option (Sign × Span)) (v w : Value)
    → first_term c Γ at s v ≡ Yes w → value_threatens w ≡ value_threatens v
unfolding first_term
first_term_threatens c Γ at None v w h = ap value_threatens (sym (inside_yes v w h))
first_term_threatens c Γ at (Some s) v w h = sign_threatens at s.0 (line_in c.text s.1.from) v w h

-- for both operands
abbrev both_of : Value → Value → Value → Type 0
both_of v w x = value_threatens x ≡ value_threatens v ++ value_threatens w

two : (a b c d : Threatened) → a ≡ c → b ≡ d → a ++ b ≡ c ++ d
two a b c d e f = ap (λ l. l ++ b) e ∙ ap (λ l. c ++ l) f

arithmetic_both : (at : Operands) (operator : ArithmeticOperator) (line : ℕ) (v w x : Value)
    → arithmetic at operator line v w ≡ Yes x → both_of v w x
unfolding arithmetic
arithmetic_both at operator line v w x h =
    let a = then_yes (operand_of Integer at.first v) _ x h in
    let b = then_yes (operand_of Integer at.second w) _ x a.2 in
    ap value_threatens (sym (inside_yes _ x b.2)) ∙ calculated_threatens operator line a.0 b.0
    ∙ two (expr_threatens a.0) (expr_threatens b.0) (value_threatens v) (value_threatens w)
    (sym (operand_is Integer at.first v a.0 a.1)) (sym (operand_is Integer at.second w b.0 b.1))

logic_both : (at : Operands) (operator : BooleanOperator) (v w x : Value) → logic at operator v w ≡ Yes x
    → both_of v w x
unfolding logic
logic_both at operator v w x h =
    let a = then_yes (operand_of Boolean at.first v) _ x h in
    let b = then_yes (operand_of Boolean at.second w) _ x a.2 in
    ap value_threatens (sym (inside_yes _ x b.2)) ∙ connected_threatens operator a.0 b.0
    ∙ two (expr_threatens a.0) (expr_threatens b.0) (value_threatens v) (value_threatens w)
    (sym (operand_is Boolean at.first v a.0 a.1)) (sym (operand_is Boolean at.second w b.0 b.1))

arithmetic_or_set_both : (at : Operands) (operator : ArithmeticOperator) (sets : SetOperator) (line : ℕ) (v w x : Value)
    → arithmetic_or_set at operator sets line v w ≡ Yes x → both_of v w x
unfolding arithmetic_or_set
arithmetic_or_set_both at operator sets line (SetValue a s) (SetValue b t) x h = ap value_threatens
    (sym (provided_yes (is_compatible s t) WrongType at.second _ x h).1) ∙ combined_threatens sets a b
arithmetic_or_set_both at operator sets line (SetValue a s) (SimpleValue b t) x h = absurd (no_yes h)
arithmetic_or_set_both at operator sets line (SetValue a s) (StructureValue b t) x h = absurd (no_yes h)
arithmetic_or_set_both at operator sets line (SimpleValue a s) w x h = arithmetic_both at operator line
    (SimpleValue a s) w x h
arithmetic_or_set_both at operator sets line (StructureValue a s) w x h = arithmetic_both at operator line
    (StructureValue a s) w x h

pub added_both : (at : Operands) (operator : Adding) (line : ℕ) (v w x : Value) → added at operator line v w ≡ Yes x
    → both_of v w x
unfolding added
added_both at adding.Plus line v w x h = arithmetic_or_set_both at Add Union line v w x h
added_both at adding.Minus line v w x h = arithmetic_or_set_both at Subtract Difference line v w x h
added_both at adding.Or line v w x h = logic_both at Or v w x h

pub multiplied_both : (at : Operands) (operator : Multiplying) (line : ℕ) (v w x : Value)
    → multiplied at operator line v w ≡ Yes x → both_of v w x
unfolding multiplied
multiplied_both at multiplying.Times line v w x h = arithmetic_or_set_both at Multiply Intersection line v w x h
multiplied_both at multiplying.Div line v w x h = arithmetic_both at Div line v w x h
multiplied_both at multiplying.Mod line v w x h = arithmetic_both at Mod line v w x h
multiplied_both at multiplying.And line v w x h = logic_both at And v w x h

-- ---- relations

related_so : {R : Type 0} (at : ℕ) (o : Option R) (make : R → Tree.Expr) (x : Value) (b : Threatened)
    → ((r : R) → expr_threatens (make r) ≡ b) → related at o make ≡ Yes x → value_threatens x ≡ b
related_so at None make x b same h = absurd (no_yes h)
related_so at (Some r) make x b same h = ap value_threatens (sym (inside_yes _ x h)) ∙ same r

together_so : {R : Type 0} (at : Operands) (relation : Relational) (first : DataType) (fit : Bool) (o : Option R)
    (make : R → Tree.Expr) (x : Value) (b : Threatened) → ((r : R) → expr_threatens (make r) ≡ b)
    → together at relation first fit o make ≡ Yes x → value_threatens x ≡ b
together_so at relation first fit None make x b same h = absurd (no_yes h)
together_so at relation first true (Some r) make x b same h = ap value_threatens (sym (inside_yes _ x h)) ∙ same r
together_so at relation first false (Some r) make x b same h = absurd (no_yes h)

simple_both : (at : Operands) (relation : Relational) (a b : Tree.Expr) (type : DataType) (x : Value)
    → simple_comparison at relation a b type ≡ Yes x → value_threatens x ≡ expr_threatens a ++ expr_threatens b
unfolding simple_comparison expr_threatens
simple_both at relation a b (OrdinalType o) x h = related_so at.second (ordered relation) _ x _ (λ r. refl) h
simple_both at relation a b type x h = related_so at.first (of_pointers relation) _ x _ (λ r. refl) h

pub compared_both : (at : Operands) (relation : Relational) (v w x : Value) → compared at relation v w ≡ Yes x
    → both_of v w x
unfolding compared expr_threatens
compared_both at relation (SimpleValue a s) (SimpleValue b t) x h = by (is_compatible s t) h
  where
    by : (fit : Bool) → (if fit then simple_comparison at relation a b s else unlike at relation s) ≡ Yes x
        → value_threatens x ≡ expr_threatens a ++ expr_threatens b
    by true g = simple_both at relation a b s x g
    by false g = absurd (no_yes g)
compared_both at relation (SimpleValue a s) (SetValue b t) x h = by (is_in relation) h
  where
    by : (fit : Bool) → (if fit then provided (may_be_member s t) WrongType at.first
        (SimpleValue (Tree.In a b) (OrdinalType boolean)) else unlike at relation s) ≡ Yes x → value_threatens x
        ≡ expr_threatens a ++ set_threatens b
    by true g = ap value_threatens (sym (provided_yes (may_be_member s t) WrongType at.first _ x g).1)
    by false g = absurd (no_yes g)
compared_both at relation (SetValue a s) (SetValue b t) x h = together_so at relation s (is_compatible s t)
    (of_sets relation) _ x _ (λ r. refl) h
compared_both at relation (StructureValue a s) (StructureValue b t) x h = together_so at relation s
    (are_same (string_length s) (string_length t)) (ordered relation) _ x _ (λ r. refl) h
compared_both at relation v w x h = absurd (no_yes h)

-- ---- variables

pub variable_none : (at : ℕ) (p : Point) (v : Variable) → variable_at at p ≡ Yes v → place_threatens v.place ≡ []
unfolding variable_at place_threatens selectors_threaten
variable_none at (BlockPoint up (VariableMeaning entry type)) v h = ap (λ (z : Variable). place_threatens z.place)
    (sym (inside_yes _ v h))
variable_none at (BlockPoint up (ParameterMeaning entry type)) v h = ap (λ (z : Variable). place_threatens z.place)
    (sym (inside_yes _ v h))
variable_none at (FieldPoint which record_type number type) v h = ap (λ (z : Variable). place_threatens z.place)
    (sym (inside_yes _ v h))
variable_none at p v h = absurd (no_yes h)

index_is : (at : ℕ) (o : Ordinal) (v : Value) (e : Tree.Expr) → index_operand at o v ≡ Yes e → value_threatens v
    ≡ expr_threatens e
unfolding index_operand
index_is at o (SimpleValue x type) e h = ap expr_threatens
    (provided_yes (is_compatible type (OrdinalType o)) WrongType at x e h).1
index_is at o v e h = absurd (no_yes h)

pub element_both : (at : Operands) (p : Tree.Place) (type : DataType) (v : Value) (line : ℕ) (w : Variable)
    → element at p type v line ≡ Yes w → place_threatens w.place ≡ place_threatens p ++ value_threatens v
unfolding element selector_threatens
element_both at p (ArrayType a packed index c) v line w h =
    let e = then_yes (index_operand at.second index v) _ w h in
    ap (λ (z : Variable). place_threatens z.place) (sym (inside_yes _ w e.2)) ∙ selected_threatens p
    (Tree.Element (ArrayType a packed index c) e.0 line) ∙ ap (λ l. place_threatens p ++ l)
    (sym (index_is at.second index v e.0 e.1))
element_both at p type v line w h = absurd (no_yes h)

pub component_same : (first at : ℕ) (p : Tree.Place) (type : DataType) (name : List ℕ) (w : Variable)
    → component first at p type name ≡ Yes w → place_threatens w.place ≡ place_threatens p
unfolding component selector_threatens
component_same first at p (RecordType a packed fields) name w h = by (field_in fields name) h
  where
    by : (o : Option (ℕ × DataType)) → field_of at p (RecordType a packed fields) o ≡ Yes w → place_threatens w.place
        ≡ place_threatens p
    by None g = absurd (no_yes g)
    by (Some f) g = ap (λ (z : Variable). place_threatens z.place) (sym (inside_yes _ w g)) ∙ selected_threatens p
        (Tree.Field (RecordType a packed fields) f.0) ∙ append-nil (place_threatens p)
component_same first at p type name w h = absurd (no_yes h)

pub target_same : (first : ℕ) (domains : List DataType) (p : Tree.Place) (type : DataType) (line : ℕ) (w : Variable)
    → target first domains p type line ≡ Yes w → place_threatens w.place ≡ place_threatens p
unfolding target selector_threatens
target_same first domains p (PointerType n) line w h =
    let t = then_yes (some_or WrongType first (slice_get domains n)) _ w h in
    ap (λ (z : Variable). place_threatens z.place) (sym (inside_yes _ w t.2)) ∙ selected_threatens p
    (Tree.Target n line) ∙ append-nil (place_threatens p)
target_same first domains p type line w h = absurd (no_yes h)
