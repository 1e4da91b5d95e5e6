-- The typing of variables and expressions (6.5, 6.7): a value for each part of the tree, given the values of the parts
-- in it.
use Rattle.std.specs.Prelude.{ℕ, nat_le, List, [], ◌∷◌, ◌++◌, length, Option, Some, None}
use Rattle.ps_text.specs.declared.Span.{Span}
use Rattle.ps_scan.specs.Values.{characters}
use Rattle.ps_syntax.specs.First.{sign_or}
use Rattle.ps_syntax.specs.declared.expression.Relational.{Relational}
use Rattle.ps_syntax.specs.declared.expression.Sign.{Sign}
use Rattle.ps_syntax.specs.declared.expression.Expr.{Expr}
use Rattle.ps_syntax.specs.declared.expression.Factor.{Factor}
use Rattle.ps_syntax.specs.declared.expression.Member as syntax
use Rattle.ps_syntax.specs.declared.expression.Selector.{Selector}
use Rattle.ps_syntax.specs.declared.expression.AddedTerm.{AddedTerm}
use Rattle.ps_syntax.specs.declared.expression.MultipliedFactor.{MultipliedFactor}
use Rattle.ps_syntax.specs.declared.expression.Simple.{Simple}
use Rattle.ps_syntax.specs.declared.expression.Term.{Term}
use Rattle.ps_syntax.specs.declared.expression.Variable as syntax_variable
use Rattle.ps_syntax.specs.declared.expression.Expr.TheOpen.{Expr-F, Factor-F, Member-F, Selector-F, AddedTerm-F}
use Rattle.ps_syntax.specs.declared.expression.Expr.TheOpen.{MultipliedFactor-F, Simple-F, Term-F, Variable-F}
use Rattle.ps_syntax.specs.declared.expression.Expr.TheFolds.{fold-Expr, fold-Factor, fold-Member, fold-Selector}
use Rattle.ps_syntax.specs.declared.expression.Expr.TheFolds.{fold-AddedTerm, fold-MultipliedFactor, fold-Simple}
use Rattle.ps_syntax.specs.declared.expression.Expr.TheFolds.{fold-Term, fold-Variable}
use Rattle.ps_tree.specs.declared.types.Ordinal.{Ordinal}
use Rattle.ps_tree.specs.declared.types.Packing.TheVariants.{Either}
use Rattle.ps_tree.specs.Types.{OrdinalType, NilType, SetType, EmptySetType, TextType, is_same_host}
use Rattle.ps_tree.specs.Tree as Tree
use Rattle.ps_check_judgement.specs.declared.refusal.Rule.TheVariants.{WrongKind, WrongType}
use Rattle.ps_check_judgement.specs.Judged as j
use Rattle.ps_check_judgement.specs.Judged.{Judged, Yes, No, provided}
use Rattle.ps_check_judgement.specs.Changing.{Changing, ◌>>=◌, same, still, through}
use Rattle.ps_check_names.specs.Spelling.{bytes_at, line_in, spelled}
use Rattle.ps_check_names.specs.Regions.{Context, Region, Point, BlockPoint, FieldPoint, ConstantMeaning, TextMeaning}
use Rattle.ps_check_names.specs.Regions.{VariableMeaning, ParameterMeaning}
use Rattle.ps_check_expressions.specs.declared.operators.Operands.{Operands}
use Rattle.ps_check_expressions.specs.Values.{Value, SimpleValue, SetValue, StructureValue, Variable, Operand, plain}
use Rattle.ps_check_expressions.specs.Values.{ordinal_of, loaded, member_list}
use Rattle.ps_check_names.specs.Constants.{integer, ConstantValue, OrdinalConstant, TextConstant, number_at}
use Rattle.ps_check_names.specs.Constants.{text_constant}
use Rattle.ps_check_expressions.specs.Operators.{with_sign, negated, added, multiplied, compared}
use Rattle.ps_check_expressions.specs.Names.{denoted}
use Rattle.ps_check_expressions.specs.Places.{variable_at, element, component, target}
use Rattle.ps_check_expressions.specs.Calls.{called}

-- ---- what the steps are made of

-- the value of a constant at `at`; a string has at most 4294967295 characters (no text of 1,048,576 bytes comes near)
unfoldable pub constant_value : (at : ℕ) → ConstantValue → Judged Value
constant_value at (OrdinalConstant o n) = Yes (SimpleValue (Tree.Number n) (OrdinalType o))
constant_value at (TextConstant w) = provided (nat_le (length w) 4294967295) WrongType at
    (StructureValue (Tree.Literal w) (TextType (length w)))

-- what is used alone, with no sign before it and nothing after it, or otherwise something else
abbrev pub alone : {A B : Type 0} → B → Option (Sign × Span) → List A → B → B
alone other None [] x = x
alone other None (a ∷ more) x = other
alone other (Some s) more x = other

-- what comes after a variable or a value that begins at an offset: what it selects or makes of it
abbrev pub Step : Type 0 → Type 0
Step A = (first : ℕ) → A → Changing A

-- one after the other
abbrev pub all_steps : {A : Type 0} → (first : ℕ) → List (Step A) → A → Changing A
all_steps first fs x = through (λ y f. f first y) x fs

-- where two operands begin
abbrev pub operands : (first second : ℕ) → Operands
operands first second = record { first = first; second = second }

-- a member: its tree and its ordinal type
abbrev pub TypedMember : Type 0
TypedMember = Tree.Member × Ordinal

-- where it begins, and what it is
pub record SeenMember : Type 0 where
  pub first : ℕ
  pub member : Changing TypedMember

abbrev pub single : (at : ℕ) → Value → ℕ → Judged TypedMember
single at v line = j.◌>>=◌ (ordinal_of at v) (λ a. Yes (Tree.One a.0 line, a.1))

abbrev pub both : (at : ℕ) → Tree.Expr × Ordinal → Tree.Expr × Ordinal → ℕ → Judged TypedMember
both at a b line = provided (is_same_host a.1.host b.1.host) WrongType at (Tree.Several a.0 b.0 line, a.1)

abbrev pub several : Operands → Value → Value → ℕ → Judged TypedMember
several at v w line = j.◌>>=◌ (ordinal_of at.first v)
    (λ a. j.◌>>=◌ (ordinal_of at.second w) (λ b. both at.second a b line))

-- the members so far, and the type of the first
abbrev pub Gathered : Type 0
Gathered = List Tree.Member × Option Ordinal

-- 6.7.1: the members have one host type
unfoldable pub gathered : (at : ℕ) → Gathered → TypedMember → Judged Gathered
gathered at (ms, None) (m, o) = Yes (ms ++ m ∷ [], Some o)
gathered at (ms, Some p) (m, o) = provided (is_same_host p.host o.host) WrongType at (ms ++ m ∷ [], Some p)

unfoldable pub constructed : Gathered → Value
constructed (ms, None) = SetValue (Tree.Constructor (member_list ms)) EmptySetType
constructed (ms, Some o) = SetValue (Tree.Constructor (member_list ms)) (SetType None Either o)

abbrev pub gather : Gathered → SeenMember → Changing Gathered
gather g x = x.member >>= (λ m. still (gathered x.first g m))

abbrev pub set_value : List SeenMember → Changing Value
set_value ms = through gather ([], None) ms >>= (λ g. same (constructed g))

-- 6.7.2.3: the negation of a value
abbrev pub negation : Operand → Changing Value
negation x = x.value >>= (λ v. still (negated x.first v))

module _ (c : Context) (Γ : List Region) where
  -- what a name at `at` alone denotes: a constant, the contents of a variable, or a function's value without actual
  -- parameters
  unfoldable pub standing : (at : ℕ) → Point → Changing Value
  standing at (BlockPoint up (ConstantMeaning o n)) = still (constant_value at (OrdinalConstant o n))
  standing at (BlockPoint up (TextMeaning w)) = still (constant_value at (TextConstant w))
  standing at (BlockPoint up (VariableMeaning entry type)) = still
      (j.◌>>=◌ (variable_at at (BlockPoint up (VariableMeaning entry type))) (loaded at))
  standing at (BlockPoint up (ParameterMeaning entry type)) = still
      (j.◌>>=◌ (variable_at at (BlockPoint up (ParameterMeaning entry type))) (loaded at))
  standing at (FieldPoint which record_type number type) = still
      (j.◌>>=◌ (variable_at at (FieldPoint which record_type number type)) (loaded at))
  standing at p = called c Γ at p []

  abbrev pub named_value : Span → Changing Value
  named_value name = still (denoted c Γ name) >>= standing name.from

  abbrev pub named_variable : Span → Changing Variable
  named_variable name = still (j.◌>>=◌ (denoted c Γ name) (variable_at name.from))

  -- a sign applies to the whole first term, which begins at `at`
  unfoldable pub first_term : (at : ℕ) → Option (Sign × Span) → Value → Judged Value
  first_term at None v = Yes v
  first_term at (Some s) v = with_sign at s.0 (line_in c.text s.1.from) v

  -- ---- the view of each part of the tree, given the views of the parts in it

  abbrev pub selected_variable : Span → List (Step Variable) → Changing Variable
  selected_variable name fs = named_variable name >>= all_steps name.from fs

  unfoldable pub variable_seen : Span → List (Step Variable) → Operand
  variable_seen name [] =
      record { first = name.from; value = named_value name; variable = named_variable name; name = Some name }
  variable_seen name (f ∷ fs) = record {
    first = name.from;
    value = selected_variable name (f ∷ fs) >>= (λ v. still (loaded name.from v));
    variable = selected_variable name (f ∷ fs);
    name = None;
  }

  unfoldable pub term_seen : Operand → List (Step Value) → Operand
  term_seen x more = record {
    first = x.first;
    value = x.value >>= all_steps x.first more;
    variable = alone (still (No WrongKind x.first)) None more x.variable;
    name = alone None None more x.name;
  }

  unfoldable pub simple_seen : Option (Sign × Span) → Operand → List (Step Value) → Operand
  simple_seen sign x more = record {
    first = sign_or sign x.first;
    value = x.value >>= (λ v. still (first_term x.first sign v)) >>= all_steps (sign_or sign x.first) more;
    variable = alone (still (No WrongKind (sign_or sign x.first))) sign more x.variable;
    name = alone None sign more x.name;
  }

  abbrev pub call_value : Span → List Operand → Changing Value
  call_value name xs = still (denoted c Γ name) >>= (λ p. called c Γ name.from p xs)

  abbrev pub comparison : Operand → Relational → Operand → Changing Value
  comparison x relation y = do
    a ← x.value
    b ← y.value
    still (compared (operands x.first y.first) relation a b)

  -- members from one value to another
  abbrev pub several_seen : Operand → Operand → Changing TypedMember
  several_seen x y = do
    v ← x.value
    w ← y.value
    still (several (operands x.first y.first) v w (line_in c.text x.first))

  -- an element of an array, which begins at `first`
  abbrev pub indexed : (first : ℕ) → Variable → Operand → Changing Variable
  indexed first v x = x.value >>= (λ index. still
      (element (operands first x.first) v.place v.type index (line_in c.text x.first)))

  unfoldable pub expr_step : Expr-F Operand Operand SeenMember (Step Variable) (Step Value)
      (Step Value) Operand Operand Operand → Operand
  expr_step (Expr-F.Simple x) = x
  expr_step (Expr-F.Compare x relation at y) = plain x.first (comparison x relation y)

  unfoldable pub simple_step : Simple-F Operand Operand SeenMember (Step Variable) (Step Value)
      (Step Value) Operand Operand Operand → Operand
  simple_step x = simple_seen x.sign x.first x.more

  unfoldable pub added_step : AddedTerm-F Operand Operand SeenMember (Step Variable) (Step Value)
      (Step Value) Operand Operand Operand → Step Value
  added_step x first v = x.term.value >>= (λ w. still
      (added (operands first x.term.first) x.operator (line_in c.text x.at.from) v w))

  unfoldable pub term_step : Term-F Operand Operand SeenMember (Step Variable) (Step Value)
      (Step Value) Operand Operand Operand → Operand
  term_step x = term_seen x.first x.more

  unfoldable pub multiplied_step : MultipliedFactor-F Operand Operand SeenMember (Step Variable) (Step Value)
      (Step Value) Operand Operand Operand → Step Value
  multiplied_step x first v = x.factor.value
      >>= (λ w. still (multiplied (operands first x.factor.first) x.operator (line_in c.text x.at.from) v w))

  unfoldable pub factor_step : Factor-F Operand Operand SeenMember (Step Variable) (Step Value)
      (Step Value) Operand Operand Operand → Operand
  factor_step (Factor-F.Variable x) = x
  factor_step (Factor-F.Call name xs) = plain name.from (call_value name xs)
  factor_step (Factor-F.Number at) = plain at.from
      (still (constant_value at.from (OrdinalConstant integer (number_at c.text at))))
  factor_step (Factor-F.Text at) = plain at.from
      (still (constant_value at.from (text_constant (characters (bytes_at c.text at)))))
  factor_step (Factor-F.Nil at) = plain at.from (same (SimpleValue Tree.Nil NilType))
  factor_step (Factor-F.Set at ms) = plain at.from (set_value ms)
  factor_step (Factor-F.Group at n x) = plain at.from x.value
  factor_step (Factor-F.Not at x) = plain at.from (negation x)

  unfoldable pub member_step : Member-F Operand Operand SeenMember (Step Variable) (Step Value)
      (Step Value) Operand Operand Operand → SeenMember
  member_step (Member-F.One x) =
      record { first = x.first; member = x.value >>= (λ v. still (single x.first v (line_in c.text x.first))) }
  member_step (Member-F.Range x y) = record { first = x.first; member = several_seen x y }

  -- several indices are those of nested arrays
  unfoldable pub selector_step : Selector-F Operand Operand SeenMember (Step Variable) (Step Value)
      (Step Value) Operand Operand Operand → Step Variable
  selector_step (Selector-F.Index xs) first v = through (indexed first) v xs
  selector_step (Selector-F.Field at) first v = still (component first at.from v.place v.type (spelled c.text at))
  selector_step (Selector-F.Content at) first v = still (target first c.domains v.place v.type (line_in c.text at.from))

  unfoldable pub variable_step : Variable-F Operand Operand SeenMember (Step Variable) (Step Value)
      (Step Value) Operand Operand Operand → Operand
  variable_step x = variable_seen x.name x.selectors

  -- ---- the judgement

  unfoldable pub operand : Expr → Operand
  operand = fold-Expr Operand Operand SeenMember (Step Variable) (Step Value)
      (Step Value) Operand Operand Operand expr_step factor_step member_step selector_step added_step multiplied_step
      simple_step term_step variable_step

  unfoldable pub factor_operand : Factor → Operand
  factor_operand = fold-Factor Operand Operand SeenMember (Step Variable) (Step Value)
      (Step Value) Operand Operand Operand expr_step factor_step member_step selector_step added_step multiplied_step
      simple_step term_step variable_step

  unfoldable pub member_at : syntax.Member → SeenMember
  member_at = fold-Member Operand Operand SeenMember (Step Variable) (Step Value)
      (Step Value) Operand Operand Operand expr_step factor_step member_step selector_step added_step multiplied_step
      simple_step term_step variable_step

  unfoldable pub select : Selector → Step Variable
  select = fold-Selector Operand Operand SeenMember (Step Variable) (Step Value)
      (Step Value) Operand Operand Operand expr_step factor_step member_step selector_step added_step multiplied_step
      simple_step term_step variable_step

  unfoldable pub add_term : AddedTerm → Step Value
  add_term = fold-AddedTerm Operand Operand SeenMember (Step Variable) (Step Value)
      (Step Value) Operand Operand Operand expr_step factor_step member_step selector_step added_step multiplied_step
      simple_step term_step variable_step

  unfoldable pub multiply_factor : MultipliedFactor → Step Value
  multiply_factor = fold-MultipliedFactor Operand Operand SeenMember (Step Variable) (Step Value)
      (Step Value) Operand Operand Operand expr_step factor_step member_step selector_step added_step multiplied_step
      simple_step term_step variable_step

  unfoldable pub simple_operand : Simple → Operand
  simple_operand = fold-Simple Operand Operand SeenMember (Step Variable) (Step Value)
      (Step Value) Operand Operand Operand expr_step factor_step member_step selector_step added_step multiplied_step
      simple_step term_step variable_step

  unfoldable pub term_operand : Term → Operand
  term_operand = fold-Term Operand Operand SeenMember (Step Variable) (Step Value)
      (Step Value) Operand Operand Operand expr_step factor_step member_step selector_step added_step multiplied_step
      simple_step term_step variable_step

  unfoldable pub variable_operand : syntax_variable.Variable → Operand
  variable_operand = fold-Variable Operand Operand SeenMember (Step Variable) (Step Value)
      (Step Value) Operand Operand Operand expr_step factor_step member_step selector_step added_step multiplied_step
      simple_step term_step variable_step
