-- Small expressions judged: tests of the definitions, with values and places worked out by hand.
use Rattle.std.proofs.Common.{◌≡◌, ℕ, suc, List, [], ◌∷◌, Some, None, pos, true, false, refl, ap, ◌∙◌}
use Rattle.ps_text.specs.declared.Span.{Span}
use Rattle.ps_syntax.specs.First.{first_of_term, first_of_simple}
use Rattle.ps_syntax.specs.declared.expression.Expr.{Expr}
use Rattle.ps_syntax.specs.declared.expression.Factor.{Factor}
use Rattle.ps_syntax.specs.declared.expression.Member.{Member}
use Rattle.ps_syntax.specs.declared.expression.Selector.{Selector}
use Rattle.ps_syntax.specs.declared.expression.MultipliedFactor.{MultipliedFactor}
use Rattle.ps_syntax.specs.declared.expression.Simple.{Simple, roll-Simple, out-roll-Simple}
use Rattle.ps_syntax.specs.declared.expression.Term.{Term, roll-Term, out-roll-Term}
use Rattle.ps_syntax.specs.declared.expression.AddedTerm.{AddedTerm, roll-AddedTerm, out-roll-AddedTerm}
use Rattle.ps_syntax.specs.declared.expression.Variable as v
use Rattle.ps_syntax.specs.declared.expression.Adding.TheVariants.{Plus}
use Rattle.ps_syntax.specs.declared.expression.Relational.TheVariants.{Equal, Less}
use Rattle.ps_syntax.specs.declared.expression.Expr.TheOpen.{Simple-F, Term-F, AddedTerm-F}
use Rattle.ps_syntax.specs.declared.expression.Expr.TheVariants as e
use Rattle.ps_syntax.specs.declared.expression.Factor.TheVariants as f
use Rattle.ps_tree.specs.declared.tree.operators.ArithmeticOperator.TheVariants.{Add, Subtract}
use Rattle.ps_tree.specs.declared.tree.operators.BooleanOperator.TheVariants.{And, Or}
use Rattle.ps_tree.specs.Types.{OrdinalType, EmptySetType, ArrayType, is_compatible, is_same_type}
use Rattle.ps_tree.specs.Tree as Tree
use Rattle.ps_check_judgement.specs.declared.change.Change.{Change}
use Rattle.ps_check_judgement.specs.declared.refusal.Rule.TheVariants.{Unknown, UsedBefore, WrongType, ControlVariable}
use Rattle.ps_check_judgement.specs.declared.refusal.Rule.TheVariants.{PackedVariable, NotCongruous, NoInputOutput}
use Rattle.ps_check_judgement.specs.Judged as j
use Rattle.ps_check_judgement.specs.Judged.{Judged, Yes, No}
use Rattle.ps_check_judgement.specs.Changing.{Changing, ◌>>=◌, same, still, through}
use Rattle.ps_check_names.specs.Spelling.{line_in}
use Rattle.ps_check_names.specs.Constants.{integer, char, boolean, number_at}
use Rattle.ps_check_names.specs.declared.meaning.Required.TheVariants as required
use Rattle.ps_check_names.specs.Regions.{Context, Region, BlockRegion, BlockPoint, ConstantMeaning, find, find_past}
use Rattle.ps_check_expressions.specs.Values.{Value, SimpleValue, SetValue}
use Rattle.ps_tree.specs.Chains.{selector_after, selected, arithmetic_step_after, calculated, connected}
use Rattle.ps_check_expressions.specs.Operators.{operand_of, negated, added, arithmetic_or_set, arithmetic}
use Rattle.ps_check_expressions.specs.Operators.{may_be_first, compared}
use Rattle.ps_check_expressions.specs.Places.{element, index_operand}
use Rattle.ps_check_expressions.specs.Calls.{by_variable, look, standing_alone}
use Rattle.ps_check_expressions.specs.Changed.{changed_entry, changed, first_at}
use Rattle.ps_check_expressions.specs.Expressions.{operands, constant_value, first_term, gathered, set_value, operand}
use Rattle.ps_check_expressions.specs.Expressions.{factor_operand, multiply_factor, add_term, term_operand}
use Rattle.ps_check_expressions.proofs.Equations.{operand_simple, factor_number, factor_not, add_term_is}
use Rattle.ps_check_expressions.proofs.Judgement.{simple_value, term_value}

-- ---- parts of the judgement

abbrev one : Value
one = SimpleValue (Tree.Number (pos 1)) (OrdinalType integer)

abbrev letter : Value
letter = SimpleValue (Tree.Number (pos 97)) (OrdinalType char)

abbrev truth : Value
truth = SimpleValue Tree.Eof (OrdinalType boolean)

-- `[1, 'a']` has members of two host types; the second is reported
mixed_set : set_value (record {
  first = 1;
  member = same (Tree.One (Tree.Number (pos 1)) 1, integer);
} ∷ record {
  first = 4;
  member = same (Tree.One (Tree.Number (pos 97)) 1, char);
} ∷ []) [] ≡ No WrongType 4
unfolding gathered
mixed_set = refl

-- the fourth entry of the routine itself
abbrev a : Tree.Place
a = Tree.Variable (Tree.Entry 0 4) Tree.no_selector

-- `a[1]` on line 2, where `a` is a packed array of char with an integer index
element_at : element (operands 0 2) a (ArrayType 9 true integer (OrdinalType char)) one 2
    ≡ Yes (record {
      place = Tree.Variable (Tree.Entry 0 4) (Tree.selector_before
          (Tree.Element (ArrayType 9 true integer (OrdinalType char)) (Tree.Number (pos 1)) 2) Tree.no_selector);
      type = OrdinalType char;
      in_packed = true;
    })
unfolding element index_operand is_compatible selector_after
element_at = refl

-- `a['a']` is reported at the index, and where `a` is a char, `a[1]` at `a`
wrong_index : element (operands 0 2) a (ArrayType 9 true integer (OrdinalType char)) letter 2 ≡ No WrongType 2
unfolding element index_operand is_compatible
wrong_index = refl

no_array : element (operands 0 2) a (OrdinalType char) one 2 ≡ No WrongType 0
unfolding element
no_array = refl

-- `a^^` has two selectors, in the order of the text
two_selectors : selected (selected a (Tree.Target 1 2)) (Tree.Target 3 4)
    ≡ Tree.Variable (Tree.Entry 0 4) (Tree.selector_before (Tree.Target 1 2)
    (Tree.selector_before (Tree.Target 3 4) Tree.no_selector))
unfolding selector_after
two_selectors = refl

-- `1 + 2 - 3`, with its operators on the lines 1 and 2, is a chain of two steps
longer_sum : calculated Subtract 2 (calculated Add 1 (Tree.Number (pos 1)) (Tree.Number (pos 2))) (Tree.Number (pos 3))
    ≡ Tree.Arithmetic (Tree.Number (pos 1)) (Tree.arithmetic_step_before Add (Tree.Number (pos 2)) 1
    (Tree.arithmetic_step_before Subtract (Tree.Number (pos 3)) 2 Tree.no_arithmetic_step))
unfolding calculated arithmetic_step_after
longer_sum = refl

-- a chain of `and`s is the first operand of an `or`
mixed_operators : connected Or (connected And Tree.Eof Tree.Eof) Tree.Eof
    ≡ Tree.Logic Or (Tree.Logic And Tree.Eof (Tree.operand_before Tree.Eof Tree.no_operand))
    (Tree.operand_before Tree.Eof Tree.no_operand)
unfolding connected
mixed_operators = refl

-- of two operands that are both wrong the first is reported
both_wrong : added (operands 0 6) Plus 1 truth truth ≡ No WrongType 0
unfolding added arithmetic_or_set arithmetic operand_of
both_wrong = refl

-- `1 = 'a'` is reported at the second operand, and `[] < []` at the first, since no set is allowed before `<`
unlike_operands : compared (operands 0 4) Equal one letter ≡ No WrongType 4
unfolding compared may_be_first is_compatible
unlike_operands = refl

less_of_sets : compared (operands 0 5) Less (SetValue (Tree.Constructor Tree.no_member) EmptySetType)
    (SetValue (Tree.Constructor Tree.no_member) EmptySetType) ≡ No WrongType 0
unfolding compared may_be_first
less_of_sets = refl

-- a component of a packed variable is not a variable parameter, but any other variable of the type is
packed_argument : by_variable 7 (OrdinalType char) (record {
  place = a;
  type = OrdinalType char;
  in_packed = true;
}) ≡ No PackedVariable 7
unfolding by_variable is_same_type
packed_argument = refl

argument : by_variable 7 (OrdinalType char) (record {
  place = a;
  type = OrdinalType char;
  in_packed = false;
}) ≡ Yes (Tree.ByVariable a)
unfolding by_variable is_same_type
argument = refl

-- eof alone looks at the input, which has to be listed; abs alone is not a call
no_input : standing_alone 3 false (look required.Eof 1) ≡ No NoInputOutput 3
unfolding look
no_input = refl

abs_alone : standing_alone 3 true (look required.Abs 1) ≡ No NotCongruous 3
unfolding look
abs_alone = refl

-- `a` comes before the place, `b` after it, and `c` nowhere
abbrev names_at : List Region
names_at = BlockRegion 1 ((97 ∷ []) ∷ (98 ∷ []) ∷ []) (ConstantMeaning integer (pos 7) ∷ []) ∷ []

earlier_name : find names_at (97 ∷ []) 5 ≡ Yes (BlockPoint 0 (ConstantMeaning integer (pos 7)))
unfolding find_past
earlier_name = refl

later_name : find names_at (98 ∷ []) 5 ≡ No UsedBefore 5
unfolding find_past
later_name = refl

no_name : find names_at (99 ∷ []) 5 ≡ No Unknown 5
unfolding find_past
no_name = refl

-- ---- changes

-- within a `for` whose control variable is the fourth entry
abbrev within_for : Context
within_for = record { text = []; domains = []; has_input = false; has_output = false; controls = 4 ∷ []; inner = [] }

-- it is threatened at its place
threat : changed within_for a 9 [] ≡ No ControlVariable 9
unfolding changed changed_entry
threat = refl

-- the fourth entry of the block outside is another variable
outer_change : changed within_for (Tree.Variable (Tree.Entry 1 4) Tree.no_selector) 9 [] ≡ Yes (
  tt,
  record {
    up = 1;
    entry = 4;
    at = 9;
  } ∷ [],
)
unfolding changed changed_entry
outer_change = refl

-- a component is not a whole variable
part_change : changed within_for (Tree.Variable (Tree.Entry 0 4)
    (Tree.selector_before (Tree.Target 1 2) Tree.no_selector)) 9 [] ≡ Yes (tt, [])
unfolding changed
part_change = refl

-- the first change of the own entry
first_change : first_at 4 (record {
  up = 1;
  entry = 4;
  at = 2;
} ∷ record {
  up = 0;
  entry = 4;
  at = 7;
} ∷ record {
  up = 0;
  entry = 4;
  at = 9;
} ∷ []) ≡ Some 7
unfolding first_at
first_change = refl

-- ---- trees

abbrev number_value : Context → Span → Value
number_value c at = SimpleValue (Tree.Number (number_at c.text at)) (OrdinalType integer)

abbrev plus : Span → Term → AddedTerm-F Expr Factor Member Selector AddedTerm MultipliedFactor Simple Term v.Variable
plus at x = record { operator = Plus; at = at; term = x }

abbrev unsigned : Term → List AddedTerm → Simple-F Expr Factor Member Selector AddedTerm MultipliedFactor Simple Term
    v.Variable
unsigned x more = record { sign = None; first = x; more = more }

abbrev only : Factor → Term-F Expr Factor Member Selector AddedTerm MultipliedFactor Simple Term v.Variable
only x = record { first = x; more = [] }

abbrev number_alone : Span → Term
number_alone at = roll-Term (only (f.Number at))

module _ (c : Context) (Γ : List Region) where
  number : (at : Span) → (factor_operand c Γ (f.Number at)).value ≡ same (number_value c at)
  unfolding constant_value
  number at = ap (λ x. x.value) (factor_number c Γ at)

  -- `not 1` is reported at 1
  not_number : (at n : Span) (cs : List Change) → (factor_operand c Γ (f.Not at (f.Number n))).value cs
      ≡ No WrongType n.from
  unfolding negated operand_of
  not_number at n cs = ap (λ x. x.value cs) (factor_not c Γ at (f.Number n))
      ∙ ap (λ (m : Changing Value). (m >>= (λ v. still (negated (factor_operand c Γ (f.Number n)).first v))) cs)
      (number n)
      ∙ ap (λ x. still (negated x.first (number_value c n)) cs) (factor_number c Γ n)

  number_term : (at : Span) → (term_operand c Γ (number_alone at)).value ≡ same (number_value c at)
  number_term at = term_value c Γ (number_alone at)
      ∙ ap (λ (t : Term-F Expr Factor Member Selector AddedTerm MultipliedFactor Simple Term v.Variable).
      (factor_operand c Γ t.first).value >>= (λ v. through
      (λ v f. multiply_factor c Γ f (first_of_term (number_alone at)) v) v t.more))
      (out-roll-Term (only (f.Number at)))
      ∙ ap (λ (m : Changing Value). m >>= (λ v. through
      (λ v f. multiply_factor c Γ f (first_of_term (number_alone at)) v) v [])) (number at)

  abbrev sum_value : (m at n : Span) → Value
  sum_value m at n = SimpleValue (Tree.Arithmetic (Tree.Number (number_at c.text m))
      (Tree.arithmetic_step_before Add (Tree.Number (number_at c.text n))
      (line_in c.text at.from) Tree.no_arithmetic_step)) (OrdinalType integer)

  added_number : (first : ℕ) (m at n : Span) → add_term c Γ (roll-AddedTerm (plus at (number_alone n))) first
      (number_value c m) ≡ same (sum_value m at n)
  unfolding added arithmetic_or_set arithmetic operand_of calculated
  added_number first m at n = add_term_is c Γ (roll-AddedTerm (plus at (number_alone n))) first (number_value c m)
      ∙ ap (λ (t : AddedTerm-F Expr Factor Member Selector AddedTerm MultipliedFactor Simple Term v.Variable).
      (term_operand c Γ t.term).value >>= (λ w. still
      (added (operands first (term_operand c Γ t.term).first) t.operator (line_in c.text t.at.from)
      (number_value c m) w))) (out-roll-AddedTerm (plus at (number_alone n)))
      ∙ ap (λ (k : Changing Value). k >>= (λ w. still
      (added (operands first (term_operand c Γ (number_alone n)).first) Plus (line_in c.text at.from)
      (number_value c m) w))) (number_term n)

  abbrev sum_tree : (m at n : Span) → Simple-F Expr Factor Member Selector AddedTerm MultipliedFactor Simple Term
      v.Variable
  sum_tree m at n = unsigned (number_alone m) (roll-AddedTerm (plus at (number_alone n)) ∷ [])

  abbrev sum_terms : (first : ℕ) → List AddedTerm → Value → Changing Value
  sum_terms first more v = through (λ v a. add_term c Γ a first v) v more

  -- `1 + 2` is an integer
  sum_is : (m at n : Span) → (operand c Γ (e.Simple (roll-Simple (sum_tree m at n)))).value ≡ same (sum_value m at n)
  unfolding first_term
  sum_is m at n = ap (λ x. x.value) (operand_simple c Γ (roll-Simple (sum_tree m at n))) ∙ simple_value c Γ
      (roll-Simple (sum_tree m at n))
      ∙ ap (λ (t : Simple-F Expr Factor Member Selector AddedTerm MultipliedFactor Simple Term v.Variable).
      (term_operand c Γ t.first).value >>= (λ v. still (first_term c Γ (first_of_term t.first) t.sign v))
      >>= sum_terms (first_of_simple (roll-Simple (sum_tree m at n))) t.more) (out-roll-Simple (sum_tree m at n))
      ∙ ap (λ (k : Changing Value). k >>= (λ v. still (first_term c Γ (first_of_term (number_alone m)) None v))
      >>= sum_terms (first_of_simple (roll-Simple (sum_tree m at n))) (sum_tree m at n).more) (number_term m)
      ∙ ap {B = Changing Value} (λ (k : Changing Value) cs. j.◌>>=◌ (k cs) (λ p. Yes p))
      (added_number (first_of_simple (roll-Simple (sum_tree m at n))) m at n)

-- the text `1+2`
abbrev text : Context
text = record {
  text = 49 ∷ 43 ∷ 50 ∷ [];
  domains = [];
  has_input = false;
  has_output = false;
  controls = [];
  inner = [];
}

abbrev token : ℕ → Span
token n = record { from = n; to = suc n }

-- its value is the tree of 1 + 2 on line 1, and it changes nothing
sum : (operand text [] (e.Simple (roll-Simple (sum_tree text [] (token 0) (token 1) (token 2))))).value []
    ≡ Yes (
      SimpleValue (Tree.Arithmetic (Tree.Number (pos 1))
          (Tree.arithmetic_step_before Add (Tree.Number (pos 2)) 1 Tree.no_arithmetic_step)) (OrdinalType integer),
      [],
    )
sum = ap (λ (m : Changing Value). m []) (sum_is text [] (token 0) (token 1) (token 2))
