-- Operators on what is known of their operands.
use Rattle.std.proofs.Common.{◌≡◌, ℕ, Bool, true, false, ◌||◌, ◌==◌, List, Option, Some, None, refl, sym, ◌∙◌, subst}
use Rattle.std.proofs.Common.{eqb-true}
use Rattle.ps_syntax.specs.declared.expression.Sign.{Sign}
use Rattle.ps_syntax.specs.declared.expression.Sign.TheVariants as sign
use Rattle.ps_syntax.specs.declared.expression.Adding.{Adding}
use Rattle.ps_syntax.specs.declared.expression.Adding.TheVariants as adding
use Rattle.ps_syntax.specs.declared.expression.Multiplying.{Multiplying}
use Rattle.ps_syntax.specs.declared.expression.Multiplying.TheVariants as multiplying
use Rattle.ps_syntax.specs.declared.expression.Relational.{Relational}
use Rattle.ps_tree.specs.declared.types.Host.{Host}
use Rattle.ps_tree.specs.declared.types.Host.TheVariants.{Integer, Boolean}
use Rattle.ps_tree.specs.declared.tree.operators.ArithmeticOperator.{ArithmeticOperator}
use Rattle.ps_tree.specs.declared.tree.operators.ArithmeticOperator.TheVariants.{Add, Subtract, Multiply, Div, Mod}
use Rattle.ps_tree.specs.declared.tree.operators.BooleanOperator.{BooleanOperator}
use Rattle.ps_tree.specs.declared.tree.operators.BooleanOperator.TheVariants.{And, Or}
use Rattle.ps_tree.specs.declared.tree.operators.SetOperator.{SetOperator}
use Rattle.ps_tree.specs.declared.tree.operators.SetOperator.TheVariants.{Union, Difference, Intersection}
use Rattle.ps_tree.specs.Types.{DataType, OrdinalType, PointerType, NilType, SetType, EmptySetType, is_same_host}
use Rattle.ps_tree.specs.Types.{are_same, is_same_type, is_compatible, string_length}
use Rattle.ps_tree.specs.Tree.{ArithmeticSteps, no_arithmetic_step, arithmetic_step_before, Operands, no_operand}
use Rattle.ps_tree.specs.Tree.{operand_before, SetSteps, no_set_step, set_step_before, Expr, Plus, Minus, Not}
use Rattle.ps_tree.specs.Tree.{Arithmetic, Logic, Compare, ComparePointers, CompareSets, CompareStrings, In, SetExpr}
use Rattle.ps_tree.specs.Tree.{Combine}
use Rattle.ps_lower_layout.specs.Shapes.{Shape}
use Rattle.ps_lower_layout.specs.Paths.{NumberSort, PointerSort}
use Rattle.ps_lower_code.specs.Scopes.{Scope}
use Rattle.ps_lower_code.specs.Fits.{ExprFits, StepsFit, OperandsFit, SetFits, SetStepsFit}
use Rattle.tac_code.specs.Sound.{IsLine}
use Rattle.ps_check_judgement.specs.Judged.{Yes, ◌>>=◌}
use Rattle.ps_check_judgement.proofs.Binds.{then_yes, provided_yes, if_yes, inside_yes, no_yes}
use Rattle.ps_check_judgement.proofs.Impossible.{never}
use Rattle.ps_check_names.specs.Constants.{integer, boolean}
use Rattle.ps_tree.specs.Chains.{arithmetic_step_after, calculated, operand_after, connected, set_step_after, combined}
use Rattle.ps_check_expressions.specs.Values.{Value, SimpleValue, SetValue, StructureValue, set_type_of_both}
use Rattle.ps_check_expressions.specs.declared.operators.Operands as places
use Rattle.ps_check_expressions.specs.Operators.{number, truth, operand_of, with_sign, negated, arithmetic}
use Rattle.ps_check_expressions.specs.Operators.{arithmetic_or_set, logic, added, multiplied, ordered, of_pointers}
use Rattle.ps_check_expressions.specs.Operators.{of_sets, related, simple_comparison, may_be_member, is_in, together}
use Rattle.ps_check_expressions.specs.Operators.{compared}
use Rattle.ps_lower_accepted.proofs.Strings.{same_length, string_fits}
use Rattle.ps_lower_accepted.proofs.Tables.{Table, OrdinalKnown}
use Rattle.ps_lower_accepted.proofs.Told.{SimpleTold, SetTold, ValueTold}

-- ---- the required types

pub integer_known : (D : Table) → OrdinalKnown D integer
integer_known D = record { low = refl; high = refl; rises = refl; host = tt; subrange = refl }

pub boolean_known : (D : Table) → OrdinalKnown D boolean
boolean_known D = record { low = refl; high = refl; rises = refl; host = tt; subrange = refl }

module _ (D : Table) (k : Scope) (os : List Shape) where
  pub number_told : (e : Expr) → ExprFits k os e NumberSort → ValueTold D k os (number e)
  number_told e f = (integer_known D, f)

  pub truth_told : (e : Expr) → ExprFits k os e NumberSort → ValueTold D k os (truth e)
  truth_told e f = (boolean_known D, f)

  -- ---- operands of a host type

  pub operand_told : (host : Host) (at : ℕ) (v : Value) (e : Expr) → ValueTold D k os v → operand_of host at v ≡ Yes e
      → ExprFits k os e NumberSort
  unfolding operand_of
  operand_told host at (SimpleValue x (OrdinalType o)) e h q = let p = provided_yes (is_same_host o.host host) _ _ x e q
      in subst (λ y. ExprFits k os y NumberSort) p.1 h.1
  operand_told host at (SimpleValue x (PointerType n)) e h q = absurd (no_yes q)
  operand_told host at (SimpleValue x NilType) e h q = absurd (no_yes q)
  operand_told host at (SimpleValue x type) e h q = absurd h
  operand_told host at (SetValue x type) e h q = absurd (no_yes q)
  operand_told host at (StructureValue x type) e h q = absurd (no_yes q)

  -- ---- signs and `not`

  pub sign_told : (at : ℕ) (s : Sign) (line : ℕ) → IsLine line → (v w : Value) → ValueTold D k os v
      → with_sign at s line v ≡ Yes w → ValueTold D k os w
  unfolding with_sign
  sign_told at sign.Plus line l v w h q =
      let a = then_yes (operand_of Integer at v) (λ e. Yes (number (Plus e))) w q in
      subst (ValueTold D k os) (inside_yes (number (Plus a.0)) w a.2)
      (number_told (Plus a.0) (refl, operand_told Integer at v a.0 h a.1))
  sign_told at sign.Minus line l v w h q =
      let a = then_yes (operand_of Integer at v) (λ e. Yes (number (Minus e line))) w q in
      subst (ValueTold D k os) (inside_yes (number (Minus a.0 line)) w a.2)
      (number_told (Minus a.0 line) (refl, operand_told Integer at v a.0 h a.1, l))

  pub negated_told : (at : ℕ) (v w : Value) → ValueTold D k os v → negated at v ≡ Yes w → ValueTold D k os w
  unfolding negated
  negated_told at v w h q =
      let a = then_yes (operand_of Boolean at v) (λ e. Yes (truth (Not e))) w q in
      subst (ValueTold D k os) (inside_yes (truth (Not a.0)) w a.2)
      (truth_told (Not a.0) (refl, operand_told Boolean at v a.0 h a.1))

  -- ---- chains

  steps_after : (steps : ArithmeticSteps) (operator : ArithmeticOperator) (e : Expr) (line : ℕ) → IsLine line
      → StepsFit k os steps → ExprFits k os e NumberSort → StepsFit k os
      (arithmetic_step_after steps operator e line)
  unfolding arithmetic_step_after
  steps_after no_arithmetic_step operator e line l h f = (f, tt, l)
  steps_after (arithmetic_step_before p first n rest) operator e line l h f =
      (h.0, steps_after rest operator e line l h.1 f, h.2)

  calculated_fits : (operator : ArithmeticOperator) (line : ℕ) → IsLine line → (a b : Expr)
      → ExprFits k os a NumberSort → ExprFits k os b NumberSort → ExprFits k os
      (calculated operator line a b) NumberSort
  unfolding calculated
  calculated_fits operator line l (Arithmetic first steps) b f g =
      (refl, f.1, steps_after steps operator b line l f.2 g)
  calculated_fits operator line l a b f g = (refl, f, (g, tt, l))

  operands_after : (rest : Operands) (e : Expr) → OperandsFit k os rest → ExprFits k os e NumberSort
      → OperandsFit k os (operand_after rest e)
  unfolding operand_after
  operands_after no_operand e h f = (f, tt)
  operands_after (operand_before first rest) e h f = (h.0, operands_after rest e h.1 f)

  connected_fits : (operator : BooleanOperator) (a b : Expr) → ExprFits k os a NumberSort → ExprFits k os b NumberSort
      → ExprFits k os (connected operator a b) NumberSort
  unfolding connected
  connected_fits And (Logic And first rest) b f g = (refl, f.1, operands_after rest b f.2 g)
  connected_fits Or (Logic Or first rest) b f g = (refl, f.1, operands_after rest b f.2 g)
  connected_fits operator a b f g = (refl, f, (g, tt))

  set_steps_after : (steps : SetSteps) (operator : SetOperator) (e : SetExpr) → SetStepsFit k os steps
      → SetFits k os e → SetStepsFit k os (set_step_after steps operator e)
  unfolding set_step_after
  set_steps_after no_set_step operator e h f = (f, tt)
  set_steps_after (set_step_before p first rest) operator e h f =
      (h.0, set_steps_after rest operator e h.1 f)

  combined_fits : (operator : SetOperator) (a b : SetExpr) → SetFits k os a → SetFits k os b → SetFits k os
      (combined operator a b)
  unfolding combined
  combined_fits operator (Combine first steps) b f g = (f.0, set_steps_after steps operator b f.1 g)
  combined_fits operator a b f g = (f, (g, tt))

  -- ---- operators on two operands

  arithmetic_told : (at : places.Operands) (operator : ArithmeticOperator) (line : ℕ) → IsLine line → (v w x : Value)
      → ValueTold D k os v → ValueTold D k os w → arithmetic at operator line v w ≡ Yes x → ValueTold D k os x
  unfolding arithmetic
  arithmetic_told at operator line l v w x h g q =
      let a = then_yes (operand_of Integer at.first v)
      (λ a. operand_of Integer at.second w >>= (λ b. Yes (number (calculated operator line a b)))) x q in
      let b = then_yes (operand_of Integer at.second w) (λ b. Yes (number (calculated operator line a.0 b))) x a.2 in
      subst (ValueTold D k os) (inside_yes (number (calculated operator line a.0 b.0)) x b.2)
      (number_told (calculated operator line a.0 b.0)
      (calculated_fits operator line l a.0 b.0 (operand_told Integer at.first v a.0 h a.1)
      (operand_told Integer at.second w b.0 g b.1)))

  logic_told : (at : places.Operands) (operator : BooleanOperator) (v w x : Value) → ValueTold D k os v
      → ValueTold D k os w → logic at operator v w ≡ Yes x → ValueTold D k os x
  unfolding logic
  logic_told at operator v w x h g q =
      let a = then_yes (operand_of Boolean at.first v)
      (λ a. operand_of Boolean at.second w >>= (λ b. Yes (truth (connected operator a b)))) x q in
      let b = then_yes (operand_of Boolean at.second w) (λ b. Yes (truth (connected operator a.0 b))) x a.2 in
      subst (ValueTold D k os) (inside_yes (truth (connected operator a.0 b.0)) x b.2)
      (truth_told (connected operator a.0 b.0)
      (connected_fits operator a.0 b.0 (operand_told Boolean at.first v a.0 h a.1)
      (operand_told Boolean at.second w b.0 g b.1)))

  pub set_fits : (e : SetExpr) (type : DataType) → SetTold D k os e type → SetFits k os e
  set_fits e (SetType d p b) h = h
  set_fits e EmptySetType h = h
  set_fits e type h = absurd h

  both_sets : (s t : DataType) (a b e : SetExpr) → SetTold D k os a s → SetTold D k os b t → SetFits k os e
      → SetTold D k os e (set_type_of_both s t)
  both_sets (SetType d p o) (SetType d' p' o') a b e h g f = f
  both_sets (SetType d p o) EmptySetType a b e h g f = f
  both_sets EmptySetType (SetType d p o) a b e h g f = f
  both_sets EmptySetType EmptySetType a b e h g f = f
  both_sets (SetType d p o) t a b e h g f = absurd g
  both_sets EmptySetType t a b e h g f = absurd g
  both_sets s t a b e h g f = absurd h

  arithmetic_or_set_told : (at : places.Operands) (operator : ArithmeticOperator) (sets : SetOperator) (line : ℕ)
      → IsLine line → (v w x : Value) → ValueTold D k os v → ValueTold D k os w
      → arithmetic_or_set at operator sets line v w ≡ Yes x → ValueTold D k os x
  unfolding arithmetic_or_set
  arithmetic_or_set_told at operator sets line l (SetValue a s) (SetValue b t) x h g q =
      let p = provided_yes (is_compatible s t) _ _ (SetValue (combined sets a b) (set_type_of_both s t)) x q in
      subst (ValueTold D k os) p.1 (both_sets s t a b (combined sets a b) h g
      (combined_fits sets a b (set_fits a s h) (set_fits b t g)))
  arithmetic_or_set_told at operator sets line l (SetValue a s) w x h g q = absurd (no_yes q)
  arithmetic_or_set_told at operator sets line l v w x h g q = arithmetic_told at operator line l v w x h g q

  pub added_told : (at : places.Operands) (operator : Adding) (line : ℕ) → IsLine line → (v w x : Value)
      → ValueTold D k os v → ValueTold D k os w → added at operator line v w ≡ Yes x → ValueTold D k os x
  unfolding added
  added_told at adding.Plus line l v w x h g q = arithmetic_or_set_told at Add Union line l v w x h g q
  added_told at adding.Minus line l v w x h g q = arithmetic_or_set_told at Subtract Difference line l v w x h g q
  added_told at adding.Or line l v w x h g q = logic_told at Or v w x h g q

  pub multiplied_told : (at : places.Operands) (operator : Multiplying) (line : ℕ) → IsLine line → (v w x : Value)
      → ValueTold D k os v → ValueTold D k os w → multiplied at operator line v w ≡ Yes x → ValueTold D k os x
  unfolding multiplied
  multiplied_told at multiplying.Times line l v w x h g q = arithmetic_or_set_told at Multiply Intersection line l v w x
      h g q
  multiplied_told at multiplying.Div line l v w x h g q = arithmetic_told at Div line l v w x h g q
  multiplied_told at multiplying.Mod line l v w x h g q = arithmetic_told at Mod line l v w x h g q
  multiplied_told at multiplying.And line l v w x h g q = logic_told at And v w x h g q

  -- ---- relations

  -- a relation that is one of the operands'
  related_is : {R : Type 0} (at : ℕ) (o : Option R) (make : R → Expr) (x : Value) → related at o make ≡ Yes x → (s : R)
      × (truth (make s) ≡ x)
  related_is at None make x q = absurd (no_yes q)
  related_is at (Some s) make x q = (s, inside_yes (truth (make s)) x q)

  compared_numbers : (at : ℕ) (relation : Relational) (a b : Expr) (x : Value) → ExprFits k os a NumberSort
      → ExprFits k os b NumberSort → related at (ordered relation) (λ s. Compare s a b) ≡ Yes x → ValueTold D k os x
  compared_numbers at relation a b x f g q =
      let r = related_is at (ordered relation) (λ s. Compare s a b) x q in
      subst (ValueTold D k os) r.1 (truth_told (Compare r.0 a b) (refl, f, g))

  compared_pointers : (at : ℕ) (relation : Relational) (a b : Expr) (n : ℕ) (x : Value)
      → ExprFits k os a (PointerSort n)
      → ExprFits k os b (PointerSort n) → related at (of_pointers relation) (λ s. ComparePointers s a b) ≡ Yes x
      → ValueTold D k os x
  compared_pointers at relation a b n x f g q =
      let r = related_is at (of_pointers relation) (λ s. ComparePointers s a b) x q in
      subst (ValueTold D k os) r.1 (truth_told (ComparePointers r.0 a b) (refl, (n, f, g)))

  same_pointers : (m n : ℕ) → (m == n || false) ≡ true → m ≡ n
  same_pointers m n e = go (m == n) refl e
    where
      go : (b : Bool) → (m == n) ≡ b → (b || false) ≡ true → m ≡ n
      go true q h = eqb-true m n q
      go false q h = never h

  simple_told : (at : places.Operands) (relation : Relational) (a b : Expr) (s t : DataType) (x : Value)
      → SimpleTold D k os a s → SimpleTold D k os b t → is_compatible s t ≡ true → simple_comparison at relation a b s
      ≡ Yes x → ValueTold D k os x
  unfolding is_compatible is_same_type string_length simple_comparison
  simple_told at relation a b (OrdinalType o)
      (OrdinalType p) x h g e q = compared_numbers at.second relation a b x h.1 g.1 q
  simple_told at relation a b (PointerType m) (PointerType n) x h g e q = compared_pointers at.first relation a b n x
      (subst (λ i. ExprFits k os a (PointerSort i)) (same_pointers m n e) h.1) g.1 q
  simple_told at relation a b (PointerType m) NilType x h g e q = compared_pointers at.first relation a b m x h.1
      (g m) q
  simple_told at relation a b NilType (PointerType n) x h g e q = compared_pointers at.first relation a b n x
      (h n) g.1 q
  simple_told at relation a b NilType NilType x h g e q = compared_pointers at.first relation a b 0 x (h 0) (g 0) q
  simple_told at relation a b (OrdinalType o) (PointerType n) x h g e q = never e
  simple_told at relation a b (OrdinalType o) NilType x h g e q = never e
  simple_told at relation a b (PointerType m) (OrdinalType o) x h g e q = never e
  simple_told at relation a b NilType (OrdinalType o) x h g e q = never e
  simple_told at relation a b (OrdinalType o) t x h g e q = absurd g
  simple_told at relation a b (PointerType m) t x h g e q = absurd g
  simple_told at relation a b NilType t x h g e q = absurd g
  simple_told at relation a b s t x h g e q = absurd h

  member_number : (a : Expr) (s t : DataType) → SimpleTold D k os a s → may_be_member s t ≡ true
      → ExprFits k os a NumberSort
  member_number a (OrdinalType o) t h e = h.1
  member_number a (PointerType n) t h e = never e
  member_number a NilType t h e = never e
  member_number a s t h e = absurd h

  -- operands that go together, and a relation that is one of theirs
  record Together {R : Type 0} (fit : Bool) (make : R → Expr) (x : Value) : Type 0 where
    relation : R
    fits : fit ≡ true
    is : truth (make relation) ≡ x

  together_is : {R : Type 0} (at : places.Operands) (relation : Relational) (first : DataType) (fit : Bool)
      (o : Option R) (make : R → Expr) (x : Value) → together at relation first fit o make ≡ Yes x → Together fit make x
  together_is at relation first fit None make x q = absurd (no_yes q)
  together_is at relation first true (Some s) make x q = record {
    relation = s;
    fits = refl;
    is = inside_yes (truth (make s)) x q;
  }
  together_is at relation first false (Some s) make x q = absurd (no_yes q)

  pub compared_told : (at : places.Operands) (relation : Relational) (v w x : Value) → ValueTold D k os v
      → ValueTold D k os w → compared at relation v w ≡ Yes x → ValueTold D k os x
  unfolding compared
  compared_told at relation (SimpleValue a s) (SimpleValue b t) x h g q =
      let o = if_yes (is_compatible s t) (simple_comparison at relation a b s) _ _ x q in
      simple_told at relation a b s t x h g o.0 o.1
  compared_told at relation (SimpleValue a s) (SetValue b t) x h g q =
      let o = if_yes (is_in relation) _ _ _ x q in
      let p = provided_yes (may_be_member s t) _ _ (truth (In a b)) x o.1 in
      subst (ValueTold D k os) p.1 (truth_told (In a b)
      (refl, member_number a s t h p.0, set_fits b t g))
  compared_told at relation (SetValue a s) (SetValue b t) x h g q =
      let r = together_is at relation s (is_compatible s t) (of_sets relation) (λ c. CompareSets c a b) x q in
      subst (ValueTold D k os) r.is (truth_told (CompareSets r.relation a b)
      (refl, set_fits a s h, set_fits b t g))
  compared_told at relation (StructureValue a s) (StructureValue b t) x h g q =
      let r = together_is at relation s (are_same (string_length s) (string_length t)) (ordered relation)
      (λ c. CompareStrings c a b) x q in
      let l = same_length (string_length s) (string_length t) r.fits in
      let f = string_fits D k os a s l.0 h l.1 in
      let f' = string_fits D k os b t l.0 g l.2 in
      subst (ValueTold D k os) r.is (truth_told (CompareStrings r.relation a b)
      (refl, f.0, f'.0, f.1 ∙ sym f'.1))
  compared_told at relation v w x h g q = absurd (no_yes q)
