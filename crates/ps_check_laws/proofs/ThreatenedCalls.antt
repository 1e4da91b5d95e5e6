-- What assignments, procedure statements, conditions and bounds pass on as changed is what they threaten.
use Rattle.std.proofs.Common.{◌≡◌, ℕ, ◌==◌, List, [], ◌∷◌, ◌++◌, length, Option, Some, None, is_none, sym, ap, ◌∙◌}
use Rattle.std.proofs.Common.{append-nil, append_assoc}
use Rattle.ps_text.specs.declared.Span.{Span}
use Rattle.ps_syntax.specs.First.{first_of_expr}
use Rattle.ps_syntax.specs.declared.expression.Expr.{Expr}
use Rattle.ps_syntax.specs.declared.expression.Variable as syntax
use Rattle.ps_syntax.specs.declared.statement.Direction.{Direction}
use Rattle.ps_syntax.specs.declared.statement.Parameter.{Parameter}
use Rattle.ps_syntax.specs.declared.statement.Parameter.TheVariants.{Plain, Width}
use Rattle.ps_tree.specs.declared.types.Ordinal.{Ordinal}
use Rattle.ps_tree.specs.Types.{DataType}
use Rattle.ps_tree.specs.Tree as Tree
use Rattle.ps_check_judgement.specs.declared.change.Change.{Change}
use Rattle.ps_check_judgement.specs.declared.refusal.Rule.TheVariants.{WrongKind, NotCongruous}
use Rattle.ps_check_judgement.specs.Judged.{Yes, holds}
use Rattle.ps_check_judgement.specs.Changing.{pairs}
use Rattle.ps_check_judgement.proofs.Binds.{no_yes, then_yes}
use Rattle.ps_check_names.specs.declared.meaning.File.TheVariants.{Input, Output}
use Rattle.ps_check_names.specs.declared.meaning.Required.{Required}
use Rattle.ps_check_names.specs.declared.meaning.Required.TheVariants as required
use Rattle.ps_check_names.specs.Regions.{Context, Region, Point, BlockPoint, Section, Sections, RoutineMeaning}
use Rattle.ps_check_names.specs.Regions.{RoutineParameterMeaning, RequiredMeaning}
use Rattle.ps_check_expressions.specs.Values.{Value, Variable, ordinal_of, argument_list}
use Rattle.ps_check_expressions.specs.Names.{denoted}
use Rattle.ps_check_expressions.specs.Changed.{changed}
use Rattle.ps_check_expressions.specs.Calls.{parameters}
use Rattle.ps_check_expressions.specs.Expressions.{operand, variable_operand}
use Rattle.ps_check_statements.specs.Assignments.{target_at, name_or_component, target, assignment}
use Rattle.ps_check_statements.specs.Procedures.{read_of, write_of, first_of_parameter, places_of, actual_parameter}
use Rattle.ps_check_statements.specs.Procedures.{parameter_value, parameter_variable, parameter_index, behind_file}
use Rattle.ps_check_statements.specs.Procedures.{read_parameter, read_parameters, width_at, write_parameter}
use Rattle.ps_check_statements.specs.Procedures.{write_parameters, new_statement, pack, pack_statement, unpack}
use Rattle.ps_check_statements.specs.Procedures.{unpack_statement, required_procedure, procedure_parameters}
use Rattle.ps_check_statements.specs.Procedures.{procedure_called, procedure_statement}
use Rattle.ps_check_statements.specs.Structured.{Head, control_at, unthreatened, bound_at}
use Rattle.ps_check_statements.specs.Statements.{condition_at, index_at, control_of, for_head}
use Rattle.ps_check_laws.specs.Threats.{Threatened, whole, expr_threatens, argument_threatens, arguments_threaten}
use Rattle.ps_check_laws.specs.Threats.{write_threatens, read_threatens, reads_threaten, width_threatens}
use Rattle.ps_check_laws.specs.Threats.{parameter_threatens, parameters_threaten, statement_threatens}
use Rattle.ps_check_laws.proofs.Lists.{then_still}
use Rattle.ps_check_laws.proofs.Values.{value_threatens, ordinal_is}
use Rattle.ps_check_laws.proofs.Additions.{Adds, adds_none, adds_both, adds_all, made_adds, still_adds, each_more}
use Rattle.ps_check_laws.proofs.Additions.{each_all, changed_adds}
use Rattle.ps_check_laws.proofs.HandedParts.{place_of, actual_adds}
use Rattle.ps_check_laws.proofs.Handed.{exprs_hand, variables_hand}
use Rattle.ps_check_laws.proofs.Parts.{arguments_last}
use Rattle.ps_check_laws.proofs.JudgedParts.{assigned_threatens, bound_is, condition_is, is_written, new_is, packing_is}
use Rattle.ps_check_laws.proofs.JudgedParts.{reading_is, target_none, unpacking_is, variable_read, width_is, writing_is}

-- ---- lists of the checked tree

reads_last : (xs : List Tree.ReadVariable) (v : Tree.ReadVariable) → reads_threaten (xs ++ v ∷ []) ≡ reads_threaten xs
    ++ read_threatens v
unfolding reads_threaten
reads_last [] v = append-nil (read_threatens v)
reads_last (x ∷ xs) v = ap (λ l. read_threatens x ++ l) (reads_last xs v) ∙ sym
    (append_assoc (read_threatens x) (reads_threaten xs) (read_threatens v))

writes_last : (xs : List Tree.WriteParameter) (p : Tree.WriteParameter) → parameters_threaten (xs ++ p ∷ [])
    ≡ parameters_threaten xs ++ parameter_threatens p
unfolding parameters_threaten
writes_last [] p = append-nil (parameter_threatens p)
writes_last (x ∷ xs) p = ap (λ l. parameter_threatens x ++ l) (writes_last xs p) ∙ sym
    (append_assoc (parameter_threatens x) (parameters_threaten xs) (parameter_threatens p))

-- ---- the parts that have no statements in them

module _ (c : Context) (Γ : List Region) where
  target_adds : (x : syntax.Variable) (cs : List Change) (p : Variable × List Change) → target c Γ x cs ≡ Yes p
      → Adds c cs p.1 (place_of p.0)
  target_adds x cs p e = by (variable_operand c Γ x).name e
    where
      by : (name : Option Span) → name_or_component c Γ name (variable_operand c Γ x).variable cs ≡ Yes p
          → Adds c cs p.1 (place_of p.0)
      by None h = (variables_hand c Γ x).variable cs p h
      by (Some n) h = (let q = then_still (denoted c Γ n) cs _ p h in still_adds place_of
          (target_at Γ n.from q.0) cs cs [] p q.2 (adds_none cs) (λ v g. target_none Γ n.from q.0 v g))

  -- a variable that is changed after its place
  place_adds : (v : Variable) (at : ℕ) (cs ds : List Change) (d : Unit {0} × List Change) → Adds c cs ds (place_of v)
      → changed c v.place at ds ≡ Yes d → Adds c cs d.1 (write_threatens v.place)
  place_adds v at cs ds d x e = adds_both cs ds d.1 (place_of v) (whole v.place) x (changed_adds c v.place at ds d e)

  pub assignment_adds : (x : syntax.Variable) (at : Span) (y : Expr) (cs : List Change)
      (t : Tree.Statement × List Change)
      → assignment c Γ x at y cs ≡ Yes t → Adds c cs t.1 (statement_threatens t.0)
  assignment_adds x at y cs t e =
      let v = then_yes (target c Γ x cs) _ t e in
      let d = then_yes (changed c v.0.0.place (variable_operand c Γ x).first v.0.1) _ t v.2 in
      let w = then_yes ((operand c Γ y).value d.0.1) _ t d.2 in
      let target = place_adds v.0.0 (variable_operand c Γ x).first cs v.0.1 d.0 (target_adds x cs v.0 v.1) d.1 in
      still_adds statement_threatens _ cs w.0.1 (write_threatens v.0.0.place ++ value_threatens w.0.0) t w.2
      (adds_both cs d.0.1 w.0.1 (write_threatens v.0.0.place) (value_threatens w.0.0) target
      ((exprs_hand c Γ y).value d.0.1 w.0 w.1))
      (λ s h. assigned_threatens at.from v.0.0 w.0.0 _ s h)

  -- ---- procedure statements

  actual_add : (section : Section) (p : Parameter) (cs : List Change) (a : Tree.Argument × List Change)
      → actual_parameter c Γ section p cs ≡ Yes a → Adds c cs a.1 (argument_threatens a.0)
  unfolding actual_parameter
  actual_add section (Plain x) cs a e = actual_adds c Γ section (operand c Γ x) (exprs_hand c Γ x) cs a e
  actual_add section (Width x w) cs a e = absurd (no_yes e)

  arguments_add : (at : ℕ) (result : Option DataType) (sections : Sections) (ps : List Parameter) (cs : List Change)
      (p : List Tree.Argument × List Change) → procedure_parameters c Γ at result sections ps cs ≡ Yes p → Adds c cs p.1
      (arguments_threaten (argument_list p.0))
  unfolding arguments_threaten
  arguments_add at result sections ps cs p e =
      let none = then_still (holds (is_none result) WrongKind at) cs _ p e in
      let h = then_still (holds (length (parameters sections) == length ps) NotCongruous at) cs _ p none.2 in
      adds_all cs p.1 (arguments_threaten (argument_list p.0))
      (each_more (λ (x : Section × Parameter). actual_parameter c Γ x.0 x.1) argument_threatens
      (λ l. arguments_threaten (argument_list l)) arguments_last (pairs (parameters sections) ps)
      (each_all (λ (x : Section × Parameter). (cs : List Change) (a : Tree.Argument × List Change)
      → actual_parameter c Γ x.0 x.1 cs ≡ Yes a → Adds c cs a.1 (argument_threatens a.0))
      (λ x cs a g. actual_add x.0 x.1 cs a g) (pairs (parameters sections) ps)) ([], cs) p h.2)

  value_adds : (p : Parameter) (cs : List Change) (v : Value × List Change) → parameter_value c Γ p cs ≡ Yes v
      → Adds c cs v.1 (value_threatens v.0)
  unfolding parameter_value
  value_adds (Plain x) cs v e = (exprs_hand c Γ x).value cs v e
  value_adds (Width x w) cs v e = absurd (no_yes e)

  variable_adds : (p : Parameter) (cs : List Change) (v : Variable × List Change) → parameter_variable c Γ p cs ≡ Yes v
      → Adds c cs v.1 (place_of v.0)
  unfolding parameter_variable
  variable_adds (Plain x) cs v e = (exprs_hand c Γ x).variable cs v e
  variable_adds (Width x w) cs v e = absurd (no_yes e)

  abbrev pub index_of : Tree.Expr × Ordinal → Threatened
  index_of x = expr_threatens x.0

  index_adds : (p : Parameter) (cs : List Change) (x : (Tree.Expr × Ordinal) × List Change) → parameter_index c Γ p cs
      ≡ Yes x → Adds c cs x.1 (index_of x.0)
  index_adds p cs x e =
      let v = then_yes (parameter_value c Γ p cs) _ x e in
      still_adds index_of (ordinal_of (first_of_parameter p) v.0.0) cs v.0.1 (value_threatens v.0.0) x v.2
      (value_adds p cs v.0 v.1) (λ y h. sym (ordinal_is (first_of_parameter p) v.0.0 y h))

  read_adds : (p : Parameter) (cs : List Change) (a : Tree.ReadVariable × List Change) → read_parameter c Γ p cs ≡ Yes a
      → Adds c cs a.1 (read_threatens a.0)
  unfolding read_parameter
  read_adds p cs a e =
      let v = then_yes (parameter_variable c Γ p cs) _ a e in
      let d = then_yes (changed c v.0.0.place (first_of_parameter p) v.0.1) _ a v.2 in
      still_adds read_threatens _ cs d.0.1 (write_threatens v.0.0.place) a d.2
      (place_adds v.0.0 (first_of_parameter p) cs v.0.1 d.0 (variable_adds p cs v.0 v.1) d.1)
      (λ r h. variable_read _ v.0.0.place v.0.0.type _ r h)

  reads_add : (at : ℕ) (ps : List Parameter) (cs : List Change) (t : List Tree.ReadVariable × List Change)
      → read_parameters c Γ at ps cs ≡ Yes t → Adds c cs t.1 (reads_threaten t.0)
  unfolding reads_threaten
  reads_add at ps cs t e =
      let b = then_still (behind_file c Γ at Input c.has_input ps) cs _ t e in
      adds_all cs t.1 (reads_threaten t.0) (each_more (read_parameter c Γ) read_threatens reads_threaten reads_last b.0
      (each_all (λ p. (cs : List Change) (a : Tree.ReadVariable × List Change) → read_parameter c Γ p cs ≡ Yes a
      → Adds c cs a.1 (read_threatens a.0)) read_adds b.0) ([], cs) t b.2)

  width_adds : (w : Expr) (cs : List Change) (p : Tree.Width × List Change) → width_at c Γ w cs ≡ Yes p → Adds c cs p.1
      (width_threatens p.0)
  width_adds w cs p e =
      let n = then_yes ((operand c Γ w).value cs) _ p e in
      still_adds width_threatens _ cs n.0.1 (value_threatens n.0.0) p n.2 ((exprs_hand c Γ w).value cs n.0 n.1)
      (λ x h. width_is (first_of_expr w) n.0.0 _ x h)

  write_adds : (p : Parameter) (cs : List Change) (a : Tree.WriteParameter × List Change) → write_parameter c Γ p cs
      ≡ Yes a → Adds c cs a.1 (parameter_threatens a.0)
  unfolding write_parameter width_threatens
  write_adds (Plain x) cs a e =
      let v = then_yes ((operand c Γ x).value cs) _ a e in
      still_adds parameter_threatens _ cs v.0.1 (value_threatens v.0.0) a v.2 ((exprs_hand c Γ x).value cs v.0 v.1)
      (λ w h. is_written (first_of_expr x) v.0.0 Tree.DefaultWidth w h ∙ append-nil (value_threatens v.0.0))
  write_adds (Width x w) cs a e =
      let v = then_yes ((operand c Γ x).value cs) _ a e in
      let width = then_yes (width_at c Γ w v.0.1) _ a v.2 in
      still_adds parameter_threatens _ cs width.0.1 (value_threatens v.0.0 ++ width_threatens width.0.0) a width.2
      (adds_both cs v.0.1 width.0.1 (value_threatens v.0.0) (width_threatens width.0.0)
      ((exprs_hand c Γ x).value cs v.0 v.1) (width_adds w v.0.1 width.0 width.1))
      (λ z h. is_written (first_of_expr x) v.0.0 width.0.0 z h)

  writes_add : (at : ℕ) (ps : List Parameter) (cs : List Change) (t : List Tree.WriteParameter × List Change)
      → write_parameters c Γ at ps cs ≡ Yes t → Adds c cs t.1 (parameters_threaten t.0)
  unfolding parameters_threaten
  writes_add at ps cs t e =
      let b = then_still (behind_file c Γ at Output c.has_output ps) cs _ t e in
      adds_all cs t.1 (parameters_threaten t.0)
      (each_more (write_parameter c Γ) parameter_threatens parameters_threaten writes_last b.0
      (each_all (λ p. (cs : List Change) (a : Tree.WriteParameter × List Change) → write_parameter c Γ p cs ≡ Yes a
      → Adds c cs a.1 (parameter_threatens a.0)) write_adds b.0) ([], cs) t b.2)

  new_adds : (at : ℕ) (ps : List Parameter) (cs : List Change) (t : Tree.Statement × List Change)
      → new_statement c Γ at ps cs ≡ Yes t → Adds c cs t.1 (statement_threatens t.0)
  unfolding new_statement
  new_adds at [] cs t e = absurd (no_yes e)
  new_adds at (p ∷ []) cs t e =
      let v = then_yes (parameter_variable c Γ p cs) _ t e in
      still_adds statement_threatens _ cs v.0.1 (place_of v.0.0) t v.2 (variable_adds p cs v.0 v.1)
      (λ s h. new_is (first_of_parameter p) v.0.0.place v.0.0.type _ s h)
  new_adds at (p ∷ q ∷ ps) cs t e = absurd (no_yes e)

  pack_adds : (at : ℕ) (ps : List Parameter) (cs : List Change) (t : Tree.Statement × List Change)
      → pack_statement c Γ at ps cs ≡ Yes t → Adds c cs t.1 (statement_threatens t.0)
  unfolding pack_statement pack
  pack_adds at [] cs t e = absurd (no_yes e)
  pack_adds at (a ∷ []) cs t e = absurd (no_yes e)
  pack_adds at (a ∷ i ∷ []) cs t e = absurd (no_yes e)
  pack_adds at (a ∷ i ∷ z ∷ []) cs t e =
      let v = then_yes (parameter_variable c Γ a cs) _ t e in
      let n = then_yes (parameter_index c Γ i v.0.1) _ t v.2 in
      let w = then_yes (parameter_variable c Γ z n.0.1) _ t n.2 in
      let first = adds_both cs v.0.1 n.0.1 (place_of v.0.0) (index_of n.0.0) (variable_adds a cs v.0 v.1)
      (index_adds i v.0.1 n.0 n.1) in
      still_adds statement_threatens _ cs w.0.1 ((place_of v.0.0 ++ index_of n.0.0) ++ place_of w.0.0) t w.2
      (adds_both cs n.0.1 w.0.1 (place_of v.0.0 ++ index_of n.0.0) (place_of w.0.0) first
      (variable_adds z n.0.1 w.0 w.1))
      (λ s h. packing_is (places_of a z i) v.0.0 w.0.0 _ n.0.0 s h)
  pack_adds at (a ∷ i ∷ z ∷ p ∷ ps) cs t e = absurd (no_yes e)

  unpack_adds : (at : ℕ) (ps : List Parameter) (cs : List Change) (t : Tree.Statement × List Change)
      → unpack_statement c Γ at ps cs ≡ Yes t → Adds c cs t.1 (statement_threatens t.0)
  unfolding unpack_statement unpack
  unpack_adds at [] cs t e = absurd (no_yes e)
  unpack_adds at (z ∷ []) cs t e = absurd (no_yes e)
  unpack_adds at (z ∷ a ∷ []) cs t e = absurd (no_yes e)
  unpack_adds at (z ∷ a ∷ i ∷ []) cs t e =
      let v = then_yes (parameter_variable c Γ z cs) _ t e in
      let w = then_yes (parameter_variable c Γ a v.0.1) _ t v.2 in
      let n = then_yes (parameter_index c Γ i w.0.1) _ t w.2 in
      let first = adds_both cs v.0.1 w.0.1 (place_of v.0.0) (place_of w.0.0) (variable_adds z cs v.0 v.1)
      (variable_adds a v.0.1 w.0 w.1) in
      still_adds statement_threatens _ cs n.0.1 ((place_of v.0.0 ++ place_of w.0.0) ++ index_of n.0.0) t n.2
      (adds_both cs w.0.1 n.0.1 (place_of v.0.0 ++ place_of w.0.0) (index_of n.0.0) first
      (index_adds i w.0.1 n.0 n.1))
      (λ s h. unpacking_is (places_of a z i) v.0.0 w.0.0 _ n.0.0 s h)
  unpack_adds at (z ∷ a ∷ i ∷ p ∷ ps) cs t e = absurd (no_yes e)

  required_adds : (at : ℕ) (r : Required) (ps : List Parameter) (cs : List Change) (t : Tree.Statement × List Change)
      → required_procedure c Γ at r ps cs ≡ Yes t → Adds c cs t.1 (statement_threatens t.0)
  unfolding required_procedure statement_threatens
  required_adds at required.Read ps cs t e =
      let vs = then_yes (read_parameters c Γ at ps cs) _ t e in
      still_adds statement_threatens (read_of at vs.0.0) cs vs.0.1 (reads_threaten vs.0.0) t vs.2
      (reads_add at ps cs vs.0 vs.1) (λ s h. reading_is at vs.0.0 s h)
  required_adds at required.Readln ps cs t e =
      (let vs = then_yes (read_parameters c Γ at ps cs) _ t e in made_adds statement_threatens _ cs vs.0.1 t vs.2
      (reads_add at ps cs vs.0 vs.1))
  required_adds at required.Write ps cs t e =
      let vs = then_yes (write_parameters c Γ at ps cs) _ t e in
      still_adds statement_threatens (write_of at vs.0.0) cs vs.0.1 (parameters_threaten vs.0.0) t vs.2
      (writes_add at ps cs vs.0 vs.1) (λ s h. writing_is at vs.0.0 s h)
  required_adds at required.Writeln ps cs t e =
      (let vs = then_yes (write_parameters c Γ at ps cs) _ t e in made_adds statement_threatens _ cs vs.0.1 t vs.2
      (writes_add at ps cs vs.0 vs.1))
  required_adds at required.New ps cs t e = new_adds at ps cs t e
  required_adds at required.Pack ps cs t e = pack_adds at ps cs t e
  required_adds at required.Unpack ps cs t e = unpack_adds at ps cs t e
  required_adds at r ps cs t e = absurd (no_yes e)

  called_adds : (at : ℕ) (ps : List Parameter) (q : Point) (cs : List Change) (t : Tree.Statement × List Change)
      → procedure_called c Γ at ps q cs ≡ Yes t → Adds c cs t.1 (statement_threatens t.0)
  unfolding procedure_called statement_threatens
  called_adds at ps (BlockPoint up (RoutineMeaning h)) cs t e =
      (let l = then_yes (procedure_parameters c Γ at h.result h.sections ps cs) _ t e
      in made_adds statement_threatens _ cs l.0.1 t l.2 (arguments_add at h.result h.sections ps cs l.0 l.1))
  called_adds at ps (BlockPoint up (RoutineParameterMeaning entry sections result)) cs t e =
      (let l = then_yes (procedure_parameters c Γ at result sections ps cs) _ t e
      in made_adds statement_threatens _ cs l.0.1 t l.2 (arguments_add at result sections ps cs l.0 l.1))
  called_adds at ps (BlockPoint up (RequiredMeaning r)) cs t e = required_adds at r ps cs t e
  called_adds at ps q cs t e = absurd (no_yes e)

  pub procedure_adds : (name : Span) (ps : List Parameter) (cs : List Change) (t : Tree.Statement × List Change)
      → procedure_statement c Γ name ps cs ≡ Yes t → Adds c cs t.1 (statement_threatens t.0)
  procedure_adds name ps cs t e = (let q = then_still (denoted c Γ name) cs _ t e
      in called_adds name.from ps q.0 cs t q.2)

  -- ---- conditions and bounds

  pub condition_adds : (x : Expr) (cs : List Change) (t : Tree.Expr × List Change) → condition_at c Γ x cs ≡ Yes t
      → Adds c cs t.1 (expr_threatens t.0)
  condition_adds x cs t e =
      let v = then_yes ((operand c Γ x).value cs) _ t e in
      still_adds expr_threatens _ cs v.0.1 (value_threatens v.0.0) t v.2 ((exprs_hand c Γ x).value cs v.0 v.1)
      (λ y h. condition_is (first_of_expr x) v.0.0 y h)

  bound_adds : (o : Ordinal) (x : Expr) (cs : List Change) (t : Tree.Expr × List Change) → bound_at c Γ o x cs ≡ Yes t
      → Adds c cs t.1 (expr_threatens t.0)
  bound_adds o x cs t e =
      let v = then_yes ((operand c Γ x).value cs) _ t e in
      still_adds expr_threatens _ cs v.0.1 (value_threatens v.0.0) t v.2 ((exprs_hand c Γ x).value cs v.0 v.1)
      (λ y h. bound_is (first_of_expr x) o v.0.0 y h)

  pub case_index_adds : (x : Expr) (cs : List Change) (t : (Tree.Expr × Ordinal) × List Change)
      → index_at c Γ x cs ≡ Yes t
      → Adds c cs t.1 (index_of t.0)
  case_index_adds x cs t e =
      let v = then_yes ((operand c Γ x).value cs) _ t e in
      still_adds index_of (ordinal_of (first_of_expr x) v.0.0) cs v.0.1 (value_threatens v.0.0) t v.2
      ((exprs_hand c Γ x).value cs v.0 v.1) (λ y h. sym (ordinal_is (first_of_expr x) v.0.0 y h))

  abbrev control_threatens : ℕ × Ordinal → Threatened
  control_threatens k = (0, k.0) ∷ []

  control_adds : (name : Span) (cs : List Change) (t : (ℕ × Ordinal) × List Change) → control_of c Γ name cs ≡ Yes t
      → Adds c cs t.1 (control_threatens t.0)
  control_adds name cs t e =
      let p = then_still (denoted c Γ name) cs _ t e in
      let k = then_still (control_at name.from p.0) cs _ t p.2 in
      let place = Tree.Variable (Tree.Entry 0 k.0.0) Tree.no_selector in
      let d = then_yes (changed c place name.from cs) _ t k.2 in
      let u = then_still (unthreatened c k.0.0) d.0.1 _ t d.2 in
      made_adds control_threatens k.0 cs d.0.1 t u.2 (changed_adds c place name.from cs d.0 d.1)

  abbrev pub head_threatens : Head → Threatened
  head_threatens h = ((0, h.variable) ∷ expr_threatens h.first) ++ expr_threatens h.last

  pub head_adds : (name : Span) (x : Expr) (direction : Direction) (y : Expr) (cs : List Change)
      (t : Head × List Change)
      → for_head c Γ name x direction y cs ≡ Yes t → Adds c cs t.1 (head_threatens t.0)
  head_adds name x direction y cs t e =
      let control = then_yes (control_of c Γ name cs) _ t e in
      let low = then_yes (bound_at c Γ control.0.0.1 x control.0.1) _ t control.2 in
      let high = then_yes (bound_at c Γ control.0.0.1 y low.0.1) _ t low.2 in
      let first = adds_both cs control.0.1 low.0.1 (control_threatens control.0.0) (expr_threatens low.0.0)
      (control_adds name cs control.0 control.1) (bound_adds control.0.0.1 x control.0.1 low.0 low.1) in
      made_adds head_threatens _ cs high.0.1 t high.2
      (adds_both cs low.0.1 high.0.1 (control_threatens control.0.0 ++ expr_threatens low.0.0)
      (expr_threatens high.0.0) first (bound_adds control.0.0.1 y low.0.1 high.0 high.1))
