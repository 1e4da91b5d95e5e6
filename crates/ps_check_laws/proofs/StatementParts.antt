-- Each name used in a part of a statement that has no statements in it is found there.
use Rattle.std.proofs.Common.{◌≡◌, ℕ, ℤ, Bool, true, false, ◌==◌, List, [], ◌∷◌, ◌++◌, length, map, Option, Some, None}
use Rattle.std.proofs.Common.{is_none, refl, sym, ap, ◌∙◌, subst, eqb-true, arith}
use Rattle.std.specs.Prelude.{if◌then◌else◌}
use Rattle.ps_text.specs.declared.Span.{Span}
use Rattle.ps_syntax.specs.declared.expression.Expr.{Expr}
use Rattle.ps_syntax.specs.declared.expression.Variable as syntax
use Rattle.ps_syntax.specs.declared.statement.Constant.{Constant}
use Rattle.ps_syntax.specs.declared.statement.Constant.TheVariants as constant
use Rattle.ps_syntax.specs.declared.statement.Parameter.{Parameter}
use Rattle.ps_syntax.specs.declared.statement.Parameter.TheVariants.{Plain, Width}
use Rattle.ps_syntax.specs.declared.statement.Direction.{Direction}
use Rattle.ps_tree.specs.declared.types.Ordinal.{Ordinal}
use Rattle.ps_tree.specs.Types.{DataType}
use Rattle.ps_tree.specs.Tree as Tree
use Rattle.ps_check_names.specs.declared.meaning.File.{File}
use Rattle.ps_check_names.specs.declared.meaning.File.TheVariants.{Input, Output}
use Rattle.ps_check_names.specs.declared.meaning.Required.{Required}
use Rattle.ps_check_names.specs.declared.meaning.Required.TheVariants as required
use Rattle.ps_check_judgement.specs.declared.change.Change.{Change}
use Rattle.ps_check_judgement.specs.declared.refusal.Rule.TheVariants.{WrongKind, NotCongruous, NoInputOutput}
use Rattle.ps_check_judgement.specs.Judged.{Judged, Yes, No, provided, holds, steps}
use Rattle.ps_check_judgement.specs.Changing.{Changing, ◌>>=◌, still, one_more, each, pairs}
use Rattle.ps_check_judgement.proofs.Binds.{no_yes, inside_yes, then_yes, provided_yes, holds_yes}
use Rattle.ps_check_judgement.proofs.Impossible.{never}
use Rattle.ps_check_names.specs.Constants as constants
use Rattle.ps_check_names.specs.Regions.{Context, Region, Point, BlockPoint, Section, Sections, RoutineMeaning}
use Rattle.ps_check_names.specs.Regions.{RoutineParameterMeaning, RequiredMeaning}
use Rattle.ps_check_declarations.specs.Points.{Points, all}
use Rattle.ps_check_expressions.specs.Values.{Value, Variable, Operand}
use Rattle.ps_check_expressions.specs.Names.{denoted}
use Rattle.ps_check_expressions.specs.Changed.{changed}
use Rattle.ps_check_expressions.specs.Calls.{parameters}
use Rattle.ps_check_expressions.specs.Expressions.{operand, variable_operand}
use Rattle.ps_check_statements.specs.Assignments.{name_or_component, target, assignment}
use Rattle.ps_check_statements.specs.Procedures.{is_file_at, names_file_at, actual_parameter, parameter_value}
use Rattle.ps_check_statements.specs.Procedures.{parameter_variable, parameter_index, names_file, behind_file}
use Rattle.ps_check_statements.specs.Procedures.{unlisted_at, read_parameter, read_parameters, width_at}
use Rattle.ps_check_statements.specs.Procedures.{write_parameter, write_parameters, new_statement, pack, pack_statement}
use Rattle.ps_check_statements.specs.Procedures.{unpack, unpack_statement, required_procedure, procedure_parameters}
use Rattle.ps_check_statements.specs.Procedures.{procedure_called, procedure_statement}
use Rattle.ps_check_statements.specs.Structured.{Head, case_label, next_label, bound_at}
use Rattle.ps_check_statements.specs.Statements.{condition_at, control_of, for_head}
use Rattle.ps_check_laws.specs.Occurrences.{expr_uses, variable_uses, constant_uses, parameter_uses}
use Rattle.ps_check_laws.proofs.Lists.{then_still}
use Rattle.ps_check_laws.proofs.ExpressionParts.{Found, found_both, Told, actual_found}
use Rattle.ps_check_laws.proofs.Expressions.{exprs_told, variables_told}

-- ---- the names of the parts that have no statements in them

module _ (c : Context) (Γ : List Region) where
  target_found : (o : Operand) (names : Points) → Told c Γ o names → (cs : List Change) (p : Variable × List Change)
      → name_or_component c Γ o.name o.variable cs ≡ Yes p → Found c Γ names
  target_found o names t cs p e = at o.name refl e
    where
      at : (name : Option Span) → o.name ≡ name → name_or_component c Γ name o.variable cs ≡ Yes p → Found c Γ names
      at None g h = t.variable cs p h
      at (Some n) g h = (let q = then_still (denoted c Γ n) cs _ p h in subst (Found c Γ) (sym (t.name n g))
          ((q.0, q.1), tt))

  pub record Assigned (x : syntax.Variable) (y : Expr) : Type 0 where
    pub variable : Found c Γ (variable_uses x)
    pub value : Found c Γ (expr_uses y)

  pub assigned_found : (x : syntax.Variable) (at : Span) (y : Expr) (cs : List Change)
      (p : Tree.Statement × List Change)
      → assignment c Γ x at y cs ≡ Yes p → Assigned x y
  assigned_found x at y cs p e =
      let v = then_yes (target c Γ x cs) _ p e in
      let d = then_yes (changed c v.0.0.place (variable_operand c Γ x).first v.0.1) _ p v.2 in
      let w = then_yes ((operand c Γ y).value d.0.1) _ p d.2 in
      record {
        variable = target_found (variable_operand c Γ x) (variable_uses x) (variables_told c Γ x) cs v.0 v.1;
        value = (exprs_told c Γ y).value d.0.1 w.0 w.1;
      }

  -- ---- procedure statements

  abbrev Parameters : List Parameter → Type 0
  Parameters ps = Found c Γ (all (map parameter_uses ps))

  next_parameter : (p : Parameter) (ps : List Parameter) → Found c Γ (parameter_uses p) → Parameters ps → Parameters
      (p ∷ ps)
  next_parameter p ps a b = found_both c Γ (parameter_uses p) (all (map parameter_uses ps)) a b

  actual_read : (section : Section) (p : Parameter) (cs : List Change) (a : Tree.Argument × List Change)
      → actual_parameter c Γ section p cs ≡ Yes a → Found c Γ (parameter_uses p)
  unfolding actual_parameter parameter_uses
  actual_read section (Plain x) cs a e = actual_found c Γ section (operand c Γ x) (expr_uses x)
      (exprs_told c Γ x) cs a e
  actual_read section (Width x w) cs a e = absurd (no_yes e)

  actuals_read : (sections : List Section) (ps : List Parameter) → length sections ≡ length ps
      → (s t : List Tree.Argument × List Change) → steps
      (one_more (λ (p : Section × Parameter). actual_parameter c Γ p.0 p.1)) s (pairs sections ps) ≡ Yes t
      → Parameters ps
  actuals_read [] [] l s t e = tt
  actuals_read [] (p ∷ ps) l s t e = absurd (omega (arith, l))
  actuals_read (section ∷ sections) [] l s t e = tt
  actuals_read (section ∷ sections) (p ∷ ps) l s t e =
      let one = then_yes (one_more (λ (p : Section × Parameter). actual_parameter c Γ p.0 p.1) s (section, p)) _ t e in
      let a = then_yes (actual_parameter c Γ section p s.1) _ one.0 one.1 in
      next_parameter p ps (actual_read section p s.1 a.0 a.1)
      (actuals_read sections ps (omega (arith, l)) one.0 t one.2)

  each_read : {A : Type 0} (read : Parameter → Changing A)
      → ((p : Parameter) (cs : List Change) (a : A × List Change) → read p cs ≡ Yes a → Found c Γ (parameter_uses p))
      → (ps : List Parameter) (s t : List A × List Change) → steps (one_more read) s ps ≡ Yes t → Parameters ps
  each_read read each_one [] s t e = tt
  each_read read each_one (p ∷ ps) s t e =
      let one = then_yes (one_more read s p) _ t e in
      let a = then_yes (read p s.1) _ one.0 one.1 in
      next_parameter p ps (each_one p s.1 a.0 a.1) (each_read read each_one ps one.0 t one.2)

  value_read : (p : Parameter) (cs : List Change) (v : Value × List Change) → parameter_value c Γ p cs ≡ Yes v
      → Found c Γ (parameter_uses p)
  unfolding parameter_value parameter_uses
  value_read (Plain x) cs v e = (exprs_told c Γ x).value cs v e
  value_read (Width x w) cs v e = absurd (no_yes e)

  variable_read : (p : Parameter) (cs : List Change) (v : Variable × List Change) → parameter_variable c Γ p cs ≡ Yes v
      → Found c Γ (parameter_uses p)
  unfolding parameter_variable parameter_uses
  variable_read (Plain x) cs v e = (exprs_told c Γ x).variable cs v e
  variable_read (Width x w) cs v e = absurd (no_yes e)

  -- the file

  file_there : (file : File) (q : Judged Point) → is_file_at file q ≡ true → (p : Point) × (q ≡ Yes p)
  file_there file (No rule at) e = never e
  file_there file (Yes p) e = (p, refl)

  file_found : (file : File) (o : Operand) (names : Points) → Told c Γ o names → names_file_at c Γ file o.name ≡ true
      → Found c Γ names
  file_found file o names t e = at o.name refl e
    where
      at : (name : Option Span) → o.name ≡ name → names_file_at c Γ file name ≡ true → Found c Γ names
      at None g h = never h
      at (Some n) g h = subst (Found c Γ) (sym (t.name n g)) (file_there file (denoted c Γ n) h, tt)

  file_read : (file : File) (p : Parameter) → names_file c Γ file p ≡ true → Found c Γ (parameter_uses p)
  unfolding names_file parameter_uses
  file_read file (Plain x) e = file_found file (operand c Γ x) (expr_uses x) (exprs_told c Γ x) e
  file_read file (Width x w) e = never e

  behind_read : {A : Type 0} (at : ℕ) (file : File) (is_listed : Bool) (read : Parameter → Changing A)
      → ((p : Parameter) (cs : List Change) (a : A × List Change) → read p cs ≡ Yes a → Found c Γ (parameter_uses p))
      → (ps : List Parameter) (cs : List Change) (t : List A × List Change)
      → (still (behind_file c Γ at file is_listed ps) >>= each read) cs ≡ Yes t → Parameters ps
  unfolding behind_file
  behind_read at file is_listed read each_one [] cs t e = tt
  behind_read at file is_listed read each_one (p ∷ ps) cs t e =
      let b = then_still (behind_file c Γ at file is_listed (p ∷ ps)) cs _ t e in
      by (names_file c Γ file p) refl b.0 b.1 b.2
    where
      by : (b : Bool) → names_file c Γ file p ≡ b → (rest : List Parameter)
          → (if b then Yes ps else provided is_listed NoInputOutput (unlisted_at c Γ at (p ∷ ps)) (p ∷ ps)) ≡ Yes rest
          → each read rest cs ≡ Yes t → Parameters (p ∷ ps)
      by true g rest h l = next_parameter p ps (file_read file p g)
          (each_read read each_one ps ([], cs) t (ap (λ z. each read z cs) (inside_yes ps rest h) ∙ l))
      by false g rest h l =
          let is = provided_yes is_listed NoInputOutput (unlisted_at c Γ at (p ∷ ps)) (p ∷ ps) rest h in
          each_read read each_one (p ∷ ps) ([], cs) t (ap (λ z. each read z cs) is.1 ∙ l)

  read_read : (p : Parameter) (cs : List Change) (a : Tree.ReadVariable × List Change) → read_parameter c Γ p cs ≡ Yes a
      → Found c Γ (parameter_uses p)
  unfolding read_parameter
  read_read p cs a e = (let v = then_yes (parameter_variable c Γ p cs) _ a e in variable_read p cs v.0 v.1)

  write_read : (p : Parameter) (cs : List Change) (a : Tree.WriteParameter × List Change) → write_parameter c Γ p cs
      ≡ Yes a → Found c Γ (parameter_uses p)
  unfolding write_parameter parameter_uses
  write_read (Plain x) cs a e = (let v = then_yes ((operand c Γ x).value cs) _ a e
      in (exprs_told c Γ x).value cs v.0 v.1)
  write_read (Width x w) cs a e =
      let v = then_yes ((operand c Γ x).value cs) _ a e in
      let width = then_yes (width_at c Γ w v.0.1) _ a v.2 in
      let n = then_yes ((operand c Γ w).value v.0.1) _ width.0 width.1 in
      found_both c Γ (expr_uses x) (expr_uses w) ((exprs_told c Γ x).value cs v.0 v.1)
      ((exprs_told c Γ w).value v.0.1 n.0 n.1)

  new_read : (at : ℕ) (ps : List Parameter) (cs : List Change) (t : Tree.Statement × List Change)
      → new_statement c Γ at ps cs ≡ Yes t → Parameters ps
  unfolding new_statement
  new_read at [] cs t e = tt
  new_read at (p ∷ []) cs t e = (let v = then_yes (parameter_variable c Γ p cs) _ t e in next_parameter p []
      (variable_read p cs v.0 v.1) tt)
  new_read at (p ∷ q ∷ ps) cs t e = absurd (no_yes e)

  index_read : (p : Parameter) (cs : List Change) (x : (Tree.Expr × Ordinal) × List Change) → parameter_index c Γ p cs
      ≡ Yes x → Found c Γ (parameter_uses p)
  index_read p cs x e = (let v = then_yes (parameter_value c Γ p cs) _ x e in value_read p cs v.0 v.1)

  pack_read : (at : ℕ) (ps : List Parameter) (cs : List Change) (t : Tree.Statement × List Change)
      → pack_statement c Γ at ps cs ≡ Yes t → Parameters ps
  unfolding pack_statement pack
  pack_read at [] cs t e = tt
  pack_read at (a ∷ []) cs t e = absurd (no_yes e)
  pack_read at (a ∷ i ∷ []) cs t e = absurd (no_yes e)
  pack_read at (a ∷ i ∷ z ∷ []) cs t e =
      let v = then_yes (parameter_variable c Γ a cs) _ t e in
      let n = then_yes (parameter_index c Γ i v.0.1) _ t v.2 in
      let w = then_yes (parameter_variable c Γ z n.0.1) _ t n.2 in
      next_parameter a (i ∷ z ∷ []) (variable_read a cs v.0 v.1)
      (next_parameter i (z ∷ []) (index_read i v.0.1 n.0 n.1)
      (next_parameter z [] (variable_read z n.0.1 w.0 w.1) tt))
  pack_read at (a ∷ i ∷ z ∷ p ∷ ps) cs t e = absurd (no_yes e)

  unpack_read : (at : ℕ) (ps : List Parameter) (cs : List Change) (t : Tree.Statement × List Change)
      → unpack_statement c Γ at ps cs ≡ Yes t → Parameters ps
  unfolding unpack_statement unpack
  unpack_read at [] cs t e = tt
  unpack_read at (z ∷ []) cs t e = absurd (no_yes e)
  unpack_read at (z ∷ a ∷ []) cs t e = absurd (no_yes e)
  unpack_read at (z ∷ a ∷ i ∷ []) cs t e =
      let v = then_yes (parameter_variable c Γ z cs) _ t e in
      let w = then_yes (parameter_variable c Γ a v.0.1) _ t v.2 in
      let n = then_yes (parameter_index c Γ i w.0.1) _ t w.2 in
      next_parameter z (a ∷ i ∷ []) (variable_read z cs v.0 v.1)
      (next_parameter a (i ∷ []) (variable_read a v.0.1 w.0 w.1)
      (next_parameter i [] (index_read i w.0.1 n.0 n.1) tt))
  unpack_read at (z ∷ a ∷ i ∷ p ∷ ps) cs t e = absurd (no_yes e)

  required_read : (at : ℕ) (r : Required) (ps : List Parameter) (cs : List Change) (t : Tree.Statement × List Change)
      → required_procedure c Γ at r ps cs ≡ Yes t → Parameters ps
  unfolding required_procedure
  required_read at required.Read ps cs t e =
      (let vs = then_yes (read_parameters c Γ at ps cs) _ t e in behind_read at Input c.has_input
      (read_parameter c Γ) read_read ps cs vs.0 vs.1)
  required_read at required.Readln ps cs t e =
      (let vs = then_yes (read_parameters c Γ at ps cs) _ t e in behind_read at Input c.has_input
      (read_parameter c Γ) read_read ps cs vs.0 vs.1)
  required_read at required.Write ps cs t e =
      (let vs = then_yes (write_parameters c Γ at ps cs) _ t e in behind_read at Output c.has_output
      (write_parameter c Γ) write_read ps cs vs.0 vs.1)
  required_read at required.Writeln ps cs t e =
      (let vs = then_yes (write_parameters c Γ at ps cs) _ t e in behind_read at Output c.has_output
      (write_parameter c Γ) write_read ps cs vs.0 vs.1)
  required_read at required.New ps cs t e = new_read at ps cs t e
  required_read at required.Pack ps cs t e = pack_read at ps cs t e
  required_read at required.Unpack ps cs t e = unpack_read at ps cs t e
  required_read at r ps cs t e = absurd (no_yes e)

  call_read : (at : ℕ) (result : Option DataType) (sections : Sections) (ps : List Parameter) (cs : List Change)
      (t : List Tree.Argument × List Change) → procedure_parameters c Γ at result sections ps cs ≡ Yes t → Parameters ps
  call_read at result sections ps cs t e =
      let none = then_still (holds (is_none result) WrongKind at) cs _ t e in
      let h = then_still (holds (length (parameters sections) == length ps) NotCongruous at) cs _ t none.2 in
      let even = eqb-true (length (parameters sections)) (length ps)
      (holds_yes (length (parameters sections) == length ps) NotCongruous at h.0 h.1) in
      actuals_read (parameters sections) ps even ([], cs) t h.2

  called_read : (at : ℕ) (ps : List Parameter) (q : Point) (cs : List Change) (t : Tree.Statement × List Change)
      → procedure_called c Γ at ps q cs ≡ Yes t → Parameters ps
  unfolding procedure_called
  called_read at ps (BlockPoint up (RoutineMeaning h)) cs t e =
      (let l = then_yes (procedure_parameters c Γ at h.result h.sections ps cs) _ t e
      in call_read at h.result h.sections ps cs l.0 l.1)
  called_read at ps (BlockPoint up (RoutineParameterMeaning entry sections result)) cs t e =
      (let l = then_yes (procedure_parameters c Γ at result sections ps cs) _ t e
      in call_read at result sections ps cs l.0 l.1)
  called_read at ps (BlockPoint up (RequiredMeaning r)) cs t e = required_read at r ps cs t e
  called_read at ps q cs t e = absurd (no_yes e)

  pub procedure_read : (name : Span) (ps : List Parameter) (cs : List Change) (t : Tree.Statement × List Change)
      → procedure_statement c Γ name ps cs ≡ Yes t → Found c Γ (name ∷ all (map parameter_uses ps))
  procedure_read name ps cs t e = (let q = then_still (denoted c Γ name) cs _ t e
      in ((q.0, q.1), called_read name.from ps q.0 cs t q.2))

  -- ---- case constants

  constant_read : (k : Constant) (o : Ordinal) (n : ℤ) → case_label c Γ o k ≡ Yes n → Found c Γ (constant_uses k)
  unfolding constants.constant constant_uses
  constant_read (constant.Number sign at) o n e = tt
  constant_read (constant.Name sign at) o n e =
      let v = then_yes (constants.constant c.text Γ (constant.Name sign at)) _ n e in
      let w = then_yes (constants.constant_named c.text Γ at) _ v.0 v.1 in
      let q = then_yes (denoted c Γ at) (constants.constant_at at.from) w.0 w.1 in
      ((q.0, q.1), tt)
  constant_read (constant.Text at) o n e = tt

  pub constants_read : (o : Ordinal) (seen own : List ℤ) (ks : List Constant) (ns : List ℤ) → steps
      (next_label c Γ o seen) own ks ≡ Yes ns → Found c Γ (all (map constant_uses ks))
  constants_read o seen own [] ns e = tt
  constants_read o seen own (k ∷ ks) ns e =
      let one = then_yes (next_label c Γ o seen own k) _ ns e in
      let n = then_yes (case_label c Γ o k) _ one.0 one.1 in
      found_both c Γ (constant_uses k) (all (map constant_uses ks)) (constant_read k o n.0 n.1)
      (constants_read o seen one.0 ks ns one.2)

  -- ---- expressions

  pub expr_read : (x : Expr) (cs : List Change) (v : Value × List Change) → (operand c Γ x).value cs ≡ Yes v → Found c Γ
      (expr_uses x)
  expr_read x cs v e = (exprs_told c Γ x).value cs v e

  pub condition_read : (x : Expr) (cs : List Change) (t : Tree.Expr × List Change) → condition_at c Γ x cs ≡ Yes t
      → Found c Γ (expr_uses x)
  condition_read x cs t e = (let v = then_yes ((operand c Γ x).value cs) _ t e in expr_read x cs v.0 v.1)

  bound_read : (o : Ordinal) (x : Expr) (cs : List Change) (t : Tree.Expr × List Change) → bound_at c Γ o x cs ≡ Yes t
      → Found c Γ (expr_uses x)
  bound_read o x cs t e = (let v = then_yes ((operand c Γ x).value cs) _ t e in expr_read x cs v.0 v.1)

  pub head_read : (name : Span) (x : Expr) (direction : Direction) (y : Expr) (cs : List Change)
      (t : Head × List Change)
      → for_head c Γ name x direction y cs ≡ Yes t → Found c Γ (name ∷ expr_uses x ++ expr_uses y)
  head_read name x direction y cs t e =
      let control = then_yes (control_of c Γ name cs) _ t e in
      let q = then_still (denoted c Γ name) cs _ control.0 control.1 in
      let low = then_yes (bound_at c Γ control.0.0.1 x control.0.1) _ t control.2 in
      let high = then_yes (bound_at c Γ control.0.0.1 y low.0.1) _ t low.2 in (
        (q.0, q.1),
        found_both c Γ (expr_uses x) (expr_uses y) (bound_read control.0.0.1 x control.0.1 low.0 low.1)
            (bound_read control.0.0.1 y low.0.1 high.0 high.1),
      )
