-- What statements have that the lowering needs, by their derivations (6.8).
use Rattle.std.proofs.Common.{◌≡◌, ℕ, zero, suc, Bool, true, false, List, [], ◌∷◌, ◌++◌, length, map, ℤ, refl, sym, ap}
use Rattle.std.proofs.Common.{subst}
use Rattle.ps_text.specs.declared.Span.{Span}
use Rattle.ps_syntax.specs.declared.expression.Expr.{Expr}
use Rattle.ps_syntax.specs.declared.expression.Variable as syntax
use Rattle.ps_syntax.specs.First.{first_of_constant, first_of_expr}
use Rattle.ps_syntax.specs.declared.statement.Constant.{Constant}
use Rattle.ps_syntax.specs.declared.statement.Element.{Element, out-Element, out-roll-Element}
use Rattle.ps_syntax.specs.declared.statement.Parameter.{Parameter}
use Rattle.ps_syntax.specs.declared.statement.Parameter.TheVariants as p
use Rattle.ps_syntax.specs.declared.statement.Statement as syntax_statement
use Rattle.ps_parse_grammar.specs.Symbols.{Tokens, Symbol, Separated, one, several, Terminated, exactly, trailing}
use Rattle.ps_parse_grammar.specs.Expressions.{IsVariable, expr_within}
use Rattle.ps_parse_grammar.specs.Statements as g
use Rattle.ps_parse_grammar.specs.Statements.{IsParameter, IsElement, InSequence, IsSequence, IsStatement}
use Rattle.ps_parse_grammar.specs.Statements.{statement_within}
use Rattle.ps_tree.specs.declared.types.Ordinal.{Ordinal}
use Rattle.ps_tree.specs.Tree as Tree
use Rattle.ps_tree.specs.Tree.{Program, Statement, Statements}
use Rattle.tac_code.specs.Sound.{IsLine, IsInteger}
use Rattle.ps_lower_layout.specs.Shapes.{Shape}
use Rattle.ps_lower_layout.specs.Paths.{NumberSort}
use Rattle.ps_lower_code.specs.Scopes.{Scope}
use Rattle.ps_lower_code.specs.Fits.{AllIntegers}
use Rattle.ps_check_names.specs.Constants.{ConstantValue, OrdinalConstant, TextConstant, constant}
use Rattle.ps_lower_accepted.proofs.Constants.{ConstantKnown, constant_known}
use Rattle.ps_lower_code.specs.Fits.{ExprFits, StatementFits, StatementsFit, ElementsFit}
use Rattle.ps_lower_accepted.proofs.Sound.{line_there}
use Rattle.ps_check_judgement.specs.Judged.{Yes, steps}
use Rattle.ps_check_judgement.specs.Changing.{each, through}
use Rattle.ps_check_judgement.proofs.Binds.{then_yes, provided_yes, inside_yes, no_yes}
use Rattle.ps_check_judgement.proofs.Impossible.{never}
use Rattle.ps_check_names.specs.Regions.{Context, Region, BlockRegion, RecordRegion, OwnNames}
use Rattle.ps_check_names.specs.Spelling.{line_in}
use Rattle.ps_check_expressions.specs.Names.{denoted}
use Rattle.ps_check_expressions.specs.Changed.{changed}
use Rattle.ps_check_expressions.specs.Values.{ordinal_of}
use Rattle.ps_check_expressions.specs.Expressions.{operand, variable_operand}
use Rattle.ps_check_statements.specs.Assignments.{target}
use Rattle.ps_check_statements.specs.Procedures.{procedure_statement}
use Rattle.ps_check_statements.specs.Structured.{TypedElement, case_constant, case_label, fresh, next_label, labels}
use Rattle.ps_check_statements.specs.Structured.{condition, control_at, unthreatened, bound, bound_at, Head, Opening}
use Rattle.ps_check_statements.specs.Structured.{repeated, with_control, record_region, opened, open_next}
use Rattle.ps_check_statements.specs.Statements.{statement_list, element_list, condition_at, governed, index_at}
use Rattle.ps_check_statements.specs.Statements.{one_element, elements, control_of, for_head, for_behind, statement}
use Rattle.ps_check_statements.specs.Statements.{element, statements}
use Rattle.ps_check_statements.proofs.Equations.{statement_empty, statement_assign, statement_call, statement_compound}
use Rattle.ps_check_statements.proofs.Equations.{statement_if, statement_if_else, statement_case, statement_while}
use Rattle.ps_check_statements.proofs.Equations.{statement_repeat, statement_for, statement_with, element_is}
use Rattle.ps_lower_accepted.proofs.Aims.{StatementsTell}
use Rattle.ps_lower_accepted.proofs.Assigned.{left_told, assigned_fits}
use Rattle.ps_lower_accepted.proofs.Calls.{ordinal_told}
use Rattle.ps_lower_accepted.proofs.Expressions.{expressions_tell, variables_within}
use Rattle.ps_lower_accepted.proofs.Lists.{Each, Gives, then_gives, same_gives, still_then, then_still}
use Rattle.ps_lower_accepted.proofs.Lists.{then_same, as_given, through_end, through_next, Images, each_gives}
use Rattle.ps_lower_accepted.proofs.Names.{denoted_stands}
use Rattle.ps_lower_accepted.proofs.Standing.{Here, BlocksStand, RegionsStand, RegionsKnown}
use Rattle.ps_lower_accepted.proofs.Tables.{Table}
use Rattle.ps_lower_accepted.proofs.Told.{bound_of, OperandTold}
use Rattle.ps_lower_accepted.proofs.Written.{ParameterTold}
use Rattle.ps_lower_accepted.proofs.StatementParts.{ControlKnown, OpenedSo, bound_fits, called_fits, condition_fits}
use Rattle.ps_lower_accepted.proofs.StatementParts.{control_there, one_opened}

number_there : (D : Table) (at : ℕ) (o : Ordinal) (v : ConstantValue) (n : ℤ) → ConstantKnown D v → case_constant at o v
    ≡ Yes n → IsInteger n
unfolding case_constant
number_there D at o (OrdinalConstant p m) n h q = subst IsInteger (provided_yes _ _ _ m n q).1 h.1
number_there D at o (TextConstant w) n h q = absurd (no_yes q)

-- all that the regions enclosing a statement give a meaning is known
blocks_known : (P : Program) (D : Table) (Γ : List Region) (chain : List ℕ) → BlocksStand P D Γ chain → RegionsKnown D
    (length P.domains) Γ
blocks_known P D [] chain st = tt
blocks_known P D (BlockRegion routine names known ∷ Γ) [] st = (st.0, blocks_known P D Γ [] st.2)
blocks_known P D (BlockRegion routine names known ∷ Γ) (r ∷ chain) st = (st.1, blocks_known P D Γ chain st.3)
blocks_known P D (RecordRegion type fields ∷ Γ) chain st = absurd st
blocks_known P D (OwnNames names defined ∷ Γ) chain st = absurd st

all_known : (P : Program) (D : Table) (Γ : List Region) (chain : List ℕ) (os : List Shape) → RegionsStand P D Γ chain os
    → RegionsKnown D (length P.domains) Γ
all_known P D (RecordRegion type fields ∷ Γ) chain [] st = absurd st
all_known P D (RecordRegion type fields ∷ Γ) chain (o ∷ os) st = (tt, all_known P D Γ chain os st.3)
all_known P D [] chain [] st = tt
all_known P D (BlockRegion routine names known ∷ Γ) chain [] st = blocks_known P D
    (BlockRegion routine names known ∷ Γ) chain st
all_known P D (OwnNames names defined ∷ Γ) chain [] st = absurd st
all_known P D [] chain (o ∷ os) st = absurd st
all_known P D (BlockRegion routine names known ∷ Γ) chain (o ∷ os) st = absurd st
all_known P D (OwnNames names defined ∷ Γ) chain (o ∷ os) st = absurd st

module _ (D : Table) (k : Scope) where
  -- a statement is read in a context of its own: its `for` statements have their control variables there
  abbrev StatementTells : (Bool → Symbol syntax_statement.Statement) → Type 0
  StatementTells symbol = (c : Context) (Γ : List Region) (os : List Shape) → Here c Γ D k os → (ends : Bool)
      (x : syntax_statement.Statement) (ts r : Tokens) → symbol ends x ts r → (t : Statement) → Gives
      (statement x c Γ) t → StatementFits k os t

  with_control_there : (c : Context) (Γ : List Region) (os : List Shape) (entry : ℕ) → Here c Γ D k os → Here
      (with_control c entry) Γ D k os
  with_control_there c Γ os entry here = record {
    stands = here.stands;
    domains = here.domains;
    targets = here.targets;
    outermost = here.outermost;
    bytes = here.bytes;
    short = here.short;
    lines = here.lines;
  }

  module _ (c : Context) where
    abbrev VariableTells : Symbol syntax.Variable → Type 0
    VariableTells symbol = (Γ : List Region) (os : List Shape) → Here c Γ D k os → (x : syntax.Variable) (ts r : Tokens)
        → symbol x ts r → OperandTold D k os (variable_operand c Γ x)

    abbrev ExprTells : Symbol Expr → Type 0
    ExprTells symbol = (Γ : List Region) (os : List Shape) → Here c Γ D k os → (x : Expr) (ts r : Tokens)
        → symbol x ts r → OperandTold D k os (operand c Γ x)

    next_opened : (expr : Symbol Expr) → VariableTells (IsVariable expr) → (x : syntax.Variable) (ts r : Tokens)
        → IsVariable expr x ts r → (os : List Shape) (o o' : Opening) → OpenedSo D k c os o → Gives (open_next c o x) o'
        → OpenedSo D k c os o'
    unfolding open_next
    next_opened expr tells x ts r d os o o' so q =
        let at = (variable_operand c o.1 x).first in
        let v = then_still (variable_operand c o.1 x).variable (opened at o) o' q in
        let region = then_yes (record_region at v.0.type) _ o' v.2 in
        let told = tells o.1 so.inner so.here x ts r d in
        subst (OpenedSo D k c os) (inside_yes _ o' region.2)
        (one_opened D k at c os so.inner o.0 o.1 v.0 region.0 so.here so.fits (told.variable v.0 v.1) region.1)

    all_opened : (expr : Symbol Expr) → VariableTells (IsVariable expr) → {separator : _} (xs : List syntax.Variable)
        (ts r : Tokens) → Separated separator (IsVariable expr) xs ts r → (os : List Shape) (o o' : Opening)
        → OpenedSo D k c os o → Gives (through (open_next c) o xs) o' → OpenedSo D k c os o'
    all_opened expr tells [] ts r d os o o' so q = elim d [ ]
    all_opened expr tells (x ∷ []) ts r (one d) os o o' so q =
        let y = through_next (open_next c) o x [] o' q in
        subst (OpenedSo D k c os) (through_end (open_next c) y.0 o' y.2)
        (next_opened expr tells x _ _ d os o y.0 so y.1)
    all_opened expr tells (x ∷ xs) ts r (several d rest) os o o' so q =
        let y = through_next (open_next c) o x xs o' q in
        all_opened expr tells xs _ _ rest os y.0 o' (next_opened expr tells x _ _ d os o y.0 so y.1) y.2

    -- ---- all statements, where those in them are known

    module _ (expr : Symbol Expr) (exprs_tell : ExprTells expr) (variables_tell : VariableTells (IsVariable expr))
        (inner : Bool → Symbol syntax_statement.Statement) (inner_tell : StatementTells inner) where
      one_of_sequence : (Γ : List Region) (os : List Shape) → Here c Γ D k os → (x : syntax_statement.Statement)
          (ts r : Tokens) → InSequence inner x ts r → (t : Statement) → Gives (statement x c Γ) t
          → StatementFits k os t
      one_of_sequence Γ os here x ts r (g.in_sequence {ends = ends} d) t q = inner_tell c Γ os here ends x _ _ d t q

      listed_fit : (Γ : List Region) (os : List Shape) → Here c Γ D k os → {separator : _}
          (xs : List syntax_statement.Statement) (ts r : Tokens) → Separated separator (InSequence inner) xs ts r
          → (list : List Statement) → Images (λ s. statement s c Γ) xs list → StatementsFit k os (statement_list list)
      listed_fit Γ os here [] ts r d list q = elim d [ ]
      listed_fit Γ os here (x ∷ []) ts r (one d) (t ∷ []) q = (one_of_sequence Γ os here x _ _ d t q.0, tt)
      listed_fit Γ os here (x ∷ xs) ts r (several d rest) (t ∷ list) q =
          (one_of_sequence Γ os here x _ _ d t q.0, listed_fit Γ os here xs _ _ rest list q.1)
      listed_fit Γ os here (x ∷ xs) ts r d [] q = absurd q
      listed_fit Γ os here (x ∷ []) ts r (one d) (t ∷ u ∷ list) q = absurd q.1

      sequence_fits : (Γ : List Region) (os : List Shape) → Here c Γ D k os → (xs : List syntax_statement.Statement)
          (ts r : Tokens) → IsSequence inner xs ts r → (ss : Statements) → Gives (statements c Γ xs) ss
          → StatementsFit k os ss
      unfolding statements
      sequence_fits Γ os here xs ts r d ss q =
          let list = then_same (each (λ s. statement s c Γ) xs) _ ss q in
          subst (StatementsFit k os) list.2 (listed_fit Γ os here xs ts r d list.0
          (each_gives (λ s. statement s c Γ) xs list.0 list.1))

      -- ---- case elements (6.8.3.5)

      label_there : (Γ : List Region) (os : List Shape) → Here c Γ D k os → (o : Ordinal) (x : Constant) (n : ℤ)
          → case_label c Γ o x ≡ Yes n → IsInteger n
      label_there Γ os here o x n q =
          let v = then_yes (constant c.text Γ x) (case_constant (first_of_constant x) o) n q in
          number_there D (first_of_constant x) o v.0 n
          (constant_known D (bound_of k) c.text Γ x v.0 here.bytes here.short
          (all_known k.program D Γ k.chain os here.stands) v.1) v.2

      one_more_integer : (ns : List ℤ) (n : ℤ) → AllIntegers ns → IsInteger n → AllIntegers (ns ++ n ∷ [])
      one_more_integer [] n h g = (g, tt)
      one_more_integer (m ∷ ns) n h g = (h.0, one_more_integer ns n h.1 g)

      labels_there : (Γ : List Region) (os : List Shape) → Here c Γ D k os → (o : Ordinal) (seen own : List ℤ)
          (xs : List Constant) (ns : List ℤ) → AllIntegers own → steps (next_label c Γ o seen) own xs ≡ Yes ns
          → AllIntegers ns
      labels_there Γ os here o seen own [] ns h q = subst AllIntegers (inside_yes own ns q) h
      labels_there Γ os here o seen own (x ∷ xs) ns h q =
          let more = then_yes (next_label c Γ o seen own x) _ ns q in
          let n = then_yes (case_label c Γ o x) (fresh (first_of_constant x) seen own) more.0 more.1 in
          let is = provided_yes _ _ _ (own ++ n.0 ∷ []) more.0 n.2 in
          labels_there Γ os here o seen more.0 xs ns
          (subst AllIntegers is.1 (one_more_integer own n.0 h (label_there Γ os here o x n.0 n.1))) more.2

      abbrev ElementSound : List Shape → TypedElement → Type 0
      ElementSound os t = AllIntegers t.0 × StatementFits k os t.1

      element_fits : (Γ : List Region) (os : List Shape) → Here c Γ D k os → (o : Ordinal) (seen : List ℤ) (x : Element)
          (ts r : Tokens) → IsElement inner x ts r → (t : TypedElement) → Gives (element x c Γ o seen) t
          → ElementSound os t
      unfolding labels
      element_fits Γ os here o seen x ts r (g.element cs y {ends = ends} ls d) t q =
          let z = out-roll-Element (record { constants = cs; statement = y }) in
          let e = still_then (labels c Γ o seen (out-Element x).constants) _ t (as_given (element_is c Γ x o seen) q) in
          let body = then_same (statement (out-Element x).statement c Γ) _ t e.2 in
          subst (ElementSound os) body.2 (
            labels_there Γ os here o seen []
                (out-Element x).constants e.0 tt e.1,
            inner_tell c Γ os here ends y _ _ d body.0
                (as_given (ap (λ u. statement u.statement c Γ) z) body.1),
          )

      elements_after : (os : List Shape) (es : List TypedElement) (t : TypedElement) → ElementsFit k os
          (element_list es) → ElementSound os t → ElementsFit k os (element_list (es ++ t ∷ []))
      elements_after os [] t h g = (g.1, tt, g.0)
      elements_after os (x ∷ es) t h g = (h.0, elements_after os es t h.1 g, h.2)

      -- the elements so far, after the constants that are seen
      abbrev DoneSound : List Shape → List ℤ × List TypedElement → Type 0
      DoneSound os done = ElementsFit k os (element_list done.1)

      next_element : (Γ : List Region) (os : List Shape) → Here c Γ D k os → (o : Ordinal) (x : Element) (ts r : Tokens)
          → IsElement inner x ts r → (done now : List ℤ × List TypedElement) → DoneSound os done → Gives
          (one_element c Γ o done (element x)) now → DoneSound os now
      next_element Γ os here o x ts r d done now h q =
          let t = then_same (element x c Γ o done.0) _ now q in
          subst (DoneSound os) t.2 (elements_after os done.1 t.0 h (element_fits Γ os here o done.0 x ts r d t.0 t.1))

      separated_elements : (Γ : List Region) (os : List Shape) → Here c Γ D k os → (o : Ordinal) → {separator : _}
          (xs : List Element) (ts r : Tokens) → Separated separator (IsElement inner) xs ts r
          → (done end : List ℤ × List TypedElement) → DoneSound os done → Gives
          (through (one_element c Γ o) done (map element xs)) end → DoneSound os end
      separated_elements Γ os here o [] ts r d done end h q = elim d [ ]
      separated_elements Γ os here o (x ∷ []) ts r (one d) done end h q =
          let y = through_next (one_element c Γ o) done (element x) [] end q in
          subst (DoneSound os) (through_end (one_element c Γ o) y.0 end y.2)
          (next_element Γ os here o x _ _ d done y.0 h y.1)
      separated_elements Γ os here o (x ∷ xs) ts r (several d rest) done end h q =
          let y = through_next (one_element c Γ o) done (element x) (map element xs) end q in
          separated_elements Γ os here o xs _ _ rest y.0 end (next_element Γ os here o x _ _ d done y.0 h y.1) y.2

      all_elements : (Γ : List Region) (os : List Shape) → Here c Γ D k os → (o : Ordinal) → {separator : _}
          (xs : List Element) (ts r : Tokens) → Terminated separator (IsElement inner) xs ts r
          → (end : List ℤ × List TypedElement) → Gives (through (one_element c Γ o) ([], []) (map element xs)) end
          → DoneSound os end
      all_elements Γ os here o xs ts r (exactly d) end q = separated_elements Γ os here o xs _ _ d ([], []) end
          tt q
      all_elements Γ os here o xs ts r (trailing d) end q = separated_elements Γ os here o xs _ _ d ([], []) end
          tt q

      elements_fit : (Γ : List Region) (os : List Shape) → Here c Γ D k os → (o : Ordinal) → {separator : _}
          (xs : List Element) (ts r : Tokens) → Terminated separator (IsElement inner) xs ts r
          → (list : List TypedElement) → Gives (elements c Γ o (map element xs)) list → ElementsFit k os
          (element_list list)
      elements_fit Γ os here o xs ts r d list q =
          let end = then_same (through (one_element c Γ o) ([], []) (map element xs)) _ list q in
          subst (λ l. ElementsFit k os (element_list l)) end.2 (all_elements Γ os here o xs ts r d end.0 end.1)

      parameter_told : (Γ : List Region) (os : List Shape) (here : Here c Γ D k os) → (x : Parameter) (ts r : Tokens)
          → IsParameter expr x ts r → ParameterTold D k os c Γ here x
      parameter_told Γ os here x ts r (g.unformatted {x = y} d) = (
        λ z e. subst (λ u. OperandTold D k os (operand c Γ u)) (plain_is y z e)
            (exprs_tell Γ os here y _ _ d),
        λ z w e. absurd (not_width y z w e),
      )
        where
          plain_of : Parameter → Expr → Expr
          plain_of (p.Plain u) d = u
          plain_of (p.Width u w) d = u

          plain_is : (y z : Expr) → p.Plain y ≡ p.Plain z → y ≡ z
          plain_is y z e = ap (λ u. plain_of u y) e

          is_plain : Parameter → Bool
          is_plain (p.Plain u) = true
          is_plain (p.Width u w) = false

          not_width : (y z w : Expr) → p.Plain y ≡ p.Width z w → ⊥
          not_width y z w e = never (sym (ap is_plain e))
      parameter_told Γ os here x ts r (g.formatted {x = y} {y = w} d d') = (
        λ z e. absurd (not_plain y w z e),
        λ z v e. (
          subst (λ u. OperandTold D k os (operand c Γ u)) (ap (λ u. first_in u y) e)
              (exprs_tell Γ os here y _ _ d),
          subst (λ u. OperandTold D k os (operand c Γ u)) (ap (λ u. second_in u w) e)
              (exprs_tell Γ os here w _ _ d'),
        ),
      )
        where
          first_in : Parameter → Expr → Expr
          first_in (p.Plain u) d = d
          first_in (p.Width u w) d = u

          second_in : Parameter → Expr → Expr
          second_in (p.Plain u) d = d
          second_in (p.Width u w) d = w

          is_plain : Parameter → Bool
          is_plain (p.Plain u) = true
          is_plain (p.Width u w) = false

          not_plain : (y w z : Expr) → p.Width y w ≡ p.Plain z → ⊥
          not_plain y w z e = never (ap is_plain e)

      parameters_told : (Γ : List Region) (os : List Shape) (here : Here c Γ D k os) → {separator : _}
          (xs : List Parameter) (ts r : Tokens) → Separated separator (IsParameter expr) xs ts r → Each
          (ParameterTold D k os c Γ here) xs
      parameters_told Γ os here [] ts r d = elim d [ ]
      parameters_told Γ os here (x ∷ []) ts r (one d) = (parameter_told Γ os here x _ _ d, tt)
      parameters_told Γ os here (x ∷ xs) ts r (several d rest) =
          (parameter_told Γ os here x _ _ d, parameters_told Γ os here xs _ _ rest)

      call_fits : (Γ : List Region) (os : List Shape) (here : Here c Γ D k os) (at : Span) (xs : List Parameter)
          (t : Statement) → Each (ParameterTold D k os c Γ here) xs → Gives (procedure_statement c Γ at xs) t
          → StatementFits k os t
      call_fits Γ os here at xs t told q =
          let point = still_then (denoted c Γ at) _ t q in
          called_fits D k os c Γ here at.from xs point.0 t told
          (denoted_stands c Γ D k os here at point.0 point.1) point.2

      condition_there : (Γ : List Region) (os : List Shape) → Here c Γ D k os → (x : Expr) (ts r : Tokens) → expr x ts r
          → (e : Tree.Expr) → Gives (condition_at c Γ x) e → ExprFits k os e NumberSort
      condition_there Γ os here x ts r d e q =
          let v = then_still (operand c Γ x).value (condition (first_of_expr x)) e q in
          let told = exprs_tell Γ os here x ts r d in
          condition_fits D k os (first_of_expr x) v.0 e (told.value v.0 v.1) v.2

      bound_there : (Γ : List Region) (os : List Shape) → Here c Γ D k os → (o : Ordinal) (x : Expr) (ts r : Tokens)
          → expr x ts r → (e : Tree.Expr) → Gives (bound_at c Γ o x) e → ExprFits k os e NumberSort
      bound_there Γ os here o x ts r d e q =
          let v = then_still (operand c Γ x).value (bound (first_of_expr x) o) e q in
          let told = exprs_tell Γ os here x ts r d in
          bound_fits D k os (first_of_expr x) o v.0 e (told.value v.0 v.1) v.2

      -- a condition, and the statement that it governs
      governed_fits : (Γ : List Region) (os : List Shape) → Here c Γ D k os → (x : Expr) (ts r : Tokens) → expr x ts r
          → (ends : Bool) (y : syntax_statement.Statement) (us w : Tokens) → inner ends y us w
          → (p : Tree.Expr × Statement) → Gives (governed c Γ x (statement y)) p → ExprFits k os p.0 NumberSort
          × StatementFits k os p.1
      governed_fits Γ os here x ts r d ends y us w d' p q =
          let test = then_gives (condition_at c Γ x) _ p q in
          let body = then_same (statement y c Γ) _ p test.2 in
          subst (λ z. ExprFits k os z.0 NumberSort × StatementFits k os z.1) body.2
          (condition_there Γ os here x ts r d test.0 test.1, inner_tell c Γ os here ends y us w d' body.0 body.1)

      -- ---- for (6.8.3.9)

      control_known : (Γ : List Region) (os : List Shape) → Here c Γ D k os → (name : Span) (x : ℕ × Ordinal) → Gives
          (control_of c Γ name) x → ControlKnown D k os x
      control_known Γ os here name x q =
          let point = still_then (denoted c Γ name) _ x q in
          let control = still_then (control_at name.from point.0) _ x point.2 in
          let change = then_gives (changed c (Tree.Variable (Tree.Entry 0 control.0.0) Tree.no_selector) name.from) _ x
          control.2 in
          let free = still_then (unthreatened c control.0.0) _ x change.2 in
          subst (ControlKnown D k os) (same_gives control.0 x free.2)
          (control_there D k os name.from point.0 control.0
          (denoted_stands c Γ D k os here name point.0 point.1) control.1)

      record HeadSound (os : List Shape) (h : Head) : Type 0 where
        control : ControlKnown D k os (h.variable, h.type)
        from : IsLine h.first_line
        to : IsLine h.last_line
        first : ExprFits k os h.first NumberSort
        last : ExprFits k os h.last NumberSort

      head_fits : (Γ : List Region) (os : List Shape) → Here c Γ D k os → (name : Span) (x : Expr) (ts r : Tokens)
          → expr x ts r → (direction : _) (y : Expr) (us w : Tokens) → expr y us w → (h : Head) → Gives
          (for_head c Γ name x direction y) h → HeadSound os h
      head_fits Γ os here name x ts r d direction y us w d' h q =
          let control = then_gives (control_of c Γ name) _ h q in
          let first = then_gives (bound_at c Γ control.0.1 x) _ h control.2 in
          let last = then_same (bound_at c Γ control.0.1 y) _ h first.2 in
          subst (HeadSound os) last.2 (record {
            control = control_known Γ os here name control.0 control.1;
            from = line_there c.text (first_of_expr x) here.lines;
            to = line_there c.text (first_of_expr y) here.lines;
            first = bound_there Γ os here control.0.1 x ts r d first.0 first.1;
            last = bound_there Γ os here control.0.1 y us w d' last.0 last.1;
          })

      repeated_fits : (os : List Shape) (h : Head) (body : Statement) → HeadSound os h → StatementFits k os body
          → StatementFits k os (repeated h body)
      repeated_fits os h body s inside_body =
          (s.control.0, s.first, s.last, inside_body, s.control.1, s.from, s.to)

      statements_tell : (Γ : List Region) (os : List Shape) → Here c Γ D k os → (ends : Bool)
          (x : syntax_statement.Statement) (ts r : Tokens) → IsStatement expr inner ends x ts r → (t : Statement)
          → Gives (statement x c Γ) t → StatementFits k os t
      statements_tell Γ os here ends x ts r g.empty t q = subst (StatementFits k os)
          (same_gives _ t (as_given (statement_empty c Γ) q)) tt
      statements_tell Γ os here ends x ts r (g.assign {v = v} {at = at} {x = y} d d') t q =
          let place = then_gives (target c Γ v) _ t (as_given (statement_assign c Γ v at y) q) in
          let change = then_gives (changed c place.0.place (variable_operand c Γ v).first) _ t place.2 in
          let value = then_still (operand c Γ y).value _ t change.2 in
          let told = exprs_tell Γ os here y _ _ d' in
          assigned_fits D k os at.from place.0 value.0 (line_in c.text at.from) (line_there c.text at.from here.lines) t
          (left_told D k os c Γ here (variable_operand c Γ v) place.0 (variables_tell Γ os here v _ _ d) place.1)
          (told.value value.0 value.1) value.2
      statements_tell Γ os here ends x ts r (g.procedure {at = at}) t q = call_fits Γ os here at [] t tt
          (as_given (statement_call c Γ at []) q)
      statements_tell Γ os here ends x ts r (g.call {at = at} {xs = xs} d) t q = call_fits Γ os here at xs t
          (parameters_told Γ os here xs _ _ d) (as_given (statement_call c Γ at xs) q)
      statements_tell Γ os here ends x ts r (g.compound {xs = xs} d) t q =
          let body = then_same (statements c Γ xs) _ t (as_given (statement_compound c Γ xs) q) in
          subst (StatementFits k os) body.2 (sequence_fits Γ os here xs _ _ d body.0 body.1)
      statements_tell Γ os here ends x ts r (g.if_then {c = y} {x = z} {ends = e} d d') t q =
          let p = then_same (governed c Γ y (statement z)) _ t (as_given (statement_if c Γ y z) q) in
          let a = governed_fits Γ os here y _ _ d e z _ _ d' p.0 p.1 in
          subst (StatementFits k os) p.2 a
      statements_tell Γ os here ends x ts r (g.if_else {c = y} {x = z} {y = w} d d' d'') t q =
          let p = then_gives (governed c Γ y (statement z)) _ t (as_given (statement_if_else c Γ y z w) q) in
          let other = then_same (statement w c Γ) _ t p.2 in
          let a = governed_fits Γ os here y _ _ d false z _ _ d' p.0 p.1 in
          let e = inner_tell c Γ os here ends w _ _ d'' other.0 other.1 in
          subst (StatementFits k os) other.2 (a.0, a.1, e)
      statements_tell Γ os here ends x ts r (g.case {at = at} {x = y} {xs = xs} d d') t q =
          let index = then_gives (index_at c Γ y) _ t (as_given (statement_case c Γ at y xs) q) in
          let v = then_still (operand c Γ y).value (ordinal_of (first_of_expr y)) index.0 index.1 in
          let told = exprs_tell Γ os here y _ _ d in
          let list = then_same (elements c Γ index.0.1 (map element xs)) _ t index.2 in
          let a = (ordinal_told D k os (first_of_expr y) v.0 index.0 (told.value v.0 v.1) v.2).1 in
          let b = elements_fit Γ os here index.0.1 xs _ _ d' list.0 list.1 in
          subst (StatementFits k os) list.2 (a, b, line_there c.text at.from here.lines)
      statements_tell Γ os here ends x ts r (g.while {c = y} {x = z} d d') t q =
          let p = then_same (governed c Γ y (statement z)) _ t (as_given (statement_while c Γ y z) q) in
          let a = governed_fits Γ os here y _ _ d ends z _ _ d' p.0 p.1 in
          subst (StatementFits k os) p.2 a
      statements_tell Γ os here ends x ts r (g.repeat {xs = xs} {c = y} d d') t q =
          let body = then_gives (statements c Γ xs) _ t (as_given (statement_repeat c Γ xs y) q) in
          let test = then_same (condition_at c Γ y) _ t body.2 in
          subst (StatementFits k os) test.2
          (sequence_fits Γ os here xs _ _ d body.0 body.1, condition_there Γ os here y _ _ d' test.0 test.1)
      statements_tell Γ os here ends x ts r (g.for direction {name = name} {x = y} {y = z} {z = w} d d' d'') t q =
          let head = then_gives (for_head c Γ name y direction z) (for_behind c Γ (statement w)) t
          (as_given (statement_for c Γ name y direction z w) q) in
          let body = then_same (statement w (with_control c head.0.variable) Γ) _ t head.2 in
          subst (StatementFits k os) body.2 (repeated_fits os head.0 body.0
          (head_fits Γ os here name y _ _ d direction z _ _ d' head.0 head.1)
          (inner_tell (with_control c head.0.variable) Γ os
          (with_control_there c Γ os head.0.variable here) ends w _ _ d'' body.0 body.1))
      statements_tell Γ os here ends x ts r (g.with {vs = vs} {x = y} d d') t q =
          let o = then_gives (through (open_next c) ([], Γ) vs) _ t (as_given (statement_with c Γ vs y) q) in
          let so = all_opened expr variables_tell vs _ _ d os ([], Γ) o.0 (record {
            inner = os;
            here = here;
            fits = refl;
          }) o.1 in
          let body = then_same (statement y c o.0.1) _ t o.2 in
          subst (StatementFits k os) body.2
          (so.inner, so.fits, inner_tell c o.0.1 so.inner so.here ends y _ _ d' body.0 body.1)

  all_statements : (n : ℕ) → StatementTells (statement_within n)
  all_statements zero c Γ os here ends x ts r d t q = absurd d
  all_statements (suc n) c Γ os here ends x ts r d t q = statements_tell c (expr_within n)
      (λ Γ os here x ts r d. expressions_tell c Γ D k os here n x ts r d)
      (λ Γ os here x ts r d. variables_within c Γ D k os here n x ts r d) (statement_within n)
      (all_statements n) Γ os here ends x ts r d t q

  pub sequences_fit : (c : Context) (n : ℕ) (Γ : List Region) (os : List Shape) → Here c Γ D k os
      → (xs : List syntax_statement.Statement) (ts r : Tokens) → IsSequence (statement_within n) xs ts r
      → (ss : Statements) → Gives (statements c Γ xs) ss → StatementsFit k os ss
  sequences_fit c n = sequence_fits c (expr_within n)
      (λ Γ os here x ts r d. expressions_tell c Γ D k os here n x ts r d)
      (λ Γ os here x ts r d. variables_within c Γ D k os here n x ts r d) (statement_within n) (all_statements n)

pub statements_tell_all : StatementsTell
statements_tell_all c Γ D k os here n xs ts r d ss q = sequences_fit D k c n Γ os here xs ts r d ss q
