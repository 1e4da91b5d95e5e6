-- Each name used in a statement that is read is found there, within the records that are opened around it.
use Rattle.std.proofs.Common.{◌≡◌, ℕ, ℤ, List, [], ◌∷◌, ◌++◌, map, refl, sym, ap, ◌∙◌, subst}
use Rattle.ps_check.proofs.EachItem.{each_append}
use Rattle.ps_syntax.specs.declared.expression.Expr.{Expr}
use Rattle.ps_syntax.specs.declared.expression.Variable as syntax
use Rattle.ps_syntax.specs.declared.statement.Statement.{Statement, roll-Statement, map-Statement}
use Rattle.ps_syntax.specs.declared.statement.Element.{Element, roll-Element, map-Element}
use Rattle.ps_syntax.specs.declared.statement.Statement.TheOpen.{Statement-F, Element-F}
use Rattle.ps_syntax.specs.declared.statement.Statement.TheFolds.{fold-Element, fold-roll-Statement, fold-roll-Element}
use Rattle.ps_syntax.specs.declared.statement.Statement.TheFolds.{ind-Statement}
use Rattle.ps_tree.specs.declared.types.Ordinal.{Ordinal}
use Rattle.ps_tree.specs.Types.{DataType, FieldList, RecordType}
use Rattle.ps_tree.specs.Tree as Tree
use Rattle.ps_check_judgement.specs.declared.change.Change.{Change}
use Rattle.ps_check_judgement.specs.Judged as j
use Rattle.ps_check_judgement.specs.Judged.{Judged, Yes, steps}
use Rattle.ps_check_judgement.specs.Changing.{◌>>=◌, same, still, one_more, each, through}
use Rattle.ps_check_judgement.proofs.Binds.{no_yes, inside_yes, then_yes}
use Rattle.ps_check_names.specs.Spelling.{spelled}
use Rattle.ps_check_names.specs.Regions.{Context, Region, RecordRegion, Point, find}
use Rattle.ps_check_declarations.specs.Points.{Points, all}
use Rattle.ps_check_expressions.specs.Expressions.{operand, variable_operand}
use Rattle.ps_check_statements.specs.Structured.{TypedElement, labels, Opening, record_region, opened, open_next}
use Rattle.ps_check_statements.specs.Statements.{Reading, ElementReading, sequence_in, condition_at, governed, index_at}
use Rattle.ps_check_statements.specs.Statements.{one_element, elements, for_head, with_behind, statement_step}
use Rattle.ps_check_statements.specs.Statements.{element_step, statement, element, statements}
use Rattle.ps_check_laws.specs.Uses.{opened_regions}
use Rattle.ps_check_laws.specs.Definitions.{joined}
use Rattle.ps_check_laws.specs.Occurrences as uses
use Rattle.ps_check_laws.specs.Occurrences.{Use, Uses, plain, within, with_uses, expr_uses, variable_uses}
use Rattle.ps_check_laws.specs.Occurrences.{constant_uses, parameter_uses, statement_uses, statements_uses}
use Rattle.ps_check_laws.specs.Meanings.{IsRegion, AreAround}
use Rattle.ps_check_laws.specs.InStatements.{in_loops, IsOpened, AreOpened, none_opened, one_opened, IsDenotedThere}
use Rattle.ps_syntax.specs.declared.program.Program as syntax_program
use Rattle.ps_check_laws.proofs.Found.{uses_find_what_they_denote}
use Rattle.ps_check_laws.proofs.Lists.{then_still, last_still, Each}
use Rattle.ps_check_laws.proofs.ExpressionParts.{Found}
use Rattle.ps_check_laws.proofs.Expressions.{variables_told}
use Rattle.ps_syntax.proofs.Nodes.{parts}
use Rattle.ps_check_laws.proofs.StatementParts.{assigned_found, condition_read, constants_read, expr_read, head_read}
use Rattle.ps_check_laws.proofs.StatementParts.{procedure_read}

abbrev element_uses : Element → Uses
element_uses = fold-Element Uses Uses uses.statement_step uses.element_step

-- ---- more than one record

opened_more : (outer : List (DataType × FieldList)) (type : DataType) (fields : FieldList) (Γ : List Region)
    → opened_regions (outer ++ (type, fields) ∷ []) ++ Γ ≡ opened_regions outer ++ RecordRegion type fields ∷ Γ
opened_more [] type fields Γ = refl
opened_more (r ∷ outer) type fields Γ = ap (λ l. RecordRegion r.0 r.1 ∷ l) (opened_more outer type fields Γ)

pub record IsRecord (type : DataType) (r : Region) : Type 0 where
  pub fields : FieldList
  pub is : r ≡ RecordRegion type fields
  pub region : (at : ℕ) → record_region at type ≡ Yes (RecordRegion type fields)

region_is : (at : ℕ) (type : DataType) (r : Region) → record_region at type ≡ Yes r → IsRecord type r
unfolding record_region
region_is at (RecordType a packed fields) r e = record {
  fields = fields;
  is = sym (inside_yes (RecordRegion (RecordType a packed fields) fields) r e);
  region = λ k. refl;
}
region_is at type r e = absurd (no_yes e)

module _ (c : Context) where
  -- a use is read within some regions
  pub record IsRead (Γ : List Region) (u : Use) : Type 0 where
    pub opened : List (DataType × FieldList)
    pub are : AreOpened c Γ u.opened opened
    pub point : Point
    pub found : find (opened_regions opened ++ Γ) (spelled c.text u.name) u.name.from ≡ Yes point

  abbrev pub AreRead : List Region → Uses → Type 0
  AreRead Γ us = Each (IsRead Γ) us

  both_read : (Γ : List Region) (us ws : Uses) → AreRead Γ us → AreRead Γ ws → AreRead Γ (us ++ ws)
  both_read Γ us ws a b = each_append (IsRead Γ) us ws a b

  plainly : (Γ : List Region) (names : Points) → Found c Γ names → AreRead Γ (plain names)
  plainly Γ [] t = tt
  plainly Γ (name ∷ names) t = (
    record {
      opened = [];
      are = none_opened;
      point = t.0.0;
      found = t.0.1;
    },
    plainly Γ names t.1,
  )

  -- ---- one more record, outside the others

  module _ (Γ : List Region) (x : syntax.Variable) (type : DataType) (fields : FieldList)
      (first : IsOpened c Γ [] x type fields) where
    opened_within : (xs : List syntax.Variable) (opened : List (DataType × FieldList)) → AreOpened c
        (RecordRegion type fields ∷ Γ) xs opened → AreOpened c Γ (xs ++ x ∷ []) (opened ++ (type, fields) ∷ [])
    opened_within xs opened none_opened = one_opened x [] type fields [] first none_opened
    opened_within xs opened (one_opened y ys of_type of_fields outer is rest) =
        one_opened y (ys ++ x ∷ []) of_type of_fields (outer ++ (type, fields) ∷ [])
        (record {
          controls = is.controls;
          before = is.before;
          behind = is.behind;
          variable = is.variable;
          reading = ap (λ l. (variable_operand (in_loops c is.controls) l y).variable is.before)
              (opened_more outer type fields Γ) ∙ is.reading;
          is_of = is.is_of;
          is_record = is.is_record;
        })
        (opened_within ys outer rest)

    read_within : (us : Uses) → AreRead (RecordRegion type fields ∷ Γ) us → AreRead Γ (within x us)
    read_within [] t = tt
    read_within (u ∷ us) t = (
      record {
        opened = t.0.opened ++ (type, fields) ∷ [];
        are = opened_within u.opened t.0.opened t.0.are;
        point = t.0.point;
        found = ap (λ l. find l (spelled c.text u.name) u.name.from) (opened_more t.0.opened type fields Γ) ∙ t.0.found;
      },
      read_within us t.1,
    )

  -- within `for` statements with some control variables
  abbrev StatementReads : Reading → Uses → Type 0
  StatementReads s us = (loops : List ℕ) (Γ : List Region) (cs : List Change) (t : Tree.Statement × List Change) → s
      (in_loops c loops) Γ cs ≡ Yes t → AreRead Γ us

  with_read : (xs : List syntax.Variable) (loops : List ℕ) (Γ : List Region) (places : List Tree.Place) (s : Reading)
      (us : Uses) → StatementReads s us → (cs : List Change) (t : Tree.Statement × List Change) → with_behind
      (in_loops c loops) (places, Γ) xs s cs ≡ Yes t → AreRead Γ (with_uses xs us)
  unfolding open_next
  with_read [] loops Γ places s us told cs t e =
      (let body = then_yes (s (in_loops c loops) Γ cs) _ t e in told loops Γ cs body.0 body.1)
  with_read (x ∷ xs) loops Γ places s us told cs t e =
      let l = in_loops c loops in
      let at = (variable_operand l Γ x).first in
      let o = then_yes (through (open_next l) (places, Γ) (x ∷ xs) cs) _ t e in
      let one = then_yes (open_next l (places, Γ) x cs) _ o.0 o.1 in
      let v = then_yes ((variable_operand l Γ x).variable cs) _ one.0 one.1 in
      let a = last_still (opened at (places, Γ) v.0.0) v.0.1 one.0 v.2 in
      let r = then_yes (record_region at v.0.0.type) _ a.0 a.1 in
      let is = region_is at v.0.0.type r.0 r.1 in
      let first : IsOpened c Γ [] x v.0.0.type is.fields = record {
        controls = loops;
        before = cs;
        behind = v.0.1;
        variable = v.0.0;
        reading = v.1;
        is_of = refl;
        is_record = is.region;
      } in
      let ps = places ++ v.0.0.place ∷ [] in
      let opening : a.0 ≡ (ps, RecordRegion v.0.0.type is.fields ∷ Γ) = sym (inside_yes (ps, r.0 ∷ Γ) a.0 r.2)
      ∙ ap (λ (z : Region). (ps, z ∷ Γ)) is.is in
      let next : one.0 ≡ ((ps, RecordRegion v.0.0.type is.fields ∷ Γ), v.0.1) = sym a.2
      ∙ ap (λ (z : Opening). (z, v.0.1)) opening in
      let behind : with_behind l one.0.0 xs s one.0.1
      ≡ Yes t = ap (λ (q : Judged (Opening × List Change)). j.◌>>=◌ q
      (λ (p : Opening × List Change). (s l p.0.1 >>= (λ body. same (Tree.With p.0.0 body))) p.1)) one.2 ∙ o.2 in
      let rest = with_read xs loops (RecordRegion v.0.0.type is.fields ∷ Γ) ps s us told v.0.1 t
      (ap (λ (z : Opening × List Change). with_behind l z.0 xs s z.1) (sym next) ∙ behind) in
      let here = plainly Γ (variable_uses x) ((variables_told l Γ x).variable cs v.0 v.1) in
      both_read Γ (plain (variable_uses x)) (within x (with_uses xs us)) here
      (read_within Γ x v.0.0.type is.fields first (with_uses xs us) rest)

  -- ---- each construct

  abbrev StatementTold : Statement → Type 0
  StatementTold x = StatementReads (statement x) (statement_uses x)

  abbrev ElementTold : Element → Type 0
  ElementTold x = (loops : List ℕ) (Γ : List Region) (o : Ordinal) (seen : List ℤ) (cs : List Change)
      (t : TypedElement × List Change) → element x (in_loops c loops) Γ o seen cs ≡ Yes t → AreRead Γ (element_uses x)

  abbrev AtStatement : Type 0
  AtStatement = (x : Statement) × StatementTold x

  abbrev AtElement : Type 0
  AtElement = (x : Element) × ElementTold x

  sequence_read : (loops : List ℕ) (Γ : List Region) (ys : List AtStatement) (s t : List Tree.Statement × List Change)
      → steps (one_more (λ (r : Reading). r (in_loops c loops) Γ)) s (map statement (parts ys)) ≡ Yes t → AreRead Γ
      (joined (map statement_uses (parts ys)))
  sequence_read loops Γ [] s t e = tt
  sequence_read loops Γ (y ∷ ys) s t e =
      let one = then_yes (one_more (λ (r : Reading). r (in_loops c loops) Γ) s (statement y.0)) _ t e in
      let a = then_yes (statement y.0 (in_loops c loops) Γ s.1) _ one.0 one.1 in
      both_read Γ (statement_uses y.0) (joined (map statement_uses (parts ys))) (y.1 loops Γ s.1 a.0 a.1)
      (sequence_read loops Γ ys one.0 t one.2)

  elements_read : (loops : List ℕ) (Γ : List Region) (o : Ordinal) (ys : List AtElement)
      (s t : (List ℤ × List TypedElement) × List Change) → steps
      (λ (s : (List ℤ × List TypedElement) × List Change) (r : ElementReading). one_element
      (in_loops c loops) Γ o s.0 r s.1) s (map element (parts ys)) ≡ Yes t → AreRead Γ
      (joined (map element_uses (parts ys)))
  elements_read loops Γ o [] s t e = tt
  elements_read loops Γ o (y ∷ ys) s t e =
      let one = then_yes (one_element (in_loops c loops) Γ o s.0 (element y.0) s.1) _ t e in
      let a = then_yes (element y.0 (in_loops c loops) Γ o s.0.0 s.1) _ one.0 one.1 in
      both_read Γ (element_uses y.0) (joined (map element_uses (parts ys))) (y.1 loops Γ o s.0.0 s.1 a.0 a.1)
      (elements_read loops Γ o ys one.0 t one.2)

  step_is : (z : Statement-F Statement Element) → statement (roll-Statement z) ≡ statement_step
      (map-Statement Statement Element Reading ElementReading statement element z)
  unfolding statement element
  step_is z = fold-roll-Statement Reading ElementReading statement_step element_step z

  uses_are : (z : Statement-F Statement Element) → statement_uses (roll-Statement z) ≡ uses.statement_step
      (map-Statement Statement Element Uses Uses statement_uses element_uses z)
  uses_are z = fold-roll-Statement Uses Uses uses.statement_step uses.element_step z

  told_as : (x : Statement) (reading : Reading) (us : Uses) → statement x ≡ reading → statement_uses x ≡ us
      → StatementReads reading us → StatementTold x
  told_as x reading us a b told loops Γ cs t e = subst (AreRead Γ) (sym b)
      (told loops Γ cs t (ap (λ (r : Reading). r (in_loops c loops) Γ cs) (sym a) ∙ e))

  -- a condition, and the statement that it governs
  governed_read : (loops : List ℕ) (Γ : List Region) (x : Expr) (s : AtStatement) (cs : List Change)
      (t : (Tree.Expr × Tree.Statement) × List Change) → governed (in_loops c loops) Γ x (statement s.0) cs ≡ Yes t
      → AreRead Γ (plain (expr_uses x) ++ statement_uses s.0)
  governed_read loops Γ x s cs t e =
      let a = then_yes (condition_at (in_loops c loops) Γ x cs) _ t e in
      let b = then_yes (statement s.0 (in_loops c loops) Γ a.0.1) _ t a.2 in
      both_read Γ (plain (expr_uses x)) (statement_uses s.0)
      (plainly Γ (expr_uses x) (condition_read (in_loops c loops) Γ x cs a.0 a.1)) (s.1 loops Γ a.0.1 b.0 b.1)

  statement_layer : (y : Statement-F AtStatement AtElement) → StatementTold
      (roll-Statement (map-Statement AtStatement AtElement Statement Element (λ x. x.0) (λ x. x.0) y))
  unfolding statement_step
  statement_layer Statement-F.Empty = told_as (roll-Statement Statement-F.Empty) _ [] (step_is Statement-F.Empty)
      (uses_are Statement-F.Empty) (λ loops Γ cs t e. tt)
  statement_layer (Statement-F.Assign x at y) =
      let z : Statement-F Statement Element = Statement-F.Assign x at y in
      told_as (roll-Statement z) _ _ (step_is z) (uses_are z)
      (λ loops Γ cs t e. (let a = assigned_found (in_loops c loops) Γ x at y cs t e in both_read Γ
      (plain (variable_uses x)) (plain (expr_uses y)) (plainly Γ (variable_uses x) a.variable)
      (plainly Γ (expr_uses y) a.value)))
  statement_layer (Statement-F.Call name ps) =
      let z : Statement-F Statement Element = Statement-F.Call name ps in
      told_as (roll-Statement z) _ _ (step_is z) (uses_are z)
      (λ loops Γ cs t e. plainly Γ (name ∷ all (map parameter_uses ps))
      (procedure_read (in_loops c loops) Γ name ps cs t e))
  statement_layer (Statement-F.Compound ys) =
      let z : Statement-F Statement Element = Statement-F.Compound (parts ys) in
      told_as (roll-Statement z) _ _ (step_is z) (uses_are z)
      (λ loops Γ cs t e. (let ss = then_yes (sequence_in (in_loops c loops) Γ (map statement (parts ys)) cs) _ t e in
      let ts = then_yes (each (λ (r : Reading). r (in_loops c loops) Γ) (map statement (parts ys)) cs) _ ss.0 ss.1 in
      sequence_read loops Γ ys ([], cs) ts.0 ts.1))
  statement_layer (Statement-F.If x s) =
      let z : Statement-F Statement Element = Statement-F.If x s.0 in
      told_as (roll-Statement z) _ _ (step_is z) (uses_are z)
      (λ loops Γ cs t e. (let g = then_yes (governed (in_loops c loops) Γ x (statement s.0) cs) _ t e
      in governed_read loops Γ x s cs g.0 g.1))
  statement_layer (Statement-F.IfElse x s r) =
      let z : Statement-F Statement Element = Statement-F.IfElse x s.0 r.0 in
      told_as (roll-Statement z) _ _ (step_is z) (uses_are z)
      (λ loops Γ cs t e. (let g = then_yes (governed (in_loops c loops) Γ x (statement s.0) cs) _ t e in
      let d = then_yes (statement r.0 (in_loops c loops) Γ g.0.1) _ t g.2 in
      both_read Γ (plain (expr_uses x) ++ statement_uses s.0) (statement_uses r.0)
      (governed_read loops Γ x s cs g.0 g.1) (r.1 loops Γ g.0.1 d.0 d.1)))
  statement_layer (Statement-F.Case at x ys) =
      let z : Statement-F Statement Element = Statement-F.Case at x (parts ys) in
      told_as (roll-Statement z) _ _ (step_is z) (uses_are z)
      (λ loops Γ cs t e. (let l = in_loops c loops in
      let a = then_yes (index_at l Γ x cs) _ t e in
      let v = then_yes ((operand l Γ x).value cs) _ a.0 a.1 in
      let es = then_yes (elements l Γ a.0.0.1 (map element (parts ys)) a.0.1) _ t a.2 in
      let done = then_yes (through (one_element l Γ a.0.0.1) ([], []) (map element (parts ys)) a.0.1) _ es.0 es.1 in
      both_read Γ (plain (expr_uses x)) (joined (map element_uses (parts ys)))
      (plainly Γ (expr_uses x) (expr_read l Γ x cs v.0 v.1))
      (elements_read loops Γ a.0.0.1 ys (([], []), a.0.1) done.0 done.1)))
  statement_layer (Statement-F.While x s) =
      let z : Statement-F Statement Element = Statement-F.While x s.0 in
      told_as (roll-Statement z) _ _ (step_is z) (uses_are z)
      (λ loops Γ cs t e. (let g = then_yes (governed (in_loops c loops) Γ x (statement s.0) cs) _ t e
      in governed_read loops Γ x s cs g.0 g.1))
  statement_layer (Statement-F.Repeat ys x) =
      let z : Statement-F Statement Element = Statement-F.Repeat (parts ys) x in
      told_as (roll-Statement z) _ _ (step_is z) (uses_are z)
      (λ loops Γ cs t e. (let l = in_loops c loops in
      let ss = then_yes (sequence_in l Γ (map statement (parts ys)) cs) _ t e in
      let ts = then_yes (each (λ (r : Reading). r l Γ) (map statement (parts ys)) cs) _ ss.0 ss.1 in
      let a = then_yes (condition_at l Γ x ss.0.1) _ t ss.2 in
      both_read Γ (joined (map statement_uses (parts ys))) (plain (expr_uses x))
      (sequence_read loops Γ ys ([], cs) ts.0 ts.1)
      (plainly Γ (expr_uses x) (condition_read l Γ x ss.0.1 a.0 a.1))))
  statement_layer (Statement-F.For name x direction y s) =
      let z : Statement-F Statement Element = Statement-F.For name x direction y s.0 in
      told_as (roll-Statement z) _ _ (step_is z) (uses_are z)
      (λ loops Γ cs t e. (let l = in_loops c loops in
      let h = then_yes (for_head l Γ name x direction y cs) _ t e in
      let body = then_yes (statement s.0 (in_loops c (h.0.0.variable ∷ loops)) Γ h.0.1) _ t h.2 in
      both_read Γ (plain (name ∷ expr_uses x ++ expr_uses y)) (statement_uses s.0)
      (plainly Γ (name ∷ expr_uses x ++ expr_uses y) (head_read l Γ name x direction y cs h.0 h.1))
      (s.1 (h.0.0.variable ∷ loops) Γ h.0.1 body.0 body.1)))
  statement_layer (Statement-F.With xs s) =
      let z : Statement-F Statement Element = Statement-F.With xs s.0 in
      told_as (roll-Statement z) _ _ (step_is z) (uses_are z)
      (λ loops Γ cs t e. with_read xs loops Γ [] (statement s.0) (statement_uses s.0) s.1 cs t e)

  element_layer : (y : Element-F AtStatement AtElement) → ElementTold
      (roll-Element (map-Element AtStatement AtElement Statement Element (λ x. x.0) (λ x. x.0) y))
  unfolding statement element element_step labels
  element_layer y loops Γ o seen cs t e =
      let l = in_loops c loops in
      let z : Element-F Statement Element = record { constants = y.constants; statement = y.statement.0 } in
      let is : element (roll-Element z) l Γ o seen cs
      ≡ (still (labels l Γ o seen y.constants)
      >>= (λ own. statement y.statement.0 l Γ >>= (λ body. same (own, body)))) cs =
      ap (λ (r : ElementReading). r l Γ o seen cs)
      (fold-roll-Element Reading ElementReading statement_step element_step z) in
      let own = then_still (labels l Γ o seen y.constants) cs _ t (sym is ∙ e) in
      let body = then_yes (statement y.statement.0 l Γ cs) _ t own.2 in
      subst (AreRead Γ) (sym (fold-roll-Element Uses Uses uses.statement_step uses.element_step z))
      (both_read Γ (plain (all (map constant_uses y.constants))) (statement_uses y.statement.0)
      (plainly Γ (all (map constant_uses y.constants)) (constants_read l Γ o seen [] y.constants own.0 own.1))
      (y.statement.1 loops Γ cs body.0 body.1))

  all_told : (x : Statement) → StatementTold x
  all_told = ind-Statement StatementTold ElementTold
      (λ x y is. subst (λ z. StatementTold (roll-Statement z)) is (statement_layer y))
      (λ x y is. subst (λ z. ElementTold (roll-Element z)) is (element_layer y))

  list_read : (loops : List ℕ) (Γ : List Region) (xs : List Statement) (s t : List Tree.Statement × List Change) → steps
      (one_more (λ x. statement x (in_loops c loops) Γ)) s xs ≡ Yes t → AreRead Γ (statements_uses xs)
  list_read loops Γ [] s t e = tt
  list_read loops Γ (x ∷ xs) s t e =
      let one = then_yes (one_more (λ x. statement x (in_loops c loops) Γ) s x) _ t e in
      let a = then_yes (statement x (in_loops c loops) Γ s.1) _ one.0 one.1 in
      both_read Γ (statement_uses x) (statements_uses xs) (all_told x loops Γ s.1 a.0 a.1)
      (list_read loops Γ xs one.0 t one.2)

  pub statements_read : (Γ : List Region) (xs : List Statement) (cs : List Change) (t : Tree.Statements × List Change)
      → statements c Γ xs cs ≡ Yes t → AreRead Γ (statements_uses xs)
  unfolding statements
  statements_read Γ xs cs t e = (let list = then_yes (each (λ x. statement x c Γ) xs cs) _ t e
      in list_read c.controls Γ xs ([], cs) list.0 list.1)

-- what is read denotes what is found
pub denoted_there : (c : Context) (p : syntax_program.Program) (v : List ℕ) (n : ℕ) (r : Region) (outer : List Region)
    → IsRegion c.text p v n outer r → AreAround c.text p v outer
    → (us : Uses) → AreRead c (r ∷ outer) us → Each (IsDenotedThere c.text p v n c (r ∷ outer)) us
denoted_there c p v n r outer is around [] t = tt
denoted_there c p v n r outer is around (u ∷ us) t = (
  record {
    opened = t.0.opened;
    are = t.0.are;
    point = t.0.point;
    found = t.0.found;
    denotes = uses_find_what_they_denote c.text p v n r outer is around t.0.opened
        (spelled c.text u.name) u.name.from t.0.point t.0.found;
  },
  denoted_there c p v n r outer is around us t.1,
)
