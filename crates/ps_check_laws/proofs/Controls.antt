-- What the routines of a block change, and the control variables of its statements, which are not among that.
use Rattle.std.proofs.Common.{◌≡◌, ℕ, ℤ, suc, ◌+◌, Bool, true, false, List, [], ◌∷◌, ◌++◌, length, map, Option, Some}
use Rattle.std.proofs.Common.{None, refl, sym, ap, ◌∙◌, subst, append-nil, append_assoc, arith}
use Rattle.std.specs.Prelude.{if◌then◌else◌}
use Rattle.ps_text.specs.declared.Span.{Span}
use Rattle.ps_syntax.specs.declared.expression.Expr.{Expr}
use Rattle.ps_syntax.specs.declared.expression.Variable as syntax
use Rattle.ps_syntax.specs.declared.statement.Direction.{Direction}
use Rattle.ps_syntax.specs.declared.statement.Parameter.{Parameter}
use Rattle.ps_syntax.specs.declared.statement.Statement.{Statement, roll-Statement, map-Statement}
use Rattle.ps_syntax.specs.declared.statement.Element.{Element, roll-Element, map-Element}
use Rattle.ps_syntax.specs.declared.statement.Statement.TheOpen.{Statement-F, Element-F}
use Rattle.ps_syntax.specs.declared.statement.Statement.TheFolds.{fold-roll-Statement, fold-roll-Element, ind-Statement}
use Rattle.ps_syntax.specs.declared.program.Routine.{Routine}
use Rattle.ps_tree.specs.declared.types.Ordinal.{Ordinal}
use Rattle.ps_tree.specs.Types.{DataType, PointerType, SetType, is_assignable}
use Rattle.ps_tree.specs.Tree as Tree
use Rattle.ps_check_judgement.specs.declared.change.Change.{Change}
use Rattle.ps_check_judgement.specs.declared.refusal.Rule.TheVariants.{NotAssignable}
use Rattle.ps_check_judgement.specs.Judged.{Judged, Yes, steps}
use Rattle.ps_check_judgement.specs.Changing.{◌>>=◌, same, still, one_more, each, through}
use Rattle.ps_check_judgement.proofs.Binds.{no_yes, inside_yes, then_yes, provided_yes}
use Rattle.ps_check_judgement.proofs.Impossible.{none_some}
use Rattle.ps_check_names.specs.declared.meaning.Required.{Required}
use Rattle.ps_check_names.specs.declared.meaning.Required.TheVariants as required
use Rattle.ps_check_names.specs.Regions.{Context, Region, Point, BlockPoint, RoutineMeaning, RoutineParameterMeaning}
use Rattle.ps_check_names.specs.Regions.{RequiredMeaning}
use Rattle.ps_check_expressions.specs.Values.{Value, SimpleValue, SetValue, StructureValue, Variable}
use Rattle.ps_check_expressions.specs.Names.{denoted}
use Rattle.ps_check_expressions.specs.Changed.{changed, is_change_of, first_at}
use Rattle.ps_check_expressions.specs.Expressions.{operand, variable_operand}
use Rattle.ps_check_statements.specs.Assignments.{assigned, set_assigned, target, assignment}
use Rattle.ps_check_statements.specs.Procedures.{Places, read_of, write_of, new_variable, goes_with_pack, packed_from}
use Rattle.ps_check_statements.specs.Procedures.{unpacked_to, parameter_variable, parameter_index, first_of_parameter}
use Rattle.ps_check_statements.specs.Procedures.{places_of, read_parameters, write_parameters, new_statement, pack}
use Rattle.ps_check_statements.specs.Procedures.{pack_statement, unpack, unpack_statement, required_procedure}
use Rattle.ps_check_statements.specs.Procedures.{procedure_parameters, procedure_called, procedure_statement}
use Rattle.ps_check_statements.specs.Structured.{TypedElement, Head, control_at, unchanged, unthreatened, bound_at}
use Rattle.ps_check_statements.specs.Structured.{labels, repeated, with_control, open_next}
use Rattle.ps_check_statements.specs.Statements.{statement_list, element_list, Reading, ElementReading, sequence_in}
use Rattle.ps_check_statements.specs.Statements.{condition_at, governed, index_at, one_element, elements, control_of}
use Rattle.ps_check_statements.specs.Statements.{for_head, statement_step, element_step, statement, element}
use Rattle.ps_check_statements.specs.Statements.{statements}
use Rattle.ps_check.specs.Paths.{routine_block}
use Rattle.ps_check.proofs.EachItem.{each_append}
use Rattle.ps_check_laws.specs.Controls.{Loop, statement_loops, statements_loops, elements_loops, statements_control}
use Rattle.ps_check_laws.specs.Controls.{AreUnchanged, changes_by, changes_from}
use Rattle.ps_check_laws.specs.Threats.{is_entry, statement_threatens}
use Rattle.ps_check_laws.proofs.Threatened.{repeated_free, all_hand}
use Rattle.ps_check_laws.proofs.Lists.{then_still, last_still, Each}

-- ---- what the routines change

changes_last : (changes : ℕ → List Change) (k : ℕ) (done : List Routine) (x : Routine) → changes_from changes k
    (done ++ x ∷ []) ≡ changes_from changes k done ++ changes_by (changes (k + length done)) (routine_block x)
unfolding changes_from
changes_last changes k [] x = append-nil (changes_by (changes k) (routine_block x))
    ∙ (let z : k ≡ k + 0 = omega arith in ap (λ n. changes_by (changes n) (routine_block x)) z)
changes_last changes k (y ∷ done) x =
    let z : (k + 1) + length done ≡ k + suc (length done) = omega arith in
    ap (λ l. changes_by (changes k) (routine_block y) ++ l)
    (changes_last changes (k + 1) done x ∙ ap (λ n. changes_from changes (k + 1) done ++ changes_by (changes n)
    (routine_block x)) z)
    ∙ sym (append_assoc (changes_by (changes k) (routine_block y)) (changes_from changes (k + 1) done)
    (changes_by (changes (k + suc (length done))) (routine_block x)))

-- where one more routine comes after some
pub changes_next : (changes : ℕ → List Change) (done : List Routine) (x : Routine) → changes_from changes 0
    (done ++ x ∷ []) ≡ changes_from changes 0 done ++ changes_by (changes (length done)) (routine_block x)
changes_next changes done x = changes_last changes 0 done x
    ∙ (let z : 0 + length done ≡ length done = omega arith
    in ap (λ n. changes_from changes 0 done ++ changes_by (changes n) (routine_block x)) z)

-- ---- entries that are not changed

none_changed : (entry : ℕ) (xs : List Change) → first_at entry xs ≡ None → Each (λ x. is_change_of entry x ≡ false) xs
unfolding first_at
none_changed entry [] e = tt
none_changed entry (x ∷ xs) e = at (is_change_of entry x) refl e (λ h. none_changed entry xs h)
  where
    at : (b : Bool) → is_change_of entry x ≡ b → (if b then Some x.at else first_at entry xs) ≡ None
        → (first_at entry xs ≡ None → Each (λ x. is_change_of entry x ≡ false) xs) → Each
        (λ x. is_change_of entry x ≡ false) (x ∷ xs)
    at true g h rest = absurd (none_some (sym h))
    at false g h rest = (g, rest h)

free : (c : Context) (entry : ℕ) (u : Unit {0}) → unthreatened c entry ≡ Yes u → Each
    (λ x. is_change_of entry x ≡ false) c.inner
unfolding unthreatened
free c entry u e = at (first_at entry c.inner) refl e
  where
    at : (o : Option ℕ) → first_at entry c.inner ≡ o → unchanged o ≡ Yes u → Each
        (λ x. is_change_of entry x ≡ false) c.inner
    at None g h = none_changed entry c.inner g
    at (Some k) g h = absurd (no_yes h)

-- ---- statements without a `for` statement in them

abbrev HasNone : Tree.Statement → Type 0
HasNone t = statement_loops t ≡ []

assigned_none : (at : ℕ) (v : Variable) (e : Value) (line : ℕ) (t : Tree.Statement) → assigned at v e line ≡ Yes t
    → HasNone t
unfolding assigned set_assigned statement_loops
assigned_none at v (SimpleValue e from) line t h = ap statement_loops
    (sym (provided_yes (is_assignable from v.type) NotAssignable at _ t h).1)
assigned_none at v (StructureValue e from) line t h = ap statement_loops
    (sym (provided_yes (is_assignable from v.type) NotAssignable at _ t h).1)
assigned_none at v (SetValue e from) line t h = of_set v.type h
  where
    of_set : (type : DataType) → set_assigned at v.place type e from line ≡ Yes t → HasNone t
    of_set (SetType a k o) g = ap statement_loops
        (sym (provided_yes (is_assignable from (SetType a k o)) NotAssignable at _ t g).1)
    of_set type g = absurd (no_yes g)

read_none : (at : ℕ) (vs : List Tree.ReadVariable) (t : Tree.Statement) → read_of at vs ≡ Yes t → HasNone t
unfolding read_of statement_loops
read_none at [] t e = absurd (no_yes e)
read_none at (v ∷ vs) t e = ap statement_loops (sym (inside_yes (Tree.Read (v ∷ vs)) t e))

write_none : (at : ℕ) (vs : List Tree.WriteParameter) (t : Tree.Statement) → write_of at vs ≡ Yes t → HasNone t
unfolding write_of statement_loops
write_none at [] t e = absurd (no_yes e)
write_none at (v ∷ vs) t e = ap statement_loops (sym (inside_yes (Tree.Write (v ∷ vs)) t e))

new_none : (at : ℕ) (p : Tree.Place) (type : DataType) (line : ℕ) (t : Tree.Statement) → new_variable at p type line
    ≡ Yes t → HasNone t
unfolding new_variable statement_loops
new_none at p (PointerType n) line t e = ap statement_loops (sym (inside_yes (Tree.New p n line) t e))
new_none at p type line t e = absurd (no_yes e)

packed_none : (at : Places) (a z : Variable) (line : ℕ) (index : Tree.Expr × Ordinal) (t : Tree.Statement)
    → packed_from at a z line index ≡ Yes t → HasNone t
unfolding statement_loops
packed_none at a z line index t e = (let g = then_yes (goes_with_pack at a.type z.type index.1) _ t e
    in ap statement_loops (sym (inside_yes _ t g.2)))

unpacked_none : (at : Places) (z a : Variable) (line : ℕ) (index : Tree.Expr × Ordinal) (t : Tree.Statement)
    → unpacked_to at z a line index ≡ Yes t → HasNone t
unfolding statement_loops
unpacked_none at z a line index t e = (let g = then_yes (goes_with_pack at a.type z.type index.1) _ t e
    in ap statement_loops (sym (inside_yes _ t g.2)))

-- a statement that is made, whatever is changed
made_none : (s : Tree.Statement) (ds : List Change) (t : Tree.Statement × List Change) → Yes (s, ds) ≡ Yes t → HasNone s
    → HasNone t.0
made_none s ds t e h = subst (λ (q : Tree.Statement × List Change). HasNone q.0) (inside_yes (s, ds) t e) h

judged_none : (q : Judged Tree.Statement) (ds : List Change) (t : Tree.Statement × List Change) → still q ds ≡ Yes t
    → ((s : Tree.Statement) → q ≡ Yes s → HasNone s) → HasNone t.0
judged_none q ds t e h = (let a = last_still q ds t e in subst (λ (q : Tree.Statement × List Change). HasNone q.0) a.2
    (h a.0 a.1))

module _ (c : Context) (Γ : List Region) where
  assignment_none : (x : syntax.Variable) (at : Span) (y : Expr) (cs : List Change) (t : Tree.Statement × List Change)
      → assignment c Γ x at y cs ≡ Yes t → HasNone t.0
  assignment_none x at y cs t e =
      let v = then_yes (target c Γ x cs) _ t e in
      let d = then_yes (changed c v.0.0.place (variable_operand c Γ x).first v.0.1) _ t v.2 in
      let w = then_yes ((operand c Γ y).value d.0.1) _ t d.2 in
      judged_none _ w.0.1 t w.2 (λ s h. assigned_none at.from v.0.0 w.0.0 _ s h)

  one_new_none : (at : ℕ) (ps : List Parameter) (cs : List Change) (t : Tree.Statement × List Change)
      → new_statement c Γ at ps cs ≡ Yes t → HasNone t.0
  unfolding new_statement
  one_new_none at [] cs t e = absurd (no_yes e)
  one_new_none at (p ∷ []) cs t e = (let v = then_yes (parameter_variable c Γ p cs) _ t e in judged_none _ v.0.1 t v.2
      (λ s h. new_none (first_of_parameter p) v.0.0.place v.0.0.type _ s h))
  one_new_none at (p ∷ q ∷ ps) cs t e = absurd (no_yes e)

  pack_none : (at : ℕ) (ps : List Parameter) (cs : List Change) (t : Tree.Statement × List Change)
      → pack_statement c Γ at ps cs ≡ Yes t → HasNone t.0
  unfolding pack_statement pack
  pack_none at [] cs t e = absurd (no_yes e)
  pack_none at (a ∷ []) cs t e = absurd (no_yes e)
  pack_none at (a ∷ i ∷ []) cs t e = absurd (no_yes e)
  pack_none at (a ∷ i ∷ z ∷ []) cs t e =
      let v = then_yes (parameter_variable c Γ a cs) _ t e in
      let n = then_yes (parameter_index c Γ i v.0.1) _ t v.2 in
      let w = then_yes (parameter_variable c Γ z n.0.1) _ t n.2 in
      judged_none _ w.0.1 t w.2 (λ s h. packed_none (places_of a z i) v.0.0 w.0.0 _ n.0.0 s h)
  pack_none at (a ∷ i ∷ z ∷ p ∷ ps) cs t e = absurd (no_yes e)

  unpack_none : (at : ℕ) (ps : List Parameter) (cs : List Change) (t : Tree.Statement × List Change)
      → unpack_statement c Γ at ps cs ≡ Yes t → HasNone t.0
  unfolding unpack_statement unpack
  unpack_none at [] cs t e = absurd (no_yes e)
  unpack_none at (z ∷ []) cs t e = absurd (no_yes e)
  unpack_none at (z ∷ a ∷ []) cs t e = absurd (no_yes e)
  unpack_none at (z ∷ a ∷ i ∷ []) cs t e =
      let v = then_yes (parameter_variable c Γ z cs) _ t e in
      let w = then_yes (parameter_variable c Γ a v.0.1) _ t v.2 in
      let n = then_yes (parameter_index c Γ i w.0.1) _ t w.2 in
      judged_none _ n.0.1 t n.2 (λ s h. unpacked_none (places_of a z i) v.0.0 w.0.0 _ n.0.0 s h)
  unpack_none at (z ∷ a ∷ i ∷ p ∷ ps) cs t e = absurd (no_yes e)

  required_none : (at : ℕ) (r : Required) (ps : List Parameter) (cs : List Change) (t : Tree.Statement × List Change)
      → required_procedure c Γ at r ps cs ≡ Yes t → HasNone t.0
  unfolding required_procedure statement_loops
  required_none at required.Read ps cs t e =
      (let vs = then_yes (read_parameters c Γ at ps cs) _ t e in judged_none (read_of at vs.0.0) vs.0.1 t vs.2
      (λ s h. read_none at vs.0.0 s h))
  required_none at required.Readln ps cs t e =
      (let vs = then_yes (read_parameters c Γ at ps cs) _ t e in made_none _ vs.0.1 t vs.2 refl)
  required_none at required.Write ps cs t e =
      (let vs = then_yes (write_parameters c Γ at ps cs) _ t e in judged_none (write_of at vs.0.0) vs.0.1 t vs.2
      (λ s h. write_none at vs.0.0 s h))
  required_none at required.Writeln ps cs t e =
      (let vs = then_yes (write_parameters c Γ at ps cs) _ t e in made_none _ vs.0.1 t vs.2 refl)
  required_none at required.New ps cs t e = one_new_none at ps cs t e
  required_none at required.Pack ps cs t e = pack_none at ps cs t e
  required_none at required.Unpack ps cs t e = unpack_none at ps cs t e
  required_none at r ps cs t e = absurd (no_yes e)

  called_none : (at : ℕ) (ps : List Parameter) (q : Point) (cs : List Change) (t : Tree.Statement × List Change)
      → procedure_called c Γ at ps q cs ≡ Yes t → HasNone t.0
  unfolding procedure_called statement_loops
  called_none at ps (BlockPoint up (RoutineMeaning h)) cs t e =
      (let l = then_yes (procedure_parameters c Γ at h.result h.sections ps cs) _ t e in made_none _ l.0.1 t l.2 refl)
  called_none at ps (BlockPoint up (RoutineParameterMeaning entry sections result)) cs t e =
      (let l = then_yes (procedure_parameters c Γ at result sections ps cs) _ t e in made_none _ l.0.1 t l.2 refl)
  called_none at ps (BlockPoint up (RequiredMeaning r)) cs t e = required_none at r ps cs t e
  called_none at ps q cs t e = absurd (no_yes e)

  procedure_none : (name : Span) (ps : List Parameter) (cs : List Change) (t : Tree.Statement × List Change)
      → procedure_statement c Γ name ps cs ≡ Yes t → HasNone t.0
  procedure_none name ps cs t e = (let q = then_still (denoted c Γ name) cs _ t e
      in called_none name.from ps q.0 cs t q.2)

  -- ---- the control variable of a `for` statement

  control_free : (name : Span) (cs : List Change) (t : (ℕ × Ordinal) × List Change) → control_of c Γ name cs ≡ Yes t
      → Each (λ x. is_change_of t.0.0 x ≡ false) c.inner
  control_free name cs t e =
      let p = then_still (denoted c Γ name) cs _ t e in
      let k = then_still (control_at name.from p.0) cs _ t p.2 in
      let d = then_yes (changed c (Tree.Variable (Tree.Entry 0 k.0.0) Tree.no_selector) name.from cs) _ t k.2 in
      let u = then_still (unthreatened c k.0.0) d.0.1 _ t d.2 in
      subst (λ (q : (ℕ × Ordinal) × List Change). Each (λ x. is_change_of q.0.0 x ≡ false) c.inner)
      (inside_yes (k.0, d.0.1) t u.2) (free c k.0.0 u.0 u.1)

  head_free : (name : Span) (x : Expr) (direction : Direction) (y : Expr) (cs : List Change) (t : Head × List Change)
      → for_head c Γ name x direction y cs ≡ Yes t → Each (λ x. is_change_of t.0.variable x ≡ false) c.inner
  head_free name x direction y cs t e =
      let control = then_yes (control_of c Γ name cs) _ t e in
      let low = then_yes (bound_at c Γ control.0.0.1 x control.0.1) _ t control.2 in
      let high = then_yes (bound_at c Γ control.0.0.1 y low.0.1) _ t low.2 in
      subst (λ (q : Head × List Change). Each (λ x. is_change_of q.0.variable x ≡ false) c.inner)
      (inside_yes _ t high.2) (control_free name cs control.0 control.1)

-- ---- each construct

-- the parts of a construct, each with what holds of it
abbrev parts : {X : Type 0} {T : X → Type 0} → List ((x : X) × T x) → List X
parts ys = map (λ y. y.0) ys

-- a `for` statement whose control variable is changed neither by a routine of the block nor by the statement that it
-- repeats
pub record IsKept (c : Context) (loop : Loop) : Type 0 where
  pub outside : Each (λ x. is_change_of loop.0 x ≡ false) c.inner
  pub itself : Each (λ e. is_entry 0 loop.0 e ≡ false) (statement_threatens loop.1)

abbrev pub AreKept : Context → List Loop → Type 0
AreKept c loops = Each (IsKept c) loops

-- within a `for` statement the routines are the same
kept_inside : (c : Context) (variable : ℕ) (loops : List Loop) → AreKept (with_control c variable) loops
    → AreKept c loops
kept_inside c variable [] h = tt
kept_inside c variable (loop ∷ loops) h = (
  record {
    outside = h.0.outside;
    itself = h.0.itself;
  },
  kept_inside c variable loops h.1,
)

abbrev Keeps : Context → Tree.Statement → Type 0
Keeps c t = AreKept c (statement_loops t)

none_kept : (c : Context) (t : Tree.Statement) → HasNone t → Keeps c t
none_kept c t e = subst (AreKept c) (sym e) tt

-- for a statement that is made, whatever is changed
kept : (c : Context) (s : Tree.Statement) (ds : List Change) (t : Tree.Statement × List Change) → Yes (s, ds) ≡ Yes t
    → Keeps c s → Keeps c t.0
kept c s ds t e h = subst (λ (q : Tree.Statement × List Change). Keeps c q.0) (inside_yes (s, ds) t e) h

both_kept : (c : Context) (xs ys : List Loop) → AreKept c xs → AreKept c ys → AreKept c (xs ++ ys)
both_kept c xs ys a b = each_append (IsKept c) xs ys a b

sequence_kept : (c : Context) (ts : List Tree.Statement) → Each (Keeps c) ts → AreKept c
    (statements_loops (statement_list ts))
unfolding statements_loops
sequence_kept c [] h = tt
sequence_kept c (t ∷ ts) h = both_kept c (statement_loops t) (statements_loops (statement_list ts)) h.0
    (sequence_kept c ts h.1)

abbrev KeepsElement : Context → TypedElement → Type 0
KeepsElement c e = Keeps c e.1

elements_kept : (c : Context) (es : List TypedElement) → Each (KeepsElement c) es → AreKept c
    (elements_loops (element_list es))
unfolding elements_loops
elements_kept c [] h = tt
elements_kept c (e ∷ es) h = both_kept c (statement_loops e.1) (elements_loops (element_list es)) h.0
    (elements_kept c es h.1)

abbrev ReadingKeeps : Reading → Type 0
ReadingKeeps s = (c : Context) (Γ : List Region) (cs : List Change) (t : Tree.Statement × List Change) → s c Γ cs
    ≡ Yes t → Keeps c t.0

abbrev StatementKeeps : Statement → Type 0
StatementKeeps x = ReadingKeeps (statement x)

abbrev ElementKeeps : Element → Type 0
ElementKeeps x = (c : Context) (Γ : List Region) (o : Ordinal) (seen : List ℤ) (cs : List Change)
    (t : TypedElement × List Change) → element x c Γ o seen cs ≡ Yes t → KeepsElement c t.0

abbrev AtStatement : Type 0
AtStatement = (x : Statement) × StatementKeeps x

abbrev AtElement : Type 0
AtElement = (x : Element) × ElementKeeps x

-- statements one after the other
several_keep : (c : Context) (Γ : List Region) (ys : List AtStatement) (s t : List Tree.Statement × List Change) → Each
    (Keeps c) s.0 → steps (one_more (λ (r : Reading). r c Γ)) s (map statement (parts ys)) ≡ Yes t → Each (Keeps c) t.0
several_keep c Γ [] s t h e = subst (λ (q : List Tree.Statement × List Change). Each (Keeps c) q.0) (inside_yes s t e) h
several_keep c Γ (y ∷ ys) s t h e =
    let one = then_yes (one_more (λ (r : Reading). r c Γ) s (statement y.0)) _ t e in
    let a = then_yes (statement y.0 c Γ s.1) _ one.0 one.1 in
    let more = each_append (Keeps c) s.0 (a.0.0 ∷ []) h (y.1 c Γ s.1 a.0 a.1, tt) in
    several_keep c Γ ys one.0 t (subst (λ (q : List Tree.Statement × List Change). Each (Keeps c) q.0)
    (inside_yes (s.0 ++ a.0.0 ∷ [], a.0.1) one.0 a.2) more) one.2

sequence_keeps : (c : Context) (Γ : List Region) (ys : List AtStatement) (cs : List Change)
    (t : Tree.Statements × List Change) → sequence_in c Γ (map statement (parts ys)) cs ≡ Yes t → AreKept c
    (statements_loops t.0)
sequence_keeps c Γ ys cs t e =
    let ts = then_yes (each (λ (r : Reading). r c Γ) (map statement (parts ys)) cs) _ t e in
    subst (λ (q : Tree.Statements × List Change). AreKept c (statements_loops q.0))
    (inside_yes (statement_list ts.0.0, ts.0.1) t ts.2)
    (sequence_kept c ts.0.0 (several_keep c Γ ys ([], cs) ts.0 tt ts.1))

elements_keep : (c : Context) (Γ : List Region) (o : Ordinal) (ys : List AtElement)
    (s t : (List ℤ × List TypedElement) × List Change) → Each (KeepsElement c) s.0.1 → steps
    (λ (s : (List ℤ × List TypedElement) × List Change) (r : ElementReading). one_element c Γ o s.0 r s.1) s
    (map element (parts ys)) ≡ Yes t → Each (KeepsElement c) t.0.1
elements_keep c Γ o [] s t h e = subst (λ (q : (List ℤ × List TypedElement) × List Change). Each (KeepsElement c) q.0.1)
    (inside_yes s t e) h
elements_keep c Γ o (y ∷ ys) s t h e =
    let one = then_yes (one_element c Γ o s.0 (element y.0) s.1) _ t e in
    let a = then_yes (element y.0 c Γ o s.0.0 s.1) _ one.0 one.1 in
    let more = each_append (KeepsElement c) s.0.1 (a.0.0 ∷ []) h (y.1 c Γ o s.0.0 s.1 a.0 a.1, tt) in
    elements_keep c Γ o ys one.0 t (subst (λ (q : (List ℤ × List TypedElement) × List Change). Each
    (KeepsElement c) q.0.1) (inside_yes _ one.0 a.2) more) one.2

governed_keeps : (c : Context) (Γ : List Region) (x : Expr) (s : AtStatement) (cs : List Change)
    (t : (Tree.Expr × Tree.Statement) × List Change) → governed c Γ x (statement s.0) cs ≡ Yes t → Keeps c t.0.1
governed_keeps c Γ x s cs t e =
    let a = then_yes (condition_at c Γ x cs) _ t e in
    let b = then_yes (statement s.0 c Γ a.0.1) _ t a.2 in
    subst (λ (q : (Tree.Expr × Tree.Statement) × List Change). Keeps c q.0.1) (inside_yes ((a.0.0, b.0.0), b.0.1) t b.2)
    (s.1 c Γ a.0.1 b.0 b.1)

step_is : (z : Statement-F Statement Element) → statement (roll-Statement z) ≡ statement_step
    (map-Statement Statement Element Reading ElementReading statement element z)
unfolding statement element
step_is z = fold-roll-Statement Reading ElementReading statement_step element_step z

keeps_as : (x : Statement) (reading : Reading) → statement x ≡ reading → ReadingKeeps reading → StatementKeeps x
keeps_as x reading a told c Γ cs t e = told c Γ cs t (ap (λ (r : Reading). r c Γ cs) (sym a) ∙ e)

statement_layer : (y : Statement-F AtStatement AtElement) → StatementKeeps
    (roll-Statement (map-Statement AtStatement AtElement Statement Element (λ x. x.0) (λ x. x.0) y))
unfolding statement_step statement_loops
statement_layer Statement-F.Empty = keeps_as (roll-Statement Statement-F.Empty) _ (step_is Statement-F.Empty)
    (λ c Γ cs t e. kept c Tree.Empty cs t e tt)
statement_layer (Statement-F.Assign x at y) =
    let z : Statement-F Statement Element = Statement-F.Assign x at y in
    keeps_as (roll-Statement z) _ (step_is z) (λ c Γ cs t e. none_kept c t.0 (assignment_none c Γ x at y cs t e))
statement_layer (Statement-F.Call name ps) =
    let z : Statement-F Statement Element = Statement-F.Call name ps in
    keeps_as (roll-Statement z) _ (step_is z) (λ c Γ cs t e. none_kept c t.0 (procedure_none c Γ name ps cs t e))
statement_layer (Statement-F.Compound ys) =
    let z : Statement-F Statement Element = Statement-F.Compound (parts ys) in
    keeps_as (roll-Statement z) _ (step_is z)
    (λ c Γ cs t e. (let ss = then_yes (sequence_in c Γ (map statement (parts ys)) cs) _ t e in kept c
    (Tree.Compound ss.0.0) ss.0.1 t ss.2 (sequence_keeps c Γ ys cs ss.0 ss.1)))
statement_layer (Statement-F.If x s) =
    let z : Statement-F Statement Element = Statement-F.If x s.0 in
    keeps_as (roll-Statement z) _ (step_is z)
    (λ c Γ cs t e. (let g = then_yes (governed c Γ x (statement s.0) cs) _ t e in kept c
    (Tree.If g.0.0.0 g.0.0.1) g.0.1 t g.2 (governed_keeps c Γ x s cs g.0 g.1)))
statement_layer (Statement-F.IfElse x s r) =
    let z : Statement-F Statement Element = Statement-F.IfElse x s.0 r.0 in
    keeps_as (roll-Statement z) _ (step_is z)
    (λ c Γ cs t e. (let g = then_yes (governed c Γ x (statement s.0) cs) _ t e in
    let d = then_yes (statement r.0 c Γ g.0.1) _ t g.2 in
    kept c (Tree.IfElse g.0.0.0 g.0.0.1 d.0.0) d.0.1 t d.2
    (both_kept c (statement_loops g.0.0.1) (statement_loops d.0.0) (governed_keeps c Γ x s cs g.0 g.1)
    (r.1 c Γ g.0.1 d.0 d.1))))
statement_layer (Statement-F.Case at x ys) =
    let z : Statement-F Statement Element = Statement-F.Case at x (parts ys) in
    keeps_as (roll-Statement z) _ (step_is z)
    (λ c Γ cs t e. (let a = then_yes (index_at c Γ x cs) _ t e in
    let es = then_yes (elements c Γ a.0.0.1 (map element (parts ys)) a.0.1) _ t a.2 in
    let done = then_yes (through (one_element c Γ a.0.0.1) ([], []) (map element (parts ys)) a.0.1) _ es.0 es.1 in
    let all = elements_keep c Γ a.0.0.1 ys (([], []), a.0.1) done.0 tt done.1 in
    let typed = subst (λ (q : List TypedElement × List Change). Each (KeepsElement c) q.0)
    (inside_yes (done.0.0.1, done.0.1) es.0 done.2) all in
    kept c _ es.0.1 t es.2 (elements_kept c es.0.0 typed)))
statement_layer (Statement-F.While x s) =
    let z : Statement-F Statement Element = Statement-F.While x s.0 in
    keeps_as (roll-Statement z) _ (step_is z)
    (λ c Γ cs t e. (let g = then_yes (governed c Γ x (statement s.0) cs) _ t e in kept c
    (Tree.While g.0.0.0 g.0.0.1) g.0.1 t g.2 (governed_keeps c Γ x s cs g.0 g.1)))
statement_layer (Statement-F.Repeat ys x) =
    let z : Statement-F Statement Element = Statement-F.Repeat (parts ys) x in
    keeps_as (roll-Statement z) _ (step_is z)
    (λ c Γ cs t e. (let ss = then_yes (sequence_in c Γ (map statement (parts ys)) cs) _ t e in
    let a = then_yes (condition_at c Γ x ss.0.1) _ t ss.2 in
    kept c (Tree.Repeat ss.0.0 a.0.0) a.0.1 t a.2 (sequence_keeps c Γ ys cs ss.0 ss.1)))
statement_layer (Statement-F.For name x direction y s) =
    let z : Statement-F Statement Element = Statement-F.For name x direction y s.0 in
    keeps_as (roll-Statement z) _ (step_is z)
    (λ c Γ cs t e. (let h = then_yes (for_head c Γ name x direction y cs) _ t e in
    let body = then_yes (statement s.0 (with_control c h.0.0.variable) Γ h.0.1) _ t h.2 in
    let variable = h.0.0.variable in
    let adds = all_hand s.0 (with_control c variable) Γ h.0.1 body.0 body.1 in
    let one : IsKept c (variable, body.0.0) = record {
      outside = head_free c Γ name x direction y cs h.0 h.1;
      itself = repeated_free c variable (statement_threatens body.0.0) adds.free;
    } in
    kept c (repeated h.0.0 body.0.0) body.0.1 t body.2
    (one, kept_inside c variable (statement_loops body.0.0) (s.1 (with_control c variable) Γ h.0.1 body.0 body.1))))
statement_layer (Statement-F.With xs s) =
    let z : Statement-F Statement Element = Statement-F.With xs s.0 in
    keeps_as (roll-Statement z) _ (step_is z)
    (λ c Γ cs t e. (let o = then_yes (through (open_next c) ([], Γ) xs cs) _ t e in
    let body = then_yes (statement s.0 c o.0.0.1 o.0.1) _ t o.2 in
    kept c (Tree.With o.0.0.0 body.0.0) body.0.1 t body.2 (s.1 c o.0.0.1 o.0.1 body.0 body.1)))

element_layer : (y : Element-F AtStatement AtElement) → ElementKeeps
    (roll-Element (map-Element AtStatement AtElement Statement Element (λ x. x.0) (λ x. x.0) y))
unfolding statement element element_step
element_layer y c Γ o seen cs t e =
    let z : Element-F Statement Element = record { constants = y.constants; statement = y.statement.0 } in
    let is : element (roll-Element z) c Γ o seen cs
    ≡ (still (labels c Γ o seen y.constants)
    >>= (λ own. statement y.statement.0 c Γ >>= (λ body. same (own, body)))) cs =
    ap (λ (r : ElementReading). r c Γ o seen cs)
    (fold-roll-Element Reading ElementReading statement_step element_step z) in
    let own = then_still (labels c Γ o seen y.constants) cs _ t (sym is ∙ e) in
    let body = then_yes (statement y.statement.0 c Γ cs) _ t own.2 in
    subst (λ (q : TypedElement × List Change). KeepsElement c q.0) (inside_yes ((own.0, body.0.0), body.0.1) t body.2)
    (y.statement.1 c Γ cs body.0 body.1)

all_keep : (x : Statement) → StatementKeeps x
all_keep = ind-Statement StatementKeeps ElementKeeps
    (λ x y is. subst (λ z. StatementKeeps (roll-Statement z)) is (statement_layer y))
    (λ x y is. subst (λ z. ElementKeeps (roll-Element z)) is (element_layer y))

list_keeps : (c : Context) (Γ : List Region) (xs : List Statement) (s t : List Tree.Statement × List Change) → Each
    (Keeps c) s.0 → steps (one_more (λ x. statement x c Γ)) s xs ≡ Yes t → Each (Keeps c) t.0
list_keeps c Γ [] s t h e = subst (λ (q : List Tree.Statement × List Change). Each (Keeps c) q.0) (inside_yes s t e) h
list_keeps c Γ (x ∷ xs) s t h e =
    let one = then_yes (one_more (λ x. statement x c Γ) s x) _ t e in
    let a = then_yes (statement x c Γ s.1) _ one.0 one.1 in
    let more = each_append (Keeps c) s.0 (a.0.0 ∷ []) h (all_keep x c Γ s.1 a.0 a.1, tt) in
    list_keeps c Γ xs one.0 t (subst (λ (q : List Tree.Statement × List Change). Each (Keeps c) q.0)
    (inside_yes (s.0 ++ a.0.0 ∷ [], a.0.1) one.0 a.2) more) one.2

-- the `for` statements of a block keep the rule
pub loops_kept : (c : Context) (Γ : List Region) (xs : List Statement) (cs : List Change)
    (t : Tree.Statements × List Change) → statements c Γ xs cs ≡ Yes t → AreKept c (statements_loops t.0)
unfolding statements
loops_kept c Γ xs cs t e =
    let ts = then_yes (each (λ x. statement x c Γ) xs cs) _ t e in
    subst (λ (q : Tree.Statements × List Change). AreKept c (statements_loops q.0))
    (inside_yes (statement_list ts.0.0, ts.0.1) t ts.2)
    (sequence_kept c ts.0.0 (list_keeps c Γ xs ([], cs) ts.0 tt ts.1))

all_unchanged : (c : Context) (loops : List Loop) → AreKept c loops → AreUnchanged c.inner (map (λ loop. loop.0) loops)
all_unchanged c [] h = tt
all_unchanged c (loop ∷ loops) h = (h.0.outside, all_unchanged c loops h.1)

-- the routines of a block change no control variable of its statements
pub controls_unchanged : (c : Context) (Γ : List Region) (xs : List Statement) (cs : List Change)
    (t : Tree.Statements × List Change) → statements c Γ xs cs ≡ Yes t → AreUnchanged c.inner (statements_control t.0)
controls_unchanged c Γ xs cs t e = all_unchanged c (statements_loops t.0) (loops_kept c Γ xs cs t e)
