-- What the judgement of a statement passes on as changed is what the checked statement threatens.
use Rattle.std.proofs.Common.{◌≡◌, ℕ, ℤ, ◌==◌, Bool, true, false, ◌&&◌, ◌||◌, List, [], ◌∷◌, ◌++◌, map, refl, sym}
use Rattle.std.proofs.Common.{ap, ◌∙◌, subst, append-nil, append_assoc, eqb-true, arith}
use Rattle.std.specs.List.{list_any}
use Rattle.std.proofs.lemmas.Bool.{ne_eqb}
use Rattle.ps_syntax.specs.declared.expression.Expr.{Expr}
use Rattle.ps_syntax.specs.declared.expression.Variable as syntax
use Rattle.ps_syntax.specs.declared.statement.Statement.{Statement, roll-Statement, map-Statement}
use Rattle.ps_syntax.specs.declared.statement.Element.{Element, roll-Element, map-Element}
use Rattle.ps_syntax.specs.declared.statement.Statement.TheOpen.{Statement-F, Element-F}
use Rattle.ps_syntax.specs.declared.statement.Statement.TheFolds.{fold-roll-Statement, fold-roll-Element, ind-Statement}
use Rattle.ps_tree.specs.declared.types.Ordinal.{Ordinal}
use Rattle.ps_tree.specs.Tree as Tree
use Rattle.ps_check_judgement.specs.declared.change.Change.{Change}
use Rattle.ps_check_judgement.specs.Judged.{Yes}
use Rattle.ps_check_judgement.specs.Changing.{◌>>=◌, same, still, each, through}
use Rattle.ps_check_judgement.proofs.Binds.{inside_yes, then_yes}
use Rattle.ps_check_judgement.proofs.Impossible.{never}
use Rattle.ps_check_names.specs.Regions.{Context, Region}
use Rattle.ps_check_expressions.specs.Expressions.{variable_operand}
use Rattle.ps_check_statements.specs.Structured.{TypedElement, labels, repeated, with_control, Opening, record_region}
use Rattle.ps_check_statements.specs.Structured.{opened, open_next}
use Rattle.ps_check_statements.specs.Statements.{statement_list, element_list, Reading, ElementReading, sequence_in}
use Rattle.ps_check_statements.specs.Statements.{condition_at, governed, index_at, one_element, elements, for_head}
use Rattle.ps_check_statements.specs.Statements.{statement_step, element_step, statement, element, statements}
use Rattle.ps_check_laws.specs.Threats.{Threatened, is_entry, place_threatens, expr_threatens, places_threaten}
use Rattle.ps_check_laws.specs.Threats.{statement_threatens, statements_threaten, elements_threaten}
use Rattle.ps_check_laws.specs.Threats.{WhatIsThreatenedIsChanged}
use Rattle.ps_check_laws.proofs.Lists.{then_still, Each}
use Rattle.ps_check_laws.proofs.Additions.{Free, Adds, adds_none, adds_both, More, adds_all, made_adds, still_more}
use Rattle.ps_check_laws.proofs.Additions.{through_more, each_more, each_all}
use Rattle.ps_check_laws.proofs.HandedParts.{place_of, read_each}
use Rattle.ps_syntax.proofs.Nodes.{parts}
use Rattle.ps_check_laws.proofs.Handed.{variables_hand}
use Rattle.ps_check_laws.proofs.ThreatenedCalls.{assignment_adds, case_index_adds, condition_adds, head_adds}
use Rattle.ps_check_laws.proofs.ThreatenedCalls.{head_threatens, procedure_adds}

places_last : (xs : List Tree.Place) (p : Tree.Place) → places_threaten (xs ++ p ∷ []) ≡ places_threaten xs
    ++ place_threatens p
unfolding places_threaten
places_last [] p = append-nil (place_threatens p)
places_last (x ∷ xs) p = ap (λ l. place_threatens x ++ l) (places_last xs p) ∙ sym
    (append_assoc (place_threatens x) (places_threaten xs) (place_threatens p))

abbrev list_threatens : List Tree.Statement → Threatened
list_threatens ts = statements_threaten (statement_list ts)

statements_last : (xs : List Tree.Statement) (s : Tree.Statement) → list_threatens (xs ++ s ∷ []) ≡ list_threatens xs
    ++ statement_threatens s
unfolding statements_threaten
statements_last [] s = append-nil (statement_threatens s)
statements_last (x ∷ xs) s = ap (λ l. statement_threatens x ++ l) (statements_last xs s) ∙ sym
    (append_assoc (statement_threatens x) (list_threatens xs) (statement_threatens s))

abbrev elements_of : List TypedElement → Threatened
elements_of es = elements_threaten (element_list es)

elements_last : (xs : List TypedElement) (e : TypedElement) → elements_of (xs ++ e ∷ []) ≡ elements_of xs
    ++ statement_threatens e.1
unfolding elements_threaten
elements_last [] e = append-nil (statement_threatens e.1)
elements_last (x ∷ xs) e = ap (λ l. statement_threatens x.1 ++ l) (elements_last xs e) ∙ sym
    (append_assoc (statement_threatens x.1) (elements_of xs) (statement_threatens e.1))

-- ---- `with`

abbrev opening_threatens : Opening → Threatened
opening_threatens o = places_threaten o.0

open_more : (c : Context) (x : syntax.Variable) (o : Opening) (cs : List Change) (p : Opening × List Change)
    → open_next c o x cs ≡ Yes p → More c cs p.1 (opening_threatens o) (opening_threatens p.0)
unfolding open_next
open_more c x o cs p e =
    let at = (variable_operand c o.1 x).first in
    let v = then_yes ((variable_operand c o.1 x).variable cs) _ p e in
    still_more opening_threatens (opened at o v.0.0) cs v.0.1 (opening_threatens o) (place_of v.0.0) p v.2
    ((variables_hand c o.1 x).variable cs v.0 v.1)
    (λ q h. (let r = then_yes (record_region at v.0.0.type) _ q h in ap opening_threatens
    (sym (inside_yes (o.0 ++ v.0.0.place ∷ [], r.0 ∷ o.1) q r.2)) ∙ places_last o.0 v.0.0.place))

openings_more : (c : Context) (xs : List syntax.Variable) (Γ : List Region) (cs : List Change)
    (p : Opening × List Change) → through (open_next c) ([], Γ) xs cs ≡ Yes p → Adds c cs p.1 (opening_threatens p.0)
unfolding places_threaten
openings_more c xs Γ cs p e = adds_all cs p.1 (opening_threatens p.0)
    (through_more opening_threatens (open_next c) xs
    (each_all (λ x. (o : Opening) (cs : List Change) (p : Opening × List Change) → open_next c o x cs ≡ Yes p
    → More c cs p.1 (opening_threatens o) (opening_threatens p.0)) (open_more c) xs) ([], Γ) cs p e)

-- ---- within a `for` statement

both_false : (a b d : Bool) → (a && (b || d)) ≡ false → ((a && b) ≡ false) × ((a && d) ≡ false)
both_false true true d e = never (sym e)
both_false true false d e = (refl, e)
both_false false b d e = (refl, refl)

outside : (c : Context) (variable : ℕ) (a : Threatened) → Free (with_control c variable) a → Free c a
outside c variable [] h = tt
outside c variable (e ∷ a) h = (
  (both_false (e.0 == 0) (variable == e.1) (list_any (λ z. z == e.1) c.controls) h.0).1,
  outside c variable a h.1,
)

adds_outside : (c : Context) (variable : ℕ) (cs ds : List Change) (a : Threatened) → Adds
    (with_control c variable) cs ds a → Adds c cs ds a
adds_outside c variable cs ds a x = record { entries = x.entries; free = outside c variable a x.free }

equal_so : (m k : ℕ) → m ≡ k → (m == k) ≡ true
equal_so m k e = grind (arith, e)

turned_round : (m k : ℕ) → (m == k) ≡ (k == m)
turned_round m k = at (m == k) refl
  where
    at : (b : Bool) → (m == k) ≡ b → (m == k) ≡ (k == m)
    at true q = q ∙ sym (equal_so k m (sym (eqb-true m k q)))
    at false q = q ∙ sym (ne_eqb k m (λ e. never (sym q ∙ equal_so m k (sym e))))

-- the statement that is repeated doesn't threaten the control variable
pub repeated_free : (c : Context) (variable : ℕ) (a : Threatened) → Free (with_control c variable) a → Each
    (λ e. is_entry 0 variable e ≡ false) a
repeated_free c variable [] h = tt
repeated_free c variable (e ∷ a) h = (
  ap (λ b. e.0 == 0 && b) (turned_round e.1 variable)
      ∙ (both_false (e.0 == 0) (variable == e.1) (list_any (λ z. z == e.1) c.controls) h.0).0,
  repeated_free c variable a
      h.1,
)

-- ---- each construct

abbrev pub ReadingHands : Reading → Type 0
ReadingHands s = (c : Context) (Γ : List Region) (cs : List Change) (t : Tree.Statement × List Change) → s c Γ cs
    ≡ Yes t → Adds c cs t.1 (statement_threatens t.0)

abbrev element_threatens : TypedElement → Threatened
element_threatens e = statement_threatens e.1

abbrev ElementReads : ElementReading → Type 0
ElementReads s = (c : Context) (Γ : List Region) (o : Ordinal) (seen : List ℤ) (cs : List Change)
    (t : TypedElement × List Change) → s c Γ o seen cs ≡ Yes t → Adds c cs t.1 (element_threatens t.0)

abbrev pub StatementHands : Statement → Type 0
StatementHands x = ReadingHands (statement x)

abbrev ElementHands : Element → Type 0
ElementHands x = ElementReads (element x)

abbrev AtStatement : Type 0
AtStatement = (x : Statement) × StatementHands x

abbrev AtElement : Type 0
AtElement = (x : Element) × ElementHands x

-- statements one after the other
sequence_adds : (c : Context) (Γ : List Region) (ys : List AtStatement) (cs : List Change)
    (t : Tree.Statements × List Change) → sequence_in c Γ (map statement (parts ys)) cs ≡ Yes t → Adds c cs t.1
    (statements_threaten t.0)
unfolding statements_threaten
sequence_adds c Γ ys cs t e =
    let ts = then_yes (each (λ (r : Reading). r c Γ) (map statement (parts ys)) cs) _ t e in
    let all = adds_all cs ts.0.1 (list_threatens ts.0.0)
    (each_more (λ (r : Reading). r c Γ) statement_threatens list_threatens statements_last
    (map statement (parts ys))
    (read_each statement (λ (r : Reading). (cs : List Change) (t : Tree.Statement × List Change) → r c Γ cs ≡ Yes t
    → Adds c cs t.1 (statement_threatens t.0)) (λ y cs t g. y.1 c Γ cs t g) ys) ([], cs) ts.0 ts.1) in
    made_adds statements_threaten (statement_list ts.0.0) cs ts.0.1 t ts.2 all

abbrev done_threatens : List ℤ × List TypedElement → Threatened
done_threatens d = elements_of d.1

elements_add : (c : Context) (Γ : List Region) (o : Ordinal) (ys : List AtElement) (cs : List Change)
    (t : List TypedElement × List Change) → elements c Γ o (map element (parts ys)) cs ≡ Yes t → Adds c cs t.1
    (elements_of t.0)
unfolding elements_threaten
elements_add c Γ o ys cs t e =
    let done = then_yes (through (one_element c Γ o) ([], []) (map element (parts ys)) cs) _ t e in
    let all = adds_all cs done.0.1 (done_threatens done.0.0)
    (through_more done_threatens (one_element c Γ o) (map element (parts ys))
    (read_each element (λ (r : ElementReading). (s : List ℤ × List TypedElement) (cs : List Change)
    (p : (List ℤ × List TypedElement) × List Change) → one_element c Γ o s r cs ≡ Yes p → More c cs p.1
    (done_threatens s) (done_threatens p.0))
    (λ y s cs p g. (let a = then_yes (element y.0 c Γ o s.0 cs) _ p g in
    let here : More c cs a.0.1 (elements_of s.1) (elements_of (s.1 ++ a.0.0 ∷ [])) = record {
      more = element_threatens a.0.0;
      grown = elements_last s.1 a.0.0;
      adds = y.1 c Γ o s.0 cs a.0 a.1;
    } in
    subst (λ (z : (List ℤ × List TypedElement) × List Change). More c cs z.1 (done_threatens s) (done_threatens z.0))
    (inside_yes _ p a.2) here)) ys) ([], []) cs done.0 done.1) in
    made_adds elements_of done.0.0.1 cs done.0.1 t done.2 all

abbrev governed_threatens : Tree.Expr × Tree.Statement → Threatened
governed_threatens g = expr_threatens g.0 ++ statement_threatens g.1

governed_adds : (c : Context) (Γ : List Region) (x : Expr) (s : AtStatement) (cs : List Change)
    (t : (Tree.Expr × Tree.Statement) × List Change) → governed c Γ x (statement s.0) cs ≡ Yes t → Adds c cs t.1
    (governed_threatens t.0)
governed_adds c Γ x s cs t e =
    let a = then_yes (condition_at c Γ x cs) _ t e in
    let b = then_yes (statement s.0 c Γ a.0.1) _ t a.2 in
    made_adds governed_threatens (a.0.0, b.0.0) cs b.0.1 t b.2
    (adds_both cs a.0.1 b.0.1 (expr_threatens a.0.0) (statement_threatens b.0.0) (condition_adds c Γ x cs a.0 a.1)
    (s.1 c Γ a.0.1 b.0 b.1))

step_is : (z : Statement-F Statement Element) → statement (roll-Statement z) ≡ statement_step
    (map-Statement Statement Element Reading ElementReading statement element z)
unfolding statement element
step_is z = fold-roll-Statement Reading ElementReading statement_step element_step z

hands_as : (x : Statement) (reading : Reading) → statement x ≡ reading → ReadingHands reading → StatementHands x
hands_as x reading a told c Γ cs t e = told c Γ cs t (ap (λ (r : Reading). r c Γ cs) (sym a) ∙ e)

statement_layer : (y : Statement-F AtStatement AtElement) → StatementHands
    (roll-Statement (map-Statement AtStatement AtElement Statement Element (λ x. x.0) (λ x. x.0) y))
unfolding statement_step statement_threatens
statement_layer Statement-F.Empty = hands_as (roll-Statement Statement-F.Empty) _ (step_is Statement-F.Empty)
    (λ c Γ cs t e. made_adds statement_threatens Tree.Empty cs cs t e (adds_none cs))
statement_layer (Statement-F.Assign x at y) =
    let z : Statement-F Statement Element = Statement-F.Assign x at y in
    hands_as (roll-Statement z) _ (step_is z) (λ c Γ cs t e. assignment_adds c Γ x at y cs t e)
statement_layer (Statement-F.Call name ps) =
    let z : Statement-F Statement Element = Statement-F.Call name ps in
    hands_as (roll-Statement z) _ (step_is z) (λ c Γ cs t e. procedure_adds c Γ name ps cs t e)
statement_layer (Statement-F.Compound ys) =
    let z : Statement-F Statement Element = Statement-F.Compound (parts ys) in
    hands_as (roll-Statement z) _ (step_is z)
    (λ c Γ cs t e. (let ss = then_yes (sequence_in c Γ (map statement (parts ys)) cs) _ t e
    in made_adds statement_threatens (Tree.Compound ss.0.0) cs ss.0.1 t ss.2 (sequence_adds c Γ ys cs ss.0 ss.1)))
statement_layer (Statement-F.If x s) =
    let z : Statement-F Statement Element = Statement-F.If x s.0 in
    hands_as (roll-Statement z) _ (step_is z)
    (λ c Γ cs t e. (let g = then_yes (governed c Γ x (statement s.0) cs) _ t e in made_adds statement_threatens
    (Tree.If g.0.0.0 g.0.0.1) cs g.0.1 t g.2 (governed_adds c Γ x s cs g.0 g.1)))
statement_layer (Statement-F.IfElse x s r) =
    let z : Statement-F Statement Element = Statement-F.IfElse x s.0 r.0 in
    hands_as (roll-Statement z) _ (step_is z)
    (λ c Γ cs t e. (let g = then_yes (governed c Γ x (statement s.0) cs) _ t e in
    let d = then_yes (statement r.0 c Γ g.0.1) _ t g.2 in
    made_adds statement_threatens (Tree.IfElse g.0.0.0 g.0.0.1 d.0.0) cs d.0.1 t d.2
    (adds_both cs g.0.1 d.0.1 (governed_threatens g.0.0) (statement_threatens d.0.0)
    (governed_adds c Γ x s cs g.0 g.1) (r.1 c Γ g.0.1 d.0 d.1))))
statement_layer (Statement-F.Case at x ys) =
    let z : Statement-F Statement Element = Statement-F.Case at x (parts ys) in
    hands_as (roll-Statement z) _ (step_is z)
    (λ c Γ cs t e. (let a = then_yes (index_at c Γ x cs) _ t e in
    let es = then_yes (elements c Γ a.0.0.1 (map element (parts ys)) a.0.1) _ t a.2 in
    made_adds statement_threatens _ cs es.0.1 t es.2
    (adds_both cs a.0.1 es.0.1 (expr_threatens a.0.0.0) (elements_of es.0.0) (case_index_adds c Γ x cs a.0 a.1)
    (elements_add c Γ a.0.0.1 ys a.0.1 es.0 es.1))))
statement_layer (Statement-F.While x s) =
    let z : Statement-F Statement Element = Statement-F.While x s.0 in
    hands_as (roll-Statement z) _ (step_is z)
    (λ c Γ cs t e. (let g = then_yes (governed c Γ x (statement s.0) cs) _ t e in made_adds statement_threatens
    (Tree.While g.0.0.0 g.0.0.1) cs g.0.1 t g.2 (governed_adds c Γ x s cs g.0 g.1)))
statement_layer (Statement-F.Repeat ys x) =
    let z : Statement-F Statement Element = Statement-F.Repeat (parts ys) x in
    hands_as (roll-Statement z) _ (step_is z)
    (λ c Γ cs t e. (let ss = then_yes (sequence_in c Γ (map statement (parts ys)) cs) _ t e in
    let a = then_yes (condition_at c Γ x ss.0.1) _ t ss.2 in
    made_adds statement_threatens (Tree.Repeat ss.0.0 a.0.0) cs a.0.1 t a.2
    (adds_both cs ss.0.1 a.0.1 (statements_threaten ss.0.0) (expr_threatens a.0.0)
    (sequence_adds c Γ ys cs ss.0 ss.1) (condition_adds c Γ x ss.0.1 a.0 a.1))))
statement_layer (Statement-F.For name x direction y s) =
    let z : Statement-F Statement Element = Statement-F.For name x direction y s.0 in
    hands_as (roll-Statement z) _ (step_is z)
    (λ c Γ cs t e. (let h = then_yes (for_head c Γ name x direction y cs) _ t e in
    let body = then_yes (statement s.0 (with_control c h.0.0.variable) Γ h.0.1) _ t h.2 in
    made_adds statement_threatens (repeated h.0.0 body.0.0) cs body.0.1 t body.2
    (adds_both cs h.0.1 body.0.1 (head_threatens c Γ h.0.0) (statement_threatens body.0.0)
    (head_adds c Γ name x direction y cs h.0 h.1)
    (adds_outside c h.0.0.variable h.0.1 body.0.1 (statement_threatens body.0.0)
    (s.1 (with_control c h.0.0.variable) Γ h.0.1 body.0 body.1)))))
statement_layer (Statement-F.With xs s) =
    let z : Statement-F Statement Element = Statement-F.With xs s.0 in
    hands_as (roll-Statement z) _ (step_is z)
    (λ c Γ cs t e. (let o = then_yes (through (open_next c) ([], Γ) xs cs) _ t e in
    let body = then_yes (statement s.0 c o.0.0.1 o.0.1) _ t o.2 in
    made_adds statement_threatens (Tree.With o.0.0.0 body.0.0) cs body.0.1 t body.2
    (adds_both cs o.0.1 body.0.1 (opening_threatens o.0.0) (statement_threatens body.0.0)
    (openings_more c xs Γ cs o.0 o.1) (s.1 c o.0.0.1 o.0.1 body.0 body.1))))

element_layer : (y : Element-F AtStatement AtElement) → ElementHands
    (roll-Element (map-Element AtStatement AtElement Statement Element (λ x. x.0) (λ x. x.0) y))
unfolding statement element element_step
element_layer y c Γ o seen cs t e =
    let z : Element-F Statement Element = record { constants = y.constants; statement = y.statement.0 } in
    let is : element (roll-Element z) c Γ o seen cs
    ≡ (still (labels c Γ o seen y.constants)
    >>= (λ own. statement y.statement.0 c Γ >>= (λ body. same (own, body)))) cs =
    ap (λ (r : ElementReading). r c Γ o seen cs)
    (fold-roll-Element Reading ElementReading statement_step element_step z) in
    let own = then_still (labels c Γ o seen y.constants) cs _ t (sym is ∙ e) in
    let body = then_yes (statement y.statement.0 c Γ cs) _ t own.2 in
    made_adds element_threatens (own.0, body.0.0) cs body.0.1 t body.2 (y.statement.1 c Γ cs body.0 body.1)

pub all_hand : (x : Statement) → StatementHands x
all_hand = ind-Statement StatementHands ElementHands
    (λ x y is. subst (λ z. StatementHands (roll-Statement z)) is (statement_layer y))
    (λ x y is. subst (λ z. ElementHands (roll-Element z)) is (element_layer y))

pub statements_hand : (c : Context) (Γ : List Region) (xs : List Statement) (cs : List Change)
    (t : Tree.Statements × List Change) → statements c Γ xs cs ≡ Yes t → Adds c cs t.1 (statements_threaten t.0)
unfolding statements statements_threaten
statements_hand c Γ xs cs t e =
    let ts = then_yes (each (λ x. statement x c Γ) xs cs) _ t e in
    let all = adds_all cs ts.0.1 (list_threatens ts.0.0)
    (each_more (λ x. statement x c Γ) statement_threatens list_threatens statements_last xs
    (each_all (λ x. (cs : List Change) (t : Tree.Statement × List Change) → statement x c Γ cs ≡ Yes t → Adds c cs t.1
    (statement_threatens t.0)) (λ x cs t g. all_hand x c Γ cs t g) xs) ([], cs) ts.0 ts.1) in
    made_adds statements_threaten (statement_list ts.0.0) cs ts.0.1 t ts.2 all

pub what_is_threatened_is_changed : WhatIsThreatenedIsChanged
what_is_threatened_is_changed c Γ xs body changes e = (statements_hand c Γ xs [] (body, changes) e).entries
