-- Lists in the tree, from a place on.
use Rattle.std.proofs.Common.{◌≡◌, ℕ, suc, ◌+◌, ◌<◌, ◌≤◌, List, ◌∷◌, length, get_or, drop, Vec, Global, sym, ap, ◌∙◌}
use Rattle.std.proofs.Common.{add-one}
use Rattle.std.proofs.Math.Seq.{drop-cons}
use Rattle.std.proofs.lemmas.List.{drop_all}
use Rattle.ps_tree.specs.Tree as Tree
use Rattle.ps_tree.specs.declared.line.Line.{Line}
use Rattle.ps_tree.specs.declared.tree.Expr.{Expr, Call, CallFormal}
use Rattle.ps_tree.specs.declared.tree.SetExpr.{Constructor}
use Rattle.ps_tree.specs.declared.tree.Argument.{Argument}
use Rattle.ps_tree.specs.declared.tree.Member.{Member}
use Rattle.ps_tree.specs.View.{expr_of, set_of, arguments_of, members_of, argument_of, member_of}
use Rattle.ps_tree.specs.declared.tree.statements.Statement.{Statement, Compound, Repeat, Case}
use Rattle.ps_tree.specs.declared.tree.statements.CaseElement.{CaseElement, out-CaseElement}
use Rattle.ps_tree.specs.View.{statement_of, statements_of, elements_of}
use Rattle.ps_tree.proofs.StatementLemmas as st
use Rattle.ps_tree.proofs.TreeLemmas as t

pub expr_of_Call : (routine up : ℕ) (v : Vec Argument Global) (line : Line) → expr_of (Call routine up v line)
    ≡ Tree.Call routine up (arguments_of v.items) line.number
expr_of_Call = t.expr_of_Call

pub expr_of_CallFormal : (up index : ℕ) (v : Vec Argument Global) (line : Line) → expr_of (CallFormal up index v line)
    ≡ Tree.CallFormal up index (arguments_of v.items) line.number
expr_of_CallFormal = t.expr_of_CallFormal

pub set_of_Constructor : (v : Vec Member Global) → set_of (Constructor v) ≡ Tree.Constructor (members_of v.items)
set_of_Constructor = t.set_of_Constructor

pub drop_next : {A : Type 0} (xs : List A) (i : ℕ) (x : A) → i < length xs → x ≡ get_or xs i x → drop i xs ≡ x ∷ drop
    (i + 1) xs
drop_next xs i x lt at = drop-cons xs i x lt ∙ ap (λ y. y ∷ drop (suc i) xs) (sym at) ∙ ap (λ j. x ∷ drop j xs)
    (sym (add-one i))

pub members_at : (xs : List Member) (i : ℕ) (x : Member) → i < length xs → x ≡ get_or xs i x → members_of (drop i xs)
    ≡ Tree.member_before (member_of x) (members_of (drop (i + 1) xs))
unfolding members_of
members_at xs i x lt at = ap members_of (drop_next xs i x lt at)

pub members_past : (xs : List Member) (i : ℕ) → length xs ≤ i → members_of (drop i xs) ≡ Tree.no_member
unfolding members_of
members_past xs i le = ap members_of (drop_all i xs le)

pub arguments_at : (xs : List Argument) (i : ℕ) (x : Argument) → i < length xs → x ≡ get_or xs i x → arguments_of
    (drop i xs) ≡ Tree.argument_before (argument_of x) (arguments_of (drop (i + 1) xs))
unfolding arguments_of
arguments_at xs i x lt at = ap arguments_of (drop_next xs i x lt at)

pub arguments_past : (xs : List Argument) (i : ℕ) → length xs ≤ i → arguments_of (drop i xs) ≡ Tree.no_argument
unfolding arguments_of
arguments_past xs i le = ap arguments_of (drop_all i xs le)

-- calls, read again
pub call_is : (e : Expr) (routine up : ℕ) (v : Vec Argument Global) (line : Line) (items : List Argument) → e
    ≡ Call routine up v line → items ≡ v.items → Tree.Call routine up (arguments_of items) line.number ≡ expr_of e
call_is e routine up v line items f g = ap (λ l. Tree.Call routine up (arguments_of l) line.number) g ∙ sym
    (ap expr_of f ∙ expr_of_Call routine up v line)

pub call_formal_is : (e : Expr) (up index : ℕ) (v : Vec Argument Global) (line : Line) (items : List Argument) → e
    ≡ CallFormal up index v line → items ≡ v.items → Tree.CallFormal up index (arguments_of items) line.number
    ≡ expr_of e
call_formal_is e up index v line items f g = ap (λ l. Tree.CallFormal up index (arguments_of l) line.number) g ∙ sym
    (ap expr_of f ∙ expr_of_CallFormal up index v line)

pub statement_of_Compound : (v : Vec Statement Global) → statement_of (Compound v) ≡ Tree.Compound
    (statements_of v.items)
statement_of_Compound = st.statement_of_Compound

pub statement_of_Repeat : (v : Vec Statement Global) (e : Expr) → statement_of (Repeat v e) ≡ Tree.Repeat
    (statements_of v.items) (expr_of e)
statement_of_Repeat = st.statement_of_Repeat

pub statement_of_Case : (e : Expr) (v : Vec CaseElement Global) (line : Line) → statement_of (Case e v line) ≡ Tree.Case
    (expr_of e) (elements_of v.items) line.number
statement_of_Case = st.statement_of_Case

pub statements_at : (xs : List Statement) (i : ℕ) (x : Statement) → i < length xs → x ≡ get_or xs i x → statements_of
    (drop i xs) ≡ Tree.statement_before (statement_of x) (statements_of (drop (i + 1) xs))
unfolding statements_of
statements_at xs i x lt at = ap statements_of (drop_next xs i x lt at)

pub statements_past : (xs : List Statement) (i : ℕ) → length xs ≤ i → statements_of (drop i xs) ≡ Tree.no_statement
unfolding statements_of
statements_past xs i le = ap statements_of (drop_all i xs le)

-- statements, read again
pub case_is : (s : Statement) (e : Expr) (v : Vec CaseElement Global) (line : Line) (items : List CaseElement) → s
    ≡ Case e v line → items ≡ v.items → Tree.Case (expr_of e) (elements_of items) line.number ≡ statement_of s
case_is s e v line items f g = ap (λ l. Tree.Case (expr_of e) (elements_of l) line.number) g ∙ sym
    (ap statement_of f ∙ statement_of_Case e v line)

pub repeat_is : (s : Statement) (e : Expr) (v : Vec Statement Global) (items : List Statement) → s ≡ Repeat v e → items
    ≡ v.items → Tree.Repeat (statements_of items) (expr_of e) ≡ statement_of s
repeat_is s e v items f g = ap (λ l. Tree.Repeat (statements_of l) (expr_of e)) g ∙ sym
    (ap statement_of f ∙ statement_of_Repeat v e)

pub elements_at : (xs : List CaseElement) (i : ℕ) (x : CaseElement) → i < length xs → x ≡ get_or xs i x → elements_of
    (drop i xs) ≡ Tree.element_before (out-CaseElement x).constants.items (statement_of (out-CaseElement x).body)
    (elements_of (drop (i + 1) xs))
unfolding elements_of
elements_at xs i x lt at = ap elements_of (drop_next xs i x lt at)

pub elements_past : (xs : List CaseElement) (i : ℕ) → length xs ≤ i → elements_of (drop i xs) ≡ Tree.no_element
unfolding elements_of
elements_past xs i le = ap elements_of (drop_all i xs le)
