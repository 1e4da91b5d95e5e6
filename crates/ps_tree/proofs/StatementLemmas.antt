-- What the statements with lists of children denote.
use Rattle.std.proofs.Common.{◌≡◌, ℕ, ℤ, List, [], ◌∷◌, Vec, Box, Global, refl, sym, ap, ◌∙◌}
use Rattle.ps_tree.specs.Tree as Tree
use Rattle.ps_tree.specs.declared.count.Extent.{Extent}
use Rattle.ps_tree.specs.declared.line.Line.{Line}
use Rattle.ps_tree.specs.declared.types.Ty.{Ty}
use Rattle.ps_tree.specs.declared.tree.operators.Direction.{Direction}
use Rattle.ps_tree.specs.declared.tree.Place.{Place}
use Rattle.ps_tree.specs.declared.tree.Expr.{Expr}
use Rattle.ps_tree.specs.declared.tree.statements.Statement.{Statement, Compound, Repeat, Case, For, Pack, Unpack}
use Rattle.ps_tree.specs.declared.tree.statements.Statement.{Row_of-Statement, end_of-Statement, more_of-Statement}
use Rattle.ps_tree.specs.declared.tree.statements.Statement.{Row_of-CaseElement, end_of-CaseElement}
use Rattle.ps_tree.specs.declared.tree.statements.Statement.{more_of-CaseElement}
use Rattle.ps_tree.specs.declared.tree.statements.Statement.{items-the_row-Statement, items_hidden-the_row-Statement-0}
use Rattle.ps_tree.specs.declared.tree.statements.Statement.{items-the_row-CaseElement}
use Rattle.ps_tree.specs.declared.tree.statements.Statement.{items_hidden-the_row-CaseElement-1}
use Rattle.ps_tree.specs.declared.tree.statements.Statement.TheBlock.{hidden-the_row-Statement-0}
use Rattle.ps_tree.specs.declared.tree.statements.Statement.TheBlock.{hidden-the_row-CaseElement-1}
use Rattle.ps_tree.specs.declared.tree.statements.CaseElement.{CaseElement, out-CaseElement}
use Rattle.ps_tree.specs.Counts.{capped, ◌⊕◌, nothing, node, place_extent, expr_extent, statement_extent}
use Rattle.ps_tree.specs.Counts.{statements_extent, elements_extent}
use Rattle.ps_tree.specs.View.{place_of, expr_of, statement_of, statements_of, statements_of_row, elements_of}
use Rattle.ps_tree.specs.View.{elements_of_row}

statements_row_is : {n : _} (k : Row_of-Statement n) → statements_of_row k ≡ statements_of (items-the_row-Statement n k)
unfolding statements_of_row statements_of
statements_row_is end_of-Statement = refl
statements_row_is (more_of-Statement s rest) = ap (Tree.statement_before (statement_of s)) (statements_row_is rest)

pub statement_of_Compound : (v : Vec Statement Global) → statement_of (Compound v) ≡ Tree.Compound
    (statements_of v.items)
unfolding statement_of
statement_of_Compound v = ap Tree.Compound
    (statements_row_is (hidden-the_row-Statement-0 v) ∙ ap statements_of (items_hidden-the_row-Statement-0 v))

pub statement_of_Repeat : (v : Vec Statement Global) (e : Expr) → statement_of (Repeat v e) ≡ Tree.Repeat
    (statements_of v.items) (expr_of e)
unfolding statement_of
statement_of_Repeat v e = ap (λ l. Tree.Repeat l (expr_of e))
    (statements_row_is (hidden-the_row-Statement-0 v) ∙ ap statements_of (items_hidden-the_row-Statement-0 v))

elements_row_is : {n : _} (k : Row_of-CaseElement n) → elements_of_row k ≡ elements_of (items-the_row-CaseElement n k)
unfolding elements_of_row elements_of
elements_row_is end_of-CaseElement = refl
elements_row_is (more_of-CaseElement constants s rest) = ap (Tree.element_before constants.items (statement_of s))
    (elements_row_is rest)

pub statement_of_Case : (e : Expr) (v : Vec CaseElement Global) (line : Line) → statement_of (Case e v line) ≡ Tree.Case
    (expr_of e) (elements_of v.items) line.number
unfolding statement_of
statement_of_Case e v line = ap (λ l. Tree.Case (expr_of e) l line.number)
    (elements_row_is (hidden-the_row-CaseElement-1 v) ∙ ap elements_of (items_hidden-the_row-CaseElement-1 v))

abbrev pub statements_size : List Statement → Extent
statements_size items = statements_extent (statements_of items)

pub statements_none : statements_size [] ≡ nothing
unfolding statements_extent statements_of
statements_none = refl

pub statements_more : (x : Statement) (xs : List Statement) → statements_size (x ∷ xs) ≡ statement_extent
    (statement_of x) ⊕ statements_size xs
unfolding statements_extent statements_of
statements_more x xs = refl

abbrev pub elements_size : List CaseElement → Extent
elements_size items = elements_extent (elements_of items)

pub elements_none : elements_size [] ≡ nothing
unfolding elements_extent elements_of
elements_none = refl

pub elements_more : (x : CaseElement) (xs : List CaseElement) → elements_size (x ∷ xs) ≡ statement_extent
    (statement_of (out-CaseElement x).body) ⊕ elements_size xs
unfolding elements_extent elements_of
elements_more x xs = refl

-- the extent of a statement, capped at the largest number of eight bytes
abbrev pub statement_told : Statement → Extent
statement_told s = capped (statement_extent (statement_of s))

pub told_as : (s t : Statement) → s ≡ t → statement_told t ≡ statement_told s
told_as s t f = sym (ap statement_told f)

pub compound_counted : (s : Statement) (v : Vec Statement Global) → s ≡ Compound v → node ⊕ statements_extent
    (statements_of v.items) ≡ statement_extent (statement_of s)
unfolding statement_extent
compound_counted s v f = sym (ap statement_extent (ap statement_of f ∙ statement_of_Compound v))

pub repeat_counted : (s : Statement) (v : Vec Statement Global) (e : Expr) → s ≡ Repeat v e → node ⊕ statements_extent
    (statements_of v.items) ⊕ expr_extent (expr_of e) ≡ statement_extent (statement_of s)
unfolding statement_extent
repeat_counted s v e f = sym (ap statement_extent (ap statement_of f ∙ statement_of_Repeat v e))

-- the extents of statements with many parts
pub case_counted : (s : Statement) (e : Expr) (v : Vec CaseElement Global) (line : Line) (items : List CaseElement) → s
    ≡ Case e v line → items ≡ v.items → node ⊕ expr_extent (expr_of e) ⊕ elements_extent (elements_of items)
    ≡ statement_extent (statement_of s)
unfolding statement_extent
case_counted s e v line items f g = ap (λ l. node ⊕ expr_extent (expr_of e) ⊕ elements_extent (elements_of l)) g ∙ sym
    (ap statement_extent (ap statement_of f ∙ statement_of_Case e v line))

pub for_counted : (s : Statement) (variable at : ℕ) (low high : ℤ) (from : Box Expr Global) (a : Expr)
    (from_line : Line)
    (direction : Direction) (to : Box Expr Global) (b : Expr) (to_line : Line) (body : Box Statement Global)
    (inner : Statement) → s ≡ For variable at low high from from_line direction to to_line body → a ≡ from.value → b
    ≡ to.value → inner ≡ body.value → node ⊕ (node ⊕ expr_extent (expr_of a)) ⊕ expr_extent (expr_of b)
    ⊕ statement_extent (statement_of inner) ≡ statement_extent (statement_of s)
unfolding statement_extent statement_of
for_counted s variable at low high from a from_line direction to b to_line body inner f g h k =
    ap (λ x. node ⊕ (node ⊕ expr_extent (expr_of x)) ⊕ expr_extent (expr_of b)
    ⊕ statement_extent (statement_of inner)) g
    ∙ ap (λ x. node ⊕ (node ⊕ expr_extent (expr_of from.value)) ⊕ expr_extent (expr_of x)
    ⊕ statement_extent (statement_of inner)) h
    ∙ ap (λ t. node ⊕ (node ⊕ expr_extent (expr_of from.value)) ⊕ expr_extent (expr_of to.value)
    ⊕ statement_extent (statement_of t)) k
    ∙ sym (ap (λ t. statement_extent (statement_of t)) f)

pub pack_counted : (s : Statement) (from : Box Place Global) (p : Place) (from_ty : Box Ty Global) (e : Expr)
    (line : Line) (to : Box Place Global) (q : Place) (to_ty : Box Ty Global) → s
    ≡ Pack from from_ty e line to to_ty → p ≡ from.value → q ≡ to.value →
    node ⊕ (node ⊕ place_extent (place_of p)) ⊕ (node ⊕ expr_extent (expr_of e))
    ⊕ (node ⊕ place_extent (place_of q)) ≡ statement_extent (statement_of s)
unfolding statement_extent statement_of
pack_counted s from p from_ty e line to q to_ty f g h =
    ap (λ x. node ⊕ (node ⊕ place_extent (place_of x)) ⊕ (node ⊕ expr_extent (expr_of e))
    ⊕ (node ⊕ place_extent (place_of q))) g
    ∙ ap (λ x. node ⊕ (node ⊕ place_extent (place_of from.value)) ⊕ (node ⊕ expr_extent (expr_of e))
    ⊕ (node ⊕ place_extent (place_of x))) h
    ∙ sym (ap (λ t. statement_extent (statement_of t)) f)

pub unpack_counted : (s : Statement) (from : Box Place Global) (p : Place) (from_ty : Box Ty Global)
    (to : Box Place Global) (q : Place) (to_ty : Box Ty Global) (e : Expr) (line : Line) →
    s ≡ Unpack from from_ty to to_ty e line → p ≡ from.value → q
    ≡ to.value → node ⊕ (node ⊕ place_extent (place_of p)) ⊕ (node ⊕ place_extent (place_of q))
    ⊕ (node ⊕ expr_extent (expr_of e)) ≡ statement_extent (statement_of s)
unfolding statement_extent statement_of
unpack_counted s from p from_ty to q to_ty e line f g h =
    ap (λ x. node ⊕ (node ⊕ place_extent (place_of x)) ⊕ (node ⊕ place_extent (place_of q))
    ⊕ (node ⊕ expr_extent (expr_of e))) g
    ∙ ap (λ x. node ⊕ (node ⊕ place_extent (place_of from.value)) ⊕ (node ⊕ place_extent (place_of x))
    ⊕ (node ⊕ expr_extent (expr_of e))) h
    ∙ sym (ap (λ t. statement_extent (statement_of t)) f)
