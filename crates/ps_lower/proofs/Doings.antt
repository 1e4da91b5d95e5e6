-- More forms of statements, read again: objects, reads, pack and unpack.
use Rattle.std.proofs.Common.{◌≡◌, ℕ, List, Vec, Box, Global, sym, ap, ◌∙◌, map}
use Rattle.ps_tree.specs.Tree as t
use Rattle.ps_tree.specs.declared.line.Line.{Line}
use Rattle.ps_tree.specs.declared.types.Ty.{Ty}
use Rattle.ps_tree.specs.declared.tree.Place.{Place}
use Rattle.ps_tree.specs.declared.tree.Expr.{Expr}
use Rattle.ps_tree.specs.declared.tree.statements.ReadVariable.{ReadVariable}
use Rattle.ps_tree.specs.declared.tree.statements.Statement.{Statement, New, Pack, Unpack, Read, Readln}
use Rattle.ps_tree.specs.View.{type_of, place_of, expr_of, read_of, statement_of}

pub new_is : (x : Statement) (p : Place) (pointer : ℕ) (line : Line) → x ≡ New p pointer line → t.New
    (place_of p) pointer line.number ≡ statement_of x
unfolding statement_of
new_is x p pointer line is = sym (ap statement_of is)

pub pack_is : (x : Statement) (first : Box Place Global) (p : Place) (from : Box Ty Global) (a : Ty) (e : Expr)
    (line : Line) (second : Box Place Global) (q : Place) (to : Box Ty Global) (b : Ty) → x
    ≡ Pack first from e line second to → p ≡ first.value → a ≡ from.value → q ≡ second.value → b ≡ to.value → t.Pack
    (place_of p) (type_of a) (expr_of e) line.number (place_of q) (type_of b) ≡ statement_of x
unfolding statement_of
pack_is x first p from a e line second q to b is f g h k =
    ap (λ y. t.Pack (place_of y) (type_of a) (expr_of e) line.number (place_of q) (type_of b)) f
    ∙ ap (λ y. t.Pack (place_of first.value) (type_of y) (expr_of e) line.number (place_of q) (type_of b)) g
    ∙ ap (λ y. t.Pack (place_of first.value) (type_of from.value) (expr_of e) line.number (place_of y) (type_of b)) h
    ∙ ap (λ y. t.Pack (place_of first.value) (type_of from.value) (expr_of e) line.number (place_of second.value)
    (type_of y)) k
    ∙ sym (ap statement_of is)

pub unpack_is : (x : Statement) (first : Box Place Global) (p : Place) (from : Box Ty Global) (a : Ty)
    (second : Box Place Global) (q : Place) (to : Box Ty Global) (b : Ty) (e : Expr) (line : Line) → x
    ≡ Unpack first from second to e line → p ≡ first.value → a ≡ from.value → q ≡ second.value → b ≡ to.value
    → t.Unpack (place_of p) (type_of a) (place_of q) (type_of b) (expr_of e) line.number ≡ statement_of x
unfolding statement_of
unpack_is x first p from a second q to b e line is f g h k =
    ap (λ y. t.Unpack (place_of y) (type_of a) (place_of q) (type_of b) (expr_of e) line.number) f
    ∙ ap (λ y. t.Unpack (place_of first.value) (type_of y) (place_of q) (type_of b) (expr_of e) line.number) g
    ∙ ap (λ y. t.Unpack (place_of first.value) (type_of from.value) (place_of y) (type_of b) (expr_of e) line.number) h
    ∙ ap (λ y. t.Unpack (place_of first.value) (type_of from.value) (place_of second.value) (type_of y)
    (expr_of e) line.number) k
    ∙ sym (ap statement_of is)

pub read_is : (x : Statement) (v : Vec ReadVariable Global) (items : List ReadVariable) → x ≡ Read v → items ≡ v.items
    → t.Read (map read_of items) ≡ statement_of x
unfolding statement_of
read_is x v items is h = ap (λ l. t.Read (map read_of l)) h ∙ sym (ap statement_of is)

pub readln_is : (x : Statement) (v : Vec ReadVariable Global) (line : Line) (items : List ReadVariable) → x
    ≡ Readln v line → items ≡ v.items → t.Readln (map read_of items) line.number ≡ statement_of x
unfolding statement_of
readln_is x v line items is h = ap (λ l. t.Readln (map read_of l) line.number) h ∙ sym (ap statement_of is)
