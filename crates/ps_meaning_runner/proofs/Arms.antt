-- The arms of `evaluate` and `act`: a form, read again, takes one level more than the highest of its parts.
use Rattle.std.proofs.Common.{◌≡◌, ℕ, ℤ, suc, ◌-◌, List, Vec, Box, Global, Result, sym, ap, subst, ◌∙◌, map, arith}
use Rattle.ps_tree.specs.Tree as t
use Rattle.ps_tree.specs.declared.line.Line.{Line}
use Rattle.ps_tree.specs.declared.types.Ty.{Ty}
use Rattle.ps_tree.specs.declared.tree.operators.Range.{Range}
use Rattle.ps_tree.specs.declared.tree.operators.OrderRelation.{OrderRelation}
use Rattle.ps_tree.specs.declared.tree.operators.PointerRelation.{PointerRelation}
use Rattle.ps_tree.specs.declared.tree.operators.SetRelation.{SetRelation}
use Rattle.ps_tree.specs.declared.tree.Place.{Place}
use Rattle.ps_tree.specs.declared.tree.Argument.{Argument}
use Rattle.ps_tree.specs.declared.tree.statements.ReadVariable.{ReadVariable}
use Rattle.ps_tree.specs.declared.tree.statements.WriteParameter.{WriteParameter}
use Rattle.ps_tree.specs.declared.tree.SetExpr.{SetExpr}
use Rattle.ps_tree.specs.declared.tree.Structure.{Structure}
use Rattle.ps_tree.specs.declared.tree.Expr.{Expr, Plus, Compare, ComparePointers, CompareSets, CompareStrings, In}
use Rattle.ps_tree.specs.declared.tree.statements.Statement.{Statement, Assign, AssignStructure, Call, CallFormal}
use Rattle.ps_tree.specs.declared.tree.statements.Statement.{Compound, If, For}
use Rattle.ps_tree.specs.declared.tree.operators.Direction.{Direction}
use Rattle.ps_tree.specs.declared.tree.statements.Statement.{IfElse, While, With, New, Pack, Unpack, Read, Readln}
use Rattle.ps_tree.specs.declared.tree.statements.Statement.{Write, Writeln}
use Rattle.ps_tree.specs.View.{type_of, place_of, expr_of, set_of, structure_of, arguments_of, statement_of}
use Rattle.ps_tree.specs.View.{statements_of, read_of, write_of}
use Rattle.ps_meaning.specs.Worlds as m
use Rattle.ps_meaning.specs.Expressions as e
use Rattle.ps_meaning_runner.specs.declared.value.Value.{Value}
use Rattle.ps_meaning_runner.specs.declared.stop.Halt.{Halt}
use Rattle.ps_meaning_runner.specs.declared.world.Setup.{Setup}
use Rattle.ps_meaning_runner.specs.declared.world.World.{World}
use Rattle.ps_meaning_runner.specs.View.{value_of}
use Rattle.ps_meaning_runner.specs.Worlds.{caller, acting, done_of}
use Rattle.ps_meaning_runner.specs.Heights.{expr_height, statement_height}
use Rattle.ps_meaning_runner.specs.Runs.{Runs, levels}
use Rattle.ps_meaning_runner.proofs.Answers.{runs_deeper}
use Rattle.ps_meaning_runner.proofs.Trees as tree

pub expr_runs : (setup : Setup) (n : ℕ) (c : m.Context) (w : m.World) (x : Expr) (whole : t.Expr) (height : ℕ)
    (result : Result Value Halt) (u : World) (d : ℕ) → whole ≡ expr_of x → expr_height whole ≡ suc height
    → Runs value_of (e.value (caller setup n) whole c w) (d - 1) (levels setup n height) result u → Runs value_of
    (e.value (caller setup n) (expr_of x) c w) d (levels setup n (expr_height (expr_of x))) result u
expr_runs setup n c w x whole height result u d is high h =
    subst (λ (y : t.Expr). Runs value_of (e.value (caller setup n) y c w) d (levels setup n (expr_height y)) result u)
    is (runs_deeper value_of (e.value (caller setup n) whole c w) result u (d - 1) (levels setup n height) d
    (levels setup n (expr_height whole)) h (omega arith))

pub statement_runs : (setup : Setup) (n : ℕ) (c : m.Context) (w : m.World) (x : Statement) (whole : t.Statement)
    (height : ℕ) (result : Result (Unit {0}) Halt) (u : World) (d : ℕ) → whole ≡ statement_of x → statement_height whole
    ≡ suc height → Runs done_of (acting setup n whole c w) (d - 1) (levels setup n height) result u → Runs done_of
    (acting setup n (statement_of x) c w) d (levels setup n (statement_height (statement_of x))) result u
statement_runs setup n c w x whole height result u d is high h =
    subst (λ (y : t.Statement). Runs done_of (acting setup n y c w) d (levels setup n (statement_height y)) result u) is
    (runs_deeper done_of (acting setup n whole c w) result u (d - 1) (levels setup n height) d
    (levels setup n (statement_height whole)) h (omega arith))

pub plus_is : (x : Expr) (operand_box : Box Expr Global) (operand : Expr) → x ≡ Plus operand_box → operand
    ≡ operand_box.value → t.Plus (expr_of operand) ≡ expr_of x
unfolding expr_of
plus_is x operand_box operand is h0 = ap (λ k. t.Plus (expr_of k)) h0 ∙ sym (ap expr_of is)

pub compare_is : (x : Expr) (relation : OrderRelation) (left_box : Box Expr Global) (left : Expr)
    (right_box : Box Expr Global) (right : Expr) → x ≡ Compare relation left_box right_box → left ≡ left_box.value
    → right ≡ right_box.value → t.Compare relation (expr_of left) (expr_of right) ≡ expr_of x
unfolding expr_of
compare_is x relation left_box left right_box right is h0 h1 = ap (λ k. t.Compare relation (expr_of k) (expr_of right))
    h0 ∙ ap (λ k. t.Compare relation (expr_of left_box.value) (expr_of k)) h1 ∙ sym (ap expr_of is)

pub compare_pointers_is : (x : Expr) (relation : PointerRelation) (left_box : Box Expr Global) (left : Expr)
    (right_box : Box Expr Global) (right : Expr) → x ≡ ComparePointers relation left_box right_box → left
    ≡ left_box.value → right ≡ right_box.value → t.ComparePointers relation (expr_of left) (expr_of right) ≡ expr_of x
unfolding expr_of
compare_pointers_is x relation left_box left right_box right is h0 h1 =
    ap (λ k. t.ComparePointers relation (expr_of k) (expr_of right)) h0
    ∙ ap (λ k. t.ComparePointers relation (expr_of left_box.value) (expr_of k)) h1 ∙ sym (ap expr_of is)

pub compare_sets_is : (x : Expr) (relation : SetRelation) (left_box : Box SetExpr Global) (left : SetExpr)
    (right_box : Box SetExpr Global) (right : SetExpr) → x ≡ CompareSets relation left_box right_box → left
    ≡ left_box.value → right ≡ right_box.value → t.CompareSets relation (set_of left) (set_of right) ≡ expr_of x
unfolding expr_of
compare_sets_is x relation left_box left right_box right is h0 h1 =
    ap (λ k. t.CompareSets relation (set_of k) (set_of right)) h0
    ∙ ap (λ k. t.CompareSets relation (set_of left_box.value) (set_of k)) h1 ∙ sym (ap expr_of is)

pub compare_strings_is : (x : Expr) (relation : OrderRelation) (left_box : Box Structure Global) (left : Structure)
    (right_box : Box Structure Global) (right : Structure) → x ≡ CompareStrings relation left_box right_box → left
    ≡ left_box.value → right ≡ right_box.value → t.CompareStrings relation (structure_of left) (structure_of right)
    ≡ expr_of x
unfolding expr_of
compare_strings_is x relation left_box left right_box right is h0 h1 =
    ap (λ k. t.CompareStrings relation (structure_of k) (structure_of right)) h0
    ∙ ap (λ k. t.CompareStrings relation (structure_of left_box.value) (structure_of k)) h1 ∙ sym (ap expr_of is)

pub member_is : (x : Expr) (left_box : Box Expr Global) (left : Expr) (right_box : Box SetExpr Global) (right : SetExpr)
    → x ≡ In left_box right_box → left ≡ left_box.value → right ≡ right_box.value → t.In (expr_of left) (set_of right)
    ≡ expr_of x
unfolding expr_of
member_is x left_box left right_box right is h0 h1 = ap (λ k. t.In (expr_of k) (set_of right)) h0
    ∙ ap (λ k. t.In (expr_of left_box.value) (set_of k)) h1 ∙ sym (ap expr_of is)

pub assign_is : (x : Statement) (target : Place) (range : Range) (value : Expr) (line : Line) → x
    ≡ Assign range target value line → t.Assign (place_of target) range (expr_of value) line.number ≡ statement_of x
unfolding statement_of
assign_is x target range value line is = sym (ap statement_of is)

pub assign_structure_is : (x : Statement) (target : Place) (value : Structure) → x ≡ AssignStructure target value
    → t.AssignStructure (place_of target) (structure_of value) ≡ statement_of x
unfolding statement_of
assign_structure_is x target value is = sym (ap statement_of is)

pub call_is : (x : Statement) (routine : ℕ) (up : ℕ) (arguments_items : Vec Argument Global) (arguments : List Argument)
    (line : Line) → x ≡ Call routine up arguments_items line → arguments ≡ arguments_items.items
    → t.CallProcedure routine up (arguments_of arguments) line.number ≡ statement_of x
unfolding statement_of
call_is x routine up arguments_items arguments line is h0 =
    ap (λ k. t.CallProcedure routine up (arguments_of k) line.number) h0 ∙ sym (ap statement_of is)

pub call_formal_is : (x : Statement) (up : ℕ) (index : ℕ) (arguments_items : Vec Argument Global)
    (arguments : List Argument) (line : Line) → x ≡ CallFormal up index arguments_items line → arguments
    ≡ arguments_items.items → t.CallFormalProcedure up index (arguments_of arguments) line.number ≡ statement_of x
unfolding statement_of
call_formal_is x up index arguments_items arguments line is h0 =
    ap (λ k. t.CallFormalProcedure up index (arguments_of k) line.number) h0 ∙ sym (ap statement_of is)

pub compound_is : (x : Statement) (body_items : Vec Statement Global) (body : List Statement) → x ≡ Compound body_items
    → body ≡ body_items.items → t.Compound (statements_of body) ≡ statement_of x
unfolding statement_of
compound_is x body_items body is h0 = ap (λ k. t.Compound (statements_of k)) h0 ∙ sym
    (ap statement_of is ∙ tree.statement_of_Compound body_items)

pub if_is : (x : Statement) (condition : Expr) (body_box : Box Statement Global) (body : Statement) → x
    ≡ If condition body_box → body ≡ body_box.value → t.If (expr_of condition) (statement_of body) ≡ statement_of x
unfolding statement_of
if_is x condition body_box body is h0 = ap (λ k. t.If (expr_of condition) (statement_of k)) h0 ∙ sym
    (ap statement_of is)

pub if_else_is : (x : Statement) (condition : Expr) (body_box : Box Statement Global) (body : Statement)
    (otherwise_box : Box Statement Global) (otherwise : Statement) → x ≡ IfElse condition body_box otherwise_box → body
    ≡ body_box.value → otherwise ≡ otherwise_box.value → t.IfElse (expr_of condition) (statement_of body)
    (statement_of otherwise) ≡ statement_of x
unfolding statement_of
if_else_is x condition body_box body otherwise_box otherwise is h0 h1 =
    ap (λ k. t.IfElse (expr_of condition) (statement_of k) (statement_of otherwise)) h0
    ∙ ap (λ k. t.IfElse (expr_of condition) (statement_of body_box.value) (statement_of k)) h1 ∙ sym
    (ap statement_of is)

pub while_is : (x : Statement) (condition : Expr) (body_box : Box Statement Global) (body : Statement) → x
    ≡ While condition body_box → body ≡ body_box.value → t.While (expr_of condition) (statement_of body)
    ≡ statement_of x
unfolding statement_of
while_is x condition body_box body is h0 = ap (λ k. t.While (expr_of condition) (statement_of k)) h0 ∙ sym
    (ap statement_of is)

pub for_is : (x : Statement) (variable at : ℕ) (low high low' high' : ℤ) (from_box : Box Expr Global) (from : Expr)
    (from_line : Line) (direction : Direction) (to_box : Box Expr Global) (to : Expr) (to_line : Line)
    (body_box : Box Statement Global) (body : Statement) → x
    ≡ For variable at low high from_box from_line direction to_box to_line body_box → from ≡ from_box.value → to
    ≡ to_box.value → body ≡ body_box.value → low' ≡ low → high' ≡ high → t.For variable low' high' (expr_of from)
    from_line.number direction (expr_of to) to_line.number (statement_of body) ≡ statement_of x
unfolding statement_of
for_is x variable at low high low' high' from_box from from_line direction to_box to to_line body_box body is h0 h1 h2
    h3 h4 =
    ap (λ k. t.For variable k high' (expr_of from) from_line.number direction (expr_of to) to_line.number
    (statement_of body)) h3
    ∙ ap (λ k. t.For variable low k (expr_of from) from_line.number direction (expr_of to) to_line.number
    (statement_of body)) h4
    ∙ ap (λ k. t.For variable low high (expr_of k) from_line.number direction (expr_of to) to_line.number
    (statement_of body)) h0
    ∙ ap (λ k. t.For variable low high (expr_of from_box.value) from_line.number direction (expr_of k) to_line.number
    (statement_of body)) h1
    ∙ ap (λ k. t.For variable low high (expr_of from_box.value) from_line.number direction (expr_of to_box.value)
    to_line.number (statement_of k)) h2 ∙ sym (ap statement_of is)

pub with_is : (x : Statement) (places_items : Vec Place Global) (places : List Place) (body_box : Box Statement Global)
    (body : Statement) → x ≡ With places_items body_box → places ≡ places_items.items → body ≡ body_box.value → t.With
    (map place_of places) (statement_of body) ≡ statement_of x
unfolding statement_of
with_is x places_items places body_box body is h0 h1 = ap (λ k. t.With (map place_of k) (statement_of body)) h0
    ∙ ap (λ k. t.With (map place_of places_items.items) (statement_of k)) h1 ∙ sym (ap statement_of is)

pub new_is : (x : Statement) (place : Place) (pointer : ℕ) (line : Line) → x ≡ New place pointer line → t.New
    (place_of place) pointer line.number ≡ statement_of x
unfolding statement_of
new_is x place pointer line is = sym (ap statement_of is)

pub pack_is : (x : Statement) (from_box : Box Place Global) (from : Place) (from_ty_box : Box Ty Global) (from_ty : Ty)
    (index : Expr) (line : Line) (to_box : Box Place Global) (to : Place) (to_ty_box : Box Ty Global) (to_ty : Ty) → x
    ≡ Pack from_box from_ty_box index line to_box to_ty_box → from ≡ from_box.value → from_ty ≡ from_ty_box.value → to
    ≡ to_box.value → to_ty ≡ to_ty_box.value → t.Pack (place_of from) (type_of from_ty) (expr_of index) line.number
    (place_of to) (type_of to_ty) ≡ statement_of x
unfolding statement_of
pack_is x from_box from from_ty_box from_ty index line to_box to to_ty_box to_ty is h0 h1 h2 h3 =
    ap (λ k. t.Pack (place_of k) (type_of from_ty) (expr_of index) line.number (place_of to) (type_of to_ty)) h0
    ∙ ap (λ k. t.Pack (place_of from_box.value) (type_of k) (expr_of index) line.number (place_of to)
    (type_of to_ty)) h1
    ∙ ap (λ k. t.Pack (place_of from_box.value) (type_of from_ty_box.value) (expr_of index) line.number (place_of k)
    (type_of to_ty)) h2
    ∙ ap (λ k. t.Pack (place_of from_box.value) (type_of from_ty_box.value) (expr_of index) line.number
    (place_of to_box.value) (type_of k)) h3 ∙ sym (ap statement_of is)

pub unpack_is : (x : Statement) (from_box : Box Place Global) (from : Place) (from_ty_box : Box Ty Global)
    (from_ty : Ty) (to_box : Box Place Global) (to : Place) (to_ty_box : Box Ty Global) (to_ty : Ty) (index : Expr)
    (line : Line) → x ≡ Unpack from_box from_ty_box to_box to_ty_box index line → from ≡ from_box.value → from_ty
    ≡ from_ty_box.value → to ≡ to_box.value → to_ty ≡ to_ty_box.value → t.Unpack (place_of from) (type_of from_ty)
    (place_of to) (type_of to_ty) (expr_of index) line.number ≡ statement_of x
unfolding statement_of
unpack_is x from_box from from_ty_box from_ty to_box to to_ty_box to_ty index line is h0 h1 h2 h3 =
    ap (λ k. t.Unpack (place_of k) (type_of from_ty) (place_of to) (type_of to_ty) (expr_of index) line.number) h0
    ∙ ap (λ k. t.Unpack (place_of from_box.value) (type_of k) (place_of to) (type_of to_ty)
    (expr_of index) line.number) h1
    ∙ ap (λ k. t.Unpack (place_of from_box.value) (type_of from_ty_box.value) (place_of k) (type_of to_ty)
    (expr_of index) line.number) h2
    ∙ ap (λ k. t.Unpack (place_of from_box.value) (type_of from_ty_box.value) (place_of to_box.value) (type_of k)
    (expr_of index) line.number) h3 ∙ sym (ap statement_of is)

pub read_is : (x : Statement) (variables_items : Vec ReadVariable Global) (variables : List ReadVariable) → x
    ≡ Read variables_items → variables ≡ variables_items.items → t.Read (map read_of variables) ≡ statement_of x
unfolding statement_of
read_is x variables_items variables is h0 = ap (λ k. t.Read (map read_of k)) h0 ∙ sym (ap statement_of is)

pub readln_is : (x : Statement) (variables_items : Vec ReadVariable Global) (variables : List ReadVariable)
    (line : Line) → x ≡ Readln variables_items line → variables ≡ variables_items.items → t.Readln
    (map read_of variables) line.number ≡ statement_of x
unfolding statement_of
readln_is x variables_items variables line is h0 = ap (λ k. t.Readln (map read_of k) line.number) h0 ∙ sym
    (ap statement_of is)

pub write_is : (x : Statement) (parameters_items : Vec WriteParameter Global) (parameters : List WriteParameter) → x
    ≡ Write parameters_items → parameters ≡ parameters_items.items → t.Write (map write_of parameters) ≡ statement_of x
unfolding statement_of
write_is x parameters_items parameters is h0 = ap (λ k. t.Write (map write_of k)) h0 ∙ sym (ap statement_of is)

pub writeln_is : (x : Statement) (parameters_items : Vec WriteParameter Global) (parameters : List WriteParameter) → x
    ≡ Writeln parameters_items → parameters ≡ parameters_items.items → t.Writeln (map write_of parameters)
    ≡ statement_of x
unfolding statement_of
writeln_is x parameters_items parameters is h0 = ap (λ k. t.Writeln (map write_of k)) h0 ∙ sym (ap statement_of is)
