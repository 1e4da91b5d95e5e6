-- The forms of statements, read again.
use Rattle.std.proofs.Common.{◌≡◌, ℕ, ◌+◌, ◌≤◌, List, ◌++◌, Vec, Box, Global, Result, OnOk, sym, ap, subst, ◌∙◌, map}
use Rattle.std.proofs.lemmas.List.{append-nil}
use Rattle.ps_tree.specs.Tree as t
use Rattle.ps_tree.specs.declared.line.Line.{Line}
use Rattle.ps_tree.specs.declared.tree.operators.Range.{Range}
use Rattle.ps_tree.specs.declared.tree.Place.{Place}
use Rattle.ps_tree.specs.declared.tree.Expr.{Expr}
use Rattle.ps_tree.specs.declared.tree.statements.WriteParameter.{WriteParameter}
use Rattle.ps_tree.specs.declared.tree.statements.Statement.{Statement, Empty, Assign, Compound, If, IfElse, While}
use Rattle.ps_tree.specs.declared.tree.statements.Statement.{Repeat, Write}
use Rattle.ps_tree.specs.declared.tree.statements.Statement.{Writeln}
use Rattle.ps_tree.specs.View.{place_of, expr_of, write_of, statement_of, statements_of}
use Rattle.ps_tree.proofs.StatementLemmas.{statement_of_Compound, statement_of_Repeat}
use Rattle.tac_code.specs.declared.code.Instruction.{Instruction}
use Rattle.ps_lower_code.specs.Scopes.{Scope}
use Rattle.ps_lower_code.specs.Statements.{statement_code}
use Rattle.ps_lower_bounds.specs.Weights.{statement_weight}
use Rattle.ps_lower.specs.Refused.{Adds}
use Rattle.ps_lower.specs.declared.refusal.LowerRefusal.{LowerRefusal}
use Rattle.ps_lower.specs.declared.depth.TheConstants.{MAX_NUMBER}

pub act : {X : Type 0} (k : Scope) (x : Statement) (whole : t.Statement) (d : ℕ) (r : Result X LowerRefusal)
    (new old : List Instruction) → whole ≡ statement_of x → Adds r old new (statement_code k whole d) → Adds r old new
    (statement_code k (statement_of x) d)
act k x whole d r new old e h = subst (λ (y : t.Statement). Adds r old new (statement_code k y d)) e h

-- what is refused only when out of memory
pub act_lifted : {X Y E : Type 0} (k : Scope) (x : Statement) (whole : t.Statement) (d : ℕ) (added : Result Y E)
    (r : Result X LowerRefusal) (new old : List Instruction) → whole ≡ statement_of x
    → ((before after code : List Instruction) → OnOk added (after ≡ before ++ code) → Adds r before after code)
    → OnOk added (new ≡ old ++ statement_code k whole d) → Adds r old new (statement_code k (statement_of x) d)
act_lifted k x whole d added r new old e lift h = act k x whole d r new old e
    (lift old new (statement_code k whole d) h)

-- the room for a form is that for the statement
pub room_in : (k : Scope) (x : Statement) (whole : t.Statement) (d : ℕ) → whole ≡ statement_of x → d
    + statement_weight k (statement_of x) d ≤ MAX_NUMBER → d + statement_weight k whole d ≤ MAX_NUMBER
room_in k x whole d e r = subst (λ (y : t.Statement). d + statement_weight k y d ≤ MAX_NUMBER) (sym e) r

pub empty_is : (x : Statement) → x ≡ Empty → t.Empty ≡ statement_of x
unfolding statement_of
empty_is x is = sym (ap statement_of is)

pub assign_is : (x : Statement) (target : Place) (range : Range) (e : Expr) (line : Line) → x
    ≡ Assign range target e line → t.Assign (place_of target) range (expr_of e) line.number ≡ statement_of x
unfolding statement_of
assign_is x target range e line is = sym (ap statement_of is)

pub compound_is : (x : Statement) (v : Vec Statement Global) (body : List Statement) → x ≡ Compound v → body ≡ v.items
    → t.Compound (statements_of body) ≡ statement_of x
compound_is x v body is h = ap (λ k. t.Compound (statements_of k)) h ∙ sym
    (ap statement_of is ∙ statement_of_Compound v)

pub if_is : (x : Statement) (e : Expr) (b : Box Statement Global) (body : Statement) → x ≡ If e b → body ≡ b.value
    → t.If (expr_of e) (statement_of body) ≡ statement_of x
unfolding statement_of
if_is x e b body is h = ap (λ k. t.If (expr_of e) (statement_of k)) h ∙ sym (ap statement_of is)

pub if_else_is : (x : Statement) (e : Expr) (p : Box Statement Global) (a : Statement) (q : Box Statement Global)
    (b : Statement) → x ≡ IfElse e p q → a ≡ p.value → b ≡ q.value → t.IfElse (expr_of e) (statement_of a)
    (statement_of b) ≡ statement_of x
unfolding statement_of
if_else_is x e p a q b is h g = ap (λ k. t.IfElse (expr_of e) (statement_of k) (statement_of b)) h
    ∙ ap (λ k. t.IfElse (expr_of e) (statement_of p.value) (statement_of k)) g ∙ sym (ap statement_of is)

pub while_is : (x : Statement) (e : Expr) (b : Box Statement Global) (body : Statement) → x ≡ While e b → body ≡ b.value
    → t.While (expr_of e) (statement_of body) ≡ statement_of x
unfolding statement_of
while_is x e b body is h = ap (λ k. t.While (expr_of e) (statement_of k)) h ∙ sym (ap statement_of is)

pub repeat_is : (x : Statement) (v : Vec Statement Global) (e : Expr) (items : List Statement) → x ≡ Repeat v e → items
    ≡ v.items → t.Repeat (statements_of items) (expr_of e) ≡ statement_of x
repeat_is x v e items is h = ap (λ l. t.Repeat (statements_of l) (expr_of e)) h ∙ sym
    (ap statement_of is ∙ statement_of_Repeat v e)

pub write_is : (x : Statement) (v : Vec WriteParameter Global) (items : List WriteParameter) → x ≡ Write v → items
    ≡ v.items → t.Write (map write_of items) ≡ statement_of x
unfolding statement_of
write_is x v items is h = ap (λ l. t.Write (map write_of l)) h ∙ sym (ap statement_of is)

pub writeln_is : (x : Statement) (v : Vec WriteParameter Global) (items : List WriteParameter) → x ≡ Writeln v → items
    ≡ v.items → t.Writeln (map write_of items) ≡ statement_of x
unfolding statement_of
writeln_is x v items is h = ap (λ l. t.Writeln (map write_of l)) h ∙ sym (ap statement_of is)

-- nothing is made of the empty statement
pub told_empty : (k : Scope) (x : Statement) (d : ℕ) (old : List Instruction) → x ≡ Empty → old ≡ old
    ++ statement_code k (statement_of x) d
told_empty k x d old is = sym (append-nil old) ∙ ap (λ (y : t.Statement). old ++ statement_code k y d) (empty_is x is)
