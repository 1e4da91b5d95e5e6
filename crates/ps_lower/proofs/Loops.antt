-- `for` statements.
use Rattle.std.proofs.Common.{◌≡◌, ℕ, ℤ, ◌+◌, ◌-◌, List, [], ◌∷◌, ◌++◌, length, Box, Global, sym, ap, ◌∙◌}
use Rattle.std.proofs.Common.{append_assoc, arith, length-append, refl}
use Rattle.ps_tree.specs.Tree as t
use Rattle.ps_tree.specs.declared.line.Line.{Line}
use Rattle.ps_tree.specs.declared.tree.operators.Direction.{Direction}
use Rattle.ps_tree.specs.declared.tree.Expr.{Expr}
use Rattle.ps_tree.specs.declared.tree.statements.Statement.{Statement, For}
use Rattle.ps_tree.specs.View.{expr_of, statement_of}
use Rattle.tac_code.specs.declared.code.Base.TheVariants as base
use Rattle.tac_code.specs.declared.code.Relation.{Relation}
use Rattle.tac_code.specs.declared.code.Relation.TheVariants.{NotEqual}
use Rattle.tac_code.specs.declared.code.Instruction.{Instruction}
use Rattle.tac_code.specs.declared.code.Instruction.TheVariants as i
use Rattle.ps_lower_code.specs.Scopes.{Scope}
use Rattle.ps_lower_code.specs.Statements.{past_relation, statement_code}
use Rattle.ps_lower.specs.Loops.{bounds_code, checks_code, first_turn_code, opening_code, loop_code}
use Rattle.ps_lower.specs.declared.turns.Control.{Control}
use Rattle.ps_lower.specs.declared.turns.Turns.{Turns}
use Rattle.ps_lower.proofs.Jumps.{Fills}

pub for_is : (x : Statement) (variable at : ℕ) (low high : ℤ) (from : Box Expr Global) (a : Expr) (from_line : Line)
    (direction : Direction) (to : Box Expr Global) (b : Expr) (to_line : Line) (p : Box Statement Global)
    (body : Statement) → x ≡ For variable at low high from from_line direction to to_line p → a ≡ from.value → b
    ≡ to.value → body ≡ p.value → t.For variable low high (expr_of a) from_line.number direction (expr_of b)
    to_line.number (statement_of body) ≡ statement_of x
unfolding statement_of
for_is x variable at low high from a from_line direction to b to_line p body is f g h =
    ap (λ k. t.For variable low high (expr_of k) from_line.number direction (expr_of b) to_line.number
    (statement_of body)) f
    ∙ ap (λ k. t.For variable low high (expr_of from.value) from_line.number direction (expr_of k) to_line.number
    (statement_of body)) g
    ∙ ap (λ k. t.For variable low high (expr_of from.value) from_line.number direction (expr_of to.value)
    to_line.number (statement_of k)) h
    ∙ sym (ap statement_of is)

-- after the body
abbrev pub back : Turns → (distance : ℕ) → List Instruction
back turns n = i.Load turns.step base.Frame turns.offset ∷ i.BranchBack NotEqual turns.step turns.limit n ∷ []

turns_length : (h : Control) (from to : t.Expr) (turns : Turns) (body : List Instruction) (n : ℕ) → length
    (((checks_code h from to turns ++ first_turn_code h.direction turns) ++ body) ++ back turns n) ≡ length
    (checks_code h from to turns) + length body + 6
turns_length h from to turns body n =
    let a = length-append ((checks_code h from to turns ++ first_turn_code h.direction turns) ++ body) (back turns n) in
    let b = length-append (checks_code h from to turns ++ first_turn_code h.direction turns) body in
    let c = length-append (checks_code h from to turns) (first_turn_code h.direction turns) in
    let d : length (first_turn_code h.direction turns) ≡ 4 = refl in
    let e : length (back turns n) ≡ 2 = refl in
    omega (arith, a, b, c, d, e)

-- the rooms of a loop are filled after its body
pub loop_made : (k : Scope) (h : Control) (from to : t.Expr) (turns : Turns) (s : t.Statement)
    (o0 o1 o2 o3 o4 : List Instruction) (past begin : ℕ) (relation : Relation) → o1
    ≡ (o0 ++ bounds_code k from to turns) ++ i.End ∷ opening_code h from to turns → past ≡ length
    (o0 ++ bounds_code k from to turns) → begin + 2 ≡ length o1 → o2 ≡ o1 ++ statement_code k s turns.depth → o3 ≡ o2
    ++ back turns ((length o2 + 1) - begin) → relation ≡ past_relation h.direction → Fills o3 past o4
    (λ n. i.Branch relation turns.first turns.limit n) → o4 ≡ o0 ++ loop_code k h from to turns s
loop_made k h from to turns s o0 o1 o2 o3 o4 past begin relation e1 p q e2 e3 r fills =
    let body = statement_code k s turns.depth in
    let before = o0 ++ bounds_code k from to turns in
    let n : (length o2 + 1) - begin ≡ length body + 3 = omega (arith, ap length e2, length-append o1 body, q) in
    let behind = (opening_code h from to turns ++ body) ++ back turns (length body + 3) in
    let all : o3 ≡ before ++ i.End ∷ behind =
    e3 ∙ ap (λ m. o2 ++ back turns m) n ∙ ap (λ o. o ++ back turns (length body + 3))
    (e2 ∙ ap (λ o. o ++ body) e1 ∙ append_assoc before (i.End ∷ opening_code h from to turns) body)
    ∙ append_assoc before (i.End ∷ (opening_code h from to turns ++ body)) (back turns (length body + 3))
    in
    fills before i.End behind all p
    ∙ ap (λ m. before ++ i.Branch relation turns.first turns.limit m ∷ behind)
    (turns_length h from to turns body (length body + 3))
    ∙ ap (λ y. before ++ i.Branch y turns.first turns.limit (length (checks_code h from to turns) + length body + 6)
    ∷ behind) r
    ∙ ap (λ l. before ++ i.Branch (past_relation h.direction) turns.first turns.limit
    (length (checks_code h from to turns) + length body + 6) ∷ l)
    (append_assoc (opening_code h from to turns) body (back turns (length body + 3)) ∙ append_assoc
    (checks_code h from to turns) (first_turn_code h.direction turns) (body ++ back turns (length body + 3)))
    ∙ append_assoc o0 (bounds_code k from to turns)
    (i.Branch (past_relation h.direction) turns.first turns.limit
    (length (checks_code h from to turns) + length body + 6)
    ∷ (checks_code h from to turns ++ (first_turn_code h.direction turns
    ++ (body ++ back turns (length body + 3)))))
