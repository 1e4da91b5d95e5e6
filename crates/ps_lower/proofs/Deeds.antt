-- More forms of statements, read again: `with`, structures, calls.
use Rattle.std.proofs.Common.{◌≡◌, ℕ, Bool, ◌||◌, List, ◌++◌, Vec, Box, Global, Result, sym, ap, subst, ◌∙◌, map}
use Rattle.ps_tree.specs.Tree as t
use Rattle.ps_tree.specs.declared.line.Line.{Line}
use Rattle.ps_tree.specs.declared.tree.Place.{Place}
use Rattle.ps_tree.specs.declared.tree.Structure.{Structure}
use Rattle.ps_tree.specs.declared.tree.Argument.{Argument}
use Rattle.ps_tree.specs.declared.tree.statements.Statement.{Statement, AssignStructure, Call, CallFormal, With}
use Rattle.ps_tree.specs.View.{place_of, structure_of, arguments_of, statement_of}
use Rattle.tac_code.specs.declared.code.Instruction.{Instruction}
use Rattle.ps_lower_code.specs.Scopes.{Scope}
use Rattle.ps_lower_code.specs.Calling.{places_call, statement_calls}
use Rattle.ps_lower_code.specs.Statements.{with_code, with_scope, with_depth, statement_code}
use Rattle.ps_lower.specs.Refused.{Adds}
use Rattle.ps_lower.specs.declared.refusal.LowerRefusal.{LowerRefusal}
use Rattle.ps_lower.proofs.Refusing.{adds_behind}

pub assign_structure_is : (x : Statement) (target : Place) (e : Structure) → x ≡ AssignStructure target e
    → t.AssignStructure (place_of target) (structure_of e) ≡ statement_of x
unfolding statement_of
assign_structure_is x target e is = sym (ap statement_of is)

pub procedure_is : (x : Statement) (routine up : ℕ) (v : Vec Argument Global) (line : Line) (items : List Argument) → x
    ≡ Call routine up v line → items ≡ v.items → t.CallProcedure routine up (arguments_of items) line.number
    ≡ statement_of x
unfolding statement_of
procedure_is x routine up v line items is h = ap (λ l. t.CallProcedure routine up (arguments_of l) line.number) h ∙ sym
    (ap statement_of is)

pub formal_procedure_is : (x : Statement) (up index : ℕ) (v : Vec Argument Global) (line : Line) (items : List Argument)
    → x ≡ CallFormal up index v line → items ≡ v.items → t.CallFormalProcedure up index (arguments_of items) line.number
    ≡ statement_of x
unfolding statement_of
formal_procedure_is x up index v line items is h = ap (λ l. t.CallFormalProcedure up index (arguments_of l) line.number)
    h ∙ sym (ap statement_of is)

pub with_is : (x : Statement) (v : Vec Place Global) (b : Box Statement Global) (places : List Place) (body : Statement)
    → x ≡ With v b → places ≡ v.items → body ≡ b.value → t.With (map place_of places) (statement_of body)
    ≡ statement_of x
unfolding statement_of
with_is x v b places body is h g = ap (λ l. t.With (map place_of l) (statement_of body)) h
    ∙ ap (λ k. t.With (map place_of v.items) (statement_of k)) g ∙ sym (ap statement_of is)

abbrev pub opened_code : Scope → List t.Place → t.Statement → ℕ → Bool → List Instruction
opened_code k records s d c = with_code k records c d ++ statement_code (with_scope k records c d) s
    (with_depth records c d)

pub with_told : {X : Type 0} (k : Scope) (records : List t.Place) (s : t.Statement) (c : Bool) (d depth : ℕ)
    (here : Scope) (r : Result X LowerRefusal) (new middle old : List Instruction) → c
    ≡ (statement_calls s || places_call records) → middle ≡ old ++ with_code k records c d → here
    ≡ with_scope k records c d → depth ≡ with_depth records c d → Adds r middle new (statement_code here s depth)
    → Adds r old new (statement_code k (t.With records s) d)
with_told k records s c d depth here r new middle old is p g f h =
    subst (λ b. Adds r old new (opened_code k records s d b)) is
    (adds_behind r new middle old (with_code k records c d)
    (statement_code (with_scope k records c d) s (with_depth records c d)) p
    (subst (λ (y : Scope). Adds r middle new (statement_code y s (with_depth records c d))) g
    (subst (λ n. Adds r middle new (statement_code here s n)) f h)))
