-- The code of lists, item by item.
use Rattle.std.proofs.Common.{◌≡◌, ℕ, suc, List, [], ◌∷◌, ◌++◌, map, Result, OnOk, refl, ap, subst, ◌∙◌}
use Rattle.ps_tree.specs.Tree as t
use Rattle.ps_tree.specs.declared.tree.statements.WriteParameter.{WriteParameter}
use Rattle.ps_tree.specs.declared.tree.statements.Statement.{Statement}
use Rattle.ps_tree.specs.View.{write_of, statement_of, statements_of}
use Rattle.tac_code.specs.declared.code.Instruction.{Instruction}
use Rattle.tac_rt.specs.declared.run_time.RunTime.{RunTime}
use Rattle.ps_lower_code.specs.Scopes.{Scope, helper, held, even_from}
use Rattle.ps_lower_code.specs.Calling.{width_calls}
use Rattle.ps_lower.proofs.Appends.{and_then}
use Rattle.ps_lower.proofs.Arms.{behind}
use Rattle.ps_lower_code.specs.Statements.{expr_code, width_code, write_code, writes_code, statement_code}
use Rattle.ps_lower_code.specs.Statements.{statements_code}

abbrev pub writes_added : Scope → (d : ℕ) → List WriteParameter → List Instruction
writes_added k d l = writes_code k (map write_of l) d

pub writes_further : (k : Scope) (d : ℕ) (p : WriteParameter) (rest : List WriteParameter) → writes_added k d (p ∷ rest)
    ≡ write_code k (write_of p) d ++ writes_added k d rest
writes_further k d p rest = refl

abbrev pub statements_added : Scope → (d : ℕ) → List Statement → List Instruction
statements_added k d l = statements_code k (statements_of l) d

pub statements_nothing : (k : Scope) (d : ℕ) → statements_added k d [] ≡ []
unfolding statements_of
statements_nothing k d = refl

pub statements_further : (k : Scope) (d : ℕ) (s : Statement) (rest : List Statement) → statements_added k d (s ∷ rest)
    ≡ statement_code k (statement_of s) d ++ statements_added k d rest
unfolding statements_of
statements_further k d s rest = refl

-- a value, its width, and the call that writes both
abbrev pub valued_code : Scope → t.Expr → t.Width → (default : ℕ) → RunTime → (n to : ℕ) → List Instruction
valued_code k e given default routine n to = expr_code k e n 0 ++ width_code k given default (even_from (suc n))
    ++ helper k routine (n ∷ even_from (suc n) ∷ []) to ∷ []

pub write_made : {X E : Type 0} (k : Scope) (e : t.Expr) (given : t.Width) (default : ℕ) (routine : RunTime)
    (d n m to : ℕ) (r : Result X E) (new o2 o1 old : List Instruction) → n ≡ held (width_calls given) d → m ≡ even_from
    (suc n) → to ≡ even_from d → o1 ≡ old ++ expr_code k e n 0 → o2 ≡ o1 ++ width_code k given default m → OnOk r
    (new ≡ o2 ++ helper k routine (n ∷ m ∷ []) to ∷ []) → OnOk r
    (new ≡ old ++ valued_code k e given default routine (held (width_calls given) d) (even_from d))
write_made k e given default routine d n m to r new o2 o1 old is next goes p q h =
    subst (λ y. OnOk r (new ≡ old ++ valued_code k e given default routine y (even_from d))) is
    (subst (λ y. OnOk r (new ≡ old ++ valued_code k e given default routine n y)) goes
    (behind r new o2 old (expr_code k e n 0 ++ width_code k given default (even_from (suc n)))
    (helper k routine (n ∷ even_from (suc n) ∷ []) to ∷ [])
    (and_then old o1 o2 (expr_code k e n 0) (width_code k given default (even_from (suc n))) p
    (q ∙ ap (λ y. o1 ++ width_code k given default y) next))
    (subst (λ y. OnOk r (new ≡ o2 ++ helper k routine (n ∷ y ∷ []) to ∷ [])) next h)))
