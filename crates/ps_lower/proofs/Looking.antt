-- Looks ahead at the input.
use Rattle.std.proofs.Common.{◌≡◌, ℕ, List, [], ◌∷◌, ◌++◌, Result, OnOk, sym, ap, subst, ◌∙◌, append_assoc}
use Rattle.ps_tree.specs.Tree as t
use Rattle.ps_tree.specs.declared.line.Line.{Line}
use Rattle.ps_tree.specs.declared.tree.Expr.{Expr, Eof, Eoln}
use Rattle.ps_tree.specs.View.{expr_of}
use Rattle.tac_code.specs.declared.code.Instruction.{Instruction}
use Rattle.tac_rt.specs.declared.run_time.RunTime.TheVariants.{LookAhead}
use Rattle.ps_lower_code.specs.Scopes.{Scope, Site, site_code, helper, even_from, input_site}
use Rattle.ps_lower.proofs.Arms.{behind}

pub eof_is : (x : Expr) → x ≡ Eof → t.Eof ≡ expr_of x
unfolding expr_of
eof_is x e = sym (ap expr_of e)

pub eoln_is : (x : Expr) (line : Line) → x ≡ Eoln line → t.Eoln line.number ≡ expr_of x
unfolding expr_of
eoln_is x line e = sym (ap expr_of e)

pub look_told : {X E : Type 0} (k : Scope) (d n : ℕ) (s : Site) (r : Result X E) (new middle old : List Instruction) → n
    ≡ even_from d → s ≡ input_site k → middle ≡ old ++ site_code n s 8 → OnOk r
    (new ≡ middle ++ helper k LookAhead (n ∷ []) d ∷ []) → OnOk r
    (new ≡ old ++ (site_code (even_from d) (input_site k) 8 ++ helper k LookAhead (even_from d ∷ []) d ∷ []))
look_told k d n s r new middle old is at p h =
    subst (λ y. OnOk r (new ≡ old ++ (site_code y (input_site k) 8 ++ helper k LookAhead (y ∷ []) d ∷ []))) is
    (behind r new middle old (site_code n (input_site k) 8) (helper k LookAhead (n ∷ []) d ∷ [])
    (p ∙ ap (λ (y : Site). old ++ site_code n y 8) at) h)

pub look_on_told : {X E : Type 0} (r : Result X E) (new middle old a : List Instruction) (b c : Instruction) → middle
    ≡ old ++ (a ++ b ∷ []) → OnOk r (new ≡ middle ++ c ∷ []) → OnOk r (new ≡ old ++ (a ++ b ∷ c ∷ []))
look_on_told r new middle old a b c p h = subst (λ l. OnOk r (new ≡ old ++ l)) (append_assoc a (b ∷ []) (c ∷ []))
    (behind r new middle old (a ++ b ∷ []) (c ∷ []) p h)
