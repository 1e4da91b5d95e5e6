-- The code of variables, of loads and of assignments, piece by piece.
use Rattle.std.proofs.Common.{◌≡◌, ℕ, ℤ, suc, Bool, List, [], ◌++◌, Option, None, Result, OnOk, IfOk, ap, subst, ◌∙◌}
use Rattle.std.specs.Prelude.{Ok, Err}
use Rattle.ps_tree.specs.Tree as t
use Rattle.ps_tree.specs.declared.tree.operators.Range.{Range}
use Rattle.ps_tree.specs.Types.{DataType}
use Rattle.tac_code.specs.declared.code.Instruction.{Instruction}
use Rattle.ps_lower_code.specs.Scopes.{Scope, Site, kept, even_from, fitting_code}
use Rattle.ps_lower_code.specs.Calling.{selectors_call, expr_calls}
use Rattle.ps_lower_code.specs.Values.{literal_of, gives_byte, known_steps, index_code, name_code, name_site}
use Rattle.ps_lower_code.specs.Values.{selectors_code, selectors_site, place_code, place_site, place_temporary}
use Rattle.ps_lower_code.specs.Values.{is_byte, load_code, store_code, front_code}
use Rattle.ps_lower_code.specs.Statements.{expr_code, statement_code}
use Rattle.ps_lower.specs.Sites.{selector_code}
use Rattle.ps_lower.proofs.Appends.{and_then}
use Rattle.ps_lower.proofs.Arms.{behind}

pub place_told : {X E : Type 0} (k : Scope) (b : t.PlaceBase) (l : t.Selectors) (d x n : ℕ) (s : Site) (r : Result X E)
    (new middle old : List Instruction) → n ≡ kept (selectors_call l) d → middle ≡ old ++ name_code k b n → s
    ≡ name_site k b n → OnOk r (new ≡ middle ++ selectors_code k l s n x) → OnOk r
    (new ≡ old ++ place_code k (t.Variable b l) d x)
place_told k b l d x n s r new middle old is p g h =
    subst (λ m. OnOk r (new ≡ old ++ (name_code k b m ++ selectors_code k l (name_site k b m) m x))) is
    (behind r new middle old (name_code k b n) (selectors_code k l (name_site k b n) n x) p
    (subst (λ (y : Site). OnOk r (new ≡ middle ++ selectors_code k l y n x)) g h))

pub site_told : {A E : Type 0} (f : A → Site) (k : Scope) (b : t.PlaceBase) (l : t.Selectors) (d n : ℕ) (s : Site)
    (r : Result A E) → n ≡ kept (selectors_call l) d → s ≡ name_site k b n → IfOk r (λ y. f y ≡ selectors_site l s n)
    → IfOk r (λ y. f y ≡ place_site k (t.Variable b l) d)
site_told f k b l d n s (Ok v) is g h = h ∙ ap (λ y. selectors_site l y n) g
    ∙ ap (λ m. selectors_site l (name_site k b m) m) is
site_told f k b l d n s (Err e) is g h = h

-- a component whose steps are not known
pub element_told : {X E : Type 0} (k : Scope) (type : DataType) (e : t.Expr) (line : ℕ) (s : Site) (d x n : ℕ)
    (r : Result X E) (new middle old : List Instruction) → None ≡ known_steps type (literal_of e) → n ≡ even_from
    (suc d) → middle ≡ old ++ expr_code k e n x → OnOk r (new ≡ middle ++ index_code None type s d n line []) → OnOk r
    (new ≡ old ++ selector_code k (t.Element type e line) s d x)
element_told k type e line s d x n r new middle old unknown is p h =
    subst (λ o. OnOk r (new ≡ old ++ index_code o type s d (even_from (suc d)) line
    (expr_code k e (even_from (suc d)) x))) unknown
    (subst (λ m. OnOk r (new ≡ old ++ index_code None type s d m line (expr_code k e m x))) is
    (behind r new middle old (expr_code k e n x) (index_code None type s d n line []) p h))

pub load_told : {X E : Type 0} (k : Scope) (p : t.Place) (d x : ℕ) (s : Site) (byte : Bool) (r : Result X E)
    (new middle old : List Instruction) → middle ≡ old ++ place_code k p d x → s ≡ place_site k p d → byte ≡ is_byte p
    → OnOk r (new ≡ middle ++ load_code byte d s) → OnOk r (new ≡ old ++ front_code k (t.Load p) d x)
load_told k p d x s byte r new middle old c g w h =
    behind r new middle old (place_code k p d x) (load_code (is_byte p) d (place_site k p d)) c
    (subst (λ (y : Site). OnOk r (new ≡ middle ++ load_code (is_byte p) d y)) g
    (subst (λ b. OnOk r (new ≡ middle ++ load_code b d s)) w h))

abbrev pub assign_code : Scope → t.Place → Range → t.Expr → (line temporary at : ℕ) → List Instruction
assign_code k p range e line d a = ((place_code k p d 0 ++ expr_code k e a 0) ++ fitting_code (gives_byte e)
    (literal_of e) a range line) ++ store_code (is_byte p) (place_site k p d) a

pub assign_told : {X E : Type 0} (k : Scope) (p : t.Place) (range : Range) (e : t.Expr) (line d n m a : ℕ) (s : Site)
    (spare : Bool) (known : Option ℤ) (byte : Bool) (r : Result X E) (new o3 o2 o1 old : List Instruction) → n ≡ kept
    (expr_calls e) d → m ≡ place_temporary p n → a ≡ even_from (suc m) → o1 ≡ old ++ place_code k p n 0 → s
    ≡ place_site k p n → byte ≡ is_byte p → o2 ≡ o1 ++ expr_code k e a 0 → spare ≡ gives_byte e → known ≡ literal_of e
    → o3 ≡ o2 ++ fitting_code spare known a range line → OnOk r (new ≡ o3 ++ store_code byte s a) → OnOk r
    (new ≡ old ++ statement_code k (t.Assign p range e line) d)
assign_told k p range e line d n m a s spare known byte r new o3 o2 o1 old is at next c g w q u l f h =
    subst (λ y. OnOk r (new ≡ old ++ assign_code k p range e line y (even_from (suc (place_temporary p y))))) is
    (subst (λ y. OnOk r (new ≡ old ++ assign_code k p range e line n y)) (next ∙ ap (λ y. even_from (suc y)) at)
    (behind r new o3 old ((place_code k p n 0 ++ expr_code k e a 0) ++ fitting_code (gives_byte e)
    (literal_of e) a range line) (store_code (is_byte p) (place_site k p n) a)
    (and_then old o2 o3 (place_code k p n 0 ++ expr_code k e a 0)
    (fitting_code (gives_byte e) (literal_of e) a range line)
    (and_then old o1 o2 (place_code k p n 0) (expr_code k e a 0) c q)
    (f ∙ ap (λ y. o2 ++ fitting_code y known a range line) u
    ∙ ap (λ y. o2 ++ fitting_code (gives_byte e) y a range line) l))
    (subst (λ (y : Site). OnOk r (new ≡ o3 ++ store_code (is_byte p) y a)) g
    (subst (λ b. OnOk r (new ≡ o3 ++ store_code b s a)) w h))))
