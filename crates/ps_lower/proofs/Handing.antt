-- Structures, strings compared, and calls.
use Rattle.std.proofs.Common.{◌≡◌, ℕ, suc, pos, List, [], ◌∷◌, ◌++◌, Vec, Box, Global, Result, OnOk, sym, ap, subst}
use Rattle.std.proofs.Common.{◌∙◌, append_assoc}
use Rattle.ps_tree.specs.Tree as t
use Rattle.ps_tree.specs.declared.line.Line.{Line}
use Rattle.ps_tree.specs.declared.types.Ty.{Ty}
use Rattle.ps_tree.specs.declared.tree.operators.OrderRelation.{OrderRelation}
use Rattle.ps_tree.specs.declared.tree.Argument.{Argument}
use Rattle.ps_tree.specs.declared.tree.Place.{Place}
use Rattle.ps_tree.specs.declared.tree.Structure.{Structure, Contents}
use Rattle.ps_tree.specs.declared.tree.Expr.{Expr, CompareStrings, Call, CallFormal}
use Rattle.ps_tree.specs.View.{type_of, place_of, expr_of, structure_of, arguments_of}
use Rattle.ps_tree.proofs.TreeLemmas.{structure_of_Contents, expr_of_Call, expr_of_CallFormal}
use Rattle.tac_code.specs.declared.code.Instruction.{Instruction}
use Rattle.tac_code.specs.declared.code.Instruction.TheVariants as i
use Rattle.tac_rt.specs.declared.run_time.RunTime.TheVariants.{CompareBytes}
use Rattle.ps_lower_layout.specs.Shapes.{shape_of, byte_count}
use Rattle.ps_lower_code.specs.Scopes.{Scope, Site, held, beside, even_from, site_code, helper, copy_code}
use Rattle.ps_lower_code.specs.Scopes.{link_code, formal_code}
use Rattle.ps_lower_code.specs.Calling.{structure_calls}
use Rattle.ps_lower_code.specs.Values.{text_length, structure_bytes, place_code, place_site, place_temporary}
use Rattle.ps_lower_code.specs.Values.{structure_code, front_code, arguments_code, arguments_words, arguments_end}
use Rattle.ps_lower_code.specs.Statements.{statement_code}
use Rattle.ps_lower.proofs.Appends.{and_then}
use Rattle.ps_lower.proofs.Arms.{behind}

pub compare_strings_is : (x : Expr) (r : OrderRelation) (p : Box Structure Global) (a : Structure)
    (q : Box Structure Global)
    (b : Structure) → x ≡ CompareStrings r p q → a ≡ p.value → b ≡ q.value → t.CompareStrings r (structure_of a)
    (structure_of b) ≡ expr_of x
unfolding expr_of
compare_strings_is x r p a q b e h g = ap (λ k. t.CompareStrings r (structure_of k) (structure_of b)) h
    ∙ ap (λ k. t.CompareStrings r (structure_of p.value) (structure_of k)) g ∙ sym (ap expr_of e)

pub call_is : (x : Expr) (routine up : ℕ) (v : Vec Argument Global) (line : Line) (items : List Argument) → x
    ≡ Call routine up v line → items ≡ v.items → t.Call routine up (arguments_of items) line.number ≡ expr_of x
call_is x routine up v line items e h = ap (λ l. t.Call routine up (arguments_of l) line.number) h ∙ sym
    (ap expr_of e ∙ expr_of_Call routine up v line)

pub call_formal_is : (x : Expr) (up index : ℕ) (v : Vec Argument Global) (line : Line) (items : List Argument) → x
    ≡ CallFormal up index v line → items ≡ v.items → t.CallFormal up index (arguments_of items) line.number ≡ expr_of x
call_formal_is x up index v line items e h = ap (λ l. t.CallFormal up index (arguments_of l) line.number) h ∙ sym
    (ap expr_of e ∙ expr_of_CallFormal up index v line)

-- ---- structures

pub contents_made : {X E : Type 0} (k : Scope) (e : Structure) (b : Box Place Global) (ty : Ty) (p : Place) (n d x : ℕ)
    (s : Site) (r : Result X E) (new middle old : List Instruction) → e ≡ Contents b ty → p ≡ b.value → n ≡ byte_count
    (shape_of (type_of ty)) → middle ≡ old ++ place_code k (place_of p) d x → s ≡ place_site k (place_of p) d → OnOk r
    (new ≡ middle ++ site_code d s n) → OnOk r (new ≡ old ++ structure_code k (structure_of e) d x)
contents_made k e b ty p n d x s r new middle old is at long c g h =
    subst (λ (y : t.Structure). OnOk r (new ≡ old ++ structure_code k y d x))
    (ap (λ (q : Place). t.Contents (place_of q) (type_of ty)) at ∙ sym
    (ap structure_of is ∙ structure_of_Contents b ty))
    (subst (λ m. OnOk r (new ≡ old ++ (place_code k (place_of p) d x ++ site_code d (place_site k (place_of p) d) m)))
    long
    (behind r new middle old (place_code k (place_of p) d x) (site_code d (place_site k (place_of p) d) n) c
    (subst (λ (y : Site). OnOk r (new ≡ middle ++ site_code d y n)) g h)))

abbrev pub strings_code : Scope → (a b : t.Structure) → (m n d x : ℕ) → List Instruction
strings_code k a b m n d x = (structure_code k a m x ++ structure_code k b n x) ++ i.Literal (beside n)
    (pos (text_length a)) ∷ helper k CompareBytes (m ∷ n ∷ beside n ∷ []) d ∷ []

pub strings_made : {X E : Type 0} (k : Scope) (relation : OrderRelation) (a b : t.Structure) (d x m n : ℕ)
    (r : Result X E)
    (new o2 o1 old : List Instruction) → m ≡ held (structure_calls b) d → n ≡ even_from (suc m) → o1 ≡ old
    ++ structure_code k a m x → o2 ≡ o1 ++ structure_code k b n x → OnOk r
    (new ≡ o2 ++ i.Literal (beside n) (pos (text_length a)) ∷ helper k CompareBytes (m ∷ n ∷ beside n ∷ []) d ∷ [])
    → OnOk r (new ≡ old ++ front_code k (t.CompareStrings relation a b) d x)
strings_made k relation a b d x m n r new o2 o1 old is next p q h =
    subst (λ y. OnOk r (new ≡ old ++ strings_code k a b y (even_from (suc y)) d x)) is
    (subst (λ y. OnOk r (new ≡ old ++ strings_code k a b m y d x)) next
    (behind r new o2 old (structure_code k a m x ++ structure_code k b n x)
    (i.Literal (beside n) (pos (text_length a)) ∷ helper k CompareBytes (m ∷ n ∷ beside n ∷ []) d ∷ [])
    (and_then old o1 o2 (structure_code k a m x) (structure_code k b n x) p q) h))

abbrev pub kept_structure_code : Scope → t.Place → t.Structure → (n from to : ℕ) → List Instruction
kept_structure_code k p e n a b = ((place_code k p n 0 ++ structure_code k e a 0) ++ site_code b (place_site k p n)
    (structure_bytes e)) ++ copy_code k b a (beside b) (structure_bytes e)

pub assign_structure_told : {X E : Type 0} (k : Scope) (p : t.Place) (e : t.Structure) (d n m a b c bytes : ℕ)
    (s : Site) (r : Result X E) (new o3 o2 o1 old : List Instruction) → n ≡ held (structure_calls e) d → m
    ≡ place_temporary p n → a ≡ even_from (suc m) → b ≡ beside a → c ≡ beside b → bytes ≡ structure_bytes e → o1 ≡ old
    ++ place_code k p n 0 → s ≡ place_site k p n → o2 ≡ o1 ++ structure_code k e a 0 → o3 ≡ o2 ++ site_code b s bytes
    → OnOk r (new ≡ o3 ++ copy_code k b a c bytes) → OnOk r (new ≡ old ++ statement_code k (t.AssignStructure p e) d)
assign_structure_told k p e d n m a b c bytes s r new o3 o2 o1 old is at above over more long f g q l h =
    subst (λ y. OnOk r (new ≡ old ++ kept_structure_code k p e y (even_from (suc (place_temporary p y)))
    (beside (even_from (suc (place_temporary p y)))))) is
    (subst (λ y. OnOk r (new ≡ old ++ kept_structure_code k p e n y (beside y)))
    (above ∙ ap (λ y. even_from (suc y)) at)
    (subst (λ y. OnOk r (new ≡ old ++ kept_structure_code k p e n a y)) over
    (behind r new o3 old ((place_code k p n 0 ++ structure_code k e a 0) ++ site_code b (place_site k p n)
    (structure_bytes e)) (copy_code k b a (beside b) (structure_bytes e))
    (and_then old o2 o3 (place_code k p n 0 ++ structure_code k e a 0)
    (site_code b (place_site k p n) (structure_bytes e))
    (and_then old o1 o2 (place_code k p n 0) (structure_code k e a 0) f q)
    (l ∙ ap (λ (y : Site). o2 ++ site_code b y bytes) g ∙ ap (λ y. o2 ++ site_code b (place_site k p n) y) long))
    (subst (λ y. OnOk r (new ≡ o3 ++ copy_code k b a (beside b) y)) long
    (subst (λ y. OnOk r (new ≡ o3 ++ copy_code k b a y bytes)) more h)))))

-- ---- calls

-- one piece, and two after it
pub behind_two : {X E : Type 0} (r : Result X E) (new middle old a b d : List Instruction) → middle ≡ old ++ a → OnOk r
    (new ≡ middle ++ (b ++ d)) → OnOk r (new ≡ old ++ ((a ++ b) ++ d))
behind_two r new middle old a b d p h = subst (λ l. OnOk r (new ≡ old ++ l)) (sym (append_assoc a b d))
    (behind r new middle old a (b ++ d) p h)

abbrev pub link_at : t.Arguments → ℕ → ℕ
link_at l d = even_from (arguments_end l d)

-- the static link and the call, and a formal's routine and its call
abbrev pub called_code : Scope → t.Arguments → (routine up line d to : ℕ) → List Instruction
called_code k l routine up line d to = link_code k (link_at l d) up ++ i.Call to routine
    (link_at l d ∷ arguments_words l d) line ∷ []

abbrev pub formal_called_code : Scope → t.Arguments → (up index line d to : ℕ) → List Instruction
formal_called_code k l up index line d to = formal_code k (link_at l d) up index ++ i.CallValue to (link_at l d)
    (beside (link_at l d) ∷ arguments_words l d) line ∷ []

pub call_told : {X E : Type 0} (k : Scope) (l : t.Arguments) (routine up line d to n : ℕ) (words : List ℕ)
    (r : Result X E) (new middle old : List Instruction) → n ≡ link_at l d → middle ≡ old ++ link_code k n up → words
    ≡ n ∷ arguments_words l d → OnOk r (new ≡ middle ++ i.Call to routine words line ∷ []) → OnOk r
    (new ≡ old ++ called_code k l routine up line d to)
call_told k l routine up line d to n words r new middle old at p w h =
    subst (λ y. OnOk r (new ≡ old ++ (link_code k y up ++ i.Call to routine (y ∷ arguments_words l d) line ∷ []))) at
    (behind r new middle old (link_code k n up) (i.Call to routine (n ∷ arguments_words l d) line ∷ []) p
    (subst (λ y. OnOk r (new ≡ middle ++ i.Call to routine y line ∷ [])) w h))

pub call_formal_told : {X E : Type 0} (k : Scope) (l : t.Arguments) (up index line d to n b : ℕ) (words : List ℕ)
    (r : Result X E) (new middle old : List Instruction) → n ≡ link_at l d → b ≡ beside n → middle ≡ old
    ++ formal_code k n up index → words ≡ b ∷ arguments_words l d → OnOk r
    (new ≡ middle ++ i.CallValue to n words line ∷ []) → OnOk r (new ≡ old ++ formal_called_code k l up index line d to)
call_formal_told k l up index line d to n b words r new middle old at over p w h =
    subst (λ y. OnOk r (new ≡ old ++ (formal_code k y up index ++ i.CallValue to y (beside y ∷ arguments_words l d) line
    ∷ []))) at
    (behind r new middle old (formal_code k n up index) (i.CallValue to n (beside n ∷ arguments_words l d) line ∷ []) p
    (subst (λ y. OnOk r (new ≡ middle ++ i.CallValue to n y line ∷ []))
    (w ∙ ap (λ y. y ∷ arguments_words l d) over) h))

pub call_made : {X E : Type 0} (k : Scope) (list again : List Argument) (routine up line d x to : ℕ) (r : Result X E)
    (new middle old : List Instruction) → again ≡ list → middle ≡ old ++ arguments_code k (arguments_of list) d x
    → OnOk r (new ≡ middle ++ called_code k (arguments_of again) routine up line d to) → OnOk r
    (new ≡ old ++ ((arguments_code k (arguments_of list) d x ++ link_code k (link_at (arguments_of list) d) up)
    ++ i.Call to routine (link_at (arguments_of list) d ∷ arguments_words (arguments_of list) d) line ∷ []))
call_made k list again routine up line d x to r new middle old same p h =
    behind_two r new middle old (arguments_code k (arguments_of list) d x)
    (link_code k (link_at (arguments_of list) d) up)
    (i.Call to routine (link_at (arguments_of list) d ∷ arguments_words (arguments_of list) d) line ∷ []) p
    (subst (λ l. OnOk r (new ≡ middle ++ called_code k (arguments_of l) routine up line d to)) same h)

pub call_formal_made : {X E : Type 0} (k : Scope) (list again : List Argument) (up index line d x to : ℕ)
    (r : Result X E) (new middle old : List Instruction) → again ≡ list → middle ≡ old ++ arguments_code k
    (arguments_of list) d x → OnOk r (new ≡ middle ++ formal_called_code k (arguments_of again) up index line d to)
    → OnOk r (new ≡ old ++ ((arguments_code k (arguments_of list) d x ++ formal_code k
    (link_at (arguments_of list) d) up index) ++ i.CallValue to (link_at (arguments_of list) d)
    (beside (link_at (arguments_of list) d) ∷ arguments_words (arguments_of list) d) line ∷ []))
call_formal_made k list again up index line d x to r new middle old same p h =
    behind_two r new middle old (arguments_code k (arguments_of list) d x)
    (formal_code k (link_at (arguments_of list) d) up index)
    (i.CallValue to (link_at (arguments_of list) d)
    (beside (link_at (arguments_of list) d) ∷ arguments_words (arguments_of list) d) line ∷ []) p
    (subst (λ l. OnOk r (new ≡ middle ++ formal_called_code k (arguments_of l) up index line d to)) same h)
