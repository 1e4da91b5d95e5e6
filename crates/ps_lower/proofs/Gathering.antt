-- Sets: their forms, read again, and their code, piece by piece.
use Rattle.std.proofs.Common.{◌≡◌, ◌⊎◌, inl, inr, ℕ, ℤ, suc, ◌+◌, Bool, true, false, if◌then◌else◌, Option, Some, None}
use Rattle.std.proofs.Common.{List, [], ◌∷◌, ◌++◌, Vec, Box, Global, Result, OnOk, refl, sym, ap, subst, ◌∙◌}
use Rattle.std.proofs.Common.{append_assoc}
use Rattle.ps_tree.specs.Tree as t
use Rattle.ps_tree.specs.declared.line.Line.{Line}
use Rattle.ps_tree.specs.declared.tree.Place.{Place}
use Rattle.ps_tree.specs.declared.tree.Expr.{Expr, CompareSets, In}
use Rattle.ps_tree.specs.declared.tree.SetExpr.{SetExpr, Load, Constructor, Combine}
use Rattle.ps_tree.specs.declared.tree.SetStep.{SetStep, out-SetStep}
use Rattle.ps_tree.specs.declared.tree.Member.{Member, One, Range as Several}
use Rattle.ps_tree.specs.declared.tree.Argument.{Argument, Value, Set, Variable}
use Rattle.ps_tree.specs.declared.tree.operators.SetOperator.{SetOperator}
use Rattle.ps_tree.specs.declared.tree.operators.SetRelation.{SetRelation}
use Rattle.ps_tree.specs.declared.tree.statements.Statement.{Statement, AssignSet}
use Rattle.ps_tree.specs.View.{place_of, expr_of, set_of, set_steps_of, member_of, members_of, argument_of}
use Rattle.ps_tree.specs.View.{statement_of}
use Rattle.ps_tree.proofs.TreeLemmas.{set_of_Load, set_of_Constructor, set_of_Combine, argument_of_Variable}
use Rattle.tac_code.specs.declared.code.Base.TheVariants as base
use Rattle.tac_code.specs.declared.code.Instruction.{Instruction}
use Rattle.tac_code.specs.declared.code.Instruction.TheVariants as i
use Rattle.ps_lower_code.specs.Scopes.{Scope, Site, held, kept, even_from, beside, moved, site_code, words_code}
use Rattle.ps_lower_code.specs.Scopes.{fitting_code, helper}
use Rattle.ps_lower_code.specs.Calling.{expr_calls, asked_calls}
use Rattle.ps_lower_code.specs.Values.{set_routine, known_member, bit_code, one_code, adds, adding_code, joining_code}
use Rattle.ps_lower_code.specs.Values.{membership_code, clear_code, sets_code, set_check, range_members, literal_of}
use Rattle.ps_lower_code.specs.Values.{gives_byte, front_code, place_code, place_site, asked_code, set_code}
use Rattle.ps_lower_code.specs.Values.{set_steps_code, member_code, members_code, argument_code}
use Rattle.ps_lower_code.specs.Statements.{expr_code, statement_code}
use Rattle.ps_lower.specs.Sets.{step_code, copied_code, kept_code, one_member}
use Rattle.ps_lower.proofs.Appends.{and_then}
use Rattle.ps_lower.proofs.Arms.{behind}
use Rattle.ps_lower.proofs.Handing.{behind_two}

pub compare_sets_is : (x : Expr) (r : SetRelation) (p : Box SetExpr Global) (a : SetExpr) (q : Box SetExpr Global)
    (b : SetExpr) → x ≡ CompareSets r p q → a ≡ p.value → b ≡ q.value → t.CompareSets r (set_of a) (set_of b)
    ≡ expr_of x
unfolding expr_of
compare_sets_is x r p a q b e h g = ap (λ k. t.CompareSets r (set_of k) (set_of b)) h
    ∙ ap (λ k. t.CompareSets r (set_of p.value) (set_of k)) g ∙ sym (ap expr_of e)

pub in_is : (x : Expr) (p : Box Expr Global) (a : Expr) (q : Box SetExpr Global) (b : SetExpr) → x ≡ In p q → a
    ≡ p.value → b ≡ q.value → t.In (expr_of a) (set_of b) ≡ expr_of x
unfolding expr_of
in_is x p a q b e h g = ap (λ k. t.In (expr_of k) (set_of b)) h ∙ ap (λ k. t.In (expr_of p.value) (set_of k)) g ∙ sym
    (ap expr_of e)

pub load_set_is : (x : SetExpr) (b : Box Place Global) (p : Place) → x ≡ Load b → p ≡ b.value → t.LoadSet (place_of p)
    ≡ set_of x
load_set_is x b p e h = ap (λ q. t.LoadSet (place_of q)) h ∙ sym (ap set_of e ∙ set_of_Load b)

pub constructor_is : (x : SetExpr) (v : Vec Member Global) (items : List Member) → x ≡ Constructor v → items ≡ v.items
    → t.Constructor (members_of items) ≡ set_of x
constructor_is x v items e h = ap (λ l. t.Constructor (members_of l)) h ∙ sym (ap set_of e ∙ set_of_Constructor v)

pub combine_is : (x : SetExpr) (b : Box SetExpr Global) (v : Vec SetStep Global) (a : SetExpr) (items : List SetStep)
    → x ≡ Combine b v → a ≡ b.value → items ≡ v.items → t.Combine (set_of a) (set_steps_of items) ≡ set_of x
combine_is x b v a items e h g = ap (λ k. t.Combine (set_of k) (set_steps_of items)) h
    ∙ ap (λ k. t.Combine (set_of b.value) (set_steps_of k)) g ∙ sym (ap set_of e ∙ set_of_Combine b v)

pub assign_set_is : (x : Statement) (target : Place) (low high : ℤ) (e : SetExpr) (line : Line) → x
    ≡ AssignSet target low high e line → t.AssignSet (place_of target) low high (set_of e) line.number ≡ statement_of x
unfolding statement_of
assign_set_is x target low high e line is = sym (ap statement_of is)

-- what is known for one form of a set, needed for another
pub set_arm : {X E : Type 0} (k : Scope) (x : SetExpr) (whole : t.SetExpr) (d s : ℕ) (r : Result X E)
    (new old : List Instruction) → whole ≡ set_of x → OnOk r (new ≡ old ++ set_code k whole d s) → OnOk r
    (new ≡ old ++ set_code k (set_of x) d s)
set_arm k x whole d s r new old e h = subst (λ (y : t.SetExpr). OnOk r (new ≡ old ++ set_code k y d s)) e h

-- ---- members, one by one

abbrev pub members_added : Scope → (d x : ℕ) → List Member → List Instruction
members_added k d x l = members_code k (members_of l) d x

pub members_nothing : (k : Scope) (d x : ℕ) → members_added k d x [] ≡ []
unfolding members_of
members_nothing k d x = refl

pub members_further : (k : Scope) (d x : ℕ) (m : Member) (rest : List Member) → members_added k d x (m ∷ rest)
    ≡ member_code k (member_of m) d x ++ members_added k d x rest
unfolding members_of
members_further k d x m rest = refl

abbrev pub one_code_of : Scope → t.Expr → (line n x : ℕ) → List Instruction
one_code_of k e line n x = expr_code k e n (x + 32) ++ one_member k n x line

pub one_arm : {X E : Type 0} (k : Scope) (m : Member) (e : Expr) (line : Line) (d x : ℕ) (r : Result X E)
    (new old : List Instruction) → m ≡ One e line → OnOk r
    (new ≡ old ++ member_code k (t.One (expr_of e) line.number) d x) → OnOk r
    (new ≡ old ++ member_code k (member_of m) d x)
unfolding member_of
one_arm k m e line d x r new old form h = subst (λ (y : Member). OnOk r (new ≡ old ++ member_code k (member_of y) d x))
    (sym form) h

-- one that is known
pub one_known : {X E : Type 0} (k : Scope) (e : t.Expr) (line d x n m : ℕ) (r : Result X E) (new old : List Instruction)
    → Some m ≡ known_member (literal_of e) → n ≡ even_from d → OnOk r (new ≡ old ++ bit_code m n x) → OnOk r
    (new ≡ old ++ member_code k (t.One e line) d x)
one_known k e line d x n m r new old q is h =
    subst (λ y. OnOk r (new ≡ old ++ one_code y (even_from d) x (one_code_of k e line (even_from d) x))) q
    (subst (λ y. OnOk r (new ≡ old ++ bit_code m y x)) is h)

-- one that is evaluated
pub one_worked : {X E : Type 0} (k : Scope) (e : t.Expr) (line d x n b : ℕ) (r : Result X E)
    (new middle old : List Instruction) → None ≡ known_member (literal_of e) → n ≡ even_from d → b ≡ x + 32 → middle
    ≡ old ++ expr_code k e n b → OnOk r (new ≡ middle ++ one_member k n x line) → OnOk r
    (new ≡ old ++ member_code k (t.One e line) d x)
one_worked k e line d x n b r new middle old q is up p h =
    subst (λ y. OnOk r (new ≡ old ++ one_code y (even_from d) x (one_code_of k e line (even_from d) x))) q
    (subst (λ y. OnOk r (new ≡ old ++ one_code_of k e line y x)) is
    (behind r new middle old (expr_code k e n (x + 32)) (one_member k n x line)
    (p ∙ ap (λ y. old ++ expr_code k e n y) up) h))

abbrev pub several_code : Scope → (a b : t.Expr) → (line m n x : ℕ) → List Instruction
several_code k a b line m n x = (expr_code k a m (x + 32) ++ expr_code k b n (x + 32)) ++ range_members k m n x line

several_told : {X E : Type 0} (k : Scope) (a b : t.Expr) (line d x m n u : ℕ) (r : Result X E)
    (new o2 o1 old : List Instruction) → m ≡ held (expr_calls b) d → n ≡ even_from (suc m) → u ≡ x + 32 → o1 ≡ old
    ++ expr_code k a m u → o2 ≡ o1 ++ expr_code k b n u → OnOk r (new ≡ o2 ++ range_members k m n x line) → OnOk r
    (new ≡ old ++ member_code k (t.Several a b line) d x)
several_told k a b line d x m n u r new o2 o1 old is next up p q h =
    subst (λ y. OnOk r (new ≡ old ++ several_code k a b line y (even_from (suc y)) x)) is
    (subst (λ y. OnOk r (new ≡ old ++ several_code k a b line m y x)) next
    (behind r new o2 old (expr_code k a m (x + 32) ++ expr_code k b n (x + 32)) (range_members k m n x line)
    (and_then old o1 o2 (expr_code k a m (x + 32)) (expr_code k b n (x + 32))
    (p ∙ ap (λ y. old ++ expr_code k a m y) up) (q ∙ ap (λ y. o1 ++ expr_code k b n y) up)) h))

pub several_made : {X E : Type 0} (k : Scope) (form : Member) (a b : Expr) (line : Line) (d x m n u : ℕ)
    (r : Result X E) (new o2 o1 old : List Instruction) → form ≡ Several a b line → m ≡ held (expr_calls (expr_of b)) d
    → n ≡ even_from (suc m) → u ≡ x + 32 → o1 ≡ old ++ expr_code k (expr_of a) m u → o2 ≡ o1 ++ expr_code k
    (expr_of b) n u → OnOk r (new ≡ o2 ++ range_members k m n x line.number) → OnOk r
    (new ≡ old ++ member_code k (member_of form) d x)
unfolding member_of
several_made k form a b line d x m n u r new o2 o1 old f is next up p q h =
    subst (λ (y : Member). OnOk r (new ≡ old ++ member_code k (member_of y) d x)) (sym f)
    (several_told k (expr_of a) (expr_of b) line.number d x m n u r new o2 o1 old is next up p q h)

-- ---- the operators after the first set, one by one

abbrev pub set_steps_added : Scope → (d x : ℕ) → List SetStep → List Instruction
set_steps_added k d x l = set_steps_code k (set_steps_of l) d x

abbrev pub set_step_added : Scope → (d x : ℕ) → SetStep → List Instruction
set_step_added k d x s = step_code k (out-SetStep s).operator (set_of (out-SetStep s).operand) d x

pub set_steps_nothing : (k : Scope) (d x : ℕ) → set_steps_added k d x [] ≡ []
unfolding set_steps_of
set_steps_nothing k d x = refl

pub set_steps_further : (k : Scope) (d x : ℕ) (s : SetStep) (rest : List SetStep) → set_steps_added k d x (s ∷ rest)
    ≡ set_step_added k d x s ++ set_steps_added k d x rest
unfolding set_steps_of
set_steps_further k d x s rest = refl

pub combined_made : {X E : Type 0} (k : Scope) (operator : SetOperator) (t b x : ℕ) (r : Result X E)
    (new middle old : List Instruction) → b ≡ beside t → middle ≡ old ++ i.Offset t base.Scratch x 32 ∷ [] → OnOk r
    (new ≡ middle ++ helper k (set_routine operator) (t ∷ b ∷ []) t ∷ []) → OnOk r
    (new ≡ old ++ joining_code k operator t x)
combined_made k operator t b x r new middle old next p h =
    subst (λ y. OnOk r (new ≡ old ++ (i.Offset t base.Scratch x 32 ∷ helper k (set_routine operator) (t ∷ y ∷ []) t
    ∷ []))) next
    (behind r new middle old (i.Offset t base.Scratch x 32 ∷ [])
    (helper k (set_routine operator) (t ∷ b ∷ []) t ∷ []) p h)

-- members one by one
pub step_adding : {X E : Type 0} (k : Scope) (operator : SetOperator) (e : t.SetExpr) (d x : ℕ) (r : Result X E)
    (new old : List Instruction) → adds operator e ≡ true → OnOk r (new ≡ old ++ adding_code k e d x) → OnOk r
    (new ≡ old ++ step_code k operator e d x)
step_adding k operator e d x r new old q h = subst
    (λ b. OnOk r (new ≡ old ++ (if b then adding_code k e d x
    else (asked_code k e (beside (even_from d)) (x + 32) ++ joining_code k operator (even_from d) x)))) (sym q) h

-- from where they are
abbrev pub joined_code : Scope → SetOperator → t.SetExpr → (n u b x : ℕ) → List Instruction
joined_code k operator e n u b x = asked_code k e u b ++ joining_code k operator n x

pub step_joined : {X E : Type 0} (k : Scope) (operator : SetOperator) (e : t.SetExpr) (d x n u b : ℕ) (r : Result X E)
    (new middle old : List Instruction) → adds operator e ≡ false → n ≡ even_from d → u ≡ beside n → b ≡ x + 32 → middle
    ≡ old ++ asked_code k e u b → OnOk r (new ≡ middle ++ joining_code k operator n x) → OnOk r
    (new ≡ old ++ step_code k operator e d x)
step_joined k operator e d x n u b r new middle old q is next up p h =
    subst (λ c. OnOk r (new ≡ old ++ (if c then adding_code k e d x
    else (asked_code k e (beside (even_from d)) (x + 32) ++ joining_code k operator (even_from d) x)))) (sym q)
    (subst (λ y. OnOk r (new ≡ old ++ joined_code k operator e y (beside y) (x + 32) x)) is
    (subst (λ y. OnOk r (new ≡ old ++ joined_code k operator e n (beside n) y x)) up
    (subst (λ y. OnOk r (new ≡ old ++ joined_code k operator e n y b x)) next
    (behind r new middle old (asked_code k e u b) (joining_code k operator n x) p h))))

-- ---- whole sets

-- after the site
abbrev pub copied_behind : (t x : ℕ) → List Instruction
copied_behind t x = words_code base.Scratch x (base.Temporary t) 0 (beside t) 8

abbrev pub kept_behind : (t : ℕ) → List Instruction
kept_behind t = words_code (base.Temporary t) 0 base.Scratch 0 (beside t) 8

pub load_set_made : {X E : Type 0} (k : Scope) (p : t.Place) (d x : ℕ) (s : Site) (r : Result X E)
    (new middle old : List Instruction) → middle ≡ old ++ place_code k p d x → s ≡ place_site k p d → OnOk r
    (new ≡ middle ++ copied_code s (even_from (suc d)) x) → OnOk r (new ≡ old ++ set_code k (t.LoadSet p) d x)
load_set_made k p d x s r new middle old c g h =
    behind_two r new middle old (place_code k p d x) (site_code (even_from (suc d)) (place_site k p d) 32)
    (copied_behind (even_from (suc d)) x) c
    (subst (λ (y : Site). OnOk r (new ≡ middle ++ copied_code y (even_from (suc d)) x)) g h)

-- the address of one: what is known for one form, needed for another
pub asked_arm : {X E : Type 0} (k : Scope) (x : SetExpr) (whole : t.SetExpr) (d s : ℕ) (r : Result X E)
    (new old : List Instruction) → whole ≡ set_of x → OnOk r (new ≡ old ++ asked_code k whole d s) → OnOk r
    (new ≡ old ++ asked_code k (set_of x) d s)
asked_arm k x whole d s r new old e h = subst (λ (y : t.SetExpr). OnOk r (new ≡ old ++ asked_code k y d s)) e h

pub asked_load_made : {X E : Type 0} (k : Scope) (p : t.Place) (d x : ℕ) (s : Site) (r : Result X E)
    (new middle old : List Instruction) → middle ≡ old ++ place_code k p d x → s ≡ place_site k p d → OnOk r
    (new ≡ middle ++ site_code d s 32) → OnOk r (new ≡ old ++ asked_code k (t.LoadSet p) d x)
asked_load_made k p d x s r new middle old c g h =
    behind r new middle old (place_code k p d x) (site_code d (place_site k p d) 32) c
    (subst (λ (y : Site). OnOk r (new ≡ middle ++ site_code d y 32)) g h)

-- any but a variable's is made, and is in the scratch block
pub asked_made : {X E : Type 0} (k : Scope) (e : SetExpr) (d x : ℕ) (r : Result X E) (new middle old : List Instruction)
    → ((v : Vec Member Global) × (e ≡ Constructor v))
    ⊎ ((b : Box SetExpr Global) × ((v : Vec SetStep Global) × (e ≡ Combine b v))) → middle ≡ old ++ set_code k
    (set_of e) d x → OnOk r (new ≡ middle ++ i.Offset d base.Scratch x 32 ∷ []) → OnOk r
    (new ≡ old ++ asked_code k (set_of e) d x)
asked_made k e d x r new middle old (inl w) c h =
    let is : set_of e ≡ t.Constructor (members_of w.0.items) = ap set_of w.1 ∙ set_of_Constructor w.0 in
    subst (λ (y : t.SetExpr). OnOk r (new ≡ old ++ asked_code k y d x)) (sym is)
    (behind r new middle old (set_code k (t.Constructor (members_of w.0.items)) d x) (i.Offset d base.Scratch x 32 ∷ [])
    (c ∙ ap (λ y. old ++ set_code k y d x) is) h)
asked_made k e d x r new middle old (inr w) c h =
    let is : set_of e ≡ t.Combine (set_of w.0.value) (set_steps_of w.1.0.items) = ap set_of w.1.1
    ∙ set_of_Combine w.0 w.1.0 in
    subst (λ (y : t.SetExpr). OnOk r (new ≡ old ++ asked_code k y d x)) (sym is)
    (behind r new middle old (set_code k (t.Combine (set_of w.0.value) (set_steps_of w.1.0.items)) d x)
    (i.Offset d base.Scratch x 32 ∷ []) (c ∙ ap (λ y. old ++ set_code k y d x) is) h)

pub constructor_made : {X E : Type 0} (k : Scope) (l : t.Members) (d x n : ℕ) (r : Result X E)
    (new middle old : List Instruction) → n ≡ even_from d → middle ≡ old ++ clear_code k n x → OnOk r
    (new ≡ middle ++ members_code k l d x) → OnOk r (new ≡ old ++ set_code k (t.Constructor l) d x)
constructor_made k l d x n r new middle old is p h = behind r new middle old (clear_code k (even_from d) x)
    (members_code k l d x) (p ∙ ap (λ y. old ++ clear_code k y x) is) h

-- ---- relations

pub compared_made : {X E : Type 0} (k : Scope) (relation : SetRelation) (a b : t.SetExpr) (d x n u : ℕ) (r : Result X E)
    (new o2 o1 old : List Instruction) → n ≡ even_from d → u ≡ x + 32 → o1 ≡ old ++ set_code k a n x → o2 ≡ o1
    ++ set_code k b n u → OnOk r (new ≡ o2 ++ (sets_code k relation n x ++ moved n d)) → OnOk r
    (new ≡ old ++ front_code k (t.CompareSets relation a b) d x)
compared_made k relation a b d x n u r new o2 o1 old is up p q h =
    subst (λ y. OnOk r (new ≡ old ++ (((set_code k a y x ++ set_code k b y (x + 32)) ++ sets_code k relation y x)
    ++ moved y d))) is
    (subst (λ l. OnOk r (new ≡ old ++ l)) (sym
    (append_assoc (set_code k a n x ++ set_code k b n (x + 32)) (sets_code k relation n x) (moved n d)))
    (behind r new o2 old (set_code k a n x ++ set_code k b n (x + 32)) (sets_code k relation n x ++ moved n d)
    (and_then old o1 o2 (set_code k a n x) (set_code k b n (x + 32)) p (q ∙ ap (λ y. o1 ++ set_code k b n y) up)) h))

abbrev pub in_code : Scope → t.Expr → t.SetExpr → (m n d x : ℕ) → List Instruction
in_code k a b m n d x = (expr_code k a m x ++ asked_code k b n x) ++ membership_code m n d

pub in_made : {X E : Type 0} (k : Scope) (a : t.Expr) (b : t.SetExpr) (d x m n : ℕ) (r : Result X E)
    (new o2 o1 old : List Instruction) → m ≡ kept (asked_calls b) d → n ≡ even_from (suc m) → o1 ≡ old
    ++ expr_code k a m x → o2 ≡ o1 ++ asked_code k b n x → OnOk r (new ≡ o2 ++ membership_code m n d) → OnOk r
    (new ≡ old ++ front_code k (t.In a b) d x)
in_made k a b d x m n r new o2 o1 old is next p q h =
    subst (λ y. OnOk r (new ≡ old ++ in_code k a b y (even_from (suc y)) d x)) is
    (subst (λ y. OnOk r (new ≡ old ++ in_code k a b m y d x)) next
    (behind r new o2 old (expr_code k a m x ++ asked_code k b n x) (membership_code m n d)
    (and_then old o1 o2 (expr_code k a m x) (asked_code k b n x) p q) h))

-- ---- assignments

abbrev pub assign_set_code : Scope → t.Place → (low high : ℤ) → t.SetExpr → (line n a : ℕ) → List Instruction
assign_set_code k p low high e line n a = (((place_code k p n 0 ++ set_code k e (suc n) 0)
    ++ set_check a 0 low high line) ++ site_code a (place_site k p n) 32) ++ kept_behind a

pub assign_set_told : {X E : Type 0} (k : Scope) (p : t.Place) (low high : ℤ) (e : t.SetExpr) (line d n a b : ℕ)
    (s : Site) (r : Result X E) (new o3 o2 o1 old : List Instruction) → n ≡ held true d → a ≡ even_from (suc n) → b
    ≡ suc n → o1 ≡ old ++ place_code k p n 0 → s ≡ place_site k p n → o2 ≡ o1 ++ set_code k e b 0 → o3 ≡ o2
    ++ set_check a 0 low high line → OnOk r (new ≡ o3 ++ kept_code s a) → OnOk r
    (new ≡ old ++ statement_code k (t.AssignSet p low high e line) d)
assign_set_told k p low high e line d n a b s r new o3 o2 o1 old is next up f g q u h =
    subst (λ y. OnOk r (new ≡ old ++ assign_set_code k p low high e line y (even_from (suc y)))) is
    (subst (λ y. OnOk r (new ≡ old ++ assign_set_code k p low high e line n y)) next
    (behind_two r new o3 old ((place_code k p n 0 ++ set_code k e (suc n) 0) ++ set_check a 0 low high line)
    (site_code a (place_site k p n) 32) (kept_behind a)
    (and_then old o2 o3 (place_code k p n 0 ++ set_code k e (suc n) 0) (set_check a 0 low high line)
    (and_then old o1 o2 (place_code k p n 0) (set_code k e (suc n) 0) f (q ∙ ap (λ y. o1 ++ set_code k e y 0) up))
    u)
    (subst (λ (y : Site). OnOk r (new ≡ o3 ++ kept_code y a)) g h)))

-- ---- actual parameters

pub set_handed : {X E : Type 0} (k : Scope) (x : Argument) (e : SetExpr) (low high : ℤ) (line : Line) (n s : ℕ)
    (r : Result X E) (new middle old : List Instruction) → x ≡ Set e low high line → middle ≡ old ++ set_code k
    (set_of e) n s → OnOk r (new ≡ middle ++ (set_check (even_from n) s low high line.number
    ++ i.Offset n base.Scratch s 32 ∷ [])) → OnOk r (new ≡ old ++ argument_code k (argument_of x) n s)
unfolding argument_of
set_handed k x e low high line n s r new middle old is p h =
    subst (λ (y : Argument). OnOk r (new ≡ old ++ argument_code k (argument_of y) n s)) (sym is)
    (behind_two r new middle old (set_code k (set_of e) n s) (set_check (even_from n) s low high line.number)
    (i.Offset n base.Scratch s 32 ∷ []) p h)

pub value_handed : {X E : Type 0} (k : Scope) (x : Argument) (e : Expr) (range : _) (line : Line) (n s : ℕ)
    (byte : Bool) (known : Option ℤ) (r : Result X E) (new middle old : List Instruction) → x ≡ Value e range line
    → middle ≡ old ++ expr_code k (expr_of e) n s → byte ≡ gives_byte (expr_of e) → known ≡ literal_of (expr_of e)
    → OnOk r (new ≡ middle ++ fitting_code byte known n range line.number) → OnOk r
    (new ≡ old ++ argument_code k (argument_of x) n s)
unfolding argument_of
value_handed k x e range line n s byte known r new middle old is p b l h =
    subst (λ (y : Argument). OnOk r (new ≡ old ++ argument_code k (argument_of y) n s)) (sym is)
    (behind r new middle old (expr_code k (expr_of e) n s)
    (fitting_code (gives_byte (expr_of e)) (literal_of (expr_of e)) n range line.number) p
    (subst (λ y. OnOk r (new ≡ middle ++ fitting_code (gives_byte (expr_of e)) y n range line.number)) l
    (subst (λ y. OnOk r (new ≡ middle ++ fitting_code y known n range line.number)) b h)))

pub variable_handed : {X E : Type 0} (k : Scope) (x : Argument) (p : Place) (n s : ℕ) (site : Site) (r : Result X E)
    (new middle old : List Instruction) → x ≡ Variable p → middle ≡ old ++ place_code k (place_of p) n s → site
    ≡ place_site k (place_of p) n → OnOk r (new ≡ middle ++ site_code n site 0) → OnOk r
    (new ≡ old ++ argument_code k (argument_of x) n s)
variable_handed k x p n s site r new middle old is c g h =
    subst (λ (y : t.Argument). OnOk r (new ≡ old ++ argument_code k y n s))
    (sym (ap argument_of is ∙ argument_of_Variable p))
    (behind r new middle old (place_code k (place_of p) n s) (site_code n (place_site k (place_of p) n) 0) c
    (subst (λ (y : Site). OnOk r (new ≡ middle ++ site_code n y 0)) g h))
