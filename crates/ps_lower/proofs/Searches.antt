-- Loops that look for an item for which something holds.
use Rattle.std.proofs.Common.{◌≡◌, ◌≢◌, ℕ, zero, suc, ◌+◌, ◌-◌, ◌<◌, ◌≤◌, Bool, true, false, ◌||◌, List, [], ◌∷◌}
use Rattle.std.proofs.Common.{length, drop, get_or, map, refl, sym, ap, ◌∙◌, arith}
use Rattle.std.proofs.Math.Seq.{drop-cons}
use Rattle.std.proofs.lemmas.List.{drop_all}
use Rattle.ps_tree.specs.declared.tree.Place.{Place}
use Rattle.ps_tree.specs.declared.tree.Selector.{Selector}
use Rattle.ps_tree.specs.declared.tree.Expr.{Expr}
use Rattle.ps_tree.specs.declared.tree.ArithmeticStep.{ArithmeticStep, out-ArithmeticStep}
use Rattle.ps_tree.specs.declared.tree.statements.Statement.{Statement}
use Rattle.ps_tree.specs.declared.tree.statements.CaseElement.{CaseElement, out-CaseElement}
use Rattle.ps_tree.specs.View.{place_of, selector_of, selectors_of, expr_of, arithmetic_of, operands_of, statement_of}
use Rattle.ps_tree.specs.View.{statements_of, elements_of}
use Rattle.ps_lower_code.specs.Calling as code

-- it holds for none of the items before i
pub record Passed {A : Type 0} (f : List A → Bool) (items : List A) (i : ℕ) : Type 0 where
  pub left : f (drop i items) ≡ f items

pub passed_start : {A : Type 0} (f : List A → Bool) (items : List A) → Passed f items 0
passed_start f items = record { left = refl }

at_item : {A : Type 0} (f : List A → Bool) (one : A → Bool) → ((x : A) (xs : List A) → f (x ∷ xs) ≡ (one x || f xs))
    → (items : List A) (i : ℕ) (d : A) → i < length items → f (drop i items)
    ≡ (one (get_or items i d) || f (drop (suc i) items))
at_item f one law items i d h = ap f (drop-cons items i d h) ∙ law (get_or items i d) (drop (suc i) items)

pub passed_next : {A : Type 0} (f : List A → Bool) (one : A → Bool)
    → ((x : A) (xs : List A) → f (x ∷ xs) ≡ (one x || f xs)) → (items : List A) (i : ℕ) (item : Bool) (d : A)
    → i < length items → Passed f items i → item ≡ one (get_or items i d) → item ≡ false → Passed f items (i + 1)
passed_next f one law items i item d h s is missed = record {
  left =
      (let k : i + 1 ≡ suc i = omega arith in ap (λ j. f (drop j items)) k)
      ∙ sym (at_item f one law items i d h ∙ ap (λ b. b || f (drop (suc i) items)) (sym is ∙ missed))
      ∙ s.left;
}

pub passed_found : {A : Type 0} (f : List A → Bool) (one : A → Bool)
    → ((x : A) (xs : List A) → f (x ∷ xs) ≡ (one x || f xs)) → (items : List A) (i : ℕ) (item : Bool) (d : A)
    → i < length items → Passed f items i → item ≡ one (get_or items i d) → item ≡ true → true ≡ f items
passed_found f one law items i item d h s is hit =
    sym (at_item f one law items i d h ∙ ap (λ b. b || f (drop (suc i) items)) (sym is ∙ hit)) ∙ s.left

pub passed_all : {A : Type 0} (f : List A → Bool) → f [] ≡ false → (items : List A) (i : ℕ) → length items ≤ i
    → Passed f items i → false ≡ f items
passed_all f none items i h s = sym none ∙ ap f (sym (drop_all i items h)) ∙ s.left

-- a first operand that is true decides, and a second one counts where the first is false
pub or_first : (x y z : Bool) → x ≡ true → (x || y) ≡ z → true ≡ z
or_first x y z hit e = sym (ap (λ b. b || y) hit) ∙ e

pub or_second : (x y z : Bool) → x ≡ false → (x || y) ≡ z → y ≡ z
or_second x y z missed e = sym (ap (λ b. b || y) missed) ∙ e

-- ---- levels

pub expr_too_deep : (n : ℕ) (e : Expr) → n ≡ 0 → true ≡ code.expr_calls_in n (expr_of e)
expr_too_deep n e z = sym (ap (λ k. code.expr_calls_in k (expr_of e)) z)

pub expr_a_level_down : (n : ℕ) (e : Expr) (b : Bool) → n ≢ 0 → b ≡ code.expr_calls_in (suc (n - 1)) (expr_of e) → b
    ≡ code.expr_calls_in n (expr_of e)
expr_a_level_down zero e b not r = absurd (not refl)
expr_a_level_down (suc n) e b not r = r ∙ (let k : suc (suc n - 1) ≡ suc n = omega arith
    in ap (λ k. code.expr_calls_in k (expr_of e)) k)

pub statement_too_deep : (n : ℕ) (s : Statement) → n ≡ 0 → true ≡ code.statement_calls_in n (statement_of s)
statement_too_deep n s z = sym (ap (λ k. code.statement_calls_in k (statement_of s)) z)

pub statement_a_level_down : (n : ℕ) (s : Statement) (b : Bool) → n ≢ 0 → b ≡ code.statement_calls_in (suc (n - 1))
    (statement_of s) → b ≡ code.statement_calls_in n (statement_of s)
statement_a_level_down zero s b not r = absurd (not refl)
statement_a_level_down (suc n) s b not r = r
    ∙ (let k : suc (suc n - 1) ≡ suc n = omega arith in ap (λ k. code.statement_calls_in k (statement_of s)) k)

-- ---- each kind of list, of whose parts n levels are looked at

abbrev pub selectors_in : ℕ → List Selector → Bool
selectors_in n l = code.selectors_call_in n (selectors_of l)

pub selectors_none : (n : ℕ) → selectors_in n [] ≡ false
unfolding selectors_of
selectors_none n = refl

pub selectors_more : (n : ℕ) (x : Selector) (xs : List Selector) → selectors_in n (x ∷ xs)
    ≡ (code.selector_calls_in n (selector_of x) || selectors_in n xs)
unfolding selectors_of
selectors_more n x xs = refl

abbrev pub step_in : ℕ → ArithmeticStep → Bool
step_in n s = code.expr_calls_in n (expr_of (out-ArithmeticStep s).operand)

abbrev pub steps_in : ℕ → List ArithmeticStep → Bool
steps_in n l = code.steps_call_in n (arithmetic_of l)

pub steps_none : (n : ℕ) → steps_in n [] ≡ false
unfolding arithmetic_of
steps_none n = refl

pub steps_more : (n : ℕ) (x : ArithmeticStep) (xs : List ArithmeticStep) → steps_in n (x ∷ xs)
    ≡ (step_in n x || steps_in n xs)
unfolding arithmetic_of
steps_more n x xs = refl

abbrev pub operands_in : ℕ → List Expr → Bool
operands_in n l = code.operands_call_in n (operands_of l)

pub operands_none : (n : ℕ) → operands_in n [] ≡ false
unfolding operands_of
operands_none n = refl

pub operands_more : (n : ℕ) (x : Expr) (xs : List Expr) → operands_in n (x ∷ xs)
    ≡ (code.expr_calls_in n (expr_of x) || operands_in n xs)
unfolding operands_of
operands_more n x xs = refl

abbrev pub places_in : List Place → Bool
places_in l = code.places_call (map place_of l)

pub places_more : (x : Place) (xs : List Place) → places_in (x ∷ xs) ≡ (code.place_calls (place_of x) || places_in xs)
places_more x xs = refl

abbrev pub statements_in : ℕ → List Statement → Bool
statements_in n l = code.statements_call_in n (statements_of l)

pub statements_none : (n : ℕ) → statements_in n [] ≡ false
unfolding statements_of
statements_none n = refl

pub statements_more : (n : ℕ) (x : Statement) (xs : List Statement) → statements_in n (x ∷ xs)
    ≡ (code.statement_calls_in n (statement_of x) || statements_in n xs)
unfolding statements_of
statements_more n x xs = refl

abbrev pub element_in : ℕ → CaseElement → Bool
element_in n e = code.statement_calls_in n (statement_of (out-CaseElement e).body)

abbrev pub elements_in : ℕ → List CaseElement → Bool
elements_in n l = code.elements_call_in n (elements_of l)

pub elements_none : (n : ℕ) → elements_in n [] ≡ false
unfolding elements_of
elements_none n = refl

pub elements_more : (n : ℕ) (x : CaseElement) (xs : List CaseElement) → elements_in n (x ∷ xs)
    ≡ (element_in n x || elements_in n xs)
unfolding elements_of
elements_more n x xs = refl
