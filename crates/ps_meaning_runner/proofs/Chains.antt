-- Chains: selectors of a variable, and operators with their operands, from a place on.
use Rattle.std.proofs.Common.{◌≡◌, ℕ, ℤ, suc, ◌+◌, ◌-◌, ◌<◌, ◌≤◌, max, Bool, List, Vec, Box, Global, Result, length}
use Rattle.std.proofs.Common.{get_or, drop, refl, sym, ap, subst, ◌∙◌, arith}
use Rattle.std.proofs.lemmas.List.{drop_all}
use Rattle.ps_tree.specs.Tree as Tree
use Rattle.ps_tree.specs.declared.tree.operators.BooleanOperator.{BooleanOperator}
use Rattle.ps_tree.specs.declared.tree.Expr.{Expr, Arithmetic, Logic}
use Rattle.ps_tree.specs.declared.tree.SetExpr.{SetExpr, Combine}
use Rattle.ps_tree.specs.declared.tree.Structure.{Structure, Contents}
use Rattle.ps_tree.specs.declared.tree.Place.{Place as PlaceInTree}
use Rattle.ps_tree.specs.declared.types.Ty.{Ty}
use Rattle.ps_tree.specs.declared.tree.Selector.{Selector}
use Rattle.ps_tree.specs.declared.tree.ArithmeticStep.{ArithmeticStep, out-ArithmeticStep}
use Rattle.ps_tree.specs.declared.tree.SetStep.{SetStep, out-SetStep}
use Rattle.ps_tree.specs.View.{type_of, base_of, place_of, structure_of, selector_of, selectors_of, expr_of}
use Rattle.ps_tree.specs.View.{arithmetic_of, operands_of, set_of, set_steps_of}
use Rattle.ps_tree.proofs.TreeLemmas as lemma
use Rattle.ps_meaning.specs.Values as v
use Rattle.ps_meaning.specs.Operators.{compute, combine_truths, combine_sets, is_true, truth}
use Rattle.ps_meaning.specs.Worlds as m
use Rattle.ps_meaning.specs.Expressions as e
use Rattle.ps_meaning_runner.specs.declared.stop.Halt.{Halt}
use Rattle.ps_meaning_runner.specs.declared.value.Value.{Value}
use Rattle.ps_meaning_runner.specs.declared.value.Spot.{Spot}
use Rattle.ps_meaning_runner.specs.declared.operands.Held.TheVariants.{Place}
use Rattle.ps_meaning_runner.specs.declared.world.Setup.{Setup}
use Rattle.ps_meaning_runner.specs.View.{members_of_set, value_of, spot_of}
use Rattle.ps_meaning_runner.specs.declared.world.World.{World}
use Rattle.ps_meaning_runner.specs.Worlds.{Stopped, caller, held_of}
use Rattle.ps_meaning_runner.specs.Heights.{place_height, structure_height, selector_height, selectors_height}
use Rattle.ps_meaning_runner.specs.Heights.{expr_height, steps_height, operands_height, set_height, set_steps_height}
use Rattle.ps_meaning_runner.specs.Runs.{Halted, Runs, levels, truth_in}
use Rattle.ps_meaning_runner.proofs.Heights.{selector_within, step_within, operand_within, set_step_within}
use Rattle.ps_meaning_runner.proofs.Answers.{stopped_then, halted_by, halted_then, runs_deeper}
use Rattle.ps_meaning_runner.proofs.Acts.{then_gives, stopped_same}
use Rattle.ps_meaning_runner.proofs.Trees.{drop_next}

-- ---- selectors

selectors_at : (xs : List Selector) (i : ℕ) (x : Selector) → i < length xs → x ≡ get_or xs i x → selectors_of
    (drop i xs) ≡ Tree.selector_before (selector_of x) (selectors_of (drop (i + 1) xs))
unfolding selectors_of
selectors_at xs i x lt at = ap selectors_of (drop_next xs i x lt at)

selectors_past : (xs : List Selector) (i : ℕ) → length xs ≤ i → selectors_of (drop i xs) ≡ Tree.no_selector
unfolding selectors_of
selectors_past xs i le = ap selectors_of (drop_all i xs le)

pub selectors_next : (call : e.Caller) (c : m.Context) (xs : List Selector) (i : ℕ) (x : Selector) (spot other : v.Spot)
    (w u : m.World) (all : m.Answer v.Spot) → e.accesses call (selectors_of (drop i xs)) spot c w ≡ all
    → e.at_selector call (selector_of x) spot c w ≡ m.Gives other u → x ≡ get_or xs i x → i < length xs
    → e.accesses call (selectors_of (drop (i + 1) xs)) other c u ≡ all
selectors_next call c xs i x spot other w u all is gives at lt =
    sym (ap (λ l. e.accesses call l spot c w) (selectors_at xs i x lt at)
    ∙ ap (λ a. m.and_then a (λ y. e.accesses call (selectors_of (drop (i + 1) xs)) y c)) gives) ∙ is

pub selectors_end : (call : e.Caller) (c : m.Context) (xs : List Selector) (i : ℕ) (spot : v.Spot) (w : m.World)
    (all : m.Answer v.Spot) → e.accesses call (selectors_of (drop i xs)) spot c w ≡ all → length xs ≤ i → all
    ≡ m.Gives spot w
selectors_end call c xs i spot w all is le = sym is ∙ ap (λ l. e.accesses call l spot c w) (selectors_past xs i le)

pub selectors_halt : (setup : Setup) (n : ℕ) (c : m.Context) (xs : List Selector) (i : ℕ) (x : Selector) (spot : v.Spot)
    (halt : Halt) (w : m.World) (u : World) (all : m.Answer v.Spot) (d : ℕ) → e.accesses (caller setup n)
    (selectors_of (drop i xs)) spot c w ≡ all → Halted (e.at_selector (caller setup n) (selector_of x) spot c w) d
    (levels setup n (selector_height (selector_of x))) halt u → x ≡ get_or xs i x → i < length xs → Halted all d
    (levels setup n (selectors_height (selectors_of xs))) halt u
selectors_halt setup n c xs i x spot halt w u all d is h at lt =
    let le : selector_height (selector_of x) ≤ selectors_height (selectors_of xs) = selector_within xs i x at lt in
    halted_by (e.at_selector (caller setup n) (selector_of x) spot c w) all halt u d
    (levels setup n (selector_height (selector_of x))) d (levels setup n (selectors_height (selectors_of xs)))
    (λ stop s. stopped_same _ all stop u (sym
    (ap (λ l. e.accesses (caller setup n) l spot c w) (selectors_at xs i x lt at)) ∙ is)
    (stopped_then (e.at_selector (caller setup n) (selector_of x) spot c w)
    (λ y. e.accesses (caller setup n) (selectors_of (drop (i + 1) xs)) y c) stop u s)) h (omega arith)

-- a variable from its first selector on, and where one of them ends the run
pub access_begins : (call : e.Caller) (c : m.Context) (p : PlaceInTree) (xs : List Selector) (spot : v.Spot)
    (w : m.World) → xs ≡ p.selectors.items → spot ≡ e.denoted (base_of p.base) c → e.accesses call
    (selectors_of (drop 0 xs)) spot c w ≡ e.access call (place_of p) c w
access_begins call c p xs spot w whole at = ap (λ l. e.accesses call (selectors_of l) spot c w) whole
    ∙ ap (λ s. e.accesses call (selectors_of p.selectors.items) s c w) at

pub access_halts : (setup : Setup) (n : ℕ) (c : m.Context) (p : PlaceInTree) (xs : List Selector) (i : ℕ) (x : Selector)
    (spot : v.Spot) (halt : Halt) (first w : m.World) (u : World) (d : ℕ) → xs ≡ p.selectors.items → e.accesses
    (caller setup n) (selectors_of (drop i xs)) spot c w ≡ e.access (caller setup n) (place_of p) c first → Halted
    (e.at_selector (caller setup n) (selector_of x) spot c w) (d - 1)
    (levels setup n (selector_height (selector_of x))) halt u → x ≡ get_or xs i x → i < length xs → Halted
    (e.access (caller setup n) (place_of p) c first) d (levels setup n (place_height (place_of p))) halt u
access_halts setup n c p xs i x spot halt first w u d whole is h at lt =
    let all : m.Answer v.Spot = e.access (caller setup n) (place_of p) c first in
    let needed : ℕ = levels setup n (selectors_height (selectors_of xs)) in
    subst (λ l. Halted all d (levels setup n (suc (selectors_height (selectors_of l)))) halt u) whole
    (halted_by all all halt u (d - 1) needed d (levels setup n (suc (selectors_height (selectors_of xs))))
    (λ stop s. s) (selectors_halt setup n c xs i x spot halt w u all (d - 1) is h at lt) (omega arith))

-- ---- operators on integers

steps_at : (xs : List ArithmeticStep) (i : ℕ) (x : ArithmeticStep) → i < length xs → x ≡ get_or xs i x → arithmetic_of
    (drop i xs) ≡ Tree.arithmetic_step_before (out-ArithmeticStep x).operator (expr_of (out-ArithmeticStep x).operand)
    (out-ArithmeticStep x).line.number (arithmetic_of (drop (i + 1) xs))
unfolding arithmetic_of
steps_at xs i x lt at = ap arithmetic_of (drop_next xs i x lt at)

steps_past : (xs : List ArithmeticStep) (i : ℕ) → length xs ≤ i → arithmetic_of (drop i xs) ≡ Tree.no_arithmetic_step
unfolding arithmetic_of
steps_past xs i le = ap arithmetic_of (drop_all i xs le)

-- the first operand, then the steps
pub steps_begin : (call : e.Caller) (c : m.Context) (first : Tree.Expr) (steps : Tree.ArithmeticSteps) (x : v.Value)
    (w u : m.World) → e.value call first c w ≡ m.Gives x u → e.computed call steps (v.number_of x) c u ≡ e.value call
    (Tree.Arithmetic first steps) c w
steps_begin call c first steps x w u gives = sym
    (then_gives (e.value call first c w) (λ y. e.computed call steps (v.number_of y) c) x u gives)

-- the step at a place, once its operand is evaluated, and the steps after it
abbrev pub step_done : e.Caller → m.Context → List ArithmeticStep → ℕ → ArithmeticStep → ℤ → v.Value → m.Act v.Value
step_done call c xs i x k y = λ u. m.and_then
    (m.settled (compute (out-ArithmeticStep x).operator k (v.number_of y)) (out-ArithmeticStep x).line.number c u)
    (λ z. e.computed call (arithmetic_of (drop (i + 1) xs)) (v.number_of z) c)

step_is : (call : e.Caller) (c : m.Context) (xs : List ArithmeticStep) (i : ℕ) (x : ArithmeticStep) (k : ℤ)
    (w : m.World) (all : m.Answer v.Value) → e.computed call (arithmetic_of (drop i xs)) k c w ≡ all → x ≡ get_or xs i x
    → i < length xs → m.and_then (e.value call (expr_of (out-ArithmeticStep x).operand) c w) (step_done call c xs i x k)
    ≡ all
step_is call c xs i x k w all is at lt = sym (ap (λ l. e.computed call l k c w) (steps_at xs i x lt at)) ∙ is

step_settles : (call : e.Caller) (c : m.Context) (xs : List ArithmeticStep) (i : ℕ) (x : ArithmeticStep) (k : ℤ)
    (y : v.Value) (w u : m.World) (all : m.Answer v.Value) → e.computed call (arithmetic_of (drop i xs)) k c w ≡ all
    → e.value call (expr_of (out-ArithmeticStep x).operand) c w ≡ m.Gives y u → x ≡ get_or xs i x → i < length xs
    → step_done call c xs i x k y u ≡ all
step_settles call c xs i x k y w u all is gives at lt = sym
    (then_gives (e.value call (expr_of (out-ArithmeticStep x).operand) c w) (step_done call c xs i x k) y u gives)
    ∙ step_is call c xs i x k w all is at lt

pub steps_next : (call : e.Caller) (c : m.Context) (xs : List ArithmeticStep) (i : ℕ) (x : ArithmeticStep) (k : ℤ)
    (y z : v.Value) (w u t : m.World) (all : m.Answer v.Value) → e.computed call (arithmetic_of (drop i xs)) k c w ≡ all
    → e.value call (expr_of (out-ArithmeticStep x).operand) c w ≡ m.Gives y u → m.settled
    (compute (out-ArithmeticStep x).operator k (v.number_of y)) (out-ArithmeticStep x).line.number c u ≡ m.Gives z t → x
    ≡ get_or xs i x → i < length xs → e.computed call (arithmetic_of (drop (i + 1) xs)) (v.number_of z) c t ≡ all
steps_next call c xs i x k y z w u t all is gives settles at lt = sym
    (then_gives (m.settled (compute (out-ArithmeticStep x).operator k (v.number_of y))
    (out-ArithmeticStep x).line.number c u) (λ a. e.computed call (arithmetic_of (drop (i + 1) xs)) (v.number_of a) c) z
    t settles) ∙ step_settles call c xs i x k y w u all is gives at lt

pub steps_end : (call : e.Caller) (c : m.Context) (xs : List ArithmeticStep) (i : ℕ) (k : ℤ) (w : m.World)
    (all : m.Answer v.Value) → e.computed call (arithmetic_of (drop i xs)) k c w ≡ all → length xs ≤ i → all ≡ m.Gives
    (v.OrdinalValue k) w
steps_end call c xs i k w all is le = sym is ∙ ap (λ l. e.computed call l k c w) (steps_past xs i le)

pub steps_halt_first : (setup : Setup) (n : ℕ) (c : m.Context) (first : Tree.Expr) (steps : Tree.ArithmeticSteps)
    (halt : Halt) (w : m.World) (u : World) (d : ℕ) → Halted (e.value (caller setup n) first c w) d
    (levels setup n (expr_height first)) halt u → Halted (e.value (caller setup n) (Tree.Arithmetic first steps) c w) d
    (levels setup n (max (expr_height first) (steps_height steps))) halt u
steps_halt_first setup n c first steps halt w u d h =
    halted_by (e.value (caller setup n) first c w) (e.value (caller setup n) (Tree.Arithmetic first steps) c w) halt u d
    (levels setup n (expr_height first)) d (levels setup n (max (expr_height first) (steps_height steps)))
    (λ stop s. stopped_then (e.value (caller setup n) first c w)
    (λ y. e.computed (caller setup n) steps (v.number_of y) c) stop u s) h (omega arith)

pub steps_halt : (setup : Setup) (n : ℕ) (c : m.Context) (xs : List ArithmeticStep) (i : ℕ) (x : ArithmeticStep) (k : ℤ)
    (halt : Halt) (w : m.World) (u : World) (all : m.Answer v.Value) (d height : ℕ) → e.computed (caller setup n)
    (arithmetic_of (drop i xs)) k c w ≡ all → Halted
    (e.value (caller setup n) (expr_of (out-ArithmeticStep x).operand) c w) d
    (levels setup n (expr_height (expr_of (out-ArithmeticStep x).operand))) halt u → x ≡ get_or xs i x → i < length xs
    → Halted all d (levels setup n (max height (steps_height (arithmetic_of xs)))) halt u
steps_halt setup n c xs i x k halt w u all d height is h at lt =
    let le : expr_height (expr_of (out-ArithmeticStep x).operand) ≤ steps_height
    (arithmetic_of xs) = step_within xs i x at lt in
    halted_by (e.value (caller setup n) (expr_of (out-ArithmeticStep x).operand) c w) all halt u d
    (levels setup n (expr_height (expr_of (out-ArithmeticStep x).operand))) d
    (levels setup n (max height (steps_height (arithmetic_of xs))))
    (λ stop s. stopped_same _ all stop u (step_is (caller setup n) c xs i x k w all is at lt)
    (stopped_then (e.value (caller setup n) (expr_of (out-ArithmeticStep x).operand) c w)
    (step_done (caller setup n) c xs i x k) stop u s)) h (omega arith)

pub steps_stop : (call : e.Caller) (c : m.Context) (xs : List ArithmeticStep) (i : ℕ) (x : ArithmeticStep) (k : ℤ)
    (y : v.Value) (stop : Halt) (w u : m.World) (t : World) (all : m.Answer v.Value) → e.computed call
    (arithmetic_of (drop i xs)) k c w ≡ all → e.value call (expr_of (out-ArithmeticStep x).operand) c w ≡ m.Gives y u
    → Stopped (m.settled (compute (out-ArithmeticStep x).operator k (v.number_of y))
    (out-ArithmeticStep x).line.number c u) stop t → x ≡ get_or xs i x → i < length xs → Stopped all stop t
steps_stop call c xs i x k y stop w u t all is gives h at lt =
    stopped_same _ all stop t (step_settles call c xs i x k y w u all is gives at lt)
    (stopped_then (m.settled (compute (out-ArithmeticStep x).operator k (v.number_of y))
    (out-ArithmeticStep x).line.number c u) (λ a. e.computed call (arithmetic_of (drop (i + 1) xs))
    (v.number_of a) c) stop t h)

-- ---- and, or

operands_at : (xs : List Expr) (i : ℕ) (x : Expr) → i < length xs → x ≡ get_or xs i x → operands_of (drop i xs)
    ≡ Tree.operand_before (expr_of x) (operands_of (drop (i + 1) xs))
unfolding operands_of
operands_at xs i x lt at = ap operands_of (drop_next xs i x lt at)

operands_past : (xs : List Expr) (i : ℕ) → length xs ≤ i → operands_of (drop i xs) ≡ Tree.no_operand
unfolding operands_of
operands_past xs i le = ap operands_of (drop_all i xs le)

-- the truth of an operand, and then
truth_then : {A : Type 0} (a : m.Answer v.Value) (f : Bool → m.Act A) → m.and_then a (λ y. f (is_true (v.number_of y)))
    ≡ m.and_then (m.and_then a (λ x. m.give (is_true (v.number_of x)))) f
truth_then (m.Gives y w) f = refl
truth_then (m.Ends out ending) f = refl

-- the truth of the first operand, and what the others give
logic_is : (setup : Setup) (n : ℕ) (c : m.Context) (operator : BooleanOperator) (first : Tree.Expr)
    (rest : Tree.Operands)
    (w : m.World) → e.value (caller setup n) (Tree.Logic operator first rest) c w
    ≡ m.and_then (truth_in setup n first c w) (λ b. e.combined (caller setup n) operator rest b c)
logic_is setup n c operator first rest w = truth_then (e.value (caller setup n) first c w)
    (λ b. e.combined (caller setup n) operator rest b c)

pub operands_begin : (setup : Setup) (n : ℕ) (c : m.Context) (operator : BooleanOperator) (first : Tree.Expr)
    (rest : Tree.Operands) (b : Bool) (w u : m.World) → truth_in setup n first c w ≡ m.Gives b u → e.combined
    (caller setup n) operator rest b c u ≡ e.value (caller setup n) (Tree.Logic operator first rest) c w
operands_begin setup n c operator first rest b w u gives = sym
    (logic_is setup n c operator first rest w ∙ then_gives (truth_in setup n first c w)
    (λ k. e.combined (caller setup n) operator rest k c) b u gives)

operand_is : (setup : Setup) (n : ℕ) (c : m.Context) (operator : BooleanOperator) (xs : List Expr) (i : ℕ) (x : Expr)
    (k : Bool) (w : m.World) (all : m.Answer v.Value) → e.combined (caller setup n) operator
    (operands_of (drop i xs)) k c w ≡ all → x ≡ get_or xs i x → i < length xs → m.and_then
    (truth_in setup n (expr_of x) c w) (λ y. e.combined (caller setup n) operator (operands_of (drop (i + 1) xs))
    (combine_truths operator k y) c) ≡ all
operand_is setup n c operator xs i x k w all is at lt =
    sym (ap (λ l. e.combined (caller setup n) operator l k c w) (operands_at xs i x lt at) ∙ truth_then
    (e.value (caller setup n) (expr_of x) c w)
    (λ y. e.combined (caller setup n) operator (operands_of (drop (i + 1) xs)) (combine_truths operator k y) c)) ∙ is

pub operands_next : (setup : Setup) (n : ℕ) (c : m.Context) (operator : BooleanOperator) (xs : List Expr) (i : ℕ)
    (x : Expr) (k y : Bool) (w u : m.World) (all : m.Answer v.Value) → e.combined (caller setup n) operator
    (operands_of (drop i xs)) k c w ≡ all → truth_in setup n (expr_of x) c w ≡ m.Gives y u → x ≡ get_or xs i x
    → i < length xs → e.combined (caller setup n) operator (operands_of (drop (i + 1) xs))
    (combine_truths operator k y) c u ≡ all
operands_next setup n c operator xs i x k y w u all is gives at lt =
    sym (then_gives (truth_in setup n (expr_of x) c w)
    (λ b. e.combined (caller setup n) operator (operands_of (drop (i + 1) xs)) (combine_truths operator k b) c) y u
    gives) ∙ operand_is setup n c operator xs i x k w all is at lt

pub operands_end : (call : e.Caller) (c : m.Context) (operator : BooleanOperator) (xs : List Expr) (i : ℕ) (k : Bool)
    (w : m.World) (all : m.Answer v.Value) → e.combined call operator (operands_of (drop i xs)) k c w ≡ all
    → length xs ≤ i → all ≡ m.Gives (v.OrdinalValue (truth k)) w
operands_end call c operator xs i k w all is le = sym is ∙ ap (λ l. e.combined call operator l k c w)
    (operands_past xs i le)

pub operands_halt_first : (setup : Setup) (n : ℕ) (c : m.Context) (operator : BooleanOperator) (first : Tree.Expr)
    (rest : Tree.Operands) (halt : Halt) (w : m.World) (u : World) (d : ℕ) → Halted (truth_in setup n first c w) d
    (levels setup n (expr_height first)) halt u
    → Halted (e.value (caller setup n) (Tree.Logic operator first rest) c w) d
    (levels setup n (max (expr_height first) (operands_height rest))) halt u
operands_halt_first setup n c operator first rest halt w u d h =
    halted_by (truth_in setup n first c w) (e.value (caller setup n) (Tree.Logic operator first rest) c w) halt u d
    (levels setup n (expr_height first)) d (levels setup n (max (expr_height first) (operands_height rest)))
    (λ stop s. stopped_same _ (e.value (caller setup n) (Tree.Logic operator first rest) c w) stop u
    (sym (logic_is setup n c operator first rest w))
    (stopped_then (truth_in setup n first c w) (λ b. e.combined (caller setup n) operator rest b c) stop u s)) h
    (omega arith)

pub operands_halt : (setup : Setup) (n : ℕ) (c : m.Context) (operator : BooleanOperator) (xs : List Expr) (i : ℕ)
    (x : Expr) (k : Bool) (halt : Halt) (w : m.World) (u : World) (all : m.Answer v.Value) (d height : ℕ) → e.combined
    (caller setup n) operator (operands_of (drop i xs)) k c w ≡ all → Halted (truth_in setup n (expr_of x) c w) d
    (levels setup n (expr_height (expr_of x))) halt u → x ≡ get_or xs i x → i < length xs → Halted all d
    (levels setup n (max height (operands_height (operands_of xs)))) halt u
operands_halt setup n c operator xs i x k halt w u all d height is h at lt =
    let le : expr_height (expr_of x) ≤ operands_height (operands_of xs) = operand_within xs i x at lt in
    halted_by (truth_in setup n (expr_of x) c w) all halt u d (levels setup n (expr_height (expr_of x))) d
    (levels setup n (max height (operands_height (operands_of xs))))
    (λ stop s. stopped_same _ all stop u (operand_is setup n c operator xs i x k w all is at lt)
    (stopped_then (truth_in setup n (expr_of x) c w)
    (λ y. e.combined (caller setup n) operator (operands_of (drop (i + 1) xs)) (combine_truths operator k y) c) stop u
    s)) h (omega arith)

-- ---- operators on sets

sets_at : (xs : List SetStep) (i : ℕ) (x : SetStep) → i < length xs → x ≡ get_or xs i x → set_steps_of (drop i xs)
    ≡ Tree.set_step_before (out-SetStep x).operator (set_of (out-SetStep x).operand) (set_steps_of (drop (i + 1) xs))
unfolding set_steps_of
sets_at xs i x lt at = ap set_steps_of (drop_next xs i x lt at)

sets_past : (xs : List SetStep) (i : ℕ) → length xs ≤ i → set_steps_of (drop i xs) ≡ Tree.no_set_step
unfolding set_steps_of
sets_past xs i le = ap set_steps_of (drop_all i xs le)

pub sets_begin : (call : e.Caller) (c : m.Context) (first : Tree.SetExpr) (steps : Tree.SetSteps) (s : ℕ → Bool)
    (w u : m.World) → e.set_value call first c w ≡ m.Gives s u → e.sets_combined call steps s c u ≡ e.set_value call
    (Tree.Combine first steps) c w
sets_begin call c first steps s w u gives = sym
    (then_gives (e.set_value call first c w) (λ y. e.sets_combined call steps y c) s u gives)

set_step_is : (call : e.Caller) (c : m.Context) (xs : List SetStep) (i : ℕ) (x : SetStep) (k : ℕ → Bool) (w : m.World)
    (all : m.Answer (ℕ → Bool)) → e.sets_combined call (set_steps_of (drop i xs)) k c w ≡ all → x ≡ get_or xs i x
    → i < length xs → m.and_then (e.set_value call (set_of (out-SetStep x).operand) c w)
    (λ y. e.sets_combined call (set_steps_of (drop (i + 1) xs)) (combine_sets (out-SetStep x).operator k y) c) ≡ all
set_step_is call c xs i x k w all is at lt = sym (ap (λ l. e.sets_combined call l k c w) (sets_at xs i x lt at)) ∙ is

pub sets_next : (call : e.Caller) (c : m.Context) (xs : List SetStep) (i : ℕ) (x : SetStep) (k y both : ℕ → Bool)
    (w u : m.World) (all : m.Answer (ℕ → Bool)) → e.sets_combined call (set_steps_of (drop i xs)) k c w ≡ all
    → e.set_value call (set_of (out-SetStep x).operand) c w ≡ m.Gives y u → both ≡ combine_sets
    (out-SetStep x).operator k y → x ≡ get_or xs i x → i < length xs → e.sets_combined call
    (set_steps_of (drop (i + 1) xs)) both c u ≡ all
sets_next call c xs i x k y both w u all is gives combines at lt =
    ap (λ b. e.sets_combined call (set_steps_of (drop (i + 1) xs)) b c u) combines ∙ sym
    (then_gives (e.set_value call (set_of (out-SetStep x).operand) c w)
    (λ z. e.sets_combined call (set_steps_of (drop (i + 1) xs)) (combine_sets (out-SetStep x).operator k z) c) y u
    gives) ∙ set_step_is call c xs i x k w all is at lt

pub sets_end : (call : e.Caller) (c : m.Context) (xs : List SetStep) (i : ℕ) (k : ℕ → Bool) (w : m.World)
    (all : m.Answer (ℕ → Bool)) → e.sets_combined call (set_steps_of (drop i xs)) k c w ≡ all → length xs ≤ i → all
    ≡ m.Gives k w
sets_end call c xs i k w all is le = sym is ∙ ap (λ l. e.sets_combined call l k c w) (sets_past xs i le)

pub sets_halt_first : (setup : Setup) (n : ℕ) (c : m.Context) (first : Tree.SetExpr) (steps : Tree.SetSteps)
    (halt : Halt) (w : m.World) (u : World) (d : ℕ) → Halted (e.set_value (caller setup n) first c w) d
    (levels setup n (set_height first)) halt u → Halted (e.set_value (caller setup n) (Tree.Combine first steps) c w) d
    (levels setup n (max (set_height first) (set_steps_height steps))) halt u
sets_halt_first setup n c first steps halt w u d h =
    halted_by (e.set_value (caller setup n) first c w)
    (e.set_value (caller setup n) (Tree.Combine first steps) c w) halt u d (levels setup n (set_height first)) d
    (levels setup n (max (set_height first) (set_steps_height steps)))
    (λ stop s. stopped_then (e.set_value (caller setup n) first c w)
    (λ y. e.sets_combined (caller setup n) steps y c) stop u s) h (omega arith)

pub sets_halt : (setup : Setup) (n : ℕ) (c : m.Context) (xs : List SetStep) (i : ℕ) (x : SetStep) (k : ℕ → Bool)
    (halt : Halt) (w : m.World) (u : World) (all : m.Answer (ℕ → Bool)) (d height : ℕ)
    → e.sets_combined (caller setup n)
    (set_steps_of (drop i xs)) k c w ≡ all → Halted (e.set_value (caller setup n) (set_of (out-SetStep x).operand) c w)
    d (levels setup n (set_height (set_of (out-SetStep x).operand))) halt u → x ≡ get_or xs i x → i < length xs
    → Halted all d (levels setup n (max height (set_steps_height (set_steps_of xs)))) halt u
sets_halt setup n c xs i x k halt w u all d height is h at lt =
    let le : set_height (set_of (out-SetStep x).operand) ≤ set_steps_height
    (set_steps_of xs) = set_step_within xs i x at lt in
    halted_by (e.set_value (caller setup n) (set_of (out-SetStep x).operand) c w) all halt u d
    (levels setup n (set_height (set_of (out-SetStep x).operand))) d
    (levels setup n (max height (set_steps_height (set_steps_of xs))))
    (λ stop s. stopped_same _ all stop u (set_step_is (caller setup n) c xs i x k w all is at lt)
    (stopped_then (e.set_value (caller setup n) (set_of (out-SetStep x).operand) c w)
    (λ y. e.sets_combined (caller setup n) (set_steps_of (drop (i + 1) xs))
    (combine_sets (out-SetStep x).operator k y) c) stop u s)) h (omega arith)

-- chains, read again

arithmetic_is : (x : Expr) (b : Box Expr Global) (v : Vec ArithmeticStep Global) (first : Expr)
    (items : List ArithmeticStep) → x ≡ Arithmetic b v → first ≡ b.value → items ≡ v.items → Tree.Arithmetic
    (expr_of first) (arithmetic_of items) ≡ expr_of x
arithmetic_is x b v first items f g h = ap (λ y. Tree.Arithmetic (expr_of y) (arithmetic_of items)) g
    ∙ ap (λ l. Tree.Arithmetic (expr_of b.value) (arithmetic_of l)) h ∙ sym
    (ap expr_of f ∙ lemma.expr_of_Arithmetic b v)

pub arithmetic_runs : (setup : Setup) (n : ℕ) (c : m.Context) (w : m.World) (x : Expr) (b : Box Expr Global)
    (v : Vec ArithmeticStep Global) (first : Expr) (items : List ArithmeticStep) (result : Result Value Halt)
    (u : World) (d : ℕ) → x ≡ Arithmetic b v → first ≡ b.value → items ≡ v.items → Runs value_of
    (e.value (caller setup n) (Tree.Arithmetic (expr_of first) (arithmetic_of items)) c w) (d - 1)
    (levels setup n (max (expr_height (expr_of first)) (steps_height (arithmetic_of items)))) result u → Runs value_of
    (e.value (caller setup n) (expr_of x) c w) d (levels setup n (expr_height (expr_of x))) result u
arithmetic_runs setup n c w x b v first items result u d f g h runs =
    subst (λ (y : Tree.Expr). Runs value_of (e.value (caller setup n) y c w) d (levels setup n (expr_height y)) result
    u) (arithmetic_is x b v first items f g h) (runs_deeper value_of
    (e.value (caller setup n) (Tree.Arithmetic (expr_of first) (arithmetic_of items)) c w) result u (d - 1)
    (levels setup n (max (expr_height (expr_of first)) (steps_height (arithmetic_of items)))) d
    (levels setup n (suc (max (expr_height (expr_of first)) (steps_height (arithmetic_of items))))) runs
    (omega arith))

logical_is : (x : Expr) (operator : BooleanOperator) (b : Box Expr Global) (v : Vec Expr Global) (first : Expr)
    (items : List Expr) → x ≡ Logic operator b v → first ≡ b.value → items ≡ v.items → Tree.Logic operator
    (expr_of first) (operands_of items) ≡ expr_of x
logical_is x operator b v first items f g h = ap (λ y. Tree.Logic operator (expr_of y) (operands_of items)) g
    ∙ ap (λ l. Tree.Logic operator (expr_of b.value) (operands_of l)) h ∙ sym
    (ap expr_of f ∙ lemma.expr_of_Logic operator b v)

pub logical_runs : (setup : Setup) (n : ℕ) (c : m.Context) (w : m.World) (x : Expr) (operator : BooleanOperator)
    (b : Box Expr Global) (v : Vec Expr Global) (first : Expr) (items : List Expr) (result : Result Value Halt)
    (u : World) (d : ℕ) → x ≡ Logic operator b v → first ≡ b.value → items ≡ v.items → Runs value_of
    (e.value (caller setup n) (Tree.Logic operator (expr_of first) (operands_of items)) c w) (d - 1)
    (levels setup n (max (expr_height (expr_of first)) (operands_height (operands_of items)))) result u → Runs value_of
    (e.value (caller setup n) (expr_of x) c w) d (levels setup n (expr_height (expr_of x))) result u
logical_runs setup n c w x operator b v first items result u d f g h runs =
    subst (λ (y : Tree.Expr). Runs value_of (e.value (caller setup n) y c w) d (levels setup n (expr_height y)) result
    u) (logical_is x operator b v first items f g h)
    (runs_deeper value_of (e.value (caller setup n) (Tree.Logic operator (expr_of first) (operands_of items)) c w)
    result u (d - 1) (levels setup n (max (expr_height (expr_of first)) (operands_height (operands_of items)))) d
    (levels setup n (suc (max (expr_height (expr_of first)) (operands_height (operands_of items))))) runs
    (omega arith))

combination_is : (x : SetExpr) (b : Box SetExpr Global) (v : Vec SetStep Global) (first : SetExpr)
    (items : List SetStep) → x ≡ Combine b v → first ≡ b.value → items ≡ v.items → Tree.Combine (set_of first)
    (set_steps_of items) ≡ set_of x
combination_is x b v first items f g h = ap (λ y. Tree.Combine (set_of y) (set_steps_of items)) g
    ∙ ap (λ l. Tree.Combine (set_of b.value) (set_steps_of l)) h ∙ sym (ap set_of f ∙ lemma.set_of_Combine b v)

pub combination_runs : (setup : Setup) (n : ℕ) (c : m.Context) (w : m.World) (x : SetExpr) (b : Box SetExpr Global)
    (v : Vec SetStep Global) (first : SetExpr) (items : List SetStep) (result : Result (Vec Bool Global) Halt)
    (u : World) (d : ℕ) → x ≡ Combine b v → first ≡ b.value → items ≡ v.items → Runs members_of_set
    (e.set_value (caller setup n) (Tree.Combine (set_of first) (set_steps_of items)) c w) (d - 1)
    (levels setup n (max (set_height (set_of first)) (set_steps_height (set_steps_of items)))) result u
    → Runs members_of_set (e.set_value (caller setup n) (set_of x) c w) d (levels setup n (set_height (set_of x)))
    result u
combination_runs setup n c w x b v first items result u d f g h runs =
    subst (λ (y : Tree.SetExpr). Runs members_of_set (e.set_value (caller setup n) y c w) d
    (levels setup n (set_height y)) result u) (combination_is x b v first items f g h)
    (runs_deeper members_of_set (e.set_value (caller setup n) (Tree.Combine (set_of first) (set_steps_of items)) c w)
    result u (d - 1) (levels setup n (max (set_height (set_of first)) (set_steps_height (set_steps_of items)))) d
    (levels setup n (suc (max (set_height (set_of first)) (set_steps_height (set_steps_of items))))) runs
    (omega arith))

-- an operand whose variable is accessed, read again
contents_is : (x : Structure) (b : Box PlaceInTree Global) (ty : Ty) (place : PlaceInTree) → x ≡ Contents b ty → place
    ≡ b.value → Tree.Contents (place_of place) (type_of ty) ≡ structure_of x
contents_is x b ty place f g = ap (λ p. Tree.Contents (place_of p) (type_of ty)) g ∙ sym
    (ap structure_of f ∙ lemma.structure_of_Contents b ty)

pub contents_halt : (setup : Setup) (n : ℕ) (c : m.Context) (w : m.World) (x : Structure) (b : Box PlaceInTree Global)
    (ty : Ty) (place : PlaceInTree) (halt : Halt) (u : World) (d : ℕ) → x ≡ Contents b ty → place ≡ b.value → Halted
    (e.access (caller setup n) (place_of place) c w) d (levels setup n (place_height (place_of place))) halt u → Halted
    (e.operand (caller setup n) (structure_of x) c w) d (levels setup n (structure_height (structure_of x))) halt u
contents_halt setup n c w x b ty place halt u d f g h =
    subst (λ (y : Tree.Structure). Halted (e.operand (caller setup n) y c w) d (levels setup n (structure_height y))
    halt u) (contents_is x b ty place f g) (halted_then (e.access (caller setup n) (place_of place) c w)
    (λ s. m.give (e.HeldSpot s)) halt u d (levels setup n (place_height (place_of place))) d
    (levels setup n (place_height (place_of place))) h (omega arith))

pub contents_gives : (setup : Setup) (n : ℕ) (c : m.Context) (w u : m.World) (x : Structure)
    (b : Box PlaceInTree Global)
    (ty : Ty) (place : PlaceInTree) (spot : Spot) → x ≡ Contents b ty → place ≡ b.value → e.access (caller setup n)
    (place_of place) c w ≡ m.Gives (spot_of spot) u → e.operand (caller setup n) (structure_of x) c w ≡ m.Gives
    (held_of (Place spot)) u
unfolding held_of
contents_gives setup n c w u x b ty place spot f g gives =
    ap (λ (y : Tree.Structure). e.operand (caller setup n) y c w) (sym (contents_is x b ty place f g)) ∙ then_gives
    (e.access (caller setup n) (place_of place) c w) (λ s. m.give (e.HeldSpot s)) (spot_of spot) u gives
