-- Parts that end with the test of an index or a member, once what comes before it is known.
use Rattle.std.proofs.Common.{◌≡◌, ℕ, ℤ, Vec, Bool, Global, Result, sym, ap, subst, ◌∙◌}
use Rattle.ps_tree.specs.Types.{DataType}
use Rattle.ps_tree.specs.declared.line.Line.{Line}
use Rattle.ps_tree.specs.declared.types.Ty.{Ty}
use Rattle.ps_tree.specs.declared.types.Ordinal.{Ordinal}
use Rattle.ps_tree.specs.declared.tree.Expr.{Expr}
use Rattle.ps_tree.specs.declared.tree.Member.{Member, Range}
use Rattle.ps_tree.specs.declared.tree.Selector.{Selector, Element}
use Rattle.ps_tree.specs.View.{expr_of, member_of, selector_of, type_of}
use Rattle.ps_meaning.specs.Values as v
use Rattle.ps_meaning.specs.Worlds as m
use Rattle.ps_meaning.specs.Expressions as e
use Rattle.ps_meaning.specs.Statements.{index_place}
use Rattle.ps_meaning_runner.specs.declared.value.Spot.{Spot}
use Rattle.ps_meaning_runner.specs.declared.stop.Halt.{Halt}
use Rattle.ps_meaning_runner.specs.declared.world.Setup.{Setup}
use Rattle.ps_meaning_runner.specs.declared.world.World.{World}
use Rattle.ps_meaning_runner.specs.View.{members_of_set, spot_of}
use Rattle.ps_meaning_runner.specs.Worlds.{Answers, Stopped, caller, done_of, packing, unpacking}
use Rattle.ps_meaning_runner.specs.Runs.{Runs}
use Rattle.ps_meaning_runner.proofs.Acts.{then_ran, then_runs}

-- the place of an index, by the numbers that were found
placed : {A : Type 0} (f : m.Answer ℕ → A) (array : DataType) (x : v.Value) (index : Ordinal) (number : ℤ) (line : ℕ)
    (c : m.Context) (w : m.World) → index ≡ e.index_of array → number ≡ v.number_of x
    → f (index_place index number line c w) ≡ f (index_place (e.index_of array) (v.number_of x) line c w)
placed f array x index number line c w is at = ap (λ i. f (index_place i number line c w)) is
    ∙ ap (λ k. f (index_place (e.index_of array) k line c w)) at

pub place_gives : (array : DataType) (x : v.Value) (index : Ordinal) (number : ℤ) (line : ℕ) (c : m.Context)
    (w : m.World) (answer : m.Answer ℕ) → index_place index number line c w ≡ answer → index ≡ e.index_of array
    → number ≡ v.number_of x → index_place (e.index_of array) (v.number_of x) line c w ≡ answer
place_gives array x index number line c w answer gives is at =
    sym (placed (λ a. a) array x index number line c w is at) ∙ gives

pub place_stops : (array : DataType) (x : v.Value) (index : Ordinal) (number : ℤ) (line : ℕ) (c : m.Context)
    (w : m.World) (halt : Halt) (u : World) → Stopped (index_place index number line c w) halt u
    → index ≡ e.index_of array → number ≡ v.number_of x
    → Stopped (index_place (e.index_of array) (v.number_of x) line c w) halt u
place_stops array x index number line c w halt u h is at =
    subst (λ a. Stopped a halt u) (placed (λ a. a) array x index number line c w is at) h

pub packs : (a z : v.Spot) (from to : DataType) (i j : Ordinal) (k line : ℕ) (c : m.Context) (w : m.World)
    (result : Result (Unit {0}) Halt) (u : World) → i ≡ e.index_of from → j ≡ e.index_of to
    → Answers done_of (packing a i k z j line c w) result u
    → Answers done_of (packing a (e.index_of from) k z (e.index_of to) line c w) result u
packs a z from to i j k line c w result u first second h =
    subst (λ x. Answers done_of (packing a x k z (e.index_of to) line c w) result u) first
    (subst (λ x. Answers done_of (packing a i k z x line c w) result u) second h)

pub unpacks : (z a : v.Spot) (from to : DataType) (i j : Ordinal) (k line : ℕ) (c : m.Context) (w : m.World)
    (result : Result (Unit {0}) Halt) (u : World) → i ≡ e.index_of from → j ≡ e.index_of to
    → Answers done_of (unpacking z i a j k line c w) result u
    → Answers done_of (unpacking z (e.index_of from) a (e.index_of to) k line c w) result u
unpacks z a from to i j k line c w result u first second h =
    subst (λ x. Answers done_of (unpacking z x a (e.index_of to) k line c w) result u) first
    (subst (λ x. Answers done_of (unpacking z i a x k line c w) result u) second h)

-- members from one value to another
pub range_runs : (setup : Setup) (n : ℕ) (c : m.Context) (member : Member) (from to : Expr) (line : Line)
    (x y : v.Value) (i j : ℤ) (w u s : m.World) (result : Result (Vec Bool Global) Halt) (r : World) (d needed : ℕ)
    → member ≡ Range from to line → e.value (caller setup n) (expr_of from) c w ≡ m.Gives x u
    → e.value (caller setup n) (expr_of to) c u ≡ m.Gives y s
    → Answers members_of_set (e.set_between i j line.number c s) result r → i ≡ v.number_of x → j ≡ v.number_of y
    → Runs members_of_set (e.member_value (caller setup n) (member_of member) c w) d needed result r
unfolding member_of
range_runs setup n c member from to line x y i j w u s result r d needed is first second h low high =
    let between : Answers members_of_set (e.set_between (v.number_of x) (v.number_of y) line.number c s) result r =
    subst (λ k. Answers members_of_set (e.set_between k (v.number_of y) line.number c s) result r) low
    (subst (λ k. Answers members_of_set (e.set_between i k line.number c s) result r) high h) in
    subst (λ k. Runs members_of_set (e.member_value (caller setup n) (member_of k) c w) d needed result r) (sym is)
    (then_ran members_of_set (e.value (caller setup n) (expr_of from) c w) _ x u result r d needed first
    (then_runs members_of_set (e.value (caller setup n) (expr_of to) c u) _ y s result r d needed second between))

-- a component of an array
pub element_runs : (setup : Setup) (n : ℕ) (c : m.Context) (selector : Selector) (ty : Ty) (index : Expr) (line : Line)
    (spot : v.Spot) (x : v.Value) (i : Ordinal) (number : ℤ) (w u : m.World) (result : Result Spot Halt) (r : World)
    (d needed : ℕ) → selector ≡ Element ty index line → e.value (caller setup n) (expr_of index) c w ≡ m.Gives x u
    → Answers spot_of (e.component_of spot i number line.number c u) result r → i ≡ e.index_of (type_of ty)
    → number ≡ v.number_of x
    → Runs spot_of (e.at_selector (caller setup n) (selector_of selector) spot c w) d needed result r
unfolding selector_of
element_runs setup n c selector ty index line spot x i number w u result r d needed is gives h indexed at =
    let found : Answers spot_of (e.component_of spot (e.index_of (type_of ty)) (v.number_of x) line.number c u) result r
    = subst (λ k. Answers spot_of (e.component_of spot k (v.number_of x) line.number c u) result r) indexed
    (subst (λ k. Answers spot_of (e.component_of spot i k line.number c u) result r) at h) in
    subst (λ k. Runs spot_of (e.at_selector (caller setup n) (selector_of k) spot c w) d needed result r) (sym is)
    (then_runs spot_of (e.value (caller setup n) (expr_of index) c w) _ x u result r d needed gives found)
