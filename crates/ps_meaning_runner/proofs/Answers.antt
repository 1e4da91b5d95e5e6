-- Acts, one after another.
use Rattle.std.proofs.Common.{◌≡◌, ℕ, suc, ◌+◌, ◌-◌, Vec, Global, ◌<◌, ◌≤◌, Bool, ◌||◌, List, [], ◌∷◌, ◌++◌, length}
use Rattle.std.proofs.Common.{get_or, max, drop, Result, Ok, Err, refl, sym, ap, subst, ◌∙◌, append_assoc, append-nil}
use Rattle.std.proofs.Common.{true, false, arith}
use Rattle.std.specs.Prelude.{IsErrAnd}
use Rattle.std.proofs.Math.Bool.{or-false}
use mathlib.Core.Path.{fun_ext}
use Rattle.ps_tree.specs.declared.tree.operators.SetOperator.TheVariants.{Union}
use Rattle.ps_tree.specs.declared.tree.Member.{Member}
use Rattle.ps_tree.specs.declared.tree.Argument.{Argument}
use Rattle.ps_tree.specs.Tree as t
use Rattle.ps_tree.specs.declared.line.Line.{Line}
use Rattle.ps_tree.specs.declared.tree.Expr.{Expr, Call, CallFormal}
use Rattle.ps_tree.specs.View.{expr_of, member_of, members_of, argument_of, arguments_of}
use Rattle.behavior.specs.Endings.{Ending, More}
use Rattle.ps_meaning.specs.Operators.{combine_sets}
use Rattle.ps_meaning.specs.Worlds as m
use Rattle.ps_meaning.specs.Expressions as e
use Rattle.ps_meaning_runner.specs.declared.world.Setup.{Setup}
use Rattle.ps_meaning_runner.specs.declared.world.World.{World}
use Rattle.ps_meaning_runner.specs.declared.value.Value.{Value}
use Rattle.ps_meaning_runner.specs.View.{listed, value_of}
use Rattle.ps_meaning_runner.specs.Worlds.{Answers, Stopped, caller, ends, world_of}
use Rattle.ps_meaning_runner.specs.declared.stop.Halt.{Halt}
use Rattle.ps_meaning_runner.specs.declared.stop.Halt.TheVariants.{Ended, OutOfMemory, TooDeep}
use Rattle.ps_meaning_runner.specs.Heights.{expr_height, member_height, members_height, argument_height}
use Rattle.ps_meaning_runner.specs.Heights.{arguments_height}
use Rattle.ps_meaning_runner.specs.Runs.{Halted, Runs, levels}
use Rattle.ps_meaning_runner.proofs.Heights.{member_within, argument_within}
use Rattle.ps_meaning_runner.proofs.Trees.{call_is, call_formal_is, members_at, members_past, arguments_at}
use Rattle.ps_meaning_runner.proofs.Trees.{arguments_past}

pub stopped_then : {A B : Type 0} (a : m.Answer A) (f : A → m.Act B) (stop : Halt) (w : World) → Stopped a stop w
    → Stopped (m.and_then a f) stop w
stopped_then a f (Ended ending calls) w h = ap (λ x. m.and_then x f) h
stopped_then a f OutOfMemory w h = tt
stopped_then a f TooDeep w h = h

as_end : {A : Type 0} → m.Answer m.Done → m.Answer A
as_end (m.Gives d w) = m.Ends [] More
as_end (m.Ends out ending) = m.Ends out ending

-- an answer that ends the run as a stop says
pub stops : {A : Type 0} (answer : m.Answer A) (ending : Ending) (stop : Halt) (w : World) → Stopped
    (ends ending (world_of w)) stop w → answer ≡ m.Ends w.transcript.items ending → Stopped answer stop w
unfolding as_end
stops answer ending (Ended e calls) w h is = is ∙ ap as_end h
stops answer ending OutOfMemory w h is = tt
stops answer ending TooDeep w h is = h

-- where a part goes no further, the whole goes no further, and needs no fewer levels than the part's way down to it
pub halted_by : {A B : Type 0} (a : m.Answer A) (b : m.Answer B) (halt : Halt) (w : World) (d k e n : ℕ)
    → ((stop : Halt) → Stopped a stop w → Stopped b stop w) → Halted a d k halt w → e + k ≤ d + n → Halted b e n halt w
halted_by a b (Ended ending calls) w d k e n f h le = f (Ended ending calls) h
halted_by a b OutOfMemory w d k e n f h le = tt
halted_by a b TooDeep w d k e n f h le = let lt : d < k = h in omega arith

pub halted_then : {A B : Type 0} (a : m.Answer A) (f : A → m.Act B) (halt : Halt) (w : World) (d k e n : ℕ)
    → Halted a d k halt w → e + k ≤ d + n → Halted (m.and_then a f) e n halt w
halted_then a f halt w d k e n h le = halted_by a (m.and_then a f) halt w d k e n (λ stop. stopped_then a f stop w) h le

-- what ends a part that takes no levels ends it
pub stopped_halts : {A : Type 0} (a : m.Answer A) (halt : Halt) (w : World) (d n : ℕ) → Stopped a halt w
    → Halted a d n halt w
stopped_halts a (Ended ending calls) w d n h = h
stopped_halts a OutOfMemory w d n h = tt
stopped_halts a TooDeep w d n h = absurd h

-- and ends the whole
pub stopped_halts_then : {A B : Type 0} (a : m.Answer A) (f : A → m.Act B) (halt : Halt) (w : World) (d n : ℕ)
    → Stopped a halt w → Halted (m.and_then a f) d n halt w
stopped_halts_then a f halt w d n h = stopped_halts (m.and_then a f) halt w d n (stopped_then a f halt w h)

-- an end that is passed on
pub handed_on : {A R : Type 0} (view : R → A) (a : m.Answer A) (result : Result R Halt) (halt : Halt) (w : World)
    (d n : ℕ) → IsErrAnd result (λ other. other ≡ halt) → Halted a d n halt w → Runs view a d n result w
handed_on view a (Ok r) halt w d n is h = absurd is
handed_on view a (Err other) halt w d n is h = subst (λ (k : Halt). Halted a d n k w) (sym is) h

-- a part that is the only one, or one of two or of three
pub halted_alone : {A B : Type 0} (setup : Setup) (n : ℕ) (a : m.Answer A) (f : A → m.Act B) (halt : Halt) (w : World)
    (d k : ℕ) → Halted a d (levels setup n k) halt w → Halted (m.and_then a f) d (levels setup n k) halt w
halted_alone setup n a f halt w d k is = halted_then a f halt w d (levels setup n k) d (levels setup n k) is
    (omega arith)

pub halted_left : {A B : Type 0} (setup : Setup) (n : ℕ) (a : m.Answer A) (f : A → m.Act B) (halt : Halt) (w : World)
    (d k g : ℕ) → Halted a d (levels setup n k) halt w → Halted (m.and_then a f) d (levels setup n (max k g)) halt w
halted_left setup n a f halt w d k g is = halted_then a f halt w d (levels setup n k) d (levels setup n (max k g)) is
    (omega arith)

pub halted_right : {A B : Type 0} (setup : Setup) (n : ℕ) (a : m.Answer A) (f : A → m.Act B) (halt : Halt) (w : World)
    (d k g : ℕ) → Halted a d (levels setup n k) halt w → Halted (m.and_then a f) d (levels setup n (max g k)) halt w
halted_right setup n a f halt w d k g is = halted_then a f halt w d (levels setup n k) d (levels setup n (max g k)) is
    (omega arith)

pub halted_middle : {A B : Type 0} (setup : Setup) (n : ℕ) (a : m.Answer A) (f : A → m.Act B) (halt : Halt) (w : World)
    (d k g h : ℕ) → Halted a d (levels setup n k) halt w → Halted (m.and_then a f) d
    (levels setup n (max g (max k h))) halt w
halted_middle setup n a f halt w d k g h is = halted_then a f halt w d (levels setup n k) d
    (levels setup n (max g (max k h))) is (omega arith)

pub halted_last : {A B : Type 0} (setup : Setup) (n : ℕ) (a : m.Answer A) (f : A → m.Act B) (halt : Halt) (w : World)
    (d k g h : ℕ) → Halted a d (levels setup n k) halt w → Halted (m.and_then a f) d
    (levels setup n (max g (max h k))) halt w
halted_last setup n a f halt w d k g h is = halted_then a f halt w d (levels setup n k) d
    (levels setup n (max g (max h k))) is (omega arith)

-- what a part that takes no levels answers
pub answers_run : {A R : Type 0} (view : R → A) (a : m.Answer A) (result : Result R Halt) (w : World) (d n : ℕ)
    → Answers view a result w → Runs view a d n result w
answers_run view a (Ok r) w d n h = h
answers_run view a (Err halt) w d n h = stopped_halts a halt w d n h

pub runs_deeper : {A R : Type 0} (view : R → A) (a : m.Answer A) (result : Result R Halt) (w : World) (d k e n : ℕ)
    → Runs view a d k result w → e + k ≤ d + n → Runs view a e n result w
runs_deeper view a (Ok r) w d k e n h le = h
runs_deeper view a (Err halt) w d k e n h le = halted_by a a halt w d k e n (λ stop s. s) h le

-- the members of a set constructor from a place on, after those that were taken
unfoldable pub members_left : e.Caller → m.Context → List Member → ℕ → List Bool → m.World → m.Answer (ℕ → Bool)
members_left call c members i tests w = m.and_then (e.members_value call (members_of (drop i members)) c w)
    (λ s. m.give (combine_sets Union (listed tests) s))

members_none : (a : m.Answer (ℕ → Bool)) → m.and_then a (λ s. m.give (combine_sets Union (listed []) s)) ≡ a
members_none (m.Gives s w) = refl
members_none (m.Ends out ending) = refl

pub members_start : (call : e.Caller) (c : m.Context) (members : List Member) (w : m.World)
    → members_left call c members 0 [] w ≡ e.members_value call (members_of members) c w
unfolding members_left
members_start call c members w = members_none (e.members_value call (members_of members) c w)

or_assoc : (a b c : Bool) → (a || (b || c)) ≡ ((a || b) || c)
or_assoc true b c = refl
or_assoc false b c = refl

members_more : (s t : ℕ → Bool) (a : m.Answer (ℕ → Bool)) → m.and_then
    (m.and_then a (λ y. m.give (combine_sets Union t y))) (λ y. m.give (combine_sets Union s y)) ≡ m.and_then a
    (λ y. m.give (combine_sets Union (combine_sets Union s t) y))
members_more s t (m.Gives y w) = ap (λ z. m.Gives z w) (fun_ext (λ k. or_assoc (s k) (t k) (y k)))
members_more s t (m.Ends out ending) = refl

pub members_next : (call : e.Caller) (c : m.Context) (members : List Member) (i : ℕ) (tests more both : List Bool)
    (x : Member) (w v : m.World) → i < length members → x ≡ get_or members i x → e.member_value call (member_of x) c w
    ≡ m.Gives (listed more) v → listed both ≡ combine_sets Union (listed tests) (listed more)
    → members_left call c members (i + 1) both v ≡ members_left call c members i tests w
unfolding members_left
members_next call c members i tests more both x w v lt at gives is =
    let rest = members_of (drop (i + 1) members) in
    sym (ap (λ t. m.and_then (e.members_value call t c w) (λ s. m.give (combine_sets Union (listed tests) s)))
    (members_at members i x lt at) ∙ ap (λ a. m.and_then
    (m.and_then a (λ y u. m.and_then (e.members_value call rest c u) (λ z. m.give (combine_sets Union y z))))
    (λ s. m.give (combine_sets Union (listed tests) s))) gives ∙ members_more (listed tests) (listed more)
    (e.members_value call rest c v) ∙ ap (λ s. m.and_then (e.members_value call rest c v)
    (λ y. m.give (combine_sets Union s y))) (sym is))

members_stop : (call : e.Caller) (c : m.Context) (members : List Member) (i : ℕ) (tests : List Bool) (x : Member)
    (stop : Halt) (w : m.World) (v : World) (all : m.Answer (ℕ → Bool)) → members_left call c members i tests w ≡ all
    → Stopped (e.member_value call (member_of x) c w) stop v → x ≡ get_or members i x → i < length members
    → Stopped all stop v
unfolding members_left
members_stop call c members i tests x stop w v all is h at lt =
    subst (λ a. Stopped a stop v) (sym (ap (λ t. m.and_then (e.members_value call t c w)
    (λ s. m.give (combine_sets Union (listed tests) s))) (members_at members i x lt at)) ∙ is)
    (stopped_then (e.members_value call (t.member_before (member_of x) (members_of (drop (i + 1) members))) c w)
    (λ s. m.give (combine_sets Union (listed tests) s)) stop v
    (stopped_then (e.member_value call (member_of x) c w)
    (λ y u. m.and_then (e.members_value call (members_of (drop (i + 1) members)) c u)
    (λ z. m.give (combine_sets Union y z))) stop v h))

pub members_halt : (setup : Setup) (n : ℕ) (c : m.Context) (members : List Member) (i : ℕ) (tests : List Bool)
    (x : Member) (halt : Halt) (w : m.World) (v : World) (all : m.Answer (ℕ → Bool)) (d : ℕ) → members_left
    (caller setup n) c members i tests w ≡ all → Halted (e.member_value (caller setup n) (member_of x) c w) d
    (levels setup n (member_height (member_of x))) halt v → x ≡ get_or members i x → i < length members → Halted all d
    (levels setup n (members_height (members_of members))) halt v
members_halt setup n c members i tests x halt w v all d is h at lt =
    let le : member_height (member_of x) ≤ members_height (members_of members) = member_within members i x at lt in
    halted_by (e.member_value (caller setup n) (member_of x) c w) all halt v d
    (levels setup n (member_height (member_of x))) d (levels setup n (members_height (members_of members)))
    (λ stop s. members_stop (caller setup n) c members i tests x stop w v all is s at lt) h (omega arith)

pub members_end : (call : e.Caller) (c : m.Context) (members : List Member) (i : ℕ) (tests : List Bool) (w : m.World)
    → length members ≤ i → members_left call c members i tests w ≡ m.Gives (listed tests) w
unfolding members_left
members_end call c members i tests w le =
    ap (λ t. m.and_then (e.members_value call t c w) (λ s. m.give (combine_sets Union (listed tests) s)))
    (members_past members i le) ∙ ap (λ s. m.Gives s w) (fun_ext (λ k. or-false (listed tests k)))

-- the actual parameters from a place on, after those that were taken
unfoldable pub actuals_left : e.Caller → m.Context → List Argument → ℕ → List e.Actual → m.World → m.Answer
    (List e.Actual)
actuals_left call c arguments i taken w = m.and_then (e.actuals_of call (arguments_of (drop i arguments)) c w)
    (λ xs. m.give (taken ++ xs))

actuals_none : (a : m.Answer (List e.Actual)) → m.and_then a (λ xs. m.give ([] ++ xs)) ≡ a
actuals_none (m.Gives xs w) = refl
actuals_none (m.Ends out ending) = refl

pub actuals_start : (call : e.Caller) (c : m.Context) (arguments : List Argument) (w : m.World)
    → actuals_left call c arguments 0 [] w ≡ e.actuals_of call (arguments_of arguments) c w
unfolding actuals_left
actuals_start call c arguments w = actuals_none (e.actuals_of call (arguments_of arguments) c w)

actuals_more : (taken : List e.Actual) (x : e.Actual) (a : m.Answer (List e.Actual)) → m.and_then
    (m.and_then a (λ xs. m.give (x ∷ xs))) (λ xs. m.give (taken ++ xs)) ≡ m.and_then a
    (λ xs. m.give ((taken ++ x ∷ []) ++ xs))
actuals_more taken x (m.Gives xs w) = ap (λ l. m.Gives l w) (sym (append_assoc taken (x ∷ []) xs))
actuals_more taken x (m.Ends out ending) = refl

pub actuals_next : (call : e.Caller) (c : m.Context) (arguments : List Argument) (i : ℕ) (taken both : List e.Actual)
    (x : Argument) (actual : e.Actual) (w v : m.World) → i < length arguments → x ≡ get_or arguments i x
    → e.actual_of call (argument_of x) c w ≡ m.Gives actual v → both ≡ taken ++ actual ∷ []
    → actuals_left call c arguments (i + 1) both v ≡ actuals_left call c arguments i taken w
unfolding actuals_left
actuals_next call c arguments i taken both x actual w v lt at gives is =
    let rest = arguments_of (drop (i + 1) arguments) in
    sym (ap (λ t. m.and_then (e.actuals_of call t c w) (λ xs. m.give (taken ++ xs))) (arguments_at arguments i x lt at)
    ∙ ap (λ a. m.and_then (m.and_then a (λ y u. m.and_then (e.actuals_of call rest c u) (λ ys. m.give (y ∷ ys))))
    (λ xs. m.give (taken ++ xs))) gives ∙ actuals_more taken actual (e.actuals_of call rest c v)
    ∙ ap (λ l. m.and_then (e.actuals_of call rest c v) (λ xs. m.give (l ++ xs))) (sym is))

actuals_stop : (call : e.Caller) (c : m.Context) (arguments : List Argument) (i : ℕ) (taken : List e.Actual)
    (x : Argument) (stop : Halt) (w : m.World) (v : World) (all : m.Answer (List e.Actual))
    → actuals_left call c arguments i taken w ≡ all → Stopped (e.actual_of call (argument_of x) c w) stop v → x
    ≡ get_or arguments i x → i < length arguments → Stopped all stop v
unfolding actuals_left
actuals_stop call c arguments i taken x stop w v all is h at lt =
    subst (λ a. Stopped a stop v) (sym (ap (λ t. m.and_then (e.actuals_of call t c w) (λ xs. m.give (taken ++ xs)))
    (arguments_at arguments i x lt at)) ∙ is)
    (stopped_then (e.actuals_of call (t.argument_before (argument_of x) (arguments_of (drop (i + 1) arguments))) c
    w) (λ xs. m.give (taken ++ xs)) stop v (stopped_then (e.actual_of call (argument_of x) c w)
    (λ y u. m.and_then (e.actuals_of call (arguments_of (drop (i + 1) arguments)) c u) (λ ys. m.give (y ∷ ys))) stop
    v h))

pub actuals_halt : (setup : Setup) (n : ℕ) (c : m.Context) (arguments : List Argument) (i : ℕ) (taken : List e.Actual)
    (x : Argument) (halt : Halt) (w : m.World) (v : World) (all : m.Answer (List e.Actual)) (d : ℕ) → actuals_left
    (caller setup n) c arguments i taken w ≡ all → Halted (e.actual_of (caller setup n) (argument_of x) c w) d
    (levels setup n (argument_height (argument_of x))) halt v → x ≡ get_or arguments i x → i < length arguments
    → Halted all d (levels setup n (arguments_height (arguments_of arguments))) halt v
actuals_halt setup n c arguments i taken x halt w v all d is h at lt =
    let le : argument_height (argument_of x) ≤ arguments_height
    (arguments_of arguments) = argument_within arguments i x at lt in
    halted_by (e.actual_of (caller setup n) (argument_of x) c w) all halt v d
    (levels setup n (argument_height (argument_of x))) d (levels setup n (arguments_height (arguments_of arguments)))
    (λ stop s. actuals_stop (caller setup n) c arguments i taken x stop w v all is s at lt) h (omega arith)

pub actuals_end : (call : e.Caller) (c : m.Context) (arguments : List Argument) (i : ℕ) (taken : List e.Actual)
    (w : m.World) → length arguments ≤ i → actuals_left call c arguments i taken w ≡ m.Gives taken w
unfolding actuals_left
actuals_end call c arguments i taken w le =
    ap (λ t. m.and_then (e.actuals_of call t c w) (λ xs. m.give (taken ++ xs))) (arguments_past arguments i le)
    ∙ ap (λ l. m.Gives l w) (append-nil taken)

-- calls of functions, read again
pub call_runs : (setup : Setup) (n : ℕ) (c : m.Context) (w : m.World) (x : Expr) (routine up : ℕ)
    (v : Vec Argument Global)
    (line : Line) (items : List Argument) (result : Result Value Halt) (u : World) (d : ℕ) → x ≡ Call routine up v line
    → items ≡ v.items → Runs value_of
    (e.value (caller setup n) (t.Call routine up (arguments_of items) line.number) c w)
    (d - 1) (levels setup n (arguments_height (arguments_of items))) result u → Runs value_of
    (e.value (caller setup n) (expr_of x) c w) d (levels setup n (expr_height (expr_of x))) result u
call_runs setup n c w x routine up v line items result u d is at h =
    let called : t.Expr = t.Call routine up (arguments_of items) line.number in
    subst (λ (y : t.Expr). Runs value_of (e.value (caller setup n) y c w) d (levels setup n (expr_height y)) result u)
    (call_is x routine up v line items is at)
    (runs_deeper value_of (e.value (caller setup n) called c w) result u (d - 1)
    (levels setup n (arguments_height (arguments_of items))) d
    (levels setup n (suc (arguments_height (arguments_of items)))) h (omega arith))

pub call_formal_runs : (setup : Setup) (n : ℕ) (c : m.Context) (w : m.World) (x : Expr) (up index : ℕ)
    (v : Vec Argument Global) (line : Line) (items : List Argument) (result : Result Value Halt) (u : World) (d : ℕ) → x
    ≡ CallFormal up index v line → items ≡ v.items → Runs value_of
    (e.value (caller setup n) (t.CallFormal up index (arguments_of items) line.number) c w) (d - 1)
    (levels setup n (arguments_height (arguments_of items))) result u → Runs value_of
    (e.value (caller setup n) (expr_of x) c w) d (levels setup n (expr_height (expr_of x))) result u
call_formal_runs setup n c w x up index v line items result u d is at h =
    let called : t.Expr = t.CallFormal up index (arguments_of items) line.number in
    subst (λ (y : t.Expr). Runs value_of (e.value (caller setup n) y c w) d (levels setup n (expr_height y)) result u)
    (call_formal_is x up index v line items is at)
    (runs_deeper value_of (e.value (caller setup n) called c w) result u (d - 1)
    (levels setup n (arguments_height (arguments_of items))) d
    (levels setup n (suc (arguments_height (arguments_of items)))) h (omega arith))
