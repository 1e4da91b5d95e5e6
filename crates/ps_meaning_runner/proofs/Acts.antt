-- Statements, loops and lists of them.
use Rattle.std.proofs.Common.{◌≡◌, ℕ, ℤ, suc, ◌+◌, ◌<◌, ◌≤◌, true, false, if◌then◌else◌, ◌-◌, max, arith, List, ◌∷◌}
use Rattle.std.proofs.Common.{length, get_or, drop, map, Result, Vec, Global, refl, sym, ap, subst, ◌∙◌}
use Rattle.std.proofs.lemmas.List.{drop_all}
use Rattle.behavior.specs.Endings.{failed}
use Rattle.ps_tree.specs.Tree as t
use Rattle.ps_tree.specs.declared.tree.operators.Range.TheVariants.{Within as WithinBounds}
use Rattle.ps_tree.specs.declared.line.Line.{Line}
use Rattle.ps_tree.specs.declared.tree.Expr.{Expr}
use Rattle.ps_tree.specs.declared.tree.statements.Statement.{Statement, Case}
use Rattle.ps_tree.specs.declared.tree.statements.CaseElement.{CaseElement, out-CaseElement}
use Rattle.ps_tree.specs.declared.tree.Place.{Place}
use Rattle.ps_tree.specs.declared.tree.statements.ReadVariable.{ReadVariable}
use Rattle.ps_tree.specs.declared.tree.statements.WriteParameter.{WriteParameter}
use Rattle.ps_tree.specs.View.{place_of, expr_of, statement_of, statements_of, elements_of, read_of, write_of}
use Rattle.ps_meaning.specs.Values as v
use Rattle.ps_meaning.specs.Operators.{is_among}
use Rattle.ps_meaning.specs.Worlds as m
use Rattle.ps_meaning.specs.Expressions as e
use Rattle.ps_meaning.specs.Statements as s
use Rattle.ps_meaning_runner.specs.declared.value.Value.{Value}
use Rattle.ps_meaning_runner.specs.declared.world.Setup.{Setup}
use Rattle.ps_meaning_runner.specs.declared.world.World.{World}
use Rattle.ps_meaning_runner.specs.Worlds as r
use Rattle.ps_meaning_runner.specs.Worlds.{Stopped, caller, world_of, acting, acting_all, selecting, reading}
use Rattle.ps_meaning_runner.specs.Worlds.{reading_all, writing, writing_all, opening_all}
use Rattle.ps_meaning_runner.specs.declared.stop.Halt.{Halt}
use Rattle.ps_meaning_runner.specs.Heights.{place_height, expr_height, statement_height, statements_height}
use Rattle.ps_meaning_runner.specs.Heights.{elements_height, places_height, read_height, reads_height, write_height}
use Rattle.ps_meaning_runner.specs.Heights.{writes_height}
use Rattle.ps_meaning_runner.specs.Runs.{Halted, Runs, levels}
use Rattle.ps_meaning_runner.proofs.Heights.{statement_within, read_within, write_within, place_within}
use Rattle.ps_meaning_runner.proofs.Answers.{stopped_then, stopped_halts, halted_by, halted_then, answers_run}
use Rattle.ps_meaning_runner.proofs.Answers.{runs_deeper}
use Rattle.ps_meaning_runner.proofs.Trees.{case_is, drop_next, statements_at, statements_past, elements_at}
use Rattle.ps_meaning_runner.proofs.Trees.{elements_past}

-- an answer that is known, followed by an act
pub then_gives : {A B : Type 0} (a : m.Answer A) (f : A → m.Act B) (x : A) (w : m.World) → a ≡ m.Gives x w
    → m.and_then a f ≡ f x w
then_gives a f x w gives = ap (λ y. m.and_then y f) gives

pub stopped_same : {A : Type 0} (a b : m.Answer A) (stop : Halt) (u : World) → a ≡ b → Stopped a stop u
    → Stopped b stop u
stopped_same a b stop u is h = subst (λ x. Stopped x stop u) is h

pub halts_same : {A : Type 0} (a b : m.Answer A) (halt : Halt) (u : World) (d n : ℕ) → a ≡ b → Stopped a halt u
    → Halted b d n halt u
halts_same a b halt u d n is h = stopped_halts b halt u d n (stopped_same a b halt u is h)

pub runs_same : {A R : Type 0} (view : R → A) (a b : m.Answer A) (result : Result R Halt) (u : World) (d k n : ℕ) → a
    ≡ b → k ≤ n → Runs view a d k result u → Runs view b d n result u
runs_same view a b result u d k n is le h = runs_deeper view b result u d k d n
    (subst (λ x. Runs view x d k result u) is h) (omega arith)

-- an act whose first part is known is what comes after it
pub then_ran : {A B R : Type 0} (view : R → B) (a : m.Answer A) (f : A → m.Act B) (x : A) (w : m.World)
    (result : Result R Halt) (u : World) (d n : ℕ) → a ≡ m.Gives x w → Runs view (f x w) d n result u → Runs view
    (m.and_then a f) d n result u
then_ran view a f x w result u d n gives h = subst (λ b. Runs view b d n result u) (sym (then_gives a f x w gives)) h

pub then_runs : {A B R : Type 0} (view : R → B) (a : m.Answer A) (f : A → m.Act B) (x : A) (w : m.World)
    (result : Result R Halt) (u : World) (d n : ℕ) → a ≡ m.Gives x w → r.Answers view (f x w) result u → Runs view
    (m.and_then a f) d n result u
then_runs view a f x w result u d n gives h = then_ran view a f x w result u d n gives
    (answers_run view (f x w) result u d n h)

-- statements from a place on
pub acts_next : (setup : Setup) (n : ℕ) (c : m.Context) (statements : List Statement) (i : ℕ) (x : Statement)
    (w u : m.World) → acting setup n (statement_of x) c w ≡ m.Gives m.done u → x ≡ get_or statements i x
    → i < length statements → acting_all setup n (statements_of (drop (i + 1) statements)) c u ≡ acting_all setup n
    (statements_of (drop i statements)) c w
acts_next setup n c statements i x w u gives at lt =
    sym (ap (λ l. acting_all setup n l c w) (statements_at statements i x lt at)
    ∙ ap (λ a. m.and_then a (λ _. acting_all setup n (statements_of (drop (i + 1) statements)) c)) gives)

acts_stop : (setup : Setup) (n : ℕ) (c : m.Context) (statements : List Statement) (i : ℕ) (x : Statement) (stop : Halt)
    (w : m.World) (u : World) (all : m.Answer m.Done) → acting_all setup n (statements_of (drop i statements)) c w ≡ all
    → Stopped (acting setup n (statement_of x) c w) stop u → x ≡ get_or statements i x → i < length statements
    → Stopped all stop u
acts_stop setup n c statements i x stop w u all is h at lt =
    stopped_same _ all stop u (sym (ap (λ l. acting_all setup n l c w) (statements_at statements i x lt at)) ∙ is)
    (stopped_then (acting setup n (statement_of x) c w)
    (λ _. acting_all setup n (statements_of (drop (i + 1) statements)) c) stop u h)

pub acts_halt : (setup : Setup) (n : ℕ) (c : m.Context) (statements : List Statement) (i : ℕ) (x : Statement)
    (halt : Halt)
    (w : m.World) (u : World) (all : m.Answer m.Done) (d : ℕ)
    → acting_all setup n (statements_of (drop i statements)) c w
    ≡ all → Halted (acting setup n (statement_of x) c w) d (levels setup n (statement_height (statement_of x))) halt u
    → x ≡ get_or statements i x → i < length statements → Halted all d
    (levels setup n (statements_height (statements_of statements))) halt u
acts_halt setup n c statements i x halt w u all d is h at lt =
    let le : statement_height (statement_of x) ≤ statements_height
    (statements_of statements) = statement_within statements i x at lt in
    halted_by (acting setup n (statement_of x) c w) all halt u d (levels setup n (statement_height (statement_of x))) d
    (levels setup n (statements_height (statements_of statements)))
    (λ stop s. acts_stop setup n c statements i x stop w u all is s at lt) h (omega arith)

pub acts_end : (setup : Setup) (n : ℕ) (c : m.Context) (statements : List Statement) (i : ℕ) (w : m.World)
    → length statements ≤ i → acting_all setup n (statements_of (drop i statements)) c w ≡ m.Gives m.done w
acts_end setup n c statements i w le = ap (λ l. acting_all setup n l c w) (statements_past statements i le)

-- variables that are read, from a place on
pub reads_next : (setup : Setup) (n : ℕ) (c : m.Context) (xs : List ReadVariable) (i : ℕ) (x : ReadVariable)
    (w u : m.World)
    (all : m.Answer m.Done) → reading_all setup n (map read_of (drop i xs)) c w ≡ all → reading setup n (read_of x) c w
    ≡ m.Gives m.done u → x ≡ get_or xs i x → i < length xs
    → reading_all setup n (map read_of (drop (i + 1) xs)) c u ≡ all
reads_next setup n c xs i x w u all is gives at lt =
    sym (ap (λ l. reading_all setup n (map read_of l) c w) (drop_next xs i x lt at)
    ∙ ap (λ a. m.and_then a (λ _. reading_all setup n (map read_of (drop (i + 1) xs)) c)) gives) ∙ is

reads_stop : (setup : Setup) (n : ℕ) (c : m.Context) (xs : List ReadVariable) (i : ℕ) (x : ReadVariable) (stop : Halt)
    (w : m.World) (u : World) (all : m.Answer m.Done) → reading_all setup n (map read_of (drop i xs)) c w ≡ all
    → Stopped (reading setup n (read_of x) c w) stop u → x ≡ get_or xs i x → i < length xs → Stopped all stop u
reads_stop setup n c xs i x stop w u all is h at lt =
    stopped_same _ all stop u (sym (ap (λ l. reading_all setup n (map read_of l) c w) (drop_next xs i x lt at)) ∙ is)
    (stopped_then (reading setup n (read_of x) c w)
    (λ _. reading_all setup n (map read_of (drop (i + 1) xs)) c) stop u h)

pub reads_halt : (setup : Setup) (n : ℕ) (c : m.Context) (xs : List ReadVariable) (i : ℕ) (x : ReadVariable)
    (halt : Halt)
    (w : m.World) (u : World) (all : m.Answer m.Done) (d : ℕ) → reading_all setup n (map read_of (drop i xs)) c w ≡ all
    → Halted (reading setup n (read_of x) c w) d (levels setup n (read_height (read_of x))) halt u → x ≡ get_or xs i x
    → i < length xs → Halted all d (levels setup n (reads_height (map read_of xs))) halt u
reads_halt setup n c xs i x halt w u all d is h at lt =
    let le : read_height (read_of x) ≤ reads_height (map read_of xs) = read_within xs i x at lt in
    halted_by (reading setup n (read_of x) c w) all halt u d (levels setup n (read_height (read_of x))) d
    (levels setup n (reads_height (map read_of xs))) (λ stop s. reads_stop setup n c xs i x stop w u all is s at lt) h
    (omega arith)

pub reads_end : (setup : Setup) (n : ℕ) (c : m.Context) (xs : List ReadVariable) (i : ℕ) (w : m.World)
    (all : m.Answer m.Done) → reading_all setup n (map read_of (drop i xs)) c w ≡ all → length xs ≤ i → all
    ≡ m.Gives m.done w
reads_end setup n c xs i w all is le = sym is ∙ ap (λ l. reading_all setup n (map read_of l) c w) (drop_all i xs le)

-- parameters that are written, from a place on
pub writes_next : (setup : Setup) (n : ℕ) (c : m.Context) (xs : List WriteParameter) (i : ℕ) (x : WriteParameter)
    (w u : m.World) (all : m.Answer m.Done) → writing_all setup n (map write_of (drop i xs)) c w ≡ all → writing setup n
    (write_of x) c w ≡ m.Gives m.done u → x ≡ get_or xs i x → i < length xs → writing_all setup n
    (map write_of (drop (i + 1) xs)) c u ≡ all
writes_next setup n c xs i x w u all is gives at lt =
    sym (ap (λ l. writing_all setup n (map write_of l) c w) (drop_next xs i x lt at)
    ∙ ap (λ a. m.and_then a (λ _. writing_all setup n (map write_of (drop (i + 1) xs)) c)) gives) ∙ is

writes_stop : (setup : Setup) (n : ℕ) (c : m.Context) (xs : List WriteParameter) (i : ℕ) (x : WriteParameter)
    (stop : Halt)
    (w : m.World) (u : World) (all : m.Answer m.Done) → writing_all setup n (map write_of (drop i xs)) c w ≡ all
    → Stopped (writing setup n (write_of x) c w) stop u → x ≡ get_or xs i x → i < length xs → Stopped all stop u
writes_stop setup n c xs i x stop w u all is h at lt =
    stopped_same _ all stop u (sym (ap (λ l. writing_all setup n (map write_of l) c w) (drop_next xs i x lt at)) ∙ is)
    (stopped_then (writing setup n (write_of x) c w)
    (λ _. writing_all setup n (map write_of (drop (i + 1) xs)) c) stop u h)

pub writes_halt : (setup : Setup) (n : ℕ) (c : m.Context) (xs : List WriteParameter) (i : ℕ) (x : WriteParameter)
    (halt : Halt) (w : m.World) (u : World) (all : m.Answer m.Done) (d : ℕ) → writing_all setup n
    (map write_of (drop i xs)) c w ≡ all → Halted (writing setup n (write_of x) c w) d
    (levels setup n (write_height (write_of x))) halt u → x ≡ get_or xs i x → i < length xs → Halted all d
    (levels setup n (writes_height (map write_of xs))) halt u
writes_halt setup n c xs i x halt w u all d is h at lt =
    let le : write_height (write_of x) ≤ writes_height (map write_of xs) = write_within xs i x at lt in
    halted_by (writing setup n (write_of x) c w) all halt u d (levels setup n (write_height (write_of x))) d
    (levels setup n (writes_height (map write_of xs)))
    (λ stop s. writes_stop setup n c xs i x stop w u all is s at lt) h (omega arith)

pub writes_end : (setup : Setup) (n : ℕ) (c : m.Context) (xs : List WriteParameter) (i : ℕ) (w : m.World)
    (all : m.Answer m.Done) → writing_all setup n (map write_of (drop i xs)) c w ≡ all → length xs ≤ i → all
    ≡ m.Gives m.done w
writes_end setup n c xs i w all is le = sym is ∙ ap (λ l. writing_all setup n (map write_of l) c w) (drop_all i xs le)

-- records that are opened, from a place on
pub opening_next : (setup : Setup) (n : ℕ) (c d : m.Context) (xs : List Place) (i : ℕ) (x : Place) (spot : v.Spot)
    (w u : m.World) (all : m.Answer (List v.Spot)) → opening_all setup n (map place_of (drop i xs)) c w ≡ all → e.access
    (caller setup n) (place_of x) c w ≡ m.Gives spot u → d ≡ s.with_opened (spot ∷ c.opened) c → x ≡ get_or xs i x
    → i < length xs → opening_all setup n (map place_of (drop (i + 1) xs)) d u ≡ all
opening_next setup n c d xs i x spot w u all is gives within at lt =
    ap (λ k. opening_all setup n (map place_of (drop (i + 1) xs)) k u) within ∙ sym
    (ap (λ l. opening_all setup n (map place_of l) c w) (drop_next xs i x lt at)
    ∙ ap (λ a. m.and_then a (λ y. opening_all setup n (map place_of (drop (i + 1) xs))
    (s.with_opened (y ∷ c.opened) c))) gives) ∙ is

opening_stop : (setup : Setup) (n : ℕ) (c : m.Context) (xs : List Place) (i : ℕ) (x : Place) (stop : Halt) (w : m.World)
    (u : World) (all : m.Answer (List v.Spot)) → opening_all setup n (map place_of (drop i xs)) c w ≡ all → Stopped
    (e.access (caller setup n) (place_of x) c w) stop u → x ≡ get_or xs i x → i < length xs → Stopped all stop u
opening_stop setup n c xs i x stop w u all is h at lt =
    stopped_same _ all stop u (sym (ap (λ l. opening_all setup n (map place_of l) c w) (drop_next xs i x lt at)) ∙ is)
    (stopped_then (e.access (caller setup n) (place_of x) c w)
    (λ y. opening_all setup n (map place_of (drop (i + 1) xs)) (s.with_opened (y ∷ c.opened) c)) stop u h)

pub opening_halt : (setup : Setup) (n : ℕ) (c : m.Context) (xs : List Place) (i : ℕ) (x : Place) (halt : Halt)
    (w : m.World)
    (u : World) (all : m.Answer (List v.Spot)) (d : ℕ) → opening_all setup n (map place_of (drop i xs)) c w ≡ all
    → Halted
    (e.access (caller setup n) (place_of x) c w) d (levels setup n (place_height (place_of x))) halt u
    → x ≡ get_or xs i x → i < length xs → Halted all d (levels setup n (places_height (map place_of xs))) halt u
opening_halt setup n c xs i x halt w u all d is h at lt =
    let le : place_height (place_of x) ≤ places_height (map place_of xs) = place_within xs i x at lt in
    halted_by (e.access (caller setup n) (place_of x) c w) all halt u d (levels setup n (place_height (place_of x))) d
    (levels setup n (places_height (map place_of xs)))
    (λ stop s. opening_stop setup n c xs i x stop w u all is s at lt) h (omega arith)

pub opening_end : (setup : Setup) (n : ℕ) (c : m.Context) (xs : List Place) (i : ℕ) (w : m.World)
    (all : m.Answer (List v.Spot)) → opening_all setup n (map place_of (drop i xs)) c w ≡ all → length xs ≤ i → all
    ≡ m.Gives c.opened w
opening_end setup n c xs i w all is le = sym is ∙ ap (λ l. opening_all setup n (map place_of l) c w) (drop_all i xs le)

-- a with statement whose next record is not accessed
pub with_halt : (setup : Setup) (n : ℕ) (body : t.Statement) (whole c : m.Context) (xs : List Place) (i : ℕ) (x : Place)
    (halt : Halt) (v w : m.World) (u : World) (d : ℕ) → opening_all setup n (map place_of (drop i xs)) c w
    ≡ opening_all setup n (map place_of xs) whole v → Halted (e.access (caller setup n) (place_of x) c w) d
    (levels setup n (place_height (place_of x))) halt u → x ≡ get_or xs i x → i < length xs → Halted
    (acting setup n (t.With (map place_of xs) body) whole v) d
    (levels setup n (max (places_height (map place_of xs)) (statement_height body))) halt u
with_halt setup n body whole c xs i x halt v w u d is h at lt =
    halted_then (opening_all setup n (map place_of xs) whole v)
    (λ opened. acting setup n body (s.with_opened opened whole)) halt u d
    (levels setup n (places_height (map place_of xs))) d
    (levels setup n (max (places_height (map place_of xs)) (statement_height body)))
    (opening_halt setup n c xs i x halt w u (opening_all setup n (map place_of xs) whole v) d is h at lt) (omega arith)

-- acts one after another are one act after another
then_then : {A B C : Type 0} (a : m.Answer A) (f : A → m.Act B) (g : B → m.Act C) → m.and_then (m.and_then a f) g
    ≡ m.and_then a (λ x u. m.and_then (f x u) g)
then_then (m.Gives x u) f g = refl
then_then (m.Ends out ending) f g = refl

then_thrice : {A B C D : Type 0} (a : m.Answer A) (f : A → m.Act B) (g : B → m.Act C) (h : C → m.Act D) → m.and_then
    (m.and_then a (λ x u. m.and_then (f x u) g)) h ≡ m.and_then a
    (λ x u. m.and_then (f x u) (λ y z. m.and_then (g y z) h))
then_thrice (m.Gives x u) f g h = then_then (f x u) g h
then_thrice (m.Ends out ending) f g h = refl

-- an integer is read, and stored in a variable that was accessed
integer_after : (a : m.Answer v.Spot) (low high : ℤ) (line : ℕ) (c : m.Context) → m.and_then a
    (λ k. r.integer_into k low high line c) ≡ m.and_then a
    (λ k u. m.and_then (s.scan u) (λ found y. m.and_then (s.integer_found found line c y)
    (λ x z. m.and_then (e.fitting (WithinBounds low high) x line c z) (m.put k))))
integer_after (m.Gives k u) low high line c = then_thrice (s.scan u) (λ found. s.integer_found found line c)
    (λ x. e.fitting (WithinBounds low high) x line c) (m.put k)
integer_after (m.Ends out ending) low high line c = refl

-- a variable that is read: its place is accessed, then it is read into
read_is : (setup : Setup) (n : ℕ) (c : m.Context) (x : t.ReadVariable) (w : m.World) → m.and_then
    (e.access (caller setup n) (r.place_read x) c w) (λ k. r.reading_into x k c) ≡ reading setup n x c w
read_is setup n c (t.ReadChar p low high line) w = refl
read_is setup n c (t.ReadInteger p low high line) w = integer_after (e.access (caller setup n) p c w) low high line c

read_is_high : (x : t.ReadVariable) → place_height (r.place_read x) ≡ read_height x
read_is_high (t.ReadChar p low high line) = refl
read_is_high (t.ReadInteger p low high line) = refl

-- once it is accessed
read_at : (setup : Setup) (n : ℕ) (c : m.Context) (x : t.ReadVariable) (p : t.Place) (spot : v.Spot) (w u : m.World) → p
    ≡ r.place_read x → e.access (caller setup n) p c w ≡ m.Gives spot u
    → r.reading_into x spot c u ≡ reading setup n x c w
read_at setup n c x p spot w u is gives = sym
    (ap (λ a. m.and_then a (λ k. r.reading_into x k c)) (ap (λ q. e.access (caller setup n) q c w) (sym is) ∙ gives))
    ∙ read_is setup n c x w

pub read_done : (setup : Setup) (n : ℕ) (c : m.Context) (x : t.ReadVariable) (p : t.Place) (spot : v.Spot)
    (w u z : m.World)
    → p ≡ r.place_read x → e.access (caller setup n) p c w ≡ m.Gives spot u
    → r.reading_into x spot c u ≡ m.Gives m.done z → reading setup n x c w ≡ m.Gives m.done z
read_done setup n c x p spot w u z is gives did = sym (read_at setup n c x p spot w u is gives) ∙ did

pub reads_halt_at : (setup : Setup) (n : ℕ) (c : m.Context) (xs : List ReadVariable) (i : ℕ) (x : ReadVariable)
    (p : t.Place) (halt : Halt) (w : m.World) (u : World) (all : m.Answer m.Done) (d : ℕ) → reading_all setup n
    (map read_of (drop i xs)) c w ≡ all → p ≡ r.place_read (read_of x) → Halted (e.access (caller setup n) p c w) d
    (levels setup n (place_height p)) halt u → x ≡ get_or xs i x → i < length xs → Halted all d
    (levels setup n (reads_height (map read_of xs))) halt u
reads_halt_at setup n c xs i x p halt w u all d is place h at lt =
    let high : place_height p ≡ read_height (read_of x) = ap place_height place ∙ read_is_high (read_of x) in
    let one : Halted (m.and_then (e.access (caller setup n) p c w) (λ k. r.reading_into (read_of x) k c)) d
    (levels setup n (read_height (read_of x))) halt u = halted_then (e.access (caller setup n) p c w)
    (λ k. r.reading_into (read_of x) k c) halt u d (levels setup n (place_height p)) d
    (levels setup n (read_height (read_of x))) h (omega arith) in
    reads_halt setup n c xs i x halt w u all d is
    (subst (λ a. Halted a d (levels setup n (read_height (read_of x))) halt u)
    (ap (λ q. m.and_then (e.access (caller setup n) q c w) (λ k. r.reading_into (read_of x) k c)) place
    ∙ read_is setup n c (read_of x) w) one) at lt

pub reads_halt_into : (setup : Setup) (n : ℕ) (c : m.Context) (xs : List ReadVariable) (i : ℕ) (x : ReadVariable)
    (p : t.Place) (spot : v.Spot) (halt : Halt) (w z : m.World) (u : World) (all : m.Answer m.Done) (d : ℕ)
    → reading_all setup n (map read_of (drop i xs)) c w ≡ all → p ≡ r.place_read (read_of x) → e.access
    (caller setup n) p c w ≡ m.Gives spot z → Stopped (r.reading_into (read_of x) spot c z) halt u → x ≡ get_or xs i x
    → i < length xs → Halted all d (levels setup n (reads_height (map read_of xs))) halt u
reads_halt_into setup n c xs i x p spot halt w z u all d is place gives h at lt =
    reads_halt setup n c xs i x halt w u all d is
    (halts_same (r.reading_into (read_of x) spot c z) (reading setup n (read_of x) c w) halt u d
    (levels setup n (read_height (read_of x))) (read_at setup n c (read_of x) p spot w z place gives) h) at lt

-- what is selected of elements of a case statement is what is selected of others
abbrev pub SelectsAs : (elements others : t.Elements) → ℤ → Type 0
SelectsAs elements others k = (setup : Setup) (n line : ℕ) (c : m.Context) (w : m.World)
    → selecting setup n elements k line c w ≡ selecting setup n others k line c w

-- the elements of a case statement, from a place on
pub selects : (setup : Setup) (n : ℕ) (c : m.Context) (xs : List CaseElement) (i : ℕ) (x : CaseElement) (k : ℤ)
    (line : ℕ)
    (w : m.World) (all : m.Answer m.Done) → selecting setup n (elements_of (drop i xs)) k line c w ≡ all → is_among k
    (out-CaseElement x).constants.items ≡ true → x ≡ get_or xs i x → i < length xs → acting setup n
    (statement_of (out-CaseElement x).body) c w ≡ all
selects setup n c xs i x k line w all is among at lt =
    sym (ap (λ l. selecting setup n l k line c w) (elements_at xs i x lt at)
    ∙ ap (λ b. (if b then acting setup n (statement_of (out-CaseElement x).body) c else selecting setup n
    (elements_of (drop (i + 1) xs)) k line c) w) among) ∙ is

pub selects_next : (setup : Setup) (n : ℕ) (c : m.Context) (xs : List CaseElement) (i : ℕ) (x : CaseElement) (k : ℤ)
    (line : ℕ) (w : m.World) (all : m.Answer m.Done) → selecting setup n (elements_of (drop i xs)) k line c w ≡ all
    → is_among k (out-CaseElement x).constants.items ≡ false → x ≡ get_or xs i x → i < length xs → selecting setup n
    (elements_of (drop (i + 1) xs)) k line c w ≡ all
selects_next setup n c xs i x k line w all is among at lt =
    sym (ap (λ l. selecting setup n l k line c w) (elements_at xs i x lt at)
    ∙ ap (λ b. (if b then acting setup n (statement_of (out-CaseElement x).body) c else selecting setup n
    (elements_of (drop (i + 1) xs)) k line c) w) among) ∙ is

pub selects_none : (setup : Setup) (n : ℕ) (c : m.Context) (xs : List CaseElement) (i : ℕ) (k : ℤ) (line : ℕ)
    (w : m.World)
    (all : m.Answer m.Done) → selecting setup n (elements_of (drop i xs)) k line c w ≡ all → length xs ≤ i → all
    ≡ m.Ends w.transcript (failed 7 line c.calls)
selects_none setup n c xs i k line w all is le = sym is
    ∙ ap (λ l. selecting setup n l k line c w) (elements_past xs i le)

-- a case statement whose element is known, and one that has none
pub case_chosen : (setup : Setup) (n : ℕ) (index : t.Expr) (elements : t.Elements) (line : ℕ) (c : m.Context)
    (x : v.Value) (body : t.Statement) (w u : m.World) (result : Result (Unit {0}) Halt) (z : World) (d : ℕ) → e.value
    (caller setup n) index c w ≡ m.Gives x u
    → selecting setup n elements (v.number_of x) line c u ≡ acting setup n body c u
    → statement_height body ≤ elements_height elements → Runs r.done_of (acting setup n body c u) d
    (levels setup n (statement_height body)) result z
    → Runs r.done_of (acting setup n (t.Case index elements line) c w) d
    (levels setup n (max (expr_height index) (elements_height elements))) result z
case_chosen setup n index elements line c x body w u result z d gives chosen low h =
    runs_same r.done_of _ _ result z d (levels setup n (statement_height body))
    (levels setup n (max (expr_height index) (elements_height elements)))
    (sym (then_gives (e.value (caller setup n) index c w)
    (λ y. selecting setup n elements (v.number_of y) line c) x u gives ∙ chosen)) (omega arith) h

pub case_none : (setup : Setup) (n : ℕ) (index : t.Expr) (elements : t.Elements) (line : ℕ) (c : m.Context)
    (x : v.Value)
    (w : m.World) (u : World) (halt : Halt) (d needed : ℕ) → e.value (caller setup n) index c w ≡ m.Gives x (world_of u)
    → selecting setup n elements (v.number_of x) line c (world_of u) ≡ m.fault 7 line c (world_of u) → Stopped
    (r.faults 7 line c (world_of u)) halt u → Halted (acting setup n (t.Case index elements line) c w) d needed halt u
case_none setup n index elements line c x w u halt d needed gives none h =
    halts_same _ _ halt u d needed (sym (then_gives (e.value (caller setup n) index c w)
    (λ y. selecting setup n elements (v.number_of y) line c) x (world_of u) gives ∙ none)) h

-- new
pub new_runs : (setup : Setup) (n : ℕ) (p : t.Place) (pointer line : ℕ) (c : m.Context) (spot : v.Spot) (w u : m.World)
    (result : Result (Unit {0}) Halt) (z : World) (depth needed : ℕ) → e.access (caller setup n) p c w ≡ m.Gives spot u
    → r.Answers r.done_of (r.putting_object setup n spot pointer line u) result z → Runs r.done_of
    (acting setup n (t.New p pointer line) c w) depth needed result z
new_runs setup n p pointer line c spot w u result z depth needed gives h =
    subst (λ a. Runs r.done_of a depth needed result z)
    (sym (then_gives (e.access (caller setup n) p c w)
    (λ i j. m.and_then (r.making setup n pointer line j) (m.put i)) spot u gives))
    (answers_run r.done_of (r.putting_object setup n spot pointer line u) result z depth needed h)

-- case and repeat statements, read again
pub case_runs : (setup : Setup) (n : ℕ) (c : m.Context) (w : m.World) (x : Statement) (index : Expr)
    (v : Vec CaseElement Global) (line : Line) (items : List CaseElement) (result : Result (Unit {0}) Halt) (u : World)
    (d : ℕ) → x ≡ Case index v line → items ≡ v.items → Runs r.done_of
    (acting setup n (t.Case (expr_of index) (elements_of items) line.number) c w) (d - 1)
    (levels setup n (max (expr_height (expr_of index)) (elements_height (elements_of items)))) result u → Runs r.done_of
    (acting setup n (statement_of x) c w) d (levels setup n (statement_height (statement_of x))) result u
case_runs setup n c w x index v line items result u d is at h =
    subst (λ (y : t.Statement). Runs r.done_of (acting setup n y c w) d (levels setup n (statement_height y)) result u)
    (case_is x index v line items is at) (runs_deeper r.done_of
    (acting setup n (t.Case (expr_of index) (elements_of items) line.number) c w) result u (d - 1)
    (levels setup n (max (expr_height (expr_of index)) (elements_height (elements_of items)))) d
    (levels setup n (suc (max (expr_height (expr_of index)) (elements_height (elements_of items))))) h (omega arith))

-- a with statement, once its records were opened
pub with_runs : (setup : Setup) (n : ℕ) (places : List t.Place) (body : t.Statement) (c d : m.Context)
    (spots : List v.Spot)
    (w u : m.World) (result : Result (Unit {0}) Halt) (z : World) (depth : ℕ) → opening_all setup n places c w
    ≡ m.Gives spots u → d ≡ s.with_opened spots c → Runs r.done_of (acting setup n body d u) depth
    (levels setup n (statement_height body)) result z → Runs r.done_of (acting setup n (t.With places body) c w) depth
    (levels setup n (max (places_height places) (statement_height body))) result z
with_runs setup n places body c d spots w u result z depth gives within h =
    let is : acting setup n body d u ≡ acting setup n (t.With places body) c w = ap (λ k. acting setup n body k u)
    within
    ∙ sym (then_gives (opening_all setup n places c w) (λ i. acting setup n body (s.with_opened i c)) spots u gives) in
    runs_same r.done_of _ _ result z depth (levels setup n (statement_height body))
    (levels setup n (max (places_height places) (statement_height body))) is (omega arith) h
