-- Environments and worlds.
use Rattle.std.proofs.Common.{◌+◌, ◌≡◌, ◌≢◌, ℕ, zero, suc, pos, ◌-◌, ◌<◌, ◌≤◌, Bool, true, false, List, [], ◌∷◌, ◌++◌}
use Rattle.std.proofs.Common.{length, get_or, set, take, map, nat_eq, if◌then◌else◌, Vec, Global, append_assoc, refl}
use Rattle.std.proofs.Common.{sym, ap, ◌∙◌, arith}
use mathlib.Core.Path.{fun_ext}
use Rattle.std.proofs.lemmas.List.{take_more}
use Rattle.std.proofs.lemmas.Bool.{eqb-true, eqb-false}
use Rattle.std.specs.declared.rc.Rc.{Rc}
use Rattle.ps_meaning.specs.Values as v
use Rattle.ps_meaning.specs.Worlds as m
use Rattle.ps_meaning_runner.specs.declared.value.Spot.{Spot}
use Rattle.ps_meaning_runner.specs.declared.value.Value.{Value, Ordinal}
use Rattle.ps_meaning_runner.specs.declared.world.Env.{Env, Outside, Within, Row_of-Entry, end_of-Entry, more_of-Entry}
use Rattle.ps_meaning_runner.specs.declared.world.Env.{items-the_row-Entry, items_hidden-the_row-Entry-0}
use Rattle.ps_meaning_runner.specs.declared.world.Entry.TheBlock.{hidden-the_row-Entry-0}
use Rattle.ps_meaning_runner.specs.declared.world.Entry.{Entry, Variable, Routine, Routine'}
use Rattle.ps_meaning_runner.specs.View.{value_of, spot_of}
use Rattle.ps_meaning_runner.specs.Worlds.{env_of, frame_of_row, entry_before, entries_of, entry_spot, entry_routine}
use Rattle.ps_meaning_runner.specs.Worlds.{entry_env, numbers_of, stored}
use Rattle.ps_meaning_runner.specs.declared.world.Numbers.{Numbers, Number}

frame_row_is : {n : _} (k : Row_of-Entry n) → frame_of_row k ≡ entries_of (items-the_row-Entry n k)
unfolding frame_of_row entries_of
frame_row_is end_of-Entry = refl
frame_row_is (more_of-Entry e rest) = ap (entry_before e) (frame_row_is rest)

pub env_of_Within : (frame : Vec Entry Global) (outer : Rc Env Global) → env_of (Within frame outer) ≡ m.Within
    (entries_of frame.items) (env_of outer.value)
unfolding env_of
env_of_Within frame outer = ap (λ f. m.Within f (env_of outer.value))
    (frame_row_is (hidden-the_row-Entry-0 frame) ∙ ap entries_of (items_hidden-the_row-Entry-0 frame))

spot_first : (x : Entry) (rest : m.Frame) → m.spot_in (entry_before x rest) 0 ≡ entry_spot x
unfolding entry_before entry_spot
spot_first (Variable s) rest = refl
spot_first (Routine' r p env) rest = refl

spot_further : (x : Entry) (rest : m.Frame) (i : ℕ) → m.spot_in (entry_before x rest) (suc i) ≡ m.spot_in rest i
unfolding entry_before
spot_further (Variable s) rest i = refl
spot_further (Routine' r p env) rest i = refl

pub spot_within : (entries : List Entry) (i : ℕ) (e : Entry) → i < length entries → e ≡ get_or entries i e → m.spot_in
    (entries_of entries) i ≡ entry_spot e
unfolding entries_of
spot_within [] i e lt at = absurd (omega arith)
spot_within (x ∷ rest) zero e lt at = spot_first x (entries_of rest) ∙ ap entry_spot (sym at)
spot_within (x ∷ rest) (suc i) e lt at = spot_further x (entries_of rest) i ∙ spot_within rest i e (omega arith) at

pub spot_past : (entries : List Entry) (i : ℕ) → length entries ≤ i → m.spot_in (entries_of entries) i ≡ m.no_spot
unfolding entries_of
spot_past [] i le = refl
spot_past (x ∷ rest) zero le = absurd (omega arith)
spot_past (x ∷ rest) (suc i) le = spot_further x (entries_of rest) i ∙ spot_past rest i (omega arith)

routine_first : (x : Entry) (rest : m.Frame) → m.routine_in (entry_before x rest) 0 ≡ entry_routine x
unfolding entry_before entry_routine
routine_first (Variable s) rest = refl
routine_first (Routine' r p env) rest = refl

routine_further : (x : Entry) (rest : m.Frame) (i : ℕ) → m.routine_in (entry_before x rest) (suc i)
    ≡ m.routine_in rest i
unfolding entry_before
routine_further (Variable s) rest i = refl
routine_further (Routine' r p env) rest i = refl

pub routine_within : (entries : List Entry) (i : ℕ) (e : Entry) → i < length entries → e ≡ get_or entries i e
    → m.routine_in (entries_of entries) i ≡ entry_routine e
unfolding entries_of
routine_within [] i e lt at = absurd (omega arith)
routine_within (x ∷ rest) zero e lt at = routine_first x (entries_of rest) ∙ ap entry_routine (sym at)
routine_within (x ∷ rest) (suc i) e lt at = routine_further x (entries_of rest) i ∙ routine_within rest i e
    (omega arith) at

pub routine_past : (entries : List Entry) (i : ℕ) → length entries ≤ i → m.routine_in (entries_of entries) i ≡ 0
unfolding entries_of
routine_past [] i le = refl
routine_past (x ∷ rest) zero le = absurd (omega arith)
routine_past (x ∷ rest) (suc i) le = routine_further x (entries_of rest) i ∙ routine_past rest i (omega arith)

env_first : (x : Entry) (rest : m.Frame) → m.env_in (entry_before x rest) 0 ≡ entry_env x
unfolding entry_before entry_env
env_first (Variable s) rest = refl
env_first (Routine' r p env) rest = refl

env_further : (x : Entry) (rest : m.Frame) (i : ℕ) → m.env_in (entry_before x rest) (suc i) ≡ m.env_in rest i
unfolding entry_before
env_further (Variable s) rest i = refl
env_further (Routine' r p env) rest i = refl

pub env_within : (entries : List Entry) (i : ℕ) (e : Entry) → i < length entries → e ≡ get_or entries i e → m.env_in
    (entries_of entries) i ≡ entry_env e
unfolding entries_of
env_within [] i e lt at = absurd (omega arith)
env_within (x ∷ rest) zero e lt at = env_first x (entries_of rest) ∙ ap entry_env (sym at)
env_within (x ∷ rest) (suc i) e lt at = env_further x (entries_of rest) i ∙ env_within rest i e (omega arith) at

pub env_past : (entries : List Entry) (i : ℕ) → length entries ≤ i → m.env_in (entries_of entries) i ≡ m.Outside
unfolding entries_of
env_past [] i le = refl
env_past (x ∷ rest) zero le = absurd (omega arith)
env_past (x ∷ rest) (suc i) le = env_further x (entries_of rest) i ∙ env_past rest i (omega arith)

pub spot_of_Routine : (routine : ℕ) (env : Rc Env Global) → entry_spot (Routine routine env) ≡ m.no_spot
unfolding entry_spot
spot_of_Routine routine env = refl

pub routine_of_Routine : (routine : ℕ) (env : Rc Env Global) → entry_routine (Routine routine env) ≡ routine
unfolding entry_routine
routine_of_Routine routine env = refl

pub env_of_Routine : (routine : ℕ) (env : Rc Env Global) → entry_env (Routine routine env) ≡ env_of env.value
unfolding entry_env
env_of_Routine routine env = refl

pub above_outside : (up : ℕ) → m.above m.Outside up ≡ m.Outside
above_outside zero = refl
above_outside (suc up) = refl

pub above_within : (frame : m.Frame) (env : m.Env) (up : ℕ) → up ≢ 0 → m.above (m.Within frame env) up ≡ m.above env
    (up - 1)
above_within frame env zero ne = absurd (ne refl)
above_within frame env (suc up) ne = ap (m.above env) (sym (sub-one up))
  where
    sub-one : (k : ℕ) → suc k - 1 ≡ k
    sub-one k = omega arith

pub frame_of_Outside : (env : Env) → env ≡ Outside → entries_of [] ≡ m.frame_of (env_of env)
unfolding entries_of env_of
frame_of_Outside env is = sym (ap (λ e. m.frame_of (env_of e)) is)

pub frame_of_Within : (env : Env) (frame : Vec Entry Global) (outer : Rc Env Global) → env ≡ Within frame outer
    → entries_of frame.items ≡ m.frame_of (env_of env)
frame_of_Within env frame outer is = sym (ap (λ e. m.frame_of (env_of e)) is ∙ ap m.frame_of
    (env_of_Within frame outer))

-- the store
pub stored_within : (values : List Value) (name : ℕ) (x : Value) → name < length values → x ≡ get_or values name x
    → stored values name ≡ value_of x
unfolding stored
stored_within [] name x lt at = absurd (omega arith)
stored_within (v ∷ rest) zero x lt at = ap value_of (sym at)
stored_within (v ∷ rest) (suc name) x lt at = stored_within rest name x (omega arith) at

pub stored_past : (values : List Value) (name : ℕ) → length values ≤ name → stored values name ≡ m.unset
unfolding stored
stored_past [] name le = refl
stored_past (v ∷ rest) zero le = absurd (omega arith)
stored_past (v ∷ rest) (suc name) le = stored_past rest name (omega arith)

unset_past : (values : List Value) (name : ℕ) → stored (values ++ Ordinal (pos 0) ∷ []) name ≡ stored values name
unfolding stored value_of
unset_past [] zero = refl
unset_past [] (suc name) = refl
unset_past (v ∷ rest) zero = refl
unset_past (v ∷ rest) (suc name) = unset_past rest name

pub stored_unset : (values : List Value) → stored (values ++ Ordinal (pos 0) ∷ []) ≡ stored values
stored_unset values = fun_ext (unset_past values)

pub numbers_of_Number : (first : ℕ) (rest : Rc Numbers Global) → numbers_of (Number first rest) ≡ first
    ∷ numbers_of rest.value
unfolding numbers_of
numbers_of_Number first rest = refl

set_set : (values : List Value) (n : ℕ) (hole x : Value) → set (set values n hole) n x ≡ set values n x
set_set [] n hole x = refl
set_set (v ∷ rest) zero hole x = refl
set_set (v ∷ rest) (suc n) hole x = ap (λ l. v ∷ l) (set_set rest n hole x)

stored_same : (values : List Value) (n : ℕ) (x : Value) → n < length values → stored (set values n x) n ≡ value_of x
unfolding stored
stored_same [] n x lt = absurd (omega arith)
stored_same (v ∷ rest) zero x lt = refl
stored_same (v ∷ rest) (suc n) x lt = stored_same rest n x (omega arith)

stored_other : (values : List Value) (n : ℕ) (x : Value) (k : ℕ) → k ≢ n → stored (set values n x) k ≡ stored values k
unfolding stored
stored_other [] n x k ne = refl
stored_other (v ∷ rest) zero x zero ne = absurd (ne refl)
stored_other (v ∷ rest) zero x (suc k) ne = refl
stored_other (v ∷ rest) (suc n) x zero ne = refl
stored_other (v ∷ rest) (suc n) x (suc k) ne = stored_other rest n x k (λ e. ne (ap suc e))

pub stored_set : (values : List Value) (n : ℕ) (x : Value) → n < length values → stored (set values n x) ≡ m.at_name
    (stored values) n (value_of x)
stored_set values n x lt = fun_ext (λ k. at k (nat_eq k n) refl)
  where
    at : (k : ℕ) (b : Bool) → nat_eq k n ≡ b → stored (set values n x) k ≡ m.at_name (stored values) n (value_of x) k
    at k true e = ap (stored (set values n x)) (eqb-true k n e) ∙ stored_same values n x lt ∙ sym
        (ap (λ b. if b then value_of x else stored values k) e)
    at k false e = stored_other values n x k (eqb-false k n e) ∙ sym
        (ap (λ b. if b then value_of x else stored values k) e)

-- a value was taken out of the store, and another put into its place
pub stored_put : (values : List Value) (n : ℕ) (old hole x : Value) (path : List ℕ) (y : v.Value) → n < length values
    → old ≡ get_or values n old → value_of x ≡ v.with_part (value_of old) path y → stored (set (set values n hole) n x)
    ≡ m.at_name (stored values) n (v.with_part (stored values n) path y)
stored_put values n old hole x path y lt at is =
    ap stored (set_set values n hole x) ∙ stored_set values n x lt ∙ ap (m.at_name (stored values) n)
    (is ∙ ap (λ z. v.with_part z path y) (sym (stored_within values n old lt at)))

-- objects
pub object_within : (values : List Value) (k : ℕ) (x : Value) → k < length values → x ≡ get_or values k x → get_or
    (map value_of values) k m.unset ≡ value_of x
object_within [] k x lt at = absurd (omega arith)
object_within (v ∷ rest) zero x lt at = ap value_of (sym at)
object_within (v ∷ rest) (suc k) x lt at = object_within rest k x (omega arith) at

pub object_past : (values : List Value) (k : ℕ) → length values ≤ k → get_or (map value_of values) k m.unset ≡ m.unset
object_past [] k le = refl
object_past (v ∷ rest) zero le = absurd (omega arith)
object_past (v ∷ rest) (suc k) le = object_past rest k (omega arith)

objects_twice : (values : List Value) (k : ℕ) (hole x : Value) → map value_of (set (set values k hole) k x) ≡ set
    (map value_of values) k (value_of x)
objects_twice [] k hole x = refl
objects_twice (v ∷ rest) zero hole x = refl
objects_twice (v ∷ rest) (suc k) hole x = ap (λ l. value_of v ∷ l) (objects_twice rest k hole x)

pub object_put : (values : List Value) (k : ℕ) (old hole x : Value) (path : List ℕ) (y : v.Value) → k < length values
    → old ≡ get_or values k old → value_of x ≡ v.with_part (value_of old) path y → map value_of
    (set (set values k hole) k x) ≡ set (map value_of values) k
    (v.with_part (get_or (map value_of values) k m.unset) path y)
object_put values k old hole x path y lt at is =
    objects_twice values k hole x ∙ ap (set (map value_of values) k)
    (is ∙ ap (λ z. v.with_part z path y) (sym (object_within values k old lt at)))

pub no_object_put : (values : List Value) (k : ℕ) (y : v.Value) → length values ≤ k → set (map value_of values) k y
    ≡ map value_of values
no_object_put [] k y le = refl
no_object_put (v ∷ rest) zero y le = absurd (omega arith)
no_object_put (v ∷ rest) (suc k) y le = ap (λ l. value_of v ∷ l) (no_object_put rest k y (omega arith))

-- opened records
pub opened_within : (spots : List Spot) (k : ℕ) (s : Spot) → k < length spots → s ≡ get_or spots k s → get_or
    (map spot_of spots) k m.no_spot ≡ spot_of s
opened_within [] k s lt at = absurd (omega arith)
opened_within (v ∷ rest) zero s lt at = ap spot_of (sym at)
opened_within (v ∷ rest) (suc k) s lt at = opened_within rest k s (omega arith) at

pub opened_past : (spots : List Spot) (k : ℕ) → length spots ≤ k → get_or (map spot_of spots) k m.no_spot ≡ m.no_spot
opened_past [] k le = refl
opened_past (v ∷ rest) zero le = absurd (omega arith)
opened_past (v ∷ rest) (suc k) le = opened_past rest k (omega arith)

spots_append : (spots : List Spot) (s : Spot) → map spot_of (spots ++ s ∷ []) ≡ map spot_of spots ++ spot_of s ∷ []
spots_append [] s = refl
spots_append (x ∷ rest) s = ap (λ l. spot_of x ∷ l) (spots_append rest s)

pub spots_next : (spots copies : List Spot) (i : ℕ) (copy item : Spot) → map spot_of copies ≡ map spot_of (take i spots)
    → spot_of copy ≡ spot_of item → item ≡ get_or spots i item → i < length spots → map spot_of (copies ++ copy ∷ [])
    ≡ map spot_of (take (i + 1) spots)
spots_next spots copies i copy item before same at lt =
    spots_append copies copy ∙ ap (λ l. l ++ spot_of copy ∷ []) before ∙ ap (λ s. map spot_of (take i spots) ++ s ∷ [])
    (same ∙ ap spot_of at) ∙ sym (spots_append (take i spots) (get_or spots i item)) ∙ ap (map spot_of)
    (sym (take_more spots i item lt))

-- one more byte is written
pub says_more : (w u : m.World) (bytes : List ℕ) (i byte : ℕ) → i < length bytes → byte ≡ get_or bytes i 0 → w
    ≡ m.says u (take i bytes) → m.says w (byte ∷ []) ≡ m.says u (take (i + 1) bytes)
says_more w u bytes i byte lt at is = ap (λ z. m.says z (byte ∷ [])) is
    ∙ ap (λ b. m.says (m.says u (take i bytes)) (b ∷ [])) at ∙ ap (λ l. record u { transcript = l })
    (append_assoc u.transcript (take i bytes) (get_or bytes i 0 ∷ []) ∙ ap (λ l. u.transcript ++ l)
    (sym (take_more bytes i 0 lt)))
