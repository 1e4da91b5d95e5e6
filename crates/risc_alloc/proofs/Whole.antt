-- Homes that fit each routine are a valid placement, and slots of their own are.
use Rattle.std.proofs.Common.{◌≡◌, ℕ, zero, suc, ◌+◌, ◌-◌, ◌<◌, ◌≤◌, ◌⊎◌, inl, inr, ⊎_elim, List, [], ◌∷◌, ◌++◌}
use Rattle.std.proofs.Common.{length, take, drop, slice_get, slice_range, Option, Some, None, refl, sym, ap, ◌∙◌}
use Rattle.std.proofs.Common.{subst, arith, add-one}
use Rattle.std.proofs.lemmas.Bool.{cases_lt}
use Rattle.std.proofs.lemmas.List.{length-append, append-nil, append_assoc}
use Rattle.std.proofs.lemmas.Option.{slice_get_within, same_Some}
use Rattle.tac_code.specs.declared.code.TacRoutine.{TacRoutine}
use Rattle.tac_code.specs.Meaning.{Code, routines, body_at, fetch}
use Rattle.tac_code.specs.Sound.{Each, IsSound, IsSoundRoutine, limits_of}
use Rattle.risc_alloc.specs.declared.homes.Home.{Home}
use Rattle.risc_alloc.specs.declared.homes.Home.TheVariants.{Slot, Reg}
use Rattle.risc_alloc.specs.Alive.{Alive, Used, Passed}
use Rattle.risc_alloc.specs.Homes.{all_temporaries, temporaries_in, temporaries_before, homes_of, home_of}
use Rattle.risc_alloc.specs.Valid.{Valid}
use Rattle.risc_alloc.specs.Fits.{Fits, RoutineFits}
use Rattle.risc_alloc.specs.Slots.{own_slots, every_slot, IsOwn, ReadsBelow}
use Rattle.risc_alloc.proofs.Slots.{reads_below, own_fits, own_length, own_slots_are}

-- ---- routines of sound code

of_each : {X : Type 0} (P : X → Type 0) (xs ys : List X) (n : ℕ) (x : X) → Each (λ _ y. P y) xs → Each (λ _ y. P y) ys
    → slice_get (xs ++ ys) n ≡ Some x → P x
of_each P [] ys n x h k e = k n x e
of_each P (y ∷ xs) ys zero x h k e = h 0 x e
of_each P (y ∷ xs) ys (suc n) x h k e = of_each P xs ys n x (λ i z f. h (suc i) z f) k e

pub routine_reads : (code : Code) (r : ℕ) (routine : TacRoutine) → IsSound code → slice_get (routines code) r
    ≡ Some routine → ReadsBelow routine.temporaries routine.body
routine_reads code r routine s e =
    reads_below code routine (of_each (λ x. IsSoundRoutine (limits_of code x) x) code.program code.run_time r routine
    s.program s.run_time e)

-- ---- from routines to the whole

parameters_in : Option TacRoutine → ℕ
parameters_in None = 0
parameters_in (Some routine) = routine.parameters

none_alive : (place u : ℕ) → Alive (λ (j : ℕ). None) place u → ⊥
none_alive place u (Used p v e) = cc
none_alive place u (Passed p next v l n rest) = none_alive next v rest

-- a routine that does not exist has no temporaries
any_fits : (o : Option TacRoutine) (rest : List Home)
    → ((routine : TacRoutine) → o ≡ Some routine → RoutineFits routine (take (temporaries_in o) rest)) → Fits
    (λ place. body_at o place) (parameters_in o) (take (temporaries_in o) rest)
unfolding parameters_in
any_fits None rest f = record {
  slot = λ t j e. absurd (cc);
  register = λ t q e. let same : Reg 0 ≡ Reg q = e in let eq : q ≡ 0 = cc in omega arith;
  apart = λ place t u at au ne. absurd (none_alive place t at);
  written = λ place next t u l w a ne. absurd (none_alive next u a);
  called = λ place t u c a ne. absurd (none_alive place u a);
  entered = λ t u lt a ne. absurd (none_alive 0 u a);
}
any_fits (Some routine) rest f = f routine refl

take_short : (n : ℕ) (xs : List Home) → length (take n xs) ≤ n
take_short zero xs = omega arith
take_short (suc n) [] = omega arith
take_short (suc n) (x ∷ xs) = let rest : length (take n xs) ≤ n = take_short n xs in omega arith

parameters_are : (o : Option TacRoutine) (routine : TacRoutine) → o ≡ Some routine → parameters_in o
    ≡ routine.parameters
unfolding parameters_in
parameters_are None routine e = absurd (cc)
parameters_are (Some x) routine e = let same : x ≡ routine = same_Some x routine e
    in ap (λ (y : TacRoutine). y.parameters) same

module _ (code : Code) (homes : List Home)
    (each : (r : ℕ) (routine : TacRoutine) → slice_get (routines code) r ≡ Some routine
    → RoutineFits routine (homes_of code homes r)) where
  at : (r : ℕ) → Fits (fetch code r) (parameters_in (slice_get (routines code) r)) (homes_of code homes r)
  at r = any_fits (slice_get (routines code) r) (drop (temporaries_before (routines code) r) homes) (each r)

  slot_within : (r t j : ℕ) → home_of code homes r t ≡ Slot j → j < temporaries_in (slice_get (routines code) r)
  slot_within r t j e =
      let within : j < length (homes_of code homes r) = (at r).slot t j e in
      let short : length (homes_of code homes r) ≤ temporaries_in (slice_get (routines code) r) = take_short
      (temporaries_in (slice_get (routines code) r)) (drop (temporaries_before (routines code) r) homes) in
      omega arith

  pub valid_of : length homes ≡ all_temporaries code → Valid code homes
  valid_of count = record {
    count = count;
    slot = slot_within;
    register = λ r t q e. (at r).register t q e;
    apart = λ r place t u at_t at_u ne. (at r).apart place t u at_t at_u ne;
    written = λ r place next t u l w a ne. (at r).written place next t u l w a ne;
    called = λ r place t u c a ne. (at r).called place t u c a ne;
    entered = λ r t u routine e lt a ne. (at r).entered t u
        (subst (λ (n : ℕ). t < n) (sym (parameters_are (slice_get (routines code) r) routine e)) lt) a ne;
  }

-- ---- the temporaries before a routine

pub before_more : (rs : List TacRoutine) (r : ℕ) (x : TacRoutine) → slice_get rs r ≡ Some x → temporaries_before rs
    (r + 1) ≡ temporaries_before rs r + x.temporaries
before_more rs r x e = rw (add-one r) (go rs r x e)
  where
    first : (rs : List TacRoutine) → temporaries_before rs zero ≡ 0
    first [] = refl
    first (y ∷ rest) = refl

    go : (rs : List TacRoutine) (r : ℕ) (x : TacRoutine) → slice_get rs r ≡ Some x → temporaries_before rs (suc r)
        ≡ temporaries_before rs r + x.temporaries
    go [] r x e = absurd (cc)
    go (y ∷ rest) zero x e =
        let same : y.temporaries ≡ x.temporaries = ap (λ (z : TacRoutine). z.temporaries) (same_Some y x e)
        in let none : temporaries_before rest zero ≡ 0 = first rest in omega arith
    go (y ∷ rest) (suc r) x e =
        let more : temporaries_before rest (suc r) ≡ temporaries_before rest r + x.temporaries = go rest r x e
        in omega arith

pub before_within : (rs : List TacRoutine) (r : ℕ) (x : TacRoutine) → slice_get rs r ≡ Some x → temporaries_before rs r
    + x.temporaries ≤ temporaries_before rs (length rs)
before_within [] r x e = absurd (cc)
before_within (y ∷ rest) zero x e =
    let same : y.temporaries ≡ x.temporaries = ap (λ (z : TacRoutine). z.temporaries) (same_Some y x e) in omega arith
before_within (y ∷ rest) (suc r) x e =
    let more : temporaries_before rest r + x.temporaries ≤ temporaries_before rest
    (length rest) = before_within rest r x e in omega arith

-- ---- slots of their own, of all routines

pub every_length : (rs : List TacRoutine) → length (every_slot rs) ≡ temporaries_before rs (length rs)
every_length [] = refl
every_length (y ∷ rest) =
    let more : length (every_slot rest) ≡ temporaries_before rest (length rest) = every_length rest in
    let own : length (own_slots y.temporaries) ≡ y.temporaries = own_length y.temporaries in
    let both = length-append (own_slots y.temporaries) (every_slot rest) in
    omega arith

take_here : (xs ys : List Home) (n : ℕ) → n ≡ length xs → take n (xs ++ ys) ≡ xs
take_here [] ys zero e = refl
take_here [] ys (suc n) e = absurd (omega arith)
take_here (x ∷ xs) ys zero e = absurd (omega arith)
take_here (x ∷ xs) ys (suc n) e =
    let less : n ≡ length xs = omega arith in ap (λ (l : List Home). x ∷ l) (take_here xs ys n less)

drop_past : (xs ys : List Home) (n m : ℕ) → n ≡ length xs → drop (n + m) (xs ++ ys) ≡ drop m ys
drop_past [] ys n m e = let same : n + m ≡ m = omega arith in ap (λ (j : ℕ). drop j ys) same
drop_past (x ∷ xs) ys zero m e = absurd (omega arith)
drop_past (x ∷ xs) ys (suc n) m e =
    let less : n ≡ length xs = omega arith in let next : suc n + m ≡ suc (n + m) = omega arith in
    ap (λ (j : ℕ). drop j (x ∷ (xs ++ ys))) next ∙ drop_past xs ys n m less

pub every_part : (rs : List TacRoutine) (r : ℕ) (x : TacRoutine) → slice_get rs r ≡ Some x → take x.temporaries
    (drop (temporaries_before rs r) (every_slot rs)) ≡ own_slots x.temporaries
every_part [] r x e = absurd (cc)
every_part (y ∷ rest) zero x e =
    let same : y ≡ x = same_Some y x e in
    subst (λ (z : TacRoutine). take z.temporaries (own_slots y.temporaries ++ every_slot rest)
    ≡ own_slots z.temporaries) same (take_here (own_slots y.temporaries) (every_slot rest) y.temporaries
    (sym (own_length y.temporaries)))
every_part (y ∷ rest) (suc r) x e =
    ap (λ (l : List Home). take x.temporaries l)
    (drop_past (own_slots y.temporaries) (every_slot rest) y.temporaries (temporaries_before rest r)
    (sym (own_length y.temporaries))) ∙ every_part rest r x e

pub part_own : (rs : List TacRoutine) (homes : List Home) (r : ℕ) (x : TacRoutine) → homes ≡ every_slot rs
    → slice_get rs r ≡ Some x → IsOwn (take x.temporaries (drop (temporaries_before rs r) homes))
part_own rs homes r x all e =
    subst (λ (l : List Home). IsOwn (take x.temporaries (drop (temporaries_before rs r) l))) (sym all)
    (subst IsOwn (sym (every_part rs r x e)) (own_slots_are x.temporaries))

pub homes_part : (code : Code) (homes : List Home) (r : ℕ) (x : TacRoutine) → slice_get (routines code) r ≡ Some x
    → homes_of code homes r ≡ take x.temporaries (drop (temporaries_before (routines code) r) homes)
homes_part code homes r x e =
    ap (λ (o : Option TacRoutine). take (temporaries_in o) (drop (temporaries_before (routines code) r) homes)) e

pub every_slot_valid : (code : Code) (homes : List Home) → IsSound code → homes ≡ every_slot (routines code)
    → Valid code homes
every_slot_valid code homes sound all =
    valid_of code homes each (ap length all ∙ every_length (routines code))
  where
    each : (r : ℕ) (routine : TacRoutine) → slice_get (routines code) r ≡ Some routine → RoutineFits routine
        (homes_of code homes r)
    each r routine e =
        let part : homes_of code homes r ≡ own_slots routine.temporaries = homes_part code homes r routine e
        ∙ ap (λ (l : List Home). take routine.temporaries (drop (temporaries_before (routines code) r) l)) all
        ∙ every_part (routines code) r routine e in
        let count : routine.temporaries ≡ length (homes_of code homes r) = sym
        (ap length part ∙ own_length routine.temporaries) in
        let below : ReadsBelow (length (homes_of code homes r)) routine.body = subst
        (λ (n : ℕ). ReadsBelow n routine.body) count (routine_reads code r routine sound e) in
        own_fits routine.body (homes_of code homes r) below
        (subst IsOwn (sym part) (own_slots_are routine.temporaries)) routine.parameters

-- ---- the list of slots as it grows

pub every_more : (rs : List TacRoutine) (r : ℕ) (x : TacRoutine) → slice_get rs r ≡ Some x → every_slot
    (take (r + 1) rs) ≡ every_slot (take r rs) ++ own_slots x.temporaries
every_more rs r x e = rw (add-one r) (go rs r x e)
  where
    go : (rs : List TacRoutine) (r : ℕ) (x : TacRoutine) → slice_get rs r ≡ Some x → every_slot (take (suc r) rs)
        ≡ every_slot (take r rs) ++ own_slots x.temporaries
    go [] r x e = absurd (cc)
    go (y ∷ rest) zero x e =
        append-nil (own_slots y.temporaries) ∙ ap (λ (z : TacRoutine). own_slots z.temporaries) (same_Some y x e)
    go (y ∷ rest) (suc r) x e =
        ap (λ (l : List Home). own_slots y.temporaries ++ l) (go rest r x e) ∙ sym
        (append_assoc (own_slots y.temporaries) (every_slot (take r rest)) (own_slots x.temporaries))

pub take_all : {X : Type 0} (xs : List X) (n : ℕ) → length xs ≤ n → take n xs ≡ xs
take_all [] zero le = refl
take_all [] (suc n) le = refl
take_all (x ∷ xs) zero le = absurd (omega arith)
take_all {X} (x ∷ xs) (suc n) le =
    let less : length xs ≤ n = omega arith in ap (λ (l : List X). x ∷ l) (take_all xs n less)

-- ---- the test, one routine after another

pub record Placed (code : Code) (homes : List Home) (r from : ℕ) : Type 0 where
  pub here : from ≡ temporaries_before (routines code) r
  pub within : from ≤ length homes
  pub each : (q : ℕ) (routine : TacRoutine) → q < r → slice_get (routines code) q ≡ Some routine → RoutineFits routine
      (homes_of code homes q)

pub placed_none : (code : Code) (homes : List Home) → Placed code homes 0 0
placed_none code homes = record {
  here = sym (first (routines code));
  within = omega arith;
  each = λ q routine lt e. absurd (omega arith);
}
  where
    first : (rs : List TacRoutine) → temporaries_before rs 0 ≡ 0
    first [] = refl
    first (y ∷ rest) = refl

pub placed_more : (code : Code) (homes : List Home) (r from : ℕ) (x : TacRoutine) → Placed code homes r from → slice_get
    (routines code) r ≡ Some x → from + x.temporaries ≤ length homes → RoutineFits x
    (take x.temporaries (drop from homes)) → Placed code homes (r + 1) (from + x.temporaries)
placed_more code homes r from x p e within fits = record {
  here = ap (λ (n : ℕ). n + x.temporaries) p.here ∙ sym (before_more (routines code) r x e);
  within = within;
  each = λ q routine lt f. one q routine f (⊎_elim (λ (below : q < r). inl below)
      (λ (above : r ≤ q). let at : q ≡ r = omega arith in inr at) (cases_lt q r));
}
  where
    one : (q : ℕ) (routine : TacRoutine) → slice_get (routines code) q ≡ Some routine → (q < r) ⊎ (q ≡ r)
        → RoutineFits routine (homes_of code homes q)
    one q routine f (inl below) = p.each q routine below f
    one q routine f (inr at) =
        let there : slice_get (routines code) r ≡ Some routine = subst
        (λ (j : ℕ). slice_get (routines code) j ≡ Some routine) at f in
        let same : x ≡ routine = same_Some x routine (sym e ∙ there) in
        let part : take x.temporaries (drop from homes)
        ≡ homes_of code homes r = ap (λ (n : ℕ). take x.temporaries (drop n homes)) p.here ∙ sym
        (homes_part code homes r x e) in
        subst (λ (j : ℕ). RoutineFits routine (homes_of code homes j)) (sym at)
        (subst (λ (z : TacRoutine). RoutineFits z (homes_of code homes r)) same (subst (RoutineFits x) part fits))

pub placed_all : (code : Code) (homes : List Home) (from : ℕ) → Placed code homes (length (routines code)) from → from
    ≡ length homes → Valid code homes
placed_all code homes from p all =
    valid_of code homes (λ r routine e. p.each r routine (slice_get_within (routines code) r routine e) e)
    (sym all ∙ p.here)

-- ---- what the test's refusals and acceptances say

range_take : (homes : List Home) (from n : ℕ) → slice_range homes from (from + n) ≡ take n (drop from homes)
range_take homes from n = let e : from + n - from ≡ n = omega arith in ap (λ (j : ℕ). take j (drop from homes)) e

pub placed_next : (code : Code) (homes : List Home) (r from : ℕ) (x : TacRoutine) → Placed code homes r from → slice_get
    (routines code) r ≡ Some x → from + x.temporaries ≤ length homes → RoutineFits x
    (slice_range homes from (from + x.temporaries)) → Placed code homes (r + 1) (from + x.temporaries)
placed_next code homes r from x p e within fits =
    placed_more code homes r from x p e within (subst (RoutineFits x) (range_take homes from x.temporaries) fits)

pub range_own : (code : Code) (homes : List Home) (r from : ℕ) (x : TacRoutine) → Placed code homes r from → slice_get
    (routines code) r ≡ Some x → homes ≡ every_slot (routines code) → IsOwn
    (slice_range homes from (from + x.temporaries))
range_own code homes r from x p e all =
    subst IsOwn (sym (range_take homes from x.temporaries))
    (subst (λ (n : ℕ). IsOwn (take x.temporaries (drop n homes))) (sym p.here)
    (part_own (routines code) homes r x all e))

pub every_within : (code : Code) (homes : List Home) (r from : ℕ) (x : TacRoutine) → Placed code homes r from
    → slice_get (routines code) r ≡ Some x → homes ≡ every_slot (routines code) → length homes - from < x.temporaries
    → ⊥
every_within code homes r from x p e all short =
    let whole : length homes ≡ temporaries_before (routines code) (length (routines code)) = ap length all
    ∙ every_length (routines code) in
    let within : temporaries_before (routines code) r + x.temporaries ≤ temporaries_before (routines code)
    (length (routines code)) = before_within (routines code) r x e in
    let here : from ≡ temporaries_before (routines code) r = p.here in
    absurd (omega arith)

pub every_ended : (code : Code) (homes : List Home) (r from : ℕ) → Placed code homes r from → r ≡ length (routines code)
    → homes ≡ every_slot (routines code) → from ≡ length homes
every_ended code homes r from p end all =
    p.here ∙ ap (λ (j : ℕ). temporaries_before (routines code) j) end ∙ sym
    (ap length all ∙ every_length (routines code))

pub placed_ended : (code : Code) (homes : List Home) (r from : ℕ) → Placed code homes r from → r ≡ length
    (routines code) → from ≡ length homes → Valid code homes
placed_ended code homes r from p end all =
    placed_all code homes from (subst (λ (j : ℕ). Placed code homes j from) end p) all
