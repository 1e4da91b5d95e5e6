-- A walk that found nothing beyond what was claimed found all that is alive of a window, so what it tested holds for
-- the seats there; and what holds for all seats holds for the homes.
use Rattle.std.proofs.Common.{◌≡◌, ◌≢◌, ℕ, zero, suc, ◌+◌, ◌-◌, ◌<◌, ◌≤◌, ◌⊎◌, inl, inr, ⊎_elim, Bool, true, false}
use Rattle.std.proofs.Common.{List, length, get_or, slice_get, slice_index, Option, Some, None, IfSome, refl, sym, ap}
use Rattle.std.proofs.Common.{◌∙◌, subst, arith}
use Rattle.std.specs.Prelude.{⊤, Vec, Result, Ok, Err, IfOk, IsTrue}
use Rattle.tac_code.specs.declared.code.TacRoutine.{TacRoutine}
use Rattle.std.proofs.lemmas.Bool.{cases_eq, cases_lt}
use Rattle.std.proofs.lemmas.Option.{slice_get_within, slice_get_cases, MatchOption-at_some}
use Rattle.tac_code.specs.declared.code.Instruction.{Instruction}
use Rattle.risc_alloc.specs.declared.homes.Home.{Home}
use Rattle.risc_alloc.specs.declared.homes.Home.TheVariants.{Slot, Reg}
use Rattle.risc_alloc.specs.declared.claims.Claims.{Claims}
use Rattle.risc_alloc.specs.Flow.{reads, writes, leads, gives_to, comes_back}
use Rattle.risc_alloc.specs.Alive.{Alive, Used, Passed}
use Rattle.risc_alloc.specs.Homes.{found, home_in}
use Rattle.risc_alloc.specs.Seats.{seat_number, IsHome, AreSeatsOf}
use Rattle.risc_alloc.specs.Windows.{place_in, IsHere, IsWindow, Held, IsFreeFor, IsMarked, MarksStrangers}
use Rattle.risc_alloc.specs.declared.window.Window.{Window}
use Rattle.risc_alloc.specs.Walk.{Step, Walked, IsSettled}
use Rattle.risc_alloc.specs.Fits.{RoutineFits, SeatFits, SeatsFit}
use Rattle.risc_alloc.proofs.Seating.{index_past}
use Rattle.risc_alloc.proofs.Reading.{LeadsAs, Falls, Jumps, leads_as, calls_of}

-- a routine's instructions by their places
abbrev pub placed : List Instruction → ℕ → Option Instruction
placed body place = slice_get body place

-- what is read, and what leads on, is an instruction
pub some_read : (o : Option Instruction) (u : ℕ) → reads o u ≡ true → (i : Instruction) × (o ≡ Some i)
some_read None u e = absurd (cc)
some_read (Some i) u e = (i, refl)

some_leads : (o : Option Instruction) (place next : ℕ) → leads o place next ≡ true → (i : Instruction) × (o ≡ Some i)
some_leads None place next e = absurd (cc)
some_leads (Some i) place next e = (i, refl)

some_gives : (o : Option Instruction) (t : ℕ) → gives_to o t ≡ true → (i : Instruction) × (o ≡ Some i)
some_gives None t e = absurd (cc)
some_gives (Some i) t e = (i, refl)

pub alive_within : (body : List Instruction) (place u : ℕ) → Alive (placed body) place u → place < length body
alive_within body place u (Used p v e) = let some = some_read (slice_get body p) v e
    in slice_get_within body p some.0 some.1
alive_within body place u (Passed p next v l w rest) =
    let some = some_leads (slice_get body p) p next l in slice_get_within body p some.0 some.1

module _ (seats : List ℕ) (from : ℕ) (window : Window) (claims : Claims) (body : List Instruction) (parameters : ℕ)
    (table : List ℕ) (is : IsWindow seats from window) (w : Walked window claims body 0 table)
    (free : (t : ℕ) → t < parameters → IsFreeFor window table t) where
  step_at : (place : ℕ) (i : Instruction) → slice_get body place ≡ Some i → Step window claims i place
      (w.tables (suc place)) (w.tables place)
  step_at place i e = let le : 0 ≤ place = omega arith in w.steps place i le e

  -- what is held at a place where an instruction leads is held after the instruction
  behind : (place next u : ℕ) (i : Instruction) (e : slice_get body place ≡ Some i) → LeadsAs i place next
      → next < length body → IsHere window u → Held window (w.tables next) u → Held window (step_at place i e).out u
  behind place next u i e (Falls f on) lt here h =
      (step_at place i e).flows.falls f u (subst (λ (j : ℕ). Held window (w.tables j) u) on h)
  behind place next u i e (Jumps to) lt here h =
      let claim = (step_at place i e).flows.jumps next to in let le : 0 ≤ next = omega arith in claim.2 u
      (w.claimed next le lt claim.0 claim.1 window u h) here

  used : (place u : ℕ) → IsHere window u → reads (slice_get body place) u ≡ true → Held window (w.tables place) u
  used place u here e =
      let some = some_read (slice_get body place) u e in (step_at place some.0 some.1).reads.read u
      (subst (λ (o : Option Instruction). reads o u ≡ true) some.1 e) here

  passed : (place next u : ℕ) → IsHere window u → leads (slice_get body place) place next ≡ true → writes
      (slice_get body place) u ≡ false → next < length body → Held window (w.tables next) u → Held window
      (w.tables place) u
  passed place next u here l n lt h =
      let some = some_leads (slice_get body place) place next l in
      let s = step_at place some.0 some.1 in
      let way : LeadsAs some.0 place next = leads_as some.0 place next
      (subst (λ (o : Option Instruction). leads o place next ≡ true) some.1 l) in
      s.reads.kept u (s.writes.kept u (subst (λ (o : Option Instruction). writes o u ≡ false) some.1 n)
      (behind place next u some.0 some.1 way lt here h))

  alive_held : (place u : ℕ) → IsHere window u → Alive (placed body) place u → Held window (w.tables place) u
  alive_held place u here (Used p v e) = used p v here e
  alive_held place u here (Passed p next v l n rest) =
      passed p next v here l n (alive_within body next v rest) (alive_held next v here rest)

  module _ (seat s : ℕ) (at : seat ≡ from + s) (within : s < 12) where
    place_is : (t : ℕ) → slice_index seats t ≡ seat → place_in window t ≡ s
    place_is t e = is.here t s (e ∙ at) within

    is_here : (t : ℕ) → slice_index seats t ≡ seat → IsHere window t
    is_here t e = subst (λ (n : ℕ). n < 12) (sym (place_is t e)) within

    one : (t u : ℕ) (holders : List ℕ) → slice_index seats t ≡ seat → slice_index seats u ≡ seat → Held window holders t
        → Held window holders u → t ≡ u
    one t u holders st su ht hu =
        let same : slice_index holders (place_in window t) ≡ slice_index holders
        (place_in window u) = ap (slice_index holders) (place_is t st ∙ sym (place_is u su)) in
        let eq : t + 1 ≡ u + 1 = sym ht.1 ∙ same ∙ hu.1 in omega arith

    -- nobody else holds the seat of one for whom it is free
    only : (t u : ℕ) (holders : List ℕ) → slice_index seats t ≡ seat → slice_index seats u ≡ seat
        → IsFreeFor window holders t → Held window holders u → u ≡ t
    only t u holders st su f hu =
        ⊎_elim (λ (same : u ≡ t). same) (λ (ne : u ≢ t). absurd
        (f (is_here t st) u hu ne (place_is u su ∙ sym (place_is t st)))) (cases_eq u t)

    apart : (place t u : ℕ) → slice_index seats t ≡ seat → slice_index seats u ≡ seat → Alive (placed body) place t
        → Alive (placed body) place u → t ≡ u
    apart place t u st su at_t at_u =
        one t u (w.tables place) st su (alive_held place t (is_here t st) at_t) (alive_held place u (is_here u su) at_u)

    written : (place next t u : ℕ) → slice_index seats t ≡ seat → slice_index seats u ≡ seat → leads
        (slice_get body place) place next ≡ true → writes (slice_get body place) t ≡ true → Alive (placed body) next u
        → u ≡ t
    written place next t u st su l n au =
        let some = some_leads (slice_get body place) place next l in
        let way : LeadsAs some.0 place next = leads_as some.0 place next
        (subst (λ (o : Option Instruction). leads o place next ≡ true) some.1 l) in
        let held = behind place next u some.0 some.1 way (alive_within body next u au) (is_here u su)
        (alive_held next u (is_here u su) au) in
        only t u (step_at place some.0 some.1).out st su
        ((step_at place some.0 some.1).writes.free t
        (subst (λ (o : Option Instruction). writes o t ≡ true) some.1 n)) held

    called : (place t u : ℕ) → seat < 12 → slice_index seats u ≡ seat → comes_back (placed body) place t ≡ true → Alive
        (placed body) place u → u ≡ t
    called zero t u below su e au = absurd (cc)
    called (suc place) t u below su e au =
        let some = some_gives (slice_get body place) t e in
        let gives : gives_to (Some some.0) t ≡ true = subst (λ (o : Option Instruction). gives_to o t ≡ true) some.1 e
        in
        let s' = step_at place some.0 some.1 in
        let held = s'.flows.falls (calls_of some.0 t gives).falls u (alive_held (suc place) u (is_here u su) au) in
        let first : from < 12 = omega (arith, at, below) in
        s'.writes.called t gives (is.registers first) u held

    entered : (t u : ℕ) → slice_index seats t ≡ seat → slice_index seats u ≡ seat → t < parameters → Alive
        (placed body) 0 u → u ≡ t
    entered t u st su lt au =
        only t u table st su (free t lt) (subst (λ (l : List ℕ). Held window l u) w.here
        (alive_held 0 u (is_here u su) au))

    pub seat_fits : SeatFits (placed body) parameters seats seat
    seat_fits = record { apart = apart; written = written; called = called; entered = entered }

-- from what the code knows where walks ended
pub settled : (window : Window) (found : Option Claims) (claims : Claims) (items body : List Instruction)
    (parameters : ℕ) (table : List ℕ) → found ≡ Some claims → IfSome found (λ c. Walked window c items 0 table) → items
    ≡ body → ((t : ℕ) → t < parameters → IsFreeFor window table t) → IsSettled window body parameters
settled window found claims items body parameters table is w same free = record {
  claims = claims;
  table = table;
  walked = subst (λ (l : List Instruction). Walked window claims l 0 table) same
      (MatchOption-at_some ⊤ (λ c. Walked window c items 0 table) claims is w);
  free = free;
}

pub window_fits : (routine : TacRoutine) (seats : List ℕ) (count from : ℕ) (window : Window)
    → IsWindow seats from window → IsSettled window routine.body routine.parameters → SeatsFit routine seats count from
    (from + 12)
window_fits routine seats count from window is s seat above below some =
    let at : seat ≡ from + (seat - from) = omega (arith, above) in
    let within : seat - from < 12 = omega (arith, above, below) in
    seat_fits seats from window s.claims routine.body routine.parameters s.table is s.walked s.free seat
    (seat - from) at within

-- Nobody shares a seat after the registers that isn't marked.
pub unmarked_fits : (routine : TacRoutine) (seats : List ℕ) (marks : List Bool) (from : ℕ) → MarksStrangers seats marks
    → 12 ≤ from → ((seat : ℕ) → from ≤ seat → seat < from + 12 → IsMarked marks seat → ⊥) → SeatsFit routine seats
    (length marks) from (from + 12)
unmarked_fits routine seats marks from marked behind clear seat le lt below = record {
  apart = λ place t u st su at_t at_u. same t u st su;
  written = λ place next t u st su l n au. same u t su st;
  called = λ place t u register su e au. absurd (omega (arith, register, above));
  entered = λ t u st su first au. same u t su st;
}
  where
    above : 12 ≤ seat
    above = omega (arith, behind, le)

    within : (t : ℕ) → slice_index seats t ≡ seat → t < length seats
    within t e =
        ⊎_elim (λ (inside : t < length seats). inside)
        (λ (past : length seats ≤ t). let none = index_past seats t past in absurd (omega (arith, none, e, above)))
        (cases_lt t (length seats))

    its_own : (t : ℕ) → slice_index seats t ≡ seat → seat ≡ 12 + t
    its_own t e =
        ⊎_elim (λ (own : slice_index seats t ≡ 12 + t). sym e ∙ own)
        (λ (other : slice_index seats t ≢ 12 + t). absurd
        (clear seat le lt (subst (IsMarked marks) e
        (marked t (within t e) other (subst (λ (n : ℕ). n < length marks) (sym e) below)))))
        (cases_eq (slice_index seats t) (12 + t))

    same : (t u : ℕ) → slice_index seats t ≡ seat → slice_index seats u ≡ seat → t ≡ u
    same t u st su = let a = its_own t st in let b = its_own u su in omega (arith, a, b)

-- what walks accept
pub settled_fits : {E : Type 0} (routine : TacRoutine) (seats : List ℕ) (count from : ℕ) (window : Window)
    (answer : Result Bool E) → IsWindow seats from window → IfOk answer
    (λ b. IsTrue b → IsSettled window routine.body routine.parameters) → IfOk answer
    (λ b. IsTrue b → SeatsFit routine seats count from (from + 12))
settled_fits routine seats count from window (Ok b) is told =
    λ t. window_fits routine seats count from window is (told t)
settled_fits routine seats count from window (Err e) is told = tt

-- twelve seats more
pub seats_more : (routine : TacRoutine) (seats : List ℕ) (count from : ℕ) → SeatsFit routine seats count 0 from
    → SeatsFit routine seats count from (from + 12) → SeatsFit routine seats count 0 (from + 12)
seats_more routine seats count from before these seat above below some =
    ⊎_elim (λ (lt : seat < from). before seat above lt some) (λ (le : from ≤ seat). these seat le below some)
    (cases_lt seat from)

pub seats_all : (routine : TacRoutine) (seats : List ℕ) (count from : ℕ) → count ≤ from
    → SeatsFit routine seats count 0 from → SeatsFit routine seats count 0 count
seats_all routine seats count from past fit seat above below some =
    let lt : seat < from = omega (arith, past, below) in fit seat above lt some

module _ (homes : List Home) (seats : List ℕ) (routine : TacRoutine) (count : ℕ) (are : AreSeatsOf homes seats)
    (long : count ≡ 12 + length homes) (each : SeatsFit routine seats count 0 count) where
  -- seats are homes, also for what is not a temporary
  seat_is : (t : ℕ) → slice_index seats t ≡ seat_number (home_in homes t)
  seat_is t = go (slice_get_cases homes t).1
    where
      go : ((x : Home) × (t < length homes) × (slice_get homes t ≡ Some x) × (get_or homes t x ≡ x))
          ⊎ ((length homes ≤ t) × (slice_get homes t ≡ None)) → slice_index seats t ≡ seat_number (home_in homes t)
      go (inl h) = (are.each t h.0 h.2).is ∙ sym (ap (λ (o : Option Home). seat_number (found o)) h.2)
      go (inr h) =
          let past : length seats ≤ t = omega (arith, are.count, h.0) in
          index_past seats t past ∙ sym (ap (λ (o : Option Home). seat_number (found o)) h.1)

  home_is : (t : ℕ) (h : Home) → home_in homes t ≡ h → (slice_get homes t ≡ Some h) ⊎ (h ≡ Reg 0)
  home_is t h e = go (slice_get homes t) refl e
    where
      go : (o : Option Home) → slice_get homes t ≡ o → found o ≡ h → (slice_get homes t ≡ Some h) ⊎ (h ≡ Reg 0)
      go None none same = inr (sym same)
      go (Some x) some same = inl (some ∙ ap Some same)

  is_home : (t : ℕ) (h : Home) → home_in homes t ≡ h → IsHome (length homes) h ⊎ (h ≡ Reg 0)
  is_home t h e =
      ⊎_elim (λ (there : slice_get homes t ≡ Some h). inl (are.each t h there).within) (λ (none : h ≡ Reg 0). inr none)
      (home_is t h e)

  slot : (t j : ℕ) → home_in homes t ≡ Slot j → j < length homes
  slot t j e =
      ⊎_elim (λ (h : IsHome (length homes) (Slot j)). h) (λ (no : Slot j ≡ Reg 0). absurd (cc)) (is_home t (Slot j) e)

  register : (t q : ℕ) → home_in homes t ≡ Reg q → q < 12
  register t q e =
      ⊎_elim (λ (h : IsHome (length homes) (Reg q)). h)
      (λ (zeroth : Reg q ≡ Reg 0). let same : q ≡ 0 = cc in omega arith) (is_home t (Reg q) e)

  seat_below : (t : ℕ) (h : Home) → home_in homes t ≡ h → seat_number h < count
  seat_below t (Slot j) e = let lt : j < length homes = slot t j e in omega (arith, lt, long)
  seat_below t (Reg q) e = let lt : q < 12 = register t q e in omega (arith, lt, long)

  -- what is kept apart in the seat of a temporary
  seat_of : (t : ℕ) → SeatFits (placed routine.body) routine.parameters seats (slice_index seats t)
  seat_of t =
      let none : 0 ≤ slice_index seats t = omega arith in
      let below : slice_index seats t < count = subst (λ (n : ℕ). n < count) (sym (seat_is t))
      (seat_below t (home_in homes t) refl) in
      each (slice_index seats t) none below below

  same_seat : (t u : ℕ) → home_in homes t ≡ home_in homes u → slice_index seats t ≡ slice_index seats u
  same_seat t u e = seat_is t ∙ ap seat_number e ∙ sym (seat_is u)

  slot_of : (u : ℕ) (h : Home) → home_in homes u ≡ h → (slice_index seats u < 12 → ⊥) → (j : ℕ)
      × (home_in homes u ≡ Slot j)
  slot_of u (Slot j) e above = (j, e)
  slot_of u (Reg q) e above =
      absurd (above (subst (λ (n : ℕ). n < 12) (sym (seat_is u ∙ ap seat_number e)) (register u q e)))

  pub fits : RoutineFits routine homes
  fits = record {
    slot = slot;
    register = register;
    apart = λ place t u at_t at_u ne e. ne ((seat_of t).apart place t u refl (same_seat u t (sym e)) at_t at_u);
    written = λ place next t u l n au ne e. ne ((seat_of t).written place next t u refl (same_seat u t e) l n au);
    called = λ place t u back au ne. slot_of u (home_in homes u) refl
        (λ below. ne ((seat_of u).called place t u below refl back au));
    entered = λ t u lt au ne e. ne ((seat_of t).entered t u refl (same_seat u t e) lt au);
  }

-- what those walks' acceptance says of homes
pub apart_of : {A E : Type 0} (routine : TacRoutine) (homes : List Home) (found : Option (Vec ℕ A)) (seats : Vec ℕ A)
    (list : List ℕ) (count : ℕ) (answer : Result Bool E) → IfSome found (λ s. AreSeatsOf homes s.items) → found
    ≡ Some seats → list ≡ seats.items → count ≡ 12 + length homes → IfOk answer
    (λ b. IsTrue b → SeatsFit routine list count 0 count) → IfOk answer (λ b. IsTrue b → RoutineFits routine homes)
apart_of routine homes found seats list count (Ok b) are is same long told =
    λ t. fits homes list routine count (subst (AreSeatsOf homes) (sym same)
    (MatchOption-at_some ⊤ (λ s. AreSeatsOf homes s.items) seats is are)) long (told t)
apart_of routine homes found seats list count (Err e) are is same long told = tt
