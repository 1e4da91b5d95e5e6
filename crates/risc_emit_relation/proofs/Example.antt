-- A placed program of two routines, one from the run-time library, computed by hand: what the relation requires can be
-- met.
use Rattle.std.proofs.Common.{◌≡◌, ◌≢◌, ℕ, zero, suc, ◌+◌, ◌*◌, ◌%◌, ◌<◌, ◌≤◌, Bool, true, false, ◌||◌, nat_eq, nat_lt}
use Rattle.std.proofs.Common.{if◌then◌else◌, List, [], ◌∷◌, Some, None, slice_get, pos, refl, ap, ◌∙◌, arith}
use Rattle.std.proofs.lemmas.Bool.{eqb-true}
use Rattle.tac_code.specs.declared.code.Instruction.TheVariants.{Literal, Call, Arithmetic, Store, Load, Return, End}
use Rattle.tac_code.specs.declared.code.Operator.TheVariants.{Add}
use Rattle.tac_code.specs.declared.code.Operand.TheVariants as operand
use Rattle.tac_code.specs.declared.code.Base.TheVariants as base
use Rattle.tac_code.specs.declared.code.TacRoutine.{TacRoutine}
use Rattle.tac_code.specs.Meaning.{Code, routines, entered}
use Rattle.tac_code.specs.Run.{before}
use Rattle.risc_alloc.specs.declared.homes.Home.{Home}
use Rattle.risc_alloc.specs.declared.homes.Home.TheVariants.{Slot, Reg}
use Rattle.risc_alloc.specs.Flow.{is_among}
use Rattle.risc_alloc.specs.Homes.{temporaries_in}
use Rattle.risc_alloc.specs.Alive.{Used, Passed}
use Rattle.risc_emit_relation.specs.Context.{Context, home, reads, writes, called, IsAlive, IsPlaced, is_program}
use Rattle.risc_emit_relation.specs.Context.{slot_at, IsLaid}
use Rattle.risc_emit_relation.specs.Related.{Machine, Related, started_places}
use Rattle.risc_emit_relation.specs.Laws.{RelationIsMet}
use Rattle.risc_emit_relation.proofs.Start.{related_starts}

-- the first temporary is alive across the call
abbrev pub block : TacRoutine
block =
    record {
      parameters = 0;
      temporaries = 2;
      frame = 8;
      scratch = 4;
      line = 3;
      body = Literal 0 (pos 5) ∷ Call 1 1 (0 ∷ []) 4 ∷ Arithmetic Add 1 1 (operand.Temporary 0) 1 4
          ∷ Store base.Frame 0 1 ∷ End ∷ [];
    }

abbrev pub leaf : TacRoutine
leaf =
    record {
      parameters = 1;
      temporaries = 2;
      frame = 4;
      scratch = 0;
      line = 1;
      body = Store base.Frame 0 0 ∷ Load 1 base.Frame 0 ∷ Return 1 ∷ [];
    }

abbrev pub code : Code
code = record { program = block ∷ []; run_time = leaf ∷ []; objects = [] }

abbrev homes : List Home
homes = Slot 0 ∷ Reg 0 ∷ Reg 0 ∷ Slot 0 ∷ []

-- a number for the program block, and one for a run-time routine
abbrev either : ℕ → ℕ → ℕ → ℕ
either a b zero = a
either a b (suc r) = b

abbrev pub example : Context
example =
    record {
      code = code;
      costs = either 292 0;
      sizes = λ t. 4;
      homes = homes;
      site = λ r k. 10 + 20 * r + 3 * k;
      entry = λ r. 10 + 20 * r;
      constant = λ r k. 0;
      resume = λ r k t. 9 + 20 * r + 3 * k;
      line = λ l. None;
      trap = λ l. None;
      link_at = either 0 40;
      slots_at = either 276 44;
      frame_at = either 280 48;
      scratch_at = either 288 52;
      used = either 292 52;
      heap_at = 400;
      base = 1400;
      size = 3400;
      bottom = 3108;
    }

slots_in : (r t k : ℕ) → home example r t ≡ Slot k → slot_at example r k + 4 ≤ either 280 48 r
slots_in zero zero k e = let z : 0 ≡ k = cc e in omega (arith, z)
slots_in zero (suc zero) k e = absurd (cc e)
slots_in zero (suc (suc t)) k e = absurd (cc e)
slots_in (suc zero) zero k e = absurd (cc e)
slots_in (suc zero) (suc zero) k e = let z : 0 ≡ k = cc e in omega (arith, z)
slots_in (suc zero) (suc (suc t)) k e = absurd (cc e)
slots_in (suc (suc r)) t k e = absurd (cc e)

frames_in : (r : ℕ) (routine : TacRoutine) → slice_get (routines code) r ≡ Some routine → (routine.frame % 4 ≡ 0)
    × (either 280 48 r + routine.frame ≤ either 288 52 r) × (routine.scratch % 4 ≡ 0)
    × (either 288 52 r + routine.scratch ≤ either 292 52 r)
frames_in zero routine e =
    let z : block ≡ routine = cc e in
    let f : 8 ≡ routine.frame = ap (λ x. x.frame) z in
    let s : 4 ≡ routine.scratch = ap (λ x. x.scratch) z in
    (omega (arith, f), omega (arith, f), omega (arith, s), omega (arith, s))
frames_in (suc zero) routine e =
    let z : leaf ≡ routine = cc e in
    let f : 4 ≡ routine.frame = ap (λ x. x.frame) z in
    let s : 0 ≡ routine.scratch = ap (λ x. x.scratch) z in
    (omega (arith, f), omega (arith, f), omega (arith, s), omega (arith, s))
frames_in (suc (suc r)) routine e = absurd (cc e)

-- two numbers in order, for the program block and for the others
ordered : (a b x y : ℕ) → a ≤ x → b ≤ y → (r : ℕ) → either a b r ≤ either x y r
ordered a b x y h k zero = h
ordered a b x y h k (suc r) = k

pub example_laid : IsLaid example
example_laid =
    record {
      link = linked;
      slots = slots_in;
      slots_before = ordered 276 44 280 48 (omega arith) (omega arith);
      frame = λ r routine e. let f = frames_in r routine e in (f.0, f.1);
      scratch = λ r routine e. let f = frames_in r routine e in (f.2, f.3);
      frame_before = ordered 280 48 288 52 (omega arith) (omega arith);
      scratch_before = ordered 288 52 292 52 (omega arith) (omega arith);
      aligned = fours;
      whole = wholes;
      program = programs;
      leaf = leaves;
      first = refl;
      bottom = refl;
      order = (omega arith, omega arith, omega arith, omega arith);
      even = (refl, refl, refl);
      constants = λ r k. omega arith;
    }
  where
    linked : (r : ℕ) → either 0 40 r + 4 ≤ either 276 44 r
    linked zero = omega arith
    linked (suc r) = omega arith

    fours : (r : ℕ) → (either 0 40 r % 4 ≡ 0) × (either 276 44 r % 4 ≡ 0) × (either 280 48 r % 4 ≡ 0)
        × (either 288 52 r % 4 ≡ 0)
    fours zero = (refl, refl, refl, refl)
    fours (suc r) = (refl, refl, refl, refl)

    wholes : (r : ℕ) → either 292 0 r % 4 ≡ 0
    wholes zero = refl
    wholes (suc r) = refl

    programs : (r : ℕ) → is_program example r ≡ true → (either 0 40 r ≡ 0) × (276 ≤ either 276 44 r)
        × (either 292 52 r ≤ either 292 0 r)
    programs zero e = (refl, omega arith, omega arith)
    programs (suc r) e = absurd (no r e)
      where
        no : (r : ℕ) → nat_lt (suc r) 1 ≡ true → ⊥
        no r e = grind arith

    leaves : (r : ℕ) → is_program example r ≡ false → (8 ≤ either 0 40 r) × (either 292 52 r ≤ 268)
    leaves zero e = absurd (cc e)
    leaves (suc r) e = (omega arith, omega arith)

-- ---- the temporaries that are alive

-- of the two routines, and of their first two temporaries
abbrev AreSmall : List ℕ → Type 0
AreSmall [] = Unit {0}
AreSmall (t ∷ ts) = (t < 2) × AreSmall ts

small_among : (u : ℕ) (ts : List ℕ) → AreSmall ts → is_among u ts ≡ true → u < 2
small_among u [] h e = absurd (cc e)
small_among u (t ∷ ts) h e = go (small_among u ts h.1) (nat_eq u t) refl e
  where
    go : (is_among u ts ≡ true → u < 2) → (b : Bool) → nat_eq u t ≡ b → b || is_among u ts ≡ true → u < 2
    go rest true is e = let z = eqb-true u t is in omega (arith, z, h.0)
    go rest false is e = rest e

small_read : (r k u : ℕ) → reads example r k u ≡ true → (r < 2) × (u < 2)
small_read zero zero u e = absurd (cc e)
small_read zero (suc zero) u e = (omega arith, small_among u (0 ∷ []) (omega arith, tt) e)
small_read zero (suc (suc zero)) u e = (omega arith, small_among u (1 ∷ 0 ∷ []) (omega arith, (omega arith, tt)) e)
small_read zero (suc (suc (suc zero))) u e = (omega arith, small_among u (1 ∷ []) (omega arith, tt) e)
small_read zero (suc (suc (suc (suc zero)))) u e = absurd (cc e)
small_read zero (suc (suc (suc (suc (suc k))))) u e = absurd (cc e)
small_read (suc zero) zero u e = (omega arith, small_among u (0 ∷ []) (omega arith, tt) e)
small_read (suc zero) (suc zero) u e = absurd (cc e)
small_read (suc zero) (suc (suc zero)) u e = (omega arith, small_among u (1 ∷ []) (omega arith, tt) e)
small_read (suc zero) (suc (suc (suc k))) u e = absurd (cc e)
small_read (suc (suc r)) k u e = absurd (cc e)

small_written : (r k t : ℕ) → writes example r k t ≡ true → t < 2
small_written zero zero t e = let z = eqb-true t 0 e in omega (arith, z)
small_written zero (suc zero) t e = let z = eqb-true t 1 e in omega (arith, z)
small_written zero (suc (suc zero)) t e = let z = eqb-true t 1 e in omega (arith, z)
small_written zero (suc (suc (suc zero))) t e = absurd (cc e)
small_written zero (suc (suc (suc (suc zero)))) t e = absurd (cc e)
small_written zero (suc (suc (suc (suc (suc k))))) t e = absurd (cc e)
small_written (suc zero) zero t e = absurd (cc e)
small_written (suc zero) (suc zero) t e = let z = eqb-true t 1 e in omega (arith, z)
small_written (suc zero) (suc (suc zero)) t e = absurd (cc e)
small_written (suc zero) (suc (suc (suc k))) t e = absurd (cc e)
small_written (suc (suc r)) k t e = absurd (cc e)

small_alive : (r k u : ℕ) → IsAlive example r k u → (r < 2) × (u < 2)
small_alive r k u (Used _ _ reads) = small_read r k u reads
small_alive r k u (Passed _ k' _ leads writes live) = small_alive r k' u live

-- the two temporaries of each routine have homes of their own
homes_apart : (r t u : ℕ) → r < 2 → t < 2 → u < 2 → u ≢ t → home example r u ≢ home example r t
homes_apart zero zero zero hr ht hu ne e = ne refl
homes_apart zero zero (suc zero) hr ht hu ne e = cc e
homes_apart zero (suc zero) zero hr ht hu ne e = cc e
homes_apart zero (suc zero) (suc zero) hr ht hu ne e = ne refl
homes_apart (suc zero) zero zero hr ht hu ne e = ne refl
homes_apart (suc zero) zero (suc zero) hr ht hu ne e = cc e
homes_apart (suc zero) (suc zero) zero hr ht hu ne e = cc e
homes_apart (suc zero) (suc zero) (suc zero) hr ht hu ne e = ne refl
homes_apart (suc (suc r)) t u hr ht hu ne e = absurd (omega (arith, hr))
homes_apart r (suc (suc t)) u hr ht hu ne e = absurd (omega (arith, ht))
homes_apart r t (suc (suc u)) hr ht hu ne e = absurd (omega (arith, hu))

pub example_valid : IsPlaced example
example_valid =
    record {
      count = refl;
      slot = slots_few;
      register = registers;
      apart = λ r k t u live live' ne.
          let a = small_alive r k t live in
          let b = small_alive r k u live' in
          homes_apart r u t a.0 b.1 a.1 ne;
      written = λ r k k' t u leads writes live ne.
          let a = small_alive r k' u live in
          homes_apart r t u a.0 (small_written r k t writes) a.1 ne;
      called = across;
      entered = λ r t u routine is lt live ne.
          let a = small_alive r 0 u live in
          homes_apart r t u a.0 (parameters_few r t routine is lt) a.1 ne;
    }
  where
    registers : (r t q : ℕ) → home example r t ≡ Reg q → q < 12
    registers zero zero q e = absurd (cc e)
    registers zero (suc zero) q e = let z : 0 ≡ q = cc e in omega (arith, z)
    registers zero (suc (suc t)) q e = let z : 0 ≡ q = cc e in omega (arith, z)
    registers (suc zero) zero q e = let z : 0 ≡ q = cc e in omega (arith, z)
    registers (suc zero) (suc zero) q e = absurd (cc e)
    registers (suc zero) (suc (suc t)) q e = let z : 0 ≡ q = cc e in omega (arith, z)
    registers (suc (suc r)) t q e = let z : 0 ≡ q = cc e in omega (arith, z)

    slots_few : (r t j : ℕ) → home example r t ≡ Slot j → j < temporaries_in (slice_get (routines code) r)
    slots_few zero zero j e = let z : 0 ≡ j = cc e in omega (arith, z)
    slots_few zero (suc zero) j e = absurd (cc e)
    slots_few zero (suc (suc t)) j e = absurd (cc e)
    slots_few (suc zero) zero j e = absurd (cc e)
    slots_few (suc zero) (suc zero) j e = let z : 0 ≡ j = cc e in omega (arith, z)
    slots_few (suc zero) (suc (suc t)) j e = absurd (cc e)
    slots_few (suc (suc r)) t j e = absurd (cc e)

    parameters_few : (r t : ℕ) (routine : TacRoutine) → slice_get (routines code) r ≡ Some routine
        → t < routine.parameters → t < 2
    parameters_few zero t routine e lt =
        let z : block ≡ routine = cc e in
        let n : 0 ≡ routine.parameters = ap (λ x. x.parameters) z in
        omega (arith, n, lt)
    parameters_few (suc zero) t routine e lt =
        let z : leaf ≡ routine = cc e in
        let n : 1 ≡ routine.parameters = ap (λ x. x.parameters) z in
        omega (arith, n, lt)
    parameters_few (suc (suc r)) t routine e lt = absurd (cc e)

    the_call : (r k t : ℕ) → called example r k t ≡ true → (r ≡ 0) × (t ≡ 1)
    the_call r zero t e = absurd (cc e)
    the_call zero (suc zero) t e = absurd (cc e)
    the_call zero (suc (suc zero)) t e = (refl, eqb-true t 1 e)
    the_call zero (suc (suc (suc zero))) t e = absurd (cc e)
    the_call zero (suc (suc (suc (suc zero)))) t e = absurd (cc e)
    the_call zero (suc (suc (suc (suc (suc zero))))) t e = absurd (cc e)
    the_call zero (suc (suc (suc (suc (suc (suc k)))))) t e = absurd (cc e)
    the_call (suc zero) (suc zero) t e = absurd (cc e)
    the_call (suc zero) (suc (suc zero)) t e = absurd (cc e)
    the_call (suc zero) (suc (suc (suc zero))) t e = absurd (cc e)
    the_call (suc zero) (suc (suc (suc (suc k)))) t e = absurd (cc e)
    the_call (suc (suc r)) (suc k) t e = absurd (cc e)

    across : (r k t u : ℕ) → called example r k t ≡ true → IsAlive example r k u → u ≢ t → (j : ℕ)
        × (home example r u ≡ Slot j)
    across r k t u e live ne =
        let z = the_call r k t e in
        let a = small_alive r k u live in
        let first : u ≡ 0 = omega (arith, z.1, ne, a.1) in
        (0, ap (λ x. home example x u) z.0 ∙ ap (home example 0) first)

-- ---- the start

-- the registers and words after the entry of the program block
abbrev started : Machine
started =
    record {
      registers = λ q. 3108;
      words = λ a. if nat_eq a 3108 then 0 else if nat_eq a 3112 then 3400 else if nat_eq a 3376 then 1400 else 400;
    }

pub example_starts : (G : ℕ → ℕ) (S H : ℕ) (input : List ℕ) → Related example (started_places example)
    (entered code (either 292 0) G S H block 0 [] 0 0 [] (before input)) started 3108
example_starts G S H input =
    related_starts example example_laid G S H input started block refl (omega arith) (record {
      link = refl;
      back = refl;
      limit = refl;
      next = refl;
      stack = refl;
      globals = refl;
    })

pub relation_is_met : RelationIsMet
relation_is_met = (
  example,
  example_laid,
  example_valid,
  refl,
  started,
  λ input. (
    entered code (either 292 0) (λ t. 4) 2000 1000 block 0 [] 0 0 [] (before input),
    example_starts
        (λ t. 4) 2000 1000 input,
  ),
)
