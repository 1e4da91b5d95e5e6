-- What was made by plans is certified, and so keeps what the old code shows.
use Rattle.std.proofs.Common.{◌≡◌, ◌≢◌, ◌⊎◌, inl, inr, ℕ, zero, suc, ◌+◌, ◌-◌, ◌<◌, ◌≤◌, ◌++◌, true, List, [], ◌∷◌}
use Rattle.std.proofs.Common.{length, slice_get, Option, Some, None, sym, ◌∙◌, subst, ap, arith, refl}
use Rattle.std.proofs.lemmas.Bool.{cases_eq}
use Rattle.std.proofs.lemmas.Option.{none-some, same_Some, slice_get_within}
use Rattle.tac_code.specs.declared.code.Instruction.{Instruction}
use Rattle.tac_code.specs.declared.code.TacRoutine.{TacRoutine}
use Rattle.tac_code.specs.Meaning.{Code, body_at, fetch, routines}
use Rattle.tac_pass.specs.Keeps.{Keeps}
use Rattle.tac_pass.specs.declared.plan.Step.{Step}
use Rattle.tac_pass.specs.Tables.{Table}
use Rattle.tac_pass.specs.Certified.{begins, Tested, PassedAt, Certified}
use Rattle.tac_pass.specs.Walk.{join_at, puts_at, spot, Walked, Passed, PassedRoutine, PassedSoFar, ArePassed}
use Rattle.tac_pass.proofs.Certified.{certified_keeps}
use Rattle.tac_pass.proofs.Walks.{some_then}
use Rattle.tac_pass.proofs.Places.{passed_at}

-- ---- the whole

-- of a routine, what its plan claims
pub record Sketch : Type 0 where
  pub minded : List ℕ
  pub tables : ℕ → Table
  pub starts : ℕ → ℕ
  pub stands : ℕ → ℕ

abbrev or_zero : Option ℕ → ℕ
or_zero None = 0
or_zero (Some n) = n

abbrev empty : Table
empty = record { temporaries = []; words = [] }

abbrev nothing : Sketch
nothing =
    record { minded = []; tables = λ p. empty; starts = λ p. 0; stands = λ p. 0 }

abbrev sketch_of : (r : ℕ) (body body' : List Instruction) → Passed r body body' → Sketch
sketch_of r body body' d = record {
  minded = d.minded;
  tables = λ p. (d.walked.at p).table;
  starts = λ p. or_zero (slice_get d.starts p);
  stands = λ p. or_zero (slice_get d.starts p) + puts_at d.steps p;
}

or_zero_is : (o : Option ℕ) (s : ℕ) → o ≡ Some s → s ≡ or_zero o
or_zero_is o s e = sym (ap or_zero e)

in_body : (body : List Instruction) (q : ℕ) → q < length body → (i : Instruction) × (slice_get body q ≡ Some i)
in_body [] q lt = absurd (omega (arith, lt))
in_body (x ∷ xs) zero lt = (x, refl)
in_body (x ∷ xs) (suc q) lt = in_body xs q (omega (arith, lt))

joined_within : (steps : List Step) (p : ℕ) (t : Table) → join_at steps p ≡ Some t → p < length steps
joined_within steps p t f =
    let a = some_then (slice_get steps p) (λ (step : Step). step.join) t f in slice_get_within steps p a.0 a.1

body_fetch : (code : Code) (r : ℕ) (routine : TacRoutine) → slice_get (routines code) r ≡ Some routine → (q : ℕ)
    → fetch code r q ≡ slice_get routine.body q
body_fetch code r routine e q = ap (λ (o : Option TacRoutine). body_at o q) e

module _ (old new : Code) (a : ArePassed old new) where
  abbrev sketch_on : (r : ℕ) (o : Option TacRoutine) → slice_get (routines old) r ≡ o → Sketch
  sketch_on r None e = nothing
  sketch_on r (Some routine) e = let g = a.routines r routine e in sketch_of r routine.body g.0.body g.2.body

  abbrev sketch : ℕ → Sketch
  sketch r = sketch_on r (slice_get (routines old) r) refl

  abbrev tested : Tested
  tested = record {
    minded = λ r. (sketch r).minded;
    tables = λ r. (sketch r).tables;
    starts = λ r. (sketch r).starts;
    stands = λ r. (sketch r).stands;
  }

  begin_on : (r : ℕ) (o : Option TacRoutine) (e : slice_get (routines old) r ≡ o)
      → (begins ((sketch_on r o e).tables 0) ≡ true) × ((sketch_on r o e).starts 0 ≡ 0)
  begin_on r None e = (refl, refl)
  begin_on r (Some routine) e =
      let g = a.routines r routine e in (g.2.body.walked.begins, ap or_zero g.2.body.walked.starts_first)

  -- where the sketch is that of a plan
  module _ (r : ℕ) (routine routine' : TacRoutine) (e' : slice_get (routines new) r ≡ Some routine')
      (d : Passed r routine.body routine'.body) (is : sketch_of r routine.body routine'.body d ≡ sketch r) (p : ℕ)
      (i : Instruction) (f : slice_get routine.body p ≡ Some i) where
    passed_by : PassedAt new tested r p i
    passed_by =
        passed_at new tested r d.minded d.steps d.starts routine.body routine'.body (length routine.body)
        (spot d.last routine'.body) d.walked (ap (λ (s : Sketch). s.minded) is)
        (λ q. ap (λ (s : Sketch). s.tables q) is)
        (λ q s g. or_zero_is (slice_get d.starts q) s g ∙ ap (λ (s : Sketch). s.starts q) is)
        (λ q s g. ap (λ (n : ℕ). n + puts_at d.steps q) (or_zero_is (slice_get d.starts q) s g)
        ∙ ap (λ (s : Sketch). s.stands q) is) (λ q i g. body_fetch new r routine' e' q ∙ g)
        (λ q t g. let lt = joined_within d.steps q t g in let many = d.as_many in omega (arith, lt, many)) p i
        (slice_get_within routine.body p i f) f (in_body routine.body)

  passed_on : (r : ℕ) (o : Option TacRoutine) (e : slice_get (routines old) r ≡ o) → sketch_on r o e ≡ sketch r
      → (p : ℕ) (i : Instruction) → body_at o p ≡ Some i → PassedAt new tested r p i
  passed_on r None e is p i f = absurd (none-some i f)
  passed_on r (Some routine) e is p i f =
      let g = a.routines r routine e in passed_by r routine g.0 g.1 g.2.body is p i f

  certified : Certified old new tested
  certified = record {
    program = a.program;
    objects = a.objects;
    headings = λ r routine e. let g = a.routines r routine e in (g.0, g.1, g.2.heading);
    begin = λ r. begin_on r (slice_get (routines old) r) refl;
    passed = λ r p i f. passed_on r (slice_get (routines old) r) refl refl p i f;
  }

  pub passed_keeps : Keeps old new
  passed_keeps = certified_keeps old new tested certified

-- ---- lists of routines

length_last_routine : (xs : List TacRoutine) (x : TacRoutine) → length (xs ++ x ∷ []) ≡ suc (length xs)
length_last_routine [] x = refl
length_last_routine (y ∷ xs) x = ap suc (length_last_routine xs x)

last_routine : (xs : List TacRoutine) (x : TacRoutine) → slice_get (xs ++ x ∷ []) (length xs) ≡ Some x
last_routine [] x = refl
last_routine (y ∷ xs) x = last_routine xs x

routine_before : (xs ys : List TacRoutine) (q : ℕ) (x : TacRoutine) → slice_get xs q ≡ Some x → slice_get (xs ++ ys) q
    ≡ Some x
routine_before [] ys q x e = absurd (none-some x e)
routine_before (y ∷ xs) ys zero x e = e
routine_before (y ∷ xs) ys (suc q) x e = routine_before xs ys q x e

routine_behind : (xs ys : List TacRoutine) (q : ℕ) → slice_get (xs ++ ys) (length xs + q) ≡ slice_get ys q
routine_behind [] ys q = let e : 0 + q ≡ q = omega arith in ap (slice_get ys) e
routine_behind (y ∷ xs) ys q =
    let e : suc (length xs) + q ≡ suc (length xs + q) = omega arith in
    ap (slice_get (y ∷ (xs ++ ys))) e ∙ routine_behind xs ys q

pub so_far_many : (first : ℕ) (olds : List TacRoutine) (n : ℕ) (news : List TacRoutine) → PassedSoFar first olds n news
    → length news ≡ n
so_far_many first olds zero news e = ap length e
so_far_many first olds (suc n) news (old, new, before, others, at, p, e) =
    ap length e ∙ (length_last_routine before new ∙ ap suc (so_far_many first olds n before others))

pub record Found (r : ℕ) (old : TacRoutine) (news : List TacRoutine) (q : ℕ) : Type 0 where
  pub new_one : TacRoutine
  pub there : slice_get news q ≡ Some new_one
  pub passed : PassedRoutine r old new_one

so_far_at : (first : ℕ) (olds : List TacRoutine) (n : ℕ) (news : List TacRoutine) → PassedSoFar first olds n news
    → (q : ℕ) (old : TacRoutine) → q < n → slice_get olds q ≡ Some old → Found (first + q) old news q
so_far_at first olds zero news e q old lt f = absurd (omega (arith, lt))
so_far_at first olds (suc n) news (was, new, front, others, at, p, e) q old lt f =
    which (λ low. so_far_at first olds n front others q old low f) (cases_eq q n)
  where
    which : (q < n → Found (first + q) old front q) → (q ≡ n) ⊎ (q ≢ n) → Found (first + q) old news q
    which again (inl same) =
        let is : was ≡ old = same_Some was old (sym at ∙ (sym (ap (slice_get olds) same) ∙ f)) in
        let many : length front ≡ q = so_far_many first olds n front others ∙ sym same in
        let here : slice_get news q ≡ Some new = subst (λ (l : List TacRoutine). slice_get l q ≡ Some new) (sym e)
        (subst (λ (k : ℕ). slice_get (front ++ new ∷ []) k ≡ Some new) many (last_routine front new)) in
        record {
          new_one = new;
          there = here;
          passed = subst (λ (k : ℕ). PassedRoutine (first + k) old new) (sym same)
              (subst (λ (o : TacRoutine). PassedRoutine (first + n) o new) is p);
        }
    which again (inr ne) =
        let low : q < n = omega (arith, lt, ne) in
        let g = again low in
        record {
          new_one = g.new_one;
          there = subst (λ (l : List TacRoutine). slice_get l q ≡ Some g.new_one) (sym e)
              (routine_before front (new ∷ []) q g.new_one g.there);
          passed = g.passed;
        }

split_at : (xs ys : List TacRoutine) (r : ℕ) (x : TacRoutine) → slice_get (xs ++ ys) r ≡ Some x
    → (slice_get xs r ≡ Some x) ⊎ ((q : ℕ) × (r ≡ length xs + q) × (slice_get ys q ≡ Some x))
split_at [] ys r x e = let f : r ≡ 0 + r = omega arith in inr (r, f, e)
split_at (y ∷ xs) ys zero x e = inl e
split_at (y ∷ xs) ys (suc r) x e = on (split_at xs ys r x e)
  where
    on : (slice_get xs r ≡ Some x) ⊎ ((q : ℕ) × (r ≡ length xs + q) × (slice_get ys q ≡ Some x))
        → (slice_get xs r ≡ Some x) ⊎ ((q : ℕ) × (suc r ≡ suc (length xs) + q) × (slice_get ys q ≡ Some x))
    on (inl f) = inl f
    on (inr (q, f, g)) = inr (q, omega (arith, f), g)

-- of both lists of a code
pub are_passed : (old new : Code) → new.objects ≡ old.objects → PassedSoFar 0 old.program
    (length old.program) new.program → PassedSoFar (length old.program) old.run_time (length old.run_time) new.run_time
    → ArePassed old new
are_passed old new o p q = record {
  program = many;
  run_time = so_far_many (length old.program) old.run_time (length old.run_time) new.run_time q;
  objects = o;
  routines = λ r routine e. on r routine (split_at old.program old.run_time r routine e);
}
  where
    many : length new.program ≡ length old.program
    many = so_far_many 0 old.program (length old.program) new.program p

    on : (r : ℕ) (routine : TacRoutine) → (slice_get old.program r ≡ Some routine)
        ⊎ ((k : ℕ) × (r ≡ length old.program + k) × (slice_get old.run_time k ≡ Some routine)) → (routine' : TacRoutine)
        × (slice_get (routines new) r ≡ Some routine') × PassedRoutine r routine routine'
    on r routine (inl e) =
        let g = so_far_at 0 old.program (length old.program) new.program p r routine
        (slice_get_within old.program r routine e) e in
        let at : 0 + r ≡ r = omega arith in (
          g.new_one,
          routine_before new.program new.run_time r g.new_one g.there,
          subst
              (λ (k : ℕ). PassedRoutine k routine g.new_one) at g.passed,
        )
    on r routine (inr (k, f, e)) =
        let g = so_far_at (length old.program) old.run_time (length old.run_time) new.run_time q k routine
        (slice_get_within old.run_time k routine e) e in
        let at : r ≡ length new.program + k = omega (arith, f, many) in (
          g.new_one,
          ap (slice_get (new.program ++ new.run_time)) at
              ∙ (routine_behind new.program new.run_time k ∙ g.there),
          subst
              (λ (k : ℕ). PassedRoutine k routine g.new_one) (sym f) g.passed,
        )

-- ---- for the code

pub body_passed : (r : ℕ) (minded : List ℕ) (steps : List Step) (starts : List ℕ) (body body' : List Instruction)
    (last : Table) → length steps ≡ length body → Walked r minded steps starts body (length body) (spot last body')
    → Passed r body body'
body_passed r minded steps starts body body' last many w = record {
  minded = minded;
  steps = steps;
  starts = starts;
  last = last;
  as_many = many;
  walked = w;
}

pub routine_passed : (r : ℕ) (routine routine' : TacRoutine) → routine'.parameters ≡ routine.parameters
    → routine'.temporaries ≡ routine.temporaries → routine'.frame ≡ routine.frame → routine'.scratch ≡ routine.scratch
    → routine'.line ≡ routine.line → Passed r routine.body routine'.body → length routine'.body ≤ length routine.body
    → PassedRoutine r routine routine'
routine_passed r routine routine' p t f s l b short = record {
  heading = record { parameters = p; frame = f; scratch = s; line = l };
  temporaries = t;
  body = b;
  shorter = short;
}

pub so_far_more : (first : ℕ) (olds : List TacRoutine) (n : ℕ) (before news : List TacRoutine) (old new : TacRoutine)
    → PassedSoFar first olds n before → slice_get olds n ≡ Some old → PassedRoutine (first + n) old new → news ≡ before
    ++ new ∷ [] → PassedSoFar first olds (n + 1) news
so_far_more first olds n before news old new p e q f =
    let one : suc n ≡ n + 1 = omega arith in
    subst (λ (k : ℕ). PassedSoFar first olds k news) one (old, new, before, p, e, q, f)
