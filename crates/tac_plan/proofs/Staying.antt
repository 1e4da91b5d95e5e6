-- A routine that stays as it is was passed by a plan: one by which each instruction is kept, and each temporary stands
-- in the one of its number. No address is copied in it, and it is lean of itself.
use Rattle.std.proofs.Common.{◌≡◌, inl, inr, ℕ, zero, suc, ◌+◌, ◌-◌, ◌<◌, ◌≤◌, ◌*◌, ◌++◌, Bool, true, false, nat_eq}
use Rattle.std.proofs.Common.{nat_lt, List, [], ◌∷◌, length, slice_get, Option, Some, None, refl, sym, ◌∙◌, subst, ap}
use Rattle.std.proofs.Common.{arith}
use Rattle.std.proofs.lemmas.Bool.{eq-eqb, and_from}
use Rattle.std.proofs.lemmas.Option.{none-some, same_Some}
use Rattle.tac_code.specs.declared.check.Limits.{Limits}
use Rattle.tac_code.specs.declared.code.Instruction.{Instruction}
use Rattle.tac_code.specs.declared.code.Instruction.TheVariants.{Literal, Copy, Arithmetic, Bits, Compare, CheckRange}
use Rattle.tac_code.specs.declared.code.Instruction.TheVariants.{CheckPointer, Text, Offset, Index, RoutineValue, Load}
use Rattle.tac_code.specs.declared.code.Instruction.TheVariants.{Store, LoadByte, StoreByte, Jump, JumpBack, Branch}
use Rattle.tac_code.specs.declared.code.Instruction.TheVariants.{BranchBack, Call, CallValue, Return, Trap, Take, Put}
use Rattle.tac_code.specs.declared.code.Instruction.TheVariants.{New, End}
use Rattle.tac_code.specs.declared.code.TacRoutine.{TacRoutine}
use Rattle.tac_code.specs.Numbers.{steps_above}
use Rattle.tac_code.specs.Sound.{IsSoundAt, IsSoundBody, IsSoundRoutine}
use Rattle.std.specs.Prelude.{IfOk, Result, Ok, Err}
use Rattle.std.specs.Global.{Vec}
use Rattle.tac_pass.specs.declared.plan.Put.{Put as Put_in}
use Rattle.tac_pass.specs.declared.plan.Step.{Step}
use Rattle.tac_pass.specs.declared.table.Action.TheVariants.{Spare}
use Rattle.tac_pass.specs.declared.table.Reach.TheVariants.{Anywhere}
use Rattle.tac_pass.specs.Tables.{Table, nowhere, known_in, find, base_reach, is_forgetful}
use Rattle.tac_pass.specs.Acts.{and_then, only_if, shifted, stretched, ending}
use Rattle.tac_pass.specs.Certified.{are_passed}
use Rattle.tac_pass.specs.Walk.{join_at, Joins, aimed, ahead, behind, turned, less, GoesOn, puts_of, puts_at, ArePutIn}
use Rattle.tac_pass.specs.Walk.{spot, Becomes, Steps, Passed, PassedRoutine}
use Rattle.tac_pass.proofs.Placing.{forgetful_itself}
use Rattle.tac_known.proofs.Itself.{itself_is_lean}
use Rattle.tac_plan.specs.Passes.{PassesRoutine}
use Rattle.tac_plan.proofs.Unheld.{itself_again}
use Rattle.tac_plan.proofs.StayingRows.{Stays, base_stays, found_forgets, gives, holds, leaves, list}
use Rattle.tac_plan.proofs.StayingRows.{load_stays, low, right, rows, store_stays, table}

-- ---- a walk by which all stays

abbrev numbers : ℕ → ℕ → List ℕ
numbers u zero = []
numbers u (suc n) = u ∷ numbers (suc u) n

number_at : (n u k : ℕ) → k < n → slice_get (numbers u n) k ≡ Some (u + k)
number_at zero u k lt = absurd (omega (arith, lt))
number_at (suc n) u zero lt = let e : u ≡ u + 0 = omega arith in ap (λ (x : ℕ). Some x) e
number_at (suc n) u (suc k) lt =
    let low : k < n = omega (arith, lt) in
    let e : suc u + k ≡ u + suc k = omega arith in
    number_at n (suc u) k low ∙ ap (λ (x : ℕ). Some x) e

abbrev repeated : Step → ℕ → List Step
repeated step zero = []
repeated step (suc n) = step ∷ repeated step n

length_repeated : (step : Step) (n : ℕ) → length (repeated step n) ≡ n
length_repeated step zero = refl
length_repeated step (suc n) = ap suc (length_repeated step n)

repeated_at : (step : Step) (n k : ℕ) → k < n → slice_get (repeated step n) k ≡ Some step
repeated_at step zero k lt = absurd (omega (arith, lt))
repeated_at step (suc n) zero lt = refl
repeated_at step (suc n) (suc k) lt = let low : k < n = omega (arith, lt) in repeated_at step n k low

repeated_is : (step other : Step) (n k : ℕ) → slice_get (repeated step n) k ≡ Some other → step ≡ other
repeated_is step other zero k e = absurd (none-some other e)
repeated_is step other (suc n) zero e = same_Some step other e
repeated_is step other (suc n) (suc k) e = repeated_is step other n k e

-- so many instructions
abbrev first : ℕ → List Instruction → List Instruction
first zero xs = []
first (suc n) [] = []
first (suc n) (x ∷ xs) = x ∷ first n xs

first_more : (n : ℕ) (xs : List Instruction) (i : Instruction) → slice_get xs n ≡ Some i → first (suc n) xs
    ≡ first n xs ++ i ∷ []
first_more n [] i e = absurd (none-some i e)
first_more zero (x ∷ xs) i e = ap (λ (y : Instruction). y ∷ []) (same_Some x i e)
first_more (suc n) (x ∷ xs) i e = ap (λ (l : List Instruction). x ∷ l) (first_more n xs i e)

first_length : (n : ℕ) (xs : List Instruction) → n ≤ length xs → length (first n xs) ≡ n
first_length zero xs le = refl
first_length (suc n) [] le = absurd (omega (arith, le))
first_length (suc n) (x ∷ xs) le = let low : n ≤ length xs = omega (arith, le) in ap suc (first_length n xs low)

first_all : (xs : List Instruction) → first (length xs) xs ≡ xs
first_all [] = refl
first_all (x ∷ xs) = ap (λ (l : List Instruction). x ∷ l) (first_all xs)

are_passed_rows : (n u : ℕ) → are_passed u (rows u n) ≡ true
are_passed_rows zero u = refl
are_passed_rows (suc n) u =
    and_from (nat_eq u u) (are_passed (suc u) (rows (suc u) n)) (eq-eqb u u refl) (are_passed_rows n (suc u))

module _ (n places : ℕ) (step : Step) (claims : step.join ≡ Some (table n)) (none : length step.puts.items ≡ 0) where
  abbrev steps : List Step
  steps = repeated step places

  abbrev starts : List ℕ
  starts = numbers 0 (suc places)

  start_at : (q : ℕ) → q ≤ places → slice_get starts q ≡ Some q
  start_at q le =
      let lt : q < suc places = omega (arith, le) in
      let e : 0 + q ≡ q = omega arith in
      number_at (suc places) 0 q lt ∙ ap (λ (x : ℕ). Some x) e

  joins_of : (o : Option Step) → ((other : Step) → o ≡ Some other → step ≡ other) → (claimed : Table)
      → and_then o (λ (s : Step). s.join) ≡ Some claimed → table n ≡ claimed
  joins_of None all claimed e = absurd (none-some claimed e)
  joins_of (Some other) all claimed e =
      same_Some (table n) claimed (sym claims ∙ (ap (λ (s : Step). s.join) (all other refl) ∙ e))

  joins_at : (q : ℕ) → Joins steps q (table n)
  joins_at q claimed e =
      joins_of (slice_get steps q) (λ other f. repeated_is step other places q f) claimed e

  goes : (q here : ℕ) (left : Table) → q < places → here ≡ suc q → is_forgetful left (table n) ≡ true
      → GoesOn steps starts q left (table n) here
  goes q here left lt e f =
      let le : suc q ≤ places = omega (arith, lt) in
      record {
        starts_here = start_at (suc q) le ∙ ap (λ (x : ℕ). Some x) (sym e);
        forgets = f;
        joins = joins_at (suc q);
      }

  aimed_is : (q : ℕ) → q < places → aimed steps starts (table n) q ≡ Some q
  aimed_is q lt =
      let le : q ≤ places = omega (arith, lt) in
      let planned : join_at steps q ≡ Some (table n) =
      ap (λ (o : Option Step). and_then o (λ (s : Step). s.join)) (repeated_at step places q lt) ∙ claims in
      ap (λ (o : Option Table). and_then o (λ claimed. only_if (is_forgetful (table n) claimed) (slice_get starts q)))
      planned ∙ (ap (λ (b : Bool). only_if b (slice_get starts q)) (forgetful_itself (table n)) ∙ start_at q le)

  less_is : (m k d : ℕ) → m ≡ k + d → less m k ≡ Some d
  less_is m k d e =
      let f : nat_lt m k ≡ false = grind (arith, e) in
      let g : m - k ≡ d = omega (arith, e) in
      rw f (ap (λ (x : ℕ). Some x) g)

  ahead_is : (q k d : ℕ) → k ≡ q → suc q + d < places → ahead steps starts (table n) q k d ≡ Some d
  ahead_is q k d e lt =
      let f : suc q + d ≡ suc k + d = omega (arith, e) in
      ap (λ (o : Option ℕ). and_then o (λ start. less start (suc k))) (aimed_is (suc q + d) lt)
      ∙ less_is (suc q + d) (suc k) d f

  behind_is : (q k d : ℕ) → k ≡ q → d ≤ q → q < places → behind steps starts (table n) q k d ≡ Some d
  behind_is q k d e le lt =
      let low : q - d < places = omega (arith, lt) in
      let f : k ≡ (q - d) + d = omega (arith, e, le) in
      ap (λ (o : Option ℕ). and_then o (λ start. less k start)) (aimed_is (q - d) low) ∙ less_is k (q - d) d f

  module _ (r q : ℕ) (out : List Instruction) (here : length out ≡ q) (within : q < places) (l : Limits)
      (same : l.temporaries ≡ n) (p : l.places ≡ places) where
    length_on : (i : Instruction) → length (out ++ i ∷ []) ≡ suc q
    length_on i = length_more out i ∙ ap suc here
      where
        length_more : (xs : List Instruction) (i : Instruction) → length (xs ++ i ∷ []) ≡ suc (length xs)
        length_more [] i = refl
        length_more (x ∷ xs) i = ap suc (length_more xs i)

    abbrev IsNext : Instruction → Type 0
    IsNext i = Becomes r [] steps starts q i (spot (table n) out) (spot (table n) (out ++ i ∷ []))

    made : (i : Instruction) → Stays n r i → IsNext i
    made i s = inr (inl (record {
      holder = s.holder;
      new_one = i;
      left = s.left;
      made = inl s.made;
      pushed = refl;
      goes = goes q (length (out ++ i ∷ [])) s.left within (length_on i) s.forgets;
    }))

    turns : (i : Instruction) → turned steps starts (table n) q (length out) i ≡ Some i → IsNext i
    turns i e = inr (inr (inl (record {
      new_one = i;
      turned = e;
      pushed = refl;
      falls = λ f. goes q (length (out ++ i ∷ [])) (table n) within (length_on i) (forgetful_itself (table n));
      joins = joins_at (suc q);
    })))

    ends : (i : Instruction) → ending r [] (table n) i ≡ Some i → IsNext i
    ends i e = inr (inr (inr (record { new_one = i; ended = e; pushed = refl; joins = joins_at (suc q) })))

    within_all : (d : ℕ) → suc q + d < l.places → suc q + d < places
    within_all d lt = subst (λ (k : ℕ). suc q + d < k) p lt

    becomes : (i : Instruction) → IsSoundAt l q i → IsNext i
    becomes (Jump d) s = turns (Jump d) (rw (ahead_is q (length out) d here (within_all d s)) refl)
    becomes (JumpBack d) s = turns (JumpBack d) (rw (behind_is q (length out) d here s within) refl)
    becomes (Branch relation a b d) s =
        turns (Branch relation a b d) (rw (holds n a (low n r l same a s.0)) (rw (right n r l same b s.1)
        (rw (ahead_is q (length out) d here (within_all d s.2)) refl)))
    becomes (BranchBack relation a b d) s =
        turns (BranchBack relation a b d) (rw (holds n a (low n r l same a s.0)) (rw (right n r l same b s.1)
        (rw (behind_is q (length out) d here s.2 within) refl)))
    becomes (Return a) s = ends (Return a) (rw (holds n a (low n r l same a s)) refl)
    becomes (Trap error line) s = ends (Trap error line) refl
    becomes End s = ends End refl
    becomes (Literal t z) s = made (Literal t z) (gives n r t (Literal t z) nowhere (low n r l same t s.0) refl)
    becomes (Copy t a) s = made (Copy t a) (gives n r t (Copy t a) (known_in (table n) a).reach (low n r l same t s.0)
        (rw (holds n a (low n r l same a s.1)) refl))
    becomes (Arithmetic operator t a b error line) s = made (Arithmetic operator t a b error line)
        (gives n r t (Arithmetic operator t a b error line) nowhere (low n r l same t s.0)
        (rw (holds n a (low n r l same a s.1)) (rw (right n r l same b s.2) refl)))
    becomes (Bits operator t a b) s = made (Bits operator t a b)
        (gives n r t (Bits operator t a b) nowhere (low n r l same t s.0)
        (rw (holds n a (low n r l same a s.1)) (rw (right n r l same b s.2) refl)))
    becomes (Compare relation t a b) s = made (Compare relation t a b)
        (gives n r t (Compare relation t a b) nowhere (low n r l same t s.0)
        (rw (holds n a (low n r l same a s.1)) (rw (right n r l same b s.2) refl)))
    becomes (CheckRange a lowest highest error line) s = made (CheckRange a lowest highest error line)
        (leaves n r (CheckRange a lowest highest error line) (rw (holds n a (low n r l same a s.0)) refl))
    becomes (CheckPointer a error line) s = made (CheckPointer a error line)
        (record {
          holder = 0;
          left = find a (table n);
          made = rw
              (holds n a (low n r l same a s.0)) refl;
          forgets = found_forgets n a (low n r l same a s.0);
        })
    becomes (Text t bytes) s = made (Text t bytes) (gives n r t (Text t bytes) nowhere (low n r l same t s.0) refl)
    becomes (Offset t b offset extent) s = made (Offset t b offset extent)
        (gives n r t (Offset t b offset extent) (shifted offset (base_reach r b (table n))) (low n r l same t s.0)
        (rw (base_stays n l same b offset extent s.1) refl))
    becomes (Index t b x lowest highest width error line) s = made (Index t b x lowest highest width error line)
        (gives n r t (Index t b x lowest highest width error line)
        (stretched (steps_above lowest highest * width) (base_reach r b (table n))) (low n r l same t s.0)
        (rw (base_stays n l same b 0 0 s.1) (rw (holds n x (low n r l same x s.2)) refl)))
    becomes (RoutineValue t routine) s = made (RoutineValue t routine)
        (gives n r t (RoutineValue t routine) nowhere (low n r l same t s.0) refl)
    becomes (Load t b offset) s = made (Load t b offset) (load_stays n r l same t b offset (low n r l same t s.0) s.1)
    becomes (Store b offset a) s = made (Store b offset a)
        (store_stays n r l same b offset a (low n r l same a s.1) s.0)
    becomes (LoadByte t b offset) s = made (LoadByte t b offset)
        (gives n r t (LoadByte t b offset) nowhere (low n r l same t s.0)
        (rw (base_stays n l same b offset 1 s.1) refl))
    becomes (StoreByte b offset a) s = made (StoreByte b offset a)
        (leaves n r (StoreByte b offset a) (rw (base_stays n l same b offset 1 s.0)
        (rw (holds n a (low n r l same a s.1)) refl)))
    becomes (Take t) s = made (Take t) (gives n r t (Take t) nowhere (low n r l same t s) refl)
    becomes (Put a) s = made (Put a) (leaves n r (Put a) (rw (holds n a (low n r l same a s)) refl))
    becomes (New t object_type line) s = made (New t object_type line)
        (gives n r t (New t object_type line) nowhere (low n r l same t s.0) refl)
    becomes (Call t routine us line) s = made (Call t routine us line)
        (gives n r t (Call t routine us line) Anywhere (low n r l same t s.0) (rw (list n r l same us s.2) refl))
    becomes (CallValue t a us line) s = made (CallValue t a us line)
        (gives n r t (CallValue t a us line) Anywhere (low n r l same t s.0)
        (rw (holds n a (low n r l same a s.1)) (rw (list n r l same us s.2) refl)))

pub body_stays : (r n : ℕ) (step : Step) (l : Limits) (body : List Instruction) → step.join ≡ Some (table n) → length
    step.puts.items ≡ 0 → l.temporaries ≡ n → l.places ≡ length body → IsSoundBody l body → Passed r body body
body_stays r n step l body claims none same p sound = record {
  minded = [];
  steps = repeated step (length body);
  starts = numbers 0 (suc (length body));
  last = table n;
  as_many = length_repeated step (length body);
  walked = record {
    at = λ q. spot (table n) (first q body);
    here = ap (λ (xs : List Instruction). spot (table n) xs) (first_all body);
    begins = and_from (are_passed 0 (rows 0 n)) true (are_passed_rows n 0) refl;
    starts_first = refl;
    joins = λ q le. joins_at n (length body) step claims none q;
    steps_on = λ q i lt e. on q i lt e;
  };
}
  where
    on : (q : ℕ) (i : Instruction) → q < length body → slice_get body q ≡ Some i → Steps r []
        (repeated step (length body)) (numbers 0 (suc (length body))) q i (spot (table n) (first q body))
        (spot (table n) (first (suc q) body))
    on q i lt e =
        let le : q ≤ length body = omega (arith, lt) in
        let here : length (first q body) ≡ q = first_length q body le in
        let planned : puts_at (repeated step (length body)) q ≡ 0 =
        ap puts_of (repeated_at step (length body) q lt) ∙ none in
        record {
          behind = spot (table n) (first q body);
          starts_here = start_at n (length body) step claims none q le ∙ ap (λ (x : ℕ). Some x) (sym here);
          puts = subst (λ (k : ℕ). ArePutIn r [] (table n) (first q body) k (table n) (first q body)) (sym planned)
              (refl, refl);
          becomes = subst (λ (xs : List Instruction). Becomes r [] (repeated step (length body))
              (numbers 0 (suc (length body))) q i (spot (table n) (first q body)) (spot (table n) xs))
              (sym (first_more q body i e))
              (becomes n (length body) step claims none r q (first q body) here lt l same p i (sound q i e));
        }

-- the plan's step at each place: nothing is put in
abbrev step_of : Vec Put_in → ℕ → Step
step_of puts n = record { join = Some (table n); puts = puts; action = Spare }

-- a routine, and another that is equal
pub routine_stays : (r : ℕ) (puts : Vec Put_in) (l : Limits) (routine routine' : TacRoutine) → length puts.items ≡ 0
    → IsSoundRoutine l routine → l.temporaries ≡ routine.temporaries → l.places ≡ length routine.body → routine'
    ≡ routine → PassedRoutine r routine routine'
routine_stays r puts l routine routine' none sound same p e =
    let most : length routine.body ≤ length routine.body = omega arith in
    subst (λ (x : TacRoutine). PassedRoutine r routine x) (sym e) (record {
      heading = record { parameters = refl; frame = refl; scratch = refl; line = refl };
      temporaries = refl;
      body = body_stays r routine.temporaries (step_of puts routine.temporaries) l routine.body refl none same p
          sound.body;
      shorter = most;
    })

-- the same of what a copy gives, where no address is copied and nothing is lean
pub all_stay : {E : Type 0} (r : ℕ) (puts : Vec Put_in) (l : Limits) (routine : TacRoutine)
    (result : Result TacRoutine E) → length puts.items ≡ 0 → IsSoundRoutine l routine → l.temporaries
    ≡ routine.temporaries → l.places ≡ length routine.body → IfOk result (λ copy. copy ≡ routine)
    → IfOk result (PassesRoutine r routine)
all_stay r puts l routine (Ok copy) none sound same p h =
    subst (λ (x : TacRoutine). PassesRoutine r routine x) (sym h) (record {
      between = routine;
      copied = routine;
      passed = routine_stays r puts l routine routine none sound same p refl;
      again = record {
        heading = record { parameters = refl; frame = refl; scratch = refl; line = refl };
        temporaries = refl;
        body = itself_again routine.body;
      };
      cleared = routine;
      spared = routine_stays r puts l routine routine none sound same p refl;
      lean = record {
        heading = record { parameters = refl; frame = refl; scratch = refl; line = refl };
        temporaries = omega arith;
        body = itself_is_lean routine.body;
      };
    })
all_stay r puts l routine (Err e) none sound same p h = h
