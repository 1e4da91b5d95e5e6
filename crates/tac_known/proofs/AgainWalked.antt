-- The walk that copies addresses makes what the definitions say.
use Rattle.std.proofs.Common.{◌≡◌, ◌≢◌, ◌⊎◌, inl, inr, ℕ, zero, suc, ◌+◌, ◌-◌, ◌<◌, ◌≤◌, Bool, true, false}
use Rattle.std.proofs.Common.{List, [], ◌∷◌, length, slice_get, slice_set, Some}
use Rattle.std.proofs.Common.{None, Option, refl, sym, ap, ◌∙◌, subst, arith, nat_eq, if◌then◌else◌, eqb-true}
use Rattle.std.proofs.lemmas.Bool.{cases_eq, true≢false}
use Rattle.std.proofs.lemmas.Option.{none-some, same_Some}
use Rattle.tac_code.specs.declared.code.Instruction.{Instruction}
use Rattle.tac_code.specs.declared.code.Instruction.TheVariants.{Literal, Copy, Arithmetic, Bits, Compare, CheckRange}
use Rattle.tac_code.specs.declared.code.Instruction.TheVariants.{CheckPointer, Text, Offset, Index, RoutineValue, Load}
use Rattle.tac_code.specs.declared.code.Instruction.TheVariants.{Store, LoadByte, StoreByte, Jump, JumpBack, Branch}
use Rattle.tac_code.specs.declared.code.Instruction.TheVariants.{BranchBack, Call, CallValue, Return, Trap, Take, Put}
use Rattle.tac_code.specs.declared.code.Instruction.TheVariants.{New, End}
use Rattle.tac_code.proofs.Items.{set_length}
use Rattle.tac_pass.proofs.Words.{get_set_same, get_set_other}
use Rattle.tac_known.specs.declared.again.Facts.{Facts}
use Rattle.tac_known.specs.declared.again.Later.{Later}
use Rattle.tac_known.specs.declared.again.Waiting.{Waiting}
use Rattle.tac_known.specs.declared.again.Standing.{Standing}
use Rattle.tac_known.specs.declared.again.marks.Mark.{Mark}
use Rattle.tac_known.specs.declared.again.marks.Mark.TheVariants.{Clear, Once, Often}
use Rattle.tac_known.specs.Walk.{goes_on_to_next}
use Rattle.tac_known.specs.Again.{no_facts, again, held_behind, IsNoMore, GoesOn, AgainBody, mark_at, may_lead}
use Rattle.tac_known.specs.Again.{is_often, is_once, leads_to_marks, with_later, facts_from, forward_of, wait_for}
use Rattle.tac_known.specs.Again.{next_facts, at_begin, waits_behind, step, step_over, standing_at}

-- a jump that a mark allows is the only one, or any may
once_or_often : (mark : Mark) (place : ℕ) → may_lead mark place ≡ true → (mark ≡ Often) ⊎ (mark ≡ Once place)
once_or_often Clear place e = absurd (true≢false (sym e))
once_or_often (Once from) place e = inr (ap Once (eqb-true from place e))
once_or_often Often place e = inl refl

often_is : (mark : Mark) → is_often mark ≡ true → mark ≡ Often
often_is Clear e = absurd (true≢false (sym e))
often_is (Once from) e = absurd (true≢false (sym e))
often_is Often e = refl

-- one place further, by parts
pub stepped : (marks : List Mark) (place next : ℕ) (i : Instruction) (s : Standing) (mark : Mark) (forward : Option ℕ)
    (facts : Facts) (waiting : Waiting) → next ≡ place + 1 → mark ≡ mark_at marks next → forward ≡ forward_of i
    → waiting ≡ wait_for marks place forward s.facts s.waiting
    → facts ≡ next_facts mark waiting (goes_on_to_next i) (held_behind s.facts i)
    → (record { facts = facts; waiting = waiting }) ≡ step marks place i s
stepped marks place next i s mark forward facts waiting n m f w e =
    let here : mark ≡ mark_at marks (suc place) =
    m ∙ ap (mark_at marks) (n ∙ (let one : place + 1 ≡ suc place = omega arith in one)) in
    let waits : waiting ≡ waits_behind marks place i s = w ∙ ap (λ f. wait_for marks place f s.facts s.waiting) f in
    let known : facts ≡ (step marks place i s).facts =
    e ∙ ap (λ k. next_facts k waiting (goes_on_to_next i) (held_behind s.facts i)) here
    ∙ ap (λ v. next_facts (mark_at marks (suc place)) v (goes_on_to_next i) (held_behind s.facts i)) waits in
    let both : Facts → Waiting → Standing = λ k v. record { facts = k; waiting = v } in
    ap (λ k. both k waiting) known ∙ ap (both (step marks place i s).facts) waits

module _ (marks : List Mark) (body : List Instruction) where
  abbrev at : ℕ → Facts
  at place = (standing_at marks body place).facts

  -- ---- what waits is what is known where the jumps stand

  abbrev IsTold : Later → Type 0
  IsTold later = later.facts ≡ at later.from

  record AreTold (waiting : Waiting) : Type 0 where
    pub first : IsTold waiting.first
    pub second : IsTold waiting.second
    pub third : IsTold waiting.third
    pub fourth : IsTold waiting.fourth

  begin_told : AreTold at_begin.waiting
  begin_told = record { first = refl; second = refl; third = refl; fourth = refl }

  wait_told : (n : ℕ) (forward : Option ℕ) (waiting : Waiting) → AreTold waiting
      → AreTold (wait_for marks n forward (at n) waiting)
  wait_told n None waiting told = told
  wait_told n (Some k) waiting told = which (is_once (mark_at marks (suc n + k)))
    where
      which : (b : Bool) → AreTold (if b then with_later n (at n) waiting else waiting)
      which true = record { first = refl; second = told.first; third = told.second; fourth = told.third }
      which false = told

  all_told : (n : ℕ) → AreTold (standing_at marks body n).waiting
  all_told zero = begin_told
  all_told (suc n) = which (slice_get body n) (all_told n)
    where
      which : (o : Option Instruction) → AreTold (standing_at marks body n).waiting
          → AreTold (step_over marks n o (standing_at marks body n)).waiting
      which None told = begin_told
      which (Some i) told = wait_told n (forward_of i) (standing_at marks body n).waiting told

  abbrev IsFrom : ℕ → Facts → Type 0
  IsFrom q facts = IsNoMore (at q) facts

  or_else : (q : ℕ) (later : Later) (rest : Facts) → IsTold later → IsFrom q rest
      → IsFrom q (if nat_eq later.from q then later.facts else rest)
  or_else q later rest told r = which (nat_eq later.from q) refl
    where
      which : (b : Bool) → nat_eq later.from q ≡ b → IsFrom q (if b then later.facts else rest)
      which true e = inr (told ∙ ap at (eqb-true later.from q e))
      which false e = r

  from_told : (q : ℕ) (waiting : Waiting) → AreTold waiting → IsFrom q (facts_from waiting q)
  from_told q waiting told =
      or_else q waiting.first _ told.first (or_else q waiting.second _ told.second
      (or_else q waiting.third _ told.third (or_else q waiting.fourth no_facts told.fourth (inl refl))))

  -- ---- where jumps lead

  often_at : (place : ℕ) → mark_at marks place ≡ Often → at place ≡ no_facts
  often_at zero e = refl
  often_at (suc n) e = which (slice_get body n)
    where
      which : (o : Option Instruction) → (step_over marks n o (standing_at marks body n)).facts ≡ no_facts
      which None = refl
      which (Some i) =
          ap (λ m. next_facts m (waits_behind marks n i (standing_at marks body n)) (goes_on_to_next i)
          (held_behind (at n) i)) e

  once_at : (place q : ℕ) → mark_at marks place ≡ Once q → IsFrom q (at place)
  once_at zero q e = inl refl
  once_at (suc n) q e = which (slice_get body n)
    where
      by_way : (waiting : Waiting) (goes : Bool) (behind : Facts) → AreTold waiting
          → IsFrom q (next_facts (Once q) waiting goes behind)
      by_way waiting true behind told = inl refl
      by_way waiting false behind told = from_told q waiting told

      which : (o : Option Instruction) → IsFrom q (step_over marks n o (standing_at marks body n)).facts
      which None = inl refl
      which (Some i) =
          subst (λ m. IsFrom q (next_facts m (waits_behind marks n i (standing_at marks body n)) (goes_on_to_next i)
          (held_behind (at n) i))) (sym e)
          (by_way (waits_behind marks n i (standing_at marks body n)) (goes_on_to_next i) (held_behind (at n) i)
          (wait_told n (forward_of i) (standing_at marks body n).waiting (all_told n)))

  leads_at : (place target : ℕ) → may_lead (mark_at marks target) place ≡ true → IsNoMore (at place) (at target)
  leads_at place target e = which (once_or_often (mark_at marks target) place e)
    where
      which : (mark_at marks target ≡ Often) ⊎ (mark_at marks target ≡ Once place) → IsNoMore (at place) (at target)
      which (inl f) = inl (often_at target f)
      which (inr f) = once_at target place f

  back_at : (target : ℕ) → is_often (mark_at marks target) ≡ true → at target ≡ no_facts
  back_at target e = often_at target (often_is (mark_at marks target) e)

  falls_at : (place : ℕ) (i : Instruction) → slice_get body place ≡ Some i → goes_on_to_next i ≡ true
      → IsNoMore (held_behind (at place) i) (at (suc place))
  falls_at place i there goes =
      subst (IsNoMore (held_behind (at place) i))
      (sym (ap (λ o. (step_over marks place o (standing_at marks body place)).facts) there
      ∙ ap (λ b. next_facts (mark_at marks (suc place)) (waits_behind marks place i (standing_at marks body place)) b
      (held_behind (at place) i)) goes)) (which (mark_at marks (suc place)))
    where
      which : (m : Mark) → IsNoMore (held_behind (at place) i)
          (next_facts m (waits_behind marks place i (standing_at marks body place)) true (held_behind (at place) i))
      which Clear = inr refl
      which (Once from) = inl refl
      which Often = inl refl

  goes_well : (place : ℕ) (i : Instruction) → slice_get body place ≡ Some i → leads_to_marks marks place i ≡ true
      → GoesOn at place i
  goes_well place (Literal x0 x1) there w = falls_at place (Literal x0 x1) there refl
  goes_well place (Copy x0 x1) there w = falls_at place (Copy x0 x1) there refl
  goes_well place (Arithmetic x0 x1 x2 x3 x4 x5) there w = falls_at place (Arithmetic x0 x1 x2 x3 x4 x5) there refl
  goes_well place (Bits x0 x1 x2 x3) there w = falls_at place (Bits x0 x1 x2 x3) there refl
  goes_well place (Compare x0 x1 x2 x3) there w = falls_at place (Compare x0 x1 x2 x3) there refl
  goes_well place (CheckRange x0 x1 x2 x3 x4) there w = falls_at place (CheckRange x0 x1 x2 x3 x4) there refl
  goes_well place (CheckPointer x0 x1 x2) there w = falls_at place (CheckPointer x0 x1 x2) there refl
  goes_well place (Text x0 x1) there w = falls_at place (Text x0 x1) there refl
  goes_well place (Offset x0 x1 x2 x3) there w = falls_at place (Offset x0 x1 x2 x3) there refl
  goes_well place (Index x0 x1 x2 x3 x4 x5 x6 x7) there w = falls_at place (Index x0 x1 x2 x3 x4 x5 x6 x7) there refl
  goes_well place (RoutineValue x0 x1) there w = falls_at place (RoutineValue x0 x1) there refl
  goes_well place (Load x0 x1 x2) there w = falls_at place (Load x0 x1 x2) there refl
  goes_well place (Store x0 x1 x2) there w = falls_at place (Store x0 x1 x2) there refl
  goes_well place (LoadByte x0 x1 x2) there w = falls_at place (LoadByte x0 x1 x2) there refl
  goes_well place (StoreByte x0 x1 x2) there w = falls_at place (StoreByte x0 x1 x2) there refl
  goes_well place (Call x0 x1 x2 x3) there w = falls_at place (Call x0 x1 x2 x3) there refl
  goes_well place (CallValue x0 x1 x2 x3) there w = falls_at place (CallValue x0 x1 x2 x3) there refl
  goes_well place (Take x0) there w = falls_at place (Take x0) there refl
  goes_well place (Put x0) there w = falls_at place (Put x0) there refl
  goes_well place (New x0 x1 x2) there w = falls_at place (New x0 x1 x2) there refl
  goes_well place (Jump n) there w = leads_at place (suc place + n) w
  goes_well place (JumpBack n) there w = back_at (place - n) w
  goes_well place (Branch relation a b n) there w =
      (leads_at place (suc place + n) w, falls_at place (Branch relation a b n) there refl)
  goes_well place (BranchBack relation a b n) there w =
      (back_at (place - n) w, falls_at place (BranchBack relation a b n) there refl)
  goes_well place (Return x0) there w = tt
  goes_well place (Trap x0 x1) there w = tt
  goes_well place End there w = tt

  -- ---- the loop over the body

  pub record WalkedTo (n : ℕ) (body' : List Instruction) (standing : Standing) : Type 0 where
    pub as_many : length body' ≡ length body
    pub now : standing ≡ standing_at marks body n
    pub places : (place : ℕ) (i : Instruction) → place < n → slice_get body place ≡ Some i →
        (slice_get body' place ≡ Some
        (again (at place) i)) × (leads_to_marks marks place i ≡ true)
    pub rest : (place : ℕ) → n ≤ place → slice_get body' place ≡ slice_get body place

  pub walks_on : (n : ℕ) (body' : List Instruction) (standing standing' : Standing) (i i' : Instruction)
      → WalkedTo n body' standing → slice_get body' n ≡ Some i → leads_to_marks marks n i ≡ true
      → i' ≡ again standing.facts i → standing' ≡ step marks n i standing → n < length body'
      → WalkedTo (n + 1) (slice_set body' n i') standing'
  walks_on n body' standing standing' i i' w e well made taken below = record {
    as_many = set_length body' n i' ∙ w.as_many;
    now =
        taken ∙ (ap (step marks n i) w.now ∙ sym (ap (λ o. step_over marks n o (standing_at marks body n)) there)
        ∙ (let next : suc n ≡ n + 1 = omega arith in ap (standing_at marks body) next));
    places = λ place j l f. by_case place j l f (cases_eq place n);
    rest = λ place l.
        let ne : place ≢ n = λ same. omega (arith, l, same) in
        get_set_other body' n place i' ne ∙ w.rest place (omega (arith, l));
  }
    where
      there : slice_get body n ≡ Some i
      there = sym (w.rest n (omega arith)) ∙ e

      here : (j : Instruction) → slice_get body n ≡ Some j → (slice_get (slice_set body' n i') n
          ≡ Some (again (at n) j))
          × (leads_to_marks marks n j ≡ true)
      here j f =
          let same : i ≡ j = same_Some i j (sym there ∙ f) in (
            get_set_same body' n i' below ∙ ap Some (made ∙ ap (λ (s : Standing). again s.facts i) w.now
                ∙ ap (again (at n)) same),
            subst (λ j. leads_to_marks marks n j ≡ true) same
                well,
          )

      by_case : (place : ℕ) (j : Instruction) → place < n + 1 → slice_get body place ≡ Some j
          → (place ≡ n) ⊎ (place ≢ n)
          → (slice_get (slice_set body' n i') place ≡ Some (again (at place) j)) × (leads_to_marks marks place j ≡ true)
      by_case place j l f (inl same) =
          subst (λ q. (slice_get (slice_set body' n i') q ≡ Some (again (at q) j)) × (leads_to_marks marks q j ≡ true))
          (sym same) (here j (ap (slice_get body) (sym same) ∙ f))
      by_case place j l f (inr ne) =
          let p = w.places place j (omega (arith, l, ne)) f in (get_set_other body' n place i' ne ∙ p.0, p.1)

  within : {X : Type 0} (xs : List X) (k : ℕ) (x : X) → slice_get xs k ≡ Some x → k < length xs
  within [] k x e = absurd (none-some x e)
  within (y ∷ xs) zero x e = omega arith
  within (y ∷ xs) (suc k) x e = let l = within xs k x e in omega (arith, l)

  pub walked_whole : (body' : List Instruction) (standing : Standing) → WalkedTo (length body) body' standing
      → AgainBody body body'
  walked_whole body' standing w = record {
    at = at;
    begins = refl;
    as_many = w.as_many;
    there = λ place i e. (w.places place i (within body place i e) e).0;
    goes_on = λ place i e. goes_well place i e (w.places place i (within body place i e) e).1;
  }
