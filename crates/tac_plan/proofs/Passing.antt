-- What plans make of routines, with copies, what is lean of it, and what plans make of that.
use Rattle.std.proofs.Common.{◌≡◌, ℕ, zero, suc, ◌+◌, ◌≤◌, ◌++◌, List, [], ◌∷◌, length, slice_get, Some, None}
use Rattle.std.proofs.Common.{refl, sym, ap, ◌∙◌, subst, arith, zero-add}
use Rattle.std.proofs.lemmas.Option.{none-some, same_Some}
use Rattle.std.specs.Prelude.{IfOk, IfSome, Option, Result, Ok, Err}
use Rattle.std.specs.Global.{Vec}
use Rattle.tac_code.specs.declared.code.Instruction.{Instruction}
use Rattle.tac_code.specs.declared.code.TacRoutine.{TacRoutine}
use Rattle.tac_code.specs.Meaning.{Code}
use Rattle.tac_pass.specs.Walk.{Passed, PassedRoutine}
use Rattle.tac_pass.proofs.Passing.{routine_passed, so_far_many, so_far_more as passed_more, are_passed}
use Rattle.tac_pass_laws.specs.Passed.{most_temporaries, IsPassed}
use Rattle.tac_pass_laws.proofs.Passed.{planned_are_passed, passes_compose}
use Rattle.tac_known.specs.Again.{AgainBody, AgainRoutine}
use Rattle.tac_known.specs.Lean.{LeanBody, LeanRoutine}
use Rattle.tac_known.proofs.AgainRoom.{again_are_passed}
use Rattle.tac_known.proofs.Room.{lean_are_passed}
use Rattle.tac_plan.specs.Passes.{PassesBody, PassesRoutine, OneByOne, Each, PassesSoFar, Passes}

-- what a plan makes of lean code of a body that plans made, and copies between
pub body_passes : {E : Type 0} (r : ℕ) (body : List Instruction) (between copied cleared : Vec Instruction)
    (result : Result (Option (Vec Instruction)) E) → Passed r body between.items → length between.items ≤ length body
    → AgainBody between.items copied.items → LeanBody copied.items cleared.items
    → IfOk result (λ made. IfSome made (λ new_body. Passed r cleared.items new_body.items))
    → IfOk result (λ made. IfSome made (λ new_body. length new_body.items ≤ length cleared.items))
    → IfOk result (λ made. IfSome made (λ new_body. PassesBody r body new_body.items))
body_passes r body between copied cleared (Ok (Some new_body)) passed short again lean spared less = record {
  between = between.items;
  copied = copied.items;
  cleared = cleared.items;
  passed = passed;
  shorter = short;
  again = again;
  lean = lean;
  spared = spared;
  shorter_yet = less;
}
body_passes r body between copied cleared (Ok None) passed short again lean spared less = spared
body_passes r body between copied cleared (Err e) passed short again lean spared less = spared

pub routine_passes : (r : ℕ) (routine routine' : TacRoutine) → routine'.parameters ≡ routine.parameters
    → routine'.temporaries ≤ most_temporaries routine → routine'.frame ≡ routine.frame →
    routine'.scratch ≡ routine.scratch
    → routine'.line ≡ routine.line → PassesBody r routine.body routine'.body → PassesRoutine r routine routine'
routine_passes r routine routine' p t f s l b = record {
  between = between;
  copied = copied;
  cleared = cleared;
  passed = routine_passed r routine between refl refl refl refl refl b.passed b.shorter;
  again = record {
    heading = record { parameters = refl; frame = refl; scratch = refl; line = refl };
    temporaries = refl;
    body = b.again;
  };
  lean = record {
    heading = record { parameters = refl; frame = refl; scratch = refl; line = refl };
    temporaries = t;
    body = b.lean;
  };
  spared = routine_passed r cleared routine' p refl f s l b.spared b.shorter_yet;
}
  where
    with_body : List Instruction → TacRoutine
    with_body body = record {
      parameters = routine.parameters;
      temporaries = routine.temporaries;
      frame = routine.frame;
      scratch = routine.scratch;
      line = routine.line;
      body = body;
    }

    between : TacRoutine
    between = with_body b.between

    copied : TacRoutine
    copied = with_body b.copied

    cleared : TacRoutine
    cleared = record {
      parameters = routine.parameters;
      temporaries = routine'.temporaries;
      frame = routine.frame;
      scratch = routine.scratch;
      line = routine.line;
      body = b.cleared;
    }

-- ---- lists of routines

module _ (Related : ℕ → TacRoutine → TacRoutine → Type 0) where
  one_more : (r : ℕ) (xs ys : List TacRoutine) (x y : TacRoutine) → OneByOne Related r xs ys
      → Related (r + length xs) x y → OneByOne Related r (xs ++ x ∷ []) (ys ++ y ∷ [])
  one_more r [] [] x y are related =
      let at : r + 0 ≡ r = omega arith in (subst (λ (k : ℕ). Related k x y) at related, tt)
  one_more r [] (w ∷ ys) x y are related = absurd are
  one_more r (z ∷ xs) [] x y are related = absurd are
  one_more r (z ∷ xs) (w ∷ ys) x y (first, others) related =
      let at : r + suc (length xs) ≡ suc r + length xs = omega arith in
      (first, one_more (suc r) xs ys x y others (subst (λ (k : ℕ). Related k x y) at related))

  both_lists : (r : ℕ) (xs ys xs' ys' : List TacRoutine) → OneByOne Related r xs ys
      → OneByOne Related (r + length xs) xs' ys' → OneByOne Related r (xs ++ xs') (ys ++ ys')
  both_lists r [] [] xs' ys' are are' =
      let at : r + 0 ≡ r = omega arith in subst (λ (k : ℕ). OneByOne Related k xs' ys') at are'
  both_lists r [] (w ∷ ys) xs' ys' are are' = absurd are
  both_lists r (z ∷ xs) [] xs' ys' are are' = absurd are
  both_lists r (z ∷ xs) (w ∷ ys) xs' ys' (first, others) are' =
      let at : r + suc (length xs) ≡ suc r + length xs = omega arith in
      (first, both_lists (suc r) xs ys xs' ys' others (subst (λ (k : ℕ). OneByOne Related k xs' ys') at are'))

  as_many : (r : ℕ) (xs ys : List TacRoutine) → OneByOne Related r xs ys → length ys ≡ length xs
  as_many r [] [] are = refl
  as_many r [] (y ∷ ys) are = absurd are
  as_many r (x ∷ xs) [] are = absurd are
  as_many r (x ∷ xs) (y ∷ ys) (first, others) = ap suc (as_many (suc r) xs ys others)

  one_at : (r : ℕ) (xs ys : List TacRoutine) (n : ℕ) (x : TacRoutine) → OneByOne Related r xs ys
      → slice_get xs n ≡ Some x → (y : TacRoutine) × (slice_get ys n ≡ Some y) × Related (r + n) x y
  one_at r [] ys n x are e = absurd (none-some x e)
  one_at r (z ∷ xs) [] n x are e = absurd are
  one_at r (z ∷ xs) (y ∷ ys) zero x (first, others) e =
      let at : r ≡ r + 0 = omega arith in (
        y,
        refl,
        subst (λ (k : ℕ). Related k x y) at (subst (λ (w : TacRoutine). Related r w y) (same_Some z x e) first),
      )
  one_at r (z ∷ xs) (y ∷ ys) (suc n) x (first, others) e =
      let at : suc r + n ≡ r + suc n = omega arith in let one = one_at (suc r) xs ys n x others e in
      (one.0, one.1, subst (λ (k : ℕ). Related k x one.0) at one.2)

pub so_far_none : (first : ℕ) (olds news : List TacRoutine) → news ≡ [] → PassesSoFar first olds 0 news
so_far_none first olds news e = record {
  between = [];
  copied = [];
  cleared = [];
  passed = refl;
  again = tt;
  lean = tt;
  spared = subst (λ (l : List TacRoutine). OneByOne PassedRoutine first [] l) (sym e) tt;
}

pub so_far_more : (first : ℕ) (olds : List TacRoutine) (n : ℕ) (before news : List TacRoutine) (old new : TacRoutine)
    → PassesSoFar first olds n before → slice_get olds n ≡ Some old → PassesRoutine (first + n) old new → news ≡ before
    ++ new ∷ [] → PassesSoFar first olds (n + 1) news
so_far_more first olds n before news old new so_far e p is = record {
  between = so_far.between ++ p.between ∷ [];
  copied = so_far.copied ++ p.copied ∷ [];
  cleared = so_far.cleared ++ p.cleared ∷ [];
  passed = passed_more first olds n so_far.between (so_far.between ++ p.between ∷ []) old p.between so_far.passed e
      p.passed refl;
  again = one_more (Each AgainRoutine) first so_far.between so_far.copied p.between p.copied so_far.again p.again;
  lean = one_more (Each LeanRoutine) first so_far.copied so_far.cleared p.copied p.cleared so_far.lean p.lean;
  spared = subst (λ (l : List TacRoutine). OneByOne PassedRoutine first (so_far.cleared ++ p.cleared ∷ []) l) (sym is)
      (one_more PassedRoutine first so_far.cleared before p.cleared new so_far.spared
      (subst (λ (k : ℕ). PassedRoutine (first + k) p.cleared new) (sym many) p.spared));
}
  where
    many : length so_far.cleared ≡ n
    many =
        as_many (Each LeanRoutine) first so_far.copied so_far.cleared so_far.lean
        ∙ as_many (Each AgainRoutine) first so_far.between so_far.copied so_far.again
        ∙ so_far_many first olds n so_far.between so_far.passed

-- of both lists of a code
pub passes : (old new : Code) → new.objects ≡ old.objects → PassesSoFar 0 old.program (length old.program) new.program
    → PassesSoFar (length old.program) old.run_time (length old.run_time) new.run_time → Passes old new
passes old new o p q = record {
  between = between;
  copied = copied;
  cleared = cleared;
  passed = are_passed old between refl p.passed q.passed;
  again = record {
    program = as_many (Each AgainRoutine) 0 p.between p.copied p.again;
    run_time = as_many (Each AgainRoutine) first q.between q.copied q.again;
    objects = refl;
    routines = λ r routine e.
        one_at (Each AgainRoutine) 0 (p.between ++ q.between) (p.copied ++ q.copied) r routine
        (both_lists (Each AgainRoutine) 0 p.between p.copied q.between q.copied p.again
        (subst (λ (k : ℕ). OneByOne (Each AgainRoutine) k q.between q.copied) (sym many_between) q.again)) e;
  };
  lean = record {
    program = as_many (Each LeanRoutine) 0 p.copied p.cleared p.lean;
    run_time = as_many (Each LeanRoutine) first q.copied q.cleared q.lean;
    objects = refl;
    routines = λ r routine e.
        one_at (Each LeanRoutine) 0 (p.copied ++ q.copied) (p.cleared ++ q.cleared) r routine
        (both_lists (Each LeanRoutine) 0 p.copied p.cleared q.copied q.cleared p.lean
        (subst (λ (k : ℕ). OneByOne (Each LeanRoutine) k q.copied q.cleared) (sym many_copied) q.lean)) e;
  };
  spared = record {
    program = as_many PassedRoutine 0 p.cleared new.program p.spared;
    run_time = as_many PassedRoutine first q.cleared new.run_time q.spared;
    objects = o;
    routines = λ r routine e.
        let one = one_at PassedRoutine 0 (p.cleared ++ q.cleared) (new.program ++ new.run_time) r routine
        (both_lists PassedRoutine 0 p.cleared new.program q.cleared new.run_time p.spared
        (subst (λ (k : ℕ). OneByOne PassedRoutine k q.cleared new.run_time) (sym many_cleared) q.spared)) e in
        (one.0, one.1, subst (λ (k : ℕ). PassedRoutine k routine one.0) (zero-add r) one.2);
  };
}
  where
    first : ℕ
    first = length old.program

    between : Code
    between = record { program = p.between; run_time = q.between; objects = old.objects }

    copied : Code
    copied = record { program = p.copied; run_time = q.copied; objects = old.objects }

    cleared : Code
    cleared = record { program = p.cleared; run_time = q.cleared; objects = old.objects }

    as_between : length p.between ≡ first
    as_between = so_far_many 0 old.program (length old.program) p.between p.passed

    as_copied : length p.copied ≡ first
    as_copied = as_many (Each AgainRoutine) 0 p.between p.copied p.again ∙ as_between

    as_cleared : length p.cleared ≡ first
    as_cleared = as_many (Each LeanRoutine) 0 p.copied p.cleared p.lean ∙ as_copied

    many_between : 0 + length p.between ≡ first
    many_between = zero-add (length p.between) ∙ as_between

    many_copied : 0 + length p.copied ≡ first
    many_copied = zero-add (length p.copied) ∙ as_copied

    many_cleared : 0 + length p.cleared ≡ first
    many_cleared = zero-add (length p.cleared) ∙ as_cleared

-- ---- what that is for

-- the new code may stand in the place of the old one
pub is_passed : (old new : Code) → Passes old new → IsPassed old new
is_passed old new p =
    passes_compose old p.between new (planned_are_passed old p.between p.passed)
    (passes_compose p.between p.copied new (again_are_passed p.between p.copied p.again)
    (passes_compose p.copied p.cleared new (lean_are_passed p.copied p.cleared p.lean)
    (planned_are_passed p.cleared new p.spared)))
