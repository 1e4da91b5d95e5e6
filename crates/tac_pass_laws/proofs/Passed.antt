-- Code that stands in the place of other code.
use Rattle.std.proofs.Common.{◌≡◌, inl, inr, ℕ, zero, suc, ◌<◌, ◌≤◌, List, [], ◌∷◌, ◌++◌, length, slice_get, Some, refl}
use Rattle.std.proofs.Common.{sym, ap, ◌∙◌, subst, arith}
use Rattle.std.proofs.lemmas.Option.{slice_get_within}
use Rattle.behavior.specs.Endings.{Ending, Stuck, IsMore}
use Rattle.behavior.specs.Transcripts.{Shown, GoesOn}
use Rattle.behavior.proofs.Sameness.{same_has_converse}
use Rattle.tac_code.specs.declared.code.TacRoutine.{TacRoutine}
use Rattle.tac_code.specs.Meaning.{Code}
use Rattle.tac_code.proofs.Items.{get_stays}
use Rattle.tac_code_laws.proofs.Growth.{run_goes_on}
use Rattle.tac_code_steps.specs.InTurns.{Setting, shows, ShowsInTurns}
use Rattle.tac_code_steps.proofs.Counting.{in_turns_is_same}
use Rattle.tac_pass.specs.Keeps.{Keeps}
use Rattle.tac_pass.specs.Follows.{SameHeading}
use Rattle.tac_pass.specs.Walk.{ArePassed}
use Rattle.tac_pass.proofs.Counting.{keeping_composes}
use Rattle.tac_pass.proofs.Passing.{passed_keeps}
use Rattle.tac_pass_laws.specs.Passed.{room, IsPassed}
use Rattle.tac_pass_laws.specs.Laws.{DoesAs}

-- ---- routines of a program, among all of its code

in_first : {X : Type 0} (xs ys : List X) (r : ℕ) (x : X) → r < length xs → slice_get (xs ++ ys) r ≡ Some x → slice_get
    xs r ≡ Some x
in_first [] ys r x lt e = absurd (omega (arith, lt))
in_first (z ∷ xs) ys zero x lt e = e
in_first (z ∷ xs) ys (suc r) x lt e = in_first xs ys r x (omega (arith, lt)) e

-- ---- the room of code that was made by plans

within_room : (routine routine' : TacRoutine) → SameHeading routine routine' →
    routine'.temporaries ≡ routine.temporaries
    → room routine' ≤ room routine
within_room routine routine' h t =
    let p = h.parameters in let f = h.frame in let s = h.scratch in omega (arith, p, f, s, t)

module _ (old new : Code) (passed : ArePassed old new) where
  sizes : (r : ℕ) (routine : TacRoutine) → slice_get old.program r ≡ Some routine → (routine' : TacRoutine)
      × (slice_get new.program r ≡ Some routine') × (room routine' ≤ room routine)
  sizes r routine e =
      let one = passed.routines r routine (get_stays old.program old.run_time r routine e) in
      let lt : r < length old.program = slice_get_within old.program r routine e in
      let as_many = passed.program in (
        one.0,
        in_first new.program new.run_time r one.0 (omega (arith, lt, as_many)) one.1,
        within_room routine one.0 one.2.heading one.2.temporaries,
      )

pub planned_are_passed : (old new : Code) → ArePassed old new → IsPassed old new
planned_are_passed old new passed = record {
  keeps = passed_keeps old new passed;
  room = record {
    program = passed.program;
    run_time = passed.run_time;
    objects = passed.objects;
    sizes = sizes old new passed;
  };
}

-- ---- the code itself, and one pass behind another

pub unchanged_are_passed : (code : Code) → IsPassed code code
unchanged_are_passed code = record {
  keeps = λ p n goes. (n, refl, refl);
  room = record { program = refl; run_time = refl; objects = refl; sizes = λ r routine e. (routine, e, omega arith) };
}

pub passes_compose : (first second third : Code) → IsPassed first second → IsPassed second third → IsPassed first third
passes_compose first second third a b =
    record {
      keeps = keeps;
      room = record {
        program = b.room.program ∙ a.room.program;
        run_time = b.room.run_time ∙ a.room.run_time;
        objects = b.room.objects ∙ a.room.objects;
        sizes = λ r routine e.
            let x = a.room.sizes r routine e in
            let y = b.room.sizes r x.0 x.1 in
            let one = x.2 in
            let other = y.2 in
            (y.0, y.1, omega (arith, one, other));
      };
    }
  where
    keeps : Keeps first third
    keeps p n goes =
        let x = a.keeps p n goes in
        let y = b.keeps p x.0 (λ stuck. goes (ap (λ (s : Shown). s.1) (sym x.1) ∙ stuck)) in
        (y.0, y.1 ∙ x.1, y.2 ∙ x.2)

-- ---- what the new code does

-- what is stuck does not go on
no_more : (e : Ending) → e ≡ Stuck → IsMore e → ⊥
no_more e stuck more = subst IsMore stuck more

stuck_in : (x y : Shown) → GoesOn IsMore x y → x.1 ≡ Stuck → y.1 ≡ Stuck
stuck_in x y (inl e) stuck = ap (λ (s : Shown). s.1) (sym e) ∙ stuck
stuck_in x y (inr h) stuck = absurd (no_more x.1 stuck h.0)

pub passed_does : (a : ℕ → Shown) (old new : Code) (p : Setting) → ((n : ℕ) → (a n).1 ≡ Stuck → ⊥)
    → ShowsInTurns a old p → IsPassed old new → DoesAs a new p
passed_does a old new p goes shown passed =
    let same = in_turns_is_same a new p (keeping_composes a old new p goes passed.keeps shown) in
    record {
      same = same;
      goes_on = λ n stuck.
          let c = same_has_converse a (shows new p) (run_goes_on new p.frames p.objects p.stack p.heap p.input) same n
          in
          goes c.0 (stuck_in (shows new p n) (a c.0) c.1 stuck);
    }
