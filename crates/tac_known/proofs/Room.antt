-- Lean code has the room of the code that it was made from.
use Rattle.std.proofs.Common.{◌≡◌, ℕ, zero, suc, ◌<◌, ◌≤◌, List, [], ◌∷◌, ◌++◌, length, slice_get, Some, arith}
use Rattle.std.proofs.lemmas.Option.{slice_get_within}
use Rattle.tac_code.specs.declared.code.TacRoutine.{TacRoutine}
use Rattle.tac_code.specs.Meaning.{Code}
use Rattle.tac_code.proofs.Items.{get_stays}
use Rattle.tac_pass_laws.specs.Passed.{room, IsPassed}
use Rattle.tac_known.specs.Lean.{LeanRoutine, IsLean}
use Rattle.tac_known.proofs.Whole.{lean_keeps}

pub in_first : {X : Type 0} (xs ys : List X) (r : ℕ) (x : X) → r < length xs → slice_get (xs ++ ys) r ≡ Some x →
    slice_get
    xs r ≡ Some x
in_first [] ys r x lt e = absurd (omega (arith, lt))
in_first (z ∷ xs) ys zero x lt e = e
in_first (z ∷ xs) ys (suc r) x lt e = in_first xs ys r x (omega (arith, lt)) e

within_room : (routine routine' : TacRoutine) → LeanRoutine routine routine' → room routine' ≤ room routine
within_room routine routine' l =
    let p = l.heading.parameters in
    let f = l.heading.frame in
    let s = l.heading.scratch in
    let t = l.temporaries in
    omega (arith, p, f, s, t)

pub lean_are_passed : (old new : Code) → IsLean old new → IsPassed old new
lean_are_passed old new made = record {
  keeps = lean_keeps old new made;
  room = record {
    program = made.program;
    run_time = made.run_time;
    objects = made.objects;
    sizes = λ r routine e.
        let one = made.routines r routine (get_stays old.program old.run_time r routine e) in
        let lt : r < length old.program = slice_get_within old.program r routine e in
        let as_many = made.program in (
          one.0,
          in_first new.program new.run_time r one.0 (omega (arith, lt, as_many)) one.1,
          within_room routine one.0 one.2,
        );
  };
}
