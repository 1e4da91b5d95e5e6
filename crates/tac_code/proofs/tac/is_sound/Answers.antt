use Rattle.std.proofs.Common.{ℕ, List, length, ◌≤◌, sym, subst, arith}
use Rattle.std.proofs.lemmas.Bool.{leb-true, le-leb}
use Rattle.tac_code.specs.declared.code.TacRoutine.{TacRoutine}
use Rattle.tac_code.specs.Sound.{code_of, IsSound, AreSoundRoutines, AreLeaves, AreObjectSizes}
use Rattle.tac_code.specs.declared.code.TheConstants.{MAX_OBJECT_TYPES}
use Rattle.tac_code.proofs.Each.{refuted, refuted_by}
use Rattle.tac_code.proofs.tac.is_sound.Goals as goal

pub returns-then-not-are_sound_routines : goal.returns-then-not-are_sound_routines
returns-then-not-are_sound_routines c =
    refuted (IsSound (code_of c.args.raw.now))
    (AreSoundRoutines (code_of c.args.raw.now) c.as_slice.result.now) c.are_sound_routines.result
    c.if-not-are_sound_routines.true c.are_sound_routines.ensures
    (λ s. subst (λ (xs : List TacRoutine). AreSoundRoutines (code_of c.args.raw.now) xs)
    (sym c.as_slice.ensures.value) s.program)

pub returns-then-not-are_sound_routines-2 : goal.returns-then-not-are_sound_routines-2
returns-then-not-are_sound_routines-2 c =
    refuted (IsSound (code_of c.args.raw.now))
    (AreSoundRoutines (code_of c.args.raw.now) c.as_slice-2.result.now) c.are_sound_routines-2.result
    c.if-not-are_sound_routines-2.true c.are_sound_routines-2.ensures
    (λ s. subst (λ (xs : List TacRoutine). AreSoundRoutines (code_of c.args.raw.now) xs)
    (sym c.as_slice-2.ensures.value) s.run_time)

pub returns-then-are_sound_objects : goal.returns-then-are_sound_objects
returns-then-are_sound_objects c = (
  λ t.
      record {
        begins = omega (arith, c.len.ensures, c.if-len-eq0.false);
        program = subst (λ (xs : List TacRoutine). AreSoundRoutines (code_of c.args.raw.now) xs)
            c.as_slice.ensures.value (c.are_sound_routines.ensures.0 c.if-not-are_sound_routines.false);
        run_time = subst (λ (xs : List TacRoutine). AreSoundRoutines (code_of c.args.raw.now) xs)
            c.as_slice-2.ensures.value (c.are_sound_routines-2.ensures.0 c.if-not-are_sound_routines-2.false);
        leaves = subst (λ (xs : List TacRoutine). AreLeaves xs) c.as_slice-3.ensures.value
            (c.are_leaves.ensures.0 c.if-not-are_leaves.false);
        objects = subst (λ (xs : List ℕ). AreObjectSizes xs) c.as_slice-objects.ensures.value
            (c.are_sound_objects.ensures.0 c.if-are_sound_objects.true);
        types = subst (λ (xs : List ℕ). length xs ≤ MAX_OBJECT_TYPES) c.as_slice-objects.ensures.value
            (leb-true (length c.as_slice-objects.result.now) MAX_OBJECT_TYPES t);
      },
  λ s. le-leb (length c.as_slice-objects.result.now) MAX_OBJECT_TYPES
      (subst (λ (xs : List ℕ). length xs ≤ MAX_OBJECT_TYPES) (sym c.as_slice-objects.ensures.value) s.types),
)

pub returns-else-are_sound_objects : goal.returns-else-are_sound_objects
returns-else-are_sound_objects c =
    refuted_by (IsSound (code_of c.args.raw.now))
    (AreObjectSizes c.as_slice-objects.result.now) c.are_sound_objects.result c.if-are_sound_objects.false
    c.are_sound_objects.ensures
    (λ s. subst (λ (xs : List ℕ). AreObjectSizes xs) (sym c.as_slice-objects.ensures.value) s.objects)
