-- The code of a program that has all that the lowering needs does what the program means, by the laws of the lowering;
-- so does code that may stand in its place.
use Rattle.std.proofs.Common.{◌≡◌, ℕ, List, get_or, refl, sym, ap, ◌∙◌, subst}
use Rattle.behavior.specs.Endings.{Stuck}
use Rattle.behavior.specs.Transcripts.{Shown, AreBytes}
use Rattle.tac_code.specs.Meaning.{Code}
use Rattle.tac_code_steps.specs.InTurns.{Setting}
use Rattle.ps_tree.specs.Tree.{Program}
use Rattle.ps_meaning.specs.Run.{run_within}
use Rattle.tac_rt.specs.Bodies.{run_time_routines}
use Rattle.tac_pass_laws.specs.Passed.{IsPassed}
use Rattle.tac_pass_laws.specs.Laws.{DoesAs}
use Rattle.tac_pass_laws.proofs.Passed.{unchanged_are_passed, passed_does}
use Rattle.ps_lower_code.specs.Programs.{code_of}
use Rattle.ps_lower_run_time.specs.Laws.{WritesAreDone}
use Rattle.ps_lower_laws.specs.Lowers.{AreRunTime, IsStuck, ProgramsLowerInTurns, ProgramsGoOn}
use Rattle.ps_lower_laws.specs.Fits.{ProgramFits}
use Rattle.ps_build.specs.Made.{IsCodeOf}

module _ (writes_are_done : WritesAreDone) (programs_lower : ProgramsLowerInTurns) (programs_go_on : ProgramsGoOn) where
  are_run_time : AreRunTime run_time_routines
  are_run_time = λ program frames objects stack heap. writes_are_done (record {
    program = program;
    run_time = run_time_routines;
    frames = frames;
    objects = objects;
    stack = stack;
    heap = heap;
  }) refl

  module _ (checked : Program) (fits : ProgramFits checked) (F G : List ℕ) (S H : ℕ) (input : List ℕ)
      (bytes : AreBytes input) where
    abbrev setting : Setting
    setting = record {
      frames = λ r. get_or F r 0;
      objects = λ t. get_or G t 0;
      stack = S;
      heap = H;
      input = input;
    }

    -- the program is never stuck, since its code shows it and is not
    never_stuck : (n : ℕ) → (run_within checked F G S H input n).1 ≡ Stuck → ⊥
    never_stuck n stuck =
        let shown = programs_lower run_time_routines are_run_time checked fits F G S H input bytes n in
        programs_go_on run_time_routines are_run_time checked fits F G S H input bytes shown.0
        (subst IsStuck (sym (ap (λ (x : Shown). x.1) shown.1 ∙ stuck)) tt)

    does : (code : Code) → IsPassed (code_of run_time_routines checked) code → DoesAs (run_within checked F G S H input)
        code setting
    does code passed = passed_does (run_within checked F G S H input) (code_of run_time_routines checked) code setting
        never_stuck (programs_lower run_time_routines are_run_time checked fits F G S H input bytes) passed

  pub passed_code_does : (checked : Program) → ProgramFits checked → (code : Code) → IsPassed
      (code_of run_time_routines checked) code → IsCodeOf checked code
  passed_code_does checked fits code passed =
      record {
        same = λ F G S H input bytes. (does checked fits F G S H input bytes code passed).same;
        goes_on = λ F G S H input bytes n stuck. (does checked fits F G S H input bytes code passed).goes_on n stuck;
      }

  pub code_does : (checked : Program) → ProgramFits checked → IsCodeOf checked (code_of run_time_routines checked)
  code_does checked fits = passed_code_does checked fits (code_of run_time_routines checked)
      (unchanged_are_passed (code_of run_time_routines checked))
