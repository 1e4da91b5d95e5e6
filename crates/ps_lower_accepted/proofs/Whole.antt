-- The laws of this crate.
use Rattle.std.proofs.Common.{◌≡◌, ℕ, suc, ◌<◌, ◌≤◌, List, [], ◌∷◌, length, get_or, Option, Some, None, All, arith}
use Rattle.behavior.specs.Transcripts.{AreBytes}
use Rattle.ps_text.specs.Lines.{IsSource}
use Rattle.ps_text.specs.declared.TheConstants.{MAX_LENGTH}
use Rattle.ps_scan.specs.Lexis.{IsTokens}
use Rattle.ps_scan.specs.declared.token.Token.{Token}
use Rattle.ps_syntax.specs.declared.program.Program as syntax
use Rattle.ps_parse_grammar.specs.Trees.{IsTreeOf}
use Rattle.ps_tree.specs.Types.{DataType}
use Rattle.ps_tree.specs.Tree.{Program, Routine, no_routine}
use Rattle.ps_lower_bounds.specs.Forms.{VariablesHaveFirst, ResultHasFirst, RoutineFormed}
use Rattle.ps_lower_bounds.specs.Forms.{RoutinesFormed}
use Rattle.ps_lower_calls.specs.Binding.{FirstsFit}
use Rattle.ps_lower_calls.specs.Routines.{ResultFits}
use Rattle.ps_check_judgement.specs.Judged.{Yes}
use Rattle.ps_check.specs.Programs.{program}
use Rattle.ps_lower_accepted.specs.Formed.{IsFormed}
use Rattle.ps_lower_accepted.specs.Laws.{AcceptedFit, AcceptedFormed}
use Rattle.ps_lower_accepted.proofs.Lists.{Each}
use Rattle.ps_lower_accepted.proofs.Sound.{RoutineSound}
use Rattle.ps_lower_accepted.proofs.Limits.{limits_small}
use Rattle.ps_lower_accepted.proofs.Programs.{ProgramSound, accepted_sound}

each_byte : (text : List ℕ) → All (λ b. b < 256) text → Each (λ b. b < 256) text
each_byte [] h = tt
each_byte (b ∷ text) h = (h 0 0 (omega arith), each_byte text (λ i d lt. h (suc i) d (omega (arith, lt))))

sound : (text : List ℕ) (tokens : List Token) (tree : syntax.Program) (checked : Program)
    → AreBytes text → IsSource text → IsTokens text tokens → IsTreeOf text tokens tree → program text tree ≡ Yes checked
    → ProgramSound checked
sound text tokens tree checked bytes source scanned derived e =
    let short : length text ≤ MAX_LENGTH = source.length_fits in
    accepted_sound limits_small text (each_byte text bytes) short source.lines_fit checked tokens tree scanned derived e

pub accepted : AcceptedFit
accepted text tokens tree checked bytes source scanned derived e = let all = sound text tokens tree checked bytes source
    scanned derived e in all.fits

-- ---- first values

variables_formed : (types : List DataType) → FirstsFit types → VariablesHaveFirst types
variables_formed [] f = tt
variables_formed (type ∷ rest) f = (f.0, variables_formed rest f.1)

result_formed : (result : Option DataType) → ResultFits result → ResultHasFirst result
result_formed None f = tt
result_formed (Some type) f = f.2

-- ---- routines and programs

routine_formed : (P : Program) (r : Routine) → RoutineSound P r → RoutineFormed P r
routine_formed P r s = record {
  line = s.line;
  result = result_formed r.result s.fits.result;
  variables = variables_formed r.variables s.fits.variables;
  body = s.fits.body;
}

routines_formed : (P : Program) (list : List Routine)
    → ((i : ℕ) → i < length list → RoutineFormed P (get_or list i no_routine)) → RoutinesFormed P list
routines_formed P [] f = tt
routines_formed P (r ∷ list) f = (f 0 (omega arith), routines_formed P list (λ i l. f (suc i) (omega (arith, l))))

program_formed : (P : Program) → ProgramSound P → IsFormed P
program_formed P s = record {
  within_limits = s.limits;
  formed = record {
    begins = s.fits.begins;
    routines = routines_formed P P.routines (λ i l. routine_formed P (get_or P.routines i no_routine) (s.routines i l));
    domains = variables_formed P.domains s.domains;
  };
}

pub formed : AcceptedFormed
formed text tokens tree checked bytes source scanned derived e = program_formed checked
    (sound text tokens tree checked bytes source scanned derived e)
