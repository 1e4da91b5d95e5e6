-- The code of a program is never stuck, since the program is not.
use Rattle.std.proofs.Common.{inl, inr, List, get_or, subst}
use Rattle.behavior.specs.Endings.{Ending, More, Normal, Error, Stack, Heap, Fault, Stuck, IsMore}
use Rattle.behavior.specs.Transcripts.{Shown, GoesOn}
use Rattle.behavior.proofs.Sameness.{same_has_converse}
use Rattle.tac_code.specs.declared.code.TacRoutine.{TacRoutine}
use Rattle.tac_code.specs.Run.{tac_run}
use Rattle.tac_code_laws.proofs.Growth.{run_goes_on}
use Rattle.ps_tree.specs.Tree.{Program}
use Rattle.ps_meaning.specs.Run.{run_within}
use Rattle.ps_lower_code.specs.Programs.{code_of}
use Rattle.ps_lower_laws.specs.Fits.{ProgramFits}
use Rattle.ps_lower_laws.specs.Lowers.{AreRunTime, IsStuck, NeverStuck}
use Rattle.ps_lower_laws.proofs.Going.{meaning_goes_on}
use Rattle.ps_lower_laws.proofs.Whole.{lowers}

not_more : (e : Ending) → IsStuck e → IsMore e → ⊥
not_more More s m = s
not_more Normal s m = m
not_more (Error number line calls) s m = m
not_more (Stack line) s m = m
not_more (Heap line) s m = m
not_more (Fault kind) s m = m
not_more Stuck s m = m

goes_alike : (x y : Shown) → GoesOn IsMore x y → IsStuck x.1 → IsStuck y.1
goes_alike x y (inl e) s = subst (λ z. IsStuck z.1) e s
goes_alike x y (inr h) s = absurd (not_more x.1 s h.0)

pub never_stuck : (run_time : List TacRoutine) → AreRunTime run_time → (program : Program) → ProgramFits program
    → NeverStuck run_time program
never_stuck run_time does program fits F G S H input bytes n stuck =
    let code = code_of run_time program in
    let shown = tac_run code (λ r. get_or F r 0) (λ t. get_or G t 0) S H input in
    let meant = run_within program F G S H input in
    let c = same_has_converse meant shown (run_goes_on code (λ r. get_or F r 0) (λ t. get_or G t 0) S H input)
    (lowers run_time does program fits F G S H input bytes) n in
    meaning_goes_on program F G S H input c.0 (goes_alike (shown n) (meant c.0) c.1 stuck)
