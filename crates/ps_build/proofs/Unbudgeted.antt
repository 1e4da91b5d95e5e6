-- The headline over the meaning without budgets.
use Rattle.std.proofs.Common.{◌≡◌, inl, inr, ℕ, List, refl, sym, ap, subst, ◌∙◌}
use Rattle.behavior.specs.Endings.{IsMore}
use Rattle.behavior.specs.Transcripts.{GoesOn}
use Rattle.behavior.specs.Same.{Grows}
use Rattle.behavior.proofs.Sameness.{stops_carry_over}
use Rattle.risc_machine.specs.Exec.{Halt, Running, Stopped, Faulted, fresh, exec}
use Rattle.risc_machine.specs.Laws as laws
use Rattle.risc_machine.specs.Step.{start_state}
use Rattle.risc_machine.proofs.Growth.{exec_grows}
use Rattle.risc_image.specs.Image.{Image}
use Rattle.risc_image.specs.Format.{word_bytes}
use Rattle.risc_load.specs.Shows.{frame_bytes, object_bytes}
use Rattle.risc_emit_laws.specs.Outcome.{ending_of, outcome_of, image_outcome}
use Rattle.ps_meaning.specs.Run.{run, run_within}
use Rattle.ps_meaning.proofs.Laws.{limits_only_stop}
use Rattle.ps_build.specs.Laws.{ComesToTheMeaning}

-- a run over plain lists that grows shows a transcript and an ending that grow
told_grows : (image : Image) (a b : List ℕ × Halt) (halt : Halt) → a.1 ≡ halt → laws.Grows a b → GoesOn IsMore
    (outcome_of image a) (outcome_of image b)
told_grows image a b Running e g =
    inr (subst (λ h. IsMore (ending_of image h)) (sym e) tt, (g.more, g.transcript))
told_grows image a b (Stopped word at) e g =
    inl (sym (ap (outcome_of image) (g.stays (λ running. absurd
    (let no : Stopped word at ≡ Running = sym e ∙ running in cc no)))))
told_grows image a b (Faulted kind) e g =
    inl (sym (ap (outcome_of image) (g.stays (λ running. absurd
    (let no : Faulted kind ≡ Running = sym e ∙ running in cc no)))))

pub image_grows : (image : Image) (heap stack : ℕ) (input : List ℕ) → Grows (image_outcome image heap stack input)
image_grows image heap stack input m n le =
    let s = start_state (word_bytes image.code) image.global heap stack in
    told_grows image (exec m s (fresh input)) (exec n s (fresh input)) _ refl (exec_grows m n s (fresh input) le)

pub comes_to_the_meaning : ComesToTheMeaning
comes_to_the_meaning checked image does heap stack budget input bytes =
    stops_carry_over (run_within checked (frame_bytes image) (object_bytes image) stack heap input)
    (image_outcome image heap stack input) (run checked input)
    (λ n. limits_only_stop checked (frame_bytes image) (object_bytes image) stack heap input n)
    (image_grows image heap stack input) (does.same heap stack budget input bytes)
