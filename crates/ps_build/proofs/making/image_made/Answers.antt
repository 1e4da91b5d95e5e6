-- The code does what the program means, so does what a pass made of it, the parts are those of either, and the bytes
-- are the parts'.
use Rattle.std.proofs.Common.{sym, subst}
use Rattle.ps_tree.specs.Tree.{Program}
use Rattle.ps_tree.specs.Checked.{program_in}
use Rattle.tac_code.specs.Meaning.{Code}
use Rattle.tac_pass_laws.specs.Passed.{IsPassed}
use Rattle.ps_build.specs.Made.{IsCodeOf, IsEmittedFor, KeepsBounds}
use Rattle.ps_build.proofs.Charged.{charged}
use Rattle.ps_build.proofs.Made.{made_of}
use Rattle.ps_build.proofs.making.image_made.Goals as goal

abbrev AllDo : Program → Code → Type 0
AllDo checked code = (passed : Code) → IsPassed code passed → IsCodeOf checked passed

pub returns-clause-ok : goal.returns-clause-ok
returns-clause-ok g c =
    let checked = program_in c.args.checked.now in
    let image = c.in_ok-laid.laid.emitted.parts in
    made_of checked c.in_ok-code.code.tac image c.in_ok-bytes.bytes.items
    (subst (AllDo checked) (sym c.in_ok-code.ensures.ok) (c.passed_code_does.ensures checked c.requires.fits))
    c.in_ok-laid.ensures.ok
    (charged c.routines_are_bounded.ensures c.objects_are_bounded.ensures checked image
    (subst (λ code. KeepsBounds code image) c.in_ok-code.ensures.ok c.in_ok-laid.ensures.bounds))
    c.in_ok-bytes.ensures

pub returns-clause-emitted : goal.returns-clause-emitted
returns-clause-emitted g c = record {
  image = c.in_ok-laid.laid.emitted.parts;
  is_image = c.in_ok-bytes.ensures;
  emitted = subst (λ code. IsEmittedFor code c.in_ok-laid.laid.emitted.parts) c.in_ok-code.ensures.ok
      c.in_ok-laid.ensures.ok;
  bounds = subst (λ code. KeepsBounds code c.in_ok-laid.laid.emitted.parts) c.in_ok-code.ensures.ok
      c.in_ok-laid.ensures.bounds;
}
