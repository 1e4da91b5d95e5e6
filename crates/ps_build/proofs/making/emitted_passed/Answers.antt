-- The image is that of sound code that was made by plans of the old code.
use Rattle.ps_build.proofs.Passed.{emitted_for}
use Rattle.ps_build.proofs.making.emitted_passed.Goals as goal

pub returns-clause-ok : goal.returns-clause-ok
returns-clause-ok g c =
    emitted_for c.args.tac.now c.args.new_one.now c.in_ok-emitted.emitted.parts c.requires.passed c.keeps_invariant.ensures
    c.in_ok-emitted.ensures.ok
