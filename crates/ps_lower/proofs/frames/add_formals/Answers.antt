use Rattle.std.proofs.Common.{[], ◌∷◌, ◌++◌, ◌+◌, ap, ◌∙◌}
use Rattle.ps_lower_layout.specs.Frames.{kind_words}
use Rattle.ps_lower.specs.Tables.{spot_at}
use Rattle.ps_lower.specs.declared.depth.TheConstants.{MAX_NUMBER}
use Rattle.ps_lower.proofs.Laying.{laid_start, laid_next, laid_spots, laid_words, laid_room, kinds_of_formals}
use Rattle.ps_lower.proofs.Laying.{kind_of_formal, first_formal, no_formals}
use Rattle.ps_lower.proofs.frames.add_formals.Goals as goal

pub loop-formal-init : goal.loop-formal-init
loop-formal-init c = laid_start kinds_of_formals _ _ _

pub loop-formal-preserved : goal.loop-formal-preserved
loop-formal-preserved c = laid_next kinds_of_formals kind_of_formal first_formal _ _ _ _ _ _ _ _ c.formal-item.result
    c.loop-formal-test.true c.loop-formal.invariant
    (c.in_ok-end.ensures.spots ∙ ap (λ f. c.loop-formal.spots.items ++ spot_at c.loop-formal.end (kind_of_formal f)
    ∷ []) c.formal-item.is) (c.in_ok-end.ensures.place
    ∙ ap (λ f. c.loop-formal.end + kind_words (kind_of_formal f)) c.formal-item.is)

pub returns-clause-spots : goal.returns-clause-spots
returns-clause-spots c = laid_spots kinds_of_formals no_formals _ _ _ _ _ _ c.loop-formal-test.false
    c.loop-formal.invariant

pub returns-clause-place : goal.returns-clause-place
returns-clause-place c = laid_words kinds_of_formals no_formals _ _ _ _ _ _ c.loop-formal-test.false
    c.loop-formal.invariant

pub add_formal-requires : goal.add_formal-requires
add_formal-requires c = laid_room kinds_of_formals kind_of_formal first_formal _ _ _ _ _ _ MAX_NUMBER
    c.formal-item.result c.loop-formal-test.true c.formal-item.is c.loop-formal.invariant c.requires
