use Rattle.std.proofs.Common.{◌+◌, ap, ◌∙◌, arith}
use Rattle.ps_lower_layout.specs.Frames.{kind_words}
use Rattle.ps_lower.specs.declared.depth.TheConstants.{MAX_NUMBER}
use Rattle.ps_lower.proofs.Laying.{laid_start, laid_next, laid_spots, laid_words, laid_room, kinds_of_variables}
use Rattle.ps_lower.proofs.Laying.{kind_of_variable, first_variable, no_variables}
use Rattle.ps_lower.proofs.frames.add_variables.Goals as goal

pub loop-ty-init : goal.loop-ty-init
loop-ty-init c = laid_start kinds_of_variables _ _ _

pub loop-ty-preserved : goal.loop-ty-preserved
loop-ty-preserved c = laid_next kinds_of_variables kind_of_variable first_variable _ _ _ _ _ _ _ _ c.ty-item.result
    c.loop-ty-test.true c.loop-ty.invariant c.in_ok-end.ensures.spots
    (c.in_ok-end.ensures.place ∙ ap (λ n. c.loop-ty.end + n)
    (c.words.ensures ∙ ap (λ x. kind_words (kind_of_variable x)) c.ty-item.is))

pub returns-clause-spots : goal.returns-clause-spots
returns-clause-spots c = laid_spots kinds_of_variables no_variables _ _ _ _ _ _ c.loop-ty-test.false c.loop-ty.invariant

pub returns-clause-place : goal.returns-clause-place
returns-clause-place c = laid_words kinds_of_variables no_variables _ _ _ _ _ _ c.loop-ty-test.false c.loop-ty.invariant

pub words-requires : goal.words-requires
words-requires c = let l = laid_room kinds_of_variables kind_of_variable first_variable _ _ _ _ _ _ MAX_NUMBER
    c.ty-item.result c.loop-ty-test.true c.ty-item.is c.loop-ty.invariant c.requires in omega (arith, l)

pub add-requires : goal.add-requires
add-requires c = let l = laid_room kinds_of_variables kind_of_variable first_variable _ _ _ _ _ _ MAX_NUMBER
    c.ty-item.result c.loop-ty-test.true c.ty-item.is c.loop-ty.invariant c.requires in let e = c.words.ensures in omega
    (arith, l, e)
