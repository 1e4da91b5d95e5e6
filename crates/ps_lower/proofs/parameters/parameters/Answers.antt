use Rattle.std.proofs.Common.{◌++◌, ◌+◌, ◌*◌, ap, ◌∙◌}
use Rattle.ps_lower_layout.specs.Frames.{kind_words}
use Rattle.ps_lower_code.specs.Routines.{parameter_code, parameter_words}
use Rattle.ps_lower.specs.Levels.{scope_of}
use Rattle.ps_lower.specs.declared.depth.TheConstants.{MAX_NUMBER}
use Rattle.ps_lower.proofs.Entering.{kind_at, entered_start, entered_next, entered_all, entered_small, entered_room}
use Rattle.ps_lower.proofs.Entering.{all_taken}
use Rattle.ps_lower.proofs.parameters.parameters.Goals as goal

pub loop-formal-init : goal.loop-formal-init
loop-formal-init c = entered_start (scope_of c.args.level.now) c.args.free _ _ _

pub loop-formal-preserved : goal.loop-formal-preserved
loop-formal-preserved c =
    entered_next (scope_of c.args.level.now) c.args.free _ _ _ _ _ _ c.loop-formal.t c.loop-formal.place _ _
    c.formal-item.result c.loop-formal-test.true c.loop-formal.invariant
    (c.in_ok-place.ensures.code ∙ ap (λ f. c.loop-formal.out ++ parameter_code (scope_of c.args.level.now)
    (kind_at f) c.loop-formal.t (4 * c.loop-formal.place) c.args.free) c.formal-item.is)
    (c.in_ok-place.ensures.next ∙ ap (λ f. c.loop-formal.place + kind_words (kind_at f)) c.formal-item.is)
    (c.with_parameter-t.ensures ∙ ap (λ f. c.loop-formal.t + parameter_words (kind_at f)) c.formal-item.is)

pub returns-clause-code : goal.returns-clause-code
returns-clause-code c = entered_all (scope_of c.args.level.now) c.args.free _ _ _ _ _ _ _ c.loop-formal-test.false
    c.loop-formal.invariant

pub returns-clause-next : goal.returns-clause-next
returns-clause-next c = all_taken (scope_of c.args.level.now) c.args.free _ _ _ _ _ _ _ c.loop-formal-test.false
    c.loop-formal.invariant

pub parameter_at-requires-clause-temporary : goal.parameter_at-requires-clause-temporary
parameter_at-requires-clause-temporary c = entered_small
    (scope_of c.args.level.now) c.args.free _ _ _ _ _ _ _ MAX_NUMBER c.loop-formal.invariant c.requires.total

pub parameter_at-requires-clause-words : goal.parameter_at-requires-clause-words
parameter_at-requires-clause-words c = entered_room
    (scope_of c.args.level.now) c.args.free _ _ _ _ _ _ _ MAX_NUMBER c.formal-item.result c.loop-formal-test.true
    c.formal-item.is c.loop-formal.invariant c.requires.words

pub with_parameter-t-requires : goal.with_parameter-t-requires
with_parameter-t-requires c = entered_small
    (scope_of c.args.level.now) c.args.free _ _ _ _ _ _ _ MAX_NUMBER c.loop-formal.invariant c.requires.total
