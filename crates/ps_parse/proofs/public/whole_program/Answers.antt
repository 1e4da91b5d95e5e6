use Rattle.std.proofs.Common.{◌-◌, length, ap, sym, subst, ◌∙◌}
use Rattle.ps_parse.specs.Steps.{stop}
use Rattle.ps_parse.specs.Untaken.{NoneTakesAt}
use Rattle.ps_parse.proofs.Whole.{derives, only}
use Rattle.ps_parse.proofs.Refused.{refused_untaken, left_untaken}
use Rattle.ps_parse.proofs.public.whole_program.Goals as goal

pub returns-then-left-eq0-clause-derives : goal.returns-then-left-eq0-clause-derives
returns-then-left-eq0-clause-derives c = derives c.args.text.now c.args.tokens.now c.in-Ok.program
    c.program.new.self.rest.now c.in-Ok.ensures (sym c.left.ensures ∙ c.if-left-eq0.true)

pub returns-then-left-eq0-clause-only : goal.returns-then-left-eq0-clause-only
returns-then-left-eq0-clause-only c = only c.args.text.now c.args.tokens.now c.in-Ok.program c.program.new.self.rest.now
    c.in-Ok.ensures

pub returns-else-left-eq0-clause-untaken : goal.returns-else-left-eq0-clause-untaken
returns-else-left-eq0-clause-untaken c = λ ne.
    subst (λ left. NoneTakesAt c.args.text.now c.args.tokens.now (length c.args.tokens.now - left))
    (sym c.refusal.ensures.left)
    (left_untaken c.args.text.now c.args.tokens.now c.in-Ok.program c.program.new.self.rest.now c.in-Ok.ensures
    (λ e. c.if-left-eq0.false (c.left.ensures ∙ e)))

pub returns-in-Err-clause-untaken : goal.returns-in-Err-clause-untaken
returns-in-Err-clause-untaken c = λ ne. refused_untaken c.args.text.now c.args.tokens.now _ (c.in-Err.ensures ne)

pub returns-else-left-eq0-clause-stopped : goal.returns-else-left-eq0-clause-stopped
returns-else-left-eq0-clause-stopped c = λ ne. ap stop c.in-Ok.ensures ∙ sym c.refusal.ensures.left

pub returns-in-Err-clause-stopped : goal.returns-in-Err-clause-stopped
returns-in-Err-clause-stopped c = λ ne. ap stop (c.in-Err.ensures ne)
