use Rattle.std.proofs.Common.{refl, sym, ◌∙◌}
use Rattle.std.proofs.lemmas.Bool.{true≢false}
use Rattle.std.proofs.lemmas.List.Elements.{Contains-get_or}
use Rattle.ps_needs_least.proofs.Walking.{past_start, past_next, past_all}
use Rattle.ps_needs_least.proofs.path.first_use.Goals as goal

pub loop-part-init : goal.loop-part-init
loop-part-init c = past_start c.args.depths.now c.args.uses.now c.args.wanted

pub loop-part-preserved : goal.loop-part-preserved
loop-part-preserved c = past_next _ _ _ _ c.loop-part.invariant _ _ c.loop-part-test.true refl
    (λ e. true≢false (sym (c.has_depth.ensures.1 e) ∙ c.if-has_depth.false))

pub returns-then-has_depth-clause-there : goal.returns-then-has_depth-clause-there
returns-then-has_depth-clause-there c = Contains-get_or _ _ _ c.loop-part-test.true

pub returns-then-has_depth-clause-depth : goal.returns-then-has_depth-clause-depth
returns-then-has_depth-clause-depth c = c.has_depth.ensures.0 c.if-has_depth.true

pub unreachable-requires : goal.unreachable-requires
unreachable-requires c = absurd (past_all _ _ _ _ c.loop-part.invariant c.loop-part-test.false c.requires.there)
