use Rattle.std.proofs.Common.{ap, sym, ◌∙◌, pos, if◌then◌else◌}
use Rattle.std.proofs.Math.Facts.{to_z-of_z}
use Rattle.ps_meaning.specs.Operators.{apply, is_between, Result, Fault}
use Rattle.ps_meaning_runner.proofs.operators.apply.Goals as goal

pub returns-in-Ord : goal.returns-in-Ord
returns-in-Ord c = ap Result (to_z-of_z c.ranges.x) ∙ ap (λ f. apply f c.args.x) (sym c.in-Ord.is)

pub returns-then-is_between : goal.returns-then-is_between
returns-then-is_between c =
    ap Result (to_z-of_z c.ranges.x) ∙ ap (λ k. if k then Result c.args.x else Fault 4)
    (sym c.if-is_between.true ∙ c.is_between.ensures ∙ ap (λ x. is_between (pos 0) x (pos 255))
    (to_z-of_z c.ranges.x)) ∙ ap (λ f. apply f c.args.x) (sym c.in-Chr.is)

pub returns-else-is_between : goal.returns-else-is_between
returns-else-is_between c =
    ap (λ k. if k then Result c.args.x else Fault 4)
    (sym c.if-is_between.false ∙ c.is_between.ensures ∙ ap (λ x. is_between (pos 0) x (pos 255))
    (to_z-of_z c.ranges.x)) ∙ ap (λ f. apply f c.args.x) (sym c.in-Chr.is)
