use Rattle.std.proofs.Common.{◌++◌, ◌+◌, ◌*◌, ap, ◌∙◌}
use Rattle.ps_tree.specs.View.{type_of}
use Rattle.ps_tree.specs.declared.types.Ty.{Ty}
use Rattle.tac_code.specs.declared.code.Base.TheVariants as base
use Rattle.ps_lower_layout.specs.Shapes.{shape_of, word_count}
use Rattle.ps_lower_code.specs.Statements.{first_code}
use Rattle.ps_lower.specs.Levels.{scope_of}
use Rattle.ps_lower.proofs.Begins.{begun_start, begun_next, begun_all, beginning_start, beginning_one, beginning_next}
use Rattle.ps_lower.proofs.firsts.firsts.Goals as goal

pub loop-ty-init : goal.loop-ty-init
loop-ty-init c = (
  begun_start (scope_of c.args.level.now) c.args.t _ _ _,
  beginning_start c.args.variables.now c.args.begin
      c.requires.reach c.requires.words,
)

pub loop-ty-preserved : goal.loop-ty-preserved
loop-ty-preserved c = (
  begun_next (scope_of c.args.level.now) c.args.t _ _ _ _ _ _ c.loop-ty.place _ c.ty-item.result c.loop-ty-test.true
      c.loop-ty.invariant.0
      (c.in_ok-place.ensures.code ∙ ap (λ (x : Ty). c.loop-ty.out ++ first_code
      (scope_of c.args.level.now) base.Frame c.args.t (4 * c.loop-ty.place) (shape_of (type_of x))) c.ty-item.is)
      (c.in_ok-place.ensures.next ∙ ap (λ (x : Ty). c.loop-ty.place + word_count (shape_of (type_of x))) c.ty-item.is),
  beginning_next c.args.variables.now c.loop-ty.ty-index c.loop-ty.place c.in_ok-place.place c.ty-item.result
      c.loop-ty-test.true c.ty-item.is c.loop-ty.invariant.1 c.in_ok-place.ensures.next,
)

pub first_at-requires-clause-reach : goal.first_at-requires-clause-reach
first_at-requires-clause-reach c = (beginning_one c.args.variables.now c.loop-ty.ty-index c.loop-ty.place
    c.ty-item.result c.loop-ty-test.true c.ty-item.is c.loop-ty.invariant.1).0

pub first_at-requires-clause-words : goal.first_at-requires-clause-words
first_at-requires-clause-words c = (beginning_one c.args.variables.now c.loop-ty.ty-index c.loop-ty.place
    c.ty-item.result c.loop-ty-test.true c.ty-item.is c.loop-ty.invariant.1).1

pub returns : goal.returns
returns c = begun_all (scope_of c.args.level.now) c.args.t _ _ _ _ _ _ c.loop-ty-test.false c.loop-ty.invariant.0
