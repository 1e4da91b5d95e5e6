use Rattle.std.proofs.Common.{◌≡◌, map, ◌∷◌}
use Rattle.ps_check_names.specs.Regions.{BlockRegion, find_past, find}
use Rattle.ps_check_names.specs.Views.{meaning_of, scope_of}
use Rattle.ps_check_names.proofs.scope.find.Goals as goal

pub returns-in-Err : goal.returns-in-Err
unfolding scope_of
returns-in-Err c = λ token.
    let outer = scope_of c.in-Block.outer.now in
    let left : find_past c.loop-here.up c.loop-here.which
    (BlockRegion c.in-Block.routine c.in-Block.names.now (map meaning_of c.in-Block.known.now) ∷ outer)
    c.args.name.now token ≡ find (scope_of c.args.scope.now) c.args.name.now token = rw c.in-Block.is at
    (c.loop-here.invariant.0 token) in
    rw (c.in-Err.ensures.err c.loop-here.which c.in-Block.routine token outer) at left

pub loop-here-preserved-in-Block : goal.loop-here-preserved-in-Block
unfolding scope_of
loop-here-preserved-in-Block c = (
  (λ token.
      let outer = scope_of c.in-Block.outer.now in
      let left : find_past c.loop-here.up c.loop-here.which
      (BlockRegion c.in-Block.routine c.in-Block.names.now (map meaning_of c.in-Block.known.now) ∷ outer)
      c.args.name.now token ≡ find (scope_of c.args.scope.now) c.args.name.now token = rw c.in-Block.is at
      (c.loop-here.invariant.0 token) in
      rw (c.in-Ok.ensures.ok c.loop-here.which c.in-Block.routine token outer) at left),
  c.loop-here.invariant.1,
)
