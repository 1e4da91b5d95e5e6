use Rattle.std.proofs.Common.{◌≡◌, ◌≢◌, ◌+◌, ◌-◌, ◌<◌, ◌≤◌, get_or, arith, rules}
use Rattle.ps_needs_least.proofs.Telling.{dearest_there, frame_below, frame_there, walked_next, walked_start}
use Rattle.ps_needs_least.proofs.path.dearest_path.Goals as goal

pub calls-init : goal.calls-init
calls-init c =
    walked_start c.args.nodes.now c.args.frames.now c.args.depths.now c.args.bytes c.new-path.result.items
    c.new-path.ensures.items c.requires.begins

pub first_called-routine-requires-clause-there : goal.first_called-routine-requires-clause-there
first_called-routine-requires-clause-there c =
    let below = frame_below c.args.nodes.now c.args.frames.now c.args.depths.now c.requires.tabled c.calls.routine
    c.calls.left c.calls.invariant.depth in
    let is = c.frame_of-left.ensures.frame in
    let sum : get_or c.args.frames.now c.calls.routine 0 +
    (c.calls.left - c.frame_of-left.result) ≡ c.calls.left = omega
    (arith, below, is) in
    let more : c.calls.left - c.frame_of-left.result ≢ 0 = search rules in
    dearest_there c.args.nodes.now c.args.frames.now c.args.depths.now c.requires.tabled c.calls.routine c.calls.left
    (c.calls.left - c.frame_of-left.result) c.calls.invariant.depth sum more

pub calls-smaller : goal.calls-smaller
calls-smaller c =
    let below = frame_below c.args.nodes.now c.args.frames.now c.args.depths.now c.requires.tabled c.calls.routine
    c.calls.left c.calls.invariant.depth in
    let is = c.frame_of-left.ensures.frame in
    let more : c.calls.left - c.frame_of-left.result ≢ 0 = search rules in
    let some : 1 ≤ c.calls.left = omega (arith, more) in
    let frame = frame_there c.args.nodes.now c.args.frames.now c.args.depths.now c.requires.tabled c.calls.routine
    c.calls.left c.calls.invariant.depth some in
    let less : c.calls.left - c.frame_of-left.result < c.calls.left = omega (arith, some, frame, is) in
    less

pub calls-preserved : goal.calls-preserved
calls-preserved c =
    let below = frame_below c.args.nodes.now c.args.frames.now c.args.depths.now c.requires.tabled c.calls.routine
    c.calls.left c.calls.invariant.depth in
    let is = c.frame_of-left.ensures.frame in
    let sum : c.frame_of-left.result + (c.calls.left - c.frame_of-left.result) ≡ c.calls.left = omega
    (arith, below, is) in
    walked_next c.args.nodes.now c.args.frames.now c.args.depths.now c.args.bytes c.calls.path.items
    c.push.new.self.items c.calls.routine c.first_called-routine.result c.calls.left
    (c.calls.left - c.frame_of-left.result) c.frame_of-left.result c.calls.invariant c.in_ok-push.ensures.items is sum
    c.first_called-routine.ensures.leads c.first_called-routine.ensures.depth
