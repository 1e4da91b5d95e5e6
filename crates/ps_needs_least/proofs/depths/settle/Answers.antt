use Rattle.std.proofs.Common.{◌≡◌, ◌+◌, ◌<◌, [], get_or, None, Some, sym, ap, ap₂, ◌∙◌, arith, rules}
use Rattle.ps_needs_least.specs.Settled.{dearest}
use Rattle.ps_needs_least.proofs.Settling.{no_overflow, settled_more, fewer_undone}
use Rattle.ps_needs_least.proofs.depths.settle.Goals as goal

pub overflow_add-frame_of : goal.overflow_add-frame_of
overflow_add-frame_of c =
    let none : get_or c.args.depths.now.items c.args.node None ≡ None = search rules in
    let known : dearest c.args.depths.now.items (get_or c.args.nodes.now c.args.node [])
    ≡ Some c.in-Some.most = ap₂ dearest (sym c.deref.ensures.value) (sym c.uses.ensures) ∙ sym c.dearest.ensures
    ∙ c.in-Some.is in
    let room = no_overflow c.args.nodes.now c.args.frames.now c.args.depths.now.items c.requires.sound c.args.node
    c.in-Some.most c.requires.node none known in
    let small = c.frame_of.ensures.small in
    let few = c.requires.few in
    omega (arith, room, small, few)

pub returns-in-Some-clause-sound : goal.returns-in-Some-clause-sound
returns-in-Some-clause-sound c =
    let none : get_or c.args.depths.now.items c.args.node None ≡ None = search rules in
    let known : dearest c.args.depths.now.items (get_or c.args.nodes.now c.args.node [])
    ≡ Some c.in-Some.most = ap₂ dearest (sym c.deref.ensures.value) (sym c.uses.ensures) ∙ sym c.dearest.ensures
    ∙ c.in-Some.is in
    let is = c.frame_of.ensures.frame in
    let small : get_or c.args.frames.now c.args.node 0 < 4294967296 = let s = c.frame_of.ensures.small in omega
    (arith, s, is) in
    settled_more c.args.nodes.now c.args.frames.now c.args.depths.now.items c.args.node c.in-Some.most
    (c.frame_of.result + c.in-Some.most) c.requires.sound c.requires.node none known small
    (ap (λ f. f + c.in-Some.most) is)

pub returns-in-Some-clause-fewer : goal.returns-in-Some-clause-fewer
returns-in-Some-clause-fewer c e =
    let none : get_or c.args.depths.now.items c.args.node None ≡ None = search rules in
    fewer_undone c.args.depths.now.items c.args.node (c.frame_of.result + c.in-Some.most) c.requires.node none
