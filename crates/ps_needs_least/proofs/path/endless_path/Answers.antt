use Rattle.std.proofs.Common.{◌≡◌, ◌<◌, get_or, length, replicate, true, false, None, sym, ◌∙◌, arith, rules}
use Rattle.std.proofs.lemmas.List.{get_or_read}
use Rattle.ps_needs_least.proofs.Telling.{comes_back, endless_there, fewer_unseen, path_told, routine_within}
use Rattle.ps_needs_least.proofs.Telling.{turned_next, turned_start}
use Rattle.ps_needs_least.proofs.path.endless_path.Goals as goal

pub calls-init : goal.calls-init
calls-init c =
    let seen : c.in_ok-seen.seen.items ≡ replicate c.count.result false = search rules in
    turned_start c.args.nodes.now c.args.depths.now c.in_ok-seen.seen.items c.new-path.result.items c.count.result
    c.new-path.ensures.items seen c.count.ensures c.requires.begins

pub first_called-routine-requires-clause-there : goal.first_called-routine-requires-clause-there
first_called-routine-requires-clause-there c =
    endless_there c.args.nodes.now c.requires.tabled.0 c.args.depths.now c.requires.tabled.1 c.calls.routine
    c.calls.invariant.depth

pub calls-smaller : goal.calls-smaller
calls-smaller c =
    let within = routine_within c.args.nodes.now c.requires.tabled.0 c.args.depths.now c.requires.tabled.1
    c.calls.routine None c.calls.invariant.depth (λ e. cc e) in
    let count = c.calls.invariant.count in
    let there : c.calls.routine < length c.calls.seen.items = omega (arith, within, count) in
    let unseen : get_or c.calls.seen.items c.calls.routine false ≡ false = search rules in
    fewer_unseen c.calls.seen.items c.calls.routine there unseen

pub calls-preserved : goal.calls-preserved
calls-preserved c =
    turned_next c.args.nodes.now c.args.depths.now c.calls.seen.items c.calls.path.items c.push.new.self.items
    c.calls.routine c.first_called-routine.result c.calls.invariant c.in_ok-push.ensures.items
    c.first_called-routine.ensures.leads c.first_called-routine.ensures.depth

pub index-requires : goal.index-requires
index-requires c =
    let within = routine_within c.args.nodes.now c.requires.tabled.0 c.args.depths.now c.requires.tabled.1
    c.calls.routine None c.calls.invariant.depth (λ e. cc e) in
    let count = c.calls.invariant.count in
    omega (arith, within, count)

pub index_mut-requires : goal.index_mut-requires
index_mut-requires c =
    let within = routine_within c.args.nodes.now c.requires.tabled.0 c.args.depths.now c.requires.tabled.1
    c.calls.routine None c.calls.invariant.depth (λ e. cc e) in
    let count = c.calls.invariant.count in
    omega (arith, within, count)

pub first_called-routine-requires-clause-within : goal.first_called-routine-requires-clause-within
first_called-routine-requires-clause-within c =
    routine_within c.args.nodes.now c.requires.tabled.0 c.args.depths.now c.requires.tabled.1 c.calls.routine None
    c.calls.invariant.depth (λ e. cc e)

pub returns-clause-path : goal.returns-clause-path
returns-clause-path c =
    path_told c.args.nodes.now c.calls.path.items c.push-2.new.self.items c.calls.routine c.calls.invariant.path
    c.in_ok-push-2.ensures.items

pub returns-clause-again : goal.returns-clause-again
returns-clause-again c =
    let within = routine_within c.args.nodes.now c.requires.tabled.0 c.args.depths.now c.requires.tabled.1
    c.calls.routine None c.calls.invariant.depth (λ e. cc e) in
    let count = c.calls.invariant.count in
    let there : c.calls.routine < length c.calls.seen.items = omega (arith, within, count) in
    let seen : get_or c.calls.seen.items c.calls.routine false ≡ true =
    sym (get_or_read c.calls.seen.items c.calls.routine c.index.result.now there c.index.ensures false)
    ∙ c.calls-test.false in
    comes_back c.calls.path.items c.push-2.new.self.items c.calls.routine
    (c.calls.invariant.stands c.calls.routine seen) c.in_ok-push-2.ensures.items
