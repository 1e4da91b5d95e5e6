use Rattle.std.proofs.Common.{length, rules}
use Rattle.std.proofs.lemmas.Iterator.Adapters.{YieldsList-from_vec}
use Rattle.std.proofs.lemmas.Iterator.Consumers.{YieldsList-turn}
use Rattle.std.proofs.lemmas.List.Sorted.{All-permutation}
use Rattle.ps_advise.specs.declared.mends.Graded.{Graded}
use Rattle.ps_advise.specs.Trials.{IsMendOf}
use Rattle.ps_advise.proofs.Added.{each_is, one_more}
use Rattle.ps_advise.proofs.mends.best_of.Goals as goal

pub loop-graded-preserved-in-Continue-branch-2 : goal.loop-graded-preserved-in-Continue-branch-2
loop-graded-preserved-in-Continue-branch-2 c =
    let source = c.args.source.now in
    let items = c.sort_by_key.new.self.items in
    let graded = c.in-Some-graded.graded in
    let all = All-permutation (λ (g : Graded). IsMendOf source g.mend) c.args.mends.items items
    c.in_ok-sort_by_key.ensures.permutation c.requires in
    let turn = YieldsList-turn
    (YieldsList-from_vec {s = c.into_iter-graded-iterator.result} items (search rules) (search rules))
    c.loop-graded.yielded c.loop-graded.graded-iterator c.loop-graded.yielded_by c.next.result c.next.new.self graded
    c.in-Some-graded.is c.next.ensures.steps in
    one_more (IsMendOf source) c.loop-graded.told.items c.push.new.self.items graded.mend c.in_ok-push.ensures.items
    c.loop-graded.invariant
    (each_is (λ (g : Graded). IsMendOf source g.mend) items (length c.loop-graded.yielded) graded turn all)
