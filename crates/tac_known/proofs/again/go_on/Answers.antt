use Rattle.tac_known.proofs.AgainWalked.{stepped}
use Rattle.tac_known.proofs.again.go_on.Goals as goal

pub returns : goal.returns
returns c = λ _. stepped c.args.marks.now c.args.place c.in-Some.next c.args.instruction.now c.args.standing.now
    c.mark_at-mark.result c.forward_of-forward.result c.enter.new.facts c.wait.new.self c.in-Some.ensures.1
    c.mark_at-mark.ensures c.forward_of-forward.ensures (c.wait.ensures c.if-not-wait.false) c.enter.ensures
