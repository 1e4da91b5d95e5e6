use Rattle.ps_lower.proofs.Bounding.{set_passed}
use Rattle.ps_lower.proofs.sets.hand_set.Goals as goal

pub returns : goal.returns
returns c = set_passed c.args.t c.args.x c.even_from.result c.args.low.now c.args.high.now c.args.line.number
    c.offset.result
    c.offset.new.self c.check_set.new.out c.args.out.now c.even_from.ensures.value c.in_ok-check_set.ensures
    c.offset.ensures
