use Rattle.ps_check_names.proofs.NoteLemmas.{AskedTo}
use Rattle.ps_check_names.proofs.opened.Opened.asked_reach.Given as goal

abbrev pub invariant-loop-number : goal.invariant-loop-number
invariant-loop-number l = AskedTo l.self.records.items l.name l.number l.reach
