use Rattle.ps_advise.specs.Trials.{HasMendsOf}
use Rattle.ps_advise.proofs.Added.{none}
use Rattle.ps_advise.proofs.Beginning.{none_begun}
use Rattle.ps_advise.proofs.answer.faults_of.Goals as goal

pub returns-clause-told : goal.returns-clause-told
returns-clause-told c =
    let text = c.args.text.now in
    c.with_one.ensures.told text (c.in_ok-tell_each.ensures.told text c.in_ok-rest.ensures.whole
    (none (HasMendsOf text) c.new-all.result.items c.new-all.ensures.items))

pub returns-clause-first : goal.returns-clause-first
returns-clause-first c =
    let refusal = c.args.refusal in
    c.with_one.ensures.first (c.in_ok-tell_each.ensures.first refusal
    (none_begun refusal c.new-all.result.items c.new-all.ensures.items) (λ none. c.in_ok-rest.ensures.first))
