use Rattle.std.proofs.Common.{subst, sym}
use Rattle.ps_advise.specs.Trials.{HasMendsOf, Reports}
use Rattle.ps_advise.proofs.Added.{one_more}
use Rattle.ps_advise.proofs.Beginning.{push_begins}
use Rattle.ps_advise.proofs.rest.add_told.Goals as goal

pub returns-clause-told : goal.returns-clause-told
returns-clause-told c text all told = one_more (HasMendsOf text) c.args.all.now.items c.push.new.self.items _
    c.in_ok-push.ensures.items all (c.place_back.ensures.mends text told)

pub returns-clause-first : goal.returns-clause-first
returns-clause-first c refusal may named = push_begins refusal c.args.all.now.items c.push.new.self.items _
    c.in_ok-push.ensures.items may (λ none. subst (Reports refusal) (sym (c.place_back.ensures.whole (named none).1))
    (named none).0)
