use Rattle.std.proofs.Common.{IfSome, sym, subst}
use Rattle.tac_pass.specs.declared.plan.Put.{Put}
use Rattle.tac_pass.specs.Walk.{IsMade, put_in}
use Rattle.tac_pass.proofs.walk.put_in.Goals as goal

pub returns-in-Clean : goal.returns-in-Clean
returns-in-Clean c =
    λ r. subst (λ (p : Put). IfSome c.cleaned.result
    (λ new_one. IsMade (put_in r c.args.minded.now p c.args.rows.now) new_one c.cleaned.new.rows))
    (sym c.in-Clean.is) (c.cleaned.ensures r)

pub returns-in-Fetch : goal.returns-in-Fetch
returns-in-Fetch c =
    λ r. subst (λ (p : Put). IfSome c.fetched.result
    (λ new_one. IsMade (put_in r c.args.minded.now p c.args.rows.now) new_one c.fetched.new.rows))
    (sym c.in-Fetch.is) (c.fetched.ensures r)
