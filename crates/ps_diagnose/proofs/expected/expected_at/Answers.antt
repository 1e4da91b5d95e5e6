use Rattle.std.proofs.Common.{◌≡◌, ◌∷◌, [], ◌++◌, length, take, get_or, subst, sym, arith, rules}
use Rattle.std.proofs.lemmas.List.{take_all}
use Rattle.ps_diagnose.specs.Begun.{Asked}
use Rattle.ps_diagnose.specs.declared.kinds.TheConstants.{ALL}
use Rattle.ps_diagnose.proofs.Asking.{nothing_asked, asked_next, not_before, asked_all}
use Rattle.ps_diagnose.proofs.expected.expected_at.Goals as goal

pub loop-at-init : goal.loop-at-init
loop-at-init c =
    subst (λ given. Asked c.args.source.now c.args.before.now [] given) (sym c.new-kinds.ensures.items)
    (nothing_asked c.args.source.now c.args.before.now)

pub loop-at-preserved : goal.loop-at-preserved
loop-at-preserved c =
    asked_next c.args.source.now c.args.before.now c.add_possible.new.kinds.items c.loop-at.at _
    (search rules) (c.in_ok-add_possible.ensures (take c.loop-at.at ALL) (not_before c.loop-at.at _ (search rules))
    c.loop-at.invariant)

pub returns : goal.returns
returns c =
    asked_all c.args.source.now c.args.before.now c.loop-at.kinds.items
    (subst (λ l. Asked c.args.source.now c.args.before.now l c.loop-at.kinds.items)
    (take_all c.loop-at.at ALL (search rules))
    c.loop-at.invariant)
