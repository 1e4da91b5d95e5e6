use Rattle.std.proofs.Common.{◌∷◌, [], ◌++◌, subst, sym}
use Rattle.ps_diagnose.specs.Begun.{Asked, Tells, one_more}
use Rattle.ps_diagnose.proofs.Asking.{asked_begun, asked_not, asked_unknown}
use Rattle.ps_diagnose.proofs.expected.add_possible.Goals as goal

pub returns-in_ok-push-in-Begun : goal.returns-in_ok-push-in-Begun
returns-in_ok-push-in-Begun c = λ asked fresh before.
    subst (λ given. Asked c.args.source.now c.args.before.now (asked ++ c.args.kind ∷ []) given)
    (sym c.in_ok-push-in-Begun.ensures.items)
    (asked_begun c.args.source.now c.args.before.now asked c.args.kinds.now.items c.args.kind fresh
    (subst (λ a. Tells c.args.source.now (one_more c.args.before.now c.args.kind) a) c.in-Begun.is
    c.in_ok-could_stand.ensures) before)

pub returns-in-NotBegun : goal.returns-in-NotBegun
returns-in-NotBegun c = λ asked fresh before.
    asked_not c.args.source.now c.args.before.now asked c.args.kinds.now.items c.args.kind
    (subst (λ a. Tells c.args.source.now (one_more c.args.before.now c.args.kind) a) c.in-NotBegun.is
    c.in_ok-could_stand.ensures) before

pub returns-in-Unknown : goal.returns-in-Unknown
returns-in-Unknown c = λ asked fresh before.
    asked_unknown c.args.source.now c.args.before.now asked c.args.kinds.now.items c.args.kind
    (subst (λ a. Tells c.args.source.now (one_more c.args.before.now c.args.kind) a) c.in-Unknown.is
    c.in_ok-could_stand.ensures) before
