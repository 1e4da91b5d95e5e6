use Rattle.std.proofs.Common.{◌≡◌, [], ◌∷◌, ◌++◌, OnOk, subst}
use Rattle.ps_lower_code.specs.Scopes.{helper}
use Rattle.ps_lower.specs.Levels.{scope_of}
use Rattle.ps_lower.proofs.Gathering.{combined_made}
use Rattle.ps_lower.proofs.sets.combined.Goals as goal

pub returns : goal.returns
returns c =
    combined_made (scope_of c.args.level.now) c.args.operator c.args.t c.beside-second.result c.args.x c.help.result
    c.help.new.out c.offset.new.self c.args.out.now
    c.beside-second.ensures.value c.in_ok-offset.ensures
    (subst (λ routine. OnOk c.help.result (c.help.new.out ≡ c.offset.new.self
    ++ helper (scope_of c.args.level.now) routine (c.args.t ∷ c.beside-second.result ∷ []) c.args.t ∷ []))
    c.set_routine.ensures c.help.ensures)
