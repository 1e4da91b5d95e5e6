use Rattle.std.proofs.Common.{ap, sym, ◌∙◌, map, take}
use Rattle.std.proofs.lemmas.List.{take-map}
use Rattle.ps_check_declarations.proofs.hiding.HidingNames.leave.Goals as goal

pub returns : goal.returns
returns c = ap (map (λ v. v.items)) c.truncate.ensures.keys
    ∙ sym (take-map (λ v. v.items) c.args.count c.self.inside.set.keys) ∙ ap (take c.args.count) c.self.view_is
