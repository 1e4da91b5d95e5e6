use Rattle.std.proofs.Common.{◌∙◌, sym, ap}
use Rattle.ps_scan.specs.declared.token.Kind.TheVariants as k
use Rattle.ps_parse.specs.Steps.{sees}
use Rattle.ps_parse.specs.LeftOut.{in_place_of}
use Rattle.ps_parse.proofs.Faults.{ended_left_out, not_left_out, answer_told}
use Rattle.ps_parse.proofs.fault.is_left_out.Goals as goal

pub returns-in_default : goal.returns-in_default
returns-in_default c = ended_left_out c.args.text.now c.args.before.now c.args.behind.now
    (sym c.peek.ensures ∙ c.in_default.is)

pub returns-in-Some-in_place_of : goal.returns-in-Some-in_place_of
returns-in-Some-in_place_of c =
    answer_told c.args.text.now c.args.before.now c.args.behind.now c.in-Some.token _
    (sym c.peek.ensures ∙ c.in-Some.is)
    (ap (in_place_of c.in-Some.token.kind) (sym (c.sees.ensures ∙ ap (sees k.Colon) c.skip.ensures.after))
    ∙ c.in-Some-in_place_of.ensures) c.begins.result c.begins.ensures

pub returns-in-None : goal.returns-in-None
returns-in-None c =
    not_left_out c.args.text.now c.args.before.now c.args.behind.now c.in-Some.token (sym c.peek.ensures ∙ c.in-Some.is)
    (ap (in_place_of c.in-Some.token.kind) (sym (c.sees.ensures ∙ ap (sees k.Colon) c.skip.ensures.after))
    ∙ c.in-None.ensures)
