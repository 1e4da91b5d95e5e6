use Rattle.std.proofs.Common.{◌≡◌, ◌<◌, length, get_or, arith}
use Rattle.std.proofs.lemmas.Grind.{common_steps}
use Rattle.ps_meaning.specs.Values.{with_part}
use Rattle.ps_meaning_runner.specs.View.{value_of}
use Rattle.ps_meaning_runner.proofs.Values.{component_put, with_part_of_structure}
use Rattle.ps_meaning_runner.proofs.value.+with.Goals as goal

pub with_component-returns : goal.with_component-returns
with_component-returns t c =
    let lt : c.args.first < length c.args.values.items = grind (arith, common_steps) in
    let at : c.replace-old.result ≡ get_or c.args.values.items c.args.first c.replace-old.result = grind
    (arith, common_steps) in
    component_put c.args.values.items c.args.first c.replace-old.result c.replace-old.new.dest c.with_part.result
    (λ v. with_part v c.args.rest.now (value_of c.args.new)) lt at c.with_part.ensures

pub Value::with_part-returns-in-Structure : goal.Value::with_part-returns-in-Structure
Value::with_part-returns-in-Structure t c =
    with_part_of_structure c.args.self c.args.path.now c.in-Structure.values c.with_component.result
    (value_of c.args.new) c.in-len1-up.len_at_least c.in-Structure.is c.with_component.ensures
