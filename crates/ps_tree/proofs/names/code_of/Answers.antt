use Rattle.std.proofs.Common.{ap, ◌∙◌}
use Rattle.ps_tree.specs.NameCode.{name_symbols, packed}
use Rattle.ps_tree.proofs.CodeLemmas.{names_next, names_end}
use Rattle.ps_tree.proofs.names.code_of.Goals as goal

pub loop-name-preserved : goal.loop-name-preserved
loop-name-preserved c =
    let written = c.in_ok-add_name.ensures
    ∙ ap (λ l. packed c.loop-name.code.items (name_symbols l)) c.as_slice.ensures.value in
    names_next (λ v. v.items) c.args.names.now c.loop-name.name-index c.loop-name.code.items c.add_name.new.code.items
    c.name-item.result c.loop-name-test.true c.name-item.is written c.loop-name.invariant

pub returns : goal.returns
returns c = names_end (λ v. v.items) c.args.names.now c.loop-name.name-index c.loop-name.code.items
    c.loop-name-test.false c.loop-name.invariant
