use Rattle.std.proofs.Common.{◌*◌, ap, ◌∙◌}
use Rattle.risc_emit.proofs.Places.{entry_within, within_few, entries_of_program}
use Rattle.risc_emit.proofs.Costs.{cost_small, is_routine}
use Rattle.risc_emit.proofs.emit.frame_row.Goals as goal

pub address_of-requires : goal.address_of-requires
address_of-requires c =
    within_few _ _ _ (entry_within c.args.tac.now c.args.homes.now c.args.marks.now c.requires.marks c.args.number)
    c.requires.few

pub bytes_of-requires-clause-exists : goal.bytes_of-requires-clause-exists
bytes_of-requires-clause-exists c = is_routine c.args.tac.now c.args.number c.requires.exists

pub bytes_of-requires-clause-small : goal.bytes_of-requires-clause-small
bytes_of-requires-clause-small c =
    cost_small c.args.tac.now c.keeps_invariant.ensures c.args.number c.requires.exists

pub returns-clause-entry : goal.returns-clause-entry
returns-clause-entry c =
    c.address_of.ensures ∙ ap (λ n. 4 * n) (entries_of_program c.args.tac.now c.args.homes.now c.args.marks.now
    c.requires.marks c.args.number c.requires.exists)
