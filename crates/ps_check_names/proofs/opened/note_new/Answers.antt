use Rattle.ps_check_names.proofs.NoteLemmas.{more_keeps, more_noted}
use Rattle.ps_check_names.proofs.opened.note_new.Goals as goal

pub returns-clause-keeps : goal.returns-clause-keeps
returns-clause-keeps c = more_keeps c.args.names.now c.args.reaches.now.items c.args.name.now c.args.reach
    c.add.new.self
    c.push.new.self.items c.in_ok-_added._added c.requires.new c.requires.even
    (rw c.in_ok-from_slice.ensures.items at c.in_ok-_added.ensures.added)
    (rw c.in_ok-from_slice.ensures.items at c.in_ok-_added.ensures.names) c.in_ok-push.ensures.items

pub returns-clause-noted : goal.returns-clause-noted
returns-clause-noted c = more_noted c.args.names.now c.args.reaches.now.items c.args.name.now c.args.reach
    c.add.new.self
    c.push.new.self.items c.in_ok-_added._added c.requires.new c.requires.even
    (rw c.in_ok-from_slice.ensures.items at c.in_ok-_added.ensures.added)
    (rw c.in_ok-from_slice.ensures.items at c.in_ok-_added.ensures.names) c.in_ok-push.ensures.items
