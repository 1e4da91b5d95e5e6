use Rattle.std.proofs.Common.{map, sym, ◌∙◌}
use Rattle.std.proofs.lemmas.List.{length-map}
use Rattle.ps_check_names.proofs.WideLemmas.{new_even, new_keeps, new_noted, mapped_more}
use Rattle.ps_check_names.proofs.wides.note_new.Goals as goal

pub returns-clause-even : goal.returns-clause-even
returns-clause-even c = sym (length-map c.push.new.self.items (λ v. v.items))
    ∙ new_even c.args.names.now (map (λ v. v.items) c.args.kinds.now.items) c.args.name.now
    c.insert.new.words.items c.add.new.self (map (λ v. v.items) c.push.new.self.items) c.in_ok-_added._added
    c.requires.new (length-map c.args.kinds.now.items (λ v. v.items) ∙ c.requires.even)
    (rw c.in_ok-from_slice.ensures.items at c.in_ok-_added.ensures.added)
    (rw c.in_ok-from_slice.ensures.items at c.in_ok-_added.ensures.names)
    (mapped_more (λ v. v.items) c.args.kinds.now.items c.push.new.self.items c.insert.new.words
    c.in_ok-push.ensures.items)

pub returns-clause-keeps : goal.returns-clause-keeps
returns-clause-keeps c = new_keeps c.args.names.now (map (λ v. v.items) c.args.kinds.now.items) c.args.name.now
    c.insert.new.words.items c.add.new.self (map (λ v. v.items) c.push.new.self.items) c.in_ok-_added._added
    c.requires.new (length-map c.args.kinds.now.items (λ v. v.items) ∙ c.requires.even)
    (rw c.in_ok-from_slice.ensures.items at c.in_ok-_added.ensures.added)
    (rw c.in_ok-from_slice.ensures.items at c.in_ok-_added.ensures.names)
    (mapped_more (λ v. v.items) c.args.kinds.now.items c.push.new.self.items c.insert.new.words
    c.in_ok-push.ensures.items)

pub returns-clause-noted : goal.returns-clause-noted
returns-clause-noted c = new_noted c.args.names.now (map (λ v. v.items) c.args.kinds.now.items) c.args.name.now
    c.insert.new.words.items c.add.new.self (map (λ v. v.items) c.push.new.self.items) c.in_ok-_added._added
    c.requires.new (length-map c.args.kinds.now.items (λ v. v.items) ∙ c.requires.even)
    (rw c.in_ok-from_slice.ensures.items at c.in_ok-_added.ensures.added)
    (rw c.in_ok-from_slice.ensures.items at c.in_ok-_added.ensures.names)
    (mapped_more (λ v. v.items) c.args.kinds.now.items c.push.new.self.items c.insert.new.words
    c.in_ok-push.ensures.items) c.args.number c.in_ok-insert.ensures.there
