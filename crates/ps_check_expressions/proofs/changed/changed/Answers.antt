use Rattle.std.proofs.Common.{sym, ◌∙◌}
use Rattle.ps_check_expressions.specs.View.{context_at}
use Rattle.ps_check_expressions.proofs.ChangeLemmas.{none_there, changed_whole}
use Rattle.ps_check_expressions.proofs.changed.changed.Goals as goal

pub returns-in-Entry : goal.returns-in-Entry
returns-in-Entry c =
    rw (changed_whole (context_at c.args.site.now) c.args.at c.args.changes.now.items c.args.place.now c.in-Entry.up
    c.in-Entry.index c.in-Entry.is (none_there c.args.place.now.selectors.items _ c.args.place.now.selectors.ok.0
    (sym c.is_empty.ensures ∙ c.if-not-is_empty.false))) c.changed_entry.ensures
