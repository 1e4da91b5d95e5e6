use Rattle.std.proofs.Common.{slice_get, ap, ◌∙◌}
use Rattle.ps_lower_layout.specs.Frames.{entries, entry_offset}
use Rattle.ps_lower.specs.Levels.{is_reference_at}
use Rattle.ps_lower.proofs.Laying.{offset_found, reference_found, no_entry_offset, no_entry_reference}
use Rattle.ps_tree.specs.Checked.{Parts, program_in}
use Rattle.ps_tree.specs.Tree.{routine_at}
use Rattle.ps_lower.proofs.frames.Frames.entry.Goals as goal

pub returns-in_default-get-clause-offset : goal.returns-in_default-get-clause-offset
returns-in_default-get-clause-offset c =
    no_entry_offset c.self.inside.tables.items
    (program_in c.self.inside.checked.now).routines c.args.number c.args.index c.as_slice.result.now
    c.as_slice-2.result.now c.in-Some.table.now
    (record {
      are = c.self.invariant.are;
      rows_are = c.as_slice.ensures.value;
      within = c.in-Some.ensures.lookup.3.0;
      at = c.in-Some.ensures.lookup.3.1 c.in-Some.table.now;
      row_is = c.as_slice-2.ensures.value;
      short = c.in_default-get.ensures.lookup.3;
    })
    ∙ ap (λ (p : Parts). entry_offset (routine_at (program_in p) c.args.number) c.args.index) c.self.view_is

pub returns-in_default-get-clause-reference : goal.returns-in_default-get-clause-reference
returns-in_default-get-clause-reference c =
    no_entry_reference c.self.inside.tables.items
    (program_in c.self.inside.checked.now).routines c.args.number c.args.index c.as_slice.result.now
    c.as_slice-2.result.now c.in-Some.table.now
    (record {
      are = c.self.invariant.are;
      rows_are = c.as_slice.ensures.value;
      within = c.in-Some.ensures.lookup.3.0;
      at = c.in-Some.ensures.lookup.3.1 c.in-Some.table.now;
      row_is = c.as_slice-2.ensures.value;
      short = c.in_default-get.ensures.lookup.3;
    })
    ∙ ap (λ (p : Parts). is_reference_at (slice_get (entries (routine_at (program_in p) c.args.number)) c.args.index))
    c.self.view_is

pub returns-clause-offset : goal.returns-clause-offset
returns-clause-offset c =
    offset_found c.self.inside.tables.items (program_in c.self.inside.checked.now).routines c.args.number c.args.index
    c.as_slice.result.now c.as_slice-2.result.now c.in-Some.table.now c.in-Some-get.spot.now
    (record {
      are = c.self.invariant.are;
      rows_are = c.as_slice.ensures.value;
      within = c.in-Some.ensures.lookup.3.0;
      at = c.in-Some.ensures.lookup.3.1 c.in-Some.table.now;
      row_is = c.as_slice-2.ensures.value;
      short = c.in-Some-get.ensures.lookup.3.0;
      found = c.in-Some-get.ensures.lookup.3.1 c.in-Some-get.spot.now;
    })
    ∙ ap (λ (p : Parts). entry_offset (routine_at (program_in p) c.args.number) c.args.index) c.self.view_is

pub returns-clause-reference : goal.returns-clause-reference
returns-clause-reference c =
    reference_found c.self.inside.tables.items
    (program_in c.self.inside.checked.now).routines c.args.number c.args.index c.as_slice.result.now
    c.as_slice-2.result.now c.in-Some.table.now c.in-Some-get.spot.now
    (record {
      are = c.self.invariant.are;
      rows_are = c.as_slice.ensures.value;
      within = c.in-Some.ensures.lookup.3.0;
      at = c.in-Some.ensures.lookup.3.1 c.in-Some.table.now;
      row_is = c.as_slice-2.ensures.value;
      short = c.in-Some-get.ensures.lookup.3.0;
      found = c.in-Some-get.ensures.lookup.3.1 c.in-Some-get.spot.now;
    })
    ∙ ap (λ (p : Parts). is_reference_at (slice_get (entries (routine_at (program_in p) c.args.number)) c.args.index))
    c.self.view_is
