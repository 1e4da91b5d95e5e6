use Rattle.std.proofs.Common.{◌≡◌}
use Rattle.tac_code.specs.Meaning.{routines}
use Rattle.risc_alloc.specs.Homes.{temporaries_before}
use Rattle.risc_emit.specs.Layout.{laid_out}
use Rattle.risc_emit.proofs.Drafting.{AllDrafted}
use Rattle.risc_emit.proofs.draft.draft_of.Given as goal

abbrev pub invariant-loop-number : goal.invariant-loop-number
invariant-loop-number l =
    AllDrafted (laid_out l.tac l.homes) l.number l.pieces l.texts.items l.marks.items
    × (l.first ≡ temporaries_before (routines l.tac) l.number)
