use borrow.Author.Rules.{get_or_read}
use Rattle.std.proofs.Common.{rules, ◌≡◌, ◌∷◌, map, refl, arith, ◌∙◌}
use Rattle.ps_syntax.specs.declared.program.Routine.TheFolds.{the_lemmas}
use Rattle.ps_check_judgement.proofs.Lists.{told_bind, handed_on}
use Rattle.ps_check_names.specs.Regions.{BlockRegion}
use Rattle.ps_check_names.specs.Views.{context_of, scope_of, meaning_of}
use Rattle.ps_check_declarations.specs.Views.{frame_of}
use Rattle.ps_check_declarations.proofs.Handed.{told_same, then_told, then_is}
use Rattle.ps_check_declarations.proofs.Steps.{mapped_start, mapped_next, mapped_fault, mapped_end}
use Rattle.ps_check.specs.Blocks.{one_routine, block}
use Rattle.ps_check.specs.Views.{start_of, gathered_of, routines_of}
use Rattle.ps_check.proofs.BlockLemmas.{block_parts, read_by_name, none_to_read}
use Rattle.ps_check.proofs.RoutineLemmas.{whole_answers, block_there}
use Rattle.ps_check.proofs.blocks.+block.Goals as goal

-- ---- blocks; the statements are read where a must-fail edit reads them earlier, so those goals have no answer here

pub block-read_routines-requires : goal.block-read_routines-requires
block-read_routines-requires t c = (search (rules, the_lemmas), tt)

pub block-returns-in_err-add_block_names : goal.block-returns-in_err-add_block_names
block-returns-in_err-add_block_names t c = handed_on _ _ _ _ c.from_residual.ensures.1 tt

pub block-returns-in_err-declared : goal.block-returns-in_err-declared
block-returns-in_err-declared t c =
    let k : map meaning_of c.replace-known.result.items ≡ map meaning_of c.args.start.now.known.items = rw
    c.replace-known.ensures.value refl in
    handed_on _ _ _ _ c.from_residual-in_err-declared.ensures.1
    (told_same _ _ _ (block_parts (context_of c.args.reading.now) c.args.written.now (scope_of c.args.outer.now)
    (start_of c.args.chain.now c.args.start.now) (gathered_of c.args.gathered.now) _ _ _ _ _ c.own_number.ensures
    c.in_ok-add_block_names.ensures c.new-begun.ensures k refl)
    (told_bind _ _ _ c.in_err-declared.ensures))

pub block-returns-in_err-read_routines : goal.block-returns-in_err-read_routines
block-returns-in_err-read_routines t c =
    let k : map meaning_of c.replace-known.result.items ≡ map meaning_of c.args.start.now.known.items = rw
    c.replace-known.ensures.value refl in
    handed_on _ _ _ _ c.from_residual-in_err-read_routines.ensures.1
    (told_same _ _ _ (block_parts (context_of c.args.reading.now) c.args.written.now (scope_of c.args.outer.now)
    (start_of c.args.chain.now c.args.start.now) (gathered_of c.args.gathered.now) _ _ _ _ _ c.own_number.ensures
    c.in_ok-add_block_names.ensures c.new-begun.ensures k c.as_slice.ensures)
    (then_told _ _ _ _ c.in_ok-declared.ensures (told_bind _ _ _ c.in_err-read_routines.ensures)))

pub block-returns-in_err-extend_from_slice : goal.block-returns-in_err-extend_from_slice
block-returns-in_err-extend_from_slice t c = handed_on _ _ _ _ c.from_residual-in_err-extend_from_slice.ensures.1 tt

-- ---- the routines of a block

pub read_routines-read_routine-requires : goal.read_routines-read_routine-requires
read_routines-read_routine-requires t c = (search (rules, the_lemmas, get_or_read), tt)

pub read_routines-loop-written-init : goal.read_routines-loop-written-init
read_routines-loop-written-init t c = mapped_start _ _ _ _

pub read_routines-loop-written-preserved : goal.read_routines-loop-written-preserved
read_routines-loop-written-preserved t c = mapped_next _ _ _ _ _ _ c.written-item.result _ c.loop-written-test.true
    c.written-item.is c.loop-written.invariant c.in_ok-read_routine.ensures

pub read_routines-returns-in_err-read_routine : goal.read_routines-returns-in_err-read_routine
read_routines-returns-in_err-read_routine t c = handed_on _ _ _ _ c.from_residual.ensures.1
    (mapped_fault _ _ _ _ _ _ c.written-item.result _ c.loop-written-test.true c.written-item.is
    c.loop-written.invariant c.in_err-read_routine.ensures)

pub read_routines-returns : goal.read_routines-returns
read_routines-returns t c = mapped_end _ _ _ _ _ _ c.loop-written-test.false c.loop-written.invariant

-- ---- a routine

pub read_routine-returns-in_err-introduce : goal.read_routine-returns-in_err-introduce
unfolding one_routine
read_routine-returns-in_err-introduce t c = handed_on _ _ _ _ c.from_residual.ensures.1
    (told_bind _ _ _ c.in_err-introduce.ensures)

pub read_routine-returns-in-Forward : goal.read_routine-returns-in-Forward
unfolding one_routine
read_routine-returns-in-Forward t c = then_is _ _ _ _ c.in_ok-introduce.ensures
    (none_to_read (frame_of c.args.frame.now) c.args.chain.now (context_of c.args.frame.now.reading.now)
    c.args.written.now _ _ c.in-Forward.is)

pub read_routine-returns-in-Whole : goal.read_routine-returns-in-Whole
read_routine-returns-in-Whole t c = whole_answers _ _
    (context_of c.args.frame.now.reading.now) c.args.written.now c.in-Whole.block _ _ _ _ c.routine_name-name.result
    c.in_ok-introduce.ensures (c.routine_name-name.ensures (context_of c.args.frame.now.reading.now))
    (block_there (context_of c.args.frame.now.reading.now) c.args.written.now c.in-Whole.block c.in-Whole.is)
    c.read_block.ensures

-- ---- the block of a routine

pub read_block-block-done-requires : goal.read_block-block-done-requires
read_block-block-done-requires t c = (omega (arith, c.decreases), tt)

pub read_block-returns-in_err-heading : goal.read_block-returns-in_err-heading
read_block-returns-in_err-heading t c = λ x named.
    let k : map meaning_of c.deref.result.now ≡ map meaning_of c.args.local.now.known.items = rw
    c.deref.ensures.value refl in
    handed_on _ _ _ _ c.from_residual.ensures.1
    (told_same _ _ _ (read_by_name (frame_of c.args.frame.now) c.args.chain.now x c.args.name _ _
    (routines_of c.args.local.now c.args.gathered.now)
    (block (context_of c.args.frame.now.reading.now) c.args.written.now) named k refl)
    (told_bind _ _ _ c.in_err-heading.ensures))

pub read_block-returns-in_err-inner : goal.read_block-returns-in_err-inner
read_block-returns-in_err-inner t c = λ x named.
    let k : map meaning_of c.deref.result.now ≡ map meaning_of c.args.local.now.known.items = rw
    c.deref.ensures.value refl in
    handed_on _ _ _ _ c.from_residual-in_err-inner.ensures.1
    (told_same _ _ _ (read_by_name (frame_of c.args.frame.now) c.args.chain.now x c.args.name _ _
    (routines_of c.args.local.now c.args.gathered.now)
    (block (context_of c.args.frame.now.reading.now) c.args.written.now) named k refl)
    (then_told _ _ _ _ c.in_ok-heading.ensures (told_bind _ _ _ c.in_err-inner.ensures)))

pub read_block-returns-in_err-done : goal.read_block-returns-in_err-done
read_block-returns-in_err-done t c = λ x named.
    let k : map meaning_of c.deref.result.now ≡ map meaning_of c.args.local.now.known.items = rw
    c.deref.ensures.value refl in
    let e : scope_of c.scope_within-outer.result ≡ BlockRegion c.args.frame.now.routine c.args.frame.now.names.now
    (map meaning_of c.args.local.now.known.items) ∷ scope_of c.args.frame.now.outer.now =
    c.scope_within-outer.ensures ∙ rw c.deref-2.ensures.value refl in
    handed_on _ _ _ _ c.from_residual-in_err-done.ensures.1
    (told_same _ _ _ (read_by_name (frame_of c.args.frame.now) c.args.chain.now x c.args.name _ _
    (routines_of c.args.local.now c.args.gathered.now)
    (block (context_of c.args.frame.now.reading.now) c.args.written.now) named k e)
    (then_told _ _ _ _ c.in_ok-heading.ensures (then_told _ _ _ _ c.in_ok-inner.ensures
    (told_bind _ _ _ c.in_err-done.ensures))))

pub read_block-returns-in_err-add_outward : goal.read_block-returns-in_err-add_outward
read_block-returns-in_err-add_outward t c = λ x named. handed_on _ _ _ _
    c.from_residual-in_err-add_outward.ensures.1 tt
