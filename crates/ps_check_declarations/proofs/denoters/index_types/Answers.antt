use Rattle.ps_check_judgement.proofs.Lists.{handed_on, stepped_start, stepped_next, stepped_fault}
use Rattle.ps_check_judgement.proofs.Lists.{stepped_end}
use Rattle.ps_check_declarations.proofs.denoters.index_types.Goals as goal

pub loop-index-init : goal.loop-index-init
loop-index-init c = rw c.new-done.ensures.items (stepped_start _ _ _)

pub loop-index-preserved : goal.loop-index-preserved
loop-index-preserved c =
    stepped_next _ _ _ _ _ c.index-item.result _ c.loop-index-test.true c.index-item.is c.loop-index.invariant
    c.in_ok-index_type.ensures

pub returns-in_err-index_type : goal.returns-in_err-index_type
returns-in_err-index_type c =
    handed_on _ _ _ _ c.from_residual.ensures.1
    (stepped_fault _ _ _ _ _ c.index-item.result _ c.loop-index-test.true c.index-item.is c.loop-index.invariant
    c.in_err-index_type.ensures)

pub returns : goal.returns
returns c = stepped_end _ _ _ _ _ c.loop-index-test.false c.loop-index.invariant

pub index_type-requires : goal.index_type-requires
index_type-requires c = c.requires
