use Rattle.std.proofs.Common.{◌≡◌, ◌∙◌}
use Rattle.ps_check_judgement.proofs.Lists.{handed_on}
use Rattle.ps_check_names.specs.Views.{context_of, scope_of}
use Rattle.ps_check_declarations.proofs.Handed.{told_same}
use Rattle.ps_check.specs.Blocks.{block}
use Rattle.ps_check.specs.Programs.{nothing_gathered, program_chain}
use Rattle.ps_check.specs.Views.{gathered_of, start_of}
use Rattle.ps_check.proofs.BlockLemmas.{both_hold, block_begun}
use Rattle.ps_check.proofs.checking.read_program.Goals as goal

pub returns-in_err-chain : goal.returns-in_err-chain
returns-in_err-chain c = handed_on _ _ _ _ c.from_residual.ensures.1 tt

pub returns-in_err-done : goal.returns-in_err-done
returns-in_err-done c =
    let begun = both_hold c.program.result c.nothing_gathered.result (λ chain. chain ≡ program_chain)
    (λ g. gathered_of g ≡ nothing_gathered) _ c.in_ok-chain.ensures c.program.ensures c.nothing_gathered.ensures in
    handed_on _ _ _ _ c.from_residual-in_err-done.ensures.1
    (told_same _ _ _ (block_begun (block (context_of c.args.reading.now) c.args.written.now.block)
    (scope_of c.args.outer.now) (λ chain. start_of chain c.args.start.now) _ _ begun.0 begun.1)
    c.in_err-done.ensures)

pub returns : goal.returns
returns c =
    let begun = both_hold c.program.result c.nothing_gathered.result (λ chain. chain ≡ program_chain)
    (λ g. gathered_of g ≡ nothing_gathered) _ c.in_ok-chain.ensures c.program.ensures c.nothing_gathered.ensures in
    block_begun (block (context_of c.args.reading.now) c.args.written.now.block) (scope_of c.args.outer.now)
    (λ chain. start_of chain c.args.start.now) _ _ begun.0 begun.1 ∙ c.in_ok-done.ensures
