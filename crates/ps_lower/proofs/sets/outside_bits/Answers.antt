use Rattle.std.proofs.Common.{ap, ◌∙◌, ◌-◌, ◌*◌}
use Rattle.ps_lower.proofs.Bounding.{outside_made}
use Rattle.ps_lower.proofs.sets.outside_bits.Goals as goal

pub returns : goal.returns
returns c =
    outside_made c.args.low.now c.args.high.now c.args.word c.saturating_sub.result c.saturating_sub-2.result
    c.lowest_bits-to.result c.lowest_bits-below.result c.saturating_sub-3.result
    (c.saturating_sub.ensures ∙ ap (λ n. n - 32 * c.args.word) c.numbers_to.ensures) c.lowest_bits-to.ensures
    (c.saturating_sub-2.ensures ∙ ap (λ n. n - 32 * c.args.word) c.numbers_below.ensures)
    c.lowest_bits-below.ensures c.saturating_sub-3.ensures
