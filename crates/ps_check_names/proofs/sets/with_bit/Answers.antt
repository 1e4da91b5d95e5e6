use Rattle.std.proofs.Common.{w64}
use Rattle.std.proofs.lemmas.Nat.Bits.{bit_at_set_same, bit_at_set_other}
use Rattle.ps_check_names.proofs.WideLemmas.{bits_kept}
use Rattle.ps_check_names.proofs.sets.with_bit.Goals as goal

pub returns-clause-there : goal.returns-clause-there
returns-clause-there c = bit_at_set_same w64 _ _ c.requires

pub returns-clause-kept : goal.returns-clause-kept
returns-clause-kept c = bits_kept c.args.word _ c.args.bit (bit_at_set_same w64 _ _ c.requires)
    (bit_at_set_other w64 _ _ c.requires)
