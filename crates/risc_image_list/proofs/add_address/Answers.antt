use Rattle.std.proofs.Common.{rules, arith}
use Rattle.risc_image_list.proofs.Digits.{hole_text, six_added}
use Rattle.risc_image_list.proofs.add_address.Goals as goal

pub returns-then-address-ge16777216 : goal.returns-then-address-ge16777216
returns-then-address-ge16777216 c =
    let written = hole_text c.in_radix.result c.laid_out.result 6 c.args.address c.in_radix.ensures
    c.laid_out.ensures in
    search (rules, written, c.write.ensures.bytes)

pub returns : goal.returns
returns c = six_added c.add_byte-3.result c.args.address _ _ _ _ (omega (arith, c.if-address-ge16777216.false))
    c.in_ok-add_byte.ensures c.in_ok-add_byte-2.ensures c.add_byte-3.ensures
