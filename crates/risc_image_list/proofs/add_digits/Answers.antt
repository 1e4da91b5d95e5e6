use Rattle.risc_image_list.proofs.Digits.{eight_added}
use Rattle.risc_image_list.proofs.add_digits.Goals as goal

pub returns : goal.returns
returns c = eight_added c.add_byte-4.result c.args.word _ _ _ _ _ c.ranges.word.fits c.in_ok-add_byte.ensures
    c.in_ok-add_byte-2.ensures c.in_ok-add_byte-3.ensures c.add_byte-4.ensures
