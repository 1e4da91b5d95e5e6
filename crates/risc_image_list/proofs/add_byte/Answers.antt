use Rattle.risc_image_list.proofs.Digits.{byte_added}
use Rattle.risc_image_list.proofs.add_byte.Goals as goal

pub returns : goal.returns
returns c = byte_added c.push-2.result c.args.byte c.digit.result c.digit-2.result _ _ _ _ _ c.requires c.digit.ensures
    c.digit-2.ensures c.in_ok-push.ensures.ascii c.push-2.ensures.ascii c.in_ok-push.ensures.bytes
    c.push-2.ensures.bytes
