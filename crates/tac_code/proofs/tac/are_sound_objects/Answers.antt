use Rattle.std.proofs.Common.{get_or}
use Rattle.std.proofs.lemmas.Option.{slice_get-get_or}
use Rattle.tac_code.specs.Sound.{IsObjectSize}
use Rattle.tac_code.proofs.Each.{each_below_more, all_told}
use Rattle.tac_code.proofs.tac.are_sound_objects.Goals as goal

pub loop-bytes-preserved : goal.loop-bytes-preserved
loop-bytes-preserved c =
    each_below_more (λ _ bytes. IsObjectSize bytes) c.args.objects.now c.loop-bytes.bytes-index
    (get_or c.args.objects.now c.loop-bytes.bytes-index 0)
    (slice_get-get_or c.args.objects.now c.loop-bytes.bytes-index 0 c.loop-bytes-test.true) c.loop-bytes.invariant
    (c.is_object_size.ensures.0 c.if-not-is_object_size.false)

pub returns : goal.returns
returns c =
    all_told (λ _ bytes. IsObjectSize bytes) c.args.objects.now c.loop-bytes.bytes-index c.loop-bytes-test.false
    c.loop-bytes.invariant
