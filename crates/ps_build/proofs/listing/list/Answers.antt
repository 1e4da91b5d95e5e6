-- The listing of the image that was read is that of the bytes.
use Rattle.std.proofs.Common.{◌≡◌}
use Rattle.std.specs.String.{string_bytes}
use Rattle.std.proofs.lemmas.Result.{IfOk-weaker}
use Rattle.risc_image_list.specs.Listing.{listing}
use Rattle.ps_build.specs.Listed.{IsListed}
use Rattle.ps_build.proofs.listing.list.Goals as goal

pub list-requires : goal.list-requires
list-requires c = c.view.ensures.well_formed

pub returns : goal.returns
returns c =
    let image = c.view.result in
    IfOk-weaker c.list.result (λ text. string_bytes text ≡ listing image)
    (λ text. IsListed c.args.built.now (string_bytes text)) (λ text same. record {
      image = image;
      is_image = c.view.ensures;
      listed = same;
    }) c.list.ensures
