-- Listings of images.
use Rattle.std.specs.Prelude.{◌≡◌, ℕ, List}
use Rattle.risc_image.specs.Image.{Image}
use Rattle.risc_image.specs.Format.{IsImage}
use Rattle.risc_image_list.specs.Listing.{listing}

-- the bytes are an image
pub record AreImage (bytes : List ℕ) : Type 0 where
  pub image : Image
  pub is_image : IsImage bytes image

-- the bytes are an image, and the text is its listing
pub record IsListed (bytes text : List ℕ) : Type 0 where
  pub image : Image
  pub is_image : IsImage bytes image
  pub listed : text ≡ listing image
