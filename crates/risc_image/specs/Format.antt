-- The image as bytes: the magic, and then little-endian words, those of the header, the code and the tables
-- (this project's image format, both versions).
use Rattle.std.specs.Prelude.{◌≡◌, ℕ, ◌<◌, ◌^◌, List, [], ◌∷◌, ◌++◌, length, All, Option, Some, None}
use Rattle.std.specs.List.{flat_map}
use Rattle.std.specs.Int.{w32, to_le_bytes}
use Rattle.risc_image.specs.declared.rows.FrameRow.{FrameRow}
use Rattle.risc_image.specs.declared.rows.ObjectRow.{ObjectRow}
use Rattle.risc_image.specs.declared.rows.TrapRow.{TrapRow}
use Rattle.risc_image.specs.declared.rows.CallRow.{CallRow}
use Rattle.risc_image.specs.Image.{Image, IsWellFormed, call_rows}

-- P, R, I and the digit of the version
abbrev pub first_magic : List ℕ
first_magic = 0x50 ∷ 0x52 ∷ 0x49 ∷ 0x31 ∷ []

abbrev pub second_magic : List ℕ
second_magic = 0x50 ∷ 0x52 ∷ 0x49 ∷ 0x32 ∷ []

abbrev pub magic_of : Option (List CallRow) → List ℕ
magic_of None = first_magic
magic_of (Some rows) = second_magic

abbrev pub count_of : Option (List CallRow) → List ℕ
count_of None = []
count_of (Some rows) = length rows ∷ []

-- the global bytes, and the counts of code, frames, objects, traps and, in the second version, calls
abbrev pub header : Image → List ℕ
header image =
    image.global ∷ length image.code ∷ length image.frames ∷ length image.objects ∷ length image.traps
    ∷ count_of image.calls

-- the words of a row
abbrev pub frame_words : FrameRow → List ℕ
frame_words row = row.entry ∷ row.bytes ∷ []

abbrev pub object_words : ObjectRow → List ℕ
object_words row = row.pointer_type ∷ row.bytes ∷ []

abbrev pub trap_words : TrapRow → List ℕ
trap_words row = row.link ∷ row.error ∷ row.line ∷ []

abbrev pub call_words : CallRow → List ℕ
call_words row = row.link ∷ row.line ∷ []

-- all words after the magic
abbrev pub image_words : Image → List ℕ
image_words image =
    header image ++ (image.code ++ (flat_map frame_words image.frames ++ (flat_map object_words image.objects
    ++ (flat_map trap_words image.traps ++ flat_map call_words (call_rows image)))))

-- words as bytes, the lowest byte of each first
abbrev pub word_bytes : List ℕ → List ℕ
word_bytes words = flat_map (to_le_bytes w32) words

-- the one spelling of an image
abbrev pub spelling : Image → List ℕ
spelling image = magic_of image.calls ++ word_bytes (image_words image)

-- each number has 32 bits
abbrev pub AreWords : List ℕ → Type 0
AreWords words = All (λ word. word < 2 ^ 32) words

-- The bytes are this image.
pub record IsImage (bytes : List ℕ) (image : Image) : Type 0 where
  pub spelled : bytes ≡ spelling image
  pub numbers : AreWords (image_words image)
  pub well_formed : IsWellFormed image
