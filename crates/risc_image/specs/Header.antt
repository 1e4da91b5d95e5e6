-- The header that bytes begin with, and the checks before the tables.
use Rattle.std.specs.Prelude.{◌≡◌, ℕ, ◌≤◌, true, false, List, length}
use Rattle.risc_image.specs.declared.header.Header.{Header}
use Rattle.risc_image.specs.Refusal.{header_word, asked_calls, begins_as_image, header_length, is_too_large}
use Rattle.risc_image.specs.Refusal.{asked_length}

pub record IsHeader (bytes : List ℕ) (header : Header) : Type 0 where
  pub global : header.global ≡ header_word bytes 0
  pub code : header.code ≡ header_word bytes 1
  pub frames : header.frames ≡ header_word bytes 2
  pub objects : header.objects ≡ header_word bytes 3
  pub traps : header.traps ≡ header_word bytes 4
  pub calls : header.calls ≡ asked_calls bytes

-- The bytes pass the checks of the magic, the header, the limits and the length.
pub record Passes (bytes : List ℕ) : Type 0 where
  pub begins : begins_as_image bytes ≡ true
  pub long : header_length bytes ≤ length bytes
  pub limits : is_too_large bytes ≡ false
  pub exact : length bytes ≡ asked_length bytes
