-- A listing of three words, computed by hand: a stop of the machine, whose trap belongs to line 7, and a word that is
-- no instruction.
use Rattle.std.proofs.Common.{◌≡◌, refl, [], ◌∷◌, codes, None}
use Rattle.std.specs.Fmt.{digits}
use Rattle.risc_image_list.specs.Listing.{listing}

three_words : listing (record {
  global = 0;
  code = 1073741824 ∷ 2710569220 ∷ 268435456 ∷ [];
  frames = [];
  objects = [];
  traps = record {
    link = 8;
    error = 7;
    line = 7;
  } ∷ [];
  calls = None;
}) ≡ codes "000000 40000000 MOV R0, 0\n000004 A1900104 ST R1, R9, 260 ; line 7\n000008 10000000 word\n"
unfolding digits
three_words = refl
