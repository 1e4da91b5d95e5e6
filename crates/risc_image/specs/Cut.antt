-- The bytes of an image, cut after the header and each table, and the image that they hold.
use Rattle.std.specs.Prelude.{◌≡◌, ℕ, ◌*◌, ◌%◌, ◌<◌, Bool, true, false, List, ◌++◌, length, Option, Some, None}
use Rattle.risc_image.specs.declared.rows.CallRow.{CallRow}
use Rattle.risc_image.specs.Image.{Image, AreFrames, AreObjects, AreTraps, AreCalls}
use Rattle.risc_image.specs.Refusal.{is_second, header_length, header_word, call_count}
use Rattle.risc_image.specs.Table.{words, frame_rows, object_rows, trap_rows, call_rows_of}

-- the bytes, cut after the header and each table
pub record IsCut (bytes front_part code_part frame_part object_part trap_part call_part : List ℕ) : Type 0 where
  pub joined : bytes ≡ front_part ++ (code_part ++ (frame_part ++ (object_part ++ (trap_part ++ call_part))))
  pub front : length front_part ≡ header_length bytes
  pub code : length code_part ≡ 4 * header_word bytes 1
  pub frames : length frame_part ≡ 8 * header_word bytes 2
  pub objects : length object_part ≡ 8 * header_word bytes 3
  pub traps : length trap_part ≡ 12 * header_word bytes 4
  pub calls : length call_part ≡ 8 * call_count bytes

-- The code and the tables are as the format requires.
pub record AreTables (global : ℕ) (code_part frame_part object_part trap_part call_part : List ℕ) : Type 0 where
  pub some_code : 0 < length code_part
  pub global_aligned : global % 4 ≡ 0
  pub frames : AreFrames (length code_part) (frame_rows (words frame_part))
  pub objects : AreObjects (object_rows (words object_part))
  pub traps : AreTraps (length code_part) (trap_rows (words trap_part))
  pub calls : AreCalls (length code_part) (call_rows_of (words call_part))

-- the call table of that version
abbrev pub call_table : Bool → List ℕ → Option (List CallRow)
call_table true calls = Some (call_rows_of (words calls))
call_table false calls = None

-- what the pieces hold
abbrev pub candidate : (bytes code frames objects traps calls : List ℕ) → Image
candidate bytes code frames objects traps calls = record {
  global = header_word bytes 0;
  code = words code;
  frames = frame_rows (words frames);
  objects = object_rows (words objects);
  traps = trap_rows (words traps);
  calls = call_table (is_second bytes) calls;
}
