-- What an image holds, and what is required of it (this project's image format, both versions).
use Rattle.std.specs.Prelude.{◌≡◌, ℕ, ◌*◌, ◌%◌, ◌<◌, ◌≤◌, List, [], length, map, All, Option, Vec, option_map}
use Rattle.std.specs.Prelude.{unwrap_or}
use Rattle.std.specs.List.Sorted.{IsStrictlyIncreasing}
use Rattle.risc_image.specs.declared.header.TheConstants.{MAX_COUNT}
use Rattle.risc_image.specs.declared.rows.FrameRow.{FrameRow}
use Rattle.risc_image.specs.declared.rows.ObjectRow.{ObjectRow}
use Rattle.risc_image.specs.declared.rows.TrapRow.{TrapRow}
use Rattle.risc_image.specs.declared.rows.CallRow.{CallRow}

-- the bytes of the globals, the words of the code, and the tables; the first version has no call table
pub record Image : Type 0 where
  pub global : ℕ
  pub code : List ℕ
  pub frames : List FrameRow
  pub objects : List ObjectRow
  pub traps : List TrapRow
  pub calls : Option (List CallRow)

-- the list of an optional vector
abbrev pub call_list : {A : Type 0} → Option (Vec CallRow A) → Option (List CallRow)
call_list calls = option_map (λ v. v.items) calls

-- the rows of the call table, none if there is no table
abbrev pub call_rows : Image → List CallRow
call_rows image = unwrap_or image.calls []

-- the address after the last word of the code
abbrev pub code_end : Image → ℕ
code_end image = 4 * length image.code

-- A routine's row: its entry is the address of a word of the code, and its frame is whole words.
pub record IsFrame (end : ℕ) (row : FrameRow) : Type 0 where
  pub entry_aligned : row.entry % 4 ≡ 0
  pub entry_within : row.entry < end
  pub bytes_aligned : row.bytes % 4 ≡ 0

pub record IsObject (row : ObjectRow) : Type 0 where
  pub bytes_aligned : row.bytes % 4 ≡ 0

-- A link: the address after a word of the code.
pub record IsLink (end link : ℕ) : Type 0 where
  pub aligned : link % 4 ≡ 0
  pub low : 4 ≤ link
  pub high : link ≤ end

pub record IsLine (line : ℕ) : Type 0 where
  pub low : 1 ≤ line
  pub high : line ≤ 65535

pub record IsTrap (end : ℕ) (row : TrapRow) : Type 0 where
  pub link : IsLink end row.link
  pub error_low : 1 ≤ row.error
  pub error_high : row.error ≤ 13
  pub line : IsLine row.line

pub record IsCall (end : ℕ) (row : CallRow) : Type 0 where
  pub link : IsLink end row.link
  pub line : IsLine row.line

-- the globals and the counts are within the limit
pub record IsWithinLimits (image : Image) : Type 0 where
  pub global : image.global ≤ MAX_COUNT
  pub code : length image.code ≤ MAX_COUNT
  pub frames : length image.frames ≤ MAX_COUNT
  pub objects : length image.objects ≤ MAX_COUNT
  pub traps : length image.traps ≤ MAX_COUNT
  pub calls : length (call_rows image) ≤ MAX_COUNT

-- A table: each row is good, and the rows ascend by their first number.
pub record AreFrames (end : ℕ) (rows : List FrameRow) : Type 0 where
  pub each : All (IsFrame end) rows
  pub rising : IsStrictlyIncreasing (map (λ row. row.entry) rows)

pub record AreObjects (rows : List ObjectRow) : Type 0 where
  pub each : All IsObject rows
  pub rising : IsStrictlyIncreasing (map (λ row. row.pointer_type) rows)

pub record AreTraps (end : ℕ) (rows : List TrapRow) : Type 0 where
  pub each : All (IsTrap end) rows
  pub rising : IsStrictlyIncreasing (map (λ row. row.link) rows)

pub record AreCalls (end : ℕ) (rows : List CallRow) : Type 0 where
  pub each : All (IsCall end) rows
  pub rising : IsStrictlyIncreasing (map (λ row. row.link) rows)

pub record HasGoodTables (image : Image) : Type 0 where
  pub some_code : 0 < length image.code
  pub global_aligned : image.global % 4 ≡ 0
  pub frames : AreFrames (code_end image) image.frames
  pub objects : AreObjects image.objects
  pub traps : AreTraps (code_end image) image.traps
  pub calls : AreCalls (code_end image) (call_rows image)

pub record IsWellFormed (image : Image) : Type 0 where
  pub limits : IsWithinLimits image
  pub tables : HasGoodTables image
