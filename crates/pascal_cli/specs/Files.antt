-- What is done if an image is to be written and there is something at its path.
use Rattle.std.specs.Prelude.{◌*◌, ◌^◌, ◌%◌, ℕ, Bool, true, false, ◌==◌, ◌&&◌, Option, Some, None, bit_and, bit_or}
use Rattle.std.specs.Prelude.{if◌then◌else◌}
use Rattle.pascal_cli.specs.declared.image_file.FileNumber.{FileNumber}
use Rattle.pascal_cli.specs.declared.image_file.Way.{Way}
use Rattle.pascal_cli.specs.declared.image_file.Way.TheVariants.{Refused, Exchanged, Written}

-- by whatever names, it is one file
abbrev pub is_same_file : FileNumber → FileNumber → Bool
is_same_file a b = a.device == b.device && a.node == b.node

-- The source is never written. A regular file is replaced by a new one, and anything else is written as it is.
abbrev pub way_of : Option FileNumber → FileNumber → (is_regular : Bool) → Way
way_of None there is_regular = if is_regular then Exchanged else Written
way_of (Some source) there is_regular =
    if is_same_file source there then Refused else if is_regular then Exchanged else Written

-- The owner, the group and all others may do with a new file what they may do with the older one that it replaces, and
-- nobody runs it as somebody else. If it can't have that group, its own may do what all others may.
abbrev pub rights_of : (older : ℕ) → (has_group : Bool) → ℕ
rights_of older true = bit_and older 0o777
rights_of older false = bit_or (bit_and older 0o707) (bit_and older 0o007 * 2 ^ 3 % 2 ^ 32)
