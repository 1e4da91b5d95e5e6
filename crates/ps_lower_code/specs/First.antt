-- Which variables have first values: numbers are integers, and bytes if their types' values are bytes.
use Rattle.std.specs.Prelude.{pos, IsTrue, int_le, not, ◌&&◌, ◌||◌}
use Rattle.ps_lower_layout.specs.Shapes.{Shape, NumberShape, PointerShape, SetShape, ByteShape, ArrayShape}
use Rattle.ps_lower_layout.specs.Shapes.{RecordShape, Shapes, no_shape, shape_before}
use Rattle.tac_code.specs.Numbers.{is_integer}

abbrev mutual
  pub FirstFits : Shape → Type 0
  FirstFits (NumberShape first narrow) = IsTrue (is_integer first) × IsTrue
      (not narrow || (int_le (pos 0) first && int_le first (pos 255)))
  FirstFits (PointerShape pointer) = Unit {0}
  FirstFits SetShape = Unit {0}
  FirstFits (ByteShape count first) = IsTrue (int_le (pos 0) first && int_le first (pos 255))
  FirstFits (ArrayShape count shape) = FirstFits shape
  FirstFits (RecordShape shapes) = FieldsFit shapes

  pub FieldsFit : Shapes → Type 0
  FieldsFit no_shape = Unit {0}
  FieldsFit (shape_before shape rest) = FirstFits shape × FieldsFit rest
