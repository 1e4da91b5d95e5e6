-- Shapes of known types: their arrays have components.
use Rattle.std.proofs.Common.{ℕ, ◌≤◌, Bool, true, false, ◌&&◌, if◌then◌else◌}
use Rattle.ps_tree.specs.Types.{DataType, OrdinalType, PointerType, NilType, SetType, EmptySetType, TextType}
use Rattle.ps_tree.specs.Types.{ArrayType, RecordType, field_list, DataTypes, no_type, type_before}
use Rattle.ps_tree.specs.Sizes.{value_count, fits_byte}
use Rattle.ps_lower_layout.specs.Shapes.{ByteShape, ArrayShape, shape_of, shapes_of, first_of}
use Rattle.ps_lower_code.specs.Fits.{HasCells, HaveCells}
use Rattle.ps_lower_bounds.proofs.Counts.{count_there}
use Rattle.ps_lower_accepted.proofs.Tables.{Table, TypeKnown, TypesKnown}

mutual
  pub known_cells : (D : Table) (b : ℕ) (type : DataType) → TypeKnown D b type → HasCells (shape_of type)
  known_cells D b (OrdinalType o) k = tt
  known_cells D b (PointerType n) k = tt
  known_cells D b NilType k = absurd k
  known_cells D b (SetType d p o) k = tt
  known_cells D b EmptySetType k = absurd k
  known_cells D b (TextType n) k = absurd k
  known_cells D b (ArrayType at packed i c) k = go (packed && fits_byte c) (count_there i.low i.high k.1.rises)
      (known_cells D b c k.2)
    where
      go : (t : Bool) → 1 ≤ value_count i → HasCells (shape_of c) → HasCells
          (if t then ByteShape (value_count i) (first_of c) else ArrayShape (value_count i) (shape_of c))
      go true l h = l
      go false l h = (l, h)
  known_cells D b (RecordType at packed (field_list names types)) k = all_cells D b types k.1

  all_cells : (D : Table) (b : ℕ) (types : DataTypes) → TypesKnown D b types → HaveCells (shapes_of types)
  all_cells D b no_type k = tt
  all_cells D b (type_before type rest) k = (known_cells D b type k.0, all_cells D b rest k.1)
