-- What the types of the program denote in the definitions.
use Rattle.std.specs.Prelude.{List, map}
use Rattle.ps_tree.specs.Types.{DataType, OrdinalType, PointerType, NilType, SetType, EmptySetType, TextType}
use Rattle.ps_tree.specs.Types.{ArrayType, RecordType, DataTypes, listed}
use Rattle.ps_tree.specs.declared.types.Ty.{Ty}
use Rattle.ps_tree.specs.declared.types.Ty.TheVariants.{Simple, Pointer, Nil, Set, EmptySet, Text, Array, Record}

unfoldable pub type_of : Ty → DataType
type_of (Simple o) = OrdinalType o
type_of (Pointer n) = PointerType n
type_of Nil = NilType
type_of (Set at packing base) = SetType at packing base
type_of EmptySet = EmptySetType
type_of (Text length) = TextType length
type_of (Array at packed index component) = ArrayType at packed index component.value
type_of (Record at packed fields) = RecordType at packed fields.value

-- lists of types
abbrev pub types_of : List Ty → DataTypes
types_of ts = listed (map type_of ts)
