-- Variables (6.5).
use Rattle.std.specs.Prelude.{ℕ, false, List, Option, Some, None, slice_get}
use Rattle.ps_tree.specs.Types.{DataType, OrdinalType, PointerType, ArrayType, RecordType, field_in, is_compatible}
use Rattle.ps_tree.specs.declared.types.Ordinal.{Ordinal}
use Rattle.ps_tree.specs.Tree as Tree
use Rattle.ps_check_judgement.specs.declared.refusal.Rule.TheVariants.{Unknown, WrongType}
use Rattle.ps_check_judgement.specs.Judged.{Judged, Yes, No, ◌>>=◌, provided, some_or}
use Rattle.ps_check_names.specs.Constants.{misplaced}
use Rattle.ps_check_names.specs.Regions.{Point, BlockPoint, FieldPoint, VariableMeaning, ParameterMeaning}
use Rattle.ps_tree.specs.Chains.{selected}
use Rattle.ps_check_expressions.specs.declared.operators.Operands.{Operands}
use Rattle.ps_check_expressions.specs.Values.{Value, SimpleValue, Variable, is_packed}

-- 6.5.2, 6.8.3.10: the variable that a name denotes: one of a block, or a field of a record that a `with` opens
unfoldable pub variable_at : (at : ℕ) → Point → Judged Variable
variable_at at (BlockPoint up (VariableMeaning entry type)) =
    Yes (record { place = Tree.Variable (Tree.Entry up entry) Tree.no_selector; type = type; in_packed = false })
variable_at at (BlockPoint up (ParameterMeaning entry type)) =
    Yes (record { place = Tree.Variable (Tree.Entry up entry) Tree.no_selector; type = type; in_packed = false })
variable_at at (FieldPoint which record_type number type) = Yes (record {
  place = Tree.Variable (Tree.Opened which record_type number) Tree.no_selector;
  type = type;
  in_packed = is_packed record_type;
})
variable_at at p = misplaced at p

-- 6.5.3.2: an index is of a type that is compatible with the array's
unfoldable pub index_operand : (at : ℕ) → Ordinal → Value → Judged Tree.Expr
index_operand at index (SimpleValue e type) = provided (is_compatible type (OrdinalType index)) WrongType at e
index_operand at index _ = No WrongType at

-- an element of an array
unfoldable pub element : Operands → Tree.Place → DataType → Value → ℕ → Judged Variable
element at place (ArrayType a packed index component) v line =
    index_operand at.second index v >>= (λ e. Yes (record {
      place = selected place (Tree.Element (ArrayType a packed index component) e line);
      type = component;
      in_packed = packed;
    }))
element at place _ _ line = No WrongType at.first

abbrev pub field_of : (at : ℕ) → Tree.Place → DataType → Option (ℕ × DataType) → Judged Variable
field_of at place type None = No Unknown at
field_of at place type (Some f) =
    Yes (record { place = selected place (Tree.Field type f.0); type = f.1; in_packed = is_packed type })

-- 6.5.3.3: a field of a record, which begins at `first`; its name is at `at`
unfoldable pub component : (first at : ℕ) → Tree.Place → DataType → List ℕ → Judged Variable
component first at place (RecordType a packed fields) name = field_of at place (RecordType a packed fields)
    (field_in fields name)
component first at place _ name = No WrongType first

-- 6.5.4: what a pointer, which begins at `first`, identifies
unfoldable pub target : (first : ℕ) → List DataType → Tree.Place → DataType → ℕ → Judged Variable
target first domains place (PointerType number) line =
    some_or WrongType first (slice_get domains number)
    >>= (λ type. Yes (record { place = selected place (Tree.Target number line); type = type; in_packed = false }))
target first domains place _ line = No WrongType first
