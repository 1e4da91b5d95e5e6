-- What the typing of variables and expressions says of the trees that it gives.
use Rattle.std.proofs.Common.{◌≡◌, ℕ, ◌<◌, Bool, true, false, List, length}
use Rattle.ps_tree.specs.Types.{DataType, OrdinalType, PointerType, NilType, SetType, EmptySetType, TextType}
use Rattle.ps_tree.specs.Types.{ArrayType, RecordType}
use Rattle.ps_tree.specs.Sizes.{fits_byte}
use Rattle.ps_tree.specs.Tree.{Expr, SetExpr, Structure, Literal, Contents}
use Rattle.ps_lower_layout.specs.Shapes.{Shape, shape_of, Part, Whole, Byte}
use Rattle.ps_lower_layout.specs.Paths.{NumberSort, PointerSort}
use Rattle.ps_lower_code.specs.Scopes.{Scope}
use Rattle.ps_lower_code.specs.Fits.{PlaceFits, ExprFits, SetFits}
use Rattle.ps_check_expressions.specs.Values.{Value, SimpleValue, SetValue, StructureValue, Variable, Operand}
use Rattle.ps_lower_accepted.proofs.Lists.{Gives}
use Rattle.ps_lower_accepted.proofs.Tables.{Table, OrdinalKnown, TypeKnown}
use Rattle.ps_lower_accepted.proofs.Standing.{IsText}

-- a variable of a type: a byte of a packed array, or whole words
abbrev pub part_of : (byte : Bool) → DataType → Part
part_of true type = Byte
part_of false type = Whole (shape_of type)

abbrev pub bound_of : Scope → ℕ
bound_of k = length k.program.domains

module _ (D : Table) (k : Scope) (os : List Shape) where
  pub record VariableTold (v : Variable) : Type 0 where
    pub known : TypeKnown D (bound_of k) v.type
    pub byte : Bool
    -- a byte is a component of a packed variable, and an ordinal that fits a byte
    pub packed : byte ≡ true → v.in_packed ≡ true
    pub small : byte ≡ true → fits_byte v.type ≡ true
    pub fits : PlaceFits k os v.place (part_of byte v.type)

  abbrev pub SimpleTold : Expr → DataType → Type 0
  SimpleTold e (OrdinalType o) = OrdinalKnown D o × ExprFits k os e NumberSort
  SimpleTold e (PointerType n) = (n < bound_of k) × ExprFits k os e (PointerSort n)
  SimpleTold e NilType = (n : ℕ) → ExprFits k os e (PointerSort n)
  SimpleTold e type = ⊥

  abbrev pub SetTold : SetExpr → DataType → Type 0
  SetTold e (SetType denoter packing base) = SetFits k os e
  SetTold e EmptySetType = SetFits k os e
  SetTold e type = ⊥

  abbrev pub StructureTold : Structure → DataType → Type 0
  StructureTold (Literal w) (TextType n) = (n ≡ length w) × IsText w
  StructureTold (Contents p like) (ArrayType at packed index component) = (like ≡ ArrayType at packed index component)
      × TypeKnown D (bound_of k) (ArrayType at packed index component) × PlaceFits k os p
      (Whole (shape_of (ArrayType at packed index component)))
  StructureTold (Contents p like) (RecordType at packed fields) = (like ≡ RecordType at packed fields) × TypeKnown D
      (bound_of k) (RecordType at packed fields) × PlaceFits k os p (Whole (shape_of (RecordType at packed fields)))
  StructureTold e type = ⊥

  abbrev pub ValueTold : Value → Type 0
  ValueTold (SimpleValue e type) = SimpleTold e type
  ValueTold (SetValue e type) = SetTold e type
  ValueTold (StructureValue e type) = StructureTold e type

  -- what an expression is seen as: its value, and the variable that it is
  pub record OperandTold (x : Operand) : Type 0 where
    pub value : (v : Value) → Gives x.value v → ValueTold v
    pub variable : (v : Variable) → Gives x.variable v → VariableTold v
