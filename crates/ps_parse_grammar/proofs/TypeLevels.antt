-- Types: what derives within n levels is at most n high, and what is at most n high derives within n levels.
use Rattle.std.proofs.Common.{◌≡◌, ℕ, zero, suc, ◌≤◌, List, [], arith}
use Rattle.ps_scan.specs.declared.token.Kind.TheVariants.{Comma, Semicolon}
use Rattle.ps_syntax.specs.declared.program.Ordinal.{Ordinal}
use Rattle.ps_syntax.specs.declared.program.TypeDenoter.{TypeDenoter}
use Rattle.ps_syntax.specs.declared.program.Structure.{Structure}
use Rattle.ps_syntax.specs.declared.program.Fields.{Fields}
use Rattle.ps_syntax.specs.Height.{height_of_type, height_of_structure, height_of_fields}
use Rattle.ps_parse_grammar.specs.Symbols.{Tokens, Symbol, Separated, one, several, Terminated}
use Rattle.ps_parse_grammar.specs.Programs.{IsFields, fields, IsStructure, array, empty_record, filled_record, set}
use Rattle.ps_parse_grammar.specs.Programs.{IsType, ordinal, pointer, structure, packed, index_within, type_within}
use Rattle.ps_parse_grammar.proofs.Heights as height
use Rattle.ps_parse_grammar.proofs.Levels.{Level, greatest_of, no_level, separated_level, terminated_level}

-- an ordinal counts as an index and as a base
ordinal_height : Ordinal → ℕ
ordinal_height x = 1

indices : (k n : ℕ) → Level (index_within k) ordinal_height k n (index_within n)
unfolding ordinal_height
indices zero n = no_level ordinal_height zero n (index_within n)
indices (suc k) zero = record { bounded = λ x ts r d. omega arith; lowers = λ x ts r d le. absurd (omega (arith, le)) }
indices (suc k) (suc n) = record { bounded = λ x ts r d. omega arith; lowers = λ x ts r d le. d }

-- a list of indices isn't empty
one_index : (I : Symbol Ordinal) (xs : List Ordinal) (ts r : Tokens) → Separated Comma I xs ts r
    → greatest_of ordinal_height xs ≡ 1
unfolding ordinal_height
one_index I xs ts r (one d) = omega arith
one_index I xs ts r (several {xs = ys} {m = m} d ds) = omega (arith, one_index I ys m r ds)

module _ (I I' : Symbol Ordinal) (T T' : Symbol TypeDenoter) (k n : ℕ) (i : Level I ordinal_height k n I')
    (l : Level T height_of_type k n T') where
  fields_bounded : (y : Fields) (ts r : Tokens) → IsFields T y ts r → height_of_fields y ≤ k
  fields_bounded y ts r (fields xs x {m = m} d d') = omega (arith, height.height-fields xs x, l.bounded x m r d')

  fields_lowers : (y : Fields) (ts r : Tokens) → IsFields T y ts r → height_of_fields y ≤ n → IsFields T' y ts r
  fields_lowers y ts r (fields xs x {m = m} d d') le = fields xs x d
      (l.lowers x m r d' (omega (arith, height.height-fields xs x, le)))

  record_level : Level (Terminated Semicolon (IsFields T)) (greatest_of height_of_fields) k n
      (Terminated Semicolon (IsFields T'))
  record_level = terminated_level (IsFields T) (IsFields T') height_of_fields k n (record {
    bounded = fields_bounded;
    lowers = fields_lowers;
  }) Semicolon

  indices_level : Level (Separated Comma I) (greatest_of ordinal_height) k n (Separated Comma I')
  indices_level = separated_level I I' ordinal_height k n i Comma

  structure_bounded : (y : Structure) (ts r : Tokens) → IsStructure I T y ts r → height_of_structure y ≤ k
  unfolding ordinal_height
  structure_bounded y ts r (array {at = at} {xs = xs} {x = x} {ts = q} {m = m} d d') = omega
      (arith, height.height-array at xs x, one_index I xs q _ d, indices_level.bounded xs q _ d, l.bounded x m r d')
  structure_bounded y ts r (empty_record {at = at}) = omega (arith, height.height-record at [])
  structure_bounded y ts r (filled_record {at = at} {xs = xs} {ts = q} d) = omega
      (arith, height.height-record at xs, record_level.bounded xs q _ d)
  structure_bounded y ts r (set {at = at} {x = x} {ts = q} d) = omega
      (arith, height.height-set_type at x, i.bounded x q r d)

  structure_lowers : (y : Structure) (ts r : Tokens) → IsStructure I T y ts r → height_of_structure y ≤ n
      → IsStructure I' T' y ts r
  unfolding ordinal_height
  structure_lowers y ts r (array {at = at} {xs = xs} {x = x} {ts = q} {m = m} d d') le =
      array (indices_level.lowers xs q _ d (omega (arith, height.height-array at xs x, one_index I xs q _ d, le)))
      (l.lowers x m r d' (omega (arith, height.height-array at xs x, le)))
  structure_lowers y ts r empty_record le = empty_record
  structure_lowers y ts r (filled_record {at = at} {xs = xs} {ts = q} d) le = filled_record
      (record_level.lowers xs q _ d (omega (arith, height.height-record at xs, le)))
  structure_lowers y ts r (set {at = at} {x = x} {ts = q} d) le = set
      (i.lowers x q r d (omega (arith, height.height-set_type at x, le)))

  type_bounded : (y : TypeDenoter) (ts r : Tokens) → IsType I T y ts r → height_of_type y ≤ suc k
  type_bounded y ts r (ordinal {x = x} d) = omega (arith, height.height-ordinal x)
  type_bounded y ts r (pointer {at = at} {domain = domain}) = omega (arith, height.height-pointer at domain)
  type_bounded y ts r (structure {x = x} d) = omega (arith, height.height-structure x, structure_bounded x ts r d)
  type_bounded y ts r (packed {at = at} {x = x} {ts = q} d) = omega
      (arith, height.height-packed at x, structure_bounded x q r d)

  type_lowers : (y : TypeDenoter) (ts r : Tokens) → IsType I T y ts r → height_of_type y ≤ suc n → IsType I' T' y ts r
  type_lowers y ts r (ordinal d) le = ordinal d
  type_lowers y ts r pointer le = pointer
  type_lowers y ts r (structure {x = x} d) le = structure
      (structure_lowers x ts r d (omega (arith, height.height-structure x, le)))
  type_lowers y ts r (packed {at = at} {x = x} {ts = q} d) le = packed
      (structure_lowers x q r d (omega (arith, height.height-packed at x, le)))

  type_level : Level (IsType I T) height_of_type (suc k) (suc n) (IsType I' T')
  type_level = record { bounded = type_bounded; lowers = type_lowers }

-- a type has a height
some_height : (I : Symbol Ordinal) (T : Symbol TypeDenoter) (y : TypeDenoter) (ts r : Tokens) → IsType I T y ts r
    → 1 ≤ height_of_type y
some_height I T y ts r (ordinal {x = x} d) = omega (arith, height.height-ordinal x)
some_height I T y ts r (pointer {at = at} {domain = domain}) = omega (arith, height.height-pointer at domain)
some_height I T y ts r (structure {x = x} d) = omega (arith, height.height-structure x)
some_height I T y ts r (packed {at = at} {x = x} d) = omega (arith, height.height-packed at x)

-- ---- at every level
pub types : (k n : ℕ) → Level (type_within k) height_of_type k n (type_within n)
types zero n = no_level height_of_type zero n (type_within n)
types (suc k) zero = record {
  bounded = (let h = type_level (index_within k) (index_within zero) (type_within k) (type_within zero) k zero
      (indices k zero) (types k zero) in h.bounded);
  lowers = λ x ts r d le. absurd (omega (arith, some_height _ _ x ts r d, le));
}
types (suc k) (suc n) = type_level (index_within k) (index_within n) (type_within k) (type_within n) k n (indices k n)
    (types k n)
