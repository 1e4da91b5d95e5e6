-- What the names in the statements of a block denote (6.2.2, 6.8.3.10): each use is given at its place in the tree,
-- with the records that are opened around it.
use Rattle.std.specs.Prelude.{◌≡◌, ℕ, List, [], ◌∷◌, ◌++◌}
use Rattle.ps_syntax.specs.declared.expression.Variable as syntax
use Rattle.ps_syntax.specs.declared.program.Program as syntax_program
use Rattle.ps_check_judgement.specs.declared.change.Change.{Change}
use Rattle.ps_check_judgement.specs.Judged.{Yes}
use Rattle.ps_check_names.specs.Spelling.{spelled}
use Rattle.ps_check_names.specs.Regions.{Region, RecordRegion, Point, Context, find}
use Rattle.ps_tree.specs.Types.{DataType, FieldList}
use Rattle.ps_check_expressions.specs.Values.{Variable}
use Rattle.ps_check_expressions.specs.Expressions.{variable_operand}
use Rattle.ps_check_statements.specs.Structured.{record_region}
use Rattle.ps_check_laws.specs.Uses.{opened_regions, IsDenoted}
use Rattle.ps_check_laws.specs.Occurrences.{Use}

-- the context within `for` statements with these control variables
abbrev pub in_loops : Context → (controls : List ℕ) → Context
in_loops c controls = record {
  text = c.text;
  domains = c.domains;
  has_input = c.has_input;
  has_output = c.has_output;
  controls = controls;
  inner = c.inner;
}

module _ (c : Context) (Γ : List Region) where
  -- The record variable is one of this record type, with some records open already. It may be within `for` statements
  -- with these control variables, after some changes.
  pub record IsOpened (outer : List (DataType × FieldList)) (x : syntax.Variable) (type : DataType) (fields : FieldList)
      : Type 0 where
    pub controls : List ℕ
    pub before : List Change
    pub behind : List Change
    pub variable : Variable
    pub reading : (variable_operand (in_loops c controls) (opened_regions outer ++ Γ) x).variable before ≡ Yes
        (variable, behind)
    pub is_of : variable.type ≡ type
    pub is_record : (at : ℕ) → record_region at type ≡ Yes (RecordRegion type fields)

  -- the records of some record variables, from the inside out, each opened within those further out
  pub data AreOpened : List syntax.Variable → List (DataType × FieldList) → Type 0 where
    none_opened : AreOpened [] []
    one_opened : (x : syntax.Variable) (xs : List syntax.Variable) (type : DataType) (fields : FieldList)
        (outer : List (DataType × FieldList)) → IsOpened outer x type fields → AreOpened xs outer → AreOpened (x ∷ xs)
        ((type, fields) ∷ outer)

-- A use in the statements of the block at a path: what it denotes there, within the records that are opened around it,
-- is what the search finds.
pub record IsDenotedThere (text : List ℕ) (p : syntax_program.Program) (v : List ℕ) (n : ℕ) (c : Context)
    (Γ : List Region) (u : Use) : Type 0 where
  pub opened : List (DataType × FieldList)
  pub are : AreOpened c Γ u.opened opened
  pub point : Point
  pub found : find (opened_regions opened ++ Γ) (spelled text u.name) u.name.from ≡ Yes point
  pub denotes : IsDenoted text p (spelled text u.name) v n Γ opened point
