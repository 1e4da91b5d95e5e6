-- What the values of the program denote in the definitions.
pub use Rattle.ps_check_names.specs.SectionViews.{section_of, sections_of}
pub use Rattle.ps_check_names.specs.MeaningViews.{heading_of}
unfoldable pub use Rattle.ps_check_names.specs.MeaningViews.{meaning_of}
use Rattle.std.specs.Prelude.{ℕ, List, [], ◌∷◌, map}
use Rattle.ps_tree.specs.declared.types.Ty.{Ty}
use Rattle.ps_tree.specs.View.{type_of}
use Rattle.ps_check_names.specs.declared.scope.Scope.{Scope, Outside, Block', Opened', Nested', Own'}
use Rattle.ps_check_names.specs.declared.wides.Wides.{Wides}
use Rattle.ps_check_names.specs.declared.scope.Lookup.{Lookup}
use Rattle.ps_check_names.specs.declared.scope.Lookup.TheVariants as l
use Rattle.ps_check_names.specs.declared.scope.Found.{Found}
use Rattle.ps_check_names.specs.declared.scope.Found.TheVariants as f
use Rattle.ps_check_names.specs.declared.reading.Reading.{Reading}
use Rattle.ps_check_names.specs.declared.constants.ConstantValue as RustConstant
use Rattle.ps_check_names.specs.declared.constants.ConstantValue.TheVariants as c
use Rattle.ps_check_judgement.specs.Judged.{Judged, Yes, No}
use Rattle.ps_check_names.specs.Nests.{levels_of, records_in}
use Rattle.ps_check_names.specs.Constants.{ConstantValue, OrdinalConstant, TextConstant}
use Rattle.ps_check_names.specs.Regions.{Region, BlockRegion, RecordRegion, OwnNames, fields_of, Point, BlockPoint}
use Rattle.ps_check_names.specs.Regions.{FieldPoint, Context}

-- the regions after records of these types were opened one after the other
unfoldable pub opened_in : List Region → List Ty → List Region
opened_in Γ [] = Γ
opened_in Γ (ty ∷ types) = opened_in (RecordRegion (type_of ty) (fields_of (type_of ty)) ∷ Γ) types

unfoldable pub scope_of : Scope → List Region
scope_of Outside = []
scope_of (Block' routine names known p outer) = BlockRegion routine names.now (map meaning_of known.now)
    ∷ scope_of outer
scope_of (Opened' records p outer) = opened_in (scope_of outer) records.now.records.items
scope_of (Nested' nest p outer) = opened_in (scope_of outer) (records_in (levels_of nest.now.levels))
scope_of (Own' names defined p outer) = OwnNames names.now defined ∷ scope_of outer

-- the wide types by which a `with` statement within these regions opens records: those of the surrounding one if there
-- is one, otherwise these
unfoldable pub wides_within : Scope → Wides → Wides
wides_within (Nested' nest p outer) wides = nest.now.wides.now
wides_within _ wides = wides

abbrev pub point_of : Found → Point
point_of (f.Name up meaning) = BlockPoint up (meaning_of meaning.now)
point_of (f.Field which record_type number ty) = FieldPoint which (type_of record_type.now) number (type_of ty.now)

-- what a search found for a name whose use begins at an offset
abbrev pub found : (at : ℕ) → Lookup → Judged Point
found at (l.Found point) = Yes (point_of point)
found at (l.Broken rule) = No rule at

-- outside all statements
abbrev pub context_of : Reading → Context
context_of r = record {
  text = r.source.now;
  domains = map type_of r.domains.now;
  has_input = r.has_input;
  has_output = r.has_output;
  controls = [];
  inner = [];
}

unfoldable pub constant_of : RustConstant.ConstantValue → ConstantValue
constant_of (c.Ordinal ordinal value) = OrdinalConstant ordinal value
constant_of (c.Text characters) = TextConstant characters
