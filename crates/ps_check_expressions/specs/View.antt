-- What the values of the program denote in the definitions.
use Rattle.std.specs.Prelude.{ℕ, List, map}
use Rattle.ps_tree.specs.View.{type_of, place_of, expr_of, set_of, structure_of}
use Rattle.ps_check_names.specs.Regions.{Context, Region}
use Rattle.ps_check_names.specs.Views.{scope_of}
use Rattle.ps_check_expressions.specs.declared.value.TypedValue.{TypedValue}
use Rattle.ps_check_expressions.specs.declared.value.TypedValue.TheVariants.{Simple, Set, Structure}
use Rattle.ps_check_expressions.specs.declared.value.TypedPlace.{TypedPlace}
use Rattle.ps_check_expressions.specs.declared.site.Site.{Site}
use Rattle.ps_check_expressions.specs.Values.{Value, SimpleValue, SetValue, StructureValue, Variable}

unfoldable pub value_of : TypedValue → Value
value_of (Simple value ty) = SimpleValue (expr_of value) (type_of ty)
value_of (Set value ty) = SetValue (set_of value) (type_of ty)
value_of (Structure value ty) = StructureValue (structure_of value) (type_of ty)

abbrev pub variable_of : TypedPlace → Variable
variable_of v = record { place = place_of v.place; type = type_of v.ty; in_packed = v.in_packed }

-- the context and the regions of a place in the program
abbrev pub context_at : Site → Context
context_at site = record {
  text = site.reading.now.source.now;
  domains = map type_of site.reading.now.domains.now;
  has_input = site.reading.now.has_input;
  has_output = site.reading.now.has_output;
  controls = site.controls.now;
  inner = site.inner.now.changes.now;
}

abbrev pub with_controls : Context → List ℕ → Context
with_controls c controls = record {
  text = c.text;
  domains = c.domains;
  has_input = c.has_input;
  has_output = c.has_output;
  controls = controls;
  inner = c.inner;
}

abbrev pub regions_at : Site → List Region
regions_at site = scope_of site.scope.now
