-- What meanings of names denote in the definitions.
use Rattle.std.specs.Prelude.{option_map, map}
use Rattle.ps_tree.specs.View.{type_of}
use Rattle.ps_check_names.specs.declared.meaning.Heading as RustHeading
use Rattle.ps_check_names.specs.declared.meaning.Meaning as RustMeaning
use Rattle.ps_check_names.specs.declared.meaning.Meaning.TheVariants as m
use Rattle.ps_check_names.specs.Regions.{Heading, Meaning, ConstantMeaning, TextMeaning, TypeMeaning}
use Rattle.ps_check_names.specs.Regions.{VariableMeaning, ParameterMeaning, RoutineParameterMeaning, RoutineMeaning}
use Rattle.ps_check_names.specs.Regions.{FileMeaning, RequiredMeaning, LeftOutMeaning}

abbrev pub heading_of : RustHeading.Heading → Heading
heading_of h = record {
  number = h.number;
  at = h.at;
  sections = h.sections.value;
  result = option_map type_of h.result;
  names = map (λ name. name.items) h.names.items;
  is_forward = h.is_forward;
}

unfoldable pub meaning_of : RustMeaning.Meaning → Meaning
meaning_of (m.Constant ordinal value) = ConstantMeaning ordinal value
meaning_of (m.Text characters) = TextMeaning characters
meaning_of (m.«Type» ty) = TypeMeaning (type_of ty)
meaning_of (m.Variable entry ty) = VariableMeaning entry (type_of ty)
meaning_of (m.Parameter entry ty) = ParameterMeaning entry (type_of ty)
meaning_of (m.RoutineParameter entry sections result) = RoutineParameterMeaning entry sections.value
    (option_map type_of result)
meaning_of (m.Routine heading) = RoutineMeaning (heading_of heading)
meaning_of (m.File file) = FileMeaning file
meaning_of (m.Required routine) = RequiredMeaning routine
meaning_of m.LeftOut = LeftOutMeaning
