-- The formal parameters of sections, as lists (6.6.3.1).
use Rattle.std.specs.Prelude.{List, [], ◌∷◌, ◌++◌, replicate}
use Rattle.ps_tree.specs.Tree as Tree
use Rattle.ps_check_names.specs.Regions.{Section, ValueSection, VariableSection, RoutineSection, Sections, no_section}
use Rattle.ps_check_names.specs.Regions.{section_before, formals_of}

unfoldable pub section_formals : Section → List Tree.Formal
section_formals (ValueSection count type) = replicate count (Tree.ValueFormal type)
section_formals (VariableSection count type) = replicate count (Tree.VariableFormal type)
section_formals (RoutineSection sections result) = Tree.RoutineFormal (formals_of sections) result ∷ []

unfoldable pub formal_list : Sections → List Tree.Formal
formal_list no_section = []
formal_list (section_before s rest) = section_formals s ++ formal_list rest
