-- The calls of a program as lists, by which its depths are found.
use Rattle.std.specs.Prelude.{List, [], ◌∷◌, ◌++◌, map, flat_map}
use Rattle.ps_tree.specs.Tree.{Program}
use Rattle.ps_needs_least.specs.declared.uses.Use.{Use}
use Rattle.ps_needs_least.specs.declared.uses.Use.TheVariants.{Called, Passed, ParameterCalled}
use Rattle.ps_needs_least.specs.Uses.{statements_uses}

-- a routine that is passed, as a call of it
abbrev pub passed_in : Use → List Use
passed_in (Called s) = []
passed_in (Passed s) = Called s ∷ []
passed_in ParameterCalled = []

abbrev pub blocks_of : Program → List (List Use)
blocks_of program = map (λ r. statements_uses r.body) program.routines

-- what each block does, by the routines' numbers, followed by what a call of a parameter may call
abbrev pub nodes_of : Program → List (List Use)
nodes_of program = blocks_of program ++ flat_map (λ us. flat_map passed_in us) (blocks_of program) ∷ []
