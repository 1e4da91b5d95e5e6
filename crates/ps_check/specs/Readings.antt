-- What is read of routines and blocks, and what they give (6.2.1, 6.6.1, 6.6.2).
use Rattle.std.specs.Prelude.{ℕ, Bool, true, false, List, [], ◌∷◌, Option, Some, None}
use Rattle.ps_text.specs.declared.Span.{Span}
use Rattle.ps_syntax.specs.declared.program.Heading as syntax
use Rattle.ps_syntax.specs.declared.program.Heading.TheOpen.{Heading-F}
use Rattle.ps_syntax.specs.declared.program.Heading.{out-Heading}
use Rattle.ps_syntax.specs.declared.program.Section as syntax_section
use Rattle.ps_syntax.specs.declared.program.Routine.TheOpen.{Routine-F, Block-F}
use Rattle.ps_tree.specs.Types.{DataType}
use Rattle.ps_tree.specs.Tree as Tree
use Rattle.ps_check_judgement.specs.declared.change.Change.{Change}
use Rattle.ps_check_judgement.specs.Judged.{Judged}
use Rattle.ps_check_names.specs.Regions.{Region, Meaning}

-- ---- what is read

-- The whole program so far: the domain types of its pointer types and its routines, both by number. Routines are
-- numbered in the order of their first headings. A routine whose block is still to come, or is being read, is missing.
pub record Gathered : Type 0 where
  pub domains : List DataType
  pub routines : List (Option Tree.Routine)

-- What a block begins with: the numbers of its routine and of those around it, innermost first; the names that its
-- region has before its own (formal parameters, or the files of a program heading) with their meanings; and the entry
-- of its first variable.
pub record Start : Type 0 where
  pub chain : List ℕ
  pub names : List (List ℕ)
  pub known : List Meaning
  pub first : ℕ

-- The result of reading a block: the types of its variables, its statements, the line of its `begin`, what its
-- statements and the routines within it change, as the block sees it, and the program with the routines within it.
pub record Done : Type 0 where
  pub variables : List DataType
  pub body : Tree.Statements
  pub line : ℕ
  pub changes : List Change
  pub gathered : Gathered

-- What the routines of a block so far give: the meanings of the block's names, what they change, as the block sees it,
-- and the program.
pub record Routines : Type 0 where
  pub known : List Meaning
  pub changes : List Change
  pub gathered : Gathered

abbrev pub BlockReading : Type 0
BlockReading = List Region → Start → Gathered → Judged Done

-- a routine: its name, its heading, unless it is `function` and only the name, and its block, unless it is forward
pub record RoutineReading : Type 0 where
  pub name : Span
  pub heading : Option syntax.Heading
  pub block : Option BlockReading

abbrev pub RoutineLayer : Type 0
RoutineLayer = Routine-F RoutineReading BlockReading

abbrev pub BlockLayer : Type 0
BlockLayer = Block-F RoutineReading BlockReading

-- ---- headings

abbrev pub HeadingLayer : Type 0
HeadingLayer = Heading-F syntax.Heading syntax_section.Section

abbrev pub layer_name : HeadingLayer → Span
layer_name (Heading-F.Procedure name xs) = name
layer_name (Heading-F.Function name xs type) = name

unfoldable pub heading_name : syntax.Heading → Span
heading_name h = layer_name (out-Heading h)

abbrev pub layer_list : HeadingLayer → List syntax_section.Section
layer_list (Heading-F.Procedure name xs) = xs
layer_list (Heading-F.Function name xs type) = xs

unfoldable pub heading_list : syntax.Heading → List syntax_section.Section
heading_list h = layer_list (out-Heading h)

abbrev pub layer_is_bare : HeadingLayer → Bool
layer_is_bare (Heading-F.Procedure name []) = true
layer_is_bare (Heading-F.Procedure name (x ∷ xs)) = false
layer_is_bare (Heading-F.Function name xs type) = false

-- a procedure's heading with only its name
unfoldable pub is_bare : syntax.Heading → Bool
is_bare h = layer_is_bare (out-Heading h)

-- `procedure` or `function` with only the name
abbrev pub is_name_alone : Option syntax.Heading → Bool
is_name_alone None = true
is_name_alone (Some h) = is_bare h
