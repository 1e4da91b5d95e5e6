-- Frames: what their entries are, and where they are.
use Rattle.std.specs.Prelude.{ℕ, ◌+◌, ◌*◌, Bool, true, false, if◌then◌else◌, List, [], ◌∷◌, ◌++◌, Option, Some, None}
use Rattle.std.specs.Prelude.{get_or}
use Rattle.ps_tree.specs.Types.{DataType}
use Rattle.ps_tree.specs.Tree.{Formal, ValueFormal, VariableFormal, RoutineFormal, Formals, no_formal, formal_before}
use Rattle.ps_tree.specs.Tree.{Routine}
use Rattle.ps_lower_layout.specs.Shapes.{Shape, shape_of, word_count}

-- an entry of a frame: a variable, the address of one, or a routine with the address of the frame that it was declared
-- in
mutual
  pub data Kind : Type 0 where
    Own : Shape → Kind
    Reference : Shape → Kind
    Closure : Kinds → (result : Option Shape) → Kind

  pub data Kinds : Type 0 where
    no_kind : Kinds
    kind_before : Kind → Kinds → Kinds

abbrev pub result_shape : Option DataType → Option Shape
result_shape None = None
result_shape (Some type) = Some (shape_of type)

abbrev mutual
  pub kind_of : Formal → Kind
  kind_of (ValueFormal type) = Own (shape_of type)
  kind_of (VariableFormal type) = Reference (shape_of type)
  kind_of (RoutineFormal formals result) = Closure (kinds_of formals) (result_shape result)

  pub kinds_of : Formals → Kinds
  kinds_of no_formal = no_kind
  kinds_of (formal_before f rest) = kind_before (kind_of f) (kinds_of rest)

abbrev pub listed_kinds : Kinds → List Kind
listed_kinds no_kind = []
listed_kinds (kind_before k rest) = k ∷ listed_kinds rest

abbrev pub result_kinds : Option DataType → List Kind
result_kinds None = []
result_kinds (Some type) = Own (shape_of type) ∷ []

abbrev pub variable_kinds : List DataType → List Kind
variable_kinds [] = []
variable_kinds (type ∷ rest) = Own (shape_of type) ∷ variable_kinds rest

-- the result, the formal parameters and the variables
abbrev pub entries : Routine → List Kind
entries r = result_kinds r.result ++ listed_kinds (kinds_of r.formals) ++ variable_kinds r.variables

abbrev pub kind_words : Kind → ℕ
kind_words (Own shape) = word_count shape
kind_words (Reference shape) = 1
kind_words (Closure kinds result) = 2

-- The places of a frame's parts, in words: the static link, the entries, and in the frame of the program block the two
-- words that record what was taken ahead of the input; and the number of words.
pub record Layout : Type 0 where
  pub link : ℕ
  pub places : List ℕ
  pub input : ℕ
  pub size : ℕ

abbrev pub places_from : ℕ → List Kind → List ℕ
places_from k [] = []
places_from k (kind ∷ rest) = k ∷ places_from (k + kind_words kind) rest

abbrev pub words_of_all : List Kind → ℕ
words_of_all [] = 0
words_of_all (kind ∷ rest) = kind_words kind + words_of_all rest

-- only the program block has no enclosing routine
abbrev pub is_program_block : List ℕ → Bool
is_program_block [] = true
is_program_block (r ∷ []) = true
is_program_block (r ∷ s ∷ rest) = false

-- the only place that says the order of a frame's parts
abbrev pub layout_of : Routine → Layout
layout_of r = record {
  link = 0;
  places = places_from 1 (entries r);
  input = 1 + words_of_all (entries r);
  size = 1 + words_of_all (entries r) + (if is_program_block r.chain then 2 else 0);
}

-- where an entry and the link are, in bytes
abbrev pub entry_offset : Routine → ℕ → ℕ
entry_offset r i = 4 * get_or (layout_of r).places i 0

abbrev pub link_offset : Routine → ℕ
link_offset r = 4 * (layout_of r).link

abbrev pub input_offset : Routine → ℕ
input_offset r = 4 * (layout_of r).input
