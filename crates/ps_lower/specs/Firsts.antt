-- The beginning of a routine, piece by piece.
use Rattle.std.specs.Prelude.{ℕ, ◌+◌, ◌*◌, ◌/◌, ◌%◌, ℤ, Bool, ◌&&◌, nat_lt, nat_eq, if◌then◌else◌, List, [], ◌∷◌, ◌++◌}
use Rattle.std.specs.Prelude.{Option, Some, None}
use Rattle.ps_tree.specs.Types.{DataType}
use Rattle.ps_tree.specs.Tree.{Routine}
use Rattle.ps_tree.specs.Sizes.{value_count, fits_byte}
use Rattle.ps_tree.specs.declared.types.Ordinal.{Ordinal}
use Rattle.tac_code.specs.declared.code.Base.{Base}
use Rattle.tac_code.specs.declared.code.Base.TheVariants as base
use Rattle.tac_code.specs.declared.code.Instruction.{Instruction}
use Rattle.tac_code.specs.declared.code.Instruction.TheVariants.{Literal, Store}
use Rattle.ps_lower_layout.specs.Shapes.{Shape, ByteShape, ArrayShape, shape_of, first_of, word_count}
use Rattle.ps_lower_layout.specs.Frames.{Kinds, no_kind, kind_before, kind_words, words_of_all, entries}
use Rattle.ps_lower_layout.specs.Frames.{is_program_block, link_offset}
use Rattle.ps_lower_code.specs.Scopes.{Scope}
use Rattle.ps_lower_code.specs.Statements.{byte_word, spread_code, first_code}
use Rattle.ps_lower_code.specs.Routines.{parameter_code, parameter_words, input_code}

-- the first values of variables, one after another, from a word of the frame on
abbrev pub firsts_code : Scope → (free place : ℕ) → List DataType → List Instruction
firsts_code k t p [] = []
firsts_code k t p (type ∷ rest) = first_code k base.Frame t (4 * p) (shape_of type) ++ firsts_code k t
    (p + word_count (shape_of type)) rest

-- the first value of a result at a word of the frame
abbrev pub result_at : Scope → Option DataType → (free place : ℕ) → List Instruction
result_at k None t p = []
result_at k (Some type) t p = first_code k base.Frame t (4 * p) (shape_of type)

-- the parameters in the temporaries from t on, to consecutive entries
abbrev pub parameters_at : Scope → Kinds → (t place free : ℕ) → List Instruction
parameters_at k no_kind t p free = []
parameters_at k (kind_before kind rest) t p free = parameter_code k kind t (4 * p) free ++ parameters_at k rest
    (t + parameter_words kind) (p + kind_words kind) free

-- the input's words of the program block, or the static link
abbrev pub head_code : Routine → (free : ℕ) → List Instruction
head_code r free = if is_program_block r.chain then input_code r free else (Store base.Frame (link_offset r) 0 ∷ [])

-- the words of the static link and the entries
abbrev pub words_in : Routine → ℕ
words_in r = 1 + words_of_all (entries r)

-- `count` bytes of one value: the whole words, and what is left after them
abbrev pub whole_bytes : Scope → Base → (t offset count : ℕ) → (first : ℤ) → List Instruction
whole_bytes k b t offset count first =
    if nat_lt count 4 then [] else (Literal t (byte_word 4 first) ∷ Store b offset t ∷ spread_code k b t offset 4
    (4 * (count / 4)))

abbrev pub last_bytes : Base → (t offset count : ℕ) → (first : ℤ) → List Instruction
last_bytes b t offset count first =
    if nat_eq (count % 4) 0 then [] else (Literal t (byte_word (count % 4) first) ∷ Store b (offset + 4 * (count / 4)) t
    ∷ [])

-- the shape of an array type
abbrev pub array_shape : (packed : Bool) → (index : Ordinal) → (component : DataType) → Shape
array_shape packed index component = if packed && fits_byte component then ByteShape (value_count index)
    (first_of component) else ArrayShape (value_count index) (shape_of component)
