-- The code of routines and of a program.
use Rattle.std.specs.Prelude.{ℕ, suc, ◌+◌, pos, negsuc, if◌then◌else◌, List, [], ◌∷◌, ◌++◌, Option, Some, None}
use Rattle.ps_tree.specs.Types.{DataType}
use Rattle.ps_tree.specs.Tree.{Routine, Program}
use Rattle.tac_code.specs.declared.code.Base.TheVariants as base
use Rattle.tac_code.specs.declared.code.Instruction.{Instruction}
use Rattle.tac_code.specs.declared.code.Instruction.TheVariants.{Literal, Offset, Load, Store, Return, End}
use Rattle.ps_lower_layout.specs.Shapes.{Shape, NumberShape, PointerShape, shape_of, byte_count}
use Rattle.ps_lower_layout.specs.Frames.{Kind, Own, Reference, Closure, Kinds, no_kind, kind_before, kinds_of}
use Rattle.ps_lower_layout.specs.Frames.{entry_offset, link_offset, input_offset, is_program_block}
use Rattle.ps_lower_code.specs.Scopes.{Scope, beside, copy_code}
use Rattle.ps_lower_code.specs.Statements.{first_code, statements_code}

-- a parameter in temporary t goes to its entry: a copied structure is at an address of the caller's
abbrev pub own_code : Scope → Shape → (t offset free : ℕ) → List Instruction
own_code k (NumberShape first narrow) t offset free = Store base.Frame offset t ∷ []
own_code k (PointerShape pointer) t offset free = Store base.Frame offset t ∷ []
own_code k shape t offset free = Offset free base.Frame offset (byte_count shape) ∷ copy_code k free t (beside free)
    (byte_count shape)

abbrev pub parameter_code : Scope → Kind → (t offset free : ℕ) → List Instruction
parameter_code k (Own shape) t offset free = own_code k shape t offset free
parameter_code k (Reference shape) t offset free = Store base.Frame offset t ∷ []
parameter_code k (Closure kinds result) t offset free = Store base.Frame offset t ∷ Store base.Frame (offset + 4)
    (suc t) ∷ []

abbrev pub parameter_words : Kind → ℕ
parameter_words (Own shape) = 1
parameter_words (Reference shape) = 1
parameter_words (Closure kinds result) = 2

-- the static link is the first parameter
abbrev pub count_parameters : Kinds → ℕ
count_parameters no_kind = 0
count_parameters (kind_before kind rest) = parameter_words kind + count_parameters rest

abbrev pub parameter_total : Routine → ℕ
parameter_total r = if is_program_block r.chain then 0 else suc (count_parameters (kinds_of r.formals))

module _ (k : Scope) (r : Routine) where
  -- the parameters in the temporaries from t on, to the entries from i on
  abbrev pub parameters_code : Kinds → (t i free : ℕ) → List Instruction
  parameters_code no_kind t i free = []
  parameters_code (kind_before kind rest) t i free = parameter_code k kind t (entry_offset r i) free
      ++ parameters_code rest (t + parameter_words kind) (suc i) free

  abbrev pub variables_code : List DataType → (i free : ℕ) → List Instruction
  variables_code [] i free = []
  variables_code (type ∷ rest) i free = first_code k base.Frame free (entry_offset r i) (shape_of type)
      ++ variables_code rest (suc i) free

  abbrev pub result_code : Option DataType → (free : ℕ) → List Instruction
  result_code None free = []
  result_code (Some type) free = first_code k base.Frame free (entry_offset r 0) (shape_of type)

abbrev pub result_entries : Option DataType → ℕ
result_entries None = 0
result_entries (Some type) = 1

abbrev pub count_kinds : Kinds → ℕ
count_kinds no_kind = 0
count_kinds (kind_before kind rest) = suc (count_kinds rest)

-- nothing was taken ahead of the input, and no line was begun
abbrev pub input_code : Routine → (free : ℕ) → List Instruction
input_code r free = Literal free (negsuc 1) ∷ Store base.Frame (input_offset r) free ∷ Literal free (pos 0)
    ∷ Store base.Frame (input_offset r + 4) free ∷ []

-- what a routine does before its statements: temporaries from the number of its parameters on are free
abbrev pub begin_code : Scope → Routine → List Instruction
begin_code k r =
    (if is_program_block r.chain then input_code r (parameter_total r) else (Store base.Frame (link_offset r) 0 ∷ []))
    ++ result_code k r r.result (parameter_total r)
    ++ parameters_code k r (kinds_of r.formals) 1 (result_entries r.result) (parameter_total r)
    ++ variables_code k r r.variables (result_entries r.result + count_kinds (kinds_of r.formals)) (parameter_total r)

abbrev pub result_end : Routine → Option DataType → List Instruction
result_end r None = Literal 0 (pos 0) ∷ Return 0 ∷ []
result_end r (Some type) = Load 0 base.Frame (entry_offset r 0) ∷ Return 0 ∷ []

abbrev pub end_code : Routine → List Instruction
end_code r = if is_program_block r.chain then End ∷ [] else result_end r r.result

abbrev pub scope_of : Program → Routine → Scope
scope_of program r = record { program = program; chain = r.chain; opened = [] }

abbrev pub routine_code : Program → Routine → List Instruction
routine_code program r = begin_code (scope_of program r) r ++ statements_code (scope_of program r) r.body 0
    ++ end_code r
