-- Procedure statements (6.8.2.3), and the required procedures: text (6.9), new (6.6.5.3), pack and unpack (6.6.5.4).
use Rattle.std.specs.Prelude.{ℕ, Bool, true, false, ◌&&◌, List, [], ◌∷◌, Option, Some, None, is_some, is_none}
use Rattle.std.specs.Prelude.{if◌then◌else◌}
use Rattle.ps_text.specs.declared.Span.{Span}
use Rattle.ps_syntax.specs.First.{first_of_expr}
use Rattle.ps_syntax.specs.declared.expression.Expr.{Expr}
use Rattle.ps_syntax.specs.declared.statement.Parameter.{Parameter}
use Rattle.ps_syntax.specs.declared.statement.Parameter.TheVariants.{Plain, Width}
use Rattle.ps_tree.specs.declared.types.Host.TheVariants.{Integer, Char, Boolean}
use Rattle.ps_tree.specs.declared.types.Ordinal.{Ordinal}
use Rattle.ps_tree.specs.Types.{DataType, OrdinalType, PointerType, ArrayType, is_same_host, is_same_type}
use Rattle.ps_tree.specs.Types.{string_length}
use Rattle.ps_tree.specs.Tree as Tree
use Rattle.ps_check_names.specs.declared.meaning.File.{File}
use Rattle.ps_check_names.specs.declared.meaning.File.TheVariants.{Input, Output}
use Rattle.ps_check_names.specs.declared.meaning.Required.{Required}
use Rattle.ps_check_names.specs.declared.meaning.Required.TheVariants as required
use Rattle.ps_check_judgement.specs.declared.refusal.Rule.{Rule}
use Rattle.ps_check_judgement.specs.declared.refusal.Rule.TheVariants.{WrongKind, WrongType, NotCongruous}
use Rattle.ps_check_judgement.specs.declared.refusal.Rule.TheVariants.{NoInputOutput}
use Rattle.ps_check_judgement.specs.Judged as j
use Rattle.ps_check_judgement.specs.Judged.{Judged, Yes, No, provided, holds}
use Rattle.ps_check_judgement.specs.Changing.{Changing, ◌>>=◌, same, still, each}
use Rattle.ps_check_names.specs.Spelling.{line_in}
use Rattle.ps_check_names.specs.Constants.{misplaced}
use Rattle.ps_check_names.specs.Regions.{Context, Region, Point, BlockPoint, Section, Sections, RoutineMeaning}
use Rattle.ps_check_names.specs.Regions.{RoutineParameterMeaning, RequiredMeaning, FileMeaning}
use Rattle.ps_check_expressions.specs.Values.{Value, SimpleValue, StructureValue, Variable, ordinal_of, is_integer}
use Rattle.ps_check_expressions.specs.Values.{argument_list}
use Rattle.ps_check_expressions.specs.Names.{denoted}
use Rattle.ps_check_expressions.specs.Changed.{changed}
use Rattle.ps_check_expressions.specs.Calls.{actual, parameters, congruent}
use Rattle.ps_check_expressions.specs.Expressions.{operand}

-- ---- text (6.9)

-- the name of the input, or of the output
unfoldable pub is_file : File → Point → Bool
is_file Input (BlockPoint up (FileMeaning Input)) = true
is_file Output (BlockPoint up (FileMeaning Output)) = true
is_file _ _ = false

abbrev pub is_file_at : File → Judged Point → Bool
is_file_at file (Yes p) = is_file file p
is_file_at file (No rule at) = false

-- where that is reported for a name that denotes nothing: at the name, if it is a file's
abbrev pub told_unlisted_by : (at : ℕ) → Rule → (place : ℕ) → ℕ
told_unlisted_by at NoInputOutput place = place
told_unlisted_by at _ place = at

-- 6.9.1: a variable of type char or integer, or of a subrange of one
unfoldable pub read_variable : (at : ℕ) → Tree.Place → DataType → ℕ → Judged Tree.ReadVariable
read_variable at p (OrdinalType o) line =
    if is_same_host o.host Char then Yes (Tree.ReadChar p o.low o.high line) else (
    if is_same_host o.host Integer then Yes (Tree.ReadInteger p o.low o.high line) else No WrongType at)
read_variable at p _ line = No WrongType at

-- 6.9.3: a value of type integer, char or Boolean, or of a string type
unfoldable pub ordinal_written : (at : ℕ) → Tree.Expr → Ordinal → Tree.Width → Judged Tree.WriteParameter
ordinal_written at e o width =
    if is_same_host o.host Integer then Yes (Tree.WriteInteger e width) else (
    if is_same_host o.host Char then Yes (Tree.WriteChar e width) else (
    if is_same_host o.host Boolean then Yes (Tree.WriteBoolean e width) else No WrongType at))

unfoldable pub written : (at : ℕ) → Value → Tree.Width → Judged Tree.WriteParameter
written at (SimpleValue e (OrdinalType o)) width = ordinal_written at e o width
written at (StructureValue e type) width = provided (is_some (string_length type)) WrongType at (Tree.WriteText e width)
written at _ width = No WrongType at

-- 6.9.3.1: a width is an integer
unfoldable pub width_of : (at : ℕ) → Value → ℕ → Judged Tree.Width
width_of at (SimpleValue e type) line = provided (is_integer type) WrongType at (Tree.GivenWidth e line)
width_of at _ line = No WrongType at

-- read and write have at least one parameter in addition to the file; their name is at `at`
unfoldable pub read_of : (at : ℕ) → List Tree.ReadVariable → Judged Tree.Statement
read_of at [] = No NotCongruous at
read_of at (v ∷ vs) = Yes (Tree.Read (v ∷ vs))

unfoldable pub write_of : (at : ℕ) → List Tree.WriteParameter → Judged Tree.Statement
write_of at [] = No NotCongruous at
write_of at (p ∷ ps) = Yes (Tree.Write (p ∷ ps))

-- ---- new, pack and unpack

-- 6.6.5.3: a new variable for a pointer
unfoldable pub new_variable : (at : ℕ) → Tree.Place → DataType → ℕ → Judged Tree.Statement
new_variable at p (PointerType n) line = Yes (Tree.New p n line)
new_variable at p _ line = No WrongType at

-- where the parameters of pack and unpack begin: the unpacked array, the packed one, and the index
pub record Places : Type 0 where
  pub unpacked : ℕ
  pub packed : ℕ
  pub index : ℕ

-- 6.6.5.4: an array that is not packed and one that is, of one component type, and an index of the first
unfoldable pub goes_with_pack : Places → DataType → DataType → Ordinal → Judged (Unit {0})
goes_with_pack at (ArrayType a is_packed i s) (ArrayType b is_other_packed o t) index =
    if is_packed then No WrongType at.unpacked else (
    if is_other_packed && is_same_type s t then holds (is_same_host index.host i.host) WrongType at.index
    else No WrongType at.packed)
goes_with_pack at (ArrayType a is_packed i s) _ index = No WrongType at.packed
goes_with_pack at _ _ index = No WrongType at.unpacked

abbrev pub packed_from : Places → Variable → Variable → ℕ → Tree.Expr × Ordinal → Judged Tree.Statement
packed_from at a z line index = j.◌>>=◌ (goes_with_pack at a.type z.type index.1)
    (λ _. Yes (Tree.Pack a.place a.type index.0 line z.place z.type))

abbrev pub unpacked_to : Places → Variable → Variable → ℕ → Tree.Expr × Ordinal → Judged Tree.Statement
unpacked_to at z a line index = j.◌>>=◌ (goes_with_pack at a.type z.type index.1)
    (λ _. Yes (Tree.Unpack z.place z.type a.place a.type index.0 line))

-- where a parameter begins
unfoldable pub first_of_parameter : Parameter → ℕ
first_of_parameter (Plain x) = first_of_expr x
first_of_parameter (Width x w) = first_of_expr x

abbrev pub places_of : (unpacked packed index : Parameter) → Places
places_of a z i =
    record { unpacked = first_of_parameter a; packed = first_of_parameter z; index = first_of_parameter i }

module _ (c : Context) (Γ : List Region) where
  -- ---- actual parameters. Only write and writeln have widths.

  unfoldable pub actual_parameter : Section → Parameter → Changing Tree.Argument
  actual_parameter section (Plain x) = actual c Γ section (operand c Γ x)
  actual_parameter section (Width x w) = still (No WrongType (first_of_expr w))

  -- the parameters of a procedure, whose name is at `at`
  abbrev pub actual_parameters : (at : ℕ) → Sections → List Parameter → Changing (List Tree.Argument)
  actual_parameters at sections ps = congruent at (λ section p. actual_parameter section p) (parameters sections) ps

  unfoldable pub parameter_value : Parameter → Changing Value
  parameter_value (Plain x) = (operand c Γ x).value
  parameter_value (Width x w) = still (No WrongType (first_of_expr w))

  unfoldable pub parameter_variable : Parameter → Changing Variable
  parameter_variable (Plain x) = (operand c Γ x).variable
  parameter_variable (Width x w) = still (No WrongType (first_of_expr w))

  abbrev pub parameter_index : Parameter → Changing (Tree.Expr × Ordinal)
  parameter_index p = parameter_value p >>= (λ v. still (ordinal_of (first_of_parameter p) v))

  -- ---- the file

  -- what a parameter that is a name alone denotes
  abbrev pub name_of_parameter : Parameter → Option Span
  name_of_parameter (Plain x) = (operand c Γ x).name
  name_of_parameter (Width x w) = None

  abbrev pub names_file_at : File → Option Span → Bool
  names_file_at file None = false
  names_file_at file (Some name) = is_file_at file (denoted c Γ name)

  unfoldable pub names_file : File → Parameter → Bool
  names_file file p = names_file_at file (name_of_parameter p)

  -- Where to report that the program heading doesn't list the file: at its name, or at the routine's name if that is
  -- left out.
  abbrev pub told_unlisted : (at : ℕ) → Judged Point → ℕ
  told_unlisted at (Yes p) = at
  told_unlisted at (No rule place) = told_unlisted_by at rule place

  abbrev pub unlisted_name : (at : ℕ) → Option Span → ℕ
  unlisted_name at None = at
  unlisted_name at (Some name) = told_unlisted at (denoted c Γ name)

  unfoldable pub unlisted_at : (at : ℕ) → List Parameter → ℕ
  unlisted_at at [] = at
  unlisted_at at (p ∷ ps) = unlisted_name at (name_of_parameter p)

  -- the parameters after the file; if it is implied, the program heading has to list it
  unfoldable pub behind_file : (at : ℕ) → File → Bool → List Parameter → Judged (List Parameter)
  behind_file at file is_listed [] = provided is_listed NoInputOutput at []
  behind_file at file is_listed (p ∷ ps) = if names_file file p then Yes ps else provided is_listed NoInputOutput
      (unlisted_at at (p ∷ ps)) (p ∷ ps)

  -- a variable is changed at its place
  unfoldable pub read_parameter : Parameter → Changing Tree.ReadVariable
  read_parameter p = do
    v ← parameter_variable p
    _ ← changed c v.place (first_of_parameter p)
    still (read_variable (first_of_parameter p) v.place v.type (line_in c.text (first_of_parameter p)))

  abbrev pub read_parameters : (at : ℕ) → List Parameter → Changing (List Tree.ReadVariable)
  read_parameters at ps = still (behind_file at Input c.has_input ps) >>= each read_parameter

  abbrev pub width_at : Expr → Changing Tree.Width
  width_at w = (operand c Γ w).value >>= (λ n. still (width_of (first_of_expr w) n (line_in c.text (first_of_expr w))))

  unfoldable pub write_parameter : Parameter → Changing Tree.WriteParameter
  write_parameter (Plain x) = (operand c Γ x).value >>= (λ v. still (written (first_of_expr x) v Tree.DefaultWidth))
  write_parameter (Width x w) = do
    v ← (operand c Γ x).value
    width ← width_at w
    still (written (first_of_expr x) v width)

  abbrev pub write_parameters : (at : ℕ) → List Parameter → Changing (List Tree.WriteParameter)
  write_parameters at ps = still (behind_file at Output c.has_output ps) >>= each write_parameter

  -- ---- the required procedures, whose name is at `at`

  unfoldable pub new_statement : (at : ℕ) → List Parameter → Changing Tree.Statement
  new_statement at (p ∷ []) = parameter_variable p
      >>= (λ v. still (new_variable (first_of_parameter p) v.place v.type (line_in c.text at)))
  new_statement at _ = still (No NotCongruous at)

  -- pack(a, i, z)
  unfoldable pub pack : Parameter → Parameter → Parameter → Changing Tree.Statement
  pack a i z = do
    from ← parameter_variable a
    index ← parameter_index i
    to ← parameter_variable z
    still (packed_from (places_of a z i) from to (line_in c.text (first_of_parameter i)) index)

  unfoldable pub pack_statement : (at : ℕ) → List Parameter → Changing Tree.Statement
  pack_statement at (a ∷ i ∷ z ∷ []) = pack a i z
  pack_statement at _ = still (No NotCongruous at)

  -- unpack(z, a, i)
  unfoldable pub unpack : Parameter → Parameter → Parameter → Changing Tree.Statement
  unpack z a i = do
    from ← parameter_variable z
    to ← parameter_variable a
    index ← parameter_index i
    still (unpacked_to (places_of a z i) from to (line_in c.text (first_of_parameter i)) index)

  unfoldable pub unpack_statement : (at : ℕ) → List Parameter → Changing Tree.Statement
  unpack_statement at (z ∷ a ∷ i ∷ []) = unpack z a i
  unpack_statement at _ = still (No NotCongruous at)

  unfoldable pub required_procedure : (at : ℕ) → Required → List Parameter → Changing Tree.Statement
  required_procedure at required.Read ps = read_parameters at ps >>= (λ vs. still (read_of at vs))
  required_procedure at required.Readln ps = read_parameters at ps >>= (λ vs. same (Tree.Readln vs (line_in c.text at)))
  required_procedure at required.Write ps = write_parameters at ps >>= (λ vs. still (write_of at vs))
  required_procedure at required.Writeln ps = write_parameters at ps >>= (λ vs. same (Tree.Writeln vs))
  required_procedure at required.New ps = new_statement at ps
  required_procedure at required.Pack ps = pack_statement at ps
  required_procedure at required.Unpack ps = unpack_statement at ps
  required_procedure at _ ps = still (No WrongKind at)

  -- ---- procedure statements: a procedure has no result

  abbrev pub procedure_parameters : (at : ℕ) → (result : Option DataType) → Sections → List Parameter → Changing
      (List Tree.Argument)
  procedure_parameters at result sections ps = still (holds (is_none result) WrongKind at)
      >>= (λ _. actual_parameters at sections ps)

  unfoldable pub procedure_called : (at : ℕ) → List Parameter → Point → Changing Tree.Statement
  procedure_called at ps (BlockPoint up (RoutineMeaning h)) = do
    arguments ← procedure_parameters at h.result h.sections ps
    same (Tree.CallProcedure h.number up (argument_list arguments) (line_in c.text at))
  procedure_called at ps (BlockPoint up (RoutineParameterMeaning entry sections result)) = do
    arguments ← procedure_parameters at result sections ps
    same (Tree.CallFormalProcedure up entry (argument_list arguments) (line_in c.text at))
  procedure_called at ps (BlockPoint up (RequiredMeaning r)) = required_procedure at r ps
  procedure_called at ps p = still (misplaced at p)

  abbrev pub procedure_statement : Span → List Parameter → Changing Tree.Statement
  procedure_statement name ps = still (denoted c Γ name) >>= procedure_called name.from ps
