-- Calls (6.6.3, 6.6.6, 6.7.3): actual parameters, and the required functions.
use Rattle.std.specs.Prelude.{ℕ, suc, zero, Bool, true, false, not, ◌&&◌, ◌==◌, List, [], ◌∷◌, length, Option, Some}
use Rattle.std.specs.Prelude.{None, if◌then◌else◌}
use Rattle.ps_text.specs.declared.Span.{Span}
use Rattle.ps_tree.specs.declared.types.Ordinal.{Ordinal}
use Rattle.ps_tree.specs.declared.types.Host.TheVariants.{Integer}
use Rattle.ps_tree.specs.declared.tree.operators.RequiredFunction.{RequiredFunction}
use Rattle.ps_tree.specs.declared.tree.operators.RequiredFunction.TheVariants as f
use Rattle.ps_tree.specs.Types.{DataType, OrdinalType, SetType, is_assignable, is_same_type, is_same_host}
use Rattle.ps_tree.specs.Tree as Tree
use Rattle.ps_check_names.specs.declared.meaning.File.TheVariants.{Input}
use Rattle.ps_check_names.specs.declared.meaning.Required.{Required}
use Rattle.ps_check_names.specs.declared.meaning.Required.TheVariants as required
use Rattle.ps_check_judgement.specs.declared.refusal.Rule.{Rule}
use Rattle.ps_check_judgement.specs.declared.refusal.Rule.TheVariants.{NotInProfile, WrongKind, WrongType}
use Rattle.ps_check_judgement.specs.declared.refusal.Rule.TheVariants.{NotAssignable, PackedVariable, NotCongruous}
use Rattle.ps_check_judgement.specs.declared.refusal.Rule.TheVariants.{NoInputOutput}
use Rattle.ps_check_judgement.specs.Judged as j
use Rattle.ps_check_judgement.specs.Judged.{Judged, Yes, No, provided, holds, some_or}
use Rattle.ps_check_judgement.specs.Changing.{Changing, ◌>>=◌, same, still, each_both}
use Rattle.ps_check_names.specs.Spelling.{line_in}
use Rattle.ps_check_names.specs.Regions.{Context, Region, Point, BlockPoint, Section, ValueSection, VariableSection}
use Rattle.ps_check_names.specs.Regions.{RoutineSection, Sections, no_section, section_before, RoutineMeaning}
use Rattle.ps_check_names.specs.Regions.{RoutineParameterMeaning, RequiredMeaning, FileMeaning}
use Rattle.ps_check_expressions.specs.Values.{Value, SimpleValue, SetValue, StructureValue, Variable, Operand}
use Rattle.ps_check_expressions.specs.Values.{host_type, ordinal_of, range_of, argument_list}
use Rattle.ps_check_names.specs.Constants.{integer, char, boolean, misplaced}
use Rattle.ps_check_expressions.specs.Names.{denoted}
use Rattle.ps_check_expressions.specs.Changed.{changed}

-- ---- formal and actual parameters (6.6.3)

abbrev pub are_one_type : Option DataType → Option DataType → Bool
are_one_type None None = true
are_one_type (Some s) (Some t) = is_same_type s t
are_one_type _ _ = false

-- 6.6.3.6: congruous lists have the same number of sections, and each two sections are of one kind
unfoldable mutual
  pub congruous : Sections → Sections → Bool
  congruous no_section no_section = true
  congruous (section_before s rest) (section_before t others) = are_alike s t && congruous rest others
  congruous no_section (section_before t others) = false
  congruous (section_before s rest) no_section = false

  pub are_alike : Section → Section → Bool
  are_alike (ValueSection m s) (ValueSection n t) = m == n && is_same_type s t
  are_alike (VariableSection m s) (VariableSection n t) = m == n && is_same_type s t
  are_alike (RoutineSection s r) (RoutineSection t q) = congruous s t && are_one_type r q
  are_alike _ _ = false

abbrev pub times : ℕ → Section → List Section → List Section
times zero s rest = rest
times (suc n) s rest = s ∷ times n s rest

abbrev pub with_parameters : Section → List Section → List Section
with_parameters (ValueSection n t) rest = times n (ValueSection n t) rest
with_parameters (VariableSection n t) rest = times n (VariableSection n t) rest
with_parameters (RoutineSection s r) rest = RoutineSection s r ∷ rest

-- the formal parameters, each with its section
unfoldable pub parameters : Sections → List Section
parameters no_section = []
parameters (section_before s rest) = with_parameters s (parameters rest)

-- 6.6.3.2: by value; the actual parameter begins at `at`
unfoldable pub by_value : (at : ℕ) → DataType → Value → ℕ → Judged Tree.Argument
by_value at type (SimpleValue e from) line = provided (is_assignable from type) NotAssignable at
    (Tree.ByValue e (range_of type) line)
by_value at (SetType a k o) (SetValue e from) line = provided (is_assignable from (SetType a k o)) NotAssignable at
    (Tree.BySet e o.low o.high line)
by_value at type (SetValue e from) line = No NotAssignable at
by_value at type (StructureValue e from) line = provided (is_assignable from type) NotAssignable at (Tree.ByCopy e type)

-- 6.6.3.3: a variable of the same type that is not a component of a packed variable
unfoldable pub by_variable : (at : ℕ) → DataType → Variable → Judged Tree.Argument
by_variable at type v = if is_same_type v.type type then provided (not v.in_packed) PackedVariable at
    (Tree.ByVariable v.place) else No WrongType at

-- a procedure is of another kind than a function
abbrev pub unlike_routine : Option DataType → Option DataType → Rule
unlike_routine None None = NotCongruous
unlike_routine (Some s) (Some t) = NotCongruous
unlike_routine _ _ = WrongKind

-- a routine with these sections and result for a parameter with those
abbrev pub exchanged : (at : ℕ) → (wanted : Sections) → Option DataType → Sections → Option DataType → Tree.Argument
    → Judged Tree.Argument
exchanged at wanted result sections outcome a = provided (congruous wanted sections && are_one_type result outcome)
    (unlike_routine result outcome) at a

-- 6.6.3.4, 6.6.3.5: a routine with a congruous list and the same result type; a required one is not allowed
unfoldable pub by_routine : (at : ℕ) → Sections → Option DataType → Point → Judged Tree.Argument
by_routine at sections result (BlockPoint up (RoutineMeaning h)) = exchanged at sections result h.sections h.result
    (Tree.ByRoutine h.number up)
by_routine at sections result (BlockPoint up (RoutineParameterMeaning entry s r)) = exchanged at sections result s r
    (Tree.ByFormal up entry)
by_routine at sections result p = misplaced at p

-- A list of actual parameters must have as many as there are formal ones; the called name is at `at`.
abbrev pub congruent : {A B C : Type 0} → (at : ℕ) → (A → B → Changing C) → List A → List B → Changing (List C)
congruent at f formals actuals = still (holds (length formals == length actuals) NotCongruous at)
    >>= (λ _. each_both f formals actuals)

module _ (c : Context) (Γ : List Region) where
  -- a variable that is passed as a variable parameter is changed at its place
  abbrev pub passed_variable : (at : ℕ) → DataType → Variable → Changing Tree.Argument
  passed_variable at type v = do
    _ ← changed c v.place at
    still (by_variable at type v)

  abbrev pub passed : DataType → Operand → Changing Tree.Argument
  passed type x = x.variable >>= passed_variable x.first type

  -- what is not a name is not a routine
  abbrev pub named_routine : Sections → Option DataType → (at : ℕ) → Option Span → Judged Tree.Argument
  named_routine sections result at None = No WrongKind at
  named_routine sections result at (Some name) = j.◌>>=◌ (denoted c Γ name) (by_routine name.from sections result)

  unfoldable pub actual : Section → Operand → Changing Tree.Argument
  actual (ValueSection n type) x = x.value >>= (λ v. still (by_value x.first type v (line_in c.text x.first)))
  actual (VariableSection n type) x = passed type x
  actual (RoutineSection sections result) x = still (named_routine sections result x.first x.name)

  abbrev pub actuals : (at : ℕ) → Sections → List Operand → Changing (List Tree.Argument)
  actuals at sections xs = congruent at actual (parameters sections) xs

-- ---- the required functions (6.6.6)

abbrev pub ordinal_value : Tree.Expr → Ordinal → Value
ordinal_value e o = SimpleValue e (OrdinalType o)

-- those that need an integer
abbrev pub needs_integer : Required → Bool
needs_integer required.Abs = true
needs_integer required.Sqr = true
needs_integer required.Odd = true
needs_integer required.Chr = true
needs_integer _ = false

-- 6.6.6.2 to 6.6.6.4: the function of an ordinal, and the type of its value; for succ and pred that is the operand's
-- host type
abbrev pub function_of : Required → Ordinal → Option (RequiredFunction × Ordinal)
function_of required.Abs o = Some (f.Abs, integer)
function_of required.Sqr o = Some (f.Sqr, integer)
function_of required.Odd o = Some (f.Odd, boolean)
function_of required.Chr o = Some (f.Chr, char)
function_of required.Ord o = Some (f.Ord, integer)
function_of required.Succ o = Some (f.Succ (host_type o.host).high, host_type o.host)
function_of required.Pred o = Some (f.Pred (host_type o.host).low, host_type o.host)
function_of _ o = None

-- the value of a function that exists, for an operand that it takes
abbrev pub applied : (at : ℕ) → Required → ℕ → Tree.Expr × Ordinal → Option (RequiredFunction × Ordinal) → Judged Value
applied at r line x None = No WrongType at
applied at r line x (Some f) = if needs_integer r && not (is_same_host x.1.host Integer) then No WrongType at else Yes
    (ordinal_value (Tree.Apply f.0 x.0 line) f.1)

-- for an operand that begins at `at`
unfoldable pub required_value : (at : ℕ) → Required → ℕ → Value → Judged Value
required_value at r line v = j.◌>>=◌ (ordinal_of at v) (λ x. applied at r line x (function_of r x.1))

-- 6.6.6.5: eof and eoln look at the input
unfoldable pub look : Required → ℕ → Option Value
look required.Eof line = Some (ordinal_value Tree.Eof boolean)
look required.Eoln line = Some (ordinal_value (Tree.Eoln line) boolean)
look _ line = None

-- the required procedures (6.6.5) are not functions
abbrev pub is_procedure : Required → Bool
is_procedure required.Read = true
is_procedure required.Readln = true
is_procedure required.Write = true
is_procedure required.Writeln = true
is_procedure required.New = true
is_procedure required.Pack = true
is_procedure required.Unpack = true
is_procedure _ = false

-- A function without its parameter: eof and eoln look at the input, which the program heading must list.
abbrev pub standing_alone : (at : ℕ) → Bool → Option Value → Judged Value
standing_alone at has_input None = No NotCongruous at
standing_alone at has_input (Some v) = provided has_input NoInputOutput at v

-- the name of the input
unfoldable pub is_input : Point → Bool
is_input (BlockPoint up (FileMeaning Input)) = true
is_input _ = false

abbrev pub is_input_at : Judged Point → Bool
is_input_at (Yes p) = is_input p
is_input_at (No rule at) = false

abbrev pub names_input_at : Context → List Region → Option Span → Bool
names_input_at c Γ None = false
names_input_at c Γ (Some name) = is_input_at (denoted c Γ name)

module _ (c : Context) (Γ : List Region) where
  -- an operand that is the name of the input
  abbrev pub names_input : Operand → Bool
  names_input x = names_input_at c Γ x.name

  -- a required function with its actual parameters: one operand, or for eof and eoln the input, which may be left out
  unfoldable pub function_call : (at : ℕ) → Required → List Operand → Changing Value
  function_call at r [] = still (standing_alone at c.has_input (look r (line_in c.text at)))
  function_call at r (x ∷ []) =
      if names_input x then still (some_or NotInProfile x.first (look r (line_in c.text at)))
      else x.value >>= (λ v. still (required_value x.first r (line_in c.text at) v))
  function_call at r (x ∷ y ∷ rest) = still (No NotCongruous at)

  unfoldable pub required_call : (at : ℕ) → Required → List Operand → Changing Value
  required_call at r xs = still (holds (not (is_procedure r)) WrongKind at) >>= (λ _. function_call at r xs)

  -- 6.7.3: the value of a function, whose name is at `at`; a procedure has none
  unfoldable pub called : (at : ℕ) → Point → List Operand → Changing Value
  called at (BlockPoint up (RoutineMeaning h)) xs = do
    type ← still (some_or WrongKind at h.result)
    arguments ← actuals c Γ at h.sections xs
    same (SimpleValue (Tree.Call h.number up (argument_list arguments) (line_in c.text at)) type)
  called at (BlockPoint up (RoutineParameterMeaning entry sections result)) xs = do
    type ← still (some_or WrongKind at result)
    arguments ← actuals c Γ at sections xs
    same (SimpleValue (Tree.CallFormal up entry (argument_list arguments) (line_in c.text at)) type)
  called at (BlockPoint up (RequiredMeaning r)) xs = required_call at r xs
  called at p xs = still (misplaced at p)
