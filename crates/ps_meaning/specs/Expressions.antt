-- Variables, expressions and actual parameters (6.5, 6.7, 6.6.3): operands, indices, actual parameters and members are
-- taken from left to right.
use Rattle.std.specs.Prelude.{ℕ, ℤ, pos, ◌-ℤ◌, unsigned_abs, int_lt, Bool, not, ◌&&◌, ◌==◌, is_none, if◌then◌else◌}
use Rattle.std.specs.Prelude.{List, [], ◌∷◌, get_or, Option, Some, None}
use Rattle.ps_tree.specs.declared.types.Host.TheVariants.{Integer}
use Rattle.ps_tree.specs.declared.types.Ordinal.{Ordinal}
use Rattle.ps_tree.specs.declared.tree.operators.BooleanOperator.{BooleanOperator}
use Rattle.ps_tree.specs.declared.tree.operators.Range.{Range}
use Rattle.ps_tree.specs.declared.tree.operators.SetOperator.TheVariants.{Union}
use Rattle.ps_tree.specs.Types.{DataType, ArrayType}
use Rattle.ps_tree.specs.Tree.{Place, Variable, PlaceBase, Entry, Opened, Selector, Element, Field, Target, Selectors}
use Rattle.ps_tree.specs.Tree.{no_selector, selector_before, ArithmeticSteps, no_arithmetic_step}
use Rattle.ps_tree.specs.Tree.{arithmetic_step_before, Operands, no_operand, operand_before, SetSteps, no_set_step}
use Rattle.ps_tree.specs.Tree.{set_step_before, Expr, Number, Nil, Load, Plus, Minus, Not, Arithmetic, Logic, Compare}
use Rattle.ps_tree.specs.Tree.{ComparePointers, CompareSets, CompareStrings, In, Apply, Eof, Eoln, Call, CallFormal}
use Rattle.ps_tree.specs.Tree.{SetExpr, LoadSet, Constructor, Combine, Member, One, Several, Members, no_member}
use Rattle.ps_tree.specs.Tree.{member_before, Structure, Literal, Contents, Argument, ByValue, BySet, ByCopy}
use Rattle.ps_tree.specs.Tree.{ByVariable, ByRoutine, ByFormal, Arguments, no_argument, argument_before}
use Rattle.ps_meaning.specs.Values.{Value, OrdinalValue, NilValue, ObjectValue, SetValue, StructureValue, Declared}
use Rattle.ps_meaning.specs.Values.{Made, Spot, entire, step, number_of, set_of, components_of, no_member_of}
use Rattle.ps_meaning.specs.Values.{text_values}
use Rattle.ps_meaning.specs.Operators.{integer, compute, apply, combine_truths, combine_sets, holds, pointers_hold}
use Rattle.ps_meaning.specs.Operators.{strings_hold, sets_hold, is_member, interval, is_between, is_true, truth, fits}
use Rattle.ps_meaning.specs.Operators.{set_fits}
use Rattle.ps_meaning.specs.Worlds.{Env, above, frame_of, spot_in, routine_in, env_in, no_spot, Context, Gives, Act}
use Rattle.ps_meaning.specs.Worlds.{Done, ◌>>=◌, ◌>>◌, give, fault, settled, contents, look}

-- an actual parameter as it was taken
pub data Actual : Type 0 where
  ValueActual : Value → Actual
  VariableActual : Spot → Actual
  RoutineActual : (routine : ℕ) → Env → Actual

-- a call of a routine that was declared in an environment
abbrev pub Caller : Type 0
Caller = (routine : ℕ) → Env → List Actual → Context → Act Done

-- the context in which a call at a line is open
abbrev pub calling : (line : ℕ) → Context → Context
calling line c = record { env = c.env; opened = c.opened; active = c.active; calls = line ∷ c.calls }

-- an operand of an array or record type as it was taken: its contents are read once all accesses of the operation are
-- made
pub data Held : Type 0 where
  HeldText : List ℕ → Held
  HeldSpot : Spot → Held

abbrev pub contents_of : Held → Act Value
contents_of (HeldText characters) = give (StructureValue (text_values characters))
contents_of (HeldSpot s) = contents s

-- the values of an array's indices
abbrev pub index_of : DataType → Ordinal
index_of (ArrayType at packed index type) = index
index_of _ = record { host = Integer; subrange = None; low = pos 0; high = pos 0 }

-- the component of an array; error 5 for an index outside its type
abbrev pub component_of : Spot → Ordinal → ℤ → (line : ℕ) → Context → Act Spot
component_of s index x line c = if is_between index.low x index.high then give (step s (unsigned_abs (x -ℤ index.low)))
    else fault 5 line c

-- the object that a pointer points to; error 6 for nil
abbrev pub object_of : Value → (line : ℕ) → Context → Act Spot
object_of (ObjectValue object) line c = give (entire (Made object))
object_of _ line c = fault 6 line c

-- a value to be stored in a variable of this range; error 4 for one outside it
abbrev pub fitting : Range → Value → (line : ℕ) → Context → Act Value
fitting range v line c = if fits range v then give v else fault 4 line c

-- a set to be stored in a variable of a set type; error 8 for a member outside its base
abbrev pub fitting_set : ℤ → ℤ → (ℕ → Bool) → (line : ℕ) → Context → Act Value
fitting_set low high s line c = if set_fits low high s then give (SetValue s) else fault 8 line c

-- a member, or the members from one to another, none if the first is greater than the second; error 8 outside 0..255
abbrev pub set_between : ℤ → ℤ → (line : ℕ) → Context → Act (ℕ → Bool)
set_between x y line c = if int_lt y x then give no_member_of
    else (if is_between (pos 0) x (pos 255) && is_between (pos 0) y (pos 255) then give (interval x y)
    else fault 8 line c)

-- eoln has error 9 at the end of input
abbrev pub line_end : Option ℕ → (line : ℕ) → Context → Act Value
line_end None line c = fault 9 line c
line_end (Some b) line c = give (OrdinalValue (truth (b == 10)))

-- a function's result is the first variable that its call declares
abbrev pub next_name : Act ℕ
next_name = λ w. Gives w.next w

-- what a variable's name denotes by itself
abbrev pub denoted : PlaceBase → Context → Spot
denoted (Entry up index) c = spot_in (frame_of (above c.env up)) index
denoted (Opened which type number) c = step (get_or c.opened which no_spot) number

module _ (call : Caller) where
  abbrev pub function_value : (routine : ℕ) → Env → List Actual → Context → Act Value
  function_value r parent actuals c = do
    name ← next_name
    call r parent actuals c
    contents (entire (Declared name))

  abbrev mutual
    -- 6.5: variables are accessed: what the name denotes, then each selector from there
    pub access : Place → Context → Act Spot
    access (Variable base selectors) c = accesses selectors (denoted base c) c

    pub accesses : Selectors → Spot → Context → Act Spot
    accesses no_selector s c = give s
    accesses (selector_before selector rest) s c = do
      t ← at_selector selector s c
      accesses rest t c

    pub at_selector : Selector → Spot → Context → Act Spot
    at_selector (Element type e line) s c = do
      x ← value e c
      component_of s (index_of type) (number_of x) line c
    at_selector (Field type number) s c = give (step s number)
    at_selector (Target pointer line) s c = do
      v ← contents s
      object_of v line c

    -- 6.7: expressions of an ordinal or pointer type
    pub value : Expr → Context → Act Value
    value (Number n) c = give (OrdinalValue n)
    value Nil c = give NilValue
    value (Load p) c = do
      s ← access p c
      contents s
    value (Plus e) c = value e c
    value (Minus e line) c = do
      x ← value e c
      settled (integer (pos 0 -ℤ number_of x)) line c
    value (Not e) c = do
      x ← value e c
      give (OrdinalValue (truth (not (is_true (number_of x)))))
    -- operators of one precedence are left associative (6.7.1)
    value (Arithmetic e steps) c = do
      x ← value e c
      computed steps (number_of x) c
    value (Logic operator e rest) c = do
      x ← value e c
      combined operator rest (is_true (number_of x)) c
    value (Compare relation a b) c = do
      x ← value a c
      y ← value b c
      give (OrdinalValue (truth (holds relation (number_of x) (number_of y))))
    value (ComparePointers relation a b) c = do
      x ← value a c
      y ← value b c
      give (OrdinalValue (truth (pointers_hold relation x y)))
    value (CompareSets relation a b) c = do
      x ← set_value a c
      y ← set_value b c
      give (OrdinalValue (truth (sets_hold relation x y)))
    value (CompareStrings relation a b) c = do
      x ← operand a c
      y ← operand b c
      v ← contents_of x
      w ← contents_of y
      give (OrdinalValue (truth (strings_hold relation (components_of v) (components_of w))))
    value (In a b) c = do
      x ← value a c
      s ← set_value b c
      give (OrdinalValue (truth (is_member (number_of x) s)))
    value (Apply function e line) c = do
      x ← value e c
      settled (apply function (number_of x)) line c
    value Eof c = do
      next ← look
      give (OrdinalValue (truth (is_none next)))
    value (Eoln line) c = do
      next ← look
      line_end next line c
    value (Call r up arguments line) c = do
      actuals ← actuals_of arguments c
      function_value r (above c.env up) actuals (calling line c)
    value (CallFormal up index arguments line) c = do
      actuals ← actuals_of arguments c
      function_value (routine_in (frame_of (above c.env up)) index) (env_in (frame_of (above c.env up)) index) actuals
          (calling line c)

    -- each step is applied before the next operand is evaluated; the number so far is its left operand
    pub computed : ArithmeticSteps → ℤ → Context → Act Value
    computed no_arithmetic_step x c = give (OrdinalValue x)
    computed (arithmetic_step_before operator e line rest) x c = do
      y ← value e c
      z ← settled (compute operator x (number_of y)) line c
      computed rest (number_of z) c

    -- all operands are evaluated, whatever the values of those before them
    pub combined : BooleanOperator → Operands → Bool → Context → Act Value
    combined operator no_operand x c = give (OrdinalValue (truth x))
    combined operator (operand_before e rest) x c = do
      y ← value e c
      combined operator rest (combine_truths operator x (is_true (number_of y))) c

    -- expressions of a set type
    pub set_value : SetExpr → Context → Act (ℕ → Bool)
    set_value (LoadSet p) c = do
      s ← access p c
      v ← contents s
      give (set_of v)
    set_value (Constructor members) c = members_value members c
    set_value (Combine e steps) c = do
      x ← set_value e c
      sets_combined steps x c

    pub sets_combined : SetSteps → (ℕ → Bool) → Context → Act (ℕ → Bool)
    sets_combined no_set_step x c = give x
    sets_combined (set_step_before operator e rest) x c = do
      y ← set_value e c
      sets_combined rest (combine_sets operator x y) c

    -- each member is evaluated and checked before the next
    pub member_value : Member → Context → Act (ℕ → Bool)
    member_value (One e line) c = do
      x ← value e c
      set_between (number_of x) (number_of x) line c
    member_value (Several a b line) c = do
      x ← value a c
      y ← value b c
      set_between (number_of x) (number_of y) line c

    pub members_value : Members → Context → Act (ℕ → Bool)
    members_value no_member c = give no_member_of
    members_value (member_before m rest) c = do
      x ← member_value m c
      y ← members_value rest c
      give (combine_sets Union x y)

    -- operands of an array or record type are accessed
    pub operand : Structure → Context → Act Held
    operand (Literal characters) c = give (HeldText characters)
    operand (Contents p type) c = do
      s ← access p c
      give (HeldSpot s)

    -- 6.6.3: an actual parameter is taken and checked; a structured value is copied at this point
    pub actual_of : Argument → Context → Act Actual
    actual_of (ByValue e range line) c = do
      x ← value e c
      v ← fitting range x line c
      give (ValueActual v)
    actual_of (BySet e low high line) c = do
      s ← set_value e c
      v ← fitting_set low high s line c
      give (ValueActual v)
    actual_of (ByCopy e type) c = do
      h ← operand e c
      v ← contents_of h
      give (ValueActual v)
    actual_of (ByVariable p) c = do
      s ← access p c
      give (VariableActual s)
    actual_of (ByRoutine r up) c = give (RoutineActual r (above c.env up))
    actual_of (ByFormal up index) c = give (RoutineActual (routine_in (frame_of (above c.env up)) index)
        (env_in (frame_of (above c.env up)) index))

    pub actuals_of : Arguments → Context → Act (List Actual)
    actuals_of no_argument c = give []
    actuals_of (argument_before a rest) c = do
      x ← actual_of a c
      xs ← actuals_of rest c
      give (x ∷ xs)
