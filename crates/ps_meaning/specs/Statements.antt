-- Statements (6.8) and required procedures (6.6.5, 6.9): fuel is spent on a loop's next turn and on a called block.
use Rattle.std.specs.Prelude.{ℕ, ◌+◌, ◌%◌, ℤ, pos, ◌+ℤ◌, ◌-ℤ◌, unsigned_abs, int_lt, Bool, nat_lt, nat_le}
use Rattle.std.specs.Prelude.{if◌then◌else◌, List, [], ◌∷◌, ◌++◌, length, Option, Some, None, unwrap_or, sum_by}
use Rattle.ps_tree.specs.declared.types.Ordinal.{Ordinal}
use Rattle.ps_tree.specs.declared.tree.operators.Range.TheVariants.{Within as WithinBounds}
use Rattle.ps_tree.specs.declared.tree.operators.Direction.{Direction}
use Rattle.ps_tree.specs.declared.tree.operators.Direction.TheVariants.{To, Downto}
use Rattle.ps_tree.specs.Sizes.{value_count}
use Rattle.ps_tree.specs.Tree.{Place, ReadVariable, ReadChar, ReadInteger, Width, DefaultWidth, GivenWidth}
use Rattle.ps_tree.specs.Tree.{WriteParameter, WriteInteger, WriteChar, WriteBoolean, WriteText, Statement, Empty}
use Rattle.ps_tree.specs.Tree.{Assign, AssignSet, AssignStructure, CallProcedure, CallFormalProcedure, Compound, If}
use Rattle.ps_tree.specs.Tree.{IfElse, Case, While, Repeat, For, With, New, Pack, Unpack, Read, Readln, Write, Writeln}
use Rattle.ps_tree.specs.Tree.{Statements, no_statement, statement_before, Elements, no_element, element_before}
use Rattle.ps_tree.specs.Tree.{Program, domain_at}
use Rattle.behavior.specs.Endings.{Heap}
use Rattle.ps_meaning.specs.Values.{Value, OrdinalValue, ObjectValue, StructureValue, Values, no_value, value_before}
use Rattle.ps_meaning.specs.Values.{Spot, number_of, components_of, first, values_from, first_values, with_values}
use Rattle.ps_meaning.specs.Operators.{is_equal, is_between, least, greatest, is_true, is_among}
use Rattle.ps_meaning.specs.Text.{as_character, Reading, EndFound, NoInteger, Integer, scan_integer, marks_to}
use Rattle.ps_meaning.specs.Text.{after_integer, after_line, line_marks, right_aligned, fitted, integer_text}
use Rattle.ps_meaning.specs.Text.{boolean_text}
use Rattle.ps_meaning.specs.Worlds.{above, frame_of, spot_in, routine_in, env_in, Context, Gives, Act, Done, done}
use Rattle.ps_meaning.specs.Worlds.{◌>>=◌, ◌>>◌, give, stop, fault, contents, put, write_text, look, take_next}
use Rattle.ps_meaning.specs.Worlds.{with_input}
use Rattle.ps_meaning.specs.Expressions.{Caller, calling, contents_of, index_of, fitting, fitting_set, access, value}
use Rattle.ps_meaning.specs.Expressions.{set_value, operand, actuals_of}

-- what fuel is spent on: a block, another round of a while or repeat statement, or another iteration of a for statement
-- up to its last value
pub data Task : Type 0 where
  Block : Statements → Task
  Again : Statement → Task
  Further : (variable : ℕ) → Direction → (last : ℤ) → Statement → Task

-- executing a task with one fuel less
abbrev pub Next : Type 0
Next = Task → Context → Act Done

-- what a run costs, and what it may use: the frame bytes of each routine and the object bytes of each pointer type, by
-- their numbers, and the bytes of stack and heap
pub record Costs : Type 0 where
  pub frame : ℕ → ℕ
  pub object : ℕ → ℕ
  pub stack : ℕ
  pub heap : ℕ

-- the frame bytes of the open routines, and the object bytes of all calls of new, by the numbers of their pointer types
abbrev pub passes_stack : Costs → List ℕ → Bool
passes_stack costs active = nat_lt costs.stack (sum_by costs.frame active)

abbrev pub passes_heap : Costs → List ℕ → Bool
passes_heap costs made = nat_lt costs.heap (sum_by costs.object made)

abbrev pub with_opened : List Spot → Context → Context
with_opened opened c = record { env = c.env; opened = opened; active = c.active; calls = c.calls }

-- a for statement has no turn
abbrev pub is_past : Direction → ℤ → ℤ → Bool
is_past To x y = int_lt y x
is_past Downto x y = int_lt x y

-- the next value of a control variable: the sum with 1 or -1 modulo 2 ^ 32, as an integer, so that there always is one;
-- if this is not the sum, a for statement has had its last iteration (6.8.3.9)
abbrev pub succeeding : Direction → ℤ → ℤ
succeeding To x = if int_lt x greatest then x +ℤ pos 1 else least
succeeding Downto x = if int_lt least x then x -ℤ pos 1 else greatest

-- an entry of the routine itself
abbrev pub own_spot : ℕ → Context → Spot
own_spot index c = spot_in (frame_of c.env) index

-- the byte of a character: its ordinal number, which is in 0..255 (6.4.2.2 d), modulo 256
abbrev pub character : Value → ℕ
character v = unsigned_abs (number_of v) % 256

-- the characters of a string
abbrev pub characters : Values → List ℕ
characters no_value = []
characters (value_before v rest) = character v ∷ characters rest

-- the number of an index's component; error 5 for one outside the index type
abbrev pub index_place : Ordinal → ℤ → (line : ℕ) → Context → Act ℕ
index_place index x line c = if is_between index.low x index.high then give (unsigned_abs (x -ℤ index.low))
    else fault 5 line c

-- the next character for a read; error 9 at the end of input
abbrev pub character_read : Option ℕ → (line : ℕ) → Context → Act Value
character_read None line c = fault 9 line c
character_read (Some b) line c = take_next >> give (OrdinalValue (pos (as_character b)))

-- an integer from the input; error 9 at its end, 10 if there is none
abbrev pub integer_found : Reading → (line : ℕ) → Context → Act Value
integer_found EndFound line c = fault 9 line c
integer_found NoInteger line c = fault 10 line c
integer_found (Integer x) line c = give (OrdinalValue x)

abbrev pub scan : Act Reading
scan = λ w. let s = scan_integer w.input.left in Gives s.found
    (with_input w (after_integer s.rest) (marks_to w.input s.rest))

-- the rest of the line, and its end, are looked at and taken; error 9 at the end of input
abbrev pub line_read : Option ℕ → (line : ℕ) → Context → Act Done
line_read None line c = fault 9 line c
line_read (Some b) line c = λ w. Gives done (with_input w (after_line w.input) (line_marks w.input))

module _ (program : Program) (costs : Costs) (call : Caller) (next : Next) where
  -- a new variable with its first value; a stop if the object bytes would exceed the heap
  abbrev pub made_object : (pointer : ℕ) → Act Value
  made_object pointer = λ w. Gives (ObjectValue (length w.objects))
      (record w { objects = w.objects ++ first (domain_at program pointer) ∷ []; made = w.made ++ pointer ∷ [] })

  abbrev pub new_object : (pointer line : ℕ) → Act Value
  new_object pointer line = λ w. (if passes_heap costs (w.made ++ pointer ∷ []) then stop (Heap line)
      else made_object pointer) w

  -- `with` opens each record in the context of those before it
  abbrev pub opening : List Place → Context → Act (List Spot)
  opening [] c = give c.opened
  opening (p ∷ rest) c = do
    s ← access call p c
    opening rest (with_opened (s ∷ c.opened) c)

  -- 6.9.1
  abbrev pub read : ReadVariable → Context → Act Done
  read (ReadChar p low high line) c = do
    s ← access call p c
    b ← look
    x ← character_read b line c
    v ← fitting (WithinBounds low high) x line c
    put s v
  read (ReadInteger p low high line) c = do
    s ← access call p c
    found ← scan
    x ← integer_found found line c
    v ← fitting (WithinBounds low high) x line c
    put s v

  abbrev pub reads : List ReadVariable → Context → Act Done
  reads [] c = give done
  reads (v ∷ rest) c = do
    read v c
    reads rest c

  -- 6.9.3: error 11 for a width below one
  abbrev pub width_value : Width → Context → Act (Option ℕ)
  width_value DefaultWidth c = give None
  width_value (GivenWidth e line) c = do
    x ← value call e c
    if int_lt (number_of x) (pos 1) then fault 11 line c else give (Some (unsigned_abs (number_of x)))

  abbrev pub write : WriteParameter → Context → Act Done
  write (WriteInteger e width) c = do
    x ← value call e c
    n ← width_value width c
    write_text (right_aligned (unwrap_or n 11) (integer_text (number_of x)))
  write (WriteChar e width) c = do
    x ← value call e c
    n ← width_value width c
    write_text (right_aligned (unwrap_or n 1) (character x ∷ []))
  write (WriteBoolean e width) c = do
    x ← value call e c
    n ← width_value width c
    write_text (fitted (unwrap_or n 5) (boolean_text (is_true (number_of x))))
  -- the contents are read once the width is known
  write (WriteText e width) c = do
    h ← operand call e c
    n ← width_value width c
    v ← contents_of h
    let text = characters (components_of v)
    write_text (fitted (unwrap_or n (length text)) text)

  abbrev pub writes : List WriteParameter → Context → Act Done
  writes [] c = give done
  writes (p ∷ rest) c = do
    write p c
    writes rest c

  abbrev mutual
    pub act : Statement → Context → Act Done
    act Empty c = give done
    -- 6.8.2.2: the variable is accessed first
    act (Assign p range e line) c = do
      s ← access call p c
      x ← value call e c
      v ← fitting range x line c
      put s v
    act (AssignSet p low high e line) c = do
      s ← access call p c
      x ← set_value call e c
      v ← fitting_set low high x line c
      put s v
    act (AssignStructure p e) c = do
      s ← access call p c
      h ← operand call e c
      v ← contents_of h
      put s v
    -- 6.8.2.3
    act (CallProcedure r up arguments line) c = do
      actuals ← actuals_of call arguments c
      call r (above c.env up) actuals (calling line c)
    act (CallFormalProcedure up index arguments line) c = do
      actuals ← actuals_of call arguments c
      call (routine_in (frame_of (above c.env up)) index) (env_in (frame_of (above c.env up)) index) actuals
          (calling line c)
    -- 6.8.3
    act (Compound body) c = acts body c
    act (If e s) c = do
      x ← value call e c
      if is_true (number_of x) then act s c else give done
    act (IfElse e s t) c = do
      x ← value call e c
      if is_true (number_of x) then act s c else act t c
    act (Case e elements line) c = do
      x ← value call e c
      selected elements (number_of x) line c
    act (While e s) c = do
      x ← value call e c
      if is_true (number_of x) then (act s c >> next (Again (While e s)) c) else give done
    act (Repeat body e) c = do
      acts body c
      x ← value call e c
      if is_true (number_of x) then give done else next (Again (Repeat body e)) c
    -- both bounds are evaluated once, and checked if there is an iteration
    act (For variable low high a from_line direction b to_line s) c = do
      x ← value call a c
      y ← value call b c
      if is_past direction (number_of x) (number_of y) then give done else (do
        u ← fitting (WithinBounds low high) x from_line c
        v ← fitting (WithinBounds low high) y to_line c
        put (own_spot variable c) x
        act s c
        next (Further variable direction (number_of y) s) c)
    act (With places s) c = do
      opened ← opening places c
      act s (with_opened opened c)
    -- 6.6.5.3
    act (New p pointer line) c = do
      s ← access call p c
      v ← new_object pointer line
      put s v
    -- 6.6.5.4: the components from the index on, or into them
    act (Pack p from_type e line q to_type) c = do
      a ← access call p c
      x ← value call e c
      k ← index_place (index_of from_type) (number_of x) line c
      z ← access call q c
      v ← contents a
      let n = value_count (index_of to_type)
      if nat_le (k + n) (value_count (index_of from_type)) then put z
          (StructureValue (first_values n (values_from (components_of v) k))) else fault 5 line c
    act (Unpack p from_type q to_type e line) c = do
      z ← access call p c
      a ← access call q c
      x ← value call e c
      k ← index_place (index_of to_type) (number_of x) line c
      v ← contents z
      u ← contents a
      if nat_le (k + value_count (index_of from_type)) (value_count (index_of to_type)) then put a
          (StructureValue (with_values (components_of u) k (components_of v))) else fault 5 line c
    -- 6.9
    act (Read variables) c = reads variables c
    act (Readln variables line) c = do
      reads variables c
      b ← look
      line_read b line c
    act (Write parameters) c = writes parameters c
    act (Writeln parameters) c = do
      writes parameters c
      write_text (10 ∷ [])

    pub acts : Statements → Context → Act Done
    acts no_statement c = give done
    acts (statement_before s rest) c = do
      act s c
      acts rest c

    -- error 7 if no element has the constant
    pub selected : Elements → ℤ → (line : ℕ) → Context → Act Done
    selected no_element x line c = fault 7 line c
    selected (element_before constants s rest) x line c = if is_among x constants then act s c
        else selected rest x line c

  -- while v <> last do begin v := succ(v); s end
  abbrev pub turn : (variable : ℕ) → Direction → (last : ℤ) → Statement → Context → Act Done
  turn variable direction last s c = do
    x ← contents (own_spot variable c)
    if is_equal (number_of x) last then give done else (do
      put (own_spot variable c) (OrdinalValue (succeeding direction (number_of x)))
      act s c
      next (Further variable direction last s) c)

  abbrev pub perform : Task → Context → Act Done
  perform (Block body) c = acts body c
  perform (Again s) c = act s c
  perform (Further variable direction last s) c = turn variable direction last s c
