-- A run ends as its costs and its errors let it end, part by part: each kind of ending that these are not is avoided.
use Rattle.std.proofs.Common.{◌≡◌, refl, ℕ, zero, suc, ◌+◌, ℤ, pos, List, [], ◌∷◌, ◌++◌, Bool, true, false, cond, ◌&&◌}
use Rattle.std.proofs.Common.{int_lt, unsigned_abs, nat_le, Option, Some, None}
use Rattle.ps_tree.specs.declared.tree.operators.BooleanOperator.{BooleanOperator}
use Rattle.ps_tree.specs.Tree.{routine_at, Place, Variable, Selector, Element, Field, Target, Selectors, no_selector}
use Rattle.ps_tree.specs.Tree.{selector_before, ArithmeticSteps, no_arithmetic_step, arithmetic_step_before, Operands}
use Rattle.ps_tree.specs.Tree.{no_operand, operand_before, SetSteps, no_set_step, set_step_before, Expr, Number, Nil}
use Rattle.ps_tree.specs.Tree.{Load, Plus, Minus, Not, Arithmetic, Logic, Compare, ComparePointers, CompareSets}
use Rattle.ps_tree.specs.Tree.{CompareStrings, In, Apply, Eof, Eoln, Call, CallFormal, SetExpr, LoadSet, Constructor}
use Rattle.ps_tree.specs.Tree.{Combine, Member, One, Several, Members, no_member, member_before, Structure, Literal}
use Rattle.ps_tree.specs.Tree.{Contents, Argument, ByValue, BySet, ByCopy, ByVariable, ByRoutine, ByFormal, Arguments}
use Rattle.ps_tree.specs.Tree.{no_argument, argument_before, ReadVariable, ReadChar, ReadInteger, Width, DefaultWidth}
use Rattle.ps_tree.specs.Tree.{GivenWidth, WriteParameter, WriteInteger, WriteChar, WriteBoolean, WriteText, Statement}
use Rattle.ps_tree.specs.Tree.{Empty, Assign, AssignSet, AssignStructure, CallProcedure, CallFormalProcedure, Compound}
use Rattle.ps_tree.specs.Tree.{If, IfElse, Case, While, Repeat, For, With, New, Pack, Unpack, Read, Readln, Write}
use Rattle.ps_tree.specs.Tree.{Writeln, Statements, no_statement, statement_before, Elements, no_element}
use Rattle.ps_tree.specs.Tree.{element_before, Program}
use Rattle.ps_tree.specs.declared.types.Ordinal.{Ordinal}
use Rattle.ps_tree.specs.Sizes.{value_count}
use Rattle.ps_tree.specs.declared.tree.operators.Direction.{Direction}
use Rattle.ps_tree.specs.declared.tree.operators.Range.{Range}
use Rattle.ps_tree.specs.declared.tree.operators.Range.TheVariants.{Within as WithinBounds}
use Rattle.behavior.specs.Endings.{Ending, More, Normal, Error, Stack, Heap}
use Rattle.ps_meaning.specs.Values.{Value, OrdinalValue, ObjectValue, StructureValue, Spot, number_of, components_of}
use Rattle.ps_meaning.specs.Values.{first_values, values_from, with_values}
use Rattle.ps_meaning.specs.Operators.{Computed, Result, Fault, combine_truths, combine_sets, fits, set_fits}
use Rattle.ps_meaning.specs.Operators.{is_between, is_true, is_equal, is_among}
use Rattle.ps_meaning.specs.Text.{Reading, EndFound, NoInteger, Integer}
use Rattle.ps_meaning.specs.Worlds.{Env, Outside, Within, Context, World, Answer, Gives, Ends, Act, Done, done}
use Rattle.ps_meaning.specs.Worlds.{and_then, give, stop, fault, settled, contents, contents_in, put, ◌>>=◌, ◌>>◌}
use Rattle.ps_meaning.specs.Worlds.{write_text, look}
use Rattle.ps_meaning.specs.Expressions.{Actual, Caller, calling, Held, HeldText, HeldSpot, contents_of, object_of}
use Rattle.ps_meaning.specs.Expressions.{fitting, set_between, line_end, function_value, denoted, access, accesses}
use Rattle.ps_meaning.specs.Expressions.{at_selector, value, computed, combined, set_value, sets_combined}
use Rattle.ps_meaning.specs.Expressions.{member_value, members_value, operand, actual_of, actuals_of, index_of}
use Rattle.ps_meaning.specs.Statements.{Task, Block, Again, Further, Next, Costs, passes_stack, passes_heap}
use Rattle.ps_meaning.specs.Statements.{with_opened, is_past, succeeding, own_spot, index_place, character_read}
use Rattle.ps_meaning.specs.Statements.{integer_found, scan, line_read, made_object, new_object, opening, read, reads}
use Rattle.ps_meaning.specs.Statements.{width_value, write, writes, act, acts, selected, perform}
use Rattle.ps_meaning.specs.Calls.{bind, call_routine, execute}
use Rattle.ps_meaning.specs.Run.{first_world, first_context, answer, shown}

-- an answer that doesn't end in such a way, and of which something is known where it gives a value
abbrev pub Ended : {A : Type 0} → (Bad : Ending → Type 0) → (A → Type 0) → Answer A → Type 0
Ended Bad P (Gives v w) = P v
Ended Bad P (Ends transcript ending) = Bad ending → ⊥

abbrev pub Avoids : {A : Type 0} → (Bad : Ending → Type 0) → Answer A → Type 0
Avoids Bad a = Ended Bad (λ v. Unit {0}) a

abbrev pub Fine : {A : Type 0} → (Bad : Ending → Type 0) → Act A → Type 0
Fine Bad m = (w : World) → Avoids Bad (m w)

-- endings that no run by these costs has
pub record Excluded (Bad : Ending → Type 0) (costs : Costs) : Type 0 where
  pub more : Bad More → ⊥
  pub normal : Bad Normal → ⊥
  pub error : (number line : ℕ) (calls : List ℕ) → Bad (Error number line calls) → ⊥
  pub stack : (active : List ℕ) (line : ℕ) → passes_stack costs active ≡ true → Bad (Stack line) → ⊥
  pub heap : (made : List ℕ) (line : ℕ) → passes_heap costs made ≡ true → Bad (Heap line) → ⊥

pub after : {A B : Type 0} (Bad : Ending → Type 0) (P : A → Type 0) (Q : B → Type 0) (a : Answer A) (f : A → Act B)
    → Ended Bad P a → ((v : A) (u : World) → P v → Ended Bad Q (f v u)) → Ended Bad Q (and_then a f)
after Bad P Q (Gives v w) f h k = k v w h
after Bad P Q (Ends out ending) f h k = h

pub then_fine : {A B : Type 0} (Bad : Ending → Type 0) (a : Answer A) (f : A → Act B) → Avoids Bad a
    → ((v : A) (u : World) → Avoids Bad (f v u)) → Avoids Bad (and_then a f)
then_fine Bad (Gives v w) f h k = k v w
then_fine Bad (Ends out ending) f h k = h

pub choice_fine : {A : Type 0} (Bad : Ending → Type 0) (b : Bool) (f g : Act A) → Fine Bad f → Fine Bad g
    → Fine Bad (cond b f g)
choice_fine Bad true f g h k w = h w
choice_fine Bad false f g h k w = k w

pub choose_fine : {A : Type 0} (Bad : Ending → Type 0) (t : Bool) (f g : Act A) (w : World) → Avoids Bad (f w)
    → Avoids Bad (g w) → Avoids Bad (cond t f g w)
choose_fine Bad true f g w h k = h
choose_fine Bad false f g w h k = k

-- a stop is made only where a test tells so
pub stop_fine : {A : Type 0} (Bad : Ending → Type 0) (t : Bool) (ending : Ending) (g : Act A) (w : World)
    → (t ≡ true → Bad ending → ⊥) → Avoids Bad (g w) → Avoids Bad (cond t (stop ending) g w)
stop_fine Bad true ending g w h k = h refl
stop_fine Bad false ending g w h k = k

module _ (Bad : Ending → Type 0)
    (no_error : (number line : ℕ) (calls : List ℕ) → Bad (Error number line calls) → ⊥) where
  pub settled_fine : (k : Computed) (line : ℕ) (c : Context) → Fine Bad (settled k line c)
  settled_fine (Result n) line c w = tt
  settled_fine (Fault n) line c w = no_error _ _ _

  pub object_fine : (v : Value) (line : ℕ) (c : Context) → Fine Bad (object_of v line c)
  object_fine (ObjectValue object) line c w = tt
  object_fine _ line c w = no_error _ _ _

  pub line_end_fine : (o : Option ℕ) (line : ℕ) (c : Context) → Fine Bad (line_end o line c)
  line_end_fine None line c w = no_error _ _ _
  line_end_fine (Some b) line c w = tt

  pub held_fine : (h : Held) → Fine Bad (contents_of h)
  held_fine (HeldText characters) w = tt
  held_fine (HeldSpot s) w = tt

  pub between_fine : (x y : ℤ) (line : ℕ) (c : Context) → Fine Bad (set_between x y line c)
  between_fine x y line c = choice_fine Bad (int_lt y x) _ _ (λ t. tt)
      (choice_fine Bad (is_between (pos 0) x (pos 255) && is_between (pos 0) y (pos 255)) _ _ (λ t. tt)
      (λ t. no_error _ _ _))

  pub character_fine : (o : Option ℕ) (line : ℕ) (c : Context) → Fine Bad (character_read o line c)
  character_fine None line c w = no_error _ _ _
  character_fine (Some b) line c w = tt

  pub found_fine : (found : Reading) (line : ℕ) (c : Context) → Fine Bad (integer_found found line c)
  found_fine EndFound line c w = no_error _ _ _
  found_fine NoInteger line c w = no_error _ _ _
  found_fine (Integer x) line c w = tt

  pub line_read_fine : (o : Option ℕ) (line : ℕ) (c : Context) → Fine Bad (line_read o line c)
  line_read_fine None line c w = no_error _ _ _
  line_read_fine (Some b) line c w = tt

  module _ (call : Caller)
      (calls : (r : ℕ) (parent : Env) (actuals : List Actual) (c : Context) (w : World)
      → Avoids Bad (call r parent actuals c w)) where
    function_fine : (r : ℕ) (parent : Env) (actuals : List Actual) (c : Context) (w : World) → Avoids Bad
        (function_value call r parent actuals c w)
    function_fine r parent actuals c w = then_fine Bad _ _ (calls r parent actuals c w) (λ d u. tt)

    mutual
      pub access_fine : (p : Place) (c : Context) (w : World) → Avoids Bad (access call p c w)
      access_fine (Variable base selectors) c w = accesses_fine selectors (denoted base c) c w

      accesses_fine : (l : Selectors) (s : Spot) (c : Context) (w : World) → Avoids Bad (accesses call l s c w)
      accesses_fine no_selector s c w = tt
      accesses_fine (selector_before selector rest) s c w = then_fine Bad _ _ (selector_fine selector s c w)
          (λ t u. accesses_fine rest t c u)

      selector_fine : (selector : Selector) (s : Spot) (c : Context) (w : World) → Avoids Bad
          (at_selector call selector s c w)
      selector_fine (Element type e line) s c w = then_fine Bad _ _ (value_fine e c w)
          (λ x u. (choice_fine Bad (is_between (index_of type).low (number_of x) (index_of type).high) _ _ (λ t. tt)
          (λ t. no_error _ _ _)) u)
      selector_fine (Field type number) s c w = tt
      selector_fine (Target pointer line) s c w = then_fine Bad (contents s w) _ tt (λ x u. (object_fine x line c) u)

      pub value_fine : (e : Expr) (c : Context) (w : World) → Avoids Bad (value call e c w)
      value_fine (Number n) c w = tt
      value_fine Nil c w = tt
      value_fine (Load p) c w = then_fine Bad _ _ (access_fine p c w) (λ s u. tt)
      value_fine (Plus e) c w = value_fine e c w
      value_fine (Minus e line) c w = then_fine Bad _ _ (value_fine e c w) (λ x u. (settled_fine _ line c) u)
      value_fine (Not e) c w = then_fine Bad _ _ (value_fine e c w) (λ x u. tt)
      value_fine (Arithmetic e steps) c w = then_fine Bad _ _ (value_fine e c w)
          (λ x u. computed_fine steps (number_of x) c u)
      value_fine (Logic operator e rest) c w = then_fine Bad _ _ (value_fine e c w)
          (λ x u. combined_fine operator rest (is_true (number_of x)) c u)
      value_fine (Compare relation a b) c w = then_fine Bad _ _ (value_fine a c w)
          (λ x u. then_fine Bad _ _ (value_fine b c u) (λ y v. tt))
      value_fine (ComparePointers relation a b) c w = then_fine Bad _ _ (value_fine a c w)
          (λ x u. then_fine Bad _ _ (value_fine b c u) (λ y v. tt))
      value_fine (CompareSets relation a b) c w = then_fine Bad _ _ (set_fine a c w)
          (λ x u. then_fine Bad _ _ (set_fine b c u) (λ y v. tt))
      value_fine (CompareStrings relation a b) c w = then_fine Bad _ _ (operand_fine a c w)
          (λ x u. then_fine Bad _ _ (operand_fine b c u)
          (λ y v. then_fine Bad _ _ ((held_fine x) v) (λ p t. then_fine Bad _ _ ((held_fine y) t) (λ q s. tt))))
      value_fine (In a b) c w = then_fine Bad _ _ (value_fine a c w)
          (λ x u. then_fine Bad _ _ (set_fine b c u) (λ y v. tt))
      value_fine (Apply function e line) c w = then_fine Bad _ _ (value_fine e c w) (λ x u. (settled_fine _ line c) u)
      value_fine Eof c w = tt
      value_fine (Eoln line) c w = then_fine Bad (look w) _ tt (λ x u. (line_end_fine x line c) u)
      value_fine (Call r up arguments line) c w = then_fine Bad _ _ (actuals_fine arguments c w)
          (λ x u. function_fine _ _ x (calling line c) u)
      value_fine (CallFormal up index arguments line) c w = then_fine Bad _ _ (actuals_fine arguments c w)
          (λ x u. function_fine _ _ x (calling line c) u)

      computed_fine : (steps : ArithmeticSteps) (x : ℤ) (c : Context) (w : World) →
          Avoids Bad (computed call steps x c w)
      computed_fine no_arithmetic_step x c w = tt
      computed_fine (arithmetic_step_before operator e line rest) x c w = then_fine Bad _ _ (value_fine e c w)
          (λ y u. then_fine Bad _ _ ((settled_fine _ line c) u) (λ z v. computed_fine rest (number_of z) c v))

      combined_fine : (operator : BooleanOperator) (operands : Operands) (x : Bool) (c : Context) (w : World) →
          Avoids Bad
          (combined call operator operands x c w)
      combined_fine operator no_operand x c w = tt
      combined_fine operator (operand_before e rest) x c w = then_fine Bad _ _ (value_fine e c w)
          (λ y u. combined_fine operator rest (combine_truths operator x (is_true (number_of y))) c u)

      pub set_fine : (e : SetExpr) (c : Context) (w : World) → Avoids Bad (set_value call e c w)
      set_fine (LoadSet p) c w = then_fine Bad _ _ (access_fine p c w) (λ s u. tt)
      set_fine (Constructor members) c w = members_fine members c w
      set_fine (Combine e steps) c w = then_fine Bad _ _ (set_fine e c w) (λ x u. sets_fine steps x c u)

      sets_fine : (steps : SetSteps) (x : ℕ → Bool) (c : Context) (w : World) →
          Avoids Bad (sets_combined call steps x c w)
      sets_fine no_set_step x c w = tt
      sets_fine (set_step_before operator e rest) x c w = then_fine Bad _ _ (set_fine e c w)
          (λ y u. sets_fine rest (combine_sets operator x y) c u)

      member_fine : (m : Member) (c : Context) (w : World) → Avoids Bad (member_value call m c w)
      member_fine (One e line) c w = then_fine Bad _ _ (value_fine e c w)
          (λ x u. (between_fine (number_of x) (number_of x) line c) u)
      member_fine (Several a b line) c w = then_fine Bad _ _ (value_fine a c w)
          (λ x u. then_fine Bad _ _ (value_fine b c u) (λ y v. (between_fine (number_of x) (number_of y) line c) v))

      members_fine : (ms : Members) (c : Context) (w : World) → Avoids Bad (members_value call ms c w)
      members_fine no_member c w = tt
      members_fine (member_before m rest) c w = then_fine Bad _ _ (member_fine m c w)
          (λ x u. then_fine Bad _ _ (members_fine rest c u) (λ y v. tt))

      pub operand_fine : (e : Structure) (c : Context) (w : World) → Avoids Bad (operand call e c w)
      operand_fine (Literal characters) c w = tt
      operand_fine (Contents p type) c w = then_fine Bad _ _ (access_fine p c w) (λ s u. tt)

      actual_fine : (a : Argument) (c : Context) (w : World) → Avoids Bad (actual_of call a c w)
      actual_fine (ByValue e range line) c w = then_fine Bad _ _ (value_fine e c w)
          (λ x u. then_fine Bad _ _ ((choice_fine Bad (fits range x) _ _ (λ t. tt) (λ t. no_error _ _ _)) u)
          (λ y v. tt))
      actual_fine (BySet e low high line) c w = then_fine Bad _ _ (set_fine e c w)
          (λ x u. then_fine Bad _ _ ((choice_fine Bad (set_fits low high x) _ _ (λ t. tt) (λ t. no_error _ _ _)) u)
          (λ y v. tt))
      actual_fine (ByCopy e type) c w = then_fine Bad _ _ (operand_fine e c w)
          (λ h u. then_fine Bad _ _ ((held_fine h) u) (λ y v. tt))
      actual_fine (ByVariable p) c w = then_fine Bad _ _ (access_fine p c w) (λ s u. tt)
      actual_fine (ByRoutine r up) c w = tt
      actual_fine (ByFormal up index) c w = tt

      pub actuals_fine : (arguments : Arguments) (c : Context) (w : World) → Avoids Bad (actuals_of call arguments c w)
      actuals_fine no_argument c w = tt
      actuals_fine (argument_before a rest) c w = then_fine Bad _ _ (actual_fine a c w)
          (λ x u. then_fine Bad _ _ (actuals_fine rest c u) (λ y v. tt))

  module _ (program : Program) (costs : Costs)
      (heap : (made : List ℕ) (line : ℕ) → passes_heap costs made ≡ true → Bad (Heap line) → ⊥) (call : Caller)
      (calls : (r : ℕ) (parent : Env) (actuals : List Actual) (c : Context) (w : World)
      → Avoids Bad (call r parent actuals c w))
      (next : Next) (nexts : (t : Task) (c : Context) (w : World) → Avoids Bad (next t c w)) where
    new_fine : (pointer line : ℕ) (w : World) → Avoids Bad (new_object program costs call next pointer line w)
    new_fine pointer line w = stop_fine Bad (passes_heap costs (w.made ++ pointer ∷ [])) (Heap line)
        (made_object program costs call next pointer) w (heap (w.made ++ pointer ∷ []) line) tt

    opening_fine : (places : List Place) (c : Context) (w : World) → Avoids Bad
        (opening program costs call next places c w)
    opening_fine [] c w = tt
    opening_fine (p ∷ rest) c w = then_fine Bad _ _ (access_fine call calls p c w)
        (λ s u. opening_fine rest (with_opened (s ∷ c.opened) c) u)

    put_fitting : (s : Spot) (range : Range) (x : Value) (line : ℕ) (c : Context) (w : World) → Avoids Bad
        (and_then (fitting range x line c w) (λ v. put s v))
    put_fitting s range x line c w = then_fine Bad _ _ ((choice_fine Bad (fits range x) _ _ (λ t. tt)
        (λ t. no_error _ _ _)) w)
        (λ v u. tt)

    read_fine : (v : ReadVariable) (c : Context) (w : World) → Avoids Bad (read program costs call next v c w)
    read_fine (ReadChar p low high line) c w = then_fine Bad _ _ (access_fine call calls p c w)
        (λ s u. then_fine Bad (look u) _ (tt) (λ b v. then_fine Bad _ _ ((character_fine b line c) v)
        (λ x t. put_fitting s (WithinBounds low high) x line c t)))
    read_fine (ReadInteger p low high line) c w = then_fine Bad _ _ (access_fine call calls p c w)
        (λ s u. then_fine Bad (scan u) _ (tt) (λ found v. then_fine Bad _ _ ((found_fine found line c) v)
        (λ x t. put_fitting s (WithinBounds low high) x line c t)))

    reads_fine : (vs : List ReadVariable) (c : Context) (w : World) → Avoids Bad (reads program costs call next vs c w)
    reads_fine [] c w = tt
    reads_fine (v ∷ rest) c w = then_fine Bad _ _ (read_fine v c w) (λ d u. reads_fine rest c u)

    width_cases : (x : ℤ) (line : ℕ) (c : Context) (w : World) → let width : Act (Option ℕ) = cond (int_lt x (pos 1))
        (fault 11 line c) (give (Some (unsigned_abs x))) in Avoids Bad (width w)
    width_cases x line c w = choice_fine Bad (int_lt x (pos 1)) (fault 11 line c) (give (Some (unsigned_abs x)))
        (λ t. no_error _ _ _) (λ t. tt) w

    width_fine : (width : Width) (c : Context) (w : World) → Avoids Bad (width_value program costs call next width c w)
    width_fine DefaultWidth c w = tt
    width_fine (GivenWidth e line) c w = then_fine Bad _ _ (value_fine call calls e c w)
        (λ x u. width_cases (number_of x) line c u)

    text_fine : (bytes : List ℕ) (w : World) → Avoids Bad (write_text bytes w)
    text_fine bytes w = tt

    write_fine : (p : WriteParameter) (c : Context) (w : World) → Avoids Bad (write program costs call next p c w)
    write_fine (WriteInteger e width) c w = then_fine Bad _ _ (value_fine call calls e c w)
        (λ x u. then_fine Bad _ _ (width_fine width c u) (λ n v. tt))
    write_fine (WriteChar e width) c w = then_fine Bad _ _ (value_fine call calls e c w)
        (λ x u. then_fine Bad _ _ (width_fine width c u) (λ n v. tt))
    write_fine (WriteBoolean e width) c w = then_fine Bad _ _ (value_fine call calls e c w)
        (λ x u. then_fine Bad _ _ (width_fine width c u) (λ n v. tt))
    write_fine (WriteText e width) c w = then_fine Bad _ _ (operand_fine call calls e c w)
        (λ h u. then_fine Bad _ _ (width_fine width c u) (λ n v. then_fine Bad _ _ ((held_fine h) v) (λ x t. tt)))

    writes_fine : (ps : List WriteParameter) (c : Context) (w : World) →
        Avoids Bad (writes program costs call next ps c w)
    writes_fine [] c w = tt
    writes_fine (p ∷ rest) c w = then_fine Bad _ _ (write_fine p c w) (λ d u. writes_fine rest c u)

    place_fine : (index : Ordinal) (x : ℤ) (line : ℕ) (c : Context) → Fine Bad (index_place index x line c)
    place_fine index x line c = choice_fine Bad (is_between index.low x index.high) _ _ (λ t. tt) (λ t. no_error _ _ _)

    put_or_fault : (b : Bool) (s : Spot) (v : Value) (line : ℕ) (c : Context) (w : World) → Avoids Bad
        (cond b (put s v) (fault 5 line c) w)
    put_or_fault true s v line c w = tt
    put_or_fault false s v line c w = no_error _ _ _

    -- a for statement once its bounds are known
    abbrev turns : (program : Program) (costs : Costs) (call : Caller) (next : Next) (variable : ℕ) (low high : ℤ) →
        Value
        → (from_line : ℕ) → Value → (to_line : ℕ) → Direction → Statement → Context → Act Done
    turns program costs call next variable low high x from_line y to_line direction s c = do
      u ← fitting (WithinBounds low high) x from_line c
      v ← fitting (WithinBounds low high) y to_line c
      put (own_spot variable c) x
      act program costs call next s c
      next (Further variable direction (number_of y) s) c

    turns_fine : (b : Bool) (variable : ℕ) (low high : ℤ) (x : Value) (from_line : ℕ) (y : Value) (to_line : ℕ)
        (direction : Direction) (s : Statement) (c : Context) (w : World)
        → ((u : World) → Avoids Bad (act program costs call next s c u)) → Avoids Bad
        (cond b (give done) (turns program costs call next variable low high x from_line y to_line direction s c) w)
    turns_fine true variable low high x from_line y to_line direction s c w h = tt
    turns_fine false variable low high x from_line y to_line direction s c w h =
        then_fine Bad _ _ ((choice_fine Bad (fits (WithinBounds low high) x) _ _ (λ t. tt) (λ t. no_error _ _ _)) w)
        (λ x' t.
        then_fine Bad _ _ ((choice_fine Bad (fits (WithinBounds low high) y) _ _ (λ t. tt) (λ t. no_error _ _ _)) t)
        (λ y' r.
        then_fine Bad (put (own_spot variable c) x r) _ (tt) (λ d q.
        then_fine Bad _ _ (h q) (λ d' p. nexts (Further variable direction (number_of y) s) c p))))

    mutual
      act_fine : (s : Statement) (c : Context) (w : World) → Avoids Bad (act program costs call next s c w)
      act_fine Empty c w = tt
      act_fine (Assign p range e line) c w = then_fine Bad _ _ (access_fine call calls p c w)
          (λ s u. then_fine Bad _ _ (value_fine call calls e c u) (λ x v. put_fitting s range x line c v))
      act_fine (AssignSet p low high e line) c w = then_fine Bad _ _ (access_fine call calls p c w)
          (λ s u. then_fine Bad _ _ (set_fine call calls e c u)
          (λ x v. then_fine Bad _ _ ((choice_fine Bad (set_fits low high x) _ _ (λ t. tt) (λ t. no_error _ _ _)) v)
          (λ y t. tt)))
      act_fine (AssignStructure p e) c w = then_fine Bad _ _ (access_fine call calls p c w)
          (λ s u. then_fine Bad _ _ (operand_fine call calls e c u)
          (λ h v. then_fine Bad _ _ ((held_fine h) v) (λ y t. tt)))
      act_fine (CallProcedure r up arguments line) c w = then_fine Bad _ _ (actuals_fine call calls arguments c w)
          (λ x u. calls _ _ x (calling line c) u)
      act_fine (CallFormalProcedure up index arguments line) c w =
          then_fine Bad _ _ (actuals_fine call calls arguments c w)
          (λ x u. calls _ _ x (calling line c) u)
      act_fine (Compound body) c w = acts_fine body c w
      act_fine (If e s) c w = then_fine Bad _ _ (value_fine call calls e c w)
          (λ x u. choose_fine Bad (is_true (number_of x)) (act program costs call next s c) (give done) u
          (act_fine s c u)
          (tt))
      act_fine (IfElse e s t) c w = then_fine Bad _ _ (value_fine call calls e c w)
          (λ x u. choose_fine Bad (is_true (number_of x)) (act program costs call next s c)
          (act program costs call next t c) u (act_fine s c u) (act_fine t c u))
      act_fine (Case e elements line) c w = then_fine Bad _ _ (value_fine call calls e c w)
          (λ x u. selected_fine elements (number_of x) line c u)
      act_fine (While e s) c w = then_fine Bad _ _ (value_fine call calls e c w)
          (λ x u. choose_fine Bad (is_true (number_of x))
          (λ t. and_then (act program costs call next s c t) (λ d. next (Again (While e s)) c)) (give done) u
          (then_fine Bad _ _ (act_fine s c u) (λ d v. nexts (Again (While e s)) c v)) (tt))
      act_fine (Repeat body e) c w = then_fine Bad _ _ (acts_fine body c w)
          (λ d u. then_fine Bad _ _ (value_fine call calls e c u)
          (λ x v. choose_fine Bad (is_true (number_of x)) (give done) (next (Again (Repeat body e)) c) v (tt)
          (nexts (Again (Repeat body e)) c v)))
      act_fine (For variable low high a from_line direction b to_line s) c w =
          then_fine Bad _ _ (value_fine call calls a c w)
          (λ x u. then_fine Bad _ _ (value_fine call calls b c u)
          (λ y v. turns_fine (is_past direction (number_of x) (number_of y)) variable low high x from_line y to_line
          direction s c v (act_fine s c)))
      act_fine (With places s) c w = then_fine Bad _ _ (opening_fine places c w)
          (λ opened u. act_fine s (with_opened opened c) u)
      act_fine (New p pointer line) c w = then_fine Bad _ _ (access_fine call calls p c w)
          (λ s u. then_fine Bad _ _ (new_fine pointer line u) (λ v t. tt))
      act_fine (Pack p from_type e line q to_type) c w = then_fine Bad _ _ (access_fine call calls p c w)
          (λ a u. then_fine Bad _ _ (value_fine call calls e c u)
          (λ x v. then_fine Bad _ _ ((place_fine (index_of from_type) (number_of x) line c) v)
          (λ k t. then_fine Bad _ _ (access_fine call calls q c t)
          (λ z r. put_or_fault (nat_le (k + value_count (index_of to_type)) (value_count (index_of from_type))) z
          (StructureValue (first_values (value_count (index_of to_type))
          (values_from (components_of (contents_in r a)) k))) line c r))))
      act_fine (Unpack p from_type q to_type e line) c w = then_fine Bad _ _ (access_fine call calls p c w)
          (λ z u. then_fine Bad _ _ (access_fine call calls q c u)
          (λ a v. then_fine Bad _ _ (value_fine call calls e c v)
          (λ x t. then_fine Bad _ _ ((place_fine (index_of to_type) (number_of x) line c) t)
          (λ k r. put_or_fault (nat_le (k + value_count (index_of from_type)) (value_count (index_of to_type))) a
          (StructureValue (with_values (components_of (contents_in r a)) k (components_of (contents_in r z)))) line c
          r))))
      act_fine (Read variables) c w = reads_fine variables c w
      act_fine (Readln variables line) c w = then_fine Bad _ _ (reads_fine variables c w)
          (λ d u. then_fine Bad (look u) _ (tt) (λ b v. line_read_fine b line c v))
      act_fine (Write parameters) c w = writes_fine parameters c w
      act_fine (Writeln parameters) c w = then_fine Bad _ _ (writes_fine parameters c w) (λ d u. text_fine (10 ∷ []) u)

      acts_fine : (body : Statements) (c : Context) (w : World) → Avoids Bad (acts program costs call next body c w)
      acts_fine no_statement c w = tt
      acts_fine (statement_before s rest) c w = then_fine Bad _ _ (act_fine s c w) (λ d u. acts_fine rest c u)

      selected_fine : (elements : Elements) (x : ℤ) (line : ℕ) (c : Context) (w : World) → Avoids Bad
          (selected program costs call next elements x line c w)
      selected_fine no_element x line c w = no_error _ _ _
      selected_fine (element_before constants s rest) x line c w = choose_fine Bad (is_among x constants)
          (act program costs call next s c) (selected program costs call next rest x line c) w (act_fine s c w)
          (selected_fine rest x line c w)

    -- another turn, once its variable is looked up
    abbrev turned : (program : Program) (costs : Costs) (call : Caller) (next : Next) (variable : ℕ) → Direction
        → (last : ℤ) → Statement → Context → Value → Act Done
    turned program costs call next variable direction last s c v = do
      put (own_spot variable c) v
      act program costs call next s c
      next (Further variable direction last s) c

    further_fine : (b : Bool) (variable : ℕ) (direction : Direction) (last : ℤ) (s : Statement) (c : Context)
        (v : Value)
        (w : World) → Avoids Bad (cond b (give done) (turned program costs call next variable direction last s c v) w)
    further_fine true variable direction last s c v w = tt
    further_fine false variable direction last s c v w =
        then_fine Bad (put (own_spot variable c) v w) _ (tt) (λ d u.
        then_fine Bad _ _ (act_fine s c u) (λ d' t. nexts (Further variable direction last s) c t))

    pub perform_fine : (t : Task) (c : Context) (w : World) → Avoids Bad (perform program costs call next t c w)
    perform_fine (Block body) c w = acts_fine body c w
    perform_fine (Again s) c w = act_fine s c w
    perform_fine (Further variable direction last s) c w = further_fine
        (is_equal (number_of (contents_in w (own_spot variable c))) last) variable direction last s c
        (OrdinalValue (succeeding direction (number_of (contents_in w (own_spot variable c))))) w

module _ (Bad : Ending → Type 0) (program : Program) (costs : Costs) (excluded : Excluded Bad costs) where
  call_fine : (next : Next) (nexts : (t : Task) (c : Context) (w : World) → Avoids Bad (next t c w)) (r : ℕ)
      (parent : Env) (actuals : List Actual) (c : Context) (w : World) → Avoids Bad
      (call_routine program costs next r parent actuals c w)
  call_fine next nexts r parent actuals c w =
      let bound = bind (routine_at program r).result actuals (routine_at program r).variables w in
      let inner : Context = record {
        env = Within bound.frame parent;
        opened = [];
        active = r ∷ c.active;
        calls = c.calls;
      } in
      stop_fine Bad (passes_stack costs (r ∷ c.active)) (Stack (routine_at program r).line)
      (λ u. next (Block (routine_at program r).body) (record {
        env = Within (bind (routine_at program r).result actuals (routine_at program r).variables u).frame parent;
        opened = [];
        active = r ∷ c.active;
        calls = c.calls;
      }) (bind (routine_at program r).result actuals (routine_at program r).variables u).world) w
      (excluded.stack (r ∷ c.active) (routine_at program r).line)
      (nexts (Block (routine_at program r).body) inner bound.world)

  execute_fine : (n : ℕ) (t : Task) (c : Context) (w : World) → Avoids Bad (execute program costs n t c w)
  execute_fine zero t c w = excluded.more
  execute_fine (suc n) t c w = perform_fine Bad excluded.error program costs excluded.heap
      (call_routine program costs (execute program costs n)) (call_fine (execute program costs n) (execute_fine n))
      (execute program costs n) (execute_fine n) t c w

  shown_fine : (a : Answer Done) → Avoids Bad a → Bad (shown a).1 → ⊥
  shown_fine (Gives v w) h bad = excluded.normal bad
  shown_fine (Ends out ending) h bad = h bad

  pub run_avoids : (input : List ℕ) (n : ℕ) → Bad (shown (answer program costs input n)).1 → ⊥
  run_avoids input n = shown_fine (answer program costs input n)
      (call_fine (execute program costs n) (execute_fine n) 0 Outside [] first_context (first_world input))
