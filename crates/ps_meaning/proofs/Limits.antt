-- Runs under two costs and two meanings of what fuel is spent on, compared part by part.
use Rattle.std.proofs.Common.{◌≡◌, ◌⊎◌, inl, inr, ℕ, ◌+◌, ℤ, pos, List, [], ◌∷◌, ◌++◌, Bool, true, false, cond, ◌&&◌}
use Rattle.std.proofs.Common.{int_lt, unsigned_abs, nat_le, Option, Some, None, refl, ap, ◌∙◌}
use Rattle.ps_tree.specs.Types.{DataType}
use Rattle.ps_tree.specs.declared.tree.operators.BooleanOperator.{BooleanOperator}
use Rattle.ps_tree.specs.Tree.{Place, Variable, Selector, Element, Field, Target, Selectors, no_selector}
use Rattle.ps_tree.specs.Tree.{selector_before, ArithmeticSteps, no_arithmetic_step, arithmetic_step_before, Operands}
use Rattle.ps_tree.specs.Tree.{no_operand, operand_before, SetSteps, no_set_step, set_step_before, Expr, Number, Nil}
use Rattle.ps_tree.specs.Tree.{Load, Plus, Minus, Not, Arithmetic, Logic, Compare, ComparePointers, CompareSets}
use Rattle.ps_tree.specs.Tree.{CompareStrings, In, Apply, Eof, Eoln, Call, CallFormal, SetExpr, LoadSet, Constructor}
use Rattle.ps_tree.specs.Tree.{Combine, Member, One, Several, Members, no_member, member_before, Structure, Literal}
use Rattle.ps_tree.specs.Tree.{Contents, Argument, ByValue, BySet, ByCopy, ByVariable, ByRoutine, ByFormal, Arguments}
use Rattle.ps_tree.specs.Tree.{no_argument, argument_before, ReadVariable, ReadChar, ReadInteger, Width, DefaultWidth}
use Rattle.ps_tree.specs.Tree.{GivenWidth, WriteParameter, WriteInteger, WriteChar, WriteBoolean, WriteText, Statement}
use Rattle.ps_tree.specs.Tree.{Empty, Assign, AssignSet, AssignStructure, CallProcedure, CallFormalProcedure, Compound}
use Rattle.ps_tree.specs.Tree.{If, IfElse, Case, While, Repeat, For, With, New, Pack, Unpack, Read, Readln, Write}
use Rattle.ps_tree.specs.Tree.{Writeln, Statements, no_statement, statement_before, Elements, no_element}
use Rattle.ps_tree.specs.Tree.{element_before, Program}
use Rattle.ps_tree.specs.declared.types.Ordinal.{Ordinal}
use Rattle.ps_tree.specs.Sizes.{value_count}
use Rattle.ps_tree.specs.declared.tree.operators.Direction.{Direction}
use Rattle.ps_tree.specs.declared.tree.operators.Range.{Range}
use Rattle.ps_tree.specs.declared.tree.operators.Range.TheVariants.{Within as WithinBounds}
use Rattle.behavior.specs.Endings.{Ending, Stack, Heap}
use Rattle.ps_meaning.specs.Values.{Value, OrdinalValue, ObjectValue, StructureValue, Root, Declared, Made, Spot}
use Rattle.ps_meaning.specs.Values.{number_of, components_of, first, first_values, values_from, with_values}
use Rattle.ps_meaning.specs.Operators.{Computed, Result, Fault, combine_truths, combine_sets, fits, set_fits}
use Rattle.ps_meaning.specs.Operators.{is_between, is_true, is_equal, is_among}
use Rattle.ps_meaning.specs.Text.{look_marks, Reading, EndFound, NoInteger, Integer, scan_integer, marks_to, line_marks}
use Rattle.ps_meaning.specs.Worlds.{Env, Context, World, Answer, Gives, Ends, Act, Done, done, and_then, give, stop}
use Rattle.ps_meaning.specs.Worlds.{fault, settled, contents, contents_in, put, ◌>>=◌, ◌>>◌, with_root, write_text}
use Rattle.ps_meaning.specs.Worlds.{look, with_new}
use Rattle.ps_meaning.specs.Expressions.{Actual, ValueActual, VariableActual, RoutineActual, Caller, calling, Held}
use Rattle.ps_meaning.specs.Expressions.{HeldText, HeldSpot, contents_of, component_of, object_of, fitting}
use Rattle.ps_meaning.specs.Expressions.{fitting_set, set_between, line_end, function_value, denoted, access, accesses}
use Rattle.ps_meaning.specs.Expressions.{at_selector, value, computed, combined, set_value, sets_combined}
use Rattle.ps_meaning.specs.Expressions.{member_value, members_value, operand, actual_of, actuals_of, index_of}
use Rattle.ps_meaning.specs.Statements.{Task, Block, Again, Further, Next, Costs, passes_stack, passes_heap}
use Rattle.ps_meaning.specs.Statements.{with_opened, is_past, succeeding, own_spot, index_place, character_read}
use Rattle.ps_meaning.specs.Statements.{integer_found, scan, line_read, made_object, new_object, opening, read, reads}
use Rattle.ps_meaning.specs.Statements.{width_value, write, writes, act, acts, selected, perform}
use Rattle.ps_meaning.specs.Calls.{bind_variables, bind_actuals, bind}
use Rattle.ps_meaning.proofs.Growth.{transcript_of, Beside, then_beside, more_of, still, cut_here, choose_beside}

-- an act that leaves the transcript as it is
abbrev pub Quiet : {A : Type 0} → Act A → Type 0
Quiet m = (w : World) → transcript_of (m w) ≡ w.transcript

choice_quiet : {A : Type 0} (b : Bool) (f g : Act A) → Quiet f → Quiet g → Quiet (cond b f g)
choice_quiet true f g h k w = h w
choice_quiet false f g h k w = k w

settled_quiet : (k : Computed) (line : ℕ) (c : Context) → Quiet (settled k line c)
settled_quiet (Result n) line c w = refl
settled_quiet (Fault n) line c w = refl

object_quiet : (v : Value) (line : ℕ) (c : Context) → Quiet (object_of v line c)
object_quiet (ObjectValue object) line c w = refl
object_quiet _ line c w = refl

line_end_quiet : (o : Option ℕ) (line : ℕ) (c : Context) → Quiet (line_end o line c)
line_end_quiet None line c w = refl
line_end_quiet (Some b) line c w = refl

held_quiet : (h : Held) → Quiet (contents_of h)
held_quiet (HeldText characters) w = refl
held_quiet (HeldSpot s) w = refl

root_quiet : (w : World) (root : Root) (v : Value) → (with_root w root v).transcript ≡ w.transcript
root_quiet w (Declared name) v = refl
root_quiet w (Made object) v = refl

put_quiet : (s : Spot) (v : Value) → Quiet (put s v)
put_quiet s v w = root_quiet w s.root _

between_quiet : (x y : ℤ) (line : ℕ) (c : Context) → Quiet (set_between x y line c)
between_quiet x y line c = choice_quiet (int_lt y x) _ _ (λ t. refl)
    (choice_quiet (is_between (pos 0) x (pos 255) && is_between (pos 0) y (pos 255)) _ _ (λ t. refl) (λ t. refl))

character_quiet : (o : Option ℕ) (line : ℕ) (c : Context) → Quiet (character_read o line c)
character_quiet None line c w = refl
character_quiet (Some b) line c w = refl

found_quiet : (found : Reading) (line : ℕ) (c : Context) → Quiet (integer_found found line c)
found_quiet EndFound line c w = refl
found_quiet NoInteger line c w = refl
found_quiet (Integer x) line c w = refl

variables_quiet : (types : List DataType) (w : World) → (bind_variables types w).world.transcript ≡ w.transcript
variables_quiet [] w = refl
variables_quiet (type ∷ rest) w = variables_quiet rest (with_new w (first type))

actuals_quiet : (actuals : List Actual) (types : List DataType) (w : World)
    → (bind_actuals actuals types w).world.transcript ≡ w.transcript
actuals_quiet [] types w = variables_quiet types w
actuals_quiet (ValueActual v ∷ rest) types w = actuals_quiet rest types (with_new w v)
actuals_quiet (VariableActual s ∷ rest) types w = actuals_quiet rest types w
actuals_quiet (RoutineActual r env ∷ rest) types w = actuals_quiet rest types w

pub bind_quiet : (result : Option DataType) (actuals : List Actual) (types : List DataType) (w : World)
    → (bind result actuals types w).world.transcript ≡ w.transcript
bind_quiet None actuals types w = actuals_quiet actuals types w
bind_quiet (Some type) actuals types w = actuals_quiet actuals types (with_new w (first type))

module _ (Cuts : Ending → Type 0) where
  quiet : {A : Type 0} (m : Act A) → Quiet m → (w : World) → Beside Cuts w (m w) (m w)
  quiet m q w = still Cuts w (m w) (q w)

  pub from_quiet : {A : Type 0} (w u : World) (a b : Answer A) → u.transcript ≡ w.transcript → Beside Cuts u a b
      → Beside Cuts w a b
  from_quiet w u a b e h = record { cut = h.cut; grows = (h.grows.0, h.grows.1 ∙ ap (λ t. t ++ h.grows.0) e) }

  line_read_beside : (o : Option ℕ) (line : ℕ) (c : Context) (w : World) → Beside Cuts w (line_read o line c w)
      (line_read o line c w)
  line_read_beside None line c w = still Cuts w (line_read None line c w) refl
  line_read_beside (Some b) line c w = more_of Cuts w (line_read (Some b) line c w) (line_marks w.input) refl

  -- the second run stops where the first does, or only the first is stopped, and this is a cut
  abbrev pub Stops : Bool → Bool → Ending → Type 0
  Stops b b' ending = (b ≡ b') ⊎ ((b' ≡ false) × Cuts ending)

  pub stop_beside : {A : Type 0} (b b' : Bool) (ending : Ending) (w : World) (f g : Act A) → Stops b b' ending
      → Beside Cuts w (f w) (g w) → Beside Cuts w (cond b (stop ending) f w) (cond b' (stop ending) g w)
  stop_beside true true ending w f g s h = still Cuts w (Ends w.transcript ending) refl
  stop_beside false false ending w f g s h = h
  stop_beside true false ending w f g (inl e) h = absurd (cc)
  stop_beside true false ending w f g (inr k) h = cut_here Cuts w ending (g w) k.1 h.grows
  stop_beside false true ending w f g (inl e) h = absurd (cc)
  stop_beside false true ending w f g (inr k) h = absurd (let e : true ≡ false = k.0 in cc)

  module _ (call call' : Caller)
      (calls : (r : ℕ) (parent : Env) (actuals : List Actual) (c : Context) (w : World)
      → Beside Cuts w (call r parent actuals c w) (call' r parent actuals c w)) where
    function_beside : (r : ℕ) (parent : Env) (actuals : List Actual) (c : Context) (w : World) → Beside Cuts w
        (function_value call r parent actuals c w) (function_value call' r parent actuals c w)
    function_beside r parent actuals c w = then_beside Cuts w _ _ _ _ (calls r parent actuals c w)
        (λ d u. still Cuts u _ refl)

    mutual
      pub access_beside : (p : Place) (c : Context) (w : World) → Beside Cuts w (access call p c w) (access call' p c w)
      access_beside (Variable base selectors) c w = accesses_beside selectors (denoted base c) c w

      accesses_beside : (l : Selectors) (s : Spot) (c : Context) (w : World) → Beside Cuts w (accesses call l s c w)
          (accesses call' l s c w)
      accesses_beside no_selector s c w = still Cuts w _ refl
      accesses_beside (selector_before selector rest) s c w = then_beside Cuts w _ _ _ _
          (selector_beside selector s c w) (λ t u. accesses_beside rest t c u)

      selector_beside : (selector : Selector) (s : Spot) (c : Context) (w : World) → Beside Cuts w
          (at_selector call selector s c w) (at_selector call' selector s c w)
      selector_beside (Element type e line) s c w = then_beside Cuts w _ _ _ _ (value_beside e c w)
          (λ x u. quiet (component_of s (index_of type) (number_of x) line c)
          (choice_quiet (is_between (index_of type).low (number_of x) (index_of type).high) _ _ (λ t. refl) (λ t. refl))
          u)
      selector_beside (Field type number) s c w = still Cuts w _ refl
      selector_beside (Target pointer line) s c w = then_beside Cuts w _ _ _ _ (quiet (contents s) (λ t. refl) w)
          (λ x u. quiet (object_of x line c) (object_quiet x line c) u)

      pub value_beside : (e : Expr) (c : Context) (w : World) → Beside Cuts w (value call e c w) (value call' e c w)
      value_beside (Number n) c w = still Cuts w _ refl
      value_beside Nil c w = still Cuts w _ refl
      value_beside (Load p) c w = then_beside Cuts w _ _ _ _ (access_beside p c w) (λ s u. still Cuts u _ refl)
      value_beside (Plus e) c w = value_beside e c w
      value_beside (Minus e line) c w = then_beside Cuts w _ _ _ _ (value_beside e c w)
          (λ x u. quiet (settled _ line c) (settled_quiet _ line c) u)
      value_beside (Not e) c w = then_beside Cuts w _ _ _ _ (value_beside e c w) (λ x u. still Cuts u _ refl)
      value_beside (Arithmetic e steps) c w = then_beside Cuts w _ _ _ _ (value_beside e c w)
          (λ x u. computed_beside steps (number_of x) c u)
      value_beside (Logic operator e rest) c w = then_beside Cuts w _ _ _ _ (value_beside e c w)
          (λ x u. combined_beside operator rest (is_true (number_of x)) c u)
      value_beside (Compare relation a b) c w = then_beside Cuts w _ _ _ _ (value_beside a c w)
          (λ x u. then_beside Cuts u _ _ _ _ (value_beside b c u) (λ y v. still Cuts v _ refl))
      value_beside (ComparePointers relation a b) c w = then_beside Cuts w _ _ _ _ (value_beside a c w)
          (λ x u. then_beside Cuts u _ _ _ _ (value_beside b c u) (λ y v. still Cuts v _ refl))
      value_beside (CompareSets relation a b) c w = then_beside Cuts w _ _ _ _ (set_beside a c w)
          (λ x u. then_beside Cuts u _ _ _ _ (set_beside b c u) (λ y v. still Cuts v _ refl))
      value_beside (CompareStrings relation a b) c w = then_beside Cuts w _ _ _ _ (operand_beside a c w)
          (λ x u. then_beside Cuts u _ _ _ _ (operand_beside b c u)
          (λ y v. then_beside Cuts v _ _ _ _ (quiet (contents_of x) (held_quiet x) v)
          (λ p t. then_beside Cuts t _ _ _ _ (quiet (contents_of y) (held_quiet y) t) (λ q s. still Cuts s _ refl))))
      value_beside (In a b) c w = then_beside Cuts w _ _ _ _ (value_beside a c w)
          (λ x u. then_beside Cuts u _ _ _ _ (set_beside b c u) (λ y v. still Cuts v _ refl))
      value_beside (Apply function e line) c w = then_beside Cuts w _ _ _ _ (value_beside e c w)
          (λ x u. quiet (settled _ line c) (settled_quiet _ line c) u)
      value_beside Eof c w = more_of Cuts w (value call Eof c w) (look_marks w.input) refl
      value_beside (Eoln line) c w = then_beside Cuts w _ _ _ _ (more_of Cuts w (look w) (look_marks w.input) refl)
          (λ x u. quiet (line_end x line c) (line_end_quiet x line c) u)
      value_beside (Call r up arguments line) c w = then_beside Cuts w _ _ _ _ (actuals_beside arguments c w)
          (λ x u. function_beside _ _ x (calling line c) u)
      value_beside (CallFormal up index arguments line) c w = then_beside Cuts w _ _ _ _ (actuals_beside arguments c w)
          (λ x u. function_beside _ _ x (calling line c) u)

      computed_beside : (steps : ArithmeticSteps) (x : ℤ) (c : Context) (w : World) → Beside Cuts w
          (computed call steps x c w) (computed call' steps x c w)
      computed_beside no_arithmetic_step x c w = still Cuts w _ refl
      computed_beside (arithmetic_step_before operator e line rest) x c w = then_beside Cuts w _ _ _ _
          (value_beside e c w) (λ y u. then_beside Cuts u _ _ _ _ (quiet (settled _ line c) (settled_quiet _ line c) u)
          (λ z v. computed_beside rest (number_of z) c v))

      combined_beside : (operator : BooleanOperator) (operands : Operands) (x : Bool) (c : Context) (w : World)
          → Beside Cuts w (combined call operator operands x c w) (combined call' operator operands x c w)
      combined_beside operator no_operand x c w = still Cuts w _ refl
      combined_beside operator (operand_before e rest) x c w = then_beside Cuts w _ _ _ _ (value_beside e c w)
          (λ y u. combined_beside operator rest (combine_truths operator x (is_true (number_of y))) c u)

      pub set_beside : (e : SetExpr) (c : Context) (w : World) → Beside Cuts w (set_value call e c w)
          (set_value call' e c w)
      set_beside (LoadSet p) c w = then_beside Cuts w _ _ _ _ (access_beside p c w) (λ s u. still Cuts u _ refl)
      set_beside (Constructor members) c w = members_beside members c w
      set_beside (Combine e steps) c w = then_beside Cuts w _ _ _ _ (set_beside e c w) (λ x u. sets_beside steps x c u)

      sets_beside : (steps : SetSteps) (x : ℕ → Bool) (c : Context) (w : World) → Beside Cuts w
          (sets_combined call steps x c w) (sets_combined call' steps x c w)
      sets_beside no_set_step x c w = still Cuts w _ refl
      sets_beside (set_step_before operator e rest) x c w = then_beside Cuts w _ _ _ _ (set_beside e c w)
          (λ y u. sets_beside rest (combine_sets operator x y) c u)

      member_beside : (m : Member) (c : Context) (w : World) → Beside Cuts w (member_value call m c w)
          (member_value call' m c w)
      member_beside (One e line) c w = then_beside Cuts w _ _ _ _ (value_beside e c w)
          (λ x u. quiet (set_between (number_of x) (number_of x) line c)
          (between_quiet (number_of x) (number_of x) line c) u)
      member_beside (Several a b line) c w = then_beside Cuts w _ _ _ _ (value_beside a c w)
          (λ x u. then_beside Cuts u _ _ _ _ (value_beside b c u)
          (λ y v. quiet (set_between (number_of x) (number_of y) line c)
          (between_quiet (number_of x) (number_of y) line c) v))

      members_beside : (ms : Members) (c : Context) (w : World) → Beside Cuts w (members_value call ms c w)
          (members_value call' ms c w)
      members_beside no_member c w = still Cuts w _ refl
      members_beside (member_before m rest) c w = then_beside Cuts w _ _ _ _ (member_beside m c w)
          (λ x u. then_beside Cuts u _ _ _ _ (members_beside rest c u) (λ y v. still Cuts v _ refl))

      pub operand_beside : (e : Structure) (c : Context) (w : World) → Beside Cuts w (operand call e c w)
          (operand call' e c w)
      operand_beside (Literal characters) c w = still Cuts w _ refl
      operand_beside (Contents p type) c w = then_beside Cuts w _ _ _ _ (access_beside p c w)
          (λ s u. still Cuts u _ refl)

      actual_beside : (a : Argument) (c : Context) (w : World) → Beside Cuts w (actual_of call a c w)
          (actual_of call' a c w)
      actual_beside (ByValue e range line) c w = then_beside Cuts w _ _ _ _ (value_beside e c w)
          (λ x u. then_beside Cuts u _ _ _ _ (quiet (fitting range x line c)
          (choice_quiet (fits range x) _ _ (λ t. refl) (λ t. refl)) u) (λ y v. still Cuts v _ refl))
      actual_beside (BySet e low high line) c w = then_beside Cuts w _ _ _ _ (set_beside e c w)
          (λ x u. then_beside Cuts u _ _ _ _ (quiet (fitting_set low high x line c)
          (choice_quiet (set_fits low high x) _ _ (λ t. refl) (λ t. refl)) u) (λ y v. still Cuts v _ refl))
      actual_beside (ByCopy e type) c w = then_beside Cuts w _ _ _ _ (operand_beside e c w)
          (λ h u. then_beside Cuts u _ _ _ _ (quiet (contents_of h) (held_quiet h) u) (λ y v. still Cuts v _ refl))
      actual_beside (ByVariable p) c w = then_beside Cuts w _ _ _ _ (access_beside p c w) (λ s u. still Cuts u _ refl)
      actual_beside (ByRoutine r up) c w = still Cuts w _ refl
      actual_beside (ByFormal up index) c w = still Cuts w _ refl

      pub actuals_beside : (arguments : Arguments) (c : Context) (w : World) → Beside Cuts w
          (actuals_of call arguments c w) (actuals_of call' arguments c w)
      actuals_beside no_argument c w = still Cuts w _ refl
      actuals_beside (argument_before a rest) c w = then_beside Cuts w _ _ _ _ (actual_beside a c w)
          (λ x u. then_beside Cuts u _ _ _ _ (actuals_beside rest c u) (λ y v. still Cuts v _ refl))

-- the costs of the first run stop where those of the second do, or the stop is a cut
pub record Tighter (Cuts : Ending → Type 0) (costs costs' : Costs) : Type 0 where
  pub stack : (active : List ℕ) (line : ℕ) → Stops Cuts (passes_stack costs active) (passes_stack costs' active)
      (Stack line)
  pub heap : (made : List ℕ) (line : ℕ) → Stops Cuts (passes_heap costs made) (passes_heap costs' made) (Heap line)

module _ (Cuts : Ending → Type 0) (program : Program) (costs costs' : Costs) (tighter : Tighter Cuts costs costs')
    (call call' : Caller)
    (calls : (r : ℕ) (parent : Env) (actuals : List Actual) (c : Context) (w : World)
    → Beside Cuts w (call r parent actuals c w) (call' r parent actuals c w))
    (next next' : Next) (nexts : (t : Task) (c : Context) (w : World) → Beside Cuts w (next t c w) (next' t c w)) where
  new_beside : (pointer line : ℕ) (w : World) → Beside Cuts w (new_object program costs call next pointer line w)
      (new_object program costs' call' next' pointer line w)
  new_beside pointer line w = stop_beside Cuts (passes_heap costs (w.made ++ pointer ∷ []))
      (passes_heap costs' (w.made ++ pointer ∷ [])) (Heap line) w (made_object program costs call next pointer)
      (made_object program costs' call' next' pointer) (tighter.heap (w.made ++ pointer ∷ []) line)
      (still Cuts w (made_object program costs call next pointer w) refl)

  opening_beside : (places : List Place) (c : Context) (w : World) → Beside Cuts w
      (opening program costs call next places c w) (opening program costs' call' next' places c w)
  opening_beside [] c w = still Cuts w (Gives c.opened w) refl
  opening_beside (p ∷ rest) c w = then_beside Cuts w _ _ _ _ (access_beside Cuts call call' calls p c w)
      (λ s u. opening_beside rest (with_opened (s ∷ c.opened) c) u)

  put_fitting : (s : Spot) (range : Range) (x : Value) (line : ℕ) (c : Context) (w : World) → Beside Cuts w
      (and_then (fitting range x line c w) (λ v. put s v)) (and_then (fitting range x line c w) (λ v. put s v))
  put_fitting s range x line c w = then_beside Cuts w _ _ _ _
      (quiet Cuts (fitting range x line c) (choice_quiet (fits range x) _ _ (λ t. refl) (λ t. refl)) w)
      (λ v u. quiet Cuts (put s v) (put_quiet s v) u)

  read_beside : (v : ReadVariable) (c : Context) (w : World) → Beside Cuts w (read program costs call next v c w)
      (read program costs' call' next' v c w)
  read_beside (ReadChar p low high line) c w = then_beside Cuts w _ _ _ _ (access_beside Cuts call call' calls p c w)
      (λ s u. then_beside Cuts u (look u) (look u) _ _ (more_of Cuts u (look u) (look_marks u.input) refl)
      (λ b v. then_beside Cuts v _ _ _ _ (quiet Cuts (character_read b line c) (character_quiet b line c) v)
      (λ x t. put_fitting s (WithinBounds low high) x line c t)))
  read_beside (ReadInteger p low high line) c w = then_beside Cuts w _ _ _ _ (access_beside Cuts call call' calls p c w)
      (λ s u. then_beside Cuts u (scan u) (scan u) _ _
      (more_of Cuts u (scan u) (marks_to u.input (scan_integer u.input.left).rest) refl)
      (λ found v. then_beside Cuts v _ _ _ _ (quiet Cuts (integer_found found line c) (found_quiet found line c) v)
      (λ x t. put_fitting s (WithinBounds low high) x line c t)))

  reads_beside : (vs : List ReadVariable) (c : Context) (w : World) → Beside Cuts w
      (reads program costs call next vs c w) (reads program costs' call' next' vs c w)
  reads_beside [] c w = still Cuts w (Gives done w) refl
  reads_beside (v ∷ rest) c w = then_beside Cuts w _ _ _ _ (read_beside v c w) (λ d u. reads_beside rest c u)

  width_cases : (x : ℤ) (line : ℕ) (c : Context) (w : World) → let width : Act (Option ℕ) = cond (int_lt x (pos 1))
      (fault 11 line c) (give (Some (unsigned_abs x))) in Beside Cuts w (width w) (width w)
  width_cases x line c w = quiet Cuts (cond (int_lt x (pos 1)) (fault 11 line c) (give (Some (unsigned_abs x))))
      (choice_quiet (int_lt x (pos 1)) (fault 11 line c) (give (Some (unsigned_abs x))) (λ t. refl) (λ t. refl)) w

  width_beside : (width : Width) (c : Context) (w : World) → Beside Cuts w
      (width_value program costs call next width c w) (width_value program costs' call' next' width c w)
  width_beside DefaultWidth c w = still Cuts w _ refl
  width_beside (GivenWidth e line) c w = then_beside Cuts w _ _ _ _ (value_beside Cuts call call' calls e c w)
      (λ x u. width_cases (number_of x) line c u)

  text_beside : (bytes : List ℕ) (w : World) → Beside Cuts w (write_text bytes w) (write_text bytes w)
  text_beside bytes w = more_of Cuts w (write_text bytes w) bytes refl

  write_beside : (p : WriteParameter) (c : Context) (w : World) → Beside Cuts w (write program costs call next p c w)
      (write program costs' call' next' p c w)
  write_beside (WriteInteger e width) c w = then_beside Cuts w _ _ _ _ (value_beside Cuts call call' calls e c w)
      (λ x u. then_beside Cuts u _ _ _ _ (width_beside width c u) (λ n v. text_beside _ v))
  write_beside (WriteChar e width) c w = then_beside Cuts w _ _ _ _ (value_beside Cuts call call' calls e c w)
      (λ x u. then_beside Cuts u _ _ _ _ (width_beside width c u) (λ n v. text_beside _ v))
  write_beside (WriteBoolean e width) c w = then_beside Cuts w _ _ _ _ (value_beside Cuts call call' calls e c w)
      (λ x u. then_beside Cuts u _ _ _ _ (width_beside width c u) (λ n v. text_beside _ v))
  write_beside (WriteText e width) c w = then_beside Cuts w _ _ _ _ (operand_beside Cuts call call' calls e c w)
      (λ h u. then_beside Cuts u _ _ _ _ (width_beside width c u)
      (λ n v. then_beside Cuts v _ _ _ _ (quiet Cuts (contents_of h) (held_quiet h) v) (λ x t. text_beside _ t)))

  writes_beside : (ps : List WriteParameter) (c : Context) (w : World) → Beside Cuts w
      (writes program costs call next ps c w) (writes program costs' call' next' ps c w)
  writes_beside [] c w = still Cuts w (Gives done w) refl
  writes_beside (p ∷ rest) c w = then_beside Cuts w _ _ _ _ (write_beside p c w) (λ d u. writes_beside rest c u)

  place_quiet : (index : Ordinal) (x : ℤ) (line : ℕ) (c : Context) → Quiet (index_place index x line c)
  place_quiet index x line c = choice_quiet (is_between index.low x index.high) _ _ (λ t. refl) (λ t. refl)

  put_or_fault : (b : Bool) (s : Spot) (v : Value) (line : ℕ) (c : Context) (w : World) → Beside Cuts w
      (cond b (put s v) (fault 5 line c) w) (cond b (put s v) (fault 5 line c) w)
  put_or_fault true s v line c w = quiet Cuts (put s v) (put_quiet s v) w
  put_or_fault false s v line c w = still Cuts w _ refl

  -- a for statement once its bounds are known
  abbrev pub turns : (program : Program) (costs : Costs) (call : Caller) (next : Next) (variable : ℕ) (low high : ℤ)
      → Value → (from_line : ℕ) → Value → (to_line : ℕ) → Direction → Statement → Context → Act Done
  turns program costs call next variable low high x from_line y to_line direction s c = do
    u ← fitting (WithinBounds low high) x from_line c
    v ← fitting (WithinBounds low high) y to_line c
    put (own_spot variable c) x
    act program costs call next s c
    next (Further variable direction (number_of y) s) c

  turns_beside : (b : Bool) (variable : ℕ) (low high : ℤ) (x : Value) (from_line : ℕ) (y : Value) (to_line : ℕ)
      (direction : Direction) (s : Statement) (c : Context) (w : World)
      → ((u : World) → Beside Cuts u (act program costs call next s c u) (act program costs' call' next' s c u))
      → Beside Cuts w (cond b (give done) (turns program costs call next variable low high x from_line y to_line
      direction s c) w) (cond b (give done) (turns program costs' call' next' variable low high x from_line y to_line
      direction s c) w)
  turns_beside true variable low high x from_line y to_line direction s c w h = still Cuts w _ refl
  turns_beside false variable low high x from_line y to_line direction s c w h =
      then_beside Cuts w _ _ _ _ (quiet Cuts (fitting (WithinBounds low high) x from_line c)
      (choice_quiet (fits (WithinBounds low high) x) _ _ (λ t. refl) (λ t. refl)) w) (λ x' t.
      then_beside Cuts t _ _ _ _ (quiet Cuts (fitting (WithinBounds low high) y to_line c)
      (choice_quiet (fits (WithinBounds low high) y) _ _ (λ q. refl) (λ q. refl)) t) (λ y' r.
      then_beside Cuts r (put (own_spot variable c) x r) (put (own_spot variable c) x r) _ _
      (quiet Cuts (put (own_spot variable c) x) (put_quiet (own_spot variable c) x) r) (λ d q.
      then_beside Cuts q _ _ _ _ (h q) (λ d' p. nexts (Further variable direction (number_of y) s) c p))))

  mutual
    act_beside : (s : Statement) (c : Context) (w : World) → Beside Cuts w (act program costs call next s c w)
        (act program costs' call' next' s c w)
    act_beside Empty c w = still Cuts w (Gives done w) refl
    act_beside (Assign p range e line) c w = then_beside Cuts w _ _ _ _ (access_beside Cuts call call' calls p c w)
        (λ s u. then_beside Cuts u _ _ _ _ (value_beside Cuts call call' calls e c u)
        (λ x v. put_fitting s range x line c v))
    act_beside (AssignSet p low high e line) c w = then_beside Cuts w _ _ _ _
        (access_beside Cuts call call' calls p c w)
        (λ s u. then_beside Cuts u _ _ _ _ (set_beside Cuts call call' calls e c u)
        (λ x v. then_beside Cuts v _ _ _ _ (quiet Cuts (fitting_set low high x line c)
        (choice_quiet (set_fits low high x) _ _ (λ t. refl) (λ t. refl)) v)
        (λ y t. quiet Cuts (put s y) (put_quiet s y) t)))
    act_beside (AssignStructure p e) c w = then_beside Cuts w _ _ _ _ (access_beside Cuts call call' calls p c w)
        (λ s u. then_beside Cuts u _ _ _ _ (operand_beside Cuts call call' calls e c u)
        (λ h v. then_beside Cuts v _ _ _ _ (quiet Cuts (contents_of h) (held_quiet h) v)
        (λ y t. quiet Cuts (put s y) (put_quiet s y) t)))
    act_beside (CallProcedure r up arguments line) c w = then_beside Cuts w _ _ _ _
        (actuals_beside Cuts call call' calls arguments c w) (λ x u. calls _ _ x (calling line c) u)
    act_beside (CallFormalProcedure up index arguments line) c w = then_beside Cuts w _ _ _ _
        (actuals_beside Cuts call call' calls arguments c w) (λ x u. calls _ _ x (calling line c) u)
    act_beside (Compound body) c w = acts_beside body c w
    act_beside (If e s) c w = then_beside Cuts w _ _ _ _ (value_beside Cuts call call' calls e c w)
        (λ x u. choose_beside Cuts (is_true (number_of x)) u (act program costs call next s c) (give done)
        (act program costs' call' next' s c) (give done) (act_beside s c u) (still Cuts u (Gives done u) refl))
    act_beside (IfElse e s t) c w = then_beside Cuts w _ _ _ _ (value_beside Cuts call call' calls e c w)
        (λ x u. choose_beside Cuts (is_true (number_of x)) u (act program costs call next s c)
        (act program costs call next t c) (act program costs' call' next' s c) (act program costs' call' next' t c)
        (act_beside s c u) (act_beside t c u))
    act_beside (Case e elements line) c w = then_beside Cuts w _ _ _ _ (value_beside Cuts call call' calls e c w)
        (λ x u. selected_beside elements (number_of x) line c u)
    act_beside (While e s) c w = then_beside Cuts w _ _ _ _ (value_beside Cuts call call' calls e c w)
        (λ x u. choose_beside Cuts (is_true (number_of x)) u
        (λ t. and_then (act program costs call next s c t) (λ d. next (Again (While e s)) c)) (give done)
        (λ t. and_then (act program costs' call' next' s c t) (λ d. next' (Again (While e s)) c)) (give done)
        (then_beside Cuts u _ _ _ _ (act_beside s c u) (λ d v. nexts (Again (While e s)) c v))
        (still Cuts u (Gives done u) refl))
    act_beside (Repeat body e) c w = then_beside Cuts w _ _ _ _ (acts_beside body c w)
        (λ d u. then_beside Cuts u _ _ _ _ (value_beside Cuts call call' calls e c u)
        (λ x v. choose_beside Cuts (is_true (number_of x)) v (give done) (next (Again (Repeat body e)) c) (give done)
        (next' (Again (Repeat body e)) c) (still Cuts v (Gives done v) refl) (nexts (Again (Repeat body e)) c v)))
    act_beside (For variable low high a from_line direction b to_line s) c w = then_beside Cuts w _ _ _ _
        (value_beside Cuts call call' calls a c w)
        (λ x u. then_beside Cuts u _ _ _ _ (value_beside Cuts call call' calls b c u)
        (λ y v. turns_beside (is_past direction (number_of x) (number_of y)) variable low high x from_line y to_line
        direction s c v (act_beside s c)))
    act_beside (With places s) c w = then_beside Cuts w _ _ _ _ (opening_beside places c w)
        (λ opened u. act_beside s (with_opened opened c) u)
    act_beside (New p pointer line) c w = then_beside Cuts w _ _ _ _ (access_beside Cuts call call' calls p c w)
        (λ s u. then_beside Cuts u _ _ _ _ (new_beside pointer line u) (λ v t. quiet Cuts (put s v) (put_quiet s v) t))
    act_beside (Pack p from_type e line q to_type) c w = then_beside Cuts w _ _ _ _
        (access_beside Cuts call call' calls p c w)
        (λ a u. then_beside Cuts u _ _ _ _ (value_beside Cuts call call' calls e c u)
        (λ x v. then_beside Cuts v _ _ _ _ (quiet Cuts (index_place (index_of from_type) (number_of x) line c)
        (place_quiet (index_of from_type) (number_of x) line c) v)
        (λ k t. then_beside Cuts t _ _ _ _ (access_beside Cuts call call' calls q c t)
        (λ z r. put_or_fault (nat_le (k + value_count (index_of to_type)) (value_count (index_of from_type))) z
        (StructureValue (first_values (value_count (index_of to_type))
        (values_from (components_of (contents_in r a)) k))) line c r))))
    act_beside (Unpack p from_type q to_type e line) c w = then_beside Cuts w _ _ _ _
        (access_beside Cuts call call' calls p c w)
        (λ z u. then_beside Cuts u _ _ _ _ (access_beside Cuts call call' calls q c u)
        (λ a v. then_beside Cuts v _ _ _ _ (value_beside Cuts call call' calls e c v)
        (λ x t. then_beside Cuts t _ _ _ _ (quiet Cuts (index_place (index_of to_type) (number_of x) line c)
        (place_quiet (index_of to_type) (number_of x) line c) t)
        (λ k r. put_or_fault (nat_le (k + value_count (index_of from_type)) (value_count (index_of to_type))) a
        (StructureValue (with_values (components_of (contents_in r a)) k (components_of (contents_in r z)))) line c
        r))))
    act_beside (Read variables) c w = reads_beside variables c w
    act_beside (Readln variables line) c w = then_beside Cuts w _ _ _ _ (reads_beside variables c w)
        (λ d u. then_beside Cuts u (look u) (look u) _ _ (more_of Cuts u (look u) (look_marks u.input) refl)
        (λ b v. line_read_beside Cuts b line c v))
    act_beside (Write parameters) c w = writes_beside parameters c w
    act_beside (Writeln parameters) c w = then_beside Cuts w _ _ _ _ (writes_beside parameters c w)
        (λ d u. text_beside (10 ∷ []) u)

    acts_beside : (body : Statements) (c : Context) (w : World) → Beside Cuts w (acts program costs call next body c w)
        (acts program costs' call' next' body c w)
    acts_beside no_statement c w = still Cuts w (Gives done w) refl
    acts_beside (statement_before s rest) c w = then_beside Cuts w _ _ _ _ (act_beside s c w)
        (λ d u. acts_beside rest c u)

    selected_beside : (elements : Elements) (x : ℤ) (line : ℕ) (c : Context) (w : World) → Beside Cuts w
        (selected program costs call next elements x line c w) (selected program costs' call' next' elements x line c w)
    selected_beside no_element x line c w = still Cuts w _ refl
    selected_beside (element_before constants s rest) x line c w = choose_beside Cuts (is_among x constants) w
        (act program costs call next s c) (selected program costs call next rest x line c)
        (act program costs' call' next' s c) (selected program costs' call' next' rest x line c) (act_beside s c w)
        (selected_beside rest x line c w)

  -- another turn, once its variable is looked up
  abbrev pub turned : (program : Program) (costs : Costs) (call : Caller) (next : Next) (variable : ℕ) → Direction
      → (last : ℤ) → Statement → Context → Value → Act Done
  turned program costs call next variable direction last s c v = do
    put (own_spot variable c) v
    act program costs call next s c
    next (Further variable direction last s) c

  further_beside : (b : Bool) (variable : ℕ) (direction : Direction) (last : ℤ) (s : Statement) (c : Context)
      (v : Value) (w : World) → Beside Cuts w (cond b (give done)
      (turned program costs call next variable direction last s c v) w)
      (cond b (give done) (turned program costs' call' next' variable direction last s c v) w)
  further_beside true variable direction last s c v w = still Cuts w _ refl
  further_beside false variable direction last s c v w =
      then_beside Cuts w (put (own_spot variable c) v w) (put (own_spot variable c) v w) _ _
      (quiet Cuts (put (own_spot variable c) v) (put_quiet (own_spot variable c) v) w) (λ d u.
      then_beside Cuts u _ _ _ _ (act_beside s c u) (λ d' t. nexts (Further variable direction last s) c t))

  pub perform_beside : (t : Task) (c : Context) (w : World) → Beside Cuts w (perform program costs call next t c w)
      (perform program costs' call' next' t c w)
  perform_beside (Block body) c w = acts_beside body c w
  perform_beside (Again s) c w = act_beside s c w
  perform_beside (Further variable direction last s) c w = further_beside
      (is_equal (number_of (contents_in w (own_spot variable c))) last) variable direction last s c
      (OrdinalValue (succeeding direction (number_of (contents_in w (own_spot variable c))))) w
