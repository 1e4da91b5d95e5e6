-- Where each call that a block may make goes on without a stop for stack, and so does what it spends fuel on, the block
-- does.
use Rattle.std.proofs.Common.{ℕ, ◌+◌, ℤ, pos, List, [], ◌∷◌, ◌++◌, Bool, true, false, cond, int_lt, unsigned_abs}
use Rattle.std.proofs.Common.{nat_le, Option, Some}
use Rattle.ps_tree.specs.Tree.{Program, routine_at, Place, ReadVariable, ReadChar, ReadInteger, Width, DefaultWidth}
use Rattle.ps_tree.specs.Tree.{GivenWidth, WriteParameter, WriteInteger, WriteChar, WriteBoolean, WriteText, Statement}
use Rattle.ps_tree.specs.Tree.{Empty, Assign, AssignSet, AssignStructure, CallProcedure, CallFormalProcedure, Compound}
use Rattle.ps_tree.specs.Tree.{If, IfElse, Case, While, Repeat, For, With, New, Pack, Unpack, Read, Readln, Write}
use Rattle.ps_tree.specs.Tree.{Writeln, Statements, no_statement, statement_before, Elements, no_element}
use Rattle.ps_tree.specs.Tree.{element_before}
use Rattle.ps_tree.specs.declared.types.Ordinal.{Ordinal}
use Rattle.ps_tree.specs.Sizes.{value_count}
use Rattle.ps_tree.specs.declared.tree.operators.Direction.{Direction}
use Rattle.ps_tree.specs.declared.tree.operators.Range.{Range}
use Rattle.ps_tree.specs.declared.tree.operators.Range.TheVariants.{Within as WithinBounds}
use Rattle.behavior.specs.Endings.{Heap}
use Rattle.ps_meaning.specs.Values.{Value, OrdinalValue, StructureValue, Spot, number_of, components_of, first_values}
use Rattle.ps_meaning.specs.Values.{values_from, with_values}
use Rattle.ps_meaning.specs.Operators.{fits, set_fits, is_between, is_true, is_equal, is_among}
use Rattle.ps_meaning.specs.Worlds.{Context, World, Act, Done, done, and_then, give, stop, fault, contents_in, put}
use Rattle.ps_meaning.specs.Worlds.{◌>>=◌, ◌>>◌, write_text, look}
use Rattle.ps_meaning.specs.Expressions.{Caller, fitting, actuals_of, index_of}
use Rattle.ps_meaning.specs.Statements.{Task, Block, Again, Further, Next, Costs, passes_heap, with_opened, is_past}
use Rattle.ps_meaning.specs.Statements.{succeeding, own_spot, index_place, scan}
use Rattle.ps_meaning.specs.Statements.{made_object, new_object, opening, read, reads, width_value, write}
use Rattle.ps_meaning.specs.Statements.{writes, act, acts, selected, perform}
use Rattle.ps_meaning.proofs.Avoids.{Avoids, Fine, after, then_fine, choice_fine, choose_fine, held_fine}
use Rattle.ps_meaning.proofs.Avoids.{character_fine, found_fine, line_read_fine}
use Rattle.ps_lower_layout.specs.Shapes.{Shape, Whole}
use Rattle.ps_lower_layout.specs.Paths.{NumberSort}
use Rattle.ps_lower_layout.specs.Frames.{kinds_of}
use Rattle.ps_lower_code.specs.Scopes.{Scope}
use Rattle.ps_lower_code.specs.Routines.{scope_of}
use Rattle.ps_lower_code.specs.Fits.{OpenedFit, WidthFits, WriteFits, WritesFit, ReadFits, ReadsFit, StatementFits}
use Rattle.ps_lower_code.specs.Fits.{StatementsFit, ElementsFit}
use Rattle.ps_needs_least.specs.Uses.{place_uses, expr_uses, set_uses, structure_uses, places_uses, read_uses}
use Rattle.ps_needs_least.specs.Uses.{reads_uses, width_uses, write_uses, writes_uses, statement_uses, statements_uses}
use Rattle.ps_needs_least.specs.Uses.{elements_uses}
use Rattle.ps_needs.proofs.Environments.{ActualsAre, formal_is}
use Rattle.ps_needs.proofs.Expressions.{IsStack, no_stop, no_error, Known}
use Rattle.ps_needs.proofs.Expressions.{front, back, CallsGoOn, Here, structure_operand, contents_operand, named_fine}
use Rattle.ps_needs.proofs.Expressions.{formal_fine, access_fine, value_fine, set_fine, operand_fine, actuals_fine}

-- a task of a block: a part of its statements
abbrev pub TaskIs : Program → ℕ → Task → Type 0
TaskIs program r (Block body) = StatementsFit (scope_of program (routine_at program r)) [] body × Known program r
    (statements_uses body)
TaskIs program r (Again s) = (os : List Shape) × StatementFits (scope_of program (routine_at program r)) os s
    × Known program r (statement_uses s)
TaskIs program r (Further variable direction last s) = (os : List Shape) × StatementFits
    (scope_of program (routine_at program r)) os s × Known program r (statement_uses s)

abbrev pub NextGoesOn : Program → ℕ → (active : List ℕ) → Next → Type 0
NextGoesOn program r active next = (t : Task) (c : Context) (w : World) → TaskIs program r t → Here program r active c
    → Avoids IsStack (next t c w)

module _ (program : Program) (costs : Costs) (r : ℕ) (active : List ℕ) (call : Caller)
    (calls : CallsGoOn program r active call) (next : Next) (nexts : NextGoesOn program r active next) where
  abbrev scope : Scope
  scope = scope_of program (routine_at program r)

  new_fine : (pointer line : ℕ) (w : World) → Avoids IsStack (new_object program costs call next pointer line w)
  new_fine pointer line w = choose_fine IsStack (passes_heap costs (w.made ++ pointer ∷ [])) (stop (Heap line))
      (made_object program costs call next pointer) w no_stop tt

  opening_fine : (os : List Shape) (places : List Place) (os' : List Shape) (c : Context) (w : World)
      → OpenedFit scope os places os' → Known program r (places_uses places) → Here program r active c → Avoids IsStack
      (opening program costs call next places c w)
  opening_fine os [] os' c w f u h = tt
  opening_fine os (p ∷ rest) os' c w f u h = then_fine IsStack _ _
      (access_fine program r active call calls os p (Whole f.0) c w f.1
      (front program r (place_uses p) (places_uses rest) u) h)
      (λ s v. opening_fine (f.0 ∷ os) rest os' (with_opened (s ∷ c.opened) c) v f.2
      (back program r (place_uses p) (places_uses rest) u) h)

  put_fitting : (s : Spot) (range : Range) (x : Value) (line : ℕ) (c : Context) (w : World) → Avoids IsStack
      (and_then (fitting range x line c w) (λ v. put s v))
  put_fitting s range x line c w = then_fine IsStack _ _ ((choice_fine IsStack (fits range x) _ _ (λ t. tt)
      (λ t. no_stop)) w)
      (λ v u. tt)

  read_fine : (os : List Shape) (v : ReadVariable) (c : Context) (w : World) → ReadFits scope os v → Known program r
      (read_uses v) → Here program r active c → Avoids IsStack (read program costs call next v c w)
  read_fine os (ReadChar p low high line) c w f u h = then_fine IsStack _ _
      (access_fine program r active call calls os p f.0 c w f.1 u h)
      (λ s v. then_fine IsStack (look v) _ (tt) (λ b t. then_fine IsStack _ _
      ((character_fine IsStack no_error b line c) t)
      (λ x q. put_fitting s (WithinBounds low high) x line c q)))
  read_fine os (ReadInteger p low high line) c w f u h = then_fine IsStack _ _
      (access_fine program r active call calls os p f.0 c w f.1 u h)
      (λ s v. then_fine IsStack (scan v) _ (tt) (λ found t. then_fine IsStack _ _
      ((found_fine IsStack no_error found line c) t)
      (λ x q. put_fitting s (WithinBounds low high) x line c q)))

  reads_fine : (os : List Shape) (vs : List ReadVariable) (c : Context) (w : World) → ReadsFit scope os vs
      → Known program r (reads_uses vs) → Here program r active c → Avoids IsStack
      (reads program costs call next vs c w)
  reads_fine os [] c w f u h = tt
  reads_fine os (x ∷ rest) c w f u h = then_fine IsStack _ _
      (read_fine os x c w f.0 (front program r (read_uses x) (reads_uses rest) u) h)
      (λ d v. reads_fine os rest c v f.1 (back program r (read_uses x) (reads_uses rest) u) h)

  width_cases : (x : ℤ) (line : ℕ) (c : Context) (w : World) → let width : Act (Option ℕ) = cond (int_lt x (pos 1))
      (fault 11 line c) (give (Some (unsigned_abs x))) in Avoids IsStack (width w)
  width_cases x line c w = choice_fine IsStack (int_lt x (pos 1)) (fault 11 line c) (give (Some (unsigned_abs x)))
      (λ t. no_stop) (λ t. tt) w

  width_fine : (os : List Shape) (width : Width) (c : Context) (w : World) → WidthFits scope os width → Known program r
      (width_uses width) → Here program r active c → Avoids IsStack (width_value program costs call next width c w)
  width_fine os DefaultWidth c w f u h = tt
  width_fine os (GivenWidth e line) c w f u h = then_fine IsStack _ _
      (value_fine program r active call calls os e NumberSort c w f.0 u h) (λ x v. width_cases (number_of x) line c v)

  text_fine : (bytes : List ℕ) (w : World) → Avoids IsStack (write_text bytes w)
  text_fine bytes w = tt

  write_fine : (os : List Shape) (p : WriteParameter) (c : Context) (w : World) → WriteFits scope os p → Known program r
      (write_uses p) → Here program r active c → Avoids IsStack (write program costs call next p c w)
  write_fine os (WriteInteger e width) c w f u h = then_fine IsStack _ _
      (value_fine program r active call calls os e NumberSort c w f.0
      (front program r (expr_uses e) (width_uses width) u) h)
      (λ x v. then_fine IsStack _ _ (width_fine os width c v f.1 (back program r (expr_uses e) (width_uses width) u) h)
      (λ n t. tt))
  write_fine os (WriteChar e width) c w f u h = then_fine IsStack _ _
      (value_fine program r active call calls os e NumberSort c w f.0
      (front program r (expr_uses e) (width_uses width) u) h)
      (λ x v. then_fine IsStack _ _ (width_fine os width c v f.1 (back program r (expr_uses e) (width_uses width) u) h)
      (λ n t. tt))
  write_fine os (WriteBoolean e width) c w f u h = then_fine IsStack _ _
      (value_fine program r active call calls os e NumberSort c w f.0
      (front program r (expr_uses e) (width_uses width) u) h)
      (λ x v. then_fine IsStack _ _ (width_fine os width c v f.1 (back program r (expr_uses e) (width_uses width) u) h)
      (λ n t. tt))
  write_fine os (WriteText e width) c w f u h =
      then_fine IsStack _ _ (operand_fine program r active call calls os e c w (structure_operand scope os e f.0)
      (front program r (structure_uses e) (width_uses width) u) h) (λ x v.
      then_fine IsStack _ _ (width_fine os width c v f.1 (back program r (structure_uses e) (width_uses width) u) h)
      (λ n t. then_fine IsStack _ _ ((held_fine IsStack no_error x) t) (λ y q. tt)))

  writes_fine : (os : List Shape) (ps : List WriteParameter) (c : Context) (w : World) → WritesFit scope os ps
      → Known program r (writes_uses ps) → Here program r active c → Avoids IsStack
      (writes program costs call next ps c w)
  writes_fine os [] c w f u h = tt
  writes_fine os (p ∷ rest) c w f u h = then_fine IsStack _ _
      (write_fine os p c w f.0 (front program r (write_uses p) (writes_uses rest) u) h)
      (λ d v. writes_fine os rest c v f.1 (back program r (write_uses p) (writes_uses rest) u) h)

  place_fine : (index : Ordinal) (x : ℤ) (line : ℕ) (c : Context) → Fine IsStack (index_place index x line c)
  place_fine index x line c = choice_fine IsStack (is_between index.low x index.high) _ _ (λ t. tt) (λ t. no_stop)

  put_or_fault : (b : Bool) (s : Spot) (v : Value) (line : ℕ) (c : Context) (w : World) → Avoids IsStack
      (cond b (put s v) (fault 5 line c) w)
  put_or_fault true s v line c w = tt
  put_or_fault false s v line c w = no_stop

  -- a for statement once its bounds are known
  abbrev turns : (program : Program) (costs : Costs) (call : Caller) (next : Next) (variable : ℕ) (low high : ℤ) → Value
      → (from_line : ℕ) → Value → (to_line : ℕ) → Direction → Statement → Context → Act Done
  turns program costs call next variable low high x from_line y to_line direction s c = do
    u ← fitting (WithinBounds low high) x from_line c
    v ← fitting (WithinBounds low high) y to_line c
    put (own_spot variable c) x
    act program costs call next s c
    next (Further variable direction (number_of y) s) c

  turns_fine : (b : Bool) (variable : ℕ) (low high : ℤ) (x : Value) (from_line : ℕ) (y : Value) (to_line : ℕ)
      (direction : Direction) (s : Statement) (c : Context) (w : World)
      → ((u : World) → Avoids IsStack (act program costs call next s c u))
      → ((u : World) → Avoids IsStack (next (Further variable direction (number_of y) s) c u)) → Avoids IsStack
      (cond b (give done) (turns program costs call next variable low high x from_line y to_line direction s c) w)
  turns_fine true variable low high x from_line y to_line direction s c w h k = tt
  turns_fine false variable low high x from_line y to_line direction s c w h k =
      then_fine IsStack _ _ ((choice_fine IsStack (fits (WithinBounds low high) x) _ _ (λ t. tt) (λ t. no_stop)) w)
      (λ x' t.
      then_fine IsStack _ _ ((choice_fine IsStack (fits (WithinBounds low high) y) _ _ (λ t. tt) (λ t. no_stop)) t)
      (λ y' q.
      then_fine IsStack (put (own_spot variable c) x q) _ (tt) (λ d p.
      then_fine IsStack _ _ (h p) (λ d' o. k o))))

  mutual
    act_fine : (os : List Shape) (s : Statement) (c : Context) (w : World) → StatementFits scope os s → Known program r
        (statement_uses s) → Here program r active c → Avoids IsStack (act program costs call next s c w)
    act_fine os Empty c w f u h = tt
    act_fine os (Assign p range e line) c w f u h = then_fine IsStack _ _
        (access_fine program r active call calls os p f.0 c w f.1 (front program r (place_uses p) (expr_uses e) u) h)
        (λ s v. then_fine IsStack _ _ (value_fine program r active call calls os e f.3.0 c v f.3.2
        (back program r (place_uses p) (expr_uses e) u) h) (λ x t. put_fitting s range x line c t))
    act_fine os (AssignSet p low high e line) c w f u h = then_fine IsStack _ _
        (access_fine program r active call calls os p _ c w f.0 (front program r (place_uses p) (set_uses e) u) h)
        (λ s v. then_fine IsStack _ _ (set_fine program r active call calls os e c v f.1
        (back program r (place_uses p) (set_uses e) u) h)
        (λ x t. then_fine IsStack _ _ ((choice_fine IsStack (set_fits low high x) _ _ (λ q. tt) (λ q. no_stop)) t)
        (λ y q. tt)))
    act_fine os (AssignStructure p e) c w f u h = then_fine IsStack _ _
        (access_fine program r active call calls os p (Whole f.0) c w f.1
        (front program r (place_uses p) (structure_uses e) u) h)
        (λ s v. then_fine IsStack _ _ (operand_fine program r active call calls os e c v
        (contents_operand scope os e f.0 f.2)
        (back program r (place_uses p) (structure_uses e) u) h)
        (λ x t. then_fine IsStack _ _ ((held_fine IsStack no_error x) t) (λ y q. tt)))
    act_fine os (CallProcedure s up arguments line) c w f u h =
        let kinds = kinds_of (routine_at program s).formals in
        after IsStack (λ xs. ActualsAre program xs kinds) (λ v. Unit {0}) (actuals_of call arguments c w) _
        (actuals_fine program r active call calls os arguments kinds c w f.1 u.1 h)
        (λ xs v are. named_fine program r active call calls s up line xs c v f.0 u.0 h are)
    act_fine os (CallFormalProcedure up index arguments line) c w f u h =
        let closed = formal_is program c.env (routine_at program r).chain up index f.1.0 f.1.1.0 h.1 f.0 f.1.1.1 in
        after IsStack (λ xs. ActualsAre program xs f.1.0) (λ v. Unit {0}) (actuals_of call arguments c w) _
        (actuals_fine program r active call calls os arguments f.1.0 c w f.1.1.2 u.1 h)
        (λ xs v are. formal_fine program r active call calls up index line f.1.0 f.1.1.0 xs c v closed u.0 h are)
    act_fine os (Compound body) c w f u h = acts_fine os body c w f u h
    act_fine os (If e s) c w f u h = then_fine IsStack _ _
        (value_fine program r active call calls os e NumberSort c w f.0
        (front program r (expr_uses e) (statement_uses s) u) h)
        (λ x v. choose_fine IsStack (is_true (number_of x)) (act program costs call next s c) (give done) v
        (act_fine os s c v f.1 (back program r (expr_uses e) (statement_uses s) u) h) tt)
    act_fine os (IfElse e s t) c w f u h =
        let first = front program r (expr_uses e ++ statement_uses s) (statement_uses t) u in
        then_fine IsStack _ _ (value_fine program r active call calls os e NumberSort c w f.0
        (front program r (expr_uses e) (statement_uses s) first) h)
        (λ x v. choose_fine IsStack (is_true (number_of x)) (act program costs call next s c)
        (act program costs call next t c) v (act_fine os s c v f.1
        (back program r (expr_uses e) (statement_uses s) first) h)
        (act_fine os t c v f.2 (back program r (expr_uses e ++ statement_uses s) (statement_uses t) u) h))
    act_fine os (Case e elements line) c w f u h = then_fine IsStack _ _
        (value_fine program r active call calls os e NumberSort c w f.0
        (front program r (expr_uses e) (elements_uses elements) u) h)
        (λ x v. selected_fine os elements (number_of x) line c v f.1
        (back program r (expr_uses e) (elements_uses elements) u) h)
    act_fine os (While e s) c w f u h =
        then_fine IsStack _ _ (value_fine program r active call calls os e NumberSort c w f.0
        (front program r (expr_uses e) (statement_uses s) u) h)
        (λ x v. choose_fine IsStack (is_true (number_of x))
        (λ t. and_then (act program costs call next s c t) (λ d. next (Again (While e s)) c)) (give done) v
        (then_fine IsStack _ _ (act_fine os s c v f.1 (back program r (expr_uses e) (statement_uses s) u) h)
        (λ d t. nexts (Again (While e s)) c t (os, f, u) h)) tt)
    act_fine os (Repeat body e) c w f u h =
        then_fine IsStack _ _ (acts_fine os body c w f.0 (front program r (statements_uses body) (expr_uses e) u) h)
        (λ d v.
        then_fine IsStack _ _ (value_fine program r active call calls os e NumberSort c v f.1
        (back program r (statements_uses body) (expr_uses e) u) h)
        (λ x t. choose_fine IsStack (is_true (number_of x)) (give done) (next (Again (Repeat body e)) c) t tt
        (nexts (Again (Repeat body e)) c t (os, f, u) h)))
    act_fine os (For variable low high a from_line direction b to_line s) c w f u h =
        let bounds = front program r (expr_uses a ++ expr_uses b) (statement_uses s) u in
        let inner = back program r (expr_uses a ++ expr_uses b) (statement_uses s) u in
        then_fine IsStack _ _ (value_fine program r active call calls os a NumberSort c w f.1
        (front program r (expr_uses a) (expr_uses b) bounds) h) (λ x v.
        then_fine IsStack _ _ (value_fine program r active call calls os b NumberSort c v f.2
        (back program r (expr_uses a) (expr_uses b) bounds) h) (λ y t.
        turns_fine (is_past direction (number_of x) (number_of y)) variable low high x from_line y to_line direction s c
        t (λ q. act_fine os s c q f.3 inner h)
        (λ q. nexts (Further variable direction (number_of y) s) c q (os, f.3, inner) h)))
    act_fine os (With places s) c w f u h = then_fine IsStack _ _
        (opening_fine os places f.0 c w f.1 (front program r (places_uses places) (statement_uses s) u) h)
        (λ opened v. act_fine f.0 s (with_opened opened c) v f.2
        (back program r (places_uses places) (statement_uses s) u) h)
    act_fine os (New p pointer line) c w f u h = then_fine IsStack _ _
        (access_fine program r active call calls os p _ c w f.0 u h)
        (λ s v. then_fine IsStack _ _ (new_fine pointer line v) (λ x t. tt))
    act_fine os (Pack p from_type e line q to_type) c w f u h =
        let first = front program r (place_uses p ++ expr_uses e) (place_uses q) u in
        then_fine IsStack _ _ (access_fine program r active call calls os p _ c w f.4
        (front program r (place_uses p) (expr_uses e) first) h) (λ a v.
        then_fine IsStack _ _ (value_fine program r active call calls os e NumberSort c v f.5
        (back program r (place_uses p) (expr_uses e) first) h) (λ x t.
        then_fine IsStack _ _ ((place_fine (index_of from_type) (number_of x) line c) t) (λ k y.
        then_fine IsStack _ _ (access_fine program r active call calls os q _ c y f.6
        (back program r (place_uses p ++ expr_uses e) (place_uses q) u) h) (λ z o.
        put_or_fault (nat_le (k + value_count (index_of to_type)) (value_count (index_of from_type))) z
        (StructureValue (first_values (value_count (index_of to_type))
        (values_from (components_of (contents_in o a)) k))) line c o))))
    act_fine os (Unpack p from_type q to_type e line) c w f u h =
        let first = front program r (place_uses p ++ place_uses q) (expr_uses e) u in
        then_fine IsStack _ _ (access_fine program r active call calls os p _ c w f.4
        (front program r (place_uses p) (place_uses q) first) h) (λ z v.
        then_fine IsStack _ _ (access_fine program r active call calls os q _ c v f.5
        (back program r (place_uses p) (place_uses q) first) h) (λ a t.
        then_fine IsStack _ _ (value_fine program r active call calls os e NumberSort c t f.6
        (back program r (place_uses p ++ place_uses q) (expr_uses e) u) h) (λ x y.
        then_fine IsStack _ _ ((place_fine (index_of to_type) (number_of x) line c) y) (λ k o.
        put_or_fault (nat_le (k + value_count (index_of from_type)) (value_count (index_of to_type))) a
        (StructureValue (with_values (components_of (contents_in o a)) k (components_of (contents_in o z)))) line c
        o))))
    act_fine os (Read variables) c w f u h = reads_fine os variables c w f.1 u h
    act_fine os (Readln variables line) c w f u h = then_fine IsStack _ _ (reads_fine os variables c w f.1 u h)
        (λ d v. then_fine IsStack (look v) _ (tt) (λ b t. line_read_fine IsStack no_error b line c t))
    act_fine os (Write parameters) c w f u h = writes_fine os parameters c w f u h
    act_fine os (Writeln parameters) c w f u h = then_fine IsStack _ _ (writes_fine os parameters c w f u h)
        (λ d v. text_fine (10 ∷ []) v)

    acts_fine : (os : List Shape) (body : Statements) (c : Context) (w : World) → StatementsFit scope os body
        → Known program r (statements_uses body) → Here program r active c → Avoids IsStack
        (acts program costs call next body c w)
    acts_fine os no_statement c w f u h = tt
    acts_fine os (statement_before s rest) c w f u h = then_fine IsStack _ _
        (act_fine os s c w f.0 (front program r (statement_uses s) (statements_uses rest) u) h)
        (λ d v. acts_fine os rest c v f.1 (back program r (statement_uses s) (statements_uses rest) u) h)

    selected_fine : (os : List Shape) (elements : Elements) (x : ℤ) (line : ℕ) (c : Context) (w : World)
        → ElementsFit scope os elements → Known program r (elements_uses elements) → Here program r active c
        → Avoids IsStack
        (selected program costs call next elements x line c w)
    selected_fine os no_element x line c w f u h = no_stop
    selected_fine os (element_before constants s rest) x line c w f u h = choose_fine IsStack (is_among x constants)
        (act program costs call next s c) (selected program costs call next rest x line c) w
        (act_fine os s c w f.0 (front program r (statement_uses s) (elements_uses rest) u) h)
        (selected_fine os rest x line c w f.1 (back program r (statement_uses s) (elements_uses rest) u) h)

  -- a further turn, once its variable is looked up
  abbrev turned : (program : Program) (costs : Costs) (call : Caller) (next : Next) (variable : ℕ) → Direction
      → (last : ℤ) → Statement → Context → Value → Act Done
  turned program costs call next variable direction last s c v = do
    put (own_spot variable c) v
    act program costs call next s c
    next (Further variable direction last s) c

  further_fine : (b : Bool) (os : List Shape) (variable : ℕ) (direction : Direction) (last : ℤ) (s : Statement)
      (c : Context) (v : Value) (w : World) → StatementFits scope os s → Known program r (statement_uses s)
      → Here program r active c → Avoids IsStack (cond b (give done)
      (turned program costs call next variable direction last s c v) w)
  further_fine true os variable direction last s c v w f u h = tt
  further_fine false os variable direction last s c v w f u h =
      then_fine IsStack (put (own_spot variable c) v w) _ (tt) (λ d t.
      then_fine IsStack _ _ (act_fine os s c t f u h) (λ d' q. nexts (Further variable direction last s) c q
      (os, f, u) h))

  pub perform_fine : (t : Task) (c : Context) (w : World) → TaskIs program r t → Here program r active c
      → Avoids IsStack
      (perform program costs call next t c w)
  perform_fine (Block body) c w k h = acts_fine [] body c w k.0 k.1 h
  perform_fine (Again s) c w k h = act_fine k.0 s c w k.1 k.2 h
  perform_fine (Further variable direction last s) c w k h = further_fine
      (is_equal (number_of (contents_in w (own_spot variable c))) last) k.0 variable direction last s c
      (OrdinalValue (succeeding direction (number_of (contents_in w (own_spot variable c))))) w k.1 k.2 h
