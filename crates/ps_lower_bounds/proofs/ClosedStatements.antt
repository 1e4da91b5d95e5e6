-- The code of statements is closed.
use Rattle.std.proofs.Common.{ℕ, suc, ◌+◌, ◌<◌, Bool, true, false, ◌||◌, List, [], ◌∷◌, ◌++◌, length, pos, None}
use Rattle.std.proofs.Common.{sym, subst, arith, length-append}
use Rattle.ps_tree.specs.declared.tree.operators.Range.TheVariants.{Within}
use Rattle.ps_tree.specs.Sizes.{value_count}
use Rattle.ps_tree.specs.Tree.{Place, Expr, ReadVariable, ReadChar, ReadInteger, Width, DefaultWidth, GivenWidth}
use Rattle.ps_tree.specs.Tree.{WriteParameter, WriteInteger, WriteChar, WriteBoolean, WriteText, Statement, Empty}
use Rattle.ps_tree.specs.Tree.{Assign, AssignSet, AssignStructure, CallProcedure, CallFormalProcedure, Compound, If}
use Rattle.ps_tree.specs.Tree.{IfElse, Case, While, Repeat, For, With, New, Pack, Unpack, Read, Readln, Write, Writeln}
use Rattle.ps_tree.specs.Tree.{Statements, no_statement, statement_before, Elements, no_element, element_before}
use Rattle.ps_tree.specs.Tree.{domain_at}
use Rattle.ps_meaning.specs.Expressions.{index_of}
use Rattle.tac_code.specs.declared.code.Base.TheVariants as base
use Rattle.tac_code.specs.declared.code.Instruction.TheVariants as i
use Rattle.tac_code.specs.Sound.{IsLine}
use Rattle.tac_code.specs.declared.code.TheConstants.{NUMBER_LIMIT}
use Rattle.ps_lower_layout.specs.Shapes.{shape_of, component_bytes}
use Rattle.ps_lower_layout.specs.Frames.{entry_offset}
use Rattle.ps_lower_code.specs.Scopes.{even_from, odd_from, held, kept, beside, greatest, check_code, operand_of}
use Rattle.ps_lower_code.specs.Scopes.{Scope, routine_up}
use Rattle.ps_lower_code.specs.Calling.{places_call, expr_calls, structure_calls, width_calls, statement_calls}
use Rattle.ps_lower_code.specs.Values.{literal_of, relation_in, left_in, right_in, opposite, finish, is_byte}
use Rattle.ps_lower_code.specs.Values.{gives_byte, is_byte_array, text_length, arguments_end, place_temporary}
use Rattle.ps_lower_code.specs.Values.{place_site, place_code, front_code, structure_code, arguments_code}
use Rattle.ps_lower_code.specs.Statements.{expr_code, read_code, reads_code, width_code, write_code, writes_code}
use Rattle.ps_lower_code.specs.Statements.{within_site, with_code, with_scope, with_depth, tests_code, body_depth}
use Rattle.ps_lower_code.specs.Statements.{room_code, statement_code, statements_code, elements_code}
use Rattle.ps_lower_layout.specs.Shapes.{Shape, Whole}
use Rattle.ps_lower_layout.specs.Paths.{Sort}
use Rattle.ps_lower_layout.specs.Frames.{Closure}
use Rattle.ps_lower_code.specs.Fits.{ExprFits, OpenedFit, WidthFits, WriteFits, WritesFit, ReadFits, ReadsFit}
use Rattle.ps_lower_code.specs.Fits.{StatementFits, StatementsFit, ElementsFit}
use Rattle.ps_lower_bounds.proofs.Counts.{few_bytes, HeadingFew}
use Rattle.ps_lower_bounds.proofs.Few.{range_there, kind_few, arguments_few, place_few, contents_of, text_small}
use Rattle.ps_lower_bounds.proofs.Few.{contents_small, pack_few, unpack_few, with_fits}
use Rattle.ps_lower_bounds.proofs.Closed.{to_int, Closed, anywhere, joined, both, three, four, five, six, unknown}
use Rattle.ps_lower_bounds.proofs.ClosedPieces.{literal_known, operand_number, right_number, range_closed}
use Rattle.ps_lower_bounds.proofs.ClosedPieces.{check_closed, fitting_closed, operand_check_closed, store_closed}
use Rattle.ps_lower_bounds.proofs.ClosedPieces.{link_closed, formal_closed, words_closed, set_check_closed}
use Rattle.ps_lower_bounds.proofs.ClosedValues.{SmallScope, arguments_counted, finished, place_closed, front_closed}
use Rattle.ps_lower_bounds.proofs.ClosedValues.{set_closed}
use Rattle.ps_lower_bounds.proofs.ClosedValues.{structure_closed, arguments_closed}
use Rattle.ps_lower_bounds.proofs.ClosedFirsts.{first_closed, tests_closed, room_closed, for_closed, components_closed}
use Rattle.ps_lower_bounds.proofs.ClosedFirsts.{truth_text_closed}

module _ (R T : ℕ) (k : Scope) (os : List Shape) (w : SmallScope R T k os) where
  -- the value of an expression
  expr_closed : (e : Expr) (sort : Sort) (d : ℕ) → ExprFits k os e sort → Closed R T 0 0 (expr_code k e d 0)
  expr_closed e sort d f = finished R T k os w e _ d 0 f (front_closed R T k os w e _ d 0 f)

  -- ---- input and output

  read_closed : (v : ReadVariable) (d : ℕ) → ReadFits k os v → Closed R T 0 0 (read_code k v d)
  read_closed (ReadChar p low high line) d f =
      let t = even_from (suc (odd_from d)) in let l = f.4 in
      let g = range_there (Within low high) f.0 f.3 in
      four R T (place_code k p (odd_from d) 0) _ _ _ (place_closed R T k os w p _ (odd_from d) 0 f.1) (tt, tt, tt) (
        omega (arith, w.routines),
        tt,
        (
          omega (arith, l),
          tt,
          anywhere R T _ 2 0
              (fitting_closed R T true None t (Within low high) line g f.4),
        ),
      )
      (store_closed R T (is_byte p) (place_site k p (odd_from d)) t)
  read_closed (ReadInteger p low high line) d f =
      let t = even_from (suc (odd_from d)) in let l = f.4 in
      let g = range_there (Within low high) f.0 f.3 in
      four R T (place_code k p (odd_from d) 0) _ _ _ (place_closed R T k os w p _ (odd_from d) 0 f.1) (tt, tt, tt) (
        tt,
        tt,
        (
          omega (arith, w.routines),
          tt,
          (
            omega (arith, l),
            tt,
            (
              omega (arith, l),
              tt,
              (
                omega (arith, l),
                tt,
                (
                  tt,
                  tt,
                  anywhere R T _ 6 0 (range_closed R T t low high 4 line (to_int low g.0) (to_int high g.1)
                      (omega arith) f.4),
                ),
              ),
            ),
          ),
        ),
      )
      (store_closed R T (is_byte p) (place_site k p (odd_from d)) t)

  reads_closed : (list : List ReadVariable) (d : ℕ) → ReadsFit k os list → Closed R T 0 0 (reads_code k list d)
  reads_closed [] d f = tt
  reads_closed (v ∷ rest) d f = both R T (read_code k v d) _ (read_closed v d f.0) (reads_closed rest d f.1)

  width_closed : (width : Width) (n t : ℕ) → WidthFits k os width → n < NUMBER_LIMIT → Closed R T 0 0
      (width_code k width n t)
  width_closed DefaultWidth n t f s = (s, tt, tt)
  width_closed (GivenWidth e line) n t f s = both R T (front_code k e t 0 ++ finish e t) _ (expr_closed e _ t f.0)
      (check_closed R T (literal_of e) t (pos 1) greatest 11 line (omega arith) (omega arith) (omega arith) f.1)

  write_closed : (p : WriteParameter) (d : ℕ) → WriteFits k os p → Closed R T 0 0 (write_code k p d)
  write_closed (WriteInteger e width) d f =
      let c = held (width_calls width) d in let t = even_from (suc c) in
      three R T (front_code k e c 0 ++ finish e c) _ _ (expr_closed e _ c f.0)
      (width_closed width 11 t f.1 (omega arith))
      (omega (arith, w.routines))
  write_closed (WriteChar e width) d f =
      let c = held (width_calls width) d in let t = even_from (suc c) in
      three R T (front_code k e c 0 ++ finish e c) _ _ (expr_closed e _ c f.0)
      (width_closed width 1 t f.1 (omega arith))
      (omega (arith, w.routines))
  write_closed (WriteBoolean e width) d f =
      let c = held (width_calls width) d in let t = even_from (suc c) in
      four R T (front_code k e c 0 ++ finish e c) _ _ _ (expr_closed e _ c f.0)
      (width_closed width 5 t f.1 (omega arith))
      (truth_text_closed R T k w.routines c (beside t) (beside (beside t))) (omega (arith, w.routines))
  write_closed (WriteText e width) d f =
      let c = held (width_calls width) d in let t = even_from (suc c) in
      let s = text_small k w.program os w.opened e f.0 in
      three R T (structure_code k e c 0) _ _ (structure_closed R T k os w e _ c 0 (contents_of k os e f.0).1)
      (width_closed width (text_length e) t f.1 s) (omega (arith, w.routines, s))

  writes_closed : (list : List WriteParameter) (d : ℕ) → WritesFit k os list → Closed R T 0 0 (writes_code k list d)
  writes_closed [] d f = tt
  writes_closed (p ∷ rest) d f = both R T (write_code k p d) _ (write_closed p d f.0) (writes_closed rest d f.1)

module _ (R T : ℕ) where
  -- ---- `with`

  with_closed : (k : Scope) (os : List Shape) (w : SmallScope R T k os) (places : List Place) (c : Bool) (d : ℕ)
      (inner : List Shape) → OpenedFit k os places inner
      → Closed R T 0 0 (with_code k places c d) × SmallScope R T (with_scope k places c d) inner
  with_closed k os w [] c d inner f = (tt, subst (SmallScope R T k) (sym f) w)
  with_closed k os w (p ∷ rest) c d inner f =
      let u = with_closed (within_site k (place_site k p (held c d))) (f.0 ∷ os) (record {
        routines = w.routines;
        types = w.types;
        program = w.program;
        opened = (place_few k w.program os w.opened p (Whole f.0) f.1, w.opened);
      }) rest c (suc (place_temporary p (held c d))) inner f.2 in
      (both R T (place_code k p (held c d) 0) _ (place_closed R T k os w p _ (held c d) 0 f.1) u.0, u.1)

  -- ---- statements

  mutual
    pub statement_closed : (k : Scope) (os : List Shape) (w : SmallScope R T k os) (s : Statement) (d : ℕ)
        → StatementFits k os s → Closed R T 0 0 (statement_code k s d)
    statement_closed k os w Empty d f = tt
    statement_closed k os w (Assign p range e line) d f =
        let c = kept (expr_calls e) d in let t = even_from (suc (place_temporary p c)) in
        four R T (place_code k p c 0) _ _ _ (place_closed R T k os w p _ c 0 f.1) (expr_closed R T k os w e _ t f.3.2)
        (fitting_closed R T (gives_byte e) (literal_of e) t range line (range_there range f.0 f.2) f.4)
        (store_closed R T (is_byte p) (place_site k p c) t)
    statement_closed k os w (AssignSet p low high e line) d f =
        let c = odd_from d in let t = even_from (suc c) in
        five R T (place_code k p c 0) _ _ _ _ (place_closed R T k os w p _ c 0 f.0)
        (set_closed R T k os w e (suc c) 0 f.1)
        (set_check_closed R T t 0 low high line f.3) (tt, tt, tt)
        (words_closed R T (base.Temporary t) 0 base.Scratch 0 (beside t) 8 0)
    statement_closed k os w (AssignStructure p e) d f =
        let c = held (structure_calls e) d in let t = even_from (suc (place_temporary p c)) in
        let s = contents_small k w.program os w.opened e f.0 f.2
        (place_few k w.program os w.opened p (Whole f.0) f.1) in
        four R T (place_code k p c 0) _ _ _ (place_closed R T k os w p _ c 0 f.1)
        (structure_closed R T k os w e _ t 0 f.2)
        (tt, tt, tt) (omega (arith, w.routines, s))
    statement_closed k os w (CallProcedure routine up arguments line) d f =
        let t = even_from (arguments_end arguments d) in let n = arguments_counted arguments d in
        let few = (w.program.routines routine).heading in let m = arguments_few k w.program os arguments _ f.1 few in
        let r = f.0.0 in
        three R T (arguments_code k arguments d 0) _ _ (arguments_closed R T k os w arguments _ d 0 f.1 few.1)
        (link_closed R T k t up) ((omega (arith, w.routines, r), omega (arith, n, m), f.2), tt, tt)
    statement_closed k os w (CallFormalProcedure up index arguments line) d f =
        let t = even_from (arguments_end arguments d) in let n = arguments_counted arguments d in
        let few : HeadingFew f.1.0 = kind_few k w.program up index (Closure f.1.0 f.1.1.0) f.1.1.1 in
        let m = arguments_few k w.program os arguments f.1.0 f.1.1.2 few in
        three R T (arguments_code k arguments d 0) _ _ (arguments_closed R T k os w arguments _ d 0 f.1.1.2 few.1)
        (formal_closed R T k t up index) ((omega (arith, n, m), f.2), tt, tt)
    statement_closed k os w (Compound body) d f = statements_closed k os w body d f
    statement_closed k os w (If e s) d f =
        both R T (front_code k e d 0) _ (front_closed R T k os w e _ d 0 f.0) (
          right_number R T k os e _ d f.0,
          omega arith,
          anywhere R T (statement_code k s d) 1 0
              (statement_closed k os w s d f.1),
        )
    statement_closed k os w (IfElse e s t) d f =
        joined R T (front_code k e d 0 ++ i.Branch (opposite (relation_in e)) (left_in e d) (right_in e d)
        (suc (length (statement_code k s d))) ∷ statement_code k s d)
        (i.Jump (length (statement_code k t d)) ∷ statement_code k t d) 0 0
        (joined R T (front_code k e d 0) (i.Branch (opposite (relation_in e)) (left_in e d) (right_in e d)
        (suc (length (statement_code k s d))) ∷ statement_code k s d) 0 (suc (length (statement_code k t d)) + 0)
        (anywhere R T (front_code k e d 0) 0 _ (front_closed R T k os w e _ d 0 f.0)) (
          right_number R T k os e _ d f.0,
          omega arith,
          anywhere R T (statement_code k s d) _ _
              (statement_closed k os w s d f.1),
        ))
        (tt, omega arith, anywhere R T (statement_code k t d) _ 0 (statement_closed k os w t d f.2))
    statement_closed k os w (Case e elements line) d f =
        both R T (front_code k e d 0 ++ finish e d) _ (expr_closed R T k os w e _ d f.0)
        (elements_closed k os w elements d line f.1 f.2)
    statement_closed k os w (While e s) d f =
        let l = length-append (statement_code k s d) (front_code k e d 0) in
        joined R T (i.Jump (length (statement_code k s d)) ∷ (statement_code k s d ++ front_code k e d 0)) _ 0 0 (
          tt,
          omega (arith, l),
          anywhere R T (statement_code k s d ++ front_code k e d 0) 1 _
              (both R T (statement_code k s d) _ (statement_closed k os w s d f.1)
              (front_closed R T k os w e _ d 0 f.0)),
        )
        (right_number R T k os e _ d f.0, omega (arith, l), tt)
    statement_closed k os w (Repeat body e) d f =
        let l = length-append (statements_code k body d) (front_code k e d 0) in
        joined R T (statements_code k body d ++ front_code k e d 0) _ 0 0
        (anywhere R T (statements_code k body d ++ front_code k e d 0) 0 _
        (both R T (statements_code k body d) _ (statements_closed k os w body d f.0)
        (front_closed R T k os w e _ d 0 f.1))) (right_number R T k os e _ d f.1, omega (arith, l), tt)
    statement_closed k os w (For variable low high a from_line direction b to_line s) d f =
        let c = held (expr_calls b) d in let t = held (statement_calls s) (suc c) in
        three R T (front_code k a c 0 ++ finish a c) _ _ (expr_closed R T k os w a _ c f.1)
        (unknown R T (literal_of b) _ (expr_closed R T k os w b _ t f.2))
        (for_closed R T direction c (operand_of (literal_of b) t) (entry_offset (routine_up k 0) variable)
        (even_from (body_depth (literal_of b) d t)) _ _
        (operand_number R T (literal_of b) t (literal_known k os b _ f.2))
        (both R T (check_code (literal_of a) c low high 4 from_line) _
        (check_closed R T (literal_of a) c low high 4 from_line (to_int low f.4.0) (to_int high f.4.1)
        (omega arith) f.5) (operand_check_closed R T (literal_of b) t low high 4 to_line (to_int low f.4.0)
        (to_int high f.4.1) (omega arith) f.6))
        (statement_closed k os w s (body_depth (literal_of b) d t) f.3))
    statement_closed k os w (With places s) d f =
        let c = statement_calls s || places_call places in let u = with_closed k os w places c d f.0 f.1 in
        both R T (with_code k places c d) _ u.0 (statement_closed (with_scope k places c d) f.0 u.1 s
        (with_depth places c d) (with_fits k places c d f.0 s f.2))
    statement_closed k os w (New p pointer line) d f =
        let c = odd_from d in let t = odd_from (suc c) in let l = f.1 in
        let m = few_bytes (shape_of (domain_at k.program pointer)) (w.program.domains pointer) in
        three R T (place_code k p c 0) _ _ (place_closed R T k os w p _ c 0 f.0) (
          (omega (arith, w.types, l), f.3),
          tt,
          anywhere R T _ 1 0 (first_closed R T k w.routines (base.Temporary t) (even_from (suc t)) 0
              (shape_of (domain_at k.program pointer)) f.2 (omega (arith, m))),
        ) (store_closed R T (is_byte p) (place_site k p c) t)
    statement_closed k os w (Pack p from_type e line q to_type) d f =
        let a = odd_from d in let b = odd_from (suc a) in let c = odd_from (suc b) in let t = even_from (suc c) in
        let g = pack_few k w.program os w.opened p from_type e line q to_type f in
        six R T (place_code k p a 0) _ _ _ _ _ (place_closed R T k os w p _ a 0 f.4)
        (expr_closed R T k os w e _ b f.5) (
          (to_int (index_of from_type).low f.3.1, to_int (index_of from_type).high f.3.2, omega arith, f.9),
          tt,
          (tt, tt, anywhere R T (place_code k q c 0) 2 0 (place_closed R T k os w q _ c 0 f.6)),
        )
        (room_closed R T from_type to_type b line g.0 f.9) (tt, tt, tt)
        (components_closed R T k w.routines true a c (value_count (index_of to_type))
        (is_byte_array (shape_of from_type))
        (is_byte_array (shape_of to_type)) (component_bytes (shape_of from_type)) t g.0.2 g.1)
    statement_closed k os w (Unpack p from_type q to_type e line) d f =
        let a = odd_from d in let b = odd_from (suc a) in let c = odd_from (suc b) in let t = even_from (suc c) in
        let g = unpack_few k w.program os w.opened p from_type q to_type e line f in
        six R T (place_code k p a 0) _ _ _ _ _ (place_closed R T k os w p _ a 0 f.4) (tt, tt, tt)
        (place_closed R T k os w q _ b 0 f.5) (expr_closed R T k os w e _ c f.6) (
          (to_int (index_of to_type).low f.3.1, to_int (index_of to_type).high f.3.2, omega arith, f.9),
          tt,
          (
            tt,
            tt,
            anywhere R T (room_code to_type from_type c line) 2 0
                (room_closed R T to_type from_type c line g.0 f.9),
          ),
        )
        (components_closed R T k w.routines false a b (value_count (index_of from_type))
        (is_byte_array (shape_of from_type))
        (is_byte_array (shape_of to_type)) (component_bytes (shape_of from_type)) t g.0.2 g.1)
    statement_closed k os w (Read variables) d f = reads_closed R T k os w variables d f.1
    statement_closed k os w (Readln variables line) d f =
        let l = f.2 in
        three R T (reads_code k variables d) _ _ (reads_closed R T k os w variables d f.1) (tt, tt, tt)
        (omega (arith, w.routines, l))
    statement_closed k os w (Write parameters) d f = writes_closed R T k os w parameters d f
    statement_closed k os w (Writeln parameters) d f = both R T (writes_code k parameters d) _
        (writes_closed R T k os w parameters d f) (omega arith)

    pub statements_closed : (k : Scope) (os : List Shape) (w : SmallScope R T k os) (list : Statements) (d : ℕ)
        → StatementsFit k os list → Closed R T 0 0 (statements_code k list d)
    statements_closed k os w no_statement d f = tt
    statements_closed k os w (statement_before s rest) d f = both R T (statement_code k s d) _
        (statement_closed k os w s d f.0) (statements_closed k os w rest d f.1)

    elements_closed : (k : Scope) (os : List Shape) (w : SmallScope R T k os) (elements : Elements) (d line : ℕ)
        → ElementsFit k os elements → IsLine line → Closed R T 0 0 (elements_code k elements d line)
    elements_closed k os w no_element d line f l = omega (arith, l)
    elements_closed k os w (element_before constants s rest) d line f l =
        let past = suc (length (statement_code k s d)) in
        joined R T (tests_code constants d past ++ statement_code k s d)
        (i.Jump (length (elements_code k rest d line)) ∷ elements_code k rest d line) 0 0
        (joined R T (tests_code constants d past) (statement_code k s d) 0
        (suc (length (elements_code k rest d line)) + 0)
        (tests_closed R T constants d past 0 _ f.2 (omega arith))
        (anywhere R T (statement_code k s d) _ _ (statement_closed k os w s d f.0)))
        (tt, omega arith, anywhere R T (elements_code k rest d line) _ 0 (elements_closed k os w rest d line f.1 l))
