-- What the code of statements uses: as much for each node and cell as that of expressions.
use Rattle.std.proofs.Common.{ℕ, suc, ◌+◌, ◌*◌, ◌<◌, ◌≤◌, Bool, true, false, ◌||◌, List, [], ◌∷◌, ◌++◌, length, pos}
use Rattle.std.proofs.Common.{None, arith}
use Rattle.ps_tree.specs.declared.tree.operators.Range.TheVariants.{Within}
use Rattle.ps_tree.specs.Sizes.{value_count}
use Rattle.ps_tree.specs.Counts.{place_extent, expr_extent, places_extent, read_extent, reads_extent, width_extent}
use Rattle.ps_tree.specs.Counts.{write_extent, writes_extent, statement_extent, statements_extent, elements_extent}
use Rattle.ps_tree.specs.Tree.{Place, Expr, ReadVariable, ReadChar, ReadInteger, Width, DefaultWidth, GivenWidth}
use Rattle.ps_tree.specs.Tree.{WriteParameter, WriteInteger, WriteChar, WriteBoolean, WriteText, Statement, Empty}
use Rattle.ps_tree.specs.Tree.{Assign, AssignSet, AssignStructure, CallProcedure, CallFormalProcedure, Compound, If}
use Rattle.ps_tree.specs.Tree.{IfElse, Case, While, Repeat, For, With, New, Pack, Unpack, Read, Readln, Write, Writeln}
use Rattle.ps_tree.specs.Tree.{Statements, no_statement, statement_before, Elements, no_element, element_before}
use Rattle.ps_tree.specs.Tree.{domain_at}
use Rattle.ps_meaning.specs.Expressions.{index_of}
use Rattle.tac_code.specs.declared.code.Base.TheVariants as base
use Rattle.tac_code.specs.declared.code.Instruction.TheVariants as i
use Rattle.ps_lower_layout.specs.Shapes.{shape_of, component_bytes}
use Rattle.ps_lower_layout.specs.Frames.{entry_offset}
use Rattle.ps_lower_code.specs.Scopes.{even_from, odd_from, held, kept, beside, greatest, check_code, operand_of}
use Rattle.ps_lower_code.specs.Scopes.{Scope, routine_up}
use Rattle.ps_lower_code.specs.Calling.{places_call, expr_calls, structure_calls, width_calls, statement_calls}
use Rattle.ps_lower_code.specs.Values.{literal_of, finish, is_byte, gives_byte, is_byte_array, text_length}
use Rattle.ps_lower_code.specs.Values.{structure_bytes, arguments_end, place_temporary, place_site, place_code}
use Rattle.ps_lower_code.specs.Values.{front_code, structure_code, arguments_code}
use Rattle.ps_lower_code.specs.Statements.{expr_code, read_code, reads_code, width_code, write_code, writes_code}
use Rattle.ps_lower_code.specs.Statements.{within_site, with_code, with_scope, with_depth, tests_code, body_depth}
use Rattle.ps_lower_code.specs.Statements.{statement_code, statements_code, elements_code}
use Rattle.ps_lower_bounds.proofs.Uses.{BaseUnder, Under, both, three, four, five, six, unknown, at_base}
use Rattle.ps_lower_bounds.proofs.Pieces.{held_most, kept_most, range_under, check_under, fitting_under}
use Rattle.ps_lower_bounds.proofs.Pieces.{operand_check_under, operand_under, left_under, right_under, OpenedUnder}
use Rattle.ps_lower_bounds.proofs.Pieces.{store_under, site_under, link_under, formal_under, place_site_under}
use Rattle.ps_lower_bounds.proofs.Pieces.{kept_under, set_check_under}
use Rattle.ps_lower_bounds.proofs.Nodes.{place_node, expr_node, set_node, structure_node}
use Rattle.ps_lower_bounds.proofs.Values.{Room, arguments_end_most, words_under, finished, place_under, front_under}
use Rattle.ps_lower_bounds.proofs.Values.{set_under, structure_under, arguments_under}
use Rattle.ps_lower_bounds.proofs.Firsts.{temporary_most, first_under, tests_under, truth_text_under, room_under}
use Rattle.ps_lower_bounds.proofs.Firsts.{for_under, body_depth_most, components_under}

module _ (k : Scope) (D X : ℕ) (o : OpenedUnder D k.opened) where
  -- the value of an expression
  expr_under : (e : Expr) (d : ℕ) → Room D X d 0 (expr_extent e) → Under D X (expr_code k e d 0)
  expr_under e d r = finished k D X o e d 0 r (front_under k D X o e d 0 r)

  -- where a variable is, whose code has room
  at_place : (p : Place) (d : ℕ) → Room D X d 0 (place_extent p) → BaseUnder D (place_site k p d).base
  at_place p d r = let n = place_node p in place_site_under k D X p d o (omega (arith, r, n))

  -- ---- input and output

  read_under : (v : ReadVariable) (d : ℕ) → Room D X d 0 (read_extent v) → Under D X (read_code k v d)
  unfolding read_extent
  read_under (ReadChar p low high line) d r =
      let t = even_from (suc (odd_from d)) in let n = place_node p in
      four D X (place_code k p (odd_from d) 0) _ _ _ (place_under k D X o p (odd_from d) 0 (omega (arith, r)))
      (omega (arith, r))
      (omega (arith, r), (omega (arith, r), fitting_under D X true None t (Within low high) line (omega (arith, r))))
      (store_under D X (is_byte p) (place_site k p (odd_from d)) t (omega (arith, r))
      (at_place p (odd_from d) (omega (arith, r))))
  read_under (ReadInteger p low high line) d r =
      let t = even_from (suc (odd_from d)) in let n = place_node p in
      four D X (place_code k p (odd_from d) 0) _ _ _ (place_under k D X o p (odd_from d) 0 (omega (arith, r)))
      (omega (arith, r)) (
        omega (arith, r),
        (
          omega (arith, r),
          (
            omega (arith, r),
            (
              omega (arith, r),
              (
                omega (arith, r),
                (
                  omega (arith, r),
                  range_under D X t low high 4 line
                      (omega (arith, r)),
                ),
              ),
            ),
          ),
        ),
      )
      (store_under D X (is_byte p) (place_site k p (odd_from d)) t (omega (arith, r))
      (at_place p (odd_from d) (omega (arith, r))))

  reads_under : (list : List ReadVariable) (d : ℕ) → Room D X d 0 (reads_extent list) → Under D X (reads_code k list d)
  unfolding reads_extent
  reads_under [] d r = tt
  reads_under (v ∷ rest) d r = both D X (read_code k v d) _ (read_under v d (omega (arith, r)))
      (reads_under rest d (omega (arith, r)))

  width_under : (width : Width) (n t : ℕ) → Room D X t 0 (width_extent width) → t < D → Under D X
      (width_code k width n t)
  unfolding width_extent
  width_under DefaultWidth n t r h = (h, tt)
  width_under (GivenWidth e line) n t r h = both D X (front_code k e t 0 ++ finish e t) _ (expr_under e t r)
      (check_under D X (literal_of e) t (pos 1) greatest 11 line h)

  write_under : (p : WriteParameter) (d : ℕ) → Room D X d 0 (write_extent p) → Under D X (write_code k p d)
  unfolding write_extent
  write_under (WriteInteger e width) d r =
      let c = held (width_calls width) d in let m = held_most (width_calls width) d in let t = even_from (suc c)
      in let n = expr_node e in
      three D X (front_code k e c 0 ++ finish e c) _ _ (expr_under e c (omega (arith, r, m)))
      (width_under width 11 t (omega (arith, r, m, n)) (omega (arith, r, m, n))) (omega (arith, r, m, n))
  write_under (WriteChar e width) d r =
      let c = held (width_calls width) d in let m = held_most (width_calls width) d in let t = even_from (suc c)
      in let n = expr_node e in
      three D X (front_code k e c 0 ++ finish e c) _ _ (expr_under e c (omega (arith, r, m)))
      (width_under width 1 t (omega (arith, r, m, n)) (omega (arith, r, m, n))) (omega (arith, r, m, n))
  write_under (WriteBoolean e width) d r =
      let c = held (width_calls width) d in let m = held_most (width_calls width) d in let t = even_from (suc c)
      in let n = expr_node e in
      four D X (front_code k e c 0 ++ finish e c) _ _ _ (expr_under e c (omega (arith, r, m)))
      (width_under width 5 t (omega (arith, r, m, n)) (omega (arith, r, m, n)))
      (truth_text_under k D X c (beside t) (beside (beside t)) (omega (arith, r, m, n)) (omega (arith, r, m, n))
      (omega (arith, r, m, n))) (omega (arith, r, m, n))
  write_under (WriteText e width) d r =
      let c = held (width_calls width) d in let m = held_most (width_calls width) d in let t = even_from (suc c)
      in let n = structure_node e in
      three D X (structure_code k e c 0) _ _ (structure_under k D X o e c 0 (omega (arith, r, m)))
      (width_under width (text_length e) t (omega (arith, r, m, n)) (omega (arith, r, m, n)))
      (omega (arith, r, m, n))

  writes_under : (list : List WriteParameter) (d : ℕ) → Room D X d 0 (writes_extent list) → Under D X
      (writes_code k list d)
  unfolding writes_extent
  writes_under [] d r = tt
  writes_under (p ∷ rest) d r = both D X (write_code k p d) _ (write_under p d (omega (arith, r)))
      (writes_under rest d (omega (arith, r)))

module _ (D X : ℕ) where
  -- ---- `with`

  with_under : (k : Scope) → OpenedUnder D k.opened → (places : List Place) (c : Bool) (d : ℕ) → Room D X (suc d) 0
      (places_extent places) → Under D X (with_code k places c d) × OpenedUnder D (with_scope k places c d).opened
      × (with_depth places c d ≤ d + 8 * (places_extent places).nodes)
  unfolding places_extent
  with_under k o [] c d r = (tt, o, omega arith)
  with_under k o (p ∷ rest) c d r =
      let m = held_most c d in let l = temporary_most p (held c d) in let n = place_node p in
      let s = place_site k p (held c d) in
      let u = with_under (within_site k s) (at_place k D X o p (held c d) (omega (arith, r, m)), o) rest c
      (suc (place_temporary p (held c d))) (omega (arith, r, m, l, n)) in
      let w = u.2 in (
        both D X (place_code k p (held c d) 0) _
            (place_under k D X o p (held c d) 0 (omega (arith, r, m))) u.0,
        u.1,
        omega (arith, m, l, n, w),
      )

  -- ---- statements

  mutual
    unfolding statement_extent statements_extent elements_extent

    pub statement_under : (k : Scope) → OpenedUnder D k.opened → (s : Statement) (d : ℕ) → Room D X d 0
        (statement_extent s) → Under D X (statement_code k s d)
    statement_under k o Empty d r = tt
    statement_under k o (Assign p range e line) d r =
        let c = kept (expr_calls e) d in let m = kept_most (expr_calls e) d in let l = temporary_most p c
        in let n = place_node p in let q = expr_node e in
        let t = even_from (suc (place_temporary p c)) in
        four D X (place_code k p c 0) _ _ _ (place_under k D X o p c 0 (omega (arith, r, m)))
        (expr_under k D X o e t (omega (arith, r, m, l, n)))
        (fitting_under D X (gives_byte e) (literal_of e) t range line (omega (arith, r, m, l, n, q)))
        (store_under D X (is_byte p) (place_site k p c) t (omega (arith, r, m, l, n, q))
        (at_place k D X o p c (omega (arith, r, m))))
    statement_under k o (AssignSet p low high e line) d r =
        let c = odd_from d in let t = even_from (suc c) in let n = place_node p in let q = set_node e in
        five D X (place_code k p c 0) _ _ _ _ (place_under k D X o p c 0 (omega (arith, r)))
        (set_under k D X o e (suc c) 0 (omega (arith, r)))
        (set_check_under D X t 0 low high line (omega (arith, r, n, q)) (omega (arith, r, n, q)) (omega arith))
        (site_under D X t (place_site k p c) 32 (omega (arith, r)) (at_place k D X o p c (omega (arith, r))))
        (kept_under D X 0 t 0 (beside t) 8 (omega (arith, r, n, q)) (omega arith) (omega (arith, r, n, q))
        (omega (arith, r, n, q)))
    statement_under k o (AssignStructure p e) d r =
        let c = held (structure_calls e) d in let m = held_most (structure_calls e) d in let l = temporary_most p c
        in let n = place_node p in let q = structure_node e in
        let t = even_from (suc (place_temporary p c)) in
        four D X (place_code k p c 0) _ _ _ (place_under k D X o p c 0 (omega (arith, r, m)))
        (structure_under k D X o e t 0 (omega (arith, r, m, l, n)))
        (site_under D X (beside t) (place_site k p c) (structure_bytes e) (omega (arith, r, m, l, n, q))
        (at_place k D X o p c (omega (arith, r, m)))) (omega (arith, r, m, l, n, q))
    statement_under k o (CallProcedure routine up arguments line) d r =
        let e = arguments_end_most arguments d in let t = even_from (arguments_end arguments d) in
        three D X (arguments_code k arguments d 0) _ _ (arguments_under k D X o arguments d 0 (omega (arith, r)))
        (link_under k D X t up (omega (arith, r, e)))
        ((omega (arith, r, e), (omega (arith, r, e), words_under D arguments d (omega (arith, r, e)))), tt)
    statement_under k o (CallFormalProcedure up index arguments line) d r =
        let e = arguments_end_most arguments d in let t = even_from (arguments_end arguments d) in
        three D X (arguments_code k arguments d 0) _ _ (arguments_under k D X o arguments d 0 (omega (arith, r)))
        (formal_under k D X t up index (omega (arith, r, e))) (
          (
            omega (arith, r, e),
            omega (arith, r, e),
            (omega (arith, r, e), words_under D arguments d (omega (arith, r, e))),
          ),
          tt,
        )
    statement_under k o (Compound body) d r = statements_under k o body d (omega (arith, r))
    statement_under k o (If e s) d r =
        let n = expr_node e in
        both D X (front_code k e d 0) _ (front_under k D X o e d 0 (omega (arith, r))) (
          (left_under D X e d (omega (arith, r, n)), right_under D X e d (omega (arith, r, n))),
          statement_under k o
              s d (omega (arith, r)),
        )
    statement_under k o (IfElse e s t) d r =
        let n = expr_node e in
        three D X (front_code k e d 0) _ _ (front_under k D X o e d 0 (omega (arith, r))) (
          (left_under D X e d (omega (arith, r, n)), right_under D X e d (omega (arith, r, n))),
          statement_under k o
              s d (omega (arith, r)),
        ) (tt, statement_under k o t d (omega (arith, r)))
    statement_under k o (Case e elements line) d r =
        let n = expr_node e in
        both D X (front_code k e d 0 ++ finish e d) _ (expr_under k D X o e d (omega (arith, r)))
        (elements_under k o elements d line (omega (arith, r)) (omega (arith, r, n)))
    statement_under k o (While e s) d r =
        let n = expr_node e in
        three D X (i.Jump (length (statement_code k s d)) ∷ statement_code k s d) _ _
        (tt, statement_under k o s d (omega (arith, r))) (front_under k D X o e d 0 (omega (arith, r)))
        ((left_under D X e d (omega (arith, r, n)), right_under D X e d (omega (arith, r, n))), tt)
    statement_under k o (Repeat body e) d r =
        let n = expr_node e in
        three D X (statements_code k body d) _ _ (statements_under k o body d (omega (arith, r)))
        (front_under k D X o e d 0 (omega (arith, r)))
        ((left_under D X e d (omega (arith, r, n)), right_under D X e d (omega (arith, r, n))), tt)
    statement_under k o (For variable low high a from_line direction b to_line s) d r =
        let c = held (expr_calls b) d in let m = held_most (expr_calls b) d in
        let t = held (statement_calls s) (suc c) in let l = held_most (statement_calls s) (suc c) in
        let v = body_depth_most (literal_of b) d t (omega (arith, m, l)) (omega (arith, m, l)) in
        let n = expr_node a in let q = expr_node b in
        three D X (front_code k a c 0 ++ finish a c) _ _ (expr_under k D X o a c (omega (arith, r, m)))
        (unknown D X (literal_of b) _ (expr_under k D X o b t (omega (arith, r, m, l))))
        (for_under D X direction c (operand_of (literal_of b) t) (entry_offset (routine_up k 0) variable)
        (even_from (body_depth (literal_of b) d t)) _ _ (omega (arith, r, m)) (omega (arith, r, v))
        (operand_under D X (literal_of b) t (omega (arith, r, m, l)))
        (both D X (check_code (literal_of a) c low high 4 from_line) _
        (check_under D X (literal_of a) c low high 4 from_line (omega (arith, r, m)))
        (operand_check_under D X (literal_of b) t low high 4 to_line (omega (arith, r, m, l))))
        (statement_under k o s (body_depth (literal_of b) d t) (omega (arith, r, v))))
    statement_under k o (With places s) d r =
        let c = statement_calls s || places_call places in
        let u = with_under k o places c d (omega (arith, r)) in let w = u.2 in
        both D X (with_code k places c d) _ u.0 (statement_under (with_scope k places c d) u.1 s (with_depth places c d)
        (omega (arith, r, w)))
    statement_under k o (New p pointer line) d r =
        let c = odd_from d in let t = odd_from (suc c) in let n = place_node p in
        three D X (place_code k p c 0) _ _ (place_under k D X o p c 0 (omega (arith, r))) (
          omega (arith, r),
          first_under k D X (base.Temporary t) (omega (arith, r)) (even_from (suc t)) 0
              (shape_of (domain_at k.program pointer)) (omega (arith, r, n)),
        )
        (store_under D X (is_byte p) (place_site k p c) t (omega (arith, r)) (at_place k D X o p c (omega (arith, r))))
    statement_under k o (Pack p from_type e line q to_type) d r =
        let a = odd_from d in let b = odd_from (suc a) in let c = odd_from (suc b) in let t = even_from (suc c) in
        six D X (place_code k p a 0) _ _ _ _ _ (place_under k D X o p a 0 (omega (arith, r)))
        (expr_under k D X o e b (omega (arith, r))) (
          (
            omega (arith, r),
            at_base D X (place_site k p a).base 0 (at_place k D X o p a (omega (arith, r))),
            omega
                (arith, r),
          ),
          ((omega (arith, r), omega (arith, r)), place_under k D X o q c 0 (omega (arith, r))),
        )
        (room_under D X from_type to_type b line (omega (arith, r)))
        (site_under D X c (place_site k q c) 0 (omega (arith, r)) (at_place k D X o q c (omega (arith, r))))
        (components_under k D X true a c (value_count (index_of to_type)) (is_byte_array (shape_of from_type))
        (is_byte_array (shape_of to_type)) (component_bytes (shape_of from_type)) t (omega (arith, r))
        (omega (arith, r)) (omega (arith, r)))
    statement_under k o (Unpack p from_type q to_type e line) d r =
        let a = odd_from d in let b = odd_from (suc a) in let c = odd_from (suc b) in let t = even_from (suc c) in
        six D X (place_code k p a 0) _ _ _ _ _ (place_under k D X o p a 0 (omega (arith, r)))
        (site_under D X a (place_site k p a) 0 (omega (arith, r)) (at_place k D X o p a (omega (arith, r))))
        (place_under k D X o q b 0 (omega (arith, r))) (expr_under k D X o e c (omega (arith, r))) (
          (
            omega (arith, r),
            at_base D X (place_site k q b).base 0 (at_place k D X o q b (omega (arith, r))),
            omega
                (arith, r),
          ),
          (
            (omega (arith, r), omega (arith, r)),
            room_under D X to_type from_type c line
                (omega (arith, r)),
          ),
        )
        (components_under k D X false a b (value_count (index_of from_type)) (is_byte_array (shape_of from_type))
        (is_byte_array (shape_of to_type)) (component_bytes (shape_of from_type)) t (omega (arith, r))
        (omega (arith, r)) (omega (arith, r)))
    statement_under k o (Read variables) d r = reads_under k D X o variables d (omega (arith, r))
    statement_under k o (Readln variables line) d r =
        three D X (reads_code k variables d) _ _ (reads_under k D X o variables d (omega (arith, r))) (omega (arith, r))
        (omega (arith, r))
    statement_under k o (Write parameters) d r = writes_under k D X o parameters d (omega (arith, r))
    statement_under k o (Writeln parameters) d r = both D X (writes_code k parameters d) _
        (writes_under k D X o parameters d (omega (arith, r))) (omega (arith, r))

    pub statements_under : (k : Scope) → OpenedUnder D k.opened → (list : Statements) (d : ℕ) → Room D X d 0
        (statements_extent list) → Under D X (statements_code k list d)
    statements_under k o no_statement d r = tt
    statements_under k o (statement_before s rest) d r = both D X (statement_code k s d) _
        (statement_under k o s d (omega (arith, r))) (statements_under k o rest d (omega (arith, r)))

    elements_under : (k : Scope) → OpenedUnder D k.opened → (elements : Elements) (d line : ℕ) → Room D X d 0
        (elements_extent elements) → d < D → Under D X (elements_code k elements d line)
    elements_under k o no_element d line r h = (tt, tt)
    elements_under k o (element_before constants s rest) d line r h =
        three D X (tests_code constants d (suc (length (statement_code k s d)))) _ _
        (tests_under D X constants d (suc (length (statement_code k s d))) h)
        (statement_under k o s d (omega (arith, r))) (tt, elements_under k o rest d line (omega (arith, r)) h)
