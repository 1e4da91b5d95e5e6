-- The code of statements has small offsets.
use Rattle.std.proofs.Common.{ℕ, suc, Bool, true, false, ◌||◌, List, [], ◌∷◌, ◌++◌, length, pos, None, sym, subst}
use Rattle.std.proofs.Common.{arith}
use Rattle.ps_tree.specs.declared.tree.operators.Range.TheVariants.{Within}
use Rattle.ps_tree.specs.Sizes.{value_count}
use Rattle.ps_tree.specs.Tree.{Place, Expr, ReadVariable, ReadChar, ReadInteger, Width, DefaultWidth, GivenWidth}
use Rattle.ps_tree.specs.Tree.{WriteParameter, WriteInteger, WriteChar, WriteBoolean, WriteText, Statement, Empty}
use Rattle.ps_tree.specs.Tree.{Assign, AssignSet, AssignStructure, CallProcedure, CallFormalProcedure, Compound, If}
use Rattle.ps_tree.specs.Tree.{IfElse, Case, While, Repeat, For, With, New, Pack, Unpack, Read, Readln, Write, Writeln}
use Rattle.ps_tree.specs.Tree.{Statements, no_statement, statement_before, Elements, no_element, element_before}
use Rattle.ps_tree.specs.Tree.{domain_at}
use Rattle.ps_meaning.specs.Expressions.{index_of}
use Rattle.tac_code.specs.declared.code.Base.TheVariants as base
use Rattle.tac_code.specs.declared.code.Instruction.TheVariants as i
use Rattle.ps_lower_layout.specs.Shapes.{Shape, shape_of, component_bytes, Whole}
use Rattle.ps_lower_layout.specs.Frames.{entry_offset}
use Rattle.ps_lower_code.specs.Scopes.{even_from, odd_from, held, kept, beside, greatest, check_code, operand_of}
use Rattle.ps_lower_code.specs.Scopes.{Scope, routine_up}
use Rattle.ps_lower_code.specs.Calling.{places_call, expr_calls, structure_calls, width_calls, statement_calls}
use Rattle.ps_lower_code.specs.Values.{literal_of, finish, is_byte, gives_byte, is_byte_array, text_length}
use Rattle.ps_lower_code.specs.Values.{structure_bytes, arguments_end, place_temporary, place_site, place_code}
use Rattle.ps_lower_code.specs.Values.{front_code, structure_code, arguments_code}
use Rattle.ps_lower_code.specs.Statements.{expr_code, read_code, reads_code, width_code, write_code, writes_code}
use Rattle.ps_lower_code.specs.Statements.{within_site, with_code, with_scope, with_depth, tests_code, body_depth}
use Rattle.ps_lower_code.specs.Statements.{statement_code, statements_code, elements_code}
use Rattle.ps_lower_layout.specs.Shapes.{PointerShape, SetShape}
use Rattle.ps_lower_layout.specs.Paths.{Sort}
use Rattle.ps_lower_code.specs.Fits.{ExprFits, OpenedFit, WidthFits, WriteFits, WritesFit, ReadFits, ReadsFit}
use Rattle.ps_lower_code.specs.Fits.{StatementFits, StatementsFit, ElementsFit}
use Rattle.ps_lower_bounds.proofs.Few.{components_there, contents_of, contents_bytes, with_fits}
use Rattle.ps_lower_bounds.proofs.Narrow.{Narrow, both, three, four, five, six, unknown, component_most, SitesReach}
use Rattle.ps_lower_bounds.proofs.Narrow.{Framed, link_narrow, formal_narrow, entry_most, store_narrow, site_narrow}
use Rattle.ps_lower_bounds.proofs.Narrow.{kept_narrow}
use Rattle.ps_lower_bounds.proofs.NarrowValues.{range_narrow, check_narrow, fitting_narrow, operand_check_narrow}
use Rattle.ps_lower_bounds.proofs.NarrowValues.{set_check_narrow, finished, place_reach, place_most, place_narrow}
use Rattle.ps_lower_bounds.proofs.NarrowValues.{front_narrow, set_narrow, structure_narrow, arguments_narrow}
use Rattle.ps_lower_bounds.proofs.NarrowFirsts.{first_narrow, tests_narrow, room_narrow, for_narrow, components_narrow}

module _ (k : Scope) (b : Framed k.program) (os : List Shape) (o : SitesReach k.opened os) where
  expr_narrow : (e : Expr) (sort : Sort) (d : ℕ) → ExprFits k os e sort → Narrow (expr_code k e d 0)
  expr_narrow e sort d f = finished k b os o e d 0 (front_narrow k b os o e _ d 0 f)

  read_narrow : (v : ReadVariable) (d : ℕ) → ReadFits k os v → Narrow (read_code k v d)
  read_narrow (ReadChar p low high line) d f =
      let t = even_from (suc (odd_from d)) in let l = b.input in
      four (place_code k p (odd_from d) 0) _ _ _ (place_narrow k b os o p (odd_from d) 0 f.0 f.1) (omega (arith, l))
      (tt, (tt, fitting_narrow true None t (Within low high) line))
      (store_narrow (is_byte p) (place_site k p (odd_from d)) t (place_most k b os o p (odd_from d) f.0 f.1))
  read_narrow (ReadInteger p low high line) d f =
      let t = even_from (suc (odd_from d)) in let l = b.input in
      four (place_code k p (odd_from d) 0) _ _ _ (place_narrow k b os o p (odd_from d) 0 f.0 f.1) (omega (arith, l))
      ((tt, tt), (tt, (tt, (tt, (tt, (tt, range_narrow t low high 4 line))))))
      (store_narrow (is_byte p) (place_site k p (odd_from d)) t (place_most k b os o p (odd_from d) f.0 f.1))

  reads_narrow : (list : List ReadVariable) (d : ℕ) → ReadsFit k os list → Narrow (reads_code k list d)
  reads_narrow [] d f = tt
  reads_narrow (v ∷ rest) d f = both (read_code k v d) _ (read_narrow v d f.0) (reads_narrow rest d f.1)

  width_narrow : (width : Width) (n t : ℕ) → WidthFits k os width → Narrow (width_code k width n t)
  width_narrow DefaultWidth n t f = (tt, tt)
  width_narrow (GivenWidth e line) n t f = both (front_code k e t 0 ++ finish e t) _ (expr_narrow e _ t f.0)
      (check_narrow (literal_of e) t (pos 1) greatest 11 line)

  write_narrow : (p : WriteParameter) (d : ℕ) → WriteFits k os p → Narrow (write_code k p d)
  write_narrow (WriteInteger e width) d f =
      let c = held (width_calls width) d in
      three (front_code k e c 0 ++ finish e c) _ _ (expr_narrow e _ c f.0)
      (width_narrow width 11 (even_from (suc c)) f.1)
      (tt, tt)
  write_narrow (WriteChar e width) d f =
      let c = held (width_calls width) d in
      three (front_code k e c 0 ++ finish e c) _ _ (expr_narrow e _ c f.0)
      (width_narrow width 1 (even_from (suc c)) f.1)
      (tt, tt)
  write_narrow (WriteBoolean e width) d f =
      let c = held (width_calls width) d in
      four (front_code k e c 0 ++ finish e c) _ _ _ (expr_narrow e _ c f.0)
      (width_narrow width 5 (even_from (suc c)) f.1)
      (tt, (tt, (tt, (tt, (tt, (tt, tt)))))) (tt, tt)
  write_narrow (WriteText e width) d f =
      let c = held (width_calls width) d in
      three (structure_code k e c 0) _ _ (structure_narrow k b os o e _ c 0 (contents_of k os e f.0).1)
      (width_narrow width (text_length e) (even_from (suc c)) f.1) (tt, (tt, tt))

  writes_narrow : (list : List WriteParameter) (d : ℕ) → WritesFit k os list → Narrow (writes_code k list d)
  writes_narrow [] d f = tt
  writes_narrow (p ∷ rest) d f = both (write_code k p d) _ (write_narrow p d f.0) (writes_narrow rest d f.1)

-- ---- `with`

pub with_narrow : (k : Scope) → Framed k.program → (os : List Shape) → SitesReach k.opened os → (places : List Place)
    (c : Bool) (d : ℕ) (os' : List Shape) → OpenedFit k os places os'
    → Narrow (with_code k places c d) × Framed (with_scope k places c d).program × SitesReach
    (with_scope k places c d).opened os'
with_narrow k b os o [] c d os' f = (tt, b, subst (SitesReach k.opened) (sym f) o)
with_narrow k b os o (p ∷ rest) c d os' f =
    let s = place_site k p (held c d) in
    let u = with_narrow (within_site k s) b (f.0 ∷ os) (place_reach k b os o p (held c d) (Whole f.0) f.1, o) rest c
    (suc (place_temporary p (held c d))) os' f.2 in
    (both (place_code k p (held c d) 0) _ (place_narrow k b os o p (held c d) 0 (Whole f.0) f.1) u.0, u.1, u.2)

-- ---- statements

mutual
  pub statement_narrow : (k : Scope) (b : Framed k.program) (os : List Shape) (o : SitesReach k.opened os)
      (s : Statement) (d : ℕ) → StatementFits k os s → Narrow (statement_code k s d)
  statement_narrow k b os o Empty d f = tt
  statement_narrow k b os o (Assign p range e line) d f =
      let c = kept (expr_calls e) d in let t = even_from (suc (place_temporary p c)) in
      four (place_code k p c 0) _ _ _ (place_narrow k b os o p c 0 f.0 f.1) (expr_narrow k b os o e _ t f.3.2)
      (fitting_narrow (gives_byte e) (literal_of e) t range line)
      (store_narrow (is_byte p) (place_site k p c) t (place_most k b os o p c f.0 f.1))
  statement_narrow k b os o (AssignSet p low high e line) d f =
      let c = odd_from d in let t = even_from (suc c) in
      five (place_code k p c 0) _ _ _ _ (place_narrow k b os o p c 0 (Whole SetShape) f.0)
      (set_narrow k b os o e (suc c) 0 f.1)
      (set_check_narrow t 0 low high line)
      (site_narrow t (place_site k p c) 32 (place_most k b os o p c (Whole SetShape) f.0) (omega arith))
      (kept_narrow 0 t 0 (beside t) 8 (omega arith))
  statement_narrow k b os o (AssignStructure p e) d f =
      let c = held (structure_calls e) d in let t = even_from (suc (place_temporary p c)) in
      let l = place_reach k b os o p c (Whole f.0) f.1 in let m = contents_bytes k os e f.0 f.2 in
      four (place_code k p c 0) _ _ _ (place_narrow k b os o p c 0 (Whole f.0) f.1)
      (structure_narrow k b os o e f.0 t 0 f.2)
      (site_narrow (beside t) (place_site k p c) (structure_bytes e) (omega (arith, l)) (omega (arith, l, m)))
      (tt, (tt, tt))
  statement_narrow k b os o (CallProcedure routine up arguments line) d f =
      three (arguments_code k arguments d 0) _ _ (arguments_narrow k b os o arguments _ d 0 f.1)
      (link_narrow k (even_from (arguments_end arguments d)) up) (tt, tt)
  statement_narrow k b os o (CallFormalProcedure up index arguments line) d f =
      three (arguments_code k arguments d 0) _ _ (arguments_narrow k b os o arguments _ d 0 f.1.1.2)
      (formal_narrow k b (even_from (arguments_end arguments d)) up index) (tt, tt)
  statement_narrow k b os o (Compound body) d f = statements_narrow k b os o body d f
  statement_narrow k b os o (If e s) d f = both (front_code k e d 0) _ (front_narrow k b os o e _ d 0 f.0)
      (tt, statement_narrow k b os o s d f.1)
  statement_narrow k b os o (IfElse e s t) d f =
      three (front_code k e d 0) _ _ (front_narrow k b os o e _ d 0 f.0) (tt, statement_narrow k b os o s d f.1)
      (tt, statement_narrow k b os o t d f.2)
  statement_narrow k b os o (Case e elements line) d f = both (front_code k e d 0 ++ finish e d) _
      (expr_narrow k b os o e _ d f.0) (elements_narrow k b os o elements d line f.1)
  statement_narrow k b os o (While e s) d f =
      three (i.Jump (length (statement_code k s d)) ∷ statement_code k s d) _ _ (tt, statement_narrow k b os o s d f.1)
      (front_narrow k b os o e _ d 0 f.0) (tt, tt)
  statement_narrow k b os o (Repeat body e) d f =
      three (statements_code k body d) _ _ (statements_narrow k b os o body d f.0) (front_narrow k b os o e _ d 0 f.1)
      (tt, tt)
  statement_narrow k b os o (For variable low high a from_line direction e to_line s) d f =
      let c = held (expr_calls e) d in let t = held (statement_calls s) (suc c) in let l = entry_most k b 0 variable in
      three (front_code k a c 0 ++ finish a c) _ _ (expr_narrow k b os o a _ c f.1)
      (unknown (literal_of e) _ (expr_narrow k b os o e _ t f.2))
      (for_narrow direction c (operand_of (literal_of e) t) (entry_offset (routine_up k 0) variable)
      (even_from (body_depth (literal_of e) d t)) _ _ (omega (arith, l))
      (both (check_code (literal_of a) c low high 4 from_line) _ (check_narrow (literal_of a) c low high 4 from_line)
      (operand_check_narrow (literal_of e) t low high 4 to_line))
      (statement_narrow k b os o s (body_depth (literal_of e) d t) f.3))
  statement_narrow k b os o (With places s) d f =
      let c = statement_calls s || places_call places in let u = with_narrow k b os o places c d f.0 f.1 in
      both (with_code k places c d) _ u.0 (statement_narrow (with_scope k places c d) u.1 f.0 u.2 s
      (with_depth places c d) (with_fits k places c d f.0 s f.2))
  statement_narrow k b os o (New p pointer line) d f =
      let c = odd_from d in let t = odd_from (suc c) in let l = b.domains pointer in
      three (place_code k p c 0) _ _ (place_narrow k b os o p c 0 (Whole (PointerShape pointer)) f.0) (
        tt,
        first_narrow k (base.Temporary t) (even_from (suc t)) 0 (shape_of (domain_at k.program pointer))
            (omega (arith, l)),
      )
      (store_narrow (is_byte p) (place_site k p c) t (place_most k b os o p c (Whole (PointerShape pointer)) f.0))
  statement_narrow k b os o (Pack p from_type e line q to_type) d f =
      let a = odd_from d in let h = odd_from (suc a) in let c = odd_from (suc h) in let t = even_from (suc c) in
      let r = place_reach k b os o p a (Whole (shape_of from_type)) f.4 in
      let m = component_most from_type (components_there from_type f.3) in
      six (place_code k p a 0) _ _ _ _ _ (place_narrow k b os o p a 0 (Whole (shape_of from_type)) f.4)
      (expr_narrow k b os o e _ h f.5)
      (omega (arith, r, m), (omega (arith, r), place_narrow k b os o q c 0 (Whole (shape_of to_type)) f.6))
      (room_narrow from_type to_type h line)
      (site_narrow c (place_site k q c) 0 (place_most k b os o q c (Whole (shape_of to_type)) f.6) (omega arith))
      (components_narrow k true a c (value_count (index_of to_type)) (is_byte_array (shape_of from_type))
      (is_byte_array (shape_of to_type)) (component_bytes (shape_of from_type)) t)
  statement_narrow k b os o (Unpack p from_type q to_type e line) d f =
      let a = odd_from d in let h = odd_from (suc a) in let c = odd_from (suc h) in let t = even_from (suc c) in
      let r = place_reach k b os o q h (Whole (shape_of to_type)) f.5 in
      let m = component_most to_type (components_there to_type f.3) in
      six (place_code k p a 0) _ _ _ _ _ (place_narrow k b os o p a 0 (Whole (shape_of from_type)) f.4)
      (site_narrow a (place_site k p a) 0 (place_most k b os o p a (Whole (shape_of from_type)) f.4) (omega arith))
      (place_narrow k b os o q h 0 (Whole (shape_of to_type)) f.5) (expr_narrow k b os o e _ c f.6)
      (omega (arith, r, m), (omega (arith, r), room_narrow to_type from_type c line))
      (components_narrow k false a h (value_count (index_of from_type)) (is_byte_array (shape_of from_type))
      (is_byte_array (shape_of to_type)) (component_bytes (shape_of from_type)) t)
  statement_narrow k b os o (Read variables) d f = reads_narrow k b os o variables d f.1
  statement_narrow k b os o (Readln variables line) d f = let l = b.input in three (reads_code k variables d) _ _
      (reads_narrow k b os o variables d f.1) (omega (arith, l)) (tt, (tt, tt))
  statement_narrow k b os o (Write parameters) d f = writes_narrow k b os o parameters d f
  statement_narrow k b os o (Writeln parameters) d f = both (writes_code k parameters d) _
      (writes_narrow k b os o parameters d f) (tt, (tt, tt))

  pub statements_narrow : (k : Scope) (b : Framed k.program) (os : List Shape) (o : SitesReach k.opened os)
      (list : Statements) (d : ℕ) → StatementsFit k os list → Narrow (statements_code k list d)
  statements_narrow k b os o no_statement d f = tt
  statements_narrow k b os o (statement_before s rest) d f = both (statement_code k s d) _
      (statement_narrow k b os o s d f.0) (statements_narrow k b os o rest d f.1)

  elements_narrow : (k : Scope) (b : Framed k.program) (os : List Shape) (o : SitesReach k.opened os)
      (elements : Elements) (d line : ℕ) → ElementsFit k os elements → Narrow (elements_code k elements d line)
  elements_narrow k b os o no_element d line f = (tt, tt)
  elements_narrow k b os o (element_before constants s rest) d line f =
      three (tests_code constants d (suc (length (statement_code k s d)))) _ _
      (tests_narrow constants d (suc (length (statement_code k s d)))) (statement_narrow k b os o s d f.0)
      (tt, elements_narrow k b os o rest d line f.1)
