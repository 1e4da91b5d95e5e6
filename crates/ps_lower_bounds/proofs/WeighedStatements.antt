-- The numbers that arise with statements, and with a routine of a program within the limits.
use Rattle.std.proofs.Common.{◌≡◌, ℕ, zero, suc, ◌+◌, ◌*◌, ◌<◌, ◌≤◌, max, Bool, true, ◌||◌, List, [], ◌∷◌, ◌++◌}
use Rattle.std.proofs.Common.{Option, Some, None, length, get_or, refl, subst, arith}
use Rattle.ps_tree.specs.Types.{DataType}
use Rattle.ps_tree.specs.Sizes.{value_count}
use Rattle.ps_tree.specs.Counts.{is_within_limits, is_routine_within_limits, routine_extent, places_extent}
use Rattle.ps_tree.specs.Counts.{read_extent, reads_extent, width_extent, write_extent, writes_extent}
use Rattle.ps_tree.specs.Counts.{statement_extent, statements_extent, elements_extent}
use Rattle.ps_tree.specs.Tree.{Place, ReadVariable, ReadChar, ReadInteger, Width, DefaultWidth, GivenWidth}
use Rattle.ps_tree.specs.Tree.{WriteParameter, WriteInteger, WriteChar, WriteBoolean, WriteText, Statement, Empty}
use Rattle.ps_tree.specs.Tree.{Assign, AssignSet, AssignStructure, CallProcedure, CallFormalProcedure, Compound, If}
use Rattle.ps_tree.specs.Tree.{IfElse, Case, While, Repeat, For, With, New, Pack, Unpack, Read, Readln, Write, Writeln}
use Rattle.ps_tree.specs.Tree.{Statements, no_statement, statement_before, Elements, no_element, element_before}
use Rattle.ps_tree.specs.Tree.{Routine, Program, no_routine, routine_at, domain_at}
use Rattle.ps_meaning.specs.Expressions.{index_of}
use Rattle.tac_code.specs.Meaning.{size}
use Rattle.ps_lower_layout.specs.Shapes.{Shape, shape_of, word_count, component_bytes, Whole}
use Rattle.ps_lower_layout.specs.Frames.{kinds_of, listed_kinds, result_kinds, variable_kinds, words_of_all}
use Rattle.ps_lower_code.specs.Programs.{tac_of}
use Rattle.ps_lower_code.specs.Routines.{count_parameters, scope_of}
use Rattle.ps_lower_code.specs.Scopes.{Scope, held}
use Rattle.ps_lower_code.specs.Calling.{places_call, expr_calls, statement_calls}
use Rattle.ps_lower_code.specs.Values.{literal_of, text_length, structure_bytes, place_temporary, place_site}
use Rattle.ps_lower_code.specs.Statements.{within_site, with_scope, with_depth, body_depth}
use Rattle.ps_lower_layout.specs.Shapes.{PointerShape, SetShape}
use Rattle.ps_lower_layout.specs.Frames.{Closure}
use Rattle.ps_lower_code.specs.Fits.{OpenedFit, WidthFits, WriteFits, WritesFit, ReadFits, ReadsFit, StatementFits}
use Rattle.ps_lower_code.specs.Fits.{StatementsFit, ElementsFit}
use Rattle.ps_lower_bounds.specs.Forms.{IsSmall, VariablesHaveFirst, ResultHasFirst, RoutineFormed, RoutinesFormed}
use Rattle.ps_lower_bounds.specs.Forms.{ProgramFormed}
use Rattle.ps_lower_bounds.specs.Weights.{read_weight, reads_weight, width_weight, write_weight, writes_weight}
use Rattle.ps_lower_bounds.specs.Weights.{with_weight, part_weight, statement_weight, statements_weight}
use Rattle.ps_lower_bounds.specs.Weights.{elements_weight, firsts_weight, result_weight, begin_weight, AreLight}
use Rattle.ps_lower_bounds.proofs.Narrow.{component_most, SitesReach, Framed, entry_most}
use Rattle.ps_lower_bounds.proofs.NarrowValues.{place_reach}
use Rattle.ps_lower_bounds.proofs.NarrowStatements.{with_narrow}
use Rattle.ps_lower_bounds.proofs.Lists.{Each}
use Rattle.ps_lower_bounds.proofs.Counts.{Few, HeadingFew, ProgramFew, program_few}
use Rattle.ps_lower_bounds.proofs.Few.{IsPart, components_there, kind_few, place_few, contents_of, text_small}
use Rattle.ps_lower_bounds.proofs.Few.{contents_small, opened_few, pack_few, unpack_few, with_fits}
use Rattle.ps_lower_bounds.proofs.Offsets.{program_framed, routine_limits, limits_at, routines_part}
use Rattle.ps_lower_bounds.proofs.Cells.{words_both, entries_words}
use Rattle.ps_lower_bounds.proofs.Routines.{sizes_bounded, parameters_most}
use Rattle.ps_lower_bounds.proofs.Nodes.{place_node}
use Rattle.ps_lower_bounds.proofs.Weighed.{Light, larger, no_excess, asked, first_light, place_light, expr_light}
use Rattle.ps_lower_bounds.proofs.Weighed.{set_light, structure_light, arguments_light}

module _ (k : Scope) (b : Framed k.program) (os : List Shape) (o : SitesReach k.opened os)
    (program : ProgramFew k.program) (opened : Each Few os) where
  read_light : (v : ReadVariable) → ReadFits k os v → Light (read_weight k v)
      (read_extent v)
  unfolding read_extent
  read_light (ReadChar p low high line) f = let h = place_light k b os o program opened p f.0 f.1 in omega
      (arith, h)
  read_light (ReadInteger p low high line) f = let h = place_light k b os o program opened p f.0 f.1 in omega
      (arith, h)

  reads_light : (list : List ReadVariable) → ReadsFit k os list → Light
      (reads_weight k list) (reads_extent list)
  unfolding reads_extent
  reads_light [] f = omega arith
  reads_light (v ∷ rest) f = let h = read_light v f.0 in let w = reads_light rest f.1 in omega (arith, h, w)

  width_light : (width : Width) → WidthFits k os width → Light (width_weight k width)
      (width_extent width)
  unfolding width_extent
  width_light DefaultWidth f = omega arith
  width_light (GivenWidth e line) f = expr_light k b os o program opened e _ f.0

  write_light : (p : WriteParameter) → WriteFits k os p → Light (write_weight k p)
      (write_extent p)
  unfolding write_extent
  write_light (WriteInteger e width) f = let h = expr_light k b os o program opened e _ f.0
      in let w = width_light width f.1 in omega (arith, h, w)
  write_light (WriteChar e width) f = let h = expr_light k b os o program opened e _ f.0
      in let w = width_light width f.1 in omega (arith, h, w)
  write_light (WriteBoolean e width) f = let h = expr_light k b os o program opened e _ f.0
      in let w = width_light width f.1 in omega (arith, h, w)
  write_light (WriteText e width) f =
      let h = structure_light k b os o program opened e _ (contents_of k os e f.0).1 in let w = width_light width f.1
      in let x = no_excess (text_length e) (text_small k program os opened e f.0) in omega (arith, h, w, x)

  writes_light : (list : List WriteParameter) → WritesFit k os list → Light
      (writes_weight k list) (writes_extent list)
  unfolding writes_extent
  writes_light [] f = omega arith
  writes_light (p ∷ rest) f = let h = write_light p f.0 in let w = writes_light rest f.1 in omega
      (arith, h, w)

  part_light : (whole part : DataType) (width : ℕ) → IsPart whole part → IsSmall (value_count (index_of part) * width)
      → part_weight whole part width ≡ 0
  part_light whole part width p l =
      let x = no_excess (value_count (index_of part)) p.2 in
      let y = no_excess (value_count (index_of part) * width) l in
      let z = asked _ p.1 in
      omega (arith, x, y, z)

-- ---- `with`

places_nodes : (places : List Place) → length places ≤ (places_extent places).nodes
unfolding places_extent
places_nodes [] = omega arith
places_nodes (p ∷ rest) = let n = place_node p in let w = places_nodes rest in omega (arith, n, w)

with_light : (k : Scope) (b : Framed k.program) (os : List Shape) (o : SitesReach k.opened os)
    (program : ProgramFew k.program) (opened : Each Few os) (places : List Place) (c : Bool) (d : ℕ)
    (os' : List Shape) → OpenedFit k os places os'
    → Light (8 * length places + with_weight k places c d) (places_extent places)
unfolding places_extent
with_light k b os o program opened [] c d os' f = omega arith
with_light k b os o program opened (p ∷ rest) c d os' f =
    let s = place_site k p (held c d) in
    let h = place_light k b os o program opened p (Whole f.0) f.1 in
    let n = place_node p in
    let m = places_nodes rest in
    let w = with_light (within_site k s) b (f.0 ∷ os)
    (place_reach k b os o p (held c d) (Whole f.0) f.1, o) program
    (place_few k program os opened p (Whole f.0) f.1, opened) rest c
    (suc (place_temporary p (held c d))) os' f.2 in
    omega (arith, h, n, m, w)

with_program : (k : Scope) (places : List Place) (c : Bool) (d : ℕ) → k.program ≡ (with_scope k places c d).program
with_program k [] c d = refl
with_program k (p ∷ rest) c d = with_program (within_site k (place_site k p (held c d))) rest c
    (suc (place_temporary p (held c d)))

-- ---- statements

mutual
  unfolding statement_extent statements_extent elements_extent

  statement_light : (k : Scope) (b : Framed k.program) (os : List Shape) (o : SitesReach k.opened os)
      (program : ProgramFew k.program) (opened : Each Few os) → (s : Statement) (d : ℕ) → StatementFits k os s
      → Light (statement_weight k s d) (statement_extent s)
  statement_light k b os o program opened Empty d f = omega arith
  statement_light k b os o program opened (Assign p range e line) d f =
      let h = place_light k b os o program opened p f.0 f.1 in let w = expr_light k b os o program opened e _ f.3.2
      in omega (arith, h, w)
  statement_light k b os o program opened (AssignSet p low high e line) d f =
      let h = place_light k b os o program opened p (Whole SetShape) f.0 in
      let w = set_light k b os o program opened e f.1 in omega (arith, h, w)
  statement_light k b os o program opened (AssignStructure p e) d f =
      let h = place_light k b os o program opened p (Whole f.0) f.1 in
      let w = structure_light k b os o program opened e f.0 f.2 in
      let m = contents_small k program os opened e f.0 f.2 (place_few k program os opened p (Whole f.0) f.1) in
      let x = no_excess (structure_bytes e) m in omega (arith, h, w, x)
  statement_light k b os o program opened (CallProcedure r up arguments line) d f =
      let h = arguments_light k b os o program opened arguments _ f.1 (program.routines r).heading.1 in omega (arith, h)
  statement_light k b os o program opened (CallFormalProcedure up index arguments line) d f =
      let few : HeadingFew f.1.0 = kind_few k program up index (Closure f.1.0 f.1.1.0) f.1.1.1 in
      let h = arguments_light k b os o program opened arguments _ f.1.1.2 few.1 in
      let l = entry_most k b up index in omega (arith, h, l)
  statement_light k b os o program opened (Compound body) d f = let h = statements_light k b os o program opened
      body d f in omega (arith, h)
  statement_light k b os o program opened (If e s) d f =
      let h = expr_light k b os o program opened e _ f.0
      in let w = statement_light k b os o program opened s d f.1 in omega (arith, h, w)
  statement_light k b os o program opened (IfElse e s t) d f =
      let h = expr_light k b os o program opened e _ f.0
      in let w = statement_light k b os o program opened s d f.1
      in let y = statement_light k b os o program opened t d f.2 in omega (arith, h, w, y)
  statement_light k b os o program opened (Case e elements line) d f =
      let h = expr_light k b os o program opened e _ f.0
      in let w = elements_light k b os o program opened elements d f.1 in omega (arith, h, w)
  statement_light k b os o program opened (While e s) d f =
      let h = expr_light k b os o program opened e _ f.0
      in let w = statement_light k b os o program opened s d f.1 in omega (arith, h, w)
  statement_light k b os o program opened (Repeat body e) d f =
      let h = expr_light k b os o program opened e _ f.1
      in let w = statements_light k b os o program opened body d f.0 in omega (arith, h, w)
  statement_light k b os o program opened (For variable low high a from_line direction e to_line s) d f =
      let h = expr_light k b os o program opened a _ f.1 in let w = expr_light k b os o program opened e _ f.2 in
      let y = statement_light k b os o program opened s
      (body_depth (literal_of e) d (held (statement_calls s) (suc (held (expr_calls e) d)))) f.3 in
      omega (arith, h, w, y)
  statement_light k b os o program opened (With places s) d f =
      let c = statement_calls s || places_call places in
      let u = with_narrow k b os o places c d f.0 f.1 in
      let h = with_light k b os o program opened places c d f.0 f.1 in
      let n = places_nodes places in
      let w = statement_light (with_scope k places c d) u.1 f.0 u.2
      (subst ProgramFew (with_program k places c d) program) (opened_few k program os places f.0 opened f.1) s
      (with_depth places c d)
      (with_fits k places c d f.0 s f.2) in
      omega (arith, h, n, w)
  statement_light k b os o program opened (New p pointer line) d f =
      let h = place_light k b os o program opened p (Whole (PointerShape pointer)) f.0 in
      let w = first_light (shape_of (domain_at k.program pointer)) f.2 in
      let l = b.domains pointer in omega (arith, h, w, l)
  statement_light k b os o program opened (Pack p from_type e line q to_type) d f =
      let h = place_light k b os o program opened p (Whole (shape_of from_type)) f.4 in
      let w = expr_light k b os o program opened e _ f.5 in
      let y = place_light k b os o program opened q (Whole (shape_of to_type)) f.6 in
      let r = place_reach k b os o p 0 (Whole (shape_of from_type)) f.4 in
      let m = component_most from_type (components_there from_type f.3) in
      let g = pack_few k program os opened p from_type e line q to_type f in
      let z = part_light k b os o program opened from_type to_type (component_bytes (shape_of from_type)) g.0 g.1 in
      omega (arith, h, w, y, r, m, z)
  statement_light k b os o program opened (Unpack p from_type q to_type e line) d f =
      let h = place_light k b os o program opened p (Whole (shape_of from_type)) f.4 in
      let y = place_light k b os o program opened q (Whole (shape_of to_type)) f.5 in
      let w = expr_light k b os o program opened e _ f.6 in
      let r = place_reach k b os o q 0 (Whole (shape_of to_type)) f.5 in
      let m = component_most to_type (components_there to_type f.3) in
      let g = unpack_few k program os opened p from_type q to_type e line f in
      let z = part_light k b os o program opened to_type from_type (component_bytes (shape_of from_type)) g.0 g.1 in
      omega (arith, h, w, y, r, m, z)
  statement_light k b os o program opened (Read variables) d f = let h = reads_light k b os o program opened
      variables f.1 in omega (arith, h)
  statement_light k b os o program opened (Readln variables line) d f = let h = reads_light k b os o program opened
      variables f.1 in omega (arith, h)
  statement_light k b os o program opened (Write parameters) d f = let h = writes_light k b os o program opened
      parameters f in omega (arith, h)
  statement_light k b os o program opened (Writeln parameters) d f = let h = writes_light k b os o program opened
      parameters f in omega (arith, h)

  statements_light : (k : Scope) (b : Framed k.program) (os : List Shape) (o : SitesReach k.opened os)
      (program : ProgramFew k.program) (opened : Each Few os) → (list : Statements) (d : ℕ) → StatementsFit k os list
      → Light (statements_weight k list d) (statements_extent list)
  statements_light k b os o program opened no_statement d f = omega arith
  statements_light k b os o program opened (statement_before s rest) d f =
      let h = statement_light k b os o program opened s d f.0
      in let w = statements_light k b os o program opened rest d f.1 in omega (arith, h, w)

  elements_light : (k : Scope) (b : Framed k.program) (os : List Shape) (o : SitesReach k.opened os)
      (program : ProgramFew k.program) (opened : Each Few os) → (elements : Elements) (d : ℕ)
      → ElementsFit k os elements
      → Light (elements_weight k elements d) (elements_extent elements)
  elements_light k b os o program opened no_element d f = omega arith
  elements_light k b os o program opened (element_before constants s rest) d f =
      let h = statement_light k b os o program opened s d f.0
      in let w = elements_light k b os o program opened rest d f.1 in omega (arith, h, w)

-- ---- routines

formed_at : (program : Program) (list : List Routine) (n : ℕ) → RoutinesFormed program list → n < length list
    → RoutineFormed program (get_or list n no_routine)
formed_at program [] n h l = absurd (omega (arith, l))
formed_at program (r ∷ list) zero h l = h.0
formed_at program (r ∷ list) (suc n) h l = formed_at program list n h.1 (omega (arith, l))

body_in : (r : Routine) → is_routine_within_limits r ≡ true → 128 * (statements_extent r.body).nodes + 4 *
    (statements_extent r.body).taken ≤ 900000000
unfolding routine_extent
body_in r e = let l = routine_limits r e in let cells = l.0 in let nodes = l.1 in omega (arith, cells, nodes)

firsts_light : (p : ℕ) (types : List DataType) → VariablesHaveFirst types → firsts_weight p types ≤ 4 *
    (p + words_of_all (variable_kinds types))
firsts_light p [] h = omega arith
firsts_light p (type ∷ rest) h =
    let a = first_light (shape_of type) h.0 in
    let w = firsts_light (p + word_count (shape_of type)) rest h.1 in
    omega (arith, a, w)

result_light : (result : Option DataType) → ResultHasFirst result → result_weight result ≤ 4 *
    (1 + words_of_all (result_kinds result))
result_light None h = omega arith
result_light (Some type) h = let a = first_light (shape_of type) h in omega (arith, a)

begin_light : (r : Routine) → is_routine_within_limits r ≡ true → ResultHasFirst r.result
    → VariablesHaveFirst r.variables → begin_weight r ≤ 10000000
unfolding routine_extent
begin_light r e h v =
    let l = routine_limits r e in
    let cells = l.0 in
    let a = result_light r.result h in
    let p = 1 + words_of_all (result_kinds r.result) + words_of_all (listed_kinds (kinds_of r.formals)) in
    let w = firsts_light p r.variables v in
    let x = words_both (result_kinds r.result ++ listed_kinds (kinds_of r.formals)) (variable_kinds r.variables) in
    let y = words_both (result_kinds r.result) (listed_kinds (kinds_of r.formals)) in
    let n = entries_words r in
    let c = parameters_most r.formals in
    let nodes = l.1 in
    larger (suc (count_parameters (kinds_of r.formals)))
    (max (result_weight r.result) (firsts_weight p r.variables)) 10000000 (omega (arith, c, nodes))
    (larger (result_weight r.result) (firsts_weight p r.variables) 10000000 (omega (arith, a, n, x, y, cells))
    (omega (arith, w, n, x, y, cells)))

size_light : (program : Program) (r : Routine) → is_routine_within_limits r ≡ true → size (tac_of program r) ≤ 300000000
size_light program r e = let l = routine_limits r e in let cells = l.0 in let nodes = l.1
    in let s = sizes_bounded program r in omega (arith, cells, nodes, s)

pub weights_small : (program : Program) → is_within_limits program ≡ true → ProgramFormed program
    → AreLight program
weights_small program e p number l =
    let r = routine_at program number in
    let within : is_routine_within_limits r ≡ true = limits_at program.routines number (routines_part program e) l in
    let formed = formed_at program program.routines number p.routines l in
    let h = statements_light (scope_of program r) (program_framed program e) [] tt
    (program_few program e) tt r.body 0 formed.body in
    let n = body_in r within in
    let a = begin_light r within formed.result formed.variables in
    let z = size_light program r within in
    larger (size (tac_of program r)) (max (begin_weight r) (statements_weight (scope_of program r) r.body 0)) 1000000000
    (omega (arith, z))
    (larger (begin_weight r) (statements_weight (scope_of program r) r.body 0) 1000000000 (omega (arith, a))
    (omega (arith, h, n)))
