-- Words of the scratch block are addressed by multiples of 4: the code of statements and of routines.
use Rattle.std.proofs.Common.{ℕ, suc, ◌+◌, ◌*◌, ◌/◌, ◌%◌, ◌-◌, ◌||◌, ℤ, pos, Bool, true, false, nat_eq, nat_lt, nat_le}
use Rattle.std.proofs.Common.{List, [], ◌∷◌, Option, Some, None, refl}
use Rattle.ps_tree.specs.declared.tree.operators.Range.TheVariants.{Within}
use Rattle.ps_tree.specs.declared.tree.operators.Direction.{Direction}
use Rattle.ps_tree.specs.Types.{DataType}
use Rattle.ps_tree.specs.Sizes.{value_count}
use Rattle.ps_tree.specs.Tree.{Place, ReadVariable, ReadChar, ReadInteger, Width, DefaultWidth, GivenWidth}
use Rattle.ps_tree.specs.Tree.{WriteParameter, WriteInteger, WriteChar, WriteBoolean, WriteText, Statement, Empty}
use Rattle.ps_tree.specs.Tree.{Assign, AssignSet, AssignStructure, CallProcedure, CallFormalProcedure, Compound, If}
use Rattle.ps_tree.specs.Tree.{IfElse, Case, While, Repeat, For, With, New, Pack, Unpack, Read, Readln, Write, Writeln}
use Rattle.ps_tree.specs.Tree.{Statements, no_statement, statement_before, Elements, no_element, element_before}
use Rattle.ps_tree.specs.Tree.{Routine, Program, domain_at}
use Rattle.tac_code.specs.declared.code.Operand.{Operand}
use Rattle.tac_code.specs.declared.code.Base.{Base}
use Rattle.tac_code.specs.declared.code.Base.TheVariants as base
use Rattle.tac_code.specs.declared.code.Instruction.{Instruction}
use Rattle.tac_code.specs.declared.code.Instruction.TheVariants as i
use Rattle.ps_meaning.specs.Expressions.{index_of}
use Rattle.ps_lower_layout.specs.Shapes.{Shape, NumberShape, PointerShape, SetShape, ByteShape, ArrayShape}
use Rattle.ps_lower_layout.specs.Shapes.{RecordShape, Shapes, no_shape, shape_before, shape_of, word_count, byte_count}
use Rattle.ps_lower_layout.specs.Shapes.{component_bytes}
use Rattle.ps_lower_layout.specs.Frames.{Kind, Own, Reference, Closure, Kinds, no_kind, kind_before, kinds_of}
use Rattle.ps_lower_layout.specs.Frames.{entry_offset, link_offset, is_program_block}
use Rattle.ps_lower_code.specs.Scopes.{held, kept, even_from, beside, greatest, Scope, routine_up, input_site}
use Rattle.ps_lower_code.specs.Calling.{expr_calls, structure_calls, places_call, statement_calls}
use Rattle.ps_lower_code.specs.Values.{literal_of, is_byte, gives_byte, is_byte_array, structure_bytes}
use Rattle.ps_lower_code.specs.Values.{place_temporary, place_site}
use Rattle.ps_lower_code.specs.Statements.{expr_code, spread_code, bytes_code, first_code, fields_code, read_code}
use Rattle.ps_lower_code.specs.Statements.{reads_code, width_code, write_code, writes_code, components_code}
use Rattle.ps_lower_code.specs.Statements.{within_site, with_code, with_scope, with_depth, tests_code, for_code}
use Rattle.ps_lower_code.specs.Statements.{body_depth, room_code, statement_code, statements_code, elements_code}
use Rattle.ps_lower_code.specs.Routines.{parameter_total, result_entries, count_kinds, own_code, parameter_code}
use Rattle.ps_lower_code.specs.Routines.{parameter_words, parameters_code, variables_code, result_code, input_code}
use Rattle.ps_lower_code.specs.Routines.{begin_code, result_end, end_code, scope_of, routine_code}
use Rattle.ps_lower_relation.proofs.Even.{IsEvenly, NotScratch, Even, none, more, both, either, elsewhere, even_range}
use Rattle.ps_lower_relation.proofs.Even.{even_check, even_fitting, even_operand_check, even_unless, even_link}
use Rattle.ps_lower_relation.proofs.Even.{even_formal, even_site, even_kept, even_copy, even_store, ArePlain}
use Rattle.ps_lower_relation.proofs.Even.{place_plain, even_set_check, even_place, even_expr, even_front, even_set}
use Rattle.ps_lower_relation.proofs.Even.{even_structure, even_arguments}

zero_evenly : IsEvenly 0
zero_evenly = (0, refl)

-- ---- first values

module _ (k : Scope) (b : Base) (plain : NotScratch b) where
  even_spread : (t offset n whole : ℕ) → Even (spread_code k b t offset n whole)
  even_spread t offset n whole = either (nat_le whole n) none
      (more (elsewhere b (offset + n) plain) (more (elsewhere b offset plain) (even_copy k _ _ _ (whole - n))))

  even_bytes : (t offset count : ℕ) (first : ℤ) → Even (bytes_code k b t offset count first)
  even_bytes t offset count first =
      both (either (nat_lt count 4) none (more tt
      (more (elsewhere b offset plain) (even_spread t offset 4 (4 * (count / 4))))))
      (either (nat_eq (count % 4) 0) none (more tt (more (elsewhere b (offset + 4 * (count / 4)) plain) none)))

  mutual
    pub even_first : (t offset : ℕ) (shape : Shape) → Even (first_code k b t offset shape)
    even_first t offset (NumberShape first narrow) = more tt (more (elsewhere b offset plain) none)
    even_first t offset (PointerShape pointer) = more tt (more (elsewhere b offset plain) none)
    even_first t offset SetShape = more tt (more (elsewhere b offset plain) (even_spread t offset 4 32))
    even_first t offset (ByteShape count first) = even_bytes t offset count first
    even_first t offset (ArrayShape count shape) = either (nat_eq (count * word_count shape) 0) none
        (both (even_first t offset shape) (even_spread t offset (byte_count shape) (count * byte_count shape)))
    even_first t offset (RecordShape shapes) = even_fields t offset shapes

    even_fields : (t offset : ℕ) (shapes : Shapes) → Even (fields_code k b t offset shapes)
    even_fields t offset no_shape = none
    even_fields t offset (shape_before shape rest) = both (even_first t offset shape)
        (even_fields t (offset + byte_count shape) rest)

-- ---- input and output

module _ (k : Scope) (opened : ArePlain k.opened) where
  even_read : (v : ReadVariable) (d : ℕ) → Even (read_code k v d)
  even_read (ReadChar p low high line) d =
      both (both (both (even_place k opened p _ 0 zero_evenly) (even_site _ (input_site k) 8 tt))
      (more tt (more tt (even_fitting true None _ (Within low high) line))))
      (even_store (is_byte p) (place_site k p (held true d)) _ (place_plain k opened p (held true d)))
  even_read (ReadInteger p low high line) d =
      both (both (both (even_place k opened p _ 0 zero_evenly) (even_site _ (input_site k) 8 tt))
      (more zero_evenly (more tt (more tt (more tt (more tt (more tt (even_range _ low high 4 line))))))))
      (even_store (is_byte p) (place_site k p (held true d)) _ (place_plain k opened p (held true d)))

  even_reads : (vs : List ReadVariable) (d : ℕ) → Even (reads_code k vs d)
  even_reads [] d = none
  even_reads (v ∷ rest) d = both (even_read v d) (even_reads rest d)

  even_width : (width : Width) (n t : ℕ) → Even (width_code k width n t)
  even_width DefaultWidth n t = more tt none
  even_width (GivenWidth e line) n t = both (even_expr k opened e t 0 zero_evenly)
      (even_check (literal_of e) t (pos 1) greatest 11 line)

  even_write : (w : WriteParameter) (d : ℕ) → Even (write_code k w d)
  even_write (WriteInteger e width) d = both (both (even_expr k opened e _ 0 zero_evenly) (even_width width 11 _))
      (more tt none)
  even_write (WriteChar e width) d = both (both (even_expr k opened e _ 0 zero_evenly) (even_width width 1 _))
      (more tt none)
  even_write (WriteBoolean e width) d =
      both (both (both (even_expr k opened e _ 0 zero_evenly) (even_width width 5 _))
      (more tt (more tt (more tt (more tt (more tt (more tt none))))))) (more tt none)
  even_write (WriteText e width) d = both (both (even_structure k opened e _ 0 zero_evenly) (even_width width _ _))
      (more tt (more tt none))

  even_writes : (ps : List WriteParameter) (d : ℕ) → Even (writes_code k ps d)
  even_writes [] d = none
  even_writes (w ∷ rest) d = both (even_write w d) (even_writes rest d)

  even_components : (packing : Bool) (a b n : ℕ) (x y : Bool) (width t : ℕ) → Even
      (components_code k packing a b n x y width t)
  even_components packing a b n true true width t = more tt (more tt none)
  even_components packing a b n false true width t = more tt (more tt none)
  even_components packing a b n true false width t = more tt (more tt none)
  even_components packing a b n false false width t = even_copy k b a t (n * width)

even_with : (k : Scope) → ArePlain k.opened → (places : List Place) (c : Bool) (d : ℕ) → Even (with_code k places c d)
even_with k opened [] c d = none
even_with k opened (p ∷ rest) c d = both (even_place k opened p (held c d) 0 zero_evenly)
    (even_with (within_site k (place_site k p (held c d))) (place_plain k opened p (held c d), opened) rest c
    (suc (place_temporary p (held c d))))

plain_with : (k : Scope) → ArePlain k.opened → (places : List Place) (c : Bool) (d : ℕ) → ArePlain
    (with_scope k places c d).opened
plain_with k opened [] c d = opened
plain_with k opened (p ∷ rest) c d = plain_with (within_site k (place_site k p (held c d)))
    (place_plain k opened p (held c d), opened) rest c (suc (place_temporary p (held c d)))

-- ---- statements

even_tests : (constants : List ℤ) (d past : ℕ) → Even (tests_code constants d past)
even_tests [] d past = more tt none
even_tests (n ∷ []) d past = more tt none
even_tests (n ∷ m ∷ rest) d past = more tt (even_tests (m ∷ rest) d past)

even_for : (direction : Direction) (a : ℕ) (limit : Operand) (offset t : ℕ) (checks body : List Instruction)
    → Even checks → Even body → Even (for_code direction a limit offset t checks body)
even_for direction a limit offset t checks body h q = more tt
    (both h (more tt (more tt (more tt (more tt (both q (more tt (more tt none))))))))

even_room : (whole_type part_type : DataType) (t line : ℕ) → Even (room_code whole_type part_type t line)
even_room whole_type part_type t line = either
    (nat_le (value_count (index_of part_type)) (value_count (index_of whole_type))) (more tt none) (more tt none)

mutual
  even_statement : (k : Scope) → ArePlain k.opened → (s : Statement) (d : ℕ) → Even (statement_code k s d)
  even_statement k o Empty d = none
  even_statement k o (Assign p range e line) d =
      let t = kept (expr_calls e) d in
      both (both (both (even_place k o p t 0 zero_evenly) (even_expr k o e _ 0 zero_evenly))
      (even_fitting (gives_byte e) (literal_of e) _ range line))
      (even_store (is_byte p) (place_site k p t) _ (place_plain k o p t))
  even_statement k o (AssignSet p low high e line) d =
      both (both (both (both (even_place k o p _ 0 zero_evenly) (even_set k o e _ 0 zero_evenly))
      (even_set_check _ 0 low high line)) (even_site _ (place_site k p (held true d)) 32
      (place_plain k o p (held true d)))) (even_kept 0 (even_from (suc (held true d))) 0
      (beside (even_from (suc (held true d)))) 8)
  even_statement k o (AssignStructure p e) d =
      let t = held (structure_calls e) d in both
      (both (both (even_place k o p t 0 zero_evenly) (even_structure k o e _ 0 zero_evenly))
      (even_site _ (place_site k p t) (structure_bytes e) (place_plain k o p t)))
      (even_copy k _ _ _ (structure_bytes e))
  even_statement k o (CallProcedure r up arguments line) d = both
      (both (even_arguments k o arguments d 0 zero_evenly) (even_link k _ up)) (more tt none)
  even_statement k o (CallFormalProcedure up index arguments line) d = both
      (both (even_arguments k o arguments d 0 zero_evenly) (even_formal k _ up index)) (more tt none)
  even_statement k o (Compound body) d = even_statements k o body d
  even_statement k o (If e s) d = both (even_front k o e d 0 zero_evenly) (more tt (even_statement k o s d))
  even_statement k o (IfElse e s t) d = both
      (both (even_front k o e d 0 zero_evenly) (more tt (even_statement k o s d))) (more tt (even_statement k o t d))
  even_statement k o (Case e elements line) d = both (even_expr k o e d 0 zero_evenly)
      (even_elements k o elements d line)
  even_statement k o (While e s) d = both (both (more tt (even_statement k o s d)) (even_front k o e d 0 zero_evenly))
      (more tt none)
  even_statement k o (Repeat body e) d = both (both (even_statements k o body d) (even_front k o e d 0 zero_evenly))
      (more tt none)
  even_statement k o (For variable low high a from_line direction b to_line s) d =
      let first = held (expr_calls b) d in
      let last = held (statement_calls s) (suc first) in
      both (both (even_expr k o a first 0 zero_evenly)
      (even_unless (literal_of b) (expr_code k b last 0) (even_expr k o b last 0 zero_evenly)))
      (even_for direction first _ (entry_offset (routine_up k 0) variable) _ _
      (statement_code k s (body_depth (literal_of b) d last))
      (both (even_check (literal_of a) first low high 4 from_line)
      (even_operand_check (literal_of b) last low high 4 to_line))
      (even_statement k o s (body_depth (literal_of b) d last)))
  even_statement k o (With places s) d =
      let c = statement_calls s || places_call places in
      both (even_with k o places c d) (even_statement (with_scope k places c d) (plain_with k o places c d) s
      (with_depth places c d))
  even_statement k o (New p pointer line) d =
      let t = held true (suc (held true d)) in
      both (both (even_place k o p _ 0 zero_evenly)
      (more tt (even_first k (base.Temporary t) tt (even_from (suc t)) 0 (shape_of (domain_at k.program pointer)))))
      (even_store (is_byte p) (place_site k p (held true d)) t (place_plain k o p (held true d)))
  even_statement k o (Pack p from_type e line q to_type) d =
      let u = held true (suc (held true (suc (held true d)))) in
      both (both (both (both (both (even_place k o p _ 0 zero_evenly) (even_expr k o e _ 0 zero_evenly))
      (more tt (more tt (even_place k o q u 0 zero_evenly)))) (even_room from_type to_type _ line))
      (even_site u (place_site k q u) 0 (place_plain k o q u)))
      (even_components k o true (held true d) u (value_count (index_of to_type)) (is_byte_array (shape_of from_type))
      (is_byte_array (shape_of to_type)) (component_bytes (shape_of from_type)) (even_from (suc u)))
  even_statement k o (Unpack p from_type q to_type e line) d =
      let t = held true d in
      let u = held true (suc t) in
      let v = held true (suc u) in
      both (both (both (both (both (even_place k o p t 0 zero_evenly)
      (even_site t (place_site k p t) 0 (place_plain k o p t))) (even_place k o q u 0 zero_evenly))
      (even_expr k o e v 0 zero_evenly)) (more tt (more tt (even_room to_type from_type v line))))
      (even_components k o false t u (value_count (index_of from_type)) (is_byte_array (shape_of from_type))
      (is_byte_array (shape_of to_type)) (component_bytes (shape_of from_type)) (even_from (suc v)))
  even_statement k o (Read variables) d = even_reads k o variables d
  even_statement k o (Readln variables line) d = both
      (both (even_reads k o variables d) (even_site _ (input_site k) 8 tt)) (more tt (more tt none))
  even_statement k o (Write parameters) d = even_writes k o parameters d
  even_statement k o (Writeln parameters) d = both (even_writes k o parameters d) (more tt (more tt none))

  even_statements : (k : Scope) → ArePlain k.opened → (ss : Statements) (d : ℕ) → Even (statements_code k ss d)
  even_statements k o no_statement d = none
  even_statements k o (statement_before s rest) d = both (even_statement k o s d) (even_statements k o rest d)

  even_elements : (k : Scope) → ArePlain k.opened → (els : Elements) (d line : ℕ) → Even (elements_code k els d line)
  even_elements k o no_element d line = more tt none
  even_elements k o (element_before constants s rest) d line = both
      (both (even_tests constants d _) (even_statement k o s d)) (more tt (even_elements k o rest d line))

-- ---- routines

module _ (k : Scope) (r : Routine) where
  even_own : (shape : Shape) (t offset free : ℕ) → Even (own_code k shape t offset free)
  even_own (NumberShape first narrow) t offset free = more tt none
  even_own (PointerShape pointer) t offset free = more tt none
  even_own SetShape t offset free = more tt (even_copy k _ _ _ 32)
  even_own (ByteShape count first) t offset free = more tt (even_copy k _ _ _ _)
  even_own (ArrayShape count shape) t offset free = more tt (even_copy k _ _ _ _)
  even_own (RecordShape shapes) t offset free = more tt (even_copy k _ _ _ _)

  even_parameter : (kind : Kind) (t offset free : ℕ) → Even (parameter_code k kind t offset free)
  even_parameter (Own shape) t offset free = even_own shape t offset free
  even_parameter (Reference shape) t offset free = more tt none
  even_parameter (Closure kinds result) t offset free = more tt (more tt none)

  even_parameters : (kinds : Kinds) (t index free : ℕ) → Even (parameters_code k r kinds t index free)
  even_parameters no_kind t index free = none
  even_parameters (kind_before kind rest) t index free = both (even_parameter kind t (entry_offset r index) free)
      (even_parameters rest (t + parameter_words kind) (suc index) free)

  even_variables : (types : List DataType) (index free : ℕ) → Even (variables_code k r types index free)
  even_variables [] index free = none
  even_variables (type ∷ rest) index free = both
      (even_first k base.Frame tt free (entry_offset r index) (shape_of type)) (even_variables rest (suc index) free)

  even_result : (result : Option DataType) (free : ℕ) → Even (result_code k r result free)
  even_result None free = none
  even_result (Some type) free = even_first k base.Frame tt free (entry_offset r 0) (shape_of type)

  even_input : (free : ℕ) → Even (input_code r free)
  even_input free = more tt (more tt (more tt (more tt none)))

  even_store_link : Even (i.Store base.Frame (link_offset r) 0 ∷ [])
  even_store_link = more tt none

  even_begin : Even (begin_code k r)
  even_begin =
      let free = parameter_total r in
      both (both (both (either (is_program_block r.chain) (even_input free) even_store_link)
      (even_result r.result free)) (even_parameters (kinds_of r.formals) 1 (result_entries r.result) free))
      (even_variables r.variables (result_entries r.result + count_kinds (kinds_of r.formals)) free)

even_end : (r : Routine) → Even (end_code r)
even_end r = either (is_program_block r.chain) (more tt none) (go r.result)
  where
    go : (result : Option DataType) → Even (result_end r result)
    go None = more tt (more tt none)
    go (Some type) = more tt (more tt none)

pub even_routine : (program : Program) (r : Routine) → Even (routine_code program r)
even_routine program r = both (both (even_begin (scope_of program r) r)
    (even_statements (scope_of program r) tt r.body 0)) (even_end r)
