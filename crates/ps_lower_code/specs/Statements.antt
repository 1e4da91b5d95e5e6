-- The code of statements. Nothing in the scratch block is kept from one to the next.
use Rattle.std.specs.Prelude.{ℕ, zero, suc, ◌+◌, ◌-◌, ◌*◌, ◌/◌, ◌%◌, ℤ, pos, negsuc, ◌+ℤ◌, Bool, true, false, ◌||◌}
use Rattle.std.specs.Prelude.{if◌then◌else◌, nat_le, nat_lt, nat_eq, List, [], ◌∷◌, ◌++◌, length, Option, Some, None}
use Rattle.std.specs.Prelude.{codes}
use Rattle.ps_tree.specs.declared.tree.operators.Range.TheVariants.{Within}
use Rattle.ps_tree.specs.declared.tree.operators.Direction.{Direction}
use Rattle.ps_tree.specs.declared.tree.operators.Direction.TheVariants.{To, Downto}
use Rattle.ps_tree.specs.Types.{DataType}
use Rattle.ps_tree.specs.Sizes.{value_count}
use Rattle.ps_tree.specs.Tree.{Place, Expr, ReadVariable, ReadChar, ReadInteger, Width, DefaultWidth, GivenWidth}
use Rattle.ps_tree.specs.Tree.{WriteParameter, WriteInteger, WriteChar, WriteBoolean, WriteText, Statement, Empty}
use Rattle.ps_tree.specs.Tree.{Assign, AssignSet, AssignStructure, CallProcedure, CallFormalProcedure, Compound, If}
use Rattle.ps_tree.specs.Tree.{IfElse, Case, While, Repeat, For, With, New, Pack, Unpack, Read, Readln, Write, Writeln}
use Rattle.ps_tree.specs.Tree.{Statements, no_statement, statement_before, Elements, no_element, element_before}
use Rattle.ps_tree.specs.Tree.{domain_at}
use Rattle.ps_meaning.specs.Expressions.{index_of}
use Rattle.tac_code.specs.declared.code.Operand.{Operand}
use Rattle.tac_code.specs.declared.code.Operand.TheVariants as operand
use Rattle.tac_code.specs.declared.code.Base.{Base}
use Rattle.tac_code.specs.declared.code.Base.TheVariants as base
use Rattle.tac_code.specs.declared.code.BitOperator.TheVariants as bits
use Rattle.tac_code.specs.declared.code.Relation.{Relation}
use Rattle.tac_code.specs.declared.code.Relation.TheVariants.{Equal, NotEqual, Less, Greater}
use Rattle.tac_code.specs.Numbers.{number_of, natural}
use Rattle.tac_code.specs.declared.code.Instruction.{Instruction}
use Rattle.tac_code.specs.declared.code.Instruction.TheVariants as i
use Rattle.tac_rt.specs.declared.run_time.RunTime.TheVariants.{PackBytes, UnpackBytes, WriteNumber, WriteCharacter}
use Rattle.tac_rt.specs.declared.run_time.RunTime.TheVariants.{WriteString, ReadCharacter, ReadNumber, ReadLine}
use Rattle.ps_lower_layout.specs.Shapes.{Shape, NumberShape, PointerShape, SetShape, ByteShape, ArrayShape}
use Rattle.ps_lower_layout.specs.Shapes.{RecordShape, Shapes, no_shape, shape_before, shape_of, word_count, byte_count}
use Rattle.ps_lower_layout.specs.Shapes.{component_bytes}
use Rattle.ps_lower_layout.specs.Words.{filled}
use Rattle.ps_lower_layout.specs.Frames.{entry_offset}
use Rattle.ps_lower_code.specs.Scopes.{even_from, held, kept, beside, greatest, range_code, check_code, fitting_code}
use Rattle.ps_lower_code.specs.Scopes.{operand_of, operand_check, unless_known, Site, Scope, routine_up, link_code}
use Rattle.ps_lower_code.specs.Scopes.{formal_code, site_code, input_site}
use Rattle.ps_lower_code.specs.Scopes.{helper}
use Rattle.ps_lower_code.specs.Scopes.{words_code, copy_code}
use Rattle.ps_lower_code.specs.Calling.{places_call, expr_calls, structure_calls, width_calls, statement_calls}
use Rattle.ps_lower_code.specs.Values.{literal_of, relation_in, left_in, right_in, opposite, finish, is_byte}
use Rattle.ps_lower_code.specs.Values.{gives_byte, is_byte_array, store_code, text_length, structure_bytes}
use Rattle.ps_lower_code.specs.Values.{arguments_words, arguments_end, place_temporary, place_site, place_code}
use Rattle.ps_lower_code.specs.Values.{front_code, set_code, set_check, structure_code, arguments_code}

-- the value of an expression in d
abbrev pub expr_code : Scope → Expr → (d x : ℕ) → List Instruction
expr_code k e d x = front_code k e d x ++ finish e d

-- ---- first values

abbrev pub bytes_below : ℕ → ℕ → ℕ
bytes_below zero b = 0
bytes_below (suc n) b = b + 256 * bytes_below n b

-- copies of the first n bytes at an offset, after them up to the whole
abbrev pub spread_code : Scope → (from : Base) (t offset n whole : ℕ) → List Instruction
spread_code k b t offset n whole =
    if nat_le whole n then [] else (i.Offset t b (offset + n) 0 ∷ i.Offset (beside t) b offset 0 ∷ copy_code k t
    (beside t) (beside (beside t)) (whole - n))

abbrev pub zero_code : Scope → Base → (t offset whole : ℕ) → List Instruction
zero_code k b t offset whole = i.Literal t (pos 0) ∷ i.Store b offset t ∷ spread_code k b t offset 4 whole

-- the word of n bytes of one value, at most four, lowest first
abbrev pub byte_word : ℕ → ℤ → ℤ
byte_word n b = number_of (bytes_below n (natural b))

-- `count` bytes of one value, padded to whole words
abbrev pub bytes_code : Scope → Base → (t offset count : ℕ) → (first : ℤ) → List Instruction
bytes_code k b t offset count first =
    (if nat_lt count 4 then [] else (i.Literal t (byte_word 4 first) ∷ i.Store b offset t ∷ spread_code k b t offset 4
    (4 * (count / 4))))
    ++ (if nat_eq (count % 4) 0 then [] else (i.Literal t (byte_word (count % 4) first) ∷ i.Store b
    (offset + 4 * (count / 4)) t ∷ []))

-- As long as the text of the type, and not as its cells: the first component is written, and copied.
abbrev mutual
  pub first_code : Scope → Base → (t offset : ℕ) → Shape → List Instruction
  first_code k b t offset (NumberShape first narrow) = i.Literal t first ∷ i.Store b offset t ∷ []
  first_code k b t offset (PointerShape pointer) = i.Literal t (pos 0) ∷ i.Store b offset t ∷ []
  first_code k b t offset SetShape = zero_code k b t offset 32
  first_code k b t offset (ByteShape count first) = bytes_code k b t offset count first
  first_code k b t offset (ArrayShape count shape) =
      if nat_eq (count * word_count shape) 0 then []
      else (first_code k b t offset shape ++ spread_code k b t offset (byte_count shape) (count * byte_count shape))
  first_code k b t offset (RecordShape shapes) = fields_code k b t offset shapes

  pub fields_code : Scope → Base → (t offset : ℕ) → Shapes → List Instruction
  fields_code k b t offset no_shape = []
  fields_code k b t offset (shape_before shape rest) = first_code k b t offset shape ++ fields_code k b t
      (offset + byte_count shape) rest

-- ---- input and output

module _ (k : Scope) where
  abbrev pub read_code : ReadVariable → (d : ℕ) → List Instruction
  read_code (ReadChar p low high line) d =
      place_code k p (held true d) 0 ++ site_code (even_from (suc (held true d))) (input_site k) 8
      ++ helper k ReadCharacter (even_from (suc (held true d)) ∷ []) (even_from (suc (held true d)))
      ∷ i.CheckRange (even_from (suc (held true d))) (pos 0) greatest 9 line
      ∷ fitting_code true None (even_from (suc (held true d))) (Within low high) line
      ++ store_code (is_byte p) (place_site k p (held true d)) (even_from (suc (held true d)))
  read_code (ReadInteger p low high line) d =
      place_code k p (held true d) 0 ++ site_code (even_from (suc (held true d))) (input_site k) 8
      ++ i.Offset (beside (even_from (suc (held true d)))) base.Scratch 0 4
      ∷ helper k ReadNumber (even_from (suc (held true d)) ∷ beside (even_from (suc (held true d))) ∷ [])
      (even_from (suc (held true d)))
      ∷ i.CheckRange (even_from (suc (held true d))) (pos 0) (pos 2) 9 line
      ∷ i.CheckRange (even_from (suc (held true d))) (pos 0) (pos 1) 10 line
      ∷ i.CheckRange (even_from (suc (held true d))) (pos 0) (pos 0) 4 line
      ∷ i.Load (even_from (suc (held true d))) base.Scratch 0
      ∷ range_code (even_from (suc (held true d))) low high 4 line
      ++ store_code (is_byte p) (place_site k p (held true d)) (even_from (suc (held true d)))

  abbrev pub reads_code : List ReadVariable → (d : ℕ) → List Instruction
  reads_code [] d = []
  reads_code (v ∷ rest) d = read_code v d ++ reads_code rest d

  abbrev pub width_code : Width → (default : ℕ) → (t : ℕ) → List Instruction
  width_code DefaultWidth n t = i.Literal t (pos n) ∷ []
  width_code (GivenWidth e line) n t = expr_code k e t 0 ++ check_code (literal_of e) t (pos 1) greatest 11 line

  -- the string of a truth value
  abbrev pub truth_text : (truth to count : ℕ) → List Instruction
  truth_text a t n =
      i.Branch Equal a (operand.Number (pos 0)) 3 ∷ i.Text t (filled (codes "true")) ∷ i.Literal n (pos 4) ∷ i.Jump 2
      ∷ i.Text t (filled (codes "false")) ∷ i.Literal n (pos 5) ∷ []

  abbrev pub write_code : WriteParameter → (d : ℕ) → List Instruction
  write_code (WriteInteger e width) d =
      expr_code k e (held (width_calls width) d) 0 ++ width_code width 11 (even_from (suc (held (width_calls width) d)))
      ++ helper k WriteNumber (held (width_calls width) d ∷ even_from (suc (held (width_calls width) d)) ∷ [])
      (even_from d) ∷ []
  write_code (WriteChar e width) d =
      expr_code k e (held (width_calls width) d) 0 ++ width_code width 1 (even_from (suc (held (width_calls width) d)))
      ++ helper k WriteCharacter (held (width_calls width) d ∷ even_from (suc (held (width_calls width) d)) ∷ [])
      (even_from d) ∷ []
  write_code (WriteBoolean e width) d =
      expr_code k e (held (width_calls width) d) 0 ++ width_code width 5 (even_from (suc (held (width_calls width) d)))
      ++ truth_text (held (width_calls width) d) (beside (even_from (suc (held (width_calls width) d))))
      (beside (beside (even_from (suc (held (width_calls width) d)))))
      ++ helper k WriteString (beside (even_from (suc (held (width_calls width) d))) ∷ beside
      (beside (even_from (suc (held (width_calls width) d)))) ∷ even_from (suc (held (width_calls width) d)) ∷ [])
      (even_from d) ∷ []
  write_code (WriteText e width) d =
      structure_code k e (held (width_calls width) d) 0 ++ width_code width (text_length e)
      (even_from (suc (held (width_calls width) d)))
      ++ i.Literal (beside (even_from (suc (held (width_calls width) d)))) (pos (text_length e))
      ∷ helper k WriteString (held (width_calls width) d ∷ beside (even_from (suc (held (width_calls width) d)))
      ∷ even_from (suc (held (width_calls width) d)) ∷ []) (even_from d) ∷ []

  abbrev pub writes_code : List WriteParameter → (d : ℕ) → List Instruction
  writes_code [] d = []
  writes_code (p ∷ rest) d = write_code p d ++ writes_code rest d

  -- `count` components from one address to another, if one array or both are bytes, or neither
  abbrev pub components_code : (packing : Bool) → (from to count : ℕ) → (from_bytes to_bytes : Bool) → (width t : ℕ)
      → List Instruction
  components_code packing a b n true true width t = i.Literal t (pos n) ∷ helper k PackBytes (b ∷ a ∷ t ∷ []) t ∷ []
  components_code packing a b n false true width t = i.Literal t (pos n) ∷ helper k PackBytes (b ∷ a ∷ t ∷ []) t ∷ []
  components_code packing a b n true false width t = i.Literal t (pos n) ∷ helper k UnpackBytes (b ∷ a ∷ t ∷ []) t ∷ []
  components_code packing a b n false false width t = copy_code k b a t (n * width)

-- ---- `with`: the records are opened one after another, each within those before it

abbrev pub within_site : Scope → Site → Scope
within_site k s = record { program = k.program; chain = k.chain; opened = s ∷ k.opened }

abbrev pub with_code : Scope → List Place → (calls : Bool) → (d : ℕ) → List Instruction
with_code k [] c d = []
with_code k (p ∷ rest) c d = place_code k p (held c d) 0 ++ with_code (within_site k (place_site k p (held c d))) rest c
    (suc (place_temporary p (held c d)))

abbrev pub with_scope : Scope → List Place → (calls : Bool) → (d : ℕ) → Scope
with_scope k [] c d = k
with_scope k (p ∷ rest) c d = with_scope (within_site k (place_site k p (held c d))) rest c
    (suc (place_temporary p (held c d)))

abbrev pub with_depth : List Place → (calls : Bool) → (d : ℕ) → ℕ
with_depth [] c d = d
with_depth (p ∷ rest) c d = with_depth rest c (suc (place_temporary p (held c d)))

-- ---- `case` and `for`

-- a jump past this many instructions, unless the number in d is one of these
abbrev pub tests_code : List ℤ → (d past : ℕ) → List Instruction
tests_code [] d past = i.Jump past ∷ []
tests_code (n ∷ []) d past = i.Branch NotEqual d (operand.Number n) past ∷ []
tests_code (n ∷ m ∷ rest) d past = i.Branch Equal d (operand.Number n) (length (tests_code (m ∷ rest) d past))
    ∷ tests_code (m ∷ rest) d past

abbrev pub past_relation : Direction → Relation
past_relation To = Greater
past_relation Downto = Less

abbrev pub step_number : Direction → ℤ
step_number To = pos 1
step_number Downto = negsuc 0

-- a body may use the limit's temporaries if the limit is known
abbrev pub body_depth : Option ℤ → (d limit : ℕ) → ℕ
body_depth None d t = suc t
body_depth (Some z) d t = d

-- The step comes before the body, and the test after it: the first turn skips the step.
abbrev pub turns_code : Direction → Operand → (offset t : ℕ) → List Instruction → List Instruction
turns_code direction limit offset t body =
    i.Bits bits.Plus t t (operand.Number (step_number direction)) ∷ i.Store base.Frame offset t
    ∷ body ++ i.Load t base.Frame offset ∷ i.BranchBack NotEqual t limit (length body + 3) ∷ []

abbrev pub for_code : Direction → (first : ℕ) → Operand → (offset t : ℕ) → (checks body : List Instruction)
    → List Instruction
for_code direction a limit offset t checks body =
    i.Branch (past_relation direction) a limit (length checks + length body + 6)
    ∷ checks ++ i.Store base.Frame offset a ∷ i.Jump 2 ∷ turns_code direction limit offset t body

-- ---- statements

-- the check that there is room, from the index on, for a part of this many components
abbrev pub room_code : (from_type to_type : DataType) → (t line : ℕ) → List Instruction
room_code whole_type part_type t line =
    if nat_le (value_count (index_of part_type)) (value_count (index_of whole_type))
    then i.CheckRange t (index_of whole_type).low
    ((index_of whole_type).low +ℤ pos (value_count (index_of whole_type) - value_count (index_of part_type))) 5 line
    ∷ []
    else (i.Trap 5 line ∷ [])

abbrev mutual
  pub statement_code : Scope → Statement → (d : ℕ) → List Instruction
  statement_code k Empty d = []
  statement_code k (Assign p range e line) d =
      place_code k p (kept (expr_calls e) d) 0
      ++ expr_code k e (even_from (suc (place_temporary p (kept (expr_calls e) d)))) 0
      ++ fitting_code (gives_byte e) (literal_of e)
      (even_from (suc (place_temporary p (kept (expr_calls e) d)))) range line
      ++ store_code (is_byte p) (place_site k p (kept (expr_calls e) d))
      (even_from (suc (place_temporary p (kept (expr_calls e) d))))
  statement_code k (AssignSet p low high e line) d =
      place_code k p (held true d) 0 ++ set_code k e (suc (held true d)) 0 ++ set_check
      (even_from (suc (held true d))) 0 low high line
      ++ site_code (even_from (suc (held true d))) (place_site k p (held true d)) 32
      ++ words_code (base.Temporary (even_from (suc (held true d)))) 0 base.Scratch 0
      (beside (even_from (suc (held true d)))) 8
  statement_code k (AssignStructure p e) d =
      place_code k p (held (structure_calls e) d) 0
      ++ structure_code k e (even_from (suc (place_temporary p (held (structure_calls e) d)))) 0
      ++ site_code (beside (even_from (suc (place_temporary p (held (structure_calls e) d)))))
      (place_site k p (held (structure_calls e) d)) (structure_bytes e)
      ++ copy_code k (beside (even_from (suc (place_temporary p (held (structure_calls e) d)))))
      (even_from (suc (place_temporary p (held (structure_calls e) d))))
      (beside (beside (even_from (suc (place_temporary p (held (structure_calls e) d)))))) (structure_bytes e)
  statement_code k (CallProcedure r up arguments line) d =
      arguments_code k arguments d 0 ++ link_code k (even_from (arguments_end arguments d)) up
      ++ i.Call (even_from (arguments_end arguments d)) r
      (even_from (arguments_end arguments d) ∷ arguments_words arguments d) line ∷ []
  statement_code k (CallFormalProcedure up index arguments line) d =
      arguments_code k arguments d 0 ++ formal_code k (even_from (arguments_end arguments d)) up index
      ++ i.CallValue (even_from (arguments_end arguments d)) (even_from (arguments_end arguments d))
      (beside (even_from (arguments_end arguments d)) ∷ arguments_words arguments d) line ∷ []
  statement_code k (Compound body) d = statements_code k body d
  statement_code k (If e s) d =
      front_code k e d 0 ++ i.Branch (opposite (relation_in e)) (left_in e d) (right_in e d)
      (length (statement_code k s d)) ∷ statement_code k s d
  statement_code k (IfElse e s t) d =
      front_code k e d 0 ++ i.Branch (opposite (relation_in e)) (left_in e d) (right_in e d)
      (suc (length (statement_code k s d)))
      ∷ statement_code k s d ++ i.Jump (length (statement_code k t d)) ∷ statement_code k t d
  statement_code k (Case e elements line) d = expr_code k e d 0 ++ elements_code k elements d line
  -- the test is at the bottom
  statement_code k (While e s) d =
      i.Jump (length (statement_code k s d)) ∷ statement_code k s d ++ front_code k e d 0
      ++ i.BranchBack (relation_in e) (left_in e d) (right_in e d)
      (length (statement_code k s d) + length (front_code k e d 0)) ∷ []
  statement_code k (Repeat body e) d =
      statements_code k body d ++ front_code k e d 0
      ++ i.BranchBack (opposite (relation_in e)) (left_in e d) (right_in e d)
      (length (statements_code k body d) + length (front_code k e d 0)) ∷ []
  statement_code k (For variable low high a from_line direction b to_line s) d =
      expr_code k a (held (expr_calls b) d) 0
      ++ unless_known (literal_of b) (expr_code k b (held (statement_calls s) (suc (held (expr_calls b) d))) 0)
      ++ for_code direction (held (expr_calls b) d)
      (operand_of (literal_of b) (held (statement_calls s) (suc (held (expr_calls b) d))))
      (entry_offset (routine_up k 0) variable)
      (even_from (body_depth (literal_of b) d (held (statement_calls s) (suc (held (expr_calls b) d)))))
      (check_code (literal_of a) (held (expr_calls b) d) low high 4 from_line ++ operand_check (literal_of b)
      (held (statement_calls s) (suc (held (expr_calls b) d))) low high 4 to_line)
      (statement_code k s (body_depth (literal_of b) d (held (statement_calls s) (suc (held (expr_calls b) d)))))
  statement_code k (With places s) d =
      with_code k places (statement_calls s || places_call places) d
      ++ statement_code (with_scope k places (statement_calls s || places_call places) d) s
      (with_depth places (statement_calls s || places_call places) d)
  -- copies of first values may be calls
  statement_code k (New p pointer line) d =
      place_code k p (held true d) 0 ++ i.New (held true (suc (held true d))) pointer line
      ∷ first_code k (base.Temporary (held true (suc (held true d))))
      (even_from (suc (held true (suc (held true d))))) 0 (shape_of (domain_at k.program pointer))
      ++ store_code (is_byte p) (place_site k p (held true d)) (held true (suc (held true d)))
  statement_code k (Pack p from_type e line q to_type) d =
      place_code k p (held true d) 0
      ++ expr_code k e (held true (suc (held true d))) 0
      ++ i.Index (held true d) (place_site k p (held true d)).base (held true (suc (held true d)))
      (index_of from_type).low (index_of from_type).high (component_bytes (shape_of from_type)) 5 line
      ∷ i.Offset (held true d) (base.Temporary (held true d)) (place_site k p (held true d)).offset 0
      ∷ place_code k q (held true (suc (held true (suc (held true d))))) 0
      ++ room_code from_type to_type (held true (suc (held true d))) line
      ++ site_code (held true (suc (held true (suc (held true d)))))
      (place_site k q (held true (suc (held true (suc (held true d)))))) 0
      ++ components_code k true (held true d) (held true (suc (held true (suc (held true d)))))
      (value_count (index_of to_type)) (is_byte_array (shape_of from_type)) (is_byte_array (shape_of to_type))
      (component_bytes (shape_of from_type)) (even_from (suc (held true (suc (held true (suc (held true d)))))))
  statement_code k (Unpack p from_type q to_type e line) d =
      place_code k p (held true d) 0
      ++ site_code (held true d) (place_site k p (held true d)) 0
      ++ place_code k q (held true (suc (held true d))) 0
      ++ expr_code k e (held true (suc (held true (suc (held true d))))) 0
      ++ i.Index (held true (suc (held true d))) (place_site k q (held true (suc (held true d)))).base
      (held true (suc (held true (suc (held true d))))) (index_of to_type).low (index_of to_type).high
      (component_bytes (shape_of to_type)) 5 line
      ∷ i.Offset (held true (suc (held true d))) (base.Temporary (held true (suc (held true d))))
      (place_site k q (held true (suc (held true d)))).offset 0
      ∷ room_code to_type from_type (held true (suc (held true (suc (held true d))))) line
      ++ components_code k false (held true d) (held true (suc (held true d))) (value_count (index_of from_type))
      (is_byte_array (shape_of from_type)) (is_byte_array (shape_of to_type)) (component_bytes (shape_of from_type))
      (even_from (suc (held true (suc (held true (suc (held true d)))))))
  statement_code k (Read variables) d = reads_code k variables d
  statement_code k (Readln variables line) d =
      reads_code k variables d ++ site_code (even_from d) (input_site k) 8
      ++ helper k ReadLine (even_from d ∷ []) (even_from d) ∷ i.CheckRange (even_from d) (pos 0) (pos 0) 9 line ∷ []
  statement_code k (Write parameters) d = writes_code k parameters d
  statement_code k (Writeln parameters) d = writes_code k parameters d ++ i.Literal (even_from d) (pos 10) ∷ i.Put
      (even_from d) ∷ []

  pub statements_code : Scope → Statements → (d : ℕ) → List Instruction
  statements_code k no_statement d = []
  statements_code k (statement_before s rest) d = statement_code k s d ++ statements_code k rest d

  pub elements_code : Scope → Elements → (d line : ℕ) → List Instruction
  elements_code k no_element d line = i.Trap 7 line ∷ []
  elements_code k (element_before constants s rest) d line =
      tests_code constants d (suc (length (statement_code k s d))) ++ statement_code k s d
      ++ i.Jump (length (elements_code k rest d line)) ∷ elements_code k rest d line
