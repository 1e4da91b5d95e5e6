-- The code of variables, expressions and actual parameters. Code at depths d and x leaves its word in temporary d, and
-- writes no temporary below d and no byte of the scratch block below x. A set is in the scratch block from x on.
pub use Rattle.ps_lower_code.specs.Conditions.{negated, literal_of, operator_of, bit_operator_of, relation_of}
pub use Rattle.ps_lower_code.specs.Conditions.{pointer_relation_of, opposite, set_routine, is_relation, is_truth}
pub use Rattle.ps_lower_code.specs.Conditions.{relation_in, left_in, right_in, relation_code, finish, truth_finish}
pub use Rattle.ps_lower_code.specs.SetCode.{holds_all, masked, joined_word, set_check, known_member, bit_code, one_code}
pub use Rattle.ps_lower_code.specs.SetCode.{is_union, adds, membership_code}
unfoldable pub use Rattle.ps_lower_code.specs.SetCode.{outside_bits, outside_code}
use Rattle.std.specs.Prelude.{ℕ, suc, ◌+◌, ◌*◌, ℤ, pos, ◌-ℤ◌, unsigned_abs, Bool, true, false, if◌then◌else◌, List, []}
use Rattle.std.specs.Prelude.{◌∷◌, ◌++◌, length, Option, Some, None, slice_get}
use Rattle.ps_tree.specs.declared.tree.operators.BooleanOperator.{BooleanOperator}
use Rattle.ps_tree.specs.declared.tree.operators.SetOperator.{SetOperator}
use Rattle.ps_tree.specs.declared.tree.operators.SetRelation.{SetRelation}
use Rattle.ps_tree.specs.declared.tree.operators.SetRelation.TheVariants as sets
use Rattle.ps_tree.specs.declared.tree.operators.RequiredFunction.{RequiredFunction}
use Rattle.ps_tree.specs.declared.tree.operators.RequiredFunction.TheVariants.{Abs, Sqr, Odd, Ord, Chr, Succ, Pred}
use Rattle.ps_tree.specs.Types.{DataType, string_length}
use Rattle.ps_tree.specs.Tree.{Place, Variable, PlaceBase, Entry, Opened, Selector, Element, Field, Target, Selectors}
use Rattle.ps_tree.specs.Tree.{no_selector, selector_before, ArithmeticSteps, no_arithmetic_step}
use Rattle.ps_tree.specs.Tree.{arithmetic_step_before, Operands, no_operand, operand_before, SetSteps, no_set_step}
use Rattle.ps_tree.specs.Tree.{set_step_before, Expr, Number, Nil, Load, Plus, Minus, Not, Arithmetic, Logic, Compare}
use Rattle.ps_tree.specs.Tree.{ComparePointers, CompareSets, CompareStrings, In, Apply, Eof, Eoln, Call, CallFormal}
use Rattle.ps_tree.specs.Tree.{SetExpr, LoadSet, Constructor, Combine, Member, One, Several, Members, no_member}
use Rattle.ps_tree.specs.Tree.{member_before, Structure, Literal, Contents, Argument, ByValue, BySet, ByCopy}
use Rattle.ps_tree.specs.Tree.{ByVariable, ByRoutine, ByFormal, Arguments, no_argument, argument_before}
use Rattle.ps_meaning.specs.Operators.{is_between}
use Rattle.ps_meaning.specs.Expressions.{index_of}
use Rattle.tac_code.specs.declared.code.Operand.TheVariants as operand
use Rattle.tac_code.specs.declared.code.Base.TheVariants as base
use Rattle.tac_code.specs.declared.code.Operator.TheVariants as operator
use Rattle.tac_code.specs.declared.code.BitOperator.TheVariants as bits
use Rattle.tac_code.specs.declared.code.Relation.TheVariants.{Equal, Less, GreaterEqual}
use Rattle.tac_code.specs.declared.code.Instruction.{Instruction}
use Rattle.tac_code.specs.declared.code.Instruction.TheVariants as i
use Rattle.tac_rt.specs.declared.run_time.RunTime.TheVariants.{AddRange, IsIncluded, CompareBytes, LookAhead}
use Rattle.ps_lower_layout.specs.Shapes.{Shape, ByteShape, shape_of, byte_count, component_bytes, field_offset}
use Rattle.ps_lower_layout.specs.Words.{filled}
use Rattle.ps_lower_layout.specs.Frames.{Kind, Reference, entry_offset}
use Rattle.ps_lower_code.specs.Scopes.{even_from, held, kept, beside, moved, least, greatest, range_code, fitting_code}
use Rattle.ps_lower_code.specs.Scopes.{operand_of, unless_known, Site, Scope, routine_up, kind_at, frame_code}
use Rattle.ps_lower_code.specs.Scopes.{frame_base, link_code, formal_code, site_code, input_site, helper, words_code}
use Rattle.ps_lower_code.specs.Scopes.{copy_code}
use Rattle.ps_lower_code.specs.Calling.{selectors_call, expr_calls, steps_call, operands_call, asked_calls}
use Rattle.ps_lower_code.specs.Calling.{structure_calls, arguments_call}

-- ---- variables without their indices

-- the bytes before a component of a known index that is in its range
abbrev pub steps_before : DataType → ℤ → Option ℕ
steps_before type z = if is_between (index_of type).low z (index_of type).high then Some
    (unsigned_abs (z -ℤ (index_of type).low) * component_bytes (shape_of type)) else None

abbrev pub known_steps : DataType → Option ℤ → Option ℕ
known_steps type None = None
known_steps type (Some z) = steps_before type z

abbrev pub element_site : Option ℕ → Site → (t : ℕ) → Site
element_site None s t = record { base = base.Temporary t; offset = s.offset }
element_site (Some n) s t = record { base = s.base; offset = s.offset + n }

abbrev pub selectors_site : Selectors → Site → (t : ℕ) → Site
selectors_site no_selector s t = s
selectors_site (selector_before (Element type e line) rest) s t = selectors_site rest
    (element_site (known_steps type (literal_of e)) s t) t
selectors_site (selector_before (Field type number) rest) s t = selectors_site rest (record {
  base = s.base;
  offset = s.offset + field_offset (shape_of type) number;
}) t
selectors_site (selector_before (Target pointer line) rest) s t = selectors_site rest (record {
  base = base.Temporary t;
  offset = 0;
}) t

-- the variable is one byte of a word
abbrev pub is_byte_array : Shape → Bool
is_byte_array (ByteShape count first) = true
is_byte_array _ = false

abbrev pub is_byte_selector : Selector → Bool
is_byte_selector (Element type e line) = is_byte_array (shape_of type)
is_byte_selector _ = false

abbrev pub is_byte_after : Bool → Selectors → Bool
is_byte_after b no_selector = b
is_byte_after b (selector_before s rest) = is_byte_after (is_byte_selector s) rest

abbrev pub is_byte : Place → Bool
is_byte (Variable name selectors) = is_byte_after false selectors

-- The value is a byte, whatever is stored: a component that is one byte of a word can be nothing else, and `chr`
-- returns a character, whose ordinal number is in 0..255 (6.6.6.4). This isn't known for an entire variable, since a
-- `for` statement steps it.
abbrev pub gives_byte : Expr → Bool
gives_byte (Load p) = is_byte p
gives_byte (Apply Chr e line) = true
gives_byte _ = false

abbrev pub load_code : Bool → (d : ℕ) → Site → List Instruction
load_code true d s = i.LoadByte d s.base s.offset ∷ []
load_code false d s = i.Load d s.base s.offset ∷ []

abbrev pub store_code : Bool → Site → (t : ℕ) → List Instruction
store_code true s t = i.StoreByte s.base s.offset t ∷ []
store_code false s t = i.Store s.base s.offset t ∷ []

abbrev pub index_code : Option ℕ → DataType → Site → (t at line : ℕ) → List Instruction → List Instruction
index_code (Some n) type s t at line code = []
index_code None type s t at line code = code ++ i.Index t s.base at (index_of type).low (index_of type).high
    (component_bytes (shape_of type)) 5 line ∷ []

-- the length of a string, and of the contents of a string variable
abbrev pub text_length : Structure → ℕ
text_length (Literal characters) = length characters
text_length (Contents p type) = elim (string_length type) [ Some n ↦ n | None ↦ 0 ]

-- the bytes of a structure's words
abbrev pub structure_bytes : Structure → ℕ
structure_bytes (Literal characters) = length (filled characters)
structure_bytes (Contents p type) = byte_count (shape_of type)

-- ---- required functions and signs

abbrev pub function_code : RequiredFunction → (d line : ℕ) → List Instruction
function_code Abs d line = i.Branch GreaterEqual d (operand.Number (pos 0)) 2 ∷ i.Literal (even_from (suc d)) (pos 0)
    ∷ i.Arithmetic operator.Subtract d (even_from (suc d)) (operand.Temporary d) 1 line ∷ []
function_code Sqr d line = i.Arithmetic operator.Multiply d d (operand.Temporary d) 1 line ∷ []
function_code Odd d line = i.Bits bits.And d d (operand.Number (pos 1)) ∷ []
function_code Ord d line = []
function_code Chr d line = i.CheckRange d (pos 0) (pos 255) 4 line ∷ []
function_code (Succ high) d line = i.Arithmetic operator.Add d d (operand.Number (pos 1)) 4 line
    ∷ range_code d least high 4 line
function_code (Pred low) d line = i.Arithmetic operator.Subtract d d (operand.Number (pos 1)) 4 line
    ∷ range_code d low greatest 4 line

-- 0 less what is in t, or a known number
abbrev pub minus_code : Option ℤ → (d t line : ℕ) → List Instruction → List Instruction
minus_code (Some z) d t line code = i.Literal d z ∷ []
minus_code None d t line code = code ++ i.Literal d (pos 0) ∷ i.Arithmetic operator.Subtract d d
    (operand.Temporary t) 1 line ∷ []

-- ---- actual parameters: where their words are, and what scratch they hold

abbrev pub argument_words : Argument → (t : ℕ) → List ℕ
argument_words (ByRoutine r up) t = t ∷ beside t ∷ []
argument_words (ByFormal up index) t = t ∷ beside t ∷ []
argument_words _ t = t ∷ []

abbrev pub argument_end : Argument → (t : ℕ) → ℕ
argument_end (ByRoutine r up) t = suc (beside t)
argument_end (ByFormal up index) t = suc (beside t)
argument_end _ t = suc t

abbrev pub argument_scratch : Argument → ℕ
argument_scratch (BySet e low high line) = 32
argument_scratch (ByCopy e type) = byte_count (shape_of type)
argument_scratch _ = 0

abbrev pub arguments_words : Arguments → (d : ℕ) → List ℕ
arguments_words no_argument d = []
arguments_words (argument_before a rest) d = argument_words a (held (arguments_call rest) d) ++ arguments_words rest
    (argument_end a (held (arguments_call rest) d))

abbrev pub arguments_end : Arguments → (d : ℕ) → ℕ
arguments_end no_argument d = d
arguments_end (argument_before a rest) d = arguments_end rest (argument_end a (held (arguments_call rest) d))

-- the temporary that may hold a variable's address
abbrev pub place_temporary : Place → (d : ℕ) → ℕ
place_temporary (Variable name selectors) d = kept (selectors_call selectors) d

module _ (k : Scope) where
  -- a field of an opened record
  abbrev pub field_site : Option Site → ℕ → Site
  field_site None n = record { base = base.Frame; offset = 0 }
  field_site (Some s) n = record { base = s.base; offset = s.offset + n }

  -- a name: code that reaches its variable, and where that is then
  abbrev pub reference_code : Option Kind → (t up index : ℕ) → List Instruction
  reference_code (Some (Reference shape)) t up index = i.Load t (frame_base k t up)
      (entry_offset (routine_up k up) index) ∷ []
  reference_code _ t up index = []

  abbrev pub entry_site : Option Kind → (t up index : ℕ) → Site
  entry_site (Some (Reference shape)) t up index = record { base = base.Temporary t; offset = 0 }
  entry_site _ t up index = record { base = frame_base k t up; offset = entry_offset (routine_up k up) index }

  abbrev pub name_code : PlaceBase → (t : ℕ) → List Instruction
  name_code (Entry up index) t = frame_code k t up ++ reference_code (kind_at k up index) t up index
  name_code (Opened which type number) t = []

  abbrev pub name_site : PlaceBase → (t : ℕ) → Site
  name_site (Entry up index) t = entry_site (kind_at k up index) t up index
  name_site (Opened which type number) t = field_site (slice_get k.opened which) (field_offset (shape_of type) number)

  abbrev pub place_site : Place → (d : ℕ) → Site
  place_site (Variable name selectors) d = selectors_site selectors (name_site name (kept (selectors_call selectors) d))
      (kept (selectors_call selectors) d)

  -- an empty set from x on; t and the next temporary are used
  abbrev pub clear_code : (t x : ℕ) → List Instruction
  clear_code t x =
      i.Literal t (pos 0) ∷ i.Store base.Scratch x t ∷ i.Store base.Scratch (x + 4) t ∷ i.Store base.Scratch (x + 8) t
      ∷ i.Store base.Scratch (x + 12) t
      ∷ i.Store base.Scratch (x + 16) t ∷ i.Store base.Scratch (x + 20) t ∷ i.Store base.Scratch (x + 24) t
      ∷ i.Store base.Scratch (x + 28) t ∷ []

  -- the set from x on is combined with the one at the address in the next temporary of t's class
  abbrev pub joining_code : SetOperator → (t x : ℕ) → List Instruction
  joining_code operator t x = i.Offset t base.Scratch x 32 ∷ helper k (set_routine operator) (t ∷ beside t ∷ []) t ∷ []

  -- two sets, from x and from x + 32 on, compared: the truth goes to t
  abbrev pub included_code : (first second to x : ℕ) → List Instruction
  included_code a b t x = i.Offset a base.Scratch x 32 ∷ i.Offset b base.Scratch (x + 32) 32 ∷ helper k IsIncluded
      (a ∷ b ∷ []) t ∷ []

  abbrev pub same_sets_code : (t x : ℕ) → List Instruction
  same_sets_code t x =
      included_code t (beside t) (suc t) x
      ++ i.Offset t base.Scratch x 32 ∷ i.Offset (beside t) base.Scratch (x + 32) 32 ∷ helper k IsIncluded
      (beside t ∷ t ∷ []) t
      ∷ i.Bits bits.And t t (operand.Temporary (suc t)) ∷ []

  abbrev pub sets_code : SetRelation → (t x : ℕ) → List Instruction
  sets_code sets.Included t x = included_code t (beside t) t x
  sets_code sets.Includes t x = i.Offset t base.Scratch x 32 ∷ i.Offset (beside t) base.Scratch (x + 32) 32
      ∷ helper k IsIncluded (beside t ∷ t ∷ []) t ∷ []
  sets_code sets.Same t x = same_sets_code t x
  sets_code sets.Other t x = same_sets_code t x ++ i.Compare Equal t t (operand.Number (pos 0)) ∷ []

  -- the members from what a holds to what b holds are added to the set from x on
  abbrev pub range_members : (a b x line : ℕ) → List Instruction
  range_members a b x line =
      i.Branch Less b (operand.Temporary a) 4 ∷ i.CheckRange a (pos 0) (pos 255) 8 line ∷ i.CheckRange b (pos 0)
      (pos 255) 8 line
      ∷ i.Offset (beside b) base.Scratch x 32 ∷ helper k AddRange (beside b ∷ a ∷ b ∷ []) (beside b) ∷ []

  abbrev mutual
    -- the address of a variable is left as a site
    pub place_code : Place → (d x : ℕ) → List Instruction
    place_code (Variable name selectors) d x =
        name_code name (kept (selectors_call selectors) d)
        ++ selectors_code selectors (name_site name (kept (selectors_call selectors) d))
        (kept (selectors_call selectors) d) x

    -- each selector leads from one site to the next; t is used
    pub selectors_code : Selectors → Site → (t x : ℕ) → List Instruction
    selectors_code no_selector s t x = []
    selectors_code (selector_before (Element type e line) rest) s t x =
        index_code (known_steps type (literal_of e)) type s t (even_from (suc t)) line
        (front_code e (even_from (suc t)) x ++ finish e (even_from (suc t)))
        ++ selectors_code rest (element_site (known_steps type (literal_of e)) s t) t x
    selectors_code (selector_before (Field type number) rest) s t x =
        selectors_code rest (record { base = s.base; offset = s.offset + field_offset (shape_of type) number }) t x
    selectors_code (selector_before (Target pointer line) rest) s t x =
        i.Load t s.base s.offset ∷ i.CheckPointer t 6 line ∷ selectors_code rest (record {
          base = base.Temporary t;
          offset = 0;
        }) t x

    pub front_code : Expr → (d x : ℕ) → List Instruction
    front_code (Number n) d x = i.Literal d n ∷ []
    front_code Nil d x = i.Literal d (pos 0) ∷ []
    front_code (Load p) d x = place_code p d x ++ load_code (is_byte p) d (place_site p d)
    front_code (Plus e) d x = front_code e d x ++ finish e d
    front_code (Minus e line) d x =
        minus_code (negated e) d (even_from (suc d)) line
        (front_code e (even_from (suc d)) x ++ finish e (even_from (suc d)))
    front_code (Not e) d x = front_code e d x
    front_code (Arithmetic e steps) d x =
        (front_code e (kept (steps_call steps) d) x ++ finish e (kept (steps_call steps) d))
        ++ steps_code steps (kept (steps_call steps) d) x ++ moved (kept (steps_call steps) d) d
    front_code (Logic operator e rest) d x =
        (front_code e (kept (operands_call rest) d) x ++ truth_finish e (kept (operands_call rest) d))
        ++ operands_code operator rest (kept (operands_call rest) d) x ++ moved (kept (operands_call rest) d) d
    front_code (Compare relation a b) d x =
        (front_code a (kept (expr_calls b) d) x ++ finish a (kept (expr_calls b) d))
        ++ unless_known (literal_of b) (front_code b (even_from (suc (kept (expr_calls b) d))) x ++ finish b
        (even_from (suc (kept (expr_calls b) d))))
    front_code (ComparePointers relation a b) d x =
        (front_code a (kept (expr_calls b) d) x ++ finish a (kept (expr_calls b) d))
        ++ unless_known (literal_of b) (front_code b (even_from (suc (kept (expr_calls b) d))) x ++ finish b
        (even_from (suc (kept (expr_calls b) d))))
    front_code (CompareSets relation a b) d x = set_code a (even_from d) x ++ set_code b (even_from d) (x + 32)
        ++ sets_code relation (even_from d) x ++ moved (even_from d) d
    front_code (CompareStrings relation a b) d x =
        structure_code a (held (structure_calls b) d) x ++ structure_code b
        (even_from (suc (held (structure_calls b) d))) x
        ++ i.Literal (beside (even_from (suc (held (structure_calls b) d)))) (pos (text_length a))
        ∷ helper k CompareBytes (held (structure_calls b) d ∷ even_from (suc (held (structure_calls b) d)) ∷ beside
        (even_from (suc (held (structure_calls b) d))) ∷ []) d ∷ []
    front_code (In a b) d x =
        (front_code a (kept (asked_calls b) d) x ++ finish a (kept (asked_calls b) d)) ++ asked_code b
        (even_from (suc (kept (asked_calls b) d))) x
        ++ membership_code (kept (asked_calls b) d) (even_from (suc (kept (asked_calls b) d))) d
    front_code (Apply function e line) d x = (front_code e d x ++ finish e d) ++ function_code function d line
    front_code Eof d x = site_code (even_from d) (input_site k) 8 ++ helper k LookAhead (even_from d ∷ []) d ∷ []
    front_code (Eoln line) d x = site_code (even_from d) (input_site k) 8 ++ helper k LookAhead (even_from d ∷ []) d
        ∷ i.CheckRange d (pos 1) (pos 2) 9 line ∷ []
    front_code (Call r up arguments line) d x =
        arguments_code arguments d x ++ link_code k (even_from (arguments_end arguments d)) up
        ++ i.Call d r (even_from (arguments_end arguments d) ∷ arguments_words arguments d) line ∷ []
    front_code (CallFormal up index arguments line) d x =
        arguments_code arguments d x ++ formal_code k (even_from (arguments_end arguments d)) up index
        ++ i.CallValue d (even_from (arguments_end arguments d))
        (beside (even_from (arguments_end arguments d)) ∷ arguments_words arguments d) line ∷ []

    -- the number so far is in a
    pub steps_code : ArithmeticSteps → (a x : ℕ) → List Instruction
    steps_code no_arithmetic_step a x = []
    steps_code (arithmetic_step_before operator e line rest) a x =
        unless_known (literal_of e) (front_code e (even_from (suc a)) x ++ finish e (even_from (suc a)))
        ++ i.Arithmetic (operator_of operator) a a (operand_of (literal_of e) (even_from (suc a))) 1 line
        ∷ steps_code rest a x

    pub operands_code : BooleanOperator → Operands → (a x : ℕ) → List Instruction
    operands_code operator no_operand a x = []
    operands_code operator (operand_before e rest) a x =
        (front_code e (even_from (suc a)) x ++ truth_finish e (even_from (suc a)))
        ++ i.Bits (bit_operator_of operator) a a (operand.Temporary (even_from (suc a)))
        ∷ operands_code operator rest a x

    -- the address of a set in t: a variable's own, and that of a set from x on for any other
    pub asked_code : SetExpr → (t x : ℕ) → List Instruction
    asked_code (LoadSet p) t x = place_code p t x ++ site_code t (place_site p t) 32
    asked_code (Constructor members) t x = (clear_code (even_from t) x ++ members_code members t x)
        ++ i.Offset t base.Scratch x 32 ∷ []
    asked_code (Combine e steps) t x = (set_code e t x ++ set_steps_code steps t x) ++ i.Offset t base.Scratch x 32 ∷ []

    -- a set from x on
    pub set_code : SetExpr → (d x : ℕ) → List Instruction
    set_code (LoadSet p) d x =
        place_code p d x ++ site_code (even_from (suc d)) (place_site p d) 32
        ++ words_code base.Scratch x (base.Temporary (even_from (suc d))) 0 (beside (even_from (suc d))) 8
    set_code (Constructor members) d x = clear_code (even_from d) x ++ members_code members d x
    set_code (Combine e steps) d x = set_code e d x ++ set_steps_code steps d x

    pub set_steps_code : SetSteps → (d x : ℕ) → List Instruction
    set_steps_code no_set_step d x = []
    set_steps_code (set_step_before operator e rest) d x =
        (if adds operator e then adding_code e d x
        else (asked_code e (beside (even_from d)) (x + 32) ++ joining_code operator (even_from d) x))
        ++ set_steps_code rest d x

    -- the members of a constructor are added to the set from x on
    pub adding_code : SetExpr → (d x : ℕ) → List Instruction
    adding_code (LoadSet p) d x = []
    adding_code (Constructor members) d x = members_code members d x
    adding_code (Combine e steps) d x = []

    pub members_code : Members → (d x : ℕ) → List Instruction
    members_code no_member d x = []
    members_code (member_before m rest) d x = member_code m d x ++ members_code rest d x

    -- the members are added to the set from x on
    pub member_code : Member → (d x : ℕ) → List Instruction
    member_code (One e line) d x =
        one_code (known_member (literal_of e)) (even_from d) x
        ((front_code e (even_from d) (x + 32) ++ finish e (even_from d))
        ++ i.CheckRange (even_from d) (pos 0) (pos 255) 8 line ∷ i.Offset (beside (even_from d)) base.Scratch x 32
        ∷ helper k AddRange (beside (even_from d) ∷ even_from d ∷ even_from d ∷ []) (even_from d) ∷ [])
    member_code (Several a b line) d x =
        (front_code a (held (expr_calls b) d) (x + 32) ++ finish a (held (expr_calls b) d))
        ++ (front_code b (even_from (suc (held (expr_calls b) d))) (x + 32) ++ finish b
        (even_from (suc (held (expr_calls b) d))))
        ++ range_members (held (expr_calls b) d) (even_from (suc (held (expr_calls b) d))) x line

    -- the address of a structure in d
    pub structure_code : Structure → (d x : ℕ) → List Instruction
    structure_code (Literal characters) d x = i.Text d (filled characters) ∷ []
    structure_code (Contents p type) d x = place_code p d x ++ site_code d (place_site p d) (byte_count (shape_of type))

    -- an actual parameter in t, and the next temporary of its class if it has two words
    pub argument_code : Argument → (t x : ℕ) → List Instruction
    argument_code (ByValue e range line) t x = (front_code e t x ++ finish e t) ++ fitting_code (gives_byte e)
        (literal_of e) t range line
    argument_code (BySet e low high line) t x = set_code e t x ++ set_check (even_from t) x low high line
        ++ i.Offset t base.Scratch x 32 ∷ []
    argument_code (ByCopy e type) t x =
        structure_code e t x ++ i.Offset (beside t) base.Scratch x (byte_count (shape_of type))
        ∷ copy_code k (beside t) t (beside (beside t)) (byte_count (shape_of type))
        ++ i.Offset t base.Scratch x (byte_count (shape_of type)) ∷ []
    argument_code (ByVariable p) t x = place_code p t x ++ site_code t (place_site p t) 0
    argument_code (ByRoutine r up) t x = i.RoutineValue t r ∷ link_code k (beside t) up
    argument_code (ByFormal up index) t x = formal_code k t up index

    pub arguments_code : Arguments → (d x : ℕ) → List Instruction
    arguments_code no_argument d x = []
    arguments_code (argument_before a rest) d x =
        argument_code a (held (arguments_call rest) d) x
        ++ arguments_code rest (argument_end a (held (arguments_call rest) d)) (x + argument_scratch a)
