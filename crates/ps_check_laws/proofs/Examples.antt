-- A small program: what its names denote, and the numbers of its routines.
--
--     program p;                     { path: none }
--       const a = 1;
--       procedure q(b: a);           { path: 0 }
--         const a = 2;
--         procedure r; begin end;    { path: 0 0 }
--         begin end;
--       procedure s; begin end;      { path: 1 }
--       begin end.
use Rattle.std.proofs.Common.{◌≡◌, ℕ, true, false, List, [], ◌∷◌, ◌++◌, Some, None, refl, sym, ap, ◌∙◌, arith}
use Rattle.std.specs.Prelude.{Option, codes, pos, nat_eq, if◌then◌else◌}
use Rattle.std.proofs.lemmas.Option.{same_Some}
use Rattle.ps_text.specs.declared.Span.{Span}
use Rattle.ps_syntax.specs.declared.statement.Constant.TheVariants as constant
use Rattle.ps_syntax.specs.declared.program.ConstantDefinition.{ConstantDefinition}
use Rattle.ps_syntax.specs.declared.program.Heading.{Heading, roll-Heading, out-roll-Heading}
use Rattle.ps_syntax.specs.declared.program.Section.{roll-Section, out-roll-Section}
use Rattle.ps_syntax.specs.declared.program.Heading.TheOpen.{Heading-F, Section-F}
use Rattle.ps_syntax.specs.declared.program.Block.{Block, roll-Block}
use Rattle.ps_syntax.specs.declared.program.Routine.{Routine, roll-Routine, out-roll-Routine}
use Rattle.ps_syntax.specs.declared.program.Routine.TheOpen.{Routine-F}
use Rattle.ps_syntax.specs.declared.program.Routine.TheFolds.{fold-roll-Block, fold-roll-Routine}
use Rattle.ps_syntax.specs.declared.program.Program as syntax
use Rattle.ps_tree.specs.Tree as Tree
use Rattle.ps_tree.specs.declared.tree.operators.Direction.TheVariants.{To}
use Rattle.ps_check_judgement.specs.declared.change.Change.{Change}
use Rattle.ps_check_judgement.specs.Judged.{Yes}
use Rattle.ps_check_judgement.proofs.Impossible.{none_some}
use Rattle.ps_check_laws.specs.Option.{◌>>=◌}
use Rattle.ps_tree.specs.Types.{DataType, OrdinalType, RecordType, FieldList, field_list, type_before, no_type}
use Rattle.ps_tree.specs.Types.{field_in}
use Rattle.ps_check_names.specs.Spelling.{has, place}
use Rattle.ps_check_names.specs.Regions.{Region, BlockRegion, Point, BlockPoint, FieldPoint, VariableMeaning, find}
use Rattle.ps_check_names.specs.Regions.{find_past}
use Rattle.ps_check_names.specs.Constants.{integer}
use Rattle.ps_check.specs.Readings.{heading_name, heading_list, is_bare}
use Rattle.ps_check.specs.Changes as changes
use Rattle.ps_check.specs.Paths.{block_at, routine_block}
use Rattle.ps_check_laws.specs.Definitions.{Definition, own_declarations, variable_declarations, section_points}
use Rattle.ps_check_laws.specs.Definitions.{formal_points, formal_declarations, routine_name, routine_heading}
use Rattle.ps_check_laws.specs.Definitions.{routine_names, introduced_from, definitions_of, names_of, introducer}
use Rattle.ps_check_laws.specs.Definitions.{heading_of, points_before}
use Rattle.ps_check_laws.specs.Uses.{Opened, opened_regions, IsOfRecord, IsDenoted, of_record, of_block, of_required}
use Rattle.ps_check_laws.specs.Forward.{is_function, Completes}
use Rattle.ps_syntax.specs.declared.expression.Expr.{Expr, roll-Expr}
use Rattle.ps_syntax.specs.declared.expression.Simple.{roll-Simple}
use Rattle.ps_syntax.specs.declared.expression.Term.{roll-Term}
use Rattle.ps_syntax.specs.declared.expression.Factor.{roll-Factor}
use Rattle.ps_syntax.specs.declared.expression.Variable.{Variable, roll-Variable}
use Rattle.ps_syntax.specs.declared.expression.Expr.TheOpen.{Expr-F, Factor-F}
use Rattle.ps_syntax.specs.declared.expression.Expr.TheFolds.{fold-roll-Expr, fold-roll-Simple, fold-roll-Term}
use Rattle.ps_syntax.specs.declared.expression.Expr.TheFolds.{fold-roll-Factor, fold-roll-Variable}
use Rattle.ps_syntax.specs.declared.statement.Statement.{Statement, roll-Statement}
use Rattle.ps_syntax.specs.declared.statement.Statement.TheOpen.{Statement-F}
use Rattle.ps_syntax.specs.declared.statement.Statement.TheFolds.{fold-roll-Statement}
use Rattle.ps_syntax.specs.declared.program.Ordinal.TheVariants as ordinal
use Rattle.ps_syntax.specs.declared.program.Structure.{roll-Structure}
use Rattle.ps_syntax.specs.declared.program.TypeDenoter.{TypeDenoter, roll-TypeDenoter}
use Rattle.ps_syntax.specs.declared.program.Fields.{Fields, roll-Fields}
use Rattle.ps_syntax.specs.declared.program.Structure.TheOpen.{Structure-F, TypeDenoter-F}
use Rattle.ps_syntax.specs.declared.program.Structure.TheFolds.{fold-roll-Structure, fold-roll-TypeDenoter}
use Rattle.ps_syntax.specs.declared.program.Structure.TheFolds.{fold-roll-Fields}
use Rattle.ps_syntax.specs.declared.program.Heading.TheFolds.{fold-roll-Heading, fold-roll-Section}
use Rattle.ps_check_laws.specs.Occurrences.{statements_uses}
use Rattle.ps_check_laws.specs.InDeclarations as declarations
use Rattle.ps_check_laws.specs.Counts as drawn
use Rattle.ps_check_laws.specs.Counts.{own_domains, domains_before, first_domain_at}
use Rattle.ps_check_laws.specs.Controls.{statement_loops, statements_loops, statements_control, AreUnchanged}
use Rattle.ps_check_laws.specs.Controls.{changes_from}
use Rattle.ps_check_laws.specs.Denoting.{Where, Denotes, here, outward, first_declarations, definitions_at}
use Rattle.ps_check_laws.specs.Denoting.{points_before_at, counted, block_step, headings_before, own_heading}
use Rattle.ps_check_laws.specs.Denoting.{first_number, number_at}

-- the names come one after the other in the text
abbrev text : List ℕ
text = codes "aqbrs"

abbrev at : ℕ → ℕ → Span
at from to = record { from = from; to = to }

abbrev a_is : ℕ → ConstantDefinition
a_is n = record { name = at 0 1; value = constant.Number None (at 0 1) }

abbrev empty : Block
empty = roll-Block (record {
  constants = [];
  types = [];
  variables = [];
  routines = [];
  begin = at 0 0;
  statements = [];
})

abbrev r : Routine
r = roll-Routine (Routine-F.Whole (roll-Heading (Heading-F.Procedure (at 3 4) [])) empty)

abbrev s : Routine
s = roll-Routine (Routine-F.Whole (roll-Heading (Heading-F.Procedure (at 4 5) [])) empty)

abbrev q_block : Block
q_block = roll-Block (record {
  constants = a_is 2 ∷ [];
  types = [];
  variables = [];
  routines = r ∷ [];
  begin = at 0 0;
  statements = [];
})

abbrev q_heading : Heading
q_heading = roll-Heading (Heading-F.Procedure (at 1 2) (roll-Section (Section-F.Value (at 2 3 ∷ []) (at 0 1)) ∷ []))

abbrev q : Routine
q = roll-Routine (Routine-F.Whole q_heading q_block)

abbrev program : syntax.Program
program = record {
  name = at 0 0;
  parameters = [];
  block = roll-Block (record {
    constants = a_is 1 ∷ [];
    types = [];
    variables = [];
    routines = q ∷ s ∷ [];
    begin = at 0 0;
    statements = [];
  });
}

-- the names of the block at a path
abbrev names_there : List ℕ → Option (List (List ℕ))
names_there v = definitions_at text program v >>= (λ ds. Some (names_of text ds))

-- the program block defines a, q and s
of_the_program : names_there [] ≡ Some (codes "a" ∷ codes "q" ∷ codes "s" ∷ [])
unfolding definitions_at first_declarations block_at definitions_of own_declarations variable_declarations
    introduced_from routine_names routine_name heading_name names_of
of_the_program = simp (out-roll-Routine, out-roll-Heading) refl

-- the formal parameter comes before the block's own names
of_a_procedure : names_there (0 ∷ []) ≡ Some (codes "b" ∷ codes "a" ∷ codes "r" ∷ [])
unfolding definitions_at first_declarations block_at routine_block heading_of introducer definitions_of own_declarations
    variable_declarations introduced_from routine_names routine_name routine_heading heading_name heading_list
    section_points formal_points formal_declarations names_of
of_a_procedure = simp (out-roll-Routine, out-roll-Heading, out-roll-Section) refl

-- the routines are numbered in the order of their headings
numbers : (number_at text program [] ≡ Some 0) × (number_at text program (0 ∷ []) ≡ Some 1)
    × (number_at text program (0 ∷ 0 ∷ []) ≡ Some 2) × (number_at text program (1 ∷ []) ≡ Some 3)
unfolding number_at first_number headings_before own_heading counted block_step definitions_at first_declarations
    block_at routine_block heading_of introducer definitions_of own_declarations variable_declarations introduced_from
    routine_names routine_name routine_heading heading_name heading_list section_points formal_points
    formal_declarations names_of
numbers = simp (out-roll-Routine, out-roll-Heading, out-roll-Section, fold-roll-Block, fold-roll-Routine)
    (refl, refl, refl, refl)

-- a nested block knows the points that come before it: in q the program's a and q are known, in s all three, in r all
-- of q's
known_within : (points_before_at text program 0 [] ≡ Some 2) × (points_before_at text program 1 [] ≡ Some 3)
    × (points_before_at text program 0 (0 ∷ []) ≡ Some 3)
unfolding points_before_at points_before first_declarations block_at routine_block heading_of introducer definitions_of
    own_declarations variable_declarations introduced_from routine_names routine_name routine_heading heading_name
    heading_list section_points formal_points formal_declarations names_of
known_within = simp (out-roll-Routine, out-roll-Heading, out-roll-Section) (refl, refl, refl)

-- pointer types are numbered in the order of the text: in a program with one of its own and one in each of two
-- procedures
abbrev pointed_block : List Routine → Block
pointed_block rs = roll-Block (record {
  constants = [];
  types = record {
    name = at 0 1;
    ty = roll-TypeDenoter (TypeDenoter-F.Pointer (at 0 0) (at 0 1));
  } ∷ [];
  variables = [];
  routines = rs;
  begin = at 0 0;
  statements = [];
})

abbrev pointed : ℕ → ℕ → Routine
pointed from to = roll-Routine (Routine-F.Whole (roll-Heading (Heading-F.Procedure (at from to) [])) (pointed_block []))

abbrev with_pointers : syntax.Program
with_pointers = record { name = at 0 0; parameters = []; block = pointed_block (pointed 3 4 ∷ pointed 4 5 ∷ []) }

pointer_numbers : (first_domain_at with_pointers [] ≡ Some 0) × (first_domain_at with_pointers (0 ∷ []) ≡ Some 1)
    × (first_domain_at with_pointers (1 ∷ []) ≡ Some 2)
unfolding first_domain_at domains_before own_domains drawn.block_step block_at routine_block
pointer_numbers = simp (fold-roll-Block, fold-roll-Routine, fold-roll-TypeDenoter) (refl, refl, refl)

-- ---- what names denote

named_so : {A B : Type 0} (f : A → B) (o : Option A) (x : A) (y : B) → o ≡ Some x → (o >>= (λ z. Some (f z))) ≡ Some y
    → f x ≡ y
named_so f o x y e g = same_Some (f x) y (ap (λ z. z >>= (λ w. Some (f w))) (sym e) ∙ g)

-- in q its own a is denoted, and not that of the program
its_own : (v : List ℕ) (n : ℕ) (w : Where) → v ≡ 0 ∷ [] → Denotes text program (codes "a") v n w → w.path ≡ 0 ∷ []
its_own v n w e (here u m i ds points found below) = e
its_own v n w e (outward k u m l x ds points none before d) =
    let names = named_so (names_of text) (definitions_at text program (k ∷ u)) ds
    (codes "b" ∷ codes "a" ∷ codes "r" ∷ []) points (ap names_there e ∙ of_a_procedure) in
    absurd (let no : true ≡ false = ap (λ l. has l (codes "a")) (sym names) ∙ none in cc)

-- in r, within q, the name q denotes the procedure itself, which is the second point of the program block
abbrev program_points : List Definition
program_points = definitions_of text [] program.block

abbrev q_points : List Definition
q_points = definitions_of text (formal_declarations q_heading) q_block

abbrev r_points : List Definition
r_points = definitions_of text (formal_declarations (roll-Heading (Heading-F.Procedure (at 3 4) []))) empty

points_are : (definitions_at text program [] ≡ Some program_points)
    × (definitions_at text program (0 ∷ []) ≡ Some q_points)
    × (definitions_at text program (0 ∷ 0 ∷ []) ≡ Some r_points)
unfolding definitions_at first_declarations block_at routine_block heading_of introducer definitions_of own_declarations
    variable_declarations introduced_from routine_names routine_name routine_heading heading_name heading_list
    section_points formal_points formal_declarations names_of
points_are = simp (out-roll-Routine, out-roll-Heading, out-roll-Section) (refl, refl, refl)

places : (place (names_of text program_points) (codes "q") ≡ Some 1)
    × (has (names_of text q_points) (codes "q") ≡ false) × (has (names_of text r_points) (codes "q") ≡ false)
unfolding definitions_of own_declarations variable_declarations introduced_from routine_names routine_name heading_name
    heading_list section_points formal_points formal_declarations names_of
places = simp (out-roll-Routine, out-roll-Heading, out-roll-Section) (refl, refl, refl)

outermost : Denotes text program (codes "q") (0 ∷ 0 ∷ []) 0 (record { path = []; number = 1 })
outermost =
    outward 0 (0 ∷ []) 0 3 (record { path = []; number = 1 }) r_points points_are.2 places.2 known_within.2
    (outward 0 [] 3 2 (record {
      path = [];
      number = 1;
    }) q_points points_are.1 places.1 known_within.0 (here [] 2 1 program_points points_are.0 places.0 (omega arith)))

-- ---- fields

-- where no record is opened, as after a `with`, no field is denoted
no_field_behind : (p : syntax.Program) (s : List ℕ) (point : Point) → IsOfRecord text p s [] point → ⊥
no_field_behind p s point t = none_before t.inner t.are
  where
    none_before : (inner : Opened text p s) → [] ≡ inner ++ (t.type, t.fields) ∷ t.outer → ⊥
    none_before [] e = cc
    none_before (x ∷ inner) e = cc

-- the field of an opened record is denoted in place of all names further out
opened_field : (p : syntax.Program) (v : List ℕ) (n : ℕ) (around : List Region) (s : List ℕ) (type : DataType)
    (fields : FieldList) (field : ℕ × DataType) (point : Point) → field_in fields s ≡ Some field
    → IsDenoted text p s v n around ((type, fields) ∷ []) point → IsOfRecord text p s ((type, fields) ∷ []) point
opened_field p v n around s type fields field point e (of_record t) = t
opened_field p v n around s type fields field point e (of_block none t) = absurd (none_some (sym none.0 ∙ e))
opened_field p v n around s type fields field point e (of_required none t) = absurd (none_some (sym none.0 ∙ e))

-- what is denoted there is not a field
not_a_field : (p : syntax.Program) (v : List ℕ) (n : ℕ) (around : List Region) (s : List ℕ) (which field : ℕ)
    (type of_field : DataType) → IsDenoted text p s v n around [] (FieldPoint which type field of_field) → ⊥
not_a_field p v n around s which field type of_field (of_record t) = no_field_behind p s
    (FieldPoint which type field of_field) t
not_a_field p v n around s which field type of_field (of_block none t) = (let clash = t.is in cc)
not_a_field p v n around s which field type of_field (of_required none t) = (let clash = t.is in cc)

-- Where a record with a field a is opened, a is that field; after the `with` it is the block's own a again.
abbrev fields_of_r : FieldList
fields_of_r = field_list (codes "a" ∷ []) (type_before (OrdinalType integer) no_type)

abbrev type_of_r : DataType
type_of_r = RecordType 0 false fields_of_r

abbrev with_own_a : Region
with_own_a = BlockRegion 0 (codes "a" ∷ codes "r" ∷ [])
    (VariableMeaning 0 (OrdinalType integer) ∷ VariableMeaning 1 type_of_r ∷ [])

within_the_with : (from : ℕ) → find (opened_regions ((type_of_r, fields_of_r) ∷ []) ++ with_own_a ∷ []) (codes "a") from
    ≡ Yes (FieldPoint 0 type_of_r 0 (OrdinalType integer))
unfolding find_past
within_the_with from = refl

behind_the_with : (from : ℕ) → find (opened_regions [] ++ with_own_a ∷ []) (codes "a") from ≡ Yes
    (BlockPoint 0 (VariableMeaning 0 (OrdinalType integer)))
unfolding find_past
behind_the_with from = refl

-- ---- a forward heading
--
--     program p;
--       procedure q; forward;
--       procedure r; begin end;      { path: 1 }
--       procedure q; begin end;      { path: 2 }
--       begin end.

abbrev bare : ℕ → ℕ → Heading
bare from to = roll-Heading (Heading-F.Procedure (at from to) [])

abbrev q_forward : Routine
q_forward = roll-Routine (Routine-F.Forward (bare 1 2))

abbrev q_completed : Routine
q_completed = roll-Routine (Routine-F.Whole (bare 1 2) empty)

abbrev forward_program : syntax.Program
forward_program = record {
  name = at 0 0;
  parameters = [];
  block = roll-Block (record {
    constants = [];
    types = [];
    variables = [];
    routines = q_forward ∷ r ∷ q_completed ∷ [];
    begin = at 0 0;
    statements = [];
  });
}

-- the program block defines q and r, each once
forward_names : (definitions_at text forward_program [] >>= (λ ds. Some (names_of text ds))) ≡ Some
    (codes "q" ∷ codes "r" ∷ [])
unfolding definitions_at first_declarations block_at definitions_of own_declarations variable_declarations
    introduced_from routine_names routine_name heading_name names_of
forward_names = simp (out-roll-Routine, out-roll-Heading) refl

-- the block of q has the number of its forward heading, which comes before r
forward_numbers : (number_at text forward_program (1 ∷ []) ≡ Some 2)
    × (number_at text forward_program (2 ∷ []) ≡ Some 1)
unfolding number_at first_number headings_before own_heading counted block_step definitions_at first_declarations
    block_at routine_block heading_of introducer definitions_of own_declarations variable_declarations introduced_from
    routine_names routine_name routine_heading heading_name heading_list section_points formal_points
    formal_declarations names_of
forward_numbers = simp (out-roll-Routine, out-roll-Heading, fold-roll-Routine) (refl, refl)

-- the second q is the block of the first
q_completes : Completes text q_forward q_completed
unfolding routine_name heading_name is_function is_bare
q_completes = record {
  heading = bare 1 2;
  forward = out-roll-Routine (Routine-F.Forward (bare 1 2));
  named = simp (out-roll-Routine, out-roll-Heading) refl;
  block = simp (out-roll-Routine, out-roll-Heading) refl;
}

-- two headings with blocks are not a forward heading and its block
no_second_block : Completes text q_completed q_completed → ⊥
no_second_block t = (let clash : Routine-F.Whole (bare 1 2) empty ≡ Routine-F.Forward t.heading = sym
    (out-roll-Routine (Routine-F.Whole (bare 1 2) empty)) ∙ t.forward in cc)

-- ---- uses in statements: `with r do a := q; a := q`

abbrev variable_at : ℕ → ℕ → Variable
variable_at from to = roll-Variable (record { name = at from to; selectors = [] })

abbrev value_at : ℕ → ℕ → Expr
value_at from to = roll-Expr (Expr-F.Simple (roll-Simple (record {
  sign = None;
  first = roll-Term (record {
    first = roll-Factor (Factor-F.Variable (variable_at from to));
    more = [];
  });
  more = [];
})))

abbrev set_a : Statement
set_a = roll-Statement (Statement-F.Assign (variable_at 0 1) (at 0 1) (value_at 1 2))

-- the names in order: r outside the `with`, a and q in it, with r open, and a and q after it
used_with : statements_uses (roll-Statement (Statement-F.With (variable_at 3 4 ∷ []) set_a) ∷ set_a ∷ [])
    ≡ record {
      name = at 3 4;
      opened = [];
    } ∷ record {
      name = at 0 1;
      opened = variable_at 3 4 ∷ [];
    } ∷ record {
      name = at 1 2;
      opened = variable_at 3 4 ∷ [];
    } ∷ record {
      name = at 0 1;
      opened = [];
    } ∷ record {
      name = at 1 2;
      opened = [];
    } ∷ []
used_with = simp (
  fold-roll-Statement,
  fold-roll-Expr,
  fold-roll-Simple,
  fold-roll-Term,
  fold-roll-Factor,
  fold-roll-Variable,
) refl

-- `with r, b do a := q`: b is opened within r, and the innermost comes first
used_with_two : statements_uses (roll-Statement (Statement-F.With (variable_at 3 4 ∷ variable_at 2 3 ∷ []) set_a) ∷ [])
    ≡ record {
      name = at 3 4;
      opened = [];
    } ∷ record {
      name = at 2 3;
      opened = variable_at 3 4 ∷ [];
    } ∷ record {
      name = at 0 1;
      opened = variable_at 2 3 ∷ variable_at 3 4 ∷ [];
    } ∷ record {
      name = at 1 2;
      opened = variable_at 2 3 ∷ variable_at 3 4 ∷ [];
    } ∷ []
used_with_two = simp (
  fold-roll-Statement,
  fold-roll-Expr,
  fold-roll-Simple,
  fold-roll-Term,
  fold-roll-Factor,
  fold-roll-Variable,
) refl

-- ---- uses in declarations: `record a: (q, r); b: s end`

abbrev field_of : ℕ → ℕ → TypeDenoter → Fields
field_of from to type = roll-Fields (record { names = at from to ∷ []; ty = type })

abbrev a_record : TypeDenoter
a_record = roll-TypeDenoter (TypeDenoter-F.Structure (roll-Structure (Structure-F.Record (at 0 0)
    (field_of 0 1 (roll-TypeDenoter (TypeDenoter-F.Ordinal (ordinal.Enumeration (at 0 0) (at 1 2 ∷ at 3 4 ∷ []))))
    ∷ field_of 2 3 (roll-TypeDenoter (TypeDenoter-F.Ordinal (ordinal.Name (at 4 5)))) ∷ []))))

-- s is used within the record type, which has the names a and b, and after the two constants
used_in_record : (declarations.type_part a_record).uses ≡ record {
  name = at 4 5;
  enclosing = (at 0 1 ∷ at 2 3 ∷ []) ∷ [];
  before = 2;
} ∷ []
unfolding declarations.ordinal_part
used_in_record = simp (fold-roll-TypeDenoter, fold-roll-Structure, fold-roll-Fields) refl

-- ---- uses in headings: `function q(b: a): r`

abbrev q_function : Heading
q_function = roll-Heading (Heading-F.Function (at 1 2) (roll-Section (Section-F.Value (at 2 3 ∷ []) (at 0 1)) ∷ [])
    (at 3 4))

-- the parameter's type is used within the list, which has the name b, and the result's after it
used_in_heading : (declarations.heading_part q_function).1 ≡ record {
  name = at 0 1;
  enclosing = (at 2 3 ∷ []) ∷ [];
  before = 0;
} ∷ record {
  name = at 3 4;
  enclosing = [];
  before = 0;
} ∷ []
used_in_heading = simp (fold-roll-Heading, fold-roll-Section) refl

-- ---- changes: of three routines the second is a forward heading; the third changes the entry 2 of the block around
-- its own, and an entry of its own

abbrev change : ℕ → ℕ → ℕ → Change
change up entry from = record { up = up; entry = entry; at = from }

abbrev their_changes : ℕ → List Change
their_changes k = if nat_eq k 2 then change 1 2 30 ∷ change 0 2 40 ∷ [] else []

changed_outside : changes_from their_changes 0 (r ∷ q_forward ∷ q_completed ∷ []) ≡ change 0 2 30 ∷ []
unfolding changes_from routine_block changes.outward
changed_outside = simp (out-roll-Routine) refl

-- so 2 can't be a control variable of the block's `for` statements, and 1 can
no_control : AreUnchanged (change 0 2 30 ∷ []) (2 ∷ []) → ⊥
no_control t = (let clash = t.0.0 in cc)

a_control : AreUnchanged (change 0 2 30 ∷ []) (1 ∷ [])
a_control = ((refl, tt), tt)

-- the control variables of nested `for` statements
abbrev counting : ℕ → Tree.Statement → Tree.Statement
counting entry body = Tree.For entry (pos 0) (pos 1) (Tree.Number (pos 0)) 1 To (Tree.Number (pos 1)) 1 body

nested_controls : statements_control (Tree.statement_before
    (counting 2 (Tree.Compound (Tree.statement_before (counting 1 Tree.Empty) Tree.no_statement))) Tree.no_statement)
    ≡ 2 ∷ 1 ∷ []
unfolding statements_loops statement_loops
nested_controls = refl
