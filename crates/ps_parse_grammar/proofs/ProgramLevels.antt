-- Headings, blocks and programs: what derives within n levels is at most n high, and what is at most n high derives
-- within n levels.
use Rattle.std.proofs.Common.{◌≡◌, ℕ, zero, suc, ◌≤◌, Bool, List, [], refl, arith}
use Rattle.ps_text.specs.declared.Span.{Span}
use Rattle.ps_scan.specs.declared.token.Kind.TheVariants as kind
use Rattle.ps_syntax.specs.declared.statement.Statement.{Statement}
use Rattle.ps_syntax.specs.declared.program.TypeDenoter.{TypeDenoter}
use Rattle.ps_syntax.specs.declared.program.TypeDefinition.{TypeDefinition}
use Rattle.ps_syntax.specs.declared.program.Variables.{Variables}
use Rattle.ps_syntax.specs.declared.program.Section.{Section}
use Rattle.ps_syntax.specs.declared.program.Heading.{Heading}
use Rattle.ps_syntax.specs.declared.program.Routine.{Routine}
use Rattle.ps_syntax.specs.declared.program.Block.{Block}
use Rattle.ps_syntax.specs.declared.program.Program.{Program}
use Rattle.ps_syntax.specs.Height.{height_of, height_of_type, height_of_statement, height_of_formals}
use Rattle.ps_syntax.specs.Height.{height_of_section, height_of_heading, height_of_routine, height_of_block}
use Rattle.ps_parse_grammar.specs.Symbols.{Tokens, Symbol, Many, Separated, one, several}
use Rattle.ps_parse_grammar.specs.Statements.{IsSequence, statement_within}
use Rattle.ps_parse_grammar.specs.Programs.{type_within, IsSection, value, variable, routine, IsFormals, absent}
use Rattle.ps_parse_grammar.specs.Programs.{present, IsFormalList, formals, IsHeading, procedure, function}
use Rattle.ps_parse_grammar.specs.Programs.{formals_within, heading_within, IsPart, IsTypeDefinition, definition}
use Rattle.ps_parse_grammar.specs.Programs.{IsVariables, variables, IsRoutine, whole, forward, completion, IsBlock}
use Rattle.ps_parse_grammar.specs.Programs.{parts, block_within, IsProgram, plain, listed, DerivesWithin, Derives}
use Rattle.ps_parse_grammar.proofs.Heights as height
use Rattle.ps_parse_grammar.proofs.Levels.{Level, greatest_of, no_level, many_level, separated_level, part_level}
use Rattle.ps_parse_grammar.proofs.ExpressionLevels.{exprs}
use Rattle.ps_parse_grammar.proofs.StatementLevels.{sequence_level, statements}
use Rattle.ps_parse_grammar.proofs.TypeLevels.{types}

-- ---- headings
module _ (P P' : Symbol (List Section)) (k n : ℕ) (l : Level P height_of_formals k n P') where
  optional_bounded : (y : List Section) (ts r : Tokens) → IsFormals P y ts r → height_of_formals y ≤ k
  optional_bounded y ts r absent = omega arith
  optional_bounded y ts r (present d) = l.bounded y ts r d

  optional_lowers : (y : List Section) (ts r : Tokens) → IsFormals P y ts r → height_of_formals y ≤ n
      → IsFormals P' y ts r
  optional_lowers y ts r absent le = absent
  optional_lowers y ts r (present d) le = present (l.lowers y ts r d le)

  heading_bounded : (y : Heading) (ts r : Tokens) → IsHeading P y ts r → height_of_heading y ≤ k
  heading_bounded y ts r (procedure {at = at} {xs = xs} {ts = q} d) = omega
      (arith, height.height-procedure at xs, optional_bounded xs q _ d)
  heading_bounded y ts r (function {at = at} {result = ty} {xs = xs} {ts = q} d) = omega
      (arith, height.height-function at xs ty, optional_bounded xs q _ d)

  heading_lowers : (y : Heading) (ts r : Tokens) → IsHeading P y ts r → height_of_heading y ≤ n → IsHeading P' y ts r
  heading_lowers y ts r (procedure {at = at} {xs = xs} {ts = q} d) le = procedure
      (optional_lowers xs q _ d (omega (arith, height.height-procedure at xs, le)))
  heading_lowers y ts r (function {at = at} {result = ty} {xs = xs} {ts = q} d) le = function
      (optional_lowers xs q _ d (omega (arith, height.height-function at xs ty, le)))

  heading_level : Level (IsHeading P) height_of_heading k n (IsHeading P')
  heading_level = record { bounded = heading_bounded; lowers = heading_lowers }

-- ---- formal lists, which are one higher than what they hold
some_formals : (H : Symbol Heading) (xs : List Section) (ts r : Tokens) → Separated kind.Semicolon (IsSection H) xs ts r
    → height_of_formals xs ≡ suc (greatest_of height_of_section xs)
some_formals H xs ts r (one d) = refl
some_formals H xs ts r (several d ds) = refl

module _ (H H' : Symbol Heading) (k n : ℕ) (l : Level H height_of_heading k n H') where
  section_bounded : (y : Section) (ts r : Tokens) → IsSection H y ts r → height_of_section y ≤ k
  section_bounded y ts r (value {at = at} {xs = xs} d) = omega (arith, height.height-value xs at)
  section_bounded y ts r (variable {at = at} {xs = xs} d) = omega (arith, height.height-variable_section xs at)
  section_bounded y ts r (routine {x = x} d) = omega (arith, height.height-routine_section x, l.bounded x ts r d)

  section_lowers : (y : Section) (ts r : Tokens) → IsSection H y ts r → height_of_section y ≤ n → IsSection H' y ts r
  section_lowers y ts r (value d) le = value d
  section_lowers y ts r (variable d) le = variable d
  section_lowers y ts r (routine {x = x} d) le = routine
      (l.lowers x ts r d (omega (arith, height.height-routine_section x, le)))

  sections_level : Level (Separated kind.Semicolon (IsSection H)) (greatest_of height_of_section) k n
      (Separated kind.Semicolon (IsSection H'))
  sections_level = separated_level (IsSection H) (IsSection H') height_of_section k n (record {
    bounded = section_bounded;
    lowers = section_lowers;
  }) kind.Semicolon

  list_bounded : (y : List Section) (ts r : Tokens) → IsFormalList H y ts r → height_of_formals y ≤ suc k
  list_bounded y ts r (formals {ts = q} d) = omega (arith, some_formals H y q _ d, sections_level.bounded y q _ d)

  list_lowers : (y : List Section) (ts r : Tokens) → IsFormalList H y ts r → height_of_formals y ≤ suc n
      → IsFormalList H' y ts r
  list_lowers y ts r (formals {ts = q} d) le = formals
      (sections_level.lowers y q _ d (omega (arith, some_formals H y q _ d, le)))

  list_level : Level (IsFormalList H) height_of_formals (suc k) (suc n) (IsFormalList H')
  list_level = record { bounded = list_bounded; lowers = list_lowers }

some_list : (H : Symbol Heading) (y : List Section) (ts r : Tokens) → IsFormalList H y ts r → 1 ≤ height_of_formals y
some_list H y ts r (formals {ts = q} d) = omega (arith, some_formals H y q _ d)

formal_lists : (k n : ℕ) → Level (formals_within k) height_of_formals k n (formals_within n)
formal_lists zero n = no_level height_of_formals zero n (formals_within n)
formal_lists (suc k) zero = record {
  bounded = (let h = list_level (heading_within k) (heading_within zero) k zero
      (heading_level (formals_within k) (formals_within zero) k zero (formal_lists k zero)) in h.bounded);
  lowers = λ x ts r d le. absurd (omega (arith, some_list _ x ts r d, le));
}
formal_lists (suc k) (suc n) = list_level (heading_within k) (heading_within n) k n
    (heading_level (formals_within k) (formals_within n) k n (formal_lists k n))

headings : (k n : ℕ) → Level (heading_within k) height_of_heading k n (heading_within n)
headings k n = heading_level (formals_within k) (formals_within n) k n (formal_lists k n)

-- ---- declarations
module _ (T T' : Symbol TypeDenoter) (k n : ℕ) (l : Level T height_of_type k n T') where
  definition_level : Level (IsTypeDefinition T) (λ (d : TypeDefinition). height_of_type d.ty) k n (IsTypeDefinition T')
  definition_level = record { bounded = bounded; lowers = lowers }
    where
      bounded : (y : TypeDefinition) (ts r : Tokens) → IsTypeDefinition T y ts r → height_of_type y.ty ≤ k
      bounded y ts r (definition {x = x} {ts = q} d) = l.bounded x q _ d

      lowers : (y : TypeDefinition) (ts r : Tokens) → IsTypeDefinition T y ts r → height_of_type y.ty ≤ n
          → IsTypeDefinition T' y ts r
      lowers y ts r (definition {x = x} {ts = q} d) le = definition (l.lowers x q _ d le)

  variables_level : Level (IsVariables T) (λ (d : Variables). height_of_type d.ty) k n (IsVariables T')
  variables_level = record { bounded = bounded; lowers = lowers }
    where
      bounded : (y : Variables) (ts r : Tokens) → IsVariables T y ts r → height_of_type y.ty ≤ k
      bounded y ts r (variables {x = x} {m = m} d d') = l.bounded x m _ d'

      lowers : (y : Variables) (ts r : Tokens) → IsVariables T y ts r → height_of_type y.ty ≤ n → IsVariables T' y ts r
      lowers y ts r (variables {x = x} {m = m} d d') le = variables d (l.lowers x m _ d' le)

-- ---- blocks, which are one higher than what they hold
module _ (f : Span → Bool) where
  module _ (B B' : Symbol Block) (k n : ℕ) (l : Level B height_of_block k n B') where
    routine_bounded : (y : Routine) (ts r : Tokens) → IsRoutine f (heading_within k) B y ts r → height_of_routine y ≤ k
    routine_bounded y ts r (whole {x = x} {b = b} {m = m} d d') =
        (let h = headings k n in omega (arith, height.height-whole x b, h.bounded x ts _ d, l.bounded b m _ d'))
    routine_bounded y ts r (forward {x = x} d e) =
        (let h = headings k n in omega (arith, height.height-forward x, h.bounded x ts _ d))
    routine_bounded y ts r (completion {at = at} {b = b} {ts = q} d) = omega
        (arith, height.height-completion at b, l.bounded b q _ d)

    routine_lowers : (y : Routine) (ts r : Tokens) → IsRoutine f (heading_within k) B y ts r → height_of_routine y ≤ n
        → IsRoutine f (heading_within n) B' y ts r
    routine_lowers y ts r (whole {x = x} {b = b} {m = m} d d') le =
        (let h = headings k n in whole (h.lowers x ts _ d (omega (arith, height.height-whole x b, le)))
        (l.lowers b m _ d' (omega (arith, height.height-whole x b, le))))
    routine_lowers y ts r (forward {x = x} d e) le =
        (let h = headings k n in forward (h.lowers x ts _ d (omega (arith, height.height-forward x, le))) e)
    routine_lowers y ts r (completion {at = at} {b = b} {ts = q} d) le = completion
        (l.lowers b q _ d (omega (arith, height.height-completion at b, le)))

    routines_level : Level (Many (IsRoutine f (heading_within k) B)) (greatest_of height_of_routine) k n
        (Many (IsRoutine f (heading_within n) B'))
    routines_level = many_level (IsRoutine f (heading_within k) B)
        (IsRoutine f (heading_within n) B') height_of_routine k n (record {
          bounded = routine_bounded;
          lowers = routine_lowers;
        })

    types_level : Level (IsPart kind.Type (IsTypeDefinition (type_within k)))
        (greatest_of (λ (d : TypeDefinition). height_of_type d.ty)) k n
        (IsPart kind.Type (IsTypeDefinition (type_within n)))
    types_level = part_level (IsTypeDefinition (type_within k)) (IsTypeDefinition (type_within n))
        (λ (d : TypeDefinition). height_of_type d.ty) k n
        (definition_level (type_within k) (type_within n) k n (types k n)) kind.Type

    declared_level : Level (IsPart kind.Var (IsVariables (type_within k)))
        (greatest_of (λ (d : Variables). height_of_type d.ty)) k n (IsPart kind.Var (IsVariables (type_within n)))
    declared_level = part_level (IsVariables (type_within k)) (IsVariables (type_within n))
        (λ (d : Variables). height_of_type d.ty) k n
        (variables_level (type_within k) (type_within n) k n (types k n)) kind.Var

    body_level : Level (IsSequence (statement_within k)) (greatest_of height_of_statement) k n
        (IsSequence (statement_within n))
    body_level = sequence_level _ _ k n (exprs k n) (statement_within k) (statement_within n) (statements k n)

    block_bounded : (y : Block) (ts r : Tokens) → IsBlock f (type_within k) (heading_within k)
        (statement_within k) B y ts r → height_of_block y ≤ suc k
    block_bounded y ts r (parts cs us vs rs begin ss {a = a} {b = b} {c = c} {d = q} constants d1 d2 d3 d4) =
        omega (
          arith,
          height.height-block cs us vs rs begin ss,
          types_level.bounded us a b d1,
          declared_level.bounded vs
              b c d2,
          routines_level.bounded rs c _ d3,
          body_level.bounded ss q _ d4,
        )

    block_lowers : (y : Block) (ts r : Tokens) → IsBlock f (type_within k) (heading_within k)
        (statement_within k) B y ts r → height_of_block y ≤ suc n → IsBlock f (type_within n) (heading_within n)
        (statement_within n) B' y ts r
    block_lowers y ts r (parts cs us vs rs begin ss {a = a} {b = b} {c = c} {d = q} constants d1 d2 d3 d4) le =
        let e = height.height-block cs us vs rs begin ss in
        parts cs us vs rs begin ss constants (types_level.lowers us a b d1 (omega (arith, e, le)))
        (declared_level.lowers vs b c d2 (omega (arith, e, le)))
        (routines_level.lowers rs c _ d3 (omega (arith, e, le)))
        (body_level.lowers ss q _ d4 (omega (arith, e, le)))

    block_level : Level (IsBlock f (type_within k) (heading_within k) (statement_within k) B) height_of_block (suc k)
        (suc n) (IsBlock f (type_within n) (heading_within n) (statement_within n) B')
    block_level = record { bounded = block_bounded; lowers = block_lowers }

  some_height : (T : Symbol TypeDenoter) (H : Symbol Heading) (S : Bool → Symbol Statement) (B : Symbol Block)
      (y : Block) (ts r : Tokens) → IsBlock f T H S B y ts r → 1 ≤ height_of_block y
  some_height T H S B y ts r (parts cs us vs rs begin ss d0 d1 d2 d3 d4) = omega
      (arith, height.height-block cs us vs rs begin ss)

  blocks : (k n : ℕ) → Level (block_within f k) height_of_block k n (block_within f n)
  blocks zero n = no_level height_of_block zero n (block_within f n)
  blocks (suc k) zero = record {
    bounded = (let h = block_level (block_within f k) (block_within f zero) k zero (blocks k zero) in h.bounded);
    lowers = λ x ts r d le. absurd (omega (arith, some_height _ _ _ _ x ts r d, le));
  }
  blocks (suc k) (suc n) = block_level (block_within f k) (block_within f n) k n (blocks k n)

  -- ---- programs
  program_bounded : (n : ℕ) (y : Program) (ts r : Tokens) → IsProgram f (block_within f n) y ts r → height_of y ≤ n
  program_bounded n y ts r (plain {b = b} {ts = q} d) = (let h = blocks n n in h.bounded b q _ d)
  program_bounded n y ts r (listed {b = b} {m = m} d d') = (let h = blocks n n in h.bounded b m _ d')

  program_lowers : (k n : ℕ) (y : Program) (ts r : Tokens) → IsProgram f (block_within f k) y ts r → height_of y ≤ n
      → IsProgram f (block_within f n) y ts r
  program_lowers k n y ts r (plain {b = b} {ts = q} d) le = (let h = blocks k n in plain (h.lowers b q _ d le))
  program_lowers k n y ts r (listed {b = b} {m = m} d d') le = (let h = blocks k n in listed d (h.lowers b m _ d' le))

  pub within_is_low : (n : ℕ) (ts : Tokens) (p : Program) → DerivesWithin f n ts p → Derives f ts p × (height_of p ≤ n)
  within_is_low n ts p d = ((n, d), program_bounded n p ts [] d)

  pub low_is_within : (n : ℕ) (ts : Tokens) (p : Program) → Derives f ts p × (height_of p ≤ n) → DerivesWithin f n ts p
  low_is_within n ts p (d, le) = program_lowers d.0 n p ts [] d.1 le
