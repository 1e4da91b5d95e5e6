-- Blocks and programs are read exactly.
use Rattle.std.proofs.Common.{◌≡◌, ℕ, zero, suc, ◌≤◌, Bool, List, [], ◌∷◌, length, Ok, inl, inr, refl, sym, ap, ◌∙◌}
use Rattle.std.proofs.Common.{subst, arith}
use Rattle.ps_text.specs.declared.Span.{Span}
use Rattle.ps_scan.specs.declared.token.Kind.TheVariants as k
use Rattle.ps_scan.specs.Kinds.{same}
use Rattle.ps_syntax.specs.declared.program.TypeDenoter.{TypeDenoter}
use Rattle.ps_syntax.specs.declared.program.Section.{Section}
use Rattle.ps_syntax.specs.declared.program.Routine.{Routine}
use Rattle.ps_syntax.specs.declared.statement.Statement.{Statement}
use Rattle.ps_syntax.specs.declared.program.Block.{Block}
use Rattle.ps_syntax.specs.declared.program.Program.{Program}
use Rattle.ps_parse_grammar.specs.Symbols.{Tokens, Symbol, token, Many}
use Rattle.ps_parse_grammar.specs.Statements.{IsSequence, statement_within}
use Rattle.ps_parse_grammar.specs.Programs.{IsNames, IsHeading, formals_within, IsPart}
use Rattle.ps_parse_grammar.specs.Programs.{IsConstantDefinition, IsTypeDefinition, IsVariables, IsRoutine}
use Rattle.ps_parse_grammar.specs.Programs.{IsBlock, parts, block_within, IsProgram, plain, listed, DerivesWithin}
use Rattle.ps_parse_grammar.specs.Programs.{type_within}
use Rattle.ps_parse.specs.Steps.{Parser, expect, separated, many, part, if_begins}
use Rattle.ps_parse.specs.ReadStatements.{read_statement}
use Rattle.ps_parse.specs.ReadPrograms as read
use Rattle.ps_parse.proofs.Exact.{Exact, first_part, second_part, both_steps, in_steps, at_last, expect_sound}
use Rattle.ps_parse.proofs.Exact.{expect_complete, eat_found, eat_missed, eat_sound, refused}
use Rattle.ps_parse.proofs.ExactConstants.{Anything}
use Rattle.ps_parse.proofs.ExactStatements.{EndsSequence, sequence_exact_within}
use Rattle.ps_parse.proofs.ExactTypes.{names_exact, paren_no_comma, NoRange, type_exact_within}
use Rattle.ps_parse.proofs.ExactHeadings.{FormalsLevel, formals_level}
use Rattle.ps_parse.proofs.ExactDefinitions.{Later, constants_exact, part_later, types_exact, variables_exact}
use Rattle.ps_parse.proofs.ExactRoutines.{routines_exact, routines_later}

-- ---- blocks
at_end : (at : Span) (m : Tokens) → EndsSequence (token k.End at ∷ m)
unfolding same
at_end at m = ((omega arith, refl), refl)

pub record BlockLevel (B : Symbol Block) (pb : Parser Block) : Type 0 where
  pub exact : Exact Anything B pb
  pub begins : (b : Block) (ts r : Tokens) → B b ts r → Later 1 ts

module _ (is_forward : Span → Bool) (T : Symbol TypeDenoter) (pt : Parser TypeDenoter) (ht : Exact NoRange T pt)
    (F : Symbol (List Section)) (pf : Parser (List Section)) (fl : FormalsLevel F pf)
    (S : Bool → Symbol Statement) (ps : Parser Statement)
    (hs : Exact EndsSequence (IsSequence S) (separated k.Semicolon ps)) (B : Symbol Block) (pb : Parser Block)
    (bl : BlockLevel B pb) where
  abbrev Whole : Symbol Block
  Whole = IsBlock is_forward T (IsHeading F) S B

  abbrev read_whole : Parser Block
  read_whole = read.any_block is_forward pt pf ps pb

  rs : Exact (Later 5) (Many (IsRoutine is_forward (IsHeading F) B))
      (many (if_begins read.begins_routine (read.routine is_forward pf pb)))
  rs = routines_exact is_forward F pf fl B pb bl.exact bl.begins

  ts_exact : Exact (Later 3) (IsPart k.Type (IsTypeDefinition T))
      (part k.Type read.begins_name (read.type_definition pt))
  ts_exact = types_exact T pt ht

  vs_exact : Exact (Later 4) (IsPart k.Var (IsVariables T)) (part k.Var read.begins_name (read.variables pt))
  vs_exact = variables_exact T pt ht

  block_sound : (ts : Tokens) (y : Block) (r : Tokens) → read_whole ts ≡ Ok (y, r) → Whole y ts r
  unfolding read.any_block
  block_sound ts y r e =
      in_steps (part k.Const read.begins_name read.constant_definition ts) _ y r e (λ a0 a1 a2 a3.
      in_steps (part k.Type read.begins_name (read.type_definition pt) a1) _ y r a3 (λ b0 b1 b2 b3.
      in_steps (part k.Var read.begins_name (read.variables pt) b1) _ y r b3 (λ c0 c1 c2 c3.
      in_steps (many (if_begins read.begins_routine (read.routine is_forward pf pb)) c1) _ y r c3 (λ d0 d1 d2 d3.
      in_steps (expect k.Begin d1) _ y r d3 (λ f0 f1 f2 f3.
      in_steps (separated k.Semicolon ps f1) _ y r f3 (λ g0 g1 g2 g3.
      in_steps (expect k.End g1) _ y r g3 (λ u0 u1 u2 u3.
      at_last Whole ts _ y u1 r u3 (parts a0 b0 c0 d0 f0 g0 (constants_exact.sound ts a0 a1 a2)
      (ts_exact.sound a1 b0 b1 b2) (vs_exact.sound b1 c0 c1 c2)
      (subst (λ z. Many (IsRoutine is_forward (IsHeading F) B) d0 c1 z) (expect_sound k.Begin d1 f0 f1 f2)
      (rs.sound c1 d0 d1 d2))
      (subst (λ z. IsSequence S g0 f1 z) (expect_sound k.End g1 u0 u1 u2) (hs.sound f1 g0 g1 g2))))))))))

  begin_later : (at : Span) (m : Tokens) → Later 5 (token k.Begin at ∷ m)
  begin_later at m = omega arith

  later_c : (xs : List Routine) (begin : Span) (c d : Tokens) → Many (IsRoutine is_forward (IsHeading F) B) xs c
      (token k.Begin begin ∷ d) → Later 4 c
  later_c xs begin c d h = routines_later is_forward F pf fl B pb bl.exact bl.begins xs c (token k.Begin begin ∷ d) h
      (begin_later begin d)

  block_complete : (y : Block) (ts r : Tokens) → Whole y ts r → Anything r → read_whole ts ≡ Ok (y, r)
  unfolding read.any_block
  block_complete y ts r (parts cs types vs routines begin ss {end = end} {a = a} {b = b} {c = c} {d = d} d1 d2 d3 d4 d5)
      o =
      let lc = later_c routines begin c d d4 in let lb = part_later k.Var (IsVariables T) vs b c d3 lc
      in let la = part_later k.Type (IsTypeDefinition T) types a b d2 lb in
      rw (
        constants_exact.complete cs ts a d1 la,
        ts_exact.complete types a b d2 lb,
        vs_exact.complete vs b c d3 lc,
        rs.complete routines c (token k.Begin begin ∷ d) d4 (begin_later begin d),
        expect_complete k.Begin begin d,
        hs.complete ss d (token k.End end ∷ r) d5 (at_end end r),
        expect_complete k.End end r,
      ) refl

  block_shrinks : (y : Block) (ts r : Tokens) → Whole y ts r → length r ≤ length ts
  block_shrinks y ts r (parts cs types vs routines begin ss {end = end} {a = a} {b = b} {c = c} {d = d} d1 d2 d3 d4 d5)
      =
      omega (
        arith,
        constants_exact.shrinks cs ts a d1,
        ts_exact.shrinks types a b d2,
        vs_exact.shrinks vs b c d3,
        rs.shrinks routines c (token k.Begin begin ∷ d) d4,
        hs.shrinks ss d (token k.End end ∷ r) d5,
      )

  block_begins : (y : Block) (ts r : Tokens) → Whole y ts r → Later 1 ts
  block_begins y ts r (parts cs types vs routines begin ss {end = end} {a = a} {b = b} {c = c} {d = d} d1 d2 d3 d4 d5) =
      part_later k.Const IsConstantDefinition cs ts a d1
      (part_later k.Type (IsTypeDefinition T) types a b d2
      (part_later k.Var (IsVariables T) vs b c d3 (later_c routines begin c d d4)))

  pub next_block : BlockLevel Whole read_whole
  next_block = record {
    exact = record {
      sound = block_sound;
      complete = block_complete;
      shrinks = block_shrinks;
    };
    begins = block_begins;
  }

pub block_level : (is_forward : Span → Bool) (n : ℕ) → BlockLevel (block_within is_forward n)
    (read.read_block is_forward n)
unfolding read.read_block
block_level is_forward zero = record { exact = refused Anything; begins = λ b ts r d. absurd d }
block_level is_forward (suc n) = next_block is_forward (type_within n) (read.read_type n) (type_exact_within n)
    (formals_within n) (read.read_formals n) (formals_level n) (statement_within n) (read_statement n)
    (sequence_exact_within n)
    (block_within is_forward n) (read.read_block is_forward n) (block_level is_forward n)

-- ---- programs
module _ (is_forward : Span → Bool) (B : Symbol Block) (pb : Parser Block) (hb : Exact Anything B pb) where
  program_names_sound : (at : Span) (ts : Tokens) (xs : List Span) (m : Tokens) (semicolon : Span) (l : Tokens)
      (b : Block) (r : Tokens) (word dot : Span) → read.program_names is_forward pb ts ≡ Ok (xs, m) → m
      ≡ token k.Semicolon semicolon ∷ l → B b l (token k.Dot dot ∷ r)
      → IsProgram is_forward B (record {
        name = at;
        parameters = xs;
        block = b;
      }) (token k.Program word ∷ token k.Name at ∷ ts) r
  unfolding read.program_names
  program_names_sound at ts xs m semicolon l b r word dot e g d =
      elim (eat_sound k.LeftParen ts _ xs m e) [
        | inl w ↦ (let a = both_steps (read.names w.1) _ xs m w.3 in
            let f = both_steps (expect k.RightParen a.1) _ xs m a.3 in
            let end = expect_sound k.RightParen a.1 f.0 f.1 f.2 ∙ ap (λ (z : Tokens). token k.RightParen f.0 ∷ z)
            (second_part a.0 xs f.1 m f.3 ∙ g) in
            let all = subst (λ z. IsNames z w.1 (token k.RightParen f.0 ∷ token k.Semicolon semicolon ∷ l))
            (first_part a.0 xs f.1 m f.3) (subst (λ z. IsNames a.0 w.1 z) end (names_exact.sound w.1 a.0 a.1 a.2))
            in
            subst (λ z. IsProgram is_forward B (record {
              name = at;
              parameters = xs;
              block = b;
            }) (token k.Program word ∷ token k.Name at ∷ z) r) (sym w.2) (listed all d))
        | inr w ↦ (let start = second_part [] xs ts m w ∙ g in
            subst (λ z. IsProgram is_forward B (record {
              name = at;
              parameters = xs;
              block = b;
            }) (token k.Program word ∷ token k.Name at ∷ z) r) (sym start)
            (subst (λ (z : List Span). IsProgram is_forward B (record {
              name = at;
              parameters = z;
              block = b;
            }) (token k.Program word ∷ token k.Name at ∷ token k.Semicolon semicolon ∷ l) r) (first_part [] xs ts m w)
            (plain d)))
      ]

  pub program_sound : (ts : Tokens) (y : Program) (r : Tokens) → read.program is_forward pb ts ≡ Ok (y, r)
      → IsProgram is_forward B y ts r
  unfolding read.program
  program_sound ts y r e =
      in_steps (expect k.Program ts) _ y r e (λ a0 a1 a2 a3.
      in_steps (expect k.Name a1) _ y r a3 (λ b0 b1 b2 b3.
      in_steps (read.program_names is_forward pb b1) _ y r b3 (λ c0 c1 c2 c3.
      in_steps (expect k.Semicolon c1) _ y r c3 (λ d0 d1 d2 d3.
      in_steps (pb d1) _ y r d3 (λ f0 f1 f2 f3.
      in_steps (expect k.Dot f1) _ y r f3 (λ g0 g1 g2 g3.
      let head = expect_sound k.Program ts a0 a1 a2 ∙ ap (λ (z : Tokens). token k.Program a0 ∷ z)
      (expect_sound k.Name a1 b0 b1 b2) in
      subst (λ z. IsProgram is_forward B y z r) (sym head) (at_last (IsProgram is_forward B) _ _ y g1 r g3
      (program_names_sound b0 b1 c0 c1 d0 d1 f0 g1 a0 g0 c2 (expect_sound k.Semicolon c1 d0 d1 d2)
      (subst (λ z. B f0 d1 z) (expect_sound k.Dot f1 g0 g1 g2) (hb.sound d1 f0 f1 f2))))))))))

  no_names : (semicolon : Span) (m : Tokens) → read.program_names is_forward pb (token k.Semicolon semicolon ∷ m) ≡ Ok
      ([], token k.Semicolon semicolon ∷ m)
  unfolding read.program_names same
  no_names semicolon m = eat_missed k.LeftParen (token k.Semicolon semicolon ∷ m) _ refl

  some_names : (left right : Span) (xs : List Span) (l m : Tokens) → IsNames xs l (token k.RightParen right ∷ m)
      → read.program_names is_forward pb (token k.LeftParen left ∷ l) ≡ Ok (xs, m)
  unfolding read.program_names
  some_names left right xs l m d = eat_found k.LeftParen left l _ ∙ rw (
    names_exact.complete xs l (token k.RightParen right ∷ m) d
        (paren_no_comma right m),
    expect_complete k.RightParen right m,
  ) refl

  pub program_complete : (y : Program) (ts r : Tokens) → IsProgram is_forward B y ts r → read.program is_forward pb ts
      ≡ Ok (y, r)
  unfolding read.program
  program_complete y ts r (plain {word = word} {at = at} {semicolon = semicolon} {dot = dot} {b = b} {ts = l} d) =
      rw (
        expect_complete k.Program word (token k.Name at ∷ token k.Semicolon semicolon ∷ l),
        expect_complete k.Name at
            (token k.Semicolon semicolon ∷ l),
        no_names semicolon l,
        expect_complete k.Semicolon semicolon l,
        hb.complete
            b l (token k.Dot dot ∷ r) d tt,
        expect_complete k.Dot dot r,
      ) refl
  program_complete y ts r (listed {word = word} {at = at} {left = left} {right = right} {semicolon = semicolon}
      {dot = dot} {xs = xs} {b = b} {ts = l} {m = m} d d') =
      rw (
        expect_complete k.Program word (token k.Name at ∷ token k.LeftParen left ∷ l),
        expect_complete k.Name at
            (token k.LeftParen left ∷ l),
        some_names left right xs l
            (token k.Semicolon semicolon ∷ m) d,
        expect_complete k.Semicolon semicolon m,
        hb.complete b m
            (token k.Dot dot ∷ r) d' tt,
        expect_complete k.Dot dot r,
      ) refl

-- What is read of all tokens is the program that derives from them, and the only one.
pub reads_derived : (is_forward : Span → Bool) (n : ℕ) (ts : Tokens) (y : Program) → read.program is_forward
    (read.read_block is_forward n) ts ≡ Ok (y, []) → DerivesWithin is_forward n ts y
reads_derived is_forward n ts y e = program_sound is_forward (block_within is_forward n) (read.read_block is_forward n)
    ((block_level is_forward n).exact) ts y [] e

pub derived_is_read : (is_forward : Span → Bool) (n : ℕ) (ts : Tokens) (y : Program) → DerivesWithin is_forward n ts y
    → read.program is_forward (read.read_block is_forward n) ts ≡ Ok (y, [])
derived_is_read is_forward n ts y d = program_complete is_forward (block_within is_forward n)
    (read.read_block is_forward n) ((block_level is_forward n).exact) y ts [] d
