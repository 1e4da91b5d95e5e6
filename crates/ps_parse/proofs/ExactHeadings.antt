-- Headings and lists of formal parameters are read exactly.
use Rattle.std.proofs.Common.{◌≡◌, ℕ, zero, suc, ◌<◌, ◌≤◌, Bool, true, false, if◌then◌else◌, List, [], ◌∷◌, length, Ok}
use Rattle.std.proofs.Common.{refl, sym, ap, ◌∙◌, subst, arith}
use Rattle.ps_text.specs.declared.Span.{Span}
use Rattle.ps_scan.specs.declared.token.Kind.{Kind}
use Rattle.ps_scan.specs.declared.token.Kind.TheVariants as k
use Rattle.ps_scan.specs.Kinds.{same}
use Rattle.ps_syntax.specs.declared.program.Section.{Section}
use Rattle.ps_syntax.specs.declared.program.Section.TheVariants as x
use Rattle.ps_syntax.specs.declared.program.Heading.{Heading}
use Rattle.ps_syntax.specs.declared.program.Heading.TheVariants as h
use Rattle.ps_parse_grammar.specs.Symbols.{Tokens, Symbol, token, Separated, one, several}
use Rattle.ps_parse_grammar.specs.Programs.{name, IsNames, IsSection, value, variable, routine, IsFormals, absent}
use Rattle.ps_parse_grammar.specs.Programs.{present, IsFormalList, formals, IsHeading, procedure, function}
use Rattle.ps_parse_grammar.specs.Programs.{formals_within}
use Rattle.ps_parse.specs.Steps.{Parser, sees, expect, separated}
use Rattle.ps_parse.specs.ReadPrograms as read
use Rattle.ps_parse.proofs.Exact.{Exact, both_steps, in_steps, at_last, expect_sound, expect_complete, refused}
use Rattle.ps_parse.proofs.Lists.{separated_exact}
use Rattle.ps_parse.proofs.ExactConstants.{Anything}
use Rattle.ps_parse.proofs.ExactTypes.{names_exact, colon_no_comma}

abbrev pub NoParen : Tokens → Type 0
NoParen r = sees k.LeftParen r ≡ false

abbrev NoSemicolon : Tokens → Type 0
NoSemicolon r = sees k.Semicolon r ≡ false

colon_no_paren : (at : Span) (m : Tokens) → NoParen (token k.Colon at ∷ m)
unfolding same
colon_no_paren at m = refl

pub semicolon_no_paren : (at : Span) (m : Tokens) → NoParen (token k.Semicolon at ∷ m)
unfolding same
semicolon_no_paren at m = refl

abbrev EndsSections : Tokens → Type 0
EndsSections r = NoParen r × NoSemicolon r

at_paren : (at : Span) (m : Tokens) → EndsSections (token k.RightParen at ∷ m)
unfolding same
at_paren at m = (refl, refl)

module _ (F : Symbol (List Section)) (p : Parser (List Section)) (i : Exact Anything F p)
    (begins : (xs : List Section) (ts r : Tokens) → F xs ts r → sees k.LeftParen ts ≡ true) where
  chosen_sound : (b : Bool) (ts : Tokens) (xs : List Section) (r : Tokens) → (if b then p ts else Ok ([], ts)) ≡ Ok
      (xs, r) → IsFormals F xs ts r
  chosen_sound true ts xs r e = present (i.sound ts xs r e)
  chosen_sound false ts xs r e = at_last (IsFormals F) ts [] xs ts r e absent

  optional_sound : (ts : Tokens) (xs : List Section) (r : Tokens) → read.optional_formals p ts ≡ Ok (xs, r)
      → IsFormals F xs ts r
  unfolding read.optional_formals
  optional_sound ts xs r e = chosen_sound (sees k.LeftParen ts) ts xs r e

  optional_complete : (xs : List Section) (ts r : Tokens) → IsFormals F xs ts r → NoParen r → read.optional_formals p ts
      ≡ Ok (xs, r)
  unfolding read.optional_formals
  optional_complete xs ts r absent n = rw n refl
  optional_complete xs ts r (present d) n = rw (begins xs ts r d) (i.complete xs ts r d tt)

  optional_shrinks : (xs : List Section) (ts r : Tokens) → IsFormals F xs ts r → length r ≤ length ts
  optional_shrinks xs ts r absent = omega arith
  optional_shrinks xs ts r (present d) = i.shrinks xs ts r d

  pub procedure_sound : (word : Span) (ts : Tokens) (y : Heading) (r : Tokens) → read.procedure p ts ≡ Ok (y, r)
      → IsHeading F y (token k.Procedure word ∷ ts) r
  unfolding read.procedure
  procedure_sound word ts y r e =
      in_steps (expect k.Name ts) _ y r e (λ a0 a1 a2 a3.
      in_steps (read.optional_formals p a1) _ y r a3 (λ b0 b1 b2 b3.
      subst (λ z. IsHeading F y (token k.Procedure word ∷ z) r) (sym (expect_sound k.Name ts a0 a1 a2))
      (at_last (IsHeading F) _ _ y b1 r b3 (procedure (optional_sound a1 b0 b1 b2)))))

  pub named_sound : (word at : Span) (ts : Tokens) (y : Heading) (r : Tokens) → read.function_named p at ts ≡ Ok (y, r)
      → IsHeading F y (token k.Function word ∷ token k.Name at ∷ ts) r
  unfolding read.function_named
  named_sound word at ts y r e =
      in_steps (read.optional_formals p ts) _ y r e (λ b0 b1 b2 b3.
      in_steps (expect k.Colon b1) _ y r b3 (λ f0 f1 f2 f3.
      in_steps (expect k.Name f1) _ y r f3 (λ g0 g1 g2 g3.
      let end = expect_sound k.Colon b1 f0 f1 f2 ∙ ap (λ (z : Tokens). token k.Colon f0 ∷ z)
      (expect_sound k.Name f1 g0 g1 g2) in
      at_last (IsHeading F) _ _ y g1 r g3 (function
      (subst (λ z. IsFormals F b0 ts z) end (optional_sound ts b0 b1 b2))))))

  function_sound : (word : Span) (ts : Tokens) (y : Heading) (r : Tokens) → read.function p ts ≡ Ok (y, r)
      → IsHeading F y (token k.Function word ∷ ts) r
  unfolding read.function
  function_sound word ts y r e =
      let a = both_steps (expect k.Name ts) _ y r e in
      subst (λ z. IsHeading F y (token k.Function word ∷ z) r) (sym (expect_sound k.Name ts a.0 a.1 a.2))
      (named_sound word a.0 a.1 y r a.3)

  pub procedure_complete : (at : Span) (xs : List Section) (ts r : Tokens) → IsFormals F xs ts r → NoParen r
      → read.procedure p (token k.Name at ∷ ts) ≡ Ok (h.Procedure at xs, r)
  unfolding read.procedure
  procedure_complete at xs ts r d n = rw (expect_complete k.Name at ts, optional_complete xs ts r d n) refl

  pub named_complete : (at colon result : Span) (xs : List Section) (ts r : Tokens) → IsFormals F xs ts
      (token k.Colon colon ∷ token k.Name result ∷ r) → read.function_named p at ts ≡ Ok (h.Function at xs result, r)
  unfolding read.function_named
  named_complete at colon result xs ts r d =
      rw (
        optional_complete xs ts (token k.Colon colon ∷ token k.Name result ∷ r) d
            (colon_no_paren colon (token k.Name result ∷ r)),
        expect_complete k.Colon colon
            (token k.Name result ∷ r),
        expect_complete k.Name result r,
      ) refl

  function_complete : (at colon result : Span) (xs : List Section) (ts r : Tokens) → IsFormals F xs ts
      (token k.Colon colon ∷ token k.Name result ∷ r) → read.function p (token k.Name at ∷ ts) ≡ Ok
      (h.Function at xs result, r)
  unfolding read.function
  function_complete at colon result xs ts r d = rw (expect_complete k.Name at ts)
      (named_complete at colon result xs ts r d)

  pub heading_shrinks : (y : Heading) (ts r : Tokens) → IsHeading F y ts r → length r < length ts
  heading_shrinks y ts r (procedure {xs = xs} {ts = l} d) = omega (arith, optional_shrinks xs l r d)
  heading_shrinks y ts r (function {colon = colon} {result = result} {xs = xs} {ts = l} d) = omega
      (arith, optional_shrinks xs l (token k.Colon colon ∷ token k.Name result ∷ r) d)

  -- ---- sections
  value_sound : (ts : Tokens) (y : Section) (r : Tokens) → read.value_section p ts ≡ Ok (y, r) → IsSection
      (IsHeading F) y ts r
  unfolding read.value_section
  value_sound ts y r e =
      in_steps (read.names ts) _ y r e (λ b0 b1 b2 b3.
      in_steps (expect k.Colon b1) _ y r b3 (λ f0 f1 f2 f3.
      in_steps (expect k.Name f1) _ y r f3 (λ g0 g1 g2 g3.
      let end = expect_sound k.Colon b1 f0 f1 f2 ∙ ap (λ (z : Tokens). token k.Colon f0 ∷ z)
      (expect_sound k.Name f1 g0 g1 g2) in
      at_last (IsSection (IsHeading F)) _ _ y g1 r g3
      (value (subst (λ z. IsNames b0 ts z) end (names_exact.sound ts b0 b1 b2))))))

  variable_sound : (at : Span) (ts : Tokens) (y : Section) (r : Tokens) → read.variable_section p ts ≡ Ok (y, r)
      → IsSection (IsHeading F) y (token k.Var at ∷ ts) r
  unfolding read.variable_section
  variable_sound at ts y r e =
      in_steps (read.names ts) _ y r e (λ b0 b1 b2 b3.
      in_steps (expect k.Colon b1) _ y r b3 (λ f0 f1 f2 f3.
      in_steps (expect k.Name f1) _ y r f3 (λ g0 g1 g2 g3.
      let end = expect_sound k.Colon b1 f0 f1 f2 ∙ ap (λ (z : Tokens). token k.Colon f0 ∷ z)
      (expect_sound k.Name f1 g0 g1 g2) in
      at_last (IsSection (IsHeading F)) _ _ y g1 r g3
      (variable (subst (λ z. IsNames b0 ts z) end (names_exact.sound ts b0 b1 b2))))))

  section_by_sound : (kind : Kind) (at : Span) (ts : Tokens) (y : Section) (r : Tokens) → read.section_by p kind
      (token kind at ∷ ts) ≡ Ok (y, r) → IsSection (IsHeading F) y (token kind at ∷ ts) r
  section_by_sound k.Var at ts y r e = variable_sound at ts y r e
  section_by_sound k.Procedure at ts y r e =
      (let b = both_steps (read.procedure p ts) _ y r e in at_last (IsSection (IsHeading F)) _ _ y b.1 r b.3
      (routine (procedure_sound at ts b.0 b.1 b.2)))
  section_by_sound k.Function at ts y r e = (let b = both_steps (read.function p ts) _ y r e in at_last
      (IsSection (IsHeading F)) _ _ y b.1 r b.3 (routine (function_sound at ts b.0 b.1 b.2)))
  section_by_sound kind at ts y r e = value_sound (token kind at ∷ ts) y r e

  section_sound : (ts : Tokens) (y : Section) (r : Tokens) → read.section p ts ≡ Ok (y, r) → IsSection
      (IsHeading F) y ts r
  unfolding read.section
  section_sound [] y r e = cc
  section_sound (t ∷ ts) y r e = section_by_sound t.kind t.span ts y r e

  as_value : (xs : List Span) (ts r : Tokens) → IsNames xs ts r → read.section p ts ≡ read.value_section p ts
  unfolding read.section
  as_value xs ts r (one name) = refl
  as_value xs ts r (several name ds) = refl

  value_complete : (xs : List Span) (colon at : Span) (ts r : Tokens) → IsNames xs ts
      (token k.Colon colon ∷ token k.Name at ∷ r) → read.value_section p ts ≡ Ok (x.Value xs at, r)
  unfolding read.value_section
  value_complete xs colon at ts r d = rw (
    names_exact.complete xs ts (token k.Colon colon ∷ token k.Name at ∷ r) d
        (colon_no_comma colon (token k.Name at ∷ r)),
    expect_complete k.Colon colon
        (token k.Name at ∷ r),
    expect_complete k.Name at r,
  ) refl

  section_complete : (y : Section) (ts r : Tokens) → IsSection (IsHeading F) y ts r → NoParen r → read.section p ts ≡ Ok
      (y, r)
  unfolding read.section read.variable_section
  section_complete y ts r (value {colon = colon} {at = at} {xs = xs} d) n = as_value xs ts _ d
      ∙ value_complete xs colon at ts r d
  section_complete y ts r (variable {colon = colon} {at = at} {xs = xs} {ts = l} d) n =
      rw (
        names_exact.complete xs l (token k.Colon colon ∷ token k.Name at ∷ r) d
            (colon_no_comma colon (token k.Name at ∷ r)),
        expect_complete k.Colon colon
            (token k.Name at ∷ r),
        expect_complete k.Name at r,
      ) refl
  section_complete y ts r (routine (procedure {at = at} {xs = xs} {ts = l} d)) n = rw
      (procedure_complete at xs l r d n) refl
  section_complete y ts r (routine (function {at = at} {colon = colon} {result = result} {xs = xs} {ts = l} d)) n = rw
      (function_complete at colon result xs l r d) refl

  section_shrinks : (y : Section) (ts r : Tokens) → IsSection (IsHeading F) y ts r → length r ≤ length ts
  section_shrinks y ts r (value {colon = colon} {at = at} {xs = xs} d) = omega
      (arith, names_exact.shrinks xs ts (token k.Colon colon ∷ token k.Name at ∷ r) d)
  section_shrinks y ts r (variable {colon = colon} {at = at} {xs = xs} {ts = l} d) = omega
      (arith, names_exact.shrinks xs l (token k.Colon colon ∷ token k.Name at ∷ r) d)
  section_shrinks y ts r (routine {x = z} d) = omega (arith, heading_shrinks z ts r d)

  sections_exact : Exact EndsSections (Separated k.Semicolon (IsSection (IsHeading F)))
      (separated k.Semicolon (read.section p))
  sections_exact = separated_exact NoParen EndsSections k.Semicolon (IsSection (IsHeading F)) (read.section p) (record {
    sound = section_sound;
    complete = section_complete;
    shrinks = section_shrinks;
  }) semicolon_no_paren (λ r o. o.0) (λ r o. o.1)

  list_sound : (ts : Tokens) (xs : List Section) (r : Tokens) → read.formal_list p ts ≡ Ok (xs, r) → IsFormalList
      (IsHeading F) xs ts r
  unfolding read.formal_list
  list_sound ts xs r e =
      let a = both_steps (expect k.LeftParen ts) _ xs r e in
      let b = both_steps (separated k.Semicolon (read.section p) a.1) _ xs r a.3 in
      let f = both_steps (expect k.RightParen b.1) _ xs r b.3 in
      subst (λ z. IsFormalList (IsHeading F) xs z r) (sym (expect_sound k.LeftParen ts a.0 a.1 a.2))
      (at_last (IsFormalList (IsHeading F)) _ _ xs f.1 r f.3
      (formals (subst (λ z. Separated k.Semicolon (IsSection (IsHeading F)) b.0 a.1 z)
      (expect_sound k.RightParen b.1 f.0 f.1 f.2) (sections_exact.sound a.1 b.0 b.1 b.2))))

  list_complete : (xs : List Section) (ts r : Tokens) → IsFormalList (IsHeading F) xs ts r → Anything r
      → read.formal_list p ts ≡ Ok (xs, r)
  unfolding read.formal_list
  list_complete xs ts r (formals {left = left} {right = right} {ts = l} d) n =
      rw (
        expect_complete k.LeftParen left l,
        sections_exact.complete xs l (token k.RightParen right ∷ r) d
            (at_paren right r),
        expect_complete k.RightParen right r,
      ) refl

  list_shrinks : (xs : List Section) (ts r : Tokens) → IsFormalList (IsHeading F) xs ts r → length r ≤ length ts
  list_shrinks xs ts r (formals {right = right} {ts = l} d) = omega
      (arith, sections_exact.shrinks xs l (token k.RightParen right ∷ r) d)

  pub list_begins : (xs : List Section) (ts r : Tokens) → IsFormalList (IsHeading F) xs ts r → sees k.LeftParen ts
      ≡ true
  unfolding same
  list_begins xs ts r (formals d) = refl

  pub list_exact : Exact Anything (IsFormalList (IsHeading F)) (read.formal_list p)
  list_exact = record { sound = list_sound; complete = list_complete; shrinks = list_shrinks }

pub record FormalsLevel (F : Symbol (List Section)) (p : Parser (List Section)) : Type 0 where
  pub exact : Exact Anything F p
  pub begins : (xs : List Section) (ts r : Tokens) → F xs ts r → sees k.LeftParen ts ≡ true

pub formals_level : (n : ℕ) → FormalsLevel (formals_within n) (read.read_formals n)
unfolding read.read_formals
formals_level zero = record { exact = refused Anything; begins = λ xs ts r d. absurd d }
formals_level (suc n) = let l = formals_level n in record {
  exact = list_exact (formals_within n) (read.read_formals n) l.exact l.begins;
  begins = list_begins (formals_within n) (read.read_formals n) l.exact l.begins;
}
