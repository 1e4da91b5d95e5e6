-- Declarations of routines are read exactly.
use Rattle.std.proofs.Common.{◌≡◌, ℕ, ◌<◌, Bool, true, false, if◌then◌else◌, List, [], ◌∷◌, length, Ok, inl, inr, refl}
use Rattle.std.proofs.Common.{sym, ◌∙◌, subst, arith}
use Rattle.ps_text.specs.declared.Span.{Span}
use Rattle.ps_scan.specs.declared.token.Kind.{Kind}
use Rattle.ps_scan.specs.declared.token.Kind.TheVariants as k
use Rattle.ps_scan.specs.Kinds.{same}
use Rattle.ps_syntax.specs.declared.program.Section.{Section}
use Rattle.ps_syntax.specs.declared.program.Heading.{Heading}
use Rattle.ps_syntax.specs.declared.program.Routine.{Routine}
use Rattle.ps_syntax.specs.declared.program.Routine.TheVariants as q
use Rattle.ps_syntax.specs.declared.program.Block.{Block}
use Rattle.ps_parse_grammar.specs.Symbols.{Tokens, Symbol, token, Many, none, more}
use Rattle.ps_parse_grammar.specs.Programs.{IsFormals, absent, present, IsHeading, procedure, function}
use Rattle.ps_parse_grammar.specs.Programs.{IsRoutine, whole, forward, completion}
use Rattle.ps_parse.specs.Steps.{Parser, sees, expect, many, if_begins, pure, refuse_from}
use Rattle.ps_parse.specs.ReadPrograms as read
use Rattle.ps_parse.proofs.Exact.{Exact, both_steps, in_steps, at_last, expect_sound, expect_complete, eat_found}
use Rattle.ps_parse.proofs.Exact.{eat_missed, eat_sound, accept_found, accept_missed, accept_sound}
use Rattle.ps_parse.proofs.Lists.{many_exact, option_exact}
use Rattle.ps_parse.proofs.ExactConstants.{Anything}
use Rattle.ps_parse.proofs.ExactHeadings.{FormalsLevel, heading_shrinks, named_complete, named_sound}
use Rattle.ps_parse.proofs.ExactHeadings.{procedure_complete, procedure_sound, semicolon_no_paren}
use Rattle.ps_parse.proofs.ExactDefinitions.{Later, later_unseen, later_weaker, seen_other}

-- ---- routines
module _ (is_forward : Span → Bool) (F : Symbol (List Section)) (p : Parser (List Section)) (l : FormalsLevel F p)
    (B : Symbol Block) (pb : Parser Block) (hb : Exact Anything B pb)
    (begins : (b : Block) (ts r : Tokens) → B b ts r → Later 1 ts) where
  abbrev pub Heads : Symbol Heading
  Heads = IsHeading F

  -- what is read of a routine before its semicolon
  abbrev Before : Routine → Tokens → Tokens → Type 0
  Before y ts m = (end : Span) (r : Tokens) → m ≡ token k.Semicolon end ∷ r → IsRoutine is_forward Heads B y ts r

  forward_case : (left : ℕ) (b : Bool) (x : Heading) (at semicolon : Span) (start ts : Tokens) (y : Routine)
      (m : Tokens) → is_forward at ≡ b → Heads x start (token k.Semicolon semicolon ∷ token k.Name at ∷ ts)
      → (if b then pure (q.Forward x) else refuse_from left) ts ≡ Ok (y, m) → Before y start m
  forward_case left true x at semicolon start ts y m f d e =
      at_last Before start (q.Forward x) y ts m e
      (λ end r g. forward (subst (λ z. Heads x start (token k.Semicolon semicolon ∷ token k.Name at ∷ z)) g d) f)
  forward_case left false x at semicolon start ts y m f d e = cc

  after_sound : (x : Heading) (semicolon : Span) (start ts : Tokens) (y : Routine) (m : Tokens) → Heads x start
      (token k.Semicolon semicolon ∷ ts) → read.after_heading is_forward p pb x ts ≡ Ok (y, m) → Before y start m
  unfolding read.after_heading
  after_sound x semicolon start ts y m d e =
      elim (accept_sound k.Name ts _ y m e) [
        | inl w ↦ forward_case (length ts) (is_forward w.0) x w.0 semicolon start w.1 y m refl
            (subst (λ z. Heads x start (token k.Semicolon semicolon ∷ z)) w.2 d) w.3
        | inr w ↦ (let b = both_steps (pb ts) _ y m w.1 in
            at_last Before start (q.Whole x b.0) y b.1 m b.3
            (λ end r g. whole d (subst (λ z. B b.0 ts z) g (hb.sound ts b.0 b.1 b.2))))
      ]

  procedure_routine_sound : (word : Span) (ts : Tokens) (y : Routine) (m : Tokens)
      → read.procedure_routine is_forward p pb ts ≡ Ok (y, m) → Before y (token k.Procedure word ∷ ts) m
  unfolding read.procedure_routine
  procedure_routine_sound word ts y m e =
      let a = both_steps (read.procedure p ts) _ y m e in
      let b = both_steps (expect k.Semicolon a.1) _ y m a.3 in
      after_sound a.0 b.0 (token k.Procedure word ∷ ts) b.1 y m
      (subst (λ z. Heads a.0 (token k.Procedure word ∷ ts) z) (expect_sound k.Semicolon a.1 b.0 b.1 b.2)
      (procedure_sound F p l.exact l.begins word ts a.0 a.1 a.2)) b.3

  function_routine_sound : (word : Span) (ts : Tokens) (y : Routine) (m : Tokens)
      → read.function_routine is_forward p pb ts ≡ Ok (y, m) → Before y (token k.Function word ∷ ts) m
  unfolding read.function_routine
  function_routine_sound word ts y m e =
      let a = both_steps (expect k.Name ts) _ y m e in
      subst (λ z. Before y (token k.Function word ∷ z) m) (sym (expect_sound k.Name ts a.0 a.1 a.2)) (
      elim (eat_sound k.Semicolon a.1 _ y m a.3) [
        | inl w ↦ (let b = both_steps (pb w.1) _ y m w.3 in
            subst (λ z. Before y (token k.Function word ∷ token k.Name a.0 ∷ z) m) (sym w.2)
            (at_last Before (token k.Function word ∷ token k.Name a.0 ∷ token k.Semicolon w.0 ∷ w.1)
            (q.Completion a.0 b.0) y b.1 m b.3 (λ end r g. completion
            (subst (λ z. B b.0 w.1 z) g (hb.sound w.1 b.0 b.1 b.2)))))
        | inr w ↦ (let b = both_steps (read.function_named p a.0 a.1) _ y m w in
            let f = both_steps (expect k.Semicolon b.1) _ y m b.3 in
            after_sound b.0 f.0 (token k.Function word ∷ token k.Name a.0 ∷ a.1) f.1 y m
            (subst (λ z. Heads b.0 (token k.Function word ∷ token k.Name a.0 ∷ a.1) z)
            (expect_sound k.Semicolon b.1 f.0 f.1 f.2) (named_sound F p l.exact l.begins word a.0 a.1 b.0 b.1 b.2))
            f.3)
      ])

  routine_by_sound : (kind : Kind) (at : Span) (ts : Tokens) (y : Routine) (m : Tokens)
      → read.routine_by is_forward p pb kind (token kind at ∷ ts) ≡ Ok (y, m) → Before y (token kind at ∷ ts) m
  routine_by_sound k.Procedure at ts y m e = procedure_routine_sound at ts y m e
  routine_by_sound k.Function at ts y m e = function_routine_sound at ts y m e
  routine_by_sound kind at ts y m e = cc

  routine_head_sound : (ts : Tokens) (y : Routine) (m : Tokens) → read.routine_head is_forward p pb ts ≡ Ok (y, m)
      → Before y ts m
  unfolding read.routine_head
  routine_head_sound [] y m e = cc
  routine_head_sound (t ∷ ts) y m e = routine_by_sound t.kind t.span ts y m e

  routine_sound : (ts : Tokens) (y : Routine) (r : Tokens) → read.routine is_forward p pb ts ≡ Ok (y, r)
      → IsRoutine is_forward Heads B y ts r
  unfolding read.routine
  routine_sound ts y r e =
      in_steps (read.routine_head is_forward p pb ts) _ y r e (λ a0 a1 a2 a3.
      in_steps (expect k.Semicolon a1) _ y r a3 (λ b0 b1 b2 b3.
      at_last (IsRoutine is_forward Heads B) ts a0 y b1 r b3
      (routine_head_sound ts a0 a1 a2 b0 b1 (expect_sound k.Semicolon a1 b0 b1 b2))))

  formals_no_semicolon : (xs : List Section) (colon : Span) (ts m : Tokens) → IsFormals F xs ts
      (token k.Colon colon ∷ m) → sees k.Semicolon ts ≡ false
  unfolding same
  formals_no_semicolon xs colon ts m absent = refl
  formals_no_semicolon xs colon ts m (present d) = seen_other k.LeftParen k.Semicolon ts (λ e. cc) (l.begins xs ts _ d)

  whole_complete : (x : Heading) (b : Block) (m n : Tokens) → B b m n → read.after_heading is_forward p pb x m ≡ Ok
      (q.Whole x b, n)
  unfolding read.after_heading
  whole_complete x b m n d = accept_missed k.Name m _ (later_unseen 1 k.Name m (begins b m n d) (omega arith)) ∙ rw
      (hb.complete b m n d tt) refl

  forward_complete : (x : Heading) (at : Span) (n : Tokens) → is_forward at ≡ true
      → read.after_heading is_forward p pb x (token k.Name at ∷ n) ≡ Ok (q.Forward x, n)
  unfolding read.after_heading
  forward_complete x at n f = accept_found k.Name at n _ ∙ rw f refl

  -- a heading, its semicolon and what follows
  headed_complete : (x : Heading) (semicolon : Span) (ts m n : Tokens) (y : Routine) → Heads x ts
      (token k.Semicolon semicolon ∷ m) → read.after_heading is_forward p pb x m ≡ Ok (y, n)
      → read.routine_head is_forward p pb ts ≡ Ok (y, n)
  unfolding read.routine_head read.procedure_routine read.function_routine
  headed_complete x semicolon ts m n y (procedure {at = at} {xs = xs} {ts = a} d) e =
      rw (
        procedure_complete F p l.exact l.begins at xs a (token k.Semicolon semicolon ∷ m) d
            (semicolon_no_paren semicolon m),
        expect_complete k.Semicolon semicolon m,
      ) e
  headed_complete x semicolon ts m n y (function {at = at} {colon = colon} {result = result} {xs = xs} {ts = a} d) e =
      rw (expect_complete k.Name at a) (eat_missed k.Semicolon a _
      (formals_no_semicolon xs colon a (token k.Name result ∷ token k.Semicolon semicolon ∷ m) d)
      ∙ rw (
        named_complete F p l.exact l.begins at colon result xs a
            (token k.Semicolon semicolon ∷ m) d,
        expect_complete k.Semicolon semicolon m,
      ) e)

  completed : (word at semicolon : Span) (b : Block) (ts n : Tokens) → B b ts n → read.routine_head is_forward p pb
      (token k.Function word ∷ token k.Name at ∷ token k.Semicolon semicolon ∷ ts) ≡ Ok (q.Completion at b, n)
  unfolding read.routine_head read.function_routine
  completed word at semicolon b ts n d = rw (expect_complete k.Name at (token k.Semicolon semicolon ∷ ts))
      (eat_found k.Semicolon semicolon ts _ ∙ rw (hb.complete b ts n d tt) refl)

  routine_complete : (y : Routine) (ts r : Tokens) → IsRoutine is_forward Heads B y ts r → Anything r
      → read.routine is_forward p pb ts ≡ Ok (y, r)
  unfolding read.routine
  routine_complete y ts r (whole {x = x} {b = b} {semicolon = semicolon} {end = end} {m = m} d d') n =
      rw (
        headed_complete x semicolon ts m (token k.Semicolon end ∷ r) (q.Whole x b) d
            (whole_complete x b m (token k.Semicolon end ∷ r) d'),
        expect_complete k.Semicolon end r,
      ) refl
  routine_complete y ts r (forward {x = x} {semicolon = semicolon} {at = at} {end = end} d f) n =
      rw (
        headed_complete x semicolon ts (token k.Name at ∷ token k.Semicolon end ∷ r) (token k.Semicolon end ∷ r)
            (q.Forward x) d (forward_complete x at (token k.Semicolon end ∷ r) f),
        expect_complete k.Semicolon end r,
      ) refl
  routine_complete y ts r (completion {word = word} {at = at} {semicolon = semicolon} {end = end} {b = b} {ts = a} d) n
      =
      rw (completed word at semicolon b a (token k.Semicolon end ∷ r) d, expect_complete k.Semicolon end r) refl

  routine_shrinks : (y : Routine) (ts r : Tokens) → IsRoutine is_forward Heads B y ts r → length r < length ts
  routine_shrinks y ts r (whole {x = x} {b = b} {semicolon = semicolon} {end = end} {m = m} d d') = omega (
    arith,
    heading_shrinks F p l.exact l.begins x ts (token k.Semicolon semicolon ∷ m) d,
    hb.shrinks b m
        (token k.Semicolon end ∷ r) d',
  )
  routine_shrinks y ts r (forward {x = x} {semicolon = semicolon} {at = at} {end = end} d f) = omega (
    arith,
    heading_shrinks F p l.exact l.begins x ts
        (token k.Semicolon semicolon ∷ token k.Name at ∷ token k.Semicolon end ∷ r) d,
  )
  routine_shrinks y ts r (completion {end = end} {b = b} {ts = a} d) = omega
      (arith, hb.shrinks b a (token k.Semicolon end ∷ r) d)

  heading_begins : (x : Heading) (ts r : Tokens) → Heads x ts r → Later 4 ts × (read.begins_routine ts ≡ true)
  unfolding same
  heading_begins x ts r (procedure d) = (omega arith, refl)
  heading_begins x ts r (function d) = (omega arith, refl)

  routine_begins : (y : Routine) (ts r : Tokens) → IsRoutine is_forward Heads B y ts r → Later 4 ts
      × (read.begins_routine ts ≡ true)
  unfolding same
  routine_begins y ts r (whole {x = x} d d') = heading_begins x ts _ d
  routine_begins y ts r (forward {x = x} d f) = heading_begins x ts _ d
  routine_begins y ts r (completion d) = (omega arith, refl)

  no_routine : (ts : Tokens) → Later 5 ts → read.begins_routine ts ≡ false
  no_routine ts n = rw (later_unseen 5 k.Procedure ts n (omega arith), later_unseen 5 k.Function ts n (omega arith))
      refl

  pub routines_exact : Exact (Later 5) (Many (IsRoutine is_forward Heads B))
      (many (if_begins read.begins_routine (read.routine is_forward p pb)))
  routines_exact = many_exact Anything (Later 5) (IsRoutine is_forward Heads B)
      (if_begins read.begins_routine (read.routine is_forward p pb))
      (option_exact Anything (Later 5) read.begins_routine (IsRoutine is_forward Heads B) (read.routine is_forward p pb)
      (record {
        sound = routine_sound;
        complete = routine_complete;
        shrinks = λ y ts r d. omega (arith, routine_shrinks y ts r d);
      })
      (λ y ts r d. (routine_begins y ts r d).1) no_routine (λ x ts r d. tt) (λ ts o. tt) routine_shrinks)

  pub routines_later : (rs : List Routine) (ts r : Tokens) → Many (IsRoutine is_forward Heads B) rs ts r → Later 5 r
      → Later 4 ts
  routines_later rs ts r none n = later_weaker 4 5 r (omega arith) n
  routines_later rs ts r (more {x = x} {m = m} d ds) n = (routine_begins x ts m d).0
