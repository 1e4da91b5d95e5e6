-- Members of sets, selectors and factors are read exactly.
use Rattle.std.proofs.Common.{◌≡◌, ◌<◌, ◌≤◌, false, List, [], ◌∷◌, length, Option, Some, None, Ok, inl, inr, refl, sym}
use Rattle.std.proofs.Common.{◌∙◌, subst, arith}
use Rattle.ps_text.specs.declared.Span.{Span}
use Rattle.ps_scan.specs.declared.token.Kind.{Kind}
use Rattle.ps_scan.specs.declared.token.Kind.TheVariants as k
use Rattle.ps_scan.specs.declared.token.Token.{Token}
use Rattle.ps_scan.specs.Kinds.{same}
use Rattle.ps_syntax.specs.declared.expression.Expr.{Expr}
use Rattle.ps_syntax.specs.declared.expression.Factor.{Factor}
use Rattle.ps_syntax.specs.declared.expression.Selector.{Selector}
use Rattle.ps_syntax.specs.declared.expression.Selector.TheVariants as s
use Rattle.ps_syntax.specs.declared.expression.Member.{Member}
use Rattle.ps_parse_grammar.specs.Symbols.{Tokens, Symbol, token, Many, Separated, none, more, one, several}
use Rattle.ps_parse_grammar.specs.Expressions.{IsMember, single, range, IsSelector, index, field, content, IsVariable}
use Rattle.ps_parse_grammar.specs.Expressions.{selected, IsFactor, variable, call, number, text, nil, empty, set, group}
use Rattle.ps_parse_grammar.specs.Expressions.{not}
use Rattle.ps_parse.specs.Steps.{Parser, and_then, sees, expect, separated, many}
use Rattle.ps_parse.specs.ReadExpressions as read
use Rattle.ps_parse.proofs.Exact.{Exact, Perhaps, both_steps, in_steps, at_last, expect_sound, expect_complete}
use Rattle.ps_parse.proofs.Exact.{eat_found, eat_missed, eat_sound}
use Rattle.ps_parse.proofs.Lists.{many_exact, separated_exact}
use Rattle.ps_parse.proofs.Ends.{Ends, binds, unseen, loose}

-- after a member and after a list
abbrev pub EndsMember : Tokens → Type 0
EndsMember r = Ends 1 r × (sees k.DotDot r ≡ false)

abbrev pub EndsList : Tokens → Type 0
EndsList r = Ends 1 r × (sees k.Comma r ≡ false)

abbrev pub EndsMembers : Tokens → Type 0
EndsMembers r = EndsMember r × (sees k.Comma r ≡ false)

at_bracket : (at : Span) (r : Tokens) → EndsList (token k.RightBracket at ∷ r)
unfolding same
at_bracket at r = (loose, refl)

at_paren : (at : Span) (r : Tokens) → EndsList (token k.RightParen at ∷ r)
unfolding same
at_paren at r = (loose, refl)

at_bracket_members : (at : Span) (r : Tokens) → EndsMembers (token k.RightBracket at ∷ r)
unfolding same
at_bracket_members at r = ((loose, refl), refl)

module _ (E : Symbol Expr) (p : Parser Expr) (h : Exact (Ends 1) E p) where
  exprs_exact : Exact EndsList (Separated k.Comma E) (separated k.Comma p)
  exprs_exact = separated_exact (Ends 1) EndsList k.Comma E p h (λ at m. loose) (λ r o. o.0) (λ r o. o.1)

  -- ---- members

  member_sound : (ts : Tokens) (y : Member) (r : Tokens) → read.member p ts ≡ Ok (y, r) → IsMember E y ts r
  unfolding read.member
  member_sound ts y r e =
      let b = both_steps (p ts) _ y r e in
      elim (eat_sound k.DotDot b.1 _ y r b.3) [
        | inl w ↦ (let c = both_steps (p w.1) _ y r w.3 in
            at_last (IsMember E) ts _ y c.1 r c.3 (range (subst (λ q. E b.0 ts q) w.2 (h.sound ts b.0 b.1 b.2))
            (h.sound w.1 c.0 c.1 c.2)))
        | inr w ↦ at_last (IsMember E) ts _ y b.1 r w (single (h.sound ts b.0 b.1 b.2))
      ]

  member_complete : (y : Member) (ts r : Tokens) → IsMember E y ts r → EndsMember r → read.member p ts ≡ Ok (y, r)
  unfolding read.member
  member_complete y ts r (single {x = x} d) o = rw (h.complete x ts r d o.0) (eat_missed k.DotDot r _ o.1)
  member_complete y ts r (range {x = x} {y = z} {m = m} {at = at} d d') o = rw
      (h.complete x ts (token k.DotDot at ∷ m) d loose) (eat_found k.DotDot at m _ ∙ rw (h.complete z m r d' o.0) refl)

  member_shrinks : (y : Member) (ts r : Tokens) → IsMember E y ts r → length r ≤ length ts
  member_shrinks y ts r (single {x = x} d) = h.shrinks x ts r d
  member_shrinks y ts r (range {x = x} {y = z} {m = m} {at = at} d d') = omega
      (arith, h.shrinks x ts (token k.DotDot at ∷ m) d, h.shrinks z m r d')

  member_exact : Exact EndsMember (IsMember E) (read.member p)
  member_exact = record { sound = member_sound; complete = member_complete; shrinks = member_shrinks }

  between_members : (at : Span) (m : Tokens) → EndsMember (token k.Comma at ∷ m)
  unfolding same
  between_members at m = (loose, refl)

  members_exact : Exact EndsMembers (Separated k.Comma (IsMember E)) (separated k.Comma (read.member p))
  members_exact = separated_exact EndsMember EndsMembers k.Comma (IsMember E)
      (read.member p) member_exact between_members (λ r o. o.0) (λ r o. o.1)

  -- ---- selectors

  index_sound : (ts : Tokens) (at : Span) (y : Selector) (r : Tokens) → read.index p ts ≡ Ok (y, r) → IsSelector E y
      (token k.LeftBracket at ∷ ts) r
  unfolding read.index
  index_sound ts at y r e =
      in_steps (separated k.Comma p ts) _ y r e (λ b0 b1 b2 b3.
      in_steps (expect k.RightBracket b1) _ y r b3 (λ c0 c1 c2 c3.
      at_last (IsSelector E) _ _ y c1 r c3 (index
      (subst (λ q. Separated k.Comma E b0 ts q) (expect_sound k.RightBracket b1 c0 c1 c2)
      (exprs_exact.sound ts b0 b1 b2)))))

  selector_by_sound : (kind : Kind) (at : Span) (ts : Tokens) (o : Option Selector) (r : Tokens)
      → read.selector_by p kind at (token kind at ∷ ts) ≡ Ok (o, r) → Perhaps (IsSelector E) o (token kind at ∷ ts) r
  selector_by_sound k.LeftBracket at ts o r e = let b = both_steps (read.index p ts) _ o r e in at_last
      (Perhaps (IsSelector E)) _ (Some b.0) o b.1 r b.3 (index_sound ts at b.0 b.1 b.2)
  selector_by_sound k.Dot at ts o r e =
      let b = both_steps (expect k.Name ts) _ o r e in
      at_last (Perhaps (IsSelector E)) _ (Some (s.Field b.0)) o b.1 r b.3
      (subst (λ q. IsSelector E (s.Field b.0) (token k.Dot at ∷ q) b.1)
      (sym (expect_sound k.Name ts b.0 b.1 b.2)) field)
  selector_by_sound k.Caret at ts o r e = at_last (Perhaps (IsSelector E)) _ (Some (s.Content at)) o ts r e content
  selector_by_sound kind at ts o r e = at_last (Perhaps (IsSelector E)) _ None o (token kind at ∷ ts) r e refl

  selector_sound : (ts : Tokens) (o : Option Selector) (r : Tokens) → read.selector p ts ≡ Ok (o, r) → Perhaps
      (IsSelector E) o ts r
  unfolding read.selector
  selector_sound [] o r e = at_last (Perhaps (IsSelector E)) [] None o [] r e refl
  selector_sound (t ∷ ts) o r e = selector_by_sound t.kind t.span ts o r e

  selector_complete : (x : Selector) (ts r : Tokens) → IsSelector E x ts r → Unit {0} → read.selector p ts ≡ Ok
      (Some x, r)
  unfolding read.selector read.index
  selector_complete x ts r (index {left = left} {right = right} {xs = xs} {ts = m} d) o = rw (
    exprs_exact.complete xs m (token k.RightBracket right ∷ r) d
        (at_bracket right r),
    expect_complete k.RightBracket right r,
  ) refl
  selector_complete x ts r (field {at = at}) o = rw (expect_complete k.Name at r) refl
  selector_complete x ts r content o = refl

  no_selector : (kind : Kind) (t : Token) (ts : Tokens) → binds kind < 4 → read.selector_by p kind t.span (t ∷ ts) ≡ Ok
      (None, t ∷ ts)
  no_selector k.LeftBracket t ts h = absurd (omega arith)
  no_selector k.Dot t ts h = absurd (omega arith)
  no_selector k.Caret t ts h = absurd (omega arith)
  no_selector kind t ts h = refl

  selector_absent : (ts : Tokens) → Ends 4 ts → read.selector p ts ≡ Ok (None, ts)
  unfolding read.selector
  selector_absent [] o = refl
  selector_absent (t ∷ ts) o = no_selector t.kind t ts o

  selector_shrinks : (x : Selector) (ts r : Tokens) → IsSelector E x ts r → length r < length ts
  selector_shrinks x ts r (index {left = left} {right = right} {xs = xs} {ts = m} d) = omega
      (arith, exprs_exact.shrinks xs m (token k.RightBracket right ∷ r) d)
  selector_shrinks x ts r field = omega arith
  selector_shrinks x ts r content = omega arith

  pub selectors_exact : Exact (Ends 4) (Many (IsSelector E)) (many (read.selector p))
  selectors_exact = many_exact (λ _. Unit {0}) (Ends 4) (IsSelector E) (read.selector p) (record {
    sound = selector_sound;
    complete = selector_complete;
    absent = selector_absent;
    starts = λ x ts r d. tt;
    weaker = λ ts o. tt;
    shrinks = selector_shrinks;
  })

  -- no parenthesis follows the name of a variable
  pub no_call : (xs : List Selector) (ts r : Tokens) → Many (IsSelector E) xs ts r → Ends 4 r → sees k.LeftParen ts
      ≡ false
  unfolding same
  no_call xs ts r none o = unseen 4 k.LeftParen r o (omega arith)
  no_call xs ts r (more (index d) ds) o = refl
  no_call xs ts r (more field ds) o = refl
  no_call xs ts r (more content ds) o = refl

  -- ---- factors
  module _ (F : Symbol Factor) (q : Parser Factor) (i : Exact (Ends 4) F q)
      (begins : (x : Expr) (ts r : Tokens) → E x ts r → sees k.RightBracket ts ≡ false) where
    call_sound : (at left : Span) (ts : Tokens) (y : Factor) (r : Tokens) → read.call p at ts ≡ Ok (y, r)
        → IsFactor E F y (token k.Name at ∷ token k.LeftParen left ∷ ts) r
    unfolding read.call
    call_sound at left ts y r e =
        in_steps (separated k.Comma p ts) _ y r e (λ b0 b1 b2 b3.
        in_steps (expect k.RightParen b1) _ y r b3 (λ c0 c1 c2 c3.
        at_last (IsFactor E F) _ _ y c1 r c3 (call
        (subst (λ z. Separated k.Comma E b0 ts z) (expect_sound k.RightParen b1 c0 c1 c2)
        (exprs_exact.sound ts b0 b1 b2)))))

    named_sound : (at : Span) (ts : Tokens) (y : Factor) (r : Tokens) → read.named p at ts ≡ Ok (y, r) → IsFactor E F y
        (token k.Name at ∷ ts) r
    unfolding read.named read.variable
    named_sound at ts y r e =
        elim (eat_sound k.LeftParen ts _ y r e) [
          | inl w ↦ subst (λ z. IsFactor E F y (token k.Name at ∷ z) r) (sym w.2) (call_sound at w.0 w.1 y r w.3)
          | inr w ↦ (let b = both_steps (and_then (many (read.selector p) ts) _) _ y r w in
              let c = both_steps (many (read.selector p) ts) _ b.0 b.1 b.2 in
              at_last (IsFactor E F) _ _ y b.1 r b.3
              (variable (at_last (IsVariable E) _ _ b.0 c.1 b.1 c.3
              (selected (selectors_exact.sound ts c.0 c.1 c.2)))))
        ]

    set_sound : (at : Span) (ts : Tokens) (y : Factor) (r : Tokens) → read.set p at ts ≡ Ok (y, r) → IsFactor E F y
        (token k.LeftBracket at ∷ ts) r
    unfolding read.set
    set_sound at ts y r e =
        elim (eat_sound k.RightBracket ts _ y r e) [
          | inl w ↦ subst (λ z. IsFactor E F y (token k.LeftBracket at ∷ z) r) (sym w.2)
              (at_last (IsFactor E F) _ _ y w.1 r w.3 empty)
          | inr w ↦ (let b = both_steps (separated k.Comma (read.member p) ts) _ y r w in
              let c = both_steps (expect k.RightBracket b.1) _ y r b.3 in
              at_last (IsFactor E F) _ _ y c.1 r c.3
              (set (subst (λ z. Separated k.Comma (IsMember E) b.0 ts z)
              (expect_sound k.RightBracket b.1 c.0 c.1 c.2) (members_exact.sound ts b.0 b.1 b.2))))
        ]

    group_sound : (at : Span) (ts : Tokens) (y : Factor) (r : Tokens) → read.group p at ts ≡ Ok (y, r) → IsFactor E F y
        (token k.LeftParen at ∷ ts) r
    unfolding read.group
    group_sound at ts y r e =
        in_steps (p ts) _ y r e (λ b0 b1 b2 b3.
        in_steps (expect k.RightParen b1) _ y r b3 (λ c0 c1 c2 c3.
        at_last (IsFactor E F) _ _ y c1 r c3 (group
        (subst (λ z. E b0 ts z) (expect_sound k.RightParen b1 c0 c1 c2) (h.sound ts b0 b1 b2)))))

    factor_by_sound : (kind : Kind) (at : Span) (ts : Tokens) (y : Factor) (r : Tokens) → read.factor_by p q kind at
        (token kind at ∷ ts) ≡ Ok (y, r) → IsFactor E F y (token kind at ∷ ts) r
    factor_by_sound k.Name at ts y r e = named_sound at ts y r e
    factor_by_sound k.Number at ts y r e = at_last (IsFactor E F) _ _ y ts r e number
    factor_by_sound k.Text at ts y r e = at_last (IsFactor E F) _ _ y ts r e text
    factor_by_sound k.Nil at ts y r e = at_last (IsFactor E F) _ _ y ts r e nil
    factor_by_sound k.LeftBracket at ts y r e = set_sound at ts y r e
    factor_by_sound k.LeftParen at ts y r e = group_sound at ts y r e
    factor_by_sound k.Not at ts y r e = let b = both_steps (q ts) _ y r e in at_last (IsFactor E F) _ _ y b.1 r b.3
        (not (i.sound ts b.0 b.1 b.2))
    factor_by_sound kind at ts y r e = cc

    factor_sound : (ts : Tokens) (y : Factor) (r : Tokens) → read.factor p q ts ≡ Ok (y, r) → IsFactor E F y ts r
    unfolding read.factor
    factor_sound [] y r e = cc
    factor_sound (t ∷ ts) y r e = factor_by_sound t.kind t.span ts y r e

    -- a set that isn't empty doesn't begin with its end
    no_end : (xs : List Member) (ts r : Tokens) → Separated k.Comma (IsMember E) xs ts r → sees k.RightBracket ts
        ≡ false
    no_end xs ts r (one (single {x = x} d)) = begins x ts r d
    no_end xs ts r (one (range {x = x} {m = m} {at = at} d d')) = begins x ts (token k.DotDot at ∷ m) d
    no_end xs ts r (several {m = m} {at = at} (single {x = x} d) ds) = begins x ts (token k.Comma at ∷ m) d
    no_end xs ts r (several (range {x = x} {m = m} {at = at} d d') ds) = begins x ts (token k.DotDot at ∷ m) d

    factor_complete : (x : Factor) (ts r : Tokens) → IsFactor E F x ts r → Ends 4 r → read.factor p q ts ≡ Ok (x, r)
    unfolding read.factor read.named read.variable read.call read.set read.group
    factor_complete x ts r (variable (selected {at = at} {xs = xs} {ts = m} d)) o = eat_missed k.LeftParen m _
        (no_call xs m r d o) ∙ rw (selectors_exact.complete xs m r d o) refl
    factor_complete x ts r (call {at = at} {left = left} {right = right} {xs = xs} {ts = m} d) o =
        eat_found k.LeftParen left m _ ∙ rw (
          exprs_exact.complete xs m (token k.RightParen right ∷ r) d
              (at_paren right r),
          expect_complete k.RightParen right r,
        ) refl
    factor_complete x ts r number o = refl
    factor_complete x ts r text o = refl
    factor_complete x ts r nil o = refl
    factor_complete x ts r (empty {right = right}) o = eat_found k.RightBracket right r _
    factor_complete x ts r (set {left = left} {right = right} {xs = xs} {ts = m} d) o =
        eat_missed k.RightBracket m _ (no_end xs m _ d) ∙ rw (
          members_exact.complete xs m (token k.RightBracket right ∷ r) d
              (at_bracket_members right r),
          expect_complete k.RightBracket right r,
        ) refl
    factor_complete x ts r (group {right = right} {x = z} {ts = m} d) o = rw
        (h.complete z m (token k.RightParen right ∷ r) d loose, expect_complete k.RightParen right r) refl
    factor_complete x ts r (not {x = z} {ts = m} d) o = rw (i.complete z m r d o) refl

    factor_shrinks : (x : Factor) (ts r : Tokens) → IsFactor E F x ts r → length r ≤ length ts
    factor_shrinks x ts r (variable (selected {xs = xs} {ts = m} d)) = omega (arith, selectors_exact.shrinks xs m r d)
    factor_shrinks x ts r (call {right = right} {xs = xs} {ts = m} d) = omega
        (arith, exprs_exact.shrinks xs m (token k.RightParen right ∷ r) d)
    factor_shrinks x ts r number = omega arith
    factor_shrinks x ts r text = omega arith
    factor_shrinks x ts r nil = omega arith
    factor_shrinks x ts r empty = omega arith
    factor_shrinks x ts r (set {right = right} {xs = xs} {ts = m} d) = omega
        (arith, members_exact.shrinks xs m (token k.RightBracket right ∷ r) d)
    factor_shrinks x ts r (group {right = right} {x = z} {ts = m} d) = omega
        (arith, h.shrinks z m (token k.RightParen right ∷ r) d)
    factor_shrinks x ts r (not {x = z} {ts = m} d) = omega (arith, i.shrinks z m r d)

    pub factor_exact : Exact (Ends 4) (IsFactor E F) (read.factor p q)
    factor_exact = record { sound = factor_sound; complete = factor_complete; shrinks = factor_shrinks }

    pub factor_begins : (x : Factor) (ts r : Tokens) → IsFactor E F x ts r → sees k.RightBracket ts ≡ false
    unfolding same
    factor_begins x ts r (variable (selected d)) = refl
    factor_begins x ts r (call d) = refl
    factor_begins x ts r number = refl
    factor_begins x ts r text = refl
    factor_begins x ts r nil = refl
    factor_begins x ts r empty = refl
    factor_begins x ts r (set d) = refl
    factor_begins x ts r (group d) = refl
    factor_begins x ts r (not d) = refl

    pub factor_unsigned : (x : Factor) (ts r : Tokens) → IsFactor E F x ts r → read.eat_operator read.sign_of ts ≡ Ok
        (None, ts)
    unfolding read.eat_operator
    factor_unsigned x ts r (variable (selected d)) = refl
    factor_unsigned x ts r (call d) = refl
    factor_unsigned x ts r number = refl
    factor_unsigned x ts r text = refl
    factor_unsigned x ts r nil = refl
    factor_unsigned x ts r empty = refl
    factor_unsigned x ts r (set d) = refl
    factor_unsigned x ts r (group d) = refl
    factor_unsigned x ts r (not d) = refl
