-- Statements are read exactly.
use Rattle.std.proofs.Common.{◌≡◌, ℕ, zero, suc, ◌<◌, ◌≤◌, Bool, true, false, List, [], ◌∷◌, length, Option, Some, None}
use Rattle.std.proofs.Common.{Ok, inl, inr, refl, sym, ap, ◌∙◌, subst, arith}
use Rattle.std.proofs.lemmas.Bool.{false≢true}
use Rattle.ps_text.specs.declared.Span.{Span}
use Rattle.ps_scan.specs.declared.token.Kind.{Kind}
use Rattle.ps_scan.specs.declared.token.Kind.TheVariants as k
use Rattle.ps_scan.specs.Kinds.{same}
use Rattle.ps_syntax.specs.declared.expression.Expr.{Expr}
use Rattle.ps_syntax.specs.declared.expression.Selector.{Selector}
use Rattle.ps_syntax.specs.declared.statement.Direction.{Direction}
use Rattle.ps_syntax.specs.declared.statement.Direction.TheVariants as direction
use Rattle.ps_syntax.specs.declared.statement.Parameter.{Parameter}
use Rattle.ps_syntax.specs.declared.statement.Statement.{Statement}
use Rattle.ps_syntax.specs.declared.statement.Statement.TheVariants as s
use Rattle.ps_syntax.specs.declared.statement.Element.{Element}
use Rattle.ps_parse_grammar.specs.Symbols.{Tokens, Symbol, token, Many, Separated, Terminated, none}
use Rattle.ps_parse_grammar.specs.Expressions.{IsSelector, IsVariable, selected, expr_within}
use Rattle.ps_parse_grammar.specs.Statements.{IsConstant, IsParameter, IsElement, element, InSequence}
use Rattle.ps_parse_grammar.specs.Statements.{in_sequence, IsSequence, IsStatement, empty, assign, procedure, call}
use Rattle.ps_parse_grammar.specs.Statements.{compound, if_then, if_else, case, while, repeat, for, with}
use Rattle.ps_parse_grammar.specs.Statements.{direction_kind, statement_within}
use Rattle.ps_parse.specs.Steps.{Parser, sees, expect, separated, terminated, many}
use Rattle.ps_parse.specs.ReadExpressions.{selector, read_expr}
use Rattle.ps_parse.specs.ReadStatements as read
use Rattle.ps_parse.proofs.Exact.{Exact, both_steps, in_steps, at_last, expect_sound, expect_complete, eat_found}
use Rattle.ps_parse.proofs.Exact.{eat_missed, eat_sound, eat_either, accept_found, accept_missed, accept_sound}
use Rattle.ps_parse.proofs.Exact.{operator_found, operator_sound}
use Rattle.ps_parse.proofs.Lists.{separated_exact, terminated_exact, many_nil}
use Rattle.ps_parse.proofs.Ends.{Ends, binds, loose, Follows, follow, follows_ends, follows_unseen}
use Rattle.ps_parse.proofs.ExactFactors.{selectors_exact, no_call}
use Rattle.ps_parse.proofs.ExactExpressions.{expr_exact_within}
use Rattle.ps_parse.proofs.ExactConstants.{NoComma, constants_begin, constants_exact}
use Rattle.ps_parse.proofs.ExactParameters.{at_do, at_paren, parameters_exact, variable_shrinks, variables_exact}

pub direction_back : (kind : Kind) (d : Direction) → read.direction_of kind ≡ Some d → kind ≡ direction_kind d
direction_back k.To d e = ap direction_kind (let g : direction.Up ≡ d = cc in g)
direction_back k.Downto d e = ap direction_kind (let g : direction.Down ≡ d = cc in g)
direction_back kind d e = cc

pub direction_forth : (d : Direction) → read.direction_of (direction_kind d) ≡ Some d
direction_forth direction.Up = refl
direction_forth direction.Down = refl

direction_binds : (d : Direction) → binds (direction_kind d) ≡ 0
direction_binds direction.Up = refl
direction_binds direction.Down = refl

-- a colon, comma or bracket is of its own kind only
colon_no_comma : (at : Span) (m : Tokens) → NoComma (token k.Colon at ∷ m)
unfolding same
colon_no_comma at m = refl

-- ---- statements

-- a statement to which no else that follows it belongs
abbrev pub Greedy : (Bool → Symbol Statement) → Symbol Statement
Greedy S x ts r = (ends : Bool) × S ends x ts r × (ends ≡ true → sees k.Else r ≡ false)

-- after a statement of a sequence, and after a sequence
abbrev pub EndsInSequence : Tokens → Type 0
EndsInSequence r = Follows r × (sees k.Else r ≡ false)

abbrev pub EndsSequence : Tokens → Type 0
EndsSequence r = EndsInSequence r × (sees k.Semicolon r ≡ false)

between_statements : (at : Span) (m : Tokens) → EndsInSequence (token k.Semicolon at ∷ m)
unfolding same
between_statements at m = (loose, refl)

at_end : (at : Span) (m : Tokens) → EndsSequence (token k.End at ∷ m)
unfolding same
at_end at m = ((loose, refl), refl)

at_end_element : (at : Span) (m : Tokens) → EndsSequence (token k.End at ∷ m) × (sees k.End (token k.End at ∷ m) ≡ true)
unfolding same
at_end_element at m = (((loose, refl), refl), refl)

at_until : (at : Span) (m : Tokens) → EndsSequence (token k.Until at ∷ m)
unfolding same
at_until at m = ((loose, refl), refl)

module _ (E : Symbol Expr) (p : Parser Expr) (h : Exact (Ends 1) E p) where
  module _ (S : Bool → Symbol Statement) (q : Parser Statement) (i : Exact Follows (Greedy S) q)
      (sh : (ends : Bool) (x : Statement) (ts r : Tokens) → S ends x ts r → length r ≤ length ts) where
    -- a statement of a sequence
    any_exact : Exact EndsInSequence (InSequence S) q
    any_exact = record {
      sound = λ ts x r e. in_sequence ((i.sound ts x r e).1);
      complete = any_complete;
      shrinks = any_shrinks;
    }
      where
        any_complete : (x : Statement) (ts r : Tokens) → InSequence S x ts r → EndsInSequence r → q ts ≡ Ok (x, r)
        any_complete x ts r (in_sequence {ends = ends} d) o = i.complete x ts r (ends, d, λ e. o.1) o.0

        any_shrinks : (x : Statement) (ts r : Tokens) → InSequence S x ts r → length r ≤ length ts
        any_shrinks x ts r (in_sequence {ends = ends} d) = sh ends x ts r d

    pub sequence_exact : Exact EndsSequence (IsSequence S) (separated k.Semicolon q)
    sequence_exact = separated_exact EndsInSequence EndsSequence k.Semicolon
        (InSequence S) q any_exact between_statements (λ r o. o.0) (λ r o. o.1)

    -- ---- elements
    element_sound : (ts : Tokens) (y : Element) (r : Tokens) → read.element p q ts ≡ Ok (y, r) → IsElement S y ts r
    unfolding read.element
    element_sound ts y r e =
        in_steps (separated k.Comma read.constant ts) _ y r e (λ b0 b1 b2 b3.
        in_steps (expect k.Colon b1) _ y r b3 (λ c0 c1 c2 c3.
        in_steps (q c1) _ y r c3 (λ d0 d1 d2 d3.
        let g = i.sound c1 d0 d1 d2 in
        at_last (IsElement S) _ _ y d1 r d3 (element b0 d0 {ends = g.0}
        (subst (λ z. Separated k.Comma IsConstant b0 ts z) (expect_sound k.Colon b1 c0 c1 c2)
        (constants_exact.sound ts b0 b1 b2)) g.1))))

    element_complete : (y : Element) (ts r : Tokens) → IsElement S y ts r → EndsInSequence r → read.element p q ts ≡ Ok
        (y, r)
    unfolding read.element
    element_complete y ts r (element cs x {ends = ends} {m = m} {at = at} d d') o =
        rw (
          constants_exact.complete cs ts (token k.Colon at ∷ m) d
              (colon_no_comma at m),
          expect_complete k.Colon at m,
          i.complete x m r (ends, d', λ e. o.1) o.0,
        ) refl

    element_shrinks : (y : Element) (ts r : Tokens) → IsElement S y ts r → length r ≤ length ts
    element_shrinks y ts r (element cs x {ends = ends} {m = m} {at = at} d d') = omega
        (arith, constants_exact.shrinks cs ts (token k.Colon at ∷ m) d, sh ends x m r d')

    element_begins : (y : Element) (ts r : Tokens) → IsElement S y ts r → sees k.End ts ≡ false
    element_begins y ts r (element cs x d d') = constants_begin cs ts _ d

    abbrev EndsElements : Tokens → Type 0
    EndsElements r = EndsSequence r × (sees k.End r ≡ true)

    elements_exact : Exact EndsElements (Terminated k.Semicolon (IsElement S))
        (terminated k.Semicolon k.End (read.element p q))
    elements_exact = terminated_exact EndsInSequence EndsElements k.Semicolon k.End (IsElement S) (read.element p q)
        (record {
          sound = element_sound;
          complete = element_complete;
          shrinks = element_shrinks;
        }) between_statements (λ r o. o.0.0) (λ r o. o.0.1) (λ r o. o.1) element_begins

    -- ---- each statement
    unelsed : {y : Statement} {ts r : Tokens} → IsStatement E S false y ts r → Greedy (IsStatement E S) y ts r
    unelsed d = (false, d, λ e. absurd (false≢true e))

    assigned_sound : (called : Span) (xs : List Selector) (at : Option Span) (ts l m : Tokens) (y : Statement)
        (r : Tokens) → Many (IsSelector E) xs l ts → (at ≡ None → ts ≡ m)
        → ((a : Span) → at ≡ Some a → ts ≡ token k.Assign a ∷ m) → read.assigned p called xs at m ≡ Ok (y, r) → Greedy
        (IsStatement E S) y (token k.Name called ∷ l) r
    assigned_sound called xs (Some at) ts l m y r d absent present e =
        let b = both_steps (p m) _ y r e in
        at_last (Greedy (IsStatement E S)) _ _ y b.1 r b.3
        (unelsed (assign (selected (subst (λ z. Many (IsSelector E) xs l z) (present at refl) d))
        (h.sound m b.0 b.1 b.2)))
    assigned_sound called [] None ts l m y r d absent present e =
        let same_rest : l ≡ m = many_nil (IsSelector E) [] l ts d refl ∙ absent refl in
        subst (λ z. Greedy (IsStatement E S) y (token k.Name called ∷ z) r) (sym same_rest)
        (at_last (Greedy (IsStatement E S)) _ _ y m r e (unelsed procedure))
    assigned_sound called (x ∷ xs) None ts l m y r d absent present e = cc

    after_name_sound : (at : Span) (ts : Tokens) (y : Statement) (r : Tokens) → read.after_name p at ts ≡ Ok (y, r)
        → Greedy (IsStatement E S) y (token k.Name at ∷ ts) r
    unfolding read.after_name
    after_name_sound at ts y r e =
        elim (eat_sound k.LeftParen ts _ y r e) [
          | inl w ↦ (let b = both_steps (separated k.Comma (read.parameter p) w.1) _ y r w.3 in
              let c = both_steps (expect k.RightParen b.1) _ y r b.3 in
              subst (λ z. Greedy (IsStatement E S) y (token k.Name at ∷ z) r) (sym w.2)
              (at_last (Greedy (IsStatement E S)) _ _ y c.1 r c.3
              (unelsed (call (subst (λ z. Separated k.Comma (IsParameter E) b.0 w.1 z)
              (expect_sound k.RightParen b.1 c.0 c.1 c.2) ((parameters_exact E p h).sound w.1 b.0 b.1 b.2))))))
          | inr w ↦ (let b = both_steps (many (selector p) ts) _ y r w in
              let d = (selectors_exact E p h).sound ts b.0 b.1 b.2 in
              elim (accept_sound k.Assign b.1 _ y r b.3) [
                | inl v ↦ assigned_sound at b.0 (Some v.0) b.1 ts v.1 y r d (λ e. cc)
                    (λ a e. v.2 ∙ ap (λ (z : Span). token k.Assign z ∷ v.1) (let g : v.0 ≡ a = cc in g)) v.3
                | inr v ↦ assigned_sound at b.0 None b.1 ts b.1 y r d (λ e. refl) (λ a e. cc) v.1
              ])
        ]

    compound_sound : (at : Span) (ts : Tokens) (y : Statement) (r : Tokens) → read.compound p q ts ≡ Ok (y, r) → Greedy
        (IsStatement E S) y (token k.Begin at ∷ ts) r
    unfolding read.compound read.sequence
    compound_sound at ts y r e =
        in_steps (separated k.Semicolon q ts) _ y r e (λ b0 b1 b2 b3.
        in_steps (expect k.End b1) _ y r b3 (λ c0 c1 c2 c3.
        at_last (Greedy (IsStatement E S)) _ _ y c1 r c3
        (unelsed (compound (subst (λ z. Separated k.Semicolon (InSequence S) b0 ts z)
        (expect_sound k.End b1 c0 c1 c2) (sequence_exact.sound ts b0 b1 b2))))))

    closed_before_else : (x : Statement) (l : Tokens) (other : Span) (m : Tokens) → Greedy S x l
        (token k.Else other ∷ m) → S false x l (token k.Else other ∷ m)
    unfolding same
    closed_before_else x l other m (false, d, g) = d
    closed_before_else x l other m (true, d, g) = (let t : true ≡ false = g refl in cc)

    if_sound : (at : Span) (ts : Tokens) (y : Statement) (r : Tokens) → read.if_statement p q ts ≡ Ok (y, r) → Greedy
        (IsStatement E S) y (token k.If at ∷ ts) r
    unfolding read.if_statement
    if_sound at ts y r e =
        in_steps (p ts) _ y r e (λ b0 b1 b2 b3.
        in_steps (expect k.Then b1) _ y r b3 (λ c0 c1 c2 c3.
        in_steps (q c1) _ y r c3 (λ d0 d1 d2 d3.
        let condition = subst (λ z. E b0 ts z) (expect_sound k.Then b1 c0 c1 c2) (h.sound ts b0 b1 b2) in
        let g = i.sound c1 d0 d1 d2 in
        elim (eat_either k.Else d1 _ y r d3) [
          | inl w ↦ (let f = both_steps (q w.1) _ y r w.3 in
              let t = i.sound w.1 f.0 f.1 f.2 in
              let first = closed_before_else d0 c1 w.0 w.1 (subst (λ z. Greedy S d0 c1 z) w.2 g) in
              at_last (Greedy (IsStatement E S)) _ _ y f.1 r f.3 (t.0, if_else condition first t.1, t.2))
          | inr w ↦ at_last (Greedy (IsStatement E S)) _ _ y d1 r w.1 (true, if_then condition g.1, λ e. w.0)
        ])))

    case_sound : (at : Span) (ts : Tokens) (y : Statement) (r : Tokens) → read.case_statement p q at ts ≡ Ok (y, r)
        → Greedy (IsStatement E S) y (token k.Case at ∷ ts) r
    unfolding read.case_statement
    case_sound at ts y r e =
        in_steps (p ts) _ y r e (λ b0 b1 b2 b3.
        in_steps (expect k.Of b1) _ y r b3 (λ c0 c1 c2 c3.
        in_steps (terminated k.Semicolon k.End (read.element p q) c1) _ y r c3 (λ d0 d1 d2 d3.
        in_steps (expect k.End d1) _ y r d3 (λ f0 f1 f2 f3.
        at_last (Greedy (IsStatement E S)) _ _ y f1 r f3 (unelsed
        (case (subst (λ z. E b0 ts z) (expect_sound k.Of b1 c0 c1 c2) (h.sound ts b0 b1 b2))
        (subst (λ z. Terminated k.Semicolon (IsElement S) d0 c1 z) (expect_sound k.End d1 f0 f1 f2)
        (elements_exact.sound c1 d0 d1 d2))))))))

    while_sound : (at : Span) (ts : Tokens) (y : Statement) (r : Tokens) → read.while_statement p q ts ≡ Ok (y, r)
        → Greedy (IsStatement E S) y (token k.While at ∷ ts) r
    unfolding read.while_statement
    while_sound at ts y r e =
        in_steps (p ts) _ y r e (λ b0 b1 b2 b3.
        in_steps (expect k.Do b1) _ y r b3 (λ c0 c1 c2 c3.
        in_steps (q c1) _ y r c3 (λ d0 d1 d2 d3.
        let g = i.sound c1 d0 d1 d2 in
        at_last (Greedy (IsStatement E S)) _ _ y d1 r d3
        (g.0, while (subst (λ z. E b0 ts z) (expect_sound k.Do b1 c0 c1 c2) (h.sound ts b0 b1 b2)) g.1, g.2))))

    repeat_sound : (at : Span) (ts : Tokens) (y : Statement) (r : Tokens) → read.repeat_statement p q ts ≡ Ok (y, r)
        → Greedy (IsStatement E S) y (token k.Repeat at ∷ ts) r
    unfolding read.repeat_statement read.sequence
    repeat_sound at ts y r e =
        in_steps (separated k.Semicolon q ts) _ y r e (λ b0 b1 b2 b3.
        in_steps (expect k.Until b1) _ y r b3 (λ c0 c1 c2 c3.
        in_steps (p c1) _ y r c3 (λ d0 d1 d2 d3.
        at_last (Greedy (IsStatement E S)) _ _ y d1 r d3
        (unelsed (repeat (subst (λ z. Separated k.Semicolon (InSequence S) b0 ts z)
        (expect_sound k.Until b1 c0 c1 c2) (sequence_exact.sound ts b0 b1 b2)) (h.sound c1 d0 d1 d2))))))

    for_sound : (at : Span) (ts : Tokens) (y : Statement) (r : Tokens) → read.for_statement p q ts ≡ Ok (y, r) → Greedy
        (IsStatement E S) y (token k.For at ∷ ts) r
    unfolding read.for_statement
    for_sound at ts y r e =
        in_steps (expect k.Name ts) _ y r e (λ a0 a1 a2 a3.
        in_steps (expect k.Assign a1) _ y r a3 (λ b0 b1 b2 b3.
        in_steps (p b1) _ y r b3 (λ c0 c1 c2 c3.
        let head = expect_sound k.Name ts a0 a1 a2 ∙ ap (λ (z : Tokens). token k.Name a0 ∷ z)
        (expect_sound k.Assign a1 b0 b1 b2) in
        elim (operator_sound read.direction_of direction_kind direction_back direction_forth c1 _ y r c3) [
          | inl w ↦ in_steps (p w.2) _ y r w.4 (λ d0 d1 d2 d3.
              in_steps (expect k.Do d1) _ y r d3 (λ f0 f1 f2 f3.
              in_steps (q f1) _ y r f3 (λ g0 g1 g2 g3.
              let t = i.sound f1 g0 g1 g2 in
              subst (λ z. Greedy (IsStatement E S) y (token k.For at ∷ z) r) (sym head)
              (at_last (Greedy (IsStatement E S)) _ _ y g1 r g3 (
                t.0,
                for w.0 (subst (λ z. E c0 b1 z) w.3 (h.sound b1 c0 c1 c2))
                    (subst (λ z. E d0 w.2 z) (expect_sound k.Do d1 f0 f1 f2) (h.sound w.2 d0 d1 d2)) t.1,
                t.2,
              )))))
          | inr w ↦ cc
        ])))

    with_sound : (at : Span) (ts : Tokens) (y : Statement) (r : Tokens) → read.with_statement p q ts ≡ Ok (y, r)
        → Greedy (IsStatement E S) y (token k.With at ∷ ts) r
    unfolding read.with_statement
    with_sound at ts y r e =
        in_steps (separated k.Comma (read.named_variable p) ts) _ y r e (λ b0 b1 b2 b3.
        in_steps (expect k.Do b1) _ y r b3 (λ c0 c1 c2 c3.
        in_steps (q c1) _ y r c3 (λ d0 d1 d2 d3.
        let g = i.sound c1 d0 d1 d2 in
        at_last (Greedy (IsStatement E S)) _ _ y d1 r d3 (
          g.0,
          with (subst (λ z. Separated k.Comma (IsVariable E) b0 ts z) (expect_sound k.Do b1 c0 c1 c2)
              ((variables_exact E p h).sound ts b0 b1 b2)) g.1,
          g.2,
        ))))

    statement_by_sound : (kind : Kind) (at : Span) (ts : Tokens) (y : Statement) (r : Tokens)
        → read.statement_by p q kind at (token kind at ∷ ts) ≡ Ok (y, r) → Greedy (IsStatement E S) y
        (token kind at ∷ ts) r
    statement_by_sound k.Name at ts y r e = after_name_sound at ts y r e
    statement_by_sound k.Begin at ts y r e = compound_sound at ts y r e
    statement_by_sound k.If at ts y r e = if_sound at ts y r e
    statement_by_sound k.Case at ts y r e = case_sound at ts y r e
    statement_by_sound k.While at ts y r e = while_sound at ts y r e
    statement_by_sound k.Repeat at ts y r e = repeat_sound at ts y r e
    statement_by_sound k.For at ts y r e = for_sound at ts y r e
    statement_by_sound k.With at ts y r e = with_sound at ts y r e
    statement_by_sound kind at ts y r e = at_last (Greedy (IsStatement E S)) _ _ y (token kind at ∷ ts) r e
        (unelsed empty)

    statement_sound : (ts : Tokens) (y : Statement) (r : Tokens) → read.any_statement p q ts ≡ Ok (y, r) → Greedy
        (IsStatement E S) y ts r
    unfolding read.any_statement
    statement_sound [] y r e = at_last (Greedy (IsStatement E S)) _ _ y [] r e (unelsed empty)
    statement_sound (t ∷ ts) y r e = statement_by_sound t.kind t.span ts y r e

    -- ---- and back
    no_statement : (kind : Kind) (at : Span) (ts : Tokens) → 0 < follow kind → read.statement_by p q kind at ts ≡ Ok
        (s.Empty, ts)
    no_statement k.Name at ts o = absurd (omega arith)
    no_statement k.Begin at ts o = absurd (omega arith)
    no_statement k.If at ts o = absurd (omega arith)
    no_statement k.Case at ts o = absurd (omega arith)
    no_statement k.While at ts o = absurd (omega arith)
    no_statement k.Repeat at ts o = absurd (omega arith)
    no_statement k.For at ts o = absurd (omega arith)
    no_statement k.With at ts o = absurd (omega arith)
    no_statement kind at ts o = refl

    -- the parts of an assignment and a call
    assign_complete : (at becomes : Span) (xs : List Selector) (x : Expr) (l m r : Tokens) → Many (IsSelector E) xs l
        (token k.Assign becomes ∷ m) → E x m r → Ends 1 r → read.after_name p at l ≡ Ok (
          s.Assign (record {
            name = at;
            selectors = xs;
          }) becomes x,
          r,
        )
    unfolding read.after_name
    assign_complete at becomes xs x l m r d d' o =
        eat_missed k.LeftParen l _ (no_call E p h xs l (token k.Assign becomes ∷ m) d (omega arith))
        ∙ rw ((selectors_exact E p h).complete xs l (token k.Assign becomes ∷ m) d (omega arith))
        (accept_found k.Assign becomes m _ ∙ rw (h.complete x m r d' o) refl)

    procedure_complete : (at : Span) (r : Tokens) → Follows r → read.after_name p at r ≡ Ok (s.Call at [], r)
    unfolding read.after_name
    procedure_complete at r o =
        eat_missed k.LeftParen r _ (follows_unseen k.LeftParen r o refl)
        ∙ rw ((selectors_exact E p h).complete [] r r none (follows_ends 4 r (omega arith) o))
        (accept_missed k.Assign r _ (follows_unseen k.Assign r o refl))

    call_complete : (at left right : Span) (xs : List Parameter) (l r : Tokens) → Separated k.Comma (IsParameter E) xs l
        (token k.RightParen right ∷ r) → read.after_name p at (token k.LeftParen left ∷ l) ≡ Ok (s.Call at xs, r)
    unfolding read.after_name
    call_complete at left right xs l r d =
        eat_found k.LeftParen left l _ ∙ rw (
          (parameters_exact E p h).complete xs l (token k.RightParen right ∷ r) d
              (at_paren right r),
          expect_complete k.RightParen right r,
        ) refl

    statement_complete : (ends : Bool) (y : Statement) (ts r : Tokens) → IsStatement E S ends y ts r
        → (ends ≡ true → sees k.Else r ≡ false) → Follows r → read.any_statement p q ts ≡ Ok (y, r)
    unfolding read.any_statement read.compound read.sequence read.if_statement read.case_statement read.while_statement
        read.repeat_statement read.for_statement read.with_statement
    statement_complete ends y ts [] empty g o = refl
    statement_complete ends y ts (t ∷ r) empty g o = no_statement t.kind t.span (t ∷ r) o
    statement_complete ends y ts r (assign {at = becomes} {x = x} {m = m} (selected {at = at} {xs = xs} {ts = l} d) d')
        g o = assign_complete at becomes xs x l m r d d' (follows_ends 1 r (omega arith) o)
    statement_complete ends y ts r (procedure {at = at}) g o = procedure_complete at r o
    statement_complete ends y ts r (call {at = at} {left = left} {right = right} {xs = xs} {ts = l} d) g o =
        call_complete at left right xs l r d
    statement_complete ends y ts r (compound {end = end} {xs = xs} {ts = l} d) g o = rw
        (sequence_exact.complete xs l (token k.End end ∷ r) d (at_end end r), expect_complete k.End end r) refl
    statement_complete ends y ts r (if_then {next = next} {c = c} {x = x} {ends = inner} {ts = l} {m = m} d d') g o =
        rw (
          h.complete c l (token k.Then next ∷ m) d loose,
          expect_complete k.Then next m,
          i.complete x m r
              (inner, d', λ e. g refl) o,
        ) (eat_missed k.Else r _ (g refl))
    statement_complete ends y ts r (if_else {next = next} {other = other} {c = c} {x = x} {y = z} {ts = a} {l = l}
        {m = m} d d' d'') g o =
        rw (
          h.complete c a (token k.Then next ∷ l) d loose,
          expect_complete k.Then next l,
          i.complete x l
              (token k.Else other ∷ m) (false, d', λ e. absurd (false≢true e)) loose,
        )
        (eat_found k.Else other m _ ∙ rw (i.complete z m r (ends, d'', g) o) refl)
    statement_complete ends y ts r (case {of = of} {end = end} {x = x} {xs = xs} {ts = l} {m = m} d d') g o =
        rw (
          h.complete x l (token k.Of of ∷ m) d loose,
          expect_complete k.Of of m,
          elements_exact.complete xs m
              (token k.End end ∷ r) d' (at_end_element end r),
          expect_complete k.End end r,
        ) refl
    statement_complete ends y ts r (while {do' = do'} {c = c} {x = x} {ts = l} {m = m} d d') g o =
        rw (h.complete c l (token k.Do do' ∷ m) d loose, expect_complete k.Do do' m, i.complete x m r (ends, d', g) o)
        refl
    statement_complete ends y ts r (repeat {until = until} {xs = xs} {c = c} {ts = l} {m = m} d d') g o =
        rw (
          sequence_exact.complete xs l (token k.Until until ∷ m) d
              (at_until until m),
          expect_complete k.Until until m,
          h.complete c m r d' (follows_ends 1 r (omega arith) o),
        )
        refl
    statement_complete ends y ts r (for w {name = called} {becomes = becomes} {to = to} {do' = do'} {x = x} {y = v}
        {z = z} {ts = a} {l = l} {m = m} d d' d'') g o =
        rw (
          expect_complete k.Name called (token k.Assign becomes ∷ a),
          expect_complete k.Assign becomes a,
          h.complete x
              a (token (direction_kind w) to ∷ l) d (omega (arith, direction_binds w)),
        )
        (operator_found read.direction_of direction_kind direction_back direction_forth w to l _
        ∙ rw (
          h.complete v l (token k.Do do' ∷ m) d' loose,
          expect_complete k.Do do' m,
          i.complete z m r (ends, d'', g) o,
        ) refl)
    statement_complete ends y ts r (with {do' = do'} {vs = vs} {x = x} {ts = l} {m = m} d d') g o =
        rw (
          (variables_exact E p h).complete vs l (token k.Do do' ∷ m) d
              (at_do do' m),
          expect_complete k.Do do' m,
          i.complete x m r (ends, d', g) o,
        ) refl

    pub statement_shrinks : (ends : Bool) (y : Statement) (ts r : Tokens) → IsStatement E S ends y ts r
        → length r ≤ length ts
    statement_shrinks ends y ts r empty = omega arith
    statement_shrinks ends y ts r (assign {v = v} {at = at} {x = x} {m = m} d d') = omega
        (arith, variable_shrinks E p h v ts (token k.Assign at ∷ m) d, h.shrinks x m r d')
    statement_shrinks ends y ts r procedure = omega arith
    statement_shrinks ends y ts r (call {right = right} {xs = xs} {ts = l} d) = omega
        (arith, (parameters_exact E p h).shrinks xs l (token k.RightParen right ∷ r) d)
    statement_shrinks ends y ts r (compound {end = end} {xs = xs} {ts = l} d) = omega
        (arith, sequence_exact.shrinks xs l (token k.End end ∷ r) d)
    statement_shrinks ends y ts r (if_then {next = next} {c = c} {x = x} {ends = inner} {ts = l} {m = m} d d') = omega
        (arith, h.shrinks c l (token k.Then next ∷ m) d, sh inner x m r d')
    statement_shrinks ends y ts r (if_else {next = next} {other = other} {c = c} {x = x} {y = z} {ts = a} {l = l}
        {m = m} d d' d'') = omega (
          arith,
          h.shrinks c a (token k.Then next ∷ l) d,
          sh false x l
              (token k.Else other ∷ m) d',
          sh ends z m r d'',
        )
    statement_shrinks ends y ts r (case {of = of} {end = end} {x = x} {xs = xs} {ts = l} {m = m} d d') = omega
        (arith, h.shrinks x l (token k.Of of ∷ m) d, elements_exact.shrinks xs m (token k.End end ∷ r) d')
    statement_shrinks ends y ts r (while {do' = do'} {c = c} {x = x} {ts = l} {m = m} d d') = omega
        (arith, h.shrinks c l (token k.Do do' ∷ m) d, sh ends x m r d')
    statement_shrinks ends y ts r (repeat {until = until} {xs = xs} {c = c} {ts = l} {m = m} d d') = omega
        (arith, sequence_exact.shrinks xs l (token k.Until until ∷ m) d, h.shrinks c m r d')
    statement_shrinks ends y ts r (for w {to = to} {do' = do'} {x = x} {y = v} {z = z} {ts = a} {l = l} {m = m} d d'
        d'') = omega (
          arith,
          h.shrinks x a (token (direction_kind w) to ∷ l) d,
          h.shrinks v l (token k.Do do' ∷ m) d',
          sh ends z m r d'',
        )
    statement_shrinks ends y ts r (with {do' = do'} {vs = vs} {x = x} {ts = l} {m = m} d d') = omega
        (arith, (variables_exact E p h).shrinks vs l (token k.Do do' ∷ m) d, sh ends x m r d')

    pub statement_exact : Exact Follows (Greedy (IsStatement E S)) (read.any_statement p q)
    statement_exact = record {
      sound = statement_sound;
      complete = λ y ts r d o. statement_complete d.0 y ts r d.1 d.2 o;
      shrinks = λ y ts r d. statement_shrinks d.0 y ts r d.1;
    }

-- ---- heights
pub record Level (S : Bool → Symbol Statement) (q : Parser Statement) : Type 0 where
  pub exact : Exact Follows (Greedy S) q
  pub shrinks : (ends : Bool) (x : Statement) (ts r : Tokens) → S ends x ts r → length r ≤ length ts

pub level : (n : ℕ) → Level (statement_within n) (read.read_statement n)
unfolding read.read_statement
level zero = record {
  exact = record { sound = λ ts x r e. cc; complete = λ x ts r d. absurd d.1; shrinks = λ x ts r d. absurd d.1 };
  shrinks = λ ends x ts r d. absurd d;
}
level (suc n) = let l = level n in let e = expr_exact_within n in record {
  exact = statement_exact (expr_within n) (read_expr n) e (statement_within n)
      (read.read_statement n) l.exact l.shrinks;
  shrinks = statement_shrinks (expr_within n) (read_expr n) e (statement_within n)
      (read.read_statement n) l.exact l.shrinks;
}

pub statement_exact_within : (n : ℕ) → Exact Follows (Greedy (statement_within n)) (read.read_statement n)
statement_exact_within n = (level n).exact

pub statement_shrinks_within : (n : ℕ) (ends : Bool) (x : Statement) (ts r : Tokens) → statement_within n ends x ts r
    → length r ≤ length ts
statement_shrinks_within n = (level n).shrinks

-- a sequence, before its end
pub sequence_exact_within : (n : ℕ) → Exact EndsSequence (IsSequence (statement_within n))
    (separated k.Semicolon (read.read_statement n))
sequence_exact_within n = sequence_exact (expr_within n) (read_expr n) (expr_exact_within n) (statement_within n)
    (read.read_statement n) (level n).exact (level n).shrinks
