-- What was taken of an expression begins one.
use Rattle.std.proofs.Common.{ℕ, zero, suc, [], ◌∷◌, Some, None, refl}
use Rattle.ps_text.specs.declared.Span.{Span}
use Rattle.ps_scan.specs.declared.token.Kind.{Kind}
use Rattle.ps_scan.specs.declared.token.Kind.TheVariants as k
use Rattle.ps_syntax.specs.declared.expression.Expr.{Expr}
use Rattle.ps_syntax.specs.declared.expression.Simple.{Simple}
use Rattle.ps_syntax.specs.declared.expression.Term.{Term}
use Rattle.ps_syntax.specs.declared.expression.Factor.{Factor}
use Rattle.ps_syntax.specs.declared.expression.Factor.TheVariants as f
use Rattle.ps_syntax.specs.declared.expression.Member.TheVariants as m
use Rattle.ps_parse_grammar.specs.Symbols.{Tokens, Symbol, token}
use Rattle.ps_parse_grammar.specs.Expressions.{multiplying_kind, adding_kind, relation_kind, sign_kind, IsMember}
use Rattle.ps_parse_grammar.specs.Expressions.{single, range, IsSelector, index, field, content, IsVariable, selected}
use Rattle.ps_parse_grammar.specs.Expressions.{IsFactor, variable, call, number, text, nil, empty, set, group, not}
use Rattle.ps_parse_grammar.specs.Expressions.{IsMultiplied, multiplied, IsTerm, term, IsAdded, added, IsSimple, plain}
use Rattle.ps_parse_grammar.specs.Expressions.{signed, IsExpr, alone, compare, factor_within, expr_within}
use Rattle.ps_parse.specs.Steps.{Parser}
use Rattle.ps_parse.specs.ReadExpressions as read
use Rattle.ps_parse.proofs.Exact.{Perhaps}
use Rattle.ps_parse.proofs.ExactExpressions.{multiplying_back, multiplying_forth, adding_back, adding_forth}
use Rattle.ps_parse.proofs.ExactExpressions.{relation_back, relation_forth, sign_back, sign_forth}
use Rattle.ps_parse.proofs.Viable.{Viable, Well, Start, Behind, after_token, nowhere, well_pure, well_refuse}
use Rattle.ps_parse.proofs.Viable.{viable_pure, viable_refuse, viable_bind, viable_map, viable_expect, viable_eat}
use Rattle.ps_parse.proofs.Viable.{viable_operator, viable_choice, viable_choice_of, viable_separated, viable_many}

-- a number is a factor
factor_start : {E : Symbol Expr} {F : Symbol Factor} → Start (IsFactor E F)
factor_start = record { tokens = token k.Number nowhere ∷ []; tree = f.Number nowhere; derives = λ u. number }

module _ (E : Symbol Expr) (p : Parser Expr) (v : Viable E p) where
  member_viable : Viable (IsMember E) (read.member p)
  unfolding read.member
  member_viable = viable_bind v (λ x. viable_eat _ k.DotDot _
      (λ at. viable_map (m.Range x) v (λ y ts r d start c. range c d)) (viable_pure (λ r ts d. single d)))

  index_viable : (at : Span) → Viable (Behind k.LeftBracket at (IsSelector E)) (read.index p)
  unfolding read.index
  index_viable at = viable_bind (viable_separated E p v k.Comma)
      (λ xs. viable_expect _ k.RightBracket _ (λ right. viable_pure (λ r ts d. index d)))

  selector_well : (kind : Kind) (at : Span) (ts : Tokens) → Well (Perhaps (IsSelector E)) (token kind at ∷ ts)
      (read.selector_by p kind at (token kind at ∷ ts))
  selector_well k.LeftBracket at ts = after_token (Perhaps (IsSelector E)) k.LeftBracket at _
      (viable_map Some (index_viable at) (λ x ts r d. d)) ts
  selector_well k.Dot at ts = after_token (Perhaps (IsSelector E)) k.Dot at _
      (viable_expect _ k.Name _ (λ name. viable_pure (λ r. field))) ts
  selector_well k.Caret at ts = after_token (Perhaps (IsSelector E)) k.Caret at _ (viable_pure (λ r. content)) ts
  selector_well kind at ts = well_pure {S = Perhaps (IsSelector E)} {x = None} (λ r. refl) (token kind at ∷ ts)

  pub selector_viable : Viable (Perhaps (IsSelector E)) (read.selector p)
  unfolding read.selector
  selector_viable = viable_choice _ _ (λ t ts. selector_well t.kind t.span ts)
      (well_pure {S = Perhaps (IsSelector E)} {x = None} (λ r. refl) []) (record {
        tokens = [];
        tree = None;
        derives = λ u. refl;
      })

  pub variable_viable : (at : Span) → Viable (Behind k.Name at (IsVariable E)) (read.variable p at)
  unfolding read.variable
  variable_viable at = viable_map _ (viable_many (IsSelector E) (read.selector p) selector_viable)
      (λ xs ts r d. selected d)

  module _ (F : Symbol Factor) where
    call_viable : (at left : Span) → Viable (Behind k.LeftParen left (Behind k.Name at (IsFactor E F))) (read.call p at)
    unfolding read.call
    call_viable at left = viable_bind (viable_separated E p v k.Comma)
        (λ xs. viable_expect _ k.RightParen _ (λ right. viable_pure (λ r ts d. call d)))

    named_viable : (at : Span) → Viable (Behind k.Name at (IsFactor E F)) (read.named p at)
    unfolding read.named
    named_viable at = viable_eat _ k.LeftParen _ (call_viable at)
        (viable_map f.Variable (variable_viable at) (λ x ts r d. variable d))

    set_viable : (at : Span) → Viable (Behind k.LeftBracket at (IsFactor E F)) (read.set p at)
    unfolding read.set
    set_viable at = viable_eat _ k.RightBracket _ (λ right. viable_pure (λ r. empty))
        (viable_bind (viable_separated (IsMember E) (read.member p) member_viable k.Comma)
        (λ xs. viable_expect _ k.RightBracket _ (λ right. viable_pure (λ r ts d. set d))))

    group_viable : (at : Span) → Viable (Behind k.LeftParen at (IsFactor E F)) (read.group p at)
    unfolding read.group
    group_viable at = viable_bind v (λ x. viable_expect _ k.RightParen _ (λ right. viable_pure (λ r ts d. group d)))

    module _ (q : Parser Factor) (w : Viable F q) where
      factor_well : (kind : Kind) (at : Span) (ts : Tokens) → Well (IsFactor E F) (token kind at ∷ ts)
          (read.factor_by p q kind at (token kind at ∷ ts))
      factor_well k.Name at ts = after_token (IsFactor E F) k.Name at _ (named_viable at) ts
      factor_well k.Number at ts = after_token (IsFactor E F) k.Number at _ (viable_pure (λ r. number)) ts
      factor_well k.Text at ts = after_token (IsFactor E F) k.Text at _ (viable_pure (λ r. text)) ts
      factor_well k.Nil at ts = after_token (IsFactor E F) k.Nil at _ (viable_pure (λ r. nil)) ts
      factor_well k.LeftBracket at ts = after_token (IsFactor E F) k.LeftBracket at _ (set_viable at) ts
      factor_well k.LeftParen at ts = after_token (IsFactor E F) k.LeftParen at _ (group_viable at) ts
      factor_well k.Not at ts = after_token (IsFactor E F) k.Not at _ (viable_map (f.Not at) w (λ x ts r d. not d)) ts
      factor_well kind at ts = well_refuse factor_start (token kind at ∷ ts)

      pub factor_viable : Viable (IsFactor E F) (read.factor p q)
      unfolding read.factor
      factor_viable = viable_choice_of _ (λ t ts. factor_well t.kind t.span ts) factor_start

module _ (F : Symbol Factor) (q : Parser Factor) (v : Viable F q) where
  multiplied_viable : Viable (Perhaps (IsMultiplied F)) (read.multiplied q)
  unfolding read.multiplied
  multiplied_viable = viable_operator read.multiplying_of multiplying_kind multiplying_back multiplying_forth _ _
      (λ op at. viable_map _ v (λ x ts r d. multiplied op at x d)) (viable_pure (λ r. refl))

  term_viable : Viable (IsTerm F) (read.term q)
  unfolding read.term
  term_viable = viable_bind v (λ x. viable_bind (viable_many (IsMultiplied F) (read.multiplied q) multiplied_viable)
      (λ xs. viable_pure (λ r m ds ts d. term x xs d ds)))

module _ (T : Symbol Term) (q : Parser Term) (v : Viable T q) where
  added_viable : Viable (Perhaps (IsAdded T)) (read.added q)
  unfolding read.added
  added_viable = viable_operator read.adding_of adding_kind adding_back adding_forth _ _
      (λ op at. viable_map _ v (λ x ts r d. added op at x d)) (viable_pure (λ r. refl))

  simple_viable : Viable (IsSimple T) (read.simple q)
  unfolding read.simple
  simple_viable = viable_operator read.sign_of sign_kind sign_back sign_forth _ _
      (λ op at. viable_bind v (λ x. viable_bind (viable_many (IsAdded T) (read.added q) added_viable)
      (λ xs. viable_pure (λ r m ds ts d. signed op at x xs d ds))))
      (viable_bind v (λ x. viable_bind (viable_many (IsAdded T) (read.added q) added_viable)
      (λ xs. viable_pure (λ r m ds ts d. plain x xs d ds))))

module _ (S : Symbol Simple) (q : Parser Simple) (v : Viable S q) where
  compared_viable : Viable (IsExpr S) (read.compared q)
  unfolding read.compared
  compared_viable = viable_bind v (λ x. viable_operator read.relation_of relation_kind relation_back relation_forth _ _
      (λ op at. viable_map _ v (λ y ts r d start c. compare op at x y c d)) (viable_pure (λ r ts d. alone d)))

-- ---- heights
next_expr : (F : Symbol Factor) (q : Parser Factor) → Viable F q → Viable (IsExpr (IsSimple (IsTerm F)))
    (read.compared (read.simple (read.term q)))
next_expr F q v = compared_viable _ _ (simple_viable _ _ (term_viable F q v))

record Level (n : ℕ) : Type 0 where
  expr : Viable (expr_within (suc (suc n))) (read.read_expr n)
  negated : Viable (factor_within (suc n)) (read.read_negated n)

level : (n : ℕ) → Level n
unfolding read.read_expr read.read_negated
level zero = record {
  expr = viable_refuse (next_expr _ _ (viable_refuse factor_start)).start;
  negated = viable_refuse factor_start;
}
level (suc n) = let l = level n in record {
  expr = next_expr _ _ (factor_viable _ _ l.expr _ _ l.negated);
  negated = factor_viable _ _ l.expr _ _ l.negated;
}

pub expr_viable : (n : ℕ) → Viable (expr_within (suc (suc n))) (read.read_expr n)
expr_viable n = (level n).expr
