-- The reading of expressions looks no further than the token that it stops before or refuses.
use Rattle.std.proofs.Common.{◌≡◌, ℕ, zero, suc, ◌<◌, [], ◌∷◌, length, Option, Some, None, Ok, refl}
use Rattle.ps_text.specs.declared.Span.{Span}
use Rattle.ps_scan.specs.declared.token.Kind.{Kind}
use Rattle.ps_scan.specs.declared.token.Kind.TheVariants as k
use Rattle.ps_scan.specs.declared.token.Token.{Token}
use Rattle.ps_syntax.specs.declared.expression.Sign.{Sign}
use Rattle.ps_syntax.specs.declared.expression.Expr.{Expr}
use Rattle.ps_syntax.specs.declared.expression.Simple.{Simple}
use Rattle.ps_syntax.specs.declared.expression.Term.{Term}
use Rattle.ps_syntax.specs.declared.expression.Factor.{Factor}
use Rattle.ps_syntax.specs.declared.expression.Factor.TheVariants.{Set}
use Rattle.ps_syntax.specs.declared.expression.AddedTerm.{roll-AddedTerm}
use Rattle.ps_syntax.specs.declared.expression.Selector.{Selector}
use Rattle.ps_parse_grammar.specs.Symbols.{Tokens}
use Rattle.ps_parse.specs.Steps.{Parser, if_some, ◌>>=◌, ◌<$>◌, pure, refuse, eat, expect, separated, many}
use Rattle.ps_parse.specs.ReadExpressions as read
use Rattle.ps_parse.specs.ReadExpressions.{eat_operator, multiplying_of, adding_of, sign_of, relation_of, taken}
use Rattle.ps_parse.proofs.Local.{Local, local_pure, local_refuse, local_bind, local_map, local_past, local_next}
use Rattle.ps_parse.proofs.Local.{local_if, local_if_some, local_eat, local_expect, local_operator, past_takes}
use Rattle.ps_parse.proofs.Local.{none_some}
use Rattle.ps_parse.proofs.LocalLists.{Turn, local_separated, local_many}

module _ (expr : Parser Expr) (h : Local expr) where
  local_member : Local (read.member expr)
  unfolding read.member
  local_member = local_bind expr _ h (λ x. local_bind (eat k.DotDot) _ (local_eat k.DotDot)
      (λ b. local_if _ _ (local_map _ expr h) (local_pure _) b))

  local_index : Local (read.index expr)
  unfolding read.index
  local_index = local_bind (separated k.Comma expr) _ (local_separated k.Comma expr h)
      (λ xs. local_bind (expect k.RightBracket) _ (local_expect k.RightBracket) (λ at. local_pure _))

  local_selector_by : (kind : Kind) (at : Span) → Local (read.selector_by expr kind at)
  local_selector_by k.LeftBracket at = local_past _ (local_map _ (read.index expr) local_index)
  local_selector_by k.Dot at = local_past _ (local_map _ (expect k.Name) (local_expect k.Name))
  local_selector_by k.Caret at = local_past _ (local_pure _)
  local_selector_by kind at = local_pure None

  local_selector : Local (read.selector expr)
  unfolding read.selector
  local_selector = local_next (λ t. read.selector_by expr t.kind t.span) (pure None)
      (λ t. local_selector_by t.kind t.span) (local_pure None)

  selector_takes : (kind : Kind) (at : Span) (t : Token) (ts : Tokens) (x : Selector) (r : Tokens)
      → read.selector_by expr kind at (t ∷ ts) ≡ Ok (Some x, r) → length r < length (t ∷ ts)
  selector_takes k.LeftBracket at t ts x r e = past_takes (Some <$> read.index expr)
      (local_map Some (read.index expr) local_index) t ts (Some x) r e
  selector_takes k.Dot at t ts x r e = past_takes _ (local_map _ (expect k.Name) (local_expect k.Name)) t ts
      (Some x) r e
  selector_takes k.Caret at t ts x r e = past_takes (pure _) (local_pure _) t ts (Some x) r e
  selector_takes kind at t ts x r e = absurd (none_some x (t ∷ ts) r e)

  next_selector_takes : (ts : Tokens) (x : Selector) (r : Tokens) → read.selector expr ts ≡ Ok (Some x, r)
      → length r < length ts
  unfolding read.selector
  next_selector_takes [] x r e = absurd (none_some x [] r e)
  next_selector_takes (t ∷ ts) x r e = selector_takes t.kind t.span t ts x r e

  pub selector_turn : Turn (read.selector expr)
  unfolding read.selector
  selector_turn = record { looks = local_selector; ends = refl; takes = next_selector_takes }

  pub local_variable : (at : Span) → Local (read.variable expr at)
  unfolding read.variable
  local_variable at = local_map _ (many (read.selector expr)) (local_many (read.selector expr) selector_turn)

  local_call : (at : Span) → Local (read.call expr at)
  unfolding read.call
  local_call at = local_bind (separated k.Comma expr) _ (local_separated k.Comma expr h)
      (λ xs. local_bind (expect k.RightParen) _ (local_expect k.RightParen) (λ _. local_pure _))

  local_named : (at : Span) → Local (read.named expr at)
  unfolding read.named
  local_named at = local_bind (eat k.LeftParen) _ (local_eat k.LeftParen)
      (λ b. local_if _ _ (local_call at) (local_map _ (read.variable expr at) (local_variable at)) b)

  local_members : (at : Span) → Local (separated k.Comma (read.member expr)
      >>= (λ xs. expect k.RightBracket >>= (λ _. pure (Set at xs))))
  local_members at = local_bind (separated k.Comma (read.member expr)) _
      (local_separated k.Comma (read.member expr) local_member)
      (λ xs. local_bind (expect k.RightBracket) _ (local_expect k.RightBracket) (λ _. local_pure _))

  local_set : (at : Span) → Local (read.set expr at)
  unfolding read.set
  local_set at = local_bind (eat k.RightBracket) _ (local_eat k.RightBracket)
      (λ b. local_if _ _ (local_pure _) (local_members at) b)

  local_group : (at : Span) → Local (read.group expr at)
  unfolding read.group
  local_group at = local_bind expr _ h (λ x. local_bind (expect k.RightParen) _ (local_expect k.RightParen)
      (λ _. local_pure _))

  module _ (negated : Parser Factor) (i : Local negated) where
    local_factor_by : (kind : Kind) (at : Span) → Local (read.factor_by expr negated kind at)
    local_factor_by k.Name at = local_past _ (local_named at)
    local_factor_by k.Number at = local_past _ (local_pure _)
    local_factor_by k.Text at = local_past _ (local_pure _)
    local_factor_by k.Nil at = local_past _ (local_pure _)
    local_factor_by k.LeftBracket at = local_past _ (local_set at)
    local_factor_by k.LeftParen at = local_past _ (local_group at)
    local_factor_by k.Not at = local_past _ (local_map _ negated i)
    local_factor_by kind at = local_refuse

    pub local_factor : Local (read.factor expr negated)
    unfolding read.factor
    local_factor = local_next (λ t. read.factor_by expr negated t.kind t.span) refuse
        (λ t. local_factor_by t.kind t.span) local_refuse

-- ---- {operator operand}
module _ {O A B : Type 0} (of : Kind → Option O) (operand : Parser A) (made : O × Span → A → B)
    (h : Local operand) where
  abbrev operated : Parser (Option B)
  operated = eat_operator of >>= (λ o. if_some o (λ op. (λ x. Some (made op x)) <$> operand) (pure None))

  local_operated : Local operated
  local_operated = local_bind (eat_operator of) _ (local_operator of)
      (λ o. local_if_some _ _ (λ op. local_map _ operand h) (local_pure None) o)

  operated_ends : operated [] ≡ Ok (None, [])
  unfolding eat_operator
  operated_ends = refl

  operated_by : (o : Option O) (t : Token) (ts : Tokens) (x : B) (r : Tokens)
      → (taken o t.span >>= (λ p. if_some p (λ op. (λ y. Some (made op y)) <$> operand) (pure None))) (t ∷ ts) ≡ Ok
      (Some x, r) → length r < length (t ∷ ts)
  operated_by None t ts x r e = absurd (none_some x (t ∷ ts) r e)
  operated_by (Some op) t ts x r e = past_takes ((λ y. Some (made (op, t.span) y)) <$> operand)
      (local_map _ operand h) t ts (Some x) r e

  operated_takes : (ts : Tokens) (x : B) (r : Tokens) → operated ts ≡ Ok (Some x, r) → length r < length ts
  unfolding eat_operator
  operated_takes [] x r e = absurd (none_some x [] r e)
  operated_takes (t ∷ ts) x r e = operated_by (of t.kind) t ts x r e

  pub operated_turn : Turn operated
  operated_turn = record { looks = local_operated; ends = operated_ends; takes = operated_takes }

module _ (factor : Parser Factor) (h : Local factor) where
  multiplied_turn : Turn (read.multiplied factor)
  unfolding read.multiplied
  multiplied_turn = operated_turn multiplying_of factor (λ op x. record { operator = op.0; at = op.1; factor = x }) h

  local_term_from : (x : Factor) → Local (read.term_from factor x)
  local_term_from x = local_bind (many (read.multiplied factor)) _ (local_many (read.multiplied factor) multiplied_turn)
      (λ xs. local_pure _)

  local_term : Local (read.term factor)
  unfolding read.term
  local_term = local_bind factor _ h local_term_from

module _ (term : Parser Term) (h : Local term) where
  added_turn : Turn (read.added term)
  unfolding read.added
  added_turn = operated_turn adding_of term (λ op x. roll-AddedTerm (record { operator = op.0; at = op.1; term = x })) h

  local_simple_from : (sign : Option (Sign × Span)) (x : Term) → Local (read.simple_from term sign x)
  local_simple_from sign x = local_bind (many (read.added term)) _ (local_many (read.added term) added_turn)
      (λ xs. local_pure _)

  local_simple : Local (read.simple term)
  unfolding read.simple
  local_simple = local_bind (eat_operator sign_of) _ (local_operator sign_of)
      (λ sign. local_bind term _ h (local_simple_from sign))

module _ (simple : Parser Simple) (h : Local simple) where
  local_compared_from : (x : Simple) → Local (read.compared_from simple x)
  local_compared_from x = local_bind (eat_operator relation_of) _ (local_operator relation_of)
      (λ o. local_if_some _ _ (λ op. local_map _ simple h) (local_pure _) o)

  local_compared : Local (read.compared simple)
  unfolding read.compared
  local_compared = local_bind simple _ h local_compared_from

mutual
  unfolding read.read_expr read.read_negated

  pub local_expr : (n : ℕ) → Local (read.read_expr n)
  local_expr zero = local_refuse
  local_expr (suc n) = local_compared _ (local_simple _
      (local_term _ (local_factor _ (local_expr n) _ (local_negated n))))

  pub local_negated : (n : ℕ) → Local (read.read_negated n)
  local_negated zero = local_refuse
  local_negated (suc n) = local_factor _ (local_expr n) _ (local_negated n)

-- ---- the items of the loops
pub operand_turn : (n : ℕ) → Turn (read.multiplied (read.read_factor n))
operand_turn n = multiplied_turn (read.read_factor n)
    (local_factor (read.read_expr n) (local_expr n) (read.read_negated n) (local_negated n))

pub summand_turn : (n : ℕ) → Turn (read.added (read.term (read.read_factor n)))
summand_turn n = added_turn (read.term (read.read_factor n))
    (local_term (read.read_factor n) (local_factor (read.read_expr n) (local_expr n) (read.read_negated n)
    (local_negated n)))

pub selection_turn : (n : ℕ) → Turn (read.selector (read.read_expr n))
selection_turn n = selector_turn (read.read_expr n) (local_expr n)

pub member_looks : (n : ℕ) → Local (read.member (read.read_expr n))
member_looks n = local_member (read.read_expr n) (local_expr n)
