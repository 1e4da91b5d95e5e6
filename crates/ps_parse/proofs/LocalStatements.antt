-- The reading of statements looks no further than the token that it stops before or refuses.
use Rattle.std.proofs.Common.{ℕ, zero, suc, List, [], ◌∷◌, Option, Some, None}
use Rattle.ps_text.specs.declared.Span.{Span}
use Rattle.ps_scan.specs.declared.token.Kind.{Kind}
use Rattle.ps_scan.specs.declared.token.Kind.TheVariants as k
use Rattle.ps_syntax.specs.declared.expression.Sign.{Sign}
use Rattle.ps_syntax.specs.declared.expression.Expr.{Expr}
use Rattle.ps_syntax.specs.declared.expression.Selector.{Selector}
use Rattle.ps_syntax.specs.declared.statement.Direction.{Direction}
use Rattle.ps_syntax.specs.declared.statement.Statement.{Statement}
use Rattle.ps_syntax.specs.declared.statement.Statement.TheVariants as s
use Rattle.ps_parse.specs.Steps.{Parser, ◌>>=◌, pure, refuse, eat, accept, expect, separated, terminated, many}
use Rattle.ps_parse.specs.ReadExpressions.{eat_operator, sign_of, selector, read_expr}
use Rattle.ps_parse.specs.ReadStatements as read
use Rattle.ps_parse.proofs.Local.{Local, local_pure, local_refuse, local_bind, local_map, local_past, local_next}
use Rattle.ps_parse.proofs.Local.{local_if, local_if_some, local_eat, local_accept, local_expect, local_operator}
use Rattle.ps_parse.proofs.LocalLists.{local_separated, local_terminated, local_many}
use Rattle.ps_parse.proofs.LocalExpressions.{selector_turn, local_variable, local_expr}

local_operand_by : (sign : Option (Sign × Span)) (kind : Kind) (at : Span) → Local (read.operand_by sign kind at)
local_operand_by sign k.Number at = local_past _ (local_pure _)
local_operand_by sign k.Name at = local_past _ (local_pure _)
local_operand_by sign kind at = local_refuse

local_operand : (sign : Option (Sign × Span)) → Local (read.operand sign)
unfolding read.operand
local_operand sign = local_next (λ t. read.operand_by sign t.kind t.span) refuse
    (λ t. local_operand_by sign t.kind t.span) local_refuse

pub local_constant : Local read.constant
unfolding read.constant
local_constant = local_bind (accept k.Text) _ (local_accept k.Text)
    (λ text. local_if_some _ _ (λ at. local_pure _)
    (local_bind (eat_operator sign_of) _ (local_operator sign_of) local_operand) text)

module _ (expr : Parser Expr) (h : Local expr) where
  local_parameter : Local (read.parameter expr)
  unfolding read.parameter
  local_parameter = local_bind expr _ h (λ x. local_bind (eat k.Colon) _ (local_eat k.Colon)
      (λ b. local_if _ _ (local_map _ expr h) (local_pure _) b))

  local_assigned : (name : Span) (xs : List Selector) (becomes : Option Span) → Local
      (read.assigned expr name xs becomes)
  local_assigned name xs (Some at) = local_map _ expr h
  local_assigned name [] None = local_pure _
  local_assigned name (x ∷ xs) None = local_refuse

  local_call : (name : Span) → Local (separated k.Comma (read.parameter expr)
      >>= (λ xs. expect k.RightParen >>= (λ _. pure (s.Call name xs))))
  local_call name = local_bind (separated k.Comma (read.parameter expr)) _
      (local_separated k.Comma (read.parameter expr) local_parameter)
      (λ xs. local_bind (expect k.RightParen) _ (local_expect k.RightParen) (λ _. local_pure _))

  local_assign : (name : Span) → Local (many (selector expr) >>= (λ xs. accept k.Assign >>= read.assigned expr name xs))
  local_assign name = local_bind (many (selector expr)) _ (local_many (selector expr) (selector_turn expr h))
      (λ xs. local_bind (accept k.Assign) _ (local_accept k.Assign) (local_assigned name xs))

  local_after_name : (name : Span) → Local (read.after_name expr name)
  unfolding read.after_name
  local_after_name name = local_bind (eat k.LeftParen) _ (local_eat k.LeftParen)
      (λ b. local_if _ _ (local_call name) (local_assign name) b)

  local_named_variable : Local (read.named_variable expr)
  unfolding read.named_variable
  local_named_variable = local_bind (expect k.Name) _ (local_expect k.Name) (local_variable expr h)

  module _ (statement : Parser Statement) (i : Local statement) where
    local_sequence : Local (read.sequence expr statement)
    unfolding read.sequence
    local_sequence = local_separated k.Semicolon statement i

    local_compound : Local (read.compound expr statement)
    unfolding read.compound
    local_compound = local_bind (read.sequence expr statement) _ local_sequence
        (λ xs. local_bind (expect k.End) _ (local_expect k.End) (λ _. local_pure _))

    local_if_statement : Local (read.if_statement expr statement)
    unfolding read.if_statement
    local_if_statement =
        local_bind expr _ h (λ c. local_bind (expect k.Then) _ (local_expect k.Then)
        (λ _. local_bind statement _ i (λ x. local_bind (eat k.Else) _ (local_eat k.Else)
        (λ b. local_if _ _ (local_map _ statement i) (local_pure _) b))))

    local_element : Local (read.element expr statement)
    unfolding read.element
    local_element = local_bind (separated k.Comma read.constant) _
        (local_separated k.Comma read.constant local_constant)
        (λ cs. local_bind (expect k.Colon) _ (local_expect k.Colon) (λ _. local_bind statement _ i (λ x. local_pure _)))

    local_case_statement : (at : Span) → Local (read.case_statement expr statement at)
    unfolding read.case_statement
    local_case_statement at =
        local_bind expr _ h (λ x. local_bind (expect k.Of) _ (local_expect k.Of) (λ _.
        local_bind (terminated k.Semicolon k.End (read.element expr statement)) _
        (local_terminated k.Semicolon k.End (read.element expr statement) local_element)
        (λ xs. local_bind (expect k.End) _ (local_expect k.End) (λ _. local_pure _))))

    local_while_statement : Local (read.while_statement expr statement)
    unfolding read.while_statement
    local_while_statement = local_bind expr _ h
        (λ c. local_bind (expect k.Do) _ (local_expect k.Do) (λ _. local_map _ statement i))

    local_repeat_statement : Local (read.repeat_statement expr statement)
    unfolding read.repeat_statement
    local_repeat_statement = local_bind (read.sequence expr statement) _ local_sequence
        (λ xs. local_bind (expect k.Until) _ (local_expect k.Until) (λ _. local_map _ expr h))

    local_for_to : (name : Span) (x : Expr) (d : Option (Direction × Span)) → Local
        (read.for_to expr statement name x d)
    local_for_to name x None = local_refuse
    local_for_to name x (Some d) = local_bind expr _ h
        (λ y. local_bind (expect k.Do) _ (local_expect k.Do) (λ _. local_map _ statement i))

    local_for_statement : Local (read.for_statement expr statement)
    unfolding read.for_statement
    local_for_statement =
        local_bind (expect k.Name) _ (local_expect k.Name)
        (λ name. local_bind (expect k.Assign) _ (local_expect k.Assign) (λ _.
        local_bind expr _ h (λ x. local_bind (eat_operator read.direction_of) _ (local_operator read.direction_of)
        (local_for_to name x))))

    local_with_statement : Local (read.with_statement expr statement)
    unfolding read.with_statement
    local_with_statement = local_bind (separated k.Comma (read.named_variable expr)) _
        (local_separated k.Comma (read.named_variable expr) local_named_variable)
        (λ vs. local_bind (expect k.Do) _ (local_expect k.Do) (λ _. local_map _ statement i))

    local_unnamed_by : (kind : Kind) (at : Span) → Local (read.unnamed_by expr statement kind at)
    local_unnamed_by k.Begin at = local_past _ local_compound
    local_unnamed_by k.If at = local_past _ local_if_statement
    local_unnamed_by k.Case at = local_past _ (local_case_statement at)
    local_unnamed_by k.While at = local_past _ local_while_statement
    local_unnamed_by k.Repeat at = local_past _ local_repeat_statement
    local_unnamed_by k.For at = local_past _ local_for_statement
    local_unnamed_by k.With at = local_past _ local_with_statement
    local_unnamed_by kind at = local_pure _

    local_statement_by : (kind : Kind) (at : Span) → Local (read.statement_by expr statement kind at)
    local_statement_by k.Name at = local_past _ (local_after_name at)
    local_statement_by kind at = local_unnamed_by kind at

    local_any_statement : Local (read.any_statement expr statement)
    unfolding read.any_statement
    local_any_statement = local_next (λ t. read.statement_by expr statement t.kind t.span) (pure s.Empty)
        (λ t. local_statement_by t.kind t.span) (local_pure _)

pub local_statement : (n : ℕ) → Local (read.read_statement n)
unfolding read.read_statement
local_statement zero = local_refuse
local_statement (suc n) = local_any_statement (read_expr n) (local_expr n) (read.read_statement n) (local_statement n)

-- ---- the items of the loops
pub parameter_looks : (n : ℕ) → Local (read.parameter (read_expr n))
parameter_looks n = local_parameter (read_expr n) (local_expr n)

pub variable_looks : (n : ℕ) → Local (read.named_variable (read_expr n))
variable_looks n = local_named_variable (read_expr n) (local_expr n)

pub element_looks : (n : ℕ) → Local (read.element (read_expr n) (read.read_statement n))
element_looks n = local_element (read_expr n) (local_expr n) (read.read_statement n) (local_statement n)
