-- Statements: what derives within n levels is at most n high, and what is at most n high derives within n levels.
use Rattle.std.proofs.Common.{ℕ, zero, suc, ◌≤◌, Bool, false, [], arith}
use Rattle.ps_scan.specs.declared.token.Kind.TheVariants.{Comma, Semicolon}
use Rattle.ps_syntax.specs.declared.expression.Expr.{Expr}
use Rattle.ps_syntax.specs.declared.statement.Parameter.{Parameter}
use Rattle.ps_syntax.specs.declared.statement.Statement.{Statement}
use Rattle.ps_syntax.specs.declared.statement.Element.{Element}
use Rattle.ps_syntax.specs.Height.{height_of_expr, height_of_variable, height_of_parameter, height_of_statement}
use Rattle.ps_syntax.specs.Height.{height_of_element}
use Rattle.ps_parse_grammar.specs.Symbols.{Tokens, Symbol, Separated, Terminated}
use Rattle.ps_parse_grammar.specs.Expressions.{IsVariable, expr_within}
use Rattle.ps_parse_grammar.specs.Statements.{IsParameter, unformatted, formatted, IsElement, element, InSequence}
use Rattle.ps_parse_grammar.specs.Statements.{in_sequence, IsSequence, IsStatement, empty, assign, procedure, call}
use Rattle.ps_parse_grammar.specs.Statements.{compound, if_then, if_else, case, while, repeat, for, with}
use Rattle.ps_parse_grammar.specs.Statements.{statement_within}
use Rattle.ps_parse_grammar.proofs.Heights as height
use Rattle.ps_parse_grammar.proofs.Levels.{Level, greatest_of, no_level, separated_level, terminated_level}
use Rattle.ps_parse_grammar.proofs.ExpressionLevels.{variable_level, exprs}

module _ (E E' : Symbol Expr) (k n : ℕ) (l : Level E height_of_expr k n E') where
  -- ---- actual parameters
  parameter_bounded : (y : Parameter) (ts r : Tokens) → IsParameter E y ts r → height_of_parameter y ≤ k
  parameter_bounded y ts r (unformatted {x = x} d) = l.bounded x ts r d
  parameter_bounded y ts r (formatted {x = x} {y = z} {m = m} d d') = omega
      (arith, l.bounded x ts _ d, l.bounded z m r d')

  parameter_lowers : (y : Parameter) (ts r : Tokens) → IsParameter E y ts r → height_of_parameter y ≤ n
      → IsParameter E' y ts r
  parameter_lowers y ts r (unformatted {x = x} d) le = unformatted (l.lowers x ts r d le)
  parameter_lowers y ts r (formatted {x = x} {y = z} {m = m} d d') le = formatted
      (l.lowers x ts _ d (omega (arith, le))) (l.lowers z m r d' (omega (arith, le)))

  parameters_level : Level (Separated Comma (IsParameter E)) (greatest_of height_of_parameter) k n
      (Separated Comma (IsParameter E'))
  parameters_level = separated_level (IsParameter E) (IsParameter E') height_of_parameter k n (record {
    bounded = parameter_bounded;
    lowers = parameter_lowers;
  }) Comma

  variables_level : Level (Separated Comma (IsVariable E)) (greatest_of height_of_variable) k n
      (Separated Comma (IsVariable E'))
  variables_level = separated_level (IsVariable E) (IsVariable E') height_of_variable k n
      (variable_level E E' k n l) Comma

  module _ (S S' : Bool → Symbol Statement) (i : (ends : Bool) → Level (S ends) height_of_statement k n (S' ends)) where
    -- ---- elements of a case
    element_bounded : (y : Element) (ts r : Tokens) → IsElement S y ts r → height_of_element y ≤ k
    element_bounded y ts r (element cs x {ends = ends} {m = m} d d') =
        (let h = i ends in omega (arith, height.height-element cs x, h.bounded x m r d'))

    element_lowers : (y : Element) (ts r : Tokens) → IsElement S y ts r → height_of_element y ≤ n → IsElement S' y ts r
    element_lowers y ts r (element cs x {ends = ends} {m = m} d d') le =
        (let h = i ends in element cs x {ends = ends} d
        (h.lowers x m r d' (omega (arith, height.height-element cs x, le))))

    elements_level : Level (Terminated Semicolon (IsElement S)) (greatest_of height_of_element) k n
        (Terminated Semicolon (IsElement S'))
    elements_level = terminated_level (IsElement S) (IsElement S') height_of_element k n (record {
      bounded = element_bounded;
      lowers = element_lowers;
    }) Semicolon

    -- ---- sequences
    in_sequence_bounded : (y : Statement) (ts r : Tokens) → InSequence S y ts r → height_of_statement y ≤ k
    in_sequence_bounded y ts r (in_sequence {ends = ends} d) = (let h = i ends in h.bounded y ts r d)

    in_sequence_lowers : (y : Statement) (ts r : Tokens) → InSequence S y ts r → height_of_statement y ≤ n
        → InSequence S' y ts r
    in_sequence_lowers y ts r (in_sequence {ends = ends} d) le =
        (let h = i ends in in_sequence {ends = ends} (h.lowers y ts r d le))

    pub sequence_level : Level (IsSequence S) (greatest_of height_of_statement) k n (IsSequence S')
    sequence_level = separated_level (InSequence S) (InSequence S') height_of_statement k n (record {
      bounded = in_sequence_bounded;
      lowers = in_sequence_lowers;
    }) Semicolon

    -- ---- statements, which are one higher than what they hold
    statement_bounded : (ends : Bool) (y : Statement) (ts r : Tokens) → IsStatement E S ends y ts r
        → height_of_statement y ≤ suc k
    statement_bounded ends y ts r empty = omega (arith, height.height-empty)
    statement_bounded ends y ts r (assign {v = v} {at = at} {x = x} {m = m} d d') =
        (let h = variable_level E E' k n l in omega
        (arith, height.height-assign v at x, h.bounded v ts _ d, l.bounded x m r d'))
    statement_bounded ends y ts r (procedure {at = at}) = omega (arith, height.height-procedure_call at [])
    statement_bounded ends y ts r (call {at = at} {xs = xs} {ts = m} d) = omega
        (arith, height.height-procedure_call at xs, parameters_level.bounded xs m _ d)
    statement_bounded ends y ts r (compound {xs = xs} {ts = m} d) = omega
        (arith, height.height-compound xs, sequence_level.bounded xs m _ d)
    statement_bounded ends y ts r (if_then {c = c} {x = x} {ends = b} {ts = q} {m = m} d d') =
        (let h = i b in omega (arith, height.height-if_then c x, l.bounded c q _ d, h.bounded x m r d'))
    statement_bounded ends y ts r (if_else {c = c} {x = x} {y = z} {ts = p} {l = q} {m = m} d d' d'') =
        (let h = i false in let h' = i ends in omega
        (arith, height.height-if_else c x z, l.bounded c p _ d, h.bounded x q _ d', h'.bounded z m r d''))
    statement_bounded ends y ts r (case {at = at} {x = x} {xs = xs} {ts = q} {m = m} d d') = omega
        (arith, height.height-case at x xs, l.bounded x q _ d, elements_level.bounded xs m _ d')
    statement_bounded ends y ts r (while {c = c} {x = x} {ts = q} {m = m} d d') =
        (let h = i ends in omega (arith, height.height-while c x, l.bounded c q _ d, h.bounded x m r d'))
    statement_bounded ends y ts r (repeat {xs = xs} {c = c} {ts = q} {m = m} d d') = omega
        (arith, height.height-repeat xs c, sequence_level.bounded xs q _ d, l.bounded c m r d')
    statement_bounded ends y ts r (for direction {name = name} {x = x} {y = z} {z = body} {ts = p} {l = q} {m = m} d d'
        d'') =
        (let h = i ends in omega (
          arith,
          height.height-for name x direction z body,
          l.bounded x p _ d,
          l.bounded z q _
              d',
          h.bounded body m r d'',
        ))
    statement_bounded ends y ts r (with {vs = vs} {x = x} {ts = q} {m = m} d d') =
        (let h = i ends in omega (arith, height.height-with vs x, variables_level.bounded vs q _ d, h.bounded x m r d'))

    statement_lowers : (ends : Bool) (y : Statement) (ts r : Tokens) → IsStatement E S ends y ts r
        → height_of_statement y ≤ suc n → IsStatement E' S' ends y ts r
    statement_lowers ends y ts r empty le = empty
    statement_lowers ends y ts r (assign {v = v} {at = at} {x = x} {m = m} d d') le =
        (let h = variable_level E E' k n l in assign
        (h.lowers v ts _ d (omega (arith, height.height-assign v at x, le)))
        (l.lowers x m r d' (omega (arith, height.height-assign v at x, le))))
    statement_lowers ends y ts r procedure le = procedure
    statement_lowers ends y ts r (call {at = at} {xs = xs} {ts = m} d) le = call
        (parameters_level.lowers xs m _ d (omega (arith, height.height-procedure_call at xs, le)))
    statement_lowers ends y ts r (compound {xs = xs} {ts = m} d) le = compound
        (sequence_level.lowers xs m _ d (omega (arith, height.height-compound xs, le)))
    statement_lowers ends y ts r (if_then {c = c} {x = x} {ends = b} {ts = q} {m = m} d d') le =
        (let h = i b in if_then {ends = b} (l.lowers c q _ d (omega (arith, height.height-if_then c x, le)))
        (h.lowers x m r d' (omega (arith, height.height-if_then c x, le))))
    statement_lowers ends y ts r (if_else {c = c} {x = x} {y = z} {ts = p} {l = q} {m = m} d d' d'') le =
        (let h = i false in let h' = i ends in
        if_else (l.lowers c p _ d (omega (arith, height.height-if_else c x z, le)))
        (h.lowers x q _ d' (omega (arith, height.height-if_else c x z, le)))
        (h'.lowers z m r d'' (omega (arith, height.height-if_else c x z, le))))
    statement_lowers ends y ts r (case {at = at} {x = x} {xs = xs} {ts = q} {m = m} d d') le =
        case (l.lowers x q _ d (omega (arith, height.height-case at x xs, le)))
        (elements_level.lowers xs m _ d' (omega (arith, height.height-case at x xs, le)))
    statement_lowers ends y ts r (while {c = c} {x = x} {ts = q} {m = m} d d') le =
        (let h = i ends in while (l.lowers c q _ d (omega (arith, height.height-while c x, le)))
        (h.lowers x m r d' (omega (arith, height.height-while c x, le))))
    statement_lowers ends y ts r (repeat {xs = xs} {c = c} {ts = q} {m = m} d d') le =
        repeat (sequence_level.lowers xs q _ d (omega (arith, height.height-repeat xs c, le)))
        (l.lowers c m r d' (omega (arith, height.height-repeat xs c, le)))
    statement_lowers ends y ts r (for direction {name = name} {x = x} {y = z} {z = body} {ts = p} {l = q} {m = m} d d'
        d'') le =
        (let h = i ends in
        for direction (l.lowers x p _ d (omega (arith, height.height-for name x direction z body, le)))
        (l.lowers z q _ d' (omega (arith, height.height-for name x direction z body, le)))
        (h.lowers body m r d'' (omega (arith, height.height-for name x direction z body, le))))
    statement_lowers ends y ts r (with {vs = vs} {x = x} {ts = q} {m = m} d d') le =
        (let h = i ends in with (variables_level.lowers vs q _ d (omega (arith, height.height-with vs x, le)))
        (h.lowers x m r d' (omega (arith, height.height-with vs x, le))))

    pub statement_level : (ends : Bool) → Level (IsStatement E S ends) height_of_statement (suc k) (suc n)
        (IsStatement E' S' ends)
    statement_level ends = record { bounded = statement_bounded ends; lowers = statement_lowers ends }

-- a statement has a height
some_height : (E : Symbol Expr) (S : Bool → Symbol Statement) (ends : Bool) (y : Statement) (ts r : Tokens)
    → IsStatement E S ends y ts r → 1 ≤ height_of_statement y
some_height E S ends y ts r empty = omega (arith, height.height-empty)
some_height E S ends y ts r (assign {v = v} {at = at} {x = x} d d') = omega (arith, height.height-assign v at x)
some_height E S ends y ts r (procedure {at = at}) = omega (arith, height.height-procedure_call at [])
some_height E S ends y ts r (call {at = at} {xs = xs} d) = omega (arith, height.height-procedure_call at xs)
some_height E S ends y ts r (compound {xs = xs} d) = omega (arith, height.height-compound xs)
some_height E S ends y ts r (if_then {c = c} {x = x} d d') = omega (arith, height.height-if_then c x)
some_height E S ends y ts r (if_else {c = c} {x = x} {y = z} d d' d'') = omega (arith, height.height-if_else c x z)
some_height E S ends y ts r (case {at = at} {x = x} {xs = xs} d d') = omega (arith, height.height-case at x xs)
some_height E S ends y ts r (while {c = c} {x = x} d d') = omega (arith, height.height-while c x)
some_height E S ends y ts r (repeat {xs = xs} {c = c} d d') = omega (arith, height.height-repeat xs c)
some_height E S ends y ts r (for direction {name = name} {x = x} {y = z} {z = body} d d' d'') = omega
    (arith, height.height-for name x direction z body)
some_height E S ends y ts r (with {vs = vs} {x = x} d d') = omega (arith, height.height-with vs x)

-- ---- at every level
pub statements : (k n : ℕ) (ends : Bool) → Level (statement_within k ends) height_of_statement k n
    (statement_within n ends)
statements zero n ends = no_level height_of_statement zero n (statement_within n ends)
statements (suc k) zero ends = record {
  bounded = (let h = statement_level (expr_within k) (expr_within zero) k zero (exprs k zero) (statement_within k)
      (statement_within zero) (statements k zero) ends in h.bounded);
  lowers = λ x ts r d le. absurd (omega (arith, some_height _ _ ends x ts r d, le));
}
statements (suc k) (suc n) ends = statement_level (expr_within k) (expr_within n) k n (exprs k n) (statement_within k)
    (statement_within n) (statements k n) ends
