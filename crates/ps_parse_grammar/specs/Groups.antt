-- Parentheses directly within one another are one part of the tree, which holds their number. So a text has one tree.
use Rattle.std.specs.Prelude.{ℕ, suc, List, [], ◌∷◌, Option, Some, None}
use Rattle.ps_text.specs.declared.Span.{Span}
use Rattle.ps_syntax.specs.declared.expression.Sign.{Sign}
use Rattle.ps_syntax.specs.declared.expression.Expr.{Expr, out-Expr}
use Rattle.ps_syntax.specs.declared.expression.Expr.TheOpen.{Expr-F, Factor-F}
use Rattle.ps_syntax.specs.declared.expression.Simple.{Simple, out-Simple}
use Rattle.ps_syntax.specs.declared.expression.AddedTerm.{AddedTerm}
use Rattle.ps_syntax.specs.declared.expression.Term.{Term, out-Term}
use Rattle.ps_syntax.specs.declared.expression.MultipliedFactor.{MultipliedFactor}
use Rattle.ps_syntax.specs.declared.expression.Factor.{Factor, out-Factor}
use Rattle.ps_syntax.specs.declared.expression.Factor.TheVariants as f
use Rattle.ps_syntax.specs.First.{ExprLayer, FactorLayer}

-- the number of the parentheses within the outermost, and the expression in the innermost
abbrev pub Inside : Type 0
Inside = Option (ℕ × Expr)

abbrev pub inside_factor : FactorLayer → Inside
inside_factor (Factor-F.Group at n x) = Some (n, x)
inside_factor _ = None

abbrev pub inside_term : Factor → List MultipliedFactor → Inside
inside_term x [] = inside_factor (out-Factor x)
inside_term x (y ∷ ys) = None

abbrev pub inside_simple : Option (Sign × Span) → Term → List AddedTerm → Inside
inside_simple None x [] = inside_term (out-Term x).first (out-Term x).more
inside_simple None x (y ∷ ys) = None
inside_simple (Some sign) x ys = None

abbrev pub inside_layer : ExprLayer → Inside
inside_layer (Expr-F.Simple x) = inside_simple (out-Simple x).sign (out-Simple x).first (out-Simple x).more
inside_layer (Expr-F.Compare x op at y) = None

-- of an expression that is in parentheses as a whole: no sign comes before them, and nothing after them
unfoldable pub inside : Expr → Inside
inside x = inside_layer (out-Expr x)

abbrev pub without : Expr → Inside → ℕ × Expr
without x None = (0, x)
without x (Some p) = (suc p.0, p.1)

-- the number of parentheses around an expression as a whole, and what is in them
unfoldable pub stripped : Expr → ℕ × Expr
stripped x = without x (inside x)

-- an expression as it is in a parenthesis at this place
unfoldable pub grouped : Span → Expr → Factor
grouped at x = f.Group at (stripped x).0 (stripped x).1
