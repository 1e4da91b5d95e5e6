-- Laws of the relation.
use Rattle.std.specs.Prelude.{ℕ, List}
use Rattle.ps_meaning.specs.Values.{Value}
use Rattle.ps_lower_layout.specs.Shapes.{Shape, Whole}
use Rattle.ps_lower_layout.specs.Paths.{PathIn, HasShape}
use Rattle.ps_lower_relation.specs.Spans.{SpanIn}

-- each part of a variable is a stretch of its words
abbrev pub PartsAreSpans : Type 0
PartsAreSpans = (made : List ℕ) (v : Value) (path : List ℕ) (outer inner : Shape) (j : ℕ) → HasShape made v outer
    → PathIn path outer (Whole inner) j → SpanIn made v path outer inner j
