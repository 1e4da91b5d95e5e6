-- What a part of a variable is among its words.
use Rattle.std.specs.Prelude.{◌≡◌, ℕ, ◌+◌, ◌*◌, ◌<◌, ◌≤◌, List, slice_get}
use Rattle.ps_meaning.specs.Values.{Value, part, with_part}
use Rattle.tac_code_steps.specs.Splices.{spliced}
use Rattle.ps_lower_layout.specs.Shapes.{Shape, word_count}
use Rattle.ps_lower_layout.specs.Words.{value_words}
use Rattle.ps_lower_layout.specs.Paths.{HasShape, GoesTo}

-- The part at the end of a path is a stretch of whole words, both when read and when written.
pub record SpanIn (made : List ℕ) (v : Value) (path : List ℕ) (outer inner : Shape) (j : ℕ) : Type 0 where
  pub place : ℕ
  pub is : j ≡ 4 * place
  pub within : place + word_count inner ≤ word_count outer
  pub fits : HasShape made (part v path) inner
  pub reads : (i : ℕ) → i < word_count inner → slice_get (value_words outer v) (place + i) ≡ slice_get
      (value_words inner (part v path)) i
  pub writes : (u : Value) → GoesTo made path u inner
      → (value_words outer (with_part v path u) ≡ spliced place (value_words inner u) (value_words outer v))
      × HasShape made (with_part v path u) outer
