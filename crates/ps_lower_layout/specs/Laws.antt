-- Laws of shapes.
use Rattle.std.specs.Prelude.{◌≡◌, length}
use Rattle.ps_meaning.specs.Values.{Value}
use Rattle.ps_lower_layout.specs.Shapes.{Shape, word_count}
use Rattle.ps_lower_layout.specs.Words.{value_words}

-- every value has as many words as its variable's shape
abbrev pub WordsAreCounted : Type 0
WordsAreCounted = (shape : Shape) (v : Value) → length (value_words shape v) ≡ word_count shape
