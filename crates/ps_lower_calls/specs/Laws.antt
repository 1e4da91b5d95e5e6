-- Laws of calls.
use Rattle.std.specs.Prelude.{◌≡◌, ℕ, ◌+◌, ◌*◌, ◌≤◌, List, [], ◌∷◌, length}
use Rattle.ps_tree.specs.Types.{DataType}
use Rattle.tac_code.specs.declared.code.Base.TheVariants as base
use Rattle.tac_code.specs.Memory.{Words}
use Rattle.ps_meaning.specs.Values.{first}
use Rattle.ps_meaning.specs.Worlds.{World}
use Rattle.tac_code_steps.specs.Runs.{Stands}
use Rattle.ps_lower_layout.specs.Shapes.{shape_of}
use Rattle.ps_lower_layout.specs.Words.{value_words}
use Rattle.ps_lower_code.specs.Scopes.{Scope}
use Rattle.ps_lower_code.specs.Statements.{first_code}
use Rattle.ps_lower_relation.specs.Ghosts.{Ghost}
use Rattle.ps_lower_relation.specs.Here.{Setting, code_in, Work, Activated}
use Rattle.ps_lower_calls.specs.Entering.{Places, CanCopy}
use Rattle.ps_lower_code.specs.First.{FirstFits}

-- the code of a type's first value places the words of that value
abbrev pub FirstsArePlaced : Type 0
FirstsArePlaced =
    (p : Setting) (c : Activated) (gs : List Ghost) (w : World) (k : Scope) (type : DataType) (free : ℕ) (words : Words)
    (work : Work) (pc pc' place offset : ℕ)
    → CanCopy p c gs w k work.count (length words) → FirstFits (shape_of type) → offset ≡ 4 * place → place + length
    (value_words (shape_of type) (first type)) ≤ length words → Stands (code_in p) c.routine pc
    (first_code k base.Frame free offset (shape_of type)) pc'
    → Places p c gs w free words work pc pc' (record {
      place = place;
      words = value_words (shape_of type) (first type);
    } ∷ [])
