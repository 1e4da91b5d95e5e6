-- Values of the old code as the new code has them: a constant is named by the place of its instruction, which may be
-- another one.
use Rattle.std.specs.Prelude.{ℕ, map, Option, Some, None}
use Rattle.tac_code.specs.declared.code.Block.{Block}
use Rattle.tac_code.specs.declared.code.Block.TheVariants.{Frame, Scratch, Object, Constant}
use Rattle.tac_code.specs.declared.code.Value.{Value}
use Rattle.tac_code.specs.declared.code.Value.TheVariants.{Number, Address, Routine}
use Rattle.tac_code.specs.Memory.{Words, Living}

-- the new place of what was at a place of a routine
abbrev pub Places : Type 0
Places = ℕ → ℕ → ℕ

abbrev pub moved_block : Places → Block → Block
moved_block at (Frame a) = Frame a
moved_block at (Scratch a) = Scratch a
moved_block at (Object n) = Object n
moved_block at (Constant r place) = Constant r (at r place)

abbrev pub moved : Places → Value → Value
moved at (Number z) = Number z
moved at (Address block offset) = Address (moved_block at block) offset
moved at (Routine r) = Routine r

abbrev pub moved_word : Places → Option Value → Option Value
moved_word at None = None
moved_word at (Some v) = Some (moved at v)

abbrev pub moved_words : Places → Words → Words
moved_words at words = map (moved_word at) words

abbrev pub moved_living : Places → Living → Living
moved_living at b = record { number = b.number; words = moved_words at b.words }
