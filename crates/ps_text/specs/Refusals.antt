-- The numbers of the refusals of a text.
use Rattle.std.specs.Prelude.{ℕ}
use Rattle.ps_text.specs.declared.TextRefusal.{TextRefusal}
use Rattle.ps_text.specs.declared.TextRefusal.TheVariants.{TooLong, TooManyLines}

abbrev pub number_of : TextRefusal → ℕ
number_of TooLong = 1
number_of TooManyLines = 2
