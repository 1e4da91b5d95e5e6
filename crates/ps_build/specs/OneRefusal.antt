-- The refusal of a text that isn't accepted is one.
use Rattle.std.specs.Prelude.{◌≡◌, ℕ, List}
use Rattle.ps_build.specs.declared.refusal.Refusal.{Refusal}
use Rattle.ps_build.specs.Accepts.{IsRefused, IsFaulty}

-- What is reported of a text's fault is one refusal, with one number and one place.
abbrev pub RefusalsAreOne : Type 0
RefusalsAreOne = (text : List ℕ) (x y : Refusal) → IsRefused text x → IsRefused text y → IsFaulty x → IsFaulty y → x ≡ y
