-- What is added to a list of uses.
use Rattle.std.specs.Prelude.{◌≡◌, false, List, ◌++◌}
use Rattle.ps_needs_least.specs.declared.uses.Use.{Use}
use Rattle.ps_needs_least.specs.declared.uses.Found.{Found}

-- unless out of memory, none was lost before, and the uses were added after those already there
pub record Adds (before after : Found) (us : List Use) : Type 0 where
  pub kept : after.lost ≡ false → before.lost ≡ false
  pub list : after.lost ≡ false → after.list.items ≡ before.list.items ++ us
