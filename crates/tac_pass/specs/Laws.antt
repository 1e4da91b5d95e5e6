-- The laws of keeping, stated for callers of this crate.
use Rattle.std.specs.Prelude.{◌≡◌, ℕ}
use Rattle.behavior.specs.Endings.{Stuck}
use Rattle.behavior.specs.Transcripts.{Shown}
use Rattle.tac_code.specs.Meaning.{Code}
use Rattle.tac_code_steps.specs.InTurns.{Setting, ShowsInTurns}
use Rattle.tac_pass.specs.Keeps.{Keeps}
use Rattle.tac_pass.specs.Claims.{Certificate}
use Rattle.tac_pass.specs.Follows.{Checked}
use Rattle.tac_pass.specs.Certified.{Tested, Certified}
use Rattle.tac_pass.specs.Walk.{ArePassed}

-- this is how a pass is put after the lowering, or after another pass
abbrev pub KeepingComposes : Type 0
KeepingComposes =
    (a : ℕ → Shown) (old new : Code) (p : Setting) → ((n : ℕ) → (a n).1 ≡ Stuck → ⊥) → Keeps old new
    → ShowsInTurns a old p → ShowsInTurns a new p

-- the test's yes is enough
abbrev pub CheckedKeeps : Type 0
CheckedKeeps = (old new : Code) (e : Certificate) → Checked old new e → Keeps old new

-- and so is a certificate as data
abbrev pub CertifiedKeeps : Type 0
CertifiedKeeps = (old new : Code) (x : Tested) → Certified old new x → Keeps old new

-- and so is new code that was made by plans
abbrev pub PassedKeeps : Type 0
PassedKeeps = (old new : Code) → ArePassed old new → Keeps old new
