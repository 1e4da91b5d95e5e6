-- A console over lists that fails at chosen calls.
use Rattle.std.specs.Prelude.{◌≡◌, ℕ, ◌-◌, ◌≤◌, ◌⊎◌, List, ◌∷◌, [], ◌++◌, drop, length, Some}
use Rattle.risc_machine.specs.Console.{World, one_more}

-- the input left, the output so far, the most bytes of output, and which call from the next one on fails (0 for none)
pub record Fuse : Type 0 where
  pub input : List ℕ
  pub output : List ℕ
  pub room : ℕ
  pub failing_take : ℕ
  pub failing_put : ℕ
  pub faults : ℕ

-- it reports its bytes
abbrev pub fused_world : Fuse → World
fused_world f = record { input = Some f.input; output = Some f.output; faults = f.faults }

abbrev pub FailsTake : Fuse → Type 0
FailsTake f = f.failing_take ≡ 1

-- the chosen call, or no room
abbrev pub FailsPut : Fuse → Type 0
FailsPut f = (f.failing_put ≡ 1) ⊎ (f.room ≤ length f.output)

abbrev pub after_take : Fuse → Fuse
after_take f = record f { input = drop 1 f.input; failing_take = f.failing_take - 1 }

abbrev pub after_failed_take : Fuse → Fuse
after_failed_take f = record f { failing_take = f.failing_take - 1; faults = one_more f.faults }

abbrev pub after_put : ℕ → Fuse → Fuse
after_put byte f = record f { output = f.output ++ byte ∷ []; failing_put = f.failing_put - 1 }

abbrev pub after_failed_put : Fuse → Fuse
after_failed_put f = record f { failing_put = f.failing_put - 1; faults = one_more f.faults }
