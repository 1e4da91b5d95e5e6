-- The certificate: what is claimed where an instruction of the old code begins, and where that is in the new code.
use Rattle.std.specs.Prelude.{ℕ, Bool, Option}
use Rattle.tac_pass.specs.Moved.{Places}

-- Words of the own frame are counted from 0, each of 4 bytes; an offset of it is one in bytes. Of each family, what is
-- not claimed is None or true.
pub record Claim : Type 0 where
  -- the new temporary that holds what an old one holds
  pub temporaries : ℕ → Option ℕ
  -- the new temporary that holds what a word of the old frame holds
  pub words : ℕ → Option ℕ
  -- whether a word of the new frame may differ from that of the old one
  pub stale : ℕ → Bool
  -- whether a word of the old frame may never have been written
  pub blank : ℕ → Bool
  -- whether an old temporary may hold the address of an offset of the own frame
  pub points : ℕ → ℕ → Bool
  -- whether a word of the old frame may hold that
  pub word_points : ℕ → ℕ → Bool

pub record Certificate : Type 0 where
  -- of each routine and each place of its old code
  pub claims : ℕ → ℕ → Claim
  -- where its new code begins, with what is put in before
  pub starts : Places
  -- where the instruction itself is, or what follows it, if it was left out
  pub stands : Places
