-- The bytes of a line, counted from the beginning of a text.
use Rattle.std.proofs.Common.{◌≡◌, ℕ, suc, ◌+◌, ◌<◌, ◌≤◌, List, length, drop, get_or, sym, ap, ◌∙◌, arith}
use Rattle.std.proofs.Math.Seq.{drop-cons}
use Rattle.std.proofs.lemmas.List.{drop_all}
use Rattle.ps_diagnostic.specs.Head.{step, behind_line_end}

-- what is counted up to a byte, and from there on, is all
pub record IsCounted (bytes : List ℕ) (at count : ℕ) : Type 0 where
  pub few : count ≤ at
  pub rest : behind_line_end count (drop at bytes) ≡ behind_line_end 0 bytes

pub counted_next : (bytes : List ℕ) (at count byte : ℕ) → at < length bytes → byte ≡ get_or bytes at byte
    → behind_line_end count (drop at bytes) ≡ behind_line_end 0 bytes → behind_line_end (step count byte)
    (drop (at + 1) bytes) ≡ behind_line_end 0 bytes
counted_next bytes at count byte lt is rest =
    (let e : at + 1 ≡ suc at = omega arith in ap (λ k. behind_line_end (step count byte) (drop k bytes)) e)
    ∙ ap (λ b. behind_line_end (step count b) (drop (suc at) bytes)) is
    ∙ ap (λ l. behind_line_end count l) (sym (drop-cons bytes at byte lt))
    ∙ rest

pub counted_end : (bytes : List ℕ) (at count : ℕ) → length bytes ≤ at → behind_line_end count (drop at bytes)
    ≡ behind_line_end 0 bytes → count ≡ behind_line_end 0 bytes
counted_end bytes at count le rest = ap (λ l. behind_line_end count l) (sym (drop_all at bytes le)) ∙ rest
