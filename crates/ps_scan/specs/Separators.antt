-- The separators (ISO 7185, 6.1.8): the space, tab, carriage return and line end, and the comment.
use Rattle.std.specs.Prelude.{◌≡◌, ◌≢◌, ℕ, Bool, true, ◌||◌, ◌==◌, [], ◌∷◌}
use Rattle.ps_scan.specs.Tables.{Bytes}

abbrev pub is_blank : ℕ → Bool
is_blank b = b == 32 || (b == 9 || (b == 13 || b == 10))

-- the bytes after a comment's opening: up to the first "}" or "*)"
pub data IsComment : Bytes → Type 0 where
  brace : IsComment (125 ∷ [])
  star : IsComment (42 ∷ 41 ∷ [])
  more : {b c : ℕ} {bs : Bytes} → b ≢ 125 → (b ≡ 42 → c ≢ 41) → IsComment (c ∷ bs) → IsComment (b ∷ c ∷ bs)

-- a comment opens with "{" or "(*"
pub data IsSeparator : Bytes → Type 0 where
  blank : {b : ℕ} → is_blank b ≡ true → IsSeparator (b ∷ [])
  braced : {bs : Bytes} → IsComment bs → IsSeparator (123 ∷ bs)
  starred : {bs : Bytes} → IsComment bs → IsSeparator (40 ∷ 42 ∷ bs)
