-- Rows in words: what is read was spelled so, and what was spelled is read again.
use Rattle.std.proofs.Common.{◌≡◌, ℕ, zero, suc, ◌+◌, ◌*◌, ◌/◌, ◌%◌, ◌≤◌, List, [], ◌∷◌, length, get_or, Some, refl}
use Rattle.std.proofs.Common.{ap, arith}
use Rattle.std.specs.Prelude.{slice_get}
use Rattle.std.specs.List.{flat_map}
use Rattle.risc_image.specs.declared.rows.FrameRow.{FrameRow}
use Rattle.risc_image.specs.declared.rows.ObjectRow.{ObjectRow}
use Rattle.risc_image.specs.declared.rows.TrapRow.{TrapRow}
use Rattle.risc_image.specs.declared.rows.CallRow.{CallRow}
use Rattle.risc_image.specs.Format.{frame_words, object_words, trap_words, call_words}
use Rattle.risc_image.specs.Table.{frame_rows, object_rows, trap_rows, call_rows_of}

-- words past a row of two, and of three
get_or-past_two : (a b : ℕ) (rest : List ℕ) (k j : ℕ) → j ≡ k + 2 → get_or (a ∷ b ∷ rest) j 0 ≡ get_or rest k 0
get_or-past_two a b rest k j e = let e' : j ≡ suc (suc k) = omega arith in rw e' refl

get_or-past_three : (a b c : ℕ) (rest : List ℕ) (k j : ℕ) → j ≡ k + 3 → get_or (a ∷ b ∷ c ∷ rest) j 0 ≡ get_or rest k 0
get_or-past_three a b c rest k j e = let e' : j ≡ suc (suc (suc k)) = omega arith in rw e' refl

-- ---- frames

pub frame_row_at : (ws : List ℕ) (k : ℕ) → 2 * k + 2 ≤ length ws → slice_get (frame_rows ws) k ≡ Some (record {
  entry = get_or ws (2 * k) 0;
  bytes = get_or ws (2 * k + 1) 0;
})
frame_row_at (a ∷ b ∷ rest) zero fits = refl
frame_row_at (a ∷ b ∷ rest) (suc k) fits =
    rw (
      get_or-past_two a b rest (2 * k) (2 * suc k) (omega arith),
      get_or-past_two a b rest (2 * k + 1) (2 * suc k + 1)
          (omega arith),
    ) (frame_row_at rest k (omega arith))
frame_row_at (a ∷ []) k fits = absurd (omega arith)
frame_row_at [] k fits = absurd (omega arith)

pub length_frame_rows : (ws : List ℕ) → length (frame_rows ws) ≡ length ws / 2
length_frame_rows (a ∷ b ∷ rest) = omega (arith, length_frame_rows rest)
length_frame_rows (a ∷ []) = refl
length_frame_rows [] = refl

pub frame_rows-spelled : (rows : List FrameRow) → frame_rows (flat_map frame_words rows) ≡ rows
frame_rows-spelled [] = refl
frame_rows-spelled (row ∷ rows) = ap (λ (x : List FrameRow). row ∷ x) (frame_rows-spelled rows)

pub frame_rows-read : (ws : List ℕ) → length ws % 2 ≡ 0 → flat_map frame_words (frame_rows ws) ≡ ws
frame_rows-read (a ∷ b ∷ rest) whole = ap (λ (x : List ℕ). a ∷ b ∷ x) (frame_rows-read rest (omega arith))
frame_rows-read (a ∷ []) whole = absurd (omega arith)
frame_rows-read [] whole = refl

-- ---- objects

pub object_row_at : (ws : List ℕ) (k : ℕ) → 2 * k + 2 ≤ length ws → slice_get (object_rows ws) k ≡ Some (record {
  pointer_type = get_or ws (2 * k) 0;
  bytes = get_or ws (2 * k + 1) 0;
})
object_row_at (a ∷ b ∷ rest) zero fits = refl
object_row_at (a ∷ b ∷ rest) (suc k) fits =
    rw (
      get_or-past_two a b rest (2 * k) (2 * suc k) (omega arith),
      get_or-past_two a b rest (2 * k + 1) (2 * suc k + 1)
          (omega arith),
    ) (object_row_at rest k (omega arith))
object_row_at (a ∷ []) k fits = absurd (omega arith)
object_row_at [] k fits = absurd (omega arith)

pub length_object_rows : (ws : List ℕ) → length (object_rows ws) ≡ length ws / 2
length_object_rows (a ∷ b ∷ rest) = omega (arith, length_object_rows rest)
length_object_rows (a ∷ []) = refl
length_object_rows [] = refl

pub object_rows-spelled : (rows : List ObjectRow) → object_rows (flat_map object_words rows) ≡ rows
object_rows-spelled [] = refl
object_rows-spelled (row ∷ rows) = ap (λ (x : List ObjectRow). row ∷ x) (object_rows-spelled rows)

pub object_rows-read : (ws : List ℕ) → length ws % 2 ≡ 0 → flat_map object_words (object_rows ws) ≡ ws
object_rows-read (a ∷ b ∷ rest) whole = ap (λ (x : List ℕ). a ∷ b ∷ x) (object_rows-read rest (omega arith))
object_rows-read (a ∷ []) whole = absurd (omega arith)
object_rows-read [] whole = refl

-- ---- traps

pub trap_row_at : (ws : List ℕ) (k : ℕ) → 3 * k + 3 ≤ length ws → slice_get (trap_rows ws) k ≡ Some (record {
  link = get_or ws (3 * k) 0;
  error = get_or ws (3 * k + 1) 0;
  line = get_or ws (3 * k + 2) 0;
})
trap_row_at (a ∷ b ∷ c ∷ rest) zero fits = refl
trap_row_at (a ∷ b ∷ c ∷ rest) (suc k) fits =
    rw (
      get_or-past_three a b c rest (3 * k) (3 * suc k) (omega arith),
      get_or-past_three a b c rest (3 * k + 1)
          (3 * suc k + 1) (omega arith),
      get_or-past_three a b c rest (3 * k + 2) (3 * suc k + 2) (omega arith),
    )
    (trap_row_at rest k (omega arith))
trap_row_at (a ∷ b ∷ []) k fits = absurd (omega arith)
trap_row_at (a ∷ []) k fits = absurd (omega arith)
trap_row_at [] k fits = absurd (omega arith)

pub length_trap_rows : (ws : List ℕ) → length (trap_rows ws) ≡ length ws / 3
length_trap_rows (a ∷ b ∷ c ∷ rest) = omega (arith, length_trap_rows rest)
length_trap_rows (a ∷ b ∷ []) = refl
length_trap_rows (a ∷ []) = refl
length_trap_rows [] = refl

pub trap_rows-spelled : (rows : List TrapRow) → trap_rows (flat_map trap_words rows) ≡ rows
trap_rows-spelled [] = refl
trap_rows-spelled (row ∷ rows) = ap (λ (x : List TrapRow). row ∷ x) (trap_rows-spelled rows)

pub trap_rows-read : (ws : List ℕ) → length ws % 3 ≡ 0 → flat_map trap_words (trap_rows ws) ≡ ws
trap_rows-read (a ∷ b ∷ c ∷ rest) whole = ap (λ (x : List ℕ). a ∷ b ∷ c ∷ x) (trap_rows-read rest (omega arith))
trap_rows-read (a ∷ b ∷ []) whole = absurd (omega arith)
trap_rows-read (a ∷ []) whole = absurd (omega arith)
trap_rows-read [] whole = refl

-- ---- calls

pub call_row_at : (ws : List ℕ) (k : ℕ) → 2 * k + 2 ≤ length ws → slice_get (call_rows_of ws) k ≡ Some (record {
  link = get_or ws (2 * k) 0;
  line = get_or ws (2 * k + 1) 0;
})
call_row_at (a ∷ b ∷ rest) zero fits = refl
call_row_at (a ∷ b ∷ rest) (suc k) fits =
    rw (
      get_or-past_two a b rest (2 * k) (2 * suc k) (omega arith),
      get_or-past_two a b rest (2 * k + 1) (2 * suc k + 1)
          (omega arith),
    ) (call_row_at rest k (omega arith))
call_row_at (a ∷ []) k fits = absurd (omega arith)
call_row_at [] k fits = absurd (omega arith)

pub length_call_rows : (ws : List ℕ) → length (call_rows_of ws) ≡ length ws / 2
length_call_rows (a ∷ b ∷ rest) = omega (arith, length_call_rows rest)
length_call_rows (a ∷ []) = refl
length_call_rows [] = refl

pub call_rows-spelled : (rows : List CallRow) → call_rows_of (flat_map call_words rows) ≡ rows
call_rows-spelled [] = refl
call_rows-spelled (row ∷ rows) = ap (λ (x : List CallRow). row ∷ x) (call_rows-spelled rows)

pub call_rows-read : (ws : List ℕ) → length ws % 2 ≡ 0 → flat_map call_words (call_rows_of ws) ≡ ws
call_rows-read (a ∷ b ∷ rest) whole = ap (λ (x : List ℕ). a ∷ b ∷ x) (call_rows-read rest (omega arith))
call_rows-read (a ∷ []) whole = absurd (omega arith)
call_rows-read [] whole = refl
