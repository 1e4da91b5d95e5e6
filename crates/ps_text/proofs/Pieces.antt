-- The line ends of a text, counted piece by piece.
use Rattle.std.proofs.Common.{◌≡◌, ℕ, ◌+◌, ◌-◌, ◌≤◌, List, [], length, take, drop, cond, length-drop, take_all, ap}
use Rattle.std.proofs.Common.{arith}
use Rattle.std.proofs.lemmas.List.Sums.{sum_by-take-drop, count_by-le-length}
use Rattle.std.specs.List.{count_by}
use Rattle.ps_text.specs.Lines.{is_line_end}

-- the ends of a piece are added, and its bytes left behind
pub next_piece : (lines ends count n m : ℕ) (rest : List ℕ) → m ≡ length rest → ends
    ≡ count_by is_line_end (take n rest) → lines + count_by is_line_end rest ≡ count
    → lines + ends + count_by is_line_end (take (m - n) (drop n rest)) ≡ count
next_piece lines ends count n m rest whole piece h =
    let both = sum_by-take-drop (λ x. cond (is_line_end x) 1 0) rest n in
    let left : length (drop n rest) ≤ m - n = omega (arith, length-drop n rest, whole) in
    let behind = ap (λ (xs : List ℕ). count_by is_line_end xs) (take_all (m - n) (drop n rest) left) in
    omega (arith, both, behind, piece, h)

-- no more are counted than there are bytes
pub few_lines : (lines n : ℕ) (rest bytes : List ℕ) → lines + count_by is_line_end rest ≡ 1 + count_by is_line_end bytes
    → lines + count_by is_line_end (take n rest) ≤ 1 + length bytes
few_lines lines n rest bytes h =
    let both = sum_by-take-drop (λ x. cond (is_line_end x) 1 0) rest n in
    omega (arith, both, h, count_by-le-length is_line_end bytes)

pub no_more : (lines count : ℕ) (rest : List ℕ) → rest ≡ [] → lines + count_by is_line_end rest ≡ count → lines ≡ count
no_more lines count rest none h =
    let left : count_by is_line_end rest ≡ 0 = ap (λ (xs : List ℕ). count_by is_line_end xs) none in
    omega (arith, left, h)
