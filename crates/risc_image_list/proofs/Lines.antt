-- Lines one after another.
use Rattle.std.proofs.Common.{◌≡◌, ℕ, zero, suc, ◌+◌, ◌<◌, length, None, List, [], ◌∷◌, ◌++◌, drop, slice_get, Some}
use Rattle.std.proofs.Common.{sym, ap, ◌∙◌, append_assoc, arith}
use Rattle.risc_image.specs.declared.rows.TrapRow.{TrapRow}
use Rattle.risc_image_list.specs.Listing.{listing_line, listing_from}

-- four parts, one after the other
pub four_parts : (base a b c d x1 x2 x3 x4 : List ℕ) → x1 ≡ base ++ a → x2 ≡ x1 ++ b → x3 ≡ x2 ++ c → x4 ≡ x3 ++ d → x4
    ≡ base ++ (a ++ b ++ c ++ d)
four_parts base a b c d x1 x2 x3 x4 e1 e2 e3 e4 =
    e4 ∙ (ap (λ (t : List ℕ). t ++ d) (e3 ∙ (ap (λ (t : List ℕ). t ++ c)
    (e2 ∙ (ap (λ (t : List ℕ). t ++ b) e1 ∙ append_assoc base a b)) ∙ append_assoc base (a ++ b) c))
    ∙ append_assoc base (a ++ b ++ c) d)

-- what is left from a place on begins with what is there
dropped : {X : Type 0} (xs : List X) (k : ℕ) (x : X) → slice_get xs k ≡ Some x → drop k xs ≡ x ∷ drop (suc k) xs
dropped [] k x e = absurd (cc)
dropped (y ∷ xs) zero x e = cc
dropped (y ∷ xs) (suc k) x e = dropped xs k x e

-- one more line is listed, and the rest stays
pub line_more : (traps : List TrapRow) (code : List ℕ) (k address word : ℕ) (before after whole : List ℕ)
    → slice_get code k ≡ Some word → before ++ listing_from traps address (drop k code) ≡ whole → after ≡ before
    ++ listing_line traps address word → after ++ listing_from traps (address + 4) (drop (k + 1) code) ≡ whole
line_more traps code k address word before after whole here so_far more =
    let next : suc k ≡ k + 1 = omega arith in
    ap (λ (t : List ℕ). t ++ listing_from traps (address + 4) (drop (k + 1) code)) more
    ∙ (append_assoc before (listing_line traps address word) (listing_from traps (address + 4) (drop (k + 1) code))
    ∙ (ap (λ (m : ℕ). before ++ (listing_line traps address word ++ listing_from traps (address + 4) (drop m code)))
    (sym next)
    ∙ (ap (λ (t : List ℕ). before ++ listing_from traps address t) (sym (dropped code k word here)) ∙ so_far)))

-- within a list there is an element
pub is_there : {X : Type 0} (xs : List X) (k : ℕ) → k < length xs → slice_get xs k ≡ None → ⊥
is_there [] k within none = absurd (omega (arith, within))
is_there (y ∷ xs) zero within none = absurd (cc)
is_there (y ∷ xs) (suc k) within none = is_there xs k (omega (arith, within)) none
