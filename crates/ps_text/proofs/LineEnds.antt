-- The line ends before an offset, found in the list of all.
use Rattle.std.proofs.Common.{◌≡◌, ℕ, zero, suc, ◌+◌, ◌<◌, ◌≤◌, Bool, true, false, cond, List, [], ◌∷◌, length, take}
use Rattle.std.proofs.Common.{get_or, refl, arith, ◌∙◌, sym, ap}
use Rattle.std.proofs.lemmas.Bool.{ltb-false}
use Rattle.std.proofs.lemmas.Bool.Decides.{Decides-ltb}
use Rattle.std.proofs.lemmas.List.Sums.{sum_by-cons}
use Rattle.std.specs.List.{count_by}
use Rattle.std.specs.List.Sorted.{IsNonDecreasing, IsPartitionPoint}
use Rattle.std.specs.Prelude.{nat_lt}
use Rattle.ps_text.specs.declared.TheConstants.{MAX_LINES}
use Rattle.ps_text.specs.Lines.{is_line_end, line_ends, IsSource}

-- no line end comes before the first byte
first_or_later : (n d : ℕ) (es : List ℕ) (v : Bool) (i : ℕ) → ((j : ℕ) → j < length es → n + 1 ≤ get_or es j d)
    → i < length (cond v (n ∷ es) es) → n ≤ get_or (cond v (n ∷ es) es) i d
first_or_later n d es true zero later inside = omega arith
first_or_later n d es true (suc i) later inside = omega (arith, later i (omega arith))
first_or_later n d es false i later inside = omega (arith, later i inside)

pub ends_from_first : (n : ℕ) (bs : List ℕ) (d i : ℕ) → i < length (line_ends n bs) → n ≤ get_or (line_ends n bs) i d
ends_from_first n [] d i inside = absurd (omega arith)
ends_from_first n (b ∷ bs) d i inside = first_or_later n d (line_ends (n + 1) bs) (is_line_end b) i
    (ends_from_first (n + 1) bs d) inside

rise_on : (n d : ℕ) (es : List ℕ) (v : Bool) (i j : ℕ) → ((k : ℕ) → k < length es → n + 1 ≤ get_or es k d)
    → ((i j : ℕ) → i ≤ j → j < length es → get_or es i d ≤ get_or es j d)
    → i ≤ j → j < length (cond v (n ∷ es) es) → get_or (cond v (n ∷ es) es) i d ≤ get_or (cond v (n ∷ es) es) j d
rise_on n d es true zero zero later rises le inside = omega arith
rise_on n d es true zero (suc j) later rises le inside = omega (arith, later j (omega arith))
rise_on n d es true (suc i) zero later rises le inside = absurd (omega arith)
rise_on n d es true (suc i) (suc j) later rises le inside = rises i j (omega arith) (omega arith)
rise_on n d es false i j later rises le inside = rises i j le inside

ends_rise_at : (n : ℕ) (bs : List ℕ) (d i j : ℕ) → i ≤ j → j < length (line_ends n bs) → get_or
    (line_ends n bs) i d ≤ get_or (line_ends n bs) j d
ends_rise_at n [] d i j le inside = absurd (omega arith)
ends_rise_at n (b ∷ bs) d i j le inside =
    rise_on n d (line_ends (n + 1) bs) (is_line_end b) i j (ends_from_first (n + 1) bs d)
    (ends_rise_at (n + 1) bs d) le inside

pub ends_rise : (n : ℕ) (bs : List ℕ) → IsNonDecreasing (line_ends n bs)
ends_rise n bs i j d le inside = ends_rise_at n bs d i j le inside

-- r of the offsets come before m, and the others don't
pub record Parts (m r : ℕ) (es : List ℕ) : Type 0 where
  pub within : r ≤ length es
  pub before : (i : ℕ) → i < r → get_or es i 0 < m
  pub after : (i : ℕ) → r ≤ i → i < length es → m ≤ get_or es i 0

none_before : (n r : ℕ) (bs : List ℕ) → Parts (n + 0) r (line_ends n bs) → r ≡ 0
none_before n zero bs parts = refl
none_before n (suc r) bs parts =
    absurd (omega (
      arith,
      parts.within,
      parts.before 0 (omega arith),
      ends_from_first n bs 0 0
          (omega (arith, parts.within)),
    ))

count_on : (n k r count : ℕ) (es : List ℕ) (v : Bool) → ((q : ℕ) → Parts (n + 1 + k) q es → count ≡ q) → Parts
    (n + suc k) r (cond v (n ∷ es) es) → cond v 1 0 + count ≡ r
count_on n k zero count es true counted parts = absurd (omega (arith, parts.after 0 (omega arith) (omega arith)))
count_on n k (suc r) count es true counted parts =
    let one : 1 + r ≡ suc r = omega arith in
    ap (λ z. 1 + z) (counted r (record {
      within = omega (arith, parts.within);
      before = λ i inside. omega (arith, parts.before (suc i) (omega arith));
      after = λ i past inside. omega (arith, parts.after (suc i) (omega arith) (omega arith));
    })) ∙ one
count_on n k r count es false counted parts =
    let same : 0 + count ≡ count = omega arith in
    same ∙ counted r (record {
      within = parts.within;
      before = λ i inside. omega (arith, parts.before i inside);
      after = λ i past inside. omega (arith, parts.after i past inside);
    })

pub count_is : (n k r : ℕ) (bs : List ℕ) → Parts (n + k) r (line_ends n bs) → count_by is_line_end (take k bs) ≡ r
count_is n zero r bs parts = let none = none_before n r bs parts in omega arith
count_is n (suc k) r [] parts = omega (arith, parts.within)
count_is n (suc k) r (b ∷ bs) parts =
    sum_by-cons (λ x. cond (is_line_end x) 1 0) b (take k bs)
    ∙ count_on n k r (count_by is_line_end (take k bs)) (line_ends (n + 1) bs) (is_line_end b)
    (λ q. count_is (n + 1) k q bs) parts

-- a binary search finds how many line ends come before an offset
pub count_from_point : (bs : List ℕ) (k r : ℕ) → r ≤ length (line_ends 0 bs) → IsPartitionPoint (λ y. nat_lt y k ≡ true)
    (λ y. nat_lt y k ≡ false) (line_ends 0 bs) r
    → count_by is_line_end (take k bs) ≡ r
count_from_point bs k r within point = count_is 0 k r bs (record {
  within = within;
  before = λ i inside. let below = (Decides-ltb _ _).0 (point.0 i 0 (omega arith) inside) in omega arith;
  after = λ i past inside. let above = ltb-false _ _ (point.1 i 0 past inside) in omega arith;
})

length_on : (n : ℕ) (es : List ℕ) (v : Bool) → length (cond v (n ∷ es) es) ≡ cond v 1 0 + length es
length_on n es true = omega arith
length_on n es false = omega arith

pub length-line_ends : (n : ℕ) (bs : List ℕ) → length (line_ends n bs) ≡ count_by is_line_end bs
length-line_ends n [] = refl
length-line_ends n (b ∷ bs) =
    length_on n (line_ends (n + 1) bs) (is_line_end b) ∙ ap (λ z. cond (is_line_end b) 1 0 + z)
    (length-line_ends (n + 1) bs)
    ∙ sym (sum_by-cons (λ x. cond (is_line_end x) 1 0) b bs)

-- a text within the limits has fewer line ends than lines
pub few_ends : (text es : List ℕ) → es ≡ line_ends 0 text → IsSource text → length es < MAX_LINES
few_ends text es e limits = omega (arith, limits.lines_fit, ap length e, length-line_ends 0 text)
