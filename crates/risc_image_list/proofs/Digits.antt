-- What a hole with a width and zeros before it writes, and its digits one by one.
use Rattle.std.proofs.Common.{◌≡◌, ℕ, zero, suc, ◌+◌, ◌-◌, ◌/◌, ◌%◌, ◌^◌, ◌<◌, ◌==◌, List, [], ◌∷◌, ◌++◌, length, replicate, true}
use Rattle.std.proofs.Common.{false, Bool, Option, Some, option_map, refl, ap, sym, ◌∙◌, append-nil, append_assoc, arith}
use Rattle.std.specs.Prelude.{Result, Ok, Err, OnOk, is_ok, if◌then◌else◌, nat_lt}
use Rattle.std.specs.Fmt.{digit_glyph, digits, digits_onto, digits_output, styled_digits_output, padded_integral}
use Rattle.std.specs.Fmt.{format_spec, char_count, shown_prefix, radix_prefix}
use Rattle.std.proofs.lemmas.Bool.{eqb-true, eq-eqb}
use native.Mathlib.Nat.{pow-zero, pow-suc}
use Rattle.risc_image_list.specs.Listing.{hexadecimal}

pub padded_hexadecimal : (width n : ℕ) → padded_integral (format_spec 32 0 4 width (2 ^ 64 - 1)) false []
    (digits 16 true n) ≡ hexadecimal width n
unfolding padded_integral char_count
padded_hexadecimal width n =
    let room : width - length (digits 16 true n) - 0 - 0 ≡ width - length (digits 16 true n) = omega arith in
    ap (λ (m : ℕ). replicate m 48 ++ (digits 16 true n ++ [])) room
    ∙ ap (λ (t : List ℕ). replicate (width - length (digits 16 true n)) 48 ++ t) (append-nil (digits 16 true n))

-- the same for the hole itself
pub hole_text : (d : _) (s : _) (width n : ℕ) → digits_output d ≡ Some (digits 16 true n) → s ≡ format_spec 32 0 4 width
    (2 ^ 64 - 1) → styled_digits_output d s ≡ Some (hexadecimal width n)
hole_text d s width n e f =
    ap (λ (o : Option (List ℕ)). option_map (padded_integral s false (shown_prefix s (radix_prefix d.base))) o) e
    ∙ (ap (λ (t : _). Some (padded_integral t false (shown_prefix t (radix_prefix d.base)) (digits 16 true n))) f
    ∙ ap (λ (t : List ℕ). Some t) (padded_hexadecimal width n))

-- ---- its digits one by one ----

abbrev glyph : ℕ → ℕ
glyph n = digit_glyph true n

-- the last k digits, zeros before the others, and what stands after them
abbrev onto : ℕ → ℕ → List ℕ → List ℕ
onto zero n after = after
onto (suc k) n after = onto k (n / 16) (glyph (n % 16) ∷ after)

-- how many digits there are, k at most
abbrev count : ℕ → ℕ → ℕ
count zero n = 0
count (suc k) n = if n / 16 == 0 then 1 else suc (count k (n / 16))

module _ (k n : ℕ) (after : List ℕ) where
  length_by : (b : Bool) → length (digits_onto k 16 true (n / 16) (glyph (n % 16) ∷ after)) ≡ count k (n / 16)
      + suc (length after) → length (if b then glyph (n % 16) ∷ after else digits_onto k 16 true (n / 16)
      (glyph (n % 16) ∷ after)) ≡ (if b then 1 else suc (count k (n / 16))) + length after
  length_by true rest = omega arith
  length_by false rest = omega (arith, rest)

length_is : (k n : ℕ) (after : List ℕ) → length (digits_onto k 16 true n after) ≡ count k n + length after
length_is zero n after = omega arith
length_is (suc k) n after = length_by k n after (n / 16 == 0) (length_is k (n / 16) (glyph (n % 16) ∷ after))

zeros_before : (k : ℕ) (after : List ℕ) → 48 ∷ replicate k 48 ++ after ≡ replicate k 48 ++ 48 ∷ after
zeros_before zero after = refl
zeros_before (suc k) after = ap (λ t. 48 ∷ t) (zeros_before k after)

-- all digits of 0
zeros : (k n : ℕ) (after : List ℕ) → n ≡ 0 → replicate k 48 ++ after ≡ onto k n after
zeros zero n after none = refl
zeros (suc k) n after none =
    let first : 0 ≡ n % 16 = omega (arith, none) in
    let rest : n / 16 ≡ 0 = omega (arith, none) in
    zeros_before k after ∙ zeros k (n / 16) (48 ∷ after) rest ∙ ap (λ d. onto k (n / 16) (glyph d ∷ after)) first

-- by whether the last digit is the only one
padded_by : (b : Bool) (k m : ℕ) (one more all : List ℕ) → (b ≡ true → replicate k 48 ++ one ≡ all) → (b ≡ false
    → replicate (k - m) 48 ++ more ≡ all) → replicate (suc k - (if b then 1 else suc m)) 48
    ++ (if b then one else more) ≡ all
padded_by true k m one more all first rest =
    let left : suc k - 1 ≡ k = omega arith in
    ap (λ j. replicate j 48 ++ one) left ∙ first refl
padded_by false k m one more all first rest =
    let left : suc k - suc m ≡ k - m = omega arith in
    ap (λ j. replicate j 48 ++ more) left ∙ rest refl

-- with zeros before them they are the last ones
padded_onto : (k fuel n : ℕ) (after : List ℕ) → n < 16 ^ suc k → k < fuel → replicate (suc k - count fuel n) 48
    ++ digits_onto fuel 16 true n after ≡ onto (suc k) n after
padded_onto k zero n after small room = absurd (omega (arith, room))
padded_onto zero (suc fuel) n after small room =
    let none : n / 16 ≡ 0 = omega (arith, small, pow-suc 16 0, pow-zero 16) in
    padded_by (n / 16 == 0) 0 (count fuel (n / 16)) (glyph (n % 16) ∷ after)
    (digits_onto fuel 16 true (n / 16) (glyph (n % 16) ∷ after)) (glyph (n % 16) ∷ after) (λ yes. refl)
    (λ no. let yes : (n / 16 == 0) ≡ true = eq-eqb (n / 16) 0 none in absurd (cc))
padded_onto (suc k) (suc fuel) n after small room =
    let next : n / 16 < 16 ^ suc k = omega (arith, small, pow-suc 16 (suc k)) in
    padded_by (n / 16 == 0) (suc k) (count fuel (n / 16)) (glyph (n % 16) ∷ after)
    (digits_onto fuel 16 true (n / 16) (glyph (n % 16) ∷ after)) (onto (suc k) (n / 16) (glyph (n % 16) ∷ after))
    (λ yes. zeros (suc k) (n / 16) (glyph (n % 16) ∷ after) (eqb-true (n / 16) 0 yes))
    (λ no. padded_onto k fuel (n / 16) (glyph (n % 16) ∷ after) next (omega (arith, room)))

padded_digits : (k fuel n : ℕ) → n < 16 ^ suc k → k < fuel → replicate
    (suc k - length (digits_onto fuel 16 true n [])) 48 ++ digits_onto fuel 16 true n [] ≡ onto (suc k) n []
padded_digits k fuel n small room =
    let long : length (digits_onto fuel 16 true n []) ≡ count fuel n = omega (arith, length_is fuel n []) in
    ap (λ m. replicate (suc k - m) 48 ++ digits_onto fuel 16 true n []) long ∙ padded_onto k fuel n [] small room

hexadecimal_is : (k n : ℕ) → n < 16 ^ suc k → k < 64 → hexadecimal (suc k) n ≡ onto (suc k) n []
unfolding digits
hexadecimal_is k n small room = padded_digits k 64 n small room

-- the digits of a byte
pub two_digits : (byte : ℕ) → byte < 256 → glyph (byte / 16) ∷ glyph (byte % 16) ∷ [] ≡ hexadecimal 2 byte
two_digits byte small =
    let first : byte / 16 ≡ byte / 16 % 16 = omega (arith, small) in
    ap (λ d. glyph d ∷ glyph (byte % 16) ∷ []) first ∙ sym (hexadecimal_is 1 byte small (omega arith))

-- the last two of more digits are those of a byte
last_two : (k n : ℕ) (after : List ℕ) → onto (suc (suc k)) n after ≡ onto k (n / 256) (hexadecimal 2 (n % 256) ++ after)
last_two k n after =
    let before : n / 16 / 16 ≡ n / 256 = omega arith in
    let first : n / 16 % 16 ≡ n % 256 / 16 = omega arith in
    let second : n % 16 ≡ n % 256 % 16 = omega arith in
    let within : n % 256 < 256 = omega arith in
    ap (λ m. onto k m (glyph (n / 16 % 16) ∷ glyph (n % 16) ∷ after)) before
    ∙ ap (λ d. onto k (n / 256) (glyph d ∷ glyph (n % 16) ∷ after)) first
    ∙ ap (λ d. onto k (n / 256) (glyph (n % 256 / 16) ∷ glyph d ∷ after)) second
    ∙ ap (λ two. onto k (n / 256) (two ++ after)) (two_digits (n % 256) within)

-- three bytes after a text, and four
three_added : (text a b c one two three all : List ℕ) → one ≡ text ++ a → two ≡ one ++ b → three ≡ two ++ c
    → a ++ (b ++ (c ++ [])) ≡ all → three ≡ text ++ all
three_added text a b c one two three all first second third whole =
    third ∙ ap (λ t. t ++ c) (second ∙ ap (λ t. t ++ b) first) ∙ append_assoc (text ++ a) b c
    ∙ append_assoc text a (b ++ c) ∙ ap (λ t. text ++ (a ++ (b ++ t))) (sym (append-nil c)) ∙ ap (λ t. text ++ t) whole

four_added : (text a b c d one two three four all : List ℕ) → one ≡ text ++ a → two ≡ one ++ b → three ≡ two ++ c
    → four ≡ three ++ d → a ++ (b ++ (c ++ (d ++ []))) ≡ all → four ≡ text ++ all
four_added text a b c d one two three four all first second third fourth whole =
    three_added (text ++ a) b c d two three four (b ++ (c ++ (d ++ []))) (second ∙ ap (λ t. t ++ b) first) third fourth
    refl ∙ append_assoc text a (b ++ (c ++ (d ++ []))) ∙ ap (λ t. text ++ t) whole

six : (n : ℕ) → n < 2 ^ 24 → hexadecimal 2 (n / 65536) ++ (hexadecimal 2 (n / 256 % 256) ++ (hexadecimal 2 (n % 256)
    ++ [])) ≡ hexadecimal 6 n
six n small =
    let top : n / 65536 ≡ n / 256 / 256 % 256 = omega (arith, small) in
    let last = hexadecimal 2 (n % 256) ++ [] in
    let rest = hexadecimal 2 (n / 256 % 256) ++ last in
    ap (λ m. hexadecimal 2 m ++ rest) top
    ∙ sym (hexadecimal_is 5 n small (omega arith) ∙ last_two 4 n [] ∙ last_two 2 (n / 256) last
    ∙ last_two 0 (n / 256 / 256) rest)

eight : (n : ℕ) → n < 2 ^ 32 → hexadecimal 2 (n / 16777216) ++ (hexadecimal 2 (n / 65536 % 256)
    ++ (hexadecimal 2 (n / 256 % 256) ++ (hexadecimal 2 (n % 256) ++ []))) ≡ hexadecimal 8 n
eight n small =
    let top : n / 16777216 ≡ n / 256 / 256 / 256 % 256 = omega (arith, small) in
    let next : n / 65536 % 256 ≡ n / 256 / 256 % 256 = omega arith in
    let last = hexadecimal 2 (n % 256) ++ [] in
    let rest = hexadecimal 2 (n / 256 % 256) ++ last in
    ap (λ m. hexadecimal 2 m ++ (hexadecimal 2 (n / 65536 % 256) ++ rest)) top
    ∙ ap (λ m. hexadecimal 2 (n / 256 / 256 / 256 % 256) ++ (hexadecimal 2 m ++ rest)) next
    ∙ sym (hexadecimal_is 7 n small (omega arith) ∙ last_two 6 n [] ∙ last_two 4 (n / 256) last
    ∙ last_two 2 (n / 256 / 256) rest
    ∙ last_two 0 (n / 256 / 256 / 256) (hexadecimal 2 (n / 256 / 256 % 256) ++ rest))

-- ---- what is added ----

digit_is_small : (d : ℕ) (b : Bool) → d < 16 → (if b then 48 + d else 55 + d) < 128
digit_is_small d true small = omega (arith, small)
digit_is_small d false small = omega (arith, small)

-- a byte, by its two characters
pub byte_added : {X E : Type 0} (result : Result X E) (byte first second : ℕ) (text middle new one two : List ℕ)
    → byte < 256 → first ≡ glyph (byte / 16) → second ≡ glyph (byte % 16) → (first < 128 → one ≡ first ∷ [])
    → (second < 128 → two ≡ second ∷ []) → middle ≡ text ++ one → new ≡ (if is_ok result then middle ++ two else middle)
    → OnOk result (new ≡ text ++ hexadecimal 2 byte)
byte_added (Ok x) byte first second text middle new one two small f s one_is two_is put ended =
    let high : glyph (byte / 16) < 128 = digit_is_small (byte / 16) (nat_lt (byte / 16) 10) (omega (arith, small)) in
    let low : glyph (byte % 16) < 128 = digit_is_small (byte % 16) (nat_lt (byte % 16) 10) (omega arith) in
    let is_one : one ≡ glyph (byte / 16) ∷ [] = one_is (omega (arith, f, high)) ∙ ap (λ d. d ∷ []) f in
    let is_two : two ≡ glyph (byte % 16) ∷ [] = two_is (omega (arith, s, low)) ∙ ap (λ d. d ∷ []) s in
    ended ∙ ap (λ t. t ++ two) (put ∙ ap (λ t. text ++ t) is_one) ∙ ap (λ t. text ++ (glyph (byte / 16) ∷ []) ++ t) is_two
    ∙ append_assoc text (glyph (byte / 16) ∷ []) (glyph (byte % 16) ∷ []) ∙ ap (λ t. text ++ t) (two_digits byte small)
byte_added (Err e) byte first second text middle new one two small f s one_is two_is put ended = tt

-- six digits, byte by byte
pub six_added : {X E : Type 0} (result : Result X E) (n : ℕ) (text one two three : List ℕ) → n < 2 ^ 24
    → one ≡ text ++ hexadecimal 2 (n / 65536) → two ≡ one ++ hexadecimal 2 (n / 256 % 256)
    → OnOk result (three ≡ two ++ hexadecimal 2 (n % 256)) → OnOk result (three ≡ text ++ hexadecimal 6 n)
six_added (Ok x) n text one two three small first second third = three_added text (hexadecimal 2 (n / 65536))
    (hexadecimal 2 (n / 256 % 256)) (hexadecimal 2 (n % 256)) one two three (hexadecimal 6 n) first second third
    (six n small)
six_added (Err e) n text one two three small first second third = tt

-- eight digits
pub eight_added : {X E : Type 0} (result : Result X E) (n : ℕ) (text one two three four : List ℕ) → n < 2 ^ 32
    → one ≡ text ++ hexadecimal 2 (n / 16777216) → two ≡ one ++ hexadecimal 2 (n / 65536 % 256)
    → three ≡ two ++ hexadecimal 2 (n / 256 % 256) → OnOk result (four ≡ three ++ hexadecimal 2 (n % 256))
    → OnOk result (four ≡ text ++ hexadecimal 8 n)
eight_added (Ok x) n text one two three four small first second third fourth = four_added text
    (hexadecimal 2 (n / 16777216)) (hexadecimal 2 (n / 65536 % 256)) (hexadecimal 2 (n / 256 % 256))
    (hexadecimal 2 (n % 256)) one two three four (hexadecimal 8 n) first second third fourth (eight n small)
eight_added (Err e) n text one two three four small first second third fourth = tt
