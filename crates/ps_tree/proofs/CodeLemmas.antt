-- The code of a list of names, as it is written, and that it tells the names.
use Rattle.std.proofs.Common.{◌≡◌, ℕ, suc, ◌+◌, ◌-◌, ◌*◌, ◌/◌, ◌%◌, ◌<◌, ◌≤◌, ◌⊎◌, inl, inr, Bool, true, false}
use Rattle.std.proofs.Common.{if◌then◌else◌, ◌&&◌, nat_le, nat_lt, List, [], ◌∷◌, ◌++◌, length, map, drop, get_or}
use Rattle.std.proofs.Common.{refl, sym, ap, subst, ◌∙◌, append_assoc, append-nil, arith, rules}
use Rattle.std.proofs.Math.Seq.{drop-cons}
use Rattle.std.proofs.lemmas.List.{drop_all}
use Rattle.std.proofs.lemmas.Bool.{cases_lt}
use Rattle.ps_tree.specs.NameCode.{symbol, name_symbols, names_symbols, fits, joined, packed, names_code}

behind : (i : ℕ) → suc i ≡ i + 1
behind i = omega arith

-- ---- the symbol of a byte

abbrev chosen : (letter digit : Bool) (b : ℕ) → ℕ
chosen letter digit b = if letter then b - 96 else if digit then b - 21 else 64000 + b

pub symbol_letter : (b : ℕ) → 97 ≤ b → b ≤ 122 → symbol b ≡ b - 96
symbol_letter b l m =
    let is : nat_le 97 b && nat_le b 122 ≡ true = grind (arith, rules) in
    ap (λ c. chosen c (nat_le 48 b && nat_le b 57) b) is

pub symbol_digit : (b : ℕ) → 48 ≤ b → b ≤ 57 → symbol b ≡ b - 21
symbol_digit b l m =
    let no : nat_le 97 b && nat_le b 122 ≡ false = grind (arith, rules) in
    let is : nat_le 48 b && nat_le b 57 ≡ true = grind (arith, rules) in
    λ i. chosen (no i) (is i) b

pub symbol_own : (b : ℕ) → (97 ≤ b → b ≤ 122 → ⊥) → (48 ≤ b → b ≤ 57 → ⊥) → symbol b ≡ 64000 + b
symbol_own b l m =
    let no : nat_le 97 b && nat_le b 122 ≡ false = grind (arith, rules) in
    let nor : nat_le 48 b && nat_le b 57 ≡ false = grind (arith, rules) in
    λ i. chosen (no i) (nor i) b

-- what a symbol can be, and the byte that has it
abbrev byte_with : ℕ → ℕ
byte_with n = if nat_lt n 27 then n + 96 else if nat_lt n 64000 then n + 21 else n - 64000

abbrev Tells : (b n : ℕ) → Type 0
Tells b n = (0 < n) × ((n < 37) ⊎ (64000 ≤ n)) × (byte_with n ≡ b)

abbrev told_by : (low middle : Bool) (n : ℕ) → ℕ
told_by low middle n = if low then n + 96 else if middle then n + 21 else n - 64000

symbol_tells : (b : ℕ) → Tells b (symbol b)
symbol_tells b = by (cases_lt b 48) (cases_lt b 58) (cases_lt b 97) (cases_lt b 123)
  where
    own : (97 ≤ b → b ≤ 122 → ⊥) → (48 ≤ b → b ≤ 57 → ⊥) → Tells b (symbol b)
    own l m =
        let low : nat_lt (64000 + b) 27 ≡ false = grind (arith, rules) in
        let middle : nat_lt (64000 + b) 64000 ≡ false = grind (arith, rules) in
        let back : (64000 + b) - 64000 ≡ b = omega arith in
        let is : Tells b (64000 + b) = (
          omega arith,
          inr (omega arith),
          (λ i. told_by (low i) (middle i) (64000 + b))
              ∙ back,
        ) in
        subst (Tells b) (sym (symbol_own b l m)) is

    digit : 48 ≤ b → b ≤ 57 → Tells b (symbol b)
    digit l m =
        let low : nat_lt (b - 21) 27 ≡ false = grind (arith, rules) in
        let middle : nat_lt (b - 21) 64000 ≡ true = grind (arith, rules) in
        let back : b - 21 + 21 ≡ b = omega arith in
        let is : Tells b (b - 21) = (omega arith, inl (omega arith), (λ i. told_by (low i) (middle i) (b - 21)) ∙ back)
        in
        subst (Tells b) (sym (symbol_digit b l m)) is

    letter : 97 ≤ b → b ≤ 122 → Tells b (symbol b)
    letter l m =
        let low : nat_lt (b - 96) 27 ≡ true = grind (arith, rules) in
        let back : b - 96 + 96 ≡ b = omega arith in
        let is : Tells b (b - 96) = (
          omega arith,
          inl (omega arith),
          (λ i. told_by (low i) (nat_lt (b - 96) 64000) (b - 96)) ∙ back,
        ) in
        subst (Tells b) (sym (symbol_letter b l m)) is

    by : (b < 48) ⊎ (48 ≤ b) → (b < 58) ⊎ (58 ≤ b) → (b < 97) ⊎ (97 ≤ b) → (b < 123) ⊎ (123 ≤ b) → Tells b (symbol b)
    by (inl p) q r s = own (λ x y. omega arith) (λ x y. omega arith)
    by (inr p) (inl q) r s = digit p (omega arith)
    by (inr p) (inr q) (inl r) s = own (λ x y. omega arith) (λ x y. omega arith)
    by (inr p) (inr q) (inr r) (inl s) = letter r (omega arith)
    by (inr p) (inr q) (inr r) (inr s) = own (λ x y. omega arith) (λ x y. omega arith)

symbol_told : (b c : ℕ) → symbol b ≡ symbol c → b ≡ c
symbol_told b c e = sym (symbol_tells b).2 ∙ ap byte_with e ∙ (symbol_tells c).2

-- the end of a name is no byte of it
symbol_no_end : (b : ℕ) → symbol b ≡ 37 → ⊥
symbol_no_end b e = by (symbol_tells b).1
  where
    by : (symbol b < 37) ⊎ (64000 ≤ symbol b) → ⊥
    by (inl p) = omega arith
    by (inr p) = omega arith

-- ---- what is packed, word by word

pub word_joined : (words new : List ℕ) (word s : ℕ) → word < 1600 → s < 40 → new ≡ words ++ (40 * word + s) ∷ []
    → new ≡ joined (words ++ word ∷ []) s
word_joined words new word s l m n = n ∙ sym (in_last words)
  where
    here : fits word s ≡ true
    here = grind (arith, rules)

    in_last : (words : List ℕ) → joined (words ++ word ∷ []) s ≡ words ++ (40 * word + s) ∷ []
    in_last [] = ap (λ c. if c then (40 * word + s) ∷ [] else word ∷ s ∷ []) here
    in_last (w ∷ []) = ap (λ l. w ∷ l) (in_last [])
    in_last (w ∷ v ∷ words) = ap (λ l. w ∷ l) (in_last (v ∷ words))

pub word_behind : (words middle new : List ℕ) (word s : ℕ) → (1600 ≤ word) ⊎ (40 ≤ s) → middle ≡ words ++ word ∷ []
    → new ≡ middle ++ s ∷ [] → new ≡ joined (words ++ word ∷ []) s
word_behind words middle new word s l m n =
    n ∙ ap (λ l. l ++ s ∷ []) m ∙ append_assoc words (word ∷ []) (s ∷ []) ∙ sym (past_last words)
  where
    unfit : (1600 ≤ word) ⊎ (40 ≤ s) → fits word s ≡ false
    unfit (inl w) = grind (arith, rules)
    unfit (inr w) = grind (arith, rules)

    here : fits word s ≡ false
    here = unfit l

    past_last : (words : List ℕ) → joined (words ++ word ∷ []) s ≡ words ++ word ∷ s ∷ []
    past_last [] = ap (λ c. if c then (40 * word + s) ∷ [] else word ∷ s ∷ []) here
    past_last (w ∷ []) = ap (λ l. w ∷ l) (past_last [])
    past_last (w ∷ v ∷ words) = ap (λ l. w ∷ l) (past_last (v ∷ words))

pub first_word : (old popped new : List ℕ) (s : ℕ) → old ≡ popped ++ [] → length old ≡ 0 → new ≡ popped ++ s ∷ [] → new
    ≡ joined old s
first_word [] [] new s o l n = n
first_word [] (w ∷ popped) new s o l n = absurd (let z = ap length o in omega (arith, z))
first_word (w ∷ old) popped new s o l n = absurd (omega (arith, l))

packed_append : (words a b : List ℕ) → packed words (a ++ b) ≡ packed (packed words a) b
packed_append words [] b = refl
packed_append words (s ∷ a) b = packed_append (joined words s) a b

-- the first i bytes are packed behind what was there
abbrev pub NameWritten : (old name : List ℕ) (i : ℕ) (done : List ℕ) → Type 0
NameWritten old name i done = packed old (name_symbols name) ≡ packed done (name_symbols (drop i name))

pub name_start : (old name : List ℕ) → NameWritten old name 0 old
name_start old name = refl

pub name_next : (old name : List ℕ) (i : ℕ) (done new : List ℕ) (b : ℕ) → i < length name → b ≡ get_or name i b → new
    ≡ joined done (symbol b) → NameWritten old name i done → NameWritten old name (i + 1) new
name_next old name i done new b lt at n so_far =
    so_far ∙ ap (λ l. packed done (name_symbols l)) (drop-cons name i b lt ∙ ap (λ a. a ∷ drop (suc i) name) (sym at))
    ∙ ap (λ l. packed l (name_symbols (drop (suc i) name))) (sym n)
    ∙ ap (λ k. packed new (name_symbols (drop k name))) (behind i)

pub name_end : (old name : List ℕ) (i : ℕ) (done new : List ℕ) → length name ≤ i → new ≡ joined done 37
    → NameWritten old name i done → new ≡ packed old (name_symbols name)
name_end old name i done new le n so_far =
    n ∙ ap (λ l. packed done (name_symbols l)) (sym (drop_all i name le)) ∙ sym so_far

-- ---- the names, each given by a value that holds it

module _ {X : Type 0} (f : X → List ℕ) where
  -- the first i names are packed
  abbrev pub NamesWritten : (names : List X) (i : ℕ) (done : List ℕ) → Type 0
  NamesWritten names i done = names_code (map f names) ≡ packed done (names_symbols (map f (drop i names)))

  pub names_next : (names : List X) (i : ℕ) (done new : List ℕ) (x : X) → i < length names → x ≡ get_or names i x → new
      ≡ packed done (name_symbols (f x)) → NamesWritten names i done → NamesWritten names (i + 1) new
  names_next names i done new x lt at n so_far =
      so_far
      ∙ ap (λ l. packed done (names_symbols (map f l)))
      (drop-cons names i x lt ∙ ap (λ a. a ∷ drop (suc i) names) (sym at))
      ∙ packed_append done (name_symbols (f x)) (names_symbols (map f (drop (suc i) names)))
      ∙ ap (λ l. packed l (names_symbols (map f (drop (suc i) names)))) (sym n)
      ∙ ap (λ k. packed new (names_symbols (map f (drop k names)))) (behind i)

  pub names_end : (names : List X) (i : ℕ) (done : List ℕ) → length names ≤ i → NamesWritten names i done → done
      ≡ names_code (map f names)
  names_end names i done le so_far =
      ap (λ l. packed done (names_symbols (map f l))) (sym (drop_all i names le)) ∙ sym so_far

-- ---- back from the words to the symbols

abbrev opened : (none one two three : Bool) (word : ℕ) → List ℕ
opened none one two three word =
    if none then []
    else if one then word ∷ []
    else if two then word / 40 ∷ word % 40 ∷ []
    else if three then word / 1600 ∷ word / 40 % 40 ∷ word % 40 ∷ []
    else word ∷ []

abbrev symbols_in : ℕ → List ℕ
symbols_in word = opened (nat_lt word 1) (nat_lt word 40) (nat_lt word 1600) (nat_lt word 64000) word

in_none : (word : ℕ) → word < 1 → symbols_in word ≡ []
in_none word l =
    let a : nat_lt word 1 ≡ true = grind (arith, rules) in
    ap (λ c. opened c (nat_lt word 40) (nat_lt word 1600) (nat_lt word 64000) word) a

in_one : (word : ℕ) → 0 < word → word < 40 → symbols_in word ≡ word ∷ []
in_one word l m =
    let a : nat_lt word 1 ≡ false = grind (arith, rules) in
    let b : nat_lt word 40 ≡ true = grind (arith, rules) in
    λ i. opened (a i) (b i) (nat_lt word 1600) (nat_lt word 64000) word

in_two : (word : ℕ) → 40 ≤ word → word < 1600 → symbols_in word ≡ word / 40 ∷ word % 40 ∷ []
in_two word l m =
    let a : nat_lt word 1 ≡ false = grind (arith, rules) in
    let b : nat_lt word 40 ≡ false = grind (arith, rules) in
    let c : nat_lt word 1600 ≡ true = grind (arith, rules) in
    λ i. opened (a i) (b i) (c i) (nat_lt word 64000) word

in_three : (word : ℕ) → 1600 ≤ word → word < 64000 → symbols_in word ≡ word / 1600 ∷ word / 40 % 40 ∷ word % 40 ∷ []
in_three word l m =
    let a : nat_lt word 1 ≡ false = grind (arith, rules) in
    let b : nat_lt word 40 ≡ false = grind (arith, rules) in
    let c : nat_lt word 1600 ≡ false = grind (arith, rules) in
    let d : nat_lt word 64000 ≡ true = grind (arith, rules) in
    λ i. opened (a i) (b i) (c i) (d i) word

in_own : (word : ℕ) → 64000 ≤ word → symbols_in word ≡ word ∷ []
in_own word l =
    let a : nat_lt word 1 ≡ false = grind (arith, rules) in
    let b : nat_lt word 40 ≡ false = grind (arith, rules) in
    let c : nat_lt word 1600 ≡ false = grind (arith, rules) in
    let d : nat_lt word 64000 ≡ false = grind (arith, rules) in
    λ i. opened (a i) (b i) (c i) (d i) word

abbrev unpacked : List ℕ → List ℕ
unpacked [] = []
unpacked (word ∷ words) = symbols_in word ++ unpacked words

module _ (s : ℕ) (some : 0 < s) (whole : (s < 40) ⊎ (64000 ≤ s)) where
  in_alone : symbols_in s ≡ s ∷ []
  in_alone = by whole
    where
      by : (s < 40) ⊎ (64000 ≤ s) → symbols_in s ≡ s ∷ []
      by (inl l) = in_one s some l
      by (inr l) = in_own s l

  in_joined : (word : ℕ) → word < 1600 → s < 40 → symbols_in (40 * word + s) ≡ symbols_in word ++ s ∷ []
  in_joined word l m = by (cases_lt word 1) (cases_lt word 40)
    where
      by : (word < 1) ⊎ (1 ≤ word) → (word < 40) ⊎ (40 ≤ word) → symbols_in (40 * word + s) ≡ symbols_in word ++ s ∷ []
      by (inl p) q =
          let same : 40 * word + s ≡ s = omega arith in
          ap symbols_in same ∙ in_one s some m ∙ ap (λ l. l ++ s ∷ []) (sym (in_none word p))
      by (inr p) (inl q) =
          let first : (40 * word + s) / 40 ≡ word = omega arith in
          let second : (40 * word + s) % 40 ≡ s = omega arith in
          in_two (40 * word + s) (omega arith) (omega arith) ∙ (λ i. first i ∷ second i ∷ [])
          ∙ ap (λ l. l ++ s ∷ []) (sym (in_one word p q))
      by (inr p) (inr q) =
          let first : (40 * word + s) / 1600 ≡ word / 40 = omega arith in
          let second : (40 * word + s) / 40 % 40 ≡ word % 40 = omega arith in
          let third : (40 * word + s) % 40 ≡ s = omega arith in
          in_three (40 * word + s) (omega arith) (omega arith) ∙ (λ i. first i ∷ second i ∷ third i ∷ [])
          ∙ ap (λ l. l ++ s ∷ []) (sym (in_two word q l))

  joined_back : (words : List ℕ) → unpacked (joined words s) ≡ unpacked words ++ s ∷ []
  joined_back [] = ap (λ l. l ++ []) in_alone
  joined_back (w ∷ []) = by (fits w s) refl
    where
      by : (c : Bool) → fits w s ≡ c → unpacked (if c then (40 * w + s) ∷ [] else w ∷ s ∷ [])
          ≡ (symbols_in w ++ []) ++ s ∷ []
      by true e =
          let l : w < 1600 = grind (arith, rules, e) in
          let m : s < 40 = grind (arith, rules, e) in
          append-nil (symbols_in (40 * w + s)) ∙ in_joined w l m
          ∙ ap (λ l. l ++ s ∷ []) (sym (append-nil (symbols_in w)))
      by false e = ap (λ l. symbols_in w ++ (l ++ [])) in_alone
          ∙ ap (λ l. l ++ s ∷ []) (sym (append-nil (symbols_in w)))
  joined_back (w ∷ v ∷ words) =
      ap (λ l. symbols_in w ++ l) (joined_back (v ∷ words))
      ∙ sym (append_assoc (symbols_in w) (unpacked (v ∷ words)) (s ∷ []))

name_back : (words s : List ℕ) → unpacked (packed words (name_symbols s)) ≡ unpacked words ++ name_symbols s
name_back words [] = joined_back 37 (omega arith) (inl (omega arith)) words
name_back words (b ∷ s) =
    name_back (joined words (symbol b)) s
    ∙ ap (λ l. l ++ name_symbols s) (joined_back (symbol b) (symbol_tells b).0 (wide (symbol_tells b).1) words)
    ∙ append_assoc (unpacked words) (symbol b ∷ []) (name_symbols s)
  where
    wide : (symbol b < 37) ⊎ (64000 ≤ symbol b) → (symbol b < 40) ⊎ (64000 ≤ symbol b)
    wide (inl l) = inl (omega arith)
    wide (inr l) = inr l

names_back : (words : List ℕ) (names : List (List ℕ)) → unpacked (packed words (names_symbols names))
    ≡ unpacked words ++ names_symbols names
names_back words [] = sym (append-nil (unpacked words))
names_back words (s ∷ names) =
    ap unpacked (packed_append words (name_symbols s) (names_symbols names))
    ∙ names_back (packed words (name_symbols s)) names
    ∙ ap (λ l. l ++ names_symbols names) (name_back words s)
    ∙ append_assoc (unpacked words) (name_symbols s) (names_symbols names)

-- ---- equal codes, equal names

abbrev first_of : List ℕ → ℕ
first_of [] = 0
first_of (x ∷ xs) = x

abbrev rest_of : List ℕ → List ℕ
rest_of [] = []
rest_of (x ∷ xs) = xs

name_told : (s t x y : List ℕ) → name_symbols s ++ x ≡ name_symbols t ++ y → (s ≡ t) × (x ≡ y)
name_told [] [] x y e = (refl, ap rest_of e)
name_told [] (c ∷ t) x y e = absurd (symbol_no_end c (sym (ap first_of e)))
name_told (b ∷ s) [] x y e = absurd (symbol_no_end b (ap first_of e))
name_told (b ∷ s) (c ∷ t) x y e =
    let rest = name_told s t x y (ap rest_of e) in
    let here = symbol_told b c (ap first_of e) in
    (λ i. here i ∷ rest.0 i, rest.1)

-- a name has at least its end
some_symbol : (s x : List ℕ) → name_symbols s ++ x ≡ [] → ⊥
some_symbol [] x e = let z = ap length e in omega (arith, z)
some_symbol (b ∷ s) x e = let z = ap length e in omega (arith, z)

all_told : (a b : List (List ℕ)) → names_symbols a ≡ names_symbols b → a ≡ b
all_told [] [] e = refl
all_told [] (t ∷ b) e = absurd (some_symbol t (names_symbols b) (sym e))
all_told (s ∷ a) [] e = absurd (some_symbol s (names_symbols a) e)
all_told (s ∷ a) (t ∷ b) e =
    let here = name_told s t (names_symbols a) (names_symbols b) e in
    let rest = all_told a b here.1 in
    λ i. here.0 i ∷ rest i

pub names_told : (a b : List (List ℕ)) → names_code a ≡ names_code b → a ≡ b
names_told a b e = all_told a b (sym (names_back [] a) ∙ ap unpacked e ∙ names_back [] b)
