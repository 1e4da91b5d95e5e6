-- Bytes of words that hold numbers.
use Rattle.std.proofs.Common.{◌≡◌, ℕ, zero, suc, ◌+◌, ◌-◌, ◌*◌, ◌/◌, ◌%◌, ◌^◌, ◌<◌, pos, negsuc, Bool, true, false}
use Rattle.std.proofs.Common.{nat_lt, if◌then◌else◌, List, [], ◌∷◌, slice_get, Option, Some, refl, ap, ◌∙◌, arith}
use Rattle.std.proofs.Common.{ltb-false}
use Rattle.std.specs.List.{All}
use Rattle.tac_code.specs.declared.code.Value.{Value as Word}
use Rattle.tac_code.specs.declared.code.Value.TheVariants.{Number}
use Rattle.tac_code.specs.declared.code.Block.TheVariants.{Constant}
use Rattle.tac_code.specs.Numbers.{word_of, number_of}
use Rattle.tac_code.specs.declared.code.Instruction.TheVariants.{Text}
use Rattle.tac_code.specs.Memory.{Words, Memory, known, byte_in, byte_at, byte_value_in, constant_at, constant_words}
use Rattle.tac_code.specs.Meaning.{fetch, text_of}
use Rattle.tac_code.specs.declared.code.TheConstants.{NUMBER_LIMIT}
use Rattle.ps_lower_layout.specs.Words.{filled}
use Rattle.ps_lower_relation.specs.Here.{Setting, code_in}
use Rattle.ps_lower_relation.specs.RunTime.{BytesAt}
use Rattle.tac_code_steps.proofs.Pieces.{some_none}

abbrev pub AreBytes : List ℕ → Type 0
AreBytes bytes = All (λ b. b < 256) bytes

pub first_byte : (b : ℕ) (rest : List ℕ) → AreBytes (b ∷ rest) → b < 256
first_byte b rest h = h 0 0 (omega arith)

pub other_bytes : (b : ℕ) (rest : List ℕ) → AreBytes (b ∷ rest) → AreBytes rest
other_bytes b rest h = λ k d l. h (suc k) d (omega (arith, l))

-- a word and its number
pub word_back : (n : ℕ) → n < 2 ^ 32 → word_of (number_of n) ≡ n
word_back n l = go (nat_lt n NUMBER_LIMIT) refl
  where
    go : (b : Bool) → nat_lt n NUMBER_LIMIT ≡ b → word_of (number_of n) ≡ n
    go true e = ap (λ b. word_of (if b then pos n else negsuc (2 ^ 32 - suc n))) e
    go false e =
        let g = ltb-false n NUMBER_LIMIT e in
        let q : 2 ^ 32 - suc (2 ^ 32 - suc n) ≡ n = omega (arith, l, g) in
        ap (λ b. word_of (if b then pos n else negsuc (2 ^ 32 - suc n))) e ∙ q

-- the word of four bytes, lowest first
abbrev pub four : (a b c d : ℕ) → ℕ
four a b c d = a + 256 * b + 65536 * c + 16777216 * d

module _ (a b c d : ℕ) (ha : a < 256) (hb : b < 256) (hc : c < 256) (hd : d < 256) (ws : Words) where
  whole : four a b c d < 2 ^ 32
  whole = omega (arith, ha, hb, hc, hd)

  abbrev pub four_word : Words
  four_word = Some (Number (number_of (four a b c d))) ∷ ws

  pub byte_0 : byte_at four_word 0 ≡ Some a
  byte_0 = let q : four a b c d / 1 % 256 ≡ a = omega (arith, ha, hb, hc, hd) in ap (λ w. Some (w / 1 % 256))
      (word_back (four a b c d) whole) ∙ ap Some q

  pub byte_1 : byte_at four_word 1 ≡ Some b
  byte_1 = let q : four a b c d / 256 % 256 ≡ b = omega (arith, ha, hb, hc, hd) in ap (λ w. Some (w / 256 % 256))
      (word_back (four a b c d) whole) ∙ ap Some q

  pub byte_2 : byte_at four_word 2 ≡ Some c
  byte_2 = let q : four a b c d / 65536 % 256 ≡ c = omega (arith, ha, hb, hc, hd) in ap (λ w. Some (w / 65536 % 256))
      (word_back (four a b c d) whole) ∙ ap Some q

  pub byte_3 : byte_at four_word 3 ≡ Some d
  byte_3 = let q : four a b c d / 16777216 % 256 ≡ d = omega (arith, ha, hb, hc, hd)
      in ap (λ w. Some (w / 16777216 % 256)) (word_back (four a b c d) whole) ∙ ap Some q

pub byte_behind : (w : Option Word) (ws : Words) (i j : ℕ) → j ≡ 4 + i → byte_at (w ∷ ws) j ≡ byte_at ws i
byte_behind w ws i j e =
    let q : j / 4 ≡ suc (i / 4) = omega (arith, e) in
    let r : j % 4 ≡ i % 4 = omega (arith, e) in
    ap (λ k. byte_in (known (slice_get (w ∷ ws) k)) (j % 4)) q ∙ ap (λ k. byte_in (known (slice_get ws (i / 4))) k) r

-- a byte of a constant
pub bytes_read : (bs : List ℕ) (i byte : ℕ) → AreBytes bs → slice_get bs i ≡ Some byte → byte_at
    (constant_words (filled bs)) i ≡ Some byte
bytes_read [] i byte h e = some_none e
bytes_read (a ∷ []) zero byte h e = byte_0 a 0 0 0 (first_byte a [] h) (omega arith) (omega arith) (omega arith) [] ∙ e
bytes_read (a ∷ []) (suc i) byte h e = some_none e
bytes_read (a ∷ b ∷ []) zero byte h e = byte_0 a b 0 0 (first_byte a (b ∷ []) h)
    (first_byte b [] (other_bytes a (b ∷ []) h)) (omega arith) (omega arith) [] ∙ e
bytes_read (a ∷ b ∷ []) (suc zero) byte h e = byte_1 a b 0 0 (first_byte a (b ∷ []) h)
    (first_byte b [] (other_bytes a (b ∷ []) h)) (omega arith) (omega arith) [] ∙ e
bytes_read (a ∷ b ∷ []) (suc (suc i)) byte h e = some_none e
bytes_read (a ∷ b ∷ c ∷ []) i byte h e = three i e
  where
    h1 : AreBytes (b ∷ c ∷ [])
    h1 = other_bytes a (b ∷ c ∷ []) h

    h2 : AreBytes (c ∷ [])
    h2 = other_bytes b (c ∷ []) h1

    three : (i : ℕ) → slice_get (a ∷ b ∷ c ∷ []) i ≡ Some byte → byte_at (constant_words (filled (a ∷ b ∷ c ∷ []))) i
        ≡ Some byte
    three zero e = byte_0 a b c 0 (first_byte a (b ∷ c ∷ []) h) (first_byte b (c ∷ []) h1) (first_byte c [] h2)
        (omega arith) [] ∙ e
    three (suc zero) e = byte_1 a b c 0 (first_byte a (b ∷ c ∷ []) h) (first_byte b (c ∷ []) h1) (first_byte c [] h2)
        (omega arith) [] ∙ e
    three (suc (suc zero)) e = byte_2 a b c 0 (first_byte a (b ∷ c ∷ []) h) (first_byte b (c ∷ []) h1)
        (first_byte c [] h2) (omega arith) [] ∙ e
    three (suc (suc (suc i))) e = some_none e
bytes_read (a ∷ b ∷ c ∷ d ∷ rest) i byte h e = all i e (λ j q. bytes_read rest j byte (other_bytes d rest h3) q)
  where
    h1 : AreBytes (b ∷ c ∷ d ∷ rest)
    h1 = other_bytes a (b ∷ c ∷ d ∷ rest) h

    h2 : AreBytes (c ∷ d ∷ rest)
    h2 = other_bytes b (c ∷ d ∷ rest) h1

    h3 : AreBytes (d ∷ rest)
    h3 = other_bytes c (d ∷ rest) h2

    ws : Words
    ws = constant_words (filled rest)

    all : (i : ℕ) → slice_get (a ∷ b ∷ c ∷ d ∷ rest) i ≡ Some byte
        → ((j : ℕ) → slice_get rest j ≡ Some byte → byte_at ws j ≡ Some byte) → byte_at
        (constant_words (filled (a ∷ b ∷ c ∷ d ∷ rest))) i ≡ Some byte
    all zero e r = byte_0 a b c d (first_byte a (b ∷ c ∷ d ∷ rest) h) (first_byte b (c ∷ d ∷ rest) h1)
        (first_byte c (d ∷ rest) h2) (first_byte d rest h3) ws ∙ e
    all (suc zero) e r = byte_1 a b c d (first_byte a (b ∷ c ∷ d ∷ rest) h) (first_byte b (c ∷ d ∷ rest) h1)
        (first_byte c (d ∷ rest) h2) (first_byte d rest h3) ws ∙ e
    all (suc (suc zero)) e r = byte_2 a b c d (first_byte a (b ∷ c ∷ d ∷ rest) h) (first_byte b (c ∷ d ∷ rest) h1)
        (first_byte c (d ∷ rest) h2) (first_byte d rest h3) ws ∙ e
    all (suc (suc (suc zero))) e r = byte_3 a b c d (first_byte a (b ∷ c ∷ d ∷ rest) h) (first_byte b (c ∷ d ∷ rest) h1)
        (first_byte c (d ∷ rest) h2) (first_byte d rest h3) ws ∙ e
    all (suc (suc (suc (suc j)))) e r = let q : suc (suc (suc (suc j))) ≡ 4 + j = omega arith in byte_behind
        (Some (Number (number_of (four a b c d)))) ws j (suc (suc (suc (suc j)))) q ∙ r j e

-- the bytes of a text are at its address
pub text_bytes : (p : Setting) (m : Memory) (r place t : ℕ) (text : List ℕ) → AreBytes text → fetch (code_in p) r place
    ≡ Some (Text t (filled text)) → BytesAt p m (Constant r place) 0 text
text_bytes p m r place t text h at =
    λ i byte e.
    let z : 0 + i ≡ i = omega arith in
    ap (λ x. byte_value_in (constant_at (text_of x)) (0 + i)) at ∙ ap (byte_at (constant_words (filled text))) z
    ∙ bytes_read text i byte h e
