-- Numbers that go to bytes: into the bytes of a block of which the words are known, from anywhere.
use Rattle.std.proofs.Common.{◌≡◌, ℕ, zero, suc, ◌+◌, ◌*◌, ◌/◌, ◌%◌, ◌<◌, ◌≤◌, pos, List, [], ◌∷◌, ◌++◌, length}
use Rattle.std.proofs.Common.{slice_get, slice_set, Some, refl, sym, ap, ◌∙◌, arith, append_assoc, length-append}
use Rattle.std.proofs.lemmas.Option.{slice_get_within}
use Rattle.tac_code.specs.declared.code.Block.{Block}
use Rattle.tac_code.specs.declared.code.Value.TheVariants.{Number}
use Rattle.tac_code.specs.Numbers.{with_byte}
use Rattle.tac_code.specs.Memory.{Words, Memory, constant_words, words_in, load, store_byte}
use Rattle.tac_code.specs.Meaning.{text_at}
use Rattle.tac_code_steps.specs.Splices.{spliced}
use Rattle.tac_code_steps.proofs.Splices.{spliced_length, spliced_inside, spliced_within}
use Rattle.ps_lower_layout.specs.Words.{filled}
use Rattle.ps_lower_relation.specs.Here.{Setting, code_in}
use Rattle.ps_lower_relation.specs.RunTime.{PackedUp}
use Rattle.ps_lower_relation.proofs.Bytes.{AreBytes, first_byte, other_bytes}
use Rattle.ps_lower_relation.proofs.ByteWrites.{bytes_set, byte_stored}
use Rattle.ps_lower_relation.proofs.Blocks.{with_block, IsOpen, block_held}

-- ---- bytes that replace others, one after the other

abbrev pub replaced_bytes : List ℕ → ℕ → List ℕ → List ℕ
replaced_bytes bs i [] = bs
replaced_bytes bs i (x ∷ rest) = replaced_bytes (slice_set bs i x) (suc i) rest

set_at : (front back : List ℕ) (old x n : ℕ) → n ≡ length front → slice_set (front ++ old ∷ back) n x
    ≡ (front ++ x ∷ []) ++ back
set_at [] back old x n e = ap (λ k. slice_set (old ∷ back) k x) e
set_at (y ∷ front) back old x n e = ap (λ k. slice_set (y ∷ (front ++ old ∷ back)) k x) e ∙ ap (λ l. y ∷ l)
    (set_at front back old x (length front) refl)

pub all_replaced : (front old bytes : List ℕ) (n : ℕ) → n ≡ length front → length old ≡ length bytes → replaced_bytes
    (front ++ old) n bytes ≡ front ++ bytes
all_replaced front [] [] n e l = refl
all_replaced front [] (x ∷ bytes) n e l = absurd (omega (arith, l))
all_replaced front (y ∷ old) [] n e l = absurd (omega (arith, l))
all_replaced front (y ∷ old) (x ∷ bytes) n e l =
    let longer = length-append front (x ∷ []) in
    ap (λ bs. replaced_bytes bs (suc n) bytes) (set_at front old y x n e)
    ∙ all_replaced (front ++ x ∷ []) old bytes (suc n) (omega (arith, e, longer)) (omega (arith, l))
    ∙ append_assoc front (x ∷ []) bytes

set_length : (bs : List ℕ) (i x : ℕ) → length (slice_set bs i x) ≡ length bs
set_length [] i x = refl
set_length (b ∷ bs) zero x = refl
set_length (b ∷ bs) (suc i) x = ap suc (set_length bs i x)

one_more : (b : ℕ) (rest : List ℕ) → b < 256 → AreBytes rest → AreBytes (b ∷ rest)
one_more b rest l h zero d m = l
one_more b rest l h (suc k) d m = h k d (omega (arith, m))

set_small : (bs : List ℕ) (i x : ℕ) → AreBytes bs → x < 256 → AreBytes (slice_set bs i x)
set_small [] i x h l = h
set_small (b ∷ bs) zero x h l = one_more x bs l (other_bytes b bs h)
set_small (b ∷ bs) (suc i) x h l = one_more b (slice_set bs i x) (first_byte b bs h)
    (set_small bs i x (other_bytes b bs h) l)

-- ---- memory

module _ (p : Setting) (m : Memory) (b : Block) (words : Words) (can : IsOpen b)
    (there : words_in (text_at (code_in p)) m b ≡ Some words) (start : ℕ) where
  abbrev coded : List ℕ → Words
  coded bs = constant_words (filled bs)

  -- the memory with these bytes
  abbrev pub having : List ℕ → Memory
  having bs = with_block m b (spliced start (coded bs) words)

  byte_put : (bs : List ℕ) (i x o : ℕ) → AreBytes bs → i < length bs → start + length (coded bs) ≤ length words → o
      ≡ 4 * start + i → store_byte (having bs) b o x ≡ Some (having (slice_set bs i x))
  byte_put bs i x o small l within is =
      let s = bytes_set bs i x small l in
      let inside = slice_get_within (coded bs) (i / 4) (Some (Number s.z)) s.there in
      let wide = spliced_length start (coded bs) words in
      let new = Number (with_byte s.z (i % 4) x) in
      let e : o ≡ 4 * (start + i / 4) + i % 4 = omega (arith, is) in
      let holding = block_held p m b words can there in
      ap (λ k. store_byte (having bs) b k x) e
      ∙ byte_stored (text_at (code_in p)) (having bs) b (start + i / 4) (i % 4) x s.z (omega arith)
      (holding.reads (spliced start (coded bs) words) (start + i / 4) (Number s.z)
      (spliced_inside start (coded bs) words (i / 4) inside within ∙ s.there))
      ∙ holding.writes (spliced start (coded bs) words) (start + i / 4) new (omega (arith, inside, within, wide))
      ∙ ap (λ ws. Some (with_block m b ws)) (spliced_within start (i / 4) (Some new ∷ []) (coded bs) words
      (omega (arith, inside)) ∙ ap (λ c. spliced start c words) (sym s.is))

  -- What each number is, wherever the bytes before it have been written.
  abbrev pub NumberSources : (size : ℕ) → List ℕ → Block → (from : ℕ) → Type 0
  NumberSources size bytes c from = (i byte : ℕ) → slice_get bytes i ≡ Some byte → (ws : Words) → length ws ≡ size
      → load (text_at (code_in p)) (with_block m b (spliced start ws words)) c (from + 4 * i) ≡ Some (Number (pos byte))

  pub packed_up : (size : ℕ) (bytes : List ℕ) (i o : ℕ) (c : Block) (from : ℕ) (bs : List ℕ) → AreBytes bs
      → AreBytes bytes → i + length bytes ≤ length bs → length (coded bs) ≡ size → start + size ≤ length words → o
      ≡ 4 * start + i → NumberSources size bytes c from
      → PackedUp p (having bs) b o c from bytes (having (replaced_bytes bs i bytes))
  packed_up size [] i o c from bs small smalls fit long within is sources = refl
  packed_up size (x ∷ bytes) i o c from bs small smalls fit long within is sources =
      let here : from ≡ from + 4 * 0 = omega arith in
      let s = bytes_set bs i x small (omega (arith, fit)) in
      let same = spliced_length (i / 4) (Some (Number (with_byte s.z (i % 4) x)) ∷ []) (coded bs) in
      let length_ = set_length bs i x in (
        having (slice_set bs i x),
        ap (load (text_at (code_in p)) (having bs) c) here ∙ sources 0 x refl (coded bs) long,
        first_byte x bytes smalls,
        byte_put bs i x o small (omega (arith, fit)) (omega (arith, long, within)) is,
        packed_up size bytes (suc i) (o + 1) c (from + 4) (slice_set bs i x)
            (set_small bs i x small (first_byte x bytes smalls)) (other_bytes x bytes smalls)
            (omega (arith, fit, length_)) (ap length s.is ∙ same ∙ long) within (omega (arith, is))
            (λ j byte e ws l. let q : from + 4 + 4 * j ≡ from + 4 * suc j = omega arith
            in ap (load (text_at (code_in p)) (with_block m b (spliced start ws words)) c) q ∙ sources
            (suc j) byte e ws l),
      )
