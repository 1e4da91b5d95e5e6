-- Bytes that go to words: into a block of which the words are known, from anywhere.
use Rattle.std.proofs.Common.{◌≡◌, ◌⊎◌, inl, inr, ℕ, zero, suc, ◌+◌, ◌*◌, ◌/◌, ◌%◌, ◌<◌, ◌≤◌, pos, List, [], ◌∷◌}
use Rattle.std.proofs.Common.{length, slice_get, Some, refl, sym, ap, ◌∙◌, subst, arith}
use Rattle.tac_code.specs.declared.code.Block.{Block}
use Rattle.tac_code.specs.declared.code.Value.TheVariants.{Number}
use Rattle.tac_code.specs.Memory.{Words, Memory, known, byte_in, byte_value_in, words_in, load_byte, store}
use Rattle.tac_code.specs.Meaning.{text_at}
use Rattle.tac_code_steps.specs.Splices.{spliced}
use Rattle.tac_code_steps.proofs.Pieces.{some_none}
use Rattle.tac_code_steps.proofs.Splices.{spliced_length, spliced_inside, spliced_before, spliced_behind}
use Rattle.ps_lower_relation.specs.Here.{Setting, code_in}
use Rattle.ps_lower_relation.specs.RunTime.{UnpackedUp}
use Rattle.ps_lower_relation.proofs.Copies.{SameOutside, Holding, copied_up, nearer}
use Rattle.ps_lower_relation.proofs.Blocks.{with_block, IsOpen, same_or_other, block_now, block_other, block_same}
use Rattle.ps_lower_relation.proofs.Blocks.{block_held}

-- What each byte is, wherever the words before it have been written.
abbrev pub ByteSources : Setting → (Words → Memory) → Words → (place : ℕ) → List ℕ → Block → (start : ℕ) → Type 0
ByteSources p memory after place bytes from start =
    (i byte : ℕ) → slice_get bytes i ≡ Some byte → (before : Words) → SameOutside before after (place + i)
    (place + length bytes) →
    (slice_get after (place + i) ≡ Some (Some (Number (pos byte))))
    × (load_byte (text_at (code_in p)) (memory before) from (start + i) ≡ Some byte)

pub byte_within : (bytes : List ℕ) (i byte : ℕ) → slice_get bytes i ≡ Some byte → i < length bytes
byte_within [] i byte e = some_none e
byte_within (b ∷ bytes) zero byte e = omega arith
byte_within (b ∷ bytes) (suc i) byte e = let r = byte_within bytes i byte e in omega (arith, r)

module _ (p : Setting) (to : Block) (memory : Words → Memory) (holding : Holding p to memory) (from : Block)
    (after : Words) where
  pub unpacked_up : (bytes : List ℕ) (place o start : ℕ) (before : Words) → o ≡ 4 * place → length before ≡ length after
      → place + length bytes ≤ length after → SameOutside before after place (place + length bytes)
      → ByteSources p memory after place bytes from start → UnpackedUp p (memory before) to o from start bytes
      (memory after)
  unpacked_up [] place o start before e l within same sources = copied_up p to memory holding from after 0 place o start
      before e l within same (λ i low. absurd (omega (arith, low)))
  unpacked_up (b ∷ bytes) place o start before e l within same sources =
      let here : place + 0 ≡ place = omega arith in
      let there : start + 0 ≡ start = omega arith in
      let x = sources 0 b refl before (λ i side. same i (left side)) in
      let v = Number (pos b) in
      let at : slice_get after place ≡ Some (Some v) = ap (slice_get after) (sym here) ∙ x.0 in
      let next = spliced place (Some v ∷ []) before in (
        memory next,
        ap (load_byte (text_at (code_in p)) (memory before) from) (sym there) ∙ x.1,
        ap (λ k. store (memory before) to k v) e ∙ holding.writes before place v (omega (arith, l, within)),
        unpacked_up bytes (suc place) (o + 4) (start + 1) next (omega (arith, e))
            (spliced_length place (Some v ∷ []) before ∙ l) (omega (arith, within))
            (nearer p to memory holding from after before place (length bytes) v l (omega (arith, within)) at same)
            further,
      )
    where
      left : {i : ℕ} → (i < place + 0) ⊎ (place + suc (length bytes) ≤ i) → (i < place)
          ⊎ (place + suc (length bytes) ≤ i)
      left (inl a) = inl (omega arith)
      left (inr a) = inr a

      further : ByteSources p memory after (suc place) bytes from (start + 1)
      further i byte q before' same' =
          let one : suc place + i ≡ place + suc i = omega arith in
          let two : start + 1 + i ≡ start + suc i = omega arith in
          let y = sources (suc i) byte q before' (λ j side. same' j (moved side)) in
          (ap (slice_get after) one ∙ y.0, ap (load_byte (text_at (code_in p)) (memory before') from) two ∙ y.1)
        where
          moved : {j : ℕ} → (j < place + suc i) ⊎ (place + suc (length bytes) ≤ j) → (j < suc place + i)
              ⊎ (suc place + length bytes ≤ j)
          moved (inl a) = inl (omega arith)
          moved (inr a) = inr (omega arith)

module _ (p : Setting) (m : Memory) (b : Block) (words : Words) (can : IsOpen b)
    (there : words_in (text_at (code_in p)) m b ≡ Some words) where
  -- from wherever the bytes are: apart, or in another block
  pub unpacked_from : (c : Block) (bytes : List ℕ) (news : Words) (start from : ℕ)
      → (c ≡ b → (i : ℕ) → i < length bytes → ((from + i) / 4 < start) ⊎ (start + length bytes ≤ (from + i) / 4))
      → length news ≡ length bytes → start + length bytes ≤ length words
      → ((i byte : ℕ) → slice_get bytes i ≡ Some byte → slice_get news i ≡ Some (Some (Number (pos byte))))
      → ((i byte : ℕ) → slice_get bytes i ≡ Some byte → load_byte (text_at (code_in p)) m c (from + i) ≡ Some byte)
      → UnpackedUp p m b (4 * start) c from bytes (with_block m b (spliced start news words))
  unpacked_from c bytes news start from side n within numbers reads =
      subst (λ before. UnpackedUp p before b (4 * start) c from bytes (with_block m b (spliced start news words)))
      (block_same (text_at (code_in p)) m b words can there)
      (unpacked_up p b (with_block m b) (block_held p m b words can there) c (spliced start news words) bytes start
      (4 * start) from words refl (sym (spliced_length start news words))
      (let e = spliced_length start news words in omega (arith, within, e)) outside
      (λ i byte e before same.
      let l = byte_within bytes i byte e in (
        spliced_inside start news words i (omega (arith, n, l)) (omega (arith, n, within))
            ∙ numbers i byte e,
        read i byte e l before same (same_or_other b c can),
      )))
    where
      outside : SameOutside words (spliced start news words) start (start + length bytes)
      outside i (inl a) = sym (spliced_before start news words i a)
      outside i (inr a) = sym (spliced_behind start news words i (omega (arith, n, a)))

      read : (i byte : ℕ) → slice_get bytes i ≡ Some byte → i < length bytes → (before : Words) → SameOutside before
          (spliced start news words) (start + i) (start + length bytes) → (c ≡ b) ⊎ (c ≡ b → ⊥) → load_byte
          (text_at (code_in p)) (with_block m b before) c (from + i) ≡ Some byte
      read i byte e l before same (inr other) = ap (λ o. byte_value_in o (from + i))
          (block_other (text_at (code_in p)) m b c before other) ∙ reads i byte e
      read i byte e l before same (inl q) =
          ap (λ d. load_byte (text_at (code_in p)) (with_block m b before) d (from + i)) q
          ∙ ap (λ o. byte_value_in o (from + i)) (block_now (text_at (code_in p)) m b words before can there)
          ∙ ap (λ y. byte_in (known y) ((from + i) % 4)) (unchanged (side q i l))
          ∙ sym (ap (λ o. byte_value_in o (from + i)) there)
          ∙ ap (λ d. load_byte (text_at (code_in p)) m d (from + i)) (sym q)
          ∙ reads i byte e
        where
          unchanged : ((from + i) / 4 < start) ⊎ (start + length bytes ≤ (from + i) / 4) → slice_get before
              ((from + i) / 4) ≡ slice_get words ((from + i) / 4)
          unchanged (inl a) = same ((from + i) / 4) (inl (omega (arith, a))) ∙ spliced_before start news words
              ((from + i) / 4) a
          unchanged (inr a) = same ((from + i) / 4) (inr a) ∙ spliced_behind start news words ((from + i) / 4)
              (omega (arith, n, a))
