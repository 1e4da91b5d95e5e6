-- Copies of values of many words: from a part of a variable, or from any other block, to a stretch of a block.
use Rattle.std.proofs.Common.{◌≡◌, ◌⊎◌, inl, inr, ℕ, zero, suc, ◌+◌, ◌*◌, ◌<◌, ◌≤◌, List, [], ◌∷◌, length, slice_get}
use Rattle.std.proofs.Common.{Option, Some, None, refl, sym, ap, ◌∙◌, subst, arith}
use Rattle.tac_code.specs.declared.code.Block.{Block}
use Rattle.tac_code.specs.declared.code.Block.TheVariants.{Constant as ConstantBlock}
use Rattle.tac_code.specs.declared.code.Value.{Value as Word}
use Rattle.tac_code.specs.Memory.{Words, Living, Memory, known, words_in, value_in, load, store}
use Rattle.tac_code.specs.Meaning.{text_at}
use Rattle.ps_meaning.specs.Values.{Value, Spot}
use Rattle.ps_meaning.specs.Worlds.{World, contents_in, with_contents}
use Rattle.tac_code_steps.specs.Splices.{spliced}
use Rattle.tac_code_steps.proofs.Splices.{spliced_length, spliced_inside, spliced_before, spliced_behind}
use Rattle.tac_code_steps.proofs.Pieces.{same_some, some_none}
use Rattle.ps_lower_layout.specs.Shapes.{Shape, word_count, byte_count, Whole}
use Rattle.ps_lower_layout.specs.Words.{value_words}
use Rattle.ps_lower_layout.specs.Paths.{KeepsByte, GoesTo}
use Rattle.ps_lower_layout.proofs.Counted.{counted}
use Rattle.ps_lower_relation.specs.Ghosts.{Ghost, PlaceAt, Holds}
use Rattle.ps_lower_relation.specs.Here.{Setting, code_in}
use Rattle.ps_lower_relation.specs.RunTime.{CopiedUp}
use Rattle.ps_lower_relation.proofs.Spans.{spliced_self, goes_to}
use Rattle.ps_lower_relation.proofs.Spots.{memory_of, spot_value, spot_read}
use Rattle.ps_lower_relation.proofs.Copies.{SameOutside, Sources, copied_up, AreWritten, written_word}
use Rattle.ps_lower_relation.proofs.Blocks.{with_block, IsOpen, same_or_other, block_now, block_other, block_same}
use Rattle.ps_lower_relation.proofs.Blocks.{block_held, word_there}
use Rattle.ps_lower_relation.proofs.Apart.{SameOrApart, places_apart}
use Rattle.ps_lower_relation.proofs.Stretches.{StretchAt, spot_stretch, value_written}

module _ (p : Setting) (m : Memory) (b : Block) (words : Words) (can : IsOpen b)
    (there : words_in (text_at (code_in p)) m b ≡ Some words) where
  same_outside : (news : Words) (start : ℕ) → SameOutside words (spliced start news words) start (start + length news)
  same_outside news start i (inl a) = sym (spliced_before start news words i a)
  same_outside news start i (inr a) = sym (spliced_behind start news words i a)

  stretch_copied : (c : Block) (news : Words) (start count from : ℕ) → length news ≡ count → start
      + count ≤ length words → Sources p (with_block m b) (spliced start news words) start count c from → CopiedUp p m b
      (4 * start) c from count (with_block m b (spliced start news words))
  stretch_copied c news start count from n within sources =
      subst (λ before. CopiedUp p before b (4 * start) c from count (with_block m b (spliced start news words)))
      (block_same (text_at (code_in p)) m b words can there)
      (copied_up p b (with_block m b) (block_held p m b words can there) c (spliced start news words) count start
      (4 * start) from words refl (sym (spliced_length start news words))
      (let e = spliced_length start news words in omega (arith, within, e))
      (subst (λ k. SameOutside words (spliced start news words) start (start + k)) n (same_outside news start))
      sources)

  -- from another block
  pub copied_other : (c : Block) (news : Words) (start count from : ℕ) → (c ≡ b → ⊥) → AreWritten news → length news
      ≡ count → start + count ≤ length words → ((i : ℕ) → i < count → load (text_at (code_in p)) m c (from + 4 * i)
      ≡ known (slice_get news i)) → CopiedUp p m b (4 * start) c from count (with_block m b (spliced start news words))
  copied_other c news start count from other written n within reads =
      stretch_copied c news start count from n within
      (λ i l before same.
      let v = written_word news i written (omega (arith, n, l)) in
      record {
        word = v.0;
        target = spliced_inside start news words i (omega (arith, n, l)) (omega (arith, n, within)) ∙ v.1;
        reads = ap (λ o. value_in o (from + 4 * i)) (block_other (text_at (code_in p)) m b c before other) ∙ reads i l
            ∙ ap known v.1;
      })

  -- from a stretch of the same block that lies apart
  pub copied_within : (news : Words) (start count from : ℕ) → (from + count ≤ start) ⊎ (start + count ≤ from)
      → AreWritten news → length news ≡ count → start + count ≤ length words
      → ((i : ℕ) → i < count → slice_get words (from + i) ≡ slice_get news i) → CopiedUp p m b (4 * start) b
      (4 * from) count (with_block m b (spliced start news words))
  copied_within news start count from apart written n within reads =
      stretch_copied b news start count (4 * from) n within
      (λ i l before same.
      let v = written_word news i written (omega (arith, n, l)) in
      let e : 4 * from + 4 * i ≡ 4 * (from + i) = omega arith in
      record {
        word = v.0;
        target = spliced_inside start news words i (omega (arith, n, l)) (omega (arith, n, within)) ∙ v.1;
        reads = ap (load (text_at (code_in p)) (with_block m b before) b) e
            ∙ word_there (text_at (code_in p)) (with_block m b before) b before (from + i)
            (block_now (text_at (code_in p)) m b words before can there)
            ∙ ap known (same (from + i) (outside i l apart) ∙ unchanged i l apart ∙ reads i l ∙ v.1);
      })
    where
      outside : (i : ℕ) → i < count → (from + count ≤ start) ⊎ (start + count ≤ from) → (from + i < start + i)
          ⊎ (start + count ≤ from + i)
      outside i l (inl a) = inl (omega (arith, l, a))
      outside i l (inr a) = inr (omega (arith, a))

      unchanged : (i : ℕ) → i < count → (from + count ≤ start) ⊎ (start + count ≤ from) → slice_get
          (spliced start news words) (from + i) ≡ slice_get words (from + i)
      unchanged i l (inl a) = spliced_before start news words (from + i) (omega (arith, l, a))
      unchanged i l (inr a) = spliced_behind start news words (from + i) (omega (arith, n, a))

  -- to where they already are
  pub copied_over : (n place o : ℕ) → o ≡ 4 * place
      → ((i : ℕ) → i < n → (v : Word) × (slice_get words (place + i) ≡ Some (Some v))) → place + n ≤ length words
      → CopiedUp p m b o b o n m
  copied_over zero place o e h within = refl
  copied_over (suc n) place o e h within =
      let constants = text_at (code_in p) in
      let first = h 0 (omega arith) in
      let v = first.0 in
      let z : place ≡ place + 0 = omega arith in
      let at : slice_get words place ≡ Some (Some v) = ap (slice_get words) z ∙ first.1 in
      let back = block_same constants m b words can there in
      let self : spliced place (Some v ∷ []) words ≡ words = spliced_self place (Some v ∷ []) words
      (λ i l. one place v at i l) (omega (arith, within)) in
      let stored : store m b (4 * place) v ≡ Some m =
      ap (λ memory. store memory b (4 * place) v) (sym back) ∙ (block_held p m b words can there).writes words place v
      (omega (arith, within)) ∙ ap (λ ws. Some (with_block m b ws)) self ∙ ap Some back in (
        v,
        m,
        ap (load constants m b) e ∙ word_there constants m b words place there ∙ ap known at,
        ap (λ k. store m b k v) e ∙ stored,
        copied_over n (suc place) (o + 4) (omega (arith, e))
            (λ i l. let y = h (suc i) (omega (arith, l)) in let q : suc place + i ≡ place + suc i = omega arith
            in (y.0, ap (slice_get words) q ∙ y.1)) (omega (arith, within)),
      )
    where
      one : (place : ℕ) (v : Word) → slice_get words place ≡ Some (Some v) → (i : ℕ) → i < 1 → slice_get words
          (place + i) ≡ slice_get (Some v ∷ []) i
      one place v at zero l = let e : place + 0 ≡ place = omega arith in ap (slice_get words) e ∙ at
      one place v at (suc i) l = absurd (omega (arith, l))

  known_back : (o : Option (Option Word)) (v : Word) → known o ≡ Some v → o ≡ Some (Some v)
  known_back None v e = some_none e
  known_back (Some word) v e = ap Some e

  -- from wherever the words are: already there, apart, or in another block
  pub copied_from : (c : Block) (news : Words) (start count from : ℕ)
      → (c ≡ b → (from ≡ start) ⊎ ((from + count ≤ start) ⊎ (start + count ≤ from))) → AreWritten news → length news
      ≡ count → start + count ≤ length words → ((i : ℕ) → i < count → load (text_at (code_in p)) m c (4 * (from + i))
      ≡ known (slice_get news i)) → CopiedUp p m b (4 * start) c (4 * from) count
      (with_block m b (spliced start news words))
  copied_from c news start count from side written n within reads = go (same_or_other b c can)
    where
      after : Memory
      after = with_block m b (spliced start news words)

      sides : c ≡ b → (from ≡ start) ⊎ ((from + count ≤ start) ⊎ (start + count ≤ from))
          → ((i : ℕ) → i < count → slice_get words (from + i) ≡ slice_get news i) → CopiedUp p m b (4 * start) b
          (4 * from) count after
      sides e (inr apart) stands = copied_within news start count from apart written n within stands
      sides e (inl q) stands =
          let here : (i : ℕ) → i < count → slice_get words (start + i)
          ≡ slice_get news i = λ i l. ap (λ k. slice_get words (k + i)) (sym q) ∙ stands i l in
          let self : spliced start news words ≡ words = spliced_self start news words
          (λ i l. here i (omega (arith, l, n))) (omega (arith, within, n)) in
          let back : m ≡ with_block m b (spliced start news words) = sym
          (block_same (text_at (code_in p)) m b words can there) ∙ ap (with_block m b) (sym self) in
          subst (λ k. CopiedUp p m b (4 * start) b (4 * k) count (with_block m b (spliced start news words))) (sym q)
          (subst (λ y. CopiedUp p m b (4 * start) b (4 * start) count y) back
          (copied_over count start (4 * start) refl
          (λ i l. let x = written_word news i written (omega (arith, n, l)) in (x.0, here i l ∙ x.1)) within))

      go : (c ≡ b) ⊎ (c ≡ b → ⊥) → CopiedUp p m b (4 * start) c (4 * from) count
          (with_block m b (spliced start news words))
      go (inr other) = copied_other c news start count (4 * from) other written n within
          (λ i l. let e : 4 * from + 4 * i ≡ 4 * (from + i) = omega arith in ap (load (text_at (code_in p)) m c) e
          ∙ reads i l)
      go (inl e) =
          subst (λ d. CopiedUp p m b (4 * start) d (4 * from) count (with_block m b (spliced start news words))) (sym e)
          (sides e (side e)
          (λ i l.
          let x = written_word news i written (omega (arith, n, l)) in
          known_back (slice_get words (from + i)) x.0
          (sym (word_there (text_at (code_in p)) m b words (from + i) there)
          ∙ ap (λ d. load (text_at (code_in p)) m d (4 * (from + i))) (sym e) ∙ reads i l ∙ ap known x.1)
          ∙ sym x.1))

module _ (p : Setting) (w : World) (gs : List Ghost) (count : ℕ) (holds : Holds p.program gs w count)
    (scratch : List Living) (s : Spot) (b : Block) (o : ℕ) (inner : Shape)
    (at : PlaceAt p.program gs w.made s b o (Whole inner)) where
  abbrev memory : Memory
  memory = memory_of p.program w gs scratch

  to : StretchAt p.program w gs count holds (text_at (code_in p)) scratch s b o inner
  to = spot_stretch p.program w gs count holds (text_at (code_in p)) scratch s b o inner at

  -- a variable is not a constant
  pub spot_open : (r place : ℕ) → b ≡ ConstantBlock r place → ⊥
  spot_open r place e = subst IsOpen e to.can

  -- a part of a variable gets the words of a value that are in another block
  pub copied_to : (c : Block) (from : ℕ) (v : Value) → (c ≡ b → ⊥) → GoesTo w.made s.path v inner
      → ((i : ℕ) → i < word_count inner → load (text_at (code_in p)) memory c (from + 4 * i) ≡ known
      (slice_get (value_words inner v) i)) → CopiedUp p memory b o c from (word_count inner)
      (memory_of p.program (with_contents w s v) gs scratch)
  copied_to c from v other h reads =
      subst (λ place. CopiedUp p memory b place c from (word_count inner)
      (memory_of p.program (with_contents w s v) gs scratch)) (sym to.is)
      (subst (λ after. CopiedUp p memory b (4 * to.start) c from (word_count inner) after) (to.writes v h)
      (copied_other p memory b to.words to.can to.there c (value_words inner v) to.start (word_count inner) from other
      (value_written inner v) (counted inner v) to.within reads))

  -- or those of another part
  module _ (t : Spot) (from : ℕ) (source : PlaceAt p.program gs w.made t b from (Whole inner))
      (kept : KeepsByte (contents_in w t) inner) where
    abbrev v : Value
    v = contents_in w t

    h : GoesTo w.made s.path v inner
    h = goes_to w.made s.path v inner (spot_value p.program w gs count holds t b from inner source) kept

    reads : (i : ℕ) → i < word_count inner → load (text_at (code_in p)) memory b (from + 4 * i) ≡ known
        (slice_get (value_words inner v) i)
    reads i l = spot_read p.program w gs count holds (text_at (code_in p)) scratch t b from inner i source l

    at_source : StretchAt p.program w gs count holds (text_at (code_in p)) scratch t b from inner
    at_source = spot_stretch p.program w gs count holds (text_at (code_in p)) scratch t b from inner source

    abbrev pub after : Memory
    after = memory_of p.program (with_contents w s v) gs scratch

    same_block : to.words ≡ at_source.words
    same_block = same_some (sym to.there ∙ at_source.there)

    there_too : (i : ℕ) → i < word_count inner → slice_get to.words (at_source.start + i) ≡ slice_get
        (value_words inner v) i
    there_too i l = ap (λ ws. slice_get ws (at_source.start + i)) same_block ∙ at_source.reads i l

    copied_same : o ≡ from → CopiedUp p memory b o b from (word_count inner) after
    copied_same e =
        let a = to.is in
        let f = at_source.is in
        let starts : at_source.start ≡ to.start = omega (arith, a, f, e) in
        let stands : (i : ℕ) → i < word_count inner → slice_get to.words (to.start + i) ≡ slice_get
        (value_words inner v) i = λ i l. ap (λ k. slice_get to.words (k + i)) (sym starts) ∙ there_too i l in
        let wide = counted inner v in
        let inside = to.within in
        let self : spliced to.start (value_words inner v) to.words ≡ to.words = spliced_self to.start
        (value_words inner v) to.words (λ i l. stands i (omega (arith, l, wide))) (omega (arith, inside, wide)) in
        let unchanged : memory ≡ after = sym (block_same (text_at (code_in p)) memory b to.words to.can to.there)
        ∙ ap (with_block memory b) (sym self) ∙ to.writes v h in
        subst (λ k. CopiedUp p memory b o b k (word_count inner) after) e
        (subst (λ y. CopiedUp p memory b o b o (word_count inner) y) unchanged
        (copied_over p memory b to.words to.can to.there (word_count inner) to.start o a
        (λ i l. let x = written_word (value_words inner v) i (value_written inner v) (omega (arith, l, wide))
        in (x.0, stands i l ∙ x.1)) inside))

    copied_apart : (o + byte_count inner ≤ from) ⊎ (from + byte_count inner ≤ o) → CopiedUp p memory b o b from
        (word_count inner) after
    copied_apart apart =
        subst (λ k. CopiedUp p memory b k b from (word_count inner) after) (sym to.is)
        (subst (λ k. CopiedUp p memory b (4 * to.start) b k (word_count inner) after) (sym at_source.is)
        (subst (λ y. CopiedUp p memory b (4 * to.start) b (4 * at_source.start) (word_count inner) y) (to.writes v h)
        (copied_within p memory b to.words to.can to.there (value_words inner v) to.start
        (word_count inner) at_source.start (sides apart) (value_written inner v)
        (counted inner v) to.within there_too)))
      where
        sides : (o + byte_count inner ≤ from) ⊎ (from + byte_count inner ≤ o)
            → (at_source.start + word_count inner ≤ to.start) ⊎ (to.start + word_count inner ≤ at_source.start)
        sides (inl x) = let a = to.is in let f = at_source.is in inr (omega (arith, a, f, x))
        sides (inr x) = let a = to.is in let f = at_source.is in inl (omega (arith, a, f, x))

    pub copied_beside : CopiedUp p memory b o b from (word_count inner) after
    copied_beside = go (places_apart p.program gs w count holds s t b o from inner at source)
      where
        go : SameOrApart o from (byte_count inner) → CopiedUp p memory b o b from (word_count inner) after
        go (inl e) = copied_same e
        go (inr x) = copied_apart x

  -- whichever blocks they are in
  pub copied_spot : (c : Block) (t : Spot) (from : ℕ) → PlaceAt p.program gs w.made t c from (Whole inner) → KeepsByte
      (contents_in w t) inner → CopiedUp p memory b o c from (word_count inner)
      (memory_of p.program (with_contents w s (contents_in w t)) gs scratch)
  copied_spot c t from source kept = go (same_or_other b c to.can)
    where
      go : (c ≡ b) ⊎ (c ≡ b → ⊥) → CopiedUp p memory b o c from (word_count inner)
          (memory_of p.program (with_contents w s (contents_in w t)) gs scratch)
      go (inl e) =
          subst (λ d. CopiedUp p memory b o d from (word_count inner)
          (memory_of p.program (with_contents w s (contents_in w t)) gs scratch)) (sym e)
          (copied_beside t from (subst (λ d. PlaceAt p.program gs w.made t d from (Whole inner)) e source) kept)
      go (inr other) =
          copied_to c from (contents_in w t) other
          (goes_to w.made s.path (contents_in w t) inner
          (spot_value p.program w gs count holds t c from inner source) kept)
          (λ i l. spot_read p.program w gs count holds (text_at (code_in p)) scratch t c from inner i source l)
