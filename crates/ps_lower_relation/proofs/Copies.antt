-- Copies of words: into a block of which the words are known, from anywhere.
use Rattle.std.proofs.Common.{◌≡◌, ◌⊎◌, inl, inr, ℕ, zero, suc, ◌+◌, ◌*◌, ◌<◌, ◌≤◌, [], ◌∷◌, ◌++◌, length, slice_get}
use Rattle.std.proofs.Common.{Some, None, refl, sym, ap, ◌∙◌, arith, length-append}
use Rattle.tac_code.specs.declared.code.Block.{Block}
use Rattle.tac_code.specs.declared.code.Value.{Value as Word}
use Rattle.tac_code.specs.Memory.{Words, Memory, load, store}
use Rattle.tac_code.specs.Meaning.{text_at}
use Rattle.tac_code_steps.specs.Splices.{spliced}
use Rattle.tac_code_steps.proofs.Pieces.{same_some}
use Rattle.tac_code_steps.proofs.Splices.{spliced_length, spliced_inside, spliced_before, spliced_behind}
use Rattle.ps_lower_relation.specs.Here.{Setting, code_in}
use Rattle.ps_lower_relation.specs.RunTime.{CopiedUp}

-- words that are the same everywhere
pub same_words : (xs ys : Words) → length xs ≡ length ys → ((i : ℕ) → slice_get xs i ≡ slice_get ys i) → xs ≡ ys
same_words [] [] l h = refl
same_words [] (y ∷ ys) l h = absurd (cc)
same_words (x ∷ xs) [] l h = absurd (cc)
same_words (x ∷ xs) (y ∷ ys) l h = ap (λ z. z ∷ xs) (same_some (h 0)) ∙ ap (λ zs. y ∷ zs)
    (same_words xs ys (omega arith) (λ i. h (suc i)))

-- two blocks of words are the same outside a stretch
abbrev pub SameOutside : Words → Words → (from to : ℕ) → Type 0
SameOutside xs ys from to = (i : ℕ) → (i < from) ⊎ (to ≤ i) → slice_get xs i ≡ slice_get ys i

-- a memory by the words of one block
pub record Holding (p : Setting) (b : Block) (memory : Words → Memory) : Type 0 where
  pub reads : (ws : Words) (i : ℕ) (v : Word) → slice_get ws i ≡ Some (Some v) → load (text_at (code_in p))
      (memory ws) b (4 * i) ≡ Some v
  pub writes : (ws : Words) (i : ℕ) (v : Word) → i < length ws → store (memory ws) b (4 * i) v ≡ Some
      (memory (spliced i (Some v ∷ []) ws))

-- What is read for word i, wherever the words before it have been written.
pub record Source (p : Setting) (memory : Words → Memory) (after : Words) (place count : ℕ) (from : Block) (start i : ℕ)
    (before : Words) : Type 0 where
  pub word : Word
  pub target : slice_get after (place + i) ≡ Some (Some word)
  pub reads : load (text_at (code_in p)) (memory before) from (start + 4 * i) ≡ Some word

abbrev pub Sources : Setting → (Words → Memory) → Words → (place count : ℕ) → Block → (start : ℕ) → Type 0
Sources p memory after place count from start = (i : ℕ) → i < count → (before : Words) → SameOutside before after
    (place + i) (place + count) → Source p memory after place count from start i before

module _ (p : Setting) (to : Block) (memory : Words → Memory) (holding : Holding p to memory) (from : Block)
    (after : Words) where
  -- one more word is the same
  pub nearer : (before : Words) (place n : ℕ) (v : Word) → length before ≡ length after → place < length after
      → slice_get after place ≡ Some (Some v) → SameOutside before after place (place + suc n) → SameOutside
      (spliced place (Some v ∷ []) before) after (suc place) (suc place + n)
  nearer before place n v l within e same i (inr far) = spliced_behind place (Some v ∷ []) before i (omega (arith, far))
      ∙ same i (inr (omega (arith, far)))
  nearer before place n v l within e same i (inl near) = go (slice_lt i place)
    where
      slice_lt : (i place : ℕ) → (i < place) ⊎ (place ≤ i)
      slice_lt i zero = inr (omega arith)
      slice_lt zero (suc place) = inl (omega arith)
      slice_lt (suc i) (suc place) = further (slice_lt i place)
        where
          further : (i < place) ⊎ (place ≤ i) → (suc i < suc place) ⊎ (suc place ≤ suc i)
          further (inl a) = inl (omega arith)
          further (inr a) = inr (omega arith)

      go : (i < place) ⊎ (place ≤ i) → slice_get (spliced place (Some v ∷ []) before) i ≡ slice_get after i
      go (inl a) = spliced_before place (Some v ∷ []) before i a ∙ same i (inl a)
      go (inr a) =
          let is : i ≡ place + 0 = omega (arith, a, near) in
          let here : i ≡ place = omega (arith, a, near) in
          ap (slice_get (spliced place (Some v ∷ []) before)) is
          ∙ spliced_inside place (Some v ∷ []) before 0 (omega arith) (omega (arith, l, within))
          ∙ sym e ∙ ap (slice_get after) (sym here)

  -- the words of the stretch, one after another
  pub copied_up : (n place o start : ℕ) (before : Words) → o ≡ 4 * place → length before ≡ length after → place
      + n ≤ length after → SameOutside before after place (place + n) → Sources p memory after place n from start
      → CopiedUp p (memory before) to o from start n (memory after)
  copied_up zero place o start before e l within same sources = ap memory
      (same_words before after l (λ i. same i (go i place)))
    where
      go : (i place : ℕ) → (i < place) ⊎ (place + 0 ≤ i)
      go i zero = inr (omega arith)
      go zero (suc place) = inl (omega arith)
      go (suc i) (suc place) = further (go i place)
        where
          further : (i < place) ⊎ (place + 0 ≤ i) → (suc i < suc place) ⊎ (suc place + 0 ≤ suc i)
          further (inl a) = inl (omega arith)
          further (inr a) = inr (omega arith)
  copied_up (suc n) place o start before e l within same sources =
      let whole : SameOutside before after (place + 0) (place + suc n) = λ i side. same i (left side) in
      let x = sources 0 (omega arith) before whole in
      let v = x.word in
      let here : place + 0 ≡ place = omega arith in
      let there : start + 4 * 0 ≡ start = omega arith in
      let next = spliced place (Some v ∷ []) before in
      let at : slice_get after place ≡ Some (Some v) = ap (slice_get after) (sym here) ∙ x.target in (
        v,
        memory next,
        ap (load (text_at (code_in p)) (memory before) from) (sym there) ∙ x.reads,
        ap (λ k. store (memory before) to k v) e ∙ holding.writes before place v (omega (arith, l, within)),
        copied_up n (suc place) (o + 4) (start + 4) next (omega (arith, e))
            (spliced_length place (Some v ∷ []) before ∙ l) (omega (arith, within))
            (nearer before place n v l (omega (arith, within)) at same) further,
      )
    where
      left : {i : ℕ} → (i < place + 0) ⊎ (place + suc n ≤ i) → (i < place) ⊎ (place + suc n ≤ i)
      left (inl a) = inl (omega arith)
      left (inr a) = inr a

      further : Sources p memory after (suc place) n from (start + 4)
      further i low before' same' =
          let one : suc place + i ≡ place + suc i = omega arith in
          let two : start + 4 + 4 * i ≡ start + 4 * suc i = omega arith in
          let y = sources (suc i) (omega (arith, low)) before' (λ j side. same' j (moved side)) in
          record {
            word = y.word;
            target = ap (slice_get after) one ∙ y.target;
            reads = ap (load (text_at (code_in p)) (memory before') from) two ∙ y.reads;
          }
        where
          moved : {j : ℕ} → (j < place + suc i) ⊎ (place + suc n ≤ j) → (j < suc place + i) ⊎ (suc place + n ≤ j)
          moved (inl a) = inl (omega arith)
          moved (inr a) = inr (omega arith)

-- ---- one stretch of words, again and again

abbrev pub repeated : ℕ → Words → Words
repeated zero xs = []
repeated (suc n) xs = xs ++ repeated n xs

pub repeated_length : (n : ℕ) (xs : Words) → length (repeated n xs) ≡ n * length xs
repeated_length zero xs = omega arith
repeated_length (suc n) xs =
    let a = length-append xs (repeated n xs) in
    let e = repeated_length n xs in
    let c : suc n * length xs ≡ length xs + n * length xs = omega arith in
    omega (arith, a, e, c)

-- after the same words
behind_same : (xs ys zs : Words) (i : ℕ) → ((j : ℕ) → i ≡ length xs + j → slice_get ys j ≡ slice_get zs j) → slice_get
    (xs ++ ys) i ≡ slice_get (xs ++ zs) i
behind_same [] ys zs i h = h i (omega arith)
behind_same (x ∷ xs) ys zs zero h = refl
behind_same (x ∷ xs) ys zs (suc i) h = behind_same xs ys zs i (λ j e. h j (omega (arith, e)))

pub behind_words : (xs ys : Words) (i : ℕ) → slice_get (xs ++ ys) (length xs + i) ≡ slice_get ys i
behind_words [] ys i = let e : 0 + i ≡ i = omega arith in ap (slice_get ys) e
behind_words (x ∷ xs) ys i = let e : suc (length xs) + i ≡ suc (length xs + i) = omega arith
    in ap (slice_get (x ∷ (xs ++ ys))) e ∙ behind_words xs ys i

-- once more makes no difference before the end
once_more : (n : ℕ) (xs : Words) (i : ℕ) → i < n * length xs → slice_get (repeated n xs) i ≡ slice_get
    (repeated (suc n) xs) i
once_more zero xs i l = absurd (omega (arith, l))
once_more (suc n) xs i l =
    let c : suc n * length xs ≡ length xs + n * length xs = omega arith in
    behind_same xs (repeated n xs) (repeated (suc n) xs) i (λ j e. once_more n xs j (omega (arith, l, c, e)))

-- each word is again one stretch further on
pub again : (n : ℕ) (xs : Words) (i : ℕ) → i < n * length xs → slice_get (repeated (suc n) xs) (length xs + i)
    ≡ slice_get (repeated (suc n) xs) i
again n xs i l = behind_words xs (repeated n xs) i ∙ once_more n xs i l

-- words that were written
abbrev pub AreWritten : Words → Type 0
AreWritten [] = Unit {0}
AreWritten (None ∷ ws) = ⊥
AreWritten (Some x ∷ ws) = AreWritten ws

pub written_both : (xs ys : Words) → AreWritten xs → AreWritten ys → AreWritten (xs ++ ys)
written_both [] ys a b = b
written_both (None ∷ xs) ys a b = absurd a
written_both (Some x ∷ xs) ys a b = written_both xs ys a b

pub written_repeated : (n : ℕ) (xs : Words) → AreWritten xs → AreWritten (repeated n xs)
written_repeated zero xs a = tt
written_repeated (suc n) xs a = written_both xs (repeated n xs) a (written_repeated n xs a)

pub written_word : (ws : Words) (i : ℕ) → AreWritten ws → i < length ws → (v : Word) × (slice_get ws i ≡ Some (Some v))
written_word [] i a l = absurd (omega (arith, l))
written_word (None ∷ ws) i a l = absurd a
written_word (Some x ∷ ws) zero a l = (x, refl)
written_word (Some x ∷ ws) (suc i) a l = written_word ws i a (omega (arith, l))
