-- A memory in which one block has other words.
use Rattle.std.proofs.Common.{◌≡◌, ◌⊎◌, inl, inr, ℕ, zero, suc, ◌*◌, ◌<◌, Bool, true, false, nat_eq}
use Rattle.std.proofs.Common.{if◌then◌else◌, List, [], ◌∷◌, length, slice_get, set, Option, Some, refl, sym, ap, ◌∙◌}
use Rattle.std.proofs.Common.{eqb-true}
use Rattle.std.proofs.lemmas.Bool.{cases_eq}
use Rattle.tac_code.specs.declared.code.Block.{Block}
use Rattle.tac_code.specs.declared.code.Block.TheVariants.{Frame as FrameBlock, Scratch as ScratchBlock}
use Rattle.tac_code.specs.declared.code.Block.TheVariants.{Object as ObjectBlock, Constant as ConstantBlock}
use Rattle.tac_code.specs.declared.code.Value.{Value as Word}
use Rattle.tac_code.specs.Memory.{Words, Living, Memory, Constants, known, with_word, living, behind, instead, changed}
use Rattle.tac_code.specs.Memory.{instead_object, behind_object, changed_object, words_in, with_frames, with_scratch}
use Rattle.tac_code.specs.Memory.{with_objects, value_in, load, store}
use Rattle.tac_code.specs.Meaning.{text_at}
use Rattle.tac_code_steps.specs.Splices.{spliced}
use Rattle.tac_code_steps.proofs.Pieces.{same_some, some_none}
use Rattle.tac_code_steps.proofs.Blocks.{word_read, word_written}
use Rattle.ps_lower_relation.specs.Here.{Setting, code_in}
use Rattle.ps_lower_relation.proofs.Copies.{Holding}

-- ---- the blocks of activations

-- of these blocks one has other words
abbrev pub with_living : List Living → ℕ → Words → List Living
with_living [] a ws = []
with_living (b ∷ bs) a ws = if nat_eq b.number a then record {
  number = b.number;
  words = ws;
} ∷ bs else b ∷ with_living bs a ws

pub living_now : (bs : List Living) (a : ℕ) (old ws : Words) → living bs a ≡ Some old → living (with_living bs a ws) a
    ≡ Some ws
living_now [] a old ws h = some_none h
living_now (b ∷ bs) a old ws h = go (nat_eq b.number a) refl h (living_now bs a old ws)
  where
    go : (q : Bool) → nat_eq b.number a ≡ q → (if q then Some b.words else living bs a) ≡ Some old
        → (living bs a ≡ Some old → living (with_living bs a ws) a ≡ Some ws) → living (if q then record {
          number = b.number;
          words = ws;
        } ∷ bs else b ∷ with_living bs a ws) a ≡ Some ws
    go true e r deep = ap (λ y. if y then Some ws else living bs a) e
    go false e r deep = ap (λ y. if y then Some b.words else living (with_living bs a ws) a) e ∙ deep r

pub living_changed : (bs : List Living) (a : ℕ) (old ws new : Words) (change : Words → Option Words) → living bs a
    ≡ Some old → change ws ≡ Some new → changed (with_living bs a ws) a change ≡ Some (with_living bs a new)
living_changed [] a old ws new change h c = some_none h
living_changed (b ∷ bs) a old ws new change h c = go (nat_eq b.number a) refl h
    (λ r. living_changed bs a old ws new change r c)
  where
    here : Living
    here = record { number = b.number; words = ws }

    go : (q : Bool) → nat_eq b.number a ≡ q → (if q then Some b.words else living bs a) ≡ Some old
        → (living bs a ≡ Some old → changed (with_living bs a ws) a change ≡ Some (with_living bs a new)) → changed
        (if q then here ∷ bs else b ∷ with_living bs a ws) a change ≡ Some (if q then record {
          number = b.number;
          words = new;
        } ∷ bs else b ∷ with_living bs a new)
    go true e r deep = ap (λ y. if y then instead here bs (change ws) else behind here (changed bs a change)) e
        ∙ ap (instead here bs) c
    go false e r deep = ap (λ y. if y then instead b (with_living bs a ws) (change b.words) else behind b
        (changed (with_living bs a ws) a change)) e ∙ ap (behind b) (deep r)

no_number : {A : Type 0} (n a k : ℕ) → nat_eq n a ≡ true → nat_eq n k ≡ true → (k ≡ a → ⊥) → A
no_number n a k e f h = absurd (h (sym (eqb-true n k f) ∙ eqb-true n a e))

pub living_other : (bs : List Living) (a k : ℕ) (ws : Words) → (k ≡ a → ⊥) → living (with_living bs a ws) k
    ≡ living bs k
living_other [] a k ws h = refl
living_other (b ∷ bs) a k ws h = go (nat_eq b.number a) (nat_eq b.number k) refl refl (living_other bs a k ws h)
  where
    go : (q r : Bool) → nat_eq b.number a ≡ q → nat_eq b.number k ≡ r → living (with_living bs a ws) k ≡ living bs k
        → living (if q then record {
          number = b.number;
          words = ws;
        } ∷ bs else b ∷ with_living bs a ws) k ≡ (if r then Some b.words else living bs k)
    go true true e f deep = no_number b.number a k e f h
    go true false e f deep = ap (λ y. if y then Some ws else living bs k) f
    go false true e f deep = ap (λ y. if y then Some b.words else living (with_living bs a ws) k) f
    go false false e f deep = ap (λ y. if y then Some b.words else living (with_living bs a ws) k) f ∙ deep

pub living_same : (bs : List Living) (a : ℕ) (old : Words) → living bs a ≡ Some old → with_living bs a old ≡ bs
living_same [] a old h = refl
living_same (b ∷ bs) a old h = go (nat_eq b.number a) h (living_same bs a old)
  where
    go : (q : Bool) → (if q then Some b.words else living bs a) ≡ Some old
        → (living bs a ≡ Some old → with_living bs a old ≡ bs) → (if q then record {
          number = b.number;
          words = old;
        } ∷ bs else b ∷ with_living bs a old) ≡ b ∷ bs
    go true r deep = ap (λ ws. record { number = b.number; words = ws } ∷ bs) (sym (same_some r))
    go false r deep = ap (λ cs. b ∷ cs) (deep r)

pub living_written : (bs : List Living) (a : ℕ) (old new : Words) (change : Words → Option Words) → living bs a
    ≡ Some old → change old ≡ Some new → changed bs a change ≡ Some (with_living bs a new)
living_written bs a old new change h c = ap (λ cs. changed cs a change) (sym (living_same bs a old h))
    ∙ living_changed bs a old old new change h c

-- ---- objects

pub item_now : (os : List Words) (k : ℕ) (old ws : Words) → slice_get os k ≡ Some old → slice_get (set os k ws) k
    ≡ Some ws
item_now [] k old ws h = some_none h
item_now (o ∷ os) zero old ws h = refl
item_now (o ∷ os) (suc k) old ws h = item_now os k old ws h

pub item_changed : (os : List Words) (k : ℕ) (old ws new : Words) (change : Words → Option Words) → slice_get os k
    ≡ Some old → change ws ≡ Some new → changed_object (set os k ws) k change ≡ Some (set os k new)
item_changed [] k old ws new change h c = some_none h
item_changed (o ∷ os) zero old ws new change h c = ap (instead_object os) c
item_changed (o ∷ os) (suc k) old ws new change h c = ap (behind_object o) (item_changed os k old ws new change h c)

pub item_other : (os : List Words) (k j : ℕ) (ws : Words) → (j ≡ k → ⊥) → slice_get (set os k ws) j ≡ slice_get os j
item_other [] k j ws h = refl
item_other (o ∷ os) zero zero ws h = absurd (h refl)
item_other (o ∷ os) zero (suc j) ws h = refl
item_other (o ∷ os) (suc k) zero ws h = refl
item_other (o ∷ os) (suc k) (suc j) ws h = item_other os k j ws (λ e. h (ap suc e))

pub item_same : (os : List Words) (k : ℕ) (old : Words) → slice_get os k ≡ Some old → set os k old ≡ os
item_same [] k old h = refl
item_same (o ∷ os) zero old h = ap (λ ws. ws ∷ os) (sym (same_some h))
item_same (o ∷ os) (suc k) old h = ap (λ us. o ∷ us) (item_same os k old h)

pub item_written : (os : List Words) (k : ℕ) (old new : Words) (change : Words → Option Words) → slice_get os k
    ≡ Some old → change old ≡ Some new → changed_object os k change ≡ Some (set os k new)
item_written os k old new change h c = ap (λ us. changed_object us k change) (sym (item_same os k old h))
    ∙ item_changed os k old old new change h c

-- ---- a block of any kind

abbrev pub with_block : Memory → Block → Words → Memory
with_block m (FrameBlock a) ws = record m { frames = with_living m.frames a ws }
with_block m (ScratchBlock a) ws = record m { scratch = with_living m.scratch a ws }
with_block m (ObjectBlock k) ws = record m { objects = set m.objects k ws }
with_block m (ConstantBlock r place) ws = m

-- blocks that can be written: all but constants
abbrev pub IsOpen : Block → Type 0
IsOpen (FrameBlock a) = Unit {0}
IsOpen (ScratchBlock a) = Unit {0}
IsOpen (ObjectBlock k) = Unit {0}
IsOpen (ConstantBlock r place) = ⊥

abbrev block_number : Block → ℕ
block_number (FrameBlock a) = a
block_number (ScratchBlock a) = a
block_number (ObjectBlock a) = a
block_number (ConstantBlock r a) = a

pub same_or_other : (b c : Block) → IsOpen b → (c ≡ b) ⊎ (c ≡ b → ⊥)
same_or_other (FrameBlock a) (FrameBlock k) can = go (cases_eq k a)
  where
    go : (k ≡ a) ⊎ (k ≡ a → ⊥) → (FrameBlock k ≡ FrameBlock a) ⊎ (FrameBlock k ≡ FrameBlock a → ⊥)
    go (inl e) = inl (ap (λ n. FrameBlock n) e)
    go (inr h) = inr (λ e. h (ap block_number e))
same_or_other (ScratchBlock a) (ScratchBlock k) can = go (cases_eq k a)
  where
    go : (k ≡ a) ⊎ (k ≡ a → ⊥) → (ScratchBlock k ≡ ScratchBlock a) ⊎ (ScratchBlock k ≡ ScratchBlock a → ⊥)
    go (inl e) = inl (ap (λ n. ScratchBlock n) e)
    go (inr h) = inr (λ e. h (ap block_number e))
same_or_other (ObjectBlock a) (ObjectBlock k) can = go (cases_eq k a)
  where
    go : (k ≡ a) ⊎ (k ≡ a → ⊥) → (ObjectBlock k ≡ ObjectBlock a) ⊎ (ObjectBlock k ≡ ObjectBlock a → ⊥)
    go (inl e) = inl (ap (λ n. ObjectBlock n) e)
    go (inr h) = inr (λ e. h (ap block_number e))
same_or_other (FrameBlock a) (ScratchBlock k) can = inr (λ e. absurd (cc))
same_or_other (FrameBlock a) (ObjectBlock k) can = inr (λ e. absurd (cc))
same_or_other (FrameBlock a) (ConstantBlock r k) can = inr (λ e. absurd (cc))
same_or_other (ScratchBlock a) (FrameBlock k) can = inr (λ e. absurd (cc))
same_or_other (ScratchBlock a) (ObjectBlock k) can = inr (λ e. absurd (cc))
same_or_other (ScratchBlock a) (ConstantBlock r k) can = inr (λ e. absurd (cc))
same_or_other (ObjectBlock a) (FrameBlock k) can = inr (λ e. absurd (cc))
same_or_other (ObjectBlock a) (ScratchBlock k) can = inr (λ e. absurd (cc))
same_or_other (ObjectBlock a) (ConstantBlock r k) can = inr (λ e. absurd (cc))
same_or_other (ConstantBlock r a) c can = absurd can

pub block_now : (constants : Constants) (m : Memory) (b : Block) (old ws : Words) → IsOpen b → words_in constants m b
    ≡ Some old → words_in constants (with_block m b ws) b ≡ Some ws
block_now constants m (FrameBlock a) old ws can h = living_now m.frames a old ws h
block_now constants m (ScratchBlock a) old ws can h = living_now m.scratch a old ws h
block_now constants m (ObjectBlock k) old ws can h = item_now m.objects k old ws h
block_now constants m (ConstantBlock r place) old ws can h = absurd can

pub block_other : (constants : Constants) (m : Memory) (b c : Block) (ws : Words) → (c ≡ b → ⊥) → words_in constants
    (with_block m b ws) c ≡ words_in constants m c
block_other constants m (FrameBlock a) (FrameBlock k) ws h = living_other m.frames a k ws
    (λ e. h (ap (λ n. FrameBlock n) e))
block_other constants m (FrameBlock a) (ScratchBlock k) ws h = refl
block_other constants m (FrameBlock a) (ObjectBlock k) ws h = refl
block_other constants m (FrameBlock a) (ConstantBlock r k) ws h = refl
block_other constants m (ScratchBlock a) (FrameBlock k) ws h = refl
block_other constants m (ScratchBlock a) (ScratchBlock k) ws h = living_other m.scratch a k ws
    (λ e. h (ap (λ n. ScratchBlock n) e))
block_other constants m (ScratchBlock a) (ObjectBlock k) ws h = refl
block_other constants m (ScratchBlock a) (ConstantBlock r k) ws h = refl
block_other constants m (ObjectBlock a) (FrameBlock k) ws h = refl
block_other constants m (ObjectBlock a) (ScratchBlock k) ws h = refl
block_other constants m (ObjectBlock a) (ObjectBlock k) ws h = item_other m.objects a k ws
    (λ e. h (ap (λ n. ObjectBlock n) e))
block_other constants m (ObjectBlock a) (ConstantBlock r k) ws h = refl
block_other constants m (ConstantBlock q a) c ws h = refl

pub block_same : (constants : Constants) (m : Memory) (b : Block) (old : Words) → IsOpen b → words_in constants m b
    ≡ Some old → with_block m b old ≡ m
block_same constants m (FrameBlock a) old can h = ap (λ bs. record m { frames = bs }) (living_same m.frames a old h)
block_same constants m (ScratchBlock a) old can h = ap (λ bs. record m { scratch = bs }) (living_same m.scratch a old h)
block_same constants m (ObjectBlock k) old can h = ap (λ os. record m { objects = os }) (item_same m.objects k old h)
block_same constants m (ConstantBlock r place) old can h = refl

block_changed : (constants : Constants) (m : Memory) (b : Block) (old ws : Words) (i : ℕ) (v : Word) → IsOpen b
    → words_in constants m b ≡ Some old → i < length ws → store (with_block m b ws) b (4 * i) v ≡ Some
    (with_block m b (spliced i (Some v ∷ []) ws))
block_changed constants m (FrameBlock a) old ws i v can h l = ap (with_frames m)
    (living_changed m.frames a old ws (spliced i (Some v ∷ []) ws) (λ words. with_word words (4 * i) v) h
    (word_written ws i v l))
block_changed constants m (ScratchBlock a) old ws i v can h l = ap (with_scratch m)
    (living_changed m.scratch a old ws (spliced i (Some v ∷ []) ws) (λ words. with_word words (4 * i) v) h
    (word_written ws i v l))
block_changed constants m (ObjectBlock k) old ws i v can h l = ap (with_objects m)
    (item_changed m.objects k old ws (spliced i (Some v ∷ []) ws) (λ words. with_word words (4 * i) v) h
    (word_written ws i v l))
block_changed constants m (ConstantBlock r place) old ws i v can h l = absurd can

pub word_there : (constants : Constants) (m : Memory) (b : Block) (ws : Words) (i : ℕ) → words_in constants m b
    ≡ Some ws → load constants m b (4 * i) ≡ known (slice_get ws i)
word_there constants m b ws i h = ap (λ o. value_in o (4 * i)) h ∙ word_read ws i

-- the memory by the words of a block
pub block_held : (p : Setting) (m : Memory) (b : Block) (old : Words) → IsOpen b → words_in (text_at (code_in p)) m b
    ≡ Some old → Holding p b (with_block m b)
block_held p m b old can h =
    record {
      reads = λ ws i v e. word_there (text_at (code_in p)) (with_block m b ws) b ws i
          (block_now (text_at (code_in p)) m b old ws can h) ∙ ap known e;
      writes = λ ws i v l. block_changed (text_at (code_in p)) m b old ws i v can h l;
    }
