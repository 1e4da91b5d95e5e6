-- Values, words and blocks that name frames of activations that there have been: as they are read and written.
use Rattle.std.proofs.Common.{◌≡◌, ℕ, zero, suc, ◌-◌, ◌/◌, ◌%◌, ◌<◌, Bool, true, false, ◌&&◌, nat_eq, nat_lt}
use Rattle.std.proofs.Common.{if◌then◌else◌, List, [], ◌∷◌, length, slice_get, Option, Some, None, refl, sym, subst}
use Rattle.std.proofs.Common.{arith}
use Rattle.std.proofs.lemmas.Option.{none-some, same_Some}
use Rattle.tac_code.specs.declared.code.Block.{Block}
use Rattle.tac_code.specs.declared.code.Block.TheVariants.{Frame, Scratch, Object, Constant}
use Rattle.tac_code.specs.declared.code.Value.{Value}
use Rattle.tac_code.specs.declared.code.Value.TheVariants.{Number, Address, Routine}
use Rattle.tac_code.specs.Memory.{Words, Living, Memory, Constants, known, is_aligned, with_word, changed_byte}
use Rattle.tac_code.specs.Memory.{with_value, with_byte_at, constant_words, living, behind, instead, changed}
use Rattle.tac_code.specs.Memory.{instead_object, behind_object, changed_object, constant_at, words_in, with_frames}
use Rattle.tac_code.specs.Memory.{with_scratch, with_objects, changed_in, value_in, load}
use Rattle.tac_code.specs.Meaning.{Activation, State, unwritten}
use Rattle.tac_pass.proofs.Inside.{with_set}
use Rattle.tac_pass.proofs.Memories.{unwritten_is}

-- ---- values

abbrev pub BelowBlock : ℕ → Block → Type 0
BelowBlock n (Frame a) = a < n
BelowBlock n (Scratch a) = Unit {0}
BelowBlock n (Object k) = Unit {0}
BelowBlock n (Constant r place) = Unit {0}

abbrev pub IsBelow : ℕ → Value → Type 0
IsBelow n (Number z) = Unit {0}
IsBelow n (Address block o) = BelowBlock n block
IsBelow n (Routine r) = Unit {0}

abbrev pub BelowWord : ℕ → Option Value → Type 0
BelowWord n None = Unit {0}
BelowWord n (Some v) = IsBelow n v

pub below_is : (n : ℕ) (o : Option Value) (v : Value) → o ≡ Some v → BelowWord n o → IsBelow n v
below_is n o v f b = subst (BelowWord n) f b

-- ---- words and blocks

abbrev pub AllBelow : ℕ → Words → Type 0
AllBelow n ws = (k : ℕ) → BelowWord n (known (slice_get ws k))

abbrev pub BelowBlocks : ℕ → List Living → Type 0
BelowBlocks n [] = Unit {0}
BelowBlocks n (b ∷ bs) = AllBelow n b.words × BelowBlocks n bs

abbrev pub BelowObjects : ℕ → List Words → Type 0
BelowObjects n [] = Unit {0}
BelowObjects n (b ∷ bs) = AllBelow n b × BelowObjects n bs

abbrev pub BelowTemporaries : ℕ → (ℕ → Option Value) → Type 0
BelowTemporaries n ts = (u : ℕ) → BelowWord n (ts u)

abbrev pub BelowCallers : ℕ → List Activation → Type 0
BelowCallers n [] = Unit {0}
BelowCallers n (c ∷ cs) = (c.number < n) × BelowTemporaries n c.temporaries × BelowCallers n cs

pub record BelowMemory (n : ℕ) (m : Memory) : Type 0 where
  pub frames : BelowBlocks n m.frames
  pub scratch : BelowBlocks n m.scratch
  pub objects : BelowObjects n m.objects

pub record AreBelow (s : State) : Type 0 where
  pub number : s.current.number < s.count
  pub temporaries : BelowTemporaries s.count s.current.temporaries
  pub callers : BelowCallers s.count s.callers
  pub memory : BelowMemory s.count s.memory

-- ---- one activation more

value_less : (n : ℕ) (v : Value) → IsBelow n v → IsBelow (suc n) v
value_less n (Number z) b = tt
value_less n (Routine r) b = tt
value_less n (Address (Frame a) o) b = omega (arith, b)
value_less n (Address (Scratch a) o) b = tt
value_less n (Address (Object k) o) b = tt
value_less n (Address (Constant r place) o) b = tt

pub word_less : (n : ℕ) (o : Option Value) → BelowWord n o → BelowWord (suc n) o
word_less n None b = tt
word_less n (Some v) b = value_less n v b

pub blocks_less : (n : ℕ) (bs : List Living) → BelowBlocks n bs → BelowBlocks (suc n) bs
blocks_less n [] b = tt
blocks_less n (x ∷ xs) b = (λ k. word_less n (known (slice_get x.words k)) (b.0 k), blocks_less n xs b.1)

pub objects_less : (n : ℕ) (bs : List Words) → BelowObjects n bs → BelowObjects (suc n) bs
objects_less n [] b = tt
objects_less n (x ∷ xs) b = (λ k. word_less n (known (slice_get x k)) (b.0 k), objects_less n xs b.1)

pub callers_less : (n : ℕ) (cs : List Activation) → BelowCallers n cs → BelowCallers (suc n) cs
callers_less n [] b = tt
callers_less n (c ∷ cs) b =
    (let l = b.0 in omega (arith, l), λ u. word_less n (c.temporaries u) (b.1 u), callers_less n cs b.2)

pub unwritten_below : (n bytes : ℕ) → AllBelow n (unwritten bytes)
unwritten_below n bytes k = subst (BelowWord n) (sym (unwritten_is _ k)) tt

-- ---- reads

constants_below : (n : ℕ) (bytes : List ℕ) → AllBelow n (constant_words bytes)
constants_below n [] k = tt
constants_below n (a ∷ []) k = tt
constants_below n (a ∷ b ∷ []) k = tt
constants_below n (a ∷ b ∷ c ∷ []) k = tt
constants_below n (a ∷ b ∷ c ∷ d ∷ rest) zero = tt
constants_below n (a ∷ b ∷ c ∷ d ∷ rest) (suc k) = constants_below n rest k

living_below : (n : ℕ) (bs : List Living) (a : ℕ) (ws : Words) → BelowBlocks n bs → living bs a ≡ Some ws
    → AllBelow n ws
living_below n [] a ws b f = absurd (none-some ws f)
living_below n (x ∷ xs) a ws b f = which (living_below n xs a ws b.1) (nat_eq x.number a) f
  where
    which : (living xs a ≡ Some ws → AllBelow n ws) → (t : Bool) → (if t then Some x.words else living xs a) ≡ Some ws
        → AllBelow n ws
    which again true f = subst (AllBelow n) (same_Some x.words ws f) b.0
    which again false f = again f

object_below : (n : ℕ) (bs : List Words) (a : ℕ) (ws : Words) → BelowObjects n bs → slice_get bs a ≡ Some ws
    → AllBelow n ws
object_below n [] a ws b f = absurd (none-some ws f)
object_below n (x ∷ xs) zero ws b f = subst (AllBelow n) (same_Some x ws f) b.0
object_below n (x ∷ xs) (suc a) ws b f = object_below n xs a ws b.1 f

words_below : (n : ℕ) (constants : Constants) (m : Memory) (block : Block) (ws : Words) → BelowMemory n m
    → words_in constants m block ≡ Some ws → AllBelow n ws
words_below n constants m (Frame a) ws b f = living_below n m.frames a ws b.frames f
words_below n constants m (Scratch a) ws b f = living_below n m.scratch a ws b.scratch f
words_below n constants m (Object a) ws b f = object_below n m.objects a ws b.objects f
words_below n constants m (Constant r place) ws b f = which (constants r place) f
  where
    which : (o : Option (List ℕ)) → constant_at o ≡ Some ws → AllBelow n ws
    which None f = absurd (none-some ws f)
    which (Some bytes) f = subst (AllBelow n) (same_Some (constant_words bytes) ws f) (constants_below n bytes)

pub load_below : (n : ℕ) (constants : Constants) (m : Memory) (block : Block) (o : ℕ) (v : Value) → BelowMemory n m
    → load constants m block o ≡ Some v → IsBelow n v
load_below n constants m block o v b f = which (words_in constants m block) refl f
  where
    aligned : (ws : Words) → AllBelow n ws → (t : Bool) → (if t then known (slice_get ws (o / 4)) else None) ≡ Some v
        → IsBelow n v
    aligned ws all true f = below_is n (known (slice_get ws (o / 4))) v f (all (o / 4))
    aligned ws all false f = absurd (none-some v f)

    which : (x : Option Words) → words_in constants m block ≡ x → value_in x o ≡ Some v → IsBelow n v
    which None e f = absurd (none-some v f)
    which (Some ws) e f = aligned ws (words_below n constants m block ws b e) (is_aligned o) f

-- ---- writes

set_below : (n : ℕ) (ws : Words) (i : ℕ) (v : Value) → IsBelow n v → AllBelow n ws → AllBelow n (with_set ws i v)
set_below n [] i v b all k = tt
set_below n (w ∷ ws) zero v b all zero = b
set_below n (w ∷ ws) zero v b all (suc k) = all (suc k)
set_below n (w ∷ ws) (suc i) v b all zero = all 0
set_below n (w ∷ ws) (suc i) v b all (suc k) = set_below n ws i v b (λ j. all (suc j)) k

-- a change that keeps words below
abbrev pub KeepsBelow : ℕ → (Words → Option Words) → Type 0
KeepsBelow n change = (ws ws2 : Words) → change ws ≡ Some ws2 → AllBelow n ws → AllBelow n ws2

pub word_keeps : (n o : ℕ) (v : Value) → IsBelow n v → KeepsBelow n (λ ws. with_word ws o v)
word_keeps n o v b ws ws2 f all = which (is_aligned o && nat_lt (o / 4) (length ws)) f
  where
    which : (t : Bool) → (if t then Some (with_set ws (o / 4) v) else None) ≡ Some ws2 → AllBelow n ws2
    which true f = subst (AllBelow n) (same_Some (with_set ws (o / 4) v) ws2 f) (set_below n ws (o / 4) v b all)
    which false f = absurd (none-some ws2 f)

pub byte_keeps : (n o byte : ℕ) → KeepsBelow n (λ ws. with_byte_at ws o byte)
byte_keeps n o byte ws ws2 f all = which (known (slice_get ws (o / 4))) f
  where
    which : (x : Option Value) → with_value ws (o / 4) (changed_byte x (o % 4) byte) ≡ Some ws2 → AllBelow n ws2
    which None f = absurd (none-some ws2 f)
    which (Some (Number z)) f = subst (AllBelow n) (same_Some (with_set ws (o / 4) _) ws2 f)
        (set_below n ws (o / 4) _ tt all)
    which (Some (Address block offset)) f = absurd (none-some ws2 f)
    which (Some (Routine r)) f = absurd (none-some ws2 f)

module _ (n : ℕ) (change : Words → Option Words) (keeps : KeepsBelow n change) where
  changed_below : (bs : List Living) (a : ℕ) (cs : List Living) → BelowBlocks n bs → changed bs a change ≡ Some cs
      → BelowBlocks n cs
  changed_below [] a cs b f = absurd (none-some cs f)
  changed_below (x ∷ xs) a cs b f = which (λ ds. changed_below xs a ds b.1) (nat_eq x.number a) f
    where
      first : (o : Option Words) → change x.words ≡ o → instead x xs o ≡ Some cs → BelowBlocks n cs
      first None e f = absurd (none-some cs f)
      first (Some ws) e f =
          subst (BelowBlocks n) (same_Some (record {
            number = x.number;
            words = ws;
          } ∷ xs) cs f) (keeps x.words ws e b.0, b.1)

      later : (o : Option (List Living)) → ((ds : List Living) → o ≡ Some ds → BelowBlocks n ds) → behind x o ≡ Some cs
          → BelowBlocks n cs
      later None again f = absurd (none-some cs f)
      later (Some ds) again f = subst (BelowBlocks n) (same_Some (x ∷ ds) cs f) (b.0, again ds refl)

      which : ((ds : List Living) → changed xs a change ≡ Some ds → BelowBlocks n ds) → (t : Bool)
          → (if t then instead x xs (change x.words) else behind x (changed xs a change)) ≡ Some cs → BelowBlocks n cs
      which again true f = first (change x.words) refl f
      which again false f = later (changed xs a change) again f

  objects_below : (bs : List Words) (a : ℕ) (cs : List Words) → BelowObjects n bs → changed_object bs a change ≡ Some cs
      → BelowObjects n cs
  objects_below [] a cs b f = absurd (none-some cs f)
  objects_below (x ∷ xs) zero cs b f = which (change x) refl f
    where
      which : (o : Option Words) → change x ≡ o → instead_object xs o ≡ Some cs → BelowObjects n cs
      which None e f = absurd (none-some cs f)
      which (Some ws) e f = subst (BelowObjects n) (same_Some (ws ∷ xs) cs f) (keeps x ws e b.0, b.1)
  objects_below (x ∷ xs) (suc a) cs b f = which (λ ds. objects_below xs a ds b.1) (changed_object xs a change) refl f
    where
      which : ((ds : List Words) → changed_object xs a change ≡ Some ds → BelowObjects n ds) → (o : Option (List Words))
          → changed_object xs a change ≡ o → behind_object x o ≡ Some cs → BelowObjects n cs
      which again None e f = absurd (none-some cs f)
      which again (Some ds) e f = subst (BelowObjects n) (same_Some (x ∷ ds) cs f) (b.0, again ds e)

  pub memory_below : (m : Memory) (block : Block) (m2 : Memory) → BelowMemory n m → changed_in m block change ≡ Some m2
      → BelowMemory n m2
  memory_below m (Frame a) m2 b f = which (changed m.frames a change) refl f
    where
      which : (o : Option (List Living)) → changed m.frames a change ≡ o → with_frames m o ≡ Some m2 → BelowMemory n m2
      which None e f = absurd (none-some m2 f)
      which (Some fs) e f =
          subst (BelowMemory n) (same_Some (record m { frames = fs }) m2 f) (record {
            frames = changed_below m.frames a fs b.frames e;
            scratch = b.scratch;
            objects = b.objects;
          })
  memory_below m (Scratch a) m2 b f = which (changed m.scratch a change) refl f
    where
      which : (o : Option (List Living)) → changed m.scratch a change ≡ o → with_scratch m o ≡ Some m2
          → BelowMemory n m2
      which None e f = absurd (none-some m2 f)
      which (Some fs) e f =
          subst (BelowMemory n) (same_Some (record m { scratch = fs }) m2 f) (record {
            frames = b.frames;
            scratch = changed_below m.scratch a fs b.scratch e;
            objects = b.objects;
          })
  memory_below m (Object a) m2 b f = which (changed_object m.objects a change) refl f
    where
      which : (o : Option (List Words)) → changed_object m.objects a change ≡ o → with_objects m o ≡ Some m2
          → BelowMemory n m2
      which None e f = absurd (none-some m2 f)
      which (Some bs) e f =
          subst (BelowMemory n) (same_Some (record m { objects = bs }) m2 f) (record {
            frames = b.frames;
            scratch = b.scratch;
            objects = objects_below m.objects a bs b.objects e;
          })
  memory_below m (Constant r place) m2 b f = absurd (none-some m2 f)
