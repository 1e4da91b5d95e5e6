-- Two memories stay alike: reads give the same, and writes outside the own frame and in it.
use Rattle.std.proofs.Common.{◌≡◌, ◌≢◌, ◌⊎◌, inl, inr, ℕ, zero, suc, ◌+◌, ◌*◌, ◌/◌, ◌%◌, ◌<◌, Bool, true, false, ◌&&◌}
use Rattle.std.proofs.Common.{nat_eq, nat_lt, if◌then◌else◌, List, [], ◌∷◌, ◌++◌, length, map, replicate, slice_get}
use Rattle.std.proofs.Common.{Option, Some, None, ℤ, refl, sym, ap, ◌∙◌, subst, arith, eqb-true}
use Rattle.std.proofs.lemmas.Bool.{cases_eq}
use Rattle.std.proofs.lemmas.Option.{none-some, same_Some}
use Rattle.std.proofs.lemmas.List.{length-map}
use Rattle.tac_code.specs.declared.code.Block.{Block}
use Rattle.tac_code.specs.declared.code.Block.TheVariants.{Frame, Scratch, Object, Constant}
use Rattle.tac_code.specs.declared.code.Value.{Value}
use Rattle.tac_code.specs.declared.code.Value.TheVariants.{Number, Address, Routine}
use Rattle.tac_code.specs.Numbers.{number_of, with_byte}
use Rattle.tac_code.specs.Memory.{Words, Living, Memory, Constants, known, is_aligned, word_at, with_word, byte_in}
use Rattle.tac_code.specs.Memory.{changed_byte, with_value, with_byte_at, constant_words, living, behind, instead}
use Rattle.tac_code.specs.Memory.{changed, instead_object, behind_object, changed_object, words_in, constant_at}
use Rattle.tac_code.specs.Memory.{with_frames, with_scratch, with_objects, changed_in, value_in, byte_value_in, load}
use Rattle.tac_code.specs.Memory.{load_byte}
use Rattle.tac_code.specs.Meaning.{unwritten, without_first}
use Rattle.tac_pass.specs.Moved.{Places, moved_block, moved, moved_word, moved_words, moved_living}
use Rattle.tac_pass.specs.Alike.{Memories}
use Rattle.tac_pass.proofs.Words.{with_own}
use Rattle.tac_pass.proofs.Inside.{with_set, set_here, set_there}

-- ---- maps

pub map_with_set : (at : Places) (words : Words) (k : ℕ) (v : Value) → moved_words at (with_set words k v) ≡ with_set
    (moved_words at words) k (moved at v)
map_with_set at [] k v = refl
map_with_set at (w ∷ ws) zero v = refl
map_with_set at (w ∷ ws) (suc k) v = ap (λ xs. moved_word at w ∷ xs) (map_with_set at ws k v)

pub known_map : (at : Places) (words : Words) (k : ℕ) → known (slice_get (moved_words at words) k) ≡ moved_word at
    (known (slice_get words k))
known_map at [] k = refl
known_map at (w ∷ ws) zero = refl
known_map at (w ∷ ws) (suc k) = known_map at ws k

pub unwritten_is : (n k : ℕ) → known (slice_get (replicate {A = Option Value} n None) k) ≡ None
unwritten_is zero k = refl
unwritten_is (suc n) zero = refl
unwritten_is (suc n) (suc k) = unwritten_is n k

pub unwritten_moved : (at : Places) (n : ℕ) → replicate n None ≡ map (moved_word at) (replicate n None)
unwritten_moved at zero = refl
unwritten_moved at (suc n) = ap (λ words. None ∷ words) (unwritten_moved at n)

-- one object more
pub made_moved : (at : Places) (objects : List Words) (bytes : ℕ) → map (moved_words at) objects ++ unwritten bytes ∷ []
    ≡ map (moved_words at) (objects ++ unwritten bytes ∷ [])
made_moved at [] bytes = ap (λ words. words ∷ []) (unwritten_moved at _)
made_moved at (b ∷ bs) bytes = ap (λ xs. moved_words at b ∷ xs) (made_moved at bs bytes)

pub first_moved : (at : Places) (blocks : List Living) → without_first (map (moved_living at) blocks) ≡ map
    (moved_living at) (without_first blocks)
first_moved at [] = refl
first_moved at (b ∷ bs) = refl

-- words that are known to agree one by one
pub all_agree : (at : Places) (words words' : Words) → length words' ≡ length words
    → ((k : ℕ) → known (slice_get words' k) ≡ moved_word at (known (slice_get words k))) → words' ≡ moved_words at words
all_agree at [] [] size agree = refl
all_agree at [] (w' ∷ ws') size agree = absurd (omega (arith, size))
all_agree at (w ∷ ws) [] size agree = absurd (omega (arith, size))
all_agree at (w ∷ ws) (w' ∷ ws') size agree =
    ap (λ x. x ∷ ws') (agree 0) ∙ ap (λ xs. moved_word at w ∷ xs)
    (all_agree at ws ws' (let e : length ws' ≡ length ws = omega (arith, size) in e) (λ k. agree (suc k)))

constants_move : (at : Places) (bytes : List ℕ) → moved_words at (constant_words bytes) ≡ constant_words bytes
constants_move at [] = refl
constants_move at (a ∷ []) = refl
constants_move at (a ∷ b ∷ []) = refl
constants_move at (a ∷ b ∷ c ∷ []) = refl
constants_move at (a ∷ b ∷ c ∷ d ∷ rest) =
    ap (λ xs. Some (Number (number_of (a + 256 * b + 65536 * c + 16777216 * d))) ∷ xs) (constants_move at rest)

living_map : (at : Places) (fs : List Living) (number : ℕ) (ws : Words) → living fs number ≡ Some ws → living
    (map (moved_living at) fs) number ≡ Some (moved_words at ws)
living_map at [] number ws f = absurd (none-some ws f)
living_map at (b ∷ bs) number ws f = which (living_map at bs number ws) (nat_eq b.number number) f
  where
    which : (living bs number ≡ Some ws → living (map (moved_living at) bs) number ≡ Some (moved_words at ws))
        → (t : Bool) → (if t then Some b.words else living bs number) ≡ Some ws
        → (if t then Some (moved_words at b.words) else living (map (moved_living at) bs) number) ≡ Some
        (moved_words at ws)
    which again true f = ap Some (ap (moved_words at) (same_Some b.words ws f))
    which again false f = again f

get_map : (at : Places) (objects : List Words) (n : ℕ) (ws : Words) → slice_get objects n ≡ Some ws → slice_get
    (map (moved_words at) objects) n ≡ Some (moved_words at ws)
get_map at [] n ws f = absurd (none-some ws f)
get_map at (b ∷ bs) zero ws f = ap Some (ap (moved_words at) (same_Some b ws f))
get_map at (b ∷ bs) (suc n) ws f = get_map at bs n ws f

-- a word that is known lies within its block
pub is_within : (words : Words) (k : ℕ) (v : Value) → known (slice_get words k) ≡ Some v → k < length words
is_within [] k v f = absurd (none-some v f)
is_within (w ∷ ws) zero v f = omega arith
is_within (w ∷ ws) (suc k) v f = let l = is_within ws k v f in omega (arith, l)

-- ---- reads

module _ (at : Places) where
  word_moves : (ws ws' : Words) (o : ℕ) → known (slice_get ws' (o / 4)) ≡ moved_word at (known (slice_get ws (o / 4)))
      → word_at ws' o ≡ moved_word at (word_at ws o)
  word_moves ws ws' o f = by_test (is_aligned o)
    where
      by_test : (b : Bool) → (if b then known (slice_get ws' (o / 4)) else None) ≡ moved_word at
          (if b then known (slice_get ws (o / 4)) else None)
      by_test true = f
      by_test false = refl

  byte_moves : (w : Option Value) (k : ℕ) → byte_in (moved_word at w) k ≡ byte_in w k
  byte_moves None k = refl
  byte_moves (Some (Number z)) k = refl
  byte_moves (Some (Address block offset)) k = refl
  byte_moves (Some (Routine r)) k = refl

  module _ (constants constants' : Constants)
      (texts : (r place : ℕ) (bytes : List ℕ) → constants r place ≡ Some bytes → constants' r (at r place)
      ≡ Some bytes) where
    module _ {number : ℕ} {words words' : Words} {rest : List Living} {m m' : Memory}
        (a : Memories at number words words' rest m m') where
      -- the words of a block in both, which agree in one word
      abbrev Read : Block → ℕ → Words → Type 0
      Read block k ws =
          (ws' : Words) × (words_in constants' m' (moved_block at block) ≡ Some ws')
          × (known (slice_get ws' k) ≡ moved_word at (known (slice_get ws k)))

      frame_read : (n k : ℕ) (ws : Words) → (Frame n ≡ Frame number → known (slice_get words' k) ≡ moved_word at
          (known (slice_get words k))) → living m.frames n ≡ Some ws → Read (Frame n) k ws
      frame_read n k ws own f =
          which (nat_eq number n) refl (sym (ap (λ fs. living fs n) a.frames) ∙ f)
        where
          which : (t : Bool) → nat_eq number n ≡ t → (if t then Some words else living rest n) ≡ Some ws → Read
              (Frame n) k ws
          which true e f = (
            words',
            ap (λ fs. living fs n) a.frames'
                ∙ ap (λ t. if t then Some words' else living (map (moved_living at) rest) n) e,
            own
                (ap Frame (sym (eqb-true number n e))) ∙ ap (λ ws. moved_word at (known (slice_get ws k)))
                (same_Some words ws f),
          )
          which false e f = (
            moved_words at ws,
            ap (λ fs. living fs n) a.frames'
                ∙ ap (λ t. if t then Some words' else living (map (moved_living at) rest) n) e
                ∙ living_map at rest n ws f,
            known_map at ws k,
          )

      block_read : (block : Block) (k : ℕ) (ws : Words)
          → (block ≡ Frame number → known (slice_get words' k) ≡ moved_word at (known (slice_get words k)))
          → words_in constants m block ≡ Some ws → Read block k ws
      block_read (Frame n) k ws own f = frame_read n k ws own f
      block_read (Scratch n) k ws own f =
          (moved_words at ws, ap (λ fs. living fs n) a.scratch ∙ living_map at m.scratch n ws f, known_map at ws k)
      block_read (Object n) k ws own f =
          (moved_words at ws, ap (λ xs. slice_get xs n) a.objects ∙ get_map at m.objects n ws f, known_map at ws k)
      block_read (Constant r place) k ws own f = which (constants r place) refl f
        where
          which : (o : Option (List ℕ)) → constants r place ≡ o → constant_at o ≡ Some ws → Read (Constant r place) k ws
          which None e f = absurd (none-some ws f)
          which (Some bytes) e f = (
            constant_words bytes,
            ap constant_at (texts r place bytes e),
            sym
                (ap (λ xs. known (slice_get xs k)) (constants_move at bytes)) ∙ known_map at (constant_words bytes) k
                ∙ ap (λ xs. moved_word at (known (slice_get xs k))) (same_Some (constant_words bytes) ws f),
          )

      pub load_there : (block : Block) (o : ℕ) (v : Value)
          → (block ≡ Frame number → known (slice_get words' (o / 4)) ≡ moved_word at (known (slice_get words (o / 4))))
          → load constants m block o ≡ Some v → load constants' m' (moved_block at block) o ≡ Some (moved at v)
      load_there block o v own f = which (words_in constants m block) refl f
        where
          which : (x : Option Words) → words_in constants m block ≡ x → value_in x o ≡ Some v → load constants' m'
              (moved_block at block) o ≡ Some (moved at v)
          which None e f = absurd (none-some v f)
          which (Some ws) e f =
              let read = block_read block (o / 4) ws own e in ap (λ x. value_in x o) read.1
              ∙ word_moves ws read.0 o read.2 ∙ ap (moved_word at) f

      pub byte_there : (block : Block) (o byte : ℕ)
          → (block ≡ Frame number → known (slice_get words' (o / 4)) ≡ moved_word at (known (slice_get words (o / 4))))
          → load_byte constants m block o ≡ Some byte → load_byte constants' m' (moved_block at block) o ≡ Some byte
      byte_there block o byte own f = which (words_in constants m block) refl f
        where
          which : (x : Option Words) → words_in constants m block ≡ x → byte_value_in x o ≡ Some byte
              → load_byte constants' m' (moved_block at block) o ≡ Some byte
          which None e f = absurd (none-some byte f)
          which (Some ws) e f =
              let read = block_read block (o / 4) ws own e in ap (λ x. byte_value_in x o) read.1
              ∙ ap (λ w. byte_in w (o % 4)) read.2 ∙ byte_moves (known (slice_get ws (o / 4))) (o % 4) ∙ f

  -- ---- writes

  -- Two changes write one value in word k, where the words to be changed agree there, if it is written in part.
  pub record Writes (change change' : Words → Option Words) (k : ℕ) (InPart : Type 0) (Is : Value → Type 0)
      : Type 0 where
    pub by : (words words2 : Words) → change words ≡ Some words2 → (v : Value) × Is v × (k < length words)
        × (words2 ≡ with_set words k v)
        × ((words' : Words) → length words' ≡ length words
        → (InPart → known (slice_get words' k) ≡ moved_word at (known (slice_get words k))) → change' words' ≡ Some
        (with_set words' k (moved at v)))

  pub word_writes : (o : ℕ) (v : Value) → Writes (λ ws. with_word ws o v) (λ ws. with_word ws o (moved at v)) (o / 4) ⊥
      (λ w. w ≡ v)
  word_writes o v = record {
    by = λ words words2 f. which words words2 (is_aligned o) refl (nat_lt (o / 4) (length words)) refl f;
  }
    where
      Result : Words → Words → Type 0
      Result words words2 = (w : Value) × (w ≡ v) × (o / 4 < length words) × (words2 ≡ with_set words (o / 4) w)
          × ((words' : Words) → length words' ≡ length words
          → (⊥ → known (slice_get words' (o / 4)) ≡ moved_word at (known (slice_get words (o / 4))))
          → with_word words' o (moved at v) ≡ Some (with_set words' (o / 4) (moved at w)))

      which : (words words2 : Words) (b : Bool) → is_aligned o ≡ b → (l : Bool) → nat_lt (o / 4) (length words) ≡ l
          → (if b && l then Some (with_set words (o / 4) v) else None) ≡ Some words2 → Result words words2
      which words words2 false e l f g = absurd (none-some words2 g)
      which words words2 true e false f g = absurd (none-some words2 g)
      which words words2 true e true f g = (
        v,
        refl,
        let below : o / 4 < length words = grind arith in below,
        sym (same_Some (with_set words (o / 4) v) words2 g),
        λ words' size _. ap (λ b. if b && nat_lt (o / 4) (length words') then Some
            (with_set words' (o / 4) (moved at v)) else None) e
            ∙ ap (λ n. if nat_lt (o / 4) n then Some (with_set words' (o / 4) (moved at v)) else None) size
            ∙ ap (λ b. if b then Some (with_set words' (o / 4) (moved at v)) else None) f,
      )

  pub byte_writes : (o byte : ℕ) → Writes (λ ws. with_byte_at ws o byte) (λ ws. with_byte_at ws o byte) (o / 4)
      (Unit {0}) (λ v. (z : ℤ) × (v ≡ Number z))
  byte_writes o byte = record { by = λ words words2 f. which words words2 (known (slice_get words (o / 4))) refl f }
    where
      Result : Words → Words → Type 0
      Result words words2 = (w : Value) × ((z : ℤ) × (w ≡ Number z)) × (o / 4 < length words)
          × (words2 ≡ with_set words (o / 4) w)
          × ((words' : Words) → length words' ≡ length words
          → (Unit {0} → known (slice_get words' (o / 4)) ≡ moved_word at (known (slice_get words (o / 4))))
          → with_byte_at words' o byte ≡ Some (with_set words' (o / 4) (moved at w)))

      which : (words words2 : Words) (x : Option Value) → known (slice_get words (o / 4)) ≡ x → with_value words (o / 4)
          (changed_byte x (o % 4) byte) ≡ Some words2 → Result words words2
      which words words2 None e f = absurd (none-some words2 f)
      which words words2 (Some (Address block offset)) e f = absurd (none-some words2 f)
      which words words2 (Some (Routine r)) e f = absurd (none-some words2 f)
      which words words2 (Some (Number z)) e f = (
        Number (with_byte z (o % 4) byte),
        (with_byte z (o % 4) byte, refl),
        is_within words (o / 4) (Number z) e,
        sym (same_Some (with_set words (o / 4) (Number (with_byte z (o % 4) byte))) words2 f),
        λ words' size agree. ap (λ x. with_value words' (o / 4) (changed_byte x (o % 4) byte))
            (agree tt ∙ ap (moved_word at) e),
      )

  -- ---- blocks that are not the own frame

  abbrev pub Grown : List Living → List Living → Type 0
  Grown [] [] = Unit {0}
  Grown (f ∷ fs) (g ∷ gs) =
      (g.number ≡ f.number) × ((k : ℕ) → known (slice_get f.words k) ≢ None → known (slice_get g.words k) ≢ None)
      × Grown fs gs
  Grown _ _ = ⊥

  pub same_grown : (fs : List Living) → Grown fs fs
  same_grown [] = tt
  same_grown (f ∷ fs) = (refl, λ k h. h, same_grown fs)

  set_stays : (words : Words) (i : ℕ) (v : Value) → i < length words → (k : ℕ) → known (slice_get words k) ≢ None
      → known (slice_get (with_set words i v) k) ≢ None
  set_stays words i v below k was is = which (cases_eq k i)
    where
      which : (k ≡ i) ⊎ (k ≢ i) → ⊥
      which (inl x) = none-some v (sym is ∙ set_here words i v below k x)
      which (inr x) = was (sym (set_there words i v k x) ∙ is)

  module _ (change change' : Words → Option Words) (k : ℕ) (InPart : Type 0) (Is : Value → Type 0)
      (w : Writes change change' k InPart Is) where
    -- what was changed, and as much in the other
    change_there : (words words2 : Words) → change words ≡ Some words2 → change' (moved_words at words) ≡ Some
        (moved_words at words2)
    change_there words words2 f =
        let x = w.by words words2 f in x.4 (moved_words at words) (length-map words (moved_word at))
        (λ _. known_map at words k)
        ∙ ap Some (sym (ap (moved_words at) x.3 ∙ map_with_set at words k x.0))

    change_grows : (words words2 : Words) → change words ≡ Some words2 → (j : ℕ) → known (slice_get words j) ≢ None
        → known (slice_get words2 j) ≢ None
    change_grows words words2 f j was =
        let x = w.by words words2 f in subst (λ (ws : Words). known (slice_get ws j) ≢ None) (sym x.3)
        (set_stays words k x.0 x.2 j was)

    abbrev ChangedTo : List Living → ℕ → List Living → Type 0
    ChangedTo fs number gs =
        (changed (map (moved_living at) fs) number change' ≡ Some (map (moved_living at) gs)) × Grown fs gs

    changed_there : (fs : List Living) (number : ℕ) (gs : List Living) → changed fs number change ≡ Some gs
        → ChangedTo fs number gs
    changed_there [] number gs f = absurd (none-some gs f)
    changed_there (b ∷ bs) number gs f = which (changed_there bs number) (nat_eq b.number number) f
      where
        first : (o : Option Words) → change b.words ≡ o → instead b bs o ≡ Some gs
            → (instead (moved_living at b) (map (moved_living at) bs) (change' (moved_words at b.words)) ≡ Some
            (map (moved_living at) gs)) × Grown (b ∷ bs) gs
        first None e f = absurd (none-some gs f)
        first (Some words2) e f =
            let is = same_Some (record { number = b.number; words = words2 } ∷ bs) gs f in (
              ap (instead (moved_living at b) (map (moved_living at) bs)) (change_there b.words words2 e)
                  ∙ ap (λ xs. Some (map (moved_living at) xs)) is,
              subst (Grown (b ∷ bs)) is (refl, change_grows b.words words2 e, same_grown bs),
            )

        later : (o : Option (List Living)) → changed bs number change ≡ o
            → ((gs : List Living) → changed bs number change ≡ Some gs → ChangedTo bs number gs) → behind b o ≡ Some gs
            → (behind (moved_living at b) (changed (map (moved_living at) bs) number change') ≡ Some
            (map (moved_living at) gs)) × Grown (b ∷ bs) gs
        later None e again f = absurd (none-some gs f)
        later (Some hs) e again f =
            let is = same_Some (b ∷ hs) gs f in let x = again hs e in (
              ap (behind (moved_living at b)) x.0 ∙ ap (λ xs. Some (map (moved_living at) xs)) is,
              subst (Grown (b ∷ bs)) is (refl, λ k h. h, x.1),
            )

        which : ((gs : List Living) → changed bs number change ≡ Some gs → ChangedTo bs number gs) → (t : Bool)
            → (if t then instead b bs (change b.words) else behind b (changed bs number change)) ≡ Some gs
            → ((if t then instead (moved_living at b) (map (moved_living at) bs) (change' (moved_words at b.words))
            else behind (moved_living at b) (changed (map (moved_living at) bs) number change')) ≡ Some
            (map (moved_living at) gs)) × Grown (b ∷ bs) gs
        which again true f = first (change b.words) refl f
        which again false f = later (changed bs number change) refl again f

    objects_there : (bs : List Words) (n : ℕ) (cs : List Words) → changed_object bs n change ≡ Some cs → changed_object
        (map (moved_words at) bs) n change' ≡ Some (map (moved_words at) cs)
    objects_there [] n cs f = absurd (none-some cs f)
    objects_there (b ∷ bs) zero cs f = which (change b) refl f
      where
        which : (o : Option Words) → change b ≡ o → instead_object bs o ≡ Some cs → instead_object
            (map (moved_words at) bs) (change' (moved_words at b)) ≡ Some (map (moved_words at) cs)
        which None e f = absurd (none-some cs f)
        which (Some words2) e f =
            ap (instead_object (map (moved_words at) bs)) (change_there b words2 e)
            ∙ ap (λ xs. Some (map (moved_words at) xs)) (same_Some (words2 ∷ bs) cs f)
    objects_there (b ∷ bs) (suc n) cs f = which (objects_there bs n) (changed_object bs n change) refl f
      where
        which : ((cs : List Words) → changed_object bs n change ≡ Some cs → changed_object
            (map (moved_words at) bs) n change' ≡ Some (map (moved_words at) cs)) → (o : Option (List Words))
            → changed_object bs n change ≡ o → behind_object b o ≡ Some cs
            → behind_object (moved_words at b) (changed_object (map (moved_words at) bs) n change') ≡ Some
            (map (moved_words at) cs)
        which again None e f = absurd (none-some cs f)
        which again (Some ds) e f =
            ap (behind_object (moved_words at b)) (again ds e) ∙ ap (λ xs. Some (map (moved_words at) xs))
            (same_Some (b ∷ ds) cs f)

    -- ---- any block

    module _ {number : ℕ} {words words' : Words} {rest : List Living} {m m' : Memory}
        (a : Memories at number words words' rest m m') where
      -- it was the own frame
      pub record Hit (m2 : Memory) (block : Block) : Type 0 where
        pub own : block ≡ Frame number
        pub v : Value
        pub is : Is v
        pub below : k < length words
        pub old_one : m2 ≡ with_own number (with_set words k v) rest m
        pub new_one : changed_in m' (moved_block at block) change' ≡ Some
            (with_own number (with_set words' k (moved at v)) (map (moved_living at) rest) m')

      -- or another block
      pub record Missed (m2 : Memory) (block : Block) : Type 0 where
        pub rest2 : List Living
        pub m2' : Memory
        pub grown : Grown rest rest2
        pub new_one : changed_in m' (moved_block at block) change' ≡ Some m2'
        pub alike : Memories at number words words' rest2 m2 m2'

      frame_changed : (n : ℕ) (m2 : Memory) → length words' ≡ length words
          → (InPart → Frame n ≡ Frame number → known (slice_get words' k) ≡ moved_word at (known (slice_get words k)))
          → with_frames m (changed m.frames n change) ≡ Some m2 → Hit m2 (Frame n) ⊎ Missed m2 (Frame n)
      frame_changed n m2 size agree f =
          which (nat_eq number n) refl (sym (ap (λ fs. with_frames m (changed fs n change)) a.frames) ∙ f)
        where
          own : Living
          own = record { number = number; words = words }

          own' : Living
          own' = record { number = number; words = words' }

          new_way : (t : Bool) → nat_eq number n ≡ t → changed_in m' (Frame n) change' ≡ with_frames m'
              (if t then instead own' (map (moved_living at) rest) (change' words') else behind own'
              (changed (map (moved_living at) rest) n change'))
          new_way t e =
              ap (λ fs. with_frames m' (changed fs n change')) a.frames'
              ∙ ap (λ t. with_frames m' (if t then instead own' (map (moved_living at) rest) (change' words')
              else behind own' (changed (map (moved_living at) rest) n change'))) e

          hit : nat_eq number n ≡ true → (o : Option Words) → change words ≡ o → with_frames m (instead own rest o)
              ≡ Some m2 → Hit m2 (Frame n)
          hit e None g f = absurd (none-some m2 f)
          hit e (Some words2) g f =
              let x = w.by words words2 g in
              let same : Frame n ≡ Frame number = ap Frame (sym (eqb-true number n e)) in
              record {
                own = same;
                v = x.0;
                is = x.1;
                below = x.2;
                old_one = sym (same_Some (with_own number words2 rest m) m2 f)
                    ∙ ap (λ ws. with_own number ws rest m) x.3;
                new_one = new_way true e ∙ ap (λ o. with_frames m' (instead own' (map (moved_living at) rest) o))
                    (x.4 words' size (λ p. agree p same));
              }

          miss : nat_eq number n ≡ false → (o : Option (List Living)) → changed rest n change ≡ o → with_frames m
              (behind own o) ≡ Some m2 → Missed m2 (Frame n)
          miss e None g f = absurd (none-some m2 f)
          miss e (Some rest2) g f =
              let x = changed_there rest n rest2 g in
              let is = same_Some (with_own number words rest2 m) m2 f in
              record {
                rest2 = rest2;
                m2' = with_own number words' (map (moved_living at) rest2) m';
                grown = x.1;
                new_one = new_way false e ∙ ap (λ o. with_frames m' (behind own' o)) x.0;
                alike = subst (λ m2. Memories at number words words' rest2 m2
                    (with_own number words' (map (moved_living at) rest2) m')) is (record {
                      frames = refl;
                      frames' = refl;
                      scratch = a.scratch;
                      objects = a.objects;
                    });
              }

          which : (t : Bool) → nat_eq number n ≡ t → with_frames m
              (if t then instead own rest (change words) else behind own (changed rest n change)) ≡ Some m2 → Hit m2
              (Frame n) ⊎ Missed m2 (Frame n)
          which true e f = inl (hit e (change words) refl f)
          which false e f = inr (miss e (changed rest n change) refl f)

      pub block_changed : (block : Block) (m2 : Memory) → length words' ≡ length words
          → (InPart → block ≡ Frame number → known (slice_get words' k) ≡ moved_word at (known (slice_get words k)))
          → changed_in m block change ≡ Some m2 → Hit m2 block ⊎ Missed m2 block
      block_changed (Frame n) m2 size agree f = frame_changed n m2 size agree f
      block_changed (Scratch n) m2 size agree f = inr (which (changed m.scratch n change) refl f)
        where
          which : (o : Option (List Living)) → changed m.scratch n change ≡ o → with_scratch m o ≡ Some m2 → Missed m2
              (Scratch n)
          which None g f = absurd (none-some m2 f)
          which (Some blocks) g f = record {
            rest2 = rest;
            m2' = record m' { scratch = map (moved_living at) blocks };
            grown = same_grown rest;
            new_one = ap (λ fs. with_scratch m' (changed fs n change')) a.scratch ∙ ap (with_scratch m')
                (changed_there m.scratch n blocks g).0;
            alike = subst (λ m2. Memories at number words words' rest m2
                (record m' { scratch = map (moved_living at) blocks })) (same_Some (record m { scratch = blocks }) m2 f)
                (record {
                  frames = a.frames;
                  frames' = a.frames';
                  scratch = refl;
                  objects = a.objects;
                });
          }
      block_changed (Object n) m2 size agree f = inr (which (changed_object m.objects n change) refl f)
        where
          which : (o : Option (List Words)) → changed_object m.objects n change ≡ o → with_objects m o ≡ Some m2
              → Missed m2 (Object n)
          which None g f = absurd (none-some m2 f)
          which (Some blocks) g f = record {
            rest2 = rest;
            m2' = record m' { objects = map (moved_words at) blocks };
            grown = same_grown rest;
            new_one = ap (λ bs. with_objects m' (changed_object bs n change')) a.objects ∙ ap (with_objects m')
                (objects_there m.objects n blocks g);
            alike = subst (λ m2. Memories at number words words' rest m2
                (record m' { objects = map (moved_words at) blocks })) (same_Some (record m { objects = blocks }) m2 f)
                (record {
                  frames = a.frames;
                  frames' = a.frames';
                  scratch = a.scratch;
                  objects = refl;
                });
          }
      block_changed (Constant r place) m2 size agree f = absurd (none-some m2 f)
