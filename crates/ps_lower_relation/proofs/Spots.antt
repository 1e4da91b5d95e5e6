-- Spots: a part of a variable or of an object at its address.
use Rattle.std.proofs.Common.{◌≡◌, ℕ, ◌+◌, ◌*◌, ◌<◌, List, [], ◌∷◌, slice_get, Some, refl}
use Rattle.ps_tree.specs.Tree.{Program}
use Rattle.tac_code.specs.declared.code.Block.{Block}
use Rattle.tac_code.specs.declared.code.Value.{Value as Word}
use Rattle.tac_code.specs.Memory.{Living, Memory, Constants, known, load, store}
use Rattle.ps_meaning.specs.Values.{Value, Root, Declared, Made, Spot}
use Rattle.ps_meaning.specs.Worlds.{World, contents_in, with_contents}
use Rattle.tac_code_steps.specs.Splices.{spliced}
use Rattle.ps_lower_layout.specs.Shapes.{Shape, word_count, Whole}
use Rattle.ps_lower_layout.specs.Words.{value_words}
use Rattle.ps_lower_layout.specs.Paths.{HasShape, GoesTo}
use Rattle.ps_lower_relation.specs.Ghosts.{Ghost, frames_of, objects_of, RootAt, PlaceAt, Holds}
use Rattle.ps_lower_relation.proofs.Memory.{part_read}
use Rattle.ps_lower_relation.proofs.Writes.{part_written, part_word_written, part_fits, part_value}
use Rattle.ps_lower_relation.proofs.Objects.{object_value, object_read, object_written, object_word_written}
use Rattle.ps_lower_relation.proofs.Objects.{object_kept}

-- the machine's memory for a world, with these scratch blocks
abbrev pub memory_of : Program → World → List Ghost → List Living → Memory
memory_of program w gs scratch = record {
  frames = frames_of program w gs;
  scratch = scratch;
  objects = objects_of program w.made w.objects;
}

module _ (program : Program) (w : World) (gs : List Ghost) (count : ℕ) (holds : Holds program gs w count) where
  value_cases : (root : Root) (path : List ℕ) (b : Block) (o : ℕ) (inner : Shape)
      → RootAt program gs w.made root path b o (Whole inner) → HasShape w.made (contents_in w (record {
        root = root;
        path = path;
      })) inner
  value_cases (Declared name) path b o inner at = part_value program w gs name path b o inner holds.fits at
  value_cases (Made object) path b o inner at = object_value program w gs object path b o inner holds.objects at

  -- what a spot has fits its shape
  pub spot_value : (s : Spot) (b : Block) (o : ℕ) (inner : Shape) → PlaceAt program gs w.made s b o (Whole inner)
      → HasShape w.made (contents_in w s) inner
  spot_value s b o inner at = value_cases s.root s.path b o inner at

  read_cases : (constants : Constants) (scratch : List Living) (root : Root) (path : List ℕ) (b : Block) (o : ℕ)
      (inner : Shape) (i : ℕ) → RootAt program gs w.made root path b o (Whole inner) → i < word_count inner
      → load constants (memory_of program w gs scratch) b (o + 4 * i) ≡ known
      (slice_get (value_words inner (contents_in w (record {
        root = root;
        path = path;
      }))) i)
  read_cases constants scratch (Declared name) path b o inner i at l = part_read program constants
      (memory_of program w gs scratch) w gs name path b o inner i refl holds.fits at l
  read_cases constants scratch (Made object) path b o inner i at l = object_read program w gs constants
      (memory_of program w gs scratch) object path b o inner i refl holds.objects at l

  -- a word of what a spot has
  pub spot_read : (constants : Constants) (scratch : List Living) (s : Spot) (b : Block) (o : ℕ) (inner : Shape) (i : ℕ)
      → PlaceAt program gs w.made s b o (Whole inner) → i < word_count inner → load constants
      (memory_of program w gs scratch) b (o + 4 * i) ≡ known (slice_get (value_words inner (contents_in w s)) i)
  spot_read constants scratch s b o inner i at l = read_cases constants scratch s.root s.path b o inner i at l

  write_cases : (scratch : List Living) (root : Root) (path : List ℕ) (b : Block) (o : ℕ) (inner : Shape) (v : Value)
      (word : Word) → RootAt program gs w.made root path b o (Whole inner) → GoesTo w.made path v inner
      → word_count inner ≡ 1 → value_words inner v ≡ Some word ∷ [] → store (memory_of program w gs scratch) b o word
      ≡ Some (memory_of program (with_contents w (record {
        root = root;
        path = path;
      }) v) gs scratch)
  write_cases scratch (Declared name) path b o inner v word at h one ws = part_written program
      (memory_of program w gs scratch) w gs w.next name path b o inner v word refl holds.fits holds.names at h one ws
  write_cases scratch (Made object) path b o inner v word at h one ws = object_written program w gs
      (memory_of program w gs scratch) object path b o inner v word refl holds.objects at h one ws

  -- a spot of one word gets a value
  pub spot_written : (scratch : List Living) (s : Spot) (b : Block) (o : ℕ) (inner : Shape) (v : Value) (word : Word)
      → PlaceAt program gs w.made s b o (Whole inner) → GoesTo w.made s.path v inner → word_count inner ≡ 1
      → value_words inner v ≡ Some word ∷ [] → store (memory_of program w gs scratch) b o word ≡ Some
      (memory_of program (with_contents w s v) gs scratch)
  spot_written scratch s b o inner v word at h one ws = write_cases scratch s.root s.path b o inner v word at h one ws

  word_cases : (scratch : List Living) (root : Root) (path : List ℕ) (b : Block) (o : ℕ) (inner : Shape) (v : Value)
      (i : ℕ) (word : Word) → RootAt program gs w.made root path b o (Whole inner) → GoesTo w.made path v inner
      → i < word_count inner → value_words inner v ≡ spliced i (Some word ∷ [])
      (value_words inner (contents_in w (record {
        root = root;
        path = path;
      }))) → store (memory_of program w gs scratch) b (o + 4 * i) word
      ≡ Some (memory_of program (with_contents w (record {
        root = root;
        path = path;
      }) v) gs scratch)
  word_cases scratch (Declared name) path b o inner v i word at h l ws = part_word_written program
      (memory_of program w gs scratch) w gs w.next name path b o inner v i word refl holds.fits holds.names at h l ws
  word_cases scratch (Made object) path b o inner v i word at h l ws = object_word_written program w gs
      (memory_of program w gs scratch) object path b o inner v i word refl holds.objects at h l ws

  -- one word of a spot is replaced
  pub spot_word_written : (scratch : List Living) (s : Spot) (b : Block) (o : ℕ) (inner : Shape) (v : Value) (i : ℕ)
      (word : Word) → PlaceAt program gs w.made s b o (Whole inner) → GoesTo w.made s.path v inner
      → i < word_count inner → value_words inner v ≡ spliced i (Some word ∷ []) (value_words inner (contents_in w s))
      → store (memory_of program w gs scratch) b (o + 4 * i) word ≡ Some
      (memory_of program (with_contents w s v) gs scratch)
  spot_word_written scratch s b o inner v i word at h l ws = word_cases scratch s.root s.path b o inner v i word at h l
      ws

  hold_cases : (root : Root) (path : List ℕ) (b : Block) (o : ℕ) (inner : Shape) (v : Value)
      → RootAt program gs w.made root path b o (Whole inner) → GoesTo w.made path v inner → Holds program gs
      (with_contents w (record {
        root = root;
        path = path;
      }) v) count
  hold_cases (Declared name) path b o inner v at h = record {
    fits = part_fits program w gs w.next name path b o inner v holds.fits holds.names at h;
    objects = holds.objects;
    names = holds.names;
    numbered = holds.numbered;
    input = holds.input;
  }
  hold_cases (Made object) path b o inner v at h = record {
    fits = holds.fits;
    objects = object_kept program w gs object path b o inner v holds.objects at h;
    names = holds.names;
    numbered = holds.numbered;
    input = holds.input;
  }

  -- and the relation holds for the world after
  pub spot_holds : (s : Spot) (b : Block) (o : ℕ) (inner : Shape) (v : Value) → PlaceAt program gs w.made s b o
      (Whole inner) → GoesTo w.made s.path v inner → Holds program gs (with_contents w s v) count
  spot_holds s b o inner v at h = hold_cases s.root s.path b o inner v at h
