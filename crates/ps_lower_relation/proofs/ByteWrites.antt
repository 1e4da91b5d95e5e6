-- A component of a packed array whose components are bytes gets a value.
use Rattle.std.proofs.Common.{◌≡◌, ℕ, zero, suc, ◌+◌, ◌-◌, ◌*◌, ◌/◌, ◌%◌, ◌^◌, ◌<◌, ℤ, pos, Bool, true, false, nat_eq}
use Rattle.std.proofs.Common.{if◌then◌else◌, IsTrue, List, [], ◌∷◌, ◌++◌, length, Option, Some, slice_get, slice_set}
use Rattle.std.proofs.Common.{refl, sym, ap, ◌∙◌, subst, arith}
use Rattle.ps_tree.specs.Tree.{Program}
use Rattle.tac_code.specs.declared.code.Block.{Block}
use Rattle.tac_code.specs.declared.code.Block.TheVariants.{Frame as FrameBlock, Scratch as ScratchBlock, Object}
use Rattle.tac_code.specs.declared.code.Block.TheVariants.{Constant}
use Rattle.tac_code.specs.declared.code.Value.{Value as Word}
use Rattle.tac_code.specs.declared.code.Value.TheVariants.{Number}
use Rattle.tac_code.specs.Numbers.{number_of as number_of_word, with_byte}
use Rattle.tac_code.specs.Memory.{Words, Living, Memory, Constants, known, constant_words, changed_byte, with_value}
use Rattle.tac_code.specs.Memory.{with_byte_at, with_word, word_at, value_in, living, changed, behind, instead}
use Rattle.tac_code.specs.Memory.{changed_object, behind_object, instead_object, with_frames, with_scratch}
use Rattle.tac_code.specs.Memory.{with_objects, load, store, store_byte}
use Rattle.ps_meaning.specs.Values.{Value, OrdinalValue, NilValue, ObjectValue, SetValue, StructureValue, Values}
use Rattle.ps_meaning.specs.Values.{no_value, value_before, with_nth, component, with_component, part}
use Rattle.ps_meaning.specs.Values.{with_part, Spot, number_of}
use Rattle.ps_meaning.specs.Operators.{is_between}
use Rattle.ps_meaning.specs.Worlds.{World, value_at_root, contents_in, with_root, with_contents}
use Rattle.tac_code_steps.specs.Splices.{spliced}
use Rattle.tac_code_steps.proofs.Splices.{set_spliced}
use Rattle.tac_code_steps.proofs.Blocks.{word_read, word_written}
use Rattle.tac_code_steps.proofs.Pieces.{some_none}
use Rattle.ps_lower_layout.specs.Shapes.{ByteShape, Byte}
use Rattle.ps_lower_layout.specs.Words.{filled, byte_of, bytes_of, value_words}
use Rattle.ps_lower_layout.specs.Paths.{AreByteValues, HasShape}
use Rattle.ps_lower_layout.proofs.Counted.{bytes_length}
use Rattle.ps_lower_relation.specs.Ghosts.{Ghost, PlaceAt, Holds}
use Rattle.ps_lower_relation.proofs.Spans.{goes_to}
use Rattle.ps_lower_relation.proofs.Bytes.{AreBytes, first_byte, other_bytes, four, word_back}
use Rattle.ps_lower_relation.proofs.ByteParts.{bytes_small, byte_place}
use Rattle.ps_lower_relation.proofs.Spots.{memory_of, spot_value, spot_read, spot_holds, spot_word_written}

-- ---- a byte of a word

module _ (a b c d x : ℕ) (ha : a < 256) (hb : b < 256) (hc : c < 256) (hd : d < 256) where
  whole : four a b c d < 2 ^ 32
  whole = omega (arith, ha, hb, hc, hd)

  pub set_0 : with_byte (number_of_word (four a b c d)) 0 x ≡ number_of_word (four x b c d)
  set_0 =
      let q : four a b c d / 1 % 256 ≡ a = omega (arith, ha, hb, hc, hd) in
      let r : four a b c d - a * 1 + x * 1 ≡ four x b c d = omega arith in
      ap (λ u. number_of_word (u - u / 1 % 256 * 1 + x * 1)) (word_back (four a b c d) whole)
      ∙ ap (λ u. number_of_word (four a b c d - u * 1 + x * 1)) q ∙ ap number_of_word r

  pub set_1 : with_byte (number_of_word (four a b c d)) 1 x ≡ number_of_word (four a x c d)
  set_1 =
      let q : four a b c d / 256 % 256 ≡ b = omega (arith, ha, hb, hc, hd) in
      let r : four a b c d - b * 256 + x * 256 ≡ four a x c d = omega arith in
      ap (λ u. number_of_word (u - u / 256 % 256 * 256 + x * 256)) (word_back (four a b c d) whole)
      ∙ ap (λ u. number_of_word (four a b c d - u * 256 + x * 256)) q ∙ ap number_of_word r

  pub set_2 : with_byte (number_of_word (four a b c d)) 2 x ≡ number_of_word (four a b x d)
  set_2 =
      let q : four a b c d / 65536 % 256 ≡ c = omega (arith, ha, hb, hc, hd) in
      let r : four a b c d - c * 65536 + x * 65536 ≡ four a b x d = omega arith in
      ap (λ u. number_of_word (u - u / 65536 % 256 * 65536 + x * 65536)) (word_back (four a b c d) whole)
      ∙ ap (λ u. number_of_word (four a b c d - u * 65536 + x * 65536)) q ∙ ap number_of_word r

  pub set_3 : with_byte (number_of_word (four a b c d)) 3 x ≡ number_of_word (four a b c x)
  set_3 =
      let q : four a b c d / 16777216 % 256 ≡ d = omega (arith, ha, hb, hc, hd) in
      let r : four a b c d - d * 16777216 + x * 16777216 ≡ four a b c x = omega arith in
      ap (λ u. number_of_word (u - u / 16777216 % 256 * 16777216 + x * 16777216)) (word_back (four a b c d) whole)
      ∙ ap (λ u. number_of_word (four a b c d - u * 16777216 + x * 16777216)) q ∙ ap number_of_word r

-- The word of byte k of a list, and the list's words with another byte there.
pub record WordSet (words new : Words) (k x : ℕ) : Type 0 where
  pub z : ℤ
  pub there : slice_get words (k / 4) ≡ Some (Some (Number z))
  pub is : new ≡ spliced (k / 4) (Some (Number (with_byte z (k % 4) x)) ∷ []) words

first_set : (k x : ℕ) (m m' : ℕ) (ws : Words) → k < 4 → with_byte (number_of_word m) k x ≡ number_of_word m' → WordSet
    (Some (Number (number_of_word m)) ∷ ws) (Some (Number (number_of_word m')) ∷ ws) k x
first_set k x m m' ws l e =
    let q : k / 4 ≡ 0 = omega (arith, l) in
    let r : k % 4 ≡ k = omega (arith, l) in
    record {
      z = number_of_word m;
      there = ap (slice_get (Some (Number (number_of_word m)) ∷ ws)) q;
      is = ap (λ y. Some (Number y) ∷ ws) (sym e) ∙ ap (λ i. Some (Number (with_byte (number_of_word m) i x)) ∷ ws)
          (sym r) ∙ ap (λ i. spliced i (Some (Number (with_byte (number_of_word m) (k % 4) x)) ∷ [])
          (Some (Number (number_of_word m)) ∷ ws)) (sym q);
    }

pub bytes_set : (bs : List ℕ) (k x : ℕ) → AreBytes bs → k < length bs → WordSet (constant_words (filled bs))
    (constant_words (filled (slice_set bs k x))) k x
bytes_set [] k x h l = absurd (omega arith)
bytes_set (a ∷ []) zero x h l = first_set 0 x (four a 0 0 0) (four x 0 0 0) [] (omega arith)
    (set_0 a 0 0 0 x (first_byte a [] h) (omega arith) (omega arith) (omega arith))
bytes_set (a ∷ []) (suc k) x h l = absurd (omega arith)
bytes_set (a ∷ b ∷ []) k x h l = two k l
  where
    h1 : AreBytes (b ∷ [])
    h1 = other_bytes a (b ∷ []) h

    two : (k : ℕ) → k < length (a ∷ b ∷ []) → WordSet (constant_words (filled (a ∷ b ∷ [])))
        (constant_words (filled (slice_set (a ∷ b ∷ []) k x))) k x
    two zero l = first_set 0 x (four a b 0 0) (four x b 0 0) [] (omega arith)
        (set_0 a b 0 0 x (first_byte a (b ∷ []) h) (first_byte b [] h1) (omega arith) (omega arith))
    two (suc zero) l = first_set 1 x (four a b 0 0) (four a x 0 0) [] (omega arith)
        (set_1 a b 0 0 x (first_byte a (b ∷ []) h) (first_byte b [] h1) (omega arith) (omega arith))
    two (suc (suc k)) l = absurd (omega arith)
bytes_set (a ∷ b ∷ c ∷ []) k x h l = three k l
  where
    h1 : AreBytes (b ∷ c ∷ [])
    h1 = other_bytes a (b ∷ c ∷ []) h

    h2 : AreBytes (c ∷ [])
    h2 = other_bytes b (c ∷ []) h1

    three : (k : ℕ) → k < length (a ∷ b ∷ c ∷ []) → WordSet (constant_words (filled (a ∷ b ∷ c ∷ [])))
        (constant_words (filled (slice_set (a ∷ b ∷ c ∷ []) k x))) k x
    three zero l = first_set 0 x (four a b c 0) (four x b c 0) [] (omega arith)
        (set_0 a b c 0 x (first_byte a (b ∷ c ∷ []) h) (first_byte b (c ∷ []) h1) (first_byte c [] h2) (omega arith))
    three (suc zero) l = first_set 1 x (four a b c 0) (four a x c 0) [] (omega arith)
        (set_1 a b c 0 x (first_byte a (b ∷ c ∷ []) h) (first_byte b (c ∷ []) h1) (first_byte c [] h2) (omega arith))
    three (suc (suc zero)) l = first_set 2 x (four a b c 0) (four a b x 0) [] (omega arith)
        (set_2 a b c 0 x (first_byte a (b ∷ c ∷ []) h) (first_byte b (c ∷ []) h1) (first_byte c [] h2) (omega arith))
    three (suc (suc (suc k))) l = absurd (omega arith)
bytes_set (a ∷ b ∷ c ∷ d ∷ rest) k x h l = all k l (λ j q. bytes_set rest j x (other_bytes d rest h3) q)
  where
    h1 : AreBytes (b ∷ c ∷ d ∷ rest)
    h1 = other_bytes a (b ∷ c ∷ d ∷ rest) h

    h2 : AreBytes (c ∷ d ∷ rest)
    h2 = other_bytes b (c ∷ d ∷ rest) h1

    h3 : AreBytes (d ∷ rest)
    h3 = other_bytes c (d ∷ rest) h2

    la : a < 256
    la = first_byte a (b ∷ c ∷ d ∷ rest) h

    lb : b < 256
    lb = first_byte b (c ∷ d ∷ rest) h1

    lc : c < 256
    lc = first_byte c (d ∷ rest) h2

    ld : d < 256
    ld = first_byte d rest h3

    W : Option Word
    W = Some (Number (number_of_word (four a b c d)))

    ws : Words
    ws = constant_words (filled rest)

    all : (k : ℕ) → k < length (a ∷ b ∷ c ∷ d ∷ rest)
        → ((j : ℕ) → j < length rest → WordSet ws (constant_words (filled (slice_set rest j x))) j x) → WordSet
        (constant_words (filled (a ∷ b ∷ c ∷ d ∷ rest)))
        (constant_words (filled (slice_set (a ∷ b ∷ c ∷ d ∷ rest) k x))) k x
    all zero l r = first_set 0 x (four a b c d) (four x b c d) ws (omega arith) (set_0 a b c d x la lb lc ld)
    all (suc zero) l r = first_set 1 x (four a b c d) (four a x c d) ws (omega arith) (set_1 a b c d x la lb lc ld)
    all (suc (suc zero)) l r = first_set 2 x (four a b c d) (four a b x d) ws (omega arith)
        (set_2 a b c d x la lb lc ld)
    all (suc (suc (suc zero))) l r = first_set 3 x (four a b c d) (four a b c x) ws (omega arith)
        (set_3 a b c d x la lb lc ld)
    all (suc (suc (suc (suc j)))) l r =
        let s = r j (omega arith) in
        let q : suc (suc (suc (suc j))) / 4 ≡ suc (j / 4) = omega arith in
        let m : suc (suc (suc (suc j))) % 4 ≡ j % 4 = omega arith in
        record {
          z = s.z;
          there = ap (slice_get (W ∷ ws)) q ∙ s.there;
          is = ap (λ l. W ∷ l) s.is ∙ ap (λ i. W ∷ spliced (j / 4) (Some (Number (with_byte s.z i x)) ∷ []) ws) (sym m)
              ∙ ap (λ i. spliced i (Some (Number (with_byte s.z (suc (suc (suc (suc j))) % 4) x)) ∷ []) (W ∷ ws))
              (sym q);
        }

-- ---- values

bytes_with : (n k : ℕ) (vs : Values) (u : Value) → AreByteValues n vs → k < n → bytes_of n (with_nth vs k u) ≡ slice_set
    (bytes_of n vs) k (byte_of u)
bytes_with zero k vs u h l = absurd (omega arith)
bytes_with (suc n) k no_value u h l = absurd h
bytes_with (suc n) zero (value_before v vs) u h l = refl
bytes_with (suc n) (suc k) (value_before v vs) u h l = ap (λ bs. byte_of v ∷ bs)
    (bytes_with n k vs u h.1 (omega (arith, l)))

values_with : (n k : ℕ) (vs : Values) (u : Value) → AreByteValues n vs → IsTrue
    (is_between (pos 0) (number_of u) (pos 255)) → AreByteValues n (with_nth vs k u)
values_with zero k no_value u h b = tt
values_with zero k (value_before v vs) u h b = absurd h
values_with (suc n) k no_value u h b = absurd h
values_with (suc n) zero (value_before v vs) u h b = (b, h.1)
values_with (suc n) (suc k) (value_before v vs) u h b = (h.0, values_with n k vs u h.1 b)

-- ---- blocks

changed_same : (bs : List Living) (a : ℕ) (f g : Words → Option Words)
    → ((ws : Words) → living bs a ≡ Some ws → f ws ≡ g ws) → changed bs a f ≡ changed bs a g
changed_same [] a f g h = refl
changed_same (b ∷ bs) a f g h = go (nat_eq b.number a) refl h (λ q. changed_same bs a f g q)
  where
    go : (t : Bool) → nat_eq b.number a ≡ t → ((ws : Words) → (if nat_eq b.number a then Some b.words else living bs a)
        ≡ Some ws → f ws ≡ g ws) → (((ws : Words) → living bs a ≡ Some ws → f ws ≡ g ws) → changed bs a f
        ≡ changed bs a g) → (if nat_eq b.number a then instead b bs (f b.words) else behind b (changed bs a f))
        ≡ (if nat_eq b.number a then instead b bs (g b.words) else behind b (changed bs a g))
    go true e q r =
        ap (λ t. if t then instead b bs (f b.words) else behind b (changed bs a f)) e
        ∙ ap (instead b bs) (q b.words (ap (λ t. if t then Some b.words else living bs a) e))
        ∙ ap (λ t. if t then instead b bs (g b.words) else behind b (changed bs a g)) (sym e)
    go false e q r =
        ap (λ t. if t then instead b bs (f b.words) else behind b (changed bs a f)) e
        ∙ ap (behind b) (r (λ ws y. q ws (ap (λ t. if t then Some b.words else living bs a) e ∙ y)))
        ∙ ap (λ t. if t then instead b bs (g b.words) else behind b (changed bs a g)) (sym e)

object_same : (bs : List Words) (a : ℕ) (f g : Words → Option Words)
    → ((ws : Words) → slice_get bs a ≡ Some ws → f ws ≡ g ws) → changed_object bs a f ≡ changed_object bs a g
object_same [] a f g h = refl
object_same (b ∷ bs) zero f g h = ap (instead_object bs) (h b refl)
object_same (b ∷ bs) (suc a) f g h = ap (behind_object b) (object_same bs a f g h)

inside_words : (ws : Words) (q : ℕ) (v : Word) → known (slice_get ws q) ≡ Some v → q < length ws
inside_words [] q v e = some_none e
inside_words (w ∷ ws) zero v e = omega arith
inside_words (w ∷ ws) (suc q) v e = let r = inside_words ws q v e in omega (arith, r)

-- a byte that is stored is a word that is stored
byte_word : (ws : Words) (q r x : ℕ) (z : ℤ) → r < 4 → word_at ws (4 * q) ≡ Some (Number z) → with_byte_at ws
    (4 * q + r) x ≡ with_word ws (4 * q) (Number (with_byte z r x))
byte_word ws q r x z l e =
    let at = sym (word_read ws q) ∙ e in
    let i : (4 * q + r) / 4 ≡ q = omega (arith, l) in
    let j : (4 * q + r) % 4 ≡ r = omega (arith, l) in
    ap (λ k. with_value ws k (changed_byte (known (slice_get ws k)) ((4 * q + r) % 4) x)) i
    ∙ ap (λ k. with_value ws q (changed_byte (known (slice_get ws q)) k x)) j
    ∙ ap (λ o. with_value ws q (changed_byte o r x)) at
    ∙ ap Some (set_spliced ws q (Some (Number (with_byte z r x))))
    ∙ sym (word_written ws q (Number (with_byte z r x)) (inside_words ws q (Number z) at))

pub byte_stored : (constants : Constants) (m : Memory) (b : Block) (q r x : ℕ) (z : ℤ) → r < 4 → load constants m b
    (4 * q) ≡ Some (Number z) → store_byte m b (4 * q + r) x ≡ store m b (4 * q) (Number (with_byte z r x))
byte_stored constants m (FrameBlock a) q r x z l e = ap (with_frames m)
    (changed_same m.frames a (λ ws. with_byte_at ws (4 * q + r) x)
    (λ ws. with_word ws (4 * q) (Number (with_byte z r x)))
    (λ ws h. byte_word ws q r x z l (ap (λ o. value_in o (4 * q)) (sym h) ∙ e)))
byte_stored constants m (ScratchBlock a) q r x z l e = ap (with_scratch m)
    (changed_same m.scratch a (λ ws. with_byte_at ws (4 * q + r) x)
    (λ ws. with_word ws (4 * q) (Number (with_byte z r x)))
    (λ ws h. byte_word ws q r x z l (ap (λ o. value_in o (4 * q)) (sym h) ∙ e)))
byte_stored constants m (Object a) q r x z l e = ap (with_objects m)
    (object_same m.objects a (λ ws. with_byte_at ws (4 * q + r) x)
    (λ ws. with_word ws (4 * q) (Number (with_byte z r x)))
    (λ ws h. byte_word ws q r x z l (ap (λ o. value_in o (4 * q)) (sym h) ∙ e)))
byte_stored constants m (Constant i j) q r x z l e = refl

-- ---- a byte that is a variable

with_part_more : (v : Value) (path : List ℕ) (k : ℕ) (u : Value) → with_part v (path ++ k ∷ []) u ≡ with_part v path
    (with_component (part v path) k u)
with_part_more v [] k u = refl
with_part_more v (l ∷ path) k u = ap (λ z. with_component v l z) (with_part_more (component v l) path k u)

module _ (program : Program) (w : World) (gs : List Ghost) (count : ℕ) (holds : Holds program gs w count) where
  record ByteSet (v : Value) (n k x : ℕ) (first : ℤ) (u : Value) : Type 0 where
    pub words : WordSet (value_words (ByteShape n first) v) (value_words (ByteShape n first) (with_component v k u)) k x
    pub fits : HasShape w.made (with_component v k u) (ByteShape n first)

  component_set : (v : Value) (n k : ℕ) (first : ℤ) (u : Value) → HasShape w.made v (ByteShape n first) → k < n → IsTrue
      (is_between (pos 0) (number_of u) (pos 255)) → ByteSet v n k (byte_of u) first u
  component_set (StructureValue vs) n k first u h l b =
      let s = bytes_set (bytes_of n vs) k (byte_of u) (bytes_small n vs)
      (let e = bytes_length n vs in omega (arith, e, l)) in
      record {
        words = record {
          z = s.z;
          there = s.there;
          is = ap (λ bs. constant_words (filled bs)) (bytes_with n k vs u h l) ∙ s.is;
        };
        fits = values_with n k vs u h b;
      }
  component_set (OrdinalValue z) n k first u h l b = absurd h
  component_set NilValue n k first u h l b = absurd h
  component_set (ObjectValue z) n k first u h l b = absurd h
  component_set (SetValue z) n k first u h l b = absurd h

  pub spot_byte_written : (constants : Constants) (scratch : List Living) (s : Spot) (b : Block) (o : ℕ) (u : Value)
      → PlaceAt program gs w.made s b o Byte → IsTrue (is_between (pos 0) (number_of u) (pos 255)) → store_byte
      (memory_of program w gs scratch) b o (byte_of u) ≡ Some (memory_of program (with_contents w s u) gs scratch)
  spot_byte_written constants scratch s b o u h between =
      let r = byte_place program w gs count holds s b o h in
      let whole : Spot = record { root = s.root; path = r.before } in
      let k = r.number in
      let shape = ByteShape r.length_ r.first in
      let v = contents_in w whole in
      let set = component_set v r.length_ k r.first u
      (spot_value program w gs count holds whole b (4 * r.start) shape r.place) r.below between in
      let below = r.below in
      let at = r.at in
      let m = memory_of program w gs scratch in
      let e : o ≡ 4 * (r.start + k / 4) + k % 4 = omega (arith, at) in
      let f : 4 * (r.start + k / 4) ≡ 4 * r.start + 4 * (k / 4) = omega arith in
      let loaded : load constants m b (4 * (r.start + k / 4)) ≡ Some (Number set.words.z) = ap (load constants m b) f
      ∙ spot_read program w gs count holds constants scratch whole b (4 * r.start) shape (k / 4) r.place
      (omega (arith, below)) ∙ ap known set.words.there in
      let word = Number (with_byte set.words.z (k % 4) (byte_of u)) in
      let same : with_contents w s u ≡ with_contents w whole
      (with_component v k u) = ap (λ path. with_root w s.root (with_part (value_at_root w s.root) path u)) r.is
      ∙ ap (with_root w s.root) (with_part_more (value_at_root w s.root) r.before k u) in
      ap (λ i. store_byte m b i (byte_of u)) e
      ∙ byte_stored constants m b (r.start + k / 4) (k % 4) (byte_of u) set.words.z (omega arith) loaded
      ∙ ap (λ i. store m b i word) f
      ∙ spot_word_written program w gs count holds scratch whole b (4 * r.start) shape (with_component v k u)
      (k / 4) word r.place (goes_to w.made whole.path (with_component v k u) shape set.fits tt)
      (omega (arith, below)) set.words.is
      ∙ ap (λ y. Some (memory_of program y gs scratch)) (sym same)

  pub spot_byte_holds : (s : Spot) (b : Block) (o : ℕ) (u : Value) → PlaceAt program gs w.made s b o Byte → IsTrue
      (is_between (pos 0) (number_of u) (pos 255)) → Holds program gs (with_contents w s u) count
  spot_byte_holds s b o u h between =
      let r = byte_place program w gs count holds s b o h in
      let whole : Spot = record { root = s.root; path = r.before } in
      let k = r.number in
      let shape = ByteShape r.length_ r.first in
      let v = contents_in w whole in
      let set = component_set v r.length_ k r.first u
      (spot_value program w gs count holds whole b (4 * r.start) shape r.place) r.below between in
      let same : with_contents w s u ≡ with_contents w whole
      (with_component v k u) = ap (λ path. with_root w s.root (with_part (value_at_root w s.root) path u)) r.is
      ∙ ap (with_root w s.root) (with_part_more (value_at_root w s.root) r.before k u) in
      subst (λ y. Holds program gs y count) (sym same)
      (spot_holds program w gs count holds whole b (4 * r.start) shape (with_component v k u) r.place
      (goes_to w.made whole.path (with_component v k u) shape set.fits tt))
