-- Copies between an array and components of another one (6.6.5.4).
use Rattle.std.proofs.Common.{◌≡◌, ◌⊎◌, inl, inr, ℕ, ◌+◌, ◌*◌, ◌/◌, ◌<◌, ◌≤◌, ℤ, pos, Bool, true, List, [], length}
use Rattle.std.proofs.Common.{slice_get, Some, refl, sym, ap, ◌∙◌, subst, arith, add-mul}
use Rattle.tac_code.specs.declared.code.Block.{Block}
use Rattle.tac_code.specs.declared.code.Value.TheVariants.{Number}
use Rattle.tac_code.specs.Memory.{Words, Living, Memory, known, value_in, load}
use Rattle.tac_code.specs.Meaning.{text_at}
use Rattle.ps_meaning.specs.Values.{Value, OrdinalValue, NilValue, ObjectValue, SetValue, StructureValue, Values}
use Rattle.ps_meaning.specs.Values.{components_of, values_from, first_values, with_values, Spot}
use Rattle.ps_meaning.specs.Worlds.{World, contents_in, with_contents}
use Rattle.tac_code_steps.specs.Splices.{spliced}
use Rattle.tac_code_steps.proofs.Splices.{spliced_before, spliced_behind}
use Rattle.ps_lower_layout.specs.Shapes.{Shape, NumberShape, ByteShape, ArrayShape, word_count, Whole}
use Rattle.ps_lower_layout.specs.Words.{bytes_of, each, value_words}
use Rattle.ps_lower_layout.specs.Paths.{AreByteValues, HasShape, HaveShape}
use Rattle.ps_lower_layout.proofs.Counted.{counted, bytes_length}
use Rattle.ps_lower_relation.specs.Ghosts.{Ghost, PlaceAt, Holds}
use Rattle.ps_lower_relation.specs.Here.{Setting, code_in}
use Rattle.ps_lower_relation.specs.RunTime.{CopiedUp, PackedUp, UnpackedUp}
use Rattle.ps_lower_relation.proofs.Spans.{nested, spliced_self, goes_to}
use Rattle.ps_lower_relation.proofs.Spots.{memory_of, spot_value, spot_read}
use Rattle.ps_lower_relation.proofs.Blocks.{with_block, same_or_other, block_now, block_other, block_same, word_there}
use Rattle.ps_lower_relation.proofs.Apart.{Beside, places_beside}
use Rattle.ps_lower_relation.proofs.Stretches.{StretchAt, spot_stretch, value_written}
use Rattle.ps_lower_relation.proofs.Copied.{copied_from}
use Rattle.ps_lower_relation.proofs.ByteParts.{array_bytes, bytes_small}
use Rattle.ps_lower_relation.proofs.Components.{taken_fits, taken_words, replaced_fits, replaced_words, bytes_fit}
use Rattle.ps_lower_relation.proofs.Components.{numbers_bytes, byte_words}
use Rattle.ps_lower_relation.proofs.Unpacked.{byte_within, unpacked_from}
use Rattle.ps_lower_relation.proofs.BytesPacked.{having, NumberSources, replaced_bytes, all_replaced, packed_up}

array_values : (made : List ℕ) (v : Value) (n : ℕ) (shape : Shape) → HasShape made v (ArrayShape n shape)
    → HaveShape made (components_of v) n shape
array_values made (StructureValue vs) n shape h = h
array_values made (OrdinalValue z) n shape h = absurd h
array_values made NilValue n shape h = absurd h
array_values made (ObjectValue z) n shape h = absurd h
array_values made (SetValue z) n shape h = absurd h

string_values : (made : List ℕ) (v : Value) (n : ℕ) (first : ℤ) → HasShape made v (ByteShape n first) → AreByteValues n
    (components_of v)
string_values made (StructureValue vs) n first h = h
string_values made (OrdinalValue z) n first h = absurd h
string_values made NilValue n first h = absurd h
string_values made (ObjectValue z) n first h = absurd h
string_values made (SetValue z) n first h = absurd h

abbrev count_in : Shape → ℕ
count_in (ArrayShape n shape) = n
count_in shape = 0

-- this many components before and after n of them
products : (k n r c : ℕ) → (k + (n + r)) * c ≡ k * c + (n * c + r * c)
products k n r c = let a = add-mul k (n + r) c in let b = add-mul n r c in omega (arith, a, b)

-- the components from k on, and all of them
abbrev pub taken : ℕ → ℕ → Value → Value
taken k n v = StructureValue (first_values n (values_from (components_of v) k))

abbrev pub replaced : ℕ → Value → Value → Value
replaced k old v = StructureValue (with_values (components_of old) k (components_of v))

module _ (p : Setting) (w : World) (gs : List Ghost) (count : ℕ) (holds : Holds p.program gs w count)
    (scratch : List Living) (s : Spot) (b : Block) (o : ℕ) where
  abbrev memory : Memory
  memory = memory_of p.program w gs scratch

  abbrev after : Value → Memory
  after v = memory_of p.program (with_contents w s v) gs scratch

  -- an array gets n components of another one
  module _ (k n r : ℕ) (shape : Shape) (at : PlaceAt p.program gs w.made s b o (Whole (ArrayShape n shape))) (t : Spot)
      (c : Block) (f : ℕ) (source : PlaceAt p.program gs w.made t c f (Whole (ArrayShape (k + (n + r)) shape))) where
    taken_to : StretchAt p.program w gs count holds (text_at (code_in p)) scratch s b o (ArrayShape n shape)
    taken_to = spot_stretch p.program w gs count holds (text_at (code_in p)) scratch s b o (ArrayShape n shape) at

    taken_source : StretchAt p.program w gs count holds (text_at (code_in p)) scratch t c f
        (ArrayShape (k + (n + r)) shape)
    taken_source = spot_stretch p.program w gs count holds (text_at (code_in p)) scratch t c f
        (ArrayShape (k + (n + r)) shape) source

    abbrev v : Value
    v = contents_in w t

    abbrev each_bytes : ℕ
    each_bytes = word_count shape

    pub taken_shape : HasShape w.made (taken k n v) (ArrayShape n shape)
    taken_shape = taken_fits w.made shape k n r (components_of v)
        (array_values w.made v (k + (n + r)) shape
        (spot_value p.program w gs count holds t c f (ArrayShape (k + (n + r)) shape) source))

    taken_read : (i : ℕ) → i < n * each_bytes → load (text_at (code_in p)) memory c
        (4 * (taken_source.start + k * each_bytes + i)) ≡ known
        (slice_get (value_words (ArrayShape n shape) (taken k n v)) i)
    taken_read i l =
        let wide = products k n r each_bytes in
        let is = taken_source.is in
        let e : 4 * (taken_source.start + k * each_bytes + i) ≡ f + 4 * (k * each_bytes + i) = omega (arith, is) in
        ap (load (text_at (code_in p)) memory c) e
        ∙ spot_read p.program w gs count holds (text_at (code_in p)) scratch t c f (ArrayShape (k + (n + r)) shape)
        (k * each_bytes + i) source (omega (arith, l, wide))
        ∙ ap known (taken_words shape k n r i (components_of v) l)

    taken_side : c ≡ b → (taken_source.start + k * each_bytes ≡ taken_to.start)
        ⊎ ((taken_source.start + k * each_bytes + n * each_bytes ≤ taken_to.start)
        ⊎ (taken_to.start + n * each_bytes ≤ taken_source.start + k * each_bytes))
    taken_side e = go (places_beside p.program gs w count holds (ArrayShape n shape)
        (ArrayShape (k + (n + r)) shape) refl s t b o f at
        (subst (λ d. PlaceAt p.program gs w.made t d f (Whole (ArrayShape (k + (n + r)) shape))) e source))
      where
        go : Beside (ArrayShape n shape) (ArrayShape (k + (n + r)) shape) o f
            → (taken_source.start + k * each_bytes ≡ taken_to.start)
            ⊎ ((taken_source.start + k * each_bytes + n * each_bytes ≤ taken_to.start)
            ⊎ (taken_to.start + n * each_bytes ≤ taken_source.start + k * each_bytes))
        go (inl h) =
            let size = ap count_in h.0 in
            let none : k ≡ 0 = omega (arith, size) in
            let nothing : k * each_bytes ≡ 0 * each_bytes = ap (λ z. z * each_bytes) none in
            let x = taken_source.is in
            let y = taken_to.is in
            let same = h.1 in
            inl (omega (arith, nothing, x, y, same))
        go (inr (inl h)) = let x = taken_source.is in let y = taken_to.is in inr (inr (omega (arith, x, y, h)))
        go (inr (inr h)) = let x = taken_source.is in let y = taken_to.is in let wide = products k n r each_bytes in inr
            (inl (omega (arith, x, y, h, wide)))

    pub taken_copied : CopiedUp p memory b o c (f + 4 * (k * each_bytes)) (n * each_bytes) (after (taken k n v))
    taken_copied =
        let is = taken_source.is in
        let there : 4 * (taken_source.start + k * each_bytes) ≡ f + 4 * (k * each_bytes) = omega (arith, is) in
        let news = value_words (ArrayShape n shape) (taken k n v) in
        subst (λ place. CopiedUp p memory b place c (f + 4 * (k * each_bytes)) (n * each_bytes) (after (taken k n v)))
        (sym taken_to.is)
        (subst (λ start. CopiedUp p memory b (4 * taken_to.start) c start (n * each_bytes) (after (taken k n v))) there
        (subst (λ y. CopiedUp p memory b (4 * taken_to.start) c (4 * (taken_source.start + k * each_bytes))
        (n * each_bytes) y) (taken_to.writes (taken k n v)
        (goes_to w.made s.path (taken k n v) (ArrayShape n shape) taken_shape tt))
        (copied_from p memory b taken_to.words taken_to.can taken_to.there c news taken_to.start (n * each_bytes)
        (taken_source.start + k * each_bytes) taken_side (value_written (ArrayShape n shape) (taken k n v))
        (counted (ArrayShape n shape) (taken k n v)) taken_to.within taken_read)))

  -- n components of an array are replaced
  module _ (k n r : ℕ) (shape : Shape)
      (at : PlaceAt p.program gs w.made s b o (Whole (ArrayShape (k + (n + r)) shape))) where
    abbrev old : Value
    old = contents_in w s

    to : StretchAt p.program w gs count holds (text_at (code_in p)) scratch s b o (ArrayShape (k + (n + r)) shape)
    to = spot_stretch p.program w gs count holds (text_at (code_in p)) scratch s b o (ArrayShape (k + (n + r)) shape) at

    old_values : HaveShape w.made (components_of old) (k + (n + r)) shape
    old_values = array_values w.made old (k + (n + r)) shape
        (spot_value p.program w gs count holds s b o (ArrayShape (k + (n + r)) shape) at)

    abbrev room : ℕ
    room = word_count shape

    module _ (u : Value) (values : HaveShape w.made (components_of u) n shape) where
      pub replaced_shape : HasShape w.made (replaced k old u) (ArrayShape (k + (n + r)) shape)
      replaced_shape = replaced_fits w.made shape k n (k + (n + r)) (components_of old)
          (components_of u) old_values values

      abbrev news : Words
      news = each n (λ x. value_words shape x) (components_of u)

      wide : length news ≡ n * room
      wide = counted (ArrayShape n shape) u

      inside : to.start + k * room + n * room ≤ length to.words
      inside = let a = products k n r room in let b = to.within in omega (arith, a, b)

      replaced_memory : with_block memory b (spliced (to.start + k * room) news to.words) ≡ after (replaced k old u)
      replaced_memory =
          let long = counted (ArrayShape (k + (n + r)) shape) old in
          let within = to.within in
          let sizes = products k n r room in
          ap (with_block memory b)
          (sym (nested to.start (k * room) news (value_words (ArrayShape (k + (n + r)) shape) old) to.words
          (λ i l. to.reads i (omega (arith, l, long))) (omega (arith, long, within))
          (omega (arith, long, wide, sizes)))
          ∙ ap (λ ws. spliced to.start ws to.words)
          (sym (replaced_words w.made shape k n (k + (n + r)) (components_of old)
          (components_of u) old_values values (omega arith))))
          ∙ to.writes (replaced k old u) (goes_to w.made s.path (replaced k old u)
          (ArrayShape (k + (n + r)) shape) replaced_shape tt)

    -- by those of another array
    module _ (t : Spot) (c : Block) (f : ℕ)
        (source : PlaceAt p.program gs w.made t c f (Whole (ArrayShape n shape))) where
      abbrev u : Value
      u = contents_in w t

      from : StretchAt p.program w gs count holds (text_at (code_in p)) scratch t c f (ArrayShape n shape)
      from = spot_stretch p.program w gs count holds (text_at (code_in p)) scratch t c f (ArrayShape n shape) source

      pub values_there : HaveShape w.made (components_of u) n shape
      values_there = array_values w.made u n shape
          (spot_value p.program w gs count holds t c f (ArrayShape n shape) source)

      side : c ≡ b → (from.start ≡ to.start + k * room)
          ⊎ ((from.start + n * room ≤ to.start + k * room) ⊎ (to.start + k * room + n * room ≤ from.start))
      side e = go (places_beside p.program gs w count holds (ArrayShape (k + (n + r)) shape)
          (ArrayShape n shape) refl s t b o f at (subst
          (λ d. PlaceAt p.program gs w.made t d f (Whole (ArrayShape n shape))) e source))
        where
          go : Beside (ArrayShape (k + (n + r)) shape) (ArrayShape n shape) o f → (from.start ≡ to.start + k * room)
              ⊎ ((from.start + n * room ≤ to.start + k * room) ⊎ (to.start + k * room + n * room ≤ from.start))
          go (inl h) =
              let size = ap count_in h.0 in
              let none : k ≡ 0 = omega (arith, size) in
              let nothing : k * room ≡ 0 * room = ap (λ z. z * room) none in
              let x = from.is in
              let y = to.is in
              let same = h.1 in
              inl (omega (arith, nothing, x, y, same))
          go (inr (inl h)) = let x = from.is in let y = to.is in let sizes = products k n r room in inr
              (inr (omega (arith, x, y, h, sizes)))
          go (inr (inr h)) = let x = from.is in let y = to.is in inr (inl (omega (arith, x, y, h)))

      pub replaced_copied : CopiedUp p memory b (o + 4 * (k * room)) c f (n * room) (after (replaced k old u))
      replaced_copied =
          let is = to.is in
          let there : 4 * (to.start + k * room) ≡ o + 4 * (k * room) = omega (arith, is) in
          subst (λ place. CopiedUp p memory b place c f (n * room) (after (replaced k old u))) there
          (subst (λ start. CopiedUp p memory b (4 * (to.start + k * room)) c start (n * room)
          (after (replaced k old u))) (sym from.is)
          (subst (λ y. CopiedUp p memory b (4 * (to.start + k * room)) c (4 * from.start) (n * room) y)
          (replaced_memory u values_there)
          (copied_from p memory b to.words to.can to.there c (news u values_there) (to.start + k * room)
          (n * room) from.start side (value_written (ArrayShape n shape) u) (wide u values_there)
          (inside u values_there)
          (λ i l.
          let x = from.is in
          let e : 4 * (from.start + i) ≡ f + 4 * i = omega (arith, x) in
          ap (load (text_at (code_in p)) memory c) e ∙ spot_read p.program w gs count holds
          (text_at (code_in p)) scratch t c f (ArrayShape n shape) i source l))))

  -- and by bytes
  module _ (k n r : ℕ) (first first' : ℤ) (narrow : Bool)
      (at : PlaceAt p.program gs w.made s b o (Whole (ArrayShape (k + (n + r)) (NumberShape first narrow)))) (t : Spot)
      (c : Block) (f : ℕ) (source : PlaceAt p.program gs w.made t c f (Whole (ByteShape n first'))) where
    abbrev bytes_in : Value
    bytes_in = contents_in w t

    abbrev bytes : List ℕ
    bytes = bytes_of n (components_of bytes_in)

    byte_stretch : StretchAt p.program w gs count holds (text_at (code_in p)) scratch t c f (ByteShape n first')
    byte_stretch = spot_stretch p.program w gs count holds (text_at (code_in p)) scratch t c f
        (ByteShape n first') source

    abbrev numbers_to : StretchAt p.program w gs count holds (text_at (code_in p)) scratch s b o
        (ArrayShape (k + (n + r)) (NumberShape first narrow))
    numbers_to = to k n r (NumberShape first narrow) at

    are_bytes : AreByteValues n (components_of bytes_in)
    are_bytes = string_values w.made bytes_in n first'
        (spot_value p.program w gs count holds t c f (ByteShape n first') source)

    pub numbers_fit : HaveShape w.made (components_of bytes_in) n (NumberShape first narrow)
    numbers_fit = bytes_fit w.made n first narrow (components_of bytes_in) are_bytes

    byte_side : c ≡ b → (i : ℕ) → i < length bytes → ((f + i) / 4 < numbers_to.start + k * 1)
        ⊎ (numbers_to.start + k * 1 + length bytes ≤ (f + i) / 4)
    byte_side e i l = go (places_beside p.program gs w count holds (ArrayShape (k + (n + r)) (NumberShape first narrow))
        (ByteShape n first') refl s t b o f at (subst
        (λ d. PlaceAt p.program gs w.made t d f (Whole (ByteShape n first'))) e source))
      where
        no_array : (m : ℕ) {A : Type 0} → ArrayShape m (NumberShape first narrow) ≡ ByteShape n first' → A
        no_array m q = absurd (cc)

        go : Beside (ArrayShape (k + (n + r)) (NumberShape first narrow)) (ByteShape n first') o f
            → ((f + i) / 4 < numbers_to.start + k * 1) ⊎ (numbers_to.start + k * 1 + length bytes ≤ (f + i) / 4)
        go (inl h) = no_array (k + (n + r)) h.0
        go (inr (inl h)) = let y = numbers_to.is in let long = bytes_length n (components_of bytes_in) in inr
            (omega (arith, y, h, long))
        go (inr (inr h)) = let y = numbers_to.is in let x = byte_stretch.is in let long = bytes_length n
            (components_of bytes_in) in inl (omega (arith, x, y, h, long, l))

    pub replaced_unpacked : UnpackedUp p memory b (o + 4 * k) c f bytes (after (replaced k (contents_in w s) bytes_in))
    replaced_unpacked =
        let is = numbers_to.is in
        let there : 4 * (numbers_to.start + k * 1) ≡ o + 4 * k = omega (arith, is) in
        let long = bytes_length n (components_of bytes_in) in
        let whole : length (news k n r (NumberShape first narrow) at bytes_in numbers_fit) ≡ n * 1 = wide k n r
        (NumberShape first narrow) at bytes_in numbers_fit in
        let within : numbers_to.start + k * 1 + n * 1 ≤ length numbers_to.words = inside k n r
        (NumberShape first narrow) at bytes_in numbers_fit in
        subst (λ place. UnpackedUp p memory b place c f bytes (after (replaced k (contents_in w s) bytes_in))) there
        (subst (λ y. UnpackedUp p memory b (4 * (numbers_to.start + k * 1)) c f bytes y)
        (replaced_memory k n r (NumberShape first narrow) at bytes_in numbers_fit)
        (unpacked_from p memory b numbers_to.words numbers_to.can numbers_to.there c bytes
        (news k n r (NumberShape first narrow) at bytes_in numbers_fit) (numbers_to.start + k * 1) f byte_side
        (omega (arith, whole, long)) (omega (arith, within, long))
        (λ i byte e. byte_words n i byte first narrow (components_of bytes_in) are_bytes e)
        (λ i byte e. array_bytes p.program w gs count holds
        (text_at (code_in p)) scratch t c f n i byte first' source e)))

  -- an array of bytes gets n components of an array of numbers
  module _ (k n r : ℕ) (first first' : ℤ) (at : PlaceAt p.program gs w.made s b o (Whole (ByteShape n first')))
      (t : Spot) (c : Block) (f : ℕ)
      (source : PlaceAt p.program gs w.made t c f (Whole (ArrayShape (k + (n + r)) (NumberShape first true)))) where
    abbrev numbers_in : Value
    numbers_in = contents_in w t

    abbrev numbers : Values
    numbers = first_values n (values_from (components_of numbers_in) k)

    abbrev packed_bytes : List ℕ
    packed_bytes = bytes_of n numbers

    abbrev bytes_before : List ℕ
    bytes_before = bytes_of n (components_of (contents_in w s))

    abbrev bytes_to : StretchAt p.program w gs count holds (text_at (code_in p)) scratch s b o (ByteShape n first')
    bytes_to = spot_stretch p.program w gs count holds (text_at (code_in p)) scratch s b o (ByteShape n first') at

    abbrev numbers_from : StretchAt p.program w gs count holds (text_at (code_in p)) scratch t c f
        (ArrayShape (k + (n + r)) (NumberShape first true))
    numbers_from = spot_stretch p.program w gs count holds (text_at (code_in p)) scratch t c f
        (ArrayShape (k + (n + r)) (NumberShape first true)) source

    pub packed_shape : HasShape w.made (taken k n numbers_in) (ByteShape n first')
    packed_shape = numbers_bytes w.made n first numbers
        (taken_fits w.made (NumberShape first true) k n r (components_of numbers_in)
        (array_values w.made numbers_in (k + (n + r)) (NumberShape first true)
        (spot_value p.program w gs count holds t c f (ArrayShape (k + (n + r)) (NumberShape first true)) source)))

    packed_side : c ≡ b → (numbers_from.start + (k + (n + r)) ≤ bytes_to.start)
        ⊎ (bytes_to.start + (n + 3) / 4 ≤ numbers_from.start)
    packed_side e = go (places_beside p.program gs w count holds (ByteShape n first')
        (ArrayShape (k + (n + r)) (NumberShape first true)) refl s t b o f at
        (subst (λ d. PlaceAt p.program gs w.made t d f (Whole (ArrayShape (k + (n + r)) (NumberShape first true)))) e
        source))
      where
        no_array : (m : ℕ) {A : Type 0} → ByteShape n first' ≡ ArrayShape m (NumberShape first true) → A
        no_array m q = absurd (cc)

        go : Beside (ByteShape n first') (ArrayShape (k + (n + r)) (NumberShape first true)) o f
            → (numbers_from.start + (k + (n + r)) ≤ bytes_to.start)
            ⊎ (bytes_to.start + (n + 3) / 4 ≤ numbers_from.start)
        go (inl h) = no_array (k + (n + r)) h.0
        go (inr (inl h)) = let x = numbers_from.is in let y = bytes_to.is in inr (omega (arith, x, y, h))
        go (inr (inr h)) = let x = numbers_from.is in let y = bytes_to.is in inl (omega (arith, x, y, h))

    number_read : (i byte : ℕ) → slice_get packed_bytes i ≡ Some byte → load (text_at (code_in p)) memory c
        (f + 4 * k + 4 * i) ≡ Some (Number (pos byte))
    number_read i byte e =
        let l = byte_within packed_bytes i byte e in
        let long = bytes_length n numbers in
        let q : f + 4 * k + 4 * i ≡ f + 4 * (k * 1 + i) = omega arith in
        ap (load (text_at (code_in p)) memory c) q
        ∙ spot_read p.program w gs count holds (text_at (code_in p)) scratch t c f
        (ArrayShape (k + (n + r)) (NumberShape first true)) (k * 1 + i) source (omega (arith, l, long))
        ∙ ap known (taken_words (NumberShape first true) k n r i (components_of numbers_in) (omega (arith, l, long))
        ∙ byte_words n i byte first true numbers packed_shape e)

    number_sources : NumberSources p memory b bytes_to.words bytes_to.can bytes_to.there bytes_to.start
        ((n + 3) / 4) packed_bytes c (f + 4 * k)
    number_sources i byte e ws long = go (same_or_other b c bytes_to.can)
      where
        now : Memory
        now = with_block memory b (spliced bytes_to.start ws bytes_to.words)

        place : ℕ
        place = numbers_from.start + k + i

        stands : f + 4 * k + 4 * i ≡ 4 * place
        stands = let x = numbers_from.is in omega (arith, x)

        outside : (numbers_from.start + (k + (n + r)) ≤ bytes_to.start)
            ⊎ (bytes_to.start + (n + 3) / 4 ≤ numbers_from.start) → slice_get
            (spliced bytes_to.start ws bytes_to.words) place ≡ slice_get bytes_to.words place
        outside (inl h) = let l = byte_within packed_bytes i byte e in let count_ = bytes_length n numbers
            in spliced_before bytes_to.start ws bytes_to.words place (omega (arith, h, l, count_))
        outside (inr h) = spliced_behind bytes_to.start ws bytes_to.words place (omega (arith, h, long))

        go : (c ≡ b) ⊎ (c ≡ b → ⊥) → load (text_at (code_in p)) now c (f + 4 * k + 4 * i) ≡ Some (Number (pos byte))
        go (inr other) = ap (λ o. value_in o (f + 4 * k + 4 * i))
            (block_other (text_at (code_in p)) memory b c (spliced bytes_to.start ws bytes_to.words) other)
            ∙ number_read i byte e
        go (inl q) =
            ap (λ d. load (text_at (code_in p)) now d (f + 4 * k + 4 * i)) q
            ∙ ap (load (text_at (code_in p)) now b) stands
            ∙ word_there (text_at (code_in p)) now b (spliced bytes_to.start ws bytes_to.words) place
            (block_now (text_at (code_in p)) memory b bytes_to.words
            (spliced bytes_to.start ws bytes_to.words) bytes_to.can bytes_to.there)
            ∙ ap known (outside (packed_side q))
            ∙ sym (word_there (text_at (code_in p)) memory b bytes_to.words place bytes_to.there)
            ∙ ap (load (text_at (code_in p)) memory b) (sym stands)
            ∙ ap (λ d. load (text_at (code_in p)) memory d (f + 4 * k + 4 * i)) (sym q)
            ∙ number_read i byte e

    pub taken_packed : PackedUp p memory b o c (f + 4 * k) packed_bytes (after (taken k n numbers_in))
    taken_packed =
        let old = contents_in w s in
        let long = counted (ByteShape n first') old in
        let within = bytes_to.within in
        let is = bytes_to.is in
        let size_before = bytes_length n (components_of old) in
        let size = bytes_length n numbers in
        let begins : having p memory b bytes_to.words bytes_to.can bytes_to.there bytes_to.start bytes_before ≡ memory =
        ap (with_block memory b) (spliced_self bytes_to.start (value_words (ByteShape n first') old) bytes_to.words
        (λ i l. bytes_to.reads i (omega (arith, l, long))) (omega (arith, long, within)))
        ∙ block_same (text_at (code_in p)) memory b bytes_to.words bytes_to.can bytes_to.there in
        let ends : having p memory b bytes_to.words bytes_to.can bytes_to.there bytes_to.start
        (replaced_bytes bytes_before 0 packed_bytes) ≡ after (taken k n numbers_in) =
        ap (having p memory b bytes_to.words bytes_to.can bytes_to.there bytes_to.start)
        (all_replaced [] bytes_before packed_bytes 0 refl (size_before ∙ sym size))
        ∙ bytes_to.writes (taken k n numbers_in)
        (goes_to w.made s.path (taken k n numbers_in) (ByteShape n first') packed_shape tt) in
        subst (λ y. PackedUp p y b o c (f + 4 * k) packed_bytes (after (taken k n numbers_in))) begins
        (subst (λ y. PackedUp p (having p memory b bytes_to.words bytes_to.can bytes_to.there bytes_to.start
        bytes_before) b o c (f + 4 * k) packed_bytes y) ends
        (packed_up p memory b bytes_to.words bytes_to.can bytes_to.there bytes_to.start ((n + 3) / 4) packed_bytes 0 o c
        (f + 4 * k) bytes_before (bytes_small n (components_of old)) (bytes_small n numbers)
        (omega (arith, size_before, size)) long within (omega (arith, is)) number_sources))
