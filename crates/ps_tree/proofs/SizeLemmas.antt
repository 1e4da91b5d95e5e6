-- Sizes capped at a largest number.
use Rattle.std.proofs.Common.{◌≡◌, ◌⊎◌, inl, inr, ℕ, zero, suc, ◌+◌, ◌*◌, ◌<◌, ◌≤◌, min, List, [], ◌∷◌, ◌++◌, length}
use Rattle.std.proofs.Common.{drop, get_or, refl, sym, ap, subst, ◌∙◌, append_assoc, append-nil, arith}
use Rattle.std.proofs.Math.Seq.{drop-cons}
use Rattle.std.proofs.lemmas.List.{drop_all}
use Rattle.ps_tree.specs.declared.types.Ty.{Ty}
use Rattle.ps_tree.specs.Types.{DataType, DataTypes, no_type, type_before, FieldList, field_list, field_types}
use Rattle.ps_tree.specs.Sizes.{cells, record_cells, field_cells, bytes, record_bytes, field_bytes, bytes_before}
use Rattle.ps_tree.specs.Sizes.{beginnings}
use Rattle.ps_tree.specs.TypeView.{type_of, types_of}

at_least : (k b m : ℕ) → m ≤ b → m ≤ suc k * b
at_least k b m h = omega arith

pub times_capped : (c b m : ℕ) → min (c * min b m) m ≡ min (c * b) m
times_capped zero b m = omega arith
times_capped (suc k) b m = go (let t : (b ≤ m) ⊎ (m ≤ b) = grind arith in t)
  where
    go : (b ≤ m) ⊎ (m ≤ b) → min (suc k * min b m) m ≡ min (suc k * b) m
    go (inl h) = let e : min b m ≡ b = omega arith in rw e refl
    go (inr h) = let e : min b m ≡ m = omega arith in rw e
        (let p : m ≤ suc k * m = at_least k m m (omega arith) in let q : m ≤ suc k * b = at_least k b m h
        in omega arith)

-- the size of all types
abbrev pub total_of : (DataType → ℕ) → List Ty → ℕ
total_of size [] = 0
total_of size (t ∷ ts) = size (type_of t) + total_of size ts

-- the types before i are counted
pub record Counted (size : DataType → ℕ) (m : ℕ) (items : List Ty) (i total : ℕ) : Type 0 where
  pub left : min (total + total_of size (drop i items)) m ≡ min (total_of size items) m
  pub small : total ≤ m

pub counted_start : (size : DataType → ℕ) (m : ℕ) (items : List Ty) → Counted size m items 0 0
counted_start size m items = record { left = omega arith; small = omega arith }

pub counted_next : (size : DataType → ℕ) (m : ℕ) (items : List Ty) (i total next : ℕ) (d : Ty) → i < length items
    → Counted size m items i total → next ≡ min (total + min (size (type_of (get_or items i d))) m) m
    → Counted size m items (i + 1) next
counted_next size m items i total next d h c e =
    let split : total_of size (drop i items) ≡ size (type_of (get_or items i d)) + total_of size
    (drop (suc i) items) = ap (total_of size) (drop-cons items i d h) in
    let same : total_of size (drop (i + 1) items) ≡ total_of size (drop (suc i) items) = let k : i + 1
    ≡ suc i = omega arith in ap (λ j. total_of size (drop j items)) k in
    record { left = omega (arith, c.left, split, same, e); small = omega (arith, e) }

pub counted_end : (size : DataType → ℕ) (m : ℕ) (items : List Ty) (i total : ℕ) → length items ≤ i
    → Counted size m items i total → total ≡ min (total_of size items) m
counted_end size m items i total h c =
    let none : total_of size (drop i items) ≡ 0 = ap (total_of size) (drop_all i items h) in
    omega (arith, c.left, c.small, none)

field_cells_total : (items : List Ty) → field_cells (types_of items) ≡ total_of cells items
unfolding field_cells
field_cells_total [] = refl
field_cells_total (t ∷ ts) = ap (λ n. cells (type_of t) + n) (field_cells_total ts)

pub record_cells_total : (names : List (List ℕ)) (items : List Ty) → 0 < length items → record_cells
    (field_list names (types_of items)) ≡ total_of cells items
unfolding record_cells
record_cells_total names [] h = absurd (omega arith)
record_cells_total names (t ∷ ts) h = ap (λ n. cells (type_of t) + n) (field_cells_total ts)

pub record_cells_none : (names : List (List ℕ)) (items : List Ty) → length items ≡ 0 → record_cells
    (field_list names (types_of items)) ≡ 1
unfolding record_cells
record_cells_none names [] h = refl
record_cells_none names (t ∷ ts) h = absurd (omega arith)

pub record_bytes_are : (names : List (List ℕ)) (types : DataTypes) → field_bytes types ≡ record_bytes
    (field_list names types)
unfolding record_bytes
record_bytes_are names types = refl

pub field_bytes_total : (items : List Ty) → field_bytes (types_of items) ≡ total_of bytes items
unfolding field_bytes
field_bytes_total [] = refl
field_bytes_total (t ∷ ts) = ap (λ n. bytes (type_of t) + n) (field_bytes_total ts)

-- the beginnings of the types before i are kept
pub record Begun (m : ℕ) (items : List Ty) (i total : ℕ) (kept : List ℕ) : Type 0 where
  pub whole : kept ++ beginnings m total (types_of (drop i items)) ≡ beginnings m 0 (types_of items)

pub begun_start : (m : ℕ) (items : List Ty) → Begun m items 0 0 []
begun_start m items = record { whole = refl }

pub begun_next : (m : ℕ) (items : List Ty) (i total next : ℕ) (kept : List ℕ) (d : Ty) → i < length items
    → Begun m items i total kept → next ≡ min (total + min (bytes (type_of (get_or items i d))) m) m → Begun m items
    (i + 1) next (kept ++ total ∷ [])
begun_next m items i total next kept d h b e =
    let t = type_of (get_or items i d) in
    let split : drop i items ≡ get_or items i d ∷ drop (suc i) items = drop-cons items i d h in
    let after : i + 1 ≡ suc i = omega arith in
    let same : next ≡ min (total + bytes t) m = omega (arith, e) in
    record {
      whole = append_assoc kept (total ∷ []) (beginnings m next (types_of (drop (i + 1) items)))
          ∙ ap (λ j. kept ++ total ∷ beginnings m next (types_of (drop j items))) after
          ∙ ap (λ n. kept ++ total ∷ beginnings m n (types_of (drop (suc i) items))) same
          ∙ ap (λ ts. kept ++ beginnings m total (types_of ts)) (sym split)
          ∙ b.whole;
    }

pub begun_end : (m : ℕ) (items : List Ty) (i total : ℕ) (kept : List ℕ) → length items ≤ i → Begun m items i total kept
    → kept ≡ beginnings m 0 (types_of items)
begun_end m items i total kept h b = sym (append-nil kept) ∙ ap (λ ts. kept ++ beginnings m total (types_of ts))
    (sym (drop_all i items h)) ∙ b.whole

-- what is stored of field k, and what there is after the last
pub begins_at : (m n : ℕ) (types : DataTypes) (k v : ℕ) → n ≤ m → k < length (beginnings m n types) → v ≡ get_or
    (beginnings m n types) k v → v ≡ min (n + bytes_before types k) m
begins_at m n no_type k v h within e = absurd (omega (arith, within))
begins_at m n (type_before t rest) zero v h within e = omega (arith, e, h)
begins_at m n (type_before t rest) (suc k) v h within e =
    let s = begins_at m (min (n + bytes t) m) rest k v (omega arith) (omega (arith, within)) e in
    omega (arith, s)

pub begins_past : (m n : ℕ) (types : DataTypes) (k : ℕ) → length (beginnings m n types) ≤ k → bytes_before types k
    ≡ field_bytes types
unfolding field_bytes
begins_past m n no_type k h = refl
begins_past m n (type_before t rest) zero h = absurd (omega (arith, h))
begins_past m n (type_before t rest) (suc k) h = ap (λ b. bytes t + b)
    (begins_past m (min (n + bytes t) m) rest k (omega (arith, h)))

-- the same for what a record type stores
pub offset_at : (fields : FieldList) (offsets all : List ℕ) (k v : ℕ) → all ≡ offsets → offsets
    ≡ beginnings 4294967295 0 (field_types fields) → k < length all → v ≡ get_or all k v → v ≡ min
    (bytes_before (field_types fields) k) 4294967295
offset_at fields offsets all k v a o within e =
    let is : all ≡ beginnings 4294967295 0 (field_types fields) = a ∙ o in
    let s : v ≡ min (0 + bytes_before (field_types fields) k) 4294967295 = begins_at 4294967295 0
    (field_types fields) k v (omega arith) (subst (λ l. k < length l) is within) (e ∙ ap (λ l. get_or l k v) is) in
    omega (arith, s)

pub offset_past : (fields : FieldList) (offsets all : List ℕ) (k total : ℕ) → all ≡ offsets → offsets
    ≡ beginnings 4294967295 0 (field_types fields) → length all ≤ k → total ≡ min (record_bytes fields) 4294967295
    → total ≡ min (bytes_before (field_types fields) k) 4294967295
unfolding record_bytes
offset_past (field_list names types) offsets all k total a o past e =
    let is : all ≡ beginnings 4294967295 0 types = a ∙ o in
    e ∙ ap (λ n. min n 4294967295) (sym (begins_past 4294967295 0 types k (subst (λ l. length l ≤ k) is past)))
