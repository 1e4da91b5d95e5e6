-- A name denotes a point that is in the program.
use Rattle.std.proofs.Common.{◌≡◌, ℕ, zero, suc, ◌+◌, List, [], ◌∷◌, length, drop, Option, Some, None, slice_get}
use Rattle.std.proofs.Common.{option_map, refl, sym, ap, ◌∙◌, subst, arith}
use Rattle.std.proofs.lemmas.Option.{same_Some}
use Rattle.ps_check.proofs.EachItem.{each_at}
use Rattle.ps_text.specs.declared.Span.{Span}
use Rattle.ps_tree.specs.Types.{DataType, RecordType, FieldList, DataTypes, no_type, type_before, type_at, field_at}
use Rattle.ps_tree.specs.Types.{field_in, field_list}
use Rattle.ps_tree.specs.Tree.{Program}
use Rattle.ps_lower_layout.specs.Shapes.{Shape, shape_of, shapes_of, field_shape, field_part}
use Rattle.ps_lower_code.specs.Scopes.{Scope}
use Rattle.ps_check_judgement.specs.Judged.{Yes, ◌>>=◌, some_or}
use Rattle.ps_check_judgement.proofs.Binds.{then_yes, some_or_yes, inside_yes, no_yes}
use Rattle.ps_check_judgement.proofs.Impossible.{none_some}
use Rattle.ps_check_names.specs.Spelling.{place, spelled}
use Rattle.ps_check_names.specs.Regions.{Region, BlockRegion, RecordRegion, OwnNames, Point, BlockPoint, FieldPoint}
use Rattle.ps_check_names.specs.Regions.{Meaning, one_more, missing, find_past, of_block, in_block, in_record, in_own}
use Rattle.ps_check_names.specs.Regions.{Context}
use Rattle.ps_check_expressions.specs.Names.{denoted}
use Rattle.ps_lower_accepted.proofs.Lists.{Each, then_some, map_some, if_some}
use Rattle.ps_lower_accepted.proofs.Tables.{Table, TypeKnown, TypesKnown, FieldsKnown}
use Rattle.ps_lower_accepted.proofs.Standing.{MeaningKnown, MeaningStands, RegionsKnown, BlocksStand, RegionsStand}
use Rattle.ps_lower_accepted.proofs.Standing.{HasFields, Here, PointStands}

more_is : (n m : ℕ) → one_more n ≡ Some m → suc n ≡ m
more_is n m e = let h = same_Some (n + 1) m (if_some _ (Some (n + 1)) m e).1 in omega (arith, h)

pub drop_none : (n : ℕ) → drop n (let l : List ℕ = [] in l) ≡ []
drop_none zero = refl
drop_none (suc n) = refl

-- ---- known meanings, whatever the program

-- a point that is a meaning is known
abbrev pub PointKnown : Table → ℕ → Point → Type 0
PointKnown D b (BlockPoint up m) = MeaningKnown D b m
PointKnown D b (FieldPoint which type n field) = Unit {0}

block_is : (at up : ℕ) (o : Option Meaning) (p : Point) → of_block at up o ≡ Yes p → (m : Meaning) × (o ≡ Some m)
    × (BlockPoint up m ≡ p)
block_is at up None p e = absurd (no_yes e)
block_is at up (Some m) p e = (m, refl, inside_yes (BlockPoint up m) p e)

pub find_known : (D : Table) (b : ℕ) (Γ : List Region) (up which : ℕ) (s : List ℕ) (at : ℕ) (p : Point)
    → RegionsKnown D b Γ → find_past up which Γ s at ≡ Yes p → PointKnown D b p
unfolding find_past
find_known D b [] up which s at p k e = absurd (no_yes e)
find_known D b (BlockRegion routine names known ∷ Γ) up which s at p k e = go (λ n. find_known D b Γ n which s at p k.1)
    (place names s) e
  where
    go : ((n : ℕ) → find_past n which Γ s at ≡ Yes p → PointKnown D b p) → (o : Option ℕ) → in_block at up known o
        (some_or (missing s) at (one_more up) >>= (λ n. find_past n which Γ s at)) ≡ Yes p → PointKnown D b p
    go further None h = let t = then_yes (some_or (missing s) at (one_more up)) (λ n. find_past n which Γ s at) p h
        in further t.0 t.2
    go further (Some i) h = let m = block_is at up (slice_get known i) p h in subst (PointKnown D b) m.2
        (each_at (MeaningKnown D b) known i m.0 k.0 m.1)
find_known D b (RecordRegion type fields ∷ Γ) up which s at p k e = go (λ n. find_known D b Γ up n s at p k.1)
    (field_in fields s) e
  where
    go : ((n : ℕ) → find_past up n Γ s at ≡ Yes p → PointKnown D b p) → (o : Option (ℕ × DataType))
        → in_record which type o (some_or (missing s) at (one_more which) >>= (λ n. find_past up n Γ s at)) ≡ Yes p
        → PointKnown D b p
    go further None h = let t = then_yes (some_or (missing s) at (one_more which)) (λ n. find_past up n Γ s at) p h
        in further t.0 t.2
    go further (Some f) h = subst (PointKnown D b) (inside_yes (FieldPoint which type f.0 f.1) p h) tt
find_known D b (OwnNames names defined ∷ Γ) up which s at p k e = go (find_known D b Γ up which s at p k.1)
    (place names s) e
  where
    go : (find_past up which Γ s at ≡ Yes p → PointKnown D b p) → (o : Option ℕ) → in_own at defined o
        (find_past up which Γ s at) ≡ Yes p → PointKnown D b p
    go further None h = further h
    go further (Some i) h = absurd (no_yes h)

-- ---- meanings that are in the program

module _ (P : Program) (D : Table) where
  -- a point after this many blocks
  abbrev BlockStands : ℕ → List ℕ → Point → Type 0
  BlockStands up chain (BlockPoint n m) = MeaningKnown D (length P.domains) m
      × ((d : ℕ) × (n ≡ up + d) × MeaningStands P (drop d chain) m)
  BlockStands up chain (FieldPoint which type n field) = ⊥

  further : (up r : ℕ) (chain : List ℕ) (p : Point) → BlockStands (suc up) chain p → BlockStands up (r ∷ chain) p
  further up r chain (BlockPoint n m) h = (h.0, (suc h.1.0, let e = h.1.1 in omega (arith, e), h.1.2))
  further up r chain (FieldPoint which type n field) h = h

  further_out : (up : ℕ) (p : Point) → BlockStands (suc up) [] p → BlockStands up [] p
  further_out up (BlockPoint n m) h = (
    h.0,
    (
      suc h.1.0,
      let e = h.1.1 in omega (arith, e),
      subst
          (λ l. MeaningStands P l m) (drop_none h.1.0) h.1.2,
    ),
  )
  further_out up (FieldPoint which type n field) h = h

  here_stands : (at up : ℕ) (chain : List ℕ) (known : List Meaning) (i : ℕ) (p : Point) → Each
      (MeaningKnown D (length P.domains)) known → Each (MeaningStands P chain) known → of_block at up
      (slice_get known i) ≡ Yes p → BlockStands up chain p
  here_stands at up chain known i p k st e =
      let m = block_is at up (slice_get known i) p e in
      subst (BlockStands up chain) m.2 (
        each_at (MeaningKnown D (length P.domains)) known i m.0 k m.1,
        (0, omega arith, each_at (MeaningStands P chain) known i m.0 st m.1),
      )

  blocks_stand : (Γ : List Region) (chain : List ℕ) (up which : ℕ) (s : List ℕ) (at : ℕ) (p : Point)
      → BlocksStand P D Γ chain → find_past up which Γ s at ≡ Yes p → BlockStands up chain p
  unfolding find_past
  blocks_stand [] chain up which s at p k e = absurd (no_yes e)
  blocks_stand (BlockRegion routine names known ∷ Γ) [] up which s at p k e = go
      (λ n. blocks_stand Γ [] n which s at p k.2) (place names s) e
    where
      go : ((n : ℕ) → find_past n which Γ s at ≡ Yes p → BlockStands n [] p) → (o : Option ℕ) → in_block at up known o
          (some_or (missing s) at (one_more up) >>= (λ n. find_past n which Γ s at)) ≡ Yes p → BlockStands up [] p
      go rest None h =
          let t = then_yes (some_or (missing s) at (one_more up)) (λ n. find_past n which Γ s at) p h in
          further_out up p (subst (λ n. BlockStands n [] p)
          (sym (more_is up t.0 (some_or_yes (missing s) at (one_more up) t.0 t.1))) (rest t.0 t.2))
      go rest (Some i) h = here_stands at up [] known i p k.0 k.1 h
  blocks_stand (BlockRegion routine names known ∷ Γ) (r ∷ chain) up which s at p k e = go
      (λ n. blocks_stand Γ chain n which s at p k.3) (place names s) e
    where
      go : ((n : ℕ) → find_past n which Γ s at ≡ Yes p → BlockStands n chain p) → (o : Option ℕ)
          → in_block at up known o (some_or (missing s) at (one_more up) >>= (λ n. find_past n which Γ s at)) ≡ Yes p
          → BlockStands up (r ∷ chain) p
      go rest None h =
          let t = then_yes (some_or (missing s) at (one_more up)) (λ n. find_past n which Γ s at) p h in
          further up r chain p (subst (λ n. BlockStands n chain p)
          (sym (more_is up t.0 (some_or_yes (missing s) at (one_more up) t.0 t.1))) (rest t.0 t.2))
      go rest (Some i) h = here_stands at up (r ∷ chain) known i p k.1 k.2 h
  blocks_stand (RecordRegion type fields ∷ Γ) chain up which s at p k e = absurd k
  blocks_stand (OwnNames names defined ∷ Γ) chain up which s at p k e = absurd k

-- ---- fields

pub field_known : (D : Table) (b : ℕ) (types : DataTypes) (n : ℕ) (type : DataType) → TypesKnown D b types
    → type_at types n ≡ Some type → TypeKnown D b type
field_known D b no_type n type k e = absurd (none_some e)
field_known D b (type_before t rest) zero type k e = subst (TypeKnown D b) (same_Some t type e) k.0
field_known D b (type_before t rest) (suc n) type k e = field_known D b rest n type k.1 e

pub field_shapes_at : (types : DataTypes) (n : ℕ) (type : DataType) → type_at types n ≡ Some type → field_shape
    (shapes_of types) n ≡ Some (shape_of type)
field_shapes_at no_type n type e = absurd (none_some e)
field_shapes_at (type_before t rest) zero type e = ap (λ x. Some (shape_of x)) (same_Some t type e)
field_shapes_at (type_before t rest) (suc n) type e = field_shapes_at rest n type e

-- a field that a record has
pub record FieldTold (D : Table) (b : ℕ) (type : DataType) (f : ℕ × DataType) : Type 0 where
  pub known : TypeKnown D b f.1
  pub part : field_part (shape_of type) f.0 ≡ Some (shape_of f.1)

at_field : (D : Table) (b at : ℕ) (packed : _) (names : List (List ℕ)) (types : DataTypes) (n : ℕ) (f : ℕ × DataType)
    → TypesKnown D b types → field_at types n ≡ Some f → FieldTold D b (RecordType at packed (field_list names types)) f
at_field D b at packed names types n f k e =
    let o = if_some _ (option_map (λ type. (n, type)) (type_at types n)) f e in
    let m = map_some (λ type. (n, type)) (type_at types n) f o.1 in
    subst (FieldTold D b (RecordType at packed (field_list names types))) m.2 (record {
      known = field_known D b types n m.0 k m.1;
      part = field_shapes_at types n m.0 m.1;
    })

pub field_told : (D : Table) (b at : ℕ) (packed : _) (fields : FieldList) (s : List ℕ) (f : ℕ × DataType)
    → FieldsKnown D b fields → field_in fields s ≡ Some f → FieldTold D b (RecordType at packed fields) f
field_told D b at packed (field_list names types) s f k e =
    let n = then_some (place names s) (field_at types) f e in
    at_field D b at packed names types n.0 f k n.2

field_of_record : (D : Table) (b : ℕ) (type : DataType) (fields : FieldList) (s : List ℕ) (f : ℕ × DataType)
    → HasFields type fields → TypeKnown D b type → field_in fields s ≡ Some f → FieldTold D b type f
field_of_record D b (RecordType at packed fs) fields s f h k e = field_told D b at packed fs s f k.1
    (ap (λ x. field_in x s) h ∙ e)
field_of_record D b type fields s f h k e = absurd h

-- ---- names in the statements of a block

-- a point after this many opened records and no block
abbrev RecordStands : Table → Program → List Shape → List ℕ → (which : ℕ) → Point → Type 0
RecordStands D P os chain which (BlockPoint n m) = MeaningKnown D (length P.domains) m × MeaningStands P
    (drop n chain) m
RecordStands D P os chain which (FieldPoint w type n field) = (d : ℕ) × (w ≡ which + d)
    × (slice_get os d ≡ Some (shape_of type)) × (field_part (shape_of type) n ≡ Some (shape_of field)) × TypeKnown D
    (length P.domains) field

further_in : (D : Table) (P : Program) (o : Shape) (os : List Shape) (chain : List ℕ) (which : ℕ) (p : Point)
    → RecordStands D P os chain (suc which) p → RecordStands D P (o ∷ os) chain which p
further_in D P o os chain which (BlockPoint n m) h = h
further_in D P o os chain which (FieldPoint w type n field) h =
    (suc h.0, let e = h.1 in omega (arith, e), h.2, h.3, h.4)

only_blocks : (D : Table) (P : Program) (os : List Shape) (chain : List ℕ) (which : ℕ) (p : Point)
    → BlockStands P D 0 chain p → RecordStands D P os chain which p
only_blocks D P os chain which (BlockPoint n m) h =
    (h.0, subst (λ d. MeaningStands P (drop d chain) m) (let e = h.1.1 in omega (arith, e)) h.1.2)
only_blocks D P os chain which (FieldPoint w type n field) h = absurd h

records_stand : (D : Table) (P : Program) (Γ : List Region) (chain : List ℕ) (os : List Shape) (which : ℕ) (s : List ℕ)
    (at : ℕ) (p : Point) → RegionsStand P D Γ chain os → find_past 0 which Γ s at ≡ Yes p
    → RecordStands D P os chain which p
unfolding find_past
records_stand D P (RecordRegion type fields ∷ Γ) chain [] which s at p k e = absurd k
records_stand D P (RecordRegion type fields ∷ Γ) chain (o ∷ os) which s at p k e = go
    (λ n. records_stand D P Γ chain os n s at p k.3) (field_in fields s) refl e
  where
    go : ((n : ℕ) → find_past 0 n Γ s at ≡ Yes p → RecordStands D P os chain n p) → (x : Option (ℕ × DataType))
        → field_in fields s ≡ x → in_record which type x
        (some_or (missing s) at (one_more which) >>= (λ n. find_past 0 n Γ s at)) ≡ Yes p → RecordStands D P
        (o ∷ os) chain which p
    go rest None g h =
        let t = then_yes (some_or (missing s) at (one_more which)) (λ n. find_past 0 n Γ s at) p h in
        further_in D P o os chain which p (subst (λ n. RecordStands D P os chain n p)
        (sym (more_is which t.0 (some_or_yes (missing s) at (one_more which) t.0 t.1))) (rest t.0 t.2))
    go rest (Some f) g h =
        let told = field_of_record D (length P.domains) type fields s f k.1 k.2 g in
        subst (RecordStands D P (o ∷ os) chain which) (inside_yes (FieldPoint which type f.0 f.1) p h)
        (0, omega arith, ap Some k.0, told.part, told.known)
records_stand D P [] chain [] which s at p k e = only_blocks D P [] chain which p
    (blocks_stand P D [] chain 0 which s at p k e)
records_stand D P (BlockRegion routine names known ∷ Γ) chain [] which s at p k e = only_blocks D P [] chain which p
    (blocks_stand P D (BlockRegion routine names known ∷ Γ) chain 0 which s at p k e)
records_stand D P (OwnNames names defined ∷ Γ) chain [] which s at p k e = only_blocks D P [] chain which p
    (blocks_stand P D (OwnNames names defined ∷ Γ) chain 0 which s at p k e)
records_stand D P [] chain (o ∷ os) which s at p k e = absurd k
records_stand D P (BlockRegion routine names known ∷ Γ) chain (o ∷ os) which s at p k e = absurd k
records_stand D P (OwnNames names defined ∷ Γ) chain (o ∷ os) which s at p k e = absurd k

as_point : (D : Table) (k : Scope) (os : List Shape) (p : Point) → RecordStands D k.program os k.chain 0 p
    → PointStands D k os p
as_point D k os (BlockPoint n m) h = h
as_point D k os (FieldPoint w type n field) h =
    (subst (λ i. slice_get os i ≡ Some (shape_of type)) (let e = h.1 in omega (arith, e)) h.2, h.3, h.4)

pub denoted_stands : (c : Context) (Γ : List Region) (D : Table) (k : Scope) (os : List Shape) → Here c Γ D k os
    → (name : Span) (p : Point) → denoted c Γ name ≡ Yes p → PointStands D k os p
denoted_stands c Γ D k os here name p e = as_point D k os p
    (records_stand D k.program Γ k.chain os 0 (spelled c.text name) name.from p here.stands e)
