-- The search through the regions finds the denoted point.
use Rattle.std.proofs.Common.{◌≡◌, ◌<◌, ◌≤◌, ◌+◌, ℕ, suc, Bool, true, false, List, [], ◌∷◌, ◌++◌, Option, Some, None}
use Rattle.std.proofs.Common.{slice_get, nat_lt, refl, sym, ap, ◌∙◌, subst, arith, zero-add}
use Rattle.std.specs.Prelude.{if◌then◌else◌}
use Rattle.std.proofs.lemmas.Bool.{ltb-true, lt-ltb}
use Rattle.ps_tree.specs.Types.{DataType, FieldList, field_in}
use Rattle.ps_check_judgement.specs.Judged.{Judged, Yes, ◌>>=◌, some_or}
use Rattle.ps_check_judgement.proofs.Binds.{no_yes, inside_yes, then_yes, some_or_yes}
use Rattle.ps_check_judgement.proofs.Impossible.{none_some}
use Rattle.ps_check_names.specs.Spelling.{place}
use Rattle.ps_check_names.specs.Regions.{Region, BlockRegion, RecordRegion, OwnNames, Point, BlockPoint, FieldPoint}
use Rattle.ps_check_names.specs.Regions.{Meaning, one_more, missing, find_past, find, of_block, in_block, in_record}
use Rattle.ps_check_names.specs.Regions.{in_own}
use Rattle.ps_check_names.specs.Denotes.{Defines, IsPointOf, NoneDefines, blocks, records, Denotes, FindsWhatIsDenoted}

-- what is denoted after some blocks and opened records
record DenotesPast (up which : ℕ) (Γ : List Region) (s : List ℕ) (p : Point) : Type 0 where
  inner : List Region
  region : Region
  outer : List Region
  encloses : Γ ≡ inner ++ region ∷ outer
  closest : NoneDefines inner s
  point : IsPointOf region (up + blocks inner) (which + records inner) s p
  few_blocks : up + blocks inner ≤ 4294967295
  few_records : which + records inner ≤ 4294967295

-- one more is a count exactly if it is at most the greatest
more_at : (n m : ℕ) (b : Bool) → nat_lt n 4294967295 ≡ b → (if b then Some (n + 1) else None) ≡ Some m
    → (n < 4294967295) × (m ≡ n + 1)
more_at n m true e q = (ltb-true n 4294967295 e, cc)
more_at n m false e q = absurd (none_some q)

more_some : (n m : ℕ) → one_more n ≡ Some m → (n < 4294967295) × (m ≡ n + 1)
more_some n m h = more_at n m (nat_lt n 4294967295) refl h

some_more : (n : ℕ) → n < 4294967295 → one_more n ≡ Some (n + 1)
some_more n lt = ap (λ b. if b then Some (n + 1) else None) (lt-ltb n 4294967295 lt)

-- what a search in one region gives, by what it defines
at_place : (at up : ℕ) (p : Point) (o : Option Meaning) → of_block at up o ≡ Yes p → (m : Meaning) × (o ≡ Some m)
    × (p ≡ BlockPoint up m)
at_place at up p None h = absurd (no_yes h)
at_place at up p (Some m) h = (m, refl, sym (inside_yes (BlockPoint up m) p h))

here : (up which : ℕ) (r : Region) (Γ : List Region) (s : List ℕ) (p : Point) → up ≤ 4294967295 → which ≤ 4294967295
    → IsPointOf r up which s p → DenotesPast up which (r ∷ Γ) s p
here up which r Γ s p hu hw h = let e : up + 0 ≡ up = omega arith in let d : which + 0 ≡ which = omega arith in record {
  inner = [];
  region = r;
  outer = Γ;
  encloses = refl;
  closest = tt;
  point = subst (λ w. IsPointOf r (up + 0) w s p) (sym d) (subst (λ u. IsPointOf r u which s p) (sym e) h);
  few_blocks = omega arith;
  few_records = omega arith;
}

-- after one more block
behind_block : (up which routine : ℕ) (names : _) (known : _) (Γ : List Region) (s : List ℕ) (p : Point)
    → (Defines (BlockRegion routine names known) s → ⊥) → DenotesPast (up + 1) which Γ s p → DenotesPast up which
    (BlockRegion routine names known ∷ Γ) s p
behind_block up which routine names known Γ s p absent d = let e : up + 1 + blocks d.inner ≡ up + suc
    (blocks d.inner) = omega arith in record {
      inner = BlockRegion routine names known ∷ d.inner;
      region = d.region;
      outer = d.outer;
      encloses = ap (λ l. BlockRegion routine names known ∷ l) d.encloses;
      closest = (absent, d.closest);
      point = subst (λ u. IsPointOf d.region u (which + records d.inner) s p) e d.point;
      few_blocks = omega (arith, d.few_blocks);
      few_records = d.few_records;
    }

behind_record : (up which : ℕ) (type : DataType) (fields : FieldList) (Γ : List Region) (s : List ℕ) (p : Point)
    → (Defines (RecordRegion type fields) s → ⊥) → DenotesPast up (which + 1) Γ s p → DenotesPast up which
    (RecordRegion type fields ∷ Γ) s p
behind_record up which type fields Γ s p absent d = let e : which + 1 + records d.inner ≡ which + suc
    (records d.inner) = omega arith in record {
      inner = RecordRegion type fields ∷ d.inner;
      region = d.region;
      outer = d.outer;
      encloses = ap (λ l. RecordRegion type fields ∷ l) d.encloses;
      closest = (absent, d.closest);
      point = subst (λ w. IsPointOf d.region (up + blocks d.inner) w s p) e d.point;
      few_blocks = d.few_blocks;
      few_records = omega (arith, d.few_records);
    }

behind_own : (up which : ℕ) (names : _) (defined : ℕ) (Γ : List Region) (s : List ℕ) (p : Point)
    → (Defines (OwnNames names defined) s → ⊥) → DenotesPast up which Γ s p → DenotesPast up which
    (OwnNames names defined ∷ Γ) s p
behind_own up which names defined Γ s p absent d = record {
  inner = OwnNames names defined ∷ d.inner;
  region = d.region;
  outer = d.outer;
  encloses = ap (λ l. OwnNames names defined ∷ l) d.encloses;
  closest = (absent, d.closest);
  point = d.point;
  few_blocks = d.few_blocks;
  few_records = d.few_records;
}

absent_at : {A : Type 0} (o : Option A) → o ≡ None → (x : A) × (o ≡ Some x) → ⊥
absent_at o e d = none_some (sym e ∙ d.1)

-- the steps of a search past one more block, or one more opened record
past : (s : List ℕ) (at n : ℕ) (f : ℕ → Judged Point) (p : Point) → (some_or (missing s) at (one_more n) >>= f) ≡ Yes p
    → (n < 4294967295) × (f (n + 1) ≡ Yes p)
past s at n f p h =
    let t = then_yes (some_or (missing s) at (one_more n)) f p h in
    let m = more_some n t.0 (some_or_yes (missing s) at (one_more n) t.0 t.1) in
    (m.0, ap f (sym m.1) ∙ t.2)

-- The searches after one region are given, as a block's search is.
module _ (up which : ℕ) (Γ : List Region) (s : List ℕ) (at : ℕ) (p : Point) (hu : up ≤ 4294967295)
    (hw : which ≤ 4294967295) where
  sound_block : (routine : ℕ) (names : _) (known : List Meaning) (o : Option ℕ) → place names s ≡ o
      → (up + 1 ≤ 4294967295 → find_past (up + 1) which Γ s at ≡ Yes p → DenotesPast (up + 1) which Γ s p)
      → in_block at up known o (some_or (missing s) at (one_more up) >>= (λ n. find_past n which Γ s at)) ≡ Yes p
      → DenotesPast up which (BlockRegion routine names known ∷ Γ) s p
  sound_block routine names known None e ih h =
      let t = past s at up (λ n. find_past n which Γ s at) p h in
      behind_block up which routine names known Γ s p (absent_at (place names s) e) (ih (omega (arith, t.0)) t.1)
  sound_block routine names known (Some i) e ih h =
      let a = at_place at up p (slice_get known i) h in
      here up which (BlockRegion routine names known) Γ s p hu hw (i, a.0, e, a.1, a.2)

  sound_record : (type : DataType) (fields : FieldList) (o : Option (ℕ × DataType)) → field_in fields s ≡ o
      → (which + 1 ≤ 4294967295 → find_past up (which + 1) Γ s at ≡ Yes p → DenotesPast up (which + 1) Γ s p)
      → in_record which type o (some_or (missing s) at (one_more which) >>= (λ n. find_past up n Γ s at)) ≡ Yes p
      → DenotesPast up which (RecordRegion type fields ∷ Γ) s p
  sound_record type fields None e ih h =
      let t = past s at which (λ n. find_past up n Γ s at) p h in
      behind_record up which type fields Γ s p (absent_at (field_in fields s) e) (ih (omega (arith, t.0)) t.1)
  sound_record type fields (Some f) e ih h =
      here up which (RecordRegion type fields) Γ s p hu hw (f, e, sym (inside_yes (FieldPoint which type f.0 f.1) p h))

  sound_own : (names : _) (defined : ℕ) (o : Option ℕ) → place names s ≡ o
      → (find_past up which Γ s at ≡ Yes p → DenotesPast up which Γ s p) → in_own at defined o
      (find_past up which Γ s at) ≡ Yes p → DenotesPast up which (OwnNames names defined ∷ Γ) s p
  sound_own names defined None e ih h = behind_own up which names defined Γ s p (absent_at (place names s) e) (ih h)
  sound_own names defined (Some i) e ih h = absurd (no_yes h)

sound : (up which : ℕ) (Γ : List Region) (s : List ℕ) (at : ℕ) (p : Point) → up ≤ 4294967295 → which ≤ 4294967295
    → find_past up which Γ s at ≡ Yes p → DenotesPast up which Γ s p
unfolding find_past
sound up which [] s at p hu hw h = absurd (no_yes h)
sound up which (BlockRegion routine names known ∷ Γ) s at p hu hw h = sound_block up which Γ s at p hu hw routine names
    known (place names s) refl (λ lt q. sound (up + 1) which Γ s at p lt hw q) h
sound up which (RecordRegion type fields ∷ Γ) s at p hu hw h = sound_record up which Γ s at p hu hw type fields
    (field_in fields s) refl (λ lt q. sound up (which + 1) Γ s at p hu lt q) h
sound up which (OwnNames names defined ∷ Γ) s at p hu hw h = sound_own up which Γ s at p hu hw names defined
    (place names s) refl (λ q. sound up which Γ s at p hu hw q) h

-- the closest region's point is found
found_here : (up which : ℕ) (r : Region) (Γ : List Region) (s : List ℕ) (at : ℕ) (p : Point) → IsPointOf r up which s p
    → find_past up which (r ∷ Γ) s at ≡ Yes p
unfolding find_past
found_here up which (BlockRegion routine names known) Γ s at p
    (i, m, placed, known_at, is) = ap (λ o. in_block at up known o
    (some_or (missing s) at (one_more up) >>= (λ n. find_past n which Γ s at))) placed ∙ ap (of_block at up) known_at
    ∙ ap Yes (sym is)
found_here up which (RecordRegion type fields) Γ s at p
    (f, placed, is) = ap (λ o. in_record which type o
    (some_or (missing s) at (one_more which) >>= (λ n. find_past up n Γ s at))) placed ∙ ap Yes (sym is)
found_here up which (OwnNames names defined) Γ s at p h = absurd h

-- a search passes a region that doesn't define the name
block_passes : (at up : ℕ) (known : List Meaning) (x : Judged Point) (o : Option ℕ) → ((i : ℕ) × (o ≡ Some i) → ⊥)
    → in_block at up known o x ≡ x
block_passes at up known x None absent = refl
block_passes at up known x (Some i) absent = absurd (absent (i, refl))

record_passes : (which : ℕ) (type : DataType) (x : Judged Point) (o : Option (ℕ × DataType))
    → ((f : ℕ × DataType) × (o ≡ Some f) → ⊥) → in_record which type o x ≡ x
record_passes which type x None absent = refl
record_passes which type x (Some f) absent = absurd (absent (f, refl))

own_passes : (at defined : ℕ) (x : Judged Point) (o : Option ℕ) → ((i : ℕ) × (o ≡ Some i) → ⊥) → in_own at defined o x
    ≡ x
own_passes at defined x None absent = refl
own_passes at defined x (Some i) absent = absurd (absent (i, refl))

-- one more is counted
counted : (s : List ℕ) (at n : ℕ) (f : ℕ → Judged Point) → n < 4294967295 → (some_or (missing s) at (one_more n) >>= f)
    ≡ f (n + 1)
counted s at n f lt = ap (λ o. some_or (missing s) at o >>= f) (some_more n lt)

complete_from : (inner : List Region) (up which : ℕ) (r : Region) (outer : List Region) (s : List ℕ) (at : ℕ)
    (p : Point) → NoneDefines inner s → IsPointOf r (up + blocks inner) (which + records inner) s p → up
    + blocks inner ≤ 4294967295 → which + records inner ≤ 4294967295 → find_past up which (inner ++ r ∷ outer) s at
    ≡ Yes p
unfolding find_past
complete_from [] up which r outer s at p none h fb fr =
    let e : up + 0 ≡ up = omega arith in let d : which + 0 ≡ which = omega arith in
    found_here up which r outer s at p (subst (λ w. IsPointOf r up w s p) d
    (subst (λ u. IsPointOf r u (which + 0) s p) e h))
complete_from (BlockRegion routine names known ∷ inner) up which r outer s at p none h fb fr =
    let lt : up < 4294967295 = omega (arith, fb) in
    let e : up + suc (blocks inner) ≡ up + 1 + blocks inner = omega arith in
    block_passes at up known (some_or (missing s) at (one_more up)
    >>= (λ n. find_past n which (inner ++ r ∷ outer) s at)) (place names s) none.0
    ∙ counted s at up (λ n. find_past n which (inner ++ r ∷ outer) s at) lt
    ∙ complete_from inner (up + 1) which r outer s at p none.1
    (subst (λ u. IsPointOf r u (which + records inner) s p) e h) (omega (arith, fb)) fr
complete_from (RecordRegion type fields ∷ inner) up which r outer s at p none h fb fr =
    let lt : which < 4294967295 = omega (arith, fr) in
    let e : which + suc (records inner) ≡ which + 1 + records inner = omega arith in
    record_passes which type (some_or (missing s) at (one_more which)
    >>= (λ n. find_past up n (inner ++ r ∷ outer) s at)) (field_in fields s) none.0
    ∙ counted s at which (λ n. find_past up n (inner ++ r ∷ outer) s at) lt
    ∙ complete_from inner up (which + 1) r outer s at p none.1
    (subst (λ w. IsPointOf r (up + blocks inner) w s p) e h) fb (omega (arith, fr))
complete_from (OwnNames names defined ∷ inner) up which r outer s at p none h fb fr =
    own_passes at defined (find_past up which (inner ++ r ∷ outer) s at) (place names s) none.0
    ∙ complete_from inner up which r outer s at p none.1 h fb fr

-- after nothing
from_outside : (Γ : List Region) (s : List ℕ) (p : Point) → DenotesPast 0 0 Γ s p → Denotes Γ s p
from_outside Γ s p d =
    let b : 0 + blocks d.inner ≡ blocks d.inner = zero-add (blocks d.inner) in
    let r : 0 + records d.inner ≡ records d.inner = zero-add (records d.inner) in
    record {
      inner = d.inner;
      region = d.region;
      outer = d.outer;
      encloses = d.encloses;
      closest = d.closest;
      point = subst (λ w. IsPointOf d.region (blocks d.inner) w s p) r
          (subst (λ u. IsPointOf d.region u (0 + records d.inner) s p) b d.point);
      few_blocks = omega (arith, d.few_blocks);
      few_records = omega (arith, d.few_records);
    }

complete : (Γ : List Region) (s : List ℕ) (p : Point) → (at : ℕ) → Denotes Γ s p → find Γ s at ≡ Yes p
complete Γ s p at d =
    let b : blocks d.inner ≡ 0 + blocks d.inner = sym (zero-add (blocks d.inner)) in
    let r : records d.inner ≡ 0 + records d.inner = sym (zero-add (records d.inner)) in
    ap (λ g. find g s at) d.encloses
    ∙ complete_from d.inner 0 0 d.region d.outer s at p d.closest
    (subst (λ w. IsPointOf d.region (0 + blocks d.inner) w s p) r
    (subst (λ u. IsPointOf d.region u (records d.inner) s p) b d.point)) (omega (arith, d.few_blocks))
    (omega (arith, d.few_records))

pub finds_what_is_denoted : FindsWhatIsDenoted
finds_what_is_denoted Γ s at p = (
  λ h. from_outside Γ s p
      (sound 0 0 Γ s at p (omega arith) (omega arith) h),
  complete Γ s p at,
)
