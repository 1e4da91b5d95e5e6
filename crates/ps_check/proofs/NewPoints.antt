-- Reading an accepted type denoter: each point in it is new at its place, and gets a meaning after those before it.
use Rattle.std.proofs.Common.{◌≡◌, ℕ, ◌+◌, List, [], ◌∷◌, ◌++◌, length, map, nat_lt, Option, Some, None, refl, sym, ap}
use Rattle.std.proofs.Common.{◌∙◌, subst, append_assoc, append-nil, length-append, arith}
use Rattle.std.proofs.lemmas.List.{map-append, length-map}
use Rattle.ps_text.specs.declared.Span.{Span}
use Rattle.ps_syntax.specs.First.{first_of_ordinal}
use Rattle.ps_syntax.specs.declared.program.Ordinal as syntax
use Rattle.ps_syntax.specs.declared.program.Ordinal.TheVariants as o
use Rattle.ps_syntax.specs.declared.program.Structure.{Structure, roll-Structure, map-Structure}
use Rattle.ps_syntax.specs.declared.program.TypeDenoter.{TypeDenoter, roll-TypeDenoter, map-TypeDenoter}
use Rattle.ps_syntax.specs.declared.program.Fields.{Fields, roll-Fields, map-Fields}
use Rattle.ps_syntax.specs.declared.program.Structure.TheOpen.{Structure-F, TypeDenoter-F, Fields-F}
use Rattle.ps_syntax.specs.declared.program.Structure.TheFolds.{fold-roll-Structure, fold-roll-TypeDenoter}
use Rattle.ps_syntax.specs.declared.program.Structure.TheFolds.{fold-roll-Fields, ind-TypeDenoter}
use Rattle.ps_tree.specs.declared.types.Ordinal.{Ordinal}
use Rattle.ps_tree.specs.Types.{DataType, OrdinalType, RecordType, field_list, listed}
use Rattle.ps_tree.specs.declared.limits.TheConstants.{MAX_ROUTINES}
use Rattle.ps_check_judgement.specs.declared.refusal.Rule.TheVariants.{Twice, Limit}
use Rattle.ps_check_judgement.specs.Judged.{Yes, steps}
use Rattle.ps_check_judgement.proofs.Binds.{inside_yes, then_yes, provided_yes}
use Rattle.ps_check_names.specs.Spelling.{spelled}
use Rattle.ps_check_names.specs.Regions.{Meaning, RoutineMeaning}
use Rattle.ps_check_declarations.specs.Points.{Points, all, is_new, new_point, new_points, ordinal_points, type_points}
use Rattle.ps_check_declarations.specs.Points.{structure_points, fields_points, type_points_step}
use Rattle.ps_check_declarations.specs.Points.{structure_points_step, fields_points_step}
use Rattle.ps_check_declarations.specs.Denoters as denoters
use Rattle.ps_check_declarations.specs.Denoters.{Frame, Declared, Hidden, Reading, StructureReading, FieldsReading}
use Rattle.ps_check_declarations.specs.Denoters.{Indices, FieldTypes, regions, type_named, ordinal_at, enumerated}
use Rattle.ps_check_declarations.specs.Denoters.{constants_from, subrange, subrange_of, begins, is_packed}
use Rattle.ps_check_declarations.specs.Denoters.{index_begins, index_type, array_of, set_of, small, passes, waiting}
use Rattle.ps_check_declarations.specs.Denoters.{fields_of_type, ordinal, enumeration, pointer, add_fields}
use Rattle.ps_check_declarations.specs.Denoters.{record_names, array_type, record_type, set_type, simple_type, denoter}
use Rattle.ps_check_declarations.specs.Denoters.{structure, fields}
use Rattle.ps_check.specs.RegionNames.{Each}
use Rattle.ps_check.proofs.Fresh.{AreNew, new_both}
use Rattle.ps_check.proofs.EachItem.{each_append}

-- what declarations give: no meaning of a routine
abbrev pub IsPlain : Meaning → Type 0
IsPlain (RoutineMeaning h) = ⊥
IsPlain _ = Unit {0}

-- `count` further meanings, none of a routine
pub record Grows (d : Declared) (count : ℕ) (e : Declared) : Type 0 where
  pub more : List Meaning
  pub known : e.known ≡ d.known ++ more
  pub plain : Each IsPlain more
  pub counts : length more ≡ count

pub grows_none : (d e : Declared) → e.known ≡ d.known → Grows d 0 e
grows_none d e q = record { more = []; known = q ∙ sym (append-nil d.known); plain = tt; counts = refl }

pub grows_both : (d e g : Declared) (m n k : ℕ) → Grows d m e → Grows e n g → k ≡ m + n → Grows d k g
grows_both d e g m n k a b q = record {
  more = a.more ++ b.more;
  known = b.known ∙ ap (λ l. l ++ b.more) a.known ∙ append_assoc d.known a.more b.more;
  plain = each_append IsPlain a.more b.more a.plain b.plain;
  counts = length-append a.more b.more ∙ (let s : length a.more + length b.more ≡ k = omega
      (arith, a.counts, b.counts, q) in s);
}

pub grows_length : (d e : Declared) (n : ℕ) → Grows d n e → length e.known ≡ length d.known + n
grows_length d e n a = ap length a.known ∙ length-append d.known a.more ∙ ap (λ k. length d.known + k) a.counts

-- these further points, each new at its place
pub record Adds (f : Frame) (d : Declared) (points : Points) (e : Declared) : Type 0 where
  pub grows : Grows d (length points) e
  pub new : AreNew f.names f.begun (length d.known) (map (spelled f.text) points)

module _ (f : Frame) where
  adds_none : (d : Declared) → Adds f d [] d
  adds_none d = record { grows = grows_none d d refl; new = tt }

  adds_at : {A : Type 0} (d : Declared) (points : Points) (x y : A × Declared) → Yes x ≡ Yes y → Adds f d points x.1
      → Adds f d points y.1
  adds_at d points x y e a = subst (λ (z : _ × Declared). Adds f d points z.1) (inside_yes x y e) a

  adds_both : (d e g : Declared) (xs ys : Points) → Adds f d xs e → Adds f e ys g → Adds f d (xs ++ ys) g
  adds_both d e g xs ys a b = record {
    grows = grows_both d e g (length xs) (length ys) (length (xs ++ ys)) a.grows b.grows (length-append xs ys);
    new =
        let n : length e.known ≡ length d.known + length (map (spelled f.text) xs) = grows_length d e
        (length xs) a.grows ∙ ap (λ k. length d.known + k) (sym (length-map xs (spelled f.text))) in
        subst (AreNew f.names f.begun (length d.known)) (sym (map-append (spelled f.text) xs ys))
        (new_both f.names f.begun (length d.known) (length e.known) (map (spelled f.text) xs)
        (map (spelled f.text) ys) a.new b.new n);
  }

-- ---- ordinal types

pub points_new : (text : List ℕ) (names begun : List (List ℕ)) (points : Points) (count n : ℕ)
    → new_points text names begun count points ≡ Yes n → AreNew names begun count (map (spelled text) points)
    × (n ≡ count + length points)
unfolding new_points
points_new text names begun [] count n e =
    (tt, sym (inside_yes count n e) ∙ (let z : count ≡ count + 0 = omega arith in z))
points_new text names begun (p ∷ ps) count n e =
    let one = then_yes (new_point text names begun count p) _ n e in
    let here = provided_yes (is_new names begun count (spelled text p)) Twice p.from (count + 1) one.0 one.1 in
    let rest = points_new text names begun ps (count + 1) n
    (ap (λ k. steps (new_point text names begun) k ps) here.1 ∙ one.2) in
    ((here.0, rest.0), omega (arith, rest.1))

constants_plain : (o : Ordinal) (n : ℕ) (points : Points) → Each IsPlain (constants_from o n points)
constants_plain o n [] = tt
constants_plain o n (p ∷ ps) = (tt, constants_plain o (n + 1) ps)

constants_counted : (o : Ordinal) (n : ℕ) (points : Points) → length (constants_from o n points) ≡ length points
constants_counted o n [] = refl
constants_counted o n (p ∷ ps) = (let q = constants_counted o (n + 1) ps in omega (arith, q))

module _ (f : Frame) where
  ordinal_adds : (hidden : Hidden) (d : Declared) (x : syntax.Ordinal) (r : Ordinal × Declared) → ordinal f hidden d x
      ≡ Yes r → Adds f d (ordinal_points x) r.1
  unfolding ordinal ordinal_points
  ordinal_adds hidden d (o.Name at) r e =
      let t = then_yes (type_named f.text (regions f hidden d.known) at) _ r e in
      let q = then_yes (ordinal_at at.from t.0) _ r t.2 in
      adds_at f d [] (q.0, d) r q.2 (adds_none f d)
  ordinal_adds hidden d (o.Enumeration at names) r e =
      let made : Ordinal × Declared = (
        enumerated at.from (length names),
        denoters.with_known d
            (d.known ++ constants_from (enumerated at.from (length names)) 0 names),
      ) in
      let n = then_yes (new_points f.text f.names f.begun (length d.known) names) _ r e in
      let q = provided_yes (nat_lt (length names) 2147483648) Limit at.from made r n.2 in
      adds_at f d names made r (ap Yes q.1) (record {
        grows = record {
          more = constants_from (enumerated at.from (length names)) 0 names;
          known = refl;
          plain = constants_plain (enumerated at.from (length names)) 0 names;
          counts = constants_counted (enumerated at.from (length names)) 0 names;
        };
        new = (points_new f.text f.names f.begun names (length d.known) n.0 n.1).0;
      })
  ordinal_adds hidden d (o.Subrange low high) r e =
      let q = then_yes (subrange_of f hidden d.known (first_of_ordinal (o.Subrange low high)) low high) _ r e in
      adds_at f d [] (q.0, d) r q.2 (adds_none f d)

  indices_add : (hidden : Hidden) (at : ℕ) (xs : List syntax.Ordinal) (s t : Indices × Declared) → steps
      (index_type f hidden at) s xs ≡ Yes t → Adds f s.1 (all (map ordinal_points xs)) t.1
  indices_add hidden at [] s t e = adds_at f s.1 [] s t e (adds_none f s.1)
  indices_add hidden at (x ∷ xs) s t e =
      let one = then_yes (index_type f hidden at s x) _ t e in
      let r = then_yes (ordinal f hidden s.1 x) _ one.0 one.1 in
      adds_both f s.1 one.0.1 t.1 (ordinal_points x) (all (map ordinal_points xs))
      (adds_at f s.1 (ordinal_points x) (s.0 ++ (index_begins at s.0 x, r.0.0) ∷ [], r.0.1) one.0 r.2
      (ordinal_adds hidden s.1 x r.0 r.1)) (indices_add hidden at xs one.0 t one.2)

  simple_adds : (hidden : Hidden) (d : Declared) (x : syntax.Ordinal) (r : DataType × Declared)
      → simple_type f hidden d x ≡ Yes r → Adds f d (ordinal_points x) r.1
  unfolding simple_type ordinal_points
  simple_adds hidden d (o.Name at) r e =
      let t = then_yes (type_named f.text (regions f hidden d.known) at) _ r e in
      adds_at f d [] (t.0, d) r t.2 (adds_none f d)
  simple_adds hidden d (o.Enumeration at names) r e =
      let t = then_yes (ordinal f hidden d (o.Enumeration at names)) _ r e in
      adds_at f d names (OrdinalType t.0.0, t.0.1) r t.2 (ordinal_adds hidden d (o.Enumeration at names) t.0 t.1)
  simple_adds hidden d (o.Subrange low high) r e =
      let t = then_yes (ordinal f hidden d (o.Subrange low high)) _ r e in
      adds_at f d [] (OrdinalType t.0.0, t.0.1) r t.2 (ordinal_adds hidden d (o.Subrange low high) t.0 t.1)

  -- ---- all parts of denoters

  abbrev TypeAdds : TypeDenoter → Type 0
  TypeAdds t = (hidden : Hidden) (d : Declared) (r : DataType × Declared) → denoter f t hidden d ≡ Yes r → Adds f d
      (type_points t) r.1

  abbrev StructureAdds : Structure → Type 0
  StructureAdds s = (packed : Option ℕ) (hidden : Hidden) (d : Declared) (r : DataType × Declared)
      → structure f s packed hidden d ≡ Yes r → Adds f d (structure_points s) r.1

  abbrev FieldsAdd : Fields → Type 0
  FieldsAdd x = (hidden : Hidden) (d : Declared) (r : DataType × Declared) → (fields f x).1 hidden d ≡ Yes r → Adds f d
      (fields_points x) r.1

  abbrev AtStructure : Type 0
  AtStructure = (x : Structure) × StructureAdds x

  abbrev AtType : Type 0
  AtType = (x : TypeDenoter) × TypeAdds x

  abbrev AtFields : Type 0
  AtFields = (x : Fields) × FieldsAdd x

  abbrev firsts : List AtFields → List Fields
  firsts ys = map (λ y. y.0) ys

  all_add : (names : List (List ℕ)) (hidden : Hidden) (ys : List AtFields) (s t : FieldTypes × Declared) → steps
      (add_fields f names hidden) s (map (fields f) (firsts ys)) ≡ Yes t → Adds f s.1
      (all (map fields_points (firsts ys))) t.1
  all_add names hidden [] s t e = adds_at f s.1 [] s t e (adds_none f s.1)
  all_add names hidden (y ∷ ys) s t e =
      let one = then_yes (add_fields f names hidden s (fields f y.0)) _ t e in
      let n = then_yes (new_points f.text names [] (length s.0) (fields f y.0).0) _ one.0 one.1 in
      let r = then_yes ((fields f y.0).1 ((names, n.0) ∷ hidden) s.1) _ one.0 n.2 in
      adds_both f s.1 one.0.1 t.1 (fields_points y.0) (all (map fields_points (firsts ys)))
      (adds_at f s.1 (fields_points y.0) (s.0 ++ fields_of_type r.0.0 (fields f y.0).0, r.0.1) one.0 r.2
      (y.1 ((names, n.0) ∷ hidden) s.1 r.0 r.1)) (all_add names hidden ys one.0 t one.2)

  structure_by : (x : Structure) (points : Points) (reading : StructureReading) → structure_points x ≡ points
      → structure f x ≡ reading
      → ((packed : Option ℕ) (hidden : Hidden) (d : Declared) (r : DataType × Declared) → reading packed hidden d
      ≡ Yes r → Adds f d points r.1) → StructureAdds x
  structure_by x points reading a c adds packed hidden d r e = subst (λ l. Adds f d l r.1) (sym a)
      (adds packed hidden d r (ap (λ (q : StructureReading). q packed hidden d) (sym c) ∙ e))

  type_by : (x : TypeDenoter) (points : Points) (reading : Reading) → type_points x ≡ points → denoter f x ≡ reading
      → ((hidden : Hidden) (d : Declared) (r : DataType × Declared) → reading hidden d ≡ Yes r → Adds f d points r.1)
      → TypeAdds x
  type_by x points reading a c adds hidden d r e = subst (λ l. Adds f d l r.1) (sym a)
      (adds hidden d r (ap (λ (q : Reading). q hidden d) (sym c) ∙ e))

  array_adds : (packed : Option ℕ) (hidden : Hidden) (d : Declared) (at : ℕ) (xs : List syntax.Ordinal)
      (c : TypeDenoter) → TypeAdds c → (r : DataType × Declared) → array_type f packed hidden d at xs (denoter f c)
      ≡ Yes r → Adds f d (all (map ordinal_points xs) ++ type_points c) r.1
  unfolding array_type
  array_adds packed hidden d at xs c adds r e =
      let is = then_yes (steps (index_type f hidden (begins packed at)) ([], d) xs) _ r e in
      let q = then_yes (denoter f c hidden is.0.1) _ r is.2 in
      let t = then_yes (array_of (is_packed packed) is.0.0 q.0.0) _ r q.2 in
      adds_both f d is.0.1 r.1 (all (map ordinal_points xs)) (type_points c)
      (indices_add hidden (begins packed at) xs ([], d) is.0 is.1)
      (adds_at f is.0.1 (type_points c) (t.0, q.0.1) r t.2 (adds hidden is.0.1 q.0 q.1))

  record_adds : (packed : Option ℕ) (hidden : Hidden) (d : Declared) (at : ℕ) (ys : List AtFields)
      (r : DataType × Declared) → record_type f packed hidden d at (map (fields f) (firsts ys)) ≡ Yes r → Adds f d
      (all (map fields_points (firsts ys))) r.1
  unfolding record_type
  record_adds packed hidden d at ys r e =
      let types = then_yes (steps (add_fields f (record_names f (map (fields f) (firsts ys))) hidden) ([], d)
      (map (fields f) (firsts ys))) _ r e in
      let t = then_yes (small (begins packed at)
      (RecordType (begins packed at) (is_packed packed)
      (field_list (record_names f (map (fields f) (firsts ys))) (listed types.0.0)))) _ r types.2 in
      adds_at f d (all (map fields_points (firsts ys))) (t.0, types.0.1) r t.2
      (all_add (record_names f (map (fields f) (firsts ys))) hidden ys ([], d) types.0 types.1)

  set_adds : (packed : Option ℕ) (hidden : Hidden) (d : Declared) (at : ℕ) (x : syntax.Ordinal)
      (r : DataType × Declared) → set_type f packed hidden d at x ≡ Yes r → Adds f d (ordinal_points x) r.1
  unfolding set_type
  set_adds packed hidden d at x r e =
      let q = then_yes (ordinal f hidden d x) _ r e in
      let t = then_yes (set_of at (begins packed at) (is_packed packed) q.0.0) _ r q.2 in
      adds_at f d (ordinal_points x) (t.0, q.0.1) r t.2 (ordinal_adds hidden d x q.0 q.1)

  pointer_adds : (hidden : Hidden) (d : Declared) (domain : Span) (r : DataType × Declared) → pointer f hidden d domain
      ≡ Yes r → Adds f d [] r.1
  pointer_adds hidden d domain r e =
      let p = then_yes (passes hidden (spelled f.text domain) domain.from) _ r e in
      let q = provided_yes (nat_lt (length d.domains + length d.pending) MAX_ROUTINES) Limit domain.from
      (waiting d domain) r p.2 in
      adds_at f d [] (waiting d domain) r (ap Yes q.1) (record {
        grows = grows_none d (waiting d domain).1 refl;
        new = tt;
      })

  structure_layer : (y : Structure-F AtStructure AtType AtFields) → StructureAdds
      (roll-Structure (map-Structure AtStructure AtType AtFields Structure TypeDenoter Fields (λ e. e.0) (λ e. e.0)
      (λ e. e.0) y))
  unfolding denoters.structure_step
  structure_layer (Structure-F.Array at xs c) =
      let x : Structure-F Structure TypeDenoter Fields = Structure-F.Array at xs c.0 in
      structure_by (roll-Structure x) (all (map ordinal_points xs) ++ type_points c.0)
      (λ packed hidden d. array_type f packed hidden d at.from xs (denoter f c.0))
      (fold-roll-Structure Points Points Points structure_points_step type_points_step fields_points_step x)
      (fold-roll-Structure StructureReading Reading FieldsReading (denoters.structure_step f) (denoters.type_step f)
      (denoters.fields_step f) x) (λ packed hidden d r e. array_adds packed hidden d at.from xs c.0 c.1 r e)
  structure_layer (Structure-F.Record at ys) =
      let x : Structure-F Structure TypeDenoter Fields = Structure-F.Record at (firsts ys) in
      structure_by (roll-Structure x) (all (map fields_points (firsts ys)))
      (λ packed hidden d. record_type f packed hidden d at.from (map (fields f) (firsts ys)))
      (fold-roll-Structure Points Points Points structure_points_step type_points_step fields_points_step x)
      (fold-roll-Structure StructureReading Reading FieldsReading (denoters.structure_step f) (denoters.type_step f)
      (denoters.fields_step f) x) (λ packed hidden d r e. record_adds packed hidden d at.from ys r e)
  structure_layer (Structure-F.Set at base) =
      let x : Structure-F Structure TypeDenoter Fields = Structure-F.Set at base in
      structure_by (roll-Structure x) (ordinal_points base) (λ packed hidden d. set_type f packed hidden d at.from base)
      (fold-roll-Structure Points Points Points structure_points_step type_points_step fields_points_step x)
      (fold-roll-Structure StructureReading Reading FieldsReading (denoters.structure_step f) (denoters.type_step f)
      (denoters.fields_step f) x) (λ packed hidden d r e. set_adds packed hidden d at.from base r e)

  type_layer : (y : TypeDenoter-F AtStructure AtType AtFields) → TypeAdds
      (roll-TypeDenoter (map-TypeDenoter AtStructure AtType AtFields Structure TypeDenoter Fields (λ e. e.0) (λ e. e.0)
      (λ e. e.0) y))
  unfolding denoters.type_step
  type_layer (TypeDenoter-F.Ordinal o) =
      let x : TypeDenoter-F Structure TypeDenoter Fields = TypeDenoter-F.Ordinal o in
      type_by (roll-TypeDenoter x) (ordinal_points o) (λ hidden d. simple_type f hidden d o)
      (fold-roll-TypeDenoter Points Points Points structure_points_step type_points_step fields_points_step x)
      (fold-roll-TypeDenoter StructureReading Reading FieldsReading (denoters.structure_step f) (denoters.type_step f)
      (denoters.fields_step f) x) (λ hidden d r e. simple_adds hidden d o r e)
  type_layer (TypeDenoter-F.Pointer at domain) =
      let x : TypeDenoter-F Structure TypeDenoter Fields = TypeDenoter-F.Pointer at domain in
      type_by (roll-TypeDenoter x) [] (λ hidden d. pointer f hidden d domain)
      (fold-roll-TypeDenoter Points Points Points structure_points_step type_points_step fields_points_step x)
      (fold-roll-TypeDenoter StructureReading Reading FieldsReading (denoters.structure_step f) (denoters.type_step f)
      (denoters.fields_step f) x) (λ hidden d r e. pointer_adds hidden d domain r e)
  type_layer (TypeDenoter-F.Structure s) =
      let x : TypeDenoter-F Structure TypeDenoter Fields = TypeDenoter-F.Structure s.0 in
      type_by (roll-TypeDenoter x) (structure_points s.0) (λ hidden d. structure f s.0 None hidden d)
      (fold-roll-TypeDenoter Points Points Points structure_points_step type_points_step fields_points_step x)
      (fold-roll-TypeDenoter StructureReading Reading FieldsReading (denoters.structure_step f) (denoters.type_step f)
      (denoters.fields_step f) x) (λ hidden d r e. s.1 None hidden d r e)
  type_layer (TypeDenoter-F.Packed at s) =
      let x : TypeDenoter-F Structure TypeDenoter Fields = TypeDenoter-F.Packed at s.0 in
      type_by (roll-TypeDenoter x) (structure_points s.0) (λ hidden d. structure f s.0 (Some at.from) hidden d)
      (fold-roll-TypeDenoter Points Points Points structure_points_step type_points_step fields_points_step x)
      (fold-roll-TypeDenoter StructureReading Reading FieldsReading (denoters.structure_step f) (denoters.type_step f)
      (denoters.fields_step f) x) (λ hidden d r e. s.1 (Some at.from) hidden d r e)

  fields_layer : (y : Fields-F AtStructure AtType AtFields) → FieldsAdd
      (roll-Fields (map-Fields AtStructure AtType AtFields Structure TypeDenoter Fields (λ e. e.0) (λ e. e.0)
      (λ e. e.0) y))
  fields_layer y hidden d r e =
      let x : Fields-F Structure TypeDenoter Fields = record { names = y.names; ty = y.ty.0 } in
      let a : fields_points (roll-Fields x) ≡ type_points y.ty.0 = fold-roll-Fields Points Points Points
      structure_points_step type_points_step fields_points_step x in
      let c : fields f (roll-Fields x) ≡ (y.names, denoter f y.ty.0) = fold-roll-Fields StructureReading Reading
      FieldsReading (denoters.structure_step f) (denoters.type_step f) (denoters.fields_step f) x in
      subst (λ l. Adds f d l r.1) (sym a) (y.ty.1 hidden d r (ap (λ (q : FieldsReading). q.1 hidden d) (sym c) ∙ e))

  pub type_adds : (t : TypeDenoter) → TypeAdds t
  type_adds = ind-TypeDenoter StructureAdds TypeAdds FieldsAdd
      (λ x y is. subst (λ z. StructureAdds (roll-Structure z)) is (structure_layer y))
      (λ x y is. subst (λ z. TypeAdds (roll-TypeDenoter z)) is (type_layer y))
      (λ x y is. subst (λ z. FieldsAdd (roll-Fields z)) is (fields_layer y))
