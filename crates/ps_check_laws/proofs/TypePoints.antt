-- The enumeration constants within a type denoter are its points, and reading it makes them known.
use Rattle.std.proofs.Common.{◌≡◌, ℕ, pos, ◌+◌, List, [], ◌∷◌, ◌++◌, length, map, Option, Some, None, nat_lt, refl}
use Rattle.std.proofs.Common.{sym, ap, ◌∙◌, subst, append_assoc, append-nil}
use Rattle.std.proofs.lemmas.List.{map-append}
use Rattle.ps_check.proofs.EachItem.{each_append}
use Rattle.ps_text.specs.declared.Span.{Span}
use Rattle.ps_syntax.specs.First.{first_of_ordinal}
use Rattle.ps_syntax.specs.declared.program.Ordinal as syntax
use Rattle.ps_syntax.specs.declared.program.Ordinal.TheVariants as o
use Rattle.ps_syntax.specs.declared.program.Structure.{Structure, roll-Structure, map-Structure}
use Rattle.ps_syntax.specs.declared.program.TypeDenoter.{TypeDenoter, roll-TypeDenoter, map-TypeDenoter}
use Rattle.ps_syntax.specs.declared.program.Fields.{Fields, roll-Fields, map-Fields}
use Rattle.ps_syntax.specs.declared.program.Structure.TheOpen.{Structure-F, TypeDenoter-F, Fields-F}
use Rattle.ps_syntax.specs.declared.program.Structure.TheFolds.{fold-Structure, fold-Fields, fold-roll-Structure}
use Rattle.ps_syntax.specs.declared.program.Structure.TheFolds.{fold-roll-TypeDenoter, fold-roll-Fields}
use Rattle.ps_syntax.specs.declared.program.Structure.TheFolds.{ind-TypeDenoter}
use Rattle.ps_tree.specs.Types.{DataType, OrdinalType, RecordType, field_list, listed}
use Rattle.ps_tree.specs.declared.types.Ordinal.{Ordinal}
use Rattle.ps_check_judgement.specs.Judged.{Yes, steps}
use Rattle.ps_check_judgement.proofs.Binds.{inside_yes, then_yes, provided_yes}
use Rattle.ps_check_names.specs.Spelling.{spelled}
use Rattle.ps_check_names.specs.Regions.{Meaning, ConstantMeaning, LeftOutMeaning}
use Rattle.ps_check_declarations.specs.Points.{Points, all, new_points, ordinal_points, type_points, structure_points}
use Rattle.ps_check_declarations.specs.Points.{fields_points, type_points_step, structure_points_step}
use Rattle.ps_check_declarations.specs.Points.{fields_points_step}
use Rattle.ps_check_declarations.specs.Denoters as denoters
use Rattle.ps_check_declarations.specs.Denoters.{Frame, Declared, Hidden, Reading, StructureReading, FieldsReading}
use Rattle.ps_check_declarations.specs.Denoters.{Indices, FieldTypes, regions, passes, type_named, ordinal_at}
use Rattle.ps_check_declarations.specs.Denoters.{enumerated, constants_from, subrange_of, begins, is_packed}
use Rattle.ps_check_declarations.specs.Denoters.{index_begins, index_type, array_of, set_of, small, fields_of_type}
use Rattle.ps_check_declarations.specs.Denoters.{ordinal, pointer, add_fields, record_names, array_type, record_type}
use Rattle.ps_check_declarations.specs.Denoters.{set_type, simple_type, denoter, structure, fields}
use Rattle.ps_check_declarations.specs.declared.denoters.TheConstants.{CONSTANT_LIMIT}
use Rattle.ps_check_laws.specs.Definitions.{Declaration, Declarations, OfEnumeration, numbered, joined}
use Rattle.ps_check_laws.specs.Definitions.{ordinal_declarations, fields_step, structure_step, type_step}
use Rattle.ps_check_laws.specs.Definitions.{type_declarations, declared_name}
use Rattle.ps_check_laws.proofs.Lists.{Each}

abbrev pub constant_of : Declaration → Meaning
constant_of (OfEnumeration at count number name) = ConstantMeaning (enumerated at count) (pos number)
constant_of d = LeftOutMeaning

abbrev pub IsEnumerated : Declaration → Type 0
IsEnumerated (OfEnumeration at count number name) = Unit {0}
IsEnumerated d = ⊥

abbrev structure_declarations : Structure → Declarations
structure_declarations = fold-Structure Declarations Declarations Declarations structure_step type_step fields_step

abbrev fields_declarations : Fields → Declarations
fields_declarations = fold-Fields Declarations Declarations Declarations structure_step type_step fields_step

-- these are known too
abbrev pub Adds : Declared → Declarations → Declared → Type 0
Adds d ds e = (e.known ≡ d.known ++ map constant_of ds) × (e.variables ≡ d.variables)

adds_none : (d : Declared) → Adds d [] d
adds_none d = (sym (append-nil d.known), refl)

-- the last part makes nothing else known
adds_at : {A : Type 0} (d : Declared) (ds : Declarations) (x y : A × Declared) → Yes x ≡ Yes y → Adds d ds x.1
    → Adds d ds y.1
adds_at d ds x y e a = subst (λ (z : _ × Declared). Adds d ds z.1) (inside_yes x y e) a

adds_both : (d e g : Declared) (xs ys : Declarations) → Adds d xs e → Adds e ys g → Adds d (xs ++ ys) g
adds_both d e g xs ys a b = (
  b.0 ∙ ap (λ l. l ++ map constant_of ys) a.0 ∙ append_assoc d.known (map constant_of xs)
      (map constant_of ys) ∙ ap (λ l. d.known ++ l) (sym (map-append constant_of xs ys)),
  b.1 ∙ a.1,
)

-- what is known of the constants within a part of a denoter
pub record Points' (ds : Declarations) (points : Points) : Type 0 where
  pub names : map declared_name ds ≡ points
  pub constants : Each IsEnumerated ds

none_there : Points' [] []
none_there = record { names = refl; constants = tt }

both_there : (xs ys : Declarations) (a b : Points) → Points' xs a → Points' ys b → Points' (xs ++ ys) (a ++ b)
both_there xs ys a b x y = record {
  names = map-append declared_name xs ys ∙ ap (λ l. l ++ map declared_name ys) x.names ∙ ap (λ l. a ++ l) y.names;
  constants = each_append IsEnumerated xs ys x.constants y.constants;
}

-- ---- ordinal types

numbered_names : (at count n : ℕ) (names : Points) → map declared_name (numbered (OfEnumeration at count) n names)
    ≡ names
numbered_names at count n [] = refl
numbered_names at count n (x ∷ xs) = ap (λ l. x ∷ l) (numbered_names at count (n + 1) xs)

numbered_constants : (at count n : ℕ) (names : Points) → Each IsEnumerated (numbered (OfEnumeration at count) n names)
numbered_constants at count n [] = tt
numbered_constants at count n (x ∷ xs) = (tt, numbered_constants at count (n + 1) xs)

numbered_meanings : (at count n : ℕ) (names : Points) → constants_from (enumerated at count) n names ≡ map constant_of
    (numbered (OfEnumeration at count) n names)
numbered_meanings at count n [] = refl
numbered_meanings at count n (x ∷ xs) = ap (λ l. ConstantMeaning (enumerated at count) (pos n) ∷ l)
    (numbered_meanings at count (n + 1) xs)

ordinal_there : (x : syntax.Ordinal) → Points' (ordinal_declarations x) (ordinal_points x)
unfolding ordinal_declarations ordinal_points
ordinal_there (o.Name at) = none_there
ordinal_there (o.Enumeration at names) = record {
  names = numbered_names at.from (length names) 0 names;
  constants = numbered_constants at.from (length names) 0 names;
}
ordinal_there (o.Subrange low high) = none_there

ordinals_there : (xs : List syntax.Ordinal) → Points' (joined (map ordinal_declarations xs))
    (all (map ordinal_points xs))
ordinals_there [] = none_there
ordinals_there (x ∷ xs) = both_there (ordinal_declarations x) (joined (map ordinal_declarations xs)) (ordinal_points x)
    (all (map ordinal_points xs)) (ordinal_there x) (ordinals_there xs)

-- ---- readings

module _ (f : Frame) where
  ordinal_adds : (hidden : Hidden) (d : Declared) (x : syntax.Ordinal) (r : Ordinal × Declared) → ordinal f hidden d x
      ≡ Yes r → Adds d (ordinal_declarations x) r.1
  unfolding ordinal ordinal_declarations
  ordinal_adds hidden d (o.Name at) r e =
      let t = then_yes (type_named f.text (regions f hidden d.known) at) _ r e in
      let q = then_yes (ordinal_at at.from t.0) _ r t.2 in
      adds_at d [] (q.0, d) r q.2 (adds_none d)
  ordinal_adds hidden d (o.Enumeration at names) r e =
      let made : Ordinal × Declared = (
        enumerated at.from (length names),
        denoters.with_known d
            (d.known ++ constants_from (enumerated at.from (length names)) 0 names),
      ) in
      let n = then_yes (new_points f.text f.names f.begun (length d.known) names) _ r e in
      let q = provided_yes (nat_lt (length names) CONSTANT_LIMIT) _ _ made r n.2 in
      adds_at d (numbered (OfEnumeration at.from (length names)) 0 names) made r (ap (λ z. Yes z) q.1)
      (ap (λ l. d.known ++ l) (numbered_meanings at.from (length names) 0 names), refl)
  ordinal_adds hidden d (o.Subrange low high) r e =
      let q = then_yes (subrange_of f hidden d.known (first_of_ordinal (o.Subrange low high)) low high) _ r e in
      adds_at d [] (q.0, d) r q.2 (adds_none d)

  indices_add : (hidden : Hidden) (at : ℕ) (xs : List syntax.Ordinal) (s t : Indices × Declared) → steps
      (index_type f hidden at) s xs ≡ Yes t → Adds s.1 (joined (map ordinal_declarations xs)) t.1
  indices_add hidden at [] s t e = adds_at s.1 [] s t e (adds_none s.1)
  indices_add hidden at (x ∷ xs) s t e =
      let one = then_yes (index_type f hidden at s x) _ t e in
      let r = then_yes (ordinal f hidden s.1 x) _ one.0 one.1 in
      adds_both s.1 one.0.1 t.1 (ordinal_declarations x) (joined (map ordinal_declarations xs))
      (adds_at s.1 (ordinal_declarations x) (s.0 ++ (index_begins at s.0 x, r.0.0) ∷ [], r.0.1) one.0 r.2
      (ordinal_adds hidden s.1 x r.0 r.1)) (indices_add hidden at xs one.0 t one.2)

  simple_adds : (hidden : Hidden) (d : Declared) (x : syntax.Ordinal) (r : DataType × Declared)
      → simple_type f hidden d x ≡ Yes r → Adds d (ordinal_declarations x) r.1
  unfolding simple_type ordinal_declarations
  simple_adds hidden d (o.Name at) r e =
      let t = then_yes (type_named f.text (regions f hidden d.known) at) _ r e in
      adds_at d [] (t.0, d) r t.2 (adds_none d)
  simple_adds hidden d (o.Enumeration at names) r e =
      let t = then_yes (ordinal f hidden d (o.Enumeration at names)) _ r e in
      adds_at d (ordinal_declarations (o.Enumeration at names)) (OrdinalType t.0.0, t.0.1) r t.2
      (ordinal_adds hidden d (o.Enumeration at names) t.0 t.1)
  simple_adds hidden d (o.Subrange low high) r e =
      let t = then_yes (ordinal f hidden d (o.Subrange low high)) _ r e in
      adds_at d (ordinal_declarations (o.Subrange low high)) (OrdinalType t.0.0, t.0.1) r t.2
      (ordinal_adds hidden d (o.Subrange low high) t.0 t.1)

  -- ---- all parts of denoters

  pub record TypeTold (t : TypeDenoter) : Type 0 where
    pub there : Points' (type_declarations t) (type_points t)
    pub adds : (hidden : Hidden) (d : Declared) (r : DataType × Declared) → denoter f t hidden d ≡ Yes r → Adds d
        (type_declarations t) r.1

  record StructureTold (s : Structure) : Type 0 where
    there : Points' (structure_declarations s) (structure_points s)
    adds : (packed : Option ℕ) (hidden : Hidden) (d : Declared) (r : DataType × Declared)
        → structure f s packed hidden d ≡ Yes r → Adds d (structure_declarations s) r.1

  record FieldsTold (x : Fields) : Type 0 where
    there : Points' (fields_declarations x) (fields_points x)
    adds : (hidden : Hidden) (d : Declared) (r : DataType × Declared) → (fields f x).1 hidden d ≡ Yes r → Adds d
        (fields_declarations x) r.1

  abbrev first_of : List ((x : Fields) × FieldsTold x) → List Fields
  first_of ys = map (λ y. y.0) ys

  all_there : (ys : List ((x : Fields) × FieldsTold x)) → Points' (joined (map fields_declarations (first_of ys)))
      (all (map fields_points (first_of ys)))
  all_there [] = none_there
  all_there (y ∷ ys) = both_there (fields_declarations y.0) (joined (map fields_declarations (first_of ys)))
      (fields_points y.0) (all (map fields_points (first_of ys))) y.1.there (all_there ys)

  all_add : (names : List (List ℕ)) (hidden : Hidden) (ys : List ((x : Fields) × FieldsTold x))
      (s t : FieldTypes × Declared) → steps (add_fields f names hidden) s (map (fields f) (first_of ys)) ≡ Yes t
      → Adds s.1 (joined (map fields_declarations (first_of ys))) t.1
  all_add names hidden [] s t e = adds_at s.1 [] s t e (adds_none s.1)
  all_add names hidden (y ∷ ys) s t e =
      let one = then_yes (add_fields f names hidden s (fields f y.0)) _ t e in
      let n = then_yes (new_points f.text names [] (length s.0) (fields f y.0).0) _ one.0 one.1 in
      let r = then_yes ((fields f y.0).1 ((names, n.0) ∷ hidden) s.1) _ one.0 n.2 in
      adds_both s.1 one.0.1 t.1 (fields_declarations y.0) (joined (map fields_declarations (first_of ys)))
      (adds_at s.1 (fields_declarations y.0) (s.0 ++ fields_of_type r.0.0 (fields f y.0).0, r.0.1) one.0 r.2
      (y.1.adds ((names, n.0) ∷ hidden) s.1 r.0 r.1)) (all_add names hidden ys one.0 t one.2)

  structure_told : (x : Structure) (ds : Declarations) (points : Points) (reading : StructureReading)
      → structure_declarations x ≡ ds → structure_points x ≡ points → structure f x ≡ reading
      → Points' ds points → ((packed : Option ℕ) (hidden : Hidden) (d : Declared) (r : DataType × Declared)
      → reading packed hidden d ≡ Yes r → Adds d ds r.1) → StructureTold x
  structure_told x ds points reading a b c there adds = record {
    there = subst (λ l. Points' l (structure_points x)) (sym a) (subst (Points' ds) (sym b) there);
    adds = λ packed hidden d r e. subst (λ l. Adds d l r.1) (sym a)
        (adds packed hidden d r (ap (λ (q : StructureReading). q packed hidden d) (sym c) ∙ e));
  }

  type_told_by : (x : TypeDenoter) (ds : Declarations) (points : Points) (reading : Reading) → type_declarations x ≡ ds
      → type_points x ≡ points → denoter f x ≡ reading
      → Points' ds points → ((hidden : Hidden) (d : Declared) (r : DataType × Declared) → reading hidden d ≡ Yes r
      → Adds d ds r.1) → TypeTold x
  type_told_by x ds points reading a b c there adds = record {
    there = subst (λ l. Points' l (type_points x)) (sym a) (subst (Points' ds) (sym b) there);
    adds = λ hidden d r e. subst (λ l. Adds d l r.1) (sym a)
        (adds hidden d r (ap (λ (q : Reading). q hidden d) (sym c) ∙ e));
  }

  array_adds : (packed : Option ℕ) (hidden : Hidden) (d : Declared) (at : ℕ) (xs : List syntax.Ordinal)
      (c : TypeDenoter) → TypeTold c → (r : DataType × Declared) → array_type f packed hidden d at xs (denoter f c)
      ≡ Yes r
      → Adds d (joined (map ordinal_declarations xs) ++ type_declarations c) r.1
  unfolding array_type
  array_adds packed hidden d at xs c told r e =
      let is = then_yes (steps (index_type f hidden (begins packed at)) ([], d) xs) _ r e in
      let q = then_yes (denoter f c hidden is.0.1) _ r is.2 in
      let t = then_yes (array_of (is_packed packed) is.0.0 q.0.0) _ r q.2 in
      adds_both d is.0.1 r.1 (joined (map ordinal_declarations xs)) (type_declarations c)
      (indices_add hidden (begins packed at) xs ([], d) is.0 is.1)
      (adds_at is.0.1 (type_declarations c) (t.0, q.0.1) r t.2 (told.adds hidden is.0.1 q.0 q.1))

  record_adds : (packed : Option ℕ) (hidden : Hidden) (d : Declared) (at : ℕ) (ys : List ((x : Fields) × FieldsTold x))
      (r : DataType × Declared) → record_type f packed hidden d at (map (fields f) (first_of ys)) ≡ Yes r
      → Adds d (joined (map fields_declarations (first_of ys))) r.1
  unfolding record_type
  record_adds packed hidden d at ys r e =
      let names = record_names f (map (fields f) (first_of ys)) in
      let types = then_yes (steps (add_fields f names hidden) ([], d) (map (fields f) (first_of ys))) _ r e in
      let t = then_yes (small (begins packed at)
      (RecordType (begins packed at) (is_packed packed) (field_list names (listed types.0.0)))) _ r types.2 in
      adds_at d (joined (map fields_declarations (first_of ys))) (t.0, types.0.1) r t.2
      (all_add names hidden ys ([], d) types.0 types.1)

  set_adds : (packed : Option ℕ) (hidden : Hidden) (d : Declared) (at : ℕ) (x : syntax.Ordinal)
      (r : DataType × Declared) → set_type f packed hidden d at x ≡ Yes r → Adds d (ordinal_declarations x) r.1
  unfolding set_type
  set_adds packed hidden d at x r e =
      let q = then_yes (ordinal f hidden d x) _ r e in
      let t = then_yes (set_of at (begins packed at) (is_packed packed) q.0.0) _ r q.2 in
      adds_at d (ordinal_declarations x) (t.0, q.0.1) r t.2 (ordinal_adds hidden d x q.0 q.1)

  abbrev AtStructure : Type 0
  AtStructure = (x : Structure) × StructureTold x

  abbrev AtType : Type 0
  AtType = (x : TypeDenoter) × TypeTold x

  abbrev AtFields : Type 0
  AtFields = (x : Fields) × FieldsTold x

  pointer_adds : (hidden : Hidden) (d : Declared) (domain : Span) (r : DataType × Declared) → pointer f hidden d domain
      ≡ Yes r → Adds d [] r.1
  pointer_adds hidden d domain r e =
      let free = then_yes (passes hidden (spelled f.text domain) domain.from) _ r e in
      let q = provided_yes _ _ _ _ r free.2 in
      adds_at d [] _ r (ap (λ z. Yes z) q.1) (adds_none d)

  structure_layer : (y : Structure-F AtStructure AtType AtFields) → StructureTold
      (roll-Structure (map-Structure AtStructure AtType AtFields Structure TypeDenoter Fields (λ e. e.0) (λ e. e.0)
      (λ e. e.0) y))
  unfolding denoters.structure_step
  structure_layer (Structure-F.Array at xs c) =
      let x : Structure-F Structure TypeDenoter Fields = Structure-F.Array at xs c.0 in
      structure_told (roll-Structure x) (joined (map ordinal_declarations xs) ++ type_declarations c.0)
      (all (map ordinal_points xs) ++ type_points c.0)
      (λ packed hidden d. array_type f packed hidden d at.from xs (denoter f c.0))
      (fold-roll-Structure Declarations Declarations Declarations structure_step type_step fields_step x)
      (fold-roll-Structure Points Points Points structure_points_step type_points_step fields_points_step x)
      (fold-roll-Structure StructureReading Reading FieldsReading (denoters.structure_step f) (denoters.type_step f)
      (denoters.fields_step f) x)
      (both_there (joined (map ordinal_declarations xs)) (type_declarations c.0) (all (map ordinal_points xs))
      (type_points c.0) (ordinals_there xs) c.1.there)
      (λ packed hidden d r e. array_adds packed hidden d at.from xs c.0 c.1 r e)
  structure_layer (Structure-F.Record at ys) =
      let x : Structure-F Structure TypeDenoter Fields = Structure-F.Record at (first_of ys) in
      structure_told (roll-Structure x) (joined (map fields_declarations (first_of ys)))
      (all (map fields_points (first_of ys)))
      (λ packed hidden d. record_type f packed hidden d at.from (map (fields f) (first_of ys)))
      (fold-roll-Structure Declarations Declarations Declarations structure_step type_step fields_step x)
      (fold-roll-Structure Points Points Points structure_points_step type_points_step fields_points_step x)
      (fold-roll-Structure StructureReading Reading FieldsReading (denoters.structure_step f) (denoters.type_step f)
      (denoters.fields_step f) x)
      (all_there ys) (λ packed hidden d r e. record_adds packed hidden d at.from ys r e)
  structure_layer (Structure-F.Set at base) =
      let x : Structure-F Structure TypeDenoter Fields = Structure-F.Set at base in
      structure_told (roll-Structure x) (ordinal_declarations base) (ordinal_points base)
      (λ packed hidden d. set_type f packed hidden d at.from base)
      (fold-roll-Structure Declarations Declarations Declarations structure_step type_step fields_step x)
      (fold-roll-Structure Points Points Points structure_points_step type_points_step fields_points_step x)
      (fold-roll-Structure StructureReading Reading FieldsReading (denoters.structure_step f) (denoters.type_step f)
      (denoters.fields_step f) x)
      (ordinal_there base) (λ packed hidden d r e. set_adds packed hidden d at.from base r e)

  type_layer : (y : TypeDenoter-F AtStructure AtType AtFields) → TypeTold
      (roll-TypeDenoter (map-TypeDenoter AtStructure AtType AtFields Structure TypeDenoter Fields (λ e. e.0) (λ e. e.0)
      (λ e. e.0) y))
  unfolding denoters.type_step
  type_layer (TypeDenoter-F.Ordinal o) =
      let x : TypeDenoter-F Structure TypeDenoter Fields = TypeDenoter-F.Ordinal o in
      type_told_by (roll-TypeDenoter x) (ordinal_declarations o) (ordinal_points o)
      (λ hidden d. simple_type f hidden d o)
      (fold-roll-TypeDenoter Declarations Declarations Declarations structure_step type_step fields_step x)
      (fold-roll-TypeDenoter Points Points Points structure_points_step type_points_step fields_points_step x)
      (fold-roll-TypeDenoter StructureReading Reading FieldsReading (denoters.structure_step f) (denoters.type_step f)
      (denoters.fields_step f) x)
      (ordinal_there o) (λ hidden d r e. simple_adds hidden d o r e)
  type_layer (TypeDenoter-F.Pointer at domain) =
      let x : TypeDenoter-F Structure TypeDenoter Fields = TypeDenoter-F.Pointer at domain in
      type_told_by (roll-TypeDenoter x) [] [] (λ hidden d. pointer f hidden d domain)
      (fold-roll-TypeDenoter Declarations Declarations Declarations structure_step type_step fields_step x)
      (fold-roll-TypeDenoter Points Points Points structure_points_step type_points_step fields_points_step x)
      (fold-roll-TypeDenoter StructureReading Reading FieldsReading (denoters.structure_step f) (denoters.type_step f)
      (denoters.fields_step f) x)
      none_there (λ hidden d r e. pointer_adds hidden d domain r e)
  type_layer (TypeDenoter-F.Structure s) =
      let x : TypeDenoter-F Structure TypeDenoter Fields = TypeDenoter-F.Structure s.0 in
      type_told_by (roll-TypeDenoter x) (structure_declarations s.0) (structure_points s.0)
      (λ hidden d. structure f s.0 None hidden d)
      (fold-roll-TypeDenoter Declarations Declarations Declarations structure_step type_step fields_step x)
      (fold-roll-TypeDenoter Points Points Points structure_points_step type_points_step fields_points_step x)
      (fold-roll-TypeDenoter StructureReading Reading FieldsReading (denoters.structure_step f) (denoters.type_step f)
      (denoters.fields_step f) x)
      s.1.there (λ hidden d r e. s.1.adds None hidden d r e)
  type_layer (TypeDenoter-F.Packed at s) =
      let x : TypeDenoter-F Structure TypeDenoter Fields = TypeDenoter-F.Packed at s.0 in
      type_told_by (roll-TypeDenoter x) (structure_declarations s.0) (structure_points s.0)
      (λ hidden d. structure f s.0 (Some at.from) hidden d)
      (fold-roll-TypeDenoter Declarations Declarations Declarations structure_step type_step fields_step x)
      (fold-roll-TypeDenoter Points Points Points structure_points_step type_points_step fields_points_step x)
      (fold-roll-TypeDenoter StructureReading Reading FieldsReading (denoters.structure_step f) (denoters.type_step f)
      (denoters.fields_step f) x)
      s.1.there (λ hidden d r e. s.1.adds (Some at.from) hidden d r e)

  fields_layer : (y : Fields-F AtStructure AtType AtFields) → FieldsTold
      (roll-Fields (map-Fields AtStructure AtType AtFields Structure TypeDenoter Fields (λ e. e.0) (λ e. e.0)
      (λ e. e.0) y))
  fields_layer y =
      let x : Fields-F Structure TypeDenoter Fields = record { names = y.names; ty = y.ty.0 } in
      let a : fields_declarations (roll-Fields x)
      ≡ type_declarations y.ty.0 = fold-roll-Fields Declarations Declarations Declarations structure_step type_step
      fields_step x in
      let b : fields_points (roll-Fields x) ≡ type_points y.ty.0 = fold-roll-Fields Points Points Points
      structure_points_step type_points_step fields_points_step x in
      let c : fields f (roll-Fields x) ≡ (y.names, denoter f y.ty.0) = fold-roll-Fields StructureReading Reading
      FieldsReading (denoters.structure_step f) (denoters.type_step f) (denoters.fields_step f) x in
      record {
        there = subst (λ l. Points' l (fields_points (roll-Fields x))) (sym a)
            (subst (Points' (type_declarations y.ty.0)) (sym b) y.ty.1.there);
        adds = λ hidden d r e. subst (λ l. Adds d l r.1) (sym a)
            (y.ty.1.adds hidden d r (ap (λ (q : FieldsReading). q.1 hidden d) (sym c) ∙ e));
      }

  pub types_told : (t : TypeDenoter) → TypeTold t
  types_told = ind-TypeDenoter StructureTold TypeTold FieldsTold
      (λ x y is. subst (λ z. StructureTold (roll-Structure z)) is (structure_layer y))
      (λ x y is. subst (λ z. TypeTold (roll-TypeDenoter z)) is (type_layer y))
      (λ x y is. subst (λ z. FieldsTold (roll-Fields z)) is (fields_layer y))
