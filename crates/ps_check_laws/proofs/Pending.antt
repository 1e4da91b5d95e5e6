-- Reading a type denoter makes exactly the names of the domain types within it pending.
use Rattle.std.proofs.Common.{◌≡◌, ℕ, suc, ◌+◌, List, [], ◌∷◌, ◌++◌, length, map, nat_lt, Option, Some, None, slice_get}
use Rattle.std.proofs.Common.{refl, sym, ap, ◌∙◌, subst, append_assoc, append-nil}
use Rattle.std.proofs.lemmas.List.{map-append}
use Rattle.ps_text.specs.declared.Span.{Span}
use Rattle.ps_syntax.specs.First.{first_of_ordinal}
use Rattle.ps_syntax.specs.declared.program.Ordinal as syntax
use Rattle.ps_syntax.specs.declared.program.Ordinal.TheVariants as o
use Rattle.ps_syntax.specs.declared.program.Structure.{Structure, roll-Structure, map-Structure}
use Rattle.ps_syntax.specs.declared.program.TypeDenoter.{TypeDenoter, roll-TypeDenoter, map-TypeDenoter}
use Rattle.ps_syntax.specs.declared.program.Fields.{Fields, roll-Fields, map-Fields}
use Rattle.ps_syntax.specs.declared.program.Structure.TheOpen.{Structure-F, TypeDenoter-F, Fields-F}
use Rattle.ps_syntax.specs.declared.program.Structure.TheFolds.{fold-Structure, fold-Fields, fold-roll-Structure}
use Rattle.ps_syntax.specs.declared.program.Structure.TheFolds.{fold-roll-TypeDenoter, fold-roll-Fields}
use Rattle.ps_syntax.specs.declared.program.Structure.TheFolds.{ind-TypeDenoter}
use Rattle.ps_tree.specs.Types.{DataType, OrdinalType, RecordType, field_list, listed}
use Rattle.ps_tree.specs.declared.types.Ordinal.{Ordinal}
use Rattle.ps_check_judgement.specs.Judged.{Yes, steps}
use Rattle.ps_check_judgement.proofs.Binds.{inside_yes, then_yes, provided_yes}
use Rattle.ps_check_judgement.proofs.Items.{get_stays}
use Rattle.ps_check_names.specs.Spelling.{spelled}
use Rattle.ps_check_names.specs.Regions.{Meaning}
use Rattle.ps_check_declarations.specs.Points.{Points, all, new_points}
use Rattle.ps_check_declarations.specs.Denoters as denoters
use Rattle.ps_check_declarations.specs.Denoters.{Frame, Declared, Hidden, Reading, StructureReading, FieldsReading}
use Rattle.ps_check_declarations.specs.Denoters.{Indices, FieldTypes, regions, passes, type_named, ordinal_at}
use Rattle.ps_check_declarations.specs.Denoters.{enumerated, constants_from, subrange_of, begins, is_packed}
use Rattle.ps_check_declarations.specs.Denoters.{index_begins, index_type, array_of, set_of, small, fields_of_type}
use Rattle.ps_check_declarations.specs.Denoters.{ordinal, pointer, add_fields, record_names, array_type, record_type}
use Rattle.ps_check_declarations.specs.Denoters.{set_type, simple_type, denoter, structure, fields}
use Rattle.ps_check_declarations.specs.declared.denoters.TheConstants.{CONSTANT_LIMIT}
use Rattle.ps_check_laws.specs.Domains.{fields_step, structure_step, type_step, domain_names, AreDomains}
use Rattle.ps_check_laws.specs.Definitions.{Declarations, OfDeclaration}

abbrev structure_domains : Structure → Points
structure_domains = fold-Structure Points Points Points structure_step type_step fields_step

abbrev fields_domains : Fields → Points
fields_domains = fold-Fields Points Points Points structure_step type_step fields_step

pub declarations_length : (xs : Declarations) → length (map OfDeclaration xs) ≡ length xs
declarations_length [] = refl
declarations_length (x ∷ xs) = ap suc (declarations_length xs)

-- where more domain types come after
pub domains_stay : (f : Frame) (known : List Meaning) (base : ℕ) (names : Points) (domains more whole : List DataType)
    → whole ≡ domains ++ more → AreDomains f known base names domains → AreDomains f known base names whole
domains_stay f known base names domains more whole e are i name at =
    let r = are i name at in
    (r.0, r.1, ap (λ l. slice_get l (base + i)) e ∙ get_stays domains more (base + i) r.0 r.2)

-- the names that are pending
abbrev pub pending_names : List (Span × ℕ) → Points
pending_names ws = map (λ w. w.0) ws

abbrev pub waiting : Declared → Points
waiting d = pending_names d.pending

-- these names are pending too
pub record Waits (d : Declared) (names : Points) (e : Declared) : Type 0 where
  pub pending : waiting e ≡ waiting d ++ names
  pub domains : e.domains ≡ d.domains

pub waits_none : (d : Declared) → Waits d [] d
waits_none d = record { pending = sym (append-nil (waiting d)); domains = refl }

waits_at : {A : Type 0} (d : Declared) (names : Points) (x y : A × Declared) → Yes x ≡ Yes y → Waits d names x.1
    → Waits d names y.1
waits_at d names x y e a = subst (λ (z : _ × Declared). Waits d names z.1) (inside_yes x y e) a

pub waits_both : (d e g : Declared) (xs ys : Points) → Waits d xs e → Waits e ys g → Waits d (xs ++ ys) g
waits_both d e g xs ys a b = record {
  pending = b.pending ∙ ap (λ l. l ++ ys) a.pending ∙ append_assoc (waiting d) xs ys;
  domains = b.domains ∙ a.domains;
}

module _ (f : Frame) where
  ordinal_waits : (hidden : Hidden) (d : Declared) (x : syntax.Ordinal) (r : Ordinal × Declared) → ordinal f hidden d x
      ≡ Yes r → Waits d [] r.1
  unfolding ordinal
  ordinal_waits hidden d (o.Name at) r e =
      let t = then_yes (type_named f.text (regions f hidden d.known) at) _ r e in
      let q = then_yes (ordinal_at at.from t.0) _ r t.2 in
      waits_at d [] (q.0, d) r q.2 (waits_none d)
  ordinal_waits hidden d (o.Enumeration at names) r e =
      let made : Ordinal × Declared = (
        enumerated at.from (length names),
        denoters.with_known d
            (d.known ++ constants_from (enumerated at.from (length names)) 0 names),
      ) in
      let n = then_yes (new_points f.text f.names f.begun (length d.known) names) _ r e in
      let q = provided_yes (nat_lt (length names) CONSTANT_LIMIT) _ _ made r n.2 in
      waits_at d [] made r (ap (λ z. Yes z) q.1) (record { pending = sym (append-nil (waiting d)); domains = refl })
  ordinal_waits hidden d (o.Subrange low high) r e =
      let q = then_yes (subrange_of f hidden d.known (first_of_ordinal (o.Subrange low high)) low high) _ r e in
      waits_at d [] (q.0, d) r q.2 (waits_none d)

  indices_wait : (hidden : Hidden) (at : ℕ) (xs : List syntax.Ordinal) (s t : Indices × Declared) → steps
      (index_type f hidden at) s xs ≡ Yes t → Waits s.1 [] t.1
  indices_wait hidden at [] s t e = waits_at s.1 [] s t e (waits_none s.1)
  indices_wait hidden at (x ∷ xs) s t e =
      let one = then_yes (index_type f hidden at s x) _ t e in
      let r = then_yes (ordinal f hidden s.1 x) _ one.0 one.1 in
      waits_both s.1 one.0.1 t.1 [] [] (waits_at s.1 [] (s.0 ++ (index_begins at s.0 x, r.0.0) ∷ [], r.0.1) one.0 r.2
      (ordinal_waits hidden s.1 x r.0 r.1)) (indices_wait hidden at xs one.0 t one.2)

  simple_waits : (hidden : Hidden) (d : Declared) (x : syntax.Ordinal) (r : DataType × Declared)
      → simple_type f hidden d x ≡ Yes r → Waits d [] r.1
  unfolding simple_type
  simple_waits hidden d (o.Name at) r e =
      let t = then_yes (type_named f.text (regions f hidden d.known) at) _ r e in
      waits_at d [] (t.0, d) r t.2 (waits_none d)
  simple_waits hidden d (o.Enumeration at names) r e =
      let t = then_yes (ordinal f hidden d (o.Enumeration at names)) _ r e in
      waits_at d [] (OrdinalType t.0.0, t.0.1) r t.2 (ordinal_waits hidden d (o.Enumeration at names) t.0 t.1)
  simple_waits hidden d (o.Subrange low high) r e =
      let t = then_yes (ordinal f hidden d (o.Subrange low high)) _ r e in
      waits_at d [] (OrdinalType t.0.0, t.0.1) r t.2 (ordinal_waits hidden d (o.Subrange low high) t.0 t.1)

  -- ---- all parts of denoters

  abbrev pub TypeWaits : TypeDenoter → Type 0
  TypeWaits t = (hidden : Hidden) (d : Declared) (r : DataType × Declared) → denoter f t hidden d ≡ Yes r → Waits d
      (domain_names t) r.1

  abbrev StructureWaits : Structure → Type 0
  StructureWaits s = (packed : Option ℕ) (hidden : Hidden) (d : Declared) (r : DataType × Declared)
      → structure f s packed hidden d ≡ Yes r → Waits d (structure_domains s) r.1

  abbrev FieldsWait : Fields → Type 0
  FieldsWait x = (hidden : Hidden) (d : Declared) (r : DataType × Declared) → (fields f x).1 hidden d ≡ Yes r → Waits d
      (fields_domains x) r.1

  abbrev AtStructure : Type 0
  AtStructure = (x : Structure) × StructureWaits x

  abbrev AtType : Type 0
  AtType = (x : TypeDenoter) × TypeWaits x

  abbrev AtFields : Type 0
  AtFields = (x : Fields) × FieldsWait x

  abbrev first_of : List AtFields → List Fields
  first_of ys = map (λ y. y.0) ys

  all_wait : (names : List (List ℕ)) (hidden : Hidden) (ys : List AtFields) (s t : FieldTypes × Declared) → steps
      (add_fields f names hidden) s (map (fields f) (first_of ys)) ≡ Yes t → Waits s.1
      (all (map fields_domains (first_of ys))) t.1
  all_wait names hidden [] s t e = waits_at s.1 [] s t e (waits_none s.1)
  all_wait names hidden (y ∷ ys) s t e =
      let one = then_yes (add_fields f names hidden s (fields f y.0)) _ t e in
      let n = then_yes (new_points f.text names [] (length s.0) (fields f y.0).0) _ one.0 one.1 in
      let r = then_yes ((fields f y.0).1 ((names, n.0) ∷ hidden) s.1) _ one.0 n.2 in
      waits_both s.1 one.0.1 t.1 (fields_domains y.0) (all (map fields_domains (first_of ys)))
      (waits_at s.1 (fields_domains y.0) (s.0 ++ fields_of_type r.0.0 (fields f y.0).0, r.0.1) one.0 r.2
      (y.1 ((names, n.0) ∷ hidden) s.1 r.0 r.1)) (all_wait names hidden ys one.0 t one.2)

  structure_by : (x : Structure) (names : Points) (reading : StructureReading) → structure_domains x ≡ names
      → structure f x ≡ reading
      → ((packed : Option ℕ) (hidden : Hidden) (d : Declared) (r : DataType × Declared) → reading packed hidden d
      ≡ Yes r → Waits d names r.1) → StructureWaits x
  structure_by x names reading a c waits packed hidden d r e = subst (λ l. Waits d l r.1) (sym a)
      (waits packed hidden d r (ap (λ (q : StructureReading). q packed hidden d) (sym c) ∙ e))

  type_by : (x : TypeDenoter) (names : Points) (reading : Reading) → domain_names x ≡ names → denoter f x ≡ reading
      → ((hidden : Hidden) (d : Declared) (r : DataType × Declared) → reading hidden d ≡ Yes r → Waits d names r.1)
      → TypeWaits x
  type_by x names reading a c waits hidden d r e = subst (λ l. Waits d l r.1) (sym a)
      (waits hidden d r (ap (λ (q : Reading). q hidden d) (sym c) ∙ e))

  array_waits : (packed : Option ℕ) (hidden : Hidden) (d : Declared) (at : ℕ) (xs : List syntax.Ordinal)
      (c : TypeDenoter) → TypeWaits c → (r : DataType × Declared) → array_type f packed hidden d at xs (denoter f c)
      ≡ Yes r → Waits d (domain_names c) r.1
  unfolding array_type
  array_waits packed hidden d at xs c told r e =
      let is = then_yes (steps (index_type f hidden (begins packed at)) ([], d) xs) _ r e in
      let q = then_yes (denoter f c hidden is.0.1) _ r is.2 in
      let t = then_yes (array_of (is_packed packed) is.0.0 q.0.0) _ r q.2 in
      waits_both d is.0.1 r.1 [] (domain_names c) (indices_wait hidden (begins packed at) xs ([], d) is.0 is.1)
      (waits_at is.0.1 (domain_names c) (t.0, q.0.1) r t.2 (told hidden is.0.1 q.0 q.1))

  record_waits : (packed : Option ℕ) (hidden : Hidden) (d : Declared) (at : ℕ) (ys : List AtFields)
      (r : DataType × Declared) → record_type f packed hidden d at (map (fields f) (first_of ys)) ≡ Yes r → Waits d
      (all (map fields_domains (first_of ys))) r.1
  unfolding record_type
  record_waits packed hidden d at ys r e =
      let names = record_names f (map (fields f) (first_of ys)) in
      let types = then_yes (steps (add_fields f names hidden) ([], d) (map (fields f) (first_of ys))) _ r e in
      let t = then_yes (small (begins packed at)
      (RecordType (begins packed at) (is_packed packed) (field_list names (listed types.0.0)))) _ r types.2 in
      waits_at d (all (map fields_domains (first_of ys))) (t.0, types.0.1) r t.2
      (all_wait names hidden ys ([], d) types.0 types.1)

  set_waits : (packed : Option ℕ) (hidden : Hidden) (d : Declared) (at : ℕ) (x : syntax.Ordinal)
      (r : DataType × Declared) → set_type f packed hidden d at x ≡ Yes r → Waits d [] r.1
  unfolding set_type
  set_waits packed hidden d at x r e =
      let q = then_yes (ordinal f hidden d x) _ r e in
      let t = then_yes (set_of at (begins packed at) (is_packed packed) q.0.0) _ r q.2 in
      waits_at d [] (t.0, q.0.1) r t.2 (ordinal_waits hidden d x q.0 q.1)

  pointer_waits : (hidden : Hidden) (d : Declared) (domain : Span) (r : DataType × Declared) → pointer f hidden d domain
      ≡ Yes r → Waits d (domain ∷ []) r.1
  pointer_waits hidden d domain r e =
      let free = then_yes (passes hidden (spelled f.text domain) domain.from) _ r e in
      let q = provided_yes _ _ _ _ r free.2 in
      waits_at d (domain ∷ []) _ r (ap (λ z. Yes z) q.1) (record {
        pending = map-append (λ (w : Span × ℕ). w.0) d.pending ((domain, length d.known) ∷ []);
        domains = refl;
      })

  structure_layer : (y : Structure-F AtStructure AtType AtFields) → StructureWaits
      (roll-Structure (map-Structure AtStructure AtType AtFields Structure TypeDenoter Fields (λ e. e.0) (λ e. e.0)
      (λ e. e.0) y))
  unfolding denoters.structure_step
  structure_layer (Structure-F.Array at xs c) =
      let x : Structure-F Structure TypeDenoter Fields = Structure-F.Array at xs c.0 in
      structure_by (roll-Structure x) (domain_names c.0)
      (λ packed hidden d. array_type f packed hidden d at.from xs (denoter f c.0))
      (fold-roll-Structure Points Points Points structure_step type_step fields_step x)
      (fold-roll-Structure StructureReading Reading FieldsReading (denoters.structure_step f) (denoters.type_step f)
      (denoters.fields_step f) x) (λ packed hidden d r e. array_waits packed hidden d at.from xs c.0 c.1 r e)
  structure_layer (Structure-F.Record at ys) =
      let x : Structure-F Structure TypeDenoter Fields = Structure-F.Record at (first_of ys) in
      structure_by (roll-Structure x) (all (map fields_domains (first_of ys)))
      (λ packed hidden d. record_type f packed hidden d at.from (map (fields f) (first_of ys)))
      (fold-roll-Structure Points Points Points structure_step type_step fields_step x)
      (fold-roll-Structure StructureReading Reading FieldsReading (denoters.structure_step f) (denoters.type_step f)
      (denoters.fields_step f) x) (λ packed hidden d r e. record_waits packed hidden d at.from ys r e)
  structure_layer (Structure-F.Set at base) =
      let x : Structure-F Structure TypeDenoter Fields = Structure-F.Set at base in
      structure_by (roll-Structure x) [] (λ packed hidden d. set_type f packed hidden d at.from base)
      (fold-roll-Structure Points Points Points structure_step type_step fields_step x)
      (fold-roll-Structure StructureReading Reading FieldsReading (denoters.structure_step f) (denoters.type_step f)
      (denoters.fields_step f) x) (λ packed hidden d r e. set_waits packed hidden d at.from base r e)

  type_layer : (y : TypeDenoter-F AtStructure AtType AtFields) → TypeWaits
      (roll-TypeDenoter (map-TypeDenoter AtStructure AtType AtFields Structure TypeDenoter Fields (λ e. e.0) (λ e. e.0)
      (λ e. e.0) y))
  unfolding denoters.type_step
  type_layer (TypeDenoter-F.Ordinal o) =
      let x : TypeDenoter-F Structure TypeDenoter Fields = TypeDenoter-F.Ordinal o in
      type_by (roll-TypeDenoter x) [] (λ hidden d. simple_type f hidden d o)
      (fold-roll-TypeDenoter Points Points Points structure_step type_step fields_step x)
      (fold-roll-TypeDenoter StructureReading Reading FieldsReading (denoters.structure_step f) (denoters.type_step f)
      (denoters.fields_step f) x) (λ hidden d r e. simple_waits hidden d o r e)
  type_layer (TypeDenoter-F.Pointer at domain) =
      let x : TypeDenoter-F Structure TypeDenoter Fields = TypeDenoter-F.Pointer at domain in
      type_by (roll-TypeDenoter x) (domain ∷ []) (λ hidden d. pointer f hidden d domain)
      (fold-roll-TypeDenoter Points Points Points structure_step type_step fields_step x)
      (fold-roll-TypeDenoter StructureReading Reading FieldsReading (denoters.structure_step f) (denoters.type_step f)
      (denoters.fields_step f) x) (λ hidden d r e. pointer_waits hidden d domain r e)
  type_layer (TypeDenoter-F.Structure s) =
      let x : TypeDenoter-F Structure TypeDenoter Fields = TypeDenoter-F.Structure s.0 in
      type_by (roll-TypeDenoter x) (structure_domains s.0) (λ hidden d. structure f s.0 None hidden d)
      (fold-roll-TypeDenoter Points Points Points structure_step type_step fields_step x)
      (fold-roll-TypeDenoter StructureReading Reading FieldsReading (denoters.structure_step f) (denoters.type_step f)
      (denoters.fields_step f) x) (λ hidden d r e. s.1 None hidden d r e)
  type_layer (TypeDenoter-F.Packed at s) =
      let x : TypeDenoter-F Structure TypeDenoter Fields = TypeDenoter-F.Packed at s.0 in
      type_by (roll-TypeDenoter x) (structure_domains s.0) (λ hidden d. structure f s.0 (Some at.from) hidden d)
      (fold-roll-TypeDenoter Points Points Points structure_step type_step fields_step x)
      (fold-roll-TypeDenoter StructureReading Reading FieldsReading (denoters.structure_step f) (denoters.type_step f)
      (denoters.fields_step f) x) (λ hidden d r e. s.1 (Some at.from) hidden d r e)

  fields_layer : (y : Fields-F AtStructure AtType AtFields) → FieldsWait
      (roll-Fields (map-Fields AtStructure AtType AtFields Structure TypeDenoter Fields (λ e. e.0) (λ e. e.0)
      (λ e. e.0) y))
  fields_layer y hidden d r e =
      let x : Fields-F Structure TypeDenoter Fields = record { names = y.names; ty = y.ty.0 } in
      let a : fields_domains (roll-Fields x) ≡ domain_names y.ty.0 = fold-roll-Fields Points Points Points
      structure_step type_step fields_step x in
      let c : fields f (roll-Fields x) ≡ (y.names, denoter f y.ty.0) = fold-roll-Fields StructureReading Reading
      FieldsReading (denoters.structure_step f) (denoters.type_step f) (denoters.fields_step f) x in
      subst (λ l. Waits d l r.1) (sym a) (y.ty.1 hidden d r (ap (λ (q : FieldsReading). q.1 hidden d) (sym c) ∙ e))

  pub type_waits : (t : TypeDenoter) → TypeWaits t
  type_waits = ind-TypeDenoter StructureWaits TypeWaits FieldsWait
      (λ x y is. subst (λ z. StructureWaits (roll-Structure z)) is (structure_layer y))
      (λ x y is. subst (λ z. TypeWaits (roll-TypeDenoter z)) is (type_layer y))
      (λ x y is. subst (λ z. FieldsWait (roll-Fields z)) is (fields_layer y))
