-- Each name used in a declaration that is read is found where the points before it are known, and no enclosing record
-- type defines the name.
use Rattle.std.proofs.Common.{◌≡◌, ℕ, ◌+◌, List, [], ◌∷◌, ◌++◌, length, map, Option, Some, None, refl, sym, ap, ◌∙◌}
use Rattle.std.proofs.Common.{subst, append_assoc, append-nil, arith}
use Rattle.ps_text.specs.declared.Span.{Span}
use Rattle.ps_syntax.specs.declared.program.Ordinal as syntax
use Rattle.ps_syntax.specs.declared.program.ConstantDefinition.{ConstantDefinition}
use Rattle.ps_syntax.specs.declared.program.TypeDefinition.{TypeDefinition}
use Rattle.ps_syntax.specs.declared.program.Variables.{Variables}
use Rattle.ps_syntax.specs.declared.program.Structure.{Structure, roll-Structure, map-Structure}
use Rattle.ps_syntax.specs.declared.program.TypeDenoter.{TypeDenoter, roll-TypeDenoter, map-TypeDenoter}
use Rattle.ps_syntax.specs.declared.program.Fields.{Fields, roll-Fields, map-Fields}
use Rattle.ps_syntax.specs.declared.program.Structure.TheOpen.{Structure-F, TypeDenoter-F, Fields-F}
use Rattle.ps_syntax.specs.declared.program.Structure.TheFolds.{fold-Structure, fold-Fields, fold-roll-Structure}
use Rattle.ps_syntax.specs.declared.program.Structure.TheFolds.{fold-roll-TypeDenoter, fold-roll-Fields}
use Rattle.ps_syntax.specs.declared.program.Structure.TheFolds.{ind-TypeDenoter}
use Rattle.ps_tree.specs.Types.{DataType, RecordType, field_list, listed}
use Rattle.ps_check_judgement.specs.declared.refusal.Rule.TheVariants.{Limit}
use Rattle.ps_check_judgement.specs.Judged.{Yes, some_or, steps}
use Rattle.ps_check_judgement.proofs.Binds.{inside_yes, then_yes, provided_yes}
use Rattle.ps_check_names.specs.Spelling.{spelled}
use Rattle.ps_check_names.specs.Regions.{VariableMeaning, TypeMeaning, one_more}
use Rattle.ps_check_names.specs.Constants.{constant}
use Rattle.ps_check_declarations.specs.Points.{all, new_points}
use Rattle.ps_check_declarations.specs.Denoters as denoters
use Rattle.ps_check_declarations.specs.Denoters.{Frame, Declared, Hidden, Reading, StructureReading, FieldsReading}
use Rattle.ps_check_declarations.specs.Denoters.{FieldTypes, begin, within, regions, passes, begins, is_packed}
use Rattle.ps_check_declarations.specs.Denoters.{index_type, array_of, set_of, small, fields_of_type, ordinal, pointer}
use Rattle.ps_check_declarations.specs.Denoters.{add_fields, record_names, array_type, record_type, set_type}
use Rattle.ps_check_declarations.specs.Denoters.{simple_type, denoter, structure, fields}
use Rattle.ps_check_declarations.specs.Declarations.{meaning_of_constant, define_constant, define_type, resolve_domains}
use Rattle.ps_check_declarations.specs.Declarations.{declare_variable, declare_variables, declarations}
use Rattle.ps_check_laws.specs.Occurrences.{constant_uses}
use Rattle.ps_check_laws.specs.InDeclarations.{Uses, used, Part, both, no_part, several, defining, using, ordinal_part}
use Rattle.ps_check_laws.specs.InDeclarations.{FieldsPart, fields_step, record_part, structure_step, type_step}
use Rattle.ps_check_laws.specs.InDeclarations.{type_part, constant_part, definition_part, variables_part}
use Rattle.ps_check_laws.specs.InDeclarations.{declarations_part}
use Rattle.ps_check_laws.proofs.Domains.{settled}
use Rattle.ps_check_laws.proofs.New.{Names}
use Rattle.ps_check_laws.specs.Meanings.{variable_names, hidden_by}
use Rattle.ps_check_laws.proofs.Declared.{type_defined, variables_declared}
use Rattle.ps_check_laws.proofs.EnclosedNames.{AllKnown, Reads, constant_known, indices_read, known_inside}
use Rattle.ps_check_laws.proofs.EnclosedNames.{ordinal_reads, own_names, reads_at, reads_both, reads_defining}
use Rattle.ps_check_laws.proofs.EnclosedNames.{reads_none, reads_unhidden, reads_using, record_names_are, simple_reads}

abbrev structure_part_of : Structure → Part
structure_part_of = fold-Structure Part Part FieldsPart structure_step type_step fields_step

abbrev fields_part_of : Fields → FieldsPart
fields_part_of = fold-Fields Part Part FieldsPart structure_step type_step fields_step

module _ (f : Frame) where
  -- ---- all parts of denoters

  abbrev TypeReads : TypeDenoter → Type 0
  TypeReads t = (hidden : Hidden) (d : Declared) (r : DataType × Declared) → denoter f t hidden d ≡ Yes r → Reads f
      (own_names hidden) d (type_part t) r.1

  abbrev StructureReads : Structure → Type 0
  StructureReads s = (packed : Option ℕ) (hidden : Hidden) (d : Declared) (r : DataType × Declared)
      → structure f s packed hidden d ≡ Yes r → Reads f (own_names hidden) d (structure_part_of s) r.1

  record FieldsReads (x : Fields) : Type 0 where
    reads : (hidden : Hidden) (d : Declared) (r : DataType × Declared) → (fields f x).1 hidden d ≡ Yes r → Reads f
        (own_names hidden) d (fields_part_of x).1 r.1
    same_names : (fields f x).0 ≡ (fields_part_of x).0

  abbrev AtStructure : Type 0
  AtStructure = (x : Structure) × StructureReads x

  abbrev AtType : Type 0
  AtType = (x : TypeDenoter) × TypeReads x

  abbrev AtFields : Type 0
  AtFields = (x : Fields) × FieldsReads x

  abbrev first_of : List AtFields → List Fields
  first_of ys = map (λ y. y.0) ys

  abbrev parts_of : List AtFields → List FieldsPart
  parts_of ys = map fields_part_of (first_of ys)

  all_names : (ys : List AtFields) → all (map (λ x. x.0) (map (fields f) (first_of ys))) ≡ all
      (map (λ x. x.0) (parts_of ys))
  all_names [] = refl
  all_names (y ∷ ys) = ap (λ l. l ++ all (map (λ x. x.0) (map (fields f) (first_of ys)))) y.1.same_names
      ∙ ap (λ l. (fields_part_of y.0).0 ++ l) (all_names ys)

  all_read : (names : Names) (hidden : Hidden) (ys : List AtFields) (s t : FieldTypes × Declared) → steps
      (add_fields f names hidden) s (map (fields f) (first_of ys)) ≡ Yes t → Reads f (names ∷ own_names hidden) s.1
      (several (map (λ x. x.1) (parts_of ys))) t.1
  all_read names hidden [] s t e = reads_at f (names ∷ own_names hidden) s.1 no_part s t e
      (reads_none f (names ∷ own_names hidden) s.1)
  all_read names hidden (y ∷ ys) s t e =
      let one = then_yes (add_fields f names hidden s (fields f y.0)) _ t e in
      let n = then_yes (new_points f.text names [] (length s.0) (fields f y.0).0) _ one.0 one.1 in
      let r = then_yes ((fields f y.0).1 ((names, n.0) ∷ hidden) s.1) _ one.0 n.2 in
      reads_both f (names ∷ own_names hidden) s.1 one.0.1 t.1 (fields_part_of y.0).1
      (several (map (λ x. x.1) (parts_of ys)))
      (reads_at f (names ∷ own_names hidden) s.1 (fields_part_of y.0).1
      (s.0 ++ fields_of_type r.0.0 (fields f y.0).0, r.0.1) one.0 r.2
      (y.1.reads ((names, n.0) ∷ hidden) s.1 r.0 r.1)) (all_read names hidden ys one.0 t one.2)

  structure_by : (x : Structure) (p : Part) (reading : StructureReading) → structure_part_of x ≡ p → structure f x
      ≡ reading
      → ((packed : Option ℕ) (hidden : Hidden) (d : Declared) (r : DataType × Declared) → reading packed hidden d
      ≡ Yes r → Reads f (own_names hidden) d p r.1) → StructureReads x
  structure_by x p reading a c reads packed hidden d r e = subst (λ l. Reads f (own_names hidden) d l r.1) (sym a)
      (reads packed hidden d r (ap (λ (q : StructureReading). q packed hidden d) (sym c) ∙ e))

  type_by : (x : TypeDenoter) (p : Part) (reading : Reading) → type_part x ≡ p → denoter f x ≡ reading
      → ((hidden : Hidden) (d : Declared) (r : DataType × Declared) → reading hidden d ≡ Yes r → Reads f
      (own_names hidden) d p r.1) → TypeReads x
  type_by x p reading a c reads hidden d r e = subst (λ l. Reads f (own_names hidden) d l r.1) (sym a)
      (reads hidden d r (ap (λ (q : Reading). q hidden d) (sym c) ∙ e))

  array_reads : (packed : Option ℕ) (hidden : Hidden) (d : Declared) (at : ℕ) (xs : List syntax.Ordinal)
      (c : TypeDenoter) → TypeReads c → (r : DataType × Declared) → array_type f packed hidden d at xs (denoter f c)
      ≡ Yes r
      → Reads f (own_names hidden) d (both (several (map ordinal_part xs)) (type_part c)) r.1
  unfolding array_type
  array_reads packed hidden d at xs c told r e =
      let is = then_yes (steps (index_type f hidden (begins packed at)) ([], d) xs) _ r e in
      let q = then_yes (denoter f c hidden is.0.1) _ r is.2 in
      let t = then_yes (array_of (is_packed packed) is.0.0 q.0.0) _ r q.2 in
      reads_both f (own_names hidden) d is.0.1 r.1 (several (map ordinal_part xs)) (type_part c)
      (indices_read f hidden (begins packed at) xs ([], d) is.0 is.1)
      (reads_at f (own_names hidden) is.0.1 (type_part c) (t.0, q.0.1) r t.2 (told hidden is.0.1 q.0 q.1))

  record_reads : (packed : Option ℕ) (hidden : Hidden) (d : Declared) (at : ℕ) (ys : List AtFields)
      (r : DataType × Declared) → record_type f packed hidden d at (map (fields f) (first_of ys)) ≡ Yes r → Reads f
      (own_names hidden) d (record_part (parts_of ys)) r.1
  unfolding record_type
  record_reads packed hidden d at ys r e =
      let xs = map (fields f) (first_of ys) in
      let names = record_names f xs in
      let types = then_yes (steps (add_fields f names hidden) ([], d) xs) _ r e in
      let t = then_yes (small (begins packed at)
      (RecordType (begins packed at) (is_packed packed) (field_list names (listed types.0.0)))) _ r types.2 in
      let points = all (map (λ x. x.0) (parts_of ys)) in
      let is : names ≡ map (spelled f.text) points = record_names_are f xs hidden d types.0 types.1
      ∙ ap (map (spelled f.text)) (all_names ys) in
      let inner = all_read names hidden ys ([], d) types.0 types.1 in
      let us = (several (map (λ x. x.1) (parts_of ys))).uses in
      reads_at f (own_names hidden) d (record_part (parts_of ys)) (t.0, types.0.1) r t.2
      (record {
        more = inner.more;
        longer = inner.longer;
        many = inner.many;
        uses = known_inside f (own_names hidden) types.0.1.known (length d.known) points us
            (subst (λ l. AllKnown f (l ∷ own_names hidden) types.0.1.known (length d.known) us) is inner.uses);
      })

  set_reads : (packed : Option ℕ) (hidden : Hidden) (d : Declared) (at : ℕ) (x : syntax.Ordinal)
      (r : DataType × Declared) → set_type f packed hidden d at x ≡ Yes r → Reads f (own_names hidden) d
      (ordinal_part x) r.1
  unfolding set_type
  set_reads packed hidden d at x r e =
      let q = then_yes (ordinal f hidden d x) _ r e in
      let t = then_yes (set_of at (begins packed at) (is_packed packed) q.0.0) _ r q.2 in
      reads_at f (own_names hidden) d (ordinal_part x) (t.0, q.0.1) r t.2 (ordinal_reads f hidden d x q.0 q.1)

  pointer_reads : (hidden : Hidden) (d : Declared) (domain : Span) (r : DataType × Declared) → pointer f hidden d domain
      ≡ Yes r → Reads f (own_names hidden) d no_part r.1
  pointer_reads hidden d domain r e =
      let free = then_yes (passes hidden (spelled f.text domain) domain.from) _ r e in
      let q = provided_yes _ _ _ _ r free.2 in
      reads_at f (own_names hidden) d no_part _ r (ap (λ z. Yes z) q.1) (record {
        more = [];
        longer = sym (append-nil d.known);
        many = refl;
        uses = tt;
      })

  structure_layer : (y : Structure-F AtStructure AtType AtFields) → StructureReads
      (roll-Structure (map-Structure AtStructure AtType AtFields Structure TypeDenoter Fields (λ e. e.0) (λ e. e.0)
      (λ e. e.0) y))
  unfolding denoters.structure_step
  structure_layer (Structure-F.Array at xs c) =
      let x : Structure-F Structure TypeDenoter Fields = Structure-F.Array at xs c.0 in
      structure_by (roll-Structure x) (both (several (map ordinal_part xs)) (type_part c.0))
      (λ packed hidden d. array_type f packed hidden d at.from xs (denoter f c.0))
      (fold-roll-Structure Part Part FieldsPart structure_step type_step fields_step x)
      (fold-roll-Structure StructureReading Reading FieldsReading (denoters.structure_step f) (denoters.type_step f)
      (denoters.fields_step f) x) (λ packed hidden d r e. array_reads packed hidden d at.from xs c.0 c.1 r e)
  structure_layer (Structure-F.Record at ys) =
      let x : Structure-F Structure TypeDenoter Fields = Structure-F.Record at (first_of ys) in
      structure_by (roll-Structure x) (record_part (parts_of ys))
      (λ packed hidden d. record_type f packed hidden d at.from (map (fields f) (first_of ys)))
      (fold-roll-Structure Part Part FieldsPart structure_step type_step fields_step x)
      (fold-roll-Structure StructureReading Reading FieldsReading (denoters.structure_step f) (denoters.type_step f)
      (denoters.fields_step f) x) (λ packed hidden d r e. record_reads packed hidden d at.from ys r e)
  structure_layer (Structure-F.Set at base) =
      let x : Structure-F Structure TypeDenoter Fields = Structure-F.Set at base in
      structure_by (roll-Structure x) (ordinal_part base) (λ packed hidden d. set_type f packed hidden d at.from base)
      (fold-roll-Structure Part Part FieldsPart structure_step type_step fields_step x)
      (fold-roll-Structure StructureReading Reading FieldsReading (denoters.structure_step f) (denoters.type_step f)
      (denoters.fields_step f) x) (λ packed hidden d r e. set_reads packed hidden d at.from base r e)

  type_layer : (y : TypeDenoter-F AtStructure AtType AtFields) → TypeReads
      (roll-TypeDenoter (map-TypeDenoter AtStructure AtType AtFields Structure TypeDenoter Fields (λ e. e.0) (λ e. e.0)
      (λ e. e.0) y))
  unfolding denoters.type_step
  type_layer (TypeDenoter-F.Ordinal o) =
      let x : TypeDenoter-F Structure TypeDenoter Fields = TypeDenoter-F.Ordinal o in
      type_by (roll-TypeDenoter x) (ordinal_part o) (λ hidden d. simple_type f hidden d o)
      (fold-roll-TypeDenoter Part Part FieldsPart structure_step type_step fields_step x)
      (fold-roll-TypeDenoter StructureReading Reading FieldsReading (denoters.structure_step f) (denoters.type_step f)
      (denoters.fields_step f) x) (λ hidden d r e. simple_reads f hidden d o r e)
  type_layer (TypeDenoter-F.Pointer at domain) =
      let x : TypeDenoter-F Structure TypeDenoter Fields = TypeDenoter-F.Pointer at domain in
      type_by (roll-TypeDenoter x) no_part (λ hidden d. pointer f hidden d domain)
      (fold-roll-TypeDenoter Part Part FieldsPart structure_step type_step fields_step x)
      (fold-roll-TypeDenoter StructureReading Reading FieldsReading (denoters.structure_step f) (denoters.type_step f)
      (denoters.fields_step f) x) (λ hidden d r e. pointer_reads hidden d domain r e)
  type_layer (TypeDenoter-F.Structure s) =
      let x : TypeDenoter-F Structure TypeDenoter Fields = TypeDenoter-F.Structure s.0 in
      type_by (roll-TypeDenoter x) (structure_part_of s.0) (λ hidden d. structure f s.0 None hidden d)
      (fold-roll-TypeDenoter Part Part FieldsPart structure_step type_step fields_step x)
      (fold-roll-TypeDenoter StructureReading Reading FieldsReading (denoters.structure_step f) (denoters.type_step f)
      (denoters.fields_step f) x) (λ hidden d r e. s.1 None hidden d r e)
  type_layer (TypeDenoter-F.Packed at s) =
      let x : TypeDenoter-F Structure TypeDenoter Fields = TypeDenoter-F.Packed at s.0 in
      type_by (roll-TypeDenoter x) (structure_part_of s.0) (λ hidden d. structure f s.0 (Some at.from) hidden d)
      (fold-roll-TypeDenoter Part Part FieldsPart structure_step type_step fields_step x)
      (fold-roll-TypeDenoter StructureReading Reading FieldsReading (denoters.structure_step f) (denoters.type_step f)
      (denoters.fields_step f) x) (λ hidden d r e. s.1 (Some at.from) hidden d r e)

  fields_layer : (y : Fields-F AtStructure AtType AtFields) → FieldsReads
      (roll-Fields (map-Fields AtStructure AtType AtFields Structure TypeDenoter Fields (λ e. e.0) (λ e. e.0)
      (λ e. e.0) y))
  fields_layer y =
      let x : Fields-F Structure TypeDenoter Fields = record { names = y.names; ty = y.ty.0 } in
      let a : fields_part_of (roll-Fields x) ≡ (y.names, type_part y.ty.0) = fold-roll-Fields Part Part FieldsPart
      structure_step type_step fields_step x in
      let c : fields f (roll-Fields x) ≡ (y.names, denoter f y.ty.0) = fold-roll-Fields StructureReading Reading
      FieldsReading (denoters.structure_step f) (denoters.type_step f) (denoters.fields_step f) x in
      record {
        reads = λ hidden d r e. subst (λ (l : FieldsPart). Reads f (own_names hidden) d l.1 r.1) (sym a)
            (y.ty.1 hidden d r (ap (λ (q : FieldsReading). q.1 hidden d) (sym c) ∙ e));
        same_names = ap (λ (q : FieldsReading). q.0) c ∙ ap (λ (q : FieldsPart). q.0) (sym a);
      }

  types_read : (t : TypeDenoter) → TypeReads t
  types_read = ind-TypeDenoter StructureReads TypeReads FieldsReads
      (λ x y is. subst (λ z. StructureReads (roll-Structure z)) is (structure_layer y))
      (λ x y is. subst (λ z. TypeReads (roll-TypeDenoter z)) is (type_layer y))
      (λ x y is. subst (λ z. FieldsReads (roll-Fields z)) is (fields_layer y))

-- a reading within a definition is one of the block
reads_within : (f : Frame) (begun : Names) (hidden : List Names) (d : Declared) (p : Part) (e : Declared) → Reads
    (within f begun) hidden d p e → Reads f hidden d p e
reads_within f begun hidden d p e t = record {
  more = t.more;
  longer = t.longer;
  many = t.many;
  uses = all p.uses t.uses;
}
  where
    all : (us : Uses) → AllKnown (within f begun) hidden e.known (length d.known) us → AllKnown f hidden e.known
        (length d.known) us
    all [] k = tt
    all (u ∷ us) k = (
      record {
        known = k.0.known;
        more = k.0.more;
        longer = k.0.longer;
        count = k.0.count;
        free = k.0.free;
        unhidden = k.0.unhidden;
        point = k.0.point;
        found = k.0.found;
      },
      all us k.1,
    )

-- ---- the parts of a block

module _ (f : Frame) where
  abbrev reads_to : (d : Declared) (p : Part) (x y : Declared) → x ≡ y → Reads f [] d p x → Reads f [] d p y
  reads_to d p x y e t = subst (Reads f [] d p) e t

  constants_read : (cs : List ConstantDefinition) (d e : Declared) → steps (define_constant f) d cs ≡ Yes e
      → Reads f [] d (several (map constant_part cs)) e
  unfolding define_constant constant_part
  constants_read [] d e q = reads_to d no_part d e (inside_yes d e q) (reads_none f [] d)
  constants_read (c ∷ cs) d e q =
      let one = then_yes (define_constant f d c) _ e q in
      let begun = then_yes (begin f d.known [] c.name) _ one.0 one.1 in
      let v = then_yes (constant f.text (regions f [] d.known) c.value) _ one.0 begun.2 in
      let n : Declared = denoters.with_known d (d.known ++ meaning_of_constant v.0 ∷ []) in
      let first : Reads f [] d (both (using (constant_uses c.value)) (defining 1)) n =
      reads_both f [] d d n (using (constant_uses c.value)) (defining 1)
      (reads_using f [] d (map used (constant_uses c.value)) (constant_known f [] d.known c.value v.0 v.1))
      (reads_defining f [] d n (meaning_of_constant v.0 ∷ []) 1 refl refl) in
      reads_both f [] d one.0 e (both (using (constant_uses c.value)) (defining 1)) (several (map constant_part cs))
      (reads_to d (both (using (constant_uses c.value)) (defining 1)) n one.0 (inside_yes n one.0 v.2) first)
      (constants_read cs one.0 e one.2)

  definitions_read : (ts : List TypeDefinition) (d e : Declared) → steps (define_type f) d ts ≡ Yes e → Reads f [] d
      (several (map definition_part ts)) e
  unfolding definition_part
  definitions_read [] d e q = reads_to d no_part d e (inside_yes d e q) (reads_none f [] d)
  definitions_read (t ∷ ts) d e q =
      let one = then_yes (define_type f d t) _ e q in
      let r = type_defined f d t one.0 one.1 in
      let n : Declared = denoters.with_known r.read.1 (r.read.1.known ++ TypeMeaning r.read.0 ∷ []) in
      let first : Reads f [] d (both (type_part t.ty) (defining 1)) n = reads_both f [] d r.read.1 n (type_part t.ty)
      (defining 1) (reads_within f (spelled f.text t.name ∷ []) [] d (type_part t.ty) r.read.1
      (types_read (within f (spelled f.text t.name ∷ [])) t.ty [] d r.read r.reading))
      (reads_defining f [] r.read.1 n (TypeMeaning r.read.0 ∷ []) 1 refl refl) in
      reads_both f [] d one.0 e (both (type_part t.ty) (defining 1)) (several (map definition_part ts))
      (reads_to d (both (type_part t.ty) (defining 1)) n one.0 r.is first) (definitions_read ts one.0 e one.2)

  module _ (first : ℕ) where
    names_read : (type : DataType) (names : List Span) (d e : Declared) → steps (declare_variable first type) d names
        ≡ Yes e → Reads f [] d (defining (length names)) e
    names_read type [] d e q = reads_to d no_part d e (inside_yes d e q) (reads_none f [] d)
    names_read type (name ∷ names) d e q =
        let one = then_yes (declare_variable first type d name) _ e q in
        let next = then_yes (some_or Limit name.from (one_more (first + length d.variables))) _ one.0 one.1 in
        let m = VariableMeaning (first + length d.variables) type in
        let made : Declared = record {
          known = d.known ++ m ∷ [];
          domains = d.domains;
          pending = d.pending;
          variables = d.variables ++ type ∷ [];
        } in
        let rest = names_read type names one.0 e one.2 in
        let many = rest.many in
        reads_defining f [] d e (m ∷ rest.more) (length (name ∷ names))
        (rest.longer ∙ ap (λ (z : Declared). z.known ++ rest.more) (sym (inside_yes made one.0 next.2))
        ∙ append_assoc d.known (m ∷ []) rest.more) (omega (arith, many))

    variables_read : (vs : List Variables) (d e : Declared) → steps (declare_variables f first) d vs ≡ Yes e
        → Reads f [] d (several (map variables_part vs)) e
    unfolding variables_part
    variables_read [] d e q = reads_to d no_part d e (inside_yes d e q) (reads_none f [] d)
    variables_read (v ∷ vs) d e q =
        let one = then_yes (declare_variables f first d v) _ e q in
        let r = variables_declared f first d v one.0 one.1 in
        let begun = variable_names f v in
        let inner = reads_unhidden f (begun ∷ []) d (type_part v.ty) r.read.1
        (reads_within f begun (begun ∷ []) d (type_part v.ty) r.read.1
        (types_read (within f begun) v.ty (hidden_by f v) d r.read r.reading)) in
        reads_both f [] d one.0 e (both (type_part v.ty) (defining (length v.names))) (several (map variables_part vs))
        (reads_both f [] d r.read.1 one.0 (type_part v.ty) (defining (length v.names)) inner
        (names_read r.read.0 v.names r.read.1 one.0 r.names)) (variables_read vs one.0 e one.2)

  -- what is known stays at the end of a part
  reads_settled : (d e g : Declared) (p : Part) → resolve_domains f e ≡ Yes g → Reads f [] d p e → Reads f [] d p g
  reads_settled d e g p q t =
      let same = sym (settled f e g q).0.known in
      record {
        more = t.more;
        longer = sym same ∙ t.longer;
        many = t.many;
        uses = subst (λ k. AllKnown f [] k (length d.known) p.uses) same t.uses;
      }

  pub declarations_read : (first : ℕ) (cs : List ConstantDefinition) (ts : List TypeDefinition) (vs : List Variables)
      (d e : Declared) → declarations f first d cs ts vs ≡ Yes e → Reads f [] d (declarations_part cs ts vs) e
  unfolding declarations declarations_part
  declarations_read first cs ts vs d e q =
      let a = then_yes (steps (define_constant f) d cs) _ e q in
      let b = then_yes (steps (define_type f) a.0 ts) _ e a.2 in
      let c = then_yes (resolve_domains f b.0) _ e b.2 in
      let g = then_yes (steps (declare_variables f first) c.0 vs) _ e c.2 in
      let before = reads_settled d b.0 c.0 (both (several (map constant_part cs)) (several (map definition_part ts)))
      c.1
      (reads_both f [] d a.0 b.0 (several (map constant_part cs)) (several (map definition_part ts))
      (constants_read cs d a.0 a.1) (definitions_read ts a.0 b.0 b.1)) in
      let more = variables_read first vs c.0 g.0 g.1 in
      reads_settled d g.0 e (both (both (several (map constant_part cs)) (several (map definition_part ts)))
      (several (map variables_part vs))) g.2
      (reads_both f [] d c.0 g.0 (both (several (map constant_part cs)) (several (map definition_part ts)))
      (several (map variables_part vs)) before more)
