-- Loops over the parts of a type denoter.
use Rattle.std.proofs.Common.{◌≡◌, ℕ, pos, suc, ◌+◌, ◌<◌, ◌≤◌, Bool, List, [], ◌∷◌, ◌++◌, length, drop, map, refl, sym}
use Rattle.std.proofs.Common.{ap, ◌∙◌, arith, append_assoc}
use Rattle.std.proofs.Math.Seq.{drop-cons}
use Rattle.std.proofs.lemmas.List.{drop_all, append-nil}
use Rattle.ps_text.specs.declared.Span.{Span}
use Rattle.ps_syntax.specs.declared.program.Fields.{Fields, out-Fields}
use Rattle.ps_syntax.specs.declared.program.Structure.TheFolds.{fold_out-Fields}
use Rattle.ps_tree.specs.declared.types.Ordinal.{Ordinal}
use Rattle.ps_tree.specs.Types.{DataType, ArrayType}
use Rattle.ps_check_judgement.specs.declared.refusal.CheckFault.{CheckFault}
use Rattle.ps_check_judgement.specs.declared.refusal.CheckFault.TheVariants.{OutOfMemory, Broken}
use Rattle.ps_check_judgement.specs.Judged.{Judged, Yes, No, Told, ◌>>=◌}
use Rattle.ps_check_names.specs.Regions.{Meaning, ConstantMeaning}
use Rattle.ps_check_declarations.specs.Points.{Points, all, add_points, new_points}
use Rattle.ps_check_declarations.specs.Denoters.{Frame, Hidden, Declared, Reading, StructureReading, FieldsReading}
use Rattle.ps_check_declarations.specs.Denoters.{Indices, FieldTypes, constants_from, array_of, small, fields_of_type}
use Rattle.ps_check_declarations.specs.Denoters.{structure_step, type_step, fields_step, denoter, fields, add_fields}
use Rattle.ps_check_declarations.specs.Denoters.{section_names, record_names}
use Rattle.ps_check_declarations.proofs.Walks.{Walked, walked_end}

-- the constants that are still to come
pub record Values (o : Ordinal) (start : List Meaning) (names : Points) (i : ℕ) (done : List Meaning) : Type 0 where
  pub rest : done ++ constants_from o i (drop i names) ≡ start ++ constants_from o 0 names

pub values_start : (o : Ordinal) (start : List Meaning) (names : Points) → Values o start names 0 start
values_start o start names = record { rest = refl }

abbrev no_name : Span
no_name = record { from = 0; to = 0 }

module _ (o : Ordinal) (start : List Meaning) (names : Points) (i : ℕ) (done : List Meaning) where
  pub values_next : (new : List Meaning) → i < length names → Values o start names i done → new ≡ done
      ++ ConstantMeaning o (pos i) ∷ [] → Values o start names (i + 1) new
  values_next new lt v n = record {
    rest =
        ap (λ l. l ++ constants_from o (i + 1) (drop (i + 1) names)) n
        ∙ append_assoc done (ConstantMeaning o (pos i) ∷ []) (constants_from o (i + 1) (drop (i + 1) names))
        ∙ (let e : i + 1 ≡ suc i = omega arith in ap (λ k. done ++ ConstantMeaning o (pos i) ∷ constants_from o (i + 1)
        (drop k names)) e)
        ∙ ap (λ l. done ++ constants_from o i l) (sym (drop-cons names i no_name lt))
        ∙ v.rest;
  }

  pub values_end : length names ≤ i → Values o start names i done → done ≡ start ++ constants_from o 0 names
  values_end le v = sym (append-nil done) ∙ ap (λ l. done ++ constants_from o i l) (sym (drop_all i names le)) ∙ v.rest

-- the fields of one type that are still to come
pub record OfType (type : DataType) (start : FieldTypes) (names : Points) (i : ℕ) (done : FieldTypes) : Type 0 where
  pub rest : done ++ fields_of_type type (drop i names) ≡ start ++ fields_of_type type names

pub of_type_start : (type : DataType) (start : FieldTypes) (names : Points) → OfType type start names 0 start
of_type_start type start names = record { rest = refl }

module _ (type : DataType) (start : FieldTypes) (names : Points) (i : ℕ) (done : FieldTypes) where
  pub of_type_next : (new : FieldTypes) → i < length names → OfType type start names i done → new ≡ done ++ type ∷ []
      → OfType type start names (i + 1) new
  of_type_next new lt v n = record {
    rest =
        ap (λ l. l ++ fields_of_type type (drop (i + 1) names)) n
        ∙ append_assoc done (type ∷ []) (fields_of_type type (drop (i + 1) names))
        ∙ (let e : i + 1 ≡ suc i = omega arith in ap (λ k. done ++ type ∷ fields_of_type type (drop k names)) e)
        ∙ ap (λ l. done ++ fields_of_type type l) (sym (drop-cons names i no_name lt))
        ∙ v.rest;
  }

  pub of_type_end : length names ≤ i → OfType type start names i done → done ≡ start ++ fields_of_type type names
  of_type_end le v = sym (append-nil done) ∙ ap (λ l. done ++ fields_of_type type l) (sym (drop_all i names le))
      ∙ v.rest

-- nested arrays, from the innermost out
then_arrays : (packed : Bool) (i : ℕ × Ordinal) (xs : Indices) (type : DataType) → array_of packed (xs ++ i ∷ []) type
    ≡ (small i.0 (ArrayType i.0 packed i.1 type) >>= array_of packed xs)
unfolding array_of
then_arrays packed i [] type = at (small i.0 (ArrayType i.0 packed i.1 type))
  where
    at : (o : Judged DataType) → o ≡ (o >>= (λ t. Yes t))
    at (No rule where_) = refl
    at (Yes t) = refl
then_arrays packed i (x ∷ xs) type = ap (λ o. o >>= (λ t. small x.0 (ArrayType x.0 packed x.1 t)))
    (then_arrays packed i xs type) ∙ at (small i.0 (ArrayType i.0 packed i.1 type))
  where
    at : (o : Judged DataType) → ((o >>= array_of packed xs) >>= (λ t. small x.0 (ArrayType x.0 packed x.1 t)))
        ≡ (o >>= (λ s. array_of packed xs s >>= (λ t. small x.0 (ArrayType x.0 packed x.1 t))))
    at (No rule where_) = refl
    at (Yes s) = refl

-- the arrays of the indices xs are still to come around the type
pub record Inside (packed : Bool) (all : Indices) (component : DataType) (xs : Indices) (type : DataType) : Type 0 where
  pub rest : array_of packed all component ≡ array_of packed xs type

pub arrays_start : (packed : Bool) (all : Indices) (component : DataType) → Inside packed all component all component
arrays_start packed all component = record { rest = refl }

module _ (packed : Bool) (all : Indices) (component : DataType) (before xs : Indices) (at : ℕ) (o : Ordinal)
    (type : DataType) where
  pub arrays_inside : (made : DataType) → before ≡ xs ++ (at, o) ∷ [] → small at (ArrayType at packed o type) ≡ Yes made
      → Inside packed all component before type → Inside packed all component xs made
  arrays_inside made is e r = record {
    rest = r.rest ∙ ap (λ l. array_of packed l type) is ∙ then_arrays packed (at, o) xs type
        ∙ ap (λ o. o >>= array_of packed xs) e;
  }

  pub arrays_fault : (fault : CheckFault) → before ≡ xs ++ (at, o) ∷ []
      → Told fault (small at (ArrayType at packed o type))
      → Inside packed all component before type → Told fault (array_of packed all component)
  arrays_fault OutOfMemory is e r = e
  arrays_fault (Broken rule where_) is e r = r.rest ∙ ap (λ l. array_of packed l type) is ∙ then_arrays packed
      (at, o) xs type ∙ ap (λ o. o >>= array_of packed xs) e

pub arrays_done : (packed : Bool) (all : Indices) (component : DataType) (xs : Indices) (type : DataType)
    → Inside packed all component xs type → xs ≡ [] → array_of packed all component ≡ Yes type
unfolding array_of
arrays_done packed all component xs type r e = r.rest ∙ ap (λ l. array_of packed l type) e

-- the names of all sections
names_of_sections : (f : Frame) (xs : List Fields) → all (map (λ (x : FieldsReading). x.0) (map (fields f) xs)) ≡ all
    (map (section_names f) xs)
unfolding section_names
names_of_sections f [] = refl
names_of_sections f (x ∷ xs) = ap (λ l. section_names f x ++ l) (names_of_sections f xs)

pub names_end : (f : Frame) (xs : List Fields) (i : ℕ) (t : List (List ℕ)) → length xs ≤ i → Walked f.text
    (section_names f) [] xs i t → t ≡ record_names f (map (fields f) xs)
unfolding record_names
names_end f xs i t le w = walked_end f.text (section_names f) [] xs i t le w ∙ ap (add_points f.text [])
    (sym (names_of_sections f xs))

-- one more section of a record's fields: its points, and then its type
fields_read : (f : Frame) (x : Fields) → fields f x ≡ ((out-Fields x).names, denoter f (out-Fields x).ty)
fields_read f x = fold_out-Fields StructureReading Reading FieldsReading (structure_step f) (type_step f)
    (fields_step f)
    x

abbrev of_fields : Frame → List (List ℕ) → Hidden → FieldTypes → Declared → Fields → Points → ℕ → Judged
    (FieldTypes × Declared)
of_fields f names hidden done d x points defined = denoter f (out-Fields x).ty ((names, defined) ∷ hidden) d
    >>= (λ r. Yes (done ++ fields_of_type r.0 points, r.1))

pub section_read : (f : Frame) (names : List (List ℕ)) (hidden : Hidden) (done : FieldTypes) (d : Declared) (x : Fields)
    (points : Points) (count : ℕ) → points ≡ (out-Fields x).names → count ≡ length done
    → add_fields f names hidden (done, d) (fields f x)
    ≡ (new_points f.text names [] count points >>= of_fields f names hidden done d x points)
section_read f names hidden done d x points count is n =
    ap (add_fields f names hidden (done, d)) (fields_read f x)
    ∙ ap (λ ps. new_points f.text names [] (length done) ps >>= of_fields f names hidden done d x ps) (sym is)
    ∙ ap (λ k. new_points f.text names [] k points >>= of_fields f names hidden done d x points) (sym n)
