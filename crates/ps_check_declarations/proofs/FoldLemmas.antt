-- What a walk over a type denoter gives, construction by construction.
use Rattle.std.proofs.Common.{◌≡◌, ℕ, List, [], map, Option, Some, None, sym, ap, ◌∙◌}
use Rattle.ps_text.specs.declared.Span.{Span}
use Rattle.ps_syntax.specs.declared.program.Ordinal.{Ordinal}
use Rattle.ps_syntax.specs.declared.program.Structure.{Structure}
use Rattle.ps_syntax.specs.declared.program.Structure.TheVariants as u
use Rattle.ps_syntax.specs.declared.program.TypeDenoter.{TypeDenoter}
use Rattle.ps_syntax.specs.declared.program.TypeDenoter.TheVariants as t
use Rattle.ps_syntax.specs.declared.program.Fields.{Fields}
use Rattle.ps_syntax.specs.declared.program.Structure.TheOpen.{Structure-F, TypeDenoter-F}
use Rattle.ps_syntax.specs.declared.program.Structure.TheFolds.{fold-roll-Structure, fold-roll-TypeDenoter}
use Rattle.ps_check_declarations.specs.Denoters.{Frame, Hidden, Declared, Reading, StructureReading, FieldsReading}
use Rattle.ps_check_declarations.specs.Denoters.{type_step, structure_step, fields_step, simple_type, pointer}
use Rattle.ps_check_declarations.specs.Denoters.{array_type, record_type, set_type, denoter, structure, fields}
use Rattle.ps_check_declarations.specs.Points.{Points, ordinal_points, type_points, type_points_step}
use Rattle.ps_check_declarations.specs.Points.{structure_points_step, fields_points_step}

pub points_ordinal : (x : Ordinal) → type_points (t.Ordinal x) ≡ ordinal_points x
points_ordinal x = ap type_points (sym (t.rolls-Ordinal x))
    ∙ fold-roll-TypeDenoter Points Points Points structure_points_step type_points_step fields_points_step
    (TypeDenoter-F.Ordinal x)

pub points_pointer : (at domain : Span) → type_points (t.Pointer at domain) ≡ []
points_pointer at domain = ap type_points (sym (t.rolls-Pointer at domain))
    ∙ fold-roll-TypeDenoter Points Points Points structure_points_step type_points_step fields_points_step
    (TypeDenoter-F.Pointer at domain)

-- ---- readings of denoters

module _ (f : Frame) where
  pub denoter_Ordinal : (x : Ordinal) (hidden : Hidden) (d : Declared) → denoter f (t.Ordinal x) hidden d
      ≡ simple_type f hidden d x
  unfolding type_step
  denoter_Ordinal x hidden d = ap (λ t. denoter f t hidden d) (sym (t.rolls-Ordinal x))
      ∙ ap (λ (r : Reading). r hidden d) (fold-roll-TypeDenoter StructureReading Reading FieldsReading
      (structure_step f) (type_step f) (fields_step f) (TypeDenoter-F.Ordinal x))

  pub denoter_Pointer : (at domain : Span) (hidden : Hidden) (d : Declared) → denoter f (t.Pointer at domain) hidden d
      ≡ pointer f hidden d domain
  unfolding type_step
  denoter_Pointer at domain hidden d = ap (λ t. denoter f t hidden d) (sym (t.rolls-Pointer at domain))
      ∙ ap (λ (r : Reading). r hidden d) (fold-roll-TypeDenoter StructureReading Reading FieldsReading
      (structure_step f) (type_step f) (fields_step f) (TypeDenoter-F.Pointer at domain))

  pub denoter_Structure : (x : Structure) (hidden : Hidden) (d : Declared) → denoter f (t.Structure x) hidden d
      ≡ structure f x None hidden d
  unfolding type_step
  denoter_Structure x hidden d = ap (λ t. denoter f t hidden d) (sym (t.rolls-Structure x))
      ∙ ap (λ (r : Reading). r hidden d) (fold-roll-TypeDenoter StructureReading Reading FieldsReading
      (structure_step f) (type_step f) (fields_step f) (TypeDenoter-F.Structure x))

  pub denoter_Packed : (at : Span) (x : Structure) (hidden : Hidden) (d : Declared) → denoter f (t.Packed at x) hidden d
      ≡ structure f x (Some at.from) hidden d
  unfolding type_step
  denoter_Packed at x hidden d = ap (λ t. denoter f t hidden d) (sym (t.rolls-Packed at x))
      ∙ ap (λ (r : Reading). r hidden d) (fold-roll-TypeDenoter StructureReading Reading FieldsReading
      (structure_step f) (type_step f) (fields_step f) (TypeDenoter-F.Packed at x))

  pub structure_Array : (at : Span) (indices : List Ordinal) (component : TypeDenoter) (packed : Option ℕ)
      (hidden : Hidden) (d : Declared) → structure f (u.Array at indices component) packed hidden d
      ≡ array_type f packed hidden d at.from indices (denoter f component)
  unfolding structure_step
  structure_Array at indices component packed hidden d = ap (λ s. structure f s packed hidden d)
      (sym (u.rolls-Array at indices component)) ∙ ap (λ (r : StructureReading). r packed hidden d)
      (fold-roll-Structure StructureReading Reading FieldsReading (structure_step f) (type_step f) (fields_step f)
      (Structure-F.Array at indices component))

  pub structure_Record : (at : Span) (sections : List Fields) (packed : Option ℕ) (hidden : Hidden) (d : Declared)
      → structure f (u.Record at sections) packed hidden d ≡ record_type f packed hidden d at.from
      (map (fields f) sections)
  unfolding structure_step
  structure_Record at sections packed hidden d = ap (λ s. structure f s packed hidden d)
      (sym (u.rolls-Record at sections)) ∙ ap (λ (r : StructureReading). r packed hidden d)
      (fold-roll-Structure StructureReading Reading FieldsReading (structure_step f) (type_step f) (fields_step f)
      (Structure-F.Record at sections))

  pub structure_Set : (at : Span) (base : Ordinal) (packed : Option ℕ) (hidden : Hidden) (d : Declared) → structure f
      (u.Set at base) packed hidden d ≡ set_type f packed hidden d at.from base
  unfolding structure_step
  structure_Set at base packed hidden d = ap (λ s. structure f s packed hidden d) (sym (u.rolls-Set at base))
      ∙ ap (λ (r : StructureReading). r packed hidden d)
      (fold-roll-Structure StructureReading Reading FieldsReading (structure_step f) (type_step f) (fields_step f)
      (Structure-F.Set at base))
