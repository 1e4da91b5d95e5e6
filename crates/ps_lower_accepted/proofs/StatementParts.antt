-- Conditions, bounds, control variables, calls and opened records have what the lowering needs.
use Rattle.std.proofs.Common.{◌≡◌, ℕ, ◌==◌, Bool, true, List, [], ◌∷◌, ◌++◌, ℤ, Option, Some, is_none, refl, sym, ap}
use Rattle.std.proofs.Common.{subst, eqb-true}
use Rattle.ps_syntax.specs.declared.statement.Parameter.{Parameter}
use Rattle.ps_tree.specs.declared.types.Ordinal.{Ordinal}
use Rattle.ps_tree.specs.Types.{DataType, OrdinalType, PointerType, NilType, SetType, EmptySetType, TextType, ArrayType}
use Rattle.ps_tree.specs.Types.{RecordType, is_compatible, is_same_type, string_length}
use Rattle.ps_tree.specs.Sizes.{fits_byte}
use Rattle.ps_tree.specs.Tree as Tree
use Rattle.ps_tree.specs.Tree.{Statement, Place}
use Rattle.ps_meaning.specs.Values.{first_ordinal}
use Rattle.ps_lower_layout.specs.Shapes.{Shape, NumberShape, shape_of, Whole}
use Rattle.ps_lower_layout.specs.Paths.{NumberSort}
use Rattle.ps_lower_layout.specs.Frames.{Own, Closure, kinds_of, result_shape}
use Rattle.ps_lower_code.specs.Scopes.{Scope, kind_at}
use Rattle.ps_lower_code.specs.Fits.{AreIntegers}
use Rattle.ps_lower_code.specs.Fits.{PlaceFits, ExprFits, OpenedFit, StatementFits}
use Rattle.ps_lower_accepted.proofs.Sound.{line_there}
use Rattle.ps_lower_code.specs.Fits.{ArgumentsFit}
use Rattle.ps_check_judgement.specs.declared.refusal.Rule.TheVariants.{WrongKind}
use Rattle.ps_check_judgement.specs.Judged.{Yes, holds}
use Rattle.ps_check_judgement.proofs.Binds.{provided_yes, inside_yes, no_yes}
use Rattle.ps_check_names.specs.Regions.{Context, Region, Point, BlockPoint, FieldPoint, Sections, formals_of}
use Rattle.ps_check_names.specs.Regions.{ConstantMeaning, TextMeaning, TypeMeaning, VariableMeaning, ParameterMeaning}
use Rattle.ps_check_names.specs.Regions.{RoutineMeaning, RoutineParameterMeaning, RequiredMeaning, FileMeaning}
use Rattle.ps_check_names.specs.Regions.{LeftOutMeaning}
use Rattle.ps_check_expressions.specs.Values.{Value, SimpleValue, SetValue, StructureValue, Variable, argument_list}
use Rattle.ps_check_statements.specs.Procedures.{procedure_called, procedure_parameters, actual_parameters}
use Rattle.ps_check_statements.specs.Structured.{condition, control_at, bound, Opening, record_region}
use Rattle.ps_lower_accepted.proofs.Lists.{Each, Gives, still_then, then_same}
use Rattle.ps_lower_accepted.proofs.Reach.{entry_there, declared_there}
use Rattle.ps_lower_accepted.proofs.Selected.{no_byte, whole_fits}
use Rattle.ps_lower_accepted.proofs.Standing.{Here, PointStands}
use Rattle.ps_lower_accepted.proofs.Tables.{Table, TypeKnown}
use Rattle.ps_lower_accepted.proofs.Told.{bound_of, part_of, VariableTold, ValueTold}
use Rattle.ps_lower_accepted.proofs.Written.{ParameterTold, required_fits, parameters_fit}

module _ (D : Table) (k : Scope) where
  module _ (os : List Shape) where
    -- ---- conditions and bounds

    pub condition_fits : (at : ℕ) (v : Value) (e : Tree.Expr) → ValueTold D k os v → condition at v ≡ Yes e
        → ExprFits k os e NumberSort
    unfolding condition
    condition_fits at (SimpleValue x (OrdinalType o)) e h q = subst (λ y. ExprFits k os y NumberSort)
        (provided_yes _ _ _ _ e q).1 h.1
    condition_fits at (SimpleValue x (PointerType n)) e h q = absurd (no_yes q)
    condition_fits at (SimpleValue x NilType) e h q = absurd (no_yes q)
    condition_fits at (SimpleValue x type) e h q = absurd h
    condition_fits at (SetValue x type) e h q = absurd (no_yes q)
    condition_fits at (StructureValue x type) e h q = absurd (no_yes q)

    pub bound_fits : (at : ℕ) (o : Ordinal) (v : Value) (e : Tree.Expr) → ValueTold D k os v → bound at o v ≡ Yes e
        → ExprFits k os e NumberSort
    unfolding bound is_compatible is_same_type string_length
    bound_fits at o (SimpleValue x (OrdinalType p)) e h q = subst (λ y. ExprFits k os y NumberSort)
        (provided_yes _ _ _ _ e q).1 h.1
    bound_fits at o (SimpleValue x (PointerType n)) e h q = absurd (no_yes q)
    bound_fits at o (SimpleValue x NilType) e h q = absurd (no_yes q)
    bound_fits at o (SimpleValue x type) e h q = absurd h
    bound_fits at o (SetValue x type) e h q = absurd (no_yes q)
    bound_fits at o (StructureValue x type) e h q = absurd (no_yes q)

    -- the control variable is in the block's own frame
    abbrev ControlThere : ℕ → Type 0
    ControlThere variable = (first : ℤ) × ((narrow : Bool)
        × (kind_at k 0 variable ≡ Some (Own (NumberShape first narrow))))

    -- and its type's bounds are integers
    abbrev pub ControlKnown : ℕ × Ordinal → Type 0
    ControlKnown x = ControlThere x.0 × AreIntegers x.1.low x.1.high

    pub control_there : (at : ℕ) (p : Point) (x : ℕ × Ordinal) → PointStands D k os p → control_at at p ≡ Yes x
        → ControlKnown x
    unfolding control_at
    control_there at (BlockPoint up (VariableMeaning entry (OrdinalType o))) x st q =
        let b = provided_yes (up == 0) _ _ (entry, o) x q in
        let there = entry_there k up entry (Own (shape_of (OrdinalType o))) st.1 in
        subst ControlKnown b.1 (
          (
            first_ordinal o,
            (
              fits_byte (OrdinalType o),
              subst (λ n. kind_at k n entry ≡ Some (Own (shape_of (OrdinalType o))))
                  (eqb-true up 0 b.0) there.1,
            ),
          ),
          (st.0.low, st.0.high),
        )
    control_there at (BlockPoint up (VariableMeaning entry (PointerType n))) x st q = absurd (no_yes q)
    control_there at (BlockPoint up (VariableMeaning entry NilType)) x st q = absurd (no_yes q)
    control_there at (BlockPoint up (VariableMeaning entry (SetType d l o))) x st q = absurd (no_yes q)
    control_there at (BlockPoint up (VariableMeaning entry EmptySetType)) x st q = absurd (no_yes q)
    control_there at (BlockPoint up (VariableMeaning entry (TextType n))) x st q = absurd (no_yes q)
    control_there at (BlockPoint up (VariableMeaning entry (ArrayType a l i t))) x st q = absurd (no_yes q)
    control_there at (BlockPoint up (VariableMeaning entry (RecordType a l fs))) x st q = absurd (no_yes q)
    control_there at (BlockPoint up (ConstantMeaning o n)) x st q = absurd (no_yes q)
    control_there at (BlockPoint up (TextMeaning w)) x st q = absurd (no_yes q)
    control_there at (BlockPoint up (TypeMeaning type)) x st q = absurd (no_yes q)
    control_there at (BlockPoint up (ParameterMeaning entry type)) x st q = absurd (no_yes q)
    control_there at (BlockPoint up (RoutineMeaning h)) x st q = absurd (no_yes q)
    control_there at (BlockPoint up (RoutineParameterMeaning entry sections result)) x st q = absurd (no_yes q)
    control_there at (BlockPoint up (FileMeaning file)) x st q = absurd (no_yes q)
    control_there at (BlockPoint up (RequiredMeaning r)) x st q = absurd (no_yes q)
    control_there at (BlockPoint up LeftOutMeaning) x st q = absurd (no_yes q)
    control_there at (FieldPoint which record_type number type) x st q = absurd (no_yes q)

    -- ---- procedure statements (6.8.2.3)

    module _ (c : Context) (Γ : List Region) (here : Here c Γ D k os) where
      -- a procedure has no result
      passed : (at : ℕ) (result : Option DataType) (sections : Sections) (xs : List Parameter)
          (args : List Tree.Argument) → Gives (procedure_parameters c Γ at result sections xs) args → Gives
          (actual_parameters c Γ at sections xs) args
      passed at result sections xs args q = (still_then (holds (is_none result) WrongKind at) _ args q).2

      pub called_fits : (at : ℕ) (xs : List Parameter) (p : Point) (t : Statement) → Each
          (ParameterTold D k os c Γ here) xs
          → PointStands D k os p → Gives (procedure_called c Γ at xs p) t → StatementFits k os t
      unfolding procedure_called
      called_fits at xs (BlockPoint up (RoutineMeaning h)) t told st q =
          let args = then_same (procedure_parameters c Γ at h.result h.sections xs) _ t q in
          let there = declared_there k up h st.1 in
          let all = subst (λ fs. ArgumentsFit k os (argument_list args.0) (kinds_of fs)) (sym there.is.formals)
          (parameters_fit D k os c Γ here at h.sections xs args.0 st.0.0 told
          (passed at h.result h.sections xs args.0 args.1)) in
          subst (StatementFits k os) args.2 (there.at, all, line_there c.text at here.lines)
      called_fits at xs (BlockPoint up (RoutineParameterMeaning entry sections result)) t told st q =
          let args = then_same (procedure_parameters c Γ at result sections xs) _ t q in
          let there = entry_there k up entry (Closure (kinds_of (formals_of sections)) (result_shape result)) st.1 in
          let all = parameters_fit D k os c Γ here at sections xs args.0 st.0.0 told
          (passed at result sections xs args.0 args.1) in
          subst (StatementFits k os) args.2 (
            there.0,
            (kinds_of (formals_of sections), (result_shape result, there.1, all)),
            line_there c.text at here.lines,
          )
      called_fits at xs (BlockPoint up (RequiredMeaning r)) t told st q = required_fits D k os c Γ here at r xs t told q
      called_fits at xs (BlockPoint up m) t told st q = absurd (no_yes q.given)
      called_fits at xs (FieldPoint which record_type number type) t told st q = absurd (no_yes q.given)

  -- ---- records that are opened one after another (6.8.3.10)

  opened_after : (os inner : List Shape) (ps : List Place) (p : Place) (shape : Shape) → OpenedFit k os ps inner
      → PlaceFits k inner p (Whole shape) → OpenedFit k os (ps ++ p ∷ []) (shape ∷ inner)
  opened_after os inner [] p shape h f =
      (shape, subst (λ l. PlaceFits k l p (Whole shape)) h f, ap (λ l. shape ∷ l) h)
  opened_after os inner (q ∷ ps) p shape h f = (h.0, h.1, opened_after (h.0 ∷ os) inner ps p shape h.2 f)

  -- what is known after some of the records
  pub record OpenedSo (c : Context) (os : List Shape) (o : Opening) : Type 0 where
    pub inner : List Shape
    pub here : Here c o.1 D k inner
    pub fits : OpenedFit k os o.0 inner

  pub one_opened : (at : ℕ) (c : Context) (os inner : List Shape) (places : List Place) (Γ : List Region) (v : Variable)
      (r : Region) → Here c Γ D k inner → OpenedFit k os places inner → VariableTold D k inner v
      → record_region at v.type ≡ Yes r → OpenedSo c os (places ++ v.place ∷ [], r ∷ Γ)
  unfolding record_region
  one_opened at c os inner places Γ v r here fits told q = go v.type told.known (λ b. told.small b) told.fits q
    where
      go : (type : DataType) → TypeKnown D (bound_of k) type → (told.byte ≡ true → fits_byte type ≡ true)
          → PlaceFits k inner v.place (part_of told.byte type) → record_region at type ≡ Yes r → OpenedSo c os
          (places ++ v.place ∷ [], r ∷ Γ)
      go (RecordType a l fs) known small place f = subst (λ x. OpenedSo c os (places ++ v.place ∷ [], x ∷ Γ))
          (inside_yes _ r f) (record {
            inner = shape_of (RecordType a l fs) ∷ inner;
            here = record {
              stands = (refl, refl, known, here.stands);
              domains = here.domains;
              targets = here.targets;
              outermost = here.outermost;
              bytes = here.bytes;
              short = here.short;
              lines = here.lines;
            };
            fits = opened_after os inner places v.place (shape_of (RecordType a l fs)) fits
                (whole_fits D k inner v.place (RecordType a l fs) told.byte place (no_byte told.byte small));
          })
      go type known small place f = absurd (no_yes f)
