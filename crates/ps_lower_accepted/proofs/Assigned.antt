-- Assignments (6.8.2.2): a variable, or the result of a function in its own block, and what is stored in it.
use Rattle.std.proofs.Common.{◌≡◌, ℕ, zero, suc, ◌-◌, ◌==◌, Bool, true, false, if◌then◌else◌, List, [], ◌∷◌, ◌++◌}
use Rattle.std.proofs.Common.{drop, get_or, Option, Some, None, slice_get, refl, sym, ap, ◌∙◌, subst, arith, eqb-true}
use Rattle.ps_tree.proofs.Booleans.{and_second as right}
use Rattle.ps_text.specs.declared.Span.{Span}
use Rattle.ps_tree.specs.declared.types.Ordinal.{Ordinal}
use Rattle.ps_tree.specs.declared.tree.operators.Range.TheVariants.{Within}
use Rattle.ps_tree.specs.Types.{DataType, OrdinalType, PointerType, NilType, SetType, EmptySetType, TextType}
use Rattle.ps_tree.specs.Types.{ArrayType, RecordType, has_variables, is_assignable, is_compatible, is_same_type}
use Rattle.ps_tree.specs.Types.{string_length}
use Rattle.ps_tree.specs.Sizes.{fits_byte}
use Rattle.ps_tree.specs.Tree.{Program, Statement, Assign, AssignStructure, Expr, Place, routine_at}
use Rattle.ps_lower_layout.specs.Shapes.{Shape, shape_of, Whole}
use Rattle.ps_lower_layout.specs.Paths.{NumberSort, PointerSort}
use Rattle.ps_lower_layout.specs.Frames.{Own, entries, result_kinds, listed_kinds, kinds_of, variable_kinds}
use Rattle.ps_lower_code.specs.Scopes.{Scope}
use Rattle.ps_lower_code.specs.Fits.{RangeFits, IsStructure, shape_in}
use Rattle.tac_code.specs.Sound.{IsLine}
use Rattle.ps_lower_code.specs.Fits.{ExprFits, PlaceFits, StatementFits}
use Rattle.ps_check_judgement.specs.declared.refusal.Rule.TheVariants.{WrongKind}
use Rattle.ps_check_judgement.specs.Judged.{Yes}
use Rattle.ps_check_judgement.proofs.Binds.{provided_yes, some_or_yes, no_yes}
use Rattle.ps_check_judgement.proofs.Impossible.{never, none_some}
use Rattle.ps_check_names.specs.Regions.{Context, Region, BlockRegion, RecordRegion, OwnNames, Point, BlockPoint}
use Rattle.ps_check_names.specs.Regions.{FieldPoint, Heading, ConstantMeaning, TextMeaning, TypeMeaning}
use Rattle.ps_check_names.specs.Regions.{VariableMeaning, ParameterMeaning, RoutineMeaning, RoutineParameterMeaning}
use Rattle.ps_check_names.specs.Regions.{RequiredMeaning, FileMeaning, LeftOutMeaning}
use Rattle.ps_check_expressions.specs.Names.{denoted}
use Rattle.ps_check_expressions.specs.Values.{Value, SimpleValue, SetValue, StructureValue, Variable, Operand, range_of}
use Rattle.ps_check_statements.specs.Assignments.{result_of, result_in, target_at, name_or_component, set_assigned}
use Rattle.ps_check_statements.specs.Assignments.{assigned}
use Rattle.ps_lower_accepted.proofs.Calls.{not_or, pointer_of_same}
use Rattle.ps_lower_accepted.proofs.Lists.{map_some, Gives, still_gives, still_then}
use Rattle.ps_lower_accepted.proofs.Names.{denoted_stands, drop_none}
use Rattle.ps_lower_accepted.proofs.Operators.{set_fits}
use Rattle.ps_lower_accepted.proofs.Reach.{reached}
use Rattle.ps_lower_accepted.proofs.Selected.{no_byte, whole_fits, number_part, named, point_told}
use Rattle.ps_lower_accepted.proofs.Standing.{BlocksStand, RegionsStand, MeaningStands, IsDeclared, ResultKnown, Here}
use Rattle.ps_lower_accepted.proofs.Standing.{PointStands}
use Rattle.ps_lower_accepted.proofs.Strings.{structure_goes}
use Rattle.ps_lower_accepted.proofs.Tables.{Table, TypeKnown}
use Rattle.ps_lower_accepted.proofs.Told.{bound_of, part_of, VariableTold, SimpleTold, SetTold, ValueTold, OperandTold}

-- ---- the result of a function, in its own block

-- the block this many blocks out is the routine's
record ResultThere (h : Heading) (levels r : ℕ) (v : Variable) : Type 0 where
  number : r ≡ h.number
  is : result_of h levels ≡ Some v

one_less : (m : ℕ) → suc m - 1 ≡ m
one_less m = omega arith

result_here : (routine : ℕ) (h : Heading) (levels : ℕ) (v : Variable) (b : Bool) → (routine == h.number) ≡ b
    → (if b then result_of h levels else None) ≡ Some v → ResultThere h levels routine v
result_here routine h levels v true e q = record { number = eqb-true routine h.number e; is = q }
result_here routine h levels v false e q = absurd (none_some q)

zero_is : (n : ℕ) (b : Bool) → (n == 0) ≡ b → b ≡ true → n ≡ 0
zero_is n true e q = eqb-true n 0 e
zero_is n false e q = never q

result_of_block : (P : Program) (D : Table) (Γ : List Region) (chain : List ℕ) (n : ℕ) (h : Heading) (levels : ℕ)
    (v : Variable) (r : ℕ) (rest : List ℕ) → BlocksStand P D Γ chain → drop n chain ≡ r ∷ rest → result_in Γ n h levels
    ≡ Some v → ResultThere h levels r v
unfolding result_in
result_of_block P D [] chain n h levels v r rest st e q = absurd (none_some q)
result_of_block P D (BlockRegion routine names known ∷ Γ) [] n h levels v r rest st e q = let d = sym (drop_none n) ∙ e
    in absurd (cc)
result_of_block P D (BlockRegion routine names known ∷ Γ) (c ∷ chain) zero h levels v r rest st e q =
    let here = result_here routine h levels v (routine == h.number) refl q in
    let first : c ≡ r = ap (λ l. get_or l 0 0) e in
    record { number = sym first ∙ sym st.0 ∙ here.number; is = here.is }
result_of_block P D (BlockRegion routine names known ∷ Γ) (c ∷ chain) (suc n) h levels v r rest st e q = go
    (suc n == 0) refl q (λ m l f. result_of_block P D Γ chain m h levels v r rest st.3 (ap (λ i. drop i chain) l ∙ e) f)
  where
    go : (b : Bool) → (suc n == 0) ≡ b → (if b then (if routine == h.number then result_of h levels else None)
        else result_in Γ (suc n - 1) h levels) ≡ Some v
        → ((m : ℕ) → m ≡ n → result_in Γ m h levels ≡ Some v → ResultThere h levels r v) → ResultThere h levels r v
    go true f g further = let z = zero_is (suc n) true f refl in absurd (omega (arith, z))
    go false f g further = further (suc n - 1) (one_less n) g
result_of_block P D (RecordRegion type fields ∷ Γ) chain n h levels v r rest st e q = absurd st
result_of_block P D (OwnNames names defined ∷ Γ) chain n h levels v r rest st e q = absurd st

result_behind : (P : Program) (D : Table) (Γ : List Region) (chain : List ℕ) (os : List Shape) (n : ℕ) (h : Heading)
    (levels : ℕ) (v : Variable) (r : ℕ) (rest : List ℕ) → RegionsStand P D Γ chain os → drop n chain ≡ r ∷ rest
    → result_in Γ n h levels ≡ Some v → ResultThere h levels r v
unfolding result_in
result_behind P D (RecordRegion type fields ∷ Γ) chain [] n h levels v r rest st e q = absurd st
result_behind P D (RecordRegion type fields ∷ Γ) chain
    (o ∷ os) n h levels v r rest st e q = result_behind P D Γ chain os n h levels v r rest st.3 e q
result_behind P D [] chain [] n h levels v r rest st e q = result_of_block P D [] chain n h levels v r rest st e q
result_behind P D (BlockRegion routine names known ∷ Γ) chain [] n h levels v r rest st e q = result_of_block P D
    (BlockRegion routine names known ∷ Γ) chain n h levels v r rest st e q
result_behind P D (OwnNames names defined ∷ Γ) chain [] n h levels v r rest st e q = result_of_block P D
    (OwnNames names defined ∷ Γ) chain n h levels v r rest st e q
result_behind P D [] chain (o ∷ os) n h levels v r rest st e q = absurd st
result_behind P D (BlockRegion routine names known ∷ Γ) chain (o ∷ os) n h levels v r rest st e q = absurd st
result_behind P D (OwnNames names defined ∷ Γ) chain (o ∷ os) n h levels v r rest st e q = absurd st

-- one block further in
drop_before : (n : ℕ) (chain : List ℕ) (q : ℕ) (rest : List ℕ) → drop (suc n) chain ≡ q ∷ rest → (r : ℕ)
    × (drop n chain ≡ r ∷ q ∷ rest)
drop_before zero [] q rest e = absurd (cc)
drop_before zero (c ∷ chain) q rest e = (c, ap (λ l. c ∷ l) e)
drop_before (suc n) [] q rest e = absurd (cc)
drop_before (suc n) (c ∷ chain) q rest e = drop_before n chain q rest e

module _ (D : Table) (k : Scope) (os : List Shape) where
  module _ (c : Context) (Γ : List Region) (here : Here c Γ D k os) where
    result_kind : (h : Heading) (type : DataType) (chain : List ℕ) → IsDeclared k.program chain h → h.result ≡ Some type
        → slice_get (entries (routine_at k.program h.number)) 0 ≡ Some (Own (shape_of type))
    result_kind h type chain d e = ap (λ r. slice_get
        (result_kinds r ++ listed_kinds (kinds_of (routine_at k.program h.number).formals) ++ variable_kinds
        (routine_at k.program h.number).variables) 0) (d.result ∙ e)

    result_told : (h : Heading) (n : ℕ) (q : ℕ) (rest : List ℕ) (v : Variable) → drop (suc n) k.chain ≡ q ∷ rest
        → PointStands D k os (BlockPoint (suc n) (RoutineMeaning h)) → result_in Γ n h n ≡ Some v
        → VariableTold D k os v
    result_told h n q rest v e st g =
        let before = drop_before n k.chain q rest e in
        let there = result_behind k.program D Γ k.chain os n h n v before.0 (q ∷ rest) here.stands before.1 g in
        let reach = reached k.chain n before.0 (q ∷ rest) before.1 in
        let type = map_some _ h.result v there.is in
        let declared = subst (λ l. MeaningStands k.program l (RoutineMeaning h)) e st.1 in
        let known = (subst (ResultKnown D (bound_of k)) type.1 st.0.1).1 in
        subst (VariableTold D k os) type.2
        (named D k os n 0 type.0 known (
          reach.within,
          ap (λ r. shape_in (slice_get (entries (routine_at k.program r)) 0)) (reach.number ∙ there.number)
              ∙ ap shape_in (result_kind h type.0 (q ∷ rest) declared type.1),
        ))

    target_told : (at : ℕ) (p : Point) (v : Variable) → PointStands D k os p → target_at Γ at p ≡ Yes v
        → VariableTold D k os v
    unfolding target_at
    target_told at (BlockPoint up (RoutineMeaning h)) v st q = go up st (some_or_yes WrongKind at _ v q)
      where
        there : (n : ℕ) (chain : List ℕ) → drop (suc n) k.chain ≡ chain → PointStands D k os
            (BlockPoint (suc n) (RoutineMeaning h)) → result_in Γ n h n ≡ Some v → VariableTold D k os v
        there n [] e s f = absurd (subst (λ l. MeaningStands k.program l (RoutineMeaning h)) e s.1)
        there n (r ∷ rest) e s f = result_told h n r rest v e s f

        zero_test : (n : ℕ) (b : Bool) → (n == 0) ≡ b → n ≡ 0 → (if b then None else result_in Γ (n - 1) h (n - 1))
            ≡ Some v → VariableTold D k os v
        zero_test n true e z f = absurd (none_some f)
        zero_test n false e z f = let t = ap (λ m. m == 0) z in never (sym e ∙ t)

        go : (n : ℕ) → PointStands D k os (BlockPoint n (RoutineMeaning h))
            → (if n == 0 then None else result_in Γ (n - 1) h (n - 1)) ≡ Some v → VariableTold D k os v
        go zero s f = zero_test zero (zero == 0) refl refl f
        go (suc n) s f = later (suc n == 0) refl f
          where
            later : (b : Bool) → (suc n == 0) ≡ b → (if b then None else result_in Γ (suc n - 1) h (suc n - 1)) ≡ Some v
                → VariableTold D k os v
            later true e g = absurd (none_some g)
            later false e g = there n (drop (suc n) k.chain) refl s
                (subst (λ m. result_in Γ m h m ≡ Some v) (one_less n) g)
    target_told at (BlockPoint up (VariableMeaning entry type)) v st q = point_told D k os at
        (BlockPoint up (VariableMeaning entry type)) v st q
    target_told at (BlockPoint up (ParameterMeaning entry type)) v st q = point_told D k os at
        (BlockPoint up (ParameterMeaning entry type)) v st q
    target_told at (FieldPoint which record_type number type) v st q = point_told D k os at
        (FieldPoint which record_type number type) v st q
    target_told at (BlockPoint up (ConstantMeaning o n)) v st q = point_told D k os at
        (BlockPoint up (ConstantMeaning o n)) v st q
    target_told at (BlockPoint up (TextMeaning w)) v st q = point_told D k os at (BlockPoint up (TextMeaning w)) v st q
    target_told at (BlockPoint up (TypeMeaning type)) v st q = point_told D k os at
        (BlockPoint up (TypeMeaning type)) v st q
    target_told at (BlockPoint up (RoutineParameterMeaning entry sections result)) v st q = point_told D k os at
        (BlockPoint up (RoutineParameterMeaning entry sections result)) v st q
    target_told at (BlockPoint up (FileMeaning file)) v st q = point_told D k os at
        (BlockPoint up (FileMeaning file)) v st q
    target_told at (BlockPoint up (RequiredMeaning r)) v st q = point_told D k os at
        (BlockPoint up (RequiredMeaning r)) v st q
    target_told at (BlockPoint up LeftOutMeaning) v st q = point_told D k os at (BlockPoint up LeftOutMeaning) v st q

    pub left_told : (x : Operand) (v : Variable) → OperandTold D k os x → Gives
        (name_or_component c Γ x.name x.variable) v → VariableTold D k os v
    left_told x v told q = go x.name q
      where
        go : (o : Option Span) → Gives (name_or_component c Γ o x.variable) v → VariableTold D k os v
        go None f = told.variable v f
        go (Some name) f = let p = still_then (denoted c Γ name) _ v f in target_told name.from p.0 v
            (denoted_stands c Γ D k os here name p.0 p.1) (still_gives (target_at Γ name.from p.0) v p.2)

  -- ---- what is stored in the variable

  -- the range of an ordinal type is what its variables ask for
  pub range_there : (o : Ordinal) (b : Bool) → TypeKnown D (bound_of k) (OrdinalType o)
      → (b ≡ true → fits_byte (OrdinalType o) ≡ true) → RangeFits (Within o.low o.high) (part_of b (OrdinalType o))
  range_there o true known small = (known.low, known.high, small refl)
  range_there o false known small = (known.low, known.high, not_or (fits_byte (OrdinalType o)))

  pointer_assigned : (p : Place) (b : Bool) (n : ℕ) (e : Expr) (line : ℕ) → IsLine line
      → (b ≡ true → fits_byte (PointerType n) ≡ true) → PlaceFits k os p (part_of b (PointerType n)) → ExprFits k os e
      (PointerSort n) → StatementFits k os (Assign p (range_of (PointerType n)) e line)
  pointer_assigned p b n e line ln small fits h =
      let w = whole_fits D k os p (PointerType n) b fits (no_byte b small) in
      (Whole (shape_of (PointerType n)), w, tt, (PointerSort n, refl, h), ln)

  simple_assigned : (p : Place) (b : Bool) (type from : DataType) (e : Expr) (line : ℕ) → IsLine line → TypeKnown D
      (bound_of k) type → (b ≡ true → fits_byte type ≡ true) → PlaceFits k os p (part_of b type)
      → SimpleTold D k os e from → is_compatible from type ≡ true → StatementFits k os
      (Assign p (range_of type) e line)
  unfolding is_compatible is_same_type string_length
  simple_assigned p b (OrdinalType o) (OrdinalType q) e line ln known small fits h g = (
    part_of b (OrdinalType o),
    fits,
    range_there o b known small,
    (NumberSort, number_part D k os o b, h.1),
    ln,
  )
  simple_assigned p b (PointerType n) (PointerType m) e line ln known small fits h g = pointer_assigned p b n e line ln
      small fits (pointer_of_same D k os m n e g h.1)
  simple_assigned p b (PointerType n) NilType e line ln known small fits h g = pointer_assigned p b n e line ln small
      fits (h n)
  simple_assigned p b (OrdinalType o) (PointerType m) e line ln known small fits h g = never g
  simple_assigned p b (OrdinalType o) NilType e line ln known small fits h g = never g
  simple_assigned p b (PointerType n) (OrdinalType q) e line ln known small fits h g = never g
  simple_assigned p b (SetType d l o) (OrdinalType q) e line ln known small fits h g = never g
  simple_assigned p b (SetType d l o) (PointerType m) e line ln known small fits h g = never g
  simple_assigned p b (SetType d l o) NilType e line ln known small fits h g = never g
  simple_assigned p b (ArrayType at l i t) (OrdinalType q) e line ln known small fits h g = never g
  simple_assigned p b (ArrayType at l i t) (PointerType m) e line ln known small fits h g = never g
  simple_assigned p b (ArrayType at l i t) NilType e line ln known small fits h g = never g
  simple_assigned p b (RecordType at l fs) (OrdinalType q) e line ln known small fits h g = never g
  simple_assigned p b (RecordType at l fs) (PointerType m) e line ln known small fits h g = never g
  simple_assigned p b (RecordType at l fs) NilType e line ln known small fits h g = never g
  simple_assigned p b NilType from e line ln known small fits h g = absurd known
  simple_assigned p b EmptySetType from e line ln known small fits h g = absurd known
  simple_assigned p b (TextType n) from e line ln known small fits h g = absurd known
  simple_assigned p b type from e line ln known small fits h g = absurd h

  -- an array or a record is not a byte
  structure_whole : (type : DataType) (b : Bool) → IsStructure (shape_of type) → (b ≡ true → fits_byte type ≡ true) → b
      ≡ false
  structure_whole (OrdinalType o) b st small = absurd st
  structure_whole (PointerType n) b st small = no_byte b small
  structure_whole NilType b st small = no_byte b small
  structure_whole (SetType d l o) b st small = no_byte b small
  structure_whole EmptySetType b st small = no_byte b small
  structure_whole (TextType n) b st small = no_byte b small
  structure_whole (ArrayType at l i t) b st small = no_byte b small
  structure_whole (RecordType at l fs) b st small = no_byte b small

  set_into : (at : ℕ) (v : Variable) (e : _) (from : DataType) (line : ℕ) → IsLine line → (s : Statement)
      → VariableTold D k os v → SetTold D k os e from → set_assigned at v.place v.type e from line ≡ Yes s
      → StatementFits k os s
  unfolding set_assigned
  set_into at v e from line ln s told h q = go v.type told.known (λ b. told.small b) told.fits q
    where
      go : (type : DataType) → TypeKnown D (bound_of k) type → (told.byte ≡ true → fits_byte type ≡ true)
          → PlaceFits k os v.place (part_of told.byte type) → set_assigned at v.place type e from line ≡ Yes s
          → StatementFits k os s
      go (SetType d l o) known small fits f = subst (StatementFits k os) (provided_yes _ _ _ _ s f).1 (
        whole_fits D k os v.place (SetType d l o) told.byte fits (no_byte told.byte small),
        set_fits D k os e from h,
        known,
        ln,
      )
      go (OrdinalType o) known small fits f = absurd (no_yes f)
      go (PointerType n) known small fits f = absurd (no_yes f)
      go NilType known small fits f = absurd (no_yes f)
      go EmptySetType known small fits f = absurd (no_yes f)
      go (TextType n) known small fits f = absurd (no_yes f)
      go (ArrayType at l i t) known small fits f = absurd (no_yes f)
      go (RecordType at l fs) known small fits f = absurd (no_yes f)

  pub assigned_fits : (at : ℕ) (v : Variable) (x : Value) (line : ℕ) → IsLine line → (s : Statement)
      → VariableTold D k os v → ValueTold D k os x → assigned at v x line ≡ Yes s → StatementFits k os s
  unfolding assigned
  assigned_fits at v (SimpleValue e from) line ln s told h q =
      let p = provided_yes (is_assignable from v.type) _ _ (Assign v.place (range_of v.type) e line) s q in
      subst (StatementFits k os) p.1 (simple_assigned v.place told.byte v.type from e line ln told.known
      (λ b. told.small b) told.fits h (right (has_variables v.type) (is_compatible from v.type) p.0))
  assigned_fits at v (SetValue e from) line ln s told h q = set_into at v e from line ln s told h q
  assigned_fits at v (StructureValue e from) line ln s told h q =
      let p = provided_yes (is_assignable from v.type) _ _ (AssignStructure v.place e) s q in
      let goes = structure_goes D k os e from v.type h told.known
      (right (has_variables v.type) (is_compatible from v.type) p.0) in
      let w = whole_fits D k os v.place v.type told.byte told.fits
      (structure_whole v.type told.byte goes.structure (λ b. told.small b)) in
      subst (StatementFits k os) p.1 (shape_of v.type, w, goes.fits, goes.structure)
