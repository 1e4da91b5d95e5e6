-- Variables and their selectors (6.5), and the contents of a variable.
use Rattle.std.proofs.Common.{◌≡◌, ℕ, zero, suc, ◌<◌, Bool, true, false, ◌&&◌, if◌then◌else◌, List, [], ◌∷◌, length}
use Rattle.std.proofs.Common.{get_or, Option, Some, None, slice_get, refl, sym, ap, subst}
use Rattle.std.proofs.lemmas.Option.{same_Some}
use Rattle.ps_tree.proofs.Booleans.{and_first as left, and_second as right}
use Rattle.ps_tree.specs.declared.types.Ordinal.{Ordinal}
use Rattle.ps_tree.specs.Types.{DataType, OrdinalType, PointerType, NilType, SetType, EmptySetType, TextType}
use Rattle.ps_tree.specs.Types.{ArrayType, RecordType, FieldList, field_in, is_compatible, is_same_type, string_length}
use Rattle.ps_tree.specs.Sizes.{value_count, fits_byte}
use Rattle.ps_tree.specs.Tree as Tree
use Rattle.ps_tree.specs.Tree.{Place, Selector, Selectors, no_selector, selector_before, Expr}
use Rattle.ps_tree.specs.Tree.{domain_at}
use Rattle.ps_lower_layout.specs.Shapes.{Shape, PointerShape, ByteShape, ArrayShape, shape_of, first_of, Part, Whole}
use Rattle.ps_lower_layout.specs.Shapes.{component_part}
use Rattle.ps_lower_layout.specs.Paths.{NumberSort}
use Rattle.ps_lower_layout.specs.Frames.{Own}
use Rattle.ps_lower_code.specs.Scopes.{Scope, kind_at}
use Rattle.ps_lower_code.specs.Fits.{SortOf, CountIs, shape_in}
use Rattle.ps_lower_code.specs.Fits.{PlaceFits, SelectorsFit, ExprFits}
use Rattle.tac_code.specs.Sound.{IsLine}
use Rattle.ps_check_judgement.specs.declared.refusal.Rule.TheVariants.{WrongType}
use Rattle.ps_check_judgement.specs.Judged.{Yes, some_or}
use Rattle.ps_check_judgement.proofs.Binds.{then_yes, provided_yes, some_or_yes, inside_yes, no_yes}
use Rattle.ps_check_judgement.proofs.Impossible.{never, none_some}
use Rattle.ps_check_names.specs.Regions.{Context, Region, Point, BlockPoint, FieldPoint, ConstantMeaning, TextMeaning}
use Rattle.ps_check_names.specs.Regions.{TypeMeaning, VariableMeaning, ParameterMeaning, RoutineParameterMeaning}
use Rattle.ps_check_names.specs.Regions.{RoutineMeaning, FileMeaning, RequiredMeaning, LeftOutMeaning}
use Rattle.ps_tree.specs.Chains.{selector_after, selected}
use Rattle.ps_check_expressions.specs.Values.{Value, SimpleValue, SetValue, StructureValue, Variable, contents, loaded}
use Rattle.ps_check_expressions.specs.declared.operators.Operands.{Operands}
use Rattle.ps_check_expressions.specs.Places.{variable_at, index_operand, element, field_of, component, target}
use Rattle.ps_lower_accepted.proofs.Names.{field_told}
use Rattle.ps_lower_accepted.proofs.Reach.{entry_there, shape_there}
use Rattle.ps_lower_accepted.proofs.Standing.{Here, PointStands}
use Rattle.ps_lower_accepted.proofs.Tables.{Table, TypeKnown}
use Rattle.ps_lower_accepted.proofs.Told.{bound_of, part_of, VariableTold, ValueTold}

-- the domain of a pointer type
pub domain_there : (domains : List DataType) (n : ℕ) (type : DataType) → slice_get domains n ≡ Some type
    → get_or domains n (PointerType 0) ≡ type
domain_there [] n type e = absurd (none_some e)
domain_there (t ∷ domains) zero type e = same_Some t type e
domain_there (t ∷ domains) (suc n) type e = domain_there domains n type e

-- what is not an ordinal of a byte is not a byte
pub no_byte : (b : Bool) → (b ≡ true → false ≡ true) → b ≡ false
no_byte true h = never (h refl)
no_byte false h = refl

-- the array's shape has as many components as its index has values, each of this part
counted : (index : Ordinal) (component : DataType) (b : Bool) → CountIs
    (if b then ByteShape (value_count index) (first_of component) else ArrayShape (value_count index)
    (shape_of component)) (value_count index)
counted index component true = refl
counted index component false = refl

part_there : (index : Ordinal) (component : DataType) (b : Bool) → part_of b component ≡ component_part
    (if b then ByteShape (value_count index) (first_of component) else ArrayShape (value_count index)
    (shape_of component))
part_there index component true = refl
part_there index component false = refl

module _ (D : Table) (k : Scope) (os : List Shape) where
  -- ---- a selector after the others

  selectors_after : (ss : Selectors) (s : Selector) (p next q : Part) → SelectorsFit k os ss p next → SelectorsFit k os
      (selector_before s no_selector) next q → SelectorsFit k os (selector_after ss s) p q
  unfolding selector_after
  selectors_after no_selector s p next q h f = subst (λ r. SelectorsFit k os (selector_before s no_selector) r q)
      (sym h) f
  selectors_after (selector_before (Tree.Element type e line) rest) s p next q h f =
      (h.0, h.1, h.2, h.3, selectors_after rest s (component_part (shape_of type)) next q h.4 f)
  selectors_after (selector_before (Tree.Field type number) rest) s p next q h f =
      (h.0, (h.1.0, h.1.1, selectors_after rest s (Whole h.1.0) next q h.1.2 f))
  selectors_after (selector_before (Tree.Target pointer line) rest) s p next q h f =
      (h.0, h.1, selectors_after rest s (Whole (shape_of (domain_at k.program pointer))) next q h.2 f)

  selected_fits : (p : Place) (s : Selector) (shape : Shape) (q : Part) → PlaceFits k os p (Whole shape)
      → SelectorsFit k os (selector_before s no_selector) (Whole shape) q → PlaceFits k os (selected p s) q
  selected_fits (Tree.Variable base ss) s shape q h f =
      (h.0, h.1, selectors_after ss s (Whole h.0) (Whole shape) q h.2 f)

  pub whole_fits : (p : Place) (type : DataType) (b : Bool) → PlaceFits k os p (part_of b type) → b ≡ false
      → PlaceFits k os p (Whole (shape_of type))
  whole_fits p type b h e = subst (λ c. PlaceFits k os p (part_of c type)) e h

  -- ---- elements, fields, and what pointers identify

  index_told : (at : ℕ) (index : Ordinal) (v : Value) (e : Expr) → ValueTold D k os v → index_operand at index v ≡ Yes e
      → ExprFits k os e NumberSort
  unfolding index_operand is_compatible is_same_type string_length
  index_told at index (SimpleValue x (OrdinalType o)) e h q = let p = provided_yes _ _ _ x e q in subst
      (λ y. ExprFits k os y NumberSort) p.1 h.1
  index_told at index (SimpleValue x (PointerType n)) e h q = absurd (no_yes q)
  index_told at index (SimpleValue x NilType) e h q = absurd (no_yes q)
  index_told at index (SimpleValue x type) e h q = absurd h
  index_told at index (SetValue x type) e h q = absurd (no_yes q)
  index_told at index (StructureValue x type) e h q = absurd (no_yes q)

  element_of_array : (place : Operands) (p : Place) (b in_packed : Bool) (at : ℕ) (packed : Bool) (index : Ordinal)
      (c : DataType) (v : Value) (line : ℕ) → IsLine line → (x : Variable) → TypeKnown D (bound_of k)
      (ArrayType at packed index c) → PlaceFits k os p (Whole (shape_of (ArrayType at packed index c)))
      → ValueTold D k os v → element place p (ArrayType at packed index c) v line ≡ Yes x → VariableTold D k os x
  unfolding element
  element_of_array place p b in_packed at packed index c v line l x known fits h q =
      let type = ArrayType at packed index c in
      let e = then_yes (index_operand place.second index v) _ x q in
      let small = packed && fits_byte c in
      subst (VariableTold D k os) (inside_yes _ x e.2) (record {
        known = known.2;
        byte = small;
        packed = λ s. left packed (fits_byte c) s;
        small = λ s. right packed (fits_byte c) s;
        fits = selected_fits p (Tree.Element type e.0 line) (shape_of type) (part_of small c) fits (
          refl,
          (counted index c small, known.1.low, known.1.high, known.1.rises),
          index_told place.second index v e.0 h e.1,
          l,
          sym (part_there index c small),
        );
      })

  pub element_told : (at : Operands) (v : Variable) (index : Value) (line : ℕ) → IsLine line → (x : Variable)
      → VariableTold D k os v → ValueTold D k os index → element at v.place v.type index line ≡ Yes x
      → VariableTold D k os x
  unfolding element
  element_told at v index line l x told h q = go v.type told.known (λ b. told.small b) told.fits q
    where
      go : (type : DataType) → TypeKnown D (bound_of k) type → (told.byte ≡ true → fits_byte type ≡ true)
          → PlaceFits k os v.place (part_of told.byte type) → element at v.place type index line ≡ Yes x
          → VariableTold D k os x
      go (ArrayType a packed i c) known small fits r = element_of_array at v.place told.byte v.in_packed a packed i c
          index line l x known (whole_fits v.place (ArrayType a packed i c) told.byte fits (no_byte told.byte small)) h
          r
      go (OrdinalType o) known small fits r = absurd (no_yes r)
      go (PointerType n) known small fits r = absurd (no_yes r)
      go NilType known small fits r = absurd (no_yes r)
      go (SetType d p o) known small fits r = absurd (no_yes r)
      go EmptySetType known small fits r = absurd (no_yes r)
      go (TextType n) known small fits r = absurd (no_yes r)
      go (RecordType at packed fs) known small fits r = absurd (no_yes r)

  field_there : (name_at : ℕ) (p : Place) (at : ℕ) (packed : Bool) (fs : FieldList) (name : List ℕ) (x : Variable)
      (o : Option (ℕ × DataType)) → field_in fs name ≡ o → TypeKnown D (bound_of k) (RecordType at packed fs)
      → PlaceFits k os p (Whole (shape_of (RecordType at packed fs))) → field_of name_at p (RecordType at packed fs) o
      ≡ Yes x → VariableTold D k os x
  field_there name_at p at packed fs name x None e known fits r = absurd (no_yes r)
  field_there name_at p at packed fs name x (Some f) e known fits r =
      let type = RecordType at packed fs in
      let told = field_told D (bound_of k) at packed fs name f known.1 e in
      subst (VariableTold D k os) (inside_yes _ x r) (record {
        known = told.known;
        byte = false;
        packed = λ s. never s;
        small = λ s. never s;
        fits = selected_fits p (Tree.Field type f.0) (shape_of type) (Whole (shape_of f.1)) fits
            (refl, (shape_of f.1, told.part, refl));
      })

  pub component_told : (first at : ℕ) (v : Variable) (name : List ℕ) (x : Variable) → VariableTold D k os v
      → component first at v.place v.type name ≡ Yes x → VariableTold D k os x
  unfolding component
  component_told first at v name x told q = go v.type told.known (λ b. told.small b) told.fits q
    where
      go : (type : DataType) → TypeKnown D (bound_of k) type → (told.byte ≡ true → fits_byte type ≡ true)
          → PlaceFits k os v.place (part_of told.byte type) → component first at v.place type name ≡ Yes x
          → VariableTold D k os x
      go (RecordType a packed fs) known small fits r = field_there at v.place a packed fs name x
          (field_in fs name) refl known (whole_fits v.place (RecordType a packed fs) told.byte fits
          (no_byte told.byte small)) r
      go (OrdinalType o) known small fits r = absurd (no_yes r)
      go (PointerType n) known small fits r = absurd (no_yes r)
      go NilType known small fits r = absurd (no_yes r)
      go (SetType d p o) known small fits r = absurd (no_yes r)
      go EmptySetType known small fits r = absurd (no_yes r)
      go (TextType n) known small fits r = absurd (no_yes r)
      go (ArrayType at packed i c) known small fits r = absurd (no_yes r)

  pub target_told : (first : ℕ) (c : Context) (Γ : List Region) → Here c Γ D k os → (v : Variable) (line : ℕ)
      → IsLine line → (x : Variable) → VariableTold D k os v → target first c.domains v.place v.type line ≡ Yes x
      → VariableTold D k os x
  unfolding target
  target_told first c Γ here v line l x told q = go v.type told.known (λ b. told.small b) told.fits q
    where
      go : (type : DataType) → TypeKnown D (bound_of k) type → (told.byte ≡ true → fits_byte type ≡ true)
          → PlaceFits k os v.place (part_of told.byte type) → target first c.domains v.place type line ≡ Yes x
          → VariableTold D k os x
      go (PointerType n) known small fits r =
          let t = then_yes (some_or WrongType first (slice_get c.domains n)) _ x r in
          let there = here.domains n t.0 (some_or_yes WrongType first (slice_get c.domains n) t.0 t.1) in
          subst (VariableTold D k os) (inside_yes _ x t.2) (record {
            known = here.targets n t.0 there;
            byte = false;
            packed = λ s. never s;
            small = λ s. never s;
            fits = selected_fits v.place (Tree.Target n line) (PointerShape n) (Whole (shape_of t.0))
                (whole_fits v.place (PointerType n) told.byte fits (no_byte told.byte small))
                (refl, l, ap (λ d. Whole (shape_of d)) (domain_there k.program.domains n t.0 there));
          })
      go (OrdinalType o) known small fits r = absurd (no_yes r)
      go NilType known small fits r = absurd (no_yes r)
      go (SetType d p o) known small fits r = absurd (no_yes r)
      go EmptySetType known small fits r = absurd (no_yes r)
      go (TextType n) known small fits r = absurd (no_yes r)
      go (ArrayType at packed i d) known small fits r = absurd (no_yes r)
      go (RecordType at packed fs) known small fits r = absurd (no_yes r)

  -- ---- the variable that a name denotes

  pub named : (up entry : ℕ) (type : DataType) → TypeKnown D (bound_of k) type → (up < length k.chain)
      × (shape_in (kind_at k up entry) ≡ Some (shape_of type)) → VariableTold D k os (record {
        place = Tree.Variable (Tree.Entry up entry) Tree.no_selector;
        type = type;
        in_packed = false;
      })
  named up entry type known there = record {
    known = known;
    byte = false;
    packed = λ s. never s;
    small = λ s. never s;
    fits = (shape_of type, there, refl);
  }

  pub point_told : (at : ℕ) (p : Point) (x : Variable) → PointStands D k os p → variable_at at p ≡ Yes x
      → VariableTold D k os x
  unfolding variable_at
  point_told at (BlockPoint up (VariableMeaning entry type)) x h q =
      let there = entry_there k up entry (Own (shape_of type)) h.1 in
      subst (VariableTold D k os) (inside_yes _ x q) (named up entry type h.0 (there.0, ap shape_in there.1))
  point_told at (BlockPoint up (ParameterMeaning entry type)) x h q =
      subst (VariableTold D k os) (inside_yes _ x q)
      (named up entry type h.0 (shape_there k up entry (shape_of type) h.1))
  point_told at (FieldPoint which record_type number type) x h q =
      subst (VariableTold D k os) (inside_yes _ x q) (record {
        known = h.2;
        byte = false;
        packed = λ s. never s;
        small = λ s. never s;
        fits = (shape_of type, (h.0, h.1), refl);
      })
  point_told at (BlockPoint up (ConstantMeaning o n)) x h q = absurd (no_yes q)
  point_told at (BlockPoint up (TextMeaning w)) x h q = absurd (no_yes q)
  point_told at (BlockPoint up (TypeMeaning type)) x h q = absurd (no_yes q)
  point_told at (BlockPoint up (RoutineParameterMeaning entry sections result)) x h q = absurd (no_yes q)
  point_told at (BlockPoint up (RoutineMeaning heading)) x h q = absurd (no_yes q)
  point_told at (BlockPoint up (FileMeaning file)) x h q = absurd (no_yes q)
  point_told at (BlockPoint up (RequiredMeaning r)) x h q = absurd (no_yes q)
  point_told at (BlockPoint up LeftOutMeaning) x h q = absurd (no_yes q)

  -- ---- the contents of a variable

  pub number_part : (o : Ordinal) (b : Bool) → SortOf (part_of b (OrdinalType o)) NumberSort
  number_part o true = refl
  number_part o false = refl

  pub loaded_told : (at : ℕ) (v : Variable) (x : Value) → VariableTold D k os v → loaded at v ≡ Yes x
      → ValueTold D k os x
  unfolding contents
  loaded_told at v x told q = go v.type told.known (λ b. told.small b) told.fits q
    where
      go : (type : DataType) → TypeKnown D (bound_of k) type → (told.byte ≡ true → fits_byte type ≡ true)
          → PlaceFits k os v.place (part_of told.byte type) → contents at v.place type ≡ Yes x → ValueTold D k os x
      go (OrdinalType o) known small fits r = subst (ValueTold D k os) (inside_yes _ x r)
          (known, (part_of told.byte (OrdinalType o), number_part o told.byte, fits))
      go (PointerType n) known small fits r = subst (ValueTold D k os) (inside_yes _ x r) (
        known,
        (Whole (PointerShape n), refl, whole_fits v.place (PointerType n) told.byte fits (no_byte told.byte small)),
      )
      go (SetType d p o) known small fits r = subst (ValueTold D k os) (inside_yes _ x r)
          (whole_fits v.place (SetType d p o) told.byte fits (no_byte told.byte small))
      go (ArrayType a packed i c) known small fits r = subst (ValueTold D k os) (inside_yes _ x r)
          (refl, known, whole_fits v.place (ArrayType a packed i c) told.byte fits (no_byte told.byte small))
      go (RecordType a packed fs) known small fits r = subst (ValueTold D k os) (inside_yes _ x r)
          (refl, known, whole_fits v.place (RecordType a packed fs) told.byte fits (no_byte told.byte small))
      go NilType known small fits r = absurd known
      go EmptySetType known small fits r = absurd known
      go (TextType n) known small fits r = absurd known
