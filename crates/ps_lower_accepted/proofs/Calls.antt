-- Calls (6.6.3, 6.6.6, 6.7.3): actual parameters for the kinds that formal ones are.
use Rattle.std.proofs.Common.{◌≡◌, ℕ, zero, suc, Bool, true, false, not, ◌&&◌, ◌||◌, ◌==◌, if◌then◌else◌, List, []}
use Rattle.std.proofs.Common.{◌∷◌, length, Option, Some, None, refl, sym, ap, ◌∙◌, subst, eqb-true}
use Rattle.std.proofs.lemmas.Bool.{not-true}
use Rattle.std.proofs.lemmas.Option.{same_Some}
use Rattle.ps_tree.proofs.Booleans.{and_first as left, and_second as right}
use Rattle.ps_text.specs.declared.Span.{Span}
use Rattle.ps_tree.specs.declared.types.Host.{Host}
use Rattle.ps_tree.specs.declared.types.Host.TheVariants.{Integer, Char, Boolean, Enumeration}
use Rattle.ps_tree.specs.declared.types.Ordinal.{Ordinal}
use Rattle.ps_tree.specs.declared.tree.operators.RequiredFunction.{RequiredFunction}
use Rattle.ps_tree.specs.Types.{DataType, OrdinalType, PointerType, NilType, SetType, EmptySetType, TextType}
use Rattle.ps_tree.specs.Types.{ArrayType, RecordType, has_variables, is_assignable, is_compatible, is_same_type}
use Rattle.ps_tree.specs.Types.{is_same_host, string_length}
use Rattle.ps_tree.specs.Sizes.{fits_byte}
use Rattle.ps_tree.specs.Tree.{Formals, Argument, ByValue, BySet, ByCopy, ByVariable, ByRoutine, ByFormal, Expr, Call}
use Rattle.ps_tree.specs.Tree.{CallFormal, Apply, routine_at}
use Rattle.ps_lower_layout.specs.Shapes.{Shape, PointerShape, shape_of, Whole}
use Rattle.ps_lower_layout.specs.Paths.{NumberSort, PointerSort}
use Rattle.ps_lower_layout.specs.Frames.{Kind, Own, Reference, Closure, Kinds, no_kind, kind_before, kinds_of}
use Rattle.ps_lower_layout.specs.Frames.{result_shape}
use Rattle.ps_lower_code.specs.Scopes.{Scope}
use Rattle.ps_lower_code.specs.Fits.{FunctionFits, SortOf}
use Rattle.ps_lower_code.specs.Fits.{PlaceFits, ExprFits, ArgumentsFit, ArgumentFits}
use Rattle.ps_lower_accepted.proofs.Sound.{line_there}
use Rattle.tac_code.specs.Sound.{IsLine}
use Rattle.ps_check_names.specs.declared.meaning.Required.{Required}
use Rattle.ps_check_names.specs.declared.meaning.Required.TheVariants as required
use Rattle.ps_check_names.specs.Constants.{char}
use Rattle.ps_check_judgement.specs.declared.refusal.Rule.TheVariants.{NotInProfile, WrongKind, WrongType, NotCongruous}
use Rattle.ps_check_judgement.specs.Judged.{Yes, No, holds, some_or}
use Rattle.ps_check_judgement.specs.Changing.{Changing, ◌>>=◌, still}
use Rattle.ps_check_judgement.proofs.Binds.{then_yes, provided_yes, holds_yes, if_yes, some_or_yes, inside_yes, no_yes}
use Rattle.ps_check_judgement.proofs.Impossible.{never, none_some}
use Rattle.ps_check_names.specs.Regions.{Context, Region, Point, BlockPoint, FieldPoint, Section, ValueSection}
use Rattle.ps_check_names.specs.Regions.{VariableSection, RoutineSection, Sections, no_section, section_before}
use Rattle.ps_check_names.specs.Regions.{values_before, variables_before, formals_before, formals_of, RoutineMeaning}
use Rattle.ps_check_names.specs.Regions.{RoutineParameterMeaning, RequiredMeaning}
use Rattle.ps_check_names.specs.Spelling.{line_in}
use Rattle.ps_check_expressions.specs.Names.{denoted}
use Rattle.ps_check_expressions.specs.Values.{Value, SimpleValue, SetValue, StructureValue, Variable, Operand}
use Rattle.ps_check_expressions.specs.Values.{host_type, ordinal_of, range_of, argument_list}
use Rattle.ps_check_expressions.specs.Changed.{changed}
use Rattle.ps_check_expressions.specs.Calls.{are_one_type, congruous, are_alike, times, parameters, by_value}
use Rattle.ps_check_expressions.specs.Calls.{by_variable, by_routine, congruent, named_routine, actual, actuals}
use Rattle.ps_check_expressions.specs.Calls.{ordinal_value, needs_integer, function_of, applied, required_value, look}
use Rattle.ps_check_expressions.specs.Calls.{is_procedure, standing_alone, names_input, function_call, required_call}
use Rattle.ps_check_expressions.specs.Calls.{called}
use Rattle.ps_lower_accepted.proofs.Lists.{Each, Gives, then_gives, still_gives}
use Rattle.ps_lower_accepted.proofs.Lists.{still_then, then_still, then_same, ImagesBoth, both_give}
use Rattle.ps_lower_accepted.proofs.Names.{denoted_stands}
use Rattle.ps_lower_accepted.proofs.Operators.{integer_known, boolean_known, set_fits}
use Rattle.ps_lower_accepted.proofs.Reach.{entry_there, declared_there}
use Rattle.ps_lower_accepted.proofs.Same.{same_shape}
use Rattle.ps_lower_accepted.proofs.Standing.{Here, PointStands, SectionKnown, SectionsKnown, ResultKnown}
use Rattle.ps_lower_accepted.proofs.Strings.{structure_goes}
use Rattle.ps_lower_accepted.proofs.Tables.{Table, HostKnown, OrdinalKnown, TypeKnown}
use Rattle.ps_lower_accepted.proofs.Told.{bound_of, part_of, VariableTold, SimpleTold, ValueTold, OperandTold}

-- ---- the kinds of formal parameters

abbrev pub kind_of_section : Section → Kind
kind_of_section (ValueSection n type) = Own (shape_of type)
kind_of_section (VariableSection n type) = Reference (shape_of type)
kind_of_section (RoutineSection sections result) = Closure (kinds_of (formals_of sections)) (result_shape result)

abbrev pub kinds_listed : List Section → Kinds
kinds_listed [] = no_kind
kinds_listed (s ∷ rest) = kind_before (kind_of_section s) (kinds_listed rest)

values_are : (n m : ℕ) (type : DataType) (rest : Formals) (others : List Section) → kinds_of rest ≡ kinds_listed others
    → kinds_of (values_before n type rest) ≡ kinds_listed (times n (ValueSection m type) others)
values_are zero m type rest others e = e
values_are (suc n) m type rest others e = ap (kind_before (Own (shape_of type))) (values_are n m type rest others e)

variables_are : (n m : ℕ) (type : DataType) (rest : Formals) (others : List Section) → kinds_of rest
    ≡ kinds_listed others → kinds_of (variables_before n type rest) ≡ kinds_listed
    (times n (VariableSection m type) others)
variables_are zero m type rest others e = e
variables_are (suc n) m type rest others e = ap (kind_before (Reference (shape_of type)))
    (variables_are n m type rest others e)

pub kinds_are : (sections : Sections) → kinds_of (formals_of sections) ≡ kinds_listed (parameters sections)
unfolding formals_of formals_before parameters
kinds_are no_section = refl
kinds_are (section_before (ValueSection n type) rest) = values_are n n type (formals_of rest) (parameters rest)
    (kinds_are rest)
kinds_are (section_before (VariableSection n type) rest) = variables_are n n type (formals_of rest) (parameters rest)
    (kinds_are rest)
kinds_are (section_before (RoutineSection sections result) rest) =
    ap (kind_before (Closure (kinds_of (formals_of sections)) (result_shape result))) (kinds_are rest)

each_times : (P : Section → Type 0) (n : ℕ) (s : Section) (rest : List Section) → P s → Each P rest → Each P
    (times n s rest)
each_times P zero s rest h g = g
each_times P (suc n) s rest h g = (h, each_times P n s rest h g)

pub parameters_known : (D : Table) (b : ℕ) (sections : Sections) → SectionsKnown D b sections → Each (SectionKnown D b)
    (parameters sections)
unfolding parameters
parameters_known D b no_section h = tt
parameters_known D b (section_before (ValueSection n type) rest) h = each_times (SectionKnown D b) n
    (ValueSection n type) (parameters rest) h.0 (parameters_known D b rest h.1)
parameters_known D b (section_before (VariableSection n type) rest) h = each_times (SectionKnown D b) n
    (VariableSection n type) (parameters rest) h.0 (parameters_known D b rest h.1)
parameters_known D b (section_before (RoutineSection sections result) rest) h = (h.0, parameters_known D b rest h.1)

-- each actual parameter for its formal one
pub congruent_gives : {A B C : Type 0} (at : ℕ) (f : A → B → Changing C) (xs : List A) (ys : List B) (zs : List C)
    → Gives (congruent at f xs ys) zs → ImagesBoth f xs ys zs
congruent_gives at f xs ys zs g =
    let t = still_then (holds (length xs == length ys) NotCongruous at) _ zs g in
    both_give f xs ys zs (holds_yes (length xs == length ys) NotCongruous at t.0 t.1) t.2

-- ---- congruous lists have equal kinds (6.6.3.6)

same_values : (n : ℕ) (s t : DataType) (x y : Formals) → shape_of s ≡ shape_of t → kinds_of x ≡ kinds_of y → kinds_of
    (values_before n s x) ≡ kinds_of (values_before n t y)
same_values zero s t x y e h = h
same_values (suc n) s t x y e h = ap (λ z. kind_before (Own z) (kinds_of (values_before n s x))) e
    ∙ ap (kind_before (Own (shape_of t))) (same_values n s t x y e h)

same_variables : (n : ℕ) (s t : DataType) (x y : Formals) → shape_of s ≡ shape_of t → kinds_of x ≡ kinds_of y → kinds_of
    (variables_before n s x) ≡ kinds_of (variables_before n t y)
same_variables zero s t x y e h = h
same_variables (suc n) s t x y e h = ap (λ z. kind_before (Reference z) (kinds_of (variables_before n s x))) e
    ∙ ap (kind_before (Reference (shape_of t))) (same_variables n s t x y e h)

same_results : (D : Table) (b : ℕ) (r q : Option DataType) → ResultKnown D b r → ResultKnown D b q → are_one_type r q
    ≡ true → result_shape r ≡ result_shape q
same_results D b None None k l e = refl
same_results D b (Some s) (Some t) k l e = ap Some (same_shape D b b s t k.1 l.1 e)
same_results D b None (Some t) k l e = never e
same_results D b (Some s) None k l e = never e

mutual
  unfolding congruous are_alike formals_of formals_before

  same_kinds : (D : Table) (b : ℕ) (x y : Sections) → SectionsKnown D b x → SectionsKnown D b y → congruous x y ≡ true
      → kinds_of (formals_of x) ≡ kinds_of (formals_of y)
  same_kinds D b no_section no_section k l e = refl
  same_kinds D b (section_before s rest) (section_before t others) k l e =
      same_sections D b s t k.0 l.0 (left (are_alike s t) (congruous rest others) e) (formals_of rest)
      (formals_of others) (same_kinds D b rest others k.1 l.1 (right (are_alike s t) (congruous rest others) e))
  same_kinds D b no_section (section_before t others) k l e = never e
  same_kinds D b (section_before s rest) no_section k l e = never e

  same_sections : (D : Table) (b : ℕ) (s t : Section) → SectionKnown D b s → SectionKnown D b t → are_alike s t ≡ true
      → (x y : Formals) → kinds_of x ≡ kinds_of y → kinds_of (formals_before s x) ≡ kinds_of (formals_before t y)
  same_sections D b (ValueSection m s) (ValueSection n t) k l e x y h =
      let counts = eqb-true m n (left (m == n) (is_same_type s t) e) in
      ap (λ i. kinds_of (values_before i s x)) counts ∙ same_values n s t x y
      (same_shape D b b s t k l (right (m == n) (is_same_type s t) e)) h
  same_sections D b (VariableSection m s) (VariableSection n t) k l e x y h =
      let counts = eqb-true m n (left (m == n) (is_same_type s t) e) in
      ap (λ i. kinds_of (variables_before i s x)) counts ∙ same_variables n s t x y
      (same_shape D b b s t k l (right (m == n) (is_same_type s t) e)) h
  same_sections D b (RoutineSection s r) (RoutineSection t q) k l e x y h =
      ap (λ z. kind_before (Closure z (result_shape r)) (kinds_of x))
      (same_kinds D b s t k.0 l.0 (left (congruous s t) (are_one_type r q) e))
      ∙ ap (λ z. kind_before (Closure (kinds_of (formals_of t)) z) (kinds_of x))
      (same_results D b r q k.1 l.1 (right (congruous s t) (are_one_type r q) e))
      ∙ ap (kind_before (Closure (kinds_of (formals_of t)) (result_shape q))) h
  same_sections D b (ValueSection m s) (VariableSection n t) k l e x y h = never e
  same_sections D b (ValueSection m s) (RoutineSection t q) k l e x y h = never e
  same_sections D b (VariableSection m s) (ValueSection n t) k l e x y h = never e
  same_sections D b (VariableSection m s) (RoutineSection t q) k l e x y h = never e
  same_sections D b (RoutineSection s r) (ValueSection n t) k l e x y h = never e
  same_sections D b (RoutineSection s r) (VariableSection n t) k l e x y h = never e

-- ---- the host types

pub char_known : (D : Table) → OrdinalKnown D char
char_known D = record { low = refl; high = refl; rises = refl; host = tt; subrange = refl }

pub host_ordinal : (D : Table) (h : Host) → HostKnown D h → OrdinalKnown D (host_type h)
host_ordinal D Integer k = integer_known D
host_ordinal D Char k = char_known D
host_ordinal D Boolean k = boolean_known D
host_ordinal D (Enumeration at n) k = record { low = refl; high = k.1; rises = k.2; host = k; subrange = refl }

pub not_or : (b : Bool) → (not b || b) ≡ true
not_or true = refl
not_or false = refl

module _ (D : Table) (k : Scope) (os : List Shape) where
  -- ---- actual parameters

  pub pointer_of_same : (m n : ℕ) (e : Expr) → is_compatible (PointerType m) (PointerType n) ≡ true → ExprFits k os e
      (PointerSort m) → ExprFits k os e (PointerSort n)
  unfolding is_compatible is_same_type string_length
  pointer_of_same m n e q h = go (m == n) refl q
    where
      go : (b : Bool) → (m == n) ≡ b → (b || false) ≡ true → ExprFits k os e (PointerSort n)
      go true p g = subst (λ i. ExprFits k os e (PointerSort i)) (eqb-true m n p) h
      go false p g = never g

  simple_passed : (type from : DataType) (e : Expr) (line : ℕ) → IsLine line → TypeKnown D (bound_of k) type
      → SimpleTold D k os e from → is_compatible from type ≡ true → ArgumentFits k os (ByValue e (range_of type) line)
      (Own (shape_of type))
  unfolding is_compatible is_same_type string_length
  simple_passed (OrdinalType o) (OrdinalType p) e line l t h q = (
    shape_of (OrdinalType o),
    refl,
    (t.low, t.high, not_or (fits_byte (OrdinalType o))),
    (NumberSort, refl, h.1),
    l,
  )
  simple_passed (PointerType n) (PointerType m) e line l t h q =
      (PointerShape n, refl, tt, (PointerSort n, refl, pointer_of_same m n e q h.1), l)
  simple_passed (PointerType n) NilType e line l t h q =
      (PointerShape n, refl, tt, (PointerSort n, refl, h n), l)
  simple_passed (OrdinalType o) (PointerType m) e line l t h q = never q
  simple_passed (OrdinalType o) NilType e line l t h q = never q
  simple_passed (PointerType n) (OrdinalType p) e line l t h q = never q
  simple_passed (SetType d p b) (OrdinalType o) e line l t h q = never q
  simple_passed (SetType d p b) (PointerType m) e line l t h q = never q
  simple_passed (SetType d p b) NilType e line l t h q = never q
  simple_passed (ArrayType at p i c) (OrdinalType o) e line l t h q = never q
  simple_passed (ArrayType at p i c) (PointerType m) e line l t h q = never q
  simple_passed (ArrayType at p i c) NilType e line l t h q = never q
  simple_passed (RecordType at p fs) (OrdinalType o) e line l t h q = never q
  simple_passed (RecordType at p fs) (PointerType m) e line l t h q = never q
  simple_passed (RecordType at p fs) NilType e line l t h q = never q
  simple_passed NilType from e line l t h q = absurd t
  simple_passed EmptySetType from e line l t h q = absurd t
  simple_passed (TextType n) from e line l t h q = absurd t
  simple_passed type from e line l t h q = absurd h

  value_passed : (at : ℕ) (type : DataType) (v : Value) (line : ℕ) → IsLine line → (a : Argument) → TypeKnown D
      (bound_of k) type → ValueTold D k os v → by_value at type v line ≡ Yes a → ArgumentFits k os a
      (Own (shape_of type))
  unfolding by_value
  value_passed at type (SimpleValue e from) line l a t h q =
      let p = provided_yes (is_assignable from type) _ _ (ByValue e (range_of type) line) a q in
      subst (λ x. ArgumentFits k os x (Own (shape_of type))) p.1
      (simple_passed type from e line l t h (right (has_variables type) (is_compatible from type) p.0))
  value_passed at (SetType d i o) (SetValue e from) line l a t h q =
      let p = provided_yes (is_assignable from (SetType d i o)) _ _ (BySet e o.low o.high line) a q in
      subst (λ x. ArgumentFits k os x (Own (shape_of (SetType d i o)))) p.1
      (refl, set_fits D k os e from h, t, l)
  value_passed at type (StructureValue e from) line l a t h q =
      let p = provided_yes (is_assignable from type) _ _ (ByCopy e type) a q in
      let goes = structure_goes D k os e from type h t (right (has_variables type) (is_compatible from type) p.0) in
      subst (λ x. ArgumentFits k os x (Own (shape_of type))) p.1 (refl, goes.structure, goes.fits)
  value_passed at type (SetValue e from) line l a t h q = absurd (no_yes q)

  variable_passed : (at : ℕ) (type : DataType) (v : Variable) (a : Argument) → TypeKnown D (bound_of k) type
      → VariableTold D k os v → by_variable at type v ≡ Yes a → ArgumentFits k os a (Reference (shape_of type))
  unfolding by_variable
  variable_passed at type v a t told q =
      let o = if_yes (is_same_type v.type type) _ _ _ a q in
      let p = provided_yes (not v.in_packed) _ _ (ByVariable v.place) a o.1 in
      let whole = go told.byte refl (not-true v.in_packed p.0) in
      let same = same_shape D (bound_of k) (bound_of k) v.type type told.known t o.0 in
      subst (λ x. ArgumentFits k os x (Reference (shape_of type))) p.1 (
        shape_of type,
        refl,
        subst (λ s. PlaceFits k os v.place (Whole s)) same
            (subst (λ b. PlaceFits k os v.place (part_of b v.type)) whole told.fits),
      )
    where
      go : (b : Bool) → told.byte ≡ b → v.in_packed ≡ false → told.byte ≡ false
      go false e f = e
      go true e f = never (sym f ∙ told.packed e)

  routine_passed : (at : ℕ) (sections : Sections) (result : Option DataType) (p : Point) (a : Argument) → SectionKnown D
      (bound_of k) (RoutineSection sections result) → PointStands D k os p → by_routine at sections result p ≡ Yes a
      → ArgumentFits k os a (Closure (kinds_of (formals_of sections)) (result_shape result))
  unfolding by_routine
  routine_passed at sections result (BlockPoint up (RoutineMeaning h)) a s st q =
      let p = provided_yes (congruous sections h.sections && are_one_type result h.result) _ _
      (ByRoutine h.number up) a q in
      let there = declared_there k up h st.1 in
      let kinds = same_kinds D (bound_of k) sections h.sections s.0 st.0.0
      (left (congruous sections h.sections) (are_one_type result h.result) p.0) in
      let results = same_results D (bound_of k) result h.result s.1 st.0.1
      (right (congruous sections h.sections) (are_one_type result h.result) p.0) in
      subst (λ x. ArgumentFits k os x (Closure (kinds_of (formals_of sections)) (result_shape result))) p.1 (
        there.at,
        ap (λ z. Closure z (result_shape result)) (kinds ∙ ap kinds_of (sym there.is.formals))
            ∙ ap (λ z. Closure (kinds_of (routine_at k.program h.number).formals) z)
            (results ∙ ap result_shape (sym there.is.result)),
      )
  routine_passed at sections result (BlockPoint up (RoutineParameterMeaning entry x r)) a s st q =
      let p = provided_yes (congruous sections x && are_one_type result r) _ _ (ByFormal up entry) a q in
      let there = entry_there k up entry (Closure (kinds_of (formals_of x)) (result_shape r)) st.1 in
      let kinds = same_kinds D (bound_of k) sections x s.0 st.0.0
      (left (congruous sections x) (are_one_type result r) p.0) in
      let results = same_results D (bound_of k) result r s.1 st.0.1
      (right (congruous sections x) (are_one_type result r) p.0) in
      subst (λ y. ArgumentFits k os y (Closure (kinds_of (formals_of sections)) (result_shape result))) p.1 (
        there.0,
        (
          kinds_of (formals_of x),
          (
            result_shape r,
            ap (λ z. Closure z (result_shape result)) kinds ∙ ap (λ z. Closure (kinds_of (formals_of x)) z) results,
            there.1,
          ),
        ),
      )
  routine_passed at sections result (FieldPoint which record_type number type) a s st q = absurd (no_yes q)
  routine_passed at sections result (BlockPoint up m) a s st q = absurd (no_yes q)

  pub ordinal_told : (at : ℕ) (v : Value) (x : Expr × Ordinal) → ValueTold D k os v → ordinal_of at v ≡ Yes x
      → OrdinalKnown D x.1 × ExprFits k os x.0 NumberSort
  unfolding ordinal_of
  ordinal_told at (SimpleValue e (OrdinalType o)) x h q = subst
      (λ y. OrdinalKnown D y.1 × ExprFits k os y.0 NumberSort) (inside_yes _ x q) h
  ordinal_told at (SimpleValue e (PointerType n)) x h q = absurd (no_yes q)
  ordinal_told at (SimpleValue e NilType) x h q = absurd (no_yes q)
  ordinal_told at (SimpleValue e type) x h q = absurd h
  ordinal_told at (SetValue e type) x h q = absurd (no_yes q)
  ordinal_told at (StructureValue e type) x h q = absurd (no_yes q)

  module _ (c : Context) (Γ : List Region) (here : Here c Γ D k os) where
    pub actual_told : (s : Section) (x : Operand) (a : Argument) → SectionKnown D (bound_of k) s → OperandTold D k os x
        → Gives (actual c Γ s x) a → ArgumentFits k os a (kind_of_section s)
    unfolding actual
    actual_told (ValueSection n type) x a t told q =
        let v = then_still x.value _ a q in
        value_passed x.first type v.0 (line_in c.text x.first) (line_there c.text x.first here.lines) a t
        (told.value v.0 v.1) v.2
    actual_told (VariableSection n type) x a t told q =
        let v = then_gives x.variable _ a q in
        let p = then_still (changed c v.0.place x.first) _ a v.2 in
        variable_passed x.first type v.0 a t (told.variable v.0 v.1) p.2
    actual_told (RoutineSection sections result) x a t told q = named x.name
        (still_gives (named_routine c Γ sections result x.first x.name) a q)
      where
        named : (name : Option Span) → named_routine c Γ sections result x.first name ≡ Yes a → ArgumentFits k os a
            (Closure (kinds_of (formals_of sections)) (result_shape result))
        named None e = absurd (no_yes e)
        named (Some name) e =
            let p = then_yes (denoted c Γ name) _ a e in
            routine_passed name.from sections result p.0 a t (denoted_stands c Γ D k os here name p.0 p.1) p.2

    arguments_listed : (ss : List Section) (xs : List Operand) (args : List Argument) → Each
        (SectionKnown D (bound_of k)) ss → Each (OperandTold D k os) xs → ImagesBoth (actual c Γ) ss xs args
        → ArgumentsFit k os (argument_list args) (kinds_listed ss)
    arguments_listed [] [] [] t told q = refl
    arguments_listed (s ∷ ss) (x ∷ xs) (a ∷ args) t told q = (
      kind_of_section s,
      (kinds_listed ss, refl, actual_told s x a t.0 told.0 q.0, arguments_listed ss xs args t.1 told.1 q.1),
    )
    arguments_listed [] [] (a ∷ args) t told q = absurd q
    arguments_listed [] (x ∷ xs) args t told q = absurd q
    arguments_listed (s ∷ ss) [] args t told q = absurd q
    arguments_listed (s ∷ ss) (x ∷ xs) [] t told q = absurd q

    pub arguments_told : (at : ℕ) (sections : Sections) (xs : List Operand) (args : List Argument) → SectionsKnown D
        (bound_of k) sections → Each (OperandTold D k os) xs → Gives (actuals c Γ at sections xs) args
        → ArgumentsFit k os (argument_list args) (kinds_of (formals_of sections))
    arguments_told at sections xs args t told q = subst (ArgumentsFit k os (argument_list args))
        (sym (kinds_are sections)) (arguments_listed (parameters sections) xs args
        (parameters_known D (bound_of k) sections t) told
        (congruent_gives at (actual c Γ) (parameters sections) xs args q))

    -- ---- required functions

    function_told : (r : Required) (o : Ordinal) (g : RequiredFunction × Ordinal) → OrdinalKnown D o → function_of r o
        ≡ Some g → FunctionFits g.0 × OrdinalKnown D g.1
    function_told required.Abs o g h q = subst (λ x. FunctionFits x.0 × OrdinalKnown D x.1) (same_Some _ g q)
        (tt, integer_known D)
    function_told required.Sqr o g h q = subst (λ x. FunctionFits x.0 × OrdinalKnown D x.1) (same_Some _ g q)
        (tt, integer_known D)
    function_told required.Odd o g h q = subst (λ x. FunctionFits x.0 × OrdinalKnown D x.1) (same_Some _ g q)
        (tt, boolean_known D)
    function_told required.Chr o g h q = subst (λ x. FunctionFits x.0 × OrdinalKnown D x.1) (same_Some _ g q)
        (tt, char_known D)
    function_told required.Ord o g h q = subst (λ x. FunctionFits x.0 × OrdinalKnown D x.1) (same_Some _ g q)
        (tt, integer_known D)
    function_told required.Succ o g h q = let t = host_ordinal D o.host h.host in subst
        (λ x. FunctionFits x.0 × OrdinalKnown D x.1) (same_Some _ g q) (t.high, t)
    function_told required.Pred o g h q = let t = host_ordinal D o.host h.host in subst
        (λ x. FunctionFits x.0 × OrdinalKnown D x.1) (same_Some _ g q) (t.low, t)
    function_told r o g h q = absurd (none_some q)

    applied_told : (at : ℕ) (r : Required) (line : ℕ) → IsLine line → (x : Expr × Ordinal)
        (o : Option (RequiredFunction × Ordinal)) (v : Value) → ExprFits k os x.0 NumberSort
        → ((g : RequiredFunction × Ordinal) → o ≡ Some g → FunctionFits g.0 × OrdinalKnown D g.1)
        → applied at r line x o ≡ Yes v → ValueTold D k os v
    applied_told at r line l x None v h t q = absurd (no_yes q)
    applied_told at r line l x (Some g) v h t q = go (needs_integer r && not (is_same_host x.1.host Integer)) q
      where
        go : (b : Bool) → (if b then No WrongType at else Yes (ordinal_value (Apply g.0 x.0 line) g.1)) ≡ Yes v
            → ValueTold D k os v
        go true e = absurd (no_yes e)
        go false e = let told = t g refl in subst (ValueTold D k os) (inside_yes _ v e)
            (told.1, (refl, told.0, h, l))

    required_told : (at : ℕ) (r : Required) (line : ℕ) → IsLine line → (v w : Value) → ValueTold D k os v
        → required_value at r line v ≡ Yes w → ValueTold D k os w
    unfolding required_value
    required_told at r line l v w h q =
        let x = then_yes (ordinal_of at v) _ w q in
        let told = ordinal_told at v x.0 h x.1 in
        applied_told at r line l x.0 (function_of r x.0.1) w told.1 (λ g e. function_told r x.0.1 g told.0 e) x.2

    look_told : (r : Required) (line : ℕ) → IsLine line → (v : Value) → look r line ≡ Some v → ValueTold D k os v
    unfolding look
    look_told required.Eof line l v q = subst (ValueTold D k os) (same_Some _ v q)
        (boolean_known D, (refl, here.outermost))
    look_told required.Eoln line l v q = subst (ValueTold D k os) (same_Some _ v q)
        (boolean_known D, (refl, here.outermost, l))
    look_told r line l v q = absurd (none_some q)

    alone_told : (at : ℕ) (r : Required) (line : ℕ) → IsLine line → (o : Option Value) → look r line ≡ o → (v : Value)
        → standing_alone at c.has_input o ≡ Yes v → ValueTold D k os v
    alone_told at r line l None e v q = absurd (no_yes q)
    alone_told at r line l (Some w) e v q = look_told r line l v (e ∙ ap Some (provided_yes c.has_input _ _ w v q).1)

    function_called : (at : ℕ) (r : Required) (xs : List Operand) (v : Value) → Each (OperandTold D k os) xs → Gives
        (function_call c Γ at r xs) v → ValueTold D k os v
    unfolding function_call
    function_called at r [] v told q = alone_told at r (line_in c.text at) (line_there c.text at here.lines)
        (look r (line_in c.text at)) refl v (still_gives _ v q)
    function_called at r (x ∷ []) v told q = go (names_input c Γ x) q
      where
        go : (b : Bool) → Gives (if b then still (some_or NotInProfile x.first (look r (line_in c.text at)))
            else (x.value >>= (λ v. still (required_value x.first r (line_in c.text at) v)))) v → ValueTold D k os v
        go true e = look_told r (line_in c.text at) (line_there c.text at here.lines) v
            (some_or_yes NotInProfile x.first (look r (line_in c.text at)) v (still_gives _ v e))
        go false e = let w = then_still x.value _ v e in required_told x.first r (line_in c.text at)
            (line_there c.text at here.lines) w.0 v (told.0.value w.0 w.1) w.2
    function_called at r (x ∷ y ∷ rest) v told q = absurd (no_yes q.given)

    required_called : (at : ℕ) (r : Required) (xs : List Operand) (v : Value) → Each (OperandTold D k os) xs → Gives
        (required_call c Γ at r xs) v → ValueTold D k os v
    unfolding required_call
    required_called at r xs v told q = function_called at r xs v told
        (still_then (holds (not (is_procedure r)) WrongKind at) _ v q).2

    -- ---- calls of functions

    result_told : (type : DataType) (e : Expr) → ResultKnown D (bound_of k) (Some type)
        → ((sort : _) → SortOf (Whole (shape_of type)) sort → ExprFits k os e sort) → SimpleTold D k os e type
    result_told (OrdinalType o) e h g = (h.1, g NumberSort refl)
    result_told (PointerType n) e h g = (h.1, g (PointerSort n) refl)
    result_told type e h g = absurd h.0

    pub called_told : (at : ℕ) (p : Point) (xs : List Operand) (v : Value) → PointStands D k os p → Each
        (OperandTold D k os) xs → Gives (called c Γ at p xs) v → ValueTold D k os v
    unfolding called
    called_told at (BlockPoint up (RoutineMeaning h)) xs v st told q =
        let type = still_then (some_or WrongKind at h.result) _ v q in
        let is = some_or_yes WrongKind at h.result type.0 type.1 in
        let args = then_same (actuals c Γ at h.sections xs) _ v type.2 in
        let there = declared_there k up h st.1 in
        let result = ap result_shape (there.is.result ∙ is) in
        let arguments = arguments_told at h.sections xs args.0 st.0.0 told args.1 in
        subst (ValueTold D k os) args.2 (result_told type.0
        (Call h.number up (argument_list args.0) (line_in c.text at)) (subst (ResultKnown D (bound_of k)) is st.0.1)
        (λ sort s. (
          there.at,
          (shape_of type.0, result, s),
          subst (λ fs. ArgumentsFit k os (argument_list args.0) (kinds_of fs)) (sym there.is.formals) arguments,
          line_there c.text at here.lines,
        )))
    called_told at (BlockPoint up (RoutineParameterMeaning entry sections result)) xs v st told q =
        let type = still_then (some_or WrongKind at result) _ v q in
        let is = some_or_yes WrongKind at result type.0 type.1 in
        let args = then_same (actuals c Γ at sections xs) _ v type.2 in
        let there = entry_there k up entry (Closure (kinds_of (formals_of sections)) (result_shape result)) st.1 in
        let arguments = arguments_told at sections xs args.0 st.0.0 told args.1 in
        subst (ValueTold D k os) args.2 (result_told type.0
        (CallFormal up entry (argument_list args.0) (line_in c.text at))
        (subst (ResultKnown D (bound_of k)) is st.0.1)
        (λ sort s. (
          there.0,
          (
            kinds_of (formals_of sections),
            (
              shape_of type.0,
              there.1 ∙ ap (λ r. Some (Closure (kinds_of (formals_of sections)) (result_shape r))) is,
              s,
            ),
            arguments,
          ),
          line_there c.text at here.lines,
        )))
    called_told at (BlockPoint up (RequiredMeaning r)) xs v st told q = required_called at r xs v told q
    called_told at (BlockPoint up m) xs v st told q = absurd (no_yes q.given)
    called_told at (FieldPoint which record_type number type) xs v st told q = absurd (no_yes q.given)
