-- What actual parameters, calls of required functions and members of sets threaten.
use Rattle.std.proofs.Common.{◌≡◌, ℕ, Bool, true, false, not, ◌&&◌, List, [], ◌∷◌, ◌++◌, Option, Some, None, refl, sym}
use Rattle.std.proofs.Common.{ap, ◌∙◌, append-nil, append_assoc}
use Rattle.std.specs.Prelude.{if◌then◌else◌}
use Rattle.std.proofs.lemmas.Option.{same_Some}
use Rattle.ps_tree.specs.declared.types.Ordinal.{Ordinal}
use Rattle.ps_tree.specs.declared.tree.operators.RequiredFunction.{RequiredFunction}
use Rattle.ps_tree.specs.declared.types.Host.TheVariants.{Integer}
use Rattle.ps_tree.specs.Types.{DataType, OrdinalType, SetType, is_same_host, is_same_type, is_assignable}
use Rattle.ps_tree.specs.Tree as Tree
use Rattle.ps_check_judgement.specs.declared.refusal.Rule.TheVariants.{WrongType, NotAssignable, PackedVariable}
use Rattle.ps_check_judgement.specs.Judged.{Yes, No, provided}
use Rattle.ps_check_judgement.proofs.Binds.{no_yes, inside_yes, then_yes, provided_yes, if_yes}
use Rattle.ps_check_judgement.proofs.Impossible.{none_some}
use Rattle.ps_check_names.specs.declared.meaning.Required.{Required}
use Rattle.ps_check_names.specs.declared.meaning.Required.TheVariants as required
use Rattle.ps_check_names.specs.Regions.{Point, BlockPoint, Sections, RoutineMeaning, RoutineParameterMeaning}
use Rattle.ps_check_expressions.specs.Values.{Value, SimpleValue, SetValue, StructureValue, Variable, ordinal_of}
use Rattle.ps_check_expressions.specs.Values.{argument_list, member_list}
use Rattle.ps_check_expressions.specs.Calls.{by_value, by_variable, by_routine, needs_integer, function_of, applied}
use Rattle.ps_check_expressions.specs.Calls.{required_value, look}
use Rattle.ps_check_expressions.specs.Expressions.{TypedMember, Gathered, gathered, constructed, single, several}
use Rattle.ps_check_expressions.specs.Expressions.{operands}
use Rattle.ps_check_laws.specs.Threats.{Threatened, whole, place_threatens, expr_threatens, set_threatens}
use Rattle.ps_check_laws.specs.Threats.{member_threatens, members_threaten, argument_threatens, arguments_threaten}
use Rattle.ps_check_laws.proofs.Values.{value_threatens, ordinal_is}

-- ---- lists of the checked tree

pub arguments_last : (xs : List Tree.Argument) (a : Tree.Argument) → arguments_threaten (argument_list (xs ++ a ∷ []))
    ≡ arguments_threaten (argument_list xs) ++ argument_threatens a
unfolding arguments_threaten
arguments_last [] a = append-nil (argument_threatens a)
arguments_last (x ∷ xs) a = ap (λ l. argument_threatens x ++ l) (arguments_last xs a) ∙ sym
    (append_assoc (argument_threatens x) (arguments_threaten (argument_list xs)) (argument_threatens a))

members_last : (xs : List Tree.Member) (m : Tree.Member) → members_threaten (member_list (xs ++ m ∷ []))
    ≡ members_threaten (member_list xs) ++ member_threatens m
unfolding members_threaten
members_last [] m = append-nil (member_threatens m)
members_last (x ∷ xs) m = ap (λ l. member_threatens x ++ l) (members_last xs m) ∙ sym
    (append_assoc (member_threatens x) (members_threaten (member_list xs)) (member_threatens m))

-- ---- actual parameters and required functions

pub value_passed : (at : ℕ) (type : DataType) (v : Value) (line : ℕ) (a : Tree.Argument) → by_value at type v line
    ≡ Yes a
    → argument_threatens a ≡ value_threatens v
unfolding by_value argument_threatens
value_passed at type (SimpleValue e from) line a h = ap argument_threatens
    (sym (provided_yes (is_assignable from type) NotAssignable at _ a h).1)
value_passed at (SetType b k o) (SetValue e from) line a h = ap argument_threatens
    (sym (provided_yes (is_assignable from (SetType b k o)) NotAssignable at _ a h).1)
value_passed at type (SetValue e from) line a h = absurd (no_yes h)
value_passed at type (StructureValue e from) line a h = ap argument_threatens
    (sym (provided_yes (is_assignable from type) NotAssignable at _ a h).1)

pub variable_passed : (at : ℕ) (type : DataType) (v : Variable) (a : Tree.Argument) → by_variable at type v ≡ Yes a
    → argument_threatens a ≡ place_threatens v.place ++ whole v.place
unfolding by_variable argument_threatens
variable_passed at type v a h =
    let same_type = if_yes (is_same_type v.type type)
    (provided (not v.in_packed) PackedVariable at (Tree.ByVariable v.place)) WrongType at a h in
    ap argument_threatens (sym (provided_yes (not v.in_packed) PackedVariable at
    (Tree.ByVariable v.place) a same_type.1).1)

pub routine_passed : (at : ℕ) (sections : Sections) (result : Option DataType) (p : Point) (a : Tree.Argument)
    → by_routine at sections result p ≡ Yes a → argument_threatens a ≡ []
unfolding by_routine argument_threatens
routine_passed at sections result (BlockPoint up (RoutineMeaning h)) a e = ap argument_threatens
    (sym (provided_yes _ _ at (Tree.ByRoutine h.number up) a e).1)
routine_passed at sections result (BlockPoint up (RoutineParameterMeaning entry s r)) a e = ap argument_threatens
    (sym (provided_yes _ _ at (Tree.ByFormal up entry) a e).1)
routine_passed at sections result p a e = absurd (no_yes e)

pub looked : (r : Required) (line : ℕ) (v : Value) → look r line ≡ Some v → value_threatens v ≡ []
unfolding look expr_threatens
looked required.Eof line v e = ap value_threatens (sym (same_Some _ v e))
looked required.Eoln line v e = ap value_threatens (sym (same_Some _ v e))
looked r line v e = absurd (none_some e)

applied_threatens : (at : ℕ) (r : Required) (line : ℕ) (x : Tree.Expr × Ordinal)
    (o : Option (RequiredFunction × Ordinal)) (w : Value) → applied at r line x o ≡ Yes w → value_threatens w
    ≡ expr_threatens x.0
unfolding expr_threatens
applied_threatens at r line x None w e = absurd (no_yes e)
applied_threatens at r line x (Some f) w e = by (needs_integer r && not (is_same_host x.1.host Integer)) e
  where
    by : (b : Bool) → (if b then No WrongType at else Yes (SimpleValue (Tree.Apply f.0 x.0 line) (OrdinalType f.1)))
        ≡ Yes w → value_threatens w ≡ expr_threatens x.0
    by true h = absurd (no_yes h)
    by false h = ap value_threatens (sym (inside_yes _ w h))

pub required_threatens : (at : ℕ) (r : Required) (line : ℕ) (v w : Value) → required_value at r line v ≡ Yes w
    → value_threatens w ≡ value_threatens v
unfolding required_value
required_threatens at r line v w e = (let x = then_yes (ordinal_of at v) _ w e in applied_threatens at r line x.0
    (function_of r x.0.1) w x.2 ∙ sym (ordinal_is at v x.0 x.1))

-- ---- members of sets

abbrev pub gathered_threatens : Gathered → Threatened
gathered_threatens g = members_threaten (member_list g.0)

pub gathered_both : (at : ℕ) (g : Gathered) (m : TypedMember) (h : Gathered) → gathered at g m ≡ Yes h
    → gathered_threatens h ≡ gathered_threatens g ++ member_threatens m.0
unfolding gathered
gathered_both at (ms, None) (m, o) h e = ap gathered_threatens (sym (inside_yes (ms ++ m ∷ [], Some o) h e))
    ∙ members_last ms m
gathered_both at (ms, Some p) (m, o) h e = ap gathered_threatens
    (sym (provided_yes (is_same_host p.host o.host) WrongType at (ms ++ m ∷ [], Some p) h e).1) ∙ members_last ms m

pub constructed_threatens : (g : Gathered) → value_threatens (constructed g) ≡ gathered_threatens g
unfolding constructed set_threatens
constructed_threatens (ms, None) = refl
constructed_threatens (ms, Some o) = refl

abbrev pub member_of : TypedMember → Threatened
member_of m = member_threatens m.0

pub single_threatens : (at : ℕ) (v : Value) (line : ℕ) (m : TypedMember) → single at v line ≡ Yes m → member_of m
    ≡ value_threatens v
unfolding member_threatens
single_threatens at v line m e = (let a = then_yes (ordinal_of at v) _ m e in ap member_of
    (sym (inside_yes (Tree.One a.0.0 line, a.0.1) m a.2)) ∙ sym (ordinal_is at v a.0 a.1))

pub several_threaten : (first second : ℕ) (v w : Value) (line : ℕ) (m : TypedMember) → several
    (operands first second) v w line ≡ Yes m → member_of m ≡ value_threatens v ++ value_threatens w
unfolding member_threatens
several_threaten first second v w line m e =
    let a = then_yes (ordinal_of first v) _ m e in
    let b = then_yes (ordinal_of second w) _ m a.2 in
    ap member_of (sym (provided_yes _ WrongType second (Tree.Several a.0.0 b.0.0 line, a.0.1) m b.2).1)
    ∙ ap (λ l. l ++ expr_threatens b.0.0) (sym (ordinal_is first v a.0 a.1)) ∙ ap (λ l. value_threatens v ++ l)
    (sym (ordinal_is second w b.0 b.1))
