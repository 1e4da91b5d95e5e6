-- What the judgement makes of the parts of statements that are judged already.
use Rattle.std.proofs.Common.{◌≡◌, ℕ, ◌-◌, ◌==◌, Bool, true, false, List, [], ◌∷◌, ◌++◌, Option, Some, None, option_map}
use Rattle.std.proofs.Common.{sym, ap}
use Rattle.std.specs.Prelude.{if◌then◌else◌}
use Rattle.std.proofs.lemmas.Option.{same_Some}
use Rattle.ps_tree.specs.declared.types.Host.TheVariants.{Integer, Char, Boolean}
use Rattle.ps_tree.specs.declared.types.Ordinal.{Ordinal}
use Rattle.ps_tree.specs.Types.{DataType, OrdinalType, PointerType, SetType, is_same_host, is_assignable, is_compatible}
use Rattle.ps_tree.specs.Tree as Tree
use Rattle.ps_check_judgement.specs.declared.refusal.Rule.TheVariants.{WrongKind, WrongType, NotAssignable}
use Rattle.ps_check_judgement.specs.Judged.{Yes, No}
use Rattle.ps_check_judgement.proofs.Binds.{no_yes, inside_yes, then_yes, provided_yes, some_or_yes}
use Rattle.ps_check_judgement.proofs.Impossible.{none_some}
use Rattle.ps_check_names.specs.Regions.{Region, BlockRegion, RecordRegion, OwnNames, Point, BlockPoint, Heading}
use Rattle.ps_check_names.specs.Regions.{RoutineMeaning}
use Rattle.ps_check_expressions.specs.Values.{Value, SimpleValue, SetValue, StructureValue, Variable, is_boolean}
use Rattle.ps_check_expressions.specs.Values.{is_integer}
use Rattle.ps_check_statements.specs.Assignments.{result_of, result_in, target_at, set_assigned, assigned}
use Rattle.ps_check_statements.specs.Procedures.{Places, read_variable, ordinal_written, written, width_of, read_of}
use Rattle.ps_check_statements.specs.Procedures.{write_of, new_variable, goes_with_pack, packed_from, unpacked_to}
use Rattle.ps_check_statements.specs.Structured.{condition, bound}
use Rattle.ps_check_laws.specs.Threats.{place_threatens, selectors_threaten, expr_threatens, set_threatens}
use Rattle.ps_check_laws.specs.Threats.{write_threatens, read_threatens, reads_threaten, width_threatens}
use Rattle.ps_check_laws.specs.Threats.{parameter_threatens, parameters_threaten, statement_threatens}
use Rattle.ps_check_laws.proofs.Values.{value_threatens, variable_none}
use Rattle.ps_check_laws.proofs.HandedParts.{place_of}

-- ---- what is made of what is judged already

result_none : (Γ : List Region) (n : ℕ) (h : Heading) (levels : ℕ) (v : Variable) → result_in Γ n h levels ≡ Some v
    → place_of v ≡ []
unfolding result_in place_threatens selectors_threaten
result_none [] n h levels v e = absurd (none_some e)
result_none (BlockRegion routine names known ∷ Γ) n h levels v e = by (n == 0) e
    (λ g. result_none Γ (n - 1) h levels v g)
  where
    of_heading : (o : Option DataType) → option_map (λ type. record {
      place = Tree.Variable (Tree.Entry levels 0) Tree.no_selector;
      type = type;
      in_packed = false;
    }) o ≡ Some v → place_of v ≡ []
    of_heading None g = absurd (none_some g)
    of_heading (Some type) g = ap place_of (sym (same_Some _ v g))

    here : (b : Bool) → (if b then result_of h levels else None) ≡ Some v → place_of v ≡ []
    here true g = of_heading h.result g
    here false g = absurd (none_some g)

    by : (b : Bool) → (if b then (if routine == h.number then result_of h levels else None) else result_in Γ
        (n - 1) h levels) ≡ Some v → (result_in Γ (n - 1) h levels ≡ Some v → place_of v ≡ []) → place_of v ≡ []
    by true g further = here (routine == h.number) g
    by false g further = further g
result_none (RecordRegion type fields ∷ Γ) n h levels v e = result_none Γ n h levels v e
result_none (OwnNames names defined ∷ Γ) n h levels v e = result_none Γ n h levels v e

pub target_none : (Γ : List Region) (at : ℕ) (p : Point) (v : Variable) → target_at Γ at p ≡ Yes v → place_of v ≡ []
unfolding target_at
target_none Γ at (BlockPoint up (RoutineMeaning h)) v e = by (up == 0) (some_or_yes WrongKind at _ v e)
  where
    by : (b : Bool) → (if b then None else result_in Γ (up - 1) h (up - 1)) ≡ Some v → place_of v ≡ []
    by true g = absurd (none_some g)
    by false g = result_none Γ (up - 1) h (up - 1) v g
target_none Γ at p v e = variable_none at p v e

pub assigned_threatens : (at : ℕ) (v : Variable) (e : Value) (line : ℕ) (t : Tree.Statement)
    → assigned at v e line ≡ Yes t
    → statement_threatens t ≡ write_threatens v.place ++ value_threatens e
unfolding assigned set_assigned statement_threatens
assigned_threatens at v (SimpleValue e from) line t h = ap statement_threatens
    (sym (provided_yes (is_assignable from v.type) NotAssignable at _ t h).1)
assigned_threatens at v (StructureValue e from) line t h = ap statement_threatens
    (sym (provided_yes (is_assignable from v.type) NotAssignable at _ t h).1)
assigned_threatens at v (SetValue e from) line t h = of_set v.type h
  where
    of_set : (type : DataType) → set_assigned at v.place type e from line ≡ Yes t → statement_threatens t
        ≡ write_threatens v.place ++ set_threatens e
    of_set (SetType a k o) g = ap statement_threatens
        (sym (provided_yes (is_assignable from (SetType a k o)) NotAssignable at _ t g).1)
    of_set type g = absurd (no_yes g)

pub variable_read : (at : ℕ) (p : Tree.Place) (type : DataType) (line : ℕ) (r : Tree.ReadVariable)
    → read_variable at p type line ≡ Yes r → read_threatens r ≡ write_threatens p
unfolding read_variable read_threatens
variable_read at p (OrdinalType o) line r h = by (is_same_host o.host Char) (is_same_host o.host Integer) h
  where
    by : (a b : Bool) → (if a then Yes (Tree.ReadChar p o.low o.high line)
        else (if b then Yes (Tree.ReadInteger p o.low o.high line) else No WrongType at)) ≡ Yes r → read_threatens r
        ≡ write_threatens p
    by true b g = ap read_threatens (sym (inside_yes _ r g))
    by false true g = ap read_threatens (sym (inside_yes _ r g))
    by false false g = absurd (no_yes g)
variable_read at p type line r h = absurd (no_yes h)

ordinal_is_written : (at : ℕ) (e : Tree.Expr) (o : Ordinal) (width : Tree.Width) (w : Tree.WriteParameter)
    → ordinal_written at e o width ≡ Yes w → parameter_threatens w ≡ expr_threatens e ++ width_threatens width
unfolding ordinal_written parameter_threatens
ordinal_is_written at e o width w h = by (is_same_host o.host Integer) (is_same_host o.host Char)
    (is_same_host o.host Boolean) h
  where
    by : (a b d : Bool) → (if a then Yes (Tree.WriteInteger e width)
        else (if b then Yes (Tree.WriteChar e width)
        else (if d then Yes (Tree.WriteBoolean e width) else No WrongType at))) ≡ Yes w → parameter_threatens w
        ≡ expr_threatens e ++ width_threatens width
    by true b d g = ap parameter_threatens (sym (inside_yes _ w g))
    by false true d g = ap parameter_threatens (sym (inside_yes _ w g))
    by false false true g = ap parameter_threatens (sym (inside_yes _ w g))
    by false false false g = absurd (no_yes g)

pub is_written : (at : ℕ) (v : Value) (width : Tree.Width) (w : Tree.WriteParameter) → written at v width ≡ Yes w
    → parameter_threatens w ≡ value_threatens v ++ width_threatens width
unfolding written parameter_threatens
is_written at (SimpleValue e (OrdinalType o)) width w h = ordinal_is_written at e o width w h
is_written at (StructureValue e type) width w h = ap parameter_threatens (sym (provided_yes _ WrongType at _ w h).1)
is_written at v width w h = absurd (no_yes h)

pub width_is : (at : ℕ) (v : Value) (line : ℕ) (w : Tree.Width) → width_of at v line ≡ Yes w → width_threatens w
    ≡ value_threatens v
unfolding width_of width_threatens
width_is at (SimpleValue e type) line w h = ap width_threatens
    (sym (provided_yes (is_integer type) WrongType at _ w h).1)
width_is at v line w h = absurd (no_yes h)

pub condition_is : (at : ℕ) (v : Value) (e : Tree.Expr) → condition at v ≡ Yes e → expr_threatens e ≡ value_threatens v
unfolding condition
condition_is at (SimpleValue x type) e h = ap expr_threatens (sym (provided_yes (is_boolean type) WrongType at x e h).1)
condition_is at v e h = absurd (no_yes h)

pub bound_is : (at : ℕ) (o : Ordinal) (v : Value) (e : Tree.Expr) → bound at o v ≡ Yes e → expr_threatens e
    ≡ value_threatens v
unfolding bound
bound_is at o (SimpleValue x type) e h = ap expr_threatens
    (sym (provided_yes (is_compatible type (OrdinalType o)) WrongType at x e h).1)
bound_is at o v e h = absurd (no_yes h)

pub reading_is : (at : ℕ) (vs : List Tree.ReadVariable) (t : Tree.Statement) → read_of at vs ≡ Yes t
    → statement_threatens t
    ≡ reads_threaten vs
unfolding read_of statement_threatens
reading_is at [] t e = absurd (no_yes e)
reading_is at (v ∷ vs) t e = ap statement_threatens (sym (inside_yes (Tree.Read (v ∷ vs)) t e))

pub writing_is : (at : ℕ) (ps : List Tree.WriteParameter) (t : Tree.Statement) → write_of at ps ≡ Yes t
    → statement_threatens t ≡ parameters_threaten ps
unfolding write_of statement_threatens
writing_is at [] t e = absurd (no_yes e)
writing_is at (p ∷ ps) t e = ap statement_threatens (sym (inside_yes (Tree.Write (p ∷ ps)) t e))

pub new_is : (at : ℕ) (p : Tree.Place) (type : DataType) (line : ℕ) (t : Tree.Statement) → new_variable at p type line
    ≡ Yes t → statement_threatens t ≡ place_threatens p
unfolding new_variable statement_threatens
new_is at p (PointerType n) line t e = ap statement_threatens (sym (inside_yes (Tree.New p n line) t e))
new_is at p type line t e = absurd (no_yes e)

pub packing_is : (at : Places) (a z : Variable) (line : ℕ) (index : Tree.Expr × Ordinal) (t : Tree.Statement)
    → packed_from at a z line index ≡ Yes t → statement_threatens t ≡ (place_of a ++ expr_threatens index.0)
    ++ place_of z
unfolding statement_threatens
packing_is at a z line index t e = (let g = then_yes (goes_with_pack at a.type z.type index.1) _ t e
    in ap statement_threatens (sym (inside_yes _ t g.2)))

pub unpacking_is : (at : Places) (z a : Variable) (line : ℕ) (index : Tree.Expr × Ordinal) (t : Tree.Statement)
    → unpacked_to at z a line index ≡ Yes t → statement_threatens t ≡ (place_of z ++ place_of a)
    ++ expr_threatens index.0
unfolding statement_threatens
unpacking_is at z a line index t e = (let g = then_yes (goes_with_pack at a.type z.type index.1) _ t e
    in ap statement_threatens (sym (inside_yes _ t g.2)))
