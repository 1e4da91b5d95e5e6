-- What arrays and records stand for.
use Rattle.std.proofs.Common.{◌≡◌, ℕ, zero, suc, ℤ, pos, ◌+◌, ◌*◌, ◌<◌, ◌≤◌, Bool, List, [], ◌∷◌, ◌++◌, length, get_or}
use Rattle.std.proofs.Common.{set, take, drop, ◌-◌, Vec, Global, refl, sym, ap, subst, ◌∙◌, add-one, arith}
use Rattle.std.proofs.lemmas.List.{take_more, take_all}
use Rattle.ps_tree.specs.Types.{DataType, FieldList, field_list, field_types, ArrayType, RecordType}
use Rattle.ps_tree.specs.Sizes.{depth, depth_of_fields, greatest_depth}
use Rattle.ps_tree.specs.declared.types.Ordinal.{Ordinal as OrdinalOf}
use Rattle.ps_tree.specs.declared.types.Ty.{Ty}
use Rattle.ps_tree.specs.View.{type_of, types_of}
use Rattle.ps_meaning.specs.Statements as s
use Rattle.ps_meaning.specs.Values as m
use Rattle.ps_meaning_runner.specs.declared.value.Value.{Value, Ordinal, Structure, Row_of-Value, end_of-Value}
use Rattle.ps_meaning_runner.specs.declared.value.Value.{more_of-Value, items-the_row-Value}
use Rattle.ps_meaning_runner.specs.declared.value.Value.{items_hidden-the_row-Value-0}
use Rattle.ps_meaning_runner.specs.declared.value.Value.TheBlock.{hidden-the_row-Value-0}
use Rattle.ps_meaning_runner.specs.View.{listed, value_of, values_of, values_of_row}

values_row_is : {n : _} (k : Row_of-Value n) → values_of_row k ≡ values_of (items-the_row-Value n k)
unfolding values_of_row values_of
values_row_is end_of-Value = refl
values_row_is (more_of-Value v rest) = ap (m.value_before (value_of v)) (values_row_is rest)

pub value_of_Structure : (v : Vec Value Global) → value_of (Structure v) ≡ m.StructureValue (values_of v.items)
unfolding value_of
value_of_Structure v = ap m.StructureValue
    (values_row_is (hidden-the_row-Value-0 v) ∙ ap values_of (items_hidden-the_row-Value-0 v))

-- a value after others
abbrev pub and_value : m.Values → m.Value → m.Values
and_value m.no_value v = m.value_before v m.no_value
and_value (m.value_before u rest) v = m.value_before u (and_value rest v)

pub values_append : (xs : List Value) (x : Value) → values_of (xs ++ x ∷ []) ≡ and_value (values_of xs) (value_of x)
unfolding values_of
values_append [] x = refl
values_append (y ∷ ys) x = ap (m.value_before (value_of y)) (values_append ys x)

pub values_next : (values copies : List Value) (i : ℕ) (copy item : Value) → i < length values → item
    ≡ get_or values i item → value_of copy ≡ value_of item → values_of copies ≡ values_of (take i values) → values_of
    (copies ++ copy ∷ []) ≡ values_of (take (i + 1) values)
values_next values copies i copy item lt at same before =
    values_append copies copy ∙ ap (λ vs. and_value vs (value_of copy)) before
    ∙ ap (and_value (values_of (take i values))) (same ∙ ap value_of at) ∙ sym
    (values_append (take i values) (get_or values i item)) ∙ ap values_of (sym (take_more values i item lt))

copies_more : (v : m.Value) (n : ℕ) → m.copies (suc n) v ≡ and_value (m.copies n v) v
copies_more v zero = refl
copies_more v (suc k) = ap (m.value_before v) (copies_more v k)

pub copies_next : (made : List Value) (copy value : Value) (n : ℕ) → value_of copy ≡ value_of value → values_of made
    ≡ m.copies n (value_of value) → values_of (made ++ copy ∷ []) ≡ m.copies (n + 1) (value_of value)
copies_next made copy value n same before =
    values_append made copy ∙ ap (λ vs. and_value vs (value_of copy)) before
    ∙ ap (and_value (m.copies n (value_of value))) same ∙ sym (copies_more (value_of value) n)
    ∙ ap (λ k. m.copies k (value_of value)) (sym (add-one n))

pub listed_none : listed [] ≡ m.no_member_of
listed_none = refl

-- what is within a type is less deep
array_depth : (at : ℕ) (packed : Bool) (index : OrdinalOf) (component : DataType) → depth
    (ArrayType at packed index component) ≡ suc (depth component)
unfolding depth
array_depth at packed index component = refl

record_depth : (at : ℕ) (packed : Bool) (fields : FieldList) → depth (RecordType at packed fields) ≡ suc
    (depth_of_fields fields)
unfolding depth
record_depth at packed fields = refl

pub component_falls : (ty inner : Ty) (at : ℕ) (packed : Bool) (index : OrdinalOf) (component : DataType) → type_of ty
    ≡ ArrayType at packed index component → type_of inner ≡ component → 2 * depth (type_of inner) < 2 * depth
    (type_of ty)
component_falls ty inner at packed index component is same = let e : depth (type_of ty) ≡ suc
    (depth component) = ap depth is ∙ array_depth at packed index component in let f : depth (type_of inner)
    ≡ depth component = ap depth same in omega (arith, e, f)

pub fields_fall : (ty : Ty) (at : ℕ) (packed : Bool) (fields inner : FieldList) → type_of ty
    ≡ RecordType at packed fields → inner ≡ fields → 2 * depth_of_fields inner + 1 < 2 * depth (type_of ty)
fields_fall ty at packed fields inner is same = let e : depth (type_of ty) ≡ suc (depth_of_fields fields) = ap depth is
    ∙ record_depth at packed fields in let f : depth_of_fields inner ≡ depth_of_fields fields = ap depth_of_fields same
    in omega (arith, e, f)

listed_deep : (types : List Ty) (i : ℕ) (item : Ty) → i < length types → item ≡ get_or types i item → depth
    (type_of item) ≤ greatest_depth (types_of types)
unfolding depth
listed_deep [] i item lt at = absurd (omega arith)
listed_deep (t ∷ ts) zero item lt at = let e : depth (type_of item) ≡ depth (type_of t) = ap (λ u. depth (type_of u)) at
    in omega (arith, e)
listed_deep (t ∷ ts) (suc i) item lt at = omega (arith, listed_deep ts i item (omega arith) at)

pub field_falls : (fields : FieldList) (types : List Ty) (i : ℕ) (item : Ty) → types_of types ≡ field_types fields
    → i < length types → item ≡ get_or types i item → 2 * depth (type_of item) < 2 * depth_of_fields fields + 1
unfolding depth
field_falls (field_list names these) types i item is lt at = let h : depth (type_of item) ≤ greatest_depth these = subst
    (λ ts. depth (type_of item) ≤ greatest_depth ts) is (listed_deep types i item lt at) in omega (arith, h)

first_append : (types : List Ty) (t : Ty) → m.first_of_each (types_of (types ++ t ∷ [])) ≡ and_value
    (m.first_of_each (types_of types)) (m.first (type_of t))
first_append [] t = refl
first_append (u ∷ us) t = ap (m.value_before (m.first (type_of u))) (first_append us t)

-- the first values of the first types
abbrev pub FirstValues : List Ty → ℕ → List Value → Type 0
FirstValues types i values = values_of values ≡ m.first_of_each (types_of (take i types))

pub types_next : (types : List Ty) (values : List Value) (i : ℕ) (value : Value) (item : Ty) → i < length types → item
    ≡ get_or types i item → value_of value ≡ m.first (type_of item) → FirstValues types i values → FirstValues types
    (i + 1) (values ++ value ∷ [])
types_next types values i value item lt at same before =
    values_append values value ∙ ap (λ vs. and_value vs (value_of value)) before
    ∙ ap (and_value (m.first_of_each (types_of (take i types)))) (same ∙ ap (λ t. m.first (type_of t)) at) ∙ sym
    (first_append (take i types) (get_or types i item)) ∙ ap (λ ts. m.first_of_each (types_of ts))
    (sym (take_more types i item lt))

first_of_types : (fields : FieldList) → m.first_of_each (field_types fields) ≡ m.first_fields fields
first_of_types (field_list names types) = refl

pub types_all : (fields : FieldList) (types : List Ty) (values : List Value) (i : ℕ) → types_of types
    ≡ field_types fields → length types ≤ i → FirstValues types i values → values_of values ≡ m.first_fields fields
types_all fields types values i is le h = h ∙ ap (λ ts. m.first_of_each (types_of ts)) (take_all i types le)
    ∙ ap m.first_of_each is ∙ first_of_types fields

-- the codes of characters
text_append : (bytes : List ℕ) (b : ℕ) → m.text_values (bytes ++ b ∷ []) ≡ and_value (m.text_values bytes)
    (m.OrdinalValue (pos b))
text_append [] b = refl
text_append (c ∷ cs) b = ap (m.value_before (m.OrdinalValue (pos c))) (text_append cs b)

pub text_next : (bytes : List ℕ) (values : List Value) (i : ℕ) (v : Value) → i < length bytes → value_of v
    ≡ m.OrdinalValue (pos (get_or bytes i 0)) → values_of values ≡ m.text_values (take i bytes) → values_of
    (values ++ v ∷ []) ≡ m.text_values (take (i + 1) bytes)
text_next bytes values i v lt is before =
    values_append values v ∙ ap (and_value (values_of values)) is
    ∙ ap (λ vs. and_value vs (m.OrdinalValue (pos (get_or bytes i 0)))) before ∙ sym
    (text_append (take i bytes) (get_or bytes i 0)) ∙ ap m.text_values (sym (take_more bytes i 0 lt))

-- components by their numbers
pub nth_within : (values : List Value) (k : ℕ) (item : Value) → k < length values → item ≡ get_or values k item → m.nth
    (values_of values) k ≡ value_of item
unfolding values_of
nth_within [] k item lt e = absurd (omega arith)
nth_within (v ∷ rest) zero item lt e = ap value_of (sym e)
nth_within (v ∷ rest) (suc k) item lt e = nth_within rest k item (omega arith) e

pub nth_past : (values : List Value) (k : ℕ) → length values ≤ k → m.nth (values_of values) k ≡ m.OrdinalValue (pos 0)
unfolding values_of
nth_past [] k le = refl
nth_past (v ∷ rest) zero le = absurd (omega arith)
nth_past (v ∷ rest) (suc k) le = nth_past rest k (omega arith)

pub value_of_Ordinal : (n : ℤ) → value_of (Ordinal n) ≡ m.OrdinalValue n
unfolding value_of
value_of_Ordinal n = refl

pub part_of_unset : (path : List ℕ) → m.part (m.OrdinalValue (pos 0)) path ≡ m.OrdinalValue (pos 0)
part_of_unset [] = refl
part_of_unset (k ∷ path) = part_of_unset path

with_nth_within : (values : List Value) (k : ℕ) (hole new : Value) → m.with_nth (values_of values) k (value_of new)
    ≡ values_of (set (set values k hole) k new)
unfolding values_of
with_nth_within [] k hole new = refl
with_nth_within (v ∷ rest) zero hole new = refl
with_nth_within (v ∷ rest) (suc k) hole new = ap (m.value_before (value_of v)) (with_nth_within rest k hole new)

-- a component was taken out, and another put into its place
pub component_put : (values : List Value) (k : ℕ) (old hole new : Value) (changed : m.Value → m.Value)
    → k < length values → old ≡ get_or values k old → value_of new ≡ changed (value_of old) → values_of
    (set (set values k hole) k new) ≡ m.with_nth (values_of values) k (changed (m.nth (values_of values) k))
component_put values k old hole new changed lt at same =
    sym (with_nth_within values k hole new) ∙ ap (m.with_nth (values_of values) k)
    (same ∙ ap changed (sym (nth_within values k old lt at)))

pub with_nth_past : (values : List Value) (k : ℕ) (new : m.Value) → length values ≤ k → m.with_nth
    (values_of values) k new ≡ values_of values
unfolding values_of
with_nth_past [] k new le = refl
with_nth_past (v ∷ rest) zero new le = absurd (omega arith)
with_nth_past (v ∷ rest) (suc k) new le = ap (m.value_before (value_of v)) (with_nth_past rest k new (omega arith))

rest_of : (path : List ℕ) → 1 ≤ length path → path ≡ get_or path 0 0 ∷ take (length path - 1) (drop 1 path)
rest_of [] le = absurd (omega arith)
rest_of (k ∷ path) le = ap (λ p. k ∷ p) (sym (take_all (length (k ∷ path) - 1) path (omega arith)))

pub with_part_of_structure : (value : Value) (path : List ℕ) (values result : Vec Value Global) (new : m.Value)
    → 1 ≤ length path → value ≡ Structure values → values_of result.items ≡ m.with_nth (values_of values.items)
    (get_or path 0 0) (m.with_part (m.nth (values_of values.items) (get_or path 0 0))
    (take (length path - 1) (drop 1 path)) new) → value_of (Structure result) ≡ m.with_part (value_of value) path new
with_part_of_structure value path values result new le is h =
    value_of_Structure result ∙ ap m.StructureValue h
    ∙ ap (λ v. m.with_part v (get_or path 0 0 ∷ take (length path - 1) (drop 1 path)) new)
    (sym (ap value_of is ∙ value_of_Structure values)) ∙ ap (λ p. m.with_part (value_of value) p new)
    (sym (rest_of path le))

characters_append : (values : List Value) (x : Value) → s.characters (values_of (values ++ x ∷ [])) ≡ s.characters
    (values_of values) ++ s.character (value_of x) ∷ []
unfolding values_of
characters_append [] x = refl
characters_append (y ∷ ys) x = ap (λ l. s.character (value_of y) ∷ l) (characters_append ys x)

pub characters_next : (values : List Value) (i : ℕ) (text : List ℕ) (x : Value) (byte : ℕ) → text ≡ s.characters
    (values_of (take i values)) → x ≡ get_or values i x → byte ≡ s.character (value_of x) → i < length values → text
    ++ byte ∷ [] ≡ s.characters (values_of (take (i + 1) values))
characters_next values i text x byte before at b lt =
    ap (λ l. l ++ byte ∷ []) before ∙ ap (λ k. s.characters (values_of (take i values)) ++ k ∷ []) b ∙ sym
    (ap (λ l. s.characters (values_of l)) (take_more values i x lt) ∙ characters_append (take i values)
    (get_or values i x) ∙ ap (λ y. s.characters (values_of (take i values)) ++ s.character (value_of y) ∷ [])
    (sym at))
