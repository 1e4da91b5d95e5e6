-- Strings, arrays and records: what is compared, assigned or passed by value has the shape that is required.
use Rattle.std.specs.List.{All}
use Rattle.std.proofs.Common.{◌≡◌, ℕ, zero, suc, ◌+◌, ◌-◌, ◌<◌, Bool, true, false, ◌&&◌, ◌||◌, if◌then◌else◌, nat_lt}
use Rattle.std.proofs.Common.{List, [], ◌∷◌, length, ℤ, pos, negsuc, ◌-ℤ◌, unsigned_abs, int_lt, Option, Some, None}
use Rattle.std.proofs.Common.{is_none, is_some, refl, sym, ap, ◌∙◌, subst, arith, eqb-true, ltb-true}
use Rattle.std.proofs.lemmas.Option.{same_Some}
use Rattle.ps_check_judgement.proofs.Impossible.{never, none_some}
use Rattle.ps_tree.proofs.Booleans.{and_first as left, and_second as right}
use Rattle.ps_tree.specs.declared.types.Host.{Host}
use Rattle.ps_tree.specs.declared.types.Host.TheVariants.{Integer, Char, Boolean, Enumeration}
use Rattle.ps_tree.specs.declared.types.Ordinal.{Ordinal}
use Rattle.ps_tree.specs.Types.{DataType, OrdinalType, PointerType, NilType, SetType, EmptySetType, TextType}
use Rattle.ps_tree.specs.Types.{ArrayType, RecordType, is_same_host, are_same, is_same_type, is_compatible, is_char}
use Rattle.ps_tree.specs.Types.{is_one, is_string_index, natural, string_length}
use Rattle.ps_tree.specs.Sizes.{value_count, fits_byte}
use Rattle.ps_tree.specs.Tree.{Place, Structure, Literal, Contents}
use Rattle.ps_lower_layout.specs.Shapes.{Shape, ByteShape, ArrayShape, shape_of, first_of, Whole}
use Rattle.ps_lower_code.specs.Scopes.{Scope}
use Rattle.ps_lower_code.specs.Values.{text_length}
use Rattle.ps_lower_code.specs.Fits.{IsStructure}
use Rattle.ps_lower_code.specs.Fits.{PlaceFits, StructureFits, ContentsFit}
use Rattle.ps_check_expressions.specs.Values.{host_type}
use Rattle.ps_check_names.specs.Constants.{char}
use Rattle.ps_lower_accepted.proofs.Lists.{Each, if_some}
use Rattle.ps_lower_accepted.proofs.Same.{same_shape}
use Rattle.ps_lower_accepted.proofs.Standing.{IsText}
use Rattle.ps_lower_accepted.proofs.Tables.{Table, OrdinalKnown, SubrangeKnown, TypeKnown}
use Rattle.ps_lower_accepted.proofs.Told.{bound_of, StructureTold}

all_of : {A : Type 0} (P : A → Type 0) (xs : List A) → Each P xs → All P xs
all_of P [] h k d l = absurd (omega (arith, l))
all_of P (x ∷ xs) h zero d l = h.0
all_of P (x ∷ xs) h (suc k) d l = all_of P xs h.1 k d (omega (arith, l))

-- ---- string types (6.4.3.2): bytes, from 1 on

is_the_char : (h : Host) → is_same_host h Char ≡ true → h ≡ Char
is_the_char Integer e = never e
is_the_char Char e = refl
is_the_char Boolean e = never e
is_the_char (Enumeration at n) e = never e

char_itself : (D : Table) (o : Ordinal) → OrdinalKnown D o → is_char (OrdinalType o) ≡ true → o ≡ char
char_itself D o k e = go o.subrange refl k.subrange (right (is_same_host o.host Char) (is_none o.subrange) e)
  where
    go : (s : Option ℕ) → o.subrange ≡ s → SubrangeKnown D s o → is_none s ≡ true → o ≡ char
    go None q h f = h ∙ ap host_type (is_the_char o.host (left (is_same_host o.host Char) (is_none o.subrange) e))
    go (Some at) q h f = never f

abbrev count_between : ℤ → ℤ → ℕ
count_between low high = if int_lt high low then 0 else unsigned_abs (high -ℤ low) + 1

from_one : (low high : ℤ) → is_one low ≡ true → int_lt (pos 1) high ≡ true → count_between low high ≡ natural high
from_one (pos n) (pos zero) e f = never f
from_one (pos n) (pos (suc m)) e f =
    let one : n ≡ 1 = eqb-true n 1 e in
    subst (λ a. count_between (pos a) (pos (suc m)) ≡ suc m) (sym one) (counted m)
  where
    not_less : (k : ℕ) (t : Bool) → nat_lt (suc k) 1 ≡ t → t ≡ false
    not_less k true q = let l = ltb-true (suc k) 1 q in absurd (omega (arith, l))
    not_less k false q = refl

    counted : (k : ℕ) → count_between (pos 1) (pos (suc k)) ≡ suc k
    counted k =
        ap (λ t. if t then 0 else unsigned_abs (if t then negsuc (1 - suc (suc k)) else pos (suc k - 1)) + 1)
        (not_less k (nat_lt (suc k) 1) refl)
        ∙ (let z : suc k - 1 + 1 ≡ suc k = omega arith in z)
from_one (pos n) (negsuc m) e f = never f
from_one (negsuc n) high e f = never e

string_counted : (i : Ordinal) → is_string_index i ≡ true → value_count i ≡ natural i.high
string_counted i e =
    let a = is_same_host i.host Integer in
    let b = is_some i.subrange in
    let c = is_one i.low in
    let d = int_lt (pos 1) i.high in
    let e1 = left (a && b && c) d e in
    from_one i.low i.high (right (a && b) c e1) (right (a && b && c) d e)

-- a type of strings of n characters has n bytes
pub string_shape : (D : Table) (b : ℕ) (type : DataType) (n : ℕ) → TypeKnown D b type → string_length type ≡ Some n
    → shape_of type ≡ ByteShape n (pos 0)
unfolding string_length
string_shape D b (ArrayType at true i c) n k e =
    let o = if_some (is_char c && is_string_index i) (Some (natural i.high)) n e in
    chars c (left (is_char c) (is_string_index i) o.0) k.2
    (string_counted i (right (is_char c) (is_string_index i) o.0) ∙ same_Some (natural i.high) n o.1)
  where
    chars : (c : DataType) → is_char c ≡ true → TypeKnown D b c → value_count i ≡ n → shape_of (ArrayType at true i c)
        ≡ ByteShape n (pos 0)
    chars (OrdinalType o) f g h = ap (λ x. shape_of (ArrayType at true i (OrdinalType x))) (char_itself D o g f)
        ∙ ap (λ m. ByteShape m (pos 0)) h
    chars (PointerType m) f g h = never f
    chars NilType f g h = never f
    chars (SetType d p o) f g h = never f
    chars EmptySetType f g h = never f
    chars (TextType m) f g h = never f
    chars (ArrayType m p j t) f g h = never f
    chars (RecordType m p fs) f g h = never f
string_shape D b (ArrayType at false i c) n k e = absurd (none_some e)
string_shape D b (OrdinalType o) n k e = absurd (none_some e)
string_shape D b (PointerType m) n k e = absurd (none_some e)
string_shape D b NilType n k e = absurd (none_some e)
string_shape D b (SetType d p o) n k e = absurd (none_some e)
string_shape D b EmptySetType n k e = absurd (none_some e)
string_shape D b (TextType m) n k e = absurd k
string_shape D b (RecordType m p fs) n k e = absurd (none_some e)

pub same_length : (o q : Option ℕ) → are_same o q ≡ true → (n : ℕ) × (o ≡ Some n) × (q ≡ Some n)
same_length None q e = never e
same_length (Some n) None e = never e
same_length (Some n) (Some m) e = (m, ap Some (eqb-true n m e), refl)

module _ (D : Table) (k : Scope) (os : List Shape) where
  -- ---- what is compared or written

  pub string_fits : (e : Structure) (type : DataType) (n : ℕ) → StructureTold D k os e type → string_length type
      ≡ Some n → StructureFits k os e × (text_length e ≡ n)
  unfolding string_length
  string_fits (Literal w) (TextType m) n h e =
      ((all_of (λ b. b < 256) w h.1.bytes, h.1.short), sym h.0 ∙ same_Some m n e)
  string_fits (Contents p like) (ArrayType at packed i c) n h e =
      let shape = string_shape D (bound_of k) (ArrayType at packed i c) n h.1 e in
      let length = ap string_length h.0 ∙ e in (
        (n, pos 0, ap shape_of h.0 ∙ shape, length, subst (λ s. PlaceFits k os p (Whole s)) shape h.2),
        ap (λ o. elim o as (λ z. ℕ) [ Some m ↦ m | None ↦ 0 ]) length,
      )
  string_fits (Contents p like) (RecordType at packed fs) n h e = absurd (none_some e)
  string_fits (Literal w) type n h e = absurd h
  string_fits (Contents p like) type n h e = absurd h

  -- ---- what is assigned or passed by value (6.4.6)

  structure_of : (s : DataType) (n : ℕ) → shape_of s ≡ ByteShape n (pos 0) → IsStructure (shape_of s)
  structure_of s n e = subst IsStructure (sym e) tt

  pub array_is_structure : (at : ℕ) (packed : Bool) (i : Ordinal) (c : DataType) → IsStructure
      (shape_of (ArrayType at packed i c))
  array_is_structure at packed i c = go (packed && fits_byte c)
    where
      go : (t : Bool) → IsStructure (if t then ByteShape (value_count i) (first_of c) else ArrayShape (value_count i)
          (shape_of c))
      go true = tt
      go false = tt

  -- what is stored in a variable of the type
  pub record Goes (e : Structure) (type : DataType) : Type 0 where
    pub structure : IsStructure (shape_of type)
    pub fits : ContentsFit k os e (shape_of type)

  text_goes : (w : List ℕ) (type : DataType) → IsText w → TypeKnown D (bound_of k) type → string_length type ≡ Some
      (length w) → Goes (Literal w) type
  text_goes w type h t e =
      let shape = string_shape D (bound_of k) type (length w) t e in
      record {
        structure = structure_of type (length w) shape;
        fits = (all_of (λ b. b < 256) w h.bytes, h.short, (pos 0, shape));
      }

  strings_go : (p : Place) (like type : DataType) (n : ℕ) → TypeKnown D (bound_of k) like → TypeKnown D
      (bound_of k) type → PlaceFits k os p (Whole (shape_of like)) → string_length like ≡ Some n → string_length type
      ≡ Some n → Goes (Contents p like) type
  strings_go p like type n h t f e g =
      let a = string_shape D (bound_of k) like n h e in
      let b = string_shape D (bound_of k) type n t g in
      let same = a ∙ sym b in
      record {
        structure = structure_of type n b;
        fits = (same, subst (λ s. PlaceFits k os p (Whole s)) same f);
      }

  one_type : (p : Place) (like type : DataType) → TypeKnown D (bound_of k) like → TypeKnown D (bound_of k) type
      → PlaceFits k os p (Whole (shape_of like)) → IsStructure (shape_of like) → is_same_type like type ≡ true → Goes
      (Contents p like) type
  one_type p like type h t f st e =
      let same = same_shape D (bound_of k) (bound_of k) like type h t e in
      record {
        structure = subst IsStructure same st;
        fits = (same, subst (λ s. PlaceFits k os p (Whole s)) same f);
      }

  -- one type, or strings of one length
  alike_go : (p : Place) (like type : DataType) → TypeKnown D (bound_of k) like → TypeKnown D (bound_of k) type
      → PlaceFits k os p (Whole (shape_of like)) → IsStructure (shape_of like)
      → (is_same_type like type || are_same (string_length like) (string_length type)) ≡ true → Goes
      (Contents p like) type
  alike_go p like type h t f st e = go (is_same_type like type) refl e
    where
      go : (b : Bool) → is_same_type like type ≡ b → (b || are_same (string_length like) (string_length type)) ≡ true
          → Goes (Contents p like) type
      go true q g = one_type p like type h t f st q
      go false q g = let l = same_length (string_length like) (string_length type) g
          in strings_go p like type l.0 h t f l.1 l.2

  -- a value of many words that is compatible with the type of a variable
  pub structure_goes : (e : Structure) (s type : DataType) → StructureTold D k os e s → TypeKnown D (bound_of k) type
      → is_compatible s type ≡ true → Goes e type
  unfolding is_compatible is_same_type string_length
  structure_goes (Literal w) (TextType n) type h t e =
      let l = same_length (Some n) (string_length type) e in
      text_goes w type h.1 t (l.2 ∙ ap Some (sym (same_Some n l.0 l.1) ∙ h.0))
  structure_goes (Contents p like) (ArrayType at packed i c) type h t e =
      subst (λ x. Goes (Contents p x) type) (sym h.0)
      (alike_go p (ArrayType at packed i c) type h.1 t h.2 (array_is_structure at packed i c) e)
  structure_goes (Contents p like) (RecordType at packed fs) type h t e =
      subst (λ x. Goes (Contents p x) type) (sym h.0) (alike_go p (RecordType at packed fs) type h.1 t h.2 tt e)
  structure_goes (Literal w) s type h t e = absurd h
  structure_goes (Contents p like) s type h t e = absurd h
