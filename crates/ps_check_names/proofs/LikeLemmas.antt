-- Record types that have fields of the same names.
use Rattle.std.proofs.Common.{◌≡◌, ℕ, Bool, true, false, List}
use Rattle.std.proofs.Common.{Option, Some, None, refl, sym, ap, ◌∙◌, slice_get}
use Rattle.std.specs.Prelude.{is_some, option_and_then}
use Rattle.std.proofs.lemmas.Option.{slice_get_within}
use Rattle.ps_check_judgement.proofs.Impossible.{never}
use Rattle.ps_check_judgement.proofs.Items.{there_is}
use Rattle.ps_tree.specs.declared.types.Ty.{Ty}
use Rattle.ps_tree.specs.Types.{DataType, field_in, FieldList, HaveSameNames}
use Rattle.ps_tree.specs.View.{type_of}
use Rattle.ps_check_names.specs.Regions.{fields_of}
use Rattle.ps_check_names.specs.Opened.{HasField, has_field, IsLike, StandsIn}
use Rattle.ps_check_names.proofs.NoteLemmas.{has_fields}

-- ---- records that are like one another

pub has_some : (ty : Ty) (s : List ℕ) → has_field ty s ≡ true → HasField ty s
has_some ty s e = by (field_in (fields_of (type_of ty)) s) refl e
  where
    by : (o : Option (ℕ × DataType)) → field_in (fields_of (type_of ty)) s ≡ o → is_some o ≡ true → HasField ty s
    by None q e = never e
    by (Some f) q e = (f, q)

abbrev both_say : Bool → Bool → Type 0
both_say a b = (a ≡ true → b ≡ true) × (b ≡ true → a ≡ true)

say_one : (a b : Bool) → both_say a b → a ≡ b
say_one true b h = sym (h.0 refl)
say_one false true h = never (h.1 refl)
say_one false false h = refl

-- of the same names
pub alike : (ty other : Ty) (a b : FieldList) → fields_of (type_of ty) ≡ a → fields_of (type_of other) ≡ b
    → HaveSameNames a b → IsLike ty other
alike ty other a b is is' same = λ s. say_one (has_field ty s) (has_field other s) (
  (λ e. ap is_some (has_fields other ty b a is' is (sym same.0, sym same.1) s (has_some ty s e)).1),
  (λ e. ap is_some (has_fields ty other a b is is' same s (has_some other s e)).1),
)

abbrev asks : List ℕ → Option Ty → Bool
asks s o = is_some (option_and_then (λ ty. field_in (fields_of (type_of ty)) s) o)

pub like_there : (ty : Ty) (records : List Ty) (number : ℕ) (other : Ty) → slice_get records number ≡ Some other
    → IsLike ty other → StandsIn ty records number
like_there ty records number other is like = (
  slice_get_within records number other is,
  (λ s. like s ∙ sym (ap (asks s) is)),
)

-- a field of a record is one of the type that stands for it
pub stands_there : (ty : Ty) (types : List Ty) (number : ℕ) → StandsIn ty types number → (s : List ℕ) → HasField ty s
    → (other : Ty) × (slice_get types number ≡ Some other) × HasField other s
stands_there ty types number like s h =
    let o = there_is types number like.0 in
    (o.0, o.1, has_some o.0 s (sym (ap (asks s) o.1) ∙ sym (like.1 s) ∙ ap is_some h.1))
