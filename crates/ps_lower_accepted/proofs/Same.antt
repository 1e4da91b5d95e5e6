-- One type by the rules (6.4.1) has one shape.
use Rattle.std.proofs.Common.{◌≡◌, ℕ, Bool, true, false, ◌&&◌, ◌||◌, ◌==◌, Option, Some, None, is_none, refl, sym, ap}
use Rattle.std.proofs.Common.{◌∙◌, eqb-true}
use Rattle.std.proofs.lemmas.Option.{same_Some}
use Rattle.ps_check_judgement.proofs.Impossible.{never}
use Rattle.ps_tree.proofs.Booleans.{and_first as left, and_second as right}
use Rattle.ps_tree.specs.declared.types.Host.{Host}
use Rattle.ps_tree.specs.declared.types.Host.TheVariants.{Integer, Char, Boolean, Enumeration}
use Rattle.ps_tree.specs.declared.types.Ordinal.{Ordinal}
use Rattle.ps_tree.specs.Types.{DataType, OrdinalType, PointerType, NilType, SetType, EmptySetType, ArrayType}
use Rattle.ps_tree.specs.Types.{RecordType, is_same_host, are_same, is_same_ordinal, is_same_type}
use Rattle.ps_lower_layout.specs.Shapes.{PointerShape, shape_of}
use Rattle.ps_check_expressions.specs.Values.{host_type}
use Rattle.ps_lower_accepted.proofs.Tables.{Table, HostKnown, SubrangeKnown, OrdinalKnown, TypeKnown}

-- what a table has for one offset is one thing
one_of : {A : Type 0} (o : Option A) (x y : A) → o ≡ Some x → o ≡ Some y → x ≡ y
one_of o x y e f = same_Some x y (sym e ∙ f)

pub same_host : (D : Table) (g h : Host) → HostKnown D g → HostKnown D h → is_same_host g h ≡ true → g ≡ h
same_host D Integer Integer k l e = refl
same_host D Char Char k l e = refl
same_host D Boolean Boolean k l e = refl
same_host D (Enumeration a m) (Enumeration b n) k l e =
    let at = eqb-true a b e in
    ap (λ x. Enumeration x m) at ∙ ap (Enumeration b)
    (one_of (D.enumerations b) m n (ap D.enumerations (sym at) ∙ k.0) l.0)
same_host D Integer Char k l e = never e
same_host D Integer Boolean k l e = never e
same_host D Integer (Enumeration b n) k l e = never e
same_host D Char Integer k l e = never e
same_host D Char Boolean k l e = never e
same_host D Char (Enumeration b n) k l e = never e
same_host D Boolean Integer k l e = never e
same_host D Boolean Char k l e = never e
same_host D Boolean (Enumeration b n) k l e = never e
same_host D (Enumeration a m) Integer k l e = never e
same_host D (Enumeration a m) Char k l e = never e
same_host D (Enumeration a m) Boolean k l e = never e

pub same_ordinal : (D : Table) (o p : Ordinal) → OrdinalKnown D o → OrdinalKnown D p → is_same_ordinal o p ≡ true → o
    ≡ p
same_ordinal D o p k l e =
    let a = is_same_host o.host p.host in
    let b = are_same o.subrange p.subrange || (is_none o.subrange && is_none p.subrange) in
    go o.subrange p.subrange k.subrange l.subrange (same_host D o.host p.host k.host l.host (left a b e)) (right a b e)
  where
    go : (s t : Option ℕ) → SubrangeKnown D s o → SubrangeKnown D t p → o.host ≡ p.host
        → (are_same s t || (is_none s && is_none t)) ≡ true → o ≡ p
    go None None x y h f = x ∙ ap host_type h ∙ sym y
    go (Some m) (Some n) x y h f = one_of (D.subranges n) o p
        (ap D.subranges (sym (eqb-true m n (either (m == n) f))) ∙ x) y
      where
        either : (b : Bool) → (b || false) ≡ true → b ≡ true
        either true q = refl
        either false q = never q
    go None (Some n) x y h f = never f
    go (Some m) None x y h f = never f

pub same_shape : (D : Table) (b c : ℕ) (s t : DataType) → TypeKnown D b s → TypeKnown D c t → is_same_type s t ≡ true
    → shape_of s ≡ shape_of t
unfolding is_same_type
same_shape D b c (OrdinalType o) (OrdinalType p) k l e = ap (λ q. shape_of (OrdinalType q)) (same_ordinal D o p k l e)
same_shape D b c (PointerType m) (PointerType n) k l e = ap PointerShape (eqb-true m n e)
same_shape D b c (SetType x p i) (SetType y q j) k l e = refl
same_shape D b c (ArrayType m p i s) (ArrayType n q j t) k l e = ap shape_of
    (one_of (D.structures n) (ArrayType m p i s) (ArrayType n q j t) (ap D.structures (sym (eqb-true m n e)) ∙ k.0) l.0)
same_shape D b c (RecordType m p f) (RecordType n q g) k l e = ap shape_of
    (one_of (D.structures n) (RecordType m p f) (RecordType n q g) (ap D.structures (sym (eqb-true m n e)) ∙ k.0) l.0)
same_shape D b c NilType NilType k l e = refl
same_shape D b c EmptySetType EmptySetType k l e = refl
same_shape D b c s t k l e = never e
