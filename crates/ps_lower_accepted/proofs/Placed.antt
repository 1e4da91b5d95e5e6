-- Tables that know more from a place on: what begins there.
use Rattle.std.proofs.Common.{◌≡◌, ℕ, suc, ◌<◌, ◌≤◌, Bool, ◌==◌, if◌then◌else◌, ℤ, [], ◌∷◌, ◌++◌, Option, Some, None}
use Rattle.std.proofs.Common.{refl, sym, ap, ◌∙◌, subst, arith, eq-eqb, ne_eqb}
use Rattle.ps_tree.specs.declared.types.Ordinal.{Ordinal}
use Rattle.ps_tree.specs.Types.{DataType, ArrayType}
use Rattle.ps_tree.specs.Counts.{is_small}
use Rattle.ps_check_judgement.specs.Judged.{Yes}
use Rattle.ps_check_judgement.proofs.Binds.{then_yes, provided_yes, inside_yes}
use Rattle.ps_check_judgement.proofs.Impossible.{none_some}
use Rattle.ps_check_declarations.specs.Denoters.{Indices, small, array_of}
use Rattle.ps_lower_accepted.proofs.Lists.{Each}
use Rattle.ps_lower_accepted.proofs.Tables.{Table, Extends, extends_self, extends_both, EndsBefore, OrdinalKnown}
use Rattle.ps_lower_accepted.proofs.Tables.{TypeKnown, ordinal_more, type_more}
use Rattle.ps_lower_accepted.proofs.BlockMeanings.{below_or}

-- the same below a place
pub record Agrees (low : ℕ) (D E : Table) : Type 0 where
  pub structures : (at : ℕ) → at < low → E.structures at ≡ D.structures at
  pub subranges : (at : ℕ) → at < low → E.subranges at ≡ D.subranges at
  pub enumerations : (at : ℕ) → at < low → E.enumerations at ≡ D.enumerations at

pub agrees_self : (low : ℕ) (D : Table) → Agrees low D D
agrees_self low D = record { structures = λ at l. refl; subranges = λ at l. refl; enumerations = λ at l. refl }

pub agrees_both : (low next : ℕ) (D E F : Table) → low ≤ next → Agrees low D E → Agrees next E F → Agrees low D F
agrees_both low next D E F le x y = record {
  structures = λ at l. y.structures at (omega (arith, l, le)) ∙ x.structures at l;
  subranges = λ at l. y.subranges at (omega (arith, l, le)) ∙ x.subranges at l;
  enumerations = λ at l. y.enumerations at (omega (arith, l, le)) ∙ x.enumerations at l;
}

known_below : {A : Type 0} (low : ℕ) (f g : ℕ → Option A) → ((at : ℕ) → low ≤ at → f at ≡ None)
    → ((at : ℕ) → at < low → g at ≡ f at) → (at : ℕ) (x : A) → f at ≡ Some x → g at ≡ Some x
known_below {A = A} low f g ends same at x e = below_or at low (g at ≡ Some x) (λ l. same at l ∙ e)
    (λ l. absurd (none_some (sym (ends at l) ∙ e)))

pub agrees_extend : (low : ℕ) (D E : Table) → EndsBefore low D → Agrees low D E → Extends D E
agrees_extend low D E ends x = record {
  structures = known_below low D.structures E.structures ends.structures x.structures;
  subranges = known_below low D.subranges E.subranges ends.subranges x.subranges;
  enumerations = known_below low D.enumerations E.enumerations ends.enumerations x.enumerations;
}

-- ---- one more

abbrev pub put : {A : Type 0} → ℕ → A → (ℕ → Option A) → ℕ → Option A
put at x f i = if i == at then Some x else f i

pub put_there : {A : Type 0} (at : ℕ) (x : A) (f : ℕ → Option A) → put at x f at ≡ Some x
put_there at x f = ap (λ b. if b then Some x else f at) (eq-eqb at at refl)

pub put_other : {A : Type 0} (at : ℕ) (x : A) (f : ℕ → Option A) (i : ℕ) → (i ≡ at → ⊥) → put at x f i ≡ f i
put_other at x f i e = ap (λ b. if b then Some x else f i) (ne_eqb i at e)

abbrev pub with_structure : Table → ℕ → DataType → Table
with_structure D at type = record {
  structures = put at type D.structures;
  subranges = D.subranges;
  enumerations = D.enumerations;
}

abbrev pub with_subrange : Table → ℕ → Ordinal → Table
with_subrange D at o = record {
  structures = D.structures;
  subranges = put at o D.subranges;
  enumerations = D.enumerations;
}

abbrev pub with_enumeration : Table → ℕ → ℤ → Table
with_enumeration D at n = record {
  structures = D.structures;
  subranges = D.subranges;
  enumerations = put at n D.enumerations;
}

pub subrange_agrees : (low : ℕ) (D : Table) (at : ℕ) (o : Ordinal) → low ≤ at → Agrees low D (with_subrange D at o)
subrange_agrees low D at o le = record {
  structures = λ i l. refl;
  subranges = λ i l. put_other at o D.subranges i (λ e. omega (arith, l, le, e));
  enumerations = λ i l. refl;
}

pub subrange_ends : (low next : ℕ) (D : Table) (at : ℕ) (o : Ordinal) → EndsBefore low D → low ≤ next → at < next
    → EndsBefore next (with_subrange D at o)
subrange_ends low next D at o ends le lt = record {
  structures = λ i l. ends.structures i (omega (arith, l, le));
  subranges = λ i l. put_other at o D.subranges i (λ e. omega (arith, l, lt, e)) ∙ ends.subranges i
      (omega (arith, l, le));
  enumerations = λ i l. ends.enumerations i (omega (arith, l, le));
}

pub enumeration_agrees : (low : ℕ) (D : Table) (at : ℕ) (n : ℤ) → low ≤ at → Agrees low D (with_enumeration D at n)
enumeration_agrees low D at n le = record {
  structures = λ i l. refl;
  subranges = λ i l. refl;
  enumerations = λ i l. put_other at n D.enumerations i (λ e. omega (arith, l, le, e));
}

pub enumeration_ends : (low next : ℕ) (D : Table) (at : ℕ) (n : ℤ) → EndsBefore low D → low ≤ next → at < next
    → EndsBefore next (with_enumeration D at n)
enumeration_ends low next D at n ends le lt = record {
  structures = λ i l. ends.structures i (omega (arith, l, le));
  subranges = λ i l. ends.subranges i (omega (arith, l, le));
  enumerations = λ i l. put_other at n D.enumerations i (λ e. omega (arith, l, lt, e)) ∙ ends.enumerations i
      (omega (arith, l, le));
}

pub structure_extends : (D : Table) (at : ℕ) (type : DataType) → D.structures at ≡ None → Extends D
    (with_structure D at type)
structure_extends D at type e = record {
  structures = λ i t q. put_other at type D.structures i (λ same. none_some (sym e ∙ ap D.structures (sym same) ∙ q))
      ∙ q;
  subranges = λ i o q. q;
  enumerations = λ i n q. q;
}

-- ---- structures of several indices

-- more structures between two places
pub record Built (low high : ℕ) (E : Table) (b : ℕ) (type : DataType) : Type 0 where
  pub table : Table
  pub extends : Extends E table
  pub below : (at : ℕ) → at < low → table.structures at ≡ E.structures at
  pub above : (at : ℕ) → high ≤ at → table.structures at ≡ E.structures at
  pub subranges : (at : ℕ) → table.subranges at ≡ E.subranges at
  pub enumerations : (at : ℕ) → table.enumerations at ≡ E.enumerations at
  pub known : TypeKnown table b type

-- one structure
pub built_one : (low high : ℕ) (E : Table) (b at : ℕ) (type : DataType) → low ≤ at → at < high → E.structures at ≡ None
    → TypeKnown (with_structure E at type) b type → Built low high E b type
built_one low high E b at type le lt e known = record {
  table = with_structure E at type;
  extends = structure_extends E at type e;
  below = λ i l. put_other at type E.structures i (λ q. omega (arith, l, le, q));
  above = λ i l. put_other at type E.structures i (λ q. omega (arith, l, lt, q));
  subranges = λ i. refl;
  enumerations = λ i. refl;
  known = known;
}

abbrev pub Rises : (low high : ℕ) → Indices → Type 0
Rises low high [] = low ≤ high
Rises low high (i ∷ is) = (low ≤ i.0) × Rises (suc i.0) high is

rises_le : (low high : ℕ) (is : Indices) → Rises low high is → low ≤ high
rises_le low high [] r = r
rises_le low high (i ∷ is) r = let l = rises_le (suc i.0) high is r.1 in let m = r.0 in omega (arith, l, m)

pub rises_more : (low high at next : ℕ) (o : Ordinal) (is : Indices) → Rises low high is → high ≤ at → at < next
    → Rises low next (is ++ (at, o) ∷ [])
rises_more low high at next o [] r le lt = (omega (arith, r, le), omega (arith, lt))
rises_more low high at next o (i ∷ is) r le lt = (r.0, rises_more (suc i.0) high at next o is r.1 le lt)

abbrev pub IndexKnown : Table → ℕ × Ordinal → Type 0
IndexKnown E i = OrdinalKnown E i.1

pub array_built : (low high : ℕ) (E : Table) (b : ℕ) (packed : Bool) (component : DataType) → TypeKnown E b component
    → (is : Indices) → Rises low high is → Each (IndexKnown E) is
    → ((at : ℕ) → low ≤ at → at < high → E.structures at ≡ None)
    → (type : DataType) → array_of packed is component ≡ Yes type → Built low high E b type
unfolding array_of
array_built low high E b packed component known [] r indices clear type e = record {
  table = E;
  extends = extends_self E;
  below = λ at l. refl;
  above = λ at l. refl;
  subranges = λ at. refl;
  enumerations = λ at. refl;
  known = subst (TypeKnown E b) (inside_yes component type e) known;
}
array_built low high E b packed component known (i ∷ is) r indices clear type e =
    let t = then_yes (array_of packed is component) (λ t. small i.0 (ArrayType i.0 packed i.1 t)) type e in
    let whole = ArrayType i.0 packed i.1 t.0 in
    let inner = array_built (suc i.0) high E b packed component known is r.1 indices.1
    (λ at l m. clear at (let q = r.0 in omega (arith, l, q)) m) t.0 t.1 in
    let before = rises_le (suc i.0) high is r.1 in
    let nothing = inner.below i.0 (omega arith) ∙ clear i.0 r.0 (omega (arith, before)) in
    let more = structure_extends inner.table i.0 whole nothing in
    let last = with_structure inner.table i.0 whole in
    let both = extends_both E inner.table last inner.extends more in
    subst (Built low high E b) (provided_yes (is_small whole) _ _ whole type t.2).1 (record {
      table = last;
      extends = both;
      below = λ at l. put_other i.0 whole inner.table.structures at (λ q. let m = r.0 in omega (arith, l, q, m))
          ∙ inner.below at (let m = r.0 in omega (arith, l, m));
      above = λ at l. put_other i.0 whole inner.table.structures at (λ q. omega (arith, l, q, before))
          ∙ inner.above at l;
      subranges = inner.subranges;
      enumerations = inner.enumerations;
      known = (
        put_there i.0 whole inner.table.structures,
        ordinal_more E last both i.1 indices.0,
        type_more inner.table
            last more b b (omega arith) t.0 inner.known,
      );
    })
