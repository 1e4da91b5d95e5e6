-- What the limits say of a well-formed tree: its variables, strings and actual parameters are few.
use Rattle.std.proofs.Common.{◌≡◌, ℕ, suc, Bool, ◌+◌, ◌*◌, ◌-◌, ◌<◌, ◌≤◌, List, [], ◌∷◌, length, Option, Some, None}
use Rattle.std.proofs.Common.{get_or, pos, ◌+ℤ◌, refl}
use Rattle.std.proofs.Common.{sym, ap, subst, arith, mul-le-mul_left, mul_left_comm}
use Rattle.std.proofs.lemmas.Option.{same_Some}
use Rattle.ps_tree.specs.declared.tree.operators.Range.{Range}
use Rattle.ps_tree.specs.declared.tree.operators.Range.TheVariants.{Any, Within}
use Rattle.ps_tree.specs.Types.{DataType}
use Rattle.ps_tree.specs.Sizes.{value_count}
use Rattle.ps_tree.specs.Tree.{Place, Variable, PlaceBase, Entry, Opened, Element, Field, Target, Selectors}
use Rattle.ps_tree.specs.Tree.{no_selector, selector_before, Structure, Literal, Contents, Argument, ByValue, BySet}
use Rattle.ps_tree.specs.Tree.{ByCopy, ByVariable, ByRoutine, ByFormal, Arguments, no_argument, argument_before}
use Rattle.ps_tree.specs.Tree.{Expr, Pack, Unpack, Statement, routine_at, domain_at}
use Rattle.ps_tree.specs.declared.limits.TheConstants.{MAX_CELLS}
use Rattle.ps_meaning.specs.Expressions.{index_of}
use Rattle.tac_code.specs.declared.code.TheConstants.{NUMBER_LIMIT}
use Rattle.ps_lower_layout.specs.Shapes.{Shape, NumberShape, ByteShape, ArrayShape, shape_of}
use Rattle.ps_lower_layout.specs.Shapes.{word_count, byte_count, component_bytes, Part, Whole, Byte, component_part}
use Rattle.ps_lower_layout.specs.Words.{filled}
use Rattle.ps_lower_layout.specs.Frames.{Kind, Own, Reference, Closure, Kinds, entries}
use Rattle.ps_lower_code.specs.Scopes.{held, Scope, kind_at}
use Rattle.ps_lower_code.specs.Values.{text_length, structure_bytes, place_site, place_temporary}
use Rattle.ps_lower_code.specs.Statements.{within_site, with_scope}
use Rattle.ps_lower_code.specs.Routines.{count_kinds}
use Rattle.ps_lower_code.specs.Fits.{IsInteger, AreIntegers, RangeFits, CountIs, shape_in, PacksTo, IsArray, BaseFits}
use Rattle.ps_lower_bounds.specs.Forms.{IsSmall}
use Rattle.ps_lower_code.specs.Fits.{HasIndex, HasCells, PlaceFits, SelectorsFit, StructureFits, ContentsFit}
use Rattle.ps_lower_code.specs.Fits.{ArgumentsFit, OpenedFit}
use Rattle.ps_lower_code.specs.Fits.{StatementFits}
use Rattle.ps_lower_bounds.proofs.Lists.{Each, each_at, none_some}
use Rattle.ps_lower_bounds.proofs.Counts.{Few, PartFew, few_bytes, component_few, field_part_few, has_cells}
use Rattle.ps_lower_bounds.proofs.Counts.{index_within, count_there, KindFew, HeadingFew, ProgramFew}

-- the range of a variable
abbrev pub IsRange : Range → Type 0
IsRange Any = Unit {0}
IsRange (Within low high) = AreIntegers low high

pub range_there : (range : Range) (part : Part) → RangeFits range part → IsRange range
range_there Any part f = tt
range_there (Within low high) Byte f = (f.0, f.1)
range_there (Within low high) (Whole (NumberShape first narrow)) f = (f.0, f.1)
range_there (Within low high) part f = absurd f

-- the bounds of an array's index
abbrev pub HasBounds : DataType → Type 0
HasBounds type = AreIntegers (index_of type).low (index_of type).high

-- a part of an array: the last place where it may begin is an integer, and it has few components
abbrev pub IsPart : (whole part : DataType) → Type 0
IsPart whole part =
    HasBounds whole × IsInteger ((index_of whole).low +ℤ pos
    (value_count (index_of whole) - value_count (index_of part)))
    × IsSmall (value_count (index_of part))

-- how many words actual parameters have
abbrev pub argument_count : Argument → ℕ
argument_count (ByRoutine r up) = 2
argument_count (ByFormal up index) = 2
argument_count _ = 1

abbrev pub arguments_count : Arguments → ℕ
arguments_count no_argument = 0
arguments_count (argument_before a rest) = argument_count a + arguments_count rest

-- two words for each of 32 parameters
abbrev pub AreFew : Arguments → Type 0
AreFew list = arguments_count list ≤ 64

-- an array has components
abbrev pub HasComponents : DataType → Type 0
HasComponents type = CountIs (shape_of type) (value_count (index_of type)) × (1 ≤ value_count (index_of type))

pub components_there : (type : DataType) → IsArray type → HasComponents type
components_there type a = (a.0, count_there (index_of type).low (index_of type).high a.3)

filled_most : (bytes : List ℕ) → length (filled bytes) ≤ length bytes + 3
filled_most [] = omega arith
filled_most (a ∷ []) = omega arith
filled_most (a ∷ b ∷ []) = omega arith
filled_most (a ∷ b ∷ c ∷ []) = omega arith
filled_most (a ∷ b ∷ c ∷ d ∷ rest) = let l = filled_most rest in omega (arith, l)

-- what is packed: few components, and what they take packed and unpacked
pub record PacksFew (packed : Shape) (n : ℕ) (component : Shape) : Type 0 where
  few : IsSmall n
  packed_small : IsSmall (n * component_bytes packed)
  unpacked_small : IsSmall (n * byte_count component)

pub packs_few : (packed : Shape) (n : ℕ) (component : Shape) → PacksTo packed n component → HasCells packed → Few packed
    → PacksFew packed n component
packs_few (ByteShape m first) n (NumberShape lowest narrow) p h f = let e = p.0 in record {
  few = omega (arith, e, f);
  packed_small = omega (arith, e, f);
  unpacked_small = omega (arith, e, f);
}
packs_few (ArrayShape m s) n component p h f =
    let e = p.0 in
    let a = mul-le-mul_left m (has_cells s h.1) in
    let b = few_bytes (ArrayShape m s) f in
    let all : IsSmall (n * byte_count s) = subst (λ i. i * byte_count s < NUMBER_LIMIT) e
    (let q = mul_left_comm m 4 (word_count s) in omega (arith, b, q)) in
    record {
      few = omega (arith, e, a, f);
      packed_small = all;
      unpacked_small = subst (λ c. n * byte_count c < NUMBER_LIMIT) p.1 all;
    }
packs_few packed n component p h f = absurd p

-- the last place where a part may begin
pub part_there : (whole part : DataType)
    → IsArray whole → HasIndex part → IsSmall (value_count (index_of part)) → IsPart whole part
part_there whole part a u s =
    let m = count_there (index_of whole).low (index_of whole).high a.3 in
    let n = count_there (index_of part).low (index_of part).high u in (
      (a.1, a.2),
      index_within (index_of whole).low (index_of whole).high
          (value_count (index_of whole) - value_count (index_of part)) a.1 a.2 (omega (arith, m, n)),
      s,
    )

-- a string is the contents of a string variable
pub contents_of : (k : Scope) (os : List Shape) (e : Structure) → StructureFits k os e → (shape : Shape) × ContentsFit
    k os e shape
contents_of k os (Literal w) f = (ByteShape (length w) (pos 0), (f.0, f.1, (pos 0, refl)))
contents_of k os (Contents p type) f = (ByteShape f.0 f.1, (f.2, f.4))

pub contents_bytes : (k : Scope) (os : List Shape) (e : Structure) (shape : Shape) → ContentsFit k os e shape
    → structure_bytes e ≤ byte_count shape + 3
contents_bytes k os (Literal w) shape f = let q = filled_most w in subst
    (λ s. structure_bytes (Literal w) ≤ byte_count s + 3) (sym f.2.1) (omega (arith, q))
contents_bytes k os (Contents p type) shape f = subst (λ s. byte_count (shape_of type) ≤ byte_count s + 3) f.0
    (omega arith)

module _ (k : Scope) (program : ProgramFew k.program) where
  abbrev R : ℕ
  R = length k.program.routines

  abbrev T : ℕ
  T = length k.program.domains

  pub kind_few : (up index : ℕ) (kind : Kind) → kind_at k up index ≡ Some kind → KindFew kind
  kind_few up index kind e = let r = program.routines (get_or k.chain up 0) in each_at KindFew
      (entries (routine_at k.program (get_or k.chain up 0))) index kind r.kinds e

  entry_few : (o : Option Kind) (shape : Shape) → ((kind : Kind) → o ≡ Some kind → KindFew kind) → shape_in o
      ≡ Some shape → Few shape
  entry_few (Some (Own s)) shape f e = subst Few (same_Some s shape e) (f (Own s) refl)
  entry_few (Some (Reference s)) shape f e = subst Few (same_Some s shape e) (f (Reference s) refl)
  entry_few (Some (Closure kinds result)) shape f e = absurd (none_some e)
  entry_few None shape f e = absurd (none_some e)

  -- ---- actual parameters are few

  arguments_most : (os : List Shape) (arguments : Arguments) (kinds : Kinds) → ArgumentsFit k os arguments kinds
      → arguments_count arguments ≤ 2 * count_kinds kinds
  arguments_most os no_argument kinds f = omega arith
  arguments_most os (argument_before a rest) kinds f =
      let l = arguments_most os rest f.1.0 f.1.3 in
      subst (λ q. argument_count a + arguments_count rest ≤ 2 * count_kinds q) (sym f.1.1)
      (let m = one_most a in omega (arith, l, m))
    where
      one_most : (a : Argument) → argument_count a ≤ 2
      one_most (ByValue e range line) = omega arith
      one_most (BySet e low high line) = omega arith
      one_most (ByCopy e type) = omega arith
      one_most (ByVariable p) = omega arith
      one_most (ByRoutine r up) = omega arith
      one_most (ByFormal up index) = omega arith

  pub arguments_few : (os : List Shape) (arguments : Arguments) (kinds : Kinds) → ArgumentsFit k os arguments kinds
      → HeadingFew kinds → AreFew arguments
  arguments_few os arguments kinds f h = let l = arguments_most os arguments kinds f in let m = h.0 in omega
      (arith, l, m)

  -- ---- within opened records that are few

  module _ (os : List Shape) (opened : Each Few os) where
    pub base_few : (name : PlaceBase) (shape : Shape) → BaseFits k os name shape → Few shape
    base_few (Entry up index) shape f = entry_few (kind_at k up index) shape (kind_few up index) f.1
    base_few (Opened which type number) shape f = field_part_few (shape_of type) number shape f.1
        (each_at Few os which (shape_of type) opened f.0)

    pub selectors_few : (ss : Selectors) (part next : Part) → SelectorsFit k os ss part next
        → PartFew part → PartFew next
    selectors_few no_selector part next f l = subst PartFew f l
    selectors_few (selector_before (Element type e line) rest) part next f l =
        let array = components_there type f.1 in
        selectors_few rest (component_part (shape_of type)) next f.4
        (component_few (shape_of type) (value_count (index_of type)) array.0 array.1 (subst PartFew f.0 l))
    selectors_few (selector_before (Field type number) rest) part next f l =
        selectors_few rest (Whole f.1.0) next f.1.2
        (field_part_few (shape_of type) number f.1.0 f.1.1 (subst PartFew f.0 l))
    selectors_few (selector_before (Target pointer line) rest) part next f l =
        selectors_few rest (Whole (shape_of (domain_at k.program pointer))) next f.2 (program.domains pointer)

    pub place_few : (p : Place) (part : Part) → PlaceFits k os p part → PartFew part
    place_few (Variable name ss) part f = selectors_few ss (Whole f.0) part f.2 (base_few name f.0 f.1)

    -- ---- strings and contents

    pub text_small : (e : Structure) → StructureFits k os e → IsSmall (text_length e)
    text_small (Literal w) f = f.1
    text_small (Contents p type) f =
        let l : f.0 ≤ MAX_CELLS = place_few p (Whole (ByteShape f.0 f.1)) f.4 in
        subst IsSmall (sym (ap (λ o. elim o as (λ z. ℕ) [ Some m ↦ m | None ↦ 0 ]) f.3)) (omega (arith, l))

    pub contents_small : (e : Structure) (shape : Shape) → ContentsFit k os e shape → Few shape → IsSmall
        (structure_bytes e)
    contents_small e shape f l = let m = few_bytes shape l in let n = contents_bytes k os e shape f in omega
        (arith, m, n)

    -- ---- what is packed and unpacked

    pub pack_few : (p : Place) (from_type : DataType) (e : Expr) (line : ℕ) (q : Place) (to_type : DataType)
        → StatementFits k os (Pack p from_type e line q to_type) → IsPart from_type to_type × IsSmall
        (value_count (index_of to_type) * component_bytes (shape_of from_type))
    pack_few p from_type e line q to_type f =
        let n = value_count (index_of to_type) in
        let few = packs_few (shape_of to_type) n f.0 f.2 f.8 (place_few q (Whole (shape_of to_type)) f.6) in (
          part_there from_type to_type f.3 f.7 few.few,
          subst (λ s. IsSmall (n * component_bytes s)) (sym f.1) few.unpacked_small,
        )

    pub unpack_few : (p : Place) (from_type : DataType) (q : Place) (to_type : DataType) (e : Expr) (line : ℕ)
        → StatementFits k os (Unpack p from_type q to_type e line) → IsPart to_type from_type × IsSmall
        (value_count (index_of from_type) * component_bytes (shape_of from_type))
    unpack_few p from_type q to_type e line f =
        let n = value_count (index_of from_type) in
        let few = packs_few (shape_of from_type) n f.0 f.2 f.8 (place_few p (Whole (shape_of from_type)) f.4) in
        (part_there to_type from_type f.3 f.7 few.few, few.packed_small)

  -- records that are opened one after another
  pub opened_few : (os : List Shape) (places : List Place) (inner : List Shape) → Each Few os → OpenedFit k os places
      inner → Each Few inner
  opened_few os [] inner l f = subst (Each Few) (sym f) l
  opened_few os (p ∷ rest) inner l f = opened_few (f.0 ∷ os) rest inner (place_few os l p (Whole f.0) f.1, l) f.2

-- what is within the opened records does not depend on where they are
pub with_fits : (k : Scope) (places : List Place) (c : Bool) (d : ℕ) (os : List Shape) (s : Statement)
    → StatementFits k os s → StatementFits (with_scope k places c d) os s
with_fits k [] c d os s f = f
with_fits k (p ∷ rest) c d os s f = with_fits (within_site k (place_site k p (held c d))) rest c
    (suc (place_temporary p (held c d))) os s f
