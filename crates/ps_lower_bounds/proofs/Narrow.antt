-- Instructions whose offsets and widths are small, and places that are within their blocks.
use Rattle.std.proofs.Common.{◌≡◌, ℕ, zero, suc, ◌+◌, ◌*◌, ◌<◌, ◌≤◌, Bool, true, false, if◌then◌else◌, List, [], ◌∷◌}
use Rattle.std.proofs.Common.{◌++◌, ℤ, ◌-ℤ◌, unsigned_abs, Option, Some, None, slice_get, get_or, refl, sym, ap, subst}
use Rattle.std.proofs.Common.{arith, mul-le-mul_right}
use Rattle.std.proofs.lemmas.Option.{none-some}
use Rattle.tac_code_steps.proofs.Pieces.{same_some}
use Rattle.ps_tree.specs.Types.{DataType}
use Rattle.ps_tree.specs.Sizes.{value_count}
use Rattle.ps_tree.specs.Tree.{PlaceBase, Entry, Opened, Program, routine_at, domain_at}
use Rattle.ps_meaning.specs.Operators.{is_between}
use Rattle.ps_meaning.specs.Expressions.{index_of}
use Rattle.tac_code.specs.declared.code.Base.{Base}
use Rattle.tac_code.specs.declared.code.Base.TheVariants as base
use Rattle.tac_code.specs.declared.code.Instruction.{Instruction}
use Rattle.tac_code.specs.declared.code.Instruction.TheVariants.{Offset, Index, Load, Store, LoadByte, StoreByte}
use Rattle.tac_code.specs.declared.code.TheConstants.{NUMBER_LIMIT}
use Rattle.ps_lower_layout.specs.Shapes.{Shape, NumberShape, PointerShape, SetShape, ByteShape, ArrayShape}
use Rattle.ps_lower_layout.specs.Shapes.{RecordShape, Shapes, no_shape, shape_before, shape_of, word_count}
use Rattle.ps_lower_layout.specs.Shapes.{word_counts, byte_count, component_bytes, field_offset, field_shape}
use Rattle.ps_lower_layout.specs.Shapes.{words_before, field_part, Part, Whole, Byte, component_part}
use Rattle.ps_lower_layout.specs.Frames.{Kind, Own, Reference, Closure, entries, entry_offset, input_offset}
use Rattle.ps_lower_code.specs.Fits.{shape_in, CountIs, BaseFits}
use Rattle.ps_lower_code.specs.Scopes.{Site, Scope, unless_known, routine_up, kind_at, is_outermost, hops}
use Rattle.ps_lower_code.specs.Scopes.{hops_in_turns, is_far, way_out, frame_code, frame_base, link_code, formal_code}
use Rattle.ps_lower_code.specs.Scopes.{site_code, words_code}
use Rattle.ps_lower_code.specs.Values.{known_steps, element_site, load_code, store_code, index_code, field_site}
use Rattle.ps_lower_code.specs.Values.{reference_code, entry_site, name_code, name_site}
use Rattle.ps_lower_bounds.proofs.Few.{HasComponents}
use Rattle.ps_lower_code.proofs.Gaps.{gap, index_number}

-- ---- instructions

-- an offset, or a byte count, at a base: those of the scratch block are known otherwise
abbrev pub AtNarrow : Base → ℕ → Type 0
AtNarrow base.Frame n = n < NUMBER_LIMIT
AtNarrow base.Scratch n = Unit {0}
AtNarrow base.Program n = n < NUMBER_LIMIT
AtNarrow (base.Temporary t) n = n < NUMBER_LIMIT

abbrev pub IsNarrow : Instruction → Type 0
IsNarrow (Offset t b n extent) = AtNarrow b n × AtNarrow b extent
IsNarrow (Index t b i low high width error line) = width < NUMBER_LIMIT
IsNarrow (Load t b n) = AtNarrow b n
IsNarrow (Store b n t) = AtNarrow b n
IsNarrow (LoadByte t b n) = AtNarrow b n
IsNarrow (StoreByte b n t) = AtNarrow b n
IsNarrow _ = Unit {0}

abbrev pub Narrow : List Instruction → Type 0
Narrow [] = Unit {0}
Narrow (i ∷ rest) = IsNarrow i × Narrow rest

pub at_narrow : (b : Base) (n : ℕ) → n < NUMBER_LIMIT → AtNarrow b n
at_narrow base.Frame n l = l
at_narrow base.Scratch n l = tt
at_narrow base.Program n l = l
at_narrow (base.Temporary t) n l = l

pub both : (x y : List Instruction) → Narrow x → Narrow y → Narrow (x ++ y)
both [] y c d = d
both (i ∷ x) y c d = (c.0, both x y c.1 d)

pub three : (x y z : List Instruction) → Narrow x → Narrow y → Narrow z → Narrow (x ++ y ++ z)
three x y z c d e = both (x ++ y) z (both x y c d) e

pub four : (x y z u : List Instruction) → Narrow x → Narrow y → Narrow z → Narrow u → Narrow (x ++ y ++ z ++ u)
four x y z u c d e f = both (x ++ y ++ z) u (three x y z c d e) f

pub five : (x y z u v : List Instruction) → Narrow x → Narrow y → Narrow z → Narrow u → Narrow v → Narrow
    (x ++ y ++ z ++ u ++ v)
five x y z u v c d e f g = both (x ++ y ++ z ++ u) v (four x y z u c d e f) g

pub six : (x y z u v w : List Instruction) → Narrow x → Narrow y → Narrow z → Narrow u → Narrow v → Narrow w → Narrow
    (x ++ y ++ z ++ u ++ v ++ w)
six x y z u v w c d e f g h = both (x ++ y ++ z ++ u ++ v) w (five x y z u v c d e f g) h

pub either : (c : Bool) (x y : List Instruction) → Narrow x → Narrow y → Narrow (if c then x else y)
either true x y l r = l
either false x y l r = r

pub unknown : (z : Option ℤ) (code : List Instruction) → Narrow code → Narrow (unless_known z code)
unknown None code u = u
unknown (Some z) code u = tt

-- ---- components and fields

abbrev pub part_bytes : Part → ℕ
part_bytes (Whole shape) = byte_count shape
part_bytes Byte = 1

component_in : (shape : Shape) (count n : ℕ) → CountIs shape count → n < count → n * component_bytes shape + part_bytes
    (component_part shape) ≤ byte_count shape
component_in (NumberShape first narrow) count n e l = absurd e
component_in (PointerShape pointer) count n e l = absurd e
component_in SetShape count n e l = absurd e
component_in (ByteShape c first) count n e l = omega (arith, e, l)
component_in (ArrayShape c shape) count n e l =
    let h : suc n ≤ c = omega (arith, e, l) in let m = mul-le-mul_right (word_count shape) h in omega (arith, m)
component_in (RecordShape shapes) count n e l = absurd e

component_is : (shape : Shape) (count : ℕ) → CountIs shape count → component_bytes shape ≡ part_bytes
    (component_part shape)
component_is (NumberShape first narrow) count e = absurd e
component_is (PointerShape pointer) count e = absurd e
component_is SetShape count e = absurd e
component_is (ByteShape c first) count e = refl
component_is (ArrayShape c shape) count e = refl
component_is (RecordShape shapes) count e = absurd e

-- a component is no larger than its array
pub component_most : (type : DataType) → HasComponents type → component_bytes (shape_of type) ≤ byte_count
    (shape_of type)
component_most type h =
    let l = h.1 in
    let m = component_in (shape_of type) (value_count (index_of type)) 0 h.0 l in
    let e = component_is (shape_of type) (value_count (index_of type)) h.0 in
    omega (arith, m, e)

field_in : (shapes : Shapes) (n : ℕ) (inner : Shape) → field_shape shapes n ≡ Some inner → 4 * words_before shapes n
    + byte_count inner ≤ 4 * word_counts shapes
field_in no_shape n inner e = absurd (none-some inner e)
field_in (shape_before shape rest) zero inner e = subst
    (λ s. 4 * 0 + byte_count s ≤ 4 * (word_count shape + word_counts rest)) (same_some e) (omega arith)
field_in (shape_before shape rest) (suc n) inner e = let l = field_in rest n inner e in omega (arith, l)

pub field_part_in : (shape : Shape) (n : ℕ) (inner : Shape) → field_part shape n ≡ Some inner → field_offset shape n
    + byte_count inner ≤ byte_count shape
field_part_in (RecordShape shapes) n inner e = field_in shapes n inner e
field_part_in (NumberShape first narrow) n inner e = absurd (none-some inner e)
field_part_in (PointerShape pointer) n inner e = absurd (none-some inner e)
field_part_in SetShape n inner e = absurd (none-some inner e)
field_part_in (ByteShape c first) n inner e = absurd (none-some inner e)
field_part_in (ArrayShape c shape) n inner e = absurd (none-some inner e)

-- the bytes before a component that is known
abbrev IsIn : DataType → Option ℕ → Type 0
IsIn type None = Unit {0}
IsIn type (Some m) = m + part_bytes (component_part (shape_of type)) ≤ byte_count (shape_of type)

pub known_in : (type : DataType) → HasComponents type → (z : Option ℤ) → IsIn type (known_steps type z)
known_in type h None = tt
known_in type h (Some z) = go (is_between (index_of type).low z (index_of type).high) refl
  where
    go : (b : Bool) → is_between (index_of type).low z (index_of type).high ≡ b → IsIn type
        (if b then Some (unsigned_abs (z -ℤ (index_of type).low) * component_bytes (shape_of type)) else None)
    go true e =
        let r = index_number (index_of type) z e in
        subst (λ m. m * component_bytes (shape_of type) + part_bytes (component_part (shape_of type)) ≤ byte_count
        (shape_of type)) (sym (ap unsigned_abs r.0))
        (component_in (shape_of type) (value_count (index_of type)) (gap (index_of type).low z) h.0 r.1)
    go false e = tt

-- ---- sites: each part is within a million bytes

abbrev pub Reach : Site → Part → Type 0
Reach s part = s.offset + part_bytes part ≤ 1000000

abbrev pub SitesReach : List Site → List Shape → Type 0
SitesReach [] [] = Unit {0}
SitesReach [] (shape ∷ os) = ⊥
SitesReach (s ∷ sites) [] = ⊥
SitesReach (s ∷ sites) (shape ∷ os) = Reach s (Whole shape) × SitesReach sites os

pub element_reach : (type : DataType) (n : Option ℕ) (s : Site) (t : ℕ) → HasComponents type → IsIn type n → Reach s
    (Whole (shape_of type)) → Reach (element_site n s t) (component_part (shape_of type))
element_reach type None s t h i r = let l = h.1 in let m = component_in (shape_of type)
    (value_count (index_of type)) 0 h.0 l in omega (arith, m, r)
element_reach type (Some n) s t h i r = omega (arith, i, r)

pub load_narrow : (b : Bool) (d : ℕ) (s : Site) → s.offset ≤ 1000000 → Narrow (load_code b d s)
load_narrow true d s l = (at_narrow s.base s.offset (omega (arith, l)), tt)
load_narrow false d s l = (at_narrow s.base s.offset (omega (arith, l)), tt)

pub store_narrow : (b : Bool) (s : Site) (t : ℕ) → s.offset ≤ 1000000 → Narrow (store_code b s t)
store_narrow true s t l = (at_narrow s.base s.offset (omega (arith, l)), tt)
store_narrow false s t l = (at_narrow s.base s.offset (omega (arith, l)), tt)

pub site_narrow : (t : ℕ) (s : Site) (extent : ℕ) → s.offset ≤ 1000000 → extent < NUMBER_LIMIT → Narrow
    (site_code t s extent)
site_narrow t s n l m = ((at_narrow s.base s.offset (omega (arith, l)), at_narrow s.base n m), tt)

pub index_narrow : (n : Option ℕ) (type : DataType) (s : Site) (t at line : ℕ) (code : List Instruction)
    → component_bytes (shape_of type) < NUMBER_LIMIT → Narrow code → Narrow (index_code n type s t at line code)
index_narrow (Some n) type s t at line code l c = tt
index_narrow None type s t at line code l c = both code _ c (l, tt)

-- ---- frames

abbrev pub IsShort : Kind → Type 0
IsShort (Own shape) = byte_count shape ≤ 400000
IsShort (Reference shape) = byte_count shape ≤ 400000
IsShort (Closure kinds result) = Unit {0}

-- what the limits say of a program's frames and objects
pub record Framed (program : Program) : Type 0 where
  pub offsets : (r i : ℕ) → entry_offset (routine_at program r) i ≤ 500000
  pub kinds : (r i : ℕ) (kind : Kind) → slice_get (entries (routine_at program r)) i ≡ Some kind → IsShort kind
  pub input : input_offset (routine_at program 0) ≤ 500000
  pub domains : (t : ℕ) → byte_count (shape_of (domain_at program t)) ≤ 400000

module _ (k : Scope) where
  opened_reach : (sites : List Site) (os : List Shape) (which n m : ℕ) (shape : Shape) → SitesReach sites os
      → slice_get os which ≡ Some shape → n + m ≤ byte_count shape → (field_site k (slice_get sites which) n).offset
      + m ≤ 1000000
  opened_reach [] [] which n m shape o e l = absurd (none-some shape e)
  opened_reach [] (s ∷ os) which n m shape o e l = absurd o
  opened_reach (s ∷ sites) [] which n m shape o e l = absurd o
  opened_reach (s ∷ sites) (first ∷ os) zero n m shape o e l =
      let r : s.offset + byte_count shape ≤ 1000000 = subst (λ f. s.offset + byte_count f ≤ 1000000) (same_some e) o.0
      in omega (arith, r, l)
  opened_reach (s ∷ sites) (first ∷ os) (suc which) n m shape o e l = opened_reach sites os which n m shape o.1 e l

  hops_narrow : (t level up : ℕ) → Narrow (hops k t level up)
  hops_narrow t level zero = tt
  hops_narrow t level (suc up) = (omega arith, hops_narrow t (suc level) up)

  way_narrow : (t up : ℕ) → Narrow (way_out k t up)
  way_narrow t up = either (is_far up) (hops_in_turns k t up) (hops k t 1 up) (tt, (omega arith, (tt, (tt, tt))))
      (hops_narrow t 1 up)

  pub frame_narrow : (t up : ℕ) → Narrow (frame_code k t up)
  frame_narrow t zero = tt
  frame_narrow t (suc up) = either (is_outermost k (suc up)) [] _ tt (omega arith, way_narrow t up)

  pub link_narrow : (t up : ℕ) → Narrow (link_code k t up)
  link_narrow t zero = omega arith
  link_narrow t (suc up) = either (is_outermost k (suc up)) (Offset t base.Program 0 0 ∷ []) _ (omega arith)
      (omega arith, way_narrow t up)

module _ (k : Scope) (b : Framed k.program) where
  pub entry_most : (up index : ℕ) → entry_offset (routine_up k up) index ≤ 500000
  entry_most up index = b.offsets (get_or k.chain up 0) index

  pub formal_narrow : (t up index : ℕ) → Narrow (formal_code k t up index)
  formal_narrow t up index =
      let l = entry_most up index in
      both (frame_code k t up) _ (frame_narrow k t up)
      (at_narrow (frame_base k t up) _ (omega (arith, l)), (at_narrow (frame_base k t up) _ (omega (arith, l)), tt))

  reference_narrow : (kind : Option Kind) (t up index : ℕ) → Narrow (reference_code k kind t up index)
  reference_narrow (Some (Reference shape)) t up index = let l = entry_most up index
      in (at_narrow (frame_base k t up) _ (omega (arith, l)), tt)
  reference_narrow (Some (Own shape)) t up index = tt
  reference_narrow (Some (Closure kinds result)) t up index = tt
  reference_narrow None t up index = tt

  pub name_narrow : (name : PlaceBase) (t : ℕ) → Narrow (name_code k name t)
  name_narrow (Entry up index) t = both (frame_code k t up) _ (frame_narrow k t up)
      (reference_narrow (kind_at k up index) t up index)
  name_narrow (Opened which type number) t = tt

  entry_reach : (kind : Option Kind) (t up index : ℕ) (shape : Shape) → kind_at k up index ≡ kind → shape_in kind
      ≡ Some shape → Reach (entry_site k kind t up index) (Whole shape)
  entry_reach (Some (Own s)) t up index shape e q =
      let l = entry_most up index in let m : byte_count s ≤ 400000 = b.kinds (get_or k.chain up 0) index (Own s) e in
      subst (λ f. entry_offset (routine_up k up) index + byte_count f ≤ 1000000) (same_some q) (omega (arith, l, m))
  entry_reach (Some (Reference s)) t up index shape e q =
      let m : byte_count s ≤ 400000 = b.kinds (get_or k.chain up 0) index (Reference s) e in
      subst (λ f. 0 + byte_count f ≤ 1000000) (same_some q) (omega (arith, m))
  entry_reach (Some (Closure kinds result)) t up index shape e q = absurd (none-some shape q)
  entry_reach None t up index shape e q = absurd (none-some shape q)

  pub name_reach : (os : List Shape) → SitesReach k.opened os → (name : PlaceBase) (t : ℕ) (shape : Shape)
      → BaseFits k os name shape → Reach (name_site k name t) (Whole shape)
  name_reach os o (Entry up index) t shape f = entry_reach (kind_at k up index) t up index shape refl f.1
  name_reach os o (Opened which type number) t shape f =
      opened_reach k k.opened os which (field_offset (shape_of type) number) (byte_count shape) (shape_of type) o f.0
      (field_part_in (shape_of type) number shape f.1)

-- ---- words from and to the scratch block

pub taken_narrow : (x t p v n : ℕ) → p + 4 * n < NUMBER_LIMIT → Narrow
    (words_code base.Scratch x (base.Temporary t) p v n)
unfolding words_code
taken_narrow x t p v zero l = tt
taken_narrow x t p v (suc n) l = (omega (arith, l), (tt, taken_narrow (x + 4) t (p + 4) v n (omega (arith, l))))

pub kept_narrow : (x t p v n : ℕ) → p + 4 * n < NUMBER_LIMIT
    → Narrow (words_code (base.Temporary t) p base.Scratch x v n)
unfolding words_code
kept_narrow x t p v zero l = tt
kept_narrow x t p v (suc n) l = (tt, (omega (arith, l), kept_narrow (x + 4) t (p + 4) v n (omega (arith, l))))
