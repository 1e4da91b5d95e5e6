-- What the pieces that all constructs share use.
use Rattle.std.proofs.Common.{◌≡◌, ℕ, zero, suc, ◌+◌, ◌*◌, ◌%◌, ◌<◌, ◌≤◌, Bool, true, false, not, ◌&&◌, nat_eq}
use Rattle.std.proofs.Common.{if◌then◌else◌, List, [], ◌∷◌, ℤ, Option, Some, None, slice_get, arith}
use Rattle.ps_tree.specs.declared.tree.operators.Range.{Range}
use Rattle.ps_tree.specs.declared.tree.operators.Range.TheVariants.{Any, Within}
use Rattle.ps_tree.specs.declared.tree.operators.SetRelation.{SetRelation}
use Rattle.ps_tree.specs.declared.tree.operators.SetRelation.TheVariants as sets
use Rattle.ps_tree.specs.declared.tree.operators.RequiredFunction.{RequiredFunction}
use Rattle.ps_tree.specs.declared.tree.operators.RequiredFunction.TheVariants.{Abs, Sqr, Odd, Ord, Chr, Succ, Pred}
use Rattle.ps_tree.specs.Types.{DataType}
use Rattle.ps_tree.specs.Tree.{Place, Variable, PlaceBase, Entry, Opened, Element, Field, Target, Selectors}
use Rattle.ps_tree.specs.Tree.{no_selector, selector_before, Expr, Not, Compare, ComparePointers}
use Rattle.ps_meaning.specs.Operators.{is_between}
use Rattle.tac_code.specs.declared.code.Base.TheVariants as base
use Rattle.tac_code.specs.declared.code.Instruction.{Instruction}
use Rattle.tac_code.specs.declared.code.Instruction.TheVariants as i
use Rattle.ps_lower_layout.specs.Shapes.{shape_of, field_offset}
use Rattle.ps_lower_layout.specs.Frames.{Kind, Own, Reference, Closure}
use Rattle.ps_lower_code.specs.Scopes.{held, kept, beside, moved, least, greatest, range_code, is_any, check_code}
use Rattle.ps_lower_code.specs.Scopes.{has_bytes, fitting_code, operand_check, operand_of, Site, Scope, kind_at}
use Rattle.ps_lower_code.specs.Scopes.{is_outermost, hops, hops_in_turns, is_far, way_out, frame_code, frame_base}
use Rattle.ps_lower_code.specs.Scopes.{link_code, formal_code, site_code, words_code}
use Rattle.ps_lower_code.specs.Calling.{expr_calls, selectors_call}
use Rattle.ps_lower_code.specs.Values.{literal_of, is_relation, is_truth, left_in, right_in, relation_code, finish}
use Rattle.ps_lower_code.specs.Values.{truth_finish, known_steps, element_site, selectors_site, load_code, store_code}
use Rattle.ps_lower_code.specs.Values.{index_code, function_code, minus_code, field_site, reference_code, entry_site}
use Rattle.ps_lower_code.specs.Values.{name_code, name_site, place_site, holds_all, outside_bits, masked, joined_word}
use Rattle.ps_lower_code.specs.Values.{outside_code, set_check, one_code, membership_code, clear_code, same_sets_code}
use Rattle.ps_lower_code.specs.Values.{sets_code, range_members}
use Rattle.ps_lower_code.proofs.Masks.{IsMember}
use Rattle.ps_lower_bounds.proofs.Uses.{OperandUnder, BaseUnder, Under, both, either, at_base}

-- ---- depths

pub held_most : (b : Bool) (d : ℕ) → (d ≤ held b d) × (held b d ≤ suc d)
held_most true d = omega arith
held_most false d = omega arith

pub kept_most : (b : Bool) (d : ℕ) → (d ≤ kept b d) × (kept b d ≤ suc d)
kept_most true d = omega arith
kept_most false d = omega arith

-- ---- tests of ranges

module _ (D X : ℕ) where
  pub moved_under : (from to : ℕ) → from < D → to < D → Under D X (moved from to)
  moved_under a b f t = either D X (nat_eq a b) [] (i.Copy b a ∷ []) tt ((t, f), tt)

  pub range_under : (t : ℕ) (low high : ℤ) (number line : ℕ) → t < D → Under D X (range_code t low high number line)
  range_under t l h n line u = either D X (is_any l h) [] (i.CheckRange t l h n line ∷ []) tt (u, tt)

  pub check_under : (z : Option ℤ) (t : ℕ) (low high : ℤ) (number line : ℕ) → t < D → Under D X
      (check_code z t low high number line)
  check_under None t l h n line u = range_under t l h n line u
  check_under (Some z) t l h n line u = either D X (is_between l z h) [] (i.CheckRange t l h n line ∷ []) tt (u, tt)

  pub fitting_under : (b : Bool) (z : Option ℤ) (t : ℕ) (range : Range) (line : ℕ) → t < D → Under D X
      (fitting_code b z t range line)
  fitting_under b z t Any line u = tt
  fitting_under b z t (Within l h) line u = either D X (b && has_bytes l h) [] (check_code z t l h 4 line) tt
      (check_under z t l h 4 line u)

  pub operand_check_under : (z : Option ℤ) (t : ℕ) (low high : ℤ) (number line : ℕ) → t < D → Under D X
      (operand_check z t low high number line)
  operand_check_under None t l h n line u = range_under t l h n line u
  operand_check_under (Some z) t l h n line u = either D X (is_between l z h) [] (i.Trap n line ∷ []) tt (tt, tt)

  pub operand_under : (z : Option ℤ) (t : ℕ) → t < D → OperandUnder D (operand_of z t)
  operand_under None t u = u
  operand_under (Some z) t u = tt

-- ---- expressions as conditions

module _ (D X : ℕ) where
  pub left_under : (e : Expr) (d : ℕ) → d + 4 ≤ D → left_in e d < D
  left_under (Compare relation a b) d h = let m = kept_most (expr_calls b) d in omega (arith, h, m)
  left_under (ComparePointers relation a b) d h = let m = kept_most (expr_calls b) d in omega (arith, h, m)
  left_under (Not e) d h = left_under e d h
  left_under _ d h = omega (arith, h)

  pub right_under : (e : Expr) (d : ℕ) → d + 4 ≤ D → OperandUnder D (right_in e d)
  right_under (Compare relation a b) d h = operand_under D X (literal_of b) _
      (let m = kept_most (expr_calls b) d in omega (arith, h, m))
  right_under (ComparePointers relation a b) d h = operand_under D X (literal_of b) _
      (let m = kept_most (expr_calls b) d in omega (arith, h, m))
  right_under (Not e) d h = right_under e d h
  right_under _ d h = tt

  relation_under : (e : Expr) (d : ℕ) → d + 4 ≤ D → Under D X (relation_code e d)
  relation_under e d h = ((omega (arith, h), left_under e d h, right_under e d h), tt)

  pub finish_under : (e : Expr) (d : ℕ) → d + 4 ≤ D → Under D X (finish e d)
  finish_under e d h = either D X (is_relation e) (relation_code e d) [] (relation_under e d h) tt

  pub truth_under : (e : Expr) (d : ℕ) → d + 4 ≤ D → Under D X (truth_finish e d)
  truth_under e d h = either D X (is_truth e && not (is_relation e)) [] (relation_code e d) tt (relation_under e d h)

  pub function_under : (f : RequiredFunction) (d line : ℕ) → d + 3 ≤ D → Under D X (function_code f d line)
  function_under Abs d line h = omega (arith, h)
  function_under Sqr d line h = omega (arith, h)
  function_under Odd d line h = omega (arith, h)
  function_under Ord d line h = tt
  function_under Chr d line h = omega (arith, h)
  function_under (Succ high) d line h = (omega (arith, h), range_under D X d least high 4 line (omega (arith, h)))
  function_under (Pred low) d line h = (omega (arith, h), range_under D X d low greatest 4 line (omega (arith, h)))

  pub minus_under : (z : Option ℤ) (d t line : ℕ) (code : List Instruction) → d < D → t < D → Under D X code → Under D X
      (minus_code z d t line code)
  minus_under (Some z) d t line code h l u = (h, tt)
  minus_under None d t line code h l u = both D X code _ u (omega (arith, h, l))

-- ---- words from and to the scratch block

module _ (D X : ℕ) where
  pub taken_under : (x t p v n : ℕ) → x + 4 * n ≤ X → x % 4 ≡ 0 → t < D → v < D → Under D X
      (words_code base.Scratch x (base.Temporary t) p v n)
  unfolding words_code
  taken_under x t p v zero h q l m = tt
  taken_under x t p v (suc n) h q l m = (
    (m, l),
    ((omega (arith, h, q), m), taken_under (x + 4) t (p + 4) v n (omega (arith, h)) (omega (arith, q)) l m),
  )

  pub kept_under : (x t p v n : ℕ) → x + 4 * n ≤ X → x % 4 ≡ 0 → t < D → v < D → Under D X
      (words_code (base.Temporary t) p base.Scratch x v n)
  unfolding words_code
  kept_under x t p v zero h q l m = tt
  kept_under x t p v (suc n) h q l m = (
    (m, omega (arith, h, q)),
    ((l, m), kept_under (x + 4) t (p + 4) v n (omega (arith, h)) (omega (arith, q)) l m),
  )

-- ---- where a variable is

-- records that were opened are below this many temporaries
abbrev pub OpenedUnder : ℕ → List Site → Type 0
OpenedUnder D [] = Unit {0}
OpenedUnder D (s ∷ rest) = BaseUnder D s.base × OpenedUnder D rest

module _ (D X : ℕ) where
  pub load_under : (b : Bool) (d : ℕ) (s : Site) → d < D → BaseUnder D s.base → Under D X (load_code b d s)
  load_under true d s h u = ((h, at_base D X s.base (s.offset + 1) u), tt)
  load_under false d s h u = ((h, at_base D X s.base (s.offset + 4) u), tt)

  pub store_under : (b : Bool) (s : Site) (t : ℕ) → t < D → BaseUnder D s.base → Under D X (store_code b s t)
  store_under true s t h u = ((at_base D X s.base (s.offset + 1) u, h), tt)
  store_under false s t h u = ((at_base D X s.base (s.offset + 4) u, h), tt)

  pub site_under : (t : ℕ) (s : Site) (extent : ℕ) → t < D → BaseUnder D s.base → Under D X (site_code t s extent)
  site_under t s n h u = ((h, at_base D X s.base (s.offset + n) u), tt)

  pub index_under : (n : Option ℕ) (type : DataType) (s : Site) (t at line : ℕ) (code : List Instruction) → t < D
      → at < D → BaseUnder D s.base → Under D X code → Under D X (index_code n type s t at line code)
  index_under (Some n) type s t at line code h l u c = tt
  index_under None type s t at line code h l u c = both D X code _ c ((h, at_base D X s.base 0 u, l), tt)

module _ (k : Scope) (D : ℕ) where
  pub element_under : (n : Option ℕ) (s : Site) (t : ℕ) → t < D → BaseUnder D s.base → BaseUnder D
      (element_site n s t).base
  element_under None s t h u = h
  element_under (Some n) s t h u = u

  pub selectors_under : (selectors : Selectors) (s : Site) (t : ℕ) → t < D → BaseUnder D s.base → BaseUnder D
      (selectors_site selectors s t).base
  selectors_under no_selector s t h u = u
  selectors_under (selector_before (Element type e line) rest) s t h u = selectors_under rest
      (element_site (known_steps type (literal_of e)) s t) t h (element_under (known_steps type (literal_of e)) s t h u)
  selectors_under (selector_before (Field type number) rest) s t h u = selectors_under rest _ t h u
  selectors_under (selector_before (Target pointer line) rest) s t h u = selectors_under rest _ t h h

  opened_under : (sites : List Site) (which n : ℕ) → OpenedUnder D sites → BaseUnder D
      (field_site k (slice_get sites which) n).base
  opened_under [] which n o = tt
  opened_under (s ∷ rest) zero n o = o.0
  opened_under (s ∷ rest) (suc which) n o = opened_under rest which n o.1

module _ (k : Scope) (D X : ℕ) where
  hops_under : (t level up : ℕ) → t < D → Under D X (hops k t level up)
  hops_under t level zero h = tt
  hops_under t level (suc up) h = ((h, h), hops_under t (suc level) up h)

  -- the temporary beside counts the levels
  way_under : (t up : ℕ) → beside t < D → Under D X (way_out k t up)
  way_under t up h =
      let l : t < D = omega (arith, h) in
      either D X (is_far up) (hops_in_turns k t up) (hops k t 1 up) (h, ((l, l), ((h, h, tt), ((h, tt), tt))))
      (hops_under t 1 up l)

  pub frame_under : (t up : ℕ) → beside t < D → Under D X (frame_code k t up)
  frame_under t zero h = tt
  frame_under t (suc up) h = either D X (is_outermost k (suc up)) [] _ tt ((omega (arith, h), tt), way_under t up h)

  pub frame_base_under : (t up : ℕ) → t < D → BaseUnder D (frame_base k t up)
  frame_base_under t zero h = tt
  frame_base_under t (suc up) h = go (is_outermost k (suc up))
    where
      go : (b : Bool) → BaseUnder D (if b then base.Program else base.Temporary t)
      go true = tt
      go false = h

  pub link_under : (t up : ℕ) → beside t < D → Under D X (link_code k t up)
  link_under t zero h = ((omega (arith, h), tt), tt)
  link_under t (suc up) h =
      let l : t < D = omega (arith, h) in
      either D X (is_outermost k (suc up)) (i.Offset t base.Program 0 0 ∷ []) _ ((l, tt), tt)
      ((l, tt), way_under t up h)

  pub formal_under : (t up index : ℕ) → suc (beside t) ≤ D → Under D X (formal_code k t up index)
  formal_under t up index h =
      let l : t < D = omega (arith, h) in
      let u = frame_base_under t up l in
      both D X (frame_code k t up) _ (frame_under t up h)
      ((h, at_base D X (frame_base k t up) _ u), ((l, at_base D X (frame_base k t up) _ u), tt))

  reference_under : (kind : Option Kind) (t up index : ℕ) → t < D → Under D X (reference_code k kind t up index)
  reference_under (Some (Reference shape)) t up index h =
      ((h, at_base D X (frame_base k t up) _ (frame_base_under t up h)), tt)
  reference_under (Some (Own shape)) t up index h = tt
  reference_under (Some (Closure kinds result)) t up index h = tt
  reference_under None t up index h = tt

  entry_under : (kind : Option Kind) (t up index : ℕ) → t < D → BaseUnder D (entry_site k kind t up index).base
  entry_under (Some (Reference shape)) t up index h = h
  entry_under (Some (Own shape)) t up index h = frame_base_under t up h
  entry_under (Some (Closure kinds result)) t up index h = frame_base_under t up h
  entry_under None t up index h = frame_base_under t up h

  pub name_under : (name : PlaceBase) (t : ℕ) → beside t < D → Under D X (name_code k name t)
  name_under (Entry up index) t h = both D X (frame_code k t up) _ (frame_under t up h)
      (reference_under (kind_at k up index) t up index (omega (arith, h)))
  name_under (Opened which type number) t h = tt

  pub name_site_under : (name : PlaceBase) (t : ℕ) → OpenedUnder D k.opened → t < D → BaseUnder D
      (name_site k name t).base
  name_site_under (Entry up index) t o h = entry_under (kind_at k up index) t up index h
  name_site_under (Opened which type number) t o h = opened_under k D k.opened which
      (field_offset (shape_of type) number) o

  pub place_site_under : (p : Place) (d : ℕ) → OpenedUnder D k.opened → suc d < D → BaseUnder D (place_site k p d).base
  place_site_under (Variable name selectors) d o h =
      let m = kept_most (selectors_call selectors) d in
      let l : kept (selectors_call selectors) d < D = omega (arith, h, m) in
      selectors_under k D selectors (name_site k name (kept (selectors_call selectors) d))
      (kept (selectors_call selectors) d) l (name_site_under name (kept (selectors_call selectors) d) o l)

-- ---- a set against the bounds of a base

module _ (D X : ℕ) where
  joined_under : (t x mask : ℕ) → t + 3 ≤ D → x + 4 ≤ X → x % 4 ≡ 0 → Under D X (joined_word t x mask)
  joined_under t x mask h l q =
      either D X (nat_eq mask 0) [] _ tt (
        omega (arith, h, l, q),
        both D X (masked (beside t) mask) _
            (either D X (nat_eq mask 4294967295) [] _ tt (omega (arith, h))) (omega (arith, h)),
      )

  outside_under : (low high : ℤ) (t x words : ℕ) → t + 3 ≤ D → x + 4 * words ≤ X → x % 4 ≡ 0 → Under D X
      (outside_code low high t x words)
  unfolding outside_code
  outside_under low high t x zero h l q = tt
  outside_under low high t x (suc n) h l q =
      both D X (outside_code low high t x n) _ (outside_under low high t x n h (omega (arith, l)) q)
      (joined_under t (x + 4 * n) (outside_bits low high n) h (omega (arith, l)) (omega (arith, q)))

  pub set_check_under : (t x : ℕ) (low high : ℤ) (line : ℕ) → t + 3 ≤ D → x + 32 ≤ X → x % 4 ≡ 0 → Under D X
      (set_check t x low high line)
  set_check_under t x low high line h l q =
      either D X (holds_all low high) [] _ tt (
        omega (arith, h),
        both D X (outside_code low high t x 8) _
            (outside_under low high t x 8 h (omega (arith, l)) q) (omega (arith, h)),
      )

-- ---- sets: they are in the scratch block

module _ (k : Scope) (D X : ℕ) where
  pub one_under : (m : Option ℕ) (t x : ℕ) (code : List Instruction) → IsMember m → t < D → x + 32 ≤ X → x % 4 ≡ 0
      → Under D X code → Under D X (one_code m t x code)
  one_under None t x code s h l q u = u
  one_under (Some n) t x code s h l q u = ((h, omega (arith, s, l, q)), ((h, h, tt), ((omega (arith, s, l, q), h), tt)))

  pub membership_under : (m u t : ℕ) → m < D → u + 2 < D → t < D → Under D X (membership_code m u t)
  membership_under m u t h l n = omega (arith, h, l, n)

  pub clear_under : (t x : ℕ) → t < D → x + 32 ≤ X → x % 4 ≡ 0 → Under D X (clear_code k t x)
  clear_under t x h l q = omega (arith, h, l, q)

  same_under : (t x : ℕ) → t + 3 ≤ D → x + 64 ≤ X → x % 4 ≡ 0 → Under D X (same_sets_code k t x)
  same_under t x h l q = omega (arith, h, l, q)

  pub sets_under : (relation : SetRelation) (t x : ℕ) → t + 3 ≤ D → x + 64 ≤ X → x % 4 ≡ 0 → Under D X
      (sets_code k relation t x)
  sets_under sets.Included t x h l q = omega (arith, h, l, q)
  sets_under sets.Includes t x h l q = omega (arith, h, l, q)
  sets_under sets.Same t x h l q = same_under t x h l q
  sets_under sets.Other t x h l q = omega (arith, h, l, q)

  pub members_under : (a b x line : ℕ) → a < D → b + 3 ≤ D → x + 32 ≤ X → x % 4 ≡ 0 → Under D X
      (range_members k a b x line)
  members_under a b x line f g l q = omega (arith, f, g, l, q)
