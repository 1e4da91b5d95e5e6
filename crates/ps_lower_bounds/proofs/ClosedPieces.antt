-- The pieces that all constructs share are closed.
use Rattle.std.proofs.Common.{◌≡◌, ℕ, zero, suc, ◌+◌, ◌-◌, ◌*◌, ◌<◌, ◌%◌, ◌^◌, Bool, true, false, not, ◌&&◌, nat_eq}
use Rattle.std.proofs.Common.{nat_le, nat_lt, if◌then◌else◌, List, [], ◌∷◌, length, ℤ, pos, negsuc, ◌-ℤ◌, Option, Some}
use Rattle.std.proofs.Common.{None, refl, arith, leb-true, ltb-true, ltb-false}
use Rattle.std.proofs.Math.Pow.{pow-lt}
use Rattle.std.proofs.lemmas.Bool.{and_parts}
use Rattle.ps_tree.specs.declared.tree.operators.Range.{Range}
use Rattle.ps_tree.specs.declared.tree.operators.Range.TheVariants.{Any, Within}
use Rattle.ps_tree.specs.declared.tree.operators.SetRelation.{SetRelation}
use Rattle.ps_tree.specs.declared.tree.operators.SetRelation.TheVariants as sets
use Rattle.ps_tree.specs.declared.tree.operators.RequiredFunction.{RequiredFunction}
use Rattle.ps_tree.specs.declared.tree.operators.RequiredFunction.TheVariants.{Abs, Sqr, Odd, Ord, Chr, Succ, Pred}
use Rattle.ps_tree.specs.Types.{DataType}
use Rattle.ps_tree.specs.Tree.{PlaceBase, Entry, Opened, Expr, Number, Nil, Minus, Not, Compare, ComparePointers, Eoln}
use Rattle.ps_meaning.specs.Operators.{is_between}
use Rattle.ps_meaning.specs.Expressions.{index_of}
use Rattle.tac_code.specs.declared.code.Base.{Base}
use Rattle.tac_code.specs.declared.code.Base.TheVariants as base
use Rattle.tac_code.specs.declared.code.Instruction.{Instruction}
use Rattle.tac_code.specs.declared.code.Instruction.TheVariants as i
use Rattle.tac_code.specs.Sound.{IsErrorNumber, IsTestNumber, IsLine}
use Rattle.tac_code.specs.Numbers.{number_of}
use Rattle.tac_code.specs.declared.code.TheConstants.{NUMBER_LIMIT}
use Rattle.ps_lower_layout.specs.Words.{filled}
use Rattle.ps_lower_layout.specs.Frames.{Kind, Own, Reference, Closure}
use Rattle.ps_lower_code.specs.Fits.{FunctionFits, ExprFits}
use Rattle.ps_lower_code.specs.Scopes.{beside, moved, least, greatest, range_code, is_any, check_code, has_bytes}
use Rattle.ps_lower_code.specs.Scopes.{fitting_code, operand_check, operand_of, Site, Scope, kind_at, is_outermost}
use Rattle.ps_lower_code.specs.Scopes.{hops, hops_in_turns, is_far, way_out, frame_code, link_code, formal_code}
use Rattle.ps_lower_code.specs.Scopes.{words_code}
use Rattle.ps_lower_code.specs.Values.{negated, literal_of, is_relation, is_truth, right_in, relation_code, finish}
use Rattle.ps_lower_code.specs.Values.{truth_finish, load_code, store_code, index_code, function_code, minus_code}
use Rattle.ps_lower_code.specs.Values.{reference_code, name_code, holds_all, outside_bits, masked, joined_word}
use Rattle.ps_lower_code.specs.Values.{outside_code, set_check, one_code, membership_code, clear_code, same_sets_code}
use Rattle.ps_lower_code.specs.Values.{sets_code, range_members}
use Rattle.ps_lower_code.proofs.Masks.{outside_small}
use Rattle.ps_lower_layout.specs.Shapes.{Shape}
use Rattle.ps_lower_layout.specs.Paths.{Sort}
use Rattle.ps_lower_bounds.proofs.Few.{IsRange, HasBounds}
use Rattle.ps_lower_bounds.proofs.Closed.{IsInt, to_int, IsNumber, Closed, anywhere, both, either}

-- ---- numbers

between_int : (z : ℤ) → is_between least z greatest ≡ true → IsInt z
between_int (pos n) e = let l = leb-true n (NUMBER_LIMIT - 1) e in omega (arith, l)
between_int (negsuc n) e = let l = leb-true n (NUMBER_LIMIT - 1) (and_parts (nat_le n (NUMBER_LIMIT - 1)) true e).0
    in omega (arith, l)

abbrev pub IsKnown : Option ℤ → Type 0
IsKnown None = Unit {0}
IsKnown (Some z) = IsInt z

number_int : (n : ℕ) → n < 2 ^ 32 → IsInt (number_of n)
number_int n l = go (nat_lt n NUMBER_LIMIT) refl
  where
    go : (b : Bool) → nat_lt n NUMBER_LIMIT ≡ b → IsInt (if b then pos n else negsuc (2 ^ 32 - suc n))
    go true e = ltb-true n NUMBER_LIMIT e
    go false e = let m = ltb-false n NUMBER_LIMIT e in omega (arith, l, m)

pub negated_known : (e : Expr) → IsKnown (negated e)
negated_known (Number n) = go (is_between least (pos 0 -ℤ n) greatest) refl
  where
    go : (b : Bool) → is_between least (pos 0 -ℤ n) greatest ≡ b → IsKnown (if b then Some (pos 0 -ℤ n) else None)
    go true e = between_int (pos 0 -ℤ n) e
    go false e = tt
negated_known _ = tt

pub filled_whole : (bytes : List ℕ) → length (filled bytes) % 4 ≡ 0
filled_whole [] = omega arith
filled_whole (a ∷ []) = omega arith
filled_whole (a ∷ b ∷ []) = omega arith
filled_whole (a ∷ b ∷ c ∷ []) = omega arith
filled_whole (a ∷ b ∷ c ∷ d ∷ rest) = let e = filled_whole rest in omega (arith, e)

module _ (k : Scope) (os : List Shape) where
  pub literal_known : (e : Expr) (sort : Sort) → ExprFits k os e sort → IsKnown (literal_of e)
  literal_known (Number n) sort f = to_int n f.1
  literal_known Nil sort f = omega arith
  literal_known (Minus e line) sort f = negated_known e
  literal_known _ sort f = tt

module _ (R T : ℕ) where
  pub operand_number : (z : Option ℤ) (t : ℕ) → IsKnown z → IsNumber (operand_of z t)
  operand_number None t f = tt
  operand_number (Some z) t f = f

  -- ---- tests of ranges

  pub moved_closed : (from to : ℕ) → Closed R T 0 0 (moved from to)
  moved_closed a b = either R T (nat_eq a b) [] (i.Copy b a ∷ []) tt (tt, tt, tt)

  pub range_closed : (t : ℕ) (low high : ℤ) (number line : ℕ) → IsInt low → IsInt high → IsTestNumber number
      → IsLine line → Closed R T 0 0 (range_code t low high number line)
  range_closed t l h n line p q e w = either R T (is_any l h) [] (i.CheckRange t l h n line ∷ []) tt
      ((p, q, e, w), tt, tt)

  pub check_closed : (z : Option ℤ) (t : ℕ) (low high : ℤ) (number line : ℕ) → IsInt low → IsInt high
      → IsTestNumber number → IsLine line → Closed R T 0 0 (check_code z t low high number line)
  check_closed None t l h n line p q e w = range_closed t l h n line p q e w
  check_closed (Some z) t l h n line p q e w = either R T (is_between l z h) [] (i.CheckRange t l h n line ∷ []) tt
      ((p, q, e, w), tt, tt)

  pub fitting_closed : (b : Bool) (z : Option ℤ) (t : ℕ) (range : Range) (line : ℕ) → IsRange range → IsLine line
      → Closed R T 0 0 (fitting_code b z t range line)
  fitting_closed b z t Any line r w = tt
  fitting_closed b z t (Within l h) line r w = either R T (b && has_bytes l h) [] (check_code z t l h 4 line) tt
      (check_closed z t l h 4 line (to_int l r.0) (to_int h r.1) (omega arith) w)

  pub operand_check_closed : (z : Option ℤ) (t : ℕ) (low high : ℤ) (number line : ℕ) → IsInt low → IsInt high
      → IsErrorNumber number → IsLine line → Closed R T 0 0 (operand_check z t low high number line)
  operand_check_closed None t l h n line p q e w = range_closed t l h n line p q e.1 w
  operand_check_closed (Some z) t l h n line p q e w = either R T (is_between l z h) [] (i.Trap n line ∷ []) tt
      ((e, w), tt, tt)

  -- ---- expressions as conditions

  pub function_closed : (f : RequiredFunction) (d line : ℕ) → FunctionFits f → IsLine line → Closed R T 0 0
      (function_code f d line)
  function_closed Abs d line f w = omega (arith, w)
  function_closed Sqr d line f w = omega (arith, w)
  function_closed Odd d line f w = omega (arith, w)
  function_closed Ord d line f w = tt
  function_closed Chr d line f w = omega (arith, w)
  function_closed (Succ high) d line f w = (
    omega (arith, w),
    tt,
    anywhere R T (range_code d least high 4 line) 1 0
        (range_closed d least high 4 line (omega arith) (to_int high f) (omega arith) w),
  )
  function_closed (Pred low) d line f w = (
    omega (arith, w),
    tt,
    anywhere R T (range_code d low greatest 4 line) 1 0
        (range_closed d low greatest 4 line (to_int low f) (omega arith) (omega arith) w),
  )

  pub minus_closed : (z : Option ℤ) (d t line : ℕ) (code : List Instruction) → IsKnown z → IsLine line
      → Closed R T 0 0 code → Closed R T 0 0 (minus_code z d t line code)
  minus_closed (Some z) d t line code k w c = (k, tt, tt)
  minus_closed None d t line code k w c = both R T code _ c (omega (arith, w))

  -- ---- where a variable is

  pub load_closed : (b : Bool) (d : ℕ) (s : Site) → Closed R T 0 0 (load_code b d s)
  load_closed true d s = (tt, tt, tt)
  load_closed false d s = (tt, tt, tt)

  pub store_closed : (b : Bool) (s : Site) (t : ℕ) → Closed R T 0 0 (store_code b s t)
  store_closed true s t = (tt, tt, tt)
  store_closed false s t = (tt, tt, tt)

  pub index_closed : (n : Option ℕ) (type : DataType) (s : Site) (t at line : ℕ) (code : List Instruction)
      → HasBounds type → IsLine line → Closed R T 0 0 code → Closed R T 0 0 (index_code n type s t at line code)
  index_closed (Some n) type s t at line code h w c = tt
  index_closed None type s t at line code h w c = both R T code _ c
      ((to_int (index_of type).low h.0, to_int (index_of type).high h.1, omega arith, w), tt, tt)

module _ (R T : ℕ) (k : Scope) where
  hops_closed : (t level up b : ℕ) → Closed R T b 0 (hops k t level up)
  hops_closed t level zero b = tt
  hops_closed t level (suc up) b = (tt, tt, hops_closed t (suc level) up (suc b))

  way_closed : (t up b : ℕ) → Closed R T b 0 (way_out k t up)
  way_closed t up b = go (is_far up) refl
    where
      go : (q : Bool) → is_far up ≡ q → Closed R T b 0 (if q then hops_in_turns k t up else hops k t 1 up)
      go true q =
          let l = ltb-true up 16 (and_parts (nat_lt 4 up) (nat_lt up 16) q).1 in
          (omega (arith, l), tt, (tt, tt, (omega arith, tt, (omega arith, omega arith, tt))))
      go false q = hops_closed t 1 up b

  pub frame_closed : (t up : ℕ) → Closed R T 0 0 (frame_code k t up)
  frame_closed t zero = tt
  frame_closed t (suc up) = either R T (is_outermost k (suc up)) [] _ tt (tt, tt, way_closed t up 1)

  pub link_closed : (t up : ℕ) → Closed R T 0 0 (link_code k t up)
  link_closed t zero = (tt, tt, tt)
  link_closed t (suc up) = either R T (is_outermost k (suc up)) (i.Offset t base.Program 0 0 ∷ []) _ (tt, tt, tt)
      (tt, tt, way_closed t up 1)

  pub formal_closed : (t up index : ℕ) → Closed R T 0 0 (formal_code k t up index)
  formal_closed t up index = both R T (frame_code k t up) _ (frame_closed t up) (tt, tt, (tt, tt, tt))

  reference_closed : (kind : Option Kind) (t up index : ℕ) → Closed R T 0 0 (reference_code k kind t up index)
  reference_closed (Some (Reference shape)) t up index = (tt, tt, tt)
  reference_closed (Some (Own shape)) t up index = tt
  reference_closed (Some (Closure kinds result)) t up index = tt
  reference_closed None t up index = tt

  pub name_closed : (name : PlaceBase) (t : ℕ) → Closed R T 0 0 (name_code k name t)
  name_closed (Entry up index) t = both R T (frame_code k t up) _ (frame_closed t up)
      (reference_closed (kind_at k up index) t up index)
  name_closed (Opened which type number) t = tt

-- ---- a set against the bounds of a base

module _ (R T : ℕ) where
  joined_closed : (t x mask : ℕ) → mask < 2 ^ 32 → Closed R T 0 0 (joined_word t x mask)
  joined_closed t x mask l =
      either R T (nat_eq mask 0) [] _ tt
      (both R T (i.Load (beside t) base.Scratch x ∷ masked (beside t) mask) _
      (both R T (i.Load (beside t) base.Scratch x ∷ []) _ (tt, tt, tt)
      (either R T (nat_eq mask 4294967295) [] _ tt (number_int mask l, tt, tt))) (tt, tt, tt))

  outside_closed : (low high : ℤ) (t x words : ℕ) → Closed R T 0 0 (outside_code low high t x words)
  unfolding outside_code
  outside_closed low high t x zero = tt
  outside_closed low high t x (suc q) = both R T (outside_code low high t x q) _ (outside_closed low high t x q)
      (joined_closed t (x + 4 * q) (outside_bits low high q) (outside_small low high q))

  pub set_check_closed : (t x : ℕ) (low high : ℤ) (line : ℕ) → IsLine line → Closed R T 0 0
      (set_check t x low high line)
  set_check_closed t x low high line w =
      either R T (holds_all low high) [] _ tt
      (both R T (i.Literal t (pos 0) ∷ outside_code low high t x 8) _
      (both R T (i.Literal t (pos 0) ∷ []) _ (omega arith, tt, tt) (outside_closed low high t x 8))
      (omega arith, omega arith, (omega (arith, w), tt, tt)))

-- ---- sets

module _ (R T : ℕ) where
  pub words_closed : (to : Base) (o : ℕ) (from : Base) (p v n b : ℕ) → Closed R T b 0 (words_code to o from p v n)
  unfolding words_code
  words_closed to o from p v zero b = tt
  words_closed to o from p v (suc n) b = (tt, tt, (tt, tt, words_closed to (o + 4) from (p + 4) v n (suc (suc b))))

  bit_number : (n : ℕ) → IsInt (number_of (2 ^ (n % 32)))
  bit_number n = let l : n % 32 < 32 = omega arith in let e = pow-lt l in number_int (2 ^ (n % 32)) (omega (arith, e))

  pub one_closed : (m : Option ℕ) (t x : ℕ) (code : List Instruction) → Closed R T 0 0 code → Closed R T 0 0
      (one_code m t x code)
  one_closed None t x code c = c
  one_closed (Some n) t x code c = (tt, tt, (bit_number n, tt, (tt, tt, tt)))

  pub membership_closed : (m u t : ℕ) → Closed R T 0 0 (membership_code m u t)
  membership_closed m u t = omega arith

module _ (R T : ℕ) (k : Scope) (h : length k.program.routines ≡ R) where
  pub clear_closed : (t x : ℕ) → Closed R T 0 0 (clear_code k t x)
  clear_closed t x = omega arith

  same_closed : (t x : ℕ) → Closed R T 0 0 (same_sets_code k t x)
  same_closed t x = omega (arith, h)

  pub sets_closed : (relation : SetRelation) (t x : ℕ) → Closed R T 0 0 (sets_code k relation t x)
  sets_closed sets.Included t x = omega (arith, h)
  sets_closed sets.Includes t x = omega (arith, h)
  sets_closed sets.Same t x = same_closed t x
  sets_closed sets.Other t x = omega (arith, h)

  pub members_closed : (a b x line : ℕ) → IsLine line → Closed R T 0 0 (range_members k a b x line)
  members_closed a b x line w = omega (arith, h, w)

-- ---- expressions as conditions

module _ (R T : ℕ) (k : Scope) (os : List Shape) where
  pub right_number : (e : Expr) (sort : Sort) (d : ℕ) → ExprFits k os e sort → IsNumber (right_in e d)
  right_number (Compare relation a b) sort d f = operand_number R T (literal_of b) _ (literal_known k os b _ f.2)
  right_number (ComparePointers relation a b) sort d f = operand_number R T (literal_of b) _
      (literal_known k os b _ f.1.2)
  right_number (Not e) sort d f = right_number e _ d f.1
  right_number (Eoln line) sort d f = omega arith
  right_number _ sort d f = omega arith

  pub finish_closed : (e : Expr) (sort : Sort) (d : ℕ) → ExprFits k os e sort → Closed R T 0 0 (finish e d)
  finish_closed e sort d f = either R T (is_relation e) (relation_code e d) [] (right_number e _ d f, tt, tt) tt

  pub truth_closed : (e : Expr) (sort : Sort) (d : ℕ) → ExprFits k os e sort → Closed R T 0 0 (truth_finish e d)
  truth_closed e sort d f = either R T (is_truth e && not (is_relation e)) [] (relation_code e d) tt
      (right_number e _ d f, tt, tt)
