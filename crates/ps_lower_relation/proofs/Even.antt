-- Words of the scratch block are addressed by multiples of 4, and variables are elsewhere: the code of expressions.
use Rattle.std.proofs.Common.{◌≡◌, ℕ, zero, suc, ◌+◌, ◌*◌, ◌/◌, ℤ, Bool, true, false, not, ◌&&◌, nat_eq, if◌then◌else◌}
use Rattle.std.proofs.Common.{List, [], ◌∷◌, ◌++◌, Option, Some, None, slice_get, refl, subst, arith}
use Rattle.ps_tree.specs.declared.tree.operators.Range.{Range}
use Rattle.ps_tree.specs.declared.tree.operators.Range.TheVariants.{Any, Within}
use Rattle.ps_tree.specs.declared.tree.operators.RequiredFunction.{RequiredFunction}
use Rattle.ps_tree.specs.declared.tree.operators.RequiredFunction.TheVariants.{Abs, Sqr, Odd, Ord, Chr, Succ, Pred}
use Rattle.ps_tree.specs.declared.tree.operators.BooleanOperator.{BooleanOperator}
use Rattle.ps_tree.specs.declared.tree.operators.SetRelation.{SetRelation}
use Rattle.ps_tree.specs.declared.tree.operators.SetRelation.TheVariants as sets
use Rattle.ps_tree.specs.Types.{DataType}
use Rattle.ps_tree.specs.Tree.{Place, Variable, PlaceBase, Entry, Opened, Element, Field, Target, Selectors}
use Rattle.ps_tree.specs.Tree.{no_selector, selector_before, ArithmeticSteps, no_arithmetic_step}
use Rattle.ps_tree.specs.Tree.{arithmetic_step_before, Operands, no_operand, operand_before, SetSteps, no_set_step}
use Rattle.ps_tree.specs.Tree.{set_step_before, Expr, Number, Nil, Load, Plus, Minus, Not, Arithmetic, Logic, Compare}
use Rattle.ps_tree.specs.Tree.{ComparePointers, CompareSets, CompareStrings, In, Apply, Eof, Eoln, Call, CallFormal}
use Rattle.ps_tree.specs.Tree.{SetExpr, LoadSet, Constructor, Combine, Member, One, Several, Members, no_member}
use Rattle.ps_tree.specs.Tree.{member_before, Structure, Literal, Contents, Argument, ByValue, BySet, ByCopy}
use Rattle.ps_tree.specs.Tree.{ByVariable, ByRoutine, ByFormal, Arguments, no_argument, argument_before}
use Rattle.tac_code.specs.declared.code.Base.{Base}
use Rattle.tac_code.specs.declared.code.Base.TheVariants as base
use Rattle.tac_code.specs.declared.code.Instruction.{Instruction}
use Rattle.tac_code.specs.declared.code.Instruction.TheVariants as i
use Rattle.ps_meaning.specs.Operators.{is_between}
use Rattle.ps_lower_layout.specs.Shapes.{shape_of, word_count, byte_count, field_offset}
use Rattle.ps_lower_layout.specs.Frames.{Kind, Own, Reference, Closure}
use Rattle.ps_lower_code.specs.Scopes.{even_from, kept, held, beside, moved, least, greatest, is_any, range_code}
use Rattle.ps_lower_code.specs.Scopes.{check_code, has_bytes, fitting_code, operand_check, unless_known, Site, Scope}
use Rattle.ps_lower_code.specs.Scopes.{kind_at, is_outermost, hops, is_far, way_out, frame_code, frame_base, link_code}
use Rattle.ps_lower_code.specs.Scopes.{formal_code}
use Rattle.ps_lower_code.specs.Scopes.{site_code, words_code, copy_code}
use Rattle.ps_lower_code.specs.Calling.{selectors_call, expr_calls, arguments_call}
use Rattle.ps_lower_code.specs.Values.{literal_of, negated, is_relation, is_truth, finish, truth_finish, known_steps}
use Rattle.ps_lower_code.specs.Values.{element_site, selectors_site, is_byte, gives_byte, load_code, store_code}
use Rattle.ps_lower_code.specs.Values.{index_code, function_code, minus_code, argument_end, argument_scratch}
use Rattle.ps_lower_code.specs.Values.{field_site, reference_code, entry_site, name_code, name_site, place_site}
use Rattle.ps_lower_code.specs.Values.{holds_all, outside_bits, joined_word, outside_code, set_check, membership_code}
use Rattle.ps_lower_code.specs.Values.{clear_code, included_code, same_sets_code, sets_code, range_members, place_code}
use Rattle.ps_lower_code.specs.Values.{selectors_code, front_code, steps_code, operands_code, known_member, one_code}
use Rattle.ps_lower_code.specs.Values.{adds, adding_code, asked_code, set_code, set_steps_code, members_code}
use Rattle.ps_lower_code.specs.Values.{member_code, structure_code, argument_code, arguments_code}

-- a multiple of 4
abbrev pub IsEvenly : ℕ → Type 0
IsEvenly x = (m : ℕ) × (x ≡ 4 * m)

abbrev pub NotScratch : Base → Type 0
NotScratch base.Scratch = ⊥
NotScratch _ = Unit {0}

abbrev pub EvenAt : Base → ℕ → Type 0
EvenAt base.Scratch n = IsEvenly n
EvenAt _ n = Unit {0}

-- the instructions that name words of the scratch block
abbrev pub IsEven : Instruction → Type 0
IsEven (i.Offset t b n extent) = EvenAt b n
IsEven (i.Store b n a) = EvenAt b n
IsEven _ = Unit {0}

abbrev pub AreEven : List Instruction → Type 0
AreEven [] = Unit {0}
AreEven (x ∷ rest) = IsEven x × AreEven rest

pub record Even (code : List Instruction) : Type 0 where
  pub all : AreEven code

pub none : Even []
none = record { all = tt }

pub more : {x : Instruction} {rest : List Instruction} → IsEven x → Even rest → Even (x ∷ rest)
more h e = record { all = (h, e.all) }

append : (xs ys : List Instruction) → AreEven xs → AreEven ys → AreEven (xs ++ ys)
append [] ys a b = b
append (x ∷ xs) ys a b = (a.0, append xs ys a.1 b)

pub both : {xs ys : List Instruction} → Even xs → Even ys → Even (xs ++ ys)
both {xs} {ys} a b = record { all = append xs ys a.all b.all }

pub either : {xs ys : List Instruction} (b : Bool) → Even xs → Even ys → Even (if b then xs else ys)
either true x y = x
either false x y = y

pub one_even : (code : List Instruction) (k : ℕ) (x : Instruction) → AreEven code → slice_get code k ≡ Some x → IsEven x
one_even [] k x h e = absurd (cc e)
one_even (y ∷ code) zero x h e = go (same e)
  where
    same : Some y ≡ Some x → y ≡ x
    same q = cc q

    go : y ≡ x → IsEven x
    go q = subst IsEven q h.0
one_even (y ∷ code) (suc k) x h e = one_even code k x h.1 e

pub elsewhere : (b : Base) (n : ℕ) → NotScratch b → EvenAt b n
elsewhere base.Frame n h = tt
elsewhere base.Scratch n h = absurd h
elsewhere base.Program n h = tt
elsewhere (base.Temporary t) n h = tt

pub evenly_more : (x n : ℕ) → IsEvenly x → IsEvenly n → IsEvenly (x + n)
evenly_more x n a b = let e = a.1 in let f = b.1 in (a.0 + b.0, omega (arith, e, f))

pub thirty_two : IsEvenly 32
thirty_two = (8, omega arith)

-- ---- pieces

pub even_moved : (a b : ℕ) → Even (moved a b)
even_moved a b = either (nat_eq a b) none (more tt none)

pub even_range : (t : ℕ) (low high : ℤ) (number line : ℕ) → Even (range_code t low high number line)
even_range t low high number line = either (is_any low high) none (more tt none)

pub even_check : (literal : Option ℤ) (t : ℕ) (low high : ℤ) (number line : ℕ) → Even
    (check_code literal t low high number line)
even_check None t low high number line = even_range t low high number line
even_check (Some z) t low high number line = either (is_between low z high) none (more tt none)

pub even_fitting : (byte : Bool) (literal : Option ℤ) (t : ℕ) (range : Range) (line : ℕ) → Even
    (fitting_code byte literal t range line)
even_fitting byte literal t Any line = none
even_fitting byte literal t (Within low high) line = either (byte && has_bytes low high) none
    (even_check literal t low high 4 line)

pub even_operand_check : (literal : Option ℤ) (t : ℕ) (low high : ℤ) (number line : ℕ) → Even
    (operand_check literal t low high number line)
even_operand_check None t low high number line = even_range t low high number line
even_operand_check (Some z) t low high number line = either (is_between low z high) none (more tt none)

pub even_unless : (literal : Option ℤ) (code : List Instruction) → Even code → Even (unless_known literal code)
even_unless None code h = h
even_unless (Some z) code h = none

even_hops : (k : Scope) (t level up : ℕ) → Even (hops k t level up)
even_hops k t level zero = none
even_hops k t level (suc up) = more tt (even_hops k t (suc level) up)

even_way : (k : Scope) (t up : ℕ) → Even (way_out k t up)
even_way k t up = either (is_far up) (more tt (more tt (more tt (more tt none)))) (even_hops k t 1 up)

even_frame : (k : Scope) (t up : ℕ) → Even (frame_code k t up)
even_frame k t zero = none
even_frame k t (suc up) = either (is_outermost k (suc up)) none (more tt (even_way k t up))

frame_plain : (k : Scope) (t up : ℕ) → NotScratch (frame_base k t up)
frame_plain k t zero = tt
frame_plain k t (suc up) = go (is_outermost k (suc up))
  where
    go : (b : Bool) → NotScratch (if b then base.Program else base.Temporary t)
    go true = tt
    go false = tt

pub even_link : (k : Scope) (t up : ℕ) → Even (link_code k t up)
even_link k t zero = more tt none
even_link k t (suc up) = either (is_outermost k (suc up)) (more tt none) (more tt (even_way k t up))

pub even_formal : (k : Scope) (t up index : ℕ) → Even (formal_code k t up index)
even_formal k t up index = both (even_frame k t up) (more tt (more tt none))

pub even_site : (t : ℕ) (s : Site) (extent : ℕ) → NotScratch s.base → Even (site_code t s extent)
even_site t s extent h = more (elsewhere s.base s.offset h) none

pub even_taken : (x t p v n : ℕ) → IsEvenly x → Even (words_code base.Scratch x (base.Temporary t) p v n)
unfolding words_code
even_taken x t p v zero h = none
even_taken x t p v (suc n) h = more tt (more h (even_taken (x + 4) t (p + 4) v n (evenly_more x 4 h (1, omega arith))))

pub even_kept : (x t p v n : ℕ) → Even (words_code (base.Temporary t) p base.Scratch x v n)
unfolding words_code
even_kept x t p v zero = none
even_kept x t p v (suc n) = more tt (more tt (even_kept (x + 4) t (p + 4) v n))

pub even_copy : (k : Scope) (to from t bytes : ℕ) → Even (copy_code k to from t bytes)
even_copy k to from t bytes = more tt (more tt none)

pub even_load : (b : Bool) (d : ℕ) (s : Site) → Even (load_code b d s)
even_load true d s = more tt none
even_load false d s = more tt none

pub even_store : (b : Bool) (s : Site) (t : ℕ) → NotScratch s.base → Even (store_code b s t)
even_store true s t h = more tt none
even_store false s t h = more (elsewhere s.base s.offset h) none

even_index : (steps : Option ℕ) (type : DataType) (s : Site) (t at line : ℕ) (code : List Instruction) → Even code
    → Even (index_code steps type s t at line code)
even_index (Some n) type s t at line code h = none
even_index None type s t at line code h = both h (more tt none)

even_function : (f : RequiredFunction) (d line : ℕ) → Even (function_code f d line)
even_function Abs d line = more tt (more tt (more tt none))
even_function Sqr d line = more tt none
even_function Odd d line = more tt none
even_function Ord d line = none
even_function Chr d line = more tt none
even_function (Succ high) d line = more tt (even_range d least high 4 line)
even_function (Pred low) d line = more tt (even_range d low greatest 4 line)

even_minus : (z : Option ℤ) (d t line : ℕ) (code : List Instruction) → Even code → Even (minus_code z d t line code)
even_minus (Some z) d t line code h = more tt none
even_minus None d t line code h = both h (more tt (more tt none))

pub even_finish : (e : Expr) (d : ℕ) → Even (finish e d)
even_finish e d = either (is_relation e) (more tt none) none

even_truth : (e : Expr) (d : ℕ) → Even (truth_finish e d)
even_truth e d = either (is_truth e && not (is_relation e)) none (more tt none)

-- ---- sites

abbrev pub ArePlain : List Site → Type 0
ArePlain [] = Unit {0}
ArePlain (s ∷ rest) = NotScratch s.base × ArePlain rest

selectors_plain : (selectors : Selectors) (s : Site) (t : ℕ) → NotScratch s.base → NotScratch
    (selectors_site selectors s t).base
selectors_plain no_selector s t h = h
selectors_plain (selector_before (Element type e line) rest) s t h = selectors_plain rest
    (element_site (known_steps type (literal_of e)) s t) t (go (known_steps type (literal_of e)))
  where
    go : (steps : Option ℕ) → NotScratch (element_site steps s t).base
    go None = tt
    go (Some n) = h
selectors_plain (selector_before (Field type number) rest) s t h = selectors_plain rest (record {
  base = s.base;
  offset = s.offset + field_offset (shape_of type) number;
}) t h
selectors_plain (selector_before (Target pointer line) rest) s t h = selectors_plain rest (record {
  base = base.Temporary t;
  offset = 0;
}) t tt

-- ---- a set against the bounds of a base: nothing is stored

even_joined : (t x mask : ℕ) → Even (joined_word t x mask)
even_joined t x mask = either (nat_eq mask 0) none
    (more tt (both (either (nat_eq mask 4294967295) none (more tt none)) (more tt none)))

even_outside : (low high : ℤ) (t x words : ℕ) → Even (outside_code low high t x words)
unfolding outside_code
even_outside low high t x zero = none
even_outside low high t x (suc q) = both (even_outside low high t x q)
    (even_joined t (x + 4 * q) (outside_bits low high q))

pub even_set_check : (t x : ℕ) (low high : ℤ) (line : ℕ) → Even (set_check t x low high line)
even_set_check t x low high line = either (holds_all low high) none
    (more tt (both (even_outside low high t x 8) (more tt (more tt none))))

module _ (k : Scope) (opened : ArePlain k.opened) where
  name_plain : (name : PlaceBase) (t : ℕ) → NotScratch (name_site k name t).base
  name_plain (Entry up index) t = go (kind_at k up index)
    where
      go : (kind : Option Kind) → NotScratch (entry_site k kind t up index).base
      go None = frame_plain k t up
      go (Some (Own shape)) = frame_plain k t up
      go (Some (Reference shape)) = tt
      go (Some (Closure kinds result)) = frame_plain k t up
  name_plain (Opened which type number) t = go k.opened which opened
    where
      go : (sites : List Site) (which : ℕ) → ArePlain sites → NotScratch
          (field_site k (slice_get sites which) (field_offset (shape_of type) number)).base
      go [] which h = tt
      go (s ∷ rest) zero h = h.0
      go (s ∷ rest) (suc which) h = go rest which h.1

  pub place_plain : (p : Place) (d : ℕ) → NotScratch (place_site k p d).base
  place_plain (Variable name selectors) d = selectors_plain selectors
      (name_site k name (kept (selectors_call selectors) d)) (kept (selectors_call selectors) d)
      (name_plain name (kept (selectors_call selectors) d))

  even_name : (name : PlaceBase) (t : ℕ) → Even (name_code k name t)
  even_name (Entry up index) t = both (even_frame k t up) (go (kind_at k up index))
    where
      go : (kind : Option Kind) → Even (reference_code k kind t up index)
      go None = none
      go (Some (Own shape)) = none
      go (Some (Reference shape)) = more tt none
      go (Some (Closure kinds result)) = none
  even_name (Opened which type number) t = none

  -- ---- sets, from a multiple of 4 on

  even_one : (m : Option ℕ) (t x : ℕ) (code : List Instruction) → IsEvenly x → Even code → Even (one_code m t x code)
  even_one None t x code h c = c
  even_one (Some n) t x code h c = more tt (more tt (more (evenly_more x (4 * (n / 32)) h (n / 32, refl)) none))

  even_membership : (m u t : ℕ) → Even (membership_code m u t)
  even_membership m u t = more tt (more tt (more tt
      (more tt (more tt (more tt (more tt (more tt (more tt (more tt (more tt none))))))))))

  even_clear : (t x : ℕ) → IsEvenly x → Even (clear_code k t x)
  even_clear t x h =
      more tt (more h (more (evenly_more x 4 h (1, omega arith))
      (more (evenly_more x 8 h (2, omega arith)) (more (evenly_more x 12 h (3, omega arith))
      (more (evenly_more x 16 h (4, omega arith))
      (more (evenly_more x 20 h (5, omega arith))
      (more (evenly_more x 24 h (6, omega arith)) (more (evenly_more x 28 h (7, omega arith)) none))))))))

  even_included : (a b t x : ℕ) → IsEvenly x → Even (included_code k a b t x)
  even_included a b t x h = more h (more (evenly_more x 32 h thirty_two) (more tt none))

  even_same_sets : (t x : ℕ) → IsEvenly x → Even (same_sets_code k t x)
  even_same_sets t x h = both (even_included t (beside t) (suc t) x h)
      (more h (more (evenly_more x 32 h thirty_two) (more tt (more tt none))))

  even_sets : (r : SetRelation) (t x : ℕ) → IsEvenly x → Even (sets_code k r t x)
  even_sets sets.Included t x h = even_included t (beside t) t x h
  even_sets sets.Includes t x h = more h (more (evenly_more x 32 h thirty_two) (more tt none))
  even_sets sets.Same t x h = even_same_sets t x h
  even_sets sets.Other t x h = both (even_same_sets t x h) (more tt none)

  even_members_range : (a b x line : ℕ) → IsEvenly x → Even (range_members k a b x line)
  even_members_range a b x line h = more tt (more tt (more tt (more h (more tt none))))

  -- ---- all of it

  mutual
    pub even_place : (p : Place) (d x : ℕ) → IsEvenly x → Even (place_code k p d x)
    even_place (Variable name selectors) d x h =
        let t = kept (selectors_call selectors) d in
        both (even_name name t) (even_selectors selectors (name_site k name t) t x h)

    even_selectors : (selectors : Selectors) (s : Site) (t x : ℕ) → IsEvenly x → Even (selectors_code k selectors s t x)
    even_selectors no_selector s t x h = none
    even_selectors (selector_before (Element type e line) rest) s t x h =
        let u = even_from (suc t) in
        both (even_index (known_steps type (literal_of e)) type s t u line (front_code k e u x ++ finish e u)
        (both (even_front e u x h) (even_finish e u)))
        (even_selectors rest (element_site (known_steps type (literal_of e)) s t) t x h)
    even_selectors (selector_before (Field type number) rest) s t x h = even_selectors rest (record {
      base = s.base;
      offset = s.offset + field_offset (shape_of type) number;
    }) t x h
    even_selectors (selector_before (Target pointer line) rest) s t x h = more tt
        (more tt (even_selectors rest (record {
          base = base.Temporary t;
          offset = 0;
        }) t x h))

    pub even_front : (e : Expr) (d x : ℕ) → IsEvenly x → Even (front_code k e d x)
    even_front (Number n) d x h = more tt none
    even_front Nil d x h = more tt none
    even_front (Load p) d x h = both (even_place p d x h) (even_load (is_byte p) d (place_site k p d))
    even_front (Plus e) d x h = both (even_front e d x h) (even_finish e d)
    even_front (Minus e line) d x h = let t = even_from (suc d) in even_minus (negated e) d t line
        (front_code k e t x ++ finish e t) (both (even_front e t x h) (even_finish e t))
    even_front (Not e) d x h = even_front e d x h
    even_front (Arithmetic e steps) d x h = both
        (both (both (even_front e _ x h) (even_finish e _)) (even_steps steps _ x h)) (even_moved _ d)
    even_front (Logic operator e rest) d x h = both
        (both (both (even_front e _ x h) (even_truth e _)) (even_operands operator rest _ x h)) (even_moved _ d)
    even_front (Compare relation a b) d x h =
        let t = even_from (suc (kept (expr_calls b) d)) in
        both (both (even_front a _ x h) (even_finish a _))
        (even_unless (literal_of b) (front_code k b t x ++ finish b t)
        (both (even_front b t x h) (even_finish b t)))
    even_front (ComparePointers relation a b) d x h =
        let t = even_from (suc (kept (expr_calls b) d)) in
        both (both (even_front a _ x h) (even_finish a _))
        (even_unless (literal_of b) (front_code k b t x ++ finish b t)
        (both (even_front b t x h) (even_finish b t)))
    even_front (CompareSets relation a b) d x h =
        both (both (both (even_set a (even_from d) x h)
        (even_set b (even_from d) (x + 32) (evenly_more x 32 h thirty_two))) (even_sets relation (even_from d) x h))
        (even_moved (even_from d) d)
    even_front (CompareStrings relation a b) d x h = both (both (even_structure a _ x h) (even_structure b _ x h))
        (more tt (more tt none))
    even_front (In a b) d x h = both (both (both (even_front a _ x h) (even_finish a _)) (even_asked b _ x h))
        (even_membership _ _ d)
    even_front (Apply f e line) d x h = both (both (even_front e d x h) (even_finish e d)) (even_function f d line)
    even_front Eof d x h = more tt (more tt none)
    even_front (Eoln line) d x h = more tt (more tt (more tt none))
    even_front (Call r up arguments line) d x h = both (both (even_arguments arguments d x h) (even_link k _ up))
        (more tt none)
    even_front (CallFormal up index arguments line) d x h = both
        (both (even_arguments arguments d x h) (even_formal k _ up index)) (more tt none)

    even_steps : (steps : ArithmeticSteps) (a x : ℕ) → IsEvenly x → Even (steps_code k steps a x)
    even_steps no_arithmetic_step a x h = none
    even_steps (arithmetic_step_before operator e line rest) a x h =
        let t = even_from (suc a) in
        both (even_unless (literal_of e) (front_code k e t x ++ finish e t)
        (both (even_front e t x h) (even_finish e t))) (more tt (even_steps rest a x h))

    even_operands : (operator : BooleanOperator) (rest : Operands) (a x : ℕ) → IsEvenly x → Even
        (operands_code k operator rest a x)
    even_operands operator no_operand a x h = none
    even_operands operator (operand_before e rest) a x h = both (both (even_front e _ x h) (even_truth e _))
        (more tt (even_operands operator rest a x h))

    even_asked : (e : SetExpr) (t x : ℕ) → IsEvenly x → Even (asked_code k e t x)
    even_asked (LoadSet p) t x h = both (even_place p t x h) (even_site t (place_site k p t) 32 (place_plain p t))
    even_asked (Constructor members) t x h = both (both (even_clear (even_from t) x h) (even_members members t x h))
        (more h none)
    even_asked (Combine e steps) t x h = both (both (even_set e t x h) (even_set_steps steps t x h)) (more h none)

    pub even_set : (e : SetExpr) (d x : ℕ) → IsEvenly x → Even (set_code k e d x)
    even_set (LoadSet p) d x h = both (both (even_place p d x h) (even_site _ (place_site k p d) 32 (place_plain p d)))
        (even_taken x (even_from (suc d)) 0 (beside (even_from (suc d))) 8 h)
    even_set (Constructor members) d x h = both (even_clear (even_from d) x h) (even_members members d x h)
    even_set (Combine e steps) d x h = both (even_set e d x h) (even_set_steps steps d x h)

    even_set_steps : (steps : SetSteps) (d x : ℕ) → IsEvenly x → Even (set_steps_code k steps d x)
    even_set_steps no_set_step d x h = none
    even_set_steps (set_step_before operator e rest) d x h =
        let u = beside (even_from d) in
        both (either (adds operator e) (even_adding e d x h)
        (both (even_asked e u (x + 32) (evenly_more x 32 h thirty_two)) (more h (more tt none))))
        (even_set_steps rest d x h)

    even_adding : (e : SetExpr) (d x : ℕ) → IsEvenly x → Even (adding_code k e d x)
    even_adding (LoadSet p) d x h = none
    even_adding (Constructor members) d x h = even_members members d x h
    even_adding (Combine e steps) d x h = none

    even_members : (members : Members) (d x : ℕ) → IsEvenly x → Even (members_code k members d x)
    even_members no_member d x h = none
    even_members (member_before m rest) d x h = both (even_member m d x h) (even_members rest d x h)

    even_member : (m : Member) (d x : ℕ) → IsEvenly x → Even (member_code k m d x)
    even_member (One e line) d x h = even_one (known_member (literal_of e)) (even_from d) x _ h
        (both (both (even_front e _ (x + 32) (evenly_more x 32 h thirty_two)) (even_finish e _))
        (more tt (more h (more tt none))))
    even_member (Several a b line) d x h =
        both (both (both (even_front a _ (x + 32) (evenly_more x 32 h thirty_two)) (even_finish a _))
        (both (even_front b _ (x + 32) (evenly_more x 32 h thirty_two)) (even_finish b _)))
        (even_members_range _ _ x line h)

    pub even_structure : (e : Structure) (d x : ℕ) → IsEvenly x → Even (structure_code k e d x)
    even_structure (Literal characters) d x h = more tt none
    even_structure (Contents p type) d x h = both (even_place p d x h)
        (even_site d (place_site k p d) (byte_count (shape_of type)) (place_plain p d))

    even_argument : (a : Argument) (t x : ℕ) → IsEvenly x → Even (argument_code k a t x)
    even_argument (ByValue e range line) t x h = both (both (even_front e t x h) (even_finish e t))
        (even_fitting (gives_byte e) (literal_of e) t range line)
    even_argument (BySet e low high line) t x h = both
        (both (even_set e t x h) (even_set_check (even_from t) x low high line)) (more h none)
    even_argument (ByCopy e type) t x h = both
        (both (even_structure e t x h) (more h (even_copy k _ _ _ (byte_count (shape_of type))))) (more h none)
    even_argument (ByVariable p) t x h = both (even_place p t x h) (even_site t (place_site k p t) 0 (place_plain p t))
    even_argument (ByRoutine r up) t x h = more tt (even_link k _ up)
    even_argument (ByFormal up index) t x h = even_formal k t up index

    pub even_arguments : (arguments : Arguments) (d x : ℕ) → IsEvenly x → Even (arguments_code k arguments d x)
    even_arguments no_argument d x h = none
    even_arguments (argument_before a rest) d x h =
        let t = held (arguments_call rest) d in
        both (even_argument a t x h) (even_arguments rest (argument_end a t) (x + argument_scratch a)
        (evenly_more x (argument_scratch a) h (wide a)))
      where
        wide : (a : Argument) → IsEvenly (argument_scratch a)
        wide (ByValue e range line) = (0, omega arith)
        wide (BySet e low high line) = thirty_two
        wide (ByCopy e type) = (word_count (shape_of type), refl)
        wide (ByVariable p) = (0, omega arith)
        wide (ByRoutine r up) = (0, omega arith)
        wide (ByFormal up index) = (0, omega arith)

  pub even_expr : (e : Expr) (d x : ℕ) → IsEvenly x → Even (front_code k e d x ++ finish e d)
  even_expr e d x h = both (even_front e d x h) (even_finish e d)
