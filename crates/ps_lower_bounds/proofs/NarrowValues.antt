-- The code of variables, expressions and actual parameters has small offsets, and their variables are within their
-- blocks.
use Rattle.std.proofs.Common.{if◌then◌else◌, ℕ, zero, suc, ◌+◌, ◌*◌, ◌≤◌, ℤ, Bool, not, ◌&&◌, nat_eq, List, [], ◌∷◌}
use Rattle.std.proofs.Common.{◌++◌, Option, Some, None, sym, subst, arith}
use Rattle.ps_tree.specs.declared.tree.operators.BooleanOperator.{BooleanOperator}
use Rattle.ps_tree.specs.declared.tree.operators.RequiredFunction.{RequiredFunction}
use Rattle.ps_tree.specs.declared.tree.operators.RequiredFunction.TheVariants.{Abs, Sqr, Odd, Ord, Chr, Succ, Pred}
use Rattle.ps_tree.specs.declared.tree.operators.Range.{Range}
use Rattle.ps_tree.specs.declared.tree.operators.Range.TheVariants.{Any, Within}
use Rattle.ps_tree.specs.declared.tree.operators.SetRelation.{SetRelation}
use Rattle.ps_tree.specs.declared.tree.operators.SetRelation.TheVariants as sets
use Rattle.ps_tree.specs.Tree.{Place, Variable, Element, Field, Target, Selectors, no_selector, selector_before}
use Rattle.ps_tree.specs.Tree.{ArithmeticSteps, no_arithmetic_step, arithmetic_step_before, Operands, no_operand}
use Rattle.ps_tree.specs.Tree.{operand_before, SetSteps, no_set_step, set_step_before, Expr, Number, Nil, Load, Plus}
use Rattle.ps_tree.specs.Tree.{Minus, Not, Arithmetic, Logic, Compare, ComparePointers, CompareSets, CompareStrings}
use Rattle.ps_tree.specs.Tree.{In, Apply, Eof, Eoln, Call, CallFormal, SetExpr, LoadSet, Constructor, Combine, Member}
use Rattle.ps_tree.specs.Tree.{One, Several, Members, no_member, member_before, Structure, Literal, Contents, Argument}
use Rattle.ps_tree.specs.Tree.{ByValue, BySet, ByCopy, ByVariable, ByRoutine, ByFormal, Arguments, no_argument}
use Rattle.ps_tree.specs.Tree.{argument_before, domain_at}
use Rattle.ps_meaning.specs.Operators.{is_between}
use Rattle.tac_code.specs.declared.code.Base.TheVariants as base
use Rattle.tac_code.specs.declared.code.Instruction.{Instruction}
use Rattle.tac_code.specs.declared.code.Instruction.TheVariants as i
use Rattle.ps_lower_layout.specs.Shapes.{Shape, shape_of, byte_count, field_offset, Part, Whole, component_part}
use Rattle.ps_lower_code.specs.Scopes.{even_from, held, kept, beside, moved, least, greatest, is_any, range_code}
use Rattle.ps_lower_code.specs.Scopes.{check_code, has_bytes, fitting_code, operand_check, unless_known, Site, Scope}
use Rattle.ps_lower_code.specs.Calling.{selectors_call, expr_calls, steps_call, operands_call, asked_calls}
use Rattle.ps_lower_code.specs.Calling.{structure_calls, arguments_call}
use Rattle.ps_lower_code.specs.Values.{literal_of, negated, is_relation, is_truth, relation_code, finish, truth_finish}
use Rattle.ps_lower_code.specs.Values.{known_steps, element_site, selectors_site, is_byte, gives_byte, index_code}
use Rattle.ps_lower_code.specs.Values.{function_code, minus_code, argument_end, argument_scratch, arguments_end}
use Rattle.ps_lower_code.specs.Values.{name_code, name_site, place_site, holds_all, outside_bits, masked, joined_word}
use Rattle.ps_lower_code.specs.Values.{outside_code, set_check, membership_code, clear_code, sets_code, range_members}
use Rattle.ps_lower_code.specs.Values.{place_code, selectors_code, front_code, steps_code, operands_code, known_member}
use Rattle.ps_lower_code.specs.Values.{one_code, adds, joining_code, adding_code, asked_code, set_code, set_steps_code}
use Rattle.ps_lower_code.specs.Values.{members_code, member_code, structure_code, argument_code, arguments_code}
use Rattle.ps_lower_code.specs.Fits.{PlaceFits, SelectorsFit, ExprFits, StepsFit, OperandsFit, SetFits, SetStepsFit}
use Rattle.ps_lower_code.specs.Fits.{MemberFits, MembersFit, ContentsFit, ArgumentFits, ArgumentsFit}
use Rattle.ps_lower_layout.specs.Shapes.{SetShape}
use Rattle.ps_lower_layout.specs.Paths.{Sort}
use Rattle.ps_lower_layout.specs.Frames.{Kind, Kinds}
use Rattle.ps_lower_bounds.proofs.Few.{components_there, contents_of}
use Rattle.ps_lower_bounds.proofs.Narrow.{Narrow, at_narrow, both, three, four, either, unknown, part_bytes}
use Rattle.ps_lower_bounds.proofs.Narrow.{component_most, field_part_in, known_in, Reach, SitesReach, element_reach}
use Rattle.ps_lower_bounds.proofs.Narrow.{load_narrow, site_narrow, index_narrow, Framed, link_narrow, formal_narrow}
use Rattle.ps_lower_bounds.proofs.Narrow.{name_narrow, name_reach, taken_narrow}

-- ---- pieces without offsets

pub range_narrow : (t : ℕ) (low high : ℤ) (number line : ℕ) → Narrow (range_code t low high number line)
range_narrow t l h n line = either (is_any l h) [] (i.CheckRange t l h n line ∷ []) tt (tt, tt)

pub check_narrow : (z : Option ℤ) (t : ℕ) (low high : ℤ) (number line : ℕ) → Narrow
    (check_code z t low high number line)
check_narrow None t l h n line = range_narrow t l h n line
check_narrow (Some z) t l h n line = either (is_between l z h) [] (i.CheckRange t l h n line ∷ []) tt (tt, tt)

pub fitting_narrow : (b : Bool) (z : Option ℤ) (t : ℕ) (range : Range) (line : ℕ) → Narrow
    (fitting_code b z t range line)
fitting_narrow b z t Any line = tt
fitting_narrow b z t (Within l h) line = either (b && has_bytes l h) [] (check_code z t l h 4 line) tt
    (check_narrow z t l h 4 line)

pub operand_check_narrow : (z : Option ℤ) (t : ℕ) (low high : ℤ) (number line : ℕ) → Narrow
    (operand_check z t low high number line)
operand_check_narrow None t l h n line = range_narrow t l h n line
operand_check_narrow (Some z) t l h n line = either (is_between l z h) [] (i.Trap n line ∷ []) tt (tt, tt)

moved_narrow : (from to : ℕ) → Narrow (moved from to)
moved_narrow a b = either (nat_eq a b) [] (i.Copy b a ∷ []) tt (tt, tt)

finish_narrow : (e : Expr) (d : ℕ) → Narrow (finish e d)
finish_narrow e d = either (is_relation e) (relation_code e d) [] (tt, tt) tt

truth_narrow : (e : Expr) (d : ℕ) → Narrow (truth_finish e d)
truth_narrow e d = either (is_truth e && not (is_relation e)) [] (relation_code e d) tt (tt, tt)

function_narrow : (f : RequiredFunction) (d line : ℕ) → Narrow (function_code f d line)
function_narrow Abs d line = omega arith
function_narrow Sqr d line = omega arith
function_narrow Odd d line = omega arith
function_narrow Ord d line = tt
function_narrow Chr d line = omega arith
function_narrow (Succ high) d line = (tt, range_narrow d least high 4 line)
function_narrow (Pred low) d line = (tt, range_narrow d low greatest 4 line)

minus_narrow : (z : Option ℤ) (d t line : ℕ) (code : List Instruction) → Narrow code → Narrow
    (minus_code z d t line code)
minus_narrow (Some z) d t line code c = (tt, tt)
minus_narrow None d t line code c = both code _ c (tt, (tt, tt))

joined_narrow : (t x mask : ℕ) → Narrow (joined_word t x mask)
joined_narrow t x mask = either (nat_eq mask 0) [] _ tt
    (tt, both (masked (beside t) mask) _ (either (nat_eq mask 4294967295) [] _ tt (tt, tt)) (tt, tt))

outside_narrow : (low high : ℤ) (t x words : ℕ) → Narrow (outside_code low high t x words)
unfolding outside_code
outside_narrow low high t x zero = tt
outside_narrow low high t x (suc q) = both (outside_code low high t x q) _ (outside_narrow low high t x q)
    (joined_narrow t (x + 4 * q) (outside_bits low high q))

pub set_check_narrow : (t x : ℕ) (low high : ℤ) (line : ℕ) → Narrow (set_check t x low high line)
set_check_narrow t x low high line = either (holds_all low high) [] _ tt
    (tt, both (outside_code low high t x 8) _ (outside_narrow low high t x 8) (tt, (tt, tt)))

module _ (k : Scope) where
  one_narrow : (m : Option ℕ) (t x : ℕ) (code : List Instruction) → Narrow code → Narrow (one_code m t x code)
  one_narrow None t x code c = c
  one_narrow (Some n) t x code c = (tt, (tt, (tt, tt)))

  membership_narrow : (m u t : ℕ) → Narrow (membership_code m u t)
  membership_narrow m u t = omega arith

  clear_narrow : (t x : ℕ) → Narrow (clear_code k t x)
  clear_narrow t x = omega arith

  sets_narrow : (relation : SetRelation) (t x : ℕ) → Narrow (sets_code k relation t x)
  sets_narrow sets.Included t x = omega arith
  sets_narrow sets.Includes t x = omega arith
  sets_narrow sets.Same t x = omega arith
  sets_narrow sets.Other t x = omega arith

  members_narrow : (a b x line : ℕ) → Narrow (range_members k a b x line)
  members_narrow a b x line = omega arith

-- ---- code

module _ (k : Scope) (b : Framed k.program) (os : List Shape) (o : SitesReach k.opened os) where
  pub finished : (e : Expr) (d x : ℕ) → Narrow (front_code k e d x) → Narrow (front_code k e d x ++ finish e d)
  finished e d x c = both (front_code k e d x) _ c (finish_narrow e d)

  truth_finished : (e : Expr) (d x : ℕ) → Narrow (front_code k e d x) → Narrow (front_code k e d x ++ truth_finish e d)
  truth_finished e d x c = both (front_code k e d x) _ c (truth_narrow e d)

  compared : (a e : Expr) (d x : ℕ) → Narrow (front_code k a (kept (expr_calls e) d) x) → Narrow
      (front_code k e (even_from (suc (kept (expr_calls e) d))) x)
      → Narrow ((front_code k a (kept (expr_calls e) d) x ++ finish a (kept (expr_calls e) d)) ++ unless_known
      (literal_of e) (front_code k e (even_from (suc (kept (expr_calls e) d))) x ++ finish e
      (even_from (suc (kept (expr_calls e) d)))))
  compared a e d x c f =
      both (front_code k a (kept (expr_calls e) d) x ++ finish a (kept (expr_calls e) d)) _
      (finished a (kept (expr_calls e) d) x c)
      (unknown (literal_of e) _ (finished e (even_from (suc (kept (expr_calls e) d))) x f))

  -- ---- where a selector leads

  selectors_reach : (selectors : Selectors) (s : Site) (t : ℕ) (part part' : Part)
      → SelectorsFit k os selectors part part' → Reach s part → Reach (selectors_site selectors s t) part'
  selectors_reach no_selector s t part part' f r = subst (λ p. s.offset + part_bytes p ≤ 1000000) f r
  selectors_reach (selector_before (Element type e line) rest) s t part part' f r =
      let h = components_there type f.1 in
      selectors_reach rest (element_site (known_steps type (literal_of e)) s t) t
      (component_part (shape_of type)) part' f.4
      (element_reach type (known_steps type (literal_of e)) s t h (known_in type h (literal_of e))
      (subst (λ p. s.offset + part_bytes p ≤ 1000000) f.0 r))
  selectors_reach (selector_before (Field type number) rest) s t part part' f r =
      let l : s.offset + byte_count (shape_of type) ≤ 1000000 = subst (λ p. s.offset + part_bytes p ≤ 1000000) f.0 r in
      let m = field_part_in (shape_of type) number f.1.0 f.1.1 in
      selectors_reach rest (record {
        base = s.base;
        offset = s.offset + field_offset (shape_of type) number;
      }) t (Whole f.1.0) part' f.1.2 (omega (arith, l, m))
  selectors_reach (selector_before (Target pointer line) rest) s t part part' f r =
      selectors_reach rest (record {
        base = base.Temporary t;
        offset = 0;
      }) t (Whole (shape_of (domain_at k.program pointer))) part' f.2 (let l = b.domains pointer in omega (arith, l))

  pub place_reach : (p : Place) (d : ℕ) (part : Part) → PlaceFits k os p part → Reach (place_site k p d) part
  place_reach (Variable name selectors) d part f =
      let t = kept (selectors_call selectors) d in
      selectors_reach selectors (name_site k name t) t (Whole f.0) part f.2 (name_reach k b os o name t f.0 f.1)

  pub place_most : (p : Place) (d : ℕ) (part : Part) → PlaceFits k os p part → (place_site k p d).offset ≤ 1000000
  place_most p d part f = let r = place_reach p d part f in omega (arith, r)

  mutual
    pub place_narrow : (p : Place) (d x : ℕ) (part : Part) → PlaceFits k os p part → Narrow (place_code k p d x)
    place_narrow (Variable name selectors) d x part f =
        let t = kept (selectors_call selectors) d in
        both (name_code k name t) _ (name_narrow k b name t)
        (selectors_narrow selectors (name_site k name t) t x (Whole f.0) part f.2
        (name_reach k b os o name t f.0 f.1))

    selectors_narrow : (selectors : Selectors) (s : Site) (t x : ℕ) (part part' : Part)
        → SelectorsFit k os selectors part part' → Reach s part → Narrow (selectors_code k selectors s t x)
    selectors_narrow no_selector s t x part part' f r = tt
    selectors_narrow (selector_before (Element type e line) rest) s t x part part' f r =
        let l : s.offset + byte_count (shape_of type) ≤ 1000000 = subst (λ p. s.offset + part_bytes p ≤ 1000000) f.0 r
        in
        let h = components_there type f.1 in let m = component_most type h in
        both (index_code (known_steps type (literal_of e)) type s t (even_from (suc t)) line
        (front_code k e (even_from (suc t)) x ++ finish e (even_from (suc t)))) _
        (index_narrow (known_steps type (literal_of e)) type s t (even_from (suc t)) line _ (omega (arith, l, m))
        (finished e (even_from (suc t)) x (front_narrow e _ (even_from (suc t)) x f.2)))
        (selectors_narrow rest (element_site (known_steps type (literal_of e)) s t) t x
        (component_part (shape_of type)) part' f.4
        (element_reach type (known_steps type (literal_of e)) s t h (known_in type h (literal_of e)) l))
    selectors_narrow (selector_before (Field type number) rest) s t x part part' f r =
        let l : s.offset + byte_count (shape_of type) ≤ 1000000 = subst (λ p. s.offset + part_bytes p ≤ 1000000) f.0 r
        in
        let m = field_part_in (shape_of type) number f.1.0 f.1.1 in
        selectors_narrow rest (record {
          base = s.base;
          offset = s.offset + field_offset (shape_of type) number;
        }) t x (Whole f.1.0) part' f.1.2 (omega (arith, l, m))
    selectors_narrow (selector_before (Target pointer line) rest) s t x part part' f r =
        both (i.Load t s.base s.offset ∷ i.CheckPointer t 6 line ∷ []) _
        (at_narrow s.base s.offset (omega (arith, r)), (tt, tt))
        (selectors_narrow rest (record {
          base = base.Temporary t;
          offset = 0;
        }) t x (Whole (shape_of (domain_at k.program pointer))) part' f.2
        (let l = b.domains pointer in omega (arith, l)))

    pub front_narrow : (e : Expr) (sort : Sort) (d x : ℕ) → ExprFits k os e sort → Narrow (front_code k e d x)
    front_narrow (Number n) sort d x f = (tt, tt)
    front_narrow Nil sort d x f = (tt, tt)
    front_narrow (Load p) sort d x f = both (place_code k p d x) _ (place_narrow p d x f.0 f.2)
        (load_narrow (is_byte p) d (place_site k p d) (place_most p d f.0 f.2))
    front_narrow (Plus e) sort d x f = finished e d x (front_narrow e _ d x f.1)
    front_narrow (Minus e line) sort d x f = minus_narrow (negated e) d (even_from (suc d)) line _
        (finished e (even_from (suc d)) x (front_narrow e _ (even_from (suc d)) x f.1))
    front_narrow (Not e) sort d x f = front_narrow e _ d x f.1
    front_narrow (Arithmetic e steps) sort d x f =
        let a = kept (steps_call steps) d in
        three (front_code k e a x ++ finish e a) _ _ (finished e a x (front_narrow e _ a x f.1))
        (steps_narrow steps a x f.2) (moved_narrow a d)
    front_narrow (Logic operator e rest) sort d x f =
        let a = kept (operands_call rest) d in
        three (front_code k e a x ++ truth_finish e a) _ _ (truth_finished e a x (front_narrow e _ a x f.1))
        (operands_narrow operator rest a x f.2) (moved_narrow a d)
    front_narrow (Compare relation a e) sort d x f = compared a e d x (front_narrow a _ (kept (expr_calls e) d) x f.1)
        (front_narrow e _ (even_from (suc (kept (expr_calls e) d))) x f.2)
    front_narrow (ComparePointers relation a e) sort d x f = compared a e d x
        (front_narrow a _ (kept (expr_calls e) d) x f.1.1)
        (front_narrow e _ (even_from (suc (kept (expr_calls e) d))) x f.1.2)
    front_narrow (CompareSets relation a e) sort d x f =
        four (set_code k a (even_from d) x) _ _ _ (set_narrow a (even_from d) x f.1)
        (set_narrow e (even_from d) (x + 32) f.2) (sets_narrow k relation (even_from d) x)
        (moved_narrow (even_from d) d)
    front_narrow (CompareStrings relation a e) sort d x f =
        three (structure_code k a (held (structure_calls e) d) x) _ _
        (structure_narrow a _ (held (structure_calls e) d) x (contents_of k os a f.1).1)
        (structure_narrow e _ (even_from (suc (held (structure_calls e) d))) x (contents_of k os e f.2).1)
        (tt, (tt, tt))
    front_narrow (In a e) sort d x f =
        let m = kept (asked_calls e) d in let u = even_from (suc m) in
        three (front_code k a m x ++ finish a m) _ _ (finished a m x (front_narrow a _ m x f.1))
        (asked_narrow e u x f.2)
        (membership_narrow k m u d)
    front_narrow (Apply function e line) sort d x f = both (front_code k e d x ++ finish e d) _
        (finished e d x (front_narrow e _ d x f.2)) (function_narrow function d line)
    front_narrow Eof sort d x f = let l = b.input in omega (arith, l)
    front_narrow (Eoln line) sort d x f = let l = b.input in omega (arith, l)
    front_narrow (Call routine up arguments line) sort d x f =
        let t = even_from (arguments_end arguments d) in
        three (arguments_code k arguments d x) _ _ (arguments_narrow arguments _ d x f.2) (link_narrow k t up) (tt, tt)
    front_narrow (CallFormal up index arguments line) sort d x f =
        let t = even_from (arguments_end arguments d) in
        three (arguments_code k arguments d x) _ _ (arguments_narrow arguments _ d x f.1.2)
        (formal_narrow k b t up index)
        (tt, tt)

    steps_narrow : (steps : ArithmeticSteps) (a x : ℕ) → StepsFit k os steps → Narrow (steps_code k steps a x)
    steps_narrow no_arithmetic_step a x f = tt
    steps_narrow (arithmetic_step_before operator e line rest) a x f =
        both (unless_known (literal_of e) (front_code k e (even_from (suc a)) x ++ finish e (even_from (suc a)))) _
        (unknown (literal_of e) _ (finished e (even_from (suc a)) x (front_narrow e _ (even_from (suc a)) x f.0)))
        (tt, steps_narrow rest a x f.1)

    operands_narrow : (operator : BooleanOperator) (operands : Operands) (a x : ℕ) → OperandsFit k os operands → Narrow
        (operands_code k operator operands a x)
    operands_narrow operator no_operand a x f = tt
    operands_narrow operator (operand_before e rest) a x f =
        both (front_code k e (even_from (suc a)) x ++ truth_finish e (even_from (suc a))) _
        (truth_finished e (even_from (suc a)) x (front_narrow e _ (even_from (suc a)) x f.0))
        (tt, operands_narrow operator rest a x f.1)

    asked_narrow : (e : SetExpr) (t x : ℕ) → SetFits k os e → Narrow (asked_code k e t x)
    asked_narrow (LoadSet p) t x f = both (place_code k p t x) _ (place_narrow p t x (Whole SetShape) f)
        (site_narrow t (place_site k p t) 32 (place_most p t (Whole SetShape) f) (omega arith))
    asked_narrow (Constructor members) t x f =
        both (clear_code k (even_from t) x ++ members_code k members t x) _
        (both (clear_code k (even_from t) x) _ (clear_narrow k (even_from t) x) (members_of_narrow members t x f))
        ((tt, tt), tt)
    asked_narrow (Combine e steps) t x f =
        both (set_code k e t x ++ set_steps_code k steps t x) _
        (both (set_code k e t x) _ (set_narrow e t x f.0) (set_steps_narrow steps t x f.1)) ((tt, tt), tt)

    pub set_narrow : (e : SetExpr) (d x : ℕ) → SetFits k os e → Narrow (set_code k e d x)
    set_narrow (LoadSet p) d x f =
        three (place_code k p d x) _ _ (place_narrow p d x (Whole SetShape) f)
        (site_narrow (even_from (suc d)) (place_site k p d) 32 (place_most p d (Whole SetShape) f) (omega arith))
        (taken_narrow x (even_from (suc d)) 0 (beside (even_from (suc d))) 8 (omega arith))
    set_narrow (Constructor members) d x f = both (clear_code k (even_from d) x) _ (clear_narrow k (even_from d) x)
        (members_of_narrow members d x f)
    set_narrow (Combine e steps) d x f = both (set_code k e d x) _ (set_narrow e d x f.0)
        (set_steps_narrow steps d x f.1)

    set_steps_narrow : (steps : SetSteps) (d x : ℕ) → SetStepsFit k os steps → Narrow (set_steps_code k steps d x)
    set_steps_narrow no_set_step d x f = tt
    set_steps_narrow (set_step_before operator e rest) d x f =
        let u = beside (even_from d) in
        both (if adds operator e then adding_code k e d x
        else (asked_code k e u (x + 32) ++ joining_code k operator (even_from d) x)) _
        (either (adds operator e) (adding_code k e d x) _ (adding_narrow e d x f.0)
        (both (asked_code k e u (x + 32)) _ (asked_narrow e u (x + 32) f.0) ((tt, tt), (tt, tt))))
        (set_steps_narrow rest d x f.1)

    adding_narrow : (e : SetExpr) (d x : ℕ) → SetFits k os e → Narrow (adding_code k e d x)
    adding_narrow (LoadSet p) d x f = tt
    adding_narrow (Constructor members) d x f = members_of_narrow members d x f
    adding_narrow (Combine e steps) d x f = tt

    members_of_narrow : (members : Members) (d x : ℕ) → MembersFit k os members → Narrow (members_code k members d x)
    members_of_narrow no_member d x f = tt
    members_of_narrow (member_before m rest) d x f = both (member_code k m d x) _ (member_narrow m d x f.0)
        (members_of_narrow rest d x f.1)

    member_narrow : (m : Member) (d x : ℕ) → MemberFits k os m → Narrow (member_code k m d x)
    member_narrow (One e line) d x f =
        one_narrow k (known_member (literal_of e)) (even_from d) x _
        (both (front_code k e (even_from d) (x + 32) ++ finish e (even_from d)) _
        (finished e (even_from d) (x + 32) (front_narrow e _ (even_from d) (x + 32) f.0)) (tt, ((tt, tt), (tt, tt))))
    member_narrow (Several a e line) d x f =
        let t = held (expr_calls e) d in
        three (front_code k a t (x + 32) ++ finish a t) _ _ (finished a t (x + 32) (front_narrow a _ t (x + 32) f.0))
        (finished e (even_from (suc t)) (x + 32) (front_narrow e _ (even_from (suc t)) (x + 32) f.1))
        (members_narrow k t (even_from (suc t)) x line)

    pub structure_narrow : (e : Structure) (shape : Shape) (d x : ℕ) → ContentsFit k os e shape → Narrow
        (structure_code k e d x)
    structure_narrow (Literal characters) shape d x f = (tt, tt)
    structure_narrow (Contents p type) shape d x f =
        let r = subst (λ s. Reach (place_site k p d) (Whole s)) (sym f.0) (place_reach p d (Whole shape) f.1) in
        both (place_code k p d x) _ (place_narrow p d x (Whole shape) f.1)
        (site_narrow d (place_site k p d) (byte_count (shape_of type)) (omega (arith, r)) (omega (arith, r)))

    argument_narrow : (a : Argument) (kind : Kind) (t x : ℕ) → ArgumentFits k os a kind → Narrow (argument_code k a t x)
    argument_narrow (ByValue e range line) kind t x f = both (front_code k e t x ++ finish e t) _
        (finished e t x (front_narrow e _ t x f.3.2)) (fitting_narrow (gives_byte e) (literal_of e) t range line)
    argument_narrow (BySet e low high line) kind t x f = three (set_code k e t x) _ _ (set_narrow e t x f.1)
        (set_check_narrow (even_from t) x low high line) ((tt, tt), tt)
    argument_narrow (ByCopy e type) kind t x f = three (structure_code k e t x) _ _
        (structure_narrow e (shape_of type) t x f.2)
        ((tt, tt), (tt, (tt, tt))) ((tt, tt), tt)
    argument_narrow (ByVariable p) kind t x f = both (place_code k p t x) _ (place_narrow p t x (Whole f.0) f.2)
        (site_narrow t (place_site k p t) 0 (place_most p t (Whole f.0) f.2) (omega arith))
    argument_narrow (ByRoutine routine up) kind t x f = (tt, link_narrow k (beside t) up)
    argument_narrow (ByFormal up index) kind t x f = formal_narrow k b t up index

    pub arguments_narrow : (list : Arguments) (kinds : Kinds) (d x : ℕ) → ArgumentsFit k os list kinds → Narrow
        (arguments_code k list d x)
    arguments_narrow no_argument kinds d x f = tt
    arguments_narrow (argument_before a rest) kinds d x f =
        let t = held (arguments_call rest) d in
        both (argument_code k a t x) _ (argument_narrow a _ t x f.1.2)
        (arguments_narrow rest _ (argument_end a t) (x + argument_scratch a) f.1.3)
