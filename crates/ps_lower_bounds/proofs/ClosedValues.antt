-- The code of variables, expressions and actual parameters is closed.
use Rattle.std.proofs.Common.{◌≡◌, ℕ, suc, ◌+◌, ◌<◌, if◌then◌else◌, List, [], ◌∷◌, ◌++◌, length, subst}
use Rattle.std.proofs.Common.{Some, arith, length-append}
use Rattle.ps_tree.specs.declared.tree.operators.BooleanOperator.{BooleanOperator}
use Rattle.ps_tree.specs.declared.tree.operators.SetOperator.{SetOperator}
use Rattle.ps_tree.specs.declared.tree.operators.SetOperator.TheVariants.{Union, Difference, Intersection}
use Rattle.ps_tree.specs.Tree.{Place, Variable, Element, Field, Target, Selectors, no_selector, selector_before}
use Rattle.ps_tree.specs.Tree.{ArithmeticSteps, no_arithmetic_step, arithmetic_step_before, Operands, no_operand}
use Rattle.ps_tree.specs.Tree.{operand_before, SetSteps, no_set_step, set_step_before, Expr, Number, Nil, Load, Plus}
use Rattle.ps_tree.specs.Tree.{Minus, Not, Arithmetic, Logic, Compare, ComparePointers, CompareSets, CompareStrings}
use Rattle.ps_tree.specs.Tree.{In, Apply, Eof, Eoln, Call, CallFormal, SetExpr, LoadSet, Constructor, Combine, Member}
use Rattle.ps_tree.specs.Tree.{One, Several, Members, no_member, member_before, Structure, Literal, Contents, Argument}
use Rattle.ps_tree.specs.Tree.{ByValue, BySet, ByCopy, ByVariable, ByRoutine, ByFormal, Arguments, no_argument}
use Rattle.ps_tree.specs.Tree.{argument_before}
use Rattle.tac_code.specs.declared.code.Base.TheVariants as base
use Rattle.tac_code.specs.declared.code.Instruction.TheVariants as i
use Rattle.tac_rt.specs.Numbers.{run_time_number}
use Rattle.ps_lower_code.specs.Scopes.{even_from, held, kept, beside, unless_known, Site, Scope}
use Rattle.ps_lower_code.specs.Calling.{selectors_call, expr_calls, steps_call, operands_call, asked_calls}
use Rattle.ps_lower_code.specs.Calling.{structure_calls, arguments_call}
use Rattle.ps_lower_code.specs.Values.{literal_of, negated, set_routine, finish, truth_finish, known_steps}
use Rattle.ps_lower_code.specs.Values.{element_site, is_byte, gives_byte, index_code, argument_words, argument_end}
use Rattle.ps_lower_code.specs.Values.{argument_scratch, arguments_words, arguments_end, name_code, name_site}
use Rattle.ps_lower_code.specs.Values.{place_site, clear_code, place_code, selectors_code, front_code, steps_code}
use Rattle.ps_lower_code.specs.Values.{operands_code, known_member, adds, joining_code, adding_code, asked_code}
use Rattle.ps_lower_code.specs.Values.{set_code, set_steps_code, members_code, member_code, structure_code}
use Rattle.ps_lower_code.specs.Values.{argument_code, arguments_code}
use Rattle.ps_lower_code.specs.Fits.{PlaceFits, SelectorsFit, ExprFits, StepsFit, OperandsFit, SetFits, SetStepsFit}
use Rattle.ps_lower_code.specs.Fits.{MemberFits, MembersFit, ContentsFit, ArgumentFits, ArgumentsFit}
use Rattle.ps_lower_layout.specs.Shapes.{Shape, shape_of, Part, Whole}
use Rattle.ps_lower_layout.specs.Paths.{Sort}
use Rattle.ps_lower_layout.specs.Frames.{Kind, Closure, Kinds}
use Rattle.ps_lower_bounds.proofs.Lists.{Each}
use Rattle.ps_lower_bounds.proofs.Counts.{Few, few_bytes, KindFew, HeadingFew, KindsFew, ProgramFew}
use Rattle.ps_lower_bounds.proofs.Few.{argument_count, arguments_count, range_there, kind_few, arguments_few}
use Rattle.ps_lower_bounds.proofs.Few.{contents_of, text_small}
use Rattle.ps_lower_bounds.proofs.Closed.{to_int, Closed, anywhere, either, both, three, four, unknown}
use Rattle.ps_lower_bounds.proofs.ClosedPieces.{negated_known, filled_whole, literal_known, operand_number}
use Rattle.ps_lower_bounds.proofs.ClosedPieces.{moved_closed, fitting_closed, finish_closed, truth_closed}
use Rattle.ps_lower_bounds.proofs.ClosedPieces.{function_closed, minus_closed, load_closed, index_closed, link_closed}
use Rattle.ps_lower_bounds.proofs.ClosedPieces.{formal_closed, name_closed, clear_closed, set_check_closed}
use Rattle.ps_lower_bounds.proofs.ClosedPieces.{words_closed, one_closed, membership_closed, sets_closed}
use Rattle.ps_lower_bounds.proofs.ClosedPieces.{members_closed}

words_counted : (a : Argument) (t : ℕ) → length (argument_words a t) ≡ argument_count a
words_counted (ByRoutine r up) t = omega arith
words_counted (ByFormal up index) t = omega arith
words_counted (ByValue e range line) t = omega arith
words_counted (BySet e low high line) t = omega arith
words_counted (ByCopy e type) t = omega arith
words_counted (ByVariable p) t = omega arith

pub arguments_counted : (list : Arguments) (d : ℕ) → length (arguments_words list d) ≡ arguments_count list
arguments_counted no_argument d = omega arith
arguments_counted (argument_before a rest) d =
    let t = held (arguments_call rest) d in
    let l = length-append (argument_words a t) (arguments_words rest (argument_end a t)) in
    let n = words_counted a t in let r = arguments_counted rest (argument_end a t) in
    omega (arith, l, n, r)

set_number : (operator : SetOperator) → run_time_number (set_routine operator) < 17
set_number Union = omega arith
set_number Difference = omega arith
set_number Intersection = omega arith

-- the scope of a program of so many routines and types, within the limits, and records of few cells that are opened
pub record SmallScope (R T : ℕ) (k : Scope) (os : List Shape) : Type 0 where
  pub routines : length k.program.routines ≡ R
  pub types : length k.program.domains ≡ T
  pub program : ProgramFew k.program
  pub opened : Each Few os

module _ (R T : ℕ) (k : Scope) (os : List Shape) (w : SmallScope R T k os) where
  pub finished : (e : Expr) (sort : Sort) (d x : ℕ) → ExprFits k os e sort → Closed R T 0 0 (front_code k e d x)
      → Closed R T 0 0
      (front_code k e d x ++ finish e d)
  finished e sort d x f c = both R T (front_code k e d x) _ c (finish_closed R T k os e _ d f)

  truth_finished : (e : Expr) (sort : Sort) (d x : ℕ) → ExprFits k os e sort → Closed R T 0 0 (front_code k e d x)
      → Closed R T 0 0
      (front_code k e d x ++ truth_finish e d)
  truth_finished e sort d x f c = both R T (front_code k e d x) _ c (truth_closed R T k os e _ d f)

  -- a value that is known has no code
  compared : (a b : Expr) (sort : Sort) (d x : ℕ) → ExprFits k os a sort → ExprFits k os b sort
      → Closed R T 0 0 (front_code k a (kept (expr_calls b) d) x) → Closed R T 0 0
      (front_code k b (even_from (suc (kept (expr_calls b) d))) x)
      → Closed R T 0 0 ((front_code k a (kept (expr_calls b) d) x ++ finish a (kept (expr_calls b) d)) ++ unless_known
      (literal_of b) (front_code k b (even_from (suc (kept (expr_calls b) d))) x ++ finish b
      (even_from (suc (kept (expr_calls b) d)))))
  compared a b sort d x f g c e =
      both R T (front_code k a (kept (expr_calls b) d) x ++ finish a (kept (expr_calls b) d)) _
      (finished a _ (kept (expr_calls b) d) x f c)
      (unknown R T (literal_of b) _ (finished b _ (even_from (suc (kept (expr_calls b) d))) x g e))

  mutual
    pub place_closed : (p : Place) (part : Part) (d x : ℕ) → PlaceFits k os p part → Closed R T 0 0 (place_code k p d x)
    place_closed (Variable name selectors) part d x f =
        both R T (name_code k name (kept (selectors_call selectors) d)) _
        (name_closed R T k name (kept (selectors_call selectors) d))
        (selectors_closed selectors _ _ (name_site k name (kept (selectors_call selectors) d))
        (kept (selectors_call selectors) d) x f.2)

    selectors_closed : (selectors : Selectors) (part part' : Part) (s : Site) (t x : ℕ)
        → SelectorsFit k os selectors part part' → Closed R T 0 0 (selectors_code k selectors s t x)
    selectors_closed no_selector part part' s t x f = tt
    selectors_closed (selector_before (Element type e line) rest) part part' s t x f =
        both R T (index_code (known_steps type (literal_of e)) type s t (even_from (suc t)) line
        (front_code k e (even_from (suc t)) x ++ finish e (even_from (suc t)))) _
        (index_closed R T (known_steps type (literal_of e)) type s t (even_from (suc t)) line _ (f.1.1, f.1.2)
        f.3 (finished e _ (even_from (suc t)) x f.2 (front_closed e _ (even_from (suc t)) x f.2)))
        (selectors_closed rest _ _ (element_site (known_steps type (literal_of e)) s t) t x f.4)
    selectors_closed (selector_before (Field type number) rest) part part' s t x f =
        selectors_closed rest _ _ _ t x f.1.2
    selectors_closed (selector_before (Target pointer line) rest) part part' s t x f =
        let l = f.1 in
        both R T (i.Load t s.base s.offset ∷ i.CheckPointer t 6 line ∷ []) _ (tt, tt, (omega (arith, l), tt, tt))
        (selectors_closed rest _ _ _ t x f.2)

    pub front_closed : (e : Expr) (sort : Sort) (d x : ℕ) → ExprFits k os e sort → Closed R T 0 0 (front_code k e d x)
    front_closed (Number n) sort d x f = (to_int n f.1, tt, tt)
    front_closed Nil sort d x f = omega arith
    front_closed (Load p) sort d x f = both R T (place_code k p d x) _ (place_closed p _ d x f.2)
        (load_closed R T (is_byte p) d (place_site k p d))
    front_closed (Plus e) sort d x f = finished e _ d x f.1 (front_closed e _ d x f.1)
    front_closed (Minus e line) sort d x f = minus_closed R T (negated e) d (even_from (suc d)) line _
        (negated_known e) f.2
        (finished e _ (even_from (suc d)) x f.1 (front_closed e _ (even_from (suc d)) x f.1))
    front_closed (Not e) sort d x f = front_closed e _ d x f.1
    front_closed (Arithmetic e steps) sort d x f =
        let a = kept (steps_call steps) d in
        three R T (front_code k e a x ++ finish e a) _ _ (finished e _ a x f.1 (front_closed e _ a x f.1))
        (steps_closed steps a x f.2) (moved_closed R T a d)
    front_closed (Logic operator e rest) sort d x f =
        let a = kept (operands_call rest) d in
        three R T (front_code k e a x ++ truth_finish e a) _ _ (truth_finished e _ a x f.1 (front_closed e _ a x f.1))
        (operands_closed operator rest a x f.2) (moved_closed R T a d)
    front_closed (Compare relation a b) sort d x f = compared a b _ d x f.1 f.2
        (front_closed a _ (kept (expr_calls b) d) x f.1)
        (front_closed b _ (even_from (suc (kept (expr_calls b) d))) x f.2)
    front_closed (ComparePointers relation a b) sort d x f = compared a b _ d x f.1.1 f.1.2
        (front_closed a _ (kept (expr_calls b) d) x f.1.1)
        (front_closed b _ (even_from (suc (kept (expr_calls b) d))) x f.1.2)
    front_closed (CompareSets relation a b) sort d x f =
        four R T (set_code k a (even_from d) x) _ _ _ (set_closed a (even_from d) x f.1)
        (set_closed b (even_from d) (x + 32) f.2) (sets_closed R T k w.routines relation (even_from d) x)
        (moved_closed R T (even_from d) d)
    front_closed (CompareStrings relation a b) sort d x f =
        let n = text_small k w.program os w.opened a f.1 in
        three R T (structure_code k a (held (structure_calls b) d) x) _ _
        (structure_closed a _ (held (structure_calls b) d) x (contents_of k os a f.1).1)
        (structure_closed b _ (even_from (suc (held (structure_calls b) d))) x (contents_of k os b f.2).1)
        (omega (arith, w.routines, n))
    front_closed (In a b) sort d x f =
        let m = kept (asked_calls b) d in let u = even_from (suc m) in
        three R T (front_code k a m x ++ finish a m) _ _ (finished a _ m x f.1 (front_closed a _ m x f.1))
        (asked_closed b u x f.2) (membership_closed R T m u d)
    front_closed (Apply function e line) sort d x f = both R T (front_code k e d x ++ finish e d) _
        (finished e _ d x f.2 (front_closed e _ d x f.2)) (function_closed R T function d line f.1 f.3)
    front_closed Eof sort d x f = omega (arith, w.routines)
    front_closed (Eoln line) sort d x f = let l = f.2 in omega (arith, w.routines, l)
    front_closed (Call routine up arguments line) sort d x f =
        let t = even_from (arguments_end arguments d) in let n = arguments_counted arguments d in
        let few = (w.program.routines routine).heading in let m = arguments_few k w.program os arguments _ f.2 few in
        let r = f.0.0 in
        three R T (arguments_code k arguments d x) _ _ (arguments_closed arguments _ d x f.2 few.1)
        (link_closed R T k t up) ((omega (arith, w.routines, r), omega (arith, n, m), f.3), tt, tt)
    front_closed (CallFormal up index arguments line) sort d x f =
        let t = even_from (arguments_end arguments d) in let n = arguments_counted arguments d in
        let few : HeadingFew f.1.0 = kind_few k w.program up index (Closure f.1.0 (Some f.1.1.0)) f.1.1.1 in
        let m = arguments_few k w.program os arguments f.1.0 f.1.2 few in
        three R T (arguments_code k arguments d x) _ _ (arguments_closed arguments _ d x f.1.2 few.1)
        (formal_closed R T k t up index) ((omega (arith, n, m), f.2), tt, tt)

    steps_closed : (steps : ArithmeticSteps) (a x : ℕ) → StepsFit k os steps → Closed R T 0 0 (steps_code k steps a x)
    steps_closed no_arithmetic_step a x f = tt
    steps_closed (arithmetic_step_before operator e line rest) a x f =
        both R T (unless_known (literal_of e) (front_code k e (even_from (suc a)) x ++ finish e (even_from (suc a)))) _
        (unknown R T (literal_of e) _
        (finished e _ (even_from (suc a)) x f.0 (front_closed e _ (even_from (suc a)) x f.0))) (
          (operand_number R T (literal_of e) (even_from (suc a)) (literal_known k os e _ f.0), omega arith, f.2),
          tt,
          anywhere R T (steps_code k rest a x) 1 0 (steps_closed rest a x f.1),
        )

    operands_closed : (operator : BooleanOperator) (operands : Operands) (a x : ℕ) → OperandsFit k os operands
        → Closed R T 0 0 (operands_code k operator operands a x)
    operands_closed operator no_operand a x f = tt
    operands_closed operator (operand_before e rest) a x f =
        both R T (front_code k e (even_from (suc a)) x ++ truth_finish e (even_from (suc a))) _
        (truth_finished e _ (even_from (suc a)) x f.0 (front_closed e _ (even_from (suc a)) x f.0))
        (tt, tt, anywhere R T (operands_code k operator rest a x) 1 0 (operands_closed operator rest a x f.1))

    asked_closed : (e : SetExpr) (t x : ℕ) → SetFits k os e → Closed R T 0 0 (asked_code k e t x)
    asked_closed (LoadSet p) t x f = both R T (place_code k p t x) _ (place_closed p _ t x f) (tt, tt, tt)
    asked_closed (Constructor members) t x f =
        both R T (clear_code k (even_from t) x ++ members_code k members t x) _
        (both R T (clear_code k (even_from t) x) _ (clear_closed R T k w.routines (even_from t) x)
        (members_of_closed members t x f)) (tt, tt, tt)
    asked_closed (Combine e steps) t x f =
        both R T (set_code k e t x ++ set_steps_code k steps t x) _
        (both R T (set_code k e t x) _ (set_closed e t x f.0) (set_steps_closed steps t x f.1)) (tt, tt, tt)

    pub set_closed : (e : SetExpr) (d x : ℕ) → SetFits k os e → Closed R T 0 0 (set_code k e d x)
    set_closed (LoadSet p) d x f = three R T (place_code k p d x) _ _ (place_closed p _ d x f) (tt, tt, tt)
        (words_closed R T base.Scratch x (base.Temporary (even_from (suc d))) 0 (beside (even_from (suc d))) 8 0)
    set_closed (Constructor members) d x f = both R T (clear_code k (even_from d) x) _
        (clear_closed R T k w.routines (even_from d) x) (members_of_closed members d x f)
    set_closed (Combine e steps) d x f = both R T (set_code k e d x) _ (set_closed e d x f.0)
        (set_steps_closed steps d x f.1)

    set_steps_closed : (steps : SetSteps) (d x : ℕ) → SetStepsFit k os steps → Closed R T 0 0
        (set_steps_code k steps d x)
    set_steps_closed no_set_step d x f = tt
    set_steps_closed (set_step_before operator e rest) d x f =
        let n = set_number operator in let u = beside (even_from d) in
        both R T (if adds operator e then adding_code k e d x
        else (asked_code k e u (x + 32) ++ joining_code k operator (even_from d) x)) _
        (either R T (adds operator e) (adding_code k e d x) _ (adding_closed e d x f.0)
        (both R T (asked_code k e u (x + 32)) _ (asked_closed e u (x + 32) f.0) (omega (arith, w.routines, n))))
        (set_steps_closed rest d x f.1)

    adding_closed : (e : SetExpr) (d x : ℕ) → SetFits k os e → Closed R T 0 0 (adding_code k e d x)
    adding_closed (LoadSet p) d x f = tt
    adding_closed (Constructor members) d x f = members_of_closed members d x f
    adding_closed (Combine e steps) d x f = tt

    members_of_closed : (members : Members) (d x : ℕ) → MembersFit k os members → Closed R T 0 0
        (members_code k members d x)
    members_of_closed no_member d x f = tt
    members_of_closed (member_before m rest) d x f = both R T (member_code k m d x) _ (member_closed m d x f.0)
        (members_of_closed rest d x f.1)

    member_closed : (m : Member) (d x : ℕ) → MemberFits k os m → Closed R T 0 0 (member_code k m d x)
    member_closed (One e line) d x f =
        let l = f.1 in
        one_closed R T (known_member (literal_of e)) (even_from d) x _
        (both R T (front_code k e (even_from d) (x + 32) ++ finish e (even_from d)) _
        (finished e _ (even_from d) (x + 32) f.0 (front_closed e _ (even_from d) (x + 32) f.0))
        (omega (arith, w.routines, l)))
    member_closed (Several a b line) d x f =
        let t = held (expr_calls b) d in
        three R T (front_code k a t (x + 32) ++ finish a t) _ _
        (finished a _ t (x + 32) f.0 (front_closed a _ t (x + 32) f.0))
        (finished b _ (even_from (suc t)) (x + 32) f.1 (front_closed b _ (even_from (suc t)) (x + 32) f.1))
        (members_closed R T k w.routines t (even_from (suc t)) x line f.2)

    pub structure_closed : (e : Structure) (shape : Shape) (d x : ℕ) → ContentsFit k os e shape → Closed R T 0 0
        (structure_code k e d x)
    structure_closed (Literal characters) shape d x f = (filled_whole characters, tt, tt)
    structure_closed (Contents p type) shape d x f = both R T (place_code k p d x) _ (place_closed p _ d x f.1)
        (tt, tt, tt)

    argument_closed : (a : Argument) (kind : Kind) (t x : ℕ) → ArgumentFits k os a kind → KindFew kind → Closed R T 0 0
        (argument_code k a t x)
    argument_closed (ByValue e range line) kind t x f l = both R T (front_code k e t x ++ finish e t) _
        (finished e _ t x f.3.2 (front_closed e _ t x f.3.2))
        (fitting_closed R T (gives_byte e) (literal_of e) t range line (range_there range (Whole f.0) f.2) f.4)
    argument_closed (BySet e low high line) kind t x f l =
        three R T (set_code k e t x) _ _ (set_closed e t x f.1) (set_check_closed R T (even_from t) x low high line f.3)
        (tt, tt, tt)
    argument_closed (ByCopy e type) kind t x f l =
        let n = few_bytes (shape_of type) (subst KindFew f.0 l) in
        three R T (structure_code k e t x) _ _ (structure_closed e (shape_of type) t x f.2)
        (omega (arith, w.routines, n)) (tt, tt, tt)
    argument_closed (ByVariable p) kind t x f l = both R T (place_code k p t x) _ (place_closed p _ t x f.2)
        (tt, tt, tt)
    argument_closed (ByRoutine routine up) kind t x f l = (
      let r = f.0.0 in omega (arith, w.routines, r),
      tt,
      anywhere R T _ 1 0 (link_closed R T k (beside t) up),
    )
    argument_closed (ByFormal up index) kind t x f l = formal_closed R T k t up index

    pub arguments_closed : (list : Arguments) (kinds : Kinds) (d x : ℕ) → ArgumentsFit k os list kinds → KindsFew kinds
        → Closed R T 0 0 (arguments_code k list d x)
    arguments_closed no_argument kinds d x f l = tt
    arguments_closed (argument_before a rest) kinds d x f l =
        let t = held (arguments_call rest) d in let few = subst KindsFew f.1.1 l in
        both R T (argument_code k a t x) _ (argument_closed a _ t x f.1.2 few.0)
        (arguments_closed rest _ (argument_end a t) (x + argument_scratch a) f.1.3 few.1)
