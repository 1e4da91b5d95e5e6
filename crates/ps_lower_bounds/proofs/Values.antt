-- What the code of variables, expressions and actual parameters uses: 8 temporaries for each node, and of the scratch
-- block 32 bytes for each node and 4 for each cell that is copied.
use Rattle.std.proofs.Common.{◌≡◌, ℕ, suc, ◌+◌, ◌*◌, ◌%◌, ◌<◌, ◌≤◌, if◌then◌else◌, [], ◌∷◌, ◌++◌, arith}
use Rattle.ps_tree.specs.declared.tree.operators.BooleanOperator.{BooleanOperator}
use Rattle.ps_tree.specs.declared.count.Extent.{Extent}
use Rattle.ps_tree.specs.Counts.{place_extent, selector_extent, selectors_extent, expr_extent, arithmetic_extent}
use Rattle.ps_tree.specs.Counts.{operands_extent, set_extent, set_steps_extent, member_extent, members_extent}
use Rattle.ps_tree.specs.Counts.{structure_extent, argument_extent, arguments_extent}
use Rattle.ps_tree.specs.Tree.{Place, Variable, Element, Field, Target, Selectors, no_selector, selector_before}
use Rattle.ps_tree.specs.Tree.{ArithmeticSteps, no_arithmetic_step, arithmetic_step_before, Operands, no_operand}
use Rattle.ps_tree.specs.Tree.{operand_before, SetSteps, no_set_step, set_step_before, Expr, Number, Nil, Load, Plus}
use Rattle.ps_tree.specs.Tree.{Minus, Not, Arithmetic, Logic, Compare, ComparePointers, CompareSets, CompareStrings}
use Rattle.ps_tree.specs.Tree.{In, Apply, Eof, Eoln, Call, CallFormal, SetExpr, LoadSet, Constructor, Combine, Member}
use Rattle.ps_tree.specs.Tree.{One, Several, Members, no_member, member_before, Structure, Literal, Contents, Argument}
use Rattle.ps_tree.specs.Tree.{ByValue, BySet, ByCopy, ByVariable, ByRoutine, ByFormal, Arguments, no_argument}
use Rattle.ps_tree.specs.Tree.{argument_before}
use Rattle.tac_code.specs.declared.code.Instruction.TheVariants as i
use Rattle.ps_lower_layout.specs.Shapes.{shape_of, byte_count}
use Rattle.ps_lower_code.specs.Scopes.{even_from, held, kept, beside, unless_known, Site, Scope}
use Rattle.ps_lower_code.specs.Calling.{selectors_call, expr_calls, steps_call, operands_call, asked_calls}
use Rattle.ps_lower_code.specs.Calling.{structure_calls, arguments_call}
use Rattle.ps_lower_code.specs.Values.{literal_of, negated, finish, truth_finish, known_steps, element_site, is_byte}
use Rattle.ps_lower_code.specs.Values.{gives_byte, index_code, argument_words, argument_end, argument_scratch}
use Rattle.ps_lower_code.specs.Values.{arguments_words, arguments_end, name_code, name_site, place_site, clear_code}
use Rattle.ps_lower_code.specs.Values.{place_code, selectors_code, front_code, steps_code, operands_code, known_member}
use Rattle.ps_lower_code.specs.Values.{adds, joining_code, adding_code, asked_code, set_code, set_steps_code}
use Rattle.ps_lower_code.specs.Values.{members_code, member_code, structure_code, argument_code, arguments_code}
use Rattle.ps_lower_code.proofs.Masks.{known_small}
use Rattle.ps_lower_bounds.proofs.Uses.{BaseUnder, AllUnder, Under, either, both, three, four, unknown, at_base}
use Rattle.ps_lower_bounds.proofs.Uses.{all_both}
use Rattle.ps_lower_bounds.proofs.Pieces.{held_most, kept_most, moved_under, fitting_under, operand_under}
use Rattle.ps_lower_bounds.proofs.Pieces.{finish_under, truth_under, function_under, minus_under, OpenedUnder}
use Rattle.ps_lower_bounds.proofs.Pieces.{load_under, site_under, index_under, element_under, link_under, formal_under}
use Rattle.ps_lower_bounds.proofs.Pieces.{name_under, name_site_under, place_site_under, taken_under, one_under}
use Rattle.ps_lower_bounds.proofs.Pieces.{membership_under, clear_under, set_check_under, sets_under, members_under}
use Rattle.ps_lower_bounds.proofs.Nodes.{place_node, expr_node, set_node, structure_node}
use Rattle.ps_lower_bounds.proofs.Cells.{words_cells}

-- ---- actual parameters: where they are

argument_end_most : (a : Argument) (t : ℕ) → (t ≤ argument_end a t) × (argument_end a t ≤ t + 3)
argument_end_most (ByRoutine r up) t = omega arith
argument_end_most (ByFormal up index) t = omega arith
argument_end_most _ t = omega arith

pub argument_node : (a : Argument) → 1 ≤ (argument_extent a).nodes
unfolding argument_extent
argument_node (ByRoutine r up) = omega arith
argument_node _ = omega arith

pub arguments_end_most : (list : Arguments) (d : ℕ) → (d ≤ arguments_end list d)
    × (arguments_end list d ≤ d + 4 * (arguments_extent list).nodes)
unfolding arguments_extent
arguments_end_most no_argument d = omega arith
arguments_end_most (argument_before a rest) d =
    let h = held_most (arguments_call rest) d in
    let e = argument_end_most a (held (arguments_call rest) d) in
    let r = arguments_end_most rest (argument_end a (held (arguments_call rest) d)) in
    let n = argument_node a in
    omega (arith, h, e, r, n)

module _ (D : ℕ) where
  argument_words_under : (a : Argument) (t : ℕ) → argument_end a t ≤ D → AllUnder D (argument_words a t)
  argument_words_under (ByRoutine r up) t h = omega (arith, h)
  argument_words_under (ByFormal up index) t h = omega (arith, h)
  argument_words_under (ByValue e range line) t h = (h, tt)
  argument_words_under (BySet e low high line) t h = (h, tt)
  argument_words_under (ByCopy e type) t h = (h, tt)
  argument_words_under (ByVariable p) t h = (h, tt)

  pub words_under : (list : Arguments) (d : ℕ) → arguments_end list d ≤ D → AllUnder D (arguments_words list d)
  words_under no_argument d h = tt
  words_under (argument_before a rest) d h =
      let e = arguments_end_most rest (argument_end a (held (arguments_call rest) d)) in
      all_both D 0 (argument_words a (held (arguments_call rest) d)) _
      (argument_words_under a (held (arguments_call rest) d) (omega (arith, e, h)))
      (words_under rest (argument_end a (held (arguments_call rest) d)) h)

pub scratch_most : (a : Argument) → (argument_scratch a ≤ 32 * (argument_extent a).nodes + 4 *
    (argument_extent a).taken) × (argument_scratch a % 4 ≡ 0)
unfolding argument_extent
scratch_most (BySet e low high line) = omega arith
scratch_most (ByCopy e type) = let c = words_cells type in omega (arith, c)
scratch_most _ = omega arith

-- ---- code

-- room for 8 temporaries per node, and in the scratch block, from a whole word on, for 32 bytes per node and 4 per cell
abbrev pub Room : (D X d x : ℕ) → Extent → Type 0
Room D X d x extent = (d + 8 * extent.nodes ≤ D) × (x + 32 * extent.nodes + 4 * extent.taken ≤ X) × (x % 4 ≡ 0)

module _ (k : Scope) (D X : ℕ) (o : OpenedUnder D k.opened) where
  pub finished : (e : Expr) (d x : ℕ) → Room D X d x (expr_extent e) → Under D X (front_code k e d x) → Under D X
      (front_code k e d x ++ finish e d)
  finished e d x r u = let n = expr_node e in both D X (front_code k e d x) _ u
      (finish_under D X e d (omega (arith, r, n)))

  truth_finished : (e : Expr) (d x : ℕ) → Room D X d x (expr_extent e) → Under D X (front_code k e d x) → Under D X
      (front_code k e d x ++ truth_finish e d)
  truth_finished e d x r u = let n = expr_node e in both D X (front_code k e d x) _ u
      (truth_under D X e d (omega (arith, r, n)))

  pointer_under : (s : Site) (t line : ℕ) → BaseUnder D s.base → t < D → Under D X
      (i.Load t s.base s.offset ∷ i.CheckPointer t 6 line ∷ [])
  pointer_under s t line u f = ((f, at_base D X s.base (s.offset + 4) u), (f, tt))

  -- a value that is known has no code
  compared : (a b : Expr) (d x : ℕ) → Room D X (suc d) x (expr_extent a) → Room D X (d + 3) x (expr_extent b)
      → Under D X (front_code k a (kept (expr_calls b) d) x) → Under D X
      (front_code k b (even_from (suc (kept (expr_calls b) d))) x)
      → Under D X ((front_code k a (kept (expr_calls b) d) x ++ finish a (kept (expr_calls b) d)) ++ unless_known
      (literal_of b) (front_code k b (even_from (suc (kept (expr_calls b) d))) x ++ finish b
      (even_from (suc (kept (expr_calls b) d)))))
  compared a b d x r r' u u' =
      let m = kept_most (expr_calls b) d in
      both D X (front_code k a (kept (expr_calls b) d) x ++ finish a (kept (expr_calls b) d)) _
      (finished a (kept (expr_calls b) d) x (omega (arith, r, m)) u)
      (unknown D X (literal_of b) _ (finished b (even_from (suc (kept (expr_calls b) d))) x (omega (arith, r', m)) u'))

  mutual
    unfolding place_extent selector_extent selectors_extent expr_extent arithmetic_extent operands_extent set_extent
        set_steps_extent member_extent members_extent structure_extent argument_extent arguments_extent

    pub place_under : (p : Place) (d x : ℕ) → Room D X d x (place_extent p) → Under D X (place_code k p d x)
    place_under (Variable name selectors) d x r =
        let m = kept_most (selectors_call selectors) d in
        let t : kept (selectors_call selectors) d < D = omega (arith, r, m) in
        both D X (name_code k name (kept (selectors_call selectors) d)) _
        (name_under k D X name (kept (selectors_call selectors) d) (omega (arith, r, m)))
        (selectors_under selectors (name_site k name (kept (selectors_call selectors) d))
        (kept (selectors_call selectors) d) x (name_site_under k D X name (kept (selectors_call selectors) d) o t) t
        (omega (arith, r, m)))

    selectors_under : (selectors : Selectors) (s : Site) (t x : ℕ) → BaseUnder D s.base → t < D → Room D X t x
        (selectors_extent selectors) → Under D X (selectors_code k selectors s t x)
    selectors_under no_selector s t x u f r = tt
    selectors_under (selector_before (Element type e line) rest) s t x u f r =
        let n = expr_node e in
        both D X (index_code (known_steps type (literal_of e)) type s t (even_from (suc t)) line
        (front_code k e (even_from (suc t)) x ++ finish e (even_from (suc t)))) _
        (index_under D X (known_steps type (literal_of e)) type s t (even_from (suc t)) line _ f (omega (arith, r, n)) u
        (finished e (even_from (suc t)) x (omega (arith, r))
        (front_under e (even_from (suc t)) x (omega (arith, r)))))
        (selectors_under rest (element_site (known_steps type (literal_of e)) s t) t x
        (element_under k D (known_steps type (literal_of e)) s t f u) f (omega (arith, r)))
    selectors_under (selector_before (Field type number) rest) s t x u f r = selectors_under rest _ t x u f
        (omega (arith, r))
    selectors_under (selector_before (Target pointer line) rest) s t x u f r =
        both D X (i.Load t s.base s.offset ∷ i.CheckPointer t 6 line ∷ []) _ (pointer_under s t line u f)
        (selectors_under rest _ t x f f (omega (arith, r)))

    pub front_under : (e : Expr) (d x : ℕ) → Room D X d x (expr_extent e) → Under D X (front_code k e d x)
    front_under (Number n) d x r = omega (arith, r)
    front_under Nil d x r = omega (arith, r)
    front_under (Load p) d x r =
        let n = place_node p in
        both D X (place_code k p d x) _ (place_under p d x r)
        (load_under D X (is_byte p) d (place_site k p d) (omega (arith, r, n))
        (place_site_under k D X p d o (omega (arith, r, n))))
    front_under (Plus e) d x r = finished e d x (omega (arith, r)) (front_under e d x (omega (arith, r)))
    front_under (Minus e line) d x r =
        let n = expr_node e in
        minus_under D X (negated e) d (even_from (suc d)) line _ (omega (arith, r, n)) (omega (arith, r, n))
        (finished e (even_from (suc d)) x (omega (arith, r))
        (front_under e (even_from (suc d)) x (omega (arith, r))))
    front_under (Not e) d x r = front_under e d x (omega (arith, r))
    front_under (Arithmetic e no_arithmetic_step) d x r =
        let n = expr_node e in
        three D X (front_code k e d x ++ finish e d) _ _
        (finished e d x (omega (arith, r)) (front_under e d x (omega (arith, r)))) tt
        (moved_under D X d d (omega (arith, r, n)) (omega (arith, r, n)))
    front_under (Arithmetic e (arithmetic_step_before operator e' line rest)) d x r =
        let m = kept_most (steps_call (arithmetic_step_before operator e' line rest)) d in
        let a = kept (steps_call (arithmetic_step_before operator e' line rest)) d in
        three D X (front_code k e a x ++ finish e a) _ _
        (finished e a x (omega (arith, r, m)) (front_under e a x (omega (arith, r, m))))
        (steps_under (arithmetic_step_before operator e' line rest) a x (omega (arith, r, m, expr_node e)))
        (moved_under D X a d (omega (arith, r, m)) (omega (arith, r)))
    front_under (Logic operator e no_operand) d x r =
        let n = expr_node e in
        three D X (front_code k e d x ++ truth_finish e d) _ _
        (truth_finished e d x (omega (arith, r)) (front_under e d x (omega (arith, r)))) tt
        (moved_under D X d d (omega (arith, r, n)) (omega (arith, r, n)))
    front_under (Logic operator e (operand_before e' rest)) d x r =
        let m = kept_most (operands_call (operand_before e' rest)) d in
        let a = kept (operands_call (operand_before e' rest)) d in
        three D X (front_code k e a x ++ truth_finish e a) _ _
        (truth_finished e a x (omega (arith, r, m)) (front_under e a x (omega (arith, r, m))))
        (operands_under operator (operand_before e' rest) a x (omega (arith, r, m, expr_node e)))
        (moved_under D X a d (omega (arith, r, m)) (omega (arith, r)))
    front_under (Compare relation a b) d x r =
        let m = kept_most (expr_calls b) d in
        compared a b d x (omega (arith, r)) (omega (arith, r))
        (front_under a (kept (expr_calls b) d) x (omega (arith, r, m)))
        (front_under b (even_from (suc (kept (expr_calls b) d))) x (omega (arith, r, m)))
    front_under (ComparePointers relation a b) d x r =
        let m = kept_most (expr_calls b) d in
        compared a b d x (omega (arith, r)) (omega (arith, r))
        (front_under a (kept (expr_calls b) d) x (omega (arith, r, m)))
        (front_under b (even_from (suc (kept (expr_calls b) d))) x (omega (arith, r, m)))
    front_under (CompareSets relation a b) d x r =
        let l = set_node a in let n = set_node b in
        four D X (set_code k a (even_from d) x) _ _ _ (set_under a (even_from d) x (omega (arith, r)))
        (set_under b (even_from d) (x + 32) (omega (arith, r, l)))
        (sets_under k D X relation (even_from d) x (omega (arith, r, l)) (omega (arith, r, l, n)) (omega (arith, r)))
        (moved_under D X (even_from d) d (omega (arith, r, l)) (omega (arith, r, l)))
    front_under (CompareStrings relation a b) d x r =
        let m = held_most (structure_calls b) d in let l = structure_node a in let n = structure_node b in
        three D X (structure_code k a (held (structure_calls b) d) x) _ _
        (structure_under a (held (structure_calls b) d) x (omega (arith, r, m)))
        (structure_under b (even_from (suc (held (structure_calls b) d))) x (omega (arith, r, m, l)))
        (omega (arith, r, m, l, n))
    front_under (In a b) d x r =
        let c = kept_most (asked_calls b) d in let l = expr_node a in let n = set_node b in
        let m = kept (asked_calls b) d in let u = even_from (suc m) in
        three D X (front_code k a m x ++ finish a m) _ _
        (finished a m x (omega (arith, r, c)) (front_under a m x (omega (arith, r, c))))
        (asked_under b u x (omega (arith, r, c, l)))
        (membership_under k D X m u d (omega (arith, r, c)) (omega (arith, r, c, l, n)) (omega (arith, r)))
    front_under (Apply function e line) d x r =
        both D X (front_code k e d x ++ finish e d) _
        (finished e d x (omega (arith, r)) (front_under e d x (omega (arith, r))))
        (function_under D X function d line (omega (arith, r)))
    front_under Eof d x r = omega (arith, r)
    front_under (Eoln line) d x r = omega (arith, r)
    front_under (Call routine up arguments line) d x r =
        let e = arguments_end_most arguments d in
        let t = even_from (arguments_end arguments d) in
        three D X (arguments_code k arguments d x) _ _ (arguments_under arguments d x (omega (arith, r)))
        (link_under k D X t up (omega (arith, r, e)))
        ((omega (arith, r), (omega (arith, r, e), words_under D arguments d (omega (arith, r, e)))), tt)
    front_under (CallFormal up index arguments line) d x r =
        let e = arguments_end_most arguments d in
        let t = even_from (arguments_end arguments d) in
        three D X (arguments_code k arguments d x) _ _ (arguments_under arguments d x (omega (arith, r)))
        (formal_under k D X t up index (omega (arith, r, e))) (
          (
            omega (arith, r),
            omega (arith, r, e),
            (omega (arith, r, e), words_under D arguments d (omega (arith, r, e))),
          ),
          tt,
        )

    steps_under : (steps : ArithmeticSteps) (a x : ℕ) → Room D X a x (arithmetic_extent steps) → Under D X
        (steps_code k steps a x)
    steps_under no_arithmetic_step a x r = tt
    steps_under (arithmetic_step_before operator e line rest) a x r =
        both D X (unless_known (literal_of e) (front_code k e (even_from (suc a)) x ++ finish e (even_from (suc a)))) _
        (unknown D X (literal_of e) _ (finished e (even_from (suc a)) x (omega (arith, r))
        (front_under e (even_from (suc a)) x (omega (arith, r))))) (
          (omega (arith, r), omega (arith, r), operand_under D X (literal_of e) (even_from (suc a)) (omega (arith, r))),
          steps_under rest a x (omega (arith, r)),
        )

    operands_under : (operator : BooleanOperator) (operands : Operands) (a x : ℕ) → Room D X a x
        (operands_extent operands) → Under D X (operands_code k operator operands a x)
    operands_under operator no_operand a x r = tt
    operands_under operator (operand_before e rest) a x r =
        both D X (front_code k e (even_from (suc a)) x ++ truth_finish e (even_from (suc a))) _
        (truth_finished e (even_from (suc a)) x (omega (arith, r))
        (front_under e (even_from (suc a)) x (omega (arith, r))))
        ((omega (arith, r), omega (arith, r), omega (arith, r)), operands_under operator rest a x (omega (arith, r)))

    asked_under : (e : SetExpr) (t x : ℕ) → Room D X t x (set_extent e) → Under D X (asked_code k e t x)
    asked_under (LoadSet p) t x r =
        let n = place_node p in
        both D X (place_code k p t x) _ (place_under p t x r)
        (site_under D X t (place_site k p t) 32 (omega (arith, r, n))
        (place_site_under k D X p t o (omega (arith, r, n))))
    asked_under (Constructor members) t x r =
        both D X (clear_code k (even_from t) x ++ members_code k members t x) _
        (both D X (clear_code k (even_from t) x) _
        (clear_under k D X (even_from t) x (omega (arith, r)) (omega (arith, r)) (omega (arith, r)))
        (members_of_under members t x (omega (arith, r))))
        (omega (arith, r))
    asked_under (Combine e steps) t x r =
        let n = set_node e in
        both D X (set_code k e t x ++ set_steps_code k steps t x) _
        (both D X (set_code k e t x) _ (set_under e t x (omega (arith, r)))
        (set_steps_under steps t x (omega (arith, r)))) (omega (arith, r, n))

    pub set_under : (e : SetExpr) (d x : ℕ) → Room D X d x (set_extent e) → Under D X (set_code k e d x)
    set_under (LoadSet p) d x r =
        let n = place_node p in
        three D X (place_code k p d x) _ _ (place_under p d x r)
        (site_under D X (even_from (suc d)) (place_site k p d) 32 (omega (arith, r, n))
        (place_site_under k D X p d o (omega (arith, r, n))))
        (taken_under D X x (even_from (suc d)) 0 (beside (even_from (suc d))) 8 (omega (arith, r, n)) (omega (arith, r))
        (omega (arith, r, n)) (omega (arith, r, n)))
    set_under (Constructor members) d x r = both D X (clear_code k (even_from d) x) _
        (clear_under k D X (even_from d) x (omega (arith, r)) (omega (arith, r)) (omega (arith, r)))
        (members_of_under members d x (omega (arith, r)))
    set_under (Combine e steps) d x r = let n = set_node e in both D X (set_code k e d x) _
        (set_under e d x (omega (arith, r))) (set_steps_under steps d x (omega (arith, r)))

    set_steps_under : (steps : SetSteps) (d x : ℕ) → Room D X d x (set_steps_extent steps) → Under D X
        (set_steps_code k steps d x)
    set_steps_under no_set_step d x r = tt
    set_steps_under (set_step_before operator e rest) d x r =
        let n = set_node e in let u = beside (even_from d) in
        both D X (if adds operator e then adding_code k e d x
        else (asked_code k e u (x + 32) ++ joining_code k operator (even_from d) x)) _
        (either D X (adds operator e) (adding_code k e d x) _ (adding_under e d x (omega (arith, r)))
        (both D X (asked_code k e u (x + 32)) _ (asked_under e u (x + 32) (omega (arith, r)))
        ((omega (arith, r), omega (arith, r, n)), ((omega (arith, r), omega (arith, r)), tt))))
        (set_steps_under rest d x (omega (arith, r)))

    adding_under : (e : SetExpr) (d x : ℕ) → Room D X d x (set_extent e) → Under D X (adding_code k e d x)
    adding_under (LoadSet p) d x r = tt
    adding_under (Constructor members) d x r = members_of_under members d x (omega (arith, r))
    adding_under (Combine e steps) d x r = tt

    members_of_under : (members : Members) (d x : ℕ) → Room D X d x (members_extent members) → Under D X
        (members_code k members d x)
    members_of_under no_member d x r = tt
    members_of_under (member_before m rest) d x r = both D X (member_code k m d x) _
        (member_under m d x (omega (arith, r))) (members_of_under rest d x (omega (arith, r)))

    member_under : (m : Member) (d x : ℕ) → Room D X d x (member_extent m) → Under D X (member_code k m d x)
    member_under (One e line) d x r =
        one_under k D X (known_member (literal_of e)) (even_from d) x _ (known_small (literal_of e)) (omega (arith, r))
        (omega (arith, r)) (omega (arith, r))
        (both D X (front_code k e (even_from d) (x + 32) ++ finish e (even_from d)) _
        (finished e (even_from d) (x + 32) (omega (arith, r))
        (front_under e (even_from d) (x + 32) (omega (arith, r)))) (omega (arith, r)))
    member_under (Several a b line) d x r =
        let m = held_most (expr_calls b) d in let l = expr_node a in
        let t = held (expr_calls b) d in
        three D X (front_code k a t (x + 32) ++ finish a t) _ _
        (finished a t (x + 32) (omega (arith, r, m)) (front_under a t (x + 32) (omega (arith, r, m))))
        (finished b (even_from (suc t)) (x + 32) (omega (arith, r, m, l))
        (front_under b (even_from (suc t)) (x + 32) (omega (arith, r, m, l))))
        (members_under k D X t (even_from (suc t)) x line (omega (arith, r, m)) (omega (arith, r, m, l))
        (omega (arith, r)) (omega (arith, r)))

    pub structure_under : (e : Structure) (d x : ℕ) → Room D X d x (structure_extent e) → Under D X
        (structure_code k e d x)
    structure_under (Literal characters) d x r = omega (arith, r)
    structure_under (Contents p type) d x r =
        let n = place_node p in
        both D X (place_code k p d x) _ (place_under p d x r)
        (site_under D X d (place_site k p d) (byte_count (shape_of type)) (omega (arith, r, n))
        (place_site_under k D X p d o (omega (arith, r, n))))

    argument_under : (a : Argument) (t x : ℕ) → Room D X t x (argument_extent a) → Under D X (argument_code k a t x)
    argument_under (ByValue e range line) t x r =
        both D X (front_code k e t x ++ finish e t) _
        (finished e t x (omega (arith, r)) (front_under e t x (omega (arith, r))))
        (fitting_under D X (gives_byte e) (literal_of e) t range line (omega (arith, r)))
    argument_under (BySet e low high line) t x r =
        let n = set_node e in
        three D X (set_code k e t x) _ _ (set_under e t x (omega (arith, r)))
        (set_check_under D X (even_from t) x low high line (omega (arith, r, n)) (omega (arith, r, n))
        (omega (arith, r))) (omega (arith, r))
    argument_under (ByCopy e type) t x r =
        let n = structure_node e in let c = words_cells type in
        three D X (structure_code k e t x) _ _ (structure_under e t x (omega (arith, r))) (omega (arith, r, n, c))
        (omega (arith, r, n, c))
    argument_under (ByVariable p) t x r =
        both D X (place_code k p t x) _ (place_under p t x (omega (arith, r)))
        (site_under D X t (place_site k p t) 0 (omega (arith, r)) (place_site_under k D X p t o (omega (arith, r))))
    argument_under (ByRoutine routine up) t x r = (omega (arith, r), link_under k D X (beside t) up (omega (arith, r)))
    argument_under (ByFormal up index) t x r = formal_under k D X t up index (omega (arith, r))

    pub arguments_under : (list : Arguments) (d x : ℕ) → Room D X (d + 1) x (arguments_extent list) → Under D X
        (arguments_code k list d x)
    arguments_under no_argument d x r = tt
    arguments_under (argument_before a rest) d x r =
        let m = held_most (arguments_call rest) d in
        let t = held (arguments_call rest) d in
        let e = argument_end_most a t in let n = argument_node a in let c = scratch_most a in
        both D X (argument_code k a t x) _ (argument_under a t x (omega (arith, r, m)))
        (arguments_under rest (argument_end a t) (x + argument_scratch a) (omega (arith, r, m, e, n, c)))
