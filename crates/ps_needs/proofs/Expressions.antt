-- Where each call that an expression may make goes on without a stop for stack, the expression does.
use Rattle.std.proofs.Common.{◌≡◌, inl, inr, ℕ, ℤ, List, [], ◌∷◌, ◌++◌, drop, Bool}
use Rattle.std.proofs.Common.{Option, Some, refl, sym, ap, ◌∙◌, subst}
use Rattle.std.specs.List.{Contains}
use Rattle.ps_tree.specs.declared.tree.operators.BooleanOperator.{BooleanOperator}
use Rattle.ps_tree.specs.Tree.{Program, routine_at, Place, Variable, Selector, Element, Field, Target, Selectors}
use Rattle.ps_tree.specs.Tree.{no_selector, selector_before, ArithmeticSteps, no_arithmetic_step}
use Rattle.ps_tree.specs.Tree.{arithmetic_step_before, Operands, no_operand, operand_before, SetSteps, no_set_step}
use Rattle.ps_tree.specs.Tree.{set_step_before, Expr, Number, Nil, Load, Plus, Minus, Not, Arithmetic, Logic, Compare}
use Rattle.ps_tree.specs.Tree.{ComparePointers, CompareSets, CompareStrings, In, Apply, Eof, Eoln, Call, CallFormal}
use Rattle.ps_tree.specs.Tree.{SetExpr, LoadSet, Constructor, Combine, Member, One, Several, Members, no_member}
use Rattle.ps_tree.specs.Tree.{member_before, Structure, Literal, Contents, Argument, ByValue, BySet, ByCopy}
use Rattle.ps_tree.specs.Tree.{ByVariable, ByRoutine, ByFormal, Arguments, no_argument, argument_before, domain_at}
use Rattle.behavior.specs.Endings.{Ending, Error, Stack}
use Rattle.ps_meaning.specs.Values.{Spot, number_of}
use Rattle.ps_meaning.specs.Operators.{combine_truths, combine_sets, fits, set_fits}
use Rattle.ps_meaning.specs.Operators.{is_between, is_true}
use Rattle.ps_meaning.specs.Worlds.{Env, above, frame_of, routine_in, env_in, Context, World}
use Rattle.ps_meaning.specs.Worlds.{contents, look}
use Rattle.ps_meaning.specs.Expressions.{Actual, Caller, calling, contents_of}
use Rattle.ps_meaning.specs.Expressions.{fitting, fitting_set, function_value, denoted, access}
use Rattle.ps_meaning.specs.Expressions.{accesses, at_selector, value, computed, combined, set_value, sets_combined}
use Rattle.ps_meaning.specs.Expressions.{member_value, members_value, operand, actual_of, actuals_of, index_of}
use Rattle.ps_meaning.proofs.Avoids.{Ended, Avoids, after, then_fine, choice_fine, settled_fine, object_fine}
use Rattle.ps_meaning.proofs.Avoids.{line_end_fine, held_fine, between_fine}
use Rattle.ps_lower_layout.specs.Shapes.{Shape, shape_of, Part, Whole, component_part}
use Rattle.ps_lower_layout.specs.Paths.{Sort, NumberSort, PointerSort}
use Rattle.ps_lower_layout.specs.Frames.{Kind, Own, Reference, Kinds, kinds_of}
use Rattle.ps_lower_code.specs.Scopes.{Scope}
use Rattle.ps_lower_code.specs.Routines.{scope_of}
use Rattle.ps_lower_code.specs.Fits.{tail, DeclaredAt, PlaceFits, SelectorsFit, ExprFits, StructureFits}
use Rattle.ps_lower_code.specs.Fits.{ContentsFit, StepsFit, OperandsFit, SetFits, SetStepsFit, MembersFit, MemberFits}
use Rattle.ps_lower_code.specs.Fits.{ArgumentsFit, ArgumentFits}
use Rattle.ps_needs_least.specs.declared.uses.Use.{Use}
use Rattle.ps_needs_least.specs.declared.uses.Use.TheVariants.{Called, ParameterCalled}
use Rattle.ps_needs_least.specs.Uses.{place_uses, selectors_uses, selector_uses, expr_uses, steps_uses, operands_uses}
use Rattle.ps_needs_least.specs.Uses.{set_uses, set_steps_uses, member_uses, members_uses, structure_uses}
use Rattle.ps_needs_least.specs.Uses.{argument_uses, arguments_uses}
use Rattle.ps_needs_least.specs.Paths.{uses, MayCall}
use Rattle.ps_needs.proofs.Environments.{IsHere, EnvIs, Closed, ActualIs, ActualsAre, env_above, formal_is}

-- ---- answers

abbrev pub IsStack : Ending → Type 0
IsStack (Stack line) = Unit {0}
IsStack _ = ⊥

pub no_stop : ⊥ → ⊥
no_stop h = h

-- an error is none
pub no_error : (number line : ℕ) (calls : List ℕ) → IsStack (Error number line calls) → ⊥
no_error number line calls h = h

-- ---- what is known of the uses of a part of a block

-- they are uses of the block
abbrev pub Known : Program → ℕ → List Use → Type 0
Known program r [] = Unit {0}
Known program r (u ∷ us) = Contains (uses program r) u × Known program r us

pub front : (program : Program) (r : ℕ) (xs ys : List Use) → Known program r (xs ++ ys) → Known program r xs
front program r [] ys h = tt
front program r (x ∷ xs) ys h = (h.0, front program r xs ys h.1)

pub back : (program : Program) (r : ℕ) (xs ys : List Use) → Known program r (xs ++ ys) → Known program r ys
back program r [] ys h = h
back program r (x ∷ xs) ys h = back program r xs ys h.1

-- ---- the parts of a block

-- each call that the block may make goes on
abbrev pub CallsGoOn : Program → ℕ → (active : List ℕ) → Caller → Type 0
CallsGoOn program r active call =
    (s : ℕ) (parent : Env) (actuals : List Actual) (c : Context) (w : World) → MayCall program r s → IsHere program s
    → EnvIs program parent (tail (routine_at program s).chain) → ActualsAre program actuals
    (kinds_of (routine_at program s).formals) → c.active ≡ active → Avoids IsStack (call s parent actuals c w)

abbrev pub Here : Program → ℕ → (active : List ℕ) → Context → Type 0
Here program r active c = (c.active ≡ active) × EnvIs program c.env (routine_at program r).chain

-- a string or a variable
abbrev pub IsOperand : Scope → List Shape → Structure → Type 0
IsOperand k os (Literal characters) = Unit {0}
IsOperand k os (Contents p type) = (part : Part) × PlaceFits k os p part

pub structure_operand : (k : Scope) (os : List Shape) (e : Structure) → StructureFits k os e → IsOperand k os e
structure_operand k os (Literal characters) f = tt
structure_operand k os (Contents p type) f = (_, f.4)

pub contents_operand : (k : Scope) (os : List Shape) (e : Structure) (shape : Shape) → ContentsFit k os e shape
    → IsOperand k os e
contents_operand k os (Literal characters) shape f = tt
contents_operand k os (Contents p type) shape f = (_, f.1)

module _ (program : Program) (r : ℕ) (active : List ℕ) (call : Caller) (calls : CallsGoOn program r active call) where
  abbrev scope : Scope
  scope = scope_of program (routine_at program r)

  -- a routine that is declared in a frame of the environment
  declared_is : (s up : ℕ) (c : Context) → DeclaredAt scope s up → Here program r active c → IsHere program s
      × EnvIs program (above c.env up) (tail (routine_at program s).chain)
  declared_is s up c f h =
      let outer : tail (routine_at program s).chain ≡ drop up (routine_at program r).chain = ap tail f.2 in (
        record {
          within = f.0;
          chain = f.2 ∙ ap (λ q. s ∷ q) (sym outer);
        },
        subst (λ q. EnvIs program (above c.env up) q) (sym outer)
            (env_above program c.env (routine_at program r).chain up h.1 f.1),
      )

  pub named_fine : (s up line : ℕ) (actuals : List Actual) (c : Context) (w : World) → DeclaredAt scope s up → Contains
      (uses program r) (Called s) → Here program r active c → ActualsAre program actuals
      (kinds_of (routine_at program s).formals) → Avoids IsStack (call s (above c.env up) actuals (calling line c) w)
  named_fine s up line actuals c w f u h are =
      let there = declared_is s up c f h in
      calls s (above c.env up) actuals (calling line c) w (inl u) there.0 there.1 are h.0

  pub formal_fine : (up index line : ℕ) (kinds : Kinds) (result : Option Shape) (actuals : List Actual) (c : Context)
      (w : World) → Closed program kinds (routine_in (frame_of (above c.env up)) index)
      (env_in (frame_of (above c.env up)) index) → Contains (uses program r) ParameterCalled → Here program r active c
      → ActualsAre program actuals kinds → Avoids IsStack
      (call (routine_in (frame_of (above c.env up)) index) (env_in (frame_of (above c.env up)) index) actuals
      (calling line c) w)
  formal_fine up index line kinds result actuals c w closed u h are = calls _ _ actuals (calling line c) w
      (inr (u, closed.2)) closed.0 closed.3 (subst (λ ks. ActualsAre program actuals ks) (sym closed.1) are) h.0

  function_fine : (s : ℕ) (parent : Env) (actuals : List Actual) (c : Context) (w : World) → Avoids IsStack
      (call s parent actuals c w) → Avoids IsStack (function_value call s parent actuals c w)
  function_fine s parent actuals c w h = then_fine IsStack _ _ h (λ d u. tt)

  -- the selectors behind the first
  behind : (os : List Shape) (selector : Selector) (rest : Selectors) (from to : Part)
      → SelectorsFit scope os (selector_before selector rest) from to →
      (next : Part) × SelectorsFit scope os rest next to
  behind os (Element type e line) rest from to f = (component_part (shape_of type), f.4)
  behind os (Field type number) rest from to f = (Whole f.1.0, f.1.2)
  behind os (Target pointer line) rest from to f = (Whole (shape_of (domain_at scope.program pointer)), f.2)

  mutual
    pub access_fine : (os : List Shape) (p : Place) (part : Part) (c : Context) (w : World) → PlaceFits scope os p part
        → Known program r (place_uses p) → Here program r active c → Avoids IsStack (access call p c w)
    access_fine os (Variable base selectors) part c w f u h = accesses_fine os selectors (Whole f.0) part
        (denoted base c) c w f.2 u h

    accesses_fine : (os : List Shape) (l : Selectors) (from to : Part) (s : Spot) (c : Context) (w : World)
        → SelectorsFit scope os l from to → Known program r (selectors_uses l) → Here program r active c
        → Avoids IsStack
        (accesses call l s c w)
    accesses_fine os no_selector from to s c w f u h = tt
    accesses_fine os (selector_before selector rest) from to s c w f u h =
        let g = behind os selector rest from to f in
        then_fine IsStack _ _ (selector_fine os selector rest from to s c w f
        (front program r (selector_uses selector) (selectors_uses rest) u) h)
        (λ t v. accesses_fine os rest g.0 to t c v g.1
        (back program r (selector_uses selector) (selectors_uses rest) u) h)

    selector_fine : (os : List Shape) (selector : Selector) (rest : Selectors) (from to : Part) (s : Spot) (c : Context)
        (w : World) → SelectorsFit scope os (selector_before selector rest) from to
        → Known program r (selector_uses selector) → Here program r active c
        → Avoids IsStack (at_selector call selector s c w)
    selector_fine os (Element type e line) rest from to s c w f u h = then_fine IsStack _ _
        (value_fine os e NumberSort c w f.2 u h)
        (λ x v. (choice_fine IsStack (is_between (index_of type).low (number_of x) (index_of type).high) _ _ (λ t. tt)
        (λ t. no_stop)) v)
    selector_fine os (Field type number) rest from to s c w f u h = tt
    selector_fine os (Target pointer line) rest from to s c w f u h = then_fine IsStack (contents s w) _ tt
        (λ x v. (object_fine IsStack no_error x line c) v)

    pub value_fine : (os : List Shape) (e : Expr) (sort : Sort) (c : Context) (w : World) → ExprFits scope os e sort
        → Known program r (expr_uses e) → Here program r active c → Avoids IsStack (value call e c w)
    value_fine os (Number n) sort c w f u h = tt
    value_fine os Nil sort c w f u h = tt
    value_fine os (Load p) sort c w f u h = then_fine IsStack _ _ (access_fine os p f.0 c w f.2 u h) (λ s v. tt)
    value_fine os (Plus e) sort c w f u h = value_fine os e NumberSort c w f.1 u h
    value_fine os (Minus e line) sort c w f u h = then_fine IsStack _ _ (value_fine os e NumberSort c w f.1 u h)
        (λ x v. (settled_fine IsStack no_error _ line c) v)
    value_fine os (Not e) sort c w f u h = then_fine IsStack _ _ (value_fine os e NumberSort c w f.1 u h) (λ x v. tt)
    value_fine os (Arithmetic e steps) sort c w f u h = then_fine IsStack _ _
        (value_fine os e NumberSort c w f.1 (front program r (expr_uses e) (steps_uses steps) u) h)
        (λ x v. computed_fine os steps (number_of x) c v f.2 (back program r (expr_uses e) (steps_uses steps) u) h)
    value_fine os (Logic operator e rest) sort c w f u h = then_fine IsStack _ _
        (value_fine os e NumberSort c w f.1 (front program r (expr_uses e) (operands_uses rest) u) h)
        (λ x v. combined_fine os operator rest (is_true (number_of x)) c v f.2
        (back program r (expr_uses e) (operands_uses rest) u) h)
    value_fine os (Compare relation a b) sort c w f u h = then_fine IsStack _ _
        (value_fine os a NumberSort c w f.1 (front program r (expr_uses a) (expr_uses b) u) h)
        (λ x v. then_fine IsStack _ _ (value_fine os b NumberSort c v f.2
        (back program r (expr_uses a) (expr_uses b) u) h)
        (λ y t. tt))
    value_fine os (ComparePointers relation a b) sort c w f u h = then_fine IsStack _ _
        (value_fine os a (PointerSort f.1.0) c w f.1.1 (front program r (expr_uses a) (expr_uses b) u) h)
        (λ x v. then_fine IsStack _ _ (value_fine os b (PointerSort f.1.0) c v f.1.2
        (back program r (expr_uses a) (expr_uses b) u) h) (λ y t. tt))
    value_fine os (CompareSets relation a b) sort c w f u h = then_fine IsStack _ _
        (set_fine os a c w f.1 (front program r (set_uses a) (set_uses b) u) h)
        (λ x v. then_fine IsStack _ _ (set_fine os b c v f.2 (back program r (set_uses a) (set_uses b) u) h)
        (λ y t. tt))
    value_fine os (CompareStrings relation a b) sort c w f u h =
        then_fine IsStack _ _ (operand_fine os a c w (structure_operand scope os a f.1)
        (front program r (structure_uses a) (structure_uses b) u) h) (λ x v.
        then_fine IsStack _ _ (operand_fine os b c v (structure_operand scope os b f.2)
        (back program r (structure_uses a) (structure_uses b) u) h) (λ y t.
        then_fine IsStack _ _ ((held_fine IsStack no_error x) t)
        (λ p q. then_fine IsStack _ _ ((held_fine IsStack no_error y) q) (λ p' q'. tt))))
    value_fine os (In a b) sort c w f u h = then_fine IsStack _ _
        (value_fine os a NumberSort c w f.1 (front program r (expr_uses a) (set_uses b) u) h)
        (λ x v. then_fine IsStack _ _ (set_fine os b c v f.2 (back program r (expr_uses a) (set_uses b) u) h)
        (λ y t. tt))
    value_fine os (Apply function e line) sort c w f u h = then_fine IsStack _ _
        (value_fine os e NumberSort c w f.2 u h)
        (λ x v. (settled_fine IsStack no_error _ line c) v)
    value_fine os Eof sort c w f u h = tt
    value_fine os (Eoln line) sort c w f u h = then_fine IsStack (look w) _ tt
        (λ x v. (line_end_fine IsStack no_error x line c) v)
    value_fine os (Call s up arguments line) sort c w f u h =
        let kinds = kinds_of (routine_at program s).formals in
        after IsStack (λ xs. ActualsAre program xs kinds) (λ v. Unit {0}) (actuals_of call arguments c w) _
        (actuals_fine os arguments kinds c w f.2 u.1 h) (λ xs v are.
        function_fine s (above c.env up) xs (calling line c) v (named_fine s up line xs c v f.0 u.0 h are))
    value_fine os (CallFormal up index arguments line) sort c w f u h =
        let closed = formal_is program c.env (routine_at program r).chain up index f.1.0 (Some f.1.1.0) h.1 f.0 f.1.1.1
        in
        after IsStack (λ xs. ActualsAre program xs f.1.0) (λ v. Unit {0}) (actuals_of call arguments c w) _
        (actuals_fine os arguments f.1.0 c w f.1.2 u.1 h) (λ xs v are.
        function_fine (routine_in (frame_of (above c.env up)) index) (env_in (frame_of (above c.env up)) index) xs
        (calling line c) v (formal_fine up index line f.1.0 (Some f.1.1.0) xs c v closed u.0 h are))

    computed_fine : (os : List Shape) (steps : ArithmeticSteps) (x : ℤ) (c : Context) (w : World)
        → StepsFit scope os steps → Known program r (steps_uses steps) → Here program r active c → Avoids IsStack
        (computed call steps x c w)
    computed_fine os no_arithmetic_step x c w f u h = tt
    computed_fine os (arithmetic_step_before operator e line rest) x c w f u h = then_fine IsStack _ _
        (value_fine os e NumberSort c w f.0 (front program r (expr_uses e) (steps_uses rest) u) h)
        (λ y v. then_fine IsStack _ _ ((settled_fine IsStack no_error _ line c) v)
        (λ z t. computed_fine os rest (number_of z) c t f.1 (back program r (expr_uses e) (steps_uses rest) u) h))

    combined_fine : (os : List Shape) (operator : BooleanOperator) (operands : Operands) (x : Bool) (c : Context)
        (w : World) → OperandsFit scope os operands → Known program r (operands_uses operands) → Here program r active c
        → Avoids IsStack (combined call operator operands x c w)
    combined_fine os operator no_operand x c w f u h = tt
    combined_fine os operator (operand_before e rest) x c w f u h = then_fine IsStack _ _
        (value_fine os e NumberSort c w f.0 (front program r (expr_uses e) (operands_uses rest) u) h)
        (λ y v. combined_fine os operator rest (combine_truths operator x (is_true (number_of y))) c v f.1
        (back program r (expr_uses e) (operands_uses rest) u) h)

    pub set_fine : (os : List Shape) (e : SetExpr) (c : Context) (w : World) → SetFits scope os e → Known program r
        (set_uses e) → Here program r active c → Avoids IsStack (set_value call e c w)
    set_fine os (LoadSet p) c w f u h = then_fine IsStack _ _ (access_fine os p _ c w f u h) (λ s v. tt)
    set_fine os (Constructor members) c w f u h = members_fine os members c w f u h
    set_fine os (Combine e steps) c w f u h = then_fine IsStack _ _
        (set_fine os e c w f.0 (front program r (set_uses e) (set_steps_uses steps) u) h)
        (λ x v. sets_fine os steps x c v f.1 (back program r (set_uses e) (set_steps_uses steps) u) h)

    sets_fine : (os : List Shape) (steps : SetSteps) (x : ℕ → Bool) (c : Context) (w : World)
        → SetStepsFit scope os steps → Known program r (set_steps_uses steps) → Here program r active c → Avoids IsStack
        (sets_combined call steps x c w)
    sets_fine os no_set_step x c w f u h = tt
    sets_fine os (set_step_before operator e rest) x c w f u h = then_fine IsStack _ _
        (set_fine os e c w f.0 (front program r (set_uses e) (set_steps_uses rest) u) h)
        (λ y v. sets_fine os rest (combine_sets operator x y) c v f.1
        (back program r (set_uses e) (set_steps_uses rest) u) h)

    member_fine : (os : List Shape) (m : Member) (c : Context) (w : World) → MemberFits scope os m → Known program r
        (member_uses m) → Here program r active c → Avoids IsStack (member_value call m c w)
    member_fine os (One e line) c w f u h = then_fine IsStack _ _ (value_fine os e NumberSort c w f.0 u h)
        (λ x v. (between_fine IsStack no_error (number_of x) (number_of x) line c) v)
    member_fine os (Several a b line) c w f u h = then_fine IsStack _ _
        (value_fine os a NumberSort c w f.0 (front program r (expr_uses a) (expr_uses b) u) h)
        (λ x v. then_fine IsStack _ _ (value_fine os b NumberSort c v f.1
        (back program r (expr_uses a) (expr_uses b) u) h)
        (λ y t. (between_fine IsStack no_error (number_of x) (number_of y) line c) t))

    members_fine : (os : List Shape) (ms : Members) (c : Context) (w : World) → MembersFit scope os ms → Known program r
        (members_uses ms) → Here program r active c → Avoids IsStack (members_value call ms c w)
    members_fine os no_member c w f u h = tt
    members_fine os (member_before m rest) c w f u h = then_fine IsStack _ _
        (member_fine os m c w f.0 (front program r (member_uses m) (members_uses rest) u) h)
        (λ x v. then_fine IsStack _ _ (members_fine os rest c v f.1
        (back program r (member_uses m) (members_uses rest) u) h)
        (λ y t. tt))

    pub operand_fine : (os : List Shape) (e : Structure) (c : Context) (w : World) → IsOperand scope os e
        → Known program r (structure_uses e) → Here program r active c → Avoids IsStack (operand call e c w)
    operand_fine os (Literal characters) c w f u h = tt
    operand_fine os (Contents p type) c w f u h = then_fine IsStack _ _ (access_fine os p f.0 c w f.1 u h) (λ s v. tt)

    actual_fine : (os : List Shape) (a : Argument) (kind : Kind) (c : Context) (w : World)
        → ArgumentFits scope os a kind → Known program r (argument_uses a) → Here program r active c → Ended IsStack
        (λ x. ActualIs program x kind) (actual_of call a c w)
    actual_fine os (ByValue e range line) kind c w f u h =
        subst (λ k. Ended IsStack (λ x. ActualIs program x k) (actual_of call (ByValue e range line) c w)) (sym f.1)
        (after IsStack (λ x. Unit {0}) (λ x. ActualIs program x (Own f.0)) (value call e c w) _
        (value_fine os e f.3.0 c w f.3.2 u h) (λ x v t.
        after IsStack (λ y. Unit {0}) (λ y. ActualIs program y (Own f.0)) (fitting range x line c v) _
        (choice_fine IsStack (fits range x) _ _ (λ q. tt) (λ q. no_stop) v) (λ y q p. tt)))
    actual_fine os (BySet e low high line) kind c w f u h =
        subst (λ k. Ended IsStack (λ x. ActualIs program x k) (actual_of call (BySet e low high line) c w)) (sym f.0)
        (after IsStack (λ x. Unit {0}) (λ x. ActualIs program x (Own _)) (set_value call e c w) _
        (set_fine os e c w f.1 u h)
        (λ x v t.
        after IsStack (λ y. Unit {0}) (λ y. ActualIs program y (Own _)) (fitting_set low high x line c v) _
        (choice_fine IsStack (set_fits low high x) _ _ (λ q. tt) (λ q. no_stop) v) (λ y q p. tt)))
    actual_fine os (ByCopy e type) kind c w f u h =
        subst (λ k. Ended IsStack (λ x. ActualIs program x k) (actual_of call (ByCopy e type) c w)) (sym f.0)
        (after IsStack (λ x. Unit {0}) (λ x. ActualIs program x (Own _)) (operand call e c w) _
        (operand_fine os e c w (contents_operand scope os e _ f.2) u h) (λ x v t.
        after IsStack (λ y. Unit {0}) (λ y. ActualIs program y (Own _)) (contents_of x v) _
        (held_fine IsStack no_error x v) (λ y q p. tt)))
    actual_fine os (ByVariable p) kind c w f u h =
        subst (λ k. Ended IsStack (λ x. ActualIs program x k) (actual_of call (ByVariable p) c w)) (sym f.1)
        (after IsStack (λ x. Unit {0}) (λ x. ActualIs program x (Reference f.0)) (access call p c w) _
        (access_fine os p (Whole f.0) c w f.2 u h) (λ x v t. tt))
    actual_fine os (ByRoutine s up) kind c w f u h =
        let there = declared_is s up c f.0 h in
        subst (λ k. Ended IsStack (λ x. ActualIs program x k) (actual_of call (ByRoutine s up) c w)) (sym f.1)
        (there.0, refl, (r, u.0), there.1)
    actual_fine os (ByFormal up index) kind c w f u h =
        subst (λ k. Ended IsStack (λ x. ActualIs program x k) (actual_of call (ByFormal up index) c w)) (sym f.1.1.1)
        (formal_is program c.env (routine_at program r).chain up index f.1.0 f.1.1.0 h.1 f.0 f.1.1.2)

    pub actuals_fine : (os : List Shape) (arguments : Arguments) (kinds : Kinds) (c : Context) (w : World)
        → ArgumentsFit scope os arguments kinds → Known program r (arguments_uses arguments) → Here program r active c
        → Ended IsStack (λ xs. ActualsAre program xs kinds) (actuals_of call arguments c w)
    actuals_fine os no_argument kinds c w f u h = subst
        (λ ks. Ended IsStack (λ xs. ActualsAre program xs ks) (actuals_of call no_argument c w)) (sym f) tt
    actuals_fine os (argument_before a rest) kinds c w f u h =
        subst (λ ks. Ended IsStack (λ xs. ActualsAre program xs ks) (actuals_of call (argument_before a rest) c w))
        (sym f.1.1)
        (after IsStack (λ x. ActualIs program x f.0) (λ xs. ActualsAre program xs _) (actual_of call a c w) _
        (actual_fine os a f.0 c w f.1.2 (front program r (argument_uses a) (arguments_uses rest) u) h) (λ x v is.
        after IsStack (λ xs. ActualsAre program xs f.1.0) (λ xs. ActualsAre program xs _) (actuals_of call rest c v) _
        (actuals_fine os rest f.1.0 c v f.1.3 (back program r (argument_uses a) (arguments_uses rest) u) h)
        (λ xs t are. (is, are))))
