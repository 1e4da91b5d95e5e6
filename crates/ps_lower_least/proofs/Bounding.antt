-- The code of a part has at least the number that is counted for it.
use Rattle.std.proofs.Common.{◌≡◌, ◌⊎◌, ⊎_elim, inl, inr, ℕ, suc, ◌+◌, ◌≤◌, None, Bool, true, false, List, []}
use Rattle.std.proofs.Common.{◌∷◌, ◌++◌, length, refl, sym, subst, arith, length-append, if◌then◌else◌}
use Rattle.ps_tree.specs.declared.tree.operators.SetOperator.{SetOperator}
use Rattle.ps_tree.specs.declared.tree.operators.BooleanOperator.{BooleanOperator}
use Rattle.ps_tree.specs.declared.tree.operators.SetRelation.{SetRelation}
use Rattle.ps_tree.specs.declared.tree.operators.SetRelation.TheVariants as sets
use Rattle.ps_tree.specs.declared.tree.operators.Direction.{Direction}
use Rattle.ps_tree.specs.Types.{DataType}
use Rattle.ps_tree.specs.Tree.{Place, Variable, Element, Field, Target, Selectors, no_selector, selector_before}
use Rattle.ps_tree.specs.Tree.{ArithmeticSteps, no_arithmetic_step, arithmetic_step_before, Operands, no_operand}
use Rattle.ps_tree.specs.Tree.{operand_before, SetSteps, no_set_step, set_step_before, Expr, Number, Nil, Load, Plus}
use Rattle.ps_tree.specs.Tree.{Minus, Not, Arithmetic, Logic, Compare, ComparePointers, CompareSets, CompareStrings}
use Rattle.ps_tree.specs.Tree.{In, Apply, Eof, Eoln, Call, CallFormal, SetExpr, LoadSet, Constructor, Combine, Member}
use Rattle.ps_tree.specs.Tree.{One, Several, Members, no_member, member_before, Structure, Literal, Contents, Argument}
use Rattle.ps_tree.specs.Tree.{ByValue, BySet, ByCopy, ByVariable, ByRoutine, ByFormal, Arguments, no_argument}
use Rattle.ps_tree.specs.Tree.{argument_before, ReadVariable, ReadChar, ReadInteger, Width, DefaultWidth, GivenWidth}
use Rattle.ps_tree.specs.Tree.{WriteParameter, WriteInteger, WriteChar, WriteBoolean, WriteText, Statement, Empty}
use Rattle.ps_tree.specs.Tree.{Assign, AssignSet, AssignStructure, CallProcedure, CallFormalProcedure, Compound, If}
use Rattle.ps_tree.specs.Tree.{IfElse, Case, While, Repeat, For, With, New, Pack, Unpack, Read, Readln, Write, Writeln}
use Rattle.ps_tree.specs.Tree.{Statements, no_statement, statement_before, Elements, no_element, element_before}
use Rattle.tac_code.specs.declared.code.Base.{Base}
use Rattle.tac_code.specs.declared.code.Base.TheVariants as base
use Rattle.tac_code.specs.declared.code.Operand.{Operand}
use Rattle.tac_code.specs.declared.code.Relation.TheVariants.{NotEqual}
use Rattle.tac_code.specs.declared.code.Instruction.{Instruction}
use Rattle.tac_code.specs.declared.code.Instruction.TheVariants as i
use Rattle.ps_lower_code.specs.Scopes.{even_from, beside, words_code, unless_known, Site, Scope}
use Rattle.ps_lower_code.specs.Values.{literal_of, negated, known_steps, index_code, minus_code, one_code}
use Rattle.ps_lower_code.specs.Values.{clear_code, sets_code, is_union, known_member, adds, joining_code, place_code}
use Rattle.ps_lower_code.specs.Values.{selectors_code, front_code, steps_code, operands_code, asked_code, set_code}
use Rattle.ps_lower_code.specs.Values.{set_steps_code, adding_code, members_code, member_code, structure_code}
use Rattle.ps_lower_code.specs.Values.{argument_code, arguments_code}
use Rattle.ps_lower_code.specs.Statements.{read_code, reads_code, width_code, write_code, writes_code, with_code}
use Rattle.ps_lower_code.specs.Statements.{past_relation, turns_code, for_code, tests_code, statement_code}
use Rattle.ps_lower_code.specs.Statements.{statements_code, elements_code}
use Rattle.ps_lower_least.specs.Fewest.{place_fewest, selectors_fewest, expr_fewest, steps_fewest, operands_fewest}
use Rattle.ps_lower_least.specs.Fewest.{set_fewest, set_steps_fewest, member_fewest, members_fewest, structure_fewest}
use Rattle.ps_lower_least.specs.Fewest.{argument_fewest, arguments_fewest, places_fewest, read_fewest, reads_fewest}
use Rattle.ps_lower_least.specs.Fewest.{width_fewest, write_fewest, writes_fewest, statement_fewest, statements_fewest}
use Rattle.ps_lower_least.specs.Fewest.{elements_fewest}

-- ---- pieces

-- the first piece, the second, and both
pub first : (n : ℕ) (a b : List Instruction) → n ≤ length a → n ≤ length (a ++ b)
first n a b h = let e : length (a ++ b) ≡ length a + length b = length-append a b in omega (arith, e, h)

pub second : (n : ℕ) (a b : List Instruction) → n ≤ length b → n ≤ length (a ++ b)
second n a b h = let e : length (a ++ b) ≡ length a + length b = length-append a b in omega (arith, e, h)

pub both : (m n : ℕ) (a b : List Instruction) → m ≤ length a → n ≤ length b → m + n ≤ length (a ++ b)
both m n a b g h = let e : length (a ++ b) ≡ length a + length b = length-append a b in omega (arith, e, g, h)

none_first : (n m : ℕ) → n ≤ m → 0 + n ≤ m
none_first n m h = omega (arith, h)

-- an instruction before
further : (n m : ℕ) → n ≤ m → n ≤ suc m
further n m h = omega (arith, h)

-- a call behind what it passes
called : (n : ℕ) (a b : List Instruction) (j : Instruction) → n ≤ length a → 1 + n ≤ length ((a ++ b) ++ j ∷ [])
called n a b j h =
    let e : length ((a ++ b) ++ j ∷ []) ≡ length (a ++ b) + 1 = length-append (a ++ b) (j ∷ []) in
    let f : length (a ++ b) ≡ length a + length b = length-append a b in
    omega (arith, e, f, h)

-- nine instructions behind; and without them
copied : (n : ℕ) (a b : List Instruction) → n ≤ length a → 9 ≤ length b → 9 + n ≤ length (a ++ b)
copied n a b h g = let e : length (a ++ b) ≡ length a + length b = length-append a b in omega (arith, e, g, h)

dropped : (n m : ℕ) → 9 + n ≤ m → n ≤ m
dropped n m h = omega (arith, h)

eight_words : (to from : Base) (o p v : ℕ) → 9 ≤ length (words_code to o from p v 8)
unfolding words_code
eight_words to from o p v = omega arith

-- ---- what is known has no code

-- an expression whose negative is known, or which is known itself, counts nothing
negated_or : (e : Expr) → (expr_fewest e ≡ 0) ⊎ (negated e ≡ None)
negated_or (Number n) = inl refl
negated_or Nil = inr refl
negated_or (Load p) = inr refl
negated_or (Plus e) = inr refl
negated_or (Minus e line) = inr refl
negated_or (Not e) = inr refl
negated_or (Arithmetic e steps) = inr refl
negated_or (Logic operator e rest) = inr refl
negated_or (Compare relation a b) = inr refl
negated_or (ComparePointers relation a b) = inr refl
negated_or (CompareSets relation a b) = inr refl
negated_or (CompareStrings relation a b) = inr refl
negated_or (In a b) = inr refl
negated_or (Apply function e line) = inr refl
negated_or Eof = inr refl
negated_or (Eoln line) = inr refl
negated_or (Call r up arguments line) = inr refl
negated_or (CallFormal up index arguments line) = inr refl

known_or : (e : Expr) → (expr_fewest e ≡ 0) ⊎ (literal_of e ≡ None)
known_or (Number n) = inl refl
known_or Nil = inl refl
known_or (Load p) = inr refl
known_or (Plus e) = inr refl
known_or (Minus e line) = negated_or e
known_or (Not e) = inr refl
known_or (Arithmetic e steps) = inr refl
known_or (Logic operator e rest) = inr refl
known_or (Compare relation a b) = inr refl
known_or (ComparePointers relation a b) = inr refl
known_or (CompareSets relation a b) = inr refl
known_or (CompareStrings relation a b) = inr refl
known_or (In a b) = inr refl
known_or (Apply function e line) = inr refl
known_or Eof = inr refl
known_or (Eoln line) = inr refl
known_or (Call r up arguments line) = inr refl
known_or (CallFormal up index arguments line) = inr refl

nothing : (m n : ℕ) → m ≡ 0 → m ≤ n
nothing m n e = omega (arith, e)

unknown_least : (e : Expr) (code : List Instruction) → expr_fewest e ≤ length code → expr_fewest e ≤ length
    (unless_known (literal_of e) code)
unknown_least e code h = ⊎_elim
    (λ z. nothing (expr_fewest e) _ z)
    (λ n. subst (λ o. expr_fewest e ≤ length (unless_known o code)) (sym n) h)
    (known_or e)

index_least : (e : Expr) (type : DataType) (s : Site) (t at line : ℕ) (code : List Instruction) → expr_fewest e
    ≤ length code → expr_fewest e ≤ length (index_code (known_steps type (literal_of e)) type s t at line code)
index_least e type s t at line code h = ⊎_elim
    (λ z. nothing (expr_fewest e) _ z)
    (λ n. subst (λ o. expr_fewest e ≤ length (index_code (known_steps type o) type s t at line code)) (sym n)
    (first (expr_fewest e) code _ h))
    (known_or e)

minus_least : (e : Expr) (d t line : ℕ) (code : List Instruction) → expr_fewest e ≤ length code → expr_fewest e
    ≤ length (minus_code (negated e) d t line code)
minus_least e d t line code h = ⊎_elim
    (λ z. nothing (expr_fewest e) _ z)
    (λ n. subst (λ o. expr_fewest e ≤ length (minus_code o d t line code)) (sym n)
    (first (expr_fewest e) code _ h))
    (negated_or e)

one_least : (e : Expr) (t x : ℕ) (code : List Instruction) → expr_fewest e ≤ length code → expr_fewest e ≤ length
    (one_code (known_member (literal_of e)) t x code)
one_least e t x code h = ⊎_elim
    (λ z. nothing (expr_fewest e) _ z)
    (λ n. subst (λ o. expr_fewest e ≤ length (one_code (known_member o) t x code)) (sym n) h)
    (known_or e)

-- ---- expressions

either_least : (n : ℕ) (b : Bool) (x y : List Instruction) → n ≤ length x → n ≤ length y → n ≤ length
    (if b then x else y)
either_least n true x y g h = g
either_least n false x y g h = h

module _ (k : Scope) where
  cleared_least : (t x : ℕ) → 9 ≤ length (clear_code k t x)
  cleared_least t x = omega arith

  sets_least : (relation : SetRelation) (t x : ℕ) → 3 ≤ length (sets_code k relation t x)
  sets_least sets.Included t x = omega arith
  sets_least sets.Includes t x = omega arith
  sets_least sets.Same t x = omega arith
  sets_least sets.Other t x = omega arith

  -- a set that is asked for by its members
  constructed : (members : Members) (t x : ℕ) → members_fewest members ≤ length (members_code k members t x)
      → members_fewest members ≤ length (asked_code k (Constructor members) t x)
  constructed members t x h = first (members_fewest members)
      (clear_code k (even_from t) x ++ members_code k members t x) (i.Offset t base.Scratch x 32 ∷ [])
      (second (members_fewest members) (clear_code k (even_from t) x) (members_code k members t x) h)

  mutual
    pub place_least : (p : Place) (d x : ℕ) → place_fewest p ≤ length (place_code k p d x)
    place_least (Variable name selectors) d x = second _ _ _ (selectors_least selectors _ _ x)

    selectors_least : (selectors : Selectors) (s : Site) (t x : ℕ) → selectors_fewest selectors ≤ length
        (selectors_code k selectors s t x)
    selectors_least no_selector s t x = omega arith
    selectors_least (selector_before (Element type e line) rest) s t x = both _ _ _ _
        (index_least e type s t _ line _ (first _ _ _ (front_least e _ x))) (selectors_least rest _ t x)
    selectors_least (selector_before (Field type number) rest) s t x = none_first _ _ (selectors_least rest _ t x)
    selectors_least (selector_before (Target pointer line) rest) s t x =
        none_first _ _ (further _ _ (further _ _ (selectors_least rest _ t x)))

    pub front_least : (e : Expr) (d x : ℕ) → expr_fewest e ≤ length (front_code k e d x)
    front_least (Number n) d x = omega arith
    front_least Nil d x = omega arith
    front_least (Load p) d x = first _ _ _ (place_least p d x)
    front_least (Plus e) d x = first _ _ _ (front_least e d x)
    front_least (Minus e line) d x = minus_least e d _ line _ (first _ _ _ (front_least e _ x))
    front_least (Not e) d x = front_least e d x
    front_least (Arithmetic e steps) d x = first _ _ _ (both _ _ _ _ (first _ _ _ (front_least e _ x))
        (steps_least steps _ x))
    front_least (Logic operator e rest) d x = first _ _ _ (both _ _ _ _ (first _ _ _ (front_least e _ x))
        (operands_least operator rest _ x))
    front_least (Compare relation a b) d x = both _ _ _ _ (first _ _ _ (front_least a _ x))
        (unknown_least b _ (first _ _ _ (front_least b _ x)))
    front_least (ComparePointers relation a b) d x = both _ _ _ _ (first _ _ _ (front_least a _ x))
        (unknown_least b _ (first _ _ _ (front_least b _ x)))
    front_least (CompareSets relation a b) d x =
        let h : ((9 + set_fewest a) + (9 + set_fewest b)) + 3 ≤ length (front_code k (CompareSets relation a b) d x) =
        first _ _ _ (both _ _ _ _ (both _ _ _ _ (set_least a _ x) (set_least b _ _)) (sets_least relation _ x)) in
        omega (arith, h)
    front_least (CompareStrings relation a b) d x = first _ _ _ (both _ _ _ _ (structure_least a _ x)
        (structure_least b _ x))
    front_least (In a b) d x = first _ _ _ (both _ _ _ _ (first _ _ _ (front_least a _ x)) (asked_least b _ x))
    front_least (Apply function e line) d x = first _ _ _ (first _ _ _ (front_least e d x))
    front_least Eof d x = omega arith
    front_least (Eoln line) d x = omega arith
    front_least (Call r up arguments line) d x = called _ _ _ _ (arguments_least arguments d x)
    front_least (CallFormal up index arguments line) d x = called _ _ _ _ (arguments_least arguments d x)

    steps_least : (steps : ArithmeticSteps) (a x : ℕ) → steps_fewest steps ≤ length (steps_code k steps a x)
    steps_least no_arithmetic_step a x = omega arith
    steps_least (arithmetic_step_before operator e line rest) a x = both _ _ _ _
        (unknown_least e _ (first _ _ _ (front_least e _ x))) (further _ _ (steps_least rest a x))

    operands_least : (operator : BooleanOperator) (rest : Operands) (a x : ℕ) → operands_fewest rest ≤ length
        (operands_code k operator rest a x)
    operands_least operator no_operand a x = omega arith
    operands_least operator (operand_before e rest) a x = both _ _ _ _ (first _ _ _ (front_least e _ x))
        (further _ _ (operands_least operator rest a x))

    asked_least : (e : SetExpr) (t x : ℕ) → set_fewest e ≤ length (asked_code k e t x)
    asked_least (LoadSet p) t x = first _ _ _ (place_least p t x)
    asked_least (Constructor members) t x = constructed members t x (members_least members t x)
    asked_least (Combine e steps) t x = first _ _ _ (both _ _ _ _ (dropped _ _ (set_least e t x))
        (set_steps_least steps t x))

    -- a set that is made is cleared or copied, word by word
    pub set_least : (e : SetExpr) (d x : ℕ) → 9 + set_fewest e ≤ length (set_code k e d x)
    set_least (LoadSet p) d x = copied _ _ _ (first _ _ _ (place_least p d x)) (eight_words _ _ _ _ _)
    set_least (Constructor members) d x = both 9 (members_fewest members) (clear_code k (even_from d) x)
        (members_code k members d x) (cleared_least (even_from d) x) (members_least members d x)
    set_least (Combine e steps) d x =
        let h : (9 + set_fewest e) + set_steps_fewest steps ≤ length (set_code k (Combine e steps) d x) =
        both _ _ _ _ (set_least e d x) (set_steps_least steps d x) in
        omega (arith, h)

    set_steps_least : (steps : SetSteps) (d x : ℕ) → set_steps_fewest steps ≤ length (set_steps_code k steps d x)
    set_steps_least no_set_step d x = omega arith
    set_steps_least (set_step_before operator e rest) d x = both _ _ _ _ (step_least operator e d x)
        (set_steps_least rest d x)

    step_least : (operator : SetOperator) (e : SetExpr) (d x : ℕ) → set_fewest e ≤ length
        (if adds operator e then adding_code k e d x
        else (asked_code k e (beside (even_from d)) (x + 32) ++ joining_code k operator (even_from d) x))
    step_least operator (LoadSet p) d x = first _ _ _ (first _ _ _ (place_least p _ _))
    step_least operator (Constructor members) d x = either_least _ (is_union operator) _ _ (members_least members d x)
        (first (members_fewest members) (asked_code k (Constructor members) (beside (even_from d)) (x + 32))
        (joining_code k operator (even_from d) x) (constructed members _ _ (members_least members _ _)))
    step_least operator (Combine e steps) d x = first _ _ _ (first _ _ _ (both _ _ _ _ (dropped _ _ (set_least e _ _))
        (set_steps_least steps _ _)))

    members_least : (members : Members) (d x : ℕ) → members_fewest members ≤ length (members_code k members d x)
    members_least no_member d x = omega arith
    members_least (member_before m rest) d x = both _ _ _ _ (member_least m d x) (members_least rest d x)

    member_least : (m : Member) (d x : ℕ) → member_fewest m ≤ length (member_code k m d x)
    member_least (One e line) d x = one_least e _ x _ (first _ _ _ (first _ _ _ (front_least e _ _)))
    member_least (Several a b line) d x = first _ _ _ (both _ _ _ _ (first _ _ _ (front_least a _ _))
        (first _ _ _ (front_least b _ _)))

    pub structure_least : (e : Structure) (d x : ℕ) → structure_fewest e ≤ length (structure_code k e d x)
    structure_least (Literal characters) d x = omega arith
    structure_least (Contents p type) d x = first _ _ _ (place_least p d x)

    -- the code that gives the address of a structure is never empty
    placed_least : (e : Structure) (d x : ℕ) → structure_fewest e + 1 ≤ length (structure_code k e d x)
    placed_least (Literal characters) d x = omega arith
    placed_least (Contents p type) d x = both _ _ _ _ (place_least p d x) (omega arith)

    argument_least : (a : Argument) (t x : ℕ) → argument_fewest a ≤ length (argument_code k a t x)
    argument_least (ByValue e range line) t x = first _ _ _ (first _ _ _ (front_least e t x))
    argument_least (BySet e low high line) t x =
        let h : (9 + set_fewest e) + 1 ≤ length (argument_code k (BySet e low high line) t x) =
        both _ _ _ _ (first _ _ _ (set_least e t x)) (omega arith) in
        omega (arith, h)
    argument_least (ByCopy e type) t x =
        let h : ((structure_fewest e + 1) + 3) + 1 ≤ length (argument_code k (ByCopy e type) t x) =
        both _ _ _ _ (both _ _ _ _ (placed_least e t x) (omega arith)) (omega arith) in
        omega (arith, h)
    argument_least (ByVariable p) t x = first _ _ _ (place_least p t x)
    argument_least (ByRoutine r up) t x = omega arith
    argument_least (ByFormal up index) t x = omega arith

    pub arguments_least : (list : Arguments) (d x : ℕ) → arguments_fewest list ≤ length (arguments_code k list d x)
    arguments_least no_argument d x = omega arith
    arguments_least (argument_before a rest) d x = both _ _ _ _ (argument_least a _ x) (arguments_least rest _ _)

  -- ---- statements

  read_least : (v : ReadVariable) (d : ℕ) → read_fewest v ≤ length (read_code k v d)
  read_least (ReadChar p low high line) d = first _ _ _ (first _ _ _ (first _ _ _ (place_least p _ 0)))
  read_least (ReadInteger p low high line) d = first _ _ _ (first _ _ _ (first _ _ _ (place_least p _ 0)))

  reads_least : (list : List ReadVariable) (d : ℕ) → reads_fewest list ≤ length (reads_code k list d)
  reads_least [] d = omega arith
  reads_least (v ∷ rest) d = both _ _ _ _ (read_least v d) (reads_least rest d)

  width_least : (width : Width) (n t : ℕ) → width_fewest width ≤ length (width_code k width n t)
  width_least DefaultWidth n t = omega arith
  width_least (GivenWidth e line) n t = first _ _ _ (first _ _ _ (front_least e t 0))

  write_least : (p : WriteParameter) (d : ℕ) → write_fewest p ≤ length (write_code k p d)
  write_least (WriteInteger e width) d = first _ _ _ (both _ _ _ _ (first _ _ _ (front_least e _ 0))
      (width_least width _ _))
  write_least (WriteChar e width) d = first _ _ _ (both _ _ _ _ (first _ _ _ (front_least e _ 0))
      (width_least width _ _))
  write_least (WriteBoolean e width) d = first _ _ _ (first _ _ _ (both _ _ _ _ (first _ _ _ (front_least e _ 0))
      (width_least width _ _)))
  write_least (WriteText e width) d = first _ _ _ (both _ _ _ _ (structure_least e _ 0) (width_least width _ _))

  writes_least : (list : List WriteParameter) (d : ℕ) → writes_fewest list ≤ length (writes_code k list d)
  writes_least [] d = omega arith
  writes_least (p ∷ rest) d = both _ _ _ _ (write_least p d) (writes_least rest d)

with_least : (places : List Place) (k : Scope) (c : Bool) (d : ℕ) → places_fewest places ≤ length
    (with_code k places c d)
with_least [] k c d = omega arith
with_least (p ∷ rest) k c d = both _ _ _ _ (place_least k p _ 0) (with_least rest _ c _)

-- the body of a loop
turns_least : (direction : Direction) (limit : Operand) (offset t : ℕ) (body : List Instruction) (n : ℕ) → n
    ≤ length body → n ≤ length (turns_code direction limit offset t body)
turns_least direction limit offset t body n h = further _ _ (further _ _ (first n body
    (i.Load t base.Frame offset ∷ i.BranchBack NotEqual t limit (length body + 3) ∷ []) h))

loop_least : (direction : Direction) (a : ℕ) (limit : Operand) (offset t : ℕ) (checks body : List Instruction) (n : ℕ)
    → n ≤ length body → n ≤ length (for_code direction a limit offset t checks body)
loop_least direction a limit offset t checks body n h = second n
    (i.Branch (past_relation direction) a limit (length checks + length body + 6) ∷ checks)
    (i.Store base.Frame offset a ∷ i.Jump 2 ∷ turns_code direction limit offset t body)
    (further _ _ (further _ _ (turns_least direction limit offset t body n h)))

swapped : (m n o : ℕ) → n + m ≤ o → m + n ≤ o
swapped m n o h = omega (arith, h)

mutual
  pub statement_least : (k : Scope) (s : Statement) (d : ℕ) → statement_fewest s ≤ length (statement_code k s d)
  statement_least k Empty d = omega arith
  statement_least k (Assign p range e line) d = first _ _ _ (first _ _ _ (both _ _ _ _ (place_least k p _ 0)
      (first _ _ _ (front_least k e _ 0))))
  statement_least k (AssignSet p low high e line) d = first _ _ _ (first _ _ _ (first _ _ _ (both _ _ _ _
      (place_least k p _ 0) (dropped _ _ (set_least k e _ 0)))))
  statement_least k (AssignStructure p e) d = first _ _ _ (first _ _ _ (both _ _ _ _ (place_least k p _ 0)
      (structure_least k e _ 0)))
  statement_least k (CallProcedure r up arguments line) d = called _ _ _ _ (arguments_least k arguments d 0)
  statement_least k (CallFormalProcedure up index arguments line) d = called _ _ _ _ (arguments_least k arguments d 0)
  statement_least k (Compound body) d = statements_least k body d
  statement_least k (If e s) d = both _ _ _ _ (front_least k e d 0) (further _ _ (statement_least k s d))
  statement_least k (IfElse e s t) d = both _ _ _ _ (both _ _ _ _ (front_least k e d 0)
      (further _ _ (statement_least k s d))) (further _ _ (statement_least k t d))
  statement_least k (Case e elements line) d = both _ _ _ _ (first _ _ _ (front_least k e d 0))
      (elements_least k elements d line)
  statement_least k (While e s) d = further _ _ (first _ _ _ (swapped _ _ _ (both _ _ _ _ (statement_least k s d)
      (front_least k e d 0))))
  statement_least k (Repeat body e) d = first _ _ _ (both _ _ _ _ (statements_least k body d) (front_least k e d 0))
  statement_least k (For variable low high a from_line direction b to_line s) d = both _ _ _ _ (both _ _ _ _
      (first _ _ _ (front_least k a _ 0)) (unknown_least b _ (first _ _ _ (front_least k b _ 0))))
      (loop_least _ _ _ _ _ _ _ _ (statement_least k s _))
  statement_least k (With places s) d = both _ _ _ _ (with_least places k _ d) (statement_least _ s _)
  statement_least k (New p pointer line) d = first _ _ _ (first _ _ _ (place_least k p _ 0))
  statement_least k (Pack p from_type e line q to_type) d = first _ _ _ (first _ _ _ (first _ _ _ (both _ _ _ _
      (both _ _ _ _ (place_least k p _ 0) (first _ _ _ (front_least k e _ 0)))
      (further _ _ (further _ _ (place_least k q _ 0))))))
  statement_least k (Unpack p from_type q to_type e line) d = first _ _ _ (first _ _ _ (both _ _ _ _ (both _ _ _ _
      (first _ _ _ (place_least k p _ 0)) (place_least k q _ 0)) (first _ _ _ (front_least k e _ 0))))
  statement_least k (Read variables) d = reads_least k variables d
  statement_least k (Readln variables line) d = first _ _ _ (first _ _ _ (reads_least k variables d))
  statement_least k (Write parameters) d = writes_least k parameters d
  statement_least k (Writeln parameters) d = first _ _ _ (writes_least k parameters d)

  pub statements_least : (k : Scope) (body : Statements) (d : ℕ) → statements_fewest body ≤ length
      (statements_code k body d)
  statements_least k no_statement d = omega arith
  statements_least k (statement_before s rest) d = both _ _ _ _ (statement_least k s d) (statements_least k rest d)

  elements_least : (k : Scope) (elements : Elements) (d line : ℕ) → elements_fewest elements ≤ length
      (elements_code k elements d line)
  elements_least k no_element d line = omega arith
  elements_least k (element_before constants s rest) d line =
      let tests = tests_code constants d (suc (length (statement_code k s d))) in
      both (statement_fewest s) (elements_fewest rest) (tests ++ statement_code k s d)
      (i.Jump (length (elements_code k rest d line)) ∷ elements_code k rest d line)
      (second (statement_fewest s) tests (statement_code k s d) (statement_least k s d))
      (further _ _ (elements_least k rest d line))
