-- All expressions.
use Rattle.ps_lower_constructs.proofs.Inputs.{eof_front, eoln_front}
use Rattle.ps_lower_constructs.proofs.Calling.{Callable, call_front, call_formal_front}
use Rattle.ps_lower_constructs.proofs.Arguments.{ArgumentRuns, ArgumentsRun, by_value, by_variable, by_routine}
use Rattle.ps_lower_constructs.proofs.Arguments.{by_formal, no_arguments, argument_then}
use Rattle.std.proofs.Common.{ℕ}
use Rattle.ps_tree.specs.declared.tree.operators.BooleanOperator.{BooleanOperator}
use Rattle.ps_tree.specs.declared.tree.operators.SetOperator.{SetOperator}
use Rattle.ps_tree.specs.Tree.{Variable, no_selector, selector_before, ArithmeticSteps, no_arithmetic_step}
use Rattle.ps_tree.specs.Tree.{arithmetic_step_before, Operands, no_operand, operand_before, Expr, Number, Nil, Load}
use Rattle.ps_tree.specs.Tree.{Plus, Minus, Not, Arithmetic, Logic, Compare, ComparePointers, CompareSets}
use Rattle.ps_tree.specs.Tree.{CompareStrings, In, Apply, Eof, Eoln, Call, CallFormal, Argument, ByValue, BySet}
use Rattle.ps_tree.specs.Tree.{ByCopy, ByVariable, ByRoutine, ByFormal, Arguments, no_argument, argument_before}
use Rattle.ps_meaning.specs.Expressions.{Caller}
use Rattle.ps_lower_relation.specs.Here.{Setting, Activated, IsActive}
use Rattle.ps_lower_constructs.proofs.Values.{FrontRuns, ExprRuns, ByteRuns, expr_runs_from}
use Rattle.ps_lower_constructs.proofs.Chains.{StepsRun}
use Rattle.ps_lower_constructs.proofs.Truths.{OperandsRun}
use Rattle.ps_lower_constructs.proofs.Values.{expr_bytes, number_front, nil_front}
use Rattle.ps_lower_constructs.proofs.Chains.{plus_front, minus_front, not_front}
use Rattle.ps_lower_constructs.proofs.Chains.{arithmetic_front, compare_front, no_steps, step_run}
use Rattle.ps_lower_constructs.proofs.Truths.{logic_front}
use Rattle.ps_lower_constructs.proofs.Truths.{no_operands, operands_run}
use Rattle.ps_tree.specs.Tree.{Place, Selectors, Element, Field, Target, Structure, Literal, Contents}
use Rattle.ps_lower_constructs.proofs.Functions.{apply_front}
use Rattle.ps_lower_constructs.proofs.Pointers.{compare_pointers_front}
use Rattle.ps_lower_constructs.proofs.Structures.{StructureRuns, literal_structure, contents_structure}
use Rattle.ps_lower_constructs.proofs.Compared.{compare_strings_front}
use Rattle.ps_lower_constructs.proofs.Passed.{by_copy}
use Rattle.ps_tree.specs.Tree.{SetExpr, LoadSet, Constructor, Combine, SetSteps, no_set_step, set_step_before, Member}
use Rattle.ps_tree.specs.Tree.{One, Several, Members, no_member, member_before}
use Rattle.ps_lower_constructs.proofs.SetValues.{SetRuns, AskedRuns, AddingRuns, adding_load, adding_combined}
use Rattle.ps_lower_constructs.proofs.SetValues.{adding_members, SetStepsRun, MemberRuns, MembersRun, load_set}
use Rattle.ps_lower_constructs.proofs.SetValues.{no_set_steps, set_step_then, combine}
use Rattle.ps_lower_constructs.proofs.SetMembers.{one_member, several_members}
use Rattle.ps_lower_constructs.proofs.SetMembers.{no_members, member_then, construct}
use Rattle.ps_lower_constructs.proofs.SetComparisons.{compare_sets_front}
use Rattle.ps_lower_constructs.proofs.Members.{asked_load, asked_constructor, asked_combined, in_front}
use Rattle.ps_lower_constructs.proofs.SetArguments.{by_set}
use Rattle.ps_lower_constructs.proofs.Selectors.{PlaceRuns, SelectorsRun, no_selectors, field_then, target_then}
use Rattle.ps_lower_constructs.proofs.Selectors.{element_then, place_from, load_front}

module _ (p : Setting) (n : ℕ) (call : Caller) (c : Activated) (active : IsActive p c) (calls : Callable p n call) where
  -- ---- all expressions

  mutual
    pub front_runs : (e : Expr) → FrontRuns p n call c active e
    front_runs (Number z) = number_front p n call c active z
    front_runs Nil = nil_front p n call c active
    front_runs (Load q) = load_front p n call c active q (place_run q)
    front_runs (Plus e) = plus_front p n call c active e (front_runs e)
    front_runs (Minus e line) = minus_front p n call c active e line (front_runs e)
    front_runs (Not e) = not_front p n call c active e (front_runs e)
    front_runs (Arithmetic e steps) = arithmetic_front p n call c active e steps (front_runs e) (steps_run steps)
    front_runs (Logic op e rest) = logic_front p n call c active op e rest (front_runs e) (operands_runs op rest)
    front_runs (Compare r a b) = compare_front p n call c active r a b (front_runs a) (front_runs b)
    front_runs (ComparePointers r a b) = compare_pointers_front p n call c active r a b (front_runs a) (front_runs b)
    front_runs (CompareSets r a b) = compare_sets_front p n call c active calls.does r a b (set_runs a) (set_runs b)
    front_runs (CompareStrings r a b) = compare_strings_front p n call c active calls.does r a b (structure_run a)
        (structure_run b)
    front_runs (In a b) = in_front p n call c active calls.does a b (front_runs a) (asked_runs b)
    front_runs (Apply f e line) = apply_front p n call c active f e line (front_runs e)
    front_runs Eof = eof_front p n call c active calls
    front_runs (Eoln line) = eoln_front p n call c active calls line
    front_runs (Call r up arguments line) = call_front p n call c active calls r up arguments line
        (arguments_run arguments)
    front_runs (CallFormal up index arguments line) = call_formal_front p n call c active calls up index arguments line
        (arguments_run arguments)

    pub steps_run : (steps : ArithmeticSteps) → StepsRun p n call c active steps
    steps_run no_arithmetic_step = no_steps p n call c active
    steps_run (arithmetic_step_before op e line rest) = step_run p n call c active op e line rest (front_runs e)
        (steps_run rest)

    pub operands_runs : (op : BooleanOperator) (rest : Operands) → OperandsRun p n call c active op rest
    operands_runs op no_operand = no_operands p n call c active op
    operands_runs op (operand_before e rest) = operands_run p n call c active op e rest (front_runs e)
        (operands_runs op rest)

    pub place_run : (q : Place) → PlaceRuns p n call c active q
    place_run (Variable name selectors) = place_from p n call c active name selectors (selectors_run selectors)

    pub selectors_run : (selectors : Selectors) → SelectorsRun p n call c active selectors
    selectors_run no_selector = no_selectors p n call c active
    selectors_run (selector_before (Element type e line) rest) = element_then p n call c active type e line rest
        (front_runs e) (selectors_run rest)
    selectors_run (selector_before (Field type number) rest) = field_then p n call c active type number rest
        (selectors_run rest)
    selectors_run (selector_before (Target pointer line) rest) = target_then p n call c active pointer line rest
        (selectors_run rest)

    pub structure_run : (e : Structure) → StructureRuns p n call c active e
    structure_run (Literal text) = literal_structure p n call c active text
    structure_run (Contents q type) = contents_structure p n call c active q type (place_run q)

    asked_runs : (e : SetExpr) → AskedRuns p n call c active calls.does e
    asked_runs (LoadSet q) = asked_load p n call c active calls.does q (place_run q)
    asked_runs (Constructor members) = asked_constructor p n call c active calls.does members
        (construct p n call c active calls.does members (members_run members))
    asked_runs (Combine e steps) = asked_combined p n call c active calls.does e steps
        (combine p n call c active calls.does e steps (set_runs e) (set_steps_run steps))

    pub set_runs : (e : SetExpr) → SetRuns p n call c active calls.does e
    set_runs (LoadSet q) = load_set p n call c active calls.does q (place_run q)
    set_runs (Constructor members) = construct p n call c active calls.does members (members_run members)
    set_runs (Combine e steps) = combine p n call c active calls.does e steps (set_runs e) (set_steps_run steps)

    set_steps_run : (steps : SetSteps) → SetStepsRun p n call c active calls.does steps
    set_steps_run no_set_step = no_set_steps p n call c active calls.does
    set_steps_run (set_step_before operator e rest) = set_step_then p n call c active calls.does operator e rest
        (asked_runs e) (adding_runs operator e) (set_steps_run rest)

    adding_runs : (operator : SetOperator) (e : SetExpr) → AddingRuns p n call c active calls.does operator e
    adding_runs operator (LoadSet q) = adding_load p n call c active calls.does operator q
    adding_runs operator (Constructor members) = adding_members p n call c active calls.does operator members
        (members_run members)
    adding_runs operator (Combine e steps) = adding_combined p n call c active calls.does operator e steps

    member_run : (m : Member) → MemberRuns p n call c active calls.does m
    member_run (One e line) = one_member p n call c active calls.does e line (front_runs e)
    member_run (Several a b line) = several_members p n call c active calls.does a b line (front_runs a) (front_runs b)

    members_run : (members : Members) → MembersRun p n call c active calls.does members
    members_run no_member = no_members p n call c active calls.does
    members_run (member_before m rest) = member_then p n call c active calls.does m rest (member_run m)
        (members_run rest)

    pub argument_run : (a : Argument) → ArgumentRuns p n call c active a
    argument_run (ByValue e range line) = by_value p n call c active e range line (front_runs e)
    argument_run (BySet e low high line) = by_set p n call c active calls.does e low high line (set_runs e)
    argument_run (ByCopy e type) = by_copy p n call c active calls.does e type (structure_run e)
    argument_run (ByVariable q) = by_variable p n call c active q (place_run q)
    argument_run (ByRoutine r up) = by_routine p n call c active r up
    argument_run (ByFormal up index) = by_formal p n call c active up index

    pub arguments_run : (arguments : Arguments) → ArgumentsRun p n call c active arguments
    arguments_run no_argument = no_arguments p n call c active
    arguments_run (argument_before a rest) = argument_then p n call c active a rest (argument_run a)
        (arguments_run rest)

  pub expr_runs : (e : Expr) → ExprRuns p n call c active e
  expr_runs e = expr_runs_from p n call c active e (front_runs e)

  pub byte_runs : (e : Expr) → ByteRuns p n call c active e
  byte_runs e = expr_bytes p n call c active e (front_runs e)
