-- All statements, and every task with every fuel.
use Rattle.ps_lower_constructs.proofs.Calling.{Callable, procedure_run, formal_procedure_run}
use Rattle.ps_lower_constructs.proofs.Expressions.{arguments_run}
use Rattle.ps_lower_calls.specs.Routines.{RoutinesFit}
use Rattle.std.proofs.Common.{ℕ, zero, suc, refl, arith}
use Rattle.ps_tree.specs.Tree.{Statement, Empty, Assign, AssignSet, AssignStructure, CallProcedure}
use Rattle.ps_tree.specs.Tree.{CallFormalProcedure, Compound, If, IfElse, Case, While, Repeat, For, With, New, Pack}
use Rattle.ps_tree.specs.Tree.{Unpack, Read, Readln, Write, Writeln, Statements, no_statement, statement_before}
use Rattle.ps_meaning.specs.Worlds.{World, done}
use Rattle.ps_meaning.specs.Expressions.{Caller}
use Rattle.ps_meaning.specs.Calls.{call_routine, execute}
use Rattle.ps_meaning.specs.Statements.{Task, Block, Again, Further, Next, perform}
use Rattle.ps_lower_relation.specs.Here.{Setting, costs_in, Work, Activated, IsActive, Alive}
use Rattle.ps_lower_relation.specs.Outcomes.{Runs}
use Rattle.ps_lower_constructs.specs.Openings.{Opening, context_in, IsOpened}
use Rattle.ps_lower_constructs.proofs.Runs.{here}
use Rattle.ps_lower_constructs.specs.Tasks.{Nothing, TaskStands, TaskFits, NextRuns}
use Rattle.ps_lower_relation.specs.RunTime.{WritesDo}
use Rattle.ps_tree.specs.Tree.{Elements, no_element, element_before}
use Rattle.ps_lower_constructs.proofs.Statements.{StatementRuns, StatementsRun, writes_run, writeln_run, no_statements}
use Rattle.ps_lower_constructs.proofs.Statements.{statements_then}
use Rattle.ps_lower_constructs.proofs.Assignments.{assign_run}
use Rattle.ps_lower_constructs.proofs.Repetitions.{if_run, if_else_run, while_test, while_run, repeat_run}
use Rattle.ps_lower_constructs.proofs.Turns.{turn_run, for_run}
use Rattle.ps_lower_constructs.proofs.SetStatements.{assign_set_run}
use Rattle.ps_lower_constructs.proofs.Withs.{with_run}
use Rattle.ps_lower_constructs.proofs.Assigned.{assign_structure_run}
use Rattle.ps_lower_constructs.proofs.NewObjects.{new_run}
use Rattle.ps_lower_constructs.proofs.Packing.{pack_run, unpack_run}
use Rattle.ps_lower_constructs.proofs.Reading.{read_statement_run, readln_run}
use Rattle.ps_lower_constructs.proofs.Cases.{ElementsRun, case_run, no_elements, elements_then}

module _ (p : Setting) (n : ℕ) (call : Caller) (next : Next) (c : Activated) (active : IsActive p c)
    (nexts : NextRuns p n next) (does : WritesDo p) (calls : Callable p n call) where
  mutual
    pub statement_runs : (s : Statement) → StatementRuns p n call next c active nexts does calls s
    statement_runs Empty = λ d o w k pc pc' alive opened fits st. here p (suc n) c d 0 w k pc pc'
        (Nothing done) st alive tt
    statement_runs (Assign q range e line) = assign_run p n call next c active nexts does calls q range e line
    statement_runs (AssignSet q low high e line) = assign_set_run p n call next c active nexts does calls q low high e
        line
    statement_runs (AssignStructure q e) = assign_structure_run p n call next c active nexts does calls q e
    statement_runs (CallProcedure r up arguments line) = λ d o w k pc pc' alive opened fits st. procedure_run p n call c
        active calls r up arguments line d o w k pc pc'
        (arguments_run p n call c active calls arguments) alive opened fits.0 fits.1 st
    statement_runs (CallFormalProcedure up index arguments line) = λ d o w k pc pc' alive opened fits st.
        formal_procedure_run p n call c active calls up index arguments line d o w k pc pc' fits.1.0 fits.1.1.0
        (arguments_run p n call c active calls arguments) alive opened fits.0 fits.1.1.1 fits.1.1.2 st
    statement_runs (Compound body) = λ d o w k pc pc' alive opened fits st. statements_run body d o w k pc pc' alive
        opened fits st
    statement_runs (If e s) = if_run p n call next c active nexts does calls e s (statement_runs s)
    statement_runs (IfElse e s t) = if_else_run p n call next c active nexts does calls e s t (statement_runs s)
        (statement_runs t)
    statement_runs (Case e elements line) = case_run p n call next c active nexts does calls e elements line
        (elements_run elements)
    statement_runs (While e s) = while_run p n call next c active nexts does calls e s (statement_runs s)
    statement_runs (Repeat body e) = repeat_run p n call next c active nexts does calls body e (statements_run body)
    statement_runs (For v low high a fl dir b tl s) = for_run p n call next c active nexts does calls v low high a fl
        dir b tl s (statement_runs s)
    statement_runs (With places s) = with_run p n call next c active nexts does calls places s (statement_runs s)
    statement_runs (New q pointer line) = new_run p n call next c active nexts does calls q pointer line
    statement_runs (Pack q ft e line r tt') = pack_run p n call next c active nexts does calls q ft e line r tt'
    statement_runs (Unpack q ft r tt' e line) = unpack_run p n call next c active nexts does calls q ft r tt' e line
    statement_runs (Read vs) = read_statement_run p n call next c active nexts does calls vs
    statement_runs (Readln vs line) = readln_run p n call next c active nexts does calls vs line
    statement_runs (Write ps) = λ d o w k pc pc' alive opened fits st. writes_run p n call next c active nexts does
        calls ps d o w k pc pc' alive opened fits st
    statement_runs (Writeln ps) = writeln_run p n call next c active nexts does calls ps

    pub statements_run : (ss : Statements) → StatementsRun p n call next c active nexts does calls ss
    statements_run no_statement = no_statements p n call next c active nexts does calls
    statements_run (statement_before s rest) = statements_then p n call next c active nexts does calls s rest
        (statement_runs s) (statements_run rest)

    pub elements_run : (els : Elements) → ElementsRun p n call next c active nexts does calls els
    elements_run no_element = no_elements p n call next c active nexts does calls
    elements_run (element_before constants s rest) = elements_then p n call next c active nexts does calls constants s
        rest (statement_runs s) (elements_run rest)

  -- a task, from where it goes on
  task_run : (task : Task) (d : ℕ) (o : Opening) (w : World) (k : Work) (pc pc' : ℕ) → Alive p c w k
      → IsOpened p c w k d o → TaskFits p c o task → TaskStands p c o task d k pc pc' → Runs p (suc n) c d 0 w k pc pc'
      (perform p.program (costs_in p) call next task (context_in c o) w) Nothing
  task_run (Block body) d o w k pc pc' alive opened fits st = statements_run body d o w k pc pc' alive opened fits st
  task_run (Again (While e s)) d o w k pc pc' alive opened fits st = while_test p n call next c active nexts does calls
      e s (statement_runs s) d o w k pc pc' alive opened fits st
  task_run (Again (Repeat body e)) d o w k pc pc' alive opened fits st = repeat_run p n call next c active nexts does
      calls body e (statements_run body) d o w k pc pc' alive opened fits st
  task_run (Again (Empty)) d o w k pc pc' alive opened fits st = absurd st
  task_run (Again (Assign q r e l)) d o w k pc pc' alive opened fits st = absurd st
  task_run (Again (AssignSet q low high e l)) d o w k pc pc' alive opened fits st = absurd st
  task_run (Again (AssignStructure q e)) d o w k pc pc' alive opened fits st = absurd st
  task_run (Again (CallProcedure r up args l)) d o w k pc pc' alive opened fits st = absurd st
  task_run (Again (CallFormalProcedure up index args l)) d o w k pc pc' alive opened fits st = absurd st
  task_run (Again (Compound b)) d o w k pc pc' alive opened fits st = absurd st
  task_run (Again (If e s)) d o w k pc pc' alive opened fits st = absurd st
  task_run (Again (IfElse e s t)) d o w k pc pc' alive opened fits st = absurd st
  task_run (Again (Case e els l)) d o w k pc pc' alive opened fits st = absurd st
  task_run (Again (For v low high a fl dir b tl s)) d o w k pc pc' alive opened fits st = absurd st
  task_run (Again (With ps s)) d o w k pc pc' alive opened fits st = absurd st
  task_run (Again (New q pointer l)) d o w k pc pc' alive opened fits st = absurd st
  task_run (Again (Pack q ft e l r tt')) d o w k pc pc' alive opened fits st = absurd st
  task_run (Again (Unpack q ft r tt' e l)) d o w k pc pc' alive opened fits st = absurd st
  task_run (Again (Read vs)) d o w k pc pc' alive opened fits st = absurd st
  task_run (Again (Readln vs l)) d o w k pc pc' alive opened fits st = absurd st
  task_run (Again (Write ps)) d o w k pc pc' alive opened fits st = absurd st
  task_run (Again (Writeln ps)) d o w k pc pc' alive opened fits st = absurd st
  task_run (Further v dir last s) d o w k pc pc' alive opened fits st = turn_run p n call next c active nexts does calls
      v dir last s (statement_runs s) d o w k pc pc' alive opened fits st

-- every task, with every fuel
pub execute_runs : (p : Setting) → WritesDo p → RoutinesFit p.program → (n : ℕ) → NextRuns p n
    (execute p.program (costs_in p) n)
execute_runs p does fit zero c active task d o w k pc pc' alive opened fits st =
    record { by = (0, refl, λ more. omega arith) }
execute_runs p does fit (suc n) c active task d o w k pc pc' alive opened fits st =
    let next = execute p.program (costs_in p) n in
    let nexts = execute_runs p does fit n in
    task_run p n (call_routine p.program (costs_in p) next) next c active nexts does (record {
      next = next;
      nexts = nexts;
      fit = fit;
      does = does;
      is = refl;
    }) task d o w k pc pc' alive opened fits st
