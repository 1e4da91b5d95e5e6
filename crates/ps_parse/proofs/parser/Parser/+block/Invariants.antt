use Rattle.std.proofs.Common.{◌≡◌, ◌+◌, ◌*◌, length}
use Rattle.ps_parse.specs.Steps.{if_begins, many, many_from}
use Rattle.ps_parse_grammar.specs.Forward.{is_forward}
use Rattle.ps_parse.specs.ReadPrograms as program
use Rattle.ps_parse.proofs.parser.Parser.+block.Given as goal

abbrev pub decreases-block : goal.decreases-block
decreases-block l = 16 * l.depth

abbrev pub decreases-after_heading : goal.decreases-after_heading
decreases-after_heading l = 16 * l.depth + 1

abbrev pub decreases-procedure_routine : goal.decreases-procedure_routine
decreases-procedure_routine l = 16 * l.depth + 2

abbrev pub decreases-function_routine : goal.decreases-function_routine
decreases-function_routine l = 16 * l.depth + 2

abbrev pub decreases-routine_head : goal.decreases-routine_head
decreases-routine_head l = 16 * l.depth + 3

abbrev pub decreases-routine : goal.decreases-routine
decreases-routine l = 16 * l.depth + 4

abbrev pub decreases-routines : goal.decreases-routines
decreases-routines l = 16 * l.depth + 5

abbrev pub decreases-any_block : goal.decreases-any_block
decreases-any_block l = 16 * l.depth + 6

abbrev pub invariant-routines-loop-found : goal.invariant-routines-loop-found
invariant-routines-loop-found l = many (if_begins program.begins_routine
    (program.routine (is_forward l.text) (program.read_formals l.depth)
    (program.read_block (is_forward l.text) l.depth))) l.fn.self.rest.now ≡ many_from
    (if_begins program.begins_routine (program.routine (is_forward l.text) (program.read_formals l.depth)
    (program.read_block (is_forward l.text) l.depth))) (length l.self.rest.now) l.found l.self.rest.now

abbrev pub decreases-routines-loop-found : goal.decreases-routines-loop-found
decreases-routines-loop-found l = length l.self.rest.now
