use Rattle.std.proofs.Common.{◌+◌, ◌*◌, max}
use Rattle.ps_syntax.specs.declared.statement.Statement.{size-Statement}
use Rattle.ps_tree.specs.View.{statement_of}
use Rattle.ps_check_expressions.specs.View.{context_at, regions_at}
use Rattle.ps_check_statements.specs.Statements as spec
use Rattle.ps_check_statements.proofs.Loops.{Added, Collected}
use Rattle.ps_check_statements.proofs.statement.+statement.Given as goal

abbrev pub invariant-statements-loop-syntax : goal.invariant-statements-loop-syntax
invariant-statements-loop-syntax l = Added (λ s. spec.statement s (context_at l.site) (regions_at l.site)) statement_of
    l.list l.fn.changes.items l.syntax-index l.typed.items l.changes.items

abbrev pub invariant-elements-loop-syntax : goal.invariant-elements-loop-syntax
invariant-elements-loop-syntax l = Collected (context_at l.site)
    (regions_at l.site) l.index l.list l.fn.changes.items l.syntax-index l.seen.keys l.typed.items l.changes.items

-- The depth of the statement, and then what is called for one of the same depth.

abbrev pub decreases-statement : goal.decreases-statement
decreases-statement l = goal.size-statement l * 4

abbrev pub decreases-boxed : goal.decreases-boxed
decreases-boxed l = goal.size-boxed l * 4 + 1

abbrev pub decreases-statements : goal.decreases-statements
decreases-statements l = goal.size-statements l * 4 + 1

abbrev pub decreases-governed : goal.decreases-governed
decreases-governed l = goal.size-governed l * 4 + 2

abbrev pub decreases-if_else_statement : goal.decreases-if_else_statement
decreases-if_else_statement l = max (goal.size-if_else_statement l) (size-Statement l.otherwise.now) * 4 + 3

abbrev pub decreases-repeat_statement : goal.decreases-repeat_statement
decreases-repeat_statement l = goal.size-repeat_statement l * 4 + 2

abbrev pub decreases-element : goal.decreases-element
decreases-element l = goal.size-element l * 4 + 1

abbrev pub decreases-elements : goal.decreases-elements
decreases-elements l = goal.size-elements l * 4 + 2

abbrev pub decreases-case_statement : goal.decreases-case_statement
decreases-case_statement l = goal.size-case_statement l * 4 + 3

abbrev pub decreases-for_statement : goal.decreases-for_statement
decreases-for_statement l = goal.size-for_statement l * 4 + 2

abbrev pub decreases-with_statement : goal.decreases-with_statement
decreases-with_statement l = goal.size-with_statement l * 4 + 2
