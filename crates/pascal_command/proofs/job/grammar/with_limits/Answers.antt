use Rattle.pascal_command.proofs.job.grammar.with_limits.Goals as goal

pub returns : goal.returns
returns c = λ app made.
    let with_stack = c.with_arg-limited.ensures app _ made
    (c.budget-stack.ensures.rule, c.budget-stack.ensures.local) in
    let with_heap = c.with_arg-limited-2.ensures _ _ with_stack
    (c.budget-heap.ensures.rule, c.budget-heap.ensures.local) in
    c.with_arg.ensures _ _ with_heap (c.step_limit.ensures.rule, c.step_limit.ensures.local)
