use Rattle.std.proofs.Common.{ap}
use Rattle.pascal_session.specs.Ahead.{ahead_bytes}
use Rattle.pascal_session.specs.Console.{held_of, has_failed, console_world}
use Rattle.ps_build.proofs.Kept.{Same}
use Rattle.pascal_cli.proofs.Settled.{kept_input, runs_through}
use Rattle.pascal_cli.proofs.runs.trace_through.Goals as goal

pub returns-in-Ok-clause-runs : goal.returns-in-Ok-clause-runs
returns-in-Ok-clause-runs g c =
    let world = console_world g.R.Read.remaining g.W.Write.contents in
    let same : Same (world c.run_traced.new.console) (world c.settled-outcome.new.console) = record {
      input = kept_input _ _ (ap (ahead_bytes g.R.Read.remaining) c.settled-outcome.ensures.input);
      output = c.settled-outcome.ensures.output;
      faults = c.settled-outcome.ensures.faults;
    } in
    runs_through c.args.tracing.prepared.now.text.mapped.built c.args.budget c.args.steps (world c.args.console.now)
    (world c.run_traced.new.console) (world c.settled-outcome.new.console) c.in-Ok.traced.outcome
    c.settled-outcome.result (held_of c.settled-outcome.new.console) (has_failed c.settled-outcome.new.console) same
    c.in-Ok.ensures.runs c.in-Ok.ensures.left c.settled-outcome.ensures.end
