use Rattle.std.proofs.Common.{inr}
use Rattle.pascal_command.specs.Wanted.{wanted_in}
use Rattle.pascal_command.proofs.OptionWords.{done, lacks, on}
use Rattle.pascal_command.proofs.options.take_words.Goals as goal

pub loop-rest-preserved : goal.loop-rest-preserved
loop-rest-preserved c =
    on c.args.command.now (wanted_in c.loop-rest.options) (wanted_in c.take_next.new.options) c.loop-rest.before
    c.in_ok-before.before c.loop-rest.rest.now _ _ c.in-len1-up.len_at_least (cc c.is_end.ensures)
    c.in_ok-before.ensures.taken c.loop-rest.invariant

pub returns-in-Some-clause-fault : goal.returns-in-Some-clause-fault
returns-in-Some-clause-fault c = inr
    (lacks c.args.command.now (wanted_in c.loop-rest.options) c.in-Some.option c.loop-rest.before c.loop-rest.rest.now _
    c.in_default.len_below c.in-Some.is c.loop-rest.invariant)

pub returns-in-None-clause-taken : goal.returns-in-None-clause-taken
returns-in-None-clause-taken c =
    done c.args.command.now (wanted_in c.loop-rest.options) c.loop-rest.before c.loop-rest.rest.now _
    c.in_default.len_below c.in-None.is c.loop-rest.invariant
