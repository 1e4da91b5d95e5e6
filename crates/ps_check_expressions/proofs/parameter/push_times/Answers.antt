use Rattle.ps_check_names.specs.SectionViews.{section_of}
use Rattle.ps_check_expressions.proofs.ParameterLemmas.{pushed_time}
use Rattle.ps_check_expressions.proofs.parameter.push_times.Goals as goal

pub loop-time-preserved : goal.loop-time-preserved
loop-time-preserved c =
    pushed_time (λ s. section_of s.now) c.loop-time.list.items c.push.new.self.items c.args.section _ c.loop-time.time
    c.in_ok-push.ensures.items c.loop-time.invariant
