use Rattle.std.proofs.Common.{map}
use Rattle.ps_check_judgement.proofs.Lists.{Stepped}
use Rattle.ps_check_names.specs.Views.{meaning_of}
use Rattle.ps_check.specs.Forwards.{one_complete}
use Rattle.ps_check.specs.Views.{gathered_of}
use Rattle.ps_check.proofs.routines.all_complete.Given as goal

abbrev pub invariant-loop-meaning : goal.invariant-loop-meaning
invariant-loop-meaning l = Stepped (one_complete (gathered_of l.gathered)) tt
    (map meaning_of l.known) l.meaning-index tt
