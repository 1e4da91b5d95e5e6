use Rattle.ps_check_judgement.proofs.Lists.{Stepped}
use Rattle.ps_check.specs.Programs.{list_file, no_files}
use Rattle.ps_check.specs.Views.{files_of}
use Rattle.ps_check.proofs.program.list_files.Given as goal

abbrev pub invariant-loop-at : goal.invariant-loop-at
invariant-loop-at l = Stepped (list_file l.reading.source.now) no_files l.parameters l.at-index (files_of l.files)
