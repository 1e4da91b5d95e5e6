use Rattle.std.proofs.lemmas.List.{map-set}
use Rattle.std.proofs.Common.{rules, Some}
use Rattle.ps_check.specs.Views.{finished_of}
use Rattle.ps_check.proofs.routines.put.Goals as goal

pub returns-clause-routines : goal.returns-clause-routines
returns-clause-routines c = search (
  rules,
  map-set finished_of c.args.gathered.now.routines.items c.args.number
      (Some c.args.routine),
)
