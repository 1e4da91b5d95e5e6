use Rattle.std.proofs.lemmas.Result.{on_ok_weaker}
use Rattle.ps_tree.specs.View.{type_of}
use Rattle.ps_lower.specs.Levels.{scope_of}
use Rattle.ps_lower.specs.declared.depth.TheConstants.{MAX_NUMBER}
use Rattle.ps_lower.proofs.Cores.{core_done, core_near}
use Rattle.ps_lower.proofs.firsts.begin.Goals as goal

pub begin_core-requires-clause-reach : goal.begin_core-requires-clause-reach
begin_core-requires-clause-reach c = core_near c.args.offset MAX_NUMBER (type_of c.args.ty.now)
    (type_of c.core-core.result.now) c.core-core.ensures c.requires.reach

pub returns : goal.returns
returns c =
    on_ok_weaker c.begin_core.result
    (core_done (scope_of c.args.level.now) c.args.base c.args.t c.args.offset (type_of c.args.ty.now)
    (type_of c.core-core.result.now) c.args.out.now c.begin_core.new.out c.args.tasks.now.items
    c.begin_core.new.tasks.items
    c.core-core.ensures)
    c.begin_core.ensures
