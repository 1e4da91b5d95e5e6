use Rattle.std.proofs.Common.{[]}
use Rattle.ps_check_judgement.proofs.Lists.{Stepped}
use Rattle.ps_check_declarations.specs.Denoters.{index_type}
use Rattle.ps_check_declarations.specs.Views.{frame_of, hidden_of, declared_of}
use Rattle.ps_check_declarations.proofs.denoters.index_types.Given as goal

abbrev pub invariant-loop-index : goal.invariant-loop-index
invariant-loop-index l = Stepped (index_type (frame_of l.place.frame) (hidden_of l.place.hidden) l.at)
    ([], declared_of l.fn.declared) l.indices l.index-index (l.done.items, declared_of l.declared)
