use Rattle.std.proofs.Common.{map}
use Rattle.ps_check_names.specs.Views.{meaning_of}
use Rattle.ps_check_declarations.proofs.DenoterLemmas.{Values}
use Rattle.ps_check_declarations.proofs.denoters.ordinals.define_values.Given as goal

abbrev pub invariant-loop-value : goal.invariant-loop-value
invariant-loop-value l = Values l.ordinal (map meaning_of l.fn.known.items) l.names l.value
    (map meaning_of l.known.items)
