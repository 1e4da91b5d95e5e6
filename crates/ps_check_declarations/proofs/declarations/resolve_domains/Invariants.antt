use Rattle.std.proofs.Common.{◌≡◌}
use Rattle.ps_check_judgement.proofs.Lists.{Stepped}
use Rattle.ps_check_declarations.specs.Declarations.{resolve_domain}
use Rattle.ps_check_declarations.specs.Views.{frame_of, declared_of}
use Rattle.ps_check_declarations.proofs.declarations.resolve_domains.Given as goal

abbrev pub invariant-loop-i : goal.invariant-loop-i
invariant-loop-i l =
    (l.declared.pending.items ≡ l.fn.declared.pending.items)
    × Stepped (resolve_domain (frame_of l.frame)) (declared_of l.fn.declared) l.fn.declared.pending.items l.i
    (declared_of l.declared)
