use Rattle.ps_check_names.proofs.LengthLemmas.{Left}
use Rattle.ps_check_names.proofs.wides.are_longer.Given as goal

-- so many characters are left
abbrev pub invariant-loop-name : goal.invariant-loop-name
invariant-loop-name l = Left (λ v. v.items) l.most l.names l.name-index l.left
