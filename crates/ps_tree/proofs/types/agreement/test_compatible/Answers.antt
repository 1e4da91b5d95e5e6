use Rattle.std.proofs.Common.{sym, ◌∙◌}
use Rattle.ps_tree.proofs.Compatibility.{same_found}
use Rattle.ps_tree.proofs.types.agreement.test_compatible.Goals as goal

pub returns-then-same_type : goal.returns-then-same_type
returns-then-same_type c = c.if-same_type.true ∙ sym (same_found _ _ (sym c.same_type.ensures ∙ c.if-same_type.true))
