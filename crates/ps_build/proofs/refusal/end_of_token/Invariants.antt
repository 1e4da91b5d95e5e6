-- The tokens that are left have the same end.
use Rattle.std.proofs.Common.{◌≡◌, length}
use Rattle.ps_build.specs.Refusals.{end_of_token}
use Rattle.ps_build.proofs.refusal.end_of_token.Given as goal

abbrev pub invariant-loop-tokens : goal.invariant-loop-tokens
invariant-loop-tokens l = end_of_token l.initial.tokens l.at ≡ end_of_token l.tokens l.at

abbrev pub decreases-loop-tokens : goal.decreases-loop-tokens
decreases-loop-tokens l = length l.tokens
