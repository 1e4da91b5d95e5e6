use Rattle.std.proofs.Common.{◌≡◌, ◌+◌, ◌*◌, ◌-◌, ◌≤◌, drop, fold}
use Rattle.ps_scan.specs.declared.TheConstants.{MAX_NUMBER}
use Rattle.ps_scan.specs.Lexemes.{digits_value}
use Rattle.ps_scan.proofs.values.small_value.Given as goal

abbrev pub invariant-loop-digit : goal.invariant-loop-digit
invariant-loop-digit l = (fold (λ n b. 10 * n + (b - 48)) l.value (drop l.digit-index l.digits) ≡ digits_value l.digits)
    × (l.value ≤ MAX_NUMBER)
