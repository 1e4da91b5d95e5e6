use Rattle.std.proofs.Common.{◌≤◌, ◌-◌, length}
use Rattle.ps_scan.proofs.Scans.{IsScanned}
use Rattle.ps_scan.proofs.scanner.scan.Given as goal

abbrev pub invariant-loop-at : goal.invariant-loop-at
invariant-loop-at l = (l.at ≤ length l.text) × IsScanned l.text l.at l.tokens.items

abbrev pub decreases-loop-at : goal.decreases-loop-at
decreases-loop-at l = length l.text - l.at
