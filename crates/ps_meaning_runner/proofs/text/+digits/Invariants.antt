use Rattle.ps_meaning_runner.proofs.text.+digits.Given as goal

abbrev pub decreases-digits : goal.decreases-digits
decreases-digits l = l.count
