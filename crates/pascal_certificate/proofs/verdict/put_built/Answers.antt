use Rattle.pascal_certificate.proofs.Lines.{three_put, written}
use Rattle.pascal_certificate.proofs.verdict.put_built.Goals as goal

pub returns : goal.returns
returns c = written c.put-2.result _ _ c.put-2.ensures
    (λ last. three_put _ _ _ _ _ _ _ c.in_ok-put_either.ensures c.in_ok-put.ensures last)
