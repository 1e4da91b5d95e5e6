use Rattle.ps_check_judgement.proofs.Lists.{told_bind, handed_on}
use Rattle.ps_check_judgement.proofs.Pairs.{pair_told, next_told}
use Rattle.ps_check_expressions.specs.View.{value_of}
use Rattle.ps_check_expressions.proofs.RoutineLemmas.{still_answers, next_answers, next_passed, pair_answers}
use Rattle.ps_check_expressions.proofs.members.several.Goals as goal

pub returns-in_err-from : goal.returns-in_err-from
returns-in_err-from c = λ m n before between after hf ht. handed_on _ _ _ _ c.from_residual.ensures.1
    (next_told _ _ (λ v. value_of v) (λ v. (value_of v, after)) between (m before) n _ _ hf ht c.in_err-from.ensures)

pub returns-in_err-from-2 : goal.returns-in_err-from-2
returns-in_err-from-2 c = λ m n before between after hf ht. handed_on _ _ _ _ c.from_residual-in_err-from-2.ensures.1
    (next_passed _ _ _ (λ v. value_of v) (λ v. (value_of v, after)) between (m before) n _ _ _ hf ht
    c.in_ok-from.ensures
    (told_bind _ _ _ (pair_told _ _ _ _ _ _ _ _ c.ordinal_of.ensures c.ordinal_of-2.ensures c.in_err-from-2.ensures)))

pub returns : goal.returns
returns c = λ m n before between after hf ht. next_answers _ _ _ _ (λ v. value_of v)
    (λ v. (value_of v, after)) between (m before) n _ _ _ hf ht c.in_ok-from.ensures
    (still_answers _ _ _ _ (pair_answers _ _ _ _ _ _ _ _ _ _ _ c.ordinal_of.ensures c.ordinal_of-2.ensures
    c.in_ok-from-2.ensures c.range.ensures))
