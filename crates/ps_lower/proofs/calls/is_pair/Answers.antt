use Rattle.std.proofs.Common.{ap, ⊎_elim}
use Rattle.ps_tree.specs.View.{argument_of}
use Rattle.ps_lower_code.specs.Values.{argument_words, argument_end}
use Rattle.ps_lower.proofs.calls.is_pair.Goals as goal

pub returns-in-Routine-clause-words : goal.returns-in-Routine-clause-words
unfolding argument_of
returns-in-Routine-clause-words c = λ t. ⊎_elim (λ w. ap (λ a. argument_words (argument_of a) t) w.2)
    (λ w. ap (λ a. argument_words (argument_of a) t) w.2) c.in-Routine.is

pub returns-in-Routine-clause-end : goal.returns-in-Routine-clause-end
unfolding argument_of
returns-in-Routine-clause-end c = λ t. ⊎_elim (λ w. ap (λ a. argument_end (argument_of a) t) w.2)
    (λ w. ap (λ a. argument_end (argument_of a) t) w.2) c.in-Routine.is

pub returns-in-Routine-2-clause-words : goal.returns-in-Routine-2-clause-words
unfolding argument_of
returns-in-Routine-2-clause-words c = λ t. ⊎_elim (λ w. ap (λ a. argument_words (argument_of a) t) w.2)
    (λ w. ap (λ a. argument_words (argument_of a) t) w.2) c.in-Routine.is

pub returns-in-Routine-2-clause-end : goal.returns-in-Routine-2-clause-end
unfolding argument_of
returns-in-Routine-2-clause-end c = λ t. ⊎_elim (λ w. ap (λ a. argument_end (argument_of a) t) w.2)
    (λ w. ap (λ a. argument_end (argument_of a) t) w.2) c.in-Routine.is

pub returns-in-Value-clause-words : goal.returns-in-Value-clause-words
unfolding argument_of
returns-in-Value-clause-words c = λ t. ⊎_elim (λ w. ap (λ a. argument_words (argument_of a) t) w.3)
    (⊎_elim (λ w. ap (λ a. argument_words (argument_of a) t) w.4)
    (⊎_elim (λ w. ap (λ a. argument_words (argument_of a) t) w.2)
    (λ w. ap (λ a. argument_words (argument_of a) t) w.1))) c.in-Value.is

pub returns-in-Value-clause-end : goal.returns-in-Value-clause-end
unfolding argument_of
returns-in-Value-clause-end c = λ t. ⊎_elim (λ w. ap (λ a. argument_end (argument_of a) t) w.3)
    (⊎_elim (λ w. ap (λ a. argument_end (argument_of a) t) w.4)
    (⊎_elim (λ w. ap (λ a. argument_end (argument_of a) t) w.2) (λ w. ap (λ a. argument_end (argument_of a) t) w.1)))
    c.in-Value.is

pub returns-in-Value-2-clause-words : goal.returns-in-Value-2-clause-words
unfolding argument_of
returns-in-Value-2-clause-words c = λ t. ⊎_elim (λ w. ap (λ a. argument_words (argument_of a) t) w.3)
    (⊎_elim (λ w. ap (λ a. argument_words (argument_of a) t) w.4)
    (⊎_elim (λ w. ap (λ a. argument_words (argument_of a) t) w.2)
    (λ w. ap (λ a. argument_words (argument_of a) t) w.1))) c.in-Value.is

pub returns-in-Value-2-clause-end : goal.returns-in-Value-2-clause-end
unfolding argument_of
returns-in-Value-2-clause-end c = λ t. ⊎_elim (λ w. ap (λ a. argument_end (argument_of a) t) w.3)
    (⊎_elim (λ w. ap (λ a. argument_end (argument_of a) t) w.4)
    (⊎_elim (λ w. ap (λ a. argument_end (argument_of a) t) w.2) (λ w. ap (λ a. argument_end (argument_of a) t) w.1)))
    c.in-Value.is

pub returns-in-Value-3-clause-words : goal.returns-in-Value-3-clause-words
unfolding argument_of
returns-in-Value-3-clause-words c = λ t. ⊎_elim (λ w. ap (λ a. argument_words (argument_of a) t) w.3)
    (⊎_elim (λ w. ap (λ a. argument_words (argument_of a) t) w.4)
    (⊎_elim (λ w. ap (λ a. argument_words (argument_of a) t) w.2)
    (λ w. ap (λ a. argument_words (argument_of a) t) w.1))) c.in-Value.is

pub returns-in-Value-3-clause-end : goal.returns-in-Value-3-clause-end
unfolding argument_of
returns-in-Value-3-clause-end c = λ t. ⊎_elim (λ w. ap (λ a. argument_end (argument_of a) t) w.3)
    (⊎_elim (λ w. ap (λ a. argument_end (argument_of a) t) w.4)
    (⊎_elim (λ w. ap (λ a. argument_end (argument_of a) t) w.2) (λ w. ap (λ a. argument_end (argument_of a) t) w.1)))
    c.in-Value.is

pub returns-in-Value-4-clause-words : goal.returns-in-Value-4-clause-words
unfolding argument_of
returns-in-Value-4-clause-words c = λ t. ⊎_elim (λ w. ap (λ a. argument_words (argument_of a) t) w.3)
    (⊎_elim (λ w. ap (λ a. argument_words (argument_of a) t) w.4)
    (⊎_elim (λ w. ap (λ a. argument_words (argument_of a) t) w.2)
    (λ w. ap (λ a. argument_words (argument_of a) t) w.1))) c.in-Value.is

pub returns-in-Value-4-clause-end : goal.returns-in-Value-4-clause-end
unfolding argument_of
returns-in-Value-4-clause-end c = λ t. ⊎_elim (λ w. ap (λ a. argument_end (argument_of a) t) w.3)
    (⊎_elim (λ w. ap (λ a. argument_end (argument_of a) t) w.4)
    (⊎_elim (λ w. ap (λ a. argument_end (argument_of a) t) w.2) (λ w. ap (λ a. argument_end (argument_of a) t) w.1)))
    c.in-Value.is
