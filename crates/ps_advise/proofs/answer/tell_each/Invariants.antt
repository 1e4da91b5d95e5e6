use Rattle.std.proofs.Common.{◌≡◌, ℕ, List, []}
use Rattle.ps_build.specs.declared.refusal.Refusal.{Refusal}
use Rattle.ps_advise.specs.Trials.{HaveMendsOf, IsFirst, IsRestOf, MayBegin}
use Rattle.ps_advise.proofs.answer.tell_each.Given as goal

abbrev pub invariant-loop : goal.invariant-loop
invariant-loop l = ((text : List ℕ) → IsRestOf text l.initial.rest → HaveMendsOf text l.initial.all.items
    → HaveMendsOf text l.all.items × IsRestOf text l.rest)
    × ((refusal : Refusal) → MayBegin refusal l.initial.all.items
    → (l.initial.all.items ≡ [] → IsFirst refusal l.initial.rest)
    → MayBegin refusal l.all.items × (l.all.items ≡ [] → IsFirst refusal l.rest))
