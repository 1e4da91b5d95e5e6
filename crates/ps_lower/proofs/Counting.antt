-- How many instructions routines have together.
use Rattle.std.proofs.Common.{◌≡◌, ℕ, suc, ◌+◌, ◌-◌, ◌<◌, ◌≤◌, List, [], ◌∷◌, ◌++◌, length, drop, map, get_or, Result}
use Rattle.std.proofs.Common.{sym, ap, subst, ◌∙◌, arith}
use Rattle.std.specs.Prelude.{Ok, Err, IfErr, IsErrAnd}
use Rattle.std.proofs.Math.Seq.{drop-cons}
use Rattle.tac_code.specs.declared.code.TacRoutine.{TacRoutine}
use Rattle.ps_lower.specs.declared.refusal.TheConstants.{MOST_INSTRUCTIONS}
use Rattle.ps_lower.specs.Refused.{instructions_of, IsRefused}
use Rattle.ps_lower.specs.declared.refusal.LowerRefusal.{LowerRefusal}
use Rattle.ps_lower.proofs.Mapping.{Made}
use Rattle.ps_lower.proofs.Refusing.{refused_within}

pub counted : (xs ys : List TacRoutine) → instructions_of (xs ++ ys) ≡ instructions_of xs + instructions_of ys
counted [] ys = omega arith
counted (x ∷ xs) ys = omega (arith, counted xs ys)

-- those that were made and the next one are no more than all
pub next_counted : {A B : Type 0} (one : A → B) (f : B → TacRoutine) (items : List A) (i : ℕ) (now : List TacRoutine)
    (d : A) → i < length items → Made one f items i now → instructions_of now + length
    (f (one (get_or items i d))).body ≤ instructions_of (map f (map one items))
next_counted one f items i now d h s =
    let rest = map f (map one (drop (suc i) items)) in
    let next = f (one (get_or items i d)) in
    let e : now ++ next ∷ rest ≡ map f (map one items) = ap (λ l. now ++ map f (map one l))
    (sym (drop-cons items i d h)) ∙ s.left in
    omega (arith, ap instructions_of e, counted now (next ∷ rest))

-- this many are left, from which one more routine takes its own
pub left_less : (left after : ℕ) (now next : List TacRoutine) (x : TacRoutine) → left + instructions_of now
    ≡ MOST_INSTRUCTIONS → length x.body ≤ left → after ≡ left - length x.body → next ≡ now ++ x ∷ [] → after
    + instructions_of next ≡ MOST_INSTRUCTIONS
left_less left after now next x h few e g = omega (arith, h, few, e, ap instructions_of g, counted now (x ∷ []))

-- a refusal that is passed on
pub passed_on : {X : Type 0} (r : Result X LowerRefusal) (refusal : LowerRefusal) (n : ℕ) → IsErrAnd r
    (λ y. y ≡ refusal) → IsRefused refusal n → IfErr r (λ f. IsRefused f n)
passed_on (Ok x) refusal n e h = absurd e
passed_on (Err y) refusal n e h = subst (λ f. IsRefused f n) (sym e) h

-- a routine is refused, and all with it
pub one_refused : {A B : Type 0} (one : A → B) (f : B → TacRoutine) (items : List A) (i : ℕ) (now : List TacRoutine)
    (d item : A) (refusal : LowerRefusal) → i < length items → Made one f items i now → item ≡ get_or items i d
    → IsRefused refusal (length (f (one item)).body) → IsRefused refusal (instructions_of (map f (map one items)))
one_refused one f items i now d item refusal h s is refused =
    refused_within refusal (length (f (one (get_or items i d))).body) (instructions_of (map f (map one items)))
    (let all = next_counted one f items i now d h s in omega (arith, all))
    (subst (λ x. IsRefused refusal (length (f (one x)).body)) is refused)

-- one more routine is too many
pub no_more : {A B : Type 0} (one : A → B) (f : B → TacRoutine) (items : List A) (i : ℕ) (now : List TacRoutine) (d : A)
    (left : ℕ) (item : TacRoutine) → i < length items → Made one f items i now → left + instructions_of now
    ≡ MOST_INSTRUCTIONS → item ≡ f (one (get_or items i d)) → left < length item.body
    → MOST_INSTRUCTIONS < instructions_of (map f (map one items))
no_more one f items i now d left item h s e is more =
    let all = next_counted one f items i now d h s in
    let size = ap (λ (r : TacRoutine). length r.body) is in
    omega (arith, e, more, all, size)
