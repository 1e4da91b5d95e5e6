-- What failed, and the status after it.
use Rattle.std.proofs.Common.{◌≡◌, ◌⊎◌, ◌∙◌, ◌&&◌, refl, sym, subst, ℕ, Bool, true, false, List, inl, inr}
use Rattle.ps_build.specs.Accepts.{IsRefused}
use Rattle.ps_build.specs.declared.refusal.Refusal.{Refusal}
use Rattle.pascal_cli.specs.Failures.{Answers, HasRefusal, Keeps, Tells, TellsRefusal, status_after}

-- what failed stays told
still : {a b : Bool} → Keeps a b → a ≡ true → b ≡ true
still (inl failed) e = failed
still (inr same) e = same ∙ e

-- an answer is right by what it tells
pub told_by : (a b : Type 0) (answer failed : Bool) → (answer ≡ true → a) → (answer ≡ false → b)
    → Tells answer failed a b
told_by a b true failed one other = inr (one refl)
told_by a b false failed one other = inr (other refl)

-- why a text is refused
pub refusal_told : (text : List ℕ) (refusal : Refusal) (is_of_text old new : Bool) → IsRefused text refusal
    → TellsRefusal is_of_text refusal old new → (new ≡ true) ⊎ HasRefusal text
refusal_told text refusal true old new is told = inr (refusal, is, told.0)
refusal_told text refusal false old new is told = inl told

-- an answer to what follows from the first
pub told_as : (a b c d : Type 0) (answer failed : Bool) → (a → c) → (b → d) → Tells answer failed a b
    → Tells answer failed c d
told_as a b c d true failed one other (inl e) = inl e
told_as a b c d true failed one other (inr so) = inr (one so)
told_as a b c d false failed one other (inl e) = inl e
told_as a b c d false failed one other (inr so) = inr (other so)

-- the answer to two questions
pub told_both : (a b both none : Type 0) (answer other : Bool) (before after : Bool) → Keeps before after
    → (a → b → both) → Tells answer before a none → Tells other after b none
    → Tells (answer && other) after both none
told_both a b both none true true before after kept join (inl e) two = inl (still kept e)
told_both a b both none true true before after kept join (inr one) (inl e) = inl e
told_both a b both none true true before after kept join (inr one) (inr two) = inr (join one two)
told_both a b both none true false before after kept join one two = two
told_both a b both none false other before after kept join (inl e) two = inl (still kept e)
told_both a b both none false other before after kept join (inr no_more) two = inr no_more

-- the status answers
answered : (a b : Type 0) (answer failed : Bool) → Tells answer failed a b
    → Answers (status_after answer failed) failed a b
answered a b true true told = inr (refl, inl refl)
answered a b true false (inl e) = absurd (let f = e in cc)
answered a b true false (inr so) = inl (refl, refl, so)
answered a b false true told = inr (refl, inl refl)
answered a b false false told = inr (refl, told)

pub answered_by : (a b : Type 0) (status : ℕ) (answer failed : Bool) → status ≡ status_after answer failed
    → Tells answer failed a b → Answers status failed a b
answered_by a b status answer failed e told = subst (λ s. Answers s failed a b) (sym e)
    (answered a b answer failed told)

-- the status of what was done, or failed
in_short : (a b : Type 0) (status : ℕ) (failed : Bool) → Answers status failed a b
    → (status ≡ 1) ⊎ ((status ≡ 0) × a)
in_short a b status failed (inl done) = inr (done.0, done.2)
in_short a b status failed (inr none) = inl none.0

pub done_by : (a b : Type 0) (status : ℕ) (answer failed : Bool) → status ≡ status_after answer failed
    → Tells answer failed a b → (status ≡ 1) ⊎ ((status ≡ 0) × a)
done_by a b status answer failed e told = in_short a b status failed (answered_by a b status answer failed e told)
