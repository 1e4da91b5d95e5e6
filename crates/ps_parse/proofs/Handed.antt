-- Answers that are passed on: with a value, in a list, on the heap.
use Rattle.std.proofs.Common.{◌⊎◌, inr, subst}
use Rattle.std.specs.Result.{result_and}
use Rattle.std.specs.Prelude.{◌≡◌, ◌≢◌, Ok, Err, Result, IsOkAnd, IfOk, IfErr}
use Rattle.ps_text.specs.declared.Span.{Span}
use Rattle.ps_parse_grammar.specs.Symbols.{Tokens}
use Rattle.ps_parse.specs.declared.error.ReadFailure.{ReadFailure}
use Rattle.ps_parse.specs.declared.error.ReadFailure.TheVariants.{OutOfMemory}
use Rattle.ps_parse.specs.Steps.{Outcome, Reads, left_of}

-- what was read
pub was_read : {A : Type 0} (o : Outcome A) (answer : Result A ReadFailure) (r : Tokens) (x : A) → Reads o answer r
    → answer ≡ Ok x → o ≡ Ok (x, r)
was_read {A = A} o answer r x h e = subst (λ (a : Result A ReadFailure). Reads o a r) e h

-- what was refused
pub was_refused : {A : Type 0} (o : Outcome A) (answer : Result A ReadFailure) (r : Tokens) (e : ReadFailure)
    → Reads o answer r → (e ≢ OutOfMemory → answer ≡ Err e) → e ≢ OutOfMemory → o ≡ Err (left_of e)
was_refused {A = A} o answer r e h told ne = subst (λ (a : Result A ReadFailure). Reads o a r) (told ne) h ne

-- what went into a list
pub was_put : {A : Type 0} (o : Outcome A) (answer : Result A ReadFailure) (r : Tokens) (P : A → Type 0)
    → Reads o answer r → IsOkAnd answer P → (x : A) × (o ≡ Ok (x, r)) × P x
was_put o (Ok x) r P h p = (x, h, p)
was_put o (Err e) r P h p = absurd p

-- what went to the heap
pub boxed : {A : Type 0} (o : Outcome A) (answer result : Result A ReadFailure) (r : Tokens) → IfOk result
    (λ x. answer ≡ Ok x) → IfErr result (λ e. e ≢ OutOfMemory → answer ≡ Err e) → Reads o answer r → Reads o result r
boxed o answer (Ok x) r ok err h = was_read o answer r x h ok
boxed o answer (Err e) r ok err h = was_refused o answer r e h err

-- what a token had to follow, by what became of it
pub was_followed : {A : Type 0} (read : Result A ReadFailure) (value : A) (o : Outcome Span)
    (end : Result Span ReadFailure) (r : Tokens) → read ≡ Ok value → Reads o end r
    → IfOk (result_and end (Ok value)) (λ v. (read ≡ Ok v) × (at : Span) × (o ≡ Ok (at, r))) × IfErr
    (result_and end (Ok value)) (λ e. e ≢ OutOfMemory → (read ≡ Err e)
    ⊎ ((v : A) × (read ≡ Ok v) × (o ≡ Err (left_of e))))
was_followed read value o (Ok at) r is h = ((is, at, h), tt)
was_followed read value o (Err e) r is h = (tt, λ ne. inr (value, is, h ne))
