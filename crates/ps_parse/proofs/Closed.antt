-- A value that was read, and the token that ends it. A refusal that is passed on.
use Rattle.std.proofs.Common.{◌≡◌, Ok, Err, Result, Some, ap, sym, subst}
use Rattle.std.specs.Prelude.{◌≢◌, IsErrAnd}
use Rattle.ps_text.specs.declared.Span.{Span}
use Rattle.ps_parse_grammar.specs.Symbols.{Tokens}
use Rattle.ps_parse.specs.declared.error.ReadFailure.{ReadFailure}
use Rattle.ps_parse.specs.declared.error.ReadFailure.TheVariants.{OutOfMemory}
use Rattle.ps_parse.specs.Steps.{Outcome, Reads, left_of, and_then, pure}
use Rattle.std.specs.Result.{result_and}

pub closed : {A : Type 0} (o : Outcome Span) (end : Result Span ReadFailure) (x : A) (r : Tokens) → Reads o end r
    → Reads (and_then o (λ _. pure x)) (result_and end (Ok x)) r
closed o (Ok at) x r h = ap (λ (z : Outcome Span). and_then z (λ _. pure x)) h
closed o (Err e) x r h = λ m. ap (λ (z : Outcome Span). and_then z (λ _. pure x)) (h m)

pub closed_some : {A : Type 0} (o : Outcome Span) (end : Result Span ReadFailure) (x : A) (r : Tokens) → Reads o end r
    → Reads (and_then (and_then o (λ _. pure x)) (λ y. pure (Some y))) (result_and end (Ok (Some x))) r
closed_some o (Ok at) x r h = ap (λ (z : Outcome Span). and_then (and_then z (λ _. pure x)) (λ y. pure (Some y))) h
closed_some o (Err e) x r h = λ m. ap (λ (z : Outcome Span). and_then (and_then z (λ _. pure x)) (λ y. pure (Some y)))
    (h m)

pub refused : {A : Type 0} (o : Outcome A) (result : Result A ReadFailure) (r : Tokens) (e : ReadFailure)
    → IsErrAnd result (λ y. y ≡ e) → (e ≢ OutOfMemory → o ≡ Err (left_of e)) → Reads o result r
refused o (Ok x) r e is_e told = absurd is_e
refused o (Err y) r e is_e told = subst (λ (f : ReadFailure). f ≢ OutOfMemory → o ≡ Err (left_of f)) (sym is_e) told
