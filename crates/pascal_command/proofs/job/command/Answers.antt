use Rattle.std.proofs.Common.{Bool, false, sym, inl, inr, ◌≡◌, ◌∙◌, ap, refl, subst, true, map, [], Result, Ok, Err}
use Rattle.std.proofs.Common.{IfErr, IfOk, IfSome}
use Rattle.std.specs.Prelude.{IsErrAnd, if◌then◌else◌}
use Rattle.clap.specs.Simple.{is_simple, subcommand_of}
use Rattle.clap.specs.Faults.{fault_of, is_simple_and_free}
use Rattle.clap.specs.Kinds.{HasKind, Kinds}
use Rattle.clap.specs.Values.{kind_of}
use Rattle.clap.specs.declared.error.Error.{Error}
use Rattle.pascal_command.specs.declared.job.CommandFault.TheVariants as fault
use Rattle.std.proofs.lemmas.Bool.{true≢false}
use Rattle.pascal_command.specs.App.{HasLimits, IsLineOf, fault_in, found_digits, is_memory, pascal_app, row_request}
use Rattle.pascal_command.specs.Command.{is_line_fault, request_in}
use Rattle.pascal_command.proofs.Agreement.{is_asked, is_odd, is_refused, top_agrees}
use Rattle.pascal_command.proofs.job.command.Goals as goal

is_plain : is_simple_and_free pascal_app ≡ true
is_plain = refl

err_weaker : {X E : Type 0} (r : Result X E) (P Q : E → Type 0) → IsErrAnd r P → ((e : E) → P e → Q e) → IfErr r Q
err_weaker (Ok x) P Q is weaker = tt
err_weaker (Err e) P Q is weaker = weaker e is

told : (error : Error) (kinds : Kinds) → HasKind kinds error → IsLineOf kinds (fault_in error)
told error kinds has = go (is_memory (kind_of error)) refl has
  where
    go : (b : Bool) → is_memory (kind_of error) ≡ b → HasKind kinds error → IsLineOf kinds
        (if b then fault.OutOfMemory else fault.Line error)
    go true memory h = tt
    go false other (inl same) = absurd (true≢false (sym (ap is_memory same) ∙ other))
    go false other (inr among) = among

pub returns-in_err-matches-clause-line : goal.returns-in_err-matches-clause-line
returns-in_err-matches-clause-line c =
    let texts = map (λ word. word.now) c.args.words.now in
    let error = c.in_err-matches.field-0.0 in
    let app_is = c.in_ok-command.ensures in
    let has : HasKind (fault_of pascal_app texts) error = subst (λ a. HasKind (fault_of a texts) error) app_is
    (c.in_err-matches.ensures.kinds (ap is_simple_and_free app_is ∙ is_plain)) in
    err_weaker c.from_residual-in_err-matches.result _ _ c.from_residual-in_err-matches.ensures.1
    (λ f e line. is_refused _ _ _ (top_agrees texts) error has (subst (λ g. is_line_fault g ≡ true) e line))

pub returns-in_err-matches-clause-kind : goal.returns-in_err-matches-clause-kind
returns-in_err-matches-clause-kind c =
    let texts = map (λ word. word.now) c.args.words.now in
    let error = c.in_err-matches.field-0.0 in
    let app_is = c.in_ok-command.ensures in
    let has : HasKind (fault_of pascal_app texts) error = subst (λ a. HasKind (fault_of a texts) error) app_is
    (c.in_err-matches.ensures.kinds (ap is_simple_and_free app_is ∙ is_plain)) in
    err_weaker c.from_residual-in_err-matches.result _ _ c.from_residual-in_err-matches.ensures.1
    (λ f e. subst (IsLineOf (fault_of pascal_app texts)) (sym e) (told error (fault_of pascal_app texts) has))

both_weaker : {X E : Type 0} (r : Result X E) (P Q R : X → Type 0) → IfOk r P → IfOk r Q → ((x : X) → P x → Q x → R x)
    → IfOk r R
both_weaker (Ok x) P Q R p q weaker = weaker x p q
both_weaker (Err e) P Q R p q weaker = tt

fault_weaker : {X E : Type 0} (r : Result X E) (P Q : E → Type 0) → IfErr r P → ((e : E) → P e → Q e) → IfErr r Q
fault_weaker (Ok x) P Q is weaker = tt
fault_weaker (Err e) P Q is weaker = weaker e is

pub returns-clause-asked : goal.returns-clause-asked
returns-clause-asked c =
    let texts = map (λ word. word.now) c.args.words.now in
    let app_is = c.in_ok-command.ensures in
    let none : fault_of pascal_app texts ≡ [] = subst (λ a. fault_of a texts ≡ []) app_is
    (c.in_ok-matches.ensures.kinds (ap is_simple_and_free app_is ∙ is_plain)) in
    let rows = (c.in_ok-matches.ensures.matches (ap is_simple app_is)).1 ∙ ap (λ a. subcommand_of a texts) app_is in
    both_weaker c.job_of.result _ _ _ c.job_of.ensures.request c.job_of.ensures.digits (λ job request digits.
    is_asked _ _ _ (top_agrees texts) none (subst (λ found. found_digits found ≡ true) rows digits) (request_in job)
    (subst (λ found. IfSome found (λ e. HasLimits e.1) → request_in job ≡ row_request found) rows request))

pub returns-clause-line : goal.returns-clause-line
returns-clause-line c =
    let texts = map (λ word. word.now) c.args.words.now in
    let app_is = c.in_ok-command.ensures in
    let rows = (c.in_ok-matches.ensures.matches (ap is_simple app_is)).1 ∙ ap (λ a. subcommand_of a texts) app_is in
    fault_weaker c.job_of.result _ _ c.job_of.ensures.odd (λ fault odd line.
    is_odd _ _ _ (top_agrees texts) (subst (λ found. found_digits found ≡ false) rows (odd line)))
