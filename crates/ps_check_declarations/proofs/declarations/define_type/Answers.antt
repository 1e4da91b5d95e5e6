use Rattle.std.proofs.Common.{◌≡◌, [], map, sym, ap, ◌∙◌}
use Rattle.std.proofs.lemmas.List.{map_push}
use Rattle.ps_check_judgement.specs.Judged.{Yes}
use Rattle.ps_check_judgement.proofs.Lists.{told_bind, handed_on}
use Rattle.ps_check_names.specs.Views.{meaning_of}
use Rattle.ps_check_declarations.specs.Denoters.{begin, with_known}
use Rattle.ps_check_declarations.specs.Declarations.{define_type}
use Rattle.ps_check_declarations.specs.Views.{frame_of, declared_of, hidden_of}
use Rattle.ps_check_declarations.proofs.Handed.{then_told, then_is}
use Rattle.ps_check_declarations.proofs.HidingLemmas.{nothing_covered}
use Rattle.ps_check_declarations.proofs.declarations.define_type.Goals as goal

pub returns-in_err-begun : goal.returns-in_err-begun
unfolding define_type
returns-in_err-begun c = handed_on _ _ _ _ c.from_residual.ensures.1
    (rw (← c.as_slice.ensures.value) (told_bind _ _ _ c.in_err-begun.ensures))

pub defined_type-requires : goal.defined_type-requires
unfolding hidden_of
defined_type-requires c = nothing_covered _

pub returns-in_err-ty : goal.returns-in_err-ty
unfolding define_type hidden_of
returns-in_err-ty c =
    let begun : begin (frame_of c.args.frame.now) (map meaning_of c.args.declared.now.known.items) []
    c.args.definition.now.name ≡ Yes c.in_ok-begun.begun = rw (← c.as_slice.ensures.value) c.in_ok-begun.ensures in
    handed_on _ _ _ _ c.from_residual-in_err-ty.ensures.1
    (then_told _ _ _ _ begun (told_bind _ _ _ c.in_err-ty.ensures))

pub returns-in_err-push : goal.returns-in_err-push
returns-in_err-push c = handed_on _ _ _ _ c.from_residual-in_err-push.ensures.1 tt

pub returns : goal.returns
unfolding define_type hidden_of meaning_of
returns c =
    let begun : begin (frame_of c.args.frame.now) (map meaning_of c.args.declared.now.known.items) []
    c.args.definition.now.name ≡ Yes c.in_ok-begun.begun = rw (← c.as_slice.ensures.value) c.in_ok-begun.ensures in
    then_is _ _ _ _ begun
    (then_is _ _ _ _ c.in_ok-ty.ensures
    (ap (λ l. Yes (with_known (declared_of c.defined_type.new.declared) l))
    (sym (ap (map meaning_of) c.in_ok-push.ensures.items ∙ map_push meaning_of _ _))))
