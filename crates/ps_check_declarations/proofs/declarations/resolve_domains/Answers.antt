use Rattle.std.proofs.Common.{◌≡◌, ◌<◌, ◌∙◌, length, get_or, refl, ap, arith}
use Rattle.ps_check_judgement.proofs.Lists.{told_bind, handed_on, stepped_start, stepped_next, stepped_fault}
use Rattle.ps_check_declarations.specs.Declarations.{resolve_domains}
use Rattle.ps_check_declarations.proofs.DomainLemmas.{still_pending}
use Rattle.ps_check_declarations.proofs.declarations.resolve_domains.Goals as goal

pub loop-i-init : goal.loop-i-init
loop-i-init c = (refl, stepped_start _ _ _)

pub loop-i-preserved : goal.loop-i-preserved
loop-i-preserved c =
    let below : c.loop-i.i < length c.args.declared.now.pending.items = omega
    (arith, c.loop-i-test.true, c.len-i-end.ensures, c.args.declared.now.pending.ok.0) in
    let at : c.index.result.now ≡ get_or c.args.declared.now.pending.items c.loop-i.i c.index.result.now =
    c.index.ensures ∙ ap (λ l. get_or l c.loop-i.i c.index.result.now) c.loop-i.invariant.0 in (
      still_pending _ _ _ _ c.in_ok-resolve_domain.ensures
          ∙ c.loop-i.invariant.0,
      stepped_next _ _ _ _ _ c.index.result.now _ below at c.loop-i.invariant.1
          c.in_ok-resolve_domain.ensures,
    )

pub returns-in_err-resolve_domain : goal.returns-in_err-resolve_domain
unfolding resolve_domains
returns-in_err-resolve_domain c =
    let below : c.loop-i.i < length c.args.declared.now.pending.items = omega
    (arith, c.loop-i-test.true, c.len-i-end.ensures, c.args.declared.now.pending.ok.0) in
    let at : c.index.result.now ≡ get_or c.args.declared.now.pending.items c.loop-i.i c.index.result.now =
    c.index.ensures ∙ ap (λ l. get_or l c.loop-i.i c.index.result.now) c.loop-i.invariant.0 in
    handed_on _ _ _ _ c.from_residual.ensures.1
    (told_bind _ _ _ (stepped_fault _ _ _ _ _ c.index.result.now _ below at c.loop-i.invariant.1
    c.in_err-resolve_domain.ensures))
