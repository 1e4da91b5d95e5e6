use Rattle.std.proofs.Common.{rules, ◌≡◌, true, false, sym, ap, ◌∙◌}
use Rattle.ps_tree.specs.Counts.{is_small}
use Rattle.ps_tree.specs.View.{type_of}
use Rattle.ps_tree.proofs.FormalLemmas.{passed_fails, passed_next, passed_end, small_types, small_types_none}
use Rattle.ps_tree.proofs.FormalLemmas.{small_types_more}
use Rattle.ps_tree.proofs.program.are_small.Goals as goal

pub returns-then-not-is_small : goal.returns-then-not-is_small
returns-then-not-is_small c =
    let no : c.is_small.result ≡ false = search rules in
    passed_fails small_types (λ x. is_small (type_of x)) small_types_more _ _ c.ty-item.result c.loop-ty-test.true
    c.loop-ty.invariant (ap (λ x. is_small (type_of x)) (sym c.ty-item.is) ∙ sym c.is_small.ensures ∙ no)

pub loop-ty-preserved : goal.loop-ty-preserved
loop-ty-preserved c =
    let yes' : c.is_small.result ≡ true = search rules in
    passed_next small_types (λ x. is_small (type_of x)) small_types_more _ _ c.ty-item.result c.loop-ty-test.true
    c.loop-ty.invariant (ap (λ x. is_small (type_of x)) (sym c.ty-item.is) ∙ sym c.is_small.ensures ∙ yes')

pub returns : goal.returns
returns c = passed_end small_types small_types_none _ _ c.loop-ty-test.false c.loop-ty.invariant
