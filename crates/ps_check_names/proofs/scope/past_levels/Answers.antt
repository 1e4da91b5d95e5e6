use Rattle.std.proofs.Common.{◌≡◌, ◌++◌, ◌∷◌, [], refl, ap, ◌∙◌}
use Rattle.ps_check_names.specs.Regions.{find_past}
use Rattle.ps_check_names.specs.Views.{opened_in}
use Rattle.ps_check_names.specs.Nests.{levels_of, records_in}
use Rattle.ps_check_names.proofs.NestLemmas.{last_level, one_level, number_last, number_rest, ok_after, err_after}
use Rattle.ps_check_names.proofs.scope.past_levels.Goals as goal

pub returns-in-One-clause-ok : goal.returns-in-One-clause-ok
unfolding levels_of
returns-in-One-clause-ok c =
    let records : records_in (levels_of c.loop-left.left.now) ≡ c.in-One.opened.now.records.items = ap
    (λ l. records_in (levels_of l)) c.in-One.is ∙ one_level (c.in-One.opened.now ∷ []) c.in-One.opened.now refl in
    ok_after c.args.name.now c.args.which c.loop-left.passed (records_in (levels_of c.args.levels.now))
    c.in-One.opened.now.records.items
    (λ up at Γ. c.loop-left.invariant.0 up at Γ
    ∙ ap (λ rs. find_past up c.loop-left.passed (opened_in Γ rs) c.args.name.now at) records)
    c.past_opened.result c.past_opened.ensures.ok

pub returns-in-One-clause-err : goal.returns-in-One-clause-err
unfolding levels_of
returns-in-One-clause-err c =
    let records : records_in (levels_of c.loop-left.left.now) ≡ c.in-One.opened.now.records.items = ap
    (λ l. records_in (levels_of l)) c.in-One.is ∙ one_level (c.in-One.opened.now ∷ []) c.in-One.opened.now refl in
    err_after c.args.name.now c.args.which c.loop-left.passed (records_in (levels_of c.args.levels.now))
    c.in-One.opened.now.records.items
    (λ up at Γ. c.loop-left.invariant.0 up at Γ
    ∙ ap (λ rs. find_past up c.loop-left.passed (opened_in Γ rs) c.args.name.now at) records)
    c.past_opened.result c.past_opened.ensures.err

pub returns-in-Err-clause-err : goal.returns-in-Err-clause-err
unfolding levels_of
returns-in-Err-clause-err c = λ up at Γ.
    let all : levels_of c.loop-left.left.now ≡ levels_of c.in-Within.outer.now ++ c.in-Within.opened.now ∷ [] = ap
    levels_of c.in-Within.is in
    c.loop-left.invariant.0 up at Γ ∙ ap (λ g. find_past up c.loop-left.passed g c.args.name.now at)
    (last_level Γ (levels_of c.loop-left.left.now) (levels_of c.in-Within.outer.now) c.in-Within.opened.now all)
    ∙ c.in-Err.ensures.err up at (opened_in Γ (records_in (levels_of c.in-Within.outer.now)))

pub loop-left-preserved : goal.loop-left-preserved
unfolding levels_of
loop-left-preserved c =
    let all : levels_of c.loop-left.left.now ≡ levels_of c.in-Within.outer.now ++ c.in-Within.opened.now ∷ [] = ap
    levels_of c.in-Within.is in (
      (λ up at Γ. c.loop-left.invariant.0 up at Γ ∙ ap (λ g. find_past up c.loop-left.passed g c.args.name.now at)
          (last_level Γ (levels_of c.loop-left.left.now) (levels_of c.in-Within.outer.now) c.in-Within.opened.now all)
          ∙ c.in-Ok.ensures.ok up at (opened_in Γ (records_in (levels_of c.in-Within.outer.now)))),
      number_rest (levels_of c.loop-left.left.now) (levels_of c.in-Within.outer.now) c.in-Within.opened.now
          c.args.name.now c.args.number all c.loop-left.invariant.1,
    )

pub past_opened-requires : goal.past_opened-requires
unfolding levels_of
past_opened-requires c = number_last
    (levels_of c.loop-left.left.now) [] c.in-One.opened.now c.args.name.now c.args.number
    (ap levels_of c.in-One.is) c.loop-left.invariant.1

pub past_opened-requires-in-Within : goal.past_opened-requires-in-Within
unfolding levels_of
past_opened-requires-in-Within c = number_last (levels_of c.loop-left.left.now) (levels_of c.in-Within.outer.now)
    c.in-Within.opened.now c.args.name.now c.args.number (ap levels_of c.in-Within.is) c.loop-left.invariant.1
