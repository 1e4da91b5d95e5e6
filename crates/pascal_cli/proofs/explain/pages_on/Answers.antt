use Rattle.std.proofs.Common.{◌∙◌, ◌++◌, ap, [], ◌∷◌, string_bytes}
use Rattle.pascal_cli.proofs.Shown.{is_there, named_more, shown_more}
use Rattle.pascal_cli.proofs.explain.pages_on.Goals.{in-Some+in_ok-add_asked, in_default}
use Rattle.pascal_cli.proofs.explain.pages_on.Goals as goal

pub loop-at-preserved : goal.loop-at-preserved
loop-at-preserved c =
    let so_far = c.loop-at.invariant in
    elim c.match-page_at.branch [
      | in-Some+in_ok-add_asked w ↦ (
        so_far.0 ++ w.in-Some.page ∷ [],
        named_more c.loop-at.at so_far.0 w.in-Some.page so_far.1 w.in-Some.ensures,
        ap string_bytes w.text-is
            ∙ shown_more c.args.topic.now so_far.0 w.in-Some.page (string_bytes c.loop-at.text)
            (string_bytes w.add_asked.new.text) so_far.2 w.in_ok-add_asked.ensures,
      )
      | in_default w ↦ absurd (is_there c.loop-at.at w.in_default.ensures c.loop-at-test.true)
    ]
