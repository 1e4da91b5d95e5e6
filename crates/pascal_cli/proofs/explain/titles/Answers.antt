use Rattle.std.proofs.Common.{◌≡◌, ◌∙◌, ap, arith, length, string_bytes}
use Rattle.pascal_pages.specs.Pages.{pages}
use Rattle.pascal_cli.proofs.Shown.{is_there, titles_more, titles_whole}
use Rattle.pascal_cli.proofs.explain.titles.Goals.{in-Some+in_ok-add_title, in_default}
use Rattle.pascal_cli.proofs.explain.titles.Goals as goal

pub loop-k-preserved : goal.loop-k-preserved
loop-k-preserved c = elim c.match-page_at.branch [
  | in-Some+in_ok-add_title w ↦ ap string_bytes w.text-is
      ∙ titles_more c.loop-k.k w.in-Some.page (string_bytes c.loop-k.text)
      (string_bytes w.add_title.new.text) c.loop-k.invariant w.in-Some.ensures w.in_ok-add_title.ensures
  | in_default w ↦ absurd (is_there c.loop-k.k w.in_default.ensures c.loop-k-test.true)
]

pub returns : goal.returns
returns c =
    let all : c.loop-k.k ≡ length pages = omega (arith, c.loop-k.auto.k-end, c.loop-k-test.false) in
    titles_whole c.loop-k.k (string_bytes c.loop-k.text) c.loop-k.invariant all
