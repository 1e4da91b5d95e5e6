use Rattle.std.proofs.Common.{[], ◌∷◌, subst, sym, lit<, arith}
use Rattle.std.specs.String.{string_bytes}
use Rattle.std.proofs.lemmas.Iterator.Splits.{YieldsList-from_str_split}
use Rattle.std.proofs.lemmas.Iterator.Consumers.{YieldsList-at, YieldsList-end}
use Rattle.std.proofs.lemmas.Bool.Decides.{nat_tests}
use Rattle.ps_map.specs.Shown.{HasLines}
use Rattle.ps_map.proofs.ShownLines.{Stand, none_stand, has_lines, lines_in, line_added, empty_added}
use Rattle.ps_map.proofs.listing.listing_with_text.Goals as goal

pub loop-listed-init : goal.loop-listed-init
loop-listed-init c = subst (λ text. Stand [] (10 ∷ text)) (sym c.in_ok-out.ensures.bytes) none_stand

pub loop-listed-preserved-then-is_empty : goal.loop-listed-preserved-then-is_empty
loop-listed-preserved-then-is_empty c =
    let is = c.is_empty.ensures in
    let yes = c.if-is_empty.true in
    empty_added c.loop-listed.yielded c.in-Some.listed _ c.loop-listed.invariant (grind (arith, nat_tests))

pub loop-listed-preserved : goal.loop-listed-preserved
loop-listed-preserved c =
    let is = c.is_empty.ensures in
    let no = c.if-is_empty.false in
    line_added c.loop-listed.yielded c.in-Some.listed _ _ c.loop-listed.invariant (λ none. grind (arith, nat_tests))
    c.in_ok-word.ensures

pub returns : goal.returns
returns c =
    let split = c.split-listed-items.ensures in
    let lines = YieldsList-at c.into_iter-listed-iterator.ensures.into_iter_gives
    (YieldsList-from_str_split 10 c.args.listing.now (lit< tt) split.text split.has_more split.pattern) in
    let all = YieldsList-end lines c.loop-listed.yielded _ c.loop-listed.yielded_by _ _ c.in-None.is
    c.next.ensures.steps in
    let shown = 10 ∷ string_bytes c.loop-listed.lister.out in
    subst (λ lines. HasLines lines shown) all.0
    (has_lines (lines_in c.loop-listed.yielded) shown c.loop-listed.invariant)
