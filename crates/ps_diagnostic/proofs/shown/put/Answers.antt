use Rattle.std.proofs.Common.{◌++◌, map, sym, ap, ◌∙◌, append-nil, string_bytes, encode_utf8_all}
use Rattle.ps_diagnostic.specs.Printable.{visible}
use Rattle.ps_diagnostic.proofs.Letters.{letter_put}
use Rattle.ps_diagnostic.proofs.shown.put.Goals as goal

pub loop-letter-init : goal.loop-letter-init
loop-letter-init c = ap (λ letters. string_bytes c.args.out.now ++ encode_utf8_all (map visible letters))
    (c.into_iter-letter-iterator.ensures.into_iter_gives ∙ c.chars-letter-items.ensures.value)

pub loop-letter-preserved : goal.loop-letter-preserved
loop-letter-preserved c = letter_put _ _ c.loop-letter.letter-iterator _ _ c.in-Some.letter c.visible.result
    c.in_ok-push.ensures.bytes c.visible.ensures c.in-Some.ensures.steps c.loop-letter.invariant

pub returns : goal.returns
returns c = sym (append-nil (string_bytes c.loop-letter.out))
    ∙ ap (λ letters. string_bytes c.loop-letter.out ++ encode_utf8_all (map visible letters))
    (sym c.in-None.ensures.steps.0)
    ∙ c.loop-letter.invariant
