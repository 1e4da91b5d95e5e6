use Rattle.std.proofs.Common.{rules, arith}
use Rattle.std.specs.String.{string_bytes}
use Rattle.risc_image_list.specs.Listing.{listing}
use Rattle.risc_image_list.proofs.Lines.{line_more, is_there}
use Rattle.risc_image_list.proofs.list.Goals as goal
use Rattle.risc_image_list.proofs.list.Goals.{in-Some+in_ok-add_word, in_default}

pub add_word-requires : goal.add_word-requires
add_word-requires c = omega (
  arith,
  c.requires.limits.code,
  c.loop-k.invariant.0,
  c.loop-k-test.true,
  c.words-k-end.ensures,
)

pub overflow_add-address : goal.overflow_add-address
overflow_add-address c = search (
  rules,
  c.requires.limits.code,
  c.loop-k.invariant.0,
  c.loop-k-test.true,
  c.words-k-end.ensures,
)

pub loop-k-preserved : goal.loop-k-preserved
loop-k-preserved c = elim c.match-word.branch [
  | in-Some+in_ok-add_word w ↦ (
    omega (arith, w.address-is, c.loop-k.invariant.0),
    search (
      rules,
      w.address-is,
      w.text-is,
      line_more c.args.view.now.traps c.args.view.now.code c.loop-k.k
          c.loop-k.address w.in-Some.word (string_bytes c.loop-k.text) (string_bytes c.match-word.text)
          (listing c.args.view.now),
    ),
  )
  | in_default w ↦ absurd (is_there c.args.view.now.code c.loop-k.k
      (omega (arith, c.loop-k-test.true, c.words-k-end.ensures))
      (search (rules, w.in_default.ensures, w.in_default.is, w.in_default.not-Some)))
]
