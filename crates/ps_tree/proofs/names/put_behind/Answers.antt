use Rattle.std.proofs.Common.{◌≤◌, ◌⊎◌, inl, inr}
use Rattle.ps_tree.proofs.CodeLemmas.{word_joined, word_behind}
use Rattle.ps_tree.proofs.names.put_behind.Goals as goal
use Rattle.ps_tree.proofs.names.put_behind.Goals.{else-word-lt-FULL-via-then-word-lt-FULL+else-symbol-lt-BASE}
use Rattle.ps_tree.proofs.names.put_behind.Goals.{else-word-lt-FULL-via-else-word-lt-FULL}

pub returns-then-symbol-lt-BASE : goal.returns-then-symbol-lt-BASE
returns-then-symbol-lt-BASE c = word_joined c.args.code.now.items c.push.new.self.items c.args.word c.args.symbol
    c.if-word-lt-FULL.true c.if-symbol-lt-BASE.true c.in_ok-push.ensures.items

pub returns : goal.returns
returns c =
    let full : (1600 ≤ c.args.word) ⊎ (40 ≤ c.args.symbol) = elim c.else-word-lt-FULL.branch [
      | else-word-lt-FULL-via-then-word-lt-FULL+else-symbol-lt-BASE w ↦ inr w.if-symbol-lt-BASE.false
      | else-word-lt-FULL-via-else-word-lt-FULL w ↦ inl w.if-word-lt-FULL.false
    ] in
    word_behind c.args.code.now.items c.push-2.new.self.items c.push-3.new.self.items c.args.word c.args.symbol full
    c.in_ok-push-2.ensures.items c.in_ok-push-3.ensures.items
