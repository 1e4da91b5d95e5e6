use Rattle.std.proofs.Common.{◌≡◌, ◌++◌, take}
use Rattle.std.specs.Prelude.{All}
use Rattle.std.specs.List.{flat_map}
use Rattle.risc_image.specs.Format.{word_bytes, call_words, AreWords}
use Rattle.risc_image.proofs.writing.put_calls.Given as goal

abbrev pub invariant-loop-row : goal.invariant-loop-row
invariant-loop-row l = record {
  bytes : l.out.items ≡ l.fn.out.items ++ flat_map (λ row. word_bytes (call_words row)) (take l.row-index l.rows);
  numbers : All (λ row. AreWords (call_words row)) (take l.row-index l.rows);
}
