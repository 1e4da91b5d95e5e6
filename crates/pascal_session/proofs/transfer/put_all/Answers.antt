use Rattle.std.proofs.Common.{◌≡◌, ◌+◌, ◌-◌, ℕ, List, ◌++◌, length, take, drop, rules, arith}
use Rattle.std.proofs.KnownBytes.{Appends-trans}
use Rattle.std.proofs.Math.Seq.{take-add}
use Rattle.std.proofs.lemmas.List.{take_rest}
use Rattle.pascal_session.proofs.transfer.put_all.Goals as goal

-- the front of what was asked to be written is the front of the bytes left
front : (done count : ℕ) (bytes : List ℕ) → take (done + count) bytes ≡ take done bytes ++ take count
    (take (length bytes - done) (drop done bytes))
front done count bytes = rw (take_rest bytes done) (take-add done count bytes)

pub loop-turn-preserved : goal.loop-turn-preserved
loop-turn-preserved g c =
    let appended = Appends-trans _ _ _ _ _ c.loop-turn.invariant.written c.in-Ok.ensures.bytes in
    record {
      turns = omega (arith, c.in-Ok.ensures.some);
      bound = search rules;
      written = rw (front c.loop-turn.done c.in-Ok.written c.args.bytes.now) appended;
      counted = search rules;
    }
