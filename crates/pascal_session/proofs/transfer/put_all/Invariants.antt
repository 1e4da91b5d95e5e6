use Rattle.std.proofs.Common.{◌≡◌, ◌≤◌, length, take}
use Rattle.std.specs.Io.KnownBytes.{Appends}
use Rattle.pascal_session.specs.Transfers.{device_of, faults_of}
use Rattle.pascal_session.proofs.transfer.put_all.Given as goal

abbrev pub invariant-loop-turn : goal.invariant-loop-turn
invariant-loop-turn g l =
    record {
      turns : l._turn ≤ l.done;
      bound : l.done ≤ length l.bytes;
      written : Appends (g.W.Write.contents (device_of l.initial.writer)) (g.W.Write.contents (device_of l.writer))
          (take l.done l.bytes);
      counted : faults_of l.writer ≡ faults_of l.initial.writer;
    }
