use Rattle.std.proofs.Common.{◌≡◌, ◌≤◌, vec_len}
use Rattle.std.specs.Io.KnownBytes.{Consumes}
use Rattle.pascal_session.specs.Transfers.{device_of, faults_of}
use Rattle.pascal_session.proofs.transfer.read_up_to.Given as goal

abbrev pub invariant-loop-turn : goal.invariant-loop-turn
invariant-loop-turn g l =
    record {
      turns : l._turn ≤ vec_len l.bytes;
      bound : vec_len l.bytes ≤ l.limit;
      taken : Consumes (g.R.Read.remaining (device_of l.initial.reader))
          (g.R.Read.remaining (device_of l.reader)) l.bytes.items;
      counted : faults_of l.reader ≡ faults_of l.initial.reader;
    }
