-- Input that is read ahead of what is taken.
use Rattle.std.specs.Prelude.{ℕ, List, Option, take, drop}
use Rattle.std.specs.Io.KnownBytes.{prepend_known}
use Rattle.pascal_session.specs.declared.ahead.Ahead.{Ahead}
use Rattle.pascal_session.specs.declared.counted.Counted.{Counted}
use Rattle.pascal_session.specs.Transfers.{device_of}

-- the reader, with the count of its failures
abbrev pub counted_of : {R : Type 0} → Ahead R → Counted R
counted_of a = a.reader

abbrev pub reader_of : {R : Type 0} → Ahead R → R
reader_of a = device_of (counted_of a)

-- what was read in a block and not taken
abbrev pub unread_of : {R : Type 0} → Ahead R → List ℕ
unread_of a = drop a.next (take a.end a.block)

-- that, followed by what the reader has left, if the reader reports it
abbrev pub ahead_bytes : {R : Type 0} → (R → Option (List ℕ)) → Ahead R → Option (List ℕ)
ahead_bytes remaining a = prepend_known (unread_of a) (remaining (reader_of a))
