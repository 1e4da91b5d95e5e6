-- What a write that took no byte leaves: none of the bytes that were to be written.
use Rattle.std.proofs.Common.{◌≡◌, ◌<◌, ℕ, List, [], length, Option, Some, None, sym, append-nil, ◌∙◌}
use Rattle.std.specs.Io.KnownBytes.{Appends, Keeps}
use Rattle.risc_machine.specs.Console.{one_more}
use Rattle.pascal_session.specs.Transfers.{AppendsFront}

none : (old new : Option (List ℕ)) → Keeps old new → Appends old new []
none None new kept = tt
none (Some held) None kept = absurd kept
none (Some held) (Some left) kept = kept ∙ sym (append-nil held)

pub kept_front : (old new : Option (List ℕ)) (bytes : List ℕ) (faults after : ℕ) → 0 < length bytes → Keeps old new
    → after ≡ one_more faults → AppendsFront old new bytes faults after
kept_front old new bytes faults after some kept counted = (0, some, none old new kept, λ zero. counted)
