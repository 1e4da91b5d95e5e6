-- What is bound when a block is entered.
use Rattle.std.specs.Prelude.{List, [], ◌∷◌}
use Rattle.ps_meaning.specs.Worlds as m
use Rattle.ps_meaning.specs.Calls.{Bound}
use Rattle.ps_meaning_runner.specs.declared.world.Entry.{Entry}
use Rattle.ps_meaning_runner.specs.Worlds.{entry_before, entries_of}

-- one entry before those that were bound after it
abbrev pub with_entry : Entry → Bound → Bound
with_entry e b = record { frame = entry_before e b.frame; world = b.world }

-- entries before those that were bound after them
abbrev pub with_entries : List Entry → Bound → Bound
with_entries [] b = b
with_entries (e ∷ rest) b = with_entry e (with_entries rest b)

-- all that was bound
abbrev pub bound_in : List Entry → m.World → Bound
bound_in entries w = record { frame = entries_of entries; world = w }
