use Rattle.std.proofs.Common.{◌≡◌, length, map}
use Rattle.ps_check_names.specs.Opened.{Keeps}
use Rattle.ps_check_names.proofs.NoteLemmas.{Noted}
use Rattle.ps_check_names.proofs.opened.note_all.Given as goal

-- the fields so far are noted
abbrev pub invariant-loop-name : goal.invariant-loop-name
invariant-loop-name l = (length l.reaches.items ≡ length l.names)
    × Keeps l.fn.names l.fn.reaches.items l.names l.reaches.items × Noted
    (map (λ v. v.items) l.fields) l.names l.reaches.items l.reach l.name-index
