use Rattle.std.proofs.Common.{◌≡◌, length, map}
use Rattle.ps_check_names.specs.Wides.{KeepsKinds}
use Rattle.ps_check_names.proofs.WideLemmas.{NotedKinds}
use Rattle.ps_check_names.proofs.wides.note_all.Given as goal

-- the fields so far are noted
abbrev pub invariant-loop-name : goal.invariant-loop-name
invariant-loop-name l = (length l.kinds.items ≡ length l.names)
    × KeepsKinds l.fn.names (map (λ v. v.items) l.fn.kinds.items) l.names (map (λ v. v.items) l.kinds.items)
    × NotedKinds (map (λ v. v.items) l.fields) l.names (map (λ v. v.items) l.kinds.items) l.number l.name-index
