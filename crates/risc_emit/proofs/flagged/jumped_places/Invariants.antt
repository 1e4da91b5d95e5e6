-- The marks of what is left are what is missing.
use Rattle.std.proofs.Common.{◌≡◌, drop}
use Rattle.risc_emit_forms.specs.Peephole.{marked, jumped}
use Rattle.risc_emit.proofs.flagged.jumped_places.Given as goal

abbrev pub invariant-loop-place : goal.invariant-loop-place
invariant-loop-place l = marked (drop l.place l.body) l.place l.marks.items ≡ jumped l.body
