use Rattle.std.proofs.Common.{◌≡◌, ◌++◌, subst}
use Rattle.risc_emit_relation.specs.Context.{home}
use Rattle.risc_emit_forms.specs.Forms.{carried, spill_one}
use Rattle.risc_emit.specs.Frames.{context_of}
use Rattle.risc_emit.proofs.Passing.{spill_more}
use Rattle.risc_emit.proofs.entry.put_spills.Goals as goal

pub loop-j-preserved : goal.loop-j-preserved
loop-j-preserved c =
    spill_more (context_of c.args.frame.now) c.args.frame.now.number
    (carried c.args.count) c.args.behind c.loop-j.j c.args.count _ _ _ c.loop-j-test.true
    (subst (λ m. c.put_spill.new.pieces ≡ c.loop-j.pieces ++ spill_one
    (context_of c.args.frame.now) c.args.frame.now.number m c.args.behind c.loop-j.j
    (home (context_of c.args.frame.now) c.args.frame.now.number c.loop-j.j)) c.carried.ensures
    c.in_ok-put_spill.ensures) c.loop-j.invariant
