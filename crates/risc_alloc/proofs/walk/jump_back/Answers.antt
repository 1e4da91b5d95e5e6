use Rattle.std.proofs.Common.{sym}
use Rattle.risc_alloc.specs.Walk.{IsClaimHeld}
use Rattle.risc_alloc.proofs.Steps.{some_is}
use Rattle.risc_alloc.proofs.walk.jump_back.Goals as goal

pub returns-in-Some-get-clause-claimed : goal.returns-in-Some-get-clause-claimed
returns-in-Some-get-clause-claimed c =
    λ t. some_is (IsClaimHeld c.args.window.now c.args.claims.now c.add_all.new.self.holders.items) c.args.target
    c.in-Some.place c.in-Some.is (c.in-Some-get.claim.now, sym c.in-Some-get.ensures, c.add_all.ensures.added t)
