-- A function whose proof opens cells: its body is followed with the thread's token in hand, which no clause names.
use seplogic.Ra.Ura.{Ura}
use base.Logic.{via}
use contract.Monad.{fm→mono}
use contract.Named.{bare_unfolds}
use contract.Running.{Running, bare_tables}
use contract.Stops.{run_by_fm}
use denote.Triple.Clauses.{Ended, Clauses, closing}
use denote.Triple.Handed.{holding, hands}
use denote.Triple.Spec.{Meets}
use denote.Triple.Walked.{AllGo, Stays, Walks, walk_of, walk_Meets}
use mir.Syntax.{Fn}
use prog.Model.{Model}
use prog.Routine.{Callee, over, ◌≼⁺◌}
use prog.Wp.{Calls, Loops, WpFn}
use types.Logic.{Logic}

abbrev pub turned : {M : Type 1} {𝓤 : Ura M} (𝓛 : Logic 𝓤) (T : Ended) → Clauses 𝓤 T → Clauses 𝓤 T
turned {𝓤 = 𝓤} 𝓛 T = holding 𝓤 T 𝓛.H.turn

-- the function's callees are read at the memory that the token does not stand beside
pub by_turn : {M : Type 1} {𝓤 : Ura M} (𝓛 : Logic 𝓤) {𝓜 : Model 𝓤 𝓛.H} (𝓡 : Running 𝓤 𝓛.H 𝓜) (T : Ended)
    (c : Clauses 𝓤 T) (key : Callee) (body : Fn)
    → over 𝓡.env body ≼⁺ 𝓡.env key → (stays : Stays T.signature.params T.kept)
    → AllGo 𝓛 T.signature.lifetimes T.signature.params T.kept stays
    → ((calls : Calls 𝓤 𝓛.H) (loops : Loops 𝓤 𝓛.H) → Walks 𝓛 T stays (WpFn 𝓤 𝓛.H calls loops body) (turned 𝓛 T c))
    → Meets 𝓛 T.signature (𝓡.run (𝓡.env key)) (closing 𝓛 T c)
by_turn {𝓤 = 𝓤} 𝓛 {𝓜} 𝓡 T c key body is stays goes follow =
    let bare = 𝓡.carries.inner in let at = bare_tables 𝓤 𝓛.H bare 𝓡.allowed 𝓡.how 𝓡.env in
    let W = walk_of 𝓛 T stays (turned 𝓛 T c) in
    hands 𝓛 T 𝓛.H.turn c 𝓜 𝓡.carries 𝓡 (𝓡.env key) (walk_Meets 𝓛 T stays goes (turned 𝓛 T c) (at.C key)
    (λ vs. fm→mono 𝓤 _ (run_by_fm 𝓤 𝓛.H bare 𝓡.allowed 𝓡.how (𝓡.env key) vs))
    (λ y. via 𝓤 _ (follow at.C at.Λ y)
    (bare_unfolds 𝓤 𝓛.H bare 𝓡.allowed 𝓡.how 𝓡.env key body is (W.args y) (W.post y))))
