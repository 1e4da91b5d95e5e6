-- A run over a console is one over what is seen of the console, and one over a console that reports its output.
use Rattle.std.proofs.Common.{◌≡◌, ℕ, zero, suc, List, [], ◌∷◌, ◌++◌, inl, inr, Option, Some, None, refl, sym, ap}
use Rattle.std.proofs.Common.{subst, ◌∙◌}
use Rattle.std.specs.Io.KnownBytes.{Keeps, Appends}
use Rattle.risc_machine.specs.declared.stop.Stop.{Stop}
use Rattle.risc_machine.specs.Console.{World, Gives}
use Rattle.risc_machine.specs.Step.{State, Act, Goes, Takes, Puts, Stops, Faults, act}
use Rattle.risc_machine.specs.Exec.{Performs, Runs}
use Rattle.ps_build.specs.Runs.{if_known, as_seen}

-- ---- what is seen

gives_seen : (known old new : Option (List ℕ)) (byte : Option ℕ) → Gives byte old new → Gives byte (if_known known old)
    (if_known known new)
gives_seen None old new (Some byte) g = tt
gives_seen None old new None g = (tt, tt)
gives_seen (Some bytes) old new byte g = g

keeps_seen : (known old new : Option (List ℕ)) → Keeps old new → Keeps (if_known known old) (if_known known new)
keeps_seen None old new k = tt
keeps_seen (Some bytes) old new k = k

appends_seen : (known old new : Option (List ℕ)) (bs : List ℕ) → Appends old new bs → Appends (if_known known old)
    (if_known known new) bs
appends_seen None old new bs k = tt
appends_seen (Some bytes) old new bs k = k

performs_seen : (a : Act) (first : World) (s t : State) (w v : World) (answer : Option Stop)
    → Performs a s w t v answer → Performs a s (as_seen first w) t (as_seen first v) answer
performs_seen (Goes u) first s t w v answer m = (m.0, ap (λ x. as_seen first x) m.1, m.2)
performs_seen (Takes r u) first s t w v answer (inl m) =
    inl (
      m.0,
      record {
        input = gives_seen first.input w.input v.input m.0 m.1.input;
        output = keeps_seen first.output w.output v.output m.1.output;
        faults = m.1.faults;
      },
      m.2,
      m.3,
    )
performs_seen (Takes r u) first s t w v answer (inr m) =
    inr (
      record {
        input = keeps_seen first.input w.input v.input m.0.input;
        output = keeps_seen first.output w.output v.output m.0.output;
        faults = m.0.faults;
      },
      m.1,
      m.2,
    )
performs_seen (Puts byte u) first s t w v answer (inl m) =
    inl (
      record {
        input = keeps_seen first.input w.input v.input m.0.input;
        output = appends_seen first.output w.output v.output (byte ∷ []) m.0.output;
        faults = m.0.faults;
      },
      m.1,
      m.2,
    )
performs_seen (Puts byte u) first s t w v answer (inr m) =
    inr (
      record {
        input = keeps_seen first.input w.input v.input m.0.input;
        output = keeps_seen first.output w.output v.output m.0.output;
        faults = m.0.faults;
      },
      m.1,
      m.2,
    )
performs_seen (Stops word u) first s t w v answer m = (m.0, ap (λ x. as_seen first x) m.1, m.2)
performs_seen (Faults kind) first s t w v answer m = (m.0, ap (λ x. as_seen first x) m.1, m.2)

pub runs_seen : (n : ℕ) (first : World) (s s' : State) (w w' : World) (stop : Stop) → Runs n s w s' w' stop → Runs n s
    (as_seen first w) s' (as_seen first w') stop
runs_seen zero first s s' w w' stop r = (r.0, ap (λ x. as_seen first x) r.1, r.2)
runs_seen (suc n) first s s' w w' stop (inl r) =
    inl (
      r.0,
      as_seen first r.1,
      performs_seen (act s) first s r.0 w r.1 None r.2,
      runs_seen n first r.0 s' r.1 w' stop r.3,
    )
runs_seen (suc n) first s s' w w' stop (inr m) = inr (performs_seen (act s) first s s' w w' (Some stop) m)

-- worlds are the same whose parts are
world_same : (w v : World) → w.input ≡ v.input → w.output ≡ v.output → w.faults ≡ v.faults → w ≡ v
world_same w v i o f =
    ap (λ x. of x w.output w.faults) i ∙ ap (λ x. of v.input x w.faults) o ∙ ap (λ x. of v.input v.output x) f
  where
    of : Option (List ℕ) → Option (List ℕ) → ℕ → World
    of i o f = record { input = i; output = o; faults = f }

self_known : (known : Option (List ℕ)) → if_known known known ≡ known
self_known None = refl
self_known (Some bytes) = refl

-- all is seen of a console that has just been seen
pub self_seen : (w : World) → as_seen w w ≡ w
self_seen w = world_same (as_seen w w) w (self_known w.input) (self_known w.output) refl

pub run_seen : (n : ℕ) (s s' : State) (w w' : World) (stop : Stop) → Runs n s w s' w' stop → Runs n s w s'
    (as_seen w w') stop
run_seen n s s' w w' stop r =
    subst (λ x. Runs n s x s' (as_seen w w') stop) (self_seen w) (runs_seen n w s s' w w' stop r)

-- ---- known bytes stay known

abbrev Knows : Option (List ℕ) → Option (List ℕ) → Type 0
Knows None new = Unit {0}
Knows (Some xs) None = ⊥
Knows (Some xs) (Some ys) = Unit {0}

knows_self : (known : Option (List ℕ)) → Knows known known
knows_self None = tt
knows_self (Some xs) = tt

knows_on : (a b c : Option (List ℕ)) → Knows a b → Knows b c → Knows a c
knows_on None b c h k = tt
knows_on (Some xs) None c h k = absurd h
knows_on (Some xs) (Some ys) None h k = k
knows_on (Some xs) (Some ys) (Some zs) h k = tt

gives_knows : (old new : Option (List ℕ)) (byte : Option ℕ) → Gives byte old new → Knows old new
gives_knows None new byte g = tt
gives_knows (Some xs) None (Some byte) g = g
gives_knows (Some xs) None None g = g.0
gives_knows (Some xs) (Some ys) byte g = tt

keeps_knows : (old new : Option (List ℕ)) → Keeps old new → Knows old new
keeps_knows None new k = tt
keeps_knows (Some xs) None k = k
keeps_knows (Some xs) (Some ys) k = tt

appends_knows : (old new : Option (List ℕ)) (bs : List ℕ) → Appends old new bs → Knows old new
appends_knows None new bs k = tt
appends_knows (Some xs) None bs k = k
appends_knows (Some xs) (Some ys) bs k = tt

record StaysKnown (w v : World) : Type 0 where
  input : Knows w.input v.input
  output : Knows w.output v.output

same_knows : (w v : World) → v ≡ w → StaysKnown w v
same_knows w v e =
    subst (λ x. StaysKnown w x) (sym e) (record { input = knows_self w.input; output = knows_self w.output })

performs_knows : (a : Act) (s t : State) (w v : World) (answer : Option Stop) → Performs a s w t v answer
    → StaysKnown w v
performs_knows (Goes u) s t w v answer m = same_knows w v m.1
performs_knows (Takes r u) s t w v answer (inl m) =
    record { input = gives_knows w.input v.input m.0 m.1.input; output = keeps_knows w.output v.output m.1.output }
performs_knows (Takes r u) s t w v answer (inr m) =
    record { input = keeps_knows w.input v.input m.0.input; output = keeps_knows w.output v.output m.0.output }
performs_knows (Puts byte u) s t w v answer (inl m) = record {
  input = keeps_knows w.input v.input m.0.input;
  output = appends_knows w.output v.output (byte ∷ []) m.0.output;
}
performs_knows (Puts byte u) s t w v answer (inr m) =
    record { input = keeps_knows w.input v.input m.0.input; output = keeps_knows w.output v.output m.0.output }
performs_knows (Stops word u) s t w v answer m = same_knows w v m.1
performs_knows (Faults kind) s t w v answer m = same_knows w v m.1

runs_know : (n : ℕ) (s s' : State) (w w' : World) (stop : Stop) → Runs n s w s' w' stop → StaysKnown w w'
runs_know zero s s' w w' stop r = same_knows w w' r.1
runs_know (suc n) s s' w w' stop (inl r) =
    let one = performs_knows (act s) s r.0 w r.1 None r.2 in
    let rest = runs_know n r.0 s' r.1 w' stop r.3 in
    record {
      input = knows_on w.input r.1.input w'.input one.input rest.input;
      output = knows_on w.output r.1.output w'.output one.output rest.output;
    }
runs_know (suc n) s s' w w' stop (inr m) = performs_knows (act s) s s' w w' (Some stop) m

same_seen : (known old new : Option (List ℕ)) → Knows known (if_known known old) → Keeps old new → if_known known new
    ≡ if_known known old
same_seen None old new h k = refl
same_seen (Some xs) None new h k = absurd h
same_seen (Some xs) (Some ys) None h k = absurd k
same_seen (Some xs) (Some ys) (Some zs) h k = ap Some k

-- where the bytes and the count stay as they were after a run, the same is seen
pub kept_seen : (n : ℕ) (s s' : State) (w v v' : World) (stop : Stop) → Runs n s w s' (as_seen w v) stop
    → Keeps v.input v'.input → Keeps v.output v'.output → v'.faults ≡ v.faults → as_seen w v' ≡ as_seen w v
kept_seen n s s' w v v' stop r keeps_input keeps_output faults =
    let known = runs_know n s s' w (as_seen w v) stop r in
    world_same (as_seen w v') (as_seen w v) (same_seen w.input v.input v'.input known.input keeps_input)
    (same_seen w.output v.output v'.output known.output keeps_output) faults

-- ---- output that is heard

-- the console with these bytes as its output
abbrev pub hears : List ℕ → World → World
hears bytes w = record { input = w.input; output = Some bytes; faults = w.faults }

performs_heard : (a : Act) (s t : State) (w v : World) (answer : Option Stop) → Performs a s w t v answer
    → (before : List ℕ) → (after : List ℕ) × Performs a s (hears before w) t (hears after v) answer
performs_heard (Goes u) s t w v answer m before = (before, (m.0, ap (λ x. hears before x) m.1, m.2))
performs_heard (Takes r u) s t w v answer (inl m) before =
    (before, inl (m.0, record { input = m.1.input; output = refl; faults = m.1.faults }, m.2, m.3))
performs_heard (Takes r u) s t w v answer (inr m) before =
    (before, inr (record { input = m.0.input; output = refl; faults = m.0.faults }, m.1, m.2))
performs_heard (Puts byte u) s t w v answer (inl m) before =
    (before ++ byte ∷ [], inl (record { input = m.0.input; output = refl; faults = m.0.faults }, m.1, m.2))
performs_heard (Puts byte u) s t w v answer (inr m) before =
    (before, inr (record { input = m.0.input; output = refl; faults = m.0.faults }, m.1, m.2))
performs_heard (Stops word u) s t w v answer m before = (before, (m.0, ap (λ x. hears before x) m.1, m.2))
performs_heard (Faults kind) s t w v answer m before = (before, (m.0, ap (λ x. hears before x) m.1, m.2))

-- a run over a console is one over a console that reports its output
pub run_heard : (n : ℕ) (s s' : State) (w w' : World) (stop : Stop) → Runs n s w s' w' stop → (before : List ℕ)
    → (after : List ℕ) × Runs n s (hears before w) s' (hears after w') stop
run_heard zero s s' w w' stop r before = (before, (r.0, ap (λ x. hears before x) r.1, r.2))
run_heard (suc n) s s' w w' stop (inl r) before =
    let one = performs_heard (act s) s r.0 w r.1 None r.2 before in
    let rest = run_heard n r.0 s' r.1 w' stop r.3 one.0 in
    (rest.0, inl (r.0, hears one.0 r.1, one.1, rest.1))
run_heard (suc n) s s' w w' stop (inr m) before =
    let one = performs_heard (act s) s s' w w' (Some stop) m before in
    (one.0, inr one.1)
