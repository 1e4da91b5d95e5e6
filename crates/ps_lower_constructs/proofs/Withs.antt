-- `with` statements: records are opened one after another.
use Rattle.ps_lower_constructs.proofs.Calling.{Callable}
use Rattle.std.proofs.Common.{◌≡◌, ℕ, suc, ◌≤◌, Bool, ◌||◌, List, [], ◌∷◌, refl, sym, subst, arith}
use Rattle.ps_tree.specs.Tree.{Place, Statement, With}
use Rattle.ps_meaning.specs.Values.{Spot}
use Rattle.ps_meaning.specs.Worlds.{World}
use Rattle.ps_meaning.specs.Expressions.{Caller, access}
use Rattle.ps_meaning.specs.Statements.{Next, with_opened, opening, act}
use Rattle.tac_code_steps.specs.Runs.{Stands}
use Rattle.tac_code_steps.proofs.Runs.{split}
use Rattle.ps_lower_layout.specs.Shapes.{Shape, Whole}
use Rattle.ps_lower_code.specs.Scopes.{held, Site}
use Rattle.ps_lower_code.specs.Calling.{places_call, statement_calls}
use Rattle.ps_lower_code.specs.Values.{place_temporary, place_site, place_code}
use Rattle.ps_lower_code.specs.Statements.{within_site, with_code, with_scope, with_depth, statement_code}
use Rattle.ps_lower_code.specs.Fits.{OpenedFit}
use Rattle.ps_lower_code.proofs.Depths.{held_above}
use Rattle.ps_lower_relation.specs.Here.{Setting, code_in, costs_in, Work, Activated, chain_of, IsActive, Alive}
use Rattle.ps_lower_relation.specs.Here.{OpenedAt}
use Rattle.ps_lower_relation.specs.Outcomes.{Runs}
use Rattle.ps_lower_relation.specs.RunTime.{WritesDo}
use Rattle.ps_lower_constructs.specs.Openings.{Opening, scope_in, plain_scope, context_in, IsOpened}
use Rattle.ps_lower_constructs.specs.Tasks.{Nothing, NextRuns}
use Rattle.ps_lower_constructs.proofs.Runs.{runs_bind, here, keeps_refl, keeps_less}
use Rattle.ps_lower_constructs.proofs.Kept.{opened_kept}
use Rattle.ps_lower_constructs.proofs.Selectors.{PlaceIn}
use Rattle.ps_lower_constructs.proofs.Expressions.{place_run}
use Rattle.ps_lower_constructs.proofs.Statements.{StatementRuns, place_above}

with_above : (places : List Place) (calls : Bool) (d : ℕ) → d ≤ with_depth places calls d
with_above [] calls d = omega arith
with_above (q ∷ rest) calls d =
    let a = held_above calls d in
    let b = place_above q (held calls d) in
    let r = with_above rest calls (suc (place_temporary q (held calls d))) in
    omega (arith, a, b, r)

module _ (p : Setting) (n : ℕ) (call : Caller) (next : Next) (c : Activated) (active : IsActive p c)
    (nexts : NextRuns p n next) (does : WritesDo p) (callable : Callable p n call) where
  with_scope_is : (places : List Place) (o : Opening) (calls : Bool) (d : ℕ) → with_scope
      (scope_in p c o) places calls d ≡ record {
        program = p.program;
        chain = chain_of c;
        opened = (with_scope (scope_in p c o) places calls d).opened;
      }
  with_scope_is [] o calls d = refl
  with_scope_is (q ∷ rest) o calls d = with_scope_is rest (record {
    sites = place_site (scope_in p c o) q (held calls d) ∷ o.sites;
    spots = o.spots;
    shapes = o.shapes;
  }) calls (suc (place_temporary q (held calls d)))

  abbrev OpenedNow : World → Work → (d : ℕ) → List Site → List Spot → List Shape → Type 0
  OpenedNow w k d xs ss hs = OpenedAt p c w.made k.temporaries d xs ss hs

  opening_run : (places : List Place) (calls : Bool) (d : ℕ) (o : Opening) (w : World) (k : Work) (pc pc' : ℕ)
      (os : List Shape) → Alive p c w k → IsOpened p c w k d o → OpenedFit (plain_scope p c) o.shapes places os → Stands
      (code_in p) c.routine pc (with_code (scope_in p c o) places calls d) pc'
      → Runs p (suc n) c d 0 w k pc pc' (opening p.program (costs_in p) call next places (context_in c o) w)
      (λ ss w' k'. OpenedNow w' k' (with_depth places calls d)
      (with_scope (scope_in p c o) places calls d).opened ss os)
  opening_run [] calls d o w k pc pc' os alive opened fits st = here p (suc n) c d 0 w k pc pc'
      (λ w' k'. OpenedNow w' k' d o.sites o.spots os) st alive
      (subst (λ hs. OpenedNow w k d o.sites o.spots hs) (sym fits) opened)
  opening_run (q ∷ rest) calls d o w k pc pc' os alive opened fits st =
      let code = scope_in p c o in
      let ctx = context_in c o in
      let h = held calls d in
      let l : d ≤ h = held_above calls d in
      let t = place_temporary q h in
      let lt : h ≤ t = place_above q h in
      let site = place_site code q h in
      let cut = split (code_in p) c.routine pc (place_code code q h 0)
      (with_code (within_site code site) rest calls (suc t)) pc' st in
      runs_bind p (suc n) c d 0 h 0 (suc t) 0 w k pc cut.0 pc' (access call q ctx w)
      (λ s w1. opening p.program (costs_in p) call next rest (with_opened (s ∷ o.spots) ctx) w1)
      (λ s w' k'. PlaceIn p n call c active site t s (Whole fits.0) w' k')
      (λ ss w' k'. OpenedNow w' k' (with_depth rest calls (suc t))
      (with_scope (within_site code site) rest calls (suc t)).opened ss os) l (omega arith) (omega (arith, l, lt))
      (omega arith)
      (place_run p n call c active callable q h 0 o w k pc cut.0 (Whole fits.0) alive
      (opened_kept p c d 0 h w w k k o l (keeps_refl d 0 w k) opened) fits.1 cut.1)
      (λ s w1 k1 alive1 kept1 r1.
      let o1 : Opening = record { sites = site ∷ o.sites; spots = s ∷ o.spots; shapes = fits.0 ∷ o.shapes } in
      let back = opened_kept p c d 0 (suc t) w w1 k k1 o (omega (arith, l, lt))
      (keeps_less d 0 h 0 l (omega arith) kept1) opened in
      opening_run rest calls (suc t) o1 w1 k1 cut.0 pc' os alive1 (r1.0, r1.1, back) fits.2 cut.2)

  pub with_run : (places : List Place) (s : Statement) → StatementRuns p n call next c active nexts does callable s
      → StatementRuns p n call next c active nexts does callable (With places s)
  with_run places s rs d o w k pc pc' alive opened fits st =
      let code = scope_in p c o in
      let ctx = context_in c o in
      let calls = statement_calls s || places_call places in
      let depth = with_depth places calls d in
      let sites = (with_scope code places calls d).opened in
      let cut = split (code_in p) c.routine pc (with_code code places calls d)
      (statement_code (with_scope code places calls d) s depth) pc' st in
      runs_bind p (suc n) c d 0 d 0 depth 0 w k pc cut.0 pc' (opening p.program (costs_in p) call next places ctx w)
      (λ ss w1. act p.program (costs_in p) call next s (with_opened ss ctx) w1)
      (λ ss w' k'. OpenedNow w' k' depth sites ss fits.0) Nothing (omega arith) (omega arith)
      (with_above places calls d) (omega arith)
      (opening_run places calls d o w k pc cut.0 fits.0 alive opened fits.1 cut.1)
      (λ ss w1 k1 alive1 kept1 r1.
      rs depth (record {
        sites = sites;
        spots = ss;
        shapes = fits.0;
      }) w1 k1 cut.0 pc' alive1 r1 fits.2 (subst
      (λ z. Stands (code_in p) c.routine cut.0 (statement_code z s depth) pc')
      (with_scope_is places o calls d) cut.2))
