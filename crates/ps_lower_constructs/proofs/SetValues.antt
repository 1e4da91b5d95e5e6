-- Expressions of a set type, and tests of them.
use Rattle.std.proofs.Common.{◌≡◌, ℕ, suc, ◌+◌, ◌-◌, ◌<◌, ◌≤◌, ℤ, pos, negsuc, int_lt, nat_lt, Bool, true, false, ◌&&◌}
use Rattle.std.proofs.Common.{if◌then◌else◌, [], ◌∷◌, ◌++◌, refl, sym, subst, arith, ltb-true, ltb-false}
use Rattle.std.proofs.Common.{leb-true, nat_le}
use Rattle.ps_tree.specs.declared.tree.operators.SetOperator.{SetOperator}
use Rattle.ps_tree.specs.declared.tree.operators.SetOperator.TheVariants.{Union, Difference, Intersection}
use Rattle.ps_tree.specs.Tree.{Place, SetExpr, LoadSet, Constructor, Combine, SetSteps, no_set_step, set_step_before}
use Rattle.ps_tree.specs.Tree.{Member, Members}
use Rattle.tac_code.specs.declared.code.Base.TheVariants as base
use Rattle.tac_code.specs.declared.code.Instruction.TheVariants as i
use Rattle.ps_meaning.specs.Values.{set_of}
use Rattle.ps_meaning.specs.Operators.{combine_sets, is_between}
use Rattle.ps_meaning.specs.Worlds.{World, Gives, and_then, contents_in}
use Rattle.ps_meaning.specs.Expressions.{Caller, access, set_value, sets_combined, member_value, members_value}
use Rattle.tac_code_steps.specs.Runs.{Stands}
use Rattle.tac_code_steps.proofs.Runs.{split}
use Rattle.ps_lower_layout.specs.Shapes.{SetShape, Whole}
use Rattle.tac_code.proofs.Impossible.{never}
use Rattle.ps_lower_code.specs.Scopes.{even_from, beside, words_code}
use Rattle.ps_lower_code.specs.Values.{place_temporary, place_site, place_code, adds, joining_code, adding_code}
use Rattle.ps_lower_code.specs.Values.{asked_code, set_code, set_steps_code, member_code, members_code}
use Rattle.ps_lower_code.specs.Fits.{SetFits, SetStepsFit, MembersFit, MemberFits}
use Rattle.ps_lower_code.proofs.Depths.{even_above}
use Rattle.ps_lower_relation.specs.Here.{Setting, code_in, Work, Activated, IsActive, Alive}
use Rattle.ps_lower_relation.specs.Outcomes.{Runs}
use Rattle.ps_lower_relation.specs.RunTime.{WritesDo}
use Rattle.ps_lower_constructs.specs.Openings.{plain_scope, Opening, scope_in, context_in, IsOpened}
use Rattle.ps_lower_constructs.proofs.Runs.{runs_bind, runs_from, here, keeps_refl, keeps_less}
use Rattle.ps_lower_constructs.proofs.Kept.{opened_kept}
use Rattle.ps_lower_constructs.proofs.Selectors.{PlaceIn, PlaceRuns}
use Rattle.ps_lower_constructs.proofs.Passages.{arrives}
use Rattle.ps_lower_constructs.proofs.ScratchSets.{SetIn, set_kept, combined_so, loaded_so, AskedIn}

-- ---- numbers of 0..255

pub not_below_itself : (z : ℤ) → int_lt z z ≡ false
not_below_itself (pos m) = go (nat_lt m m) refl
  where
    go : (b : Bool) → nat_lt m m ≡ b → b ≡ false
    go true e = let l = ltb-true m m e in absurd (omega (arith, l))
    go false e = refl
not_below_itself (negsuc m) = go (nat_lt m m) refl
  where
    go : (b : Bool) → nat_lt m m ≡ b → b ≡ false
    go true e = let l = ltb-true m m e in absurd (omega (arith, l))
    go false e = refl

pub byte_is : (z : ℤ) → is_between (pos 0) z (pos 255) ≡ true → (m : ℕ) × (z ≡ pos m) × (m < 256)
byte_is (pos m) e = (m, refl, go (nat_le 0 m) (nat_le m 255) refl e)
  where
    go : (a b : Bool) → nat_le m 255 ≡ b → (a && b) ≡ true → m < 256
    go true true q h = let l = leb-true m 255 q in omega (arith, l)
    go true false q h = absurd (cc h)
    go false b q h = absurd (cc h)
byte_is (negsuc m) e = absurd (cc e)

-- one number after another
pub not_above : (a b : ℕ) → int_lt (pos b) (pos a) ≡ false → (m : ℕ) × (b ≡ a + m)
not_above a b e = (b - a, go (nat_lt b a) refl e)
  where
    go : (t : Bool) → nat_lt b a ≡ t → t ≡ false → b ≡ a + (b - a)
    go true q h = absurd (cc h)
    go false q h = let l = ltb-false b a q in omega (arith, l)

and_turned : (a b : Bool) → (a && b) ≡ (b && a)
and_turned true true = refl
and_turned true false = refl
and_turned false true = refl
and_turned false false = refl

module _ (p : Setting) (n : ℕ) (call : Caller) (c : Activated) (active : IsActive p c) (does : WritesDo p) where
  abbrev pub SetRuns : SetExpr → Type 0
  SetRuns e =
      (d x : ℕ) (o : Opening) (w : World) (k : Work) (pc pc' : ℕ) → Alive p c w k → IsOpened p c w k d o → SetFits
      (plain_scope p c) o.shapes e → Stands (code_in p) c.routine pc (set_code (scope_in p c o) e d x) pc'
      → Runs p (suc n) c d x w k pc pc' (set_value call e (context_in c o) w) (λ s w' k'. SetIn x s k')

  abbrev pub SetStepsRun : SetSteps → Type 0
  SetStepsRun steps =
      (d x : ℕ) (o : Opening) (w : World) (k : Work) (pc pc' : ℕ) (s : ℕ → Bool) → Alive p c w k → IsOpened p c w k d o
      → SetIn x s k → SetStepsFit (plain_scope p c) o.shapes steps → Stands (code_in p) c.routine pc
      (set_steps_code (scope_in p c o) steps d x) pc'
      → Runs p (suc n) c d x w k pc pc' (sets_combined call steps s (context_in c o) w) (λ s' w' k'. SetIn x s' k')

  -- the address of a set
  abbrev pub AskedRuns : SetExpr → Type 0
  AskedRuns e =
      (t x : ℕ) (o : Opening) (w : World) (k : Work) (pc pc' : ℕ) → Alive p c w k → IsOpened p c w k t o → SetFits
      (plain_scope p c) o.shapes e → Stands (code_in p) c.routine pc (asked_code (scope_in p c o) e t x) pc'
      → Runs p (suc n) c t x w k pc pc' (set_value call e (context_in c o) w)
      (λ s w' k'. AskedIn p c active t x s w' k')

  -- the members of a constructor are added to the set that is there
  abbrev pub AddingRuns : SetOperator → SetExpr → Type 0
  AddingRuns operator e =
      adds operator e ≡ true → (d x : ℕ) (o : Opening) (w : World) (k : Work) (pc pc' : ℕ) (s : ℕ → Bool)
      → Alive p c w k → IsOpened p c w k d o → SetIn x s k → SetFits (plain_scope p c) o.shapes e → Stands
      (code_in p) c.routine pc (adding_code (scope_in p c o) e d x) pc'
      → Runs p (suc n) c d x w k pc pc' (set_value call e (context_in c o) w)
      (λ y w' k'. SetIn x (combine_sets operator s y) k')

  -- members are added to the set that is there
  abbrev pub MemberRuns : Member → Type 0
  MemberRuns m =
      (d x : ℕ) (o : Opening) (w : World) (k : Work) (pc pc' : ℕ) (s : ℕ → Bool) → Alive p c w k → IsOpened p c w k d o
      → SetIn x s k → MemberFits (plain_scope p c) o.shapes m → Stands (code_in p) c.routine pc
      (member_code (scope_in p c o) m d x) pc'
      → Runs p (suc n) c d x w k pc pc' (member_value call m (context_in c o) w)
      (λ y w' k'. SetIn x (combine_sets Union s y) k')

  abbrev pub MembersRun : Members → Type 0
  MembersRun members =
      (d x : ℕ) (o : Opening) (w : World) (k : Work) (pc pc' : ℕ) (s : ℕ → Bool) → Alive p c w k → IsOpened p c w k d o
      → SetIn x s k → MembersFit (plain_scope p c) o.shapes members → Stands (code_in p) c.routine pc
      (members_code (scope_in p c o) members d x) pc'
      → Runs p (suc n) c d x w k pc pc' (members_value call members (context_in c o) w)
      (λ y w' k'. SetIn x (combine_sets Union s y) k')

  -- ---- what a variable holds

  pub load_set : (q : Place) → PlaceRuns p n call c active q → SetRuns (LoadSet q)
  load_set q place d x o w k pc pc' alive opened fits st =
      let code = scope_in p c o in
      let ctx = context_in c o in
      let t = even_from (suc d) in
      let l : suc d ≤ t = even_above (suc d) in
      let u = beside t in
      let site = place_site code q d in
      let first = i.Offset t site.base site.offset 32 ∷ [] in
      let rest = words_code base.Scratch x (base.Temporary t) 0 u 8 in
      let cut = split (code_in p) c.routine pc (place_code code q d x ++ first) rest pc' st in
      let cut1 = split (code_in p) c.routine pc (place_code code q d x) first cut.0 cut.1 in
      runs_bind p (suc n) c d x d x d x w k pc cut1.0 pc' (access call q ctx w)
      (λ s w1. Gives (set_of (contents_in w1 s)) w1)
      (λ s w' k'. PlaceIn p n call c active site (place_temporary q d) s (Whole SetShape) w' k')
      (λ s w' k'. SetIn x s k') (omega arith) (omega arith) (omega arith) (omega arith)
      (place d x o w k pc cut1.0 (Whole SetShape) alive opened fits cut1.1)
      (λ s w1 k1 alive1 kept1 r1.
      let left = loaded_so p c active does d x t u site s w1 k1 cut1.0 pc' (omega (arith, l)) (omega arith) alive1 r1.0
      (cut1.2.0, subst (λ z. Stands (code_in p) c.routine z rest pc') (sym cut1.2.1) cut.2) in
      arrives p c active left.passage (λ w' k'. SetIn x (set_of (contents_in w1 s)) k') left.set)

  -- ---- union, difference, intersection

  pub no_set_steps : SetStepsRun no_set_step
  no_set_steps d x o w k pc pc' s alive opened set fits st = here p (suc n) c d x w k pc pc'
      (λ w' k'. SetIn x s k') st alive set

  pub adding_load : (operator : SetOperator) (q : Place) → AddingRuns operator (LoadSet q)
  adding_load operator q e = never e

  pub adding_combined : (operator : SetOperator) (e : SetExpr) (steps : SetSteps) → AddingRuns operator
      (Combine e steps)
  adding_combined operator e steps h = never h

  pub adding_members : (operator : SetOperator) (members : Members) → MembersRun members → AddingRuns operator
      (Constructor members)
  adding_members Union members run e = λ d x o w k pc pc' s alive opened set fits st. run d x o w k pc pc' s alive
      opened set fits st
  adding_members Difference members run e = never e
  adding_members Intersection members run e = never e

  pub set_step_then : (operator : SetOperator) (e : SetExpr) (rest : SetSteps) → AskedRuns e → AddingRuns operator e
      → SetStepsRun rest → SetStepsRun (set_step_before operator e rest)
  set_step_then operator e rest asked adding next d x o w k pc pc' s alive opened set fits st = go
      (adds operator e) refl st
    where
      go : (b : Bool) → adds operator e ≡ b → Stands (code_in p) c.routine pc
          ((if b then adding_code (scope_in p c o) e d x
          else (asked_code (scope_in p c o) e (beside (even_from d)) (x + 32) ++ joining_code (scope_in p c o) operator
          (even_from d) x)) ++ set_steps_code (scope_in p c o) rest d x) pc' → Runs p (suc n) c d x w k pc pc'
          (and_then (set_value call e (context_in c o) w)
          (λ y w1. sets_combined call rest (combine_sets operator s y) (context_in c o) w1)) (λ s' w' k'. SetIn x s' k')
      go true q h =
          let cut = split (code_in p) c.routine pc (adding_code (scope_in p c o) e d x)
          (set_steps_code (scope_in p c o) rest d x) pc' h in
          runs_bind p (suc n) c d x d x d x w k pc cut.0 pc' (set_value call e (context_in c o) w)
          (λ y w1. sets_combined call rest (combine_sets operator s y) (context_in c o) w1)
          (λ y w' k'. SetIn x (combine_sets operator s y) k') (λ s' w' k'. SetIn x s' k') (omega arith)
          (omega arith) (omega arith) (omega arith)
          (adding q d x o w k pc cut.0 s alive opened set fits.0 cut.1)
          (λ y w1 k1 alive1 kept1 r1. next d x o w1 k1 cut.0 pc' (combine_sets operator s y) alive1
          (opened_kept p c d x d w w1 k k1 o (omega arith) kept1 opened) r1 fits.1 cut.2)
      go false q h =
          let cut2 = split (code_in p) c.routine pc
          (asked_code (scope_in p c o) e (beside (even_from d)) (x + 32) ++ joining_code (scope_in p c o) operator
          (even_from d) x) (set_steps_code (scope_in p c o) rest d x) pc' h in
          let cut = split (code_in p) c.routine pc (asked_code (scope_in p c o) e (beside (even_from d)) (x + 32))
          (joining_code (scope_in p c o) operator (even_from d) x) cut2.0 cut2.1 in
          let l : d ≤ even_from d = even_above d in
          let lu : d ≤ beside (even_from d) = omega (arith, l) in
          let ne : even_from d ≡ beside (even_from d) → ⊥ = λ r. omega (arith, r) in
          runs_bind p (suc n) c d x (beside (even_from d)) (x + 32) d x w k pc cut.0 pc'
          (set_value call e (context_in c o) w) (λ y w1. sets_combined call rest (combine_sets operator s y)
          (context_in c o) w1) (λ y w' k'. AskedIn p c active (beside (even_from d)) (x + 32) y w' k')
          (λ s' w' k'. SetIn x s' k') lu (omega arith) (omega arith) (omega arith)
          (asked (beside (even_from d)) (x + 32) o w k pc cut.0 alive
          (opened_kept p c d x (beside (even_from d)) w w k k o lu (keeps_refl d x w k) opened) fits.0 cut.1)
          (λ y w1 k1 alive1 kept1 r1.
          let kept = set_kept x (beside (even_from d)) (x + 32) s w w1 k k1 (omega arith) kept1 set in
          let left = combined_so p c active does operator d x (even_from d)
          (beside (even_from d)) s y w1 k1 cut.0 cut2.0 l ne alive1 kept r1 cut.2 in
          let open1 = opened_kept p c d (x + 32) d w w1 k k1 o (omega arith)
          (keeps_less d (x + 32) (beside (even_from d)) (x + 32) lu (omega arith) kept1) opened in
          runs_from p (suc n) c d x w1 w1 k1 left.work cut.0 cut2.0 pc'
          (sets_combined call rest (combine_sets operator s y) (context_in c o) w1)
          (λ s' w' k'. SetIn x s' k') left.passage.comes left.passage.keeps
          (next d x o w1 left.work cut2.0 pc' (combine_sets operator s y) left.passage.alive
          (opened_kept p c d x d w1 w1 k1 left.work o (omega arith) left.passage.keeps open1) left.set fits.1
          cut2.2))

  pub combine : (e : SetExpr) (steps : SetSteps) → SetRuns e → SetStepsRun steps → SetRuns (Combine e steps)
  combine e steps run next d x o w k pc pc' alive opened fits st =
      let code = scope_in p c o in
      let ctx = context_in c o in
      let cut = split (code_in p) c.routine pc (set_code code e d x) (set_steps_code code steps d x) pc' st in
      runs_bind p (suc n) c d x d x d x w k pc cut.0 pc' (set_value call e ctx w)
      (λ s w1. sets_combined call steps s ctx w1) (λ s w' k'. SetIn x s k') (λ s w' k'. SetIn x s k') (omega arith)
      (omega arith) (omega arith) (omega arith)
      (run d x o w k pc cut.0 alive opened fits.0 cut.1)
      (λ s w1 k1 alive1 kept1 r1. next d x o w1 k1 cut.0 pc' s alive1
      (opened_kept p c d x d w w1 k k1 o (omega arith) kept1 opened) r1 fits.1 cut.2)
