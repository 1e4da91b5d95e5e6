-- Assignments of arrays and records.
use Rattle.ps_lower_constructs.proofs.Calling.{Callable}
use Rattle.std.proofs.Common.{ℕ, suc, ◌+◌, ◌≤◌, pos, [], ◌∷◌, ◌++◌, length, sym, subst, arith}
use Rattle.ps_tree.specs.Tree.{Place, Structure, AssignStructure}
use Rattle.tac_code.specs.declared.code.Instruction.TheVariants as i
use Rattle.ps_meaning.specs.Worlds.{and_then, put as put_into}
use Rattle.ps_meaning.specs.Expressions.{Caller, contents_of, operand, access}
use Rattle.ps_meaning.specs.Statements.{Next}
use Rattle.tac_code_steps.specs.Runs.{Stands}
use Rattle.tac_code_steps.proofs.Runs.{split}
use Rattle.ps_lower_layout.specs.Shapes.{Whole}
use Rattle.ps_lower_code.specs.Scopes.{even_from, held, beside}
use Rattle.ps_lower_code.specs.Calling.{structure_calls}
use Rattle.ps_lower_code.specs.Values.{place_temporary, place_site, place_code, structure_code, structure_bytes}
use Rattle.ps_lower_code.proofs.Depths.{even_above, held_above}
use Rattle.ps_lower_relation.specs.Here.{Setting, code_in, Activated, IsActive}
use Rattle.ps_lower_relation.specs.Outcomes.{Runs}
use Rattle.ps_lower_relation.specs.RunTime.{WritesDo}
use Rattle.ps_lower_constructs.specs.Openings.{scope_in, context_in}
use Rattle.ps_lower_constructs.specs.Tasks.{Nothing, NextRuns}
use Rattle.ps_lower_constructs.proofs.Runs.{runs_bind, keeps_refl, keeps_less}
use Rattle.ps_lower_constructs.proofs.Kept.{opened_kept, site_kept, below_more}
use Rattle.ps_lower_constructs.proofs.Selectors.{PlaceIn}
use Rattle.ps_lower_constructs.proofs.Expressions.{place_run, structure_run}
use Rattle.ps_lower_constructs.proofs.Structures.{contents_are, StructureIn, structure_size}
use Rattle.ps_lower_constructs.proofs.Copying.{assigned}
use Rattle.ps_lower_constructs.proofs.Statements.{StatementRuns, place_above}

module _ (p : Setting) (n : ℕ) (call : Caller) (next : Next) (c : Activated) (active : IsActive p c)
    (nexts : NextRuns p n next) (does : WritesDo p) (calls : Callable p n call) where
  pub assign_structure_run : (q : Place) (e : Structure) → StatementRuns p n call next c active nexts does calls
      (AssignStructure q e)
  assign_structure_run q e d o w k pc pc' alive opened fits st =
      let code = scope_in p c o in
      let ctx = context_in c o in
      let shape = fits.0 in
      let d0 = held (structure_calls e) d in
      let l0 : d ≤ d0 = held_above (structure_calls e) d in
      let tp = place_temporary q d0 in
      let lp : d0 ≤ tp = place_above q d0 in
      let t = even_from (suc tp) in
      let lt : suc tp ≤ t = even_above (suc tp) in
      let site = place_site code q d0 in
      let bytes = structure_bytes e in
      let address = i.Offset (beside t) site.base site.offset bytes in
      let copy = i.Literal (beside (beside t)) (pos bytes) ∷ i.Call (beside (beside t)) (length p.program.routines + 0)
      (beside t ∷ t ∷ beside (beside t) ∷ []) 1 ∷ [] in
      let cut3 = split (code_in p) c.routine pc
      (place_code code q d0 0 ++ structure_code code e t 0 ++ address ∷ []) copy pc' st in
      let cut2 = split (code_in p) c.routine pc (place_code code q d0 0 ++ structure_code code e t 0)
      (address ∷ []) cut3.0 cut3.1 in
      let cut1 = split (code_in p) c.routine pc (place_code code q d0 0) (structure_code code e t 0) cut2.0 cut2.1 in
      runs_bind p (suc n) c d 0 d0 0 d 0 w k pc cut1.0 pc' (access call q ctx w)
      (λ s w1. and_then (operand call e ctx w1) (λ h w2. and_then (contents_of h w2) (λ v. put_into s v)))
      (λ s w' k'. PlaceIn p n call c active site tp s (Whole shape) w' k') Nothing l0 (omega arith) (omega arith)
      (omega arith)
      (place_run p n call c active calls q d0 0 o w k pc cut1.0 (Whole shape) alive
      (opened_kept p c d 0 d0 w w k k o l0 (keeps_refl d 0 w k) opened) fits.1 cut1.1)
      (λ s w1 k1 alive1 kept1 r1.
      let open1 = opened_kept p c d 0 t w w1 k k1 o (omega (arith, l0, lp, lt))
      (keeps_less d 0 d0 0 l0 (omega arith) kept1) opened in
      runs_bind p (suc n) c d 0 t 0 d 0 w1 k1 cut1.0 cut2.0 pc' (operand call e ctx w1)
      (λ h w2. and_then (contents_of h w2) (λ v. put_into s v)) (λ h w' k'. StructureIn p c t shape h w' k') Nothing
      (omega (arith, l0, lp, lt)) (omega arith) (omega arith) (omega arith)
      (structure_run p n call c active calls e shape t 0 o w1 k1 cut1.0 cut2.0 alive1 open1 fits.2 cut1.2)
      (λ h w2 k2 alive2 kept2 r2.
      let below = below_more p c (suc tp) t site.base lt r1.1 in
      let at = site_kept p c t 0 w1 w2 k1 k2 site s (Whole shape) below kept2 r1.0 in
      subst (λ a. Runs p (suc n) c d 0 w2 k2 cut2.0 pc' (and_then a (λ v. put_into s v)) Nothing)
      (sym (contents_are h w2))
      (assigned p c active does d (beside t) t w2 k2 cut2.0 pc' bytes site s shape h (omega (arith, l0, lp, lt))
      (omega arith) below alive2 at r2 fits.3 (structure_size p n call c active e o shape fits.2)
      (cut2.2.0, subst (λ y. Stands (code_in p) c.routine y copy pc') (sym cut2.2.1) cut3.2))))
