-- Sets that are value parameters: they are tested, and their addresses passed.
use Rattle.std.proofs.Common.{◌≡◌, ℕ, suc, ◌+◌, ◌*◌, ◌<◌, ◌≤◌, ℤ, Bool, [], ◌∷◌, ◌++◌, Some, refl, sym, ap, ◌∙◌, subst}
use Rattle.std.proofs.Common.{arith}
use Rattle.ps_tree.specs.Tree.{SetExpr, BySet}
use Rattle.tac_code.specs.declared.code.Base.TheVariants as base
use Rattle.tac_code.specs.declared.code.Block.TheVariants.{Scratch as ScratchBlock}
use Rattle.tac_code.specs.declared.code.Value.TheVariants.{Address}
use Rattle.tac_code.specs.declared.code.Instruction.TheVariants as i
use Rattle.tac_code.specs.Meaning.{and_more}
use Rattle.tac_code.specs.declared.code.TheConstants.{BLOCK_LIMIT}
use Rattle.ps_meaning.specs.Values.{SetValue}
use Rattle.ps_meaning.specs.Worlds.{World, Gives, and_then}
use Rattle.ps_meaning.specs.Expressions.{Caller, ValueActual, set_value, fitting_set}
use Rattle.tac_code_steps.specs.Runs.{Stands}
use Rattle.tac_code_steps.proofs.Runs.{split}
use Rattle.tac_code_steps.proofs.Temporaries.{put_same}
use Rattle.ps_lower_layout.specs.Shapes.{SetShape}
use Rattle.ps_lower_layout.specs.Frames.{Kind, Own}
use Rattle.ps_lower_code.specs.Scopes.{even_from}
use Rattle.ps_lower_code.specs.Values.{set_code, set_check}
use Rattle.ps_lower_code.proofs.Depths.{even_above}
use Rattle.ps_lower_relation.specs.Here.{Setting, code_in, Work, Activated, IsActive, Alive, state}
use Rattle.ps_lower_relation.specs.Outcomes.{Reached, Runs}
use Rattle.ps_lower_relation.specs.RunTime.{WritesDo}
use Rattle.ps_lower_relation.proofs.SetWords.{set_word}
use Rattle.ps_lower_calls.specs.Passing.{PassValue}
use Rattle.ps_lower_constructs.specs.Openings.{scope_in, context_in}
use Rattle.ps_lower_constructs.proofs.Runs.{with_temporary, runs_bind}
use Rattle.ps_lower_constructs.proofs.Arguments.{ArgumentIn, ArgumentRuns}
use Rattle.ps_lower_constructs.proofs.Scratch.{scratch_offset}
use Rattle.ps_lower_constructs.proofs.Passages.{arrives, to_end, scratch_passage}
use Rattle.ps_lower_constructs.proofs.ScratchSets.{SetIn}
use Rattle.ps_lower_constructs.proofs.SetValues.{SetRuns}
use Rattle.ps_lower_constructs.proofs.SetChecks.{set_checked}

module _ (p : Setting) (n : ℕ) (call : Caller) (c : Activated) (active : IsActive p c) (does : WritesDo p) where
  -- the address of the set that is from x on
  set_passed : (e : SetExpr) (low high : ℤ) (line t x : ℕ) (kind : Kind) (s : ℕ → Bool) (w : World) (k : Work)
      (pc pc' : ℕ) → kind ≡ Own SetShape → Alive p c w k → SetIn x s k → Stands (code_in p) c.routine pc
      (i.Offset t base.Scratch x 32 ∷ []) pc'
      → Reached p c t x w k (state p c w k pc) pc'
      (λ w' k'. ArgumentIn p c (BySet e low high line) kind t (x + 32) (ValueActual (SetValue s)) w' k') w
  set_passed e low high line t x kind s w k pc pc' same alive set st =
      let at = scratch_offset p c active pc t x 32 st.0 in
      let small = at.small in
      let is = set.1 in
      let inside : 4 * (set.0 + 8) ≤ x + 32 = omega (arith, is) in
      let below : 4 * (set.0 + 8) < BLOCK_LIMIT = omega (arith, is, small) in
      let address = Address (ScratchBlock c.number) x in
      let k1 = with_temporary k t address in
      let a = scratch_passage p c active t x w k pc t x 32 (omega arith) alive st.0 in
      arrives p c active (to_end p c active a st.1)
      (λ w' k'. ArgumentIn p c (BySet e low high line) kind t (x + 32) (ValueActual (SetValue s)) w' k')
      (record {
        passing = PassValue SetShape (SetValue s) (Address (ScratchBlock c.number) (4 * set.0));
        actual = refl;
        kind_is = sym same;
        at = tt;
        is = record {
          place = set.0;
          is = refl;
          within = inside;
          small = below;
          reads = λ j l. set.2 j l ∙ sym (set_word s j l);
        };
        values = ap (λ y. and_more y (Some [])) (put_same k.temporaries t address
            ∙ ap (λ y. Some (Address (ScratchBlock c.number) y)) is);
      })

  pub by_set : (e : SetExpr) (low high : ℤ) (line : ℕ) → SetRuns p n call c active does e
      → ArgumentRuns p n call c active (BySet e low high line)
  by_set e low high line run t x o w k pc pc' kind alive opened fits st =
      let code = scope_in p c o in
      let ctx = context_in c o in
      let u = even_from t in
      let l : t ≤ u = even_above t in
      let cut2 = split (code_in p) c.routine pc (set_code code e t x ++ set_check u x low high line)
      (i.Offset t base.Scratch x 32 ∷ []) pc' st in
      let cut = split (code_in p) c.routine pc (set_code code e t x) (set_check u x low high line) cut2.0 cut2.1 in
      runs_bind p (suc n) c t x t x t x w k pc cut.0 pc' (set_value call e ctx w)
      (λ s w1. and_then (fitting_set low high s line ctx w1) (λ v w2. Gives (ValueActual v) w2))
      (λ s w' k'. SetIn x s k') (λ y w' k'. ArgumentIn p c (BySet e low high line) kind t (x + 32) y w' k')
      (omega arith) (omega arith) (omega arith) (omega arith)
      (run t x o w k pc cut.0 alive opened fits.1 cut.1)
      (λ s w1 k1 alive1 kept1 r1.
      runs_bind p (suc n) c t x t x t x w1 k1 cut.0 cut2.0 pc' (fitting_set low high s line ctx w1)
      (λ v w2. Gives (ValueActual v) w2) (λ v w' k'. (v ≡ SetValue s) × SetIn x s k')
      (λ y w' k'. ArgumentIn p c (BySet e low high line) kind t (x + 32) y w' k') (omega arith) (omega arith)
      (omega arith) (omega arith)
      (set_checked p (suc n) c active t x u line low high o s w1 k1 cut.0 cut2.0 l alive1 r1 cut.2)
      (λ v w2 k2 alive2 kept2 r2.
      subst (λ y. Runs p (suc n) c t x w2 k2 cut2.0 pc' (Gives (ValueActual y) w2)
      (λ y w' k'. ArgumentIn p c (BySet e low high line) kind t (x + 32) y w' k')) (sym r2.0)
      (set_passed e low high line t x kind s w2 k2 cut2.0 pc' fits.0 alive2 r2.1 cut2.2)))
