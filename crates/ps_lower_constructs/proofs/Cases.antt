-- `case` statements.
use Rattle.ps_lower_constructs.proofs.Calling.{Callable}
use Rattle.std.proofs.Common.{◌≡◌, ℕ, suc, ◌+◌, ℤ, Bool, true, false, not, ◌||◌, if◌then◌else◌, List, [], ◌∷◌, ◌++◌}
use Rattle.std.proofs.Common.{length, Some, refl, sym, ap, ◌∙◌, subst, arith}
use Rattle.std.proofs.Math.Bool.{or-false}
use Rattle.ps_tree.specs.Tree.{Expr, Statement, Case, Elements, no_element, element_before}
use Rattle.tac_code.specs.declared.code.Value.TheVariants.{Number as Numeral}
use Rattle.tac_code.specs.declared.code.Operand.TheVariants as operand
use Rattle.tac_code.specs.declared.code.Relation.TheVariants.{Equal, NotEqual}
use Rattle.tac_code.specs.declared.code.Instruction.TheVariants as i
use Rattle.tac_code.specs.Meaning.{related, fetch}
use Rattle.ps_meaning.specs.Values.{number_of}
use Rattle.ps_meaning.specs.Operators.{is_equal, is_among}
use Rattle.ps_meaning.specs.Worlds.{World, Answer, Gives, Ends, Done}
use Rattle.ps_meaning.specs.Expressions.{Caller, value}
use Rattle.ps_meaning.specs.Statements.{Next, act, selected}
use Rattle.tac_code_steps.specs.Runs.{Stands, Comes}
use Rattle.tac_code_steps.proofs.Runs.{split, stands_length, a_step, ◌>>◌}
use Rattle.tac_code_steps.proofs.Instructions.{trap_step, jump_step, branch_step}
use Rattle.ps_lower_layout.specs.Paths.{NumberSort}
use Rattle.ps_lower_code.specs.Statements.{expr_code, tests_code, statement_code, elements_code}
use Rattle.ps_lower_code.specs.Fits.{ElementsFit}
use Rattle.ps_lower_relation.specs.Here.{Setting, machine_of, code_in, costs_in, Work, Activated, IsActive, Alive}
use Rattle.ps_lower_relation.specs.Here.{state, WordIn}
use Rattle.ps_lower_relation.specs.Outcomes.{Runs}
use Rattle.ps_lower_relation.specs.RunTime.{WritesDo}
use Rattle.ps_lower_relation.proofs.Numbers.{same_numbers}
use Rattle.ps_lower_constructs.specs.Openings.{plain_scope, Opening, scope_in, context_in, IsOpened}
use Rattle.ps_lower_constructs.specs.Tasks.{Nothing, NextRuns}
use Rattle.ps_lower_constructs.proofs.Runs.{runs_bind, runs_from, reached_from, keeps_refl}
use Rattle.ps_lower_constructs.proofs.Kept.{opened_kept}
use Rattle.ps_lower_constructs.proofs.Leaves.{fails_so}
use Rattle.ps_lower_constructs.proofs.Expressions.{expr_runs}
use Rattle.ps_lower_constructs.proofs.Statements.{StatementRuns}

module _ (p : Setting) (n : ℕ) (call : Caller) (next : Next) (c : Activated) (active : IsActive p c)
    (nexts : NextRuns p n next) (does : WritesDo p) (calls : Callable p n call) where
  -- past the tests, or past this many instructions after them
  abbrev Tested : World → Work → (pc mid past : ℕ) → Bool → Type 0
  Tested w k pc mid past b = Comes (machine_of p) (state p c w k pc) (state p c w k (if b then mid else mid + past))

  tests_run : (constants : List ℤ) (z : ℤ) (w : World) (k : Work) (d past pc mid : ℕ) → k.temporaries d ≡ Some
      (Numeral z) → Stands (code_in p) c.routine pc (tests_code constants d past) mid → Tested w k pc mid past
      (is_among z constants)
  tests_run [] z w k d past pc mid at st =
      let e = st.1 in
      let there : suc pc + past ≡ mid + past = ap (λ q. q + past) e in
      subst (λ q. Comes (machine_of p) (state p c w k pc) (state p c w k q)) there
      (a_step (state p c w k pc) (state p c w k (suc pc + past))
      (jump_step (machine_of p) (state p c w k pc) past st.0))
  tests_run (m ∷ []) z w k d past pc mid at st =
      let tests : related NotEqual (k.temporaries d) (Some (Numeral m)) ≡ Some
      (not (is_equal z m)) = ap (λ q. related NotEqual q (Some (Numeral m))) at ∙ ap (λ b. Some (not b))
      (same_numbers z m) in
      go (is_equal z m) refl tests
    where
      go : (b : Bool) → is_equal z m ≡ b → related NotEqual (k.temporaries d) (Some (Numeral m)) ≡ Some
          (not (is_equal z m)) → Tested w k pc mid past (is_among z (m ∷ []))
      go true e h =
          subst (λ b. Tested w k pc mid past b) (sym (or-false (is_equal z m) ∙ e))
          (subst (λ q. Comes (machine_of p) (state p c w k pc) (state p c w k q)) st.1
          (a_step (state p c w k pc) (state p c w k (suc pc))
          (branch_step (machine_of p) (state p c w k pc) NotEqual d (operand.Number m) past false st.0
          (h ∙ ap (λ b. Some (not b)) e))))
      go false e h =
          let there : suc pc + past ≡ mid + past = ap (λ q. q + past) st.1 in
          subst (λ b. Tested w k pc mid past b) (sym (or-false (is_equal z m) ∙ e))
          (subst (λ q. Comes (machine_of p) (state p c w k pc) (state p c w k q)) there
          (a_step (state p c w k pc) (state p c w k (suc pc + past))
          (branch_step (machine_of p) (state p c w k pc) NotEqual d (operand.Number m) past true st.0
          (h ∙ ap (λ b. Some (not b)) e))))
  tests_run (m ∷ m' ∷ rest) z w k d past pc mid at st =
      let tests : related Equal (k.temporaries d) (Some (Numeral m)) ≡ Some
      (is_equal z m) = ap (λ q. related Equal q (Some (Numeral m))) at ∙ ap Some (same_numbers z m) in
      go (is_equal z m) refl tests (tests_run (m' ∷ rest) z w k d past (suc pc) mid at st.1)
    where
      T : ℕ
      T = length (tests_code (m' ∷ rest) d past)

      go : (b : Bool) → is_equal z m ≡ b → related Equal (k.temporaries d) (Some (Numeral m)) ≡ Some (is_equal z m)
          → Tested w k (suc pc) mid past (is_among z (m' ∷ rest)) → Tested w k pc mid past (is_among z (m ∷ m' ∷ rest))
      go true e h further =
          let far = stands_length (code_in p) c.routine (suc pc) (tests_code (m' ∷ rest) d past) mid st.1 in
          subst (λ b. Tested w k pc mid past (b || is_among z (m' ∷ rest))) (sym e)
          (subst (λ q. Comes (machine_of p) (state p c w k pc) (state p c w k q)) (sym far)
          (a_step (state p c w k pc) (state p c w k (suc pc + T))
          (branch_step (machine_of p) (state p c w k pc) Equal d (operand.Number m) T true st.0 (h ∙ ap Some e))))
      go false e h further =
          subst (λ b. Tested w k pc mid past (b || is_among z (m' ∷ rest))) (sym e)
          (a_step (state p c w k pc) (state p c w k (suc pc))
          (branch_step (machine_of p) (state p c w k pc) Equal d (operand.Number m) T false st.0 (h ∙ ap Some e)) >>
          further)

  abbrev pub ElementsRun : Elements → Type 0
  ElementsRun els =
      (d line : ℕ) (o : Opening) (w : World) (k : Work) (pc pc' : ℕ) (z : ℤ) → Alive p c w k → IsOpened p c w k d o
      → ElementsFit (plain_scope p c) o.shapes els → k.temporaries d ≡ Some (Numeral z) → Stands
      (code_in p) c.routine pc (elements_code (scope_in p c o) els d line) pc'
      → Runs p (suc n) c d 0 w k pc pc' (selected p.program (costs_in p) call next els z line (context_in c o) w)
      Nothing

  pub no_elements : ElementsRun no_element
  no_elements d line o w k pc pc' z alive opened fits at st = fails_so p (suc n) c active w k pc 7 line (omega arith)
      (trap_step (machine_of p) (state p c w k pc) 7 line st.0)

  -- what is after a jump is passed
  jumps_past : (a : Answer Done) (d : ℕ) (w : World) (k : Work) (pc mid far pc' : ℕ) → fetch (code_in p) c.routine mid
      ≡ Some (i.Jump far) → pc' ≡ suc mid + far → Runs p (suc n) c d 0 w k pc mid a Nothing → Runs p
      (suc n) c d 0 w k pc pc' a Nothing
  jumps_past (Gives u w1) d w k pc mid far pc' at e r =
      reached_from p (suc n) c d 0 d 0 w w1 k r.work (state p c w k pc) (state p c w1 r.work mid) pc' (Nothing u)
      (Nothing u) w1 (omega arith) (omega arith) r.comes r.keeps
      (record {
        work = r.work;
        alive = r.alive;
        keeps = keeps_refl d 0 w1 r.work;
        comes = subst (λ z. Comes (machine_of p) (state p c w1 r.work mid) (state p c w1 r.work z)) (sym e)
            (a_step (state p c w1 r.work mid) (state p c w1 r.work (suc mid + far))
            (jump_step (machine_of p) (state p c w1 r.work mid) far at));
        result = tt;
      })
      (λ k' a' y. y)
  jumps_past (Ends out en) d w k pc mid far pc' at e r = r

  pub elements_then : (constants : List ℤ) (s : Statement) (rest : Elements)
      → StatementRuns p n call next c active nexts does calls s → ElementsRun rest → ElementsRun
      (element_before constants s rest)
  elements_then constants s rest rs rr d line o w k pc pc' z alive opened fits at st =
      let code = scope_in p c o in
      let ctx = context_in c o in
      let S = statement_code code s d in
      let E = elements_code code rest d line in
      let T = tests_code constants d (suc (length S)) in
      let cut2 = split (code_in p) c.routine pc (T ++ S) (i.Jump (length E) ∷ E) pc' st in
      let cut = split (code_in p) c.routine pc T S cut2.0 cut2.1 in
      let ls = stands_length (code_in p) c.routine cut.0 S cut2.0 cut.2 in
      let le = stands_length (code_in p) c.routine (suc cut2.0) E pc' cut2.2.1 in
      choose (is_among z constants) cut.0 cut2.0 (length S) (length E) ls le cut2.2.0
      (tests_run constants z w k d (suc (length S)) pc cut.0 at cut.1)
      (rs d o w k cut.0 cut2.0 alive opened fits.0 cut.2)
      (rr d line o w k (suc cut2.0) pc' z alive opened fits.1 at cut2.2.1)
    where
      A : Answer Done
      A = act p.program (costs_in p) call next s (context_in c o) w

      B : Answer Done
      B = selected p.program (costs_in p) call next rest z line (context_in c o) w

      choose : (b : Bool) (mid mid2 l far : ℕ) → mid2 ≡ mid + l → pc' ≡ suc mid2 + far → fetch
          (code_in p) c.routine mid2 ≡ Some (i.Jump far) → Tested w k pc mid (suc l) b → Runs p
          (suc n) c d 0 w k mid mid2 A Nothing → Runs p (suc n) c d 0 w k (suc mid2) pc' B Nothing
          → Runs p (suc n) c d 0 w k pc pc' ((if b then act p.program (costs_in p) call next s (context_in c o)
          else selected p.program (costs_in p) call next rest z line (context_in c o)) w) Nothing
      choose true mid mid2 l far ls le jump tested r1 r2 = runs_from p (suc n) c d 0 w w k k pc mid pc' A Nothing tested
          (keeps_refl d 0 w k) (jumps_past A d w k mid mid2 far pc' jump le r1)
      choose false mid mid2 l far ls le jump tested r1 r2 =
          let there : mid + suc l ≡ suc mid2 = omega (arith, ls) in
          runs_from p (suc n) c d 0 w w k k pc (suc mid2) pc' B Nothing
          (subst (λ q. Comes (machine_of p) (state p c w k pc) (state p c w k q)) there tested)
          (keeps_refl d 0 w k) r2

  pub case_run : (e : Expr) (els : Elements) (line : ℕ) → ElementsRun els
      → StatementRuns p n call next c active nexts does calls (Case e els line)
  case_run e els line re d o w k pc pc' alive opened fits st =
      let ctx = context_in c o in
      let cut = split (code_in p) c.routine pc (expr_code (scope_in p c o) e d 0)
      (elements_code (scope_in p c o) els d line) pc' st in
      runs_bind p (suc n) c d 0 d 0 d 0 w k pc cut.0 pc' (value call e ctx w)
      (λ y w1. selected p.program (costs_in p) call next els (number_of y) line ctx w1)
      (λ v w' k'. WordIn k'.temporaries w'.made d NumberSort v) Nothing (omega arith) (omega arith) (omega arith)
      (omega arith)
      (expr_runs p n call c active calls e d 0 o w k pc cut.0 NumberSort alive opened fits.0 cut.1)
      (λ y w1 k1 alive1 kept1 r1. re d line o w1 k1 cut.0 pc' (number_of y) alive1
      (opened_kept p c d 0 d w w1 k k1 o (omega arith) kept1 opened) fits.1 r1.word cut.2)
