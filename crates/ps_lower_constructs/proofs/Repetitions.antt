-- If, while and repeat statements.
use Rattle.ps_lower_constructs.proofs.Calling.{Callable}
use Rattle.std.proofs.Common.{◌≡◌, ℕ, suc, ◌+◌, Bool, true, false, not, if◌then◌else◌, [], ◌∷◌, ◌++◌, length, Some}
use Rattle.std.proofs.Common.{refl, sym, ap, ◌∙◌, subst, arith}
use Rattle.ps_tree.specs.Tree.{Expr, Statement, If, IfElse, While, Repeat, Statements}
use Rattle.tac_code.specs.declared.code.Instruction.TheVariants as i
use Rattle.tac_code.specs.Meaning.{fetch, operand_value}
use Rattle.ps_meaning.specs.Values.{Value, number_of}
use Rattle.ps_meaning.specs.Operators.{is_true}
use Rattle.ps_meaning.specs.Worlds.{World, Answer, Gives, Ends, Act, Done, done, and_then, give, ◌>>◌}
use Rattle.ps_meaning.specs.Expressions.{Caller, value}
use Rattle.ps_meaning.specs.Statements.{Again, Next, act, acts}
use Rattle.tac_code_steps.specs.Runs.{Stands, Comes}
use Rattle.tac_code_steps.proofs.Runs.{split, join, stands_length, a_step}
use Rattle.tac_code_steps.proofs.Instructions.{jump_step, branch_step}
use Rattle.ps_lower_layout.specs.Paths.{NumberSort}
use Rattle.ps_lower_code.specs.Values.{relation_in, left_in, right_in, opposite, front_code}
use Rattle.ps_lower_code.specs.Statements.{statement_code, statements_code}
use Rattle.ps_lower_code.specs.Fits.{StatementFits}
use Rattle.ps_lower_relation.specs.Here.{Setting, machine_of, code_in, costs_in, Work, Activated, IsActive, Alive}
use Rattle.ps_lower_relation.specs.Here.{state}
use Rattle.ps_lower_relation.specs.Outcomes.{Reached, Runs}
use Rattle.ps_lower_constructs.specs.Openings.{plain_scope, Opening, scope_in, context_in, IsOpened}
use Rattle.ps_lower_constructs.proofs.Runs.{reached_from, runs_bind, runs_from, keeps_refl}
use Rattle.ps_lower_constructs.proofs.Kept.{opened_kept}
use Rattle.ps_lower_constructs.proofs.Values.{FrontIn, related_opposite}
use Rattle.ps_lower_constructs.proofs.Expressions.{front_runs}
use Rattle.ps_lower_constructs.specs.Tasks.{Nothing, TaskStands, NextRuns}
use Rattle.ps_lower_relation.specs.RunTime.{WritesDo}
use Rattle.ps_lower_constructs.proofs.Statements.{StatementRuns, StatementsRun, if_not, sooner, test_back}

module _ (p : Setting) (n : ℕ) (call : Caller) (next : Next) (c : Activated) (active : IsActive p c)
    (nexts : NextRuns p n next) (does : WritesDo p) (calls : Callable p n call) where
  -- a choice, as a test of its truth
  pub if_run : (e : Expr) (s : Statement) → StatementRuns p n call next c active nexts does calls s
      → StatementRuns p n call next c active nexts does calls (If e s)
  if_run e s rs d o w k pc pc' alive opened fits st =
      let code = scope_in p c o in
      let ctx = context_in c o in
      let cut = split (code_in p) c.routine pc (front_code code e d 0)
      (i.Branch (opposite (relation_in e)) (left_in e d) (right_in e d) (length (statement_code code s d))
      ∷ statement_code code s d) pc' st in
      runs_bind p (suc n) c d 0 d 0 d 0 w k pc cut.0 pc' (value call e ctx w)
      (λ y w1. (if is_true (number_of y) then act p.program (costs_in p) call next s ctx else give done) w1)
      (λ v w' k'. FrontIn e d NumberSort v w'.made k'.temporaries) Nothing (omega arith) (omega arith) (omega arith)
      (omega arith)
      (front_runs p n call c active calls e d 0 o w k pc cut.0 NumberSort alive opened fits.0 cut.1)
      (λ y w1 k1 alive1 kept1 f. choose y w1 k1 cut.0 alive1 f (is_true (number_of y)) refl cut.2
      (rs d o w1 k1 (suc cut.0) pc' alive1 (opened_kept p c d 0 d w w1 k k1 o (omega arith) kept1 opened) fits.1
      cut.2.1))
    where
      choose : (y : Value) (w1 : World) (k1 : Work) (m : ℕ) → Alive p c w1 k1
          → FrontIn e d NumberSort y w1.made k1.temporaries → (b : Bool) → is_true (number_of y) ≡ b → Stands
          (code_in p) c.routine m (i.Branch (opposite (relation_in e)) (left_in e d) (right_in e d)
          (length (statement_code (scope_in p c o) s d)) ∷ statement_code (scope_in p c o) s d) pc' → Runs p
          (suc n) c d 0 w1 k1
          (suc m) pc' (act p.program (costs_in p) call next s (context_in c o) w1) Nothing → Runs p
          (suc n) c d 0 w1 k1 m pc' ((if b then act p.program (costs_in p) call next s (context_in c o) else give done)
          w1) Nothing
      choose y w1 k1 m alive1 f true q h r =
          let stepped = branch_step (machine_of p) (state p c w1 k1 m) (opposite (relation_in e)) (left_in e d)
          (right_in e d) (length (statement_code (scope_in p c o) s d)) false h.0
          (related_opposite (relation_in e) (k1.temporaries (left_in e d))
          (operand_value k1.temporaries (right_in e d)) true (f.relates refl ∙ ap Some q)) in
          runs_from p (suc n) c d 0 w1 w1 k1 k1 m (suc m) pc'
          (act p.program (costs_in p) call next s (context_in c o) w1) Nothing
          (a_step (state p c w1 k1 m) (state p c w1 k1 (suc m)) stepped) (keeps_refl d 0 w1 k1) r
      choose y w1 k1 m alive1 f false q h r =
          let stepped = branch_step (machine_of p) (state p c w1 k1 m) (opposite (relation_in e)) (left_in e d)
          (right_in e d) (length (statement_code (scope_in p c o) s d)) true h.0
          (related_opposite (relation_in e) (k1.temporaries (left_in e d))
          (operand_value k1.temporaries (right_in e d)) false (f.relates refl ∙ ap Some q)) in
          let far = stands_length (code_in p) c.routine (suc m) (statement_code (scope_in p c o) s d) pc' h.1 in
          record {
            work = k1;
            alive = alive1;
            keeps = keeps_refl d 0 w1 k1;
            comes = subst (λ z. Comes (machine_of p) (state p c w1 k1 m) (state p c w1 k1 z)) (sym far)
                (a_step (state p c w1 k1 m) (state p c w1 k1 (suc m + length (statement_code (scope_in p c o) s d)))
                stepped);
            result = tt;
          }

  pub if_else_run : (e : Expr) (s t : Statement) → StatementRuns p n call next c active nexts does calls s
      → StatementRuns p n call next c active nexts does calls t
      → StatementRuns p n call next c active nexts does calls (IfElse e s t)
  if_else_run e s t rs rt d o w k pc pc' alive opened fits st =
      let code = scope_in p c o in
      let ctx = context_in c o in
      let S = statement_code code s d in
      let T = statement_code code t d in
      let cut2 = split (code_in p) c.routine pc
      (front_code code e d 0 ++ i.Branch (opposite (relation_in e)) (left_in e d) (right_in e d) (suc (length S))
      ∷ S) (i.Jump (length T) ∷ T) pc' st in
      let cut = split (code_in p) c.routine pc (front_code code e d 0)
      (i.Branch (opposite (relation_in e)) (left_in e d) (right_in e d) (suc (length S)) ∷ S) cut2.0 cut2.1 in
      let ls = stands_length (code_in p) c.routine (suc cut.0) S cut2.0 cut.2.1 in
      let lt = stands_length (code_in p) c.routine (suc cut2.0) T pc' cut2.2.1 in
      runs_bind p (suc n) c d 0 d 0 d 0 w k pc cut.0 pc' (value call e ctx w)
      (λ y w1. (if is_true (number_of y) then act p.program (costs_in p) call next s ctx else act p.program
      (costs_in p) call next t ctx) w1) (λ v w' k'. FrontIn e d NumberSort v w'.made k'.temporaries) Nothing
      (omega arith) (omega arith) (omega arith) (omega arith)
      (front_runs p n call c active calls e d 0 o w k pc cut.0 NumberSort alive opened fits.0 cut.1)
      (λ y w1 k1 alive1 kept1 f.
      let back = opened_kept p c d 0 d w w1 k k1 o (omega arith) kept1 opened in
      choose y w1 k1 cut.0 cut2.0 alive1 f (is_true (number_of y)) refl cut.2.0 cut2.2.0 ls lt
      (rs d o w1 k1 (suc cut.0) cut2.0 alive1 back fits.1 cut.2.1)
      (rt d o w1 k1 (suc cut2.0) pc' alive1 back fits.2 cut2.2.1))
    where
      A : Statement → Act Done
      A u = act p.program (costs_in p) call next u (context_in c o)

      jumped : (w1 : World) (k1 : Work) (m j : ℕ) (a : Answer Done) → Comes (machine_of p) (state p c w1 k1 m)
          (state p c w1 k1 (suc m)) → (w2 : World) → Reached p c d 0 w1 k1 (state p c w1 k1 (suc m)) j (Nothing done) w2
          → Reached p c d 0 w1 k1 (state p c w1 k1 m) j (Nothing done) w2
      jumped w1 k1 m j a l w2 r = reached_from p (suc n) c d 0 d 0 w1 w1 k1 k1 (state p c w1 k1 m)
          (state p c w1 k1 (suc m)) j (Nothing done) (Nothing done) w2 (omega arith) (omega arith) l
          (keeps_refl d 0 w1 k1) r (λ k' a' y. y)

      ended : (a : Answer Done) (w1 : World) (k1 : Work) (m j : ℕ) → fetch (code_in p) c.routine j ≡ Some
          (i.Jump (length (statement_code (scope_in p c o) t d)))
          → pc' ≡ suc j + length (statement_code (scope_in p c o) t d)
          → Runs p (suc n) c d 0 w1 k1 m j a Nothing → Runs p (suc n) c d 0 w1 k1 m pc' a Nothing
      ended (Gives u w2) w1 k1 m j at e r =
          reached_from p (suc n) c d 0 d 0 w1 w2 k1 r.work (state p c w1 k1 m) (state p c w2 r.work j) pc' (Nothing u)
          (Nothing u) w2 (omega arith) (omega arith) r.comes r.keeps
          (record {
            work = r.work;
            alive = r.alive;
            keeps = keeps_refl d 0 w2 r.work;
            comes = subst (λ z. Comes (machine_of p) (state p c w2 r.work j) (state p c w2 r.work z)) (sym e)
                (a_step (state p c w2 r.work j)
                (state p c w2 r.work (suc j + length (statement_code (scope_in p c o) t d)))
                (jump_step (machine_of p) (state p c w2 r.work j) (length (statement_code (scope_in p c o) t d)) at));
            result = tt;
          })
          (λ k' a' y. y)
      ended (Ends out en) w1 k1 m j at e r = r

      choose : (y : Value) (w1 : World) (k1 : Work) (m j : ℕ) → Alive p c w1 k1
          → FrontIn e d NumberSort y w1.made k1.temporaries → (b : Bool) → is_true (number_of y) ≡ b → fetch
          (code_in p) c.routine m ≡ Some (i.Branch (opposite (relation_in e)) (left_in e d) (right_in e d)
          (suc (length (statement_code (scope_in p c o) s d)))) → fetch (code_in p) c.routine j ≡ Some
          (i.Jump (length (statement_code (scope_in p c o) t d)))
          → j ≡ suc m + length (statement_code (scope_in p c o) s d) → pc'
          ≡ suc j + length (statement_code (scope_in p c o) t d)
          → Runs p (suc n) c d 0 w1 k1 (suc m) j (A s w1) Nothing → Runs p (suc n) c d 0 w1 k1 (suc j) pc'
          (A t w1) Nothing → Runs p (suc n) c d 0 w1 k1 m pc' ((if b then A s else A t) w1) Nothing
      choose y w1 k1 m j alive1 f true q at jump es et r1 r2 =
          let stepped = branch_step (machine_of p) (state p c w1 k1 m) (opposite (relation_in e)) (left_in e d)
          (right_in e d) (suc (length (statement_code (scope_in p c o) s d))) false at
          (related_opposite (relation_in e) (k1.temporaries (left_in e d))
          (operand_value k1.temporaries (right_in e d)) true (f.relates refl ∙ ap Some q)) in
          runs_from p (suc n) c d 0 w1 w1 k1 k1 m (suc m) pc' (A s w1) Nothing
          (a_step (state p c w1 k1 m) (state p c w1 k1 (suc m)) stepped) (keeps_refl d 0 w1 k1)
          (ended (A s w1) w1 k1 (suc m) j jump et r1)
      choose y w1 k1 m j alive1 f false q at jump es et r1 r2 =
          let stepped = branch_step (machine_of p) (state p c w1 k1 m) (opposite (relation_in e)) (left_in e d)
          (right_in e d) (suc (length (statement_code (scope_in p c o) s d))) true at
          (related_opposite (relation_in e) (k1.temporaries (left_in e d))
          (operand_value k1.temporaries (right_in e d)) false (f.relates refl ∙ ap Some q)) in
          let there : suc m + suc (length (statement_code (scope_in p c o) s d)) ≡ suc j = omega (arith, es) in
          runs_from p (suc n) c d 0 w1 w1 k1 k1 m (suc j) pc' (A t w1) Nothing
          (subst (λ z. Comes (machine_of p) (state p c w1 k1 m) (state p c w1 k1 z)) there
          (a_step (state p c w1 k1 m) (state p c w1 k1 (suc m + suc (length (statement_code (scope_in p c o) s d))))
          stepped)) (keeps_refl d 0 w1 k1) r2

  -- a `while` statement, from its test on
  pub while_test : (e : Expr) (s : Statement) → StatementRuns p n call next c active nexts does calls s
      → (d : ℕ) (o : Opening) (w : World) (k : Work)
      (pc pc' : ℕ) → Alive p c w k → IsOpened p c w k d o → StatementFits (plain_scope p c) o.shapes (While e s)
      → TaskStands p c o (Again (While e s)) d k pc pc' → Runs p (suc n) c d 0 w k pc pc'
      (act p.program (costs_in p) call next (While e s) (context_in c o) w) Nothing
  while_test e s rs d o w k pc pc' alive opened fits st =
      let code = scope_in p c o in
      let ctx = context_in c o in
      let S = statement_code code s d in
      let F = front_code code e d 0 in
      let start = st.0 in
      let cut = split (code_in p) c.routine pc F
      (i.BranchBack (relation_in e) (left_in e d) (right_in e d) (length S + length F) ∷ []) pc' st.2 in
      let ls = stands_length (code_in p) c.routine start S pc st.1 in
      let lf = stands_length (code_in p) c.routine pc F cut.0 cut.1 in
      let A = act p.program (costs_in p) call next s ctx in
      let again : Act Done = A >> next (Again (While e s)) ctx in
      runs_bind p (suc n) c d 0 d 0 d 0 w k pc cut.0 pc' (value call e ctx w)
      (λ y w1. (if is_true (number_of y) then again else give done) w1)
      (λ v w' k'. FrontIn e d NumberSort v w'.made k'.temporaries) Nothing (omega arith) (omega arith) (omega arith)
      (omega arith)
      (front_runs p n call c active calls e d 0 o w k pc cut.0 NumberSort alive opened fits.0 cut.1)
      (λ y w1 k1 alive1 kept1 f.
      let back = opened_kept p c d 0 d w w1 k k1 o (omega arith) kept1 opened in
      test_back p n call next c active nexts does calls d w1 k1 cut.0 pc' start (length S + length F) (relation_in e)
      (left_in e d) (right_in e d)
      (is_true (number_of y)) again (f.relates refl) cut.2 (omega (arith, ls, lf)) alive1
      (runs_bind p n c d 0 d 0 d 0 w1 k1 start pc pc' (A w1) (λ u w2. next (Again (While e s)) ctx w2) Nothing Nothing
      (omega arith) (omega arith) (omega arith) (omega arith)
      (sooner p n call next c active nexts does calls d 0 w1 k1 start pc (A w1) Nothing
      (rs d o w1 k1 start pc alive1 back fits.1 st.1))
      (λ u w2 k2 alive2 kept2 y2. nexts c active (Again (While e s)) d o w2 k2 pc pc' alive2
      (opened_kept p c d 0 d w1 w2 k1 k2 o (omega arith) kept2 back) fits st)))

  pub while_run : (e : Expr) (s : Statement) → StatementRuns p n call next c active nexts does calls s
      → StatementRuns p n call next c active nexts does calls (While e s)
  while_run e s rs d o w k pc pc' alive opened fits st =
      let code = scope_in p c o in
      let S = statement_code code s d in
      let F = front_code code e d 0 in
      let B = i.BranchBack (relation_in e) (left_in e d) (right_in e d) (length S + length F) ∷ [] in
      let cut = split (code_in p) c.routine (suc pc) (S ++ F) B pc' st.1 in
      let cut2 = split (code_in p) c.routine (suc pc) S F cut.0 cut.1 in
      let ls = stands_length (code_in p) c.routine (suc pc) S cut2.0 cut2.1 in
      runs_from p (suc n) c d 0 w w k k pc cut2.0 pc'
      (act p.program (costs_in p) call next (While e s) (context_in c o) w) Nothing
      (subst (λ z. Comes (machine_of p) (state p c w k pc) (state p c w k z)) (sym ls)
      (a_step (state p c w k pc) (state p c w k (suc pc + length S))
      (jump_step (machine_of p) (state p c w k pc) (length S) st.0))) (keeps_refl d 0 w k)
      (while_test e s rs d o w k cut2.0 pc' alive opened fits
      (suc pc, cut2.1, join (code_in p) c.routine cut2.0 F B cut.0 pc' cut2.2 cut.2))

  pub repeat_run : (body : Statements) (e : Expr) → StatementsRun p n call next c active nexts does calls body
      → StatementRuns p n call next c active nexts does calls (Repeat body e)
  repeat_run body e rb d o w k pc pc' alive opened fits st =
      let code = scope_in p c o in
      let ctx = context_in c o in
      let S = statements_code code body d in
      let F = front_code code e d 0 in
      let cut = split (code_in p) c.routine pc (S ++ F)
      (i.BranchBack (opposite (relation_in e)) (left_in e d) (right_in e d) (length S + length F) ∷ []) pc' st in
      let cut2 = split (code_in p) c.routine pc S F cut.0 cut.1 in
      let ls = stands_length (code_in p) c.routine pc S cut2.0 cut2.1 in
      let lf = stands_length (code_in p) c.routine cut2.0 F cut.0 cut2.2 in
      let again : Act Done = next (Again (Repeat body e)) ctx in
      runs_bind p (suc n) c d 0 d 0 d 0 w k pc cut2.0 pc' (acts p.program (costs_in p) call next body ctx w)
      (λ u w1. and_then (value call e ctx w1) (λ y w2. (if is_true (number_of y) then give done else again) w2))
      Nothing Nothing (omega arith) (omega arith) (omega arith) (omega arith)
      (rb d o w k pc cut2.0 alive opened fits.0 cut2.1)
      (λ u w1 k1 alive1 kept1 y1.
      let back = opened_kept p c d 0 d w w1 k k1 o (omega arith) kept1 opened in
      runs_bind p (suc n) c d 0 d 0 d 0 w1 k1 cut2.0 cut.0 pc' (value call e ctx w1)
      (λ y w2. (if is_true (number_of y) then give done else again) w2)
      (λ v w' k'. FrontIn e d NumberSort v w'.made k'.temporaries) Nothing (omega arith) (omega arith) (omega arith)
      (omega arith)
      (front_runs p n call c active calls e d 0 o w1 k1 cut2.0 cut.0 NumberSort alive1 back fits.1 cut2.2)
      (λ y w2 k2 alive2 kept2 f.
      let b = is_true (number_of y) in
      subst (λ a. Runs p (suc n) c d 0 w2 k2 cut.0 pc' a Nothing)
      (sym (if_not p n call next c active nexts does calls b (give done) again w2))
      (test_back p n call next c active nexts does calls d w2 k2 cut.0 pc' pc (length S + length F)
      (opposite (relation_in e)) (left_in e d) (right_in e d)
      (not b) again (related_opposite (relation_in e) (k2.temporaries (left_in e d))
      (operand_value k2.temporaries (right_in e d)) b (f.relates refl)) cut.2 (omega (arith, ls, lf)) alive2
      (nexts c active (Again (Repeat body e)) d o w2 k2 pc pc' alive2
      (opened_kept p c d 0 d w1 w2 k1 k2 o (omega arith) kept2 back) fits st))))
