-- Arithmetic, signs, `not` and comparisons.
use Rattle.std.proofs.Common.{◌≡◌, ℕ, suc, ◌≤◌, ℤ, pos, ◌-ℤ◌, Bool, true, false, not, if◌then◌else◌, IsTrue, [], ◌∷◌}
use Rattle.std.proofs.Common.{◌++◌, Option, Some, None, nat_eq, refl, sym, ap, ◌∙◌, subst, arith, eqb-true}
use Rattle.ps_tree.specs.declared.tree.operators.ArithmeticOperator.{ArithmeticOperator}
use Rattle.ps_tree.specs.declared.tree.operators.ArithmeticOperator.TheVariants.{Subtract}
use Rattle.ps_tree.specs.declared.tree.operators.OrderRelation.{OrderRelation}
use Rattle.ps_tree.specs.Tree.{ArithmeticSteps, no_arithmetic_step, arithmetic_step_before, Expr, Plus, Minus, Not}
use Rattle.ps_tree.specs.Tree.{Arithmetic, Compare}
use Rattle.tac_code.specs.declared.code.Value.TheVariants.{Number as Numeral}
use Rattle.tac_code.specs.declared.code.Operator.TheVariants as operator
use Rattle.tac_code.specs.declared.code.Operand.TheVariants as operand
use Rattle.tac_code.specs.declared.code.Instruction.TheVariants as i
use Rattle.tac_code.specs.Numbers.{is_integer}
use Rattle.tac_code.specs.Meaning.{related, operand_value, gives_computed}
use Rattle.ps_meaning.specs.Values.{Value, OrdinalValue, number_of}
use Rattle.ps_meaning.specs.Operators.{integer, compute, truth, is_true, holds}
use Rattle.ps_meaning.specs.Worlds.{World, Answer, Gives, Ends, and_then, settled}
use Rattle.ps_meaning.specs.Expressions.{Caller, value, computed}
use Rattle.tac_code_steps.specs.Runs.{Stands}
use Rattle.tac_code_steps.proofs.Runs.{split}
use Rattle.tac_code_steps.proofs.Temporaries.{put_same, put_other}
use Rattle.tac_code_steps.proofs.Instructions.{literal_step, copy_step, arithmetic_step}
use Rattle.ps_lower_layout.specs.Paths.{Sort, NumberSort, HasSort}
use Rattle.tac_code.proofs.Impossible.{never, true_false}
use Rattle.ps_lower_code.specs.Scopes.{even_from, kept, moved, operand_of, unless_known}
use Rattle.ps_lower_code.specs.Calling.{expr_calls, steps_call}
use Rattle.ps_lower_code.specs.Values.{negated, literal_of, operator_of, relation_of, relation_in, left_in, right_in}
use Rattle.ps_lower_code.specs.Values.{minus_code, steps_code}
use Rattle.ps_lower_code.specs.Statements.{expr_code}
use Rattle.ps_lower_code.specs.Fits.{StepsFit}
use Rattle.ps_lower_code.proofs.Depths.{even_above, kept_above}
use Rattle.ps_lower_relation.specs.Here.{Setting, machine_of, code_in, Work, Activated, IsActive, Alive, state, word_of}
use Rattle.ps_lower_relation.specs.Here.{WordIn}
use Rattle.ps_lower_relation.specs.Outcomes.{Reached, Runs}
use Rattle.ps_lower_relation.proofs.Numbers.{computes, related_same, truth_is, truth_integer}
use Rattle.ps_lower_constructs.specs.Openings.{plain_scope, Opening, scope_in, context_in, IsOpened}
use Rattle.ps_lower_constructs.proofs.Runs.{with_temporary, reached_from, runs_bind, runs_map, runs_word, here}
use Rattle.ps_lower_constructs.proofs.Runs.{gives_word, keeps_refl, keeps_less}
use Rattle.ps_lower_constructs.proofs.Kept.{opened_kept}
use Rattle.ps_lower_constructs.proofs.Leaves.{integer_well, compute_well, settles}
use Rattle.ps_lower_constructs.proofs.Values.{FrontIn, FrontRuns, OperandIn, expr_runs_from, negated_cases}
use Rattle.ps_lower_constructs.proofs.Values.{operand_runs, plain_front, related_opposite}

module _ (p : Setting) (n : ℕ) (call : Caller) (c : Activated) (active : IsActive p c) where
  -- ---- chains

  -- what is in a goes to d
  pub moved_runs : (a d x : ℕ) (w : World) (k : Work) (pc pc' : ℕ) (sort : Sort) (v : Value) → d ≤ a → Alive p c w k
      → WordIn k.temporaries w.made a sort v → Stands (code_in p) c.routine pc (moved a d) pc' → Reached p c d x w k
      (state p c w k pc) pc' (λ w' k'. WordIn k'.temporaries w'.made d sort v) w
  moved_runs a d x w k pc pc' sort v l alive r st = go (nat_eq a d) refl st
    where
      go : (b : Bool) → nat_eq a d ≡ b → Stands (code_in p) c.routine pc (if b then [] else (i.Copy d a ∷ [])) pc'
          → Reached p c d x w k (state p c w k pc) pc' (λ w' k'. WordIn k'.temporaries w'.made d sort v) w
      go true q st' = here p (suc n) c d x w k pc pc' (λ w' k'. WordIn k'.temporaries w'.made d sort v) st' alive
          (subst (λ y. WordIn k.temporaries w.made y sort v) (eqb-true a d q) r)
      go false q st' = gives_word p (suc n) c d x w k pc pc' d (word_of sort v)
          (λ w' k'. WordIn k'.temporaries w'.made d sort v)
          (copy_step (machine_of p) (state p c w k pc) d a (word_of sort v) st'.0 r.word) st'.1 (omega arith) alive
          (record {
            word = put_same k.temporaries d (word_of sort v);
            fits = r.fits;
          })

  abbrev pub StepsRun : ArithmeticSteps → Type 0
  StepsRun steps =
      (a x : ℕ) (o : Opening) (w : World) (k : Work) (pc pc' : ℕ) (z : ℤ) → Alive p c w k → IsOpened p c w k a o
      → StepsFit (plain_scope p c) o.shapes steps → k.temporaries a ≡ Some (Numeral z) → IsTrue (is_integer z)
      → Stands (code_in p) c.routine pc (steps_code (scope_in p c o) steps a x) pc'
      → Runs p (suc n) c a x w k pc pc' (computed call steps z (context_in c o) w)
      (λ v w' k'. WordIn k'.temporaries w'.made a NumberSort v)

  pub no_steps : StepsRun no_arithmetic_step
  no_steps a x o w k pc pc' z alive opened fits at well st = here p (suc n) c a x w k pc pc'
      (λ w' k'. WordIn k'.temporaries w'.made a NumberSort (OrdinalValue z)) st alive (record {
        word = at;
        fits = well;
      })

  pub step_run : (op : ArithmeticOperator) (e : Expr) (line : ℕ) (rest : ArithmeticSteps)
      → FrontRuns p n call c active e → StepsRun rest
      → StepsRun (arithmetic_step_before op e line rest)
  step_run op e line rest front further a x o w k pc pc' z alive opened fits at well st =
      let t = even_from (suc a) in
      let l : suc a ≤ t = even_above (suc a) in
      let ctx = context_in c o in
      let cut = split (code_in p) c.routine pc (unless_known (literal_of e) (expr_code (scope_in p c o) e t x)) _ pc' st
      in
      runs_bind p (suc n) c a x t x a x w k pc cut.0 pc' (value call e ctx w)
      (λ y w1. and_then (settled (compute op z (number_of y)) line ctx w1)
      (λ u w2. computed call rest (number_of u) ctx w2))
      (λ y w' k'. OperandIn p n call c active (literal_of e) t y w' k')
      (λ v w' k'. WordIn k'.temporaries w'.made a NumberSort v) (omega (arith, l)) (omega arith) (omega arith)
      (omega arith)
      (operand_runs p n call c active e front t x o w k pc cut.0 alive
      (opened_kept p c a x t w w k k o (omega (arith, l)) (keeps_refl a x w k) opened) fits.0 cut.1)
      (λ y w1 k1 alive1 kept1 r1.
      let same = kept1.temporaries a (omega (arith, l)) ∙ at in
      runs_bind p (suc n) c a x a x a x w1 k1 cut.0 (suc cut.0) pc' (settled (compute op z (number_of y)) line ctx w1)
      (λ u w2. computed call rest (number_of u) ctx w2) (λ u w' k'. WordIn k'.temporaries w'.made a NumberSort u)
      (λ v w' k'. WordIn k'.temporaries w'.made a NumberSort v) (omega arith) (omega arith) (omega arith)
      (omega arith)
      (settles p (suc n) c active a x o w1 k1 cut.0 (suc cut.0) a line (compute op z (number_of y))
      (compute_well op z (number_of y) r1.1)
      (arithmetic_step (machine_of p) (state p c w1 k1 cut.0) (operator_of op) a a
      (operand_of (literal_of e) t) 1 line z (number_of y) cut.2.0 same r1.0
      ∙ ap (λ g. gives_computed (code_in p) a g line (state p c w1 k1 cut.0)) (computes op z (number_of y))) refl
      (omega arith) alive1)
      (λ u w2 k2 alive2 kept2 r2.
      let back = opened_kept p c a x a w w1 k k1 o (omega arith)
      (keeps_less a x t x (omega (arith, l)) (omega arith) kept1) opened in
      further a x o w2 k2 (suc cut.0) pc' (number_of u) alive2
      (opened_kept p c a x a w1 w2 k1 k2 o (omega arith) kept2 back) fits.1 r2.word r2.fits cut.2.1))

  pub arithmetic_front : (e : Expr) (steps : ArithmeticSteps) → FrontRuns p n call c active e → StepsRun steps
      → FrontRuns p n call c active
      (Arithmetic e steps)
  arithmetic_front e steps front further d x o w k pc pc' sort alive opened fits st =
      let a = kept (steps_call steps) d in
      let l : d ≤ a = kept_above (steps_call steps) d in
      let ctx = context_in c o in
      let code = scope_in p c o in
      let end = split (code_in p) c.routine pc (expr_code code e a x ++ steps_code code steps a x) (moved a d) pc' st in
      let cut = split (code_in p) c.routine pc (expr_code code e a x) (steps_code code steps a x) end.0 end.1 in
      runs_bind p (suc n) c d x a x d x w k pc cut.0 pc' (value call e ctx w)
      (λ y w1. computed call steps (number_of y) ctx w1) (λ y w' k'. WordIn k'.temporaries w'.made a NumberSort y)
      (λ v w' k'. FrontIn (Arithmetic e steps) d sort v w'.made k'.temporaries) l (omega arith) (omega arith)
      (omega arith)
      (expr_runs_from p n call c active e front a x o w k pc cut.0 NumberSort alive
      (opened_kept p c d x a w w k k o l (keeps_refl d x w k) opened) fits.1 cut.1)
      (λ y w1 k1 alive1 kept1 r1.
      then_moved (computed call steps (number_of y) ctx w1) a d x w1 k1 cut.0 end.0 pc' l
      (further a x o w1 k1 cut.0 end.0 (number_of y) alive1
      (opened_kept p c d x a w w1 k k1 o l (keeps_less d x a x l (omega arith) kept1) opened) fits.2 r1.word r1.fits
      cut.2) end.2
      (λ v w' k' r. plain_front (Arithmetic e steps) d sort v w'.made k'.temporaries refl refl refl refl
      (r.word ∙ ap (λ s. Some (word_of s v)) (sym fits.0)) (subst (HasSort w'.made v) (sym fits.0) r.fits)
      (λ q. never q) (λ q. never q)))
    where
      then_moved : (an : Answer Value) (a d x : ℕ) (w : World) (k : Work) (pc mid pc' : ℕ) → d ≤ a → Runs p
          (suc n) c a x w k pc mid an (λ v w' k'. WordIn k'.temporaries w'.made a NumberSort v) → Stands
          (code_in p) c.routine mid (moved a d) pc'
          → ((v : Value) (w' : World) (k' : Work) → WordIn k'.temporaries w'.made d NumberSort v → FrontIn
          (Arithmetic e steps) d sort v w'.made k'.temporaries) → Runs p (suc n) c d x w k pc pc' an
          (λ v w' k'. FrontIn (Arithmetic e steps) d sort v w'.made k'.temporaries)
      then_moved (Gives v w1) a d x w k pc mid pc' l r st g =
          reached_from p (suc n) c d x d x w w1 k r.work (state p c w k pc) (state p c w1 r.work mid) pc'
          (λ w' k'. WordIn k'.temporaries w'.made d NumberSort v)
          (λ w' k'. FrontIn (Arithmetic e steps) d sort v w'.made k'.temporaries) w1 (omega arith)
          (omega arith) r.comes (keeps_less d x a x l (omega arith) r.keeps)
          (moved_runs a d x w1 r.work mid pc' NumberSort v l r.alive r.result st) (λ k' a' y. g v w1 k' y)
      then_moved (Ends out en) a d x w k pc mid pc' l r st g = r

  pub plus_front : (e : Expr) → FrontRuns p n call c active e → FrontRuns p n call c active (Plus e)
  plus_front e front d x o w k pc pc' sort alive opened fits st =
      runs_map p (suc n) c d x d x w k pc pc' (value call e (context_in c o) w)
      (λ v w' k'. WordIn k'.temporaries w'.made d NumberSort v)
      (λ v w' k'. FrontIn (Plus e) d sort v w'.made k'.temporaries) (omega arith) (omega arith)
      (expr_runs_from p n call c active e front d x o w k pc pc' NumberSort alive opened fits.1 st)
      (λ v w' k' a' r. plain_front (Plus e) d sort v w'.made k'.temporaries refl refl refl refl
      (r.word ∙ ap (λ s. Some (word_of s v)) (sym fits.0)) (subst (HasSort w'.made v) (sym fits.0) r.fits)
      (λ q. never q) (λ q. never q))

  pub minus_front : (e : Expr) (line : ℕ) → FrontRuns p n call c active e → FrontRuns p n call c active (Minus e line)
  minus_front e line front d x o w k pc pc' sort alive opened fits st = go (negated e) refl st (λ h. whole h)
    where
      t : ℕ
      t = even_from (suc d)

      above : suc d ≤ t
      above = even_above (suc d)

      R : Value → World → Work → Type 0
      R v w' k' = FrontIn (Minus e line) d sort v w'.made k'.temporaries

      told : (v : Value) (w' : World) (k' : Work) → k'.temporaries d ≡ Some (Numeral (number_of v)) → IsTrue
          (is_integer (number_of v)) → R v w' k'
      told v w' k' at well = plain_front (Minus e line) d sort v w'.made k'.temporaries refl refl refl refl
          (at ∙ ap (λ s. Some (word_of s v)) (sym fits.0)) (subst (HasSort w'.made v) (sym fits.0) well)
          (λ q. never q) (λ q. never q)

      whole : Stands (code_in p) c.routine pc (expr_code (scope_in p c o) e t x ++ i.Literal d (pos 0)
          ∷ i.Arithmetic operator.Subtract d d (operand.Temporary t) 1 line ∷ []) pc' → Runs p (suc n) c d x w k pc pc'
          (value call (Minus e line) (context_in c o) w) R
      whole h =
          let cut = split (code_in p) c.routine pc (expr_code (scope_in p c o) e t x)
          (i.Literal d (pos 0) ∷ i.Arithmetic operator.Subtract d d (operand.Temporary t) 1 line ∷ []) pc' h in
          runs_bind p (suc n) c d x t x d x w k pc cut.0 pc' (value call e (context_in c o) w)
          (λ y w1. settled (integer (pos 0 -ℤ number_of y)) line (context_in c o) w1)
          (λ y w' k'. WordIn k'.temporaries w'.made t NumberSort y) R (omega (arith, above)) (omega arith)
          (omega arith) (omega arith)
          (expr_runs_from p n call c active e front t x o w k pc cut.0 NumberSort alive
          (opened_kept p c d x t w w k k o (omega (arith, above)) (keeps_refl d x w k) opened) fits.1 cut.1)
          (λ y w1 k1 alive1 kept1 r1.
          let k2 = with_temporary k1 d (Numeral (pos 0)) in
          let ne : t ≡ d → ⊥ = λ q. omega (arith, above, q) in
          runs_word p (suc n) c d x w1 k1 cut.0 (suc cut.0) pc' d (Numeral (pos 0))
          (settled (integer (pos 0 -ℤ number_of y)) line (context_in c o) w1) R
          (literal_step (machine_of p) (state p c w1 k1 cut.0) d (pos 0) cut.2.0) refl (omega arith) alive1
          (λ alive2. runs_map p (suc n) c d x d x w1 k2 (suc cut.0) pc'
          (settled (integer (pos 0 -ℤ number_of y)) line (context_in c o) w1)
          (λ v w' k'. WordIn k'.temporaries w'.made d NumberSort v) R (omega arith) (omega arith)
          (settles p (suc n) c active d x o w1 k2 (suc cut.0) pc' d line (integer (pos 0 -ℤ number_of y))
          (integer_well (pos 0 -ℤ number_of y))
          (arithmetic_step (machine_of p) (state p c w1 k2 (suc cut.0)) operator.Subtract d d
          (operand.Temporary t) 1 line (pos 0) (number_of y) cut.2.1.0 (put_same k1.temporaries d (Numeral (pos 0)))
          (put_other k1.temporaries d (Numeral (pos 0)) t ne ∙ r1.word)
          ∙ ap (λ g. gives_computed (code_in p) d g line (state p c w1 k2 (suc cut.0)))
          (computes Subtract (pos 0) (number_of y))) cut.2.1.1 (omega arith) alive2)
          (λ v w' k' a' r. told v w' k' r.word r.fits)))

      go : (literal : Option ℤ) → negated e ≡ literal → Stands (code_in p) c.routine pc
          (minus_code literal d t line (expr_code (scope_in p c o) e t x)) pc'
          → (Stands (code_in p) c.routine pc (expr_code (scope_in p c o) e t x ++ i.Literal d (pos 0)
          ∷ i.Arithmetic operator.Subtract d d (operand.Temporary t) 1 line ∷ []) pc' → Runs p (suc n) c d x w k pc pc'
          (value call (Minus e line) (context_in c o) w) R) → Runs p (suc n) c d x w k pc pc'
          (value call (Minus e line) (context_in c o) w) R
      go None q h r = r h
      go (Some z) q h r =
          let known_ = negated_cases p n call c active e z line o w q in
          subst (λ a. Runs p (suc n) c d x w k pc pc' a R) (sym known_.gives_it)
          (gives_word p (suc n) c d x w k pc pc' d (Numeral z) (λ w' k'. R known_.v w' k')
          (literal_step (machine_of p) (state p c w k pc) d z h.0) h.1 (omega arith) alive
          (told known_.v w (with_temporary k d (Numeral z))
          (put_same k.temporaries d (Numeral z) ∙ ap (λ y. Some (Numeral y)) (sym known_.is)) known_.fits))

  pub not_front : (e : Expr) → FrontRuns p n call c active e → FrontRuns p n call c active (Not e)
  not_front e front d x o w k pc pc' sort alive opened fits st =
      runs_bind p (suc n) c d x d x d x w k pc pc' pc' (value call e (context_in c o) w)
      (λ y w1. Gives (OrdinalValue (truth (not (is_true (number_of y))))) w1)
      (λ y w' k'. FrontIn e d NumberSort y w'.made k'.temporaries)
      (λ v w' k'. FrontIn (Not e) d sort v w'.made k'.temporaries) (omega arith) (omega arith) (omega arith)
      (omega arith)
      (front d x o w k pc pc' NumberSort alive opened fits.1 st)
      (λ y w1 k1 alive1 kept1 f.
      let b = is_true (number_of y) in
      here p (suc n) c d x w1 k1 pc' pc' (λ w' k'. FrontIn (Not e) d sort
      (OrdinalValue (truth (not b))) w'.made k'.temporaries) refl alive1
      (record {
        fits = subst (HasSort w1.made (OrdinalValue (truth (not b)))) (sym fits.0) (truth_integer (not b));
        relates = λ q. related_opposite (relation_in e) (k1.temporaries (left_in e d))
            (operand_value k1.temporaries (right_in e d)) b (f.relates refl) ∙ ap Some (sym (truth_is (not b)));
        word = λ q. true_false q;
        number = λ q. fits.0;
        binary = λ q. (not b, refl);
        binary_relation = λ q. (not b, refl);
        byte = λ q. never q;
      }))

  pub compare_front : (r : OrderRelation) (a b : Expr) → FrontRuns p n call c active a → FrontRuns p n call c active b
      → FrontRuns p n call c active (Compare r a b)
  compare_front r a b fa fb d x o w k pc pc' sort alive opened fits st =
      let la = kept (expr_calls b) d in
      let l : d ≤ la = kept_above (expr_calls b) d in
      let t = even_from (suc la) in
      let h : suc la ≤ t = even_above (suc la) in
      let ctx = context_in c o in
      let code = scope_in p c o in
      let cut = split (code_in p) c.routine pc (expr_code code a la x)
      (unless_known (literal_of b) (expr_code code b t x)) pc' st in
      runs_bind p (suc n) c d x la x d x w k pc cut.0 pc' (value call a ctx w)
      (λ y w1. and_then (value call b ctx w1)
      (λ z w2. Gives (OrdinalValue (truth (holds r (number_of y) (number_of z)))) w2))
      (λ y w' k'. WordIn k'.temporaries w'.made la NumberSort y)
      (λ v w' k'. FrontIn (Compare r a b) d sort v w'.made k'.temporaries) l (omega arith) (omega arith)
      (omega arith)
      (expr_runs_from p n call c active a fa la x o w k pc cut.0 NumberSort alive
      (opened_kept p c d x la w w k k o l (keeps_refl d x w k) opened) fits.1 cut.1)
      (λ y w1 k1 alive1 kept1 r1.
      runs_bind p (suc n) c d x t x d x w1 k1 cut.0 pc' pc' (value call b ctx w1)
      (λ z w2. Gives (OrdinalValue (truth (holds r (number_of y) (number_of z)))) w2)
      (λ z w' k'. OperandIn p n call c active (literal_of b) t z w' k')
      (λ v w' k'. FrontIn (Compare r a b) d sort v w'.made k'.temporaries) (omega (arith, l, h)) (omega arith)
      (omega arith) (omega arith)
      (operand_runs p n call c active b fb t x o w1 k1 cut.0 pc' alive1
      (opened_kept p c d x t w w1 k k1 o (omega (arith, l, h)) (keeps_less d x la x l (omega arith) kept1) opened)
      fits.2 cut.2)
      (λ z w2 k2 alive2 kept2 r2.
      let q = holds r (number_of y) (number_of z) in
      here p (suc n) c d x w2 k2 pc' pc' (λ w' k'. FrontIn (Compare r a b) d sort
      (OrdinalValue (truth q)) w'.made k'.temporaries) refl alive2
      (record {
        fits = subst (HasSort w2.made (OrdinalValue (truth q))) (sym fits.0) (truth_integer q);
        relates = λ s. ap (λ u. related (relation_of r) u (operand_value k2.temporaries (operand_of (literal_of b) t)))
            (kept2.temporaries la (omega (arith, h)) ∙ r1.word)
            ∙ ap (related (relation_of r) (Some (Numeral (number_of y)))) r2.0 ∙ ap Some
            (related_same r (number_of y) (number_of z)) ∙ ap Some (sym (truth_is q));
        word = λ s. true_false s;
        number = λ s. fits.0;
        binary = λ s. (q, refl);
        binary_relation = λ s. (q, refl);
        byte = λ s. never s;
      })))
