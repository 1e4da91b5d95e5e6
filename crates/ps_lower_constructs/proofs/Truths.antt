-- Boolean operators between operands.
use Rattle.std.proofs.Common.{◌≡◌, ℕ, suc, ◌≤◌, Bool, ◌++◌, Some, refl, sym, ap, ◌∙◌, subst, arith}
use Rattle.ps_tree.specs.declared.tree.operators.BooleanOperator.{BooleanOperator}
use Rattle.ps_tree.specs.Tree.{Operands, no_operand, operand_before, Expr, Logic}
use Rattle.tac_code.specs.declared.code.Value.TheVariants.{Number as Numeral}
use Rattle.tac_code.specs.declared.code.Operand.TheVariants as operand
use Rattle.tac_code.specs.Numbers.{bits}
use Rattle.ps_meaning.specs.Values.{Value, OrdinalValue, number_of}
use Rattle.ps_meaning.specs.Operators.{truth, is_true, combine_truths}
use Rattle.ps_meaning.specs.Worlds.{World, Answer, Gives, Ends}
use Rattle.ps_meaning.specs.Expressions.{Caller, value, combined}
use Rattle.tac_code_steps.specs.Runs.{Stands}
use Rattle.tac_code_steps.proofs.Runs.{split}
use Rattle.tac_code_steps.proofs.Temporaries.{put_same}
use Rattle.tac_code_steps.proofs.Instructions.{bits_step}
use Rattle.ps_lower_layout.specs.Paths.{NumberSort, HasSort}
use Rattle.tac_code.proofs.Impossible.{never}
use Rattle.ps_lower_code.specs.Scopes.{even_from, kept, moved}
use Rattle.ps_lower_code.specs.Calling.{operands_call}
use Rattle.ps_lower_code.specs.Values.{bit_operator_of, truth_finish, front_code, operands_code}
use Rattle.ps_lower_code.specs.Fits.{ExprFits, OperandsFit}
use Rattle.ps_lower_code.proofs.Depths.{even_above, kept_above}
use Rattle.ps_lower_relation.specs.Here.{Setting, machine_of, code_in, Work, Activated, IsActive, Alive, state, word_of}
use Rattle.ps_lower_relation.specs.Here.{WordIn}
use Rattle.ps_lower_relation.specs.Outcomes.{Runs}
use Rattle.ps_lower_relation.proofs.Numbers.{truth_integer}
use Rattle.ps_lower_constructs.specs.Openings.{plain_scope, Opening, scope_in, context_in, IsOpened}
use Rattle.ps_lower_constructs.proofs.Runs.{with_temporary, reached_from, runs_bind, runs_word, here, keeps_refl}
use Rattle.ps_lower_constructs.proofs.Runs.{keeps_less, keeps_put}
use Rattle.ps_lower_constructs.proofs.Kept.{opened_kept}
use Rattle.ps_lower_constructs.proofs.Chains.{moved_runs}
use Rattle.ps_lower_constructs.proofs.Values.{FrontIn, FrontRuns, bits_of_truths, plain_front, truth_runs}

module _ (p : Setting) (n : ℕ) (call : Caller) (c : Activated) (active : IsActive p c) where
  -- ---- truths

  abbrev pub TruthIn : (t : ℕ) → Bool → Work → Type 0
  TruthIn t b k = k.temporaries t ≡ Some (Numeral (truth b))

  -- the truth of an expression in t
  truth_expr : (e : Expr) → FrontRuns p n call c active e → (t x : ℕ) (o : Opening) (w : World) (k : Work) (pc pc' : ℕ)
      → Alive p c w k
      → IsOpened p c w k t o → ExprFits (plain_scope p c) o.shapes e NumberSort → Stands (code_in p) c.routine pc
      (front_code (scope_in p c o) e t x ++ truth_finish e t) pc' → Runs p (suc n) c t x w k pc pc'
      (value call e (context_in c o) w) (λ v w' k'. TruthIn t (is_true (number_of v)) k')
  truth_expr e front t x o w k pc pc' alive opened fits st =
      let cut = split (code_in p) c.routine pc (front_code (scope_in p c o) e t x) (truth_finish e t) pc' st in
      then_truth (value call e (context_in c o) w) cut.0
      (front t x o w k pc cut.0 NumberSort alive opened fits cut.1) cut.2
    where
      then_truth : (a : Answer Value) (mid : ℕ) → Runs p (suc n) c t x w k pc mid a
          (λ v w' k'. FrontIn e t NumberSort v w'.made k'.temporaries) → Stands (code_in p) c.routine mid
          (truth_finish e t) pc' → Runs p (suc n) c t x w k pc pc' a (λ v w' k'. TruthIn t (is_true (number_of v)) k')
      then_truth (Gives v w1) mid r h = reached_from p (suc n) c t x t x w w1 k r.work (state p c w k pc)
          (state p c w1 r.work mid) pc' (λ w' k'. TruthIn t (is_true (number_of v)) k')
          (λ w' k'. TruthIn t (is_true (number_of v)) k') w1 (omega arith) (omega arith) r.comes r.keeps
          (truth_runs p n call c active e t x w1 r.work mid pc' v r.alive r.result h) (λ k' a' y. y)
      then_truth (Ends out en) mid r h = r

  abbrev pub OperandsRun : BooleanOperator → Operands → Type 0
  OperandsRun op rest =
      (a x : ℕ) (o : Opening) (w : World) (k : Work) (pc pc' : ℕ) (b : Bool) → Alive p c w k → IsOpened p c w k a o
      → OperandsFit (plain_scope p c) o.shapes rest → TruthIn a b k → Stands (code_in p) c.routine pc
      (operands_code (scope_in p c o) op rest a x) pc'
      → Runs p (suc n) c a x w k pc pc' (combined call op rest b (context_in c o) w)
      (λ v w' k'. WordIn k'.temporaries w'.made a NumberSort v × ((q : Bool) × (number_of v ≡ truth q)))

  pub no_operands : (op : BooleanOperator) → OperandsRun op no_operand
  no_operands op a x o w k pc pc' b alive opened fits at st = here p (suc n) c a x w k pc pc'
      (λ w' k'. WordIn k'.temporaries w'.made a NumberSort (OrdinalValue (truth b))
      × ((q : Bool) × (truth b ≡ truth q))) st alive (
        record {
          word = at;
          fits = truth_integer b;
        },
        (b, refl),
      )

  pub operands_run : (op : BooleanOperator) (e : Expr) (rest : Operands) → FrontRuns p n call c active e
      → OperandsRun op rest
      → OperandsRun op (operand_before e rest)
  operands_run op e rest front further a x o w k pc pc' b alive opened fits at st =
      let t = even_from (suc a) in
      let l : suc a ≤ t = even_above (suc a) in
      let ctx = context_in c o in
      let cut = split (code_in p) c.routine pc (front_code (scope_in p c o) e t x ++ truth_finish e t) _ pc' st in
      runs_bind p (suc n) c a x t x a x w k pc cut.0 pc' (value call e ctx w)
      (λ y w1. combined call op rest (combine_truths op b (is_true (number_of y))) ctx w1)
      (λ y w' k'. TruthIn t (is_true (number_of y)) k')
      (λ v w' k'. WordIn k'.temporaries w'.made a NumberSort v × ((q : Bool) × (number_of v ≡ truth q)))
      (omega (arith, l)) (omega arith) (omega arith) (omega arith)
      (truth_expr e front t x o w k pc cut.0 alive
      (opened_kept p c a x t w w k k o (omega (arith, l)) (keeps_refl a x w k) opened) fits.0 cut.1)
      (λ y w1 k1 alive1 kept1 r1.
      let q = is_true (number_of y) in
      let same = kept1.temporaries a (omega (arith, l)) ∙ at in
      let z = bits (bit_operator_of op) (truth b) (truth q) in
      let back = opened_kept p c a x a w w1 k k1 o (omega arith)
      (keeps_less a x t x (omega (arith, l)) (omega arith) kept1) opened in
      runs_word p (suc n) c a x w1 k1 cut.0 (suc cut.0) pc' a (Numeral z)
      (combined call op rest (combine_truths op b q) ctx w1)
      (λ v w' k'. WordIn k'.temporaries w'.made a NumberSort v × ((q : Bool) × (number_of v ≡ truth q)))
      (bits_step (machine_of p) (state p c w1 k1 cut.0) (bit_operator_of op) a a (operand.Temporary t) (truth b)
      (truth q) cut.2.0 same r1) refl (omega arith) alive1
      (λ alive2. further a x o w1 (with_temporary k1 a (Numeral z)) (suc cut.0) pc' (combine_truths op b q) alive2
      (opened_kept p c a x a w1 w1 k1 (with_temporary k1 a (Numeral z)) o (omega arith)
      (keeps_put a x w1 k1 a (Numeral z) (omega arith)) back) fits.1
      (put_same k1.temporaries a (Numeral z) ∙ ap (λ y. Some (Numeral y)) (bits_of_truths op b q)) cut.2.1))

  pub logic_front : (op : BooleanOperator) (e : Expr) (rest : Operands) → FrontRuns p n call c active e
      → OperandsRun op rest → FrontRuns p n call c active
      (Logic op e rest)
  logic_front op e rest front further d x o w k pc pc' sort alive opened fits st =
      let a = kept (operands_call rest) d in
      let l : d ≤ a = kept_above (operands_call rest) d in
      let ctx = context_in c o in
      let code = scope_in p c o in
      let end = split (code_in p) c.routine pc
      ((front_code code e a x ++ truth_finish e a) ++ operands_code code op rest a x) (moved a d) pc' st in
      let cut = split (code_in p) c.routine pc (front_code code e a x ++ truth_finish e a)
      (operands_code code op rest a x) end.0 end.1 in
      runs_bind p (suc n) c d x a x d x w k pc cut.0 pc' (value call e ctx w)
      (λ y w1. combined call op rest (is_true (number_of y)) ctx w1)
      (λ y w' k'. TruthIn a (is_true (number_of y)) k')
      (λ v w' k'. FrontIn (Logic op e rest) d sort v w'.made k'.temporaries) l (omega arith) (omega arith)
      (omega arith)
      (truth_expr e front a x o w k pc cut.0 alive
      (opened_kept p c d x a w w k k o l (keeps_refl d x w k) opened) fits.1 cut.1)
      (λ y w1 k1 alive1 kept1 r1.
      then_moved (combined call op rest (is_true (number_of y)) ctx w1) a w1 k1 cut.0 end.0 l
      (further a x o w1 k1 cut.0 end.0 (is_true (number_of y)) alive1
      (opened_kept p c d x a w w1 k k1 o l (keeps_less d x a x l (omega arith) kept1) opened) fits.2 r1 cut.2)
      end.2)
    where
      then_moved : (an : Answer Value) (a : ℕ) (w : World) (k : Work) (pc mid : ℕ) → d ≤ a → Runs p
          (suc n) c a x w k pc mid an (λ v w' k'. WordIn k'.temporaries w'.made a NumberSort v
          × ((q : Bool) × (number_of v ≡ truth q))) → Stands (code_in p) c.routine mid (moved a d) pc' → Runs p
          (suc n) c d x w k pc pc' an (λ v w' k'. FrontIn (Logic op e rest) d sort v w'.made k'.temporaries)
      then_moved (Gives v w1) a w k pc mid l r st =
          reached_from p (suc n) c d x d x w w1 k r.work (state p c w k pc) (state p c w1 r.work mid) pc'
          (λ w' k'. WordIn k'.temporaries w'.made d NumberSort v)
          (λ w' k'. FrontIn (Logic op e rest) d sort v w'.made k'.temporaries) w1 (omega arith)
          (omega arith) r.comes (keeps_less d x a x l (omega arith) r.keeps)
          (moved_runs p n call c active a d x w1 r.work mid pc' NumberSort v l r.alive r.result.0 st)
          (λ k' a' y. plain_front (Logic op e rest) d sort v w1.made k'.temporaries refl refl refl refl
          (y.word ∙ ap (λ s. Some (word_of s v)) (sym fits.0)) (subst (HasSort w1.made v) (sym fits.0) y.fits)
          (λ q. r.result.1) (λ q. never q))
      then_moved (Ends out en) a w k pc mid l r st = r
