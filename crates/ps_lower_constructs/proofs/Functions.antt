-- The required functions on ordinals.
use Rattle.std.proofs.Common.{◌≡◌, ℕ, suc, ◌+◌, ◌%◌, ◌≤◌, ℤ, pos, ◌+ℤ◌, ◌-ℤ◌, ◌*ℤ◌, unsigned_abs, int_lt, Bool, true}
use Rattle.std.proofs.Common.{false, not, ◌==◌, if◌then◌else◌, IsTrue, Some, None, refl, sym, ap, ◌∙◌, subst, arith}
use Rattle.ps_tree.specs.declared.tree.operators.ArithmeticOperator.TheVariants.{Subtract, Multiply}
use Rattle.ps_tree.specs.declared.tree.operators.RequiredFunction.{RequiredFunction}
use Rattle.ps_tree.specs.declared.tree.operators.RequiredFunction.TheVariants.{Abs, Sqr, Odd, Ord, Chr, Succ, Pred}
use Rattle.ps_tree.specs.Tree.{Expr, Apply}
use Rattle.tac_code.specs.declared.code.Value.TheVariants.{Number as Numeral}
use Rattle.tac_code.specs.declared.code.Operator.TheVariants as operator
use Rattle.tac_code.specs.declared.code.BitOperator.TheVariants.{And}
use Rattle.tac_code.specs.declared.code.Operand.TheVariants as operand
use Rattle.tac_code.specs.declared.code.Relation.TheVariants.{GreaterEqual}
use Rattle.tac_code.specs.Numbers.{is_integer, Gives as Computes, Fails}
use Rattle.tac_code.specs.Meaning.{related, gives_computed, gives}
use Rattle.ps_meaning.specs.Values.{Value, OrdinalValue, number_of}
use Rattle.ps_meaning.specs.Operators.{Computed, Result, Fault, integer, apply, is_between, truth}
use Rattle.ps_meaning.specs.Worlds.{World, give, fault, settled}
use Rattle.ps_meaning.specs.Expressions.{Caller, value}
use Rattle.tac_code_steps.specs.Runs.{step_of, Stands, Comes}
use Rattle.tac_code_steps.proofs.Runs.{split, a_step}
use Rattle.tac_code_steps.proofs.Temporaries.{put_same, put_other}
use Rattle.tac_code_steps.proofs.Instructions.{literal_step, arithmetic_step, bits_step, branch_step}
use Rattle.ps_lower_layout.specs.Paths.{NumberSort, HasSort}
use Rattle.tac_code.proofs.Impossible.{never}
use Rattle.ps_lower_code.specs.Scopes.{even_from, least, greatest, range_code}
use Rattle.ps_lower_code.specs.Values.{is_truth, gives_byte, function_code}
use Rattle.ps_lower_code.specs.Statements.{expr_code}
use Rattle.ps_lower_code.specs.Fits.{FunctionFits}
use Rattle.ps_lower_code.proofs.Depths.{even_above}
use Rattle.ps_lower_relation.specs.Here.{Setting, machine_of, code_in, Work, Activated, IsActive, Alive, state}
use Rattle.ps_lower_relation.specs.Here.{word_of, WordIn}
use Rattle.ps_lower_relation.specs.Outcomes.{Runs}
use Rattle.ps_lower_relation.proofs.Numbers.{computes, truth_integer}
use Rattle.ps_lower_relation.proofs.Functions.{abs_up, abs_down, odd_same, succ_between, pred_between, succ_beyond}
use Rattle.ps_lower_relation.proofs.Functions.{pred_beyond}
use Rattle.ps_lower_constructs.specs.Openings.{Opening, scope_in, context_in}
use Rattle.ps_lower_constructs.proofs.Runs.{with_temporary, runs_bind, runs_map, runs_word, runs_from, here}
use Rattle.ps_lower_constructs.proofs.Runs.{gives_word, keeps_refl}
use Rattle.ps_lower_constructs.proofs.Checks.{check_runs}
use Rattle.ps_lower_constructs.proofs.Leaves.{integer_well, settles, fails_so}
use Rattle.ps_lower_constructs.proofs.Values.{FrontIn, IsByteOf, FrontRuns, plain_front, expr_runs_from}

module _ (p : Setting) (n : ℕ) (call : Caller) (c : Activated) (active : IsActive p c) where
  -- what is left: a number, for `odd` a truth, and for `chr` a byte
  abbrev FunctionIn : RequiredFunction → Expr → (line d : ℕ) → Value → World → Work → Type 0
  FunctionIn function e line d v w k = WordIn k.temporaries w.made d NumberSort v
      × (is_truth (Apply function e line) ≡ true → (b : Bool) × (number_of v ≡ truth b)) × IsByteOf
      (Apply function e line) v

  abbrev FunctionRuns : RequiredFunction → Type 0
  FunctionRuns function =
      (e : Expr) (d x : ℕ) (o : Opening) (w : World) (k : Work) (pc pc' line : ℕ) (y : Value) → Alive p c w k
      → FunctionFits function → WordIn k.temporaries w.made d NumberSort y → Stands (code_in p) c.routine pc
      (function_code function d line) pc'
      → Runs p (suc n) c d x w k pc pc' (settled (apply function (number_of y)) line (context_in c o) w)
      (λ v w' k'. FunctionIn function e line d v w' k')

  -- a number that is neither
  plainly : (function : RequiredFunction) (e : Expr) (d x : ℕ) (o : Opening) (w : World) (k : Work) (pc pc' line : ℕ)
      (r : Computed) → is_truth (Apply function e line) ≡ false → gives_byte (Apply function e line) ≡ false → Runs p
      (suc n) c d x w k pc pc' (settled r line (context_in c o) w)
      (λ v w' k'. WordIn k'.temporaries w'.made d NumberSort v) → Runs p (suc n) c d x w k pc pc'
      (settled r line (context_in c o) w) (λ v w' k'. FunctionIn function e line d v w' k')
  plainly function e d x o w k pc pc' line r plain other run =
      runs_map p (suc n) c d x d x w k pc pc' (settled r line (context_in c o) w)
      (λ v w' k'. WordIn k'.temporaries w'.made d NumberSort v) (λ v w' k'. FunctionIn function e line d v w' k')
      (omega arith) (omega arith) run (λ v w' k' a' q.
      (q, λ t. never (sym plain ∙ t), λ t. never (sym other ∙ t)))

  abs_runs : FunctionRuns Abs
  abs_runs e d x o w k pc pc' line y alive fits r st = plainly Abs e d x o w k pc pc' line
      (integer (pos (unsigned_abs z))) refl refl (go (int_lt z (pos 0)) refl)
    where
      z : ℤ
      z = number_of y

      t : ℕ
      t = even_from (suc d)

      above : suc d ≤ t
      above = even_above (suc d)

      R : Value → World → Work → Type 0
      R v w' k' = WordIn k'.temporaries w'.made d NumberSort v

      tests : (b : Bool) → int_lt z (pos 0) ≡ b → related GreaterEqual (k.temporaries d) (Some (Numeral (pos 0))) ≡ Some
          (not b)
      tests b e = ap (λ q. related GreaterEqual q (Some (Numeral (pos 0)))) r.word ∙ ap (λ q. Some (not q)) e

      go : (b : Bool) → int_lt z (pos 0) ≡ b → Runs p (suc n) c d x w k pc pc'
          (settled (integer (pos (unsigned_abs z))) line (context_in c o) w) R
      go true e =
          let k1 = with_temporary k t (Numeral (pos 0)) in
          let ne : d ≡ t → ⊥ = λ q. omega (arith, above, q) in
          let same = ap integer (abs_down z e) in
          runs_from p (suc n) c d x w w k k pc (suc pc) pc'
          (settled (integer (pos (unsigned_abs z))) line (context_in c o) w) R
          (a_step (state p c w k pc) (state p c w k (suc pc))
          (branch_step (machine_of p) (state p c w k pc) GreaterEqual d (operand.Number (pos 0)) 2 false st.0
          (tests true e))) (keeps_refl d x w k)
          (runs_word p (suc n) c d x w k (suc pc) (suc (suc pc)) pc' t (Numeral (pos 0))
          (settled (integer (pos (unsigned_abs z))) line (context_in c o) w) R
          (literal_step (machine_of p) (state p c w k (suc pc)) t (pos 0) st.1.0) refl (omega (arith, above)) alive
          (λ alive1. subst (λ q. Runs p (suc n) c d x w k1 (suc (suc pc)) pc' (settled q line (context_in c o) w) R)
          same
          (settles p (suc n) c active d x o w k1 (suc (suc pc)) pc' d line (integer (pos 0 -ℤ z))
          (integer_well (pos 0 -ℤ z))
          (arithmetic_step (machine_of p) (state p c w k1 (suc (suc pc))) operator.Subtract d t
          (operand.Temporary d) 1 line (pos 0) z st.1.1.0 (put_same k.temporaries t (Numeral (pos 0)))
          (put_other k.temporaries t (Numeral (pos 0)) d ne ∙ r.word)
          ∙ ap (λ g. gives_computed (code_in p) d g line (state p c w k1 (suc (suc pc))))
          (computes Subtract (pos 0) z)) st.1.1.1 (omega arith) alive1)))
      go false e =
          let far : suc pc + 2 ≡ suc (suc (suc pc)) = omega arith in
          subst (λ q. Runs p (suc n) c d x w k pc pc' (settled q line (context_in c o) w) R) (sym (abs_up z e r.fits))
          (record {
            work = k;
            alive = alive;
            keeps = keeps_refl d x w k;
            comes = subst (λ q. Comes (machine_of p) (state p c w k pc) (state p c w k q)) (far ∙ st.1.1.1)
                (a_step (state p c w k pc) (state p c w k (suc pc + 2))
                (branch_step (machine_of p) (state p c w k pc) GreaterEqual d (operand.Number (pos 0)) 2 true st.0
                (tests false e)));
            result = record { word = r.word; fits = r.fits };
          })

  sqr_runs : FunctionRuns Sqr
  sqr_runs e d x o w k pc pc' line y alive fits r st =
      let z = number_of y in
      plainly Sqr e d x o w k pc pc' line (integer (z *ℤ z)) refl refl
      (settles p (suc n) c active d x o w k pc pc' d line (integer (z *ℤ z)) (integer_well (z *ℤ z))
      (arithmetic_step (machine_of p) (state p c w k pc) operator.Multiply d d
      (operand.Temporary d) 1 line z z st.0 r.word r.word
      ∙ ap (λ g. gives_computed (code_in p) d g line (state p c w k pc)) (computes Multiply z z)) st.1
      (omega arith) alive)

  odd_runs : FunctionRuns Odd
  odd_runs e d x o w k pc pc' line y alive fits r st =
      let z = number_of y in
      let b = unsigned_abs z % 2 == 1 in
      let v = OrdinalValue (truth b) in
      gives_word p (suc n) c d x w k pc pc' d (Numeral (truth b)) (λ w' k'. FunctionIn Odd e line d v w' k')
      (bits_step (machine_of p) (state p c w k pc) And d d (operand.Number (pos 1)) z (pos 1) st.0 r.word refl
      ∙ ap (λ q. gives d (Numeral q) (state p c w k pc)) (odd_same z r.fits)) st.1 (omega arith) alive (
        record {
          word = put_same k.temporaries d (Numeral (truth b));
          fits = truth_integer b;
        },
        λ q. (b, refl),
        λ q. never q,
      )

  ord_runs : FunctionRuns Ord
  ord_runs e d x o w k pc pc' line y alive fits r st =
      plainly Ord e d x o w k pc pc' line (Result (number_of y)) refl refl
      (here p (suc n) c d x w k pc pc' (λ w' k'. WordIn k'.temporaries w'.made d NumberSort
      (OrdinalValue (number_of y))) st alive (record {
        word = r.word;
        fits = r.fits;
      }))

  -- a test, stated as what was computed
  tested : (d x : ℕ) (o : Opening) (w : World) (k : Work) (pc pc' line : ℕ) (v : Value) (low high z : ℤ) (a b : Bool)
      → number_of v ≡ z → a ≡ b
      → Runs p (suc n) c d x w k pc pc' ((if a then give v else fault 4 line (context_in c o)) w)
      (λ u w' k'. (u ≡ v) × WordIn k'.temporaries w'.made d NumberSort v
      × (is_between low (number_of v) high ≡ true))
      → Runs p (suc n) c d x w k pc pc' (settled (if b then Result z else Fault 4) line (context_in c o) w)
      (λ u w' k'. WordIn k'.temporaries w'.made d NumberSort u × (is_between low (number_of u) high ≡ true))
  tested d x o w k pc pc' line v low high z true true e q r =
      record {
        work = r.work;
        alive = r.alive;
        keeps = r.keeps;
        comes = r.comes;
        result = (
          record {
            word = r.result.1.word ∙ ap (λ m. Some (Numeral m)) e;
            fits = subst (λ m. IsTrue (is_integer m)) e r.result.1.fits;
          },
          subst (λ m. is_between low m high ≡ true) e r.result.2,
        );
      }
  tested d x o w k pc pc' line v low high z false false e q r = r
  tested d x o w k pc pc' line v low high z true false e q r = absurd (cc)
  tested d x o w k pc pc' line v low high z false true e q r = absurd (cc)

  chr_runs : FunctionRuns Chr
  chr_runs e d x o w k pc pc' line y alive fits r st =
      let z = number_of y in
      runs_map p (suc n) c d x d x w k pc pc' (settled (apply Chr z) line (context_in c o) w)
      (λ v w' k'. WordIn k'.temporaries w'.made d NumberSort v
      × (is_between (pos 0) (number_of v) (pos 255) ≡ true)) (λ v w' k'. FunctionIn Chr e line d v w' k')
      (omega arith) (omega arith)
      (tested d x o w k pc pc' line y (pos 0) (pos 255) z (is_between (pos 0) z (pos 255))
      (is_between (pos 0) z (pos 255)) refl refl
      (check_runs p (suc n) c active d x o w k pc pc' d (pos 0) (pos 255) 4 line None y (omega arith) alive
      (λ m q. absurd (cc)) r st))
      (λ v w' k' a' q. (q.0, λ t. never t, λ t. q.1))

  -- a number that is next, and its test
  next_runs : (d x : ℕ) (o : Opening) (w : World) (k : Work) (pc pc' line : ℕ) (s low high : ℤ) (b : Bool)
      → Alive p c w k
      → step_of (machine_of p) (state p c w k pc) ≡ gives_computed (code_in p) d
      (if is_integer s then Computes s else Fails 4) line (state p c w k pc)
      → (is_integer s ≡ true → is_between low s high ≡ b) → (is_integer s ≡ false → b ≡ false)
      → Stands (code_in p) c.routine (suc pc) (range_code d low high 4 line) pc'
      → Runs p (suc n) c d x w k pc pc' (settled (if b then Result s else Fault 4) line (context_in c o) w)
      (λ u w' k'. WordIn k'.temporaries w'.made d NumberSort u)
  next_runs d x o w k pc pc' line s low high b alive stepped inside beyond st = go (is_integer s) refl
    where
      R : Value → World → Work → Type 0
      R v w' k' = WordIn k'.temporaries w'.made d NumberSort v

      gives_next : (a : Bool) → is_integer s ≡ a → step_of (machine_of p) (state p c w k pc) ≡ gives_computed
          (code_in p) d (if a then Computes s else Fails 4) line (state p c w k pc)
      gives_next a e = stepped ∙ ap (λ q. gives_computed (code_in p) d (if q then Computes s else Fails 4) line
          (state p c w k pc)) e

      go : (a : Bool) → is_integer s ≡ a → Runs p (suc n) c d x w k pc pc'
          (settled (if b then Result s else Fault 4) line (context_in c o) w) R
      go true e =
          let v = OrdinalValue s in
          let k1 = with_temporary k d (Numeral s) in
          runs_word p (suc n) c d x w k pc (suc pc) pc' d (Numeral s)
          (settled (if b then Result s else Fault 4) line (context_in c o) w) R (gives_next true e) refl
          (omega arith) alive
          (λ alive1.
          runs_map p (suc n) c d x d x w k1 (suc pc) pc'
          (settled (if b then Result s else Fault 4) line (context_in c o) w)
          (λ u w' k'. WordIn k'.temporaries w'.made d NumberSort u × (is_between low (number_of u) high ≡ true)) R
          (omega arith) (omega arith)
          (tested d x o w k1 (suc pc) pc' line v low high s (is_between low s high) b refl (inside e)
          (check_runs p (suc n) c active d x o w k1 (suc pc) pc' d low high 4 line None v (omega arith) alive1
          (λ m q. absurd (cc)) (record {
            word = put_same k.temporaries d (Numeral s);
            fits = e;
          }) st))
          (λ u w' k' a' y. y.0))
      go false e = subst (λ q. Runs p (suc n) c d x w k pc pc'
          (settled (if q then Result s else Fault 4) line (context_in c o) w) R) (sym (beyond e))
          (fails_so p (suc n) c active w k pc 4 line (omega arith) (gives_next false e))

  succ_runs : (high : ℤ) → FunctionRuns (Succ high)
  succ_runs high e d x o w k pc pc' line y alive fits r st =
      let z = number_of y in
      plainly (Succ high) e d x o w k pc pc' line (apply (Succ high) z) refl refl
      (next_runs d x o w k pc pc' line (z +ℤ pos 1) least high (int_lt z high) alive
      (arithmetic_step (machine_of p) (state p c w k pc) operator.Add d d (operand.Number (pos 1)) 4 line z
      (pos 1) st.0 r.word refl) (λ q. succ_between z high r.fits) (λ q. succ_beyond z high r.fits fits q) st.1)

  pred_runs : (low : ℤ) → FunctionRuns (Pred low)
  pred_runs low e d x o w k pc pc' line y alive fits r st =
      let z = number_of y in
      plainly (Pred low) e d x o w k pc pc' line (apply (Pred low) z) refl refl
      (next_runs d x o w k pc pc' line (z -ℤ pos 1) low greatest (int_lt low z) alive
      (arithmetic_step (machine_of p) (state p c w k pc) operator.Subtract d d (operand.Number (pos 1)) 4 line z
      (pos 1) st.0 r.word refl) (λ q. pred_between z low r.fits) (λ q. pred_beyond z low r.fits fits q) st.1)

  function_runs : (function : RequiredFunction) → FunctionRuns function
  function_runs Abs = abs_runs
  function_runs Sqr = sqr_runs
  function_runs Odd = odd_runs
  function_runs Ord = ord_runs
  function_runs Chr = chr_runs
  function_runs (Succ high) = succ_runs high
  function_runs (Pred low) = pred_runs low

  pub apply_front : (function : RequiredFunction) (e : Expr) (line : ℕ) → FrontRuns p n call c active e
      → FrontRuns p n call c active (Apply function e line)
  apply_front function e line front d x o w k pc pc' sort alive opened fits st =
      let ctx = context_in c o in
      let cut = split (code_in p) c.routine pc (expr_code (scope_in p c o) e d x) (function_code function d line) pc' st
      in
      runs_bind p (suc n) c d x d x d x w k pc cut.0 pc' (value call e ctx w)
      (λ y w1. settled (apply function (number_of y)) line ctx w1)
      (λ y w' k'. WordIn k'.temporaries w'.made d NumberSort y)
      (λ v w' k'. FrontIn (Apply function e line) d sort v w'.made k'.temporaries) (omega arith) (omega arith)
      (omega arith) (omega arith)
      (expr_runs_from p n call c active e front d x o w k pc cut.0 NumberSort alive opened fits.2 cut.1)
      (λ y w1 k1 alive1 kept1 r1.
      runs_map p (suc n) c d x d x w1 k1 cut.0 pc' (settled (apply function (number_of y)) line ctx w1)
      (λ v w' k'. FunctionIn function e line d v w' k')
      (λ v w' k'. FrontIn (Apply function e line) d sort v w'.made k'.temporaries) (omega arith) (omega arith)
      (function_runs function e d x o w1 k1 cut.0 pc' line y alive1 fits.1 r1 cut.2)
      (λ v w' k' a' r. plain_front (Apply function e line) d sort v w'.made k'.temporaries refl refl refl refl
      (r.0.word ∙ ap (λ s. Some (word_of s v)) (sym fits.0))
      (subst (HasSort w'.made v) (sym fits.0) r.0.fits) r.1 r.2))
