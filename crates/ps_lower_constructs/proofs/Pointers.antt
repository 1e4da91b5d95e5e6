-- Comparisons of pointers.
use Rattle.std.proofs.Common.{◌≡◌, ℕ, suc, ◌≤◌, ℤ, pos, List, ◌++◌, Option, Some, None, refl, sym, ap, ◌∙◌, subst}
use Rattle.std.proofs.Common.{arith}
use Rattle.ps_tree.specs.declared.tree.operators.PointerRelation.{PointerRelation}
use Rattle.ps_tree.specs.declared.tree.operators.PointerRelation.TheVariants.{Same, Other}
use Rattle.ps_tree.specs.Tree.{Expr, Number, Nil, Load, Plus, Minus, Not, Arithmetic, Logic, Compare, ComparePointers}
use Rattle.ps_tree.specs.Tree.{CompareSets, CompareStrings, In, Apply, Eof, Eoln, Call, CallFormal}
use Rattle.tac_code.specs.Meaning.{related, operand_value}
use Rattle.tac_code.specs.declared.code.Value.TheVariants.{Number as Numeral}
use Rattle.ps_meaning.specs.Values.{Value, OrdinalValue, NilValue, ObjectValue, SetValue, StructureValue}
use Rattle.ps_meaning.specs.Operators.{pointers_hold, truth}
use Rattle.ps_meaning.specs.Worlds.{World, Gives, and_then}
use Rattle.ps_meaning.specs.Expressions.{Caller, value}
use Rattle.tac_code_steps.specs.Runs.{Stands}
use Rattle.tac_code_steps.proofs.Runs.{split}
use Rattle.tac_code_steps.proofs.Pieces.{same_some, some_none}
use Rattle.ps_lower_layout.specs.Words.{pointer_word}
use Rattle.ps_lower_layout.specs.Paths.{PointsTo, NumberSort, PointerSort, HasSort}
use Rattle.tac_code.proofs.Impossible.{never, true_false}
use Rattle.tac_code.proofs.Items.{get_stays}
use Rattle.ps_lower_code.specs.Scopes.{even_from, kept, operand_of, unless_known}
use Rattle.ps_lower_code.specs.Calling.{expr_calls}
use Rattle.ps_lower_code.specs.Values.{literal_of, pointer_relation_of}
use Rattle.ps_lower_code.specs.Statements.{expr_code}
use Rattle.ps_lower_code.specs.Fits.{ExprFits}
use Rattle.ps_lower_code.proofs.Depths.{even_above, kept_above}
use Rattle.ps_lower_relation.specs.Here.{Setting, code_in, Work, Activated, IsActive, Alive, WordIn}
use Rattle.ps_lower_relation.specs.Outcomes.{Runs}
use Rattle.ps_lower_relation.proofs.Numbers.{truth_is, truth_integer}
use Rattle.ps_lower_constructs.specs.Openings.{Opening, scope_in, plain_scope, context_in, IsOpened}
use Rattle.ps_lower_constructs.proofs.Runs.{runs_bind, runs_map, here, keeps_refl, keeps_less}
use Rattle.ps_lower_constructs.proofs.Kept.{opened_kept}
use Rattle.ps_lower_constructs.proofs.Values.{FrontIn, FrontRuns, expr_runs_from}

points_grow : (made more : List ℕ) (v : Value) (t : ℕ) → PointsTo made v t → PointsTo (made ++ more) v t
points_grow made more NilValue t h = tt
points_grow made more (ObjectValue k) t h = get_stays made more k t h
points_grow made more (OrdinalValue z) t h = absurd h
points_grow made more (SetValue s) t h = absurd h
points_grow made more (StructureValue vs) t h = absurd h

pointers_same : (r : PointerRelation) (made : List ℕ) (t : ℕ) (y z : Value) → PointsTo made y t → PointsTo made z t
    → related (pointer_relation_of r) (Some (pointer_word y)) (Some (pointer_word z)) ≡ Some (pointers_hold r y z)
pointers_same r made t (OrdinalValue a) z h g = absurd h
pointers_same r made t (SetValue a) z h g = absurd h
pointers_same r made t (StructureValue a) z h g = absurd h
pointers_same Same made t NilValue NilValue h g = refl
pointers_same Other made t NilValue NilValue h g = refl
pointers_same Same made t NilValue (ObjectValue b) h g = refl
pointers_same Other made t NilValue (ObjectValue b) h g = refl
pointers_same r made t NilValue (OrdinalValue b) h g = absurd g
pointers_same r made t NilValue (SetValue b) h g = absurd g
pointers_same r made t NilValue (StructureValue b) h g = absurd g
pointers_same Same made t (ObjectValue a) NilValue h g = refl
pointers_same Other made t (ObjectValue a) NilValue h g = refl
pointers_same Same made t (ObjectValue a) (ObjectValue b) h g = refl
pointers_same Other made t (ObjectValue a) (ObjectValue b) h g = refl
pointers_same r made t (ObjectValue a) (OrdinalValue b) h g = absurd g
pointers_same r made t (ObjectValue a) (SetValue b) h g = absurd g
pointers_same r made t (ObjectValue a) (StructureValue b) h g = absurd g

sort_clash : {A : Type 0} {t : ℕ} → PointerSort t ≡ NumberSort → A
sort_clash e = absurd (cc)

module _ (p : Setting) (n : ℕ) (call : Caller) (c : Activated) (active : IsActive p c) where
  -- the only pointer that is known is nil
  nil_known : (e : Expr) (z : ℤ) (o : Opening) (w : World) (t : ℕ) → literal_of e ≡ Some z → ExprFits
      (plain_scope p c) o.shapes e (PointerSort t) → (value call e (context_in c o) w ≡ Gives NilValue w) × (z ≡ pos 0)
  nil_known (Number m) z o w t q fits = sort_clash fits.0
  nil_known Nil z o w t q fits = (refl, sym (same_some q))
  nil_known (Minus e line) z o w t q fits = sort_clash fits.0
  nil_known (Load pl) z o w t q fits = some_none q
  nil_known (Plus e) z o w t q fits = some_none q
  nil_known (Not e) z o w t q fits = some_none q
  nil_known (Arithmetic e s) z o w t q fits = some_none q
  nil_known (Logic b e r) z o w t q fits = some_none q
  nil_known (Compare r a b) z o w t q fits = some_none q
  nil_known (ComparePointers r a b) z o w t q fits = some_none q
  nil_known (CompareSets r a b) z o w t q fits = some_none q
  nil_known (CompareStrings r a b) z o w t q fits = some_none q
  nil_known (In a b) z o w t q fits = some_none q
  nil_known (Apply f e l) z o w t q fits = some_none q
  nil_known (Eof) z o w t q fits = some_none q
  nil_known (Eoln l) z o w t q fits = some_none q
  nil_known (Call r u a l) z o w t q fits = some_none q
  nil_known (CallFormal u i' a l) z o w t q fits = some_none q

  abbrev PointerIn : Option ℤ → (at pointer : ℕ) → Value → World → Work → Type 0
  PointerIn literal at pointer v w k = (operand_value k.temporaries (operand_of literal at) ≡ Some (pointer_word v))
      × PointsTo w.made v pointer

  -- a right operand
  pointer_operand : (e : Expr) → FrontRuns p n call c active e → (at x pointer : ℕ) (o : Opening) (w : World) (k : Work)
      (pc pc' : ℕ) → Alive p c w k → IsOpened p c w k at o → ExprFits (plain_scope p c) o.shapes e (PointerSort pointer)
      → Stands (code_in p) c.routine pc (unless_known (literal_of e) (expr_code (scope_in p c o) e at x)) pc'
      → Runs p (suc n) c at x w k pc pc' (value call e (context_in c o) w)
      (λ v w' k'. PointerIn (literal_of e) at pointer v w' k')
  pointer_operand e front at x pointer o w k pc pc' alive opened fits st =
      go (literal_of e) refl st (λ h. runs_map p (suc n) c at x at x w k pc pc' (value call e (context_in c o) w)
      (λ v w' k'. WordIn k'.temporaries w'.made at (PointerSort pointer) v)
      (λ v w' k'. PointerIn None at pointer v w' k') (omega arith) (omega arith)
      (expr_runs_from p n call c active e front at x o w k pc pc' (PointerSort pointer) alive opened fits h)
      (λ v w' k' a' r. (r.word, r.fits)))
    where
      go : (literal : Option ℤ) → literal_of e ≡ literal → Stands (code_in p) c.routine pc
          (unless_known literal (expr_code (scope_in p c o) e at x)) pc'
          → (Stands (code_in p) c.routine pc (expr_code (scope_in p c o) e at x) pc' → Runs p (suc n) c at x w k pc pc'
          (value call e (context_in c o) w) (λ v w' k'. PointerIn None at pointer v w' k')) → Runs p
          (suc n) c at x w k pc pc' (value call e (context_in c o) w) (λ v w' k'. PointerIn literal at pointer v w' k')
      go None q st' r = r st'
      go (Some z) q st' r =
          let known_ = nil_known e z o w pointer q fits in
          subst (λ a. Runs p (suc n) c at x w k pc pc' a (λ v w' k'. PointerIn (Some z) at pointer v w' k'))
          (sym known_.0) (here p (suc n) c at x w k pc pc'
          (λ w' k'. PointerIn (Some z) at pointer NilValue w' k') st' alive
          (ap (λ y. Some (Numeral y)) known_.1, tt))

  pub compare_pointers_front : (r : PointerRelation) (a b : Expr) → FrontRuns p n call c active a
      → FrontRuns p n call c active b → FrontRuns p n call c active (ComparePointers r a b)
  compare_pointers_front r a b fa fb d x o w k pc pc' sort alive opened fits st =
      let la = kept (expr_calls b) d in
      let l : d ≤ la = kept_above (expr_calls b) d in
      let t = even_from (suc la) in
      let h : suc la ≤ t = even_above (suc la) in
      let ctx = context_in c o in
      let code = scope_in p c o in
      let pointer = fits.1.0 in
      let cut = split (code_in p) c.routine pc (expr_code code a la x)
      (unless_known (literal_of b) (expr_code code b t x)) pc' st in
      runs_bind p (suc n) c d x la x d x w k pc cut.0 pc' (value call a ctx w)
      (λ y w1. and_then (value call b ctx w1) (λ z w2. Gives (OrdinalValue (truth (pointers_hold r y z))) w2))
      (λ y w' k'. WordIn k'.temporaries w'.made la (PointerSort pointer) y)
      (λ v w' k'. FrontIn (ComparePointers r a b) d sort v w'.made k'.temporaries) l (omega arith) (omega arith)
      (omega arith)
      (expr_runs_from p n call c active a fa la x o w k pc cut.0 (PointerSort pointer) alive
      (opened_kept p c d x la w w k k o l (keeps_refl d x w k) opened) fits.1.1 cut.1)
      (λ y w1 k1 alive1 kept1 r1.
      runs_bind p (suc n) c d x t x d x w1 k1 cut.0 pc' pc' (value call b ctx w1)
      (λ z w2. Gives (OrdinalValue (truth (pointers_hold r y z))) w2)
      (λ z w' k'. PointerIn (literal_of b) t pointer z w' k')
      (λ v w' k'. FrontIn (ComparePointers r a b) d sort v w'.made k'.temporaries) (omega (arith, l, h))
      (omega arith) (omega arith) (omega arith)
      (pointer_operand b fb t x pointer o w1 k1 cut.0 pc' alive1
      (opened_kept p c d x t w w1 k k1 o (omega (arith, l, h)) (keeps_less d x la x l (omega arith) kept1) opened)
      fits.1.2 cut.2)
      (λ z w2 k2 alive2 kept2 r2.
      let q = pointers_hold r y z in
      let first : PointsTo w2.made y pointer = subst (λ m. PointsTo m y pointer) (sym kept2.grown.1)
      (points_grow w1.made kept2.grown.0 y pointer r1.fits) in
      here p (suc n) c d x w2 k2 pc' pc' (λ w' k'. FrontIn (ComparePointers r a b) d sort
      (OrdinalValue (truth q)) w'.made k'.temporaries) refl alive2
      (record {
        fits = subst (HasSort w2.made (OrdinalValue (truth q))) (sym fits.0) (truth_integer q);
        relates = λ s. ap (λ u. related (pointer_relation_of r) u
            (operand_value k2.temporaries (operand_of (literal_of b) t)))
            (kept2.temporaries la (omega (arith, h)) ∙ r1.word)
            ∙ ap (related (pointer_relation_of r) (Some (pointer_word y))) r2.0
            ∙ pointers_same r w2.made pointer y z first r2.1 ∙ ap Some (sym (truth_is q));
        word = λ s. true_false s;
        number = λ s. fits.0;
        binary = λ s. (q, refl);
        binary_relation = λ s. (q, refl);
        byte = λ s. never s;
      })))
