-- Comparisons of sets, and membership.
use Rattle.std.proofs.Common.{◌≡◌, ℕ, suc, ◌+◌, ◌<◌, ◌≤◌, pos, Bool, true, false, not, ◌&&◌, [], ◌∷◌, ◌++◌, length}
use Rattle.std.proofs.Common.{Some, refl, sym, ap, ◌∙◌, subst, arith}
use Rattle.ps_tree.specs.declared.tree.operators.SetRelation.{SetRelation}
use Rattle.ps_tree.specs.declared.tree.operators.SetRelation.TheVariants as sets
use Rattle.ps_tree.specs.Tree.{CompareSets, SetExpr}
use Rattle.tac_code.specs.declared.code.Base.TheVariants as base
use Rattle.tac_code.specs.declared.code.Block.TheVariants.{Scratch as ScratchBlock}
use Rattle.tac_code.specs.declared.code.Value.{Value as Word}
use Rattle.tac_code.specs.declared.code.Value.TheVariants.{Number as Numeral, Address}
use Rattle.tac_code.specs.declared.code.Operand.TheVariants as operand
use Rattle.tac_code.specs.declared.code.Relation.TheVariants.{Equal}
use Rattle.tac_code.specs.declared.code.BitOperator.TheVariants as bit
use Rattle.tac_code.specs.declared.code.Instruction.TheVariants as i
use Rattle.tac_code.specs.Numbers.{bits, truth as truth_word}
use Rattle.tac_code.specs.Meaning.{fetch, related}
use Rattle.tac_code.specs.declared.code.TheConstants.{BLOCK_LIMIT}
use Rattle.ps_meaning.specs.Values.{OrdinalValue}
use Rattle.ps_meaning.specs.Operators.{truth, is_included, sets_hold}
use Rattle.ps_meaning.specs.Worlds.{World, Gives, and_then}
use Rattle.ps_meaning.specs.Expressions.{Caller, set_value}
use Rattle.tac_code_steps.specs.Runs.{Stands}
use Rattle.tac_code_steps.proofs.Runs.{split}
use Rattle.tac_code_steps.proofs.Temporaries.{put_same, put_other}
use Rattle.tac_code_steps.proofs.Instructions.{compare_step, bits_step}
use Rattle.ps_lower_layout.specs.Paths.{HasSort}
use Rattle.tac_code.proofs.Impossible.{never}
use Rattle.ps_lower_code.specs.Scopes.{even_from, beside, moved}
use Rattle.ps_lower_code.specs.Values.{sets_code, included_code, same_sets_code, set_code}
use Rattle.ps_lower_code.proofs.Depths.{even_above}
use Rattle.ps_lower_relation.specs.Here.{Setting, machine_of, code_in, Work, Activated, IsActive, Alive, state, word_of}
use Rattle.ps_lower_relation.specs.RunTime.{WritesDo}
use Rattle.ps_lower_relation.proofs.Numbers.{truths, truth_integer}
use Rattle.ps_lower_constructs.specs.Openings.{Opening, scope_in, context_in}
use Rattle.ps_lower_constructs.proofs.Runs.{with_temporary, runs_bind, keeps_refl, keeps_less}
use Rattle.ps_lower_constructs.proofs.Kept.{opened_kept}
use Rattle.ps_lower_constructs.proofs.Values.{FrontIn, FrontRuns, plain_front}
use Rattle.ps_lower_constructs.proofs.Scratch.{scratch_offset}
use Rattle.ps_lower_constructs.proofs.Passages.{called_work, Passage, further, arrives, to_end, word_passage}
use Rattle.ps_lower_constructs.proofs.Passages.{scratch_passage, moved_passage}
use Rattle.ps_lower_constructs.proofs.ScratchSets.{SetIn, set_kept, included_so}
use Rattle.ps_lower_constructs.proofs.SetValues.{SetRuns}

module _ (p : Setting) (n : ℕ) (call : Caller) (c : Activated) (active : IsActive p c) (does : WritesDo p) where
  -- ---- comparisons and membership

  truth_in : (b : Bool) (t : ℕ) (k : Work) → k.temporaries t ≡ Some (Numeral (truth_word b)) → k.temporaries t ≡ Some
      (Numeral (truth b))
  truth_in b t k h = h ∙ ap (λ z. Some (Numeral z)) (truths b)

  -- the addresses of two sets in two temporaries
  abbrev with_two : Work → (a b x : ℕ) → Work
  with_two k a b x = with_temporary (with_temporary k a (Address (ScratchBlock c.number) x)) b
      (Address (ScratchBlock c.number) (x + 32))

  -- the addresses of two sets in a and in b, and the one that is tested first
  asked_so : (d x a b t f g o o' : ℕ) (s s' : ℕ → Bool) (w : World) (k : Work) (pc pc' : ℕ) → d ≤ a → a < b → d ≤ t
      → Alive p c w k → SetIn o s k → SetIn o' s' k → o + 32 < BLOCK_LIMIT → o' + 32 < BLOCK_LIMIT
      → (with_two k a b x).temporaries f ≡ Some (Address (ScratchBlock c.number) o) → (with_two k a b x).temporaries g
      ≡ Some (Address (ScratchBlock c.number) o')
      → Stands (code_in p) c.routine pc (i.Offset a base.Scratch x 32 ∷ i.Offset b base.Scratch (x + 32) 32 ∷ i.Call t
      (length p.program.routines + 5) (f ∷ g ∷ []) 1 ∷ []) pc' → Passage p c active d x w k pc
      (called_work (with_two k a b x) t (Numeral (truth_word (is_included s s'))) k.scratch) pc'
  asked_so d x a b t f g o o' s s' w k pc pc' la lb lt alive first second small small' at_f at_g st =
      let one = scratch_passage p c active d x w k pc a x 32 la alive st.0 in
      let k1 = with_temporary k a (Address (ScratchBlock c.number) x) in
      let two = scratch_passage p c active d x w k1 (suc pc) b (x + 32) 32 (omega (arith, la, lb)) one.alive st.1.0 in
      further p c active one (further p c active two
      (included_so p c active does d x f g t o o' s s' w (with_two k a b x)
      (suc (suc pc)) pc' lt two.alive at_f at_g first second small small' st.1.1))

  -- the truth of a relation of two sets, in t
  pub sets_asked : (r : SetRelation) (d x t : ℕ) (o : Opening) (s s' : ℕ → Bool) (w : World) (k : Work) (pc pc' : ℕ)
      → d ≤ t → Alive p c w k → SetIn x s k → SetIn (x + 32) s' k → Stands (code_in p) c.routine pc
      (sets_code (scope_in p c o) r t x) pc' → (k' : Work) × Passage p c active d x w k pc k' pc'
      × (k'.temporaries t ≡ Some (Numeral (truth (sets_hold r s s'))))
  sets_asked r d x t o s s' w k pc pc' l alive first second st = go r st
    where
      u : ℕ
      u = beside t

      one : Word
      one = Address (ScratchBlock c.number) x

      two : Word
      two = Address (ScratchBlock c.number) (x + 32)

      apart : t ≡ beside t → ⊥
      apart e = omega (arith, e)

      at_t : (k : Work) → (with_two k t u x).temporaries t ≡ Some one
      at_t k = put_other (with_temporary k t one).temporaries u two t apart ∙ put_same k.temporaries t one

      at_u : (k : Work) → (with_two k t u x).temporaries u ≡ Some two
      at_u k = put_same (with_temporary k t one).temporaries u two

      small : (pc1 a : ℕ) → fetch (code_in p) c.routine pc1 ≡ Some (i.Offset a base.Scratch x 32) → x + 32 < BLOCK_LIMIT
      small pc1 a h = (scratch_offset p c active pc1 a x 32 h).small

      small' : (pc1 a : ℕ) → fetch (code_in p) c.routine pc1 ≡ Some (i.Offset a base.Scratch (x + 32) 32) → x + 32
          + 32 < BLOCK_LIMIT
      small' pc1 a h = (scratch_offset p c active pc1 a (x + 32) 32 h).small

      -- the first in the second, with the truth in v
      onward : (v : ℕ) (k : Work) (pc1 pc2 : ℕ) → d ≤ v → Alive p c w k → SetIn x s k → SetIn (x + 32) s' k → Stands
          (code_in p) c.routine pc1 (included_code (scope_in p c o) t u v x) pc2 → Passage p c active d x w k pc1
          (called_work (with_two k t u x) v (Numeral (truth_word (is_included s s'))) k.scratch) pc2
      onward v k pc1 pc2 lv alive first second st = asked_so d x t u v t u x (x + 32) s s' w k pc1 pc2 l
          (omega arith) lv alive first second (small pc1 t st.0) (small' (suc pc1) u st.1.0) (at_t k) (at_u k) st

      backward : (k : Work) (pc1 pc2 : ℕ) → Alive p c w k → SetIn x s k → SetIn (x + 32) s' k → Stands
          (code_in p) c.routine pc1 (i.Offset t base.Scratch x 32 ∷ i.Offset u base.Scratch (x + 32) 32 ∷ i.Call t
          (length p.program.routines + 5) (u ∷ t ∷ []) 1 ∷ []) pc2 → Passage p c active d x w k pc1
          (called_work (with_two k t u x) t (Numeral (truth_word (is_included s' s))) k.scratch) pc2
      backward k pc1 pc2 alive first second st = asked_so d x t u t u t (x + 32) x s' s w k pc1 pc2 l
          (omega arith) l alive second first (small' (suc pc1) u st.1.0) (small pc1 t st.0) (at_u k) (at_t k) st

      both_truths : (a b : Bool) → bits bit.And (truth_word b) (truth_word a) ≡ truth_word (a && b)
      both_truths true true = refl
      both_truths true false = refl
      both_truths false true = refl
      both_truths false false = refl

      q : Bool
      q = is_included s s'

      q' : Bool
      q' = is_included s' s

      -- each in the other
      same : (pc2 : ℕ) → Stands (code_in p) c.routine pc (same_sets_code (scope_in p c o) t x) pc2 → (k' : Work)
          × Passage p c active d x w k pc k' pc2 × (k'.temporaries t ≡ Some (Numeral (truth_word (q && q'))))
      same pc2 st =
          let k1 = called_work (with_two k t u x) (suc t) (Numeral (truth_word q)) k.scratch in
          let a = onward (suc t) k pc (suc (suc (suc pc))) (omega (arith, l)) alive first second
          (st.0, (st.1.0, (st.1.1.0, refl))) in
          let k2 = called_work (with_two k1 t u x) t (Numeral (truth_word q')) k1.scratch in
          let mid = suc (suc (suc pc)) in
          let rest = st.1.1.1 in
          let b = backward k1 mid (suc (suc (suc mid))) a.alive first second (rest.0, (rest.1.0, (rest.1.1.0, refl))) in
          let last = rest.1.1.1 in
          let here_ = suc (suc (suc mid)) in
          let n1 : suc t ≡ t → ⊥ = λ e. omega (arith, e) in
          let n2 : suc t ≡ u → ⊥ = λ e. omega (arith, e) in
          let old : k2.temporaries (suc t) ≡ Some (Numeral (truth_word q)) =
          put_other (with_two k1 t u x).temporaries t (Numeral (truth_word q')) (suc t) n1 ∙ put_other
          (with_temporary k1 t one).temporaries u two (suc t) n2 ∙ put_other k1.temporaries t one (suc t) n1
          ∙ put_same (with_two k t u x).temporaries (suc t) (Numeral (truth_word q)) in
          let new : k2.temporaries t ≡ Some (Numeral (truth_word q')) = put_same (with_two k1 t u x).temporaries t
          (Numeral (truth_word q')) in
          let word = Numeral (bits bit.And (truth_word q') (truth_word q)) in
          let e = word_passage p c active d x w k2 here_ t word l b.alive
          (bits_step (machine_of p) (state p c w k2 here_) bit.And t t (operand.Temporary (suc t)) (truth_word q')
          (truth_word q) last.0 new old) in (
            with_temporary k2 t word,
            to_end p c active
                (further p c active a (further p c active b e)) last.1,
            put_same k2.temporaries t word
                ∙ ap (λ z. Some (Numeral z)) (both_truths q q'),
          )

      not_truth : (b : Bool) → related Equal (Some (Numeral (truth_word b))) (Some (Numeral (pos 0))) ≡ Some (not b)
      not_truth true = refl
      not_truth false = refl

      go : (r : SetRelation) → Stands (code_in p) c.routine pc (sets_code (scope_in p c o) r t x) pc' → (k' : Work)
          × Passage p c active d x w k pc k' pc' × (k'.temporaries t ≡ Some (Numeral (truth (sets_hold r s s'))))
      go sets.Included st = let k1 = called_work (with_two k t u x) t (Numeral (truth_word q)) k.scratch
          in (
            k1,
            onward t k pc pc' l alive first second st,
            truth_in q t k1
                (put_same (with_two k t u x).temporaries t (Numeral (truth_word q))),
          )
      go sets.Includes st = let k1 = called_work (with_two k t u x) t (Numeral (truth_word q')) k.scratch
          in (
            k1,
            backward k pc pc' alive first second st,
            truth_in q' t k1
                (put_same (with_two k t u x).temporaries t (Numeral (truth_word q'))),
          )
      go sets.Same st = let r = same pc' st in (r.0, r.1, truth_in (q && q') t r.0 r.2)
      go sets.Other st =
          let mid = suc (suc (suc (suc (suc (suc (suc pc)))))) in
          let r = same mid (
            st.0,
            (
              st.1.0,
              (
                st.1.1.0,
                (st.1.1.1.0, (st.1.1.1.1.0, (st.1.1.1.1.1.0, (st.1.1.1.1.1.1.0, refl)))),
              ),
            ),
          ) in
          let last = st.1.1.1.1.1.1.1 in
          let word = Numeral (truth_word (not (q && q'))) in
          let e = word_passage p c active d x w r.0 mid t word l r.1.alive
          (compare_step (machine_of p) (state p c w r.0 mid) Equal t t (operand.Number (pos 0))
          (not (q && q')) last.0 (ap (λ v. related Equal v (Some (Numeral (pos 0)))) r.2 ∙ not_truth (q && q'))) in (
            with_temporary r.0 t word,
            to_end p c active (further p c active r.1 e) last.1,
            truth_in (not (q && q')) t
                (with_temporary r.0 t word) (put_same r.0.temporaries t word),
          )

  pub compare_sets_front : (r : SetRelation) (a b : SetExpr) → SetRuns p n call c active does a
      → SetRuns p n call c active does b → FrontRuns p n call c active
      (CompareSets r a b)
  compare_sets_front r a b ra rb d x o w k pc pc' sort alive opened fits st =
      let code = scope_in p c o in
      let ctx = context_in c o in
      let t = even_from d in
      let l : d ≤ t = even_above d in
      let cut3 = split (code_in p) c.routine pc
      (set_code code a t x ++ set_code code b t (x + 32) ++ sets_code code r t x) (moved t d) pc' st in
      let cut2 = split (code_in p) c.routine pc (set_code code a t x ++ set_code code b t (x + 32))
      (sets_code code r t x) cut3.0 cut3.1 in
      let cut = split (code_in p) c.routine pc (set_code code a t x) (set_code code b t (x + 32)) cut2.0 cut2.1 in
      runs_bind p (suc n) c d x t x d x w k pc cut.0 pc' (set_value call a ctx w)
      (λ s w1. and_then (set_value call b ctx w1) (λ s' w2. Gives (OrdinalValue (truth (sets_hold r s s'))) w2))
      (λ s w' k'. SetIn x s k') (λ v w' k'. FrontIn (CompareSets r a b) d sort v w'.made k'.temporaries) l
      (omega arith) (omega arith) (omega arith)
      (ra t x o w k pc cut.0 alive (opened_kept p c d x t w w k k o l (keeps_refl d x w k) opened) fits.1 cut.1)
      (λ s w1 k1 alive1 kept1 r1.
      runs_bind p (suc n) c d x t (x + 32) d x w1 k1 cut.0 cut2.0 pc' (set_value call b ctx w1)
      (λ s' w2. Gives (OrdinalValue (truth (sets_hold r s s'))) w2) (λ s' w' k'. SetIn (x + 32) s' k')
      (λ v w' k'. FrontIn (CompareSets r a b) d sort v w'.made k'.temporaries) l (omega arith) (omega arith)
      (omega arith)
      (rb t (x + 32) o w1 k1 cut.0 cut2.0 alive1
      (opened_kept p c d x t w w1 k k1 o l (keeps_less d x t x l (omega arith) kept1) opened) fits.2 cut.2)
      (λ s' w2 k2 alive2 kept2 r2.
      let q = sets_hold r s s' in
      let asked = sets_asked r d x t o s s' w2 k2 cut2.0 cut3.0 l alive2
      (set_kept x t (x + 32) s w1 w2 k1 k2 (omega arith) kept2 r1) r2 cut2.2 in
      let end = moved_passage p c active d x w2 asked.0 cut3.0 pc' t (Numeral (truth q)) l asked.1.alive asked.2 cut3.2
      in
      arrives p c active (further p c active asked.1 end.1)
      (λ w' k'. FrontIn (CompareSets r a b) d sort (OrdinalValue (truth q)) w'.made k'.temporaries)
      (plain_front (CompareSets r a b) d sort (OrdinalValue (truth q)) w2.made end.0.temporaries refl refl refl refl
      (end.2 ∙ ap (λ y. Some (word_of y (OrdinalValue (truth q)))) (sym fits.0))
      (subst (HasSort w2.made (OrdinalValue (truth q))) (sym fits.0) (truth_integer q)) (λ e. (q, refl))
      (λ e. never e))))
