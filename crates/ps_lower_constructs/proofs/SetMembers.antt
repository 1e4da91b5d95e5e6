-- The members of a set constructor.
use Rattle.std.proofs.Common.{◌≡◌, ℕ, suc, ◌+◌, ◌<◌, ◌≤◌, ℤ, pos, int_lt, Bool, true, false, ◌&&◌, ◌||◌, if◌then◌else◌}
use Rattle.std.proofs.Common.{[], ◌∷◌, ◌++◌, length, nat_eq, unsigned_abs, Option, Some, None, refl, sym, ap, ◌∙◌}
use Rattle.std.proofs.Common.{subst, arith}
use Rattle.std.proofs.Math.Bool.{or-false}
use Rattle.ps_tree.specs.declared.tree.operators.SetOperator.TheVariants.{Union}
use Rattle.ps_tree.specs.Tree.{Expr, Constructor, Member, One, Several, Members, no_member, member_before}
use Rattle.tac_code.specs.declared.code.Base.TheVariants as base
use Rattle.tac_code.specs.declared.code.Value.TheVariants.{Number as Numeral}
use Rattle.tac_code.specs.declared.code.Operand.TheVariants as operand
use Rattle.tac_code.specs.declared.code.Relation.TheVariants.{Less}
use Rattle.tac_code.specs.declared.code.Instruction.TheVariants as i
use Rattle.tac_code.specs.Meaning.{fetch, checks, related}
use Rattle.ps_meaning.specs.Values.{number_of, no_member_of}
use Rattle.ps_meaning.specs.Operators.{combine_sets, interval, is_between}
use Rattle.ps_meaning.specs.Worlds.{World, Gives, and_then, give, fault}
use Rattle.ps_meaning.specs.Expressions.{Caller, value, member_value, members_value, set_between}
use Rattle.tac_code_steps.specs.Runs.{Stands, Comes, step_of}
use Rattle.tac_code_steps.proofs.Runs.{split, a_step}
use Rattle.tac_code_steps.proofs.Instructions.{range_step, branch_step}
use Rattle.ps_lower_layout.specs.Paths.{NumberSort}
use Rattle.ps_lower_code.specs.Scopes.{even_from, held, beside}
use Rattle.ps_lower_code.specs.Calling.{expr_calls}
use Rattle.ps_lower_code.specs.Values.{range_members, literal_of, known_member, one_code, member_code, members_code}
use Rattle.ps_lower_code.specs.Values.{clear_code}
use Rattle.ps_lower_code.specs.Statements.{expr_code}
use Rattle.ps_lower_code.proofs.Depths.{even_above, held_above}
use Rattle.ps_lower_relation.specs.Here.{Setting, machine_of, code_in, Work, Activated, IsActive, Alive, state, WordIn}
use Rattle.ps_lower_relation.specs.Outcomes.{Reached, Runs}
use Rattle.ps_lower_relation.specs.RunTime.{WritesDo}
use Rattle.ps_lower_relation.proofs.Numbers.{in_range}
use Rattle.ps_lower_relation.proofs.Sets.{has_same, adding_interval}
use Rattle.ps_lower_constructs.specs.Openings.{Opening, scope_in, context_in}
use Rattle.ps_lower_constructs.proofs.Runs.{runs_bind, runs_map, runs_from, here, keeps_refl, keeps_less}
use Rattle.ps_lower_constructs.proofs.Kept.{opened_kept}
use Rattle.ps_lower_constructs.proofs.Leaves.{fails_so}
use Rattle.ps_lower_constructs.proofs.Values.{FrontRuns, expr_runs_from, known_is}
use Rattle.ps_lower_constructs.proofs.Passages.{Passage, arrives}
use Rattle.ps_lower_constructs.proofs.ScratchSets.{SetIn, set_kept, interval_added, cleared_so, bit_so}
use Rattle.ps_lower_constructs.proofs.SetValues.{MemberRuns, MembersRun, SetRuns, byte_is, not_above, not_below_itself}

module _ (p : Setting) (n : ℕ) (call : Caller) (c : Activated) (active : IsActive p c) (does : WritesDo p) where
  -- ---- constructors

  -- a test that goes on
  test_passage : (d x : ℕ) (w : World) (k : Work) (pc t line : ℕ) (z : ℤ) → Alive p c w k → k.temporaries t ≡ Some
      (Numeral z) → is_between (pos 0) z (pos 255) ≡ true → fetch (code_in p) c.routine pc ≡ Some
      (i.CheckRange t (pos 0) (pos 255) 8 line) → Passage p c active d x w k pc k (suc pc)
  test_passage d x w k pc t line z alive at e h =
      record {
        comes = a_step (state p c w k pc) (state p c w k (suc pc))
            (range_step (machine_of p) (state p c w k pc) t (pos 0) (pos 255) 8 line z h at
            ∙ ap (λ b. checks (code_in p) b 8 line (state p c w k pc)) (in_range (pos 0) z (pos 255) ∙ e));
        alive = alive;
        keeps = keeps_refl d x w k;
      }

  -- and one that fails
  test_fails : (w : World) (k : Work) (pc t line : ℕ) (z : ℤ) → k.temporaries t ≡ Some (Numeral z) → is_between
      (pos 0) z (pos 255) ≡ false → fetch (code_in p) c.routine pc ≡ Some (i.CheckRange t (pos 0) (pos 255) 8 line)
      → step_of (machine_of p) (state p c w k pc) ≡ checks (code_in p) false 8 line (state p c w k pc)
  test_fails w k pc t line z at e h = range_step (machine_of p) (state p c w k pc) t (pos 0) (pos 255) 8 line z h at
      ∙ ap (λ b. checks (code_in p) b 8 line (state p c w k pc)) (in_range (pos 0) z (pos 255) ∙ e)

  set_as : (x : ℕ) (s t : ℕ → Bool) (k : Work) → ((j : ℕ) → s j ≡ t j) → SetIn x s k → SetIn x t k
  set_as x s t k same at = (at.0, at.1, has_same at.0 s t k.scratch same at.2)

  -- members from one number to another in their temporaries, which lie in 0..255
  between_added : (d x a b u t m : ℕ) (s : ℕ → Bool) (y z : ℤ) (w : World) (k : Work) (pc pc' : ℕ) → d ≤ u → d ≤ t
      → (a ≡ u → ⊥) → (b ≡ u → ⊥) → Alive p c w k → k.temporaries a ≡ Some (Numeral y) → k.temporaries b ≡ Some
      (Numeral z) → y ≡ pos m → is_between (pos 0) z (pos 255) ≡ true → int_lt z y ≡ false → SetIn x s k
      → Stands (code_in p) c.routine pc (i.Offset u base.Scratch x 32 ∷ i.Call t (length p.program.routines + 1)
      (u ∷ a ∷ b ∷ []) 1 ∷ []) pc' → Reached p c d x w k (state p c w k pc) pc'
      (λ w' k'. SetIn x (combine_sets Union s (interval y z)) k') w
  between_added d x a b u t m s y z w k pc pc' lu lt na nb alive at_a at_b is within order set st =
      let last = byte_is z within in
      let l = last.0 in
      let e = last.1 in
      let more = not_above m l (ap (λ v. int_lt v (pos m)) (sym e) ∙ ap (int_lt z) (sym is) ∙ order) in
      let r = more.0 in
      let f = more.1 in
      let low = last.2 in
      let left = interval_added p c active does d x a b u t m r s w k pc pc' lu lt na nb alive
      (at_a ∙ ap (λ v. Some (Numeral v)) is) (at_b ∙ ap (λ v. Some (Numeral v)) e
      ∙ ap (λ v. Some (Numeral (pos v))) f) (omega (arith, low, f)) set st in
      arrives p c active left.passage (λ w' k'. SetIn x (combine_sets Union s (interval y z)) k')
      (set_as x (λ j. s j || interval (pos m) (pos (m + r)) j) (combine_sets Union s (interval y z)) left.work
      (λ j. ap (λ v. s j || interval (pos m) (pos v) j) (sym f) ∙ ap (λ v. s j || interval (pos m) v j) (sym e)
      ∙ ap (λ v. s j || interval v z j) (sym is)) left.set)

  -- one that is known is added to its word; any other is evaluated, tested and added
  pub one_member : (e : Expr) (line : ℕ) → FrontRuns p n call c active e
      → MemberRuns p n call c active does (One e line)
  one_member e line front d x o w k pc pc' s alive opened set fits st = by_literal (literal_of e) refl st
    where
      go : (w1 : World) (k1 : Work) (mid : ℕ) (z : ℤ) → Alive p c w1 k1 → k1.temporaries (even_from d) ≡ Some
          (Numeral z) → SetIn x s k1 → Stands (code_in p) c.routine mid
          (i.CheckRange (even_from d) (pos 0) (pos 255) 8 line ∷ i.Offset (beside (even_from d)) base.Scratch x 32
          ∷ i.Call (even_from d) (length p.program.routines + 1)
          (beside (even_from d) ∷ even_from d ∷ even_from d ∷ []) 1 ∷ []) pc'
          → (b : Bool) → is_between (pos 0) z (pos 255) ≡ b → Runs p (suc n) c d x w1 k1 mid pc'
          ((if b && b then give (interval z z) else fault 8 line (context_in c o)) w1)
          (λ y w' k'. SetIn x (combine_sets Union s y) k')
      go w1 k1 mid z alive1 at kept st1 true q =
          let t = even_from d in
          let l : d ≤ t = even_above d in
          let m = byte_is z q in
          let test = test_passage d x w1 k1 mid t line z alive1 at q st1.0 in
          let ne : t ≡ beside t → ⊥ = λ e'. omega (arith, e') in
          runs_from p (suc n) c d x w1 w1 k1 k1 mid (suc mid) pc' (Gives (interval z z) w1)
          (λ y w' k'. SetIn x (combine_sets Union s y) k') test.comes test.keeps
          (between_added d x t t (beside t) t m.0 s z z w1 k1 (suc mid) pc'
          (omega (arith, l)) l ne ne alive1 at at m.1 q (not_below_itself z) kept st1.1)
      go w1 k1 mid z alive1 at kept st1 false q = fails_so p (suc n) c active w1 k1 mid 8 line (omega arith)
          (test_fails w1 k1 mid (even_from d) line z at q st1.0)

      worked : Stands (code_in p) c.routine pc
          (expr_code (scope_in p c o) e (even_from d) (x + 32) ++ i.CheckRange (even_from d) (pos 0) (pos 255) 8 line
          ∷ i.Offset (beside (even_from d)) base.Scratch x 32 ∷ i.Call (even_from d) (length p.program.routines + 1)
          (beside (even_from d) ∷ even_from d ∷ even_from d ∷ []) 1 ∷ []) pc' → Runs p (suc n) c d x w k pc pc'
          (and_then (value call e (context_in c o) w)
          (λ v w1. set_between (number_of v) (number_of v) line (context_in c o) w1))
          (λ y w' k'. SetIn x (combine_sets Union s y) k')
      worked st =
          let code = scope_in p c o in
          let ctx = context_in c o in
          let t = even_from d in
          let l : d ≤ t = even_above d in
          let u = beside t in
          let cut = split (code_in p) c.routine pc (expr_code code e t (x + 32))
          (i.CheckRange t (pos 0) (pos 255) 8 line ∷ i.Offset u base.Scratch x 32 ∷ i.Call t
          (length p.program.routines + 1) (u ∷ t ∷ t ∷ []) 1 ∷ []) pc' st in
          runs_bind p (suc n) c d x t (x + 32) d x w k pc cut.0 pc' (value call e ctx w)
          (λ v w1. set_between (number_of v) (number_of v) line ctx w1)
          (λ v w' k'. WordIn k'.temporaries w'.made t NumberSort v)
          (λ y w' k'. SetIn x (combine_sets Union s y) k') l (omega arith) (omega arith) (omega arith)
          (expr_runs_from p n call c active e front t (x + 32) o w k pc cut.0 NumberSort alive
          (opened_kept p c d x t w w k k o l (keeps_refl d x w k) opened) fits.0 cut.1)
          (λ v w1 k1 alive1 kept1 r1.
          let z = number_of v in
          subst (λ b. Runs p (suc n) c d x w1 k1 cut.0 pc'
          ((if b then give no_member_of else (if is_between (pos 0) z (pos 255) && is_between (pos 0) z (pos 255)
          then give (interval z z) else fault 8 line ctx)) w1) (λ y w' k'. SetIn x (combine_sets Union s y) k'))
          (sym (not_below_itself z))
          (go w1 k1 cut.0 z alive1 r1.word (set_kept x t (x + 32) s w w1 k k1 (omega arith) kept1 set) cut.2
          (is_between (pos 0) z (pos 255)) refl))

      by_literal : (literal : Option ℤ) → literal_of e ≡ literal → Stands (code_in p) c.routine pc
          (one_code (known_member literal) (even_from d) x
          (expr_code (scope_in p c o) e (even_from d) (x + 32) ++ i.CheckRange (even_from d) (pos 0) (pos 255) 8 line
          ∷ i.Offset (beside (even_from d)) base.Scratch x 32 ∷ i.Call (even_from d) (length p.program.routines + 1)
          (beside (even_from d) ∷ even_from d ∷ even_from d ∷ []) 1 ∷ [])) pc' → Runs p (suc n) c d x w k pc pc'
          (and_then (value call e (context_in c o) w)
          (λ v w1. set_between (number_of v) (number_of v) line (context_in c o) w1))
          (λ y w' k'. SetIn x (combine_sets Union s y) k')
      by_literal None q h = worked h
      by_literal (Some z) q h = tested (is_between (pos 0) z (pos 255)) refl h
        where
          tested : (b : Bool) → is_between (pos 0) z (pos 255) ≡ b → Stands (code_in p) c.routine pc
              (one_code (if b then Some (unsigned_abs z) else None) (even_from d) x
              (expr_code (scope_in p c o) e (even_from d) (x + 32) ++ i.CheckRange (even_from d) (pos 0)
              (pos 255) 8 line ∷ i.Offset (beside (even_from d)) base.Scratch x 32 ∷ i.Call (even_from d)
              (length p.program.routines + 1) (beside (even_from d) ∷ even_from d ∷ even_from d ∷ []) 1 ∷ [])) pc'
              → Runs p (suc n) c d x w k pc pc' (and_then (value call e (context_in c o) w)
              (λ v w1. set_between (number_of v) (number_of v) line (context_in c o) w1))
              (λ y w' k'. SetIn x (combine_sets Union s y) k')
          tested false r h = worked h
          tested true r h =
              let known_ = known_is p n call c active e z o w q fits.0 in
              let m = byte_is z r in
              let same : unsigned_abs z ≡ m.0 = ap unsigned_abs m.1 in
              let left = bit_so p c active does d x (even_from d) (unsigned_abs z) s w k pc pc' (even_above d)
              (subst (λ y. y < 256) (sym same) m.2) alive set h in
              let zero_more : m.0 + 0 ≡ m.0 = omega arith in
              subst (λ a. Runs p (suc n) c d x w k pc pc'
              (and_then a (λ v w1. set_between (number_of v) (number_of v) line (context_in c o) w1))
              (λ y w' k'. SetIn x (combine_sets Union s y) k')) (sym known_.gives_it)
              (subst (λ y. Runs p (suc n) c d x w k pc pc' (set_between y y line (context_in c o) w)
              (λ y w' k'. SetIn x (combine_sets Union s y) k')) (sym known_.is)
              (subst (λ b. Runs p (suc n) c d x w k pc pc'
              ((if b then give no_member_of else (if is_between (pos 0) z (pos 255) && is_between (pos 0) z
              (pos 255) then give (interval z z) else fault 8 line (context_in c o))) w)
              (λ y w' k'. SetIn x (combine_sets Union s y) k')) (sym (not_below_itself z))
              (subst (λ b. Runs p (suc n) c d x w k pc pc'
              ((if b && b then give (interval z z) else fault 8 line (context_in c o)) w)
              (λ y w' k'. SetIn x (combine_sets Union s y) k')) (sym r)
              (arrives p c active left.passage (λ w' k'. SetIn x (combine_sets Union s (interval z z)) k')
              (set_as x (λ j. s j || nat_eq j (unsigned_abs z)) (combine_sets Union s (interval z z)) left.work
              (λ j. ap (λ v. s j || nat_eq j v) same ∙ adding_interval 0 m.0 j s
              ∙ ap (λ v. s j || interval (pos m.0) v j) (ap pos zero_more ∙ sym m.1)
              ∙ ap (λ v. s j || interval v z j) (sym m.1)) left.set)))))

  pub several_members : (a b : Expr) (line : ℕ) → FrontRuns p n call c active a → FrontRuns p n call c active b
      → MemberRuns p n call c active does (Several a b line)
  several_members a b line fa fb d x o w k pc pc' s alive opened set fits st =
      let code = scope_in p c o in
      let ctx = context_in c o in
      let ta = held (expr_calls b) d in
      let la : d ≤ ta = held_above (expr_calls b) d in
      let tb = even_from (suc ta) in
      let lb : suc ta ≤ tb = even_above (suc ta) in
      let cut2 = split (code_in p) c.routine pc (expr_code code a ta (x + 32) ++ expr_code code b tb (x + 32))
      (range_members code ta tb x line) pc' st in
      let cut = split (code_in p) c.routine pc (expr_code code a ta (x + 32))
      (expr_code code b tb (x + 32)) cut2.0 cut2.1 in
      runs_bind p (suc n) c d x ta (x + 32) d x w k pc cut.0 pc' (value call a ctx w)
      (λ v w1. and_then (value call b ctx w1) (λ v' w2. set_between (number_of v) (number_of v') line ctx w2))
      (λ v w' k'. WordIn k'.temporaries w'.made ta NumberSort v) (λ y w' k'. SetIn x (combine_sets Union s y) k') la
      (omega arith) (omega arith) (omega arith)
      (expr_runs_from p n call c active a fa ta (x + 32) o w k pc cut.0 NumberSort alive
      (opened_kept p c d x ta w w k k o la (keeps_refl d x w k) opened) fits.0 cut.1)
      (λ v w1 k1 alive1 kept1 r1.
      runs_bind p (suc n) c d x tb (x + 32) d x w1 k1 cut.0 cut2.0 pc' (value call b ctx w1)
      (λ v' w2. set_between (number_of v) (number_of v') line ctx w2)
      (λ v' w' k'. WordIn k'.temporaries w'.made tb NumberSort v') (λ y w' k'. SetIn x (combine_sets Union s y) k')
      (omega (arith, la, lb)) (omega arith) (omega arith) (omega arith)
      (expr_runs_from p n call c active b fb tb (x + 32) o w1 k1 cut.0 cut2.0 NumberSort alive1
      (opened_kept p c d (x + 32) tb w w1 k k1 o (omega (arith, la, lb))
      (keeps_less d (x + 32) ta (x + 32) la (omega arith) kept1) opened) fits.1 cut.2)
      (λ v' w2 k2 alive2 kept2 r2.
      let y = number_of v in
      let z = number_of v' in
      let kept = set_kept x tb (x + 32) s w1 w2 k1 k2 (omega arith) kept2
      (set_kept x ta (x + 32) s w w1 k k1 (omega arith) kept1 set) in
      order d x o s ta tb line w2 k2 cut2.0 pc' y z (omega (arith, la, lb)) (omega (arith, lb)) alive2
      (kept2.temporaries ta (omega (arith, lb)) ∙ r1.word) r2.word kept cut2.2 (int_lt z y) refl))
    where
      order : (d x : ℕ) (o : Opening) (s : ℕ → Bool) (ta tb line : ℕ) (w : World) (k : Work) (pc pc' : ℕ) (y z : ℤ)
          → d ≤ tb → ta < tb → Alive p c w k → k.temporaries ta ≡ Some (Numeral y) → k.temporaries tb ≡ Some (Numeral z)
          → SetIn x s k → Stands (code_in p) c.routine pc (range_members (scope_in p c o) ta tb x line) pc' → (b : Bool)
          → int_lt z y ≡ b
          → Runs p (suc n) c d x w k pc pc' ((if b then give no_member_of
          else (if is_between (pos 0) y (pos 255) && is_between (pos 0) z (pos 255) then give (interval y z)
          else fault 8 line (context_in c o))) w) (λ v w' k'. SetIn x (combine_sets Union s v) k')
      order d x o s ta tb line w k pc pc' y z l ne alive at_a at_b set st true q =
          let e : suc pc + 4 ≡ suc (suc (suc (suc (suc pc)))) = omega arith in
          record {
            work = k;
            alive = alive;
            keeps = keeps_refl d x w k;
            comes = subst (λ m. Comes (machine_of p) (state p c w k pc) (state p c w k m)) (e ∙ st.1.1.1.1.1)
                (a_step (state p c w k pc) (state p c w k (suc pc + 4))
                (branch_step (machine_of p) (state p c w k pc) Less tb (operand.Temporary ta) 4 true st.0
                (ap (λ v. related Less v (k.temporaries ta)) at_b ∙ ap (related Less (Some (Numeral z))) at_a
                ∙ ap Some q)));
            result = set_as x s (combine_sets Union s no_member_of) k (λ j. sym (or-false (s j))) set;
          }
      order d x o s ta tb line w k pc pc' y z l ne alive at_a at_b set st false q =
          let step = branch_step (machine_of p) (state p c w k pc) Less tb (operand.Temporary ta) 4 false st.0
          (ap (λ v. related Less v (k.temporaries ta)) at_b ∙ ap (related Less (Some (Numeral z))) at_a ∙ ap Some q)
          in
          runs_from p (suc n) c d x w w k k pc (suc pc) pc'
          ((if is_between (pos 0) y (pos 255) && is_between (pos 0) z (pos 255) then give (interval y z)
          else fault 8 line (context_in c o)) w) (λ v w' k'. SetIn x (combine_sets Union s v) k')
          (a_step (state p c w k pc) (state p c w k (suc pc)) step) (keeps_refl d x w k)
          (first (is_between (pos 0) y (pos 255)) refl)
        where
          second : (m : ℕ) → y ≡ pos m → (b : Bool) → is_between (pos 0) z (pos 255) ≡ b → Runs p (suc n) c d x w k
              (suc (suc pc)) pc' ((if b then give (interval y z) else fault 8 line (context_in c o)) w)
              (λ v w' k'. SetIn x (combine_sets Union s v) k')
          second m is true e =
              let test = test_passage d x w k (suc (suc pc)) tb line z alive at_b e st.1.1.0 in
              let na : ta ≡ beside tb → ⊥ = λ r. omega (arith, ne, r) in
              let nb : tb ≡ beside tb → ⊥ = λ r. omega (arith, r) in
              runs_from p (suc n) c d x w w k k (suc (suc pc)) (suc (suc (suc pc))) pc' (Gives (interval y z) w)
              (λ v w' k'. SetIn x (combine_sets Union s v) k') test.comes test.keeps
              (between_added d x ta tb (beside tb) (beside tb) m s y z w k (suc (suc (suc pc))) pc' (omega (arith, l))
              (omega (arith, l)) na nb alive at_a at_b is e q set st.1.1.1)
          second m is false e = fails_so p (suc n) c active w k (suc (suc pc)) 8 line (omega arith)
              (test_fails w k (suc (suc pc)) tb line z at_b e st.1.1.0)

          first : (b : Bool) → is_between (pos 0) y (pos 255) ≡ b → Runs p (suc n) c d x w k (suc pc) pc'
              ((if b && is_between (pos 0) z (pos 255) then give (interval y z) else fault 8 line (context_in c o)) w)
              (λ v w' k'. SetIn x (combine_sets Union s v) k')
          first true e =
              let m = byte_is y e in
              let test = test_passage d x w k (suc pc) ta line y alive at_a e st.1.0 in
              runs_from p (suc n) c d x w w k k (suc pc) (suc (suc pc)) pc'
              ((if is_between (pos 0) z (pos 255) then give (interval y z) else fault 8 line (context_in c o)) w)
              (λ v w' k'. SetIn x (combine_sets Union s v) k') test.comes test.keeps
              (second m.0 m.1 (is_between (pos 0) z (pos 255)) refl)
          first false e = fails_so p (suc n) c active w k (suc pc) 8 line (omega arith)
              (test_fails w k (suc pc) ta line y at_a e st.1.0)

  pub no_members : MembersRun p n call c active does no_member
  no_members d x o w k pc pc' s alive opened set fits st = here p (suc n) c d x w k pc pc'
      (λ w' k'. SetIn x (combine_sets Union s no_member_of) k') st alive
      (set_as x s (combine_sets Union s no_member_of) k (λ j. sym (or-false (s j))) set)

  pub member_then : (m : Member) (rest : Members) → MemberRuns p n call c active does m
      → MembersRun p n call c active does rest → MembersRun p n call c active does (member_before m rest)
  member_then m rest run next d x o w k pc pc' s alive opened set fits st =
      let code = scope_in p c o in
      let ctx = context_in c o in
      let cut = split (code_in p) c.routine pc (member_code code m d x) (members_code code rest d x) pc' st in
      runs_bind p (suc n) c d x d x d x w k pc cut.0 pc' (member_value call m ctx w)
      (λ y w1. and_then (members_value call rest ctx w1) (λ z w2. Gives (combine_sets Union y z) w2))
      (λ y w' k'. SetIn x (combine_sets Union s y) k') (λ y w' k'. SetIn x (combine_sets Union s y) k')
      (omega arith) (omega arith) (omega arith) (omega arith)
      (run d x o w k pc cut.0 s alive opened set fits.0 cut.1)
      (λ y w1 k1 alive1 kept1 r1.
      runs_bind p (suc n) c d x d x d x w1 k1 cut.0 pc' pc' (members_value call rest ctx w1)
      (λ z w2. Gives (combine_sets Union y z) w2)
      (λ z w' k'. SetIn x (combine_sets Union (combine_sets Union s y) z) k')
      (λ y w' k'. SetIn x (combine_sets Union s y) k') (omega arith) (omega arith) (omega arith) (omega arith)
      (next d x o w1 k1 cut.0 pc' (combine_sets Union s y) alive1
      (opened_kept p c d x d w w1 k k1 o (omega arith) kept1 opened) r1 fits.1 cut.2)
      (λ z w2 k2 alive2 kept2 r2. here p (suc n) c d x w2 k2 pc' pc'
      (λ w' k'. SetIn x (combine_sets Union s (combine_sets Union y z)) k') refl alive2
      (set_as x (combine_sets Union (combine_sets Union s y) z) (combine_sets Union s (combine_sets Union y z)) k2
      (λ j. or_assoc (s j) (y j) (z j)) r2)))
    where
      or_assoc : (a b c : Bool) → ((a || b) || c) ≡ (a || (b || c))
      or_assoc true b c = refl
      or_assoc false b c = refl

  pub construct : (members : Members) → MembersRun p n call c active does members
      → SetRuns p n call c active does (Constructor members)
  construct members run d x o w k pc pc' alive opened fits st =
      let code = scope_in p c o in
      let ctx = context_in c o in
      let t = even_from d in
      let l : d ≤ t = even_above d in
      let cut = split (code_in p) c.routine pc (clear_code code t x) (members_code code members d x) pc' st in
      let left = cleared_so p c active does d x t w k pc cut.0 l alive cut.1 in
      runs_from p (suc n) c d x w w k left.work pc cut.0 pc' (members_value call members ctx w)
      (λ s w' k'. SetIn x s k') left.passage.comes left.passage.keeps
      (runs_map p (suc n) c d x d x w left.work cut.0 pc' (members_value call members ctx w)
      (λ y w' k'. SetIn x (combine_sets Union no_member_of y) k') (λ y w' k'. SetIn x y k') (omega arith)
      (omega arith)
      (run d x o w left.work cut.0 pc' no_member_of left.passage.alive
      (opened_kept p c d x d w w k left.work o (omega arith) left.passage.keeps opened) left.set fits cut.2)
      (λ y w' k' kept r. set_as x (combine_sets Union no_member_of y) y k' (λ j. refl) r))
