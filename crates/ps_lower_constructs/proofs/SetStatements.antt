-- Assignments of sets.
use Rattle.ps_lower_constructs.proofs.Calling.{Callable}
use Rattle.std.proofs.Common.{◌≡◌, ℕ, suc, ◌+◌, ◌*◌, ◌<◌, ◌≤◌, ℤ, Bool, true, false, List, [], ◌∷◌, ◌++◌}
use Rattle.std.proofs.Common.{refl, sym, ap, ◌∙◌, subst, arith, append-nil, lt-ltb}
use Rattle.ps_tree.specs.Tree.{Place, Variable, SetExpr, AssignSet}
use Rattle.tac_code.specs.declared.code.Base.TheVariants as base
use Rattle.tac_code.specs.declared.code.Block.{Block}
use Rattle.tac_code.specs.declared.code.Block.TheVariants.{Frame as FrameBlock, Scratch as ScratchBlock}
use Rattle.tac_code.specs.declared.code.Value.TheVariants.{Number as Numeral, Address}
use Rattle.tac_code.specs.declared.code.Instruction.TheVariants as i
use Rattle.tac_code.specs.Memory.{known, load}
use Rattle.tac_code.specs.Meaning.{Temporaries, text_at}
use Rattle.tac_code.specs.declared.code.TheConstants.{BLOCK_LIMIT}
use Rattle.ps_meaning.specs.Values.{Value, Root, Declared, Made, Spot, SetValue}
use Rattle.ps_meaning.specs.Worlds.{World, and_then, put as put_into, with_contents}
use Rattle.ps_meaning.specs.Expressions.{Caller, access, set_value, fitting_set}
use Rattle.ps_meaning.specs.Statements.{Next}
use Rattle.tac_code_steps.specs.Runs.{Stands, Comes}
use Rattle.tac_code_steps.proofs.Runs.{split, ◌>>◌}
use Rattle.tac_code_steps.proofs.Temporaries.{put_same}
use Rattle.tac_code_steps.proofs.Instructions.{offset_step}
use Rattle.ps_lower_layout.specs.Shapes.{SetShape, Whole}
use Rattle.ps_lower_relation.proofs.Spans.{goes_to}
use Rattle.ps_lower_code.specs.Scopes.{Site, even_from, odd_from, kept, held, beside, words_code}
use Rattle.ps_lower_code.specs.Calling.{selectors_call}
use Rattle.ps_lower_code.specs.Values.{place_temporary, place_site, place_code, set_code, set_check}
use Rattle.ps_lower_code.proofs.Depths.{even_above, held_above}
use Rattle.ps_lower_relation.specs.Ghosts.{RootAt, EnvAt}
use Rattle.ps_lower_relation.specs.Here.{Setting, machine_of, code_in, Work, Activated, IsActive, chain_of, Alive}
use Rattle.ps_lower_relation.specs.Here.{state, IsBelow, SiteAt}
use Rattle.ps_lower_relation.specs.Outcomes.{Reached, Runs}
use Rattle.ps_lower_relation.specs.RunTime.{CopiedUp, WritesDo}
use Rattle.ps_lower_relation.specs.Sets.{set_number}
use Rattle.ps_lower_relation.proofs.Places.{place_end}
use Rattle.ps_lower_relation.proofs.Spots.{memory_of, spot_holds}
use Rattle.ps_lower_relation.proofs.SetWords.{set_word}
use Rattle.ps_lower_relation.proofs.Copied.{copied_to}
use Rattle.ps_lower_constructs.specs.Openings.{scope_in, context_in}
use Rattle.ps_lower_constructs.specs.Tasks.{Nothing, NextRuns}
use Rattle.ps_lower_constructs.proofs.Runs.{with_temporary, runs_bind, keeps_refl, keeps_less}
use Rattle.ps_lower_constructs.proofs.Kept.{opened_kept, site_kept}
use Rattle.ps_lower_constructs.proofs.Places.{base_is}
use Rattle.ps_lower_constructs.proofs.Checks.{written_made}
use Rattle.ps_lower_constructs.proofs.InLine.{seen, in_line}
use Rattle.ps_lower_constructs.proofs.Selectors.{PlaceIn}
use Rattle.ps_lower_constructs.proofs.Passages.{word_passage, memory_with, scratch_held}
use Rattle.ps_lower_constructs.proofs.ScratchSets.{SetIn}
use Rattle.ps_lower_constructs.proofs.SetChecks.{set_checked}
use Rattle.ps_lower_constructs.proofs.Expressions.{place_run, set_runs}
use Rattle.ps_lower_constructs.proofs.Statements.{StatementRuns}

-- a variable's address that is held is where it was wanted
held_place : (q : Place) (d : ℕ) → place_temporary q (held true d) ≡ held true d
held_place (Variable name selectors) d = go (selectors_call selectors)
  where
    go : (b : Bool) → kept b (odd_from d) ≡ odd_from d
    go true = omega arith
    go false = refl

module _ (p : Setting) (c : Activated) (active : IsActive p c) (does : WritesDo p) where
  -- variables are not in the scratch block
  elsewhere : (w : World) (root : Root) (path : List ℕ) (b : Block) (o : ℕ)
      → RootAt p.program c.ghosts w.made root path b o (Whole SetShape) → ScratchBlock c.number ≡ b → ⊥
  elsewhere w (Declared name) path b o at e = absurd (cc (e ∙ at.block))
  elsewhere w (Made object) path b o at e = absurd (cc (e ∙ at.block))

  -- the state after is that of the world after
  seen_written : (w : World) (k : Work) (t : Temporaries) (pc : ℕ) (root : Root) (path : List ℕ) (v : Value)
      → seen p c w k.count t pc (memory_of p.program (with_contents w (record {
        root = root;
        path = path;
      }) v) c.ghosts (record {
        number = c.number;
        words = k.scratch;
      } ∷ c.waiting)) ≡ state p c (with_contents w (record {
        root = root;
        path = path;
      }) v) (record {
        count = k.count;
        temporaries = t;
        scratch = k.scratch;
      }) pc
  seen_written w k t pc (Declared name) path v = refl
  seen_written w k t pc (Made object) path v = refl

  -- the set from 0 on goes to the variable at a site
  set_assigned : (d t v : ℕ) (w : World) (k : Work) (pc pc' : ℕ) (site : Site) (s : Spot) (set : ℕ → Bool) → d ≤ t
      → t < v → Alive p c w k → SiteAt p c w.made k.temporaries site s (Whole SetShape) → SetIn 0 set k
      → Stands (code_in p) c.routine pc (i.Offset t site.base site.offset 32 ∷ words_code
      (base.Temporary t) 0 base.Scratch 0 v 8) pc'
      → Reached p c d 0 w k (state p c w k pc) pc' (λ w' k'. Unit {0}) (with_contents w s (SetValue set))
  set_assigned d t v w k pc pc' site s set l above alive at in_ st =
      let to = at.offset + site.offset in
      let ends = place_end p.program c.ghosts active.small w k.count alive.holds s at.block to (Whole SetShape) at.place
      in
      let one = Address at.block to in
      let a = word_passage p c active d 0 w k pc t one l alive
      (offset_step (machine_of p) (state p c w k pc) t site.base site.offset 32 at.block at.offset st.0
      (base_is c pc k.temporaries site.base ∙ at.base) (lt-ltb to BLOCK_LIMIT (omega (arith, ends)))) in
      let k1 = with_temporary k t one in
      let ne : t ≡ v → ⊥ = λ e. omega (arith, above, e) in
      let new = SetValue set in
      let w' = with_contents w s new in
      let scratch = record { number = c.number; words = k.scratch } ∷ c.waiting in
      let memory = memory_of p.program w' c.ghosts scratch in
      let m = in_.0 in
      let e = in_.1 in
      let copied = copied_to p w c.ghosts k.count alive.holds scratch s at.block to SetShape at.place
      (ScratchBlock c.number) 0 new (elsewhere w s.root s.path at.block to at.place)
      (goes_to w.made s.path new SetShape tt tt)
      (λ j low. let z : 0 + 4 * j ≡ 4 * (m + j) = omega (arith, e) in
      ap (load (text_at (code_in p)) (memory_with p c active w k.scratch) (ScratchBlock c.number)) z
      ∙ (scratch_held p c active w).reads k.scratch (m + j) (Numeral (set_number set j)) (in_.2 j low) ∙ sym
      (ap known (set_word set j low))) in
      let z : to ≡ to + 0 = omega arith in
      let copied' = subst (λ y. CopiedUp p (memory_with p c active w k.scratch) at.block y (ScratchBlock c.number)
      (0 + 0) 8 memory) z copied in
      let r = in_line p c 8 (base.Temporary t) base.Scratch 0 0 v at.block to
      (ScratchBlock c.number) 0 w k.count k1.temporaries (suc pc) pc'
      (memory_with p c active w k.scratch) memory ne tt (put_same k.temporaries t one) refl copied' st.1 in
      let k2 : Work = record { count = k.count; temporaries = r.temporaries; scratch = k.scratch } in
      let same = written_made p (suc d) c active w s.root s.path new in
      let hold = spot_holds p.program w c.ghosts k.count alive.holds s at.block to SetShape new at.place
      (goes_to w.made s.path new SetShape tt tt) in
      record {
        work = k2;
        alive = record {
          holds = hold;
          stands = subst (λ made. EnvAt p.program c.ghosts made c.env (Address (FrameBlock c.number) 0) (chain_of c))
              (sym same) alive.stands;
          room = alive.room;
        };
        keeps = record {
          temporaries = λ j low. r.others j (λ q. omega (arith, low, l, above, q)) ∙ a.keeps.temporaries j low;
          scratch = λ j low. refl;
          grown = ([], same ∙ sym (append-nil w.made));
        };
        comes = a.comes >> subst (Comes (machine_of p) (state p c w k1 (suc pc)))
            (seen_written w k r.temporaries pc' s.root s.path new) r.comes;
        result = tt;
      }

module _ (p : Setting) (n : ℕ) (call : Caller) (next : Next) (c : Activated) (active : IsActive p c)
    (nexts : NextRuns p n next) (does : WritesDo p) (calls : Callable p n call) where
  pub assign_set_run : (q : Place) (low high : ℤ) (e : SetExpr) (line : ℕ)
      → StatementRuns p n call next c active nexts does calls (AssignSet q low high e line)
  assign_set_run q low high e line d o w k pc pc' alive opened fits st =
      let code = scope_in p c o in
      let ctx = context_in c o in
      let a = held true d in
      let la : d ≤ a = held_above true d in
      let t = even_from (suc a) in
      let lt : suc a ≤ t = even_above (suc a) in
      let u = beside t in
      let site = place_site code q a in
      let P = place_code code q a 0 in
      let S = set_code code e (suc a) 0 in
      let C = set_check t 0 low high line in
      let F = i.Offset t site.base site.offset 32 ∷ [] in
      let R = words_code (base.Temporary t) 0 base.Scratch 0 u 8 in
      let cut4 = split (code_in p) c.routine pc (P ++ S ++ C ++ F) R pc' st in
      let cut3 = split (code_in p) c.routine pc (P ++ S ++ C) F cut4.0 cut4.1 in
      let cut2 = split (code_in p) c.routine pc (P ++ S) C cut3.0 cut3.1 in
      let cut = split (code_in p) c.routine pc P S cut2.0 cut2.1 in
      let same = held_place q d in
      runs_bind p (suc n) c d 0 a 0 d 0 w k pc cut.0 pc' (access call q ctx w)
      (λ s w1. and_then (set_value call e ctx w1)
      (λ x w2. and_then (fitting_set low high x line ctx w2) (λ y w3. put_into s y w3)))
      (λ s w' k'. PlaceIn p n call c active site (place_temporary q a) s (Whole SetShape) w' k') Nothing la
      (omega arith) (omega arith) (omega arith)
      (place_run p n call c active calls q a 0 o w k pc cut.0 (Whole SetShape) alive
      (opened_kept p c d 0 a w w k k o la (keeps_refl d 0 w k) opened) fits.0 cut.1)
      (λ s w1 k1 alive1 kept1 r1.
      let below = subst (λ y. IsBelow (suc y) site.base) same r1.1 in
      runs_bind p (suc n) c d 0 (suc a) 0 d 0 w1 k1 cut.0 cut2.0 pc' (set_value call e ctx w1)
      (λ x w2. and_then (fitting_set low high x line ctx w2) (λ y w3. put_into s y w3))
      (λ x w' k'. SetIn 0 x k') Nothing (omega (arith, la)) (omega arith) (omega arith) (omega arith)
      (set_runs p n call c active calls e (suc a) 0 o w1 k1 cut.0 cut2.0 alive1
      (opened_kept p c d 0 (suc a) w w1 k k1 o (omega (arith, la))
      (keeps_less d 0 a 0 la (omega arith) kept1) opened) fits.1 cut.2)
      (λ x w2 k2 alive2 kept2 r2.
      let at2 = site_kept p c (suc a) 0 w1 w2 k1 k2 site s (Whole SetShape) below kept2 r1.0 in
      runs_bind p (suc n) c d 0 (suc a) 0 d 0 w2 k2 cut2.0 cut3.0 pc' (fitting_set low high x line ctx w2)
      (λ y w3. put_into s y w3) (λ y w' k'. (y ≡ SetValue x) × SetIn 0 x k') Nothing (omega (arith, la))
      (omega arith) (omega arith) (omega arith)
      (set_checked p (suc n) c active (suc a) 0 t line low high o x w2 k2 cut2.0 cut3.0 lt alive2 r2 cut2.2)
      (λ y w3 k3 alive3 kept3 r3.
      let at3 = site_kept p c (suc a) 0 w2 w3 k2 k3 site s (Whole SetShape) below kept3 at2 in
      subst (λ z. Runs p (suc n) c d 0 w3 k3 cut3.0 pc' (put_into s z w3) Nothing) (sym r3.0)
      (set_assigned p c active does d t u w3 k3 cut3.0 pc' site s x (omega (arith, la, lt))
      (omega arith) alive3 at3 r3.1 (
        cut3.2.0,
        subst (λ z. Stands (code_in p) c.routine z R pc')
            (sym cut3.2.1) cut4.2,
      )))))
