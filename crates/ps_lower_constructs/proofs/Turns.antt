-- For statements.
use Rattle.ps_lower_constructs.proofs.Calling.{Callable}
use Rattle.std.proofs.Common.{◌≡◌, ℕ, suc, ◌+◌, ◌*◌, ◌≤◌, ℤ, Bool, true, false, not, if◌then◌else◌, IsTrue, [], ◌∷◌}
use Rattle.std.proofs.Common.{◌++◌, length, Option, Some, None, refl, sym, ap, ◌∙◌, subst, arith}
use Rattle.ps_tree.specs.declared.tree.operators.Range.TheVariants.{Within}
use Rattle.ps_tree.specs.declared.tree.operators.Direction.{Direction}
use Rattle.ps_tree.specs.declared.tree.operators.Direction.TheVariants.{To, Downto}
use Rattle.ps_tree.specs.Tree.{Expr, Statement, For}
use Rattle.tac_code.specs.declared.code.Value.{Value as Word}
use Rattle.tac_code.specs.declared.code.Value.TheVariants.{Number as Numeral, Address, Routine as RoutineWord}
use Rattle.tac_code.specs.declared.code.Operand.TheVariants as operand
use Rattle.tac_code.specs.declared.code.Base.TheVariants as base
use Rattle.tac_code.specs.declared.code.Relation.TheVariants.{NotEqual}
use Rattle.tac_code.specs.declared.code.BitOperator.TheVariants as bit
use Rattle.tac_code.specs.declared.code.Instruction.TheVariants as i
use Rattle.tac_code.specs.Numbers.{is_integer, bits, compared}
use Rattle.tac_code.specs.Meaning.{text_at, goes_on, goes_to, related, operand_value}
use Rattle.ps_meaning.specs.Values.{Value, OrdinalValue, number_of}
use Rattle.ps_meaning.specs.Operators.{is_between, is_equal}
use Rattle.ps_meaning.specs.Worlds.{spot_in, frame_of, contents_in, World, Answer, Gives, Act, Done, done, and_then}
use Rattle.ps_meaning.specs.Worlds.{give, fault, put, with_contents, ◌>>◌}
use Rattle.ps_meaning.specs.Expressions.{Caller, value, fitting}
use Rattle.ps_meaning.specs.Statements.{Further, Next, succeeding, is_past, own_spot, act, turn}
use Rattle.tac_code_steps.specs.Runs.{step_of, Stands, Leads, Comes}
use Rattle.tac_code_steps.proofs.Runs.{split, stands_length, a_step, one_turn, leads_comes}
use Rattle.tac_code_steps.proofs.Pieces.{some_none}
use Rattle.tac_code_steps.proofs.Instructions.{trap_step, bits_step, load_step, jump_step, branch_step}
use Rattle.ps_lower_layout.specs.Shapes.{NumberShape, Whole}
use Rattle.ps_lower_layout.specs.Paths.{NumberSort, KeepsAt}
use Rattle.ps_lower_layout.specs.Frames.{Own}
use Rattle.tac_code.specs.Memory.{load}
use Rattle.tac_code_steps.proofs.Temporaries.{put_same}
use Rattle.ps_lower_code.specs.Scopes.{kind_at, held, operand_of, operand_check, unless_known, even_from, check_code}
use Rattle.ps_lower_code.specs.Calling.{expr_calls, statement_calls}
use Rattle.ps_lower_code.specs.Values.{literal_of}
use Rattle.ps_lower_code.specs.Statements.{expr_code, step_number, past_relation, body_depth, turns_code, for_code}
use Rattle.ps_lower_code.specs.Statements.{statement_code}
use Rattle.ps_lower_code.proofs.Depths.{even_above, held_above}
use Rattle.ps_lower_relation.specs.Ghosts.{PlaceAt}
use Rattle.tac_code.specs.declared.code.Block.TheVariants.{Frame as FrameBlock}
use Rattle.ps_lower_relation.specs.Here.{Setting, machine_of, code_in, costs_in, Work, Activated, IsActive, Alive}
use Rattle.ps_lower_relation.specs.Here.{state, WordIn, SiteAt}
use Rattle.ps_lower_relation.specs.Outcomes.{Reached, Runs}
use Rattle.ps_lower_relation.proofs.Numbers.{same_numbers, steps_on, succeeding_integer}
use Rattle.ps_lower_relation.proofs.Spots.{spot_value, spot_read}
use Rattle.ps_lower_constructs.specs.Openings.{plain_scope, Opening, scope_in, context_in, IsOpened}
use Rattle.ps_lower_constructs.proofs.Runs.{with_temporary, keeps_put, runs_word, outcome_after, reached_from}
use Rattle.ps_lower_constructs.proofs.Runs.{runs_bind, runs_map, runs_from, runs_told, here, keeps_refl, keeps_trans}
use Rattle.ps_lower_constructs.proofs.Runs.{keeps_less}
use Rattle.ps_lower_constructs.proofs.Places.{entry_there}
use Rattle.ps_lower_constructs.proofs.Kept.{opened_kept}
use Rattle.ps_lower_constructs.proofs.Leaves.{fails_so}
use Rattle.ps_lower_constructs.proofs.Values.{OperandIn, operand_runs, known_is}
use Rattle.ps_lower_constructs.proofs.Expressions.{front_runs, expr_runs}
use Rattle.ps_lower_constructs.specs.Tasks.{Nothing, IsHeld, own_site, TurnStands, TaskFits, NextRuns}
use Rattle.ps_lower_constructs.proofs.Checks.{check_runs, store_runs}
use Rattle.ps_lower_relation.specs.RunTime.{WritesDo}
use Rattle.ps_lower_constructs.proofs.Statements.{StatementRuns, if_not, operand_kept, sooner, test_back}

module _ (p : Setting) (n : ℕ) (call : Caller) (next : Next) (c : Activated) (active : IsActive p c)
    (nexts : NextRuns p n next) (does : WritesDo p) (calls : Callable p n call) where
  -- ---- `for`

  abbrev Control : Opening → ℕ → Type 0
  Control o variable = (first : ℤ) × ((narrow : Bool)
      × (kind_at (plain_scope p c) 0 variable ≡ Some (Own (NumberShape first narrow))))

  -- the control variable's place
  control_at : (o : Opening) (w : World) (k : Work) (variable : ℕ) → Alive p c w k → (v : Control o variable)
      → SiteAt p c w.made k.temporaries (own_site p c o variable) (spot_in (frame_of c.env) variable)
      (Whole (NumberShape v.0 v.1.0))
  control_at o w k variable alive v =
      let e = entry_there p n c o w k 0 variable base.Frame (Own (NumberShape v.0 v.1.0)) alive (omega arith)
      (Address (FrameBlock c.number) 0, refl, alive.stands) v.1.1 in
      record {
        block = FrameBlock e.ghost.number;
        offset = 0;
        base = e.is;
        place = subst (λ z. PlaceAt p.program c.ghosts w.made z (FrameBlock e.ghost.number)
            (0 + (own_site p c o variable).offset) (Whole (NumberShape v.0 v.1.0))) (sym e.entry_is.2) (record {
              ghost = e.ghost;
              index = variable;
              shape = NumberShape v.0 v.1.0;
              place = e.place;
              inner = 0;
              block = refl;
              there = e.there;
              slot = e.entry_is.1;
              stands = e.stands;
              inside = (refl, refl);
              offset = let f = e.offset in omega (arith, f);
            });
      }

  -- it is not a component
  control_keeps : (o : Opening) (w : World) (k : Work) (variable : ℕ) → Alive p c w k → (v : Control o variable)
      (x : Value) → KeepsAt (spot_in (frame_of c.env) variable).path x (NumberShape v.0 v.1.0)
  control_keeps o w k variable alive v x =
      let e = entry_there p n c o w k 0 variable base.Frame (Own (NumberShape v.0 v.1.0)) alive (omega arith)
      (Address (FrameBlock c.number) 0, refl, alive.stands) v.1.1 in
      subst (λ z. KeepsAt z.path x (NumberShape v.0 v.1.0)) (sym e.entry_is.2) tt

  -- the body and the next turn, from where the body is
  further_run : (variable : ℕ) (direction : Direction) (last : ℤ) (s : Statement)
      → StatementRuns p n call next c active nexts does calls s → (d : ℕ)
      (o : Opening) (w : World) (k : Work) (pc pc' : ℕ) → Alive p c w k → IsOpened p c w k d o → TaskFits p c o
      (Further variable direction last s) → (t : TurnStands p c o variable direction last s d k pc pc')
      → Runs p n c d 0 w k (suc (suc t.start)) pc'
      ((act p.program (costs_in p) call next s (context_in c o) >> next (Further variable direction last s)
      (context_in c o)) w) Nothing
  further_run variable direction last s rs d o w k pc pc' alive opened fits t =
      let ctx = context_in c o in
      let a = t.above in
      runs_bind p n c d 0 t.depth 0 d 0 w k (suc (suc t.start)) pc pc' (act p.program (costs_in p) call next s ctx w)
      (λ u w1. next (Further variable direction last s) ctx w1) Nothing Nothing a (omega arith) (omega arith)
      (omega arith)
      (sooner p n call next c active nexts does calls t.depth 0 w k (suc (suc t.start)) pc
      (act p.program (costs_in p) call next s ctx w) Nothing
      (rs t.depth o w k (suc (suc t.start)) pc alive
      (opened_kept p c d 0 t.depth w w k k o a (keeps_refl d 0 w k) opened) fits.1 t.body))
      (λ u w1 k1 alive1 kept1 y.
      nexts c active (Further variable direction last s) d o w1 k1 pc pc' alive1
      (opened_kept p c d 0 d w w1 k k1 o (omega arith) (keeps_less d 0 t.depth 0 a (omega arith) kept1) opened) fits
      (record {
        start = t.start;
        depth = t.depth;
        t = t.t;
        limit = t.limit;
        above = t.above;
        free = t.free;
        limit_is = operand_kept t.depth 0 w w1 k k1 t.limit t.limit_held kept1 ∙ t.limit_is;
        limit_held = t.limit_held;
        step = t.step;
        body = t.body;
        test = t.test;
      }))

  pub turn_run : (variable : ℕ) (direction : Direction) (last : ℤ) (s : Statement)
      → StatementRuns p n call next c active nexts does calls s → (d : ℕ)
      (o : Opening) (w : World) (k : Work) (pc pc' : ℕ) → Alive p c w k → IsOpened p c w k d o → TaskFits p c o
      (Further variable direction last s) → TurnStands p c o variable direction last s d k pc pc'
      → Runs p (suc n) c d 0 w k pc pc' (turn p.program (costs_in p) call next variable direction last s
      (context_in c o) w) Nothing
  turn_run variable direction last s rs d o w k pc pc' alive opened fits t =
      let ctx = context_in c o in
      let spot = own_spot variable ctx in
      let v = contents_in w spot in
      let x = number_of v in
      let at = control_at o w k variable alive fits.0 in
      let shape = NumberShape fits.0.0 fits.0.1.0 in
      let site = own_site p c o variable in
      let whole = spot_value p.program w c.ghosts k.count alive.holds spot at.block
      (at.offset + site.offset) shape at.place in
      let z : at.offset + site.offset ≡ at.offset + site.offset + 4 * 0 = omega arith in
      let m = (state p c w k pc).memory in
      let loaded : load (text_at (code_in p)) m at.block (at.offset + site.offset) ≡ Some
      (Numeral x) = ap (load (text_at (code_in p)) m at.block) z
      ∙ spot_read p.program w c.ghosts k.count alive.holds (text_at (code_in p)) (record {
        number = c.number;
        words = k.scratch;
      } ∷ c.waiting) spot at.block (at.offset + site.offset) shape 0 at.place (omega arith) in
      let k1 = with_temporary k t.t (Numeral x) in
      let free = t.free in
      let above = t.above in
      let kept1 = keeps_put t.depth 0 w k t.t (Numeral x) free in
      let limit = operand_kept t.depth 0 w w k k1 t.limit t.limit_held kept1 ∙ t.limit_is in
      let next_value = succeeding direction x in
      let again : Act Done = put spot (OrdinalValue next_value) >>
      (act p.program (costs_in p) call next s ctx >> next (Further variable direction last s) ctx) in
      let S = statement_code (scope_in p c o) s t.depth in
      let ls = stands_length (code_in p) c.routine (suc (suc t.start)) S pc t.body in
      let tests : related NotEqual (k1.temporaries t.t) (operand_value k1.temporaries t.limit) ≡ Some
      (not (is_equal x last)) = ap (λ q. related NotEqual q (operand_value k1.temporaries t.limit))
      (put_same k.temporaries t.t (Numeral x)) ∙ ap (related NotEqual (Some (Numeral x))) limit
      ∙ ap (λ b. Some (not b)) (same_numbers x last) in
      runs_word p (suc n) c d 0 w k pc (suc pc) pc' t.t (Numeral x)
      ((if is_equal x last then give done else again) w) Nothing
      (load_step (machine_of p) (state p c w k pc) t.t base.Frame site.offset at.block at.offset
      (Numeral x) t.test.0 at.base loaded) refl (omega (arith, free, above)) alive
      (λ alive1.
      subst (λ a. Runs p (suc n) c d 0 w k1 (suc pc) pc' a Nothing)
      (sym (if_not p n call next c active nexts does calls (is_equal x last) (give done) again w))
      (test_back p n call next c active nexts does calls d w k1 (suc pc) pc' t.start (length S + 3) NotEqual t.t t.limit
      (not (is_equal x last)) again tests t.test.1 (omega (arith, ls)) alive1
      (stepped w k1 x whole alive1 (put_same k.temporaries t.t (Numeral x)) limit
      (opened_kept p c d 0 d w w k k1 o (omega arith)
      (keeps_less d 0 t.depth 0 above (omega arith) kept1) opened))))
    where
      stepped : (w : World) (k1 : Work) (x : ℤ) → IsTrue (is_integer x) → Alive p c w k1 → k1.temporaries t.t ≡ Some
          (Numeral x) → operand_value k1.temporaries t.limit ≡ Some (Numeral last) → IsOpened p c w k1 d o
          → Runs p n c d 0 w k1 t.start pc' ((put (own_spot variable (context_in c o))
          (OrdinalValue (succeeding direction x)) >>
          (act p.program (costs_in p) call next s (context_in c o) >> next (Further variable direction last s)
          (context_in c o))) w) Nothing
      stepped w k1 x well alive1 there limit opened1 =
          let ctx = context_in c o in
          let spot = own_spot variable ctx in
          let site = own_site p c o variable in
          let next_value = succeeding direction x in
          let z = bits bit.Plus x (step_number direction) in
          let k2 = with_temporary k1 t.t (Numeral z) in
          let free = t.free in
          let above = t.above in
          let kept2 = keeps_put t.depth 0 w k1 t.t (Numeral z) free in
          let w' = with_contents w spot (OrdinalValue next_value) in
          let rest = (act p.program (costs_in p) call next s ctx >> next (Further variable direction last s) ctx) w' in
          runs_word p n c d 0 w k1 t.start (suc t.start) pc' t.t (Numeral z) rest Nothing
          (bits_step (machine_of p) (state p c w k1 t.start) bit.Plus t.t t.t
          (operand.Number (step_number direction)) x (step_number direction) t.step.0 there refl) refl
          (omega (arith, free, above)) alive1
          (λ alive2.
          let word = put_same k1.temporaries t.t (Numeral z) ∙ ap (λ y. Some (Numeral y)) (steps_on direction x well) in
          let r = store_runs p n c active t.depth 0 w k2 (suc t.start) (suc (suc t.start)) t.t site spot
          (NumberShape fits.0.0 fits.0.1.0) (OrdinalValue next_value) NumberSort alive2
          (control_at o w k2 variable alive2 fits.0) refl (record {
            word = word;
            fits = succeeding_integer direction x well;
          }) (control_keeps o w k2 variable alive2 fits.0 (OrdinalValue next_value)) t.step.1 in
          let kept3 = keeps_trans kept2 r.keeps in
          runs_from p n c d 0 w w' k2 r.work (suc t.start) (suc (suc t.start)) pc' rest Nothing r.comes
          (keeps_less d 0 t.depth 0 above (omega arith) r.keeps)
          (further_run variable direction last s rs d o w' r.work pc pc' r.alive
          (opened_kept p c d 0 d w w' k1 r.work o (omega arith)
          (keeps_less d 0 t.depth 0 above (omega arith) kept3) opened1) fits
          (record {
            start = t.start;
            depth = t.depth;
            t = t.t;
            limit = t.limit;
            above = t.above;
            free = t.free;
            limit_is = operand_kept t.depth 0 w w' k1 r.work t.limit t.limit_held kept3 ∙ limit;
            limit_held = t.limit_held;
            step = t.step;
            body = t.body;
            test = t.test;
          })))

  -- one more instruction, which costs a fuel
  runs_after : {A : Type 0} (d x : ℕ) (w : World) (k : Work) (pc mid pc' : ℕ) (a : Answer A)
      (R : A → World → Work → Type 0) → Leads (machine_of p) (state p c w k pc) (state p c w k mid)
      → Runs p n c d x w k mid pc' a R → Runs p (suc n) c d x w k pc pc' a R
  runs_after d x w k pc mid pc' a R lead r =
      outcome_after n (state p c w k pc) (state p c w k mid) a
      (λ v w'. Reached p c d x w k (state p c w k mid) pc' (R v) w')
      (λ v w'. Reached p c d x w k (state p c w k pc) pc' (R v) w') lead r
      (λ v w' z. reached_from p n c d x d x w w k k (state p c w k pc) (state p c w k mid) pc' (R v) (R v) w'
      (omega arith) (omega arith) (leads_comes lead) (keeps_refl d x w k) z (λ k' a' y. y))

  -- a limit is tested, be it known or in t
  limit_runs : (d x : ℕ) (o : Opening) (w : World) (k : Work) (pc pc' t : ℕ) (low high : ℤ) (line : ℕ)
      (literal : Option ℤ) (v : Value) → Alive p c w k → OperandIn p n call c active literal t v w k → Stands
      (code_in p) c.routine pc (operand_check literal t low high 4 line) pc'
      → Runs p (suc n) c d x w k pc pc' (fitting (Within low high) v line (context_in c o) w) (λ u w' k'. Unit {0})
  limit_runs d x o w k pc pc' t low high line None v alive r st =
      runs_map p (suc n) c d x d x w k pc pc' (fitting (Within low high) v line (context_in c o) w)
      (λ u w' k'. (u ≡ v) × WordIn k'.temporaries w'.made t NumberSort v
      × (is_between low (number_of v) high ≡ true)) (λ u w' k'. Unit {0}) (omega arith) (omega arith)
      (check_runs p (suc n) c active d x o w k pc pc' t low high 4 line None v (omega arith) alive (λ z q. some_none q)
      (record {
        word = r.0;
        fits = r.1;
      }) st) (λ u w' k' a' y. tt)
  limit_runs d x o w k pc pc' t low high line (Some z) v alive r st = go (is_between low z high) refl st
    where
      same : number_of v ≡ z
      same = sym (ap (λ q. elim q as (λ y. ℤ) [ Some u ↦ number_in u | None ↦ z ]) r.0)
        where
          number_in : Word → ℤ
          number_in (Numeral y) = y
          number_in (Address bl of) = z
          number_in (RoutineWord q) = z

      go : (b : Bool) → is_between low z high ≡ b → Stands (code_in p) c.routine pc
          (if b then [] else (i.Trap 4 line ∷ [])) pc' → Runs p (suc n) c d x w k pc pc'
          (fitting (Within low high) v line (context_in c o) w) (λ u w' k'. Unit {0})
      go true e h = subst (λ q. Runs p (suc n) c d x w k pc pc'
          ((if q then give v else fault 4 line (context_in c o)) w) (λ u w' k'. Unit {0}))
          (sym (ap (λ y. is_between low y high) same ∙ e))
          (here p (suc n) c d x w k pc pc' (λ w' k'. Unit {0}) h alive tt)
      go false e h = subst (λ q. Runs p (suc n) c d x w k pc pc'
          ((if q then give v else fault 4 line (context_in c o)) w) (λ u w' k'. Unit {0}))
          (sym (ap (λ y. is_between low y high) same ∙ e))
          (fails_so p (suc n) c active w k pc 4 line (omega arith)
          (trap_step (machine_of p) (state p c w k pc) 4 line h.0))

  past_same : (direction : Direction) (x y : ℤ) → compared (past_relation direction) x y ≡ is_past direction x y
  past_same To x y = refl
  past_same Downto x y = refl

  limit_held : (literal : Option ℤ) (d t : ℕ) → IsHeld (body_depth literal d t) (operand_of literal t)
  limit_held None d t = omega arith
  limit_held (Some z) d t = tt

  depth_above : (literal : Option ℤ) (d t : ℕ) → d ≤ t → d ≤ body_depth literal d t
  depth_above None d t l = omega arith
  depth_above (Some z) d t l = omega arith

  held_limit : (literal : Option ℤ) (t : ℕ) → IsHeld (suc t) (operand_of literal t)
  held_limit None t = omega arith
  held_limit (Some z) t = tt

  pub for_run : (variable : ℕ) (low high : ℤ) (a : Expr) (fl : ℕ) (direction : Direction) (b : Expr) (tl : ℕ)
      (s : Statement) → StatementRuns p n call next c active nexts does calls s
      → StatementRuns p n call next c active nexts does calls (For variable low high a fl direction b tl s)
  for_run variable low high a fl direction b tl s rs d o w k pc pc' alive opened fits st =
      let code = scope_in p c o in
      let ctx = context_in c o in
      let lit = literal_of b in
      let ta = held (expr_calls b) d in
      let la : d ≤ ta = held_above (expr_calls b) d in
      let tb = held (statement_calls s) (suc ta) in
      let lb : suc ta ≤ tb = held_above (statement_calls s) (suc ta) in
      let db = body_depth lit d tb in
      let t = even_from db in
      let lt : db ≤ t = even_above db in
      let limit = operand_of lit tb in
      let site = own_site p c o variable in
      let S = statement_code code s db in
      let C = check_code (literal_of a) ta low high 4 fl ++ operand_check lit tb low high 4 tl in
      let T = turns_code direction limit site.offset t S in
      let cut = split (code_in p) c.routine pc (expr_code code a ta 0 ++ unless_known lit (expr_code code b tb 0))
      (for_code direction ta limit site.offset t C S) pc' st in
      let cut0 = split (code_in p) c.routine pc (expr_code code a ta 0)
      (unless_known lit (expr_code code b tb 0)) cut.0 cut.1 in
      let m = cut.0 in
      let cutC = split (code_in p) c.routine (suc m) C (i.Store base.Frame site.offset ta ∷ i.Jump 2 ∷ T) pc' cut.2.1 in
      let cutC0 = split (code_in p) c.routine (suc m) (check_code (literal_of a) ta low high 4 fl)
      (operand_check lit tb low high 4 tl) cutC.0 cutC.1 in
      let q = cutC.0 in
      let turns = cutC.2.1.1 in
      let body = split (code_in p) c.routine (suc (suc (suc (suc q)))) S
      (i.Load t base.Frame site.offset ∷ i.BranchBack NotEqual t limit (length S + 3) ∷ []) pc' turns.1.1 in
      let lc = stands_length (code_in p) c.routine (suc m) C q cutC.1 in
      let ls = stands_length (code_in p) c.routine (suc (suc (suc (suc q)))) S body.0 body.1 in
      let le = body.2.1.1 in
      let rest : Value → Value → Act Done = λ x y.
      (if is_past direction (number_of x) (number_of y) then give done
      else (λ w0. and_then (fitting (Within low high) x fl ctx w0)
      (λ u w1. and_then (fitting (Within low high) y tl ctx w1)
      (λ v w2. (put (own_spot variable ctx) x >>
      (act p.program (costs_in p) call next s ctx >> next (Further variable direction (number_of y) s) ctx)) w2))))
      in
      runs_bind p (suc n) c d 0 ta 0 d 0 w k pc cut0.0 pc' (value call a ctx w)
      (λ x w1. and_then (value call b ctx w1) (λ y w2. rest x y w2))
      (λ v w' k'. WordIn k'.temporaries w'.made ta NumberSort v
      × ((v0 : Value) (w0 : World) → value call a ctx w ≡ Gives v0 w0 → v ≡ v0)) Nothing la (omega arith)
      (omega arith) (omega arith)
      (runs_told p (suc n) c ta 0 w k pc cut0.0 (value call a ctx w)
      (λ v w' k'. WordIn k'.temporaries w'.made ta NumberSort v)
      (expr_runs p n call c active calls a ta 0 o w k pc cut0.0 NumberSort alive
      (opened_kept p c d 0 ta w w k k o la (keeps_refl d 0 w k) opened) fits.1 cut0.1))
      (λ x w1 k1 alive1 kept1 r1.
      let open1 = opened_kept p c d 0 d w w1 k k1 o (omega arith) (keeps_less d 0 ta 0 la (omega arith) kept1) opened in
      runs_bind p (suc n) c d 0 tb 0 d 0 w1 k1 cut0.0 m pc' (value call b ctx w1) (λ y w2. rest x y w2)
      (λ y w' k'. OperandIn p n call c active lit tb y w' k') Nothing (omega (arith, la, lb)) (omega arith)
      (omega arith) (omega arith)
      (operand_runs p n call c active b (front_runs p n call c active calls b) tb 0 o w1 k1 cut0.0 m alive1
      (opened_kept p c d 0 tb w1 w1 k1 k1 o (omega (arith, la, lb)) (keeps_refl d 0 w1 k1) open1) fits.2 cut0.2)
      (λ y w2 k2 alive2 kept2 r2.
      let first_word : WordIn k2.temporaries w2.made ta NumberSort x = record {
        word = kept2.temporaries ta (omega (arith, lb)) ∙ r1.0.word;
        fits = r1.0.fits;
      } in
      let open2 = opened_kept p c d 0 d w1 w2 k1 k2 o (omega arith)
      (keeps_less d 0 tb 0 (omega (arith, la, lb)) (omega arith) kept2) open1 in
      let past = is_past direction (number_of x) (number_of y) in
      let tests : related (past_relation direction) (k2.temporaries ta) (operand_value k2.temporaries limit)
      ≡ Some past = ap (λ z. related (past_relation direction) z (operand_value k2.temporaries limit))
      first_word.word ∙ ap (related (past_relation direction) (Some (Numeral (number_of x)))) r2.0 ∙ ap Some
      (past_same direction (number_of x) (number_of y)) in
      let branch = branch_step (machine_of p) (state p c w2 k2 m) (past_relation direction) ta limit
      (length C + length S + 6) past cut.2.0 tests in
      choose past w2 k2 m pc' (length C + length S + 6) x y low high fl tl branch (omega (arith, lc, ls, le)) alive2
      (runs_bind p (suc n) c d 0 (suc tb) 0 d 0 w2 k2 (suc m) cutC0.0 pc' (fitting (Within low high) x fl ctx w2)
      (λ u w3. and_then (fitting (Within low high) y tl ctx w3)
      (λ v w4. (put (own_spot variable ctx) x >>
      (act p.program (costs_in p) call next s ctx >> next (Further variable direction (number_of y) s) ctx)) w4))
      (λ u w' k'. (u ≡ x) × WordIn k'.temporaries w'.made ta NumberSort x
      × (is_between low (number_of x) high ≡ true)) Nothing (omega (arith, la, lb)) (omega arith) (omega arith)
      (omega arith)
      (check_runs p (suc n) c active (suc tb) 0 o w2 k2 (suc m) cutC0.0 ta low high 4 fl (literal_of a) x
      (omega arith) alive2 (λ z ql. let known_ = known_is p n call c active a z o w ql fits.1 in ap number_of
      (r1.1 known_.v w known_.gives_it) ∙ known_.is) first_word cutC0.1)
      (λ u w3 k3 alive3 kept3 r3.
      let limit3 = operand_kept (suc tb) 0 w2 w3 k2 k3 limit (held_limit lit tb) kept3 ∙ r2.0 in
      runs_bind p (suc n) c d 0 (suc tb) 0 d 0 w3 k3 cutC0.0 q pc' (fitting (Within low high) y tl ctx w3)
      (λ v w4. (put (own_spot variable ctx) x >>
      (act p.program (costs_in p) call next s ctx >> next (Further variable direction (number_of y) s) ctx)) w4)
      (λ v w' k'. Unit {0}) Nothing (omega (arith, la, lb)) (omega arith) (omega arith) (omega arith)
      (limit_runs (suc tb) 0 o w3 k3 cutC0.0 q tb low high tl lit y alive3 (limit3, r2.1) cutC0.2)
      (λ v w4 k4 alive4 kept4 r4.
      let kept34 = keeps_trans kept3 kept4 in
      let open4 = opened_kept p c d 0 d w2 w4 k2 k4 o (omega arith)
      (keeps_less d 0 (suc tb) 0 (omega (arith, la, lb)) (omega arith) kept34) open2 in
      let limit4 = operand_kept (suc tb) 0 w3 w4 k3 k4 limit (held_limit lit tb) kept4 ∙ limit3 in
      let word4 : WordIn k4.temporaries w4.made ta NumberSort x = record {
        word = kept4.temporaries ta (omega (arith, lb)) ∙ r3.1.word;
        fits = r3.1.fits;
      } in
      let r = store_runs p (suc n) c active (suc tb) 0 w4 k4 q (suc q) ta site (own_spot variable ctx)
      (NumberShape fits.0.0 fits.0.1.0) x NumberSort alive4 (control_at o w4 k4 variable alive4 fits.0) refl word4
      (control_keeps o w4 k4 variable alive4 fits.0 x) (cutC.2.0, refl) in
      let w5 = with_contents w4 (own_spot variable ctx) x in
      let again = (act p.program (costs_in p) call next s ctx >> next (Further variable direction (number_of y) s) ctx)
      w5 in
      let there : suc (suc q) + 2 ≡ suc (suc (suc (suc q))) = omega arith in
      runs_from p (suc n) c d 0 w4 w5 k4 r.work q (suc q) pc' again Nothing r.comes
      (keeps_less d 0 (suc tb) 0 (omega (arith, la, lb)) (omega arith) r.keeps)
      (runs_after d 0 w5 r.work (suc q) (suc (suc (suc (suc q)))) pc' again Nothing
      (subst (λ z. Leads (machine_of p) (state p c w5 r.work (suc q)) (state p c w5 r.work z)) there
      (one_turn (state p c w5 r.work (suc q)) (state p c w5 r.work (suc (suc q) + 2)) (i.Jump 2) cutC.2.1.0 refl
      (jump_step (machine_of p) (state p c w5 r.work (suc q)) 2 cutC.2.1.0)))
      (further_run variable direction (number_of y) s rs d o w5 r.work body.0 pc' r.alive
      (opened_kept p c d 0 d w4 w5 k4 r.work o (omega arith)
      (keeps_less d 0 (suc tb) 0 (omega (arith, la, lb)) (omega arith) r.keeps) open4) (fits.0, fits.3)
      (record {
        start = suc (suc q);
        depth = db;
        t = t;
        limit = limit;
        above = depth_above lit d tb (omega (arith, la, lb));
        free = lt;
        limit_is = operand_kept (suc tb) 0 w4 w5 k4 r.work limit (held_limit lit tb) r.keeps ∙ limit4;
        limit_held = limit_held lit d tb;
        step = (turns.0, (turns.1.0, refl));
        body = body.1;
        test = body.2;
      }))))))))
    where
      choose : (past : Bool) (w : World) (k : Work) (m pc' far : ℕ) (x y : Value) (low high : ℤ) (fl tl : ℕ) → step_of
          (machine_of p) (state p c w k m) ≡ (if past then goes_to (suc m + far) (state p c w k m) else goes_on
          (state p c w k m)) → suc m + far ≡ pc' → Alive p c w k → Runs p (suc n) c d 0 w k (suc m) pc'
          (and_then (fitting (Within low high) x fl (context_in c o) w)
          (λ u w1. and_then (fitting (Within low high) y tl (context_in c o) w1)
          (λ v w2. (put (own_spot variable (context_in c o)) x >>
          (act p.program (costs_in p) call next s (context_in c o) >> next (Further variable direction (number_of y) s)
          (context_in c o))) w2))) Nothing
          → Runs p (suc n) c d 0 w k m pc' ((if past then give done
          else (λ w0. and_then (fitting (Within low high) x fl (context_in c o) w0)
          (λ u w1. and_then (fitting (Within low high) y tl (context_in c o) w1)
          (λ v w2. (put (own_spot variable (context_in c o)) x >>
          (act p.program (costs_in p) call next s (context_in c o) >> next
          (Further variable direction (number_of y) s) (context_in c o))) w2)))) w) Nothing
      choose true w k m pc' far x y low high fl tl h e alive r = record {
        work = k;
        alive = alive;
        keeps = keeps_refl d 0 w k;
        comes = subst (λ z. Comes (machine_of p) (state p c w k m) (state p c w k z)) e
            (a_step (state p c w k m) (state p c w k (suc m + far)) h);
        result = tt;
      }
      choose false w k m pc' far x y low high fl tl h e alive r = runs_from p (suc n) c d 0 w w k k m (suc m) pc'
          (and_then (fitting (Within low high) x fl (context_in c o) w)
          (λ u w1. and_then (fitting (Within low high) y tl (context_in c o) w1)
          (λ v w2. (put (own_spot variable (context_in c o)) x >>
          (act p.program (costs_in p) call next s (context_in c o) >> next (Further variable direction (number_of y) s)
          (context_in c o))) w2))) Nothing (a_step (state p c w k m) (state p c w k (suc m)) h) (keeps_refl d 0 w k) r
