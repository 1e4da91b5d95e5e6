-- The code of statements does what they mean: what they have in common, output, statements one after another.
use Rattle.ps_lower_constructs.proofs.Calling.{Callable}
use Rattle.std.proofs.Common.{◌≡◌, ℕ, suc, ◌-◌, ◌≤◌, pos, Bool, true, false, not, if◌then◌else◌, List, [], ◌∷◌, Some}
use Rattle.std.proofs.Common.{refl, sym, subst, arith, append-nil}
use Rattle.ps_tree.specs.Tree.{Variable, Statement, Writeln, Statements, no_statement, statement_before, Place}
use Rattle.ps_tree.specs.Tree.{WriteParameter, WriteInteger, WriteChar, WriteBoolean, WriteText}
use Rattle.tac_code.specs.declared.code.Value.TheVariants.{Number as Numeral}
use Rattle.tac_code.specs.declared.code.Operand.{Operand}
use Rattle.tac_code.specs.declared.code.Operand.TheVariants as operand
use Rattle.tac_code.specs.declared.code.Relation.{Relation}
use Rattle.tac_code.specs.declared.code.Instruction.TheVariants as i
use Rattle.tac_code.specs.Meaning.{related, operand_value}
use Rattle.ps_meaning.specs.Worlds.{World, Answer, Act, Done, done, give, says, write_text}
use Rattle.ps_meaning.specs.Expressions.{Caller}
use Rattle.ps_meaning.specs.Statements.{Next, act, acts, turn, write, writes}
use Rattle.tac_code_steps.specs.Runs.{Stands, Leads, Comes}
use Rattle.tac_code_steps.proofs.Runs.{split, a_step, one_turn, leads_comes}
use Rattle.tac_code_steps.proofs.Instructions.{branch_back_step, literal_step, put_step}
use Rattle.tac_code_steps.proofs.Temporaries.{put_same}
use Rattle.ps_lower_code.specs.Scopes.{even_from, Scope}
use Rattle.ps_lower_code.specs.Statements.{statement_code, statements_code, write_code, writes_code}
use Rattle.ps_lower_code.specs.Fits.{StatementFits, StatementsFit, WriteFits, WritesFit}
use Rattle.ps_lower_code.proofs.Depths.{even_above, kept_above}
use Rattle.ps_lower_relation.specs.Here.{Setting, machine_of, code_in, costs_in, Work, Activated, IsActive, Alive}
use Rattle.ps_lower_relation.specs.Here.{state, Keeps}
use Rattle.ps_lower_relation.specs.Outcomes.{Reached, Runs}
use Rattle.ps_lower_constructs.specs.Openings.{plain_scope, Opening, scope_in, context_in, IsOpened}
use Rattle.ps_lower_constructs.proofs.Runs.{with_temporary, runs_word, outcome_after, outcome_sooner, reached_from}
use Rattle.ps_lower_constructs.proofs.Runs.{runs_bind, here, passes, keeps_refl}
use Rattle.ps_lower_constructs.proofs.Kept.{opened_kept}
use Rattle.ps_lower_code.specs.Calling.{selectors_call}
use Rattle.ps_lower_code.specs.Values.{place_temporary}
use Rattle.ps_lower_constructs.specs.Tasks.{Nothing, IsHeld, NextRuns}
use Rattle.ps_lower_constructs.proofs.Output.{write_integer_run, write_char_run}
use Rattle.ps_lower_constructs.proofs.Strings.{write_boolean_run, write_text_run}
use Rattle.ps_lower_relation.specs.RunTime.{WritesDo}

-- ---- statements, over what fuel is spent on

pub place_above : (q : Place) (d : ℕ) → d ≤ place_temporary q d
place_above (Variable name selectors) d = kept_above (selectors_call selectors) d

pub operand_kept : (d x : ℕ) (w w' : World) (k k' : Work) (a : Operand) → IsHeld d a → Keeps d x w k w' k'
    → operand_value k'.temporaries a ≡ operand_value k.temporaries a
operand_kept d x w w' k k' (operand.Temporary u) h a = a.temporaries u h
operand_kept d x w w' k k' (operand.Number z) h a = refl

held_more : (d e : ℕ) (a : Operand) → d ≤ e → IsHeld d a → IsHeld e a
held_more d e (operand.Temporary u) l h = omega (arith, l, h)
held_more d e (operand.Number z) l h = tt

module _ (p : Setting) (n : ℕ) (call : Caller) (next : Next) (c : Activated) (active : IsActive p c)
    (nexts : NextRuns p n next) (does : WritesDo p) (calls : Callable p n call) where
  abbrev pub StatementRuns : Statement → Type 0
  StatementRuns s =
      (d : ℕ) (o : Opening) (w : World) (k : Work) (pc pc' : ℕ) → Alive p c w k → IsOpened p c w k d o → StatementFits
      (plain_scope p c) o.shapes s → Stands (code_in p) c.routine pc (statement_code (scope_in p c o) s d) pc'
      → Runs p (suc n) c d 0 w k pc pc' (act p.program (costs_in p) call next s (context_in c o) w) Nothing

  abbrev pub StatementsRun : Statements → Type 0
  StatementsRun ss =
      (d : ℕ) (o : Opening) (w : World) (k : Work) (pc pc' : ℕ) → Alive p c w k → IsOpened p c w k d o → StatementsFit
      (plain_scope p c) o.shapes ss → Stands (code_in p) c.routine pc (statements_code (scope_in p c o) ss d) pc'
      → Runs p (suc n) c d 0 w k pc pc' (acts p.program (costs_in p) call next ss (context_in c o) w) Nothing

  abbrev code_of : Opening → Scope
  code_of o = scope_in p c o

  -- with one fuel less
  pub sooner : {A : Type 0} (d x : ℕ) (w : World) (k : Work) (pc pc' : ℕ) (a : Answer A) (R : A → World → Work → Type 0)
      → Runs p (suc n) c d x w k pc pc' a R → Runs p n c d x w k pc pc' a R
  sooner d x w k pc pc' a R r = outcome_sooner (machine_of p) n (state p c w k pc) a
      (λ v w'. Reached p c d x w k (state p c w k pc) pc' (R v) w') r

  -- a test at the bottom of a loop: back to its start, which costs one more instruction
  pub test_back : (d : ℕ) (w : World) (k : Work) (pc pc' start m : ℕ) (r : Relation) (left : ℕ) (right : Operand)
      (b : Bool)
      (again : Act Done) → related r (k.temporaries left) (operand_value k.temporaries right) ≡ Some b → Stands
      (code_in p) c.routine pc (i.BranchBack r left right m ∷ []) pc' → pc - m ≡ start → Alive p c w k
      → Runs p n c d 0 w k start pc' (again w) Nothing → Runs p (suc n) c d 0 w k pc pc'
      ((if b then again else give done) w) Nothing
  test_back d w k pc pc' start m r left right true again h st e alive turn =
      let stepped = branch_back_step (machine_of p) (state p c w k pc) r left right m true st.0 h in
      let lead = subst (λ q. Leads (machine_of p) (state p c w k pc) (state p c w k q)) e
      (one_turn (state p c w k pc) (state p c w k (pc - m)) (i.BranchBack r left right m) st.0 refl stepped) in
      outcome_after n (state p c w k pc) (state p c w k start) (again w)
      (λ v w'. Reached p c d 0 w k (state p c w k start) pc' (Nothing v) w')
      (λ v w'. Reached p c d 0 w k (state p c w k pc) pc' (Nothing v) w') lead turn
      (λ v w' z. reached_from p n c d 0 d 0 w w k k (state p c w k pc) (state p c w k start) pc' (Nothing v)
      (Nothing v) w' (omega arith) (omega arith) (leads_comes lead) (keeps_refl d 0 w k) z (λ k' a' y. y))
  test_back d w k pc pc' start m r left right false again h st e alive turn =
      passes p (suc n) c d 0 w k pc pc' (Nothing done)
      (branch_back_step (machine_of p) (state p c w k pc) r left right m false st.0 h) st.1 alive tt

  pub if_not : (b : Bool) (x y : Act Done) (w : World) → (if b then x else y) w ≡ (if not b then y else x) w
  if_not true x y w = refl
  if_not false x y w = refl

  -- ---- output

  write_run : (q : WriteParameter) (d : ℕ) (o : Opening) (w : World) (k : Work) (pc pc' : ℕ) → Alive p c w k
      → IsOpened p c w k d o → WriteFits (plain_scope p c) o.shapes q → Stands (code_in p) c.routine pc
      (write_code (code_of o) q d) pc' → Runs p (suc n) c d 0 w k pc pc'
      (write p.program (costs_in p) call next q (context_in c o) w) Nothing
  write_run (WriteInteger e width) d o w k pc pc' alive opened fits st = write_integer_run p n call next c active does
      calls e width d o w k pc pc' alive opened fits st
  write_run (WriteChar e width) d o w k pc pc' alive opened fits st = write_char_run p n call next c active does calls e
      width d o w k pc pc' alive opened fits st
  write_run (WriteBoolean e width) d o w k pc pc' alive opened fits st = write_boolean_run p n call next c active does
      calls e width d o w k pc pc' alive opened fits st
  write_run (WriteText e width) d o w k pc pc' alive opened fits st = write_text_run p n call next c active does calls e
      width d o w k pc pc' alive opened fits st

  pub writes_run : (ps : List WriteParameter) (d : ℕ) (o : Opening) (w : World) (k : Work) (pc pc' : ℕ) → Alive p c w k
      → IsOpened p c w k d o → WritesFit (plain_scope p c) o.shapes ps → Stands (code_in p) c.routine pc
      (writes_code (code_of o) ps d) pc' → Runs p (suc n) c d 0 w k pc pc'
      (writes p.program (costs_in p) call next ps (context_in c o) w) Nothing
  writes_run [] d o w k pc pc' alive opened fits st = here p (suc n) c d 0 w k pc pc' (Nothing done) st alive tt
  writes_run (q ∷ rest) d o w k pc pc' alive opened fits st =
      let ctx = context_in c o in
      let cut = split (code_in p) c.routine pc (write_code (code_of o) q d) (writes_code (code_of o) rest d) pc' st in
      runs_bind p (suc n) c d 0 d 0 d 0 w k pc cut.0 pc' (write p.program (costs_in p) call next q ctx w)
      (λ u w1. writes p.program (costs_in p) call next rest ctx w1) Nothing Nothing (omega arith) (omega arith)
      (omega arith) (omega arith)
      (write_run q d o w k pc cut.0 alive opened fits.0 cut.1)
      (λ u w1 k1 alive1 kept1 y. writes_run rest d o w1 k1 cut.0 pc' alive1
      (opened_kept p c d 0 d w w1 k k1 o (omega arith) kept1 opened) fits.1 cut.2)

  -- a line is ended
  line_run : (d : ℕ) (w : World) (k : Work) (pc pc' : ℕ) → Alive p c w k → Stands (code_in p) c.routine pc
      (i.Literal (even_from d) (pos 10) ∷ i.Put (even_from d) ∷ []) pc' → Runs p (suc n) c d 0 w k pc pc'
      (write_text (10 ∷ []) w) Nothing
  line_run d w k pc pc' alive st =
      let t = even_from d in
      runs_word p (suc n) c d 0 w k pc (suc pc) pc' t (Numeral (pos 10)) (write_text (10 ∷ []) w) Nothing
      (literal_step (machine_of p) (state p c w k pc) t (pos 10) st.0) refl (even_above d) alive
      (λ alive1.
      let k1 = with_temporary k t (Numeral (pos 10)) in
      let w' = says w (10 ∷ []) in
      record {
        work = k1;
        alive = record {
          holds = record {
            fits = alive1.holds.fits;
            objects = alive1.holds.objects;
            names = alive1.holds.names;
            numbered = alive1.holds.numbered;
            input = alive1.holds.input;
          };
          stands = alive1.stands;
          room = alive1.room;
        };
        keeps = record { temporaries = λ j l. refl; scratch = λ j l. refl; grown = ([], sym (append-nil w.made)) };
        comes = subst (λ q. Comes (machine_of p) (state p c w k1 (suc pc)) (state p c w' k1 q)) st.1.1
            (a_step (state p c w k1 (suc pc)) (state p c w' k1 (suc (suc pc)))
            (put_step (machine_of p) (state p c w k1 (suc pc)) t 10 st.1.0
            (put_same k.temporaries t (Numeral (pos 10))) refl));
        result = tt;
      })

  pub writeln_run : (ps : List WriteParameter) → StatementRuns (Writeln ps)
  writeln_run ps d o w k pc pc' alive opened fits st =
      let ctx = context_in c o in
      let cut = split (code_in p) c.routine pc (writes_code (code_of o) ps d)
      (i.Literal (even_from d) (pos 10) ∷ i.Put (even_from d) ∷ []) pc' st in
      runs_bind p (suc n) c d 0 d 0 d 0 w k pc cut.0 pc' (writes p.program (costs_in p) call next ps ctx w)
      (λ u w1. write_text (10 ∷ []) w1) Nothing Nothing (omega arith) (omega arith) (omega arith) (omega arith)
      (writes_run ps d o w k pc cut.0 alive opened fits cut.1)
      (λ u w1 k1 alive1 kept1 y. line_run d w1 k1 cut.0 pc' alive1 cut.2)

  pub no_statements : StatementsRun no_statement
  no_statements d o w k pc pc' alive opened fits st = here p (suc n) c d 0 w k pc pc' (Nothing done) st alive tt

  pub statements_then : (s : Statement) (rest : Statements) → StatementRuns s → StatementsRun rest → StatementsRun
      (statement_before s rest)
  statements_then s rest rs rr d o w k pc pc' alive opened fits st =
      let code = code_of o in
      let ctx = context_in c o in
      let cut = split (code_in p) c.routine pc (statement_code code s d) (statements_code code rest d) pc' st in
      runs_bind p (suc n) c d 0 d 0 d 0 w k pc cut.0 pc' (act p.program (costs_in p) call next s ctx w)
      (λ u w1. acts p.program (costs_in p) call next rest ctx w1) Nothing Nothing (omega arith) (omega arith)
      (omega arith) (omega arith)
      (rs d o w k pc cut.0 alive opened fits.0 cut.1)
      (λ u w1 k1 alive1 kept1 y. rr d o w1 k1 cut.0 pc' alive1
      (opened_kept p c d 0 d w w1 k k1 o (omega arith) kept1 opened) fits.1 cut.2)
