-- Write statements of integers and characters.
use Rattle.ps_lower_constructs.proofs.Calling.{Callable}
use Rattle.std.proofs.Common.{◌≡◌, ℕ, suc, ◌+◌, ◌%◌, ◌<◌, ◌≤◌, ℤ, pos, negsuc, unsigned_abs, int_lt, int_le, Bool}
use Rattle.std.proofs.Common.{true, false, not, ◌&&◌, if◌then◌else◌, IsTrue, List, [], ◌∷◌, ◌++◌, length, Some}
use Rattle.std.proofs.Common.{unwrap_or, refl, sym, ap, ◌∙◌, subst, arith, ltb-true}
use Rattle.std.proofs.lemmas.List.{length-map}
use Rattle.ps_tree.proofs.Booleans.{and_second}
use Rattle.ps_tree.specs.Tree.{Expr, Width, DefaultWidth, GivenWidth, WriteInteger, WriteChar}
use Rattle.tac_code.specs.Memory.{Memory}
use Rattle.tac_code.specs.Meaning.{Tape}
use Rattle.tac_code_steps.specs.Routines.{Does, wrote}
use Rattle.tac_code.specs.declared.code.Value.TheVariants.{Number as Numeral}
use Rattle.tac_code.specs.declared.code.Instruction.TheVariants as i
use Rattle.tac_code.specs.Numbers.{is_integer}
use Rattle.tac_code.specs.declared.code.TheConstants.{NUMBER_LIMIT}
use Rattle.ps_meaning.specs.Values.{Value, number_of}
use Rattle.ps_meaning.specs.Operators.{is_between}
use Rattle.ps_meaning.specs.Text.{right_aligned, integer_text}
use Rattle.ps_meaning.specs.Worlds.{World, Gives, and_then, give, fault, write_text}
use Rattle.ps_meaning.specs.Expressions.{Caller, value}
use Rattle.ps_meaning.specs.Statements.{Next, width_value, write}
use Rattle.tac_code_steps.specs.Runs.{Stands}
use Rattle.tac_code_steps.proofs.Runs.{split}
use Rattle.tac_code_steps.proofs.Temporaries.{put_same}
use Rattle.tac_code_steps.proofs.Instructions.{literal_step}
use Rattle.ps_lower_layout.specs.Paths.{NumberSort}
use Rattle.ps_lower_code.specs.Scopes.{even_from, held, greatest, least, check_code}
use Rattle.ps_lower_code.specs.Calling.{width_calls}
use Rattle.ps_lower_code.specs.Programs.{tac_of}
use Rattle.ps_lower_code.specs.Values.{literal_of}
use Rattle.ps_lower_code.specs.Statements.{expr_code, width_code, write_code}
use Rattle.ps_lower_code.specs.Fits.{ExprFits, WidthFits, WriteFits}
use Rattle.ps_lower_code.proofs.Depths.{even_above, held_above}
use Rattle.ps_lower_code.proofs.Gaps.{at_most}
use Rattle.ps_lower_relation.specs.Here.{Setting, machine_of, code_in, costs_in, Work, Activated, IsActive, Alive}
use Rattle.ps_lower_relation.specs.Here.{state, WordIn}
use Rattle.ps_lower_relation.specs.Outcomes.{Reached, Runs}
use Rattle.ps_lower_relation.specs.RunTime.{WritesDo}
use Rattle.ps_lower_relation.proofs.Numbers.{between_integers}
use Rattle.ps_lower_constructs.specs.Openings.{plain_scope, Opening, scope_in, context_in, IsOpened}
use Rattle.ps_lower_constructs.proofs.Runs.{runs_bind, runs_told, gives_word, keeps_refl, keeps_less}
use Rattle.ps_lower_constructs.proofs.Kept.{opened_kept}
use Rattle.ps_lower_constructs.proofs.Values.{known_is}
use Rattle.ps_lower_constructs.proofs.Expressions.{expr_runs}
use Rattle.ps_lower_constructs.proofs.Checks.{check_runs}
use Rattle.ps_lower_constructs.proofs.Writes.{number_written}

and_all : (a b : Bool) → b ≡ true → (a && b) ≡ a
and_all true b e = e
and_all false b e = refl

-- a width that is at least 1
at_least_one : (x : ℤ) → IsTrue (is_integer x) → is_between (pos 1) x greatest ≡ not (int_lt x (pos 1))
at_least_one x h = and_all (int_le (pos 1) x) (int_le x greatest)
    (and_second (int_le least x) (int_le x greatest) (between_integers x ∙ h)) ∙ at_most (pos 1) x

small_number : (x : ℤ) → int_lt x (pos 1) ≡ false → IsTrue (is_integer x) → unsigned_abs x < NUMBER_LIMIT
small_number (pos m) e h = ltb-true m NUMBER_LIMIT h
small_number (negsuc m) e h = absurd (cc)

positive : (x : ℤ) → int_lt x (pos 1) ≡ false → x ≡ pos (unsigned_abs x)
positive (pos m) e = refl
positive (negsuc m) e = absurd (cc)

module _ (p : Setting) (n : ℕ) (call : Caller) (next : Next) (c : Activated) (active : IsActive p c) (does : WritesDo p)
    (calls : Callable p n call) where
  abbrev pub WidthIn : (t width : ℕ) → Work → Type 0
  WidthIn t width k = (k.temporaries t ≡ Some (Numeral (pos width))) × (width < NUMBER_LIMIT)

  -- the width in t
  pub width_runs : (width : Width) (default d x t : ℕ) (o : Opening) (w : World) (k : Work) (pc pc' : ℕ)
      → default < NUMBER_LIMIT → d ≤ t → Alive p c w k → IsOpened p c w k d o
      → WidthFits (plain_scope p c) o.shapes width
      → Stands (code_in p) c.routine pc (width_code (scope_in p c o) width default t) pc'
      → Runs p (suc n) c t 0 w k pc pc' (width_value p.program (costs_in p) call next width (context_in c o) w)
      (λ u w' k'. WidthIn t (unwrap_or u default) k')
  width_runs DefaultWidth default d x t o w k pc pc' small l alive opened fits st =
      gives_word p (suc n) c t 0 w k pc pc' t (Numeral (pos default)) (λ w' k'. WidthIn t default k')
      (literal_step (machine_of p) (state p c w k pc) t (pos default) st.0) st.1 (omega arith) alive
      (put_same k.temporaries t (Numeral (pos default)), small)
  width_runs (GivenWidth e line) default d x t o w k pc pc' small l alive opened fits st =
      let code = scope_in p c o in
      let ctx = context_in c o in
      let cut = split (code_in p) c.routine pc (expr_code code e t 0)
      (check_code (literal_of e) t (pos 1) greatest 11 line) pc' st in
      runs_bind p (suc n) c t 0 t 0 t 0 w k pc cut.0 pc' (value call e ctx w)
      (λ v w1. (if int_lt (number_of v) (pos 1) then fault 11 line ctx else give
      (Some (unsigned_abs (number_of v)))) w1)
      (λ v w' k'. WordIn k'.temporaries w'.made t NumberSort v
      × ((v0 : Value) (w0 : World) → value call e ctx w ≡ Gives v0 w0 → v ≡ v0))
      (λ u w' k'. WidthIn t (unwrap_or u default) k') (omega arith) (omega arith) (omega arith) (omega arith)
      (runs_told p (suc n) c t 0 w k pc cut.0 (value call e ctx w)
      (λ v w' k'. WordIn k'.temporaries w'.made t NumberSort v)
      (expr_runs p n call c active calls e t 0 o w k pc cut.0 NumberSort alive
      (opened_kept p c d 0 t w w k k o l (keeps_refl d 0 w k) opened) fits.0 cut.1))
      (λ v w1 k1 alive1 kept1 r1.
      tested v w1 k1 cut.0 (int_lt (number_of v) (pos 1)) refl r1.0
      (check_runs p (suc n) c active t 0 o w1 k1 cut.0 pc' t (pos 1) greatest 11 line (literal_of e) v
      (omega arith) alive1 (λ z q. let known_ = known_is p n call c active e z o w q fits.0 in ap number_of
      (r1.1 known_.v w known_.gives_it) ∙ known_.is) r1.0 cut.2))
    where
      tested : (v : Value) (w1 : World) (k1 : Work) (m : ℕ) (b : Bool) → int_lt (number_of v) (pos 1) ≡ b
          → WordIn k1.temporaries w1.made t NumberSort v
          → Runs p (suc n) c t 0 w1 k1 m pc' ((if is_between (pos 1) (number_of v) greatest then give v
          else fault 11 line (context_in c o)) w1)
          (λ u w' k'. (u ≡ v) × WordIn k'.temporaries w'.made t NumberSort v
          × (is_between (pos 1) (number_of v) greatest ≡ true))
          → Runs p (suc n) c t 0 w1 k1 m pc' ((if b then fault 11 line (context_in c o) else give
          (Some (unsigned_abs (number_of v)))) w1) (λ u w' k'. WidthIn t (unwrap_or u default) k')
      tested v w1 k1 m true q word r = subst (λ z. Runs p (suc n) c t 0 w1 k1 m pc'
          ((if z then give v else fault 11 line (context_in c o)) w1)
          (λ u w' k'. (u ≡ v) × WordIn k'.temporaries w'.made t NumberSort v
          × (is_between (pos 1) (number_of v) greatest ≡ true))) (at_least_one (number_of v) word.fits ∙ ap not q) r
      tested v w1 k1 m false q word r =
          let r' : Reached p c t 0 w1 k1 (state p c w1 k1 m) pc'
          (λ w' k'. (v ≡ v) × WordIn k'.temporaries w'.made t NumberSort v
          × (is_between (pos 1) (number_of v) greatest ≡ true)) w1 = subst
          (λ z. Runs p (suc n) c t 0 w1 k1 m pc' ((if z then give v else fault 11 line (context_in c o)) w1)
          (λ u w' k'. (u ≡ v) × WordIn k'.temporaries w'.made t NumberSort v
          × (is_between (pos 1) (number_of v) greatest ≡ true))) (at_least_one (number_of v) word.fits ∙ ap not q) r
          in
          record {
            work = r'.work;
            alive = r'.alive;
            keeps = r'.keeps;
            comes = r'.comes;
            result = (
              r'.result.1.word ∙ ap (λ z. Some (Numeral z)) (positive (number_of v) q),
              small_number
                  (number_of v) q word.fits,
            );
          }

  -- a number and its width, then the routine
  number_run : (routine default : ℕ) (text : ℤ → ℕ → List ℕ)
      → ((z : ℤ) (width : ℕ) (memory : Memory) (tape : Tape) → IsTrue (is_integer z) → width < NUMBER_LIMIT → Does
      (machine_of p) routine (Numeral z ∷ Numeral (pos width) ∷ []) memory tape (Numeral (pos 0)) memory
      (wrote tape (text z width))) → default < NUMBER_LIMIT
      → (e : Expr) (width : Width) (d a t : ℕ) (o : Opening) (w : World) (k : Work) (pc pc' : ℕ) → d ≤ a → suc a ≤ t
      → Alive p c w k → IsOpened p c w k d o → ExprFits (plain_scope p c) o.shapes e NumberSort → WidthFits
      (plain_scope p c) o.shapes width
      → Stands (code_in p) c.routine pc (expr_code (scope_in p c o) e a 0 ++ width_code (scope_in p c o) width default t
      ++ i.Call (even_from d) (length p.program.routines + routine) (a ∷ t ∷ []) 1 ∷ []) pc'
      → Runs p (suc n) c d 0 w k pc pc' (and_then (value call e (context_in c o) w)
      (λ v w1. and_then (width_value p.program (costs_in p) call next width (context_in c o) w1)
      (λ u w2. write_text (text (number_of v) (unwrap_or u default)) w2))) (λ u w' k'. Unit {0})
  number_run routine default text law small e width d a t o w k pc pc' la lt alive opened fits wide st =
      let code = scope_in p c o in
      let ctx = context_in c o in
      let last = i.Call (even_from d) (length p.program.routines + routine) (a ∷ t ∷ []) 1 ∷ [] in
      let cut2 = split (code_in p) c.routine pc (expr_code code e a 0 ++ width_code code width default t) last pc' st in
      let cut = split (code_in p) c.routine pc (expr_code code e a 0) (width_code code width default t) cut2.0 cut2.1 in
      let behind : length p.program.routines + routine ≡ length (code_in p).program + routine = ap (λ m. m + routine)
      (sym (length-map p.program.routines (tac_of p.program))) in
      runs_bind p (suc n) c d 0 a 0 d 0 w k pc cut.0 pc' (value call e ctx w)
      (λ v w1. and_then (width_value p.program (costs_in p) call next width ctx w1)
      (λ u w2. write_text (text (number_of v) (unwrap_or u default)) w2))
      (λ v w' k'. WordIn k'.temporaries w'.made a NumberSort v) (λ u w' k'. Unit {0}) la (omega arith) (omega arith)
      (omega arith)
      (expr_runs p n call c active calls e a 0 o w k pc cut.0 NumberSort alive
      (opened_kept p c d 0 a w w k k o la (keeps_refl d 0 w k) opened) fits cut.1)
      (λ v w1 k1 alive1 kept1 r1.
      runs_bind p (suc n) c d 0 t 0 d 0 w1 k1 cut.0 cut2.0 pc'
      (width_value p.program (costs_in p) call next width ctx w1)
      (λ u w2. write_text (text (number_of v) (unwrap_or u default)) w2)
      (λ u w' k'. WidthIn t (unwrap_or u default) k') (λ u w' k'. Unit {0}) (omega (arith, la, lt)) (omega arith)
      (omega arith) (omega arith)
      (width_runs width default d 0 t o w1 k1 cut.0 cut2.0 small (omega (arith, la, lt)) alive1
      (opened_kept p c d 0 d w w1 k k1 o (omega arith) (keeps_less d 0 a 0 la (omega arith) kept1) opened) wide
      cut.2)
      (λ u w2 k2 alive2 kept2 r2.
      number_written p c active d 0 w2 k2 cut2.0 pc' routine a t (even_from d) 1 (number_of v) (unwrap_or u default)
      (text (number_of v) (unwrap_or u default)) (even_above d) alive2
      (law (number_of v) (unwrap_or u default) (state p c w2 k2 cut2.0).memory
      (state p c w2 k2 cut2.0).tape r1.fits r2.1) (kept2.temporaries a (omega (arith, lt)) ∙ r1.word) r2.0
      (subst (λ q. Stands (code_in p) c.routine cut2.0 (i.Call (even_from d) q (a ∷ t ∷ []) 1 ∷ []) pc') behind
      cut2.2)))

  pub write_integer_run : (e : Expr) (width : Width) (d : ℕ) (o : Opening) (w : World) (k : Work) (pc pc' : ℕ)
      → Alive p c w k → IsOpened p c w k d o → WriteFits (plain_scope p c) o.shapes (WriteInteger e width) → Stands
      (code_in p) c.routine pc (write_code (scope_in p c o) (WriteInteger e width) d) pc'
      → Runs p (suc n) c d 0 w k pc pc' (write p.program (costs_in p) call next (WriteInteger e width)
      (context_in c o) w) (λ u w' k'. Unit {0})
  write_integer_run e width d o w k pc pc' alive opened fits st =
      let a = held (width_calls width) d in
      number_run 10 11 (λ z m. right_aligned m (integer_text z))
      (λ z m memory tape h l. does.number z m memory tape h l) (omega arith) e width d a
      (even_from (suc a)) o w k pc pc' (held_above (width_calls width) d)
      (even_above (suc a)) alive opened fits.0 fits.1 st

  pub write_char_run : (e : Expr) (width : Width) (d : ℕ) (o : Opening) (w : World) (k : Work) (pc pc' : ℕ)
      → Alive p c w k → IsOpened p c w k d o → WriteFits (plain_scope p c) o.shapes (WriteChar e width) → Stands
      (code_in p) c.routine pc (write_code (scope_in p c o) (WriteChar e width) d) pc'
      → Runs p (suc n) c d 0 w k pc pc' (write p.program (costs_in p) call next (WriteChar e width) (context_in c o) w)
      (λ u w' k'. Unit {0})
  write_char_run e width d o w k pc pc' alive opened fits st =
      let a = held (width_calls width) d in
      number_run 11 1 (λ z m. right_aligned m (unsigned_abs z % 256 ∷ []))
      (λ z m memory tape h l. does.character z m memory tape h l) (omega arith) e width d a
      (even_from (suc a)) o w k pc pc' (held_above (width_calls width) d)
      (even_above (suc a)) alive opened fits.0 fits.1 st
