-- Calls of procedures and functions, by their names and by formal parameters.
use Rattle.std.proofs.Common.{◌≡◌, ℕ, suc, ◌<◌, ◌≤◌, [], ◌∷◌, ◌++◌, List, length, slice_get, Option, Some, None, refl}
use Rattle.std.proofs.Common.{sym, ap, ◌∙◌, subst, arith, lt-ltb}
use Rattle.std.proofs.lemmas.List.{length-map}
use Rattle.ps_tree.specs.Types.{DataType}
use Rattle.ps_tree.specs.Tree.{Call, CallFormal, Arguments, routine_at}
use Rattle.tac_code.specs.declared.code.Instruction.TheVariants as i
use Rattle.tac_code.specs.Meaning.{with_some, values_of, and_more, enter}
use Rattle.ps_meaning.specs.Worlds.{World, Gives, and_then, above, frame_of, routine_in, env_in}
use Rattle.ps_meaning.specs.Expressions.{Actual, Caller, calling, actuals_of, function_value}
use Rattle.ps_meaning.specs.Statements.{Next}
use Rattle.ps_meaning.specs.Calls.{call_routine}
use Rattle.tac_code_steps.specs.Runs.{Stands}
use Rattle.tac_code_steps.proofs.Runs.{split}
use Rattle.tac_code_steps.proofs.Pieces.{same_some, some_none}
use Rattle.tac_code_steps.proofs.Instructions.{call_step, call_value_step}
use Rattle.ps_lower_layout.specs.Shapes.{Shape, Whole, shape_of}
use Rattle.ps_lower_layout.specs.Paths.{Sort, HasSort}
use Rattle.ps_lower_layout.specs.Frames.{Kinds, Closure, kinds_of, result_shape}
use Rattle.tac_code.proofs.Impossible.{never}
use Rattle.ps_lower_code.specs.Scopes.{even_from, beside, kind_at, link_code, formal_code}
use Rattle.ps_lower_code.specs.Values.{arguments_words, arguments_end, arguments_code}
use Rattle.ps_lower_code.specs.Programs.{tac_of}
use Rattle.ps_lower_code.specs.Fits.{SortOf, DeclaredAt, ArgumentsFit}
use Rattle.ps_lower_code.proofs.Depths.{even_above}
use Rattle.ps_lower_relation.specs.Ghosts.{EnvAt}
use Rattle.ps_lower_relation.specs.Here.{Setting, costs_in, machine_of, code_in, Work, Activated, IsActive, chain_of}
use Rattle.ps_lower_relation.specs.Here.{Alive, activation, state, word_of}
use Rattle.ps_lower_relation.specs.Outcomes.{Runs}
use Rattle.ps_lower_relation.specs.RunTime.{WritesDo}
use Rattle.ps_lower_calls.specs.Routines.{RoutinesFit}
use Rattle.ps_lower_calls.specs.Passing.{passed_actuals, passed_words}
use Rattle.ps_lower_calls.proofs.Grown.{all_passed_kept}
use Rattle.ps_lower_constructs.specs.Openings.{plain_scope, Opening, scope_in, context_in, IsOpened}
use Rattle.ps_lower_constructs.specs.Tasks.{Nothing, NextRuns}
use Rattle.ps_lower_constructs.proofs.Runs.{runs_bind, runs_map, runs_from, here, keeps_less}
use Rattle.ps_lower_constructs.proofs.Values.{FrontIn, FrontRuns, plain_front, load_word}
use Rattle.ps_lower_constructs.proofs.RoutinePlaces.{ResultIn}
use Rattle.ps_lower_constructs.proofs.Called.{call_runs}
use Rattle.ps_lower_constructs.proofs.Links.{link_to, formal_run}
use Rattle.ps_lower_constructs.proofs.Arguments.{below_less, values_same, arguments_above, arguments_below}
use Rattle.ps_lower_constructs.proofs.Arguments.{ArgumentsIn, declared_here, ArgumentsRun}

-- what is known of calls: the routines fit, and their blocks run with one fuel less
pub record Callable (p : Setting) (n : ℕ) (call : Caller) : Type 0 where
  pub next : Next
  pub nexts : NextRuns p n next
  pub fit : RoutinesFit p.program
  pub does : WritesDo p
  pub is : call ≡ call_routine p.program (costs_in p) next

module _ (p : Setting) (n : ℕ) (call : Caller) (c : Activated) (active : IsActive p c) (calls : Callable p n call) where
  -- the words of the parameters are still there when the environment is
  words_there : (arguments : Arguments) (kinds : Kinds) (d from a : ℕ) (xs : List Actual) (w w1 : World) (k k1 : Work)
      → arguments_end arguments d ≤ a → ((j : ℕ) → j < a → k1.temporaries j ≡ k.temporaries j)
      → (in_ : ArgumentsIn p c arguments kinds d from xs w k) → values_of k1.temporaries (arguments_words arguments d)
      ≡ Some (passed_words in_.passings)
  words_there arguments kinds d from a xs w w1 k k1 l kept in_ = values_same k.temporaries k1.temporaries a
      (arguments_words arguments d) (below_less (arguments_end arguments d) a (arguments_words arguments d) l
      (arguments_below arguments d)) kept ∙ in_.values

  -- a routine is called by its name
  declared_called : (arguments : Arguments) (a t d x : ℕ) (o : Opening) (w : World) (k : Work)
      (pc mid pc' r up line : ℕ) (xs : List Actual) → arguments_end arguments d ≤ a → d ≤ t → DeclaredAt
      (plain_scope p c) r up → Alive p c w k → ArgumentsIn p c arguments
      (kinds_of (routine_at p.program r).formals) d x xs w k → Stands (code_in p) c.routine pc
      (link_code (scope_in p c o) a up) mid → Stands (code_in p) c.routine mid
      (i.Call t r (a ∷ arguments_words arguments d) line ∷ []) pc'
      → Runs p (suc n) c d x w k pc pc' (call r (above c.env up) xs (calling line (context_in c o)) w)
      (λ u w' k'. ResultIn (routine_at p.program r).result w.next t w' k')
  declared_called arguments a t d x o w k pc mid pc' r up line xs la lt fits alive in_ sl sc =
      let le = arguments_above arguments d in
      let lk = link_to p (suc n) c a in_.last o w k a up pc mid alive (omega arith) fits.1 sl in
      let known_ = declared_here p c w.made r up fits in
      let link = lk.result.0 in
      let env = above c.env up in
      let ctx = calling line (context_in c o) in
      let outside = subst (λ q. EnvAt p.program c.ghosts w.made env link q) (sym known_.outer) lk.result.2 in
      let W = arguments_words arguments d in
      let words = words_there arguments (kinds_of (routine_at p.program r).formals) d x a xs w w k lk.work la
      lk.keeps.temporaries in_ in
      let vs : values_of lk.work.temporaries (a ∷ W) ≡ Some
      (link ∷ passed_words in_.passings) = ap (λ v. and_more v (values_of lk.work.temporaries W)) lk.result.1
      ∙ ap (and_more (Some link)) words in
      let s = state p c w lk.work mid in
      let stepped = call_step (machine_of p) s t r (a ∷ W) line sc.0
      ∙ ap (λ q. with_some q (λ values. enter (code_in p) (machine_of p).frames
      (machine_of p).objects p.stack p.heap r values t line
      (activation c (suc mid) lk.work.temporaries ∷ c.callers) s)) vs in
      let R : World → Work → Type 0 = λ w' k'. ResultIn (routine_at p.program r).result w.next t w' k' in
      let ran = call_runs p c active calls.fit calls.does w lk.work mid t line r env link in_.passings
      (kinds_of (routine_at p.program r).formals)
      (result_shape (routine_at p.program r).result) lk.alive known_.known outside in_.kinds_are in_.at in_.last
      (all_passed_kept c.number k.scratch lk.work.scratch in_.last in_.last in_.passings
      (omega arith) lk.keeps.scratch in_.are) n d x calls.next o.spots calls.nexts lt stepped
      (i.Call t r (a ∷ W) line) sc.0 refl in
      let called_ = call_routine p.program (costs_in p) calls.next in
      subst (λ f. Runs p (suc n) c d x w k pc pc' (f r env xs ctx w) (λ u w' k'. R w' k')) (sym calls.is)
      (subst (λ ys. Runs p (suc n) c d x w k pc pc' (called_ r env ys ctx w) (λ u w' k'. R w' k')) in_.actuals
      (runs_from p (suc n) c d x w w k lk.work pc mid pc' (called_ r env (passed_actuals in_.passings) ctx w)
      (λ u w' k'. R w' k') lk.comes (keeps_less d x a in_.last (omega (arith, le, la)) in_.above lk.keeps)
      (subst (λ q. Runs p (suc n) c d x w lk.work mid q (called_ r env (passed_actuals in_.passings) ctx w)
      (λ u w' k'. R w' k')) sc.1 ran)))

  -- a routine is called that was passed
  formal_called : (arguments : Arguments) (a t d x : ℕ) (o : Opening) (w : World) (k : Work)
      (pc mid pc' up index line : ℕ) (kinds : Kinds) (result : Option Shape) (xs : List Actual)
      → arguments_end arguments d ≤ a → d ≤ t → up < length (chain_of c) → kind_at (scope_in p c o) up index ≡ Some
      (Closure kinds result) → Alive p c w k → ArgumentsIn p c arguments kinds d x xs w k → Stands
      (code_in p) c.routine pc (formal_code (scope_in p c o) a up index) mid → Stands (code_in p) c.routine mid
      (i.CallValue t a (beside a ∷ arguments_words arguments d) line ∷ []) pc'
      → Runs p (suc n) c d x w k pc pc' (call (routine_in (frame_of (above c.env up)) index)
      (env_in (frame_of (above c.env up)) index) xs (calling line (context_in c o)) w)
      (λ u w' k'. (result_shape (routine_at p.program (routine_in (frame_of (above c.env up)) index)).result
      ≡ result) × ResultIn (routine_at p.program (routine_in (frame_of (above c.env up)) index)).result w.next t w'
      k')
  formal_called arguments a t d x o w k pc mid pc' up index line kinds result xs la lt within kind alive in_ sf sc =
      let le = arguments_above arguments d in
      let fm = formal_run p (suc n) c a in_.last o w k a up index pc mid kinds result alive (omega arith) within kind sf
      in
      let r = routine_in (frame_of (above c.env up)) index in
      let env = env_in (frame_of (above c.env up)) index in
      let ctx = calling line (context_in c o) in
      let link = fm.result.0 in
      let known_ = fm.result.3 in
      let W = arguments_words arguments d in
      let words = words_there arguments kinds d x a xs w w k fm.work la fm.keeps.temporaries in_ in
      let vs : values_of fm.work.temporaries (beside a ∷ W) ≡ Some
      (link ∷ passed_words in_.passings) = ap (λ v. and_more v (values_of fm.work.temporaries W)) fm.result.2
      ∙ ap (and_more (Some link)) words in
      let s = state p c w fm.work mid in
      let inside = known_.within in
      let counted = length-map p.program.routines (tac_of p.program) in
      let stepped = call_value_step (machine_of p) s t a (beside a ∷ W) line r sc.0 fm.result.1
      (lt-ltb r (length (code_in p).program) (omega (arith, inside, counted)))
      ∙ ap (λ q. with_some q (λ values. enter (code_in p) (machine_of p).frames
      (machine_of p).objects p.stack p.heap r values t line
      (activation c (suc mid) fm.work.temporaries ∷ c.callers) s)) vs in
      let R : World → Work → Type 0 = λ w' k'. (result_shape (routine_at p.program r).result ≡ result) × ResultIn
      (routine_at p.program r).result w.next t w' k' in
      let ran = call_runs p c active calls.fit calls.does w fm.work mid t line r env link in_.passings kinds result
      fm.alive known_ fm.result.4 in_.kinds_are in_.at in_.last
      (all_passed_kept c.number k.scratch fm.work.scratch in_.last in_.last in_.passings
      (omega arith) fm.keeps.scratch in_.are) n d x calls.next o.spots calls.nexts lt stepped
      (i.CallValue t a (beside a ∷ W) line) sc.0 refl in
      let called_ = call_routine p.program (costs_in p) calls.next in
      let told = runs_map p (suc n) c d x d x w fm.work mid (suc mid)
      (called_ r env (passed_actuals in_.passings) ctx w)
      (λ u w' k'. ResultIn (routine_at p.program r).result w.next t w' k') (λ u w' k'. R w' k') (omega arith)
      (omega arith) ran (λ u w' k' kept y. (known_.same_result, y)) in
      subst (λ f. Runs p (suc n) c d x w k pc pc' (f r env xs ctx w) (λ u w' k'. R w' k')) (sym calls.is)
      (subst (λ ys. Runs p (suc n) c d x w k pc pc' (called_ r env ys ctx w) (λ u w' k'. R w' k')) in_.actuals
      (runs_from p (suc n) c d x w w k fm.work pc mid pc' (called_ r env (passed_actuals in_.passings) ctx w)
      (λ u w' k'. R w' k') fm.comes (keeps_less d x a in_.last (omega (arith, le, la)) in_.above fm.keeps)
      (subst (λ q. Runs p (suc n) c d x w fm.work mid q (called_ r env (passed_actuals in_.passings) ctx w)
      (λ u w' k'. R w' k')) sc.1 told)))

  -- ---- functions

  -- the word of a function's value
  value_in : (result : Option DataType) (shape : Shape) (sort : Sort) (name d : ℕ) (w : World) (k : Work)
      → result_shape result ≡ Some shape → SortOf (Whole shape) sort → ResultIn result name d w k
      → (k.temporaries d ≡ Some (word_of sort (w.store name))) × HasSort w.made (w.store name) sort
  value_in None shape sort name d w k e sorted r = some_none e
  value_in (Some type) shape sort name d w k e sorted r =
      let v = w.store name in
      let one = load_word p n call c active (shape_of type) sort v w.made
      (subst (λ q. SortOf (Whole q) sort) (sym (same_some e)) sorted) r.3 in
      (r.1 ∙ same_some (ap (λ ws. slice_get ws 0) (sym r.2 ∙ one.1)), one.2)

  pub call_front : (r up : ℕ) (arguments : Arguments) (line : ℕ) → ArgumentsRun p n call c active arguments
      → FrontRuns p n call c active (Call r up arguments line)
  call_front r up arguments line args d x o w k pc pc' sort alive opened fits st =
      let code = scope_in p c o in
      let ctx = context_in c o in
      let a = even_from (arguments_end arguments d) in
      let la = even_above (arguments_end arguments d) in
      let routine = routine_at p.program r in
      let cut = split (code_in p) c.routine pc (arguments_code code arguments d x ++ link_code code a up)
      (i.Call d r (a ∷ arguments_words arguments d) line ∷ []) pc' st in
      let cut1 = split (code_in p) c.routine pc (arguments_code code arguments d x) (link_code code a up) cut.0 cut.1 in
      runs_bind p (suc n) c d x d x d x w k pc cut1.0 pc' (actuals_of call arguments ctx w)
      (λ xs w1. function_value call r (above c.env up) xs (calling line ctx) w1)
      (λ xs w' k'. ArgumentsIn p c arguments (kinds_of routine.formals) d x xs w' k')
      (λ v w' k'. FrontIn (Call r up arguments line) d sort v w'.made k'.temporaries) (omega arith) (omega arith)
      (omega arith) (omega arith)
      (args d x o w k pc cut1.0 (kinds_of routine.formals) alive opened fits.2 cut1.1)
      (λ xs w1 k1 alive1 kept1 r1.
      runs_bind p (suc n) c d x d x d x w1 k1 cut1.0 pc' pc' (call r (above c.env up) xs (calling line ctx) w1)
      (λ u w2. Gives (w2.store w1.next) w2) (λ u w' k'. ResultIn routine.result w1.next d w' k')
      (λ v w' k'. FrontIn (Call r up arguments line) d sort v w'.made k'.temporaries) (omega arith) (omega arith)
      (omega arith) (omega arith)
      (declared_called arguments a d d x o w1 k1 cut1.0 cut.0 pc' r up line xs la
      (omega arith) fits.0 alive1 r1 cut1.2 cut.2)
      (λ u w2 k2 alive2 kept2 r2.
      let v = value_in routine.result fits.1.0 sort w1.next d w2 k2 fits.1.1 fits.1.2 r2 in
      here p (suc n) c d x w2 k2 pc' pc' (λ w' k'. FrontIn (Call r up arguments line) d sort
      (w2.store w1.next) w'.made k'.temporaries) refl alive2
      (plain_front (Call r up arguments line) d sort
      (w2.store w1.next) w2.made k2.temporaries refl refl refl refl v.0 v.1 (λ q. never q)
      (λ q. never q))))

  pub call_formal_front : (up index : ℕ) (arguments : Arguments) (line : ℕ) → ArgumentsRun p n call c active arguments
      → FrontRuns p n call c active (CallFormal up index arguments line)
  call_formal_front up index arguments line args d x o w k pc pc' sort alive opened fits st =
      let code = scope_in p c o in
      let ctx = context_in c o in
      let a = even_from (arguments_end arguments d) in
      let la = even_above (arguments_end arguments d) in
      let kinds = fits.1.0 in
      let shape = fits.1.1.0 in
      let r = routine_in (frame_of (above c.env up)) index in
      let env = env_in (frame_of (above c.env up)) index in
      let cut = split (code_in p) c.routine pc (arguments_code code arguments d x ++ formal_code code a up index)
      (i.CallValue d a (beside a ∷ arguments_words arguments d) line ∷ []) pc' st in
      let cut1 = split (code_in p) c.routine pc (arguments_code code arguments d x)
      (formal_code code a up index) cut.0 cut.1 in
      runs_bind p (suc n) c d x d x d x w k pc cut1.0 pc' (actuals_of call arguments ctx w)
      (λ xs w1. function_value call r env xs (calling line ctx) w1)
      (λ xs w' k'. ArgumentsIn p c arguments kinds d x xs w' k')
      (λ v w' k'. FrontIn (CallFormal up index arguments line) d sort v w'.made k'.temporaries) (omega arith)
      (omega arith) (omega arith) (omega arith)
      (args d x o w k pc cut1.0 kinds alive opened fits.1.2 cut1.1)
      (λ xs w1 k1 alive1 kept1 r1.
      runs_bind p (suc n) c d x d x d x w1 k1 cut1.0 pc' pc' (call r env xs (calling line ctx) w1)
      (λ u w2. Gives (w2.store w1.next) w2) (λ u w' k'. (result_shape (routine_at p.program r).result ≡ Some shape)
      × ResultIn (routine_at p.program r).result w1.next d w' k')
      (λ v w' k'. FrontIn (CallFormal up index arguments line) d sort v w'.made k'.temporaries) (omega arith)
      (omega arith) (omega arith) (omega arith)
      (formal_called arguments a d d x o w1 k1 cut1.0 cut.0 pc' up index line kinds (Some shape) xs la
      (omega arith) fits.0 fits.1.1.1 alive1 r1 cut1.2 cut.2)
      (λ u w2 k2 alive2 kept2 r2.
      let v = value_in (routine_at p.program r).result shape sort w1.next d w2 k2 r2.0 fits.1.1.2 r2.1 in
      here p (suc n) c d x w2 k2 pc' pc' (λ w' k'. FrontIn (CallFormal up index arguments line) d sort
      (w2.store w1.next) w'.made k'.temporaries) refl alive2
      (plain_front (CallFormal up index arguments line) d sort
      (w2.store w1.next) w2.made k2.temporaries refl refl refl refl v.0 v.1 (λ q. never q)
      (λ q. never q))))

  -- ---- procedures

  pub procedure_run : (r up : ℕ) (arguments : Arguments) (line d : ℕ) (o : Opening) (w : World) (k : Work) (pc pc' : ℕ)
      → ArgumentsRun p n call c active arguments → Alive p c w k → IsOpened p c w k d o → DeclaredAt
      (plain_scope p c) r up → ArgumentsFit (plain_scope p c) o.shapes arguments
      (kinds_of (routine_at p.program r).formals) → Stands (code_in p) c.routine pc
      (arguments_code (scope_in p c o) arguments d 0 ++ link_code (scope_in p c o)
      (even_from (arguments_end arguments d)) up ++ i.Call (even_from (arguments_end arguments d)) r
      (even_from (arguments_end arguments d) ∷ arguments_words arguments d) line ∷ []) pc'
      → Runs p (suc n) c d 0 w k pc pc' (and_then (actuals_of call arguments (context_in c o) w)
      (λ xs w1. call r (above c.env up) xs (calling line (context_in c o)) w1)) Nothing
  procedure_run r up arguments line d o w k pc pc' args alive opened declared fits st =
      let code = scope_in p c o in
      let ctx = context_in c o in
      let a = even_from (arguments_end arguments d) in
      let la = even_above (arguments_end arguments d) in
      let le = arguments_above arguments d in
      let routine = routine_at p.program r in
      let cut = split (code_in p) c.routine pc (arguments_code code arguments d 0 ++ link_code code a up)
      (i.Call a r (a ∷ arguments_words arguments d) line ∷ []) pc' st in
      let cut1 = split (code_in p) c.routine pc (arguments_code code arguments d 0) (link_code code a up) cut.0 cut.1 in
      runs_bind p (suc n) c d 0 d 0 d 0 w k pc cut1.0 pc' (actuals_of call arguments ctx w)
      (λ xs w1. call r (above c.env up) xs (calling line ctx) w1)
      (λ xs w' k'. ArgumentsIn p c arguments (kinds_of routine.formals) d 0 xs w' k') Nothing (omega arith)
      (omega arith) (omega arith) (omega arith)
      (args d 0 o w k pc cut1.0 (kinds_of routine.formals) alive opened fits cut1.1)
      (λ xs w1 k1 alive1 kept1 r1.
      runs_map p (suc n) c d 0 d 0 w1 k1 cut1.0 pc' (call r (above c.env up) xs (calling line ctx) w1)
      (λ u w' k'. ResultIn routine.result w1.next a w' k') Nothing (omega arith) (omega arith)
      (declared_called arguments a a d 0 o w1 k1 cut1.0 cut.0 pc' r up line xs la
      (omega (arith, le, la)) declared alive1 r1 cut1.2 cut.2)
      (λ u w' k' kept y. tt))

  pub formal_procedure_run : (up index : ℕ) (arguments : Arguments) (line d : ℕ) (o : Opening) (w : World) (k : Work)
      (pc pc' : ℕ) (kinds : Kinds) (result : Option Shape) → ArgumentsRun p n call c active arguments → Alive p c w k
      → IsOpened p c w k d o → up < length (chain_of c) → kind_at (scope_in p c o) up index ≡ Some
      (Closure kinds result) → ArgumentsFit (plain_scope p c) o.shapes arguments kinds → Stands (code_in p) c.routine pc
      (arguments_code (scope_in p c o) arguments d 0 ++ formal_code (scope_in p c o)
      (even_from (arguments_end arguments d)) up index ++ i.CallValue (even_from (arguments_end arguments d))
      (even_from (arguments_end arguments d)) (beside (even_from (arguments_end arguments d))
      ∷ arguments_words arguments d) line ∷ []) pc'
      → Runs p (suc n) c d 0 w k pc pc' (and_then (actuals_of call arguments (context_in c o) w)
      (λ xs w1. call (routine_in (frame_of (above c.env up)) index) (env_in (frame_of (above c.env up)) index) xs
      (calling line (context_in c o)) w1)) Nothing
  formal_procedure_run up index arguments line d o w k pc pc' kinds result args alive opened within kind fits st =
      let code = scope_in p c o in
      let ctx = context_in c o in
      let a = even_from (arguments_end arguments d) in
      let la = even_above (arguments_end arguments d) in
      let le = arguments_above arguments d in
      let r = routine_in (frame_of (above c.env up)) index in
      let env = env_in (frame_of (above c.env up)) index in
      let cut = split (code_in p) c.routine pc (arguments_code code arguments d 0 ++ formal_code code a up index)
      (i.CallValue a a (beside a ∷ arguments_words arguments d) line ∷ []) pc' st in
      let cut1 = split (code_in p) c.routine pc (arguments_code code arguments d 0)
      (formal_code code a up index) cut.0 cut.1 in
      runs_bind p (suc n) c d 0 d 0 d 0 w k pc cut1.0 pc' (actuals_of call arguments ctx w)
      (λ xs w1. call r env xs (calling line ctx) w1)
      (λ xs w' k'. ArgumentsIn p c arguments kinds d 0 xs w' k') Nothing (omega arith) (omega arith) (omega arith)
      (omega arith)
      (args d 0 o w k pc cut1.0 kinds alive opened fits cut1.1)
      (λ xs w1 k1 alive1 kept1 r1.
      runs_map p (suc n) c d 0 d 0 w1 k1 cut1.0 pc' (call r env xs (calling line ctx) w1)
      (λ u w' k'. (result_shape (routine_at p.program r).result ≡ result) × ResultIn
      (routine_at p.program r).result w1.next a w' k') Nothing (omega arith) (omega arith)
      (formal_called arguments a a d 0 o w1 k1 cut1.0 cut.0 pc' up index line kinds result xs la
      (omega (arith, le, la)) within kind alive1 r1 cut1.2 cut.2)
      (λ u w' k' kept y. tt))
