-- Actual parameters: what each passes, and where its words are.
use Rattle.std.proofs.Common.{◌≡◌, ℕ, zero, suc, ◌+◌, ◌<◌, ◌≤◌, ℤ, true, false, List, [], ◌∷◌, ◌++◌, length, drop}
use Rattle.std.proofs.Common.{Option, Some, None, refl, sym, ap, ◌∙◌, subst, arith, lt-ltb}
use Rattle.ps_tree.specs.declared.tree.operators.Range.{Range}
use Rattle.ps_tree.specs.declared.tree.operators.Range.TheVariants.{Any, Within as WithinBounds}
use Rattle.ps_tree.specs.Tree.{Place, Expr, Argument, ByValue, BySet, ByCopy, ByVariable, ByRoutine, ByFormal}
use Rattle.ps_tree.specs.Tree.{Arguments, no_argument, argument_before, routine_at}
use Rattle.tac_code.specs.declared.code.Value.{Value as Word}
use Rattle.tac_code.specs.declared.code.Value.TheVariants.{Address, Routine as RoutineWord}
use Rattle.tac_code.specs.Meaning.{Temporaries, values_of, and_more}
use Rattle.tac_code.specs.declared.code.TheConstants.{BLOCK_LIMIT}
use Rattle.ps_meaning.specs.Values.{Value, number_of}
use Rattle.ps_meaning.specs.Operators.{is_between}
use Rattle.ps_meaning.specs.Worlds.{World, Gives, above, frame_of, routine_in, env_in, and_then}
use Rattle.ps_meaning.specs.Expressions.{Actual, ValueActual, VariableActual, RoutineActual, Caller, value, fitting}
use Rattle.ps_meaning.specs.Expressions.{access, actual_of, actuals_of}
use Rattle.tac_code_steps.specs.Runs.{Stands}
use Rattle.tac_code_steps.proofs.Runs.{split}
use Rattle.tac_code_steps.proofs.Temporaries.{put_same}
use Rattle.tac_code_steps.proofs.Pieces.{same_some, some_none}
use Rattle.tac_code_steps.proofs.Instructions.{offset_step, routine_step}
use Rattle.ps_lower_layout.specs.Shapes.{Shape, NumberShape, PointerShape, SetShape, ByteShape, ArrayShape}
use Rattle.ps_lower_layout.specs.Shapes.{RecordShape, Whole}
use Rattle.ps_lower_layout.specs.Paths.{Sort, NumberSort, HasSort}
use Rattle.ps_lower_layout.specs.Frames.{Kind, Kinds, kind_before, kinds_of, result_shape, is_program_block}
use Rattle.ps_lower_code.specs.Scopes.{held, beside, fitting_code}
use Rattle.ps_lower_code.specs.Calling.{arguments_call}
use Rattle.ps_lower_code.specs.Statements.{expr_code}
use Rattle.ps_lower_code.specs.Values.{literal_of, gives_byte, argument_words, argument_end, argument_scratch}
use Rattle.ps_lower_code.specs.Values.{arguments_words, arguments_end, place_temporary, place_site, place_code}
use Rattle.ps_lower_code.specs.Values.{argument_code, arguments_code}
use Rattle.ps_lower_code.specs.Fits.{tail, SortOf, RangeFits, DeclaredAt, ExprFits, ArgumentFits, ArgumentsFit}
use Rattle.ps_lower_code.proofs.Depths.{held_above}
use Rattle.ps_lower_relation.specs.Ghosts.{RoutineHere, EnvAt}
use Rattle.ps_lower_relation.specs.Here.{Setting, machine_of, code_in, Work, Activated, IsActive, chain_of, Alive}
use Rattle.ps_lower_relation.specs.Here.{state, WordIn, word_of}
use Rattle.ps_lower_relation.specs.Outcomes.{Runs}
use Rattle.ps_lower_relation.proofs.Places.{place_below}
use Rattle.ps_lower_calls.specs.Passing.{Passing, PassValue, PassVariable, PassRoutine, passed_actual, passed_actuals}
use Rattle.ps_lower_calls.specs.Passing.{passed_kind, passed_kinds, passed_word, passed_words, IsPassed, ArePassed}
use Rattle.ps_lower_calls.specs.Passing.{PassingAt, PassingsAt}
use Rattle.ps_lower_calls.proofs.Grown.{passing_grows, passed_kept}
use Rattle.ps_lower_constructs.specs.Openings.{plain_scope, Opening, scope_in, context_in, IsOpened}
use Rattle.ps_lower_constructs.proofs.Runs.{runs_bind, runs_told, here, gives_word, reached_from, keeps_refl}
use Rattle.ps_lower_constructs.proofs.Kept.{opened_kept}
use Rattle.ps_lower_constructs.proofs.Places.{base_is}
use Rattle.ps_lower_constructs.proofs.Checks.{fit_runs}
use Rattle.ps_lower_constructs.proofs.Values.{FrontRuns, IsByteOf, expr_bytes, known_is}
use Rattle.ps_lower_constructs.proofs.Selectors.{PlaceIn, PlaceRuns}
use Rattle.ps_lower_constructs.proofs.Links.{link_to, formal_run}

-- ---- the words of operands

abbrev pub AllBelow : ℕ → List ℕ → Type 0
AllBelow e [] = Unit {0}
AllBelow e (t ∷ ts) = (t < e) × AllBelow e ts

below_both : (e : ℕ) (xs ys : List ℕ) → AllBelow e xs → AllBelow e ys → AllBelow e (xs ++ ys)
below_both e [] ys h g = g
below_both e (x ∷ xs) ys h g = (h.0, below_both e xs ys h.1 g)

pub below_less : (d e : ℕ) (xs : List ℕ) → d ≤ e → AllBelow d xs → AllBelow e xs
below_less d e [] l h = tt
below_less d e (x ∷ xs) l h = let low = h.0 in (omega (arith, l, low), below_less d e xs l h.1)

pub values_same : (f g : Temporaries) (e : ℕ) (xs : List ℕ) → AllBelow e xs → ((i : ℕ) → i < e → g i ≡ f i)
    → values_of g xs ≡ values_of f xs
values_same f g e [] h q = refl
values_same f g e (x ∷ xs) h q = ap (λ v. and_more v (values_of g xs)) (q x h.0) ∙ ap (and_more (f x))
    (values_same f g e xs h.1 q)

values_both : (f : Temporaries) (xs ys : List ℕ) (us vs : List Word) → values_of f xs ≡ Some us → values_of f ys
    ≡ Some vs → values_of f (xs ++ ys) ≡ Some (us ++ vs)
values_both f [] ys us vs h g = g ∙ ap (λ z. Some (z ++ vs)) (same_some h)
values_both f (x ∷ xs) ys us vs h g = go (f x) (values_of f xs) refl h (λ rest e. values_both f xs ys rest vs e g)
  where
    go : (a : Option Word) (b : Option (List Word)) → values_of f xs ≡ b → and_more a b ≡ Some us
        → ((rest : List Word) → values_of f xs ≡ Some rest → values_of f (xs ++ ys) ≡ Some (rest ++ vs)) → and_more a
        (values_of f (xs ++ ys)) ≡ Some (us ++ vs)
    go None b e q r = some_none q
    go (Some v) None e q r = some_none q
    go (Some v) (Some rest) e q r = ap (and_more (Some v)) (r rest e) ∙ ap (λ z. Some (z ++ vs)) (same_some q)

argument_above : (a : Argument) (t : ℕ) → t ≤ argument_end a t
argument_above (ByValue e range line) t = omega arith
argument_above (BySet e low high line) t = omega arith
argument_above (ByCopy e type) t = omega arith
argument_above (ByVariable q) t = omega arith
argument_above (ByRoutine r up) t = omega arith
argument_above (ByFormal up index) t = omega arith

argument_below : (a : Argument) (t : ℕ) → AllBelow (argument_end a t) (argument_words a t)
argument_below (ByValue e range line) t = (omega arith, tt)
argument_below (BySet e low high line) t = (omega arith, tt)
argument_below (ByCopy e type) t = (omega arith, tt)
argument_below (ByVariable q) t = (omega arith, tt)
argument_below (ByRoutine r up) t = (omega arith, (omega arith, tt))
argument_below (ByFormal up index) t = (omega arith, (omega arith, tt))

pub arguments_above : (args : Arguments) (d : ℕ) → d ≤ arguments_end args d
arguments_above no_argument d = omega arith
arguments_above (argument_before a rest) d =
    let t = held (arguments_call rest) d in
    let l = held_above (arguments_call rest) d in
    let m = argument_above a t in
    let n = arguments_above rest (argument_end a t) in
    omega (arith, l, m, n)

-- all operands are below the end of the parameters
pub arguments_below : (args : Arguments) (d : ℕ) → AllBelow (arguments_end args d) (arguments_words args d)
arguments_below no_argument d = tt
arguments_below (argument_before a rest) d =
    let t = held (arguments_call rest) d in
    let e = argument_end a t in
    below_both (arguments_end rest e) (argument_words a t) (arguments_words rest e)
    (below_less e (arguments_end rest e) (argument_words a t) (arguments_above rest e) (argument_below a t))
    (arguments_below rest e)

module _ (p : Setting) (c : Activated) where
  -- what an actual parameter leaves in t, and in the scratch block below an end
  pub record ArgumentIn (a : Argument) (kind : Kind) (t last : ℕ) (x : Actual) (w : World) (k : Work) : Type 0 where
    pub passing : Passing
    pub actual : passed_actual passing ≡ x
    pub kind_is : passed_kind passing ≡ kind
    pub at : PassingAt p.program c.ghosts w.made passing
    pub is : IsPassed c.number k.scratch last passing
    pub values : values_of k.temporaries (argument_words a t) ≡ Some (passed_word passing)

  pub record ArgumentsIn (args : Arguments) (kinds : Kinds) (d from : ℕ) (xs : List Actual) (w : World) (k : Work)
      : Type 0 where
    pub passings : List Passing
    pub actuals : passed_actuals passings ≡ xs
    pub kinds_are : passed_kinds passings ≡ kinds
    pub at : PassingsAt p.program c.ghosts w.made passings
    pub last : ℕ
    pub above : from ≤ last
    pub are : ArePassed c.number k.scratch last passings
    pub values : values_of k.temporaries (arguments_words args d) ≡ Some (passed_words passings)

  -- a routine that is declared this many levels up can be called
  pub record DeclaredHere (made : List ℕ) (r up : ℕ) : Type 0 where
    pub outer : tail (routine_at p.program r).chain ≡ drop up (chain_of c)
    pub known : RoutineHere p.program c.ghosts made (kinds_of (routine_at p.program r).formals)
        (result_shape (routine_at p.program r).result) r

  pub declared_here : (made : List ℕ) (r up : ℕ) → DeclaredAt (plain_scope p c) r up → DeclaredHere made r up
  declared_here made r up fits =
      let chain = fits.2 in
      record {
        outer = ap tail chain;
        known = record {
          within = fits.0;
          chain = chain ∙ ap (λ q. r ∷ tail q) (sym chain);
          inner = ap is_program_block chain ∙ two up (chain_of c) fits.1;
          same_kinds = refl;
          same_result = refl;
        };
      }
    where
      two : (up : ℕ) (xs : List ℕ) → up < length xs → is_program_block (r ∷ drop up xs) ≡ false
      two up [] l = absurd (omega arith)
      two zero (x ∷ xs) l = refl
      two (suc up) (x ∷ xs) l = two up xs (omega arith)

module _ (p : Setting) (n : ℕ) (call : Caller) (c : Activated) (active : IsActive p c) where
  abbrev pub ArgumentRuns : Argument → Type 0
  ArgumentRuns a =
      (t x : ℕ) (o : Opening) (w : World) (k : Work) (pc pc' : ℕ) (kind : Kind) → Alive p c w k → IsOpened p c w k t o
      → ArgumentFits (plain_scope p c) o.shapes a kind → Stands (code_in p) c.routine pc
      (argument_code (scope_in p c o) a t x) pc'
      → Runs p (suc n) c t x w k pc pc' (actual_of call a (context_in c o) w)
      (λ y w' k'. ArgumentIn p c a kind t (x + argument_scratch a) y w' k')

  abbrev pub ArgumentsRun : Arguments → Type 0
  ArgumentsRun args =
      (d x : ℕ) (o : Opening) (w : World) (k : Work) (pc pc' : ℕ) (kinds : Kinds) → Alive p c w k → IsOpened p c w k d o
      → ArgumentsFit (plain_scope p c) o.shapes args kinds → Stands (code_in p) c.routine pc
      (arguments_code (scope_in p c o) args d x) pc'
      → Runs p (suc n) c d x w k pc pc' (actuals_of call args (context_in c o) w)
      (λ ys w' k'. ArgumentsIn p c args kinds d x ys w' k')

  -- ---- one parameter

  -- a value that was evaluated is tested
  value_passed : (e : Expr) (range : Range) (shape : Shape) (sort : Sort) (v : Value) (t x line : ℕ) (o : Opening)
      (w : World) (k : Work) (pc pc' : ℕ) (literal : Option ℤ) (kind : Kind) → kind ≡ passed_kind
      (PassValue shape v (word_of sort v)) → SortOf (Whole shape) sort → RangeFits range (Whole shape) → Alive p c w k
      → WordIn k.temporaries w.made t sort v → IsByteOf e v
      → ((z : ℤ) → sort ≡ NumberSort → literal ≡ Some z → number_of v ≡ z) → Stands (code_in p) c.routine pc
      (fitting_code (gives_byte e) literal t range line) pc'
      → Runs p (suc n) c t x w k pc pc' (and_then (fitting range v line (context_in c o) w)
      (λ u w1. Gives (ValueActual u) w1)) (λ y w' k'. ArgumentIn p c (ByValue e range line) kind t (x + 0) y w' k')
  value_passed e Any (PointerShape u) sort v t x line o w k pc pc' literal kind same sorted ranged alive r is known st =
      here p (suc n) c t x w k pc pc' (λ w' k'. ArgumentIn p c (ByValue e Any line) kind t (x + 0)
      (ValueActual v) w' k') st alive
      (record {
        passing = PassValue (PointerShape u) v (word_of sort v);
        actual = refl;
        kind_is = sym same;
        at = subst (HasSort w.made v) sorted r.fits;
        is = ap (λ q. word_of q v) sorted;
        values = ap (λ q. and_more q (Some [])) r.word;
      })
  value_passed e (WithinBounds low high) (NumberShape first narrow) sort v t x line o w k pc pc' literal kind same
      sorted ranged alive r is known st =
      runs_bind p (suc n) c t x t x t x w k pc pc' pc' (fitting (WithinBounds low high) v line (context_in c o) w)
      (λ u w1. Gives (ValueActual u) w1) (λ u w' k'. (u ≡ v) × WordIn k'.temporaries w'.made t NumberSort v
      × (is_between low (number_of v) high ≡ true))
      (λ y w' k'. ArgumentIn p c (ByValue e (WithinBounds low high) line) kind t (x + 0) y w' k') (omega arith)
      (omega arith) (omega arith) (omega arith)
      (fit_runs p (suc n) c active t x o w k pc pc' t low high line (gives_byte e) literal v alive is
      (λ z q. known z sorted q) (subst (λ q. WordIn k.temporaries w.made t q v) sorted r) st)
      (λ u w1 k1 alive1 kept1 y.
      here p (suc n) c t x w1 k1 pc' pc' (λ w' k'. ArgumentIn p c (ByValue e (WithinBounds low high) line) kind t
      (x + 0) (ValueActual u) w' k') refl alive1
      (record {
        passing = PassValue (NumberShape first narrow) v (word_of NumberSort v);
        actual = ap ValueActual (sym y.0);
        kind_is = sym same;
        at = y.1.fits;
        is = refl;
        values = ap (λ q. and_more q (Some [])) y.1.word;
      }))
  value_passed e Any (NumberShape first narrow) sort v t x line o w k pc pc' literal kind same sorted ranged alive r is
      known st = absurd ranged
  value_passed e Any SetShape sort v t x line o w k pc pc' literal kind same sorted ranged alive r is known st = absurd
      ranged
  value_passed e Any (ByteShape a b) sort v t x line o w k pc pc' literal kind same sorted ranged alive r is known st =
      absurd ranged
  value_passed e Any (ArrayShape a b) sort v t x line o w k pc pc' literal kind same sorted ranged alive r is known st =
      absurd ranged
  value_passed e Any (RecordShape a) sort v t x line o w k pc pc' literal kind same sorted ranged alive r is known st =
      absurd ranged
  value_passed e (WithinBounds low high) (PointerShape u) sort v t x line o w k pc pc' literal kind same sorted ranged
      alive r is known st = absurd ranged
  value_passed e (WithinBounds low high) SetShape sort v t x line o w k pc pc' literal kind same sorted ranged alive r
      is known st = absurd ranged
  value_passed e (WithinBounds low high) (ByteShape a b) sort v t x line o w k pc pc' literal kind same sorted ranged
      alive r is known st = absurd ranged
  value_passed e (WithinBounds low high) (ArrayShape a b) sort v t x line o w k pc pc' literal kind same sorted ranged
      alive r is known st = absurd ranged
  value_passed e (WithinBounds low high) (RecordShape a) sort v t x line o w k pc pc' literal kind same sorted ranged
      alive r is known st = absurd ranged

  pub by_value : (e : Expr) (range : Range) (line : ℕ) → FrontRuns p n call c active e → ArgumentRuns
      (ByValue e range line)
  by_value e range line front t x o w k pc pc' kind alive opened fits st =
      let code = scope_in p c o in
      let ctx = context_in c o in
      let sort = fits.3.0 in
      let cut = split (code_in p) c.routine pc (expr_code code e t x)
      (fitting_code (gives_byte e) (literal_of e) t range line) pc' st in
      runs_bind p (suc n) c t x t x t x w k pc cut.0 pc' (value call e ctx w)
      (λ y w2. and_then (fitting range y line ctx w2) (λ u w3. Gives (ValueActual u) w3))
      (λ v w' k'. (WordIn k'.temporaries w'.made t sort v × IsByteOf e v)
      × ((v0 : Value) (w0 : World) → value call e ctx w ≡ Gives v0 w0 → v ≡ v0))
      (λ y w' k'. ArgumentIn p c (ByValue e range line) kind t (x + 0) y w' k') (omega arith) (omega arith)
      (omega arith) (omega arith)
      (runs_told p (suc n) c t x w k pc cut.0 (value call e ctx w)
      (λ v w' k'. WordIn k'.temporaries w'.made t sort v × IsByteOf e v)
      (expr_bytes p n call c active e front t x o w k pc cut.0 sort alive opened fits.3.2 cut.1))
      (λ v w2 k2 alive2 kept2 r2.
      value_passed e range fits.0 sort v t x line o w2 k2 cut.0 pc'
      (literal_of e) kind fits.1 fits.3.1 fits.2 alive2 r2.0.0 r2.0.1
      (λ z qs ql. let known_ = known_is p n call c active e z o w ql
      (subst (λ y. ExprFits (plain_scope p c) o.shapes e y) qs fits.3.2) in ap number_of
      (r2.1 known_.v w known_.gives_it) ∙ known_.is) cut.2)

  pub by_variable : (q : Place) → PlaceRuns p n call c active q → ArgumentRuns (ByVariable q)
  by_variable q place t x o w k pc pc' kind alive opened fits st =
      let code = scope_in p c o in
      let ctx = context_in c o in
      let site = place_site code q t in
      let cut = split (code_in p) c.routine pc (place_code code q t x) _ pc' st in
      runs_bind p (suc n) c t x t x t x w k pc cut.0 pc' (access call q ctx w) (λ s w1. Gives (VariableActual s) w1)
      (λ s w' k'. PlaceIn p n call c active site (place_temporary q t) s (Whole fits.0) w' k')
      (λ y w' k'. ArgumentIn p c (ByVariable q) kind t (x + 0) y w' k') (omega arith) (omega arith) (omega arith)
      (omega arith)
      (place t x o w k pc cut.0 (Whole fits.0) alive opened fits.2 cut.1)
      (λ s w1 k1 alive1 kept1 r.
      let at = r.0 in
      let far = at.offset + site.offset in
      let below = place_below p.program c.ghosts active.small w1 k1.count alive1.holds s at.block far
      (Whole fits.0) at.place in
      gives_word p (suc n) c t x w1 k1 cut.0 pc' t (Address at.block far)
      (λ w' k'. ArgumentIn p c (ByVariable q) kind t (x + 0) (VariableActual s) w' k')
      (offset_step (machine_of p) (state p c w1 k1 cut.0) t site.base site.offset 0 at.block at.offset cut.2.0
      (base_is c cut.0 k1.temporaries site.base ∙ at.base) (lt-ltb far BLOCK_LIMIT below)) cut.2.1
      (omega arith) alive1
      (record {
        passing = PassVariable fits.0 s at.block far;
        actual = refl;
        kind_is = sym fits.1;
        at = at.place;
        is = tt;
        values = ap (λ v. and_more v (Some [])) (put_same k1.temporaries t (Address at.block far));
      }))

  pub by_routine : (r up : ℕ) → ArgumentRuns (ByRoutine r up)
  by_routine r up t x o w k pc pc' kind alive opened fits st =
      let R : World → Work → Type 0 = λ w' k'. ArgumentIn p c (ByRoutine r up) kind t (x + 0)
      (RoutineActual r (above c.env up)) w' k' in
      let one = gives_word p (suc n) c t x w k pc (suc pc) t (RoutineWord r)
      (λ w' k'. k'.temporaries t ≡ Some (RoutineWord r))
      (routine_step (machine_of p) (state p c w k pc) t r st.0) refl (omega arith) alive
      (put_same k.temporaries t (RoutineWord r)) in
      let two = link_to p (suc n) c (suc t) x o w one.work (beside t) up (suc pc) pc' one.alive
      (omega arith) fits.0.1 st.1 in
      let here_ = declared_here p c w.made r up fits.0 in
      let link = two.result.0 in
      let held_ = two.keeps.temporaries t (omega arith) ∙ one.result in
      let value_env = subst (λ q. EnvAt p.program c.ghosts w.made (above c.env up) link q)
      (sym here_.outer) two.result.2 in
      reached_from p (suc n) c t x (suc t) x w w k one.work (state p c w k pc) (state p c w one.work (suc pc)) pc' R R w
      (omega arith) (omega arith) one.comes one.keeps
      (record {
        work = two.work;
        alive = two.alive;
        keeps = two.keeps;
        comes = two.comes;
        result = record {
          passing = PassRoutine (kinds_of (routine_at p.program r).formals)
              (result_shape (routine_at p.program r).result) r (above c.env up) link;
          actual = refl;
          kind_is = sym fits.1;
          at = (here_.known, value_env);
          is = tt;
          values = ap (λ v. and_more v (values_of two.work.temporaries (beside t ∷ []))) held_
              ∙ ap (λ v. and_more (Some (RoutineWord r)) (and_more v (Some []))) two.result.1;
        };
      })
      (λ k' a' y. y)

  pub by_formal : (up index : ℕ) → ArgumentRuns (ByFormal up index)
  by_formal up index t x o w k pc pc' kind alive opened fits st =
      let f = fits.1.1 in
      let kinds = fits.1.0 in
      let result = f.0 in
      let r = formal_run p (suc n) c t x o w k t up index pc pc' kinds result alive (omega arith) fits.0 f.2 st in
      let q = routine_in (frame_of (above c.env up)) index in
      let env = env_in (frame_of (above c.env up)) index in
      let link = r.result.0 in
      record {
        work = r.work;
        alive = r.alive;
        keeps = r.keeps;
        comes = r.comes;
        result = record {
          passing = PassRoutine kinds result q env link;
          actual = refl;
          kind_is = sym f.1;
          at = (r.result.3, r.result.4);
          is = tt;
          values = ap (λ v. and_more v (values_of r.work.temporaries (beside t ∷ []))) r.result.1
              ∙ ap (λ v. and_more (Some (RoutineWord q)) (and_more v (Some []))) r.result.2;
        };
      }

  -- ---- one parameter after another

  pub no_arguments : ArgumentsRun no_argument
  no_arguments d x o w k pc pc' kinds alive opened fits st =
      here p (suc n) c d x w k pc pc' (λ w' k'. ArgumentsIn p c no_argument kinds d x [] w' k') st alive (record {
        passings = [];
        actuals = refl;
        kinds_are = sym fits;
        at = tt;
        last = x;
        above = omega arith;
        are = tt;
        values = refl;
      })

  pub argument_then : (a : Argument) (rest : Arguments) → ArgumentRuns a → ArgumentsRun rest → ArgumentsRun
      (argument_before a rest)
  argument_then a rest first further d x o w k pc pc' kinds alive opened fits st =
      let code = scope_in p c o in
      let ctx = context_in c o in
      let t = held (arguments_call rest) d in
      let lt : d ≤ t = held_above (arguments_call rest) d in
      let e = argument_end a t in
      let le : t ≤ e = argument_above a t in
      let y = x + argument_scratch a in
      let others = fits.1.0 in
      let cut = split (code_in p) c.routine pc (argument_code code a t x) (arguments_code code rest e y) pc' st in
      runs_bind p (suc n) c d x t x e y w k pc cut.0 pc' (actual_of call a ctx w)
      (λ u w1. and_then (actuals_of call rest ctx w1) (λ us w2. Gives (u ∷ us) w2))
      (λ u w' k'. ArgumentIn p c a fits.0 t y u w' k')
      (λ us w' k'. ArgumentsIn p c (argument_before a rest) kinds d x us w' k') lt (omega arith)
      (omega (arith, lt, le)) (omega arith)
      (first t x o w k pc cut.0 fits.0 alive (opened_kept p c d x t w w k k o lt (keeps_refl d x w k) opened) fits.1.2
      cut.1)
      (λ u w1 k1 alive1 kept1 r1.
      runs_bind p (suc n) c e y e y e y w1 k1 cut.0 pc' pc' (actuals_of call rest ctx w1) (λ us w2. Gives (u ∷ us) w2)
      (λ us w' k'. ArgumentsIn p c rest others e y us w' k')
      (λ us w' k'. ArgumentsIn p c (argument_before a rest) kinds d x us w' k') (omega arith) (omega arith)
      (omega arith) (omega arith)
      (further e y o w1 k1 cut.0 pc' others alive1
      (opened_kept p c t x e w w1 k k1 o le kept1 (opened_kept p c d x t w w k k o lt (keeps_refl d x w k) opened))
      fits.1.3 cut.2)
      (λ us w2 k2 alive2 kept2 r2.
      here p (suc n) c e y w2 k2 pc' pc' (λ w' k'. ArgumentsIn p c (argument_before a rest) kinds d x (u ∷ us) w' k')
      refl alive2
      (record {
        passings = r1.passing ∷ r2.passings;
        actuals = ap (λ z. z ∷ passed_actuals r2.passings) r1.actual ∙ ap (λ zs. u ∷ zs) r2.actuals;
        kinds_are = ap (λ z. kind_before z (passed_kinds r2.passings)) r1.kind_is ∙ ap (kind_before fits.0) r2.kinds_are
            ∙ sym fits.1.1;
        at = (
          subst (λ made. PassingAt p.program c.ghosts made r1.passing) (sym kept2.grown.1)
              (passing_grows p.program c.ghosts w1.made kept2.grown.0 r1.passing r1.at),
          r2.at,
        );
        last = r2.last;
        above = let l = r2.above in omega (arith, l);
        are = (passed_kept c.number k1.scratch k2.scratch y r2.last r1.passing r2.above kept2.scratch r1.is, r2.are);
        values = values_both k2.temporaries (argument_words a t) (arguments_words rest e) (passed_word r1.passing)
            (passed_words r2.passings) (values_same k1.temporaries k2.temporaries e (argument_words a t)
            (argument_below a t) kept2.temporaries ∙ r1.values) r2.values;
      })))
