-- Assignment statements: what is assigned is tested, and stored.
use Rattle.ps_lower_constructs.proofs.Calling.{Callable}
use Rattle.std.proofs.Common.{◌≡◌, ℕ, suc, ◌≤◌, ℤ, pos, Bool, true, false, not, IsTrue, [], ◌∷◌, ◌++◌, Option}
use Rattle.std.proofs.Common.{Some, refl, sym, ap, ◌∙◌, subst, arith, ◌&&◌, ◌||◌, int_le}
use Rattle.std.proofs.lemmas.Bool.{and_parts}
use Rattle.ps_tree.specs.declared.tree.operators.Range.{Range}
use Rattle.ps_tree.specs.declared.tree.operators.Range.TheVariants.{Any, Within}
use Rattle.ps_tree.specs.Tree.{Expr, Assign, Place}
use Rattle.tac_code.specs.declared.code.Base.{Base}
use Rattle.tac_code.specs.declared.code.Base.TheVariants as base
use Rattle.tac_code.specs.declared.code.Instruction.TheVariants as i
use Rattle.ps_meaning.specs.Values.{Value, Spot, number_of}
use Rattle.ps_meaning.specs.Operators.{is_between}
use Rattle.ps_meaning.specs.Worlds.{World, Gives, and_then, put, with_contents}
use Rattle.ps_meaning.specs.Expressions.{Caller, value, fitting, access}
use Rattle.ps_meaning.specs.Statements.{Next}
use Rattle.tac_code_steps.specs.Runs.{Stands}
use Rattle.tac_code_steps.proofs.Runs.{split}
use Rattle.ps_lower_layout.specs.Shapes.{Shape, NumberShape, PointerShape, SetShape, ByteShape, ArrayShape, RecordShape}
use Rattle.ps_lower_layout.specs.Shapes.{Part, Whole, Byte}
use Rattle.ps_lower_layout.specs.Paths.{Sort, NumberSort}
use Rattle.ps_lower_code.proofs.Gaps.{le_through}
use Rattle.ps_lower_relation.proofs.Spans.{keeps_at}
use Rattle.ps_lower_code.specs.Scopes.{even_from, kept, fitting_code, Site}
use Rattle.ps_lower_code.specs.Calling.{expr_calls}
use Rattle.ps_lower_code.specs.Values.{literal_of, store_code, is_byte, gives_byte, place_temporary, place_site}
use Rattle.ps_lower_code.specs.Values.{place_code}
use Rattle.ps_lower_code.specs.Statements.{expr_code}
use Rattle.ps_lower_code.specs.Fits.{SortOf, RangeFits, ExprFits}
use Rattle.ps_lower_code.proofs.Depths.{even_above, kept_above}
use Rattle.ps_lower_relation.specs.Here.{Setting, code_in, Work, Activated, IsActive, Alive, state, IsBelow, WordIn}
use Rattle.ps_lower_relation.specs.Here.{SiteAt}
use Rattle.ps_lower_relation.specs.Outcomes.{Reached, Runs}
use Rattle.ps_lower_constructs.specs.Openings.{plain_scope, Opening, scope_in, context_in}
use Rattle.ps_lower_constructs.proofs.Runs.{runs_bind, runs_told, keeps_refl, keeps_less}
use Rattle.ps_lower_constructs.proofs.Kept.{opened_kept, site_kept}
use Rattle.ps_lower_constructs.proofs.Values.{IsByteOf, known_is}
use Rattle.ps_lower_constructs.proofs.Expressions.{place_run, byte_runs}
use Rattle.ps_lower_constructs.proofs.Selectors.{PlaceIn, is_byte_part, place_byte}
use Rattle.ps_lower_constructs.specs.Tasks.{Nothing, NextRuns}
use Rattle.ps_lower_constructs.proofs.Checks.{fit_runs, store_runs, store_byte_runs}
use Rattle.ps_lower_relation.specs.RunTime.{WritesDo}
use Rattle.ps_lower_constructs.proofs.Statements.{StatementRuns, place_above}

byte_range : (low z high : ℤ) → IsTrue (int_le (pos 0) low && int_le high (pos 255)) → is_between low z high ≡ true
    → IsTrue (is_between (pos 0) z (pos 255))
byte_range low z high h e =
    let a = and_parts (int_le (pos 0) low) (int_le high (pos 255)) h in
    let b = and_parts (int_le low z) (int_le z high) e in
    ap (λ t. t && int_le z (pos 255)) (le_through (pos 0) low z a.0 b.0) ∙ le_through z high (pos 255) b.1 a.1

module _ (p : Setting) (n : ℕ) (call : Caller) (next : Next) (c : Activated) (active : IsActive p c)
    (nexts : NextRuns p n next) (does : WritesDo p) (calls : Callable p n call) where
  -- ---- the constructs

  -- what was tested is a byte where only bytes go
  keeps_range : (narrow : Bool) (low z high : ℤ) → IsTrue (not narrow || (int_le (pos 0) low && int_le high (pos 255)))
      → is_between low z high ≡ true → IsTrue (not narrow || is_between (pos 0) z (pos 255))
  keeps_range true low z high ranged e = byte_range low z high ranged e
  keeps_range false low z high ranged e = refl

  -- what was evaluated is tested and stored
  fitted : (range : Range) (shape : Shape) (sort : Sort) (v : Value) (d : ℕ) (w : World) (k : Work) (o : Opening)
      (pc mid pc' t line : ℕ) (byte : Bool) (literal : Option ℤ) (site : Site) (s : Spot) → d ≤ suc t → IsBelow
      (suc t) site.base → SortOf (Whole shape) sort → RangeFits range (Whole shape) → Alive p c w k
      → SiteAt p c w.made k.temporaries site s (Whole shape) → WordIn k.temporaries w.made t sort v
      → (byte ≡ true → IsTrue (is_between (pos 0) (number_of v) (pos 255)))
      → ((z : ℤ) → sort ≡ NumberSort → literal ≡ Some z → number_of v ≡ z) → Stands (code_in p) c.routine pc
      (fitting_code byte literal t range line) mid → Stands (code_in p) c.routine mid
      (i.Store site.base site.offset t ∷ []) pc'
      → Runs p (suc n) c d 0 w k pc pc' (and_then (fitting range v line (context_in c o) w) (λ u. put s u)) Nothing
  fitted Any (PointerShape u) sort v d w k o pc mid pc' t line byte literal site s l below sorted ranged alive at r is
      known fit st =
      store_runs p (suc n) c active d 0 w k pc pc' t site s (PointerShape u) v sort alive at sorted r
      (keeps_at s.path v (PointerShape u) tt)
      (subst (λ q. Stands (code_in p) c.routine q (i.Store site.base site.offset t ∷ []) pc') (sym fit) st)
  fitted (Within low high) (NumberShape first narrow) sort v d w k o pc mid pc' t line byte literal site s l below
      sorted ranged alive at r is known fit st =
      runs_bind p (suc n) c d 0 (suc t) 0 d 0 w k pc mid pc' (fitting (Within low high) v line (context_in c o) w)
      (λ u. put s u) (λ u w' k'. (u ≡ v) × WordIn k'.temporaries w'.made t NumberSort v
      × (is_between low (number_of v) high ≡ true)) Nothing l (omega arith) (omega arith) (omega arith)
      (fit_runs p (suc n) c active (suc t) 0 o w k pc mid t low high line byte literal v alive is
      (λ z q. known z sorted q) (subst (λ q. WordIn k.temporaries w.made t q v) sorted r) fit)
      (λ u w1 k1 alive1 kept1 y.
      subst (λ q. Reached p c d 0 w1 k1 (state p c w1 k1 mid) pc' (λ w' k'. Unit {0}) (with_contents w1 s q)) (sym y.0)
      (store_runs p (suc n) c active d 0 w1 k1 mid pc' t site s (NumberShape first narrow) v NumberSort alive1
      (site_kept p c (suc t) 0 w w1 k k1 site s (Whole (NumberShape first narrow)) below kept1 at) refl y.1
      (keeps_at s.path v (NumberShape first narrow) (keeps_range narrow low (number_of v) high ranged.2 y.2)) st))
  fitted Any (NumberShape first narrow) sort v d w k o pc mid pc' t line byte literal site s l below sorted ranged alive
      at r is known fit st = absurd ranged
  fitted Any SetShape sort v d w k o pc mid pc' t line byte literal site s l below sorted ranged alive at r is known fit
      st = absurd ranged
  fitted Any (ByteShape a b) sort v d w k o pc mid pc' t line byte literal site s l below sorted ranged alive at r is
      known fit st = absurd ranged
  fitted Any (ArrayShape a b) sort v d w k o pc mid pc' t line byte literal site s l below sorted ranged alive at r is
      known fit st = absurd ranged
  fitted Any (RecordShape a) sort v d w k o pc mid pc' t line byte literal site s l below sorted ranged alive at r is
      known fit st = absurd ranged
  fitted (Within low high) (PointerShape u) sort v d w k o pc mid pc' t line byte literal site s l below sorted ranged
      alive at r is known fit st = absurd ranged
  fitted (Within low high) SetShape sort v d w k o pc mid pc' t line byte literal site s l below sorted ranged alive at
      r is known fit st = absurd ranged
  fitted (Within low high) (ByteShape a b) sort v d w k o pc mid pc' t line byte literal site s l below sorted ranged
      alive at r is known fit st = absurd ranged
  fitted (Within low high) (ArrayShape a b) sort v d w k o pc mid pc' t line byte literal site s l below sorted ranged
      alive at r is known fit st = absurd ranged
  fitted (Within low high) (RecordShape a) sort v d w k o pc mid pc' t line byte literal site s l below sorted ranged
      alive at r is known fit st = absurd ranged

  -- the same for a part of either kind
  pub fitted_part : (range : Range) (part : Part) (sort : Sort) (v : Value) (d : ℕ) (w : World) (k : Work) (o : Opening)
      (pc mid pc' t line : ℕ) (byte : Bool) (literal : Option ℤ) (site : Site) (s : Spot) → d ≤ suc t → IsBelow
      (suc t) site.base → SortOf part sort → RangeFits range part → Alive p c w k
      → SiteAt p c w.made k.temporaries site s part → WordIn k.temporaries w.made t sort v
      → (byte ≡ true → IsTrue (is_between (pos 0) (number_of v) (pos 255)))
      → ((z : ℤ) → sort ≡ NumberSort → literal ≡ Some z → number_of v ≡ z) → Stands (code_in p) c.routine pc
      (fitting_code byte literal t range line) mid → Stands (code_in p) c.routine mid
      (store_code (is_byte_part p n call c active part) site t) pc'
      → Runs p (suc n) c d 0 w k pc pc' (and_then (fitting range v line (context_in c o) w) (λ u. put s u)) Nothing
  fitted_part range (Whole shape) sort v d w k o pc mid pc' t line byte literal site s l below sorted ranged alive at r
      is known fit st = fitted range shape sort v d w k o pc mid pc' t line byte literal site s l below sorted ranged
      alive at r is known fit st
  fitted_part Any Byte sort v d w k o pc mid pc' t line byte literal site s l below sorted ranged alive at r is known
      fit st = absurd ranged
  fitted_part (Within low high) Byte sort v d w k o pc mid pc' t line byte literal site s l below sorted ranged alive at
      r is known fit st =
      runs_bind p (suc n) c d 0 (suc t) 0 d 0 w k pc mid pc' (fitting (Within low high) v line (context_in c o) w)
      (λ u. put s u) (λ u w' k'. (u ≡ v) × WordIn k'.temporaries w'.made t NumberSort v
      × (is_between low (number_of v) high ≡ true)) Nothing l (omega arith) (omega arith) (omega arith)
      (fit_runs p (suc n) c active (suc t) 0 o w k pc mid t low high line byte literal v alive is
      (λ z q. known z sorted q) (subst (λ q. WordIn k.temporaries w.made t q v) sorted r) fit)
      (λ u w1 k1 alive1 kept1 y.
      subst (λ q. Reached p c d 0 w1 k1 (state p c w1 k1 mid) pc' (λ w' k'. Unit {0}) (with_contents w1 s q)) (sym y.0)
      (store_byte_runs p (suc n) c active d 0 w1 k1 mid pc' t site s v alive1
      (site_kept p c (suc t) 0 w w1 k k1 site s Byte below kept1 at)
      (byte_range low (number_of v) high ranged.2 y.2) y.1 st))

  pub base_below : (a b : ℕ) (x : Base) → a ≤ b → IsBelow a x → IsBelow b x
  base_below a b base.Frame l h = tt
  base_below a b base.Scratch l h = tt
  base_below a b base.Program l h = tt
  base_below a b (base.Temporary u) l h = omega (arith, l, h)

  pub assign_run : (q : Place) (range : Range) (e : Expr) (line : ℕ)
      → StatementRuns p n call next c active nexts does calls (Assign q range e line)
  assign_run q range e line d o w k pc pc' alive opened fits st =
      let code = scope_in p c o in
      let ctx = context_in c o in
      let d0 = kept (expr_calls e) d in
      let l0 : d ≤ d0 = kept_above (expr_calls e) d in
      let tp = place_temporary q d0 in
      let lp : d0 ≤ tp = place_above q d0 in
      let t = even_from (suc tp) in
      let lt : suc tp ≤ t = even_above (suc tp) in
      let site = place_site code q d0 in
      let cut3 = split (code_in p) c.routine pc
      (place_code code q d0 0 ++ expr_code code e t 0 ++ fitting_code (gives_byte e) (literal_of e) t range line)
      (store_code (is_byte q) site t) pc' st in
      let cut2 = split (code_in p) c.routine pc (place_code code q d0 0 ++ expr_code code e t 0)
      (fitting_code (gives_byte e) (literal_of e) t range line) cut3.0 cut3.1 in
      let cut1 = split (code_in p) c.routine pc (place_code code q d0 0) (expr_code code e t 0) cut2.0 cut2.1 in
      let part = fits.0 in
      let sort = fits.3.0 in
      runs_bind p (suc n) c d 0 d0 0 d 0 w k pc cut1.0 pc' (access call q ctx w)
      (λ s w1. and_then (value call e ctx w1) (λ y w2. and_then (fitting range y line ctx w2) (λ v. put s v)))
      (λ s w' k'. PlaceIn p n call c active site tp s fits.0 w' k') Nothing l0 (omega arith) (omega arith)
      (omega arith)
      (place_run p n call c active calls q d0 0 o w k pc cut1.0 fits.0 alive
      (opened_kept p c d 0 d0 w w k k o l0 (keeps_refl d 0 w k) opened) fits.1 cut1.1)
      (λ s w1 k1 alive1 kept1 r1.
      let open1 = opened_kept p c d 0 t w w1 k k1 o (omega (arith, l0, lp, lt))
      (keeps_less d 0 d0 0 l0 (omega arith) kept1) opened in
      runs_bind p (suc n) c d 0 t 0 d 0 w1 k1 cut1.0 cut2.0 pc' (value call e ctx w1)
      (λ y w2. and_then (fitting range y line ctx w2) (λ v. put s v))
      (λ v w' k'. (WordIn k'.temporaries w'.made t sort v × IsByteOf e v)
      × ((v0 : Value) (w0 : World) → value call e ctx w1 ≡ Gives v0 w0 → v ≡ v0)) Nothing
      (omega (arith, l0, lp, lt)) (omega arith) (omega arith) (omega arith)
      (runs_told p (suc n) c t 0 w1 k1 cut1.0 cut2.0 (value call e ctx w1)
      (λ v w' k'. WordIn k'.temporaries w'.made t sort v × IsByteOf e v)
      (byte_runs p n call c active calls e t 0 o w1 k1 cut1.0 cut2.0 sort alive1 open1 fits.3.2 cut1.2))
      (λ v w2 k2 alive2 kept2 r2.
      let at = site_kept p c t 0 w1 w2 k1 k2 site s part (base_below (suc tp) t site.base lt r1.1) kept2 r1.0 in
      fitted_part range part sort v d w2 k2 o cut2.0 cut3.0 pc' t line (gives_byte e) (literal_of e) site s
      (omega (arith, l0, lp, lt)) (base_below (suc tp) (suc t) site.base (omega (arith, lt)) r1.1) fits.3.1 fits.2
      alive2 at r2.0.0 r2.0.1
      (λ z qs ql. let known_ = known_is p n call c active e z o w1 ql
      (subst (λ y. ExprFits (plain_scope p c) o.shapes e y) qs fits.3.2) in ap number_of
      (r2.1 known_.v w1 known_.gives_it) ∙ known_.is) cut2.2
      (subst (λ b. Stands (code_in p) c.routine cut3.0 (store_code b site t) pc')
      (place_byte p n call c active o q fits.0 fits.1) cut3.2)))
