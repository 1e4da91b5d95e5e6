-- `new` (6.6.5.3): an object is made, filled with first values, and its pointer stored.
use Rattle.ps_lower_constructs.proofs.Calling.{Callable}
use Rattle.std.proofs.Common.{◌≡◌, ℕ, zero, suc, ◌+◌, ◌/◌, ◌<◌, ◌≤◌, Bool, true, false, nat_lt, if◌then◌else◌}
use Rattle.std.proofs.Common.{List, [], ◌∷◌, ◌++◌, length, map, get_or, slice_get, replicate, Some, None}
use Rattle.std.proofs.Common.{sum_by, refl, sym, ap, ◌∙◌, subst, arith}
use Rattle.std.proofs.lemmas.List.{length-map}
use Rattle.behavior.specs.Endings.{Heap}
use Rattle.ps_tree.specs.Types.{DataType, PointerType}
use Rattle.ps_tree.specs.Tree.{Place, Variable, New, domain_at}
use Rattle.tac_code.specs.declared.code.Block.TheVariants.{Frame as FrameBlock, Object}
use Rattle.tac_code.specs.declared.code.Value.{Value as Word}
use Rattle.tac_code.specs.declared.code.Value.TheVariants.{Address}
use Rattle.tac_code.specs.declared.code.Base.TheVariants as base
use Rattle.tac_code.specs.declared.code.Instruction.TheVariants as i
use Rattle.tac_code.specs.Memory.{Words, Living}
use Rattle.tac_code.specs.Meaning.{State, Over, Goes, makes, made}
use Rattle.tac_code.proofs.Items.{end_there}
use Rattle.tac_code.proofs.Numbers.{quarter}
use Rattle.ps_meaning.specs.Values.{Value, ObjectValue, first, Spot}
use Rattle.ps_meaning.specs.Worlds.{World, Gives, done, and_then, stop, put as put_value, with_contents}
use Rattle.ps_meaning.specs.Expressions.{Caller, access}
use Rattle.ps_meaning.specs.Statements.{Next, passes_heap, made_object, new_object}
use Rattle.tac_code_steps.specs.Runs.{step_of, Stands, Comes}
use Rattle.tac_code_steps.specs.Splices.{spliced}
use Rattle.tac_code_steps.proofs.Runs.{split, stops_now, a_step, ◌>>◌}
use Rattle.tac_code_steps.proofs.Temporaries.{put_same, put_other}
use Rattle.tac_code_steps.proofs.Instructions.{new_step}
use Rattle.ps_lower_layout.specs.Shapes.{Shape, PointerShape, shape_of, word_count, Whole}
use Rattle.ps_lower_layout.specs.Words.{value_words, pointer_word}
use Rattle.ps_lower_layout.specs.Paths.{PointerSort}
use Rattle.ps_lower_relation.proofs.Spans.{keeps_at}
use Rattle.ps_lower_layout.proofs.Counted.{counted}
use Rattle.ps_lower_code.specs.Scopes.{even_from, odd_from, held, kept, Site}
use Rattle.ps_lower_code.specs.Calling.{selectors_call}
use Rattle.ps_lower_code.specs.Values.{is_byte, place_temporary, place_site, place_code, store_code}
use Rattle.ps_lower_code.specs.Statements.{first_code}
use Rattle.ps_lower_code.specs.Programs.{object_bytes, tac_of}
use Rattle.ps_lower_code.specs.First.{FirstFits}
use Rattle.ps_lower_code.proofs.Depths.{held_above, even_above}
use Rattle.ps_lower_relation.specs.Ghosts.{objects_of, frames_of, tape_of}
use Rattle.ps_lower_relation.specs.Here.{Setting, machine_of, code_in, costs_in, Work, Activated, chain_of, IsActive}
use Rattle.ps_lower_relation.specs.Here.{Alive, activation, state, IsBelow, SiteAt, Keeps}
use Rattle.ps_lower_relation.specs.Outcomes.{Runs}
use Rattle.ps_lower_relation.specs.RunTime.{WritesDo}
use Rattle.ps_lower_relation.proofs.Pieces.{size_length}
use Rattle.ps_lower_calls.specs.Filling.{filling, Filling}
use Rattle.ps_lower_calls.proofs.Filling.{CanFill}
use Rattle.ps_lower_calls.proofs.Kept.{frames_kept}
use Rattle.ps_lower_calls.proofs.Grown.{env_grows}
use Rattle.ps_lower_calls.proofs.FirstWords.{first_has_shape}
use Rattle.ps_lower_calls.proofs.First.{fills_first}
use Rattle.ps_lower_calls.proofs.Objects.{ghosts_grow, objects_grow, objects_fit_more, words_more, objects_counted}
use Rattle.ps_lower_calls.proofs.Objects.{last_summed, overlaid_all, object_filling, object_held}
use Rattle.ps_lower_constructs.specs.Openings.{Opening, scope_in, plain_scope, context_in}
use Rattle.ps_lower_code.specs.Fits.{StatementFits}
use Rattle.ps_lower_constructs.specs.Tasks.{Nothing, NextRuns}
use Rattle.ps_lower_constructs.proofs.Runs.{with_temporary, runs_bind, runs_from, keeps_refl, keeps_less}
use Rattle.ps_lower_constructs.proofs.Kept.{opened_kept, site_kept, below_more}
use Rattle.ps_lower_constructs.proofs.Writes.{numbered_more, is_fresh}
use Rattle.ps_lower_constructs.proofs.Checks.{store_runs}
use Rattle.ps_lower_constructs.proofs.Selectors.{PlaceIn, place_byte}
use Rattle.ps_lower_constructs.proofs.Expressions.{place_run}
use Rattle.ps_lower_constructs.proofs.Statements.{StatementRuns}

-- an odd temporary is the first of its kind
odd_again : (b : Bool) (d : ℕ) → kept b (odd_from d) ≡ odd_from d
odd_again true d = omega arith
odd_again false d = refl

pub place_held : (q : Place) (d : ℕ) → place_temporary q (held true d) ≡ held true d
place_held (Variable name selectors) d = odd_again (selectors_call selectors) d

mapped : (types : List DataType) (t : ℕ) → t < length types → slice_get (map object_bytes types) t ≡ Some
    (object_bytes (get_or types t (PointerType 0)))
mapped [] t l = absurd (omega (arith, l))
mapped (x ∷ types) zero l = refl
mapped (x ∷ types) (suc t) l = mapped types t (omega (arith, l))

module _ (p : Setting) (n : ℕ) (c : Activated) (active : IsActive p c) (does : WritesDo p) (w : World)
    (pointer : ℕ) where
  abbrev type : DataType
  type = domain_at p.program pointer

  abbrev shape : Shape
  shape = shape_of type

  abbrev after : World
  after = record w { objects = w.objects ++ first type ∷ []; made = w.made ++ pointer ∷ [] }

  abbrev object : Value
  object = ObjectValue (length w.objects)

  abbrev costs : ℕ → ℕ
  costs t = get_or p.objects t 0

  -- the step that makes it
  made_step : (k : Work) (pc t line : ℕ) → pointer < length p.program.domains → step_of (machine_of p)
      (state p c w k pc) ≡ makes (code_in p) (machine_of p).frames (machine_of p).objects p.stack p.heap t pointer
      (object_bytes type) line (state p c w k pc) → step_of (machine_of p) (state p c w k pc)
      ≡ (if passes_heap (costs_in p) (w.made ++ pointer ∷ []) then Over (Heap line) else Goes
      (made (code_in p) (machine_of p).frames (machine_of p).objects p.stack p.heap t pointer (object_bytes type)
      (state p c w k pc)))
  made_step k pc t line l h = h ∙ ap (λ m. if nat_lt p.heap m then Over (Heap line) else Goes
      (made (code_in p) (machine_of p).frames (machine_of p).objects p.stack p.heap t pointer (object_bytes type)
      (state p c w k pc))) (sym (last_summed costs w.made pointer))

  -- what holds for the world with the object
  grown : (k k' : Work) → Alive p c w k → k.count ≤ k'.count → length k'.scratch ≡ length k.scratch → FirstFits shape
      → Alive p c after k'
  grown k k' alive more room fit =
      record {
        holds = record {
          fits = ghosts_grow p.program w.made (pointer ∷ []) w.store c.ghosts alive.holds.fits;
          objects = objects_fit_more p.program after.made w.made w.objects pointer (first type)
              (objects_grow p.program w.made (pointer ∷ []) w.made w.objects alive.holds.objects)
              (first_has_shape after.made type fit);
          names = alive.holds.names;
          numbered = numbered_more c.ghosts k.count k'.count more alive.holds.numbered;
          input = alive.holds.input;
        };
        stands = env_grows p.program c.ghosts w.made (pointer ∷ []) c.env (Address (FrameBlock c.number) 0)
            (chain_of c) alive.stands;
        room = room ∙ alive.room;
      }

  -- the object is made and filled
  made_run : (k : Work) (o : Opening) (pc mid t free line : ℕ) → pointer < length p.program.domains → FirstFits shape
      → Alive p c w k → suc t ≤ free → passes_heap (costs_in p) (w.made ++ pointer ∷ []) ≡ false → Stands
      (code_in p) c.routine pc (i.New t pointer line ∷ first_code (scope_in p c o) (base.Temporary t) free 0 shape) mid
      → (k' : Work) × Alive p c after k' × Keeps t 0 w k after k' × Comes (machine_of p) (state p c w k pc)
      (state p c after k' mid) × (k'.temporaries t ≡ Some (pointer_word object))
  made_run k o pc mid t free line l fit alive low few st =
      let f : Filling = object_filling p c w pointer t in
      let before = objects_of p.program w.made w.objects in
      let s = state p c w k pc in
      let bytes = object_bytes type in
      let words : Words = replicate (bytes / 4) None in
      let address : Word = Address (Object (length before)) 0 in
      let k1 = with_temporary k t address in
      let s1 = filling p c f words k1 (suc pc) in
      let size = word_count shape in
      let wide : length words ≡ size = size_length (bytes / 4) ∙ quarter size in
      let all = value_words shape (first type) in
      let full = counted shape (first type) in
      let fresh = is_fresh p c active w k pc alive in
      let can : CanFill p c f (scope_in p c o) k.count size =
      record {
        does = does;
        program = sym (length-map p.program.routines (tac_of p.program));
        holding = λ scratch. object_held p c w pointer t scratch;
        frames = λ scratch ws. fresh.0;
        waiting = λ scratch ws. fresh.1;
        small = active.small.objects pointer;
      } in
      let step = made_step k pc t line l (new_step (machine_of p) s t pointer line bytes st.0
      (mapped p.program.domains pointer l)) ∙ ap (λ b. if b then Over (Heap line) else Goes s1) few in
      let filled = fills_first p c f (scope_in p c o) k.count size can type free words k1 (suc pc) mid 0 0 fit wide
      (omega arith) (low, put_same k.temporaries t address) refl (omega (arith, full, wide)) st.1 in
      let k' = filled.work in
      let same : spliced 0 all words ≡ all = overlaid_all all words (full ∙ sym wide) in
      let counts = objects_counted p.program w.made w.made w.objects alive.holds.objects in
      let up = filled.count in
      let as_state : List Living → List Words → ℕ → State = λ frames objects heap. record {
        current = activation c mid k'.temporaries;
        callers = c.callers;
        memory = record {
          frames = frames;
          scratch = record {
            number = c.number;
            words = k'.scratch;
          } ∷ c.waiting;
          objects = objects;
        };
        count = k'.count;
        heap = heap;
        tape = tape_of w.input w.transcript;
      } in
      let frames = frames_of p.program w c.ghosts in
      let sum = sum_by costs w.made + costs pointer in
      let reached : filling p c f (spliced 0 all words) k' mid ≡ state p c after k' mid =
      ap (λ ws. as_state frames (before ++ ws ∷ []) sum) same
      ∙ ap (λ xs. as_state frames xs sum) (sym
      (words_more p.program w.made w.made w.objects pointer (first type) alive.holds.objects))
      ∙ ap (λ m. as_state frames (objects_of p.program after.made after.objects) m)
      (sym (last_summed costs w.made pointer))
      ∙ ap (λ fs. as_state fs (objects_of p.program after.made after.objects) (sum_by costs after.made))
      (sym (frames_kept p.program w after c.ghosts w.next alive.holds.names refl (λ j b. refl))) in (
        k',
        grown k k' alive (omega (arith, up)) (ap length filled.scratch) fit,
        record {
          temporaries = λ j b. let ne : j ≡ t → ⊥ = λ e. omega (arith, b, e) in filled.temporaries j
              (omega (arith, b, low)) ∙ put_other k.temporaries t address j ne;
          scratch = λ j b. ap (λ ws. slice_get ws j) filled.scratch;
          grown = (pointer ∷ [], refl);
        },
        subst (λ z. Comes (machine_of p) s z) reached (a_step s s1 step >> filled.comes),
        filled.temporaries t low ∙ put_same k.temporaries t address ∙ ap (λ m. Some (Address (Object m) 0)) counts.0,
      )

module _ (p : Setting) (n : ℕ) (call : Caller) (next : Next) (c : Activated) (active : IsActive p c)
    (nexts : NextRuns p n next) (does : WritesDo p) (calls : Callable p n call) where
  -- the object is made, and its pointer stored
  pointer_stored : (q : Place) (pointer line d h t free : ℕ) (o : Opening) (pc' : ℕ) (site : Site) → d ≤ h → suc h ≤ t
      → suc t ≤ free → StatementFits (plain_scope p c) o.shapes (New q pointer line) → (s : Spot) (w1 : World)
      (k1 : Work) (pc1 mid : ℕ) → Alive p c w1 k1 → SiteAt p c w1.made k1.temporaries site s
      (Whole (PointerShape pointer)) → IsBelow (suc h) site.base
      → Stands (code_in p) c.routine pc1 (i.New t pointer line ∷ first_code (scope_in p c o) (base.Temporary t) free 0
      (shape_of (domain_at p.program pointer))) mid → Stands (code_in p) c.routine mid
      (store_code (is_byte q) site t) pc' → (b : Bool) → passes_heap (costs_in p) (w1.made ++ pointer ∷ []) ≡ b
      → Runs p (suc n) c d 0 w1 k1 pc1 pc' (and_then
      ((if b then stop (Heap line) else made_object p.program (costs_in p) call next pointer) w1)
      (λ v w2. put_value s v w2)) Nothing
  pointer_stored q pointer line d h t free o pc' site l0 lt lf fits s w1 k1 pc1 mid alive1 at_site low made_ stored true
      e =
      let bytes = object_bytes (domain_at p.program pointer) in
      let st1 = state p c w1 k1 pc1 in
      stops_now (suc n) st1 (Heap line) (λ more. more)
      (made_step p (suc n) c active does w1 pointer k1 pc1 t line fits.1
      (new_step (machine_of p) st1 t pointer line bytes made_.0 (mapped p.program.domains pointer fits.1))
      ∙ ap (λ z. if z then Over (Heap line) else Goes
      (made (code_in p) (machine_of p).frames (machine_of p).objects p.stack p.heap t pointer bytes st1)) e)
  pointer_stored q pointer line d h t free o pc' site l0 lt lf fits s w1 k1 pc1 mid alive1 at_site low made_ stored
      false e =
      let m = made_run p (suc n) c active does w1 pointer k1 o pc1 mid t free line fits.1 fits.2 alive1 lf e made_ in
      let w2 = after p (suc n) c active does w1 pointer in
      let v = ObjectValue (length w1.objects) in
      let k2 = m.0 in
      let counts = objects_counted p.program w1.made w1.made w1.objects alive1.holds.objects in
      let there : slice_get w2.made (length w1.objects) ≡ Some pointer = ap (slice_get w2.made) (sym counts.1)
      ∙ end_there w1.made pointer in
      runs_from p (suc n) c d 0 w1 w2 k1 k2 pc1 mid pc' (Gives done (with_contents w2 s v)) Nothing m.3
      (keeps_less d 0 t 0 (omega (arith, l0, lt)) (omega arith) m.2)
      (store_runs p (suc n) c active d 0 w2 k2 mid pc' t site s (PointerShape pointer) v (PointerSort pointer) m.1
      (site_kept p c t 0 w1 w2 k1 k2 site s (Whole (PointerShape pointer))
      (below_more p c (suc h) t site.base lt low) m.2 at_site) refl
      (record { word = m.4; fits = there }) (keeps_at s.path v (PointerShape pointer) tt)
      (subst (λ b. Stands (code_in p) c.routine mid (store_code b site t) pc')
      (place_byte p n call c active o q (Whole (PointerShape pointer)) fits.0) stored))

  pub new_run : (q : Place) (pointer line : ℕ) → StatementRuns p n call next c active nexts does calls
      (New q pointer line)
  new_run q pointer line d o w k pc pc' alive opened fits st =
      let code = scope_in p c o in
      let ctx = context_in c o in
      let d0 = held true d in
      let l0 : d ≤ d0 = held_above true d in
      let t = held true (suc d0) in
      let lt : suc d0 ≤ t = held_above true (suc d0) in
      let free = even_from (suc t) in
      let lf : suc t ≤ free = even_above (suc t) in
      let site = place_site code q d0 in
      let shape = shape_of (domain_at p.program pointer) in
      let part = Whole (PointerShape pointer) in
      let filling_ = first_code code (base.Temporary t) free 0 shape in
      let cut1 = split (code_in p) c.routine pc (place_code code q d0 0 ++ i.New t pointer line ∷ filling_)
      (store_code (is_byte q) site t) pc' st in
      let cut = split (code_in p) c.routine pc (place_code code q d0 0) (i.New t pointer line ∷ filling_) cut1.0 cut1.1
      in
      runs_bind p (suc n) c d 0 d0 0 d 0 w k pc cut.0 pc' (access call q ctx w)
      (λ s w1. and_then (new_object p.program (costs_in p) call next pointer line w1) (λ v w2. put_value s v w2))
      (λ s w' k'. PlaceIn p n call c active site (place_temporary q d0) s part w' k') Nothing l0 (omega arith)
      (omega arith) (omega arith)
      (place_run p n call c active calls q d0 0 o w k pc cut.0 part alive
      (opened_kept p c d 0 d0 w w k k o l0 (keeps_refl d 0 w k) opened) fits.0 cut.1)
      (λ s w1 k1 alive1 kept1 r1. pointer_stored q pointer line d d0 t free o pc' site l0 lt lf fits s w1 k1 cut.0
      cut1.0 alive1 r1.0 (subst (λ z. IsBelow (suc z) site.base) (place_held q d) r1.1) cut.2 cut1.2
      (passes_heap (costs_in p) (w1.made ++ pointer ∷ [])) refl)
