-- The run of a call: the routine is entered, its frame is filled, its statements run, and it returns to its caller.
use Rattle.std.proofs.Common.{◌≡◌, ℕ, suc, pos, ◌+◌, ◌*◌, ◌/◌, ◌<◌, ◌≤◌, Bool, true, false, if◌then◌else◌, List, []}
use Rattle.std.proofs.Common.{◌∷◌, ◌++◌, length, get_or, slice_get, replicate, Option, Some, None, sum_by, refl, sym}
use Rattle.std.proofs.Common.{ap, ◌∙◌, subst, arith}
use Rattle.std.specs.List.{All}
use Rattle.std.proofs.lemmas.List.{length-map}
use Rattle.behavior.specs.Endings.{Stack}
use Rattle.ps_tree.specs.Types.{DataType}
use Rattle.ps_tree.specs.Tree.{Routine, routine_at}
use Rattle.tac_code.specs.declared.code.Block.TheVariants.{Frame as FrameBlock}
use Rattle.tac_code.specs.declared.code.Value.{Value as Word}
use Rattle.tac_code.specs.declared.code.Value.TheVariants.{Number as Numeral, Address}
use Rattle.tac_code.specs.declared.code.Base.TheVariants as base
use Rattle.tac_code.specs.declared.code.Instruction.{Instruction}
use Rattle.tac_code.specs.declared.code.Instruction.TheVariants.{End}
use Rattle.tac_code.specs.declared.code.TacRoutine.{TacRoutine}
use Rattle.tac_code.specs.Memory.{Words, Living, living, load, known}
use Rattle.tac_code.specs.Meaning.{State, Over, Goes, routines, unwritten, entered, enter, fetch, put, text_at}
use Rattle.ps_meaning.specs.Text.{Input}
use Rattle.ps_meaning.specs.Values.{Value, Spot, first}
use Rattle.ps_meaning.specs.Worlds.{Env, Within, World, Answer, Done, stop}
use Rattle.ps_meaning.specs.Expressions.{calling}
use Rattle.ps_meaning.specs.Statements.{Block, Next, passes_stack}
use Rattle.ps_meaning.specs.Calls.{Bound, bind_actuals, bind, call_routine}
use Rattle.tac_code_steps.specs.Turns.{turns_aside}
use Rattle.tac_code_steps.specs.Runs.{step_of, Stands, Comes}
use Rattle.tac_code_steps.specs.Splices.{ArePlaced}
use Rattle.tac_code_steps.proofs.Runs.{split, one_turn, a_step, ◌>>◌, leads_comes, stops_now}
use Rattle.tac_code_steps.proofs.Temporaries.{put_same, put_other}
use Rattle.tac_code_steps.proofs.Instructions.{literal_step, load_step, return_step}
use Rattle.ps_lower_layout.specs.Shapes.{Shape, shape_of}
use Rattle.ps_lower_layout.specs.Words.{value_words}
use Rattle.ps_lower_layout.specs.Frames.{Kinds, Own, kinds_of, result_kinds, listed_kinds, variable_kinds, entries}
use Rattle.ps_lower_layout.specs.Frames.{layout_of, entry_offset, is_program_block}
use Rattle.tac_code.proofs.Impossible.{true_false}
use Rattle.tac_code.proofs.Numbers.{eq_same, quarter}
use Rattle.ps_lower_code.specs.Routines.{begin_code, end_code, result_end, routine_code, parameter_total}
use Rattle.ps_lower_code.specs.Routines.{count_parameters, scope_of}
use Rattle.ps_lower_code.specs.Statements.{statements_code}
use Rattle.ps_lower_code.specs.Programs.{tac_of}
use Rattle.ps_lower_code.specs.Fits.{tail, StatementsFit}
use Rattle.ps_lower_relation.specs.Ghosts.{Ghost, OwnSlot, found, slot_kinds, pieces, frames_of, objects_of, tape_of}
use Rattle.ps_lower_relation.specs.Ghosts.{ObjectsFit, RoutineHere, EnvAt}
use Rattle.ps_lower_relation.specs.Here.{Setting, costs_in, code_in, machine_of, Work, Activated, IsActive, Alive}
use Rattle.ps_lower_relation.specs.Here.{activation, state, context, chain_of}
use Rattle.ps_lower_relation.specs.Outcomes.{Outcome, Reached, Runs}
use Rattle.ps_lower_relation.proofs.Pieces.{pieces_placed, size_length}
use Rattle.ps_lower_relation.proofs.Memory.{frame_read, slot_fits}
use Rattle.ps_lower_relation.proofs.Frames.{place_there, level}
use Rattle.ps_lower_calls.specs.Entering.{entering, Places, CanCopy, Waits}
use Rattle.ps_lower_calls.specs.Binding.{Extends}
use Rattle.ps_lower_calls.specs.Routines.{ResultFits, RoutinesFit}
use Rattle.ps_lower_calls.specs.Passing.{Passing, passed_actuals, passed_kinds, passed_words, bound_slots, with_result}
use Rattle.ps_lower_calls.specs.Passing.{ArePassed, PassingsAt}
use Rattle.ps_lower_calls.proofs.FirstWords.{first_has_shape}
use Rattle.ps_lower_calls.proofs.Kept.{slots_rise, names_less, frames_extended, ghosts_extended}
use Rattle.ps_lower_calls.proofs.Passing.{HaveBound, bound_extends, bound_from, bound_values, bound_at, bound_fit}
use Rattle.ps_lower_calls.proofs.Parameters.{WordsIn}
use Rattle.ps_lower_calls.proofs.Pushed.{env_pushed}
use Rattle.ps_lower_calls.proofs.Grown.{env_grows, passings_pushed}
use Rattle.ps_lower_calls.proofs.Entry.{words_counted, result_bound, bound_entries, places_called}
use Rattle.ps_lower_constructs.specs.Openings.{Opening}
use Rattle.ps_lower_constructs.specs.Tasks.{Nothing, NextRuns}
use Rattle.ps_lower_constructs.proofs.Runs.{with_temporary, outcome_from, outcome_after}
use Rattle.ps_lower_constructs.proofs.Calls.{called, called_active, enters, leaves, map_there}
use Rattle.ps_lower_relation.specs.RunTime.{WritesDo}
use Rattle.ps_lower_constructs.proofs.Writes.{frames_below, waiting_below}
use Rattle.ps_lower_constructs.proofs.RoutinePlaces.{ResultIn, number_in, numbered_less, one_word}
use Rattle.ps_lower_constructs.proofs.RoutinePlaces.{stands_from, words_in}

module _ (p : Setting) (c : Activated) (active : IsActive p c) (fit : RoutinesFit p.program) (does : WritesDo p)
    (w : World) (k : Work) (pc t line r : ℕ) (parent : Env) (link : Word) (ps : List Passing) (kinds : Kinds)
    (shaped : Option Shape) (alive : Alive p c w k) (known_ : RoutineHere p.program c.ghosts w.made kinds shaped r)
    (outside : EnvAt p.program c.ghosts w.made parent link (tail (routine_at p.program r).chain))
    (same : passed_kinds ps ≡ kinds) (passed : PassingsAt p.program c.ghosts w.made ps) (last : ℕ)
    (are : ArePassed c.number k.scratch last ps) where
  abbrev routine : Routine
  routine = routine_at p.program r

  abbrev outer : List ℕ
  outer = tail routine.chain

  abbrev all : List Passing
  all = with_result routine.result ps

  abbrev bound : Bound
  bound = bind_actuals (passed_actuals all) routine.variables w

  abbrev world : World
  world = bound.world

  extends : Extends w world
  extends = bound_extends all routine.variables w

  abbrev ghost : Ghost
  ghost = record {
    number = k.count;
    routine = r;
    link = link;
    base = w.next;
    slots = bound_slots all routine.variables w.next;
  }

  abbrev callee : Activated
  callee = called c k pc t line r outer (Within bound.frame parent) ghost

  kinds_are : passed_kinds ps ≡ kinds_of routine.formals
  kinds_are = same ∙ sym known_.same_kinds

  entry_kinds : slot_kinds ghost.slots ≡ entries routine
  entry_kinds = bound_entries routine ps w.next kinds_are

  mine : (g : Ghost) × (found c.ghosts c.number ≡ Some g)
  mine = let v = level p.program c.ghosts w.made c.env (Address (FrameBlock c.number) 0) (chain_of c) alive.stands
      (omega arith) in (v.ghost, ap (found c.ghosts) (ap number_in v.is) ∙ v.there)

  callee_active : IsActive p callee
  callee_active = called_active p c active k pc t line r outer
      (Within bound.frame parent) ghost mine.0 known_.within known_.chain mine.1 alive.holds.numbered known_.inner

  abbrev tac : TacRoutine
  tac = tac_of p.program routine

  abbrev words : Words
  words = replicate (layout_of routine).size None

  abbrev first_work : Work
  first_work = record {
    count = suc k.count;
    temporaries = λ u. slice_get (link ∷ passed_words ps) u;
    scratch = unwritten tac.scratch;
  }

  abbrev entry_state : State
  entry_state = entered (code_in p) (machine_of p).frames (machine_of p).objects p.stack p.heap tac r
      (link ∷ passed_words ps) t line (activation c (suc pc) k.temporaries ∷ c.callers) (state p c w k pc)

  entered_is : entry_state ≡ entering p callee c.ghosts world words first_work 0
  entered_is =
      ap (λ n. build (replicate n None) (frames_of p.program w c.ghosts) w.made w.objects w.input w.transcript)
      (quarter (layout_of routine).size)
      ∙ ap (λ fs. build words fs w.made w.objects w.input w.transcript)
      (sym (frames_extended p.program w world c.ghosts alive.holds.names extends))
      ∙ ap (λ made. build words (frames_of p.program world c.ghosts) made w.objects w.input w.transcript)
      (sym extends.made)
      ∙ ap (λ objects. build words (frames_of p.program world c.ghosts) world.made objects w.input w.transcript)
      (sym extends.objects)
      ∙ ap (λ i. build words (frames_of p.program world c.ghosts) world.made world.objects i w.transcript)
      (sym extends.input)
      ∙ ap (λ transcript. build words (frames_of p.program world c.ghosts) world.made world.objects world.input
      transcript) (sym extends.transcript)
    where
      build : Words → List Living → List ℕ → List Value → Input → List ℕ → State
      build ws fs made objects i transcript =
          record {
            current = activation callee 0 first_work.temporaries;
            callers = callee.callers;
            memory = record {
              frames = record {
                number = k.count;
                words = ws;
              } ∷ fs;
              scratch = record {
                number = k.count;
                words = first_work.scratch;
              } ∷ callee.waiting;
              objects = objects_of p.program made objects;
            };
            count = suc k.count;
            heap = sum_by (λ y. get_or p.objects y 0) made;
            tape = tape_of i transcript;
          }

  values : HaveBound world.store all routine.variables w.next
  values = bound_values all routine.variables w

  all_passed : PassingsAt p.program c.ghosts world.made all
  all_passed = subst (λ made. PassingsAt p.program c.ghosts made all) (sym extends.made)
      (go routine.result (fit r known_.within).result)
    where
      go : (o : Option DataType) → ResultFits o → PassingsAt p.program c.ghosts w.made (with_result o ps)
      go None f = passed
      go (Some type) f = (first_has_shape w.made type f.2, passed)

  -- ---- the entry

  apart : ArePlaced (layout_of routine).size (pieces p.program world ghost)
  apart = pieces_placed p.program world ghost entry_kinds

  held : WordsIn first_work.temporaries 1 (passed_words ps)
  held = words_in first_work.temporaries 1 (passed_words ps)
      (λ i. let e : 1 + i ≡ suc i = omega arith in ap (λ j. slice_get (link ∷ passed_words ps) j) e)

  can : CanCopy p callee c.ghosts world (scope_of p.program routine) (suc k.count) (layout_of routine).size
  can = record {
    does = does;
    program = sym (length-map p.program.routines (tac_of p.program));
    number = omega arith;
    frames = frames_below p c active world c.ghosts (suc k.count) k.count (omega arith) alive.holds.numbered;
    waiting = waiting_below k.count (suc k.count) callee.waiting (omega arith) callee_active.below;
    small = active.small.frames r;
  }

  -- the caller waits, with its copies
  waits : Waits callee c.number k.scratch
  waits = let l = callee_active.below.0 in record {
    other = λ e. omega (arith, l, e);
    lives = ap (λ b. if b then Some k.scratch else living c.waiting c.number) (eq_same c.number);
  }

  places : (mid : ℕ) → Stands (code_in p) r 0 (begin_code (scope_of p.program routine) routine) mid
      → Places p callee c.ghosts world (parameter_total routine) words first_work 0 mid (pieces p.program world ghost)
  places mid st = places_called p callee c.ghosts world (suc k.count)
      (layout_of routine).size c.number last k.scratch waits ghost routine
      (scope_of p.program routine) ps words first_work 0 mid can (size_length (layout_of routine).size)
      (omega arith) refl known_.inner kinds_are refl are (fit r known_.within).result apart values
      (fit r known_.within).variables refl held st

  there : found (ghost ∷ c.ghosts) k.count ≡ Some ghost
  there = ap (λ b. if b then Some ghost else found c.ghosts k.count) (eq_same k.count)

  not_outermost : {A : Type 0} → outer ≡ [] → A
  not_outermost q = true_false (ap (λ o. is_program_block (r ∷ o)) (sym q) ∙ ap is_program_block (sym known_.chain)
      ∙ known_.inner)

  alive_in : (k' : Work) → suc k.count ≤ k'.count → k'.scratch ≡ first_work.scratch → Alive p callee world k'
  alive_in k' l e =
      record {
        holds = record {
          fits = (
            entry_kinds,
            bound_fit p.program c.ghosts world.made world.store all routine.variables w.next values
                all_passed (fit r known_.within).variables,
            ghosts_extended p.program w world c.ghosts alive.holds.names
                extends alive.holds.fits,
          );
          objects = subst (λ made. ObjectsFit p.program made made world.objects) (sym extends.made)
              (subst (ObjectsFit p.program w.made w.made) (sym extends.objects) alive.holds.objects);
          names = (world.next, bound_from all routine.variables w, omega arith, alive.holds.names);
          numbered = (omega (arith, l), alive.holds.numbered);
          input = subst (λ i. All (λ b. b < 256) i.left) (sym extends.input) alive.holds.input;
        };
        stands = record {
          ghost = ghost;
          is = refl;
          there = there;
          routine = refl;
          frame = bound_at p.program (ghost ∷ c.ghosts) world.made all routine.variables w
              (passings_pushed p.program c.ghosts world.made ghost alive.holds.numbered all all_passed);
          rest = subst (λ made. EnvAt p.program (ghost ∷ c.ghosts) made parent link outer) (sym extends.made)
              (env_pushed p.program c.ghosts w.made ghost alive.holds.numbered parent link outer outside);
          outermost = λ q. not_outermost q;
          linked = ap is_program_block (sym known_.chain);
        };
        room = ap length e ∙ size_length (tac.scratch / 4);
      }

  -- ---- the way back

  abbrev back : Work → Word → Work
  back k' v = record { count = k'.count; temporaries = put k.temporaries t v; scratch = k.scratch }

  alive_back : (w' : World) (k' : Work) (v : Word) (more : List ℕ) → w'.made ≡ world.made ++ more → Alive p callee w' k'
      → Alive p c w' (back k' v)
  alive_back w' k' v more e a =
      let names = a.holds.names in
      let low = names.2 in
      let rise = slots_rise ghost.slots w.next names.0 names.1 in
      let numbered = a.holds.numbered in
      let first = numbered.0 in
      record {
        holds = record {
          fits = a.holds.fits.2;
          objects = a.holds.objects;
          names = names_less c.ghosts w.next w'.next (omega (arith, low, rise)) names.3;
          numbered = numbered_less c.ghosts k.count k'.count (omega (arith, first)) numbered.1;
          input = a.holds.input;
        };
        stands = subst (λ made. EnvAt p.program c.ghosts made c.env (Address (FrameBlock c.number) 0) (chain_of c))
            (sym (e ∙ ap (λ m. m ++ more) extends.made))
            (env_grows p.program c.ghosts w.made more c.env (Address (FrameBlock c.number) 0)
            (chain_of c) alive.stands);
        room = alive.room;
      }

  pub record Returned (w' : World) (k' : Work) (mid : ℕ) : Type 0 where
    pub word : Word
    pub comes : Comes (machine_of p) (state p callee w' k' mid) (state p c w' (back k' word) (suc pc))
    pub result : ResultIn routine.result w.next t w' (back k' word)

  returns : (w' : World) (k' : Work) (mid pc' : ℕ) → Alive p callee w' k' → Stands (code_in p) r mid
      (end_code routine) pc' → Returned w' k' mid
  returns w' k' mid pc' a st = go routine.result refl (fit r known_.within).result
      (subst (λ b. Stands (code_in p) r mid (if b then End ∷ [] else result_end routine routine.result) pc')
      known_.inner st)
    where
      come : (v : Word) → step_of (machine_of p) (state p callee w' k' mid) ≡ Goes
          (state p callee w' (with_temporary k' 0 v) (suc mid)) → step_of (machine_of p)
          (state p callee w' (with_temporary k' 0 v) (suc mid)) ≡ Goes (state p c w' (back k' v) (suc pc)) → Comes
          (machine_of p) (state p callee w' k' mid) (state p c w' (back k' v) (suc pc))
      come v h g = a_step (state p callee w' k' mid) (state p callee w' (with_temporary k' 0 v) (suc mid)) h >> a_step
          (state p callee w' (with_temporary k' 0 v) (suc mid)) (state p c w' (back k' v) (suc pc)) g

      go : (o : Option DataType) → routine.result ≡ o → ResultFits o → Stands (code_in p) r mid
          (result_end routine o) pc' → Returned w' k' mid
      go None e f st' =
          let v = Numeral (pos 0) in
          let s1 = state p callee w' (with_temporary k' 0 v) (suc mid) in
          record {
            word = v;
            comes = come v (literal_step (machine_of p) (state p callee w' k' mid) 0 (pos 0) st'.0)
                (return_step (machine_of p) s1 0 v st'.1.0 (put_same k'.temporaries 0 v) ∙ leaves p c active w w' k
                (with_temporary k' 0 v) pc (suc mid) t line r outer (Within bound.frame parent) ghost v);
            result = subst (λ q. ResultIn q w.next t w' (back k' v)) (sym e) tt;
          }
      go (Some type) e f st' =
          let shape = shape_of type in
          let value = w'.store w.next in
          let one = one_word shape f.0 value f.1 in
          let v = one.0 in
          let s = state p callee w' k' mid in
          let s1 = state p callee w' (with_temporary k' 0 v) (suc mid) in
          let place = get_or (layout_of routine).places 0 0 in
          let slot : slice_get ghost.slots 0 ≡ Some
          (OwnSlot shape w.next) = ap (λ q. slice_get (bound_slots (with_result q ps) routine.variables w.next) 0) e
          in
          let kind : slice_get (entries routine) 0 ≡ Some
          (Own shape) = ap (λ q. slice_get (result_kinds q ++ listed_kinds (kinds_of routine.formals)
          ++ variable_kinds routine.variables) 0) e in
          let one_long : 0 < length (value_words shape value) = subst (λ ws. 0 < length ws) (sym one.1) (omega arith) in
          let offset : entry_offset routine 0 ≡ 4 * place = refl in
          let address : 0 + entry_offset routine 0 ≡ 4 * (place + 0) = omega (arith, offset) in
          let loaded : load (text_at (code_in p)) s.memory (FrameBlock k.count) (0 + entry_offset routine 0) ≡ Some v =
          ap (load (text_at (code_in p)) s.memory (FrameBlock k.count)) address
          ∙ frame_read p.program (text_at (code_in p)) s.memory w' (ghost ∷ c.ghosts) ghost 0 place 0
          (OwnSlot shape w.next) refl a.holds.fits there
          (place_there (entries routine) 0 1 (Own shape) kind) slot one_long
          ∙ ap (λ ws. known (slice_get ws 0)) one.1 in
          record {
            word = v;
            comes = come v (load_step (machine_of p) s 0 base.Frame (entry_offset routine 0)
                (FrameBlock k.count) 0 v st'.0 refl loaded)
                (return_step (machine_of p) s1 0 v st'.1.0 (put_same k'.temporaries 0 v) ∙ leaves p c active w w' k
                (with_temporary k' 0 v) pc (suc mid) t line r outer (Within bound.frame parent) ghost v);
            result = subst (λ q. ResultIn q w.next t w' (back k' v)) (sym e) (
              v,
              put_same k.temporaries t v,
              one.1,
              slot_fits p.program w'.made w'.store ghost.slots 0
                  (OwnSlot shape w.next) a.holds.fits.1 slot,
            );
          }

  -- ---- the call

  code : Stands (code_in p) r 0 (routine_code p.program routine) (length tac.body)
  code = stands_from (code_in p) r tac (map_there p.program p.program.routines p.run_time r known_.within) []
      (routine_code p.program routine) refl

  counted : length (link ∷ passed_words ps) ≡ parameter_total routine
  counted =
      let a = words_counted ps in
      let b = ap count_parameters kinds_are in
      let total : suc (count_parameters (kinds_of routine.formals))
      ≡ parameter_total routine = ap (λ q. if q then 0 else suc (count_parameters (kinds_of routine.formals)))
      (sym known_.inner) in
      omega (arith, a, b, total)

  abbrev Called : (d x : ℕ) → State → Done → World → Type 0
  Called d x s u w' = Reached p c d x w k s (suc pc) (λ w1 k1. ResultIn routine.result w.next t w1 k1) w'

  abbrev meant : Next → Bound → Answer Done
  meant next b = next (Block routine.body) (record {
    env = Within b.frame parent;
    opened = [];
    active = r ∷ c.active;
    calls = line ∷ c.calls;
  }) b.world

  -- from the first instruction of the routine to the one after the call
  inside : (n d x : ℕ) (next : Next) → NextRuns p n next → d ≤ t → Outcome (machine_of p) n entry_state
      (meant next bound) (Called d x entry_state)
  inside n d x next nexts l =
      let scope = scope_of p.program routine in
      let begin = begin_code scope routine in
      let body = statements_code scope routine.body 0 in
      let cut1 = split (code_in p) r 0 (begin ++ body) (end_code routine) (length tac.body) code in
      let cut = split (code_in p) r 0 begin body cut1.0 cut1.1 in
      let a = places cut.0 cut.1 in
      let more = a.count in
      let o : Opening = record { sites = []; spots = []; shapes = [] } in
      let stands = subst (λ chain. Stands (code_in p) r cut.0 (statements_code (record {
        program = p.program;
        chain = chain;
        opened = [];
      }) routine.body 0) cut1.0) known_.chain cut.2 in
      let body_fits = subst (λ chain. StatementsFit (record {
        program = p.program;
        chain = chain;
        opened = [];
      }) [] routine.body) known_.chain (fit r known_.within).body in
      let s0 = state p callee world a.work cut.0 in
      let comes : Comes (machine_of p) entry_state s0 = subst (λ s. Comes (machine_of p) s s0) (sym entered_is) a.comes
      in
      outcome_from n entry_state s0 (meant next bound)
      (λ u w'. Reached p callee 0 0 world a.work s0 cut1.0 (Nothing u) w') (Called d x entry_state) comes
      (nexts callee callee_active (Block routine.body) 0 o world a.work cut.0 cut1.0
      (alive_in a.work (omega (arith, more)) a.scratch) tt body_fits stands)
      (λ u w' z.
      let q = returns w' z.work cut1.0 (length tac.body) z.alive cut1.2 in
      let grown = z.keeps.grown in
      record {
        work = back z.work q.word;
        alive = alive_back w' z.work q.word grown.0 grown.1 z.alive;
        keeps = record {
          temporaries = λ i b. let ne : i ≡ t → ⊥ = λ e. omega arith in put_other k.temporaries t q.word i ne;
          scratch = λ i b. refl;
          grown = (grown.0, grown.1 ∙ ap (λ m. m ++ grown.0) extends.made);
        };
        comes = comes >> z.comes >> q.comes;
        result = q.result;
      })

  -- a call is one instruction, and what the routine does then
  pub call_runs : (n d x : ℕ) (next : Next) (opened : List Spot) → NextRuns p n next → d ≤ t → step_of (machine_of p)
      (state p c w k pc) ≡ enter (code_in p) (machine_of p).frames (machine_of p).objects p.stack p.heap r
      (link ∷ passed_words ps) t line (activation c (suc pc) k.temporaries ∷ c.callers) (state p c w k pc)
      → (one : Instruction) → fetch (code_in p) c.routine pc ≡ Some one → turns_aside (Some one) ≡ true
      → Runs p (suc n) c d x w k pc (suc pc) (call_routine p.program (costs_in p) next r parent (passed_actuals ps)
      (calling line (context c opened)) w) (λ u w' k'. ResultIn routine.result w.next t w' k')
  call_runs n d x next opened nexts l h one at is = go (passes_stack (costs_in p) (r ∷ c.active)) refl
    where
      stepped : step_of (machine_of p) (state p c w k pc)
          ≡ (if passes_stack (costs_in p) (r ∷ c.active) then Over (Stack routine.line) else Goes entry_state)
      stepped = h ∙ enters p c active w k pc t line r (link ∷ passed_words ps) known_.within counted

      go : (b : Bool) → passes_stack (costs_in p) (r ∷ c.active) ≡ b → Runs p (suc n) c d x w k pc (suc pc)
          ((if b then stop (Stack routine.line) else (λ w1. meant next
          (bind routine.result (passed_actuals ps) routine.variables w1))) w)
          (λ u w' k'. ResultIn routine.result w.next t w' k')
      go true e = stops_now (suc n) (state p c w k pc) (Stack routine.line) (λ more. more)
          (stepped ∙ ap (λ q. if q then Over (Stack routine.line) else Goes entry_state) e)
      go false e =
          let lead = one_turn (state p c w k pc) entry_state one at is
          (stepped ∙ ap (λ q. if q then Over (Stack routine.line) else Goes entry_state) e) in
          subst (λ b. Outcome (machine_of p) (suc n) (state p c w k pc) (meant next b) (Called d x (state p c w k pc)))
          (sym (result_bound routine.result ps routine.variables w))
          (outcome_after n (state p c w k pc) entry_state (meant next bound) (Called d x entry_state)
          (Called d x (state p c w k pc)) lead (inside n d x next nexts l)
          (λ u w' z. record {
            work = z.work;
            alive = z.alive;
            keeps = z.keeps;
            comes = leads_comes lead >> z.comes;
            result = z.result;
          }))
