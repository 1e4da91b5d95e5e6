-- The run of a whole program, from the entry of its block to its end.
use Rattle.std.proofs.Common.{◌≡◌, ℕ, zero, suc, pos, ◌+◌, ◌/◌, ◌<◌, ◌≤◌, Bool, true, false, not, ◌&&◌, nat_eq}
use Rattle.std.proofs.Common.{nat_lt, if◌then◌else◌, List, [], ◌∷◌, ◌++◌, length, map, get_or, slice_get, replicate}
use Rattle.std.proofs.Common.{Some, None, sum_by, refl, sym, ap, ◌∙◌, subst, append_assoc, append-nil, arith}
use Rattle.std.proofs.Common.{lt-ltb}
use Rattle.std.proofs.lemmas.List.Sums.{sum_by-cons}
use Rattle.std.specs.List.{All}
use Rattle.std.proofs.lemmas.List.{length-map}
use Rattle.behavior.specs.Endings.{Normal, Stack, Stuck, IsMore}
use Rattle.behavior.specs.Transcripts.{Shown, AreBytes}
use Rattle.ps_tree.specs.Types.{DataType}
use Rattle.ps_tree.specs.Tree.{Program, Routine, routine_at, no_routine}
use Rattle.tac_code.specs.declared.code.Value.{Value as Word}
use Rattle.tac_code.specs.declared.code.Value.TheVariants.{Number as Numeral}
use Rattle.tac_code.specs.declared.code.Instruction.{Instruction}
use Rattle.tac_code.specs.declared.code.Instruction.TheVariants.{End}
use Rattle.tac_code.specs.declared.code.TacRoutine.{TacRoutine}
use Rattle.tac_code.specs.Memory.{Words}
use Rattle.tac_code.specs.Meaning.{Code, State, Step, Goes, Over, routines, body_at, with_some, unwritten, is_full}
use Rattle.tac_code.specs.Meaning.{entered, enter, frame_cost}
use Rattle.tac_code.specs.Run.{before, after, tac_run}
use Rattle.tac_code.proofs.Numbers.{quarter}
use Rattle.ps_meaning.specs.Text.{Input, whole_input}
use Rattle.ps_meaning.specs.Values.{Value}
use Rattle.ps_meaning.specs.Worlds.{Outside, Within, World, Answer, Gives, Ends, Done, stop}
use Rattle.ps_meaning.specs.Statements.{Block, passes_stack}
use Rattle.ps_meaning.specs.Calls.{Bound, bind_variables, bind, execute}
use Rattle.ps_meaning.specs.Run.{first_world, shown, run_within}
use Rattle.tac_code_steps.specs.Turns.{behind, tac_turns}
use Rattle.tac_code_steps.specs.Runs.{runs, turns_by, Stands, Stops}
use Rattle.tac_code_steps.specs.Splices.{ArePlaced}
use Rattle.tac_code_steps.proofs.Counting.{in_turns_is_same}
use Rattle.tac_code_steps.proofs.Runs.{split, stops_now, comes_stops}
use Rattle.tac_code_steps.proofs.Instructions.{end_step}
use Rattle.ps_lower_layout.specs.Shapes.{shape_of, word_count}
use Rattle.ps_lower_layout.specs.Frames.{layout_of, entries, is_program_block, places_from, kinds_of, variable_kinds}
use Rattle.ps_lower_code.specs.Routines.{count_parameters, result_end, begin_code, end_code, routine_code}
use Rattle.ps_lower_code.specs.Routines.{parameter_total, scope_of}
use Rattle.ps_lower_code.specs.Statements.{statements_code}
use Rattle.ps_lower_code.specs.Fits.{StatementsFit}
use Rattle.ps_lower_code.specs.Programs.{tac_of, code_of}
use Rattle.ps_lower_relation.specs.Ghosts.{Ghost, pieces, slot_kinds, tape_of, objects_of, ObjectsFit}
use Rattle.ps_lower_relation.specs.Here.{Setting, costs_in, code_in, machine_of, Work, Activated, IsActive, Alive}
use Rattle.ps_lower_relation.specs.Here.{activation, state}
use Rattle.ps_lower_relation.specs.Outcomes.{Runs}
use Rattle.ps_lower_relation.specs.RunTime.{WritesDo}
use Rattle.ps_lower_relation.proofs.Pieces.{pieces_placed, size_length}
use Rattle.ps_lower_calls.specs.Entering.{entering, Places, CanCopy}
use Rattle.ps_lower_calls.specs.Binding.{Extends, variable_slots}
use Rattle.ps_lower_calls.proofs.Binding.{variables_extend, variables_first, variables_from, variables_kinds}
use Rattle.ps_lower_calls.proofs.Binding.{variables_at}
use Rattle.ps_lower_calls.proofs.First.{firsts_fit}
use Rattle.ps_lower_calls.proofs.Begin.{places_outermost}
use Rattle.ps_lower_constructs.specs.Openings.{Opening}
use Rattle.ps_lower_constructs.specs.Tasks.{Nothing}
use Rattle.ps_lower_constructs.proofs.Execute.{execute_runs}
use Rattle.ps_lower_layout.specs.Frames.{result_kinds, listed_kinds}
use Rattle.ps_lower_laws.specs.Fits.{ProgramFits}
use Rattle.ps_lower_laws.specs.Lowers.{AreRunTime, Lowers, LowersInTurns}

-- ---- where the code of a routine is

middle : {A : Type 0} (front back : List A) (x : A) → slice_get (front ++ x ∷ back) (length front) ≡ Some x
middle [] back x = refl
middle (y ∷ front) back x = middle front back x

stands_from : (code : Code) (r : ℕ) (routine : TacRoutine) → slice_get (routines code) r ≡ Some routine
    → (front back : List Instruction) → front ++ back ≡ routine.body → Stands code r (length front) back
    (length routine.body)
stands_from code r routine h front [] e = ap length (sym (append-nil front)) ∙ ap length e
stands_from code r routine h front (i ∷ back) e = (
  ap (λ o. body_at o (length front)) h ∙ ap (λ l. slice_get l (length front)) (sym e) ∙ middle front back i,
  subst (λ n. Stands code r n back (length routine.body)) (longer front i)
      (stands_from code r routine h (front ++ i ∷ []) back (append_assoc front (i ∷ []) back ∙ e)),
)
  where
    longer : (front : List Instruction) (i : Instruction) → length (front ++ i ∷ []) ≡ suc (length front)
    longer [] i = refl
    longer (j ∷ front) i = ap suc (longer front i)

-- ---- sizes

places_length : (m : ℕ) (types : List DataType) → length types ≤ length (places_from m (variable_kinds types))
places_length m [] = omega arith
places_length m (type ∷ rest) = let more = places_length (m + word_count (shape_of type)) rest in omega (arith, more)

routine_there : (program : Program) (rs : List Routine) (more : List TacRoutine) (r : ℕ) → r < length rs → slice_get
    (map (tac_of program) rs ++ more) r ≡ Some (tac_of program (get_or rs r no_routine))
routine_there program [] more r l = absurd (omega arith)
routine_there program (x ∷ rs) more zero l = refl
routine_there program (x ∷ rs) more (suc r) l = routine_there program rs more r (omega arith)

module _ (p : Setting) (fits : ProgramFits p.program) (does : WritesDo p) (input : List ℕ)
    (bytes : AreBytes input) where
  abbrev block : Routine
  block = routine_at p.program 0

  abbrev bound : Bound
  bound = bind_variables block.variables (first_world input)

  abbrev world : World
  world = bound.world

  extends : Extends (first_world input) world
  extends = variables_extend block.variables (first_world input)

  abbrev ghost : Ghost
  ghost = record { number = 0; routine = 0; link = Numeral (pos 0); base = 0; slots = variable_slots block.variables 0 }

  abbrev outermost : Activated
  outermost = record {
    routine = 0;
    outer = [];
    env = Within bound.frame Outside;
    active = 0 ∷ [];
    calls = [];
    ghosts = ghost ∷ [];
    number = 0;
    result = 0;
    line = 0;
    callers = [];
    waiting = [];
  }

  -- ---- the entry of the program block

  cost_first : frame_cost (code_in p) (machine_of p).frames 0 ≡ get_or p.frames 0 0
  cost_first = let l = fits.begins in ap (λ b. if b then get_or p.frames 0 0 else 0)
      (lt-ltb 0 (length (code_in p).program) (omega (arith, l, length-map p.program.routines (tac_of p.program))))

  sum_first : sum_by (λ r. get_or p.frames r 0) (0 ∷ []) ≡ get_or p.frames 0 0 + 0
  sum_first = sum_by-cons (λ q. get_or p.frames q 0) 0 []

  active : IsActive p outermost
  active =
      record {
        small = fits.small;
        within = fits.begins;
        chain = fits.chain;
        spent = λ pc t. ap (λ m. m + 0) cost_first ∙ sym sum_first;
        told = λ pc t. refl;
        below = tt;
        only = (λ e. refl, tt);
      }

  abbrev tac : TacRoutine
  tac = tac_of p.program block

  abbrev words : Words
  words = replicate (layout_of block).size None

  abbrev first_work : Work
  first_work = record { count = 1; temporaries = λ t. slice_get [] t; scratch = unwritten tac.scratch }

  -- the state after the entry
  abbrev first_state : State
  first_state = entered (code_in p) (machine_of p).frames (machine_of p).objects p.stack p.heap tac 0 [] 0 0 []
      (before input)

  entered_is : first_state ≡ entering p outermost [] world words first_work 0
  entered_is =
      ap (λ n. build (replicate n None) [] [] (whole_input input) []) (quarter (layout_of block).size)
      ∙ ap (λ made. build words made [] (whole_input input) []) (sym extends.made)
      ∙ ap (λ objects. build words world.made objects (whole_input input) []) (sym extends.objects)
      ∙ ap (λ i. build words world.made world.objects i []) (sym extends.input)
      ∙ ap (λ transcript. build words world.made world.objects world.input transcript) (sym extends.transcript)
    where
      build : Words → List ℕ → List Value → Input → List ℕ → State
      build ws made objects i transcript =
          record {
            current = activation outermost 0 first_work.temporaries;
            callers = [];
            memory = record {
              frames = record {
                number = 0;
                words = ws;
              } ∷ [];
              scratch = record {
                number = 0;
                words = first_work.scratch;
              } ∷ [];
              objects = objects_of p.program made objects;
            };
            count = 1;
            heap = sum_by (λ t. get_or p.objects t 0) made;
            tape = tape_of i transcript;
          }

  entry_kinds : slot_kinds ghost.slots ≡ entries block
  entry_kinds =
      variables_kinds block.variables 0
      ∙ ap (λ f. result_kinds None ++ listed_kinds (kinds_of f) ++ variable_kinds block.variables)
      (sym fits.outermost.formals)
      ∙ ap (λ o. result_kinds o ++ listed_kinds (kinds_of block.formals) ++ variable_kinds block.variables)
      (sym fits.outermost.result)

  alive : (k : Work) → 1 ≤ k.count → k.scratch ≡ first_work.scratch → Alive p outermost world k
  alive k l e =
      record {
        holds = record {
          fits = (
            entry_kinds,
            firsts_fit world.made world.store block.variables 0
                (variables_first block.variables (first_world input)) (fits.routines 0 fits.begins).variables,
            tt,
          );
          objects = subst (λ made. ObjectsFit p.program made made world.objects) (sym extends.made)
              (subst (ObjectsFit p.program [] []) (sym extends.objects) tt);
          names = (world.next, variables_from block.variables (first_world input), omega arith, tt);
          numbered = (omega arith, tt);
          input = subst (λ i. All (λ b. b < 256) i.left) (sym extends.input) bytes;
        };
        stands = record {
          ghost = ghost;
          is = refl;
          there = refl;
          routine = refl;
          frame = variables_at p.program (ghost ∷ []) world.made block.variables (first_world input);
          rest = tt;
          outermost = λ q. refl;
          linked = ap is_program_block (sym fits.chain);
        };
        room = ap length e ∙ size_length (tac.scratch / 4);
      }

  -- ---- the code of the program block

  there : slice_get (routines (code_in p)) 0 ≡ Some tac
  there = routine_there p.program p.program.routines p.run_time 0 fits.begins

  code : Stands (code_in p) 0 0 (routine_code p.program block) (length tac.body)
  code = stands_from (code_in p) 0 tac there [] (routine_code p.program block) refl

  full_is : is_full (code_in p) (machine_of p).frames (machine_of p).objects p.stack p.heap 0 [] ≡ passes_stack
      (costs_in p) (0 ∷ [])
  full_is =
      let l = fits.begins in
      ap (λ b. b && nat_lt p.stack (get_or p.frames 0 0 + 0))
      (lt-ltb 0 (length (code_in p).program) (omega (arith, l, length-map p.program.routines (tac_of p.program))))
      ∙ ap (nat_lt p.stack) (sym sum_first)

  enters : enter (code_in p) (machine_of p).frames (machine_of p).objects p.stack p.heap 0 [] 0 0 [] (before input)
      ≡ (if passes_stack (costs_in p) (0 ∷ []) then Over (Stack block.line) else Goes first_state)
  enters =
      let full : TacRoutine → Step = λ routine.
      (if not (nat_eq 0 routine.parameters) then Over Stuck else if is_full (code_in p) (machine_of p).frames
      (machine_of p).objects p.stack p.heap 0 [] then Over (Stack routine.line) else Goes
      (entered (code_in p) (machine_of p).frames (machine_of p).objects p.stack p.heap routine 0 [] 0 0 []
      (before input))) in
      ap (λ o. with_some o full) there
      ∙ ap (λ b. if not (nat_eq 0 (if b then 0 else suc (count_parameters (kinds_of block.formals)))) then Over Stuck
      else if is_full (code_in p) (machine_of p).frames (machine_of p).objects p.stack p.heap 0 [] then Over
      (Stack block.line) else Goes first_state) fits.outermost.block
      ∙ ap (λ b. if b then Over (Stack block.line) else Goes first_state) full_is

  apart : ArePlaced (length words) (pieces p.program world ghost)
  apart = subst (λ n. ArePlaced n (pieces p.program world ghost)) (sym (size_length (layout_of block).size))
      (pieces_placed p.program world ghost entry_kinds)

  enough : length block.variables ≤ length (layout_of block).places
  enough = subst (λ ks. length block.variables ≤ length (places_from 1 ks))
      (sym (variables_kinds block.variables 0) ∙ entry_kinds) (places_length 1 block.variables)

  can : CanCopy p outermost [] world (scope_of p.program block) 1 (layout_of block).size
  can = record {
    does = does;
    program = sym (length-map p.program.routines (tac_of p.program));
    number = omega arith;
    frames = tt;
    waiting = tt;
    small = fits.small.frames 0;
  }

  places : (mid : ℕ) → Stands (code_in p) 0 0 (begin_code (scope_of p.program block) block) mid
      → Places p outermost [] world (parameter_total block) words first_work 0 mid (pieces p.program world ghost)
  places mid st = places_outermost p outermost [] world 1 (layout_of block).size ghost
      (scope_of p.program block) words first_work 0 mid can (size_length (layout_of block).size)
      (omega arith) fits.outermost refl enough apart
      (extends.input ∙ ap whole_input (sym (ap (λ i. i.left) extends.input)))
      (variables_first block.variables (first_world input)) (fits.routines 0 fits.begins).variables st

  -- ---- the run

  abbrev meant : ℕ → Answer Done
  meant n = execute p.program (costs_in p) n (Block block.body) (record {
    env = Within bound.frame Outside;
    opened = [];
    active = 0 ∷ [];
    calls = [];
  }) world

  -- after the statements the code ends
  ends : (n : ℕ) (k : Work) (pc mid pc' : ℕ) (a : Answer Done) → Runs p n outermost 0 0 world k pc mid a Nothing
      → Stands (code_in p) 0 mid (end_code block) pc' → Stops (machine_of p) n (state p outermost world k pc) (shown a)
  ends n k pc mid pc' (Gives v w) r st =
      let st' : Stands (code_in p) 0 mid (End ∷ []) pc' = subst
      (λ b. Stands (code_in p) 0 mid (if b then End ∷ [] else result_end block block.result) pc')
      fits.outermost.block st in
      comes_stops r.comes (stops_now n (state p outermost w r.work mid) Normal (λ more. more)
      (end_step (machine_of p) (state p outermost w r.work mid) st'.0))
  ends n k pc mid pc' (Ends transcript ending) r st = r

  -- the whole code, from the state after the entry
  block_runs : (n : ℕ) → Stops (machine_of p) n first_state (shown (meant n))
  block_runs n =
      let scope = scope_of p.program block in
      let begin = begin_code scope block in
      let body = statements_code scope block.body 0 in
      let cut1 = split (code_in p) 0 0 (begin ++ body) (end_code block) (length tac.body) code in
      let cut = split (code_in p) 0 0 begin body cut1.0 cut1.1 in
      let a = places cut.0 cut.1 in
      let more = a.count in
      let o : Opening = record { sites = []; spots = []; shapes = [] } in
      let stands = subst (λ chain. Stands (code_in p) 0 cut.0 (statements_code (record {
        program = p.program;
        chain = chain;
        opened = [];
      }) block.body 0) cut1.0) fits.chain cut.2 in
      let body_fits = subst (λ chain. StatementsFit (record {
        program = p.program;
        chain = chain;
        opened = [];
      }) [] block.body) fits.chain (fits.routines 0 fits.begins).body in
      subst (λ s. Stops (machine_of p) n s (shown (meant n))) (sym entered_is)
      (comes_stops a.comes (ends n a.work cut.0 cut1.0 (length tac.body) (meant n)
      (execute_runs p does fits.routines n outermost active (Block block.body) 0 o world a.work cut.0 cut1.0
      (alive a.work (omega (arith, more)) a.scratch) tt body_fits stands) cut1.2))

  abbrev tac_shows : ℕ → Shown
  tac_shows n = tac_run (code_in p) (machine_of p).frames (machine_of p).objects p.stack p.heap input n

  abbrev program_shows : ℕ → Shown
  program_shows n = run_within p.program p.frames p.objects p.stack p.heap input n

  -- the block with its frame, unless that passes the stack
  meaning : (n : ℕ) → program_shows n ≡ shown
      (if passes_stack (costs_in p) (0 ∷ []) then Ends [] (Stack block.line) else meant n)
  meaning n = go (passes_stack (costs_in p) (0 ∷ []))
    where
      go : (b : Bool) → shown ((if b then stop (Stack block.line)
          else (λ w. execute p.program (costs_in p) n (Block block.body) (record {
            env = Within (bind block.result [] block.variables w).frame Outside;
            opened = [];
            active = 0 ∷ [];
            calls = [];
          }) (bind block.result [] block.variables w).world)) (first_world input)) ≡ shown
          (if b then Ends [] (Stack block.line) else meant n)
      go true = refl
      go false = ap (λ result. shown (execute p.program (costs_in p) n (Block block.body) (record {
        env = Within (bind result [] block.variables (first_world input)).frame Outside;
        opened = [];
        active = 0 ∷ [];
        calls = [];
      }) (bind result [] block.variables (first_world input)).world)) fits.outermost.result

  abbrev tac_turned : ℕ → ℕ
  tac_turned n = tac_turns (code_in p) (machine_of p).frames (machine_of p).objects p.stack p.heap input n

  -- behind the entry the turns are those of the entered state
  turned : (n : ℕ) → passes_stack (costs_in p) (0 ∷ []) ≡ false → tac_turned (suc n) ≡ turns_by (machine_of p) n
      first_state
  turned n q = ap (λ (s : Step). behind s (turns_by (machine_of p) n))
      (enters ∙ ap (λ b. if b then Over (Stack block.line) else Goes first_state) q)

  in_turns : (n : ℕ) → (m : ℕ) × (tac_shows m ≡ program_shows n) × (IsMore (program_shows n).1 → n ≤ tac_turned m)
  in_turns n = go (passes_stack (costs_in p) (0 ∷ [])) refl
    where
      go : (b : Bool) → passes_stack (costs_in p) (0 ∷ []) ≡ b → (m : ℕ) × (tac_shows m ≡ program_shows n)
          × (IsMore (program_shows n).1 → n ≤ tac_turned m)
      go true q =
          let told = meaning n ∙ ap (λ b. shown (if b then Ends [] (Stack block.line) else meant n)) q in (
            1,
            ap (λ s. after s (before input) (runs (machine_of p) 0))
                (enters ∙ ap (λ b. if b then Over (Stack block.line) else Goes first_state) q) ∙ sym told,
            λ more. absurd (subst (λ (x : Shown). IsMore x.1) told more),
          )
      go false q =
          let r = block_runs n in
          let told = meaning n ∙ ap (λ b. shown (if b then Ends [] (Stack block.line) else meant n)) q in (
            suc r.by.0,
            ap (λ s. after s (before input) (runs (machine_of p) r.by.0))
                (enters ∙ ap (λ b. if b then Over (Stack block.line) else Goes first_state) q) ∙ r.by.1 ∙ sym told,
            λ more. subst (λ k. n ≤ k) (sym (turned r.by.0 q))
                (r.by.2 (subst (λ (x : Shown). IsMore x.1) told more)),
          )

pub lowers_in_turns : (run_time : List TacRoutine) → AreRunTime run_time → (program : Program) → ProgramFits program
    → LowersInTurns run_time program
lowers_in_turns run_time does program fits F G S H input bytes n = in_turns (record {
  program = program;
  run_time = run_time;
  frames = F;
  objects = G;
  stack = S;
  heap = H;
}) fits (does program F G S H) input bytes n

-- a turn is an instruction
pub lowers : (run_time : List TacRoutine) → AreRunTime run_time → (program : Program) → ProgramFits program
    → Lowers run_time program
lowers run_time does program fits F G S H input bytes = in_turns_is_same (run_within program F G S H input)
    (code_of run_time program) (record {
      frames = λ r. get_or F r 0;
      objects = λ t. get_or G t 0;
      stack = S;
      heap = H;
      input = input;
    }) (lowers_in_turns run_time does program fits F G S H input bytes)
