-- Calls: the activation that is entered, the test of the stack, and the way back.
use Rattle.std.proofs.Common.{◌≡◌, ℕ, zero, suc, ◌+◌, ◌<◌, ◌≤◌, Bool, true, false, not, ◌&&◌, nat_eq, nat_lt}
use Rattle.std.proofs.Common.{if◌then◌else◌, List, [], ◌∷◌, ◌++◌, length, map, get_or, slice_get, Some, sum_by, refl}
use Rattle.std.proofs.Common.{sym, ap, ◌∙◌, arith, lt-ltb, eq-eqb, eqb-true}
use Rattle.std.proofs.lemmas.List.Sums.{sum_by-cons}
use Rattle.std.proofs.lemmas.List.{length-map}
use Rattle.behavior.specs.Endings.{Stack, Stuck}
use Rattle.ps_tree.specs.Tree.{Program, Routine, no_routine, routine_at}
use Rattle.tac_code.specs.declared.code.Value.{Value as Word}
use Rattle.tac_code.specs.declared.code.TacRoutine.{TacRoutine}
use Rattle.tac_code.specs.Memory.{Living}
use Rattle.tac_code.specs.Meaning.{Step, Goes, Over, with_some, put, frame_cost, open_bytes, open_calls, is_full}
use Rattle.tac_code.specs.Meaning.{entered, enter, leave, Temporaries}
use Rattle.ps_meaning.specs.Worlds.{Env, World}
use Rattle.ps_meaning.specs.Statements.{passes_stack}
use Rattle.tac_code_steps.proofs.Pieces.{some_none}
use Rattle.ps_lower_code.specs.Programs.{tac_of}
use Rattle.ps_lower_code.specs.Routines.{parameter_total}
use Rattle.ps_lower_relation.specs.Ghosts.{Ghost, found, Numbered}
use Rattle.ps_lower_layout.specs.Frames.{is_program_block}
use Rattle.ps_lower_relation.specs.Here.{Setting, costs_in, code_in, machine_of, Work, Activated, IsActive, Below}
use Rattle.ps_lower_relation.specs.Here.{activation, state}

-- the activation that a call enters: its blocks are named by the count of those before
abbrev pub called : (c : Activated) (k : Work) (pc t line r : ℕ) (outer : List ℕ) (env : Env) (ghost : Ghost)
    → Activated
called c k pc t line r outer env ghost =
    record {
      routine = r;
      outer = outer;
      env = env;
      active = r ∷ c.active;
      calls = line ∷ c.calls;
      ghosts = ghost ∷ c.ghosts;
      number = k.count;
      result = t;
      line = line;
      callers = activation c (suc pc) k.temporaries ∷ c.callers;
      waiting = record { number = c.number; words = k.scratch } ∷ c.waiting;
    }

pub found_below : (gs : List Ghost) (count a : ℕ) (g : Ghost) → Numbered gs count → found gs a ≡ Some g → a < count
found_below [] count a g h q = some_none q
found_below (x ∷ gs) count a g h q = go (nat_eq x.number a) refl q (found_below gs x.number a g h.1)
  where
    go : (b : Bool) → nat_eq x.number a ≡ b → (if b then Some x else found gs a) ≡ Some g
        → (found gs a ≡ Some g → a < x.number) → a < count
    go true e r ih = let low = h.0 in let same = eqb-true x.number a e in omega arith
    go false e r ih = let low = h.0 in let l = ih r in omega (arith, low, l)

below_more : (m n : ℕ) (bs : List Living) → m ≤ n → Below m bs → Below n bs
below_more m n [] l h = tt
below_more m n (b ∷ bs) l h = (omega (arith, l, h.0), below_more m n bs l h.1)

module _ (p : Setting) (c : Activated) (active : IsActive p c) where
  program_length : length (code_in p).program ≡ length p.program.routines
  program_length = length-map p.program.routines (tac_of p.program)

  cost_of : (r : ℕ) → r < length p.program.routines → frame_cost (code_in p) (machine_of p).frames r
      ≡ get_or p.frames r 0
  cost_of r l = ap (λ b. if b then get_or p.frames r 0 else 0)
      (lt-ltb r (length (code_in p).program) (omega (arith, l, program_length)))

  -- the bytes of the open frames with one more
  spent_more : (r pc : ℕ) (t : Temporaries) → get_or p.frames r 0 + open_bytes (code_in p) (machine_of p).frames
      (activation c pc t ∷ c.callers) ≡ sum_by (λ q. get_or p.frames q 0) (r ∷ c.active)
  spent_more r pc t = ap (λ m. get_or p.frames r 0 + m) (active.spent pc t) ∙ sym
      (sum_by-cons (λ q. get_or p.frames q 0) r c.active)

  -- the test of the stack is the meaning's
  pub stack_test : (r pc : ℕ) (t : Temporaries) → r < length p.program.routines → is_full (code_in p)
      (machine_of p).frames (machine_of p).objects p.stack p.heap r (activation c pc t ∷ c.callers) ≡ passes_stack
      (costs_in p) (r ∷ c.active)
  stack_test r pc t l =
      ap (λ b. b && nat_lt p.stack (get_or p.frames r 0 + open_bytes (code_in p) (machine_of p).frames
      (activation c pc t ∷ c.callers))) (lt-ltb r (length (code_in p).program) (omega (arith, l, program_length)))
      ∙ ap (nat_lt p.stack) (spent_more r pc t)

  -- what is fixed of the activation that is entered
  pub called_active : (k : Work) (pc t line r : ℕ) (outer : List ℕ) (env : Env) (ghost mine : Ghost)
      → r < length p.program.routines → (routine_at p.program r).chain ≡ r ∷ outer → found c.ghosts c.number ≡ Some mine
      → Numbered c.ghosts k.count → is_program_block (routine_at p.program ghost.routine).chain ≡ false → IsActive p
      (called c k pc t line r outer env ghost)
  called_active k pc t line r outer env ghost mine within chain there numbered inner =
      record {
        small = active.small;
        within = within;
        chain = chain;
        spent = λ pc' t'. ap (λ m. m + open_bytes (code_in p) (machine_of p).frames
            (activation c (suc pc) k.temporaries ∷ c.callers)) (cost_of r within) ∙ spent_more r (suc pc) k.temporaries;
        told = λ pc' t'. ap (λ b. if b then line ∷ open_calls (length (code_in p).program)
            (activation c (suc pc) k.temporaries) c.callers else open_calls (length (code_in p).program)
            (activation c (suc pc) k.temporaries) c.callers)
            (lt-ltb r (length (code_in p).program) (omega (arith, within, program_length))) ∙ ap (λ l. line ∷ l)
            (active.told (suc pc) k.temporaries);
        below = let l = found_below c.ghosts k.count c.number mine numbered there
            in (l, below_more c.number k.count c.waiting (omega (arith, l)) active.below);
        only = (λ e. let no : true ≡ false = sym e ∙ inner in absurd (cc), active.only);
      }

pub map_there : (program : Program) (rs : List Routine) (more : List TacRoutine) (r : ℕ) → r < length rs → slice_get
    (map (tac_of program) rs ++ more) r ≡ Some (tac_of program (get_or rs r no_routine))
map_there program [] more r l = absurd (omega arith)
map_there program (x ∷ rs) more zero l = refl
map_there program (x ∷ rs) more (suc r) l = map_there program rs more r (omega arith)

module _ (p : Setting) (c : Activated) (active : IsActive p c) where
  -- the step into a routine: a stop at its `begin`, or its new blocks
  pub enters : (w : World) (k : Work) (pc t line r : ℕ) (values : List Word) → r < length p.program.routines
      → length values ≡ parameter_total (routine_at p.program r) → enter (code_in p) (machine_of p).frames
      (machine_of p).objects p.stack p.heap r values t line (activation c (suc pc) k.temporaries ∷ c.callers)
      (state p c w k pc)
      ≡ (if passes_stack (costs_in p) (r ∷ c.active) then Over (Stack (routine_at p.program r).line) else Goes
      (entered (code_in p) (machine_of p).frames (machine_of p).objects p.stack p.heap
      (tac_of p.program (routine_at p.program r)) r values t line (activation c (suc pc) k.temporaries ∷ c.callers)
      (state p c w k pc)))
  enters w k pc t line r values within count =
      let R = tac_of p.program (routine_at p.program r) in
      let callers = activation c (suc pc) k.temporaries ∷ c.callers in
      let s = state p c w k pc in
      let full : TacRoutine → Step = λ routine.
      (if not (nat_eq (length values) routine.parameters) then Over Stuck else if is_full (code_in p)
      (machine_of p).frames (machine_of p).objects p.stack p.heap r callers then Over (Stack routine.line) else Goes
      (entered (code_in p) (machine_of p).frames
      (machine_of p).objects p.stack p.heap routine r values t line callers s)) in
      ap (λ o. with_some o full) (map_there p.program p.program.routines p.run_time r within)
      ∙ ap (λ b. if not b then Over Stuck else if is_full (code_in p) (machine_of p).frames
      (machine_of p).objects p.stack p.heap r callers then Over (Stack R.line) else Goes
      (entered (code_in p) (machine_of p).frames (machine_of p).objects p.stack p.heap R r values t line callers s))
      (eq-eqb (length values) R.parameters count)
      ∙ ap (λ b. if b then Over (Stack R.line) else Goes
      (entered (code_in p) (machine_of p).frames (machine_of p).objects p.stack p.heap R r values t line callers s))
      (stack_test p c active r (suc pc) k.temporaries within)

  -- the way back: the caller goes on, with the result in its temporary, and the callee's blocks are gone
  pub leaves : (w w' : World) (k k' : Work) (pc pc' t line r : ℕ) (outer : List ℕ) (env : Env) (ghost : Ghost)
      (v : Word) → leave v (activation c (suc pc) k.temporaries ∷ c.callers)
      (state p (called c k pc t line r outer env ghost) w' k' pc') ≡ Goes (state p c w' (record {
        count = k'.count;
        temporaries = put k.temporaries t v;
        scratch = k.scratch;
      }) (suc pc))
  leaves w w' k k' pc pc' t line r outer env ghost v = refl
