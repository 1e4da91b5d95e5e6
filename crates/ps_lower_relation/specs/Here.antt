-- One activation that runs: what is fixed while it does, what changes, and the machine's state for both.
use Rattle.std.specs.Prelude.{◌≡◌, ℕ, ◌+◌, ◌*◌, ◌/◌, ◌<◌, List, [], ◌∷◌, ◌++◌, length, slice_get, get_or, Option, Some}
use Rattle.std.specs.Prelude.{sum_by}
use Rattle.ps_tree.specs.Tree.{Program, routine_at, domain_at}
use Rattle.tac_code.specs.declared.code.TheConstants.{BLOCK_LIMIT}
use Rattle.tac_code.specs.declared.code.Block.{Block}
use Rattle.tac_code.specs.declared.code.Block.TheVariants.{Frame as FrameBlock, Scratch as ScratchBlock}
use Rattle.tac_code.specs.declared.code.Value.{Value as Word}
use Rattle.tac_code.specs.declared.code.Value.TheVariants.{Number, Address}
use Rattle.tac_code.specs.declared.code.Base.{Base}
use Rattle.tac_code.specs.declared.code.Base.TheVariants as base
use Rattle.tac_code.specs.declared.code.TacRoutine.{TacRoutine}
use Rattle.tac_code.specs.Memory.{Words, Living}
use Rattle.tac_code.specs.Meaning.{Code, Temporaries, Activation, State, open_bytes, open_calls}
use Rattle.ps_meaning.specs.Values.{Value, Spot, number_of}
use Rattle.ps_meaning.specs.Worlds.{Env, Context, World}
use Rattle.ps_meaning.specs.Statements.{Costs}
use Rattle.ps_meaning.specs.Run.{costs_of}
use Rattle.tac_code_steps.specs.Runs.{Machine}
use Rattle.ps_lower_layout.specs.Shapes.{Shape, shape_of, byte_count, Part, Whole}
use Rattle.ps_lower_layout.specs.Frames.{layout_of}
use Rattle.ps_lower_layout.specs.Words.{pointer_word}
use Rattle.ps_lower_layout.specs.Paths.{Sort, NumberSort, PointerSort, HasSort}
use Rattle.ps_lower_code.specs.Scopes.{Site}
use Rattle.ps_lower_code.specs.Routines.{routine_code}
use Rattle.ps_lower_code.specs.Programs.{scratch_in, code_of}
use Rattle.ps_lower_relation.specs.Ghosts.{Ghost, frames_of, objects_of, tape_of, PlaceAt, EnvAt, Holds, OnlyFirst}

-- a program with its run-time routines, what it costs and what it may use
pub record Setting : Type 0 where
  pub program : Program
  pub run_time : List TacRoutine
  pub frames : List ℕ
  pub objects : List ℕ
  pub stack : ℕ
  pub heap : ℕ

abbrev pub costs_in : Setting → Costs
costs_in p = costs_of p.frames p.objects p.stack p.heap

abbrev pub code_in : Setting → Code
code_in p = code_of p.run_time p.program

abbrev pub machine_of : Setting → Machine
machine_of p = record {
  code = code_in p;
  frames = λ r. get_or p.frames r 0;
  objects = λ t. get_or p.objects t 0;
  stack = p.stack;
  heap = p.heap;
}

-- what changes: the number of activations so far, the temporaries, and the words of the scratch block
pub record Work : Type 0 where
  pub count : ℕ
  pub temporaries : Temporaries
  pub scratch : Words

-- An activation: its routine, and those that enclose it; the meaning's environment, open routines and open calls; the
-- ghosts, the first of which is its own; its number, and where its caller waits; the callers, and their scratch blocks.
pub record Activated : Type 0 where
  pub routine : ℕ
  pub outer : List ℕ
  pub env : Env
  pub active : List ℕ
  pub calls : List ℕ
  pub ghosts : List Ghost
  pub number : ℕ
  pub result : ℕ
  pub line : ℕ
  pub callers : List Activation
  pub waiting : List Living

abbrev pub chain_of : Activated → List ℕ
chain_of c = c.routine ∷ c.outer

abbrev pub context : Activated → List Spot → Context
context c opened = record { env = c.env; opened = opened; active = c.active; calls = c.calls }

abbrev pub activation : Activated → (place : ℕ) → Temporaries → Activation
activation c pc t = record {
  routine = c.routine;
  place = pc;
  number = c.number;
  temporaries = t;
  result = c.result;
  line = c.line;
}

abbrev pub state : Setting → Activated → World → Work → (place : ℕ) → State
state p c w k pc =
    record {
      current = activation c pc k.temporaries;
      callers = c.callers;
      memory = record {
        frames = frames_of p.program w c.ghosts;
        scratch = record {
          number = c.number;
          words = k.scratch;
        } ∷ c.waiting;
        objects = objects_of p.program w.made w.objects;
      };
      count = k.count;
      heap = sum_by (λ t. get_or p.objects t 0) w.made;
      tape = tape_of w.input w.transcript;
    }

-- blocks of the callers have lower numbers
abbrev pub Below : ℕ → List Living → Type 0
Below n [] = Unit {0}
Below n (b ∷ bs) = (b.number < n) × Below n bs

-- every frame, every object and every scratch block has less than 2 ^ 31 bytes
pub record AreSmall (program : Program) : Type 0 where
  pub frames : (r : ℕ) → 4 * (layout_of (routine_at program r)).size < BLOCK_LIMIT
  pub objects : (t : ℕ) → byte_count (shape_of (domain_at program t)) < BLOCK_LIMIT
  pub scratch : (r : ℕ) → scratch_in (routine_code program (routine_at program r)) < BLOCK_LIMIT

-- what is fixed for a running activation
pub record IsActive (p : Setting) (c : Activated) : Type 0 where
  pub small : AreSmall p.program
  pub within : c.routine < length p.program.routines
  pub chain : (routine_at p.program c.routine).chain ≡ chain_of c
  -- the costs of the open frames, and the lines of the open calls
  pub spent : (pc : ℕ) (t : Temporaries) → open_bytes (code_in p) (λ r. get_or p.frames r 0)
      (activation c pc t ∷ c.callers) ≡ sum_by (λ r. get_or p.frames r 0) c.active
  pub told : (pc : ℕ) (t : Temporaries) → open_calls (length (code_in p).program) (activation c pc t) c.callers
      ≡ c.calls
  pub below : Below c.number c.waiting
  pub only : OnlyFirst p.program c.ghosts

-- what holds for it at each place: the set of objects that its environment may refer to only grows
pub record Alive (p : Setting) (c : Activated) (w : World) (k : Work) : Type 0 where
  pub holds : Holds p.program c.ghosts w k.count
  pub stands : EnvAt p.program c.ghosts w.made c.env (Address (FrameBlock c.number) 0) (chain_of c)
  pub room : length k.scratch ≡ scratch_in (routine_code p.program (routine_at p.program c.routine)) / 4

-- ---- facts about temporaries

-- what a base is for an activation
abbrev pub base_at : (number : ℕ) → Temporaries → Base → Option Word
base_at number t base.Frame = Some (Address (FrameBlock number) 0)
base_at number t base.Scratch = Some (Address (ScratchBlock number) 0)
base_at number t base.Program = Some (Address (FrameBlock 0) 0)
base_at number t (base.Temporary u) = t u

abbrev pub IsBelow : ℕ → Base → Type 0
IsBelow d (base.Temporary t) = t < d
IsBelow d _ = Unit {0}

-- a site is the address of a part of a variable
pub record SiteAt (p : Setting) (c : Activated) (made : List ℕ) (t : Temporaries) (site : Site) (s : Spot) (part : Part)
    : Type 0 where
  pub block : Block
  pub offset : ℕ
  pub base : base_at c.number t site.base ≡ Some (Address block offset)
  pub place : PlaceAt p.program c.ghosts made s block (offset + site.offset) part

-- the records that `with` opened, at sites in temporaries below d
abbrev pub OpenedAt : Setting → Activated → (made : List ℕ) → Temporaries → (d : ℕ) → List Site → List Spot → List Shape
    → Type 0
OpenedAt p c made t d [] [] [] = Unit {0}
OpenedAt p c made t d (x ∷ xs) (s ∷ ss) (h ∷ hs) = SiteAt p c made t x s (Whole h) × IsBelow d x.base
    × OpenedAt p c made t d xs ss hs
OpenedAt p c made t d xs ss hs = ⊥

abbrev pub word_of : Sort → Value → Word
word_of NumberSort v = Number (number_of v)
word_of (PointerSort t) v = pointer_word v

-- a value of a sort in a temporary
pub record WordIn (t : Temporaries) (made : List ℕ) (d : ℕ) (sort : Sort) (v : Value) : Type 0 where
  pub word : t d ≡ Some (word_of sort v)
  pub fits : HasSort made v sort

-- ---- what code at depths d and x leaves alone
pub record Keeps (d x : ℕ) (w : World) (k : Work) (w' : World) (k' : Work) : Type 0 where
  pub temporaries : (i : ℕ) → i < d → k'.temporaries i ≡ k.temporaries i
  pub scratch : (i : ℕ) → 4 * i < x → slice_get k'.scratch i ≡ slice_get k.scratch i
  pub grown : (more : List ℕ) × (w'.made ≡ w.made ++ more)
