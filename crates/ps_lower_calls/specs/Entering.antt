-- An activation being entered: the words of its frame are placed piece by piece, before a ghost represents them.
use Rattle.std.specs.Prelude.{◌≡◌, ℕ, ◌*◌, ◌<◌, List, ◌∷◌, length, get_or, sum_by, Some}
use Rattle.tac_code.specs.declared.code.TheConstants.{BLOCK_LIMIT}
use Rattle.tac_code.specs.declared.code.Block.TheVariants.{Frame as FrameBlock}
use Rattle.tac_code.specs.declared.code.Base.TheVariants as base
use Rattle.tac_code.specs.Memory.{Words, living}
use Rattle.tac_code.specs.Meaning.{State}
use Rattle.ps_meaning.specs.Worlds.{World}
use Rattle.tac_code_steps.specs.Routines.{AreBelow}
use Rattle.tac_code_steps.specs.Splices.{Piece}
use Rattle.ps_lower_code.specs.Scopes.{Scope}
use Rattle.ps_lower_relation.specs.Ghosts.{Ghost, frames_of, objects_of, tape_of}
use Rattle.ps_lower_relation.specs.Here.{Setting, code_in, Work, Activated, activation}
use Rattle.ps_lower_relation.specs.RunTime.{WritesDo}
use Rattle.ps_lower_calls.specs.Filling.{Filling, Fills}

-- the machine's state, in which the frame of the activation has these words, and the frames of its callers are those of
-- the ghosts
abbrev pub entering : Setting → Activated → List Ghost → World → Words → Work → (place : ℕ) → State
entering p c gs w words k pc =
    record {
      current = activation c pc k.temporaries;
      callers = c.callers;
      memory = record {
        frames = record {
          number = c.number;
          words = words;
        } ∷ frames_of p.program w gs;
        scratch = record {
          number = c.number;
          words = k.scratch;
        } ∷ c.waiting;
        objects = objects_of p.program w.made w.objects;
      };
      count = k.count;
      heap = sum_by (λ t. get_or p.objects t 0) w.made;
      tape = tape_of w.input w.transcript;
    }

-- the same as a block that is filled
abbrev pub frame_filling : Setting → Activated → List Ghost → World → Filling
frame_filling p c gs w =
    record {
      base = base.Frame;
      block = FrameBlock c.number;
      memory = λ scratch words. record {
        frames = record {
          number = c.number;
          words = words;
        } ∷ frames_of p.program w gs;
        scratch = record {
          number = c.number;
          words = scratch;
        } ∷ c.waiting;
        objects = objects_of p.program w.made w.objects;
      };
      heap = sum_by (λ t. get_or p.objects t 0) w.made;
      tape = tape_of w.input w.transcript;
    }

-- code that places these pieces of the frame
abbrev pub Places : Setting → Activated → List Ghost → World → (free : ℕ) → Words → Work → (pc pc' : ℕ) → List Piece
    → Type 0
Places p c gs w free words k pc pc' pieces = Fills p c (frame_filling p c gs w) free words k pc pc' pieces

-- What copies need while a frame of this many words is entered: the run-time routines, numbers of activations that no
-- block has, and a frame of less than 2 ^ 31 bytes.
pub record CanCopy (p : Setting) (c : Activated) (gs : List Ghost) (w : World) (k : Scope) (count size : ℕ)
    : Type 0 where
  pub does : WritesDo p
  pub program : length k.program.routines ≡ length (code_in p).program
  pub number : c.number < count
  pub frames : AreBelow count (frames_of p.program w gs)
  pub waiting : AreBelow count c.waiting
  pub small : 4 * size < BLOCK_LIMIT

-- The words of the scratch block of an activation that waits, in which a call's copies are.
pub record Waits (c : Activated) (caller : ℕ) (theirs : Words) : Type 0 where
  pub other : caller ≡ c.number → ⊥
  pub lives : living c.waiting caller ≡ Some theirs
