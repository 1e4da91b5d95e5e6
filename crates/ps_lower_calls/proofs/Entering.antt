-- Code that places the pieces of a frame.
use Rattle.std.proofs.Common.{◌≡◌, ℕ, suc, ◌*◌, ◌<◌, ◌≤◌, ℤ, List, [], ◌∷◌, ◌++◌, length, Some, None, if◌then◌else◌}
use Rattle.std.proofs.Common.{refl, ap, ◌∙◌}
use Rattle.tac_code.specs.declared.code.Block.TheVariants.{Frame as FrameBlock}
use Rattle.tac_code.specs.declared.code.Value.{Value as Word}
use Rattle.tac_code.specs.declared.code.Value.TheVariants.{Number as Numeral}
use Rattle.tac_code.specs.declared.code.Base.TheVariants as base
use Rattle.tac_code.specs.declared.code.Instruction.TheVariants as i
use Rattle.tac_code.specs.Memory.{Words, Living, with_word, changed, instead, behind, with_frames, store}
use Rattle.ps_meaning.specs.Worlds.{World}
use Rattle.tac_code_steps.specs.Runs.{Stands}
use Rattle.tac_code_steps.specs.Splices.{spliced, Piece, placed}
use Rattle.tac_code_steps.proofs.Blocks.{word_written}
use Rattle.ps_lower_relation.specs.Ghosts.{Ghost, frames_of}
use Rattle.ps_lower_relation.specs.Here.{Setting, code_in, Work, Activated}
use Rattle.ps_lower_calls.specs.Filling.{Filling}
use Rattle.ps_lower_calls.specs.Entering.{entering, Places, frame_filling, CanCopy}
use Rattle.ps_lower_calls.proofs.Filling.{with_temporary, CanFill, fills_none, fills_then, fills_as, fills_word}
use Rattle.ps_lower_calls.proofs.Filling.{fills_literal}
use Rattle.ps_lower_relation.proofs.Copies.{Holding}
use Rattle.ps_lower_code.specs.Scopes.{Scope}
use Rattle.tac_code_steps.proofs.Blocks.{word_read}
use Rattle.tac_code.specs.Memory.{living, known, value_in}
use Rattle.tac_code.proofs.Numbers.{eq_same}

module _ (p : Setting) (c : Activated) (gs : List Ghost) (w : World) where
  abbrev frame : Filling
  frame = frame_filling p c gs w

  pub places_none : (free : ℕ) (words : Words) (k : Work) (pc pc' : ℕ) → pc ≡ pc'
      → Places p c gs w free words k pc pc' []
  places_none free words k pc pc' e = fills_none p c frame free words k pc pc' e

  pub places_then : (free : ℕ) (words : Words) (k : Work) (pc mid pc' : ℕ) (ps qs : List Piece)
      (first : Places p c gs w free words k pc mid ps) → Places p c gs w free (placed ps words) first.work mid pc' qs
      → Places p c gs w free words k pc pc' (ps ++ qs)
  places_then free words k pc mid pc' ps qs a b = fills_then p c frame free words k pc mid pc' ps qs a b

  pub places_as : (free : ℕ) (words : Words) (k : Work) (pc pc' : ℕ) (ps qs : List Piece) → placed ps words
      ≡ placed qs words → Places p c gs w free words k pc pc' ps → Places p c gs w free words k pc pc' qs
  places_as free words k pc pc' ps qs e a = fills_as p c frame free words k pc pc' ps qs e a

  -- a word is stored into the frame
  pub stored : (words : Words) (k : Work) (pc place : ℕ) (v : Word) → place < length words → store
      (entering p c gs w words k pc).memory (FrameBlock c.number) (4 * place) v ≡ Some
      (entering p c gs w (spliced place (Some v ∷ []) words) k pc).memory
  stored words k pc place v l =
      let memory = (entering p c gs w words k pc).memory in
      let below = frames_of p.program w gs in
      let here : Living = record { number = c.number; words = words } in
      ap (λ b. with_frames memory (if b then instead here below (with_word words (4 * place) v) else behind here
      (changed below c.number (λ ws. with_word ws (4 * place) v)))) (eq_same c.number)
      ∙ ap (λ o. with_frames memory (instead here below o)) (word_written words place v l)

  -- its words by their places
  pub frame_held : (scratch : Words) → Holding p (FrameBlock c.number) (frame.memory scratch)
  frame_held scratch =
      let k : Work = record { count = 0; temporaries = λ t. None; scratch = scratch } in
      record {
        reads = λ words i v e. ap (λ b. value_in (if b then Some words else living (frames_of p.program w gs) c.number)
            (4 * i)) (eq_same c.number) ∙ word_read words i ∙ ap known e;
        writes = λ words i v l. stored words k 0 i v l;
      }

  pub can_fill : (k : Scope) (count size : ℕ) → CanCopy p c gs w k count size → CanFill p c frame k count size
  can_fill k count size can =
      let own = can.number in
      record {
        does = can.does;
        program = can.program;
        holding = frame_held;
        frames = λ scratch words. (own, can.frames);
        waiting = λ scratch words. (own, can.waiting);
        small = can.small;
      }

  pub places_word : (free : ℕ) (words : Words) (k : Work) (pc pc' place offset t : ℕ) (v : Word) → offset ≡ 4 * place
      → place < length words → k.temporaries t ≡ Some v → Stands (code_in p) c.routine pc
      (i.Store base.Frame offset t ∷ []) pc' → Places p c gs w free words k pc pc' (record {
        place = place;
        words = Some v ∷ [];
      } ∷ [])
  places_word free words k pc pc' place offset t v e l h st = fills_word p c frame frame_held free words k pc pc' place
      offset t v (tt, refl) e l h st

  pub after_literal : (free : ℕ) (words : Words) (k : Work) (pc pc' t : ℕ) (z : ℤ) (ps : List Piece) → free ≤ t → Stands
      (code_in p) c.routine pc (i.Literal t z ∷ []) (suc pc) → Places p c gs w free words
      (with_temporary k t (Numeral z)) (suc pc) pc' ps → Places p c gs w free words k pc pc' ps
  after_literal free words k pc pc' t z ps l st a = fills_literal p c frame free words k pc pc' t z ps l st a
