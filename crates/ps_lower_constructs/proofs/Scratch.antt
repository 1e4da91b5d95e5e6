-- Words of the scratch block that the code of an activation names: where they are, and that they are there.
use Rattle.std.proofs.Common.{◌≡◌, ℕ, zero, suc, ◌+◌, ◌*◌, ◌<◌, ◌≤◌, List, [], ◌∷◌, max, length, slice_get, Some, sym}
use Rattle.std.proofs.Common.{ap, ◌∙◌, subst, arith}
use Rattle.std.proofs.Math.Nat.{le-max_left, le-max_right}
use Rattle.ps_tree.specs.Tree.{routine_at}
use Rattle.tac_code.specs.declared.code.Base.TheVariants as base
use Rattle.tac_code.specs.declared.code.Instruction.{Instruction}
use Rattle.tac_code.specs.declared.code.Instruction.TheVariants as i
use Rattle.tac_code.specs.Meaning.{fetch, body_at}
use Rattle.tac_code.specs.declared.code.TheConstants.{BLOCK_LIMIT}
use Rattle.ps_meaning.specs.Worlds.{World}
use Rattle.tac_code_steps.proofs.Pieces.{same_some, some_none}
use Rattle.ps_lower_code.specs.Programs.{meant_by, scratch_in}
use Rattle.ps_lower_code.specs.Routines.{routine_code}
use Rattle.ps_lower_relation.specs.Here.{Setting, code_in, Work, Activated, IsActive, Alive}
use Rattle.ps_lower_relation.proofs.Even.{IsEvenly, one_even}
use Rattle.ps_lower_relation.proofs.EvenRoutines.{even_routine}
use Rattle.ps_lower_constructs.proofs.Calls.{map_there}

-- what an instruction means of the scratch block lies within it
meant_within : (code : List Instruction) (k : ℕ) (x : Instruction) → slice_get code k ≡ Some x
    → meant_by x ≤ scratch_in code
meant_within [] k x e = some_none e
meant_within (y ∷ code) zero x e = subst (λ z. meant_by z ≤ max (meant_by y) (scratch_in code)) (same_some e)
    (le-max_left (meant_by y) (scratch_in code))
meant_within (y ∷ code) (suc k) x e = let l = meant_within code k x e in let r = le-max_right (meant_by y)
    (scratch_in code) in omega (arith, l, r)

module _ (p : Setting) (c : Activated) (active : IsActive p c) where
  abbrev code_here : List Instruction
  code_here = routine_code p.program (routine_at p.program c.routine)

  -- this many bytes from x on
  pub record ScratchAt (x extent : ℕ) : Type 0 where
    pub place : ℕ
    pub is : x ≡ 4 * place
    pub room : x + extent ≤ scratch_in (routine_code p.program (routine_at p.program c.routine))
    pub small : x + extent < BLOCK_LIMIT

  stands_here : (pc : ℕ) (x : Instruction) → fetch (code_in p) c.routine pc ≡ Some x → slice_get code_here pc ≡ Some x
  stands_here pc x h = sym (ap (λ o. body_at o pc)
      (map_there p.program p.program.routines p.run_time c.routine active.within)) ∙ h

  meant : (x extent : ℕ) → IsEvenly x → x + extent ≤ scratch_in code_here → ScratchAt x extent
  meant x extent even room = let s = active.small.scratch c.routine in record {
    place = even.0;
    is = even.1;
    room = room;
    small = omega (arith, room, s);
  }

  pub scratch_offset : (pc t x extent : ℕ) → fetch (code_in p) c.routine pc ≡ Some (i.Offset t base.Scratch x extent)
      → ScratchAt x extent
  scratch_offset pc t x extent h =
      let s = stands_here pc (i.Offset t base.Scratch x extent) h in
      meant x extent (one_even code_here pc (i.Offset t base.Scratch x extent)
      (even_routine p.program (routine_at p.program c.routine)).all s)
      (meant_within code_here pc (i.Offset t base.Scratch x extent) s)

  pub scratch_store : (pc x t : ℕ) → fetch (code_in p) c.routine pc ≡ Some (i.Store base.Scratch x t) → ScratchAt x 4
  scratch_store pc x t h =
      let s = stands_here pc (i.Store base.Scratch x t) h in
      meant x 4 (one_even code_here pc (i.Store base.Scratch x t)
      (even_routine p.program (routine_at p.program c.routine)).all s)
      (meant_within code_here pc (i.Store base.Scratch x t) s)

  -- this many words are there
  pub scratch_room : (x extent words : ℕ) (w : World) (k : Work) → Alive p c w k → (at : ScratchAt x extent) → extent
      ≡ 4 * words → at.place + words ≤ length k.scratch
  scratch_room x extent words w k alive at e = let r = at.room in let q = at.is in let l = alive.room in omega
      (arith, r, q, l, e)
