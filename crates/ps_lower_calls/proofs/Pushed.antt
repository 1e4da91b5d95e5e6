-- What is known of places, frames and environments outlives a call: a new activation's number is no earlier one's.
use Rattle.std.proofs.Common.{◌≡◌, ℕ, ◌<◌, Bool, true, false, nat_eq, if◌then◌else◌, List, [], ◌∷◌, Some, refl, ap}
use Rattle.std.proofs.Common.{◌∙◌, arith, eqb-true}
use Rattle.std.proofs.lemmas.Bool.{ne_eqb}
use Rattle.ps_tree.specs.Tree.{Program, routine_at}
use Rattle.tac_code.specs.declared.code.Block.{Block}
use Rattle.tac_code.specs.declared.code.Value.{Value as Word}
use Rattle.ps_meaning.specs.Values.{Root, Declared, Made, Spot}
use Rattle.ps_meaning.specs.Worlds.{Env, Outside, Within, Frame, no_entry, variable_before, routine_before}
use Rattle.tac_code_steps.proofs.Pieces.{some_none}
use Rattle.ps_lower_layout.specs.Shapes.{Part, Whole}
use Rattle.ps_lower_code.specs.Fits.{tail}
use Rattle.ps_lower_relation.specs.Ghosts.{Slot, OwnSlot, ReferenceSlot, ClosureSlot, Ghost, found, Numbered, RootAt}
use Rattle.ps_lower_relation.specs.Ghosts.{PlaceAt, EnvAt, FrameAt}

-- a ghost that is found has a number below the count
pub found_less : (gs : List Ghost) (count a : ℕ) (g : Ghost) → Numbered gs count → found gs a ≡ Some g → a < count
found_less [] count a g h q = some_none q
found_less (x ∷ gs) count a g h q = go (nat_eq x.number a) refl q (found_less gs x.number a g h.1)
  where
    go : (b : Bool) → nat_eq x.number a ≡ b → (if b then Some x else found gs a) ≡ Some g
        → (found gs a ≡ Some g → a < x.number) → a < count
    go true e r ih = let low = h.0 in let is = eqb-true x.number a e in omega arith
    go false e r ih = let low = h.0 in let l = ih r in omega (arith, low, l)

module _ (program : Program) (gs : List Ghost) (made : List ℕ) (new : Ghost) (numbered : Numbered gs new.number) where
  pub found_pushed : (a : ℕ) (g : Ghost) → found gs a ≡ Some g → found (new ∷ gs) a ≡ Some g
  found_pushed a g h =
      let low = found_less gs new.number a g numbered h in
      let ne : new.number ≡ a → ⊥ = λ e. omega (arith, low) in
      ap (λ b. if b then Some new else found gs a) (ne_eqb new.number a ne) ∙ h

  root_pushed : (root : Root) (path : List ℕ) (b : Block) (o : ℕ) (part : Part)
      → RootAt program gs made root path b o part → RootAt program (new ∷ gs) made root path b o part
  root_pushed (Declared name) path b o part h = record {
    ghost = h.ghost;
    index = h.index;
    shape = h.shape;
    place = h.place;
    inner = h.inner;
    block = h.block;
    there = found_pushed h.ghost.number h.ghost h.there;
    slot = h.slot;
    stands = h.stands;
    inside = h.inside;
    offset = h.offset;
  }
  root_pushed (Made object) path b o part h = record {
    pointer = h.pointer;
    block = h.block;
    of_type = h.of_type;
    inside = h.inside;
  }

  pub place_pushed : (s : Spot) (b : Block) (o : ℕ) (part : Part) → PlaceAt program gs made s b o part → PlaceAt program
      (new ∷ gs) made s b o part
  place_pushed s b o part h = root_pushed s.root s.path b o part h

  mutual
    pub env_pushed : (env : Env) (w : Word) (chain : List ℕ) → EnvAt program gs made env w chain → EnvAt program
        (new ∷ gs) made env w chain
    env_pushed Outside w [] h = tt
    env_pushed Outside w (r ∷ chain) h = absurd h
    env_pushed (Within f env) w [] h = absurd h
    env_pushed (Within f env) w (r ∷ chain) h =
        record {
          ghost = h.ghost;
          is = h.is;
          there = found_pushed h.ghost.number h.ghost h.there;
          routine = h.routine;
          frame = frame_pushed f h.ghost.slots h.frame;
          rest = env_pushed env h.ghost.link chain h.rest;
          outermost = h.outermost;
          linked = h.linked;
        }

    pub frame_pushed : (f : Frame) (xs : List Slot) → FrameAt program gs made f xs → FrameAt program
        (new ∷ gs) made f xs
    frame_pushed no_entry [] h = tt
    frame_pushed no_entry (x ∷ xs) h = absurd h
    frame_pushed (variable_before s f) [] h = absurd h
    frame_pushed (variable_before s f) (OwnSlot shape n ∷ xs) h = (h.0, frame_pushed f xs h.1)
    frame_pushed (variable_before s f) (ReferenceSlot shape b o ∷ xs) h =
        (place_pushed s b o (Whole shape) h.0, frame_pushed f xs h.1)
    frame_pushed (variable_before s f) (ClosureSlot kinds result r w ∷ xs) h = absurd h
    frame_pushed (routine_before r e f) [] h = absurd h
    frame_pushed (routine_before r e f) (OwnSlot shape n ∷ xs) h = absurd h
    frame_pushed (routine_before r e f) (ReferenceSlot shape b o ∷ xs) h = absurd h
    frame_pushed (routine_before r e f) (ClosureSlot kinds result r' w ∷ xs) h = (
      h.0,
      record {
        within = h.1.within;
        chain = h.1.chain;
        inner = h.1.inner;
        same_kinds = h.1.same_kinds;
        same_result = h.1.same_result;
      },
      env_pushed e w (tail (routine_at program r).chain) h.2,
      frame_pushed f xs h.3,
    )
