-- Frames of an environment, and their entries.
use Rattle.std.proofs.Common.{◌≡◌, ℕ, zero, suc, ◌+◌, ◌<◌, List, [], ◌∷◌, length, drop, get_or, slice_get, Some, refl}
use Rattle.std.proofs.Common.{sym, ap, ◌∙◌, subst, arith}
use Rattle.ps_tree.specs.Tree.{Program, routine_at}
use Rattle.tac_code.specs.declared.code.Block.{Block}
use Rattle.tac_code.specs.declared.code.Block.TheVariants.{Frame as FrameBlock}
use Rattle.tac_code.specs.declared.code.Value.{Value as Word}
use Rattle.tac_code.specs.declared.code.Value.TheVariants.{Address}
use Rattle.ps_meaning.specs.Values.{Declared, entire}
use Rattle.ps_meaning.specs.Worlds.{Env, Outside, Within, Frame, no_entry, variable_before, routine_before, above}
use Rattle.ps_meaning.specs.Worlds.{frame_of, spot_in, routine_in, env_in}
use Rattle.tac_code_steps.proofs.Pieces.{same_some, some_none}
use Rattle.ps_lower_layout.specs.Shapes.{Whole}
use Rattle.ps_lower_layout.specs.Frames.{Kind, Own, Reference, Closure, kind_words, places_from, is_program_block}
use Rattle.ps_lower_code.specs.Fits.{tail}
use Rattle.ps_lower_relation.specs.Ghosts.{Slot, OwnSlot, ReferenceSlot, ClosureSlot, Ghost, slot_kind, slot_kinds}
use Rattle.ps_lower_relation.specs.Ghosts.{found, PlaceAt, RoutineHere, EnvAt, FrameAt}

-- each entry has a place
pub place_there : (ks : List Kind) (i n : ℕ) (kind : Kind) → slice_get ks i ≡ Some kind → slice_get (places_from n ks) i
    ≡ Some (get_or (places_from n ks) i 0)
place_there [] i n kind h = some_none h
place_there (k ∷ ks) zero n kind h = refl
place_there (k ∷ ks) (suc i) n kind h = place_there ks i (n + kind_words k) kind h

module _ (program : Program) (gs : List Ghost) (made : List ℕ) where
  -- what an entry of a frame is, by its kind
  abbrev pub EntryAt : Frame → List Slot → ℕ → Kind → Type 0
  EntryAt f xs i (Own shape) = (n : ℕ) × (slice_get xs i ≡ Some (OwnSlot shape n)) × (spot_in f i ≡ entire (Declared n))
  EntryAt f xs i (Reference shape) = (b : Block)
      × ((o : ℕ) × (slice_get xs i ≡ Some (ReferenceSlot shape b o)) × PlaceAt program gs made (spot_in f i) b o
      (Whole shape))
  EntryAt f xs i (Closure kinds result) = (w : Word)
      × (slice_get xs i ≡ Some (ClosureSlot kinds result (routine_in f i) w)) × RoutineHere program gs made kinds result
      (routine_in f i) × EnvAt program gs made (env_in f i) w (tail (routine_at program (routine_in f i)).chain)

  entry_first : (f : Frame) (x : Slot) (xs : List Slot) → FrameAt program gs made f (x ∷ xs) → EntryAt f (x ∷ xs) 0
      (slot_kind x)
  entry_first no_entry x xs h = absurd h
  entry_first (variable_before s f) (OwnSlot shape n) xs h = (n, refl, h.0)
  entry_first (variable_before s f) (ReferenceSlot shape b o) xs h = (b, (o, refl, h.0))
  entry_first (variable_before s f) (ClosureSlot ks r r' w) xs h = absurd h
  entry_first (routine_before r e f) (OwnSlot shape n) xs h = absurd h
  entry_first (routine_before r e f) (ReferenceSlot shape b o) xs h = absurd h
  entry_first (routine_before r e f) (ClosureSlot ks result r' w) xs h =
      (w, ap (λ z. Some (ClosureSlot ks result z w)) (sym h.0), h.1, h.2)

  -- the same entry, further back in the frame
  entry_behind : (f : Frame) (x : Slot) (xs : List Slot) (i : ℕ) (kind : Kind) → FrameAt program gs made f (x ∷ xs)
      → ((g : Frame) → FrameAt program gs made g xs → EntryAt g xs i kind) → EntryAt f (x ∷ xs) (suc i) kind
  entry_behind no_entry x xs i kind h r = absurd h
  entry_behind (variable_before s f) (OwnSlot shape n) xs i (Own q) h r = r f h.1
  entry_behind (variable_before s f) (OwnSlot shape n) xs i (Reference q) h r = r f h.1
  entry_behind (variable_before s f) (OwnSlot shape n) xs i (Closure ks q) h r = r f h.1
  entry_behind (variable_before s f) (ReferenceSlot shape b o) xs i (Own q) h r = r f h.1
  entry_behind (variable_before s f) (ReferenceSlot shape b o) xs i (Reference q) h r = r f h.1
  entry_behind (variable_before s f) (ReferenceSlot shape b o) xs i (Closure ks q) h r = r f h.1
  entry_behind (variable_before s f) (ClosureSlot ks r0 r' w) xs i kind h r = absurd h
  entry_behind (routine_before r0 e f) (OwnSlot shape n) xs i kind h r = absurd h
  entry_behind (routine_before r0 e f) (ReferenceSlot shape b o) xs i kind h r = absurd h
  entry_behind (routine_before r0 e f) (ClosureSlot ks result r' w) xs i (Own q) h r = r f h.3
  entry_behind (routine_before r0 e f) (ClosureSlot ks result r' w) xs i (Reference q) h r = r f h.3
  entry_behind (routine_before r0 e f) (ClosureSlot ks result r' w) xs i (Closure ks' q) h r = r f h.3

  pub entry : (f : Frame) (xs : List Slot) (i : ℕ) (kind : Kind) → FrameAt program gs made f xs → slice_get
      (slot_kinds xs) i ≡ Some kind → EntryAt f xs i kind
  entry f [] i kind h e = some_none e
  entry f (x ∷ xs) zero kind h e = subst (λ k. EntryAt f (x ∷ xs) 0 k) (same_some e) (entry_first f x xs h)
  entry f (x ∷ xs) (suc i) kind h e = entry_behind f x xs i kind h (λ g q. entry g xs i kind q e)

  -- the frame this many levels up
  pub record LevelAt (env : Env) (w : Word) (chain : List ℕ) : Type 0 where
    pub ghost : Ghost
    pub is : w ≡ Address (FrameBlock ghost.number) 0
    pub there : found gs ghost.number ≡ Some ghost
    pub routine : ghost.routine ≡ get_or chain 0 0
    pub frame : FrameAt program gs made (frame_of env) ghost.slots
    pub rest : EnvAt program gs made (above env 1) ghost.link (tail chain)
    pub outermost : tail chain ≡ [] → ghost.number ≡ 0
    pub linked : is_program_block chain ≡ is_program_block (routine_at program ghost.routine).chain

  pub level : (env : Env) (w : Word) (chain : List ℕ) → EnvAt program gs made env w chain → 0 < length chain
      → LevelAt env w chain
  level Outside w [] h l = absurd (omega arith)
  level Outside w (r ∷ chain) h l = absurd h
  level (Within f env) w [] h l = absurd h
  level (Within f env) w (r ∷ chain) h l =
      record {
        ghost = h.ghost;
        is = h.is;
        there = h.there;
        routine = h.routine;
        frame = h.frame;
        rest = h.rest;
        outermost = h.outermost;
        linked = h.linked ∙ ap (λ q. is_program_block (routine_at program q).chain) (sym h.routine);
      }

  pub above_one : (env : Env) (up : ℕ) → above (above env 1) up ≡ above env (suc up)
  above_one Outside zero = refl
  above_one Outside (suc up) = refl
  above_one (Within f env) up = refl

  -- the environment this many levels up has an address
  pub env_above : (env : Env) (w : Word) (chain : List ℕ) (up : ℕ) → EnvAt program gs made env w chain
      → up < length chain → (w' : Word) × EnvAt program gs made (above env up) w' (drop up chain)
  env_above env w chain zero h l = (w, h)
  env_above Outside w [] (suc up) h l = absurd (omega arith)
  env_above Outside w (r ∷ chain) (suc up) h l = absurd h
  env_above (Within f env) w [] (suc up) h l = absurd h
  env_above (Within f env) w (r ∷ chain) (suc up) h l = env_above env h.ghost.link chain up h.rest (omega arith)
