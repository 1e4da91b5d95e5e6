-- The two words of the input in the frame of the program block, read and written.
use Rattle.std.proofs.Common.{◌≡◌, ℕ, ◌+◌, ◌*◌, ◌<◌, Bool, true, false, nat_eq, if◌then◌else◌, List, [], ◌∷◌, length}
use Rattle.std.proofs.Common.{replicate, slice_get, Option, Some, None, refl, sym, ap, ◌∙◌, subst, arith, eqb-true}
use Rattle.ps_tree.specs.Tree.{Program, routine_at}
use Rattle.tac_code.specs.declared.code.Block.TheVariants.{Frame as FrameBlock}
use Rattle.tac_code.specs.declared.code.Value.{Value as Word}
use Rattle.tac_code.specs.Memory.{Words, Living, Memory, Constants, known, with_word, living, changed, behind, instead}
use Rattle.tac_code.specs.Memory.{value_in, load, store, with_frames}
use Rattle.tac_code.proofs.Numbers.{eq_same}
use Rattle.ps_meaning.specs.Text.{Input}
use Rattle.ps_meaning.specs.Worlds.{Env, Outside, Within, World}
use Rattle.tac_code_steps.specs.Splices.{spliced, Piece, placed, ArePlaced}
use Rattle.tac_code_steps.proofs.Pieces.{same_some, some_none, placed_reads, placed_writes}
use Rattle.tac_code_steps.proofs.Blocks.{word_read, word_written}
use Rattle.ps_lower_layout.specs.Frames.{entries, is_program_block}
use Rattle.ps_lower_code.specs.Fits.{outermost_of}
use Rattle.ps_lower_relation.specs.Ghosts.{Ghost, slot_kinds, input_words, first_piece, entry_pieces, layout_at}
use Rattle.ps_lower_relation.specs.Ghosts.{block_words, frames_of, found, Numbered, GhostsFit, OnlyFirst, EnvAt}
use Rattle.ps_lower_relation.proofs.Pieces.{size_length, pieces_placed, block_length}
use Rattle.ps_lower_relation.proofs.Writes.{placed_piece}
use Rattle.ps_lower_relation.proofs.Memory.{living_found}
use Rattle.ps_lower_relation.proofs.Memory.{ghost_fits}

-- the world with another input
abbrev pub reread : World → Input → World
reread w i = record w { input = i }

module _ (program : Program) where
  abbrev is_first : Ghost → Bool
  is_first g = is_program_block (routine_at program g.routine).chain

  -- the frame's words, by what its first piece is
  abbrev block_as : World → Ghost → Bool → Input → Words
  block_as w g b i = placed (first_piece (layout_at program g.routine) b i g.link ∷ entry_pieces w.store
      (layout_at program g.routine).places g.slots) (replicate (layout_at program g.routine).size None)

  first_placed : (w : World) (g : Ghost) → slot_kinds g.slots ≡ entries (routine_at program g.routine) → is_first g
      ≡ true → ArePlaced (layout_at program g.routine).size
      (first_piece (layout_at program g.routine) true w.input g.link ∷ entry_pieces w.store
      (layout_at program g.routine).places g.slots)
  first_placed w g e f = subst (λ b. ArePlaced (layout_at program g.routine).size
      (first_piece (layout_at program g.routine) b w.input g.link ∷ entry_pieces w.store
      (layout_at program g.routine).places g.slots)) f (pieces_placed program w g e)

  -- a word of the input
  pub input_read : (constants : Constants) (m : Memory) (w : World) (gs : List Ghost) (g : Ghost) (j : ℕ) → m.frames
      ≡ frames_of program w gs → GhostsFit program w.made w.store gs → found gs 0 ≡ Some g → is_first g ≡ true → j < 2
      → load constants m (FrameBlock 0) (4 * ((layout_at program g.routine).input + j)) ≡ known
      (slice_get (input_words w.input) j)
  input_read constants m w gs g j fm f there first l =
      let place = (layout_at program g.routine).input in
      let size = (layout_at program g.routine).size in
      let kinds = (ghost_fits program w.made w.store gs 0 g f there).0 in
      let apart = subst (λ n. ArePlaced n (first_piece (layout_at program g.routine) true w.input g.link
      ∷ entry_pieces w.store (layout_at program g.routine).places g.slots)) (sym (size_length size))
      (first_placed w g kinds first) in
      ap (λ bs. value_in (living bs 0) (4 * (place + j))) fm
      ∙ ap (λ o. value_in o (4 * (place + j))) (living_found program w gs 0 g there)
      ∙ word_read (block_words program w g) (place + j)
      ∙ ap (λ b. known (slice_get (block_as w g b w.input) (place + j))) first
      ∙ ap known (placed_reads (first_piece (layout_at program g.routine) true w.input g.link ∷ entry_pieces w.store
      (layout_at program g.routine).places g.slots) (replicate size None) 0 j (record {
        place = place;
        words = input_words w.input;
      }) apart refl l)

  -- the frame of the program block, of which a word of the input was replaced
  block_reread : (w : World) (g : Ghost) (i : Input) (j : ℕ) (word : Word) → slot_kinds g.slots ≡ entries
      (routine_at program g.routine) → is_first g ≡ true → j < 2 → input_words i ≡ spliced j (Some word ∷ [])
      (input_words w.input) → with_word (block_words program w g) (4 * ((layout_at program g.routine).input + j)) word
      ≡ Some (block_words program (reread w i) g)
  block_reread w g i j word kinds first l e =
      let place = (layout_at program g.routine).input in
      let size = (layout_at program g.routine).size in
      let es = entry_pieces w.store (layout_at program g.routine).places g.slots in
      let base = replicate {A = Option Word} size None in
      let mine : Piece = record { place = place; words = input_words w.input } in
      let placed_all = first_placed w g kinds first in
      let apart = subst (λ n. ArePlaced n (mine ∷ es)) (sym (size_length size)) placed_all in
      let wide = block_length program w g in
      let within = placed_piece program size (mine ∷ es) 0 mine placed_all refl in
      word_written (block_words program w g) (place + j) word (omega (arith, wide, within, l))
      ∙ ap (λ b. Some (spliced (place + j) (Some word ∷ []) (block_as w g b w.input))) first
      ∙ ap Some (placed_writes (mine ∷ es) base 0 j mine (Some word ∷ []) apart refl (omega (arith, l)))
      ∙ ap (λ ws. Some (placed (record { place = place; words = ws } ∷ es) base)) (sym e)
      ∙ ap (λ b. Some (block_as (reread w i) g b i)) (sym first)

  -- no ghost lies below number 0
  none_below : (w w' : World) (gs : List Ghost) (n : ℕ) → n ≡ 0 → Numbered gs n → frames_of program w gs
      ≡ frames_of program w' gs
  none_below w w' [] n e h = refl
  none_below w w' (g ∷ gs) n e h = let low = h.0 in absurd (omega (arith, e, low))

  -- the other frames have no word of the input
  frame_same : (w : World) (i : Input) (g : Ghost) → (is_first g ≡ true → g.number ≡ 0) → nat_eq g.number 0 ≡ false
      → block_words program w g ≡ block_words program (reread w i) g
  frame_same w i g only q = go (is_first g) refl
    where
      same : (n : ℕ) → n ≡ 0 → nat_eq n 0 ≡ false → ⊥
      same n e f = let y : true ≡ false = sym (eq_same 0) ∙ sym (ap (λ m. nat_eq m 0) e) ∙ f in absurd (cc)

      go : (b : Bool) → is_first g ≡ b → block_words program w g ≡ block_words program (reread w i) g
      go true e = absurd (same g.number (only e) q)
      go false e = ap (λ b. block_as w g b w.input) e ∙ ap (λ b. block_as w g b i) (sym e)

  changed_input : (w : World) (i : Input) (gs : List Ghost) (count : ℕ) (g : Ghost) (change : Words → Option Words)
      → Numbered gs count → OnlyFirst program gs → found gs 0 ≡ Some g → change (block_words program w g) ≡ Some
      (block_words program (reread w i) g) → changed (frames_of program w gs) 0 change ≡ Some
      (frames_of program (reread w i) gs)
  changed_input w i [] count g change h only q c = some_none q
  changed_input w i (x ∷ gs) count g change h only q c = go (nat_eq x.number 0) refl q
      (changed_input w i gs x.number g change h.1 only.1)
    where
      B : Living
      B = record { number = x.number; words = block_words program w x }

      go : (b : Bool) → nat_eq x.number 0 ≡ b → (if b then Some x else found gs 0) ≡ Some g
          → (found gs 0 ≡ Some g → change (block_words program w g) ≡ Some (block_words program (reread w i) g)
          → changed (frames_of program w gs) 0 change ≡ Some (frames_of program (reread w i) gs)) → changed
          (frames_of program w (x ∷ gs)) 0 change ≡ Some (frames_of program (reread w i) (x ∷ gs))
      go true t r ih =
          let xg = same_some r in
          ap (λ b. if b then instead B (frames_of program w gs) (change (block_words program w x)) else behind B
          (changed (frames_of program w gs) 0 change)) t
          ∙ ap (λ y. instead B (frames_of program w gs) (change (block_words program w y))) xg
          ∙ ap (instead B (frames_of program w gs)) c
          ∙ ap (λ y. Some (record {
            number = x.number;
            words = block_words program (reread w i) y;
          } ∷ frames_of program w gs)) (sym xg)
          ∙ ap (λ bs. Some (record {
            number = x.number;
            words = block_words program (reread w i) x;
          } ∷ bs)) (none_below w (reread w i) gs x.number (eqb-true x.number 0 t) h.1)
      go false t r ih =
          ap (λ b. if b then instead B (frames_of program w gs) (change (block_words program w x)) else behind B
          (changed (frames_of program w gs) 0 change)) t
          ∙ ap (behind B) (ih r c)
          ∙ ap (λ ws. Some (record {
            number = x.number;
            words = ws;
          } ∷ frames_of program (reread w i) gs)) (frame_same w i x only.0 t)

  -- a word of the input is replaced
  pub input_written : (m : Memory) (w : World) (gs : List Ghost) (count : ℕ) (g : Ghost) (i : Input) (j : ℕ)
      (word : Word) → m.frames ≡ frames_of program w gs → GhostsFit program w.made w.store gs → Numbered gs count
      → OnlyFirst program gs → found gs 0 ≡ Some g → is_first g ≡ true → j < 2 → input_words i ≡ spliced j
      (Some word ∷ []) (input_words w.input) → store m (FrameBlock 0)
      (4 * ((layout_at program g.routine).input + j)) word ≡ Some
      (record m { frames = frames_of program (reread w i) gs })
  input_written m w gs count g i j word fm f h only there first l e =
      let kinds = (ghost_fits program w.made w.store gs 0 g f there).0 in
      let o = 4 * ((layout_at program g.routine).input + j) in
      ap (λ bs. with_frames m (changed bs 0 (λ words. with_word words o word))) fm
      ∙ ap (with_frames m) (changed_input w i gs count g (λ words. with_word words o word) h only there
      (block_reread w g i j word kinds first l e))

  module _ (gs : List Ghost) (made : List ℕ) where
    -- the first activation, where the environment ends
    pub record FirstHere (chain : List ℕ) : Type 0 where
      pub ghost : Ghost
      pub there : found gs 0 ≡ Some ghost
      pub routine : ghost.routine ≡ outermost_of chain
      pub is : is_first ghost ≡ true

    pub first_here : (env : Env) (w : Word) (chain : List ℕ) → 0 < length chain → EnvAt program gs made env w chain
        → FirstHere chain
    first_here Outside w [] l h = absurd (omega (arith, l))
    first_here Outside w (r ∷ chain) l h = absurd h
    first_here (Within f env) w [] l h = absurd h
    first_here (Within f env) w (r ∷ []) l h =
        record {
          ghost = h.ghost;
          there = subst (λ n. found gs n ≡ Some h.ghost) (h.outermost refl) h.there;
          routine = h.routine;
          is = ap (λ q. is_program_block (routine_at program q).chain) h.routine ∙ sym h.linked;
        }
    first_here (Within f env) w (r ∷ s ∷ rest) l h =
        let further = first_here env h.ghost.link (s ∷ rest) (omega arith) h.rest in
        record { ghost = further.ghost; there = further.there; routine = further.routine; is = further.is }
