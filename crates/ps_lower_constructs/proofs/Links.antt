-- The environment that a call takes along: the frame of the routine enclosing the one that is called, or a routine that
-- was passed.
use Rattle.std.proofs.Common.{◌≡◌, ℕ, suc, zero, ◌+◌, ◌*◌, ◌<◌, ◌≤◌, Bool, true, false, if◌then◌else◌, [], ◌∷◌, length}
use Rattle.std.proofs.Common.{drop, Option, Some, refl, sym, ap, ◌∙◌, subst, arith}
use Rattle.ps_tree.specs.Tree.{routine_at}
use Rattle.tac_code.specs.declared.code.Block.TheVariants.{Frame as FrameBlock}
use Rattle.tac_code.specs.declared.code.Value.{Value as Word}
use Rattle.tac_code.specs.declared.code.Value.TheVariants.{Address, Routine as RoutineWord}
use Rattle.tac_code.specs.declared.code.Base.TheVariants as base
use Rattle.tac_code.specs.declared.code.Instruction.TheVariants as i
use Rattle.tac_code.specs.Memory.{load}
use Rattle.tac_code.specs.Meaning.{text_at}
use Rattle.ps_meaning.specs.Worlds.{World, above, frame_of, routine_in, env_in}
use Rattle.tac_code_steps.specs.Runs.{Stands}
use Rattle.tac_code_steps.proofs.Runs.{split}
use Rattle.tac_code_steps.proofs.Temporaries.{put_same, put_other}
use Rattle.tac_code_steps.proofs.Instructions.{offset_step, load_step}
use Rattle.ps_lower_layout.specs.Shapes.{Shape}
use Rattle.ps_lower_layout.specs.Frames.{Kinds, Closure, entry_offset, link_offset}
use Rattle.ps_lower_code.specs.Scopes.{beside, routine_up, kind_at, is_outermost, way_out, frame_code, frame_base}
use Rattle.ps_lower_code.specs.Scopes.{link_code, formal_code}
use Rattle.ps_lower_code.specs.Fits.{tail}
use Rattle.ps_lower_relation.specs.Ghosts.{ClosureSlot, RoutineHere, EnvAt}
use Rattle.ps_lower_relation.specs.Here.{Setting, machine_of, code_in, Work, Activated, chain_of, Alive, state, base_at}
use Rattle.ps_lower_relation.specs.Outcomes.{Reached}
use Rattle.ps_lower_relation.proofs.Memory.{frame_read}
use Rattle.ps_lower_constructs.specs.Openings.{Opening, scope_in}
use Rattle.ps_lower_constructs.proofs.Runs.{with_temporary, reached_from, gives_word}
use Rattle.ps_lower_constructs.proofs.Kept.{base_same}
use Rattle.ps_lower_constructs.proofs.Places.{base_is, LevelIn, frame_run, entry_there, frame_base_below}

module _ (p : Setting) (n : ℕ) (c : Activated) where
  -- the address of the frame this many levels up goes to t
  pub link_to : (d x : ℕ) (o : Opening) (w : World) (k : Work) (t up pc pc' : ℕ) → Alive p c w k → d ≤ t → up < length
      (chain_of c) → Stands (code_in p) c.routine pc (link_code (scope_in p c o) t up) pc'
      → Reached p c d x w k (state p c w k pc) pc'
      (λ w' k'. LevelIn p n c (above c.env up) (drop up (chain_of c)) (base.Temporary t) w' k') w
  link_to d x o w k t zero pc pc' alive l b st =
      let word = Address (FrameBlock c.number) 0 in
      gives_word p n c d x w k pc pc' t word (λ w' k'. LevelIn p n c c.env (chain_of c) (base.Temporary t) w' k')
      (offset_step (machine_of p) (state p c w k pc) t base.Frame 0 0 (FrameBlock c.number) 0 st.0 refl refl) st.1 l
      alive (word, put_same k.temporaries t word, alive.stands)
  link_to d x o w k t (suc up) pc pc' alive l b st = go (is_outermost (scope_in p c o) (suc up)) refl st
    where
      R : World → Work → Type 0
      R w' k' = LevelIn p n c (above c.env (suc up)) (drop (suc up) (chain_of c)) (base.Temporary t) w' k'

      go : (q : Bool) → is_outermost (scope_in p c o) (suc up) ≡ q → Stands (code_in p) c.routine pc
          (if q then (i.Offset t base.Program 0 0 ∷ [])
          else (i.Load t base.Frame (link_offset (routine_up (scope_in p c o) 0)) ∷ way_out (scope_in p c o) t up)) pc'
          → Reached p c d x w k (state p c w k pc) pc' R w
      go true q st' =
          let r = frame_run p n c d x o w k t (suc up) pc pc alive l b
          (subst (λ y. Stands (code_in p) c.routine pc
          (if y then [] else (i.Load t base.Frame (link_offset (routine_up (scope_in p c o) 0)) ∷ way_out
          (scope_in p c o) t up)) pc) (sym q) refl) in
          let word = Address (FrameBlock 0) 0 in
          let is : Some word ≡ Some r.result.0 = subst
          (λ y. base_at c.number r.work.temporaries (if y then base.Program else base.Temporary t)
          ≡ Some r.result.0) q r.result.1 in
          let one = gives_word p n c d x w r.work pc pc' t word R
          (offset_step (machine_of p) (state p c w r.work pc) t base.Program 0 0 (FrameBlock 0) 0 st'.0 refl refl)
          st'.1 l r.alive (r.result.0, put_same r.work.temporaries t word ∙ is, r.result.2) in
          reached_from p n c d x d x w w k r.work (state p c w k pc) (state p c w r.work pc) pc' R R w (omega arith)
          (omega arith) r.comes r.keeps one (λ k' a' y. y)
      go false q st' =
          let r = frame_run p n c d x o w k t (suc up) pc pc' alive l b
          (subst (λ y. Stands (code_in p) c.routine pc
          (if y then [] else (i.Load t base.Frame (link_offset (routine_up (scope_in p c o) 0)) ∷ way_out
          (scope_in p c o) t up)) pc') (sym q) st') in
          record {
            work = r.work;
            alive = r.alive;
            keeps = r.keeps;
            comes = r.comes;
            result = subst (λ y. LevelIn p n c (above c.env (suc up)) (drop (suc up) (chain_of c))
                (if y then base.Program else base.Temporary t) w r.work) q r.result;
          }

  -- a routine that was passed, with the address of the frame that it was declared in beside it
  abbrev pub FormalIn : (up index : ℕ) → Kinds → Option Shape → (t : ℕ) → World → Work → Type 0
  FormalIn up index kinds result t w k =
      (link : Word) × (k.temporaries t ≡ Some (RoutineWord (routine_in (frame_of (above c.env up)) index)))
      × (k.temporaries (beside t) ≡ Some link)
      × RoutineHere p.program c.ghosts w.made kinds result (routine_in (frame_of (above c.env up)) index)
      × EnvAt p.program c.ghosts w.made (env_in (frame_of (above c.env up)) index) link
      (tail (routine_at p.program (routine_in (frame_of (above c.env up)) index)).chain)

  pub formal_run : (d x : ℕ) (o : Opening) (w : World) (k : Work) (t up index pc pc' : ℕ) (kinds : Kinds)
      (result : Option Shape) → Alive p c w k → d ≤ t → up < length (chain_of c) → kind_at (scope_in p c o) up index
      ≡ Some (Closure kinds result) → Stands (code_in p) c.routine pc (formal_code (scope_in p c o) t up index) pc'
      → Reached p c d x w k (state p c w k pc) pc' (λ w' k'. FormalIn up index kinds result t w' k') w
  formal_run d x o w k t up index pc pc' kinds result alive l b q st =
      let code = scope_in p c o in
      let base_ = frame_base code t up in
      let at = entry_offset (routine_up code up) index in
      let cut = split (code_in p) c.routine pc (frame_code code t up)
      (i.Load (beside t) base_ (at + 4) ∷ i.Load t base_ at ∷ []) pc' st in
      let r = frame_run p n c d x o w k t up pc cut.0 alive l b cut.1 in
      let e = entry_there p n c o w r.work up index base_ (Closure kinds result) r.alive b r.result q in
      let link = e.entry_is.0 in
      let routine = routine_in (frame_of (above c.env up)) index in
      let slot = ClosureSlot kinds result routine link in
      let s1 = state p c w r.work cut.0 in
      let f = e.offset in
      let first : 0 + at ≡ 4 * (e.place + 0) = omega (arith, f) in
      let second : 0 + (at + 4) ≡ 4 * (e.place + 1) = omega (arith, f) in
      let link_loaded : load (text_at (code_in p)) s1.memory (FrameBlock e.ghost.number) (0 + (at + 4))
      ≡ Some link = ap (load (text_at (code_in p)) s1.memory (FrameBlock e.ghost.number)) second
      ∙ frame_read p.program (text_at (code_in p)) s1.memory w c.ghosts e.ghost index e.place 1 slot refl
      r.alive.holds.fits e.there e.stands e.entry_is.1 (omega arith) in
      let Between : World → Work → Type 0 = λ w' k'. (k'.temporaries (beside t) ≡ Some link)
      × (base_at c.number k'.temporaries base_ ≡ Some (Address (FrameBlock e.ghost.number) 0)) in
      let k1 = with_temporary r.work (beside t) link in
      let kept : base_at c.number k1.temporaries base_
      ≡ base_at c.number r.work.temporaries base_ = base_same p c r.work.temporaries k1.temporaries (suc t) base_
      (frame_base_below p n c o t up) (λ j low. let ne : j ≡ beside t → ⊥ = λ same. omega arith
      in put_other r.work.temporaries (beside t) link j ne) in
      let one = gives_word p n c d x w r.work cut.0 (suc cut.0) (beside t) link Between
      (load_step (machine_of p) s1 (beside t) base_ (at + 4) (FrameBlock e.ghost.number) 0 link cut.2.0
      (base_is c cut.0 r.work.temporaries base_ ∙ e.is) link_loaded) refl (omega (arith, l)) r.alive
      (put_same r.work.temporaries (beside t) link, kept ∙ e.is) in
      let s2 = state p c w one.work (suc cut.0) in
      let loaded : load (text_at (code_in p)) s2.memory (FrameBlock e.ghost.number) (0 + at) ≡ Some
      (RoutineWord routine) = ap (load (text_at (code_in p)) s2.memory (FrameBlock e.ghost.number)) first
      ∙ frame_read p.program (text_at (code_in p)) s2.memory w c.ghosts e.ghost index e.place 0 slot refl
      one.alive.holds.fits e.there e.stands e.entry_is.1 (omega arith) in
      let R : World → Work → Type 0 = λ w' k'. FormalIn up index kinds result t w' k' in
      let apart : beside t ≡ t → ⊥ = λ same. omega arith in
      let two = gives_word p n c d x w one.work (suc cut.0) pc' t (RoutineWord routine) R
      (load_step (machine_of p) s2 t base_ at (FrameBlock e.ghost.number) 0 (RoutineWord routine) cut.2.1.0
      (base_is c (suc cut.0) one.work.temporaries base_ ∙ one.result.1) loaded) cut.2.1.1 l one.alive (
        link,
        put_same one.work.temporaries t (RoutineWord routine),
        put_other one.work.temporaries t
            (RoutineWord routine) (beside t) apart ∙ one.result.0,
        e.entry_is.2,
        e.entry_is.3,
      ) in
      reached_from p n c d x d x w w k r.work (state p c w k pc) s1 pc' R R w (omega arith)
      (omega arith) r.comes r.keeps
      (reached_from p n c d x d x w w r.work one.work s1 s2 pc' R R w (omega arith)
      (omega arith) one.comes one.keeps two (λ k' a' y. y)) (λ k' a' y. y)
