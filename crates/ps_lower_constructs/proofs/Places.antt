-- Frames by their levels, and names: the code that reaches them.
use Rattle.std.proofs.Common.{◌≡◌, ℕ, zero, suc, ◌+◌, ◌-◌, ◌*◌, ◌<◌, ◌≤◌, List, [], ◌∷◌, ◌++◌, length, drop, get_or}
use Rattle.std.proofs.Common.{slice_get, Option, Some, None, Bool, true, false, if◌then◌else◌, refl, sym, ap, ◌∙◌}
use Rattle.std.proofs.Common.{subst, arith, eqb-true, ltb-true, nat_lt, not, pos, negsuc}
use Rattle.std.proofs.lemmas.Bool.{and_parts, ne_eqb}
use Rattle.ps_tree.specs.Tree.{routine_at, PlaceBase, Entry, Opened}
use Rattle.tac_code.specs.declared.code.Block.TheVariants.{Frame as FrameBlock}
use Rattle.tac_code.specs.declared.code.Value.{Value as Word}
use Rattle.tac_code.specs.declared.code.Value.TheVariants.{Address, Number}
use Rattle.tac_code.specs.declared.code.Operand.TheVariants as operand
use Rattle.tac_code.specs.declared.code.Base.{Base}
use Rattle.tac_code.specs.declared.code.Base.TheVariants as base
use Rattle.tac_code.specs.declared.code.Instruction.{Instruction}
use Rattle.tac_code.specs.declared.code.Instruction.TheVariants.{Load, Bits, BranchBack}
use Rattle.tac_code.specs.declared.code.BitOperator.TheVariants.{Plus}
use Rattle.tac_code.specs.declared.code.Relation.TheVariants.{NotEqual}
use Rattle.tac_code.specs.Memory.{load}
use Rattle.tac_code.specs.Meaning.{Temporaries, base_value, text_at, related, gives}
use Rattle.tac_code.specs.declared.code.TheConstants.{NUMBER_LIMIT}
use Rattle.ps_meaning.specs.Worlds.{no_spot, Env, World, above, frame_of, spot_in}
use Rattle.ps_meaning.specs.Expressions.{denoted}
use Rattle.tac_code_steps.specs.Runs.{Stands, Comes, step_of}
use Rattle.tac_code_steps.proofs.Runs.{split, a_step}
use Rattle.tac_code_steps.proofs.Temporaries.{put_same, put_other}
use Rattle.tac_code_steps.proofs.Pieces.{same_some, some_none}
use Rattle.tac_code_steps.proofs.Instructions.{At, literal_step, bits_step, load_step, branch_back_step}
use Rattle.tac_rt.proofs.Arithmetic.{counted_down}
use Rattle.ps_lower_layout.specs.Shapes.{Shape, shape_of, field_offset, Part, Whole}
use Rattle.ps_lower_layout.specs.Frames.{Kind, Own, Reference, Closure, entries, layout_of, entry_offset, link_offset}
use Rattle.ps_lower_layout.specs.Frames.{is_program_block}
use Rattle.ps_lower_code.specs.Scopes.{beside, routine_up, kind_at, is_outermost, hops, hops_in_turns, is_far, way_out}
use Rattle.ps_lower_code.specs.Scopes.{frame_code, frame_base}
use Rattle.ps_lower_code.specs.Values.{field_site, reference_code, entry_site, name_code, name_site}
use Rattle.ps_lower_code.specs.Fits.{tail, shape_in, BaseFits}
use Rattle.ps_lower_relation.specs.Ghosts.{Ghost, ReferenceSlot, layout_at, found, PlaceAt, EnvAt}
use Rattle.ps_lower_relation.specs.Here.{Setting, machine_of, code_in, Work, Activated, chain_of, Alive, activation}
use Rattle.ps_lower_relation.specs.Here.{state, base_at, IsBelow, SiteAt}
use Rattle.ps_lower_relation.specs.Outcomes.{Reached}
use Rattle.ps_lower_relation.proofs.Memory.{ghost_fits, frame_read, link_read}
use Rattle.ps_lower_relation.proofs.Frames.{place_there, EntryAt, entry, level, above_one, env_above}
use Rattle.ps_lower_constructs.specs.Openings.{plain_scope, Opening, scope_in, context_in, IsOpened}
use Rattle.ps_lower_constructs.proofs.Kept.{below_more, stepped, opened_get}
use Rattle.ps_lower_relation.proofs.Places.{field_path}
use Rattle.ps_meaning.specs.Values.{step}
use Rattle.ps_lower_constructs.proofs.Runs.{keeps_refl, reached_from, here, gives_word, passes}

pub base_is : (c : Activated) (pc : ℕ) (t : Temporaries) (b : Base) → base_value (activation c pc t) b
    ≡ base_at c.number t b
base_is c pc t base.Frame = refl
base_is c pc t base.Scratch = refl
base_is c pc t base.Program = refl
base_is c pc t (base.Temporary u) = refl

module _ (p : Setting) (n : ℕ) (c : Activated) where
  -- a level is reached: its frame's address is the base
  abbrev pub LevelIn : (env : Env) → (chain : List ℕ) → Base → World → Work → Type 0
  LevelIn env chain b w k = (word : Word) × (base_at c.number k.temporaries b ≡ Some word)
      × EnvAt p.program c.ghosts w.made env word chain

  -- the link of a level, and the step that loads it
  link_there : (w : World) (k : Work) (pc t : ℕ) (b : Base) (env : Env) (word : Word) (r s : ℕ) (rest : List ℕ)
      → Alive p c w k → base_at c.number k.temporaries b ≡ Some word
      → EnvAt p.program c.ghosts w.made env word (r ∷ s ∷ rest) → At (machine_of p) (state p c w k pc)
      (Load t b (link_offset (routine_at p.program r)))
      → (link : Word) × (step_of (machine_of p) (state p c w k pc) ≡ gives t link (state p c w k pc))
      × EnvAt p.program c.ghosts w.made (above env 1) link (s ∷ rest)
  link_there w k pc t b env word r s rest alive at whole h =
      let v = level p.program c.ghosts w.made env word (r ∷ s ∷ rest) whole (omega arith) in
      let g = v.ghost in
      let inner : is_program_block (routine_at p.program g.routine).chain ≡ false = sym v.linked in
      let m = (state p c w k pc).memory in
      let address = base_is c pc k.temporaries b ∙ at ∙ ap Some v.is in
      let offset : 0 + link_offset (routine_at p.program r) ≡ 4 *
      (layout_of (routine_at p.program g.routine)).link = omega arith in
      let loaded = ap (load (text_at (code_in p)) m (FrameBlock g.number)) offset ∙ link_read p.program
      (text_at (code_in p)) m w c.ghosts g refl alive.holds.fits v.there inner in (
        g.link,
        load_step (machine_of p) (state p c w k pc) t b (link_offset (routine_at p.program r))
            (FrameBlock g.number) 0 g.link h address loaded,
        v.rest,
      )

  -- it is loaded
  link_run : (d x : ℕ) (w : World) (k : Work) (pc t : ℕ) (b : Base) (env : Env) (word : Word) (r s : ℕ)
      (rest : List ℕ) → Alive p c w k → d ≤ t → base_at c.number k.temporaries b ≡ Some word
      → EnvAt p.program c.ghosts w.made env word (r ∷ s ∷ rest) → At (machine_of p) (state p c w k pc)
      (Load t b (link_offset (routine_at p.program r)))
      → Reached p c d x w k (state p c w k pc) (suc pc)
      (λ w' k'. LevelIn (above env 1) (s ∷ rest) (base.Temporary t) w' k') w
  link_run d x w k pc t b env word r s rest alive l at whole h =
      let y = link_there w k pc t b env word r s rest alive at whole h in
      gives_word p n c d x w k pc (suc pc) t y.0 (λ w' k'. LevelIn (above env 1) (s ∷ rest) (base.Temporary t) w' k')
      y.1 refl l alive (y.0, put_same k.temporaries t y.0, y.2)

  -- from the frame in t further up
  hops_run : (d x : ℕ) (o : Opening) (w : World) (k : Work) (t l up pc pc' : ℕ) (env : Env) (chain : List ℕ)
      → Alive p c w k → d ≤ t → up < length chain → ((i : ℕ) → get_or (chain_of c) (l + i) 0 ≡ get_or chain i 0)
      → LevelIn env chain (base.Temporary t) w k → Stands (code_in p) c.routine pc (hops (scope_in p c o) t l up) pc'
      → Reached p c d x w k (state p c w k pc) pc'
      (λ w' k'. LevelIn (above env up) (drop up chain) (base.Temporary t) w' k') w
  hops_run d x o w k t l zero pc pc' env chain alive dt b q v st = here p n c d x w k pc pc'
      (λ w' k'. LevelIn env chain (base.Temporary t) w' k') st alive v
  hops_run d x o w k t l (suc up) pc pc' env [] alive dt b q v st = absurd (omega arith)
  hops_run d x o w k t l (suc up) pc pc' env (r ∷ []) alive dt b q v st = absurd (omega arith)
  hops_run d x o w k t l (suc up) pc pc' env (r ∷ s ∷ rest) alive dt b q v st =
      let z : l + 0 ≡ l = omega arith in
      let at = st.0 ∙ ap (λ i. Some (Load t (base.Temporary t) (link_offset (routine_at p.program i))))
      (ap (λ i. get_or (chain_of c) i 0) (sym z) ∙ q 0) in
      let one = link_run d x w k pc t (base.Temporary t) env v.0 r s rest alive dt v.1 v.2 at in
      let two = hops_run d x o w one.work t (suc l) up (suc pc) pc' (above env 1) (s ∷ rest) one.alive dt (omega arith)
      (λ i. let e : suc l + i ≡ l + suc i = omega arith in ap (λ j. get_or (chain_of c) j 0) e ∙ q (suc i))
      one.result st.1 in
      reached_from p n c d x d x w w k one.work (state p c w k pc) (state p c w one.work (suc pc)) pc'
      (λ w' k'. LevelIn (above (above env 1) up) (drop up (s ∷ rest)) (base.Temporary t) w' k')
      (λ w' k'. LevelIn (above env (suc up)) (drop (suc up) (r ∷ s ∷ rest)) (base.Temporary t) w' k') w
      (omega arith) (omega arith) one.comes one.keeps two
      (λ k' a' y. subst (λ e. LevelIn e (drop up (s ∷ rest)) (base.Temporary t) w k')
      (above_one p.program c.ghosts w.made env up) y)

  -- a turn of the loop
  abbrev turn : ℕ → List Instruction
  turn t = Load t (base.Temporary t) 0 ∷ Bits Plus (beside t) (beside t) (operand.Number (negsuc 0))
      ∷ BranchBack NotEqual (beside t) (operand.Number (pos 0)) 2 ∷ []

  -- the frame's address is in t, and so many levels are left
  abbrev LeftIn : (t left : ℕ) (word : Word) → World → Work → Type 0
  LeftIn t left word w k = (k.temporaries t ≡ Some word) × (k.temporaries (beside t) ≡ Some (Number (pos left)))

  -- a turn as far as its branch, and what follows
  turn_run : (d x : ℕ) (w : World) (k : Work) (t left pc pc' : ℕ) (env : Env) (r s : ℕ) (rest : List ℕ) (word : Word)
      (R : World → Work → Type 0) → Alive p c w k → d ≤ t → suc left < NUMBER_LIMIT → LeftIn t (suc left) word w k
      → EnvAt p.program c.ghosts w.made env word (r ∷ s ∷ rest) → Stands (code_in p) c.routine pc (turn t) pc'
      → ((k2 : Work) (link : Word) → Alive p c w k2 → LeftIn t left link w k2
      → EnvAt p.program c.ghosts w.made (above env 1) link (s ∷ rest) → Reached p c d x w k2
      (state p c w k2 (suc (suc pc))) pc' R w)
      → Reached p c d x w k (state p c w k pc) pc' R w
  turn_run d x w k t left pc pc' env r s rest word R alive dt small h v st further =
      let y = link_there w k pc t (base.Temporary t) env word r s rest alive h.0 v st.0 in
      let apart : beside t ≡ t → ⊥ = λ same. omega arith in
      let back : t ≡ beside t → ⊥ = λ same. omega arith in
      let one = gives_word p n c d x w k pc (suc pc) t y.0 (λ w' k'. LeftIn t (suc left) y.0 w' k') y.1 refl dt alive
      (put_same k.temporaries t y.0, put_other k.temporaries t y.0 (beside t) apart ∙ h.1) in
      let s1 = state p c w one.work (suc pc) in
      let less = bits_step (machine_of p) s1 Plus (beside t) (beside t) (operand.Number (negsuc 0)) (pos (suc left))
      (negsuc 0) st.1.0 one.result.1 refl
      ∙ ap (λ z. gives (beside t) (Number z) s1) (counted_down (suc left) left 0 (omega arith) small) in
      let two = gives_word p n c d x w one.work (suc pc) (suc (suc pc)) (beside t) (Number (pos left))
      (λ w' k'. LeftIn t left y.0 w' k') less refl (omega (arith, dt)) one.alive (
        put_other one.work.temporaries (beside t) (Number (pos left)) t back ∙ one.result.0,
        put_same one.work.temporaries (beside t) (Number (pos left)),
      ) in
      reached_from p n c d x d x w w k one.work (state p c w k pc) s1 pc' R R w (omega arith) (omega arith) one.comes
      one.keeps
      (reached_from p n c d x d x w w one.work two.work s1 (state p c w two.work (suc (suc pc))) pc' R R w (omega arith)
      (omega arith) two.comes two.keeps (further two.work y.0 two.alive two.result y.2) (λ k' a' z. z))
      (λ k' a' z. z)

  -- further up by the loop, from its first load
  turns_run : (d x : ℕ) (w : World) (k : Work) (t left pc pc' : ℕ) (env : Env) (chain : List ℕ) (word : Word)
      → Alive p c w k → d ≤ t → suc left < length chain → suc left < NUMBER_LIMIT → LeftIn t (suc left) word w k
      → EnvAt p.program c.ghosts w.made env word chain → Stands (code_in p) c.routine pc (turn t) pc'
      → Reached p c d x w k (state p c w k pc) pc'
      (λ w' k'. LevelIn (above env (suc left)) (drop (suc left) chain) (base.Temporary t) w' k') w
  turns_run d x w k t left pc pc' env [] word alive dt b small h v st = absurd (omega (arith, b))
  turns_run d x w k t left pc pc' env (r ∷ []) word alive dt b small h v st = absurd (omega (arith, b))
  turns_run d x w k t zero pc pc' env (r ∷ s ∷ rest) word alive dt b small h v st =
      let R : World → Work → Type 0 = λ w' k'. LevelIn (above env 1) (s ∷ rest) (base.Temporary t) w' k' in
      turn_run d x w k t zero pc pc' env r s rest word R alive dt small h v st
      (λ k2 link alive2 h2 v2. passes p n c d x w k2 (suc (suc pc)) pc' R
      (branch_back_step (machine_of p) (state p c w k2 (suc (suc pc))) NotEqual (beside t) (operand.Number (pos 0)) 2
      false st.1.1.0 (ap (λ o. related NotEqual o (Some (Number (pos 0)))) h2.1)) st.1.1.1 alive2 (link, h2.0, v2))
  turns_run d x w k t (suc m) pc pc' env (r ∷ s ∷ rest) word alive dt b small h v st =
      let R : World → Work → Type 0 = λ w' k'. LevelIn (above env (suc (suc m))) (drop (suc m) (s ∷ rest))
      (base.Temporary t) w' k' in
      let more : suc m ≡ 0 → ⊥ = λ same. omega arith in
      turn_run d x w k t (suc m) pc pc' env r s rest word R alive dt small h v st
      (λ k2 link alive2 h2 v2.
      let s2 = state p c w k2 (suc (suc pc)) in
      let start : suc (suc pc) - 2 ≡ pc = omega arith in
      let back = branch_back_step (machine_of p) s2 NotEqual (beside t) (operand.Number (pos 0)) 2 true st.1.1.0
      (ap (λ o. related NotEqual o (Some (Number (pos 0)))) h2.1 ∙ ap (λ q. Some (not q)) (ne_eqb (suc m) 0 more)) in
      reached_from p n c d x d x w w k2 k2 s2 (state p c w k2 pc) pc'
      (λ w' k'. LevelIn (above (above env 1) (suc m)) (drop (suc m) (s ∷ rest)) (base.Temporary t) w' k') R w
      (omega arith) (omega arith)
      (subst (λ q. Comes (machine_of p) s2 (state p c w k2 q)) start
      (a_step s2 (state p c w k2 (suc (suc pc) - 2)) back)) (keeps_refl d x w k2)
      (turns_run d x w k2 t m pc pc' (above env 1) (s ∷ rest) link alive2 dt (omega (arith, b)) (omega (arith, small))
      h2 v2 st)
      (λ k' a' z. subst (λ e. LevelIn e (drop (suc m) (s ∷ rest)) (base.Temporary t) w k')
      (above_one p.program c.ghosts w.made env (suc m)) z))

  -- further up by what is shorter
  way_run : (d x : ℕ) (o : Opening) (w : World) (k : Work) (t up pc pc' : ℕ) (env : Env) (chain : List ℕ)
      → Alive p c w k → d ≤ t → up < length chain → ((i : ℕ) → get_or (chain_of c) (1 + i) 0 ≡ get_or chain i 0)
      → LevelIn env chain (base.Temporary t) w k → Stands (code_in p) c.routine pc (way_out (scope_in p c o) t up) pc'
      → Reached p c d x w k (state p c w k pc) pc'
      (λ w' k'. LevelIn (above env up) (drop up chain) (base.Temporary t) w' k') w
  way_run d x o w k t up pc pc' env chain alive dt b q v st = go up (is_far up) refl b st
    where
      go : (n : ℕ) (far : Bool) → is_far n ≡ far → n < length chain → Stands (code_in p) c.routine pc
          (if far then hops_in_turns (scope_in p c o) t n else hops (scope_in p c o) t 1 n) pc'
          → Reached p c d x w k (state p c w k pc) pc'
          (λ w' k'. LevelIn (above env n) (drop n chain) (base.Temporary t) w' k') w
      go n false f l st' = hops_run d x o w k t 1 n pc pc' env chain alive dt l q v st'
      go zero true f l st' = let m = ltb-true 4 0 (and_parts (nat_lt 4 0) (nat_lt 0 16) f).0 in absurd
          (omega (arith, m))
      go (suc left) true f less st' =
          let l = ltb-true (suc left) 16 (and_parts (nat_lt 4 (suc left)) (nat_lt (suc left) 16) f).1 in
          let apart : t ≡ beside t → ⊥ = λ same. omega arith in
          let R : World → Work → Type 0 = λ w' k'. LevelIn (above env (suc left)) (drop (suc left) chain)
          (base.Temporary t) w' k' in
          let one = gives_word p n c d x w k pc (suc pc) (beside t) (Number (pos (suc left)))
          (λ w' k'. LeftIn t (suc left) v.0 w' k')
          (literal_step (machine_of p) (state p c w k pc) (beside t) (pos (suc left)) st'.0) refl (omega (arith, dt))
          alive (
            put_other k.temporaries (beside t) (Number (pos (suc left))) t apart ∙ v.1,
            put_same k.temporaries (beside t) (Number (pos (suc left))),
          ) in
          reached_from p n c d x d x w w k one.work (state p c w k pc) (state p c w one.work (suc pc)) pc' R R w
          (omega arith) (omega arith) one.comes one.keeps
          (turns_run d x w one.work t left (suc pc) pc' env chain v.0 one.alive dt less (omega (arith, l)) one.result
          v.2 st'.1) (λ k' a' z. z)

  -- the frame this many levels up
  pub frame_run : (d x : ℕ) (o : Opening) (w : World) (k : Work) (t up pc pc' : ℕ) → Alive p c w k → d ≤ t → up < length
      (chain_of c) → Stands (code_in p) c.routine pc (frame_code (scope_in p c o) t up) pc'
      → Reached p c d x w k (state p c w k pc) pc'
      (λ w' k'. LevelIn (above c.env up) (drop up (chain_of c)) (frame_base (scope_in p c o) t up) w' k') w
  frame_run d x o w k t zero pc pc' alive dt b st = here p n c d x w k pc pc'
      (λ w' k'. LevelIn c.env (chain_of c) base.Frame w' k') st alive
      (Address (FrameBlock c.number) 0, refl, alive.stands)
  frame_run d x o w k t (suc up) pc pc' alive dt b st = go (is_outermost (scope_in p c o) (suc up)) refl c.outer refl st
      (λ s rest e pc1 k1 alive1 v st1. way_run d x o w k1 t up pc1 pc' (above c.env 1) (s ∷ rest) alive1 dt
      (omega (arith, b, ap length e)) (λ i. let z : 1 + i ≡ suc i = omega arith in ap (λ j. get_or (chain_of c) j 0) z
      ∙ ap (λ xs. get_or xs i 0) e) v st1)
    where
      R : World → Work → Type 0
      R w' k' = LevelIn (above c.env (suc up)) (drop (suc up) (chain_of c))
          (frame_base (scope_in p c o) t (suc up)) w' k'

      last_drop : (i : ℕ) (xs : List ℕ) → suc i ≡ length xs → tail (drop i xs) ≡ []
      last_drop i [] e = absurd (omega arith)
      last_drop zero (y ∷ []) e = refl
      last_drop zero (y ∷ z ∷ ys) e = absurd (omega arith)
      last_drop (suc i) (y ∷ ys) e = last_drop i ys (omega arith)

      drop_there : (i : ℕ) (xs : List ℕ) → i < length xs → 0 < length (drop i xs)
      drop_there i [] h = absurd (omega arith)
      drop_there zero (y ∷ ys) h = omega arith
      drop_there (suc i) (y ∷ ys) h = drop_there i ys (omega arith)

      go : (q : Bool) → is_outermost (scope_in p c o) (suc up) ≡ q → (outer : List ℕ) → c.outer ≡ outer → Stands
          (code_in p) c.routine pc (if q then [] else (Load t base.Frame (link_offset (routine_up (scope_in p c o) 0))
          ∷ way_out (scope_in p c o) t up)) pc'
          → ((s : ℕ) (rest : List ℕ) → c.outer ≡ s ∷ rest → (pc1 : ℕ) (k1 : Work) → Alive p c w k1 → LevelIn
          (above c.env 1) (s ∷ rest) (base.Temporary t) w k1 → Stands (code_in p) c.routine pc1
          (way_out (scope_in p c o) t up) pc' → Reached p c d x w k1 (state p c w k1 pc1) pc'
          (λ w' k'. LevelIn (above (above c.env 1) up) (drop up (s ∷ rest)) (base.Temporary t) w' k') w)
          → Reached p c d x w k (state p c w k pc) pc' R w
      go true q outer e st' further =
          let up_there = env_above p.program c.ghosts w.made c.env (Address (FrameBlock c.number) 0) (chain_of c)
          (suc up) alive.stands b in
          let v = level p.program c.ghosts w.made (above c.env (suc up)) up_there.0
          (drop (suc up) (chain_of c)) up_there.1 (drop_there (suc up) (chain_of c) b) in
          let number = v.outermost (last_drop (suc up) (chain_of c) (eqb-true (suc (suc up)) (length (chain_of c)) q))
          in
          let is : base_at c.number k.temporaries (frame_base (scope_in p c o) t (suc up))
          ≡ Some up_there.0 = ap (λ y. base_at c.number k.temporaries
          (if y then base.Program else base.Temporary t)) q ∙ ap (λ i. Some (Address (FrameBlock i) 0)) (sym number)
          ∙ ap Some (sym v.is) in
          here p n c d x w k pc pc' R st' alive (up_there.0, is, up_there.1)
      go false q [] e st' further = let l = ap length e in absurd (omega (arith, b, l))
      go false q (s ∷ rest) e st' further =
          let one = link_run d x w k pc t base.Frame c.env
          (Address (FrameBlock c.number) 0) c.routine s rest alive dt refl
          (subst (λ xs. EnvAt p.program c.ghosts w.made c.env (Address (FrameBlock c.number) 0) (c.routine ∷ xs)) e
          alive.stands) st'.0 in
          let two = further s rest e (suc pc) one.work one.alive one.result st'.1 in
          reached_from p n c d x d x w w k one.work (state p c w k pc) (state p c w one.work (suc pc)) pc'
          (λ w' k'. LevelIn (above (above c.env 1) up) (drop up (s ∷ rest)) (base.Temporary t) w' k') R w
          (omega arith) (omega arith) one.comes one.keeps two
          (λ k' a' y. subst (λ bs. LevelIn (above c.env (suc up)) (drop up bs)
          (if is_outermost (scope_in p c o) (suc up) then base.Program else base.Temporary t) w k') (sym e)
          (subst (λ bb. LevelIn (above c.env (suc up)) (drop up (s ∷ rest))
          (if bb then base.Program else base.Temporary t) w k') (sym q)
          (subst (λ en. LevelIn en (drop up (s ∷ rest)) (base.Temporary t) w k')
          (above_one p.program c.ghosts w.made c.env up) y)))

  get_drop : (i : ℕ) (xs : List ℕ) → get_or (drop i xs) 0 0 ≡ get_or xs i 0
  get_drop zero [] = refl
  get_drop (suc i) [] = refl
  get_drop zero (y ∷ ys) = refl
  get_drop (suc i) (y ∷ ys) = get_drop i ys

  -- an entry of a level that is reached
  pub record EntryThere (w : World) (o : Opening) (up i : ℕ) (b : Base) (kind : Kind) (t : Temporaries) : Type 0 where
    pub ghost : Ghost
    pub is : base_at c.number t b ≡ Some (Address (FrameBlock ghost.number) 0)
    pub there : found c.ghosts ghost.number ≡ Some ghost
    pub place : ℕ
    pub stands : slice_get (layout_at p.program ghost.routine).places i ≡ Some place
    pub offset : entry_offset (routine_up (scope_in p c o) up) i ≡ 4 * place
    pub entry_is : EntryAt p.program c.ghosts w.made (frame_of (above c.env up)) ghost.slots i kind

  pub entry_there : (o : Opening) (w : World) (k : Work) (up i : ℕ) (b : Base) (kind : Kind) → Alive p c w k
      → up < length (chain_of c) → LevelIn (above c.env up) (drop up (chain_of c)) b w k → kind_at (scope_in p c o) up i
      ≡ Some kind → EntryThere w o up i b kind k.temporaries
  entry_there o w k up i b kind alive l at q =
      let chain = chain_of c in
      let v = level p.program c.ghosts w.made (above c.env up) at.0 (drop up chain) at.2 (drop_there up chain l) in
      let g = v.ghost in
      let routine : g.routine ≡ get_or chain up 0 = v.routine ∙ get_drop up chain in
      let kinds = (ghost_fits p.program w.made w.store c.ghosts g.number g alive.holds.fits v.there).0 in
      let asked : slice_get (entries (routine_at p.program g.routine)) i
      ≡ Some kind = ap (λ r. slice_get (entries (routine_at p.program r)) i) routine ∙ q in
      record {
        ghost = g;
        is = at.1 ∙ ap Some v.is;
        there = v.there;
        place = get_or (layout_at p.program g.routine).places i 0;
        stands = place_there (entries (routine_at p.program g.routine)) i 1 kind asked;
        offset = ap (λ r. entry_offset (routine_at p.program r) i) (sym routine);
        entry_is = entry p.program c.ghosts w.made (frame_of (above c.env up)) g.slots i kind v.frame
            (ap (λ ks. slice_get ks i) kinds ∙ asked);
      }
    where
      drop_there : (i : ℕ) (xs : List ℕ) → i < length xs → 0 < length (drop i xs)
      drop_there i [] h = absurd (omega arith)
      drop_there zero (y ∷ ys) h = omega arith
      drop_there (suc i) (y ∷ ys) h = drop_there i ys (omega arith)

  -- a name's variable is at its site
  abbrev pub NameIn : Opening → PlaceBase → (t : ℕ) → Part → World → Work → Type 0
  NameIn o name t part w k = SiteAt p c w.made k.temporaries (name_site (scope_in p c o) name t)
      (denoted name (context_in c o)) part × IsBelow (suc t) (name_site (scope_in p c o) name t).base

  pub frame_base_below : (o : Opening) (t up : ℕ) → IsBelow (suc t) (frame_base (scope_in p c o) t up)
  frame_base_below o t zero = tt
  frame_base_below o t (suc up) = go (is_outermost (scope_in p c o) (suc up))
    where
      go : (q : Bool) → IsBelow (suc t) (if q then base.Program else base.Temporary t)
      go true = tt
      go false = omega arith

  entry_run : (d x : ℕ) (o : Opening) (w : World) (k : Work) (t up i pc pc' : ℕ) (shape : Shape) (kind : Option Kind)
      → kind_at (scope_in p c o) up i ≡ kind → shape_in kind ≡ Some shape → Alive p c w k → d ≤ t → up < length
      (chain_of c) → Stands (code_in p) c.routine pc
      (frame_code (scope_in p c o) t up ++ reference_code (scope_in p c o) kind t up i) pc'
      → Reached p c d x w k (state p c w k pc) pc'
      (λ w' k'. SiteAt p c w'.made k'.temporaries (entry_site (scope_in p c o) kind t up i)
      (spot_in (frame_of (above c.env up)) i) (Whole shape) × IsBelow (suc t)
      (entry_site (scope_in p c o) kind t up i).base) w
  entry_run d x o w k t up i pc pc' shape None q s alive l b st = some_none s
  entry_run d x o w k t up i pc pc' shape (Some (Closure ks result)) q s alive l b st = some_none s
  entry_run d x o w k t up i pc pc' shape (Some (Own shape')) q s alive l b st =
      let cut = split (code_in p) c.routine pc (frame_code (scope_in p c o) t up) [] pc' st in
      let r = frame_run d x o w k t up pc cut.0 alive l b cut.1 in
      let e = entry_there o w r.work up i (frame_base (scope_in p c o) t up) (Own shape') r.alive b r.result q in
      record {
        work = r.work;
        alive = r.alive;
        keeps = r.keeps;
        comes = subst (λ y. Comes (machine_of p) (state p c w k pc) (state p c w r.work y)) cut.2 r.comes;
        result = (
          record {
            block = FrameBlock e.ghost.number;
            offset = 0;
            base = e.is;
            place = subst (λ z. PlaceAt p.program c.ghosts w.made z (FrameBlock e.ghost.number)
                (0 + entry_offset (routine_up (scope_in p c o) up) i) (Whole shape)) (sym e.entry_is.2) (record {
                  ghost = e.ghost;
                  index = i;
                  shape = shape';
                  place = e.place;
                  inner = 0;
                  block = refl;
                  there = e.there;
                  slot = e.entry_is.1;
                  stands = e.stands;
                  inside = (ap Whole (sym (same_some s)), refl);
                  offset = let f = e.offset in omega (arith, f);
                });
          },
          frame_base_below o t up,
        );
      }
  entry_run d x o w k t up i pc pc' shape (Some (Reference shape')) q s alive l b st =
      let code = scope_in p c o in
      let cut = split (code_in p) c.routine pc (frame_code code t up) _ pc' st in
      let r = frame_run d x o w k t up pc cut.0 alive l b cut.1 in
      let e = entry_there o w r.work up i (frame_base code t up) (Reference shape') r.alive b r.result q in
      let block = e.entry_is.0 in
      let offset = e.entry_is.1.0 in
      let word = Address block offset in
      let m = (state p c w r.work cut.0).memory in
      let f = e.offset in
      let at : 0 + entry_offset (routine_up code up) i ≡ 4 * (e.place + 0) = omega (arith, f) in
      let loaded : load (text_at (code_in p)) m (FrameBlock e.ghost.number) (0 + entry_offset (routine_up code up) i)
      ≡ Some word = ap (load (text_at (code_in p)) m (FrameBlock e.ghost.number)) at ∙ frame_read p.program
      (text_at (code_in p)) m w c.ghosts e.ghost i e.place 0
      (ReferenceSlot shape' block offset) refl r.alive.holds.fits e.there e.stands e.entry_is.1.1 (omega arith) in
      let address = base_is c cut.0 r.work.temporaries (frame_base code t up) ∙ e.is in
      let one = gives_word p n c d x w r.work cut.0 pc' t word (λ w' k'. SiteAt p c w'.made k'.temporaries (record {
        base = base.Temporary t;
        offset = 0;
      }) (spot_in (frame_of (above c.env up)) i) (Whole shape) × (t < suc t))
      (load_step (machine_of p) (state p c w r.work cut.0) t (frame_base code t up)
      (entry_offset (routine_up code up) i) (FrameBlock e.ghost.number) 0 word cut.2.0 address loaded) cut.2.1 l
      r.alive (
        record {
          block = block;
          offset = offset;
          base = put_same r.work.temporaries t word;
          place = let z : offset ≡ offset + 0 = omega arith in subst
              (λ y. PlaceAt p.program c.ghosts w.made (spot_in (frame_of (above c.env up)) i) block y (Whole shape)) z
              (subst (λ h. PlaceAt p.program c.ghosts w.made (spot_in (frame_of (above c.env up)) i) block offset
              (Whole h)) (same_some s) e.entry_is.1.2);
        },
        omega arith,
      ) in
      reached_from p n c d x d x w w k r.work (state p c w k pc) (state p c w r.work cut.0) pc' _ _ w (omega arith)
      (omega arith) r.comes r.keeps one (λ k' a' y. y)

  -- the code of a name
  pub name_run : (d x : ℕ) (o : Opening) (w : World) (k : Work) (t pc pc' : ℕ) (name : PlaceBase) (shape : Shape)
      → Alive p c w k → IsOpened p c w k d o → d ≤ t → BaseFits (plain_scope p c) o.shapes name shape → Stands
      (code_in p) c.routine pc (name_code (scope_in p c o) name t) pc'
      → Reached p c d x w k (state p c w k pc) pc' (NameIn o name t (Whole shape)) w
  name_run d x o w k t pc pc' (Entry up i) shape alive opened l fits st = entry_run d x o w k t up i pc pc' shape
      (kind_at (scope_in p c o) up i) refl fits.1 alive l fits.0 st
  name_run d x o w k t pc pc' (Opened which type number) shape alive opened l fits st =
      let found_ = opened_get p c w.made k.temporaries d o.sites o.spots o.shapes which (shape_of type) opened fits.0 in
      let y = found_.0 in
      let m = field_offset (shape_of type) number in
      let s = step (get_or o.spots which no_spot) number in
      let at = stepped p c w.made k.temporaries y (get_or o.spots which no_spot) number m (shape_of type)
      (Whole shape) found_.2 (field_path (shape_of type) number shape fits.1) in
      here p n c d x w k pc pc' (NameIn o (Opened which type number) t (Whole shape)) st alive
      (subst (λ z. SiteAt p c w.made k.temporaries (field_site (scope_in p c o) z m) s (Whole shape) × IsBelow (suc t)
      (field_site (scope_in p c o) z m).base) (sym found_.1)
      (at, below_more p c d (suc t) y.base (omega (arith, l)) found_.3))
