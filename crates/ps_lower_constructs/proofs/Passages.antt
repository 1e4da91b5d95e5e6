-- Straight code: from one place to another, where what it leaves is stated outright.
use Rattle.std.proofs.Common.{◌≡◌, ℕ, suc, ◌+◌, ◌*◌, ◌<◌, ◌≤◌, ℤ, Bool, true, false, nat_eq, List, [], ◌∷◌, length}
use Rattle.std.proofs.Common.{slice_get, Option, Some, None, if◌then◌else◌, refl, sym, ap, ◌∙◌, subst, arith}
use Rattle.std.proofs.Common.{append-nil, lt-ltb, eqb-true}
use Rattle.std.proofs.lemmas.List.{length-map}
use Rattle.tac_code.specs.declared.code.Base.TheVariants as base
use Rattle.tac_code.specs.declared.code.Block.TheVariants.{Scratch as ScratchBlock}
use Rattle.tac_code.specs.declared.code.Value.{Value as Word}
use Rattle.tac_code.specs.declared.code.Value.TheVariants.{Number as Numeral, Address}
use Rattle.tac_code.specs.declared.code.Instruction.TheVariants as i
use Rattle.tac_code.specs.Memory.{Words, Memory, known, with_word, living, changed, instead, behind, value_in}
use Rattle.tac_code.specs.Memory.{with_scratch, store}
use Rattle.tac_code.specs.Meaning.{fetch, values_of, and_more, put, gives}
use Rattle.tac_code.specs.declared.code.TheConstants.{BLOCK_LIMIT}
use Rattle.tac_code.proofs.Numbers.{eq_same}
use Rattle.ps_meaning.specs.Worlds.{World}
use Rattle.tac_code_steps.specs.Runs.{Stands, Comes, step_of}
use Rattle.tac_code_steps.specs.Routines.{Does}
use Rattle.tac_code_steps.specs.Splices.{spliced}
use Rattle.tac_code_steps.proofs.Runs.{stay, a_step, ◌>>◌}
use Rattle.tac_code_steps.proofs.Temporaries.{put_same, put_other}
use Rattle.tac_code_steps.proofs.Blocks.{word_read, word_written}
use Rattle.tac_code_steps.proofs.Splices.{spliced_length, spliced_before}
use Rattle.tac_code_steps.proofs.Instructions.{literal_step, copy_step, offset_step, store_step}
use Rattle.ps_lower_code.specs.Scopes.{moved}
use Rattle.ps_lower_code.specs.Programs.{tac_of}
use Rattle.ps_lower_relation.specs.Here.{Setting, machine_of, code_in, Work, Activated, IsActive, Alive, state, Keeps}
use Rattle.ps_lower_relation.specs.Outcomes.{Reached}
use Rattle.ps_lower_relation.proofs.Copies.{Holding}
use Rattle.ps_lower_constructs.proofs.Runs.{keeps_refl, keeps_trans, keeps_less, with_temporary, keeps_put}
use Rattle.ps_lower_constructs.proofs.Scratch.{scratch_offset}
use Rattle.ps_lower_constructs.proofs.Writes.{numbered_more, is_fresh}

-- the work after a call of a run-time routine
abbrev pub called_work : Work → (t : ℕ) → Word → Words → Work
called_work k t v after = record { count = suc k.count; temporaries = put k.temporaries t v; scratch = after }

module _ (p : Setting) (c : Activated) (active : IsActive p c) where
  pub record Passage (d x : ℕ) (w : World) (k : Work) (pc : ℕ) (k' : Work) (pc' : ℕ) : Type 0 where
    pub comes : Comes (machine_of p) (state p c w k pc) (state p c w k' pc')
    pub alive : Alive p c w k'
    pub keeps : Keeps d x w k w k'

  pub stands_still : (d x : ℕ) (w : World) (k : Work) (pc pc' : ℕ) → pc ≡ pc' → Alive p c w k → Passage d x w k pc k pc'
  stands_still d x w k pc pc' e alive = record {
    comes = subst (λ q. Comes (machine_of p) (state p c w k pc) (state p c w k q)) e (stay (state p c w k pc));
    alive = alive;
    keeps = keeps_refl d x w k;
  }

  pub further : {d x pc pc1 pc2 : ℕ} {w : World} {k k1 k2 : Work} → Passage d x w k pc k1 pc1
      → Passage d x w k1 pc1 k2 pc2 → Passage d x w k pc k2 pc2
  further a b = record { comes = a.comes >> b.comes; alive = b.alive; keeps = keeps_trans a.keeps b.keeps }

  pub arrives : {d x pc pc' : ℕ} {w : World} {k k' : Work} → Passage d x w k pc k' pc' → (R : World → Work → Type 0)
      → R w k' → Reached p c d x w k (state p c w k pc) pc' R w
  arrives {k' = k'} a R r = record { work = k'; alive = a.alive; keeps = a.keeps; comes = a.comes; result = r }

  -- seen from lower depths
  pub passage_less : {pc pc' : ℕ} {w : World} {k k' : Work} (d x e y : ℕ) → d ≤ e → x ≤ y → Passage e y w k pc k' pc'
      → Passage d x w k pc k' pc'
  passage_less d x e y l h a = record { comes = a.comes; alive = a.alive; keeps = keeps_less d x e y l h a.keeps }

  -- the end of the code
  pub to_end : {d x pc mid pc' : ℕ} {w : World} {k k' : Work} → Passage d x w k pc k' mid → mid ≡ pc'
      → Passage d x w k pc k' pc'
  to_end {d} {x} {pc} {mid} {pc'} {w} {k} {k'} a e = subst (λ q. Passage d x w k pc k' q) e a

  -- ---- one instruction

  pub word_passage : (d x : ℕ) (w : World) (k : Work) (pc t : ℕ) (v : Word) → d ≤ t → Alive p c w k → step_of
      (machine_of p) (state p c w k pc) ≡ gives t v (state p c w k pc) → Passage d x w k pc (with_temporary k t v)
      (suc pc)
  word_passage d x w k pc t v l alive h =
      record {
        comes = a_step (state p c w k pc) (state p c w (with_temporary k t v) (suc pc)) h;
        alive = record { holds = alive.holds; stands = alive.stands; room = alive.room };
        keeps = keeps_put d x w k t v l;
      }

  pub literal_passage : (d x : ℕ) (w : World) (k : Work) (pc t : ℕ) (z : ℤ) → d ≤ t → Alive p c w k → fetch
      (code_in p) c.routine pc ≡ Some (i.Literal t z) → Passage d x w k pc (with_temporary k t (Numeral z)) (suc pc)
  literal_passage d x w k pc t z l alive h = word_passage d x w k pc t (Numeral z) l alive
      (literal_step (machine_of p) (state p c w k pc) t z h)

  -- the address of a stretch of the scratch block
  pub scratch_passage : (d y : ℕ) (w : World) (k : Work) (pc t x extent : ℕ) → d ≤ t → Alive p c w k → fetch
      (code_in p) c.routine pc ≡ Some (i.Offset t base.Scratch x extent) → Passage d y w k pc
      (with_temporary k t (Address (ScratchBlock c.number) x)) (suc pc)
  scratch_passage d y w k pc t x extent l alive h =
      let at = scratch_offset p c active pc t x extent h in
      let low = at.small in
      let z : 0 + x ≡ x = omega arith in
      word_passage d y w k pc t (Address (ScratchBlock c.number) x) l alive
      (offset_step (machine_of p) (state p c w k pc) t base.Scratch x extent (ScratchBlock c.number) 0 h refl
      (lt-ltb (0 + x) BLOCK_LIMIT (omega (arith, low)))
      ∙ ap (λ o. gives t (Address (ScratchBlock c.number) o) (state p c w k pc)) z)

  -- a word goes from one temporary to another
  pub moved_passage : (d x : ℕ) (w : World) (k : Work) (pc pc' a : ℕ) (v : Word) → d ≤ a → Alive p c w k
      → k.temporaries a ≡ Some v → Stands (code_in p) c.routine pc (moved a d) pc' → (k' : Work)
      × Passage d x w k pc k' pc' × (k'.temporaries d ≡ Some v)
  moved_passage d x w k pc pc' a v l alive at st = go (nat_eq a d) refl st
    where
      go : (b : Bool) → nat_eq a d ≡ b → Stands (code_in p) c.routine pc (if b then [] else (i.Copy d a ∷ [])) pc'
          → (k' : Work) × Passage d x w k pc k' pc' × (k'.temporaries d ≡ Some v)
      go true e h = (k, stands_still d x w k pc pc' h alive, ap k.temporaries (sym (eqb-true a d e)) ∙ at)
      go false e h = (
        with_temporary k d v,
        to_end
            (word_passage d x w k pc d v (omega arith) alive (copy_step (machine_of p) (state p c w k pc) d a v h.0 at))
            h.1,
        put_same k.temporaries d v,
      )

  -- ---- the scratch block

  -- the machine's memory, by the words of the scratch block
  abbrev pub memory_with : World → Words → Memory
  memory_with w ws = (state p c w (record { count = 0; temporaries = λ t. None; scratch = ws }) 0).memory

  pub scratch_held : (w : World) → Holding p (ScratchBlock c.number) (λ ws. memory_with w ws)
  scratch_held w =
      record {
        reads = λ ws j v e. ap (λ b. value_in (if b then Some ws else living c.waiting c.number) (4 * j))
            (eq_same c.number) ∙ word_read ws j ∙ ap known e;
        writes = λ ws j v l.
            ap (λ b. with_scratch (memory_with w ws) (if b then instead (record {
              number = c.number;
              words = ws;
            }) c.waiting (with_word ws (4 * j) v) else behind (record {
              number = c.number;
              words = ws;
            }) (changed c.waiting c.number (λ words. with_word words (4 * j) v)))) (eq_same c.number)
            ∙ ap (λ o. with_scratch (memory_with w ws) (instead (record {
              number = c.number;
              words = ws;
            }) c.waiting o)) (word_written ws j v l);
      }

  -- a word of the scratch block is written
  pub store_passage : (d y : ℕ) (w : World) (k : Work) (pc x j t : ℕ) (v : Word) → y ≤ x → x ≡ 4 * j
      → j < length k.scratch → Alive p c w k → k.temporaries t ≡ Some v → fetch (code_in p) c.routine pc ≡ Some
      (i.Store base.Scratch x t) → Passage d y w k pc (record k { scratch = spliced j (Some v ∷ []) k.scratch })
      (suc pc)
  store_passage d y w k pc x j t v l e room alive at h =
      let after = spliced j (Some v ∷ []) k.scratch in
      let k' : Work = record k { scratch = after } in
      let z : 0 + x ≡ 4 * j = omega (arith, e) in
      record {
        comes = a_step (state p c w k pc) (state p c w k' (suc pc))
            (store_step (machine_of p) (state p c w k pc) base.Scratch x t (ScratchBlock c.number) 0 v
            (memory_with w after) h refl at (ap (λ o. store (memory_with w k.scratch) (ScratchBlock c.number) o v) z
            ∙ (scratch_held w).writes k.scratch j v room));
        alive = record {
          holds = alive.holds;
          stands = alive.stands;
          room = spliced_length j (Some v ∷ []) k.scratch ∙ alive.room;
        };
        keeps = record {
          temporaries = λ m b. refl;
          scratch = λ m b. spliced_before j (Some v ∷ []) k.scratch m (omega (arith, b, l, e));
          grown = ([], sym (append-nil w.made));
        };
      }

  -- a run-time routine that writes no memory but the scratch block
  pub call_passage : (d y : ℕ) (w : World) (k : Work) (pc pc' t routine : ℕ) (operands : List ℕ) (values : List Word)
      (v : Word) (after : Words) → d ≤ t → Alive p c w k → length after ≡ length k.scratch
      → ((m : ℕ) → 4 * m < y → slice_get after m ≡ slice_get k.scratch m)
      → Does (machine_of p) routine values (memory_with w k.scratch) (state p c w k pc).tape v (memory_with w after)
      (state p c w k pc).tape → values_of k.temporaries operands ≡ Some values → Stands (code_in p) c.routine pc
      (i.Call t (length p.program.routines + routine) operands 1 ∷ []) pc' → Passage d y w k pc
      (called_work k t v after) pc'
  call_passage d y w k pc pc' t routine operands values v after l alive wide same does at st =
      let call = subst (λ m. Stands (code_in p) c.routine pc (i.Call t (m + routine) operands 1 ∷ []) pc')
      (sym (length-map p.program.routines (tac_of p.program))) st in
      record {
        comes = subst (λ q. Comes (machine_of p) (state p c w k pc) (state p c w (called_work k t v after) q)) call.1
            (does.by (state p c w k pc) t 1 operands refl refl (is_fresh p c active w k pc alive) at call.0);
        alive = record {
          holds = record {
            fits = alive.holds.fits;
            objects = alive.holds.objects;
            names = alive.holds.names;
            numbered = numbered_more c.ghosts k.count (suc k.count) (omega arith) alive.holds.numbered;
            input = alive.holds.input;
          };
          stands = alive.stands;
          room = wide ∙ alive.room;
        };
        keeps = record {
          temporaries = λ m b. let ne : m ≡ t → ⊥ = λ e. omega (arith, l, b, e) in put_other k.temporaries t v m ne;
          scratch = same;
          grown = ([], sym (append-nil w.made));
        };
      }

-- the values of two and of three temporaries
pub two_values : (t : ℕ → Option Word) (a b : ℕ) (u v : Word) → t a ≡ Some u → t b ≡ Some v → values_of t (a ∷ b ∷ [])
    ≡ Some (u ∷ v ∷ [])
two_values t a b u v e f = ap (λ y. and_more y (and_more (t b) (Some []))) e
    ∙ ap (λ y. and_more (Some u) (and_more y (Some []))) f

pub three_values : (t : ℕ → Option Word) (a b c : ℕ) (u v x : Word) → t a ≡ Some u → t b ≡ Some v → t c ≡ Some x
    → values_of t (a ∷ b ∷ c ∷ []) ≡ Some (u ∷ v ∷ x ∷ [])
three_values t a b c u v x e f g = ap (λ y. and_more y (and_more (t b) (and_more (t c) (Some [])))) e
    ∙ ap (λ y. and_more (Some u) (and_more y (and_more (t c) (Some [])))) f
    ∙ ap (λ y. and_more (Some u) (and_more (Some v) (and_more y (Some [])))) g
