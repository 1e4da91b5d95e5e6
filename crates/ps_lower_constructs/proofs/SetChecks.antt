-- A set that is stored in a variable: its members are within the base, or error 8.
use Rattle.std.proofs.Common.{◌≡◌, ℕ, zero, suc, ◌+◌, ◌*◌, ◌<◌, ◌≤◌, ℤ, pos, Bool, true, false, nat_eq, if◌then◌else◌}
use Rattle.std.proofs.Common.{[], ◌∷◌, ◌++◌, Some, refl, sym, ap, ◌∙◌, subst, arith, eqb-true}
use Rattle.tac_code.specs.declared.code.Base.TheVariants as base
use Rattle.tac_code.specs.declared.code.Block.TheVariants.{Scratch as ScratchBlock}
use Rattle.tac_code.specs.declared.code.Value.TheVariants.{Number as Numeral}
use Rattle.tac_code.specs.declared.code.Operand.TheVariants as operand
use Rattle.tac_code.specs.declared.code.BitOperator.TheVariants.{And, Or}
use Rattle.tac_code.specs.declared.code.Relation.TheVariants.{Equal}
use Rattle.tac_code.specs.declared.code.Instruction.TheVariants as i
use Rattle.tac_code.specs.Numbers.{number_of}
use Rattle.tac_code.specs.Memory.{load}
use Rattle.tac_code.specs.Meaning.{related, text_at, gives}
use Rattle.ps_meaning.specs.Values.{SetValue}
use Rattle.ps_meaning.specs.Operators.{set_fits}
use Rattle.ps_meaning.specs.Worlds.{World, give, fault}
use Rattle.ps_meaning.specs.Expressions.{fitting_set}
use Rattle.tac_code_steps.specs.Runs.{Stands, Comes}
use Rattle.tac_code_steps.proofs.Runs.{split, a_step}
use Rattle.tac_code_steps.proofs.Temporaries.{put_same, put_other}
use Rattle.tac_code_steps.proofs.Instructions.{load_step, bits_step, branch_step, trap_step}
use Rattle.ps_lower_code.specs.Scopes.{beside}
use Rattle.ps_lower_code.specs.Values.{holds_all, outside_bits, masked, joined_word, outside_code, set_check}
use Rattle.ps_lower_relation.specs.Here.{Setting, machine_of, code_in, Work, Activated, IsActive, Alive, state}
use Rattle.ps_lower_relation.specs.Outcomes.{Runs}
use Rattle.ps_lower_relation.specs.Sets.{set_number}
use Rattle.ps_lower_relation.proofs.Sets.{set_at}
use Rattle.ps_lower_relation.proofs.SetBounds.{strays, gathered, word_without, word_whole, word_masked, word_joined}
use Rattle.ps_lower_relation.proofs.SetBounds.{fits_gathered, fits_whole}
use Rattle.ps_lower_constructs.specs.Openings.{Opening, context_in}
use Rattle.ps_lower_constructs.proofs.Runs.{with_temporary, runs_from, keeps_refl}
use Rattle.ps_lower_constructs.proofs.Leaves.{fails_so}
use Rattle.ps_lower_constructs.proofs.Passages.{Passage, further, stands_still, to_end, word_passage, literal_passage}
use Rattle.ps_lower_constructs.proofs.Passages.{memory_with, scratch_held}
use Rattle.ps_lower_constructs.proofs.ScratchSets.{SetIn}

module _ (p : Setting) (c : Activated) (active : IsActive p c) (low high : ℤ) (s : ℕ → Bool) where
  -- t holds the members outside that the first words of the set hold.
  record Gathered (d x t words : ℕ) (w : World) (k : Work) (pc pc' : ℕ) : Type 0 where
    work : Work
    passage : Passage p c active d x w k pc work pc'
    set : SetIn x s work
    holds : work.temporaries t ≡ Some (Numeral (set_number (gathered low high s words) 0))

  -- a word's members outside are in the temporary beside t, and what t holds is as it was
  record Outside (d x t q : ℕ) (w : World) (k : Work) (pc pc' : ℕ) : Type 0 where
    work : Work
    passage : Passage p c active d x w k pc work pc'
    set : SetIn x s work
    same : work.temporaries t ≡ k.temporaries t
    holds : work.temporaries (beside t) ≡ Some (Numeral (set_number (strays low high s) q))

  word_outside : (d x t q : ℕ) (w : World) (k : Work) (pc pc' : ℕ) → d ≤ t → q < 8 → Alive p c w k → SetIn x s k
      → Stands (code_in p) c.routine pc (i.Load (beside t) base.Scratch (x + 4 * q) ∷ masked (beside t)
      (outside_bits low high q)) pc' → Outside d x t q w k pc pc'
  word_outside d x t q w k pc pc' l b alive set st = go (nat_eq (outside_bits low high q) 4294967295) refl st.1
    where
      u : ℕ
      u = beside t

      z : ℤ
      z = set_number s q

      apart : t ≡ u → ⊥
      apart e = omega (arith, e)

      there : load (text_at (code_in p)) (memory_with p c active w k.scratch) (ScratchBlock c.number) (0 + (x + 4 * q))
          ≡ Some (Numeral z)
      there =
          let n : 0 + (x + 4 * q) ≡ x + 4 * q = omega arith in
          ap (load (text_at (code_in p)) (memory_with p c active w k.scratch) (ScratchBlock c.number)) n
          ∙ set_at p (ScratchBlock c.number) (λ ws. memory_with p c active w ws)
          (scratch_held p c active w) set.0 x s k.scratch set.1 set.2 q b

      k1 : Work
      k1 = with_temporary k u (Numeral z)

      one : Passage p c active d x w k pc k1 (suc pc)
      one = word_passage p c active d x w k pc u (Numeral z) (omega (arith, l)) alive
          (load_step (machine_of p) (state p c w k pc) u base.Scratch (x + 4 * q) (ScratchBlock c.number) 0
          (Numeral z) st.0 refl there)

      at : k1.temporaries u ≡ Some (Numeral z)
      at = put_same k.temporaries u (Numeral z)

      go : (m : Bool) → nat_eq (outside_bits low high q) 4294967295 ≡ m → Stands (code_in p) c.routine (suc pc)
          (if m then [] else (i.Bits And u u (operand.Number (number_of (outside_bits low high q))) ∷ [])) pc'
          → Outside d x t q w k pc pc'
      go true e h =
          record {
            work = k1;
            passage = to_end p c active one h;
            set = set;
            same = put_other k.temporaries u (Numeral z) t apart;
            holds = at ∙ ap (λ y. Some (Numeral y))
                (word_whole low high s q (eqb-true (outside_bits low high q) 4294967295 e));
          }
      go false e h =
          let y = set_number (strays low high s) q in
          let k2 = with_temporary k1 u (Numeral y) in
          let mask = number_of (outside_bits low high q) in
          let two = word_passage p c active d x w k1 (suc pc) u (Numeral y) (omega (arith, l)) one.alive
          (bits_step (machine_of p) (state p c w k1 (suc pc)) And u u (operand.Number mask) z mask h.0 at refl
          ∙ ap (λ v. gives u (Numeral v) (state p c w k1 (suc pc))) (word_masked low high s q)) in
          record {
            work = k2;
            passage = to_end p c active (further p c active one two) h.1;
            set = set;
            same = put_other k1.temporaries u (Numeral y) t apart ∙ put_other k.temporaries u (Numeral z) t apart;
            holds = put_same k1.temporaries u (Numeral y);
          }

  word_gathered : (d x t q : ℕ) (w : World) (k : Work) (pc pc' : ℕ) → d ≤ t → q < 8 → Alive p c w k → SetIn x s k
      → k.temporaries t ≡ Some (Numeral (set_number (gathered low high s q) 0)) → Stands (code_in p) c.routine pc
      (joined_word t (x + 4 * q) (outside_bits low high q)) pc' → Gathered d x t (suc q) w k pc pc'
  word_gathered d x t q w k pc pc' l b alive set at st = go (nat_eq (outside_bits low high q) 0) refl st
    where
      go : (m : Bool) → nat_eq (outside_bits low high q) 0 ≡ m → Stands (code_in p) c.routine pc
          (if m then [] else (i.Load (beside t) base.Scratch (x + 4 * q) ∷ masked (beside t) (outside_bits low high q)
          ++ i.Bits Or t t (operand.Temporary (beside t)) ∷ [])) pc' → Gathered d x t (suc q) w k pc pc'
      go true e h =
          record {
            work = k;
            passage = stands_still p c active d x w k pc pc' h alive;
            set = set;
            holds = at ∙ ap (λ y. Some (Numeral y))
                (word_without low high s q (eqb-true (outside_bits low high q) 0 e));
          }
      go false e h =
          let cut = split (code_in p) c.routine pc
          (i.Load (beside t) base.Scratch (x + 4 * q) ∷ masked (beside t) (outside_bits low high q))
          (i.Bits Or t t (operand.Temporary (beside t)) ∷ []) pc' h in
          let one = word_outside d x t q w k pc cut.0 l b alive set cut.1 in
          let k1 = one.work in
          let y = set_number (gathered low high s (suc q)) 0 in
          let two = word_passage p c active d x w k1 cut.0 t (Numeral y) l one.passage.alive
          (bits_step (machine_of p) (state p c w k1 cut.0) Or t t (operand.Temporary (beside t))
          (set_number (gathered low high s q) 0) (set_number (strays low high s) q) cut.2.0
          (one.same ∙ at) one.holds ∙ ap (λ v. gives t (Numeral v) (state p c w k1 cut.0))
          (word_joined low high s q)) in
          record {
            work = with_temporary k1 t (Numeral y);
            passage = to_end p c active (further p c active one.passage two) cut.2.1;
            set = one.set;
            holds = put_same k1.temporaries t (Numeral y);
          }

  words_gathered : (d x t words : ℕ) (w : World) (k : Work) (pc pc' : ℕ) → d ≤ t → words ≤ 8 → Alive p c w k
      → SetIn x s k → k.temporaries t ≡ Some (Numeral (pos 0)) → Stands (code_in p) c.routine pc
      (outside_code low high t x words) pc' → Gathered d x t words w k pc pc'
  unfolding outside_code
  words_gathered d x t zero w k pc pc' l b alive set at st = record {
    work = k;
    passage = stands_still p c active d x w k pc pc' st alive;
    set = set;
    holds = at;
  }
  words_gathered d x t (suc q) w k pc pc' l b alive set at st =
      let cut = split (code_in p) c.routine pc (outside_code low high t x q)
      (joined_word t (x + 4 * q) (outside_bits low high q)) pc' st in
      let before = words_gathered d x t q w k pc cut.0 l (omega (arith, b)) alive set at cut.1 in
      let last = word_gathered d x t q w before.work cut.0 pc' l
      (omega (arith, b)) before.passage.alive before.set before.holds cut.2 in
      record {
        work = last.work;
        passage = further p c active before.passage last.passage;
        set = last.set;
        holds = last.holds;
      }

module _ (p : Setting) (n : ℕ) (c : Activated) (active : IsActive p c) where
  -- the set from x on is tested
  pub set_checked : (d x t line : ℕ) (low high : ℤ) (o : Opening) (s : ℕ → Bool) (w : World) (k : Work) (pc pc' : ℕ)
      → d ≤ t → Alive p c w k → SetIn x s k → Stands (code_in p) c.routine pc (set_check t x low high line) pc'
      → Runs p n c d x w k pc pc' (fitting_set low high s line (context_in c o) w)
      (λ v w' k'. (v ≡ SetValue s) × SetIn x s k')
  set_checked d x t line low high o s w k pc pc' l alive set st = go (holds_all low high) refl st
    where
      Wanted : (fits : Bool) (k : Work) (pc : ℕ) → Type 0
      Wanted fits k pc = Runs p n c d x w k pc pc'
          ((if fits then give (SetValue s) else fault 8 line (context_in c o)) w)
          (λ v w' k'. (v ≡ SetValue s) × SetIn x s k')

      branched : (fits : Bool) (k2 : Work) (m : ℕ) → Alive p c w k2 → SetIn x s k2 → related Equal (k2.temporaries t)
          (Some (Numeral (pos 0))) ≡ Some fits → Stands (code_in p) c.routine m
          (i.Branch Equal t (operand.Number (pos 0)) 1 ∷ i.Trap 8 line ∷ []) pc' → Wanted fits k2 m
      branched true k2 m alive2 set2 told last =
          let e : suc m + 1 ≡ suc (suc m) = omega arith in
          record {
            work = k2;
            alive = alive2;
            keeps = keeps_refl d x w k2;
            comes = subst (λ y. Comes (machine_of p) (state p c w k2 m) (state p c w k2 y)) (e ∙ last.1.1)
                (a_step (state p c w k2 m) (state p c w k2 (suc m + 1))
                (branch_step (machine_of p) (state p c w k2 m) Equal t (operand.Number (pos 0)) 1 true last.0 told));
            result = (refl, set2);
          }
      branched false k2 m alive2 set2 told last =
          let step = branch_step (machine_of p) (state p c w k2 m) Equal t (operand.Number (pos 0)) 1 false last.0 told
          in
          runs_from p n c d x w w k2 k2 m (suc m) pc' (fault 8 line (context_in c o) w)
          (λ v w' k'. (v ≡ SetValue s) × SetIn x s k') (a_step (state p c w k2 m) (state p c w k2 (suc m)) step)
          (keeps_refl d x w k2)
          (fails_so p n c active w k2 (suc m) 8 line (omega arith)
          (trap_step (machine_of p) (state p c w k2 (suc m)) 8 line last.1.0))

      go : (b : Bool) → holds_all low high ≡ b → Stands (code_in p) c.routine pc
          (if b then [] else (i.Literal t (pos 0) ∷ outside_code low high t x 8 ++ i.Branch Equal t
          (operand.Number (pos 0)) 1 ∷ i.Trap 8 line ∷ [])) pc' → Wanted (set_fits low high s) k pc
      go true e h =
          let still = stands_still p c active d x w k pc pc' h alive in
          subst (λ fits. Wanted fits k pc) (sym (fits_whole low high s e)) (record {
            work = k;
            alive = alive;
            keeps = still.keeps;
            comes = still.comes;
            result = (refl, set);
          })
      go false e h =
          let cut = split (code_in p) c.routine pc (i.Literal t (pos 0) ∷ outside_code low high t x 8)
          (i.Branch Equal t (operand.Number (pos 0)) 1 ∷ i.Trap 8 line ∷ []) pc' h in
          let one = literal_passage p c active d x w k pc t (pos 0) l alive cut.1.0 in
          let k1 = with_temporary k t (Numeral (pos 0)) in
          let all = words_gathered p c active low high s d x t 8 w k1 (suc pc) cut.0 l (omega arith) one.alive set
          (put_same k.temporaries t (Numeral (pos 0))) cut.1.1 in
          let whole = further p c active one all.passage in
          let told = ap (λ y. related Equal y (Some (Numeral (pos 0)))) all.holds ∙ ap Some (fits_gathered low high s)
          in
          runs_from p n c d x w w k all.work pc cut.0 pc'
          ((if set_fits low high s then give (SetValue s) else fault 8 line (context_in c o)) w)
          (λ v w' k'. (v ≡ SetValue s) × SetIn x s k') whole.comes whole.keeps
          (branched (set_fits low high s) all.work cut.0 whole.alive all.set told cut.2)
