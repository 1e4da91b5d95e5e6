-- Words that go from one place to another, one by one.
use Rattle.std.proofs.Common.{◌≡◌, ℕ, zero, suc, ◌+◌, get_or, Some, sum_by, refl, ◌∙◌, subst, arith}
use Rattle.tac_code.specs.declared.code.Base.{Base}
use Rattle.tac_code.specs.declared.code.Base.TheVariants as base
use Rattle.tac_code.specs.declared.code.Block.{Block}
use Rattle.tac_code.specs.declared.code.Value.{Value as Word}
use Rattle.tac_code.specs.declared.code.Value.TheVariants.{Address}
use Rattle.tac_code.specs.Memory.{Memory}
use Rattle.tac_code.specs.Meaning.{Temporaries, State, put}
use Rattle.ps_meaning.specs.Worlds.{World}
use Rattle.tac_code_steps.specs.Runs.{Stands, Comes}
use Rattle.tac_code_steps.proofs.Runs.{stay, a_step, ◌>>◌}
use Rattle.tac_code_steps.proofs.Temporaries.{put_same, put_other}
use Rattle.tac_code_steps.proofs.Instructions.{load_step, store_step}
use Rattle.ps_lower_code.specs.Scopes.{words_code}
use Rattle.ps_lower_relation.specs.Ghosts.{tape_of}
use Rattle.ps_lower_relation.specs.Here.{Setting, machine_of, code_in, Activated, activation, base_at}
use Rattle.ps_lower_relation.specs.RunTime.{CopiedUp}
use Rattle.ps_lower_constructs.proofs.Places.{base_is}

-- the base is another temporary, or none
abbrev pub Spares : ℕ → Base → Type 0
Spares v (base.Temporary t) = t ≡ v → ⊥
Spares v _ = Unit {0}

base_kept : (number : ℕ) (t : Temporaries) (v : ℕ) (word : Word) (b : Base) → Spares v b → base_at number
    (put t v word) b ≡ base_at number t b
base_kept number t v word base.Frame h = refl
base_kept number t v word base.Scratch h = refl
base_kept number t v word base.Program h = refl
base_kept number t v word (base.Temporary u) h = put_other t v word u h

module _ (p : Setting) (c : Activated) where
  -- the state, where the memory may be that of no world
  abbrev pub seen : World → (count : ℕ) → Temporaries → (pc : ℕ) → Memory → State
  seen w count t pc m =
      record {
        current = activation c pc t;
        callers = c.callers;
        memory = m;
        count = count;
        heap = sum_by (λ i. get_or p.objects i 0) w.made;
        tape = tape_of w.input w.transcript;
      }

  -- what such code leaves
  pub record Lined (v : ℕ) (w : World) (count : ℕ) (t : Temporaries) (pc pc' : ℕ) (m m' : Memory) : Type 0 where
    pub temporaries : Temporaries
    pub others : (j : ℕ) → (j ≡ v → ⊥) → temporaries j ≡ t j
    pub comes : Comes (machine_of p) (seen w count t pc m) (seen w count temporaries pc' m')

  pub in_line : (n : ℕ) (to from : Base) (o q v : ℕ) (b : Block) (place : ℕ) (source : Block) (start : ℕ) (w : World)
      (count : ℕ) (t : Temporaries) (pc pc' : ℕ) (m m' : Memory) → Spares v to → Spares v from → base_at c.number t to
      ≡ Some (Address b place) → base_at c.number t from ≡ Some (Address source start) → CopiedUp p m b
      (place + o) source (start + q) n m' → Stands (code_in p) c.routine pc (words_code to o from q v n) pc'
      → Lined v w count t pc pc' m m'
  unfolding words_code
  in_line zero to from o q v b place source start w count t pc pc' m m' st sf ht hf copied stands =
      record {
        temporaries = t;
        others = λ j ne. refl;
        comes = subst (λ y. Comes (machine_of p) (seen w count t pc m) (seen w count t pc' y)) copied
            (subst (λ y. Comes (machine_of p) (seen w count t pc m) (seen w count t y m)) stands
            (stay (seen w count t pc m)));
      }
  in_line (suc n) to from o q v b place source start w count t pc pc' m m' st sf ht hf copied stands =
      let word = copied.0 in
      let middle = copied.1 in
      let t1 = put t v word in
      let s0 = seen w count t pc m in
      let s1 = seen w count t1 (suc pc) m in
      let s2 = seen w count t1 (suc (suc pc)) middle in
      let e : place + o + 4 ≡ place + (o + 4) = omega arith in
      let f : start + q + 4 ≡ start + (q + 4) = omega arith in
      let rest = subst (λ y. CopiedUp p middle b (place + (o + 4)) source y n m') f
      (subst (λ y. CopiedUp p middle b y source (start + q + 4) n m') e copied.4) in
      let to_there = base_kept c.number t v word to st ∙ ht in
      let from_there = base_kept c.number t v word from sf ∙ hf in
      let r = in_line n to from (o + 4) (q + 4) v b place source start w count t1
      (suc (suc pc)) pc' middle m' st sf to_there from_there rest stands.1.1 in
      record {
        temporaries = r.temporaries;
        others = λ j ne. r.others j ne ∙ put_other t v word j ne;
        comes =
            a_step s0 s1 (load_step (machine_of p) s0 v from q source start word stands.0
            (base_is c pc t from ∙ hf) copied.2)
            >> (a_step s1 s2 (store_step (machine_of p) s1 to o v b place word middle stands.1.0
            (base_is c (suc pc) t1 to ∙ to_there) (put_same t v word) copied.3) >> r.comes);
      }
