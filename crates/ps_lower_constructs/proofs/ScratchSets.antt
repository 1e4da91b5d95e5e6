-- Sets in the scratch block, by straight code: loaded, emptied, combined, with more members; and tests of them.
use Rattle.std.proofs.Common.{◌≡◌, ◌⊎◌, inl, inr, ℕ, suc, ◌+◌, ◌*◌, ◌/◌, ◌%◌, ◌^◌, ◌<◌, ◌≤◌, ℤ, pos, int_lt, Bool}
use Rattle.std.proofs.Common.{true, false, ◌||◌, [], ◌∷◌, length, slice_get, Option, Some, refl, sym, ap, ◌∙◌, subst}
use Rattle.std.proofs.Common.{append-nil, arith, lt-ltb, nat_eq, nat_lt, eqb-true, eq-eqb, ltb-true, ltb-false}
use Rattle.std.proofs.lemmas.Option.{slice_get_within}
use Rattle.ps_tree.specs.declared.tree.operators.SetOperator.{SetOperator}
use Rattle.tac_code.specs.declared.code.Base.TheVariants as base
use Rattle.tac_code.specs.declared.code.Block.{Block}
use Rattle.tac_code.specs.declared.code.Block.TheVariants.{Scratch as ScratchBlock}
use Rattle.tac_code.specs.declared.code.Value.TheVariants.{Number as Numeral, Address}
use Rattle.tac_code.specs.declared.code.Instruction.TheVariants as i
use Rattle.tac_code.specs.declared.code.Value.{Value as Word}
use Rattle.tac_code.specs.declared.code.Operand.TheVariants as operand
use Rattle.tac_code.specs.declared.code.BitOperator.TheVariants.{Or}
use Rattle.tac_code.specs.Numbers.{truth, bits, number_of as number_in}
use Rattle.tac_code.specs.Memory.{Words, known, load}
use Rattle.tac_code.specs.Meaning.{fetch, text_at}
use Rattle.tac_code.specs.declared.code.TheConstants.{BLOCK_LIMIT}
use Rattle.ps_meaning.specs.Values.{Spot, set_of, no_member_of}
use Rattle.ps_meaning.specs.Operators.{combine_sets, is_included, interval}
use Rattle.ps_meaning.specs.Worlds.{World, contents_in}
use Rattle.tac_code_steps.specs.Runs.{Stands}
use Rattle.tac_code_steps.specs.Splices.{spliced}
use Rattle.tac_code_steps.proofs.Temporaries.{put_same, put_other}
use Rattle.tac_code_steps.proofs.Splices.{spliced_length, spliced_inside, spliced_before, spliced_behind}
use Rattle.tac_code_steps.proofs.Instructions.{offset_step, load_step, bits_step}
use Rattle.tac_rt.specs.Numbers.{run_time_number}
use Rattle.ps_lower_layout.specs.Shapes.{SetShape, Whole}
use Rattle.ps_lower_layout.specs.Words.{set_words}
use Rattle.ps_lower_code.specs.Scopes.{Site, words_code}
use Rattle.ps_lower_code.specs.Values.{set_routine, bit_code}
use Rattle.ps_lower_relation.specs.Here.{Setting, machine_of, code_in, Work, Activated, IsActive, Alive, state, SiteAt}
use Rattle.ps_lower_relation.specs.Here.{Keeps}
use Rattle.ps_lower_relation.specs.RunTime.{SetAt, CopiedUp, WritesDo}
use Rattle.ps_lower_relation.specs.Sets.{set_number}
use Rattle.ps_lower_relation.proofs.Copies.{SameOutside, Sources, copied_up}
use Rattle.ps_lower_relation.proofs.Places.{place_end}
use Rattle.ps_lower_relation.proofs.SetWords.{set_word}
use Rattle.ps_lower_relation.proofs.Sets.{HasSet, set_at, adds, one_added, joins_sets, adding_interval, has_same}
use Rattle.ps_lower_relation.proofs.Sets.{here_spliced, there_spliced}
use Rattle.ps_lower_relation.proofs.Spots.{spot_read}
use Rattle.ps_lower_constructs.proofs.Runs.{with_temporary}
use Rattle.ps_lower_constructs.proofs.InLine.{in_line}
use Rattle.ps_lower_constructs.proofs.Places.{base_is}
use Rattle.ps_lower_constructs.proofs.Scratch.{ScratchAt, scratch_offset, scratch_store, scratch_room}
use Rattle.ps_lower_constructs.proofs.Passages.{called_work, Passage, further, to_end, word_passage, literal_passage}
use Rattle.ps_lower_constructs.proofs.Passages.{scratch_passage, memory_with, scratch_held, store_passage}
use Rattle.ps_lower_constructs.proofs.Passages.{call_passage, two_values, three_values}

-- a word that is there is within
within_list : {v : Option Word} (place : ℕ) (ws : Words) → slice_get ws (place + 7) ≡ Some v → place + 8 ≤ length ws
within_list place ws h = let l = slice_get_within ws (place + 7) _ h in omega (arith, l)

-- a set is in the scratch block from x on
abbrev pub SetIn : (x : ℕ) → (ℕ → Bool) → Work → Type 0
SetIn x s k = (place : ℕ) × (x ≡ 4 * place) × HasSet place s k.scratch

-- it is still there after code that writes above it
pub set_kept : (x d y : ℕ) (s : ℕ → Bool) (w w' : World) (k k' : Work) → x + 32 ≤ y → Keeps d y w k w' k' → SetIn x s k
    → SetIn x s k'
set_kept x d y s w w' k k' l kept at = (
  at.0,
  at.1,
  λ q b. let e = at.1 in kept.scratch (at.0 + q)
      (omega (arith, e, b, l)) ∙ at.2 q b,
)

module _ (p : Setting) (c : Activated) (active : IsActive p c) where
  -- a set is at the address in t, whatever becomes of the scratch block below y
  pub record AskedIn (t y : ℕ) (s : ℕ → Bool) (w : World) (k : Work) : Type 0 where
    pub block : Block
    pub offset : ℕ
    pub word : k.temporaries t ≡ Some (Address block offset)
    pub at : (ws : Words) → ((j : ℕ) → y ≤ 4 * j → slice_get ws j ≡ slice_get k.scratch j) → SetAt p
        (memory_with p c active w ws) block offset s
    pub small : offset + 32 < BLOCK_LIMIT

module _ (p : Setting) (c : Activated) (active : IsActive p c) (does : WritesDo p) where
  -- what straight code leaves: a set in the scratch block
  pub record SetLeft (d x : ℕ) (w : World) (k : Work) (pc pc' : ℕ) (s : ℕ → Bool) : Type 0 where
    pub work : Work
    pub passage : Passage p c active d x w k pc work pc'
    pub set : SetIn x s work

  abbrev block : Block
  block = ScratchBlock c.number

  -- ---- two sets are joined

  -- the set from x on, and the one at the address in u
  pub combined_so : (operator : SetOperator) (d x t u : ℕ) (s s' : ℕ → Bool) (w : World) (k : Work) (pc pc' : ℕ) → d ≤ t
      → (t ≡ u → ⊥) → Alive p c w k → SetIn x s k → AskedIn p c active u (x + 32) s' w k
      → Stands (code_in p) c.routine pc (i.Offset t base.Scratch x 32 ∷ i.Call t
      (length p.program.routines + run_time_number (set_routine operator)) (t ∷ u ∷ []) 1 ∷ []) pc'
      → SetLeft d x w k pc pc' (combine_sets operator s s')
  combined_so operator d x t u s s' w k pc pc' l ne alive first second st =
      let one = Address block x in
      let two = Address second.block second.offset in
      let a = scratch_passage p c active d x w k pc t x 32 l alive st.0 in
      let k1 = with_temporary k t one in
      let at1 = scratch_offset p c active pc t x 32 st.0 in
      let room = scratch_room p c active x 32 8 w k alive at1 (omega arith) in
      let e = first.1 in
      let f = at1.is in
      let r = joins_sets p block (λ ws. memory_with p c active w ws)
      (scratch_held p c active w) operator first.0 x second.block second.offset s s' k.scratch
      (omega (arith, room, e, f)) e first.2 (λ ws same. second.at ws (λ j h. same j (omega (arith, h, e)))) in
      let tape = (state p c w k pc).tape in
      let law = does.sets.joined operator block x second.block second.offset (memory_with p c active w k.scratch)
      (memory_with p c active w r.after) tape r.up at1.small second.small in
      let values = two_values k1.temporaries t u one two (put_same k.temporaries t one)
      (put_other k.temporaries t one u (λ q. ne (sym q)) ∙ second.word) in
      record {
        work = called_work k1 t (Numeral (pos 0)) r.after;
        passage = further p c active a (call_passage p c active d x w k1 (suc pc) pc' t
            (run_time_number (set_routine operator)) (t ∷ u ∷ []) (one ∷ two ∷ [])
            (Numeral (pos 0)) r.after l a.alive r.other.wide
            (λ m low. r.other.below m (omega (arith, low, e))) law values st.1);
        set = (first.0, e, r.has);
      }

  -- ---- members are added

  -- none, where the first is above the last; the set's address is in u
  pub nothing_called : (d x a b u t : ℕ) (s : ℕ → Bool) (y z : ℤ) (w : World) (k : Work) (pc pc' : ℕ) → d ≤ t
      → Alive p c w k → k.temporaries u ≡ Some (Address block x) → k.temporaries a ≡ Some (Numeral y) → k.temporaries b
      ≡ Some (Numeral z) → int_lt z y ≡ true → SetIn x s k
      → Stands (code_in p) c.routine pc (i.Call t (length p.program.routines + 1) (u ∷ a ∷ b ∷ []) 1 ∷ []) pc'
      → SetLeft d x w k pc pc' s
  nothing_called d x a b u t s y z w k pc pc' lt alive at_u at_a at_b over set st =
      let address = Address block x in
      let law = does.sets.nothing y z block x (memory_with p c active w k.scratch) (state p c w k pc).tape over in
      record {
        work = called_work k t (Numeral (pos 0)) k.scratch;
        passage = call_passage p c active d x w k pc pc' t 1 (u ∷ a ∷ b ∷ []) (address ∷ Numeral y ∷ Numeral z ∷ [])
            (Numeral (pos 0)) k.scratch lt alive refl (λ m low. refl) law
            (three_values k.temporaries u a b address (Numeral y) (Numeral z) at_u at_a at_b) st;
        set = set;
      }

  pub interval_called : (d x a b u t n m : ℕ) (s : ℕ → Bool) (w : World) (k : Work) (pc pc' : ℕ) → d ≤ t → Alive p c w k
      → ScratchAt p c active x 32 → k.temporaries u ≡ Some (Address block x) → k.temporaries a ≡ Some (Numeral (pos n))
      → k.temporaries b ≡ Some (Numeral (pos (n + m))) → n + m < 256 → SetIn x s k
      → Stands (code_in p) c.routine pc (i.Call t (length p.program.routines + 1) (u ∷ a ∷ b ∷ []) 1 ∷ []) pc'
      → SetLeft d x w k pc pc' (λ j. s j || interval (pos n) (pos (n + m)) j)
  interval_called d x a b u t n m s w k pc pc' lt alive at at_u at_a at_b low set st =
      let address = Address block x in
      let room = scratch_room p c active x 32 8 w k alive at (omega arith) in
      let e = set.1 in
      let f = at.is in
      let r = adds p block (λ ws. memory_with p c active w ws) (scratch_held p c active w)
      (suc m) n set.0 x s k.scratch e (omega (arith, room, e, f)) (omega (arith, low)) set.2 in
      let law = does.sets.added n m block x (memory_with p c active w k.scratch) (memory_with p c active w r.after)
      (state p c w k pc).tape low r.up at.small in
      record {
        work = called_work k t (Numeral (pos 0)) r.after;
        passage = call_passage p c active d x w k pc pc' t 1 (u ∷ a ∷ b ∷ [])
            (address ∷ Numeral (pos n) ∷ Numeral (pos (n + m)) ∷ []) (Numeral (pos 0)) r.after lt alive r.other.wide
            (λ j b. r.other.below j (omega (arith, b, e))) law
            (three_values k.temporaries u a b address (Numeral (pos n)) (Numeral (pos (n + m))) at_u at_a at_b) st;
        set = (
          set.0,
          e,
          has_same set.0 _ (λ j. s j || interval (pos n) (pos (n + m)) j) r.after
              (λ j. adding_interval m n j s) r.has,
        );
      }

  pub interval_added : (d x a b u t n m : ℕ) (s : ℕ → Bool) (w : World) (k : Work) (pc pc' : ℕ) → d ≤ u → d ≤ t
      → (a ≡ u → ⊥) → (b ≡ u → ⊥) → Alive p c w k → k.temporaries a ≡ Some (Numeral (pos n)) → k.temporaries b ≡ Some
      (Numeral (pos (n + m))) → n + m < 256 → SetIn x s k
      → Stands (code_in p) c.routine pc (i.Offset u base.Scratch x 32 ∷ i.Call t (length p.program.routines + 1)
      (u ∷ a ∷ b ∷ []) 1 ∷ []) pc' → SetLeft d x w k pc pc' (λ j. s j || interval (pos n) (pos (n + m)) j)
  interval_added d x a b u t n m s w k pc pc' lu lt na nb alive at_a at_b low set st =
      let address = Address block x in
      let one = scratch_passage p c active d x w k pc u x 32 lu alive st.0 in
      let k1 = with_temporary k u address in
      let left = interval_called d x a b u t n m s w k1 (suc pc) pc' lt one.alive
      (scratch_offset p c active pc u x 32 st.0) (put_same k.temporaries u address)
      (put_other k.temporaries u address a na ∙ at_a) (put_other k.temporaries u address b nb ∙ at_b) low set st.1
      in
      record { work = left.work; passage = further p c active one left.passage; set = left.set }

  -- a member that is known
  pub bit_so : (d x t n : ℕ) (s : ℕ → Bool) (w : World) (k : Work) (pc pc' : ℕ) → d ≤ t → n < 256 → Alive p c w k
      → SetIn x s k → Stands (code_in p) c.routine pc (bit_code n t x) pc' → SetLeft d x w k pc pc'
      (λ j. s j || nat_eq j n)
  bit_so d x t n s w k pc pc' l low alive set st =
      let q : ℕ = n / 32 in
      let place = set.0 in
      let e = set.1 in
      let number = set_number s q in
      let bit = number_in (2 ^ (n % 32)) in
      let new = Numeral (bits Or number bit) in
      let at = scratch_store p c active (suc (suc pc)) (x + 4 * q) t st.1.1.0 in
      let end = scratch_room p c active (x + 4 * q) 4 1 w k alive at (omega arith) in
      let f = at.is in
      let room : place + q < length k.scratch = omega (arith, end, e, f) in
      let there : 0 + (x + 4 * q) ≡ 4 * (place + q) = omega (arith, e) in
      let k1 = with_temporary k t (Numeral number) in
      let k2 = with_temporary k1 t new in
      let a = word_passage p c active d x w k pc t (Numeral number) l alive
      (load_step (machine_of p) (state p c w k pc) t base.Scratch (x + 4 * q) block 0 (Numeral number) st.0 refl
      (ap (load (text_at (code_in p)) (memory_with p c active w k.scratch) block) there
      ∙ (scratch_held p c active w).reads k.scratch (place + q) (Numeral number) (set.2 q (omega (arith, low))))) in
      let b = word_passage p c active d x w k1 (suc pc) t new l a.alive
      (bits_step (machine_of p) (state p c w k1 (suc pc)) Or t t (operand.Number bit) number bit st.1.0
      (put_same k.temporaries t (Numeral number)) refl) in
      let g = store_passage p c active d x w k2 (suc (suc pc)) (x + 4 * q) (place + q) t new (omega arith)
      (omega (arith, e)) room b.alive (put_same k1.temporaries t new) st.1.1.0 in
      record {
        work = record k2 { scratch = spliced (place + q) (Some new ∷ []) k.scratch };
        passage = to_end p c active (further p c active a (further p c active b g)) st.1.1.1;
        set = (
          place,
          e,
          one_added p block (λ ws. memory_with p c active w ws)
              (scratch_held p c active w) n place s k.scratch low
              (within_list set.0 k.scratch (set.2 7 (omega arith))) set.2,
        );
      }

  -- ---- tests of sets

  -- whether one is included in another
  pub included_so : (d x a b t o o' : ℕ) (s s' : ℕ → Bool) (w : World) (k : Work) (pc pc' : ℕ) → d ≤ t → Alive p c w k
      → k.temporaries a ≡ Some (Address block o) → k.temporaries b ≡ Some (Address block o') → SetIn o s k
      → SetIn o' s' k → o + 32 < BLOCK_LIMIT → o' + 32 < BLOCK_LIMIT
      → Stands (code_in p) c.routine pc (i.Call t (length p.program.routines + 5) (a ∷ b ∷ []) 1 ∷ []) pc'
      → Passage p c active d x w k pc (called_work k t (Numeral (truth (is_included s s'))) k.scratch) pc'
  included_so d x a b t o o' s s' w k pc pc' l alive at_a at_b first second small small' st =
      let held = scratch_held p c active w in
      let there = set_at p block (λ ws. memory_with p c active w ws) held first.0 o s k.scratch first.1 first.2 in
      let there' = set_at p block (λ ws. memory_with p c active w ws) held second.0 o' s' k.scratch second.1 second.2 in
      let law = does.sets.included block o block o' s s' (memory_with p c active w k.scratch)
      (state p c w k pc).tape there there' small small' in
      call_passage p c active d x w k pc pc' t 5 (a ∷ b ∷ []) (Address block o ∷ Address block o' ∷ [])
      (Numeral (truth (is_included s s'))) k.scratch l alive refl (λ m low. refl) law
      (two_values k.temporaries a b (Address block o) (Address block o') at_a at_b) st

  -- ---- an empty set

  -- the first words are 0, and nothing below is another
  record Cleared (place q : ℕ) (ws0 ws : Words) : Type 0 where
    wide : length ws ≡ length ws0
    zeros : (j : ℕ) → j < q → slice_get ws (place + j) ≡ Some (Some (Numeral (pos 0)))

  one_more : (d x y place q t : ℕ) (w : World) (k0 k : Work) (pc : ℕ) → x ≡ 4 * place → y ≡ x + 4 * q → place
      + 8 ≤ length k0.scratch → q < 8 → Alive p c w k → k.temporaries t ≡ Some (Numeral (pos 0)) → fetch
      (code_in p) c.routine pc ≡ Some (i.Store base.Scratch y t) → Cleared place q k0.scratch k.scratch
      → (k' : Work) × Passage p c active d x w k pc k' (suc pc) × Cleared place (suc q) k0.scratch k'.scratch
      × (k'.temporaries t ≡ Some (Numeral (pos 0)))
  one_more d x y place q t w k0 k pc e f room low alive at h cleared =
      let z = Numeral (pos 0) in
      let j = place + q in
      let wide = cleared.wide in
      let k' : Work = record k { scratch = spliced j (Some z ∷ []) k.scratch } in (
        k',
        store_passage p c active d x w k pc y j t z (omega (arith, f)) (omega (arith, e, f))
            (omega (arith, wide, room, low)) alive at h,
        record { wide = spliced_length j (Some z ∷ []) k.scratch ∙ wide; zeros = λ m b. zero_at m b (nat_eq m q) refl },
        at,
      )
    where
      zero_at : (m : ℕ) → m < suc q → (b : Bool) → nat_eq m q ≡ b → slice_get
          (spliced (place + q) (Some (Numeral (pos 0)) ∷ []) k.scratch) (place + m) ≡ Some (Some (Numeral (pos 0)))
      zero_at m b true g =
          let wide = cleared.wide in
          ap (λ n. slice_get (spliced (place + q) (Some (Numeral (pos 0)) ∷ []) k.scratch) (place + n)) (eqb-true m q g)
          ∙ here_spliced (place + q) k.scratch (Numeral (pos 0)) (omega (arith, wide, room, low))
      zero_at m b false g =
          let ne : m ≡ q → ⊥ = λ u. no (sym (eq-eqb m q u) ∙ g) in
          let apart : place + m ≡ place + q → ⊥ = λ u. ne (omega (arith, u)) in
          there_spliced (place + q) (place + m) k.scratch (Numeral (pos 0)) apart ∙ cleared.zeros m
          (smaller m b (nat_lt m q) refl ne)
        where
          no : true ≡ false → ⊥
          no u = absurd (cc u)

          smaller : (m : ℕ) → m < suc q → (b : Bool) → nat_lt m q ≡ b → (m ≡ q → ⊥) → m < q
          smaller m b true g ne = ltb-true m q g
          smaller m b false g ne = let y = ltb-false m q g in absurd (ne (omega (arith, y, b)))

  -- one word after another: what follows is stated for the work that is left
  zeros_then : (R : Type 0) (d x y place q t : ℕ) (w : World) (k now : Work) (pc0 pc : ℕ) → x ≡ 4 * place → y ≡ x
      + 4 * q → place + 8 ≤ length k.scratch → q < 8 → Passage p c active d x w k pc0 now pc
      → Cleared place q k.scratch now.scratch → now.temporaries t ≡ Some (Numeral (pos 0)) → fetch
      (code_in p) c.routine pc ≡ Some (i.Store base.Scratch y t)
      → ((k' : Work) → Passage p c active d x w k pc0 k' (suc pc) → Cleared place (suc q) k.scratch k'.scratch
      → k'.temporaries t ≡ Some (Numeral (pos 0)) → R) → R
  zeros_then R d x y place q t w k now pc0 pc e f room low so_far cleared at h next =
      let r = one_more d x y place q t w k now pc e f room low so_far.alive at h cleared in
      next r.0 (further p c active so_far r.1) r.2 r.3

  pub cleared_so : (d x t : ℕ) (w : World) (k : Work) (pc pc' : ℕ) → d ≤ t → Alive p c w k
      → Stands (code_in p) c.routine pc (i.Literal t (pos 0) ∷ i.Store base.Scratch x t ∷ i.Store base.Scratch (x + 4) t
      ∷ i.Store base.Scratch (x + 8) t ∷ i.Store base.Scratch (x + 12) t ∷ i.Store base.Scratch (x + 16) t
      ∷ i.Store base.Scratch (x + 20) t ∷ i.Store base.Scratch (x + 24) t ∷ i.Store base.Scratch (x + 28) t ∷ [])
      pc'
      → SetLeft d x w k pc pc' no_member_of
  cleared_so d x t w k pc pc' l alive st =
      zeros_then R d x x m 0 t w k k0 pc p1 e (omega arith) room (omega arith)
      (literal_passage p c active d x w k pc t (pos 0) l alive st.0) none
      (put_same k.temporaries t (Numeral (pos 0))) st.1.0
      (λ k1 s1 c1 a1. zeros_then R d x (x + 4) m 1 t w k k1 pc p2 e (omega arith) room (omega arith) s1 c1 a1 st.1.1.0
      (λ k2 s2 c2 a2. zeros_then R d x (x + 8) m 2 t w k k2 pc p3 e (omega arith) room (omega arith) s2 c2 a2 st.1.1.1.0
      (λ k3 s3 c3 a3. zeros_then R d x (x + 12) m 3 t w k k3 pc p4 e (omega arith) room
      (omega arith) s3 c3 a3 st.1.1.1.1.0
      (λ k4 s4 c4 a4. zeros_then R d x (x + 16) m 4 t w k k4 pc p5 e (omega arith) room
      (omega arith) s4 c4 a4 st.1.1.1.1.1.0
      (λ k5 s5 c5 a5. zeros_then R d x (x + 20) m 5 t w k k5 pc p6 e (omega arith) room
      (omega arith) s5 c5 a5 st.1.1.1.1.1.1.0
      (λ k6 s6 c6 a6. zeros_then R d x (x + 24) m 6 t w k k6 pc p7 e (omega arith) room
      (omega arith) s6 c6 a6 st.1.1.1.1.1.1.1.0
      (λ k7 s7 c7 a7. zeros_then R d x (x + 28) m 7 t w k k7 pc p8 e (omega arith) room
      (omega arith) s7 c7 a7 st.1.1.1.1.1.1.1.1.0
      (λ k8 s8 c8 a8. record {
        work = k8;
        passage = to_end p c active s8 st.1.1.1.1.1.1.1.1.1;
        set = (m, e, λ q b. c8.zeros q b);
      }))))))))
    where
      R : Type 0
      R = SetLeft d x w k pc pc' no_member_of

      p1 : ℕ
      p1 = suc pc

      p2 : ℕ
      p2 = suc p1

      p3 : ℕ
      p3 = suc p2

      p4 : ℕ
      p4 = suc p3

      p5 : ℕ
      p5 = suc p4

      p6 : ℕ
      p6 = suc p5

      p7 : ℕ
      p7 = suc p6

      p8 : ℕ
      p8 = suc p7

      k0 : Work
      k0 = with_temporary k t (Numeral (pos 0))

      at : ScratchAt p c active x 4
      at = scratch_store p c active p1 x t st.1.0

      m : ℕ
      m = at.place

      e : x ≡ 4 * m
      e = at.is

      room : m + 8 ≤ length k.scratch
      room = let end = scratch_store p c active p8 (x + 28) t st.1.1.1.1.1.1.1.1.0 in let last = scratch_room p c active
          (x + 28) 4 1 w k alive end (omega arith) in let f = end.is in let g = e in omega (arith, last, f, g)

      none : Cleared m 0 k.scratch k0.scratch
      none = record { wide = refl; zeros = λ j b. absurd (omega (arith, b)) }

  -- ---- the set of a variable

  pub loaded_so : (d x t v : ℕ) (site : Site) (s : Spot) (w : World) (k : Work) (pc pc' : ℕ) → d ≤ t → t < v
      → Alive p c w k → SiteAt p c w.made k.temporaries site s (Whole SetShape)
      → Stands (code_in p) c.routine pc (i.Offset t site.base site.offset 32 ∷ words_code base.Scratch x
      (base.Temporary t) 0 v 8) pc' → SetLeft d x w k pc pc' (set_of (contents_in w s))
  unfolding words_code
  loaded_so d x t v site s w k pc pc' l above alive at st =
      let from = at.offset + site.offset in
      let ends = place_end p.program c.ghosts active.small w k.count alive.holds s at.block from
      (Whole SetShape) at.place in
      let value = set_of (contents_in w s) in
      let one = Address at.block from in
      let a = word_passage p c active d x w k pc t one l alive
      (offset_step (machine_of p) (state p c w k pc) t site.base site.offset 32 at.block at.offset st.0
      (base_is c pc k.temporaries site.base ∙ at.base) (lt-ltb from BLOCK_LIMIT (omega (arith, ends)))) in
      let k1 = with_temporary k t one in
      let there = scratch_store p c active (suc (suc pc)) x v st.1.1.0 in
      let m = there.place in
      let is = there.is in
      let last = scratch_store p c active (suc
      (suc (suc (suc (suc (suc (suc (suc (suc (suc (suc (suc (suc (suc (suc (suc pc))))))))))))))))
      (x + 4 + 4 + 4 + 4 + 4 + 4 + 4) v st.1.1.1.1.1.1.1.1.1.1.1.1.1.1.1.1.0 in
      let end = scratch_room p c active (x + 4 + 4 + 4 + 4 + 4 + 4 + 4) 4 1 w k alive last (omega arith) in
      let last_is = last.is in
      let room : m + 8 ≤ length k.scratch = omega (arith, end, is, last_is) in
      let words = set_words value in
      let before = k.scratch in
      let after = spliced m words before in
      let long = spliced_length m words before in
      let same : SameOutside before after m (m + 8) = λ j side. sym (outside m before words j refl side) in
      let sources : Sources p (λ ws. memory_with p c active w ws) after m 8 at.block from = λ j b before' kept. record {
        word = Numeral (set_number value j);
        target = spliced_inside m words before j b room ∙ set_word value j b;
        reads = spot_read p.program w c.ghosts k.count alive.holds (text_at (code_in p)) (record {
          number = c.number;
          words = before';
        } ∷ c.waiting) s at.block from SetShape j at.place b ∙ ap known (set_word value j b);
      } in
      let up = copied_up p block (λ ws. memory_with p c active w ws)
      (scratch_held p c active w) at.block after 8 m x from before is (sym long)
      (omega (arith, room, long)) same sources in
      let ne : t ≡ v → ⊥ = λ q. omega (arith, above, q) in
      let z : x ≡ 0 + x = omega arith in
      let y : from ≡ from + 0 = omega arith in
      let up' = subst (λ n. CopiedUp p (memory_with p c active w before) block (0 + x) at.block n 8
      (memory_with p c active w after)) y (subst
      (λ n. CopiedUp p (memory_with p c active w before) block n at.block from 8 (memory_with p c active w after)) z
      up) in
      let r = in_line p c 8 base.Scratch (base.Temporary t) x 0 v block 0 at.block from w k.count k1.temporaries
      (suc pc) pc' (memory_with p c active w before) (memory_with p c active w after) tt ne refl
      (put_same k.temporaries t one) up' st.1 in
      let k2 : Work = record { count = k.count; temporaries = r.temporaries; scratch = after } in
      record {
        work = k2;
        passage = further p c active a (record {
          comes = r.comes;
          alive = record { holds = alive.holds; stands = alive.stands; room = long ∙ alive.room };
          keeps = record {
            temporaries = λ j b. r.others j (λ q. omega (arith, l, above, b, q));
            scratch = λ j low. spliced_before m words before j (omega (arith, low, is));
            grown = ([], sym (append-nil w.made));
          };
        });
        set = (m, is, λ j b. spliced_inside m words before j b room ∙ set_word value j b);
      }
    where
      outside : (m : ℕ) (before words : Words) (j : ℕ) → length words ≡ 8 → (j < m) ⊎ (m + 8 ≤ j) → slice_get
          (spliced m words before) j ≡ slice_get before j
      outside m before words j wide (inl low) = spliced_before m words before j low
      outside m before words j wide (inr high) = spliced_behind m words before j (omega (arith, wide, high))
