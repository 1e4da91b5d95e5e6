-- A set that is tested for a member, in place: a variable's where it is, any other in the scratch block.
use Rattle.std.proofs.Common.{◌≡◌, ℕ, suc, ◌+◌, ◌-◌, ◌*◌, ◌/◌, ◌%◌, ◌^◌, ◌<◌, ◌≤◌, ℤ, pos, negsuc, ◌-ℤ◌, Bool, true}
use Rattle.std.proofs.Common.{false, not, ◌&&◌, nat_eq, nat_lt, if◌then◌else◌, [], ◌∷◌, ◌++◌, Some, refl, sym, ap, ◌∙◌}
use Rattle.std.proofs.Common.{subst, arith, lt-ltb, ltb-true, ltb-false}
use Rattle.std.proofs.lemmas.Grind.{and_numeral}
use Rattle.std.proofs.lemmas.Int.{ints}
use Rattle.std.proofs.lemmas.Bool.{le-ltb, ne_eqb}
use Rattle.behavior.specs.Endings.{Stuck}
use Rattle.ps_tree.specs.Tree.{Place, Expr, In, SetExpr, LoadSet, Constructor, Combine, SetSteps, Members}
use Rattle.tac_code.specs.declared.code.Base.TheVariants as base
use Rattle.tac_code.specs.declared.code.Block.TheVariants.{Scratch as ScratchBlock}
use Rattle.tac_code.specs.declared.code.Value.TheVariants.{Number as Numeral, Address}
use Rattle.tac_code.specs.declared.code.Operand.TheVariants as operand
use Rattle.tac_code.specs.declared.code.Operator.TheVariants.{Divide}
use Rattle.tac_code.specs.declared.code.BitOperator.TheVariants.{And, ShiftLeft}
use Rattle.tac_code.specs.declared.code.Relation.TheVariants.{NotEqual}
use Rattle.tac_code.specs.declared.code.Instruction.TheVariants as i
use Rattle.tac_code.specs.Numbers.{natural, within, word_of, number_of as number_in, bits, truth as truth_word}
use Rattle.tac_code.specs.Numbers.{same_number, is_in_range, steps_above, Gives as Given, Fails}
use Rattle.tac_code.specs.Memory.{load, known}
use Rattle.tac_code.specs.Meaning.{Over, related, text_at, goes_to, gives, gives_address, gives_component}
use Rattle.tac_code.specs.Meaning.{gives_computed}
use Rattle.tac_code.specs.declared.code.TheConstants.{BLOCK_LIMIT, NUMBER_LIMIT}
use Rattle.ps_meaning.specs.Values.{OrdinalValue, number_of, set_of}
use Rattle.ps_meaning.specs.Operators.{truth, is_member}
use Rattle.ps_meaning.specs.Worlds.{World, Gives, and_then, contents_in}
use Rattle.ps_meaning.specs.Expressions.{Caller, access, value, set_value}
use Rattle.tac_code_steps.specs.Runs.{Stands, step_of}
use Rattle.tac_code_steps.proofs.Runs.{split, stay, a_step}
use Rattle.tac_code_steps.proofs.Temporaries.{put_same, put_other}
use Rattle.tac_code_steps.proofs.Instructions.{arithmetic_step, bits_step, compare_step, offset_step, index_step}
use Rattle.tac_code_steps.proofs.Instructions.{load_step, jump_step, branch_step}
use Rattle.ps_lower_layout.specs.Shapes.{SetShape, Whole}
use Rattle.ps_lower_layout.specs.Paths.{NumberSort, HasSort}
use Rattle.tac_code.proofs.Impossible.{never}
use Rattle.tac_code.proofs.Numbers.{eq_same}
use Rattle.ps_lower_code.specs.Scopes.{even_from, kept, beside}
use Rattle.ps_lower_code.specs.Calling.{asked_calls}
use Rattle.ps_lower_code.specs.Values.{place_temporary, place_site, place_code, membership_code, asked_code, set_code}
use Rattle.ps_lower_code.specs.Statements.{expr_code}
use Rattle.ps_lower_code.specs.Fits.{SetFits}
use Rattle.ps_lower_code.proofs.Depths.{even_above, kept_above}
use Rattle.ps_lower_relation.specs.Here.{Setting, machine_of, code_in, Work, Activated, IsActive, Alive, state}
use Rattle.ps_lower_relation.specs.Here.{word_of as word_in, WordIn}
use Rattle.ps_lower_relation.specs.Outcomes.{Reached, Runs}
use Rattle.ps_lower_relation.specs.RunTime.{WritesDo}
use Rattle.ps_lower_relation.specs.Sets.{set_number}
use Rattle.ps_lower_relation.proofs.Numbers.{truths, truth_integer}
use Rattle.ps_lower_relation.proofs.Places.{place_end}
use Rattle.ps_lower_relation.proofs.SetWords.{set_word, member_found}
use Rattle.ps_lower_relation.proofs.Sets.{set_at}
use Rattle.ps_lower_relation.proofs.Spots.{spot_read}
use Rattle.ps_lower_constructs.specs.Openings.{plain_scope, Opening, scope_in, context_in, IsOpened}
use Rattle.ps_lower_constructs.proofs.Runs.{with_temporary, outcome_from, reached_from, runs_bind, keeps_refl}
use Rattle.ps_lower_constructs.proofs.Runs.{keeps_less}
use Rattle.ps_lower_constructs.proofs.Kept.{opened_kept}
use Rattle.ps_lower_constructs.proofs.Places.{base_is}
use Rattle.ps_lower_constructs.proofs.Values.{FrontIn, FrontRuns, expr_runs_from, plain_front}
use Rattle.ps_lower_constructs.proofs.Selectors.{PlaceIn, PlaceRuns}
use Rattle.ps_lower_constructs.proofs.Scratch.{scratch_offset}
use Rattle.ps_lower_constructs.proofs.Passages.{Passage, further, arrives, to_end, word_passage, literal_passage}
use Rattle.ps_lower_constructs.proofs.Passages.{scratch_passage, memory_with, scratch_held}
use Rattle.ps_lower_constructs.proofs.ScratchSets.{SetIn, AskedIn}
use Rattle.ps_lower_constructs.proofs.SetValues.{SetRuns, AskedRuns}

-- ---- numbers

low_byte : (x : ℤ) → bits And x (pos 255) ≡ pos (word_of x % 256)
low_byte x = ap number_in (and_numeral (word_of x) 254 refl) ∙ small (word_of x % 256) (omega arith)
  where
    small : (n : ℕ) → n < NUMBER_LIMIT → number_in n ≡ pos n
    small n l = ap (λ b. if b then pos n else negsuc (2 ^ 32 - suc n)) (lt-ltb n NUMBER_LIMIT l)

quotient : (n : ℕ) → n < NUMBER_LIMIT → within 0 (pos n) ≡ Given (pos n)
quotient n l = ap (λ b. if b then Given (pos n) else Fails 0) (lt-ltb n NUMBER_LIMIT l)

in_set : (q : ℕ) → q < 8 → is_in_range (pos 0) (pos 7) (pos q) ≡ true
in_set q l = ap (λ b. not b && not (nat_lt 7 q)) (le-ltb q 0 (omega arith)) ∙ ap (λ b. not b)
    (le-ltb 7 q (omega (arith, l)))

above_zero : (q : ℕ) → steps_above (pos 0) (pos q) ≡ q
above_zero q = let e : pos q -ℤ pos 0 ≡ pos q = omega (arith, ints) in ap natural e

-- the lowest byte of a number that lies elsewhere is another number
other_above : (n : ℕ) → 256 ≤ n → same_number (pos (word_of (pos n) % 256)) (pos n) ≡ false
other_above n l = ne_eqb (word_of (pos n) % 256) n (λ e. omega (arith, l, e))

same_inside : (n : ℕ) → n < 256 → same_number (pos (word_of (pos n) % 256)) (pos n) ≡ true
same_inside n l = let e : word_of (pos n) % 256 ≡ n = omega (arith, l) in ap (λ k. nat_eq k n) e ∙ eq_same n

module _ (p : Setting) (c : Activated) (active : IsActive p c) where
  -- to another place
  goes_passage : (d x : ℕ) (w : World) (k : Work) (pc pc' : ℕ) → Alive p c w k → step_of (machine_of p)
      (state p c w k pc) ≡ goes_to pc' (state p c w k pc) → Passage p c active d x w k pc k pc'
  goes_passage d x w k pc pc' alive h = record {
    comes = a_step (state p c w k pc) (state p c w k pc') h;
    alive = alive;
    keeps = keeps_refl d x w k;
  }

  -- ---- whether a number is a member

  -- the truth of it in t
  pub record Answered (d x t : ℕ) (w : World) (k : Work) (pc pc' : ℕ) (b : Bool) : Type 0 where
    pub work : Work
    pub passage : Passage p c active d x w k pc work pc'
    pub word : work.temporaries t ≡ Some (Numeral (truth_word b))

  module _ (d x m u t : ℕ) (w : World) (k : Work) (pc pc' : ℕ) (above : m < u) (lu : d ≤ u) (lt : d ≤ t)
      (alive : Alive p c w k) (st : Stands (code_in p) c.routine pc (membership_code m u t) pc') where
    abbrev v : ℕ
    v = beside u

    m_v : m ≡ v → ⊥
    m_v e = omega (arith, above, e)

    m_u : m ≡ u → ⊥
    m_u e = omega (arith, above, e)

    u_v : u ≡ v → ⊥
    u_v e = omega (arith, e)

    -- its lowest byte
    abbrev low : ℤ → Work
    low z = with_temporary k v (Numeral (bits And z (pos 255)))

    low_passage : (z : ℤ) → k.temporaries m ≡ Some (Numeral z) → Passage p c active d x w k pc (low z) (suc pc)
    low_passage z at = word_passage p c active d x w k pc v (Numeral (bits And z (pos 255))) (omega (arith, lu)) alive
        (bits_step (machine_of p) (state p c w k pc) And v m (operand.Number (pos 255)) z (pos 255) st.0 at refl)

    low_same : (z : ℤ) (b : Bool) → k.temporaries m ≡ Some (Numeral z) → same_number (pos (word_of z % 256)) z ≡ b
        → related NotEqual ((low z).temporaries v) ((low z).temporaries m) ≡ Some (not b)
    low_same z b at e =
        ap (λ y. related NotEqual y ((low z).temporaries m)) (put_same k.temporaries v (Numeral (bits And z (pos 255))))
        ∙ ap (λ y. related NotEqual (Some (Numeral (bits And z (pos 255)))) y)
        (put_other k.temporaries v (Numeral (bits And z (pos 255))) m m_v ∙ at)
        ∙ ap (λ y. Some (not (same_number y z))) (low_byte z) ∙ ap (λ y. Some (not y)) e

    outside_it : (z : ℤ) → k.temporaries m ≡ Some (Numeral z) → same_number (pos (word_of z % 256)) z ≡ false
        → Answered d x t w k pc pc' false
    outside_it z at e =
        let k1 = low z in
        let a = low_passage z at in
        let far : suc (suc pc) + 8 ≡ suc (suc (suc (suc (suc (suc (suc (suc (suc (suc pc))))))))) = omega arith in
        let b = goes_passage d x w k1 (suc pc) (suc (suc pc) + 8) a.alive
        (branch_step (machine_of p) (state p c w k1 (suc pc)) NotEqual v (operand.Temporary m) 8 true st.1.0
        (low_same z false at e)) in
        let last = st.1.1.1.1.1.1.1.1.1.1 in
        let g = literal_passage p c active d x w k1 (suc (suc (suc (suc (suc (suc (suc (suc (suc (suc pc)))))))))) t
        (pos 0) lt a.alive last.0 in
        record {
          work = with_temporary k1 t (Numeral (pos 0));
          passage = to_end p c active (further p c active a (further p c active (to_end p c active b far) g)) last.1;
          word = put_same k1.temporaries t (Numeral (pos 0));
        }

    inside_it : (n y : ℕ) (s : ℕ → Bool) → n < 256 → k.temporaries m ≡ Some (Numeral (pos n))
        → AskedIn p c active u y s w k → Answered d x t w k pc pc' (s n)
    inside_it n y s little at set =
        let q : ℕ = n / 32 in
        let offset = set.offset in
        let block = set.block in
        let small = set.small in
        let number = set_number s q in
        let bit = bits ShiftLeft (pos 1) (pos n) in
        let both = bits And number bit in
        let holds = not (same_number both (pos 0)) in
        let there = Address block (offset + q * 4) in
        let k1 = low (pos n) in
        let k2 = with_temporary k1 v (Numeral (pos q)) in
        let k3 = with_temporary k2 u there in
        let k4 = with_temporary k3 u (Numeral number) in
        let k5 = with_temporary k4 v (Numeral (pos 1)) in
        let k6 = with_temporary k5 v (Numeral bit) in
        let k7 = with_temporary k6 t (Numeral both) in
        let k8 = with_temporary k7 t (Numeral (truth_word holds)) in
        let p1 = suc pc in
        let p2 = suc p1 in
        let p3 = suc p2 in
        let p4 = suc p3 in
        let p5 = suc p4 in
        let p6 = suc p5 in
        let p7 = suc p6 in
        let p8 = suc p7 in
        let p9 = suc p8 in
        let m1 : k1.temporaries m ≡ Some (Numeral (pos n)) = put_other k.temporaries v
        (Numeral (bits And (pos n) (pos 255))) m m_v ∙ at in
        let m5 : k5.temporaries m ≡ Some (Numeral (pos n)) = put_other k4.temporaries v (Numeral (pos 1)) m m_v
        ∙ put_other k3.temporaries u (Numeral number) m m_u ∙ put_other k2.temporaries u there m m_u
        ∙ put_other k1.temporaries v (Numeral (pos q)) m m_v ∙ m1 in
        let u2 : k2.temporaries u ≡ Some (Address block offset) = put_other k1.temporaries v (Numeral (pos q)) u u_v
        ∙ put_other k.temporaries v (Numeral (bits And (pos n) (pos 255))) u u_v ∙ set.word in
        let u6 : k6.temporaries u ≡ Some (Numeral number) = put_other k5.temporaries v (Numeral bit) u u_v
        ∙ put_other k4.temporaries v (Numeral (pos 1)) u u_v ∙ put_same k3.temporaries u (Numeral number) in
        let place : offset + q * 4 + 0 ≡ offset + 4 * q = omega arith in
        let a = low_passage (pos n) at in
        let b = word_passage_on p1 k1 a.alive (branch_step (machine_of p) (state p c w k1 p1) NotEqual v
        (operand.Temporary m) 8 false st.1.0 (low_same (pos n) true at (same_inside n little))) in
        let e2 = word_passage p c active d x w k1 p2 v (Numeral (pos q)) (omega (arith, lu)) b.alive
        (arithmetic_step (machine_of p) (state p c w k1 p2) Divide v m (operand.Number (pos 32)) 0 1 (pos n)
        (pos 32) st.1.1.0 m1 refl ∙ ap (λ g. gives_computed (code_in p) v g 1 (state p c w k1 p2))
        (quotient q (omega (arith, little)))) in
        let e3 = word_passage p c active d x w k2 p3 u there lu e2.alive
        (index_step (machine_of p) (state p c w k2 p3) u (base.Temporary u) v (pos 0) (pos 7) 4 0 1 block offset
        (pos q) st.1.1.1.0 u2 (put_same k1.temporaries v (Numeral (pos q)))
        ∙ ap (λ y. gives_component (code_in p) y u block (offset + steps_above (pos 0) (pos q) * 4) 0 1
        (state p c w k2 p3)) (in_set q (omega (arith, little)))
        ∙ ap (λ y. gives_address u block (offset + y * 4) (state p c w k2 p3)) (above_zero q)
        ∙ ap (λ y. if y then gives u (Address block (offset + q * 4)) (state p c w k2 p3) else Over Stuck)
        (lt-ltb (offset + q * 4) BLOCK_LIMIT (omega (arith, little, small)))) in
        let e4 = word_passage p c active d x w k3 p4 u (Numeral number) lu e3.alive
        (load_step (machine_of p) (state p c w k3 p4) u (base.Temporary u) 0 block (offset + q * 4)
        (Numeral number) st.1.1.1.1.0 (put_same k2.temporaries u there)
        (ap (load (text_at (code_in p)) (state p c w k3 p4).memory block) place ∙ set.at k.scratch (λ j h. refl) q
        (omega (arith, little)))) in
        let e5 = literal_passage p c active d x w k4 p5 v (pos 1) (omega (arith, lu)) e4.alive st.1.1.1.1.1.0 in
        let e6 = word_passage p c active d x w k5 p6 v (Numeral bit) (omega (arith, lu)) e5.alive
        (bits_step (machine_of p) (state p c w k5 p6) ShiftLeft v v (operand.Temporary m) (pos 1)
        (pos n) st.1.1.1.1.1.1.0 (put_same k4.temporaries v (Numeral (pos 1))) m5) in
        let e7 = word_passage p c active d x w k6 p7 t (Numeral both) lt e6.alive
        (bits_step (machine_of p) (state p c w k6 p7) And t u (operand.Temporary v) number bit st.1.1.1.1.1.1.1.0 u6
        (put_same k5.temporaries v (Numeral bit))) in
        let e8 = word_passage p c active d x w k7 p8 t (Numeral (truth_word holds)) lt e7.alive
        (compare_step (machine_of p) (state p c w k7 p8) NotEqual t t
        (operand.Number (pos 0)) holds st.1.1.1.1.1.1.1.1.0
        (ap (λ y. related NotEqual y (Some (Numeral (pos 0)))) (put_same k6.temporaries t (Numeral both)))) in
        let far : suc p9 + 1 ≡ suc (suc p9) = omega arith in
        let e9 = goes_passage d x w k8 p9 (suc p9 + 1) e8.alive
        (jump_step (machine_of p) (state p c w k8 p9) 1 st.1.1.1.1.1.1.1.1.1.0) in
        record {
          work = k8;
          passage = to_end p c active (further p c active a
              (further p c active b (further p c active e2
              (further p c active e3 (further p c active e4
              (further p c active e5 (further p c active e6 (further p c active e7 (further p c active e8 e9)))))))))
              (far ∙ st.1.1.1.1.1.1.1.1.1.1.1);
          word = put_same k7.temporaries t (Numeral (truth_word holds)) ∙ ap (λ y. Some (Numeral (truth_word y)))
              (member_found s n little);
        }
      where
        word_passage_on : (pc1 : ℕ) (k1 : Work) → Alive p c w k1 → step_of (machine_of p) (state p c w k1 pc1) ≡ goes_to
            (suc pc1) (state p c w k1 pc1) → Passage p c active d x w k1 pc1 k1 (suc pc1)
        word_passage_on pc1 k1 alive1 h = goes_passage d x w k1 pc1 (suc pc1) alive1 h

    pub answered : (z : ℤ) (y : ℕ) (s : ℕ → Bool) → k.temporaries m ≡ Some (Numeral z) → AskedIn p c active u y s w k
        → Answered d x t w k pc pc' (is_member z s)
    answered (negsuc n) y s at set = outside_it (negsuc n) at refl
    answered (pos n) y s at set = go (nat_lt n 256) refl
      where
        go : (b : Bool) → nat_lt n 256 ≡ b → Answered d x t w k pc pc' (b && s n)
        go true e = inside_it n y s (ltb-true n 256 e) at set
        go false e = outside_it (pos n) at (other_above n (let l = ltb-false n 256 e in omega (arith, l)))

module _ (p : Setting) (n : ℕ) (call : Caller) (c : Activated) (active : IsActive p c) (does : WritesDo p) where
  -- ---- the set's address

  pub asked_load : (q : Place) → PlaceRuns p n call c active q → AskedRuns p n call c active does (LoadSet q)
  asked_load q place t x o w k pc pc' alive opened fits st =
      let code = scope_in p c o in
      let ctx = context_in c o in
      let site = place_site code q t in
      let cut = split (code_in p) c.routine pc (place_code code q t x) (i.Offset t site.base site.offset 32 ∷ []) pc' st
      in
      runs_bind p (suc n) c t x t x t x w k pc cut.0 pc' (access call q ctx w)
      (λ s w1. Gives (set_of (contents_in w1 s)) w1)
      (λ s w' k'. PlaceIn p n call c active site (place_temporary q t) s (Whole SetShape) w' k')
      (λ s w' k'. AskedIn p c active t x s w' k') (omega arith) (omega arith) (omega arith) (omega arith)
      (place t x o w k pc cut.0 (Whole SetShape) alive opened fits cut.1)
      (λ s w1 k1 alive1 kept1 r.
      let at = r.0 in
      let far = at.offset + site.offset in
      let ends = place_end p.program c.ghosts active.small w1 k1.count alive1.holds s at.block far
      (Whole SetShape) at.place in
      let address = Address at.block far in
      let value = set_of (contents_in w1 s) in
      let one = word_passage p c active t x w1 k1 cut.0 t address (omega arith) alive1
      (offset_step (machine_of p) (state p c w1 k1 cut.0) t site.base site.offset 32 at.block at.offset cut.2.0
      (base_is c cut.0 k1.temporaries site.base ∙ at.base) (lt-ltb far BLOCK_LIMIT (omega (arith, ends)))) in
      arrives p c active (to_end p c active one cut.2.1) (λ w' k'. AskedIn p c active t x value w' k')
      (record {
        block = at.block;
        offset = far;
        word = put_same k1.temporaries t address;
        at = λ ws same j b. spot_read p.program w1 c.ghosts k1.count alive1.holds (text_at (code_in p)) (record {
          number = c.number;
          words = ws;
        } ∷ c.waiting) s at.block far SetShape j at.place b ∙ ap known (set_word value j b);
        small = ends;
      }))

  -- a set that was made in the scratch block
  asked_made : (e : SetExpr) → SetRuns p n call c active does e → (t x : ℕ) (o : Opening) (w : World) (k : Work)
      (pc pc' : ℕ) → Alive p c w k → IsOpened p c w k t o → SetFits (plain_scope p c) o.shapes e → Stands
      (code_in p) c.routine pc (set_code (scope_in p c o) e t x ++ i.Offset t base.Scratch x 32 ∷ []) pc'
      → Runs p (suc n) c t x w k pc pc' (set_value call e (context_in c o) w)
      (λ s w' k'. AskedIn p c active t x s w' k')
  asked_made e run t x o w k pc pc' alive opened fits st =
      let cut = split (code_in p) c.routine pc (set_code (scope_in p c o) e t x)
      (i.Offset t base.Scratch x 32 ∷ []) pc' st in
      let now = state p c w k pc in
      outcome_from (suc n) now now (set_value call e (context_in c o) w)
      (λ s w'. Reached p c t x w k now cut.0 (λ w2 k'. SetIn x s k') w')
      (λ s w'. Reached p c t x w k now pc' (λ w2 k'. AskedIn p c active t x s w2 k') w') (stay now)
      (run t x o w k pc cut.0 alive opened fits cut.1)
      (λ s w1 r.
      reached_from p (suc n) c t x t x w w1 k r.work now (state p c w1 r.work cut.0) pc'
      (λ w2 k'. AskedIn p c active t x s w2 k') (λ w2 k'. AskedIn p c active t x s w2 k') w1 (omega arith)
      (omega arith) r.comes r.keeps
      (let one = scratch_passage p c active t x w1 r.work cut.0 t x 32 (omega arith) r.alive cut.2.0 in
      arrives p c active (to_end p c active one cut.2.1) (λ w2 k'. AskedIn p c active t x s w2 k')
      (record {
        block = ScratchBlock c.number;
        offset = x;
        word = put_same r.work.temporaries t (Address (ScratchBlock c.number) x);
        at = λ ws same. set_at p (ScratchBlock c.number) (λ ws. memory_with p c active w1 ws)
            (scratch_held p c active w1) r.result.0 x s ws r.result.1
            (λ q b. let e = r.result.1 in same (r.result.0 + q) (omega (arith, e)) ∙ r.result.2 q b);
        small = (scratch_offset p c active cut.0 t x 32 cut.2.0).small;
      }))
      (λ k' a y. y))

  pub asked_constructor : (members : Members) → SetRuns p n call c active does (Constructor members)
      → AskedRuns p n call c active does (Constructor members)
  asked_constructor members run = asked_made (Constructor members) run

  pub asked_combined : (e : SetExpr) (steps : SetSteps) → SetRuns p n call c active does (Combine e steps)
      → AskedRuns p n call c active does (Combine e steps)
  asked_combined e steps run = asked_made (Combine e steps) run

  -- ---- the question

  pub in_front : (a : Expr) (b : SetExpr) → FrontRuns p n call c active a → AskedRuns p n call c active does b
      → FrontRuns p n call c active (In a b)
  in_front a b fa rb d x o w k pc pc' sort alive opened fits st =
      let code = scope_in p c o in
      let ctx = context_in c o in
      let m = kept (asked_calls b) d in
      let l : d ≤ m = kept_above (asked_calls b) d in
      let u = even_from (suc m) in
      let lu : suc m ≤ u = even_above (suc m) in
      let cut2 = split (code_in p) c.routine pc (expr_code code a m x ++ asked_code code b u x)
      (membership_code m u d) pc' st in
      let cut = split (code_in p) c.routine pc (expr_code code a m x) (asked_code code b u x) cut2.0 cut2.1 in
      runs_bind p (suc n) c d x m x d x w k pc cut.0 pc' (value call a ctx w)
      (λ v w1. and_then (set_value call b ctx w1)
      (λ s w2. Gives (OrdinalValue (truth (is_member (number_of v) s))) w2))
      (λ v w' k'. WordIn k'.temporaries w'.made m NumberSort v)
      (λ v w' k'. FrontIn (In a b) d sort v w'.made k'.temporaries) l (omega arith) (omega arith) (omega arith)
      (expr_runs_from p n call c active a fa m x o w k pc cut.0 NumberSort alive
      (opened_kept p c d x m w w k k o l (keeps_refl d x w k) opened) fits.1 cut.1)
      (λ v w1 k1 alive1 kept1 r1.
      runs_bind p (suc n) c d x u x d x w1 k1 cut.0 cut2.0 pc' (set_value call b ctx w1)
      (λ s w2. Gives (OrdinalValue (truth (is_member (number_of v) s))) w2)
      (λ s w' k'. AskedIn p c active u x s w' k') (λ v w' k'. FrontIn (In a b) d sort v w'.made k'.temporaries)
      (omega (arith, l, lu)) (omega arith) (omega arith) (omega arith)
      (rb u x o w1 k1 cut.0 cut2.0 alive1 (opened_kept p c d x u w w1 k k1 o (omega (arith, l, lu))
      (keeps_less d x m x l (omega arith) kept1) opened) fits.2 cut.2)
      (λ s w2 k2 alive2 kept2 r2.
      let q = is_member (number_of v) s in
      let end = answered p c active d x m u d w2 k2 cut2.0 pc' lu (omega (arith, l, lu)) (omega arith) alive2 cut2.2
      (number_of v) x s (kept2.temporaries m (omega (arith, lu)) ∙ r1.word) r2 in
      arrives p c active end.passage (λ w' k'. FrontIn (In a b) d sort (OrdinalValue (truth q)) w'.made k'.temporaries)
      (plain_front (In a b) d sort (OrdinalValue (truth q)) w2.made end.work.temporaries refl refl refl refl
      (end.word ∙ ap (λ z. Some (Numeral z)) (truths q) ∙ ap (λ y. Some (word_in y (OrdinalValue (truth q))))
      (sym fits.0)) (subst (HasSort w2.made (OrdinalValue (truth q))) (sym fits.0) (truth_integer q))
      (λ e. (q, refl)) (λ e. never e))))
