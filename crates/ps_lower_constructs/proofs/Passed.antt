-- Structured values that are passed: each is copied to the scratch block when its turn comes.
use Rattle.std.proofs.Common.{◌≡◌, ℕ, suc, ◌+◌, ◌*◌, ◌<◌, ◌≤◌, pos, List, [], ◌∷◌, ◌++◌, length, Some, if◌then◌else◌}
use Rattle.std.proofs.Common.{refl, sym, ap, ◌∙◌, subst, arith, append-nil, lt-ltb}
use Rattle.ps_tree.specs.Types.{DataType}
use Rattle.ps_tree.specs.Tree.{Structure, ByCopy}
use Rattle.tac_code.specs.declared.code.Block.{Block}
use Rattle.tac_code.specs.declared.code.Block.TheVariants.{Frame as FrameBlock, Scratch as ScratchBlock}
use Rattle.tac_code.specs.declared.code.Block.TheVariants.{Object as ObjectBlock, Constant as ConstantBlock}
use Rattle.tac_code.specs.declared.code.Base.TheVariants as base
use Rattle.tac_code.specs.declared.code.Value.TheVariants.{Number as Numeral, Address}
use Rattle.tac_code.specs.declared.code.Instruction.TheVariants as i
use Rattle.tac_code.specs.Memory.{Words, Living, Memory, living, words_in}
use Rattle.tac_code.specs.Meaning.{and_more, put, text_at}
use Rattle.tac_code.specs.declared.code.TheConstants.{BLOCK_LIMIT}
use Rattle.tac_code.proofs.Numbers.{eq_same}
use Rattle.ps_meaning.specs.Values.{Value, Root, Declared, Made}
use Rattle.ps_meaning.specs.Worlds.{World, Gives, and_then}
use Rattle.ps_meaning.specs.Expressions.{ValueActual, Caller, Held, HeldText, HeldSpot, contents_of, operand}
use Rattle.tac_code_steps.specs.Runs.{Stands, Comes}
use Rattle.tac_code_steps.specs.Splices.{spliced}
use Rattle.tac_code_steps.proofs.Runs.{split, a_step, ◌>>◌}
use Rattle.tac_code_steps.proofs.Splices.{spliced_length, spliced_inside, spliced_before}
use Rattle.tac_code_steps.proofs.Temporaries.{put_same, put_other}
use Rattle.tac_code_steps.proofs.Instructions.{offset_step}
use Rattle.ps_lower_layout.specs.Shapes.{Shape, NumberShape, PointerShape, SetShape, ByteShape, ArrayShape}
use Rattle.ps_lower_layout.specs.Shapes.{RecordShape, shape_of, word_count, byte_count, Whole}
use Rattle.ps_lower_layout.specs.Words.{value_words}
use Rattle.ps_lower_layout.specs.Frames.{Kind, Own}
use Rattle.ps_lower_layout.proofs.Counted.{counted}
use Rattle.ps_lower_code.specs.Scopes.{beside}
use Rattle.ps_lower_code.specs.Values.{structure_code}
use Rattle.ps_lower_code.specs.Fits.{IsStructure}
use Rattle.ps_lower_relation.specs.Ghosts.{RootAt}
use Rattle.ps_lower_relation.specs.Here.{Setting, machine_of, code_in, Work, Activated, IsActive, Alive, state}
use Rattle.ps_lower_relation.specs.Outcomes.{Reached, Runs}
use Rattle.ps_lower_relation.specs.RunTime.{CopiedUp, WritesDo}
use Rattle.ps_lower_relation.proofs.Places.{place_end}
use Rattle.ps_lower_relation.proofs.Spots.{memory_of}
use Rattle.ps_lower_relation.proofs.Blocks.{with_living, with_block}
use Rattle.ps_lower_relation.proofs.Stretches.{value_written}
use Rattle.ps_lower_relation.proofs.Copied.{copied_other}
use Rattle.ps_lower_calls.specs.Passing.{PassValue, CopiedIn, IsPassed}
use Rattle.ps_lower_constructs.specs.Openings.{scope_in, context_in}
use Rattle.ps_lower_constructs.proofs.Runs.{with_temporary, runs_bind}
use Rattle.ps_lower_constructs.proofs.Scratch.{scratch_offset, scratch_room}
use Rattle.ps_lower_constructs.proofs.Writes.{numbered_more}
use Rattle.ps_lower_constructs.proofs.Structures.{held_value, contents_are, HeldAt, StructureIn, held_shape}
use Rattle.ps_lower_constructs.proofs.Structures.{held_reads, StructureRuns}
use Rattle.ps_lower_constructs.proofs.Copying.{copies_so}
use Rattle.ps_lower_constructs.proofs.Arguments.{ArgumentIn, ArgumentRuns}

-- a value of many words is passed as the address of its copy
copied_passed : (caller : ℕ) (scratch : Words) (last : ℕ) (shape : Shape) (v : Value) (place : ℕ) → IsStructure shape
    → CopiedIn caller scratch last shape v (Address (ScratchBlock caller) (4 * place)) → IsPassed caller scratch last
    (PassValue shape v (Address (ScratchBlock caller) (4 * place)))
copied_passed caller scratch last (NumberShape first narrow) v place is h = absurd is
copied_passed caller scratch last (PointerShape pointer) v place is h = absurd is
copied_passed caller scratch last SetShape v place is h = h
copied_passed caller scratch last (ByteShape count first) v place is h = h
copied_passed caller scratch last (ArrayShape count shape) v place is h = h
copied_passed caller scratch last (RecordShape shapes) v place is h = h

module _ (p : Setting) (c : Activated) where
  -- an operand is not in a scratch block
  root_not_scratch : (made : List ℕ) (shape : Shape) (root : Root) (path : List ℕ) (b : Block) (o a : ℕ)
      → RootAt p.program c.ghosts made root path b o (Whole shape) → b ≡ ScratchBlock a → ⊥
  root_not_scratch made shape (Declared name) path b o a at e = let q : FrameBlock at.ghost.number
      ≡ ScratchBlock a = sym at.block ∙ e in absurd (cc)
  root_not_scratch made shape (Made object) path b o a at e = let q : ObjectBlock object ≡ ScratchBlock a = sym at.block
      ∙ e in absurd (cc)

  held_not_scratch : (made : List ℕ) (shape : Shape) (h : Held) (b : Block) (o a : ℕ) → HeldAt p c made shape h b o → b
      ≡ ScratchBlock a → ⊥
  held_not_scratch made shape (HeldText text) b o a at e = let q : ConstantBlock c.routine at.0
      ≡ ScratchBlock a = sym at.1.1 ∙ e in absurd (cc)
  held_not_scratch made shape (HeldSpot s) b o a at e = root_not_scratch made shape s.root s.path b o a at e

  module _ (active : IsActive p c) (does : WritesDo p) where
    -- the words of an operand go to the scratch block from a place on
    to_scratch : (w : World) (k : Work) (shape : Shape) (h : Held) (b : Block) (o place : ℕ) → Alive p c w k
        → HeldAt p c w.made shape h b o → place + word_count shape ≤ length k.scratch
        → CopiedUp p (memory_of p.program w c.ghosts (record {
          number = c.number;
          words = k.scratch;
        } ∷ c.waiting)) (ScratchBlock c.number) (4 * place) b o (word_count shape)
        (memory_of p.program w c.ghosts (record {
          number = c.number;
          words = spliced place (value_words shape (held_value h w)) k.scratch;
        } ∷ c.waiting))
    to_scratch w k shape h b o place alive at room =
        subst (λ after. CopiedUp p memory (ScratchBlock c.number) (4 * place) b o (word_count shape) after) replaced
        (copied_other p memory (ScratchBlock c.number) k.scratch tt here b news place (word_count shape) o
        (λ e. held_not_scratch w.made shape h b o c.number at e) (value_written shape (held_value h w))
        (counted shape (held_value h w)) room
        (λ j l. held_reads p c w k.count alive.holds (own k.scratch ∷ c.waiting) shape h b o at j l))
      where
        own : Words → Living
        own ws = record { number = c.number; words = ws }

        memory : Memory
        memory = memory_of p.program w c.ghosts (own k.scratch ∷ c.waiting)

        news : Words
        news = value_words shape (held_value h w)

        here : words_in (text_at (code_in p)) memory (ScratchBlock c.number) ≡ Some k.scratch
        here = ap (λ y. if y then Some k.scratch else living c.waiting c.number) (eq_same c.number)

        replaced : with_block memory (ScratchBlock c.number) (spliced place news k.scratch)
            ≡ memory_of p.program w c.ghosts (own (spliced place news k.scratch) ∷ c.waiting)
        replaced = ap (λ y. record memory {
          scratch = if y then own (spliced place news k.scratch) ∷ c.waiting
              else own k.scratch ∷ with_living c.waiting c.number (spliced place news k.scratch);
        }) (eq_same c.number)

    -- the copy, and the address of its stretch
    passed_so : (t x : ℕ) (w : World) (k : Work) (pc mid pc' : ℕ) (e : Structure) (type : DataType) (h : Held)
        (kind : Kind) → Alive p c w k → StructureIn p c t (shape_of type) h w k → kind ≡ Own (shape_of type)
        → IsStructure (shape_of type)
        → Stands (code_in p) c.routine pc (i.Offset (beside t) base.Scratch x (byte_count (shape_of type)) ∷ i.Literal
        (beside (beside t)) (pos (byte_count (shape_of type))) ∷ i.Call (beside (beside t))
        (length p.program.routines + 0) (beside t ∷ t ∷ beside (beside t) ∷ []) 1 ∷ []) mid → Stands
        (code_in p) c.routine mid (i.Offset t base.Scratch x (byte_count (shape_of type)) ∷ []) pc'
        → Reached p c t x w k (state p c w k pc) pc'
        (λ w' k'. ArgumentIn p c (ByCopy e type) kind t (x + byte_count (shape_of type))
        (ValueActual (held_value h w)) w' k') w
    passed_so t x w k pc mid pc' e type h kind alive r same large st last =
        let shape = shape_of type in
        let n = word_count shape in
        let v = held_value h w in
        let at = scratch_offset p c active pc (beside t) x (byte_count shape) st.0 in
        let place = at.place in
        let is = at.is in
        let small = at.small in
        let room = scratch_room p c active x (byte_count shape) n w k alive at refl in
        let news = value_words shape v in
        let long = counted shape v in
        let ws = spliced place news k.scratch in
        let wide = spliced_length place news k.scratch in
        let word = Address (ScratchBlock c.number) (0 + x) in
        let k1 = with_temporary k (beside t) word in
        let alive1 : Alive p c w k1 = record { holds = alive.holds; stands = alive.stands; room = alive.room } in
        let u = beside (beside t) in
        let k2 : Work = record {
          count = suc k.count;
          temporaries = put (put k1.temporaries u (Numeral (pos (4 * n)))) u (Numeral (pos 0));
          scratch = ws;
        } in
        let k3 = with_temporary k2 t word in
        let s0 = state p c w k pc in
        let s1 = state p c w k1 (suc pc) in
        let s2 = state p c w k2 mid in
        let s3 = state p c w k3 (suc mid) in
        let below : 0 + x < BLOCK_LIMIT = omega (arith, small) in
        let n1 : t ≡ beside t → ⊥ = λ q. omega (arith, q) in
        let z : 0 + x ≡ 4 * place = omega (arith, is) in
        let copied = subst (λ y. CopiedUp p s1.memory (ScratchBlock c.number) y r.block r.offset n s2.memory) (sym z)
        (to_scratch w k1 shape h r.block r.offset place alive1 r.at room) in
        let copy = copies_so p c active does w k1 (suc pc) mid (beside t) t u n (ScratchBlock c.number)
        (0 + x) r.block r.offset s2.memory (omega arith) (omega arith) alive1
        (put_same k.temporaries (beside t) word) (put_other k.temporaries (beside t) word t n1 ∙ r.word) copied
        (omega (arith, small)) (held_end w k shape h r.block r.offset alive (omega (arith, small)) r.at) st.1 in
        let end_ : (x + byte_count shape) ≡ 4 * (place + n) = omega (arith, is) in
        record {
          work = k3;
          alive = record {
            holds = record {
              fits = alive.holds.fits;
              objects = alive.holds.objects;
              names = alive.holds.names;
              numbered = numbered_more c.ghosts k.count (suc k.count) (omega arith) alive.holds.numbered;
              input = alive.holds.input;
            };
            stands = alive.stands;
            room = wide ∙ alive.room;
          };
          keeps = record {
            temporaries = λ j l.
                let m1 : j ≡ t → ⊥ = λ q. omega (arith, l, q) in
                let m2 : j ≡ beside t → ⊥ = λ q. omega (arith, l, q) in
                let m3 : j ≡ u → ⊥ = λ q. omega (arith, l, q) in
                put_other k2.temporaries t word j m1 ∙ put_other (put k1.temporaries u (Numeral (pos (4 * n)))) u
                (Numeral (pos 0)) j m3 ∙ put_other k1.temporaries u (Numeral (pos (4 * n))) j m3
                ∙ put_other k.temporaries (beside t) word j m2;
            scratch = λ j l. spliced_before place news k.scratch j (omega (arith, l, is));
            grown = ([], sym (append-nil w.made));
          };
          comes = a_step s0 s1 (offset_step (machine_of p) s0 (beside t) base.Scratch x (byte_count shape)
              (ScratchBlock c.number) 0 st.0 refl (lt-ltb (0 + x) BLOCK_LIMIT below))
              >> copy
              >> subst (λ q. Comes (machine_of p) s2 (state p c w k3 q)) last.1
              (a_step s2 s3 (offset_step (machine_of p) s2 t base.Scratch x (byte_count shape)
              (ScratchBlock c.number) 0 last.0 refl (lt-ltb (0 + x) BLOCK_LIMIT below)));
          result = record {
            passing = PassValue shape v (Address (ScratchBlock c.number) (4 * place));
            actual = refl;
            kind_is = sym same;
            at = held_shape p c w k.count alive.holds shape h r.block r.offset r.at;
            is = copied_passed c.number ws (x + byte_count shape) shape v place large
                (record {
                  place = place;
                  is = refl;
                  within = omega (arith, end_);
                  small = omega (arith, end_, small);
                  reads = λ j l. spliced_inside place news k.scratch j (omega (arith, l, long))
                      (omega (arith, long, room));
                });
            values = ap (λ y. and_more y (Some []))
                (put_same k2.temporaries t word ∙ ap (λ y. Some (Address (ScratchBlock c.number) y)) z);
          };
        }
      where
        held_end : (w : World) (k : Work) (shape : Shape) (h : Held) (b : Block) (o : ℕ) → Alive p c w k
            → 4 * word_count shape < BLOCK_LIMIT → HeldAt p c w.made shape h b o
            → o + 4 * word_count shape < BLOCK_LIMIT
        held_end w k shape (HeldText text) b o alive small at = let e = at.1.2 in omega (arith, e, small)
        held_end w k shape (HeldSpot u) b o alive small at = place_end p.program c.ghosts active.small w k.count
            alive.holds u b o (Whole shape) at

module _ (p : Setting) (n : ℕ) (call : Caller) (c : Activated) (active : IsActive p c) (does : WritesDo p) where
  pub by_copy : (e : Structure) (type : DataType) → StructureRuns p n call c active e → ArgumentRuns p n call c active
      (ByCopy e type)
  by_copy e type run t x o w k pc pc' kind alive opened fits st =
      let code = scope_in p c o in
      let ctx = context_in c o in
      let shape = shape_of type in
      let bytes = byte_count shape in
      let copy = i.Offset (beside t) base.Scratch x bytes ∷ i.Literal (beside (beside t)) (pos bytes) ∷ i.Call
      (beside (beside t)) (length p.program.routines + 0) (beside t ∷ t ∷ beside (beside t) ∷ []) 1 ∷ [] in
      let cut2 = split (code_in p) c.routine pc (structure_code code e t x ++ copy)
      (i.Offset t base.Scratch x bytes ∷ []) pc' st in
      let cut = split (code_in p) c.routine pc (structure_code code e t x) copy cut2.0 cut2.1 in
      runs_bind p (suc n) c t x t x t x w k pc cut.0 pc' (operand call e ctx w)
      (λ h w1. and_then (contents_of h w1) (λ v w2. Gives (ValueActual v) w2))
      (λ h w' k'. StructureIn p c t shape h w' k')
      (λ y w' k'. ArgumentIn p c (ByCopy e type) kind t (x + bytes) y w' k') (omega arith) (omega arith)
      (omega arith) (omega arith)
      (run shape t x o w k pc cut.0 alive opened fits.2 cut.1)
      (λ h w1 k1 alive1 kept1 r.
      subst (λ a. Runs p (suc n) c t x w1 k1 cut.0 pc' (and_then a (λ v w2. Gives (ValueActual v) w2))
      (λ y w' k'. ArgumentIn p c (ByCopy e type) kind t (x + bytes) y w' k')) (sym (contents_are h w1))
      (passed_so p c active does t x w1 k1 cut.0 cut2.0 pc' e type h kind alive1 r fits.0 fits.1 cut.2 cut2.2))
