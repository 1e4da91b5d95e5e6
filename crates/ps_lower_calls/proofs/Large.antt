-- A parameter of many words is copied from the caller's scratch block to its entry.
use Rattle.std.proofs.Common.{◌≡◌, ℕ, suc, pos, ◌+◌, ◌*◌, ◌<◌, ◌≤◌, List, [], ◌∷◌, length, Some, if◌then◌else◌, refl}
use Rattle.std.proofs.Common.{sym, ap, ◌∙◌, subst, arith, lt-ltb}
use Rattle.std.proofs.lemmas.Bool.{ne_eqb}
use Rattle.tac_code.specs.declared.code.Block.TheVariants.{Frame as FrameBlock, Scratch as ScratchBlock}
use Rattle.tac_code.specs.declared.code.Value.{Value as Word}
use Rattle.tac_code.specs.declared.code.Value.TheVariants.{Number as Numeral, Address}
use Rattle.tac_code.specs.declared.code.Base.TheVariants as base
use Rattle.tac_code.specs.declared.code.Instruction.TheVariants as i
use Rattle.tac_code.specs.Memory.{Words, Living, Memory, known, living, words_in, load}
use Rattle.tac_code.specs.Meaning.{put, values_of, and_more, text_at}
use Rattle.tac_code.specs.declared.code.TheConstants.{BLOCK_LIMIT}
use Rattle.tac_code.proofs.Numbers.{eq_same}
use Rattle.ps_meaning.specs.Values.{Value}
use Rattle.ps_meaning.specs.Worlds.{World}
use Rattle.tac_code_steps.specs.Runs.{Stands, Comes}
use Rattle.tac_code_steps.specs.Routines.{Fresh}
use Rattle.tac_code_steps.specs.Splices.{spliced}
use Rattle.tac_code_steps.proofs.Runs.{a_step, ◌>>◌}
use Rattle.tac_code_steps.proofs.Temporaries.{put_same, put_other}
use Rattle.tac_code_steps.proofs.Instructions.{literal_step, offset_step}
use Rattle.ps_lower_layout.specs.Shapes.{Shape, word_count, byte_count}
use Rattle.ps_lower_layout.specs.Words.{value_words}
use Rattle.ps_lower_layout.proofs.Counted.{counted}
use Rattle.ps_lower_code.specs.Scopes.{Scope, beside}
use Rattle.ps_lower_relation.specs.Ghosts.{Ghost, frames_of}
use Rattle.ps_lower_relation.specs.Here.{Setting, machine_of, code_in, Work, Activated}
use Rattle.ps_lower_relation.specs.RunTime.{CopiedUp}
use Rattle.ps_lower_relation.proofs.Blocks.{with_living, with_block, word_there}
use Rattle.ps_lower_relation.proofs.Stretches.{value_written}
use Rattle.ps_lower_relation.proofs.Copied.{copied_other}
use Rattle.ps_lower_calls.specs.Entering.{entering, Places, CanCopy, Waits}
use Rattle.ps_lower_calls.specs.Passing.{CopiedIn}
use Rattle.ps_lower_calls.proofs.Filling.{with_temporary}
use Rattle.ps_lower_calls.proofs.Spread.{below_more}

module _ (p : Setting) (c : Activated) (gs : List Ghost) (w : World) (k : Scope) (free count size : ℕ)
    (can : CanCopy p c gs w k count size) (caller end : ℕ) (theirs : Words) (waits : Waits c caller theirs) where
  -- the words of a value that stand in the caller's scratch block go to the frame
  scratch_copied : (shape : Shape) (v : Value) (y : Word) (words : Words) (work : Work) (pc x : ℕ)
      → (in_ : CopiedIn caller theirs end shape v y) → x + word_count shape ≤ length words
      → CopiedUp p (entering p c gs w words work pc).memory (FrameBlock c.number) (4 * x) (ScratchBlock caller)
      (4 * in_.place) (word_count shape) (entering p c gs w (spliced x (value_words shape v) words) work pc).memory
  scratch_copied shape v y words work pc x in_ within =
      subst (λ after. CopiedUp p memory (FrameBlock c.number) (4 * x) (ScratchBlock caller) (4 * in_.place)
      (word_count shape) after) replaced
      (copied_other p memory (FrameBlock c.number) words tt here (ScratchBlock caller) (value_words shape v) x
      (word_count shape) (4 * in_.place) (λ e. absurd (cc)) (value_written shape v) (counted shape v) within
      (λ j l.
      let e : 4 * in_.place + 4 * j ≡ 4 * (in_.place + j) = omega arith in
      ap (load (text_at (code_in p)) memory (ScratchBlock caller)) e ∙ word_there (text_at (code_in p)) memory
      (ScratchBlock caller) theirs (in_.place + j) there ∙ ap known (in_.reads j l)))
    where
      memory : Memory
      memory = (entering p c gs w words work pc).memory

      own : Words → Living
      own ws = record { number = c.number; words = ws }

      here : words_in (text_at (code_in p)) memory (FrameBlock c.number) ≡ Some words
      here = ap (λ b. if b then Some words else living (frames_of p.program w gs) c.number) (eq_same c.number)

      there : words_in (text_at (code_in p)) memory (ScratchBlock caller) ≡ Some theirs
      there = ap (λ b. if b then Some work.scratch else living c.waiting caller)
          (ne_eqb c.number caller (λ e. waits.other (sym e))) ∙ waits.lives

      replaced : with_block memory (FrameBlock c.number) (spliced x (value_words shape v) words)
          ≡ (entering p c gs w (spliced x (value_words shape v) words) work pc).memory
      replaced =
          ap (λ b. record memory {
            frames = if b then own (spliced x (value_words shape v) words)
                ∷ frames_of p.program w gs else own words ∷ with_living (frames_of p.program w gs) c.number
                (spliced x (value_words shape v) words);
          }) (eq_same c.number)

  pub places_copied : (shape : Shape) (v : Value) (y : Word) (words : Words) (work : Work) (pc pc' x offset t : ℕ)
      → CopiedIn caller theirs end shape v y → offset ≡ 4 * x → x + length (value_words shape v) ≤ size → length words
      ≡ size → count ≤ work.count → t < free → work.temporaries t ≡ Some y
      → Stands (code_in p) c.routine pc (i.Offset free base.Frame offset (byte_count shape) ∷ i.Literal (beside free)
      (pos (byte_count shape)) ∷ i.Call (beside free) (length k.program.routines + 0)
      (free ∷ t ∷ beside free ∷ []) 1 ∷ []) pc'
      → Places p c gs w free words work pc pc' (record { place = x; words = value_words shape v } ∷ [])
  places_copied shape v y words work pc pc' x offset t in_ e within wide up low held st =
      let n = word_count shape in
      let long = counted shape v in
      let narrow = can.small in
      let room = in_.small in
      let one : Word = Address (FrameBlock c.number) (0 + offset) in
      let two : Word = Address (ScratchBlock caller) (4 * in_.place) in
      let three : Word = Numeral (pos (4 * n)) in
      let k1 = with_temporary work free one in
      let k2 = with_temporary k1 (beside free) three in
      let k3 : Work = record {
        count = suc work.count;
        temporaries = put k2.temporaries (beside free) (Numeral (pos 0));
        scratch = work.scratch;
      } in
      let after = spliced x (value_words shape v) words in
      let s0 = entering p c gs w words work pc in
      let s1 = entering p c gs w words k1 (suc pc) in
      let s2 = entering p c gs w words k2 (suc (suc pc)) in
      let own = can.number in
      let n1 : t ≡ free → ⊥ = λ q. omega (arith, low, q) in
      let n2 : t ≡ beside free → ⊥ = λ q. omega (arith, low, q) in
      let n3 : free ≡ beside free → ⊥ = λ q. omega (arith, q) in
      let at1 : k2.temporaries free ≡ Some one = put_other k1.temporaries (beside free) three free n3
      ∙ put_same work.temporaries free one in
      let at2 : k2.temporaries t ≡ Some two = put_other k1.temporaries (beside free) three t n2
      ∙ put_other work.temporaries free one t n1 ∙ held ∙ ap Some in_.is in
      let at3 : k2.temporaries (beside free) ≡ Some three = put_same k1.temporaries (beside free) three in
      let values : values_of k2.temporaries (free ∷ t ∷ beside free ∷ []) ≡ Some (one ∷ two ∷ three ∷ []) =
      ap (λ z. and_more z (and_more (k2.temporaries t) (and_more (k2.temporaries (beside free)) (Some [])))) at1
      ∙ ap (λ z. and_more (Some one) (and_more z (and_more (k2.temporaries (beside free)) (Some [])))) at2
      ∙ ap (λ z. and_more (Some one) (and_more (Some two) (and_more z (Some [])))) at3 in
      let fresh : Fresh s2 = (
        (
          omega (arith, own, up),
          below_more count work.count
              (frames_of p.program w gs) up can.frames,
        ),
        (omega (arith, own, up), below_more count work.count c.waiting up can.waiting),
      ) in
      let place : 0 + offset ≡ 4 * x = omega (arith, e) in
      let up_to : CopiedUp p s2.memory (FrameBlock c.number) (0 + offset) (ScratchBlock caller) (4 * in_.place) n
      (entering p c gs w after k3 pc').memory =
      subst (λ z. CopiedUp p s2.memory (FrameBlock c.number) z (ScratchBlock caller) (4 * in_.place) n
      (entering p c gs w after k3 pc').memory) (sym place)
      (scratch_copied shape v y words k2 (suc (suc pc)) x in_ (omega (arith, long, within, wide))) in
      let law = can.does.words (FrameBlock c.number) (0 + offset) (ScratchBlock caller) (4 * in_.place) n s2.memory
      (entering p c gs w after k3 pc').memory s2.tape up_to (omega (arith, e, long, within, narrow))
      (omega (arith, room)) in
      let call = subst (λ z. Stands (code_in p) c.routine (suc (suc pc))
      (i.Call (beside free) (z + 0) (free ∷ t ∷ beside free ∷ []) 1 ∷ []) pc') can.program st.1.1 in
      record {
        work = k3;
        temporaries = λ j l.
            let m1 : j ≡ free → ⊥ = λ q. omega (arith, l, q) in
            let m2 : j ≡ beside free → ⊥ = λ q. omega (arith, l, q) in
            put_other k2.temporaries (beside free) (Numeral (pos 0)) j m2 ∙ put_other k1.temporaries
            (beside free) three j m2 ∙ put_other work.temporaries free one j m1;
        scratch = refl;
        count = omega arith;
        comes = a_step s0 s1 (offset_step (machine_of p) s0 free base.Frame offset (byte_count shape)
            (FrameBlock c.number) 0 st.0 refl (lt-ltb (0 + offset) BLOCK_LIMIT
            (omega (arith, e, long, within, narrow))))
            >> a_step s1 s2 (literal_step (machine_of p) s1 (beside free) (pos (byte_count shape)) st.1.0)
            >> subst (λ q. Comes (machine_of p) s2 (entering p c gs w after k3 q)) call.1
            (law.by s2 (beside free) 1 (free ∷ t ∷ beside free ∷ []) refl refl fresh values call.0);
      }
