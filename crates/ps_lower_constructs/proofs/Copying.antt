-- Copies of words by a call of the run-time routine.
use Rattle.std.proofs.Common.{◌≡◌, ℕ, suc, ◌+◌, ◌*◌, ◌<◌, ◌≤◌, pos, List, [], ◌∷◌, length, get_or, Some, sum_by, refl}
use Rattle.std.proofs.Common.{sym, ap, ◌∙◌, subst, arith, append-nil, lt-ltb}
use Rattle.std.proofs.lemmas.List.{length-map}
use Rattle.tac_code.specs.declared.code.Block.{Block}
use Rattle.tac_code.specs.declared.code.Block.TheVariants.{Frame as FrameBlock}
use Rattle.tac_code.specs.declared.code.Value.TheVariants.{Number as Numeral, Address}
use Rattle.tac_code.specs.declared.code.Instruction.TheVariants as i
use Rattle.tac_code.specs.Memory.{Memory}
use Rattle.tac_code.specs.Meaning.{State, values_of, and_more, put}
use Rattle.tac_code.specs.declared.code.TheConstants.{BLOCK_LIMIT}
use Rattle.ps_meaning.specs.Values.{Value, Root, Declared, Made, Spot}
use Rattle.ps_meaning.specs.Worlds.{World, with_contents}
use Rattle.ps_meaning.specs.Expressions.{Held, HeldText, HeldSpot}
use Rattle.tac_code_steps.specs.Runs.{Stands, Comes}
use Rattle.tac_code_steps.proofs.Runs.{a_step, ◌>>◌}
use Rattle.tac_code_steps.proofs.Temporaries.{put_same, put_other}
use Rattle.tac_code_steps.proofs.Instructions.{literal_step, offset_step}
use Rattle.ps_lower_layout.specs.Shapes.{Shape, NumberShape, PointerShape, SetShape, ByteShape, ArrayShape}
use Rattle.ps_lower_layout.specs.Shapes.{RecordShape, word_count, byte_count, Whole}
use Rattle.ps_lower_layout.specs.Paths.{KeepsByte}
use Rattle.ps_lower_code.specs.Fits.{IsStructure}
use Rattle.ps_lower_relation.proofs.Spans.{goes_to}
use Rattle.ps_lower_code.specs.Scopes.{beside, Site}
use Rattle.ps_lower_code.specs.Programs.{tac_of}
use Rattle.ps_lower_relation.specs.Ghosts.{PlaceAt, EnvAt, Holds, tape_of}
use Rattle.ps_lower_relation.specs.Here.{Setting, machine_of, code_in, Work, Activated, IsActive, chain_of, Alive}
use Rattle.ps_lower_relation.specs.Here.{activation, state, IsBelow, SiteAt}
use Rattle.ps_lower_relation.specs.Outcomes.{Reached}
use Rattle.ps_lower_relation.specs.RunTime.{CopiedUp, WritesDo}
use Rattle.ps_lower_relation.proofs.Places.{place_end}
use Rattle.ps_lower_relation.proofs.Spots.{memory_of, spot_holds}
use Rattle.ps_lower_relation.proofs.Copied.{copied_to, copied_spot, spot_open}
use Rattle.ps_lower_constructs.proofs.Runs.{with_temporary}
use Rattle.ps_lower_constructs.proofs.Places.{base_is}
use Rattle.ps_lower_constructs.proofs.Checks.{written_made}
use Rattle.ps_lower_constructs.proofs.Writes.{numbered_more, is_fresh}
use Rattle.ps_lower_constructs.proofs.Structures.{held_value, HeldAt, StructureIn, held_shape, held_reads}

-- what has many words is not a number
structure_keeps : (shape : Shape) (v : Value) → IsStructure shape → KeepsByte v shape
structure_keeps (NumberShape first narrow) v is = absurd is
structure_keeps (PointerShape pointer) v is = absurd is
structure_keeps SetShape v is = tt
structure_keeps (ByteShape count first) v is = tt
structure_keeps (ArrayShape count shape) v is = tt
structure_keeps (RecordShape shapes) v is = tt

module _ (p : Setting) (c : Activated) (active : IsActive p c) (does : WritesDo p) where
  -- what a call of the run-time routine leaves of the activation's work
  abbrev pub copied_work : Work → (t bytes : ℕ) → Work
  copied_work k t bytes = record {
    count = suc k.count;
    temporaries = put (put k.temporaries t (Numeral (pos bytes))) t (Numeral (pos 0));
    scratch = k.scratch;
  }

  -- the state after a copy, where the memory is another one
  abbrev pub copied_state : World → Work → (pc : ℕ) → Memory → State
  copied_state w k pc memory =
      record {
        current = activation c pc k.temporaries;
        callers = c.callers;
        memory = memory;
        count = k.count;
        heap = sum_by (λ t. get_or p.objects t 0) w.made;
        tape = tape_of w.input w.transcript;
      }

  pub copies_so : (w : World) (k : Work) (pc pc' to from t words : ℕ) (b : Block) (o : ℕ) (source : Block) (start : ℕ)
      (memory : Memory) → to < t → from < t → Alive p c w k → k.temporaries to ≡ Some (Address b o) → k.temporaries from
      ≡ Some (Address source start) → CopiedUp p (state p c w k pc).memory b o source start words memory → o
      + 4 * words < BLOCK_LIMIT → start + 4 * words < BLOCK_LIMIT
      → Stands (code_in p) c.routine pc (i.Literal t (pos (4 * words)) ∷ i.Call t (length p.program.routines + 0)
      (to ∷ from ∷ t ∷ []) 1 ∷ []) pc' → Comes (machine_of p) (state p c w k pc)
      (copied_state w (copied_work k t (4 * words)) pc' memory)
  copies_so w k pc pc' to from t words b o source start memory lt lf alive ht hf copied room room' st =
      let count = Numeral (pos (4 * words)) in
      let k1 = with_temporary k t count in
      let alive1 : Alive p c w k1 = record { holds = alive.holds; stands = alive.stands; room = alive.room } in
      let s = state p c w k pc in
      let s1 = state p c w k1 (suc pc) in
      let n1 : to ≡ t → ⊥ = λ e. omega (arith, lt, e) in
      let n2 : from ≡ t → ⊥ = λ e. omega (arith, lf, e) in
      let values : values_of k1.temporaries (to ∷ from ∷ t ∷ []) ≡ Some
      (Address b o ∷ Address source start ∷ count ∷ []) =
      ap (λ v. and_more v (and_more (k1.temporaries from) (and_more (k1.temporaries t) (Some []))))
      (put_other k.temporaries t count to n1 ∙ ht)
      ∙ ap (λ v. and_more (Some (Address b o)) (and_more v (and_more (k1.temporaries t) (Some []))))
      (put_other k.temporaries t count from n2 ∙ hf)
      ∙ ap (λ v. and_more (Some (Address b o)) (and_more (Some (Address source start)) (and_more v (Some []))))
      (put_same k.temporaries t count) in
      let law = does.words b o source start words s1.memory memory s1.tape copied room room' in
      let call = subst (λ m. Stands (code_in p) c.routine (suc pc) (i.Call t (m + 0) (to ∷ from ∷ t ∷ []) 1 ∷ []) pc')
      (sym (length-map p.program.routines (tac_of p.program))) st.1 in
      a_step s s1 (literal_step (machine_of p) s t (pos (4 * words)) st.0)
      >> subst (λ q. Comes (machine_of p) s1 (copied_state w (copied_work k t (4 * words)) q memory)) call.1
      (law.by s1 t 1 (to ∷ from ∷ t ∷ []) refl refl (is_fresh p c active w k1 (suc pc) alive1) values call.0)

  -- a variable is written: the state is that of the world after
  pub written_state : (w : World) (k : Work) (pc : ℕ) (root : Root) (path : List ℕ) (v : Value) → copied_state w k pc
      (memory_of p.program (with_contents w (record {
        root = root;
        path = path;
      }) v) c.ghosts (record {
        number = c.number;
        words = k.scratch;
      } ∷ c.waiting)) ≡ state p c (with_contents w (record {
        root = root;
        path = path;
      }) v) k pc
  written_state w k pc (Declared name) path v = refl
  written_state w k pc (Made object) path v = refl

  -- the words of an operand go to a variable
  operand_copied : (w : World) (k : Work) (s : Spot) (b : Block) (o : ℕ) (shape : Shape) (h : Held) (source : Block)
      (start : ℕ) → Alive p c w k → PlaceAt p.program c.ghosts w.made s b o (Whole shape)
      → HeldAt p c w.made shape h source start → KeepsByte (held_value h w) shape
      → CopiedUp p (memory_of p.program w c.ghosts (record {
        number = c.number;
        words = k.scratch;
      } ∷ c.waiting)) b o source start (word_count shape)
      (memory_of p.program (with_contents w s (held_value h w)) c.ghosts (record {
        number = c.number;
        words = k.scratch;
      } ∷ c.waiting))
  operand_copied w k s b o shape (HeldSpot u) source start alive at there kept = copied_spot p w c.ghosts k.count
      alive.holds (record {
        number = c.number;
        words = k.scratch;
      } ∷ c.waiting) s b o shape at source u start there kept
  operand_copied w k s b o shape (HeldText text) source start alive at there kept =
      copied_to p w c.ghosts k.count alive.holds (record {
        number = c.number;
        words = k.scratch;
      } ∷ c.waiting) s b o shape at source start (held_value (HeldText text) w)
      (λ e. spot_open p w c.ghosts k.count alive.holds (record {
        number = c.number;
        words = k.scratch;
      } ∷ c.waiting) s b o shape at c.routine there.0 (sym e ∙ there.1.1))
      (goes_to w.made s.path (held_value (HeldText text) w) shape
      (held_shape p c w k.count alive.holds shape (HeldText text) source start there) kept)
      (λ j l. held_reads p c w k.count alive.holds (record {
        number = c.number;
        words = k.scratch;
      } ∷ c.waiting) shape (HeldText text) source start there j l)

  -- the copy, from an operand's address in `from` to a variable's in `to`
  pub assigned : (d t from : ℕ) (w : World) (k : Work) (pc pc' bytes : ℕ) (site : Site) (s : Spot) (shape : Shape)
      (h : Held) → d ≤ from → from < t → IsBelow from site.base → Alive p c w k → SiteAt p c w.made k.temporaries site s
      (Whole shape) → StructureIn p c from shape h w k → IsStructure shape → bytes ≡ byte_count shape
      → Stands (code_in p) c.routine pc (i.Offset t site.base site.offset bytes ∷ i.Literal (beside t) (pos bytes)
      ∷ i.Call (beside t) (length p.program.routines + 0) (t ∷ from ∷ beside t ∷ []) 1 ∷ []) pc'
      → Reached p c d 0 w k (state p c w k pc) pc' (λ w' k'. Unit {0}) (with_contents w s (held_value h w))
  assigned d t from w k pc pc' bytes site s shape h ld lf below alive at operand_ is size st =
      let place = at.offset + site.offset in
      let ends = place_end p.program c.ghosts active.small w k.count alive.holds s at.block place (Whole shape) at.place
      in
      let word = Address at.block place in
      let k1 = with_temporary k t word in
      let alive1 : Alive p c w k1 = record { holds = alive.holds; stands = alive.stands; room = alive.room } in
      let v = held_value h w in
      let w' = with_contents w s v in
      let n = word_count shape in
      let s0 = state p c w k pc in
      let s1 = state p c w k1 (suc pc) in
      let scratch = record { number = c.number; words = k.scratch } ∷ c.waiting in
      let memory = memory_of p.program w' c.ghosts scratch in
      let code = subst (λ z. Stands (code_in p) c.routine (suc pc)
      (i.Literal (beside t) (pos z) ∷ i.Call (beside t) (length p.program.routines + 0) (t ∷ from ∷ beside t ∷ []) 1
      ∷ []) pc') size st.1 in
      let apart : from ≡ t → ⊥ = λ e. omega (arith, lf, e) in
      let k2 = copied_work k1 (beside t) (4 * n) in
      let same = written_made p (suc d) c active w s.root s.path v in
      let step : Comes (machine_of p) s0 s1 = a_step s0 s1
      (offset_step (machine_of p) s0 t site.base site.offset bytes at.block at.offset st.0
      (base_is c pc k.temporaries site.base ∙ at.base) (lt-ltb place BLOCK_LIMIT (omega (arith, ends)))) in
      let copy = copies_so w k1 (suc pc) pc' t from (beside t) n at.block place operand_.block operand_.offset memory
      (omega arith) (omega (arith, lf)) alive1 (put_same k.temporaries t word)
      (put_other k.temporaries t word from apart ∙ operand_.word)
      (operand_copied w k s at.block place shape h operand_.block operand_.offset alive at.place operand_.at
      (structure_keeps shape v is)) (omega (arith, ends))
      (held_end w k shape h operand_.block operand_.offset alive (omega (arith, ends)) operand_.at) code in
      record {
        work = k2;
        alive = record {
          holds = holds_more w' k.count (spot_holds p.program w c.ghosts k.count alive.holds s at.block place shape v
              at.place (goes_to w.made s.path v shape
              (held_shape p c w k.count alive.holds shape h operand_.block operand_.offset operand_.at)
              (structure_keeps shape v is)));
          stands = subst (λ m. EnvAt p.program c.ghosts m c.env (Address (FrameBlock c.number) 0) (chain_of c))
              (sym same) alive.stands;
          room = alive.room;
        };
        keeps = record {
          temporaries = λ j l.
              let n1 : j ≡ t → ⊥ = λ e. omega (arith, l, ld, lf, e) in
              let n2 : j ≡ beside t → ⊥ = λ e. omega (arith, l, ld, lf, e) in
              put_other (put k1.temporaries (beside t) (Numeral (pos (4 * n)))) (beside t) (Numeral (pos 0)) j n2
              ∙ put_other k1.temporaries (beside t) (Numeral (pos (4 * n))) j n2
              ∙ put_other k.temporaries t word j n1;
          scratch = λ j l. refl;
          grown = ([], same ∙ sym (append-nil w.made));
        };
        comes = step >> subst (Comes (machine_of p) s1) (written_state w k2 pc' s.root s.path v) copy;
        result = tt;
      }
    where
      holds_more : (w1 : World) (m : ℕ) → Holds p.program c.ghosts w1 m → Holds p.program c.ghosts w1 (suc m)
      holds_more w1 m h = record {
        fits = h.fits;
        objects = h.objects;
        names = h.names;
        numbered = numbered_more c.ghosts m (suc m) (omega arith) h.numbered;
        input = h.input;
      }

      held_end : (w : World) (k : Work) (shape : Shape) (h : Held) (b : Block) (o : ℕ) → Alive p c w k
          → 4 * word_count shape < BLOCK_LIMIT → HeldAt p c w.made shape h b o → o + 4 * word_count shape < BLOCK_LIMIT
      held_end w k shape (HeldText text) b o alive small at = let e = at.1.2 in omega (arith, e, small)
      held_end w k shape (HeldSpot u) b o alive small at = place_end p.program c.ghosts active.small w k.count
          alive.holds u b o (Whole shape) at
