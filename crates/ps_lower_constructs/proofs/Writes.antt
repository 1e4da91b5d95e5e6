-- Calls of the run-time routines that only write.
use Rattle.std.proofs.Common.{◌≡◌, ℕ, suc, ◌+◌, ◌<◌, ◌≤◌, ℤ, pos, List, [], ◌∷◌, length, Some, refl, sym, ap, ◌∙◌}
use Rattle.std.proofs.Common.{subst, arith, append-nil}
use Rattle.tac_code.specs.declared.code.Block.{Block}
use Rattle.tac_code.specs.declared.code.Block.TheVariants.{Frame as FrameBlock, Scratch as ScratchBlock}
use Rattle.tac_code.specs.declared.code.Block.TheVariants.{Object as ObjectBlock, Constant as ConstantBlock}
use Rattle.tac_code.specs.Memory.{Living}
use Rattle.tac_code.specs.declared.code.Value.{Value as Word}
use Rattle.tac_code.specs.declared.code.Value.TheVariants.{Number as Numeral, Address, Routine as RoutineWord}
use Rattle.tac_code.specs.declared.code.Instruction.TheVariants as i
use Rattle.tac_code.specs.Meaning.{values_of, and_more, put}
use Rattle.tac_code.specs.declared.code.TheConstants.{BLOCK_LIMIT, NUMBER_LIMIT}
use Rattle.ps_meaning.specs.Text.{fitted}
use Rattle.ps_meaning.specs.Worlds.{World, says}
use Rattle.tac_code_steps.specs.Runs.{Stands, Comes}
use Rattle.tac_code_steps.specs.Routines.{AreBelow, Fresh, Does, wrote}
use Rattle.tac_code_steps.proofs.Temporaries.{put_other}
use Rattle.ps_lower_relation.specs.Ghosts.{Ghost, Numbered, frames_of}
use Rattle.ps_lower_relation.specs.Here.{Setting, machine_of, code_in, Work, Activated, chain_of, IsActive, Alive}
use Rattle.ps_lower_relation.specs.Here.{Below, state}
use Rattle.ps_lower_relation.specs.Outcomes.{Reached}
use Rattle.ps_lower_relation.specs.RunTime.{BytesAt, WritesDo}
use Rattle.ps_lower_relation.proofs.Bytes.{AreBytes}
use Rattle.ps_lower_relation.proofs.Frames.{level}
use Rattle.ps_lower_constructs.proofs.Calls.{found_below}

pub numbered_more : (gs : List Ghost) (m n : ℕ) → m ≤ n → Numbered gs m → Numbered gs n
numbered_more [] m n l h = tt
numbered_more (g ∷ gs) m n l h = (omega (arith, l, h.0), h.1)

pub waiting_below : (m n : ℕ) (bs : List Living) → m ≤ n → Below m bs → AreBelow n bs
waiting_below m n [] l h = tt
waiting_below m n (b ∷ bs) l h = (omega (arith, l, h.0), waiting_below m n bs l h.1)

module _ (p : Setting) (c : Activated) (active : IsActive p c) where
  pub frames_below : (w : World) (gs : List Ghost) (count m : ℕ) → m ≤ count → Numbered gs m → AreBelow count
      (frames_of p.program w gs)
  frames_below w [] count m l h = tt
  frames_below w (g ∷ gs) count m l h = let low = h.0
      in (omega (arith, l, low), frames_below w gs count g.number (omega (arith, l, low)) h.1)

  number_below : (w : World) (k : Work) → Alive p c w k → c.number < k.count
  number_below w k alive =
      let v = level p.program c.ghosts w.made c.env (Address (FrameBlock c.number) 0) (chain_of c) alive.stands
      (omega arith) in
      let same : c.number ≡ v.ghost.number = ap number_in v.is in
      let l = found_below c.ghosts k.count v.ghost.number v.ghost alive.holds.numbered v.there in
      omega (arith, same, l)
    where
      block_number : Block → ℕ
      block_number (FrameBlock a) = a
      block_number (ScratchBlock a) = 0
      block_number (ObjectBlock a) = 0
      block_number (ConstantBlock r a) = 0

      number_in : Word → ℕ
      number_in (Numeral z) = 0
      number_in (Address b o) = block_number b
      number_in (RoutineWord r) = 0

  pub is_fresh : (w : World) (k : Work) (pc : ℕ) → Alive p c w k → Fresh (state p c w k pc)
  is_fresh w k pc alive =
      let l = number_below w k alive in (
        frames_below w c.ghosts k.count k.count (omega arith) alive.holds.numbered,
        (l, waiting_below c.number k.count c.waiting (omega (arith, l)) active.below),
      )

  -- a run-time routine that only writes
  pub writes_so : (d x : ℕ) (w : World) (k : Work) (pc pc' t routine line : ℕ) (operands : List ℕ) (values : List Word)
      (v : Word) (bytes : List ℕ) → d ≤ t → Alive p c w k
      → Does (machine_of p) routine values (state p c w k pc).memory (state p c w k pc).tape v (state p c w k pc).memory
      (state p c (says w bytes) k pc).tape
      → values_of k.temporaries operands ≡ Some values → Stands (code_in p) c.routine pc
      (i.Call t (length (code_in p).program + routine) operands line ∷ []) pc'
      → Reached p c d x w k (state p c w k pc) pc' (λ w' k'. Unit {0}) (says w bytes)
  writes_so d x w k pc pc' t routine line operands values v bytes l alive does at st =
      let k' : Work = record { count = suc k.count; temporaries = put k.temporaries t v; scratch = k.scratch } in
      let w' = says w bytes in
      record {
        work = k';
        alive = record {
          holds = record {
            fits = alive.holds.fits;
            objects = alive.holds.objects;
            names = alive.holds.names;
            numbered = numbered_more c.ghosts k.count (suc k.count) (omega arith) alive.holds.numbered;
            input = alive.holds.input;
          };
          stands = alive.stands;
          room = alive.room;
        };
        keeps = record {
          temporaries = λ j b. let ne : j ≡ t → ⊥ = λ e. omega (arith, l, b, e) in put_other k.temporaries t v j ne;
          scratch = λ j b. refl;
          grown = ([], sym (append-nil w.made));
        };
        comes = subst (λ q. Comes (machine_of p) (state p c w k pc) (state p c w' k' q)) st.1
            (does.by (state p c w k pc) t line operands refl refl (is_fresh w k pc alive) at st.0);
        result = tt;
      }

  -- a number and its width in temporaries
  pub number_written : (d x : ℕ) (w : World) (k : Work) (pc pc' routine a b t line : ℕ) (z : ℤ) (width : ℕ)
      (bytes : List ℕ) → d ≤ t → Alive p c w k
      → Does (machine_of p) routine (Numeral z ∷ Numeral (pos width) ∷ []) (state p c w k pc).memory
      (state p c w k pc).tape (Numeral (pos 0)) (state p c w k pc).memory (wrote (state p c w k pc).tape bytes)
      → k.temporaries a ≡ Some (Numeral z) → k.temporaries b ≡ Some (Numeral (pos width)) → Stands
      (code_in p) c.routine pc (i.Call t (length (code_in p).program + routine) (a ∷ b ∷ []) line ∷ []) pc'
      → Reached p c d x w k (state p c w k pc) pc' (λ w' k'. Unit {0}) (says w bytes)
  number_written d x w k pc pc' routine a b t line z width bytes l alive law ha hb st =
      writes_so d x w k pc pc' t routine line (a ∷ b ∷ []) (Numeral z ∷ Numeral (pos width) ∷ [])
      (Numeral (pos 0)) bytes l alive law
      (ap (λ v. and_more v (and_more (k.temporaries b) (Some []))) ha
      ∙ ap (λ v. and_more (Some (Numeral z)) (and_more v (Some []))) hb) st

  -- the address of a string, its length and its width in temporaries
  pub string_written : (does : WritesDo p) (d x : ℕ) (w : World) (k : Work) (pc pc' a b e t line : ℕ) (block : Block)
      (offset : ℕ) (text : List ℕ) (width : ℕ) → d ≤ t → Alive p c w k → BytesAt p
      (state p c w k pc).memory block offset text → AreBytes text → offset + length text < BLOCK_LIMIT
      → width < NUMBER_LIMIT
      → k.temporaries a ≡ Some (Address block offset) → k.temporaries b ≡ Some (Numeral (pos (length text)))
      → k.temporaries e ≡ Some (Numeral (pos width)) → Stands (code_in p) c.routine pc
      (i.Call t (length (code_in p).program + 12) (a ∷ b ∷ e ∷ []) line ∷ []) pc'
      → Reached p c d x w k (state p c w k pc) pc' (λ w' k'. Unit {0}) (says w (fitted width text))
  string_written does d x w k pc pc' a b e t line block offset text width l alive there bytes ends wide ha hb he st =
      let address = Address block offset in
      let count = Numeral (pos (length text)) in
      let wanted = Numeral (pos width) in
      writes_so d x w k pc pc' t 12 line (a ∷ b ∷ e ∷ []) (address ∷ count ∷ wanted ∷ []) (Numeral (pos 0))
      (fitted width text) l alive (does.string block offset text width (state p c w k pc).memory
      (state p c w k pc).tape there bytes ends wide)
      (ap (λ v. and_more v (and_more (k.temporaries b) (and_more (k.temporaries e) (Some [])))) ha
      ∙ ap (λ v. and_more (Some address) (and_more v (and_more (k.temporaries e) (Some [])))) hb
      ∙ ap (λ v. and_more (Some address) (and_more (Some count) (and_more v (Some [])))) he) st
