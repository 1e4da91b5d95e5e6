-- What the run-time routines that read leave of the input, and of its words in the frame of the program block.
use Rattle.std.proofs.Common.{◌≡◌, ℕ, suc, ◌+◌, ◌*◌, ◌<◌, ◌≤◌, pos, Bool, true, false, ◌==◌, if◌then◌else◌, is_none}
use Rattle.std.proofs.Common.{List, [], ◌∷◌, length, Option, Some, None, refl, sym, ap, ◌∙◌, subst, arith, append-nil}
use Rattle.std.proofs.Common.{lt-ltb}
use Rattle.std.specs.List.{All}
use Rattle.std.proofs.lemmas.List.{length-map}
use Rattle.ps_tree.specs.Tree.{Eof, Eoln, routine_at}
use Rattle.tac_code.specs.declared.code.Block.TheVariants.{Frame as FrameBlock}
use Rattle.tac_code.specs.declared.code.Value.{Value as Word}
use Rattle.tac_code.specs.declared.code.Value.TheVariants.{Number as Numeral, Address}
use Rattle.tac_code.specs.declared.code.Base.TheVariants as base
use Rattle.tac_code.specs.declared.code.Relation.TheVariants.{Equal}
use Rattle.tac_code.specs.declared.code.Instruction.TheVariants as i
use Rattle.tac_code.specs.Memory.{Living, Memory, load, store}
use Rattle.tac_code.specs.Meaning.{and_more, put, text_at, related, checks}
use Rattle.ps_meaning.specs.Values.{OrdinalValue}
use Rattle.ps_meaning.specs.Operators.{truth, is_true}
use Rattle.ps_meaning.specs.Text.{Input, next_character, looked_at, look_marks}
use Rattle.ps_meaning.specs.Worlds.{World, with_input}
use Rattle.ps_meaning.specs.Expressions.{Caller, line_end, value}
use Rattle.tac_code_steps.specs.Runs.{Stands, Comes}
use Rattle.tac_code_steps.specs.Routines.{Does}
use Rattle.tac_code_steps.specs.Splices.{spliced}
use Rattle.tac_code_steps.proofs.Runs.{a_step}
use Rattle.tac_code_steps.proofs.Temporaries.{put_same, put_other}
use Rattle.tac_code_steps.proofs.Instructions.{offset_step, range_step}
use Rattle.ps_lower_layout.specs.Frames.{input_offset}
use Rattle.ps_lower_layout.specs.Paths.{HasSort}
use Rattle.tac_code.proofs.Impossible.{never, true_false}
use Rattle.ps_lower_code.specs.Scopes.{even_from}
use Rattle.ps_lower_code.specs.Fits.{outermost_of}
use Rattle.ps_lower_code.proofs.Depths.{even_above}
use Rattle.ps_lower_relation.specs.Ghosts.{GhostsFit, Numbered, ahead, begun, input_words, layout_at}
use Rattle.ps_lower_relation.specs.Here.{Setting, machine_of, code_in, Work, Activated, chain_of, IsActive, Alive}
use Rattle.ps_lower_relation.specs.Here.{state}
use Rattle.ps_lower_relation.specs.Outcomes.{Reached, Runs}
use Rattle.ps_lower_relation.specs.Reading.{InputAt, Renewed, LookedIn, kind_of}
use Rattle.ps_lower_relation.proofs.Numbers.{truth_integer}
use Rattle.ps_lower_relation.proofs.Spots.{memory_of}
use Rattle.ps_lower_relation.proofs.Inputs.{reread, input_read, input_written, FirstHere, first_here}
use Rattle.ps_lower_constructs.specs.Openings.{context_in}
use Rattle.ps_lower_constructs.proofs.Runs.{with_temporary, keeps_put, runs_from, reached_from, passes}
use Rattle.ps_lower_constructs.proofs.Leaves.{fails_so}
use Rattle.ps_lower_constructs.proofs.Values.{FrontIn, FrontRuns}
use Rattle.ps_lower_constructs.proofs.Writes.{numbered_more, is_fresh}
use Rattle.ps_lower_code.specs.Programs.{tac_of}
use Rattle.tac_code.specs.Numbers.{is_in_range}
use Rattle.tac_code.specs.declared.code.TheConstants.{BLOCK_LIMIT}
use Rattle.ps_lower_constructs.proofs.Calling.{Callable}

module _ (p : Setting) where
  -- where the words are in the frame of the program block
  abbrev pub input_place : ℕ
  input_place = 0 + input_offset (routine_at p.program 0)

module _ (p : Setting) (c : Activated) (active : IsActive p c) where
  pub place_small : input_place p < BLOCK_LIMIT
  place_small = let small = active.small.frames 0 in omega (arith, small)

  module _ (w : World) (fits : GhostsFit p.program w.made w.store c.ghosts) (count : ℕ)
      (numbered : Numbered c.ghosts count) (first : FirstHere p.program c.ghosts w.made (chain_of c))
      (last : outermost_of (chain_of c) ≡ 0) (scratch : List Living) where
    place_is : input_place p ≡ 4 * (layout_at p.program first.ghost.routine).input
    place_is =
        let there : input_offset (routine_at p.program first.ghost.routine) ≡ input_offset
        (routine_at p.program 0) = ap (λ r. input_offset (routine_at p.program r)) (first.routine ∙ last) in
        omega (arith, there)

    -- they are those of the world's input
    input_stands : InputAt p (memory_of p.program w c.ghosts scratch) (FrameBlock 0) (input_place p) w.input
    input_stands =
        let memory = memory_of p.program w c.ghosts scratch in
        let L = (layout_at p.program first.ghost.routine).input in
        let at = place_is in
        let one : input_place p ≡ 4 * (L + 0) = omega (arith, at) in
        let two : input_place p + 4 ≡ 4 * (L + 1) = omega (arith, at) in (
          ap (load (text_at (code_in p)) memory (FrameBlock 0)) one ∙ input_read p.program
              (text_at (code_in p)) memory w c.ghosts first.ghost 0 refl fits first.there first.is (omega arith),
          ap (load (text_at (code_in p)) memory (FrameBlock 0)) two ∙ input_read p.program
              (text_at (code_in p)) memory w c.ghosts first.ghost 1 refl fits first.there first.is (omega arith),
        )

    -- one of them is replaced
    word_renewed : (i : Input) (j : ℕ) (word : Word) → j < 2 → input_words i ≡ spliced j (Some word ∷ [])
        (input_words w.input) → store (memory_of p.program w c.ghosts scratch) (FrameBlock 0)
        (input_place p + 4 * j) word ≡ Some (memory_of p.program (reread w i) c.ghosts scratch)
    word_renewed i j word l e =
        let memory = memory_of p.program w c.ghosts scratch in
        let L = (layout_at p.program first.ghost.routine).input in
        let at = place_is in
        let one : input_place p + 4 * j ≡ 4 * (L + j) = omega (arith, at) in
        ap (λ o. store memory (FrameBlock 0) o word) one
        ∙ input_written p.program memory w c.ghosts count first.ghost i j word refl fits numbered active.only
        first.there first.is l e

  module _ (w : World) (k : Work) (alive : Alive p c w k) (last : outermost_of (chain_of c) ≡ 0)
      (scratch : List Living) where
    abbrev first : FirstHere p.program c.ghosts w.made (chain_of c)
    first = first_here p.program c.ghosts w.made c.env (Address (FrameBlock c.number) 0) (chain_of c)
        (omega arith) alive.stands

    pub input_is : (i : Input) → InputAt p (memory_of p.program (reread w i) c.ghosts scratch) (FrameBlock 0)
        (input_place p) i
    input_is i = input_stands (reread w i) alive.holds.fits k.count alive.holds.numbered first last scratch

    -- both are replaced, one after the other
    pub input_renewed : (i : Input) → Renewed (memory_of p.program w c.ghosts scratch) (FrameBlock 0) (input_place p) i
        (memory_of p.program (reread w i) c.ghosts scratch)
    input_renewed i =
        let half : Input = record { left = i.left; looked = i.looked; in_line = w.input.in_line } in
        let z : input_place p + 4 * 0 ≡ input_place p = omega arith in
        let s : input_place p + 4 * 1 ≡ input_place p + 4 = omega arith in (
          memory_of p.program (reread w half) c.ghosts scratch,
          ap (λ o. store (memory_of p.program w c.ghosts scratch) (FrameBlock 0) o (Numeral (ahead i))) (sym z)
              ∙ word_renewed w alive.holds.fits k.count alive.holds.numbered first last scratch half 0
              (Numeral (ahead i)) (omega arith) refl,
          ap (λ o. store (memory_of p.program (reread w half) c.ghosts scratch) (FrameBlock 0) o (Numeral (begun i)))
              (sym s) ∙ word_renewed (reread w half) alive.holds.fits k.count alive.holds.numbered first last scratch i
              1 (Numeral (begun i)) (omega arith) refl,
        )

    pub input_looked : LookedIn w.input.looked (memory_of p.program w c.ghosts scratch) (FrameBlock 0) (input_place p)
        (ahead (looked_at w.input)) (memory_of p.program (reread w (looked_at w.input)) c.ghosts scratch)
    input_looked = go w.input.looked refl
      where
        as_looked : Bool → Memory
        as_looked q = memory_of p.program (reread w (record {
          left = w.input.left;
          looked = q;
          in_line = w.input.in_line;
        })) c.ghosts scratch

        go : (q : Bool) → w.input.looked ≡ q → LookedIn q (memory_of p.program w c.ghosts scratch) (FrameBlock 0)
            (input_place p) (ahead (looked_at w.input))
            (memory_of p.program (reread w (looked_at w.input)) c.ghosts scratch)
        go true e = ap as_looked (sym e)
        go false e =
            let z : input_place p + 4 * 0 ≡ input_place p = omega arith in
            ap (λ o. store (memory_of p.program w c.ghosts scratch) (FrameBlock 0) o
            (Numeral (ahead (looked_at w.input)))) (sym z)
            ∙ word_renewed w alive.holds.fits k.count alive.holds.numbered first last scratch (looked_at w.input) 0
            (Numeral (ahead (looked_at w.input))) (omega arith) refl

  -- the address of the words goes to e, and the routine's result to t
  pub reader_run : (d x : ℕ) (w : World) (k : Work) (pc mid pc' e t routine : ℕ) (v : Word) (new : Input)
      (marks : List ℕ) → d ≤ e → d ≤ t → Alive p c w k → All (λ b. b < 256) new.left
      → Does (machine_of p) routine (Address (FrameBlock 0) (input_place p) ∷ []) (state p c w k pc).memory
      (state p c w k pc).tape v (state p c (with_input w new marks) k pc).memory
      (state p c (with_input w new marks) k pc).tape
      → Stands (code_in p) c.routine pc (i.Offset e base.Program (input_offset (routine_at p.program 0)) 8 ∷ []) mid
      → Stands (code_in p) c.routine mid (i.Call t (length (code_in p).program + routine) (e ∷ []) 1 ∷ []) pc'
      → Reached p c d x w k (state p c w k pc) pc' (λ w' k'. k'.temporaries t ≡ Some v) (with_input w new marks)
  reader_run d x w k pc mid pc' e t routine v new marks le lt alive bytes does st su =
      let address : Word = Address (FrameBlock 0) (input_place p) in
      let k1 = with_temporary k e address in
      let k' : Work = record { count = suc k.count; temporaries = put k1.temporaries t v; scratch = k.scratch } in
      let w' = with_input w new marks in
      let one : Comes (machine_of p) (state p c w k pc) (state p c w k1 mid) = subst
      (λ q. Comes (machine_of p) (state p c w k pc) (state p c w k1 q)) st.1
      (a_step (state p c w k pc) (state p c w k1 (suc pc))
      (offset_step (machine_of p) (state p c w k pc) e base.Program (input_offset (routine_at p.program 0)) 8
      (FrameBlock 0) 0 st.0 refl (lt-ltb (input_place p) BLOCK_LIMIT place_small))) in
      let two : Reached p c d x w k1 (state p c w k1 mid) pc' (λ w2 k2. k2.temporaries t ≡ Some v) w' = record {
        work = k';
        alive = record {
          holds = record {
            fits = alive.holds.fits;
            objects = alive.holds.objects;
            names = alive.holds.names;
            numbered = numbered_more c.ghosts k.count (suc k.count) (omega arith) alive.holds.numbered;
            input = bytes;
          };
          stands = alive.stands;
          room = alive.room;
        };
        keeps = record {
          temporaries = λ j b. let ne : j ≡ t → ⊥ = λ q. omega (arith, lt, b, q) in put_other k1.temporaries t v j ne;
          scratch = λ j b. refl;
          grown = ([], sym (append-nil w.made));
        };
        comes = subst (λ q. Comes (machine_of p) (state p c w k1 mid) (state p c w' k' q)) su.1
            (does.by (state p c w k1 mid) t 1 (e ∷ []) refl refl (is_fresh p c active w k mid alive)
            (ap (λ u. and_more u (Some [])) (put_same k.temporaries e address)) su.0);
        result = put_same k1.temporaries t v;
      } in
      reached_from p 0 c d x d x w w k k1 (state p c w k pc) (state p c w k1 mid) pc'
      (λ w2 k2. k2.temporaries t ≡ Some v) (λ w2 k2. k2.temporaries t ≡ Some v) w' (omega arith) (omega arith) one
      (keeps_put d x w k e address le) two (λ k2 a2 y. y)

-- ---- eof and eoln (6.6.6.5)

none_kind : (o : Option ℕ) → related Equal (Some (Numeral (kind_of o))) (Some (Numeral (pos 0))) ≡ Some
    (is_true (truth (is_none o)))
none_kind None = refl
none_kind (Some b) = go (b == 10)
  where
    go : (q : Bool) → related Equal (Some (Numeral (if q then pos 1 else pos 2))) (Some (Numeral (pos 0))) ≡ Some false
    go true = refl
    go false = refl

line_kind : (q : Bool) → related Equal (Some (Numeral (if q then pos 1 else pos 2))) (Some (Numeral (pos 1))) ≡ Some
    (is_true (truth q))
line_kind true = refl
line_kind false = refl

module _ (p : Setting) (n : ℕ) (call : Caller) (c : Activated) (active : IsActive p c) (calls : Callable p n call) where
  look_run : (d x : ℕ) (w : World) (k : Work) (pc mid pc' e t : ℕ) → d ≤ e → d ≤ t → Alive p c w k → outermost_of
      (chain_of c) ≡ 0
      → Stands (code_in p) c.routine pc (i.Offset e base.Program (input_offset (routine_at p.program 0)) 8 ∷ []) mid
      → Stands (code_in p) c.routine mid (i.Call t (length (code_in p).program + 13) (e ∷ []) 1 ∷ []) pc'
      → Reached p c d x w k (state p c w k pc) pc'
      (λ w' k'. k'.temporaries t ≡ Some (Numeral (kind_of (next_character w.input))))
      (with_input w (looked_at w.input) (look_marks w.input))
  look_run d x w k pc mid pc' e t le lt alive last st su =
      let scratch = (state p c w k pc).memory.scratch in
      let new = looked_at w.input in
      reader_run p c active d x w k pc mid pc' e t 13 (Numeral (kind_of (next_character w.input))) new
      (look_marks w.input) le lt alive alive.holds.input
      (calls.does.reads.look (FrameBlock 0) (input_place p) w.input (state p c w k pc).memory
      (memory_of p.program (reread w new) c.ghosts scratch) w.transcript
      (input_is p c active w k alive last scratch w.input) (input_looked p c active w k alive last scratch)
      (input_is p c active w k alive last scratch new)) st su

  pub eof_front : FrontRuns p n call c active Eof
  eof_front d x o w k pc pc' sort alive opened fits st =
      let e = even_from d in
      let o' = next_character w.input in
      let q = is_none o' in
      let w' = with_input w (looked_at w.input) (look_marks w.input) in
      let behind : length p.program.routines + 13 ≡ length (code_in p).program + 13 = ap (λ m. m + 13)
      (sym (length-map p.program.routines (tac_of p.program))) in
      let r = look_run d x w k pc (suc pc) pc' e d (even_above d) (omega arith) alive fits.1 (st.0, refl)
      (subst (λ m. Stands (code_in p) c.routine (suc pc) (i.Call d m (e ∷ []) 1 ∷ []) pc') behind st.1) in
      record {
        work = r.work;
        alive = r.alive;
        keeps = r.keeps;
        comes = r.comes;
        result = record {
          fits = subst (HasSort w'.made (OrdinalValue (truth q))) (sym fits.0) (truth_integer q);
          relates = λ s. ap (λ u. related Equal u (Some (Numeral (pos 0)))) r.result ∙ none_kind o';
          word = λ s. true_false s;
          number = λ s. fits.0;
          binary = λ s. (q, refl);
          binary_relation = λ s. (q, refl);
          byte = λ s. never s;
        };
      }

  pub eoln_front : (line : ℕ) → FrontRuns p n call c active (Eoln line)
  eoln_front line d x o w k pc pc' sort alive opened fits st =
      let e = even_from d in
      let w' = with_input w (looked_at w.input) (look_marks w.input) in
      let behind : length p.program.routines + 13 ≡ length (code_in p).program + 13 = ap (λ m. m + 13)
      (sym (length-map p.program.routines (tac_of p.program))) in
      let call_at = subst (λ m. Stands (code_in p) c.routine (suc pc) (i.Call d m (e ∷ []) 1 ∷ []) (suc (suc pc)))
      behind (st.1.0, refl) in
      let r = look_run d x w k pc (suc pc) (suc (suc pc)) e d (even_above d) (omega arith) alive fits.1
      (st.0, refl) call_at in
      runs_from p (suc n) c d x w w' k r.work pc (suc (suc pc)) pc' (value call (Eoln line) (context_in c o) w)
      (λ v w2 k2. FrontIn (Eoln line) d sort v w2.made k2.temporaries) r.comes r.keeps
      (go (next_character w.input) refl r)
    where
      go : (next : Option ℕ) → next_character w.input ≡ next
          → (r : Reached p c d x w k (state p c w k pc) (suc (suc pc))
          (λ w2 k2. k2.temporaries d ≡ Some (Numeral (kind_of (next_character w.input))))
          (with_input w (looked_at w.input) (look_marks w.input)))
          → Runs p (suc n) c d x (with_input w (looked_at w.input) (look_marks w.input)) r.work (suc (suc pc)) pc'
          (line_end next line (context_in c o) (with_input w (looked_at w.input) (look_marks w.input)))
          (λ v w2 k2. FrontIn (Eoln line) d sort v w2.made k2.temporaries)
      go None q r =
          let w' = with_input w (looked_at w.input) (look_marks w.input) in
          fails_so p (suc n) c active w' r.work (suc (suc pc)) 9 line (omega arith)
          (range_step (machine_of p) (state p c w' r.work (suc (suc pc))) d (pos 1) (pos 2) 9 line (pos 0) st.1.1.0
          (r.result ∙ ap (λ o'. Some (Numeral (kind_of o'))) q))
      go (Some b) q r =
          let w' = with_input w (looked_at w.input) (look_marks w.input) in
          let t = b == 10 in
          let word = r.result ∙ ap (λ o'. Some (Numeral (kind_of o'))) q in
          passes p (suc n) c d x w' r.work (suc (suc pc)) pc'
          (λ w2 k2. FrontIn (Eoln line) d sort (OrdinalValue (truth t)) w2.made k2.temporaries)
          (range_step (machine_of p) (state p c w' r.work (suc (suc pc))) d (pos 1) (pos 2) 9 line
          (kind_of (Some b)) st.1.1.0 word ∙ ap (λ z. checks (code_in p) z 9 line
          (state p c w' r.work (suc (suc pc)))) (kinds t)) st.1.1.1 r.alive
          (record {
            fits = subst (HasSort w'.made (OrdinalValue (truth t))) (sym fits.0) (truth_integer t);
            relates = λ s. ap (λ u. related Equal u (Some (Numeral (pos 1)))) word ∙ line_kind t;
            word = λ s. true_false s;
            number = λ s. fits.0;
            binary = λ s. (t, refl);
            binary_relation = λ s. (t, refl);
            byte = λ s. never s;
          })
        where
          kinds : (t : Bool) → is_in_range (pos 1) (pos 2) (if t then pos 1 else pos 2) ≡ true
          kinds true = refl
          kinds false = refl
