-- `read` of an integer (6.9.1).
use Rattle.ps_lower_constructs.proofs.Calling.{Callable}
use Rattle.std.proofs.Common.{◌≡◌, ℕ, zero, suc, ◌+◌, ◌<◌, ◌≤◌, ℤ, pos, neg_ℤ, Bool, true, false, ◌&&◌, ◌||◌, ◌==◌}
use Rattle.std.proofs.Common.{if◌then◌else◌, int_le, nat_eq, drop, take_while, List, [], ◌∷◌, ◌++◌, length, max}
use Rattle.std.proofs.Common.{get_or, slice_get, Some, None, sum_by, refl, sym, ap, ◌∙◌, subst, arith, lt-ltb}
use Rattle.std.proofs.Common.{append-nil}
use Rattle.std.specs.List.{All}
use Rattle.std.proofs.lemmas.Bool.{and_parts}
use Rattle.std.proofs.lemmas.List.{length-map}
use Rattle.behavior.specs.Endings.{failed}
use Rattle.ps_tree.specs.declared.tree.operators.Range.TheVariants.{Within}
use Rattle.ps_tree.specs.Tree.{Place, ReadInteger, routine_at}
use Rattle.tac_code.specs.declared.code.Block.TheVariants.{Frame as FrameBlock, Scratch as ScratchBlock}
use Rattle.tac_code.specs.declared.code.Value.{Value as Word}
use Rattle.tac_code.specs.declared.code.Value.TheVariants.{Number as Numeral, Address}
use Rattle.tac_code.specs.declared.code.Base.TheVariants as base
use Rattle.tac_code.specs.declared.code.Instruction.{Instruction}
use Rattle.tac_code.specs.declared.code.Instruction.TheVariants as i
use Rattle.tac_code.specs.Numbers.{is_integer, is_in_range}
use Rattle.tac_code.specs.Memory.{Words, Living, Memory, known, living, value_in, with_word, instead, behind, changed}
use Rattle.tac_code.specs.Memory.{with_scratch, store}
use Rattle.tac_code.specs.Meaning.{State, Temporaries, Over, put, values_of, and_more, checks, fetch, body_at}
use Rattle.tac_code.specs.Meaning.{open_calls, test_ending}
use Rattle.tac_code.specs.declared.code.TheConstants.{BLOCK_LIMIT}
use Rattle.ps_meaning.specs.Values.{Value, OrdinalValue, Spot}
use Rattle.ps_meaning.specs.Operators.{is_between}
use Rattle.ps_meaning.specs.Text.{Reading, Scanned, EndFound, NoInteger, Integer, after_blanks, after_sign, is_digit}
use Rattle.ps_meaning.specs.Text.{has_sign, number_written, is_empty, scan_integer, marks_to, after_integer}
use Rattle.ps_meaning.specs.Worlds.{World, and_then, give, fault, put as put_value, with_input}
use Rattle.ps_meaning.specs.Expressions.{Caller, access, fitting}
use Rattle.ps_meaning.specs.Statements.{Next, read, scan, integer_found}
use Rattle.tac_code_steps.specs.Runs.{Stands, Comes, Stops}
use Rattle.tac_code_steps.specs.Splices.{spliced}
use Rattle.tac_code_steps.proofs.Runs.{split, a_step, ◌>>◌, stops_now, comes_stops}
use Rattle.tac_code_steps.proofs.Pieces.{same_some, some_none}
use Rattle.tac_code_steps.proofs.Splices.{spliced_length, spliced_inside}
use Rattle.tac_code_steps.proofs.Blocks.{word_read, word_written}
use Rattle.tac_code_steps.proofs.Temporaries.{put_same, put_other}
use Rattle.tac_code_steps.proofs.Instructions.{offset_step, range_step, load_step}
use Rattle.tac_rt.specs.declared.run_time.RunTime.TheVariants.{ReadNumber}
use Rattle.ps_lower_layout.specs.Shapes.{NumberShape, PointerShape, SetShape, ByteShape, ArrayShape, RecordShape, Part}
use Rattle.ps_lower_layout.specs.Shapes.{Whole, Byte}
use Rattle.ps_lower_layout.specs.Frames.{input_offset}
use Rattle.ps_lower_layout.specs.Paths.{NumberSort}
use Rattle.tac_code.proofs.Impossible.{never}
use Rattle.tac_code.proofs.Numbers.{eq_same}
use Rattle.ps_lower_code.specs.Scopes.{beside, even_from, held, least, greatest, range_code, Site, site_code}
use Rattle.ps_lower_code.specs.Scopes.{input_site, helper}
use Rattle.ps_lower_code.specs.Values.{is_byte, place_temporary, place_site, place_code, store_code}
use Rattle.ps_lower_code.specs.Statements.{read_code}
use Rattle.ps_lower_code.specs.Routines.{routine_code}
use Rattle.ps_lower_code.specs.Programs.{meant_by, scratch_in, tac_of}
use Rattle.ps_lower_code.specs.Fits.{outermost_of, SortOf, RangeFits, ReadFits}
use Rattle.ps_lower_code.proofs.Depths.{held_above, even_above}
use Rattle.ps_lower_code.proofs.Gaps.{le_through}
use Rattle.ps_lower_relation.specs.Ghosts.{tape_of}
use Rattle.ps_lower_relation.specs.Here.{Setting, machine_of, code_in, costs_in, Work, Activated, chain_of, IsActive}
use Rattle.ps_lower_relation.specs.Here.{Alive, activation, state, IsBelow, SiteAt, Keeps}
use Rattle.ps_lower_relation.specs.Outcomes.{Runs}
use Rattle.ps_lower_relation.specs.Reading.{IntegerRead, NumberRead}
use Rattle.ps_lower_relation.specs.RunTime.{WritesDo}
use Rattle.ps_lower_relation.proofs.Numbers.{between_integers}
use Rattle.ps_lower_relation.proofs.Spots.{memory_of}
use Rattle.ps_lower_relation.proofs.Inputs.{reread}
use Rattle.ps_lower_constructs.specs.Openings.{Opening, scope_in, plain_scope, context_in, IsOpened}
use Rattle.ps_lower_constructs.specs.Tasks.{Nothing, NextRuns}
use Rattle.ps_lower_constructs.proofs.Runs.{with_temporary, runs_bind, runs_from, keeps_refl, keeps_less}
use Rattle.ps_lower_constructs.proofs.Kept.{opened_kept, site_kept}
use Rattle.ps_lower_constructs.proofs.Calls.{map_there}
use Rattle.ps_lower_constructs.proofs.Leaves.{IsLanguageError, ends_by}
use Rattle.ps_lower_constructs.proofs.Writes.{numbered_more, is_fresh}
use Rattle.ps_lower_constructs.proofs.Inputs.{input_place, place_small, input_is, input_renewed}
use Rattle.ps_lower_constructs.proofs.Selectors.{PlaceIn, is_byte_part, place_byte}
use Rattle.ps_lower_constructs.proofs.Expressions.{place_run}
use Rattle.ps_lower_constructs.proofs.Assignments.{fitted_part, base_below}
use Rattle.ps_lower_constructs.proofs.NewObjects.{place_held}

-- ---- what an instruction means of the scratch block

max_left : (a b n : ℕ) → n ≤ a → n ≤ max a b
max_left a b n l = omega (arith, l)

max_right : (a b n : ℕ) → n ≤ b → n ≤ max a b
max_right a b n l = omega (arith, l)

meant_within : (code : List Instruction) (k : ℕ) (j : Instruction) → slice_get code k ≡ Some j
    → meant_by j ≤ scratch_in code
meant_within [] k j e = some_none e
meant_within (x ∷ code) zero j e = max_left (meant_by x) (scratch_in code) (meant_by j)
    (let is = ap meant_by (same_some e) in omega (arith, is))
meant_within (x ∷ code) (suc k) j e = max_right (meant_by x) (scratch_in code) (meant_by j) (meant_within code k j e)

module _ (p : Setting) (c : Activated) (active : IsActive p c) where
  -- a word of the scratch block that an instruction speaks of is there
  scratch_there : (w : World) (k : Work) (pc t : ℕ) → Alive p c w k → fetch (code_in p) c.routine pc ≡ Some
      (i.Load t base.Scratch 0) → 0 < length k.scratch
  scratch_there w k pc t alive e =
      let r = routine_at p.program c.routine in
      let at : slice_get (routine_code p.program r) pc ≡ Some (i.Load t base.Scratch 0) = sym
      (ap (λ o. body_at o pc) (map_there p.program p.program.routines p.run_time c.routine active.within)) ∙ e in
      let l = meant_within (routine_code p.program r) pc (i.Load t base.Scratch 0) at in
      let room = alive.room in
      omega (arith, l, room)

  -- an error of the language in any state of this activation
  fails_here : (n : ℕ) (s : State) (pc : ℕ) (t : Temporaries) (a line number : ℕ) (low high z : ℤ) → s.current
      ≡ activation c pc t → s.callers ≡ c.callers → IsLanguageError number → fetch (code_in p) c.routine pc ≡ Some
      (i.CheckRange a low high number line) → t a ≡ Some (Numeral z) → is_in_range low high z ≡ false → Stops
      (machine_of p) n s (s.tape.transcript, failed number line c.calls)
  fails_here n s pc t a line number low high z here callers few at word out =
      let fetched : fetch (code_in p) s.current.routine s.current.place ≡ Some
      (i.CheckRange a low high number line) = ap (λ y. fetch (code_in p) y.routine y.place) here ∙ at in
      let told = ap (λ y. open_calls (length (code_in p).program) y s.callers) here
      ∙ ap (open_calls (length (code_in p).program) (activation c pc t)) callers ∙ active.told pc t in
      stops_now n s (failed number line c.calls) (λ more. more)
      (range_step (machine_of p) s a low high number line z fetched (ap (λ y. y.temporaries a) here ∙ word)
      ∙ ap (λ b. checks (code_in p) b number line s) out
      ∙ ap (λ calls. Over (test_ending number line calls)) told
      ∙ ap Over (ends_by number line c.calls few))

-- ---- what is left is bytes

drop_bytes : (k : ℕ) (xs : List ℕ) → All (λ b. b < 256) xs → All (λ b. b < 256) (drop k xs)
drop_bytes zero xs h = h
drop_bytes (suc k) [] h = h
drop_bytes (suc k) (x ∷ xs) h = drop_bytes k xs (λ i d l. h (suc i) d (omega (arith, l)))

blanks_bytes : (left : List ℕ) → All (λ b. b < 256) left → All (λ b. b < 256) (after_blanks left)
blanks_bytes [] h = h
blanks_bytes (b ∷ rest) h = go (b == 32 || b == 10) (blanks_bytes rest (λ i d l. h (suc i) d (omega (arith, l))))
  where
    go : (q : Bool) → All (λ b. b < 256) (after_blanks rest) → All (λ b. b < 256)
        (if q then after_blanks rest else b ∷ rest)
    go true r = r
    go false r = h

sign_bytes : (start : List ℕ) → All (λ b. b < 256) start → All (λ b. b < 256) (after_sign start)
sign_bytes start h = go (has_sign start 43 || has_sign start 45)
  where
    go : (q : Bool) → All (λ b. b < 256) (if q then drop 1 start else start)
    go true = drop_bytes 1 start h
    go false = h

scanned_bytes : (left : List ℕ) → All (λ b. b < 256) left → All (λ b. b < 256) (scan_integer left).rest
scanned_bytes left h = go (is_empty start) (is_empty written)
  where
    start : List ℕ
    start = after_blanks left

    unsigned : List ℕ
    unsigned = after_sign start

    written : List ℕ
    written = take_while is_digit unsigned

    picked : Bool → Bool → Scanned
    picked a b = if a then record {
      found = EndFound;
      rest = [];
    } else (if b then record {
      found = NoInteger;
      rest = unsigned;
    } else record {
      found = Integer (if has_sign start 45 then neg_ℤ (pos (number_written 0 written)) else pos
          (number_written 0 written));
      rest = drop (length written) unsigned;
    })

    go : (a b : Bool) → All (λ b. b < 256) (picked a b).rest
    go true b = λ i d l. absurd (omega (arith, l))
    go false true = sign_bytes start (blanks_bytes left h)
    go false false = drop_bytes (length written) unsigned (sign_bytes start (blanks_bytes left h))

none_known : {A : Type 0} {z : ℤ} → None ≡ Some z → A
none_known e = absurd (cc)

-- ---- ranges

-- no number outside the integers is in a range of integers
outside : (low high x : ℤ) → is_integer low ≡ true → is_integer high ≡ true → is_integer x ≡ false
    → is_between low x high ≡ false
outside low high x l h e = go (is_between low x high) refl
  where
    go : (b : Bool) → is_between low x high ≡ b → b ≡ false
    go false q = refl
    go true q =
        let a = and_parts (int_le low x) (int_le x high) q in
        let b = and_parts (int_le least low) (int_le low greatest) (between_integers low ∙ l) in
        let d = and_parts (int_le least high) (int_le high greatest) (between_integers high ∙ h) in
        let one = le_through least low x b.0 a.0 in
        let two = le_through x high greatest a.1 d.1 in
        let y : true ≡ false = sym (ap (λ t. t && int_le x greatest) one ∙ two) ∙ between_integers x ∙ e in
        absurd (cc)

range_integers : (low high : ℤ) (part : Part) → SortOf part NumberSort → RangeFits (Within low high) part → (x : ℤ)
    → is_integer x ≡ false → is_between low x high ≡ false
range_integers low high (Whole (NumberShape first narrow)) sorted ranged x e = outside low high x ranged.0 ranged.1 e
range_integers low high (Whole (PointerShape t)) sorted ranged x e = absurd ranged
range_integers low high (Whole SetShape) sorted ranged x e = absurd ranged
range_integers low high (Whole (ByteShape n first)) sorted ranged x e = absurd ranged
range_integers low high (Whole (ArrayShape n shape)) sorted ranged x e = absurd ranged
range_integers low high (Whole (RecordShape shapes)) sorted ranged x e = absurd ranged
range_integers low high Byte sorted ranged x e = outside low high x ranged.0 ranged.1 e

module _ (p : Setting) (n : ℕ) (call : Caller) (next : Next) (c : Activated) (active : IsActive p c)
    (nexts : NextRuns p n next) (does : WritesDo p) (calls : Callable p n call) where
  module _ (w : World) (k : Work) (pc e : ℕ) (room : 0 < length k.scratch) where
    abbrev rest : List ℕ
    rest = (scan_integer w.input.left).rest

    abbrev marks : List ℕ
    marks = marks_to w.input rest

    abbrev world : World
    world = with_input w (after_integer rest) marks

    abbrev scratch_as : Words → List Living
    scratch_as words = record { number = c.number; words = words } ∷ c.waiting

    abbrev middle : Memory
    middle = memory_of p.program (reread w (after_integer rest)) c.ghosts (scratch_as k.scratch)

    abbrev with_number : ℤ → Words
    with_number z = spliced 0 (Some (Numeral z) ∷ []) k.scratch

    -- the first word of the scratch block takes a number
    scratch_stored : (z : ℤ) → store middle (ScratchBlock c.number) 0 (Numeral z) ≡ Some
        (memory_of p.program (reread w (after_integer rest)) c.ghosts (scratch_as (with_number z)))
    scratch_stored z =
        let here : Living = record { number = c.number; words = k.scratch } in
        ap (λ q. with_scratch middle (if q then instead here c.waiting (with_word k.scratch 0 (Numeral z))
        else behind here (changed c.waiting c.number (λ ws. with_word ws 0 (Numeral z))))) (eq_same c.number)
        ∙ ap (λ o. with_scratch middle (instead here c.waiting o)) (word_written k.scratch 0 (Numeral z) room)

    -- what the routine left, at a place
    abbrev raw : (code : ℤ) → Memory → (place : ℕ) → State
    raw code after place =
        record {
          current = activation c place (put k.temporaries e (Numeral code));
          callers = c.callers;
          memory = after;
          count = suc k.count;
          heap = sum_by (λ t. get_or p.objects t 0) w.made;
          tape = tape_of (after_integer rest) (w.transcript ++ marks);
        }

    code_there : (code z : ℤ) → code ≡ z → put k.temporaries e (Numeral code) e ≡ Some (Numeral z)
    code_there code z q = put_same k.temporaries e (Numeral code) ∙ ap (λ y. Some (Numeral y)) q

    passes_test : (code z : ℤ) (after : Memory) (place line number : ℕ) (low high : ℤ) → code ≡ z
        → is_in_range low high z ≡ true → fetch (code_in p) c.routine place ≡ Some (i.CheckRange e low high number line)
        → Comes (machine_of p) (raw code after place) (raw code after (suc place))
    passes_test code z after place line number low high q in_ at =
        a_step (raw code after place) (raw code after (suc place))
        (range_step (machine_of p) (raw code after place) e low high number line z at (code_there code z q)
        ∙ ap (λ b. checks (code_in p) b number line (raw code after place)) in_)

    fails_test : (code z : ℤ) (after : Memory) (place line number : ℕ) (low high : ℤ) → code ≡ z
        → is_in_range low high z ≡ false → IsLanguageError number → fetch (code_in p) c.routine place ≡ Some
        (i.CheckRange e low high number line) → Stops (machine_of p) (suc n) (raw code after place)
        (w.transcript ++ marks, failed number line c.calls)
    fails_test code z after place line number low high q out few at = fails_here p c active (suc n)
        (raw code after place) place (put k.temporaries e (Numeral code)) e line number low high z refl refl few at
        (code_there code z q) out

    module _ (part : Part) (low high : ℤ) (line d h : ℕ) (o : Opening) (pc2 pc' : ℕ) (site : Site) (s : Spot)
        (l0 : d ≤ h) (l1 : suc h ≤ e) (below : IsBelow (suc h) site.base) (sorted : SortOf part NumberSort)
        (ranged : RangeFits (Within low high) part) (alive : Alive p c w k)
        (at : SiteAt p c w.made k.temporaries site s part) (bytes : All (λ b. b < 256) rest)
        (st : Stands (code_in p) c.routine (suc pc) (i.CheckRange e (pos 0) (pos 2) 9 line ∷ i.CheckRange e (pos 0)
        (pos 1) 10 line ∷ i.CheckRange e (pos 0) (pos 0) 4 line ∷ i.Load e base.Scratch 0 ∷ range_code e low high 4
        line) pc2)
        (su : Stands (code_in p) c.routine pc2 (store_code (is_byte_part p n call c active part) site e) pc') where
      abbrev kept_as : (x : ℤ) (code : ℤ) → Work
      kept_as x code = record {
        count = suc k.count;
        temporaries = put k.temporaries e (Numeral code);
        scratch = with_number x;
      }

      abbrev Goal : Value → World → Type 0
      Goal v w3 = Runs p (suc n) c d 0 w k pc pc'
          (and_then (fitting (Within low high) v line (context_in c o) w3) (λ u w4. put_value s u w4)) Nothing

      -- an integer of 32 bits is loaded, tested and stored
      integer_stored : (x code : ℤ) (after : Memory) → code ≡ pos 0 → is_integer x ≡ true → store middle
          (ScratchBlock c.number) 0 (Numeral x) ≡ Some after → Comes (machine_of p) (state p c w k pc)
          (raw code after (suc pc)) → Goal (OrdinalValue x) world
      integer_stored x code after none fit stored comes =
          let k4 = kept_as x code in
          let k5 = with_temporary k4 e (Numeral x) in
          let same : memory_of p.program (reread w (after_integer rest)) c.ghosts (scratch_as (with_number x))
          ≡ after = same_some (sym (scratch_stored x) ∙ stored) in
          let long = spliced_length 0 (Some (Numeral x) ∷ []) k.scratch in
          let four = suc (suc (suc (suc pc))) in
          let s4 = state p c world k4 four in
          let there : raw code after four ≡ s4 = ap (λ m. raw code m four) (sym same) in
          let loaded : value_in (if nat_eq c.number c.number then Some (with_number x) else living c.waiting c.number) 0
          ≡ Some (Numeral x) =
          ap (λ b. value_in (if b then Some (with_number x) else living c.waiting c.number) 0) (eq_same c.number)
          ∙ word_read (with_number x) 0 ∙ ap known
          (spliced_inside 0 (Some (Numeral x) ∷ []) k.scratch 0 (omega arith) (omega (arith, room))) in
          let go_on : Comes (machine_of p) (state p c w k pc) (state p c world k5 (suc four)) =
          comes
          >> passes_test code (pos 0) after (suc pc) line 9 (pos 0) (pos 2) none refl st.0
          >> passes_test code (pos 0) after (suc (suc pc)) line 10 (pos 0) (pos 1) none refl st.1.0
          >> passes_test code (pos 0) after (suc (suc (suc pc))) line 4 (pos 0) (pos 0) none refl st.1.1.0
          >> subst (λ y. Comes (machine_of p) y (state p c world k5 (suc four))) (sym there)
          (a_step s4 (state p c world k5 (suc four))
          (load_step (machine_of p) s4 e base.Scratch 0 (ScratchBlock c.number) 0
          (Numeral x) st.1.1.1.0 refl loaded)) in
          let alive5 : Alive p c world k5 = record {
            holds = record {
              fits = alive.holds.fits;
              objects = alive.holds.objects;
              names = alive.holds.names;
              numbered = numbered_more c.ghosts k.count (suc k.count) (omega arith) alive.holds.numbered;
              input = bytes;
            };
            stands = alive.stands;
            room = long ∙ alive.room;
          } in
          let kept : Keeps e 0 w k world k5 = record {
            temporaries = λ j b. let ne : j ≡ e → ⊥ = λ q. omega (arith, b, q) in put_other k4.temporaries e
                (Numeral x) j ne ∙ put_other k.temporaries e (Numeral code) j ne;
            scratch = λ j b. absurd (omega (arith, b));
            grown = ([], sym (append-nil w.made));
          } in
          runs_from p (suc n) c d 0 w world k k5 pc (suc four) pc'
          (and_then (fitting (Within low high) (OrdinalValue x) line (context_in c o) world)
          (λ u w4. put_value s u w4)) Nothing go_on (keeps_less d 0 e 0 (omega (arith, l0, l1)) (omega arith) kept)
          (fitted_part p n call next c active nexts does calls (Within low high) part NumberSort
          (OrdinalValue x) d world k5 o (suc four) pc2 pc' e line false None site s (omega (arith, l0, l1))
          (base_below p n call next c active nexts does calls (suc h) (suc e) site.base (omega (arith, l1)) below)
          sorted ranged alive5 (site_kept p c e 0 w world k k5 site s part
          (base_below p n call next c active nexts does calls (suc h) e site.base l1 below) kept at)
          (record {
            word = put_same k4.temporaries e (Numeral x);
            fits = fit;
          }) (λ q. never q) (λ z qs ql. none_known ql) st.1.1.1.1 su)

      -- what was found, or not
      number_done : (found : Reading) (code : ℤ) (after : Memory) → NumberRead middle
          (ScratchBlock c.number) 0 found code after → Comes (machine_of p) (state p c w k pc) (raw code after (suc pc))
          → Runs p (suc n) c d 0 w k pc pc' (and_then (integer_found found line (context_in c o) world)
          (λ v w3. and_then (fitting (Within low high) v line (context_in c o) w3) (λ u w4. put_value s u w4)))
          Nothing
      number_done EndFound code after read comes = comes_stops comes
          (fails_test code (pos 3) after (suc pc) line 9 (pos 0) (pos 2) read refl (omega arith) st.0)
      number_done NoInteger code after read comes =
          comes_stops (comes >> passes_test code (pos 2) after (suc pc) line 9 (pos 0) (pos 2) read refl st.0)
          (fails_test code (pos 2) after (suc (suc pc)) line 10 (pos 0) (pos 1) read refl (omega arith) st.1.0)
      number_done (Integer x) code after read comes = go (is_integer x) refl read
        where
          go : (b : Bool) → is_integer x ≡ b → IntegerRead b middle (ScratchBlock c.number) 0 x code after → Goal
              (OrdinalValue x) world
          go true q r = integer_stored x code after r.0 q r.1 comes
          go false q r =
              subst (λ b. Runs p (suc n) c d 0 w k pc pc'
              (and_then ((if b then give (OrdinalValue x) else fault 4 line (context_in c o)) world)
              (λ u w4. put_value s u w4)) Nothing) (sym (range_integers low high part sorted ranged x q))
              (comes_stops (comes >> passes_test code (pos 1) after (suc pc) line 9 (pos 0)
              (pos 2) r refl st.0 >> passes_test code (pos 1) after (suc (suc pc)) line 10 (pos 0)
              (pos 1) r refl st.1.0)
              (fails_test code (pos 1) after (suc (suc (suc pc))) line 4 (pos 0) (pos 0) r refl (omega arith) st.1.1.0))

  pub read_integer_run : (q : Place) (low high : ℤ) (line d : ℕ) (o : Opening) (w : World) (k : Work) (pc pc' : ℕ)
      → Alive p c w k → IsOpened p c w k d o → outermost_of (chain_of c) ≡ 0 → ReadFits (plain_scope p c) o.shapes
      (ReadInteger q low high line) → Stands (code_in p) c.routine pc
      (read_code (scope_in p c o) (ReadInteger q low high line) d) pc' → Runs p (suc n) c d 0 w k pc pc'
      (read p.program (costs_in p) call next (ReadInteger q low high line) (context_in c o) w) Nothing
  read_integer_run q low high line d o w k pc pc' alive opened last fits st =
      let code = scope_in p c o in
      let ctx = context_in c o in
      let h = held true d in
      let l0 : d ≤ h = held_above true d in
      let e = even_from (suc h) in
      let l1 : suc h ≤ e = even_above (suc h) in
      let f = beside e in
      let site = place_site code q h in
      let part = fits.0 in
      let P = place_code code q h 0 in
      let S = site_code e (input_site code) 8 in
      let H = i.Offset f base.Scratch 0 4 ∷ helper code ReadNumber (e ∷ f ∷ []) e ∷ i.CheckRange e (pos 0)
      (pos 2) 9 line ∷ i.CheckRange e (pos 0) (pos 1) 10 line ∷ i.CheckRange e (pos 0) (pos 0) 4 line
      ∷ i.Load e base.Scratch 0 ∷ range_code e low high 4 line in
      let cut3 = split (code_in p) c.routine pc (P ++ S ++ H) (store_code (is_byte q) site e) pc' st in
      let cut2 = split (code_in p) c.routine pc (P ++ S) H cut3.0 cut3.1 in
      let cut1 = split (code_in p) c.routine pc P S cut2.0 cut2.1 in
      let behind : length p.program.routines + 15 ≡ length (code_in p).program + 15 = ap (λ m. m + 15)
      (sym (length-map p.program.routines (tac_of p.program))) in
      let call_at = subst (λ m. fetch (code_in p) c.routine (suc cut2.0) ≡ Some (i.Call e m (e ∷ f ∷ []) 1)) behind
      cut2.2.1.0 in
      runs_bind p (suc n) c d 0 h 0 d 0 w k pc cut1.0 pc' (access call q ctx w)
      (λ s w1. and_then (scan w1) (λ found w2. and_then (integer_found found line ctx w2)
      (λ v w3. and_then (fitting (Within low high) v line ctx w3) (λ u w4. put_value s u w4))))
      (λ s w' k'. PlaceIn p n call c active site (place_temporary q h) s part w' k') Nothing l0 (omega arith)
      (omega arith) (omega arith)
      (place_run p n call c active calls q h 0 o w k pc cut1.0 part alive
      (opened_kept p c d 0 h w w k k o l0 (keeps_refl d 0 w k) opened) fits.1 cut1.1)
      (λ s w1 k1 alive1 kept1 r1.
      let address : Word = Address (FrameBlock 0) (input_place p) in
      let own : Word = Address (ScratchBlock c.number) 0 in
      let k2 = with_temporary k1 e address in
      let k3 = with_temporary k2 f own in
      let ne : e ≡ f → ⊥ = λ y. omega (arith, y) in
      let alive3 : Alive p c w1 k3 = record { holds = alive1.holds; stands = alive1.stands; room = alive1.room } in
      let one : Comes (machine_of p) (state p c w1 k1 cut1.0) (state p c w1 k2 cut2.0) = subst
      (λ z. Comes (machine_of p) (state p c w1 k1 cut1.0) (state p c w1 k2 z)) cut1.2.1
      (a_step (state p c w1 k1 cut1.0) (state p c w1 k2 (suc cut1.0))
      (offset_step (machine_of p) (state p c w1 k1 cut1.0) e base.Program (input_offset (routine_at p.program 0)) 8
      (FrameBlock 0) 0 cut1.2.0 refl (lt-ltb (input_place p) BLOCK_LIMIT (place_small p c active)))) in
      let two : Comes (machine_of p) (state p c w1 k2 cut2.0) (state p c w1 k3 (suc cut2.0)) = a_step
      (state p c w1 k2 cut2.0) (state p c w1 k3 (suc cut2.0))
      (offset_step (machine_of p) (state p c w1 k2 cut2.0) f base.Scratch 0 4
      (ScratchBlock c.number) 0 cut2.2.0 refl refl) in
      let kept3 : Keeps e 0 w1 k1 w1 k3 = record {
        temporaries = λ j b. let n1 : j ≡ f → ⊥ = λ y. omega (arith, b, y) in let n2 : j ≡ e → ⊥ = λ y. omega
            (arith, b, y) in put_other k2.temporaries f own j n1 ∙ put_other k1.temporaries e address j n2;
        scratch = λ j b. refl;
        grown = ([], sym (append-nil w1.made));
      } in
      let room = scratch_there p c active w1 k3 (suc (suc (suc (suc (suc cut2.0))))) e alive3 cut2.2.1.1.1.1.1.0 in
      let s3 = state p c w1 k3 (suc cut2.0) in
      let new = after_integer (rest w1 k3 (suc cut2.0) e room) in
      let values : values_of k3.temporaries (e ∷ f ∷ []) ≡ Some (address ∷ own ∷ []) =
      ap (λ v. and_more v (and_more (k3.temporaries f) (Some [])))
      (put_other k2.temporaries f own e ne ∙ put_same k1.temporaries e address)
      ∙ ap (λ v. and_more (Some address) (and_more v (Some []))) (put_same k2.temporaries f own) in
      let r = does.reads.number (FrameBlock 0) (input_place p) (ScratchBlock c.number) 0 w1.input
      (middle w1 k3 (suc cut2.0) e room) w1.transcript s3 e 1 (e ∷ f ∷ []) refl
      (input_is p c active w1 k3 alive3 last s3.memory.scratch w1.input) alive1.holds.input
      (input_renewed p c active w1 k3 alive3 last s3.memory.scratch new)
      (λ z. (
        memory_of p.program (reread w1 new) c.ghosts
            (scratch_as w1 k3 (suc cut2.0) e room (with_number w1 k3 (suc cut2.0) e room z)),
        scratch_stored w1 k3
            (suc cut2.0) e room z,
      )) (is_fresh p c active w1 k3 (suc cut2.0) alive3) values call_at in
      let below = subst (λ z. IsBelow (suc z) site.base) (place_held q d) r1.1 in
      let at = site_kept p c e 0 w1 w1 k1 k3 site s part
      (base_below p n call next c active nexts does calls (suc h) e site.base l1 below) kept3 r1.0 in
      runs_from p (suc n) c d 0 w1 w1 k1 k3 cut1.0 (suc cut2.0) pc'
      (and_then (scan w1) (λ found w2. and_then (integer_found found line ctx w2)
      (λ v w3. and_then (fitting (Within low high) v line ctx w3) (λ u w4. put_value s u w4)))) Nothing (one >> two)
      (keeps_less d 0 e 0 (omega (arith, l0, l1)) (omega arith) kept3)
      (number_done w1 k3 (suc cut2.0) e room part low high line d h o cut3.0 pc' site s l0 l1 below fits.2 fits.3 alive3
      at (scanned_bytes w1.input.left alive1.holds.input) cut2.2.1.1
      (subst (λ b. Stands (code_in p) c.routine cut3.0 (store_code b site e) pc')
      (place_byte p n call c active o q part fits.1) cut3.2)
      (scan_integer w1.input.left).found r.code r.after r.read r.comes))
