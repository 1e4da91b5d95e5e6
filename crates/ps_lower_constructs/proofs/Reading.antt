-- `read` and `readln` (6.9.1, 6.9.2).
use Rattle.ps_lower_constructs.proofs.Calling.{Callable}
use Rattle.std.proofs.Common.{◌≡◌, ℕ, suc, ◌+◌, ◌-◌, ◌<◌, ◌≤◌, ℤ, pos, negsuc, Bool, true, false, not, ◌&&◌, ◌==◌}
use Rattle.std.proofs.Common.{nat_lt, if◌then◌else◌, List, [], ◌∷◌, ◌++◌, length, replicate, Option, Some, None, refl}
use Rattle.std.proofs.Common.{sym, ap, ◌∙◌, subst, arith, lt-ltb, append_assoc}
use Rattle.std.specs.List.{All}
use Rattle.std.proofs.lemmas.Bool.{le-ltb}
use Rattle.std.proofs.lemmas.List.{length-map}
use Rattle.behavior.specs.Transcripts.{mark}
use Rattle.behavior.specs.Endings.{failed}
use Rattle.tac_code.specs.Numbers.{is_in_range}
use Rattle.ps_tree.specs.declared.tree.operators.Range.TheVariants.{Within}
use Rattle.ps_tree.specs.Tree.{ReadVariable, ReadChar, ReadInteger, Read, Readln}
use Rattle.tac_code.specs.declared.code.Block.TheVariants.{Frame as FrameBlock}
use Rattle.tac_code.specs.declared.code.Value.TheVariants.{Number as Numeral}
use Rattle.tac_code.specs.declared.code.Instruction.TheVariants as i
use Rattle.tac_code.specs.Meaning.{checks}
use Rattle.tac_code.specs.declared.code.TheConstants.{NUMBER_LIMIT}
use Rattle.ps_meaning.specs.Values.{OrdinalValue, Spot}
use Rattle.ps_meaning.specs.Text.{Input, next_of, next_character, looked_at, look_marks, taken, taken_from}
use Rattle.ps_meaning.specs.Text.{as_character, has_line_end, after_line_end, after_line, line_marks}
use Rattle.ps_meaning.specs.Worlds.{World, and_then, done, put as put_value, with_input, look}
use Rattle.ps_meaning.specs.Expressions.{Caller, access, fitting}
use Rattle.ps_meaning.specs.Statements.{Next, read, reads, character_read, line_read}
use Rattle.tac_code_steps.specs.Runs.{Stands, Stops}
use Rattle.tac_code_steps.proofs.Runs.{split, a_step}
use Rattle.tac_code_steps.proofs.Pieces.{same_some, some_none}
use Rattle.tac_code_steps.proofs.Instructions.{range_step}
use Rattle.tac_rt.specs.declared.run_time.RunTime.TheVariants.{ReadCharacter, ReadLine}
use Rattle.ps_lower_layout.specs.Shapes.{Part}
use Rattle.ps_lower_layout.specs.Paths.{NumberSort}
use Rattle.ps_lower_code.specs.Scopes.{even_from, held, greatest, fitting_code, Site, site_code, input_site}
use Rattle.ps_lower_code.specs.Scopes.{helper}
use Rattle.ps_lower_code.specs.Values.{is_byte, place_temporary, place_site, place_code, store_code}
use Rattle.ps_lower_code.specs.Statements.{read_code, reads_code}
use Rattle.ps_lower_code.specs.Programs.{tac_of}
use Rattle.ps_lower_code.specs.Fits.{outermost_of, SortOf, RangeFits, ReadFits, ReadsFit}
use Rattle.ps_lower_code.proofs.Depths.{held_above, even_above}
use Rattle.ps_lower_relation.specs.Here.{Setting, machine_of, code_in, costs_in, Work, Activated, chain_of, IsActive}
use Rattle.ps_lower_relation.specs.Here.{Alive, state, IsBelow, SiteAt}
use Rattle.ps_lower_relation.specs.Outcomes.{Reached, Runs}
use Rattle.ps_lower_relation.specs.Reading.{character_or_end, nothing_left}
use Rattle.ps_lower_relation.specs.RunTime.{WritesDo}
use Rattle.ps_lower_relation.proofs.Spots.{memory_of}
use Rattle.ps_lower_relation.proofs.Inputs.{reread}
use Rattle.ps_lower_constructs.specs.Openings.{Opening, scope_in, plain_scope, context_in, IsOpened}
use Rattle.ps_lower_constructs.specs.Tasks.{Nothing, NextRuns}
use Rattle.ps_lower_constructs.proofs.Runs.{runs_bind, runs_from, here, passes, keeps_refl, keeps_less}
use Rattle.ps_lower_constructs.proofs.Kept.{opened_kept, site_kept}
use Rattle.ps_lower_constructs.proofs.Leaves.{fails_so}
use Rattle.ps_lower_constructs.proofs.Checks.{byte_between}
use Rattle.ps_lower_constructs.proofs.Inputs.{input_place, input_is, input_renewed, reader_run}
use Rattle.ps_lower_constructs.proofs.Selectors.{PlaceIn, is_byte_part, place_byte}
use Rattle.ps_lower_constructs.proofs.Expressions.{place_run}
use Rattle.ps_lower_constructs.proofs.Statements.{StatementRuns}
use Rattle.ps_lower_constructs.proofs.Assignments.{fitted_part, base_below}
use Rattle.ps_lower_constructs.proofs.NewObjects.{place_held}
use Rattle.ps_lower_constructs.proofs.ReadNumbers.{read_integer_run}

-- ---- what is left is bytes

abbrev AreBytes : List ℕ → Type 0
AreBytes bytes = All (λ b. b < 256) bytes

no_bytes : AreBytes []
no_bytes i d l = absurd (omega (arith, l))

rest_bytes : (b : ℕ) (rest : List ℕ) → AreBytes (b ∷ rest) → AreBytes rest
rest_bytes b rest h i d l = h (suc i) d (omega (arith, l))

taken_bytes : (left : List ℕ) → AreBytes left → AreBytes (taken_from left).left
taken_bytes [] h = no_bytes
taken_bytes (b ∷ rest) h = rest_bytes b rest h

line_end_bytes : (left : List ℕ) → AreBytes left → AreBytes (after_line_end left)
line_end_bytes [] h = no_bytes
line_end_bytes (b ∷ rest) h = go (b == 10) (line_end_bytes rest (rest_bytes b rest h))
  where
    go : (q : Bool) → AreBytes (after_line_end rest) → AreBytes (if q then rest else after_line_end rest)
    go true r = rest_bytes b rest h
    go false r = r

line_bytes : (i : Input) → AreBytes i.left → AreBytes (after_line i).left
line_bytes i h = go (has_line_end i.left)
  where
    behind : Bool → Input
    behind q = if q then record {
      left = after_line_end i.left;
      looked = false;
      in_line = false;
    } else record {
      left = [];
      looked = true;
      in_line = false;
    }

    go : (q : Bool) → AreBytes (behind q).left
    go true = line_end_bytes i.left h
    go false = no_bytes

-- a character that is read is a byte
character_small : (left : List ℕ) (in_line : Bool) (b : ℕ) → AreBytes left → next_of left in_line ≡ Some b
    → as_character b < 256
character_small left in_line b h e = go (b == 10) (small left in_line h e)
  where
    go : (q : Bool) → b < 256 → (if q then 32 else b) < 256
    go true l = omega arith
    go false l = l

    ten : (in_line : Bool) → (if in_line then Some 10 else None) ≡ Some b → b < 256
    ten true e = let is = same_some e in omega (arith, is)
    ten false e = some_none e

    small : (left : List ℕ) (in_line : Bool) → AreBytes left → next_of left in_line ≡ Some b → b < 256
    small [] in_line h e = ten in_line e
    small (a ∷ rest) in_line h e = let is = same_some e in let l = h 0 0 (omega arith) in omega (arith, is, l)

-- a look, and the marks of a line after it
line_looked : (i : Input) (transcript : List ℕ) → (transcript ++ look_marks i) ++ line_marks (looked_at i) ≡ transcript
    ++ line_marks i
line_looked i transcript = append_assoc transcript (look_marks i) (line_marks (looked_at i))
    ∙ ap (λ xs. transcript ++ xs) (go i.left i.looked)
  where
    Marks : List ℕ → Bool → Bool → List ℕ
    Marks left q looked = if q then replicate
        ((length left - length (after_line_end left)) - (if looked then 1 else 0)) mark else replicate
        (length left - 0 + (if looked then 0 else 1)) mark

    shorter : (b : ℕ) (rest : List ℕ) → length (after_line_end (b ∷ rest)) ≤ length rest
    shorter b [] = step (b == 10)
      where
        nothing : List ℕ
        nothing = []

        step : (q : Bool) → length (if q then nothing else nothing) ≤ 0
        step true = omega arith
        step false = omega arith
    shorter b (a ∷ rest) = step (b == 10) (shorter a rest)
      where
        step : (q : Bool) → length (after_line_end (a ∷ rest)) ≤ length rest → length
            (if q then a ∷ rest else after_line_end (a ∷ rest)) ≤ suc (length rest)
        step true l = omega arith
        step false l = omega (arith, l)

    go : (left : List ℕ) (looked : Bool) → (if looked then [] else mark ∷ []) ++ Marks left (has_line_end left) true
        ≡ Marks left (has_line_end left) looked
    go left true = refl
    go [] false = refl
    go (b ∷ rest) false = cases (has_line_end (b ∷ rest))
      where
        cases : (q : Bool) → mark ∷ Marks (b ∷ rest) q true ≡ Marks (b ∷ rest) q false
        cases true =
            let l = shorter b rest in
            let n = length (after_line_end (b ∷ rest)) in
            let e : suc ((suc (length rest) - n) - 1) ≡ (suc (length rest) - n) - 0 = omega (arith, l) in
            ap (λ m. replicate m mark) e
        cases false = let e : suc (suc (length rest) - 0 + 0) ≡ suc (length rest) - 0 + 1 = omega arith
            in ap (λ m. replicate m mark) e

-- where nothing is left, a look is all
none_marks : (i : Input) → next_character i ≡ None → line_marks i ≡ look_marks i
none_marks i e = go i.left i.looked e
  where
    go : (left : List ℕ) (looked : Bool) → next_of left i.in_line ≡ None
        → (if has_line_end left then replicate ((length left - length (after_line_end left)) -
        (if looked then 1 else 0)) mark else replicate (length left - 0 + (if looked then 0 else 1)) mark)
        ≡ (if looked then [] else mark ∷ [])
    go [] true e = refl
    go [] false e = refl
    go (b ∷ rest) looked e = some_none (sym e)

byte_there : (a : ℕ) → a < 256 → is_in_range (pos 0) greatest (pos a) ≡ true
byte_there a l = ap (λ t. not t && not (nat_lt (NUMBER_LIMIT - 1) a)) (le-ltb a 0 (omega arith)) ∙ ap (λ t. not t)
    (le-ltb (NUMBER_LIMIT - 1) a (omega (arith, l)))

none_known : {A : Type 0} {z : ℤ} → None ≡ Some z → A
none_known e = absurd (cc)

module _ (p : Setting) (n : ℕ) (call : Caller) (next : Next) (c : Activated) (active : IsActive p c)
    (nexts : NextRuns p n next) (does : WritesDo p) (calls : Callable p n call) where
  -- the world after a look, after a character and after a line
  abbrev with_look : World → World
  with_look w = with_input w (looked_at w.input) (look_marks w.input)

  abbrev with_character : World → World
  with_character w = with_input w (taken w.input) (look_marks w.input)

  abbrev with_line : World → List ℕ → World
  with_line w transcript = record w { input = after_line w.input; transcript = transcript }

  -- a character that was read is tested and stored
  character_stored : (part : Part) (low high : ℤ) (line d h e : ℕ) (o : Opening) (pc1 pc2 pc' : ℕ) (site : Site)
      (s : Spot) (w : World) (k : Work) → d ≤ h → suc h ≤ e → IsBelow (suc h) site.base → SortOf part NumberSort
      → RangeFits (Within low high) part → Alive p c (with_character w) k → SiteAt p c w.made k.temporaries site s part
      → AreBytes w.input.left → (character : Option ℕ) → next_character w.input ≡ character → k.temporaries e ≡ Some
      (Numeral (character_or_end character))
      → Stands (code_in p) c.routine pc1 (i.CheckRange e (pos 0) greatest 9 line ∷ fitting_code true None e
      (Within low high) line) pc2 → Stands (code_in p) c.routine pc2
      (store_code (is_byte_part p n call c active part) site e) pc'
      → Runs p (suc n) c d 0 (with_character w) k pc1 pc'
      (and_then (character_read character line (context_in c o) (with_look w))
      (λ x w3. and_then (fitting (Within low high) x line (context_in c o) w3) (λ v w4. put_value s v w4))) Nothing
  character_stored part low high line d h e o pc1 pc2 pc' site s w k l0 l1 below sorted ranged alive at bytes None q
      word st su =
      fails_so p (suc n) c active (with_character w) k pc1 9 line (omega arith)
      (range_step (machine_of p) (state p c (with_character w) k pc1) e (pos 0) greatest 9 line
      (negsuc 0) st.0 word)
  character_stored part low high line d h e o pc1 pc2 pc' site s w k l0 l1 below sorted ranged alive at bytes
      (Some b) q word st su =
      let a = as_character b in
      let small = character_small w.input.left w.input.in_line b bytes q in
      let w2 = with_character w in
      let v = OrdinalValue (pos a) in
      let step = range_step (machine_of p) (state p c w2 k pc1) e (pos 0) greatest 9 line (pos a) st.0 word
      ∙ ap (λ z. checks (code_in p) z 9 line (state p c w2 k pc1)) (byte_there a small) in
      runs_from p (suc n) c d 0 w2 w2 k k pc1 (suc pc1) pc'
      (and_then (fitting (Within low high) v line (context_in c o) w2) (λ u w4. put_value s u w4)) Nothing
      (a_step (state p c w2 k pc1) (state p c w2 k (suc pc1)) step) (keeps_refl d 0 w2 k)
      (fitted_part p n call next c active nexts does calls (Within low high) part NumberSort v d w2 k o
      (suc pc1) pc2 pc' e line true None site s (omega (arith, l0, l1))
      (base_below p n call next c active nexts does calls (suc h) (suc e) site.base (omega (arith, l1)) below)
      sorted ranged alive at
      (record {
        word = word;
        fits = lt-ltb a NUMBER_LIMIT (omega (arith, small));
      }) (λ q. byte_between a small) (λ z qs ql. none_known ql) st.1 su)

  read_run : (v : ReadVariable) (d : ℕ) (o : Opening) (w : World) (k : Work) (pc pc' : ℕ) → Alive p c w k
      → IsOpened p c w k d o → outermost_of (chain_of c) ≡ 0 → ReadFits (plain_scope p c) o.shapes v → Stands
      (code_in p) c.routine pc (read_code (scope_in p c o) v d) pc' → Runs p (suc n) c d 0 w k pc pc'
      (read p.program (costs_in p) call next v (context_in c o) w) Nothing
  read_run (ReadInteger q low high line) d o w k pc pc' alive opened last fits st = read_integer_run p n call next c
      active nexts does calls q low high line d o w k pc pc' alive opened last fits st
  read_run (ReadChar q low high line) d o w k pc pc' alive opened last fits st =
      let code = scope_in p c o in
      let ctx = context_in c o in
      let h = held true d in
      let l0 : d ≤ h = held_above true d in
      let e = even_from (suc h) in
      let l1 : suc h ≤ e = even_above (suc h) in
      let site = place_site code q h in
      let part = fits.0 in
      let P = place_code code q h 0 in
      let S = site_code e (input_site code) 8 in
      let H = helper code ReadCharacter (e ∷ []) e ∷ i.CheckRange e (pos 0) greatest 9 line ∷ fitting_code true None e
      (Within low high) line in
      let cut3 = split (code_in p) c.routine pc (P ++ S ++ H) (store_code (is_byte q) site e) pc' st in
      let cut2 = split (code_in p) c.routine pc (P ++ S) H cut3.0 cut3.1 in
      let cut1 = split (code_in p) c.routine pc P S cut2.0 cut2.1 in
      let behind : length p.program.routines + 14 ≡ length (code_in p).program + 14 = ap (λ m. m + 14)
      (sym (length-map p.program.routines (tac_of p.program))) in
      let call_at = subst (λ m. Stands (code_in p) c.routine cut2.0 (i.Call e m (e ∷ []) 1 ∷ []) (suc cut2.0)) behind
      (cut2.2.0, refl) in
      runs_bind p (suc n) c d 0 h 0 d 0 w k pc cut1.0 pc' (access call q ctx w)
      (λ s w1. and_then (look w1) (λ b w2. and_then (character_read b line ctx w2)
      (λ x w3. and_then (fitting (Within low high) x line ctx w3) (λ u w4. put_value s u w4))))
      (λ s w' k'. PlaceIn p n call c active site (place_temporary q h) s part w' k') Nothing l0 (omega arith)
      (omega arith) (omega arith)
      (place_run p n call c active calls q h 0 o w k pc cut1.0 part alive
      (opened_kept p c d 0 h w w k k o l0 (keeps_refl d 0 w k) opened) fits.1 cut1.1)
      (λ s w1 k1 alive1 kept1 r1.
      let scratch = (state p c w1 k1 cut1.0).memory.scratch in
      let new = taken w1.input in
      let law = does.reads.character (FrameBlock 0) (input_place p) w1.input (state p c w1 k1 cut1.0).memory
      (memory_of p.program (reread w1 new) c.ghosts scratch) w1.transcript
      (input_is p c active w1 k1 alive1 last scratch w1.input)
      (input_renewed p c active w1 k1 alive1 last scratch new) in
      let r = reader_run p c active e 0 w1 k1 cut1.0 cut2.0 (suc cut2.0) e e 14
      (Numeral (character_or_end (next_character w1.input))) new (look_marks w1.input) (omega arith)
      (omega arith) alive1 (taken_bytes w1.input.left alive1.holds.input) law cut1.2 call_at in
      let w2 = with_character w1 in
      let below = subst (λ z. IsBelow (suc z) site.base) (place_held q d) r1.1 in
      let at = site_kept p c e 0 w1 w2 k1 r.work site s part
      (base_below p n call next c active nexts does calls (suc h) e site.base l1 below) r.keeps r1.0 in
      runs_from p (suc n) c d 0 w1 w2 k1 r.work cut1.0 (suc cut2.0) pc'
      (and_then (character_read (next_character w1.input) line ctx (with_look w1))
      (λ x w3. and_then (fitting (Within low high) x line ctx w3) (λ u w4. put_value s u w4))) Nothing r.comes
      (keeps_less d 0 e 0 (omega (arith, l0, l1)) (omega arith) r.keeps)
      (character_stored part low high line d h e o
      (suc cut2.0) cut3.0 pc' site s w1 r.work l0 l1 below fits.2 fits.3 r.alive at alive1.holds.input
      (next_character w1.input) refl r.result cut2.2.1
      (subst (λ b. Stands (code_in p) c.routine cut3.0 (store_code b site e) pc')
      (place_byte p n call c active o q part fits.1) cut3.2)))

  reads_run : (vs : List ReadVariable) (d : ℕ) (o : Opening) (w : World) (k : Work) (pc pc' : ℕ) → Alive p c w k
      → IsOpened p c w k d o → outermost_of (chain_of c) ≡ 0 → ReadsFit (plain_scope p c) o.shapes vs → Stands
      (code_in p) c.routine pc (reads_code (scope_in p c o) vs d) pc' → Runs p (suc n) c d 0 w k pc pc'
      (reads p.program (costs_in p) call next vs (context_in c o) w) Nothing
  reads_run [] d o w k pc pc' alive opened last fits st = here p (suc n) c d 0 w k pc pc' (Nothing done) st alive tt
  reads_run (v ∷ rest) d o w k pc pc' alive opened last fits st =
      let ctx = context_in c o in
      let cut = split (code_in p) c.routine pc (read_code (scope_in p c o) v d)
      (reads_code (scope_in p c o) rest d) pc' st in
      runs_bind p (suc n) c d 0 d 0 d 0 w k pc cut.0 pc' (read p.program (costs_in p) call next v ctx w)
      (λ u w1. reads p.program (costs_in p) call next rest ctx w1) Nothing Nothing (omega arith) (omega arith)
      (omega arith) (omega arith)
      (read_run v d o w k pc cut.0 alive opened last fits.0 cut.1)
      (λ u w1 k1 alive1 kept1 y. reads_run rest d o w1 k1 cut.0 pc' alive1
      (opened_kept p c d 0 d w w1 k k1 o (omega arith) kept1 opened) last fits.1 cut.2)

  pub read_statement_run : (vs : List ReadVariable) → StatementRuns p n call next c active nexts does calls (Read vs)
  read_statement_run vs d o w k pc pc' alive opened fits st = reads_run vs d o w k pc pc' alive opened fits.0 fits.1 st

  -- whether there was a line
  line_done : (line d e : ℕ) (o : Opening) (pc1 pc' : ℕ) (w : World) (k : Work) → Alive p c
      (with_input w (after_line w.input) (line_marks w.input)) k → (character : Option ℕ) → next_character w.input
      ≡ character → k.temporaries e ≡ Some (Numeral (nothing_left character)) → Stands (code_in p) c.routine pc1
      (i.CheckRange e (pos 0) (pos 0) 9 line ∷ []) pc'
      → Runs p (suc n) c d 0 (with_input w (after_line w.input) (line_marks w.input)) k pc1 pc'
      (line_read character line (context_in c o) (with_look w)) Nothing
  line_done line d e o pc1 pc' w k alive None q word st =
      let w2 = with_input w (after_line w.input) (line_marks w.input) in
      subst (λ out. Stops (machine_of p) (suc n) (state p c w2 k pc1) (w.transcript ++ out, failed 9 line c.calls))
      (none_marks w.input q)
      (fails_so p (suc n) c active w2 k pc1 9 line (omega arith)
      (range_step (machine_of p) (state p c w2 k pc1) e (pos 0) (pos 0) 9 line (pos 1) st.0 word))
  line_done line d e o pc1 pc' w k alive (Some b) q word st =
      let w2 = with_input w (after_line w.input) (line_marks w.input) in
      subst (λ out. Reached p c d 0 w2 k (state p c w2 k pc1) pc' (λ w' k'. Unit {0}) (with_line w out))
      (sym (line_looked w.input w.transcript))
      (passes p (suc n) c d 0 w2 k pc1 pc' (λ w' k'. Unit {0})
      (range_step (machine_of p) (state p c w2 k pc1) e (pos 0) (pos 0) 9 line (pos 0) st.0 word) st.1 alive tt)

  pub readln_run : (vs : List ReadVariable) (line : ℕ) → StatementRuns p n call next c active nexts does calls
      (Readln vs line)
  readln_run vs line d o w k pc pc' alive opened fits st =
      let code = scope_in p c o in
      let ctx = context_in c o in
      let e = even_from d in
      let S = site_code e (input_site code) 8 in
      let H = helper code ReadLine (e ∷ []) e ∷ i.CheckRange e (pos 0) (pos 0) 9 line ∷ [] in
      let cut2 = split (code_in p) c.routine pc (reads_code code vs d ++ S) H pc' st in
      let cut1 = split (code_in p) c.routine pc (reads_code code vs d) S cut2.0 cut2.1 in
      let behind : length p.program.routines + 16 ≡ length (code_in p).program + 16 = ap (λ m. m + 16)
      (sym (length-map p.program.routines (tac_of p.program))) in
      let call_at = subst (λ m. Stands (code_in p) c.routine cut2.0 (i.Call e m (e ∷ []) 1 ∷ []) (suc cut2.0)) behind
      (cut2.2.0, refl) in
      runs_bind p (suc n) c d 0 d 0 d 0 w k pc cut1.0 pc' (reads p.program (costs_in p) call next vs ctx w)
      (λ u w1. and_then (look w1) (λ b w2. line_read b line ctx w2)) Nothing Nothing (omega arith) (omega arith)
      (omega arith) (omega arith)
      (reads_run vs d o w k pc cut1.0 alive opened fits.0 fits.1 cut1.1)
      (λ u w1 k1 alive1 kept1 y.
      let scratch = (state p c w1 k1 cut1.0).memory.scratch in
      let new = after_line w1.input in
      let law = does.reads.line (FrameBlock 0) (input_place p) w1.input (state p c w1 k1 cut1.0).memory
      (memory_of p.program (reread w1 new) c.ghosts scratch) w1.transcript
      (input_is p c active w1 k1 alive1 fits.0 scratch w1.input)
      (input_renewed p c active w1 k1 alive1 fits.0 scratch new) in
      let r = reader_run p c active d 0 w1 k1 cut1.0 cut2.0 (suc cut2.0) e e 16
      (Numeral (nothing_left (next_character w1.input))) new (line_marks w1.input) (even_above d)
      (even_above d) alive1 (line_bytes w1.input alive1.holds.input) law cut1.2 call_at in
      runs_from p (suc n) c d 0 w1 (with_input w1 new (line_marks w1.input)) k1 r.work cut1.0 (suc cut2.0) pc'
      (line_read (next_character w1.input) line ctx (with_look w1)) Nothing r.comes r.keeps
      (line_done line d e o (suc cut2.0) pc' w1 r.work r.alive (next_character w1.input) refl r.result cut2.2.1))
