-- What a routine does before its statements: the link, the result, the parameters and the variables go to their places.
use Rattle.std.proofs.Common.{◌≡◌, ℕ, suc, ◌+◌, ◌*◌, ◌≤◌, false, List, [], ◌∷◌, ◌++◌, length, drop, if◌then◌else◌}
use Rattle.std.proofs.Common.{Option, Some, None, refl, sym, ap, ◌∙◌, subst, arith}
use Rattle.ps_tree.specs.Types.{DataType}
use Rattle.ps_tree.specs.Tree.{Routine, routine_at}
use Rattle.tac_code.specs.declared.code.Value.{Value as Word}
use Rattle.tac_code.specs.declared.code.Base.TheVariants as base
use Rattle.tac_code.specs.declared.code.Instruction.TheVariants as i
use Rattle.tac_code.specs.Memory.{Words}
use Rattle.ps_meaning.specs.Values.{first}
use Rattle.ps_meaning.specs.Worlds.{World}
use Rattle.ps_meaning.specs.Calls.{bind, bind_actuals}
use Rattle.tac_code_steps.specs.Runs.{Stands}
use Rattle.tac_code_steps.specs.Splices.{spliced, Piece, ArePlaced}
use Rattle.tac_code_steps.proofs.Runs.{split}
use Rattle.tac_code_steps.proofs.Splices.{spliced_length}
use Rattle.ps_lower_layout.specs.Shapes.{shape_of}
use Rattle.ps_lower_layout.specs.Words.{value_words}
use Rattle.ps_lower_layout.specs.Frames.{Kind, kinds_of, kind_words, entries, layout_of, link_offset, entry_offset}
use Rattle.ps_lower_layout.specs.Frames.{places_from, is_program_block, listed_kinds, variable_kinds, result_kinds}
use Rattle.ps_lower_code.specs.Scopes.{Scope}
use Rattle.ps_lower_code.specs.Statements.{first_code}
use Rattle.ps_lower_code.specs.Routines.{input_code, result_code, parameters_code, variables_code, begin_code}
use Rattle.ps_lower_code.specs.Routines.{parameter_total, count_parameters, result_entries, count_kinds}
use Rattle.ps_lower_relation.specs.Ghosts.{Slot, Ghost, slot_kinds, first_piece, entry_pieces, pieces}
use Rattle.ps_lower_relation.specs.Here.{Setting, code_in, Work, Activated}
use Rattle.ps_lower_calls.specs.Entering.{Places, CanCopy, Waits}
use Rattle.ps_lower_calls.specs.Binding.{FirstsFit, variable_slots}
use Rattle.ps_lower_calls.specs.Routines.{ResultFits}
use Rattle.ps_lower_calls.specs.Passing.{Passing, PassValue, PassVariable, PassRoutine, passed_actuals, passed_kinds}
use Rattle.ps_lower_calls.specs.Passing.{passed_words, bound_slots, with_result, ArePassed}
use Rattle.ps_lower_calls.proofs.Entering.{places_then, places_word}
use Rattle.ps_lower_calls.proofs.First.{places_first, dropped_first}
use Rattle.ps_lower_calls.proofs.Passing.{HaveBound, bound_kinds}
use Rattle.ps_lower_calls.proofs.Parameters.{WordsIn, words_kept, places_parameters}

-- ---- how many there are

-- the operands of a call are as many as its routine has parameters
pub words_counted : (ps : List Passing) → length (passed_words ps) ≡ count_parameters (passed_kinds ps)
words_counted [] = refl
words_counted (PassValue shape v x ∷ ps) = let e = words_counted ps in omega (arith, e)
words_counted (PassVariable shape s b o ∷ ps) = let e = words_counted ps in omega (arith, e)
words_counted (PassRoutine kinds result r env w ∷ ps) = let e = words_counted ps in omega (arith, e)

kinds_placed : (n : ℕ) (ks : List Kind) → length (places_from n ks) ≡ length ks
kinds_placed n [] = refl
kinds_placed n (k ∷ ks) = ap suc (kinds_placed (n + kind_words k) ks)

kinds_counted : (xs : List Slot) → length (slot_kinds xs) ≡ length xs
kinds_counted [] = refl
kinds_counted (x ∷ xs) = ap suc (kinds_counted xs)

variables_counted : (types : List DataType) (n : ℕ) → length (variable_slots types n) ≡ length types
variables_counted [] n = refl
variables_counted (type ∷ rest) n = ap suc (variables_counted rest (suc n))

slots_counted : (ps : List Passing) (types : List DataType) (n : ℕ) → length (bound_slots ps types n) ≡ length ps
    + length types
slots_counted [] types n = let e = variables_counted types n in omega (arith, e)
slots_counted (PassValue shape v x ∷ ps) types n = let e = slots_counted ps types (suc n) in omega (arith, e)
slots_counted (PassVariable shape s b o ∷ ps) types n = let e = slots_counted ps types n in omega (arith, e)
slots_counted (PassRoutine kinds result r env w ∷ ps) types n = let e = slots_counted ps types n in omega (arith, e)

-- ---- the frame that a call binds

pub result_bound : (result : Option DataType) (ps : List Passing) (types : List DataType) (w : World) → bind result
    (passed_actuals ps) types w ≡ bind_actuals (passed_actuals (with_result result ps)) types w
result_bound None ps types w = refl
result_bound (Some type) ps types w = refl

-- its entries are those of the routine
pub bound_entries : (r : Routine) (ps : List Passing) (n : ℕ) → passed_kinds ps ≡ kinds_of r.formals → slot_kinds
    (bound_slots (with_result r.result ps) r.variables n) ≡ entries r
bound_entries r ps n e =
    bound_kinds (with_result r.result ps) r.variables n
    ∙ with_first r.result
    ∙ ap (λ ks. result_kinds r.result ++ listed_kinds ks ++ variable_kinds r.variables) e
  where
    with_first : (o : Option DataType) → listed_kinds (passed_kinds (with_result o ps)) ++ variable_kinds r.variables
        ≡ result_kinds o ++ listed_kinds (passed_kinds ps) ++ variable_kinds r.variables
    with_first None = refl
    with_first (Some type) = refl

pub bound_enough : (r : Routine) (ps : List Passing) (n : ℕ) → passed_kinds ps ≡ kinds_of r.formals → length
    (with_result r.result ps) + length r.variables ≤ length (layout_of r).places
bound_enough r ps n e =
    let xs = bound_slots (with_result r.result ps) r.variables n in
    let a = sym (slots_counted (with_result r.result ps) r.variables n) ∙ sym (kinds_counted xs) ∙ ap length
    (bound_entries r ps n e) ∙ sym (kinds_placed 1 (entries r)) in
    omega (arith, a)

module _ (p : Setting) (c : Activated) (gs : List Ghost) (w : World) (k : Scope) (r : Routine) (types : List DataType)
    (free count size : ℕ) (can : CanCopy p c gs w k count size) (caller end : ℕ) (theirs : Words)
    (waits : Waits c caller theirs) (link : Word) where
  abbrev link_piece : Piece
  link_piece = record { place = (layout_of r).link; words = Some link ∷ [] }

  places_entry : (o : Option DataType) (ps : List Passing) (n : ℕ) (places : List ℕ) (words : Words) (work : Work)
      (pc pc' : ℕ) → (layout_of r).places ≡ places → ArePassed caller theirs end ps → length words ≡ size
      → count ≤ work.count → ResultFits o → length (with_result o ps) + length types ≤ length places → ArePlaced size
      (link_piece ∷ entry_pieces w.store places (bound_slots (with_result o ps) types n)) → HaveBound w.store
      (with_result o ps) types n → FirstsFit types → work.temporaries 0 ≡ Some link → WordsIn work.temporaries 1
      (passed_words ps) → 1 + length (passed_words ps) ≤ free
      → Stands (code_in p) c.routine pc ((i.Store base.Frame (link_offset r) 0 ∷ []) ++ result_code k r o free
      ++ parameters_code k r (passed_kinds ps) 1 (result_entries o) free ++ variables_code k r types
      (result_entries o + count_kinds (passed_kinds ps)) free) pc'
      → Places p c gs w free words work pc pc'
      (link_piece ∷ entry_pieces w.store places (bound_slots (with_result o ps) types n))
  places_entry None ps n places words work pc pc' d is wide0 up result enough a h f held0 held low st =
      let within = a.0 in
      let here = places_word p c gs w free words work pc (suc pc) (layout_of r).link (link_offset r) 0 link refl
      (omega (arith, within, wide0)) held0 (st.0, refl) in
      let cut = split (code_in p) c.routine (suc pc) (parameters_code k r (passed_kinds ps) 1 0 free)
      (variables_code k r types (0 + count_kinds (passed_kinds ps)) free) pc' st.1 in
      places_then p c gs w free words work pc (suc pc) pc' (link_piece ∷ [])
      (entry_pieces w.store places (bound_slots ps types n)) here
      (places_parameters p c gs w k r types free count size can caller end theirs waits ps n 0
      (0 + count_kinds (passed_kinds ps)) 1 places (spliced link_piece.place link_piece.words words) here.work
      (suc pc) cut.0 pc' is refl d enough a.2 (spliced_length link_piece.place link_piece.words words ∙ wide0)
      (let more = here.count in omega (arith, up, more)) h f
      (words_kept work.temporaries here.work.temporaries free 1 (passed_words ps) low here.temporaries held) low cut.1
      cut.2)
  places_entry (Some type) ps n [] words work pc pc' d is wide0 up result enough a h f held0 held low st = absurd
      (omega (arith, enough))
  places_entry (Some type) ps n (x ∷ places) words work pc pc' d is wide0 up result enough a h f held0 held low st =
      let within = a.0 in
      let shape = shape_of type in
      let here = places_word p c gs w free words work pc (suc pc) (layout_of r).link (link_offset r) 0 link refl
      (omega (arith, within, wide0)) held0 (st.0, refl) in
      let F = first_code k base.Frame free (entry_offset r 0) shape in
      let P = parameters_code k r (passed_kinds ps) 1 1 free in
      let V = variables_code k r types (1 + count_kinds (passed_kinds ps)) free in
      let cut = split (code_in p) c.routine (suc pc) (F ++ P) V pc' st.1 in
      let cut1 = split (code_in p) c.routine (suc pc) F P cut.0 cut.1 in
      let words1 = spliced link_piece.place link_piece.words words in
      let wide = spliced_length link_piece.place link_piece.words words ∙ wide0 in
      let one = here.count in
      let piece : Piece = record { place = x; words = value_words shape (w.store n) } in
      let room : x + length (value_words shape (first type)) ≤ length words1 = subst
      (λ v. x + length (value_words shape v) ≤ length words1) h.0
      (subst (λ z. x + length (value_words shape (w.store n)) ≤ z) (sym wide) a.2.0) in
      let second : Places p c gs w free words1 here.work (suc pc) cut1.0 (piece ∷ []) =
      subst (λ v. Places p c gs w free words1 here.work (suc pc) cut1.0 (record {
        place = x;
        words = value_words shape v;
      } ∷ [])) (sym h.0)
      (places_first p c gs w k count size can type free words1 here.work (suc pc) cut1.0 x
      (entry_offset r 0) result.2 wide (omega (arith, up, one))
      (ap (λ z. 4 * z) (dropped_first (layout_of r).places places 0 x d)) room cut1.1) in
      let rest = entry_pieces w.store places (bound_slots ps types (suc n)) in
      let words2 = spliced piece.place piece.words words1 in
      places_then p c gs w free words work pc (suc pc) pc' (link_piece ∷ []) (piece ∷ rest) here
      (places_then p c gs w free words1 here.work (suc pc) cut1.0 pc' (piece ∷ []) rest second
      (places_parameters p c gs w k r types free count size can caller end theirs waits ps (suc n) 1
      (1 + count_kinds (passed_kinds ps)) 1 places words2 second.work cut1.0 cut.0 pc' is refl (ap (drop 1) d)
      (omega (arith, enough)) a.2.2 (spliced_length piece.place piece.words words1 ∙ wide)
      (let more = second.count in omega (arith, up, one, more)) h.1 f
      (words_kept work.temporaries second.work.temporaries free 1 (passed_words ps) low
      (λ j b. second.temporaries j b ∙ here.temporaries j b) held) low cut1.2 cut.2))

module _ (p : Setting) (c : Activated) (gs : List Ghost) (w : World) where
  -- all that is placed in the frame of a routine that is called
  pub places_called : (count size caller end : ℕ) (theirs : Words) → Waits c caller theirs → (g : Ghost) (r : Routine)
      (k : Scope) (ps : List Passing) (words : Words) (work : Work) (pc pc' : ℕ) → CanCopy p c gs w k count size
      → length words ≡ size → count ≤ work.count → routine_at p.program g.routine ≡ r → is_program_block r.chain ≡ false
      → passed_kinds ps ≡ kinds_of r.formals → g.slots ≡ bound_slots (with_result r.result ps) r.variables g.base
      → ArePassed caller theirs end ps → ResultFits r.result → ArePlaced size (pieces p.program w g) → HaveBound w.store
      (with_result r.result ps) r.variables g.base → FirstsFit r.variables → work.temporaries 0 ≡ Some g.link
      → WordsIn work.temporaries 1 (passed_words ps)
      → Stands (code_in p) c.routine pc (begin_code k r) pc' → Places p c gs w (parameter_total r) words work pc pc'
      (pieces p.program w g)
  places_called count size caller end theirs waits g r k ps words work pc pc' can wide up same inner kinds slots is
      result apart h f held0 held st =
      let free = parameter_total r in
      let all : suc (count_parameters (kinds_of r.formals))
      ≡ free = ap (λ b. if b then 0 else suc (count_parameters (kinds_of r.formals))) (sym inner) in
      let counted = words_counted ps in
      let as_many = ap count_parameters kinds in
      let total : 1 + length (passed_words ps) ≡ free = omega (arith, all, counted, as_many) in
      let these : List Slot → List Piece = λ xs. record {
        place = (layout_of r).link;
        words = Some g.link ∷ [];
      } ∷ entry_pieces w.store (layout_of r).places xs in
      let mine : pieces p.program w g ≡ these (bound_slots (with_result r.result ps) r.variables g.base) =
      ap (λ q. first_piece (layout_of q) (is_program_block q.chain) w.input g.link ∷ entry_pieces w.store
      (layout_of q).places g.slots) same
      ∙ ap (λ b. first_piece (layout_of r) b w.input g.link ∷ entry_pieces w.store (layout_of r).places g.slots) inner
      ∙ ap these slots in
      let code : Stands (code_in p) c.routine pc
      ((i.Store base.Frame (link_offset r) 0 ∷ []) ++ result_code k r r.result free ++ parameters_code k r
      (passed_kinds ps) 1 (result_entries r.result) free ++ variables_code k r r.variables
      (result_entries r.result + count_kinds (passed_kinds ps)) free) pc' =
      subst (λ ks. Stands (code_in p) c.routine pc
      ((i.Store base.Frame (link_offset r) 0 ∷ []) ++ result_code k r r.result free ++ parameters_code k r ks 1
      (result_entries r.result) free ++ variables_code k r r.variables
      (result_entries r.result + count_kinds ks) free) pc') (sym kinds)
      (subst (λ b. Stands (code_in p) c.routine pc
      ((if b then input_code r free else (i.Store base.Frame (link_offset r) 0 ∷ []))
      ++ result_code k r r.result free ++ parameters_code k r (kinds_of r.formals) 1 (result_entries r.result) free
      ++ variables_code k r r.variables (result_entries r.result + count_kinds (kinds_of r.formals)) free) pc')
      inner st) in
      subst (λ q. Places p c gs w free words work pc pc' q) (sym mine)
      (places_entry p c gs w k r r.variables free count size can caller end theirs waits g.link r.result ps g.base
      (layout_of r).places words work pc pc' refl is wide up result (bound_enough r ps g.base kinds)
      (subst (ArePlaced size) mine apart) h f held0 held (omega (arith, total)) code)
