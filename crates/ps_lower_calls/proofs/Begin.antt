-- What the program block does before its statements.
use Rattle.std.proofs.Common.{◌≡◌, ℕ, zero, suc, pos, negsuc, ◌+◌, ◌*◌, ◌≤◌, true, List, [], ◌∷◌, ◌++◌, length}
use Rattle.std.proofs.Common.{if◌then◌else◌, Option, Some, refl, sym, ap, ◌∙◌, subst, arith}
use Rattle.ps_tree.specs.Tree.{Routine, routine_at}
use Rattle.tac_code.specs.declared.code.Value.{Value as Word}
use Rattle.tac_code.specs.declared.code.Value.TheVariants.{Number as Numeral}
use Rattle.tac_code.specs.declared.code.Base.TheVariants as base
use Rattle.tac_code.specs.declared.code.Instruction.TheVariants as i
use Rattle.tac_code.specs.Memory.{Words}
use Rattle.ps_meaning.specs.Text.{whole_input}
use Rattle.ps_meaning.specs.Worlds.{World}
use Rattle.tac_code_steps.specs.Runs.{Stands}
use Rattle.tac_code_steps.specs.Splices.{spliced, Piece, ArePlaced}
use Rattle.tac_code_steps.proofs.Runs.{split}
use Rattle.tac_code_steps.proofs.Splices.{spliced_length}
use Rattle.tac_code_steps.proofs.Temporaries.{put_same}
use Rattle.ps_lower_layout.specs.Frames.{layout_of, is_program_block, kinds_of, input_offset}
use Rattle.ps_lower_code.specs.Scopes.{Scope}
use Rattle.ps_lower_code.specs.Routines.{input_code, result_code, parameters_code, variables_code, begin_code}
use Rattle.ps_lower_code.specs.Routines.{parameter_total, result_entries, count_kinds}
use Rattle.ps_lower_relation.specs.Ghosts.{Ghost, first_piece, entry_pieces, pieces, layout_at}
use Rattle.ps_lower_relation.specs.Here.{Setting, code_in, Work, Activated}
use Rattle.ps_lower_calls.specs.Entering.{Places, CanCopy}
use Rattle.ps_lower_calls.specs.Begin.{IsOutermost}
use Rattle.ps_lower_calls.specs.Binding.{variable_slots, HaveFirsts, FirstsFit}
use Rattle.ps_lower_calls.proofs.Filling.{with_temporary}
use Rattle.ps_lower_calls.proofs.Entering.{places_then, places_as, places_word, after_literal}
use Rattle.ps_lower_calls.proofs.First.{places_variables}

-- two words, one after the other
pub spliced_two : (place : ℕ) (a b : Option Word) (words : Words) → spliced (suc place) (b ∷ [])
    (spliced place (a ∷ []) words) ≡ spliced place (a ∷ b ∷ []) words
spliced_two zero a b [] = refl
spliced_two zero a b (x ∷ []) = refl
spliced_two zero a b (x ∷ y ∷ words) = refl
spliced_two (suc place) a b [] = refl
spliced_two (suc place) a b (x ∷ words) = ap (λ ws. x ∷ ws) (spliced_two place a b words)

module _ (p : Setting) (c : Activated) (gs : List Ghost) (w : World) where
  -- the words of the input
  places_input : (r : Routine) (free : ℕ) (words : Words) (k : Work) (pc pc' : ℕ) → suc
      (suc (layout_of r).input) ≤ length words → Stands (code_in p) c.routine pc (input_code r free) pc'
      → Places p c gs w free words k pc pc' (record {
        place = (layout_of r).input;
        words = Some (Numeral (negsuc 1)) ∷ Some (Numeral (pos 0)) ∷ [];
      } ∷ [])
  places_input r free words k pc pc' l st =
      let at = (layout_of r).input in
      let one = Numeral (negsuc 1) in
      let two = Numeral (pos 0) in
      let k1 = with_temporary k free one in
      let first : Piece = record { place = at; words = Some one ∷ [] } in
      let second : Piece = record { place = suc at; words = Some two ∷ [] } in
      let words1 = spliced at (Some one ∷ []) words in
      let wide = spliced_length at (Some one ∷ []) words in
      let here = places_word p c gs w free words k1 (suc pc) (suc (suc pc)) at (input_offset r) free one (omega arith)
      (omega arith) (put_same k.temporaries free one) (st.1.0, refl) in
      let k2 = here.work in
      places_as p c gs w free words k pc pc' (first ∷ second ∷ []) (record {
        place = at;
        words = Some one ∷ Some two ∷ [];
      } ∷ []) (spliced_two at (Some one) (Some two) words)
      (after_literal p c gs w free words k pc pc' free (negsuc 1) (first ∷ second ∷ []) (omega arith) (st.0, refl)
      (places_then p c gs w free words k1 (suc pc) (suc (suc pc)) pc' (first ∷ []) (second ∷ []) here
      (after_literal p c gs w free words1 k2 (suc (suc pc)) pc' free (pos 0) (second ∷ []) (omega arith)
      (st.1.1.0, refl)
      (places_word p c gs w free words1 (with_temporary k2 free two) (suc (suc (suc pc))) pc' (suc at)
      (input_offset r + 4) free two (omega arith) (omega (arith, wide, l)) (put_same k2.temporaries free two)
      (st.1.1.1.0, st.1.1.1.1)))))

  -- all that is placed in the frame of the program block
  pub places_outermost : (count size : ℕ) (g : Ghost) (k : Scope) (words : Words) (work : Work) (pc pc' : ℕ)
      → CanCopy p c gs w k count size → length words ≡ size → count ≤ work.count → IsOutermost
      (routine_at p.program g.routine) → g.slots ≡ variable_slots (routine_at p.program g.routine).variables g.base
      → length (routine_at p.program g.routine).variables ≤ length (layout_at p.program g.routine).places → ArePlaced
      (length words) (pieces p.program w g) → w.input ≡ whole_input w.input.left → HaveFirsts w.store
      (routine_at p.program g.routine).variables g.base → FirstsFit (routine_at p.program g.routine).variables
      → Stands (code_in p) c.routine pc (begin_code k (routine_at p.program g.routine)) pc' → Places p c gs w
      (parameter_total (routine_at p.program g.routine)) words work pc pc' (pieces p.program w g)
  places_outermost count size g k words work pc pc' can wide up is slots enough apart input firsts fits st =
      let r = routine_at p.program g.routine in
      let free = parameter_total r in
      let a = if is_program_block r.chain then input_code r free else (i.Store base.Frame 0 0 ∷ []) in
      let whole : Stands (code_in p) c.routine pc
      (input_code r free ++ [] ++ [] ++ variables_code k r r.variables 0 free) pc' = same g k pc pc' is st in
      let cut1 = split (code_in p) c.routine pc (input_code r free ++ [] ++ [])
      (variables_code k r r.variables 0 free) pc' whole in
      let first = first_piece (layout_of r) true (whole_input w.input.left) g.link in
      let rest = entry_pieces w.store (layout_of r).places (variable_slots r.variables g.base) in
      let apart' : ArePlaced (length words) (first ∷ rest) = subst
      (λ xs. ArePlaced (length words) (first ∷ entry_pieces w.store (layout_of r).places xs)) slots
      (subst (λ y. ArePlaced (length words) (first_piece (layout_of r) true y g.link ∷ entry_pieces w.store
      (layout_of r).places g.slots)) input (subst
      (λ b. ArePlaced (length words) (first_piece (layout_of r) b w.input g.link ∷ entry_pieces w.store
      (layout_of r).places g.slots)) is.block apart)) in
      let here = places_input r free words work pc cut1.0 (let l = apart'.0 in omega arith) cut1.1 in
      subst (λ b. Places p c gs w free words work pc pc'
      (first_piece (layout_of r) b w.input g.link ∷ entry_pieces w.store (layout_of r).places g.slots))
      (sym is.block)
      (subst (λ y. Places p c gs w free words work pc pc'
      (first_piece (layout_of r) true y g.link ∷ entry_pieces w.store (layout_of r).places g.slots)) (sym input)
      (subst (λ xs. Places p c gs w free words work pc pc' (first ∷ entry_pieces w.store (layout_of r).places xs))
      (sym slots)
      (places_then p c gs w free words work pc cut1.0 pc' (first ∷ []) rest here
      (places_variables p c gs w k count size can r r.variables g.base 0 free (layout_of r).places
      (spliced first.place first.words words) here.work cut1.0 pc' refl enough
      (subst (λ n. ArePlaced n rest) wide apart'.2) (spliced_length first.place first.words words ∙ wide)
      (let more = here.count in omega (arith, up, more)) firsts fits cut1.2))))
    where
      same : (g : Ghost) (k : Scope) (pc pc' : ℕ) → IsOutermost (routine_at p.program g.routine) → Stands
          (code_in p) c.routine pc (begin_code k (routine_at p.program g.routine)) pc'
          → let r = routine_at p.program g.routine in Stands (code_in p) c.routine pc
          (input_code r (parameter_total r) ++ [] ++ [] ++ variables_code k r r.variables 0 (parameter_total r)) pc'
      same g k pc pc' is st =
          let r = routine_at p.program g.routine in
          let free = parameter_total r in
          subst (λ o. Stands (code_in p) c.routine pc
          (input_code r free ++ result_code k r o free ++ [] ++ variables_code k r r.variables
          (result_entries o + 0) free) pc') is.result
          (subst (λ f. Stands (code_in p) c.routine pc
          (input_code r free ++ result_code k r r.result free ++ parameters_code k r (kinds_of f) 1
          (result_entries r.result) free ++ variables_code k r r.variables
          (result_entries r.result + count_kinds (kinds_of f)) free) pc') is.formals
          (subst (λ b. Stands (code_in p) c.routine pc
          ((if b then input_code r free else (i.Store base.Frame (4 * (layout_of r).link) 0 ∷ []))
          ++ result_code k r r.result free ++ parameters_code k r (kinds_of r.formals) 1
          (result_entries r.result) free ++ variables_code k r r.variables
          (result_entries r.result + count_kinds (kinds_of r.formals)) free) pc') is.block st))
