-- The parameters of a call go from their temporaries to the frame, and the variables behind them get their first
-- values.
use Rattle.std.proofs.Common.{◌≡◌, ℕ, suc, ◌+◌, ◌*◌, ◌<◌, ◌≤◌, List, [], ◌∷◌, length, drop, Some, refl, sym, ap, ◌∙◌}
use Rattle.std.proofs.Common.{subst, arith}
use Rattle.ps_tree.specs.Types.{DataType}
use Rattle.ps_tree.specs.Tree.{Routine}
use Rattle.tac_code.specs.declared.code.Value.{Value as Word}
use Rattle.tac_code.specs.declared.code.Value.TheVariants.{Number as Numeral, Address, Routine as RoutineWord}
use Rattle.tac_code.specs.Memory.{Words}
use Rattle.tac_code.specs.Meaning.{Temporaries}
use Rattle.ps_meaning.specs.Values.{number_of}
use Rattle.ps_meaning.specs.Worlds.{World}
use Rattle.tac_code_steps.specs.Runs.{Stands}
use Rattle.tac_code_steps.specs.Splices.{spliced, Piece, ArePlaced}
use Rattle.tac_code_steps.proofs.Runs.{split}
use Rattle.tac_code_steps.proofs.Splices.{spliced_length}
use Rattle.ps_lower_layout.specs.Shapes.{NumberShape, PointerShape, SetShape, ByteShape, ArrayShape, RecordShape}
use Rattle.ps_lower_layout.specs.Words.{pointer_word, value_words}
use Rattle.ps_lower_layout.specs.Frames.{Own, Reference, Closure, layout_of, entry_offset}
use Rattle.ps_lower_code.specs.Scopes.{Scope}
use Rattle.ps_lower_code.specs.Routines.{parameter_code, parameters_code, variables_code, count_kinds}
use Rattle.ps_lower_relation.specs.Ghosts.{Ghost, entry_pieces}
use Rattle.ps_lower_relation.specs.Here.{Setting, code_in, Work, Activated}
use Rattle.ps_lower_calls.specs.Entering.{Places, CanCopy, Waits}
use Rattle.ps_lower_calls.specs.Binding.{FirstsFit}
use Rattle.ps_lower_calls.specs.Passing.{Passing, PassValue, PassVariable, PassRoutine, passed_kinds, passed_words}
use Rattle.ps_lower_calls.specs.Passing.{bound_slots, CopiedIn, ArePassed}
use Rattle.ps_lower_calls.proofs.Entering.{places_then, places_as, places_word}
use Rattle.ps_lower_calls.proofs.First.{places_variables, dropped_first, dropped_rest}
use Rattle.ps_lower_calls.proofs.Begin.{spliced_two}
use Rattle.ps_lower_calls.proofs.Large.{places_copied}
use Rattle.ps_lower_calls.proofs.Passing.{HaveBound}

-- words stand in the temporaries from t on
abbrev pub WordsIn : Temporaries → (t : ℕ) → List Word → Type 0
WordsIn temporaries t [] = Unit {0}
WordsIn temporaries t (x ∷ xs) = (temporaries t ≡ Some x) × WordsIn temporaries (suc t) xs

pub words_kept : (a b : Temporaries) (free t : ℕ) (xs : List Word) → t + length xs ≤ free
    → ((i : ℕ) → i < free → b i ≡ a i) → WordsIn a t xs → WordsIn b t xs
words_kept a b free t [] l e h = tt
words_kept a b free t (x ∷ xs) l e h = (
  e t (omega (arith, l)) ∙ h.0,
  words_kept a b free (suc t) xs
      (omega (arith, l)) e h.1,
)

module _ (p : Setting) (c : Activated) (gs : List Ghost) (w : World) (k : Scope) (r : Routine) (types : List DataType)
    (free count size : ℕ) (can : CanCopy p c gs w k count size) (caller end : ℕ) (theirs : Words)
    (waits : Waits c caller theirs) where
  -- the parameters from entry j on, and the variables from entry m on
  pub places_parameters : (ps : List Passing) (n j m t : ℕ) (places : List ℕ) (words : Words) (work : Work)
      (pc mid pc' : ℕ) → ArePassed caller theirs end ps → m ≡ j + count_kinds (passed_kinds ps) → drop j
      (layout_of r).places ≡ places → length ps + length types ≤ length places → ArePlaced size
      (entry_pieces w.store places (bound_slots ps types n)) → length words ≡ size → count ≤ work.count
      → HaveBound w.store ps types n → FirstsFit types → WordsIn work.temporaries t (passed_words ps) → t + length
      (passed_words ps) ≤ free
      → Stands (code_in p) c.routine pc (parameters_code k r (passed_kinds ps) t j free) mid → Stands
      (code_in p) c.routine mid (variables_code k r types m free) pc'
      → Places p c gs w free words work pc pc' (entry_pieces w.store places (bound_slots ps types n))
  places_parameters [] n j m t places words work pc mid pc' is e d enough a l up h f held low st sv =
      let same : m ≡ j = omega (arith, e) in
      places_variables p c gs w k count size can r types n j free places words work pc pc' d
      (omega (arith, enough)) a l up h f (subst
      (λ q. Stands (code_in p) c.routine q (variables_code k r types j free) pc') (sym st)
      (subst (λ q. Stands (code_in p) c.routine mid (variables_code k r types q free) pc') same sv))
  places_parameters (PassVariable shape s b o ∷ ps) n j m t [] words work pc mid pc' is e d enough a l up h f held low
      st sv = absurd (omega (arith, enough))
  places_parameters (PassVariable shape s b o ∷ ps) n j m t
      (x ∷ places) words work pc mid pc' is e d enough a l up h f held low st sv =
      let cut = split (code_in p) c.routine pc (parameter_code k (Reference shape) t (entry_offset r j) free)
      (parameters_code k r (passed_kinds ps) (t + 1) (suc j) free) mid st in
      let within = a.0 in
      let next : suc t ≡ t + 1 = omega arith in
      let here = places_word p c gs w free words work pc cut.0 x (entry_offset r j) t (Address b o)
      (ap (λ z. 4 * z) (dropped_first (layout_of r).places places j x d)) (omega (arith, l, within)) held.0 cut.1 in
      places_then p c gs w free words work pc cut.0 pc' (record {
        place = x;
        words = Some (Address b o) ∷ [];
      } ∷ []) (entry_pieces w.store places (bound_slots ps types n)) here
      (places_parameters ps n (suc j) m (t + 1) places
      (spliced x (Some (Address b o) ∷ []) words) here.work cut.0 mid pc' is.1 (omega (arith, e))
      (dropped_rest (layout_of r).places places j x d) (omega (arith, enough)) a.2
      (spliced_length x (Some (Address b o) ∷ []) words ∙ l) (let more = here.count in omega (arith, up, more)) h f
      (words_kept work.temporaries here.work.temporaries free (t + 1) (passed_words ps)
      (omega (arith, low)) here.temporaries (subst (λ q. WordsIn work.temporaries q (passed_words ps)) next held.1))
      (omega (arith, low)) cut.2 sv)
  places_parameters (PassRoutine kinds result q env u ∷ ps) n j m t [] words work pc mid pc' is e d enough a l up h f
      held low st sv = absurd (omega (arith, enough))
  places_parameters (PassRoutine kinds result q env u ∷ ps) n j m t
      (x ∷ places) words work pc mid pc' is e d enough a l up h f held low st sv =
      let cut = split (code_in p) c.routine pc (parameter_code k (Closure kinds result) t (entry_offset r j) free)
      (parameters_code k r (passed_kinds ps) (t + 2) (suc j) free) mid st in
      let within = a.0 in
      let next : suc (suc t) ≡ t + 2 = omega arith in
      let one = Some (RoutineWord q) in
      let first : Piece = record { place = x; words = one ∷ [] } in
      let second : Piece = record { place = suc x; words = Some u ∷ [] } in
      let piece : Piece = record { place = x; words = one ∷ Some u ∷ [] } in
      let place = dropped_first (layout_of r).places places j x d in
      let wide = spliced_length x (one ∷ []) words in
      let here1 = places_word p c gs w free words work pc (suc pc) x (entry_offset r j) t (RoutineWord q)
      (ap (λ z. 4 * z) place) (omega (arith, l, within)) held.0 (cut.1.0, refl) in
      let here2 = places_word p c gs w free (spliced x (one ∷ []) words) here1.work (suc pc) cut.0 (suc x)
      (entry_offset r j + 4) (suc t) u (omega (arith, place)) (omega (arith, l, within, wide))
      (here1.temporaries (suc t) (omega (arith, low)) ∙ held.1.0) (cut.1.1.0, cut.1.1.1) in
      let both = places_then p c gs w free words work pc (suc pc) cut.0 (first ∷ []) (second ∷ []) here1 here2 in
      let here = places_as p c gs w free words work pc cut.0 (first ∷ second ∷ []) (piece ∷ [])
      (spliced_two x one (Some u) words) both in
      places_then p c gs w free words work pc cut.0 pc' (piece ∷ [])
      (entry_pieces w.store places (bound_slots ps types n)) here
      (places_parameters ps n (suc j) m (t + 2) places (spliced x piece.words words) here.work cut.0 mid pc' is.1
      (omega (arith, e)) (dropped_rest (layout_of r).places places j x d) (omega (arith, enough)) a.2
      (spliced_length x piece.words words ∙ l) (let more = here.count in omega (arith, up, more)) h f
      (words_kept work.temporaries here.work.temporaries free (t + 2) (passed_words ps)
      (omega (arith, low)) here.temporaries (subst
      (λ q. WordsIn work.temporaries q (passed_words ps)) next held.1.1)) (omega (arith, low)) cut.2 sv)
  places_parameters (PassValue SetShape v y ∷ ps) n j m t [] words work pc mid pc' is e d enough a l up h f held low st
      sv = absurd (omega (arith, enough))
  places_parameters (PassValue SetShape v y ∷ ps) n j m t
      (x ∷ places) words work pc mid pc' is e d enough a l up h f held low st sv =
      let shape = SetShape in
      let cut = split (code_in p) c.routine pc (parameter_code k (Own shape) t (entry_offset r j) free)
      (parameters_code k r (passed_kinds ps) (t + 1) (suc j) free) mid st in
      let next : suc t ≡ t + 1 = omega arith in
      let piece : Piece = record { place = x; words = value_words shape (w.store n) } in
      let here = places_copied p c gs w k free count size can caller end theirs waits shape
      (w.store n) y words work pc cut.0 x (entry_offset r j) t
      (subst (λ u. CopiedIn caller theirs end shape u y) (sym h.0) is.0)
      (ap (λ z. 4 * z) (dropped_first (layout_of r).places places j x d)) a.0 l up (omega (arith, low)) held.0 cut.1
      in
      places_then p c gs w free words work pc cut.0 pc' (piece ∷ [])
      (entry_pieces w.store places (bound_slots ps types (suc n))) here
      (places_parameters ps (suc n) (suc j) m (t + 1) places (spliced x piece.words words) here.work cut.0 mid pc' is.1
      (omega (arith, e)) (dropped_rest (layout_of r).places places j x d) (omega (arith, enough)) a.2
      (spliced_length x piece.words words ∙ l) (let more = here.count in omega (arith, up, more)) h.1 f
      (words_kept work.temporaries here.work.temporaries free (t + 1) (passed_words ps)
      (omega (arith, low)) here.temporaries (subst (λ q. WordsIn work.temporaries q (passed_words ps)) next held.1))
      (omega (arith, low)) cut.2 sv)
  places_parameters (PassValue (ByteShape z b) v y ∷ ps) n j m t [] words work pc mid pc' is e d enough a l up h f held
      low st sv = absurd (omega (arith, enough))
  places_parameters (PassValue (ByteShape z b) v y ∷ ps) n j m t
      (x ∷ places) words work pc mid pc' is e d enough a l up h f held low st sv =
      let shape = (ByteShape z b) in
      let cut = split (code_in p) c.routine pc (parameter_code k (Own shape) t (entry_offset r j) free)
      (parameters_code k r (passed_kinds ps) (t + 1) (suc j) free) mid st in
      let next : suc t ≡ t + 1 = omega arith in
      let piece : Piece = record { place = x; words = value_words shape (w.store n) } in
      let here = places_copied p c gs w k free count size can caller end theirs waits shape
      (w.store n) y words work pc cut.0 x (entry_offset r j) t
      (subst (λ u. CopiedIn caller theirs end shape u y) (sym h.0) is.0)
      (ap (λ z. 4 * z) (dropped_first (layout_of r).places places j x d)) a.0 l up (omega (arith, low)) held.0 cut.1
      in
      places_then p c gs w free words work pc cut.0 pc' (piece ∷ [])
      (entry_pieces w.store places (bound_slots ps types (suc n))) here
      (places_parameters ps (suc n) (suc j) m (t + 1) places (spliced x piece.words words) here.work cut.0 mid pc' is.1
      (omega (arith, e)) (dropped_rest (layout_of r).places places j x d) (omega (arith, enough)) a.2
      (spliced_length x piece.words words ∙ l) (let more = here.count in omega (arith, up, more)) h.1 f
      (words_kept work.temporaries here.work.temporaries free (t + 1) (passed_words ps)
      (omega (arith, low)) here.temporaries (subst (λ q. WordsIn work.temporaries q (passed_words ps)) next held.1))
      (omega (arith, low)) cut.2 sv)
  places_parameters (PassValue (ArrayShape z b) v y ∷ ps) n j m t [] words work pc mid pc' is e d enough a l up h f held
      low st sv = absurd (omega (arith, enough))
  places_parameters (PassValue (ArrayShape z b) v y ∷ ps) n j m t
      (x ∷ places) words work pc mid pc' is e d enough a l up h f held low st sv =
      let shape = (ArrayShape z b) in
      let cut = split (code_in p) c.routine pc (parameter_code k (Own shape) t (entry_offset r j) free)
      (parameters_code k r (passed_kinds ps) (t + 1) (suc j) free) mid st in
      let next : suc t ≡ t + 1 = omega arith in
      let piece : Piece = record { place = x; words = value_words shape (w.store n) } in
      let here = places_copied p c gs w k free count size can caller end theirs waits shape
      (w.store n) y words work pc cut.0 x (entry_offset r j) t
      (subst (λ u. CopiedIn caller theirs end shape u y) (sym h.0) is.0)
      (ap (λ z. 4 * z) (dropped_first (layout_of r).places places j x d)) a.0 l up (omega (arith, low)) held.0 cut.1
      in
      places_then p c gs w free words work pc cut.0 pc' (piece ∷ [])
      (entry_pieces w.store places (bound_slots ps types (suc n))) here
      (places_parameters ps (suc n) (suc j) m (t + 1) places (spliced x piece.words words) here.work cut.0 mid pc' is.1
      (omega (arith, e)) (dropped_rest (layout_of r).places places j x d) (omega (arith, enough)) a.2
      (spliced_length x piece.words words ∙ l) (let more = here.count in omega (arith, up, more)) h.1 f
      (words_kept work.temporaries here.work.temporaries free (t + 1) (passed_words ps)
      (omega (arith, low)) here.temporaries (subst (λ q. WordsIn work.temporaries q (passed_words ps)) next held.1))
      (omega (arith, low)) cut.2 sv)
  places_parameters (PassValue (RecordShape z) v y ∷ ps) n j m t [] words work pc mid pc' is e d enough a l up h f held
      low st sv = absurd (omega (arith, enough))
  places_parameters (PassValue (RecordShape z) v y ∷ ps) n j m t
      (x ∷ places) words work pc mid pc' is e d enough a l up h f held low st sv =
      let shape = (RecordShape z) in
      let cut = split (code_in p) c.routine pc (parameter_code k (Own shape) t (entry_offset r j) free)
      (parameters_code k r (passed_kinds ps) (t + 1) (suc j) free) mid st in
      let next : suc t ≡ t + 1 = omega arith in
      let piece : Piece = record { place = x; words = value_words shape (w.store n) } in
      let here = places_copied p c gs w k free count size can caller end theirs waits shape
      (w.store n) y words work pc cut.0 x (entry_offset r j) t
      (subst (λ u. CopiedIn caller theirs end shape u y) (sym h.0) is.0)
      (ap (λ z. 4 * z) (dropped_first (layout_of r).places places j x d)) a.0 l up (omega (arith, low)) held.0 cut.1
      in
      places_then p c gs w free words work pc cut.0 pc' (piece ∷ [])
      (entry_pieces w.store places (bound_slots ps types (suc n))) here
      (places_parameters ps (suc n) (suc j) m (t + 1) places (spliced x piece.words words) here.work cut.0 mid pc' is.1
      (omega (arith, e)) (dropped_rest (layout_of r).places places j x d) (omega (arith, enough)) a.2
      (spliced_length x piece.words words ∙ l) (let more = here.count in omega (arith, up, more)) h.1 f
      (words_kept work.temporaries here.work.temporaries free (t + 1) (passed_words ps)
      (omega (arith, low)) here.temporaries (subst (λ q. WordsIn work.temporaries q (passed_words ps)) next held.1))
      (omega (arith, low)) cut.2 sv)
  places_parameters (PassValue (PointerShape z) v y ∷ ps) n j m t [] words work pc mid pc' is e d enough a l up h f held
      low st sv = absurd (omega (arith, enough))
  places_parameters (PassValue (NumberShape z narrow) v y ∷ ps) n j m t [] words work pc mid pc' is e d enough a l up h
      f held low st sv = absurd (omega (arith, enough))
  places_parameters (PassValue (NumberShape z narrow) v y ∷ ps) n j m t
      (x ∷ places) words work pc mid pc' is e d enough a l up h f held low st sv =
      let cut = split (code_in p) c.routine pc (parameter_code k (Own (NumberShape z narrow)) t (entry_offset r j) free)
      (parameters_code k r (passed_kinds ps) (t + 1) (suc j) free) mid st in
      let within = a.0 in
      let next : suc t ≡ t + 1 = omega arith in
      let word = Numeral (number_of (w.store n)) in
      let stands : work.temporaries t ≡ Some word = held.0 ∙ ap Some is.0 ∙ ap (λ u. Some (Numeral (number_of u)))
      (sym h.0) in
      let here = places_word p c gs w free words work pc cut.0 x (entry_offset r j) t word
      (ap (λ z. 4 * z) (dropped_first (layout_of r).places places j x d)) (omega (arith, l, within)) stands cut.1 in
      places_then p c gs w free words work pc cut.0 pc' (record {
        place = x;
        words = Some word ∷ [];
      } ∷ []) (entry_pieces w.store places (bound_slots ps types (suc n))) here
      (places_parameters ps (suc n) (suc j) m (t + 1) places
      (spliced x (Some word ∷ []) words) here.work cut.0 mid pc' is.1 (omega (arith, e))
      (dropped_rest (layout_of r).places places j x d) (omega (arith, enough)) a.2
      (spliced_length x (Some word ∷ []) words ∙ l) (let more = here.count in omega (arith, up, more)) h.1 f
      (words_kept work.temporaries here.work.temporaries free (t + 1) (passed_words ps)
      (omega (arith, low)) here.temporaries (subst (λ q. WordsIn work.temporaries q (passed_words ps)) next held.1))
      (omega (arith, low)) cut.2 sv)
  places_parameters (PassValue (PointerShape z) v y ∷ ps) n j m t
      (x ∷ places) words work pc mid pc' is e d enough a l up h f held low st sv =
      let cut = split (code_in p) c.routine pc (parameter_code k (Own (PointerShape z)) t (entry_offset r j) free)
      (parameters_code k r (passed_kinds ps) (t + 1) (suc j) free) mid st in
      let within = a.0 in
      let next : suc t ≡ t + 1 = omega arith in
      let word = pointer_word (w.store n) in
      let stands : work.temporaries t ≡ Some word = held.0 ∙ ap Some is.0 ∙ ap (λ u. Some (pointer_word u)) (sym h.0) in
      let here = places_word p c gs w free words work pc cut.0 x (entry_offset r j) t word
      (ap (λ z. 4 * z) (dropped_first (layout_of r).places places j x d)) (omega (arith, l, within)) stands cut.1 in
      places_then p c gs w free words work pc cut.0 pc' (record {
        place = x;
        words = Some word ∷ [];
      } ∷ []) (entry_pieces w.store places (bound_slots ps types (suc n))) here
      (places_parameters ps (suc n) (suc j) m (t + 1) places
      (spliced x (Some word ∷ []) words) here.work cut.0 mid pc' is.1 (omega (arith, e))
      (dropped_rest (layout_of r).places places j x d) (omega (arith, enough)) a.2
      (spliced_length x (Some word ∷ []) words ∙ l) (let more = here.count in omega (arith, up, more)) h.1 f
      (words_kept work.temporaries here.work.temporaries free (t + 1) (passed_words ps)
      (omega (arith, low)) here.temporaries (subst (λ q. WordsIn work.temporaries q (passed_words ps)) next held.1))
      (omega (arith, low)) cut.2 sv)
