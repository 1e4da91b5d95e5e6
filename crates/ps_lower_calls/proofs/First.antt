-- First values of variables.
use Rattle.std.proofs.Common.{◌≡◌, ℕ, zero, suc, ℤ, pos, ◌+◌, ◌-◌, ◌*◌, ◌/◌, ◌%◌, ◌<◌, ◌≤◌, Bool, true, false, nat_eq}
use Rattle.std.proofs.Common.{nat_lt, List, [], ◌∷◌, ◌++◌, length, drop, get_or, Some, if◌then◌else◌, refl, sym, ap}
use Rattle.std.proofs.Common.{◌∙◌, subst, arith, length-append, eqb-true, ltb-true, ltb-false, mul_left_comm}
use Rattle.ps_tree.specs.Types.{DataType}
use Rattle.ps_tree.specs.Tree.{Routine}
use Rattle.tac_code.specs.declared.code.Value.TheVariants.{Number as Numeral}
use Rattle.tac_code.specs.declared.code.Base.TheVariants as base
use Rattle.tac_code.specs.declared.code.Instruction.TheVariants as i
use Rattle.tac_code.specs.Memory.{Words}
use Rattle.ps_meaning.specs.Values.{Value, first}
use Rattle.ps_meaning.specs.Worlds.{World}
use Rattle.tac_code_steps.specs.Runs.{Stands}
use Rattle.tac_code_steps.specs.Splices.{Piece, ArePlaced, overlaid, spliced}
use Rattle.tac_code_steps.proofs.Runs.{split}
use Rattle.tac_code_steps.proofs.Splices.{spliced_length}
use Rattle.tac_code_steps.proofs.Temporaries.{put_same}
use Rattle.ps_lower_layout.specs.Shapes.{Shape, NumberShape, PointerShape, SetShape, ByteShape, ArrayShape}
use Rattle.ps_lower_layout.specs.Shapes.{RecordShape, Shapes, no_shape, shape_before, shape_of, word_count, byte_count}
use Rattle.ps_lower_layout.specs.Words.{value_words}
use Rattle.ps_lower_layout.specs.Paths.{HasShape}
use Rattle.ps_lower_layout.specs.Frames.{layout_of, entry_offset}
use Rattle.ps_lower_code.specs.Scopes.{Scope}
use Rattle.ps_lower_code.specs.Statements.{first_code, fields_code, spread_code, byte_word}
use Rattle.ps_lower_code.specs.Routines.{variables_code}
use Rattle.ps_lower_relation.specs.Ghosts.{Ghost, entry_pieces, SlotsFit}
use Rattle.ps_lower_relation.specs.Here.{Setting, code_in, Work, Activated}
use Rattle.ps_lower_relation.proofs.Copies.{Holding, repeated, repeated_length}
use Rattle.ps_lower_calls.specs.Filling.{Filling, Fills}
use Rattle.ps_lower_calls.specs.Entering.{Places, CanCopy, frame_filling}
use Rattle.ps_lower_code.specs.First.{FirstFits}
use Rattle.ps_lower_calls.specs.Laws.{FirstsArePlaced}
use Rattle.ps_lower_calls.specs.Binding.{variable_slots, HaveFirsts, FirstsFit}
use Rattle.ps_lower_calls.proofs.Filling.{with_temporary, IsNamed, named_put, named_after, CanFill, fills_none}
use Rattle.ps_lower_calls.proofs.Filling.{fills_then, fills_as, fills_word, fills_literal}
use Rattle.ps_lower_calls.proofs.Entering.{places_none, places_then, can_fill}
use Rattle.ps_lower_calls.proofs.Spread.{fills_spread}
use Rattle.ps_lower_calls.proofs.FirstWords.{rest_of_bytes, first_words, fields_words, no_zero, first_counted}
use Rattle.ps_lower_calls.proofs.FirstWords.{first_written, first_is, first_has_shape}

-- an empty stretch
spliced_nothing : (place : ℕ) (words : Words) → spliced place [] words ≡ words
spliced_nothing zero words = refl
spliced_nothing (suc place) [] = refl
spliced_nothing (suc place) (x ∷ words) = ap (λ ws. x ∷ ws) (spliced_nothing place words)

overlaid_joined : (xs ys words : Words) → spliced (length xs) ys (overlaid xs words) ≡ overlaid (xs ++ ys) words
overlaid_joined [] ys words = refl
overlaid_joined (x ∷ xs) ys [] = refl
overlaid_joined (x ∷ xs) ys (y ∷ words) = ap (λ ws. x ∷ ws) (overlaid_joined xs ys words)

-- two stretches side by side
spliced_joined : (place : ℕ) (xs ys words : Words) → spliced (place + length xs) ys (spliced place xs words)
    ≡ spliced place (xs ++ ys) words
spliced_joined zero xs ys words = let e : 0 + length xs ≡ length xs = omega arith
    in ap (λ i. spliced i ys (overlaid xs words)) e ∙ overlaid_joined xs ys words
spliced_joined (suc place) xs ys [] = let e : suc place + length xs ≡ suc (place + length xs) = omega arith
    in ap (λ i. spliced i ys []) e
spliced_joined (suc place) xs ys (y ∷ words) = let e : suc place + length xs ≡ suc (place + length xs) = omega arith
    in ap (λ i. spliced i ys (y ∷ spliced place xs words)) e ∙ ap (λ ws. y ∷ ws) (spliced_joined place xs ys words)

no_words : (ws : Words) → length ws ≡ 0 → ws ≡ []
no_words [] e = refl
no_words (x ∷ ws) e = absurd (cc)

positive : (n : ℕ) → (n ≡ 0 → ⊥) → 0 < n
positive zero h = absurd (h refl)
positive (suc n) h = omega arith

pub firsts_fit : (made : List ℕ) (store : ℕ → Value) (types : List DataType) (n : ℕ) → HaveFirsts store types n
    → FirstsFit types → SlotsFit made store (variable_slots types n)
firsts_fit made store [] n h f = tt
firsts_fit made store (type ∷ rest) n h f = (
  subst (λ v. HasShape made v (shape_of type)) (sym h.0) (first_has_shape made type f.0),
  firsts_fit made store rest
      (suc n) h.1 f.1,
)

pub dropped_first : (xs ys : List ℕ) (j x : ℕ) → drop j xs ≡ x ∷ ys → get_or xs j 0 ≡ x
dropped_first [] ys zero x e = absurd (cc)
dropped_first [] ys (suc j) x e = absurd (cc)
dropped_first (z ∷ xs) ys zero x e = ap (λ l. get_or l 0 0) e
dropped_first (z ∷ xs) ys (suc j) x e = dropped_first xs ys j x e

pub dropped_rest : (xs ys : List ℕ) (j x : ℕ) → drop j xs ≡ x ∷ ys → drop (suc j) xs ≡ ys
dropped_rest [] ys zero x e = absurd (cc)
dropped_rest [] ys (suc j) x e = absurd (cc)
dropped_rest (z ∷ xs) ys zero x e = ap (drop 1) e
dropped_rest (z ∷ xs) ys (suc j) x e = dropped_rest xs ys j x e

module _ (p : Setting) (c : Activated) (f : Filling) (k : Scope) where
  -- a number, by a temporary
  fills_number : (holding : (scratch : Words) → Holding p f.block (f.memory scratch)) (z : ℤ) (free : ℕ) (words : Words)
      (work : Work) (pc pc' place offset : ℕ) → IsNamed c f free work.temporaries → offset ≡ 4 * place
      → suc place ≤ length words → Stands (code_in p) c.routine pc
      (i.Literal free z ∷ i.Store f.base offset free ∷ []) pc'
      → Fills p c f free words work pc pc' (record { place = place; words = Some (Numeral z) ∷ [] } ∷ [])
  fills_number holding z free words work pc pc' place offset named e l st =
      fills_literal p c f free words work pc pc' free z _ (omega arith) (st.0, refl)
      (fills_word p c f holding free words (with_temporary work free (Numeral z)) (suc pc) pc' place offset free
      (Numeral z) (named_put c f free work.temporaries free (Numeral z) (omega arith) named) e (omega arith)
      (put_same work.temporaries free (Numeral z)) st.1)

  -- no word, no code
  fills_nothing : (free : ℕ) (words : Words) (work : Work) (pc pc' place : ℕ) → pc ≡ pc'
      → Fills p c f free words work pc pc' (record {
        place = place;
        words = [];
      } ∷ [])
  fills_nothing free words work pc pc' place e = fills_as p c f free words work pc pc' [] (record {
    place = place;
    words = [];
  } ∷ []) (sym (spliced_nothing place words)) (fills_none p c f free words work pc pc' e)

  -- two stretches side by side are one
  fills_beside : (xs ys : Words) (free : ℕ) (words : Words) (work : Work) (pc mid pc' place : ℕ)
      (here : Fills p c f free words work pc mid (record {
        place = place;
        words = xs;
      } ∷ [])) → Fills p c f free (spliced place xs words) here.work mid pc' (record {
        place = place + length xs;
        words = ys;
      } ∷ []) → Fills p c f free words work pc pc' (record {
        place = place;
        words = xs ++ ys;
      } ∷ [])
  fills_beside xs ys free words work pc mid pc' place here next =
      fills_as p c f free words work pc pc' (record {
        place = place;
        words = xs;
      } ∷ record {
        place = place + length xs;
        words = ys;
      } ∷ []) (record {
        place = place;
        words = xs ++ ys;
      } ∷ []) (spliced_joined place xs ys words)
      (fills_then p c f free words work pc mid pc' (record {
        place = place;
        words = xs;
      } ∷ []) (record {
        place = place + length xs;
        words = ys;
      } ∷ []) here next)

  module _ (count size : ℕ) (can : CanFill p c f k count size) where
    -- one number in so many words
    fills_numbers : (z : ℤ) (n free : ℕ) (words : Words) (work : Work) (pc pc' place offset whole : ℕ) → length words
        ≡ size → count ≤ work.count → IsNamed c f free work.temporaries → offset ≡ 4 * place → whole ≡ 4 * suc n → place
        + suc n ≤ length words → Stands (code_in p) c.routine pc
        (i.Literal free z ∷ i.Store f.base offset free ∷ spread_code k f.base free offset 4 whole) pc'
        → Fills p c f free words work pc pc' (record {
          place = place;
          words = repeated (suc n) (Some (Numeral z) ∷ []);
        } ∷ [])
    fills_numbers z n free words work pc pc' place offset whole wide up named e ew l st =
        let word : Words = Some (Numeral z) ∷ [] in
        let total = repeated_length (suc n) word in
        let cut = split (code_in p) c.routine pc (i.Literal free z ∷ i.Store f.base offset free ∷ [])
        (spread_code k f.base free offset 4 whole) pc' st in
        fills_spread p c f k count size can word words n place free offset work pc cut.0 pc' 4 whole tt
        (omega arith) wide (omega (arith, l, total)) up named e refl (omega (arith, ew))
        (fills_number can.holding z free words work pc cut.0 place offset named e (omega (arith, l)) cut.1) cut.2

    -- bytes of one value: whole words first
    fills_whole : (n : ℕ) (z : ℤ) (free : ℕ) (words : Words) (work : Work) (pc pc' place offset : ℕ) → length words
        ≡ size → count ≤ work.count → IsNamed c f free work.temporaries → offset ≡ 4 * place → place
        + n / 4 ≤ length words → Stands (code_in p) c.routine pc
        (if nat_lt n 4 then [] else (i.Literal free (byte_word 4 z) ∷ i.Store f.base offset free
        ∷ spread_code k f.base free offset 4 (4 * (n / 4)))) pc'
        → Fills p c f free words work pc pc' (record {
          place = place;
          words = repeated (n / 4) (Some (Numeral (byte_word 4 z)) ∷ []);
        } ∷ [])
    fills_whole n z free words work pc pc' place offset wide up named e l st = go (nat_lt n 4) refl st
      where
        go : (t : Bool) → nat_lt n 4 ≡ t → Stands (code_in p) c.routine pc
            (if t then [] else (i.Literal free (byte_word 4 z) ∷ i.Store f.base offset free
            ∷ spread_code k f.base free offset 4 (4 * (n / 4)))) pc' → Fills p c f free words work pc pc' (record {
              place = place;
              words = repeated (n / 4) (Some (Numeral (byte_word 4 z)) ∷ []);
            } ∷ [])
        go true q s =
            let few = ltb-true n 4 q in
            let none : 0 ≡ n / 4 = omega (arith, few) in
            subst (λ m. Fills p c f free words work pc pc' (record {
              place = place;
              words = repeated m (Some (Numeral (byte_word 4 z)) ∷ []);
            } ∷ [])) none (fills_nothing free words work pc pc' place s)
        go false q s =
            let many = ltb-false n 4 q in
            let some : suc (n / 4 - 1) ≡ n / 4 = omega (arith, many) in
            subst (λ m. Fills p c f free words work pc pc' (record {
              place = place;
              words = repeated m (Some (Numeral (byte_word 4 z)) ∷ []);
            } ∷ [])) some
            (fills_numbers (byte_word 4 z) (n / 4 - 1) free words work pc pc' place offset (4 * (n / 4)) wide up named e
            (omega (arith, some)) (omega (arith, some, l)) s)

    -- and the word that is filled up
    fills_rest : (n : ℕ) (z : ℤ) (free : ℕ) (words : Words) (work : Work) (pc pc' place offset : ℕ)
        → IsNamed c f free work.temporaries → offset ≡ 4 * place → place + length (rest_of_bytes n z) ≤ length words
        → Stands (code_in p) c.routine pc (if nat_eq (n % 4) 0 then []
        else (i.Literal free (byte_word (n % 4) z) ∷ i.Store f.base offset free ∷ [])) pc'
        → Fills p c f free words work pc pc' (record { place = place; words = rest_of_bytes n z } ∷ [])
    fills_rest n z free words work pc pc' place offset named e l st = go (nat_eq (n % 4) 0) l st
      where
        go : (t : Bool) → place + length (if t then [] else (Some (Numeral (byte_word (n % 4) z)) ∷ [])) ≤ length words
            → Stands (code_in p) c.routine pc (if t then []
            else (i.Literal free (byte_word (n % 4) z) ∷ i.Store f.base offset free ∷ [])) pc'
            → Fills p c f free words work pc pc' (record {
              place = place;
              words = if t then [] else (Some (Numeral (byte_word (n % 4) z)) ∷ []);
            } ∷ [])
        go true h s = fills_nothing free words work pc pc' place s
        go false h s = fills_number can.holding (byte_word (n % 4) z) free words work pc pc' place offset named e
            (omega (arith, h)) s

    -- an array: its first component, and copies
    fills_array : (n : ℕ) (shape : Shape) (free : ℕ) (words : Words) (work : Work) (pc pc' place offset : ℕ)
        → length words ≡ size → count ≤ work.count → IsNamed c f free work.temporaries → offset ≡ 4 * place → place
        + length (repeated n (first_words shape)) ≤ length words → (t : Bool) → nat_eq (n * word_count shape) 0 ≡ t
        → Stands (code_in p) c.routine pc (if t then []
        else (first_code k f.base free offset shape ++ spread_code k f.base free offset (byte_count shape)
        (n * byte_count shape))) pc'
        → ((mid : ℕ) → place + length (first_words shape) ≤ length words → Stands (code_in p) c.routine pc
        (first_code k f.base free offset shape) mid → Fills p c f free words work pc mid (record {
          place = place;
          words = first_words shape;
        } ∷ []))
        → Fills p c f free words work pc pc' (record { place = place; words = repeated n (first_words shape) } ∷ [])
    fills_array n shape free words work pc pc' place offset wide up named e l true q st component =
        let none = eqb-true (n * word_count shape) 0 q in
        let empty : length (repeated n (first_words shape)) ≡ 0 = repeated_length n (first_words shape)
        ∙ ap (λ m. n * m) (first_counted shape) ∙ none in
        subst (λ ws. Fills p c f free words work pc pc' (record {
          place = place;
          words = ws;
        } ∷ [])) (sym (no_words (repeated n (first_words shape)) empty)) (fills_nothing free words work pc pc' place st)
    fills_array zero shape free words work pc pc' place offset wide up named e l false q st component = let z : 0 *
        word_count shape ≡ 0 = omega arith in absurd (no_zero (0 * word_count shape) q z)
    fills_array (suc n) shape free words work pc pc' place offset wide up named e l false q st component =
        let xs = first_words shape in
        let counted = first_counted shape in
        let long = length-append xs (repeated n xs) in
        let bytes : 4 * length xs ≡ byte_count shape = ap (λ m. 4 * m) counted in
        let whole : suc n * byte_count shape ≡ 4 * (suc n * length xs) = ap (λ m. suc n * m) (sym bytes) ∙ mul_left_comm
        (suc n) 4 (length xs) in
        let some : 0 < length xs = positive (length xs)
        (λ z. no_zero (suc n * word_count shape) q
        (ap (λ m. suc n * m) (sym counted ∙ z) ∙ (let y : suc n * 0 ≡ 0 = omega arith in y))) in
        let cut = split (code_in p) c.routine pc (first_code k f.base free offset shape)
        (spread_code k f.base free offset (byte_count shape) (suc n * byte_count shape)) pc' st in
        fills_spread p c f k count size can xs words n place free offset work pc cut.0 pc' (byte_count shape)
        (suc n * byte_count shape) (first_written shape) some wide l up named e (sym bytes) whole
        (component cut.0 (omega (arith, l, long)) cut.1) cut.2

    mutual
      -- the first value of a shape is placed
      fills_shape : (shape : Shape) (free : ℕ) (words : Words) (work : Work) (pc pc' place offset : ℕ) → length words
          ≡ size → count ≤ work.count → IsNamed c f free work.temporaries → offset ≡ 4 * place → place + length
          (first_words shape) ≤ length words → Stands (code_in p) c.routine pc
          (first_code k f.base free offset shape) pc'
          → Fills p c f free words work pc pc' (record { place = place; words = first_words shape } ∷ [])
      fills_shape (NumberShape z narrow) free words work pc pc' place offset wide up named e l st = fills_number
          can.holding z free words work pc pc' place offset named e (omega arith) st
      fills_shape (PointerShape pointer) free words work pc pc' place offset wide up named e l st = fills_number
          can.holding (pos 0) free words work pc pc' place offset named e (omega arith) st
      fills_shape SetShape free words work pc pc' place offset wide up named e l st = fills_numbers
          (pos 0) 7 free words work pc pc' place offset 32 wide up named e refl (omega (arith, l)) st
      fills_shape (ByteShape n z) free words work pc pc' place offset wide up named e l st =
          let whole = repeated (n / 4) (Some (Numeral (byte_word 4 z)) ∷ []) in
          let one = repeated_length (n / 4) (Some (Numeral (byte_word 4 z)) ∷ []) in
          let both = length-append whole (rest_of_bytes n z) in
          let wide1 = spliced_length place whole words in
          let cut = split (code_in p) c.routine pc
          (if nat_lt n 4 then [] else (i.Literal free (byte_word 4 z) ∷ i.Store f.base offset free
          ∷ spread_code k f.base free offset 4 (4 * (n / 4))))
          (if nat_eq (n % 4) 0 then [] else (i.Literal free (byte_word (n % 4) z) ∷ i.Store f.base
          (offset + 4 * (n / 4)) free ∷ [])) pc' st in
          let here = fills_whole n z free words work pc cut.0 place offset wide up named e
          (omega (arith, l, one, both)) cut.1 in
          fills_beside whole (rest_of_bytes n z) free words work pc cut.0 pc' place here
          (fills_rest n z free (spliced place whole words) here.work cut.0 pc' (place + length whole)
          (offset + 4 * (n / 4)) (named_after c f free work.temporaries here.work.temporaries named
          here.temporaries) (omega (arith, e, one)) (omega (arith, l, one, both, wide1)) cut.2)
      fills_shape (ArrayShape n shape) free words work pc pc' place offset wide up named e l st =
          fills_array n shape free words work pc pc' place offset wide up named e l
          (nat_eq (n * word_count shape) 0) refl st
          (λ mid within s. fills_shape shape free words work pc mid place offset wide up named e within s)
      fills_shape (RecordShape shapes) free words work pc pc' place offset wide up named e l st = fills_fields shapes
          free words work pc pc' place offset wide up named e l st

      fills_fields : (shapes : Shapes) (free : ℕ) (words : Words) (work : Work) (pc pc' place offset : ℕ) → length words
          ≡ size → count ≤ work.count → IsNamed c f free work.temporaries → offset ≡ 4 * place → place + length
          (fields_words shapes) ≤ length words → Stands (code_in p) c.routine pc
          (fields_code k f.base free offset shapes) pc'
          → Fills p c f free words work pc pc' (record { place = place; words = fields_words shapes } ∷ [])
      fills_fields no_shape free words work pc pc' place offset wide up named e l st = fills_nothing free words work pc
          pc' place st
      fills_fields (shape_before shape rest) free words work pc pc' place offset wide up named e l st =
          let cut = split (code_in p) c.routine pc (first_code k f.base free offset shape)
          (fields_code k f.base free (offset + byte_count shape) rest) pc' st in
          let one = first_counted shape in
          let both = length-append (first_words shape) (fields_words rest) in
          let wide1 = spliced_length place (first_words shape) words in
          let here = fills_shape shape free words work pc cut.0 place offset wide up named e
          (omega (arith, l, both)) cut.1 in
          let more = here.count in
          fills_beside (first_words shape) (fields_words rest) free words work pc cut.0 pc' place here
          (fills_fields rest free (spliced place (first_words shape) words) here.work cut.0 pc'
          (place + length (first_words shape)) (offset + byte_count shape) (wide1 ∙ wide) (omega (arith, up, more))
          (named_after c f free work.temporaries here.work.temporaries named here.temporaries)
          (omega (arith, e, one)) (omega (arith, l, both, wide1)) cut.2)

    -- a first value is placed
    pub fills_first : (type : DataType) (free : ℕ) (words : Words) (work : Work) (pc pc' place offset : ℕ) → FirstFits
        (shape_of type) → length words ≡ size → count ≤ work.count → IsNamed c f free work.temporaries → offset
        ≡ 4 * place → place + length (value_words (shape_of type) (first type)) ≤ length words → Stands
        (code_in p) c.routine pc (first_code k f.base free offset (shape_of type)) pc'
        → Fills p c f free words work pc pc' (record {
          place = place;
          words = value_words (shape_of type) (first type);
        } ∷ [])
    fills_first type free words work pc pc' place offset fit wide up named e l st =
        let is = first_is type fit in
        subst (λ ws. Fills p c f free words work pc pc' (record { place = place; words = ws } ∷ [])) (sym is)
        (fills_shape (shape_of type) free words work pc pc' place offset wide up named e
        (subst (λ ws. place + length ws ≤ length words) is l) st)

module _ (p : Setting) (c : Activated) (gs : List Ghost) (w : World) (k : Scope) where
  -- a first value is placed in a frame
  pub places_first : (count size : ℕ) → CanCopy p c gs w k count size → (type : DataType) (free : ℕ) (words : Words)
      (work : Work) (pc pc' place offset : ℕ) → FirstFits (shape_of type) → length words ≡ size → count ≤ work.count
      → offset ≡ 4 * place → place + length (value_words (shape_of type) (first type)) ≤ length words → Stands
      (code_in p) c.routine pc (first_code k base.Frame free offset (shape_of type)) pc'
      → Places p c gs w free words work pc pc' (record {
        place = place;
        words = value_words (shape_of type) (first type);
      } ∷ [])
  places_first count size can type free words work pc pc' place offset fit wide up e l st =
      fills_first p c (frame_filling p c gs w) k count size
      (can_fill p c gs w k count size can) type free words work pc pc' place offset fit wide up (tt, refl) e l st

  -- the variables from entry j on
  pub places_variables : (count size : ℕ) → CanCopy p c gs w k count size → (r : Routine) (types : List DataType)
      (n j free : ℕ) (places : List ℕ) (words : Words) (work : Work) (pc pc' : ℕ) → drop j (layout_of r).places ≡ places
      → length types ≤ length places → ArePlaced size (entry_pieces w.store places (variable_slots types n))
      → length words ≡ size → count ≤ work.count → HaveFirsts w.store types n → FirstsFit types → Stands
      (code_in p) c.routine pc (variables_code k r types j free) pc'
      → Places p c gs w free words work pc pc' (entry_pieces w.store places (variable_slots types n))
  places_variables count size can r [] n j free [] words work pc pc' d m a l up h f st = places_none p c gs w free words
      work pc pc' st
  places_variables count size can r [] n j free
      (x ∷ places) words work pc pc' d m a l up h f st = places_none p c gs w free words work pc pc' st
  places_variables count size can r (type ∷ rest) n j free [] words work pc pc' d m a l up h f st = absurd (omega arith)
  places_variables count size can r (type ∷ rest) n j free (x ∷ places) words work pc pc' d m a l up h f st =
      let cut = split (code_in p) c.routine pc (first_code k base.Frame free (entry_offset r j) (shape_of type))
      (variables_code k r rest (suc j) free) pc' st in
      let piece : Piece = record { place = x; words = value_words (shape_of type) (w.store n) } in
      let here : Places p c gs w free words work pc cut.0 (piece ∷ []) =
      subst (λ v. Places p c gs w free words work pc cut.0 (record {
        place = x;
        words = value_words (shape_of type) v;
      } ∷ [])) (sym h.0)
      (places_first count size can type free words work pc cut.0 x (entry_offset r j) f.0 l up
      (ap (λ z. 4 * z) (dropped_first (layout_of r).places places j x d))
      (subst (λ v. x + length (value_words (shape_of type) v) ≤ length words) h.0
      (subst (λ z. x + length (value_words (shape_of type) (w.store n)) ≤ z) (sym l) a.0)) cut.1) in
      places_then p c gs w free words work pc cut.0 pc' (piece ∷ [])
      (entry_pieces w.store places (variable_slots rest (suc n))) here
      (places_variables count size can r rest (suc n) (suc j) free places
      (spliced x piece.words words) here.work cut.0 pc' (dropped_rest (layout_of r).places places j x d)
      (omega arith) a.2 (spliced_length x piece.words words ∙ l)
      (let more = here.count in omega (arith, up, more)) h.1 f.1 cut.2)

pub firsts_placed : FirstsArePlaced
firsts_placed p c gs w k type free words work pc pc' place offset can f e l st = places_first p c gs w k work.count
    (length words) can type free words work pc pc' place offset f refl (omega arith) e l st
