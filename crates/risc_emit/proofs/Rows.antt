-- One more row is one fewer left, and one more word.
use Rattle.std.proofs.Common.{◌≡◌, ℕ, zero, suc, ◌+◌, ◌*◌, ◌<◌, ◌≤◌, ◌⊎◌, inl, inr, List, [], ◌∷◌, ◌++◌, length}
use Rattle.std.proofs.Common.{length-append, map, drop, get_or, Some, slice_get, refl, sym, ap, ◌∙◌, subst, arith}
use Rattle.std.proofs.lemmas.List.{append-nil, append_assoc}
use Rattle.tac_code.specs.declared.code.TacRoutine.{TacRoutine}
use Rattle.tac_code.proofs.Items.{there_is}
use Rattle.tac_code.proofs.Each.{below_or_at}
use Rattle.risc_word.specs.Words.{Denotes}
use Rattle.risc_machine_laws.specs.View.{IsAt}
use Rattle.risc_image.specs.declared.rows.FrameRow.{FrameRow}
use Rattle.risc_image.specs.declared.rows.ObjectRow.{ObjectRow}
use Rattle.risc_image.specs.declared.rows.TrapRow.{TrapRow}
use Rattle.risc_image.specs.declared.rows.CallRow.{CallRow}
use Rattle.risc_emit_relation.specs.Context.{Context}
use Rattle.risc_emit_forms.specs.Pieces.{instr_at}
use Rattle.risc_emit_laws.specs.Drawn.{entry_place, trap_row_of, trap_rows_of, call_row_of, call_rows_of}
use Rattle.risc_emit_laws.specs.Drawn.{frame_rows_of, object_rows_of}
use Rattle.risc_emit.specs.declared.pieces.Piece.{Piece}
use Rattle.risc_emit.specs.Meant.{meant, all_meant}
use Rattle.risc_emit.specs.Placed.{AreWordsTo}

pub drop_get : {X : Type 0} (xs : List X) (n : ℕ) (x : X) → slice_get xs n ≡ Some x → drop n xs ≡ x ∷ drop (suc n) xs
drop_get [] n x e = absurd (cc e)
drop_get (y ∷ xs) zero x e = let same : y ≡ x = cc e in ap (λ z. z ∷ xs) same
drop_get (y ∷ xs) (suc n) x e = drop_get xs n x e

pub drop_past : {X : Type 0} (xs : List X) (n : ℕ) → length xs ≤ n → drop n xs ≡ []
drop_past [] zero le = refl
drop_past [] (suc n) le = refl
drop_past (x ∷ xs) zero le = absurd (omega (arith, le))
drop_past (x ∷ xs) (suc n) le = drop_past xs n (omega (arith, le))

pub get_of : {X : Type 0} (xs : List X) (n : ℕ) (x d : X) → n < length xs → x ≡ get_or xs n d → slice_get xs n ≡ Some x
get_of [] n x d lt e = absurd (omega (arith, lt))
get_of (y ∷ xs) zero x d lt e = ap Some (sym e)
get_of (y ∷ xs) (suc n) x d lt e = get_of xs n x d (omega (arith, lt)) e

next : (n : ℕ) → suc n ≡ n + 1
next n = omega arith

-- ---- traps and calls

pub trap_step : (ps : List Piece) (at : ℕ) (p : Piece) (rows more all : List TrapRow) → slice_get ps at ≡ Some p → more
    ≡ rows ++ trap_row_of at (meant p) → rows ++ trap_rows_of at (all_meant (drop at ps)) ≡ all → more ++ trap_rows_of
    (at + 1) (all_meant (drop (at + 1) ps)) ≡ all
trap_step ps at p rows more all e is inv =
    let rest = trap_rows_of (at + 1) (map meant (drop (suc at) ps)) in
    let here = ap (λ xs. rows ++ trap_rows_of at (map meant xs)) (drop_get ps at p e) in
    subst (λ n. more ++ trap_rows_of (at + 1) (map meant (drop n ps)) ≡ all) (next at)
    (ap (λ x. x ++ rest) is ∙ append_assoc rows (trap_row_of at (meant p)) rest ∙ sym here ∙ inv)

pub trap_all : (ps : List Piece) (at : ℕ) (rows all : List TrapRow) → length ps ≤ at → rows ++ trap_rows_of at
    (all_meant (drop at ps)) ≡ all → rows ≡ all
trap_all ps at rows all le inv =
    sym (append-nil rows) ∙ sym (ap (λ xs. rows ++ trap_rows_of at (map meant xs)) (drop_past ps at le)) ∙ inv

pub call_step : (ps : List Piece) (at : ℕ) (p : Piece) (rows more all : List CallRow) → slice_get ps at ≡ Some p → more
    ≡ rows ++ call_row_of at (meant p) → rows ++ call_rows_of at (all_meant (drop at ps)) ≡ all → more ++ call_rows_of
    (at + 1) (all_meant (drop (at + 1) ps)) ≡ all
call_step ps at p rows more all e is inv =
    let rest = call_rows_of (at + 1) (map meant (drop (suc at) ps)) in
    let here = ap (λ xs. rows ++ call_rows_of at (map meant xs)) (drop_get ps at p e) in
    subst (λ n. more ++ call_rows_of (at + 1) (map meant (drop n ps)) ≡ all) (next at)
    (ap (λ x. x ++ rest) is ∙ append_assoc rows (call_row_of at (meant p)) rest ∙ sym here ∙ inv)

pub call_all : (ps : List Piece) (at : ℕ) (rows all : List CallRow) → length ps ≤ at → rows ++ call_rows_of at
    (all_meant (drop at ps)) ≡ all → rows ≡ all
call_all ps at rows all le inv =
    sym (append-nil rows) ∙ sym (ap (λ xs. rows ++ call_rows_of at (map meant xs)) (drop_past ps at le)) ∙ inv

-- ---- frames and objects

module _ (c : Context) where
  pub frame_step : (xs : List TacRoutine) (n : ℕ) (row : FrameRow) (rows more all : List FrameRow) → n < length xs
      → row.entry ≡ 4 * entry_place c n → row.bytes ≡ c.costs n → more ≡ rows ++ row ∷ [] → rows ++ frame_rows_of c n
      (drop n xs) ≡ all → more ++ frame_rows_of c (n + 1) (drop (n + 1) xs) ≡ all
  frame_step xs n row rows more all lt entry bytes is inv =
      let x = there_is xs n lt in
      let rest = frame_rows_of c (suc n) (drop (suc n) xs) in
      let here = ap (λ ys. rows ++ frame_rows_of c n ys) (drop_get xs n x.0 x.1) in
      let first : row ≡ record {
        entry = 4 * entry_place c n;
        bytes = c.costs n;
      } = ap (λ a. record {
        entry = a;
        bytes = row.bytes;
      }) entry ∙ ap (λ b. record {
        entry = 4 * entry_place c n;
        bytes = b;
      }) bytes in
      subst (λ m. more ++ frame_rows_of c m (drop m xs) ≡ all) (next n)
      (ap (λ y. y ++ rest) is ∙ append_assoc rows (row ∷ []) rest ∙ ap (λ y. rows ++ y ∷ rest) first ∙ sym here
      ∙ inv)

  pub frame_all : (xs : List TacRoutine) (n : ℕ) (rows all : List FrameRow) → length xs ≤ n → rows ++ frame_rows_of c n
      (drop n xs) ≡ all → rows ≡ all
  frame_all xs n rows all le inv =
      sym (append-nil rows) ∙ sym (ap (λ ys. rows ++ frame_rows_of c n ys) (drop_past xs n le)) ∙ inv

  pub object_step : (xs : List ℕ) (n : ℕ) (row : ObjectRow) (rows more all : List ObjectRow) → n < length xs
      → row.pointer_type ≡ n → row.bytes ≡ c.sizes n → more ≡ rows ++ row ∷ [] → rows ++ object_rows_of c n (drop n xs)
      ≡ all → more ++ object_rows_of c (n + 1) (drop (n + 1) xs) ≡ all
  object_step xs n row rows more all lt number bytes is inv =
      let x = there_is xs n lt in
      let rest = object_rows_of c (suc n) (drop (suc n) xs) in
      let here = ap (λ ys. rows ++ object_rows_of c n ys) (drop_get xs n x.0 x.1) in
      let first : row ≡ record {
        pointer_type = n;
        bytes = c.sizes n;
      } = ap (λ a. record {
        pointer_type = a;
        bytes = row.bytes;
      }) number ∙ ap (λ b. record {
        pointer_type = n;
        bytes = b;
      }) bytes in
      subst (λ m. more ++ object_rows_of c m (drop m xs) ≡ all) (next n)
      (ap (λ y. y ++ rest) is ∙ append_assoc rows (row ∷ []) rest ∙ ap (λ y. rows ++ y ∷ rest) first ∙ sym here
      ∙ inv)

  pub object_all : (xs : List ℕ) (n : ℕ) (rows all : List ObjectRow) → length xs ≤ n → rows ++ object_rows_of c n
      (drop n xs) ≡ all → rows ≡ all
  object_all xs n rows all le inv =
      sym (append-nil rows) ∙ sym (ap (λ ys. rows ++ object_rows_of c n ys) (drop_past xs n le)) ∙ inv

-- ---- words

get_more : (xs : List ℕ) (w i v : ℕ) → slice_get xs i ≡ Some v → slice_get (xs ++ w ∷ []) i ≡ Some v
get_more [] w i v e = absurd (cc e)
get_more (x ∷ xs) w zero v e = e
get_more (x ∷ xs) w (suc i) v e = get_more xs w i v e

get_last : (xs : List ℕ) (w i : ℕ) → length xs ≡ i → slice_get (xs ++ w ∷ []) i ≡ Some w
get_last [] w zero e = refl
get_last [] w (suc i) e = absurd (omega (arith, e))
get_last (x ∷ xs) w zero e = absurd (omega (arith, e))
get_last (x ∷ xs) w (suc i) e = get_last xs w i (omega (arith, e))

pub no_words : (c : Context) (ps : List Piece) → AreWordsTo c ps 0 []
no_words c ps = record { count = refl; each = λ i p lt e. absurd (omega (arith, lt)) }

pub word_step : (c : Context) (ps : List Piece) (at : ℕ) (p : Piece) (w : ℕ) (words more : List ℕ) → slice_get ps at
    ≡ Some p → Denotes w (instr_at c at (meant p)) → more ≡ words ++ w ∷ [] → AreWordsTo c ps at words → AreWordsTo c ps
    (at + 1) more
word_step c ps at p w words more here d is inv =
    let n = length-append words (w ∷ []) in
    let m = ap length is in
    let count = inv.count in
    record { count = omega (arith, n, m, count); each = λ i q lt e. each i q e (below_or_at i at lt) }
  where
    old : (i : ℕ) (q : Piece) → IsAt words i (instr_at c i (meant q)) → IsAt more i (instr_at c i (meant q))
    old i q k = record { word = ap (λ ws. slice_get ws i) is ∙ get_more words w i _ k.word; ranges = k.ranges }

    new : IsAt more at (instr_at c at (meant p))
    new =
        record {
          word = ap (λ ws. slice_get ws at) is ∙ get_last words w at inv.count ∙ ap Some (sym d.table);
          ranges = d.ranges;
        }

    some_same : {X : Type 0} (x y : X) → Some x ≡ Some y → x ≡ y
    some_same x y e = cc e

    each : (i : ℕ) (q : Piece) → slice_get ps i ≡ Some q → (i < at) ⊎ (i ≡ at) → IsAt more i (instr_at c i (meant q))
    each i q e (inl lt) = old i q (inv.each i q lt e)
    each i q e (inr same) =
        let it : p ≡ q = some_same p q (sym here ∙ sym (ap (slice_get ps) same) ∙ e) in
        subst (λ k. IsAt more k (instr_at c k (meant q))) (sym same)
        (subst (λ x. IsAt more at (instr_at c at (meant x))) it new)
