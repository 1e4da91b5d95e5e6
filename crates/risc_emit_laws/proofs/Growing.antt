-- A program's pieces, and the rows of its tables, as they are written one after the other.
use Rattle.std.proofs.Common.{◌≡◌, ℕ, zero, suc, ◌+◌, List, [], ◌∷◌, ◌++◌, length, take, append_assoc, Some, slice_get}
use Rattle.std.proofs.Common.{sym, ap, ◌∙◌, arith}
use Rattle.std.proofs.lemmas.List.{append-nil}
use Rattle.tac_code.specs.declared.code.Instruction.{Instruction}
use Rattle.tac_code.specs.declared.code.TacRoutine.{TacRoutine}
use Rattle.risc_emit_relation.specs.Context.{Context}
use Rattle.risc_emit_forms.specs.Pieces.{Piece}
use Rattle.risc_emit_forms.specs.Forms.{form}
use Rattle.risc_emit_laws.specs.Drawn.{body_pieces, routine_pieces, routines_pieces, trap_row_of, trap_rows_of}
use Rattle.risc_emit_laws.specs.Drawn.{call_row_of, call_rows_of}

module _ (c : Context) where
  -- the pieces of one more instruction
  body_more : (r k : ℕ) (is : List Instruction) (j : ℕ) (i : Instruction) → slice_get is j ≡ Some i → body_pieces c r k
      (take (suc j) is) ≡ body_pieces c r k (take j is) ++ form c r (k + j) i
  body_more r k [] j i e = absurd (cc e)
  body_more r k (x ∷ is) zero i e =
      let same : x ≡ i = cc e in
      let n : k ≡ k + 0 = omega arith in
      append-nil (form c r k x) ∙ ap (form c r k) same ∙ ap (λ q. form c r q i) n
  body_more r k (x ∷ is) (suc j) i e =
      let n : suc k + j ≡ k + suc j = omega arith in
      ap (λ ps. form c r k x ++ ps) (body_more r (suc k) is j i e
      ∙ ap (λ q. body_pieces c r (suc k) (take j is) ++ form c r q i) n) ∙ sym
      (append_assoc (form c r k x) (body_pieces c r (suc k) (take j is)) (form c r (k + suc j) i))

  pub body_grows : (r : ℕ) (is : List Instruction) (j : ℕ) (i : Instruction) → slice_get is j ≡ Some i
      → body_pieces c r 0 (take (suc j) is) ≡ body_pieces c r 0 (take j is) ++ form c r j i
  body_grows r is j i e =
      let n : 0 + j ≡ j = omega arith in
      body_more r 0 is j i e ∙ ap (λ q. body_pieces c r 0 (take j is) ++ form c r q i) n

  -- the pieces of one more routine
  routines_more : (r : ℕ) (xs : List TacRoutine) (j : ℕ) (x : TacRoutine) → slice_get xs j ≡ Some x
      → routines_pieces c r (take (suc j) xs) ≡ routines_pieces c r (take j xs) ++ routine_pieces c (r + j) x
  routines_more r [] j x e = absurd (cc e)
  routines_more r (y ∷ xs) zero x e =
      let same : y ≡ x = cc e in
      let n : r ≡ r + 0 = omega arith in
      append-nil (routine_pieces c r y) ∙ ap (routine_pieces c r) same ∙ ap (λ q. routine_pieces c q x) n
  routines_more r (y ∷ xs) (suc j) x e =
      let n : suc r + j ≡ r + suc j = omega arith in
      ap (λ ps. routine_pieces c r y ++ ps) (routines_more (suc r) xs j x e
      ∙ ap (λ q. routines_pieces c (suc r) (take j xs) ++ routine_pieces c q x) n) ∙ sym
      (append_assoc (routine_pieces c r y) (routines_pieces c (suc r) (take j xs)) (routine_pieces c (r + suc j) x))

  pub routines_grow : (xs : List TacRoutine) (j : ℕ) (x : TacRoutine) → slice_get xs j ≡ Some x → routines_pieces c 0
      (take (suc j) xs) ≡ routines_pieces c 0 (take j xs) ++ routine_pieces c j x
  routines_grow xs j x e =
      let n : 0 + j ≡ j = omega arith in
      routines_more 0 xs j x e ∙ ap (λ q. routines_pieces c 0 (take j xs) ++ routine_pieces c q x) n

-- the rows of one more piece
traps_more : (ps : List Piece) (at : ℕ) (p : Piece) → trap_rows_of at (ps ++ p ∷ []) ≡ trap_rows_of at ps ++ trap_row_of
    (at + length ps) p
traps_more [] at p =
    let n : at ≡ at + 0 = omega arith in append-nil (trap_row_of at p) ∙ ap (λ q. trap_row_of q p) n
traps_more (x ∷ ps) at p =
    let n : at + 1 + length ps ≡ at + suc (length ps) = omega arith in
    ap (λ rows. trap_row_of at x ++ rows) (traps_more ps (at + 1) p
    ∙ ap (λ q. trap_rows_of (at + 1) ps ++ trap_row_of q p) n) ∙ sym
    (append_assoc (trap_row_of at x) (trap_rows_of (at + 1) ps) (trap_row_of (at + suc (length ps)) p))

pub traps_grow : (ps : List Piece) (p : Piece) → trap_rows_of 0 (ps ++ p ∷ []) ≡ trap_rows_of 0 ps ++ trap_row_of
    (length ps) p
traps_grow ps p =
    let n : 0 + length ps ≡ length ps = omega arith in
    traps_more ps 0 p ∙ ap (λ q. trap_rows_of 0 ps ++ trap_row_of q p) n

calls_more : (ps : List Piece) (at : ℕ) (p : Piece) → call_rows_of at (ps ++ p ∷ []) ≡ call_rows_of at ps ++ call_row_of
    (at + length ps) p
calls_more [] at p =
    let n : at ≡ at + 0 = omega arith in append-nil (call_row_of at p) ∙ ap (λ q. call_row_of q p) n
calls_more (x ∷ ps) at p =
    let n : at + 1 + length ps ≡ at + suc (length ps) = omega arith in
    ap (λ rows. call_row_of at x ++ rows) (calls_more ps (at + 1) p
    ∙ ap (λ q. call_rows_of (at + 1) ps ++ call_row_of q p) n) ∙ sym
    (append_assoc (call_row_of at x) (call_rows_of (at + 1) ps) (call_row_of (at + suc (length ps)) p))

pub calls_grow : (ps : List Piece) (p : Piece) → call_rows_of 0 (ps ++ p ∷ []) ≡ call_rows_of 0 ps ++ call_row_of
    (length ps) p
calls_grow ps p =
    let n : 0 + length ps ≡ length ps = omega arith in
    calls_more ps 0 p ∙ ap (λ q. call_rows_of 0 ps ++ call_row_of q p) n
