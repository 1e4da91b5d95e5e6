-- Each link of a stop or a call finds its row in the tables that are read off the pieces.
use Rattle.std.proofs.Common.{◌≡◌, ◌≢◌, ℕ, zero, suc, ◌+◌, ◌*◌, ◌<◌, false, cond, List, [], ◌∷◌, ◌++◌, Some}
use Rattle.std.proofs.Common.{slice_get, refl, ap, ◌∙◌, subst, arith}
use Rattle.std.specs.Prelude.{nat_eq}
use Rattle.tac_code.proofs.Numbers.{eq_same}
use Rattle.risc_word.specs.declared.instr.Condition.{Condition}
use Rattle.risc_image.specs.declared.rows.TrapRow.{TrapRow}
use Rattle.risc_image.specs.declared.rows.CallRow.{CallRow}
use Rattle.risc_image.specs.Table.{trap_at, call_at}
use Rattle.risc_emit_forms.specs.Pieces.{Piece, Plain, Goes, Fails, Enters, Joins, EntersAt, High, Low}
use Rattle.risc_emit_laws.specs.Drawn.{trap_row_of, trap_rows_of, call_row_of, call_rows_of}

other_link : (m n : ℕ) → m ≢ n → nat_eq m n ≡ false
other_link m n ne = grind (arith, ne)

-- ---- traps

trap_past : (row : TrapRow) (link : ℕ) (rows : List TrapRow) → row.link ≢ link → trap_at link (row ∷ rows)
    ≡ trap_at link rows
trap_past row link rows ne = ap (λ b. cond b (Some row) (trap_at link rows)) (other_link row.link link ne)

-- a row of a place before is no row of a link
trap_skip : (p : Piece) (at link : ℕ) (rows : List TrapRow) → 4 * (at + 1) < link → trap_at link
    (trap_row_of at p ++ rows) ≡ trap_at link rows
trap_skip (Fails condition number line) at link rows lt = trap_past _ link rows (omega (arith, lt))
trap_skip (Plain i) at link rows lt = refl
trap_skip (Goes condition label) at link rows lt = refl
trap_skip (Enters r line) at link rows lt = refl
trap_skip (Joins r) at link rows lt = refl
trap_skip (EntersAt q line) at link rows lt = refl
trap_skip (High q label) at link rows lt = refl
trap_skip (Low q label) at link rows lt = refl

trap_here : (row : TrapRow) (link : ℕ) (rows : List TrapRow) → row.link ≡ link → trap_at link (row ∷ rows) ≡ Some row
trap_here row link rows e = ap (λ b. cond b (Some row) (trap_at link rows)) (ap (λ n. nat_eq n link) e ∙ eq_same link)

pub trap_found : (ps : List Piece) (at k : ℕ) (condition : Condition) (number line : ℕ) → slice_get ps k ≡ Some
    (Fails condition number line) → trap_at (4 * (at + k + 1)) (trap_rows_of at ps) ≡ Some (record {
      link = 4 * (at + k + 1);
      error = number;
      line = line;
    })
trap_found [] at k condition number line e = absurd (cc e)
trap_found (p ∷ ps) at zero condition number line e =
    let is : p ≡ Fails condition number line = cc e in
    let n : 4 * (at + 1) ≡ 4 * (at + 0 + 1) = omega arith in
    ap (λ p. trap_at (4 * (at + 0 + 1)) (trap_row_of at p ++ trap_rows_of (at + 1) ps)) is ∙ trap_here (record {
      link = 4 * (at + 1);
      error = number;
      line = line;
    }) (4 * (at + 0 + 1)) (trap_rows_of (at + 1) ps) n ∙ ap (λ l. Some (record {
      link = l;
      error = number;
      line = line;
    })) n
trap_found (p ∷ ps) at (suc k) condition number line e =
    let n : at + 1 + k ≡ at + suc k = omega arith in
    trap_skip p at (4 * (at + suc k + 1)) (trap_rows_of (at + 1) ps) (omega arith) ∙ subst
    (λ m. trap_at (4 * (m + 1)) (trap_rows_of (at + 1) ps) ≡ Some (record {
      link = 4 * (m + 1);
      error = number;
      line = line;
    })) n (trap_found ps (at + 1) k condition number line e)

-- ---- calls

call_past : (row : CallRow) (link : ℕ) (rows : List CallRow) → row.link ≢ link → call_at link (row ∷ rows)
    ≡ call_at link rows
call_past row link rows ne = ap (λ b. cond b (Some row) (call_at link rows)) (other_link row.link link ne)

call_skip : (p : Piece) (at link : ℕ) (rows : List CallRow) → 4 * (at + 1) < link → call_at link
    (call_row_of at p ++ rows) ≡ call_at link rows
call_skip (Enters r line) at link rows lt = call_past _ link rows (omega (arith, lt))
call_skip (EntersAt q line) at link rows lt = call_past _ link rows (omega (arith, lt))
call_skip (Fails condition number line) at link rows lt = refl
call_skip (Plain i) at link rows lt = refl
call_skip (Goes condition label) at link rows lt = refl
call_skip (Joins r) at link rows lt = refl
call_skip (High q label) at link rows lt = refl
call_skip (Low q label) at link rows lt = refl

call_here : (row : CallRow) (link : ℕ) (rows : List CallRow) → row.link ≡ link → call_at link (row ∷ rows) ≡ Some row
call_here row link rows e = ap (λ b. cond b (Some row) (call_at link rows)) (ap (λ n. nat_eq n link) e ∙ eq_same link)

-- the piece's own row is that of a call
pub call_found : (ps : List Piece) (at k line : ℕ) (p : Piece) → ((n : ℕ) → call_row_of n p ≡ record {
  link = 4 * (n + 1);
  line = line;
} ∷ []) → slice_get ps k ≡ Some p → call_at (4 * (at + k + 1)) (call_rows_of at ps) ≡ Some (record {
  link = 4 * (at + k + 1);
  line = line;
})
call_found [] at k line p own e = absurd (cc e)
call_found (q ∷ ps) at zero line p own e =
    let is : q ≡ p = cc e in
    let n : 4 * (at + 1) ≡ 4 * (at + 0 + 1) = omega arith in
    ap (λ q. call_at (4 * (at + 0 + 1)) (call_row_of at q ++ call_rows_of (at + 1) ps)) is
    ∙ ap (λ l. call_at (4 * (at + 0 + 1)) (l ++ call_rows_of (at + 1) ps)) (own at) ∙ call_here (record {
      link = 4 * (at + 1);
      line = line;
    }) (4 * (at + 0 + 1)) (call_rows_of (at + 1) ps) n ∙ ap (λ l. Some (record {
      link = l;
      line = line;
    })) n
call_found (q ∷ ps) at (suc k) line p own e =
    let n : at + 1 + k ≡ at + suc k = omega arith in
    call_skip q at (4 * (at + suc k + 1)) (call_rows_of (at + 1) ps) (omega arith) ∙ subst
    (λ m. call_at (4 * (m + 1)) (call_rows_of (at + 1) ps) ≡ Some (record {
      link = 4 * (m + 1);
      line = line;
    })) n (call_found ps (at + 1) k line p own e)
