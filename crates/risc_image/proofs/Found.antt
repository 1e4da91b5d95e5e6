-- The row of a key, among rows that ascend by it.
use Rattle.std.proofs.Common.{◌≡◌, ◌≢◌, ℕ, zero, suc, ◌+◌, ◌*◌, ◌<◌, ◌≤◌, true, false, List, [], ◌∷◌, length, map}
use Rattle.std.proofs.Common.{get_or, Some, None, refl, ap, ◌∙◌, inl, inr, arith}
use Rattle.std.specs.Prelude.{nat_eq, find, slice_get}
use Rattle.std.specs.List.Sorted.{IsStrictlyIncreasing}
use Rattle.std.proofs.lemmas.Bool.{cases_lt, eq-eqb, ne_eqb}
use Rattle.std.proofs.lemmas.List.{length-map}
use Rattle.std.proofs.lemmas.Option.{slice_get_within}
use Rattle.risc_image.specs.declared.rows.TrapRow.{TrapRow}
use Rattle.risc_image.specs.declared.rows.CallRow.{CallRow}
use Rattle.risc_image.specs.Search.{KeysRise}
use Rattle.risc_image.specs.Table.{trap_rows, call_rows_of, trap_at, call_at}
use Rattle.risc_image.proofs.Checked.{get_or-key}
use Rattle.risc_image.proofs.RowLemmas.{trap_row_at, call_row_at}

-- numbers each of which is above the one before are above all before
pub rising_far : (xs : List ℕ) → IsStrictlyIncreasing xs → (j k : ℕ) → j < k → k < length xs
    → get_or xs j 0 < get_or xs k 0
rising_far xs rising j zero lt within = absurd (omega arith)
rising_far xs rising j (suc k) lt within =
    let e : suc k ≡ k + 1 = omega arith in
    let step : get_or xs k 0 < get_or xs (suc k) 0 = rw e (rising k (omega arith)) in
    elim (cases_lt j k) [
      | inl before ↦ omega (arith, rising_far xs rising j k before (omega arith), step)
      | inr after ↦ (let same : j ≡ k = omega arith in rw same step)
    ]

-- the keys after the first are above it, and ascend
rising_rest : (x : ℕ) (xs : List ℕ) → IsStrictlyIncreasing (x ∷ xs) → IsStrictlyIncreasing xs
rising_rest x xs rising k within =
    let e : suc k + 1 ≡ suc (k + 1) = omega arith in
    rw e at (rising (suc k) (omega arith))

pub find_at_key : {R : Type 0} (key : R → ℕ) (rows : List R) (k : ℕ) (row : R) (x : ℕ) → IsStrictlyIncreasing
    (map key rows) → slice_get rows k ≡ Some row → key row ≡ x
    → find (λ r. nat_eq (key r) x) rows ≡ Some row
find_at_key key [] k row x rising at is = absurd cc
find_at_key key (first ∷ rows) zero row x rising at is =
    let same : first ≡ row = cc in
    let test : nat_eq (key first) x ≡ true = eq-eqb (key first) x (ap (λ r. key r) same ∙ is) in
    rw test at
find_at_key key (first ∷ rows) (suc k) row x rising at is =
    let within : k < length rows = slice_get_within rows k row at in
    let above : key first < get_or (map key rows) k 0 = rising_far (map key (first ∷ rows)) rising 0 (suc k)
    (omega arith) (omega (arith, length-map rows key)) in
    let test : nat_eq (key first) x ≡ false = ne_eqb (key first) x
    (λ e. omega (arith, e, is, above, get_or-key key rows k row at)) in
    rw test (find_at_key key rows k row x (rising_rest (key first) (map key rows) rising) at is)

pub find_no_key : {R : Type 0} (key : R → ℕ) (rows : List R) (x : ℕ)
    → ((k : ℕ) (row : R) → slice_get rows k ≡ Some row → key row ≢ x) → find (λ r. nat_eq (key r) x) rows ≡ None
find_no_key key [] x none = refl
find_no_key key (first ∷ rows) x none =
    let test : nat_eq (key first) x ≡ false = ne_eqb (key first) x (none zero first refl) in
    rw test (find_no_key key rows x (λ k row at. none (suc k) row at))

-- the links of a trap table, and of a call table, are in its words
trap_link : (ws : List ℕ) (k : ℕ) → 3 * k + 3 ≤ length ws → get_or
    (map (λ (row : TrapRow). row.link) (trap_rows ws)) k 0 ≡ get_or ws (3 * k) 0
trap_link ws k within = get_or-key (λ (row : TrapRow). row.link) (trap_rows ws) k _ (trap_row_at ws k within)

call_link : (ws : List ℕ) (k : ℕ) → 2 * k + 2 ≤ length ws → get_or
    (map (λ (row : CallRow). row.link) (call_rows_of ws)) k 0 ≡ get_or ws (2 * k) 0
call_link ws k within = get_or-key (λ (row : CallRow). row.link) (call_rows_of ws) k _ (call_row_at ws k within)

pub trap_links_rise : (ws : List ℕ) (count : ℕ) → 3 * count ≤ length ws → count ≡ length (trap_rows ws)
    → IsStrictlyIncreasing (map (λ (row : TrapRow). row.link) (trap_rows ws)) → KeysRise 3 count ws
trap_links_rise ws count fits rows rising j k lt within =
    omega (
      arith,
      rising_far (map (λ (row : TrapRow). row.link) (trap_rows ws)) rising j k lt
          (omega (arith, length-map (trap_rows ws) (λ (row : TrapRow). row.link))),
      trap_link ws j
          (omega arith),
      trap_link ws k (omega arith),
    )

pub call_links_rise : (ws : List ℕ) (count : ℕ) → 2 * count ≤ length ws → count ≡ length (call_rows_of ws)
    → IsStrictlyIncreasing (map (λ (row : CallRow). row.link) (call_rows_of ws)) → KeysRise 2 count ws
call_links_rise ws count fits rows rising j k lt within =
    omega (
      arith,
      rising_far (map (λ (row : CallRow). row.link) (call_rows_of ws)) rising j k lt
          (omega (arith, length-map (call_rows_of ws) (λ (row : CallRow). row.link))),
      call_link ws j
          (omega arith),
      call_link ws k (omega arith),
    )

-- where no row has the link, and where a row has it
pub trap_absent : (ws : List ℕ) (count x : ℕ) → 3 * count ≤ length ws → count ≡ length (trap_rows ws)
    → ((k : ℕ) → k < count → get_or ws (3 * k) 0 ≢ x) → trap_at x (trap_rows ws) ≡ None
trap_absent ws count x fits rows none =
    find_no_key (λ (row : TrapRow). row.link) (trap_rows ws) x (λ k row at same.
    let within : k < count = omega (arith, slice_get_within (trap_rows ws) k row at) in
    none k within (omega (
      arith,
      trap_link ws k (omega arith),
      get_or-key (λ (row : TrapRow). row.link)
          (trap_rows ws) k row at,
      same,
    )))

pub trap_present : (ws : List ℕ) (count x k : ℕ) (row : TrapRow) → 3 * count ≤ length ws → count ≡ length (trap_rows ws)
    → IsStrictlyIncreasing (map (λ (row : TrapRow). row.link) (trap_rows ws))
    → k < count → get_or ws (3 * k) 0 ≡ x → slice_get (trap_rows ws) k ≡ Some row → trap_at x (trap_rows ws) ≡ Some row
trap_present ws count x k row fits rows rising within is at =
    find_at_key (λ (row : TrapRow). row.link) (trap_rows ws) k row x rising at
    (omega (
      arith,
      trap_link ws k (omega arith),
      get_or-key (λ (row : TrapRow). row.link)
          (trap_rows ws) k row at,
      is,
    ))

pub call_absent : (ws : List ℕ) (count x : ℕ) → 2 * count ≤ length ws → count ≡ length (call_rows_of ws)
    → ((k : ℕ) → k < count → get_or ws (2 * k) 0 ≢ x) → call_at x (call_rows_of ws) ≡ None
call_absent ws count x fits rows none =
    find_no_key (λ (row : CallRow). row.link) (call_rows_of ws) x (λ k row at same.
    let within : k < count = omega (arith, slice_get_within (call_rows_of ws) k row at) in
    none k within (omega (
      arith,
      call_link ws k (omega arith),
      get_or-key (λ (row : CallRow). row.link)
          (call_rows_of ws) k row at,
      same,
    )))

pub call_present : (ws : List ℕ) (count x k : ℕ) (row : CallRow) → 2 * count ≤ length ws → count ≡ length
    (call_rows_of ws) → IsStrictlyIncreasing (map (λ (row : CallRow). row.link) (call_rows_of ws))
    → k < count → get_or ws (2 * k) 0 ≡ x → slice_get (call_rows_of ws) k ≡ Some row → call_at x (call_rows_of ws)
    ≡ Some row
call_present ws count x k row fits rows rising within is at =
    find_at_key (λ (row : CallRow). row.link) (call_rows_of ws) k row x rising at
    (omega (
      arith,
      call_link ws k (omega arith),
      get_or-key (λ (row : CallRow). row.link)
          (call_rows_of ws) k row at,
      is,
    ))
