-- Links between two rows of a trap table, which no row has.
use Rattle.std.proofs.Common.{◌≡◌, ◌≢◌, ℕ, zero, suc, ◌+◌, ◌<◌, ◌≤◌, false, cond, List, [], ◌∷◌, map, None, Some}
use Rattle.std.proofs.Common.{slice_get, slice_index, refl, ap, sym, subst, ◌∙◌, arith}
use Rattle.std.specs.Prelude.{⊤, nat_eq}
use Rattle.std.specs.List.Sorted.{IsStrictlyIncreasing}
use Rattle.risc_image.specs.declared.rows.TrapRow.{TrapRow}
use Rattle.risc_image.specs.Table.{trap_at}

abbrev pub Links : List TrapRow → List ℕ
Links rows = map (λ row. row.link) rows

abbrev Rises : List TrapRow → Type 0
Rises [] = ⊤
Rises (row ∷ []) = ⊤
Rises (row ∷ next ∷ rest) = (row.link < next.link) × Rises (next ∷ rest)

tail_increases : (link : ℕ) (links : List ℕ) → IsStrictlyIncreasing (link ∷ links) → IsStrictlyIncreasing links
tail_increases link links rising = λ k within.
    let next : suc k + 1 ≡ suc (k + 1) = omega arith in
    subst (λ m. slice_index links k < slice_index (link ∷ links) m) next (rising (suc k) (omega (arith, within)))

rises : (rows : List TrapRow) → IsStrictlyIncreasing (Links rows) → Rises rows
rises [] rising = tt
rises (row ∷ []) rising = tt
rises (row ∷ next ∷ rest) rising =
    (rising 0 (omega arith), rises (next ∷ rest) (tail_increases row.link (Links (next ∷ rest)) rising))

other_link : (m n : ℕ) → m ≢ n → nat_eq m n ≡ false
other_link m n ne = grind (arith, ne)

past : (row : TrapRow) (link : ℕ) (rows : List TrapRow) → row.link ≢ link → trap_at link (row ∷ rows) ≡ trap_at link rows
past row link rows ne = ap (λ b. cond b (Some row) (trap_at link rows)) (other_link row.link link ne)

-- the rest of a table whose first row comes after a link
above : (rows : List TrapRow) (link : ℕ) → Rises rows → ((row : TrapRow) → slice_get rows 0 ≡ Some row → link < row.link)
    → trap_at link rows ≡ None
above [] link rising first = refl
above (row ∷ []) link rising first =
    let later : link < row.link = first row refl in
    past row link [] (omega (arith, later))
above (row ∷ next ∷ rest) link rising first =
    let later : link < row.link = first row refl in
    past row link (next ∷ rest) (omega (arith, later))
    ∙ above (next ∷ rest) link rising.1 (λ other is.
    let same : next ≡ other = cc in
    subst (λ r. link < r.link) same (omega (arith, later, rising.0)))

-- the first row is the least
least : (first : TrapRow) (rest : List TrapRow) (k : ℕ) (row : TrapRow) → Rises (first ∷ rest)
    → slice_get (first ∷ rest) k ≡ Some row → first.link ≤ row.link
least first rest zero row rising is =
    let same : first ≡ row = cc in
    subst (λ r. first.link ≤ r.link) same (omega arith)
least first [] (suc k) row rising is = absurd (cc)
least first (next ∷ rest) (suc k) row rising is = omega (arith, rising.0, least next rest k row rising.1 is)

tail_rises : (row : TrapRow) (rows : List TrapRow) → Rises (row ∷ rows) → Rises rows
tail_rises row [] rising = tt
tail_rises row (next ∷ rest) rising = rising.1

by_rises : (rows : List TrapRow) (k link : ℕ) (row : TrapRow) → Rises rows → slice_get rows k ≡ Some row
    → row.link < link → ((next : TrapRow) → slice_get rows (suc k) ≡ Some next → link < next.link) → trap_at link rows ≡ None
by_rises [] k link row rising is behind before = refl
by_rises (first ∷ rest) zero link row rising is behind before =
    let same : first ≡ row = cc in
    let low : first.link < link = subst (λ r. r.link < link) (sym same) behind in
    past first link rest (omega (arith, low)) ∙ above rest link (tail_rises first rest rising) before
by_rises (first ∷ rest) (suc k) link row rising is behind before =
    let low : first.link ≤ row.link = least first rest (suc k) row rising is in
    past first link rest (omega (arith, low, behind))
    ∙ by_rises rest k link row (tail_rises first rest rising) is behind before

pub between : (rows : List TrapRow) (k link : ℕ) (row : TrapRow) → IsStrictlyIncreasing (Links rows)
    → slice_get rows k ≡ Some row → row.link < link
    → ((next : TrapRow) → slice_get rows (k + 1) ≡ Some next → link < next.link) → trap_at link rows ≡ None
between rows k link row rising is behind before =
    let next : k + 1 ≡ suc k = omega arith in
    by_rises rows k link row (rises rows rising) is behind
    (subst (λ m. (next : TrapRow) → slice_get rows m ≡ Some next → link < next.link) next before)
