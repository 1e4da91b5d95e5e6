-- Under the table by which all stays, each instruction stays what it is.
use Rattle.std.proofs.Common.{◌≡◌, ◌≢◌, ℕ, zero, suc, ◌+◌, ◌<◌, true, ◌&&◌, nat_eq, List, [], ◌∷◌}
use Rattle.std.proofs.Common.{length, slice_get, slice_set, map, Option, Some, None, refl, sym, ◌∙◌, subst, ap, arith}
use Rattle.std.specs.List.{All}
use Rattle.std.proofs.lemmas.Bool.{eq-eqb, ne_eqb, and_from}
use Rattle.std.proofs.lemmas.List.{length-map}
use Rattle.tac_code.specs.declared.check.Limits.{Limits}
use Rattle.tac_code.specs.declared.code.Base.{Base}
use Rattle.tac_code.specs.declared.code.Base.TheVariants as base
use Rattle.tac_code.specs.declared.code.Operand.{Operand}
use Rattle.tac_code.specs.declared.code.Operand.TheVariants as operand
use Rattle.tac_code.specs.declared.code.Instruction.{Instruction}
use Rattle.tac_code.specs.declared.code.Instruction.TheVariants.{Load, Store}
use Rattle.tac_code.specs.Sound.{IsOperand, IsBase, AreOperands}
use Rattle.tac_code.proofs.Items.{set_length}
use Rattle.tac_pass.specs.declared.table.Reach.{Reach}
use Rattle.tac_pass.specs.declared.table.Reach.TheVariants.{Anywhere, Within}
use Rattle.tac_pass.specs.declared.table.Known.{Known}
use Rattle.tac_pass.specs.Tables.{Table, nowhere, or_unknown, known_in, freed, give, find, is_no_more, is_within}
use Rattle.tac_pass.specs.Tables.{holds_no_more, all_no_more, is_forgetful}
use Rattle.tac_pass.specs.Acts.{holder, renamed_right, renamed_base, renamed_list, own_word, makes, kept}
use Rattle.tac_pass.specs.Walk.{IsMade}
use Rattle.tac_pass.proofs.Placing.{forgetful_itself}

-- ---- rows

abbrev pub row : ℕ → Known
row u = record { holder = Some u; reach = Anywhere }

abbrev pub rows : ℕ → ℕ → List Known
rows u zero = []
rows u (suc n) = row u ∷ rows (suc u) n

length_rows : (n u : ℕ) → length (rows u n) ≡ n
length_rows zero u = refl
length_rows (suc n) u = ap suc (length_rows n (suc u))

row_at : (n u k : ℕ) → k < n → slice_get (rows u n) k ≡ Some (row (u + k))
row_at zero u k lt = absurd (omega (arith, lt))
row_at (suc n) u zero lt = let e : u ≡ u + 0 = omega arith in ap (λ (x : ℕ). Some (row x)) e
row_at (suc n) u (suc k) lt =
    let low : k < n = omega (arith, lt) in
    let e : suc u + k ≡ u + suc k = omega arith in
    row_at n (suc u) k low ∙ ap (λ (x : ℕ). Some (row x)) e

anywhere_within : (x : Reach) → is_within x Anywhere ≡ true
anywhere_within Anywhere = refl
anywhere_within (Within low high) = refl

-- a value that stands in its own temporary is claimed no less than that it does
stands : (x : Known) (u : ℕ) → x.holder ≡ Some u → is_no_more x (row u) ≡ true
stands x u e =
    and_from (holds_no_more x.holder (Some u)) (is_within x.reach Anywhere)
    (subst (λ (o : Option ℕ). holds_no_more o (Some u) ≡ true) (sym e) (eq-eqb u u refl)) (anywhere_within x.reach)

all_stand : (n u : ℕ) → all_no_more is_no_more (rows u n) (rows u n) ≡ true
all_stand zero u = refl
all_stand (suc n) u =
    and_from (is_no_more (row u) (row u)) (all_no_more is_no_more (rows (suc u) n) (rows (suc u) n))
    (stands (row u) u refl) (all_stand n (suc u))

-- another temporary was freed
freed_holder : (t u : ℕ) → u ≢ t → (freed t (row u)).holder ≡ Some u
freed_holder t u ne = rw (ne_eqb u t ne) refl

freed_above : (n u t : ℕ) → t < u → all_no_more is_no_more (map (freed t) (rows u n)) (rows u n) ≡ true
freed_above zero u t lt = refl
freed_above (suc n) u t lt =
    let ne : u ≢ t = omega (arith, lt) in
    let low : t < suc u = omega (arith, lt) in
    and_from (is_no_more (freed t (row u)) (row u))
    (all_no_more is_no_more (map (freed t) (rows (suc u) n)) (rows (suc u) n))
    (stands (freed t (row u)) u (freed_holder t u ne)) (freed_above n (suc u) t low)

-- a temporary and the one of its number were given a value
given_all : (n u k t : ℕ) (x : Known) → t ≡ u + k → x.holder ≡ Some t → k < n → all_no_more is_no_more
    (slice_set (map (freed t) (rows u n)) k x) (rows u n) ≡ true
given_all zero u k t x e h lt = absurd (omega (arith, lt))
given_all (suc n) u zero t x e h lt =
    let same : t ≡ u = omega (arith, e) in
    let low : t < suc u = omega (arith, e) in
    and_from (is_no_more x (row u)) (all_no_more is_no_more (map (freed t) (rows (suc u) n)) (rows (suc u) n))
    (stands x u (h ∙ ap (λ (k : ℕ). Some k) same)) (freed_above n (suc u) t low)
given_all (suc n) u (suc k) t x e h lt =
    let ne : u ≢ t = omega (arith, e) in
    let low : k < n = omega (arith, lt) in
    let f : t ≡ suc u + k = omega (arith, e) in
    and_from (is_no_more (freed t (row u)) (row u))
    (all_no_more is_no_more (slice_set (map (freed t) (rows (suc u) n)) k x) (rows (suc u) n))
    (stands (freed t (row u)) u (freed_holder t u ne)) (given_all n (suc u) k t x f h low)

-- something else is known of a temporary
known_all : (n u k t : ℕ) (x : Known) → t ≡ u + k → x.holder ≡ Some t → k < n → all_no_more is_no_more
    (slice_set (rows u n) k x) (rows u n) ≡ true
known_all zero u k t x e h lt = absurd (omega (arith, lt))
known_all (suc n) u zero t x e h lt =
    let same : t ≡ u = omega (arith, e) in
    and_from (is_no_more x (row u)) (all_no_more is_no_more (rows (suc u) n) (rows (suc u) n))
    (stands x u (h ∙ ap (λ (k : ℕ). Some k) same)) (all_stand n (suc u))
known_all (suc n) u (suc k) t x e h lt =
    let low : k < n = omega (arith, lt) in
    let f : t ≡ suc u + k = omega (arith, e) in
    and_from (is_no_more (row u) (row u)) (all_no_more is_no_more (slice_set (rows (suc u) n) k x) (rows (suc u) n))
    (stands (row u) u refl) (known_all n (suc u) k t x f h low)

-- ---- the table

abbrev pub table : ℕ → Table
table n = record { temporaries = rows 0 n; words = [] }

-- as many rows, and no less is claimed
forgets : (n : ℕ) (list : List Known) → length list ≡ n → all_no_more is_no_more list (rows 0 n) ≡ true
    → is_forgetful (record { temporaries = list; words = [] }) (table n) ≡ true
forgets n list e f =
    and_from (nat_eq (length list) (length (rows 0 n)))
    (all_no_more is_no_more list (rows 0 n) && true)
    (eq-eqb (length list) (length (rows 0 n)) (e ∙ sym (length_rows n 0)))
    (and_from (all_no_more is_no_more list (rows 0 n)) true f refl)

module _ (n : ℕ) where
  pub holds : (u : ℕ) → u < n → holder (table n) u ≡ Some u
  holds u lt =
      let e : 0 + u ≡ u = omega arith in
      ap (λ (o : Option Known). (or_unknown o).holder) (row_at n 0 u lt) ∙ ap (λ (k : ℕ). Some k) e

  given_forgets : (t : ℕ) → t < n → (reach : Reach) → is_forgetful (give t t reach (table n)) (table n) ≡ true
  given_forgets t lt reach =
      let x : Known = record { holder = Some t; reach = reach } in
      let e : t ≡ 0 + t = omega arith in
      forgets n (slice_set (map (freed t) (rows 0 n)) t x)
      (set_length (map (freed t) (rows 0 n)) t x ∙ (length-map (rows 0 n) (freed t) ∙ length_rows n 0))
      (given_all n 0 t t x e refl lt)

  pub found_forgets : (t : ℕ) → t < n → is_forgetful (find t (table n)) (table n) ≡ true
  found_forgets t lt =
      let x : Known = record { holder = (known_in (table n) t).holder; reach = nowhere } in
      let e : t ≡ 0 + t = omega arith in
      forgets n (slice_set (rows 0 n) t x) (set_length (rows 0 n) t x ∙ length_rows n 0)
      (known_all n 0 t t x e (holds t lt) lt)

  right_stays : (b : Operand) → IsOperand n b → renamed_right (table n) b ≡ Some b
  right_stays (operand.Temporary u) lt = rw (holds u lt) refl
  right_stays (operand.Number z) s = refl

  pub base_stays : (l : Limits) → l.temporaries ≡ n → (b : Base) (offset bytes : ℕ) → IsBase l b offset bytes
      → renamed_base (table n) b ≡ Some b
  base_stays l e base.Frame offset bytes s = refl
  base_stays l e base.Scratch offset bytes s = refl
  base_stays l e base.Program offset bytes s = refl
  base_stays l e (base.Temporary u) offset bytes s =
      rw (holds u (subst (λ (k : ℕ). u < k) e s)) refl

  list_stays : (list : List ℕ) → All (λ t. t < n) list → renamed_list (table n) list ≡ Some list
  list_stays [] s = refl
  list_stays (u ∷ list) s =
      let zeroth : 0 < length (u ∷ list) = omega arith in
      let first : u < n = s 0 0 zeroth in
      let others : All (λ t. t < n) list = λ k d lt.
      (let low : suc k < length (u ∷ list) = omega (arith, lt) in s (suc k) d low) in
      rw (holds u first) (rw (list_stays list others) refl)

  -- ---- each instruction

  -- what is made of it is itself, and all stays claimed
  pub record Stays (r : ℕ) (i : Instruction) : Type 0 where
    pub holder : ℕ
    pub left : Table
    pub made : IsMade (kept r [] (table n) holder i) i left
    pub forgets : is_forgetful left (table n) ≡ true

  pub gives : (r t : ℕ) (i : Instruction) (reach : Reach) → t < n
      → kept r [] (table n) t i ≡ makes i (give t t reach (table n)) → Stays r i
  gives r t i reach lt e =
      record { holder = t; left = give t t reach (table n); made = e; forgets = given_forgets t lt reach }

  pub leaves : (r : ℕ) (i : Instruction) → kept r [] (table n) 0 i ≡ makes i (table n) → Stays r i
  leaves r i e = record { holder = 0; left = table n; made = e; forgets = forgetful_itself (table n) }

  module _ (r : ℕ) (l : Limits) (e : l.temporaries ≡ n) where
    pub low : (t : ℕ) → t < l.temporaries → t < n
    low t lt = subst (λ (k : ℕ). t < k) e lt

    pub right : (b : Operand) → IsOperand l.temporaries b → renamed_right (table n) b ≡ Some b
    right b s = right_stays b (subst (λ (k : ℕ). IsOperand k b) e s)

    pub list : (us : List ℕ) → AreOperands l.temporaries us → renamed_list (table n) us ≡ Some us
    list us s = list_stays us (subst (λ (k : ℕ). All (λ t. t < k) us) e s.1)

    -- a word of the own frame, or not
    pub load_stays : (t : ℕ) (b : Base) (offset : ℕ) → t < n → IsBase l b offset 4 → Stays r (Load t b offset)
    load_stays t base.Frame offset lt s = which (own_word base.Frame offset) refl
      where
        which : (o : Option ℕ) → own_word base.Frame offset ≡ o → Stays r (Load t base.Frame offset)
        which None f = gives r t (Load t base.Frame offset) Anywhere lt (rw f refl)
        which (Some k) f = gives r t (Load t base.Frame offset) Anywhere lt (rw f refl)
    load_stays t base.Scratch offset lt s = gives r t (Load t base.Scratch offset) Anywhere lt refl
    load_stays t base.Program offset lt s = gives r t (Load t base.Program offset) Anywhere lt refl
    load_stays t (base.Temporary u) offset lt s =
        gives r t (Load t (base.Temporary u) offset) Anywhere lt
        (rw (base_stays l e (base.Temporary u) offset 4 s) refl)

    pub store_stays : (b : Base) (offset a : ℕ) → a < n → IsBase l b offset 4 → Stays r (Store b offset a)
    store_stays base.Frame offset a lt s = which (own_word base.Frame offset) refl
      where
        which : (o : Option ℕ) → own_word base.Frame offset ≡ o → Stays r (Store base.Frame offset a)
        which None f = leaves r (Store base.Frame offset a) (rw f (rw (holds a lt) refl))
        which (Some k) f = leaves r (Store base.Frame offset a) (rw f (rw (holds a lt) refl))
    store_stays base.Scratch offset a lt s = leaves r (Store base.Scratch offset a) (rw (holds a lt) refl)
    store_stays base.Program offset a lt s = leaves r (Store base.Program offset a) (rw (holds a lt) refl)
    store_stays (base.Temporary u) offset a lt s =
        leaves r (Store (base.Temporary u) offset a) (rw (base_stays l e (base.Temporary u) offset 4 s)
        (rw (holds a lt) refl))
