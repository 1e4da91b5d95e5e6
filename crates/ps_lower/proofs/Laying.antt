-- Tables of entries, made one by one and looked up.
use Rattle.std.proofs.Common.{◌≡◌, ℕ, zero, suc, ◌+◌, ◌*◌, ◌<◌, ◌≤◌, false, List, [], ◌∷◌, ◌++◌, length, drop, map}
use Rattle.std.proofs.Common.{get_or, slice_get, refl, sym, ap, subst, ◌∙◌, append_assoc, arith}
use Rattle.std.proofs.Math.Seq.{drop-cons}
use Rattle.std.proofs.lemmas.List.{append-nil, drop_all, get_or_past, get_or-map, length-map}
use Rattle.std.proofs.lemmas.Option.{slice_get_past}
use Rattle.ps_lower_bounds.proofs.Cells.{words_both}
use Rattle.ps_tree.specs.Tree as t
use Rattle.ps_tree.specs.declared.types.Ty.{Ty}
use Rattle.ps_tree.specs.declared.tree.statements.Formal.{Formal}
use Rattle.ps_tree.specs.declared.tree.statements.Routine.{Routine}
use Rattle.ps_tree.specs.View.{type_of, formal_of, formals_of, routine_of}
use Rattle.ps_lower_layout.specs.Shapes.{shape_of}
use Rattle.ps_lower_layout.specs.Frames.{Kind, Own, kind_of, kinds_of, listed_kinds, variable_kinds, kind_words}
use Rattle.ps_lower_layout.specs.Frames.{words_of_all, places_from, entries, entry_offset, layout_of}
use Rattle.ps_lower.specs.Levels.{is_reference_at}
use Rattle.ps_lower.specs.Tables.{spot_at, spots_from, Contents, contents_of, contents_in, AreTables}
use Rattle.ps_lower.specs.declared.frame.Spot.{Spot}
use Rattle.ps_lower.specs.declared.frame.Table.{Table}

map_on : {A B : Type 0} (f : A → B) (a b : List A) → map f (a ++ b) ≡ map f a ++ map f b
map_on f [] b = refl
map_on f (x ∷ a) b = ap (λ l. f x ∷ l) (map_on f a b)

-- entries of several sorts
pub spots_on : (a b : List Kind) (p : ℕ) → spots_from p (a ++ b) ≡ spots_from p a ++ spots_from (p + words_of_all a) b
spots_on [] b p = let e : p ≡ p + 0 = omega arith in ap (λ n. spots_from n b) e
spots_on (kind ∷ rest) b p =
    ap (λ l. spot_at p kind ∷ l)
    (spots_on rest b (p + kind_words kind)
    ∙ (let e : p + kind_words kind + words_of_all rest ≡ p + (kind_words kind + words_of_all rest) = omega arith
    in ap (λ n. spots_from (p + kind_words kind) rest ++ spots_from n b) e))

-- ---- a loop over entries of one sort

-- what the items before i add
pub record Laid {A : Type 0} (kinds : List A → List Kind) (start : List Spot) (p : ℕ) (items : List A) (i : ℕ)
    (now : List Spot) (place : ℕ) : Type 0 where
  pub spots : now ++ spots_from place (kinds (drop i items)) ≡ start ++ spots_from p (kinds items)
  pub words : place + words_of_all (kinds (drop i items)) ≡ p + words_of_all (kinds items)

pub laid_start : {A : Type 0} (kinds : List A → List Kind) (start : List Spot) (p : ℕ) (items : List A)
    → Laid kinds start p items 0 start p
laid_start kinds start p items = record { spots = refl; words = refl }

pub laid_next : {A : Type 0} (kinds : List A → List Kind) (kind : A → Kind)
    → ((x : A) (xs : List A) → kinds (x ∷ xs) ≡ kind x ∷ kinds xs) → (start : List Spot) (p : ℕ) (items : List A)
    (i : ℕ) (now next : List Spot) (place end : ℕ) (d : A) → i < length items → Laid kinds start p items i now place
    → next ≡ now ++ spot_at place (kind (get_or items i d)) ∷ [] → end ≡ place + kind_words (kind (get_or items i d))
    → Laid kinds start p items (i + 1) next end
laid_next kinds kind law start p items i now next place end d h s e f =
    let j : i + 1 ≡ suc i = omega arith in
    let item = get_or items i d in
    let rest = drop (suc i) items in
    let same : kinds (drop i items) ≡ kind item ∷ kinds rest = ap kinds (drop-cons items i d h) ∙ law item rest in
    record {
      spots =
          ap (λ n. next ++ spots_from end (kinds (drop n items))) j
          ∙ ap (λ n. next ++ spots_from n (kinds rest)) f
          ∙ ap (λ l. l ++ spots_from (place + kind_words (kind item)) (kinds rest)) e
          ∙ append_assoc now (spot_at place (kind item) ∷ []) (spots_from (place + kind_words (kind item)) (kinds rest))
          ∙ ap (λ l. now ++ spots_from place l) (sym same)
          ∙ s.spots;
      words =
          ap (λ n. end + words_of_all (kinds (drop n items))) j
          ∙ ap (λ n. n + words_of_all (kinds rest)) f
          ∙ (let g : place + kind_words (kind item) + words_of_all (kinds rest) ≡ place
          + (kind_words (kind item) + words_of_all (kinds rest)) = omega arith in g)
          ∙ ap (λ l. place + words_of_all l) (sym same)
          ∙ s.words;
    }

pub laid_spots : {A : Type 0} (kinds : List A → List Kind) → kinds [] ≡ [] → (start : List Spot) (p : ℕ)
    (items : List A) (i : ℕ) (now : List Spot) (place : ℕ) → length items ≤ i → Laid kinds start p items i now place
    → now ≡ start ++ spots_from p (kinds items)
laid_spots kinds none start p items i now place h s = sym (append-nil now) ∙ ap (λ l. now ++ spots_from place l)
    (sym none) ∙ ap (λ l. now ++ spots_from place (kinds l)) (sym (drop_all i items h)) ∙ s.spots

pub laid_words : {A : Type 0} (kinds : List A → List Kind) → kinds [] ≡ [] → (start : List Spot) (p : ℕ)
    (items : List A) (i : ℕ) (now : List Spot) (place : ℕ) → length items ≤ i → Laid kinds start p items i now place
    → place ≡ p + words_of_all (kinds items)
laid_words kinds none start p items i now place h s =
    (let e : place ≡ place + 0 = omega arith in e)
    ∙ ap (λ l. place + words_of_all l) (sym none) ∙ ap (λ l. place + words_of_all (kinds l)) (sym (drop_all i items h))
    ∙ s.words

-- the next entry lies before the end of all
pub laid_room : {A : Type 0} (kinds : List A → List Kind) (kind : A → Kind)
    → ((x : A) (xs : List A) → kinds (x ∷ xs) ≡ kind x ∷ kinds xs) → (start : List Spot) (p : ℕ) (items : List A)
    (i : ℕ) (now : List Spot) (place most : ℕ) (d : A) → i < length items → d ≡ get_or items i d
    → Laid kinds start p items i now place → 4 * (p + words_of_all (kinds items)) ≤ most → 4 *
    (place + kind_words (kind d)) ≤ most
laid_room kinds kind law start p items i now place most d h is s l =
    let split : words_of_all (kinds (drop i items)) ≡ kind_words (kind (get_or items i d)) + words_of_all
    (kinds (drop (suc i) items)) = ap words_of_all
    (ap kinds (drop-cons items i d h) ∙ law (get_or items i d) (drop (suc i) items)) in
    let same : kind_words (kind d) ≡ kind_words (kind (get_or items i d)) = ap (λ y. kind_words (kind y)) is in
    let e = s.words in
    omega (arith, e, split, same, l)

abbrev pub kind_of_formal : Formal → Kind
kind_of_formal f = kind_of (formal_of f)

abbrev pub kinds_of_formals : List Formal → List Kind
kinds_of_formals l = listed_kinds (kinds_of (formals_of l))

pub no_formals : kinds_of_formals [] ≡ []
unfolding formals_of
no_formals = refl

pub first_formal : (f : Formal) (rest : List Formal) → kinds_of_formals (f ∷ rest) ≡ kind_of_formal f
    ∷ kinds_of_formals rest
unfolding formals_of
first_formal f rest = refl

abbrev pub kind_of_variable : Ty → Kind
kind_of_variable ty = Own (shape_of (type_of ty))

abbrev pub kinds_of_variables : List Ty → List Kind
kinds_of_variables l = variable_kinds (map type_of l)

pub no_variables : kinds_of_variables [] ≡ []
no_variables = refl

pub first_variable : (ty : Ty) (rest : List Ty) → kinds_of_variables (ty ∷ rest) ≡ kind_of_variable ty
    ∷ kinds_of_variables rest
first_variable ty rest = refl

-- ---- a whole table

abbrev pub contents_from : List Spot → ℕ → Contents
contents_from l n = record { spots = l; words = n }

pub laid_all : (r : t.Routine) (a b d : List Kind) (l0 l1 l2 l3 : List Spot) (p1 p2 p3 : ℕ) → entries r ≡ (a ++ b) ++ d
    → l0 ≡ [] → l1 ≡ l0 ++ spots_from 1 a → p1 ≡ 1 + words_of_all a → l2 ≡ l1 ++ spots_from p1 b → p2 ≡ p1
    + words_of_all b → l3 ≡ l2 ++ spots_from p2 d → p3 ≡ p2 + words_of_all d → contents_from l3 p3 ≡ contents_of r
laid_all r a b d l0 l1 l2 l3 p1 p2 p3 whole e0 e1 f1 e2 f2 e3 f3 =
    let spots : l3 ≡ spots_from 1 (entries r) =
    e3 ∙ ap (λ l. l ++ spots_from p2 d) (e2 ∙ ap (λ l. l ++ spots_from p1 b) (e1 ∙ ap (λ l. l ++ spots_from 1 a) e0))
    ∙ ap (λ n. (spots_from 1 a ++ spots_from n b) ++ spots_from p2 d) f1
    ∙ ap (λ l. l ++ spots_from p2 d) (sym (spots_on a b 1))
    ∙ ap (λ n. spots_from 1 (a ++ b) ++ spots_from n d)
    (let h = words_both a b in let e : p2 ≡ 1 + words_of_all (a ++ b) = omega (arith, h, f1, f2) in e)
    ∙ sym (spots_on (a ++ b) d 1)
    ∙ ap (λ l. spots_from 1 l) (sym whole)
    in
    let words : p3 ≡ 1 + words_of_all (entries r) =
    (let h = words_both a b in let g = words_both (a ++ b) d in let e : p3 ≡ 1 + words_of_all ((a ++ b) ++ d) = omega
    (arith, h, g, f1, f2, f3) in e)
    ∙ ap (λ l. 1 + words_of_all l) (sym whole)
    in
    ap (λ (l : List Spot). contents_from l p3) spots
    ∙ ap (λ (n : ℕ). contents_from (spots_from 1 (entries r)) n) words

-- ---- the tables of all routines

pub record Tabled (items : List Routine) (i : ℕ) (now : List Table) : Type 0 where
  pub left : map contents_in now ++ map contents_of (map routine_of (drop i items)) ≡ map contents_of
      (map routine_of items)

pub tabled_start : (items : List Routine) (now : List Table) → now ≡ [] → Tabled items 0 now
tabled_start items now e = record { left = ap (λ l. map contents_in l ++ map contents_of (map routine_of items)) e }

pub tabled_next : (items : List Routine) (i : ℕ) (now next : List Table) (d : Routine) (table : Table)
    → i < length items → Tabled items i now → contents_in table ≡ contents_of (routine_of (get_or items i d)) → next
    ≡ now ++ table ∷ [] → Tabled items (i + 1) next
tabled_next items i now next d table h s is e = record {
  left =
      (let k : i + 1 ≡ suc i = omega arith in ap (λ j. map contents_in next ++ map contents_of
      (map routine_of (drop j items))) k)
      ∙ ap (λ l. map contents_in l ++ map contents_of (map routine_of (drop (suc i) items))) e
      ∙ ap (λ l. l ++ map contents_of (map routine_of (drop (suc i) items)))
      (map_on contents_in now (table ∷ []) ∙ ap (λ x. map contents_in now ++ x ∷ []) is)
      ∙ append_assoc (map contents_in now) (contents_of (routine_of (get_or items i d)) ∷ [])
      (map contents_of (map routine_of (drop (suc i) items)))
      ∙ ap (λ l. map contents_in now ++ map contents_of (map routine_of l)) (sym (drop-cons items i d h))
      ∙ s.left;
}

pub tabled_all : (items : List Routine) (i : ℕ) (now : List Table) → length items ≤ i → Tabled items i now
    → AreTables now (map routine_of items)
tabled_all items i now h s = sym (append-nil (map contents_in now))
    ∙ ap (λ l. map contents_in now ++ map contents_of (map routine_of l)) (sym (drop_all i items h)) ∙ s.left

-- ---- what is looked up

table_found : (tables : List Table) (rs : List t.Routine) (n : ℕ) (table : Table) → AreTables tables rs
    → n < length tables → table ≡ get_or tables n table → contents_in table ≡ contents_of (get_or rs n t.no_routine)
table_found tables rs n table are h is =
    let g : n < length rs = (let e = sym (length-map tables contents_in) ∙ ap length are
    ∙ length-map rs contents_of in omega (arith, e, h)) in
    ap contents_in is
    ∙ sym (get_or-map contents_in tables n table (contents_in table) h)
    ∙ ap (λ l. get_or l n (contents_in table)) are
    ∙ get_or-map contents_of rs n t.no_routine (contents_in table) g

offset_at : (kinds : List Kind) (p i : ℕ) (d : Spot) → i < length (spots_from p kinds)
    → (get_or (spots_from p kinds) i d).offset ≡ 4 * get_or (places_from p kinds) i 0
offset_at [] p i d h = absurd (omega arith)
offset_at (kind ∷ rest) p zero d h = refl
offset_at (kind ∷ rest) p (suc i) d h = offset_at rest (p + kind_words kind) i d (omega arith)

reference_at : (kinds : List Kind) (p i : ℕ) (d : Spot) → i < length (spots_from p kinds)
    → (get_or (spots_from p kinds) i d).reference ≡ is_reference_at (slice_get kinds i)
reference_at [] p i d h = absurd (omega arith)
reference_at (kind ∷ rest) p zero d h = refl
reference_at (kind ∷ rest) p (suc i) d h = reference_at rest (p + kind_words kind) i d (omega arith)

-- a slice of the tables, and one of a table's entries
pub record Looked (tables : List Table) (rs : List t.Routine) (n i : ℕ) (rows : List Table) (row : List Spot)
    (table : Table) (spot : Spot) : Type 0 where
  pub are : AreTables tables rs
  pub rows_are : rows ≡ tables
  pub within : n < length rows
  pub at : table ≡ get_or rows n table
  pub row_is : row ≡ table.spots.items
  pub short : i < length row
  pub found : spot ≡ get_or row i spot

row_told : (tables : List Table) (rs : List t.Routine) (n i : ℕ) (rows : List Table) (row : List Spot) (table : Table)
    (spot : Spot) → Looked tables rs n i rows row table spot → row ≡ spots_from 1 (entries (get_or rs n t.no_routine))
row_told tables rs n i rows row table spot s =
    s.row_is
    ∙ ap (λ (y : Contents). y.spots) (table_found tables rs n table s.are
    (subst (λ l. n < length l) s.rows_are s.within) (s.at ∙ ap (λ l. get_or l n table) s.rows_are))

pub offset_found : (tables : List Table) (rs : List t.Routine) (n i : ℕ) (rows : List Table) (row : List Spot)
    (table : Table) (spot : Spot) → Looked tables rs n i rows row table spot → spot.offset ≡ entry_offset
    (get_or rs n t.no_routine) i
offset_found tables rs n i rows row table spot s =
    let same = row_told tables rs n i rows row table spot s in
    ap (λ (y : Spot). y.offset) (s.found ∙ ap (λ l. get_or l i spot) same)
    ∙ offset_at (entries (get_or rs n t.no_routine)) 1 i spot (subst (λ l. i < length l) same s.short)

pub reference_found : (tables : List Table) (rs : List t.Routine) (n i : ℕ) (rows : List Table) (row : List Spot)
    (table : Table) (spot : Spot) → Looked tables rs n i rows row table spot → spot.reference ≡ is_reference_at
    (slice_get (entries (get_or rs n t.no_routine)) i)
reference_found tables rs n i rows row table spot s =
    let same = row_told tables rs n i rows row table spot s in
    ap (λ (y : Spot). y.reference) (s.found ∙ ap (λ l. get_or l i spot) same)
    ∙ reference_at (entries (get_or rs n t.no_routine)) 1 i spot (subst (λ l. i < length l) same s.short)

pub words_found : (tables : List Table) (rs : List t.Routine) (n : ℕ) (rows : List Table) (table : Table)
    → AreTables tables rs → rows ≡ tables → n < length rows → table ≡ get_or rows n table → table.words
    ≡ (layout_of (get_or rs n t.no_routine)).input
words_found tables rs n rows table are same h is = ap (λ (y : Contents). y.words)
    (table_found tables rs n table are (subst (λ l. n < length l) same h) (is ∙ ap (λ l. get_or l n table) same))

-- ---- what is not there

places_long : (kinds : List Kind) (p : ℕ) → length (places_from p kinds) ≡ length kinds
places_long [] p = refl
places_long (kind ∷ rest) p = ap suc (places_long rest (p + kind_words kind))

spots_long : (kinds : List Kind) (p : ℕ) → length (spots_from p kinds) ≡ length kinds
spots_long [] p = refl
spots_long (kind ∷ rest) p = ap suc (spots_long rest (p + kind_words kind))

offset_past : (kinds : List Kind) (p i : ℕ) → length kinds ≤ i → 0 ≡ 4 * get_or (places_from p kinds) i 0
offset_past kinds p i h = sym (ap (λ n. 4 * n)
    (get_or_past (places_from p kinds) i 0 (let e = places_long kinds p in omega (arith, e, h))))

reference_past : (kinds : List Kind) (i : ℕ) → length kinds ≤ i → false ≡ is_reference_at (slice_get kinds i)
reference_past kinds i h = sym (ap is_reference_at (slice_get_past kinds i h))

-- a slice of a table's entries that is too short
pub record MissedEntry (tables : List Table) (rs : List t.Routine) (n i : ℕ) (rows : List Table) (row : List Spot)
    (table : Table) : Type 0 where
  pub are : AreTables tables rs
  pub rows_are : rows ≡ tables
  pub within : n < length rows
  pub at : table ≡ get_or rows n table
  pub row_is : row ≡ table.spots.items
  pub short : length row ≤ i

few_entries : (tables : List Table) (rs : List t.Routine) (n i : ℕ) (rows : List Table) (row : List Spot)
    (table : Table) → MissedEntry tables rs n i rows row table → length (entries (get_or rs n t.no_routine)) ≤ i
few_entries tables rs n i rows row table s =
    let same = ap length (s.row_is ∙ ap (λ (y : Contents). y.spots)
    (table_found tables rs n table s.are (subst (λ l. n < length l) s.rows_are s.within)
    (s.at ∙ ap (λ l. get_or l n table) s.rows_are))) in
    let long = spots_long (entries (get_or rs n t.no_routine)) 1 in
    let h = s.short in
    omega (arith, same, long, h)

pub no_entry_offset : (tables : List Table) (rs : List t.Routine) (n i : ℕ) (rows : List Table) (row : List Spot)
    (table : Table) → MissedEntry tables rs n i rows row table → 0 ≡ entry_offset (get_or rs n t.no_routine) i
no_entry_offset tables rs n i rows row table s = offset_past (entries (get_or rs n t.no_routine)) 1 i
    (few_entries tables rs n i rows row table s)

pub no_entry_reference : (tables : List Table) (rs : List t.Routine) (n i : ℕ) (rows : List Table) (row : List Spot)
    (table : Table) → MissedEntry tables rs n i rows row table → false ≡ is_reference_at
    (slice_get (entries (get_or rs n t.no_routine)) i)
no_entry_reference tables rs n i rows row table s = reference_past (entries (get_or rs n t.no_routine)) i
    (few_entries tables rs n i rows row table s)
