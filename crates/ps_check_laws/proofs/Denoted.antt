-- What a name denotes is found, and a name denotes one point.
use Rattle.std.proofs.Common.{◌≡◌, ℕ, suc, ◌+◌, ◌<◌, true, false, List, [], ◌∷◌, ◌++◌, length, map, Option, Some, None}
use Rattle.std.proofs.Common.{is_some, refl, sym, ap, ◌∙◌, subst, lt-ltb, length-append, arith}
use Rattle.std.specs.Prelude.{if◌then◌else◌}
use Rattle.std.proofs.lemmas.Option.{slice_get_within, same_Some}
use Rattle.ps_syntax.specs.declared.program.Program as syntax
use Rattle.ps_tree.specs.Types.{DataType, FieldList, field_in}
use Rattle.ps_tree.proofs.NameLemmas.{has_place}
use Rattle.ps_check_judgement.specs.Judged.{Yes, ◌>>=◌, some_or}
use Rattle.ps_check_judgement.proofs.Impossible.{never, none_some}
use Rattle.ps_check_judgement.proofs.Items.{there_is}
use Rattle.ps_check_names.specs.Spelling.{has, place}
use Rattle.ps_check_names.specs.Regions.{Region, Point, BlockPoint, FieldPoint, one_more, missing, in_block, in_record}
use Rattle.ps_check_names.specs.Regions.{find, find_past}
use Rattle.ps_check.specs.Programs.{Names, required, required_names}
use Rattle.ps_check_laws.specs.Definitions.{Definition, names_of}
use Rattle.ps_check_laws.specs.Denoting.{Where, Denotes, here, outward, definitions_at}
use Rattle.ps_check_laws.specs.Meanings.{IsRegion, AreAround, program_block, routine_block}
use Rattle.ps_check_laws.specs.Uses.{IsNowhere, not_in_program, nor_further_in, Opened, NoField, a_field, a_point}
use Rattle.ps_check_laws.specs.Uses.{a_required_name, opened_regions, WhatIsDenotedIsFound, OnePointIsDenoted}
use Rattle.ps_check_laws.proofs.Forwards.{placed}
use Rattle.ps_check_laws.proofs.Found.{found_at}

not_some : {A : Type 0} (o : Option A) → is_some o ≡ false → o ≡ None
not_some None e = refl
not_some (Some x) e = never (sym e)

some_there : {A : Type 0} (o : Option A) → is_some o ≡ true → (x : A) × (o ≡ Some x)
some_there None e = never e
some_there (Some x) e = (x, refl)

absent : (names : List (List ℕ)) (s : List ℕ) → has names s ≡ false → place names s ≡ None
absent names s e = not_some (place names s) (has_place names s ∙ e)

present : (names : List (List ℕ)) (s : List ℕ) → has names s ≡ true → (i : ℕ) × (place names s ≡ Some i)
present names s e = some_there (place names s) (has_place names s ∙ e)

one_more_is : (n : ℕ) (s : List ℕ) (from : ℕ) → n < 4294967295 → some_or (missing s) from (one_more n) ≡ Yes (n + 1)
one_more_is n s from l = ap (λ b. some_or (missing s) from (if b then Some (n + 1) else None)) (lt-ltb n 4294967295 l)

-- there are as many names as meanings of the required names
as_many : (xs : Names) → length (map (λ x. x.0) xs) ≡ length (map (λ x. x.1) xs)
as_many [] = refl
as_many (x ∷ xs) = ap suc (as_many xs)

module _ (text : List ℕ) (p : syntax.Program) (s : List ℕ) where
  abbrev Found : ℕ → ℕ → List Region → Type 0
  Found up which Γ = (q : Point) × ((from : ℕ) → find_past up which Γ s from ≡ Yes q)

  -- a name that the block doesn't define is looked up further out
  not_here : (up which : ℕ) (v : List ℕ) (n : ℕ) (r : Region) (outer : List Region) (ds : List Definition)
      → IsRegion text p v n outer r → definitions_at text p v ≡ Some ds → has (names_of text ds) s ≡ false
      → up < 4294967295
      → Found (up + 1) which outer → Found up which (r ∷ outer)
  unfolding find_past
  not_here up which v n r outer ds t points none l found =
      let same_points : t.definitions ≡ ds = same_Some t.definitions ds (sym t.points ∙ points) in (
        found.0,
        λ from. ap (λ x. find_past up which (x ∷ outer) s from) t.is
            ∙ ap (λ o. in_block from up t.known o (some_or (missing s) from (one_more up)
            >>= (λ k. find_past k which outer s from)))
            (absent (names_of text t.definitions) s (ap (λ d. has (names_of text d) s) same_points ∙ none))
            ∙ ap (λ o. o >>= (λ k. find_past k which outer s from)) (one_more_is up s from l) ∙ found.1 from,
      )

  -- a point of the block itself
  found_here : (up which : ℕ) (v : List ℕ) (n i : ℕ) (r : Region) (outer : List Region) (ds : List Definition)
      → IsRegion text p v n outer r → definitions_at text p v ≡ Some ds → place (names_of text ds) s ≡ Some i → i < n
      → Found up which (r ∷ outer)
  unfolding find_past
  found_here up which v n i r outer ds t points found l =
      let same_points : t.definitions ≡ ds = same_Some t.definitions ds (sym t.points ∙ points) in
      let many = t.before in
      let m = there_is t.known i (omega (arith, l, many)) in (
        BlockPoint up m.0,
        λ from. ap (λ x. find_past up which (x ∷ outer) s from) t.is
            ∙ found_at up t.known i m.0 (place (names_of text t.definitions) s) from
            (some_or (missing s) from (one_more up) >>= (λ k. find_past k which outer s from))
            (ap (λ d. place (names_of text d) s) same_points ∙ found) m.1,
      )

  point_found : (v : List ℕ) (n : ℕ) (w : Where) → Denotes text p s v n w → (outer : List Region)
      → AreAround text p v outer → (up which : ℕ) (r : Region) → IsRegion text p v n outer r → up
      + length v < 4294967295 → Found up which (r ∷ outer)
  point_found v n w (here u m i ds points found below) outer around up which r t l = found_here up which u m i r outer
      ds t points found below
  point_found v n w (outward k u n' m x ds points none before d) outer
      (routine_block j y m' z behind before' region around) up which r t l =
      let same_count : m' ≡ m = same_Some m' m (sym before' ∙ before) in
      not_here up which (k ∷ u) n' r (z ∷ behind) ds t points none (omega (arith, l))
      (point_found u m x d behind around (up + 1) which z
      (subst (λ c. IsRegion text p u c behind z) same_count region) (omega (arith, l)))

  required_found : (up which : ℕ) → has (map (λ r. r.0) required_names) s ≡ true → Found up which (required ∷ [])
  unfolding find_past required
  required_found up which e =
      let i = present (map (λ r. r.0) required_names) s e in
      let at = placed s 0 (map (λ r. r.0) required_names) i.0 i.1 in
      let below = slice_get_within (map (λ r. r.0) required_names) at.0 s at.2 in
      let q = at.1 in
      let many = as_many required_names in
      let m = there_is (map (λ r. r.1) required_names) i.0 (omega (arith, below, q, many)) in (
        BlockPoint up m.0,
        λ from. found_at up (map (λ r. r.1) required_names) i.0 m.0
            (place (map (λ r. r.0) required_names) s) from
            (some_or (missing s) from (one_more up) >>= (λ k. find_past k which [] s from)) i.1 m.1,
      )

  nowhere_found : (v : List ℕ) → IsNowhere text p s v → has (map (λ r. r.0) required_names) s ≡ true
      → (outer : List Region) → AreAround text p v outer → (n up which : ℕ) (r : Region) → IsRegion text p v n outer r
      → up + length v < 4294967295 → Found up which (r ∷ outer)
  nowhere_found v (not_in_program ds points none) e outer program_block n up which r t l = not_here up which [] n r
      (required ∷ []) ds t points none (omega (arith, l)) (required_found (up + 1) which e)
  nowhere_found v (nor_further_in k u ds points none further) e outer
      (routine_block j y m z behind before region around) n up which r t l =
      not_here up which (k ∷ u) n r (z ∷ behind) ds t points none (omega (arith, l))
      (nowhere_found u further e behind around m (up + 1) which z region (omega (arith, l)))

  -- ---- opened records

  behind_records : (opened : Opened text p s) (which : ℕ) (Γ : List Region) → NoField text p s opened → which
      + length opened < 4294967295 → ((k : ℕ) → Found 0 k Γ) → Found 0 which (opened_regions opened ++ Γ)
  unfolding find_past
  behind_records [] which Γ none l found = found which
  behind_records (x ∷ opened) which Γ none l found =
      let further = behind_records opened (which + 1) Γ none.1 (omega (arith, l)) found in (
        further.0,
        λ from. ap (λ o. in_record which x.0 o
            (some_or (missing s) from (one_more which) >>= (λ k. find_past 0 k (opened_regions opened ++ Γ) s from)))
            none.0 ∙ ap (λ o. o >>= (λ k. find_past 0 k (opened_regions opened ++ Γ) s from))
            (one_more_is which s from (omega (arith, l))) ∙ further.1 from,
      )

  field_found : (inner : Opened text p s) (type : DataType) (fields : FieldList) (outer : Opened text p s)
      (field : ℕ × DataType) (which : ℕ) (Γ : List Region) → NoField text p s inner → field_in fields s ≡ Some field
      → which + length inner < 4294967295
      → Found 0 which (opened_regions (inner ++ (type, fields) ∷ outer) ++ Γ)
  unfolding find_past
  field_found [] type fields outer field which Γ none e l = (
    FieldPoint which type field.0 field.1,
    λ from.
        ap (λ o. in_record which type o (some_or (missing s) from (one_more which)
        >>= (λ k. find_past 0 k (opened_regions outer ++ Γ) s from))) e,
  )
  field_found (x ∷ inner) type fields outer field which Γ none e l =
      let further = field_found inner type fields outer field (which + 1) Γ none.1 e (omega (arith, l)) in (
        further.0,
        λ from. ap (λ o. in_record which x.0 o (some_or (missing s) from (one_more which)
            >>= (λ k. find_past 0 k (opened_regions (inner ++ (type, fields) ∷ outer) ++ Γ) s from))) none.0
            ∙ ap (λ o. o >>= (λ k. find_past 0 k (opened_regions (inner ++ (type, fields) ∷ outer) ++ Γ) s from))
            (one_more_is which s from (omega (arith, l))) ∙ further.1 from,
      )

  -- ---- one point

  same_definitions : (v : List ℕ) (ds es : List Definition) → definitions_at text p v ≡ Some ds
      → definitions_at text p v ≡ Some es → ds ≡ es
  same_definitions v ds es a b = same_Some ds es (sym a ∙ b)

  not_both : (names : List (List ℕ)) (i : ℕ) → place names s ≡ Some i → has names s ≡ false → ⊥
  not_both names i e none = none_some (sym (absent names s none) ∙ e)

  one_point : (v : List ℕ) (n : ℕ) (w x : Where) → Denotes text p s v n w → Denotes text p s v n x → w ≡ x
  one_point v n w x (here u m i ds points found below) (here u' m' j es points' found' below') =
      ap (λ k. record {
        path = u;
        number = k;
      }) (same_Some i j (sym found ∙ ap (λ d. place (names_of text d) s) (same_definitions u ds es points points')
      ∙ found'))
  one_point v n w x (here u m i ds points found below) (outward k u' n' m' y es points' none before d) =
      absurd (not_both (names_of text ds) i found
      (ap (λ d. has (names_of text d) s) (same_definitions u ds es points points') ∙ none))
  one_point v n w x (outward k u n' m y ds points none before d) (here u' m' i es points' found below) =
      absurd (not_both (names_of text es) i found
      (ap (λ d. has (names_of text d) s) (same_definitions (k ∷ u) es ds points' points) ∙ none))
  one_point v n w x (outward k u n' m y ds points none before d) (outward k' u' n'' m' z es points' none' before' e) =
      one_point u m y z d (subst (λ c. Denotes text p s u c z) (same_Some m' m (sym before' ∙ before)) e)

pub what_is_denoted_is_found : WhatIsDenotedIsFound
what_is_denoted_is_found text p v n r outer t around deep opened many s
    (a_field inner type fields further field are none e) =
    let length_is : length opened ≡ length (inner ++ (type, fields) ∷ further) = ap length are in
    let l = length-append inner ((type, fields) ∷ further) in
    subst (λ o. (q : Point) × ((from : ℕ) → find (opened_regions o ++ r ∷ outer) s from ≡ Yes q)) (sym are)
    (field_found text p s inner type fields further field 0 (r ∷ outer) none e (omega (arith, many, length_is, l)))
what_is_denoted_is_found text p v n r outer t around deep opened many s (a_point w none d) =
    behind_records text p s opened 0 (r ∷ outer) none (omega (arith, many))
    (λ k. point_found text p s v n w d outer around 0 k r t (omega (arith, deep)))
what_is_denoted_is_found text p v n r outer t around deep opened many s (a_required_name none nowhere e) =
    behind_records text p s opened 0 (r ∷ outer) none (omega (arith, many))
    (λ k. nowhere_found text p s v nowhere e outer around n 0 k r t (omega (arith, deep)))

pub one_point_is_denoted : OnePointIsDenoted
one_point_is_denoted text p s v n w x d e = one_point text p s v n w x d e
