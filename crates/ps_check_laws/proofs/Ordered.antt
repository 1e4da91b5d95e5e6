-- The routines of a block whose names have one point each: the place of each name among those of the block, and the
-- heading of each routine.
use Rattle.std.proofs.Common.{◌≡◌, ℕ, zero, suc, ◌+◌, Bool, true, false, ◌&&◌, ◌||◌, not, if◌then◌else◌, List, [], ◌∷◌}
use Rattle.std.proofs.Common.{◌++◌, length, map, take, drop, Option, Some, None, is_some, is_none, option_map}
use Rattle.std.proofs.Common.{slice_get, refl, sym, ap, ◌∙◌, append_assoc, append-nil, length-append, arith}
use Rattle.std.proofs.lemmas.List.{map-append}
use Rattle.std.proofs.lemmas.Option.{slice_get-map, slice_get_within, same_Some}
use Rattle.std.proofs.lemmas.Bool.{not-true}
use Rattle.std.proofs.Math.Bool.{or-true}
use Rattle.ps_check_judgement.proofs.Impossible.{never, none_some}
use Rattle.ps_check_judgement.proofs.Items.{there_is, get_stays, get_right}
use Rattle.ps_syntax.specs.declared.program.Heading as syntax
use Rattle.ps_syntax.specs.declared.program.Block as syntax_block
use Rattle.ps_syntax.specs.declared.program.Routine.{Routine, out-Routine}
use Rattle.ps_syntax.specs.declared.program.Routine.TheOpen.{Routine-F}
use Rattle.ps_check_names.specs.Spelling.{spelled, same, has, place}
use Rattle.ps_check_names.specs.Regions.{Heading, Context}
use Rattle.ps_check_names.proofs.SpellingLemmas.{same_equal, same_itself}
use Rattle.ps_check_declarations.specs.Points.{Points, add_points}
use Rattle.ps_check.specs.Readings.{is_bare, is_name_alone}
use Rattle.ps_check.specs.Forwards.{may_complete, is_same_kind, add_routine, add_routines}
use Rattle.ps_check.specs.Blocks.{block, routine}
use Rattle.ps_check.specs.RegionNames.{AreApart}
use Rattle.ps_check.specs.Paths.{layer_block, routine_block}
use Rattle.ps_check_laws.specs.Definitions.{Declarations, Definition, OfDeclaration, OfRoutine, InPart, layer_heading}
use Rattle.ps_check_laws.specs.Definitions.{routine_heading, routine_name, routine_names, introduced_from, introduced}
use Rattle.ps_check_laws.specs.Definitions.{of_routine, point, names_of}
use Rattle.ps_check_laws.specs.Forward.{is_function, layer_completes, Completes, AreCompleted}
use Rattle.ps_check_laws.proofs.Lists.{get_at, get_last}
use Rattle.ps_check_laws.proofs.Lists.{take_length, there_place, new_place}
use Rattle.ps_check_laws.proofs.Shown.{split_at}
use Rattle.ps_check_laws.proofs.Pending.{declarations_length}
use Rattle.ps_check_laws.proofs.Routines.{read, introduced_append, introduced_more}
use Rattle.ps_check_laws.proofs.Routines.{introduced_last, sp}
use Rattle.ps_check_laws.proofs.BlockPoints.{points, points_last, points_names_last}
use Rattle.ps_tree.proofs.Booleans.{and_first, and_second}

-- ---- lists

-- a name at a place is present
pub has_at : (names : List (List ℕ)) (i : ℕ) (s : List ℕ) → slice_get names i ≡ Some s → has names s ≡ true
has_at [] i s e = absurd (none_some e)
has_at (x ∷ xs) zero s e = ap (λ b. b || has xs s) (ap (same s) (same_Some x s e) ∙ same_itself s)
has_at (x ∷ xs) (suc i) s e = ap (λ b. same s x || b) (has_at xs i s e) ∙ or-true (same s x)

-- the place of a name that occurs once
pub place_apart : (names : List (List ℕ)) (i : ℕ) (s : List ℕ) → AreApart names → slice_get names i ≡ Some s
    → place names s ≡ Some i
place_apart names i s apart e =
    let split = split_at names i s e in
    let l = take_length names i s e in
    let z : 0 + length (take i names) ≡ i = omega (arith, l) in
    ap (λ l. place l s) split ∙ new_place 0 (take i names) (drop (suc i) names) s s
    (apart (take i names) (drop (suc i) names) s split) (same_itself s) ∙ ap (λ k. Some k) z

-- points whose names occur once are added
pub points_added_apart : (text : List ℕ) (whole xs more : List (List ℕ)) (ps : Points) → AreApart whole → whole ≡ xs
    ++ (map (spelled text) ps ++ more) → add_points text xs ps ≡ xs ++ map (spelled text) ps
unfolding add_points
points_added_apart text whole xs more [] apart e = sym (append-nil xs)
points_added_apart text whole xs more (p ∷ ps) apart e =
    let s = spelled text p in
    let new : has xs s ≡ false = apart xs (map (spelled text) ps ++ more) s e in
    ap (λ b. add_points text (if b then xs else xs ++ s ∷ []) ps) new
    ∙ points_added_apart text whole (xs ++ s ∷ []) more ps apart
    (e ∙ sym (append_assoc xs (s ∷ []) (map (spelled text) ps ++ more))) ∙ append_assoc xs (s ∷ [])
    (map (spelled text) ps)

-- ---- a routine that completes a heading

completing_may : (c : Context) (x : Routine) (z : Routine-F Routine syntax_block.Block) (h : syntax.Heading)
    → out-Routine x ≡ z → layer_completes h (out-Routine x) ≡ true → may_complete (routine c x) ≡ true
unfolding routine_heading routine_block
completing_may c x (Routine-F.Whole g b) h o e =
    let bare : is_bare g ≡ true = and_first (is_bare g) (not (is_function h)) (sym (ap (layer_completes h) o) ∙ e) in
    ap (λ q. is_some q && is_name_alone (routine c x).heading)
    ((read c x).block_is ∙ ap (λ z. option_map (block c) (layer_block z)) o)
    ∙ ap is_name_alone ((read c x).heading ∙ ap layer_heading o) ∙ bare
completing_may c x (Routine-F.Forward g) h o e = never (sym (ap (layer_completes h) o) ∙ e)
completing_may c x (Routine-F.Completion name b) h o e =
    ap (λ q. is_some q && is_name_alone (routine c x).heading)
    ((read c x).block_is ∙ ap (λ z. option_map (block c) (layer_block z)) o)
    ∙ ap is_name_alone ((read c x).heading ∙ ap layer_heading o)

none_is : {A : Type 0} (o : Option A) → is_some o ≡ false → is_none o ≡ true
none_is None e = refl
none_is (Some x) e = never (sym e)

completing_kind : (c : Context) (x : Routine) (z : Routine-F Routine syntax_block.Block) (g : syntax.Heading)
    (h : Heading) → out-Routine x ≡ z → layer_completes g (out-Routine x) ≡ true → is_some h.result ≡ is_function g
    → is_same_kind (routine c x) h ≡ true
unfolding routine_heading
completing_kind c x (Routine-F.Whole q b) g h o e kind =
    let no_function : is_function g ≡ false = not-true (is_function g)
    (and_second (is_bare q) (not (is_function g)) (sym (ap (layer_completes g) o) ∙ e)) in
    ap (λ z. if is_some z then is_none h.result else is_some h.result) ((read c x).heading ∙ ap layer_heading o)
    ∙ none_is h.result (kind ∙ no_function)
completing_kind c x (Routine-F.Forward q) g h o e kind = never (sym (ap (layer_completes g) o) ∙ e)
completing_kind c x (Routine-F.Completion name b) g h o e kind =
    ap (λ z. if is_some z then is_none h.result else is_some h.result) ((read c x).heading ∙ ap layer_heading o) ∙ kind
    ∙ sym (ap (layer_completes g) o) ∙ e

pub may_so : (c : Context) (y x : Routine) → Completes c.text y x → may_complete (routine c x) ≡ true
may_so c y x k = completing_may c x (out-Routine x) k.heading refl k.block

pub kind_so : (c : Context) (y x : Routine) (k : Completes c.text y x) (h : Heading) → is_some h.result
    ≡ is_function k.heading → is_same_kind (routine c x) h ≡ true
kind_so c y x k h kind = completing_kind c x (out-Routine x) k.heading h refl k.block kind

-- ---- the routines that are introduced are in the part

introduced_in : (text : List ℕ) (xs : List Routine) (before : List InPart) (k a j : ℕ) (y : Routine) (C : Type 0)
    → slice_get (introduced_from text before k xs) a ≡ Some (j, y) → (slice_get before a ≡ Some (j, y) → C)
    → ((m : ℕ) → j ≡ k + m → slice_get xs m ≡ Some y → C) → C
unfolding introduced_from
introduced_in text [] before k a j y C e old new = old e
introduced_in text (x ∷ xs) before k a j y C e old new =
    at (has (routine_names text before) (spelled text (routine_name x))) e
    (λ g. introduced_in text xs before (k + 1) a j y C g old further)
    (λ g. introduced_in text xs (before ++ (k, x) ∷ []) (k + 1) a j y C g
    (λ both. get_last before (k, x) a (j, y) C both old
    (λ last same_part. new 0 (let z : k ≡ j = ap (λ (q : InPart). q.0) same_part in omega (arith, z))
    (ap (λ (q : InPart). Some q.1) same_part)))
    further)
  where
    further : (m : ℕ) → j ≡ (k + 1) + m → slice_get xs m ≡ Some y → C
    further m q g = new (suc m) (omega (arith, q)) g

    at : (b : Bool) → slice_get (if b then introduced_from text before (k + 1) xs else introduced_from text
        (before ++ (k, x) ∷ []) (k + 1) xs) a ≡ Some (j, y)
        → (slice_get (introduced_from text before (k + 1) xs) a ≡ Some (j, y) → C)
        → (slice_get (introduced_from text (before ++ (k, x) ∷ []) (k + 1) xs) a ≡ Some (j, y) → C) → C
    at true g one other = one g
    at false g one other = other g

pub introduced_of : (text : List ℕ) (xs : List Routine) (a j : ℕ) (y : Routine) → slice_get (introduced text xs) a
    ≡ Some (j, y) → slice_get xs j ≡ Some y
introduced_of text xs a j y e = introduced_in text xs [] 0 a j y (slice_get xs j ≡ Some y) e
    (λ none. absurd (none_some none)) (λ m q g. let z : j ≡ m = omega (arith, q) in ap (slice_get xs) z ∙ g)

-- none before it has its name
introduced_new : (text : List ℕ) (xs done : List Routine) (a j : ℕ) (y : Routine) (C : Type 0) → slice_get
    (introduced_from text (introduced text done) (length done) xs) a ≡ Some (j, y)
    → (slice_get (introduced text done) a ≡ Some (j, y) → C)
    → ((m : ℕ) → j ≡ length done + m → slice_get xs m ≡ Some y → has
    (routine_names text (introduced text (done ++ take m xs))) (sp text y) ≡ false → C) → C
unfolding introduced_from
introduced_new text [] done a j y C e old new = old e
introduced_new text (x ∷ xs) done a j y C e old new =
    at (has (routine_names text (introduced text done)) (sp text x)) refl e
    (λ g h. introduced_new text xs (done ++ x ∷ []) a j y C g h further)
  where
    longer : length done + 1 ≡ length (done ++ x ∷ [])
    longer = sym (length-append done (x ∷ []))

    further : (m : ℕ) → j ≡ length (done ++ x ∷ []) + m → slice_get xs m ≡ Some y → has
        (routine_names text (introduced text ((done ++ x ∷ []) ++ take m xs))) (sp text y) ≡ false → C
    further m q g n = let l = longer in new (suc m) (omega (arith, q, l)) g
        (ap (λ l. has (routine_names text (introduced text l)) (sp text y))
        (sym (append_assoc done (x ∷ []) (take m xs))) ∙ n)

    at : (b : Bool) → has (routine_names text (introduced text done)) (sp text x) ≡ b
        → slice_get (if b then introduced_from text (introduced text done) (length done + 1) xs
        else introduced_from text (introduced text done ++ (length done, x) ∷ []) (length done + 1) xs) a ≡ Some
        (j, y)
        → (slice_get (introduced_from text (introduced text (done ++ x ∷ [])) (length (done ++ x ∷ [])) xs) a ≡ Some
        (j, y) → (slice_get (introduced text (done ++ x ∷ [])) a ≡ Some (j, y) → C) → C) → C
    at true h g rest =
        let same_part : introduced text (done ++ x ∷ []) ≡ introduced text done = introduced_last text done x
        ∙ ap (λ b. if b then introduced text done else introduced text done ++ (length done, x) ∷ []) h in
        rest (ap (λ l. slice_get (introduced_from text l (length (done ++ x ∷ [])) xs) a) same_part
        ∙ ap (λ k. slice_get (introduced_from text (introduced text done) k xs) a) (sym longer) ∙ g)
        (λ z. old (ap (λ l. slice_get l a) (sym same_part) ∙ z))
    at false h g rest =
        let grown : introduced text (done ++ x ∷ []) ≡ introduced text done ++ (length done, x)
        ∷ [] = introduced_last text done x ∙ ap (λ b. if b then introduced text done else introduced text done
        ++ (length done, x) ∷ []) h in
        rest (ap (λ l. slice_get (introduced_from text l (length (done ++ x ∷ [])) xs) a) grown
        ∙ ap (λ k. slice_get (introduced_from text (introduced text done ++ (length done, x) ∷ []) k xs) a)
        (sym longer) ∙ g)
        (λ z. get_last (introduced text done) (length done, x) a (j, y) C (ap (λ l. slice_get l a) (sym grown) ∙ z) old
        (λ last same_part.
        let is : x ≡ y = ap (λ (q : InPart). q.1) same_part in
        new 0 (let z : length done ≡ j = ap (λ (q : InPart). q.0) same_part in omega (arith, z)) (ap (λ z. Some z) is)
        (ap (λ l. has (routine_names text (introduced text l)) (sp text y)) (append-nil done)
        ∙ ap (λ z. has (routine_names text (introduced text done)) (sp text z)) (sym is) ∙ h)))

nothing_introduced : (text : List ℕ) (a : ℕ) → slice_get (introduced text []) a ≡ None
unfolding introduced_from
nothing_introduced text a = refl

none_first : (text : List ℕ) (xs : List Routine) (a j : ℕ) (y : Routine) → slice_get (introduced text xs) a ≡ Some
    (j, y) → slice_get (introduced_from text (introduced text []) 0 xs) a ≡ Some (j, y)
unfolding introduced_from
none_first text xs a j y e = e

pub introduced_first : (text : List ℕ) (xs : List Routine) (a j : ℕ) (y : Routine) → slice_get (introduced text xs) a
    ≡ Some (j, y) → has (routine_names text (introduced text (take j xs))) (sp text y) ≡ false
introduced_first text xs a j y e = introduced_new text xs [] a j y
    (has (routine_names text (introduced text (take j xs))) (sp text y) ≡ false) (none_first text xs a j y e)
    (λ none. absurd (none_some (sym (nothing_introduced text a) ∙ none)))
    (λ m q g n. let z : j ≡ m = omega (arith, q)
    in ap (λ k. has (routine_names text (introduced text (take k xs))) (sp text y)) z ∙ n)

names_count : (text : List ℕ) (J : List InPart) → length (routine_names text J) ≡ length J
unfolding routine_names
names_count text [] = refl
names_count text (y ∷ J) = ap suc (names_count text J)

-- ---- names and places of the routines

module _ (c : Context) (D : Declarations) (rs : List Routine)
    (apart : AreApart (names_of c.text (points c.text D (introduced c.text rs))))
    (completed : AreCompleted c.text rs) where
  abbrev pub whole : List Definition
  whole = points c.text D (introduced c.text rs)

  abbrev pub before : List Routine → List Definition
  before done = points c.text D (introduced c.text done)

  pub place_is : (i j : ℕ) (y : Routine) (s : List ℕ) → slice_get whole i ≡ Some (OfRoutine j y) → sp c.text y ≡ s
      → place (names_of c.text whole) s ≡ Some i
  unfolding names_of
  place_is i j y s e q = place_apart (names_of c.text whole) i s apart
      (slice_get-map (λ d. spelled c.text (point d)) whole i ∙ ap (option_map (λ d. spelled c.text (point d))) e
      ∙ ap (λ n. Some n) q)

  module _ (done rest : List Routine) (x : Routine) (split : rs ≡ done ++ x ∷ rest) where
    abbrev I : List InPart
    I = introduced c.text done

    -- the point of a routine's name, which the routine introduces, or whose forward heading it completes
    pub data Point : Type 0 where
      new : has (routine_names c.text I) (sp c.text x) ≡ false → introduced c.text (done ++ x ∷ []) ≡ I
          ++ (length done, x) ∷ [] → has (names_of c.text (before done)) (sp c.text x) ≡ false
          → slice_get whole (length (before done)) ≡ Some (OfRoutine (length done) x) → Point
      old : (i j : ℕ) (y : Routine) → introduced c.text (done ++ x ∷ []) ≡ I → has (names_of c.text (before done))
          (sp c.text x) ≡ true → has (routine_names c.text I) (sp c.text x) ≡ true → slice_get (before done) i ≡ Some
          (OfRoutine j y)
          → slice_get done j ≡ Some y → sp c.text y ≡ sp c.text x → Completes c.text y x → Point

    further : (more : List InPart) × (introduced c.text rs ≡ introduced c.text (done ++ x ∷ []) ++ more)
    further =
        let m = introduced_more c.text (introduced c.text (done ++ x ∷ [])) (0 + length (done ++ x ∷ [])) rest in (
          m.0,
          ap (introduced c.text) (split ∙ sym (append_assoc done (x ∷ []) rest)) ∙ introduced_append c.text [] 0
              (done ++ x ∷ []) rest ∙ m.1,
        )

    pub points_further : (more : List Definition) × (whole ≡ before (done ++ x ∷ []) ++ more)
    points_further =
        let J = introduced c.text (done ++ x ∷ []) in (
          map of_routine further.0,
          ap (points c.text D) further.1 ∙ ap (λ l. map OfDeclaration D ++ l)
              (map-append of_routine J further.0) ∙ sym
              (append_assoc (map OfDeclaration D) (map of_routine J) (map of_routine further.0)),
        )

    names_both : (xs ys : List Definition) → names_of c.text (xs ++ ys) ≡ names_of c.text xs ++ names_of c.text ys
    unfolding names_of
    names_both xs ys = map-append (λ d. spelled c.text (point d)) xs ys

    at_done : slice_get rs (length done) ≡ Some x
    at_done = ap (λ l. slice_get l (length done)) split ∙ get_at done x rest

    named_there : (i : ℕ) (d : Definition) → slice_get (before done) i ≡ Some d → spelled c.text (point d) ≡ sp c.text x
        → has (names_of c.text (before done)) (sp c.text x) ≡ true
    unfolding names_of
    named_there i d e q = has_at (names_of c.text (before done)) i (sp c.text x)
        (slice_get-map (λ d. spelled c.text (point d)) (before done) i
        ∙ ap (option_map (λ d. spelled c.text (point d))) e ∙ ap (λ n. Some n) q)

    pub point_at : (b : Bool) → has (routine_names c.text I) (sp c.text x) ≡ b → Point
    unfolding routine_names
    point_at false h =
        let grown : introduced c.text (done ++ x ∷ []) ≡ I ++ (length done, x) ∷ [] = introduced_last c.text done x
        ∙ ap (λ b. if b then I else I ++ (length done, x) ∷ []) h in
        let longer : before (done ++ x ∷ []) ≡ before done ++ OfRoutine (length done) x
        ∷ [] = ap (points c.text D) grown ∙ points_last c.text D I (length done) x in
        let more = points_further in
        let whole_is : whole ≡ before done ++ OfRoutine (length done) x ∷ more.0 = more.1 ∙ ap (λ l. l ++ more.0) longer
        ∙ append_assoc (before done) (OfRoutine (length done) x ∷ []) more.0 in
        let names_are : names_of c.text whole ≡ names_of c.text (before done) ++ sp c.text x ∷ names_of c.text more.0 =
        ap (names_of c.text) more.1 ∙ names_both (before (done ++ x ∷ [])) more.0
        ∙ ap (λ l. l ++ names_of c.text more.0)
        (ap (names_of c.text) longer ∙ points_names_last c.text (before done) (length done) x)
        ∙ append_assoc (names_of c.text (before done)) (sp c.text x ∷ []) (names_of c.text more.0) in
        new h grown (apart (names_of c.text (before done)) (names_of c.text more.0) (sp c.text x) names_are)
        (ap (λ l. slice_get l (length (before done))) whole_is ∙ get_at (before done)
        (OfRoutine (length done) x) more.0)
    point_at true h =
        let st = there_place 0 (routine_names c.text I) [] (sp c.text x) h in
        let l : length (routine_names c.text I) ≡ length I = names_count c.text I in
        let below = st.below in
        let q = there_is I st.index (omega (arith, l, below)) in
        let name : st.name ≡ sp c.text q.0.1 = same_Some st.name (sp c.text q.0.1)
        (sym st.there ∙ slice_get-map (λ (r : InPart). spelled c.text (routine_name r.1)) I st.index
        ∙ ap (option_map (λ (r : InPart). spelled c.text (routine_name r.1))) q.1) in
        let alike : sp c.text q.0.1 ≡ sp c.text x = sym (same_equal (sp c.text x) st.name st.alike ∙ name) in
        let there = introduced_of c.text done st.index q.0.0 q.0.1 q.1 in
        let in_done = slice_get_within done q.0.0 q.0.1 there in
        let first = declarations_length D in
        let i = length (map OfDeclaration D) + st.index in
        let at : slice_get (before done) i ≡ Some (OfRoutine q.0.0 q.0.1) = get_right (map OfDeclaration D)
        (map of_routine I) st.index ∙ slice_get-map of_routine I st.index ∙ ap (option_map of_routine) q.1 in
        old i q.0.0 q.0.1 (introduced_last c.text done x ∙ ap (λ b. if b then I else I ++ (length done, x) ∷ []) h)
        (named_there i (OfRoutine q.0.0 q.0.1) at alike) h at there alike
        (completed.only q.0.0 (length done) q.0.1 x in_done
        (ap (λ l. slice_get l q.0.0) split ∙ get_stays done (x ∷ rest) q.0.0 q.0.1 there) at_done (sym alike))

    pub routed : Point
    routed = point_at (has (routine_names c.text I) (sp c.text x)) refl

  -- the names of the routines are added to those of the declarations
  module _
      (headed : (i k : ℕ) (x : Routine) → slice_get whole i ≡ Some (OfRoutine k x) → (h : syntax.Heading)
      × (routine_heading x ≡ Some h)) where
    abbrev named : Bool → Bool → List (List ℕ) → Routine → List (List ℕ)
    named b d names x = if b || d then names else names ++ sp c.text x ∷ []

    one_named : (done rest : List Routine) (x : Routine) (split : rs ≡ done ++ x ∷ rest) → Point done rest x split
        → add_routine c.text (names_of c.text (before done)) (routine c x) ≡ names_of c.text (before (done ++ x ∷ []))
    unfolding add_routine
    one_named done rest x split (new h grown absent at) =
        let names = names_of c.text (before done) in
        let heading = headed (length (before done)) (length done) x at in
        ap (λ n. if is_none (routine c x).heading || has names (spelled c.text n) then names else names
        ++ spelled c.text n ∷ []) (read c x).name
        ∙ ap (λ b. named (is_none (routine c x).heading) b names x) absent ∙ ap (λ o. named (is_none o) false names x)
        ((read c x).heading ∙ heading.1)
        ∙ sym (points_names_last c.text (before done) (length done) x) ∙ ap (names_of c.text)
        (sym (ap (points c.text D) grown ∙ points_last c.text D (introduced c.text done) (length done) x))
    one_named done rest x split (old i j y kept there there_too at in_done alike completes) =
        let names = names_of c.text (before done) in
        ap (λ n. if is_none (routine c x).heading || has names (spelled c.text n) then names else names
        ++ spelled c.text n ∷ []) (read c x).name
        ∙ ap (λ b. named (is_none (routine c x).heading) b names x) there
        ∙ ap (λ b. if b then names else names ++ sp c.text x ∷ []) (or-true (is_none (routine c x).heading))
        ∙ ap (λ l. names_of c.text (points c.text D l)) (sym kept)

    pub names_read : (rest done : List Routine) → rs ≡ done ++ rest → add_routines c.text
        (names_of c.text (before done)) (map (routine c) rest) ≡ names_of c.text whole
    names_read [] done split = ap (λ l. names_of c.text (before l)) (sym (append-nil done) ∙ sym split)
    names_read (x ∷ rest) done split =
        ap (λ l. add_routines c.text l (map (routine c) rest)) (one_named done rest x split (routed done rest x split))
        ∙ names_read rest (done ++ x ∷ []) (split ∙ sym (append_assoc done (x ∷ []) rest))
