-- The heading of a routine: it defines its name, or it is the one that did.
use Rattle.std.proofs.Common.{◌≡◌, ℕ, ◌+◌, Bool, true, false, ◌&&◌, if◌then◌else◌, List, [], ◌∷◌, ◌++◌, length, map}
use Rattle.std.proofs.Common.{take, nat_lt, Some, None, is_none, slice_get, refl, sym, ap, ◌∙◌, subst, length-append}
use Rattle.std.proofs.Common.{arith}
use Rattle.std.proofs.lemmas.Option.{slice_get_past, same_Some}
use Rattle.std.proofs.Math.Seq.{take-append_seam}
use Rattle.ps_tree.specs.declared.limits.TheConstants.{MAX_ROUTINES}
use Rattle.ps_tree.proofs.Booleans.{and_first, and_second}
use Rattle.ps_syntax.specs.declared.program.Heading as syntax
use Rattle.ps_syntax.specs.declared.program.Routine.{Routine}
use Rattle.ps_check_judgement.specs.declared.refusal.Rule.TheVariants.{Limit}
use Rattle.ps_check_judgement.specs.Judged.{Yes, provided}
use Rattle.ps_check_judgement.proofs.Binds.{inside_yes, then_yes, provided_yes}
use Rattle.ps_check_judgement.proofs.Impossible.{never}
use Rattle.ps_check_judgement.proofs.Items.{there_is, get_stays}
use Rattle.ps_check_names.specs.Spelling.{spelled, same, has, place}
use Rattle.ps_check_names.specs.Regions.{Region, Meaning, RoutineMeaning, Heading, Context}
use Rattle.ps_check_names.proofs.SpellingLemmas.{same_equal}
use Rattle.ps_check_declarations.specs.Denoters.{Frame}
use Rattle.ps_check_declarations.specs.Headings as headings
use Rattle.ps_check_declarations.specs.Headings.{heading, section_list}
use Rattle.ps_check.specs.Readings.{Routines, heading_name, heading_list}
use Rattle.ps_check.specs.Forwards.{may_complete, is_open, is_same_kind, is_waiting}
use Rattle.ps_check.specs.Blocks.{hidden_in_heading, new_heading, headed, introduce, block, routine}
use Rattle.ps_check.specs.Paths.{routine_block}
use Rattle.ps_check_laws.specs.Definitions.{Declarations, Definition, OfDeclaration, OfRoutine, formal_points}
use Rattle.ps_check_laws.specs.Definitions.{routine_heading, routine_names, introduced, point, names_of}
use Rattle.ps_check_laws.specs.Denoting.{counted}
use Rattle.ps_check_laws.specs.Meanings.{Defines, IsHeading}
use Rattle.ps_check_declarations.specs.Points as points_of
use Rattle.ps_check_laws.proofs.Lists.{get_left, get_at}
use Rattle.ps_check_laws.proofs.Lists.{there_place}
use Rattle.ps_check_laws.specs.Counts.{sum, routine_domains}
use Rattle.ps_check_laws.proofs.Declared.{Standing, one_more_stands}
use Rattle.ps_check_laws.proofs.HeadingPoints.{points_told}
use Rattle.ps_check_laws.proofs.Routines.{read, sp, introduced_last, own, counts}
use Rattle.ps_check_laws.proofs.GatheredSoFar.{Keeps, Same, vacant_is}
use Rattle.ps_check_laws.proofs.BlockPoints.{none_stays, plain_not, declares_plain, heading_or, among, points}
use Rattle.ps_check_laws.proofs.BlockPoints.{points_last, points_names_last, names_length, not_routine, name_there}

module _ (c : Context) (number : ℕ) (names : List (List ℕ)) (outer : List Region) (first : ℕ) (chain : List ℕ)
    (D : Declarations) (base drawn : ℕ) (all : List Routine) where
  abbrev pub f : Frame
  f = record { text = c.text; routine = number; names = names; begun = []; outer = outer }

  abbrev pub numbers : ℕ → ℕ
  numbers k = base + counted c.text [] (counts c.text (take k all))

  abbrev pub before : List Routine → List Definition
  before done = points c.text D (introduced c.text done)

  -- what holds before a routine, where those before it are done
  pub record At (done : List Routine) (r : Routines) : Type 0 where
    pub stands : Standing f first numbers (before done) r.known
    pub count : length r.gathered.routines ≡ base + counted c.text [] (counts c.text done)
    pub drawn_so : length r.gathered.domains ≡ drawn + sum (map routine_domains done)

  -- a heading is that of a name before, which the routine completes, or it is new
  pub data How (done : List Routine) (x : Routine) (r s : Routines) (index : ℕ) (by : Routine) (heading : Heading)
      : Type 0 where
    completing : has (names_of c.text (before done)) (sp c.text x) ≡ true → r ≡ s → is_same_kind (routine c x) heading
        ≡ true → may_complete (routine c x) ≡ true → How done x r s index by heading
    introducing : by ≡ x → index ≡ length r.known → s.known ≡ r.known ++ RoutineMeaning heading ∷ [] → heading.number
        ≡ length r.gathered.routines → How done x r s index by heading

  -- the heading of a routine is there
  pub record HasHeading (done : List Routine) (x : Routine) (r s : Routines) (index : ℕ) : Type 0 where
    pub stands : Standing f first numbers (before (done ++ x ∷ [])) s.known
    pub count : length s.gathered.routines ≡ length r.gathered.routines + own c.text (introduced c.text done) x
    pub keeps : Keeps r.gathered s.gathered
    pub lower : Same (length r.gathered.routines) r.gathered s.gathered
    pub domains : s.gathered.domains ≡ r.gathered.domains
    pub changes : s.changes ≡ r.changes
    pub number_in_part : ℕ
    pub by : Routine
    pub at : slice_get (before (done ++ x ∷ [])) index ≡ Some (OfRoutine number_in_part by)
    pub heading : Heading
    pub said : syntax.Heading
    pub known_there : slice_get s.known index ≡ Some (RoutineMeaning heading)
    pub numbered_so : heading.number ≡ numbers number_in_part
    pub is_said : routine_heading by ≡ Some said
    pub known : List Meaning
    pub is : IsHeading f known said heading
    pub named : sp c.text by ≡ sp c.text x
    pub vacant : slice_get s.gathered.routines heading.number ≡ Some None
    pub how : How done x r s index by heading
    pub names_so : names_of c.text (before (done ++ x ∷ []))
        ≡ (if has (names_of c.text (before done)) (sp c.text x) then names_of c.text (before done) else names_of c.text
        (before done) ++ sp c.text x ∷ [])

  module _ (done : List Routine) (x : Routine) (r s : Routines) (at : At done r) (index : ℕ)
      (found : place names (sp c.text x) ≡ Some index) where
    -- a name that is present already
    record Waits (m : Meaning) : Type 0 where
      heading : Heading
      is : m ≡ RoutineMeaning heading
      vacant : slice_get r.gathered.routines heading.number ≡ Some None
      alike : is_same_kind (routine c x) heading ≡ true
      may : may_complete (routine c x) ≡ true

    waiting_at : (m : Meaning) → is_waiting r.gathered (routine c x) m ≡ true → Waits m
    unfolding is_waiting
    waiting_at (RoutineMeaning h) e =
        let rest = and_second (may_complete (routine c x)) (is_open r.gathered h && is_same_kind (routine c x) h) e in
        record {
          heading = h;
          is = refl;
          vacant = vacant_is (slice_get r.gathered.routines h.number)
              (and_first (is_open r.gathered h) (is_same_kind (routine c x) h) rest);
          alike = and_second (is_open r.gathered h) (is_same_kind (routine c x) h) rest;
          may = and_first (may_complete (routine c x)) (is_open r.gathered h && is_same_kind (routine c x) h) e;
        }
    waiting_at m e = never e

    old_at : (d : Definition) (m : Meaning) → slice_get (before done) index ≡ Some d → slice_get r.known index ≡ Some m
        → Defines f first numbers (take index r.known) d m → is_waiting r.gathered (routine c x) m ≡ true → same
        (sp c.text x) (spelled c.text (point d)) ≡ true
        → has (names_of c.text (before done)) (sp c.text x) ≡ true → HasHeading done x r r index
    old_at (OfDeclaration y) m e g defines w alike here = absurd
        (plain_not m (waiting_at m w).heading (waiting_at m w).is
        (declares_plain f first (take index r.known) y m defines))
    old_at (OfRoutine j q) m e g defines w alike here =
        let I = introduced c.text done in
        let waits = waiting_at m w in
        let there : has (routine_names c.text I) (sp c.text x) ≡ true = among c.text D I index j q (sp c.text x) e alike
        in
        let kept : introduced c.text (done ++ x ∷ []) ≡ I = introduced_last c.text done x
        ∙ ap (λ b. if b then I else I ++ (length done, x) ∷ []) there in
        let same_heading : waits.heading ≡ defines.0 = ap (heading_or defines.0) (sym waits.is ∙ defines.2) in
        record {
          stands = subst (λ l. Standing f first numbers (points c.text D l) r.known) (sym kept) at.stands;
          count = (let z : length r.gathered.routines ≡ length r.gathered.routines + 0 = omega arith in z)
              ∙ ap (λ b. length r.gathered.routines + (if b then 0 else 1)) (sym there);
          keeps = λ n y k. k;
          lower = λ n l. refl;
          domains = refl;
          changes = refl;
          number_in_part = j;
          by = q;
          at = ap (λ l. slice_get (points c.text D l) index) kept ∙ e;
          heading = defines.0;
          said = defines.1;
          known_there = g ∙ ap (λ y. Some y) defines.2;
          numbered_so = defines.3;
          is_said = defines.4;
          known = take index r.known;
          is = defines.5;
          named = sym (same_equal (sp c.text x) (sp c.text q) alike);
          vacant = ap (λ (h : Heading). slice_get r.gathered.routines h.number) (sym same_heading) ∙ waits.vacant;
          how = completing here refl (ap (is_same_kind (routine c x)) (sym same_heading) ∙ waits.alike) waits.may;
          names_so = ap (λ l. names_of c.text (points c.text D l)) kept
              ∙ ap (λ b. if b then names_of c.text (before done) else names_of c.text (before done) ++ sp c.text x ∷ [])
              (sym here);
        }

    pub old : (more : List (List ℕ)) → names ≡ names_of c.text (before done) ++ more → has
        (names_of c.text (before done))
        (sp c.text x) ≡ true → introduce f (routine c x) r (slice_get r.known index) ≡ Yes s
        → HasHeading done x r s index
    unfolding introduce
    old more whole there e =
        let st = there_place 0 (names_of c.text (before done)) more (sp c.text x) there in
        let same_index : st.index ≡ index = (let z : st.index ≡ 0 + st.index = omega arith in z) ∙ same_Some
        (0 + st.index) index (sym st.found ∙ ap (λ l. place l (sp c.text x)) (sym whole) ∙ found) in
        let below = st.below in
        let long = names_length c.text (before done) in
        let many = at.stands.many in
        let m = there_is r.known index (omega (arith, below, long, many, same_index)) in
        let d = there_is (before done) index (omega (arith, below, long, same_index)) in
        let waits = provided_yes (is_waiting r.gathered (routine c x) m.0) _ _ r s
        (ap (introduce f (routine c x) r) (sym m.1) ∙ e) in
        let name : st.name ≡ spelled c.text (point d.0) = name_there c.text (before done) index d.0 st.name d.1
        (ap (slice_get (names_of c.text (before done))) (sym same_index) ∙ st.there) in
        subst (λ y. HasHeading done x r y index) waits.1
        (old_at d.0 m.0 d.1 m.1 (at.stands.are index d.0 m.0 d.1 m.1) waits.0
        (ap (same (sp c.text x)) (sym name) ∙ st.alike) there)

    -- a new name
    new_at : (xh : syntax.Heading) → routine_heading x ≡ Some xh → (rest : List Routine) → all ≡ done ++ x ∷ rest → has
        (names_of c.text (before done)) (sp c.text x) ≡ false → index ≡ length r.known → new_heading f
        (is_none (routine c x).block) r xh ≡ Yes s
        → HasHeading done x r s index
    unfolding new_heading formal_points
    new_at xh is_said rest split new last e =
        let I = introduced c.text done in
        let k = length done in
        let n = then_yes (provided (nat_lt (length r.gathered.routines) MAX_ROUTINES) Limit (heading_name xh).from
        (length r.gathered.routines)) _ s e in
        let next = provided_yes (nat_lt (length r.gathered.routines) MAX_ROUTINES) Limit (heading_name xh).from
        (length r.gathered.routines) n.0 n.1 in
        let g = then_yes ((heading f r.known xh).1 (hidden_in_heading f xh)) _ s n.2 in
        let h : Heading = record {
          number = n.0;
          at = (heading_name xh).from;
          sections = section_list g.0.0;
          result = g.0.1;
          names = map (spelled c.text) (points_of.all (map (headings.section_points f r.known) (heading_list xh)));
          is_forward = is_none (routine c x).block;
        } in
        let made : Routines = record {
          known = r.known ++ RoutineMeaning h ∷ [];
          changes = r.changes;
          gathered = record {
            domains = r.gathered.domains;
            routines = r.gathered.routines ++ None ∷ [];
          };
        } in
        let is_heading : IsHeading f r.known xh h = record {
          said = g.0;
          reading = g.1;
          at = refl;
          sections = refl;
          result = refl;
          names = ap (map (spelled c.text)) (points_told f r.known (heading_list xh));
        } in
        let number_is : h.number ≡ numbers k = sym next.1 ∙ at.count
        ∙ ap (λ l. base + counted c.text [] (counts c.text l))
        (sym (ap (take k) split ∙ take-append_seam done (x ∷ rest))) in
        let absent = not_routine c.text D I (sp c.text x) new in
        let grows : introduced c.text (done ++ x ∷ []) ≡ I ++ (k, x) ∷ [] = introduced_last c.text done x
        ∙ ap (λ b. if b then I else I ++ (k, x) ∷ []) absent in
        let longer : before (done ++ x ∷ []) ≡ before done ++ OfRoutine k x ∷ [] = ap (points c.text D) grows
        ∙ points_last c.text D I k x in
        let made_is : made ≡ s = inside_yes made s g.2 in
        let result : HasHeading done x r made index = record {
          stands = subst (λ l. Standing f first numbers l made.known) (sym longer)
              (one_more_stands f first numbers (before done) r.known (OfRoutine k x) (RoutineMeaning h) at.stands (
                h,
                xh,
                refl,
                number_is,
                is_said,
                is_heading,
                ap is_none (read c x).block_is ∙ none_stays (block c)
                    (routine_block x),
              ));
          count = length-append r.gathered.routines (None ∷ [])
              ∙ ap (λ b. length r.gathered.routines + (if b then 0 else 1)) (sym absent);
          keeps = λ j y z. get_stays r.gathered.routines (None ∷ []) j (Some y) z;
          lower = λ n l. get_left r.gathered.routines (None ∷ []) n l;
          domains = refl;
          changes = refl;
          number_in_part = k;
          by = x;
          at = ap (λ l. slice_get l index) longer ∙ ap (slice_get (before done ++ OfRoutine k x ∷ []))
              (last ∙ at.stands.many) ∙ get_at (before done) (OfRoutine k x) [];
          heading = h;
          said = xh;
          known_there = ap (slice_get (r.known ++ RoutineMeaning h ∷ [])) last ∙ get_at r.known (RoutineMeaning h) [];
          numbered_so = number_is;
          is_said = is_said;
          known = r.known;
          is = is_heading;
          named = refl;
          vacant = ap (slice_get (r.gathered.routines ++ None ∷ [])) (sym next.1) ∙ get_at r.gathered.routines None [];
          how = introducing refl last refl (sym next.1);
          names_so = ap (names_of c.text) longer ∙ points_names_last c.text (before done) k x
              ∙ ap (λ b. if b then names_of c.text (before done) else names_of c.text (before done) ++ sp c.text x ∷ [])
              (sym new);
        } in
        subst (λ y. HasHeading done x r y index) made_is result

    pub new_name : (xh : syntax.Heading) → routine_heading x ≡ Some xh → (rest : List Routine) → all ≡ done ++ x ∷ rest
        → has (names_of c.text (before done)) (sp c.text x) ≡ false → index ≡ length (names_of c.text (before done))
        → introduce f (routine c x) r (slice_get r.known index) ≡ Yes s → HasHeading done x r s index
    unfolding introduce
    new_name xh is_said rest split new at_end e =
        let long = names_length c.text (before done) in
        let many = at.stands.many in
        let last : index ≡ length r.known = omega (arith, at_end, long, many) in
        let nothing : slice_get r.known index ≡ None = slice_get_past r.known index (omega (arith, last)) in
        new_at xh is_said rest split new last (ap (headed f (routine c x) r) (sym ((read c x).heading ∙ is_said))
        ∙ ap (introduce f (routine c x) r) (sym nothing) ∙ e)
