-- The routines of a block: each defines its name or has the heading that did, and its block is read where the points
-- before it are known.
use Rattle.std.proofs.Common.{◌≡◌, ℕ, zero, suc, ◌+◌, Bool, true, false, ◌||◌, if◌then◌else◌, List, [], ◌∷◌, ◌++◌}
use Rattle.std.proofs.Common.{length, map, Option, Some, None, is_none, option_map, option_and_then, get_or}
use Rattle.std.proofs.Common.{slice_get, refl, sym, ap, ◌∙◌, subst, append_assoc, append-nil, length-append, arith}
use Rattle.std.proofs.lemmas.Option.{slice_get_past, same_Some}
use Rattle.std.proofs.Math.Bool.{or-true}
use Rattle.ps_syntax.specs.declared.program.Heading as syntax
use Rattle.ps_syntax.specs.declared.program.Block as syntax_block
use Rattle.ps_syntax.specs.declared.program.Routine.{Routine}
use Rattle.ps_check_judgement.specs.declared.change.Change.{Change}
use Rattle.ps_check_judgement.specs.Judged.{Yes, steps}
use Rattle.ps_check_judgement.proofs.Binds.{no_yes, inside_yes, then_yes}
use Rattle.ps_check_judgement.proofs.Impossible.{never, none_some}
use Rattle.ps_check_names.specs.Spelling.{spelled, has, place}
use Rattle.ps_check_names.specs.Regions.{Region, Meaning, Context}
use Rattle.ps_check_names.proofs.SpellingLemmas.{same_itself}
use Rattle.ps_check_declarations.specs.Denoters.{Frame}
use Rattle.ps_check.specs.Readings.{Routines}
use Rattle.ps_check.specs.Forwards.{add_routine, add_routines}
use Rattle.ps_check.specs.Blocks.{routine_tree, headed, introduce, introduced as introduced_to, read_block, one_routine}
use Rattle.ps_check.specs.Blocks.{block, routine}
use Rattle.ps_check.specs.Paths.{routine_block}
use Rattle.ps_check_laws.specs.Controls.{changes_by}
use Rattle.ps_check_laws.specs.Definitions.{Declarations, Definition, routine_heading, introduced, names_of}
use Rattle.ps_check_laws.proofs.Lists.{compare, get_left, Each, there_place}
use Rattle.ps_check_laws.proofs.Lists.{new_place}
use Rattle.ps_check_laws.proofs.Routines.{placed, read, sp}
use Rattle.ps_check_laws.proofs.GatheredSoFar.{Keeps, Same, Longer, longer_both, changes_of, RoutineGrows}
use Rattle.ps_check_laws.proofs.BlockPoints.{points, names_length, all_more, has_at}
use Rattle.ps_check_laws.proofs.Headed as by_heading
use Rattle.ps_check_laws.proofs.NestedSteps.{Nested, NestedPart, step_at}

module _ (c : Context) (number : ℕ) (names : List (List ℕ)) (outer : List Region) (first : ℕ) (chain : List ℕ)
    (D : Declarations) (base drawn : ℕ) (all : List Routine) where
  abbrev f : Frame
  f = record { text = c.text; routine = number; names = names; begun = []; outer = outer }

  abbrev before : List Routine → List Definition
  before done = points c.text D (introduced c.text done)

  -- what is said of headings, of this block's
  abbrev At : List Routine → Routines → Type 0
  At done r = by_heading.At c number names outer first chain D base drawn all done r

  abbrev HasHeading : List Routine → Routine → Routines → Routines → ℕ → Type 0
  HasHeading done x r s index = by_heading.HasHeading c number names outer first chain D base drawn all done x r s index

  -- ---- one routine after the other

  -- a routine that was read: its heading, and the rest of it
  pub record ReadRoutine (done : List Routine) (x : Routine) (r w : Routines) : Type 0 where
    pub names_are : add_routine c.text (names_of c.text (before done)) (routine c x) ≡ names_of c.text
        (before (done ++ x ∷ []))
    pub index : ℕ
    pub introduced_to : Routines
    pub found : place names (sp c.text x) ≡ Some index
    pub intro : HasHeading done x r introduced_to index
    pub reading : read_block f chain (routine c x) introduced_to (option_map (block c) (routine_block x)) ≡ Yes w

  module _ (done rest : List Routine) (x : Routine) (r w : Routines) (more : List (List ℕ))
      (split : all ≡ done ++ x ∷ rest) (at : At done r)
      (whole : names ≡ add_routine c.text (names_of c.text (before done)) (routine c x) ++ more) where
    abbrev so_far : List (List ℕ)
    so_far = names_of c.text (before done)

    abbrev to_is : Bool → List (List ℕ)
    to_is b = if b then so_far else so_far ++ sp c.text x ∷ []

    -- what is added to the names
    adds : (h : Option syntax.Heading) (b : Bool) → routine_heading x ≡ h → has so_far (sp c.text x) ≡ b
        → add_routine c.text so_far (routine c x) ≡ to_is (is_none h || b)
    unfolding add_routine
    adds h b is there =
        ap (λ o. if is_none o || has so_far (spelled c.text (routine c x).name) then so_far else so_far
        ++ spelled c.text (routine c x).name ∷ []) ((read c x).heading ∙ is)
        ∙ ap (λ n. if is_none h || has so_far (spelled c.text n) then so_far else so_far ++ spelled c.text n ∷ [])
        (read c x).name
        ∙ ap (λ z. to_is (is_none h || z)) there

    -- what the name denotes
    abbrev named_so : Option ℕ → Option Meaning
    named_so o = option_and_then (slice_get r.known) o

    record Entered (s : Routines) : Type 0 where
      index : ℕ
      found : place names (sp c.text x) ≡ Some index
      intro : HasHeading done x r s index
      names_are : add_routine c.text so_far (routine c x) ≡ names_of c.text (before (done ++ x ∷ []))

    -- `function` and a name that has no heading yet
    nothing : (o : Option ℕ) → names ≡ so_far ++ more → has so_far (sp c.text x) ≡ false → place names (sp c.text x) ≡ o
        → named_so o ≡ None
    nothing None is new q = refl
    nothing (Some i) is new q =
        let long = names_length c.text (before done) in
        let many = at.stands.many in
        let there = placed (sp c.text x) 0 names i q in
        let m = there.1 in
        let same_index : there.0 ≡ i = omega (arith, m) in
        compare i (length r.known) (slice_get r.known i ≡ None)
        (λ l. never (sym new ∙ has_at so_far i (sp c.text x)
        (sym (get_left so_far more i (omega (arith, l, long, many))) ∙ ap (λ l. slice_get l i) (sym is)
        ∙ ap (slice_get names) (sym same_index) ∙ there.2)))
        (λ e. slice_get_past r.known i (omega (arith, e)))
        (λ l. slice_get_past r.known i (omega (arith, l)))

    intro_by : (h : Option syntax.Heading) (b : Bool) → routine_heading x ≡ h → has so_far (sp c.text x) ≡ b
        → (s : Routines) → introduce f (routine c x) r (named_so (place names (sp c.text x))) ≡ Yes s → Entered s
    unfolding introduce
    intro_by h true is there s e =
        let none_added : add_routine c.text so_far (routine c x) ≡ so_far = adds h true is there ∙ ap to_is
        (or-true (is_none h)) in
        let names_is : names ≡ so_far ++ more = whole ∙ ap (λ l. l ++ more) none_added in
        let st = there_place 0 so_far more (sp c.text x) there in
        let found : place names (sp c.text x) ≡ Some st.index = ap (λ l. place l (sp c.text x)) names_is ∙ st.found
        ∙ (let z : 0 + st.index ≡ st.index = omega arith in ap (λ n. Some n) z) in
        let intro = by_heading.old c number names outer first chain D base drawn all done x r s at st.index found more
        names_is there
        (ap (λ o. introduce f (routine c x) r (named_so o)) (sym found) ∙ e) in
        record {
          index = st.index;
          found = found;
          intro = intro;
          names_are = none_added ∙ sym (intro.names_so ∙ ap to_is there);
        }
    intro_by (Some xh) false is new s e =
        let one_added : add_routine c.text so_far (routine c x) ≡ so_far ++ sp c.text x ∷ [] = adds
        (Some xh) false is new in
        let names_is : names ≡ (so_far ++ sp c.text x ∷ []) ++ more = whole ∙ ap (λ l. l ++ more) one_added in
        let found : place names (sp c.text x) ≡ Some (length so_far) =
        ap (λ l. place l (sp c.text x)) (names_is ∙ append_assoc so_far (sp c.text x ∷ []) more)
        ∙ new_place 0 so_far more (sp c.text x) (sp c.text x) new (same_itself (sp c.text x))
        ∙ (let z : 0 + length so_far ≡ length so_far = omega arith in ap (λ n. Some n) z) in
        let intro = by_heading.new_name c number names outer first chain D base drawn all done x r s at
        (length so_far) found xh is rest split new refl
        (ap (λ o. introduce f (routine c x) r (named_so o)) (sym found) ∙ e) in
        record {
          index = length so_far;
          found = found;
          intro = intro;
          names_are = one_added ∙ sym (intro.names_so ∙ ap to_is new);
        }
    intro_by None false is new s e =
        let none_added : add_routine c.text so_far (routine c x) ≡ so_far = adds None false is new in
        let unknown = nothing (place names (sp c.text x)) (whole ∙ ap (λ l. l ++ more) none_added) new refl in
        absurd (no_yes (ap (headed f (routine c x) r) (sym ((read c x).heading ∙ is)) ∙ ap (introduce f (routine c x) r)
        (sym unknown) ∙ e))

    pub one_taken : one_routine f chain r (routine c x) ≡ Yes w → ReadRoutine done x r w
    unfolding one_routine
    one_taken e =
        let s = then_yes (introduced_to f (routine c x) r) _ w e in
        let intro = intro_by (routine_heading x) (has so_far (sp c.text x)) refl refl s.0
        (ap (λ n. introduce f (routine c x) r (named_so (place names (spelled c.text n)))) (sym (read c x).name)
        ∙ s.1) in
        record {
          names_are = intro.names_are;
          index = intro.index;
          introduced_to = s.0;
          found = intro.found;
          intro = intro.intro;
          reading = ap (read_block f chain (routine c x) s.0) (sym (read c x).block_is) ∙ s.2;
        }

  nested_keeps : (n : ℕ) (x : Routine) (b : syntax_block.Block) (w v : Routines) → Keeps w.gathered v.gathered
      → Longer w.gathered v.gathered → ((later : List Meaning) × (v.known ≡ w.known ++ later))
      → Nested c number names outer first chain D base drawn all n x b w
      → Nested c number names outer first chain D base drawn all n x b v
  nested_keeps n x b w v k more later t = record {
    known = t.known;
    inner = t.inner;
    gathered = t.gathered;
    done = t.done;
    reading = t.reading;
    stands = t.stands;
    index = t.index;
    found = t.found;
    number_in_part = t.number_in_part;
    by = t.by;
    at = t.at;
    heading = t.heading;
    said = t.said;
    is_said = t.is_said;
    named = t.named;
    is_denoted = t.is_denoted;
    numbered_so = t.numbered_so;
    begins = t.begins;
    ready = t.ready;
    count = t.count;
    made = k t.heading.number (routine_tree t.inner.chain t.heading t.done) t.made;
    assigned = t.assigned;
    inner_domains = longer_both t.done.gathered w.gathered v.gathered t.inner_domains more;
    drawn_so = t.drawn_so;
    known_more = (
      t.known_more.0 ++ later.0,
      later.1 ∙ ap (λ l. l ++ later.0) t.known_more.1
          ∙ append_assoc t.known t.known_more.0 later.0,
    );
    inner_keeps = λ m y le z. k m y (t.inner_keeps m y le z);
  }

  -- what all routines give, from the given one on
  pub record AllTold (done rs : List Routine) (r w : Routines) : Type 0 where
    pub names_are : names ≡ names_of c.text (before all)
    pub behind : At all w
    pub keeps : Keeps r.gathered w.gathered
    pub lower : Same base r.gathered w.gathered
    pub domains : Longer r.gathered w.gathered
    pub known_more : (more : List Meaning) × (w.known ≡ r.known ++ more)
    -- what the block of each changes
    pub parts : List (List Change)
    pub many_parts : length parts ≡ length rs
    pub changes : w.changes ≡ r.changes ++ changes_of parts rs
    pub nested : (k : ℕ) (x : Routine) (b : syntax_block.Block) → slice_get rs k ≡ Some x → routine_block x ≡ Some b
        → NestedPart c number names outer first chain D base drawn all (length done + k) x b w (get_or parts k [])

  nested_at : (done rs : List Routine) (x : Routine) (w v : Routines) (part : List Change) (parts : List (List Change))
      → ((b : syntax_block.Block) → routine_block x ≡ Some b
      → NestedPart c number names outer first chain D base drawn all (length done) x b w part)
      → Keeps w.gathered v.gathered → Longer w.gathered v.gathered
      → ((later : List Meaning) × (v.known ≡ w.known ++ later))
      → ((k : ℕ) (y : Routine) (b : syntax_block.Block) → slice_get rs k ≡ Some y → routine_block y ≡ Some b
      → NestedPart c number names outer first chain D base drawn all (length (done ++ x ∷ []) + k) y b v
      (get_or parts k []))
      → (k : ℕ) (y : Routine) (b : syntax_block.Block) → slice_get (x ∷ rs) k ≡ Some y → routine_block y ≡ Some b
      → NestedPart c number names outer first chain D base drawn all (length done + k) y b v
      (get_or (part ∷ parts) k [])
  unfolding nested_keeps
  nested_at done rs x w v part parts one keeps longer later further zero y b e is =
      let same_routine : x ≡ y = same_Some x y e in
      let n : length done ≡ length done + 0 = omega arith in
      let here = one b (ap routine_block same_routine ∙ is) in
      subst (λ m. NestedPart c number names outer first chain D base drawn all m y b v part) n
      (subst (λ z. NestedPart c number names outer first chain D base drawn all (length done) z b v part) same_routine
      (nested_keeps (length done) x b w v keeps longer later here.0, here.1))
  nested_at done rs x w v part parts one keeps longer later further (suc k) y b e is =
      let l = length-append done (x ∷ []) in
      let n : length (done ++ x ∷ []) + k ≡ length done + suc k = omega (arith, l) in
      subst (λ m. NestedPart c number names outer first chain D base drawn all m y b v (get_or parts k [])) n
      (further k y b e is)

  pub all_told : (rs done : List Routine) (r w : Routines) → all ≡ done ++ rs → Each (RoutineGrows c) rs → At done r
      → add_routines c.text (names_of c.text (before done)) (map (routine c) rs) ≡ names
      → steps (one_routine f chain) r (map (routine c) rs) ≡ Yes w → AllTold done rs r w
  all_told [] done r w split grows at added e =
      let whole : done ≡ all = sym (append-nil done) ∙ sym split in
      let same_routines = inside_yes r w e in
      record {
        names_are = sym added ∙ ap (λ l. names_of c.text (before l)) whole;
        behind = subst (At all) same_routines (subst (λ l. At l r) whole at);
        keeps = subst (λ (z : Routines). Keeps r.gathered z.gathered) same_routines (λ n y k. k);
        lower = λ n l. ap (λ (z : Routines). slice_get z.gathered.routines n) (sym same_routines);
        domains = (
          [],
          ap (λ (z : Routines). z.gathered.domains) (sym same_routines) ∙ sym
              (append-nil r.gathered.domains),
        );
        known_more = ([], ap (λ (z : Routines). z.known) (sym same_routines) ∙ sym (append-nil r.known));
        parts = [];
        many_parts = refl;
        changes = ap (λ (z : Routines). z.changes) (sym same_routines) ∙ sym (append-nil r.changes);
        nested = λ k x b q is. absurd (none_some q);
      }
  all_told (x ∷ rs) done r w split grows at added e =
      let v = then_yes (one_routine f chain r (routine c x)) _ w e in
      let more = all_more c.text (map (routine c) rs) (add_routine c.text (names_of c.text (before done)) (routine c x))
      in
      let taken = one_taken done rs x r v.0 more.0 split at (sym added ∙ more.1) v.1 in
      let step = step_at c number names outer first chain D base drawn all done rs x r taken.introduced_to v.0 split
      at grows.0 taken.index taken.found taken.intro
      (routine_block x) refl taken.reading in
      let further = all_told rs (done ++ x ∷ []) v.0 w (split ∙ sym (append_assoc done (x ∷ []) rs)) grows.1 step.behind
      (ap (λ l. add_routines c.text l (map (routine c) rs)) (sym taken.names_are) ∙ added) v.2 in
      let mine = changes_by step.part (routine_block x) in
      record {
        names_are = further.names_are;
        behind = further.behind;
        keeps = λ n y k. further.keeps n y (step.keeps n y k);
        lower = λ n l.
            let many = at.count in
            let own_number = taken.intro.numbered_so in
            let longer = taken.intro.count in
            further.lower n l ∙ step.others n (omega (arith, l, many, longer)) (λ q. omega (arith, q, own_number, l))
            ∙ taken.intro.lower n (omega (arith, l, many));
        domains = longer_both r.gathered v.0.gathered w.gathered step.domains further.domains;
        known_more = (
          step.known_more.0 ++ further.known_more.0,
          further.known_more.1
              ∙ ap (λ l. l ++ further.known_more.0) step.known_more.1
              ∙ append_assoc r.known step.known_more.0 further.known_more.0,
        );
        parts = step.part ∷ further.parts;
        many_parts = ap suc further.many_parts;
        changes = further.changes ∙ ap (λ l. l ++ changes_of further.parts rs) step.changes
            ∙ append_assoc r.changes mine (changes_of further.parts rs);
        nested = nested_at done rs x v.0 w step.part further.parts step.nested further.keeps further.domains
            further.known_more further.nested;
      }
