-- The block of a routine is read where the points before it are known.
use Rattle.std.proofs.Common.{◌≡◌, ℕ, ◌+◌, ◌<◌, ◌≤◌, true, List, [], ◌∷◌, ◌++◌, length, map, take, Option, Some, None}
use Rattle.std.proofs.Common.{option_map, option_and_then, slice_get, slice_set, refl, sym, ap, ◌∙◌, subst}
use Rattle.std.proofs.Common.{append_assoc, append-nil, length-append, arith}
use Rattle.std.proofs.lemmas.Option.{slice_get_within, same_Some}
use Rattle.std.proofs.Math.Seq.{take-append_seam}
use Rattle.ps_syntax.specs.declared.program.Heading as syntax
use Rattle.ps_syntax.specs.declared.program.Block as syntax_block
use Rattle.ps_syntax.specs.declared.program.Routine.{Routine, out-Routine}
use Rattle.ps_tree.specs.Tree as Tree
use Rattle.ps_check_judgement.specs.declared.change.Change.{Change}
use Rattle.ps_check_judgement.specs.declared.refusal.Rule.TheVariants.{Limit, NoResultAssigned}
use Rattle.ps_check_judgement.specs.Judged.{Yes, provided}
use Rattle.ps_check_judgement.proofs.Binds.{inside_yes, then_yes, provided_yes}
use Rattle.ps_check_judgement.proofs.Impossible.{none_some}
use Rattle.ps_check_judgement.proofs.Items.{there_is, set_length}
use Rattle.ps_check_names.specs.Spelling.{spelled, place}
use Rattle.ps_check_names.specs.Regions.{Region, BlockRegion, BlockPoint, Meaning, RoutineMeaning, Heading, Context}
use Rattle.ps_check_names.specs.Regions.{find, find_past}
use Rattle.ps_check_declarations.specs.Denoters.{Frame}
use Rattle.ps_check_declarations.specs.Headings.{heading}
use Rattle.ps_check.specs.Readings.{Gathered, Start, Done, Routines, heading_name}
use Rattle.ps_check.specs.Entries.{start}
use Rattle.ps_check.specs.Blocks.{routine_tree, is_small_routine, finished, known_as, heading_at, read_block, block}
use Rattle.ps_check.specs.Blocks.{routine}
use Rattle.ps_check.specs.Changes.{assigns, outward}
use Rattle.ps_check.specs.Paths.{routine_block}
use Rattle.ps_check_laws.specs.Controls.{changes_by}
use Rattle.ps_check_laws.specs.Definitions.{Declarations, Definition, OfRoutine, numbered, formal_points}
use Rattle.ps_check_laws.specs.Definitions.{formal_declarations, routine_name, routine_heading, routine_names}
use Rattle.ps_check_laws.specs.Definitions.{introduced}
use Rattle.ps_check_laws.specs.Denoting.{counted, headings_within}
use Rattle.ps_check_laws.proofs.Lists.{set_same, set_other}
use Rattle.ps_check_laws.specs.Counts.{sum, routine_domains, block_domains}
use Rattle.ps_check_laws.proofs.Drawn.{inner_domains as inner_drawn, domains_are as drawn_are, sum_last}
use Rattle.ps_check_laws.proofs.Found.{found_at}
use Rattle.ps_check_laws.proofs.Declared.{Standing}
use Rattle.ps_check_laws.proofs.Apart.{start_apart}
use Rattle.ps_check_laws.proofs.Formals.{Begins, begun, formals_stand}
use Rattle.ps_check_laws.proofs.Routines.{read, heading_named, count_is, inner_count, sp, own, counts, counted_last}
use Rattle.ps_check_laws.proofs.GatheredSoFar.{Keeps, Longer, not_both, Ready, RoutineGrows}
use Rattle.ps_check_laws.proofs.BlockPoints.{points, formals_names}
use Rattle.ps_check_laws.proofs.Headed as by_heading
use Rattle.ps_check_laws.proofs.Headed.{completing, introducing}

module _ (c : Context) (number : ℕ) (names : List (List ℕ)) (outer : List Region) (first : ℕ) (chain : List ℕ)
    (D : Declarations) (base drawn : ℕ) (all : List Routine) where
  abbrev pub f : Frame
  f = record { text = c.text; routine = number; names = names; begun = []; outer = outer }

  abbrev pub numbers : ℕ → ℕ
  numbers k = base + counted c.text [] (counts c.text (take k all))

  abbrev pub before : List Routine → List Definition
  before done = points c.text D (introduced c.text done)

  -- what is said of headings, of this block's
  abbrev pub At : List Routine → Routines → Type 0
  At done r = by_heading.At c number names outer first chain D base drawn all done r

  abbrev HasHeading : List Routine → Routine → Routines → Routines → ℕ → Type 0
  HasHeading done x r s index = by_heading.HasHeading c number names outer first chain D base drawn all done x r s index

  abbrev How : List Routine → Routine → Routines → Routines → ℕ → Routine → Heading → Type 0
  How done x r s index by heading = by_heading.How c number names outer first chain D base drawn all done x r s index by
      heading

  -- ---- the block of a routine

  pub record Nested (n : ℕ) (x : Routine) (b : syntax_block.Block) (w : Routines) : Type 0 where
    pub known : List Meaning
    pub inner : Start
    pub gathered : Gathered
    pub done : Done
    pub reading : block c b (BlockRegion number names known ∷ outer) inner gathered ≡ Yes done
    pub stands : Standing f first numbers (before (take (n + 1) all)) known
    pub index : ℕ
    pub found : place names (sp c.text x) ≡ Some index
    pub number_in_part : ℕ
    pub by : Routine
    pub at : slice_get (before (take (n + 1) all)) index ≡ Some (OfRoutine number_in_part by)
    pub heading : Heading
    pub said : syntax.Heading
    pub is_said : routine_heading by ≡ Some said
    pub named : sp c.text by ≡ sp c.text x
    pub is_denoted : find (BlockRegion number names known ∷ outer) (spelled c.text (heading_name said))
        (heading_name said).from ≡ Yes (BlockPoint 0 (RoutineMeaning heading))
    pub numbered_so : heading.number ≡ numbers number_in_part
    pub begins : Begins chain heading said inner
    pub ready : Ready c.text (BlockRegion number names known ∷ outer) inner (formal_declarations said)
    pub count : length gathered.routines ≡ (base + counted c.text [] (counts c.text (take n all))) + own c.text
        (introduced c.text (take n all)) x
    pub made : slice_get w.gathered.routines heading.number ≡ Some (Some (routine_tree inner.chain heading done))
    pub assigned : assigns heading.result done.changes ≡ true
    -- the routines within the block have theirs too
    pub inner_domains : Longer done.gathered w.gathered
    pub drawn_so : length gathered.domains ≡ drawn + sum (map routine_domains (take n all))
    pub known_more : (more : List Meaning) × (w.known ≡ known ++ more)
    pub inner_keeps : (m : ℕ) (y : Tree.Routine) → length gathered.routines ≤ m → slice_get done.gathered.routines m
        ≡ Some (Some y) → slice_get w.gathered.routines m ≡ Some (Some y)

  -- with what its block changes
  abbrev pub NestedPart : ℕ → Routine → syntax_block.Block → Routines → List Change → Type 0
  NestedPart n x b w part = (t : Nested n x b w) × (t.done.changes ≡ part)

  module _ (done rest : List Routine) (x : Routine) (r s w : Routines) (split : all ≡ done ++ x ∷ rest) (at : At done r)
      (grows : RoutineGrows c x) (index : ℕ) (found : place names (sp c.text x) ≡ Some index)
      (intro : HasHeading done x r s index) where
    taken : take (length done) all ≡ done
    taken = ap (take (length done)) split ∙ take-append_seam done (x ∷ rest)

    taken_too : take (length done + 1) all ≡ done ++ x ∷ []
    taken_too =
        let l : length done + 1 ≡ length (done ++ x ∷ []) = sym (length-append done (x ∷ [])) in
        ap (λ k. take k all) l ∙ ap (take (length (done ++ x ∷ []))) (split ∙ sym (append_assoc done (x ∷ []) rest))
        ∙ take-append_seam (done ++ x ∷ []) rest

    named_said : routine_name intro.by ≡ heading_name intro.said
    named_said = heading_named intro.by (out-Routine intro.by) intro.said refl intro.is_said

    -- the name of the heading denotes it at the block's place
    denoted : find (BlockRegion number names s.known ∷ outer) (spelled c.text (heading_name intro.said))
        (heading_name intro.said).from ≡ Yes (BlockPoint 0 (RoutineMeaning intro.heading))
    unfolding find_past
    denoted = found_at 0 s.known index (RoutineMeaning intro.heading)
        (place names (spelled c.text (heading_name intro.said))) (heading_name intro.said).from _
        (ap (λ n. place names (spelled c.text n)) (sym named_said) ∙ ap (place names) intro.named ∙ found)
        intro.known_there

    -- the other routines with lower numbers are as they were
    abbrev pub Others : Gathered → Gathered → ℕ → Type 0
    Others g h number = (n : ℕ) → n < length g.routines → (n ≡ number → ⊥) → slice_get h.routines n
        ≡ slice_get g.routines n

    -- what a routine with a block gives
    record WithinBlock (b : syntax_block.Block) : Type 0 where
      nested : Nested (length done) x b w
      known_same : w.known ≡ s.known
      changes : w.changes ≡ s.changes ++ outward nested.done.changes
      count : length w.gathered.routines ≡ length s.gathered.routines + headings_within c.text b
      keeps : Keeps s.gathered w.gathered
      others : Others s.gathered w.gathered intro.heading.number
      domains : Longer s.gathered w.gathered
      drawn_more : length w.gathered.domains ≡ length s.gathered.domains + block_domains b
      made : (y : Tree.Routine) × (slice_get w.gathered.routines intro.heading.number ≡ Some (Some y))

    within : (b : syntax_block.Block) → routine_block x ≡ Some b → read_block f chain (routine c x) s (Some (block c b))
        ≡ Yes w → WithinBlock b
    unfolding read_block heading_at finished formal_declarations
    within b is e =
        let place_of = (routine c x).name.from in
        let known_so : known_as f s.known (spelled c.text (routine c x).name) ≡ Some (RoutineMeaning intro.heading) =
        ap (λ n. option_and_then (slice_get s.known) (place names (spelled c.text n))) (read c x).name
        ∙ ap (option_and_then (slice_get s.known)) found ∙ intro.known_there in
        let h = then_yes (heading_at place_of (known_as f s.known (spelled c.text (routine c x).name))) _ w e in
        let same_heading : intro.heading ≡ h.0 = inside_yes intro.heading h.0
        (ap (heading_at place_of) (sym known_so) ∙ h.1) in
        let st = then_yes (start place_of chain h.0) _ w h.2 in
        let begins = begun f intro.known intro.said intro.heading place_of chain st.0 intro.is
        (ap (start place_of chain) same_heading ∙ st.1) in
        let Γ = BlockRegion number names s.known ∷ outer in
        let d = then_yes (block c b Γ st.0 s.gathered) _ w st.2 in
        let g = then_yes (finished place_of h.0 st.0.chain d.0) _ w d.2 in
        let w_is : record {
          known = s.known;
          changes = s.changes ++ outward d.0.changes;
          gathered = g.0;
        } ≡ w = inside_yes (record {
          known = s.known;
          changes = s.changes ++ outward d.0.changes;
          gathered = g.0;
        }) w g.2 in
        let t = then_yes (provided (assigns h.0.result d.0.changes) NoResultAssigned place_of
        (routine_tree st.0.chain h.0 d.0)) _ g.0 g.1 in
        let t_is = provided_yes (assigns h.0.result d.0.changes) NoResultAssigned place_of
        (routine_tree st.0.chain h.0 d.0) t.0 t.1 in
        let small = then_yes (provided (is_small_routine t.0) Limit place_of t.0) _ g.0 t.2 in
        let small_is = provided_yes (is_small_routine t.0) Limit place_of t.0 small.0 small.1 in
        let set : List (Option Tree.Routine) = slice_set d.0.gathered.routines h.0.number (Some small.0) in
        let g_is : record {
          domains = d.0.gathered.domains;
          routines = set;
        } ≡ g.0 = inside_yes (record {
          domains = d.0.gathered.domains;
          routines = set;
        }) g.0 small.2 in
        let ready : Ready c.text Γ st.0 (formal_declarations intro.said) = record {
          apart = start_apart place_of chain h.0 st.0 st.1;
          names = begins.names ∙ intro.is.names ∙ sym (formals_names c.text intro.said 0 (formal_points intro.said));
          stands = λ number' names' first' numbers'. formals_stand (record {
            text = c.text;
            routine = number';
            names = names';
            begun = [];
            outer = Γ;
          }) first' numbers' intro.said intro.heading st.0.known denoted begins.known begins.many;
        } in
        let inner = grows b is Γ st.0 s.gathered d.0 (formal_declarations intro.said) ready d.1 in
        let vacant : slice_get s.gathered.routines h.0.number
        ≡ Some None = ap (λ (z : Heading). slice_get s.gathered.routines z.number) (sym same_heading) ∙ intro.vacant
        in
        let count = inner.count in
        let below = slice_get_within s.gathered.routines h.0.number None vacant in
        let there = there_is d.0.gathered.routines h.0.number (omega (arith, count, below)) in
        let routines_are : w.gathered.routines ≡ set = ap (λ (z : Routines). z.gathered.routines) (sym w_is)
        ∙ ap (λ (z : Gathered). z.routines) (sym g_is) in
        let domains_are : w.gathered.domains ≡ d.0.gathered.domains = ap (λ (z : Routines). z.gathered.domains)
        (sym w_is) ∙ ap (λ (z : Gathered). z.domains) (sym g_is) in
        let tree_is : small.0 ≡ routine_tree st.0.chain intro.heading d.0 = sym small_is.1 ∙ sym t_is.1
        ∙ ap (λ z. routine_tree st.0.chain z d.0) (sym same_heading) in
        let made : slice_get w.gathered.routines intro.heading.number ≡ Some
        (Some (routine_tree st.0.chain intro.heading d.0)) =
        ap (λ l. slice_get l intro.heading.number) routines_are
        ∙ ap (λ (z : Heading). slice_get set z.number) same_heading
        ∙ set_same d.0.gathered.routines h.0.number there.0 (Some small.0) there.1 ∙ ap (λ z. Some (Some z)) tree_is
        in
        record {
          nested = record {
            known = s.known;
            inner = st.0;
            gathered = s.gathered;
            done = d.0;
            reading = d.1;
            stands = subst (λ l. Standing f first numbers (before l) s.known) (sym taken_too) intro.stands;
            index = index;
            found = found;
            number_in_part = intro.number_in_part;
            by = intro.by;
            at = ap (λ l. slice_get (before l) index) taken_too ∙ intro.at;
            heading = intro.heading;
            said = intro.said;
            is_said = intro.is_said;
            named = intro.named;
            is_denoted = denoted;
            numbered_so = intro.numbered_so;
            begins = begins;
            ready = ready;
            count = intro.count ∙ ap (λ n. n + own c.text (introduced c.text done) x) at.count
                ∙ ap (λ l. (base + counted c.text [] (counts c.text l)) + own c.text (introduced c.text l) x)
                (sym taken);
            made = made;
            assigned = ap (λ (z : Heading). assigns z.result d.0.changes) same_heading ∙ t_is.0;
            inner_domains = ([], domains_are ∙ sym (append-nil d.0.gathered.domains));
            drawn_so = ap length intro.domains ∙ at.drawn_so ∙ ap (λ l. drawn + sum (map routine_domains l))
                (sym taken);
            known_more = ([], ap (λ (z : Routines). z.known) (sym w_is) ∙ sym (append-nil s.known));
            inner_keeps = λ m y le k. ap (λ l. slice_get l m) routines_are
                ∙ set_other d.0.gathered.routines m h.0.number (Some small.0) (λ q. omega (arith, q, below, le)) ∙ k;
          };
          known_same = ap (λ (z : Routines). z.known) (sym w_is);
          changes = ap (λ (z : Routines). z.changes) (sym w_is);
          count = ap length routines_are ∙ set_length d.0.gathered.routines h.0.number (Some small.0) ∙ count;
          keeps = λ n y k. ap (λ l. slice_get l n) routines_are ∙ set_other d.0.gathered.routines n h.0.number
              (Some small.0) (λ q. not_both (slice_get s.gathered.routines n) y
              (ap (slice_get s.gathered.routines) q ∙ vacant) k) ∙ inner.keeps n y k;
          others = λ n l differs. ap (λ l. slice_get l n) routines_are ∙ set_other d.0.gathered.routines n h.0.number
              (Some small.0) (λ q. differs (q ∙ ap (λ (z : Heading). z.number) (sym same_heading))) ∙ inner.lower n l;
          domains = (inner.domains.0, domains_are ∙ inner.domains.1);
          drawn_more = ap length domains_are ∙ inner.drawn;
          made = (routine_tree st.0.chain intro.heading d.0, made);
        }

    -- what the routine gives, with or without a block
    pub record Step : Type 0 where
      pub behind : At (done ++ x ∷ []) w
      pub keeps : Keeps r.gathered w.gathered
      pub known_same : w.known ≡ s.known
      pub domains : Longer r.gathered w.gathered
      pub known_more : (more : List Meaning) × (w.known ≡ r.known ++ more)
      pub longer : length s.gathered.routines ≤ length w.gathered.routines
      pub others : Others s.gathered w.gathered intro.heading.number
      pub without : routine_block x ≡ None → s ≡ w
      pub made : (b : syntax_block.Block) → routine_block x ≡ Some b → (y : Tree.Routine)
          × (slice_get w.gathered.routines intro.heading.number ≡ Some (Some y))
      pub part : List Change
      pub changes : w.changes ≡ r.changes ++ changes_by part (routine_block x)
      pub nested : (b : syntax_block.Block) → routine_block x ≡ Some b → NestedPart (length done) x b w part

    counted_step : (n : ℕ) → inner_count c.text (routine_block x) ≡ n → length w.gathered.routines
        ≡ length s.gathered.routines + n → length w.gathered.routines ≡ base + counted c.text []
        (counts c.text (done ++ x ∷ []))
    unfolding routine_names
    counted_step n is e =
        let last = counted_last c.text [] 0 done x in
        let inner = (count_is c.text x).inner in
        let a = at.count in
        let b = intro.count in
        omega (arith, e, is, last, inner, a, b)

    drawn_step : (n : ℕ) → inner_drawn (routine_block x) ≡ n → length w.gathered.domains ≡ length s.gathered.domains + n
        → length w.gathered.domains ≡ drawn + sum (map routine_domains (done ++ x ∷ []))
    drawn_step n is e =
        let last = sum_last done x in
        let inner = drawn_are x in
        let a = at.drawn_so in
        let b = ap length intro.domains in
        omega (arith, e, is, last, inner, a, b)

    known_by : How done x r s index intro.by intro.heading → (more : List Meaning) × (s.known ≡ r.known ++ more)
    known_by (completing here same_routines alike may) =
        ([], ap (λ (z : Routines). z.known) (sym same_routines) ∙ sym (append-nil r.known))
    known_by (introducing is last known numbered) = (RoutineMeaning intro.heading ∷ [], known)

    pub step_at : (o : Option syntax_block.Block) → routine_block x ≡ o → read_block f chain (routine c x) s
        (option_map (block c) o) ≡ Yes w → Step
    unfolding read_block
    step_at None is e =
        let same_routines : s ≡ w = inside_yes s w e in
        record {
          behind = record {
            stands = subst (λ (z : Routines). Standing f first numbers (before (done ++ x ∷ [])) z.known) same_routines
                intro.stands;
            count = counted_step 0 (ap (inner_count c.text) is)
                (ap (λ (z : Routines). length z.gathered.routines) (sym same_routines)
                ∙ (let n = length s.gathered.routines in let z : n ≡ n + 0 = omega arith in z));
            drawn_so = drawn_step 0 (ap inner_drawn is)
                (ap (λ (z : Routines). length z.gathered.domains) (sym same_routines)
                ∙ (let n = length s.gathered.domains in let z : n ≡ n + 0 = omega arith in z));
          };
          keeps = subst (λ (z : Routines). Keeps r.gathered z.gathered) same_routines intro.keeps;
          known_same = ap (λ (z : Routines). z.known) (sym same_routines);
          domains = (
            [],
            ap (λ (z : Routines). z.gathered.domains) (sym same_routines) ∙ intro.domains ∙ sym
                (append-nil r.gathered.domains),
          );
          known_more = (let k = known_by intro.how in (k.0, ap (λ (z : Routines). z.known) (sym same_routines) ∙ k.1));
          longer = (let z = ap (λ (z : Routines). length z.gathered.routines) same_routines in omega (arith, z));
          others = λ n l differs. ap (λ (z : Routines). slice_get z.gathered.routines n) (sym same_routines);
          without = λ none. same_routines;
          made = λ b has_block. absurd (none_some (sym is ∙ has_block));
          part = [];
          changes = ap (λ (z : Routines). z.changes) (sym same_routines) ∙ intro.changes ∙ sym (append-nil r.changes)
              ∙ ap (λ o. r.changes ++ changes_by [] o) (sym is);
          nested = λ b has_block. absurd (none_some (sym is ∙ has_block));
        }
    step_at (Some b) is e =
        let in_block = within b is e in
        record {
          behind = record {
            stands = subst (Standing f first numbers (before (done ++ x ∷ []))) (sym in_block.known_same) intro.stands;
            count = counted_step (headings_within c.text b) (ap (inner_count c.text) is) in_block.count;
            drawn_so = drawn_step (block_domains b) (ap inner_drawn is) in_block.drawn_more;
          };
          keeps = λ n y k. in_block.keeps n y (intro.keeps n y k);
          known_same = in_block.known_same;
          domains = (in_block.domains.0, in_block.domains.1 ∙ ap (λ l. l ++ in_block.domains.0) intro.domains);
          known_more = (let k = known_by intro.how in (k.0, in_block.known_same ∙ k.1));
          longer = (let z = in_block.count in omega (arith, z));
          others = in_block.others;
          without = λ none. absurd (none_some (sym none ∙ is));
          made = λ a has_block. in_block.made;
          part = in_block.nested.done.changes;
          changes = in_block.changes ∙ ap (λ l. l ++ outward in_block.nested.done.changes) intro.changes
              ∙ ap (λ o. r.changes ++ changes_by in_block.nested.done.changes o) (sym is);
          nested = λ a has_block. subst (λ z. NestedPart (length done) x z w in_block.nested.done.changes)
              (same_Some b a (sym is ∙ has_block)) (in_block.nested, refl);
        }
