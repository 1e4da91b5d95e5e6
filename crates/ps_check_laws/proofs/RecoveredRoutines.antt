-- The routines of a block that keeps the rules are what the checker reads, one after the other.
use Rattle.std.proofs.Common.{◌≡◌, ℕ, ◌+◌, ◌<◌, ◌≤◌, Bool, true, false, List, [], ◌∷◌, ◌++◌, length, map, take, Option}
use Rattle.std.proofs.Common.{Some, None, option_map, option_and_then, slice_get, slice_set, refl, sym, ap, ◌∙◌, subst}
use Rattle.std.proofs.Common.{append_assoc, append-nil, length-append, arith}
use Rattle.std.proofs.lemmas.Option.{same_Some}
use Rattle.std.proofs.Math.Seq.{take-append_seam}
use Rattle.std.proofs.lemmas.List.{length-map}
use Rattle.ps_syntax.specs.declared.program.Block as syntax_block
use Rattle.ps_syntax.specs.declared.program.Block.{out-Block}
use Rattle.ps_syntax.specs.declared.program.Routine.{Routine, out-Routine}
use Rattle.ps_syntax.specs.declared.program.Program as syntax_program
use Rattle.ps_tree.specs.Tree as Tree
use Rattle.ps_tree.specs.Counts.{are_routines_within_limits}
use Rattle.ps_tree.specs.declared.limits.TheConstants.{MAX_ROUTINES}
use Rattle.ps_check_judgement.specs.declared.change.Change.{Change}
use Rattle.ps_check_judgement.specs.declared.refusal.Rule.TheVariants.{NoResultAssigned, Limit}
use Rattle.ps_check_judgement.specs.Judged as j
use Rattle.ps_check_judgement.specs.Judged.{Judged, Yes, provided, steps}
use Rattle.ps_check_names.specs.Spelling.{spelled, place}
use Rattle.ps_check_names.specs.Regions.{Region, BlockRegion, Point, BlockPoint, RoutineMeaning, Heading, Context}
use Rattle.ps_check_names.specs.Regions.{formals_of, find, find_past}
use Rattle.ps_check_declarations.specs.Denoters.{Frame}
use Rattle.ps_check_declarations.specs.Headings.{formal_meanings}
use Rattle.ps_check.specs.Readings.{Gathered, Start, Done, Routines, heading_name}
use Rattle.ps_check.specs.Entries.{first_entry, start}
use Rattle.ps_check.specs.Blocks.{routine_tree, is_small_routine, finished, heading_at, known_as, introduce, read_block}
use Rattle.ps_check.specs.Blocks.{one_routine, own_number, block, routine}
use Rattle.ps_check.specs.Programs.{Files, program_context}
use Rattle.ps_check.specs.Changes.{assigns, outward}
use Rattle.ps_check.specs.Paths.{routine_block, block_at}
use Rattle.ps_check_laws.specs.Option.{◌>>=◌}
use Rattle.ps_check_laws.specs.Definitions.{Declarations, OfDeclaration, Definition, InPart, own_declarations}
use Rattle.ps_check_laws.specs.Definitions.{routine_heading, introduced, of_routine, definitions_of, names_of}
use Rattle.ps_check_laws.specs.Definitions.{introducer, heading_of, points_before, as_routine, formal_declarations}
use Rattle.ps_check_laws.specs.Definitions.{entries_before}
use Rattle.ps_check_laws.specs.Denoting as denoting
use Rattle.ps_check_laws.specs.Denoting.{counted, routine_count, headings_within, headings_before, own_heading}
use Rattle.ps_check_laws.specs.Denoting.{first_declarations, first_number}
use Rattle.ps_check_laws.specs.Counts.{sum, routine_domains, block_domains, own_domains, domains_before}
use Rattle.ps_check_laws.specs.Counts.{first_domain_at}
use Rattle.ps_check_laws.specs.Controls.{changes_by, changes_from}
use Rattle.ps_check_laws.specs.Rule.{KeepsRules, BlockIsRead, is_read, IsBegun, of_heading}
use Rattle.ps_check_laws.proofs.Lists.{Each}
use Rattle.ps_check_laws.proofs.Shown.{get_take, closed, shown, shown_closed}
use Rattle.ps_check_laws.proofs.Formals.{begins_so}
use Rattle.ps_check_laws.proofs.Routines.{read, heading_named, count_is, inner_count, sp, own, counts}
use Rattle.ps_check_laws.proofs.BlockPoints.{points}
use Rattle.ps_check_laws.proofs.Found.{found_at}
use Rattle.ps_check_laws.proofs.Controls.{changes_next}
use Rattle.ps_check_laws.proofs.Ordered.{place_is}
use Rattle.ps_check_laws.proofs.Drawn.{inner_domains, domains_are, sum_last}
use Rattle.ps_check_laws.proofs.Rebuilt.{routine_small, Are}
use Rattle.ps_check_laws.proofs.ByParts.{tree_parts, small_routine, short_chain, formals_are, all_are}
use Rattle.ps_check_laws.proofs.ByParts.{gathered_parts, forward_of, no_block_forward}
use Rattle.ps_check_laws.proofs.RecoveredNames.{BlockRecovers, Meant, Nested, RoutineRecovers, State, apart, meant}
use Rattle.ps_check_laws.proofs.RecoveredHeadings.{Intro, at_x, inside_block, intro, one_more, taken}

module _ (text : List ℕ) (p : syntax_program.Program) (files : Files) (made : Tree.Program)
    (limits : are_routines_within_limits made.routines ≡ true) (few : length made.routines ≤ MAX_ROUTINES) where
  abbrev c : Context
  c = program_context text files

  module _ (v : List ℕ) (b : syntax_block.Block) (Γ : List Region) (mine : KeepsRules text p files made v b Γ)
      (changes : ℕ → List Change) (inner_is : mine.inner ≡ changes_from changes 0 (out-Block b).routines)
      (nested : Nested text p files made limits few v b Γ mine changes) (there : block_at p.block v ≡ Some b)
      (room : mine.next + headings_within text b ≤ length made.routines) (vacant : ℕ → Bool)
      (low : (m : ℕ) → mine.next ≤ m → vacant m ≡ false) where
    abbrev rs : List Routine
    rs = (out-Block b).routines

    abbrev D : Declarations
    D = mine.first ++ own_declarations b

    abbrev all : List Definition
    all = points text D (introduced text rs)

    abbrev N : List (List ℕ)
    N = names_of text all

    abbrev f : Frame
    f = record { text = text; routine = own_number mine.start.chain; names = N; begun = []; outer = Γ }

    abbrev chain : List ℕ
    chain = mine.start.chain

    module _ (done rest : List Routine) (x : Routine) (split : rs ≡ done ++ x ∷ rest) (r : Routines) (q : ℕ → Bool)
        (s : State text p files made limits few v b Γ mine changes inner_is nested there room vacant low done r q) where
      abbrev I : List InPart
      I = introduced text done

      abbrev J : List InPart
      J = introduced text (done ++ x ∷ [])

      abbrev n : ℕ
      n = mine.next + counted text [] (counts text done)

      -- the heading that the checker finds for the routine is the one that its block begins with
      module _
          (i : Intro text p files made limits few v b Γ mine changes inner_is nested there room vacant low done rest
          x split r q s) where
        abbrev meaning : Meant text p files made limits few v b Γ mine changes inner_is nested there room vacant low
            i.index i.j i.y
        meaning = meant text p files made limits few v b Γ mine changes inner_is nested there room vacant low i.index
            i.j i.y i.at

        known_there : slice_get i.after.known i.index ≡ Some (RoutineMeaning meaning.heading)
        known_there = ap (λ l. slice_get l i.index) i.known ∙ get_take mine.known
            (length (points text D J)) i.index i.below ∙ meaning.known

        found : place N (sp text x) ≡ Some i.index
        found = place_is c D rs
            (apart text p files made limits few v b Γ mine changes inner_is nested there room vacant low)
            mine.completed i.index i.j i.y (sp text x) i.at i.named

        introduced_by : introducer text (definitions_of text mine.first b) (sp text x) ≡ Some (i.j, i.y)
        unfolding introducer definitions_of
        introduced_by = ap (λ o. o >>= (λ k. slice_get all k) >>= as_routine) found ∙ ap (λ o. o >>= as_routine) i.at

        heading_is : heading_of text (definitions_of text mine.first b) x ≡ Some meaning.said
        unfolding heading_of
        heading_is = ap (λ o. o >>= (λ (q : InPart). routine_heading q.1)) introduced_by ∙ meaning.is_said

        heading_there : denoting.heading_at text p (length done) v ≡ Some meaning.said
        unfolding denoting.heading_at
        heading_there =
            ap (λ o. o >>= (λ y. first_declarations text p v
            >>= (λ first. slice_get (out-Block y).routines (length done)
            >>= (λ x. heading_of text (definitions_of text first y) x)))) there
            ∙ ap (λ o. o >>= (λ first. slice_get (out-Block b).routines (length done)
            >>= (λ x. heading_of text (definitions_of text first b) x))) mine.firsts
            ∙ ap (λ o. o >>= (λ x. heading_of text (definitions_of text mine.first b) x))
            (at_x text p files made limits few v b Γ mine changes inner_is nested there room vacant low done rest x
            split r q s) ∙ heading_is

        first_there : first_declarations text p (length done ∷ v) ≡ Some (formal_declarations meaning.said)
        unfolding first_declarations
        first_there =
            ap (λ o. o >>= (λ y. first_declarations text p v
            >>= (λ first. slice_get (out-Block y).routines (length done)
            >>= (λ x. heading_of text (definitions_of text first y) x >>= (λ h. Some (formal_declarations h))))))
            there
            ∙ ap (λ o. o >>= (λ first. slice_get (out-Block b).routines (length done)
            >>= (λ x. heading_of text (definitions_of text first b) x >>= (λ h. Some (formal_declarations h)))))
            mine.firsts
            ∙ ap (λ o. o >>= (λ x. heading_of text (definitions_of text mine.first b) x
            >>= (λ h. Some (formal_declarations h))))
            (at_x text p files made limits few v b Γ mine changes inner_is nested there room vacant low done rest x
            split r q s)
            ∙ ap (λ o. o >>= (λ h. Some (formal_declarations h))) heading_is

        next_there : first_number text p (length done ∷ v) ≡ Some (n + own text I x)
        unfolding first_number headings_before own_heading
        next_there =
            ap (λ o. o >>= (λ y. first_number text p v
            >>= (λ n. slice_get (out-Block y).routines (length done)
            >>= (λ x. Some ((n + headings_before text y (length done)) + own_heading text y (length done) x)))))
            there
            ∙ ap (λ o. o >>= (λ n. slice_get (out-Block b).routines (length done)
            >>= (λ x. Some ((n + headings_before text b (length done)) + own_heading text b (length done) x))))
            mine.numbers
            ∙ ap (λ o. o >>= (λ x. Some ((mine.next + headings_before text b (length done)) + own_heading text b
            (length done) x))) (at_x text p files made limits few v b Γ mine changes inner_is nested there room vacant
            low done rest x split r q s)
            ∙ ap (λ l. Some ((mine.next + counted text [] (counts text l)) + own text (introduced text l) x))
            (taken text p files made limits few v b Γ mine changes inner_is nested there room vacant low done rest x
            split r q s)

        pointers_there : first_domain_at p (length done ∷ v) ≡ Some
            ((mine.pointers + own_domains b) + sum (map routine_domains done))
        unfolding first_domain_at domains_before
        pointers_there =
            ap (λ o. o >>= (λ y. first_domain_at p v >>= (λ n. Some (n + domains_before y (length done))))) there
            ∙ ap (λ o. o >>= (λ n. Some (n + domains_before b (length done)))) mine.domains
            ∙ ap (λ l. Some (mine.pointers + (own_domains b + sum (map routine_domains l))))
            (taken text p files made limits few v b Γ mine changes inner_is nested there room vacant low done rest x
            split r q s)
            ∙ (let m = sum (map routine_domains done) in let z : mine.pointers + (own_domains b + m)
            ≡ (mine.pointers + own_domains b) + m = omega arith in ap (λ k. Some k) z)

        block_there : (inner : syntax_block.Block) → routine_block x ≡ Some inner → block_at p.block (length done ∷ v)
            ≡ Some inner
        unfolding block_at
        block_there inner is = ap (λ o. o >>= (λ a. slice_get (out-Block a).routines (length done) >>= routine_block))
            there ∙ ap (λ o. o >>= routine_block)
            (at_x text p files made limits few v b Γ mine changes inner_is nested there room vacant low done rest x
            split r q s) ∙ is

        abbrev region : Region
        region = BlockRegion (own_number mine.start.chain) N i.after.known

        region_is : BlockRegion (own_number mine.start.chain) (names_of text (definitions_of text mine.first b))
            (take (points_before text mine.first b (length done)) mine.known) ≡ region
        unfolding definitions_of points_before
        region_is =
            let l : length done + 1 ≡ length (done ++ x ∷ []) = sym (length-append done (x ∷ [])) in
            let taken_too : take (length done + 1) rs ≡ done ++ x ∷ [] = ap (λ k. take k rs) l
            ∙ ap (take (length (done ++ x ∷ []))) (split ∙ sym (append_assoc done (x ∷ []) rest)) ∙ take-append_seam
            (done ++ x ∷ []) rest in
            let a = length-append (map OfDeclaration D) (map of_routine J) in
            let d = length-map D OfDeclaration in
            let e = length-map J of_routine in
            let count : length D + length J ≡ length (points text D J) = omega (arith, a, d, e) in
            ap (λ l. BlockRegion (own_number mine.start.chain) N
            (take (length D + length (introduced text l)) mine.known)) taken_too
            ∙ ap (λ k. BlockRegion (own_number mine.start.chain) N (take k mine.known)) count
            ∙ ap (BlockRegion (own_number mine.start.chain) N) (sym i.known)

        -- the name of the heading denotes it there
        denoted : find (region ∷ Γ) (spelled text (heading_name meaning.said)) (heading_name meaning.said).from ≡ Yes
            (BlockPoint 0 (RoutineMeaning meaning.heading))
        unfolding find_past
        denoted = found_at 0 i.after.known i.index (RoutineMeaning meaning.heading)
            (place N (spelled text (heading_name meaning.said))) (heading_name meaning.said).from _
            (ap (λ n. place N (spelled text n)) (sym
            (heading_named i.y (out-Routine i.y) meaning.said refl meaning.is_said)) ∙ ap (place N) i.named ∙ found)
            known_there

        record Begun (st : Start) (t : Tree.Routine) : Type 0 where
          chained : st.chain ≡ meaning.heading.number ∷ chain
          known_first : st.known ≡ formal_meanings (first_entry meaning.heading.result) meaning.heading.sections
          first_is : st.first ≡ entries_before meaning.said
          formals : t.formals ≡ formals_of meaning.heading.sections
          result : t.result ≡ meaning.heading.result

        begun : (Γ' : List Region) (st : Start) (t : Tree.Routine) → Γ' ≡ region ∷ Γ → IsBegun text p files made
            (length done ∷ v) Γ' st t → Begun st t
        begun Γ' st t e (of_heading k w G y u said h outer at is outers chained known first formals result) =
            let same_said : said ≡ meaning.said = same_Some said meaning.said (sym at ∙ heading_there) in
            let same_heading : h ≡ meaning.heading = heading_inside h meaning.heading
            (sym is ∙ ap (λ g. find g (spelled text (heading_name said)) (heading_name said).from) e
            ∙ ap (λ z. find (region ∷ Γ) (spelled text (heading_name z)) (heading_name z).from) same_said ∙ denoted)
            in
            let same_chain : outer ≡ chain = same_Some outer chain (sym outers ∙ mine.chain) in
            record {
              chained = chained ∙ ap (λ (z : Heading). z.number ∷ outer) same_heading
                  ∙ ap (λ l. meaning.heading.number ∷ l) same_chain;
              known_first = known ∙ ap (λ (z : Heading). formal_meanings (first_entry z.result) z.sections)
                  same_heading;
              first_is = first ∙ ap entries_before same_said;
              formals = formals ∙ ap (λ (z : Heading). formals_of z.sections) same_heading;
              result = result ∙ ap (λ (z : Heading). z.result) same_heading;
            }
          where
            heading_inside : (h g : Heading) → (let l : Judged Point = Yes (BlockPoint 0 (RoutineMeaning h)) in l) ≡ Yes
                (BlockPoint 0 (RoutineMeaning g)) → h ≡ g
            heading_inside h g e = cc

        -- the block of the routine is read, and its routine closed
        record Behind : Type 0 where
          last : Routines
          open_last : ℕ → Bool
          reading : read_block f chain (routine c x) i.after (option_map (block c) (routine_block x)) ≡ Yes last
          state : State text p files made limits few v b Γ mine changes inner_is nested there room vacant low
              (done ++ x ∷ []) last open_last

        -- the meaning of the routine's name
        named_heading : known_as f i.after.known (spelled text (routine c x).name) ≡ Some
            (RoutineMeaning meaning.heading)
        named_heading = ap (λ m. known_as f i.after.known (spelled text m)) (read c x).name
            ∙ ap (λ o. option_and_then (slice_get i.after.known) o) found ∙ known_there

        by_block : (inner : syntax_block.Block) (G : List Region) (all : List Change) → routine_block x ≡ Some inner
            → BlockRecovers text p files made limits few inner → BlockIsRead text p files made
            (length done ∷ v) inner G all → G ≡ region ∷ Γ → all
            ≡ changes (length done) → Behind
        unfolding read_block heading_at finished routine_tree own_number
        by_block inner G all is claim (is_read u a H some own_rules all_changes within inner_changes further) e all_are
            =
            let h = meaning.heading in
            let from = (routine c x).name.from in
            let b_start = own_rules.start in
            let tree = own_rules.routine in
            let begins = begun H b_start tree e own_rules.begins in
            let first_is : own_rules.first ≡ formal_declarations meaning.said = same_Some own_rules.first
            (formal_declarations meaning.said) (sym own_rules.firsts ∙ first_there) in
            let names_first : b_start.names ≡ h.names = own_rules.names
            ∙ ap (λ l. names_of text (map OfDeclaration l)) first_is ∙ formals_are text meaning.said
            ∙ sym meaning.is.names in
            let deep : length chain < 16 = (let z = short_chain tree
            (routine_small made.routines (own_number b_start.chain) tree limits own_rules.checked)
            in let y = ap length (own_rules.is_chain ∙ begins.chained) in omega (arith, z, y)) in
            let starts : start from chain h ≡ Yes b_start = begins_so f
            (take i.index mine.known) meaning.said h from chain b_start meaning.is deep begins.chained names_first
            begins.known_first begins.first_is in
            let next_is : own_rules.next ≡ n + own text I x = same_Some own_rules.next (n + own text I x)
            (sym own_rules.numbers ∙ next_there) in
            let P = (mine.pointers + own_domains b) + sum (map routine_domains done) in
            let pointers_is : own_rules.pointers ≡ P = same_Some own_rules.pointers P
            (sym own_rules.domains ∙ pointers_there) in
            let own_count : (routine_count text x).1 ≡ headings_within text inner = (count_is text x).inner
            ∙ ap (inner_count text) is in
            let N' = own_rules.next + headings_within text inner in
            let whole_count : N' ≡ mine.next + counted text [] (counts text (done ++ x ∷ [])) =
            (let z = one_more text p files made limits few v b Γ mine changes inner_is nested there room vacant low
            done rest x split r q s in omega (arith, z, next_is, own_count)) in
            let in_made : N' ≤ length made.routines =
            (let z = inside_block text p files made limits few v b Γ mine changes inner_is nested there room vacant
            low done rest x split r q s in omega (arith, z, whole_count)) in
            let g : Gathered = record {
              domains = take own_rules.pointers made.domains;
              routines = shown made.routines i.open_then own_rules.next;
            } in
            let g_is : i.after.gathered ≡ g = gathered_parts i.after.gathered g
            (i.domains ∙ s.domains ∙ ap (λ k. take k made.domains) (sym pointers_is))
            (i.routines ∙ ap (shown made.routines i.open_then) (sym next_is)) in
            let set : List (Option Tree.Routine) = shown made.routines i.open_then N' in
            let d : Done = record {
              variables = tree.variables;
              body = tree.body;
              line = tree.line;
              changes = own_rules.inner ++ own_rules.changes;
              gathered = record {
                domains = take (own_rules.pointers + block_domains inner) made.domains;
                routines = set;
              };
            } in
            let reading : block c inner (region ∷ Γ) b_start i.after.gathered ≡ Yes d =
            ap (λ l. block c inner l b_start i.after.gathered) (sym e) ∙ ap (block c inner H b_start) g_is ∙ claim
            (length done ∷ v) H own_rules within inner_changes further (block_there inner is) in_made i.open_then
            (λ m l. i.low_then m (omega (arith, l, next_is))) in
            let assigned : assigns h.result d.changes ≡ true = ap (λ r. assigns r d.changes) (sym begins.result)
            ∙ own_rules.assigned in
            let tree_is : routine_tree b_start.chain h d ≡ tree = tree_parts (routine_tree b_start.chain h d) tree
            (sym own_rules.is_chain) (sym begins.formals) (sym begins.result) refl refl refl in
            let small : is_small_routine tree ≡ true = small_routine tree
            (routine_small made.routines (own_number b_start.chain) tree limits own_rules.checked) in
            let number_here : own_number b_start.chain ≡ h.number = ap own_number begins.chained in
            let checked : slice_get made.routines h.number ≡ Some tree = ap (slice_get made.routines) (sym number_here)
            ∙ own_rules.checked in
            let less : h.number < N' = (let l = i.less in let q = meaning.numbered in omega (arith, l, q, next_is)) in
            let as_gathered : Tree.Routine → Gathered = λ t. record {
              domains = d.gathered.domains;
              routines = slice_set set h.number (Some t);
            } in
            let last_gathered : Gathered = record {
              domains = take (own_rules.pointers + block_domains inner) made.domains;
              routines = shown made.routines (closed h.number i.open_then) N';
            } in
            let finishes : finished from h b_start.chain d ≡ Yes last_gathered =
            ap (λ z. j.◌>>=◌ (provided z NoResultAssigned from (routine_tree b_start.chain h d))
            (λ t. j.◌>>=◌ (provided (is_small_routine t) Limit from t) (λ t. Yes (as_gathered t)))) assigned
            ∙ ap (λ t. j.◌>>=◌ (provided (is_small_routine t) Limit from t) (λ t. Yes (as_gathered t))) tree_is
            ∙ ap (λ z. j.◌>>=◌ (provided z Limit from tree) (λ t. Yes (as_gathered t))) small
            ∙ ap (λ l. Yes (record {
              domains = d.gathered.domains;
              routines = l;
            })) (shown_closed made.routines i.open_then N' h.number tree less checked) in
            let as_last : Done → Gathered → Routines = λ d g. record {
              known = i.after.known;
              changes = i.after.changes ++ outward d.changes;
              gathered = g;
            } in
            let changed : i.after.changes ++ outward d.changes ≡ changes_from changes 0 (done ++ x ∷ []) =
            ap (λ l. l ++ outward d.changes) (i.changed ∙ s.changed)
            ∙ ap (λ l. changes_from changes 0 done ++ outward l) (sym all_changes ∙ all_are)
            ∙ ap (λ o. changes_from changes 0 done ++ changes_by (changes (length done)) o) (sym is) ∙ sym
            (changes_next changes done x) in
            let known_domains : own_rules.pointers + block_domains inner ≡ (mine.pointers + own_domains b) + sum
            (map routine_domains (done ++ x ∷ [])) =
            (let y = sum_last done x in let z = domains_are x ∙ ap inner_domains is in omega (arith, y, z, pointers_is))
            in
            record {
              last = as_last d last_gathered;
              open_last = closed h.number i.open_then;
              reading = ap (λ o. read_block f chain (routine c x) i.after (option_map (block c) o)) is
                  ∙ ap (λ o. j.◌>>=◌ (heading_at from o)
                  (λ h. j.◌>>=◌ (start from chain h) (λ st. j.◌>>=◌ (block c inner (region ∷ Γ) st i.after.gathered)
                  (λ d. j.◌>>=◌ (finished from h st.chain d) (λ g. Yes (as_last d g)))))) named_heading
                  ∙ ap (λ o. j.◌>>=◌ o (λ st. j.◌>>=◌ (block c inner (region ∷ Γ) st i.after.gathered)
                  (λ d. j.◌>>=◌ (finished from h st.chain d) (λ g. Yes (as_last d g))))) starts
                  ∙ ap (λ o. j.◌>>=◌ o (λ d. j.◌>>=◌ (finished from h b_start.chain d) (λ g. Yes (as_last d g))))
                  reading
                  ∙ ap (λ o. j.◌>>=◌ o (λ g. Yes (as_last d g))) finishes;
              state = record {
                known = i.known;
                changed = changed;
                domains = ap (λ k. take k made.domains) known_domains;
                routines = ap (shown made.routines (closed h.number i.open_then)) whole_count;
                are = subst (λ k. Are c D rs
                    (apart text p files made limits few v b Γ mine changes inner_is nested there room vacant low)
                    mine.completed mine.next (done ++ x ∷ []) vacant
                    (closed k i.open_then)) (sym meaning.numbered) (i.with_block (no_block_forward x inner is));
              };
            }

        without_block : routine_block x ≡ None → Behind
        unfolding read_block
        without_block none =
            let h = forward_of x (out-Routine x) refl none in
            let own_count : (routine_count text x).1 ≡ 0 = (count_is text x).inner ∙ ap (inner_count text) none in
            let z = one_more text p files made limits few v b Γ mine changes inner_is nested there room vacant low
            done rest x split r q s in
            let y = sum_last done x in
            let w = domains_are x ∙ ap inner_domains none in
            let count : n + own text I x ≡ mine.next + counted text [] (counts text (done ++ x ∷ [])) = omega
            (arith, z, own_count) in
            let drawn_count : (mine.pointers + own_domains b) + sum (map routine_domains done)
            ≡ (mine.pointers + own_domains b) + sum (map routine_domains (done ++ x ∷ [])) = omega (arith, y, w) in
            let unchanged : i.after.changes ≡ changes_from changes 0 (done ++ x ∷ []) =
            i.changed ∙ s.changed ∙ sym (append-nil (changes_from changes 0 done))
            ∙ ap (λ o. changes_from changes 0 done ++ changes_by (changes (length done)) o) (sym none) ∙ sym
            (changes_next changes done x) in
            record {
              last = i.after;
              open_last = i.open_then;
              reading = ap (λ o. read_block f chain (routine c x) i.after (option_map (block c) o)) none;
              state = record {
                known = i.known;
                changed = unchanged;
                domains = i.domains ∙ s.domains ∙ ap (λ k. take k made.domains) drawn_count;
                routines = i.routines ∙ ap (shown made.routines i.open_then) count;
                are = i.without h.0 h.1;
              };
            }

        behind_at : (o : Option syntax_block.Block) → routine_block x ≡ o
            → RoutineRecovers text p files made limits few x → Behind
        behind_at None is claim = without_block is
        behind_at (Some inner) is claim = by_block inner _ _ is (claim inner is)
            (nested (length done) x inner
            (at_x text p files made limits few v b Γ mine changes inner_is nested there room vacant low done rest x
            split r q s) is)
            (ap (λ z. z ∷ Γ) region_is) refl

      record Next : Type 0 where
        last : Routines
        open_last : ℕ → Bool
        reading : one_routine f chain r (routine c x) ≡ Yes last
        state : State text p files made limits few v b Γ mine changes inner_is nested there room vacant low
            (done ++ x ∷ []) last open_last

      next : RoutineRecovers text p files made limits few x → Next
      unfolding one_routine
      next claim =
          let i = intro text p files made limits few v b Γ mine changes inner_is nested there room vacant low done
          rest x split r q s in
          let w = behind_at i (routine_block x) refl claim in
          record {
            last = w.last;
            open_last = w.open_last;
            reading = ap (λ m. j.◌>>=◌ (introduce f (routine c x) r (known_as f r.known (spelled text m)))
                (λ t. read_block f chain (routine c x) t (routine c x).block)) (read c x).name
                ∙ ap (λ o. j.◌>>=◌ (introduce f (routine c x) r (option_and_then (slice_get r.known) o))
                (λ t. read_block f chain (routine c x) t (routine c x).block)) (found i)
                ∙ ap (λ o. j.◌>>=◌ o (λ t. read_block f chain (routine c x) t (routine c x).block)) i.introduces
                ∙ ap (read_block f chain (routine c x) i.after) (read c x).block_is ∙ w.reading;
            state = w.state;
          }

    pub record Last (done rest : List Routine) (r : Routines) : Type 0 where
      pub last : Routines
      pub open_last : ℕ → Bool
      pub reading : steps (one_routine f chain) r (map (routine c) rest) ≡ Yes last
      pub state : State text p files made limits few v b Γ mine changes inner_is nested there room vacant low rs last
          open_last

    pub all_steps : (rest done : List Routine) → rs ≡ done ++ rest → Each
        (RoutineRecovers text p files made limits few) rest → (r : Routines)
        (q : ℕ → Bool) → State text p files made limits few v b Γ mine changes inner_is nested there room vacant low
        done r q → Last done rest r
    all_steps [] done split claims r q s = record {
      last = r;
      open_last = q;
      reading = refl;
      state = subst (λ l. State text p files made limits few v b Γ mine changes inner_is nested there room vacant low
          l r q) (sym (append-nil done) ∙ sym split) s;
    }
    all_steps (x ∷ rest) done split claims r q s =
        let one = next done rest x split r q s claims.0 in
        let more = all_steps rest (done ++ x ∷ [])
        (split ∙ sym (append_assoc done (x ∷ []) rest)) claims.1 one.last one.open_last one.state in
        record {
          last = more.last;
          open_last = more.open_last;
          reading = ap (λ o. j.◌>>=◌ o (λ t. steps (one_routine f chain) t (map (routine c) rest))) one.reading
              ∙ more.reading;
          state = more.state;
        }
