-- Each block of an accepted program is read in the regions that enclose it in the tree: what holds at its path, one
-- path further in, and within.
use Rattle.std.proofs.Common.{◌≡◌, ℕ, suc, ◌+◌, ◌<◌, ◌≤◌, true, List, [], ◌∷◌, ◌++◌, length, map, take, drop, Some}
use Rattle.std.proofs.Common.{get_or, slice_get, refl, sym, ap, ◌∙◌, subst, append_assoc, length-append, arith}
use Rattle.std.proofs.lemmas.List.{map-append, length-map}
use Rattle.std.proofs.lemmas.Option.{same_Some}
use Rattle.ps_syntax.specs.declared.program.Block as syntax_block
use Rattle.ps_syntax.specs.declared.program.Block.{out-Block}
use Rattle.ps_syntax.specs.declared.program.Routine.{Routine}
use Rattle.ps_syntax.specs.declared.program.Program as syntax
use Rattle.ps_tree.specs.Tree as Tree
use Rattle.ps_check_judgement.specs.Judged.{Yes}
use Rattle.ps_check_judgement.proofs.Items.{get_stays}
use Rattle.ps_check_names.specs.Spelling.{spelled, place}
use Rattle.ps_check_names.specs.Regions.{Region, BlockRegion, Meaning, Context}
use Rattle.ps_check_declarations.specs.Denoters.{Frame}
use Rattle.ps_check.specs.Readings.{Gathered, Start, Done}
use Rattle.ps_check.specs.Blocks.{routine_tree, own_number, block}
use Rattle.ps_check.specs.Programs.{Files, program_context}
use Rattle.ps_check.specs.Changes.{assigns}
use Rattle.ps_check.specs.Paths.{routine_block, block_at}
use Rattle.ps_check_laws.specs.Option.{◌>>=◌}
use Rattle.ps_check_laws.specs.Definitions.{Declarations, Definition, OfDeclaration, OfRoutine, InPart}
use Rattle.ps_check_laws.specs.Definitions.{formal_declarations, entries_before, routine_heading, routine_name}
use Rattle.ps_check_laws.specs.Definitions.{own_declarations, introduced, of_routine, definitions_of, names_of}
use Rattle.ps_check_laws.specs.Definitions.{introducer, heading_of, points_before, as_routine}
use Rattle.ps_check_laws.specs.Denoting.{heading_at, counted, routine_count, first_declarations, first_entry_at}
use Rattle.ps_check_laws.specs.Denoting.{definitions_at, points_before_at, headings_before, own_heading, first_number}
use Rattle.ps_check_laws.specs.Denoting.{number_at, chain_at}
use Rattle.ps_check_laws.specs.Meanings.{AreMeanings, IsRegion, AreAround, routine_block as further_in}
use Rattle.ps_check_laws.specs.Read.{IsOfHeading, of_heading}
use Rattle.ps_check_laws.proofs.Lists.{take_drop, then_some}
use Rattle.ps_check_laws.proofs.Declared.{Standing}
use Rattle.ps_check_laws.proofs.Routines.{introduced_append, introduced_more}
use Rattle.ps_check_laws.proofs.NestedSteps.{Nested, NestedPart}
use Rattle.ps_check_laws.proofs.BlockPoints.{points}
use Rattle.ps_check_laws.proofs.GatheredSoFar.{Longer, longer_both, Ready}
use Rattle.ps_check_laws.specs.Counts.{sum, routine_domains, own_domains, domains_before, first_domain_at}
use Rattle.ps_check_laws.specs.Rule.{IsBegun, of_heading as begins_heading}
use Rattle.ps_check_laws.proofs.Blocks.{BlockHas, block_told}
use Rattle.ps_check_laws.proofs.RoutineTrees.{prefix_meanings, tree_body, tree_variables, tree_formals}
use Rattle.ps_check_laws.proofs.RoutineTrees.{tree_result, tree_line, tree_chain}

module _ (text : List ℕ) (p : syntax.Program) (files : Files) (made : Tree.Program) (final : Gathered)
    (whole : (n : ℕ) (x : Tree.Routine) → 1 ≤ n → slice_get final.routines n ≡ Some (Some x)
    → slice_get made.routines n ≡ Some x)
    (all_domains : made.domains ≡ final.domains) where
  abbrev c : Context
  c = program_context text files

  -- what holds of a block at a path
  pub record There (v : List ℕ) (b : syntax_block.Block) : Type 0 where
    pub regions : List Region
    pub start : Start
    pub gathered : Gathered
    pub done : Done
    pub first : Declarations
    pub base : ℕ
    pub reading : block c b regions start gathered ≡ Yes done
    pub there : block_at p.block v ≡ Some b
    pub firsts : first_declarations text p v ≡ Some first
    pub entries : first_entry_at text p v ≡ Some start.first
    pub numbers : first_number text p v ≡ Some base
    pub own : number_at text p v ≡ Some (own_number start.chain)
    pub chain : chain_at text p v ≡ Some start.chain
    pub ready : Ready text regions start first
    pub count : length gathered.routines ≡ base
    pub positive : 1 ≤ base
    pub around : AreAround text p v regions
    pub keeps : (n : ℕ) (x : Tree.Routine) → base ≤ n → slice_get done.gathered.routines n ≡ Some (Some x)
        → slice_get final.routines n ≡ Some (Some x)
    pub routine : Tree.Routine
    pub checked : slice_get made.routines (own_number start.chain) ≡ Some routine
    pub is_body : routine.body ≡ done.body
    pub is_variables : routine.variables ≡ done.variables
    pub is_chain : routine.chain ≡ start.chain
    pub is_of_heading : IsOfHeading text p v regions routine
    pub is_line : routine.line ≡ done.line
    pub begins : IsBegun text p files made v regions start routine
    pub drawn : first_domain_at p v ≡ Some (length gathered.domains)
    pub domains : Longer done.gathered final
    pub levels : length start.chain ≡ suc (length v)
    pub deep : length v < 16
    pub assigned : assigns routine.result done.changes ≡ true

  module _ (v : List ℕ) (b : syntax_block.Block) (t : There v b) where
    abbrev ds : List Definition
    ds = definitions_of text t.first b

    pub points_are : definitions_at text p v ≡ Some ds
    unfolding definitions_at
    points_are = ap (λ o. o >>= (λ y. first_declarations text p v >>= (λ first. Some (definitions_of text first y))))
        t.there ∙ ap (λ o. o >>= (λ first. Some (definitions_of text first b))) t.firsts

    pub in_block : BlockHas c b t.regions t.start t.gathered t.done t.first
    in_block = block_told c b t.regions t.start t.gathered t.done t.first t.ready t.reading

    -- the region, where the first points are known
    unfoldable pub region_at : (n : ℕ) (known : List Meaning) (prefix more : List Definition) → length known ≡ n → ds
        ≡ prefix ++ more
        → Standing (record {
          text = text;
          routine = own_number t.start.chain;
          names = in_block.names;
          begun = [];
          outer = t.regions;
        }) t.start.first (λ k. length t.gathered.routines + counted text []
        (map (routine_count text) (take k (out-Block b).routines))) prefix known
        → IsRegion text p v n t.regions (BlockRegion (own_number t.start.chain) in_block.names known)
    unfolding headings_before
    region_at n known prefix more many split s =
        let number = own_number t.start.chain in
        let as_frame : List (List ℕ) → Frame = λ names. record {
          text = text;
          routine = number;
          names = names;
          begun = [];
          outer = t.regions;
        } in
        let as_numbers : ℕ → ℕ → ℕ = λ m k. m + counted text []
        (map (routine_count text) (take k (out-Block b).routines)) in
        let one : AreMeanings (as_frame in_block.names) t.start.first
        (as_numbers (length t.gathered.routines)) ds known = prefix_meanings (as_frame in_block.names) t.start.first
        (as_numbers (length t.gathered.routines)) prefix more ds known split s in
        let two : AreMeanings (as_frame (names_of text ds)) t.start.first
        (as_numbers (length t.gathered.routines)) ds known = subst
        (λ names. AreMeanings (as_frame names) t.start.first (as_numbers (length t.gathered.routines)) ds known)
        in_block.names_are one in
        record {
          block = b;
          definitions = ds;
          known = known;
          number = number;
          first = t.start.first;
          next = t.base;
          there = t.there;
          points = points_are;
          own = t.own;
          entries = t.entries;
          numbers = t.numbers;
          is = ap (λ names. BlockRegion number names known) in_block.names_are;
          before = many;
          meanings = subst (λ m. AreMeanings (as_frame (names_of text ds)) t.start.first (as_numbers m) ds known)
              t.count two;
        }

    -- ---- one path further in

    module _ (k : ℕ) (r : Routine) (inner : syntax_block.Block) (at : slice_get (out-Block b).routines k ≡ Some r)
        (is : routine_block r ≡ Some inner) where
      part : NestedPart c (own_number t.start.chain) in_block.names t.regions t.start.first t.start.chain
          (t.first ++ own_declarations b) (length t.gathered.routines) (length in_block.before.gathered.domains)
          (out-Block b).routines k r inner in_block.behind (get_or in_block.told.parts k [])
      part =
          let z : 0 + k ≡ k = omega arith in
          subst (λ n. NestedPart c (own_number t.start.chain) in_block.names t.regions t.start.first t.start.chain
          (t.first ++ own_declarations b) (length t.gathered.routines) (length in_block.before.gathered.domains)
          (out-Block b).routines n r inner in_block.behind (get_or in_block.told.parts k [])) z
          (in_block.told.nested k r inner at is)

      pub nested : Nested c (own_number t.start.chain) in_block.names t.regions t.start.first t.start.chain
          (t.first ++ own_declarations b) (length t.gathered.routines) (length in_block.before.gathered.domains)
          (out-Block b).routines k r inner in_block.behind
      nested = part.0

      -- what its block changes
      pub part_changes : nested.done.changes ≡ get_or in_block.told.parts k []
      unfolding nested
      part_changes = part.1

      abbrev pub before : List Definition
      before = points text (t.first ++ own_declarations b) (introduced text (take (k + 1) (out-Block b).routines))

      -- the points before the routine's block are the first
      pub split_at : (more : List Definition) × (ds ≡ before ++ more)
      unfolding definitions_of
      split_at =
          let rs = (out-Block b).routines in
          let n = length (take (k + 1) rs) in
          let further = introduced_more text (introduced text (take (k + 1) rs)) (0 + n) (drop (k + 1) rs) in
          let all : introduced text rs ≡ introduced text (take (k + 1) rs) ++ further.0 = ap (introduced text)
          (sym (take_drop (k + 1) rs)) ∙ introduced_append text [] 0 (take (k + 1) rs) (drop (k + 1) rs) ∙ further.1
          in
          let firsts = map OfDeclaration (t.first ++ own_declarations b) in (
            map of_routine further.0,
            ap (λ l. firsts ++ map of_routine l) all ∙ ap (λ l. firsts ++ l)
                (map-append of_routine (introduced text (take (k + 1) rs)) further.0) ∙ sym
                (append_assoc firsts (map of_routine (introduced text (take (k + 1) rs))) (map of_routine further.0)),
          )

      introduced_by : introducer text ds (spelled text (routine_name r)) ≡ Some (nested.number_in_part, nested.by)
      unfolding introducer
      introduced_by =
          ap (λ o. o >>= (λ i. slice_get ds i) >>= as_routine)
          (ap (λ names. place names (spelled text (routine_name r))) (sym in_block.names_are) ∙ nested.found)
          ∙ ap (λ o. o >>= as_routine) (ap (λ l. slice_get l nested.index) split_at.1
          ∙ get_stays before split_at.0 nested.index (OfRoutine nested.number_in_part nested.by) nested.at)

      heading_is : heading_of text ds r ≡ Some nested.said
      unfolding heading_of
      heading_is = ap (λ o. o >>= (λ (q : InPart). routine_heading q.1)) introduced_by ∙ nested.is_said

      pub first_is : first_declarations text p (k ∷ v) ≡ Some (formal_declarations nested.said)
      unfolding first_declarations
      first_is =
          ap (λ o. o >>= (λ y. first_declarations text p v
          >>= (λ first. slice_get (out-Block y).routines k
          >>= (λ x. heading_of text (definitions_of text first y) x >>= (λ h. Some (formal_declarations h))))))
          t.there
          ∙ ap (λ o. o >>= (λ first. slice_get (out-Block b).routines k
          >>= (λ x. heading_of text (definitions_of text first b) x >>= (λ h. Some (formal_declarations h)))))
          t.firsts
          ∙ ap (λ o. o >>= (λ x. heading_of text ds x >>= (λ h. Some (formal_declarations h)))) at
          ∙ ap (λ o. o >>= (λ h. Some (formal_declarations h))) heading_is

      pub heading_there : heading_at text p k v ≡ Some nested.said
      unfolding heading_at
      heading_there =
          ap (λ o. o >>= (λ y. first_declarations text p v
          >>= (λ first. slice_get (out-Block y).routines k
          >>= (λ x. heading_of text (definitions_of text first y) x)))) t.there
          ∙ ap (λ o. o >>= (λ first. slice_get (out-Block b).routines k
          >>= (λ x. heading_of text (definitions_of text first b) x))) t.firsts
          ∙ ap (λ o. o >>= (λ x. heading_of text ds x)) at
          ∙ heading_is

      pub entry_is : first_entry_at text p (k ∷ v) ≡ Some (entries_before nested.said)
      unfolding first_entry_at
      entry_is =
          ap (λ o. o >>= (λ y. first_declarations text p v
          >>= (λ first. slice_get (out-Block y).routines k
          >>= (λ x. heading_of text (definitions_of text first y) x >>= (λ h. Some (entries_before h)))))) t.there
          ∙ ap (λ o. o >>= (λ first. slice_get (out-Block b).routines k
          >>= (λ x. heading_of text (definitions_of text first b) x >>= (λ h. Some (entries_before h))))) t.firsts
          ∙ ap (λ o. o >>= (λ x. heading_of text ds x >>= (λ h. Some (entries_before h)))) at
          ∙ ap (λ o. o >>= (λ h. Some (entries_before h))) heading_is

      pub number_is : number_at text p (k ∷ v) ≡ Some nested.heading.number
      unfolding number_at headings_before
      number_is =
          ap (λ o. o >>= (λ y. first_number text p v
          >>= (λ n. definitions_at text p v >>= (λ es. slice_get (out-Block y).routines k
          >>= (λ x. introducer text es (spelled text (routine_name x))
          >>= (λ q. Some (n + headings_before text y q.0))))))) t.there
          ∙ ap (λ o. o >>= (λ n. definitions_at text p v
          >>= (λ es. slice_get (out-Block b).routines k
          >>= (λ x. introducer text es (spelled text (routine_name x))
          >>= (λ q. Some (n + headings_before text b q.0)))))) t.numbers
          ∙ ap (λ o. o >>= (λ es. slice_get (out-Block b).routines k
          >>= (λ x. introducer text es (spelled text (routine_name x))
          >>= (λ q. Some (t.base + headings_before text b q.0))))) points_are
          ∙ ap (λ o. o >>= (λ x. introducer text ds (spelled text (routine_name x))
          >>= (λ q. Some (t.base + headings_before text b q.0)))) at
          ∙ ap (λ o. o >>= (λ q. Some (t.base + headings_before text b q.0))) introduced_by
          ∙ ap (λ n. Some (n + headings_before text b nested.number_in_part)) (sym t.count) ∙ ap (λ n. Some n)
          (sym nested.numbered_so)

      pub next_is : first_number text p (k ∷ v) ≡ Some (length nested.gathered.routines)
      unfolding first_number headings_before own_heading
      next_is =
          ap (λ o. o >>= (λ y. first_number text p v
          >>= (λ n. slice_get (out-Block y).routines k
          >>= (λ x. Some ((n + headings_before text y k) + own_heading text y k x))))) t.there
          ∙ ap (λ o. o >>= (λ n. slice_get (out-Block b).routines k
          >>= (λ x. Some ((n + headings_before text b k) + own_heading text b k x)))) t.numbers
          ∙ ap (λ o. o >>= (λ x. Some ((t.base + headings_before text b k) + own_heading text b k x))) at
          ∙ ap (λ n. Some ((n + headings_before text b k) + own_heading text b k r)) (sym t.count) ∙ ap (λ n. Some n)
          (sym nested.count)

      pub chain_is : chain_at text p (k ∷ v) ≡ Some nested.inner.chain
      unfolding chain_at
      chain_is =
          ap (λ o. o >>= (λ n. chain_at text p v >>= (λ ns. Some (n ∷ ns)))) number_is
          ∙ ap (λ o. o >>= (λ ns. Some (nested.heading.number ∷ ns))) t.chain ∙ ap (λ l. Some l)
          (sym nested.begins.chain_is)

      pub own_is : own_number nested.inner.chain ≡ nested.heading.number
      unfolding own_number
      own_is = ap own_number nested.begins.chain_is

      pub before_is : points_before_at text p k v ≡ Some (points_before text t.first b k)
      unfolding points_before_at
      before_is = ap (λ o. o >>= (λ y. first_declarations text p v >>= (λ first. Some (points_before text first y k))))
          t.there ∙ ap (λ o. o >>= (λ first. Some (points_before text first b k))) t.firsts

      pub drawn_is : first_domain_at p (k ∷ v) ≡ Some (length nested.gathered.domains)
      unfolding first_domain_at domains_before
      drawn_is =
          let a = nested.drawn_so in
          let d = in_block.drawn_first in
          let m = sum (map routine_domains (take k (out-Block b).routines)) in
          let z : length t.gathered.domains + (own_domains b + m) ≡ length nested.gathered.domains = omega (arith, a, d)
          in
          ap (λ o. o >>= (λ y. first_domain_at p v >>= (λ n. Some (n + domains_before y k)))) t.there
          ∙ ap (λ o. o >>= (λ n. Some (n + domains_before b k))) t.drawn ∙ ap (λ n. Some n) z

      pub many : length nested.known ≡ points_before text t.first b k
      unfolding points_before
      many =
          let firsts = t.first ++ own_declarations b in
          let I = introduced text (take (k + 1) (out-Block b).routines) in
          let a = nested.stands.many in
          let l = length-append (map OfDeclaration firsts) (map of_routine I) in
          let m = length-map firsts OfDeclaration in
          let n = length-map I of_routine in
          omega (arith, a, l, m, n)

      pub positive : length t.gathered.routines ≤ length nested.gathered.routines
      positive = let a = nested.count in omega (arith, a)

      pub own_positive : t.base ≤ nested.heading.number
      own_positive = let a = nested.numbered_so in let b = t.count in omega (arith, a, b)

      unfoldable pub inner_there : There (k ∷ v) inner
      unfolding block_at
      inner_there =
          let base_positive = t.positive in
          let count = t.count in
          let le = positive in
          let number_le = own_positive in
          let same_done = in_block.same_gathered in
          record {
            regions = BlockRegion (own_number t.start.chain) in_block.names nested.known ∷ t.regions;
            start = nested.inner;
            gathered = nested.gathered;
            done = nested.done;
            first = formal_declarations nested.said;
            base = length nested.gathered.routines;
            reading = nested.reading;
            there = ap (λ o. o >>= (λ a. slice_get (out-Block a).routines k >>= routine_block)) t.there
                ∙ ap (λ o. o >>= routine_block) at ∙ is;
            firsts = first_is;
            entries = entry_is ∙ ap (λ n. Some n) (sym nested.begins.first);
            numbers = next_is;
            own = number_is ∙ ap (λ n. Some n) (sym own_is);
            chain = chain_is;
            ready = nested.ready;
            count = refl;
            positive = omega (arith, base_positive, count, le);
            around = further_in k v (points_before text t.first b k)
                (BlockRegion (own_number t.start.chain) in_block.names nested.known) t.regions before_is
                (region_at (points_before text t.first b k) nested.known before split_at.0 many split_at.1
                nested.stands) t.around;
            keeps = λ n x below e. t.keeps n x (omega (arith, below, count, le))
                (ap (λ (y : Gathered). slice_get y.routines n) same_done ∙ nested.inner_keeps n x below e);
            routine = routine_tree nested.inner.chain nested.heading nested.done;
            checked = ap (slice_get made.routines) own_is ∙ whole nested.heading.number
                (routine_tree nested.inner.chain nested.heading nested.done) (omega (arith, number_le, base_positive))
                (t.keeps nested.heading.number (routine_tree nested.inner.chain nested.heading nested.done) number_le
                (ap (λ (y : Gathered). slice_get y.routines nested.heading.number) same_done ∙ nested.made));
            is_body = tree_body nested.inner.chain nested.heading nested.done;
            is_variables = tree_variables nested.inner.chain nested.heading nested.done;
            is_chain = tree_chain nested.inner.chain nested.heading nested.done;
            is_of_heading = of_heading k v (BlockRegion (own_number t.start.chain) in_block.names nested.known
                ∷ t.regions) (routine_tree nested.inner.chain nested.heading nested.done) nested.said nested.heading
                heading_there nested.is_denoted number_is
                (tree_formals nested.inner.chain nested.heading nested.done)
                (tree_result nested.inner.chain nested.heading nested.done);
            is_line = tree_line nested.inner.chain nested.heading nested.done;
            begins = begins_heading k v (BlockRegion (own_number t.start.chain) in_block.names nested.known ∷ t.regions)
                nested.inner (routine_tree nested.inner.chain nested.heading nested.done) nested.said nested.heading
                t.start.chain heading_there nested.is_denoted t.chain nested.begins.chain_is nested.begins.known
                nested.begins.first
                (tree_formals nested.inner.chain nested.heading nested.done)
                (tree_result nested.inner.chain nested.heading nested.done);
            drawn = drawn_is;
            domains = longer_both nested.done.gathered t.done.gathered final
                (nested.inner_domains.0, ap (λ (y : Gathered). y.domains) same_done ∙ nested.inner_domains.1) t.domains;
            levels = ap length nested.begins.chain_is ∙ ap suc t.levels;
            deep = (let l = t.levels in let d = nested.begins.deep in omega (arith, l, d));
            assigned = ap (λ r. assigns r nested.done.changes)
                (tree_result nested.inner.chain nested.heading nested.done) ∙ nested.assigned;
          }

  -- ---- the routines within a block

  -- a block within the one that was read: its routine is among those gathered there
  pub record Inside (v : List ℕ) (b : syntax_block.Block) (t : There v b) (u : List ℕ) (x : syntax_block.Block)
      : Type 0 where
    pub inner : There u x
    pub low : t.base ≤ inner.base
    pub own_low : t.base ≤ own_number inner.start.chain
    pub keeps : (n : ℕ) (y : Tree.Routine) → inner.base ≤ n → slice_get inner.done.gathered.routines n ≡ Some (Some y)
        → slice_get t.done.gathered.routines n ≡ Some (Some y)
    pub tree : Tree.Routine
    pub is : slice_get t.done.gathered.routines (own_number inner.start.chain) ≡ Some (Some tree)

  inside_next : (v : List ℕ) (b : syntax_block.Block) (t : There v b) (k : ℕ) (r : Routine) (x : syntax_block.Block)
      → slice_get (out-Block b).routines k ≡ Some r → routine_block r ≡ Some x → Inside v b t (k ∷ v) x
  unfolding inner_there
  inside_next v b t k r x at is =
      let n = nested v b t k r x at is in
      let same_done = (in_block v b t).same_gathered in
      let count = t.count in
      let le = positive v b t k r x at is in
      let own = own_is v b t k r x at is in
      let own_le = own_positive v b t k r x at is in
      record {
        inner = inner_there v b t k r x at is;
        low = omega (arith, count, le);
        own_low = omega (arith, own, own_le);
        keeps = λ m y l e. ap (λ (z : Gathered). slice_get z.routines m) same_done ∙ n.inner_keeps m y l e;
        tree = routine_tree n.inner.chain n.heading n.done;
        is = ap (slice_get t.done.gathered.routines) own
            ∙ ap (λ (z : Gathered). slice_get z.routines n.heading.number) same_done ∙ n.made;
      }

  inside_further : (v : List ℕ) (b : syntax_block.Block) (t : There v b) (u : List ℕ) (a : syntax_block.Block)
      (s : Inside v b t u a) (w : List ℕ) (x : syntax_block.Block) → Inside u a s.inner w x → Inside v b t w x
  inside_further v b t u a s w x i =
      let l = s.low in
      let m = i.low in
      let n = i.own_low in
      record {
        inner = i.inner;
        low = omega (arith, l, m);
        own_low = omega (arith, l, n);
        keeps = λ k y le e. s.keeps k y (omega (arith, m, le)) (i.keeps k y le e);
        tree = i.tree;
        is = s.keeps (own_number i.inner.start.chain) i.tree n i.is;
      }

  pub inside_at : (v : List ℕ) (b : syntax_block.Block) (t : There v b) (w : List ℕ) (k : ℕ) (x : syntax_block.Block)
      → block_at p.block (w ++ k ∷ v) ≡ Some x → Inside v b t (w ++ k ∷ v) x
  unfolding block_at
  inside_at v b t [] k x e =
      let a = then_some (block_at p.block v) _ x e in
      let same_block : a.0 ≡ b = same_Some a.0 b (sym a.1 ∙ t.there) in
      let r = then_some (slice_get (out-Block a.0).routines k) _ x a.2 in
      inside_next v b t k r.0 x (ap (λ z. slice_get (out-Block z).routines k) (sym same_block) ∙ r.1) r.2
  inside_at v b t (j ∷ w) k x e =
      let a = then_some (block_at p.block (w ++ k ∷ v)) _ x e in
      let r = then_some (slice_get (out-Block a.0).routines j) _ x a.2 in
      let outer = inside_at v b t w k a.0 a.1 in
      inside_further v b t (w ++ k ∷ v) a.0 outer (j ∷ (w ++ k ∷ v)) x
      (inside_next (w ++ k ∷ v) a.0 outer.inner j r.0 x r.1 r.2)
