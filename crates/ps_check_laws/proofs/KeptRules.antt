-- What is known of a block of an accepted program, and what it keeps of the rules.
use Rattle.std.proofs.Common.{◌≡◌, ℕ, ◌+◌, ◌<◌, ◌≤◌, List, [], ◌∷◌, ◌++◌, length, map, take, drop, Option, Some, get_or}
use Rattle.std.proofs.Common.{slice_get, refl, sym, ap, ◌∙◌, subst, append_assoc, append-nil, arith}
use Rattle.std.proofs.lemmas.Option.{same_Some}
use Rattle.std.proofs.Math.Seq.{take-append_seam}
use Rattle.ps_syntax.specs.declared.program.Block as syntax_block
use Rattle.ps_syntax.specs.declared.program.Block.{out-Block, roll-Block, out-roll-Block}
use Rattle.ps_syntax.specs.declared.program.Routine.{Routine, roll-Routine, map-Routine, out-roll-Routine}
use Rattle.ps_syntax.specs.declared.program.Routine.TheOpen.{Routine-F, Block-F}
use Rattle.ps_syntax.specs.declared.program.Routine.TheFolds.{ind-Block}
use Rattle.ps_syntax.specs.declared.program.Program as syntax
use Rattle.ps_tree.specs.Tree as Tree
use Rattle.ps_check_judgement.specs.declared.change.Change.{Change}
use Rattle.ps_check_judgement.specs.Judged.{Yes}
use Rattle.ps_check_judgement.proofs.Impossible.{none_some}
use Rattle.ps_check_names.specs.Regions.{BlockRegion, Meaning}
use Rattle.ps_check_declarations.specs.Denoters.{Frame}
use Rattle.ps_check.specs.Readings.{Gathered}
use Rattle.ps_check.specs.Blocks.{own_number, of_statements}
use Rattle.ps_check.specs.Programs.{Files, program_context}
use Rattle.ps_check.specs.Changes.{assigns}
use Rattle.ps_check.specs.Paths.{layer_block, routine_block, block_at}
use Rattle.ps_check_laws.specs.Definitions.{points_before_variables, points_before_routines, Definition, definitions_of}
use Rattle.ps_check_laws.specs.Definitions.{names_of, points_before}
use Rattle.ps_check_laws.specs.Denoting.{headings_within}
use Rattle.ps_check_laws.specs.Meanings.{IsRegion}
use Rattle.ps_check_laws.specs.Read.{IsReadThere}
use Rattle.ps_check_laws.specs.Domains.{type_domains, variable_domains, AreDomains}
use Rattle.ps_check_laws.proofs.Pending.{domains_stay, declarations_length}
use Rattle.ps_check_laws.specs.Within.{IsWithin, IsTaken, AreThoseWithin}
use Rattle.ps_check_laws.specs.Occurrences.{statements_uses}
use Rattle.ps_check_laws.specs.InDeclarations.{declarations_part}
use Rattle.ps_check_laws.proofs.Statements.{statements_read, denoted_there}
use Rattle.ps_check_laws.proofs.Controls.{controls_unchanged}
use Rattle.ps_check.specs.RegionNames.{AreApart}
use Rattle.ps_check.proofs.EachItem.{each_at}
use Rattle.ps_check_laws.proofs.EnclosedNames.{AllKnown}
use Rattle.ps_check_laws.proofs.Before.{denoted_before, headings_denoted}
use Rattle.ps_tree.specs.Types.{DataType}
use Rattle.ps_check_declarations.specs.Declarations.{declarations}
use Rattle.ps_check_statements.specs.Statements.{statements}
use Rattle.ps_check_laws.proofs.Lists.{get_drop, drop_length, difference, Each}
use Rattle.ps_check_laws.proofs.Lists.{then_some}
use Rattle.ps_check_laws.proofs.GatheredSoFar.{changes_told}
use Rattle.ps_check_laws.specs.Counts.{block_domains, own_domains}
use Rattle.ps_check_laws.specs.Rule.{KeepsRules, BlockIsRead, is_read}
use Rattle.ps_check_laws.proofs.Blocks.{BlockHas}
use Rattle.ps_check_laws.proofs.Paths as paths
use Rattle.ps_check_laws.proofs.Filled.{fills}

module _ (text : List ℕ) (p : syntax.Program) (files : Files) (made : Tree.Program) (final : Gathered)
    (whole : (n : ℕ) (x : Tree.Routine) → 1 ≤ n → slice_get final.routines n ≡ Some (Some x)
    → slice_get made.routines n ≡ Some x)
    (all_domains : made.domains ≡ final.domains) where
  abbrev There : List ℕ → syntax_block.Block → Type 0
  There v b = paths.There text p files made final whole all_domains v b

  abbrev ds : (v : List ℕ) (b : syntax_block.Block) → There v b → List Definition
  ds v b t = definitions_of text t.first b

  abbrev in_block : (v : List ℕ) (b : syntax_block.Block) (t : There v b) → BlockHas
      (program_context text files) b t.regions t.start t.gathered t.done t.first
  in_block v b t = paths.in_block text p files made final whole all_domains v b t

  -- ---- what is known of a block

  module _ (v : List ℕ) (b : syntax_block.Block) (t : There v b) where
    abbrev taken : List (Option Tree.Routine)
    taken = drop (length t.gathered.routines) t.done.gathered.routines

    taken_at : (w : List ℕ) (k : ℕ) (x : syntax_block.Block) → block_at p.block (w ++ k ∷ v) ≡ Some x → (i : ℕ)
        × IsTaken text p made v t.base taken (w ++ k ∷ v) i
    taken_at w k x e =
        let s = paths.inside_at text p files made final whole all_domains v b t w k x e in
        let i = difference t.base (own_number s.inner.start.chain) s.own_low in
        let positive = t.positive in
        let low = s.own_low in (
          i.0,
          record {
            within = record { inner = w; number = k; is = refl };
            block = x;
            there = e;
            number = s.inner.own ∙ ap (λ n. Some n) i.1;
            routine = s.tree;
            is = get_drop (length t.gathered.routines) t.done.gathered.routines i.0
                ∙ ap (λ n. slice_get t.done.gathered.routines (n + i.0)) t.count
                ∙ ap (slice_get t.done.gathered.routines) (sym i.1) ∙ s.is;
            checked = ap (slice_get made.routines) (sym i.1) ∙ whole (own_number s.inner.start.chain) s.tree
                (omega (arith, positive, low)) (t.keeps (own_number s.inner.start.chain) s.tree s.own_low s.is);
          },
        )

    taken_by : (u : List ℕ) (x : syntax_block.Block) → IsWithin v u → block_at p.block u ≡ Some x → (i : ℕ)
        × IsTaken text p made v t.base taken u i
    taken_by u x w e = subst (λ z. (i : ℕ) × IsTaken text p made v t.base taken z i) (sym w.is)
        (taken_at w.inner w.number x (ap (block_at p.block) (sym w.is) ∙ e))

    taken_many : length taken ≡ headings_within text b
    taken_many = drop_length (length t.gathered.routines) t.done.gathered.routines (headings_within text b)
        (in_block v b t).grown.count

    taken_only : (i : ℕ) → i < length taken → (u : List ℕ) × IsTaken text p made v t.base taken u i
    taken_only i l =
        let many = taken_many in
        let at = fills text p files made final whole all_domains b v t (t.base + i) (omega arith)
        (omega (arith, l, many)) in
        let r = taken_at at.further at.at at.block at.there in
        let numbers = same_Some (t.base + r.0) (t.base + i) (sym r.1.number ∙ at.numbered) in
        let same_number : r.0 ≡ i = omega (arith, numbers) in
        (at.further ++ at.at ∷ v, subst (IsTaken text p made v t.base taken (at.further ++ at.at ∷ v)) same_number r.1)

    those_within : AreThoseWithin text p made v b taken
    those_within = record { base = t.base; first = t.numbers; many = taken_many; each = taken_by; only = taken_only }

    abbrev frame_of : (w : List ℕ) (a : syntax_block.Block) (s : There w a) → List (List ℕ) → Frame
    frame_of w a s names = record {
      text = text;
      routine = own_number s.start.chain;
      names = names;
      begun = [];
      outer = s.regions;
    }

    abbrev framed_at : (w : List ℕ) (a : syntax_block.Block) (s : There w a) → Frame
    framed_at w a s = frame_of w a s (names_of text (ds w a s))

    abbrev region_there : IsRegion text p v (length (ds v b t)) t.regions
        (BlockRegion (own_number t.start.chain) (in_block v b t).names (in_block v b t).behind.known)
    region_there = paths.region_at text p files made final whole all_domains v b t (length (ds v b t))
        (in_block v b t).behind.known (ds v b t) []
        (in_block v b t).known.many (sym (append-nil (ds v b t))) (in_block v b t).known

    pub read_there : IsReadThere text p files made v b
    unfolding paths.region_at
    read_there = record {
      regions = t.regions;
      start = t.start;
      gathered = t.gathered;
      done = t.done;
      reading = t.reading;
      around = t.around;
      chain = t.chain;
      first = t.first;
      firsts = t.firsts;
      names = t.ready.names;
      own = BlockRegion (own_number t.start.chain) (in_block v b t).names (in_block v b t).behind.known;
      all = ds v b t;
      points = paths.points_are text p files made final whole all_domains v b t;
      apart = subst AreApart (in_block v b t).names_are (in_block v b t).apart;
      region = region_there;
      inner = (in_block v b t).behind.changes;
      changes = (in_block v b t).changes;
      all_changes = (in_block v b t).all_changes;
      body = (in_block v b t).body;
      uses = denoted_there (of_statements (program_context text files) t.done.gathered.domains
          (in_block v b t).behind.changes) p v (length (ds v b t))
          (BlockRegion (own_number t.start.chain) (in_block v b t).names (in_block v b t).behind.known) t.regions
          region_there t.around (statements_uses (out-Block b).statements)
          (statements_read (of_statements (program_context text files) t.done.gathered.domains
          (in_block v b t).behind.changes) (BlockRegion (own_number t.start.chain) (in_block v b t).names
          (in_block v b t).behind.known ∷ t.regions) (out-Block b).statements []
          (t.done.body, (in_block v b t).changes) (in_block v b t).body);
      declared = denoted_before text p v (length (ds v b t)) t.regions
          (BlockRegion (own_number t.start.chain) (in_block v b t).names (in_block v b t).behind.known) region_there
          t.around (length t.first) (declarations_part (out-Block b).constants (out-Block b).types
          (out-Block b).variables).uses
          (subst (λ z. AllKnown (frame_of v b t z) [] (in_block v b t).behind.known (length t.first)
          (declarations_part (out-Block b).constants (out-Block b).types (out-Block b).variables).uses)
          (in_block v b t).names_are (in_block v b t).uses);
      headings = λ i k r h at is. headings_denoted text p v (length (ds v b t)) t.regions
          (BlockRegion (own_number t.start.chain) (in_block v b t).names (in_block v b t).behind.known) region_there
          t.around i k r h (in_block v b t).known.many at is;
      number = own_number t.start.chain;
      numbered = t.own;
      routine = t.routine;
      checked = t.checked;
      is_body = t.is_body;
      is_variables = t.is_variables;
      is_chain = t.is_chain;
      is_of_heading = t.is_of_heading;
      type_domains_are = domains_stay (framed_at v b t)
          (take (points_before_variables t.first b) (in_block v b t).behind.known) (length t.gathered.domains)
          (type_domains (out-Block b).types) t.done.gathered.domains t.domains.0 made.domains
          (all_domains ∙ t.domains.1)
          (subst (λ z. AreDomains (frame_of v b t z)
          (take (points_before_variables t.first b) (in_block v b t).behind.known) (length t.gathered.domains)
          (type_domains (out-Block b).types) t.done.gathered.domains) (in_block v b t).names_are
          (in_block v b t).type_domains_are);
      variable_domains_are = domains_stay (framed_at v b t)
          (take (points_before_routines t.first b) (in_block v b t).behind.known)
          (length t.gathered.domains + length (type_domains (out-Block b).types))
          (variable_domains (out-Block b).variables) t.done.gathered.domains t.domains.0 made.domains
          (all_domains ∙ t.domains.1)
          (subst (λ z. AreDomains (frame_of v b t z)
          (take (points_before_routines t.first b) (in_block v b t).behind.known)
          (length t.gathered.domains + length (type_domains (out-Block b).types))
          (variable_domains (out-Block b).variables) t.done.gathered.domains) (in_block v b t).names_are
          (in_block v b t).variable_domains_are);
      deep = t.deep;
      within = those_within;
      safe = controls_unchanged (of_statements (program_context text files) t.done.gathered.domains
          (in_block v b t).behind.changes) (BlockRegion (own_number t.start.chain) (in_block v b t).names
          (in_block v b t).behind.known ∷ t.regions) (out-Block b).statements [] (t.done.body, (in_block v b t).changes)
          (in_block v b t).body;
      assigned = t.assigned;
    }

  pub all_there : There [] p.block → (v : List ℕ) (b : syntax_block.Block) → block_at p.block v ≡ Some b → There v b
  unfolding block_at
  all_there root [] b e = subst (There []) (same_Some p.block b e) root
  all_there root (k ∷ v) b e =
      let a = then_some (block_at p.block v) _ b e in
      let r = then_some (slice_get (out-Block a.0).routines k) _ b a.2 in
      paths.inner_there text p files made final whole all_domains v a.0 (all_there root v a.0 a.1) k r.0 b r.1 r.2

  -- ---- what the block keeps of the rules

  module _ (v : List ℕ) (b : syntax_block.Block) (t : There v b) where
    first_part : (some : List DataType) (more : List DataType) (n : ℕ) → made.domains ≡ some ++ more → length some ≡ n
        → some ≡ take n made.domains
    first_part some more n e many = sym (take-append_seam some more) ∙ ap (take (length some)) (sym e)
        ∙ ap (λ k. take k made.domains) many

    domains_behind : t.done.gathered.domains ≡ take (length t.gathered.domains + block_domains b) made.domains
    domains_behind = first_part t.done.gathered.domains t.domains.0 (length t.gathered.domains + block_domains b)
        (all_domains ∙ t.domains.1) (in_block v b t).grown.drawn

    domains_first : t.gathered.domains ≡ take (length t.gathered.domains) made.domains
    domains_first =
        let more = (in_block v b t).grown.domains in
        first_part t.gathered.domains (more.0 ++ t.domains.0) (length t.gathered.domains)
        (all_domains ∙ t.domains.1 ∙ ap (λ l. l ++ t.domains.0) more.1
        ∙ append_assoc t.gathered.domains more.0 t.domains.0) refl

    domains_own : (in_block v b t).before.gathered.domains ≡ take
        (length t.gathered.domains + own_domains b) made.domains
    domains_own =
        let more = (in_block v b t).later in
        let own = (in_block v b t).before.gathered.domains in
        first_part own (more.0 ++ t.domains.0) (length t.gathered.domains + own_domains b)
        (all_domains ∙ t.domains.1 ∙ ap (λ l. l ++ t.domains.0) more.1 ∙ append_assoc own more.0 t.domains.0)
        (in_block v b t).drawn_first

    known_first : t.start.known ≡ take (length t.first) (in_block v b t).behind.known
    known_first =
        let more = (in_block v b t).known_more in
        let many = (t.ready.stands 0 [] 0 (λ k. k)).many ∙ declarations_length t.first in
        sym (take-append_seam t.start.known more.0) ∙ ap (take (length t.start.known)) (sym more.1)
        ∙ ap (λ k. take k (in_block v b t).behind.known) many

    abbrev behind_known : List Meaning
    behind_known = (in_block v b t).behind.known

    kept : KeepsRules text p files made v b t.regions
    unfolding paths.region_at
    kept = record {
      start = t.start;
      routine = t.routine;
      begins = t.begins;
      chain = t.chain;
      is_chain = t.is_chain;
      checked = t.checked;
      is_line = t.is_line ∙ (in_block v b t).line;
      first = t.first;
      firsts = t.firsts;
      names = t.ready.names;
      next = t.base;
      numbers = t.numbers;
      pointers = length t.gathered.domains;
      domains = t.drawn;
      apart = subst AreApart (in_block v b t).names_are (in_block v b t).apart;
      completed = (in_block v b t).completed;
      known = behind_known;
      many = (in_block v b t).known.many;
      begun = known_first;
      means = (region_there v b t).meanings;
      declared = ap (λ l. declarations (frame_of v b t v b t (names_of text (ds v b t))) t.start.first (record {
        known = t.start.known;
        domains = l;
        pending = [];
        variables = [];
      }) (out-Block b).constants (out-Block b).types (out-Block b).variables) (sym domains_first)
          ∙ ap (λ z. declarations (frame_of v b t v b t z) t.start.first (record {
            known = t.start.known;
            domains = t.gathered.domains;
            pending = [];
            variables = [];
          }) (out-Block b).constants (out-Block b).types (out-Block b).variables) (sym (in_block v b t).names_are)
          ∙ (in_block v b t).declared ∙ ap (λ l. Yes (record {
            known = take (points_before_routines t.first b) behind_known;
            domains = l;
            pending = [];
            variables = t.done.variables;
          })) domains_own
          ∙ ap (λ l. Yes (record {
            known = take (points_before_routines t.first b) behind_known;
            domains = take (length t.gathered.domains + own_domains b) made.domains;
            pending = [];
            variables = l;
          })) (sym t.is_variables);
      inner = (in_block v b t).behind.changes;
      changes = (in_block v b t).changes;
      body = ap (λ l. statements (of_statements (program_context text files) l (in_block v b t).behind.changes)
          (BlockRegion (own_number t.start.chain) (names_of text (ds v b t)) behind_known ∷ t.regions)
          (out-Block b).statements []) (sym domains_behind)
          ∙ ap (λ z. statements (of_statements (program_context text files) t.done.gathered.domains
          (in_block v b t).behind.changes) (BlockRegion (own_number t.start.chain) z behind_known ∷ t.regions)
          (out-Block b).statements []) (sym (in_block v b t).names_are)
          ∙ (in_block v b t).body ∙ ap (λ l. Yes (l, (in_block v b t).changes)) (sym t.is_body);
      assigned = ap (assigns t.routine.result) (sym (in_block v b t).all_changes) ∙ t.assigned;
    }

    -- its regions within are those that the rule says
    inner_region : (k : ℕ) (r : Routine) (inner : syntax_block.Block) (at : slice_get (out-Block b).routines k ≡ Some r)
        (is : routine_block r ≡ Some inner)
        → BlockRegion (own_number t.start.chain) (in_block v b t).names
        (paths.nested text p files made final whole all_domains v b t k r inner at is).known
        ≡ BlockRegion (own_number t.start.chain) (names_of text (ds v b t))
        (take (points_before text t.first b k) behind_known)
    inner_region k r inner at is =
        let n = paths.nested text p files made final whole all_domains v b t k r inner at is in
        ap (λ z. BlockRegion (own_number t.start.chain) z n.known) (in_block v b t).names_are
        ∙ ap (λ l. BlockRegion (own_number t.start.chain) (names_of text (ds v b t)) l)
        (sym (take-append_seam n.known n.known_more.0) ∙ ap (take (length n.known)) (sym n.known_more.1)
        ∙ ap (λ k. take k behind_known) (paths.many text p files made final whole all_domains v b t k r inner at is))

  abbrev BlockReads : syntax_block.Block → Type 0
  BlockReads b = (v : List ℕ) (t : There v b) → BlockIsRead text p files made v b t.regions t.done.changes

  abbrev RoutineReads : Routine → Type 0
  RoutineReads x = (b : syntax_block.Block) → routine_block x ≡ Some b → BlockReads b

  block_reads : (b : syntax_block.Block) → Each RoutineReads (out-Block b).routines → BlockReads b
  unfolding paths.inner_there kept
  block_reads b reads v t =
      let h = in_block v b t in
      let changes : ℕ → List Change = λ k. get_or h.told.parts k [] in
      is_read v b t.regions t.done.changes (kept v b t) h.all_changes changes
      (h.inner_changes ∙ sym (changes_told h.told.parts (out-Block b).routines h.told.many_parts))
      (λ k r inner at is.
      subst (λ z. BlockIsRead text p files made (k ∷ v) inner (z ∷ t.regions) (changes k))
      (inner_region v b t k r inner at is)
      (subst (λ l. BlockIsRead text p files made (k ∷ v) inner
      (BlockRegion (own_number t.start.chain) h.names
      (paths.nested text p files made final whole all_domains v b t k r inner at is).known ∷ t.regions) l)
      (paths.part_changes text p files made final whole all_domains v b t k r inner at is)
      (each_at RoutineReads (out-Block b).routines k r reads at inner is (k ∷ v)
      (paths.inner_there text p files made final whole all_domains v b t k r inner at is))))

  reads_layer : (y : Routine-F ((x : Routine) × RoutineReads x) ((x : syntax_block.Block) × BlockReads x))
      → RoutineReads (roll-Routine (map-Routine ((x : Routine) × RoutineReads x)
      ((x : syntax_block.Block) × BlockReads x) Routine syntax_block.Block (λ e. e.0) (λ e. e.0) y))
  unfolding routine_block
  reads_layer (Routine-F.Whole h x) b e = subst BlockReads
      (same_Some x.0 b (sym (ap layer_block (out-roll-Routine (Routine-F.Whole h x.0))) ∙ e)) x.1
  reads_layer (Routine-F.Forward h) b e = absurd
      (none_some (sym (ap layer_block (out-roll-Routine (Routine-F.Forward h))) ∙ e))
  reads_layer (Routine-F.Completion name x) b e = subst BlockReads
      (same_Some x.0 b (sym (ap layer_block (out-roll-Routine (Routine-F.Completion name x.0))) ∙ e)) x.1

  each_reads : (ys : List ((x : Routine) × RoutineReads x)) → Each RoutineReads (map (λ y. y.0) ys)
  each_reads [] = tt
  each_reads (y ∷ ys) = (y.1, each_reads ys)

  pub all_reads : (b : syntax_block.Block) → BlockReads b
  all_reads = ind-Block RoutineReads BlockReads
      (λ x y is. subst (λ z. RoutineReads (roll-Routine z)) is (reads_layer y))
      (λ x y is. block_reads (roll-Block x) (subst
      (λ (z : Block-F Routine syntax_block.Block). Each RoutineReads z.routines) (sym (out-roll-Block x))
      (subst (λ (z : Block-F Routine syntax_block.Block). Each RoutineReads z.routines) is
      (each_reads y.routines))))
