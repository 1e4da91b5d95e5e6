-- The names and the meanings of a block that keeps the rules, before its routines are read.
use Rattle.std.proofs.Common.{◌≡◌, ℕ, ◌+◌, ◌≤◌, Bool, true, false, List, [], ◌∷◌, ◌++◌, length, map, take, Some}
use Rattle.std.proofs.Common.{is_none, slice_get, refl, sym, ap, ◌∙◌, append_assoc, append-nil, arith}
use Rattle.std.proofs.lemmas.Option.{slice_get_within}
use Rattle.ps_syntax.specs.declared.program.Heading as syntax
use Rattle.ps_syntax.specs.declared.program.Block as syntax_block
use Rattle.ps_syntax.specs.declared.program.Block.{out-Block}
use Rattle.ps_syntax.specs.declared.program.Routine.{Routine}
use Rattle.ps_syntax.specs.declared.program.Program as syntax_program
use Rattle.ps_tree.specs.Tree as Tree
use Rattle.ps_tree.specs.Counts.{are_routines_within_limits}
use Rattle.ps_tree.specs.declared.limits.TheConstants.{MAX_ROUTINES}
use Rattle.ps_check_judgement.specs.declared.change.Change.{Change}
use Rattle.ps_check_judgement.specs.Judged.{Yes}
use Rattle.ps_check_judgement.proofs.Items.{there_is}
use Rattle.ps_check_names.specs.Spelling.{spelled}
use Rattle.ps_check_names.specs.Regions.{Region, BlockRegion, RoutineMeaning, Heading, Context}
use Rattle.ps_check_declarations.specs.Denoters.{Frame}
use Rattle.ps_check_declarations.specs.Points.{add_points, block_points}
use Rattle.ps_check_declarations.specs.Points as points_of
use Rattle.ps_check.specs.Readings.{Routines}
use Rattle.ps_check.specs.Forwards.{block_names, add_routines}
use Rattle.ps_check.specs.Blocks.{own_number, block, routine, layer}
use Rattle.ps_check.specs.Programs.{Files, program_context}
use Rattle.ps_check.specs.RegionNames.{AreApart}
use Rattle.ps_check.specs.Paths.{routine_block, block_at}
use Rattle.ps_check_laws.specs.Definitions.{Declarations, OfDeclaration, Definition, OfRoutine, own_declarations}
use Rattle.ps_check_laws.specs.Definitions.{routine_heading, introduced, introduced_from, of_routine, definitions_of}
use Rattle.ps_check_laws.specs.Definitions.{names_of, points_before}
use Rattle.ps_check_laws.specs.Denoting.{counted, headings_within, headings_before}
use Rattle.ps_check_laws.specs.Counts.{sum, routine_domains, block_domains, own_domains}
use Rattle.ps_check_laws.specs.Meanings.{AreMeanings, IsHeading}
use Rattle.ps_check_laws.specs.Controls.{changes_from}
use Rattle.ps_check_laws.specs.Rule.{KeepsRules, BlockIsRead}
use Rattle.ps_check_laws.proofs.Shown.{shown}
use Rattle.ps_check_laws.proofs.Routines.{counts}
use Rattle.ps_check_laws.proofs.BlockPoints.{points_names, points}
use Rattle.ps_check_laws.proofs.Blocks.{own_named, names_both}
use Rattle.ps_check_laws.proofs.Ordered.{points_added_apart, names_read}
use Rattle.ps_check_laws.proofs.Rebuilt.{Are}

module _ (text : List ℕ) (p : syntax_program.Program) (files : Files) (made : Tree.Program)
    (limits : are_routines_within_limits made.routines ≡ true) (few : length made.routines ≤ MAX_ROUTINES) where
  abbrev pub c : Context
  c = program_context text files

  abbrev pub Nested : (v : List ℕ) (b : syntax_block.Block) (Γ : List Region) → KeepsRules text p files made v b Γ
      → (changes : ℕ → List Change) → Type 0
  Nested v b Γ mine changes = (k : ℕ) (r : Routine) (inner : syntax_block.Block) → slice_get (out-Block b).routines k
      ≡ Some r → routine_block r ≡ Some inner
      → BlockIsRead text p files made (k ∷ v) inner
      (BlockRegion (own_number mine.start.chain) (names_of text (definitions_of text mine.first b))
      (take (points_before text mine.first b k) mine.known) ∷ Γ) (changes k)

  abbrev pub BlockRecovers : syntax_block.Block → Type 0
  BlockRecovers b =
      (v : List ℕ) (Γ : List Region) (mine : KeepsRules text p files made v b Γ) (changes : ℕ → List Change)
      → mine.inner ≡ changes_from changes 0 (out-Block b).routines → Nested v b Γ mine changes → block_at p.block v
      ≡ Some b → mine.next + headings_within text b ≤ length made.routines → (vacant : ℕ → Bool)
      → ((m : ℕ) → mine.next ≤ m → vacant m ≡ false)
      → block c b Γ mine.start (record {
        domains = take mine.pointers made.domains;
        routines = shown made.routines vacant mine.next;
      })
      ≡ Yes (record {
        variables = mine.routine.variables;
        body = mine.routine.body;
        line = mine.routine.line;
        changes = mine.inner ++ mine.changes;
        gathered = record {
          domains = take (mine.pointers + block_domains b) made.domains;
          routines = shown made.routines vacant (mine.next + headings_within text b);
        };
      })

  abbrev pub RoutineRecovers : Routine → Type 0
  RoutineRecovers x = (b : syntax_block.Block) → routine_block x ≡ Some b → BlockRecovers b

  module _ (v : List ℕ) (b : syntax_block.Block) (Γ : List Region) (mine : KeepsRules text p files made v b Γ)
      (changes : ℕ → List Change) (inner_is : mine.inner ≡ changes_from changes 0 (out-Block b).routines)
      (nested : Nested v b Γ mine changes) (there : block_at p.block v ≡ Some b)
      (room : mine.next + headings_within text b ≤ length made.routines) (vacant : ℕ → Bool)
      (low : (m : ℕ) → mine.next ≤ m → vacant m ≡ false) where
    abbrev pub rs : List Routine
    rs = (out-Block b).routines

    abbrev pub D : Declarations
    D = mine.first ++ own_declarations b

    pub apart : AreApart (names_of text (points text D (introduced text rs)))
    unfolding definitions_of
    apart = mine.apart

    abbrev pub all : List Definition
    all = points text D (introduced text rs)

    all_are_points : definitions_of text mine.first b ≡ all
    unfolding definitions_of
    all_are_points = refl

    abbrev N : List (List ℕ)
    N = names_of text all

    abbrev pub f : Frame
    f = record { text = text; routine = own_number mine.start.chain; names = N; begun = []; outer = Γ }

    abbrev chain : List ℕ
    chain = mine.start.chain

    abbrev pub number : ℕ → ℕ
    number k = mine.next + counted text [] (counts text (take k rs))

    pub many : length mine.known ≡ length all
    unfolding definitions_of
    many = mine.many

    pub means : AreMeanings f mine.start.first number all mine.known
    unfolding definitions_of headings_before
    means = mine.means

    pub record Meant (i j : ℕ) (y : Routine) : Type 0 where
      pub said : syntax.Heading
      pub heading : Heading
      pub known : slice_get mine.known i ≡ Some (RoutineMeaning heading)
      pub numbered : heading.number ≡ number j
      pub is_said : routine_heading y ≡ Some said
      pub is : IsHeading f (take i mine.known) said heading
      pub forward : heading.is_forward ≡ is_none (routine_block y)

    pub meant : (i j : ℕ) (y : Routine) → slice_get all i ≡ Some (OfRoutine j y) → Meant i j y
    meant i j y e =
        let l = slice_get_within all i (OfRoutine j y) e in
        let m = there_is mine.known i (omega (arith, l, many)) in
        let d = means i (OfRoutine j y) m.0 e m.1 in
        record {
          said = d.1;
          heading = d.0;
          known = m.1 ∙ ap (λ z. Some z) d.2;
          numbered = d.3;
          is_said = d.4;
          is = d.5;
          forward = d.6;
        }

    has_heading : (i k : ℕ) (x : Routine) → slice_get all i ≡ Some (OfRoutine k x) → (h : syntax.Heading)
        × (routine_heading x ≡ Some h)
    has_heading i k x e = let m = meant i k x e in (m.said, m.is_said)

    -- ---- the names

    pub first_points : points text D (introduced text []) ≡ map OfDeclaration D
    unfolding introduced_from
    first_points = append-nil (map OfDeclaration D)

    abbrev own_points : points_of.Points
    own_points = block_points (out-Block b).constants (out-Block b).types (out-Block b).variables

    first_names : names_of text (map OfDeclaration D) ≡ names_of text (map OfDeclaration mine.first) ++ map
        (spelled text) own_points
    first_names = names_both text mine.first (own_declarations b)
        ∙ ap (λ l. names_of text (map OfDeclaration mine.first) ++ map (spelled text) l) (own_named b)

    all_names : N ≡ names_of text (map OfDeclaration mine.first)
        ++ (map (spelled text) own_points ++ names_of text (map of_routine (introduced text rs)))
    all_names =
        points_names text D (introduced text rs)
        ∙ ap (λ l. l ++ names_of text (map of_routine (introduced text rs))) first_names
        ∙ append_assoc (names_of text (map OfDeclaration mine.first)) (map (spelled text) own_points)
        (names_of text (map of_routine (introduced text rs)))

    pub names_are : block_names text (layer c b) mine.start.names ≡ N
    unfolding block_names
    names_are =
        ap (λ l. add_routines text (add_points text l own_points) (map (routine c) rs)) mine.names
        ∙ ap (λ l. add_routines text l (map (routine c) rs))
        (points_added_apart text N (names_of text (map OfDeclaration mine.first))
        (names_of text (map of_routine (introduced text rs))) own_points apart all_names ∙ sym first_names
        ∙ ap (names_of text) (sym first_points))
        ∙ names_read c D rs apart mine.completed has_heading rs [] refl

    -- ---- the routines

    abbrev pub before_routines : List Routine → List Definition
    before_routines done = points text D (introduced text done)

    pub record State (done : List Routine) (r : Routines) (q : ℕ → Bool) : Type 0 where
      pub known : r.known ≡ take (length (before_routines done)) mine.known
      pub changed : r.changes ≡ changes_from changes 0 done
      pub domains : r.gathered.domains ≡ take ((mine.pointers + own_domains b) + sum (map routine_domains done))
          made.domains
      pub routines : r.gathered.routines ≡ shown made.routines q (mine.next + counted text [] (counts text done))
      pub are : Are c D rs apart mine.completed mine.next done vacant q
