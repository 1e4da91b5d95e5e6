-- Each block of an accepted program is read in the regions that enclose it in the tree, where names mean what their
-- points give.
use Rattle.std.proofs.Common.{◌≡◌, ℕ, ◌≤◌, true, List, [], ◌∷◌, length, map, Some, slice_get, slice_set, refl, sym, ap}
use Rattle.std.proofs.Common.{◌∙◌, subst, append-nil, arith}
use Rattle.ps_syntax.specs.declared.program.Block as syntax_block
use Rattle.ps_syntax.specs.declared.program.Block.{out-Block}
use Rattle.ps_syntax.specs.declared.program.Program as syntax
use Rattle.ps_tree.specs.Tree as Tree
use Rattle.ps_tree.specs.Counts.{is_within_limits}
use Rattle.ps_check_judgement.specs.declared.refusal.Rule.TheVariants.{Limit}
use Rattle.ps_check_judgement.specs.Judged.{Yes, some_or, steps, traverse}
use Rattle.ps_check_judgement.proofs.Binds.{then_yes, provided_yes}
use Rattle.ps_check_judgement.proofs.Impossible.{none_some}
use Rattle.ps_check_judgement.proofs.Items.{there_is, set_length}
use Rattle.ps_check_names.specs.Regions.{Region, Context}
use Rattle.ps_check_declarations.specs.Denoters.{Frame}
use Rattle.ps_check.specs.Readings.{Gathered, Start, Done}
use Rattle.ps_check.specs.Blocks.{own_number, block}
use Rattle.ps_check.specs.Programs.{Files, no_files, list_file, program, program_with, program_of, program_context}
use Rattle.ps_check.specs.Programs.{program_start, program_routine, assembled, nothing_gathered, required}
use Rattle.ps_check.specs.Changes.{assigns}
use Rattle.ps_check.specs.Paths.{block_at}
use Rattle.ps_check_laws.specs.Definitions.{Declarations, OfFile, names_of}
use Rattle.ps_check_laws.specs.Denoting.{first_declarations, first_entry_at, first_number, number_at, chain_at}
use Rattle.ps_check_laws.specs.Meanings.{program_block}
use Rattle.ps_check_laws.specs.Read.{of_program, BlocksAreReadThere, NamesMeanTheirPoints}
use Rattle.ps_check_laws.specs.Forward.{AreCompleted, ForwardHeadingsHaveBlocks}
use Rattle.ps_check_laws.proofs.Apart.{none_apart, files_apart}
use Rattle.ps_check_laws.proofs.Lists.{set_same, set_other}
use Rattle.ps_check_laws.proofs.Formals.{Listed, files_listed}
use Rattle.ps_check_laws.proofs.GatheredSoFar.{Ready}
use Rattle.ps_check_laws.specs.Counts.{first_domain_at}
use Rattle.ps_check_laws.specs.Rule.{of_program as begins_program, CheckedProgramsAreRead}
use Rattle.ps_check_laws.proofs.Blocks.{BlockHas, blocks_grow, block_told}
use Rattle.ps_check_laws.proofs.RoutineTrees.{traversed, traversed_length}
use Rattle.ps_check_laws.proofs.Paths.{There}
use Rattle.ps_check_laws.proofs.KeptRules.{read_there, all_there, all_reads}

nothing_listed : (f : Frame) (first : ℕ) (numbers : ℕ → ℕ) → Listed f first numbers [] no_files
unfolding names_of
nothing_listed f first numbers = record {
  names = refl;
  stands = record {
    many = refl;
    are = λ i d m e g. absurd (none_some e);
  };
}

-- the checked program has the routines that were gathered
finals : (at : ℕ) (d : Done) (made : Tree.Program) (n : ℕ) (x : Tree.Routine) → program_of at d ≡ Yes made → slice_get
    (slice_set d.gathered.routines 0 (Some (program_routine d))) n ≡ Some (Some x) → slice_get made.routines n ≡ Some x
unfolding program_of assembled
finals at d made n x e g =
    let set = slice_set d.gathered.routines 0 (Some (program_routine d)) in
    let rs = then_yes (traverse (some_or Limit at) set) _ made e in
    let is = provided_yes (is_within_limits (record {
      routines = rs.0;
      domains = d.gathered.domains;
    })) Limit at (record {
      routines = rs.0;
      domains = d.gathered.domains;
    }) made rs.2 in
    ap (λ (z : Tree.Program). slice_get z.routines n) (sym is.1) ∙ traversed at set rs.0 n x rs.1 g

domains_of : (at : ℕ) (d : Done) (made : Tree.Program) → program_of at d ≡ Yes made → made.domains ≡ d.gathered.domains
unfolding program_of assembled
domains_of at d made e =
    let rs = then_yes (traverse (some_or Limit at) (slice_set d.gathered.routines 0 (Some (program_routine d)))) _ made
    e in
    let is = provided_yes (is_within_limits (record {
      routines = rs.0;
      domains = d.gathered.domains;
    })) Limit at (record {
      routines = rs.0;
      domains = d.gathered.domains;
    }) made rs.2 in
    ap (λ (z : Tree.Program). z.domains) (sym is.1)

module _ (text : List ℕ) (p : syntax.Program) (files : Files) (made : Tree.Program) (d : Done)
    (listed : steps (list_file text) no_files p.parameters ≡ Yes files)
    (read : block (program_context text files) p.block (required ∷ []) (program_start files) nothing_gathered ≡ Yes d)
    (is : program_of p.name.from d ≡ Yes made) where
  others : (n : ℕ) (x : Tree.Routine) → 1 ≤ n → slice_get d.gathered.routines n ≡ Some (Some x)
      → slice_get made.routines n ≡ Some x
  others n x le e = finals p.name.from d made n x is
      (set_other d.gathered.routines n 0 (Some (program_routine d)) (λ q. omega (arith, le, q)) ∙ e)

  all_domains : made.domains ≡ d.gathered.domains
  all_domains = domains_of p.name.from d made is

  abbrev framed : ℕ → List (List ℕ) → Frame
  framed number names = record { text = text; routine = number; names = names; begun = []; outer = required ∷ [] }

  root_listed : (number : ℕ) (names : List (List ℕ)) (first : ℕ) (numbers : ℕ → ℕ) → Listed
      (framed number names) first numbers (map OfFile p.parameters) files
  root_listed number names first numbers = files_listed
      (framed number names) first numbers p.parameters [] no_files files listed
      (nothing_listed (framed number names) first numbers)

  root_ready : Ready text (required ∷ []) (program_start files) (map OfFile p.parameters)
  root_ready = record {
    apart = files_apart text p.parameters no_files files listed none_apart;
    names = (root_listed 0 [] 0 (λ k. k)).names;
    stands = λ number names first numbers. (root_listed number names first numbers).stands;
  }

  root_there : There text p files made d.gathered others all_domains [] p.block
  unfolding block_at first_declarations first_entry_at first_number number_at chain_at own_number assigns
      first_domain_at
  root_there =
      let told = block_told (program_context text files) p.block (required ∷ [])
      (program_start files) nothing_gathered d (map OfFile p.parameters) root_ready read in
      let long = told.grown.count in
      let slot = there_is d.gathered.routines 0 (omega (arith, long)) in
      record {
        regions = required ∷ [];
        start = program_start files;
        gathered = nothing_gathered;
        done = d;
        first = map OfFile p.parameters;
        base = 1;
        reading = read;
        there = refl;
        firsts = refl;
        entries = refl;
        numbers = refl;
        own = refl;
        chain = refl;
        ready = root_ready;
        count = refl;
        positive = omega arith;
        around = program_block;
        keeps = λ n x le e. e;
        routine = program_routine d;
        checked = finals p.name.from d made 0 (program_routine d) is
            (set_same d.gathered.routines 0 slot.0 (Some (program_routine d)) slot.1);
        is_body = refl;
        is_variables = refl;
        is_chain = refl;
        is_of_heading = of_program (required ∷ []) (program_routine d) refl refl;
        is_line = refl;
        begins = begins_program (required ∷ []) (program_routine d) refl refl;
        drawn = refl;
        domains = ([], sym (append-nil d.gathered.domains));
        levels = refl;
        deep = omega arith;
        assigned = refl;
      }

  all_read : BlocksAreReadThere text p made
  all_read = record {
    files = files;
    listed = listed;
    done = d;
    reading = read;
    is_made = is;
    each = λ v b e. read_there text p files made d.gathered others all_domains v b
        (all_there text p files made d.gathered others all_domains root_there v b e);
  }

-- a block of an accepted program, as it was read
pub record Accepted (text : List ℕ) (p : syntax.Program) (v : List ℕ) (b : syntax_block.Block) : Type 0 where
  pub context : Context
  pub same_text : context.text ≡ text
  pub regions : List Region
  pub start : Start
  pub gathered : Gathered
  pub done : Done
  pub first : Declarations
  pub has : BlockHas context b regions start gathered done first

pub accepted : (text : List ℕ) (p : syntax.Program) (made : Tree.Program) → program text p ≡ Yes made → (v : List ℕ)
    (b : syntax_block.Block) → block_at p.block v ≡ Some b → Accepted text p v b
unfolding program program_with
accepted text p made e v b there =
    let files = then_yes (steps (list_file text) no_files p.parameters) (program_with text p) made e in
    let whole = then_yes (block (program_context text files.0) p.block (required ∷ [])
    (program_start files.0) nothing_gathered) (program_of p.name.from) made files.2 in
    let final = others text p files.0 made whole.0 files.1 whole.1 whole.2 in
    let t = all_there text p files.0 made whole.0.gathered final
    (all_domains text p files.0 made whole.0 files.1 whole.1 whole.2)
    (root_there text p files.0 made whole.0 files.1 whole.1 whole.2) v b there in
    record {
      context = program_context text files.0;
      same_text = refl;
      regions = t.regions;
      start = t.start;
      gathered = t.gathered;
      done = t.done;
      first = t.first;
      has = block_told (program_context text files.0) b t.regions t.start t.gathered t.done t.first t.ready t.reading;
    }

pub forward_headings_have_blocks : ForwardHeadingsHaveBlocks
forward_headings_have_blocks text p made e v b there =
    let t = accepted text p made e v b there in
    subst (λ x. AreCompleted x (out-Block b).routines) t.same_text t.has.completed

pub names_mean_their_points : NamesMeanTheirPoints
unfolding program program_with
names_mean_their_points text p made e =
    let files = then_yes (steps (list_file text) no_files p.parameters) (program_with text p) made e in
    let whole = then_yes (block (program_context text files.0) p.block (required ∷ [])
    (program_start files.0) nothing_gathered) (program_of p.name.from) made files.2 in
    all_read text p files.0 made whole.0 files.1 whole.1 whole.2

made_length : (at : ℕ) (d : Done) (made : Tree.Program) → program_of at d ≡ Yes made
    → (length made.routines ≡ length d.gathered.routines) × (is_within_limits made ≡ true)
unfolding program_of assembled
made_length at d made e =
    let set = slice_set d.gathered.routines 0 (Some (program_routine d)) in
    let rs = then_yes (traverse (some_or Limit at) set) _ made e in
    let is = provided_yes (is_within_limits (record {
      routines = rs.0;
      domains = d.gathered.domains;
    })) Limit at (record {
      routines = rs.0;
      domains = d.gathered.domains;
    }) made rs.2 in (
      ap (λ (z : Tree.Program). length z.routines) (sym is.1) ∙ traversed_length at set rs.0 rs.1
          ∙ set_length d.gathered.routines 0 (Some (program_routine d)),
      ap is_within_limits (sym is.1) ∙ is.0,
    )

pub checked_programs_are_read : CheckedProgramsAreRead
unfolding program program_with root_there
checked_programs_are_read text p made e =
    let files = then_yes (steps (list_file text) no_files p.parameters) (program_with text p) made e in
    let whole = then_yes (block (program_context text files.0) p.block (required ∷ [])
    (program_start files.0) nothing_gathered) (program_of p.name.from) made files.2 in
    let final = others text p files.0 made whole.0 files.1 whole.1 whole.2 in
    let domains = all_domains text p files.0 made whole.0 files.1 whole.1 whole.2 in
    let grown = blocks_grow (program_context text files.0) p.block (required ∷ [])
    (program_start files.0) nothing_gathered whole.0 (map OfFile p.parameters)
    (root_ready text p files.0 made whole.0 files.1 whole.1 whole.2) whole.1 in
    let limits = made_length p.name.from whole.0 made whole.2 in
    let count = grown.count in
    let drawn = grown.drawn in
    let m = limits.0 in
    let n = ap length domains in
    record {
      files = files.0;
      listed = files.1;
      changes = whole.0.changes;
      block = all_reads text p files.0 made whole.0.gathered final domains p.block []
          (root_there text p files.0 made whole.0 files.1 whole.1 whole.2);
      routines = omega (arith, count, m);
      domains = omega (arith, drawn, n);
      limits = limits.1;
    }
