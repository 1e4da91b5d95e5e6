-- After the block of a routine: the routine and those within it fit in the program that is made at the end.
use Rattle.std.proofs.Common.{◌≡◌, ℕ, ◌<◌, ◌≤◌, List, [], ◌∷◌, ◌++◌, length, Some, None, slice_get, slice_set, refl}
use Rattle.std.proofs.Common.{sym, ap, ◌∙◌, subst, arith, append-nil}
use Rattle.std.proofs.lemmas.Option.{same_Some}
use Rattle.ps_scan.specs.Spans.{AreOrdered}
use Rattle.ps_parse_grammar.specs.Symbols.{Tokens}
use Rattle.ps_tree.specs.Tree as Tree
use Rattle.ps_tree.specs.Tree.{Program, routine_at}
use Rattle.ps_lower_layout.specs.Frames.{variable_kinds, entries}
use Rattle.ps_lower_code.specs.Fits.{StatementsFit}
use Rattle.ps_lower_accepted.proofs.Sound.{RoutineSound}
use Rattle.ps_check_judgement.specs.declared.change.Change.{Change}
use Rattle.ps_check_judgement.proofs.Impossible.{none_some}
use Rattle.ps_check_judgement.proofs.Items.{set_length}
use Rattle.ps_check_names.specs.Regions.{BlockRegion, Meaning, RoutineMeaning, Heading}
use Rattle.ps_check_declarations.specs.Denoters.{Frame}
use Rattle.ps_check.specs.Readings.{Gathered, Done, Routines}
use Rattle.ps_check.specs.Blocks.{routine_tree}
use Rattle.ps_lower_accepted.proofs.Lists.{Each, each_map}
use Rattle.ps_lower_accepted.proofs.Tables.{Table, Extends, extends_self, EndsBefore}
use Rattle.ps_lower_accepted.proofs.Standing.{ResultKnown, SectionsKnown, MeaningStands, BlocksStand}
use Rattle.ps_lower_accepted.proofs.Aims.{IsOwn}
use Rattle.ps_lower_accepted.proofs.Headings.{result_more, meanings_more, types_all_more, regions_more}
use Rattle.ps_lower_accepted.proofs.Entries.{IsAmong, first_kinds, all_among, all_own, entries_are}
use Rattle.ps_lower_accepted.proofs.Gathering.{set_same, set_other, or_there, IsMade, IsVacant, not_both}
use Rattle.ps_lower_accepted.proofs.Gathering.{one_made, Grows, grows_both, more_domains, Final, final_before}
use Rattle.ps_lower_accepted.proofs.Gathering.{all_domains, AllFit, IsRoutineOf, result_fits, variables_fit}
use Rattle.ps_lower_accepted.proofs.BlockMeanings.{BlockTold, IsNumbered, OwnStand, Targets, below_or, either}
use Rattle.ps_lower_accepted.proofs.BlockMeanings.{numbered_more}
use Rattle.ps_lower_accepted.proofs.Introduced.{Reading}

module _ (own : ℕ) (rest : List ℕ) (f : Frame) (base : ℕ) (begun : List Meaning) where
  -- ---- after a routine
  pub record Step (r s : Routines) (D : Table) (low high : ℕ) (ts : Tokens) : Type 0 where
    pub table : Table
    pub next : ℕ
    pub later : low ≤ next
    pub ordered : AreOrdered next high ts
    pub extends : Extends D table
    pub ends : EndsBefore next table
    pub reading : Reading own rest f base begun s table
    pub grows : Grows r.gathered s.gathered
    pub kept : (n : ℕ) → n < base → slice_get s.gathered.routines n ≡ slice_get r.gathered.routines n

  abbrev pub closed : Heading → Done → Gathered
  closed h done = record {
    domains = done.gathered.domains;
    routines = slice_set done.gathered.routines h.number (Some (routine_tree (h.number ∷ own ∷ rest) h done));
  }

  module _ (routine_own : f.routine ≡ own) (s : Routines) (D : Table) (reading : Reading own rest f base begun s D)
      (low high : ℕ) (r : Tokens) (h : Heading) (known_first : List Meaning) (first : ℕ) (done : Done)
      (number : IsNumbered reading.headings base (length s.gathered.routines) (RoutineMeaning h))
      (heading_known : SectionsKnown D (length s.gathered.domains) h.sections × ResultKnown D
      (length s.gathered.domains) h.result)
      (vacant : IsVacant s.gathered h.number) (first_is : first ≡ length (first_kinds h))
      (among : Each (IsAmong (first_kinds h)) known_first)
      (told : BlockTold h.number (own ∷ rest)
      (BlockRegion f.routine f.names s.known ∷ f.outer) known_first first D low high r s.gathered done) where
    abbrev tree : Tree.Routine
    tree = routine_tree (h.number ∷ own ∷ rest) h done

    vacant_there : IsVacant done.gathered h.number
    vacant_there = told.kept h.number number.2 ∙ vacant

    made_there : IsMade (closed h done) h.number tree
    made_there = set_same done.gathered.routines h.number None (Some tree) vacant_there

    made_other : (i : ℕ) (x : Tree.Routine) → (i ≡ h.number → ⊥) → IsMade (closed h done) i x → IsMade done.gathered i x
    made_other i x apart m = sym (set_other done.gathered.routines i h.number (Some tree) apart) ∙ m

    made_before : (i : ℕ) (x : Tree.Routine) → i < length s.gathered.routines → IsMade done.gathered i x
        → IsMade s.gathered i x
    made_before i x l m = sym (told.kept i l) ∙ m

    closing_grows : Grows done.gathered (closed h done)
    closing_grows = record {
      more = [];
      domains = sym (append-nil done.gathered.domains);
      made = λ i x m. set_other done.gathered.routines i h.number (Some tree)
          (λ e. not_both done.gathered h.number x vacant_there (subst (λ n. IsMade done.gathered n x) e m)) ∙ m;
    }

    all_grow : Grows s.gathered (closed h done)
    all_grow = grows_both s.gathered done.gathered (closed h done) told.grows closing_grows

    count_grows : length s.gathered.routines ≤ length (closed h done).routines
    count_grows = let l = set_length done.gathered.routines h.number (Some tree) in let k = told.count in omega
        (arith, l, k)

    tree_of : IsRoutineOf (own ∷ rest) h tree
    unfolding routine_tree
    tree_of = record { chain_is = refl; formals = refl; result = refl }

    closed_made : (i : ℕ) (g : Heading) (x : Tree.Routine) → reading.headings i ≡ Some g → IsMade (closed h done) i x
        → IsRoutineOf (own ∷ rest) g x
    closed_made i g x e m = either i h.number (IsRoutineOf (own ∷ rest) g x) here other
      where
        here : i ≡ h.number → IsRoutineOf (own ∷ rest) g x
        here q =
            let is : h ≡ g = same_Some h g (sym number.0 ∙ ap reading.headings (sym q) ∙ e) in
            let it : tree ≡ x = one_made (closed h done) h.number tree x made_there
            (subst (λ n. IsMade (closed h done) n x) q m) in
            subst (λ y. IsRoutineOf (own ∷ rest) y x) is (subst (IsRoutineOf (own ∷ rest) h) it tree_of)

        other : (i ≡ h.number → ⊥) → IsRoutineOf (own ∷ rest) g x
        other q = below_or i (length s.gathered.routines) (IsRoutineOf (own ∷ rest) g x)
            (λ l. reading.made i g x e (made_before i x l (made_other i x q m)))
            (λ l. absurd (none_some (sym (reading.fresh i l) ∙ e)))

    -- in the program
    module _ (P : Program) (F : Table) (final : Final P F told.table (closed h done)) (targets : Targets P F)
        (stand : Each (MeaningStands P (own ∷ rest)) s.known) (blocks : BlocksStand P F f.outer rest) where
      before : Final P F D s.gathered
      before = final_before P F D told.table s.gathered (closed h done) told.extends all_grow final

      within : Final P F told.table done.gathered
      within = final_before P F told.table told.table done.gathered (closed h done)
          (extends_self told.table) closing_grows final

      tree_there : routine_at P h.number ≡ tree
      tree_there = or_there P.routines h.number tree (final.made h.number tree made_there)

      entries_there : entries (routine_at P h.number) ≡ first_kinds h ++ variable_kinds done.variables
      unfolding routine_tree
      entries_there = ap entries tree_there ∙ entries_are h tree refl refl

      own_stand : OwnStand P (h.number ∷ own ∷ rest) first known_first done.variables
      own_stand = record {
        begun = all_among P h.number (own ∷ rest) (first_kinds h) done.variables entries_there known_first among;
        own = λ ms k. all_own P h.number (own ∷ rest) (first_kinds h) done.variables entries_there ms
            (subst (λ n. Each (IsOwn n done.variables) ms) first_is k);
      }

      inner_fits : AllFit P (length s.gathered.routines) done.gathered × StatementsFit (record {
        program = P;
        chain = h.number ∷ own ∷ rest;
        opened = [];
      }) [] done.body
      inner_fits = told.fits P F within targets (
        routine_own,
        meanings_more D F before.extends (length s.gathered.domains) (length P.domains)
            (all_domains P F D s.gathered before) s.known reading.known,
        stand,
        blocks,
      ) own_stand

      tree_fits : RoutineSound P tree
      unfolding routine_tree
      tree_fits = record {
        fits = record {
          result = result_fits F (length P.domains) h.result
              (result_more D F before.extends (length s.gathered.domains) (length P.domains)
              (all_domains P F D s.gathered before) h.result heading_known.1);
          variables = variables_fit F (length P.domains) done.variables
              (types_all_more told.table F within.extends (length done.gathered.domains) (length P.domains)
              (all_domains P F told.table done.gathered within) done.variables told.variables);
          body = inner_fits.1;
        };
        line = told.line;
      }

      closed_fits : AllFit P base (closed h done)
      closed_fits i x le m = either i h.number (RoutineSound P x) here other
        where
          here : i ≡ h.number → RoutineSound P x
          here q = subst (RoutineSound P) (one_made (closed h done) h.number tree x made_there
              (subst (λ n. IsMade (closed h done) n x) q m)) tree_fits

          other : (i ≡ h.number → ⊥) → RoutineSound P x
          other q = below_or i (length s.gathered.routines) (RoutineSound P x)
              (λ l. reading.fits P F before targets stand blocks i x le (made_before i x l (made_other i x q m)))
              (λ l. inner_fits.0 i x l (made_other i x q m))

    closed_reading : (cs : List Change) → Reading own rest f base begun (record {
      known = s.known;
      changes = cs;
      gathered = closed h done;
    }) told.table
    closed_reading cs =
        let le = more_domains s.gathered done.gathered told.grows in
        record {
          outer = regions_more D told.table told.extends (length s.gathered.domains)
              (length done.gathered.domains) le f.outer reading.outer;
          known = meanings_more D told.table told.extends (length s.gathered.domains)
              (length done.gathered.domains) le s.known reading.known;
          domains = told.domains;
          count = let a = reading.count in let b = count_grows in omega (arith, a, b);
          headings = reading.headings;
          numbered = each_map (IsNumbered reading.headings base (length s.gathered.routines))
              (IsNumbered reading.headings base (length (closed h done).routines))
              (numbered_more reading.headings base (length s.gathered.routines)
              (length (closed h done).routines) count_grows) s.known reading.numbered;
          fresh = λ i l. reading.fresh i (let b = count_grows in omega (arith, l, b));
          made = closed_made;
          stands = reading.stands;
          fits = closed_fits;
        }

    pub block_closed : (cs : List Change) → Step s (record {
      known = s.known;
      changes = cs;
      gathered = closed h done;
    }) D low high r
    block_closed cs = record {
      table = told.table;
      next = told.next;
      later = told.later;
      ordered = told.ordered;
      extends = told.extends;
      ends = told.ends;
      reading = closed_reading cs;
      grows = all_grow;
      kept = λ n l. set_other done.gathered.routines n h.number (Some tree)
          (λ e. let a = number.1 in omega (arith, l, a, e)) ∙ told.kept n
          (let a = reading.count in omega (arith, l, a));
    }
