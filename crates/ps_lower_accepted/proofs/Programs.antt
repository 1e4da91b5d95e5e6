-- Whole programs: what is accepted is sound.
use Rattle.std.proofs.Common.{◌≡◌, ℕ, zero, suc, ◌<◌, ◌≤◌, Bool, true, false, not, if◌then◌else◌, List, [], ◌∷◌, ◌++◌}
use Rattle.std.proofs.Common.{length, Option, Some, None, slice_get, slice_set, codes, refl, sym, ap, ◌∙◌, subst}
use Rattle.std.proofs.Common.{arith, append-nil}
use Rattle.std.proofs.lemmas.Option.{slice_get_within, same_Some}
use Rattle.ps_text.specs.Lines.{line_count}
use Rattle.ps_text.specs.declared.Span.{Span}
use Rattle.ps_text.specs.declared.TheConstants.{MAX_LENGTH, MAX_LINES}
use Rattle.ps_scan.specs.Lexis.{IsTokens}
use Rattle.ps_scan.specs.Spans.{AreOrdered}
use Rattle.ps_scan.proofs.Places.{tokens_ordered}
use Rattle.ps_syntax.specs.declared.program.Block as syntax_block
use Rattle.ps_syntax.specs.declared.program.Program as syntax
use Rattle.ps_parse_grammar.specs.Symbols.{Tokens}
use Rattle.ps_parse_grammar.specs.Programs as p
use Rattle.ps_parse_grammar.specs.Programs.{block_within, DerivesWithin}
use Rattle.ps_parse_grammar.specs.Forward.{is_forward}
use Rattle.ps_parse_grammar.specs.Trees.{IsTreeOf}
use Rattle.ps_tree.specs.Counts.{is_within_limits}
use Rattle.ps_tree.specs.Tree as Tree
use Rattle.ps_tree.specs.Tree.{Program, routine_at}
use Rattle.ps_lower_layout.specs.Frames.{variable_kinds, entries}
use Rattle.ps_lower_code.specs.Fits.{StatementsFit}
use Rattle.ps_lower_accepted.proofs.Sound.{RoutineSound}
use Rattle.ps_lower_relation.specs.Here.{AreSmall}
use Rattle.ps_lower_calls.specs.Begin.{IsOutermost}
use Rattle.ps_lower_calls.specs.Binding.{FirstsFit}
use Rattle.ps_lower_laws.specs.Fits.{ProgramFits}
use Rattle.ps_check_names.specs.declared.meaning.File.TheVariants.{Input, Output}
use Rattle.ps_check_judgement.specs.declared.refusal.Rule.TheVariants.{NotInProfile, Twice, Limit}
use Rattle.ps_check_judgement.specs.Judged.{Judged, Yes, No, provided, some_or, steps, traverse}
use Rattle.ps_check_judgement.proofs.Binds.{then_yes, provided_yes, some_or_yes, no_yes, inside_yes}
use Rattle.ps_check_judgement.proofs.Impossible.{none_some}
use Rattle.ps_check_judgement.proofs.Items.{there_is}
use Rattle.ps_check_names.specs.Spelling.{spelled, same, has}
use Rattle.ps_check_names.specs.Regions.{Meaning, FileMeaning}
use Rattle.ps_check_names.specs.Constants.{integer, char, boolean}
use Rattle.ps_check.specs.Readings.{Gathered, Done}
use Rattle.ps_check.specs.Blocks.{block}
use Rattle.ps_check.specs.Programs.{Files, no_files, file_named, list_file, required, required_names, required_types}
use Rattle.ps_check.specs.Programs.{required_routines, left_out, program_start, nothing_gathered, program_routine}
use Rattle.ps_check.specs.Programs.{program_context, assembled, program_of, program_with, program}
use Rattle.ps_check.proofs.EachItem.{each_append}
use Rattle.ps_lower_accepted.proofs.Lists.{Each, each_map}
use Rattle.ps_lower_accepted.proofs.Tables.{Table, extends_self, EndsBefore, OrdinalKnown, TypeKnown}
use Rattle.ps_lower_accepted.proofs.Standing.{MeaningKnown, RegionsKnown, MeaningStands, BlocksStand}
use Rattle.ps_lower_accepted.proofs.Declared.{declarations_tell}
use Rattle.ps_lower_accepted.proofs.Places.{behind, past, same_place, Later, names_go}
use Rattle.ps_lower_accepted.proofs.Entries.{all_own}
use Rattle.ps_lower_accepted.proofs.Gathering.{set_same, set_other, or_there, IsMade, IsVacant}
use Rattle.ps_lower_accepted.proofs.Gathering.{not_both, Final, AllFit, variables_fit}
use Rattle.ps_lower_accepted.proofs.BlockMeanings.{IsPlain, OwnStand, Ready, BlockTold, either}
use Rattle.ps_lower_accepted.proofs.Levels.{blocks_tell}

-- ---- the required names

integer_known : (D : Table) → OrdinalKnown D integer
integer_known D = record { low = refl; high = refl; rises = refl; host = tt; subrange = refl }

char_known : (D : Table) → OrdinalKnown D char
char_known D = record { low = refl; high = refl; rises = refl; host = tt; subrange = refl }

boolean_known : (D : Table) → OrdinalKnown D boolean
boolean_known D = record { low = refl; high = refl; rises = refl; host = tt; subrange = refl }

required_known : (D : Table) (b : ℕ) → RegionsKnown D b (required ∷ [])
unfolding required required_names required_types required_routines left_out
required_known D b = (
  (
    integer_known D,
    (
      char_known D,
      (
        boolean_known D,
        (
          (integer_known D, refl),
          (
            (boolean_known D, refl),
            (
              (boolean_known D, refl),
              (
                tt,
                (
                  tt,
                  (
                    tt,
                    (
                      tt,
                      (
                        tt,
                        (
                          tt,
                          (
                            tt,
                            (
                              tt,
                              (
                                tt,
                                (
                                  tt,
                                  (
                                    tt,
                                    (
                                      tt,
                                      (
                                        tt,
                                        (
                                          tt,
                                          (
                                            tt,
                                            (
                                              tt,
                                              (
                                                tt,
                                                (
                                                  tt,
                                                  (
                                                    tt,
                                                    (
                                                      tt,
                                                      (
                                                        tt,
                                                        (
                                                          tt,
                                                          (
                                                            tt,
                                                            (
                                                              tt,
                                                              (
                                                                tt,
                                                                (tt, (tt, (tt, (tt, (tt, (tt, (tt, tt))))))),
                                                              ),
                                                            ),
                                                          ),
                                                        ),
                                                      ),
                                                    ),
                                                  ),
                                                ),
                                              ),
                                            ),
                                          ),
                                        ),
                                      ),
                                    ),
                                  ),
                                ),
                              ),
                            ),
                          ),
                        ),
                      ),
                    ),
                  ),
                ),
              ),
            ),
          ),
        ),
      ),
    ),
  ),
  tt,
)

required_stand : (P : Program) (D : Table) → BlocksStand P D (required ∷ []) []
unfolding required required_names required_types required_routines left_out
required_stand P D = (
  (required_known D (length P.domains)).0,
  (
    tt,
    (
      tt,
      (
        tt,
        (
          tt,
          (
            tt,
            (
              tt,
              (
                tt,
                (
                  tt,
                  (
                    tt,
                    (
                      tt,
                      (
                        tt,
                        (
                          tt,
                          (
                            tt,
                            (
                              tt,
                              (
                                tt,
                                (
                                  tt,
                                  (
                                    tt,
                                    (
                                      tt,
                                      (
                                        tt,
                                        (
                                          tt,
                                          (
                                            tt,
                                            (
                                              tt,
                                              (
                                                tt,
                                                (
                                                  tt,
                                                  (
                                                    tt,
                                                    (
                                                      tt,
                                                      (
                                                        tt,
                                                        (
                                                          tt,
                                                          (
                                                            tt,
                                                            (
                                                              tt,
                                                              (
                                                                tt,
                                                                (
                                                                  tt,
                                                                  (
                                                                    tt,
                                                                    (
                                                                      tt,
                                                                      (tt, (tt, (tt, (tt, tt)))),
                                                                    ),
                                                                  ),
                                                                ),
                                                              ),
                                                            ),
                                                          ),
                                                        ),
                                                      ),
                                                    ),
                                                  ),
                                                ),
                                              ),
                                            ),
                                          ),
                                        ),
                                      ),
                                    ),
                                  ),
                                ),
                              ),
                            ),
                          ),
                        ),
                      ),
                    ),
                  ),
                ),
              ),
            ),
          ),
        ),
      ),
    ),
  ),
  tt,
)

-- ---- the files of the heading

abbrev IsFile : Meaning → Type 0
IsFile (FileMeaning file) = Unit {0}
IsFile m = ⊥

file_is : (at : ℕ) (s : List ℕ) (m : Meaning) → file_named at s ≡ Yes m → IsFile m
file_is at s m e = go (same s (codes "input")) (same s (codes "output")) e
  where
    go : (a b : Bool) → (if a then Yes (FileMeaning Input)
        else (if b then Yes (FileMeaning Output) else No NotInProfile at)) ≡ Yes m → IsFile m
    go true b q = subst IsFile (inside_yes (FileMeaning Input) m q) tt
    go false true q = subst IsFile (inside_yes (FileMeaning Output) m q) tt
    go false false q = absurd (no_yes q)

one_listed : (text : List ℕ) (files others : Files) (at : Span) → Each IsFile files.known → list_file text files at
    ≡ Yes others → Each IsFile others.known
unfolding list_file
one_listed text files others at k e =
    let m = then_yes (file_named at.from (spelled text at)) _ others e in
    let names = then_yes (provided (not (has files.names (spelled text at))) Twice at.from
    (files.names ++ spelled text at ∷ [])) _ others m.2 in
    subst (λ (q : Files). Each IsFile q.known) (inside_yes (record {
      names = names.0;
      known = files.known ++ m.0 ∷ [];
    }) others names.2) (each_append IsFile files.known (m.0 ∷ []) k (file_is at.from (spelled text at) m.0 m.1, tt))

files_told : (text : List ℕ) (xs : List Span) (files others : Files) → Each IsFile files.known → steps
    (list_file text) files xs ≡ Yes others → Each IsFile others.known
files_told text [] files others k e = subst (λ (q : Files). Each IsFile q.known) (inside_yes files others e) k
files_told text (x ∷ xs) files others k e =
    let t = then_yes (list_file text files x) (λ q. steps (list_file text) q xs) others e in
    files_told text xs t.0 others (one_listed text files t.0 x k t.1) t.2

file_known : (D : Table) (b : ℕ) (m : Meaning) → IsFile m → MeaningKnown D b m
file_known D b (FileMeaning file) k = tt
file_known D b m k = absurd k

file_plain : (m : Meaning) → IsFile m → IsPlain m
file_plain (FileMeaning file) k = tt
file_plain m k = absurd k

file_stands : (P : Program) (chain : List ℕ) (m : Meaning) → IsFile m → MeaningStands P chain m
file_stands P chain (FileMeaning file) k = tt
file_stands P chain m k = absurd k

-- ---- the routines of the program are those that were made

module _ (at : ℕ) where
  abbrev all_made : List (Option Tree.Routine) → Judged (List Tree.Routine)
  all_made xs = traverse (some_or Limit at) xs

  made_at : (xs : List (Option Tree.Routine)) (ys : List Tree.Routine) (i : ℕ) (x : Tree.Routine) → all_made xs ≡ Yes ys
      → slice_get xs i ≡ Some (Some x) → slice_get ys i ≡ Some x
  made_at [] ys i x e q = absurd (none_some q)
  made_at (o ∷ xs) ys zero x e q =
      let y = then_yes (some_or Limit at o) _ ys e in
      let zs = then_yes (all_made xs) _ ys y.2 in
      subst (λ l. slice_get l 0 ≡ Some x) (inside_yes (y.0 ∷ zs.0) ys zs.2)
      (sym (some_or_yes Limit at o y.0 y.1) ∙ same_Some o (Some x) q)
  made_at (o ∷ xs) ys (suc i) x e q =
      let y = then_yes (some_or Limit at o) _ ys e in
      let zs = then_yes (all_made xs) _ ys y.2 in
      subst (λ l. slice_get l (suc i) ≡ Some x) (inside_yes (y.0 ∷ zs.0) ys zs.2) (made_at xs zs.0 i x zs.1 q)

  at_made : (xs : List (Option Tree.Routine)) (ys : List Tree.Routine) (i : ℕ) (x : Tree.Routine) → all_made xs ≡ Yes ys
      → slice_get ys i ≡ Some x → slice_get xs i ≡ Some (Some x)
  at_made [] ys i x e q = absurd (none_some (ap (λ l. slice_get l i) (inside_yes [] ys e) ∙ q))
  at_made (o ∷ xs) ys zero x e q =
      let y = then_yes (some_or Limit at o) _ ys e in
      let zs = then_yes (all_made xs) _ ys y.2 in
      ap Some (some_or_yes Limit at o y.0 y.1 ∙ ap (λ l. slice_get l 0) (inside_yes (y.0 ∷ zs.0) ys zs.2) ∙ q)
  at_made (o ∷ xs) ys (suc i) x e q =
      let y = then_yes (some_or Limit at o) _ ys e in
      let zs = then_yes (all_made xs) _ ys y.2 in
      at_made xs zs.0 i x zs.1 (ap (λ l. slice_get l (suc i)) (inside_yes (y.0 ∷ zs.0) ys zs.2) ∙ q)

  -- the whole of what was gathered
  record IsAssembled (g : Gathered) (P : Program) : Type 0 where
    limits : is_within_limits P ≡ true
    domains : g.domains ≡ P.domains
    routines : all_made g.routines ≡ Yes P.routines

  assembled_is : (g : Gathered) (P : Program) → assembled at g ≡ Yes P → IsAssembled g P
  unfolding assembled
  assembled_is g P e =
      let rs = then_yes (all_made g.routines) _ P e in
      let made : Program = record { routines = rs.0; domains = g.domains } in
      let whole = provided_yes (is_within_limits made) Limit at made P rs.2 in
      record {
        limits = ap is_within_limits (sym whole.1) ∙ whole.0;
        domains = ap (λ (q : Program). q.domains) whole.1;
        routines = rs.1 ∙ ap (λ (q : Program). Yes q.routines) whole.1;
      }

-- ---- the program

-- all that is known of it
pub record ProgramSound (P : Program) : Type 0 where
  pub limits : is_within_limits P ≡ true
  pub fits : ProgramFits P
  pub routines : (i : ℕ) → i < length P.routines → RoutineSound P (routine_at P i)
  pub domains : FirstsFit P.domains

module _ (small : (P : Program) → is_within_limits P ≡ true → AreSmall P) where
  module _ (known : List Meaning) (files : Each IsFile known) (D : Table) (low high : ℕ) (r : Tokens) (done : Done)
      (told : BlockTold 0 [] (required ∷ []) known 0 D low high r nothing_gathered done) (P : Program)
      (place : ℕ) (assembled : IsAssembled place (record {
        domains = done.gathered.domains;
        routines = slice_set done.gathered.routines 0 (Some (program_routine done));
      }) P) where
    vacant : IsVacant done.gathered 0
    vacant = told.kept 0 (omega arith)

    made_there : (i : ℕ) (x : Tree.Routine) → IsMade done.gathered i x → slice_get P.routines i ≡ Some x
    made_there i x m = made_at place (slice_set done.gathered.routines 0 (Some (program_routine done))) P.routines i x
        assembled.routines
        (set_other done.gathered.routines i 0 (Some (program_routine done))
        (λ e. not_both done.gathered 0 x vacant (subst (λ n. IsMade done.gathered n x) e m)) ∙ m)

    final : Final P told.table told.table done.gathered
    final = record {
      extends = extends_self told.table;
      more = [];
      domains = sym assembled.domains ∙ sym (append-nil done.gathered.domains);
      made = made_there;
    }

    first_there : slice_get P.routines 0 ≡ Some (program_routine done)
    first_there = made_at place (slice_set done.gathered.routines 0 (Some (program_routine done))) P.routines 0
        (program_routine done) assembled.routines
        (set_same done.gathered.routines 0 None (Some (program_routine done)) vacant)

    first_is : routine_at P 0 ≡ program_routine done
    first_is = or_there P.routines 0 (program_routine done) first_there

    entries_there : entries (routine_at P 0) ≡ variable_kinds done.variables
    entries_there = ap entries first_is

    own_stand : OwnStand P (0 ∷ []) 0 known done.variables
    own_stand = record {
      begun = each_map IsFile (MeaningStands P (0 ∷ [])) (file_stands P (0 ∷ [])) known files;
      own = λ ms k. all_own P 0 [] [] done.variables entries_there ms k;
    }

    all_fit : AllFit P 1 done.gathered × StatementsFit (record {
      program = P;
      chain = 0 ∷ [];
      opened = [];
    }) [] done.body
    all_fit = told.fits P told.table final (subst
        (λ l. Each (TypeKnown told.table (length l)) l) assembled.domains told.domains)
        (required_stand P told.table) own_stand

    block_fits : RoutineSound P (program_routine done)
    block_fits = record {
      fits = record {
        result = tt;
        variables = variables_fit told.table (length done.gathered.domains) done.variables told.variables;
        body = all_fit.1;
      };
      line = told.line;
    }

    routines_sound : (i : ℕ) → i < length P.routines → RoutineSound P (routine_at P i)
    routines_sound i l =
        let there = there_is P.routines i l in
        let x = there.0 in
        let made = at_made place (slice_set done.gathered.routines 0 (Some (program_routine done))) P.routines i x
        assembled.routines there.1 in
        subst (RoutineSound P) (sym (or_there P.routines i x there.1)) (either i 0 (RoutineSound P x)
        (λ e. subst (RoutineSound P) (same_Some (program_routine done) x
        (sym first_there ∙ ap (slice_get P.routines) (sym e) ∙ there.1)) block_fits)
        (λ apart. all_fit.0 i x (omega (arith, apart))
        (sym (set_other done.gathered.routines i 0 (Some (program_routine done)) apart) ∙ made)))

    outermost_is : IsOutermost (program_routine done)
    outermost_is = record { block = refl; formals = refl; result = refl }

    whole_fits : ProgramFits P
    whole_fits = record {
      small = small P assembled.limits;
      begins = slice_get_within P.routines 0 (program_routine done) first_there;
      chain = ap (λ (q : Tree.Routine). q.chain) first_is;
      outermost = subst IsOutermost (sym first_is) outermost_is;
      routines = λ i l. let sound = routines_sound i l in sound.fits;
    }

    whole_sound : ProgramSound P
    whole_sound = record {
      limits = assembled.limits;
      fits = whole_fits;
      routines = routines_sound;
      domains = variables_fit told.table (length done.gathered.domains) P.domains
          (subst (Each (TypeKnown told.table (length done.gathered.domains))) assembled.domains told.domains);
    }

  abbrev nothing_known : Table
  nothing_known = record { structures = λ at. None; subranges = λ at. None; enumerations = λ at. None }

  nothing_ends : (low : ℕ) → EndsBefore low nothing_known
  nothing_ends low = record { structures = λ at l. refl; subranges = λ at l. refl; enumerations = λ at l. refl }

  module _ (text : List ℕ) (bytes : Each (λ b. b < 256) text) (short : length text ≤ MAX_LENGTH)
      (lines : line_count text ≤ MAX_LINES) (P : Program) where
    read_sound : (name : Span) (xs : List Span) (b : syntax_block.Block) (n low high : ℕ) (ts r : Tokens) → block_within
        (is_forward text) n b ts r → AreOrdered low high ts → program text (record {
          name = name;
          parameters = xs;
          block = b;
        }) ≡ Yes P → ProgramSound P
    unfolding program program_with program_of
    read_sound name xs b n low high ts r derived ordered e =
        let files = then_yes (steps (list_file text) no_files xs) _ P e in
        let listed = files_told text xs no_files files.0 tt files.1 in
        let done = then_yes (block (program_context text files.0) b (required ∷ [])
        (program_start files.0) nothing_gathered) _ P files.2 in
        let ready : Ready nothing_known (required ∷ []) files.0.known nothing_gathered = record {
          regions = required_known nothing_known 0;
          known_there = each_map IsFile (MeaningKnown nothing_known 0)
              (file_known nothing_known 0) files.0.known listed;
          plain = each_map IsFile IsPlain file_plain files.0.known listed;
          domains = tt;
        } in
        let told = blocks_tell declarations_tell (program_context text files.0) bytes short lines
        (is_forward text) n 0 [] refl (required ∷ []) files.0.names files.0.known 0 nothing_gathered nothing_known
        low high b ts r derived ready ordered (nothing_ends low) done.0 done.1 in
        whole_sound files.0.known listed nothing_known low high r done.0 told P name.from
        (assembled_is name.from _ P done.2)

    derived_sound : (n : ℕ) (tree : syntax.Program) (ts : Tokens) (high : ℕ) → DerivesWithin (is_forward text) n ts tree
        → AreOrdered 0 high ts → program text tree ≡ Yes P → ProgramSound P
    derived_sound n tree ts high (p.plain {at = name} {b = b} {ts = us} d) ordered e =
        let later : Later ts us = behind _ _ us (behind _ _ us (behind _ us us (same_place us))) in
        let at = later.on 0 high ordered in
        read_sound name [] b n at.0 high us _ d at.2 e
    derived_sound n tree ts high (p.listed {at = name} {xs = xs} {b = b} {ts = us} {m = m} names d) ordered e =
        let later : Later ts m = behind _ _ m (behind _ _ m
        (behind _ us m (past _ us _ m (names_go xs us _ names) (behind _ m m (same_place m))))) in
        let at = later.on 0 high ordered in
        read_sound name xs b n at.0 high m _ d at.2 e

    pub accepted_sound : (tokens : Tokens) (tree : syntax.Program) → IsTokens text tokens → IsTreeOf text tokens tree
        → program text tree ≡ Yes P → ProgramSound P
    accepted_sound tokens tree scanned derived e = derived_sound 500 tree tokens
        (length text) derived.derives (tokens_ordered text tokens scanned) e
