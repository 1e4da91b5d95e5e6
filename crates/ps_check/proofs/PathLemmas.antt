-- Each block of an accepted program is read in the regions that enclose it in the whole tree.
use Rattle.std.proofs.Common.{◌≡◌, ℕ, zero, suc, ◌+◌, Bool, true, false, List, [], ◌∷◌, ◌++◌, length, map, nat_lt}
use Rattle.std.proofs.Common.{Option, Some, None, is_none, slice_get, option_map, refl, sym, ap, ◌∙◌, subst}
use Rattle.std.proofs.Common.{length-append, arith}
use Rattle.std.specs.Prelude.{option_and_then, not, if◌then◌else◌, codes}
use Rattle.std.proofs.lemmas.Option.{slice_get-map}
use Rattle.ps_text.specs.declared.Span.{Span}
use Rattle.ps_syntax.specs.declared.program.Heading as syntax_heading
use Rattle.ps_syntax.specs.declared.program.Block.{Block, out-Block}
use Rattle.ps_syntax.specs.declared.program.Routine.{Routine, out-Routine, roll-Routine, roll-out-Routine}
use Rattle.ps_syntax.specs.declared.program.Routine.TheVariants as v
use Rattle.ps_syntax.specs.declared.program.Routine.TheOpen.{Routine-F}
use Rattle.ps_tree.specs.declared.limits.TheConstants.{MAX_ROUTINES}
use Rattle.ps_check_judgement.specs.declared.refusal.Rule.TheVariants.{NotInProfile, Twice, Limit}
use Rattle.ps_check_judgement.specs.Judged.{Yes, No, provided, steps}
use Rattle.ps_check_judgement.proofs.Binds.{no_yes, inside_yes, then_yes, provided_yes}
use Rattle.ps_check_judgement.proofs.Impossible.{none_some}
use Rattle.ps_check_names.specs.declared.meaning.File.TheVariants.{Input, Output}
use Rattle.ps_check_names.specs.Spelling.{spelled, same, has, place}
use Rattle.ps_check_names.specs.Regions.{Region, BlockRegion, Meaning, ConstantMeaning, TextMeaning, TypeMeaning}
use Rattle.ps_check_names.specs.Regions.{VariableMeaning, ParameterMeaning, RoutineParameterMeaning, RoutineMeaning}
use Rattle.ps_check_names.specs.Regions.{FileMeaning, RequiredMeaning, LeftOutMeaning, Heading, Context}
use Rattle.ps_check_declarations.specs.Points.{all, block_points}
use Rattle.ps_check_declarations.specs.Denoters.{Frame}
use Rattle.ps_check_declarations.specs.Headings.{heading, section_points, section_list}
use Rattle.ps_check.specs.Readings.{Start, Gathered, Done, Routines, RoutineReading, BlockReading, heading_name}
use Rattle.ps_check.specs.Readings.{heading_list}
use Rattle.ps_check.specs.Forwards.{is_waiting}
use Rattle.ps_check.specs.Entries.{add_names, add_sections, first_entry, start}
use Rattle.ps_check.specs.Blocks.{known_as, heading_at, finished, hidden_in_heading, new_heading, introduce, introduced}
use Rattle.ps_check.specs.Blocks.{read_block, one_routine, block_step, block, routine, layer}
use Rattle.ps_check.specs.Programs.{Files, no_files, file_named, list_file, program, program_with, program_context}
use Rattle.ps_check.specs.Programs.{program_start, nothing_gathered, required}
use Rattle.ps_check.specs.RegionNames.{Each}
use Rattle.ps_check.specs.Paths.{layer_block, routine_block, block_at, outermost, within, IsRead, BlocksAreEnclosed}
use Rattle.ps_check.proofs.Equations.{block_is, routine_Whole, routine_Completion}
use Rattle.ps_check.proofs.NewPoints.{IsPlain}
use Rattle.ps_check.proofs.NewParts.{Part, declarations_part}
use Rattle.ps_check.proofs.NameLemmas.{frame_in, first_declared, BlockParts, block_parts, names_are_points}
use Rattle.ps_check.proofs.HeadingNames.{total, sections_entered, heading_fits}
use Rattle.ps_check.proofs.EachItem.{each_at, each_append}

-- ---- options

abbrev or_else : {A : Type 0} → A → Option A → A
or_else d None = d
or_else d (Some x) = x

then_some : {A B : Type 0} (o : Option A) (f : A → Option B) (y : B) → option_and_then f o ≡ Some y → (x : A)
    × (o ≡ Some x) × (f x ≡ Some y)
then_some None f y h = absurd (none_some h)
then_some (Some x) f y h = (x, refl, h)

each_weaker : {A : Type 0} (P Q : A → Type 0) → ((x : A) → P x → Q x) → (xs : List A) → Each P xs → Each Q xs
each_weaker P Q w [] a = tt
each_weaker P Q w (x ∷ xs) a = (w x a.0, each_weaker P Q w xs a.1)

-- ---- headings whose parameters have as many names as entries

abbrev IsFitting : Heading → Type 0
IsFitting h = length (add_names [] h.names) ≡ total h.sections

abbrev Fits : Meaning → Type 0
Fits (RoutineMeaning h) = IsFitting h
Fits _ = Unit {0}

plain_fits : (m : Meaning) → IsPlain m → Fits m
plain_fits (ConstantMeaning o n) p = tt
plain_fits (TextMeaning w) p = tt
plain_fits (TypeMeaning type) p = tt
plain_fits (VariableMeaning entry type) p = tt
plain_fits (ParameterMeaning entry type) p = tt
plain_fits (RoutineParameterMeaning entry sections result) p = tt
plain_fits (RoutineMeaning h) p = absurd p
plain_fits (FileMeaning file) p = tt
plain_fits (RequiredMeaning r) p = tt
plain_fits LeftOutMeaning p = tt

-- what a block begins with: a meaning for each name
record Stands (s : Start) : Type 0 where
  lengths : length s.known ≡ length s.names
  fits : Each Fits s.known

start_stands : (whence : ℕ) (chain : List ℕ) (h : Heading) (s : Start) → IsFitting h → start whence chain h ≡ Yes s
    → Stands s
unfolding start
start_stands whence chain h s fitting e =
    let inner = then_yes (provided (nat_lt (length chain) 16) Limit whence (h.number ∷ chain)) _ s e in
    let es = then_yes (add_sections whence (record {
      next = first_entry h.result;
      known = [];
    }) h.sections) _ s inner.2 in
    let entered = sections_entered whence h.sections (record { next = first_entry h.result; known = [] }) es.0 es.1 in
    let made : Start = record {
      chain = inner.0;
      names = add_names [] h.names;
      known = es.0.known;
      first = es.0.next;
    } in
    let stands : Stands made = record {
      lengths = entered.count ∙ (let z : 0 + total h.sections ≡ total h.sections = omega arith in z) ∙ sym fitting;
      fits = each_weaker IsPlain Fits plain_fits es.0.known (entered.plain tt);
    } in
    subst Stands (inside_yes made s es.2) stands

heading_known : (at : ℕ) (o : Option Meaning) (h : Heading) → heading_at at o ≡ Yes h → o ≡ Some (RoutineMeaning h)
unfolding heading_at
heading_known at None h e = absurd (no_yes e)
heading_known at (Some (ConstantMeaning o n)) h e = absurd (no_yes e)
heading_known at (Some (TextMeaning w)) h e = absurd (no_yes e)
heading_known at (Some (TypeMeaning type)) h e = absurd (no_yes e)
heading_known at (Some (VariableMeaning entry type)) h e = absurd (no_yes e)
heading_known at (Some (ParameterMeaning entry type)) h e = absurd (no_yes e)
heading_known at (Some (RoutineParameterMeaning entry sections result)) h e = absurd (no_yes e)
heading_known at (Some (RoutineMeaning g)) h e = ap (λ z. Some (RoutineMeaning z)) (inside_yes g h e)
heading_known at (Some (FileMeaning file)) h e = absurd (no_yes e)
heading_known at (Some (RequiredMeaning r)) h e = absurd (no_yes e)
heading_known at (Some LeftOutMeaning) h e = absurd (no_yes e)

-- ---- routines

module _ (f : Frame) where
  new_fits : (is_forward : Bool) (r w : Routines) (h : syntax_heading.Heading) → new_heading f is_forward r h ≡ Yes w
      → Each Fits r.known → Each Fits w.known
  unfolding new_heading
  new_fits is_forward r w h e a =
      let n = then_yes (provided (nat_lt (length r.gathered.routines) MAX_ROUTINES) Limit (heading_name h).from
      (length r.gathered.routines)) _ w e in
      let s = then_yes ((heading f r.known h).1 (hidden_in_heading f h)) _ w n.2 in
      let new : Heading = record {
        number = n.0;
        at = (heading_name h).from;
        sections = section_list s.0.0;
        result = s.0.1;
        names = map (spelled f.text) (all (map (section_points f r.known) (heading_list h)));
        is_forward = is_forward;
      } in
      let fitting : IsFitting new = heading_fits f r.known h (hidden_in_heading f h) s.0 s.1 in
      let known : r.known ++ RoutineMeaning new ∷ [] ≡ w.known = ap (λ (z : Routines). z.known) (inside_yes _ w s.2) in
      subst (Each Fits) known (each_append Fits r.known (RoutineMeaning new ∷ []) a (fitting, tt))

  introduced_fits : (x : RoutineReading) (r w : Routines) → introduced f x r ≡ Yes w → Each Fits r.known
      → Each Fits w.known
  unfolding introduce
  introduced_fits x r w e a = at (known_as f r.known (spelled f.text x.name)) e
    where
      headed_fits : (h : Option syntax_heading.Heading) → x.heading ≡ h → introduce f x r None ≡ Yes w
          → Each Fits w.known
      headed_fits None q e = absurd (no_yes (sym (ap (λ h. introduce f (record {
        name = x.name;
        heading = h;
        block = x.block;
      }) r None) q) ∙ e))
      headed_fits (Some h) q e = new_fits (is_none x.block) r w h (sym (ap (λ h. introduce f (record {
        name = x.name;
        heading = h;
        block = x.block;
      }) r None) q) ∙ e) a

      at : (o : Option Meaning) → introduce f x r o ≡ Yes w → Each Fits w.known
      at (Some m) e = subst (λ (z : Routines). Each Fits z.known)
          (provided_yes (is_waiting r.gathered x m) Twice x.name.from r w e).1 a
      at None e = headed_fits x.heading refl e

  module _ (chain : List ℕ) where
    block_keeps : (x : RoutineReading) (r w : Routines) (o : Option BlockReading) → read_block f chain x r o ≡ Yes w
        → w.known ≡ r.known
    unfolding read_block
    block_keeps x r w None e = sym (ap (λ (z : Routines). z.known) (inside_yes r w e))
    block_keeps x r w (Some read) e =
        let h = then_yes (heading_at x.name.from (known_as f r.known (spelled f.text x.name))) _ w e in
        let s = then_yes (start x.name.from chain h.0) _ w h.2 in
        let b = then_yes (read (BlockRegion f.routine f.names r.known ∷ f.outer) s.0 r.gathered) _ w s.2 in
        let g = then_yes (finished x.name.from h.0 s.0.chain b.0) _ w b.2 in
        sym (ap (λ (z : Routines). z.known) (inside_yes _ w g.2))

    one_fits : (x : RoutineReading) (r w : Routines) → one_routine f chain r x ≡ Yes w → Each Fits r.known
        → Each Fits w.known
    unfolding one_routine
    one_fits x r w e a =
        let s = then_yes (introduced f x r) _ w e in
        subst (Each Fits) (sym (block_keeps x s.0 w x.block s.2)) (introduced_fits x r s.0 s.1 a)

    -- a step of a list's routine was made where all headings fit
    steps_at : (r t : Routines) (xs : List RoutineReading) (k : ℕ) (x : RoutineReading) → Each Fits r.known → steps
        (one_routine f chain) r xs ≡ Yes t → slice_get xs k ≡ Some x → (u : Routines) × (w : Routines)
        × Each Fits u.known × (one_routine f chain u x ≡ Yes w)
    steps_at r t [] k x a e g = absurd (none_some g)
    steps_at r t (y ∷ ys) zero x a e g =
        let parts = then_yes (one_routine f chain r y) _ t e in
        (r, parts.0, a, ap (one_routine f chain r) (sym (ap (or_else y) g)) ∙ parts.1)
    steps_at r t (y ∷ ys) (suc k) x a e g =
        let parts = then_yes (one_routine f chain r y) _ t e in
        steps_at parts.0 t ys k x (one_fits y r parts.0 parts.1 a) parts.2 g

    -- a block that was read within another
    record Nested (read : BlockReading) : Type 0 where
      known : List Meaning
      inner : Start
      gathered : Gathered
      done : Done
      reading : read (BlockRegion f.routine f.names known ∷ f.outer) inner gathered ≡ Yes done
      stands : Stands inner

    nested_at : (x : RoutineReading) (r w : Routines) (read : BlockReading) → Each Fits r.known → read_block f chain x r
        (Some read) ≡ Yes w → Nested read
    unfolding read_block
    nested_at x r w read a e =
        let h = then_yes (heading_at x.name.from (known_as f r.known (spelled f.text x.name))) _ w e in
        let s = then_yes (start x.name.from chain h.0) _ w h.2 in
        let b = then_yes (read (BlockRegion f.routine f.names r.known ∷ f.outer) s.0 r.gathered) _ w s.2 in
        let i = then_some (place f.names (spelled f.text x.name)) (slice_get r.known) (RoutineMeaning h.0)
        (heading_known x.name.from (known_as f r.known (spelled f.text x.name)) h.0 h.1) in
        let fitting : IsFitting h.0 = each_at Fits r.known i.0 (RoutineMeaning h.0) a i.2 in
        record {
          known = r.known;
          inner = s.0;
          gathered = r.gathered;
          done = b.0;
          reading = b.1;
          stands = start_stands x.name.from chain h.0 s.0 fitting s.1;
        }

    nested_in : (x : RoutineReading) (u w : Routines) (read : BlockReading) → x.block ≡ Some read → Each Fits u.known
        → one_routine f chain u x ≡ Yes w → Nested read
    unfolding one_routine
    nested_in x u w read is a e =
        let s = then_yes (introduced f x u) _ w e in
        nested_at x s.0 w read (introduced_fits x u s.0 s.1 a) (ap (read_block f chain x s.0) (sym is) ∙ s.2)

-- ---- blocks

module _ (c : Context) where
  -- the reading of a routine with a block reads that block
  layered : (r : Routine) (x : Routine-F Routine Block) (b : Block) → out-Routine r ≡ x → layer_block x ≡ Some b
      → (routine c r).block ≡ Some (block c b)
  layered r (Routine-F.Whole h d) b o e =
      ap (λ y. (routine c y).block) (sym (roll-out-Routine r) ∙ ap roll-Routine o ∙ v.rolls-Whole h d)
      ∙ ap (λ (q : RoutineReading). q.block) (routine_Whole c h d)
      ∙ ap (λ y. Some (block c y)) (ap (or_else d) e)
  layered r (Routine-F.Forward h) b o e = absurd (none_some e)
  layered r (Routine-F.Completion name d) b o e =
      ap (λ y. (routine c y).block) (sym (roll-out-Routine r) ∙ ap roll-Routine o ∙ v.rolls-Completion name d)
      ∙ ap (λ (q : RoutineReading). q.block) (routine_Completion c name d)
      ∙ ap (λ y. Some (block c y)) (ap (or_else d) e)

  block_of_routine : (r : Routine) (b : Block) → routine_block r ≡ Some b → (routine c r).block ≡ Some (block c b)
  unfolding routine_block
  block_of_routine r b e = layered r (out-Routine r) b refl e

  -- a block that was read, where each name that comes before its own has its meaning
  record ReadThere (root : Block) (path : List ℕ) (b : Block) : Type 0 where
    read : IsRead c root path b
    stands : Stands read.start

  -- the declarations of a block keep the headings fitting
  before_fits : (a : Block) (Γ : List Region) (s : Start) (g : Gathered) (parts : BlockParts c (layer c a) Γ s g)
      → Stands s → Each Fits parts.before.known
  before_fits a Γ s g parts stands =
      let b = layer c a in
      let part : Part (frame_in c b Γ s) (first_declared s g)
      (block_points b.constants b.types b.variables) parts.made = declarations_part (frame_in c b Γ s) s.first
      (first_declared s g) parts.made b.constants b.types b.variables parts.declarations_read in
      subst (Each Fits) (sym (parts.known ∙ part.grows.known))
      (each_append Fits s.known part.grows.more stands.fits
      (each_weaker IsPlain Fits plain_fits part.grows.more part.grows.plain))

  module _ (root : Block) where
    -- one path further in
    read_within : (k : ℕ) (path : List ℕ) (a b : Block) (r : Routine) → block_at root path ≡ Some a → slice_get
        (out-Block a).routines k ≡ Some r → routine_block r ≡ Some b → ReadThere root path a → ReadThere root
        (k ∷ path) b
    read_within k path a b r here at is whole =
        let w : IsRead c root path a = whole.read in
        let reading : block_step c (layer c a) w.regions w.start w.gathered ≡ Yes w.done = sym
        (ap (λ x. x w.regions w.start w.gathered) (block_is c a)) ∙ w.reading in
        let parts : BlockParts c (layer c a) w.regions w.start w.gathered = block_parts c
        (layer c a) w.regions w.start w.gathered w.done reading in
        let f : Frame = frame_in c (layer c a) w.regions w.start in
        let one = steps_at f w.start.chain parts.before parts.behind (map (routine c) (out-Block a).routines) k
        (routine c r) (before_fits a w.regions w.start w.gathered parts whole.stands) parts.routines_read
        (slice_get-map (routine c) (out-Block a).routines k ∙ ap (option_map (routine c)) at) in
        let n = nested_in f w.start.chain (routine c r) one.0 one.1 (block c b) (block_of_routine r b is) one.2 one.3 in
        record {
          read = record {
            regions = BlockRegion f.routine f.names n.known ∷ w.regions;
            start = n.inner;
            gathered = n.gathered;
            done = n.done;
            reading = n.reading;
            enclosed = within k f.routine path a w.start.names f.names n.known w.regions here
                (names_are_points c (layer c a) w.regions w.start w.gathered w.done whole.stands.lengths reading)
                w.enclosed;
          };
          stands = n.stands;
        }

    all_read : (s : Start) (g : Gathered) (d : Done) → Stands s → block c root (required ∷ []) s g ≡ Yes d
        → (path : List ℕ) (b : Block) → block_at root path ≡ Some b → ReadThere root path b
    unfolding block_at
    all_read s g d stands e [] b at = record {
      read = record {
        regions = required ∷ [];
        start = s;
        gathered = g;
        done = d;
        reading = ap (λ x. block c x (required ∷ []) s g) (sym (ap (or_else root) at)) ∙ e;
        enclosed = outermost;
      };
      stands = stands;
    }
    all_read s g d stands e (k ∷ path) b at =
        let a = then_some (block_at root path) (λ a. option_and_then routine_block (slice_get (out-Block a).routines k))
        b at in
        let r = then_some (slice_get (out-Block a.0).routines k) routine_block b a.2 in
        read_within k path a.0 b r.0 a.1 r.1 r.2 (all_read s g d stands e path a.0 a.1)

-- ---- programs

module _ (text : List ℕ) where
  abbrev FilesStand : Files → Type 0
  FilesStand files = Stands (program_start files)

  file_plain : (at : ℕ) (s : List ℕ) (m : Meaning) → file_named at s ≡ Yes m → Fits m
  file_plain at s m e = there (same s (codes "input")) (same s (codes "output")) e
    where
      there : (b d : Bool) → (if b then Yes (FileMeaning Input)
          else (if d then Yes (FileMeaning Output) else No NotInProfile at)) ≡ Yes m → Fits m
      there true d q = subst Fits (inside_yes (FileMeaning Input) m q) tt
      there false true q = subst Fits (inside_yes (FileMeaning Output) m q) tt
      there false false q = absurd (no_yes q)

  file_stands : (files made : Files) (at : Span) → list_file text files at ≡ Yes made → FilesStand files
      → FilesStand made
  unfolding list_file
  file_stands files made at e a =
      let m = then_yes (file_named at.from (spelled text at)) _ made e in
      let n = then_yes (provided (not (has files.names (spelled text at))) Twice at.from
      (files.names ++ spelled text at ∷ [])) _ made m.2 in
      let names = (provided_yes (not (has files.names (spelled text at))) Twice at.from
      (files.names ++ spelled text at ∷ []) n.0 n.1).1 in
      let next : Files = record { names = n.0; known = files.known ++ m.0 ∷ [] } in
      let stands : FilesStand next = record {
        lengths = length-append files.known (m.0 ∷ []) ∙ ap (λ k. k + 1) a.lengths ∙ sym
            (length-append files.names (spelled text at ∷ [])) ∙ ap length names;
        fits = each_append Fits files.known (m.0 ∷ []) a.fits (file_plain at.from (spelled text at) m.0 m.1, tt);
      } in
      subst FilesStand (inside_yes next made n.2) stands

  files_stand : (xs : List Span) (files made : Files) → steps (list_file text) files xs ≡ Yes made → FilesStand files
      → FilesStand made
  files_stand [] files made e a = subst FilesStand (inside_yes files made e) a
  files_stand (x ∷ xs) files made e a =
      let one = then_yes (list_file text files x) _ made e in
      files_stand xs one.0 made one.2 (file_stands files one.0 x one.1 a)

pub blocks_are_enclosed : BlocksAreEnclosed
unfolding program program_with
blocks_are_enclosed text p made e =
    let files = then_yes (steps (list_file text) no_files p.parameters) _ made e in
    let whole = then_yes (block (program_context text files.0) p.block (required ∷ [])
    (program_start files.0) nothing_gathered) _ made files.2 in
    let none : Stands (program_start no_files) = record { lengths = refl; fits = tt } in
    let stands : Stands (program_start files.0) = files_stand text p.parameters no_files files.0 files.1 none in
    record {
      files = files.0;
      listed = files.1;
      each = λ path b at. (all_read (program_context text files.0) p.block
          (program_start files.0) nothing_gathered whole.0 stands whole.1 path b at).read;
    }
