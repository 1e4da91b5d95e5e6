-- A block that keeps the rules is what the checker reads.
use Rattle.std.proofs.Common.{◌≡◌, ℕ, suc, ◌+◌, ◌<◌, ◌≤◌, Bool, true, false, not, if◌then◌else◌, List, [], ◌∷◌, ◌++◌}
use Rattle.std.proofs.Common.{length, map, take, drop, Some, None, slice_get, refl, sym, ap, ◌∙◌, arith}
use Rattle.std.proofs.lemmas.Option.{slice_get_within}
use Rattle.ps_syntax.specs.declared.program.Block as syntax_block
use Rattle.ps_syntax.specs.declared.program.Block.{out-Block}
use Rattle.ps_syntax.specs.declared.program.Routine.{Routine}
use Rattle.ps_syntax.specs.declared.program.Program as syntax_program
use Rattle.ps_tree.specs.Types.{DataType}
use Rattle.ps_tree.specs.Tree as Tree
use Rattle.ps_tree.specs.Counts.{are_routines_within_limits}
use Rattle.ps_tree.specs.declared.limits.TheConstants.{MAX_ROUTINES}
use Rattle.ps_check_judgement.specs.declared.change.Change.{Change}
use Rattle.ps_check_judgement.specs.declared.refusal.Rule.TheVariants.{ForwardOpen}
use Rattle.ps_check_judgement.specs.Judged as j
use Rattle.ps_check_judgement.specs.Judged.{Judged, Yes, holds, steps}
use Rattle.ps_check_judgement.proofs.Items.{there_is}
use Rattle.ps_check_names.specs.Spelling.{has, line_in}
use Rattle.ps_check_names.specs.Regions.{Region, BlockRegion, Meaning, RoutineMeaning, Heading, Context}
use Rattle.ps_check_declarations.specs.Denoters.{Frame, Declared}
use Rattle.ps_check_statements.specs.Statements.{statements}
use Rattle.ps_check.specs.Readings.{Gathered, Done, Routines, BlockReading}
use Rattle.ps_check.specs.Forwards.{is_vacant, one_complete, all_complete, block_names}
use Rattle.ps_check.specs.Blocks.{one_routine, own_number, of_statements, declared, block_body, block_step, block}
use Rattle.ps_check.specs.Blocks.{routine, layer}
use Rattle.ps_check.specs.Programs.{Files, program_context}
use Rattle.ps_check.specs.RegionNames.{AreApart}
use Rattle.ps_check.specs.Paths.{block_at}
use Rattle.ps_check.proofs.Equations.{block_is}
use Rattle.ps_check_laws.specs.Definitions.{Declarations, OfDeclaration, Definition, OfRoutine, own_declarations}
use Rattle.ps_check_laws.specs.Definitions.{routine_names, introduced, definitions_of, names_of, points_before_routines}
use Rattle.ps_check_laws.specs.Denoting.{counted, headings_within}
use Rattle.ps_check_laws.specs.Counts.{sum, routine_domains, block_domains, own_domains}
use Rattle.ps_check_laws.specs.Meanings.{AreMeanings, Defines}
use Rattle.ps_check_laws.specs.Controls.{changes_from}
use Rattle.ps_check_laws.specs.Rule.{KeepsRules}
use Rattle.ps_check_laws.proofs.Lists.{take_next, take_all, take_drop, Each}
use Rattle.ps_check_laws.proofs.Shown.{shown, shown_at, shown_alike}
use Rattle.ps_check_laws.proofs.Routines.{sp, counts, counted_none}
use Rattle.ps_check_laws.proofs.Pending.{declarations_length}
use Rattle.ps_check_laws.proofs.Blocks.{within_is}
use Rattle.ps_check_laws.proofs.Ordered.{introduced_of, introduced_first}
use Rattle.ps_check_laws.proofs.Drawn.{block_domains_are}
use Rattle.ps_check_laws.proofs.Rebuilt.{counted_end, counted_more, own_one, none_are, all_alike}
use Rattle.ps_check_laws.proofs.BlockPoints.{declares_plain, plain_not, points, in_part}
use Rattle.ps_check_laws.proofs.ByParts.{all_are, gathered_parts, routines_parts, routine_inside}
use Rattle.ps_check_laws.proofs.RecoveredNames as kept_names
use Rattle.ps_check_laws.proofs.RecoveredRoutines as each_routine

module _ (text : List ℕ) (p : syntax_program.Program) (files : Files) (made : Tree.Program)
    (limits : are_routines_within_limits made.routines ≡ true) (few : length made.routines ≤ MAX_ROUTINES) where
  abbrev c : Context
  c = program_context text files

  abbrev Nested : (v : List ℕ) (b : syntax_block.Block) (Γ : List Region) → KeepsRules text p files made v b Γ
      → (changes : ℕ → List Change) → Type 0
  Nested v b Γ mine changes = kept_names.Nested text p files made limits few v b Γ mine changes

  abbrev RoutineRecovers : Routine → Type 0
  RoutineRecovers x = kept_names.RoutineRecovers text p files made limits few x

  module _ (v : List ℕ) (b : syntax_block.Block) (Γ : List Region) (mine : KeepsRules text p files made v b Γ)
      (changes : ℕ → List Change) (inner_is : mine.inner ≡ changes_from changes 0 (out-Block b).routines)
      (nested : Nested v b Γ mine changes) (there : block_at p.block v ≡ Some b)
      (room : mine.next + headings_within text b ≤ length made.routines) (vacant : ℕ → Bool)
      (low : (m : ℕ) → mine.next ≤ m → vacant m ≡ false) where
    abbrev rs : List Routine
    rs = (out-Block b).routines

    abbrev D : Declarations
    D = mine.first ++ own_declarations b

    abbrev all : List Definition
    all = points text D (introduced text rs)

    abbrev N : List (List ℕ)
    N = names_of text all

    abbrev f : Frame
    f = record { text = text; routine = own_number mine.start.chain; names = N; begun = []; outer = Γ }

    abbrev chain : List ℕ
    chain = mine.start.chain

    abbrev number : ℕ → ℕ
    number k = mine.next + counted text [] (counts text (take k rs))

    abbrev State : List Routine → Routines → (ℕ → Bool) → Type 0
    State done r q = kept_names.State text p files made limits few
        v b Γ mine changes inner_is nested there room vacant low done r q

    abbrev apart : AreApart (names_of text (points text D (introduced text rs)))
    apart = kept_names.apart text p files made limits few
        v b Γ mine changes inner_is nested there room vacant low

    many : length mine.known ≡ length all
    many = kept_names.many text p files made limits few
        v b Γ mine changes inner_is nested there room vacant low

    means : AreMeanings f mine.start.first number all mine.known
    means = kept_names.means text p files made limits few
        v b Γ mine changes inner_is nested there room vacant low

    first_points : points text D (introduced text []) ≡ map OfDeclaration D
    first_points = kept_names.first_points text p files made limits few
        v b Γ mine changes inner_is nested there room vacant low

    names_are : block_names text (layer c b) mine.start.names ≡ N
    names_are = kept_names.names_are text p files made limits few
        v b Γ mine changes inner_is nested there room vacant low

    abbrev begin : Routines
    begin = record {
      known = take (points_before_routines mine.first b) mine.known;
      changes = [];
      gathered = record {
        domains = take (mine.pointers + own_domains b) made.domains;
        routines = shown made.routines vacant mine.next;
      };
    }

    begin_state : State [] begin vacant
    unfolding points_before_routines changes_from
    begin_state =
        let z = counted_none text [] in
        let one : mine.next ≡ mine.next + counted text [] [] = omega (arith, z) in
        let two : mine.pointers + own_domains b ≡ (mine.pointers + own_domains b) + 0 = omega arith in
        record {
          known = ap (λ k. take k mine.known) (sym (ap length first_points ∙ declarations_length D));
          changed = refl;
          domains = ap (λ k. take k made.domains) two;
          routines = ap (shown made.routines vacant) one;
          are = none_are c D rs apart mine.completed mine.next vacant low;
        }

    abbrev end : Gathered
    end = record {
      domains = take (mine.pointers + block_domains b) made.domains;
      routines = shown made.routines vacant (mine.next + headings_within text b);
    }

    abbrev whole_part : Routines
    whole_part = record { known = mine.known; changes = mine.inner; gathered = end }

    end_is : (w : Routines) (q : ℕ → Bool) → State rs w q → w ≡ whole_part
    end_is w q s =
        let within = within_is text b in
        let count : mine.next + counted text [] (counts text rs) ≡ mine.next + headings_within text b = omega
        (arith, within) in
        let drawn_all = block_domains_are b in
        let drawn_count : (mine.pointers + own_domains b) + sum (map routine_domains rs) ≡ mine.pointers
        + block_domains b = omega (arith, drawn_all) in
        routines_parts w whole_part (s.known ∙ ap (λ k. take k mine.known) (sym many) ∙ take_all mine.known)
        (s.changed ∙ sym inner_is)
        (gathered_parts w.gathered end (s.domains ∙ ap (λ k. take k made.domains) drawn_count)
        (s.routines ∙ ap (shown made.routines q) count ∙ shown_alike made.routines q vacant
        (mine.next + headings_within text b) (λ m l. all_alike c D rs apart mine.completed mine.next vacant q s.are
        low m) room))

    complete_at : (i : ℕ) (m : Meaning) (d : Definition) → slice_get mine.known i ≡ Some m → slice_get all i ≡ Some d
        → Defines f mine.start.first number (take i mine.known) d m → one_complete end tt m ≡ Yes tt
    unfolding one_complete
    complete_at i (RoutineMeaning h) (OfDeclaration y) known at defines = absurd
        (plain_not (RoutineMeaning h) h refl (declares_plain f mine.start.first (take i mine.known) y
        (RoutineMeaning h) defines))
    complete_at i (RoutineMeaning h) (OfRoutine j y) known at defines =
        let part = in_part text D (introduced text rs) i j y at in
        let there = introduced_of text rs part.0 j y part.1 in
        let same_heading : h ≡ defines.0 = routine_inside h defines.0 defines.2 in
        let number_here : h.number ≡ number j = ap (λ (z : Heading). z.number) same_heading ∙ defines.3 in
        let new_there = introduced_first text rs part.0 j y part.1 in
        let less = number_within j y there new_there in
        let slot = there_is made.routines (number j) (omega (arith, less, room)) in
        ap (λ k. holds (not (is_vacant (slice_get end.routines k))) ForwardOpen h.at) number_here
        ∙ ap (λ o. holds (not (is_vacant o)) ForwardOpen h.at)
        (shown_at made.routines vacant (mine.next + headings_within text b) (number j) slot.0 less slot.1)
        ∙ ap (λ z. holds (not (is_vacant (Some (if z then None else Some slot.0)))) ForwardOpen h.at)
        (low (number j) (omega arith))
      where
        number_within : (j : ℕ) (y : Routine) → slice_get rs j ≡ Some y → has
            (routine_names text (introduced text (take j rs))) (sp text y) ≡ false → number j < mine.next
            + headings_within text b
        number_within j y there absent =
            let one = counted_end text (take j rs) y in
            let is_one = own_one text (introduced text (take j rs)) y absent in
            let a = ap (λ l. counted text [] (counts text l)) (take_next rs j y there) in
            let z = counted_more text (drop (suc j) rs) (take (suc j) rs) in
            let d = ap (λ l. counted text [] (counts text l)) (take_drop (suc j) rs) in
            let w = within_is text b in
            omega (arith, one, is_one, a, z, d, w)
    complete_at i m d known at defines = refl

    all_is_complete : all_complete end mine.known ≡ Yes tt
    unfolding all_complete
    all_is_complete = all_are end mine.known (λ i m e.
        let l = slice_get_within mine.known i m e in
        let d = there_is all i (omega (arith, l, many)) in
        complete_at i m d.0 e d.1 (means i d.0 m d.1 e))

    pub recovered : Each RoutineRecovers rs → block c b Γ mine.start (record {
      domains = take mine.pointers made.domains;
      routines = shown made.routines vacant mine.next;
    })
        ≡ Yes (record {
          variables = mine.routine.variables;
          body = mine.routine.body;
          line = mine.routine.line;
          changes = mine.inner ++ mine.changes;
          gathered = end;
        })
    unfolding block_step declared block_body definitions_of
    recovered claims =
        let g : Gathered = record {
          domains = take mine.pointers made.domains;
          routines = shown made.routines vacant mine.next;
        } in
        let last = each_routine.all_steps text p files made limits few
        v b Γ mine changes inner_is nested there room vacant low rs [] refl claims begin vacant begin_state in
        let steps_are : steps (one_routine f chain) begin (map (routine c) rs) ≡ Yes whole_part = last.reading
        ∙ ap (λ z. Yes z) (end_is last.last last.open_last last.state) in
        let as_frame : List (List ℕ) → Frame = λ names. record {
          text = text;
          routine = own_number chain;
          names = names;
          begun = [];
          outer = Γ;
        } in
        let as_declared : Declared → Judged (Routines × List DataType) = λ e. Yes (
          record {
            known = e.known;
            changes = [];
            gathered = record {
              domains = e.domains;
              routines = g.routines;
            };
          },
          e.variables,
        ) in
        let as_done : List DataType → Routines → Tree.Statements × List Change → Judged Done = λ variables r body. Yes
        (record {
          variables = variables;
          body = body.0;
          line = line_in text (out-Block b).begin.from;
          changes = r.changes ++ body.1;
          gathered = r.gathered;
        }) in
        let body : block_body c f (layer c b) whole_part ≡ Yes (mine.routine.body, mine.changes) =
        ap (λ q. j.◌>>=◌ q (λ u. statements (of_statements c end.domains mine.inner)
        (BlockRegion f.routine N mine.known ∷ Γ) (out-Block b).statements [])) all_is_complete ∙ mine.body in
        ap (λ (q : BlockReading). q Γ mine.start g) (block_is c b)
        ∙ ap (λ names. j.◌>>=◌ (declared (as_frame names) (layer c b) mine.start.first mine.start.known g)
        (λ d. j.◌>>=◌ (steps (one_routine (as_frame names) chain) d.0 (map (routine c) rs))
        (λ r. j.◌>>=◌ (block_body c (as_frame names) (layer c b) r) (as_done d.1 r)))) names_are
        ∙ ap (λ o. j.◌>>=◌ (j.◌>>=◌ o as_declared)
        (λ d. j.◌>>=◌ (steps (one_routine f chain) d.0 (map (routine c) rs))
        (λ r. j.◌>>=◌ (block_body c f (layer c b) r) (as_done d.1 r)))) mine.declared
        ∙ ap (λ o. j.◌>>=◌ o (λ r. j.◌>>=◌ (block_body c f (layer c b) r) (as_done mine.routine.variables r))) steps_are
        ∙ ap (λ o. j.◌>>=◌ o (as_done mine.routine.variables whole_part)) body
        ∙ ap (λ l. Yes (record {
          variables = mine.routine.variables;
          body = mine.routine.body;
          line = l;
          changes = mine.inner ++ mine.changes;
          gathered = end;
        })) (sym mine.is_line)
