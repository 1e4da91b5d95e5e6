-- The heading of a routine of a block that keeps the rules is what the checker reads.
use Rattle.std.proofs.Common.{◌≡◌, ℕ, suc, ◌+◌, ◌<◌, ◌≤◌, Bool, true, false, ◌&&◌, if◌then◌else◌, List, [], ◌∷◌, ◌++◌}
use Rattle.std.proofs.Common.{length, map, take, Some, None, is_some, is_none, slice_get, refl, sym, ap, ◌∙◌, subst}
use Rattle.std.proofs.Common.{append_assoc, length-append, arith}
use Rattle.std.proofs.lemmas.Option.{slice_get_within, slice_get_past, same_Some}
use Rattle.std.proofs.lemmas.Bool.{lt-ltb}
use Rattle.std.proofs.Math.Seq.{take-append_seam}
use Rattle.ps_syntax.specs.declared.program.Heading as syntax
use Rattle.ps_syntax.specs.declared.program.Block as syntax_block
use Rattle.ps_syntax.specs.declared.program.Block.{out-Block}
use Rattle.ps_syntax.specs.declared.program.Routine.{Routine, out-Routine}
use Rattle.ps_syntax.specs.declared.program.Routine.TheOpen.{Routine-F}
use Rattle.ps_syntax.specs.declared.program.Program as syntax_program
use Rattle.ps_tree.specs.Tree as Tree
use Rattle.ps_tree.specs.Counts.{are_routines_within_limits}
use Rattle.ps_tree.specs.declared.limits.TheConstants.{MAX_ROUTINES}
use Rattle.ps_check_judgement.specs.declared.change.Change.{Change}
use Rattle.ps_check_judgement.specs.declared.refusal.Rule.TheVariants.{Twice, Limit}
use Rattle.ps_check_judgement.specs.Judged as j
use Rattle.ps_check_judgement.specs.Judged.{Yes, provided}
use Rattle.ps_check_judgement.proofs.Items.{there_is, get_stays}
use Rattle.ps_check_names.specs.Spelling.{spelled, has}
use Rattle.ps_check_names.specs.Regions.{Region, RoutineMeaning, Heading, Context}
use Rattle.ps_check_declarations.specs.Denoters.{Frame}
use Rattle.ps_check_declarations.specs.Headings.{heading, section_list}
use Rattle.ps_check_declarations.specs.Headings as headings
use Rattle.ps_check_declarations.specs.Points as points_of
use Rattle.ps_check.specs.Readings.{Routines, heading_name, heading_list}
use Rattle.ps_check.specs.Forwards.{is_vacant, is_open, is_same_kind, is_waiting}
use Rattle.ps_check.specs.Blocks.{hidden_in_heading, new_heading, headed, introduce, own_number, block, routine}
use Rattle.ps_check.specs.Programs.{Files, program_context}
use Rattle.ps_check.specs.Paths.{routine_block, block_at}
use Rattle.ps_check_laws.specs.Definitions.{Declarations, Definition, layer_heading, OfRoutine, InPart, formal_points}
use Rattle.ps_check_laws.specs.Definitions.{own_declarations, routine_heading, routine_names, introduced, names_of}
use Rattle.ps_check_laws.specs.Denoting.{counted, routine_count, headings_within}
use Rattle.ps_check_laws.specs.Forward.{is_function}
use Rattle.ps_check_laws.specs.Controls.{changes_from}
use Rattle.ps_check_laws.specs.Rule.{KeepsRules}
use Rattle.ps_check_laws.proofs.Lists.{get_at, take_next}
use Rattle.ps_check_laws.proofs.Shown.{take_many, get_take, opened, closed, shown, shown_many, shown_at, shown_new}
use Rattle.ps_check_laws.proofs.HeadingPoints.{points_told, heading_told}
use Rattle.ps_check_laws.proofs.Routines.{read, sp, own, counts}
use Rattle.ps_check_laws.proofs.BlockPoints.{none_stays, points, points_last}
use Rattle.ps_check_laws.proofs.Blocks.{within_is}
use Rattle.ps_check_laws.proofs.Ordered.{may_so, kind_so, Point as Standing, new, old, points_further, routed}
use Rattle.ps_check_laws.proofs.Rebuilt.{counted_end, counted_more, own_one, own_none, Are, forward_are}
use Rattle.ps_check_laws.proofs.Rebuilt.{whole_are, inner_low, completed_are, is_open_there, no_forward, forward_less}
use Rattle.ps_check_laws.proofs.ByParts.{heading_parts}
use Rattle.ps_check_laws.proofs.RecoveredNames.{Meant, Nested, State, apart, many, meant}

module _ (text : List ℕ) (p : syntax_program.Program) (files : Files) (made : Tree.Program)
    (limits : are_routines_within_limits made.routines ≡ true) (few : length made.routines ≤ MAX_ROUTINES) where
  abbrev c : Context
  c = program_context text files

  module _ (v : List ℕ) (b : syntax_block.Block) (Γ : List Region) (mine : KeepsRules text p files made v b Γ)
      (changes : ℕ → List Change) (inner_is : mine.inner ≡ changes_from changes 0 (out-Block b).routines)
      (nested : Nested text p files made limits few v b Γ mine changes) (there : block_at p.block v ≡ Some b)
      (room : mine.next + headings_within text b ≤ length made.routines) (vacant : ℕ → Bool)
      (low : (m : ℕ) → mine.next ≤ m → vacant m ≡ false) where
    abbrev rs : List Routine
    rs = (out-Block b).routines

    abbrev D : Declarations
    D = mine.first ++ own_declarations b

    abbrev all : List Definition
    all = points text D (introduced text rs)

    abbrev N : List (List ℕ)
    N = names_of text all

    abbrev f : Frame
    f = record { text = text; routine = own_number mine.start.chain; names = N; begun = []; outer = Γ }

    abbrev number : ℕ → ℕ
    number k = mine.next + counted text [] (counts text (take k rs))

    module _ (done rest : List Routine) (x : Routine) (split : rs ≡ done ++ x ∷ rest) (r : Routines) (q : ℕ → Bool)
        (s : State text p files made limits few v b Γ mine changes inner_is nested there room vacant low done r q) where
      abbrev pub I : List InPart
      I = introduced text done

      abbrev pub J : List InPart
      J = introduced text (done ++ x ∷ [])

      abbrev pub n : ℕ
      n = mine.next + counted text [] (counts text done)

      pub at_x : slice_get rs (length done) ≡ Some x
      at_x = ap (λ l. slice_get l (length done)) split ∙ get_at done x rest

      pub taken : take (length done) rs ≡ done
      taken = ap (take (length done)) split ∙ take-append_seam done (x ∷ rest)

      number_is : number (length done) ≡ n
      number_is = ap (λ l. mine.next + counted text [] (counts text l)) taken

      pub one_more : mine.next + counted text [] (counts text (done ++ x ∷ [])) ≡ n
          + ((routine_count text x).1 + own text I x)
      one_more = let z = counted_end text done x in omega (arith, z)

      pub inside_block : mine.next + counted text [] (counts text (done ++ x ∷ [])) ≤ length made.routines
      inside_block =
          let z = counted_more text rest (done ++ x ∷ []) in
          let w = within_is text b in
          let y = ap (λ l. counted text [] (counts text l)) (append_assoc done (x ∷ []) rest ∙ sym split) in
          omega (arith, z, w, y, room)

      many_gathered : length r.gathered.routines ≡ n
      many_gathered = ap length s.routines ∙ shown_many made.routines q n
          (let z = one_more in let y = inside_block in omega (arith, z, y))

      -- what the heading gives
      pub record Intro : Type 0 where
        pub index : ℕ
        pub j : ℕ
        pub y : Routine
        pub at : slice_get all index ≡ Some (OfRoutine j y)
        pub named : sp text y ≡ sp text x
        pub below : index < length (points text D J)
        pub less : number j < n + own text I x
        pub after : Routines
        pub introduces : introduce f (routine c x) r (slice_get r.known index) ≡ Yes after
        pub open_then : ℕ → Bool
        pub known : after.known ≡ take (length (points text D J)) mine.known
        pub changed : after.changes ≡ r.changes
        pub domains : after.gathered.domains ≡ r.gathered.domains
        pub routines : after.gathered.routines ≡ shown made.routines open_then (n + own text I x)
        pub low_then : (m : ℕ) → n + own text I x ≤ m → open_then m ≡ false
        pub with_block : ((h : syntax.Heading) → out-Routine x ≡ Routine-F.Forward h → ⊥)
            → Are c D rs (apart text p files made limits few v b Γ mine changes inner_is nested there room vacant low)
            mine.completed mine.next (done ++ x ∷ []) vacant (closed (number j) open_then)
        pub without : (h : syntax.Heading) → out-Routine x ≡ Routine-F.Forward h → Are c D rs
            (apart text p files made limits few v b Γ mine changes inner_is nested there room vacant low)
            mine.completed mine.next
            (done ++ x ∷ []) vacant open_then

      new_heading_is : has (routine_names text I) (sp text x) ≡ false
          → (m : Meant text p files made limits few v b Γ mine changes inner_is nested there room vacant low
          (length (points text D I)) (length done) x) → new_heading f
          (is_none (routine c x).block) r m.said ≡ Yes (record {
            known = r.known ++ RoutineMeaning m.heading ∷ [];
            changes = r.changes;
            gathered = record {
              domains = r.gathered.domains;
              routines = r.gathered.routines ++ None ∷ [];
            };
          })
      unfolding new_heading formal_points
      new_heading_is absent m =
          let in_limit : length r.gathered.routines < MAX_ROUTINES =
          (let z = many_gathered in let y = inside_block in let w = one_more in let o = own_one text I x absent
          in omega (arith, z, y, w, o, few)) in
          let reading : (heading f r.known m.said).1 (hidden_in_heading f m.said) ≡ Yes m.is.said =
          ap (λ l. (heading f l m.said).1 (hidden_in_heading f m.said)) s.known ∙ m.is.reading in
          let as_routines : Heading → Routines = λ h. record {
            known = r.known ++ RoutineMeaning h ∷ [];
            changes = r.changes;
            gathered = record {
              domains = r.gathered.domains;
              routines = r.gathered.routines ++ None ∷ [];
            };
          } in
          let names = map (spelled text) (points_of.all (map (headings.section_points f r.known) (heading_list m.said)))
          in
          let as_heading : ℕ → headings.Signature → Heading = λ z said. record {
            number = z;
            at = (heading_name m.said).from;
            sections = section_list said.0;
            result = said.1;
            names = names;
            is_forward = is_none (routine c x).block;
          } in
          let same_heading : as_heading (length r.gathered.routines) m.is.said ≡ m.heading = heading_parts
          (as_heading (length r.gathered.routines) m.is.said) m.heading
          (many_gathered ∙ sym (m.numbered ∙ number_is)) (sym m.is.at) (sym m.is.sections) (sym m.is.result)
          (ap (map (spelled text)) (points_told f r.known (heading_list m.said)) ∙ sym m.is.names)
          (ap is_none (read c x).block_is ∙ none_stays (block c) (routine_block x) ∙ sym m.forward) in
          ap (λ z. j.◌>>=◌ (provided z Limit (heading_name m.said).from (length r.gathered.routines))
          (λ z. j.◌>>=◌ ((heading f r.known m.said).1 (hidden_in_heading f m.said))
          (λ said. Yes (as_routines (as_heading z said)))))
          (lt-ltb (length r.gathered.routines) MAX_ROUTINES in_limit)
          ∙ ap (λ o. j.◌>>=◌ o (λ said. Yes (as_routines (as_heading (length r.gathered.routines) said)))) reading
          ∙ ap (λ h. Yes (as_routines h)) same_heading

      in_part_of : (j : ℕ) (y : Routine) → slice_get done j ≡ Some y → slice_get rs j ≡ Some y
      in_part_of j y e = ap (λ l. slice_get l j) split ∙ get_stays done (x ∷ rest) j y e

      forward_heading : (y : Routine) (h : syntax.Heading) → out-Routine y ≡ Routine-F.Forward h → routine_heading y
          ≡ Some h
      unfolding routine_heading
      forward_heading y h o = ap layer_heading o

      by_point : Standing c D rs
          (apart text p files made limits few v b Γ mine changes inner_is nested there room vacant low) mine.completed
          done rest x split → Intro
      unfolding introduce is_waiting
      by_point (new absent grown free at) =
          let i = length (points text D I) in
          let m = meant text p files made limits few v b Γ mine changes inner_is nested there room vacant low i
          (length done) x at in
          let is_one = own_one text I x absent in
          let longer : points text D J ≡ points text D I ++ OfRoutine (length done) x ∷ [] = ap (points text D) grown
          ∙ points_last text D I (length done) x in
          let count : length (points text D J) ≡ suc i = ap length longer ∙ length-append (points text D I)
          (OfRoutine (length done) x ∷ []) ∙ (let z : i + 1 ≡ suc i = omega arith in z) in
          let in_order : n < length made.routines =
          (let z = one_more in let y = inside_block in omega (arith, z, y, is_one)) in
          let tree = there_is made.routines n in_order in
          let made_now : Routines = record {
            known = r.known ++ RoutineMeaning m.heading ∷ [];
            changes = r.changes;
            gathered = record {
              domains = r.gathered.domains;
              routines = r.gathered.routines ++ None ∷ [];
            };
          } in
          let nothing : slice_get r.known i ≡ None = ap (λ l. slice_get l i) s.known ∙ slice_get_past
          (take i mine.known) i
          (let l = slice_get_within all i (OfRoutine (length done) x) at in let z = take_many i mine.known
          (omega (
            arith,
            l,
            many text p files made limits few v b Γ mine changes inner_is nested there room vacant
                low,
          )) in omega (arith, z)) in
          record {
            index = i;
            j = length done;
            y = x;
            at = at;
            named = refl;
            below = omega (arith, count);
            less = (let z = number_is in omega (arith, z, is_one));
            after = made_now;
            introduces = ap (introduce f (routine c x) r) nothing ∙ ap (headed f (routine c x) r)
                ((read c x).heading ∙ m.is_said) ∙ new_heading_is absent m;
            open_then = opened n q;
            known = ap (λ l. l ++ RoutineMeaning m.heading ∷ []) s.known ∙ sym
                (take_next mine.known i (RoutineMeaning m.heading) m.known) ∙ ap (λ k. take k mine.known) (sym count);
            changed = refl;
            domains = refl;
            routines = ap (λ l. l ++ None ∷ []) s.routines ∙ shown_new made.routines q n tree.0 tree.1
                (omega (arith, in_order)) ∙ ap (λ k. shown made.routines (opened n q) (n + k)) (sym is_one);
            low_then = λ l k. inner_low c D rs
                (apart text p files made limits few v b Γ mine changes inner_is nested there room vacant low)
                mine.completed mine.next done rest x split vacant q s.are absent l
                (omega (arith, k, is_one));
            with_block = λ none. subst
                (λ k. Are c D rs (apart text p files made limits few v b Γ mine changes inner_is nested there room
                vacant low) mine.completed mine.next (done ++ x ∷ []) vacant
                (closed k (opened n q))) (sym number_is)
                (whole_are c D rs (apart text p files made limits few v b Γ mine changes inner_is nested there room
                vacant low) mine.completed mine.next done rest x split vacant q s.are absent none);
            without = λ h o. forward_are c D rs
                (apart text p files made limits few v b Γ mine changes inner_is nested there room vacant low)
                mine.completed mine.next done rest x split vacant q s.are absent h
                o;
          }
      by_point (old i j y kept here among at in_done alike completes) =
          let grown : points text D J ≡ points text D I = ap (points text D) kept in
          let more = points_further c D rs
          (apart text p files made limits few v b Γ mine changes inner_is nested there room vacant low) mine.completed
          done rest x split in
          let below : i < length (points text D I) = slice_get_within (points text D I) i (OfRoutine j y) at in
          let in_all : slice_get all i ≡ Some (OfRoutine j y) = ap (λ l. slice_get l i)
          (more.1 ∙ ap (λ l. l ++ more.0) grown) ∙ get_stays (points text D I) more.0 i (OfRoutine j y) at in
          let m = meant text p files made limits few v b Γ mine changes inner_is nested there room vacant low i j y
          in_all in
          let none = own_none text I x among in
          let number_less : number j < n = (let l = forward_less c D rs
          (apart text p files made limits few v b Γ mine changes inner_is nested there room vacant low) mine.completed
          mine.next j
          (length done) y completes.heading (slice_get_within done j y in_done)
          (in_part_of j y in_done) completes.forward
          in let z = number_is in omega (arith, l, z)) in
          let tree = there_is made.routines (number j)
          (let z = one_more in let y = inside_block in omega (arith, z, y, number_less)) in
          let known_there : slice_get r.known i ≡ Some (RoutineMeaning m.heading) = ap (λ l. slice_get l i) s.known
          ∙ get_take mine.known (length (points text D I)) i below ∙ m.known in
          let slot : slice_get r.gathered.routines m.heading.number ≡ Some None =
          ap (slice_get r.gathered.routines) m.numbered ∙ ap (λ l. slice_get l (number j)) s.routines
          ∙ shown_at made.routines q n (number j) tree.0 number_less tree.1
          ∙ ap (λ b. Some (if b then None else Some tree.0))
          (is_open_there c D rs
          (apart text p files made limits few v b Γ mine changes inner_is nested there room vacant low) mine.completed
          mine.next done rest x split vacant q s.are j y in_done alike
          completes) in
          let told = heading_told f (take i mine.known) m.said (hidden_in_heading f m.said) m.is.said m.is.reading in
          let same_said : m.said ≡ completes.heading = same_Some m.said completes.heading
          (sym m.is_said ∙ forward_heading y completes.heading completes.forward) in
          let kind : is_some m.heading.result ≡ is_function completes.heading = ap is_some m.is.result ∙ told.result
          ∙ ap is_function same_said in
          record {
            index = i;
            j = j;
            y = y;
            at = in_all;
            named = alike;
            below = (let z = ap length grown in omega (arith, z, below));
            less = omega (arith, number_less);
            after = r;
            introduces = ap (introduce f (routine c x) r) known_there
                ∙ ap (λ b. provided (b && (is_open r.gathered m.heading && is_same_kind (routine c x) m.heading)) Twice
                (routine c x).name.from r) (may_so c y x completes)
                ∙ ap (λ o. provided (is_vacant o && is_same_kind (routine c x) m.heading) Twice
                (routine c x).name.from r) slot ∙ ap (λ b. provided b Twice (routine c x).name.from r)
                (kind_so c y x completes m.heading kind);
            open_then = q;
            known = s.known ∙ ap (λ l. take (length l) mine.known) (sym grown);
            changed = refl;
            domains = refl;
            routines = s.routines ∙ (let z : n ≡ n + own text I x = omega (arith, none)
                in ap (shown made.routines q) z);
            low_then = λ k l. s.are.below k (omega (arith, l, none));
            with_block = λ no. completed_are c D rs
                (apart text p files made limits few v b Γ mine changes inner_is nested there room vacant low)
                mine.completed mine.next done rest x split vacant q s.are j y
                in_done alike completes;
            without = λ h o. absurd
                (no_forward c D rs (apart text p files made limits few v b Γ mine changes inner_is nested there room
                vacant low) mine.completed mine.next done rest x split vacant q s.are j
                y in_done alike completes h o);
          }

      pub intro : Intro
      intro = by_point (routed c D rs
          (apart text p files made limits few v b Γ mine changes inner_is nested there room vacant low) mine.completed
          done rest x split)
