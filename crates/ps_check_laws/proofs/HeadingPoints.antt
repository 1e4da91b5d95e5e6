-- The points of a heading: the names of its formal parameters, and their number.
use Rattle.std.proofs.Common.{◌≡◌, ℕ, ◌+◌, ◌≤◌, List, [], ◌∷◌, ◌++◌, length, map, nat_le, Some, None, is_some}
use Rattle.std.proofs.Common.{refl, sym, ap, ◌∙◌, append_assoc, append-nil, length-append, arith}
use Rattle.std.proofs.lemmas.List.{map-append, length-map}
use Rattle.std.proofs.lemmas.Bool.{leb-true}
use Rattle.ps_syntax.specs.declared.program.Heading as syntax
use Rattle.ps_syntax.specs.declared.program.Heading.{out-Heading, roll-Heading, roll-out-Heading}
use Rattle.ps_syntax.specs.declared.program.Section as syntax_section
use Rattle.ps_syntax.specs.declared.program.Section.{out-Section, roll-Section, roll-out-Section}
use Rattle.ps_syntax.specs.declared.program.Heading.TheOpen.{Heading-F, Section-F}
use Rattle.ps_syntax.specs.declared.program.Heading.TheFolds.{fold-roll-Heading, fold-roll-Section}
use Rattle.ps_check_judgement.specs.Judged.{Judged, Yes, steps}
use Rattle.ps_check_judgement.proofs.Binds.{inside_yes, then_yes, provided_yes}
use Rattle.ps_check_names.specs.Spelling.{spelled}
use Rattle.ps_check_names.specs.Regions.{Meaning, Section, ValueSection, VariableSection, RoutineSection}
use Rattle.ps_check_declarations.specs.Points.{Points, all, add_points, add_point, new_points}
use Rattle.ps_check_declarations.specs.Denoters.{Frame, Hidden}
use Rattle.ps_check_declarations.specs.Headings as headings
use Rattle.ps_check_declarations.specs.Headings.{HeadingReading, SectionReading, Signature, section_list, few}
use Rattle.ps_check_declarations.specs.Headings.{formal_type, list_names, sections_of, result_type, heading_step}
use Rattle.ps_check_declarations.specs.Headings.{section_step, heading, section, section_count}
use Rattle.ps_check.specs.Readings.{layer_list, heading_name, heading_list}
use Rattle.ps_check.specs.Entries.{add_names, first_entry}
use Rattle.ps_check.specs.Readings as readings
use Rattle.ps_check_laws.specs.Definitions.{layer_points, section_points, formal_points, layer_entries, entries_before}
use Rattle.ps_check_laws.specs.Forward.{layer_is_function, is_function}
use Rattle.ps_check_laws.proofs.New.{Names, are_new, points_append, points_both}

-- the number of parameters in sections
abbrev pub total : List Section → ℕ
total [] = 0
total (s ∷ ss) = section_count s + total ss

total_more : (ss : List Section) (s : Section) → total (ss ++ s ∷ []) ≡ total ss + section_count s
total_more [] s = omega arith
total_more (x ∷ ss) s = let q = total_more ss s in omega (arith, q)

-- names are added as their points are
names_points : (text : List ℕ) (ps : Points) (A : Names) → add_names A (map (spelled text) ps) ≡ add_points text A ps
unfolding add_points
names_points text [] A = refl
names_points text (p ∷ ps) A = names_points text ps (add_point text A p)

-- ---- headings

module _ (f : Frame) (known : List Meaning) where
  name_at : (h : syntax.Heading) (x : Heading-F syntax.Heading syntax_section.Section) → out-Heading h ≡ x
      → (heading f known h).0 ≡ readings.layer_name x
  unfolding heading_step
  name_at h (Heading-F.Procedure name xs) o = ap (λ y. (heading f known y).0)
      (sym (roll-out-Heading h) ∙ ap roll-Heading o) ∙ ap (λ (r : HeadingReading). r.0)
      (fold-roll-Heading HeadingReading SectionReading (heading_step f known) (section_step f known)
      (Heading-F.Procedure name xs))
  name_at h (Heading-F.Function name xs type) o = ap (λ y. (heading f known y).0)
      (sym (roll-out-Heading h) ∙ ap roll-Heading o) ∙ ap (λ (r : HeadingReading). r.0)
      (fold-roll-Heading HeadingReading SectionReading (heading_step f known) (section_step f known)
      (Heading-F.Function name xs type))

  -- what is known of a section: its points, and their number
  record SectionTold (s : syntax_section.Section) : Type 0 where
    points : (section f known s).0 ≡ section_points s
    count : (hidden : Hidden) (x : Section) → (section f known s).1 hidden ≡ Yes x → section_count x ≡ length
        (section_points s)

  by_reading : (s : syntax_section.Section) (points : Points) (reading : Hidden → Judged Section) → section f known s
      ≡ (points, reading) → section_points s ≡ points
      → ((hidden : Hidden) (x : Section) → reading hidden ≡ Yes x → section_count x ≡ length points) → SectionTold s
  by_reading s points reading e p count = record {
    points = ap (λ (r : SectionReading). r.0) e ∙ sym p;
    count = λ hidden x q. count hidden x (ap (λ (r : SectionReading). r.1 hidden) (sym e) ∙ q) ∙ ap length (sym p);
  }

  section_at : (s : syntax_section.Section) (x : Section-F syntax.Heading syntax_section.Section) → out-Section s ≡ x
      → SectionTold s
  unfolding section_step section_points section_count heading_name
  section_at s (Section-F.Value names type) o = by_reading s names _
      (ap (section f known) (sym (roll-out-Section s) ∙ ap roll-Section o)
      ∙ fold-roll-Section HeadingReading SectionReading (heading_step f known) (section_step f known)
      (Section-F.Value names type))
      (ap layer_points o)
      (λ hidden x q.
      let n = then_yes (few type.from (length names)) _ x q in
      let t = then_yes (formal_type f known hidden type) _ x n.2 in
      ap section_count (sym (inside_yes (ValueSection n.0 t.0) x t.2)) ∙ sym
      (provided_yes (nat_le (length names) 32) _ _ (length names) n.0 n.1).1)
  section_at s (Section-F.Variable names type) o = by_reading s names _
      (ap (section f known) (sym (roll-out-Section s) ∙ ap roll-Section o)
      ∙ fold-roll-Section HeadingReading SectionReading (heading_step f known) (section_step f known)
      (Section-F.Variable names type))
      (ap layer_points o)
      (λ hidden x q.
      let n = then_yes (few type.from (length names)) _ x q in
      let t = then_yes (formal_type f known hidden type) _ x n.2 in
      ap section_count (sym (inside_yes (VariableSection n.0 t.0) x t.2)) ∙ sym
      (provided_yes (nat_le (length names) 32) _ _ (length names) n.0 n.1).1)
  section_at s (Section-F.Routine h) o =
      let r = heading f known h in
      let named : r.0 ≡ heading_name h = name_at h (out-Heading h) refl in
      by_reading s (r.0 ∷ []) _
      (ap (section f known) (sym (roll-out-Section s) ∙ ap roll-Section o)
      ∙ fold-roll-Section HeadingReading SectionReading (heading_step f known) (section_step f known)
      (Section-F.Routine h))
      (ap layer_points o ∙ ap (λ n. n ∷ []) (sym named))
      (λ hidden x q.
      let t = then_yes (r.1 hidden) _ x q in
      ap section_count (sym (inside_yes (RoutineSection (section_list t.0.0) t.0.1) x t.2)))

  section_told : (s : syntax_section.Section) → SectionTold s
  section_told s = section_at s (out-Section s) refl

  -- the spellings of the formal parameters are those of their points
  pub points_told : (xs : List syntax_section.Section) → all (map (headings.section_points f known) xs) ≡ all
      (map section_points xs)
  unfolding headings.section_points
  points_told [] = refl
  points_told (x ∷ xs) = ap (λ l. l ++ all (map (headings.section_points f known) xs)) (section_told x).points
      ∙ ap (λ l. section_points x ++ l) (points_told xs)

  -- ---- their number

  abbrev Sections' : Type 0
  Sections' = List Section × ℕ

  sections_count : (names : Names) (hidden : Hidden) (xs : List syntax_section.Section) (done ss : Sections') → steps
      (headings.add_section f known names hidden) done (map (section f known) xs) ≡ Yes ss → total ss.0 ≡ total done.0
      + length (all (map section_points xs))
  sections_count names hidden [] done ss e = ap (λ (z : Sections'). total z.0) (sym (inside_yes done ss e))
      ∙ (let z : total done.0 ≡ total done.0 + 0 = omega arith in z)
  sections_count names hidden (x ∷ xs) done ss e =
      let one = then_yes (headings.add_section f known names hidden done (section f known x)) _ ss e in
      let n = then_yes (new_points f.text names [] done.1 (section f known x).0) _ one.0 one.1 in
      let s = then_yes ((section f known x).1 ((names, n.0) ∷ hidden)) _ one.0 n.2 in
      let made : total one.0.0 ≡ total done.0 + section_count s.0 = ap (λ (z : Sections'). total z.0)
      (sym (inside_yes (done.0 ++ s.0 ∷ [], n.0) one.0 s.2)) ∙ total_more done.0 s.0 in
      let count = (section_told x).count ((names, n.0) ∷ hidden) s.0 s.1 in
      let rest = sections_count names hidden xs one.0 ss one.2 in
      let l = length-append (section_points x) (all (map section_points xs)) in
      omega (arith, made, count, rest, l)

  -- the names of a list that is read are those of its parameters
  sections_new : (N : Names) (hidden : Hidden) (xs : List SectionReading) (A : Names) (done ss : Sections') → N
      ≡ add_points f.text A (all (map (λ x. x.0) xs)) → length A ≡ done.1 → steps
      (headings.add_section f known N hidden) done xs ≡ Yes ss
      → N ≡ A ++ map (spelled f.text) (all (map (λ x. x.0) xs))
  unfolding add_points
  sections_new N hidden [] A done ss whole many e = whole ∙ sym (append-nil A)
  sections_new N hidden (x ∷ xs) A done ss whole many e =
      let one = then_yes (headings.add_section f known N hidden done x) _ ss e in
      let n = then_yes (new_points f.text N [] done.1 x.0) _ one.0 one.1 in
      let s = then_yes (x.1 ((N, n.0) ∷ hidden)) _ one.0 n.2 in
      let more : Points = all (map (λ (y : SectionReading). y.0) xs) in
      let split = points_both f.text x.0 more A in
      let new = are_new f.text N [] (λ B. add_points f.text B more) (points_append f.text more) x.0 A done.1 n.0
      (whole ∙ split) many n.1 in
      let mine = map (spelled f.text) x.0 in
      let next = ap (λ (z : Sections'). z.1) (sym (inside_yes (done.0 ++ s.0 ∷ [], n.0) one.0 s.2)) in
      let count = new.many in
      let names = length-map x.0 (spelled f.text) in
      let l = length-append A mine in
      sections_new N hidden xs (A ++ mine) one.0 ss (whole ∙ split ∙ ap (λ B. add_points f.text B more) new.added)
      (omega (arith, many, next, count, names, l)) one.2
      ∙ append_assoc A mine (map (spelled f.text) more) ∙ ap (λ l. A ++ l) (sym (map-append (spelled f.text) x.0 more))

  pub list_names_are : (at : ℕ) (hidden : Hidden) (xs : List SectionReading) (ss : List Section)
      → sections_of f known xs at hidden ≡ Yes ss → list_names f known xs ≡ map (spelled f.text)
      (all (map (λ x. x.0) xs))
  unfolding sections_of list_names
  list_names_are at hidden xs ss e =
      let n = then_yes (few at (length (list_names f known xs))) _ ss e in
      let done = then_yes (steps (headings.add_section f known (list_names f known xs) hidden) ([], 0) xs) _ ss n.2 in
      sections_new (list_names f known xs) hidden xs [] ([], 0) done.0 refl refl done.1

  pub list_points : (xs : List syntax_section.Section) → all
      (map (λ (x : SectionReading). x.0) (map (section f known) xs)) ≡ all (map section_points xs)
  list_points [] = refl
  list_points (x ∷ xs) = ap (λ l. l ++ all (map (λ (x : SectionReading). x.0) (map (section f known) xs)))
      (section_told x).points ∙ ap (λ l. section_points x ++ l) (list_points xs)

  -- a list has at most 32 of them
  list_few : (at : ℕ) (hidden : Hidden) (xs : List syntax_section.Section) (ss : List Section) → sections_of f known
      (map (section f known) xs) at hidden ≡ Yes ss → length (all (map section_points xs)) ≤ 32
  unfolding sections_of
  list_few at hidden xs ss e =
      let names = list_names f known (map (section f known) xs) in
      let n = then_yes (few at (length names)) _ ss e in
      let q = leb-true (length names) 32 (provided_yes (nat_le (length names) 32) _ _ (length names) n.0 n.1).0 in
      let l = ap length (list_names_are at hidden (map (section f known) xs) ss e ∙ ap (map (spelled f.text))
      (list_points xs)) in
      let m = length-map (all (map section_points xs)) (spelled f.text) in
      omega (arith, q, l, m)

  list_count : (at : ℕ) (hidden : Hidden) (xs : List syntax_section.Section) (ss : List Section) → sections_of f known
      (map (section f known) xs) at hidden ≡ Yes ss → total ss ≡ length (all (map section_points xs))
  unfolding sections_of
  list_count at hidden xs ss e =
      let names = list_names f known (map (section f known) xs) in
      let n = then_yes (few at (length names)) _ ss e in
      let done = then_yes (steps (headings.add_section f known names hidden) ([], 0) (map (section f known) xs)) _ ss
      n.2 in
      ap total (sym (inside_yes done.0.0 ss done.2)) ∙ sections_count names hidden xs ([], 0) done.0 done.1
      ∙ (let m = length (all (map section_points xs)) in let z : 0 + m ≡ m = omega arith in z)

  list_added : (at : ℕ) (hidden : Hidden) (xs : List syntax_section.Section) (ss : List Section) → sections_of f known
      (map (section f known) xs) at hidden ≡ Yes ss
      → add_names [] (map (spelled f.text) (all (map section_points xs))) ≡ map (spelled f.text)
      (all (map section_points xs))
  unfolding list_names
  list_added at hidden xs ss e =
      names_points f.text (all (map section_points xs)) [] ∙ ap (add_points f.text []) (sym (list_points xs))
      ∙ list_names_are at hidden (map (section f known) xs) ss e ∙ ap (map (spelled f.text)) (list_points xs)

  -- what a heading says of its formal parameters and its result
  pub record HeadingTold (h : syntax.Heading) (said : Signature) : Type 0 where
    pub count : total said.0 ≡ length (formal_points h)
    pub is_short : length (formal_points h) ≤ 32
    pub entries : entries_before h ≡ first_entry said.1 + length (formal_points h)
    pub result : is_some said.1 ≡ is_function h
    -- a parameter's name has one defining point
    pub added : add_names [] (map (spelled f.text) (formal_points h)) ≡ map (spelled f.text) (formal_points h)

  heading_at : (h : syntax.Heading) (x : Heading-F syntax.Heading syntax_section.Section) (hidden : Hidden)
      (said : Signature) → out-Heading h ≡ x → (heading f known h).1 hidden ≡ Yes said → HeadingTold h said
  unfolding heading_step formal_points entries_before heading_list is_function
  heading_at h (Heading-F.Procedure name xs) hidden said o e =
      let is = ap (λ y. (heading f known y).1 hidden) (sym (roll-out-Heading h) ∙ ap roll-Heading o)
      ∙ ap (λ (r : HeadingReading). r.1 hidden) (fold-roll-Heading HeadingReading SectionReading (heading_step f known)
      (section_step f known) (Heading-F.Procedure name xs)) in
      let ss = then_yes (sections_of f known (map (section f known) xs) name.from hidden) _ said (sym is ∙ e) in
      let same_said : (ss.0, None) ≡ said = inside_yes (ss.0, None) said ss.2 in
      let list : heading_list h ≡ xs = ap layer_list o in
      record {
        count = ap (λ (r : Signature). total r.0) (sym same_said) ∙ list_count name.from hidden xs ss.0 ss.1
            ∙ ap (λ l. length (all (map section_points l))) (sym list);
        is_short = (let z = ap (λ l. length (all (map section_points l))) list
            in let y = list_few name.from hidden xs ss.0 ss.1 in omega (arith, z, y));
        entries = ap (layer_entries (length (formal_points h))) o
            ∙ (let n = length (formal_points h) in let z : n ≡ 0 + n = omega arith in z)
            ∙ ap (λ (r : Signature). first_entry r.1 + length (formal_points h)) same_said;
        result = ap (λ (r : Signature). is_some r.1) (sym same_said) ∙ ap layer_is_function (sym o);
        added = ap (λ l. add_names [] (map (spelled f.text) (all (map section_points l)))) list
            ∙ list_added name.from hidden xs ss.0 ss.1 ∙ ap (λ l. map (spelled f.text) (all (map section_points l)))
            (sym list);
      }
  heading_at h (Heading-F.Function name xs type) hidden said o e =
      let is = ap (λ y. (heading f known y).1 hidden) (sym (roll-out-Heading h) ∙ ap roll-Heading o)
      ∙ ap (λ (r : HeadingReading). r.1 hidden) (fold-roll-Heading HeadingReading SectionReading (heading_step f known)
      (section_step f known) (Heading-F.Function name xs type)) in
      let ss = then_yes (sections_of f known (map (section f known) xs) name.from hidden) _ said (sym is ∙ e) in
      let t = then_yes (result_type f known hidden type) _ said ss.2 in
      let same_said : (ss.0, Some t.0) ≡ said = inside_yes (ss.0, Some t.0) said t.2 in
      let list : heading_list h ≡ xs = ap layer_list o in
      record {
        count = ap (λ (r : Signature). total r.0) (sym same_said) ∙ list_count name.from hidden xs ss.0 ss.1
            ∙ ap (λ l. length (all (map section_points l))) (sym list);
        is_short = (let z = ap (λ l. length (all (map section_points l))) list
            in let y = list_few name.from hidden xs ss.0 ss.1 in omega (arith, z, y));
        entries = ap (layer_entries (length (formal_points h))) o
            ∙ (let n = length (formal_points h) in let z : n + 1 ≡ 1 + n = omega arith in z)
            ∙ ap (λ (r : Signature). first_entry r.1 + length (formal_points h)) same_said;
        result = ap (λ (r : Signature). is_some r.1) (sym same_said) ∙ ap layer_is_function (sym o);
        added = ap (λ l. add_names [] (map (spelled f.text) (all (map section_points l)))) list
            ∙ list_added name.from hidden xs ss.0 ss.1 ∙ ap (λ l. map (spelled f.text) (all (map section_points l)))
            (sym list);
      }

  pub heading_told : (h : syntax.Heading) (hidden : Hidden) (said : Signature) → (heading f known h).1 hidden ≡ Yes said
      → HeadingTold h said
  heading_told h hidden said e = heading_at h (out-Heading h) hidden said refl e
