-- The names of an accepted heading's formal parameters: the same number as the entries, each once.
use Rattle.std.proofs.Common.{◌≡◌, ℕ, zero, suc, ◌+◌, List, [], ◌∷◌, ◌++◌, length, map, nat_le, Some, None, refl, sym}
use Rattle.std.proofs.Common.{ap, ◌∙◌, subst, append-nil, length-append, arith}
use Rattle.std.proofs.lemmas.List.{map-append, length-map}
use Rattle.ps_text.specs.declared.Span.{Span}
use Rattle.ps_syntax.specs.declared.program.Heading as syntax
use Rattle.ps_syntax.specs.declared.program.Heading.{out-Heading, roll-Heading, roll-out-Heading}
use Rattle.ps_syntax.specs.declared.program.Heading.TheVariants as h
use Rattle.ps_syntax.specs.declared.program.Section as syntax_section
use Rattle.ps_syntax.specs.declared.program.Section.{out-Section, roll-Section, roll-out-Section}
use Rattle.ps_syntax.specs.declared.program.Heading.TheOpen.{Heading-F, Section-F}
use Rattle.ps_syntax.specs.declared.program.Heading.TheFolds.{fold-roll-Section}
use Rattle.ps_tree.specs.Types.{DataType}
use Rattle.ps_check_judgement.specs.declared.refusal.Rule.TheVariants.{Limit}
use Rattle.ps_check_judgement.specs.Judged.{Yes, some_or, steps}
use Rattle.ps_check_judgement.proofs.Binds.{inside_yes, then_yes, provided_yes}
use Rattle.ps_check_names.specs.Spelling.{spelled}
use Rattle.ps_check_names.specs.Regions.{Meaning, ParameterMeaning, RoutineParameterMeaning, Section, ValueSection}
use Rattle.ps_check_names.specs.Regions.{VariableSection, RoutineSection, Sections, no_section, section_before}
use Rattle.ps_check_names.specs.Regions.{one_more}
use Rattle.ps_check_declarations.specs.Points.{Points, all, add_points, new_points}
use Rattle.ps_check_declarations.specs.Denoters.{Frame, Hidden}
use Rattle.ps_check_declarations.specs.Headings.{Signature, HeadingReading, SectionReading, few, formal_type}
use Rattle.ps_check_declarations.specs.Headings.{section_step, heading_step, add_section, list_names, sections_of}
use Rattle.ps_check_declarations.specs.Headings.{result_type, section_list, heading, section, section_points}
use Rattle.ps_check_declarations.specs.Headings.{section_count}
use Rattle.ps_check_declarations.proofs.HeadingLemmas.{heading_Procedure, heading_Function}
use Rattle.ps_check.specs.Readings.{HeadingLayer, heading_list}
use Rattle.ps_check.specs.Entries as entries
use Rattle.ps_check.specs.Entries.{Entries, add_names, add_entry, add_parameters, add_sections}
use Rattle.ps_check.specs.RegionNames.{Each}
use Rattle.ps_check.proofs.Fresh.{AreNew, new_both, new_fresh, Fresh, fresh_added, points_names, Ahead}
use Rattle.ps_check.proofs.NewPoints.{IsPlain, points_new}
use Rattle.ps_check.proofs.Equations.{list_Procedure, list_Function}
use Rattle.ps_check.proofs.EachItem.{each_append}

-- the number of formal parameters
abbrev pub total : Sections → ℕ
total no_section = 0
total (section_before s rest) = section_count s + total rest

abbrev counts : List Section → ℕ
counts [] = 0
counts (s ∷ ss) = section_count s + counts ss

total_list : (ss : List Section) → total (section_list ss) ≡ counts ss
total_list [] = refl
total_list (s ∷ ss) = ap (λ n. section_count s + n) (total_list ss)

counts_last : (ss : List Section) (s : Section) → counts (ss ++ s ∷ []) ≡ counts ss + section_count s
counts_last [] s = (let z : section_count s + 0 ≡ 0 + section_count s = omega arith in z)
counts_last (t ∷ ss) s = (let q = counts_last ss s in omega (arith, q))

-- ---- entries

-- n further entries, for formal parameters
pub record Entered (e : Entries) (n : ℕ) (d : Entries) : Type 0 where
  pub count : length d.known ≡ length e.known + n
  pub plain : Each IsPlain e.known → Each IsPlain d.known

entered_both : (a b c : Entries) (m n k : ℕ) → Entered a m b → Entered b n c → k ≡ m + n → Entered a k c
entered_both a b c m n k x y e = record {
  count = y.count ∙ (let q : length b.known + n ≡ length a.known + k = omega (arith, x.count, e) in q);
  plain = λ p. y.plain (x.plain p);
}

entered_none : (e d : Entries) → Yes e ≡ Yes d → Entered e 0 d
entered_none e d q = subst (λ z. Entered e 0 z) (inside_yes e d q) (record {
  count = (let z : length e.known ≡ length e.known + 0 = omega arith in z);
  plain = λ p. p;
})

module _ (whence : ℕ) where
  one_entered : (meaning : ℕ → Meaning) → ((i : ℕ) → IsPlain (meaning i)) → (e d : Entries) → add_entry whence meaning e
      ≡ Yes d → Entered e 1 d
  one_entered meaning plain e d q =
      let n = then_yes (some_or Limit whence (one_more e.next)) _ d q in
      let known : d.known ≡ e.known ++ meaning e.next ∷ [] = sym (ap (λ (z : Entries). z.known) (inside_yes _ d n.2)) in
      record {
        count = ap length known ∙ length-append e.known (meaning e.next ∷ []);
        plain = λ p. subst (Each IsPlain) (sym known)
            (each_append IsPlain e.known (meaning e.next ∷ []) p (plain e.next, tt));
      }

  parameters_entered : (type : DataType) (n : ℕ) (e d : Entries) → add_parameters whence type n e ≡ Yes d
      → Entered e n d
  unfolding add_parameters
  parameters_entered type zero e d q = entered_none e d q
  parameters_entered type (suc n) e d q =
      let one = then_yes (add_entry whence (λ i. ParameterMeaning i type) e) _ d q in
      entered_both e one.0 d 1 n (suc n) (one_entered (λ i. ParameterMeaning i type) (λ i. tt) e one.0 one.1)
      (parameters_entered type n one.0 d one.2) (let z : suc n ≡ 1 + n = omega arith in z)

  section_entered : (s : Section) (e d : Entries) → entries.add_section whence e s ≡ Yes d → Entered e
      (section_count s) d
  unfolding entries.add_section section_count
  section_entered (ValueSection count type) e d q = parameters_entered type count e d q
  section_entered (VariableSection count type) e d q = parameters_entered type count e d q
  section_entered (RoutineSection sections result) e d q = one_entered (λ i. RoutineParameterMeaning i sections result)
      (λ i. tt) e d q

  pub sections_entered : (ss : Sections) (e d : Entries) → add_sections whence e ss ≡ Yes d → Entered e (total ss) d
  unfolding add_sections
  sections_entered no_section e d q = entered_none e d q
  sections_entered (section_before s rest) e d q =
      let one = then_yes (entries.add_section whence e s) _ d q in
      entered_both e one.0 d (section_count s) (total rest) (section_count s + total rest)
      (section_entered s e one.0 one.1) (sections_entered rest one.0 d one.2) refl

-- ---- sections

module _ (f : Frame) (known : List Meaning) where
  abbrev Counted : SectionReading → Type 0
  Counted r = (hidden : Hidden) (t : Section) → r.1 hidden ≡ Yes t → section_count t ≡ length r.0

  value_counted : (names : Points) (type : Span) → Counted (section_step f known (Section-F.Value names type))
  unfolding section_step section_count
  value_counted names type hidden t e =
      let n = then_yes (few type.from (length names)) _ t e in
      let q = provided_yes (nat_le (length names) 32) Limit type.from (length names) n.0 n.1 in
      let ty = then_yes (formal_type f known hidden type) _ t n.2 in
      sym (ap section_count (inside_yes (ValueSection n.0 ty.0) t ty.2)) ∙ sym q.1

  variable_counted : (names : Points) (type : Span) → Counted (section_step f known (Section-F.Variable names type))
  unfolding section_step section_count
  variable_counted names type hidden t e =
      let n = then_yes (few type.from (length names)) _ t e in
      let q = provided_yes (nat_le (length names) 32) Limit type.from (length names) n.0 n.1 in
      let ty = then_yes (formal_type f known hidden type) _ t n.2 in
      sym (ap section_count (inside_yes (VariableSection n.0 ty.0) t ty.2)) ∙ sym q.1

  routine_counted : (r : HeadingReading) → Counted (section_step f known (Section-F.Routine r))
  unfolding section_step section_count
  routine_counted r hidden t e =
      let s = then_yes (r.1 hidden) _ t e in
      sym (ap section_count (inside_yes (RoutineSection (section_list s.0.0) s.0.1) t s.2))

  section_at : (s : syntax_section.Section) (x : Section-F syntax.Heading syntax_section.Section) → out-Section s ≡ x
      → Counted (section f known s)
  section_at s (Section-F.Value names type) o =
      subst Counted (sym (ap (section f known) (sym (roll-out-Section s) ∙ ap roll-Section o)
      ∙ fold-roll-Section HeadingReading SectionReading (heading_step f known) (section_step f known)
      (Section-F.Value names type))) (value_counted names type)
  section_at s (Section-F.Variable names type) o =
      subst Counted (sym (ap (section f known) (sym (roll-out-Section s) ∙ ap roll-Section o)
      ∙ fold-roll-Section HeadingReading SectionReading (heading_step f known) (section_step f known)
      (Section-F.Variable names type))) (variable_counted names type)
  section_at s (Section-F.Routine x) o =
      subst Counted (sym (ap (section f known) (sym (roll-out-Section s) ∙ ap roll-Section o)
      ∙ fold-roll-Section HeadingReading SectionReading (heading_step f known) (section_step f known)
      (Section-F.Routine x))) (routine_counted (heading f known x))

  abbrev points_of : List syntax_section.Section → Points
  points_of xs = all (map (section_points f known) xs)

  list_new : (names : List (List ℕ)) (hidden : Hidden) (xs : List syntax_section.Section) (s t : List Section × ℕ)
      → steps (add_section f known names hidden) s (map (section f known) xs) ≡ Yes t
      → AreNew names [] s.1 (map (spelled f.text) (points_of xs)) × (counts t.0 ≡ counts s.0 + length (points_of xs))
  unfolding section_points
  list_new names hidden [] s t e = (
    tt,
    ap (λ z. counts z.0) (sym (inside_yes s t e))
        ∙ (let z : counts s.0 ≡ counts s.0 + 0 = omega arith in z),
  )
  list_new names hidden (x ∷ xs) s t e =
      let one = then_yes (add_section f known names hidden s (section f known x)) _ t e in
      let n = then_yes (new_points f.text names [] s.1 (section f known x).0) _ one.0 one.1 in
      let y = then_yes ((section f known x).1 ((names, n.0) ∷ hidden)) _ one.0 n.2 in
      let p = points_new f.text names [] (section f known x).0 s.1 n.0 n.1 in
      let counted : section_count y.0 ≡ length (section f known x).0 = section_at x (out-Section x) refl
      ((names, n.0) ∷ hidden) y.0 y.1 in
      let made : (s.0 ++ y.0 ∷ [], n.0) ≡ one.0 = inside_yes (s.0 ++ y.0 ∷ [], n.0) one.0 y.2 in
      let rest = list_new names hidden xs one.0 t one.2 in
      let start : n.0 ≡ s.1 + length (map (spelled f.text) (section f known x).0) = p.1 ∙ ap (λ k. s.1 + k)
      (sym (length-map (section f known x).0 (spelled f.text))) in (
        subst (AreNew names [] s.1) (sym (map-append (spelled f.text) (section f known x).0 (points_of xs)))
            (new_both names [] s.1 n.0 (map (spelled f.text) (section f known x).0)
            (map (spelled f.text) (points_of xs)) p.0
            (subst (λ (k : ℕ). AreNew names [] k (map (spelled f.text) (points_of xs)))
            (sym (ap (λ (z : List Section × ℕ). z.1) made)) rest.0) start),
        rest.1
            ∙ (let c : counts one.0.0 ≡ counts s.0 + section_count y.0 = ap (λ (z : List Section × ℕ). counts z.0)
            (sym made) ∙ counts_last s.0 y.0 in
            let l : length ((section f known x).0 ++ points_of xs) ≡ length (section f known x).0 + length
            (points_of xs) = length-append (section f known x).0 (points_of xs) in
            omega (arith, c, counted, l)),
      )

  names_of_sections : (xs : List syntax_section.Section) → all
      (map (λ (x : SectionReading). x.0) (map (section f known) xs)) ≡ points_of xs
  unfolding section_points
  names_of_sections [] = refl
  names_of_sections (x ∷ xs) = ap (λ l. (section f known x).0 ++ l) (names_of_sections xs)

  sections_fit : (xs : List syntax_section.Section) (at : ℕ) (hidden : Hidden) (ss : List Section) → sections_of f known
      (map (section f known) xs) at hidden ≡ Yes ss → length (add_names [] (map (spelled f.text) (points_of xs)))
      ≡ total (section_list ss)
  unfolding sections_of list_names
  sections_fit xs at hidden ss e =
      let names : List (List ℕ) = list_names f known (map (section f known) xs) in
      let m : List (List ℕ) = map (spelled f.text) (points_of xs) in
      let c = then_yes (few at (length names)) _ ss e in
      let d = then_yes (steps (add_section f known names hidden) ([], 0) (map (section f known) xs)) _ ss c.2 in
      let new = list_new names hidden xs ([], 0) d.0 d.1 in
      let ahead : Ahead names [] (m ++ []) = record {
        behind = [];
        are = ap (add_points f.text []) (names_of_sections xs) ∙ points_names f.text [] (points_of xs)
            ∙ ap (add_names []) (sym (append-nil m)) ∙ sym (append-nil (add_names [] (m ++ [])));
      } in
      let fresh : Fresh [] m = new_fresh names [] m [] [] 0 refl new.0 ahead in
      ap length (fresh_added [] m fresh) ∙ length-map (points_of xs) (spelled f.text)
      ∙ (let q : length (points_of xs) ≡ counts d.0.0 = omega (arith, new.1) in q) ∙ sym (total_list d.0.0)
      ∙ ap (λ l. total (section_list l)) (inside_yes d.0.0 ss d.2)

  heading_at : (x : syntax.Heading) (layer : HeadingLayer) → out-Heading x ≡ layer → (hidden : Hidden) (s : Signature)
      → (heading f known x).1 hidden ≡ Yes s → length (add_names [] (map (spelled f.text) (points_of (heading_list x))))
      ≡ total (section_list s.0)
  heading_at x (Heading-F.Procedure name xs) o hidden s e =
      let is : x ≡ h.Procedure name xs = sym (roll-out-Heading x) ∙ ap roll-Heading o ∙ h.rolls-Procedure name xs in
      let ss = then_yes (sections_of f known (map (section f known) xs) name.from hidden) _ s
      (sym (heading_Procedure f known name xs hidden) ∙ ap (λ y. (heading f known y).1 hidden) (sym is) ∙ e) in
      ap (λ l. length (add_names [] (map (spelled f.text) (points_of l)))) (ap heading_list is ∙ list_Procedure name xs)
      ∙ sections_fit xs name.from hidden ss.0 ss.1 ∙ ap (λ (z : Signature). total (section_list z.0))
      (inside_yes (ss.0, None) s ss.2)
  heading_at x (Heading-F.Function name xs type) o hidden s e =
      let is : x ≡ h.Function name xs type = sym (roll-out-Heading x) ∙ ap roll-Heading o
      ∙ h.rolls-Function name xs type in
      let ss = then_yes (sections_of f known (map (section f known) xs) name.from hidden) _ s
      (sym (heading_Function f known name xs type hidden) ∙ ap (λ y. (heading f known y).1 hidden) (sym is) ∙ e) in
      let t = then_yes (result_type f known hidden type) _ s ss.2 in
      ap (λ l. length (add_names [] (map (spelled f.text) (points_of l))))
      (ap heading_list is ∙ list_Function name xs type) ∙ sections_fit xs name.from hidden ss.0 ss.1
      ∙ ap (λ (z : Signature). total (section_list z.0)) (inside_yes (ss.0, Some t.0) s t.2)

  pub heading_fits : (x : syntax.Heading) (hidden : Hidden) (s : Signature) → (heading f known x).1 hidden ≡ Yes s
      → length (add_names [] (map (spelled f.text) (all (map (section_points f known) (heading_list x))))) ≡ total
      (section_list s.0)
  heading_fits x hidden s e = heading_at x (out-Heading x) refl hidden s e
