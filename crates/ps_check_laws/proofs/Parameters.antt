-- Each name used in a heading that is read is found where the points before the routine are known, and no enclosing
-- formal parameter list defines the name.
use Rattle.std.proofs.Common.{◌≡◌, ℕ, List, [], ◌∷◌, ◌++◌, length, map, refl, sym, ap, ◌∙◌, subst}
use Rattle.ps_check.proofs.EachItem.{each_append}
use Rattle.ps_text.specs.declared.Span.{Span}
use Rattle.ps_syntax.specs.declared.program.Heading.{Heading, roll-Heading, map-Heading}
use Rattle.ps_syntax.specs.declared.program.Section as syntax
use Rattle.ps_syntax.specs.declared.program.Section.{roll-Section, map-Section}
use Rattle.ps_syntax.specs.declared.program.Heading.TheOpen.{Heading-F, Section-F}
use Rattle.ps_syntax.specs.declared.program.Heading.TheFolds.{fold-Section, fold-roll-Heading, fold-roll-Section}
use Rattle.ps_syntax.specs.declared.program.Heading.TheFolds.{ind-Heading}
use Rattle.ps_tree.specs.Types.{DataType}
use Rattle.ps_check_judgement.specs.Judged.{Yes, steps}
use Rattle.ps_check_judgement.proofs.Binds.{then_yes}
use Rattle.ps_check_names.specs.Spelling.{spelled}
use Rattle.ps_check_names.specs.Regions.{Meaning, Section, find}
use Rattle.ps_check_declarations.specs.Points.{all, new_points}
use Rattle.ps_check_declarations.specs.Denoters.{Frame, Hidden, regions, type_at}
use Rattle.ps_check_declarations.specs.Headings as headings
use Rattle.ps_check_declarations.specs.Headings.{Signature, HeadingReading, SectionReading, few, formal_type}
use Rattle.ps_check_declarations.specs.Headings.{add_section, list_names, sections_of, result_type, heading, section}
use Rattle.ps_check_laws.specs.Definitions.{joined}
use Rattle.ps_check_laws.specs.InDeclarations.{Uses, used, SectionPart, HeadingPart, section_step, list_uses}
use Rattle.ps_check_laws.specs.InDeclarations.{heading_step, heading_part}
use Rattle.ps_check_laws.proofs.EnclosedNames.{own_names, Known, AllKnown, one_known, known_inside}
use Rattle.ps_check_laws.proofs.HeadingPoints.{list_names_are}

abbrev section_part : syntax.Section → SectionPart
section_part = fold-Section HeadingPart SectionPart heading_step section_step

module _ (f : Frame) (known : List Meaning) where
  abbrev Found : Hidden → Uses → Type 0
  Found hidden us = AllKnown f (own_names hidden) known (length known) us

  pub record HeadingFound (x : Heading) : Type 0 where
    pub name : (heading f known x).0 ≡ (heading_part x).0
    pub uses : (hidden : Hidden) (said : Signature) → (heading f known x).1 hidden ≡ Yes said → Found hidden
        (heading_part x).1

  record SectionFound (x : syntax.Section) : Type 0 where
    names : (section f known x).0 ≡ (section_part x).0
    uses : (hidden : Hidden) (s : Section) → (section f known x).1 hidden ≡ Yes s → Found hidden (section_part x).1

  abbrev AtHeading : Type 0
  AtHeading = (x : Heading) × HeadingFound x

  abbrev AtSection : Type 0
  AtSection = (x : syntax.Section) × SectionFound x

  abbrev first_of : List AtSection → List syntax.Section
  first_of ys = map (λ y. y.0) ys

  type_found : (hidden : Hidden) (name : Span) (type : DataType) → formal_type f known hidden name ≡ Yes type
      → Found hidden (used name ∷ [])
  type_found hidden name type e = (let q = then_yes (find (regions f hidden known) (spelled f.text name) name.from)
      (type_at name.from) type e in (one_known f hidden known name q.0 q.1, tt))

  all_names : (ys : List AtSection) → all (map (λ x. x.0) (map (section f known) (first_of ys))) ≡ all
      (map (λ x. x.0) (map section_part (first_of ys)))
  all_names [] = refl
  all_names (y ∷ ys) = ap (λ l. l ++ all (map (λ x. x.0) (map (section f known) (first_of ys)))) y.1.names
      ∙ ap (λ l. (section_part y.0).0 ++ l) (all_names ys)

  all_found : (names : List (List ℕ)) (hidden : Hidden) (ys : List AtSection) (s t : List Section × ℕ) → steps
      (add_section f known names hidden) s (map (section f known) (first_of ys)) ≡ Yes t
      → AllKnown f (names ∷ own_names hidden) known (length known)
      (joined (map (λ x. x.1) (map section_part (first_of ys))))
  all_found names hidden [] s t e = tt
  all_found names hidden (y ∷ ys) s t e =
      let one = then_yes (add_section f known names hidden s (section f known y.0)) _ t e in
      let n = then_yes (new_points f.text names [] s.1 (section f known y.0).0) _ one.0 one.1 in
      let r = then_yes ((section f known y.0).1 ((names, n.0) ∷ hidden)) _ one.0 n.2 in
      each_append (Known f (names ∷ own_names hidden) known (length known)) (section_part y.0).1
      (joined (map (λ x. x.1) (map section_part (first_of ys)))) (y.1.uses ((names, n.0) ∷ hidden) r.0 r.1)
      (all_found names hidden ys one.0 t one.2)

  list_found : (at : ℕ) (hidden : Hidden) (ys : List AtSection) (t : List Section) → sections_of f known
      (map (section f known) (first_of ys)) at hidden ≡ Yes t → Found hidden
      (list_uses (map section_part (first_of ys)))
  unfolding sections_of
  list_found at hidden ys t e =
      let xs = map (section f known) (first_of ys) in
      let names = list_names f known xs in
      let count = then_yes (few at (length names)) _ t e in
      let done = then_yes (steps (add_section f known names hidden) ([], 0) xs) _ t count.2 in
      let points = all (map (λ x. x.0) (map section_part (first_of ys))) in
      let is : names ≡ map (spelled f.text) points = list_names_are f known at hidden xs t e ∙ ap (map (spelled f.text))
      (all_names ys) in
      let us = joined (map (λ x. x.1) (map section_part (first_of ys))) in
      known_inside f (own_names hidden) known (length known) points us
      (subst (λ l. AllKnown f (l ∷ own_names hidden) known (length known) us) is
      (all_found names hidden ys ([], 0) done.0 done.1))

  heading_by : (x : Heading) (r : HeadingReading) (p : HeadingPart) → heading f known x ≡ r → heading_part x ≡ p → r.0
      ≡ p.0 → ((hidden : Hidden) (said : Signature) → r.1 hidden ≡ Yes said → Found hidden p.1) → HeadingFound x
  heading_by x r p a b e h = record {
    name = ap (λ (q : HeadingReading). q.0) a ∙ e ∙ ap (λ (q : HeadingPart). q.0) (sym b);
    uses = λ hidden said g. subst (λ (q : HeadingPart). Found hidden q.1) (sym b)
        (h hidden said (ap (λ (q : HeadingReading). q.1 hidden) (sym a) ∙ g));
  }

  section_by : (x : syntax.Section) (r : SectionReading) (p : SectionPart) → section f known x ≡ r → section_part x ≡ p
      → r.0 ≡ p.0 → ((hidden : Hidden) (s : Section) → r.1 hidden ≡ Yes s → Found hidden p.1) → SectionFound x
  section_by x r p a b e h = record {
    names = ap (λ (q : SectionReading). q.0) a ∙ e ∙ ap (λ (q : SectionPart). q.0) (sym b);
    uses = λ hidden s g. subst (λ (q : SectionPart). Found hidden q.1) (sym b)
        (h hidden s (ap (λ (q : SectionReading). q.1 hidden) (sym a) ∙ g));
  }

  heading_layer : (y : Heading-F AtHeading AtSection) → HeadingFound
      (roll-Heading (map-Heading AtHeading AtSection Heading syntax.Section (λ e. e.0) (λ e. e.0) y))
  unfolding headings.heading_step
  heading_layer (Heading-F.Procedure name ys) =
      let z : Heading-F Heading syntax.Section = Heading-F.Procedure name (first_of ys) in
      heading_by (roll-Heading z) _ _ (fold-roll-Heading HeadingReading SectionReading (headings.heading_step f known)
      (headings.section_step f known) z) (fold-roll-Heading HeadingPart SectionPart heading_step section_step z)
      refl
      (λ hidden said e. (let ss = then_yes (sections_of f known (map (section f known) (first_of ys)) name.from hidden)
      _ said e in list_found name.from hidden ys ss.0 ss.1))
  heading_layer (Heading-F.Function name ys type) =
      let z : Heading-F Heading syntax.Section = Heading-F.Function name (first_of ys) type in
      heading_by (roll-Heading z) _ _ (fold-roll-Heading HeadingReading SectionReading (headings.heading_step f known)
      (headings.section_step f known) z) (fold-roll-Heading HeadingPart SectionPart heading_step section_step z)
      refl
      (λ hidden said e. (let ss = then_yes (sections_of f known (map (section f known) (first_of ys)) name.from hidden)
      _ said e in
      let r = then_yes (result_type f known hidden type) _ said ss.2 in
      let q = then_yes (formal_type f known hidden type) _ r.0 r.1 in
      each_append (Known f (own_names hidden) known (length known)) (list_uses (map section_part (first_of ys)))
      (used type ∷ []) (list_found name.from hidden ys ss.0 ss.1) (type_found hidden type q.0 q.1)))

  section_layer : (y : Section-F AtHeading AtSection) → SectionFound
      (roll-Section (map-Section AtHeading AtSection Heading syntax.Section (λ e. e.0) (λ e. e.0) y))
  unfolding headings.section_step
  section_layer (Section-F.Value names type) =
      let z : Section-F Heading syntax.Section = Section-F.Value names type in
      section_by (roll-Section z) _ _ (fold-roll-Section HeadingReading SectionReading (headings.heading_step f known)
      (headings.section_step f known) z) (fold-roll-Section HeadingPart SectionPart heading_step section_step z)
      refl
      (λ hidden s e. (let n = then_yes (few type.from (length names)) _ s e in let q = then_yes
      (formal_type f known hidden type) _ s n.2 in type_found hidden type q.0 q.1))
  section_layer (Section-F.Variable names type) =
      let z : Section-F Heading syntax.Section = Section-F.Variable names type in
      section_by (roll-Section z) _ _ (fold-roll-Section HeadingReading SectionReading (headings.heading_step f known)
      (headings.section_step f known) z) (fold-roll-Section HeadingPart SectionPart heading_step section_step z)
      refl
      (λ hidden s e. (let n = then_yes (few type.from (length names)) _ s e in let q = then_yes
      (formal_type f known hidden type) _ s n.2 in type_found hidden type q.0 q.1))
  section_layer (Section-F.Routine h) =
      let z : Section-F Heading syntax.Section = Section-F.Routine h.0 in
      section_by (roll-Section z) _ _ (fold-roll-Section HeadingReading SectionReading (headings.heading_step f known)
      (headings.section_step f known) z) (fold-roll-Section HeadingPart SectionPart heading_step section_step z)
      (ap (λ n. n ∷ []) h.1.name)
      (λ hidden s e. (let q = then_yes ((heading f known h.0).1 hidden) _ s e in h.1.uses hidden q.0 q.1))

  pub headings_found : (x : Heading) → HeadingFound x
  headings_found = ind-Heading HeadingFound SectionFound
      (λ x y is. subst (λ z. HeadingFound (roll-Heading z)) is (heading_layer y))
      (λ x y is. subst (λ z. SectionFound (roll-Section z)) is (section_layer y))
