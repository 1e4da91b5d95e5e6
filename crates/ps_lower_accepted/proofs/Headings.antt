-- The types in a heading are known.
use Rattle.std.proofs.Common.{◌≡◌, ℕ, zero, suc, ◌≤◌, true, List, [], ◌∷◌, ◌++◌, length, map, Option, Some, None, sym}
use Rattle.std.proofs.Common.{◌∙◌, subst}
use Rattle.ps_check.proofs.EachItem.{each_append}
use Rattle.ps_text.specs.declared.Span.{Span}
use Rattle.ps_scan.specs.declared.token.Kind.{Kind}
use Rattle.ps_syntax.specs.declared.program.Heading as syntax_heading
use Rattle.ps_syntax.specs.declared.program.Section as syntax
use Rattle.ps_parse_grammar.specs.Symbols.{Tokens, Symbol, Separated, one, several}
use Rattle.ps_parse_grammar.specs.Programs as p
use Rattle.ps_parse_grammar.specs.Programs.{IsSection, IsFormals, IsFormalList, IsHeading, formals_within}
use Rattle.ps_parse_grammar.specs.Programs.{heading_within}
use Rattle.ps_tree.specs.Types.{DataType, OrdinalType, PointerType}
use Rattle.ps_check_judgement.specs.Judged.{Yes, steps}
use Rattle.ps_check_judgement.proofs.Binds.{then_yes, provided_yes, no_yes, inside_yes}
use Rattle.ps_check_judgement.proofs.Impossible.{never}
use Rattle.ps_check_names.specs.Spelling.{spelled}
use Rattle.ps_check_names.specs.Constants.{denoted}
use Rattle.ps_check_names.specs.Regions.{Region, BlockRegion, Point, BlockPoint, Meaning, ConstantMeaning, TextMeaning}
use Rattle.ps_check_names.specs.Regions.{TypeMeaning, VariableMeaning, ParameterMeaning, RoutineParameterMeaning}
use Rattle.ps_check_names.specs.Regions.{RoutineMeaning, FileMeaning, RequiredMeaning, LeftOutMeaning, Section}
use Rattle.ps_check_names.specs.Regions.{ValueSection, VariableSection, RoutineSection, Sections, no_section}
use Rattle.ps_check_names.specs.Regions.{section_before}
use Rattle.ps_check_declarations.specs.Points.{new_points}
use Rattle.ps_check_declarations.specs.Denoters.{Frame, Hidden, regions, type_at, type_named}
use Rattle.ps_check_declarations.specs.Headings.{Signature, is_result, section_list, few, formal_type, add_section}
use Rattle.ps_check_declarations.specs.Headings.{list_names, sections_of, result_type, heading, section}
use Rattle.ps_check_declarations.proofs.HeadingLemmas.{heading_Procedure, heading_Function, section_Value}
use Rattle.ps_check_declarations.proofs.HeadingLemmas.{section_Variable, section_Routine}
use Rattle.ps_lower_accepted.proofs.Lists.{Each, each_map}
use Rattle.ps_lower_accepted.proofs.Tables.{Table, Extends, TypeKnown, ordinal_more, type_more}
use Rattle.ps_lower_accepted.proofs.Standing.{IsResult, ResultKnown, SectionKnown, SectionsKnown, MeaningKnown}
use Rattle.ps_lower_accepted.proofs.Standing.{RegionKnown, RegionsKnown}
use Rattle.ps_lower_accepted.proofs.Names.{PointKnown, find_known}

-- ---- more is known

module _ (D E : Table) (x : Extends D E) (b c : ℕ) (le : b ≤ c) where
  pub result_more : (o : Option DataType) → ResultKnown D b o → ResultKnown E c o
  result_more None k = tt
  result_more (Some type) k = (k.0, type_more D E x b c le type k.1)

  mutual
    pub section_more : (s : Section) → SectionKnown D b s → SectionKnown E c s
    section_more (ValueSection count type) k = type_more D E x b c le type k
    section_more (VariableSection count type) k = type_more D E x b c le type k
    section_more (RoutineSection sections result) k = (sections_more sections k.0, result_more result k.1)

    pub sections_more : (ss : Sections) → SectionsKnown D b ss → SectionsKnown E c ss
    sections_more no_section k = tt
    sections_more (section_before s rest) k = (section_more s k.0, sections_more rest k.1)

  pub meaning_more : (m : Meaning) → MeaningKnown D b m → MeaningKnown E c m
  meaning_more (ConstantMeaning o n) k = (ordinal_more D E x o k.0, k.1)
  meaning_more (TextMeaning w) k = k
  meaning_more (TypeMeaning type) k = type_more D E x b c le type k
  meaning_more (VariableMeaning entry type) k = type_more D E x b c le type k
  meaning_more (ParameterMeaning entry type) k = type_more D E x b c le type k
  meaning_more (RoutineParameterMeaning entry sections result) k = (sections_more sections k.0, result_more result k.1)
  meaning_more (RoutineMeaning h) k = (sections_more h.sections k.0, result_more h.result k.1)
  meaning_more (FileMeaning file) k = tt
  meaning_more (RequiredMeaning r) k = tt
  meaning_more LeftOutMeaning k = tt

  pub meanings_more : (ms : List Meaning) → Each (MeaningKnown D b) ms → Each (MeaningKnown E c) ms
  meanings_more ms k = each_map (MeaningKnown D b) (MeaningKnown E c) meaning_more ms k

  pub types_all_more : (ts : List DataType) → Each (TypeKnown D b) ts → Each (TypeKnown E c) ts
  types_all_more ts k = each_map (TypeKnown D b) (TypeKnown E c) (type_more D E x b c le) ts k

  region_more : (Γ : Region) → RegionKnown D b Γ → RegionKnown E c Γ
  region_more (BlockRegion routine names known) k = meanings_more known k
  region_more Γ k = tt

  pub regions_more : (Γ : List Region) → RegionsKnown D b Γ → RegionsKnown E c Γ
  regions_more Γ k = each_map (RegionKnown D b) (RegionKnown E c) region_more Γ k

-- ---- names of types

point_type : (D : Table) (b at : ℕ) (q : Point) (type : DataType) → PointKnown D b q → type_at at q ≡ Yes type
    → TypeKnown D b type
unfolding type_at
point_type D b at (BlockPoint up (TypeMeaning t)) type k e = subst (TypeKnown D b) (inside_yes t type e) k
point_type D b at q type k e = absurd (no_yes e)

pub named_known : (D : Table) (b : ℕ) (text : List ℕ) (Γ : List Region) (at : Span) (type : DataType)
    → RegionsKnown D b Γ → type_named text Γ at ≡ Yes type → TypeKnown D b type
named_known D b text Γ at type k e =
    let t = then_yes (denoted text Γ at) (type_at at.from) type e in
    point_type D b at.from t.0 type (find_known D b Γ 0 0 (spelled text at) at.from t.0 k t.1) t.2

pub regions_known : (D : Table) (b : ℕ) (f : Frame) (hidden : Hidden) (known : List Meaning) → RegionsKnown D b f.outer
    → Each (MeaningKnown D b) known → RegionsKnown D b (regions f hidden known)
regions_known D b f [] known outer k = (k, outer)
regions_known D b f (own ∷ hidden) known outer k = (tt, regions_known D b f hidden known outer k)

result_is : (type : DataType) → is_result type ≡ true → IsResult type
unfolding is_result
result_is (OrdinalType o) e = tt
result_is (PointerType n) e = tt
result_is type e = never e

-- ---- headings

module _ (D : Table) (b : ℕ) (f : Frame) (known : List Meaning) (outer : RegionsKnown D b f.outer)
    (all_known : Each (MeaningKnown D b) known) where
  formal_known : (hidden : Hidden) (at : Span) (type : DataType) → formal_type f known hidden at ≡ Yes type
      → TypeKnown D b type
  formal_known hidden at type e = named_known D b f.text (regions f hidden known) at type
      (regions_known D b f hidden known outer all_known) e

  list_known : (ss : List Section) → Each (SectionKnown D b) ss → SectionsKnown D b (section_list ss)
  list_known [] k = tt
  list_known (s ∷ ss) k = (k.0, list_known ss k.1)

  -- what is read of a section, of a list of them, and of a heading
  abbrev SectionTells : syntax.Section → Type 0
  SectionTells x = (hidden : Hidden) (s : Section) → (section f known x).1 hidden ≡ Yes s → SectionKnown D b s

  abbrev ListTells : List syntax.Section → Type 0
  ListTells xs = Each SectionTells xs

  abbrev HeadingTells : Symbol syntax_heading.Heading → Type 0
  HeadingTells symbol = (x : syntax_heading.Heading) (ts r : Tokens) → symbol x ts r → (hidden : Hidden) (s : Signature)
      → (heading f known x).1 hidden ≡ Yes s → SectionsKnown D b (section_list s.0) × ResultKnown D b s.1

  sections_added : (names : List (List ℕ)) (hidden : Hidden) (xs : List syntax.Section) → ListTells xs
      → (done ss : List Section × ℕ) → Each (SectionKnown D b) done.0 → steps (add_section f known names hidden) done
      (map (section f known) xs) ≡ Yes ss → Each (SectionKnown D b) ss.0
  sections_added names hidden [] tells done ss k e = subst (λ (q : List Section × ℕ). Each (SectionKnown D b) q.0)
      (inside_yes done ss e) k
  sections_added names hidden (x ∷ xs) tells done ss k e =
      let t = then_yes (add_section f known names hidden done (section f known x))
      (λ d. steps (add_section f known names hidden) d (map (section f known) xs)) ss e in
      let n = then_yes (new_points f.text names [] done.1 (section f known x).0) _ t.0 t.1 in
      let s = then_yes ((section f known x).1 ((names, n.0) ∷ hidden)) _ t.0 n.2 in
      sections_added names hidden xs tells.1 t.0 ss
      (subst (λ (q : List Section × ℕ). Each (SectionKnown D b) q.0) (inside_yes (done.0 ++ s.0 ∷ [], n.0) t.0 s.2)
      (each_append (SectionKnown D b) done.0 (s.0 ∷ []) k (tells.0 ((names, n.0) ∷ hidden) s.0 s.1, tt))) t.2

  list_told : (xs : List syntax.Section) → ListTells xs → (at : ℕ) (hidden : Hidden) (ss : List Section)
      → sections_of f known (map (section f known) xs) at hidden ≡ Yes ss → SectionsKnown D b (section_list ss)
  unfolding sections_of
  list_told xs tells at hidden ss e =
      let names = list_names f known (map (section f known) xs) in
      let count = then_yes (few at (length names)) _ ss e in
      let done = then_yes (steps (add_section f known names hidden) ([], 0) (map (section f known) xs)) _ ss count.2 in
      list_known ss (subst (Each (SectionKnown D b)) (inside_yes done.0.0 ss done.2)
      (sections_added names hidden xs tells ([], 0) done.0 tt done.1))

  module _ (symbol : Symbol syntax_heading.Heading) (tells : HeadingTells symbol) where
    section_told : (x : syntax.Section) (ts r : Tokens) → IsSection symbol x ts r → SectionTells x
    section_told x ts r (p.value {at = at} {xs = xs} d) hidden s e =
        let n = then_yes (few at.from (length xs)) _ s (sym (section_Value f known xs at hidden) ∙ e) in
        let t = then_yes (formal_type f known hidden at) _ s n.2 in
        subst (SectionKnown D b) (inside_yes (ValueSection n.0 t.0) s t.2) (formal_known hidden at t.0 t.1)
    section_told x ts r (p.variable {at = at} {xs = xs} d) hidden s e =
        let n = then_yes (few at.from (length xs)) _ s (sym (section_Variable f known xs at hidden) ∙ e) in
        let t = then_yes (formal_type f known hidden at) _ s n.2 in
        subst (SectionKnown D b) (inside_yes (VariableSection n.0 t.0) s t.2) (formal_known hidden at t.0 t.1)
    section_told x ts r (p.routine {x = y} d) hidden s e =
        let t = then_yes ((heading f known y).1 hidden) _ s (sym (section_Routine f known y hidden) ∙ e) in
        subst (SectionKnown D b) (inside_yes (RoutineSection (section_list t.0.0) t.0.1) s t.2)
        (tells y ts r d hidden t.0 t.1)

    separated_told : (k : Kind) (xs : List syntax.Section) (ts r : Tokens) → Separated k (IsSection symbol) xs ts r
        → ListTells xs
    separated_told k xs ts r (one {x = x} d) = (section_told x ts r d, tt)
    separated_told k xs ts r (several {x = x} {xs = ys} {m = m} d ds) =
        (section_told x ts _ d, separated_told k ys m r ds)

    formals_told : (xs : List syntax.Section) (ts r : Tokens) → IsFormalList symbol xs ts r → ListTells xs
    formals_told xs ts r (p.formals {ts = us} d) = separated_told _ xs us _ d

  module _ (formals : Symbol (List syntax.Section))
      (tells : (xs : List syntax.Section) (ts r : Tokens) → formals xs ts r → ListTells xs) where
    present_told : (xs : List syntax.Section) (ts r : Tokens) → IsFormals formals xs ts r → ListTells xs
    present_told xs ts r p.absent = tt
    present_told xs ts r (p.present d) = tells xs ts r d

    heading_told : HeadingTells (IsHeading formals)
    heading_told x ts r (p.procedure {at = at} {xs = xs} {ts = us} d) hidden s e =
        let ss = then_yes (sections_of f known (map (section f known) xs) at.from hidden) _ s
        (sym (heading_Procedure f known at xs hidden) ∙ e) in
        subst (λ (q : Signature). SectionsKnown D b (section_list q.0) × ResultKnown D b q.1)
        (inside_yes (ss.0, None) s ss.2) (list_told xs (present_told xs us r d) at.from hidden ss.0 ss.1, tt)
    heading_told x ts r (p.function {at = at} {result = type} {xs = xs} {ts = us} d) hidden s e =
        let ss = then_yes (sections_of f known (map (section f known) xs) at.from hidden) _ s
        (sym (heading_Function f known at xs type hidden) ∙ e) in
        let t = then_yes (result_type f known hidden type) _ s ss.2 in
        let o = then_yes (formal_type f known hidden type) _ t.0 t.1 in
        let i = provided_yes (is_result o.0) _ _ o.0 t.0 o.2 in
        let known_result : IsResult o.0 × TypeKnown D b o.0 = (result_is o.0 i.0, formal_known hidden type o.0 o.1) in
        subst (λ (q : Signature). SectionsKnown D b (section_list q.0) × ResultKnown D b q.1)
        (inside_yes (ss.0, Some t.0) s t.2) (
          list_told xs (present_told xs us _ d) at.from hidden ss.0 ss.1,
          subst
              (λ y. IsResult y × TypeKnown D b y) i.1 known_result,
        )

  lists_told : (n : ℕ) (xs : List syntax.Section) (ts r : Tokens) → formals_within n xs ts r → ListTells xs
  lists_told zero xs ts r d = absurd d
  lists_told (suc n) xs ts r d = formals_told (IsHeading (formals_within n))
      (heading_told (formals_within n) (lists_told n)) xs ts r d

  pub headings_told : (n : ℕ) (x : syntax_heading.Heading) (ts r : Tokens) → heading_within n x ts r → (hidden : Hidden)
      (s : Signature) → (heading f known x).1 hidden ≡ Yes s → SectionsKnown D b (section_list s.0)
      × ResultKnown D b s.1
  headings_told n = heading_told (formals_within n) (lists_told n)
