-- Formal parameters and program parameters: the first points of a block, and what they give their names there.
use Rattle.std.proofs.Common.{◌≡◌, ℕ, zero, suc, ◌+◌, ◌<◌, ◌≤◌, Bool, true, false, not, if◌then◌else◌, List, [], ◌∷◌}
use Rattle.std.proofs.Common.{◌++◌, length, map, take, nat_lt, Option, Some, None, slice_get, refl, sym, ap, ◌∙◌, subst}
use Rattle.std.proofs.Common.{append_assoc, append-nil, length-append, ltb-true, arith}
use Rattle.std.proofs.lemmas.List.{map-append}
use Rattle.ps_text.specs.declared.Span.{Span}
use Rattle.ps_syntax.specs.declared.program.Heading as syntax
use Rattle.ps_tree.specs.Types.{DataType}
use Rattle.ps_check_names.specs.declared.meaning.File.{File}
use Rattle.ps_check_names.specs.declared.meaning.File.TheVariants.{Input, Output}
use Rattle.ps_check_judgement.specs.declared.refusal.Rule.TheVariants.{NotInProfile, Twice, Limit}
use Rattle.ps_check_judgement.specs.Judged.{Yes, No, ◌>>=◌, provided, some_or, steps}
use Rattle.ps_check_judgement.proofs.Binds.{no_yes, inside_yes, then_yes, provided_yes, some_or_yes}
use Rattle.ps_check_judgement.proofs.Impossible.{none_some}
use Rattle.ps_check_names.specs.Spelling.{spelled, same, has}
use Rattle.ps_check_names.specs.Regions.{Meaning, ParameterMeaning, RoutineParameterMeaning, RoutineMeaning}
use Rattle.ps_check_names.specs.Regions.{FileMeaning, Heading, Section, ValueSection, VariableSection, RoutineSection}
use Rattle.ps_check_names.specs.Regions.{Sections, no_section, section_before, BlockPoint, find, one_more}
use Rattle.ps_check_declarations.specs.Points.{Points, all}
use Rattle.ps_check_declarations.specs.Denoters.{Frame}
use Rattle.ps_check_declarations.specs.Headings.{section_list, parameters, section_meanings, section_count}
use Rattle.ps_check_declarations.specs.Headings.{formal_meanings}
use Rattle.ps_check.specs.Readings.{heading_name, Start}
use Rattle.ps_check.specs.Entries.{Entries, add_names, add_entry, add_parameters, add_section, add_sections}
use Rattle.ps_check.specs.Entries.{first_entry, start}
use Rattle.ps_check.specs.Blocks.{hidden_in_heading}
use Rattle.ps_check.specs.Programs.{Files, file_named, list_file}
use Rattle.ps_check.proofs.EachItem.{each_append}
use Rattle.ps_check_laws.specs.Definitions.{Declarations, OfFile, OfFormal, Definition, OfDeclaration, numbered}
use Rattle.ps_check_laws.specs.Definitions.{formal_points, formal_declarations, entries_before, names_of, point}
use Rattle.std.specs.Prelude.{codes}
use Rattle.std.proofs.lemmas.Bool.{lt-ltb}
use Rattle.std.proofs.lemmas.Option.{same_Some}
use Rattle.ps_check_laws.specs.Meanings.{IsHeading, Defines}
use Rattle.ps_check_laws.proofs.Lists.{Each}
use Rattle.ps_check_laws.proofs.Declared.{Stand, one_more_declared}
use Rattle.ps_check_laws.proofs.HeadingPoints.{heading_told, total}

-- ---- the entries of the formal parameters

parameters_length : (entry n : ℕ) (type : DataType) → length (parameters entry n type) ≡ n
parameters_length entry zero type = refl
parameters_length entry (suc n) type = ap suc (parameters_length (entry + 1) n type)

section_length : (entry : ℕ) (s : Section) → length (section_meanings entry s) ≡ section_count s
unfolding section_meanings section_count
section_length entry (ValueSection count type) = parameters_length entry count type
section_length entry (VariableSection count type) = parameters_length entry count type
section_length entry (RoutineSection sections result) = refl

formals_length : (entry : ℕ) (ss : List Section) → length (formal_meanings entry (section_list ss)) ≡ total ss
unfolding formal_meanings
formals_length entry [] = refl
formals_length entry (s ∷ ss) =
    let a = length-append (section_meanings entry s) (formal_meanings (entry + section_count s) (section_list ss)) in
    let b = section_length entry s in
    let c = formals_length (entry + section_count s) ss in
    omega (arith, a, b, c)

-- none of them is a routine of a heading
abbrev pub IsPlain : Meaning → Type 0
IsPlain (RoutineMeaning h) = ⊥
IsPlain m = Unit {0}

parameters_plain : (entry n : ℕ) (type : DataType) → Each IsPlain (parameters entry n type)
parameters_plain entry zero type = tt
parameters_plain entry (suc n) type = (tt, parameters_plain (entry + 1) n type)

section_plain : (entry : ℕ) (s : Section) → Each IsPlain (section_meanings entry s)
unfolding section_meanings
section_plain entry (ValueSection count type) = parameters_plain entry count type
section_plain entry (VariableSection count type) = parameters_plain entry count type
section_plain entry (RoutineSection sections result) = (tt, tt)

pub formals_plain : (entry : ℕ) (ss : Sections) → Each IsPlain (formal_meanings entry ss)
unfolding formal_meanings
formals_plain entry no_section = tt
formals_plain entry (section_before s rest) = each_append IsPlain (section_meanings entry s)
    (formal_meanings (entry + section_count s) rest) (section_plain entry s)
    (formals_plain (entry + section_count s) rest)

-- what a step adds
pub record Entered (e : Entries) (ms : List Meaning) (n : ℕ) (d : Entries) : Type 0 where
  pub known : d.known ≡ e.known ++ ms
  pub next : d.next ≡ e.next + n

entered_at : (e : Entries) (ms : List Meaning) (n : ℕ) (d g : Entries) → Yes d ≡ Yes g → Entered e ms n d
    → Entered e ms n g
entered_at e ms n d g q x = subst (Entered e ms n) (inside_yes d g q) x

entered_none : (e : Entries) → Entered e [] 0 e
entered_none e = record { known = sym (append-nil e.known); next = omega arith }

entered_both : (e d g : Entries) (ms ns : List Meaning) (m n : ℕ) → Entered e ms m d → Entered d ns n g → Entered e
    (ms ++ ns) (m + n) g
entered_both e d g ms ns m n a b = record {
  known = b.known ∙ ap (λ l. l ++ ns) a.known ∙ append_assoc e.known ms ns;
  next = (let x = a.next in let y = b.next in omega (arith, x, y));
}

next_is : (b : Bool) (n m : ℕ) → (if b then Some n else None) ≡ Some m → n ≡ m
next_is true n m e = same_Some n m e
next_is false n m e = absurd (none_some e)

module _ (at : ℕ) where
  one_entered : (meaning : ℕ → Meaning) (e d : Entries) → add_entry at meaning e ≡ Yes d → Entered e
      (meaning e.next ∷ []) 1 d
  one_entered meaning e d q =
      let n = then_yes (some_or Limit at (one_more e.next)) _ d q in
      let next = next_is (nat_lt e.next 4294967295) (e.next + 1) n.0 (some_or_yes Limit at (one_more e.next) n.0 n.1) in
      entered_at e (meaning e.next ∷ []) 1 (record {
        next = n.0;
        known = e.known ++ meaning e.next ∷ [];
      }) d n.2 (record {
        known = refl;
        next = sym next;
      })

  parameters_entered : (type : DataType) (n : ℕ) (e d : Entries) → add_parameters at type n e ≡ Yes d → Entered e
      (parameters e.next n type) n d
  unfolding add_parameters
  parameters_entered type zero e d q = entered_at e [] 0 e d q (entered_none e)
  parameters_entered type (suc n) e d q =
      let one = then_yes (add_entry at (λ i. ParameterMeaning i type) e) _ d q in
      let a = one_entered (λ i. ParameterMeaning i type) e one.0 one.1 in
      let b = parameters_entered type n one.0 d one.2 in
      let c = entered_both e one.0 d (ParameterMeaning e.next type ∷ []) (parameters one.0.next n type) 1 n a b in
      record {
        known = c.known ∙ ap (λ k. e.known ++ ParameterMeaning e.next type ∷ parameters k n type) a.next;
        next = (let x = c.next in omega (arith, x));
      }

  pub section_entered : (s : Section) (e d : Entries) → add_section at e s ≡ Yes d → Entered e
      (section_meanings e.next s) (section_count s) d
  unfolding add_section section_meanings section_count
  section_entered (ValueSection count type) e d q = parameters_entered type count e d q
  section_entered (VariableSection count type) e d q = parameters_entered type count e d q
  section_entered (RoutineSection sections result) e d q = one_entered
      (λ i. RoutineParameterMeaning i sections result) e d q

  pub sections_entered : (ss : List Section) (e d : Entries) → add_sections at e (section_list ss) ≡ Yes d → Entered e
      (formal_meanings e.next (section_list ss)) (total ss) d
  unfolding add_sections formal_meanings
  sections_entered [] e d q = entered_at e [] 0 e d q (entered_none e)
  sections_entered (s ∷ ss) e d q =
      let one = then_yes (add_section at e s) _ d q in
      let a = section_entered s e one.0 one.1 in
      let b = sections_entered ss one.0 d one.2 in
      let c = entered_both e one.0 d (section_meanings e.next s) (formal_meanings one.0.next (section_list ss))
      (section_count s) (total ss) a b in
      record {
        known = c.known ∙ ap (λ k. e.known ++ (section_meanings e.next s ++ formal_meanings k (section_list ss)))
            a.next;
        next = c.next;
      }

-- ---- there are enough entries

module _ (at : ℕ) where
  entry_enters : (meaning : ℕ → Meaning) (e : Entries) → e.next < 4294967295 → add_entry at meaning e ≡ Yes (record {
    next = e.next + 1;
    known = e.known ++ meaning e.next ∷ [];
  })
  entry_enters meaning e l = ap (λ b. some_or Limit at (if b then Some (e.next + 1) else None) >>= (λ n. Yes (record {
    next = n;
    known = e.known ++ meaning e.next ∷ [];
  }))) (lt-ltb e.next 4294967295 l)

  parameters_enter : (type : DataType) (n : ℕ) (e : Entries) → e.next + n ≤ 4294967295 → (d : Entries)
      × (add_parameters at type n e ≡ Yes d)
  unfolding add_parameters
  parameters_enter type zero e l = (e, refl)
  parameters_enter type (suc n) e l =
      let next : Entries = record { next = e.next + 1; known = e.known ++ ParameterMeaning e.next type ∷ [] } in
      let rest = parameters_enter type n next (omega (arith, l)) in (
        rest.0,
        ap (λ o. o >>= add_parameters at type n)
            (entry_enters (λ i. ParameterMeaning i type) e (omega (arith, l))) ∙ rest.1,
      )

  section_enters : (s : Section) (e : Entries) → e.next + section_count s ≤ 4294967295 → (d : Entries)
      × (add_section at e s ≡ Yes d)
  unfolding add_section section_count
  section_enters (ValueSection count type) e l = parameters_enter type count e l
  section_enters (VariableSection count type) e l = parameters_enter type count e l
  section_enters (RoutineSection sections result) e l = (
    record {
      next = e.next + 1;
      known = e.known ++ RoutineParameterMeaning e.next sections result ∷ [];
    },
    entry_enters (λ i. RoutineParameterMeaning i sections result) e (omega (arith, l)),
  )

  pub sections_enter : (ss : List Section) (e : Entries) → e.next + total ss ≤ 4294967295 → (d : Entries)
      × (add_sections at e (section_list ss) ≡ Yes d)
  unfolding add_sections
  sections_enter [] e l = (e, refl)
  sections_enter (s ∷ ss) e l =
      let one = section_enters s e (omega (arith, l)) in
      let count = (section_entered at s e one.0 one.1).next in
      let rest = sections_enter ss one.0 (omega (arith, l, count)) in
      (rest.0, ap (λ o. o >>= (λ d. add_sections at d (section_list ss))) one.1 ∙ rest.1)

-- ---- what the block of a heading begins with

pub record Begins (chain : List ℕ) (h : Heading) (x : syntax.Heading) (s : Start) : Type 0 where
  pub chain_is : s.chain ≡ h.number ∷ chain
  pub deep : length chain < 16
  pub names : s.names ≡ h.names
  pub known : s.known ≡ formal_meanings (first_entry h.result) h.sections
  pub many : length s.known ≡ length (formal_points x)
  pub first : s.first ≡ entries_before x

-- the names of a heading's formal parameters are added as they are
heading_names : (f : Frame) (before : List Meaning) (x : syntax.Heading) (h : Heading) → IsHeading f before x h
    → add_names [] h.names ≡ h.names
heading_names f before x h is = ap (add_names []) is.names
    ∙ (heading_told f before x (hidden_in_heading f x) is.said is.reading).added
    ∙ sym is.names

pub begun : (f : Frame) (before : List Meaning) (x : syntax.Heading) (h : Heading) (at : ℕ) (chain : List ℕ) (s : Start)
    → IsHeading f before x h → start at chain h ≡ Yes s → Begins chain h x s
unfolding start
begun f before x h at chain s is e =
    let inner = then_yes (provided (nat_lt (length chain) 16) Limit at (h.number ∷ chain)) _ s e in
    let chained = provided_yes (nat_lt (length chain) 16) Limit at (h.number ∷ chain) inner.0 inner.1 in
    let begin : Entries = record { next = first_entry h.result; known = [] } in
    let d = then_yes (add_sections at begin h.sections) _ s inner.2 in
    let made : Start = record { chain = inner.0; names = add_names [] h.names; known = d.0.known; first = d.0.next } in
    let same_start : made ≡ s = inside_yes made s d.2 in
    let entered = sections_entered at is.said.0 begin d.0 (ap (add_sections at begin) (sym is.sections) ∙ d.1) in
    let told = heading_told f before x (hidden_in_heading f x) is.said is.reading in
    let known : d.0.known ≡ formal_meanings (first_entry h.result) h.sections = entered.known
    ∙ ap (formal_meanings (first_entry h.result)) (sym is.sections) in
    let count : length d.0.known ≡ length (formal_points x) = ap length entered.known ∙ formals_length
    (first_entry h.result) is.said.0 ∙ told.count in
    record {
      chain_is = ap (λ (z : Start). z.chain) (sym same_start) ∙ sym chained.1;
      deep = ltb-true (length chain) 16 chained.0;
      names = ap (λ (z : Start). z.names) (sym same_start) ∙ heading_names f before x h is;
      known = ap (λ (z : Start). z.known) (sym same_start) ∙ known;
      many = ap (λ (z : Start). length z.known) (sym same_start) ∙ count;
      first = ap (λ (z : Start). z.first) (sym same_start) ∙ entered.next
          ∙ ap (λ n. first_entry h.result + n) told.count ∙ ap (λ r. first_entry r + length (formal_points x)) is.result
          ∙ sym told.entries;
    }

start_parts : (a b : Start) → a.chain ≡ b.chain → a.names ≡ b.names → a.known ≡ b.known → a.first ≡ b.first → a ≡ b
start_parts a b c n k f =
    let as_start : List ℕ → List (List ℕ) → List Meaning → ℕ → Start = λ c n k f. record {
      chain = c;
      names = n;
      known = k;
      first = f;
    } in
    ap (λ x. as_start x a.names a.known a.first) c ∙ ap (λ x. as_start b.chain x a.known a.first) n
    ∙ ap (λ x. as_start b.chain b.names x a.first) k ∙ ap (as_start b.chain b.names b.known) f

short_entry : (r : Option DataType) → first_entry r ≤ 1
short_entry None = omega arith
short_entry (Some type) = omega arith

-- and that is how it begins
pub begins_so : (f : Frame) (before : List Meaning) (x : syntax.Heading) (h : Heading) (at : ℕ) (chain : List ℕ)
    (s : Start) → IsHeading f before x h → length chain < 16 → s.chain ≡ h.number ∷ chain → s.names ≡ h.names
    → s.known ≡ formal_meanings (first_entry h.result) h.sections → s.first ≡ entries_before x → start at chain h
    ≡ Yes s
unfolding start
begins_so f before x h at chain s is deep chained names known first =
    let told = heading_told f before x (hidden_in_heading f x) is.said is.reading in
    let begin : Entries = record { next = first_entry h.result; known = [] } in
    let entry = short_entry h.result in
    let count = told.count in
    let short = told.is_short in
    let d = sections_enter at is.said.0 begin (omega (arith, entry, count, short)) in
    let made : Start = record {
      chain = h.number ∷ chain;
      names = add_names [] h.names;
      known = d.0.known;
      first = d.0.next;
    } in
    let starts : start at chain h ≡ Yes made =
    ap (λ b. provided b Limit at (h.number ∷ chain)
    >>= (λ inner. add_sections at begin h.sections >>= (λ e. Yes (record {
      chain = inner;
      names = add_names [] h.names;
      known = e.known;
      first = e.next;
    })))) (lt-ltb (length chain) 16 deep)
    ∙ ap (λ o. o >>= (λ e. Yes (record {
      chain = h.number ∷ chain;
      names = add_names [] h.names;
      known = e.known;
      first = e.next;
    }))) (ap (add_sections at begin) is.sections ∙ d.1) in
    let b = begun f before x h at chain made is starts in
    starts ∙ ap (λ z. Yes z) (start_parts made s (sym chained) (b.names ∙ sym names) (b.known ∙ sym known)
    (b.first ∙ sym first))

-- ---- they are the first points

numbered_at : (x : syntax.Heading) (n : ℕ) (names : Points) (i : ℕ) (d : Definition) → slice_get
    (map OfDeclaration (numbered (OfFormal x) n names)) i ≡ Some d → (name : Span)
    × (d ≡ OfDeclaration (OfFormal x (n + i) name))
numbered_at x n [] i d e = absurd (none_some e)
numbered_at x n (name ∷ names) zero d e = (
  name,
  sym (same_Some (OfDeclaration (OfFormal x n name)) d e)
      ∙ (let z : n ≡ n + 0 = omega arith in ap (λ k. OfDeclaration (OfFormal x k name)) z),
)
numbered_at x n (name ∷ names) (suc i) d e =
    let r = numbered_at x (n + 1) names i d e in
    (r.0, r.1 ∙ (let z : (n + 1) + i ≡ n + suc i = omega arith in ap (λ k. OfDeclaration (OfFormal x k r.0)) z))

numbered_length : (x : syntax.Heading) (n : ℕ) (names : Points) → length
    (map OfDeclaration (numbered (OfFormal x) n names)) ≡ length names
numbered_length x n [] = refl
numbered_length x n (name ∷ names) = ap suc (numbered_length x (n + 1) names)

pub formals_stand : (f : Frame) (first : ℕ) (numbers : ℕ → ℕ) (x : syntax.Heading) (h : Heading) (known : List Meaning)
    → find f.outer (spelled f.text (heading_name x)) (heading_name x).from ≡ Yes (BlockPoint 0 (RoutineMeaning h))
    → known ≡ formal_meanings (first_entry h.result) h.sections → length known ≡ length (formal_points x)
    → Stand f first numbers (formal_declarations x) known
unfolding formal_declarations
formals_stand f first numbers x h known found is many = record {
  many = many ∙ sym (numbered_length x 0 (formal_points x));
  are = λ i d m e g.
      let r = numbered_at x 0 (formal_points x) i d e in
      subst (λ y. Defines f first numbers (take i known) y m) (sym r.1) (
        h,
        found,
        (let z : 0 + i ≡ i = omega arith
            in ap (slice_get (formal_meanings (first_entry h.result) h.sections)) z) ∙ ap (λ l. slice_get l i) (sym is)
            ∙ g,
      );
}

-- ---- program parameters

file_is : (b c : Bool) (at : ℕ) (m : Meaning)
    → (if b then Yes (FileMeaning Input) else (if c then Yes (FileMeaning Output) else No NotInProfile at)) ≡ Yes m
    → (file : File) × (m ≡ FileMeaning file)
file_is true c at m e = (Input, sym (inside_yes (FileMeaning Input) m e))
file_is false true at m e = (Output, sym (inside_yes (FileMeaning Output) m e))
file_is false false at m e = absurd (no_yes e)

module _ (f : Frame) (first : ℕ) (numbers : ℕ → ℕ) where
  pub record Listed (xs : Declarations) (files : Files) : Type 0 where
    pub names : files.names ≡ names_of f.text (map OfDeclaration xs)
    pub stands : Stand f first numbers xs files.known

  pub files_listed : (ps : Points) (xs : Declarations) (files all : Files) → steps (list_file f.text) files ps ≡ Yes all
      → Listed xs files → Listed (xs ++ map OfFile ps) all
  unfolding list_file names_of
  files_listed [] xs files all e l = subst (Listed (xs ++ [])) (inside_yes files all e)
      (subst (λ y. Listed y files) (sym (append-nil xs)) l)
  files_listed (at ∷ ps) xs files all e l =
      let s = spelled f.text at in
      let one = then_yes (list_file f.text files at) _ all e in
      let m = then_yes (file_named at.from s) _ one.0 one.1 in
      let names = then_yes (provided (not (has files.names s)) Twice at.from (files.names ++ s ∷ [])) _ one.0 m.2 in
      let added = provided_yes (not (has files.names s)) Twice at.from (files.names ++ s ∷ []) names.0 names.1 in
      let made : Files = record { names = names.0; known = files.known ++ m.0 ∷ [] } in
      let is : made ≡ one.0 = inside_yes made one.0 names.2 in
      let file = file_is (same s (codes "input")) (same s (codes "output")) at.from m.0 m.1 in
      let here : Listed (xs ++ OfFile at ∷ []) made = record {
        names = sym added.1 ∙ ap (λ n. n ++ s ∷ []) l.names ∙ sym
            (map-append (λ d. spelled f.text (point d)) (map OfDeclaration xs) (OfDeclaration (OfFile at) ∷ []))
            ∙ ap (names_of f.text) (sym (map-append OfDeclaration xs (OfFile at ∷ [])));
        stands = one_more_declared f first numbers xs files.known (OfFile at) m.0 l.stands (file.0, file.1, m.1);
      } in
      subst (λ y. Listed y all) (append_assoc xs (OfFile at ∷ []) (map OfFile ps))
      (files_listed ps (xs ++ OfFile at ∷ []) one.0 all one.2 (subst (Listed (xs ++ OfFile at ∷ [])) is here))
