-- What the entries of a routine are: its result, its formal parameters and its variables.
use Rattle.std.proofs.Common.{◌≡◌, ℕ, zero, suc, ◌+◌, nat_lt, List, [], ◌∷◌, ◌++◌, length, Option, Some, None}
use Rattle.std.proofs.Common.{slice_get, refl, sym, ap, ◌∙◌, subst, arith, append_assoc, append-nil, length-append}
use Rattle.std.proofs.lemmas.Option.{same_Some}
use Rattle.ps_tree.specs.Types.{DataType}
use Rattle.ps_tree.specs.Tree.{Formals, Routine, Program, routine_at}
use Rattle.ps_lower_layout.specs.Shapes.{Shape, shape_of}
use Rattle.ps_lower_layout.specs.Frames.{Kind, Own, Reference, Closure, kinds_of, listed_kinds, result_kinds}
use Rattle.ps_lower_layout.specs.Frames.{variable_kinds, result_shape, entries}
use Rattle.ps_lower_code.specs.Fits.{shape_in}
use Rattle.ps_check_judgement.specs.Judged.{Yes, provided, some_or}
use Rattle.ps_check_judgement.specs.declared.refusal.Rule.TheVariants.{Limit}
use Rattle.ps_check_judgement.proofs.Binds.{then_yes, provided_yes, some_or_yes, inside_yes}
use Rattle.ps_check_judgement.proofs.Impossible.{none_some}
use Rattle.ps_check_judgement.proofs.Items.{get_stays, get_right}
use Rattle.ps_check_names.specs.Regions.{Section, ValueSection, VariableSection, RoutineSection, Sections, no_section}
use Rattle.ps_check_names.specs.Regions.{section_before, values_before, variables_before, formals_before, formals_of}
use Rattle.ps_check_names.specs.Regions.{Heading, Meaning, ConstantMeaning, TextMeaning, TypeMeaning, VariableMeaning}
use Rattle.ps_check_names.specs.Regions.{ParameterMeaning, RoutineParameterMeaning, one_more}
use Rattle.ps_check.specs.Readings.{Start}
use Rattle.ps_check.specs.Entries.{Entries, add_entry, add_parameters, add_section, add_sections, first_entry, start}
use Rattle.ps_check.proofs.EachItem.{each_append}
use Rattle.ps_lower_accepted.proofs.Lists.{Each, each_map, if_some}
use Rattle.ps_lower_accepted.proofs.Tables.{Table, TypeKnown}
use Rattle.ps_lower_accepted.proofs.Standing.{SectionKnown, SectionsKnown, MeaningKnown, MeaningStands}
use Rattle.ps_lower_accepted.proofs.Aims.{IsOwn}

-- ---- lists

get_end : {A : Type 0} (xs : List A) (y : A) (ys : List A) → slice_get (xs ++ y ∷ ys) (length xs) ≡ Some y
get_end [] y ys = refl
get_end (x ∷ xs) y ys = get_end xs y ys

-- ---- parameters

-- what a parameter is among these entries
abbrev pub IsAmong : List Kind → Meaning → Type 0
IsAmong kinds (ParameterMeaning entry type) = shape_in (slice_get kinds entry) ≡ Some (shape_of type)
IsAmong kinds (RoutineParameterMeaning entry sections result) = slice_get kinds entry ≡ Some
    (Closure (kinds_of (formals_of sections)) (result_shape result))
IsAmong kinds _ = ⊥

shape_left : (kinds more : List Kind) (i : ℕ) (s : Shape) → shape_in (slice_get kinds i) ≡ Some s → shape_in
    (slice_get (kinds ++ more) i) ≡ Some s
shape_left kinds more i s e = go (slice_get kinds i) refl e
  where
    go : (o : Option Kind) → slice_get kinds i ≡ o → shape_in o ≡ Some s → shape_in (slice_get (kinds ++ more) i)
        ≡ Some s
    go None q h = absurd (none_some h)
    go (Some kind) q h = ap shape_in (get_stays kinds more i kind q) ∙ h

among_left : (kinds more : List Kind) (m : Meaning) → IsAmong kinds m → IsAmong (kinds ++ more) m
among_left kinds more (ParameterMeaning entry type) k = shape_left kinds more entry (shape_of type) k
among_left kinds more (RoutineParameterMeaning entry sections result) k = get_stays kinds more entry
    (Closure (kinds_of (formals_of sections)) (result_shape result)) k
among_left kinds more m k = absurd k

-- as many of a kind
abbrev copies : ℕ → Kind → List Kind
copies zero kind = []
copies (suc n) kind = kind ∷ copies n kind

abbrev pub section_kinds : Section → List Kind
section_kinds (ValueSection count type) = copies count (Own (shape_of type))
section_kinds (VariableSection count type) = copies count (Reference (shape_of type))
section_kinds (RoutineSection sections result) = Closure (kinds_of (formals_of sections)) (result_shape result) ∷ []

values_listed : (n : ℕ) (type : DataType) (rest : Formals) → listed_kinds (kinds_of (values_before n type rest))
    ≡ copies n (Own (shape_of type)) ++ listed_kinds (kinds_of rest)
values_listed zero type rest = refl
values_listed (suc n) type rest = ap (λ l. Own (shape_of type) ∷ l) (values_listed n type rest)

variables_listed : (n : ℕ) (type : DataType) (rest : Formals) → listed_kinds (kinds_of (variables_before n type rest))
    ≡ copies n (Reference (shape_of type)) ++ listed_kinds (kinds_of rest)
variables_listed zero type rest = refl
variables_listed (suc n) type rest = ap (λ l. Reference (shape_of type) ∷ l) (variables_listed n type rest)

section_listed : (s : Section) (rest : Formals) → listed_kinds (kinds_of (formals_before s rest)) ≡ section_kinds s
    ++ listed_kinds (kinds_of rest)
unfolding formals_before
section_listed (ValueSection count type) rest = values_listed count type rest
section_listed (VariableSection count type) rest = variables_listed count type rest
section_listed (RoutineSection sections result) rest = refl

abbrev pub formal_kinds : Sections → List Kind
formal_kinds sections = listed_kinds (kinds_of (formals_of sections))

abbrev pub first_kinds : Heading → List Kind
first_kinds h = result_kinds h.result ++ formal_kinds h.sections

module _ (D : Table) (b : ℕ) where
  -- the entries so far are these
  pub record AreEntries (kinds : List Kind) (e : Entries) : Type 0 where
    pub next : e.next ≡ length kinds
    pub known : Each (MeaningKnown D b) e.known
    pub among : Each (IsAmong kinds) e.known

  -- one more
  entry_added : (at : ℕ) (meaning : ℕ → Meaning) (kinds : List Kind) (kind : Kind) (e e' : Entries) → AreEntries kinds e
      → MeaningKnown D b (meaning e.next) → IsAmong (kinds ++ kind ∷ []) (meaning e.next) → add_entry at meaning e
      ≡ Yes e' → AreEntries (kinds ++ kind ∷ []) e'
  entry_added at meaning kinds kind e e' are known among h =
      let n = then_yes (some_or Limit at (one_more e.next)) _ e' h in
      let more = if_some (nat_lt e.next 4294967295) (Some (e.next + 1)) n.0
      (some_or_yes Limit at (one_more e.next) n.0 n.1) in
      let is = same_Some (e.next + 1) n.0 more.1 in
      subst (AreEntries (kinds ++ kind ∷ [])) (inside_yes _ e' n.2) (record {
        next = sym is ∙ (let q = are.next in let l = length-append kinds (kind ∷ []) in omega (arith, q, l));
        known = each_append (MeaningKnown D b) e.known (meaning e.next ∷ []) are.known (known, tt);
        among = each_append (IsAmong (kinds ++ kind ∷ [])) e.known (meaning e.next ∷ [])
            (each_map (IsAmong kinds) (IsAmong (kinds ++ kind ∷ [])) (among_left kinds (kind ∷ [])) e.known are.among)
            (among, tt);
      })

  last_is : (kinds : List Kind) (kind : Kind) (e : Entries) → AreEntries kinds e → slice_get (kinds ++ kind ∷ []) e.next
      ≡ Some kind
  last_is kinds kind e are = ap (slice_get (kinds ++ kind ∷ [])) are.next ∙ get_end kinds kind []

  parameters_added : (at : ℕ) (type : DataType) (kind : Kind) → shape_in (Some kind) ≡ Some (shape_of type)
      → TypeKnown D b type → (n : ℕ) (kinds : List Kind) (e e' : Entries) → AreEntries kinds e
      → add_parameters at type n e ≡ Yes e' → AreEntries (kinds ++ copies n kind) e'
  unfolding add_parameters
  parameters_added at type kind shape known zero kinds e e' are h = subst (λ l. AreEntries l e')
      (sym (append-nil kinds)) (subst (AreEntries kinds) (inside_yes e e' h) are)
  parameters_added at type kind shape known (suc n) kinds e e' are h =
      let t = then_yes (add_entry at (λ i. ParameterMeaning i type) e) (add_parameters at type n) e' h in
      let one = entry_added at (λ i. ParameterMeaning i type) kinds kind e t.0 are known
      (ap shape_in (last_is kinds kind e are) ∙ shape) t.1 in
      subst (λ l. AreEntries l e') (append_assoc kinds (kind ∷ []) (copies n kind))
      (parameters_added at type kind shape known n (kinds ++ kind ∷ []) t.0 e' one t.2)

  section_added : (at : ℕ) (s : Section) → SectionKnown D b s → (kinds : List Kind) (e e' : Entries)
      → AreEntries kinds e → add_section at e s ≡ Yes e' → AreEntries (kinds ++ section_kinds s) e'
  unfolding add_section
  section_added at (ValueSection count type) known kinds e e' are h = parameters_added at type
      (Own (shape_of type)) refl known count kinds e e' are h
  section_added at (VariableSection count type) known kinds e e' are h = parameters_added at type
      (Reference (shape_of type)) refl known count kinds e e' are h
  section_added at (RoutineSection sections result) known kinds e e' are h =
      let kind = Closure (kinds_of (formals_of sections)) (result_shape result) in
      entry_added at (λ i. RoutineParameterMeaning i sections result) kinds kind e e' are known
      (last_is kinds kind e are) h

  sections_added : (at : ℕ) (ss : Sections) → SectionsKnown D b ss → (kinds : List Kind) (e e' : Entries)
      → AreEntries kinds e → add_sections at e ss ≡ Yes e' → AreEntries (kinds ++ formal_kinds ss) e'
  unfolding add_sections formals_of
  sections_added at no_section known kinds e e' are h = subst (λ l. AreEntries l e') (sym (append-nil kinds))
      (subst (AreEntries kinds) (inside_yes e e' h) are)
  sections_added at (section_before s rest) known kinds e e' are h =
      let t = then_yes (add_section at e s) (λ d. add_sections at d rest) e' h in
      let one = section_added at s known.0 kinds e t.0 are t.1 in
      subst (λ l. AreEntries l e') (append_assoc kinds (section_kinds s) (formal_kinds rest) ∙ ap (λ l. kinds ++ l)
      (sym (section_listed s (formals_of rest))))
      (sections_added at rest known.1 (kinds ++ section_kinds s) t.0 e' one t.2)

  -- ---- what the block of a routine begins with
  pub record Begins (chain : List ℕ) (h : Heading) (s : Start) : Type 0 where
    pub chain_is : s.chain ≡ h.number ∷ chain
    pub first : s.first ≡ length (first_kinds h)
    pub known : Each (MeaningKnown D b) s.known
    pub among : Each (IsAmong (first_kinds h)) s.known

  none_yet : (h : Heading) (o : Option DataType) → h.result ≡ o → first_entry o ≡ length (result_kinds o)
  none_yet h None e = refl
  none_yet h (Some type) e = refl

  pub start_told : (at : ℕ) (chain : List ℕ) (h : Heading) (s : Start) → SectionsKnown D b h.sections → start at chain h
      ≡ Yes s → Begins chain h s
  unfolding start
  start_told at chain h s known e =
      let inner = then_yes (provided (nat_lt (length chain) 16) Limit at (h.number ∷ chain)) _ s e in
      let chained = provided_yes (nat_lt (length chain) 16) _ _ (h.number ∷ chain) inner.0 inner.1 in
      let made = then_yes (add_sections at (record {
        next = first_entry h.result;
        known = [];
      }) h.sections) _ s inner.2 in
      let are = sections_added at h.sections known (result_kinds h.result) (record {
        next = first_entry h.result;
        known = [];
      }) made.0 (record {
        next = none_yet h h.result refl;
        known = tt;
        among = tt;
      }) made.1 in
      subst (Begins chain h) (inside_yes _ s made.2) (record {
        chain_is = sym chained.1;
        first = are.next;
        known = are.known;
        among = are.among;
      })

-- ---- in the program

among_stands : (P : Program) (r : ℕ) (chain : List ℕ) (kinds more : List Kind) → entries (routine_at P r) ≡ kinds
    ++ more → (m : Meaning) → IsAmong kinds m → MeaningStands P (r ∷ chain) m
among_stands P r chain kinds more e (ParameterMeaning entry type) k = ap (λ l. shape_in (slice_get l entry)) e
    ∙ shape_left kinds more entry (shape_of type) k
among_stands P r chain kinds more e (RoutineParameterMeaning entry sections result) k = ap (λ l. slice_get l entry) e
    ∙ get_stays kinds more entry (Closure (kinds_of (formals_of sections)) (result_shape result)) k
among_stands P r chain kinds more e m k = absurd k

variable_kind : (types : List DataType) (i : ℕ) (type : DataType) → slice_get types i ≡ Some type → slice_get
    (variable_kinds types) i ≡ Some (Own (shape_of type))
variable_kind [] i type e = absurd (none_some e)
variable_kind (t ∷ types) zero type e = ap (λ x. Some (Own (shape_of x))) (same_Some t type e)
variable_kind (t ∷ types) (suc i) type e = variable_kind types i type e

own_stands : (P : Program) (r : ℕ) (chain : List ℕ) (kinds : List Kind) (variables : List DataType) → entries
    (routine_at P r) ≡ kinds ++ variable_kinds variables → (m : Meaning) → IsOwn (length kinds) variables m
    → MeaningStands P (r ∷ chain) m
own_stands P r chain kinds variables e (ConstantMeaning o n) k = tt
own_stands P r chain kinds variables e (TextMeaning w) k = tt
own_stands P r chain kinds variables e (TypeMeaning type) k = tt
own_stands P r chain kinds variables e (VariableMeaning entry type) k =
    ap (λ l. slice_get l entry) e ∙ ap (slice_get (kinds ++ variable_kinds variables)) k.1 ∙ get_right kinds
    (variable_kinds variables) k.0 ∙ variable_kind variables k.0 type k.2
own_stands P r chain kinds variables e m k = absurd k

-- the entries of a routine are in the program
module _ (P : Program) (r : ℕ) (chain : List ℕ) (kinds : List Kind) (variables : List DataType)
    (e : entries (routine_at P r) ≡ kinds ++ variable_kinds variables) where
  pub all_among : (ms : List Meaning) → Each (IsAmong kinds) ms → Each (MeaningStands P (r ∷ chain)) ms
  all_among ms k = each_map (IsAmong kinds) (MeaningStands P (r ∷ chain))
      (among_stands P r chain kinds (variable_kinds variables) e) ms k

  pub all_own : (ms : List Meaning) → Each (IsOwn (length kinds) variables) ms → Each (MeaningStands P (r ∷ chain)) ms
  all_own ms k = each_map (IsOwn (length kinds) variables) (MeaningStands P (r ∷ chain))
      (own_stands P r chain kinds variables e) ms k

-- those of a heading's routine
pub entries_are : (h : Heading) (x : Routine) → x.formals ≡ formals_of h.sections → x.result ≡ h.result → entries x
    ≡ (result_kinds h.result ++ formal_kinds h.sections) ++ variable_kinds x.variables
entries_are h x f r = ap (λ l. (result_kinds l ++ listed_kinds (kinds_of x.formals)) ++ variable_kinds x.variables) r
    ∙ ap (λ l. (result_kinds h.result ++ listed_kinds (kinds_of l)) ++ variable_kinds x.variables) f
