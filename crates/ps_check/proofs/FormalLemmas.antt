-- Loops over the formal parameters of a heading.
use Rattle.std.proofs.Common.{◌≡◌, ℕ, zero, suc, ◌+◌, ◌-◌, ◌<◌, ◌≤◌, List, [], ◌∷◌, ◌++◌, length, drop, get_or, map}
use Rattle.std.proofs.Common.{Option, refl, sym, ap, ◌∙◌, arith, append_assoc, option_map, Vec, Global}
use Rattle.std.specs.Prelude.{replicate}
use Rattle.std.proofs.Math.Seq.{drop-cons}
use Rattle.std.proofs.lemmas.List.{drop_all, append-nil, map_push}
use Rattle.std.specs.declared.rc.Rc.{Rc}
use Rattle.ps_tree.specs.Types.{DataType}
use Rattle.ps_tree.specs.Tree as Tree
use Rattle.ps_tree.specs.declared.types.Ty.{Ty}
use Rattle.ps_tree.specs.declared.tree.statements.Formal.{Formal}
use Rattle.ps_tree.specs.declared.tree.statements.Formal as RustFormal
use Rattle.ps_tree.proofs.FormalLemmas.{formal_of_Routine}
use Rattle.ps_tree.specs.View as tree
use Rattle.ps_check_names.specs.declared.sections.Section as Rust
use Rattle.ps_check_names.specs.declared.sections.Section.TheVariants as kind
use Rattle.ps_check_names.specs.declared.meaning.Meaning as RustMeaning
use Rattle.ps_check_names.specs.declared.meaning.Meaning.TheVariants as m
use Rattle.ps_check_names.proofs.ViewLemmas.{section_of_Routine}
use Rattle.ps_check_judgement.specs.declared.refusal.CheckFault.{CheckFault}
use Rattle.ps_check_judgement.specs.declared.refusal.CheckFault.TheVariants.{OutOfMemory, Broken}
use Rattle.ps_check_judgement.specs.declared.refusal.Rule.TheVariants.{Limit}
use Rattle.ps_check_judgement.specs.Judged.{Judged, Yes, No, Told, some_or, ◌>>=◌}
use Rattle.ps_check_names.specs.Regions.{Section, ValueSection, VariableSection, RoutineSection, Sections, no_section}
use Rattle.ps_check_names.specs.Regions.{section_before, formals_before, formals_of, values_before, variables_before}
use Rattle.ps_check_names.specs.Regions.{Meaning, ParameterMeaning, RoutineParameterMeaning, one_more}
use Rattle.ps_check_names.specs.SectionViews.{section_of, sections_of}
use Rattle.ps_check_names.specs.Views.{meaning_of}
use Rattle.ps_check.specs.Formals.{section_formals, formal_list}
use Rattle.ps_check.specs.Views.{entries_of}
use Rattle.ps_check.specs.Entries.{Entries, add_entry, add_parameters, add_section, add_sections}

-- ---- lists of formal parameters

as_formals : List Tree.Formal → Tree.Formals
as_formals [] = Tree.no_formal
as_formals (f ∷ fs) = Tree.formal_before f (as_formals fs)

seen_as : (fs : List Formal) → tree.formals_of fs ≡ as_formals (map tree.formal_of fs)
unfolding tree.formals_of as_formals
seen_as [] = refl
seen_as (f ∷ fs) = ap (Tree.formal_before (tree.formal_of f)) (seen_as fs)

values_as : (n : ℕ) (type : DataType) (fs : List Tree.Formal) → values_before n type (as_formals fs) ≡ as_formals
    (replicate n (Tree.ValueFormal type) ++ fs)
unfolding as_formals
values_as zero type fs = refl
values_as (suc n) type fs = ap (Tree.formal_before (Tree.ValueFormal type)) (values_as n type fs)

variables_as : (n : ℕ) (type : DataType) (fs : List Tree.Formal) → variables_before n type (as_formals fs) ≡ as_formals
    (replicate n (Tree.VariableFormal type) ++ fs)
unfolding as_formals
variables_as zero type fs = refl
variables_as (suc n) type fs = ap (Tree.formal_before (Tree.VariableFormal type)) (variables_as n type fs)

section_as : (s : Section) (fs : List Tree.Formal) → formals_before s (as_formals fs) ≡ as_formals
    (section_formals s ++ fs)
unfolding formals_before section_formals as_formals
section_as (ValueSection count type) fs = values_as count type fs
section_as (VariableSection count type) fs = variables_as count type fs
section_as (RoutineSection sections result) fs = refl

list_as : (ss : Sections) → formals_of ss ≡ as_formals (formal_list ss)
unfolding formals_of formal_list as_formals
list_as no_section = refl
list_as (section_before s rest) = ap (formals_before s) (list_as rest) ∙ section_as s (formal_list rest)

-- the formal parameters of the sections from index i on are still to come
pub record Listed (xs : List Rust.Section) (i : ℕ) (done : List Tree.Formal) : Type 0 where
  pub rest : done ++ formal_list (sections_of (drop i xs)) ≡ formal_list (sections_of xs)

pub listed_start : (xs : List Rust.Section) → Listed xs 0 []
listed_start xs = record { rest = refl }

sections_more : (x : Rust.Section) (xs : List Rust.Section) → formal_list (sections_of (x ∷ xs)) ≡ section_formals
    (section_of x) ++ formal_list (sections_of xs)
unfolding formal_list sections_of
sections_more x xs = refl

sections_none : formal_list (sections_of []) ≡ []
unfolding formal_list sections_of
sections_none = refl

module _ (xs : List Rust.Section) (i : ℕ) (done : List Tree.Formal) where
  pub listed_next : (x : Rust.Section) (new : List Tree.Formal) → i < length xs → x ≡ get_or xs i x → Listed xs i done
      → new ≡ done ++ section_formals (section_of x) → Listed xs (i + 1) new
  listed_next x new lt at l n = record {
    rest =
        ap (λ d. d ++ formal_list (sections_of (drop (i + 1) xs))) n
        ∙ append_assoc done (section_formals (section_of x)) (formal_list (sections_of (drop (i + 1) xs)))
        ∙ ap (λ d. done ++ d) (sym (sections_more x (drop (i + 1) xs)))
        ∙ (let e : i + 1 ≡ suc i = omega arith in ap (λ k. done ++ formal_list (sections_of (x ∷ drop k xs))) e)
        ∙ ap (λ y. done ++ formal_list (sections_of (y ∷ drop (suc i) xs))) at
        ∙ ap (λ d. done ++ formal_list (sections_of d)) (sym (drop-cons xs i x lt))
        ∙ l.rest;
  }

pub listed_end : (xs : List Rust.Section) (i : ℕ) (fs : List Formal) → length xs ≤ i → Listed xs i
    (map tree.formal_of fs) → tree.formals_of fs ≡ formals_of (sections_of xs)
listed_end xs i fs le l =
    seen_as fs
    ∙ ap as_formals (sym (append-nil (map tree.formal_of fs)) ∙ ap (λ d. map tree.formal_of fs ++ d) (sym sections_none)
    ∙ ap (λ d. map tree.formal_of fs ++ formal_list (sections_of d)) (sym (drop_all i xs le)) ∙ l.rest)
    ∙ sym (list_as (sections_of xs))

-- ---- entries

-- parameters of one type that are still to come
pub record Repeated (whence : ℕ) (type : DataType) (count : ℕ) (start : Entries) (i : ℕ) (now : Entries) : Type 0 where
  pub rest : add_parameters whence type count start ≡ add_parameters whence type (count - i) now

pub repeated_start : (whence : ℕ) (type : DataType) (count : ℕ) (start : Entries)
    → Repeated whence type count start 0 start
repeated_start whence type count start = record {
  rest = let e : count ≡ count - 0 = omega arith in ap (λ n. add_parameters whence type n start) e;
}

parameters_more : (whence : ℕ) (type : DataType) (n : ℕ) (e : Entries) → add_parameters whence type (suc n) e
    ≡ (add_entry whence (λ i. ParameterMeaning i type) e >>= add_parameters whence type n)
unfolding add_parameters
parameters_more whence type n e = refl

parameters_none : (whence : ℕ) (type : DataType) (e : Entries) → add_parameters whence type 0 e ≡ Yes e
unfolding add_parameters
parameters_none whence type e = refl

module _ (whence : ℕ) (type : DataType) (count : ℕ) (start : Entries) (i : ℕ) (now : Entries) where
  repeated_here : (o : Judged Entries) → i < count → Repeated whence type count start i now → add_entry whence
      (λ i. ParameterMeaning i type) now ≡ o → add_parameters whence type count start
      ≡ (o >>= add_parameters whence type (count - (i + 1)))
  repeated_here o lt r e =
      let s : count - i ≡ suc (count - (i + 1)) = omega arith in
      r.rest ∙ ap (λ n. add_parameters whence type n now) s ∙ parameters_more whence type (count - (i + 1)) now
      ∙ ap (λ o. o >>= add_parameters whence type (count - (i + 1))) e

  pub repeated_next : (new : Entries) → i < count → Repeated whence type count start i now → add_entry whence
      (λ i. ParameterMeaning i type) now ≡ Yes new → Repeated whence type count start (i + 1) new
  repeated_next new lt r e = record { rest = repeated_here (Yes new) lt r e }

  pub repeated_fault : (fault : CheckFault) → i < count → Repeated whence type count start i now → Told fault
      (add_entry whence (λ i. ParameterMeaning i type) now) → Told fault (add_parameters whence type count start)
  repeated_fault OutOfMemory lt r told = told
  repeated_fault (Broken rule where_) lt r told = repeated_here (No rule where_) lt r told

  pub repeated_end : count ≤ i → Repeated whence type count start i now → add_parameters whence type count start
      ≡ Yes now
  repeated_end le r = let z : count - i ≡ 0 = omega arith in r.rest ∙ ap (λ n. add_parameters whence type n now) z
      ∙ parameters_none whence type now

-- sections that are still to come
pub record Entered (whence : ℕ) (start : Entries) (xs : List Rust.Section) (i : ℕ) (now : Entries) : Type 0 where
  pub rest : add_sections whence start (sections_of xs) ≡ add_sections whence now (sections_of (drop i xs))

pub entered_start : (whence : ℕ) (start : Entries) (xs : List Rust.Section) → Entered whence start xs 0 start
entered_start whence start xs = record { rest = refl }

entries_more : (whence : ℕ) (e : Entries) (x : Rust.Section) (xs : List Rust.Section) → add_sections whence e
    (sections_of (x ∷ xs)) ≡ (add_section whence e (section_of x) >>= (λ d. add_sections whence d (sections_of xs)))
unfolding add_sections sections_of
entries_more whence e x xs = refl

entries_none : (whence : ℕ) (e : Entries) → add_sections whence e (sections_of []) ≡ Yes e
unfolding add_sections sections_of
entries_none whence e = refl

module _ (whence : ℕ) (start : Entries) (xs : List Rust.Section) (i : ℕ) (now : Entries) where
  entered_here : (x : Rust.Section) (o : Judged Entries) → i < length xs → x ≡ get_or xs i x
      → Entered whence start xs i now → add_section whence now (section_of x) ≡ o → add_sections whence start
      (sections_of xs) ≡ (o >>= (λ d. add_sections whence d (sections_of (drop (suc i) xs))))
  entered_here x o lt at r e =
      r.rest
      ∙ ap (λ l. add_sections whence now (sections_of l)) (drop-cons xs i x lt)
      ∙ ap (λ y. add_sections whence now (sections_of (y ∷ drop (suc i) xs))) (sym at)
      ∙ entries_more whence now x (drop (suc i) xs)
      ∙ ap (λ o. o >>= (λ d. add_sections whence d (sections_of (drop (suc i) xs)))) e

  pub entered_next : (x : Rust.Section) (new : Entries) → i < length xs → x ≡ get_or xs i x
      → Entered whence start xs i now → add_section whence now (section_of x) ≡ Yes new → Entered whence start xs
      (i + 1) new
  entered_next x new lt at r e = record {
    rest = entered_here x (Yes new) lt at r e
        ∙ (let s : suc i ≡ i + 1 = omega arith in ap (λ k. add_sections whence new (sections_of (drop k xs))) s);
  }

  pub entered_fault : (x : Rust.Section) (fault : CheckFault) → i < length xs → x ≡ get_or xs i x
      → Entered whence start xs i now → Told fault (add_section whence now (section_of x)) → Told fault
      (add_sections whence start (sections_of xs))
  entered_fault x OutOfMemory lt at r told = told
  entered_fault x (Broken rule where_) lt at r told = entered_here x (No rule where_) lt at r told

  pub entered_end : length xs ≤ i → Entered whence start xs i now → add_sections whence start (sections_of xs) ≡ Yes now
  entered_end le r = r.rest ∙ ap (λ l. add_sections whence now (sections_of l)) (drop_all i xs le)
      ∙ entries_none whence now

-- ---- formal parameters that are pushed

more_of_one : {A : Type 0} (n : ℕ) (x : A) → replicate n x ++ x ∷ [] ≡ replicate (suc n) x
more_of_one zero x = refl
more_of_one (suc n) x = ap (λ l. x ∷ l) (more_of_one n x)

-- n equal parameters were pushed
pub record Pushed (start : List Formal) (n : ℕ) (f : Tree.Formal) (now : List Formal) : Type 0 where
  pub rest : map tree.formal_of now ≡ map tree.formal_of start ++ replicate n f

pub pushed_start : (start : List Formal) (f : Tree.Formal) → Pushed start 0 f start
pushed_start start f = record { rest = sym (append-nil (map tree.formal_of start)) }

pub pushed_next : (start : List Formal) (n : ℕ) (f : Tree.Formal) (now new : List Formal) (x : Formal)
    → Pushed start n f now → new ≡ now ++ x ∷ [] → tree.formal_of x ≡ f → Pushed start (n + 1) f new
pushed_next start n f now new x p e is = record {
  rest =
      ap (map tree.formal_of) e
      ∙ map_push tree.formal_of now x
      ∙ ap (λ l. l ++ tree.formal_of x ∷ []) p.rest
      ∙ ap (λ y. (map tree.formal_of start ++ replicate n f) ++ y ∷ []) is
      ∙ append_assoc (map tree.formal_of start) (replicate n f) (f ∷ [])
      ∙ ap (λ l. map tree.formal_of start ++ l)
      (more_of_one n f ∙ (let s : suc n ≡ n + 1 = omega arith in ap (λ k. replicate k f) s));
}

pub pushed_end : (start : List Formal) (n count : ℕ) (f : Tree.Formal) (now : List Formal) → Pushed start n f now → n
    ≡ count → map tree.formal_of now ≡ map tree.formal_of start ++ replicate count f
pushed_end start n count f now p e = p.rest ∙ ap (λ k. map tree.formal_of start ++ replicate k f) e

-- a procedural or functional parameter
pub routine_pushed : (start new : List Formal) (formals : Vec Formal Global) (result : Option Ty)
    (sections : Rc Sections Global) (type : Option Ty) (s : Rust.Section) → new ≡ start
    ++ RustFormal.Routine formals result ∷ [] → s ≡ kind.Routine sections type → tree.formals_of formals.items
    ≡ formals_of sections.value → option_map tree.type_of result ≡ option_map tree.type_of type
    → map tree.formal_of new ≡ map tree.formal_of start ++ section_formals (section_of s)
unfolding section_formals
routine_pushed start new formals result sections type s e is inner same =
    ap (map tree.formal_of) e
    ∙ map_push tree.formal_of start (RustFormal.Routine formals result)
    ∙ ap (λ y. map tree.formal_of start ++ y ∷ [])
    (formal_of_Routine formals result ∙ ap (λ l. Tree.RoutineFormal l (option_map tree.type_of result)) inner
    ∙ ap (λ r. Tree.RoutineFormal (formals_of sections.value) r) same)
    ∙ ap (λ x. map tree.formal_of start ++ section_formals x)
    (sym (section_of_Routine sections type) ∙ ap section_of (sym is))

abbrev as_entries : ℕ → List Meaning → Entries
as_entries next known = record { next = next; known = known }

-- the entry of a procedural or functional parameter
pub routine_entered : (whence entry next : ℕ) (known new : List RustMeaning.Meaning)
    (made sections : Rc Sections Global) (result type : Option Ty) (s : Rust.Section) → s
    ≡ kind.Routine sections type → some_or Limit whence (one_more entry) ≡ Yes next → new ≡ known
    ++ m.RoutineParameter entry made result ∷ [] → made.value ≡ sections.value → option_map tree.type_of result
    ≡ option_map tree.type_of type → add_section whence (entries_of entry known) (section_of s) ≡ Yes
    (entries_of next new)
unfolding add_section meaning_of
routine_entered whence entry next known new made sections result type s is n e copy same =
    ap (λ x. add_section whence (entries_of entry known) (section_of x)) is
    ∙ ap (add_section whence (entries_of entry known)) (section_of_Routine sections type)
    ∙ ap (λ o. o >>= (λ k. Yes (as_entries k (map meaning_of known ++ RoutineParameterMeaning entry
    sections.value (option_map tree.type_of type) ∷ [])))) n
    ∙ ap (λ (v : Sections). Yes
    (as_entries next (map meaning_of known ++ RoutineParameterMeaning entry v
    (option_map tree.type_of type) ∷ []))) (sym copy)
    ∙ ap (λ r. Yes (as_entries next (map meaning_of known ++ RoutineParameterMeaning entry
    made.value r ∷ []))) (sym same)
    ∙ ap (λ l. Yes (as_entries next l)) (sym (map_push meaning_of known (m.RoutineParameter entry made result))
    ∙ ap (map meaning_of) (sym e))

pub no_formals : (fs : List Formal) → fs ≡ [] → tree.formals_of fs ≡ Tree.no_formal
unfolding tree.formals_of
no_formals fs e = ap tree.formals_of e
