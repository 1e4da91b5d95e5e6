-- Routines: their headings, and what their blocks begin with.
use Rattle.std.proofs.Common.{◌≡◌, ◌⊎◌, inl, inr, ℕ, Bool, true, false, List, [], ◌∷◌, length, nat_lt, Option, Some}
use Rattle.std.proofs.Common.{None, option_map, Ok, Err, Result, refl, sym, ap, ◌∙◌, subst}
use Rattle.std.specs.Prelude.{IfOk}
use Rattle.ps_text.specs.declared.Span.{Span}
use Rattle.ps_syntax.specs.declared.program.Heading.{Heading}
use Rattle.ps_syntax.specs.declared.program.Routine.{Routine}
use Rattle.ps_syntax.specs.declared.program.Routine.TheVariants as v
use Rattle.ps_syntax.specs.declared.program.Block.{Block}
use Rattle.ps_check_judgement.specs.declared.refusal.CheckFault.{CheckFault}
use Rattle.ps_check_judgement.specs.declared.refusal.Rule.TheVariants.{Twice, Limit}
use Rattle.ps_check_judgement.specs.Judged.{Judged, Yes, No, Told, Answers, provided, both, ◌>>=◌}
use Rattle.ps_check_judgement.proofs.Lists.{told_bind}
use Rattle.ps_check_judgement.proofs.Impossible.{none_some}
use Rattle.ps_check_names.specs.Spelling.{spelled}
use Rattle.ps_check_names.specs.Regions as regions
use Rattle.ps_check_names.specs.Regions.{Context, Meaning}
use Rattle.ps_check_declarations.specs.Denoters.{Frame}
use Rattle.ps_check.specs.declared.chain.Chain.{Chain}
use Rattle.ps_check.specs.declared.state.Start as Rust
use Rattle.ps_check.specs.Readings.{RoutineReading, Routines, Start}
use Rattle.ps_check.specs.Forwards.{is_waiting}
use Rattle.ps_check.specs.Entries.{Entries, add_names, add_sections, first_entry, start}
use Rattle.ps_check.specs.Blocks.{routine, block, known_as, new_heading, unheaded, introduce, introduced, read_block}
use Rattle.ps_check.specs.Blocks.{one_routine}
use Rattle.ps_check.specs.Views.{entries_of, start_of}
use Rattle.ps_check.proofs.Equations.{routine_Whole, routine_Forward, routine_Completion}

-- ---- answers of equal judgements

pub answered : {X A : Type 0} (result : Result X CheckFault) (view : X → A) (i j : Judged A) → i ≡ j
    → Answers result view j → Answers result view i
answered result view i j e h = subst (λ k. Answers result view k) (sym e) h

pub told_as : {A : Type 0} (fault : CheckFault) (i j : Judged A) → i ≡ j → Told fault j → Told fault i
told_as fault i j e h = subst (λ k. Told fault k) (sym e) h

-- ---- headings

module _ (f : Frame) (c : Context) (r : Routines) where
  pub introduce_Whole : (x : Routine) (h : Heading) (b : Block) → x ≡ v.Whole h b → introduce f (routine c x) r None
      ≡ new_heading f false r h
  unfolding introduce
  introduce_Whole x h b e = ap (λ y. introduce f y r None) (ap (routine c) e ∙ routine_Whole c h b)

  pub introduce_Forward : (x : Routine) (h : Heading) → x ≡ v.Forward h → introduce f (routine c x) r None
      ≡ new_heading f true r h
  unfolding introduce
  introduce_Forward x h e = ap (λ y. introduce f y r None) (ap (routine c) e ∙ routine_Forward c h)

  pub introduce_Completion : (x : Routine) (name : Span) (b : Block) → x ≡ v.Completion name b → introduce f
      (routine c x) r None ≡ unheaded f (record {
        name = name;
        heading = None;
        block = None;
      })
  unfolding introduce
  introduce_Completion x name b e = ap (λ y. introduce f y r None) (ap (routine c) e ∙ routine_Completion c name b)

abbrev some_or_else : {A : Type 0} → A → Option A → A
some_or_else d None = d
some_or_else d (Some x) = x

some_none : {A : Type 0} {x : A} → Some x ≡ (let n : Option A = None in n) → ⊥
some_none q = cc

-- whether the routine completes a forward heading, if its name is known
module _ (f : Frame) (x : RoutineReading) (r : Routines) where
  abbrev waits : Option Meaning → Option Bool
  waits o = option_map (is_waiting r.gathered x) o

  pub introduced_waiting : Some true ≡ waits (known_as f r.known (spelled f.text x.name)) → introduced f x r ≡ Yes r
  unfolding introduce
  introduced_waiting e = at (known_as f r.known (spelled f.text x.name)) e
    where
      at : (o : Option Meaning) → Some true ≡ waits o → introduce f x r o ≡ Yes r
      at None h = absurd (some_none h)
      at (Some m) h = ap (λ b. provided b Twice x.name.from r) (sym (ap (some_or_else true) h))

  pub introduced_twice : Some false ≡ waits (known_as f r.known (spelled f.text x.name)) → introduced f x r
      ≡ No Twice x.name.from
  unfolding introduce
  introduced_twice e = at (known_as f r.known (spelled f.text x.name)) e
    where
      at : (o : Option Meaning) → Some false ≡ waits o → introduce f x r o ≡ No Twice x.name.from
      at None h = absurd (some_none h)
      at (Some m) h = ap (λ b. provided b Twice x.name.from r) (sym (ap (some_or_else true) h))

  pub introduced_new : None ≡ waits (known_as f r.known (spelled f.text x.name)) → introduced f x r
      ≡ introduce f x r None
  introduced_new e = at (known_as f r.known (spelled f.text x.name)) e
    where
      at : (o : Option Meaning) → None ≡ waits o → introduce f x r o ≡ introduce f x r None
      at None h = refl
      at (Some m) h = absurd (none_some h)

-- ---- a routine that has its block

module _ (f : Frame) (chain : List ℕ) (c : Context) (x : Routine) (b : Block) (r s : Routines) where
  pub whole_answers : {X : Type 0} (result : Result X CheckFault) (view : X → Routines) (name : Span) → introduced f
      (routine c x) r ≡ Yes s → name ≡ (routine c x).name → (routine c x).block ≡ Some (block c b)
      → ((y : RoutineReading) → y.name ≡ name → Answers result view (read_block f chain y s (Some (block c b))))
      → Answers result view (one_routine f chain r (routine c x))
  unfolding one_routine
  whole_answers result view name e is own answers =
      answered result view (one_routine f chain r (routine c x)) (read_block f chain (routine c x) s (Some (block c b)))
      (ap (λ j. j >>= (λ s. read_block f chain (routine c x) s (routine c x).block)) e
      ∙ ap (read_block f chain (routine c x) s) own) (answers (routine c x) (sym is))

pub block_there : (c : Context) (x : Routine) (b : Block) → ((h : Heading) × (x ≡ v.Whole h b))
    ⊎ ((name : Span) × (x ≡ v.Completion name b)) → (routine c x).block ≡ Some (block c b)
block_there c x b (inl e) = ap (λ (y : RoutineReading). y.block) (ap (routine c) e.1 ∙ routine_Whole c e.0 b)
block_there c x b (inr e) = ap (λ (y : RoutineReading). y.block) (ap (routine c) e.1 ∙ routine_Completion c e.0 b)

-- ---- what a block begins with

abbrev with_names : List ℕ → List (List ℕ) → Entries → Start
with_names inner n e = record { chain = inner; names = n; known = e.known; first = e.next }

abbrev last : regions.Heading → List ℕ → Entries → Judged Start
last h inner e = Yes (with_names inner (add_names [] h.names) e)

abbrev next : ℕ → regions.Heading → List ℕ → Judged Start
next whence h inner = add_sections whence (entries_of (first_entry h.result) []) h.sections >>= last h inner

module _ (whence : ℕ) (chain : List ℕ) (h : regions.Heading) (result : Result (Chain × Rust.Start) CheckFault) where
  pub start_answers : (x : Result Chain CheckFault) (y : Result Rust.Start CheckFault) → result ≡ both x y
      → Answers x (λ c. c) (provided (nat_lt (length chain) 16) Limit whence (h.number ∷ chain))
      → IfOk y (λ s. s.names ≡ add_names [] h.names)
      → Answers y (λ s. entries_of s.first s.known.items)
      (add_sections whence (entries_of (first_entry h.result) []) h.sections)
      → Answers result (λ s. start_of s.0 s.1) (start whence chain h)
  unfolding start
  start_answers (Err e) y is first names second = subst
      (λ (r : Result (Chain × Rust.Start) CheckFault). Answers r (λ s. start_of s.0 s.1) (start whence chain h))
      (sym is) (told_bind e _ _ first)
  start_answers (Ok c) (Err e) is first names second = subst
      (λ (r : Result (Chain × Rust.Start) CheckFault). Answers r (λ s. start_of s.0 s.1) (start whence chain h))
      (sym is) (subst (λ j. Told e (j >>= next whence h)) (sym first) (told_bind e _ _ second))
  start_answers (Ok c) (Ok s) is first names second =
      subst (λ (r : Result (Chain × Rust.Start) CheckFault). Answers r (λ s. start_of s.0 s.1) (start whence chain h))
      (sym is)
      (ap (λ j. j >>= next whence h) first
      ∙ ap (λ j. j >>= last h c) second
      ∙ ap (λ (n : List (List ℕ)). Yes (with_names c n (entries_of s.first s.known.items))) (sym names))
