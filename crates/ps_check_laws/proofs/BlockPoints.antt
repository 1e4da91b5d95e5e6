-- The points of a block, declarations before routines: their names, and which of them are routines.
use Rattle.std.proofs.Common.{◌≡◌, ℕ, zero, suc, ◌+◌, Bool, true, false, ◌||◌, if◌then◌else◌, List, [], ◌∷◌, ◌++◌}
use Rattle.std.proofs.Common.{length, map, Option, Some, None, is_none, option_map, slice_get, refl, sym, ap, ◌∙◌}
use Rattle.std.proofs.Common.{subst, append_assoc, append-nil}
use Rattle.std.proofs.lemmas.List.{map-append}
use Rattle.std.proofs.lemmas.Option.{slice_get-map, same_Some}
use Rattle.std.proofs.lemmas.Bool.{or_parts}
use Rattle.std.proofs.Math.Bool.{or-true}
use Rattle.ps_check_judgement.proofs.Impossible.{none_some}
use Rattle.ps_text.specs.declared.Span.{Span}
use Rattle.ps_syntax.specs.declared.program.Heading as syntax
use Rattle.ps_syntax.specs.declared.program.Routine.{Routine}
use Rattle.ps_check_names.specs.Spelling.{spelled, same, has}
use Rattle.ps_check_names.specs.Regions.{Meaning, RoutineMeaning, Heading}
use Rattle.ps_check_names.specs.Constants.{ConstantValue, OrdinalConstant, TextConstant}
use Rattle.ps_check_names.proofs.SpellingLemmas.{same_itself}
use Rattle.ps_check_declarations.specs.Denoters.{Frame}
use Rattle.ps_check_declarations.specs.Declarations.{meaning_of_constant}
use Rattle.ps_check_declarations.specs.Headings.{formal_meanings}
use Rattle.ps_check.specs.Readings.{RoutineReading}
use Rattle.ps_check.specs.Forwards.{add_routine, add_routines}
use Rattle.ps_check.specs.Entries.{first_entry}
use Rattle.ps_check.proofs.EachItem.{each_at}
use Rattle.ps_check_laws.specs.Option.{◌>>=◌}
use Rattle.ps_check_laws.specs.Definitions.{Declaration, Declarations, OfFile, OfFormal, OfConstant, OfEnumeration}
use Rattle.ps_check_laws.specs.Definitions.{OfType, OfVariable, Definition, OfDeclaration, OfRoutine, InPart, numbered}
use Rattle.ps_check_laws.specs.Definitions.{routine_name, routine_names, of_routine, point, names_of, as_routine}
use Rattle.ps_check_laws.specs.Meanings.{Declares}
use Rattle.ps_check_laws.proofs.Lists.{has_append}
use Rattle.ps_check_laws.proofs.Formals.{IsPlain, formals_plain}
use Rattle.ps_check_laws.proofs.Routines.{sp}

-- ---- no declaration is a routine

constant_plain : (v : ConstantValue) → IsPlain (meaning_of_constant v)
unfolding meaning_of_constant
constant_plain (OrdinalConstant o n) = tt
constant_plain (TextConstant w) = tt

pub plain_not : (m : Meaning) (h : Heading) → m ≡ RoutineMeaning h → IsPlain m → ⊥
plain_not m h e k = subst IsPlain e k

pub declares_plain : (f : Frame) (first : ℕ) (before : List Meaning) (d : Declaration) (m : Meaning)
    → Declares f first before d m → IsPlain m
declares_plain f first before (OfFile name) m k = subst IsPlain (sym k.1) tt
declares_plain f first before (OfFormal x i name) m k = each_at IsPlain
    (formal_meanings (first_entry k.0.result) k.0.sections) i m
    (formals_plain (first_entry k.0.result) k.0.sections) k.2
declares_plain f first before (OfConstant c) m k = subst IsPlain (sym k.2) (constant_plain k.0)
declares_plain f first before (OfEnumeration at count i name) m k = subst IsPlain (sym k) tt
declares_plain f first before (OfType t) m k = subst IsPlain (sym k.2) tt
declares_plain f first before (OfVariable v i name) m k = subst IsPlain (sym k.5) tt

abbrev pub heading_or : Heading → Meaning → Heading
heading_or h (RoutineMeaning g) = g
heading_or h m = h

module _ (text : List ℕ) where
  -- a routine's name is among those of the routines
  among_routines : (I : List InPart) (i j : ℕ) (q : Routine) (s : List ℕ) → slice_get (map of_routine I) i ≡ Some
      (OfRoutine j q) → same s (sp text q) ≡ true → has (routine_names text I) s ≡ true
  unfolding routine_names
  among_routines [] i j q s e k = absurd (none_some e)
  among_routines (y ∷ I) zero j q s e k =
      let is : y ≡ (j, q) = same_Some y (j, q) (ap (λ (o : Option Definition). o >>= as_routine) e) in
      ap (λ (z : InPart). same s (spelled text (routine_name z.1)) || has (routine_names text I) s) is
      ∙ ap (λ b. b || has (routine_names text I) s) k
  among_routines (y ∷ I) (suc i) j q s e k = ap (λ b. same s (sp text y.1) || b) (among_routines I i j q s e k)
      ∙ or-true (same s (sp text y.1))

  pub among : (D : Declarations) (I : List InPart) (i j : ℕ) (q : Routine) (s : List ℕ) → slice_get
      (map OfDeclaration D ++ map of_routine I) i ≡ Some (OfRoutine j q) → same s (sp text q) ≡ true → has
      (routine_names text I) s ≡ true
  among [] I i j q s e k = among_routines I i j q s e k
  among (d ∷ D) I zero j q s e k = absurd (none_some (ap (λ (o : Option Definition). o >>= as_routine) e))
  among (d ∷ D) I (suc i) j q s e k = among D I i j q s e k

  -- all points of a block so far
  abbrev pub points : Declarations → List InPart → List Definition
  points D I = map OfDeclaration D ++ map of_routine I

  -- a routine of the points is one that is introduced
  in_routines : (I : List InPart) (i j : ℕ) (q : Routine) → slice_get (map of_routine I) i ≡ Some (OfRoutine j q)
      → (a : ℕ) × (slice_get I a ≡ Some (j, q))
  in_routines [] i j q e = absurd (none_some e)
  in_routines (y ∷ I) zero j q e = (0, ap (λ (o : Option Definition). o >>= as_routine) e)
  in_routines (y ∷ I) (suc i) j q e = let r = in_routines I i j q e in (suc r.0, r.1)

  pub in_part : (D : Declarations) (I : List InPart) (i j : ℕ) (q : Routine) → slice_get (points D I) i ≡ Some
      (OfRoutine j q) → (a : ℕ) × (slice_get I a ≡ Some (j, q))
  in_part [] I i j q e = in_routines I i j q e
  in_part (d ∷ D) I zero j q e = absurd (none_some (ap (λ (o : Option Definition). o >>= as_routine) e))
  in_part (d ∷ D) I (suc i) j q e = in_part D I i j q e

  pub points_last : (D : Declarations) (I : List InPart) (k : ℕ) (x : Routine) → points D (I ++ (k, x) ∷ [])
      ≡ points D I ++ OfRoutine k x ∷ []
  points_last D I k x = ap (λ l. map OfDeclaration D ++ l) (map-append of_routine I ((k, x) ∷ [])) ∙ sym
      (append_assoc (map OfDeclaration D) (map of_routine I) (OfRoutine k x ∷ []))

  pub points_names : (D : Declarations) (I : List InPart) → names_of text (points D I) ≡ names_of text
      (map OfDeclaration D) ++ names_of text (map of_routine I)
  unfolding names_of
  points_names D I = map-append (λ d. spelled text (point d)) (map OfDeclaration D) (map of_routine I)

  pub routines_names : (I : List InPart) → names_of text (map of_routine I) ≡ routine_names text I
  unfolding names_of routine_names
  routines_names [] = refl
  routines_names (y ∷ I) = ap (λ l. sp text y.1 ∷ l) (routines_names I)

  pub points_names_last : (ds : List Definition) (k : ℕ) (x : Routine) → names_of text (ds ++ OfRoutine k x ∷ [])
      ≡ names_of text ds ++ sp text x ∷ []
  unfolding names_of
  points_names_last ds k x = map-append (λ d. spelled text (point d)) ds (OfRoutine k x ∷ [])

  pub names_length : (ds : List Definition) → length (names_of text ds) ≡ length ds
  unfolding names_of
  names_length [] = refl
  names_length (d ∷ ds) = ap suc (names_length ds)

  -- a name that no point has is not among the routines'
  pub not_routine : (D : Declarations) (I : List InPart) (s : List ℕ) → has (names_of text (points D I)) s ≡ false → has
      (routine_names text I) s ≡ false
  not_routine D I s e =
      let a = names_of text (map OfDeclaration D) in
      (or_parts (has a s) (has (routine_names text I) s)
      (sym (has_append a (routine_names text I) s) ∙ ap (λ l. has l s)
      (sym (points_names D I ∙ ap (λ l. a ++ l) (routines_names I))) ∙ e)).1

  pub name_there : (ds : List Definition) (i : ℕ) (d : Definition) (s : List ℕ) → slice_get ds i ≡ Some d → slice_get
      (names_of text ds) i ≡ Some s → s ≡ spelled text (point d)
  unfolding names_of
  name_there ds i d s e g = same_Some s (spelled text (point d))
      (sym g ∙ slice_get-map (λ d. spelled text (point d)) ds i ∙ ap (option_map (λ d. spelled text (point d))) e)

-- names are added at the end
added_more : (text : List ℕ) (x : RoutineReading) (xs : List (List ℕ)) → (more : List (List ℕ))
    × (add_routine text xs x ≡ xs ++ more)
unfolding add_routine
added_more text x xs = at (is_none x.heading || has xs (spelled text x.name))
  where
    at : (b : Bool) → (more : List (List ℕ)) × ((if b then xs else xs ++ spelled text x.name ∷ []) ≡ xs ++ more)
    at true = ([], sym (append-nil xs))
    at false = (spelled text x.name ∷ [], refl)

pub all_more : (text : List ℕ) (rs : List RoutineReading) (xs : List (List ℕ)) → (more : List (List ℕ))
    × (add_routines text xs rs ≡ xs ++ more)
all_more text [] xs = ([], sym (append-nil xs))
all_more text (r ∷ rs) xs =
    let a = added_more text r xs in
    let b = all_more text rs (add_routine text xs r) in
    (a.0 ++ b.0, b.1 ∙ ap (λ l. l ++ b.0) a.1 ∙ append_assoc xs a.0 b.0)

-- a spelling that occurs at a place is present
pub has_at : (xs : List (List ℕ)) (i : ℕ) (s : List ℕ) → slice_get xs i ≡ Some s → has xs s ≡ true
has_at [] i s e = absurd (none_some e)
has_at (x ∷ xs) zero s e = ap (λ b. b || has xs s) (ap (same s) (same_Some x s e) ∙ same_itself s)
has_at (x ∷ xs) (suc i) s e = ap (λ b. same s x || b) (has_at xs i s e) ∙ or-true (same s x)

pub formals_names : (text : List ℕ) (x : syntax.Heading) (n : ℕ) (names : List Span) → names_of text
    (map OfDeclaration (numbered (OfFormal x) n names)) ≡ map (spelled text) names
unfolding names_of
formals_names text x n [] = refl
formals_names text x n (name ∷ names) = ap (λ l. spelled text name ∷ l) (formals_names text x (n + 1) names)

pub none_stays : {A B : Type 0} (g : A → B) (o : Option A) → is_none (option_map g o) ≡ is_none o
none_stays g None = refl
none_stays g (Some x) = refl
