-- A name has one defining point in a block's region.
use Rattle.std.proofs.Common.{◌≡◌, ℕ, Bool, true, false, not, ◌||◌, List, [], ◌∷◌, ◌++◌, length, map, nat_lt, is_none}
use Rattle.std.proofs.Common.{◌⊎◌, inl, inr, refl, sym, ap, ◌∙◌, subst, append_assoc, append-nil}
use Rattle.std.specs.Prelude.{if◌then◌else◌}
use Rattle.std.proofs.lemmas.Bool.{not-true}
use Rattle.ps_check_judgement.specs.declared.refusal.Rule.TheVariants.{Twice, Limit}
use Rattle.ps_check_judgement.specs.Judged.{Yes, provided, steps}
use Rattle.ps_check_judgement.proofs.Binds.{inside_yes, then_yes, provided_yes}
use Rattle.ps_check_names.specs.Spelling.{spelled, has}
use Rattle.ps_check_names.specs.Regions.{Heading}
use Rattle.ps_check_declarations.specs.Points.{Points, add_name, add_point, add_points, block_points}
use Rattle.ps_check.specs.Readings.{RoutineReading, BlockLayer, Start}
use Rattle.ps_check.specs.Forwards.{add_routine, add_routines, block_names}
use Rattle.ps_check.specs.Entries.{add_names, start, add_sections, first_entry}
use Rattle.ps_check.specs.RegionNames.{AreApart}
use Rattle.ps_check.specs.Programs.{Files, list_file, file_named}

abbrev head_or : {A : Type 0} → A → List A → A
head_or d [] = d
head_or d (x ∷ xs) = x

abbrev tail_of : {A : Type 0} → List A → List A
tail_of [] = []
tail_of (x ∷ xs) = xs

nothing_then : {A : Type 0} (xs ys : List A) (x : A) → (let n : List A = [] in n) ≡ xs ++ x ∷ ys → ⊥
nothing_then [] ys x e = cc
nothing_then (y ∷ xs) ys x e = cc

pub none_apart : AreApart []
none_apart before after s e = absurd (nothing_then before after s e)

-- an element of a list with one more at its end is that one, or is one of the list
last_or_before : (xs before after : List (List ℕ)) (s u : List ℕ) → xs ++ s ∷ [] ≡ before ++ u ∷ after
    → ((before ≡ xs) × (u ≡ s)) ⊎ ((rest : List (List ℕ)) × (xs ≡ before ++ u ∷ rest))
last_or_before [] [] after s u e = inl (refl, sym (ap (head_or s) e))
last_or_before [] (b ∷ before) after s u e = absurd (nothing_then before after u (ap tail_of e))
last_or_before (x ∷ xs) [] after s u e = inr (xs, ap (λ y. y ∷ xs) (ap (head_or s) e))
last_or_before (x ∷ xs) (b ∷ before) after s u e = at (last_or_before xs before after s u (ap tail_of e))
  where
    at : ((before ≡ xs) × (u ≡ s)) ⊎ ((rest : List (List ℕ)) × (xs ≡ before ++ u ∷ rest))
        → ((b ∷ before ≡ x ∷ xs) × (u ≡ s)) ⊎ ((rest : List (List ℕ)) × (x ∷ xs ≡ (b ∷ before) ++ u ∷ rest))
    at (inl h) = inl (ap (λ y. y ∷ before) (sym (ap (head_or s) e)) ∙ ap (λ l. x ∷ l) h.0, h.1)
    at (inr h) = inr (h.0, ap (λ y. y ∷ xs) (ap (head_or s) e) ∙ ap (λ l. b ∷ l) h.1)

apart_more : (xs : List (List ℕ)) (s : List ℕ) → has xs s ≡ false → AreApart xs → AreApart (xs ++ s ∷ [])
apart_more xs s new apart before after u e = at (last_or_before xs before after s u e)
  where
    at : ((before ≡ xs) × (u ≡ s)) ⊎ ((rest : List (List ℕ)) × (xs ≡ before ++ u ∷ rest)) → has before u ≡ false
    at (inl h) = ap (λ l. has l u) h.0 ∙ ap (has xs) h.1 ∙ new
    at (inr h) = apart before h.0 u h.1

-- a name that is added is new, or present already
pub one_apart : (xs : List (List ℕ)) (s : List ℕ) → AreApart xs → AreApart (add_name xs s)
one_apart xs s apart = at (has xs s) refl
  where
    at : (b : Bool) → has xs s ≡ b → AreApart (if b then xs else xs ++ s ∷ [])
    at true g = apart
    at false g = apart_more xs s g apart

pub names_apart : (ns xs : List (List ℕ)) → AreApart xs → AreApart (add_names xs ns)
names_apart [] xs apart = apart
names_apart (n ∷ ns) xs apart = names_apart ns (add_name xs n) (one_apart xs n apart)

-- ---- names that are apart are added as they are

-- a name is not among those before it
pub apart_new : (xs : List (List ℕ)) (s : List ℕ) (ys : List (List ℕ)) → AreApart (xs ++ s ∷ ys) → has xs s ≡ false
apart_new xs s ys apart = apart xs ys s refl

pub apart_first : (xs ys : List (List ℕ)) → AreApart (xs ++ ys) → AreApart xs
apart_first xs ys apart before after s e = apart before (after ++ ys) s
    (ap (λ l. l ++ ys) e ∙ append_assoc before (s ∷ after) ys)

name_new : (xs : List (List ℕ)) (s : List ℕ) → has xs s ≡ false → add_name xs s ≡ xs ++ s ∷ []
name_new xs s new = ap (λ b. if b then xs else xs ++ s ∷ []) new

pub names_added : (xs ys : List (List ℕ)) → AreApart (xs ++ ys) → add_names xs ys ≡ xs ++ ys
names_added xs [] apart = sym (append-nil xs)
names_added xs (y ∷ ys) apart =
    let longer = append_assoc xs (y ∷ []) ys in
    ap (λ l. add_names l ys) (name_new xs y (apart_new xs y ys apart)) ∙ names_added (xs ++ y ∷ []) ys
    (subst AreApart (sym longer) apart) ∙ longer

module _ (text : List ℕ) where
  pub points_apart : (ps : Points) (xs : List (List ℕ)) → AreApart xs → AreApart (add_points text xs ps)
  unfolding add_points
  points_apart [] xs apart = apart
  points_apart (p ∷ ps) xs apart = points_apart ps (add_point text xs p) (one_apart xs (spelled text p) apart)

  pub points_added : (ps : Points) (xs : List (List ℕ)) → AreApart (xs ++ map (spelled text) ps) → add_points text xs ps
      ≡ xs ++ map (spelled text) ps
  unfolding add_points
  points_added [] xs apart = sym (append-nil xs)
  points_added (p ∷ ps) xs apart =
      let s = spelled text p in
      let longer = append_assoc xs (s ∷ []) (map (spelled text) ps) in
      ap (λ l. add_points text l ps) (name_new xs s (apart_new xs s (map (spelled text) ps) apart)) ∙ points_added ps
      (xs ++ s ∷ []) (subst AreApart (sym longer) apart) ∙ longer

  routine_apart : (r : RoutineReading) (xs : List (List ℕ)) → AreApart xs → AreApart (add_routine text xs r)
  unfolding add_routine
  routine_apart r xs apart = at (is_none r.heading) (has xs (spelled text r.name)) refl
    where
      at : (b c : Bool) → has xs (spelled text r.name) ≡ c → AreApart
          (if b || c then xs else xs ++ spelled text r.name ∷ [])
      at true c g = apart
      at false true g = apart
      at false false g = apart_more xs (spelled text r.name) g apart

  routines_apart : (rs : List RoutineReading) (xs : List (List ℕ)) → AreApart xs → AreApart (add_routines text xs rs)
  routines_apart [] xs apart = apart
  routines_apart (r ∷ rs) xs apart = routines_apart rs (add_routine text xs r) (routine_apart r xs apart)

  pub block_apart : (b : BlockLayer) (first : List (List ℕ)) → AreApart first → AreApart (block_names text b first)
  unfolding block_names
  block_apart b first apart = routines_apart b.routines
      (add_points text first (block_points b.constants b.types b.variables))
      (points_apart (block_points b.constants b.types b.variables) first apart)

  pub files_apart : (ps : Points) (files last : Files) → steps (list_file text) files ps ≡ Yes last
      → AreApart files.names → AreApart last.names
  unfolding list_file
  files_apart [] files last e apart = subst (λ (z : Files). AreApart z.names) (inside_yes files last e) apart
  files_apart (p ∷ ps) files last e apart =
      let s = spelled text p in
      let one = then_yes (list_file text files p) _ last e in
      let meaning = then_yes (file_named p.from s) _ one.0 one.1 in
      let names = then_yes (provided (not (has files.names s)) Twice p.from (files.names ++ s ∷ [])) _ one.0 meaning.2
      in
      let is = provided_yes (not (has files.names s)) Twice p.from (files.names ++ s ∷ []) names.0 names.1 in
      files_apart ps one.0 last one.2 (subst (λ (z : Files). AreApart z.names) (inside_yes _ one.0 names.2)
      (subst AreApart is.1 (apart_more files.names s (not-true (has files.names s) is.0) apart)))

-- the formal parameters of a routine
pub start_apart : (at : ℕ) (chain : List ℕ) (h : Heading) (s : Start) → start at chain h ≡ Yes s → AreApart s.names
unfolding start
start_apart at chain h s e =
    let inner = then_yes (provided (nat_lt (length chain) 16) Limit at (h.number ∷ chain)) _ s e in
    let entries = then_yes (add_sections at (record {
      next = first_entry h.result;
      known = [];
    }) h.sections) _ s inner.2 in
    let made : Start = record {
      chain = inner.0;
      names = add_names [] h.names;
      known = entries.0.known;
      first = entries.0.next;
    } in
    subst (λ (z : Start). AreApart z.names) (inside_yes made s entries.2) (names_apart h.names [] none_apart)
