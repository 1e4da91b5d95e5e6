-- The names of an accepted block's region are the spellings of its defining points, each once.
use Rattle.std.proofs.Common.{◌≡◌, ℕ, Bool, true, false, ◌||◌, List, [], ◌∷◌, ◌++◌, map, Option, Some, None, is_none}
use Rattle.std.proofs.Common.{is_some, ◌⊎◌, inl, inr, refl, sym, ap, ◌∙◌, subst, append_assoc, append-nil, arith}
use Rattle.std.proofs.Common.{slice_get}
use Rattle.std.specs.Prelude.{if◌then◌else◌, option_and_then}
use Rattle.std.proofs.lemmas.List.Elements.{Contains-append_left, Contains-append_right}
use Rattle.ps_syntax.specs.declared.program.Heading as syntax
use Rattle.ps_tree.proofs.NameLemmas.{has_place}
use Rattle.ps_check_judgement.specs.Judged.{Yes, steps}
use Rattle.ps_check_judgement.proofs.Binds.{no_yes, inside_yes, then_yes}
use Rattle.ps_check_names.specs.Spelling.{spelled, has, place}
use Rattle.ps_check_names.specs.Regions.{Region, Context}
use Rattle.ps_check_declarations.specs.Points.{Points, add_name, add_point, add_points, block_points}
use Rattle.ps_check_declarations.specs.Denoters.{Frame, Declared}
use Rattle.ps_check_declarations.specs.Declarations.{declarations}
use Rattle.ps_check.specs.Readings.{Gathered, Start, Done, Routines, RoutineReading, BlockLayer}
use Rattle.ps_check.specs.Forwards.{add_routine, add_routines, block_names}
use Rattle.ps_check.specs.Entries.{add_names}
use Rattle.ps_check.specs.Blocks.{own_number, introduce, introduced, one_routine, declared, block_step}
use Rattle.ps_check.specs.RegionNames.{Each, AreApart, IsOfRoutine, NamesArePoints}
use Rattle.ps_check.proofs.Fresh.{has_more, has_last, Fresh, fresh_added, points_names, Ahead}
use Rattle.ps_check.proofs.NewParts.{Part, declarations_part}

-- ---- names that are apart

abbrev head_or : {A : Type 0} → A → List A → A
head_or d [] = d
head_or d (x ∷ xs) = x

abbrev tail_of : {A : Type 0} → List A → List A
tail_of [] = []
tail_of (x ∷ xs) = xs

nothing_then : {A : Type 0} (xs ys : List A) (x : A) → (let n : List A = [] in n) ≡ xs ++ x ∷ ys → ⊥
nothing_then [] ys x e = cc
nothing_then (y ∷ xs) ys x e = cc

-- an element of a list with one more at its end is that one, or is one of the list
last_or_before : (xs before after : List (List ℕ)) (s u : List ℕ) → xs ++ s ∷ [] ≡ before ++ u ∷ after
    → ((before ≡ xs) × (u ≡ s)) ⊎ ((rest : List (List ℕ)) × (xs ≡ before ++ u ∷ rest))
last_or_before [] [] after s u e = inl (refl, sym (ap (head_or s) e))
last_or_before [] (b ∷ before) after s u e = absurd (nothing_then before after u (ap tail_of e))
last_or_before (x ∷ xs) [] after s u e = inr (xs, ap (λ y. y ∷ xs) (ap (head_or s) e))
last_or_before (x ∷ xs) (b ∷ before) after s u e = at (last_or_before xs before after s u (ap tail_of e))
  where
    at : ((before ≡ xs) × (u ≡ s)) ⊎ ((rest : List (List ℕ)) × (xs ≡ before ++ u ∷ rest))
        → ((b ∷ before ≡ x ∷ xs) × (u ≡ s)) ⊎ ((rest : List (List ℕ)) × (x ∷ xs ≡ (b ∷ before) ++ u ∷ rest))
    at (inl h) = inl (ap (λ y. y ∷ before) (sym (ap (head_or s) e)) ∙ ap (λ l. x ∷ l) h.0, h.1)
    at (inr h) = inr (h.0, ap (λ y. y ∷ xs) (ap (head_or s) e) ∙ ap (λ l. b ∷ l) h.1)

apart_more : (xs : List (List ℕ)) (s : List ℕ) → has xs s ≡ false → AreApart xs → AreApart (xs ++ s ∷ [])
apart_more xs s new apart before after u e = at (last_or_before xs before after s u e)
  where
    at : ((before ≡ xs) × (u ≡ s)) ⊎ ((rest : List (List ℕ)) × (xs ≡ before ++ u ∷ rest)) → has before u ≡ false
    at (inl h) = ap (λ l. has l u) h.0 ∙ ap (has xs) h.1 ∙ new
    at (inr h) = apart before h.0 u h.1

pub name_apart : (names : List (List ℕ)) (s : List ℕ) → AreApart names → AreApart (add_name names s)
name_apart names s a = at (has names s) refl
  where
    at : (b : Bool) → has names s ≡ b → AreApart (if b then names else (names ++ s ∷ []))
    at true e = a
    at false e = apart_more names s e a

-- ---- routines

module _ (text : List ℕ) where
  points_apart : (points : Points) (names : List (List ℕ)) → AreApart names → AreApart (add_points text names points)
  unfolding add_points
  points_apart [] names a = a
  points_apart (p ∷ ps) names a = points_apart ps (add_point text names p) (name_apart names (spelled text p) a)

  -- the names that routines add after those that are there
  record Grown (rs : List RoutineReading) (from to : List (List ℕ)) : Type 0 where
    routines : List (List ℕ)
    are : to ≡ from ++ routines
    of_routines : Each (IsOfRoutine text rs) routines
    -- each routine with a heading has its name there
    headings : Each (λ r. is_none r.heading ≡ false → has to (spelled text r.name) ≡ true) rs
    apart : AreApart from → AreApart to

  grown_at : (r : RoutineReading) (from to : List (List ℕ)) (n h : Bool) → is_none r.heading ≡ n → has from
      (spelled text r.name) ≡ h → to ≡ (if n || h then from else (from ++ spelled text r.name ∷ [])) → Grown
      (r ∷ []) from to
  grown_at r from to true h n e is = record {
    routines = [];
    are = is ∙ sym (append-nil from);
    of_routines = tt;
    headings = ((λ q. absurd (let z : true ≡ false = sym n ∙ q in cc)), tt);
    apart = λ a. subst AreApart (sym is) a;
  }
  grown_at r from to false true n e is = record {
    routines = [];
    are = is ∙ sym (append-nil from);
    of_routines = tt;
    headings = ((λ q. ap (λ l. has l (spelled text r.name)) is ∙ e), tt);
    apart = λ a. subst AreApart (sym is) a;
  }
  grown_at r from to false false n e is = record {
    routines = spelled text r.name ∷ [];
    are = is;
    of_routines = (record { routine = r; among = (0, omega arith, refl); spelling = refl }, tt);
    headings = ((λ q. ap (λ l. has l (spelled text r.name)) is ∙ has_last from (spelled text r.name)), tt);
    apart = λ a. subst AreApart (sym is) (apart_more from (spelled text r.name) e a);
  }

  grown_one : (r : RoutineReading) (from : List (List ℕ)) → Grown (r ∷ []) from (add_routine text from r)
  unfolding add_routine
  grown_one r from = grown_at r from (add_routine text from r) (is_none r.heading)
      (has from (spelled text r.name)) refl refl refl

  among_more : (xs ys : List RoutineReading) (ss : List (List ℕ)) → Each (IsOfRoutine text ys) ss → Each
      (IsOfRoutine text (xs ++ ys)) ss
  among_more xs ys [] a = tt
  among_more xs ys (s ∷ ss) a = (
    record {
      routine = a.0.routine;
      among = Contains-append_right xs ys a.0.routine a.0.among;
      spelling = a.0.spelling;
    },
    among_more xs ys ss a.1,
  )

  among_first : (xs ys : List RoutineReading) (ss : List (List ℕ)) → Each (IsOfRoutine text xs) ss → Each
      (IsOfRoutine text (xs ++ ys)) ss
  among_first xs ys [] a = tt
  among_first xs ys (s ∷ ss) a = (
    record {
      routine = a.0.routine;
      among = Contains-append_left xs ys a.0.routine a.0.among;
      spelling = a.0.spelling;
    },
    among_first xs ys ss a.1,
  )

  all_both : (rs : List RoutineReading) (xs ys : List (List ℕ)) → Each (IsOfRoutine text rs) xs → Each
      (IsOfRoutine text rs) ys → Each (IsOfRoutine text rs) (xs ++ ys)
  all_both rs [] ys a b = b
  all_both rs (x ∷ xs) ys a b = (a.0, all_both rs xs ys a.1 b)

  grown : (rs : List RoutineReading) (from : List (List ℕ)) → Grown rs from (add_routines text from rs)
  grown [] from = record { routines = []; are = sym (append-nil from); of_routines = tt; headings = tt; apart = λ a. a }
  grown (r ∷ rs) from =
      let one = grown_one r from in
      let rest = grown rs (add_routine text from r) in
      record {
        routines = one.routines ++ rest.routines;
        are = rest.are ∙ ap (λ l. l ++ rest.routines) one.are ∙ append_assoc from one.routines rest.routines;
        of_routines = all_both (r ∷ rs) one.routines rest.routines
            (among_first (r ∷ []) rs one.routines one.of_routines)
            (among_more (r ∷ []) rs rest.routines rest.of_routines);
        headings = (
          (λ q. ap (λ l. has l (spelled text r.name)) rest.are ∙ has_more
              (add_routine text from r) rest.routines (spelled text r.name) (one.headings.0 q)),
          rest.headings,
        );
        apart = λ a. rest.apart (one.apart a);
      }

-- ---- routines that were read

-- a routine without a heading was known
none_unknown : (b : Bool) → b ≡ false → (let t : Bool = true in t) ≡ b → ⊥
none_unknown b e q = cc

module _ (f : Frame) (x : RoutineReading) (r w : Routines) where
  unheaded_known : x.heading ≡ None → introduced f x r ≡ Yes w → has f.names (spelled f.text x.name) ≡ true
  unfolding introduce
  unheaded_known none e = at (place f.names (spelled f.text x.name)) refl
    where
      at : (o : Option ℕ) → place f.names (spelled f.text x.name) ≡ o → has f.names (spelled f.text x.name) ≡ true
      at None q = absurd (no_yes (sym (ap (λ h. introduce f (record {
        name = x.name;
        heading = h;
        block = x.block;
      }) r None) none) ∙ sym (ap (λ o. introduce f x r (option_and_then (slice_get r.known) o)) q) ∙ e))
      at (Some i) q = sym (has_place f.names (spelled f.text x.name)) ∙ ap (λ o. is_some o) q

  name_known : (is_none x.heading ≡ false → has f.names (spelled f.text x.name) ≡ true) → introduced f x r ≡ Yes w
      → has f.names (spelled f.text x.name) ≡ true
  name_known headed e = at x.heading refl
    where
      at : (h : Option syntax.Heading) → x.heading ≡ h → has f.names (spelled f.text x.name) ≡ true
      at None q = unheaded_known q e
      at (Some h) q = headed (ap is_none q)

module _ (f : Frame) (chain : List ℕ) where
  all_known : (xs : List RoutineReading) (r w : Routines) → steps (one_routine f chain) r xs ≡ Yes w → Each
      (λ x. is_none x.heading ≡ false → has f.names (spelled f.text x.name) ≡ true) xs → Each
      (λ x. has f.names (spelled f.text x.name) ≡ true) xs
  unfolding one_routine
  all_known [] r w e a = tt
  all_known (x ∷ xs) r w e a =
      let one = then_yes (one_routine f chain r x) _ w e in
      let s = then_yes (introduced f x r) _ one.0 one.1 in
      (name_known f x r s.0 a.0 s.1, all_known xs one.0 w one.2 a.1)

-- ---- the parts of a block that was read

-- the frame in which a block is read
abbrev pub frame_in : Context → BlockLayer → List Region → Start → Frame
frame_in c b Γ s = record {
  text = c.text;
  routine = own_number s.chain;
  names = block_names c.text b s.names;
  begun = [];
  outer = Γ;
}

abbrev pub first_declared : Start → Gathered → Declared
first_declared s g = record { known = s.known; domains = g.domains; pending = []; variables = [] }

pub record BlockParts (c : Context) (b : BlockLayer) (Γ : List Region) (s : Start) (g : Gathered) : Type 0 where
  pub made : Declared
  pub declarations_read : declarations (frame_in c b Γ s) s.first (first_declared s g) b.constants b.types b.variables
      ≡ Yes made
  pub before : Routines
  pub known : before.known ≡ made.known
  pub behind : Routines
  pub routines_read : steps (one_routine (frame_in c b Γ s) s.chain) before b.routines ≡ Yes behind

pub block_parts : (c : Context) (b : BlockLayer) (Γ : List Region) (s : Start) (g : Gathered) (d : Done)
    → block_step c b Γ s g ≡ Yes d → BlockParts c b Γ s g
unfolding block_step declared
block_parts c b Γ s g d e =
    let o = then_yes (declared (frame_in c b Γ s) b s.first s.known g) _ d e in
    let m = then_yes (declarations (frame_in c b Γ s) s.first (first_declared s g) b.constants b.types b.variables) _
    o.0 o.1 in
    let r = then_yes (steps (one_routine (frame_in c b Γ s) s.chain) o.0.0 b.routines) _ d o.2 in
    record {
      made = m.0;
      declarations_read = m.1;
      before = o.0.0;
      known = sym (ap (λ z. z.0.known) (inside_yes _ o.0 m.2));
      behind = r.0;
      routines_read = r.1;
    }

pub names_are_points : NamesArePoints
unfolding block_names
names_are_points c b Γ s g d lengths e =
    let parts = block_parts c b Γ s g d e in
    let points : Points = block_points b.constants b.types b.variables in
    let part : Part (frame_in c b Γ s) (first_declared s g) points parts.made = declarations_part
    (frame_in c b Γ s) s.first (first_declared s g) parts.made b.constants b.types b.variables
    parts.declarations_read in
    let routines = grown c.text b.routines (add_points c.text s.names points) in
    let spellings : List (List ℕ) = map (spelled c.text) points in
    let ahead : Ahead (block_names c.text b s.names) s.names (spellings ++ []) = record {
      behind = routines.routines;
      are = routines.are ∙ ap (λ l. l ++ routines.routines)
          (points_names c.text s.names points ∙ ap (add_names s.names) (sym (append-nil spellings)));
    } in
    let fresh : Fresh s.names spellings = part.fresh s.names [] lengths ahead in
    record {
      routines = routines.routines;
      are = routines.are ∙ ap (λ l. l ++ routines.routines)
          (points_names c.text s.names points ∙ fresh_added s.names spellings fresh);
      of_routines = routines.of_routines;
      every_routine = all_known (frame_in c b Γ s) s.chain b.routines parts.before parts.behind parts.routines_read
          routines.headings;
      apart = λ a. routines.apart (points_apart c.text points s.names a);
    }
