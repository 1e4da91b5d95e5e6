-- Meanings of the names of a block, and what a block is given and gives.
use Rattle.std.proofs.Common.{◌≡◌, ℕ, zero, suc, ◌<◌, ◌≤◌, Bool, true, false, ◌==◌, if◌then◌else◌, nat_lt, List, []}
use Rattle.std.proofs.Common.{◌∷◌, ◌++◌, length, Option, Some, None, option_and_then, slice_get, refl, sym, ap, ◌∙◌}
use Rattle.std.proofs.Common.{arith, eqb-true, eq-eqb, ltb-true, ltb-false, ne_eqb}
use Rattle.ps_scan.specs.Spans.{AreOrdered}
use Rattle.ps_parse_grammar.specs.Symbols.{Tokens}
use Rattle.ps_tree.specs.Types.{DataType}
use Rattle.ps_tree.specs.Tree as Tree
use Rattle.ps_tree.specs.Tree.{Program}
use Rattle.ps_lower_layout.specs.Frames.{Kind}
use Rattle.ps_lower_code.specs.Fits.{StatementsFit}
use Rattle.tac_code.specs.Sound.{IsLine}
use Rattle.ps_check_judgement.specs.Judged.{Yes}
use Rattle.ps_check_judgement.proofs.Binds.{no_yes, inside_yes}
use Rattle.ps_check_judgement.proofs.Impossible.{never, none_some}
use Rattle.ps_check_names.specs.Regions.{Region, Meaning, ParameterMeaning, RoutineParameterMeaning, RoutineMeaning}
use Rattle.ps_check_names.specs.Regions.{Heading}
use Rattle.ps_check.specs.Readings.{Gathered, Start, Done, Routines}
use Rattle.ps_check.specs.Forwards.{is_vacant}
use Rattle.ps_check.specs.Blocks.{heading_at}
use Rattle.ps_check.proofs.EachItem.{each_at}
use Rattle.ps_lower_accepted.proofs.Lists.{Each}
use Rattle.ps_lower_accepted.proofs.Tables.{Table, Extends, EndsBefore, TypeKnown}
use Rattle.ps_lower_accepted.proofs.Standing.{MeaningKnown, RegionsKnown, IsDeclared, MeaningStands, BlocksStand}
use Rattle.ps_lower_accepted.proofs.Aims.{IsOwn}
use Rattle.ps_lower_accepted.proofs.Entries.{IsAmong}
use Rattle.ps_lower_accepted.proofs.Gathering.{get_last, Grows, Final, AllFit, or_made}

-- ---- meanings of a block

-- no routine of a heading
abbrev pub IsPlain : Meaning → Type 0
IsPlain (RoutineMeaning h) = ⊥
IsPlain m = Unit {0}

pub among_plain : (kinds : List Kind) (m : Meaning) → IsAmong kinds m → IsPlain m
among_plain kinds (ParameterMeaning entry type) k = tt
among_plain kinds (RoutineParameterMeaning entry sections result) k = tt
among_plain kinds m k = absurd k

-- a routine that has a heading has its number from the block's on, and the number determines the heading
abbrev pub IsNumbered : (ℕ → Option Heading) → (base count : ℕ) → Meaning → Type 0
IsNumbered headings base count (RoutineMeaning h) = (headings h.number ≡ Some h) × (base ≤ h.number)
    × (h.number < count)
IsNumbered headings base count m = Unit {0}

pub plain_numbered : (headings : ℕ → Option Heading) (base count : ℕ) (m : Meaning) → IsPlain m
    → IsNumbered headings base count m
plain_numbered headings base count (RoutineMeaning h) k = absurd k
plain_numbered headings base count m k = tt

pub numbered_more : (headings : ℕ → Option Heading) (base m n : ℕ) → m ≤ n → (x : Meaning)
    → IsNumbered headings base m x
    → IsNumbered headings base n x
numbered_more headings base m n le (RoutineMeaning h) k = (k.0, k.1, let l = k.2 in omega (arith, l, le))
numbered_more headings base m n le x k = tt

abbrev pub IsDeclaredIf : Program → List ℕ → Meaning → Type 0
IsDeclaredIf P chain (RoutineMeaning h) = IsDeclared P chain h
IsDeclaredIf P chain m = Unit {0}

abbrev pub number_of : Meaning → ℕ
number_of (RoutineMeaning x) = x.number
number_of m = 0

-- ---- one more heading

abbrev pub added_heading : ℕ → Heading → (ℕ → Option Heading) → ℕ → Option Heading
added_heading n h f i = if i == n then Some h else f i

pub added_there : (n : ℕ) (h : Heading) (f : ℕ → Option Heading) → added_heading n h f n ≡ Some h
added_there n h f = ap (λ b. if b then Some h else f n) (eq-eqb n n refl)

pub added_other : (n : ℕ) (h : Heading) (f : ℕ → Option Heading) (i : ℕ) → (i ≡ n → ⊥) → added_heading n h f i ≡ f i
added_other n h f i e = ap (λ b. if b then Some h else f i) (ne_eqb i n e)

pub numbered_added : (h : Heading) (f : ℕ → Option Heading) (base count : ℕ) (m : Meaning) → IsNumbered f base count m
    → IsNumbered (added_heading count h f) base (suc count) m
numbered_added h f base count (RoutineMeaning x) k = (
  added_other count h f x.number (λ e. let l = k.2 in omega (arith, l, e)) ∙ k.0,
  k.1,
  let l = k.2 in omega
      (arith, l),
)
numbered_added h f base count m k = tt

-- a number is another, or the same
pub either : (i n : ℕ) (C : Type 0) → (i ≡ n → C) → ((i ≡ n → ⊥) → C) → C
either i n C same apart = go (i == n) refl
  where
    go : (b : Bool) → (i == n) ≡ b → C
    go true e = same (eqb-true i n e)
    go false e = apart (λ q. let t = eq-eqb i n q in never (sym e ∙ t))

pub below_or : (i n : ℕ) (C : Type 0) → (i < n → C) → (n ≤ i → C) → C
below_or i n C below above = go (nat_lt i n) refl
  where
    go : (b : Bool) → nat_lt i n ≡ b → C
    go true e = below (ltb-true i n e)
    go false e = above (ltb-false i n e)

-- no routine is made by one more heading
pub unmade : (rs : List (Option Tree.Routine)) (i : ℕ) (x : Tree.Routine) → slice_get (rs ++ None ∷ []) i ≡ Some
    (Some x)
    → slice_get rs i ≡ Some (Some x)
unfolding or_made
unmade [] zero x e = absurd (none_some (ap or_made e))
unmade [] (suc i) x e = absurd (none_some e)
unmade (r ∷ rs) zero x e = e
unmade (r ∷ rs) (suc i) x e = unmade rs i x e

abbrev pub with_heading : Routines → Heading → Routines
with_heading r h = record {
  known = r.known ++ RoutineMeaning h ∷ [];
  changes = r.changes;
  gathered = record {
    domains = r.gathered.domains;
    routines = r.gathered.routines ++ None ∷ [];
  };
}

pub heading_there : (at : ℕ) (o : Option Meaning) (h : Heading) → heading_at at o ≡ Yes h → o ≡ Some (RoutineMeaning h)
unfolding heading_at
heading_there at (Some (RoutineMeaning x)) h e = ap (λ y. Some (RoutineMeaning y)) (inside_yes x h e)
heading_there at o h e = absurd (no_yes e)

-- ---- the meaning of a name that may have a place in its region

abbrev pub at_place : Option ℕ → List Meaning → Option Meaning
at_place i known = option_and_then (slice_get known) i

pub place_each : (P : Meaning → Type 0) (known : List Meaning) (i : Option ℕ) (m : Meaning) → Each P known
    → at_place i known ≡ Some m → P m
place_each P known None m k e = absurd (none_some e)
place_each P known (Some i) m k e = each_at P known i m k e

-- where there was nothing, there is the last one
pub place_last : (known : List Meaning) (y m : Meaning) (i : Option ℕ) → at_place i known ≡ None → at_place i
    (known ++ y ∷ []) ≡ Some m → y ≡ m
place_last known y m None n e = absurd (none_some e)
place_last known y m (Some i) n e = (get_last known y m i n e).1

pub vacant_is : (o : Option (Option Tree.Routine)) → is_vacant o ≡ true → o ≡ Some None
vacant_is (Some None) e = refl
vacant_is (Some (Some x)) e = never e
vacant_is None e = never e

pub ends_later : (D : Table) (low next : ℕ) → low ≤ next → EndsBefore low D → EndsBefore next D
ends_later D low next le e = record {
  structures = λ at l. e.structures at (omega (arith, l, le));
  subranges = λ at l. e.subranges at (omega (arith, l, le));
  enumerations = λ at l. e.enumerations at (omega (arith, l, le));
}

-- ---- what a block is given and gives

-- parameters and variables of the block of a routine are in the program
pub record OwnStand (P : Program) (chain : List ℕ) (first : ℕ) (known : List Meaning) (variables : List DataType)
    : Type 0 where
  pub begun : Each (MeaningStands P chain) known
  pub own : (ms : List Meaning) → Each (IsOwn first variables) ms → Each (MeaningStands P chain) ms

abbrev pub Targets : Program → Table → Type 0
Targets P F = Each (TypeKnown F (length P.domains)) P.domains

pub record Ready (D : Table) (outer : List Region) (known : List Meaning) (g : Gathered) : Type 0 where
  pub regions : RegionsKnown D (length g.domains) outer
  pub known_there : Each (MeaningKnown D (length g.domains)) known
  pub plain : Each IsPlain known
  pub domains : Each (TypeKnown D (length g.domains)) g.domains

pub record BlockTold (own : ℕ) (rest : List ℕ) (outer : List Region) (known : List Meaning) (first : ℕ) (D : Table)
    (low high : ℕ) (r : Tokens) (g : Gathered) (done : Done) : Type 0 where
  pub table : Table
  pub next : ℕ
  pub later : low ≤ next
  pub ordered : AreOrdered next high r
  pub extends : Extends D table
  pub ends : EndsBefore next table
  pub domains : Each (TypeKnown table (length done.gathered.domains)) done.gathered.domains
  pub variables : Each (TypeKnown table (length done.gathered.domains)) done.variables
  pub grows : Grows g done.gathered
  pub count : length g.routines ≤ length done.gathered.routines
  pub kept : (i : ℕ) → i < length g.routines → slice_get done.gathered.routines i ≡ slice_get g.routines i
  pub line : IsLine done.line
  pub fits : (P : Program) (F : Table) → Final P F table done.gathered → Targets P F → BlocksStand P F outer rest
      → OwnStand P (own ∷ rest) first known done.variables
      → AllFit P (length g.routines) done.gathered × StatementsFit (record {
        program = P;
        chain = own ∷ rest;
        opened = [];
      }) [] done.body

abbrev pub start_of : List ℕ → List (List ℕ) → List Meaning → ℕ → Start
start_of chain names known first = record { chain = chain; names = names; known = known; first = first }
