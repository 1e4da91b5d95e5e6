-- What of the whole program is gathered while its blocks are read, and what the program has of it in the end.
use Rattle.std.proofs.Common.{◌≡◌, ℕ, zero, suc, ◌<◌, ◌≤◌, List, [], ◌∷◌, ◌++◌, length, get_or, Option, Some, None}
use Rattle.std.proofs.Common.{slice_get, slice_set, refl, sym, ap, ◌∙◌, arith, append_assoc, length-append}
use Rattle.std.proofs.lemmas.Option.{slice_get_within, same_Some}
use Rattle.ps_check_judgement.proofs.Impossible.{none_some}
use Rattle.ps_tree.specs.Types.{DataType, OrdinalType, PointerType}
use Rattle.ps_tree.specs.Tree as Tree
use Rattle.ps_tree.specs.Tree.{Program, no_routine}
use Rattle.ps_lower_layout.specs.Paths.{NumberSort, PointerSort}
use Rattle.ps_lower_calls.specs.Binding.{FirstsFit}
use Rattle.ps_lower_calls.specs.Routines.{ResultFits}
use Rattle.ps_check_names.specs.Regions.{formals_of, Heading}
use Rattle.ps_check.specs.Readings.{Gathered}
use Rattle.ps_lower_accepted.proofs.Lists.{Each}
use Rattle.ps_lower_accepted.proofs.Sound.{RoutineSound}
use Rattle.ps_lower_accepted.proofs.Tables.{Table, Extends, extends_both, TypeKnown}
use Rattle.ps_lower_accepted.proofs.Standing.{ResultKnown, IsDeclared}
use Rattle.ps_lower_accepted.proofs.Firsts.{first_fits}

-- ---- lists

pub set_same : {A : Type 0} (xs : List A) (i : ℕ) (x y : A) → slice_get xs i ≡ Some x → slice_get (slice_set xs i y) i
    ≡ Some y
set_same [] i x y e = absurd (none_some e)
set_same (z ∷ xs) zero x y e = refl
set_same (z ∷ xs) (suc i) x y e = set_same xs i x y e

pub set_other : {A : Type 0} (xs : List A) (i j : ℕ) (y : A) → (i ≡ j → ⊥) → slice_get (slice_set xs j y) i
    ≡ slice_get xs i
set_other [] i j y e = refl
set_other (z ∷ xs) zero zero y e = absurd (e refl)
set_other (z ∷ xs) zero (suc j) y e = refl
set_other (z ∷ xs) (suc i) zero y e = refl
set_other (z ∷ xs) (suc i) (suc j) y e = set_other xs i j y (λ q. e (ap suc q))

pub get_first : {A : Type 0} (xs ys : List A) (i : ℕ) → i < length xs → slice_get (xs ++ ys) i ≡ slice_get xs i
get_first [] ys i l = absurd (omega (arith, l))
get_first (x ∷ xs) ys zero l = refl
get_first (x ∷ xs) ys (suc i) l = get_first xs ys i (omega (arith, l))

-- where there was nothing, there is the last item
pub get_last : {A : Type 0} (xs : List A) (y m : A) (i : ℕ) → slice_get xs i ≡ None → slice_get (xs ++ y ∷ []) i
    ≡ Some m → (i ≡ length xs) × (y ≡ m)
get_last [] y m zero e f = (refl, same_Some y m f)
get_last [] y m (suc i) e f = absurd (none_some f)
get_last (x ∷ xs) y m zero e f = absurd (none_some (sym e))
get_last (x ∷ xs) y m (suc i) e f = let q = get_last xs y m i e f in (ap suc q.0, q.1)

pub or_there : (xs : List Tree.Routine) (i : ℕ) (x : Tree.Routine) → slice_get xs i ≡ Some x → get_or xs i no_routine
    ≡ x
or_there [] i x e = absurd (none_some e)
or_there (y ∷ xs) zero x e = same_Some y x e
or_there (y ∷ xs) (suc i) x e = or_there xs i x e

-- ---- routines so far

-- the routine with this number has its block
abbrev pub IsMade : Gathered → ℕ → Tree.Routine → Type 0
IsMade g i x = slice_get g.routines i ≡ Some (Some x)

abbrev pub IsVacant : Gathered → ℕ → Type 0
IsVacant g i = slice_get g.routines i ≡ Some None

unfoldable pub or_made : Option (Option Tree.Routine) → Option Tree.Routine
or_made None = None
or_made (Some o) = o

pub not_both : (g : Gathered) (i : ℕ) (x : Tree.Routine) → IsVacant g i → IsMade g i x → ⊥
unfolding or_made
not_both g i x v m = none_some (ap or_made (sym v ∙ m))

pub one_made : (g : Gathered) (i : ℕ) (x y : Tree.Routine) → IsMade g i x → IsMade g i y → x ≡ y
unfolding or_made
one_made g i x y a b = same_Some x y (ap or_made (sym a ∙ b))

-- more is gathered: what was made is there still
pub record Grows (g g' : Gathered) : Type 0 where
  pub more : List DataType
  pub domains : g'.domains ≡ g.domains ++ more
  pub made : (i : ℕ) (x : Tree.Routine) → IsMade g i x → IsMade g' i x

pub grows_both : (g h k : Gathered) → Grows g h → Grows h k → Grows g k
grows_both g h k a b = record {
  more = a.more ++ b.more;
  domains = b.domains ∙ ap (λ l. l ++ b.more) a.domains ∙ append_assoc g.domains a.more b.more;
  made = λ i x m. b.made i x (a.made i x m);
}

pub more_domains : (g g' : Gathered) → Grows g g' → length g.domains ≤ length g'.domains
more_domains g g' a = let l = length-append g.domains a.more in let e = ap length a.domains in omega (arith, l, e)

-- the program has what was gathered, and its table what was known
pub record Final (P : Program) (F D : Table) (g : Gathered) : Type 0 where
  pub extends : Extends D F
  pub more : List DataType
  pub domains : P.domains ≡ g.domains ++ more
  pub made : (i : ℕ) (x : Tree.Routine) → IsMade g i x → slice_get P.routines i ≡ Some x

pub final_before : (P : Program) (F D E : Table) (g h : Gathered) → Extends D E → Grows g h → Final P F E h
    → Final P F D g
final_before P F D E g h x a f = record {
  extends = extends_both D E F x f.extends;
  more = a.more ++ f.more;
  domains = f.domains ∙ ap (λ l. l ++ f.more) a.domains ∙ append_assoc g.domains a.more f.more;
  made = λ i y m. f.made i y (a.made i y m);
}

pub all_domains : (P : Program) (F D : Table) (g : Gathered) → Final P F D g → length g.domains ≤ length P.domains
all_domains P F D g f = let l = length-append g.domains f.more in let e = ap length f.domains in omega (arith, l, e)

-- the routines from a number on that have their blocks are sound
abbrev pub AllFit : Program → (base : ℕ) → Gathered → Type 0
AllFit P base g = (i : ℕ) (x : Tree.Routine) → base ≤ i → IsMade g i x → RoutineSound P x

-- the routine of a heading
pub record IsRoutineOf (chain : List ℕ) (h : Heading) (x : Tree.Routine) : Type 0 where
  pub chain_is : x.chain ≡ h.number ∷ chain
  pub formals : x.formals ≡ formals_of h.sections
  pub result : x.result ≡ h.result

pub is_declared : (P : Program) (chain : List ℕ) (h : Heading) (x : Tree.Routine) → IsRoutineOf chain h x
    → slice_get P.routines h.number ≡ Some x → IsDeclared P chain h
is_declared P chain h x is e =
    let at = or_there P.routines h.number x e in
    record {
      some = slice_get_within P.routines h.number x e;
      number = ap (λ (y : Tree.Routine). y.chain) at ∙ is.chain_is;
      formals = ap (λ (y : Tree.Routine). y.formals) at ∙ is.formals;
      result = ap (λ (y : Tree.Routine). y.result) at ∙ is.result;
    }

-- ---- what known types give a routine

pub result_fits : (F : Table) (b : ℕ) (o : Option DataType) → ResultKnown F b o → ResultFits o
result_fits F b None k = tt
result_fits F b (Some (OrdinalType o)) k = (NumberSort, refl, first_fits F b (OrdinalType o) k.1)
result_fits F b (Some (PointerType n)) k = (PointerSort n, refl, first_fits F b (PointerType n) k.1)
result_fits F b (Some type) k = absurd k.0

pub variables_fit : (F : Table) (b : ℕ) (types : List DataType) → Each (TypeKnown F b) types → FirstsFit types
variables_fit F b [] k = tt
variables_fit F b (type ∷ types) k = (first_fits F b type k.0, variables_fit F b types k.1)
