-- Marks of the names of fields.
use Rattle.std.proofs.Common.{◌≡◌, ◌+◌, ◌<◌, ◌≤◌, ◌⊎◌, inl, inr, ℕ, Bool, false, arith}
use Rattle.std.proofs.Common.{List, [], ◌∷◌, ◌++◌, length, Option, Some, None, refl, sym, ap, subst, ◌∙◌, slice_get, get_or}
use Rattle.std.specs.Hash.FoldHasher as folding
use Rattle.std.specs.declared.hash.FoldHasher.{FoldHasher}
use Rattle.std.specs.Prelude.{IsTrue}
use Rattle.std.proofs.Math.Nat.{eq-or-lt_of_le}
use Rattle.std.proofs.lemmas.Option.{slice_get_within, same_Some}
use Rattle.ps_check_judgement.proofs.Impossible.{never, none_some}
use Rattle.ps_tree.specs.declared.types.Ty.{Ty}
use Rattle.ps_tree.specs.Types.{DataType, field_in}
use Rattle.ps_tree.specs.Names.{place}
use Rattle.ps_tree.specs.View.{type_of}
use Rattle.ps_check_names.specs.Regions.{fields_of}
use Rattle.ps_check_names.specs.Opened.{HasField, NoneBehind, Narrow}
use Rattle.ps_check_names.specs.Sets.{Holds, Apart}
use Rattle.ps_check_names.specs.Marks.{mark_of, IsMark, MarkedFor, Marked, Shown}
use Rattle.ps_check_names.proofs.NoteLemmas.{last_or, placed}

-- ---- marks

same_start : (h g : FoldHasher) → folding.finish h ≡ folding.finish g → h ≡ g
same_start h g e = ap (λ n. record { state = n }) e

-- a mark that was made in a state is one of that state
pub is_mark : (start : FoldHasher) (state number : ℕ) (s : List ℕ) → state ≡ folding.finish start
    → number ≡ mark_of start s
    → IsMark state number s
is_mark start state number s e is = λ h f. is ∙ ap (λ x. mark_of x s) (sym (same_start h start (f ∙ e)))

-- ---- sets of marks

-- the names before index i are marked
abbrev pub MarkedTo : (names : List (List ℕ)) (mark : List ℕ → ℕ) (marks : List ℕ) (i : ℕ) → Type 0
MarkedTo names mark marks i = (s : List ℕ) (m : ℕ) → m < i → slice_get names m ≡ Some s → Holds marks (mark s)

pub marks_start : (names : List (List ℕ)) (mark : List ℕ → ℕ) (marks : List ℕ) → MarkedTo names mark marks 0
marks_start names mark marks = λ s m l e. absurd (omega (arith, l))

pub marks_next : (names : List (List ℕ)) (mark : List ℕ → ℕ) (marks marks' : List ℕ) (i : ℕ) (x : List ℕ) → slice_get
    names i ≡ Some x → MarkedTo names mark marks i → ((n : ℕ) → Holds marks n → Holds marks' n) → Holds marks'
    (mark x) → MarkedTo names mark marks' (i + 1)
marks_next names mark marks marks' i x is before kept last = λ s m l e. by s m e
    (eq-or-lt_of_le (let z : m ≤ i = omega (arith, l) in z))
  where
    by : (s : List ℕ) (m : ℕ) → slice_get names m ≡ Some s → (m ≡ i) ⊎ (m < i) → Holds marks' (mark s)
    by s m e (inr h) = kept (mark s) (before s m h e)
    by s m e (inl h) = rw (same_Some x s (sym is ∙ ap (slice_get names) (sym h) ∙ e)) at last

pub marks_end : (names : List (List ℕ)) (mark : List ℕ → ℕ) (marks : List ℕ) (i : ℕ) → length names ≤ i → MarkedTo names
    mark marks i → (s : List ℕ) (m : ℕ) → place names s ≡ Some m → Holds marks (mark s)
marks_end names mark marks i end marked s m e =
    let p = placed s 0 names m e in
    let w = slice_get_within names p.0 s p.2 in
    marked s p.0 (omega (arith, w, end)) p.2

-- a type without fields
pub none_marked : (ty : Ty) (mark : List ℕ → ℕ) (marks : List ℕ)
    → ((s : List ℕ) → field_in (fields_of (type_of ty)) s ≡ None) → MarkedFor ty mark marks
none_marked ty mark marks none = λ s h. absurd (none_some (sym (none s) ∙ h.1))

-- the marks of all names of a record's fields
pub names_marked : (ty : Ty) (mark : List ℕ → ℕ) (marks : List ℕ) (names : List (List ℕ))
    → ((s : List ℕ) → HasField ty s → (m : ℕ) × (place names s ≡ Some m))
    → ((s : List ℕ) (m : ℕ) → place names s ≡ Some m → Holds marks (mark s)) → MarkedFor ty mark marks
names_marked ty mark marks names has there = λ s h. let m = has s h in there s m.0 m.1

-- ---- records

pub marked_none : (records : List Ty) (kinds : List ℕ → List ℕ) (present latest : List ℕ) (mark : List ℕ → ℕ)
    (marks : List ℕ) → records ≡ [] → Marked records kinds present latest mark marks
marked_none records kinds present latest mark marks e = λ s k ty is. absurd
    (none_some (ap (λ l. slice_get l k) (sym e) ∙ is))

-- one more
module _ (records : List Ty) (ty : Ty) (kinds : List ℕ → List ℕ) (present latest : List ℕ) (mark : List ℕ → ℕ)
    (marks : List ℕ) (marked : Marked records kinds present latest mark marks) where
  -- its type has few fields
  pub marked_narrow : (marks' : List ℕ) → ((n : ℕ) → Holds marks n → Holds marks' n) → MarkedFor ty mark marks'
      → Marked (records ++ ty ∷ []) kinds present latest mark marks'
  marked_narrow marks' kept there = λ s k t is h passed. last_or records ty k t _ is
      (λ e. kept (mark s) (marked s k t e h passed))
      (λ e f. there s (subst (λ u. HasField u s) (sym f) h))

  -- it is of a wide type
  pub marked_wide : (present' latest' : List ℕ) (number before : ℕ) → before ≡ length records
      → ((n : ℕ) → Holds present n → Holds present' n) → Holds present' number
      → ((n : ℕ) → get_or latest n 0 ≤ get_or latest' n 0) → before + 1 ≤ get_or latest' number 0
      → ((s : List ℕ) → HasField ty s → Holds (kinds s) number) → Marked (records ++ ty ∷ []) kinds present' latest'
      mark marks
  marked_wide present' latest' number before last kept there further reach has = λ s k t is h passed. last_or records ty
      k t _ is
      (λ e. marked s k t e h (λ n kind here. let a = passed n kind (kept n here) in let b = further n in omega
      (arith, a, b)))
      (λ e f. absurd (let a = passed number (has s (subst (λ u. HasField u s) (sym f) h)) there in omega
      (arith, a, e, last, reach)))

-- ---- names

off_true : (b : Bool) → b ≡ false → IsTrue b → ⊥
off_true b off on = never (sym off ∙ on)

-- what is known of the records that a `with` opens
module _ (records : List Ty) (kinds : List ℕ → List ℕ) (present latest : List ℕ) (mark : List ℕ → ℕ) (marks : List ℕ)
    (marked : Marked records kinds present latest mark marks) where
  -- a name without its mark there is that of no field behind the last of each wide type that has it
  pub narrow_off : (number : ℕ) (s : List ℕ) (b : Bool) (n : ℕ) → number ≡ mark s
      → (Holds marks number → IsTrue b) → b ≡ false → Narrow records kinds present latest s n
  narrow_off number s b n is there off = λ k ty e h passed. absurd
      (off_true b off (there (subst (λ n. Holds marks n) (sym is) (marked s k ty e h passed))))

  -- all their names are shown
  pub all_shown : Shown records mark marks kinds present
  all_shown = λ s k ty is h apart. marked s k ty is h (λ n kind here. absurd (apart n kind here))

-- a name that is not shown is that of no field
pub unshown : (records : List Ty) (mark : List ℕ → ℕ) (marks : List ℕ) (kinds : List ℕ → List ℕ) (present : List ℕ)
    (number : ℕ) (s : List ℕ) (b : Bool) → Shown records mark marks kinds present → number ≡ mark s
    → (Holds marks number → IsTrue b) → b ≡ false → Apart (kinds s) present
    → NoneBehind records 0 s
unshown records mark marks kinds present number s b shown is there off apart = λ k ty e. by k ty e
    (field_in (fields_of (type_of ty)) s) refl
  where
    by : (k : ℕ) (ty : Ty) → slice_get records (0 + k) ≡ Some ty → (o : Option (ℕ × DataType)) → field_in
        (fields_of (type_of ty)) s ≡ o → field_in (fields_of (type_of ty)) s ≡ None
    by k ty e None q = q
    by k ty e (Some f) q = absurd (off_true b off
        (there (subst (λ n. Holds marks n) (sym is) (shown s (0 + k) ty e (f, q) apart))))
