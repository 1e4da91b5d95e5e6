-- `with` statements, each of which stands within the one before it.
use Rattle.std.proofs.Common.{◌≡◌, ◌+◌, ◌<◌, ◌≤◌, ℕ, zero, suc, List, [], ◌∷◌, ◌++◌, length, Some, refl, sym, ap, subst}
use Rattle.std.proofs.Common.{◌∙◌, arith, map, slice_get, take, Result, Ok, Err, IfOk, IfErr}
use Rattle.std.proofs.lemmas.List.{length-append}
use Rattle.std.proofs.lemmas.Option.{same_Some}
use Rattle.ps_tree.specs.declared.types.Ty.{Ty}
use Rattle.ps_check_judgement.specs.Judged.{No}
use Rattle.ps_check_judgement.proofs.Impossible.{none_some}
use Rattle.ps_check_names.specs.Regions.{Region, find_past, missing}
use Rattle.ps_check_names.specs.Views.{opened_in, found}
use Rattle.ps_check_names.specs.declared.scope.Lookup.{Lookup}
use Rattle.ps_check_names.specs.declared.wides.Wides.{Wides}
use Rattle.ps_check_names.specs.Wides.{kind_of}
use Rattle.ps_check_names.specs.declared.opened.Opened.{Opened}
use Rattle.ps_check_names.specs.Nests.{records_in, NumberedBy, IsNumber}
use Rattle.ps_check_names.specs.Opened.{NoneBehind}
use Rattle.ps_check_names.specs.Sets.{Holds}
use Rattle.ps_check_names.specs.Marks.{mark_of, number_of, Shown}
use Rattle.ps_check_names.proofs.NoteLemmas.{last_or}
use Rattle.ps_check_names.proofs.MarkLemmas.{all_shown}
use Rattle.ps_check_names.proofs.OpenedLemmas.{opened_both, opened_none, behind_passed, behind_uncounted}

pub one_level : (levels : List Opened) (level : Opened) → levels ≡ level ∷ [] → records_in levels ≡ level.records.items
unfolding records_in
one_level levels level e = ap records_in e ∙ nothing level.records.items
  where
    nothing : (xs : List Ty) → xs ++ [] ≡ xs
    nothing [] = refl
    nothing (x ∷ xs) = ap (λ l. x ∷ l) (nothing xs)

joined : (a b c : List Ty) → (a ++ b) ++ c ≡ a ++ (b ++ c)
joined [] b c = refl
joined (x ∷ a) b c = ap (λ l. x ∷ l) (joined a b c)

-- one more
pub more_levels : (levels : List Opened) (level : Opened) → records_in (levels ++ level ∷ []) ≡ records_in levels
    ++ level.records.items
unfolding records_in
more_levels [] level = one_level (level ∷ []) level refl
more_levels (l ∷ levels) level = ap (λ r. l.records.items ++ r) (more_levels levels level)
    ∙ sym (joined l.records.items (records_in levels) level.records.items)

-- the regions of the last of them are within those of the others
pub last_level : (Γ : List Region) (levels rest : List Opened) (level : Opened) → levels ≡ rest ++ level ∷ []
    → opened_in Γ
    (records_in levels) ≡ opened_in (opened_in Γ (records_in rest)) level.records.items
last_level Γ levels rest level e = ap (opened_in Γ) (ap records_in e ∙ more_levels rest level)
    ∙ opened_both Γ (records_in rest) level.records.items

-- ---- numbers

pub numbered_one : (levels : List Opened) (level : Opened) → levels ≡ level ∷ []
    → NumberedBy levels level.wides.now.fields
numbered_one levels level e = λ k l got. by k l (ap (λ ls. slice_get ls k) (sym e) ∙ got)
  where
    by : (k : ℕ) (l : Opened) → slice_get (level ∷ []) k ≡ Some l → level.wides.now.fields ≡ l.wides.now.fields
    by zero l got = ap (λ o. o.wides.now.fields) (same_Some level l got)
    by (suc k) l got = absurd (none_some got)

pub numbered_more : (levels more : List Opened) (level : Opened) (fields : List (List ℕ)) → more ≡ levels ++ level ∷ []
    → NumberedBy levels fields → fields ≡ level.wides.now.fields → NumberedBy more fields
numbered_more levels more level fields e so is = λ k l got. last_or levels level k l _
    (ap (λ ls. slice_get ls k) (sym e) ∙ got) (λ there. so k l there)
    (λ q f. is ∙ ap (λ o. o.wides.now.fields) f)

-- the number by the names of fields that all have
pub is_number : (levels : List Opened) (fields : List (List ℕ)) (s : List ℕ) (number : ℕ) → NumberedBy levels fields
    → number
    ≡ number_of fields s → IsNumber levels s number
is_number levels fields s number by is = λ k l got. is ∙ ap (λ names. number_of names s) (by k l got)

pub number_last : (levels rest : List Opened) (level : Opened) (s : List ℕ) (number : ℕ) → levels ≡ rest ++ level ∷ []
    → IsNumber levels s number → number ≡ number_of level.wides.now.fields s
number_last levels rest level s number e is = is (length rest) level
    (ap (λ ls. slice_get ls (length rest)) e ∙ at_end rest)
  where
    at_end : (rest : List Opened) → slice_get (rest ++ level ∷ []) (length rest) ≡ Some level
    at_end [] = refl
    at_end (l ∷ rest) = at_end rest

pub number_rest : (levels rest : List Opened) (level : Opened) (s : List ℕ) (number : ℕ) → levels ≡ rest ++ level ∷ []
    → IsNumber levels s number → IsNumber rest s number
number_rest levels rest level s number e is = λ k l got. is k l (ap (λ ls. slice_get ls k) e ∙ kept rest k l got)
  where
    kept : (rest : List Opened) (k : ℕ) (l : Opened) → slice_get rest k ≡ Some l → slice_get
        (rest ++ level ∷ []) k ≡ Some l
    kept [] k l got = absurd (none_some got)
    kept (r ∷ rest) zero l got = got
    kept (r ∷ rest) (suc k) l got = kept rest k l got

-- ---- what is noted of them together

-- a record is among the first or among the others
in_first : (xs ys : List Ty) (k : ℕ) (x : Ty) (C : Type 0) → slice_get (xs ++ ys) k ≡ Some x
    → ((i : ℕ) → slice_get xs i ≡ Some x → C) → ((i : ℕ) → slice_get ys i ≡ Some x → C) → C
in_first [] ys k x C got first others = others k got
in_first (y ∷ xs) ys zero x C got first others = first 0 got
in_first (y ∷ xs) ys (suc k) x C got first others = in_first xs ys k x C got (λ i e. first (suc i) e) others

pub shown_same : (records records' : List Ty) (mark : List ℕ → ℕ) (marks : List ℕ) (kinds : List ℕ → List ℕ)
    (present : List ℕ) → records' ≡ records → Shown records mark marks kinds present → Shown records' mark marks kinds
    present
shown_same records records' mark marks kinds present e shown = λ s k ty got h apart. shown s k ty
    (ap (λ l. slice_get l k) (sym e) ∙ got) h apart

pub shown_both : (records others all : List Ty) (mark : List ℕ → ℕ) (marks marks' marks2 : List ℕ)
    (kinds : List ℕ → List ℕ) (present present' present2 : List ℕ) → all ≡ records ++ others → Shown records mark marks
    kinds present → Shown others mark marks' kinds present' → ((n : ℕ) → Holds marks n → Holds marks2 n)
    → ((n : ℕ) → Holds marks' n → Holds marks2 n) → ((n : ℕ) → Holds present n → Holds present2 n)
    → ((n : ℕ) → Holds present' n → Holds present2 n) → Shown all mark marks2 kinds present2
shown_both records others all mark marks marks' marks2 kinds present present' present2 e first second kept joined also
    too = λ s k ty got h apart. in_first records others k ty _ (ap (λ l. slice_get l k) (sym e) ∙ got)
    (λ i is. kept (mark s) (first s i ty is h (λ n a b. apart n a (also n b))))
    (λ i is. joined (mark s) (second s i ty is h (λ n a b. apart n a (too n b))))

pub count_more : (levels more : List Opened) (level : Opened) (count : ℕ) → more ≡ levels ++ level ∷ [] → count ≡ length
    (records_in levels) → count + length level.records.items ≡ length (records_in more)
count_more levels more level count e is =
    let z = ap (λ ls. length (records_in ls)) e ∙ ap length (more_levels levels level)
    ∙ length-append (records_in levels) level.records.items in
    omega (arith, z, is)

-- ---- the search

module _ (records : List Ty) (count : ℕ) (counted : count ≡ length records) (s : List ℕ) (none : NoneBehind records 0 s)
    (up which at : ℕ) (Γ : List Region) where
  pub nest_passed : (passed : ℕ) → passed ≡ which + count → passed ≤ 4294967295 → find_past up which
      (opened_in Γ records) s
      at ≡ find_past up passed Γ s at
  nest_passed passed is few = behind_passed records 0 s none up which at Γ passed (omega (arith, is, counted)) few
      ∙ ap (λ l. find_past up passed l s at) (opened_none Γ (take 0 records) refl)

  pub nest_uncounted : which ≤ 4294967295 → 4294967295 < which + count → find_past up which (opened_in Γ records) s at
      ≡ No (missing s) at
  nest_uncounted low high = behind_uncounted records 0 s none up which at Γ low (omega (arith, high, counted))

-- what follows where the search has come so far
module _ (s : List ℕ) (which passed : ℕ) (all left : List Ty)
    (so_far : (up at : ℕ) (Γ : List Region) → find_past up which (opened_in Γ all) s at
    ≡ find_past up passed (opened_in Γ left) s at) where
  pub ok_after : (r : Result ℕ Lookup) → IfOk r
      (λ m. (up at : ℕ) (Γ : List Region) → find_past up passed (opened_in Γ left) s at ≡ find_past up m Γ s at)
      → IfOk r
      (λ m. (up at : ℕ) (Γ : List Region) → find_past up which (opened_in Γ all) s at ≡ find_past up m Γ s at)
  ok_after (Ok m) h = λ up at Γ. so_far up at Γ ∙ h up at Γ
  ok_after (Err e) h = h

  pub err_after : (r : Result ℕ Lookup) → IfErr r
      (λ e. (up at : ℕ) (Γ : List Region) → find_past up passed (opened_in Γ left) s at ≡ found at e) → IfErr r
      (λ e. (up at : ℕ) (Γ : List Region) → find_past up which (opened_in Γ all) s at ≡ found at e)
  err_after (Ok m) h = h
  err_after (Err e) h = λ up at Γ. so_far up at Γ ∙ h up at Γ

-- what a `with` notes of its records
pub shown_opened : (o : Opened) → Shown o.records.items (mark_of o.wides.now.start) o.marks.items
    (kind_of o.wides.now.names (map (λ v. v.items) o.wides.now.kinds.items)) o.present.items
shown_opened o = all_shown o.records.items (kind_of o.wides.now.names (map (λ v. v.items) o.wides.now.kinds.items))
    o.present.items o.latest.items (mark_of o.wides.now.start) o.marks.items o.marked

pub listed_opened : (o : Opened) → Shown o.records.items (number_of o.wides.now.fields) o.numbers.items
    (kind_of o.wides.now.names (map (λ v. v.items) o.wides.now.kinds.items)) o.present.items
listed_opened o = all_shown o.records.items (kind_of o.wides.now.names (map (λ v. v.items) o.wides.now.kinds.items))
    o.present.items o.latest.items (number_of o.wides.now.fields) o.numbers.items o.numbered

-- by other wide types that are the same
pub shown_by : (o : Opened) (wides : Wides) → o.wides.now ≡ wides → Shown o.records.items (mark_of wides.start)
    o.marks.items (kind_of wides.names (map (λ v. v.items) wides.kinds.items)) o.present.items
shown_by o wides e = subst (λ w. Shown o.records.items (mark_of w.start) o.marks.items
    (kind_of w.names (map (λ v. v.items) w.kinds.items)) o.present.items) e (shown_opened o)

pub listed_by : (o : Opened) (wides : Wides) → o.wides.now ≡ wides → Shown o.records.items (number_of wides.fields)
    o.numbers.items (kind_of wides.names (map (λ v. v.items) wides.kinds.items)) o.present.items
listed_by o wides e = subst (λ w. Shown o.records.items (number_of w.fields) o.numbers.items
    (kind_of w.names (map (λ v. v.items) w.kinds.items)) o.present.items) e (listed_opened o)

-- ---- the regions

pub nest_more : (scope outer : List Region) (levels more : List Opened) (level : Opened) → scope ≡ opened_in
    outer (records_in levels) → more ≡ levels ++ level ∷ [] → opened_in outer (records_in more) ≡ opened_in scope
    level.records.items
nest_more scope outer levels more level e f = last_level outer more levels level f
    ∙ ap (λ g. opened_in g level.records.items) (sym e)

pub nest_one : (scope : List Region) (levels : List Opened) (level : Opened) → levels ≡ level ∷ [] → opened_in scope
    (records_in levels) ≡ opened_in scope level.records.items
nest_one scope levels level e = ap (opened_in scope) (one_level levels level e)
