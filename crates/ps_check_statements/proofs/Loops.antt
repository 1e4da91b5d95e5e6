-- Loops that add to a list what each step returns, and pass the changes along.
use Rattle.std.proofs.Common.{◌≡◌, ℕ, ℤ, ◌+◌, ◌<◌, ◌≤◌, true, false, Option, Some, None, Ok, Err, Result, List, []}
use Rattle.std.proofs.Common.{◌∷◌, ◌++◌, length, get_or, map, refl, sym, ap, ◌∙◌, subst}
use Rattle.std.specs.Prelude.{IsOkAnd, IfOk, is_some, is_none, option_map}
use Rattle.std.proofs.lemmas.List.{map_push, map-id, get_or_default}
use Rattle.ps_syntax.specs.declared.statement.Element.{Element}
use Rattle.ps_tree.specs.declared.types.Ordinal.{Ordinal}
use Rattle.ps_tree.specs.declared.tree.statements.CaseElement.{CaseElement}
use Rattle.ps_check_judgement.specs.declared.change.Change.{Change}
use Rattle.ps_check_judgement.specs.declared.refusal.CheckFault.{CheckFault}
use Rattle.ps_check_judgement.specs.declared.refusal.CheckFault.TheVariants.{OutOfMemory, Broken}
use Rattle.ps_check_judgement.specs.declared.refusal.Rule.TheVariants.{NotCongruous}
use Rattle.ps_check_judgement.specs.Refusal.{IsFault}
use Rattle.ps_check_judgement.specs.Judged.{Judged, Yes, No, ◌>>=◌, Told, Answers, steps}
use Rattle.ps_check_judgement.specs.Changing.{Changing, one_more, each, each_both}
use Rattle.ps_check_judgement.proofs.Lists.{told_bind, Stepped, stepped_next, stepped_fault, stepped_end}
use Rattle.ps_check_names.specs.Regions.{Context, Region}
use Rattle.ps_check_expressions.specs.Calls.{congruent}
use Rattle.ps_check_expressions.proofs.CallLemmas.{next_map, fault_map, end_map, Passed, passed_end, congruent_even}
use Rattle.ps_check_expressions.proofs.CallLemmas.{congruent_uneven}
use Rattle.ps_check_statements.specs.Structured.{TypedElement}
use Rattle.ps_check_statements.specs.Statements.{ElementReading, one_element, elements, element}
use Rattle.ps_check_statements.specs.View.{element_of}

module _ {A B Z : Type 0} (f : A → Changing B) (h : Z → B) (xs : List A) (cs : List Change) where
  -- the images so far, and the changes
  abbrev pub Added : ℕ → List Z → List Change → Type 0
  Added i done now = Stepped (one_more f) ([], cs) xs i (map h done, now)

  pub added_start : Added 0 [] cs
  added_start = record { rest = refl }

  pub added_next : (i : ℕ) (done new : List Z) (now later : List Change) (x : A) (answer : Result Z CheckFault)
      → i < length xs → x ≡ get_or xs i x → Added i done now → Answers {A = B × List Change} answer (λ z. (h z, later))
      (f x now) → IsOkAnd answer (λ z. new ≡ done ++ z ∷ []) → Added (i + 1) new later
  added_next i done new now later x (Ok z) lt at r a n =
      let m : map h done ++ h z ∷ [] ≡ map h new = sym (ap (map h) n ∙ map_push h done z) in
      subst (λ l. Stepped (one_more f) ([], cs) xs (i + 1) (l, later)) m
      (stepped_next (one_more f) ([], cs) xs i (map h done, now) x (map h done ++ h z ∷ [], later) lt at r
      (ap (λ j. j >>= (λ p. Yes (map h done ++ p.0 ∷ [], p.1))) a))
  added_next i done new now later x (Err fault) lt at r a n = absurd n

  pub added_fault : (i : ℕ) (done : List Z) (now later : List Change) (x : A) (answer : Result Z CheckFault)
      (fault : CheckFault)
      → i < length xs → x ≡ get_or xs i x → Added i done now → Answers {A = B × List Change} answer (λ z. (h z, later))
      (f x now) → (IsFault fault → answer ≡ Err fault) → Told fault (each f xs cs)
  added_fault i done now later x answer OutOfMemory lt at r a n = tt
  added_fault i done now later x answer (Broken rule place) lt at r a n =
      let told : Told (Broken rule place) (f x now) = subst
      (λ (w : Result Z CheckFault). Answers {A = B × List Change} w (λ z. (h z, later)) (f x now)) (n tt) a in
      stepped_fault (one_more f) ([], cs) xs i (map h done, now) x (Broken rule place) lt at r
      (ap (λ j. j >>= (λ p. Yes (map h done ++ p.0 ∷ [], p.1))) told)

  pub added_end : (i : ℕ) (done : List Z) (now : List Change) → length xs ≤ i → Added i done now → each f xs cs ≡ Yes
      (map h done, now)
  added_end i done now le r = stepped_end (one_more f) ([], cs) xs i (map h done, now) le r

-- ---- steps over items that are copied

module _ {S A : Type 0} (f : S → A → Judged S) (s : S) (xs : List A) (i : ℕ) (t : S) (d : A) where
  pub next_at : (u : S) → i < length xs → Stepped f s xs i t → f t (get_or xs i d) ≡ Yes u → Stepped f s xs (i + 1) u
  next_at u lt r h = stepped_next f s xs i t (get_or xs i d) u lt (get_or_default xs i d (get_or xs i d) lt) r h

  pub fault_at : (e : CheckFault) → i < length xs → Stepped f s xs i t → Told e (f t (get_or xs i d))
      → Told e (steps f s xs)
  fault_at e lt r h = stepped_fault f s xs i t (get_or xs i d) e lt (get_or_default xs i d (get_or xs i d) lt) r h

-- ---- case elements: the constants seen are passed along too

abbrev pub one_step : Context → List Region → Ordinal → (List ℤ × List TypedElement) × List Change → ElementReading
    → Judged ((List ℤ × List TypedElement) × List Change)
one_step c Γ o t e = one_element c Γ o t.0 e t.1

module _ (c : Context) (Γ : List Region) (o : Ordinal) (es : List Element) (cs : List Change) where
  -- the elements before index i, the constants seen, and the changes
  abbrev pub Collected : ℕ → List ℤ → List CaseElement → List Change → Type 0
  Collected i seen done now = Stepped (one_step c Γ o) (([], []), cs) (map element es) i
      ((seen, map element_of done), now)

  pub collected_start : Collected 0 [] [] cs
  collected_start = record { rest = refl }

  pub collected_next : (i : ℕ) (seen further : List ℤ) (done new : List CaseElement) (now later : List Change)
      (x : Element) (answer : Result CaseElement CheckFault) → i < length es → x ≡ get_or es i x
      → Collected i seen done now → Answers answer (λ z. (element_of z, later)) (element x c Γ o seen now) → IfOk answer
      (λ z. further ≡ seen ++ (element_of z).0) → IsOkAnd answer (λ z. new ≡ done ++ z ∷ []) → Collected
      (i + 1) further new later
  collected_next i seen further done new now later x (Ok z) lt at r a s n =
      let m : map element_of done ++ element_of z ∷ [] ≡ map element_of new = sym
      (ap (map element_of) n ∙ map_push element_of done z) in
      subst (λ l. Stepped (one_step c Γ o) (([], []), cs) (map element es) (i + 1) ((further, l), later)) m
      (subst (λ l. Stepped (one_step c Γ o) (([], []), cs) (map element es) (i + 1)
      ((l, map element_of done ++ element_of z ∷ []), later)) (sym s)
      (next_map (one_step c Γ o) element (([], []), cs) es i ((seen, map element_of done), now) x
      ((seen ++ (element_of z).0, map element_of done ++ element_of z ∷ []), later) lt at r
      (ap (λ j. j >>= (λ p. Yes ((seen ++ p.0.0, map element_of done ++ p.0 ∷ []), p.1))) a)))
  collected_next i seen further done new now later x (Err fault) lt at r a s n = absurd n

  pub collected_fault : (i : ℕ) (seen : List ℤ) (done : List CaseElement) (now later : List Change) (x : Element)
      (answer : Result CaseElement CheckFault) (fault : CheckFault) → i < length es → x ≡ get_or es i x
      → Collected i seen done now → Answers answer (λ z. (element_of z, later)) (element x c Γ o seen now)
      → (IsFault fault → answer ≡ Err fault) → Told fault (elements c Γ o (map element es) cs)
  collected_fault i seen done now later x answer OutOfMemory lt at r a n = tt
  collected_fault i seen done now later x answer (Broken rule place) lt at r a n =
      let told : Told (Broken rule place) (element x c Γ o seen now) = subst
      (λ (w : Result CaseElement CheckFault). Answers w (λ z. (element_of z, later)) (element x c Γ o seen now)) (n tt)
      a in
      let step : Told (Broken rule place) (one_step c Γ o ((seen, map element_of done), now) (element x)) =
      ap (λ j. j >>= (λ p. Yes ((seen ++ p.0.0, map element_of done ++ p.0 ∷ []), p.1))) told in
      told_bind (Broken rule place) (steps (one_step c Γ o) (([], []), cs) (map element es)) (λ p. Yes (p.0.1, p.1))
      (fault_map (one_step c Γ o) element (([], []), cs) es i ((seen, map element_of done), now) x
      (Broken rule place) lt at r step)

  pub collected_end : (i : ℕ) (seen : List ℤ) (done : List CaseElement) (now : List Change) → length es ≤ i
      → Collected i seen done now → elements c Γ o (map element es) cs ≡ Yes (map element_of done, now)
  collected_end i seen done now le r = ap (λ j. j >>= (λ p. Yes (p.0.1, p.1)))
      (end_map (one_step c Γ o) element (([], []), cs) es i ((seen, map element_of done), now) le r)

-- ---- actual parameters, which are paired with the formal ones

module _ {A B C P Z : Type 0} (at : ℕ) (f : A → B → Changing C) (g : P → A) (k : Z → C) (xs : List A) (ps : List P)
    (qs : List B) (cs : List Change) where
  as_listed : congruent at f xs (map (λ q. q) qs) cs ≡ congruent at f xs qs cs
  as_listed = ap (λ l. congruent at f xs l cs) (map-id qs)

  pub actuals_uneven : map g ps ≡ xs → (length ps ≡ length qs → ⊥) → congruent at f xs qs cs ≡ No NotCongruous at
  actuals_uneven l unlike = sym as_listed ∙ congruent_uneven at f g (λ q. q) xs ps qs cs l unlike

  pub actuals_told : (fault : CheckFault) → map g ps ≡ xs → length ps ≡ length qs → Told fault
      (each_both f (map g ps) (map (λ q. q) qs) cs) → Told fault (congruent at f xs qs cs)
  actuals_told fault l e t = subst (Told fault) (sym (congruent_even at f g (λ q. q) xs ps qs cs l e) ∙ as_listed) t

  pub actuals_end : (i : ℕ) (done : List Z) (now : List Change) → map g ps ≡ xs → length ps ≡ length qs → length ps ≤ i
      → Passed f g (λ q. q) k ps qs cs i done now → congruent at f xs qs cs ≡ Yes (map k done, now)
  actuals_end i done now l e le r = sym as_listed ∙ congruent_even at f g (λ q. q) xs ps qs cs l e ∙ passed_end f g
      (λ q. q) k ps qs cs i done now e le r

-- a procedure has no result
pub no_result : {A B : Type 0} (f : A → B) (o : Option A) → is_some o ≡ false → is_none (option_map f o) ≡ true
no_result f None e = refl
no_result f (Some x) e = cc

pub some_result : {A B : Type 0} (f : A → B) (o : Option A) → is_some o ≡ true → is_none (option_map f o) ≡ false
some_result f None e = cc
some_result f (Some x) e = refl
