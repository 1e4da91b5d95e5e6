-- The loops over indices, actual parameters and the members of sets, as the code finds them.
use Rattle.std.proofs.Common.{◌≡◌, ℕ, zero, suc, ◌+◌, ◌<◌, ◌≤◌, ◌==◌, Bool, true, false, List, [], ◌∷◌, ◌++◌, length}
use Rattle.std.proofs.Common.{get_or, map, Option, Some, None, Ok, Err, Result, refl, sym, ap, ◌∙◌, subst, arith}
use Rattle.std.specs.Prelude.{IsOkAnd}
use Rattle.std.proofs.lemmas.List.{length-map, map_push}
use Rattle.std.proofs.lemmas.Bool.{eq-eqb, eqb-true}
use Rattle.std.proofs.Math.ListN.{get_or-map}
use Rattle.ps_syntax.specs.First as first
use Rattle.ps_syntax.specs.declared.expression.Member as syntax
use Rattle.ps_syntax.specs.declared.expression.Member.{roll-Member, out-Member, roll-out-Member}
use Rattle.ps_syntax.specs.declared.expression.Expr.TheOpen.{Member-F}
use Rattle.ps_tree.specs.declared.types.Ordinal.{Ordinal}
use Rattle.ps_tree.specs.declared.tree.Member.{Member}
use Rattle.ps_tree.specs.Tree as Tree
use Rattle.ps_tree.specs.View.{member_of}
use Rattle.ps_check_judgement.specs.declared.change.Change.{Change}
use Rattle.ps_check_judgement.specs.declared.refusal.CheckFault.{CheckFault}
use Rattle.ps_check_judgement.specs.declared.refusal.CheckFault.TheVariants.{OutOfMemory, Broken}
use Rattle.ps_check_judgement.specs.declared.refusal.Rule.TheVariants.{NotCongruous}
use Rattle.ps_check_judgement.specs.Refusal.{IsFault}
use Rattle.ps_check_judgement.specs.Judged.{Judged, Yes, No, ◌>>=◌, holds, Told, Answers, steps}
use Rattle.ps_check_judgement.specs.Changing.{Changing, one_more, pairs, each_both}
use Rattle.ps_check_judgement.proofs.Lists.{Stepped, stepped_next, stepped_fault, stepped_end, told_bind}
use Rattle.ps_check_names.specs.Regions.{Context, Region}
use Rattle.ps_check_expressions.specs.Calls.{congruent}
use Rattle.ps_syntax.proofs.Nodes.{member_made}
use Rattle.ps_check_expressions.proofs.Views.{views}
use Rattle.ps_check_expressions.specs.Expressions.{SeenMember, Gathered, gathered, gather, constructed, set_value}
use Rattle.ps_check_expressions.specs.Expressions.{operand, factor_operand, member_at, select, add_term}
use Rattle.ps_check_expressions.specs.Expressions.{multiply_factor, simple_operand, term_operand, variable_operand}
use Rattle.ps_check_expressions.specs.Expressions.{member_step}
use Rattle.ps_check_expressions.proofs.Equations.{operand_first}

-- ---- steps over the images of a list

image_at : {A B : Type 0} (g : A → B) (xs : List A) (i : ℕ) (x : A) → x ≡ get_or xs i x → g x ≡ get_or (map g xs) i
    (g x)
image_at g xs i x at = sym (get_or-map g xs i x ∙ ap g (sym at))

module _ {S A B : Type 0} (f : S → A → Judged S) (g : B → A) (s : S) (xs : List B) (i : ℕ) (t : S) where
  pub next_map : (x : B) (u : S) → i < length xs → x ≡ get_or xs i x → Stepped f s (map g xs) i t → f t (g x) ≡ Yes u
      → Stepped f s (map g xs) (i + 1) u
  next_map x u lt at r e =
      let n : i < length (map g xs) = omega (arith, length-map xs g) in stepped_next f s (map g xs) i t (g x) u n
      (image_at g xs i x at) r e

  pub fault_map : (x : B) (e : CheckFault) → i < length xs → x ≡ get_or xs i x → Stepped f s (map g xs) i t → Told e
      (f t (g x)) → Told e (steps f s (map g xs))
  fault_map x e lt at r h =
      let n : i < length (map g xs) = omega (arith, length-map xs g) in stepped_fault f s (map g xs) i t (g x) e n
      (image_at g xs i x at) r h

  pub end_map : length xs ≤ i → Stepped f s (map g xs) i t → steps f s (map g xs) ≡ Yes t
  end_map le r = let n : length (map g xs) ≤ i = omega (arith, length-map xs g) in stepped_end f s (map g xs) i t n r

-- ---- actual parameters: lists side by side

length_pairs : {A B : Type 0} (xs : List A) (ys : List B) → length xs ≡ length ys → length (pairs xs ys) ≡ length xs
length_pairs [] ys e = refl
length_pairs (x ∷ xs) [] e = let f : ⊥ = omega (arith, e) in absurd f
length_pairs (x ∷ xs) (y ∷ ys) e = let n : length xs ≡ length ys = omega (arith, e) in ap suc (length_pairs xs ys n)

pair_at : {A B : Type 0} (xs : List A) (ys : List B) (i : ℕ) (x : A) (y : B) → length xs ≡ length ys → i < length xs
    → get_or (pairs xs ys) i (x, y) ≡ (get_or xs i x, get_or ys i y)
pair_at [] ys i x y e lt = let f : ⊥ = omega (arith, lt) in absurd f
pair_at (a ∷ xs) [] i x y e lt = let f : ⊥ = omega (arith, e) in absurd f
pair_at (a ∷ xs) (b ∷ ys) zero x y e lt = refl
pair_at (a ∷ xs) (b ∷ ys) (suc i) x y e lt =
    let n : length xs ≡ length ys = omega (arith, e) in
    let l : i < length xs = omega (arith, lt) in
    pair_at xs ys i x y n l

module _ {A B C P Q Z : Type 0} (f : A → B → Changing C) (g : P → A) (h : Q → B) (k : Z → C) (ps : List P) (qs : List Q)
    (cs : List Change) where
  -- the actual parameters before index i have been passed
  abbrev pub Passed : ℕ → List Z → List Change → Type 0
  Passed i done now = Stepped (one_more (λ p. f p.0 p.1)) ([], cs) (pairs (map g ps) (map h qs)) i (map k done, now)

  pub passed_start : Passed 0 [] cs
  passed_start = record { rest = refl }

  even : length ps ≡ length qs → length (map g ps) ≡ length (map h qs)
  even e = length-map ps g ∙ e ∙ sym (length-map qs h)

  here : (i : ℕ) (p : P) (q : Q) → length ps ≡ length qs → i < length ps → p ≡ get_or ps i p → q ≡ get_or qs i q
      → (g p, h q) ≡ get_or (pairs (map g ps) (map h qs)) i (g p, h q)
  here i p q e lt atp atq =
      let n : i < length (map g ps) = omega (arith, length-map ps g) in
      sym (pair_at (map g ps) (map h qs) i (g p) (h q) (even e) n ∙ ap (λ a. (a, get_or (map h qs) i (h q)))
      (sym (image_at g ps i p atp)) ∙ ap (λ b. (g p, b)) (sym (image_at h qs i q atq)))

  within : (i : ℕ) → length ps ≡ length qs → i < length ps → i < length (pairs (map g ps) (map h qs))
  within i e lt = omega (arith, lt, length-map ps g, length_pairs (map g ps) (map h qs) (even e))

  pub passed_next : (i : ℕ) (done new : List Z) (now later : List Change) (p : P) (q : Q) (answer : Result Z CheckFault)
      → length ps ≡ length qs → i < length ps → p ≡ get_or ps i p → q ≡ get_or qs i q → Passed i done now
      → Answers answer (λ z. (k z, later)) (f (g p) (h q) now) → IsOkAnd answer (λ z. new ≡ done ++ z ∷ []) → Passed
      (i + 1) new later
  passed_next i done new now later p q (Ok z) e lt atp atq r a n =
      let m : map k done ++ k z ∷ [] ≡ map k new = sym (ap (map k) n ∙ map_push k done z) in
      subst (λ l. Stepped (one_more (λ p. f p.0 p.1)) ([], cs) (pairs (map g ps) (map h qs)) (i + 1) (l, later)) m
      (stepped_next (one_more (λ p. f p.0 p.1)) ([], cs) (pairs (map g ps) (map h qs)) i (map k done, now) (g p, h q)
      (map k done ++ k z ∷ [], later) (within i e lt) (here i p q e lt atp atq) r
      (ap (λ j. j >>= (λ p. Yes (map k done ++ p.0 ∷ [], p.1))) a))
  passed_next i done new now later p q (Err fault) e lt atp atq r a n = absurd n

  pub passed_fault : (i : ℕ) (done : List Z) (now later : List Change) (p : P) (q : Q) (answer : Result Z CheckFault)
      (fault : CheckFault) → length ps ≡ length qs → i < length ps → p ≡ get_or ps i p → q ≡ get_or qs i q
      → Passed i done now → Answers answer (λ z. (k z, later)) (f (g p) (h q) now)
      → (IsFault fault → answer ≡ Err fault) → Told fault (each_both f (map g ps) (map h qs) cs)
  passed_fault i done now later p q answer OutOfMemory e lt atp atq r a n = tt
  passed_fault i done now later p q answer (Broken rule at) e lt atp atq r a n =
      let told : Told (Broken rule at) (f (g p) (h q) now) = subst
      (λ (w : Result Z CheckFault). Answers w (λ z. (k z, later)) (f (g p) (h q) now)) (n tt) a in
      stepped_fault (one_more (λ p. f p.0 p.1)) ([], cs) (pairs (map g ps) (map h qs)) i (map k done, now) (g p, h q)
      (Broken rule at) (within i e lt) (here i p q e lt atp atq) r
      (ap (λ j. j >>= (λ p. Yes (map k done ++ p.0 ∷ [], p.1))) told)

  pub passed_end : (i : ℕ) (done : List Z) (now : List Change) → length ps ≡ length qs → length ps ≤ i
      → Passed i done now → each_both f (map g ps) (map h qs) cs ≡ Yes (map k done, now)
  passed_end i done now e le r =
      let n : length (pairs (map g ps) (map h qs)) ≤ i = omega
      (arith, le, length-map ps g, length_pairs (map g ps) (map h qs) (even e)) in
      stepped_end (one_more (λ p. f p.0 p.1)) ([], cs) (pairs (map g ps) (map h qs)) i (map k done, now) n r

-- as many actual parameters as formal ones, or not
module _ {A B C P Q : Type 0} (at : ℕ) (f : A → B → Changing C) (g : P → A) (h : Q → B) (xs : List A) (ps : List P)
    (qs : List Q) (cs : List Change) where
  as_many : map g ps ≡ xs → length xs ≡ length ps
  as_many l = sym (ap length l) ∙ length-map ps g

  even_lists : (b : Bool) → b ≡ true → ((holds b NotCongruous at
      >>= (λ u. let p : Unit {0} × List Change = (u, cs) in Yes p)) >>= (λ p. each_both f xs (map h qs) p.1))
      ≡ each_both f xs (map h qs) cs
  even_lists true e = refl
  even_lists false e = cc

  uneven_lists : (b : Bool) → (b ≡ true → ⊥)
      → ((holds b NotCongruous at >>= (λ u. let p : Unit {0} × List Change = (u, cs) in Yes p))
      >>= (λ p. each_both f xs (map h qs) p.1)) ≡ No NotCongruous at
  uneven_lists true e = absurd (e refl)
  uneven_lists false e = refl

  pub congruent_even : map g ps ≡ xs → length ps ≡ length qs → congruent at f xs (map h qs) cs ≡ each_both f (map g ps)
      (map h qs) cs
  congruent_even l e =
      even_lists (length xs == length (map h qs))
      (eq-eqb (length xs) (length (map h qs)) (as_many l ∙ e ∙ sym (length-map qs h)))
      ∙ ap (λ l. each_both f l (map h qs) cs) (sym l)

  pub congruent_uneven : map g ps ≡ xs → (length ps ≡ length qs → ⊥) → congruent at f xs (map h qs) cs
      ≡ No NotCongruous at
  congruent_uneven l unlike =
      uneven_lists (length xs == length (map h qs))
      (λ e. unlike (sym (as_many l) ∙ eqb-true (length xs) (length (map h qs)) e ∙ length-map qs h))

-- ---- the members of a set

module _ (c : Context) (Γ : List Region) where
  member_layer : (l : first.MemberLayer) → (member_at c Γ (roll-Member l)).first ≡ first.member_layer_first l
  unfolding operand factor_operand member_at select add_term multiply_factor simple_operand term_operand
      variable_operand member_step
  member_layer (Member-F.One x) = ap (λ o. o.first)
      (member_made (views c Γ) (Member-F.One x)) ∙ operand_first c Γ x
  member_layer (Member-F.Range x y) = ap (λ o. o.first)
      (member_made (views c Γ) (Member-F.Range x y)) ∙ operand_first c Γ x

  pub member_first : (x : syntax.Member) → (member_at c Γ x).first ≡ first.first_of_member x
  member_first x = ap (λ y. (member_at c Γ y).first) (sym (roll-out-Member x)) ∙ member_layer (out-Member x)

abbrev pub gather_step : Gathered × List Change → SeenMember → Judged (Gathered × List Change)
gather_step t x = gather t.0 x t.1

module _ (c : Context) (Γ : List Region) (ms : List syntax.Member) (cs : List Change) where
  -- the members before index i are gathered
  abbrev pub Gathering : ℕ → List Member → Option Ordinal → List Change → Type 0
  Gathering i list base now = Stepped gather_step (([], None), cs) (map (member_at c Γ) ms) i
      ((map member_of list, base), now)

  -- a step that is refused
  not_gathered : (i : ℕ) (list : List Member) (base : Option Ordinal) (now : List Change) (x : syntax.Member)
      (e : CheckFault) → i < length ms → x ≡ get_or ms i x → Gathering i list base now → Told e
      (gather (map member_of list, base) (member_at c Γ x) now) → Told e (set_value (map (member_at c Γ) ms) cs)
  not_gathered i list base now x e lt at r h =
      told_bind e (steps gather_step (([], None), cs) (map (member_at c Γ) ms)) (λ p. Yes (constructed p.0, p.1))
      (fault_map gather_step (member_at c Γ) (([], None), cs) ms i ((map member_of list, base), now) x e lt at r h)

  pub member_told : (i : ℕ) (list : List Member) (base : Option Ordinal) (now : List Change) (x : syntax.Member)
      (e : CheckFault) → i < length ms → x ≡ get_or ms i x → Gathering i list base now → Told e
      ((member_at c Γ x).member now) → Told e (set_value (map (member_at c Γ) ms) cs)
  member_told i list base now x e lt at r h =
      not_gathered i list base now x e lt at r
      (told_bind e ((member_at c Γ x).member now)
      (λ p. gathered (member_at c Γ x).first (map member_of list, base) p.0 >>= (λ g. Yes (g, p.1))) h)

  pub unlike_told : (i : ℕ) (list : List Member) (base : Option Ordinal) (now later : List Change) (x : syntax.Member)
      (m : Tree.Member) (o : Ordinal) (e : CheckFault) → i < length ms → x ≡ get_or ms i x → Gathering i list base now
      → (member_at c Γ x).member now ≡ Yes ((m, o), later) → Told e
      (gathered (first.first_of_member x) (map member_of list, base) (m, o)) → Told e
      (set_value (map (member_at c Γ) ms) cs)
  unlike_told i list base now later x m o OutOfMemory lt at r is h = tt
  unlike_told i list base now later x m o (Broken rule place) lt at r is h =
      not_gathered i list base now x (Broken rule place) lt at r
      (ap (λ j. j >>= (λ p. gathered (member_at c Γ x).first (map member_of list, base) p.0 >>= (λ g. Yes (g, p.1)))) is
      ∙ ap (λ n. gathered n (map member_of list, base) (m, o) >>= (λ g. Yes (g, later))) (member_first c Γ x)
      ∙ ap (λ j. j >>= (λ g. Yes (g, later))) h)

  pub gathered_next : (i : ℕ) (list new : List Member) (base : Option Ordinal) (now later : List Change)
      (x : syntax.Member) (m : Member) (o p : Ordinal) → i < length ms → x ≡ get_or ms i x → Gathering i list base now
      → (member_at c Γ x).member now ≡ Yes ((member_of m, o), later) → gathered (first.first_of_member x)
      (map member_of list, base) (member_of m, o) ≡ Yes (map member_of list ++ member_of m ∷ [], Some p) → new ≡ list
      ++ m ∷ [] → Gathering (i + 1) new (Some p) later
  gathered_next i list new base now later x m o p lt at r is h n =
      let s : map member_of list ++ member_of m ∷ [] ≡ map member_of new = sym
      (ap (map member_of) n ∙ map_push member_of list m) in
      subst (λ l. Stepped gather_step (([], None), cs) (map (member_at c Γ) ms) (i + 1) ((l, Some p), later)) s
      (next_map gather_step (member_at c Γ) (([], None), cs) ms i ((map member_of list, base), now) x
      ((map member_of list ++ member_of m ∷ [], Some p), later) lt at r
      (ap (λ j. j >>= (λ q. gathered (member_at c Γ x).first (map member_of list, base) q.0 >>= (λ g. Yes (g, q.1)))) is
      ∙ ap (λ n. gathered n (map member_of list, base) (member_of m, o) >>= (λ g. Yes (g, later))) (member_first c Γ x)
      ∙ ap (λ j. j >>= (λ g. Yes (g, later))) h))

  pub gathered_end : (i : ℕ) (list : List Member) (base : Option Ordinal) (now : List Change) → length ms ≤ i
      → Gathering i list base now → set_value (map (member_at c Γ) ms) cs ≡ Yes
      (constructed (map member_of list, base), now)
  gathered_end i list base now le r = ap (λ j. j >>= (λ p. Yes (constructed p.0, p.1)))
      (end_map gather_step (member_at c Γ) (([], None), cs) ms i ((map member_of list, base), now) le r)
