-- Calls, given the answers of their result type and of their actual parameters.
use Rattle.std.proofs.Common.{◌≡◌, List, map, Ok, Err, Result, Vec, Global, sym, ap, ◌∙◌, subst}
use Rattle.ps_tree.specs.declared.types.Ty.{Ty}
use Rattle.ps_tree.specs.declared.tree.Argument.{Argument}
use Rattle.ps_tree.specs.Types.{DataType}
use Rattle.ps_tree.specs.Tree as Tree
use Rattle.ps_tree.specs.View.{type_of, argument_of}
use Rattle.ps_check_judgement.specs.declared.change.Change.{Change}
use Rattle.ps_check_judgement.specs.declared.refusal.CheckFault.{CheckFault}
use Rattle.ps_check_judgement.specs.Judged as j
use Rattle.ps_check_judgement.specs.Judged.{Judged, Yes, No, Told, Answers, both}
use Rattle.ps_check_judgement.specs.Changing.{Changing, still}
use Rattle.ps_check_judgement.proofs.Lists.{told_bind}
use Rattle.ps_check_judgement.proofs.Pairs.{next_told}
use Rattle.ps_check_judgement.proofs.Impossible.{no_err}
use Rattle.ps_check_expressions.specs.Values.{Value}
use Rattle.ps_check_expressions.specs.Carrying.{call_of}

-- an answer of what changes nothing
pub still_answers : {X A : Type 0} (x : Result X CheckFault) (f : X → A) (m : Judged A) (cs : List Change)
    → Answers x f m → Answers x (λ v. (f v, cs)) (still m cs)
still_answers (Ok v) f m cs h = ap (λ z. j.◌>>=◌ z (λ a. Yes (a, cs))) h
still_answers (Err e) f m cs h = told_bind e m (λ a. Yes (a, cs)) h

abbrev ok_or : {X : Type 0} → X → Result X CheckFault → X
ok_or d (Ok x) = x
ok_or d (Err e) = d

both_ok : {X Y : Type 0} (x : Result X CheckFault) (y : Result Y CheckFault) (a : X) (b : Y) → both x y ≡ Ok (a, b)
    → (x ≡ Ok a) × (y ≡ Ok b)
both_ok (Ok x) (Ok y) a b q = let p : (x, y) ≡ (a, b) = ap (ok_or (x, y)) q in (ap (λ p. Ok p.0) p, ap (λ p. Ok p.1) p)
both_ok (Ok x) (Err e) a b q = absurd (no_err (a, b) e q)
both_ok (Err e) y a b q = absurd (no_err (a, b) e q)

-- what two accepted parts give, the second of which begins where the first has ended
pub next_yes : {A B C D X Y : Type 0} (x : Result X CheckFault) (y : Result Y CheckFault) (f : X → A) (g : Y → B)
    (d : D)
    (m : Judged (A × D)) (k : D → Judged B) (h : A × D → B → Judged C) (a : X) (b : Y) → Answers x (λ v. (f v, d)) m
    → Answers y g (k d) → Ok (a, b) ≡ both x y → j.◌>>=◌ m (λ p. j.◌>>=◌ (k p.1) (h p)) ≡ h (f a, d) (g b)
next_yes x y f g d m k h a b hx hy q =
    let parts : (x ≡ Ok a) × (y ≡ Ok b) = both_ok x y a b (sym q) in
    let first : m ≡ Yes (f a, d) = subst (λ (w : Result _ CheckFault). Answers w (λ v. (f v, d)) m) parts.0 hx in
    let second : k d ≡ Yes (g b) = subst (λ (w : Result _ CheckFault). Answers w g (k d)) parts.1 hy in
    ap (λ z. j.◌>>=◌ z (λ p. j.◌>>=◌ (k p.1) (h p))) first ∙ ap (λ z. j.◌>>=◌ z (h (f a, d))) second

pub pair_yes : {A B C X Y : Type 0} (x : Result X CheckFault) (y : Result Y CheckFault) (f : X → A) (g : Y → B)
    (m : Judged A)
    (k : Judged B) (h : A → B → Judged C) (a : X) (b : Y) → Answers x f m → Answers y g k → Ok (a, b) ≡ both x y
    → j.◌>>=◌ m (λ p. j.◌>>=◌ k (h p)) ≡ h (f a) (g b)
pair_yes x y f g m k h a b hx hy q =
    let parts : (x ≡ Ok a) × (y ≡ Ok b) = both_ok x y a b (sym q) in
    let first : m ≡ Yes (f a) = subst (λ (w : Result _ CheckFault). Answers w f m) parts.0 hx in
    let second : k ≡ Yes (g b) = subst (λ (w : Result _ CheckFault). Answers w g k) parts.1 hy in
    ap (λ z. j.◌>>=◌ z (λ p. j.◌>>=◌ k (h p))) first ∙ ap (λ z. j.◌>>=◌ z (h (f a))) second

-- the answer of what is made of both
pub next_answers : {A B C D X Y V : Type 0} (result : Result V CheckFault) (view : V → C) (x : Result X CheckFault)
    (y : Result Y CheckFault) (f : X → A) (g : Y → B) (d : D) (m : Judged (A × D)) (k : D → Judged B)
    (h : A × D → B → Judged C) (a : X) (b : Y) → Answers x (λ v. (f v, d)) m → Answers y g (k d) → Ok (a, b) ≡ both x y
    → Answers result view (h (f a, d) (g b)) → Answers result view (j.◌>>=◌ m (λ p. j.◌>>=◌ (k p.1) (h p)))
next_answers result view x y f g d m k h a b hx hy q r = subst (λ n. Answers result view n)
    (sym (next_yes x y f g d m k h a b hx hy q)) r

-- a refusal of what is made of both
pub next_passed : {A B C D X Y : Type 0} (e : CheckFault) (x : Result X CheckFault) (y : Result Y CheckFault)
    (f : X → A) (g : Y → B)
    (d : D) (m : Judged (A × D)) (k : D → Judged B) (h : A × D → B → Judged C) (a : X) (b : Y) → Answers x
    (λ v. (f v, d)) m → Answers y g (k d) → Ok (a, b) ≡ both x y → Told e (h (f a, d) (g b)) → Told e
    (j.◌>>=◌ m (λ p. j.◌>>=◌ (k p.1) (h p)))
next_passed e x y f g d m k h a b hx hy q r = subst (λ n. Told e n) (sym (next_yes x y f g d m k h a b hx hy q)) r

pub pair_answers : {A B C X Y V : Type 0} (result : Result V CheckFault) (view : V → C) (x : Result X CheckFault)
    (y : Result Y CheckFault) (f : X → A) (g : Y → B) (m : Judged A) (k : Judged B) (h : A → B → Judged C) (a : X)
    (b : Y)
    → Answers x f m → Answers y g k → Ok (a, b) ≡ both x y → Answers result view (h (f a) (g b)) → Answers result view
    (j.◌>>=◌ m (λ p. j.◌>>=◌ k (h p)))
pair_answers result view x y f g m k h a b hx hy q r = subst (λ n. Answers result view n)
    (sym (pair_yes x y f g m k h a b hx hy q)) r

module _ (k : DataType → List Tree.Argument → Value) (type : Judged DataType) (m : Changing (List Tree.Argument))
    (before after : List Change) (x : Result Ty CheckFault) (y : Result (Vec Argument Global) CheckFault) where
  pub call_told : (e : CheckFault) → Answers x (λ t. type_of t) type → Answers y (λ l. (map argument_of l.items, after))
      (m before) → Err e ≡ both x y → Told e (call_of k type m before)
  call_told e hx hy q =
      next_told x y (λ t. type_of t) (λ l. (map argument_of l.items, after)) before (still type before) m
      (λ p q. Yes (k p.0 q.0, q.1)) e (still_answers x (λ t. type_of t) type before hx) hy q

  pub call_yes : (t : Ty) (list : Vec Argument Global) → Answers x (λ t. type_of t) type → Answers y
      (λ l. (map argument_of l.items, after)) (m before) → Ok (t, list) ≡ both x y → call_of k type m before ≡ Yes
      (k (type_of t) (map argument_of list.items), after)
  call_yes t list hx hy q =
      next_yes x y (λ t. type_of t) (λ l. (map argument_of l.items, after)) before (still type before) m
      (λ p q. Yes (k p.0 q.0, q.1)) t list (still_answers x (λ t. type_of t) type before hx) hy q
