-- Loops over lists whose steps may be refused.
use Rattle.std.proofs.Common.{◌≡◌, ℕ, suc, ◌+◌, ◌<◌, ◌≤◌, List, [], ◌∷◌, ◌++◌, Ok, Err, Result, length, drop, get_or}
use Rattle.std.proofs.Common.{refl, sym, ap, ◌∙◌, arith, append_assoc, map, subst}
use Rattle.std.specs.Prelude.{IsErrAnd, IfErr}
use Rattle.std.proofs.Math.Seq.{drop-cons}
use Rattle.std.proofs.lemmas.List.{drop_all, append-nil, map_push, length-map}
use Rattle.std.proofs.Math.ListN.{get_or-map}
use Rattle.ps_check_judgement.specs.declared.refusal.CheckFault.{CheckFault}
use Rattle.ps_check_judgement.specs.declared.refusal.CheckFault.TheVariants.{OutOfMemory, Broken}
use Rattle.ps_check_judgement.specs.Judged.{Judged, Yes, No, Told, ◌>>=◌, traverse, traverse_both, steps, Answers}

-- a refusal that is passed on
pub told_bind : {A B : Type 0} (e : CheckFault) (j : Judged A) (f : A → Judged B) → Told e j → Told e (j >>= f)
told_bind OutOfMemory j f h = h
told_bind (Broken rule at) j f h = ap (λ j. j >>= f) h

pub handed_on : {X A : Type 0} (answer : Result X CheckFault) (view : X → A) (j : Judged A) (e : CheckFault)
    → IsErrAnd answer (λ y. y ≡ e) → Told e j → Answers answer view j
handed_on (Ok x) view j e h told = absurd h
handed_on (Err y) view j e h told = subst (λ (e : CheckFault). Told e j) (sym h) told

-- steps that have reached index i, and left the state t
pub record Stepped {S A : Type 0} (f : S → A → Judged S) (s : S) (xs : List A) (i : ℕ) (t : S) : Type 0 where
  pub rest : steps f s xs ≡ steps f t (drop i xs)

pub stepped_start : {S A : Type 0} (f : S → A → Judged S) (s : S) (xs : List A) → Stepped f s xs 0 s
stepped_start f s xs = record { rest = refl }

module _ {S A : Type 0} (f : S → A → Judged S) (s : S) (xs : List A) (i : ℕ) (t : S) where
  stepped_here : (x : A) (o : Judged S) → i < length xs → x ≡ get_or xs i x → Stepped f s xs i t → f t x ≡ o
      → steps f s xs ≡ (o >>= (λ u. steps f u (drop (suc i) xs)))
  stepped_here x o lt at r e =
      r.rest ∙ ap (λ l. steps f t l) (drop-cons xs i x lt) ∙ ap (λ o. o >>= (λ u. steps f u (drop (suc i) xs)))
      (ap (f t) (sym at) ∙ e)

  pub stepped_next : (x : A) (u : S) → i < length xs → x ≡ get_or xs i x → Stepped f s xs i t → f t x ≡ Yes u
      → Stepped f s xs (i + 1) u
  stepped_next x u lt at r e = record {
    rest =
        stepped_here x (Yes u) lt at r e ∙ (let n : suc i ≡ i + 1 = omega arith in ap (λ k. steps f u (drop k xs)) n);
  }

  pub stepped_fault : (x : A) (e : CheckFault) → i < length xs → x ≡ get_or xs i x → Stepped f s xs i t → Told e (f t x)
      → Told e (steps f s xs)
  stepped_fault x OutOfMemory lt at r h = h
  stepped_fault x (Broken rule where_) lt at r h = stepped_here x (No rule where_) lt at r h

  pub stepped_end : length xs ≤ i → Stepped f s xs i t → steps f s xs ≡ Yes t
  stepped_end le r = r.rest ∙ ap (λ l. steps f t l) (drop_all i xs le)

-- the images so far, before those of the rest
abbrev pub prefixed : {B : Type 0} → List B → Judged (List B) → Judged (List B)
prefixed done o = o >>= (λ rest. Yes (done ++ rest))

prefixed_none : {B : Type 0} (o : Judged (List B)) → o ≡ prefixed [] o
prefixed_none (No rule at) = refl
prefixed_none (Yes ys) = refl

prefixed_more : {B : Type 0} (done : List B) (y : B) (o : Judged (List B)) → prefixed done (o >>= (λ ys. Yes (y ∷ ys)))
    ≡ prefixed (done ++ y ∷ []) o
prefixed_more done y (No rule at) = refl
prefixed_more done y (Yes ys) = ap Yes (sym (append_assoc done (y ∷ []) ys))

-- a traversal that has reached index i
pub record Reached {A B : Type 0} (f : A → Judged B) (xs : List A) (i : ℕ) (done : List B) : Type 0 where
  pub rest : traverse f xs ≡ prefixed done (traverse f (drop i xs))

pub reached_start : {A B : Type 0} (f : A → Judged B) (xs : List A) → Reached f xs 0 []
reached_start f xs = record { rest = prefixed_none (traverse f xs) }

module _ {A B : Type 0} (f : A → Judged B) (xs : List A) (i : ℕ) (done : List B) where
  reached_here : (x : A) (o : Judged B) → i < length xs → x ≡ get_or xs i x → Reached f xs i done → f x ≡ o
      → traverse f xs ≡ prefixed done (o >>= (λ z. traverse f (drop (suc i) xs) >>= (λ zs. Yes (z ∷ zs))))
  reached_here x o lt at r e =
      r.rest
      ∙ ap (λ l. prefixed done (traverse f l)) (drop-cons xs i x lt)
      ∙ ap (λ o. prefixed done (o >>= (λ z. traverse f (drop (suc i) xs) >>= (λ zs. Yes (z ∷ zs))))) (ap f (sym at) ∙ e)

  pub reached_fault : (x : A) (e : CheckFault) → i < length xs → x ≡ get_or xs i x → Reached f xs i done → Told e (f x)
      → Told e (traverse f xs)
  reached_fault x OutOfMemory lt at r h = h
  reached_fault x (Broken rule where_) lt at r h = reached_here x (No rule where_) lt at r h

  pub reached_end : length xs ≤ i → Reached f xs i done → traverse f xs ≡ Yes done
  reached_end le r = r.rest ∙ ap (λ l. prefixed done (traverse f l)) (drop_all i xs le) ∙ ap Yes (append-nil done)

pub reached_next : {A B C : Type 0} (f : A → Judged B) (h : C → B) (xs : List A) (i : ℕ) (done new : List C) (x : A)
    (z : C) → i < length xs → x ≡ get_or xs i x → Reached f xs i (map h done) → f x ≡ Yes (h z) → new ≡ done ++ z ∷ []
    → Reached f xs (i + 1) (map h new)
reached_next f h xs i done new x z lt at r e n =
    let m : map h done ++ h z ∷ [] ≡ map h new = sym (ap (map h) n ∙ map_push h done z) in
    let k : suc i ≡ i + 1 = omega arith in
    subst (λ l. Reached f xs (i + 1) l) m (record {
      rest = reached_here f xs i (map h done) x (Yes (h z)) lt at r e ∙ prefixed_more (map h done) (h z)
          (traverse f (drop (suc i) xs)) ∙ ap (λ k. prefixed (map h done ++ h z ∷ []) (traverse f (drop k xs))) k;
    })

-- a traversal of two lists that has reached index i
pub record ReachedBoth {A B C : Type 0} (f : A → B → Judged C) (xs : List A) (ys : List B) (i : ℕ) (done : List C)
    : Type 0 where
  pub rest : traverse_both f xs ys ≡ prefixed done (traverse_both f (drop i xs) (drop i ys))

pub both_start : {A B C : Type 0} (f : A → B → Judged C) (xs : List A) (ys : List B) → ReachedBoth f xs ys 0 []
both_start f xs ys = record { rest = prefixed_none (traverse_both f xs ys) }

-- the second list as the image of another
module _ {A B D C : Type 0} (f : A → B → Judged C) (g : D → B) (xs : List A) (ds : List D) (i : ℕ) (done : List C) where
  both_here : (d x : A) (y : D) (o : Judged C) → i < length xs → i < length ds → x ≡ get_or xs i d → y ≡ get_or ds i y
      → ReachedBoth f xs (map g ds) i done → f x (g y) ≡ o → traverse_both f xs (map g ds) ≡ prefixed done
      (o >>= (λ z. traverse_both f (drop (suc i) xs) (drop (suc i) (map g ds)) >>= (λ zs. Yes (z ∷ zs))))
  both_here d x y o ltx lty atx aty r h =
      let lt : i < length (map g ds) = omega (arith, length-map ds g) in
      r.rest
      ∙ ap (λ l. prefixed done (traverse_both f l (drop i (map g ds)))) (drop-cons xs i d ltx)
      ∙ ap (λ l. prefixed done (traverse_both f (get_or xs i d ∷ drop (suc i) xs) l)) (drop-cons (map g ds) i (g y) lt)
      ∙ ap (λ o. prefixed done (o >>= (λ z. traverse_both f (drop (suc i) xs) (drop (suc i) (map g ds))
      >>= (λ zs. Yes (z ∷ zs))))) (ap (λ a. f a (get_or (map g ds) i (g y))) (sym atx) ∙ ap (f x)
      (get_or-map g ds i y ∙ ap g (sym aty)) ∙ h)

  pub both_fault : (d x : A) (y : D) (e : CheckFault) → i < length xs → i < length ds → x ≡ get_or xs i d
      → y ≡ get_or ds i y
      → ReachedBoth f xs (map g ds) i done → Told e (f x (g y)) → Told e (traverse_both f xs (map g ds))
  both_fault d x y OutOfMemory ltx lty atx aty r h = h
  both_fault d x y (Broken rule where_) ltx lty atx aty r h = both_here d x y (No rule where_) ltx lty atx aty r h

  pub both_end : length ds ≤ i → length xs ≤ i → ReachedBoth f xs (map g ds) i done → traverse_both f xs (map g ds)
      ≡ Yes done
  both_end lex ley r =
      r.rest
      ∙ ap (λ l. prefixed done (traverse_both f l (drop i (map g ds)))) (drop_all i xs ley)
      ∙ ap Yes (append-nil done)

pub both_next : {A B D C Z : Type 0} (f : A → B → Judged C) (g : D → B) (h : Z → C) (xs : List A) (ds : List D) (i : ℕ)
    (done new : List Z) (d x : A) (y : D) (z : Z) → i < length xs → i < length ds → x ≡ get_or xs i d → y
    ≡ get_or ds i y → ReachedBoth f xs (map g ds) i (map h done) → f x (g y) ≡ Yes (h z) → new ≡ done ++ z ∷ []
    → ReachedBoth f xs (map g ds) (i + 1) (map h new)
both_next f g h xs ds i done new d x y z ltx lty atx aty r e n =
    let m : map h done ++ h z ∷ [] ≡ map h new = sym (ap (map h) n ∙ map_push h done z) in
    let k : suc i ≡ i + 1 = omega arith in
    subst (λ l. ReachedBoth f xs (map g ds) (i + 1) l) m (record {
      rest = both_here f g xs ds i (map h done) d x y (Yes (h z)) ltx lty atx aty r e ∙ prefixed_more (map h done) (h z)
          (traverse_both f (drop (suc i) xs) (drop (suc i) (map g ds)))
          ∙ ap (λ k. prefixed (map h done ++ h z ∷ []) (traverse_both f (drop k xs) (drop k (map g ds)))) k;
    })

-- steps over the images of a list
pub steps_map : {S A B : Type 0} (f : S → A → Judged S) (g : B → A) (s : S) (xs : List B) → steps f s (map g xs) ≡ steps
    (λ t x. f t (g x)) s xs
steps_map f g s [] = refl
steps_map f g s (x ∷ xs) = bind_same (f s (g x)) (λ t. steps f t (map g xs)) (λ t. steps (λ t x. f t (g x)) t xs)
    (λ t. steps_map f g t xs)
  where
    bind_same : {C D : Type 0} (j : Judged C) (h k : C → Judged D) → ((c : C) → h c ≡ k c) → (j >>= h) ≡ (j >>= k)
    bind_same (Yes c) h k e = e c
    bind_same (No rule at) h k e = refl
