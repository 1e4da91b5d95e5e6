-- What a reading adds to the changes: nothing, what two parts add, what each of a list adds.
use Rattle.std.proofs.Common.{◌≡◌, ℕ, false, not, List, [], ◌∷◌, ◌++◌, sym, ap, ◌∙◌, subst}
use Rattle.std.proofs.Common.{append-nil, append_assoc}
use Rattle.std.proofs.lemmas.List.{map-append}
use Rattle.std.proofs.lemmas.Bool.{not-true}
use Rattle.ps_check.proofs.EachItem.{each_append}
use Rattle.ps_tree.specs.Tree as Tree
use Rattle.ps_check_judgement.specs.declared.change.Change.{Change}
use Rattle.ps_check_judgement.specs.declared.refusal.Rule.TheVariants.{ControlVariable}
use Rattle.ps_check_judgement.specs.Judged.{Judged, Yes, steps}
use Rattle.ps_check_judgement.specs.Changing.{Changing, still, one_more, through}
use Rattle.ps_check_judgement.proofs.Binds.{inside_yes, then_yes, provided_yes}
use Rattle.ps_check_names.specs.Regions.{Context}
use Rattle.ps_check_expressions.specs.Changed.{is_control, changed, changed_entry}
use Rattle.ps_check_laws.specs.Threats.{Threatened, whole, entries_of}
use Rattle.ps_check_laws.proofs.Lists.{last_still, Each}

-- none of these entries is a control variable of an enclosing `for` statement
abbrev pub Free : Context → Threatened → Type 0
Free c a = Each (λ (e : ℕ × ℕ). is_control c e.0 e.1 ≡ false) a

-- what is changed further on
pub record Adds (c : Context) (cs ds : List Change) (a : Threatened) : Type 0 where
  pub entries : entries_of ds ≡ entries_of cs ++ a
  pub free : Free c a

pub adds_none : {c : Context} (cs : List Change) → Adds c cs cs []
adds_none cs = record { entries = sym (append-nil (entries_of cs)); free = tt }

pub adds_both : {c : Context} (cs ds es : List Change) (a b : Threatened) → Adds c cs ds a → Adds c ds es b
    → Adds c cs es (a ++ b)
adds_both {c = c} cs ds es a b x y = record {
  entries = y.entries ∙ ap (λ l. l ++ b) x.entries ∙ append_assoc (entries_of cs) a b;
  free = each_append (λ (e : ℕ × ℕ). is_control c e.0 e.1 ≡ false) a b x.free y.free;
}

pub adds_as : {c : Context} (cs ds : List Change) (a b : Threatened) → a ≡ b → Adds c cs ds a → Adds c cs ds b
adds_as {c = c} cs ds a b e x = record {
  entries = x.entries ∙ ap (λ l. entries_of cs ++ l) e;
  free = subst (Free c) e x.free;
}

-- what is added to what is threatened already
pub record More (c : Context) (cs ds : List Change) (a b : Threatened) : Type 0 where
  pub more : Threatened
  pub grown : b ≡ a ++ more
  pub adds : Adds c cs ds more

pub more_none : {c : Context} (cs : List Change) (a : Threatened) → More c cs cs a a
more_none cs a = record { more = []; grown = sym (append-nil a); adds = adds_none cs }

pub more_both : {c : Context} (cs ds es : List Change) (a b d : Threatened) → More c cs ds a b → More c ds es b d
    → More c cs es a d
more_both cs ds es a b d x y = record {
  more = x.more ++ y.more;
  grown = y.grown ∙ ap (λ l. l ++ y.more) x.grown ∙ append_assoc a x.more y.more;
  adds = adds_both cs ds es x.more y.more x.adds y.adds;
}

pub adds_more : {c : Context} (cs ds es : List Change) (a b : Threatened) → Adds c cs ds a → More c ds es a b
    → Adds c cs es b
adds_more cs ds es a b x m = adds_as cs es (a ++ m.more) b (sym m.grown) (adds_both cs ds es a m.more x m.adds)

-- from nothing on
pub adds_all : {c : Context} (cs ds : List Change) (b : Threatened) → More c cs ds [] b → Adds c cs ds b
adds_all cs ds b m = adds_as cs ds m.more b (sym m.grown) m.adds

module _ {c : Context} {A : Type 0} (f : A → Threatened) where
  pub made_adds : (v : A) (cs ds : List Change) (p : A × List Change) → Yes (v, ds) ≡ Yes p → Adds c cs ds (f v)
      → Adds c cs p.1 (f p.0)
  made_adds v cs ds p e x = subst (λ (z : A × List Change). Adds c cs z.1 (f z.0)) (inside_yes (v, ds) p e) x

  pub still_adds : (q : Judged A) (cs ds : List Change) (b : Threatened) (p : A × List Change) → still q ds ≡ Yes p
      → Adds c cs ds b → ((v : A) → q ≡ Yes v → f v ≡ b) → Adds c cs p.1 (f p.0)
  still_adds q cs ds b p e x h = (let a = last_still q ds p e in subst
      (λ (z : A × List Change). Adds c cs z.1 (f z.0)) a.2 (adds_as cs ds b (f a.0) (sym (h a.0 a.1)) x))

  pub still_more : (q : Judged A) (cs ds : List Change) (a b : Threatened) (p : A × List Change) → still q ds ≡ Yes p
      → Adds c cs ds b → ((v : A) → q ≡ Yes v → f v ≡ a ++ b) → More c cs p.1 a (f p.0)
  still_more q cs ds a b p e x h = (let v = last_still q ds p e in subst
      (λ (z : A × List Change). More c cs z.1 a (f z.0)) v.2 (record {
        more = b;
        grown = h v.0 v.1;
        adds = x;
      }))

  -- steps one after the other
  pub through_more : {B : Type 0} (step : A → B → Changing A) (bs : List B) → Each
      (λ b. (s : A) (cs : List Change) (p : A × List Change) → step s b cs ≡ Yes p → More c cs p.1 (f s) (f p.0)) bs
      → (s : A) (cs : List Change) (p : A × List Change) → through step s bs cs ≡ Yes p → More c cs p.1 (f s) (f p.0)
  through_more step [] h s cs p e = subst (λ (z : A × List Change). More c cs z.1 (f s) (f z.0))
      (inside_yes (s, cs) p e) (more_none cs (f s))
  through_more step (b ∷ bs) h s cs p e =
      let q = then_yes (step s b cs) _ p e in
      more_both cs q.0.1 p.1 (f s) (f q.0.0) (f p.0) (h.0 s cs q.0 q.1) (through_more step bs h.1 q.0.0 q.0.1 p q.2)

-- the images of each, which together threaten what each does
pub each_more : {c : Context} {X B : Type 0} (g : X → Changing B) (h : B → Threatened) (F : List B → Threatened)
    → ((ys : List B) (y : B) → F (ys ++ y ∷ []) ≡ F ys ++ h y) → (xs : List X) → Each
    (λ x. (cs : List Change) (p : B × List Change) → g x cs ≡ Yes p → Adds c cs p.1 (h p.0)) xs
    → (s t : List B × List Change) → steps (one_more g) s xs ≡ Yes t → More c s.1 t.1 (F s.0) (F t.0)
each_more {c = c} g h F last [] all s t e = subst (λ z. More c s.1 z.1 (F s.0) (F z.0)) (inside_yes s t e)
    (more_none s.1 (F s.0))
each_more {c = c} g h F last (x ∷ xs) all s t e =
    let one = then_yes (one_more g s x) _ t e in
    let a = then_yes (g x s.1) _ one.0 one.1 in
    let here : More c s.1 a.0.1 (F s.0) (F (s.0 ++ a.0.0 ∷ [])) = record {
      more = h a.0.0;
      grown = last s.0 a.0.0;
      adds = all.0 s.1 a.0 a.1;
    } in
    let first : More c s.1 one.0.1 (F s.0) (F one.0.0) = subst (λ z. More c s.1 z.1 (F s.0) (F z.0))
    (inside_yes (s.0 ++ a.0.0 ∷ [], a.0.1) one.0 a.2) here in
    more_both s.1 one.0.1 t.1 (F s.0) (F one.0.0) (F t.0) first (each_more g h F last xs all.1 one.0 t one.2)

pub each_all : {X : Type 0} (P : X → Type 0) → ((x : X) → P x) → (xs : List X) → Each P xs
each_all P h [] = tt
each_all P h (x ∷ xs) = (h x, each_all P h xs)

-- a variable that is changed
pub changed_adds : (c : Context) (place : Tree.Place) (at : ℕ) (cs : List Change) (p : Unit {0} × List Change)
    → changed c place at cs ≡ Yes p → Adds c cs p.1 (whole place)
unfolding changed changed_entry
changed_adds c (Tree.Variable (Tree.Entry up entry) Tree.no_selector) at cs p e =
    let is = provided_yes (not (is_control c up entry)) ControlVariable at (
      tt,
      cs ++ record {
        up = up;
        entry = entry;
        at = at;
      } ∷ [],
    ) p e in
    let x : Change = record { up = up; entry = entry; at = at } in
    subst (λ (z : Unit {0} × List Change). Adds c cs z.1 ((up, entry) ∷ [])) is.1 (record {
      entries = map-append (λ (x : Change). (x.up, x.entry)) cs (x ∷ []);
      free = (not-true (is_control c up entry) is.0, tt);
    })
changed_adds c place at cs p e = subst (λ (z : Unit {0} × List Change). Adds c cs z.1 []) (inside_yes (tt, cs) p e)
    (adds_none cs)
