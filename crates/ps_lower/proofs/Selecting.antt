-- The code of variables, selector by selector.
use Rattle.std.proofs.Common.{◌≡◌, ℕ, suc, ◌+◌, ◌<◌, ◌≤◌, Bool, false, List, [], ◌∷◌, ◌++◌, length, drop, get_or, refl}
use Rattle.std.proofs.Common.{sym, ap, ◌∙◌, append_assoc, arith}
use Rattle.std.proofs.Math.Seq.{drop-cons}
use Rattle.std.proofs.lemmas.List.{append-nil, drop_all}
use Rattle.ps_tree.specs.Tree as t
use Rattle.ps_tree.specs.declared.tree.Selector.{Selector}
use Rattle.ps_tree.specs.View.{selector_of, selectors_of}
use Rattle.tac_code.specs.declared.code.Instruction.{Instruction}
use Rattle.ps_lower_code.specs.Scopes.{Scope, Site}
use Rattle.ps_lower_code.specs.Values.{selectors_code, selectors_site, is_byte_selector, is_byte_after}
use Rattle.ps_lower.specs.Sites.{selector_code, selector_site}

pub first_code : (k : Scope) (s : t.Selector) (rest : t.Selectors) (site : Site) (a x : ℕ) → selectors_code k
    (t.selector_before s rest) site a x ≡ selector_code k s site a x ++ selectors_code k rest
    (selector_site s site a) a x
first_code k (t.Element type e line) rest site a x = refl
first_code k (t.Field type number) rest site a x = refl
first_code k (t.Target pointer line) rest site a x = refl

pub first_site : (s : t.Selector) (rest : t.Selectors) (site : Site) (a : ℕ) → selectors_site
    (t.selector_before s rest) site a ≡ selectors_site rest (selector_site s site a) a
first_site (t.Element type e line) rest site a = refl
first_site (t.Field type number) rest site a = refl
first_site (t.Target pointer line) rest site a = refl

-- ---- a loop over selectors

abbrev pub along_code : Scope → (a x : ℕ) → List Selector → Site → List Instruction
along_code k a x l s = selectors_code k (selectors_of l) s a x

abbrev pub along_site : (a : ℕ) → List Selector → Site → Site
along_site a l s = selectors_site (selectors_of l) s a

pub more_code : (k : Scope) (a x : ℕ) (s : Selector) (rest : List Selector) (site : Site) → along_code k a x
    (s ∷ rest) site ≡ selector_code k (selector_of s) site a x ++ along_code k a x rest
    (selector_site (selector_of s) site a)
unfolding selectors_of
more_code k a x s rest site = first_code k (selector_of s) (selectors_of rest) site a x

pub more_site : (a : ℕ) (s : Selector) (rest : List Selector) (site : Site) → along_site a (s ∷ rest) site
    ≡ along_site a rest (selector_site (selector_of s) site a)
unfolding selectors_of
more_site a s rest site = first_site (selector_of s) (selectors_of rest) site a

no_code : (k : Scope) (a x : ℕ) (site : Site) → along_code k a x [] site ≡ []
unfolding selectors_of
no_code k a x site = refl

no_site : (a : ℕ) (site : Site) → along_site a [] site ≡ site
unfolding selectors_of
no_site a site = refl

pub record Led (k : Scope) (a x : ℕ) (start : List Instruction) (from : Site) (items : List Selector) (i : ℕ)
    (now : List Instruction) (site : Site) : Type 0 where
  pub code : now ++ along_code k a x (drop i items) site ≡ start ++ along_code k a x items from
  pub place : along_site a (drop i items) site ≡ along_site a items from

pub led_start : (k : Scope) (a x : ℕ) (start : List Instruction) (from : Site) (items : List Selector)
    → Led k a x start from items 0 start from
led_start k a x start from items = record { code = refl; place = refl }

pub led_next : (k : Scope) (a x : ℕ) (start : List Instruction) (from : Site) (items : List Selector) (i : ℕ)
    (now next : List Instruction) (site to : Site) (d : Selector) → i < length items
    → Led k a x start from items i now site → next ≡ now ++ selector_code k (selector_of (get_or items i d)) site a x
    → to ≡ selector_site (selector_of (get_or items i d)) site a → Led k a x start from items (i + 1) next to
led_next k a x start from items i now next site to d h s e f =
    let j : i + 1 ≡ suc i = omega arith in
    let item : Selector = get_or items i d in
    let rest : List Selector = drop (suc i) items in
    record {
      code =
          ap (λ n. next ++ along_code k a x (drop n items) to) j
          ∙ ap (λ y. next ++ along_code k a x rest y) f
          ∙ ap (λ o. o ++ along_code k a x rest (selector_site (selector_of item) site a)) e
          ∙ append_assoc now (selector_code k (selector_of item) site a x)
          (along_code k a x rest (selector_site (selector_of item) site a))
          ∙ ap (λ l. now ++ l) (sym (more_code k a x item rest site))
          ∙ ap (λ l. now ++ along_code k a x l site) (sym (drop-cons items i d h))
          ∙ s.code;
      place =
          ap (λ n. along_site a (drop n items) to) j
          ∙ ap (λ y. along_site a rest y) f
          ∙ sym (more_site a item rest site)
          ∙ ap (λ l. along_site a l site) (sym (drop-cons items i d h))
          ∙ s.place;
    }

pub led_code : (k : Scope) (a x : ℕ) (start : List Instruction) (from : Site) (items : List Selector) (i : ℕ)
    (now : List Instruction) (site : Site) → length items ≤ i → Led k a x start from items i now site → now ≡ start
    ++ along_code k a x items from
led_code k a x start from items i now site h s = sym (append-nil now) ∙ ap (λ l. now ++ l) (sym (no_code k a x site))
    ∙ ap (λ l. now ++ along_code k a x l site) (sym (drop_all i items h)) ∙ s.code

pub led_site : (k : Scope) (a x : ℕ) (start : List Instruction) (from : Site) (items : List Selector) (i : ℕ)
    (now : List Instruction) (site : Site) → length items ≤ i → Led k a x start from items i now site → site
    ≡ along_site a items from
led_site k a x start from items i now site h s = sym (no_site a site) ∙ ap (λ l. along_site a l site)
    (sym (drop_all i items h)) ∙ s.place

-- ---- whether the last selector leads to a byte

abbrev pub byte_behind : Bool → List Selector → Bool
byte_behind b l = is_byte_after b (selectors_of l)

byte_further : (b : Bool) (s : Selector) (rest : List Selector) → byte_behind b (s ∷ rest) ≡ byte_behind
    (is_byte_selector (selector_of s)) rest
unfolding selectors_of
byte_further b s rest = refl

byte_last : (b : Bool) → byte_behind b [] ≡ b
unfolding selectors_of
byte_last b = refl

pub record Tested (items : List Selector) (i : ℕ) (now : Bool) : Type 0 where
  pub left : byte_behind now (drop i items) ≡ byte_behind false items

pub tested_start : (items : List Selector) → Tested items 0 false
tested_start items = record { left = refl }

pub tested_next : (items : List Selector) (i : ℕ) (now next : Bool) (d : Selector) → i < length items
    → Tested items i now → next ≡ is_byte_selector (selector_of (get_or items i d)) → Tested items (i + 1) next
tested_next items i now next d h s e = record {
  left =
      (let j : i + 1 ≡ suc i = omega arith in ap (λ n. byte_behind next (drop n items)) j)
      ∙ ap (λ b. byte_behind b (drop (suc i) items)) e
      ∙ sym (byte_further now (get_or items i d) (drop (suc i) items))
      ∙ ap (λ l. byte_behind now l) (sym (drop-cons items i d h))
      ∙ s.left;
}

pub tested_all : (items : List Selector) (i : ℕ) (now : Bool) → length items ≤ i → Tested items i now → now
    ≡ byte_behind false items
tested_all items i now h s = sym (byte_last now) ∙ ap (λ l. byte_behind now l) (sym (drop_all i items h)) ∙ s.left
