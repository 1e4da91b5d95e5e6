-- `with`: records that are opened one after another.
use Rattle.std.proofs.Common.{◌≡◌, ℕ, suc, ◌+◌, ◌<◌, ◌≤◌, Bool, List, [], ◌∷◌, ◌++◌, length, map, drop, get_or}
use Rattle.std.proofs.Common.{refl, sym, ap, subst, ◌∙◌, append_assoc, arith}
use Rattle.std.specs.Prelude.{reverse}
use Rattle.std.proofs.Math.Seq.{drop-cons}
use Rattle.std.proofs.lemmas.List.{append-nil, drop_all, map-append, reverse-append}
use Rattle.ps_tree.specs.Tree as t
use Rattle.ps_tree.specs.declared.tree.Place.{Place}
use Rattle.ps_tree.specs.View.{place_of}
use Rattle.tac_code.specs.declared.code.Instruction.{Instruction}
use Rattle.ps_lower_code.specs.Scopes.{Scope, Site as CodeSite, held}
use Rattle.ps_lower_code.specs.Values.{place_code, place_site, place_temporary}
use Rattle.ps_lower_code.specs.Statements.{within_site, with_code, with_scope, with_depth}
use Rattle.ps_lower_bounds.specs.Weights.{place_weight, with_weight}
use Rattle.ps_lower.specs.declared.site.Site.{Site}
use Rattle.ps_lower.specs.Levels.{site_of, opened_within, where_open, within}
use Rattle.ps_lower.specs.declared.depth.TheConstants.{MAX_NUMBER}

-- records of two lists, the first of which were open before
pub joined : (outer opened : List CodeSite) (before own all : List Site) → opened_within outer before ≡ opened → all
    ≡ before ++ own → opened_within outer all ≡ opened_within opened own
joined outer opened before own all e is =
    ap (opened_within outer) is
    ∙ ap (λ l. reverse l ++ outer) (map-append site_of before own)
    ∙ ap (λ l. l ++ outer) (reverse-append (map site_of before) (map site_of own))
    ∙ append_assoc (reverse (map site_of own)) (reverse (map site_of before)) outer
    ∙ ap (λ l. reverse (map site_of own) ++ l) e

further_in : (k : Scope) (l : List Site) (s : Site) → within k (l ++ s ∷ []) ≡ within_site (within k l) (site_of s)
further_in k l s = ap (λ m. where_open k (m ++ k.opened)) (ap reverse (map-append site_of l (s ∷ [])) ∙ reverse-append
    (map site_of l) (site_of s ∷ []))

abbrev pub records_code : Scope → Bool → List Place → ℕ → List Instruction
records_code k c l d = with_code k (map place_of l) c d

abbrev pub records_scope : Scope → Bool → List Place → ℕ → Scope
records_scope k c l d = with_scope k (map place_of l) c d

abbrev pub records_depth : Bool → List Place → ℕ → ℕ
records_depth c l d = with_depth (map place_of l) c d

pub record Opening (k : Scope) (c : Bool) (d : ℕ) (start : List Instruction) (items : List Place) (i : ℕ)
    (now : List Instruction) (sites : List Site) (depth : ℕ) : Type 0 where
  pub code : now ++ records_code (within k sites) c (drop i items) depth ≡ start ++ records_code k c items d
  pub scope : records_scope (within k sites) c (drop i items) depth ≡ records_scope k c items d
  pub end : records_depth c (drop i items) depth ≡ records_depth c items d

pub opening_start : (k : Scope) (c : Bool) (d : ℕ) (start : List Instruction) (items : List Place) (sites : List Site)
    → within k sites ≡ k → Opening k c d start items 0 start sites d
opening_start k c d start items sites e = record {
  code = ap (λ (y : Scope). start ++ records_code y c items d) e;
  scope = ap (λ (y : Scope). records_scope y c items d) e;
  end = refl;
}

pub opening_next : (k : Scope) (c : Bool) (d : ℕ) (start : List Instruction) (items : List Place) (i : ℕ)
    (now next : List Instruction) (sites more : List Site) (depth n m below : ℕ) (s : Site) (p : Place)
    → i < length items → Opening k c d start items i now sites depth → n ≡ held c depth → next ≡ now ++ place_code
    (within k sites) (place_of (get_or items i p)) n 0 → site_of s ≡ place_site (within k sites)
    (place_of (get_or items i p)) n → more ≡ sites ++ s ∷ [] → m ≡ place_temporary (place_of (get_or items i p)) n
    → below ≡ m + 1 → Opening k c d start items (i + 1) next more below
opening_next k c d start items i now next sites more depth n m below s p h o is e f g b w =
    let j : i + 1 ≡ suc i = omega arith in
    let item : t.Place = place_of (get_or items i p) in
    let rest : List Place = drop (suc i) items in
    let here : Scope = within k sites in
    let further : within k more ≡ within_site here (place_site here item (held c depth)) =
    ap (within k) g ∙ further_in k sites s ∙ ap (within_site here) (f ∙ ap (place_site here item) is)
    in
    let deep : below ≡ suc (place_temporary item (held c depth)) =
    (let u : below ≡ suc m = omega (arith, w) in u ∙ ap suc (b ∙ ap (λ y. place_temporary item y) is)) in
    let at : drop i items ≡ get_or items i p ∷ rest = drop-cons items i p h in
    record {
      code =
          ap (λ n. next ++ records_code (within k more) c (drop n items) below) j
          ∙ ap (λ (y : Scope). next ++ records_code y c rest below) further
          ∙ ap (λ n. next ++ records_code (within_site here (place_site here item (held c depth))) c rest n) deep
          ∙ ap (λ o. o ++ records_code (within_site here (place_site here item (held c depth))) c rest
          (suc (place_temporary item (held c depth)))) (e ∙ ap (λ y. now ++ place_code here item y 0) is)
          ∙ append_assoc now (place_code here item (held c depth) 0)
          (records_code (within_site here (place_site here item (held c depth))) c rest
          (suc (place_temporary item (held c depth))))
          ∙ ap (λ l. now ++ records_code here c l depth) (sym at)
          ∙ o.code;
      scope =
          ap (λ n. records_scope (within k more) c (drop n items) below) j
          ∙ ap (λ (y : Scope). records_scope y c rest below) further
          ∙ ap (λ n. records_scope (within_site here (place_site here item (held c depth))) c rest n) deep
          ∙ ap (λ l. records_scope here c l depth) (sym at)
          ∙ o.scope;
      end =
          ap (λ n. records_depth c (drop n items) below) j
          ∙ ap (λ n. records_depth c rest n) deep
          ∙ ap (λ l. records_depth c l depth) (sym at)
          ∙ o.end;
    }

pub opening_code : (k : Scope) (c : Bool) (d : ℕ) (start : List Instruction) (items : List Place) (i : ℕ)
    (now : List Instruction) (sites : List Site) (depth : ℕ) → length items ≤ i
    → Opening k c d start items i now sites depth → now ≡ start ++ records_code k c items d
opening_code k c d start items i now sites depth h o = sym (append-nil now)
    ∙ ap (λ l. now ++ records_code (within k sites) c l depth) (sym (drop_all i items h)) ∙ o.code

pub opening_scope : (k : Scope) (c : Bool) (d : ℕ) (start : List Instruction) (items : List Place) (i : ℕ)
    (now : List Instruction) (sites : List Site) (depth : ℕ) → length items ≤ i
    → Opening k c d start items i now sites depth → within k sites ≡ records_scope k c items d
opening_scope k c d start items i now sites depth h o = ap (λ l. records_scope (within k sites) c l depth)
    (sym (drop_all i items h)) ∙ o.scope

pub opening_end : (k : Scope) (c : Bool) (d : ℕ) (start : List Instruction) (items : List Place) (i : ℕ)
    (now : List Instruction) (sites : List Site) (depth : ℕ) → length items ≤ i
    → Opening k c d start items i now sites depth → depth ≡ records_depth c items d
opening_end k c d start items i now sites depth h o = ap (λ l. records_depth c l depth) (sym (drop_all i items h))
    ∙ o.end

-- ---- room for the records that are left

pub record Widening (k : Scope) (c : Bool) (items : List Place) (i : ℕ) (sites : List Site) (depth : ℕ) : Type 0 where
  pub room : depth + with_weight (within k sites) (map place_of (drop i items)) c depth ≤ MAX_NUMBER

pub widening_start : (k : Scope) (c : Bool) (items : List Place) (sites : List Site) (d : ℕ) → within k sites ≡ k → d
    + with_weight k (map place_of items) c d ≤ MAX_NUMBER → Widening k c items 0 sites d
widening_start k c items sites d e l = record {
  room = subst (λ (y : Scope). d + with_weight y (map place_of items) c d ≤ MAX_NUMBER) (sym e) l;
}

widening_at : (k : Scope) (c : Bool) (items : List Place) (i : ℕ) (sites : List Site) (depth : ℕ) (p : Place)
    → i < length items → p ≡ get_or items i p → Widening k c items i sites depth
    → depth + with_weight (within k sites) (place_of p ∷ map place_of (drop (suc i) items)) c depth ≤ MAX_NUMBER
widening_at k c items i sites depth p h e w =
    subst (λ (y : Place). depth + with_weight (within k sites)
    (place_of y ∷ map place_of (drop (suc i) items)) c depth ≤ MAX_NUMBER) (sym e)
    (subst (λ l. depth + with_weight (within k sites) (map place_of l) c depth ≤ MAX_NUMBER)
    (drop-cons items i p h) w.room)

pub widening_one : (k : Scope) (c : Bool) (items : List Place) (i : ℕ) (sites : List Site) (depth n : ℕ) (p : Place)
    → i < length items → p ≡ get_or items i p → Widening k c items i sites depth → n ≤ depth + 1 → n + place_weight
    (within k sites) (place_of p) ≤ MAX_NUMBER
widening_one k c items i sites depth n p h e w l = let r = widening_at k c items i sites depth p h e w in omega
    (arith, r, l)

pub widening_next : (k : Scope) (c : Bool) (items : List Place) (i : ℕ) (sites more : List Site) (depth n m below : ℕ)
    (s : Site) (p : Place) → i < length items → p ≡ get_or items i p → Widening k c items i sites depth → n
    ≡ held c depth → site_of s ≡ place_site (within k sites) (place_of p) n → more ≡ sites ++ s ∷ [] → m
    ≡ place_temporary (place_of p) n → below ≡ m + 1 → n ≤ depth + 1 → m ≤ n + 1 → Widening k c items (i + 1) more below
widening_next k c items i sites more depth n m below s p h e w is f g b x near next =
    let r = widening_at k c items i sites depth p h e w in
    let item : t.Place = place_of p in
    let here : Scope = within k sites in
    let j : suc i ≡ i + 1 = omega arith in
    let further : within_site here (place_site here item (held c depth)) ≡ within k more =
    sym (ap (within k) g ∙ further_in k sites s ∙ ap (within_site here) (f ∙ ap (place_site here item) is))
    in
    let deep : suc (place_temporary item (held c depth)) ≡ below =
    (let u : below ≡ suc m = omega (arith, x) in sym (u ∙ ap suc (b ∙ ap (λ y. place_temporary item y) is))) in
    let left = with_weight (within_site here (place_site here item (held c depth)))
    (map place_of (drop (suc i) items)) c (suc (place_temporary item (held c depth))) in
    let same : left ≡ with_weight (within k more) (map place_of (drop (i + 1) items)) c below =
    ap (λ (y : Scope). with_weight y (map place_of (drop (suc i) items)) c (suc (place_temporary item (held c depth))))
    further
    ∙ ap (λ y. with_weight (within k more) (map place_of (drop (suc i) items)) c y) deep
    ∙ ap (λ y. with_weight (within k more) (map place_of (drop y items)) c below) j
    in
    record { room = omega (arith, r, same, x, near, next) }
