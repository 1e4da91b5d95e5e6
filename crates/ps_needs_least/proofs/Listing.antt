-- Lists of uses that are made of others.
use Rattle.std.proofs.Common.{◌≡◌, ℕ, ◌+◌, ◌<◌, ◌≤◌, List, [], ◌∷◌, ◌++◌, length, map, flat_map, take, get_or, Vec}
use Rattle.std.proofs.Common.{Global, sym, ap, ◌∙◌}
use Rattle.std.proofs.lemmas.List.{map-append, map_more, take_more, take_all, flat_map_more}
use Rattle.std.proofs.lemmas.List.Folds.{flat_map-map}
use Rattle.std.proofs.lemmas.Simd.{map-map}
use Rattle.ps_tree.specs.Checked.{Parts, program_in}
use Rattle.ps_tree.specs.View.{routine_of}
use Rattle.ps_needs_least.specs.declared.uses.Use.{Use}
use Rattle.ps_needs_least.specs.Uses.{statements_uses}
use Rattle.ps_needs_least.specs.Nodes.{passed_in, blocks_of, nodes_of}

abbrev pub items_of : Vec Use Global → List Use
items_of v = v.items

-- one more item at the end, which is seen as f of the next one
pub mapped_next : {A B C : Type 0} (v : B → C) (f : A → C) (items : List A) (i : ℕ) (now next : List B) (made : B)
    (item d : A) → i < length items → item ≡ get_or items i d → map v now ≡ map f (take i items) → next ≡ now ++ made
    ∷ [] → v made ≡ f item → map v next ≡ map f (take (i + 1) items)
mapped_next v f items i now next made item d within is so_far e same =
    ap (map v) e
    ∙ map-append v now (made ∷ [])
    ∙ ap (λ l. l ++ v made ∷ []) so_far
    ∙ ap (λ y. map f (take i items) ++ y ∷ []) (same ∙ ap f is)
    ∙ sym (map_more f items i d within)

pub mapped_all : {A B C : Type 0} (v : B → C) (f : A → C) (items : List A) (i : ℕ) (now : List B) → length items ≤ i
    → map v now ≡ map f (take i items) → map v now ≡ map f items
mapped_all v f items i now all so_far = so_far ∙ ap (map f) (take_all i items all)

-- the lists of the items, one behind another
pub joined_next : {A B : Type 0} (f : A → List B) (start : List B) (items : List A) (i : ℕ) (now next : List B)
    (item d : A) → i < length items → item ≡ get_or items i d → now ≡ start ++ flat_map f (take i items) → next ≡ now
    ++ f item → next ≡ start ++ flat_map f (take (i + 1) items)
joined_next f start items i now next item d within is so_far e =
    e
    ∙ ap (λ l. l ++ f item) so_far
    ∙ flat_map_more f start (take i items) item
    ∙ ap (λ x. start ++ flat_map f (take i items ++ x ∷ [])) is
    ∙ ap (λ l. start ++ flat_map f l) (sym (take_more items i d within))

pub joined_all : {A B : Type 0} (f : A → List B) (start : List B) (items : List A) (i : ℕ) (now : List B)
    → length items ≤ i → now ≡ start ++ flat_map f (take i items) → now ≡ start ++ flat_map f items
joined_all f start items i now all so_far = so_far ∙ ap (λ l. start ++ flat_map f l) (take_all i items all)

-- the nodes, from the lists that were made of the routines
pub nodes_are : (parts : Parts) (lists : List (Vec Use Global)) (next : List (Vec Use Global)) (passed : Vec Use Global)
    → map items_of lists ≡ map (λ r. statements_uses (routine_of r).body) parts.routines → passed.items ≡ flat_map
    (λ (uses : Vec Use Global). flat_map passed_in uses.items) lists → next ≡ lists ++ passed ∷ [] → map items_of next
    ≡ nodes_of (program_in parts)
nodes_are parts lists next passed are from e =
    let blocks : map items_of lists ≡ blocks_of (program_in parts) = are ∙ sym
    (map-map (λ r. statements_uses r.body) routine_of parts.routines) in
    ap (map items_of) e
    ∙ map-append items_of lists (passed ∷ [])
    ∙ ap (λ l. l ++ passed.items ∷ []) blocks
    ∙ ap (λ l. blocks_of (program_in parts) ++ l ∷ [])
    (from ∙ sym (flat_map-map (λ us. flat_map passed_in us) items_of lists)
    ∙ ap (λ ls. flat_map (λ us. flat_map passed_in us) ls) blocks)
