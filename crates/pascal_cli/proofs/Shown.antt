-- Pages that are gone through one after the other.
use Rattle.std.proofs.Common.{◌≡◌, ◌∙◌, ◌+◌, ◌<◌, ◌++◌, ap, sym, ℕ, zero, suc, List, [], ◌∷◌, Some, None, codes}
use Rattle.std.proofs.Common.{flat_map, fold, length, map, take, arith}
use Rattle.std.proofs.lemmas.Grind.{flat_map-append}
use Rattle.std.proofs.lemmas.List.{append-nil, map-append}
use Rattle.std.proofs.lemmas.List.Elements.{filter-append}
use Rattle.std.proofs.lemmas.List.Sums.{fold-append}
use Rattle.std.specs.Prelude.{slice_get}
use Rattle.std.proofs.lemmas.Option.{same_Some}
use Rattle.pascal_pages.specs.Asked.{Names, asks, names_of}
use Rattle.pascal_pages.specs.Pages.{pages}
use Rattle.pascal_pages.specs.declared.Page.{Page}
use Rattle.pascal_cli.specs.Explain.{asked_pages, shown, with_page}

no_some : {X : Type 0} (a : X) → Some a ≡ None → ⊥
no_some a e = cc

-- one more is taken
take_suc : {X : Type 0} (xs : List X) (k : ℕ) (x : X) → Some x ≡ slice_get xs k → take (suc k) xs ≡ take k xs ++ x ∷ []
take_suc [] k x e = absurd (no_some x e)
take_suc (y ∷ ys) zero x e = ap (λ z. z ∷ []) (sym (same_Some x y e))
take_suc (y ∷ ys) (suc k) x e = ap (λ rest. y ∷ rest) (take_suc ys k x e)

take_next : {X : Type 0} (xs : List X) (k : ℕ) (x : X) → Some x ≡ slice_get xs k → take (k + 1) xs ≡ take k xs ++ x ∷ []
take_next xs k x e = let one_up : k + 1 ≡ suc k = omega arith in ap (λ n. take n xs) one_up ∙ take_suc xs k x e

past_all : {X : Type 0} (xs : List X) (k : ℕ) → None ≡ slice_get xs k → k < length xs → ⊥
past_all [] k e within = omega (arith, within)
past_all (y ∷ ys) zero e within = no_some y (sym e)
past_all (y ∷ ys) (suc k) e within = past_all ys k e (omega (arith, within))

-- the names of the pages so far, and of one more
pub named_more : (k : ℕ) (all : List Page) (page : Page) → map names_of all ≡ take k pages → Some (names_of page)
    ≡ slice_get pages k
    → map names_of (all ++ page ∷ []) ≡ take (k + 1) pages
named_more k all page so_far here =
    map-append names_of all (page ∷ []) ∙ (ap (λ names. names ++ names_of page ∷ []) so_far ∙ sym
    (take_next pages k (names_of page) here))

-- what is shown of the pages so far, and of one more
pub shown_more : (topic : List ℕ) (all : List Page) (page : Page) (old new : List ℕ) → old ≡ shown
    (asked_pages topic all)
    → new ≡ fold with_page old (asked_pages topic (page ∷ [])) → new ≡ shown (asked_pages topic (all ++ page ∷ []))
shown_more topic all page old new so_far added =
    added ∙ (ap (λ text. fold with_page text (asked_pages topic (page ∷ []))) so_far
    ∙ sym (ap shown (filter-append (λ p. asks (names_of p) topic) all (page ∷ [])) ∙ fold-append with_page []
    (asked_pages topic all) (asked_pages topic (page ∷ []))))

-- each place before the last has a page
pub is_there : (k : ℕ) → None ≡ slice_get pages k → k < length pages → ⊥
is_there k none within = past_all pages k none within

abbrev title_line : Names → List ℕ
title_line names = names.title ++ codes "\n"

-- the titles so far, and one more
pub titles_more : (k : ℕ) (page : Page) (old new : List ℕ) → old ≡ flat_map title_line (take k pages) → Some
    (names_of page) ≡ slice_get pages k
    → new ≡ old ++ (page.title.now ++ codes "\n") → new ≡ flat_map title_line (take (k + 1) pages)
titles_more k page old new so_far here added =
    added ∙ (ap (λ text. text ++ title_line (names_of page)) so_far
    ∙ sym (ap (λ names. flat_map title_line names) (take_next pages k (names_of page) here)
    ∙ (flat_map-append title_line (take k pages) (names_of page ∷ [])
    ∙ ap (λ rest. flat_map title_line (take k pages) ++ rest) (append-nil (title_line (names_of page))))))

-- all titles are there behind the last
pub titles_whole : (k : ℕ) (text : List ℕ) → text ≡ flat_map title_line (take k pages) → k ≡ length pages → text
    ≡ flat_map title_line pages
titles_whole k text so_far e = so_far ∙ ap (λ n. flat_map title_line (take n pages)) e
