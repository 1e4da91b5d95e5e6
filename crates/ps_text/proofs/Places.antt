-- The line ends of a text are the places of its bytes 10.
use Rattle.std.proofs.Common.{◌≡◌, ℕ, zero, suc, ◌+◌, ◌-◌, ◌<◌, List, [], ◌∷◌, ◌++◌, length, drop, All, append_assoc}
use Rattle.std.proofs.Common.{append-nil, refl, sym, ap, subst, ◌∙◌, arith}
use Rattle.std.proofs.lemmas.List.Elements.{All-head, All-tail}
use Rattle.std.specs.Prelude.{slice_index}
use Rattle.memchr.specs.Find.{Passes, is_byte, places_from, places}
use Rattle.memchr.proofs.lemmas.CallerLemmas.{All-places}
use Rattle.ps_text.specs.Lines.{line_ends}

first_left : (i : ℕ) (text bs : List ℕ) (b : ℕ) → drop i text ≡ b ∷ bs → (slice_index text i ≡ b)
    × (drop (suc i) text ≡ bs)
first_left zero [] bs b h = cc
first_left zero (x ∷ xs) bs b h = let first : x ≡ b = cc in let more : xs ≡ bs = cc in (first, more)
first_left (suc i) [] bs b h = cc
first_left (suc i) (x ∷ xs) bs b h = first_left i xs bs b h

ends_from : (bs : List ℕ) (i : ℕ) (text : List ℕ) → drop i text ≡ bs → places_from (is_byte 10) text i (length bs)
    ≡ line_ends i bs
unfolding places_from
ends_from [] i text h = refl
ends_from (b ∷ bs) i text h =
    let here = first_left i text bs b h in
    let next : suc i ≡ i + 1 = omega arith in
    rw (here.0, ends_from bs (i + 1) text (subst (λ (j : ℕ). drop j text ≡ bs) next here.1)) refl

ends_are_places : (text : List ℕ) → places (is_byte 10) text ≡ line_ends 0 text
ends_are_places text =
    let whole : length text - 0 ≡ length text = omega arith in
    ap (λ (n : ℕ). places_from (is_byte 10) text 0 n) whole ∙ ends_from text 0 text refl

-- a place of a line end
abbrev pub Ends : List ℕ → ℕ → Type 0
Ends text k = (k < length text) × Passes (is_byte 10) text k

-- the ends that were found, and those that are left, are all
pub record Left (text found left : List ℕ) : Type 0 where
  pub inside : All (Ends text) left
  pub all : found ++ left ≡ line_ends 0 text

pub none_found : (text left : List ℕ) → left ≡ places (is_byte 10) text → Left text [] left
none_found text left is = record {
  inside = rw is (All-places (is_byte 10) text);
  all = is ∙ ends_are_places text;
}

pub next_inside : (text found left more : List ℕ) (end : ℕ) → Left text found left → left ≡ end ∷ more
    → end < length text
next_inside text found left more end h is = (All-head (Ends text) end more (rw is at h.inside)).0

pub next_found : (text found left more : List ℕ) (end : ℕ) → Left text found left → left ≡ end ∷ more
    → Left text (found ++ end ∷ []) more
next_found text found left more end h is = record {
  inside = All-tail (Ends text) end more (rw is at h.inside);
  all = append_assoc found (end ∷ []) more ∙ ap (λ (l : List ℕ). found ++ l) (sym is) ∙ h.all;
}

pub all_found : (text found left : List ℕ) → Left text found left → left ≡ [] → found ≡ line_ends 0 text
all_found text found left h is = sym (append-nil found) ∙ ap (λ (l : List ℕ). found ++ l) (sym is) ∙ h.all
