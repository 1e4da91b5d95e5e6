-- Blocks made of pieces: what is read within a piece, and what is left when a stretch within a piece is replaced.
use Rattle.std.proofs.Common.{◌≡◌, inl, inr, ℕ, zero, suc, ◌+◌, ◌<◌, ◌≤◌, List, [], ◌∷◌, length, slice_get, Some, None}
use Rattle.std.proofs.Common.{refl, sym, ap, ◌∙◌, subst, arith}
use Rattle.tac_code.specs.Memory.{Words}
use Rattle.tac_code_steps.specs.Splices.{spliced, Piece, placed, LieApart, ApartFrom, ArePlaced, with_words}
use Rattle.tac_code_steps.proofs.Splices.{spliced_length, spliced_inside, spliced_before, spliced_behind, spliced_past}
use Rattle.tac_code_steps.proofs.Splices.{spliced_within}

pub same_some : {A : Type 0} {x y : A} → Some x ≡ Some y → x ≡ y
same_some {A} {x} {y} e = ap (λ o. elim o as (λ p. A) [ Some z ↦ z | None ↦ x ]) e

pub some_none : {A : Type 0} {x : A} {B : Type 0} → None ≡ Some x → B
some_none e = absurd (cc)

pub placed_length : (ps : List Piece) (ws : Words) → length (placed ps ws) ≡ length ws
placed_length [] ws = refl
placed_length (p ∷ ps) ws = placed_length ps (spliced p.place p.words ws) ∙ spliced_length p.place p.words ws

-- a word outside all pieces
outside : (p : Piece) (ps : List Piece) (ws : Words) (i : ℕ) → ApartFrom p ps → p.place ≤ i → i < p.place
    + length p.words → slice_get (placed ps ws) i ≡ slice_get ws i
outside p [] ws i a l h = refl
outside p (q ∷ qs) ws i a l h = outside p qs (spliced q.place q.words ws) i a.1 l h ∙ go a.0
  where
    go : LieApart p q → slice_get (spliced q.place q.words ws) i ≡ slice_get ws i
    go (inl b) = spliced_before q.place q.words ws i (omega arith)
    go (inr b) = spliced_behind q.place q.words ws i (omega arith)

-- a word of a piece
pub placed_reads : (ps : List Piece) (ws : Words) (i j : ℕ) (p : Piece) → ArePlaced (length ws) ps → slice_get ps i
    ≡ Some p → j < length p.words → slice_get (placed ps ws) (p.place + j) ≡ slice_get p.words j
placed_reads [] ws i j p a h l = some_none h
placed_reads (q ∷ qs) ws zero j p a h l =
    let e : q ≡ p = same_some h in
    let b : j < length q.words = subst (λ z. j < length z.words) (sym e) l in
    ap (λ z. slice_get (placed qs (spliced q.place q.words ws)) (z.place + j)) (sym e)
    ∙ outside q qs (spliced q.place q.words ws) (q.place + j) a.1 (omega arith) (omega arith)
    ∙ spliced_inside q.place q.words ws j b a.0
    ∙ ap (λ z. slice_get z.words j) e
placed_reads (q ∷ qs) ws (suc i) j p a h l = placed_reads qs (spliced q.place q.words ws) i j p
    (subst (λ n. ArePlaced n qs) (sym (spliced_length q.place q.words ws)) a.2) h l

-- a stretch that lies apart from pieces
past : (ps : List Piece) (p : Piece) (k : ℕ) (xs ws : Words) → ApartFrom p ps → p.place ≤ k → k + length xs ≤ p.place
    + length p.words → spliced k xs (placed ps ws) ≡ placed ps (spliced k xs ws)
past [] p k xs ws a l h = refl
past (q ∷ qs) p k xs ws a l h = past qs p k xs (spliced q.place q.words ws) a.1 l h ∙ ap (placed qs) (go a.0)
  where
    go : LieApart p q → spliced k xs (spliced q.place q.words ws) ≡ spliced q.place q.words (spliced k xs ws)
    go (inl b) = spliced_past k q.place xs q.words ws (omega arith)
    go (inr b) = sym (spliced_past q.place k q.words xs ws (omega arith))

-- a stretch within a piece is replaced
pub placed_writes : (ps : List Piece) (ws : Words) (i j : ℕ) (p : Piece) (xs : Words) → ArePlaced (length ws) ps
    → slice_get ps i ≡ Some p → j + length xs ≤ length p.words → spliced (p.place + j) xs (placed ps ws) ≡ placed
    (with_words ps i (spliced j xs p.words)) ws
placed_writes [] ws i j p xs a h l = some_none h
placed_writes (q ∷ qs) ws zero j p xs a h l =
    let e : q ≡ p = same_some h in
    let b : j + length xs ≤ length q.words = subst (λ z. j + length xs ≤ length z.words) (sym e) l in
    ap (λ z. spliced (z.place + j) xs (placed qs (spliced q.place q.words ws))) (sym e)
    ∙ past qs q (q.place + j) xs (spliced q.place q.words ws) a.1 (omega arith) (omega arith)
    ∙ ap (placed qs) (spliced_within q.place j xs q.words ws b)
    ∙ ap (λ z. placed qs (spliced q.place (spliced j xs z.words) ws)) e
placed_writes (q ∷ qs) ws (suc i) j p xs a h l = placed_writes qs (spliced q.place q.words ws) i j p xs
    (subst (λ n. ArePlaced n qs) (sym (spliced_length q.place q.words ws)) a.2) h l
