-- What loops over rows come to.
use Rattle.std.proofs.Common.{◌≡◌, ℕ, zero, suc, ◌+◌, ◌<◌, ◌≤◌, true, false, ◌&&◌, List, [], ◌∷◌, ◌++◌, length, take}
use Rattle.std.proofs.Common.{drop, slice_get, Option, Some, None, refl, sym, ap, ◌∙◌, subst, arith}
use Rattle.std.proofs.lemmas.List.{take_all, drop_all, append-nil}
use Rattle.tac_pass.specs.declared.table.Reach.{Reach}
use Rattle.tac_pass.specs.declared.table.Known.{Known}
use Rattle.tac_pass.specs.declared.table.Word.{Word}
use Rattle.tac_pass.specs.Tables.{one_further, or_unknown, sees_all, hit_all, is_no_more, all_no_more}

-- a place counted from another begin
abbrev pub further : ℕ → Option ℕ → Option ℕ
further n None = None
further n (Some i) = Some (n + i)

pub further_none : (o : Option ℕ) → further 0 o ≡ o
further_none None = refl
further_none (Some i) = ap Some (omega arith)

pub further_more : (n : ℕ) (o : Option ℕ) → further n (one_further o) ≡ further (n + 1) o
further_more n None = refl
further_more n (Some i) = ap Some (omega arith)

-- without a word
none_seen : (reach : Reach) (n : ℕ) (ks : List ℕ) → sees_all reach n ks [] ≡ true
none_seen reach n [] = refl
none_seen reach n (k ∷ ks) = refl

none_hit : (reach : Reach) (n : ℕ) (ks : List ℕ) → hit_all reach n ks [] ≡ []
none_hit reach n [] = refl
none_hit reach n (k ∷ ks) = refl

-- all words were seen, or hit
pub seen_end : (reach : Reach) (n : ℕ) (ks : List ℕ) (ws : List Word) (i : ℕ) → length ws ≤ i → sees_all reach n
    (drop i ks) (drop i ws) ≡ sees_all reach n ks ws → sees_all reach n ks ws ≡ true
seen_end reach n ks ws i le same = sym same ∙ ap (sees_all reach n (drop i ks)) (drop_all i ws le) ∙ none_seen reach n
    (drop i ks)

pub hit_end : (reach : Reach) (n : ℕ) (ks : List ℕ) (now old : List Word) (i : ℕ) → length old ≤ i
    → (length now ≡ length old) × (take i now ++ hit_all reach n (drop i ks) (drop i now) ≡ hit_all reach n ks old)
    → now ≡ hit_all reach n ks old
hit_end reach n ks now old i le (size, same) =
    let within : length now ≤ i = omega (arith, le, size) in
    sym (ap (λ ws. ws ++ hit_all reach n (drop i ks) (drop i now)) (take_all i now within)
    ∙ ap (λ ws. now ++ hit_all reach n (drop i ks) ws) (drop_all i now within)
    ∙ ap (λ ws. now ++ ws) (none_hit reach n (drop i ks))
    ∙ append-nil now)
    ∙ same

-- one value more of which no more is claimed
more_rows : (xs ys : List Known) (i : ℕ) → length xs ≡ length ys → i < length ys → is_no_more
    (or_unknown (slice_get xs i)) (or_unknown (slice_get ys i)) ≡ true → all_no_more is_no_more (drop i xs) (drop i ys)
    ≡ all_no_more is_no_more (drop (suc i) xs) (drop (suc i) ys)
more_rows xs [] i l below f = absurd (omega (arith, below))
more_rows [] (y ∷ ys) i l below f = absurd (omega (arith, l))
more_rows (x ∷ xs) (y ∷ ys) zero l below f = ap (λ b. b && all_no_more is_no_more xs ys) f
more_rows (x ∷ xs) (y ∷ ys) (suc i) l below f =
    more_rows xs ys i (let e : length xs ≡ length ys = omega (arith, l) in e) (omega (arith, below)) f

pub no_more_next : (xs ys : List Known) (i : ℕ) → length xs ≡ length ys → i < length ys → is_no_more
    (or_unknown (slice_get xs i)) (or_unknown (slice_get ys i)) ≡ true → all_no_more is_no_more (drop i xs) (drop i ys)
    ≡ all_no_more is_no_more xs ys
    → all_no_more is_no_more (drop (i + 1) xs) (drop (i + 1) ys) ≡ all_no_more is_no_more xs ys
no_more_next xs ys i l below f same =
    subst (λ k. all_no_more is_no_more (drop k xs) (drop k ys) ≡ all_no_more is_no_more xs ys)
    (let e : suc i ≡ i + 1 = omega arith in e) (sym (more_rows xs ys i l below f) ∙ same)

-- one of which more is claimed
fewer_rows : (xs ys : List Known) (i : ℕ) → length xs ≡ length ys → i < length ys → is_no_more
    (or_unknown (slice_get xs i)) (or_unknown (slice_get ys i)) ≡ false → all_no_more is_no_more (drop i xs) (drop i ys)
    ≡ false
fewer_rows xs [] i l below f = absurd (omega (arith, below))
fewer_rows [] (y ∷ ys) i l below f = absurd (omega (arith, l))
fewer_rows (x ∷ xs) (y ∷ ys) zero l below f = ap (λ b. b && all_no_more is_no_more xs ys) f
fewer_rows (x ∷ xs) (y ∷ ys) (suc i) l below f =
    fewer_rows xs ys i (let e : length xs ≡ length ys = omega (arith, l) in e) (omega (arith, below)) f

pub no_more_fails : (xs ys : List Known) (i : ℕ) → length xs ≡ length ys → i < length ys → is_no_more
    (or_unknown (slice_get xs i)) (or_unknown (slice_get ys i)) ≡ false → all_no_more is_no_more (drop i xs) (drop i ys)
    ≡ all_no_more is_no_more xs ys
    → all_no_more is_no_more xs ys ≡ false
no_more_fails xs ys i l below f same = sym same ∙ fewer_rows xs ys i l below f
