-- Texts that grow line by line.
use Rattle.std.proofs.Common.{◌≡◌, ℕ, zero, suc, ◌+◌, List, [], ◌∷◌, ◌++◌, take, slice_get, Some, sym, ap, ◌∙◌}
use Rattle.std.proofs.Common.{append_assoc, append-nil, arith}
use Rattle.tac_code.specs.Printed.{numbered}

-- one more line
numbered_more : {X : Type 0} (line : ℕ → X → List ℕ) (n : ℕ) (xs : List X) (k : ℕ) (x : X) → slice_get xs k ≡ Some x
    → numbered line n (take (suc k) xs) ≡ numbered line n (take k xs) ++ line (n + k) x
numbered_more line n [] k x e = absurd (cc)
numbered_more line n (y ∷ xs) zero x e =
    let same : y ≡ x = cc in let at : n ≡ n + 0 = omega arith in append-nil (line n y)
    ∙ (ap (line n) same ∙ ap (λ (m : ℕ). line m x) at)
numbered_more line n (y ∷ xs) (suc k) x e =
    let at : suc n + k ≡ n + suc k = omega arith in
    ap (λ (t : List ℕ). line n y ++ t) (numbered_more line (suc n) xs k x e)
    ∙ (sym (append_assoc (line n y) (numbered line (suc n) (take k xs)) (line (suc n + k) x))
    ∙ ap (λ (m : ℕ). (line n y ++ numbered line (suc n) (take k xs)) ++ line m x) at)

-- a text that had the first lines, and has one more
pub line_added : {X : Type 0} (line : ℕ → X → List ℕ) (n : ℕ) (xs : List X) (k : ℕ) (x : X) (base before after : List ℕ)
    → slice_get xs k ≡ Some x → before ≡ base ++ numbered line n (take k xs) → after ≡ before ++ line (n + k) x → after
    ≡ base ++ numbered line n (take (k + 1) xs)
line_added line n xs k x base before after here so_far more =
    let next : suc k ≡ k + 1 = omega arith in
    more
    ∙ (ap (λ (t : List ℕ). t ++ line (n + k) x) so_far
    ∙ (append_assoc base (numbered line n (take k xs)) (line (n + k) x)
    ∙ (ap (λ (t : List ℕ). base ++ t) (sym (numbered_more line n xs k x here))
    ∙ ap (λ (m : ℕ). base ++ numbered line n (take m xs)) next)))

-- the same where the first line is line 0
pub first_line_added : {X : Type 0} (line : ℕ → X → List ℕ) (xs : List X) (k : ℕ) (x : X) (base before after : List ℕ)
    → slice_get xs k ≡ Some x → before ≡ base ++ numbered line 0 (take k xs) → after ≡ before ++ line k x → after ≡ base
    ++ numbered line 0 (take (k + 1) xs)
first_line_added line xs k x base before after here so_far more =
    let at : k ≡ 0 + k = omega arith in
    line_added line 0 xs k x base before after here so_far (more ∙ ap (λ (m : ℕ). before ++ line m x) at)

-- two parts one after another
pub joined : (a b c x y : List ℕ) → b ≡ a ++ x → c ≡ b ++ y → c ≡ a ++ (x ++ y)
joined a b c x y e f = f ∙ (ap (λ (t : List ℕ). t ++ y) e ∙ append_assoc a x y)
