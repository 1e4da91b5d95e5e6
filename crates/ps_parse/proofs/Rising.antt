-- How the reading of one level and those of the levels above it go together: one level more takes the next token,
-- or no level does.
use Rattle.std.proofs.Common.{ℕ, suc, ◌<◌, ◌≤◌, Bool, true, false, if◌then◌else◌, [], ◌∷◌, length, Ok, Err, arith}
use Rattle.ps_text.specs.declared.Span.{Span}
use Rattle.ps_scan.specs.declared.token.Kind.{Kind}
use Rattle.ps_scan.specs.declared.token.Token.{Token}
use Rattle.ps_scan.specs.Kinds.{same}
use Rattle.ps_parse_grammar.specs.Symbols.{Tokens}
use Rattle.ps_parse.specs.Steps.{Outcome, Parser, stop, and_then, ◌>>=◌, eat, expect, refuse}
use Rattle.ps_parse.proofs.Local.{Local}
use Rattle.ps_parse.proofs.Related.{stops, Kept, Rel}

-- ---- the second of two parsers goes at least as far: they return the same, or the first refuses and the second stops
-- there or later (o is not looked at)
pub data Further (A : Type 0) (n : ℕ) (o : Outcome A) : Outcome A → Outcome A → Type 0 where
  alike : (a : Outcome A) → stop a ≤ n → Further A n o a a
  further : (j : ℕ) (a : Outcome A) → j ≤ n → stop a ≤ j → Further A n o (Err j) a

within : {A : Type 0} {n : ℕ} {o a b : Outcome A} → Further A n o a b → stop b ≤ n
within (alike a l) = l
within (further j a l m) = omega (arith, l, m)

fewer : {A : Type 0} {m n : ℕ} {o o' a b : Outcome A} → m ≤ n → Further A m o a b → Further A n o' a b
fewer l (alike a i) = alike a (omega (arith, l, i))
fewer l (further j a i m) = further j a (omega (arith, l, i)) m

-- what comes after leaves no more
behind : {A B : Type 0} (a : Outcome A) (h : A → Parser B) → ((x : A) (r : Tokens) → stop (h x r) ≤ length r) → stop
    (and_then a h) ≤ stop a
behind (Err j) h v = omega arith
behind (Ok q) h v = v q.0 q.1

further_steps : {A B : Type 0} (n : ℕ) (o o' o'' : Outcome A) (f g h : A → Parser B) → Further A n o o' o''
    → ((x : A) (r : Tokens) → Further B (length r) (f x r) (g x r) (h x r)) → Further B n (and_then o f) (and_then o' g)
    (and_then o'' h)
further_steps n o o' o'' f g h (alike (Err j) l) v = alike (Err j) l
further_steps n o o' o'' f g h (alike (Ok q) l) v = fewer l (v q.0 q.1)
further_steps n o o' o'' f g h (further j a l m) v = further j (and_then a h) l
    (omega (arith, m, behind a h (λ x r. within (v x r))))

pub further_kept : Kept Further
further_kept = record { alike = λ n o l. alike o l; steps = further_steps }

-- where the lower level may not begin anything
pub nothing_further : {A : Type 0} {p q : Parser A} → Local q → Rel Further p refuse q
nothing_further {q = q} h = record { at = λ ts. further (length ts) (q ts) (omega arith) (stops q h ts) }

-- ---- the same, where what the first refuses is no longer the next token
pub data First (A : Type 0) (n : ℕ) (o : Outcome A) : Outcome A → Outcome A → Type 0 where
  agreed : (a : Outcome A) → stop a ≤ n → First A n o a a
  past : (j : ℕ) (a : Outcome A) → j < n → stop a ≤ j → First A n o (Err j) a

before : {A : Type 0} {n : ℕ} {o a b : Outcome A} → First A n o a b → stop b ≤ n
before (agreed a l) = l
before (past j a l m) = omega (arith, l, m)

earlier : {A : Type 0} {m n : ℕ} {o o' a b : Outcome A} → m ≤ n → First A m o a b → First A n o' a b
earlier l (agreed a i) = agreed a (omega (arith, l, i))
earlier l (past j a i m) = past j a (omega (arith, l, i)) m

-- after a token that was taken
sooner : {A : Type 0} {m n : ℕ} {o o' a b : Outcome A} → m < n → Further A m o a b → First A n o' a b
sooner l (alike a i) = agreed a (omega (arith, l, i))
sooner l (further j a i m) = past j a (omega (arith, l, i)) m

pub first_past : {A : Type 0} {m : ℕ} {o o' a b : Outcome A} → Further A m o a b → First A (suc m) o' a b
first_past v = sooner (omega arith) v

pub first_same : {A : Type 0} {n : ℕ} {o : Outcome A} (a : Outcome A) → stop a ≤ n → First A n o a a
first_same a l = agreed a l

first_steps : {A B : Type 0} (n : ℕ) (o o' o'' : Outcome A) (f g h : A → Parser B) → First A n o o' o''
    → ((x : A) (r : Tokens) → First B (length r) (f x r) (g x r) (h x r)) → First B n (and_then o f) (and_then o' g)
    (and_then o'' h)
first_steps n o o' o'' f g h (agreed (Err j) l) v = agreed (Err j) l
first_steps n o o' o'' f g h (agreed (Ok q) l) v = earlier l (v q.0 q.1)
first_steps n o o' o'' f g h (past j a l m) v = past j (and_then a h) l
    (omega (arith, m, behind a h (λ x r. before (v x r))))

pub first_kept : Kept First
first_kept = record { alike = λ n o l. agreed o l; steps = first_steps }

first_eat_at : {B : Type 0} (f g h : Bool → Parser B) → Rel Further (f true) (g true) (h true) → Rel First (f false)
    (g false) (h false) → (t : Token) (ts : Tokens) (b : Bool)
    → First B (length (t ∷ ts)) (f b (if b then ts else t ∷ ts)) (g b (if b then ts else t ∷ ts))
    (h b (if b then ts else t ∷ ts))
first_eat_at f g h v w t ts true = sooner (omega arith) (v.at ts)
first_eat_at f g h v w t ts false = w.at (t ∷ ts)

pub first_eat : {B : Type 0} (k : Kind) (f g h : Bool → Parser B) → Rel Further (f true) (g true) (h true) → Rel First
    (f false) (g false) (h false) → Rel First (eat k >>= f) (eat k >>= g) (eat k >>= h)
unfolding eat
first_eat {B} k f g h v w = record { at = go }
  where
    go : (ts : Tokens) → First B (length ts) ((eat k >>= f) ts) ((eat k >>= g) ts) ((eat k >>= h) ts)
    go [] = w.at []
    go (t ∷ ts) = first_eat_at f g h v w t ts (same t.kind k)

first_expect_at : {B : Type 0} {f g h : Span → Parser B} → ((at : Span) → Rel Further (f at) (g at) (h at))
    → (t : Token) (ts : Tokens) (b : Bool)
    → First B (length (t ∷ ts)) (and_then (if b then Ok (t.span, ts) else Err (length (t ∷ ts))) f)
    (and_then (if b then Ok (t.span, ts) else Err (length (t ∷ ts))) g)
    (and_then (if b then Ok (t.span, ts) else Err (length (t ∷ ts))) h)
first_expect_at v t ts true = sooner (omega arith) ((v t.span).at ts)
first_expect_at v t ts false = agreed (Err (length (t ∷ ts))) (omega arith)

pub first_expect : {B : Type 0} (k : Kind) {f g h : Span → Parser B} → ((at : Span) → Rel Further (f at) (g at) (h at))
    → Rel First (expect k >>= f) (expect k >>= g) (expect k >>= h)
unfolding expect
first_expect {B} k {f} {g} {h} v = record { at = go }
  where
    go : (ts : Tokens) → First B (length ts) ((expect k >>= f) ts) ((expect k >>= g) ts) ((expect k >>= h) ts)
    go [] = agreed (Err 0) (omega arith)
    go (t ∷ ts) = first_expect_at {f = f} {g = g} {h = h} v t ts (same t.kind k)

-- ---- for a level, the next and one above them: all return the same; or the first refuses and the others return the
-- same; or the second refuses later than the first
pub data Rise (A : Type 0) (n : ℕ) : Outcome A → Outcome A → Outcome A → Type 0 where
  level : (a : Outcome A) → stop a ≤ n → Rise A n a a a
  risen : (k : ℕ) (a : Outcome A) → k ≤ n → stop a ≤ k → Rise A n (Err k) a a
  rising : (k j : ℕ) (a : Outcome A) → k ≤ n → j < k → stop a ≤ j → Rise A n (Err k) (Err j) a

last : {A : Type 0} {n : ℕ} {o a b : Outcome A} → Rise A n o a b → stop b ≤ n
last (level a l) = l
last (risen k a l m) = omega (arith, l, m)
last (rising k j a l i m) = omega (arith, l, i, m)

lower : {A : Type 0} {m n : ℕ} {o a b : Outcome A} → m ≤ n → Rise A m o a b → Rise A n o a b
lower l (level a i) = level a (omega (arith, l, i))
lower l (risen k a i m) = risen k a (omega (arith, l, i)) m
lower l (rising k j a i s m) = rising k j a (omega (arith, l, i)) s m

-- after the first refused
passed : {A : Type 0} {k m n : ℕ} {o a b : Outcome A} → k ≤ n → m ≤ k → Rise A m o a b → Rise A n (Err k) a b
passed {k = k} l i (level a s) = risen k a l (omega (arith, i, s))
passed {k = k} l i (risen j a s m) = risen k a l (omega (arith, i, s, m))
passed {k = k} l i (rising j' j a s t m) = rising k j a l (omega (arith, i, s, t)) m

rise_steps : {A B : Type 0} (n : ℕ) (o o' o'' : Outcome A) (f g h : A → Parser B) → Rise A n o o' o''
    → ((x : A) (r : Tokens) → Rise B (length r) (f x r) (g x r) (h x r)) → Rise B n (and_then o f) (and_then o' g)
    (and_then o'' h)
rise_steps n o o' o'' f g h (level (Err j) l) v = level (Err j) l
rise_steps n o o' o'' f g h (level (Ok q) l) v = lower l (v q.0 q.1)
rise_steps n o o' o'' f g h (risen k (Err j) l m) v = risen k (Err j) l m
rise_steps n o o' o'' f g h (risen k (Ok q) l m) v = passed l m (v q.0 q.1)
rise_steps n o o' o'' f g h (rising k j a l i m) v = rising k j (and_then a h) l i
    (omega (arith, m, behind a h (λ x r. last (v x r))))

pub rise_kept : Kept Rise
rise_kept = record { alike = λ n o l. level o l; steps = rise_steps }

-- at the lowest level nothing begins
begins_to_rise : {A : Type 0} {n : ℕ} {o a b : Outcome A} → First A n o a b → Rise A n (Err n) a b
begins_to_rise {n = n} (agreed a l) = risen n a (omega arith) l
begins_to_rise {n = n} (past j a l m) = rising n j a (omega arith) l m

pub lowest : {A : Type 0} {p q s : Parser A} → Rel First p q s → Rel Rise refuse q s
lowest v = record { at = λ ts. begins_to_rise (v.at ts) }
