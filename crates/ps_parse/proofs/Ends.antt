-- What may not come after an expression or a part of one.
use Rattle.std.proofs.Common.{◌≡◌, ℕ, ◌<◌, ◌≤◌, Bool, true, false, [], ◌∷◌, refl, ap, arith}
use Rattle.ps_scan.specs.declared.token.Kind.{Kind}
use Rattle.ps_scan.specs.declared.token.Kind.TheVariants as k
use Rattle.ps_scan.specs.Kinds.{same}
use Rattle.ps_parse_grammar.specs.Symbols.{Tokens}
use Rattle.ps_parse.specs.Steps.{sees}
use Rattle.ps_parse.proofs.Exact.{same_is}

-- how tightly a token binds to what comes before it: 1 a relation, 2 and 3 an operator, 4 a part of a variable or a
-- list of parameters
abbrev pub binds : Kind → ℕ
binds k.LeftBracket = 4
binds k.LeftParen = 4
binds k.Dot = 4
binds k.Caret = 4
binds k.Star = 3
binds k.Div = 3
binds k.Mod = 3
binds k.And = 3
binds k.Plus = 2
binds k.Minus = 2
binds k.Or = 2
binds k.Equal = 1
binds k.NotEqual = 1
binds k.Less = 1
binds k.Greater = 1
binds k.LessEqual = 1
binds k.GreaterEqual = 1
binds k.In = 1
binds _ = 0

-- the next token binds less tightly than n
abbrev pub Ends : ℕ → Tokens → Type 0
Ends n [] = Unit {0}
Ends n (t ∷ ts) = binds t.kind < n

pub ends_weaker : (m n : ℕ) (ts : Tokens) → m ≤ n → Ends m ts → Ends n ts
ends_weaker m n [] le h = tt
ends_weaker m n (t ∷ ts) le h = omega (arith, h)

-- the token of a kind that binds as tightly does not come next
pub unseen : (n : ℕ) (k : Kind) (ts : Tokens) → Ends n ts → n ≤ binds k → sees k ts ≡ false
unseen n k [] h le = refl
unseen n k (t ∷ ts) h le = go (same t.kind k) refl
  where
    go : (b : Bool) → same t.kind k ≡ b → same t.kind k ≡ false
    go true e = absurd (let kinds : binds t.kind ≡ binds k = ap binds (same_is t.kind k e) in omega (arith, h, kinds))
    go false e = e

pub loose : 0 < 1
loose = omega arith

-- what may come after a statement
abbrev pub follow : Kind → ℕ
follow k.Semicolon = 1
follow k.End = 1
follow k.Until = 1
follow k.Else = 1
follow _ = 0

abbrev pub Follows : Tokens → Type 0
Follows [] = Unit {0}
Follows (t ∷ ts) = 0 < follow t.kind

follow_binds : (kind : Kind) → 0 < follow kind → binds kind ≡ 0
follow_binds k.LeftBracket h = absurd (omega arith)
follow_binds k.LeftParen h = absurd (omega arith)
follow_binds k.Dot h = absurd (omega arith)
follow_binds k.Caret h = absurd (omega arith)
follow_binds k.Star h = absurd (omega arith)
follow_binds k.Div h = absurd (omega arith)
follow_binds k.Mod h = absurd (omega arith)
follow_binds k.And h = absurd (omega arith)
follow_binds k.Plus h = absurd (omega arith)
follow_binds k.Minus h = absurd (omega arith)
follow_binds k.Or h = absurd (omega arith)
follow_binds k.Equal h = absurd (omega arith)
follow_binds k.NotEqual h = absurd (omega arith)
follow_binds k.Less h = absurd (omega arith)
follow_binds k.Greater h = absurd (omega arith)
follow_binds k.LessEqual h = absurd (omega arith)
follow_binds k.GreaterEqual h = absurd (omega arith)
follow_binds k.In h = absurd (omega arith)
follow_binds kind h = refl

pub follows_ends : (n : ℕ) (ts : Tokens) → 1 ≤ n → Follows ts → Ends n ts
follows_ends n [] le h = tt
follows_ends n (t ∷ ts) le h = omega (arith, follow_binds t.kind h)

pub follows_unseen : (k : Kind) (ts : Tokens) → Follows ts → follow k ≡ 0 → sees k ts ≡ false
follows_unseen k [] h e = refl
follows_unseen k (t ∷ ts) h e = go (same t.kind k) refl
  where
    go : (b : Bool) → same t.kind k ≡ b → same t.kind k ≡ false
    go true q = absurd (let kinds : follow t.kind ≡ follow k = ap follow (same_is t.kind k q) in omega
        (arith, h, kinds))
    go false q = q
