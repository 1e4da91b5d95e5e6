-- What a parser is made of: a function from the tokens that are left to what it read and the tokens after that, or, if
-- it refuses, the number of tokens left from the one on that it refuses.
use Rattle.std.specs.Prelude.{◌≡◌, ◌≢◌, ℕ, zero, suc, Bool, true, false, if◌then◌else◌, List, [], ◌∷◌, ◌++◌, length}
use Rattle.std.specs.Prelude.{Option, Some, None, Result, Ok, Err}
use Rattle.ps_text.specs.declared.Span.{Span}
use Rattle.ps_scan.specs.declared.token.Kind.{Kind}
use Rattle.ps_scan.specs.declared.token.Token.{Token}
use Rattle.ps_scan.specs.Kinds.{same}
use Rattle.ps_parse_grammar.specs.Symbols.{Tokens}
use Rattle.ps_parse.specs.declared.error.ReadFailure.{ReadFailure}
use Rattle.ps_parse.specs.declared.error.ReadFailure.TheVariants.{OutOfMemory, Unexpected}

abbrev pub Outcome : Type 0 → Type 0
Outcome A = Result (A × Tokens) ℕ

abbrev pub Parser : Type 0 → Type 0
Parser A = Tokens → Outcome A

abbrev pub and_then : {A B : Type 0} → Outcome A → (A → Parser B) → Outcome B
and_then (Err n) f = Err n
and_then (Ok p) f = f p.0 p.1

infixl 10 ◌>>=◌
abbrev pub ◌>>=◌ : {A B : Type 0} → Parser A → (A → Parser B) → Parser B
p >>= f = λ ts. and_then (p ts) f

infixl 10 ◌>>◌
abbrev pub ◌>>◌ : {A B : Type 0} → Parser A → Parser B → Parser B
p >> q = p >>= (λ _. q)

abbrev pub pure : {A : Type 0} → A → Parser A
pure a = λ ts. Ok (a, ts)

infixr 11 ◌<$>◌
abbrev pub ◌<$>◌ : {A B : Type 0} → (A → B) → Parser A → Parser B
f <$> p = p >>= (λ x. pure (f x))

-- continues with what was found, otherwise with the alternative
abbrev pub if_some : {A B : Type 0} → Option A → (A → Parser B) → Parser B → Parser B
if_some None f p = p
if_some (Some x) f p = f x

abbrev pub refuse : {A : Type 0} → Parser A
refuse = λ ts. Err (length ts)

-- refuses from an earlier token on, from which the given number of tokens is left
abbrev pub refuse_from : {A : Type 0} → ℕ → Parser A
refuse_from left = λ ts. Err left

-- the next token, and the tokens after it
abbrev pub first : Tokens → Option Token
first [] = None
first (t ∷ ts) = Some t

abbrev pub rest : Tokens → Tokens
rest [] = []
rest (t ∷ ts) = ts

abbrev pub skip : Parser (Unit {0})
skip = λ ts. Ok (tt, rest ts)

-- the next token is of this kind
abbrev pub sees : Kind → Tokens → Bool
sees k [] = false
sees k (t ∷ ts) = same t.kind k

-- the tokens after the next, if that is of this kind
abbrev pub after : Kind → Tokens → Tokens
after k [] = []
after k (t ∷ ts) = if same t.kind k then ts else t ∷ ts

-- takes the next token if it is of this kind
unfoldable pub eat : Kind → Parser Bool
eat k = λ ts. Ok (sees k ts, after k ts)

-- takes a token of this kind
unfoldable pub expect : Kind → Parser Span
expect k [] = Err 0
expect k (t ∷ ts) = if same t.kind k then Ok (t.span, ts) else Err (length (t ∷ ts))

-- {separator item}, at most n times
unfoldable pub separated_from : {A : Type 0} → Kind → Parser A → ℕ → List A → Parser (List A)
separated_from separator item zero found = pure found
separated_from separator item (suc n) found = do
  is_more ← eat separator
  if is_more then (do x ← item; separated_from separator item n (found ++ x ∷ [])) else pure found

-- item {separator item}
unfoldable pub separated : {A : Type 0} → Kind → Parser A → Parser (List A)
separated separator item = do
  x ← item
  λ ts. separated_from separator item (length ts) (x ∷ []) ts

-- whether the next token is of this kind
unfoldable pub look : Kind → Parser Bool
look k = λ ts. Ok (sees k ts, ts)

abbrev pub accept_one : Bool → Span → Parser (Option Span)
accept_one true at = skip >> pure (Some at)
accept_one false at = pure None

-- takes the next token if it is of this kind, and returns its place
unfoldable pub accept : Kind → Parser (Option Span)
accept k = λ ts. if_some (first ts) (λ t. accept_one (same t.kind k) t.span) (pure None) ts

-- {separator item} [separator], at most n times, before the token stop
unfoldable pub terminated_from : {A : Type 0} → Kind → Kind → Parser A → ℕ → List A → Parser (List A)
terminated_from separator stop item zero found = pure found
terminated_from separator stop item (suc n) found = do
  is_more ← eat separator
  if is_more then (do
    is_end ← look stop
    if is_end then pure found else (do x ← item; terminated_from separator stop item n (found ++ x ∷ [])))
      else pure found

-- item {separator item} [separator], before the token stop
unfoldable pub terminated : {A : Type 0} → Kind → Kind → Parser A → Parser (List A)
terminated separator stop item = do
  x ← item
  λ ts. terminated_from separator stop item (length ts) (x ∷ []) ts

-- {item}, at most n times, where item returns none and takes nothing if no item comes next
unfoldable pub many_from : {A : Type 0} → Parser (Option A) → ℕ → List A → Parser (List A)
many_from item zero found = pure found
many_from item (suc n) found = do
  next ← item
  if_some next (λ x. many_from item n (found ++ x ∷ [])) (pure found)

-- {item}
unfoldable pub many : {A : Type 0} → Parser (Option A) → Parser (List A)
many item = λ ts. many_from item (length ts) [] ts

-- an item, if the next tokens begin one
unfoldable pub if_begins : {A : Type 0} → (Tokens → Bool) → Parser A → Parser (Option A)
if_begins begins item = λ ts. if begins ts then (Some <$> item) ts else Ok (None, ts)

-- [word item {item}]
unfoldable pub part : {A : Type 0} → Kind → (Tokens → Bool) → Parser A → Parser (List A)
part word begins item = do
  is_present ← eat word
  if is_present then (do
    x ← item
    λ ts. many_from (if_begins begins item) (length ts) (x ∷ []) ts) else pure []

-- the number of tokens left where a parser stops, whether it read or refused
abbrev pub stop : {A : Type 0} → Outcome A → ℕ
stop (Ok q) = length q.1
stop (Err n) = n

-- the number of tokens left from the one on at which a fault is reported
abbrev pub left_of : ReadFailure → ℕ
left_of OutOfMemory = 0
left_of (Unexpected left) = left

-- A function that parses returns what the parser reads, and refuses exactly where it refuses, except when out of
-- memory.
abbrev pub Reads : {A : Type 0} → Outcome A → Result A ReadFailure → Tokens → Type 0
Reads outcome (Ok a) new = outcome ≡ Ok (a, new)
Reads outcome (Err e) new = e ≢ OutOfMemory → outcome ≡ Err (left_of e)
