-- Lists look no further than the token that they stop before or refuse.
use Rattle.std.proofs.Common.{◌≡◌, ℕ, zero, suc, ◌+◌, ◌<◌, ◌≤◌, Bool, true, false, if◌then◌else◌, List, [], ◌∷◌, ◌++◌}
use Rattle.std.proofs.Common.{length, Option, Some, None, Ok, Err, refl, sym, ap, ◌∙◌, arith, length-append}
use Rattle.std.proofs.lemmas.List.{append_cancel_right}
use Rattle.ps_scan.specs.declared.token.Kind.{Kind}
use Rattle.ps_scan.specs.declared.token.Token.{Token}
use Rattle.ps_parse_grammar.specs.Symbols.{Tokens}
use Rattle.ps_parse.specs.Steps.{Outcome, Parser, and_then, first, if_some, ◌>>=◌, ◌<$>◌, pure, sees, after, eat, look}
use Rattle.ps_parse.specs.Steps.{separated, separated_from, many, many_from, terminated, terminated_from, if_begins}
use Rattle.ps_parse.specs.Steps.{part}
use Rattle.ps_parse.proofs.Exact.{both_steps, second_part}
use Rattle.ps_parse.proofs.Local.{Local, local_pure, local_bind, local_if, local_if_some, local_eat, local_look}
use Rattle.ps_parse.proofs.Local.{local_if_begins, no_longer, Takes, first_takes, none_some}

-- A list of tokens has one end of a length.
pub same_parts : (c r d q : Tokens) → c ++ r ≡ d ++ q → length r ≡ length q → (c ≡ d) × (r ≡ q)
same_parts [] r [] q e l = (refl, e)
same_parts [] r (t ∷ d) q e l = absurd (omega (arith, l, ap length e, length-append d q))
same_parts (t ∷ c) r [] q e l = absurd (omega (arith, l, ap length e, length-append c r))
same_parts (t ∷ c) r (u ∷ d) q e l =
    let s = same_parts c r d q (ap tail e) l in
    (ap (λ (z : Tokens). t ∷ z) s.0 ∙ ap (λ (z : Token). z ∷ d) (ap (head t) e), s.1)
  where
    tail : Tokens → Tokens
    tail [] = []
    tail (t ∷ ts) = ts

    head : Token → Tokens → Token
    head u [] = u
    head u (t ∷ ts) = t

pub same_steps : {A B : Type 0} (o : Outcome A) (f g : A → Parser B)
    → ((x : A) (m : Tokens) → o ≡ Ok (x, m) → f x m ≡ g x m) → and_then o f ≡ and_then o g
same_steps (Err n) f g h = refl
same_steps (Ok p) f g h = h p.0 p.1 refl

-- ---- a count of turns that is at least that of the tokens
module _ {A : Type 0} (f : ℕ → Parser A) (h : (n : ℕ) → Local (f n))
    (e : (n m : ℕ) (ts : Tokens) → length ts ≤ n → length ts ≤ m → f n ts ≡ f m ts) where
  enough : (ts us : Tokens) → f (length ts + length us) ts ≡ f (length ts) ts
  enough ts us = e (length ts + length us) (length ts) ts (omega arith) (omega arith)

  enough_too : (ts us : Tokens) → f (length us) us ≡ f (length ts + length us) us
  enough_too ts us = e (length us) (length ts + length us) us (omega arith) (omega arith)

  turns_read : (ts : Tokens) (a : A) (r : Tokens) → f (length ts) ts ≡ Ok (a, r) → (c : Tokens) × (ts ≡ c ++ r)
      × ((r' : Tokens) → first r' ≡ first r → f (length (c ++ r')) (c ++ r') ≡ Ok (a, r'))
  turns_read ts a r d =
      let one = (h (length ts)).reads ts a r d in (
        one.0,
        one.1,
        λ r' same.
            (let more = length ts + length (one.0 ++ r') in
            let two = (h more).reads ts a r (enough ts (one.0 ++ r') ∙ d) in
            let front = append_cancel_right two.0 one.0 r (sym two.1 ∙ one.1) in
            enough_too ts (one.0 ++ r') ∙ ap (λ (c : Tokens). f more (c ++ r')) (sym front) ∙ two.2 r' same),
      )

  turns_refuse : (ts : Tokens) (n : ℕ) → f (length ts) ts ≡ Err n → (c : Tokens) × (r : Tokens) × (ts ≡ c ++ r)
      × (length r ≡ n) × ((r' : Tokens) → first r' ≡ first r → f (length (c ++ r')) (c ++ r') ≡ Err (length r'))
  turns_refuse ts n d =
      let one = (h (length ts)).refuses ts n d in (
        one.0,
        one.1,
        one.2,
        one.3,
        λ r' same.
            (let more = length ts + length (one.0 ++ r') in
            let two = (h more).refuses ts n (enough ts (one.0 ++ r') ∙ d) in
            let parts = same_parts two.0 two.1 one.0 one.1 (sym two.2 ∙ one.2) (two.3 ∙ sym one.3) in
            enough_too ts (one.0 ++ r') ∙ ap (λ (c : Tokens). f more (c ++ r')) (sym parts.0) ∙ two.4 r'
            (same ∙ ap first (sym parts.1))),
      )

  pub local_turns : Local (λ ts. f (length ts) ts)
  local_turns = record { reads = turns_read; refuses = turns_refuse }

pub after_shorter : (k : Kind) (ts : Tokens) → sees k ts ≡ true → length (after k ts) < length ts
after_shorter k [] e = cc
after_shorter k (t ∷ ts) e = rw e (omega arith)

-- ---- {separator item}
module _ {A : Type 0} (separator : Kind) (item : Parser A) (h : Local item) where
  local_from : (n : ℕ) (found : List A) → Local (separated_from separator item n found)
  unfolding separated_from
  local_from zero found = local_pure found
  local_from (suc n) found = local_bind (eat separator) _ (local_eat separator)
      (λ b. local_if _ _ (local_bind item _ h (λ x. local_from n (found ++ x ∷ []))) (local_pure found) b)

  from_step : (n m : ℕ) (found : List A) → ((found' : List A) (ts : Tokens) → length ts ≤ n → length ts ≤ m
      → separated_from separator item n found' ts ≡ separated_from separator item m found' ts) → (b : Bool)
      (ts : Tokens) → (b ≡ true → (length ts ≤ n) × (length ts ≤ m))
      → (if b then (item >>= (λ x. separated_from separator item n (found ++ x ∷ []))) else pure found) ts
      ≡ (if b then (item >>= (λ x. separated_from separator item m (found ++ x ∷ []))) else pure found) ts
  from_step n m found ih true ts le = same_steps (item ts) _ _
      (λ x r e. let shorter = no_longer item h ts x r e in let few = le refl in ih (found ++ x ∷ []) r
      (omega (arith, shorter, few.0)) (omega (arith, shorter, few.1)))
  from_step n m found ih false ts le = refl

  from_same : (n m : ℕ) (found : List A) (ts : Tokens) → length ts ≤ n → length ts ≤ m
      → separated_from separator item n found ts ≡ separated_from separator item m found ts
  unfolding separated_from eat
  from_same zero zero found ts l k = refl
  from_same zero (suc m) found [] l k = refl
  from_same zero (suc m) found (t ∷ ts) l k = absurd (omega arith)
  from_same (suc n) zero found [] l k = refl
  from_same (suc n) zero found (t ∷ ts) l k = absurd (omega arith)
  from_same (suc n) (suc m) found ts l k = from_step n m found (from_same n m) (sees separator ts) (after separator ts)
      (λ e. let shorter = after_shorter separator ts e in (omega (arith, shorter), omega (arith, shorter)))

  pub separated_enough : (n : ℕ) (found : List A) (ts : Tokens) → length ts ≤ n
      → separated_from separator item n found ts ≡ separated_from separator item (length ts) found ts
  separated_enough n found ts le = from_same n (length ts) found ts le (omega arith)

  local_more : (x : A) → Local (λ ts. separated_from separator item (length ts) (x ∷ []) ts)
  local_more x = local_turns (λ n. separated_from separator item n (x ∷ [])) (λ n. local_from n (x ∷ []))
      (λ n m ts. from_same n m (x ∷ []) ts)

  pub local_separated : Local (separated separator item)
  unfolding separated
  local_separated = local_bind item _ h local_more

  pub separated_takes : Takes item → Takes (separated separator item)
  unfolding separated
  separated_takes t = first_takes item _ t local_more

-- ---- {separator item} [separator]
module _ {A : Type 0} (separator stop : Kind) (item : Parser A) (h : Local item) where
  local_run : (n : ℕ) (found : List A) → Local (terminated_from separator stop item n found)
  unfolding terminated_from
  local_run zero found = local_pure found
  local_run (suc n) found =
      local_bind (eat separator) _ (local_eat separator)
      (λ b. local_if _ _ (local_bind (look stop) _ (local_look stop)
      (λ is_end. local_if _ _ (local_pure found) (local_bind item _ h (λ x. local_run n (found ++ x ∷ []))) is_end))
      (local_pure found) b)

  Same : ℕ → ℕ → Type 0
  Same n m = (found : List A) (ts : Tokens) → length ts ≤ n → length ts ≤ m
      → terminated_from separator stop item n found ts ≡ terminated_from separator stop item m found ts

  item_step : (n m : ℕ) (found : List A) → Same n m → (is_end : Bool) (ts : Tokens) → length ts ≤ n → length ts ≤ m
      → (if is_end then pure found else (item >>= (λ x. terminated_from separator stop item n (found ++ x ∷ [])))) ts
      ≡ (if is_end then pure found else (item >>= (λ x. terminated_from separator stop item m (found ++ x ∷ []))))
      ts
  unfolding Same
  item_step n m found ih true ts l k = refl
  item_step n m found ih false ts l k = same_steps (item ts) _ _
      (λ x r e. let shorter = no_longer item h ts x r e in ih (found ++ x ∷ []) r (omega (arith, shorter))
      (omega (arith, shorter)))

  run_step : (n m : ℕ) (found : List A) → Same n m → (b : Bool) (ts : Tokens)
      → (b ≡ true → (length ts ≤ n) × (length ts ≤ m))
      → (if b then (look stop >>= (λ is_end. if is_end then pure found
      else (item >>= (λ x. terminated_from separator stop item n (found ++ x ∷ []))))) else pure found) ts
      ≡ (if b then (look stop >>= (λ is_end. if is_end then pure found
      else (item >>= (λ x. terminated_from separator stop item m (found ++ x ∷ []))))) else pure found) ts
  unfolding look
  run_step n m found ih true ts le = (let few = le refl in item_step n m found ih (sees stop ts) ts few.0 few.1)
  run_step n m found ih false ts le = refl

  run_same : (n m : ℕ) → Same n m
  unfolding Same terminated_from eat
  run_same zero zero found ts l k = refl
  run_same zero (suc m) found [] l k = refl
  run_same zero (suc m) found (t ∷ ts) l k = absurd (omega arith)
  run_same (suc n) zero found [] l k = refl
  run_same (suc n) zero found (t ∷ ts) l k = absurd (omega arith)
  run_same (suc n) (suc m) found ts l k = run_step n m found (run_same n m) (sees separator ts) (after separator ts)
      (λ e. let shorter = after_shorter separator ts e in (omega (arith, shorter), omega (arith, shorter)))

  pub terminated_enough : (n : ℕ) (found : List A) (ts : Tokens) → length ts ≤ n
      → terminated_from separator stop item n found ts ≡ terminated_from separator stop item (length ts) found ts
  unfolding Same
  terminated_enough n found ts le = run_same n (length ts) found ts le (omega arith)

  pub local_terminated : Local (terminated separator stop item)
  unfolding terminated Same
  local_terminated = local_bind item _ h (λ x. local_turns (λ n. terminated_from separator stop item n (x ∷ []))
      (λ n. local_run n (x ∷ [])) (λ n m ts. run_same n m (x ∷ []) ts))

-- ---- {item}

-- an item that takes at least one token, or returns none
pub record Turn {A : Type 0} (item : Parser (Option A)) : Type 0 where
  pub looks : Local item
  pub ends : item [] ≡ Ok (None, [])
  pub takes : (ts : Tokens) (x : A) (r : Tokens) → item ts ≡ Ok (Some x, r) → length r < length ts

module _ {A : Type 0} (item : Parser (Option A)) (h : Turn item) where
  local_run_of : (n : ℕ) (found : List A) → Local (many_from item n found)
  unfolding many_from
  local_run_of zero found = local_pure found
  local_run_of (suc n) found = local_bind item _ h.looks
      (λ next. local_if_some _ _ (λ x. local_run_of n (found ++ x ∷ [])) (local_pure found) next)

  AsMany : ℕ → ℕ → Type 0
  AsMany n m = (found : List A) (ts : Tokens) → length ts ≤ n → length ts ≤ m → many_from item n found ts
      ≡ many_from item m found ts

  next_step : (n m : ℕ) (found : List A) (ts : Tokens) → AsMany n m → length ts ≤ suc n → length ts ≤ suc m
      → (o : Option A) (r : Tokens) → item ts ≡ Ok (o, r)
      → if_some o (λ x. many_from item n (found ++ x ∷ [])) (pure found) r ≡ if_some o
      (λ x. many_from item m (found ++ x ∷ [])) (pure found) r
  unfolding AsMany
  next_step n m found ts ih l k None r e = refl
  next_step n m found ts ih l k (Some x) r e =
      (let shorter = h.takes ts x r e in ih (found ++ x ∷ []) r (omega (arith, shorter)) (omega (arith, shorter)))

  as_many : (n m : ℕ) → AsMany n m
  unfolding AsMany many_from
  as_many zero zero found ts l k = refl
  as_many zero (suc m) found [] l k = rw h.ends refl
  as_many zero (suc m) found (t ∷ ts) l k = absurd (omega arith)
  as_many (suc n) zero found [] l k = rw h.ends refl
  as_many (suc n) zero found (t ∷ ts) l k = absurd (omega arith)
  as_many (suc n) (suc m) found ts l k = same_steps (item ts) _ _ (next_step n m found ts (as_many n m) l k)

  pub many_enough : (n : ℕ) (found : List A) (ts : Tokens) → length ts ≤ n → many_from item n found ts ≡ many_from item
      (length ts) found ts
  unfolding AsMany
  many_enough n found ts le = as_many n (length ts) found ts le (omega arith)

  pub local_many_from : (found : List A) → Local (λ ts. many_from item (length ts) found ts)
  unfolding AsMany
  local_many_from found = local_turns (λ n. many_from item n found) (λ n. local_run_of n found)
      (λ n m ts. as_many n m found ts)

  pub local_many : Local (many item)
  unfolding many
  local_many = local_many_from []

-- ---- items that their first token shows
module _ {A : Type 0} (begins : Tokens → Bool) (is_begin : Option Token → Bool)
    (shown : (ts : Tokens) → is_begin (first ts) ≡ begins ts) (none : begins [] ≡ false) (item : Parser A)
    (h : Local item) (t : Takes item) where
  begun : (b : Bool) (ts : Tokens) (x : A) (r : Tokens) → (if b then (Some <$> item) ts else Ok (None, ts)) ≡ Ok
      (Some x, r) → length r < length ts
  begun true ts x r e = (let s = both_steps (item ts) _ (Some x) r e in let end = second_part (Some s.0)
      (Some x) s.1 r s.3 in omega (arith, t ts s.0 s.1 s.2, ap length end))
  begun false ts x r e = absurd (none_some x ts r e)

  pub turn_begins : Turn (if_begins begins item)
  unfolding if_begins
  turn_begins = record {
    looks = local_if_begins begins is_begin shown item h;
    ends = rw none refl;
    takes = λ ts x r e. begun (begins ts) ts x r e;
  }

  pub local_part : (word : Kind) → Local (part word begins item)
  unfolding part
  local_part word = local_bind (eat word) _ (local_eat word)
      (λ b. local_if _ _ (local_bind item _ h (λ x. local_many_from (if_begins begins item) turn_begins (x ∷ [])))
      (local_pure []) b)
