-- What a second reading shows about the token that the first refused.
use Rattle.std.proofs.Common.{◌≡◌, ◌≢◌, ℕ, ◌+◌, ◌-◌, ◌≤◌, ◌↔◌, inl, inr, Bool, true, false, List, [], ◌∷◌, ◌++◌}
use Rattle.std.proofs.Common.{length, take, drop, nat_eq, Option, Some, None, Result, Ok, Err, IfOk, refl, sym, ap}
use Rattle.std.proofs.Common.{◌∙◌, subst, arith, length-drop, append_assoc}
use Rattle.std.specs.declared.alloc.AllocError.{AllocError}
use Rattle.std.proofs.lemmas.List.{take-append-drop, take_rest}
use Rattle.ps_scan.specs.declared.token.Kind.{Kind}
use Rattle.ps_scan.specs.declared.token.Kind.TheVariants as k
use Rattle.ps_scan.specs.declared.token.Token.{Token}
use Rattle.ps_syntax.specs.declared.program.Program.{Program}
use Rattle.ps_parse_grammar.specs.Symbols.{Tokens}
use Rattle.ps_parse.specs.Steps.{Outcome, stop, first, rest, sees}
use Rattle.ps_parse.specs.Reading.{reading}
use Rattle.ps_parse.specs.LeftOut.{in_place_of}
use Rattle.ps_parse.specs.Begun.{Begins, BeginsUntil}
use Rattle.ps_parse.specs.Low.{IsLow, EndsLow}
use Rattle.ps_parse.specs.Refusals.{refusal_at}
use Rattle.ps_parse.specs.Untaken.{NoneTakesAt, CouldStand, IsLeftOut, IsFault, IsTold}
use Rattle.ps_parse.specs.declared.error.ParseFault.{ParseFault}
use Rattle.ps_parse.specs.declared.error.ParseRefusal.{ParseRefusal}
use Rattle.ps_parse.proofs.Related.{stops}
use Rattle.ps_parse.proofs.Decided.{alone, among, looks, zero_or_not, ends_begins, none_more}
use Rattle.ps_parse.proofs.Opening.{is_low, low_ends}

-- the second reading stops at the end exactly where some program begins with the tokens
module _ (text : List ℕ) (before more : Tokens) (read : stop (reading text 500 before) ≡ 0) where
  pub begun : (o : Outcome Program) → reading text (500 + length more) (before ++ more) ≡ o → stop o ≡ 0 → Begins text
      (before ++ more)
  begun o e z = ends_begins text (500 + length more) (before ++ more) o e z

  pub not_begun : (o : Outcome Program) → reading text (500 + length more) (before ++ more) ≡ o → stop o ≢ 0
      → Begins text (before ++ more) → ⊥
  not_begun o e ne = none_more text more 500 before read (λ z. ne (sym (ap stop e) ∙ z))

-- where the first reading stopped, it had read the tokens before
module _ (text : List ℕ) (ts : Tokens) where
  pub read_before : (o : Outcome Program) → reading text 500 ts ≡ o → stop
      (reading text 500 (take (length ts - stop o) ts)) ≡ 0
  read_before o e =
      let parts = take-append-drop (length ts - stop o) ts in
      alone (reading text 500) (looks text 500) (take (length ts - stop o) ts) (drop (length ts - stop o) ts)
      (omega (
        arith,
        ap stop (ap (reading text 500) parts ∙ e),
        length-drop (length ts - stop o) ts,
        stops
            (reading text 500) (looks text 500) ts,
        ap stop e,
      ))

  pub begun_until : (at : ℕ) → stop (reading text 500 (take at ts)) ≡ 0 → BeginsUntil text ts at
  begun_until at z = ends_begins text 500 (take at ts) _ refl z

zero_is : (k : ℕ) → nat_eq k 0 ≡ true → k ≡ 0
zero_is k e = grind arith

is_zero : (k : ℕ) → k ≡ 0 → nat_eq k 0 ≡ true
is_zero k e = rw e refl

-- what the second reading returns
module _ (text : List ℕ) (before more : Tokens) (read : stop (reading text 500 before) ≡ 0) where
  ended : (o : Outcome Program) → reading text (500 + length more) (before ++ more) ≡ o → (left : ℕ) → left ≡ stop o
      → (nat_eq left 0 ≡ true) ↔ Begins text (before ++ more)
  ended o e left l = (
    λ z. begun text before more read o e (sym l ∙ zero_is left z),
    λ b. elim
        (zero_or_not text (stop o)) [
          | inl z ↦ is_zero left (l ∙ z)
          | inr ne ↦ absurd
              (not_begun text before more read o e ne b)
        ],
  )

  pub answered : (depth : ℕ) (ts : Tokens) → depth ≡ 500 + length more → ts ≡ before ++ more → (o : Outcome Program)
      → reading text depth ts ≡ o → (left : ℕ) → left ≡ stop o → (nat_eq left 0 ≡ true) ↔ Begins text (before ++ more)
  answered depth ts d t o e left l = ended o
      (ap (λ (n : ℕ). reading text n (before ++ more)) (sym d) ∙ ap (reading text depth) (sym t) ∙ e) left l

-- what may be in the place of a token is short
abbrev few_at : Option Tokens → ℕ
few_at None = 0
few_at (Some others) = length others

five : (kind : Kind) (colon : Bool) → few_at (in_place_of kind colon) ≤ 5
five k.Label colon = omega arith
five k.Goto colon = omega arith
five k.File colon = omega arith
five k.Slash colon = omega arith
five k.Case colon = omega arith
five k.Number true = omega arith
five k.Colon colon = omega arith
five _ colon = omega arith

pub short : (kind : Kind) (colon : Bool) (others : Tokens) → in_place_of kind colon ≡ Some others → length others ≤ 5
short kind colon others e = omega (arith, five kind colon, ap few_at e)

-- what the next token shows
module _ (text : List ℕ) (before : Tokens) where
  pub ended_left_out : (behind : Tokens) → first behind ≡ None → (false ≡ true) ↔ IsLeftOut text before behind
  ended_left_out [] e = (λ z. cc, λ d. absurd d)
  ended_left_out (t ∷ ts) e = cc

  pub told_left_out : (behind : Tokens) (t : Token) (others : Tokens) (answer : Bool) → first behind ≡ Some t
      → in_place_of t.kind (sees k.Colon (rest behind)) ≡ Some others → (answer ≡ true) ↔ Begins text (before ++ others)
      → (answer ≡ true) ↔ IsLeftOut text before behind
  told_left_out [] t others answer e i b = cc
  told_left_out (u ∷ ts) t others answer e i b = subst
      (λ (o : Option Tokens). (answer ≡ true) ↔ CouldStand text before o)
      (sym (ap (λ (v : Token). in_place_of v.kind (sees k.Colon ts)) (some_same u t e) ∙ i)) b
    where
      some_same : (u t : Token) → ◌≡◌ {A = Option Token} (Some u) (Some t) → u ≡ t
      some_same u t e = cc

  pub not_left_out : (behind : Tokens) (t : Token) → first behind ≡ Some t → in_place_of t.kind
      (sees k.Colon (rest behind)) ≡ None → (false ≡ true) ↔ IsLeftOut text before behind
  not_left_out [] t e i = cc
  not_left_out (u ∷ ts) t e i = subst (λ (o : Option Tokens). (false ≡ true) ↔ CouldStand text before o)
      (sym (ap (λ (v : Token). in_place_of v.kind (sees k.Colon ts)) (some_same u t e) ∙ i)) (λ z. cc, λ d. absurd d)
    where
      some_same : (u t : Token) → ◌≡◌ {A = Option Token} (Some u) (Some t) → u ≡ t
      some_same u t e = cc

  pub answer_told : (behind : Tokens) (t : Token) (others : Tokens) → first behind ≡ Some t → in_place_of t.kind
      (sees k.Colon (rest behind)) ≡ Some others → (result : Result Bool AllocError) → IfOk result
      (λ answer. (answer ≡ true) ↔ Begins text (before ++ others)) → IfOk result
      (λ answer. (answer ≡ true) ↔ IsLeftOut text before behind)
  answer_told behind t others e i (Ok answer) b = told_left_out behind t others answer e i b
  answer_told behind t others e i (Err error) b = tt

-- where the first reading stopped, the tokens before are low, and with the next no longer
module _ (text : List ℕ) (ts : Tokens) (left : ℕ) (e : stop (reading text 500 ts) ≡ left) where
  pub stopped_before : stop (reading text 500 (take (length ts - left) ts)) ≡ 0
  stopped_before = ap (λ (n : ℕ). stop (reading text 500 (take (length ts - n) ts))) (sym e) ∙ read_before text ts
      (reading text 500 ts) refl

  as_many : length (drop (length ts - left) ts) ≡ left
  as_many = omega (arith, length-drop (length ts - left) ts, e, stops (reading text 500) (looks text 500) ts)

  ends_at : (c r : Tokens) → c ++ r ≡ ts → length r ≡ left → EndsLow text c r
  ends_at c [] s l = tt
  ends_at c (t ∷ r) s l = λ low.
      (let one = among (reading text 500) (looks text 500) (c ++ t ∷ []) r (low_ends text 500 (c ++ t ∷ []) low) in
      let same : stop (reading text 500 ((c ++ t ∷ []) ++ r)) ≡ left = ap (λ (q : Tokens). stop (reading text 500 q))
      (append_assoc c (t ∷ []) r ∙ s) ∙ e in
      omega (arith, one, same, l))

  pub stopped_low : IsLow text (take (length ts - left) ts)
  stopped_low = is_low text 500 (take (length ts - left) ts) stopped_before

  pub stopped_ends : EndsLow text (take (length ts - left) ts) (drop (length ts - left) ts)
  stopped_ends = ends_at (take (length ts - left) ts) (drop (length ts - left) ts)
      (take-append-drop (length ts - left) ts) as_many

-- and so the refusal
pub refused_told : (text : List ℕ) (ts : Tokens) (left at : ℕ) (fault : ParseFault) (refusal : ParseRefusal) → at
    ≡ length ts - left → stop (reading text 500 ts) ≡ left → NoneTakesAt text ts (length ts - left)
    → IsFault text (take at ts) (take (length ts - at) (drop at ts)) fault → refusal ≡ refusal_at text ts at fault
    → IsTold text ts refusal
refused_told text ts left at fault refusal e z never f r =
    subst (IsTold text ts) (sym r) (record {
      at = at;
      refused = record {
        within = omega (arith, e);
        begun = begun_until text ts at (ap (λ (n : ℕ). stop (reading text 500 (take n ts))) e
            ∙ stopped_before text ts left z);
        untaken = subst (NoneTakesAt text ts) (sym e) never;
        low = subst (λ (n : ℕ). IsLow text (take n ts)) (sym e) (stopped_low text ts left z);
        ends_low = subst (λ (n : ℕ). EndsLow text (take n ts) (drop n ts)) (sym e) (stopped_ends text ts left z);
        is_fault = subst (λ (q : Tokens). IsFault text (take at ts) q fault) (take_rest ts at) f;
      };
      on_line = refl;
      numbered = refl;
      placed = refl;
    })
