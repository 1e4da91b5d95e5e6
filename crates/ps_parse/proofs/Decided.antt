-- The reading of a level shows whether some tokens begin a program of any height, if those before the last ones were
-- read by a lower level.
use Rattle.std.proofs.Common.{◌≡◌, ◌≢◌, ℕ, zero, suc, ◌+◌, ◌-◌, ◌≤◌, List, [], ◌∷◌, ◌++◌, length, Ok, Err, ◌⊎◌, inl}
use Rattle.std.proofs.Common.{inr, refl, sym, ap, ◌∙◌, subst, arith, append_assoc, append-nil, length-append}
use Rattle.std.proofs.lemmas.List.{take_all}
use Rattle.ps_scan.specs.declared.token.Token.{Token}
use Rattle.ps_syntax.specs.declared.program.Program.{Program}
use Rattle.ps_parse_grammar.specs.Symbols.{Tokens}
use Rattle.ps_parse_grammar.specs.Programs.{DerivesWithin}
use Rattle.ps_parse_grammar.specs.Forward.{is_forward}
use Rattle.ps_parse_grammar.proofs.ProgramLevels.{within_is_low, low_is_within}
use Rattle.ps_parse.specs.Steps.{Outcome, Parser, stop, first}
use Rattle.ps_parse.specs.Reading.{reading}
use Rattle.ps_parse.specs.Begun.{Begins, BeginsUntil}
use Rattle.ps_parse.proofs.Local.{Local}
use Rattle.ps_parse.proofs.LocalPrograms.{local_block, local_program}
use Rattle.ps_parse.proofs.ExactPrograms.{derived_is_read}
use Rattle.ps_parse.proofs.ViableWhole.{refused_begins, left_begins}
use Rattle.ps_parse.proofs.Rising.{Rise, level, risen, rising}
use Rattle.ps_parse.proofs.RisingLevels.{above, program_rises}

-- ---- what is read of tokens depends on those before the place where it stops
module _ {A : Type 0} (p : Parser A) (h : Local p) where
  -- the tokens that a rest leaves begin with the same one, if there are any
  same_first : (c r : Tokens) → length c ≢ 0 → first (c ++ r) ≡ first c
  same_first [] r ne = absurd (ne refl)
  same_first (t ∷ c) r ne = refl

  stop_is : (o o' : Outcome A) → o ≡ o' → stop o ≡ stop o'
  stop_is o o' e = ap stop e

  -- where some tokens are read to their end among others, they are alone
  alone_at : (c r : Tokens) (o : Outcome A) → p c ≡ o → stop (p (c ++ r)) ≤ length r → stop o ≡ 0
  alone_at c r (Ok (x, [])) e l = refl
  alone_at c r (Ok (x, t ∷ q)) e l =
      let one = h.reads c x (t ∷ q) e in
      let more : p (c ++ r) ≡ Ok (x, (t ∷ q) ++ r) = ap p
      (ap (λ (z : Tokens). z ++ r) one.1 ∙ append_assoc one.0 (t ∷ q) r) ∙ one.2 ((t ∷ q) ++ r) refl in
      absurd (omega (arith, l, stop_is _ _ more, length-append (t ∷ q) r))
  alone_at c r (Err zero) e l = refl
  alone_at c r (Err (suc n)) e l =
      let one = h.refuses c (suc n) e in
      let more : p (c ++ r) ≡ Err (length (one.1 ++ r)) = ap p
      (ap (λ (z : Tokens). z ++ r) one.2 ∙ append_assoc one.0 one.1 r) ∙ one.4 (one.1 ++ r)
      (same_first one.1 r (λ z. omega (arith, one.3, z))) in
      absurd (omega (arith, l, stop_is _ _ more, one.3, length-append one.1 r))

  pub alone : (c r : Tokens) → stop (p (c ++ r)) ≤ length r → stop (p c) ≡ 0
  alone c r l = alone_at c r (p c) refl l

  -- where the tokens after the place where it stopped begin: in the rest, or with a token before it
  abbrev pub Place : Tokens → Tokens → Tokens → Tokens → Type 0
  Place c r d q = (length q ≤ length r) ⊎ ((t : Token) × (m : Tokens) × (q ≡ (t ∷ m) ++ r) × (c ≡ d ++ t ∷ m))

  pub place : (c r d q : Tokens) → c ++ r ≡ d ++ q → Place c r d q
  place [] r d q e = inl (omega (arith, ap length e, length-append d q))
  place (t ∷ c) r [] q e = inr (t, c, sym e, refl)
  place (t ∷ c) r (u ∷ d) q e =
      elim (place c r d q (ap tail e)) [
        | inl l ↦ inl l
        | inr w ↦ inr (
          w.0,
          w.1,
          w.2,
          ap (λ (z : Tokens). t ∷ z) w.3 ∙ ap (λ (z : Token). z ∷ (d ++ w.0 ∷ w.1))
              (ap (head t) e),
        )
      ]
    where
      tail : Tokens → Tokens
      tail [] = []
      tail (x ∷ ts) = ts

      head : Token → Tokens → Token
      head x [] = x
      head x (y ∷ ts) = y

  among_at : (c r : Tokens) (o : Outcome A) → p (c ++ r) ≡ o → stop (p c) ≡ 0 → stop o ≤ length r
  among_at c r (Ok (x, q)) e z =
      let one = h.reads (c ++ r) x q e in
      elim (place c r one.0 q one.1) [
        | inl l ↦ l
        | inr w ↦ (let more : p c ≡ Ok (x, w.0 ∷ w.1) = ap p w.3 ∙ one.2 (w.0 ∷ w.1) (sym (ap first w.2)) in absurd
            (omega (arith, z, stop_is _ _ more)))
      ]
  among_at c r (Err n) e z =
      let one = h.refuses (c ++ r) n e in
      elim (place c r one.0 one.1 one.2) [
        | inl l ↦ omega (arith, l, one.3)
        | inr w ↦ (let more : p c ≡ Err (length (w.0 ∷ w.1)) = ap p w.3 ∙ one.4 (w.0 ∷ w.1) (sym (ap first w.2))
            in absurd (omega (arith, z, stop_is _ _ more)))
      ]

  -- and tokens that are read to their end alone, are among others
  pub among : (c r : Tokens) → stop (p c) ≡ 0 → stop (p (c ++ r)) ≤ length r
  among c r z = among_at c r (p (c ++ r)) refl z

-- ---- one token more
module _ (text : List ℕ) where
  pub looks : (n : ℕ) → Local (reading text n)
  looks n = local_program (is_forward text) _ (local_block (is_forward text) n)

  -- what is read to its end begins a program
  to_the_end : (c : Tokens) (k : ℕ) → k ≡ 0 → BeginsUntil text c (length c - k) → Begins text c
  to_the_end c k z b = subst (λ (m : Tokens). Begins text m) (take_all (length c - k) c (omega (arith, z))) b

  pub ends_begins : (n : ℕ) (c : Tokens) (o : Outcome Program) → reading text n c ≡ o → stop o ≡ 0 → Begins text c
  ends_begins n c (Ok (x, q)) e z = to_the_end c (length q) z (left_begins text n c x q e)
  ends_begins n c (Err k) e z = to_the_end c k z (refused_begins text n c k e)

  pub above_least : (n d : ℕ) → d ≤ above n d
  above_least zero d = omega arith
  above_least (suc n) d = omega (arith, above_least n d)

  -- what derives within some levels is read by a level that is high enough
  is_read : (n m : ℕ) (ts : Tokens) (p : Program) → DerivesWithin (is_forward text) m ts p → reading text
      (suc (above n m)) ts ≡ Ok (p, [])
  is_read n m ts p d =
      let low = within_is_low (is_forward text) m ts p d in
      derived_is_read (is_forward text) (suc (above n m)) ts p
      (low_is_within (is_forward text) (suc (above n m)) ts p (low.0, omega (arith, low.1, above_least n m)))

  -- where two levels refuse the last of some tokens alike, all above them do
  stuck : {A : Type 0} {k : ℕ} {a b o : Outcome A} → Rise A k a b o → stop a ≤ 1 → stop b ≢ 0 → stop o ≢ 0
  stuck (level a l) s ne = ne
  stuck (risen k a l i) s ne = ne
  stuck (rising k j a l i m) s ne = absurd (ne (omega (arith, s, i)))

  pub no_more : (n : ℕ) (c : Tokens) (t : Token) → stop (reading text n c) ≡ 0 → stop
      (reading text (suc n) (c ++ t ∷ [])) ≢ 0 → Begins text (c ++ t ∷ []) → ⊥
  no_more n c t z ne b =
      let whole : reading text (suc (above n b.2.0)) ((c ++ t ∷ []) ++ b.0) ≡ Ok (b.1, []) = is_read n b.2.0
      ((c ++ t ∷ []) ++ b.0) b.1 b.2.1 in
      let high : stop (reading text (suc (above n b.2.0)) (c ++ t ∷ [])) ≡ 0 = alone
      (reading text (suc (above n b.2.0))) (looks (suc (above n b.2.0))) (c ++ t ∷ []) b.0
      (omega (arith, ap stop whole)) in
      stuck ((program_rises (is_forward text) b.2.0 n).at (c ++ t ∷ []))
      (among (reading text n) (looks n) c (t ∷ []) z) ne high

  plus_one : (n : ℕ) (w : Tokens) → n + suc (length w) ≡ suc n + length w
  plus_one n w = omega arith

  one_by_one : (c w : Tokens) (t : Token) → (c ++ t ∷ []) ++ w ≡ c ++ t ∷ w
  one_by_one c w t = append_assoc c (t ∷ []) w

  pub zero_or_not : (n : ℕ) → (n ≡ 0) ⊎ (n ≢ 0)
  zero_or_not zero = inl refl
  zero_or_not (suc n) = inr (λ e. omega (arith, e))

  -- as many more tokens as levels
  pub none_more : (w : Tokens) (n : ℕ) (c : Tokens) → stop (reading text n c) ≡ 0 → stop
      (reading text (n + length w) (c ++ w)) ≢ 0 → Begins text (c ++ w) → ⊥
  none_more [] n c z ne b = ne (ap (λ (m : ℕ). stop (reading text m (c ++ []))) (omega arith)
      ∙ ap (λ (q : Tokens). stop (reading text n q)) (append-nil c) ∙ z)
  none_more (t ∷ w) n c z ne b =
      elim (zero_or_not (stop (reading text (suc n) (c ++ t ∷ [])))) [
        | inl e ↦ none_more w (suc n) (c ++ t ∷ []) e
            (λ i. ne (ap (λ (m : ℕ). stop (reading text m (c ++ t ∷ w))) (plus_one n w)
            ∙ ap (λ (q : Tokens). stop (reading text (suc n + length w) q)) (sym (one_by_one c w t)) ∙ i))
            (subst (λ (q : Tokens). Begins text q) (sym (one_by_one c w t)) b)
        | inr i ↦ no_more n c t z i (
          w ++ b.0,
          b.1,
          (
            b.2.0,
            subst (λ (q : Tokens). DerivesWithin (is_forward text) b.2.0 q b.1)
                (ap (λ (q : Tokens). q ++ b.0) (sym (one_by_one c w t)) ∙ append_assoc (c ++ t ∷ []) w b.0) b.2.1,
          ),
        )
      ]
