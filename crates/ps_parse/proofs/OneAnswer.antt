-- What a refusal's clause gives: the tokens have no tree, and no other refusal is reported of them.
use Rattle.std.proofs.Common.{◌≡◌, ℕ, ◌≤◌, List, [], ◌∷◌, ◌++◌, length, min, take, drop, inl, inr, refl, sym, ap, ◌∙◌}
use Rattle.std.proofs.Common.{subst, arith, append-nil, append_assoc, length-drop}
use Rattle.std.proofs.lemmas.List.{take-append-drop}
use Rattle.ps_text.specs.declared.Span.{Span}
use Rattle.ps_syntax.specs.declared.program.Program.{Program}
use Rattle.ps_parse_grammar.specs.Symbols.{Tokens}
use Rattle.ps_parse_grammar.specs.Trees.{IsTreeOf}
use Rattle.ps_parse.specs.Steps.{stop}
use Rattle.ps_parse.specs.Reading.{reading}
use Rattle.ps_parse.specs.Refusals.{token_line, first_span}
use Rattle.ps_parse.specs.Low.{IsLow, EndsLow}
use Rattle.ps_parse.specs.Untaken.{NoneTakes, IsFault, IsRefusedAt, RefusalsAreOne}
use Rattle.ps_parse.specs.declared.error.ParseFault.{ParseFault}
use Rattle.ps_parse.specs.declared.error.ParseFault.TheVariants.{NotAProgram, TooDeep, NotInProfile}
use Rattle.ps_parse.specs.declared.error.ParseRefusal.TheVariants.{OutOfMemory, Faulty}
use Rattle.ps_parse.proofs.Decided.{alone, place, looks}
use Rattle.ps_parse.proofs.Opening.{is_low, low_ends}

module _ (text : List ℕ) where
  none_of : (before behind ts : Tokens) → NoneTakes text before behind → before ++ behind ≡ ts → (p : Program)
      → IsTreeOf text ts p → ⊥
  none_of before [] ts never e p t = never p (subst (λ (z : Tokens). IsTreeOf text z p) (sym e ∙ append-nil before) t)
  none_of before (u ∷ behind) ts never e p t = never behind p (subst (λ (z : Tokens). IsTreeOf text z p) (sym e) t)

  pub refused_has_none : (ts : Tokens) (at : ℕ) (fault : ParseFault) → IsRefusedAt text ts at fault → (p : Program)
      → IsTreeOf text ts p → ⊥
  refused_has_none ts at fault r p t = none_of (take at ts) (drop at ts) ts r.untaken (take-append-drop at ts) p t

  -- what is low extends no further than the first token that ends it
  no_further : (c r d q : Tokens) → c ++ r ≡ d ++ q → IsLow text c → EndsLow text d q → length q ≤ length r
  no_further c r d q e low ends =
      elim (place (reading text 500) (looks text 500) c r d q e) [
        | inl l ↦ l
        | inr w ↦ (let shorter : stop (reading text 500 ((d ++ w.0 ∷ []) ++ w.1))
            ≡ 0 = ap (λ (z : Tokens). stop (reading text 500 z)) (append_assoc d (w.0 ∷ []) w.1 ∙ sym w.3)
            ∙ low_ends text 500 c low in
            absurd (subst (EndsLow text d) w.2 ends
            (is_low text 500 (d ++ w.0 ∷ []) (alone (reading text 500) (looks text 500) (d ++ w.0 ∷ []) w.1
            (omega (arith, shorter))))))
      ]

  one_place : (ts : Tokens) (a b : ℕ) (f g : ParseFault) → IsRefusedAt text ts a f → IsRefusedAt text ts b g → a ≡ b
  one_place ts a b f g x y =
      let first = no_further (take b ts) (drop b ts) (take a ts) (drop a ts)
      (take-append-drop b ts ∙ sym (take-append-drop a ts)) y.low x.ends_low in
      let second = no_further (take a ts) (drop a ts) (take b ts) (drop b ts)
      (take-append-drop a ts ∙ sym (take-append-drop b ts)) x.low y.ends_low in
      omega (arith, first, second, length-drop a ts, length-drop b ts, x.within, y.within)

  one_fault : (before behind : Tokens) (f g : ParseFault) → IsFault text before behind f → IsFault text before behind g
      → f ≡ g
  one_fault before behind TooDeep TooDeep x y = refl
  one_fault before behind TooDeep NotInProfile x y = absurd (y.0 x)
  one_fault before behind TooDeep NotAProgram x y = absurd (y.0 x)
  one_fault before behind NotInProfile TooDeep x y = absurd (x.0 y)
  one_fault before behind NotInProfile NotInProfile x y = refl
  one_fault before behind NotInProfile NotAProgram x y = absurd (y.1 x.1)
  one_fault before behind NotAProgram TooDeep x y = absurd (x.0 y)
  one_fault before behind NotAProgram NotInProfile x y = absurd (x.1 y.1)
  one_fault before behind NotAProgram NotAProgram x y = refl

same_refusal : (f g : ParseFault) (l m s t from to from' to' : ℕ) → f ≡ g → l ≡ m → s ≡ t → from ≡ from' → to ≡ to'
    → Faulty f l s from to ≡ Faulty g m t from' to'
same_refusal f g l m s t from to from' to' a b c d e = rw (a, b, c, d, e) refl

pub one_refusal : RefusalsAreOne
one_refusal text ts OutOfMemory y a b u v = absurd (u refl)
one_refusal text ts (Faulty f l s from to) OutOfMemory a b u v = absurd (v refl)
one_refusal text ts (Faulty f l s from to) (Faulty g m t from' to') a b u v =
    let at : a.at ≡ b.at = one_place text ts a.at b.at f g a.refused b.refused in
    let span = a.placed ∙ ap (λ (n : ℕ). first_span text (drop n ts)) at ∙ sym b.placed in
    same_refusal f g l m s t from to from' to'
    (one_fault text (take b.at ts) (drop b.at ts) f g
    (subst (λ (n : ℕ). IsFault text (take n ts) (drop n ts) f) at a.refused.is_fault) b.refused.is_fault)
    (a.on_line ∙ ap (token_line text ts) at ∙ sym b.on_line)
    (a.numbered ∙ ap (λ (n : ℕ). min n 4294967295) at ∙ sym b.numbered)
    (ap (λ (z : Span). z.from) span)
    (ap (λ (z : Span). z.to) span)
