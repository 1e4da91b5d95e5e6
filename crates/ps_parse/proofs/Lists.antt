-- That reading exactly lasts through lists.
use Rattle.std.proofs.Common.{◌≡◌, ℕ, zero, suc, ◌+◌, ◌<◌, ◌≤◌, Bool, true, false, List, [], ◌∷◌, ◌++◌, length, Option}
use Rattle.std.proofs.Common.{Some, None, Ok, inl, inr, refl, sym, ap, ◌∙◌, subst, arith, append_assoc, append-nil}
use Rattle.std.proofs.Common.{if◌then◌else◌}
use Rattle.ps_text.specs.declared.Span.{Span}
use Rattle.ps_scan.specs.declared.token.Kind.{Kind}
use Rattle.ps_parse_grammar.specs.Symbols.{Tokens, Symbol, token, Many, Separated, Terminated, none, more, one}
use Rattle.ps_parse_grammar.specs.Symbols.{several, exactly, trailing}
use Rattle.ps_parse_grammar.specs.Programs.{IsPart, without, filled}
use Rattle.ps_parse.specs.Steps.{Parser, and_then, if_some, ◌>>=◌, pure, sees, separated, separated_from, many}
use Rattle.ps_parse.specs.Steps.{many_from, terminated, terminated_from, if_begins, part}
use Rattle.ps_parse.proofs.Exact.{Exact, ExactOption, Perhaps, at_last, both_steps, first_part, second_part, eat_found}
use Rattle.ps_parse.proofs.Exact.{eat_missed, eat_sound, look_is}

module _ {A : Type 0} (inner outer : Tokens → Type 0) (S : Symbol A) (p : Parser (Option A))
    (h : ExactOption inner outer S p) where
  pub many_inner : (xs : List A) (ts r : Tokens) → Many S xs ts r → outer r → inner ts
  many_inner xs ts r none o = h.weaker r o
  many_inner xs ts r (more {x = x} {m = m} d ds) o = h.starts x ts m d

  pub many_shrinks : (xs : List A) (ts r : Tokens) → Many S xs ts r → length r + length xs ≤ length ts
  many_shrinks xs ts r none = omega arith
  many_shrinks xs ts r (more {x = x} {xs = ys} {m = m} d ds) = omega (arith, h.shrinks x ts m d, many_shrinks ys m r ds)

  pub many_complete : (n : ℕ) (found xs : List A) (ts r : Tokens) → length xs ≤ n → Many S xs ts r → outer r
      → many_from p n found ts ≡ Ok (found ++ xs, r)
  unfolding many_from
  many_complete zero found xs ts r le none o = ap (λ ys. Ok (ys, r)) (sym (append-nil found))
  many_complete (suc n) found xs ts r le none o = rw (h.absent r o) (ap (λ ys. Ok (ys, r)) (sym (append-nil found)))
  many_complete zero found xs ts r le (more {m = m} d ds) o = absurd (omega arith)
  many_complete (suc n) found xs ts r le (more {x = x} {xs = ys} {m = m} d ds) o = rw
      (h.complete x ts m d (many_inner ys m r ds o))
      (many_complete n (found ++ x ∷ []) ys m r (omega arith) ds o ∙ ap (λ zs. Ok (zs, r))
      (append_assoc found (x ∷ []) ys))

  next_sound : (n : ℕ) (found : List A) (ts m : Tokens) (next : Option A) (ys : List A) (r : Tokens) → p ts ≡ Ok
      (next, m) → if_some next (λ x. many_from p n (found ++ x ∷ [])) (pure found) m ≡ Ok (ys, r)
      → ((found' : List A) (ts' : Tokens) (ys' : List A) (r' : Tokens) → many_from p n found' ts' ≡ Ok (ys', r')
      → (xs : List A) × (ys' ≡ found' ++ xs) × Many S xs ts' r') → (xs : List A) × (ys ≡ found ++ xs) × Many S xs ts r
  next_sound n found ts m None ys r e e' ih = (
    [],
    sym (first_part found ys m r e') ∙ sym (append-nil found),
    subst (λ q. Many S [] ts q)
        (h.sound ts None m e ∙ second_part found ys m r e') none,
  )
  next_sound n found ts m (Some x) ys r e e' ih = let t = ih (found ++ x ∷ []) m ys r e'
      in (x ∷ t.0, t.1 ∙ append_assoc found (x ∷ []) t.0, more (h.sound ts (Some x) m e) t.2)

  pub many_sound : (n : ℕ) (found : List A) (ts : Tokens) (ys : List A) (r : Tokens) → many_from p n found ts ≡ Ok
      (ys, r) → (xs : List A) × (ys ≡ found ++ xs) × Many S xs ts r
  unfolding many_from
  many_sound zero found ts ys r e = (
    [],
    sym (first_part found ys ts r e) ∙ sym (append-nil found),
    subst
        (λ q. Many S [] ts q) (second_part found ys ts r e) none,
  )
  many_sound (suc n) found ts ys r e = let b = both_steps (p ts) _ ys r e in next_sound n found ts b.1 b.0 ys r b.2 b.3
      (many_sound n)

  pub many_exact : Exact outer (Many S) (many p)
  unfolding many
  many_exact = record {
    sound = λ ts ys r e. let t = many_sound (length ts) [] ts ys r e in subst (λ zs. Many S zs ts r) (sym t.1) t.2;
    complete = λ xs ts r d o. many_complete (length ts) [] xs ts r (omega (arith, many_shrinks xs ts r d)) d o;
    shrinks = λ xs ts r d. omega (arith, many_shrinks xs ts r d);
  }

module _ {A : Type 0} (inner outer : Tokens → Type 0) (separator : Kind) (S : Symbol A) (p : Parser A)
    (h : Exact inner S p)
    (between : (at : Span) (m : Tokens) → inner (token separator at ∷ m)) (weaker : (r : Tokens) → outer r → inner r)
    (stops : (r : Tokens) → outer r → sees separator r ≡ false) where
  separated_shrinks : (xs : List A) (ts r : Tokens) → Separated separator S xs ts r → length r + length xs ≤ suc
      (length ts)
  separated_shrinks xs ts r (one {x = x} d) = omega (arith, h.shrinks x ts r d)
  separated_shrinks xs ts r (several {x = x} {xs = ys} {m = m} {at = at} d ds) = omega
      (arith, h.shrinks x ts (token separator at ∷ m) d, separated_shrinks ys m r ds)

  from_stops : (n : ℕ) (found : List A) (r : Tokens) → outer r → separated_from separator p n found r ≡ Ok (found, r)
  unfolding separated_from
  from_stops zero found r o = refl
  from_stops (suc n) found r o = eat_missed separator r _ (stops r o)

  from_complete : (n : ℕ) (found : List A) (at : Span) (xs : List A) (m r : Tokens) → length xs ≤ suc n
      → Separated separator S xs m r → outer r → separated_from separator p (suc n) found (token separator at ∷ m) ≡ Ok
      (found ++ xs, r)
  unfolding separated_from
  from_complete n found at xs m r le (one {x = x} d) o = eat_found separator at m _ ∙ rw
      (h.complete x m r d (weaker r o)) (from_stops n (found ++ x ∷ []) r o)
  from_complete zero found at xs m r le (several d (one d')) o = absurd (omega arith)
  from_complete zero found at xs m r le (several d (several d' ds)) o = absurd (omega arith)
  from_complete (suc n) found at xs m r le (several {x = x} {xs = ys} {m = m'} {at = at'} d ds) o =
      eat_found separator at m _ ∙ rw (h.complete x m (token separator at' ∷ m') d (between at' m'))
      (from_complete n (found ++ x ∷ []) at' ys m' r (omega arith) ds o ∙ ap (λ zs. Ok (zs, r))
      (append_assoc found (x ∷ []) ys))

  from_sound : (n : ℕ) (found : List A) (ts : Tokens) (ys : List A) (r : Tokens) → separated_from separator p n found ts
      ≡ Ok (ys, r) → (xs : List A) × (ys ≡ found ++ xs)
      × ((x : A) (start : Tokens) → S x start ts → Separated separator S (x ∷ xs) start r)
  unfolding separated_from
  from_sound zero found ts ys r e = (
    [],
    sym (first_part found ys ts r e) ∙ sym (append-nil found),
    λ x start d. one
        (subst (λ q. S x start q) (second_part found ys ts r e) d),
  )
  from_sound (suc n) found ts ys r e =
      elim (eat_sound separator ts _ ys r e) [
        | inl w ↦ (let b = both_steps (p w.1) _ ys r w.3 in let t = from_sound n (found ++ b.0 ∷ []) b.1 ys r b.3 in (
          b.0 ∷ t.0,
          t.1 ∙ append_assoc found (b.0 ∷ []) t.0,
          λ x start d. several (subst (λ q. S x start q) w.2 d)
              (t.2 b.0 w.1 (h.sound w.1 b.0 b.1 b.2)),
        ))
        | inr w ↦ (
          [],
          sym (first_part found ys ts r w) ∙ sym (append-nil found),
          λ x start d. one
              (subst (λ q. S x start q) (second_part found ys ts r w) d),
        )
      ]

  separated_complete : (xs : List A) (ts r : Tokens) → Separated separator S xs ts r → outer r
      → separated separator p ts ≡ Ok (xs, r)
  unfolding separated
  separated_complete xs ts r (one {x = x} d) o = rw (h.complete x ts r d (weaker r o))
      (from_stops (length r) (x ∷ []) r o)
  separated_complete xs ts r (several {x = x} {xs = ys} {m = m} {at = at} d ds) o =
      rw (h.complete x ts (token separator at ∷ m) d (between at m))
      (from_complete (length m) (x ∷ []) at ys m r (omega (arith, separated_shrinks ys m r ds)) ds o)

  separated_sound : (ts : Tokens) (ys : List A) (r : Tokens) → separated separator p ts ≡ Ok (ys, r)
      → Separated separator S ys ts r
  unfolding separated
  separated_sound ts ys r e = let b = both_steps (p ts) _ ys r e in let t = from_sound (length b.1)
      (b.0 ∷ []) b.1 ys r b.3 in
      subst (λ zs. Separated separator S zs ts r) (sym t.1) (t.2 b.0 ts (h.sound ts b.0 b.1 b.2))

  pub separated_exact : Exact outer (Separated separator S) (separated separator p)
  separated_exact = record {
    sound = separated_sound;
    complete = separated_complete;
    shrinks = λ xs ts r d. at_most xs ts r d;
  }
    where
      at_most : (xs : List A) (ts r : Tokens) → Separated separator S xs ts r → length r ≤ length ts
      at_most xs ts r (one {x = x} d) = omega (arith, h.shrinks x ts r d)
      at_most xs ts r (several {x = x} {xs = ys} {m = m} {at = at} d ds) = omega
          (arith, h.shrinks x ts (token separator at ∷ m) d, at_most ys m r ds)

pub many_nil : {A : Type 0} (S : Symbol A) (xs : List A) (ts r : Tokens) → Many S xs ts r → xs ≡ [] → ts ≡ r
many_nil S xs ts r none e = refl
many_nil S xs ts r (more d ds) e = cc

-- ---- a separator may come after the last
module _ {A : Type 0} (inner outer : Tokens → Type 0) (separator stop : Kind) (S : Symbol A) (p : Parser A)
    (h : Exact inner S p)
    (between : (at : Span) (m : Tokens) → inner (token separator at ∷ m)) (weaker : (r : Tokens) → outer r → inner r)
    (stops : (r : Tokens) → outer r → sees separator r ≡ false)
    (ended : (r : Tokens) → outer r → sees stop r ≡ true) (begins : (x : A) (ts r : Tokens) → S x ts r →
    sees stop ts ≡ false) where
  run_stops : (n : ℕ) (found : List A) (r : Tokens) → outer r → terminated_from separator stop p n found r ≡ Ok
      (found, r)
  unfolding terminated_from
  run_stops zero found r o = refl
  run_stops (suc n) found r o = eat_missed separator r _ (stops r o)

  run_trails : (n : ℕ) (found : List A) (at : Span) (r : Tokens) → 1 ≤ n → outer r
      → terminated_from separator stop p n found (token separator at ∷ r) ≡ Ok (found, r)
  unfolding terminated_from
  run_trails zero found at r le o = absurd (omega arith)
  run_trails (suc n) found at r le o = eat_found separator at r _ ∙ (look_is stop r _ ∙ rw (ended r o) refl)

  run_complete : (r e : Tokens) (need : ℕ) → inner e
      → ((n : ℕ) (found : List A) → need ≤ n → terminated_from separator stop p n found e ≡ Ok (found, r)) → (n : ℕ)
      (found : List A) (at : Span) (xs : List A) (m : Tokens) → need + length xs ≤ suc n → Separated separator S xs m e
      → terminated_from separator stop p (suc n) found (token separator at ∷ m) ≡ Ok (found ++ xs, r)
  unfolding terminated_from
  run_complete r e need o fin n found at xs m le (one {x = x} d) =
      eat_found separator at m _ ∙ (look_is stop m _ ∙ rw (begins x m e d, h.complete x m e d o)
      (fin n (found ++ x ∷ []) (omega arith)))
  run_complete r e need o fin zero found at xs m le (several d (one d')) = absurd (omega arith)
  run_complete r e need o fin zero found at xs m le (several d (several d' ds)) = absurd (omega arith)
  run_complete r e need o fin (suc n) found at xs m le (several {x = x} {xs = ys} {m = m'} {at = at'} d ds) =
      eat_found separator at m _ ∙ (look_is stop m _ ∙ rw
      (begins x m _ d, h.complete x m (token separator at' ∷ m') d (between at' m'))
      (run_complete r e need o fin n (found ++ x ∷ []) at' ys m' (omega arith) ds ∙ ap (λ zs. Ok (zs, r))
      (append_assoc found (x ∷ []) ys)))

  separated_count : (xs : List A) (ts r : Tokens) → Separated separator S xs ts r → length r + length xs ≤ suc
      (length ts)
  separated_count xs ts r (one {x = x} d) = omega (arith, h.shrinks x ts r d)
  separated_count xs ts r (several {x = x} {xs = ys} {m = m} {at = at} d ds) = omega
      (arith, h.shrinks x ts (token separator at ∷ m) d, separated_count ys m r ds)

  all_complete : (r e : Tokens) (need : ℕ) → need ≤ length e → inner e
      → ((n : ℕ) (found : List A) → need ≤ n → terminated_from separator stop p n found e ≡ Ok (found, r))
      → (xs : List A) (ts : Tokens) → Separated separator S xs ts e → terminated separator stop p ts ≡ Ok (xs, r)
  unfolding terminated
  all_complete r e need le o fin xs ts (one {x = x} d) = rw (h.complete x ts e d o) (fin (length e) (x ∷ []) le)
  all_complete r e need le o fin xs ts (several {x = x} {xs = ys} {m = m} {at = at} d ds) =
      rw (h.complete x ts (token separator at ∷ m) d (between at m))
      (run_complete r e need o fin (length m) (x ∷ []) at ys m (omega (arith, separated_count ys m e ds)) ds)

  terminated_complete : (xs : List A) (ts r : Tokens) → Terminated separator S xs ts r → outer r
      → terminated separator stop p ts ≡ Ok (xs, r)
  terminated_complete xs ts r (exactly d) o = all_complete r r 0 (omega arith) (weaker r o)
      (λ n found le. run_stops n found r o) xs ts d
  terminated_complete xs ts r (trailing {at = at} d) o = all_complete r (token separator at ∷ r) 1 (omega arith)
      (between at r) (λ n found le. run_trails n found at r le o) xs ts d

  with_front : (x : A) (xs : List A) (start m r : Tokens) (at : Span) → S x start (token separator at ∷ m)
      → Terminated separator S xs m r → Terminated separator S (x ∷ xs) start r
  with_front x xs start m r at d (exactly ds) = exactly (several d ds)
  with_front x xs start m r at d (trailing ds) = trailing (several d ds)

  Run : List A → Tokens → Tokens → Type 0
  Run xs ts r = (x : A) (start : Tokens) → S x start ts → Terminated separator S (x ∷ xs) start r

  end_case : (n : ℕ) (found : List A) (b : Bool) (at : Span) (m : Tokens) (ys : List A) (r : Tokens)
      → (if b then pure found else (p >>= (λ x. terminated_from separator stop p n (found ++ x ∷ [])))) m ≡ Ok (ys, r)
      → ((found' : List A) (ts' : Tokens) (ys' : List A) (r' : Tokens) → terminated_from separator stop p n found' ts'
      ≡ Ok (ys', r') → (xs : List A) × (ys' ≡ found' ++ xs) × Run xs ts' r') → (xs : List A) × (ys ≡ found ++ xs)
      × Run xs (token separator at ∷ m) r
  unfolding Run
  end_case n found true at m ys r e ih = (
    [],
    sym (first_part found ys m r e) ∙ sym
        (append-nil found),
    λ x start d. trailing
        (one (subst (λ q. S x start (token separator at ∷ q)) (second_part found ys m r e) d)),
  )
  end_case n found false at m ys r e ih =
      let b = both_steps (p m) _ ys r e in let t = ih (found ++ b.0 ∷ []) b.1 ys r b.3 in (
        b.0 ∷ t.0,
        t.1 ∙ append_assoc found (b.0 ∷ []) t.0,
        λ x start d. with_front x (b.0 ∷ t.0) start m r at d
            (t.2 b.0 m (h.sound m b.0 b.1 b.2)),
      )

  run_sound : (n : ℕ) (found : List A) (ts : Tokens) (ys : List A) (r : Tokens)
      → terminated_from separator stop p n found ts ≡ Ok (ys, r) → (xs : List A) × (ys ≡ found ++ xs) × Run xs ts r
  unfolding terminated_from Run
  run_sound zero found ts ys r e = (
    [],
    sym (first_part found ys ts r e) ∙ sym (append-nil found),
    λ x start d. exactly
        (one (subst (λ q. S x start q) (second_part found ys ts r e) d)),
  )
  run_sound (suc n) found ts ys r e =
      elim (eat_sound separator ts _ ys r e) [
        | inl w ↦ (let t = end_case n found (sees stop w.1) w.0 w.1 ys r (sym (look_is stop w.1 _) ∙ w.3) (run_sound n)
            in (t.0, t.1, λ x start d. t.2 x start (subst (λ q. S x start q) w.2 d)))
        | inr w ↦ (
          [],
          sym (first_part found ys ts r w) ∙ sym (append-nil found),
          λ x start d. exactly
              (one (subst (λ q. S x start q) (second_part found ys ts r w) d)),
        )
      ]

  terminated_sound : (ts : Tokens) (ys : List A) (r : Tokens) → terminated separator stop p ts ≡ Ok (ys, r)
      → Terminated separator S ys ts r
  unfolding terminated Run
  terminated_sound ts ys r e = let b = both_steps (p ts) _ ys r e in let t = run_sound (length b.1)
      (b.0 ∷ []) b.1 ys r b.3 in
      subst (λ zs. Terminated separator S zs ts r) (sym t.1) (t.2 b.0 ts (h.sound ts b.0 b.1 b.2))

  separated_at_most : (xs : List A) (ts r : Tokens) → Separated separator S xs ts r → length r ≤ length ts
  separated_at_most xs ts r (one {x = x} d) = omega (arith, h.shrinks x ts r d)
  separated_at_most xs ts r (several {x = x} {xs = ys} {m = m} {at = at} d ds) = omega
      (arith, h.shrinks x ts (token separator at ∷ m) d, separated_at_most ys m r ds)

  terminated_shrinks : (xs : List A) (ts r : Tokens) → Terminated separator S xs ts r → length r ≤ length ts
  terminated_shrinks xs ts r (exactly d) = separated_at_most xs ts r d
  terminated_shrinks xs ts r (trailing {at = at} d) = omega (arith, separated_at_most xs ts (token separator at ∷ r) d)

  pub terminated_exact : Exact outer (Terminated separator S) (terminated separator stop p)
  terminated_exact = record { sound = terminated_sound; complete = terminated_complete; shrinks = terminated_shrinks }

-- ---- items that their first token shows
module _ {A : Type 0} (inner outer : Tokens → Type 0) (begins : Tokens → Bool) (S : Symbol A) (p : Parser A)
    (h : Exact inner S p)
    (starts : (x : A) (ts r : Tokens) → S x ts r → begins ts ≡ true)
    (over : (ts : Tokens) → outer ts → begins ts ≡ false) (chain : (x : A) (ts r : Tokens) → S x ts r → inner ts)
    (weaker : (ts : Tokens) → outer ts → inner ts) (strict : (x : A) (ts r : Tokens) → S x ts r → length r < length ts)
  where
    begun : (b : Bool) (ts : Tokens) (o : Option A) (r : Tokens)
        → (if b then and_then (p ts) (λ x. pure (Some x)) else Ok (None, ts)) ≡ Ok (o, r) → Perhaps S o ts r
    begun true ts o r e = let b = both_steps (p ts) _ o r e in at_last (Perhaps S) ts (Some b.0) o b.1 r b.3
        (h.sound ts b.0 b.1 b.2)
    begun false ts o r e = at_last (Perhaps S) ts None o ts r e refl

    option_sound : (ts : Tokens) (o : Option A) (r : Tokens) → if_begins begins p ts ≡ Ok (o, r) → Perhaps S o ts r
    unfolding if_begins
    option_sound ts o r e = begun (begins ts) ts o r e

    option_complete : (x : A) (ts r : Tokens) → S x ts r → inner r → if_begins begins p ts ≡ Ok (Some x, r)
    unfolding if_begins
    option_complete x ts r d o = rw (starts x ts r d, h.complete x ts r d o) refl

    option_absent : (ts : Tokens) → outer ts → if_begins begins p ts ≡ Ok (None, ts)
    unfolding if_begins
    option_absent ts o = rw (over ts o) refl

    pub option_exact : ExactOption inner outer S (if_begins begins p)
    option_exact = record {
      sound = option_sound;
      complete = option_complete;
      absent = option_absent;
      starts = chain;
      weaker = weaker;
      shrinks = strict;
    }

    -- a part of a block
    module _ (word : Kind) (after : Tokens → Type 0) (no_word : (r : Tokens) → after r → sees word r ≡ false)
        (ended : (r : Tokens) → after r → outer r) where
      part_sound : (ts : Tokens) (ys : List A) (r : Tokens) → part word begins p ts ≡ Ok (ys, r) → IsPart word S ys ts r
      unfolding part
      part_sound ts ys r e =
          elim (eat_sound word ts _ ys r e) [
            | inl w ↦ (let b = both_steps (p w.1) _ ys r w.3 in
                let t = many_sound inner outer S (if_begins begins p) option_exact (length b.1) (b.0 ∷ []) b.1 ys r b.3 in
                subst (λ z. IsPart word S ys z r) (sym w.2)
                (subst (λ zs. IsPart word S zs (token word w.0 ∷ w.1) r) (sym t.1)
                (filled (h.sound w.1 b.0 b.1 b.2) t.2)))
            | inr w ↦ at_last (IsPart word S) ts [] ys ts r w without
          ]

      part_complete : (xs : List A) (ts r : Tokens) → IsPart word S xs ts r → after r → part word begins p ts ≡ Ok (xs, r)
      unfolding part
      part_complete xs ts r without o = eat_missed word r _ (no_word r o)
      part_complete xs ts r (filled {at = at} {x = x} {xs = ys} {ts = l} {m = m} d ds) o =
          eat_found word at l _ ∙ rw (h.complete x l m d
          (many_inner inner outer S (if_begins begins p) option_exact ys m r ds (ended r o)))
          (many_complete inner outer S (if_begins begins p) option_exact (length m) (x ∷ []) ys m r
          (omega (arith, many_shrinks inner outer S (if_begins begins p) option_exact ys m r ds)) ds (ended r o))

      part_shrinks : (xs : List A) (ts r : Tokens) → IsPart word S xs ts r → length r ≤ length ts
      part_shrinks xs ts r without = omega arith
      part_shrinks xs ts r (filled {x = x} {xs = ys} {ts = l} {m = m} d ds) = omega
          (arith, strict x l m d, many_shrinks inner outer S (if_begins begins p) option_exact ys m r ds)

      pub part_exact : Exact after (IsPart word S) (part word begins p)
      part_exact = record { sound = part_sound; complete = part_complete; shrinks = part_shrinks }
