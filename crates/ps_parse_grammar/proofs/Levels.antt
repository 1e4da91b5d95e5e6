-- Symbols at two levels: what derives at the first is at most k high, and what is at most n high derives at the second
-- too.
use Rattle.std.proofs.Common.{ℕ, ◌≤◌, List, map, arith}
use Rattle.ps_scan.specs.declared.token.Kind.{Kind}
use Rattle.ps_syntax.specs.Height.{greatest}
use Rattle.ps_parse_grammar.specs.Symbols.{Tokens, Symbol, nothing, Many, none, more, Separated, one, several}
use Rattle.ps_parse_grammar.specs.Symbols.{Terminated, exactly, trailing}
use Rattle.ps_parse_grammar.specs.Programs.{IsPart, without, filled}

pub record Level {T : Type 0} (S : Symbol T) (h : T → ℕ) (k n : ℕ) (S' : Symbol T) : Type 0 where
  pub bounded : (x : T) (ts r : Tokens) → S x ts r → h x ≤ k
  pub lowers : (x : T) (ts r : Tokens) → S x ts r → h x ≤ n → S' x ts r

-- where nothing derives
pub no_level : {T : Type 0} (h : T → ℕ) (k n : ℕ) (S' : Symbol T) → Level nothing h k n S'
no_level h k n S' = record { bounded = λ x ts r d. absurd d; lowers = λ x ts r d le. absurd d }

-- where what derives has no height
pub flat_level : {T : Type 0} (S : Symbol T) (k n : ℕ) → Level S (λ _. 0) k n S
flat_level S k n = record { bounded = λ x ts r d. omega arith; lowers = λ x ts r d le. d }

abbrev pub greatest_of : {T : Type 0} → (T → ℕ) → List T → ℕ
greatest_of h xs = greatest (map h xs)

module _ {T : Type 0} (S S' : Symbol T) (h : T → ℕ) (k n : ℕ) (l : Level S h k n S') where
  many_bounded : (xs : List T) (ts r : Tokens) → Many S xs ts r → greatest_of h xs ≤ k
  many_bounded xs ts r none = omega arith
  many_bounded xs ts r (more {x = x} {xs = ys} {m = m} d ds) = omega (arith, l.bounded x ts m d, many_bounded ys m r ds)

  many_lowers : (xs : List T) (ts r : Tokens) → Many S xs ts r → greatest_of h xs ≤ n → Many S' xs ts r
  many_lowers xs ts r none le = none
  many_lowers xs ts r (more {x = x} {xs = ys} {m = m} d ds) le = more (l.lowers x ts m d (omega (arith, le)))
      (many_lowers ys m r ds (omega (arith, le)))

  pub many_level : Level (Many S) (greatest_of h) k n (Many S')
  many_level = record { bounded = many_bounded; lowers = many_lowers }

  module _ (separator : Kind) where
    separated_bounded : (xs : List T) (ts r : Tokens) → Separated separator S xs ts r → greatest_of h xs ≤ k
    separated_bounded xs ts r (one {x = x} d) = omega (arith, l.bounded x ts r d)
    separated_bounded xs ts r (several {x = x} {xs = ys} {m = m} d ds) = omega
        (arith, l.bounded x ts _ d, separated_bounded ys m r ds)

    separated_lowers : (xs : List T) (ts r : Tokens) → Separated separator S xs ts r → greatest_of h xs ≤ n
        → Separated separator S' xs ts r
    separated_lowers xs ts r (one {x = x} d) le = one (l.lowers x ts r d (omega (arith, le)))
    separated_lowers xs ts r (several {x = x} {xs = ys} {m = m} d ds) le = several
        (l.lowers x ts _ d (omega (arith, le))) (separated_lowers ys m r ds (omega (arith, le)))

    pub separated_level : Level (Separated separator S) (greatest_of h) k n (Separated separator S')
    separated_level = record { bounded = separated_bounded; lowers = separated_lowers }

    terminated_bounded : (xs : List T) (ts r : Tokens) → Terminated separator S xs ts r → greatest_of h xs ≤ k
    terminated_bounded xs ts r (exactly d) = separated_bounded xs ts r d
    terminated_bounded xs ts r (trailing d) = separated_bounded xs ts _ d

    terminated_lowers : (xs : List T) (ts r : Tokens) → Terminated separator S xs ts r → greatest_of h xs ≤ n
        → Terminated separator S' xs ts r
    terminated_lowers xs ts r (exactly d) le = exactly (separated_lowers xs ts r d le)
    terminated_lowers xs ts r (trailing d) le = trailing (separated_lowers xs ts _ d le)

    pub terminated_level : Level (Terminated separator S) (greatest_of h) k n (Terminated separator S')
    terminated_level = record { bounded = terminated_bounded; lowers = terminated_lowers }

  module _ (word : Kind) where
    part_bounded : (xs : List T) (ts r : Tokens) → IsPart word S xs ts r → greatest_of h xs ≤ k
    part_bounded xs ts r without = omega arith
    part_bounded xs ts r (filled {x = x} {xs = ys} {ts = l'} {m = m} d ds) = omega
        (arith, l.bounded x l' m d, many_bounded ys m r ds)

    part_lowers : (xs : List T) (ts r : Tokens) → IsPart word S xs ts r → greatest_of h xs ≤ n → IsPart word S' xs ts r
    part_lowers xs ts r without le = without
    part_lowers xs ts r (filled {x = x} {xs = ys} {ts = l'} {m = m} d ds) le = filled
        (l.lowers x l' m d (omega (arith, le))) (many_lowers ys m r ds (omega (arith, le)))

    pub part_level : Level (IsPart word S) (greatest_of h) k n (IsPart word S')
    part_level = record { bounded = part_bounded; lowers = part_lowers }
