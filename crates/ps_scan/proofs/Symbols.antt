-- Symbols: the code's two steps find what the table has.
use Rattle.std.proofs.Common.{◌≡◌, ◌≢◌, ℕ, Bool, true, false, cond, not, ◌==◌, ◌||◌, ◌&&◌, List, [], ◌∷◌, length}
use Rattle.std.proofs.Common.{Option, Some, None, Ok, slice_index, refl, sym, ap, ◌∙◌, subst}
use Rattle.std.proofs.lemmas.Bool.{and_parts}
use Rattle.std.proofs.lemmas.Slice.Eq.{bytes_eq-Decides}
use Rattle.std.specs.Char.{is_ascii_alphanumeric}
use Rattle.std.specs.List.{list_all}
use Rattle.std.specs.Map.{lookup}
use Rattle.std.specs.Prelude.{nat_le}
use Rattle.std.specs.Str.{bytes_eq}
use Rattle.std.proofs.Math.Bool.{and-false}
use Rattle.ps_scan.specs.declared.refusal.ScanFault.TheVariants as fault
use Rattle.ps_scan.specs.declared.token.Kind.{Kind}
use Rattle.ps_scan.specs.Scanner.{Finding, fault_of, pair, single, symbol, symbol_of, token_of}
use Rattle.ps_scan.specs.Separators.{is_blank}
use Rattle.ps_scan.specs.Tables.{Bytes, Spelling, symbols, symbol_kind}

-- what is true of each spelling of a table is true of one that is found in it
lookup_passes : (q : Bytes → Bool) (es : List Spelling) (u : Bytes) (kind : Kind) → list_all (λ e. q e.0) es ≡ true
    → lookup (bytes_eq u) es ≡ Some kind → q u ≡ true
lookup_passes q [] u kind each found = cc
lookup_passes q (e ∷ es) u kind each found =
    let parts = and_parts (q e.0) (list_all (λ e. q e.0) es) each in
    elim (bytes_eq u e.0) as (λ v. bytes_eq u e.0 ≡ v → cond v (Some e.1) (lookup (bytes_eq u) es) ≡ Some kind → q u
    ≡ true) [
      | true ↦ λ same _. subst (λ z. q z ≡ true) (sym ((bytes_eq-Decides u e.0).0 same)) parts.0
      | false ↦ λ _ later. lookup_passes q es u kind parts.1 later
    ] refl found

-- a byte that begins no word, number, string, blank or comment in braces
abbrev pub is_other : ℕ → Bool
is_other b = not (is_ascii_alphanumeric b || (b == 39 || (is_blank b || b == 123)))

pub symbol_first : (u : Bytes) (kind : Kind) → symbol_kind u ≡ Some kind → is_other (slice_index u 0) ≡ true
unfolding symbol_kind
symbol_first u kind found = lookup_passes (λ w. is_other (slice_index w 0)) symbols u kind refl found

pub symbol_short : (u : Bytes) (kind : Kind) → symbol_kind u ≡ Some kind
    → (nat_le 1 (length u) && nat_le (length u) 2) ≡ true
unfolding symbol_kind
symbol_short u kind found = lookup_passes (λ w. nat_le 1 (length w) && nat_le (length w) 2) symbols u kind refl found

and_true : (x : Bool) → (x && true) ≡ x
and_true true = refl
and_true false = refl

pub pair_is : (a b : ℕ) → symbol_kind (a ∷ b ∷ []) ≡ pair a b
unfolding symbol_kind pair
pair_is a b = simp (and_true, and-false)

pub single_is : (a : ℕ) → symbol_kind (a ∷ []) ≡ single a
unfolding symbol_kind single
single_is a = simp (and_true, and-false)

pub pair_nil : (a : ℕ) → pair a 0 ≡ None
unfolding pair
pair_nil a = simp and-false

-- a byte begins a symbol exactly where it is one
abbrev is_some_kind : Option Kind → Bool
is_some_kind None = false
is_some_kind (Some kind) = true

pub symbol_begins : (u : Bytes) (kind : Kind) → symbol_kind u ≡ Some kind → single (slice_index u 0) ≢ None
unfolding symbol_kind single
symbol_begins u kind found none =
    let is : is_some_kind (single (slice_index u 0)) ≡ true =
    lookup_passes (λ w. is_some_kind (single (slice_index w 0))) symbols u kind refl found in
    let same = ap is_some_kind none in
    cc

-- the symbol at the front: one of two bytes, or else one of one byte
pub data AtSymbol : Bytes → Finding → Type 0 where
  two : {a b : ℕ} {bs : Bytes} {kind : Kind} → pair a b ≡ Some kind → AtSymbol (a ∷ b ∷ bs) (Ok (token_of 2 kind))
  one : {a : ℕ} {bs : Bytes} {kind : Kind} → pair a (slice_index bs 0) ≡ None → single a ≡ Some kind
      → AtSymbol (a ∷ bs) (Ok (token_of 1 kind))
  neither : {a : ℕ} {bs : Bytes} → single a ≡ None → AtSymbol (a ∷ bs) (fault_of fault.BadByte 0 1)

at_symbol : (a : ℕ) (bs : Bytes) (first second : Option Kind) → pair a (slice_index bs 0) ≡ first → single a ≡ second
    → AtSymbol (a ∷ bs) (symbol_of first second)
at_symbol a [] (Some kind) second e e' = let no = pair_nil a in cc
at_symbol a (b ∷ bs) (Some kind) second e e' = two e
at_symbol a bs None (Some kind) e e' = one e e'
at_symbol a bs None None e e' = neither e'

pub symbol_sound : (a : ℕ) (bs : Bytes) → AtSymbol (a ∷ bs) (symbol (a ∷ bs))
unfolding symbol
symbol_sound a bs = at_symbol a bs _ _ refl refl

pub symbol_two : (a b : ℕ) (bs : Bytes) (kind : Kind) → symbol_kind (a ∷ b ∷ []) ≡ Some kind
    → symbol (a ∷ b ∷ bs) ≡ Ok (token_of 2 kind)
unfolding symbol
symbol_two a b bs kind found = let e : pair a b ≡ Some kind = sym (pair_is a b) ∙ found in rw e refl

pub symbol_one : (a : ℕ) (bs : Bytes) (kind : Kind) → symbol_kind (a ∷ []) ≡ Some kind
    → pair a (slice_index bs 0) ≡ None → symbol (a ∷ bs) ≡ Ok (token_of 1 kind)
unfolding symbol
symbol_one a bs kind found alone = let e : single a ≡ Some kind = sym (single_is a) ∙ found in rw (alone, e) refl

-- what begins no symbol is none
pub symbol_none : (a : ℕ) (bs : Bytes) → ((u : Bytes) (kind : Kind) → symbol_kind (a ∷ u) ≡ Some kind → ⊥)
    → symbol (a ∷ bs) ≡ fault_of fault.BadByte 0 1
unfolding symbol
symbol_none a bs never = rw (no_pair a bs _ refl never, no_single a _ refl never) refl
  where
    no_single : (a : ℕ) (second : Option Kind) → single a ≡ second
        → ((u : Bytes) (kind : Kind) → symbol_kind (a ∷ u) ≡ Some kind → ⊥) → single a ≡ None
    no_single a None e never = e
    no_single a (Some kind) e never = absurd (never [] kind (single_is a ∙ e))

    no_pair : (a : ℕ) (bs : Bytes) (first : Option Kind) → pair a (slice_index bs 0) ≡ first
        → ((u : Bytes) (kind : Kind) → symbol_kind (a ∷ u) ≡ Some kind → ⊥)
        → pair a (slice_index bs 0) ≡ None
    no_pair a bs None e never = e
    no_pair a [] (Some kind) e never = pair_nil a
    no_pair a (b ∷ bs) (Some kind) e never = absurd (never (b ∷ []) kind (pair_is a b ∙ e))
