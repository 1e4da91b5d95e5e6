-- Pieces that are in the words, numbers as words, what instructions read and write.
use Rattle.std.proofs.Common.{◌≡◌, ℕ, suc, ◌+◌, ◌<◌, Bool, true, false, ◌||◌, nat_eq, nat_lt, List, [], ◌∷◌, ◌++◌}
use Rattle.std.proofs.Common.{length, Some, None, ℤ, pos, negsuc, refl, sym, ap, ◌∙◌, subst, arith, IsTrue}
use Rattle.std.proofs.Common.{length-append}
use Rattle.std.proofs.lemmas.Int.{ints}
use Rattle.tac_code.specs.declared.code.Instruction.{Instruction}
use Rattle.tac_code.specs.Numbers.{is_integer}
use Rattle.tac_code.specs.Meaning.{fetch}
use Rattle.tac_code.specs.declared.code.TheConstants.{NUMBER_LIMIT}
use Rattle.tac_code.proofs.Numbers.{eq_same}
use Rattle.risc_alloc.specs.Flow as flow
use Rattle.risc_alloc.specs.Flow.{is_among, is_it, read_by, written_by, next_of}
use Rattle.risc_emit_relation.specs.Context.{Context, reads, leads, Passes, Writes, IsNumber}
use Rattle.risc_emit_relation.proofs.Basics.{eqb_other}
use Rattle.risc_emit_forms.specs.Pieces.{Piece, Stands, Left}

-- ---- pieces

pub stands_front : (c : Context) (words : List ℕ) (at : ℕ) (ps qs : List Piece) → Stands c words at (ps ++ qs)
    → Stands c words at ps
stands_front c words at [] qs h = tt
stands_front c words at (p ∷ ps) qs h = (h.0, h.1, stands_front c words (at + 1) ps qs h.2)

pub stands_back : (c : Context) (words : List ℕ) (at : ℕ) (ps qs : List Piece) → Stands c words at (ps ++ qs)
    → Stands c words (at + length ps) qs
stands_back c words at [] qs h = let e : at ≡ at + 0 = omega arith in subst (λ a. Stands c words a qs) e h
stands_back c words at (p ∷ ps) qs h =
    let e : at + 1 + length ps ≡ at + suc (length ps) = omega arith in
    subst (λ a. Stands c words a qs) e (stands_back c words (at + 1) ps qs h.2)

-- what is left after a line of pieces, and after one
pub left_after : (c : Context) (words : List ℕ) (at at' next : ℕ) (ps qs : List Piece) → Left c words at (ps ++ qs) next
    → at' ≡ at + length ps → Left c words at' qs next
left_after c words at at' next ps qs l e =
    let n = length-append ps qs in
    record {
      stands = subst (λ a. Stands c words a qs) (sym e) (stands_back c words at ps qs l.stands);
      ends = omega (arith, l.ends, e, n);
    }

pub left_next : (c : Context) (words : List ℕ) (at next : ℕ) (p : Piece) (qs : List Piece) → Left c words at
    (p ∷ qs) next → Left c words (at + 1) qs next
left_next c words at next p qs l = record { stands = l.stands.2; ends = omega (arith, l.ends) }

pub left_front : (c : Context) (words : List ℕ) (at next : ℕ) (ps qs : List Piece) → Left c words at (ps ++ qs) next
    → Left c words at ps (at + length ps)
left_front c words at next ps qs l = record { stands = stands_front c words at ps qs l.stands; ends = refl }

pub left_at : (c : Context) (words : List ℕ) (at at' next : ℕ) (ps : List Piece) → Left c words at ps next → at' ≡ at
    → Left c words at' ps next
left_at c words at at' next ps l e = subst (λ a. Left c words a ps next) (sym e) l

-- ---- reading and writing

pub among_first : (u : ℕ) (ts : List ℕ) → is_among u (u ∷ ts) ≡ true
among_first u ts = rw (eq_same u) refl

pub among_rest : (u t : ℕ) (ts : List ℕ) → is_among u ts ≡ true → is_among u (t ∷ ts) ≡ true
among_rest u t ts e = or_true (nat_eq u t) (is_among u ts) e
  where
    or_true : (a b : Bool) → b ≡ true → a || b ≡ true
    or_true true b e = refl
    or_true false b e = e

module _ (c : Context) (r k : ℕ) (i : Instruction) (here : fetch c.code r k ≡ Some i) where
  pub is_read : (u : ℕ) → is_among u (read_by i) ≡ true → reads c r k u ≡ true
  is_read u e = ap (λ o. flow.reads o u) here ∙ e

  pub is_led : (k' : ℕ) → is_among k' (next_of i k) ≡ true → leads c r k k' ≡ true
  is_led k' e = ap (λ o. flow.leads o k k') here ∙ e

  pub passes : (k' : ℕ) → written_by i ≡ None → is_among k' (next_of i k) ≡ true → Passes c r k k'
  passes k' none e =
      record { there = is_led k' e; none = λ u. ap (λ o. flow.writes o u) here ∙ ap (is_it u) none }

  pub writes_it : (t : ℕ) → written_by i ≡ Some t → next_of i k ≡ suc k ∷ [] → Writes c r k t
  writes_it t some next =
      record {
        next = is_led (suc k) (ap (is_among (suc k)) next ∙ among_first (suc k) []);
        here = ap (λ o. flow.writes o t) here ∙ ap (is_it t) some ∙ eq_same t;
        only = λ u ne. ap (λ o. flow.writes o u) here ∙ ap (is_it u) some ∙ eqb_other u t ne;
      }

-- ---- numbers

pub integer_is : (z : ℤ) → IsTrue (is_integer z) → IsNumber z
integer_is (pos n) h = let lt : n < NUMBER_LIMIT = by_test n NUMBER_LIMIT h
    in (omega (arith, ints, lt), omega (arith, ints, lt))
  where
    by_test : (a b : ℕ) → IsTrue (nat_lt a b) → a < b
    by_test a b h = grind arith
integer_is (negsuc n) h = let lt : n < NUMBER_LIMIT = by_test n NUMBER_LIMIT h
    in (omega (arith, ints, lt), omega (arith, ints, lt))
  where
    by_test : (a b : ℕ) → IsTrue (nat_lt a b) → a < b
    by_test a b h = grind arith
