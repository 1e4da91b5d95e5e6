-- Where a component lies: its lowest index taken into an offset, or into what a register is short of.
use Rattle.std.proofs.Common.{◌≡◌, ◌≢◌, ℕ, zero, suc, ◌+◌, ◌*◌, ◌^◌, ◌<◌, Bool, true, false, cond, not, ◌&&◌, ◌-◌, ◌≤◌}
use Rattle.std.proofs.Common.{nat_eq, nat_le, nat_lt, [], Some, ℤ, pos, negsuc, neg_ℤ, refl, sym, ap, ◌∙◌, arith}
use Rattle.std.proofs.Common.{Option, None}
use Rattle.std.specs.Prelude.{int_lt, ◌≤ℤ◌}
use Rattle.std.proofs.lemmas.Int.{ints}
use Rattle.std.proofs.lemmas.Bool.{leb-true, ltb-true}
use Rattle.risc_machine.specs.declared.limits.TheConstants.{ADDRESSES}
use Rattle.risc_machine_laws.specs.View.{reached}
use Rattle.tac_code.specs.declared.code.Base.{Base}
use Rattle.tac_code.specs.declared.code.Base.TheVariants as base
use Rattle.tac_code.specs.Numbers.{steps_above, is_in_range}
use Rattle.tac_code.specs.declared.code.TheConstants.{NUMBER_LIMIT}
use Rattle.tac_code.proofs.Numbers.{at_least}
use Rattle.risc_emit_relation.specs.Context.{Context}
use Rattle.risc_emit_forms.specs.Forms.{base_register, near_code, near_register}
use Rattle.risc_emit_forms.specs.Peephole.{block_at, fold_near, fold_by, fold_in, back_by, back, short_by, near_of}
use Rattle.risc_emit_forms.specs.Peephole.{folded}
use Rattle.risc_emit_forms.proofs.Ranges.{steps_are}

-- ---- the lowest index in an offset

-- what is left of the offset of a block where its lowest index is taken from it
pub record Folded (c : Context) (r : ℕ) (a : Base) (low high : ℤ) (width error n : ℕ) : Type 0 where
  pub first : ℕ
  pub last : ℕ
  pub whole : ℕ
  pub none : nat_eq error 0 ≡ true
  pub low_is : low ≡ pos first
  pub high_is : high ≡ pos last
  pub block : block_at c r a ≡ Some whole
  pub rest : n + first * width ≡ whole
  pub narrow : last * width < NUMBER_LIMIT

near_is : (k h width m n : ℕ) → fold_near k h width m ≡ Some n → (n + k * width ≡ m) × (h * width < NUMBER_LIMIT)
near_is k h width m n e = go (nat_le (k * width) m) (nat_lt (h * width) NUMBER_LIMIT) refl refl e
  where
    less : (x m n : ℕ) → x ≤ m → m - x ≡ n → n + x ≡ m
    less x m n le e = omega (arith, le, e)

    go : (x y : Bool) → nat_le (k * width) m ≡ x → nat_lt (h * width) NUMBER_LIMIT ≡ y → cond (x && y)
        (Some (m - k * width)) None ≡ Some n → (n + k * width ≡ m) × (h * width < NUMBER_LIMIT)
    go true true ex ey e =
        let same : m - k * width ≡ n = cc e in
        (less (k * width) m n (leb-true (k * width) m ex) same, ltb-true (h * width) NUMBER_LIMIT ey)
    go true false ex ey e = absurd (cc e)
    go false y ex ey e = absurd (cc e)

pub folded_is : (c : Context) (r : ℕ) (a : Base) (low high : ℤ) (width error n : ℕ) → folded c r a low high width error
    ≡ Some n → Folded c r a low high width error n
folded_is c r a low high width error n e = of_block (block_at c r a) refl e
  where
    of_bounds : (low' high' : ℤ) (m : ℕ) → low ≡ low' → high ≡ high' → block_at c r a ≡ Some m → nat_eq error 0 ≡ true
        → fold_by low' high' width m ≡ Some n → Folded c r a low high width error n
    of_bounds (pos k) (pos h) m el eh eb ee e =
        let near = near_is k h width m n e in
        record {
          first = k;
          last = h;
          whole = m;
          none = ee;
          low_is = el;
          high_is = eh;
          block = eb;
          rest = near.0;
          narrow = near.1;
        }
    of_bounds (pos k) (negsuc h) m el eh eb ee e = absurd (cc e)
    of_bounds (negsuc k) high' m el eh eb ee e = absurd (cc e)

    of_error : (none : Bool) (m : ℕ) → nat_eq error 0 ≡ none → block_at c r a ≡ Some m → cond none
        (fold_by low high width m) None ≡ Some n → Folded c r a low high width error n
    of_error true m ee eb e = of_bounds low high m refl refl eb ee e
    of_error false m ee eb e = absurd (cc e)

    of_block : (o : Option ℕ) → block_at c r a ≡ o → fold_in error low high width o ≡ Some n
        → Folded c r a low high width error n
    of_block None eb e = absurd (cc e)
    of_block (Some m) eb e = of_error (nat_eq error 0) m refl eb e

-- what a register is short of after a base in a frame
pub record InFrame (c : Context) (r : ℕ) (a : Base) (z : ℤ) (o : Option ℕ) : Type 0 where
  pub offset : ℕ
  pub is : z ≡ pos offset
  pub there : o ≡ Some offset

pub in_frame : (c : Context) (r : ℕ) (a : Base) (deferred : ℕ × ℤ) (low high : ℤ) (width error : ℕ) (z : ℤ)
    (o : Option ℕ)
    → near_of (Some deferred) a ≡ None → short_by (back a low high width error) o ≡ Some z → InFrame c r a z o
in_frame c r (base.Temporary u) deferred low high width error z o none e = absurd (cc none)
in_frame c r base.Frame deferred low high width error z o none e = of_offset o e
  where
    of_offset : (o : Option ℕ) → short_by None o ≡ Some z → InFrame c r base.Frame z o
    of_offset None e = absurd (cc e)
    of_offset (Some n) e = record { offset = n; is = cc e; there = refl }
in_frame c r base.Scratch deferred low high width error z o none e = of_offset o e
  where
    of_offset : (o : Option ℕ) → short_by None o ≡ Some z → InFrame c r base.Scratch z o
    of_offset None e = absurd (cc e)
    of_offset (Some n) e = record { offset = n; is = cc e; there = refl }
in_frame c r base.Program deferred low high width error z o none e = of_offset o e
  where
    of_offset : (o : Option ℕ) → short_by None o ≡ Some z → InFrame c r base.Program z o
    of_offset None e = absurd (cc e)
    of_offset (Some n) e = record { offset = n; is = cc e; there = refl }

-- a base with a block is not in a temporary
pub record Framed (c : Context) (r : ℕ) (a : Base) : Type 0 where
  pub code : near_code c r a ≡ []
  pub register : near_register c r a ≡ base_register c r a
  pub near : (deferred : ℕ × ℤ) → near_of (Some deferred) a ≡ None

pub framed_base : (c : Context) (r : ℕ) (a : Base) (n : ℕ) → block_at c r a ≡ Some n → Framed c r a
framed_base c r base.Frame n e = record { code = refl; register = refl; near = λ deferred. refl }
framed_base c r base.Scratch n e = record { code = refl; register = refl; near = λ deferred. refl }
framed_base c r base.Program n e = record { code = refl; register = refl; near = λ deferred. refl }
framed_base c r (base.Temporary t) n e = absurd (cc e)

-- how far a register is ahead of an address in a temporary
pub record Backed (low high : ℤ) (width error : ℕ) (z : ℤ) : Type 0 where
  pub first : ℕ
  pub last : ℕ
  pub none : nat_eq error 0 ≡ true
  pub low_is : low ≡ pos first
  pub high_is : high ≡ pos last
  pub is : z ≡ neg_ℤ (pos (first * width))
  pub few : first * width < ADDRESSES
  pub narrow : last * width < NUMBER_LIMIT

pub backed_is : (low high : ℤ) (width error : ℕ) (z : ℤ) → short_by
    (cond (nat_eq error 0) (back_by low high width) None) None ≡ Some z → Backed low high width error z
backed_is low high width error z e = of_error (nat_eq error 0) refl e
  where
    of_sizes : (k h : ℕ) (x y : Bool) → nat_lt (k * width) ADDRESSES ≡ x → nat_lt (h * width) NUMBER_LIMIT ≡ y
        → low ≡ pos k → high ≡ pos h → nat_eq error 0 ≡ true → short_by
        (cond (x && y) (Some (neg_ℤ (pos (k * width)))) None) None ≡ Some z → Backed low high width error z
    of_sizes k h true true ex ey el eh ee e = record {
      first = k;
      last = h;
      none = ee;
      low_is = el;
      high_is = eh;
      is = sym (cc e);
      few = ltb-true (k * width) ADDRESSES ex;
      narrow = ltb-true (h * width) NUMBER_LIMIT ey;
    }
    of_sizes k h true false ex ey el eh ee e = absurd (cc e)
    of_sizes k h false y ex ey el eh ee e = absurd (cc e)

    of_bounds : (low' high' : ℤ) → low ≡ low' → high ≡ high' → nat_eq error 0 ≡ true → short_by
        (back_by low' high' width) None ≡ Some z → Backed low high width error z
    of_bounds (pos k) (pos h) el eh ee e = of_sizes k h (nat_lt (k * width) ADDRESSES)
        (nat_lt (h * width) NUMBER_LIMIT) refl refl el eh ee e
    of_bounds (pos k) (negsuc h) el eh ee e = absurd (cc e)
    of_bounds (negsuc k) high' el eh ee e = absurd (cc e)

    of_error : (none : Bool) → nat_eq error 0 ≡ none → short_by (cond none (back_by low high width) None) None ≡ Some z
        → Backed low high width error z
    of_error true ee e = of_bounds low high refl refl ee e
    of_error false ee e = absurd (cc e)

-- the address d bytes before what a register holds
pub reached_back : (r d y : ℕ) → d < ADDRESSES → y < 2 ^ 32 → r ≡ y + d → reached r (neg_ℤ (pos d)) ≡ y
reached_back r zero y few narrow e = omega (arith, e)
reached_back r (suc d) y few narrow e = omega (arith, e, few, narrow)

-- an index between natural bounds
pub record Natural (low x : ℤ) (k h : ℕ) : Type 0 where
  pub number : ℕ
  pub is : x ≡ pos number
  pub most : number ≤ h
  pub above : k + steps_above low x ≡ number

pub natural_between : (low high x : ℤ) (k h : ℕ) → low ≡ pos k → high ≡ pos h → is_in_range low high x ≡ true
    → Natural low x k h
natural_between low high x k h el eh e = go x (at_least low x (first (int_lt x low) (int_lt high x) e))
    (at_least x high (second (int_lt x low) (int_lt high x) e))
  where
    first : (y z : Bool) → not y && not z ≡ true → y ≡ false
    first true z e = absurd (cc e)
    first false z e = refl

    second : (y z : Bool) → not y && not z ≡ true → z ≡ false
    second true z e = absurd (cc e)
    second false true e = absurd (cc e)
    second false false e = refl

    go : (x : ℤ) → low ≤ℤ x → x ≤ℤ high → Natural low x k h
    go (pos j) above below =
        let st = steps_are low (pos j) above in
        record {
          number = j;
          is = refl;
          most = omega (arith, ints, below, eh);
          above = omega (arith, ints, st, el);
        }
    go (negsuc j) above below = absurd (omega (arith, ints, above, el))

pub times_le : (j h w : ℕ) → j ≤ h → j * w ≤ h * w
times_le zero h w le = omega arith
times_le (suc j) zero w le = absurd (omega (arith, le))
times_le (suc j) (suc h) w le =
    let r = times_le j h w (omega (arith, le)) in
    let e : suc j * w ≡ j * w + w = grind arith in
    let e' : suc h * w ≡ h * w + w = grind arith in
    omega (arith, r, e, e')

pub spread : (k n j w : ℕ) → k + n ≡ j → j * w ≡ k * w + n * w
spread k n j w e = ap (λ z. z * w) (sym e) ∙ both k n w
  where
    both : (k n w : ℕ) → (k + n) * w ≡ k * w + n * w
    both k n w = grind arith

-- a block that is in a frame is not at the address in R15
pub framed_register : (c : Context) (r : ℕ) (a : Base) (n : ℕ) → block_at c r a ≡ Some n → base_register c r a ≢ 15
framed_register c r base.Frame n e = omega arith
framed_register c r base.Scratch n e = omega arith
framed_register c r base.Program n e = omega arith
framed_register c r (base.Temporary t) n e = absurd (cc e)
