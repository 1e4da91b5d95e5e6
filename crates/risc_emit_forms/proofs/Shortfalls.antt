-- What a register is short of at a place, as the instruction before it left it.
use Rattle.std.proofs.Common.{◌≡◌, ◌≢◌, ℕ, zero, suc, ◌⊎◌, inl, inr, Bool, true, false, cond, not, ◌&&◌, ℤ, nat_eq}
use Rattle.std.proofs.Common.{List, Option, Some, None, slice_get, get_or, refl, sym, ap, ◌∙◌, subst, arith, pos}
use Rattle.std.proofs.Common.{negsuc, ◌+ℤ◌}
use Rattle.std.specs.Prelude.{int_lt, ◌≤ℤ◌, neg_ℤ}
use Rattle.std.proofs.lemmas.Int.{ints}
use Rattle.std.proofs.lemmas.Bool.{eqb-true}
use Rattle.tac_code.specs.declared.code.Instruction.{Instruction}
use Rattle.tac_code.specs.declared.code.Instruction.TheVariants.{Literal, Copy, Arithmetic, Bits, Compare, CheckRange}
use Rattle.tac_code.specs.declared.code.Instruction.TheVariants.{CheckPointer, Text, Offset, Index, RoutineValue, Load}
use Rattle.tac_code.specs.declared.code.Instruction.TheVariants.{Store, LoadByte, StoreByte, Jump, JumpBack, Branch}
use Rattle.tac_code.specs.declared.code.Instruction.TheVariants.{BranchBack, Call, CallValue, Return, Trap, Take, Put}
use Rattle.tac_code.specs.declared.code.Instruction.TheVariants.{New, End}
use Rattle.tac_code.specs.declared.code.TacRoutine.{TacRoutine}
use Rattle.tac_code.specs.Meaning.{routines, body_at, fetch}
use Rattle.risc_machine.specs.declared.limits.TheConstants.{ADDRESSES}
use Rattle.risc_emit_relation.specs.Context.{Context, home}
use Rattle.risc_alloc.specs.declared.homes.Home.{Home}
use Rattle.risc_alloc.specs.declared.homes.Home.TheVariants.{Slot, Reg}
use Rattle.tac_code.specs.declared.code.Base.{Base}
use Rattle.tac_code.specs.declared.code.Base.TheVariants as base
use Rattle.tac_code.proofs.Numbers.{eq_same}
use Rattle.risc_emit_forms.specs.Peephole.{jumped, back, both_short, is_apart, row_near, first_of, offset_of, defer_in}
use Rattle.risc_emit_forms.specs.Peephole.{defer_load, row_from, defer_row, row, row_deferred, start, defer}
use Rattle.risc_emit_forms.specs.Peephole.{load_deferred, deferred_in}
use Rattle.risc_emit_forms.specs.Peephole.{deferred_at}
use Rattle.risc_emit_forms.proofs.Flags.{load_is, row_is, sides_of}

-- ---- what a register is short of

-- after an index it is the offset of its base's block, or what the lowest index leaves of it
pub record DeferredIndex (c : Context) (r t : ℕ) (o : Option ℤ) (x : ℕ × ℤ) : Type 0 where
  pub home : home c r t ≡ Reg x.0
  pub offset : o ≡ Some x.1

-- the offset of a load by it
abbrev pub IsLoad : ℤ → ℕ → Type 0
IsLoad m n = (negsuc 524287 ≤ℤ (m +ℤ pos n)) × ((m +ℤ pos n) ≤ℤ pos 524287)

-- and the load takes it
pub record DeferredLoad (c : Context) (r k : ℕ) (x : ℕ × ℤ) : Type 0 where
  pub to : ℕ
  pub behind : ℕ
  pub here : fetch c.code r k ≡ Some (Load to (base.Temporary to) behind)
  pub home : home c r to ≡ Reg x.0
  pub near : IsLoad x.1 behind

record Deferred (c : Context) (r t : ℕ) (o : Option ℤ) (next : Option Instruction) (x : ℕ × ℤ) : Type 0 where
  behind : ℕ
  load : next ≡ Some (Load t (base.Temporary t) behind)
  home : home c r t ≡ Reg x.0
  offset : o ≡ Some x.1
  near : IsLoad x.1 behind

deferred_home : (h : Home) (n : ℕ) (o : Option ℤ) (x : ℕ × ℤ) → defer_in h n o ≡ Some x → (h ≡ Reg x.0) × (o ≡ Some x.1)
    × IsLoad x.1 n
deferred_home (Slot j) n o x e = absurd (cc e)
deferred_home (Reg q) n None x e = absurd (cc e)
deferred_home (Reg q) n (Some m) x e =
    go (int_lt (m +ℤ pos n) (negsuc 524287)) (int_lt (m +ℤ pos n) (pos 524288)) refl refl e
  where
    above : (z : ℤ) → int_lt z (negsuc 524287) ≡ false → negsuc 524287 ≤ℤ z
    above z e = grind (arith, ints)

    below : (z : ℤ) → int_lt z (pos 524288) ≡ true → z ≤ℤ pos 524287
    below z e = grind (arith, ints)

    go : (t u : Bool) → int_lt (m +ℤ pos n) (negsuc 524287) ≡ t → int_lt (m +ℤ pos n) (pos 524288) ≡ u → cond t None
        (cond u (Some (q, m)) None) ≡ Some x → (Reg q ≡ Reg x.0) × (Some m ≡ Some x.1) × IsLoad x.1 n
    go true u et eu e = absurd (cc e)
    go false true et eu e =
        let same : (q, m) ≡ x = cc e in (
          ap (λ y. Reg y.0) same,
          ap (λ y. Some y.1) same,
          subst (λ y. IsLoad y.1 n) same (above (m +ℤ pos n) et, below (m +ℤ pos n) eu),
        )
    go false false et eu e = absurd (cc e)

deferred_load : (c : Context) (r t : ℕ) (o : Option ℤ) (next : Option Instruction) (x : ℕ × ℤ) → defer_load c r t o next
    ≡ Some x → Deferred c r t o next x
deferred_load c r t o (Some (Load u (base.Temporary w) n)) x e = go (nat_eq u t) (nat_eq w t) refl refl e
  where
    go : (y z : Bool) → nat_eq u t ≡ y → nat_eq w t ≡ z → cond (y && z) (defer_in (home c r t) n o) None
        ≡ Some x → Deferred c r t o (Some (Load u (base.Temporary w) n)) x
    go true true ey ez e =
        let k = deferred_home (home c r t) n o x e in
        let ut = eqb-true u t ey in
        let wt = eqb-true w t ez in
        record {
          behind = n;
          load = ap (λ z. Some (Load z (base.Temporary w) n)) ut ∙ ap (λ z. Some (Load t (base.Temporary z) n)) wt;
          home = k.0;
          offset = k.1;
          near = k.2;
        }
    go true false ey ez e = absurd (cc e)
    go false z ey ez e = absurd (cc e)
deferred_load c r t o (Some (Load u base.Frame n)) x e = absurd (cc e)
deferred_load c r t o (Some (Load u base.Scratch n)) x e = absurd (cc e)
deferred_load c r t o (Some (Load u base.Program n)) x e = absurd (cc e)
deferred_load c r t o None x e = absurd (cc e)
deferred_load c r t o (Some (Literal t' z')) x e = absurd (cc e)
deferred_load c r t o (Some (Copy t' a')) x e = absurd (cc e)
deferred_load c r t o (Some (Arithmetic operator' t' a' b' error' line')) x e = absurd (cc e)
deferred_load c r t o (Some (Bits operator' t' a' b')) x e = absurd (cc e)
deferred_load c r t o (Some (Compare relation' t' a' b')) x e = absurd (cc e)
deferred_load c r t o (Some (CheckRange a' low' high' error' line')) x e = absurd (cc e)
deferred_load c r t o (Some (CheckPointer a' error' line')) x e = absurd (cc e)
deferred_load c r t o (Some (Text t' bytes')) x e = absurd (cc e)
deferred_load c r t o (Some (Offset t' a' n' extent')) x e = absurd (cc e)
deferred_load c r t o (Some (RoutineValue t' q')) x e = absurd (cc e)
deferred_load c r t o (Some (Store a' n' u')) x e = absurd (cc e)
deferred_load c r t o (Some (LoadByte t' a' n')) x e = absurd (cc e)
deferred_load c r t o (Some (StoreByte a' n' u')) x e = absurd (cc e)
deferred_load c r t o (Some (Jump n')) x e = absurd (cc e)
deferred_load c r t o (Some (JumpBack n')) x e = absurd (cc e)
deferred_load c r t o (Some (Branch relation' a' b' n')) x e = absurd (cc e)
deferred_load c r t o (Some (BranchBack relation' a' b' n')) x e = absurd (cc e)
deferred_load c r t o (Some (Call t' q' us' line')) x e = absurd (cc e)
deferred_load c r t o (Some (CallValue t' a' us' line')) x e = absurd (cc e)
deferred_load c r t o (Some (Return a')) x e = absurd (cc e)
deferred_load c r t o (Some (Trap error' line')) x e = absurd (cc e)
deferred_load c r t o (Some (Take t')) x e = absurd (cc e)
deferred_load c r t o (Some (Put a')) x e = absurd (cc e)
deferred_load c r t o (Some (New t' type' line')) x e = absurd (cc e)
deferred_load c r t o (Some End) x e = absurd (cc e)
deferred_load c r t o (Some (Index t' a' i' low' high' width' error' line')) x e = absurd (cc e)

-- an index into a row: what stands behind the index that made the row's address
record Row (c : Context) (r t : ℕ) (o : Option ℤ) (next third : Option Instruction) (x : ℕ × ℤ) : Type 0 where
  index : ℕ
  low : ℤ
  high : ℤ
  width : ℕ
  error : ℕ
  line : ℕ
  further : ℤ
  is : next ≡ Some (Index t (base.Temporary t) index low high width error line)
  apart : home c r index ≢ Reg x.0
  home : home c r t ≡ Reg x.0
  offset : o ≡ Some x.1
  least : neg_ℤ (pos ADDRESSES) ≤ℤ x.1
  ahead : back (base.Temporary t) low high width error ≡ Some further
  load : defer_load c r t (Some (x.1 +ℤ further)) third ≡ Some (x.0, x.1 +ℤ further)

-- the same at a place
pub record DeferredRow (c : Context) (r k : ℕ) (x : ℕ × ℤ) : Type 0 where
  pub to : ℕ
  pub index : ℕ
  pub low : ℤ
  pub high : ℤ
  pub width : ℕ
  pub error : ℕ
  pub line : ℕ
  pub further : ℤ
  pub here : fetch c.code r k ≡ Some (Index to (base.Temporary to) index low high width error line)
  pub apart : home c r index ≢ Reg x.0
  pub home : home c r to ≡ Reg x.0
  pub least : neg_ℤ (pos ADDRESSES) ≤ℤ x.1
  pub ahead : back (base.Temporary to) low high width error ≡ Some further
  pub next : deferred_at c r (suc k) ≡ Some (x.0, x.1 +ℤ further)

apart_is : (h : Home) (q : ℕ) → is_apart h q ≡ true → h ≢ Reg q
apart_is (Slot k) q e same = cc same
apart_is (Reg p) q e same = go (nat_eq p q) refl e
  where
    go : (b : Bool) → nat_eq p q ≡ b → not b ≡ true → ⊥
    go true eb e = cc e
    go false eb e =
        let is : p ≡ q = cc same in cc (sym eb ∙ ap (λ z. nat_eq z q) is ∙ eq_same q)

-- the parts of such a row
record RowParts (m : ℤ) (h : Home) (o : Option (ℕ × ℤ)) (x : ℕ × ℤ) : Type 0 where
  beyond : ℤ
  found : o ≡ Some (x.0, beyond)
  offset : m ≡ x.1
  least : neg_ℤ (pos ADDRESSES) ≤ℤ m
  apart : h ≢ Reg x.0

row_parts : (m : ℤ) (h : Home) (o : Option (ℕ × ℤ)) (x : ℕ × ℤ) → row_near m h o ≡ Some x → RowParts m h o x
row_parts m h None x e = absurd (cc e)
row_parts m h (Some y) x e = go (int_lt m (neg_ℤ (pos ADDRESSES))) (is_apart h y.0) refl refl e
  where
    above : (z : ℤ) → int_lt z (neg_ℤ (pos ADDRESSES)) ≡ false → neg_ℤ (pos ADDRESSES) ≤ℤ z
    above z e = grind (arith, ints)

    go : (a b : Bool) → int_lt m (neg_ℤ (pos ADDRESSES)) ≡ a → is_apart h y.0 ≡ b → cond a None
        (cond b (Some (y.0, m)) None) ≡ Some x → RowParts m h (Some y) x
    go true b ea eb e = absurd (cc e)
    go false false ea eb e = absurd (cc e)
    go false true ea eb e =
        let same : (y.0, m) ≡ x = cc e in
        let first : y.0 ≡ x.0 = ap (λ z. z.0) same in
        record {
          beyond = y.1;
          found = ap (λ q. Some (q, y.1)) first;
          offset = ap (λ z. z.1) same;
          least = above m ea;
          apart = subst (λ q. h ≢ Reg q) first (apart_is h y.0 eb);
        }

deferred_row : (c : Context) (r t : ℕ) (o : Option ℤ) (next third : Option Instruction) (x : ℕ × ℤ)
    → defer_row c r t o next third ≡ Some x → Row c r t o next third x
deferred_row c r t o (Some (Index u (base.Temporary w) j low high width error line)) third x e =
    go (nat_eq u t) (nat_eq w t) refl refl e
  where
    further_is : (m : ℤ) (d : Option ℤ) (z : ℤ) → both_short m d ≡ Some z → (n : ℤ) × (d ≡ Some n) × (z ≡ m +ℤ n)
    further_is m None z e = absurd (cc e)
    further_is m (Some n) z e = (n, refl, cc (sym e))

    with_offset : (o' : Option ℤ) → o ≡ o' → u ≡ t → w ≡ t → row_from c r t o' (home c r j)
        (back (base.Temporary w) low high width error) third ≡ Some x → Row c r t o
        (Some (Index u (base.Temporary w) j low high width error line)) third x
    with_offset None eo ut wt e = absurd (cc e)
    with_offset (Some m) eo ut wt e =
        let d = back (base.Temporary w) low high width error in
        let y = row_parts m (home c r j) (defer_load c r t (both_short m d) third) x e in
        let l = deferred_load c r t (both_short m d) third (x.0, y.beyond) y.found in
        let f = further_is m d y.beyond l.offset in
        let sum : y.beyond ≡ x.1 +ℤ f.0 = f.2 ∙ ap (λ z. z +ℤ f.0) y.offset in
        record {
          index = j;
          low = low;
          high = high;
          width = width;
          error = error;
          line = line;
          further = f.0;
          is = ap (λ z. Some (Index z (base.Temporary w) j low high width error line)) ut
              ∙ ap (λ z. Some (Index t (base.Temporary z) j low high width error line)) wt;
          apart = y.apart;
          home = l.home;
          offset = eo ∙ ap Some y.offset;
          least = subst (λ z. neg_ℤ (pos ADDRESSES) ≤ℤ z) y.offset y.least;
          ahead = f.1;
          load = ap (λ z. defer_load c r t (Some z) third) (sym sum) ∙ ap (λ z. defer_load c r t z third) (sym l.offset)
              ∙ y.found ∙ ap (λ z. Some (x.0, z)) sum;
        }

    go : (a b : Bool) → nat_eq u t ≡ a → nat_eq w t ≡ b → cond (a && b)
        (row_from c r t o (home c r j) (back (base.Temporary w) low high width error) third) None ≡ Some x
        → Row c r t o (Some (Index u (base.Temporary w) j low high width error line)) third x
    go true true ea eb e = with_offset o refl (eqb-true u t ea) (eqb-true w t eb) e
    go true false ea eb e = absurd (cc e)
    go false b ea eb e = absurd (cc e)
deferred_row c r t o (Some (Index u base.Frame j low high width error line)) third x e = absurd (cc e)
deferred_row c r t o (Some (Index u base.Scratch j low high width error line)) third x e = absurd (cc e)
deferred_row c r t o (Some (Index u base.Program j low high width error line)) third x e = absurd (cc e)
deferred_row c r t o None third x e = absurd (cc e)
deferred_row c r t o (Some (Literal t' z')) third x e = absurd (cc e)
deferred_row c r t o (Some (Copy t' a')) third x e = absurd (cc e)
deferred_row c r t o (Some (Arithmetic operator' t' a' b' error' line')) third x e = absurd (cc e)
deferred_row c r t o (Some (Bits operator' t' a' b')) third x e = absurd (cc e)
deferred_row c r t o (Some (Compare relation' t' a' b')) third x e = absurd (cc e)
deferred_row c r t o (Some (CheckRange a' low' high' error' line')) third x e = absurd (cc e)
deferred_row c r t o (Some (CheckPointer a' error' line')) third x e = absurd (cc e)
deferred_row c r t o (Some (Text t' bytes')) third x e = absurd (cc e)
deferred_row c r t o (Some (Offset t' a' n' extent')) third x e = absurd (cc e)
deferred_row c r t o (Some (RoutineValue t' q')) third x e = absurd (cc e)
deferred_row c r t o (Some (Load t' a' n')) third x e = absurd (cc e)
deferred_row c r t o (Some (Store a' n' u')) third x e = absurd (cc e)
deferred_row c r t o (Some (LoadByte t' a' n')) third x e = absurd (cc e)
deferred_row c r t o (Some (StoreByte a' n' u')) third x e = absurd (cc e)
deferred_row c r t o (Some (Jump n')) third x e = absurd (cc e)
deferred_row c r t o (Some (JumpBack n')) third x e = absurd (cc e)
deferred_row c r t o (Some (Branch relation' a' b' n')) third x e = absurd (cc e)
deferred_row c r t o (Some (BranchBack relation' a' b' n')) third x e = absurd (cc e)
deferred_row c r t o (Some (Call t' q' us' line')) third x e = absurd (cc e)
deferred_row c r t o (Some (CallValue t' a' us' line')) third x e = absurd (cc e)
deferred_row c r t o (Some (Return a')) third x e = absurd (cc e)
deferred_row c r t o (Some (Trap error' line')) third x e = absurd (cc e)
deferred_row c r t o (Some (Take t')) third x e = absurd (cc e)
deferred_row c r t o (Some (Put a')) third x e = absurd (cc e)
deferred_row c r t o (Some (New t' type' line')) third x e = absurd (cc e)
deferred_row c r t o (Some End) third x e = absurd (cc e)

-- the index before it
record RowBehind (c : Context) (r : ℕ) (next third : Option Instruction) (x : ℕ × ℤ) : Type 0 where
  to : ℕ
  o : Option ℤ
  of : Row c r to o next third x

row_by : (c : Context) (r : ℕ) (i next third : Option Instruction) (x : ℕ × ℤ) → row c r i next third ≡ Some x
    → RowBehind c r next third x
row_by c r (Some (Index t a i low high width error line)) next third x e =
    let o = offset_of c r a low high width error in
    record { to = t; o = o; of = deferred_row c r t o next third x e }
row_by c r None next third x e = absurd (cc e)
row_by c r (Some (Literal t' z')) next third x e = absurd (cc e)
row_by c r (Some (Copy t' a')) next third x e = absurd (cc e)
row_by c r (Some (Arithmetic operator' t' a' b' error' line')) next third x e = absurd (cc e)
row_by c r (Some (Bits operator' t' a' b')) next third x e = absurd (cc e)
row_by c r (Some (Compare relation' t' a' b')) next third x e = absurd (cc e)
row_by c r (Some (CheckRange a' low' high' error' line')) next third x e = absurd (cc e)
row_by c r (Some (CheckPointer a' error' line')) next third x e = absurd (cc e)
row_by c r (Some (Text t' bytes')) next third x e = absurd (cc e)
row_by c r (Some (Offset t' a' n' extent')) next third x e = absurd (cc e)
row_by c r (Some (RoutineValue t' q')) next third x e = absurd (cc e)
row_by c r (Some (Load t' a' n')) next third x e = absurd (cc e)
row_by c r (Some (Store a' n' u')) next third x e = absurd (cc e)
row_by c r (Some (LoadByte t' a' n')) next third x e = absurd (cc e)
row_by c r (Some (StoreByte a' n' u')) next third x e = absurd (cc e)
row_by c r (Some (Jump n')) next third x e = absurd (cc e)
row_by c r (Some (JumpBack n')) next third x e = absurd (cc e)
row_by c r (Some (Branch relation' a' b' n')) next third x e = absurd (cc e)
row_by c r (Some (BranchBack relation' a' b' n')) next third x e = absurd (cc e)
row_by c r (Some (Call t' q' us' line')) next third x e = absurd (cc e)
row_by c r (Some (CallValue t' a' us' line')) next third x e = absurd (cc e)
row_by c r (Some (Return a')) next third x e = absurd (cc e)
row_by c r (Some (Trap error' line')) next third x e = absurd (cc e)
row_by c r (Some (Take t')) next third x e = absurd (cc e)
row_by c r (Some (Put a')) next third x e = absurd (cc e)
row_by c r (Some (New t' type' line')) next third x e = absurd (cc e)
row_by c r (Some End) next third x e = absurd (cc e)

record LoadBehind (c : Context) (r : ℕ) (next : Option Instruction) (x : ℕ × ℤ) : Type 0 where
  to : ℕ
  o : Option ℤ
  of : Deferred c r to o next x

deferred_by : (c : Context) (r : ℕ) (before : Option (ℕ × ℤ)) (i next : Option Instruction) (x : ℕ × ℤ)
    → defer c r before i next ≡ Some x → LoadBehind c r next x
deferred_by c r before (Some (Index t a i low high width error line)) next x e =
    let o = start c r before a low high width error in
    record { to = t; o = o; of = deferred_load c r t o next x e }
deferred_by c r before None next x e = absurd (cc e)
deferred_by c r before (Some (Literal t' z')) next x e = absurd (cc e)
deferred_by c r before (Some (Copy t' a')) next x e = absurd (cc e)
deferred_by c r before (Some (Arithmetic operator' t' a' b' error' line')) next x e = absurd (cc e)
deferred_by c r before (Some (Bits operator' t' a' b')) next x e = absurd (cc e)
deferred_by c r before (Some (Compare relation' t' a' b')) next x e = absurd (cc e)
deferred_by c r before (Some (CheckRange a' low' high' error' line')) next x e = absurd (cc e)
deferred_by c r before (Some (CheckPointer a' error' line')) next x e = absurd (cc e)
deferred_by c r before (Some (Text t' bytes')) next x e = absurd (cc e)
deferred_by c r before (Some (Offset t' a' n' extent')) next x e = absurd (cc e)
deferred_by c r before (Some (RoutineValue t' q')) next x e = absurd (cc e)
deferred_by c r before (Some (Load t' a' n')) next x e = absurd (cc e)
deferred_by c r before (Some (Store a' n' u')) next x e = absurd (cc e)
deferred_by c r before (Some (LoadByte t' a' n')) next x e = absurd (cc e)
deferred_by c r before (Some (StoreByte a' n' u')) next x e = absurd (cc e)
deferred_by c r before (Some (Jump n')) next x e = absurd (cc e)
deferred_by c r before (Some (JumpBack n')) next x e = absurd (cc e)
deferred_by c r before (Some (Branch relation' a' b' n')) next x e = absurd (cc e)
deferred_by c r before (Some (BranchBack relation' a' b' n')) next x e = absurd (cc e)
deferred_by c r before (Some (Call t' q' us' line')) next x e = absurd (cc e)
deferred_by c r before (Some (CallValue t' a' us' line')) next x e = absurd (cc e)
deferred_by c r before (Some (Return a')) next x e = absurd (cc e)
deferred_by c r before (Some (Trap error' line')) next x e = absurd (cc e)
deferred_by c r before (Some (Take t')) next x e = absurd (cc e)
deferred_by c r before (Some (Put a')) next x e = absurd (cc e)
deferred_by c r before (Some (New t' type' line')) next x e = absurd (cc e)
deferred_by c r before (Some End) next x e = absurd (cc e)

pub deferred_index_is : (c : Context) (r k t : ℕ) (a : Base) (i : ℕ) (low high : ℤ) (width error line : ℕ) (x : ℕ × ℤ)
    → fetch c.code r k ≡ Some (Index t a i low high width error line) → deferred_at c r k ≡ None
    → deferred_at c r (suc k) ≡ Some x → DeferredIndex c r t (offset_of c r a low high width error) x
deferred_index_is c r k t a i low high width error line x here straight e =
    go (slice_get (routines c.code) r) refl here straight e
  where
    go : (o : Option TacRoutine) → slice_get (routines c.code) r ≡ o → body_at o k
        ≡ Some (Index t a i low high width error line) → deferred_in c r o k ≡ None → deferred_in c r o (suc k) ≡ Some x
        → DeferredIndex c r t (offset_of c r a low high width error) x
    go None own here straight e = absurd (cc e)
    go (Some routine) own here straight e =
        by (sides_of (row_deferred c r routine.body (suc k)) (load_deferred c r routine.body (suc k)) x e)
      where
        no_row : (o o' : Option (ℕ × ℤ)) → first_of o o' ≡ None → o ≡ None
        no_row (Some y) o' e = absurd (cc e)
        no_row None o' e = refl

        by : (row_deferred c r routine.body (suc k) ≡ Some x) ⊎ ((row_deferred c r routine.body (suc k) ≡ None)
            × (load_deferred c r routine.body (suc k) ≡ Some x))
            → DeferredIndex c r t (offset_of c r a low high width error) x
        by (inl a') =
            let next = slice_get routine.body (suc k) in
            let third = slice_get routine.body (suc (suc k)) in
            let w = deferred_row c r t (offset_of c r a low high width error) next third x
            (ap (λ o. row c r o next third) (sym here) ∙ (row_is c r routine.body k x a').is) in
            record { home = w.home; offset = w.offset }
        by (inr a') =
            let next = slice_get routine.body (suc k) in
            let w = deferred_load c r t (offset_of c r a low high width error) next x
            (ap (λ o. defer c r o (Some (Index t a i low high width error line)) next)
            (sym (no_row (row_deferred c r routine.body k) (load_deferred c r routine.body k) straight))
            ∙ ap (λ o. defer c r (row_deferred c r routine.body k) o next) (sym here)
            ∙ (load_is c r routine.body k x a'.1).is) in
            record { home = w.home; offset = w.offset }

pub deferred_is : (c : Context) (r k : ℕ) (x : ℕ × ℤ) → deferred_at c r k ≡ Some x
    → DeferredLoad c r k x ⊎ DeferredRow c r k x
deferred_is c r zero x e = absurd (none (slice_get (routines c.code) r) e)
  where
    none : (o : Option TacRoutine) → deferred_in c r o 0 ≡ Some x → ⊥
    none None e = cc e
    none (Some routine) e = cc e
deferred_is c r (suc k) x e = go (slice_get (routines c.code) r) refl e
  where
    go : (o : Option TacRoutine) → slice_get (routines c.code) r ≡ o → deferred_in c r o (suc k) ≡ Some x
        → DeferredLoad c r (suc k) x ⊎ DeferredRow c r (suc k) x
    go None own e = absurd (cc e)
    go (Some routine) own e =
        by (sides_of (row_deferred c r routine.body (suc k)) (load_deferred c r routine.body (suc k)) x e)
      where
        body : List Instruction
        body = routine.body

        at : (j : ℕ) → fetch c.code r j ≡ slice_get body j
        at j = ap (λ o. body_at o j) own

        loads : (i : Option Instruction) → defer c r (row_deferred c r body k) i (slice_get body (suc k)) ≡ Some x
            → DeferredLoad c r (suc k) x
        loads i e =
            let w = deferred_by c r (row_deferred c r body k) i (slice_get body (suc k)) x e in
            record {
              to = w.to;
              behind = w.of.behind;
              here = at (suc k)
                  ∙ w.of.load;
              home = w.of.home;
              near = w.of.near;
            }

        by : (row_deferred c r body (suc k) ≡ Some x) ⊎ ((row_deferred c r body (suc k) ≡ None)
            × (load_deferred c r body (suc k) ≡ Some x)) → DeferredLoad c r (suc k) x ⊎ DeferredRow c r (suc k) x
        by (inr a) = inl (loads (slice_get body k) (load_is c r body k x a.1).is)
        by (inl a) =
            let z = row_is c r body k x a in
            let w = row_by c r (slice_get body k) (slice_get body (suc k)) (slice_get body (suc (suc k))) x z.is in
            let y = w.of in
            inr (record {
              to = w.to;
              index = y.index;
              low = y.low;
              high = y.high;
              width = y.width;
              error = y.error;
              line = y.line;
              further = y.further;
              here = at (suc k) ∙ y.is;
              home = y.home;
              apart = y.apart;
              least = y.least;
              ahead = y.ahead;
              next = ap (λ o. deferred_in c r o (suc (suc k))) own
                  ∙ ap (λ o. first_of o (load_deferred c r body (suc (suc k)))) (no_row w.to w.o y)
                  ∙ ap (λ b. cond b None (defer c r (row_deferred c r body (suc k)) (slice_get body (suc k))
                  (slice_get body (suc (suc k))))) z.clear
                  ∙ ap (λ o. defer c r o (slice_get body (suc k)) (slice_get body (suc (suc k)))) a
                  ∙ ap (λ o. defer c r (Some x) o (slice_get body (suc (suc k)))) y.is
                  ∙ ap (λ o. defer_load c r w.to (both_short x.1 o) (slice_get body (suc (suc k)))) y.ahead ∙ y.load;
            })
          where
            none_of_both : (a b : Bool) (z : Option (ℕ × ℤ)) → z ≡ None → cond a None (cond b None z) ≡ None
            none_of_both true b z e = refl
            none_of_both false true z e = refl
            none_of_both false false z e = e

            no_row : (t : ℕ) (o : Option ℤ) → Row c r t o (slice_get body (suc k)) (slice_get body (suc (suc k))) x
                → row_deferred c r body (suc (suc k)) ≡ None
            no_row t o y =
                let third = slice_get body (suc (suc k)) in
                let fourth = slice_get body (suc (suc (suc k))) in
                let w = deferred_load c r t (Some (x.1 +ℤ y.further)) third (x.0, x.1 +ℤ y.further) y.load in
                none_of_both (get_or (jumped body) (suc (suc k)) true) (get_or (jumped body) (suc (suc (suc k))) true)
                (row c r (slice_get body (suc k)) third fourth)
                (ap (λ o. row c r o third fourth) y.is ∙ ap (λ o. row c r
                (Some (Index t (base.Temporary t) y.index y.low y.high y.width y.error y.line)) o fourth) w.load)
