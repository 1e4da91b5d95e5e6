-- One step of the machine at a plain instruction: the state after it shows the view after it.
use Rattle.std.proofs.Common.{◌≡◌, ◌≢◌, ℕ, zero, suc, ◌+◌, ◌-◌, ◌*◌, ◌/◌, ◌%◌, ◌^◌, ◌<◌, ◌≤◌, ⊎_elim, Bool, true}
use Rattle.std.proofs.Common.{false, cond, eqb, List, length, get_or, set, Some, ℤ, pos, negsuc, ◌+ℤ◌, ◌-ℤ◌, refl}
use Rattle.std.proofs.Common.{sym, ap, ◌∙◌, subst, arith, lit<, get_or-set_other, get_or-set_same}
use Rattle.std.specs.Prelude.{nat_le, nat_lt, slice_get, int_lt, bit_and, unsigned_abs, FitsSigned, ◌*ℤ◌, ◌≤ℤ◌}
use Rattle.std.specs.Int.{cast_unsigned, w32, w64, int_shr, rotate_right, int_div_euclid, int_rem_euclid, from_bool}
use Rattle.std.proofs.Math.ListN.{length-set}
use Rattle.std.proofs.lemmas.Bool.{cases_eq, le-leb, lt-ltb}
use Rattle.std.proofs.lemmas.Int.{ints, fits_signed_mul}
use Rattle.std.proofs.lemmas.Nat.{shr_le, and_le_l, or_lt, xor_lt}
use Rattle.std.proofs.lemmas.Option.{slice_get_within}
use Rattle.risc_word.specs.declared.instr.Operation.{Operation}
use Rattle.risc_word.specs.declared.instr.Operation.TheVariants.{Lsl, Asr, Ror, And, Ann, Ior, Xor, Add, Sub, Mul, Div}
use Rattle.risc_word.specs.declared.instr.Operation.TheVariants.{Adc, Sbc}
use Rattle.risc_word.specs.declared.instr.Operand.{Operand}
use Rattle.risc_word.specs.declared.instr.Operand.TheVariants.{Content, Constant}
use Rattle.risc_word.specs.declared.instr.Width.TheVariants.{Word, Byte}
use Rattle.risc_word.specs.declared.instr.Instr.{Instr}
use Rattle.risc_word.specs.declared.instr.Instr.TheVariants.{Move, MoveTop, MoveHigh, Operate, Load, Store, Branch}
use Rattle.risc_word.specs.Words.{word_of, instr_at, IsOperand}
use Rattle.risc_word.proofs.Laws.{instr_back}
use Rattle.risc_machine.specs.Step.{State, Act, Goes, Faults, word_at, put_word, signed, word_of_int, next}
use Rattle.risc_machine.specs.Step.{with_result, with_carries, with_high, overflows, added, subtracted, product}
use Rattle.risc_machine.specs.Step.{multiplied, divided, operated, operand_value, address, load_word, store_word}
use Rattle.risc_machine.specs.Step.{load_byte, store_byte, act_at, act}
use Rattle.risc_machine.specs.declared.stop.Fault.TheVariants.{BadDivisor}
use Rattle.risc_machine.specs.declared.limits.TheConstants.{ADDRESSES, PLACES, SIGN_BIT}
use Rattle.risc_machine_laws.specs.View.{View, Fits, IsAt, IsWritable, Shows, update, result_view, carries_view}
use Rattle.risc_machine_laws.specs.View.{high_view, store_view, word_place, byte_in, with_byte, byte_at, operand_view}
use Rattle.risc_machine_laws.specs.View.{added_view, subtracted_view, operated_view, after, IsPlainOperation, Plain}
use Rattle.risc_machine_laws.specs.View.{reached}
use Rattle.risc_machine.proofs.Memory.{length_put, word_same, word_other, put_bytes, word_below}
use Rattle.risc_machine_laws.proofs.Memory.{byte_is, byte_put}

pub eqb_same : (a : ℕ) → eqb a a ≡ true
eqb_same a = grind arith

pub eqb_other : (a b : ℕ) → a ≢ b → eqb a b ≡ false
eqb_other a b ne = grind arith

-- a byte lies in its word
in_word : (x : ℕ) → word_place x + x % 4 ≡ x
in_word x = omega arith

below_four : (x : ℕ) → x % 4 < 4
below_four x = omega arith

-- look-ups in a function with one value changed
pub update_same : (f : ℕ → ℕ) (a w : ℕ) → update a w f a ≡ w
update_same f a w = rw (eqb_same a)

pub update_other : (f : ℕ → ℕ) (a w k : ℕ) → k ≢ a → update a w f k ≡ f k
update_other f a w k ne = rw (eqb_other k a ne)

-- a register that takes a word
register_same : (rs : List ℕ) (f : ℕ → ℕ) (a w : ℕ) → length rs ≡ 16 → a < 16 → ((k : ℕ) → k < 16 → get_or rs k 0 ≡ f k)
    → (k : ℕ) → k < 16 → get_or (set rs a w) k 0 ≡ update a w f k
register_same rs f a w n ha h k hk =
    ⊎_elim
    (λ (e : k ≡ a).
    let lt : a < length rs = omega arith in
    subst (λ j. get_or (set rs a w) j 0 ≡ update a w f j) (sym e) (rw (get_or-set_same, eqb_same a)))
    (λ (ne : k ≢ a). rw (get_or-set_other, eqb_other k a ne) (h k hk))
    (cases_eq k a)

update_below : (f : ℕ → ℕ) (a w : ℕ) → w < 2 ^ 32 → ((k : ℕ) → k < 16 → f k < 2 ^ 32) → (k : ℕ) → k < 16
    → update a w f k < 2 ^ 32
update_below f a w hw h k hk =
    ⊎_elim
    (λ (e : k ≡ a). subst (λ b. cond b w (f k) < 2 ^ 32) (sym (ap (λ j. eqb j a) e ∙ eqb_same a)) hw)
    (λ (ne : k ≢ a). subst (λ b. cond b w (f k) < 2 ^ 32) (sym (eqb_other k a ne)) (h k hk))
    (cases_eq k a)

-- ---- results have 32 bits
signed_size : (x : ℕ) → x < 2 ^ 32 → unsigned_abs (signed x) ≤ SIGN_BIT
signed_size x h = omega (arith, ints)

product_narrow : (x y : ℕ) → x < 2 ^ 32 → y < 2 ^ 32 → product x y < 18446744073709551616
product_narrow x y hx hy =
    let f : FitsSigned w64 (signed x *ℤ signed y) = fits_signed_mul w64 (signed x) (signed y) SIGN_BIT SIGN_BIT
    (signed_size x hx) (signed_size y hy) (lit< tt) in
    narrowed (signed x *ℤ signed y) f
  where
    narrowed : (z : ℤ) → FitsSigned w64 z → cast_unsigned w64 z < 18446744073709551616
    narrowed z f = omega (arith, ints)

shifted_narrow : (x k : ℕ) → x < 2 ^ 32 → word_of_int (int_shr (signed x) k) < 2 ^ 32
shifted_narrow x k h = go (signed x) (omega (arith, ints))
  where
    go : (z : ℤ) → z ≤ℤ pos (2 ^ 32 - 1) → word_of_int (int_shr z k) < 2 ^ 32
    go (pos a) le = let b = shr_le a k in omega (arith, ints, b, le)
    go (negsuc a) le = omega arith

rotated_narrow : (x n : ℕ) → x < 2 ^ 32 → rotate_right w32 x n < 2 ^ 32
rotated_narrow x n h = or_lt 32 (x / 2 ^ (n % 32)) ((x * 2 ^ ((32 - n % 32) % 32)) % 2 ^ 32)
    (let le = shr_le x (n % 32) in omega (arith, le)) (omega arith)

and_narrow : (x n : ℕ) → x < 2 ^ 32 → bit_and x n < 2 ^ 32
and_narrow x n h = let le = and_le_l x n in omega (arith, le)

divided_le : (a b : ℕ) → a / b ≤ a
divided_le a b = grind arith

positive : (b : ℕ) → int_lt (pos 0) (pos b) ≡ true → 0 < b
positive b h = grind arith

quotient_narrow : (x y : ℤ) → x ≤ℤ pos (2 ^ 32 - 1) → int_lt (pos 0) y ≡ true → word_of_int
    (int_div_euclid x y) < 2 ^ 32
quotient_narrow (pos a) (pos b) h p = let d : a / b ≤ a = divided_le a b in omega (arith, ints, h)
quotient_narrow (negsuc a) (pos b) h p = omega arith
quotient_narrow (pos a) (negsuc b) h p = absurd (cc p)
quotient_narrow (negsuc a) (negsuc b) h p = absurd (cc p)

remainder_narrow : (x y : ℤ) → y ≤ℤ pos (2 ^ 32 - 1) → int_lt (pos 0) y ≡ true → word_of_int
    (int_rem_euclid x y) < 2 ^ 32
remainder_narrow (pos a) (pos b) h p = let d : 0 < b = positive b p in omega (arith, ints, h)
remainder_narrow (negsuc a) (pos b) h p = omega (arith, ints, h)
remainder_narrow (pos a) (negsuc b) h p = absurd (cc p)
remainder_narrow (negsuc a) (negsuc b) h p = absurd (cc p)

signed_below : (x : ℕ) → x < 2 ^ 32 → signed x ≤ℤ pos (2 ^ 32 - 1)
signed_below x h = omega (arith, ints)

with_byte_below : (w k b : ℕ) → k < 4 → w < 2 ^ 32 → b < 256 → with_byte w k b < 2 ^ 32
with_byte_below w zero b h hw hb = omega arith
with_byte_below w (suc zero) b h hw hb = omega arith
with_byte_below w (suc (suc zero)) b h hw hb = omega arith
with_byte_below w (suc (suc (suc zero))) b h hw hb = omega arith
with_byte_below w (suc (suc (suc (suc k)))) b h hw hb = absurd (omega (arith, h))

-- ---- a step that goes on to a state that shows a view
pub record Steps (code : List ℕ) (size : ℕ) (m : State) (v : View) : Type 0 where
  pub to : State
  pub goes : act m ≡ Goes to
  pub shows : Shows code size to v

module _ (code : List ℕ) (size : ℕ) (fits : Fits code size) where
  pub shows_result : (m : State) (v : View) (a w : ℕ) → Shows code size m v → a < 16 → w < 2 ^ 32
      → v.place < length code → Shows code size (next (with_result a w m)) (result_view a w v)
  shows_result m v a w s ha hw hp =
      let e : (m.pc + 1) % PLACES ≡ v.place + 1 = omega (arith, s.place, fits.room, fits.top) in
      record {
        registers = register_same m.registers v.registers a w s.count ha s.registers;
        count = simp length-set s.count;
        narrow = update_below v.registers a w hw s.narrow;
        high = s.high;
        high_narrow = s.high_narrow;
        negative = refl;
        equal = refl;
        carry = s.carry;
        overflow = s.overflow;
        place = e;
        extent = s.extent;
        bytes = s.bytes;
        words = s.words;
        stands = s.stands;
      }

  shows_carries : (m : State) (v : View) (c o : Bool) → Shows code size m v → Shows code size (with_carries c o m)
      (carries_view c o v)
  shows_carries m v c o s =
      record {
        registers = s.registers;
        count = s.count;
        narrow = s.narrow;
        high = s.high;
        high_narrow = s.high_narrow;
        negative = s.negative;
        equal = s.equal;
        carry = refl;
        overflow = refl;
        place = s.place;
        extent = s.extent;
        bytes = s.bytes;
        words = s.words;
        stands = s.stands;
      }

  shows_high : (m : State) (v : View) (h : ℕ) → h < 2 ^ 32 → Shows code size m v → Shows code size (with_high h m)
      (high_view h v)
  shows_high m v h lt s =
      record {
        registers = s.registers;
        count = s.count;
        narrow = s.narrow;
        high = refl;
        high_narrow = lt;
        negative = s.negative;
        equal = s.equal;
        carry = s.carry;
        overflow = s.overflow;
        place = s.place;
        extent = s.extent;
        bytes = s.bytes;
        words = s.words;
        stands = s.stands;
      }

  -- a word stored past the code
  shows_store : (m : State) (v : View) (a w : ℕ) → Shows code size m v → IsWritable code size a → w < 2 ^ 32
      → v.place < length code → Shows code size (next (record m { memory = put_word m.memory a w })) (store_view a w v)
  shows_store m v a w s d hw hp =
      let e : (m.pc + 1) % PLACES ≡ v.place + 1 = omega (arith, s.place, fits.room, fits.top) in
      let within : a + 4 ≤ length m.memory = omega (arith, s.extent, d.high) in
      record {
        registers = s.registers;
        count = s.count;
        narrow = s.narrow;
        high = s.high;
        high_narrow = s.high_narrow;
        negative = s.negative;
        equal = s.equal;
        carry = s.carry;
        overflow = s.overflow;
        place = e;
        extent = length_put m.memory a w ∙ s.extent;
        bytes = put_bytes m.memory a w within s.bytes;
        words = λ b hb high.
            ⊎_elim
            (λ (same : b ≡ a). subst (λ j. word_at (put_word m.memory a w) j ≡ update a w v.words j) (sym same)
            (rw (eqb_same a) (word_same m.memory a w within hw)))
            (λ (ne : b ≢ a). rw (eqb_other b a ne) (word_other m.memory a b w d.aligned hb ne ∙ s.words b hb high))
            (cases_eq b a);
        stands = λ k x h.
            let lt : k < length code = slice_get_within code k x h in
            let ne : 4 * k ≢ a = omega (arith, d.low) in
            let al : 4 * k % 4 ≡ 0 = omega arith in
            word_other m.memory a (4 * k) w d.aligned al ne ∙ s.stands k x h;
      }

  -- the machine is at this instruction
  pub act_here : (m : State) (v : View) (i : Instr) → Shows code size m v → IsAt code v.place i → act m ≡ act_at
      (Some i) m
  act_here m v i s at =
      let lt : v.place < length code = slice_get_within code v.place (word_of i) at.word in
      let within : 4 * m.pc + 4 ≤ length m.memory = omega (arith, s.extent, s.place, fits.room) in
      let e : word_at m.memory (4 * m.pc) ≡ word_of i = ap (λ p. word_at m.memory (4 * p)) s.place ∙ s.stands v.place
      (word_of i) at.word in
      rw (le-leb (4 * m.pc + 4) (length m.memory) within)
      (ap (λ o. act_at o m) (ap instr_at e ∙ instr_back i at.ranges))

  pub place_within : (v : View) (i : Instr) → IsAt code v.place i → v.place < length code
  place_within v i at = slice_get_within code v.place (word_of i) at.word

  -- a word of the code, as the view shows it
  pub word_in_code : (m : State) (v : View) (k w : ℕ) → Shows code size m v → slice_get code k ≡ Some w → v.words
      (4 * k) ≡ w
  word_in_code m v k w s h =
      let lt = slice_get_within code k w h in
      let al : 4 * k % 4 ≡ 0 = omega arith in
      let high : 4 * k + 4 ≤ size = omega (arith, fits.room) in
      sym (s.words (4 * k) al high) ∙ s.stands k w h

  pub operand_eq : (m : State) (v : View) (n : Operand) → Shows code size m v → IsOperand n → operand_value m n
      ≡ operand_view v n
  operand_eq m v (Content c) s h = s.registers c h
  operand_eq m v (Constant n) s h = refl

  pub operand_narrow : (m : State) (v : View) (n : Operand) → Shows code size m v → IsOperand n
      → operand_view v n < 2 ^ 32
  operand_narrow m v (Content c) s h = s.narrow c h
  operand_narrow m v (Constant n) s h = omega (arith, ints, h)

  load_goes : (a at : ℕ) (m : State) → at % 4 ≡ 0 → at + 4 ≤ length m.memory → load_word a at m ≡ Goes
      (next (with_result a (word_at m.memory at) m))
  load_goes a at m al within = rw (al, le-leb (at + 4) (length m.memory) within)

  store_goes : (w at : ℕ) (m : State) → at % 4 ≡ 0 → at + 4 ≤ length m.memory → store_word w at m ≡ Goes
      (next (record m { memory = put_word m.memory at w }))
  store_goes w at m al within = rw (al, le-leb (at + 4) (length m.memory) within)

  load_byte_goes : (a at : ℕ) (m : State) → at < length m.memory → load_byte a at m ≡ Goes
      (next (with_result a (get_or m.memory at 0) m))
  load_byte_goes a at m within = rw (lt-ltb at (length m.memory) within)

  store_byte_goes : (w at : ℕ) (m : State) → at < length m.memory → store_byte w at m ≡ Goes
      (next (record m { memory = set m.memory at (w % 256) }))
  store_byte_goes w at m within = rw (lt-ltb at (length m.memory) within)

  address_is : (m : State) (v : View) (b n : ℕ) → Shows code size m v → b < 16 → v.registers b + n < size → address m b
      (pos n) ≡ v.registers b + n
  address_is m v b n s hb high =
      let e : get_or m.registers b 0 ≡ v.registers b = s.registers b hb in
      omega (arith, high, fits.top)

  -- the machine's addresses have 24 bits
  reached_is : (m : State) (v : View) (b n : ℕ) → Shows code size m v → b < 16 → n < 2 ^ 32 → reached
      (v.registers b) (negsuc n) < size → address m b (negsuc n) ≡ reached (v.registers b) (negsuc n)
  reached_is m v b n s hb few high =
      let e : get_or m.registers b 0 ≡ v.registers b = s.registers b hb in
      ap (λ x. (x + word_of_int (negsuc n)) % ADDRESSES) e ∙ same (v.registers b) (word_of_int (negsuc n))
      (word_back n few) high
    where
      word_back : (n : ℕ) → n < 2 ^ 32 → word_of_int (negsuc n) ≡ 2 ^ 32 - suc n
      word_back n few = omega (arith, ints, few)

      same : (x w : ℕ) → w ≡ 2 ^ 32 - suc n → (x + (2 ^ 32 - suc n)) % 2 ^ 32 < size → (x + w) % ADDRESSES
          ≡ (x + (2 ^ 32 - suc n)) % 2 ^ 32
      same x w e high = omega (arith, e, high, fits.top)

  -- what an operation does to two words
  abbrev Acts : Act → View → Type 0
  Acts r w = (t : State) × (r ≡ Goes t) × Shows code size t w

  result_acts : (m : State) (v : View) (a w : ℕ) → Shows code size m v → a < 16 → w < 2 ^ 32 → v.place < length code
      → Acts (Goes (next (with_result a w m))) (result_view a w v)
  result_acts m v a w s ha hw lt = (next (with_result a w m), refl, shows_result m v a w s ha hw lt)

  sum_acts : (m : State) (v : View) (a x y c : ℕ) → Shows code size m v → a < 16 → v.place < length code → Acts
      (Goes (next (added a x y c m))) (added_view a x y c v)
  sum_acts m v a x y c s ha lt = (
    next (added a x y c m),
    refl,
    shows_result
        (with_carries (nat_le (2 ^ 32) (x + y + c)) (overflows (signed x +ℤ signed y +ℤ pos c)) m)
        (carries_view (nat_le (2 ^ 32) (x + y + c)) (overflows (signed x +ℤ signed y +ℤ pos c)) v) a
        ((x + y + c) % 2 ^ 32) (shows_carries m v _ _ s) ha (omega arith) lt,
  )

  difference_acts : (m : State) (v : View) (a x y c : ℕ) → Shows code size m v → a < 16 → v.place < length code → Acts
      (Goes (next (subtracted a x y c m))) (subtracted_view a x y c v)
  difference_acts m v a x y c s ha lt = (
    next (subtracted a x y c m),
    refl,
    shows_result
        (with_carries (nat_lt x (y + c)) (overflows (signed x -ℤ signed y -ℤ pos c)) m)
        (carries_view (nat_lt x (y + c)) (overflows (signed x -ℤ signed y -ℤ pos c)) v) a
        ((x + 2 ^ 33 - y - c) % 2 ^ 32) (shows_carries m v _ _ s) ha (omega arith) lt,
  )

  operated_acts : (op : Operation) (m : State) (v : View) (a x y : ℕ) → Shows code size m v → a < 16 → x < 2 ^ 32
      → y < 2 ^ 32 → IsPlainOperation op y → v.place < length code → Acts (operated op a x y m)
      (operated_view op a x y v)
  operated_acts Lsl m v a x y s ha hx hy p lt = result_acts m v a _ s ha (omega arith) lt
  operated_acts Asr m v a x y s ha hx hy p lt = result_acts m v a _ s ha (shifted_narrow x (y % 32) hx) lt
  operated_acts Ror m v a x y s ha hx hy p lt = result_acts m v a _ s ha (rotated_narrow x y hx) lt
  operated_acts And m v a x y s ha hx hy p lt = result_acts m v a _ s ha (and_narrow x y hx) lt
  operated_acts Ann m v a x y s ha hx hy p lt = result_acts m v a _ s ha (and_narrow x (2 ^ 32 - 1 - y) hx) lt
  operated_acts Ior m v a x y s ha hx hy p lt = result_acts m v a _ s ha (or_lt 32 x y hx hy) lt
  operated_acts Xor m v a x y s ha hx hy p lt = result_acts m v a _ s ha (xor_lt 32 x y hx hy) lt
  operated_acts Add m v a x y s ha hx hy p lt = sum_acts m v a x y 0 s ha lt
  operated_acts Sub m v a x y s ha hx hy p lt = difference_acts m v a x y 0 s ha lt
  operated_acts Mul m v a x y s ha hx hy p lt = (
    next (multiplied a x y m),
    refl,
    shows_result (with_high (product x y / 2 ^ 32) m)
        (high_view (product x y / 2 ^ 32) v) a (product x y % 2 ^ 32)
        (shows_high m v _ (let b = product_narrow x y hx hy in omega (arith, b)) s) ha (omega arith) lt,
  )
  operated_acts Div m v a x y s ha hx hy p lt =
      let h = word_of_int (int_rem_euclid (signed x) (signed y)) in (
        next (divided a x y m),
        ap (λ b. cond b (Goes (next (divided a x y m))) (Faults BadDivisor)) p,
        shows_result
            (with_high h m) (high_view h v) a _ (shows_high m v h
            (remainder_narrow (signed x) (signed y) (signed_below y hy) p) s) ha
            (quotient_narrow (signed x) (signed y) (signed_below x hx) p) lt,
      )
  operated_acts Adc m v a x y s ha hx hy p lt =
      subst (λ b. Acts (Goes (next (added a x y (from_bool b) m))) (added_view a x y (from_bool v.carry) v))
      (sym s.carry) (sum_acts m v a x y (from_bool v.carry) s ha lt)
  operated_acts Sbc m v a x y s ha hx hy p lt =
      subst (λ b. Acts (Goes (next (subtracted a x y (from_bool b) m))) (subtracted_view a x y (from_bool v.carry) v))
      (sym s.carry) (difference_acts m v a x y (from_bool v.carry) s ha lt)

  -- a plain instruction
  pub step_plain : (i : Instr) (m : State) (v : View) → Shows code size m v → Plain code size i v → IsAt code v.place i
      → Steps code size m (after i v)
  step_plain (Move a n) m v s p at =
      record {
        to = next (with_result a (operand_view v n) m);
        goes = act_here m v _ s at ∙ ap (λ w. Goes (next (with_result a w m))) (operand_eq m v n s at.ranges.1);
        shows = shows_result m v a (operand_view v n) s at.ranges.0 (operand_narrow m v n s at.ranges.1)
            (place_within v _ at);
      }
  step_plain (MoveTop a n) m v s p at =
      record {
        to = next (with_result a (n * 65536) m);
        goes = act_here m v _ s at;
        shows = shows_result m v a (n * 65536) s at.ranges.0 (omega (arith, at.ranges.1)) (place_within v _ at);
      }
  step_plain (MoveHigh a) m v s p at =
      record {
        to = next (with_result a v.high m);
        goes = act_here m v _ s at ∙ ap (λ w. Goes (next (with_result a w m))) s.high;
        shows = shows_result m v a v.high s at.ranges s.high_narrow (place_within v _ at);
      }
  step_plain (Operate op a b n) m v s p at =
      let r = at.ranges in
      let x = operated_acts op m v a (v.registers b) (operand_view v n) s r.0 (s.narrow b r.1)
      (operand_narrow m v n s r.2) p (place_within v _ at) in
      record {
        to = x.0;
        goes = act_here m v _ s at ∙ ap (λ z. operated op a z (operand_value m n) m) (s.registers b r.1)
            ∙ ap (λ z. operated op a (v.registers b) z m) (operand_eq m v n s r.2) ∙ x.1;
        shows = x.2;
      }
  step_plain (Load Word a b (pos n)) m v s p at =
      let x = v.registers b + n in
      let d = p.1 in
      let r = at.ranges in
      let e : word_at m.memory x ≡ v.words x = s.words x d.aligned d.high in
      record {
        to = next (with_result a (v.words x) m);
        goes = act_here m v _ s at ∙ ap (λ z. load_word a z m) (address_is m v b n s r.1 (omega (arith, d.high)))
            ∙ load_goes a x m d.aligned (omega (arith, d.high, s.extent)) ∙ ap (λ w. Goes (next (with_result a w m))) e;
        shows = shows_result m v a (v.words x) s r.0 (subst (λ w. w < 2 ^ 32) e (word_below m.memory x s.bytes))
            (place_within v _ at);
      }
  step_plain (Load Word a b (negsuc n)) m v s p at =
      let x = reached (v.registers b) (negsuc n) in
      let d = p.1 in
      let r = at.ranges in
      let e : word_at m.memory x ≡ v.words x = s.words x d.aligned d.high in
      record {
        to = next (with_result a (v.words x) m);
        goes = act_here m v _ s at ∙ ap (λ z. load_word a z m) (reached_is m v b n s r.1 p.0 (omega (arith, d.high)))
            ∙ load_goes a x m d.aligned (omega (arith, d.high, s.extent)) ∙ ap (λ w. Goes (next (with_result a w m))) e;
        shows = shows_result m v a (v.words x) s r.0 (subst (λ w. w < 2 ^ 32) e (word_below m.memory x s.bytes))
            (place_within v _ at);
      }
  step_plain (Load Byte a b (pos n)) m v s p at =
      let x = v.registers b + n in
      let d = p.1 in
      let r = at.ranges in
      let y = word_place x in
      let high : x < size = omega (arith, d.high) in
      let e : get_or m.memory x 0 ≡ byte_at v x =
      ap (λ j. get_or m.memory j 0) (sym (in_word x)) ∙ byte_is m.memory y (x % 4) (below_four x) s.bytes
      ∙ ap (λ w. byte_in w (x % 4)) (s.words y d.aligned d.high) in
      record {
        to = next (with_result a (byte_at v x) m);
        goes = act_here m v _ s at ∙ ap (λ z. load_byte a z m) (address_is m v b n s r.1 high) ∙ load_byte_goes a x m
            (omega (arith, high, s.extent)) ∙ ap (λ w. Goes (next (with_result a w m))) e;
        shows = shows_result m v a (byte_at v x) s r.0
            (subst (λ w. w < 2 ^ 32) e (let b = s.bytes x in omega (arith, b))) (place_within v _ at);
      }
  step_plain (Load Byte a b (negsuc n)) m v s p at = absurd p.0
  step_plain (Store Word a b (pos n)) m v s p at =
      let x = v.registers b + n in
      let d = p.1 in
      let r = at.ranges in
      record {
        to = next (record m { memory = put_word m.memory x (v.registers a) });
        goes = act_here m v _ s at ∙ ap (λ w. store_word w (address m b (pos n)) m) (s.registers a r.0)
            ∙ ap (λ z. store_word (v.registers a) z m) (address_is m v b n s r.1 (omega (arith, d.high))) ∙ store_goes
            (v.registers a) x m d.aligned (omega (arith, d.high, s.extent));
        shows = shows_store m v x (v.registers a) s d (s.narrow a r.0) (place_within v _ at);
      }
  step_plain (Store Word a b (negsuc n)) m v s p at = absurd p.0
  step_plain (Store Byte a b (pos n)) m v s p at =
      let x = v.registers b + n in
      let d = p.1 in
      let r = at.ranges in
      let y = word_place x in
      let byte = v.registers a % 256 in
      let w = with_byte (v.words y) (x % 4) byte in
      let high : x < size = omega (arith, d.high) in
      let narrow : v.words y < 2 ^ 32 = subst (λ w. w < 2 ^ 32) (s.words y d.aligned d.high)
      (word_below m.memory y s.bytes) in
      let put : set m.memory x byte ≡ put_word m.memory y w =
      ap (λ j. set m.memory j byte) (sym (in_word x)) ∙ byte_put m.memory y (x % 4) byte (below_four x)
      (omega arith) s.bytes ∙ ap (λ z. put_word m.memory y (with_byte z (x % 4) byte)) (s.words y d.aligned d.high)
      in
      record {
        to = next (record m { memory = put_word m.memory y w });
        goes = act_here m v _ s at ∙ ap (λ w. store_byte w (address m b (pos n)) m) (s.registers a r.0)
            ∙ ap (λ z. store_byte (v.registers a) z m) (address_is m v b n s r.1 high) ∙ store_byte_goes
            (v.registers a) x m (omega (arith, high, s.extent)) ∙ ap (λ u. Goes (next (record m { memory = u }))) put;
        shows = shows_store m v y w s d (with_byte_below (v.words y) (x % 4) byte (below_four x) narrow (omega arith))
            (place_within v _ at);
      }
  step_plain (Store Byte a b (negsuc n)) m v s p at = absurd p.0
  step_plain (Branch condition link target) m v s p at = absurd p
