-- Comparisons, as values and as branches.
use Rattle.std.proofs.Common.{◌≡◌, ◌≢◌, ℕ, zero, suc, ◌+◌, ◌<◌, ◌≤◌, ◌⊎◌, inl, inr, Bool, true, false, cond, not, ◌||◌}
use Rattle.std.proofs.Common.{nat_eq, nat_lt, nat_le, List, [], ◌∷◌, length, Option, Some, None, slice_get, ℤ, pos}
use Rattle.std.proofs.Common.{negsuc, ◌-ℤ◌, refl, sym, ap, ◌∙◌, subst, arith}
use Rattle.std.specs.Prelude.{int_lt}
use Rattle.std.proofs.lemmas.Int.{ints}
use Rattle.std.proofs.lemmas.Bool.{cases_eq, eqb-true}
use Rattle.std.proofs.Math.Bool.{not-not}
use Rattle.risc_word.specs.declared.instr.Operation.TheVariants as op
use Rattle.risc_word.specs.declared.instr.Operand as instr
use Rattle.risc_word.specs.declared.instr.Instr.TheVariants as word
use Rattle.risc_machine.specs.Step.{word_of_int, signed, overflows, differ}
use Rattle.risc_machine.specs.declared.limits.TheConstants.{ADDRESSES, SIGN_BIT}
use Rattle.risc_machine_laws.specs.View.{View, operand_view, after, holds_view, subtracted_view}
use Rattle.risc_machine_laws.specs.Numbers.{difference_of}
use Rattle.risc_machine_laws.proofs.Numbers.{signed_word, compare_flags}
use Rattle.tac_code.specs.declared.code.Block.TheVariants as blocks
use Rattle.tac_code.specs.declared.code.Relation.{Relation}
use Rattle.tac_code.specs.declared.code.Relation.TheVariants.{Equal, NotEqual, Less, LessEqual, Greater, GreaterEqual}
use Rattle.tac_code.specs.declared.code.Value.{Value}
use Rattle.tac_code.specs.declared.code.Value.TheVariants.{Number, Address, Routine}
use Rattle.tac_code.specs.Numbers.{is_zero, same_number, compared}
use Rattle.tac_code.specs.Memory.{Words}
use Rattle.tac_code.specs.Meaning.{State, pointer_of, same_pointer, pointers_related, related}
use Rattle.risc_emit_relation.specs.Context.{Context, Places, IsNumber, IsValue, IsLaid}
use Rattle.risc_emit_relation.specs.Context as ctx
use Rattle.risc_emit_relation.specs.Related.{Held}
use Rattle.risc_emit_forms.specs.Forms.{condition}

-- ---- numbers

equal_words : (x y : ℤ) → IsNumber x → IsNumber y → nat_eq (difference_of (word_of_int x) (word_of_int y)) 0
    ≡ same_number x y
equal_words (pos a) (pos b) hx hy = go (cases_eq a b)
  where
    yes : (n m : ℕ) → n ≡ m → nat_eq n m ≡ true
    yes n m e = grind arith

    no : (n m : ℕ) → n ≢ m → nat_eq n m ≡ false
    no n m ne = grind arith

    go : (a ≡ b) ⊎ (a ≢ b) → nat_eq (difference_of (word_of_int (pos a)) (word_of_int (pos b))) 0 ≡ nat_eq a b
    go (inl e) = yes _ _ (omega (arith, ints, hx, hy, e)) ∙ sym (yes a b e)
    go (inr ne) = no _ _ (omega (arith, ints, hx, hy, ne)) ∙ sym (no a b ne)
equal_words (pos a) (negsuc b) hx hy = no _ _ (omega (arith, ints, hx, hy))
  where
    no : (n m : ℕ) → n ≢ m → nat_eq n m ≡ false
    no n m ne = grind arith
equal_words (negsuc a) (pos b) hx hy = no _ _ (omega (arith, ints, hx, hy))
  where
    no : (n m : ℕ) → n ≢ m → nat_eq n m ≡ false
    no n m ne = grind arith
equal_words (negsuc a) (negsuc b) hx hy = go (cases_eq a b)
  where
    yes : (n m : ℕ) → n ≡ m → nat_eq n m ≡ true
    yes n m e = grind arith

    no : (n m : ℕ) → n ≢ m → nat_eq n m ≡ false
    no n m ne = grind arith

    go : (a ≡ b) ⊎ (a ≢ b) → nat_eq (difference_of (word_of_int (negsuc a)) (word_of_int (negsuc b))) 0 ≡ nat_eq a b
    go (inl e) = yes _ _ (omega (arith, ints, hx, hy, e)) ∙ sym (yes a b e)
    go (inr ne) = no _ _ (omega (arith, ints, hx, hy, ne)) ∙ sym (no a b ne)

-- the flags after a difference of the words of two numbers
pub record Differs (x y : ℤ) (v : View) : Type 0 where
  pub equal : v.equal ≡ same_number x y
  pub less : differ v.negative v.overflow ≡ int_lt x y

pub differs : (d a : ℕ) (o : instr.Operand) (x y : ℤ) (v : View) → IsNumber x → IsNumber y → v.registers a
    ≡ word_of_int x → operand_view v o ≡ word_of_int y → Differs x y (after (word.Operate op.Sub d a o) v)
differs d a o x y v hx hy ex ey =
    let e : Differs x y (subtracted_view d (word_of_int x) (word_of_int y) 0 v) = record {
      equal = equal_words x y hx hy;
      less = ap (differ (nat_le SIGN_BIT (difference_of (word_of_int x) (word_of_int y)))) same
          ∙ compare_flags x y hx hy;
    } in
    subst (λ m. Differs x y (subtracted_view d m (operand_view v o) 0 v)) (sym ex)
    (subst (λ n. Differs x y (subtracted_view d (word_of_int x) n 0 v)) (sym ey) e)
  where
    minus_zero : (z : ℤ) → z -ℤ pos 0 ≡ z
    minus_zero z = omega (arith, ints)

    same : overflows (signed (word_of_int x) -ℤ signed (word_of_int y) -ℤ pos 0) ≡ overflows (x -ℤ y)
    same =
        ap (λ z. overflows (z -ℤ signed (word_of_int y) -ℤ pos 0)) (signed_word x hx)
        ∙ ap (λ z. overflows (x -ℤ z -ℤ pos 0)) (signed_word y hy) ∙ ap overflows (minus_zero (x -ℤ y))

-- less or equal is not more
at_most : (x y : ℤ) → int_lt x y || same_number x y ≡ not (int_lt y x)
at_most (pos a) (pos b) = go a b
  where
    go : (a b : ℕ) → nat_lt a b || nat_eq a b ≡ not (nat_lt b a)
    go a b = grind arith
at_most (pos a) (negsuc b) = refl
at_most (negsuc a) (pos b) = refl
at_most (negsuc a) (negsuc b) = go a b
  where
    go : (a b : ℕ) → nat_lt b a || nat_eq a b ≡ not (nat_lt a b)
    go a b = grind arith

pub compared_flags : (relation : Relation) (x y : ℤ) (v : View) → Differs x y v → holds_view v (condition relation)
    ≡ compared relation x y
compared_flags Equal x y v e = e.equal
compared_flags NotEqual x y v e = ap not e.equal
compared_flags Less x y v e = e.less
compared_flags LessEqual x y v e =
    ap (λ t. t || v.equal) e.less ∙ ap (λ t. int_lt x y || t) e.equal ∙ at_most x y
compared_flags Greater x y v e =
    ap not (ap (λ t. t || v.equal) e.less ∙ ap (λ t. int_lt x y || t) e.equal ∙ at_most x y) ∙ not-not (int_lt y x)
compared_flags GreaterEqual x y v e = ap not e.less

-- ---- pointers

module _ (c : Context) (laid : IsLaid c) (p : Places) (s : State) (w : ℕ → ℕ) (f : ℕ) (held : Held c p s w f) where
  some_object : (n : ℕ) → n < p.objects → (ws : Words) × (slice_get s.memory.objects n ≡ Some ws)
  some_object n lt = get_some s.memory.objects n (omega (arith, lt, held.objects.count))
    where
      get_some : {X : Type 0} (xs : List X) (n : ℕ) → n < length xs → (x : X) × (slice_get xs n ≡ Some x)
      get_some [] n lt = absurd (omega (arith, lt))
      get_some (x ∷ xs) zero lt = (x, refl)
      get_some (x ∷ xs) (suc n) lt = get_some xs n (omega (arith, lt))

  -- objects have addresses of their own, and none is 0
  pub object_high : (n : ℕ) → n < p.objects → 4 ≤ p.object n
  object_high n lt =
      let o = some_object n lt in
      let k = held.objects.each n o.0 o.1 in
      omega (arith, laid.order.0, k.low)

  objects_apart : (m n : ℕ) → m < p.objects → n < p.objects → m < n → p.object m < p.object n
  objects_apart m n lm ln lt =
      let a = some_object m lm in
      let d = some_object n ln in
      let r = held.objects.rise m n a.0 d.0 lt a.1 d.1 in
      omega (arith, r.0)

  -- the word of a pointer
  abbrev pub pointer_word : Option ℕ → ℕ
  pointer_word None = 0
  pointer_word (Some n) = p.object n

  pub record Points (x : Value) (q : Option ℕ) : Type 0 where
    pub is : ctx.word c p x ≡ pointer_word q
    pub named : (n : ℕ) → q ≡ Some n → n < p.objects

  pub points : (x : Value) (q : Option ℕ) → IsValue c p x → pointer_of (Some x) ≡ Some q → Points x q
  points (Number z) q good e = go (is_zero z) refl e
    where
      zero_is : (z : ℤ) → is_zero z ≡ true → ctx.word c p (Number z) ≡ 0
      zero_is (pos zero) e = refl
      zero_is (pos (suc n)) e = absurd (cc e)
      zero_is (negsuc n) e = absurd (cc e)

      go : (t : Bool) → is_zero z ≡ t → cond t (Some None) None ≡ Some q → Points (Number z) q
      go true is e =
          let n : None ≡ q = cc e in
          record { is = zero_is z is ∙ ap pointer_word n; named = λ k ek. absurd (cc (n ∙ ek)) }
      go false is e = absurd (cc e)
  points (Address (blocks.Object k) o) q good e = go (nat_eq o 0) refl e
    where
      go : (t : Bool) → nat_eq o 0 ≡ t → cond t (Some (Some k)) None ≡ Some q → Points (Address (blocks.Object k) o) q
      go true is e =
          let n : Some k ≡ q = cc e in
          let z = eqb-true o 0 is in
          let at : p.object k + o ≡ p.object k = omega (arith, z) in
          record {
            is = at ∙ ap pointer_word n;
            named = λ j ej. let same : k ≡ j = cc (n ∙ ej) in subst (λ x. x < p.objects) same good.0;
          }
      go false is e = absurd (cc e)
  points (Address (blocks.Frame k) o) q good e = absurd (cc e)
  points (Address (blocks.Scratch k) o) q good e = absurd (cc e)
  points (Address (blocks.Constant r k) o) q good e = absurd (cc e)
  points (Routine r) q good e = absurd (cc e)

  same_yes : (a d : ℕ) → a ≡ d → nat_eq a d ≡ true
  same_yes a d e = grind arith

  same_no : (a d : ℕ) → a ≢ d → nat_eq a d ≡ false
  same_no a d ne = grind arith

  sides : (a d : ℕ) → a ≢ d → (a < d) ⊎ (d < a)
  sides a d ne = grind arith

  pub pointer_words : (x y : Option ℕ) → ((n : ℕ) → x ≡ Some n → n < p.objects) → ((n : ℕ) → y ≡ Some n → n < p.objects)
      → nat_eq (pointer_word x) (pointer_word y) ≡ same_pointer x y
  pointer_words None None hx hy = refl
  pointer_words None (Some n) hx hy = same_no _ _ (let h = object_high n (hy n refl) in omega (arith, h))
  pointer_words (Some m) None hx hy = same_no _ _ (let h = object_high m (hx m refl) in omega (arith, h))
  pointer_words (Some m) (Some n) hx hy = go (cases_eq m n)
    where
      far : (m < n) ⊎ (n < m) → p.object m ≢ p.object n
      far (inl lt) = let z = objects_apart m n (hx m refl) (hy n refl) lt in omega (arith, z)
      far (inr lt) = let z = objects_apart n m (hy n refl) (hx m refl) lt in omega (arith, z)

      go : (m ≡ n) ⊎ (m ≢ n) → nat_eq (p.object m) (p.object n) ≡ nat_eq m n
      go (inl e) = same_yes _ _ (ap p.object e) ∙ sym (same_yes m n e)
      go (inr ne) = same_no _ _ (far (sides m n ne)) ∙ sym (same_no m n ne)

  pointer_low : (q : Option ℕ) → pointer_word q < ADDRESSES
  pointer_low None = omega arith
  pointer_low (Some n) = held.places.object n

  zero_difference : (a d : ℕ) → a < ADDRESSES → d < ADDRESSES → nat_eq (difference_of a d) 0 ≡ nat_eq a d
  zero_difference a d la ld = go (cases_eq a d)
    where
      go : (a ≡ d) ⊎ (a ≢ d) → nat_eq (difference_of a d) 0 ≡ nat_eq a d
      go (inl e) = same_yes _ _ (omega (arith, e, la, ld)) ∙ sym (same_yes a d e)
      go (inr ne) = same_no _ _ (omega (arith, ne, la, ld)) ∙ sym (same_no a d ne)

  -- Z after the difference of two pointers
  pointer_flag : (x y : Value) (q r : Option ℕ) → Points x q → Points y r → nat_eq
      (difference_of (ctx.word c p x) (ctx.word c p y)) 0 ≡ same_pointer q r
  pointer_flag x y q r hx hy =
      ap (λ a. nat_eq (difference_of a (ctx.word c p y)) 0) hx.is
      ∙ ap (λ d. nat_eq (difference_of (pointer_word q) d) 0) hy.is ∙ zero_difference (pointer_word q)
      (pointer_word r) (pointer_low q) (pointer_low r) ∙ pointer_words q r hx.named hy.named

  -- Z after the difference of two words
  flag : (x y : Value) (d a : ℕ) (o : instr.Operand) (v : View) → v.registers a ≡ ctx.word c p x → operand_view v o
      ≡ ctx.word c p y → (after (word.Operate op.Sub d a o) v).equal ≡ nat_eq
      (difference_of (ctx.word c p x) (ctx.word c p y)) 0
  flag x y d a o v ex ey =
      ap (λ m. nat_eq (difference_of m (operand_view v o)) 0) ex
      ∙ ap (λ n. nat_eq (difference_of (ctx.word c p x) n) 0) ey

  -- ---- two values as a relation says

  by_pointers : (relation : Relation) (x y : Value) (holds : Bool) (d a : ℕ) (o : instr.Operand) (v : View)
      → IsValue c p x → IsValue c p y → v.registers a ≡ ctx.word c p x → operand_view v o ≡ ctx.word c p y
      → (q r : Option (Option ℕ)) → pointer_of (Some x) ≡ q → pointer_of (Some y) ≡ r → pointers_related relation q r
      ≡ Some holds → holds_view (after (word.Operate op.Sub d a o) v) (condition relation) ≡ holds
  by_pointers Equal x y holds d a o v gx gy ex ey (Some q) (Some r) eq er e =
      let z : same_pointer q r ≡ holds = cc e in
      flag x y d a o v ex ey ∙ pointer_flag x y q r (points x q gx eq) (points y r gy er) ∙ z
  by_pointers NotEqual x y holds d a o v gx gy ex ey (Some q) (Some r) eq er e =
      let z : not (same_pointer q r) ≡ holds = cc e in
      ap not (flag x y d a o v ex ey ∙ pointer_flag x y q r (points x q gx eq) (points y r gy er)) ∙ z
  by_pointers Equal x y holds d a o v gx gy ex ey None r eq er e = absurd (cc e)
  by_pointers Equal x y holds d a o v gx gy ex ey (Some q) None eq er e = absurd (cc e)
  by_pointers NotEqual x y holds d a o v gx gy ex ey None r eq er e = absurd (cc e)
  by_pointers NotEqual x y holds d a o v gx gy ex ey (Some q) None eq er e = absurd (cc e)
  by_pointers Less x y holds d a o v gx gy ex ey q r eq er e = absurd (cc e)
  by_pointers LessEqual x y holds d a o v gx gy ex ey q r eq er e = absurd (cc e)
  by_pointers Greater x y holds d a o v gx gy ex ey q r eq er e = absurd (cc e)
  by_pointers GreaterEqual x y holds d a o v gx gy ex ey q r eq er e = absurd (cc e)

  pub related_flags : (relation : Relation) (x y : Value) (holds : Bool) (d a : ℕ) (o : instr.Operand) (v : View)
      → IsValue c p x → IsValue c p y → v.registers a ≡ ctx.word c p x → operand_view v o ≡ ctx.word c p y
      → related relation (Some x) (Some y) ≡ Some holds → holds_view (after (word.Operate op.Sub d a o) v)
      (condition relation) ≡ holds
  related_flags relation (Number x) (Number y) holds d a o v gx gy ex ey e =
      compared_flags relation x y (after (word.Operate op.Sub d a o) v) (differs d a o x y v gx gy ex ey)
      ∙ (let z : compared relation x y ≡ holds = cc e in z)
  related_flags relation (Number x) (Address b n) holds d a o v gx gy ex ey e =
      by_pointers relation (Number x) (Address b n) holds d a o v gx gy ex ey (pointer_of (Some (Number x)))
      (pointer_of (Some (Address b n))) refl refl e
  related_flags relation (Number x) (Routine r) holds d a o v gx gy ex ey e =
      by_pointers relation (Number x) (Routine r) holds d a o v gx gy ex ey
      (pointer_of (Some (Number x))) None refl refl e
  related_flags relation (Address b n) y holds d a o v gx gy ex ey e =
      by_pointers relation (Address b n) y holds d a o v gx gy ex ey (pointer_of (Some (Address b n)))
      (pointer_of (Some y)) refl refl e
  related_flags relation (Routine r) y holds d a o v gx gy ex ey e =
      by_pointers relation (Routine r) y holds d a o v gx gy ex ey None (pointer_of (Some y)) refl refl e
