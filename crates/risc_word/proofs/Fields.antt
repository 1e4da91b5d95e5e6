-- What the fields of a word denote: an instruction that spells it, or none.
use Rattle.std.proofs.Common.{ℕ, ◌+◌, ◌-◌, ◌*◌, ◌<◌, ◌≤◌, Bool, true, false, cond, eqb, ltb, Option, Some, None, pos}
use Rattle.std.proofs.Common.{negsuc, refl, sym, ap, ◌∙◌, subst, arith, ◌≡◌}
use Rattle.std.specs.Prelude.{◌≤ℤ◌}
use Rattle.std.proofs.lemmas.Int.{ints}
use Rattle.std.proofs.lemmas.Bool.{eqb-true, ltb-true}
use Rattle.risc_word.specs.declared.instr.Operation.{Operation}
use Rattle.risc_word.specs.declared.instr.Operation.TheVariants.{Lsl, Asr, Ror, And, Ann, Ior, Xor, Add, Sub, Mul, Div}
use Rattle.risc_word.specs.declared.instr.Operation.TheVariants.{Adc, Sbc}
use Rattle.risc_word.specs.declared.instr.Operand.{Operand}
use Rattle.risc_word.specs.declared.instr.Operand.TheVariants.{Content, Constant}
use Rattle.risc_word.specs.declared.instr.Width.{Width}
use Rattle.risc_word.specs.declared.instr.Width.TheVariants.{Word, Byte}
use Rattle.risc_word.specs.declared.instr.Condition.{Condition}
use Rattle.risc_word.specs.declared.instr.Condition.TheVariants.{Minus, Equal, CarrySet, OverflowSet, Less, LessEqual}
use Rattle.risc_word.specs.declared.instr.Condition.TheVariants.{Always, Plus, NotEqual, CarryClear, OverflowClear}
use Rattle.risc_word.specs.declared.instr.Condition.TheVariants.{GreaterEqual, Greater, Never}
use Rattle.risc_word.specs.declared.instr.Target.{Target}
use Rattle.risc_word.specs.declared.instr.Target.TheVariants.{Relative, Absolute}
use Rattle.risc_word.specs.declared.instr.Instr.{Instr}
use Rattle.risc_word.specs.declared.instr.Instr.TheVariants.{Move, MoveTop, MoveHigh, Operate, Load, Store, Branch}
use Rattle.risc_word.specs.Words.{code_of, carry_of, condition_code, byte_of, link_of, bits_of, IsImmediate}
use Rattle.risc_word.specs.Words.{operation_at, condition_at, immediate_at, signed_at, operate, register_form}
use Rattle.risc_word.specs.Words.{immediate_form, branch, absolute_form, of_fields}
use Rattle.risc_word.proofs.Assembled.{Spells, assemble, operand_low, operand_top, with_distance, with_offset}

-- ---- from the word to the instruction

-- a choice that gave a value
pick : {A : Type 0} (b : Bool) (x : A) (rest : Option A) (o : A) → cond b (Some x) rest ≡ Some o → (P : Type 0)
    → (b ≡ true → x ≡ o → P) → (rest ≡ Some o → P) → P
pick true x rest o h P hit miss = hit refl (cc h)
pick false x rest o h P hit miss = miss h

-- a choice between two other choices
fork : {A : Type 0} (b : Bool) (x y : Option A) (o : A) → cond b x y ≡ Some o → (P : Type 0)
    → (b ≡ true → x ≡ Some o → P) → (b ≡ false → y ≡ Some o → P) → P
fork true x y o h P hit miss = hit refl h
fork false x y o h P hit miss = miss refl h

pub none_some : {A : Type 0} (o : A) → ◌≡◌ {A = Option A} None (Some o) → ⊥
none_some o h = cc h

abbrev IsOperation : Bool → ℕ → Operation → Type 0
IsOperation carry n o = (code_of o ≡ n) × (carry_of o ≡ link_of carry)

operation_leaf : (carry : Bool) (n k : ℕ) (x o : Operation) → eqb n k ≡ true → x ≡ o → IsOperation carry k x
    → IsOperation carry n o
operation_leaf carry n k x o e f h = subst (IsOperation carry n) f (h.0 ∙ sym (eqb-true n k e), h.1)

condition_leaf : (n k : ℕ) (x o : Condition) → eqb n k ≡ true → x ≡ o → condition_code x ≡ k → condition_code o ≡ n
condition_leaf n k x o e f h = subst (λ c. condition_code c ≡ n) f (h ∙ sym (eqb-true n k e))

operation_is : (carry : Bool) (n : ℕ) (o : Operation) → operation_at carry n ≡ Some o → IsOperation carry n o
operation_is true n o h = pick {A = Operation} (eqb n 8) Adc (cond (eqb n 9) (Some Sbc) None) o h (IsOperation true n o)
    (λ e f. operation_leaf true n 8 Adc o e f (refl, refl))
    (λ h2. pick {A = Operation} (eqb n 9) Sbc None o h2 (IsOperation true n o)
    (λ e f. operation_leaf true n 9 Sbc o e f (refl, refl)) (λ h1. absurd (none_some o h1)))
operation_is false n o h = pick {A = Operation} (eqb n 1) Lsl
    (cond (eqb n 2) (Some Asr) (cond (eqb n 3) (Some Ror)
    (cond (eqb n 4) (Some And) (cond (eqb n 5) (Some Ann)
    (cond (eqb n 6) (Some Ior) (cond (eqb n 7) (Some Xor)
    (cond (eqb n 8) (Some Add) (cond (eqb n 9) (Some Sub)
    (cond (eqb n 10) (Some Mul) (cond (eqb n 11) (Some Div) None)))))))))) o h (IsOperation false n o)
    (λ e f. operation_leaf false n 1 Lsl o e f (refl, refl))
    (λ h11. pick {A = Operation} (eqb n 2) Asr
    (cond (eqb n 3) (Some Ror) (cond (eqb n 4) (Some And)
    (cond (eqb n 5) (Some Ann) (cond (eqb n 6) (Some Ior)
    (cond (eqb n 7) (Some Xor) (cond (eqb n 8) (Some Add)
    (cond (eqb n 9) (Some Sub) (cond (eqb n 10) (Some Mul) (cond (eqb n 11) (Some Div) None))))))))) o h11
    (IsOperation false n o) (λ e f. operation_leaf false n 2 Asr o e f (refl, refl))
    (λ h10. pick {A = Operation} (eqb n 3) Ror
    (cond (eqb n 4) (Some And) (cond (eqb n 5) (Some Ann)
    (cond (eqb n 6) (Some Ior) (cond (eqb n 7) (Some Xor)
    (cond (eqb n 8) (Some Add) (cond (eqb n 9) (Some Sub)
    (cond (eqb n 10) (Some Mul) (cond (eqb n 11) (Some Div) None)))))))) o h10 (IsOperation false n o)
    (λ e f. operation_leaf false n 3 Ror o e f (refl, refl))
    (λ h9. pick {A = Operation} (eqb n 4) And
    (cond (eqb n 5) (Some Ann) (cond (eqb n 6) (Some Ior)
    (cond (eqb n 7) (Some Xor) (cond (eqb n 8) (Some Add)
    (cond (eqb n 9) (Some Sub) (cond (eqb n 10) (Some Mul) (cond (eqb n 11) (Some Div) None))))))) o h9
    (IsOperation false n o) (λ e f. operation_leaf false n 4 And o e f (refl, refl))
    (λ h8. pick {A = Operation} (eqb n 5) Ann
    (cond (eqb n 6) (Some Ior) (cond (eqb n 7) (Some Xor)
    (cond (eqb n 8) (Some Add) (cond (eqb n 9) (Some Sub)
    (cond (eqb n 10) (Some Mul) (cond (eqb n 11) (Some Div) None)))))) o h8 (IsOperation false n o)
    (λ e f. operation_leaf false n 5 Ann o e f (refl, refl))
    (λ h7. pick {A = Operation} (eqb n 6) Ior
    (cond (eqb n 7) (Some Xor) (cond (eqb n 8) (Some Add)
    (cond (eqb n 9) (Some Sub) (cond (eqb n 10) (Some Mul) (cond (eqb n 11) (Some Div) None))))) o h7
    (IsOperation false n o) (λ e f. operation_leaf false n 6 Ior o e f (refl, refl))
    (λ h6. pick {A = Operation} (eqb n 7) Xor
    (cond (eqb n 8) (Some Add) (cond (eqb n 9) (Some Sub)
    (cond (eqb n 10) (Some Mul) (cond (eqb n 11) (Some Div) None)))) o h6 (IsOperation false n o)
    (λ e f. operation_leaf false n 7 Xor o e f (refl, refl))
    (λ h5. pick {A = Operation} (eqb n 8) Add
    (cond (eqb n 9) (Some Sub) (cond (eqb n 10) (Some Mul) (cond (eqb n 11) (Some Div) None))) o h5
    (IsOperation false n o) (λ e f. operation_leaf false n 8 Add o e f (refl, refl))
    (λ h4. pick {A = Operation} (eqb n 9) Sub (cond (eqb n 10) (Some Mul) (cond (eqb n 11) (Some Div) None)) o h4
    (IsOperation false n o) (λ e f. operation_leaf false n 9 Sub o e f (refl, refl))
    (λ h3. pick {A = Operation} (eqb n 10) Mul (cond (eqb n 11) (Some Div) None) o h3 (IsOperation false n o)
    (λ e f. operation_leaf false n 10 Mul o e f (refl, refl))
    (λ h2. pick {A = Operation} (eqb n 11) Div None o h2 (IsOperation false n o)
    (λ e f. operation_leaf false n 11 Div o e f (refl, refl)) (λ h1. absurd (none_some o h1))))))))))))

condition_is : (n : ℕ) (o : Condition) → condition_at n ≡ Some o → condition_code o ≡ n
condition_is n o h = pick {A = Condition} (eqb n 0) Minus
    (cond (eqb n 1) (Some Equal) (cond (eqb n 2) (Some CarrySet)
    (cond (eqb n 3) (Some OverflowSet) (cond (eqb n 5) (Some Less)
    (cond (eqb n 6) (Some LessEqual) (cond (eqb n 7) (Some Always)
    (cond (eqb n 8) (Some Plus) (cond (eqb n 9) (Some NotEqual)
    (cond (eqb n 10) (Some CarryClear) (cond (eqb n 11) (Some OverflowClear)
    (cond (eqb n 13) (Some GreaterEqual) (cond (eqb n 14) (Some Greater) (cond (eqb n 15) (Some Never) None)))))))))))))
    o h (condition_code o ≡ n) (λ e f. condition_leaf n 0 Minus o e f refl)
    (λ h14. pick {A = Condition} (eqb n 1) Equal
    (cond (eqb n 2) (Some CarrySet) (cond (eqb n 3) (Some OverflowSet)
    (cond (eqb n 5) (Some Less) (cond (eqb n 6) (Some LessEqual)
    (cond (eqb n 7) (Some Always) (cond (eqb n 8) (Some Plus)
    (cond (eqb n 9) (Some NotEqual) (cond (eqb n 10) (Some CarryClear)
    (cond (eqb n 11) (Some OverflowClear) (cond (eqb n 13) (Some GreaterEqual)
    (cond (eqb n 14) (Some Greater) (cond (eqb n 15) (Some Never) None)))))))))))) o h14 (condition_code o ≡ n)
    (λ e f. condition_leaf n 1 Equal o e f refl)
    (λ h13. pick {A = Condition} (eqb n 2) CarrySet
    (cond (eqb n 3) (Some OverflowSet) (cond (eqb n 5) (Some Less)
    (cond (eqb n 6) (Some LessEqual) (cond (eqb n 7) (Some Always)
    (cond (eqb n 8) (Some Plus) (cond (eqb n 9) (Some NotEqual)
    (cond (eqb n 10) (Some CarryClear) (cond (eqb n 11) (Some OverflowClear)
    (cond (eqb n 13) (Some GreaterEqual) (cond (eqb n 14) (Some Greater) (cond (eqb n 15) (Some Never) None))))))))))) o
    h13 (condition_code o ≡ n) (λ e f. condition_leaf n 2 CarrySet o e f refl)
    (λ h12. pick {A = Condition} (eqb n 3) OverflowSet
    (cond (eqb n 5) (Some Less) (cond (eqb n 6) (Some LessEqual)
    (cond (eqb n 7) (Some Always) (cond (eqb n 8) (Some Plus)
    (cond (eqb n 9) (Some NotEqual) (cond (eqb n 10) (Some CarryClear)
    (cond (eqb n 11) (Some OverflowClear) (cond (eqb n 13) (Some GreaterEqual)
    (cond (eqb n 14) (Some Greater) (cond (eqb n 15) (Some Never) None)))))))))) o h12 (condition_code o ≡ n)
    (λ e f. condition_leaf n 3 OverflowSet o e f refl)
    (λ h11. pick {A = Condition} (eqb n 5) Less
    (cond (eqb n 6) (Some LessEqual) (cond (eqb n 7) (Some Always)
    (cond (eqb n 8) (Some Plus) (cond (eqb n 9) (Some NotEqual)
    (cond (eqb n 10) (Some CarryClear) (cond (eqb n 11) (Some OverflowClear)
    (cond (eqb n 13) (Some GreaterEqual) (cond (eqb n 14) (Some Greater) (cond (eqb n 15) (Some Never) None))))))))) o
    h11 (condition_code o ≡ n) (λ e f. condition_leaf n 5 Less o e f refl)
    (λ h10. pick {A = Condition} (eqb n 6) LessEqual
    (cond (eqb n 7) (Some Always) (cond (eqb n 8) (Some Plus)
    (cond (eqb n 9) (Some NotEqual) (cond (eqb n 10) (Some CarryClear)
    (cond (eqb n 11) (Some OverflowClear) (cond (eqb n 13) (Some GreaterEqual)
    (cond (eqb n 14) (Some Greater) (cond (eqb n 15) (Some Never) None)))))))) o h10 (condition_code o ≡ n)
    (λ e f. condition_leaf n 6 LessEqual o e f refl)
    (λ h9. pick {A = Condition} (eqb n 7) Always
    (cond (eqb n 8) (Some Plus) (cond (eqb n 9) (Some NotEqual)
    (cond (eqb n 10) (Some CarryClear) (cond (eqb n 11) (Some OverflowClear)
    (cond (eqb n 13) (Some GreaterEqual) (cond (eqb n 14) (Some Greater) (cond (eqb n 15) (Some Never) None))))))) o h9
    (condition_code o ≡ n) (λ e f. condition_leaf n 7 Always o e f refl)
    (λ h8. pick {A = Condition} (eqb n 8) Plus
    (cond (eqb n 9) (Some NotEqual) (cond (eqb n 10) (Some CarryClear)
    (cond (eqb n 11) (Some OverflowClear) (cond (eqb n 13) (Some GreaterEqual)
    (cond (eqb n 14) (Some Greater) (cond (eqb n 15) (Some Never) None)))))) o h8 (condition_code o ≡ n)
    (λ e f. condition_leaf n 8 Plus o e f refl)
    (λ h7. pick {A = Condition} (eqb n 9) NotEqual
    (cond (eqb n 10) (Some CarryClear) (cond (eqb n 11) (Some OverflowClear)
    (cond (eqb n 13) (Some GreaterEqual) (cond (eqb n 14) (Some Greater) (cond (eqb n 15) (Some Never) None))))) o h7
    (condition_code o ≡ n) (λ e f. condition_leaf n 9 NotEqual o e f refl)
    (λ h6. pick {A = Condition} (eqb n 10) CarryClear
    (cond (eqb n 11) (Some OverflowClear) (cond (eqb n 13) (Some GreaterEqual)
    (cond (eqb n 14) (Some Greater) (cond (eqb n 15) (Some Never) None)))) o h6 (condition_code o ≡ n)
    (λ e f. condition_leaf n 10 CarryClear o e f refl)
    (λ h5. pick {A = Condition} (eqb n 11) OverflowClear
    (cond (eqb n 13) (Some GreaterEqual) (cond (eqb n 14) (Some Greater) (cond (eqb n 15) (Some Never) None))) o h5
    (condition_code o ≡ n) (λ e f. condition_leaf n 11 OverflowClear o e f refl)
    (λ h4. pick {A = Condition} (eqb n 13) GreaterEqual
    (cond (eqb n 14) (Some Greater) (cond (eqb n 15) (Some Never) None)) o h4 (condition_code o ≡ n)
    (λ e f. condition_leaf n 13 GreaterEqual o e f refl)
    (λ h3. pick {A = Condition} (eqb n 14) Greater (cond (eqb n 15) (Some Never) None) o h3 (condition_code o ≡ n)
    (λ e f. condition_leaf n 14 Greater o e f refl)
    (λ h2. pick {A = Condition} (eqb n 15) Never None o h2 (condition_code o ≡ n)
    (λ e f. condition_leaf n 15 Never o e f refl) (λ h1. absurd (none_some o h1)))))))))))))))

-- an operation that is there
operate_is : (carry : Bool) (op a b : ℕ) (n : Operand) (i : Instr) → operate (operation_at carry op) a b n ≡ Some i
    → (o : Operation) × IsOperation carry op o × (i ≡ Operate o a b n)
operate_is carry op a b n i h = go (operation_at carry op) refl h
  where
    go : (x : Option Operation) → operation_at carry op ≡ x → operate x a b n ≡ Some i → (o : Operation)
        × IsOperation carry op o × (i ≡ Operate o a b n)
    go None e h = absurd (none_some i h)
    go (Some o) e h = (o, operation_is carry op o e, cc h)

branch_is : (code : ℕ) (link : Bool) (t : Target) (i : Instr) → branch (condition_at code) link t ≡ Some i
    → (c : Condition) × (condition_code c ≡ code) × (i ≡ Branch c link t)
branch_is code link t i h = go (condition_at code) refl h
  where
    go : (x : Option Condition) → condition_at code ≡ x → branch x link t ≡ Some i → (c : Condition)
        × (condition_code c ≡ code) × (i ≡ Branch c link t)
    go None e h = absurd (none_some i h)
    go (Some c) e h = (c, condition_is code c e, cc h)

-- F0
register_denotes : (carry : Bool) (a b op low : ℕ) (i : Instr) → a < 16 → b < 16 → register_form carry a b op low
    ≡ Some i → Spells (assemble (2 * link_of carry) a b op low) i
register_denotes carry a b op low i ha hb h =
    fork (eqb op 0) _ _ i h (Spells (assemble (2 * link_of carry) a b op low) i)
    (λ e h1. fork (eqb b 0) _ _ i h1 (Spells (assemble (2 * link_of carry) a b op low) i)
    (λ f h2. moves carry (eqb-true op 0 e) (eqb-true b 0 f) h2)
    (λ f h2. absurd (none_some i h2)))
    (λ e h1. fork (ltb low 16) _ _ i h1 (Spells (assemble (2 * link_of carry) a b op low) i)
    (λ f h2.
    let x = operate_is carry op a b (Content low) i h2 in
    let lt = ltb-true low 16 f in
    let table : assemble (2 * carry_of x.0 + 0) a b (code_of x.0) low ≡ assemble
    (2 * link_of carry) a b op low = same_fields x.1.1 x.1.0 in
    subst (Spells (assemble (2 * link_of carry) a b op low)) (sym x.2) (record {
      ranges = (ha, hb, lt);
      table = table;
    }))
    (λ f h2. absurd (none_some i h2)))
  where
    same_fields : {c c' o o' : ℕ} → c ≡ c' → o ≡ o' → assemble (2 * c + 0) a b o low ≡ assemble (2 * c') a b o' low
    same_fields e f = omega arith

    moves : (carry : Bool) → op ≡ 0 → b ≡ 0 → cond carry (cond (eqb low 0) (Some (MoveHigh a)) None)
        (cond (ltb low 16) (Some (Move a (Content low))) None) ≡ Some i → Spells
        (assemble (2 * link_of carry) a b op low) i
    moves true e f h =
        fork (eqb low 0) _ _ i h (Spells (assemble 2 a b op low) i)
        (λ g k. let z = eqb-true low 0 g in let same : MoveHigh a ≡ i = cc k in subst
        (Spells (assemble 2 a b op low)) same (record {
          ranges = ha;
          table = zeros e f z;
        }))
        (λ g k. absurd (none_some i k))
      where
        zeros : op ≡ 0 → b ≡ 0 → low ≡ 0 → assemble 2 a 0 0 0 ≡ assemble 2 a b op low
        zeros e f z = omega arith
    moves false e f h =
        fork (ltb low 16) _ _ i h (Spells (assemble 0 a b op low) i)
        (λ g k. let lt = ltb-true low 16 g in let same : Move a (Content low) ≡ i = cc k in subst
        (Spells (assemble 0 a b op low)) same (record {
          ranges = (ha, lt);
          table = zeros e f;
        }))
        (λ g k. absurd (none_some i k))
      where
        zeros : op ≡ 0 → b ≡ 0 → assemble 0 a 0 0 low ≡ assemble 0 a b op low
        zeros e f = omega arith

-- F1
immediate_denotes : (carry sign : Bool) (a b op low : ℕ) (i : Instr) → a < 16 → b < 16 → low < 65536
    → immediate_form carry sign a b op low ≡ Some i → Spells
    (assemble (4 + 2 * link_of carry + link_of sign) a b op low) i
immediate_denotes carry sign a b op low i ha hb hl h =
    fork (eqb op 0) _ _ i h (Spells (assemble (4 + 2 * link_of carry + link_of sign) a b op low) i)
    (λ e h1. fork (eqb b 0) _ _ i h1 (Spells (assemble (4 + 2 * link_of carry + link_of sign) a b op low) i)
    (λ f h2. moves carry sign (eqb-true op 0 e) (eqb-true b 0 f) h2)
    (λ f h2. absurd (none_some i h2)))
    (λ e h1.
    let x = operate_is carry op a b (Constant (immediate_at sign low)) i h1 in
    subst (Spells (assemble (4 + 2 * link_of carry + link_of sign) a b op low)) (sym x.2) (record {
      ranges = (ha, hb, range sign);
      table = table sign x.0 x.1;
    }))
  where
    range : (sign : Bool) → IsImmediate (immediate_at sign low)
    range true = (omega (arith, ints), omega (arith, ints))
    range false = (omega (arith, ints), omega (arith, ints))

    table : (sign : Bool) (o : Operation) → IsOperation carry op o → assemble
        (2 * carry_of o + operand_top (Constant (immediate_at sign low))) a b (code_of o)
        (operand_low (Constant (immediate_at sign low))) ≡ assemble (4 + 2 * link_of carry + link_of sign) a b op low
    table true o x = omega (arith, x.0, x.1)
    table false o x = omega (arith, x.0, x.1)

    moves : (carry sign : Bool) → op ≡ 0 → b ≡ 0 → cond carry (cond sign None (Some (MoveTop a low)))
        (Some (Move a (Constant (immediate_at sign low)))) ≡ Some i → Spells
        (assemble (4 + 2 * link_of carry + link_of sign) a b op low) i
    moves true true e f h = absurd (none_some i h)
    moves true false e f h =
        let same : MoveTop a low ≡ i = cc h in
        let t : assemble 6 a 0 0 low ≡ assemble (4 + 2 * 1 + 0) a b op low = omega arith in
        subst (Spells (assemble (4 + 2 * 1 + 0) a b op low)) same (record { ranges = (ha, hl); table = t })
    moves false true e f h =
        let same : Move a (Constant (immediate_at true low)) ≡ i = cc h in
        let t : assemble (4 + 1) a 0 0 (65535 - (65535 - low)) ≡ assemble (4 + 2 * 0 + 1) a b op low = omega arith in
        subst (Spells (assemble (4 + 2 * 0 + 1) a b op low)) same (record { ranges = (ha, range true); table = t })
    moves false false e f h =
        let same : Move a (Constant (immediate_at false low)) ≡ i = cc h in
        let t : assemble (4 + 0) a 0 0 low ≡ assemble (4 + 2 * 0 + 0) a b op low = omega arith in
        subst (Spells (assemble (4 + 2 * 0 + 0) a b op low)) same (record { ranges = (ha, range false); table = t })

-- signed numbers
bits_signed : (half n : ℕ) → 0 < half → n < 2 * half → bits_of (2 * half) (signed_at half n) ≡ n
bits_signed half n h lt =
    elim (ltb n half) as (λ b. bits_of (2 * half) (cond b (pos n) (negsuc (2 * half - 1 - n))) ≡ n)
    [ true ↦ refl | false ↦ omega arith ]

signed_low : (half n : ℕ) → 0 < half → n < 2 * half → (negsuc (half - 1) ≤ℤ signed_at half n)
    × (signed_at half n ≤ℤ pos (half - 1))
signed_low half n h lt = go (ltb n half) refl
  where
    go : (b : Bool) → ltb n half ≡ b → (negsuc (half - 1) ≤ℤ cond b (pos n) (negsuc (2 * half - 1 - n)))
        × (cond b (pos n) (negsuc (2 * half - 1 - n)) ≤ℤ pos (half - 1))
    go true e = let l = ltb-true n half e in (omega (arith, ints), omega (arith, ints))
    go false e = let l = not_less n half e in (omega (arith, ints), omega (arith, ints))
      where
        not_less : (n m : ℕ) → ltb n m ≡ false → m ≤ n
        not_less n m h = grind arith

absolute_denotes : (link : Bool) (a far : ℕ) (i : Instr) → absolute_form link a far ≡ Some i → Spells
    ((12 + link_of link) * 268435456 + a * 16777216 + far) i
absolute_denotes link a far i h =
    fork (ltb far 16) _ _ i h (Spells ((12 + link_of link) * 268435456 + a * 16777216 + far) i)
    (λ e h1.
    let x = branch_is a link (Absolute far) i h1 in
    let t : assemble (12 + link_of link) (condition_code x.0) 0 0 far ≡ (12 + link_of link) * 268435456 + a * 16777216
    + far = omega (arith, x.1) in
    subst (Spells ((12 + link_of link) * 268435456 + a * 16777216 + far)) (sym x.2) (record {
      ranges = ltb-true far 16 e;
      table = t;
    }))
    (λ e h1. absurd (none_some i h1))

relative_denotes : (link : Bool) (a far : ℕ) (i : Instr) → far < 16777216 → branch (condition_at a) link
    (Relative (signed_at 8388608 far)) ≡ Some i → Spells ((14 + link_of link) * 268435456 + a * 16777216 + far) i
relative_denotes link a far i lt h =
    let x = branch_is a link (Relative (signed_at 8388608 far)) i h in
    let bits = bits_signed 8388608 far (omega arith) lt in
    let t : with_distance (14 + link_of link) (condition_code x.0) (bits_of 16777216 (signed_at 8388608 far))
    ≡ (14 + link_of link) * 268435456 + a * 16777216 + far = rw bits (omega (arith, x.1)) in
    subst (Spells ((14 + link_of link) * 268435456 + a * 16777216 + far)) (sym x.2) (record {
      ranges = signed_low 8388608 far (omega arith) lt;
      table = t;
    })

load_denotes : (w : Width) (a b mem : ℕ) (i : Instr) → a < 16 → b < 16 → mem < 1048576 → Some
    (Load w a b (signed_at 524288 mem)) ≡ Some i → Spells (with_offset (8 + byte_of w) a b mem) i
load_denotes w a b mem i ha hb lt h =
    let same : Load w a b (signed_at 524288 mem) ≡ i = cc h in
    subst (Spells (with_offset (8 + byte_of w) a b mem)) same (record {
      ranges = (ha, hb, signed_low 524288 mem (omega arith) lt);
      table = ap (with_offset (8 + byte_of w) a b) (bits_signed 524288 mem (omega arith) lt);
    })

store_denotes : (w : Width) (a b mem : ℕ) (i : Instr) → a < 16 → b < 16 → mem < 1048576 → Some
    (Store w a b (signed_at 524288 mem)) ≡ Some i → Spells (with_offset (10 + byte_of w) a b mem) i
store_denotes w a b mem i ha hb lt h =
    let same : Store w a b (signed_at 524288 mem) ≡ i = cc h in
    subst (Spells (with_offset (10 + byte_of w) a b mem)) same (record {
      ranges = (ha, hb, signed_low 524288 mem (omega arith) lt);
      table = ap (with_offset (10 + byte_of w) a b) (bits_signed 524288 mem (omega arith) lt);
    })

-- the fields of a word
same_word : {x y : ℕ} {i : Instr} → x ≡ y → Spells x i → Spells y i
same_word {i = i} e d = subst (λ w. Spells w i) e d

pub fields_denote : (w top a b op low mem far : ℕ) (i : Instr) → a < 16 → b < 16 → low < 65536 → mem < 1048576
    → far < 16777216 → w ≡ assemble top a b op low → mem ≡ op * 65536 + low → far ≡ b * 1048576 + mem
    → of_fields top a b op low mem far ≡ Some i → Spells w i
fields_denote w top a b op low mem far i ha hb hl hm hf hw em ef h =
    fork (eqb top 0) _ _ i h (Spells w i) (λ e h. let t = eqb-true top 0 e in let q : assemble (2 * 0) a b op low
    ≡ w = omega arith in same_word q (register_denotes false a b op low i ha hb h)) (λ e0 h.
    fork (eqb top 2) _ _ i h (Spells w i) (λ e h. let t = eqb-true top 2 e in let q : assemble (2 * 1) a b op low
    ≡ w = omega arith in same_word q (register_denotes true a b op low i ha hb h)) (λ e2 h.
    fork (eqb top 4) _ _ i h (Spells w i) (λ e h. let t = eqb-true top 4 e
    in let q : assemble (4 + 2 * 0 + 0) a b op low
    ≡ w = omega arith in same_word q (immediate_denotes false false a b op low i ha hb hl h)) (λ e4 h.
    fork (eqb top 5) _ _ i h (Spells w i) (λ e h. let t = eqb-true top 5 e
    in let q : assemble (4 + 2 * 0 + 1) a b op low
    ≡ w = omega arith in same_word q (immediate_denotes false true a b op low i ha hb hl h)) (λ e5 h.
    fork (eqb top 6) _ _ i h (Spells w i) (λ e h. let t = eqb-true top 6 e
    in let q : assemble (4 + 2 * 1 + 0) a b op low
    ≡ w = omega arith in same_word q (immediate_denotes true false a b op low i ha hb hl h)) (λ e6 h.
    fork (eqb top 7) _ _ i h (Spells w i) (λ e h. let t = eqb-true top 7 e
    in let q : assemble (4 + 2 * 1 + 1) a b op low
    ≡ w = omega arith in same_word q (immediate_denotes true true a b op low i ha hb hl h)) (λ e7 h.
    fork (eqb top 8) _ _ i h (Spells w i) (λ e h. let t = eqb-true top 8 e in let q : with_offset (8 + 0) a b mem
    ≡ w = omega arith in same_word q (load_denotes Word a b mem i ha hb hm h)) (λ e8 h.
    fork (eqb top 9) _ _ i h (Spells w i) (λ e h. let t = eqb-true top 9 e in let q : with_offset (8 + 1) a b mem
    ≡ w = omega arith in same_word q (load_denotes Byte a b mem i ha hb hm h)) (λ e9 h.
    fork (eqb top 10) _ _ i h (Spells w i) (λ e h. let t = eqb-true top 10 e in let q : with_offset (10 + 0) a b mem
    ≡ w = omega arith in same_word q (store_denotes Word a b mem i ha hb hm h)) (λ e10 h.
    fork (eqb top 11) _ _ i h (Spells w i) (λ e h. let t = eqb-true top 11 e in let q : with_offset (10 + 1) a b mem
    ≡ w = omega arith in same_word q (store_denotes Byte a b mem i ha hb hm h)) (λ e11 h.
    fork (eqb top 12) _ _ i h (Spells w i) (λ e h. let t = eqb-true top 12 e in let q : (12 + 0) * 268435456
    + a * 16777216 + far ≡ w = omega arith in same_word q (absolute_denotes false a far i h)) (λ e12 h.
    fork (eqb top 13) _ _ i h (Spells w i) (λ e h. let t = eqb-true top 13 e in let q : (12 + 1) * 268435456
    + a * 16777216 + far ≡ w = omega arith in same_word q (absolute_denotes true a far i h)) (λ e13 h.
    fork (eqb top 14) _ _ i h (Spells w i) (λ e h. let t = eqb-true top 14 e in let q : (14 + 0) * 268435456
    + a * 16777216 + far ≡ w = omega arith in same_word q (relative_denotes false a far i hf h)) (λ e14 h.
    fork (eqb top 15) _ _ i h (Spells w i) (λ e h. let t = eqb-true top 15 e in let q : (14 + 1) * 268435456
    + a * 16777216 + far ≡ w = omega arith in same_word q (relative_denotes true a far i hf h)) (λ e15 h.
    absurd (none_some i h)))))))))))))))
