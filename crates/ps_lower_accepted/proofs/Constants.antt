-- Constants (6.3): ordinals of known types that are integers, and strings of bytes.
use Rattle.std.proofs.Common.{◌≡◌, ℕ, zero, suc, ◌+◌, ◌-◌, ◌<◌, ◌≤◌, true, if◌then◌else◌, nat_lt, List, [], ◌∷◌}
use Rattle.std.proofs.Common.{length, ℤ, pos, negsuc, ◌-ℤ◌, int_le, Option, Some, None, IsTrue, refl, sym, ap, ◌∙◌}
use Rattle.std.proofs.Common.{subst, arith, lt-ltb, ltb-true, leb-true}
use Rattle.ps_text.specs.declared.Span.{Span}
use Rattle.ps_text.specs.declared.TheConstants.{MAX_LENGTH}
use Rattle.ps_scan.specs.Values.{characters}
use Rattle.ps_syntax.specs.declared.expression.Sign.{Sign}
use Rattle.ps_syntax.specs.declared.expression.Sign.TheVariants as sign
use Rattle.ps_syntax.specs.declared.statement.Constant.{Constant}
use Rattle.ps_syntax.specs.declared.statement.Constant.TheVariants as k
use Rattle.ps_tree.specs.declared.types.Host.TheVariants.{Integer}
use Rattle.ps_tree.specs.declared.types.Ordinal.{Ordinal}
use Rattle.ps_tree.specs.Types.{is_same_host}
use Rattle.tac_code.specs.Numbers.{is_integer}
use Rattle.tac_code.specs.declared.code.TheConstants.{NUMBER_LIMIT}
use Rattle.ps_check_names.specs.Constants.{integer, ConstantValue, OrdinalConstant, TextConstant, denoted, constant_at}
use Rattle.ps_check_names.specs.Constants.{text_constant, integer_with_sign, signed_constant, number_at, constant}
use Rattle.ps_check_judgement.specs.Judged.{Yes, ◌>>=◌}
use Rattle.ps_check_judgement.proofs.Binds.{then_yes, provided_yes, if_yes, inside_yes, no_yes}
use Rattle.ps_check_names.specs.Regions.{Region, Point, BlockPoint, FieldPoint, ConstantMeaning, TextMeaning}
use Rattle.ps_check_names.specs.Spelling.{bytes_at, spelled}
use Rattle.ps_lower_accepted.proofs.Calls.{char_known}
use Rattle.ps_lower_accepted.proofs.Expressions.{integer_there}
use Rattle.ps_lower_accepted.proofs.TextBytes.{within_text}
use Rattle.ps_lower_accepted.proofs.Lists.{Each}
use Rattle.ps_lower_accepted.proofs.Names.{PointKnown, find_known}
use Rattle.ps_lower_accepted.proofs.Operators.{integer_known}
use Rattle.ps_lower_accepted.proofs.Standing.{IsText, RegionsKnown}
use Rattle.ps_lower_accepted.proofs.Tables.{Table, OrdinalKnown}

abbrev pub ConstantKnown : Table → ConstantValue → Type 0
ConstantKnown D (OrdinalConstant o n) = OrdinalKnown D o × IsTrue (is_integer n)
ConstantKnown D (TextConstant w) = IsText w

negated : (k : ℕ) → pos 0 -ℤ pos (suc k) ≡ negsuc k
negated k =
    let t : nat_lt 0 (suc k) ≡ true = lt-ltb 0 (suc k) (omega arith) in
    ap (λ b. if b then negsuc (suc k - suc 0) else pos (0 - suc k)) t
    ∙ (let z : suc k - suc 0 ≡ k = omega arith in ap negsuc z)

-- the negative of an integer that is not the least one
negative_there : (at : ℕ) (n m : ℤ) → IsTrue (is_integer n) → integer_with_sign at sign.Minus n ≡ Yes m → IsTrue
    (is_integer m)
negative_there at n m h q = let p = provided_yes _ _ _ _ m q in subst (λ z. IsTrue (is_integer z)) p.1 (go n h p.0)
  where
    go : (n : ℤ) → IsTrue (is_integer n) → int_le (negsuc 2147483646) n ≡ true → IsTrue (is_integer (pos 0 -ℤ n))
    go (pos zero) h e = refl
    go (pos (suc k)) h e = subst (λ z. IsTrue (is_integer z)) (sym (negated k))
        (lt-ltb k NUMBER_LIMIT (let l = ltb-true (suc k) NUMBER_LIMIT h in omega (arith, l)))
    go (negsuc k) h e = lt-ltb (0 + suc k) NUMBER_LIMIT (let l = leb-true k 2147483646 e in omega (arith, l))

ordinal_known : (D : Table) (o : Ordinal) (n : ℤ) (b : ConstantValue) → OrdinalKnown D o → IsTrue (is_integer n)
    → OrdinalConstant o n ≡ b → ConstantKnown D b
ordinal_known D o n b h g e = let t : ConstantKnown D (OrdinalConstant o n) = (h, g) in subst (ConstantKnown D) e t

signed_known : (D : Table) (at : ℕ) (s : Option (Sign × Span)) (a b : ConstantValue) → ConstantKnown D a
    → signed_constant at s a ≡ Yes b → ConstantKnown D b
unfolding signed_constant
signed_known D at None a b h q = subst (ConstantKnown D) (inside_yes a b q) h
signed_known D at (Some (sign.Plus, place)) (OrdinalConstant o n) b h q =
    let p = if_yes (is_same_host o.host Integer) _ _ _ b q in
    let m = then_yes (integer_with_sign at sign.Plus n) (λ z. Yes (OrdinalConstant integer z)) b p.1 in
    ordinal_known D integer m.0 b (integer_known D) (subst (λ z. IsTrue (is_integer z)) (inside_yes n m.0 m.1) h.1)
    (inside_yes (OrdinalConstant integer m.0) b m.2)
signed_known D at (Some (sign.Minus, place)) (OrdinalConstant o n) b h q =
    let p = if_yes (is_same_host o.host Integer) _ _ _ b q in
    let m = then_yes (integer_with_sign at sign.Minus n) (λ z. Yes (OrdinalConstant integer z)) b p.1 in
    ordinal_known D integer m.0 b (integer_known D) (negative_there at n m.0 h.1 m.1)
    (inside_yes (OrdinalConstant integer m.0) b m.2)
signed_known D at (Some s) (TextConstant w) b h q = absurd (no_yes q)

point_constant : (D : Table) (b at : ℕ) (p : Point) (a : ConstantValue) → PointKnown D b p → constant_at at p ≡ Yes a
    → ConstantKnown D a
unfolding constant_at
point_constant D b at (BlockPoint up (ConstantMeaning o n)) a h q = subst (ConstantKnown D) (inside_yes _ a q) h
point_constant D b at (BlockPoint up (TextMeaning w)) a h q = subst (ConstantKnown D) (inside_yes _ a q) h
point_constant D b at (BlockPoint up m) a h q = absurd (no_yes q)
point_constant D b at (FieldPoint which type n field) a h q = absurd (no_yes q)

text_known : (D : Table) (w : List ℕ) → IsText w → ConstantKnown D (text_constant w)
text_known D [] h = h
text_known D (a ∷ []) h = (char_known D, lt-ltb a NUMBER_LIMIT (let l = h.bytes.0 in omega (arith, l)))
text_known D (a ∷ b ∷ rest) h = h

pub constant_known : (D : Table) (b : ℕ) (text : List ℕ) (Γ : List Region) (x : Constant) (a : ConstantValue) → Each
    (λ y. y < 256) text → length text ≤ MAX_LENGTH → RegionsKnown D b Γ → constant text Γ x ≡ Yes a → ConstantKnown D a
unfolding constant
constant_known D b text Γ (k.Number s at) a bytes short known q = signed_known D at.from s
    (OrdinalConstant integer (number_at text at)) a (integer_known D, integer_there (bytes_at text at)) q
constant_known D b text Γ (k.Name s at) a bytes short known q =
    let v = then_yes (denoted text Γ at >>= constant_at at.from) _ a q in
    let p = then_yes (denoted text Γ at) (constant_at at.from) v.0 v.1 in
    signed_known D at.from s v.0 a (point_constant D b at.from p.0 v.0
    (find_known D b Γ 0 0 (spelled text at) at.from p.0 known p.1) p.2) v.2
constant_known D b text Γ (k.Text at) a bytes short known q = subst (ConstantKnown D) (inside_yes _ a q)
    (text_known D (characters (bytes_at text at)) (within_text text at bytes short))
