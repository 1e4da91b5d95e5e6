-- Strings, and the calls that write them.
use Rattle.std.proofs.Common.{◌≡◌, ℕ, suc, ◌+◌, ◌-◌, ◌*◌, ◌/◌, ◌%◌, pos, List, [], ◌∷◌, ◌++◌, length, take, Result}
use Rattle.std.proofs.Common.{OnOk, refl, ap, subst, ◌∙◌, arith}
use Rattle.ps_tree.specs.Tree as t
use Rattle.tac_code.specs.declared.code.Instruction.{Instruction}
use Rattle.tac_code.specs.declared.code.Instruction.TheVariants as i
use Rattle.tac_rt.specs.declared.run_time.RunTime.TheVariants.{WriteString}
use Rattle.ps_lower_layout.specs.Words.{filled}
use Rattle.ps_lower_code.specs.Scopes.{Scope, helper, held, beside, even_from}
use Rattle.ps_lower_code.specs.Calling.{width_calls}
use Rattle.ps_lower_code.specs.Values.{structure_code, text_length}
use Rattle.ps_lower_code.specs.Statements.{expr_code, width_code, truth_text, write_code}
use Rattle.ps_lower.proofs.Appends.{and_then}
use Rattle.ps_lower.proofs.Arms.{behind}

pub filled_length : (l : List ℕ) → length (filled l) ≡ 4 * ((length l + 3) / 4)
filled_length [] = refl
filled_length (a ∷ []) = refl
filled_length (a ∷ b ∷ []) = refl
filled_length (a ∷ b ∷ c ∷ []) = refl
filled_length (a ∷ b ∷ c ∷ d ∷ rest) = let h = filled_length rest in let e : suc
    (suc (suc (suc (length (filled rest))))) ≡ 4 * ((suc (suc (suc (suc (length rest)))) + 3) / 4) = omega (arith, h)
    in e

-- a truth value, its width, its string, and the call that writes that
abbrev pub truth_written : Scope → t.Expr → t.Width → (n w string count to : ℕ) → List Instruction
truth_written k e given n w s z to =
    ((expr_code k e n 0 ++ width_code k given 5 w) ++ truth_text k n s z) ++ helper k WriteString (s ∷ z ∷ w ∷ []) to
    ∷ []

pub truth_made : {X E : Type 0} (k : Scope) (e : t.Expr) (given : t.Width) (d n w s z to : ℕ) (r : Result X E)
    (new o3 o2 o1 old : List Instruction) → n ≡ held (width_calls given) d → w ≡ even_from (suc n) → s ≡ beside w → z
    ≡ beside s → to ≡ even_from d → o1 ≡ old ++ expr_code k e n 0 → o2 ≡ o1 ++ width_code k given 5 w → o3 ≡ o2
    ++ truth_text k n s z → OnOk r (new ≡ o3 ++ helper k WriteString (s ∷ z ∷ w ∷ []) to ∷ []) → OnOk r
    (new ≡ old ++ write_code k (t.WriteBoolean e given) d)
truth_made k e given d n w s z to r new o3 o2 o1 old is next above over goes p q u h =
    subst (λ y. OnOk r (new ≡ old ++ truth_written k e given y (even_from (suc y)) (beside (even_from (suc y)))
    (beside (beside (even_from (suc y)))) (even_from d))) is
    (subst (λ y. OnOk r (new ≡ old ++ truth_written k e given n y (beside y) (beside (beside y)) (even_from d))) next
    (subst (λ y. OnOk r (new ≡ old ++ truth_written k e given n w y (beside y) (even_from d))) above
    (subst (λ y. OnOk r (new ≡ old ++ truth_written k e given n w s y (even_from d))) over
    (subst (λ y. OnOk r (new ≡ old ++ truth_written k e given n w s z y)) goes
    (behind r new o3 old ((expr_code k e n 0 ++ width_code k given 5 w) ++ truth_text k n s z)
    (helper k WriteString (s ∷ z ∷ w ∷ []) to ∷ [])
    (and_then old o2 o3 (expr_code k e n 0 ++ width_code k given 5 w) (truth_text k n s z)
    (and_then old o1 o2 (expr_code k e n 0) (width_code k given 5 w) p q) u)
    h)))))

-- a string's address, its width and length, and the call that writes it
abbrev pub string_written : Scope → t.Structure → t.Width → (n w count to : ℕ) → List Instruction
string_written k e given n w z to =
    (structure_code k e n 0 ++ width_code k given (text_length e) w) ++ i.Literal z (pos (text_length e))
    ∷ helper k WriteString (n ∷ z ∷ w ∷ []) to ∷ []

pub string_made : {X E : Type 0} (k : Scope) (e : t.Structure) (given : t.Width) (length d n w z to : ℕ)
    (r : Result X E) (new o3 o2 o1 old : List Instruction) → length ≡ text_length e → n ≡ held (width_calls given) d → w
    ≡ even_from (suc n) → z ≡ beside w → to ≡ even_from d → o1 ≡ old ++ structure_code k e n 0 → o2 ≡ o1
    ++ width_code k given length w → o3 ≡ o2 ++ i.Literal z (pos length) ∷ [] → OnOk r
    (new ≡ o3 ++ helper k WriteString (n ∷ z ∷ w ∷ []) to ∷ []) → OnOk r
    (new ≡ old ++ write_code k (t.WriteText e given) d)
string_made k e given length d n w z to r new o3 o2 o1 old long is next above goes p q u h =
    subst (λ y. OnOk r (new ≡ old ++ string_written k e given y (even_from (suc y)) (beside (even_from (suc y)))
    (even_from d))) is
    (subst (λ y. OnOk r (new ≡ old ++ string_written k e given n y (beside y) (even_from d))) next
    (subst (λ y. OnOk r (new ≡ old ++ string_written k e given n w y (even_from d))) above
    (subst (λ y. OnOk r (new ≡ old ++ string_written k e given n w z y)) goes
    (behind r new o2 old (structure_code k e n 0 ++ width_code k given (text_length e) w)
    (i.Literal z (pos (text_length e)) ∷ helper k WriteString (n ∷ z ∷ w ∷ []) to ∷ [])
    (and_then old o1 o2 (structure_code k e n 0) (width_code k given (text_length e) w) p
    (q ∙ ap (λ y. o1 ++ width_code k given y w) long))
    (behind r new o3 o2 (i.Literal z (pos (text_length e)) ∷ []) (helper k WriteString (n ∷ z ∷ w ∷ []) to ∷ [])
    (u ∙ ap (λ y. o2 ++ i.Literal z (pos y) ∷ []) long) h)))))
