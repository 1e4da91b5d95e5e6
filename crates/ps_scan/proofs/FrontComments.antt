-- Comments at the front of bytes.
use Rattle.std.proofs.Common.{◌≡◌, ℕ, ◌+◌, true, false, [], ◌∷◌, ◌++◌, length, Option, Some, None, Ok, refl, sym, ap}
use Rattle.std.proofs.Common.{◌∙◌, subst, arith}
use Rattle.std.proofs.lemmas.Bool.{eqb-false}
use Rattle.ps_scan.specs.declared.refusal.ScanFault.TheVariants as fault
use Rattle.ps_scan.specs.Faults.{HasNoSeparator, open_comment, brace_opens, star_opens}
use Rattle.ps_scan.specs.Scanner as s
use Rattle.ps_scan.specs.Scanner.{fault_of, separator_of, comment_end}
use Rattle.ps_scan.specs.Separators.{is_blank, IsComment, brace, star, more, blank, braced, starred}
use Rattle.ps_scan.specs.Tables.{Bytes}
use Rattle.ps_scan.proofs.Comments as comments
use Rattle.ps_scan.proofs.Comments.{comment_end_is, comment_end_sound}
use Rattle.ps_scan.proofs.Fronts.{IsFound, separates, heads}

no_paren_first : {c : Bytes} → IsComment c → comments.Opens false c
no_paren_first brace = λ never. (cc)
no_paren_first star = λ never. (cc)
no_paren_first (more _ _ _) = λ never. (cc)

-- a comment ends in the bytes after its opening, and there
ends_there : (bs inner rest : Bytes) → IsComment inner → bs ≡ inner ++ rest
    → comment_end false 0 bs ≡ Some (0 + length inner)
ends_there bs inner rest c e = ap (comment_end false 0) e ∙ comment_end_is false 0 rest c (no_paren_first c)

-- ---- sound
no_braced : (bs : Bytes) → comment_end false 0 bs ≡ None → HasNoSeparator (123 ∷ bs)
no_braced bs none s rest e (blank {b = b} is) =
    let same : 123 ≡ b = cc in let never = subst (λ z. is_blank z ≡ true) (sym same) is in cc
no_braced bs none s rest e (braced {bs = inner} c) = let some = ends_there bs inner rest c (cc) in cc
no_braced bs none s rest e (starred c) = absurd (eqb-false 123 40 refl (heads _ _ _ _ e))

no_starred : (bs : Bytes) → comment_end false 0 bs ≡ None → HasNoSeparator (40 ∷ 42 ∷ bs)
no_starred bs none s rest e (blank {b = b} is) =
    let same : 40 ≡ b = cc in let never = subst (λ z. is_blank z ≡ true) (sym same) is in cc
no_starred bs none s rest e (braced c) = absurd (eqb-false 40 123 refl (heads _ _ _ _ e))
no_starred bs none s rest e (starred {bs = inner} c) = let some = ends_there bs inner rest c (cc) in cc

braced_found : (bs : Bytes) (end : Option ℕ) → comment_end false 0 bs ≡ end → IsFound (123 ∷ bs) (s.comment_of 1 end)
braced_found bs None e = open_comment (123 ∷ []) bs brace_opens (no_braced bs e)
braced_found bs (Some m) e =
    let c = comment_end_sound false 0 m bs e in
    let len : length (123 ∷ c.inner) ≡ 1 + m = omega (arith, c.len) in
    let here : IsFound (123 ∷ (c.inner ++ c.rest)) (Ok (separator_of (1 + m))) =
    subst (λ n. IsFound (123 ∷ (c.inner ++ c.rest)) (Ok (separator_of n))) len
    (separates (123 ∷ c.inner) c.rest (braced c.goes)) in
    subst (λ z. IsFound (123 ∷ z) (Ok (separator_of (1 + m)))) (sym c.split) here

pub braced_sound : (bs : Bytes) → IsFound (123 ∷ bs) (s.comment 1 (123 ∷ bs))
unfolding s.comment
braced_sound bs = braced_found bs _ refl

starred_found : (bs : Bytes) (end : Option ℕ) → comment_end false 0 bs ≡ end
    → IsFound (40 ∷ 42 ∷ bs) (s.comment_of 2 end)
starred_found bs None e = open_comment (40 ∷ 42 ∷ []) bs star_opens (no_starred bs e)
starred_found bs (Some m) e =
    let c = comment_end_sound false 0 m bs e in
    let len : length (40 ∷ 42 ∷ c.inner) ≡ 2 + m = omega (arith, c.len) in
    let here : IsFound (40 ∷ 42 ∷ (c.inner ++ c.rest)) (Ok (separator_of (2 + m))) =
    subst (λ n. IsFound (40 ∷ 42 ∷ (c.inner ++ c.rest)) (Ok (separator_of n))) len
    (separates (40 ∷ 42 ∷ c.inner) c.rest (starred c.goes)) in
    subst (λ z. IsFound (40 ∷ 42 ∷ z) (Ok (separator_of (2 + m)))) (sym c.split) here

pub starred_sound : (bs : Bytes) → IsFound (40 ∷ 42 ∷ bs) (s.comment 2 (40 ∷ 42 ∷ bs))
unfolding s.comment
starred_sound bs = starred_found bs _ refl

-- ---- complete
pub braced_complete : (bs rest : Bytes) → IsComment bs
    → s.comment 1 (123 ∷ (bs ++ rest)) ≡ Ok (separator_of (length (123 ∷ bs)))
unfolding s.comment
braced_complete bs rest c = ap (s.comment_of 1) (ends_there (bs ++ rest) bs rest c refl)
    ∙ ap (λ n. Ok (separator_of n)) (omega arith)

pub starred_complete : (bs rest : Bytes) → IsComment bs
    → s.comment 2 (40 ∷ 42 ∷ (bs ++ rest)) ≡ Ok (separator_of (length (40 ∷ 42 ∷ bs)))
unfolding s.comment
starred_complete bs rest c = ap (s.comment_of 2) (ends_there (bs ++ rest) bs rest c refl)
    ∙ ap (λ n. Ok (separator_of n)) (omega arith)

open_end : (bs : Bytes) (end : Option ℕ) → comment_end false 0 bs ≡ end
    → ((inner rest : Bytes) → bs ≡ inner ++ rest → IsComment inner → ⊥) → end ≡ None
open_end bs None e never = refl
open_end bs (Some m) e never = let c = comment_end_sound false 0 m bs e in absurd (never c.inner c.rest c.split c.goes)

pub braced_open : (bs : Bytes) → HasNoSeparator (123 ∷ bs) → s.comment 1 (123 ∷ bs) ≡ fault_of fault.OpenComment 0 1
unfolding s.comment
braced_open bs never =
    ap (s.comment_of 1)
    (open_end bs _ refl (λ inner rest e c. never (123 ∷ inner) rest (ap (λ z. 123 ∷ z) e) (braced c)))

pub starred_open : (bs : Bytes) → HasNoSeparator (40 ∷ 42 ∷ bs)
    → s.comment 2 (40 ∷ 42 ∷ bs) ≡ fault_of fault.OpenComment 0 2
unfolding s.comment
starred_open bs never =
    ap (s.comment_of 2)
    (open_end bs _ refl (λ inner rest e c. never (40 ∷ 42 ∷ inner) rest (ap (λ z. 40 ∷ 42 ∷ z) e) (starred c)))
