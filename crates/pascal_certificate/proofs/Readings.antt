-- What is of the form has one reading.
use Rattle.std.proofs.Common.{◌≡◌, ◌≢◌, ◌∙◌, ◌++◌, ap, ap₂, refl, sym, subst, true, List, [], ◌∷◌, Option, Some, None}
use Rattle.std.proofs.lemmas.Bool.{and_parts, true≢false}
use Rattle.std.proofs.lemmas.List.{append_assoc}
use Rattle.std.specs.Prelude.{IfNone, IfSome}
use Rattle.pascal_certificate.specs.Facts.{Text, facts, fits}
use Rattle.pascal_certificate.specs.Form.{IsCertificate, are_values, head, line_of, lines_of, tail}
use Rattle.pascal_certificate.specs.declared.fact.Fact.{Fact}
use Rattle.pascal_certificate.proofs.Lines.{same_behind, same_line}

pub same_values : (fs : List Fact) (vs ws : List Text) (r s : Text) → are_values fs vs ≡ true → are_values fs ws ≡ true
    → lines_of fs vs ++ r ≡ lines_of fs ws ++ s
    → (vs ≡ ws) × (r ≡ s)
same_values [] [] [] r s pv pw e = (refl, e)
same_values [] [] (w ∷ ws) r s pv pw e = absurd (true≢false (sym pw))
same_values [] (v ∷ vs) ws r s pv pw e = absurd (true≢false (sym pv))
same_values (f ∷ fs) [] ws r s pv pw e = absurd (true≢false (sym pv))
same_values (f ∷ fs) (v ∷ vs) [] r s pv pw e = absurd (true≢false (sym pw))
same_values (f ∷ fs) (v ∷ vs) (w ∷ ws) r s pv pw e =
    let first_v = and_parts (fits f v) _ pv in
    let first_w = and_parts (fits f w) _ pw in
    let first = same_line f v w (lines_of fs vs ++ r) (lines_of fs ws ++ s) first_v.0 first_w.0
    (sym (append_assoc (line_of f v) (lines_of fs vs) r) ∙ (e ∙ append_assoc (line_of f w) (lines_of fs ws) s)) in
    let others = same_values fs vs ws r s first_v.1 first_w.1 first.1 in
    (ap₂ (λ x l. x ∷ l) first.0 others.0, others.1)

-- ---- the lines of the facts, one after another

abbrev pub HasLines : Text → List Fact → List Text → Text → Type 0
HasLines text fs vs rest = (are_values fs vs ≡ true) × (text ≡ lines_of fs vs ++ rest)

-- where the first line is not there, or the others are not behind it, there are none
pub not_first : (text : Text) (f : Fact) (fs : List Fact) → ((v r : Text) → fits f v ≡ true → text ≢ line_of f v ++ r)
    → (vs : List Text) (rest : Text)
    → are_values (f ∷ fs) vs ≡ true → text ≢ lines_of (f ∷ fs) vs ++ rest
not_first text f fs none [] rest are is = true≢false (sym are)
not_first text f fs none (v ∷ vs) rest are is =
    none v (lines_of fs vs ++ rest) (and_parts (fits f v) _ are).0
    (is ∙ append_assoc (line_of f v) (lines_of fs vs) rest)

pub not_others : (text behind w : Text) (f : Fact) (fs : List Fact) → fits f w ≡ true → text ≡ line_of f w ++ behind
    → ((vs : List Text) (rest : Text) → are_values fs vs ≡ true → behind ≢ lines_of fs vs ++ rest) → (vs : List Text)
    (rest : Text)
    → are_values (f ∷ fs) vs ≡ true → text ≢ lines_of (f ∷ fs) vs ++ rest
not_others text behind w f fs fit first none [] rest are is = true≢false (sym are)
not_others text behind w f fs fit first none (v ∷ vs) rest are is =
    let parts = and_parts (fits f v) _ are in
    let same = same_line f w v behind (lines_of fs vs ++ rest) fit parts.0
    (sym first ∙ (is ∙ append_assoc (line_of f v) (lines_of fs vs) rest)) in
    none vs rest parts.1 same.1

pub not_first_in : (text : Text) (all : List Fact) (f : Fact) (fs : List Fact) → all ≡ f ∷ fs
    → ((v r : Text) → fits f v ≡ true → text ≢ line_of f v ++ r)
    → (vs : List Text) (rest : Text) → are_values all vs ≡ true → text ≢ lines_of all vs ++ rest
not_first_in text all f fs e none vs rest are is =
    not_first text f fs none vs rest (subst (λ l. are_values l vs ≡ true) e are)
    (is ∙ ap (λ l. lines_of l vs ++ rest) e)

pub not_others_in : (text behind w : Text) (all : List Fact) (f : Fact) (fs : List Fact) → all ≡ f ∷ fs → fits f w
    ≡ true → text ≡ line_of f w ++ behind
    → ((vs : List Text) (rest : Text) → are_values fs vs ≡ true → behind ≢ lines_of fs vs ++ rest) → (vs : List Text)
    (rest : Text)
    → are_values all vs ≡ true → text ≢ lines_of all vs ++ rest
not_others_in text behind w all f fs e fit first none vs rest are is =
    not_others text behind w f fs fit first none vs rest (subst (λ l. are_values l vs ≡ true) e are)
    (is ∙ ap (λ l. lines_of l vs ++ rest) e)

-- ---- whole certificates

pub no_head : (text : Text) → ((rest : Text) → text ≢ head ++ rest) → (values : List Text) → IsCertificate text values
    → ⊥
no_head text none values is = none _ is.1

pub no_lines_behind : (text lines : Text) → text ≡ head ++ lines
    → ((vs : List Text) (rest : Text) → are_values facts vs ≡ true → lines ≢ lines_of facts vs ++ rest)
    → (values : List Text) → IsCertificate text values → ⊥
no_lines_behind text lines begun none values is = none values tail is.0 (same_behind head lines _ (sym begun ∙ is.1))

pub a_certificate : (text lines rest : Text) (vs : List Text) → text ≡ head ++ lines → HasLines lines facts vs rest
    → rest ≡ tail → IsCertificate text vs
a_certificate text lines rest vs begun has ended =
    (has.0, begun ∙ ap (λ l. head ++ l) (has.1 ∙ ap (λ l. lines_of facts vs ++ l) ended))

pub same_reading : (text : Text) (vs ws : List Text) → IsCertificate text vs → IsCertificate text ws → vs ≡ ws
same_reading text vs ws one other =
    (same_values facts vs ws tail tail one.0 other.0 (same_behind head _ _ (sym one.1 ∙ other.1))).0

pub no_tail : (text lines rest : Text) (vs : List Text) → text ≡ head ++ lines → HasLines lines facts vs rest
    → (rest ≡ tail → ⊥)
    → (values : List Text) → IsCertificate text values → ⊥
no_tail text lines rest vs begun has none values is =
    none (same_values facts vs values rest tail has.0 is.0 (sym has.1 ∙ same_behind head lines _ (sym begun ∙ is.1))).1

-- ---- answers that may be none

pub when_none : {A : Type 0} (o : Option A) (P : Type 0) → IfNone o P → o ≡ None → P
when_none o P holds is = subst (λ x. IfNone x P) is holds

pub when_some : {A : Type 0} (o : Option A) (x : A) (P : A → Type 0) → IfSome o P → o ≡ Some x → P x
when_some o x P holds is = subst (λ y. IfSome y P) is holds

pub none_weaker : {A : Type 0} (o : Option A) (P Q : Type 0) → IfNone o P → (P → Q) → IfNone o Q
none_weaker None P Q holds weaker = weaker holds
none_weaker (Some x) P Q holds weaker = tt
