-- A certificate that no fact contradicts is that of the source and the image.
use Rattle.std.proofs.Common.{◌≡◌, ◌∙◌, ◌&&◌, ◌||◌, ◌==◌, ap, arith, refl, sym, subst, ℕ, Bool, true, false, not, List}
use Rattle.std.proofs.Common.{[], ◌∷◌, length, map, string_bytes}
use Rattle.std.proofs.lemmas.Bool.{and_parts, eqb-true, true≢false}
use Rattle.std.specs.Prelude.{if◌then◌else◌}
use Rattle.std.specs.Str.{bytes_eq}
use Rattle.pascal_certificate.specs.Compared.{CertifiesFound, differing, holds}
use Rattle.pascal_certificate.specs.Differences.{Difference, differ, with_both, differences}
use Rattle.pascal_certificate.specs.Facts.{Text, facts, fits, is_not_known, may_be_untold}
use Rattle.pascal_certificate.specs.Form.{CertifiesWith, IsCertificate, are_values, certificate_text}
use Rattle.pascal_certificate.specs.Sealed.{IsSeal, sealed_values}
use Rattle.pascal_certificate.specs.declared.comparison.Comparison.{Comparison}
use Rattle.pascal_certificate.specs.declared.comparison.Evidence.{Evidence}
use Rattle.pascal_certificate.specs.declared.fact.Fact.{Fact}
use Rattle.pascal_certificate.specs.declared.fact.Fact.TheVariants.{SourceSum, SourceBytes, ImageSum, ImageBytes}
use Rattle.pascal_certificate.specs.declared.fact.Fact.TheVariants.{Target, StackEnough, Version, Kit, Sources}
use Rattle.pascal_certificate.specs.declared.fact.Fact.TheVariants.{ProgramSum, ProgramBytes, Believed}
use Rattle.pascal_certificate.specs.declared.made.Seal.{Seal}
use Rattle.pascal_certificate.proofs.Lines.{same_text}
use Rattle.pascal_certificate.proofs.Sealing.{values_sealed}

-- where there is no difference, the first fact has none
first_same : (rest : List Difference) (d : Difference) (b : Bool) → length (if b then d ∷ rest else rest) ≡ 0
    → (b ≡ false) × (length rest ≡ 0)
first_same rest d true e = absurd (omega (arith, e))
first_same rest d false e = (refl, e)

is_so : (b : Bool) → (not b && true) ≡ false → b ≡ true
is_so true e = refl
is_so false e = absurd (true≢false e)

-- a fact that must be known has the value that it had
step : (fact : Fact) (rest : List Fact) (olds : List Text) (new : Text) (news : List Text) → may_be_untold fact ≡ false
    → are_values (fact ∷ rest) olds ≡ true
    → length (differences (fact ∷ rest) olds (new ∷ news)) ≡ 0
    → (others : List Text) × (olds ≡ new ∷ others) × (are_values rest others ≡ true)
    × (length (differences rest others news) ≡ 0)
step fact rest [] new news known are none = absurd (true≢false (sym are))
step fact rest (old ∷ olds) new news known are none =
    let parts = first_same (differences rest olds news) (with_both fact old new) (differ fact old new) none in
    let both = ap (λ lacks. not (bytes_eq old new) && not (lacks && (is_not_known old || is_not_known new))) known in
    let same = same_text old new (is_so (bytes_eq old new) (sym both ∙ parts.0)) in
    (olds, ap (λ x. x ∷ olds) same, (and_parts (fits fact old) (are_values rest olds) are).1, parts.1)

abbrev behind_four : List Fact
behind_four = Target ∷ StackEnough ∷ Version ∷ Kit ∷ Sources ∷ ProgramSum ∷ ProgramBytes ∷ Believed ∷ []

abbrev behind_six : List Fact
behind_six = Version ∷ Kit ∷ Sources ∷ ProgramSum ∷ ProgramBytes ∷ Believed ∷ []

certifies : (olds : List Text) (source image : List ℕ) (s i : Seal) (target stack : Text) (rest : List Text)
    (text : Text)
    → IsSeal source s → IsSeal image i → IsCertificate text olds
    → length (differences facts olds (sealed_values s i (target ∷ stack ∷ rest))) ≡ 0 → CertifiesWith source image stack
    text
certifies olds source image s i target stack rest text one other is none =
    let maker = target ∷ stack ∷ rest in
    let a = step SourceSum (SourceBytes ∷ ImageSum ∷ ImageBytes ∷ behind_four) olds (string_bytes s.sum)
    (string_bytes s.size ∷ string_bytes i.sum ∷ string_bytes i.size ∷ maker) refl is.0 none in
    let b = step SourceBytes (ImageSum ∷ ImageBytes ∷ behind_four) a.0 (string_bytes s.size)
    (string_bytes i.sum ∷ string_bytes i.size ∷ maker) refl a.2 a.3 in
    let c = step ImageSum (ImageBytes ∷ behind_four) b.0 (string_bytes i.sum) (string_bytes i.size ∷ maker) refl b.2 b.3
    in
    let d = step ImageBytes behind_four c.0 (string_bytes i.size) maker refl c.2 c.3 in
    let e = step Target (StackEnough ∷ behind_six) d.0 target (stack ∷ rest) refl d.2 d.3 in
    let f = step StackEnough behind_six e.0 stack rest refl e.2 e.3 in
    let made : d.0 ≡ target ∷ stack ∷ f.0 = e.1 ∙ ap (λ l. target ∷ l) f.1 in
    let all : olds ≡ sealed_values s i (target ∷ stack ∷ f.0) = a.1
    ∙ ap (λ l. string_bytes s.sum ∷ l) (b.1 ∙ ap (λ l. string_bytes s.size ∷ l)
    (c.1 ∙ ap (λ l. string_bytes i.sum ∷ l) (d.1 ∙ ap (λ l. string_bytes i.size ∷ l) made))) in
    (target, f.0, is.1 ∙ ap certificate_text (all ∙ values_sealed source image s i (target ∷ stack ∷ f.0) one other))

pub certifies_found : (olds : List Text) (found : Evidence) (comparison : Comparison) → comparison.holds
    ≡ holds olds found
    → CertifiesFound olds found comparison
certifies_found olds found comparison e = λ source image text target stack rest maker one other is held.
    let parts = and_parts found.is_built (length (differing olds found) == 0) (sym e ∙ held) in
    certifies olds source image found.source.now found.image.now target stack rest text one other is
    (subst (λ m. length (differences facts olds (sealed_values found.source.now found.image.now m)) ≡ 0) maker
    (eqb-true (length (differing olds found)) 0 parts.1))
