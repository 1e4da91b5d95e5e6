-- Names that are hidden by no definition within which a place lies.
use Rattle.std.proofs.Common.{◌≡◌, ℕ, List, [], ◌∷◌, ◌++◌, map, Option, Some, None, refl, ap, ◌∙◌}
use Rattle.ps_text.specs.declared.Span.{Span}
use Rattle.ps_syntax.specs.declared.statement.Constant.{Constant}
use Rattle.ps_syntax.specs.declared.statement.Constant.TheVariants as c
use Rattle.ps_check_judgement.specs.Judged.{Judged, Yes, No, ◌>>=◌}
use Rattle.ps_check_names.specs.Spelling.{spelled, place}
use Rattle.ps_check_names.specs.Regions.{Region, OwnNames, Point, find_past, in_own}
use Rattle.ps_check_names.specs.Constants.{ConstantValue, constant, constant_at, signed_constant}
use Rattle.ps_check_declarations.specs.Denoters.{Hidden, passes, passes_in, type_named, type_at}

abbrev pub owned : Hidden → List Region
owned hidden = map (λ own. OwnNames own.0 own.1) hidden

at_own : (at defined : ℕ) (o : Option ℕ) (j : Judged (Unit {0})) (x y : Judged Point) → x ≡ (j >>= (λ _. y))
    → in_own at defined o x ≡ (in_own at defined o j >>= (λ _. y))
at_own at defined None j x y e = e
at_own at defined (Some i) j x y e = refl

-- a search through them continues outside, if none hides the name
pub past_own : (up which : ℕ) (hidden : Hidden) (Γ : List Region) (s : List ℕ) (at : ℕ) → find_past up which
    (owned hidden ++ Γ) s at ≡ (passes hidden s at >>= (λ _. find_past up which Γ s at))
unfolding find_past passes
past_own up which [] Γ s at = refl
past_own up which (own ∷ hidden) Γ s at = at_own at own.1 (place own.0 s) (passes hidden s at)
    (find_past up which (owned hidden ++ Γ) s at) (find_past up which Γ s at) (past_own up which hidden Γ s at)

then_named : (j : Judged (Unit {0})) (p : Judged Point) (at : ℕ) → ((j >>= (λ _. p)) >>= type_at at)
    ≡ (j >>= (λ _. p >>= type_at at))
then_named (Yes u) p at = refl
then_named (No rule where_) p at = refl

then_constant : (j : Judged (Unit {0})) (p : Judged Point) (at : ℕ) (f : ConstantValue → Judged ConstantValue)
    → (((j >>= (λ _. p)) >>= constant_at at) >>= f) ≡ (j >>= (λ _. (p >>= constant_at at) >>= f))
then_constant (Yes u) p at f = refl
then_constant (No rule where_) p at f = refl

module _ (text : List ℕ) (hidden : Hidden) (Γ : List Region) where
  pub type_named_past : (name : Span) → type_named text (owned hidden ++ Γ) name
      ≡ (passes hidden (spelled text name) name.from >>= (λ _. type_named text Γ name))
  type_named_past name = ap (λ p. p >>= type_at name.from) (past_own 0 0 hidden Γ (spelled text name) name.from)
      ∙ then_named (passes hidden (spelled text name) name.from)
      (find_past 0 0 Γ (spelled text name) name.from) name.from

  pub constant_past : (written : Constant) → constant text (owned hidden ++ Γ) written
      ≡ (passes_in text hidden written >>= (λ _. constant text Γ written))
  unfolding constant passes_in
  constant_past (c.Number sign at) = refl
  constant_past (c.Name sign name) = ap (λ p. (p >>= constant_at name.from) >>= signed_constant name.from sign)
      (past_own 0 0 hidden Γ (spelled text name) name.from) ∙ then_constant
      (passes hidden (spelled text name) name.from) (find_past 0 0 Γ (spelled text name) name.from) name.from
      (signed_constant name.from sign)
  constant_past (c.Text at) = refl
