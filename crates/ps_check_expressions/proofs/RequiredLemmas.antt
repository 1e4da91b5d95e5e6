-- The required functions with one actual parameter, and what is not a variable alone, as the code finds them.
use Rattle.std.proofs.Common.{◌≡◌, ℕ, ◌<◌, ◌≤◌, Bool, true, false, not, List, [], ◌∷◌, length, get_or, ◌⊎◌, inl, inr}
use Rattle.std.proofs.Common.{refl, sym, ap, ◌∙◌, arith}
use Rattle.std.specs.Prelude.{if◌then◌else◌}
use Rattle.ps_syntax.specs.First as first
use Rattle.ps_text.specs.declared.Span.{Span}
use Rattle.ps_syntax.specs.declared.expression.Expr.{Expr}
use Rattle.ps_syntax.specs.declared.expression.Factor.{Factor}
use Rattle.ps_syntax.specs.declared.expression.Factor.TheVariants as f
use Rattle.ps_syntax.specs.declared.expression.Member.{Member}
use Rattle.ps_syntax.specs.declared.expression.Term.{Term, out-Term}
use Rattle.ps_check_judgement.specs.declared.change.Change.{Change}
use Rattle.ps_check_judgement.specs.declared.refusal.Rule.TheVariants.{NotInProfile, WrongKind}
use Rattle.ps_check_judgement.specs.Judged.{holds, some_or}
use Rattle.ps_check_judgement.specs.Changing.{Changing, ◌>>=◌, still}
use Rattle.ps_check_names.specs.declared.meaning.Required.{Required}
use Rattle.ps_check_names.specs.Spelling.{line_in}
use Rattle.ps_check_names.specs.Regions.{Context, Region}
use Rattle.ps_check_expressions.specs.Values.{Value, Operand, plain}
use Rattle.ps_check_expressions.specs.Calls.{is_procedure, names_input, look, required_value, function_call}
use Rattle.ps_check_expressions.specs.Calls.{required_call}
use Rattle.ps_check_expressions.specs.Expressions.{factor_operand, term_operand}
use Rattle.ps_check_expressions.proofs.Equations.{factor_call, factor_number, factor_text, factor_nil, factor_set}
use Rattle.ps_check_expressions.proofs.Equations.{factor_group, factor_not, factor_first}
use Rattle.ps_check_expressions.proofs.Judgement.{none_at, term_variable}

pub only_one : {A : Type 0} (xs : List A) (x : A) → 1 ≤ length xs → length xs < 2 → x ≡ get_or xs 0 x → xs ≡ x ∷ []
only_one [] x some less at = let f : ⊥ = omega (arith, some) in absurd f
only_one (y ∷ []) x some less at = ap (λ z. z ∷ []) (sym at)
only_one (y ∷ z ∷ xs) x some less at = let f : ⊥ = omega (arith, less) in absurd f

module _ (at : ℕ) (cs : List Change) where
  held : (b : Bool) (m : Changing Value) → b ≡ false → (still (holds (not b) WrongKind at) >>= (λ u. m)) cs ≡ m cs
  held false m e = refl
  held true m e = cc

  chosen : (b : Bool) (m n : Changing Value) → b ≡ true → (if b then m else n) cs ≡ m cs
  chosen true m n e = refl
  chosen false m n e = cc

  other : (b : Bool) (m n : Changing Value) → b ≡ false → (if b then m else n) cs ≡ n cs
  other false m n e = refl
  other true m n e = cc

module _ (c : Context) (Γ : List Region) (at : ℕ) (r : Required) (x : Operand) (cs : List Change) where
  -- of the input by its name
  pub of_input : is_procedure r ≡ false → names_input c Γ x ≡ true → required_call c Γ at r (x ∷ []) cs ≡ still
      (some_or NotInProfile x.first (look r (line_in c.text at))) cs
  unfolding required_call function_call
  of_input p n = held at cs (is_procedure r) (function_call c Γ at r (x ∷ [])) p
      ∙ chosen at cs (names_input c Γ x) (still (some_or NotInProfile x.first (look r (line_in c.text at))))
      (x.value >>= (λ v. still (required_value x.first r (line_in c.text at) v))) n

  -- of a value
  pub of_value : is_procedure r ≡ false → names_input c Γ x ≡ false → required_call c Γ at r (x ∷ []) cs
      ≡ (x.value >>= (λ v. still (required_value x.first r (line_in c.text at) v))) cs
  unfolding required_call function_call
  of_value p n = held at cs (is_procedure r) (function_call c Γ at r (x ∷ [])) p
      ∙ other at cs (names_input c Γ x) (still (some_or NotInProfile x.first (look r (line_in c.text at))))
      (x.value >>= (λ v. still (required_value x.first r (line_in c.text at) v))) n

module _ (c : Context) (Γ : List Region) where
  -- a factor that is neither a variable nor a name
  pub term_is_none : (x : Term) (n : ℕ) (v : Changing Value) → (out-Term x).more ≡ [] → factor_operand c Γ
      (out-Term x).first ≡ plain n v → (term_operand c Γ x).variable ≡ none_at c Γ (first.first_of_term x)
  term_is_none x n v e p =
      term_variable c Γ x e ∙ ap (λ o. o.variable) p ∙ ap (λ o. none_at c Γ o.first) (sym p) ∙ ap (none_at c Γ)
      (factor_first c Γ (out-Term x).first)

  abbrev pub NoVariable : Factor → Type 0
  NoVariable x =
      ((at : Span) × (xs : List Expr) × (x ≡ f.Call at xs))
      ⊎ (((at : Span) × (x ≡ f.Number at))
      ⊎ (((at : Span) × (x ≡ f.Text at))
      ⊎ (((at : Span) × (x ≡ f.Nil at))
      ⊎ (((at : Span) × (ms : List Member) × (x ≡ f.Set at ms))
      ⊎ (((at : Span) × (n : ℕ) × (y : Expr) × (x ≡ f.Group at n y))
      ⊎ ((at : Span) × (y : Factor) × (x ≡ f.Not at y)))))))

  pub factor_is_none : (x : Term) → (out-Term x).more ≡ [] → NoVariable (out-Term x).first
      → (term_operand c Γ x).variable ≡ none_at c Γ (first.first_of_term x)
  factor_is_none x e (inl (at, xs, p)) = term_is_none x _ _ e (ap (factor_operand c Γ) p ∙ factor_call c Γ at xs)
  factor_is_none x e (inr (inl (at, p))) = term_is_none x _ _ e (ap (factor_operand c Γ) p ∙ factor_number c Γ at)
  factor_is_none x e (inr (inr (inl (at, p)))) = term_is_none x _ _ e (ap (factor_operand c Γ) p ∙ factor_text c Γ at)
  factor_is_none x e (inr (inr (inr (inl (at, p))))) = term_is_none x _ _ e
      (ap (factor_operand c Γ) p ∙ factor_nil c Γ at)
  factor_is_none x e (inr (inr (inr (inr (inl (at, ms, p)))))) = term_is_none x _ _ e
      (ap (factor_operand c Γ) p ∙ factor_set c Γ at ms)
  factor_is_none x e (inr (inr (inr (inr (inr (inl (at, n, y, p))))))) = term_is_none x _ _ e
      (ap (factor_operand c Γ) p ∙ factor_group c Γ at n y)
  factor_is_none x e (inr (inr (inr (inr (inr (inr (at, y, p))))))) = term_is_none x _ _ e
      (ap (factor_operand c Γ) p ∙ factor_not c Γ at y)
