-- Tables of temporaries.
use Rattle.std.proofs.Common.{◌≡◌, ℕ, ◌<◌, ◌≤◌, if◌then◌else◌, Some, refl, ap, ◌∙◌, arith}
use Rattle.std.proofs.lemmas.Bool.{ne_eqb}
use Rattle.tac_code.specs.declared.code.Value.{Value}
use Rattle.tac_code.specs.Meaning.{Temporaries, put}
use Rattle.tac_code.proofs.Numbers.{eq_same}

pub put_same : (t : Temporaries) (i : ℕ) (v : Value) → put t i v i ≡ Some v
put_same t i v = ap (λ b. if b then Some v else t i) (eq_same i)

pub put_other : (t : Temporaries) (i : ℕ) (v : Value) (j : ℕ) → (j ≡ i → ⊥) → put t i v j ≡ t j
put_other t i v j h = ap (λ b. if b then Some v else t j) (ne_eqb j i h)

-- the temporaries below d are the same
pub record Agree (d : ℕ) (t t' : Temporaries) : Type 0 where
  pub same : (i : ℕ) → i < d → t' i ≡ t i

pub agree_refl : {d : ℕ} {t : Temporaries} → Agree d t t
agree_refl = record { same = λ i l. refl }

pub agree_trans : {d : ℕ} {t t' t'' : Temporaries} → Agree d t t' → Agree d t' t'' → Agree d t t''
agree_trans a b = record { same = λ i l. b.same i l ∙ a.same i l }

pub agree_less : {t t' : Temporaries} (d e : ℕ) → d ≤ e → Agree e t t' → Agree d t t'
agree_less d e l a = record { same = λ i h. a.same i (omega arith) }

pub put_agree : (t : Temporaries) (d i : ℕ) (v : Value) → d ≤ i → Agree d t (put t i v)
put_agree t d i v l = record { same = λ j h. let ne : j ≡ i → ⊥ = λ e. omega arith in put_other t i v j ne }
