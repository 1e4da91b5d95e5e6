-- pack and unpack, given the answers of their three parameters.
use Rattle.std.proofs.Common.{◌≡◌, ℕ, List, [], ◌∷◌, Ok, Err, Result, sym, ap, ◌∙◌, subst}
use Rattle.ps_syntax.specs.declared.statement.Parameter.{Parameter}
use Rattle.ps_tree.specs.declared.tree.Expr.{Expr}
use Rattle.ps_tree.specs.declared.types.Ordinal.{Ordinal}
use Rattle.ps_tree.specs.View.{expr_of}
use Rattle.ps_check_judgement.specs.declared.change.Change.{Change}
use Rattle.ps_check_judgement.specs.declared.refusal.CheckFault.{CheckFault}
use Rattle.ps_check_judgement.specs.Judged.{Told, Answers, both}
use Rattle.ps_check_judgement.specs.Changing.{still}
use Rattle.ps_check_names.specs.Spelling.{line_in}
use Rattle.ps_check_names.specs.Regions.{Context, Region}
use Rattle.ps_check_expressions.specs.declared.value.TypedPlace.{TypedPlace}
use Rattle.ps_check_expressions.specs.View.{variable_of}
use Rattle.ps_check_statements.specs.Procedures.{first_of_parameter, places_of, packed_from, unpacked_to}
use Rattle.ps_check_statements.specs.Procedures.{parameter_variable, parameter_index, pack, pack_statement, unpack}
use Rattle.ps_check_statements.specs.Procedures.{unpack_statement}
use Rattle.ps_check_statements.proofs.Paired.{three_told, three_yes}

module _ (c : Context) (Γ : List Region) (at : ℕ) (ps : List Parameter) (cs d1 d2 d3 : List Change) where
  module _ (a i z : Parameter) (x : Result TypedPlace CheckFault) (y : Result (Expr × Ordinal) CheckFault)
      (w : Result TypedPlace CheckFault) where
    pub pack_told : (e : CheckFault) → ps ≡ a ∷ i ∷ z ∷ [] → Answers x (λ v. (variable_of v, d1))
        (parameter_variable c Γ a cs) → Answers y (λ v. ((expr_of v.0, v.1), d2)) (parameter_index c Γ i d1) → Answers w
        (λ v. (variable_of v, d3)) (parameter_variable c Γ z d2) → Err e ≡ both x (both y w) → Told e
        (pack_statement c Γ at ps cs)
    unfolding pack_statement pack
    pack_told e l hx hy hw q =
        subst (λ ps. Told e (pack_statement c Γ at ps cs)) (sym l)
        (three_told x y w (λ v. variable_of v) (λ v. (expr_of v.0, v.1)) (λ v. (variable_of v, d3)) d1 d2
        (parameter_variable c Γ a cs) (parameter_index c Γ i) (parameter_variable c Γ z)
        (λ p q r. still (packed_from (places_of a z i) p.0 r.0 (line_in c.text (first_of_parameter i)) q.0) r.1) e
        hx hy hw q)

    pub pack_yes : (v : TypedPlace) (j : Expr × Ordinal) (u : TypedPlace) → ps ≡ a ∷ i ∷ z ∷ [] → Answers x
        (λ v. (variable_of v, d1)) (parameter_variable c Γ a cs) → Answers y (λ v. ((expr_of v.0, v.1), d2))
        (parameter_index c Γ i d1) → Answers w (λ v. (variable_of v, d3)) (parameter_variable c Γ z d2) → Ok (v, (j, u))
        ≡ both x (both y w) → pack_statement c Γ at ps cs ≡ still
        (packed_from (places_of a z i) (variable_of v) (variable_of u) (line_in c.text (first_of_parameter i))
        (expr_of j.0, j.1)) d3
    unfolding pack_statement pack
    pack_yes v j u l hx hy hw q =
        ap (λ ps. pack_statement c Γ at ps cs) l
        ∙ three_yes x y w (λ v. variable_of v) (λ v. (expr_of v.0, v.1)) (λ v. (variable_of v, d3)) d1 d2
        (parameter_variable c Γ a cs) (parameter_index c Γ i) (parameter_variable c Γ z)
        (λ p q r. still (packed_from (places_of a z i) p.0 r.0 (line_in c.text (first_of_parameter i)) q.0) r.1) v j
        u hx hy hw q

  module _ (z a i : Parameter) (x y : Result TypedPlace CheckFault) (w : Result (Expr × Ordinal) CheckFault) where
    pub unpack_told : (e : CheckFault) → ps ≡ z ∷ a ∷ i ∷ [] → Answers x (λ v. (variable_of v, d1))
        (parameter_variable c Γ z cs) → Answers y (λ v. (variable_of v, d2)) (parameter_variable c Γ a d1) → Answers w
        (λ v. ((expr_of v.0, v.1), d3)) (parameter_index c Γ i d2) → Err e ≡ both x (both y w) → Told e
        (unpack_statement c Γ at ps cs)
    unfolding unpack_statement unpack
    unpack_told e l hx hy hw q =
        subst (λ ps. Told e (unpack_statement c Γ at ps cs)) (sym l)
        (three_told x y w (λ v. variable_of v) (λ v. variable_of v) (λ v. ((expr_of v.0, v.1), d3)) d1 d2
        (parameter_variable c Γ z cs) (parameter_variable c Γ a) (parameter_index c Γ i)
        (λ p q r. still (unpacked_to (places_of a z i) p.0 q.0 (line_in c.text (first_of_parameter i)) r.0) r.1) e
        hx hy hw q)

    pub unpack_yes : (v u : TypedPlace) (j : Expr × Ordinal) → ps ≡ z ∷ a ∷ i ∷ [] → Answers x
        (λ v. (variable_of v, d1)) (parameter_variable c Γ z cs) → Answers y (λ v. (variable_of v, d2))
        (parameter_variable c Γ a d1) → Answers w (λ v. ((expr_of v.0, v.1), d3)) (parameter_index c Γ i d2) → Ok
        (v, (u, j)) ≡ both x (both y w) → unpack_statement c Γ at ps cs ≡ still
        (unpacked_to (places_of a z i) (variable_of v) (variable_of u) (line_in c.text (first_of_parameter i))
        (expr_of j.0, j.1)) d3
    unfolding unpack_statement unpack
    unpack_yes v u j l hx hy hw q =
        ap (λ ps. unpack_statement c Γ at ps cs) l
        ∙ three_yes x y w (λ v. variable_of v) (λ v. variable_of v) (λ v. ((expr_of v.0, v.1), d3)) d1 d2
        (parameter_variable c Γ z cs) (parameter_variable c Γ a) (parameter_index c Γ i)
        (λ p q r. still (unpacked_to (places_of a z i) p.0 q.0 (line_in c.text (first_of_parameter i)) r.0) r.1) v u
        j hx hy hw q
