-- What the reading of all tokens shows.
use Rattle.std.proofs.Common.{◌≡◌, ◌≢◌, ℕ, List, [], ◌∷◌, length, Ok, Err, refl, sym, ap, ◌∙◌, arith}
use Rattle.ps_syntax.specs.declared.program.Program.{Program}
use Rattle.ps_parse_grammar.specs.Symbols.{Tokens}
use Rattle.ps_parse_grammar.specs.Forward.{is_forward}
use Rattle.ps_parse_grammar.specs.Trees.{IsTreeOf}
use Rattle.ps_parse.specs.Steps.{Outcome}
use Rattle.ps_parse.specs.ReadPrograms.{program, read_block}
use Rattle.ps_parse.proofs.Exact.{first_part, second_part}
use Rattle.ps_parse.proofs.ExactPrograms.{reads_derived, derived_is_read}

nothing_left : (ts : Tokens) → length ts ≡ 0 → ts ≡ []
nothing_left [] e = refl
nothing_left (t ∷ ts) e = absurd (omega arith)

module _ (text : List ℕ) (ts : Tokens) where
  pub derives : (y : Program) (r : Tokens) → program (is_forward text) (read_block (is_forward text) 500) ts ≡ Ok (y, r)
      → length r ≡ 0 → IsTreeOf text ts y
  derives y r e l = record {
    derives = reads_derived (is_forward text) 500 ts y (e ∙ ap (λ (q : Tokens). Ok (y, q)) (nothing_left r l));
  }

  pub only : (y : Program) (r : Tokens) → program (is_forward text) (read_block (is_forward text) 500) ts ≡ Ok (y, r)
      → (q : Program) → IsTreeOf text ts q → q ≡ y
  only y r e q t = sym (first_part y q r [] (sym e ∙ derived_is_read (is_forward text) 500 ts q t.derives))

  pub left_over : (y : Program) (r : Tokens) → program (is_forward text) (read_block (is_forward text) 500) ts ≡ Ok
      (y, r) → length r ≢ 0 → (q : Program) → IsTreeOf text ts q → ⊥
  left_over y r e l q t = l (ap length (second_part y q r []
      (sym e ∙ derived_is_read (is_forward text) 500 ts q t.derives)))

  pub never : (left : ℕ) → program (is_forward text) (read_block (is_forward text) 500) ts ≡ Err left → (q : Program)
      → IsTreeOf text ts q → ⊥
  never left e q t = (let h : ◌≡◌ {A = Outcome Program} (Err left) (Ok (q, [])) = sym e ∙ derived_is_read
      (is_forward text) 500 ts q t.derives in cc)
