-- No derivation takes the token that the reading of all tokens refuses.
use Rattle.std.proofs.Common.{◌≡◌, ◌≢◌, ℕ, ◌-◌, List, [], ◌∷◌, ◌++◌, length, take, drop, Ok, Err, refl, sym, ap, ◌∙◌}
use Rattle.std.proofs.Common.{subst, arith, append-nil, length-append, length-drop}
use Rattle.std.proofs.lemmas.List.{take-append-drop}
use Rattle.ps_syntax.specs.declared.program.Program.{Program}
use Rattle.ps_parse_grammar.specs.Symbols.{Tokens}
use Rattle.ps_parse_grammar.specs.Forward.{is_forward}
use Rattle.ps_parse_grammar.specs.Trees.{IsTreeOf}
use Rattle.ps_parse.specs.Steps.{Outcome, Parser, first}
use Rattle.ps_parse.specs.ReadPrograms.{program, read_block}
use Rattle.ps_parse.specs.Untaken.{NoneTakes, NoneTakesAt}
use Rattle.ps_parse.proofs.Exact.{second_part}
use Rattle.ps_parse.proofs.ExactPrograms.{derived_is_read}
use Rattle.ps_parse.proofs.Local.{Local, none_left}
use Rattle.ps_parse.proofs.LocalLists.{same_parts}
use Rattle.ps_parse.proofs.LocalPrograms.{local_block, local_program}

module _ (text : List ℕ) where
  abbrev reading : Parser Program
  reading = program (is_forward text) (read_block (is_forward text) 500)

  looks : Local reading
  looks = local_program (is_forward text) (read_block (is_forward text) 500) (local_block (is_forward text) 500)

  read_whole : (ts : Tokens) (p : Program) → IsTreeOf text ts p → reading ts ≡ Ok (p, [])
  read_whole ts p t = derived_is_read (is_forward text) 500 ts p t.derives

  no_tree : (c r : Tokens) → ((r' : Tokens) → first r' ≡ first r → (p : Program) → reading (c ++ r') ≡ Ok (p, []) → ⊥)
      → NoneTakes text c r
  no_tree c [] never = λ p t. never [] refl p (ap reading (append-nil c) ∙ read_whole c p t)
  no_tree c (t ∷ r) never = λ behind p d. never (t ∷ behind) refl p (read_whole (c ++ t ∷ behind) p d)

  at_place : (ts c r : Tokens) (left : ℕ) → ts ≡ c ++ r → length r ≡ left → NoneTakes text c r → NoneTakesAt text ts
      (length ts - left)
  at_place ts c r left e l never =
      let at : length (drop (length ts - left) ts) ≡ length r = omega
      (arith, length-drop (length ts - left) ts, ap length e, length-append c r) in
      let parts = same_parts (take (length ts - left) ts) (drop (length ts - left) ts) c r
      (take-append-drop (length ts - left) ts ∙ e) at in
      subst (λ z. NoneTakes text z (drop (length ts - left) ts)) (sym parts.0)
      (subst (λ z. NoneTakes text c z) (sym parts.1) never)

  pub refused_untaken : (ts : Tokens) (left : ℕ) → reading ts ≡ Err left → NoneTakesAt text ts (length ts - left)
  refused_untaken ts left e =
      let one = looks.refuses ts left e in
      at_place ts one.0 one.1 left one.2 one.3
      (no_tree one.0 one.1 (λ r' same p d. let h : ◌≡◌ {A = Outcome Program} (Err (length r')) (Ok (p, [])) = sym
      (one.4 r' same) ∙ d in cc))

  pub left_untaken : (ts : Tokens) (p : Program) (r : Tokens) → reading ts ≡ Ok (p, r) → length r ≢ 0
      → NoneTakesAt text ts (length ts - length r)
  left_untaken ts p r e some =
      let one = looks.reads ts p r e in
      at_place ts one.0 r (length r) one.1 refl
      (no_tree one.0 r (λ r' same q d. some (ap length
      (none_left r (sym same ∙ ap first (second_part p q r' [] (sym (one.2 r' same) ∙ d)))))))
