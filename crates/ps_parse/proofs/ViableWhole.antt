-- The tokens before the one that the reading of all tokens refuses begin a program.
use Rattle.std.proofs.Common.{◌≡◌, ℕ, suc, ◌-◌, List, [], ◌++◌, length, take, Ok, Err, sym, ap, ◌∙◌, subst, arith}
use Rattle.std.proofs.Common.{append-nil, length-append, refl}
use Rattle.std.proofs.lemmas.List.{take_at}
use Rattle.ps_syntax.specs.declared.program.Program.{Program}
use Rattle.ps_parse_grammar.specs.Symbols.{Tokens, Symbol}
use Rattle.ps_parse_grammar.specs.Programs.{IsProgram, block_within}
use Rattle.ps_parse_grammar.specs.Forward.{is_forward}
use Rattle.ps_parse.specs.Steps.{Outcome}
use Rattle.ps_parse.specs.Reading.{reading}
use Rattle.ps_parse.specs.Begun.{Begins, BeginsUntil}
use Rattle.ps_parse.proofs.Viable.{Well, Took, Begun}
use Rattle.ps_parse.proofs.ViablePrograms.{program_viable}

module _ (text : List ℕ) (n : ℕ) where
  abbrev Wide : Symbol Program
  Wide = IsProgram (is_forward text) (block_within (is_forward text) (suc (suc n)))

  until : (ts c r : Tokens) (left : ℕ) → ts ≡ c ++ r → length r ≡ left → Begins text c → BeginsUntil text ts
      (length ts - left)
  until ts c r left e l b =
      let at : length c ≡ length ts - left = omega (arith, ap length e, length-append c r) in
      subst (λ (z : Tokens). Begins text z) (sym (ap (take (length ts - left)) e ∙ take_at c r (length ts - left) at)) b

  -- all that was taken and what is missing
  whole : (c : Tokens) (p : Program) → Wide p (c ++ []) [] → Wide p c []
  whole c p d = subst (λ (z : Tokens). Wide p z []) (append-nil c) d

  pub refused_begins : (ts : Tokens) (left : ℕ) → reading text n ts ≡ Err left → BeginsUntil text ts (length ts - left)
  refused_begins ts left e =
      let w : Begun Wide ts left = subst (λ (o : Outcome Program). Well Wide ts o) e
      ((program_viable (is_forward text) n).well ts) in
      until ts w.taken w.left left w.split w.count
      (w.missing, w.tree, (suc (suc n), whole (w.taken ++ w.missing) w.tree (w.derives [])))

  pub left_begins : (ts : Tokens) (p : Program) (r : Tokens) → reading text n ts ≡ Ok (p, r) → BeginsUntil text ts
      (length ts - length r)
  left_begins ts p r e =
      let w : Took Wide ts p r = subst (λ (o : Outcome Program). Well Wide ts o) e
      ((program_viable (is_forward text) n).well ts) in
      until ts w.taken r (length r) w.split refl ([], p, (suc (suc n), w.derives []))
