-- A selector by itself: its code, and the site that it leads to.
use Rattle.std.specs.Prelude.{ℕ, suc, ◌+◌, List, [], ◌∷◌}
use Rattle.ps_tree.specs.Tree.{Selector, Element, Field, Target, no_selector, selector_before}
use Rattle.tac_code.specs.declared.code.Base.TheVariants as base
use Rattle.tac_code.specs.declared.code.Instruction.{Instruction}
use Rattle.tac_code.specs.declared.code.Instruction.TheVariants as i
use Rattle.ps_lower_code.specs.Scopes.{Scope, Site, even_from}
use Rattle.ps_lower_code.specs.Values.{literal_of, known_steps, index_code, selectors_site}
use Rattle.ps_lower_code.specs.Statements.{expr_code}

abbrev pub selector_code : Scope → Selector → Site → (t x : ℕ) → List Instruction
selector_code k (Element type e line) s t x = index_code (known_steps type (literal_of e)) type s t
    (even_from (suc t)) line (expr_code k e (even_from (suc t)) x)
selector_code k (Field type number) s t x = []
selector_code k (Target pointer line) s t x = i.Load t s.base s.offset ∷ i.CheckPointer t 6 line ∷ []

abbrev pub selector_site : Selector → Site → (t : ℕ) → Site
selector_site selector s t = selectors_site (selector_before selector no_selector) s t

-- the site n bytes further on, and the beginning of what an address in a temporary means
abbrev pub site_behind : Site → ℕ → Site
site_behind s n = record { base = s.base; offset = s.offset + n }

abbrev pub site_at : (t : ℕ) → Site
site_at t = record { base = base.Temporary t; offset = 0 }
