-- Where code is made.
use Rattle.std.specs.Prelude.{ℕ, suc, List, [], ◌∷◌, ◌++◌, length, map, reverse, Bool, false, Option, Some, None}
use Rattle.ps_tree.specs.Checked.{program_in}
use Rattle.ps_tree.specs.Tree.{Expr, Statement}
use Rattle.tac_code.specs.declared.code.Instruction.{Instruction}
use Rattle.tac_code.specs.declared.code.Instruction.TheVariants.{Branch}
use Rattle.ps_lower_layout.specs.Frames.{Kind}
use Rattle.ps_lower_code.specs.Scopes.{Scope, Site as CodeSite}
use Rattle.ps_lower_code.specs.Values.{front_code, opposite, relation_in, left_in, right_in}
use Rattle.ps_lower_code.specs.Statements.{statement_code}
use Rattle.ps_lower.specs.Tables.{is_reference}
use Rattle.ps_lower.specs.declared.level.Level.{Level}
use Rattle.ps_lower.specs.declared.level.Records.{Records, Outside, Inside'}
use Rattle.ps_lower.specs.declared.site.Site.{Site}

abbrev pub site_of : Site → CodeSite
site_of s = record { base = s.base; offset = s.offset }

-- the open records, after one more `with` opened these, the last of which is the innermost
abbrev pub opened_within : List CodeSite → List Site → List CodeSite
opened_within opened sites = reverse (map site_of sites) ++ opened

-- the records that are open, innermost first
abbrev pub opened_of : Records → List CodeSite
opened_of Outside = []
opened_of (Inside' sites p outer) = opened_within (opened_of outer) sites.now

abbrev pub scope_of : Level → Scope
scope_of k = record {
  program = program_in k.checked.now;
  chain = k.chain.now;
  opened = opened_of k.opened;
}

-- the same with these records open
abbrev pub where_open : Scope → List CodeSite → Scope
where_open k opened = record { program = k.program; chain = k.chain; opened = opened }

-- after one more `with` opened these
abbrev pub within : Scope → List Site → Scope
within k sites = where_open k (opened_within k.opened sites)

abbrev pub is_reference_at : Option Kind → Bool
is_reference_at None = false
is_reference_at (Some kind) = is_reference kind

-- a condition, and the first of two statements, with the jump past the second, which is still to come
abbrev pub then_code : Scope → Expr → Statement → (d : ℕ) → List Instruction
then_code k e s d = front_code k e d 0 ++ Branch (opposite (relation_in e)) (left_in e d) (right_in e d)
    (suc (length (statement_code k s d))) ∷ statement_code k s d
