-- The control variables of `for` statements (6.8.3.9), and what the routines of a block change.
use Rattle.std.specs.Prelude.{◌≡◌, ℕ, ◌+◌, false, List, [], ◌∷◌, ◌++◌, map, Option, Some, None}
use Rattle.ps_syntax.specs.declared.program.Block.{Block}
use Rattle.ps_syntax.specs.declared.program.Routine.{Routine}
use Rattle.ps_tree.specs.Tree as Tree
use Rattle.ps_check_judgement.specs.declared.change.Change.{Change}
use Rattle.ps_check_expressions.specs.Changed.{is_change_of}
use Rattle.ps_check.specs.Changes.{outward}
use Rattle.ps_check.specs.RegionNames.{Each}
use Rattle.ps_check.specs.Paths.{routine_block}

-- a `for` statement: its control variable, an entry of the routine itself, and the statement that it repeats
abbrev pub Loop : Type 0
Loop = ℕ × Tree.Statement

-- the `for` statements in a statement, in the order of the text
unfoldable mutual
  pub statement_loops : Tree.Statement → List Loop
  statement_loops (Tree.Compound body) = statements_loops body
  statement_loops (Tree.If e s) = statement_loops s
  statement_loops (Tree.IfElse e s t) = statement_loops s ++ statement_loops t
  statement_loops (Tree.Case e elements line) = elements_loops elements
  statement_loops (Tree.While e s) = statement_loops s
  statement_loops (Tree.Repeat body e) = statements_loops body
  statement_loops (Tree.For variable low high a from_line direction b to_line s) = (variable, s) ∷ statement_loops s
  statement_loops (Tree.With places s) = statement_loops s
  statement_loops _ = []

  pub statements_loops : Tree.Statements → List Loop
  statements_loops Tree.no_statement = []
  statements_loops (Tree.statement_before s rest) = statement_loops s ++ statements_loops rest

  pub elements_loops : Tree.Elements → List Loop
  elements_loops Tree.no_element = []
  elements_loops (Tree.element_before constants s rest) = statement_loops s ++ elements_loops rest

-- their control variables
abbrev pub statements_control : Tree.Statements → List ℕ
statements_control body = map (λ loop. loop.0) (statements_loops body)

-- none of these changes is of one of these entries of the block
abbrev pub AreUnchanged : List Change → List ℕ → Type 0
AreUnchanged changes entries = Each (λ entry. Each (λ x. is_change_of entry x ≡ false) changes) entries

-- what the block of a routine changes further out, as the enclosing block sees it
abbrev pub changes_by : List Change → Option Block → List Change
changes_by changes None = []
changes_by changes (Some b) = outward changes

-- What the routines of a block change, from routine k on, as the block sees it, in the order of the text: `changes`
-- says what the block of each changes.
unfoldable pub changes_from : (changes : ℕ → List Change) → (k : ℕ) → List Routine → List Change
changes_from changes k [] = []
changes_from changes k (r ∷ rs) = changes_by (changes k) (routine_block r) ++ changes_from changes (k + 1) rs
