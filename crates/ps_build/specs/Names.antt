-- What the names of a text denote, in terms of its tree, for the texts that are built and for those that break a rule
-- (6.2.2).
use Rattle.std.specs.Prelude.{ℕ, List}
use Rattle.ps_scan.specs.declared.token.Token.{Token}
use Rattle.ps_syntax.specs.declared.program.Program.{Program}
use Rattle.ps_tree.specs.Tree as Tree
use Rattle.ps_check_judgement.specs.declared.refusal.Rule.{Rule}
use Rattle.ps_check_laws.specs.Read.{BlocksAreReadThere}
use Rattle.ps_check_laws.specs.Rule.{ProgramIsRead}
use Rattle.ps_check_laws.specs.Forward.{BlocksAreCompleted}
use Rattle.ps_build.specs.declared.refusal.Place.{Place}
use Rattle.ps_build.specs.declared.refusal.Refusal.TheVariants.{Check}
use Rattle.ps_build.specs.Accepts.{IsParsed, IsRefused}
use Rattle.ps_build.specs.Headline.{Compiles}

-- The text has a tree that is read as the checked program: each block is read in the regions of the blocks that enclose
-- it, where each use of a name denotes its point. Forward headings have their blocks.
pub record NamesAreMeant (text : List ℕ) (checked : Tree.Program) : Type 0 where
  pub tokens : List Token
  pub tree : Program
  pub parsed : IsParsed text tokens tree
  pub is_read : ProgramIsRead text tree checked
  pub read : BlocksAreReadThere text tree checked
  pub completed : BlocksAreCompleted text tree

-- the text has a tree, and no tree of it is read as a program
pub record NamesAreNotMeant (text : List ℕ) : Type 0 where
  pub tokens : List Token
  pub tree : Program
  pub parsed : IsParsed text tokens tree
  pub unread : (others : List Token) (other : Program) (made : Tree.Program) → IsParsed text others other
      → ProgramIsRead text other made → ⊥

-- for the checked program from which an image is built
abbrev pub NamesOfBuiltTexts : Type 0
NamesOfBuiltTexts = (text bytes : List ℕ) (compiles : Compiles text bytes) → NamesAreMeant text compiles.checked

-- for a text that breaks a rule or a limit of the check (refusals 22 and 30 to 45)
abbrev pub NamesOfRefusedTexts : Type 0
NamesOfRefusedTexts = (text : List ℕ) (rule : Rule) (place : Place) → IsRefused text (Check rule place)
    → NamesAreNotMeant text
